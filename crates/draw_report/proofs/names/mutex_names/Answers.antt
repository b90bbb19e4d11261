use Rattle.std.proofs.Common.{ap, sym, ◌∙◌}
use Rattle.std.specs.Prelude.{Some, string_bytes}
use Rattle.streams.proofs.Listed.{said_next}
use Rattle.draw_report.proofs.names.mutex_names.Goals as goal

pub loop-mutex-preserved : goal.loop-mutex-preserved
loop-mutex-preserved c = said_next string_bytes c.args.script.now.mutexes c.loop-mutex.mutex c.loop-mutex.names.items c.push.new.self.items _ (c.mutex_name.ensures ∙ ap Some (sym c.in_ok-from_str.ensures.ok)) c.loop-mutex.invariant c.in_ok-push.ensures.items
