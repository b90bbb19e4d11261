use Rattle.std.proofs.Common.{ap, sym, ◌∙◌}
use Rattle.std.specs.Prelude.{Some, string_bytes}
use Rattle.streams.proofs.Listed.{named_at, said_next}
use Rattle.draw_report.proofs.names.condition_names.Goals as goal

pub loop-condition-preserved : goal.loop-condition-preserved
loop-condition-preserved c = said_next string_bytes _ c.loop-condition.condition c.loop-condition.names.items c.push.new.self.items _ (named_at (λ x. x.0) c.args.script.now.conditions c.loop-condition.condition _ c.condition_name.ensures ∙ ap Some (sym c.in_ok-from_str.ensures.ok)) c.loop-condition.invariant c.in_ok-push.ensures.items
