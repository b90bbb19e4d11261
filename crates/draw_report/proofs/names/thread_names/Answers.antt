use Rattle.std.proofs.Common.{rules, ◌≡◌, ◌-◌, ap, sym, subst, ◌∙◌}
use Rattle.std.specs.Prelude.{slice_get, Some, string_bytes}
use Rattle.streams.proofs.Listed.{said_next}
use Rattle.draw_report.proofs.names.thread_names.Goals as goal

pub loop-index-preserved : goal.loop-index-preserved
loop-index-preserved c =
    let same : c.unwrap-thread.result - 1 ≡ c.loop-index.index = search rules in
    let there : slice_get c.args.script.now.threads c.loop-index.index ≡ Some c.thread_name.result.now = subst (λ k. slice_get c.args.script.now.threads k ≡ Some c.thread_name.result.now) same c.thread_name.ensures in
    said_next string_bytes c.args.script.now.threads c.loop-index.index c.loop-index.names.items c.push.new.self.items _ (there ∙ ap Some (sym c.in_ok-from_str.ensures.ok)) c.loop-index.invariant c.in_ok-push.ensures.items
