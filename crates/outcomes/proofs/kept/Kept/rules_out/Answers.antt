use Rattle.std.proofs.Common.{◌≡◌, ℕ, true, ap, sym, ◌∙◌}
use Rattle.interleave.specs.Saved.{saved_state}
use Rattle.interleave.specs.Shown.{thread_at}
use Rattle.outcomes.specs.Events.{is_out}
use Rattle.outcomes.proofs.Moves.{ruled_out}
use Rattle.outcomes.proofs.kept.Kept.rules_out.Goals as goal

pub returns : goal.returns
returns c = λ same l. ruled_out (saved_state l c.args.self.now.saved) c.args.event.now
    (ap (λ (t : ℕ). is_out (thread_at c.args.self.now.saved.threads.items t).stage c.args.event.now) (sym c.thread_of-thread.ensures) ∙ sym c.is_out.ensures ∙ same)
