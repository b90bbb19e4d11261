use Rattle.std.proofs.Common.{◌≡◌, ℕ, true, false, refl, subst}
use Rattle.std.specs.Prelude.{MatchBool}
use Rattle.protocol.specs.Machine.{is_asleep, stands_in}
use Rattle.interleave.specs.Shown.{Shown, state_of}
use Rattle.interleave.proofs.Reaches.{sleeps_in_call}
use Rattle.interleave.proofs.Sleeping.{told_asleep, told_standing}
use Rattle.interleave.proofs.machine.Machine.asleep.Goals as goal

pub returns-clause-value : goal.returns-clause-value
returns-clause-value c =
    let m : Shown = record { layout = c.self.inside.layout; words = c.self.inside.memory; kernel = c.self.inside.kernel; threads = c.self.inside.threads.items; fresh = c.self.inside.fresh } in
    subst (λ (v : Shown). c.asleep.result ≡ is_asleep (state_of v) c.args.thread) c.self.view_is
    (told_asleep (state_of m) m.kernel c.args.thread (λ key. refl) (sleeps_in_call m c.self.invariant c.args.thread) c.asleep.result c.asleep.ensures.value)

pub returns-clause-stands : goal.returns-clause-stands
returns-clause-stands c =
    let m : Shown = record { layout = c.self.inside.layout; words = c.self.inside.memory; kernel = c.self.inside.kernel; threads = c.self.inside.threads.items; fresh = c.self.inside.fresh } in
    subst (λ (v : Shown). MatchBool c.asleep.result ((key : ℕ) × (stands_in c.args.thread ((state_of v).queues key) ≡ true)) ((key : ℕ) → stands_in c.args.thread ((state_of v).queues key) ≡ false)) c.self.view_is
    (told_standing (state_of m) m.kernel c.args.thread (λ key. refl) c.asleep.result c.asleep.ensures.value)
