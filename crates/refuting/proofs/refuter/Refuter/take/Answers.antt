use Rattle.std.proofs.Common.{◌≡◌, ◌≤◌, true, false, sym, ap, subst, refl, ◌∙◌, arith}
use Rattle.std.specs.Prelude.{None, slice_set}
use Rattle.std.proofs.lemmas.Bool.Decides.{nat_tests}
use Rattle.refuting.specs.Following.{Retells}
use Rattle.refuting.specs.Turns.{entry_thread, turn_after, turn_at}
use Rattle.refuting.specs.Counts.{WithinLimit, count_at}
use Rattle.refuting.proofs.Taking.{past, takes, untold}
use Rattle.refuting.proofs.refuter.Refuter.take.Goals as goal
use Rattle.lockword.specs.Threads.{most_threads}

pub returns-in_default : goal.returns-in_default
returns-in_default c =
    let at : c.from-at.result ≡ entry_thread c.args.entry.now = c.from-at.ensures ∙ c.get.ensures.value ∙ c.thread_of.ensures in
    λ n h future inside follows reply. untold n h future c.args.entry.now c.args.reply c.args.self.now follows
    (subst (λ u. turn_after (turn_at c.args.self.now.turns u) c.args.entry.now c.args.reply ≡ None) at (sym c.in_default.ensures))

pub returns-then-not-is_within : goal.returns-then-not-is_within
returns-then-not-is_within c =
    let at : c.from-at.result ≡ entry_thread c.args.entry.now = c.from-at.ensures ∙ c.get.ensures.value ∙ c.thread_of.ensures in
    let isn_t : c.is_within.result ≡ false = c.if-not-is_within.true in
    λ n h future inside follows reply. past n h future c.args.entry.now c.args.reply c.args.self.now follows
    (λ within. let so : c.is_within.result ≡ true = c.is_within.ensures.1 (subst (λ u. WithinLimit (turn_at c.args.self.now.turns u) c.args.entry.now (count_at c.args.self.now.held u)) (sym at) within) in absurd cc)

pub returns : goal.returns
returns c =
    let at : c.from-at.result ≡ entry_thread c.args.entry.now = c.from-at.ensures ∙ c.get.ensures.value ∙ c.thread_of.ensures in
    let first : 1 ≤ c.from-at.result = omega (arith, c.get.ensures.first, c.from-at.ensures) in
    let last : c.from-at.result ≤ most_threads = omega (arith, c.get.ensures.last, c.from-at.ensures) in
    takes c.args.entry.now c.args.reply c.args.self.now _ c.in-Some.after c.from-at.result c.is_empty.result at first last c.in-Some.ensures refl (ap (slice_set c.args.self.now.held c.from-at.result) c.count_after.ensures) refl
    (subst (λ ss. Retells c.args.self.now.mutex (turn_at c.args.self.now.turns c.from-at.result) c.args.entry.now ss c.in_ok-states.states.items) c.deref.ensures.value c.in_ok-states.ensures.retells)
    c.in_ok-states.ensures.closed
    (λ it. let test = c.is_empty.ensures in let e : c.is_empty.result ≡ true = it in grind (arith, nat_tests))
