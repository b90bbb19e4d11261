-- A section that a call's caller made.
use Rattle.std.proofs.Common.{◌≡◌, ◌≢◌, ℕ, ◌≤◌, ◌==◌, Bool, true, false, not, Option, Some, None, [], ◌∷◌, ◌++◌, length, refl, sym, ap, ◌∙◌, subst, arith}
use Rattle.std.specs.Prelude.{◌&&◌, if◌then◌else◌}
use Rattle.lockword.specs.declared.reply.Reply.{Reply}
use Rattle.lockword.specs.declared.reply.Reply.TheVariants.{OK, EFAULT}
use Rattle.stepprograms.specs.declared.access.Answer.{Answer}
use Rattle.stepprograms.specs.declared.access.Answer.TheVariants.{Again, Woken, Count, Trimmed}
use Rattle.posixmutex.specs.declared.point.Operation.{Operation}
use Rattle.posixmutex.specs.declared.point.Operation.TheVariants as operation
use Rattle.posixmutex.specs.Objects.{held_limit}
use Rattle.posixmutex.specs.declared.point.Point.{Point}
use Rattle.stepprograms.specs.declared.program.Progress.{Progress}
use Rattle.stepprograms.specs.declared.program.Progress.TheVariants.{Goes, Returns}
use Rattle.posixmutex.specs.declared.object.Object.{Object}
use Rattle.mutex.specs.declared.row.Row.{Row}
use Rattle.mutex.specs.declared.row.Row.TheVariants.{Lock, TryLock, Unlock, Consistent, Ended}
use Rattle.mutex.specs.declared.lock.LockRow.TheVariants as lock
use Rattle.mutex.specs.declared.try_lock.TryLockRow.TheVariants as try
use Rattle.mutex.specs.declared.unlock.UnlockRow.TheVariants as unlock
use Rattle.mutex.specs.declared.consistent.ConsistentRow.TheVariants as consistent
use Rattle.mutex.specs.Laws.{Expects, changes, decided, IsOf, tells_change}
use Rattle.mutex.specs.Programs.{access_of, row_access, resume_of, row_operation, point_of, progress_of, led, moved}
use Rattle.mutex.specs.Rows.{Knows, IsGoing}
use Rattle.mutex.specs.Standings.{Standing}
use Rattle.mutex.specs.WholeLists.{OwnsAt}
use Rattle.mutex.proofs.Steps.{goes_on, returned}
use Rattle.ruledwords.specs.declared.pass.Card.{Card}
use Rattle.ruledwords.specs.Seen.{Called}
use Rattle.ruledwords.specs.Calls.{acts, ExpectsKnown, Ready, Stands, most}
use Rattle.ruledwords.specs.Turns.{IsAnswerOf}
use Rattle.ruledwords.specs.Changes.{made_by_others}
use Rattle.ruledwords.proofs.Exchanges.{plain_wake}
use Rattle.ruledwords.proofs.Standing.{reached_more, changes_more}

-- what a section's answer leaves as it is
pub record Passes (t : ℕ) (r : Row) (x : Answer) : Type 0 where
  pub same : decided (resume_of t r x).row ≡ decided r
  pub knows : Knows (resume_of t r x).row
  pub expects : (o : Object) → Expects t (resume_of t r x).row o
  pub of : (op : Operation) → IsOf op r → IsOf op (resume_of t r x).row
  pub change : tells_change x ≡ 0
  pub room : most r ≤ most (resume_of t r x).row
  pub pointless : (resume_of t r x).point ≡ None
  pub releases : (own : Bool) → OwnsAt own (resume_of t r x).row
  pub faultless : (resume_of t r x).row ≢ Ended EFAULT
  pub expects_known : (q : ℕ) (d : Card) → ExpectsKnown (resume_of t r x).row q d

-- after a wake the unlock trims, or returns
abbrev behind_wake : Bool → Row
behind_wake b = if b then Unlock unlock.Trim else Ended OK

behind_decided : (b : Bool) → decided (behind_wake b) ≡ Some OK
behind_decided true = refl
behind_decided false = refl

behind_knows : (b : Bool) → Knows (behind_wake b)
behind_knows true = tt
behind_knows false = tt

behind_expects : (t : ℕ) (b : Bool) (o : Object) → Expects t (behind_wake b) o
behind_expects t true o = tt
behind_expects t false o = tt

behind_of : (op : Operation) (b : Bool) → operation.Unlock ≡ op → IsOf op (behind_wake b)
behind_of op true is = is
behind_of op false is = tt

behind_room : (b : Bool) → held_limit ≤ most (behind_wake b)
behind_room true = omega arith
behind_room false = omega arith

behind_releases : (own b : Bool) → OwnsAt own (behind_wake b)
behind_releases own true = tt
behind_releases own false = tt

behind_faultless : (b : Bool) → behind_wake b ≢ Ended EFAULT
behind_faultless true e = cc
behind_faultless false e = cc

wake_passes : (t : ℕ) (a : Bool) (k : ℕ) → Passes t (Unlock (unlock.Wake a)) (Count k)
wake_passes t a k =
    let b : Bool = not a && (k == 0) in
    record { same = behind_decided b; knows = behind_knows b; expects = behind_expects t b; of = λ op is. behind_of op b is; change = refl; room = behind_room b; pointless = refl; releases = λ own. behind_releases own b; faultless = behind_faultless b; expects_known = λ q d. plain_wake q d b }

pub passes : (t cell : ℕ) (r : Row) (x : Answer) → IsAnswerOf (row_access t cell r) x → Passes t r x
passes t cell (Lock lock.Load) x fits = absurd fits
passes t cell (Lock (lock.Take v)) x fits = absurd fits
passes t cell (Lock (lock.SetWaiters v)) x fits = absurd fits
passes t cell (Lock (lock.Sleep v)) Again fits = record { same = refl; knows = tt; expects = λ o. tt; of = λ op e. e; change = refl; room = omega arith; pointless = refl; releases = λ own. tt; faultless = λ e. cc; expects_known = λ q d. tt }
passes t cell (Lock (lock.Sleep v)) Woken fits = record { same = refl; knows = tt; expects = λ o. tt; of = λ op e. e; change = refl; room = omega arith; pointless = refl; releases = λ own. tt; faultless = λ e. cc; expects_known = λ q d. tt }
passes t cell (Lock (lock.Sleep v)) x fits = absurd fits
passes t cell (Lock lock.WakeAll) (Count k) fits = record { same = refl; knows = tt; expects = λ o. tt; of = λ op e. tt; change = refl; room = omega arith; pointless = refl; releases = λ own. tt; faultless = λ e. cc; expects_known = λ q d. tt }
passes t cell (Lock lock.WakeAll) x fits = absurd fits
passes t cell (TryLock try.Load) x fits = absurd fits
passes t cell (TryLock (try.Take v k)) x fits = absurd fits
passes t cell (Unlock unlock.Load) x fits = absurd fits
passes t cell (Unlock (unlock.Release d)) x fits = absurd fits
passes t cell (Unlock (unlock.Wake a)) (Count k) fits = wake_passes t a k
passes t cell (Unlock (unlock.Wake a)) x fits = absurd fits
passes t cell (Unlock unlock.Trim) (Trimmed b) fits = record { same = refl; knows = tt; expects = λ o. tt; of = λ op e. tt; change = refl; room = omega arith; pointless = refl; releases = λ own. tt; faultless = λ e. cc; expects_known = λ q d. tt }
passes t cell (Unlock unlock.Trim) x fits = absurd fits
passes t cell (Consistent consistent.Load) x fits = absurd fits
passes t cell (Consistent consistent.Declare) x fits = absurd fits
passes t cell (Ended y) x fits = absurd fits

pub ready_answered : (p : Standing) (c : Card) (x : Answer) → IsAnswerOf (access_of p) x → Ready p c → Ready (moved p (led p x)) c
ready_answered p c x fits ready =
    let k = passes p.thread p.cell p.row x fits in
    (ready.0, k.knows, λ q o small there run. subst (λ (t : ℕ). Expects t (led p x).row o) ready.0 (k.expects o))

pub stands_answered : (op : Operation) (first : Row) (q : ℕ) (c : Card) (p : Standing) (d : Card) (x : Answer) → IsAnswerOf (access_of p) x → Ready p d → Stands op first q c p d → Stands op first q c (moved p (led p x)) d
stands_answered op first q c p d x fits ready s =
    let k = passes p.thread p.cell p.row x fits in
    let none = k.change in
    let had = s.misses in
    let sum = changes_more s.answers x in
    let thread = s.called.saw.thread in
    let as_many : changes (s.answers ++ x ∷ []) ≡ changes s.answers = omega arith in
    record {
      of = k.of op s.of;
      called = subst (λ (z : Option Reply). Called c q (acts op z) d) (sym k.same) s.called;
      answers = s.answers ++ x ∷ [];
      reaches = reached_more c.thread first s.answers x ∙ ap (λ (z : Row). (resume_of c.thread z x).row) s.reaches ∙ ap (λ (t : ℕ). (resume_of t p.row x).row) (sym (ready.0 ∙ thread));
      misses = omega arith;
      knows = s.knows;
      expects = k.expects_known q d;
      others = subst (λ (z : ℕ). z ≤ length (made_by_others c.thread s.knows.here.0)) (sym as_many) s.others;
    }

-- an answer after which the call goes on, and one after which it returns
pub answer_goes : (p : Standing) (x : Answer) (result : Progress) (point : Option Point) → result ≡ Goes point → result ≡ progress_of p (led p x) → IsGoing (led p x).row
answer_goes p x result point is progress = (goes_on (point_of p.thread p.cell (row_operation p.row) (led p x).point) point (led p x).row (sym progress ∙ is)).0

pub answer_returns : (p : Standing) (x : Answer) (result : Progress) (y : Reply) (point : Option Point) → result ≡ Returns y point → result ≡ progress_of p (led p x) → (led p x).row ≡ Ended y
answer_returns p x result y point is progress = (returned (point_of p.thread p.cell (row_operation p.row) (led p x).point) point (led p x).row y (sym progress ∙ is)).0
