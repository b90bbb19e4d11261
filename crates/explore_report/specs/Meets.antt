-- What an outcome has, by a pattern: in words, of an outcome as runs have it.
use Rattle.std.specs.Prelude.{ℕ, ◌≡◌, ◌-◌, ◌⊎◌, Bool, true, false, Option, Some, slice_get}
use Rattle.lockword.specs.declared.reply.Reply.{Reply}
use Rattle.posixmutex.specs.Objects.{fresh}
use Rattle.posixmutex.specs.declared.object.Object.{Object}
use Rattle.outcomes.specs.Outcomes.{Ended', Outcome'}
use Rattle.outcomes.specs.declared.outcome.End.{End}
use Rattle.outcomes.specs.declared.outcome.End.TheVariants as end
use Rattle.explore_report.specs.declared.patterns.Pattern.{Pattern}
use Rattle.explore_report.specs.declared.patterns.Pattern.TheVariants.{Got, Dead, Asleep, Waiting, SomeAsleep, Left}
use Rattle.explore_report.specs.declared.patterns.State.{State}
use Rattle.explore_report.specs.declared.patterns.State.TheVariants.{Free, Owned, Inconsistent, Unusable}

-- a thread that ended so sleeps, on a mutex or on a condition variable
abbrev pub Sleeps : End → Type 0
Sleeps e = ((m : ℕ) × (e ≡ end.OnMutex m)) ⊎ ((k : ℕ) × (e ≡ end.OnCondition k))

-- the reply was one of those that it got
abbrev pub HasGot : Ended' → Reply → Type 0
HasGot e x = (i : ℕ) × (slice_get e.replies i ≡ Some x)

-- a mutex is left so
abbrev pub IsLeft : Object → State → Type 0
IsLeft o Free = o ≡ fresh
IsLeft o Owned = (t : ℕ) × (o.owner ≡ Some t)
IsLeft o Inconsistent = o.inconsistent ≡ true
IsLeft o Unusable = o.unusable ≡ true

-- this became of thread t. Ids begin at 1
abbrev pub IsThread : Outcome' → ℕ → Ended' → Type 0
IsThread o t e = slice_get o.threads (t - 1) ≡ Some e

abbrev pub Meets : Outcome' → Pattern → Type 0
Meets o (Got t x) = (e : Ended') × IsThread o t e × HasGot e x
Meets o (Dead t) = (e : Ended') × IsThread o t e × (e.end ≡ end.Dead)
Meets o (Asleep t) = (e : Ended') × IsThread o t e × Sleeps e.end
Meets o (Waiting t) = (e : Ended') × IsThread o t e × (e.end ≡ end.Waiting)
Meets o SomeAsleep = (i : ℕ) × (e : Ended') × (slice_get o.threads i ≡ Some e) × Sleeps e.end
Meets o (Left m state) = (x : Object) × (slice_get o.mutexes m ≡ Some x) × IsLeft x state

-- what is asked holds of an outcome: it meets the pattern, if each has to; or it doesn't, if none may
abbrev pub Holds : Bool → Pattern → Outcome' → Type 0
Holds true p o = Meets o p
Holds false p o = Meets o p → ⊥

-- or it is broken by it
abbrev pub Breaks : Bool → Pattern → Outcome' → Type 0
Breaks true p o = Meets o p → ⊥
Breaks false p o = Meets o p
