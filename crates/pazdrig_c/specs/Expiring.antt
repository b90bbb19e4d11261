-- Which calls may be out of time.
--
-- *Only who looks or sleeps.* A lock whose time limit comes has its look at the mutex's cell next, or its sleep on it: it
-- isn't on its way to take the mutex, and leaves no exchange and no wake out.
use Rattle.std.specs.Prelude.{ℕ, ◌≡◌, ◌⊎◌, Option, Some}
use Rattle.stepprograms.specs.declared.access.Access.TheVariants as access
use Rattle.mutex.specs.Standings.{Whole}
use Rattle.pazdrig_c.specs.Running.{access_of, expired}
use Rattle.pazdrig_c.specs.declared.running.Running.{Running}
use Rattle.pazdrig_c.specs.declared.running.Running.TheVariants.{OnMutex, OnCondition}

abbrev pub LooksOrSleeps : Running → Type 0
LooksOrSleeps (OnMutex p) =
    (access_of (OnMutex p) ≡ access.Load p.cell) ⊎ ((e : ℕ) × (access_of (OnMutex p) ≡ access.Wait p.cell e))
LooksOrSleeps (OnCondition p) = ⊥

abbrev pub OnlySleepersExpire : Type 0
OnlySleepersExpire = (r left : Running) → expired r ≡ Some left → LooksOrSleeps r
