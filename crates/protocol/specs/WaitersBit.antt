-- The WAITERS bit of mutexes' words, over runs of the machine.
--
-- *WAITERS of words.* Where a thread sleeps on a mutex, the mutex's word has WAITERS. From event to event WAITERS stays
-- in each mutex's word, or it goes from one that nobody owned and on which nobody sleeps. And where nobody sleeps on a
-- mutex that an unlock has released and is to wake one sleeper of (`IsToWakeOne`), its thread's next two steps leave
-- the word 0, if that was WAITERS alone, and else as it was (`IsTrimmed`). Of every state that events lead to: the law
-- `waiters_are_kept`. Source: Futexes Are Tricky.
use Rattle.std.specs.Prelude.{ℕ, ◌≡◌, ◌<◌, ◌≤◌, ◌==◌, ◌⊎◌, true, false, List, [], ◌∷◌, if◌then◌else◌}
use Rattle.lockword.specs.Cells.{fields_of}
use Rattle.memorymap.specs.Layouts.{Layout', IsLayout, cell_place}
use Rattle.mutex.specs.declared.call.Call.TheVariants as call
use Rattle.mutex.specs.declared.row.Row.TheVariants as row
use Rattle.mutex.specs.declared.unlock.UnlockRow.TheVariants.{Wake}
use Rattle.mutex.specs.declared.phase.Phase.TheVariants.{AtCell}
use Rattle.mutex.specs.Standings.{Whole}
use Rattle.condvar.specs.declared.op.Op.TheVariants.{OnMutex}
use Rattle.protocol.specs.declared.event.Event.{Event}
use Rattle.protocol.specs.declared.event.Event.TheVariants.{Step}
use Rattle.protocol.specs.declared.thread.Stage.TheVariants.{Calling}
use Rattle.protocol.specs.Machine.{State, start, run, sleepers}
use Rattle.protocol.specs.Sleepers.{Sleeps, IsUnowned}

-- somebody may sleep on mutex m, as its word says
abbrev pub HasWaiters : State → ℕ → Type 0
HasWaiters s m = (fields_of (s.words (cell_place s.layout m))).waiters ≡ true

-- WAITERS stays in each mutex's word; or it goes from one that nobody owned, and nobody sleeps on it
abbrev pub WaitersStay : State → State → Type 0
WaitersStay s s' =
    (m : ℕ) → m < s.layout.mutexes → HasWaiters s m → HasWaiters s' m ⊎ ((sleepers s' m ≡ []) × IsUnowned s m)

-- thread t has released mutex m in an unlock, and is to wake one that sleeps on it
abbrev pub IsToWakeOne : State → ℕ → ℕ → Type 0
IsToWakeOne s t m = (p : Whole) × ((s.threads t).stage ≡ Calling (OnMutex (call.Unlock m)) p)
    × (p.phase ≡ AtCell (row.Unlock (Wake false)))

-- where nobody sleeps on the mutex, the thread's next two steps leave its word 0, if that was WAITERS alone, and else
-- leave it as it was
abbrev pub IsTrimmed : State → ℕ → ℕ → Type 0
IsTrimmed s t m = (run s (Step t ∷ Step t ∷ [])).words (cell_place s.layout m)
    ≡ (if s.words (cell_place s.layout m) == 0x8000_0000 then 0 else s.words (cell_place s.layout m))

-- WAITERS in the word of a mutex says that somebody sleeps there; at each event WAITERS stays so; and an unlock that finds nobody
-- to wake takes it away
pub record WaitersAreTold (s : State) : Type 0 where
  pub told : (m t : ℕ) → m < s.layout.mutexes → Sleeps s t m → HasWaiters s m
  pub stay : (e : Event) → WaitersStay s (run s (e ∷ []))
  pub trimmed : (t m : ℕ) → 1 ≤ t → t ≤ s.layout.threads → IsToWakeOne s t m → sleepers s m ≡ [] → IsTrimmed s t m

-- whatever happened before, with any values of the counters at the beginning
abbrev pub WaitersAreKept : Type 0
WaitersAreKept =
    (l : Layout') (counters : ℕ → ℕ) (events : List Event) → IsLayout l → WaitersAreTold (run (start l counters) events)
