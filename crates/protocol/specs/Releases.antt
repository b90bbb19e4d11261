-- A wait gives up a consistent mutex alone (pthread_cond_wait(3p); of an inconsistent one that would make it unusable).
--
-- *What a wait releases.* Where an event tells an unlock with OK of a thread whose call, as it was recorded, is a
-- wait, that thread owned the wait's mutex directly before, and it was consistent: the law
-- `waits_release_consistent_mutexes`. Source: pthread_cond_wait(3p).
use Rattle.std.specs.Prelude.{ℕ, ◌≡◌, false, Some, List}
use Rattle.lockword.specs.declared.reply.Reply.TheVariants.{OK}
use Rattle.posixmutex.specs.declared.point.Operation.TheVariants.{Unlock}
use Rattle.memorymap.specs.Layouts.{Layout', IsLayout}
use Rattle.facts.specs.declared.fact.Begun.{Begun}
use Rattle.facts.specs.declared.fact.Fact.TheVariants.{Point}
use Rattle.facts.specs.Lives.{IsWait}
use Rattle.protocol.specs.declared.event.Event.{Event}
use Rattle.protocol.specs.Notes.{facts_of}
use Rattle.protocol.specs.Machine.{State, start, happens, run, notes}
use Rattle.protocol.specs.Headline.{seen}
use Rattle.protocol.specs.Sleepers.{IsAmong}
use Rattle.protocol.specs.PassedBy.{call_told}

-- thread t owned mutex m in state s, and that was consistent
pub record OwnsConsistent (s : State) (t m : ℕ) : Type 0 where
  pub owner : (seen s m).owner ≡ Some t
  pub consistent : (seen s m).inconsistent ≡ false

-- whatever happened, with any values of the counters at the beginning: where the next event tells that thread t
-- unlocked mutex m with OK, and its call, as it was recorded, is a wait, with a time limit or without, then that is
-- on this mutex, which t owned directly before, and which was consistent
abbrev pub WaitsReleaseConsistentMutexes : Type 0
WaitsReleaseConsistentMutexes = (l : Layout') (counters : ℕ → ℕ) (events : List Event) → IsLayout l
    → (e : Event) (t m : ℕ) (b : Begun)
    → IsAmong (Point (record { thread = t; mutex = m; operation = Unlock; reply = OK }))
    (facts_of (happens (run (start l counters) events) e).note)
    → call_told t (notes (start l counters) events) ≡ Some b → IsWait b.operation
    → (b.mutex ≡ m) × OwnsConsistent (run (start l counters) events) t m
