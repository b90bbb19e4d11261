-- What every whole call keeps, whatever it is answered.
--
-- *A right whole call.* Whatever it is answered, its point is made at the cell, with a reply that the object permits
-- for the cell met there; it goes to release the mutex only once it loaded a cell for which that is permitted; X_RACED
-- only after four changed cells.
use Rattle.std.specs.Prelude.{ℕ, ◌≡◌, ◌≢◌, ◌≤◌, ◌↔◌, ◌⊎◌, Bool, false, Option, Some, None, List, [], ◌∷◌}
use Rattle.lockword.specs.Cells.{Fields, fields_of}
use Rattle.lockword.specs.declared.reply.Reply.{Reply}
use Rattle.lockword.specs.declared.reply.Reply.TheVariants.{OK, XRACED}
use Rattle.lockword.specs.Threads.{most_threads}
use Rattle.stepprograms.specs.declared.access.Access.TheVariants as access
use Rattle.stepprograms.specs.declared.access.Answer.{Answer}
use Rattle.stepprograms.specs.declared.access.Answer.TheVariants.{Count}
use Rattle.posixmutex.specs.declared.point.Operation.TheVariants as operation
use Rattle.stepprograms.specs.Accesses.{word_among, answer_among}
use Rattle.memorymap.specs.Layouts.{Layout'}
use Rattle.posixmutex.specs.Objects.{object_of}
use Rattle.mutex.specs.declared.call.Call.{Call}
use Rattle.mutex.specs.declared.row.Row.{Row}
use Rattle.mutex.specs.declared.row.Row.TheVariants as row
use Rattle.mutex.specs.declared.unlock.UnlockRow.TheVariants.{Release, Wake}
use Rattle.mutex.specs.declared.phase.Phase.{Phase}
use Rattle.mutex.specs.declared.phase.Phase.TheVariants.{Announcing, AtCell, Unlinking, Ended}
use Rattle.mutex.specs.Rows.{Knows, IsGoing}
use Rattle.mutex.specs.Standings.{Whole}
use Rattle.mutex.specs.Programs.{row_operation}
use Rattle.mutex.specs.Whole.{begins, whole_access, whole_led, whole_moved}
use Rattle.mutex.specs.Laws.{Sound, Expects, met, changes, IsPermitted, PermitsAt}
use Rattle.mutex.specs.Wakes.{Wakes}

-- a call whose row is of its operation; only an unlock takes its entry out of the list
abbrev pub IsAt : Whole → Phase → Type 0
IsAt p (Announcing r) = Knows r × (row_operation r ≡ p.operation)
IsAt p (AtCell r) = Knows r × (row_operation r ≡ p.operation)
IsAt p (Unlinking u d) = p.operation ≡ operation.Unlock
IsAt p f = Unit {0}

abbrev pub IsWhole : Whole → Type 0
IsWhole p = (1 ≤ p.thread) × IsAt p p.phase

-- where some answers lead it, whatever they are
abbrev pub whole_reached : Whole → List Answer → Whole
whole_reached p [] = p
whole_reached p (a ∷ answers) = whole_reached (whole_moved p (whole_led p a)) answers

-- it is on its way to release the mutex, in which OWNER_DIED is as noted
abbrev pub about_to_release : Phase → Option Bool
about_to_release (Announcing (row.Unlock (Release d))) = Some d
about_to_release (Unlinking u d) = Some d
about_to_release (AtCell (row.Unlock (Release d))) = Some d
about_to_release f = None

-- a whole unlock that was to wake one thread and woke nobody goes on to its trim
abbrev pub WholeUnlocksTrim : Type 0
WholeUnlocksTrim = (p : Whole) → p.phase ≡ AtCell (row.Unlock (Wake false))
    → whole_access (whole_moved p (whole_led p (Count 0))) ≡ access.Trim p.cell

-- after this answer its next access is a wake of n sleepers of the word at this address
abbrev pub WakesNext : Whole → Answer → ℕ → ℕ → Type 0
WakesNext p a at n = whole_access (whole_moved p (whole_led p a)) ≡ access.Wake at n

-- it is at its mutex's cell
abbrev pub IsAtCell : Phase → Type 0
IsAtCell (AtCell r) = Unit {0}
IsAtCell f = ⊥

-- how many sleepers a whole call wakes, and where: as `Wakes` says of its rows
pub record WholeCallsWake : Type 0 where
  -- after an access at its mutex's cell, whatever word that meets and whoever sleeps there, the next one is a wake
  -- exactly where its point asks for one, of this many, and of those on the mutex's cell
  pub at_the_cell : (p : Whole) (r : Row) (w at n : ℕ) (queue : List ℕ) → IsWhole p → p.thread ≤ most_threads
      → p.phase ≡ AtCell r
      → IsGoing r → Sound (object_of (fields_of w)) → Expects p.thread r (object_of (fields_of w))
      → WakesNext p (answer_among (whole_access p) w queue) at n
      ↔
      ((at ≡ p.cell)
      × Wakes p.operation (whole_led p (answer_among (whole_access p) w queue)).point (fields_of w).waiters
      (object_of (fields_of (word_among (whole_access p) w queue))) n)
  -- a call doesn't begin by a wake, and whatever it is answered, none follows an access of its thread's list
  pub first : (l : Layout') (t : ℕ) (c : Call) (at n : ℕ) → whole_access (begins l t c) ≢ access.Wake at n
  pub at_the_list : (l : Layout') (t : ℕ) (c : Call) (answers : List Answer) (a : Answer) (at n : ℕ)
      → ¬ IsAtCell (whole_reached (begins l t c) answers).phase
      → ¬ WakesNext (whole_reached (begins l t c) answers) a at n

-- whatever a call is answered
pub record WholeCallsAreRight : Type 0 where
  pub begins_so : (l : Layout') (t : ℕ) (c : Call) → 1 ≤ t → IsWhole (begins l t c)
  pub keeps : (p : Whole) (a : Answer) → IsWhole p → IsWhole (whole_moved p (whole_led p a))
  -- its point is made at the cell, and has a reply that the object permits for the cell met there
  pub points : (p : Whole) (a : Answer) (x : Reply) → IsWhole p → (whole_led p a).point ≡ Some x
      → (r : Row) × (p.phase ≡ AtCell r) × PermitsAt (met r a) p.thread p.operation x
  -- it goes to release the mutex only once it loaded a cell for which that is permitted
  pub releases : (p : Whole) (a : Answer) (d : Bool) → IsWhole p → about_to_release (whole_led p a).phase ≡ Some d →
      (about_to_release p.phase ≡ Some d)
      ⊎ (r : Row) × (c : Fields) × (p.phase ≡ AtCell r) × (met r a ≡ Some c)
      × IsPermitted c p.thread operation.Unlock OK × (c.died ≡ d)
  -- a trylock gives up only after four exchanges that each found a changed cell
  pub raced : (l : Layout') (t : ℕ) (c : Call) (answers : List Answer) → 1 ≤ t
      → (whole_reached (begins l t c) answers).phase ≡ Ended XRACED → 4 ≤ changes answers
