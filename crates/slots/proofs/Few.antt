-- An access is eight events at most.
use Rattle.std.proofs.Common.{◌≡◌, ℕ, ◌%◌, ◌^◌, ◌≤◌, ◌==◌, Bool, true, false, List, [], ◌∷◌, ◌++◌, length, refl, arith}
use Rattle.std.specs.Prelude.{if◌then◌else◌, ◌&&◌, nat_le}
use Rattle.std.proofs.lemmas.Bool.Decides.{nat_tests}
use Rattle.lockword.specs.Cells.{fields_of}
use Rattle.memorymap.specs.Layouts.{cell_place}
use Rattle.mutex.specs.declared.call.Call.{Call}
use Rattle.mutex.specs.declared.call.Call.TheVariants as call
use Rattle.protocol.specs.declared.event.Event.{Event}
use Rattle.protocol.specs.declared.event.Event.TheVariants.{Decline, Step}
use Rattle.slots.specs.Places.{cell_of, slot_of}
use Rattle.slots.specs.Rows.{Before, Choice, Giving, How, Row, Taking}
use Rattle.slots.specs.Rows.How.{Tried, Later, Waited}
use Rattle.slots.specs.Rows.Before.{Linked, Mended, Again}
use Rattle.slots.specs.Rows.Giving.{OfUnlock, OfWait}
use Rattle.slots.specs.Shown.{Slots, shown}
use Rattle.slots.specs.Words.{is_free, shows_heir}
use Rattle.slots.specs.Seen.{again_events, begins_behind, expires, seen_events}
use Rattle.slots.specs.Table.{Made, count_begins, giving_begins, heir_begins, made, marked_events, missed, on_cell, refused_count, shows_slept}
use Rattle.stepprograms.specs.declared.access.Access.{Access}
use Rattle.slots.specs.Moments.{AccessesAreFew}
use Rattle.slots.proofs.Leading.{by_test}

abbrev IsFew : List Event → Type 0
IsFew es = nat_le (length es) 8 ≡ true

few : (n : ℕ) → nat_le n 8 ≡ true → n ≤ 8
few n e = grind (arith, nat_tests)

module _ (x : Slots) (t : ℕ) (c : Choice) where
  abbrev cell : ℕ → ℕ
  cell m = shown x (cell_place x.machine.layout (cell_of m))

  two : (b : Bool) (n o : Made) → IsFew n.events → IsFew o.events → IsFew (if b then n else o).events
  two true n o first second = first
  two false n o first second = second

  -- a look of a lock: none, one, or three; five if it begins another call
  looks : (F : List Event → Type 0) (m : ℕ) → F [] → F (Step t ∷ []) → F (expires t) → F (Step t ∷ (begins_behind t (call.TimedLock (cell_of m)) ++ Step t ∷ [])) → (h : How) (w : ℕ) → F (seen_events t m h w)
  looks F m none one three five Tried w = by_test F (fields_of w).unusable _ _ (λ e. by_test F (fields_of w).waiters _ _ (λ f. five) (λ f. one)) (λ e. by_test F ((fields_of w).owner == 0) _ _ (λ f. none) (λ f. one))
  looks F m none one three five Later w = by_test F (fields_of w).unusable _ _ (λ e. one) (λ e. by_test F ((fields_of w).owner == 0) _ _ (λ f. none) (λ f. by_test F ((fields_of w).owner == t) _ _ (λ g. one) (λ g. by_test F (fields_of w).waiters _ _ (λ h. three) (λ h. none))))
  looks F m none one three five (Waited z) w = by_test F (fields_of w).unusable _ _ (λ e. one) (λ e. by_test F ((fields_of w).owner == 0) _ _ (λ f. none) (λ f. by_test F ((fields_of w).owner == t) _ _ (λ g. one) (λ g. by_test F (fields_of w).waiters _ _ (λ h. one) (λ h. none))))

  sees : (m : ℕ) (h : How) (w : ℕ) → IsFew (seen_events t m h w)
  sees m h w = looks IsFew m refl refl refl refl h w

  sees_behind : (m : ℕ) (h : How) (w : ℕ) (o : Call) → IsFew (begins_behind t o ++ seen_events t m h w)
  sees_behind m h w o = looks (λ (es : List Event). IsFew (begins_behind t o ++ es)) m refl refl refl refl h w

  sees_again : (m : ℕ) (h : How) (v w : ℕ) → IsFew (again_events t m h v ++ seen_events t m h w)
  sees_again m Tried v w = sees_behind m Tried w (call.TryLock (cell_of m))
  sees_again m Later v w = by_test (λ (es : List Event). IsFew (es ++ seen_events t m Later w)) (fields_of v).waiters (begins_behind t (call.TimedLock (cell_of m))) [] (λ e. sees_behind m Later w (call.TimedLock (cell_of m))) (λ e. sees m Later w)
  sees_again m (Waited z) v w = sees m (Waited z) w

  misses : (a : Access) (k : Taking) (h : How) (w : ℕ) → IsFew (missed x t c a k h w).events
  misses a k Tried w = sees_behind k.mutex Later w (call.TimedLock (cell_of k.mutex))
  misses a k Later w = sees k.mutex Later w
  misses a k (Waited z) w = sees k.mutex (Waited z) w

  marks : (k : Taking) (h : How) → IsFew (marked_events x t c k h)
  marks k Tried = refl
  marks k Later = refl
  marks k (Waited z) = refl

  sleeps : (k : Taking) (h : How) (v w : ℕ) → IsFew (on_cell x t c k h v w).events
  sleeps k Tried v w = two (w % 2 ^ 32 == v % 2 ^ 32) _ _ refl refl
  sleeps k Later v w = two (w % 2 ^ 32 == v % 2 ^ 32) _ _ refl refl
  sleeps k (Waited z) v w = refl

  heirs : (k : Taking) (b : Before) → IsFew (heir_begins x t c k b)
  heirs k Linked = refl
  heirs k Mended = refl
  heirs k Again = refl

  gives : (m : ℕ) (y : Giving) → IsFew (giving_begins x t c m y)
  gives m (OfUnlock d) = refl
  gives m (OfWait k n slept timed) = refl

  refuses : (k : ℕ) (all : Bool) → IsFew (refused_count x t c k all)
  refuses k true = refl
  refuses k false = refl

  counts : (k : ℕ) (all slept : Bool) → IsFew (count_begins x t c k all slept)
  counts k all false = refl
  counts k true true = refl
  counts k false true = refl

  few_row : (r : Row) → IsFew (made x t c r).events
  few_row (Row.Looks k) = two ((fields_of (cell k.mutex)).owner == t) _ _ refl refl
  few_row (Row.Sees k) = sees k.mutex k.how (cell k.mutex)
  few_row (Row.Takes k v) = two (cell k.mutex == v) _ _ refl (sees k.mutex k.how (cell k.mutex))
  few_row (Row.SeesAgain k v) = sees_again k.mutex k.how v (cell k.mutex)
  few_row (Row.Marks k v n) = two (cell k.mutex == v) _ _ (marks k k.how) (misses _ k k.how (cell k.mutex))
  few_row (Row.SleepsOn k v) = sleeps k k.how v (cell k.mutex)
  few_row (Row.SeesToSleep k) = sees k.mutex k.how (cell k.mutex)
  few_row (Row.SlotTakes k g) = two (shown x (cell_place x.machine.layout (slot_of k.mutex)) == g) _ _ refl (two ((fields_of (shown x (cell_place x.machine.layout (slot_of k.mutex)))).owner == 0) _ _ refl refl)
  few_row (Row.HeirPends k b) = heirs k b
  few_row (Row.HeirTakes k v) = two (cell k.mutex == v) _ _ refl refl
  few_row (Row.LastLooks k) = two (fields_of (cell k.mutex)).unusable _ _ refl (two ((fields_of (cell k.mutex)).owner == 0) _ _ refl (two (fields_of (cell k.mutex)).waiters _ _ refl refl))
  few_row (Row.LastMarks k v) = two (cell k.mutex == v) _ _ refl refl
  few_row (Row.TryLooks m) = two (is_free (cell m)) _ _ refl refl
  few_row (Row.TryTakes m v) = two (cell m == v) _ _ refl (two (is_free (cell m)) _ _ refl refl)
  few_row (Row.GiveLooks m) = two ((fields_of (cell m)).owner == t) _ _ refl refl
  few_row (Row.GivePends m y) = gives m y
  few_row (Row.HandsOn m y is) = two (shows_heir (shown x (cell_place x.machine.layout (slot_of m))) && c.yes) _ _ refl refl
  few_row (Row.LooksBack m y is) = two ((fields_of (cell m)).owner == 0) _ _ refl refl
  few_row (Row.Trims m is) = by_test IsFew (cell m == is) (Step t ∷ []) (Decline t ∷ []) (λ e. refl) (λ e. refl)
  few_row (Row.MendLooks m) = two (((fields_of (cell m)).owner == t) && (fields_of (cell m)).died) _ _ refl refl
  few_row (Row.Anews m v) = two (cell m == v) _ _ refl refl
  few_row (Row.WaitLooks m k timed) = two ((fields_of (cell m)).owner == t) _ _ refl refl
  few_row (Row.WaitCounts m k timed died) = two died _ _ refl refl
  few_row (Row.CountLooks m k all) = two ((fields_of (cell m)).owner == t) _ _ refl (refuses k all)
  few_row (Row.Counts m k all n) = counts k all (shows_slept x t c n)
  few_row r = refl

pub accesses_few : AccessesAreFew
accesses_few x t c r = few (length (made x t c r).events) (few_row x t c r)
