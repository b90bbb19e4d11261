-- What others do leaves a thread's own: the slot and the cell that it owns, and those that it doesn't own.
use Rattle.std.proofs.Common.{◌≡◌, ◌≢◌, ℕ, ◌<◌, ◌≤◌, Bool, true, false, Some, List, [], ◌∷◌, refl, sym, ap, ◌∙◌, subst}
use Rattle.posixmutex.specs.declared.object.Object.{Object}
use Rattle.posixmutex.proofs.Owners.{owner_of-is, owner_of-some}
use Rattle.posixmutex.specs.Objects.{owner_of}
use Rattle.memorymap.specs.Layouts.{Layout'}
use Rattle.protocol.specs.declared.event.Event.{Event}
use Rattle.protocol.specs.Explained.{caller}
use Rattle.protocol.specs.Headline.{seen}
use Rattle.protocol.specs.Machine.{State, happens, run}
use Rattle.protocol.proofs.Steps.{seen-inside}
use Rattle.storebuffers.proofs.Staying.{owner_stays}
use Rattle.slots.specs.Heirs.{AreOf}
use Rattle.slots.specs.Places.{cell_of, slot_of}
use Rattle.slots.specs.Rows.{Giving, Onward, Row, Taking}
use Rattle.slots.specs.Rows.Onward.{Has, Fails, Sleeps}
use Rattle.slots.specs.Rows.Giving.{OfUnlock, OfWait}
use Rattle.slots.specs.Shown.{Slots}
use Rattle.slots.specs.Invariant.{fields_at}
use Rattle.slots.specs.Laws.{IsReached}
use Rattle.slots.specs.Fits.{Fits, GivesOurs, IsOurs}
use Rattle.protocol.specs.declared.thread.Stage.{Stage}
use Rattle.slots.specs.Premises.{Holds, Owning, OwnsNot, SleepsWithout, died_of}
use Rattle.slots.proofs.Free.{reached_kept, reached_next}
use Rattle.slots.proofs.Owned.{others_leave_owned, our_cell, our_slot}

pub owned_seen : (s : State) (k u : ℕ) → k < s.layout.mutexes → 1 ≤ u → (fields_at s k).owner ≡ u → (seen s k).owner ≡ Some u
owned_seen s k u inside first own = ap (λ (o : Object). o.owner) (seen-inside s k inside) ∙ ap owner_of own ∙ owner_of-some u first

pub seen_owned : (s : State) (k u : ℕ) → k < s.layout.mutexes → (seen s k).owner ≡ Some u → (fields_at s k).owner ≡ u
seen_owned s k u inside own = owner_of-is (fields_at s k).owner u (sym (ap (λ (o : Object). o.owner) (seen-inside s k inside)) ∙ own)

-- a mutex that thread u owns stays as it is, and another doesn't become its own
pub record LeavesIt (s s' : State) (u : ℕ) : Type 0 where
  pub same : (k : ℕ) → (seen s k).owner ≡ Some u → seen s' k ≡ seen s k
  pub none : (k : ℕ) → (seen s' k).owner ≡ Some u → (seen s k).owner ≡ Some u

event_leaves : (s : State) (e : Event) (u : ℕ) → IsReached s → caller e ≢ u → LeavesIt s (happens s e).state u
event_leaves s e u r other = record {
  same = λ k own. one k (owner_stays s e (reached_kept s r) u k other own);
  none = λ k own. sym (ap (λ (o : Object). o.owner) (one k own)) ∙ own;
}
  where
    one : (k : ℕ) → (seen (happens s e).state k).owner ≡ Some u → seen (happens s e).state k ≡ seen s k
    one k own = others_leave_owned s e k u r other own

both_leave : (s z w : State) (u : ℕ) → LeavesIt s z u → LeavesIt z w u → LeavesIt s w u
both_leave s z w u a b = record {
  same = λ k own. b.same k (ap (λ (o : Object). o.owner) (a.same k own) ∙ own) ∙ a.same k own;
  none = λ k own. a.none k (b.none k own);
}

pub run_leaves : (s : State) (es : List Event) (t u : ℕ) → IsReached s → AreOf t es → t ≢ u → LeavesIt s (run s es) u
run_leaves s [] t u r of apart = record { same = λ k own. refl; none = λ k own. own }
run_leaves s (e ∷ es) t u r (mine, of) apart = both_leave s (happens s e).state (run (happens s e).state es) u (event_leaves s e u r (λ is. apart (sym mine ∙ is))) (run_leaves (happens s e).state es t u (reached_next s e r) of apart)

module _ (x y : Slots) (u : ℕ) (first : 1 ≤ u) (layout : y.machine.layout ≡ x.machine.layout) (leaves : LeavesIt x.machine y.machine u) where
  abbrev l : Layout'
  l = x.machine.layout

  there : (k : ℕ) → k < l.mutexes → k < y.machine.layout.mutexes
  there k inside = subst (λ (j : Layout'). k < j.mutexes) (sym layout) inside

  holds : (k : ℕ) (d : Bool) → k < l.mutexes → Holds x.machine u k d → Holds y.machine u k d
  holds k d inside h = record {
    owner = seen_owned y.machine k u (there k inside) (ap (λ (o : Object). o.owner) same ∙ own);
    died = sym (ap (λ (o : Object). o.inconsistent) (seen-inside y.machine k (there k inside))) ∙ ap (λ (o : Object). o.inconsistent) same ∙ ap (λ (o : Object). o.inconsistent) (seen-inside x.machine k inside) ∙ h.died;
  }
    where
      own : (seen x.machine k).owner ≡ Some u
      own = owned_seen x.machine k u inside first h.owner

      same : seen y.machine k ≡ seen x.machine k
      same = leaves.same k own

  owner : (k : ℕ) → k < l.mutexes → (fields_at x.machine k).owner ≡ u → (fields_at y.machine k).owner ≡ u
  owner k inside own = seen_owned y.machine k u (there k inside) (ap (λ (o : Object). o.owner) (leaves.same k (owned_seen x.machine k u inside first own)) ∙ owned_seen x.machine k u inside first own)

  not_its : (m : ℕ) → IsOurs l m → OwnsNot x.machine u m → OwnsNot y.machine u m
  not_its m ours apart own = apart (seen_owned x.machine (cell_of m) u inside (leaves.none (cell_of m) (owned_seen y.machine (cell_of m) u (there (cell_of m) inside) first own)))
    where
      inside : cell_of m < l.mutexes
      inside = our_cell l m ours

  sleeps : (m : ℕ) (f : Onward) → IsOurs l m → SleepsWithout x.machine u m f → SleepsWithout y.machine u m f
  sleeps m (Has r) ours w = tt
  sleeps m (Fails r) ours w = tt
  sleeps m Sleeps ours w = not_its m ours w

  both : (k : Taking) (d : Bool) → IsOurs l k.mutex → Holds x.machine u (slot_of k.mutex) d × OwnsNot x.machine u k.mutex → Holds y.machine u (slot_of k.mutex) d × OwnsNot y.machine u k.mutex
  both k d ours (h, w) = (holds (slot_of k.mutex) d (our_slot l k.mutex ours) h, not_its k.mutex ours w)

  slot : (k : Taking) (d : Bool) → IsOurs l k.mutex → Holds x.machine u (slot_of k.mutex) d → Holds y.machine u (slot_of k.mutex) d
  slot k d ours h = holds (slot_of k.mutex) d (our_slot l k.mutex ours) h

  ours_of : (m : ℕ) (y : Giving) → GivesOurs l m y → IsOurs l m
  ours_of m (OfUnlock d) o = o
  ours_of m (OfWait k n slept timed) o = o.ours

  pub owning_kept : (r : Row) (g : Stage) → Fits l u r g → Owning x.machine u r → Owning y.machine u r
  owning_kept (Row.Chooses k v) g o w = not_its k.mutex o.0.ours w
  owning_kept (Row.SeesAgain k v) g o w = not_its k.mutex o.0.ours w
  owning_kept (Row.Marks k v n) g o w = not_its k.mutex o.0.ours w
  owning_kept (Row.SlotPends k v) g o w = not_its k.mutex o.0.ours w
  owning_kept (Row.SlotTakes k v) g o w = not_its k.mutex o.0.ours w
  owning_kept (Row.SlotLeft k) g o w = not_its k.mutex o.ours w
  owning_kept (Row.SeesToSleep k) g o w = not_its k.mutex o.0.ours w
  owning_kept (Row.SlotLinks k d) g o w = both k d o.ours w
  owning_kept (Row.SlotClears k) g o w = both k true o.ours w
  owning_kept (Row.SlotQuiets k) g o w = both k true o.ours w
  owning_kept (Row.SlotMends k) g o w = both k true o.ours w
  owning_kept (Row.HeirPends k b) g o w = both k false o.ours w
  owning_kept (Row.HeirSets k) g o w = both k false o.ours w
  owning_kept (Row.HeirLooks k) g o w = both k false o.ours w
  owning_kept (Row.HeirPendsOn k v over) g o w = both k false o.ours w
  owning_kept (Row.HeirTakes k v) g o w = both k false o.0.ours w
  owning_kept (Row.GivesUp k) g o w = both k false o.ours w
  owning_kept (Row.LastLooks k) g o w = both k false o.ours w
  owning_kept (Row.LastMarks k v) g o w = both k false o.0.ours w
  owning_kept (Row.HeirWakes k) g o w = slot k false o.ours w
  owning_kept (Row.HeirHas k r) g o w = slot k false o.ours w
  owning_kept (Row.HeirLinks k r) g o w = slot k false o.ours w
  owning_kept (Row.Frees k f) g o w = (slot k false o.ours w.0, sleeps k.mutex f o.ours w.1)
  owning_kept (Row.FreeUnlinks k f) g o w = (slot k false o.ours w.0, sleeps k.mutex f o.ours w.1)
  owning_kept (Row.FreeGives k f) g o w = (slot k false o.ours w.0, sleeps k.mutex f o.ours w.1)
  owning_kept (Row.GivePends m y) g o w = holds (cell_of m) (died_of y) (our_cell l m (ours_of m y o)) w
  owning_kept (Row.GiveUnlinks m y) g o w = holds (cell_of m) (died_of y) (our_cell l m (ours_of m y o)) w
  owning_kept (Row.GiveFinds m y) g o w = holds (cell_of m) (died_of y) (our_cell l m (ours_of m y o)) w
  owning_kept (Row.Gives m y) g o w = holds (cell_of m) (died_of y) (our_cell l m (ours_of m y o)) w
  owning_kept (Row.Mends m) g o w = holds (cell_of m) true (our_cell l m o) w
  owning_kept (Row.WaitCounts m k timed d) g o w = holds (cell_of m) d (our_cell l m o.ours) w
  owning_kept (Row.WaitSets m k n timed) g o w = holds (cell_of m) false (our_cell l m o.ours) w
  owning_kept (Row.CountLoads m k all) g o w = owner (cell_of m) (our_cell l m o.ours) w
  owning_kept (Row.Counts m k all n) g o w = owner (cell_of m) (our_cell l m o.ours) w
  owning_kept (Row.CountWakes m k n) g o w = owner (cell_of m) (our_cell l m o.ours) w
  owning_kept (Row.AllMarks m k n) g o w = owner (cell_of m) (our_cell l m o.ours) w
  owning_kept (Row.AllMoves m k n) g o w = owner (cell_of m) (our_cell l m o.ours) w
  owning_kept (Row.Unsets m k n) g o w = owner (cell_of m) (our_cell l m o.ours) w
  owning_kept r g o w = tt
