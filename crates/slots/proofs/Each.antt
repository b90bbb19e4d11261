-- Each row by the law of its kind.
use Rattle.std.proofs.Common.{◌≡◌, ◌≢◌, ℕ, ◌+◌, ◌-◌, ◌*◌, ◌%◌, ◌<◌, ◌==◌, Bool, true, false, [], ◌∷◌, refl, sym, ap, ◌∙◌, subst, arith, eqb-true, eq-eqb}
use Rattle.std.specs.Prelude.{if◌then◌else◌, ◌&&◌}
use Rattle.lockword.specs.Cells.{bit, fields_of}
use Rattle.stepprograms.specs.declared.access.Access.{Access}
use Rattle.memorymap.specs.Layouts.{cell_place}
use Rattle.mutex.specs.Rows.{acquired}
use Rattle.protocol.specs.declared.event.Event.TheVariants.{Step, Remake}
use Rattle.protocol.specs.Machine.{State}
use Rattle.protocol.proofs.Kept.{Kept}
use Rattle.protocol.proofs.Seeing.{cell_in, counter_in, cell_again}
use Rattle.slots.specs.Places.{cell_of, is_slot, our_own, slot_of}
use Rattle.slots.specs.Rows.{Choice, Row}
use Rattle.slots.specs.Rows.Before.{Linked, Mended, Again}
use Rattle.slots.specs.Shown.{Slots, shown}
use Rattle.slots.specs.Stands.{StandsAs}
use Rattle.slots.specs.Words.{is_free, taken_word, waiting_word}
use Rattle.slots.specs.Seen.{sets_and_expires}
use Rattle.slots.specs.Table.{made, makes, out_of, watched_row}
use Rattle.slots.specs.Invariant.{fields_at}
use Rattle.slots.specs.Accesses.{Finds, IsAboutIt, IsAtRow}
use Rattle.slots.specs.Each.{Assumes, EachAccessIsEvents, IsToMark, IsToTake, IsToTakeSlot}
use Rattle.slots.specs.Further.{FindsOther, MayTake, SeesUnmarked}
use Rattle.slots.proofs.Again.{again_row}
use Rattle.slots.proofs.Announcing.{announcing_row}
use Rattle.slots.proofs.Counting.{count_row}
use Rattle.slots.proofs.Decisions.{deciding_row}
use Rattle.slots.proofs.Flags.{quiets, sets}
use Rattle.slots.proofs.Free.{reached_kept}
use Rattle.slots.proofs.GiveRows.{give_row}
use Rattle.slots.proofs.HeirRows.{free_word}
use Rattle.slots.proofs.Leading.{by_test, stays}
use Rattle.slots.proofs.Looks.{IsQuiet}
use Rattle.slots.proofs.Marking.{mark_row}
use Rattle.slots.proofs.Meets.{cell_says, cell_shows, load_idles, miss_idles, nothing_events}
use Rattle.slots.proofs.Mending.{mend_row, trim_row}
use Rattle.slots.proofs.Moving.{hand_row, move_row}
use Rattle.slots.proofs.OneStep.{AreEvents, clearing_row, list_row}
use Rattle.slots.proofs.Refusals.{first_row}
use Rattle.slots.proofs.Releasing.{release_row}
use Rattle.slots.proofs.Shows.{shown_cell}
use Rattle.slots.proofs.Sleeping.{sleep_row}
use Rattle.slots.proofs.TakeRows.{take_row}
use Rattle.slots.proofs.Wakes.{wake_row}

-- what a slot shows of its owner
pub slot_owner : (w n : ℕ) (b : Bool) → (w + bit b 4294967296 + n * 8589934592) % 1073741824 ≡ w % 1073741824
slot_owner w n true = omega arith
slot_owner w n false = omega arith

module _ (x : Slots) (t : ℕ) (c : Choice) (at : IsAtRow x t) where
  abbrev z : State
  z = x.machine

  inv : Kept z
  inv = reached_kept z at.reached

  abbrev word : ℕ → ℕ
  word k = shown x (cell_place z.layout k)

  -- a load without events, and an exchange that finds another word
  load_so : (r next : Row) (a : ℕ) → IsQuiet r → AreEvents x t c r (makes (Access.Load a) [] next)
  load_so r next a quiet = nothing_events x t c r next [] z.words z.queues _ quiet (stays z t (z.threads t).stage inv refl) (Access.Load a) (load_idles x t a) (λ p. refl) (λ p. refl)

  miss_so : (r next : Row) (k v n : ℕ) → IsQuiet r → k < z.layout.mutexes → FindsOther x k v → AreEvents x t c r (makes (Access.Exchange (cell_in z.layout t k) v n) [] next)
  miss_so r next k v n quiet inside other = nothing_events x t c r next [] z.words z.queues _ quiet (stays z t (z.threads t).stage inv refl) (Access.Exchange (cell_in z.layout t k) v n)
      (miss_idles x t (cell_in z.layout t k) v n (subst (λ (p : ℕ). shown x p ≢ v) (sym (cell_again z.layout t inv.layout at.first at.last k inside)) other)) (λ p. refl) (λ p. refl)

  -- an exchange finds the word that it expects, or another
  by_word : (P : Type 0) (k v : ℕ) → (word k ≡ v → P) → (FindsOther x k v → P) → P
  by_word P k v found other = go (word k == v) refl
    where
      go : (b : Bool) → (word k == v) ≡ b → P
      go true e = found (eqb-true (word k) v e)
      go false e = other (λ same. cc (sym e ∙ eq-eqb (word k) v same))

  -- a cell is found free
  pub finds : (m v : ℕ) → MayTake x t m → IsToTake x m v → word (cell_of m) ≡ v → Finds x (cell_of m) v
  finds m v may to found = record { found = found; free = both.0; usable = both.1; room = to.room }
    where
      both : ((fields_at z (cell_of m)).owner ≡ 0) × ((fields_at z (cell_of m)).unusable ≡ false)
      both = free_word (z.words (cell_place z.layout (cell_of m))) (x.turns (cell_of m)) to.room (ap is_free (sym (cell_shows x m may.inside) ∙ found) ∙ to.free)

  pub finds_slot : (m g : ℕ) → IsToTakeSlot x m g → word (slot_of m) ≡ g → Finds x (slot_of m) g
  finds_slot m g to found = record {
    found = found;
    free = sym (slot_owner (z.words (cell_place z.layout (slot_of m))) (x.turns (slot_of m)) (is_slot (slot_of m) && x.awake (our_own (slot_of m)))) ∙ ap (λ (v : ℕ). (fields_of v).owner) (sym (shown_cell x (slot_of m) to.inside) ∙ found) ∙ to.nobody;
    usable = to.usable;
    room = to.room;
  }

  pub unmarked : (m v : ℕ) → IsToMark t v → word (cell_of m) ≡ v → SeesUnmarked x t m v
  unmarked m v to found = record { found = found; some = to.some; other = to.other; waiters = to.waiters }

  each_row : (r : Row) → StandsAs r (z.threads t).stage → IsAboutIt z.layout r (z.threads t).stage → Assumes x t r → AreEvents x t c r (made x t c r)
  each_row Row.Rests there about a = load_so Row.Rests Row.Rests 0 (record { awake = λ a. refl; slept = λ a. refl; turns = λ d a. refl })
  each_row (Row.Looks k) there about a = first_row x t c at (Row.Looks k) there a
  each_row (Row.Pends k v) there about a = announcing_row x t c at a.room (Row.Pends k v) there a.inside
  each_row (Row.Sees k) there about a = deciding_row x t c at (Row.Sees k) there about a
  each_row (Row.Takes k v) there about (may, to) = by_word (AreEvents x t c (Row.Takes k v) (made x t c (Row.Takes k v))) (cell_of k.mutex) v
      (λ found. take_row x t c at (Row.Takes k v) there about (finds k.mutex v may to found))
      (λ other. deciding_row x t c at (Row.Takes k v) there about (may, other))
  each_row (Row.Links m r) there about a = list_row x t c at (Row.Links m r) there tt
  each_row (Row.Clears m r) there about a = clearing_row x t c at (Row.Clears m r) there tt
  each_row (Row.Chooses k v) there about a = load_so (Row.Chooses k v) (made x t c (Row.Chooses k v)).next (cell_in z.layout t (slot_of k.mutex)) (record { awake = λ a. refl; slept = λ a. refl; turns = λ d a. refl })
  each_row (Row.SeesAgain k v) there about a = deciding_row x t c at (Row.SeesAgain k v) there about a
  each_row (Row.Marks k v n) there about (may, to) = by_word (AreEvents x t c (Row.Marks k v n) (made x t c (Row.Marks k v n))) (cell_of k.mutex) v
      (λ found. mark_row x t c at (Row.Marks k v n) there about (may, unmarked k.mutex v to found))
      (λ other. deciding_row x t c at (Row.Marks k v n) there about (may, other))
  each_row (Row.SleepsOn k v) there about a = sleep_row x t c at (Row.SleepsOn k v) there about a
  each_row (Row.Asleep k) there about a = again_row x t c at (Row.Asleep k) there about tt
  each_row (Row.Late k) there about a = again_row x t c at (Row.Late k) there about tt
  each_row (Row.LateSees k) there about a = load_so (Row.LateSees k) (made x t c (Row.LateSees k)).next (cell_in z.layout t (cell_of k.mutex)) (record { awake = λ a. refl; slept = λ a. refl; turns = λ d a. refl })
  each_row (Row.WakesAll m r) there about a = wake_row x t c at (Row.WakesAll m r) there about tt
  each_row (Row.SlotPends k g) there about (inside, room) = announcing_row x t c at room (Row.SlotPends k g) there inside
  each_row (Row.SlotTakes k g) there about a = by_word (AreEvents x t c (Row.SlotTakes k g) (made x t c (Row.SlotTakes k g))) (slot_of k.mutex) g
      (λ found. take_row x t c at (Row.SlotTakes k g) there about (finds_slot k.mutex g a found))
      (λ other. deciding_row x t c at (Row.SlotTakes k g) there about (a.inside, other))
  each_row (Row.SlotLeft k) there about a = announcing_row x t c at a.room (Row.SlotLeft k) there a.inside
  each_row (Row.SeesToSleep k) there about a = deciding_row x t c at (Row.SeesToSleep k) there about a
  each_row (Row.SlotLinks k d) there about a = list_row x t c at (Row.SlotLinks k d) there tt
  each_row (Row.SlotClears k) there about a = clearing_row x t c at (Row.SlotClears k) there tt
  each_row (Row.SlotQuiets k) there about a = quiets x t c (Row.SlotQuiets k) k.mutex (record { reached = at.reached; first = at.first; last = at.last; inside = a.inside }) refl a.small a.few
  each_row (Row.SlotMends k) there about a = mend_row x t c at (Row.SlotMends k) there a
  each_row (Row.HeirPends k Linked) there about a = announcing_row x t c at a.room (Row.HeirPends k Linked) there a.inside
  each_row (Row.HeirPends k Mended) there about a = announcing_row x t c at a.room (Row.HeirPends k Mended) there a.inside
  each_row (Row.HeirPends k Again) there about a = again_row x t c at (Row.HeirPends k Again) there about tt
  each_row (Row.HeirSets k) there about a = sets x t k.mutex (record { reached = at.reached; first = at.first; last = at.last; inside = a.inside }) k (made x t c (Row.HeirSets k)).next c refl a.word
  each_row (Row.HeirLooks k) there about a = load_so (Row.HeirLooks k) (made x t c (Row.HeirLooks k)).next (cell_in z.layout t (cell_of k.mutex)) (record { awake = λ a. refl; slept = λ a. refl; turns = λ d a. refl })
  each_row (Row.HeirPendsOn k v over) there about a = again_row x t c at (Row.HeirPendsOn k v over) there about tt
  each_row (Row.HeirTakes k v) there about (may, to) = by_word (AreEvents x t c (Row.HeirTakes k v) (made x t c (Row.HeirTakes k v))) (cell_of k.mutex) v
      (λ found. take_row x t c at (Row.HeirTakes k v) there about (finds k.mutex v may to found))
      (λ other. by_test (AreEvents x t c (Row.HeirTakes k v)) (word (cell_of k.mutex) == v)
      (makes (Access.Exchange (cell_in z.layout t (cell_of k.mutex)) v (taken_word v t)) (Step t ∷ Step t ∷ []) (Row.HeirHas k (acquired (fields_of v)))) (makes (Access.Exchange (cell_in z.layout t (cell_of k.mutex)) v (taken_word v t)) [] (watched_row x t c k (word (cell_of k.mutex)) true))
      (λ found. absurd (other (eqb-true (word (cell_of k.mutex)) v found)))
      (λ miss. miss_so (Row.HeirTakes k v) (watched_row x t c k (word (cell_of k.mutex)) true) (cell_of k.mutex) v (taken_word v t) (record { awake = λ a. refl; slept = λ a. refl; turns = λ d a. refl }) may.inside other))
  each_row (Row.HeirHas k r) there about a = quiets x t c (Row.HeirHas k r) k.mutex (record { reached = at.reached; first = at.first; last = at.last; inside = a.inside }) refl a.small a.few
  each_row (Row.HeirLinks k r) there about a = list_row x t c at (Row.HeirLinks k r) there tt
  each_row (Row.GivesUp k) there about a = quiets x t c (Row.GivesUp k) k.mutex (record { reached = at.reached; first = at.first; last = at.last; inside = a.inside }) refl a.small a.few
  each_row (Row.LastLooks k) there about a = deciding_row x t c at (Row.LastLooks k) there about a
  each_row (Row.LastMarks k v) there about (may, to) = by_word (AreEvents x t c (Row.LastMarks k v) (made x t c (Row.LastMarks k v))) (cell_of k.mutex) v
      (λ found. mark_row x t c at (Row.LastMarks k v) there about (may, unmarked k.mutex v to found))
      (λ other. by_test (AreEvents x t c (Row.LastMarks k v)) (word (cell_of k.mutex) == v)
      (makes (Access.Exchange (cell_in z.layout t (cell_of k.mutex)) v (waiting_word v)) (sets_and_expires t) (out_of x t c k)) (makes (Access.Exchange (cell_in z.layout t (cell_of k.mutex)) v (waiting_word v)) [] (Row.HeirPends k Again))
      (λ found. absurd (other (eqb-true (word (cell_of k.mutex)) v found)))
      (λ miss. miss_so (Row.LastMarks k v) (Row.HeirPends k Again) (cell_of k.mutex) v (waiting_word v) (record { awake = λ a. refl; slept = λ a. refl; turns = λ d a. refl }) may.inside other))
  each_row (Row.HeirWakes k) there about a = wake_row x t c at (Row.HeirWakes k) there about tt
  each_row (Row.Frees k f) there about a = release_row x t c at (Row.Frees k f) there a
  each_row (Row.FreeUnlinks k f) there about a = list_row x t c at (Row.FreeUnlinks k f) there tt
  each_row (Row.FreeGives k f) there about a = give_row x t c at (Row.FreeGives k f) there about a
  each_row (Row.TryLooks m) there about a = first_row x t c at (Row.TryLooks m) there a
  each_row (Row.TryPends m v) there about a = announcing_row x t c at a.room (Row.TryPends m v) there a.inside
  each_row (Row.TryTakes m v) there about (may, to) = by_word (AreEvents x t c (Row.TryTakes m v) (made x t c (Row.TryTakes m v))) (cell_of m) v
      (λ found. take_row x t c at (Row.TryTakes m v) there about (finds m v may to found))
      (λ other. deciding_row x t c at (Row.TryTakes m v) there about (may, other))
  each_row (Row.GiveLooks m) there about a = first_row x t c at (Row.GiveLooks m) there a
  each_row (Row.GivePends m y) there about a = release_row x t c at (Row.GivePends m y) there a
  each_row (Row.GiveUnlinks m y) there about a = list_row x t c at (Row.GiveUnlinks m y) there tt
  each_row (Row.GiveFinds m y) there about a = load_so (Row.GiveFinds m y) (made x t c (Row.GiveFinds m y)).next (cell_in z.layout t (slot_of m)) (record { awake = λ a. refl; slept = λ a. refl; turns = λ d a. refl })
  each_row (Row.Gives m y) there about a = give_row x t c at (Row.Gives m y) there about a
  each_row (Row.HandsOn m y is) there about a = hand_row x t c at (Row.HandsOn m y is) tt
  each_row (Row.LooksBack m y is) there about a = hand_row x t c at (Row.LooksBack m y is) tt
  each_row (Row.WakesOne m y is) there about a = wake_row x t c at (Row.WakesOne m y is) there about tt
  each_row (Row.Trims m is) there about a = trim_row x t c at (Row.Trims m is) there a
  each_row (Row.MendLooks m) there about a = first_row x t c at (Row.MendLooks m) there a
  each_row (Row.Mends m) there about a = mend_row x t c at (Row.Mends m) there a
  each_row (Row.AnewLooks m) there about a = load_so (Row.AnewLooks m) (made x t c (Row.AnewLooks m)).next (cell_in z.layout t (cell_of m)) (record { awake = λ a. refl; slept = λ a. refl; turns = λ d a. refl })
  each_row (Row.Anews m v) there about a = by_word (AreEvents x t c (Row.Anews m v) (made x t c (Row.Anews m v))) (cell_of m) v
      (λ found. mend_row x t c at (Row.Anews m v) there (record { inside = a.inside; found = found; unusable = a.unusable; died = a.died (sym (cell_says x m a.inside).unusable ∙ ap (λ (u : ℕ). (fields_of u).unusable) found ∙ a.unusable); room = a.room }))
      (λ other. by_test (AreEvents x t c (Row.Anews m v)) (word (cell_of m) == v)
      (makes (Access.Exchange (cell_in z.layout t (cell_of m)) v (v - 4294967296 + 8589934592)) (Remake t (cell_of m) ∷ []) Row.Rests)
      (makes (Access.Exchange (cell_in z.layout t (cell_of m)) v (v - 4294967296 + 8589934592)) [] (if (fields_of (word (cell_of m))).unusable then Row.Anews m (word (cell_of m)) else Row.Rests))
      (λ found. absurd (other (eqb-true (word (cell_of m)) v found)))
      (λ miss. miss_so (Row.Anews m v) (if (fields_of (word (cell_of m))).unusable then Row.Anews m (word (cell_of m)) else Row.Rests) (cell_of m) v (v - 4294967296 + 8589934592) (record { awake = λ a. refl; slept = λ a. refl; turns = λ d a. refl }) a.inside other))
  each_row (Row.WaitLooks m k timed) there about a = first_row x t c at (Row.WaitLooks m k timed) there a
  each_row (Row.WaitCounts m k timed died) there about a = first_row x t c at (Row.WaitCounts m k timed died) there a
  each_row (Row.WaitSets m k n timed) there about a = count_row x t c at (Row.WaitSets m k n timed) there a
  each_row (Row.WaitSleeps m k n timed) there about a = sleep_row x t c at (Row.WaitSleeps m k n timed) there about tt
  each_row (Row.WaitAsleep m k n timed) there about a = again_row x t c at (Row.WaitAsleep m k n timed) there about tt
  each_row (Row.WaitLate m k n) there about a = load_so (Row.WaitLate m k n) (made x t c (Row.WaitLate m k n)).next (counter_in z.layout t k) (record { awake = λ a. refl; slept = λ a. refl; turns = λ d a. refl })
  each_row (Row.CountLooks m k all) there about a = first_row x t c at (Row.CountLooks m k all) there a
  each_row (Row.CountLoads m k all) there about a = load_so (Row.CountLoads m k all) (made x t c (Row.CountLoads m k all)).next (counter_in z.layout t k) (record { awake = λ a. refl; slept = λ a. refl; turns = λ d a. refl })
  each_row (Row.Counts m k all n) there about a = count_row x t c at (Row.Counts m k all n) there a
  each_row (Row.CountWakes m k n) there about a = wake_row x t c at (Row.CountWakes m k n) there about tt
  each_row (Row.AllMarks m k n) there about a = mark_row x t c at (Row.AllMarks m k n) there about tt
  each_row (Row.AllMoves m k n) there about a = move_row x t c at (Row.AllMoves m k n) there about tt
  each_row (Row.Unsets m k n) there about a = count_row x t c at (Row.Unsets m k n) there a

pub each_access : EachAccessIsEvents
each_access x t c at assumes = let both = each_row x t c at (x.rows t) at.there at.about assumes in record { words = both.0; queues = both.1 }
