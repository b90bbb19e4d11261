-- A thread's row says how many of the machine's mutexes it owns at most: so few that a lock may still take the slot and the
-- cell, and an heir the cell.
use Rattle.std.proofs.Common.{◌≡◌, ℕ, ◌+◌, ◌%◌, ◌<◌, ◌≤◌, ◌==◌, Bool, true, false, [], ◌∷◌, refl, sym, ap, ◌∙◌, subst, arith, eqb-true}
use Rattle.std.specs.Prelude.{if◌then◌else◌, not, ◌&&◌, ◌||◌, ◌-◌, nat_lt}
use Rattle.std.proofs.lemmas.Bool.Decides.{nat_tests}
use Rattle.lockword.specs.Cells.{Fields, fields_of}
use Rattle.lockword.proofs.Bits.{and_declared, xor_released}
use Rattle.lockword.specs.declared.reply.Reply.TheVariants.{OK, EBUSY, EDEADLK, EINVAL, ETIMEDOUT, ENOTRECOVERABLE}
use Rattle.stepprograms.specs.declared.access.Access.{Access}
use Rattle.stepprograms.specs.Accesses.{is_nobody}
use Rattle.memorymap.specs.Layouts.{Layout', address_in, cell_place, counter_place, head_place}
use Rattle.mutex.specs.Rows.{acquired}
use Rattle.mutex.specs.declared.call.Call.TheVariants.{Consistent, TimedLock, TryLock, Unlock}
use Rattle.condvar.specs.declared.op.Op.TheVariants.{OnMutex}
use Rattle.protocol.specs.declared.event.Event.{Event}
use Rattle.protocol.specs.declared.event.Event.TheVariants.{Step}
use Rattle.protocol.specs.declared.event.LeftTo.TheVariants as left_to
use Rattle.protocol.specs.declared.thread.Stage.{Stage}
use Rattle.protocol.specs.Machine.{State, place_met, run, words_after}
use Rattle.protocol.proofs.Kept.{Kept}
use Rattle.protocol.proofs.Seeing.{cell_in}
use Rattle.slots.specs.Places.{cell_of, slot_of}
use Rattle.slots.specs.Rows.{Choice, Giving, How, Onward, Row, Taking, Then}
use Rattle.slots.specs.Rows.How.{Tried, Later, Waited}
use Rattle.slots.specs.Rows.Before.{Linked, Again}
use Rattle.slots.specs.Rows.Giving.{OfUnlock, OfWait}
use Rattle.slots.specs.Rows.Onward.{Has, Fails, Sleeps}
use Rattle.slots.specs.Rows.Then.{ToSleep, ToSlot}
use Rattle.slots.specs.Shown.{Slots, memory, shown}
use Rattle.slots.specs.Words.{is_free, is_moving}
use Rattle.slots.specs.Seen.{later, owned_row}
use Rattle.slots.specs.Table.{Made, freed_row, is_on_list, made, makes, marked_events, marked_row, missed, on_cell, out_of}
use Rattle.slots.specs.Words.{shows_heir}
use Rattle.slots.specs.Seen.{heir_of}
use Rattle.slots.specs.Table.{counted, counted_row, given_row, refused_count, released, shows_slept, unlinked_row, wait_begins, woke_row}
use Rattle.slots.specs.Words.{taken_word, waiting_word}
use Rattle.slots.specs.Seen.{seen_events, seen_row, seen_to_sleep, sets_and_expires, sleep_row}
use Rattle.slots.specs.Table.{to_slot, tries, watched_row}
use Rattle.slots.specs.Runs.{is_first, is_ours, may_be_due, may_call}
use Rattle.slots.specs.Fits.{Fits, IsOurs}
use Rattle.slots.specs.Accesses.{IsAlongList}
use Rattle.slots.specs.Further.{GoesToSlot}
use Rattle.slots.specs.Premises.{Owning}
use Rattle.slots.proofs.FitsOn.{waiting_fields}
use Rattle.slots.proofs.Leading.{by_test}
use Rattle.slots.proofs.Owned.{our_cell, our_slot}
use Rattle.slots.proofs.ShownWords.{IsReading}
use Rattle.slots.proofs.Held.{held_kept, held_less, held_more, held_still}
use Rattle.slots.proofs.OwnKeep as words

-- a lock may still need the slot and the cell; the lock that ends a wait keeps away from the slot
abbrev pub Few : How → ℕ → Type 0
Few (Waited z) n = Unit {0}
Few h n = n < 2046

-- a lock that is to sleep after it has given its slot up will come there again
abbrev pub FewTo : Onward → ℕ → Type 0
FewTo Sleeps n = n < 2047
FewTo f n = Unit {0}

abbrev pub RoomAt : ℕ → Row → Type 0
RoomAt n (Row.Looks k) = n < 2046
RoomAt n (Row.Pends k v) = n < 2046
RoomAt n (Row.Sees k) = Few k.how n
RoomAt n (Row.Takes k v) = Few k.how n
RoomAt n (Row.Chooses k v) = Few k.how n
RoomAt n (Row.SeesAgain k v) = Few k.how n
RoomAt n (Row.Marks k v to) = Few k.how n
RoomAt n (Row.SleepsOn k v) = Few k.how n
RoomAt n (Row.Asleep k) = Few k.how n
RoomAt n (Row.Late k) = n < 2046
RoomAt n (Row.LateSees k) = n < 2046
RoomAt n (Row.SlotPends k g) = n < 2046
RoomAt n (Row.SlotTakes k g) = n < 2046
RoomAt n (Row.SlotLeft k) = n < 2046
RoomAt n (Row.SeesToSleep k) = Few k.how n
RoomAt n (Row.SlotLinks k d) = n < 2047
RoomAt n (Row.SlotClears k) = n < 2047
RoomAt n (Row.SlotQuiets k) = n < 2047
RoomAt n (Row.SlotMends k) = n < 2047
RoomAt n (Row.HeirPends k b) = n < 2047
RoomAt n (Row.HeirSets k) = n < 2047
RoomAt n (Row.HeirLooks k) = n < 2047
RoomAt n (Row.HeirPendsOn k v over) = n < 2047
RoomAt n (Row.HeirTakes k v) = n < 2047
RoomAt n (Row.GivesUp k) = n < 2047
RoomAt n (Row.LastLooks k) = n < 2047
RoomAt n (Row.LastMarks k v) = n < 2047
RoomAt n (Row.Frees k f) = FewTo f n
RoomAt n (Row.FreeUnlinks k f) = FewTo f n
RoomAt n (Row.FreeGives k f) = FewTo f n
RoomAt n (Row.TryLooks m) = n < 2046
RoomAt n (Row.TryPends m v) = n < 2046
RoomAt n r = Unit {0}

pub few_of : (h : How) (n : ℕ) → n < 2046 → Few h n
few_of Tried n w = w
few_of Later n w = w
few_of (Waited z) n w = tt

pub few_says : (h : How) (n : ℕ) → GoesToSlot h → Few h n → n < 2046
few_says Tried n goes w = w
few_says Later n goes w = w
few_says (Waited z) n goes w = absurd goes

-- ---- a call begins

last_of : (a b : Bool) → (a && b) ≡ true → b ≡ true
last_of true b e = e
last_of false b e = absurd cc

begins_in : (a b : Bool) → (a && b) ≡ true → a ≡ true
begins_in true b e = refl
begins_in false b e = absurd cc

is_few : (n : ℕ) → nat_lt n 2046 ≡ true → n < 2046
is_few n e = grind (arith, nat_tests)

pub first_room : (l : Layout') (n : ℕ) (r : Row) → may_call l n r ≡ true → RoomAt n r
first_room l n (Row.Looks k) e = is_few n (last_of (is_first k.how && is_ours l k.mutex) (nat_lt n 2046) (begins_in (is_first k.how && is_ours l k.mutex && nat_lt n 2046) (may_be_due k) e))
first_room l n (Row.TryLooks m) e = is_few n (last_of (is_ours l m) (nat_lt n 2046) e)
first_room l n (Row.GiveLooks m) e = tt
first_room l n (Row.MendLooks m) e = tt
first_room l n (Row.AnewLooks m) e = tt
first_room l n (Row.WaitLooks m k timed) e = tt
first_room l n (Row.CountLooks m k all) e = tt
first_room l n r e = absurd cc

-- ---- an access

module _ (x y : Slots) (t : ℕ) (c : Choice) (inv : Kept x.machine) (then_kept : Kept y.machine) (pos : 1 ≤ t) (known : t ≤ x.machine.layout.threads) (small : t < 1073741824) (same : y.machine.layout ≡ x.machine.layout) where
  abbrev l : Layout'
  l = x.machine.layout

  abbrev W : ℕ → ℕ
  W k = shown x (cell_place l k)

  abbrev V : ℕ → ℕ
  V k = shown y (cell_place l k)

  abbrev before : ℕ
  before = (x.machine.threads t).held

  abbrev behind : ℕ
  behind = (y.machine.threads t).held

  abbrev Is : Access → Type 0
  Is a = (p : ℕ) → shown y p ≡ words_after (memory x) t a p

  abbrev Stays : Type 0
  Stays = behind ≡ before

  abbrev Room : Row → Type 0
  Room r = RoomAt behind r

  abbrev Leads : Made → Type 0
  Leads n = Is n.access → (n.events ≡ [] → y.machine ≡ x.machine) → Room n.next

  -- ---- how many afterwards

  by_reading : (a : Access) → IsReading a → Is a → Stays
  by_reading a reading is = held_kept x y t c inv then_kept pos known small same (words.by_reading x y t c inv pos known small same a reading is)

  by_pending : (e : ℕ) → Is (Access.Store (address_in l t (head_place t + 2)) e) → Stays
  by_pending e is = held_kept x y t c inv then_kept pos known small same (words.by_pending x y t c inv pos known small same e is)

  by_miss : (k e n : ℕ) → k < l.mutexes → (W k == e) ≡ false → Is (Access.Exchange (cell_in l t k) e n) → Stays
  by_miss k e n inside other is = held_kept x y t c inv then_kept pos known small same (words.by_miss x y t c inv pos known small same k e n inside other is)

  by_list : (r : Row) → words.IsApartFromCells x y t c inv pos known small same r → Is (made x t c r).access → Stays
  by_list r apart is = held_kept x y t c inv then_kept pos known small same (words.by_place x y t c inv pos known small same (made x t c r).access (place_met l t (made x t c r).access) refl apart is)

  -- WAITERS is set
  by_mark : (k v : ℕ) → k < l.mutexes → (W k == v) ≡ true → Is (Access.Exchange (cell_in l t k) v (waiting_word v)) → Stays
  by_mark k v inside e is = held_still x y t c inv then_kept pos known small same (Access.Exchange (cell_in l t k) v (waiting_word v)) k inside refl is
      (ap (λ (u : ℕ). (fields_of u).owner) (words.hit x y t c inv pos known small same k v (waiting_word v) inside e is)
      ∙ ap (λ (f : Fields). f.owner) (waiting_fields v)
      ∙ ap (λ (u : ℕ). (fields_of u).owner) (sym (eqb-true (W k) v e)))

  -- OWNER_DIED is cleared
  by_declaring : (k : ℕ) → k < l.mutexes → Is (Access.FetchAnd (cell_in l t k) 18446744072635809791) → Stays
  by_declaring k inside is = held_still x y t c inv then_kept pos known small same (Access.FetchAnd (cell_in l t k) 18446744072635809791) k inside refl is
      (ap (λ (u : ℕ). (fields_of u).owner) (words.its_word x y t c inv pos known small same (Access.FetchAnd (cell_in l t k) 18446744072635809791) k tt inside refl is) ∙ (and_declared (W k)).owner)

  -- the slot is taken
  by_taking : (k v : ℕ) → k < l.mutexes → Is (Access.Exchange (cell_in l t k) v (taken_word v t)) → before < 2046 → behind < 2047
  by_taking k v inside is w = let more = held_more x y t c inv then_kept pos known small same (Access.Exchange (cell_in l t k) v (taken_word v t)) k inside refl is in omega (arith, more, w)

  -- the slot is given up
  by_giving : (k : ℕ) → k < l.mutexes → Is (Access.FetchXor (cell_in l t k) t) → (fields_of (x.machine.words (cell_place l k))).owner ≡ t → before < 2047 → behind < 2046
  by_giving k inside is own w = let less = held_less x y t c inv then_kept pos known small same (Access.FetchXor (cell_in l t k) t) k inside refl is own
      (ap (λ (u : ℕ). (fields_of u).owner) (words.its_word x y t c inv pos known small same (Access.FetchXor (cell_in l t k) t) k tt inside refl is)
      ∙ ap (λ (f : Fields). f.owner) (xor_released (W k) t ((words.says_x x y t c inv pos known small same k inside).owner ∙ own))) in omega (arith, less, w)

  still : y.machine ≡ x.machine → Stays
  still e = ap (λ (z : State). (z.threads t).held) e

  few_still : (h : How) → Stays → Few h before → Few h behind
  few_still h e w = subst (Few h) (sym e) w

  to_still : (f : Onward) → Stays → FewTo f before → FewTo f behind
  to_still f e w = subst (FewTo f) (sym e) w

  slot_still : Stays → before < 2047 → behind < 2047
  slot_still e w = subst (λ (n : ℕ). n < 2047) (sym e) w

  lock_still : Stays → before < 2046 → behind < 2046
  lock_still e w = subst (λ (n : ℕ). n < 2046) (sym e) w

  -- ---- the next row

  either : (b : Bool) (r s : Row) → Room r → Room s → Room (if b then r else s)
  either true r s first second = first
  either false r s first second = second

  lost_room : (m : ℕ) (b : Bool) → Room (if b then Row.WakesAll m ENOTRECOVERABLE else Row.Clears m ENOTRECOVERABLE)
  lost_room m true = tt
  lost_room m false = tt

  owned_room : (k : Taking) (h : How) (w : ℕ) → Few k.how behind → Room (owned_row k h w)
  owned_room k Tried w few = either k.wrong (Row.Clears k.mutex EINVAL) (Row.Chooses k w) tt few
  owned_room k Later w few = few
  owned_room k (Waited z) w few = few

  seen_room : (k : Taking) (w : ℕ) → Few k.how behind → Room (seen_row t k w)
  seen_room k w few = go (fields_of w).unusable ((fields_of w).owner == 0) ((fields_of w).owner == t)
    where
      go : (a b d : Bool) → Room (if a then (if (fields_of w).waiters then Row.WakesAll k.mutex ENOTRECOVERABLE else Row.Clears k.mutex ENOTRECOVERABLE) else if b then Row.Takes k w else if d then Row.Clears k.mutex EDEADLK else owned_row k k.how w)
      go true b d = lost_room k.mutex (fields_of w).waiters
      go false true d = few
      go false false true = tt
      go false false false = owned_room k k.how w few

  sleep_room : (k : Taking) (w : ℕ) → Few k.how behind → Room (sleep_row k w)
  sleep_room k w few = either (fields_of w).waiters (Row.SleepsOn k w) (Row.Marks k w ToSleep) few few

  to_sleep_room : (k : Taking) (w : ℕ) → Few k.how behind → Room (seen_to_sleep k w)
  to_sleep_room k w few = go (fields_of w).unusable ((fields_of w).owner == 0)
    where
      go : (a b : Bool) → Room (if a then (if (fields_of w).waiters then Row.WakesAll k.mutex ENOTRECOVERABLE else Row.Clears k.mutex ENOTRECOVERABLE) else if b then Row.Takes k w else sleep_row k w)
      go true b = lost_room k.mutex (fields_of w).waiters
      go false true = few
      go false false = sleep_room k w few

  to_slot_room : (k : Taking) (h : How) (v sl : ℕ) → k.how ≡ h → tries x t c h ≡ true → Few h behind → Room (to_slot x t c k h v sl)
  to_slot_room k Tried v sl is tried few = few
  to_slot_room k Later v sl is tried few = either (fields_of v).waiters (Row.SlotPends k sl) (Row.Marks k v (ToSlot sl)) few (subst (λ (h : How). Few h behind) (sym is) few)
  to_slot_room k (Waited z) v sl is tried few = absurd cc

  first_of : (a b d : Bool) → (a && b && d) ≡ true → a ≡ true
  first_of true b d e = refl
  first_of false b d e = absurd cc

  chosen_room : (k : Taking) (v : ℕ) → Few k.how behind → Room (made x t c (Row.Chooses k v)).next
  chosen_room k v few = either (tries x t c k.how && is_moving sl && c.again) (Row.SeesAgain k v) (if tries x t c k.how && ((fields_of sl).owner == 0) && c.yes then to_slot x t c k k.how v sl else sleep_row k v) few
      (by_test Room (tries x t c k.how && ((fields_of sl).owner == 0) && c.yes) (to_slot x t c k k.how v sl) (sleep_row k v)
      (λ e. to_slot_room k k.how v sl refl (first_of (tries x t c k.how) ((fields_of sl).owner == 0) c.yes e) few) (λ e. sleep_room k v few))
    where
      sl : ℕ
      sl = W (slot_of k.mutex)

  watched_room : (k : Taking) (v : ℕ) (over : Bool) → behind < 2047 → Room (watched_row x t c k v over)
  watched_room k v over few = either (over && is_free v) (Row.HeirTakes k v) (if over && not (fields_of v).unusable && not (k.timed && c.yes) then Row.HeirPends k Again else Row.GivesUp k) few
      (either (over && not (fields_of v).unusable && not (k.timed && c.yes)) (Row.HeirPends k Again) (Row.GivesUp k) few few)

  out_room : (k : Taking) → behind < 2047 → Room (out_of x t c k)
  out_room k few = either (k.timed && c.yes) (Row.Frees k (Fails ETIMEDOUT)) (Row.Frees k Sleeps) tt few

  freed_room : (k : Taking) (f : Onward) → (before < 2047 → behind < 2046) → FewTo f before → Room (freed_row x t c k f)
  freed_room k (Has r) gives w = tt
  freed_room k (Fails r) gives w = tt
  freed_room k Sleeps gives w = gives w

  marked_room : (k : Taking) (h : How) (v : ℕ) (n : Then) → k.how ≡ h → ((sl : ℕ) → n ≡ ToSlot sl → h ≡ Later) → Few h behind → Room (marked_row x t c k h v n)
  marked_room k h v (ToSlot sl) is to few = subst (λ (h : How). Few h behind) (to sl refl) few
  marked_room k (Waited z) v ToSleep is to few = subst (λ (h : How). Few h behind) (sym is) tt
  marked_room k Tried v ToSleep is to few = few
  marked_room k Later v ToSleep is to few = few

  asleep_room : (k : Taking) (h : How) (v w : ℕ) → k.how ≡ h → Few h behind → Room (on_cell x t c k h v w).next
  asleep_room k (Waited z) v w is few = subst (λ (h : How). Few h behind) (sym is) tt
  asleep_room k Tried v w is few = by_test (λ (n : Made). Room n.next) (w % 4294967296 == v % 4294967296) (makes (Access.Wait (cell_in l t (cell_of k.mutex)) (v % 4294967296)) _ (Row.Asleep (later k))) (makes (Access.Wait (cell_in l t (cell_of k.mutex)) (v % 4294967296)) _ (Row.Asleep (later k))) (λ e. few) (λ e. few)
  asleep_room k Later v w is few = by_test (λ (n : Made). Room n.next) (w % 4294967296 == v % 4294967296) (makes (Access.Wait (cell_in l t (cell_of k.mutex)) (v % 4294967296)) _ (Row.Asleep (later k))) (makes (Access.Wait (cell_in l t (cell_of k.mutex)) (v % 4294967296)) _ (Row.Asleep (later k))) (λ e. few) (λ e. few)

  asleep_reading : (k : Taking) (h : How) (v w : ℕ) → IsReading (on_cell x t c k h v w).access
  asleep_reading k (Waited z) v w = tt
  asleep_reading k Tried v w = by_test (λ (n : Made). IsReading n.access) (w % 4294967296 == v % 4294967296) (makes (Access.Wait (cell_in l t (cell_of k.mutex)) (v % 4294967296)) _ (Row.Asleep (later k))) (makes (Access.Wait (cell_in l t (cell_of k.mutex)) (v % 4294967296)) _ (Row.Asleep (later k))) (λ e. tt) (λ e. tt)
  asleep_reading k Later v w = by_test (λ (n : Made). IsReading n.access) (w % 4294967296 == v % 4294967296) (makes (Access.Wait (cell_in l t (cell_of k.mutex)) (v % 4294967296)) _ (Row.Asleep (later k))) (makes (Access.Wait (cell_in l t (cell_of k.mutex)) (v % 4294967296)) _ (Row.Asleep (later k))) (λ e. tt) (λ e. tt)

  linked_room : (k : Taking) (d : Bool) → behind < 2047 → Room (if d then Row.SlotClears k else Row.HeirPends k Linked)
  linked_room k true few = few
  linked_room k false few = few

  heir_looks_room : (k : Taking) (v : ℕ) (a b : Bool) → behind < 2047 → Room (if a then Row.HeirPendsOn k v true else if b then Row.HeirPends k Again else Row.HeirPendsOn k v false)
  heir_looks_room k v true b few = few
  heir_looks_room k v false true few = few
  heir_looks_room k v false false few = few

  -- ---- rows that exchange, or look for the last time

  abbrev cell_at : ℕ → ℕ
  cell_at m = cell_in l t (cell_of m)

  abbrev slot_at : ℕ → ℕ
  slot_at m = cell_in l t (slot_of m)

  takes_room : (k : Taking) (v : ℕ) → IsOurs l k.mutex → Few k.how before → Leads (made x t c (Row.Takes k v))
  takes_room k v ours few = by_test Leads (W (cell_of k.mutex) == v)
      (makes (Access.Exchange (cell_at k.mutex) v (taken_word v t)) (Step t ∷ Step t ∷ []) (Row.Links k.mutex (acquired (fields_of v))))
      (makes (Access.Exchange (cell_at k.mutex) v (taken_word v t)) (seen_events t k.mutex k.how (W (cell_of k.mutex))) (seen_row t k (W (cell_of k.mutex))))
      (λ e is none. tt)
      (λ e is none. seen_room k (W (cell_of k.mutex)) (few_still k.how (by_miss (cell_of k.mutex) v (taken_word v t) (our_cell l k.mutex ours) e is) few))

  marks_room : (k : Taking) (v : ℕ) (n : Then) → IsOurs l k.mutex → ((sl : ℕ) → n ≡ ToSlot sl → k.how ≡ Later) → Few k.how before → Leads (made x t c (Row.Marks k v n))
  marks_room k v n ours to few = by_test Leads (W (cell_of k.mutex) == v)
      (makes (Access.Exchange (cell_at k.mutex) v (waiting_word v)) (marked_events x t c k k.how) (marked_row x t c k k.how v n))
      (missed x t c (Access.Exchange (cell_at k.mutex) v (waiting_word v)) k k.how (W (cell_of k.mutex)))
      (λ e is none. marked_room k k.how v n refl to (few_still k.how (by_mark (cell_of k.mutex) v (our_cell l k.mutex ours) e is) few))
      (λ e is none. miss k.how refl e is)
    where
      keeps : (W (cell_of k.mutex) == v) ≡ false → Is (Access.Exchange (cell_at k.mutex) v (waiting_word v)) → Few k.how behind
      keeps e is = few_still k.how (by_miss (cell_of k.mutex) v (waiting_word v) (our_cell l k.mutex ours) e is) few

      miss : (h : How) → k.how ≡ h → (W (cell_of k.mutex) == v) ≡ false → Is (missed x t c (Access.Exchange (cell_at k.mutex) v (waiting_word v)) k h (W (cell_of k.mutex))).access → Room (missed x t c (Access.Exchange (cell_at k.mutex) v (waiting_word v)) k h (W (cell_of k.mutex))).next
      miss Tried how e is = seen_room (later k) (W (cell_of k.mutex)) (subst (λ (h : How). Few h behind) how (keeps e is))
      miss Later how e is = seen_room k (W (cell_of k.mutex)) (keeps e is)
      miss (Waited z) how e is = seen_room k (W (cell_of k.mutex)) (keeps e is)

  slot_takes_room : (k : Taking) (sl : ℕ) → IsOurs l k.mutex → before < 2046 → Leads (made x t c (Row.SlotTakes k sl))
  slot_takes_room k sl ours few = by_test Leads (W (slot_of k.mutex) == sl)
      (makes (Access.Exchange (slot_at k.mutex) sl (taken_word sl t)) (Step t ∷ Step t ∷ []) (Row.SlotLinks k (fields_of sl).died))
      (if (fields_of (W (slot_of k.mutex))).owner == 0 then makes (Access.Exchange (slot_at k.mutex) sl (taken_word sl t)) [] (Row.SlotTakes k (W (slot_of k.mutex))) else makes (Access.Exchange (slot_at k.mutex) sl (taken_word sl t)) (Step t ∷ []) (Row.SlotLeft k))
      (λ e is none. by_taking (slot_of k.mutex) sl (our_slot l k.mutex ours) is few)
      (λ e. by_test Leads ((fields_of (W (slot_of k.mutex))).owner == 0) (makes (Access.Exchange (slot_at k.mutex) sl (taken_word sl t)) [] (Row.SlotTakes k (W (slot_of k.mutex)))) (makes (Access.Exchange (slot_at k.mutex) sl (taken_word sl t)) (Step t ∷ []) (Row.SlotLeft k))
      (λ f is none. lock_still (by_miss (slot_of k.mutex) sl (taken_word sl t) (our_slot l k.mutex ours) e is) few)
      (λ f is none. lock_still (by_miss (slot_of k.mutex) sl (taken_word sl t) (our_slot l k.mutex ours) e is) few))

  heir_takes_room : (k : Taking) (v : ℕ) → before < 2047 → Leads (made x t c (Row.HeirTakes k v))
  heir_takes_room k v few = by_test Leads (W (cell_of k.mutex) == v)
      (makes (Access.Exchange (cell_at k.mutex) v (taken_word v t)) (Step t ∷ Step t ∷ []) (Row.HeirHas k (acquired (fields_of v))))
      (makes (Access.Exchange (cell_at k.mutex) v (taken_word v t)) [] (watched_row x t c k (W (cell_of k.mutex)) true))
      (λ e is none. tt)
      (λ e is none. watched_room k (W (cell_of k.mutex)) true (slot_still (still (none refl)) few))

  last_room : (k : Taking) → before < 2047 → Leads (made x t c (Row.LastLooks k))
  last_room k few = go (fields_of w).unusable ((fields_of w).owner == 0) (fields_of w).waiters
    where
      w : ℕ
      w = W (cell_of k.mutex)

      look : Access
      look = Access.Load (cell_at k.mutex)

      go : (a b d : Bool) → Leads (
          if a then makes look (Step t ∷ []) (if d then Row.HeirWakes k else Row.Frees k (Fails ENOTRECOVERABLE))
          else if b then makes look [] (Row.HeirPends k Again)
          else if d then makes look (Step t ∷ (Step t ∷ (Event.Expire t ∷ []))) (out_of x t c k)
          else makes look [] (Row.LastMarks k w)
          )
      go true b true is none = tt
      go true b false is none = tt
      go false true d is none = slot_still (by_reading look tt is) few
      go false false true is none = out_room k (slot_still (by_reading look tt is) few)
      go false false false is none = slot_still (by_reading look tt is) few

  last_marks_room : (k : Taking) (v : ℕ) → IsOurs l k.mutex → before < 2047 → Leads (made x t c (Row.LastMarks k v))
  last_marks_room k v ours few = by_test Leads (W (cell_of k.mutex) == v)
      (makes (Access.Exchange (cell_at k.mutex) v (waiting_word v)) (sets_and_expires t) (out_of x t c k))
      (makes (Access.Exchange (cell_at k.mutex) v (waiting_word v)) [] (Row.HeirPends k Again))
      (λ e is none. out_room k (slot_still (by_mark (cell_of k.mutex) v (our_cell l k.mutex ours) e is) few))
      (λ e is none. slot_still (still (none refl)) few)

  -- ---- rows that say nothing of it

  made_either : (b : Bool) (n o : Made) → Room n.next → Room o.next → Room (if b then n else o).next
  made_either true n o first second = first
  made_either false n o first second = second

  unlinked : (m : ℕ) (g : Giving) → Room (unlinked_row x t c m g)
  unlinked m (OfUnlock d) = either c.yes (Row.GiveFinds m (OfUnlock d)) (Row.Gives m (OfUnlock d)) tt tt
  unlinked m (OfWait k n true timed) = either c.yes (Row.GiveFinds m (OfWait k n true timed)) (Row.Gives m (OfWait k n true timed)) tt tt
  unlinked m (OfWait k n false timed) = tt

  given : (m : ℕ) (g : Giving) → Room (given_row x t c m g)
  given m (OfUnlock d) = tt
  given m (OfWait k n slept timed) = tt

  handed : (m : ℕ) (g : Giving) (n : ℕ) → Room (if c.yes then Row.WakesOne m g n else Row.HandsOn m g n)
  handed m g n = either c.yes (Row.WakesOne m g n) (Row.HandsOn m g n) tt tt

  released_room : (m : ℕ) (g : Giving) (w : ℕ) → Room (released x t c m g w)
  released_room m (OfUnlock true) w = either (fields_of w).waiters (Row.WakesAll m OK) (Row.Clears m OK) tt tt
  released_room m (OfUnlock false) w = either (fields_of w).waiters (if c.yes then Row.WakesOne m (OfUnlock false) (w - t) else Row.HandsOn m (OfUnlock false) (w - t)) (Row.Clears m OK) (handed m (OfUnlock false) (w - t)) tt
  released_room m (OfWait k n slept timed) w = either (fields_of w).waiters (if c.yes then Row.WakesOne m (OfWait k n slept timed) (w - t) else Row.HandsOn m (OfWait k n slept timed) (w - t)) (Row.WaitSleeps m k n timed) (handed m (OfWait k n slept timed) (w - t)) tt

  woke : (m : ℕ) (g : Giving) (n : ℕ) → Room (woke_row x t c m g n)
  woke m (OfUnlock d) n = either (is_nobody (x.machine.queues (cell_place l (cell_of m)))) (Row.Trims m n) (Row.Clears m OK) tt tt
  woke m (OfWait k i slept timed) n = tt

  counted_room : (m k : ℕ) (all slept : Bool) (n : ℕ) → Room (counted_row x t c m k all slept n)
  counted_room m k all false n = tt
  counted_room m k false true n = tt
  counted_room m k true true n = tt

  along : (here next : Row) → Room here → Room next → Room (if is_on_list ((run x.machine (Step t ∷ [])).threads t).stage then here else next)
  along here next now then_on = either (is_on_list ((run x.machine (Step t ∷ [])).threads t).stage) here next now then_on

  -- ---- each row

  pub room_row : (r : Row) (g : Stage) → Fits l t r g → Owning x.machine t r → (IsAlongList r → words.IsApartFromCells x y t c inv pos known small same r) → RoomAt before r → Leads (made x t c r)
  room_row (Row.Looks k) g o own apart w is none = looks is
    where
      looks : Is (made x t c (Row.Looks k)).access → Room (made x t c (Row.Looks k)).next
      looks = by_test (λ (n : Made). Is n.access → Room n.next) ((fields_of (W (cell_of k.mutex))).owner == t) (makes (Access.Load (cell_at k.mutex)) (Event.Begin t (OnMutex (TimedLock (cell_of k.mutex))) ∷ Step t ∷ Step t ∷ Step t ∷ []) Row.Rests) (makes (Access.Load (cell_at k.mutex)) [] (Row.Pends k (W (cell_of k.mutex)))) (λ e is. tt) (λ e is. lock_still (by_reading (Access.Load (cell_at k.mutex)) tt is) w)
  room_row (Row.Pends k v) g o own apart w is none = let few = few_of k.how behind (lock_still (by_pending _ is) w) in either (is_free v) (Row.Takes k v) (Row.Sees k) few few
  room_row (Row.Sees k) g o own apart w is none = seen_room k (W (cell_of k.mutex)) (few_still k.how (by_reading (Access.Load (cell_at k.mutex)) tt is) w)
  room_row (Row.Takes k v) g o own apart w is none = takes_room k v o.0.ours w is none
  room_row (Row.Chooses k v) g o own apart w is none = chosen_room k v (few_still k.how (still (none refl)) w)
  room_row (Row.SeesAgain k v) g o own apart w is none = seen_room k (W (cell_of k.mutex)) (few_still k.how (by_reading (Access.Load (cell_at k.mutex)) tt is) w)
  room_row (Row.Marks k v ToSleep) g o own apart w is none = marks_room k v ToSleep o.0.ours (λ sl e. absurd cc) w is none
  room_row (Row.Marks k v (ToSlot sl)) g o own apart w is none = marks_room k v (ToSlot sl) o.0.ours (λ j e. o.1.1) w is none
  room_row (Row.SleepsOn k v) g o own apart w is none = asleep_room k k.how v (W (cell_of k.mutex)) refl (few_still k.how (by_reading (on_cell x t c k k.how v (W (cell_of k.mutex))).access (asleep_reading k k.how v (W (cell_of k.mutex))) is) w)
  room_row (Row.Asleep k) g o own apart w is none = few_still k.how (by_pending _ is) w
  room_row (Row.SlotPends k sl) g o own apart w is none = lock_still (by_pending _ is) w
  room_row (Row.SlotTakes k sl) g o own apart w is none = slot_takes_room k sl o.0.ours w is none
  room_row (Row.SlotLeft k) g o own apart w is none = lock_still (by_pending _ is) w
  room_row (Row.SeesToSleep k) g o own apart w is none = to_sleep_room k (W (cell_of k.mutex)) (few_still k.how (by_reading (Access.Load (cell_at k.mutex)) tt is) w)
  room_row (Row.SlotLinks k d) g o own apart w is none = let few = slot_still (by_list (Row.SlotLinks k d) (apart tt) is) w in along (Row.SlotLinks k d) (if d then Row.SlotClears k else Row.HeirPends k Linked) few (linked_room k d few)
  room_row (Row.SlotClears k) g o own apart w is none = slot_still (by_pending 0 is) w
  room_row (Row.SlotQuiets k) g o own apart w is none = slot_still (still (none refl)) w
  room_row (Row.SlotMends k) g o own apart w is none = slot_still (by_declaring (slot_of k.mutex) (our_slot l k.mutex o.ours) is) w
  room_row (Row.HeirPends k b) g o own apart w is none = slot_still (by_pending _ is) w
  room_row (Row.Late k) g o own apart w is none = let e = still (none refl) in omega (arith, e, w)
  room_row (Row.HeirSets k) g o own apart w is none = slot_still (still (none refl)) w
  room_row (Row.HeirLooks k) g o own apart w is none = heir_looks_room k (W (cell_of k.mutex)) ((fields_of (W (cell_of k.mutex))).unusable || (is_free (W (cell_of k.mutex)) && c.yes)) c.again (slot_still (still (none refl)) w)
  room_row (Row.HeirPendsOn k v over) g o own apart w is none = watched_room k v over (slot_still (still (none refl)) w)
  room_row (Row.HeirTakes k v) g o own apart w is none = heir_takes_room k v w is none
  room_row (Row.HeirLinks k r) g o own apart w is none = along (Row.HeirLinks k r) (Row.Frees k (Has r)) tt tt
  room_row (Row.GivesUp k) g o own apart w is none = slot_still (still (none refl)) w
  room_row (Row.LastLooks k) g o own apart w is none = last_room k w is none
  room_row (Row.LastMarks k v) g o own apart w is none = last_marks_room k v o.0.ours w is none
  room_row (Row.Frees k f) g o own apart w is none = to_still f (by_pending _ is) w
  room_row (Row.FreeUnlinks k f) g o own apart w is none = let few = to_still f (by_list (Row.FreeUnlinks k f) (apart tt) is) w in along (Row.FreeUnlinks k f) (Row.FreeGives k f) few few
  room_row (Row.FreeGives k f) g o own apart w is none = freed_room k f (by_giving (slot_of k.mutex) (our_slot l k.mutex o.ours) is own.0.owner) w
  room_row (Row.TryLooks m) g o own apart w is none = looks is
    where
      looks : Is (made x t c (Row.TryLooks m)).access → Room (made x t c (Row.TryLooks m)).next
      looks = by_test (λ (n : Made). Is n.access → Room n.next) (is_free (W (cell_of m))) (makes (Access.Load (cell_at m)) [] (Row.TryPends m (W (cell_of m)))) (makes (Access.Load (cell_at m)) (Event.Begin t (OnMutex (TryLock (cell_of m))) ∷ Step t ∷ Step t ∷ Step t ∷ []) Row.Rests) (λ e is. lock_still (by_reading (Access.Load (cell_at m)) tt is) w) (λ e is. tt)
  room_row (Row.Links m r) g o own apart w is none = along (Row.Links m r) (Row.Clears m r) tt tt
  room_row (Row.TryTakes m v) g o own apart w is none = made_either (W (cell_of m) == v) (makes (Access.Exchange (address_in l t (cell_place l (cell_of m))) v (taken_word v t)) (Step t ∷ Step t ∷ []) (Row.Links m (acquired (fields_of v)))) (if is_free (W (cell_of m)) then makes (Access.Exchange (address_in l t (cell_place l (cell_of m))) v (taken_word v t)) [] (Row.TryTakes m (W (cell_of m))) else makes (Access.Exchange (address_in l t (cell_place l (cell_of m))) v (taken_word v t)) (Step t ∷ []) (Row.Clears m (if (fields_of (W (cell_of m))).unusable then ENOTRECOVERABLE else EBUSY))) tt
      (made_either (is_free (W (cell_of m))) (makes (Access.Exchange (address_in l t (cell_place l (cell_of m))) v (taken_word v t)) [] (Row.TryTakes m (W (cell_of m)))) (makes (Access.Exchange (address_in l t (cell_place l (cell_of m))) v (taken_word v t)) (Step t ∷ []) (Row.Clears m (if (fields_of (W (cell_of m))).unusable then ENOTRECOVERABLE else EBUSY))) tt tt)
  room_row (Row.GiveLooks m) g o own apart w is none = made_either ((fields_of (W (cell_of m))).owner == t) (makes (Access.Load (address_in l t (cell_place l (cell_of m)))) [] (Row.GivePends m (OfUnlock (fields_of (W (cell_of m))).died))) (makes (Access.Load (address_in l t (cell_place l (cell_of m)))) (Event.Begin t (OnMutex (Unlock (cell_of m))) ∷ Step t ∷ []) Row.Rests) tt tt
  room_row (Row.GiveUnlinks m y) g o own apart w is none = along (Row.GiveUnlinks m y) (unlinked_row x t c m y) tt (unlinked m y)
  room_row (Row.GiveFinds m y) g o own apart w is none = either c.again (Row.GiveFinds m y) (Row.Gives m y) tt tt
  room_row (Row.MendLooks m) g o own apart w is none = made_either (((fields_of (W (cell_of m))).owner == t) && (fields_of (W (cell_of m))).died) (makes (Access.Load (address_in l t (cell_place l (cell_of m)))) [] (Row.Mends m)) (makes (Access.Load (address_in l t (cell_place l (cell_of m)))) (Event.Begin t (OnMutex (Consistent (cell_of m))) ∷ Step t ∷ []) Row.Rests) tt tt
  room_row (Row.AnewLooks m) g o own apart w is none = either (fields_of (W (cell_of m))).unusable (Row.Anews m (W (cell_of m))) Row.Rests tt tt
  room_row (Row.Anews m v) g o own apart w is none = made_either (W (cell_of m) == v) (makes (Access.Exchange (address_in l t (cell_place l (cell_of m))) v (v - 4294967296 + 8589934592)) (Event.Remake t (cell_of m) ∷ []) Row.Rests) (makes (Access.Exchange (address_in l t (cell_place l (cell_of m))) v (v - 4294967296 + 8589934592)) [] (if (fields_of (W (cell_of m))).unusable then Row.Anews m (W (cell_of m)) else Row.Rests)) tt (either (fields_of (W (cell_of m))).unusable (Row.Anews m (W (cell_of m))) Row.Rests tt tt)
  room_row (Row.WaitLooks m k timed) g o own apart w is none = made_either ((fields_of (W (cell_of m))).owner == t) (makes (Access.Load (address_in l t (cell_place l (cell_of m)))) [] (Row.WaitCounts m k timed (fields_of (W (cell_of m))).died)) (makes (Access.Load (address_in l t (cell_place l (cell_of m)))) (wait_begins x t c k timed) Row.Rests) tt tt
  room_row (Row.WaitCounts m k timed died) g o own apart w is none = made_either died (makes (Access.Load (address_in l t (counter_place l k))) (wait_begins x t c k timed) Row.Rests) (makes (Access.Load (address_in l t (counter_place l k))) [] (Row.GivePends m (OfWait k (shown x (counter_place l k) % 4294967296) (shows_slept x t c (shown x (counter_place l k))) timed))) tt tt
  room_row (Row.WaitSets m k n timed) g o own apart w is none = either c.yes (Row.GiveFinds m (OfWait k n true timed)) (Row.Gives m (OfWait k n true timed)) tt tt
  room_row (Row.CountLooks m k all) g o own apart w is none = made_either ((fields_of (W (cell_of m))).owner == t) (makes (Access.Load (address_in l t (cell_place l (cell_of m)))) [] (Row.CountLoads m k all)) (makes (Access.Load (address_in l t (cell_place l (cell_of m)))) (refused_count x t c k all) Row.Rests) tt tt
  room_row (Row.Counts m k all n) g o own apart w is none = counted_room m k all (shows_slept x t c n) (counted x t c n % 4294967296)
  room_row (Row.CountWakes m k n) g o own apart w is none = either (is_nobody (x.machine.queues (counter_place l k))) (Row.Unsets m k n) Row.Rests tt tt
  room_row (Row.HandsOn m y n) g o own apart w is none = made_either (shows_heir (W (slot_of m)) && c.yes) (makes (Access.Load (address_in l t (cell_place l (slot_of m)))) (Event.Spare t (heir_of x.machine t (cell_of m)) ∷ []) (given_row x t c m y)) (makes (Access.Load (address_in l t (cell_place l (slot_of m)))) [] (Row.LooksBack m y n)) (given m y) tt
  room_row (Row.LooksBack m y n) g o own apart w is none = made_either ((fields_of (W (cell_of m))).owner == 0) (makes (Access.Load (address_in l t (cell_place l (cell_of m)))) [] (Row.WakesOne m y n)) (makes (Access.Load (address_in l t (cell_place l (cell_of m)))) (Event.Spare t left_to.Owner ∷ []) (given_row x t c m y)) tt (given m y)
  room_row (Row.Gives m y) g o own apart w is none = released_room m y (W (cell_of m))
  room_row (Row.WakesOne m y n) g o own apart w is none = woke m y n
  room_row r g o own apart w is none = tt
