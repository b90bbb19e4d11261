-- What a thread's own access leaves of the slot and the cell that its row says it owns, and of those that it doesn't own.
use Rattle.std.proofs.Common.{◌≡◌, ◌≢◌, ℕ, ◌+◌, ◌%◌, ◌<◌, ◌≤◌, ◌==◌, Bool, true, false, [], ◌∷◌, refl, sym, ap, ◌∙◌, subst, arith, eqb-true, bit_and, bit_or}
use Rattle.std.specs.Prelude.{if◌then◌else◌, not, ◌&&◌, ◌||◌, ◌-◌}
use Rattle.std.proofs.lemmas.Bool.{eqb-false}
use Rattle.lockword.specs.Cells.{Fields, fields_of}
use Rattle.lockword.proofs.Bits.{and_declared, or_waiting}
use Rattle.lockword.specs.Threads.{most_threads}
use Rattle.lockword.specs.declared.reply.Reply.TheVariants.{OK, EBUSY, EDEADLK, EINVAL, ETIMEDOUT, ENOTRECOVERABLE}
use Rattle.stepprograms.specs.declared.access.Access.{Access}
use Rattle.stepprograms.specs.Accesses.{address_of, changed, is_nobody}
use Rattle.memorymap.specs.Layouts.{Layout', address_in, cell_place, counter_place, head_place, place_in}
use Rattle.mutex.specs.Rows.{acquired}
use Rattle.mutex.proofs.Addresses.{head_further, head_word_again}
use Rattle.mutex.specs.declared.call.Call.TheVariants.{Consistent, TimedLock, TryLock, Unlock}
use Rattle.condvar.specs.declared.op.Op.TheVariants.{OnMutex}
use Rattle.protocol.specs.declared.event.Event.{Event}
use Rattle.protocol.specs.declared.event.Event.TheVariants.{Step, Spare}
use Rattle.protocol.specs.declared.event.LeftTo.TheVariants as left_to
use Rattle.protocol.specs.declared.thread.Stage.{Stage}
use Rattle.protocol.specs.Machine.{State, place_met, run, words_after}
use Rattle.protocol.proofs.Kept.{Kept}
use Rattle.protocol.proofs.Puts.{put-same}
use Rattle.protocol.proofs.Seeing.{cell_again, cell_in, counter_again}
use Rattle.slots.specs.Places.{cell_of, slot_of}
use Rattle.slots.specs.Rows.{Choice, Giving, How, Onward, Row, Taking, Then}
use Rattle.slots.specs.Rows.How.{Tried, Later, Waited}
use Rattle.slots.specs.Rows.Before.{Linked, Mended, Again}
use Rattle.slots.specs.Rows.Giving.{OfUnlock, OfWait}
use Rattle.slots.specs.Rows.Onward.{Has, Fails, Sleeps}
use Rattle.slots.specs.Rows.Then.{ToSleep, ToSlot}
use Rattle.slots.specs.Shown.{Slots, memory, shown}
use Rattle.slots.specs.Words.{is_free, is_moving}
use Rattle.slots.specs.Seen.{heir_of, later, owned_row}
use Rattle.slots.specs.Table.{Made, counted, counted_row, freed_row, given_row, is_on_list, made, makes, marked_events, marked_row, missed, on_cell, out_of}
use Rattle.slots.specs.Words.{shows_heir, taken_word, waiting_word}
use Rattle.slots.specs.Seen.{seen_events, seen_row, seen_to_sleep, sets_and_expires, sleep_row}
use Rattle.slots.specs.Table.{refused_count, released, shows_slept, to_slot, tries, unlinked_row, counted_row, wait_begins, watched_row, woke_row}
use Rattle.slots.specs.Invariant.{fields_at}
use Rattle.slots.specs.Fits.{AreOfUs, Fits, GivesOurs, IsOurs}
use Rattle.slots.specs.Accesses.{IsAlongList}
use Rattle.slots.specs.Premises.{Holds, Owning, OwnsNot, SleepsWithout, died_of}
use Rattle.slots.proofs.Leading.{by_test}
use Rattle.slots.proofs.ShownWords.{different, taken_died, taken_owner, waiting_not, IsReading, Shows, apart_words, missed_word, reads, shows_at}
use Rattle.slots.proofs.Owned.{our_cell, our_slot}
use Rattle.slots.proofs.Shows.{IsOfWord, cell_valid, changes}

-- ---- after an access

module _ (x y : Slots) (t : ℕ) (c : Choice) (inv : Kept x.machine) (pos : 1 ≤ t) (known : t ≤ x.machine.layout.threads) (small : t < 1073741824) (same : y.machine.layout ≡ x.machine.layout) where
  abbrev pub l : Layout'
  l = x.machine.layout

  abbrev pub W : ℕ → ℕ
  W k = shown x (cell_place l k)

  abbrev pub V : ℕ → ℕ
  V k = shown y (cell_place l k)

  abbrev pub Is : Access → Type 0
  Is a = (p : ℕ) → shown y p ≡ words_after (memory x) t a p

  pub says_x : (k : ℕ) → k < l.mutexes → Shows (x.machine.words (cell_place l k)) (W k)
  says_x k inside = shows_at x k inside

  pub says_y : (k : ℕ) → k < l.mutexes → Shows (y.machine.words (cell_place y.machine.layout k)) (V k)
  says_y k inside = subst (λ (j : Layout'). Shows (y.machine.words (cell_place y.machine.layout k)) (shown y (cell_place j k))) same (shows_at y k (subst (λ (j : Layout'). k < j.mutexes) (sym same) inside))

  -- its word is shown as before
  abbrev pub Keeps : ℕ → Type 0
  Keeps k = V k ≡ W k

  abbrev pub AllKeep : Type 0
  AllKeep = (k : ℕ) → k < l.mutexes → Keeps k

  pub by_reading : (a : Access) → IsReading a → Is a → AllKeep
  by_reading a reading is k inside = is (cell_place l k) ∙ reads (memory x) t a reading (cell_place l k)

  pub by_place : (a : Access) (pl : ℕ) → place_met l t a ≡ pl → ((k : ℕ) → k < l.mutexes → cell_place l k ≢ pl) → Is a → AllKeep
  by_place a pl place apart is k inside = is (cell_place l k) ∙ apart_words (memory x) t a (cell_place l k) (λ e. apart k inside (e ∙ place))

  pub by_miss : (k e n : ℕ) → k < l.mutexes → (W k == e) ≡ false → Is (Access.Exchange (cell_in l t k) e n) → AllKeep
  by_miss k e n inside other is j inside_j = is (cell_place l j) ∙ missed_word (memory x) t (cell_in l t k) e n (cell_place l k) (cell_again l t inv.layout pos known k inside) other (cell_place l j)

  pending_place : place_in l t (address_in l t (head_place t + 2)) ≡ head_place t + 2
  pending_place = ap (place_in l t) (sym (head_further l t inv.layout pos known 2 (omega arith))) ∙ head_word_again l t inv.layout pos known 2 (omega arith)

  pub by_pending : (e : ℕ) → Is (Access.Store (address_in l t (head_place t + 2)) e) → AllKeep
  by_pending e is = by_place (Access.Store (address_in l t (head_place t + 2)) e) (head_place t + 2) pending_place (λ k inside e. omega (arith, e)) is

  pub by_counter : (k v : ℕ) → AreOfUs l k v → (a : Access) → address_of a ≡ address_in l t (counter_place l v) → Is a → AllKeep
  by_counter m k o a at is = by_place a (counter_place l k) (ap (place_in l t) at ∙ counter_again l t inv.layout pos known k o.cell.inside) (λ j inside e. omega (arith, e, inside)) is

  -- the words of other mutexes are, and its own is changed
  pub others_keep : (a : Access) (k : ℕ) → k < l.mutexes → address_of a ≡ cell_in l t k → Is a → (j : ℕ) → j < l.mutexes → j ≢ k → Keeps j
  others_keep a k inside at is j inside_j apart = is (cell_place l j) ∙ apart_words (memory x) t a (cell_place l j) (λ e. apart (let f : cell_place l j ≡ cell_place l k = e ∙ ap (place_in l t) at ∙ cell_again l t inv.layout pos known k inside in omega (arith, f)))

  pub its_word : (a : Access) (k : ℕ) → IsOfWord a → k < l.mutexes → address_of a ≡ cell_in l t k → Is a → V k ≡ changed a (W k)
  its_word a k of inside at is = is (cell_place l k) ∙ changes (memory x) t (cell_place l k) a of (ap (place_in l t) at ∙ cell_again l t inv.layout pos known k inside) (cell_valid l k inside) (cell_place l k) ∙ put-same (shown x) (cell_place l k) (changed a (W k))

  -- ---- what that says of the machine's words

  owner_y : (k v : ℕ) → k < l.mutexes → V k ≡ v → (fields_at y.machine k).owner ≡ (fields_of v).owner
  owner_y k v inside e = sym (says_y k inside).owner ∙ ap (λ (u : ℕ). (fields_of u).owner) e

  died_y : (k v : ℕ) → k < l.mutexes → V k ≡ v → (fields_at y.machine k).died ≡ (fields_of v).died
  died_y k v inside e = sym (says_y k inside).died ∙ ap (λ (u : ℕ). (fields_of u).died) e

  owner_still : (k : ℕ) → k < l.mutexes → Keeps k → (fields_at y.machine k).owner ≡ (fields_at x.machine k).owner
  owner_still k inside keeps = owner_y k (W k) inside keeps ∙ (says_x k inside).owner

  died_still : (k : ℕ) → k < l.mutexes → Keeps k → (fields_at y.machine k).died ≡ (fields_at x.machine k).died
  died_still k inside keeps = died_y k (W k) inside keeps ∙ (says_x k inside).died

  holds_still : (k : ℕ) (d : Bool) → k < l.mutexes → Keeps k → Holds x.machine t k d → Holds y.machine t k d
  holds_still k d inside keeps h = record { owner = owner_still k inside keeps ∙ h.owner; died = died_still k inside keeps ∙ h.died }

  not_still : (m : ℕ) → IsOurs l m → Keeps (cell_of m) → OwnsNot x.machine t m → OwnsNot y.machine t m
  not_still m ours keeps w own = w (sym (owner_still (cell_of m) (our_cell l m ours) keeps) ∙ own)

  -- it saw the word as it is now
  not_seen : (m v : ℕ) → IsOurs l m → V (cell_of m) ≡ v → (fields_of v).owner ≢ t → OwnsNot y.machine t m
  not_seen m v ours e apart own = apart (sym (owner_y (cell_of m) v (our_cell l m ours) e) ∙ own)

  holds_seen : (m v : ℕ) (d : Bool) → IsOurs l m → V (cell_of m) ≡ v → (fields_of v).owner ≡ t → (fields_of v).died ≡ d → Holds y.machine t (cell_of m) d
  holds_seen m v d ours e own died = record { owner = owner_y (cell_of m) v (our_cell l m ours) e ∙ own; died = died_y (cell_of m) v (our_cell l m ours) e ∙ died }

  abbrev Slot : ℕ → Bool → Type 0
  Slot m d = Holds y.machine t (slot_of m) d × OwnsNot y.machine t m

  slot_still : (m : ℕ) (d : Bool) → IsOurs l m → AllKeep → Holds x.machine t (slot_of m) d × OwnsNot x.machine t m → Slot m d
  slot_still m d ours all (h, w) = (holds_still (slot_of m) d (our_slot l m ours) (all (slot_of m) (our_slot l m ours)) h, not_still m ours (all (cell_of m) (our_cell l m ours)) w)

  sleeps_still : (m : ℕ) (f : Onward) → IsOurs l m → Keeps (cell_of m) → SleepsWithout x.machine t m f → SleepsWithout y.machine t m f
  sleeps_still m (Has r) ours keeps w = tt
  sleeps_still m (Fails r) ours keeps w = tt
  sleeps_still m Sleeps ours keeps w = not_still m ours keeps w

  -- a word of the slot after AWAKE is said or cleared, after it is taken, declared
  -- an access of the slot leaves the cell
  at_slot_not : (m : ℕ) → IsOurs l m → (a : Access) → address_of a ≡ cell_in l t (slot_of m) → Is a → OwnsNot x.machine t m → OwnsNot y.machine t m
  at_slot_not m ours a at is w = not_still m ours (others_keep a (slot_of m) (our_slot l m ours) at is (cell_of m) (our_cell l m ours) (different m)) w

  -- an access of the cell leaves the slot
  at_cell_slot : (m : ℕ) (d : Bool) → IsOurs l m → (a : Access) → address_of a ≡ cell_in l t (cell_of m) → Is a → Holds x.machine t (slot_of m) d → Holds y.machine t (slot_of m) d
  at_cell_slot m d ours a at is h = holds_still (slot_of m) d (our_slot l m ours) (others_keep a (cell_of m) (our_cell l m ours) at is (slot_of m) (our_slot l m ours) (λ e. different m (sym e))) h

  -- ---- the next row

  abbrev Owns : Row → Type 0
  Owns r = Owning y.machine t r

  -- where an access leads, if it is made so, and if the machine stays without events
  abbrev Leads : Made → Type 0
  Leads n = Is n.access → (n.events ≡ [] → y.machine ≡ x.machine) → Owns n.next

  either : (b : Bool) (r s : Row) → Owns r → Owns s → Owns (if b then r else s)
  either true r s first second = first
  either false r s first second = second

  pub either_made : (b : Bool) (n o : Made) → Owns n.next → Owns o.next → Owns (if b then n else o).next
  either_made true n o first second = first
  either_made false n o first second = second

  still : y.machine ≡ x.machine → (r : Row) → Owning x.machine t r → Owns r
  still e r w = subst (λ (z : State). Owning z t r) (sym e) w

  lost_owning : (m : ℕ) (b : Bool) → Owns (if b then Row.WakesAll m ENOTRECOVERABLE else Row.Clears m ENOTRECOVERABLE)
  lost_owning m true = tt
  lost_owning m false = tt

  owned_owning : (k : Taking) (h : How) (w : ℕ) → OwnsNot y.machine t k.mutex → Owns (owned_row k h w)
  owned_owning k Tried w n = either k.wrong (Row.Clears k.mutex EINVAL) (Row.Chooses k w) tt n
  owned_owning k Later w n = n
  owned_owning k (Waited z) w n = n

  seen_owning : (k : Taking) (w : ℕ) → IsOurs l k.mutex → V (cell_of k.mutex) ≡ w → Owns (seen_row t k w)
  seen_owning k w ours e = go (fields_of w).unusable ((fields_of w).owner == 0) ((fields_of w).owner == t) refl
    where
      go : (a b d : Bool) → ((fields_of w).owner == t) ≡ d → Owns (if a then (if (fields_of w).waiters then Row.WakesAll k.mutex ENOTRECOVERABLE else Row.Clears k.mutex ENOTRECOVERABLE) else if b then Row.Takes k w else if d then Row.Clears k.mutex EDEADLK else owned_row k k.how w)
      go true b d f = lost_owning k.mutex (fields_of w).waiters
      go false true d f = tt
      go false false true f = tt
      go false false false f = owned_owning k k.how w (not_seen k.mutex w ours e (λ own. eqb-false (fields_of w).owner t f own))

  sleep_owning : (k : Taking) (w : ℕ) → OwnsNot y.machine t k.mutex → Owns (sleep_row k w)
  sleep_owning k w n = either (fields_of w).waiters (Row.SleepsOn k w) (Row.Marks k w ToSleep) tt n

  to_sleep_owning : (k : Taking) (w : ℕ) → OwnsNot y.machine t k.mutex → Owns (seen_to_sleep k w)
  to_sleep_owning k w n = go (fields_of w).unusable ((fields_of w).owner == 0)
    where
      go : (a b : Bool) → Owns (if a then (if (fields_of w).waiters then Row.WakesAll k.mutex ENOTRECOVERABLE else Row.Clears k.mutex ENOTRECOVERABLE) else if b then Row.Takes k w else sleep_row k w)
      go true b = lost_owning k.mutex (fields_of w).waiters
      go false true = tt
      go false false = sleep_owning k w n

  to_slot_owning : (k : Taking) (h : How) (v sl : ℕ) → OwnsNot y.machine t k.mutex → Owns (to_slot x t c k h v sl)
  to_slot_owning k Tried v sl n = n
  to_slot_owning k Later v sl n = either (fields_of v).waiters (Row.SlotPends k sl) (Row.Marks k v (ToSlot sl)) n n
  to_slot_owning k (Waited z) v sl n = either (fields_of v).waiters (Row.SlotPends k sl) (Row.Marks k v (ToSlot sl)) n n

  chosen_owning : (k : Taking) (v : ℕ) → OwnsNot y.machine t k.mutex → Owns (made x t c (Row.Chooses k v)).next
  chosen_owning k v n = either (tries x t c k.how && is_moving sl && c.again) (Row.SeesAgain k v) (if tries x t c k.how && ((fields_of sl).owner == 0) && c.yes then to_slot x t c k k.how v sl else sleep_row k v) n
      (either (tries x t c k.how && ((fields_of sl).owner == 0) && c.yes) (to_slot x t c k k.how v sl) (sleep_row k v) (to_slot_owning k k.how v sl n) (sleep_owning k v n))
    where
      sl : ℕ
      sl = W (slot_of k.mutex)

  watched_owning : (k : Taking) (v : ℕ) (over : Bool) → Slot k.mutex false → Owns (watched_row x t c k v over)
  watched_owning k v over n = either (over && is_free v) (Row.HeirTakes k v) (if over && not (fields_of v).unusable && not (k.timed && c.yes) then Row.HeirPends k Again else Row.GivesUp k) n
      (either (over && not (fields_of v).unusable && not (k.timed && c.yes)) (Row.HeirPends k Again) (Row.GivesUp k) n n)

  out_owning : (k : Taking) → Slot k.mutex false → Owns (out_of x t c k)
  out_owning k n = either (k.timed && c.yes) (Row.Frees k (Fails ETIMEDOUT)) (Row.Frees k Sleeps) (n.0, tt) n

  marked_owning : (k : Taking) (h : How) (v : ℕ) (n : Then) → OwnsNot y.machine t k.mutex → Owns (marked_row x t c k h v n)
  marked_owning k h v (ToSlot sl) w = w
  marked_owning k (Waited z) v ToSleep w = tt
  marked_owning k Tried v ToSleep w = tt
  marked_owning k Later v ToSleep w = tt

  asleep_owning : (k : Taking) (h : How) (v w : ℕ) → Owns (on_cell x t c k h v w).next
  asleep_owning k (Waited z) v w = tt
  asleep_owning k Tried v w = by_test (λ (n : Made). Owns n.next) (w % 4294967296 == v % 4294967296) (makes (Access.Wait (cell_in l t (cell_of k.mutex)) (v % 4294967296)) _ (Row.Asleep (later k))) (makes (Access.Wait (cell_in l t (cell_of k.mutex)) (v % 4294967296)) _ (Row.Asleep (later k))) (λ e. tt) (λ e. tt)
  asleep_owning k Later v w = by_test (λ (n : Made). Owns n.next) (w % 4294967296 == v % 4294967296) (makes (Access.Wait (cell_in l t (cell_of k.mutex)) (v % 4294967296)) _ (Row.Asleep (later k))) (makes (Access.Wait (cell_in l t (cell_of k.mutex)) (v % 4294967296)) _ (Row.Asleep (later k))) (λ e. tt) (λ e. tt)

  -- ---- an exchange

  pub hit : (k v n : ℕ) → k < l.mutexes → (W k == v) ≡ true → Is (Access.Exchange (cell_in l t k) v n) → V k ≡ n
  hit k v n inside e is = its_word (Access.Exchange (cell_in l t k) v n) k tt inside refl is ∙ ap (λ (b : Bool). if b then n else W k) e

  slot_taken : (k : Taking) (sl : ℕ) → IsOurs l k.mutex → (W (slot_of k.mutex) == sl) ≡ true → OwnsNot x.machine t k.mutex → Is (Access.Exchange (cell_in l t (slot_of k.mutex)) sl (taken_word sl t)) → Slot k.mutex (fields_of sl).died
  slot_taken k sl ours e n is = (
    record { owner = owner_y (slot_of k.mutex) (taken_word sl t) inside found ∙ taken_owner t sl small; died = died_y (slot_of k.mutex) (taken_word sl t) inside found ∙ taken_died t sl small },
    at_slot_not k.mutex ours (Access.Exchange (cell_in l t (slot_of k.mutex)) sl (taken_word sl t)) refl is n,
  )
    where
      inside : slot_of k.mutex < l.mutexes
      inside = our_slot l k.mutex ours

      found : V (slot_of k.mutex) ≡ taken_word sl t
      found = hit (slot_of k.mutex) sl (taken_word sl t) inside e is

  -- ---- each row

  abbrev pub cell_at : ℕ → ℕ
  cell_at m = cell_in l t (cell_of m)

  abbrev pub slot_at : ℕ → ℕ
  slot_at m = cell_in l t (slot_of m)

  unlinked_owning : (m : ℕ) (g : Giving) → Holds y.machine t (cell_of m) (died_of g) → Owns (unlinked_row x t c m g)
  unlinked_owning m (OfUnlock d) h = either c.yes (Row.GiveFinds m (OfUnlock d)) (Row.Gives m (OfUnlock d)) h h
  unlinked_owning m (OfWait k n true timed) h = either c.yes (Row.GiveFinds m (OfWait k n true timed)) (Row.Gives m (OfWait k n true timed)) h h
  unlinked_owning m (OfWait k n false timed) h = h

  given_owning : (m : ℕ) (g : Giving) → Owns (given_row x t c m g)
  given_owning m (OfUnlock d) = tt
  given_owning m (OfWait k n slept timed) = tt

  released_owning : (m : ℕ) (g : Giving) (w : ℕ) → Owns (released x t c m g w)
  released_owning m (OfUnlock true) w = either (fields_of w).waiters (Row.WakesAll m OK) (Row.Clears m OK) tt tt
  released_owning m (OfUnlock false) w = either (fields_of w).waiters (if c.yes then Row.WakesOne m (OfUnlock false) (w - t) else Row.HandsOn m (OfUnlock false) (w - t)) (Row.Clears m OK) (either c.yes (Row.WakesOne m (OfUnlock false) (w - t)) (Row.HandsOn m (OfUnlock false) (w - t)) tt tt) tt
  released_owning m (OfWait k n slept timed) w = either (fields_of w).waiters (if c.yes then Row.WakesOne m (OfWait k n slept timed) (w - t) else Row.HandsOn m (OfWait k n slept timed) (w - t)) (Row.WaitSleeps m k n timed) (either c.yes (Row.WakesOne m (OfWait k n slept timed) (w - t)) (Row.HandsOn m (OfWait k n slept timed) (w - t)) tt tt) tt

  woke_owning : (m : ℕ) (g : Giving) (is : ℕ) → Owns (woke_row x t c m g is)
  woke_owning m (OfUnlock d) is = either (is_nobody (x.machine.queues (cell_place l (cell_of m)))) (Row.Trims m is) (Row.Clears m OK) tt tt
  woke_owning m (OfWait k n slept timed) is = tt

  freed_owning : (k : Taking) (f : Onward) → SleepsWithout y.machine t k.mutex f → Owns (freed_row x t c k f)
  freed_owning k (Has r) w = tt
  freed_owning k (Fails r) w = tt
  freed_owning k Sleeps w = w

  counted_owning : (m k : ℕ) (all slept : Bool) (n : ℕ) → (fields_at y.machine (cell_of m)).owner ≡ t → Owns (counted_row x t c m k all slept n)
  counted_owning m k all false n own = tt
  counted_owning m k false true n own = own
  counted_owning m k true true n own = own

  both_of : (a b : Bool) → (a && b) ≡ true → (a ≡ true) × (b ≡ true)
  both_of true true e = (refl, refl)
  both_of true false e = absurd cc
  both_of false b e = absurd cc

  last_owning : (k : Taking) → IsOurs l k.mutex → Holds x.machine t (slot_of k.mutex) false × OwnsNot x.machine t k.mutex → Leads (made x t c (Row.LastLooks k))
  last_owning k ours h = go (fields_of w).unusable ((fields_of w).owner == 0) (fields_of w).waiters
    where
      w : ℕ
      w = W (cell_of k.mutex)

      look : Access
      look = Access.Load (cell_at k.mutex)

      go : (a b d : Bool) → Leads (
          if a then makes look (Step t ∷ []) (if d then Row.HeirWakes k else Row.Frees k (Fails ENOTRECOVERABLE))
          else if b then makes look [] (Row.HeirPends k Again)
          else if d then makes look (Step t ∷ (Step t ∷ (Event.Expire t ∷ []))) (out_of x t c k)
          else makes look [] (Row.LastMarks k w)
          )
      go true b true is none = (slot_still k.mutex false ours (by_reading look tt is) h).0
      go true b false is none = ((slot_still k.mutex false ours (by_reading look tt is) h).0, tt)
      go false true d is none = slot_still k.mutex false ours (by_reading look tt is) h
      go false false true is none = out_owning k (slot_still k.mutex false ours (by_reading look tt is) h)
      go false false false is none = slot_still k.mutex false ours (by_reading look tt is) h

  -- accesses along the list are at the thread's own words
  abbrev pub IsApartFromCells : Row → Type 0
  IsApartFromCells r = (k : ℕ) → k < l.mutexes → cell_place l k ≢ place_met l t (made x t c r).access

  along : (here behind : Row) → AllKeep → (AllKeep → Owns here) → (AllKeep → Owns behind) → Owns (if is_on_list ((run x.machine (Step t ∷ [])).threads t).stage then here else behind)
  along here behind keeps now then_on = either (is_on_list ((run x.machine (Step t ∷ [])).threads t).stage) here behind (now keeps) (then_on keeps)

  on_list : (r : Row) → IsApartFromCells r → Is (made x t c r).access → AllKeep
  on_list r apart is = by_place (made x t c r).access (place_met l t (made x t c r).access) refl apart is

  linked_owning : (k : Taking) (d : Bool) → Slot k.mutex d → Owns (if d then Row.SlotClears k else Row.HeirPends k Linked)
  linked_owning k true w = w
  linked_owning k false w = w

  holds_cell : (m : ℕ) (d : Bool) → IsOurs l m → AllKeep → Holds x.machine t (cell_of m) d → Holds y.machine t (cell_of m) d
  holds_cell m d ours all h = holds_still (cell_of m) d (our_cell l m ours) (all (cell_of m) (our_cell l m ours)) h

  holds_slot : (m : ℕ) (d : Bool) → IsOurs l m → AllKeep → Holds x.machine t (slot_of m) d → Holds y.machine t (slot_of m) d
  holds_slot m d ours all h = holds_still (slot_of m) d (our_slot l m ours) (all (slot_of m) (our_slot l m ours)) h

  owns_cell : (m : ℕ) → IsOurs l m → AllKeep → (fields_at x.machine (cell_of m)).owner ≡ t → (fields_at y.machine (cell_of m)).owner ≡ t
  owns_cell m ours all own = owner_still (cell_of m) (our_cell l m ours) (all (cell_of m) (our_cell l m ours)) ∙ own

  not_cell : (m : ℕ) → IsOurs l m → AllKeep → OwnsNot x.machine t m → OwnsNot y.machine t m
  not_cell m ours all w = not_still m ours (all (cell_of m) (our_cell l m ours)) w

  gives_ours : (m : ℕ) (g : Giving) → GivesOurs l m g → IsOurs l m
  gives_ours m (OfUnlock d) o = o
  gives_ours m (OfWait k n slept timed) o = o.ours

  freeing : (k : Taking) (f : Onward) → IsOurs l k.mutex → AllKeep → Holds x.machine t (slot_of k.mutex) false × SleepsWithout x.machine t k.mutex f → Holds y.machine t (slot_of k.mutex) false × SleepsWithout y.machine t k.mutex f
  freeing k f ours all (h, w) = (holds_slot k.mutex false ours all h, sleeps_still k.mutex f ours (all (cell_of k.mutex) (our_cell l k.mutex ours)) w)

  marks_owning : (k : Taking) (v : ℕ) (n : Then) → IsOurs l k.mutex → OwnsNot x.machine t k.mutex → (fields_of v).owner ≢ t → Leads (made x t c (Row.Marks k v n))
  marks_owning k v n ours w other = by_test Leads (W (cell_of k.mutex) == v)
      (makes (Access.Exchange (cell_at k.mutex) v (waiting_word v)) (marked_events x t c k k.how) (marked_row x t c k k.how v n))
      (missed x t c (Access.Exchange (cell_at k.mutex) v (waiting_word v)) k k.how (W (cell_of k.mutex)))
      (λ e is none. marked_owning k k.how v n (not_seen k.mutex (waiting_word v) ours (hit (cell_of k.mutex) v (waiting_word v) (our_cell l k.mutex ours) e is) (waiting_not t v other)))
      (λ e is none. miss k.how e is)
    where
      keeps : (W (cell_of k.mutex) == v) ≡ false → Is (Access.Exchange (cell_at k.mutex) v (waiting_word v)) → V (cell_of k.mutex) ≡ W (cell_of k.mutex)
      keeps e is = by_miss (cell_of k.mutex) v (waiting_word v) (our_cell l k.mutex ours) e is (cell_of k.mutex) (our_cell l k.mutex ours)

      miss : (h : How) → (W (cell_of k.mutex) == v) ≡ false → Is (missed x t c (Access.Exchange (cell_at k.mutex) v (waiting_word v)) k h (W (cell_of k.mutex))).access → Owns (missed x t c (Access.Exchange (cell_at k.mutex) v (waiting_word v)) k h (W (cell_of k.mutex))).next
      miss Tried e is = seen_owning (later k) (W (cell_of k.mutex)) ours (keeps e is)
      miss Later e is = seen_owning k (W (cell_of k.mutex)) ours (keeps e is)
      miss (Waited z) e is = seen_owning k (W (cell_of k.mutex)) ours (keeps e is)

  last_marks_owning : (k : Taking) (v : ℕ) → IsOurs l k.mutex → Holds x.machine t (slot_of k.mutex) false × OwnsNot x.machine t k.mutex → (fields_of v).owner ≢ t → Leads (made x t c (Row.LastMarks k v))
  last_marks_owning k v ours (h, w) other = by_test Leads (W (cell_of k.mutex) == v)
      (makes (Access.Exchange (cell_at k.mutex) v (waiting_word v)) (sets_and_expires t) (out_of x t c k))
      (makes (Access.Exchange (cell_at k.mutex) v (waiting_word v)) [] (Row.HeirPends k Again))
      (λ e is none. out_owning k (
        at_cell_slot k.mutex false ours (Access.Exchange (cell_at k.mutex) v (waiting_word v)) refl is h,
        not_seen k.mutex (waiting_word v) ours (hit (cell_of k.mutex) v (waiting_word v) (our_cell l k.mutex ours) e is) (waiting_not t v other),
      ))
      (λ e is none. still (none refl) (Row.HeirPends k Again) (h, w))

  slot_takes_owning : (k : Taking) (sl : ℕ) → IsOurs l k.mutex → OwnsNot x.machine t k.mutex → Leads (made x t c (Row.SlotTakes k sl))
  slot_takes_owning k sl ours w = by_test Leads (W (slot_of k.mutex) == sl)
      (makes (Access.Exchange (slot_at k.mutex) sl (taken_word sl t)) (Step t ∷ Step t ∷ []) (Row.SlotLinks k (fields_of sl).died))
      (if (fields_of (W (slot_of k.mutex))).owner == 0 then makes (Access.Exchange (slot_at k.mutex) sl (taken_word sl t)) [] (Row.SlotTakes k (W (slot_of k.mutex))) else makes (Access.Exchange (slot_at k.mutex) sl (taken_word sl t)) (Step t ∷ []) (Row.SlotLeft k))
      (λ e is none. slot_taken k sl ours e w is)
      (λ e. by_test Leads ((fields_of (W (slot_of k.mutex))).owner == 0) (makes (Access.Exchange (slot_at k.mutex) sl (taken_word sl t)) [] (Row.SlotTakes k (W (slot_of k.mutex)))) (makes (Access.Exchange (slot_at k.mutex) sl (taken_word sl t)) (Step t ∷ []) (Row.SlotLeft k))
      (λ f is none. still (none refl) (Row.SlotTakes k sl) w)
      (λ f is none. at_slot_not k.mutex ours (Access.Exchange (slot_at k.mutex) sl (taken_word sl t)) refl is w))

  heir_takes_owning : (k : Taking) (v : ℕ) → IsOurs l k.mutex → Holds x.machine t (slot_of k.mutex) false × OwnsNot x.machine t k.mutex → Leads (made x t c (Row.HeirTakes k v))
  heir_takes_owning k v ours (h, w) = by_test Leads (W (cell_of k.mutex) == v)
      (makes (Access.Exchange (cell_at k.mutex) v (taken_word v t)) (Step t ∷ Step t ∷ []) (Row.HeirHas k (acquired (fields_of v))))
      (makes (Access.Exchange (cell_at k.mutex) v (taken_word v t)) [] (watched_row x t c k (W (cell_of k.mutex)) true))
      (λ e is none. at_cell_slot k.mutex false ours (Access.Exchange (cell_at k.mutex) v (taken_word v t)) refl is h)
      (λ e is none. watched_owning k (W (cell_of k.mutex)) true (still (none refl) (Row.HeirSets k) (h, w)))

  takes_owning : (k : Taking) (v : ℕ) → IsOurs l k.mutex → Leads (made x t c (Row.Takes k v))
  takes_owning k v ours = by_test Leads (W (cell_of k.mutex) == v)
      (makes (Access.Exchange (cell_at k.mutex) v (taken_word v t)) (Step t ∷ Step t ∷ []) (Row.Links k.mutex (acquired (fields_of v))))
      (makes (Access.Exchange (cell_at k.mutex) v (taken_word v t)) (seen_events t k.mutex k.how (W (cell_of k.mutex))) (seen_row t k (W (cell_of k.mutex))))
      (λ e is none. tt)
      (λ e is none. seen_owning k (W (cell_of k.mutex)) ours (by_miss (cell_of k.mutex) v (taken_word v t) (our_cell l k.mutex ours) e is (cell_of k.mutex) (our_cell l k.mutex ours)))

  try_takes_owning : (m v : ℕ) → Leads (made x t c (Row.TryTakes m v))
  try_takes_owning m v = by_test Leads (W (cell_of m) == v)
      (makes (Access.Exchange (cell_at m) v (taken_word v t)) (Step t ∷ Step t ∷ []) (Row.Links m (acquired (fields_of v))))
      (if is_free (W (cell_of m)) then makes (Access.Exchange (cell_at m) v (taken_word v t)) [] (Row.TryTakes m (W (cell_of m))) else makes (Access.Exchange (cell_at m) v (taken_word v t)) (Step t ∷ []) (Row.Clears m (if (fields_of (W (cell_of m))).unusable then ENOTRECOVERABLE else EBUSY)))
      (λ e is none. tt)
      (λ e. by_test Leads (is_free (W (cell_of m))) (makes (Access.Exchange (cell_at m) v (taken_word v t)) [] (Row.TryTakes m (W (cell_of m)))) (makes (Access.Exchange (cell_at m) v (taken_word v t)) (Step t ∷ []) (Row.Clears m (if (fields_of (W (cell_of m))).unusable then ENOTRECOVERABLE else EBUSY)))
      (λ f is none. tt) (λ f is none. tt))

  anews_owning : (m v : ℕ) → Leads (made x t c (Row.Anews m v))
  anews_owning m v = by_test Leads (W (cell_of m) == v)
      (makes (Access.Exchange (cell_at m) v (v - 4294967296 + 8589934592)) (Event.Remake t (cell_of m) ∷ []) Row.Rests)
      (makes (Access.Exchange (cell_at m) v (v - 4294967296 + 8589934592)) [] (if (fields_of (W (cell_of m))).unusable then Row.Anews m (W (cell_of m)) else Row.Rests))
      (λ e is none. tt)
      (λ e is none. either (fields_of (W (cell_of m))).unusable (Row.Anews m (W (cell_of m))) Row.Rests tt tt)

  declared : (k : Taking) → IsOurs l k.mutex → Holds x.machine t (slot_of k.mutex) true × OwnsNot x.machine t k.mutex → Is (Access.FetchAnd (slot_at k.mutex) 18446744072635809791) → Slot k.mutex false
  declared k ours (h, w) is = (
    record { owner = owner_y (slot_of k.mutex) (bit_and (W (slot_of k.mutex)) 18446744072635809791) inside found ∙ (and_declared (W (slot_of k.mutex))).owner ∙ (says_x (slot_of k.mutex) inside).owner ∙ h.owner; died = died_y (slot_of k.mutex) (bit_and (W (slot_of k.mutex)) 18446744072635809791) inside found ∙ (and_declared (W (slot_of k.mutex))).died },
    at_slot_not k.mutex ours (Access.FetchAnd (slot_at k.mutex) 18446744072635809791) refl is w,
  )
    where
      inside : slot_of k.mutex < l.mutexes
      inside = our_slot l k.mutex ours

      found : V (slot_of k.mutex) ≡ bit_and (W (slot_of k.mutex)) 18446744072635809791
      found = its_word (Access.FetchAnd (slot_at k.mutex) 18446744072635809791) (slot_of k.mutex) tt inside refl is

  heir_looks_owning : (k : Taking) (v : ℕ) (a b : Bool) → Slot k.mutex false → Owns (if a then Row.HeirPendsOn k v true else if b then Row.HeirPends k Again else Row.HeirPendsOn k v false)
  heir_looks_owning k v true b w = w
  heir_looks_owning k v false true w = w
  heir_looks_owning k v false false w = w

  pub owning_row : (r : Row) (g : Stage) → Fits l t r g → Owning x.machine t r → (IsAlongList r → IsApartFromCells r) → Leads (made x t c r)
  owning_row Row.Rests g o w apart is none = tt
  owning_row (Row.Looks k) g o w apart is none = either_made ((fields_of (W (cell_of k.mutex))).owner == t) (makes (Access.Load (cell_at k.mutex)) (Event.Begin t (OnMutex (TimedLock (cell_of k.mutex))) ∷ Step t ∷ Step t ∷ Step t ∷ []) Row.Rests) (makes (Access.Load (cell_at k.mutex)) [] (Row.Pends k (W (cell_of k.mutex)))) tt tt
  owning_row (Row.Pends k v) g o w apart is none = either (is_free v) (Row.Takes k v) (Row.Sees k) tt tt
  owning_row (Row.Sees k) g o w apart is none = seen_owning k (W (cell_of k.mutex)) o.ours (by_reading (Access.Load (cell_at k.mutex)) tt is (cell_of k.mutex) (our_cell l k.mutex o.ours))
  owning_row (Row.Takes k v) g o w apart is none = takes_owning k v o.0.ours is none
  owning_row (Row.Links m r) g o w apart is none = either (is_on_list ((run x.machine (Step t ∷ [])).threads t).stage) (Row.Links m r) (Row.Clears m r) tt tt
  owning_row (Row.Clears m r) g o w apart is none = tt
  owning_row (Row.Chooses k v) g o w apart is none = chosen_owning k v (still (none refl) (Row.Chooses k v) w)
  owning_row (Row.SeesAgain k v) g o w apart is none = seen_owning k (W (cell_of k.mutex)) o.0.ours (by_reading (Access.Load (cell_at k.mutex)) tt is (cell_of k.mutex) (our_cell l k.mutex o.0.ours))
  owning_row (Row.Marks k v ToSleep) g o w apart is none = marks_owning k v ToSleep o.0.ours w o.1.other is none
  owning_row (Row.Marks k v (ToSlot sl)) g o w apart is none = marks_owning k v (ToSlot sl) o.0.ours w o.1.0.other is none
  owning_row (Row.SleepsOn k v) g o w apart is none = asleep_owning k k.how v (W (cell_of k.mutex))
  owning_row (Row.Asleep k) g o w apart is none = tt
  owning_row (Row.Late k) g o w apart is none = tt
  owning_row (Row.LateSees k) g o w apart is none = tt
  owning_row (Row.WakesAll m r) g o w apart is none = tt
  owning_row (Row.SlotPends k sl) g o w apart is none = not_cell k.mutex o.0.ours (by_pending _ is) w
  owning_row (Row.SlotTakes k sl) g o w apart is none = slot_takes_owning k sl o.0.ours w is none
  owning_row (Row.SlotLeft k) g o w apart is none = not_cell k.mutex o.ours (by_pending _ is) w
  owning_row (Row.SeesToSleep k) g o w apart is none = to_sleep_owning k (W (cell_of k.mutex)) (not_cell k.mutex o.0.ours (by_reading (Access.Load (cell_at k.mutex)) tt is) w)
  owning_row (Row.SlotLinks k d) g o w apart is none = along (Row.SlotLinks k d) (if d then Row.SlotClears k else Row.HeirPends k Linked) (on_list (Row.SlotLinks k d) (apart tt) is) (λ all. slot_still k.mutex d o.ours all w) (λ all. linked_owning k d (slot_still k.mutex d o.ours all w))
  owning_row (Row.SlotClears k) g o w apart is none = slot_still k.mutex true o.ours (by_pending 0 is) w
  owning_row (Row.SlotQuiets k) g o w apart is none = still (none refl) (Row.SlotMends k) w
  owning_row (Row.SlotMends k) g o w apart is none = declared k o.ours w is
  owning_row (Row.HeirPends k Linked) g o w apart is none = slot_still k.mutex false o.ours (by_pending _ is) w
  owning_row (Row.HeirPends k Mended) g o w apart is none = slot_still k.mutex false o.ours (by_pending _ is) w
  owning_row (Row.HeirPends k Again) g o w apart is none = still (none refl) (Row.HeirSets k) w
  owning_row (Row.HeirSets k) g o w apart is none = still (none refl) (Row.HeirLooks k) w
  owning_row (Row.HeirLooks k) g o w apart is none = heir_looks_owning k (W (cell_of k.mutex)) ((fields_of (W (cell_of k.mutex))).unusable || (is_free (W (cell_of k.mutex)) && c.yes)) c.again (still (none refl) (Row.HeirLooks k) w)
  owning_row (Row.HeirPendsOn k v over) g o w apart is none = watched_owning k v over (still (none refl) (Row.HeirSets k) w)
  owning_row (Row.HeirTakes k v) g o w apart is none = heir_takes_owning k v o.0.ours w is none
  owning_row (Row.HeirHas k r) g o w apart is none = still (none refl) (Row.HeirLinks k r) w
  owning_row (Row.HeirLinks k r) g o w apart is none = along (Row.HeirLinks k r) (Row.Frees k (Has r)) (on_list (Row.HeirLinks k r) (apart tt) is) (λ all. holds_slot k.mutex false o.ours all w) (λ all. (holds_slot k.mutex false o.ours all w, tt))
  owning_row (Row.GivesUp k) g o w apart is none = still (none refl) (Row.LastLooks k) w
  owning_row (Row.LastLooks k) g o w apart is none = last_owning k o.ours w is none
  owning_row (Row.LastMarks k v) g o w apart is none = last_marks_owning k v o.0.ours w o.1.other is none
  owning_row (Row.HeirWakes k) g o w apart is none = (holds_slot k.mutex false o.ours (by_reading (Access.Wake (cell_at k.mutex) most_threads) tt is) w, tt)
  owning_row (Row.Frees k f) g o w apart is none = freeing k f o.ours (by_pending _ is) w
  owning_row (Row.FreeUnlinks k f) g o w apart is none = along (Row.FreeUnlinks k f) (Row.FreeGives k f) (on_list (Row.FreeUnlinks k f) (apart tt) is) (λ all. freeing k f o.ours all w) (λ all. freeing k f o.ours all w)
  owning_row (Row.FreeGives k f) g o w apart is none = freed_owning k f (sleeps_still k.mutex f o.ours (others_keep (Access.FetchXor (slot_at k.mutex) t) (slot_of k.mutex) (our_slot l k.mutex o.ours) refl is (cell_of k.mutex) (our_cell l k.mutex o.ours) (different k.mutex)) w.1)
  owning_row (Row.TryLooks m) g o w apart is none = either_made (is_free (W (cell_of m))) (makes (Access.Load (cell_at m)) [] (Row.TryPends m (W (cell_of m)))) (makes (Access.Load (cell_at m)) (Event.Begin t (OnMutex (TryLock (cell_of m))) ∷ Step t ∷ Step t ∷ Step t ∷ []) Row.Rests) tt tt
  owning_row (Row.TryPends m v) g o w apart is none = tt
  owning_row (Row.TryTakes m v) g o w apart is none = try_takes_owning m v is none
  owning_row (Row.GiveLooks m) g o w apart is none = by_test Leads ((fields_of (W (cell_of m))).owner == t)
      (makes (Access.Load (cell_at m)) [] (Row.GivePends m (OfUnlock (fields_of (W (cell_of m))).died))) (makes (Access.Load (cell_at m)) (Event.Begin t (OnMutex (Unlock (cell_of m))) ∷ Step t ∷ []) Row.Rests)
      (λ e is none. holds_seen m (W (cell_of m)) (fields_of (W (cell_of m))).died o (by_reading (Access.Load (cell_at m)) tt is (cell_of m) (our_cell l m o)) (eqb-true (fields_of (W (cell_of m))).owner t e) refl) (λ e is none. tt) is none
  owning_row (Row.GivePends m (OfUnlock d)) g o w apart is none = holds_cell m d o (by_pending _ is) w
  owning_row (Row.GivePends m (OfWait k n slept timed)) g o w apart is none = holds_cell m false o.ours (by_pending _ is) w
  owning_row (Row.GiveUnlinks m y) g o w apart is none = along (Row.GiveUnlinks m y) (unlinked_row x t c m y) (on_list (Row.GiveUnlinks m y) (apart tt) is) (λ all. holds_cell m (died_of y) (gives_ours m y o) all w) (λ all. unlinked_owning m y (holds_cell m (died_of y) (gives_ours m y o) all w))
  owning_row (Row.GiveFinds m y) g o w apart is none = let h = still (none refl) (Row.GiveFinds m y) w in either c.again (Row.GiveFinds m y) (Row.Gives m y) h h
  owning_row (Row.Gives m y) g o w apart is none = released_owning m y (W (cell_of m))
  owning_row (Row.HandsOn m y n) g o w apart is none = either_made (shows_heir (W (slot_of m)) && c.yes) (makes (Access.Load (slot_at m)) (Spare t (heir_of x.machine t (cell_of m)) ∷ []) (given_row x t c m y)) (makes (Access.Load (slot_at m)) [] (Row.LooksBack m y n)) (given_owning m y) tt
  owning_row (Row.LooksBack m y n) g o w apart is none = either_made ((fields_of (W (cell_of m))).owner == 0) (makes (Access.Load (cell_at m)) [] (Row.WakesOne m y n)) (makes (Access.Load (cell_at m)) (Spare t left_to.Owner ∷ []) (given_row x t c m y)) tt (given_owning m y)
  owning_row (Row.WakesOne m y n) g o w apart is none = woke_owning m y n
  owning_row (Row.Trims m n) g o w apart is none = tt
  owning_row (Row.MendLooks m) g o w apart is none = by_test Leads (((fields_of (W (cell_of m))).owner == t) && (fields_of (W (cell_of m))).died)
      (makes (Access.Load (cell_at m)) [] (Row.Mends m)) (makes (Access.Load (cell_at m)) (Event.Begin t (OnMutex (Consistent (cell_of m))) ∷ Step t ∷ []) Row.Rests)
      (λ e is none. let both = both_of ((fields_of (W (cell_of m))).owner == t) (fields_of (W (cell_of m))).died e in holds_seen m (W (cell_of m)) true o (by_reading (Access.Load (cell_at m)) tt is (cell_of m) (our_cell l m o)) (eqb-true (fields_of (W (cell_of m))).owner t both.0) both.1) (λ e is none. tt) is none
  owning_row (Row.Mends m) g o w apart is none = tt
  owning_row (Row.AnewLooks m) g o w apart is none = either (fields_of (W (cell_of m))).unusable (Row.Anews m (W (cell_of m))) Row.Rests tt tt
  owning_row (Row.Anews m v) g o w apart is none = anews_owning m v is none
  owning_row (Row.WaitLooks m k timed) g o w apart is none = by_test Leads ((fields_of (W (cell_of m))).owner == t)
      (makes (Access.Load (cell_at m)) [] (Row.WaitCounts m k timed (fields_of (W (cell_of m))).died)) (makes (Access.Load (cell_at m)) (wait_begins x t c k timed) Row.Rests)
      (λ e is none. holds_seen m (W (cell_of m)) (fields_of (W (cell_of m))).died o.ours (by_reading (Access.Load (cell_at m)) tt is (cell_of m) (our_cell l m o.ours)) (eqb-true (fields_of (W (cell_of m))).owner t e) refl) (λ e is none. tt) is none
  owning_row (Row.WaitCounts m k timed died) g o w apart is none = by_test Leads died
      (makes (Access.Load (address_in l t (counter_place l k))) (wait_begins x t c k timed) Row.Rests)
      (makes (Access.Load (address_in l t (counter_place l k))) [] (Row.GivePends m (OfWait k (shown x (counter_place l k) % 4294967296) (shows_slept x t c (shown x (counter_place l k))) timed)))
      (λ e is none. tt)
      (λ e is none. subst (λ (d : Bool). Holds y.machine t (cell_of m) d) e (still (none refl) (Row.WaitCounts m k timed died) w)) is none
  owning_row (Row.WaitSets m k n timed) g o w apart is none = let h = still (none refl) (Row.WaitSets m k n timed) w in either c.yes (Row.GiveFinds m (OfWait k n true timed)) (Row.Gives m (OfWait k n true timed)) h h
  owning_row (Row.WaitSleeps m k n timed) g o w apart is none = tt
  owning_row (Row.WaitAsleep m k n timed) g o w apart is none = tt
  owning_row (Row.WaitLate m k n) g o w apart is none = tt
  owning_row (Row.CountLooks m k all) g o w apart is none = by_test Leads ((fields_of (W (cell_of m))).owner == t)
      (makes (Access.Load (cell_at m)) [] (Row.CountLoads m k all)) (makes (Access.Load (cell_at m)) (refused_count x t c k all) Row.Rests)
      (λ e is none. owner_y (cell_of m) (W (cell_of m)) (our_cell l m o.ours) (by_reading (Access.Load (cell_at m)) tt is (cell_of m) (our_cell l m o.ours)) ∙ eqb-true (fields_of (W (cell_of m))).owner t e) (λ e is none. tt) is none
  owning_row (Row.CountLoads m k all) g o w apart is none = still (none refl) (Row.CountLoads m k all) w
  owning_row (Row.Counts m k all n) g o w apart is none = counted_owning m k all (shows_slept x t c n) (counted x t c n % 4294967296) (owns_cell m o.ours (by_counter m k o (Access.Store (address_in l t (counter_place l k)) (counted x t c n)) refl is) w)
  owning_row (Row.CountWakes m k n) g o w apart is none = either (is_nobody (x.machine.queues (counter_place l k))) (Row.Unsets m k n) Row.Rests (owns_cell m o.ours (by_reading (Access.Wake (address_in l t (counter_place l k)) 1) tt is) w) tt
  owning_row (Row.AllMarks m k n) g o w apart is none = owner_y (cell_of m) (bit_or (W (cell_of m)) 2147483648) (our_cell l m o.ours) (its_word (Access.FetchOr (cell_at m) 2147483648) (cell_of m) tt (our_cell l m o.ours) refl is) ∙ ap (λ (f : Fields). f.owner) (or_waiting (W (cell_of m))) ∙ (says_x (cell_of m) (our_cell l m o.ours)).owner ∙ w
  owning_row (Row.AllMoves m k n) g o w apart is none = owns_cell m o.ours (by_reading (Access.CmpRequeue (address_in l t (counter_place l k)) n 0 (cell_at m) most_threads) tt is) w
  owning_row (Row.Unsets m k n) g o w apart is none = tt
