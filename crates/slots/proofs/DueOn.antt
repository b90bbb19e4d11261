-- From row to row, a call keeps its deadline, and what it has seen.
use Rattle.std.proofs.Common.{◌≡◌, ◌⊎◌, inl, inr, ℕ, ◌==◌, Bool, true, false, [], ◌∷◌, refl, sym, ap, ◌∙◌}
use Rattle.std.specs.Prelude.{if◌then◌else◌, not, ◌&&◌, ◌||◌, ◌-◌, ◌%◌, ◌^◌}
use Rattle.lockword.specs.Cells.{fields_of}
use Rattle.lockword.specs.declared.reply.Reply.TheVariants.{OK, EBUSY, EDEADLK, EINVAL, ETIMEDOUT, ENOTRECOVERABLE}
use Rattle.stepprograms.specs.declared.access.Access.{Access}
use Rattle.stepprograms.specs.Accesses.{is_nobody}
use Rattle.memorymap.specs.Layouts.{Layout', address_in, cell_place, counter_place}
use Rattle.mutex.specs.Rows.{acquired}
use Rattle.protocol.specs.declared.event.Event.TheVariants.{Step}
use Rattle.protocol.specs.declared.thread.Stage.{Stage}
use Rattle.protocol.specs.Machine.{run}
use Rattle.slots.specs.Places.{cell_of, slot_of}
use Rattle.slots.specs.Rows.{Choice, Giving, How, Onward, Row, Taking, Then, about}
use Rattle.slots.specs.Rows.How.{Tried, Later, Waited}
use Rattle.slots.specs.Rows.Before.{Linked, Mended, Again}
use Rattle.slots.specs.Rows.Giving.{OfUnlock, OfWait}
use Rattle.slots.specs.Rows.Onward.{Has, Fails, Sleeps}
use Rattle.slots.specs.Rows.Then.{ToSleep, ToSlot}
use Rattle.slots.specs.Shown.{Slots, shown}
use Rattle.slots.specs.Words.{is_free, is_moving, shows_heir, waiting_word}
use Rattle.slots.specs.Seen.{expires, later, owned_row, retakes, seen_row, seen_to_sleep, sleep_row, unusable_row}
use Rattle.slots.specs.Table.{Made, chosen, counted, counted_row, finds_row, freed_row, given_row, is_on_list, made, makes, marked_row, missed, on_cell, out_of, released, shows_slept, to_slot, tries, unlinked_row, watched_row, woke_row}
use Rattle.slots.specs.Fits.{Fits, IsOurs}
use Rattle.slots.specs.Deadlines.{is_anothers}
use Rattle.slots.specs.Outcomes.{has_met, is_later}
use Rattle.slots.specs.Replies.{lock_progress, progress}
use Rattle.slots.proofs.DueRows.{Keeps, due, in_wait, is_late, may_wait}
use Rattle.slots.proofs.Leading.{by_test}
use Rattle.slots.proofs.Meets.{Says, cell_says}
use Rattle.slots.proofs.Owned.{our_cell}

module _ (x : Slots) (t : ℕ) (c : Choice) where
  abbrev l : Layout'
  l = x.machine.layout

  abbrev word : ℕ → ℕ
  word k = shown x (cell_place l k)

  abbrev cell : ℕ → ℕ
  cell m = word (cell_of m)

  abbrev Goes_on : Row → Row → Type 0
  Goes_on r q = Keeps x t r q

  either : (r : Row) (b : Bool) (p q : Row) → Goes_on r p → Goes_on r q → Goes_on r (if b then p else q)
  either r true p q first second = first
  either r false p q first second = second

  -- that of one of two accesses
  two : (r : Row) (b : Bool) (n o : Made) → Goes_on r n.next → Goes_on r o.next → Goes_on r (if b then n else o).next
  two r true n o first second = first
  two r false n o first second = second

  -- of row q, nothing is said
  nothing : (r q : Row) → due q ≡ false → is_late q ≡ false → has_met q ≡ false → in_wait q ≡ false → Goes_on r q
  nothing r q a b d f = (λ e. absurd (cc (sym a ∙ e)), λ e. absurd (cc (sym b ∙ e)), λ e. absurd (cc (sym d ∙ e)), λ e. absurd (cc (sym f ∙ e)))

  -- both are of one lock, or row q is of a lock that has met its owner
  again : (r q : Row) → due q ≡ due r → is_late q ≡ false → has_met r ≡ true → in_wait q ≡ false → Goes_on r q
  again r q a b d f = (λ e. sym a ∙ e, λ e. absurd (cc (sym b ∙ e)), λ e. inl d, λ e. absurd (cc (sym f ∙ e)))

  -- row q isn't of a lock that has met its owner
  alike : (r q : Row) → due q ≡ due r → is_late q ≡ false → has_met q ≡ false → in_wait q ≡ in_wait r → Goes_on r q
  alike r q a b d f = (λ e. sym a ∙ e, λ e. absurd (cc (sym b ∙ e)), λ e. absurd (cc (sym d ∙ e)), λ e. sym f ∙ e)

  -- ---- a lock has seen its cell's word

  lost : (r : Row) (m w : ℕ) → Goes_on r (unusable_row m w)
  lost r m w = either r (fields_of w).waiters (Row.WakesAll m ENOTRECOVERABLE) (Row.Clears m ENOTRECOVERABLE) (nothing r (Row.WakesAll m ENOTRECOVERABLE) refl refl refl refl) (nothing r (Row.Clears m ENOTRECOVERABLE) refl refl refl refl)

  seen_on : (r : Row) (k : Taking) → IsOurs l k.mutex → about r ≡ k.mutex → due r ≡ k.timed → (is_later k.how ≡ true → has_met r ≡ true) → progress r ≡ lock_progress k.how k.wrong → Goes_on r (seen_row t k (cell k.mutex))
  seen_on r k ours same timed slept undecided = go (fields_of (cell k.mutex)).unusable ((fields_of (cell k.mutex)).owner == 0) refl ((fields_of (cell k.mutex)).owner == t) refl
    where
      says : Says (x.machine.words (cell_place l (cell_of k.mutex))) (cell k.mutex)
      says = cell_says x k.mutex (our_cell l k.mutex ours)

      met : ((fields_of (cell k.mutex)).owner == 0) ≡ false → ((fields_of (cell k.mutex)).owner == t) ≡ false → is_anothers x.machine t (about r) ≡ true
      met some other = ap (λ (m : ℕ). is_anothers x.machine t m) same ∙ (λ i. not (sym says.owner i == 0) && not (sym says.owner i == t)) ∙ (λ i. not (some i) && not (other i))

      chooses : (has_met r ≡ true) ⊎ ((is_anothers x.machine t (about r) ≡ true) × (may_wait (progress r) ≡ true)) → Goes_on r (Row.Chooses k (cell k.mutex))
      chooses meets = (λ e. timed ∙ e, λ e. absurd cc, λ e. meets, λ e. absurd cc)

      owned : (h : How) → k.how ≡ h → is_anothers x.machine t (about r) ≡ true → Goes_on r (owned_row k h (cell k.mutex))
      owned Tried how others = by_test (Goes_on r) k.wrong (Row.Clears k.mutex EINVAL) (Row.Chooses k (cell k.mutex)) (λ e. nothing r (Row.Clears k.mutex EINVAL) refl refl refl refl)
          (λ timely. chooses (inr (others, ap may_wait (undecided ∙ (λ i. lock_progress (how i) (timely i))))))
      owned Later how others = chooses (inl (slept (ap is_later how)))
      owned (Waited z) how others = chooses (inr (others, ap may_wait (undecided ∙ ap (λ (h : How). lock_progress h k.wrong) how)))

      go : (a b : Bool) → ((fields_of (cell k.mutex)).owner == 0) ≡ b → (d : Bool) → ((fields_of (cell k.mutex)).owner == t) ≡ d
          → Goes_on r (if a then unusable_row k.mutex (cell k.mutex) else if b then Row.Takes k (cell k.mutex) else if d then Row.Clears k.mutex EDEADLK else owned_row k k.how (cell k.mutex))
      go true b some d other = lost r k.mutex (cell k.mutex)
      go false true none d other = (λ e. timed ∙ e, λ e. absurd cc, λ e. inl (slept e), λ e. absurd cc)
      go false false some true other = nothing r (Row.Clears k.mutex EDEADLK) refl refl refl refl
      go false false some false other = owned k.how refl (met some other)

  sleeps : (r : Row) (k : Taking) (w : ℕ) → due r ≡ k.timed → has_met r ≡ true → Goes_on r (sleep_row k w)
  sleeps r k w timed met = either r (fields_of w).waiters (Row.SleepsOn k w) (Row.Marks k w ToSleep) (again r (Row.SleepsOn k w) (sym timed) refl met refl) (again r (Row.Marks k w ToSleep) (sym timed) refl met refl)

  to_sleep : (r : Row) (k : Taking) (w : ℕ) → due r ≡ k.timed → has_met r ≡ true → Goes_on r (seen_to_sleep k w)
  to_sleep r k w timed met = either r (fields_of w).unusable (unusable_row k.mutex w) (if (fields_of w).owner == 0 then Row.Takes k w else sleep_row k w) (lost r k.mutex w)
      (either r ((fields_of w).owner == 0) (Row.Takes k w) (sleep_row k w) (again r (Row.Takes k w) (sym timed) refl met refl) (sleeps r k w timed met))

  to_the_slot : (k : Taking) (h : How) (v sl : ℕ) → Goes_on (Row.Chooses k v) (to_slot x t c k h v sl)
  to_the_slot k Tried v sl = again (Row.Chooses k v) (Row.SlotPends k sl) refl refl refl refl
  to_the_slot k Later v sl = either (Row.Chooses k v) (fields_of v).waiters (Row.SlotPends k sl) (Row.Marks k v (ToSlot sl)) (again (Row.Chooses k v) (Row.SlotPends k sl) refl refl refl refl) (again (Row.Chooses k v) (Row.Marks k v (ToSlot sl)) refl refl refl refl)
  to_the_slot k (Waited z) v sl = either (Row.Chooses k v) (fields_of v).waiters (Row.SlotPends k sl) (Row.Marks k v (ToSlot sl)) (again (Row.Chooses k v) (Row.SlotPends k sl) refl refl refl refl) (again (Row.Chooses k v) (Row.Marks k v (ToSlot sl)) refl refl refl refl)

  chooses_on : (k : Taking) (v sl : ℕ) → Goes_on (Row.Chooses k v) (chosen x t c k v sl)
  chooses_on k v sl = either (Row.Chooses k v) (tries x t c k.how && is_moving sl && c.again) (Row.SeesAgain k v) (if tries x t c k.how && ((fields_of sl).owner == 0) && c.yes then to_slot x t c k k.how v sl else sleep_row k v) (again (Row.Chooses k v) (Row.SeesAgain k v) refl refl refl refl)
      (either (Row.Chooses k v) (tries x t c k.how && ((fields_of sl).owner == 0) && c.yes) (to_slot x t c k k.how v sl) (sleep_row k v) (to_the_slot k k.how v sl) (sleeps (Row.Chooses k v) k v refl refl))

  marked_on : (k : Taking) (v : ℕ) (n : Then) (h : How) → Goes_on (Row.Marks k v n) (marked_row x t c k h v n)
  marked_on k v (ToSlot sl) h = again (Row.Marks k v (ToSlot sl)) (Row.SlotPends k sl) refl refl refl refl
  marked_on k v ToSleep Tried = again (Row.Marks k v ToSleep) (Row.SleepsOn (later k) (waiting_word v)) refl refl refl refl
  marked_on k v ToSleep Later = again (Row.Marks k v ToSleep) (Row.SleepsOn (later k) (waiting_word v)) refl refl refl refl
  marked_on k v ToSleep (Waited z) = again (Row.Marks k v ToSleep) (Row.SleepsOn k (waiting_word v)) refl refl refl refl

  missed_on : (a : Access) (k : Taking) (v : ℕ) (n : Then) (h : How) → k.how ≡ h → IsOurs l k.mutex → Goes_on (Row.Marks k v n) (missed x t c a k h (cell k.mutex)).next
  missed_on a k v n Tried how ours = seen_on (Row.Marks k v n) (later k) ours refl refl (λ e. refl) (ap (λ (h : How). lock_progress h k.wrong) how)
  missed_on a k v n Later how ours = seen_on (Row.Marks k v n) k ours refl refl (λ e. refl) refl
  missed_on a k v n (Waited z) how ours = seen_on (Row.Marks k v n) k ours refl refl (λ e. refl) refl

  asleep_on : (k : Taking) (v : ℕ) (h : How) (w : ℕ) → Goes_on (Row.SleepsOn k v) (on_cell x t c k h v w).next
  asleep_on k v (Waited z) w = again (Row.SleepsOn k v) (Row.Asleep k) refl refl refl refl
  asleep_on k v Tried w = two (Row.SleepsOn k v) (w % 2 ^ 32 == v % 2 ^ 32) _ _ (again (Row.SleepsOn k v) (Row.Asleep (later k)) refl refl refl refl) (again (Row.SleepsOn k v) (Row.Asleep (later k)) refl refl refl refl)
  asleep_on k v Later w = two (Row.SleepsOn k v) (w % 2 ^ 32 == v % 2 ^ 32) _ _ (again (Row.SleepsOn k v) (Row.Asleep (later k)) refl refl refl refl) (again (Row.SleepsOn k v) (Row.Asleep (later k)) refl refl refl refl)

  watched_on : (r : Row) (k : Taking) (v : ℕ) (over : Bool) → due r ≡ k.timed → has_met r ≡ true → Goes_on r (watched_row x t c k v over)
  watched_on r k v over timed met = either r (over && is_free v) (Row.HeirTakes k v) (if over && not (fields_of v).unusable && not (k.timed && c.yes) then Row.HeirPends k Again else Row.GivesUp k) (again r (Row.HeirTakes k v) (sym timed) refl met refl)
      (either r (over && not (fields_of v).unusable && not (k.timed && c.yes)) (Row.HeirPends k Again) (Row.GivesUp k) (again r (Row.HeirPends k Again) (sym timed) refl met refl) (again r (Row.GivesUp k) (sym timed) refl met refl))

  out_on : (r : Row) (k : Taking) → due r ≡ k.timed → has_met r ≡ true → Goes_on r (out_of x t c k)
  out_on r k timed met = either r (k.timed && c.yes) (Row.Frees k (Fails ETIMEDOUT)) (Row.Frees k Sleeps) (again r (Row.Frees k (Fails ETIMEDOUT)) (sym timed) refl met refl) (again r (Row.Frees k Sleeps) (sym timed) refl met refl)

  freed_on : (k : Taking) (f : Onward) → Goes_on (Row.FreeGives k f) (freed_row x t c k f)
  freed_on k (Has y) = nothing (Row.FreeGives k (Has y)) (Row.Clears k.mutex y) refl refl refl refl
  freed_on k (Fails y) = nothing (Row.FreeGives k (Fails y)) (Row.Clears k.mutex y) refl refl refl refl
  freed_on k Sleeps = again (Row.FreeGives k Sleeps) (Row.SlotLeft k) refl refl refl refl

  along : (r here behind : Row) → Goes_on r here → Goes_on r behind → Goes_on r (if is_on_list ((run x.machine (Step t ∷ [])).threads t).stage then here else behind)
  along r here behind now then_on = either r (is_on_list ((run x.machine (Step t ∷ [])).threads t).stage) here behind now then_on

  last_on : (k : Taking) (w : ℕ) (a b d : Bool) → Goes_on (Row.LastLooks k) (
      if a then makes (Access.Load (address_in l t (cell_place l (cell_of k.mutex)))) (Step t ∷ []) (if d then Row.HeirWakes k else Row.Frees k (Fails ENOTRECOVERABLE))
      else if b then makes (Access.Load (address_in l t (cell_place l (cell_of k.mutex)))) [] (Row.HeirPends k Again)
      else if d then makes (Access.Load (address_in l t (cell_place l (cell_of k.mutex)))) (expires t) (out_of x t c k)
      else makes (Access.Load (address_in l t (cell_place l (cell_of k.mutex)))) [] (Row.LastMarks k w)
      ).next
  last_on k w true b true = again (Row.LastLooks k) (Row.HeirWakes k) refl refl refl refl
  last_on k w true b false = again (Row.LastLooks k) (Row.Frees k (Fails ENOTRECOVERABLE)) refl refl refl refl
  last_on k w false true d = again (Row.LastLooks k) (Row.HeirPends k Again) refl refl refl refl
  last_on k w false false true = out_on (Row.LastLooks k) k refl refl
  last_on k w false false false = again (Row.LastLooks k) (Row.LastMarks k w) refl refl refl refl

  -- ---- a release

  finds_on : (r : Row) (m : ℕ) (y : Giving) → due (Row.Gives m y) ≡ due r → in_wait (Row.Gives m y) ≡ in_wait r → Goes_on r (finds_row x t c m y)
  finds_on r m y timed wait = either r c.yes (Row.GiveFinds m y) (Row.Gives m y) (alike r (Row.GiveFinds m y) timed refl refl wait) (alike r (Row.Gives m y) timed refl refl wait)

  unlinked_on : (m : ℕ) (y : Giving) → Goes_on (Row.GiveUnlinks m y) (unlinked_row x t c m y)
  unlinked_on m (OfUnlock d) = finds_on (Row.GiveUnlinks m (OfUnlock d)) m (OfUnlock d) refl refl
  unlinked_on m (OfWait k n true timed) = finds_on (Row.GiveUnlinks m (OfWait k n true timed)) m (OfWait k n true timed) refl refl
  unlinked_on m (OfWait k n false timed) = alike (Row.GiveUnlinks m (OfWait k n false timed)) (Row.WaitSets m k n timed) refl refl refl refl

  given_on : (r : Row) (m : ℕ) (y : Giving) → due (Row.Gives m y) ≡ due r → in_wait (Row.Gives m y) ≡ in_wait r → Goes_on r (given_row x t c m y)
  given_on r m (OfUnlock d) timed wait = nothing r (Row.Clears m OK) refl refl refl refl
  given_on r m (OfWait k n slept b) timed wait = alike r (Row.WaitSleeps m k n b) timed refl refl wait

  hands_on : (m : ℕ) (y : Giving) (is : ℕ) → Goes_on (Row.Gives m y) (if c.yes then Row.WakesOne m y is else Row.HandsOn m y is)
  hands_on m y is = either (Row.Gives m y) c.yes (Row.WakesOne m y is) (Row.HandsOn m y is) (alike (Row.Gives m y) (Row.WakesOne m y is) refl refl refl refl) (alike (Row.Gives m y) (Row.HandsOn m y is) refl refl refl refl)

  released_on : (m : ℕ) (y : Giving) (w : ℕ) → Goes_on (Row.Gives m y) (released x t c m y w)
  released_on m (OfUnlock true) w = either (Row.Gives m (OfUnlock true)) (fields_of w).waiters (Row.WakesAll m OK) (Row.Clears m OK) (nothing (Row.Gives m (OfUnlock true)) (Row.WakesAll m OK) refl refl refl refl) (nothing (Row.Gives m (OfUnlock true)) (Row.Clears m OK) refl refl refl refl)
  released_on m (OfUnlock false) w = either (Row.Gives m (OfUnlock false)) (fields_of w).waiters (if c.yes then Row.WakesOne m (OfUnlock false) (w - t) else Row.HandsOn m (OfUnlock false) (w - t)) (Row.Clears m OK) (hands_on m (OfUnlock false) (w - t)) (nothing (Row.Gives m (OfUnlock false)) (Row.Clears m OK) refl refl refl refl)
  released_on m (OfWait k n slept b) w = either (Row.Gives m (OfWait k n slept b)) (fields_of w).waiters (if c.yes then Row.WakesOne m (OfWait k n slept b) (w - t) else Row.HandsOn m (OfWait k n slept b) (w - t)) (Row.WaitSleeps m k n b) (hands_on m (OfWait k n slept b) (w - t)) (alike (Row.Gives m (OfWait k n slept b)) (Row.WaitSleeps m k n b) refl refl refl refl)

  woke_on : (m : ℕ) (y : Giving) (n : ℕ) → Goes_on (Row.WakesOne m y n) (woke_row x t c m y n)
  woke_on m (OfUnlock d) n = either (Row.WakesOne m (OfUnlock d) n) (is_nobody (x.machine.queues (cell_place l (cell_of m)))) (Row.Trims m n) (Row.Clears m OK) (nothing (Row.WakesOne m (OfUnlock d) n) (Row.Trims m n) refl refl refl refl) (nothing (Row.WakesOne m (OfUnlock d) n) (Row.Clears m OK) refl refl refl refl)
  woke_on m (OfWait k i slept b) n = alike (Row.WakesOne m (OfWait k i slept b) n) (Row.WaitSleeps m k i b) refl refl refl refl

  counted_on : (m k n : ℕ) (all slept : Bool) (v : ℕ) → Goes_on (Row.Counts m k all n) (counted_row x t c m k all slept v)
  counted_on m k n all false v = nothing (Row.Counts m k all n) Row.Rests refl refl refl refl
  counted_on m k n false true v = nothing (Row.Counts m k false n) (Row.CountWakes m k v) refl refl refl refl
  counted_on m k n true true v = nothing (Row.Counts m k true n) (Row.AllMarks m k v) refl refl refl refl

  -- ---- each row

  pub due_row : (r : Row) (g : Stage) → Fits l t r g → Goes_on r (made x t c r).next
  due_row Row.Rests g o = nothing Row.Rests Row.Rests refl refl refl refl
  due_row (Row.Looks k) g o = two (Row.Looks k) ((fields_of (cell k.mutex)).owner == t) _ _ (nothing (Row.Looks k) Row.Rests refl refl refl refl) (alike (Row.Looks k) (Row.Pends k (cell k.mutex)) refl refl refl refl)
  due_row (Row.Pends k v) g o = either (Row.Pends k v) (is_free v) (Row.Takes k v) (Row.Sees k) (alike (Row.Pends k v) (Row.Takes k v) refl refl (ap is_later o.1) refl) (alike (Row.Pends k v) (Row.Sees k) refl refl (ap is_later o.1) refl)
  due_row (Row.Sees k) g o = seen_on (Row.Sees k) k o.ours refl refl (λ e. e) refl
  due_row (Row.Takes k v) g o = two (Row.Takes k v) (cell k.mutex == v) _ _ (nothing (Row.Takes k v) (Row.Links k.mutex (acquired (fields_of v))) refl refl refl refl) (seen_on (Row.Takes k v) k o.0.ours refl refl (λ e. e) refl)
  due_row (Row.Links m y) g o = along (Row.Links m y) (Row.Links m y) (Row.Clears m y) (nothing (Row.Links m y) (Row.Links m y) refl refl refl refl) (nothing (Row.Links m y) (Row.Clears m y) refl refl refl refl)
  due_row (Row.Clears m y) g o = nothing (Row.Clears m y) Row.Rests refl refl refl refl
  due_row (Row.Chooses k v) g o = chooses_on k v (word (slot_of k.mutex))
  due_row (Row.SeesAgain k v) g o = seen_on (Row.SeesAgain k v) k o.0.ours refl refl (λ e. refl) refl
  due_row (Row.Marks k v n) g o = two (Row.Marks k v n) (cell k.mutex == v) _ _ (marked_on k v n k.how) (missed_on _ k v n k.how refl o.0.ours)
  due_row (Row.SleepsOn k v) g o = asleep_on k v k.how (cell k.mutex)
  due_row (Row.Asleep k) g o = again (Row.Asleep k) (Row.Sees k) refl refl refl refl
  due_row (Row.Late k) g o = (λ e. refl, λ e. refl, λ e. inl refl, λ e. absurd cc)
  due_row (Row.LateSees k) g o = nothing (Row.LateSees k) (Row.Clears k.mutex ETIMEDOUT) refl refl refl refl
  due_row (Row.WakesAll m y) g o = nothing (Row.WakesAll m y) (Row.Clears m y) refl refl refl refl
  due_row (Row.SlotPends k sl) g o = again (Row.SlotPends k sl) (Row.SlotTakes k sl) refl refl refl refl
  due_row (Row.SlotTakes k sl) g o = two (Row.SlotTakes k sl) (word (slot_of k.mutex) == sl) _ _ (again (Row.SlotTakes k sl) (Row.SlotLinks k (fields_of sl).died) refl refl refl refl) (two (Row.SlotTakes k sl) ((fields_of (word (slot_of k.mutex))).owner == 0) _ _ (again (Row.SlotTakes k sl) (Row.SlotTakes k (word (slot_of k.mutex))) refl refl refl refl) (again (Row.SlotTakes k sl) (Row.SlotLeft k) refl refl refl refl))
  due_row (Row.SlotLeft k) g o = again (Row.SlotLeft k) (Row.SeesToSleep (later k)) refl refl refl refl
  due_row (Row.SeesToSleep k) g o = to_sleep (Row.SeesToSleep k) k (cell k.mutex) refl refl
  due_row (Row.SlotLinks k d) g o = along (Row.SlotLinks k d) (Row.SlotLinks k d) (if d then Row.SlotClears k else Row.HeirPends k Linked) (again (Row.SlotLinks k d) (Row.SlotLinks k d) refl refl refl refl) (either (Row.SlotLinks k d) d (Row.SlotClears k) (Row.HeirPends k Linked) (again (Row.SlotLinks k d) (Row.SlotClears k) refl refl refl refl) (again (Row.SlotLinks k d) (Row.HeirPends k Linked) refl refl refl refl))
  due_row (Row.SlotClears k) g o = again (Row.SlotClears k) (Row.SlotQuiets k) refl refl refl refl
  due_row (Row.SlotQuiets k) g o = again (Row.SlotQuiets k) (Row.SlotMends k) refl refl refl refl
  due_row (Row.SlotMends k) g o = again (Row.SlotMends k) (Row.HeirPends k Mended) refl refl refl refl
  due_row (Row.HeirPends k b) g o = again (Row.HeirPends k b) (Row.HeirSets k) refl refl refl refl
  due_row (Row.HeirSets k) g o = again (Row.HeirSets k) (Row.HeirLooks k) refl refl refl refl
  due_row (Row.HeirLooks k) g o = either (Row.HeirLooks k) ((fields_of (cell k.mutex)).unusable || (is_free (cell k.mutex) && c.yes)) (Row.HeirPendsOn k (cell k.mutex) true) (if c.again then Row.HeirPends k Again else Row.HeirPendsOn k (cell k.mutex) false) (again (Row.HeirLooks k) (Row.HeirPendsOn k (cell k.mutex) true) refl refl refl refl) (either (Row.HeirLooks k) c.again (Row.HeirPends k Again) (Row.HeirPendsOn k (cell k.mutex) false) (again (Row.HeirLooks k) (Row.HeirPends k Again) refl refl refl refl) (again (Row.HeirLooks k) (Row.HeirPendsOn k (cell k.mutex) false) refl refl refl refl))
  due_row (Row.HeirPendsOn k v over) g o = watched_on (Row.HeirPendsOn k v over) k v over refl refl
  due_row (Row.HeirTakes k v) g o = two (Row.HeirTakes k v) (cell k.mutex == v) _ _ (again (Row.HeirTakes k v) (Row.HeirHas k (acquired (fields_of v))) refl refl refl refl) (watched_on (Row.HeirTakes k v) k (cell k.mutex) true refl refl)
  due_row (Row.HeirHas k y) g o = again (Row.HeirHas k y) (Row.HeirLinks k y) refl refl refl refl
  due_row (Row.HeirLinks k y) g o = along (Row.HeirLinks k y) (Row.HeirLinks k y) (Row.Frees k (Has y)) (again (Row.HeirLinks k y) (Row.HeirLinks k y) refl refl refl refl) (again (Row.HeirLinks k y) (Row.Frees k (Has y)) refl refl refl refl)
  due_row (Row.GivesUp k) g o = again (Row.GivesUp k) (Row.LastLooks k) refl refl refl refl
  due_row (Row.LastLooks k) g o = last_on k (cell k.mutex) (fields_of (cell k.mutex)).unusable ((fields_of (cell k.mutex)).owner == 0) (fields_of (cell k.mutex)).waiters
  due_row (Row.LastMarks k v) g o = two (Row.LastMarks k v) (cell k.mutex == v) _ _ (out_on (Row.LastMarks k v) k refl refl) (again (Row.LastMarks k v) (Row.HeirPends k Again) refl refl refl refl)
  due_row (Row.HeirWakes k) g o = again (Row.HeirWakes k) (Row.Frees k (Fails ENOTRECOVERABLE)) refl refl refl refl
  due_row (Row.Frees k f) g o = again (Row.Frees k f) (Row.FreeUnlinks k f) refl refl refl refl
  due_row (Row.FreeUnlinks k f) g o = along (Row.FreeUnlinks k f) (Row.FreeUnlinks k f) (Row.FreeGives k f) (again (Row.FreeUnlinks k f) (Row.FreeUnlinks k f) refl refl refl refl) (again (Row.FreeUnlinks k f) (Row.FreeGives k f) refl refl refl refl)
  due_row (Row.FreeGives k f) g o = freed_on k f
  due_row (Row.TryLooks m) g o = two (Row.TryLooks m) (is_free (cell m)) _ _ (nothing (Row.TryLooks m) (Row.TryPends m (cell m)) refl refl refl refl) (nothing (Row.TryLooks m) Row.Rests refl refl refl refl)
  due_row (Row.TryPends m v) g o = nothing (Row.TryPends m v) (Row.TryTakes m v) refl refl refl refl
  due_row (Row.TryTakes m v) g o = two (Row.TryTakes m v) (cell m == v) _ _ (nothing (Row.TryTakes m v) (Row.Links m (acquired (fields_of v))) refl refl refl refl) (two (Row.TryTakes m v) (is_free (cell m)) _ _ (nothing (Row.TryTakes m v) (Row.TryTakes m (cell m)) refl refl refl refl) (nothing (Row.TryTakes m v) (Row.Clears m (if (fields_of (cell m)).unusable then ENOTRECOVERABLE else EBUSY)) refl refl refl refl))
  due_row (Row.GiveLooks m) g o = two (Row.GiveLooks m) ((fields_of (cell m)).owner == t) _ _ (nothing (Row.GiveLooks m) (Row.GivePends m (OfUnlock (fields_of (cell m)).died)) refl refl refl refl) (nothing (Row.GiveLooks m) Row.Rests refl refl refl refl)
  due_row (Row.GivePends m y) g o = alike (Row.GivePends m y) (Row.GiveUnlinks m y) refl refl refl refl
  due_row (Row.GiveUnlinks m y) g o = along (Row.GiveUnlinks m y) (Row.GiveUnlinks m y) (unlinked_row x t c m y) (alike (Row.GiveUnlinks m y) (Row.GiveUnlinks m y) refl refl refl refl) (unlinked_on m y)
  due_row (Row.GiveFinds m y) g o = either (Row.GiveFinds m y) c.again (Row.GiveFinds m y) (Row.Gives m y) (alike (Row.GiveFinds m y) (Row.GiveFinds m y) refl refl refl refl) (alike (Row.GiveFinds m y) (Row.Gives m y) refl refl refl refl)
  due_row (Row.Gives m y) g o = released_on m y (cell m)
  due_row (Row.HandsOn m y n) g o = two (Row.HandsOn m y n) (shows_heir (word (slot_of m)) && c.yes) _ _ (given_on (Row.HandsOn m y n) m y refl refl) (alike (Row.HandsOn m y n) (Row.LooksBack m y n) refl refl refl refl)
  due_row (Row.LooksBack m y n) g o = two (Row.LooksBack m y n) ((fields_of (cell m)).owner == 0) _ _ (alike (Row.LooksBack m y n) (Row.WakesOne m y n) refl refl refl refl) (given_on (Row.LooksBack m y n) m y refl refl)
  due_row (Row.WakesOne m y n) g o = woke_on m y n
  due_row (Row.Trims m n) g o = nothing (Row.Trims m n) (Row.Clears m OK) refl refl refl refl
  due_row (Row.MendLooks m) g o = two (Row.MendLooks m) (((fields_of (cell m)).owner == t) && (fields_of (cell m)).died) _ _ (nothing (Row.MendLooks m) (Row.Mends m) refl refl refl refl) (nothing (Row.MendLooks m) Row.Rests refl refl refl refl)
  due_row (Row.Mends m) g o = nothing (Row.Mends m) Row.Rests refl refl refl refl
  due_row (Row.AnewLooks m) g o = either (Row.AnewLooks m) (fields_of (cell m)).unusable (Row.Anews m (cell m)) Row.Rests (nothing (Row.AnewLooks m) (Row.Anews m (cell m)) refl refl refl refl) (nothing (Row.AnewLooks m) Row.Rests refl refl refl refl)
  due_row (Row.Anews m v) g o = two (Row.Anews m v) (cell m == v) _ _ (nothing (Row.Anews m v) Row.Rests refl refl refl refl) (either (Row.Anews m v) (fields_of (cell m)).unusable (Row.Anews m (cell m)) Row.Rests (nothing (Row.Anews m v) (Row.Anews m (cell m)) refl refl refl refl) (nothing (Row.Anews m v) Row.Rests refl refl refl refl))
  due_row (Row.WaitLooks m k b) g o = two (Row.WaitLooks m k b) ((fields_of (cell m)).owner == t) _ _ (alike (Row.WaitLooks m k b) (Row.WaitCounts m k b (fields_of (cell m)).died) refl refl refl refl) (nothing (Row.WaitLooks m k b) Row.Rests refl refl refl refl)
  due_row (Row.WaitCounts m k b died) g o = two (Row.WaitCounts m k b died) died _ _ (nothing (Row.WaitCounts m k b died) Row.Rests refl refl refl refl) (alike (Row.WaitCounts m k b died) (Row.GivePends m (OfWait k (shown x (counter_place l k) % 4294967296) (shows_slept x t c (shown x (counter_place l k))) b)) refl refl refl refl)
  due_row (Row.WaitSets m k n b) g o = finds_on (Row.WaitSets m k n b) m (OfWait k n true b) refl refl
  due_row (Row.WaitSleeps m k n b) g o = alike (Row.WaitSleeps m k n b) (Row.WaitAsleep m k n b) refl refl refl refl
  due_row (Row.WaitAsleep m k n b) g o = nothing (Row.WaitAsleep m k n b) (Row.Sees (retakes m k)) refl refl refl refl
  due_row (Row.WaitLate m k n) g o = (λ e. refl, λ e. absurd cc, λ e. absurd cc, λ e. refl)
  due_row (Row.CountLooks m k all) g o = two (Row.CountLooks m k all) ((fields_of (cell m)).owner == t) _ _ (nothing (Row.CountLooks m k all) (Row.CountLoads m k all) refl refl refl refl) (nothing (Row.CountLooks m k all) Row.Rests refl refl refl refl)
  due_row (Row.CountLoads m k all) g o = nothing (Row.CountLoads m k all) (Row.Counts m k all (shown x (counter_place l k))) refl refl refl refl
  due_row (Row.Counts m k all n) g o = counted_on m k n all (shows_slept x t c n) (counted x t c n % 4294967296)
  due_row (Row.CountWakes m k n) g o = either (Row.CountWakes m k n) (is_nobody (x.machine.queues (counter_place l k))) (Row.Unsets m k n) Row.Rests (nothing (Row.CountWakes m k n) (Row.Unsets m k n) refl refl refl refl) (nothing (Row.CountWakes m k n) Row.Rests refl refl refl refl)
  due_row (Row.AllMarks m k n) g o = nothing (Row.AllMarks m k n) (Row.AllMoves m k n) refl refl refl refl
  due_row (Row.AllMoves m k n) g o = nothing (Row.AllMoves m k n) (Row.Unsets m k n) refl refl refl refl
  due_row (Row.Unsets m k n) g o = nothing (Row.Unsets m k n) Row.Rests refl refl refl refl
