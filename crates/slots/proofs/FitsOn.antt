-- Whatever an access finds, the next row fits.
use Rattle.std.proofs.Common.{◌≡◌, ◌≢◌, ℕ, ◌+◌, ◌%◌, ◌==◌, Bool, true, false, [], ◌∷◌, ◌++◌, refl, sym, ap, ◌∙◌, subst, arith, eqb-true}
use Rattle.std.specs.Prelude.{if◌then◌else◌, not, ◌&&◌, ◌||◌, ◌-◌}
use Rattle.std.proofs.lemmas.Bool.{eqb-false}
use Rattle.lockword.specs.Cells.{Fields, fields_of, waiting}
use Rattle.lockword.specs.Coding.{fields_of-word_of}
use Rattle.lockword.specs.declared.reply.Reply.TheVariants.{OK, EBUSY, EDEADLK, EINVAL, ETIMEDOUT, ENOTRECOVERABLE}
use Rattle.stepprograms.specs.declared.access.Access.{Access}
use Rattle.memorymap.specs.Layouts.{Layout', address_in, cell_place, counter_place}
use Rattle.mutex.specs.Rows.{acquired}
use Rattle.stepprograms.specs.Accesses.{is_nobody}
use Rattle.mutex.specs.declared.call.Call.TheVariants.{Consistent, TimedLock, TryLock, Unlock}
use Rattle.condvar.specs.declared.op.Op.TheVariants.{OnMutex}
use Rattle.protocol.specs.declared.event.Event.{Event}
use Rattle.protocol.specs.declared.event.Event.TheVariants.{Step, Spare}
use Rattle.protocol.specs.declared.event.LeftTo.TheVariants as left_to
use Rattle.protocol.specs.declared.thread.Stage.{Stage}
use Rattle.protocol.specs.Machine.{run}
use Rattle.slots.specs.Places.{cell_of, slot_of}
use Rattle.slots.specs.Rows.{Choice, How, Row, Taking, Then, Giving, Onward}
use Rattle.slots.specs.Rows.How.{Tried, Later, Waited}
use Rattle.slots.specs.Rows.Before.{Linked, Again}
use Rattle.slots.specs.Rows.Onward.{Has, Fails, Sleeps}
use Rattle.slots.specs.Rows.Then.{ToSleep, ToSlot}
use Rattle.slots.specs.Rows.Giving.{OfUnlock, OfWait}
use Rattle.slots.specs.Shown.{Slots, shown}
use Rattle.slots.specs.Words.{is_free, is_moving}
use Rattle.slots.specs.Seen.{begins_behind, heir_of, later, owned_row}
use Rattle.slots.specs.Table.{Made, counted, counted_row, freed_row, given_row, goes_along, hands_row, is_on_list, made, makes, marked_events, marked_row, missed, on_cell, out_of}
use Rattle.slots.specs.Words.{shows_heir, taken_word, waiting_word}
use Rattle.slots.specs.Seen.{retakes, seen_events, seen_row, seen_to_sleep, sets_and_expires, sleep_row}
use Rattle.slots.specs.Table.{refused_count, released, shows_slept, to_slot, tries, unlinked_row, wait_begins, watched_row, woke_row}
use Rattle.slots.specs.Each.{IsToMark}
use Rattle.slots.specs.Further.{GoesToSlot, SeesAnother}
use Rattle.slots.specs.Fits.{AreOfUs, Fits, FitsToMark, GivesOurs, IsApart, IsOurs, LocksOurs, MayWakeAll, NextRowsFit, SeesOwned}
use Rattle.slots.specs.Accesses.{IsAbout}
use Rattle.slots.specs.Invariant.{fields_at}
use Rattle.slots.proofs.Leading.{by_test}
use Rattle.slots.proofs.Meets.{cell_says}
use Rattle.slots.proofs.Owned.{our_cell}

-- ---- words that a call has seen

pub free_where : (w : ℕ) → ((fields_of w).owner == 0) ≡ true → (fields_of w).unusable ≡ false → is_free w ≡ true
free_where w none usable = λ i. none i && not (usable i)

owned_where : (t w : ℕ) → ((fields_of w).owner == 0) ≡ false → ((fields_of w).owner == t) ≡ false → SeesOwned t w
owned_where t w some other = record {
  some = λ e. eqb-false (fields_of w).owner 0 some e;
  other = λ e. eqb-false (fields_of w).owner t other e;
}

pub waiting_fields : (v : ℕ) → fields_of (waiting_word v) ≡ waiting (fields_of v)
waiting_fields v = fields_of-word_of (waiting (fields_of v)) (omega arith)

sees_waiting : (t v : ℕ) → IsToMark t v → SeesAnother t (waiting_word v)
sees_waiting t v to = record {
  some = λ e. to.some (sym (ap (λ (f : Fields). f.owner) (waiting_fields v)) ∙ e);
  other = λ e. to.other (sym (ap (λ (f : Fields). f.owner) (waiting_fields v)) ∙ e);
  waiters = ap (λ (f : Fields). f.waiters) (waiting_fields v);
}

-- ---- locks

locks_later : (l : Layout') (k : Taking) → LocksOurs l k → LocksOurs l (later k)
locks_later l k o = record { ours = o.ours; wait = λ z e. absurd (cc e) }

locks_again : (l : Layout') (m k : ℕ) → AreOfUs l m k → LocksOurs l (retakes m k)
locks_again l m k o = record { ours = o.ours; wait = λ z e. let same : k ≡ z = cc e in (refl, (subst (AreOfUs l m) same o).cell) }

owned_fits : (l : Layout') (t : ℕ) (g : Stage) (k : Taking) (h : How) (w : ℕ) → LocksOurs l k → SeesOwned t w → Fits l t (owned_row k h w) g
owned_fits l t g k Tried w o sees = by_test (λ (r : Row). Fits l t r g) k.wrong (Row.Clears k.mutex EINVAL) (Row.Chooses k w) (λ e. tt) (λ e. (o, sees))
owned_fits l t g k Later w o sees = (o, sees)
owned_fits l t g k (Waited z) w o sees = (o, sees)

lost_fits : (l : Layout') (t : ℕ) (g : Stage) (m : ℕ) (b : Bool) → IsAbout l m g → Fits l t (if b then Row.WakesAll m ENOTRECOVERABLE else Row.Clears m ENOTRECOVERABLE) g
lost_fits l t g m true about = about
lost_fits l t g m false about = tt

pub seen_fits : (l : Layout') (t : ℕ) (g : Stage) (k : Taking) (w : ℕ) → LocksOurs l k → IsAbout l k.mutex g → Fits l t (seen_row t k w) g
seen_fits l t g k w o about = go (fields_of w).unusable refl ((fields_of w).owner == 0) refl ((fields_of w).owner == t) refl
  where
    go : (a : Bool) → (fields_of w).unusable ≡ a → (b : Bool) → ((fields_of w).owner == 0) ≡ b → (d : Bool) → ((fields_of w).owner == t) ≡ d
        → Fits l t (if a then (if (fields_of w).waiters then Row.WakesAll k.mutex ENOTRECOVERABLE else Row.Clears k.mutex ENOTRECOVERABLE) else if b then Row.Takes k w else if d then Row.Clears k.mutex EDEADLK else owned_row k k.how w) g
    go true lost b e d f = lost_fits l t g k.mutex (fields_of w).waiters about
    go false usable true none d f = (o, free_where w none usable)
    go false usable false some true own = tt
    go false usable false some false other = owned_fits l t g k k.how w o (owned_where t w some other)

-- it sleeps, whatever the slot is
sleep_fits : (l : Layout') (t : ℕ) (g : Stage) (k : Taking) (w : ℕ) → LocksOurs l k → SeesOwned t w → Fits l t (sleep_row k w) g
sleep_fits l t g k w o sees = by_test (λ (r : Row). Fits l t r g) (fields_of w).waiters (Row.SleepsOn k w) (Row.Marks k w ToSleep)
    (λ e. (o, record { some = sees.some; other = sees.other; waiters = e }))
    (λ e. (o, record { some = sees.some; other = sees.other; waiters = e }))

to_sleep_fits : (l : Layout') (t : ℕ) (g : Stage) (k : Taking) (w : ℕ) → LocksOurs l k → (fields_of w).owner ≢ t → IsAbout l k.mutex g → Fits l t (seen_to_sleep k w) g
to_sleep_fits l t g k w o apart about = go (fields_of w).unusable refl ((fields_of w).owner == 0) refl
  where
    go : (a : Bool) → (fields_of w).unusable ≡ a → (b : Bool) → ((fields_of w).owner == 0) ≡ b
        → Fits l t (if a then (if (fields_of w).waiters then Row.WakesAll k.mutex ENOTRECOVERABLE else Row.Clears k.mutex ENOTRECOVERABLE) else if b then Row.Takes k w else sleep_row k w) g
    go true lost b e = lost_fits l t g k.mutex (fields_of w).waiters about
    go false usable true none = (o, free_where w none usable)
    go false usable false some = sleep_fits l t g k w o (record { some = λ e. eqb-false (fields_of w).owner 0 some e; other = apart })

module _ (x : Slots) (t : ℕ) (c : Choice) (g : Stage) where
  abbrev l : Layout'
  l = x.machine.layout

  abbrev word : ℕ → ℕ
  word m = shown x (cell_place l (cell_of m))

  abbrev slot_word : ℕ → ℕ
  slot_word m = shown x (cell_place l (slot_of m))

  abbrev Then_fits : Made → Type 0
  Then_fits n = Fits l t n.next g

  either : (b : Bool) (r s : Row) → Fits l t r g → Fits l t s g → Fits l t (if b then r else s) g
  either true r s first second = first
  either false r s first second = second

  -- ---- the slot is tried, or not

  to_slot_fits : (k : Taking) (h : How) (v sl : ℕ) → k.how ≡ h → tries x t c h ≡ true → LocksOurs l k → SeesOwned t v → (fields_of sl).owner ≡ 0 → Fits l t (to_slot x t c k h v sl) g
  to_slot_fits k Tried v sl is tried o sees none = (o, subst GoesToSlot (sym is) tt, none)
  to_slot_fits k Later v sl is tried o sees none = by_test (λ (r : Row). Fits l t r g) (fields_of v).waiters (Row.SlotPends k sl) (Row.Marks k v (ToSlot sl))
      (λ e. (o, subst GoesToSlot (sym is) tt, none))
      (λ e. (o, (record { some = sees.some; other = sees.other; waiters = e }, is, none)))
  to_slot_fits k (Waited z) v sl is tried o sees none = absurd cc

  goes_to_slot : (h : How) → tries x t c h ≡ true → GoesToSlot h
  goes_to_slot Tried e = tt
  goes_to_slot Later e = tt
  goes_to_slot (Waited z) e = absurd cc

  first_of : (a b d : Bool) → (a && b && d) ≡ true → a ≡ true
  first_of true b d e = refl
  first_of false b d e = absurd cc

  second_of : (a b d : Bool) → (a && b && d) ≡ true → b ≡ true
  second_of true true d e = refl
  second_of true false d e = absurd cc
  second_of false b d e = absurd cc

  chosen_fits : (k : Taking) (v : ℕ) → LocksOurs l k → SeesOwned t v → Fits l t (made x t c (Row.Chooses k v)).next g
  chosen_fits k v o sees =
      by_test (λ (r : Row). Fits l t r g) (tries x t c k.how && is_moving sl && c.again) (Row.SeesAgain k v) (if tries x t c k.how && ((fields_of sl).owner == 0) && c.yes then to_slot x t c k k.how v sl else sleep_row k v)
      (λ e. (o, goes_to_slot k.how (first_of (tries x t c k.how) (is_moving sl) c.again e)))
      (λ e. by_test (λ (r : Row). Fits l t r g) (tries x t c k.how && ((fields_of sl).owner == 0) && c.yes) (to_slot x t c k k.how v sl) (sleep_row k v)
      (λ f. to_slot_fits k k.how v sl refl (first_of (tries x t c k.how) ((fields_of sl).owner == 0) c.yes f) o sees (eqb-true (fields_of sl).owner 0 (second_of (tries x t c k.how) ((fields_of sl).owner == 0) c.yes f)))
      (λ f. sleep_fits l t g k v o sees))
    where
      sl : ℕ
      sl = slot_word k.mutex

  -- ---- WAITERS is set

  missed_fits : (a : Access) (k : Taking) (h : How) (w : ℕ) → LocksOurs l k → IsAbout l k.mutex g → Fits l t (missed x t c a k h w).next g
  missed_fits a k Tried w o about = seen_fits l t g (later k) w (locks_later l k o) about
  missed_fits a k Later w o about = seen_fits l t g k w o about
  missed_fits a k (Waited z) w o about = seen_fits l t g k w o about

  set_fits : (k : Taking) (v : ℕ) (n : Then) (h : How) → k.how ≡ h → LocksOurs l k → FitsToMark k t v n → Fits l t (marked_row x t c k h v n) g
  set_fits k v (ToSlot sl) h is o to = (o, subst GoesToSlot (sym to.1) tt, to.2)
  set_fits k v ToSleep (Waited z) is o to = (o, sees_waiting t v to)
  set_fits k v ToSleep Tried is o to = (locks_later l k o, sees_waiting t v to)
  set_fits k v ToSleep Later is o to = (locks_later l k o, sees_waiting t v to)

  marks_fit : (k : Taking) (v : ℕ) (n : Then) → LocksOurs l k → FitsToMark k t v n → IsAbout l k.mutex g → Then_fits (made x t c (Row.Marks k v n))
  marks_fit k v n o to about = by_test Then_fits (word k.mutex == v)
      (makes (Access.Exchange (address_in l t (cell_place l (cell_of k.mutex))) v (waiting_word v)) (marked_events x t c k k.how) (marked_row x t c k k.how v n))
      (missed x t c (Access.Exchange (address_in l t (cell_place l (cell_of k.mutex))) v (waiting_word v)) k k.how (word k.mutex))
      (λ e. set_fits k v n k.how refl o to)
      (λ e. missed_fits (Access.Exchange (address_in l t (cell_place l (cell_of k.mutex))) v (waiting_word v)) k k.how (word k.mutex) o about)

  asleep_fits : (k : Taking) (h : How) (v w : ℕ) → k.how ≡ h → LocksOurs l k → Then_fits (on_cell x t c k h v w)
  asleep_fits k (Waited z) v w is o = (o, λ timed. absurd (cc (sym timed ∙ (o.wait z is).0)))
  asleep_fits k Tried v w is o = by_test Then_fits (w % 4294967296 == v % 4294967296)
      (makes (Access.Wait (address_in l t (cell_place l (cell_of k.mutex))) (v % 4294967296)) (begins_behind t (TimedLock (cell_of k.mutex)) ++ Step t ∷ Step t ∷ []) (Row.Asleep (later k)))
      (makes (Access.Wait (address_in l t (cell_place l (cell_of k.mutex))) (v % 4294967296)) (begins_behind t (TimedLock (cell_of k.mutex))) (Row.Asleep (later k)))
      (λ e. (locks_later l k o, λ timed. refl)) (λ e. (locks_later l k o, λ timed. refl))
  asleep_fits k Later v w is o = by_test Then_fits (w % 4294967296 == v % 4294967296)
      (makes (Access.Wait (address_in l t (cell_place l (cell_of k.mutex))) (v % 4294967296)) (begins_behind t (TimedLock (cell_of k.mutex)) ++ Step t ∷ Step t ∷ []) (Row.Asleep (later k)))
      (makes (Access.Wait (address_in l t (cell_place l (cell_of k.mutex))) (v % 4294967296)) (begins_behind t (TimedLock (cell_of k.mutex))) (Row.Asleep (later k)))
      (λ e. (locks_later l k o, λ timed. refl)) (λ e. (locks_later l k o, λ timed. refl))

  -- ---- an heir

  watched_fits : (k : Taking) (v : ℕ) (over : Bool) → LocksOurs l k → Fits l t (watched_row x t c k v over) g
  watched_fits k v over o = by_test (λ (r : Row). Fits l t r g) (over && is_free v) (Row.HeirTakes k v) (if over && not (fields_of v).unusable && not (k.timed && c.yes) then Row.HeirPends k Again else Row.GivesUp k)
      (λ e. (o, both over (is_free v) e))
      (λ e. either (over && not (fields_of v).unusable && not (k.timed && c.yes)) (Row.HeirPends k Again) (Row.GivesUp k) o o)
    where
      both : (a b : Bool) → (a && b) ≡ true → b ≡ true
      both true b e = e
      both false b e = absurd cc

  out_fits : (k : Taking) → LocksOurs l k → Fits l t (out_of x t c k) g
  out_fits k o = either (k.timed && c.yes) (Row.Frees k (Fails ETIMEDOUT)) (Row.Frees k Sleeps) o o

  apart_shown : (m : ℕ) → IsOurs l m → (fields_at x.machine (cell_of m)).owner ≢ t → (fields_of (word m)).owner ≢ t
  apart_shown m ours apart e = apart (sym (cell_says x m (our_cell l m ours)).owner ∙ e)

  last_fits : (k : Taking) → LocksOurs l k → (fields_at x.machine (cell_of k.mutex)).owner ≢ t → Then_fits (made x t c (Row.LastLooks k))
  last_fits k o apart = go (fields_of w).unusable ((fields_of w).owner == 0) refl (fields_of w).waiters refl
    where
      w : ℕ
      w = word k.mutex

      look : Access
      look = Access.Load (address_in l t (cell_place l (cell_of k.mutex)))

      go : (a b : Bool) → ((fields_of w).owner == 0) ≡ b → (d : Bool) → (fields_of w).waiters ≡ d
          → Then_fits (
          if a then makes look (Step t ∷ []) (if d then Row.HeirWakes k else Row.Frees k (Fails ENOTRECOVERABLE))
          else if b then makes look [] (Row.HeirPends k Again)
          else if d then makes look (Step t ∷ (Step t ∷ (Event.Expire t ∷ []))) (out_of x t c k)
          else makes look [] (Row.LastMarks k w)
          )
      go true b is true waits = o
      go true b is false waits = o
      go false true none d waits = o
      go false false some true waits = out_fits k o
      go false false some false waits = (o, record { some = λ e. eqb-false (fields_of w).owner 0 some e; other = apart_shown k.mutex o.ours apart; waiters = waits })

  -- ---- a release

  finds_fits : (m : ℕ) (y : Giving) → GivesOurs l m y → Fits l t (if c.yes then Row.GiveFinds m y else Row.Gives m y) g
  finds_fits m y o = either c.yes (Row.GiveFinds m y) (Row.Gives m y) o o

  given_fits : (m : ℕ) (y : Giving) → GivesOurs l m y → Fits l t (given_row x t c m y) g
  given_fits m (OfUnlock d) o = tt
  given_fits m (OfWait k n slept timed) o = o

  unlinked_fits : (m : ℕ) (y : Giving) → GivesOurs l m y → Fits l t (unlinked_row x t c m y) g
  unlinked_fits m (OfUnlock d) o = finds_fits m (OfUnlock d) o
  unlinked_fits m (OfWait k n true timed) o = finds_fits m (OfWait k n true timed) o
  unlinked_fits m (OfWait k n false timed) o = o

  hands_fits : (m : ℕ) (y : Giving) (is : ℕ) → GivesOurs l m y → Fits l t (hands_row x t c m y is) g
  hands_fits m y is o = either c.yes (Row.WakesOne m y is) (Row.HandsOn m y is) o o

  released_fits : (m : ℕ) (y : Giving) (w : ℕ) → GivesOurs l m y → IsAbout l m g → Fits l t (released x t c m y w) g
  released_fits m (OfUnlock true) w o about = either (fields_of w).waiters (Row.WakesAll m OK) (Row.Clears m OK) about tt
  released_fits m (OfUnlock false) w o about = either (fields_of w).waiters (hands_row x t c m (OfUnlock false) (w - t)) (given_row x t c m (OfUnlock false)) (hands_fits m (OfUnlock false) (w - t) o) tt
  released_fits m (OfWait k n slept timed) w o about = either (fields_of w).waiters (hands_row x t c m (OfWait k n slept timed) (w - t)) (given_row x t c m (OfWait k n slept timed)) (hands_fits m (OfWait k n slept timed) (w - t) o) o

  woke_fits : (m : ℕ) (y : Giving) (is : ℕ) → GivesOurs l m y → Fits l t (woke_row x t c m y is) g
  woke_fits m (OfUnlock d) is o = either (is_nobody (x.machine.queues (cell_place l (cell_of m)))) (Row.Trims m is) (Row.Clears m OK) o tt
  woke_fits m (OfWait k n slept timed) is o = o

  freed_fits : (k : Taking) (f : Onward) → LocksOurs l k → Fits l t (freed_row x t c k f) g
  freed_fits k (Has r) o = tt
  freed_fits k (Fails r) o = tt
  freed_fits k Sleeps o = o

  counted_fits : (m k : ℕ) (all slept : Bool) (n : ℕ) → AreOfUs l m k → Fits l t (counted_row x t c m k all slept n) g
  counted_fits m k all false n o = tt
  counted_fits m k false true n o = o
  counted_fits m k true true n o = o

  -- ---- each row

  along_fits : (here behind : Row) → Fits l t here g → Fits l t behind g → Then_fits (goes_along x t here behind)
  along_fits here behind now then_on = either (is_on_list ((run x.machine (Step t ∷ [])).threads t).stage) here behind now then_on

  abbrev cell_at : ℕ → ℕ
  cell_at m = address_in l t (cell_place l (cell_of m))

  abbrev slot_at : ℕ → ℕ
  slot_at m = address_in l t (cell_place l (slot_of m))

  takes_fit : (k : Taking) (v : ℕ) → LocksOurs l k → IsAbout l k.mutex g → Then_fits (made x t c (Row.Takes k v))
  takes_fit k v o about = by_test Then_fits (word k.mutex == v)
      (makes (Access.Exchange (cell_at k.mutex) v (taken_word v t)) (Step t ∷ Step t ∷ []) (Row.Links k.mutex (acquired (fields_of v))))
      (makes (Access.Exchange (cell_at k.mutex) v (taken_word v t)) (seen_events t k.mutex k.how (word k.mutex)) (seen_row t k (word k.mutex)))
      (λ e. tt) (λ e. seen_fits l t g k (word k.mutex) o about)

  slot_takes_fit : (k : Taking) (sl : ℕ) → LocksOurs l k → Then_fits (made x t c (Row.SlotTakes k sl))
  slot_takes_fit k sl o = by_test Then_fits (slot_word k.mutex == sl)
      (makes (Access.Exchange (slot_at k.mutex) sl (taken_word sl t)) (Step t ∷ Step t ∷ []) (Row.SlotLinks k (fields_of sl).died))
      (if (fields_of (slot_word k.mutex)).owner == 0 then makes (Access.Exchange (slot_at k.mutex) sl (taken_word sl t)) [] (Row.SlotTakes k (slot_word k.mutex)) else makes (Access.Exchange (slot_at k.mutex) sl (taken_word sl t)) (Step t ∷ []) (Row.SlotLeft k))
      (λ e. o)
      (λ e. by_test Then_fits ((fields_of (slot_word k.mutex)).owner == 0) (makes (Access.Exchange (slot_at k.mutex) sl (taken_word sl t)) [] (Row.SlotTakes k (slot_word k.mutex))) (makes (Access.Exchange (slot_at k.mutex) sl (taken_word sl t)) (Step t ∷ []) (Row.SlotLeft k))
      (λ f. (o, eqb-true (fields_of (slot_word k.mutex)).owner 0 f)) (λ f. o))

  try_takes_fit : (m v : ℕ) → IsOurs l m → Then_fits (made x t c (Row.TryTakes m v))
  try_takes_fit m v o = by_test Then_fits (word m == v)
      (makes (Access.Exchange (cell_at m) v (taken_word v t)) (Step t ∷ Step t ∷ []) (Row.Links m (acquired (fields_of v))))
      (if is_free (word m) then makes (Access.Exchange (cell_at m) v (taken_word v t)) [] (Row.TryTakes m (word m)) else makes (Access.Exchange (cell_at m) v (taken_word v t)) (Step t ∷ []) (Row.Clears m (if (fields_of (word m)).unusable then ENOTRECOVERABLE else EBUSY)))
      (λ e. tt)
      (λ e. by_test Then_fits (is_free (word m)) (makes (Access.Exchange (cell_at m) v (taken_word v t)) [] (Row.TryTakes m (word m))) (makes (Access.Exchange (cell_at m) v (taken_word v t)) (Step t ∷ []) (Row.Clears m (if (fields_of (word m)).unusable then ENOTRECOVERABLE else EBUSY)))
      (λ f. (o, f)) (λ f. tt))

  heir_takes_fit : (k : Taking) (v : ℕ) → LocksOurs l k → Then_fits (made x t c (Row.HeirTakes k v))
  heir_takes_fit k v o = by_test Then_fits (word k.mutex == v)
      (makes (Access.Exchange (cell_at k.mutex) v (taken_word v t)) (Step t ∷ Step t ∷ []) (Row.HeirHas k (acquired (fields_of v))))
      (makes (Access.Exchange (cell_at k.mutex) v (taken_word v t)) [] (watched_row x t c k (word k.mutex) true))
      (λ e. o) (λ e. watched_fits k (word k.mutex) true o)

  last_marks_fit : (k : Taking) (v : ℕ) → LocksOurs l k → Then_fits (made x t c (Row.LastMarks k v))
  last_marks_fit k v o = by_test Then_fits (word k.mutex == v)
      (makes (Access.Exchange (cell_at k.mutex) v (waiting_word v)) (sets_and_expires t) (out_of x t c k))
      (makes (Access.Exchange (cell_at k.mutex) v (waiting_word v)) [] (Row.HeirPends k Again))
      (λ e. out_fits k o) (λ e. o)

  anews_fit : (m v : ℕ) → IsOurs l m → Then_fits (made x t c (Row.Anews m v))
  anews_fit m v o = by_test Then_fits (word m == v)
      (makes (Access.Exchange (cell_at m) v (v - 4294967296 + 8589934592)) (Event.Remake t (cell_of m) ∷ []) Row.Rests)
      (makes (Access.Exchange (cell_at m) v (v - 4294967296 + 8589934592)) [] (if (fields_of (word m)).unusable then Row.Anews m (word m) else Row.Rests))
      (λ e. tt)
      (λ e. by_test (λ (r : Row). Fits l t r g) (fields_of (word m)).unusable (Row.Anews m (word m)) Row.Rests (λ f. (o, f)) (λ f. tt))

  heir_looks_fit : (k : Taking) (v : ℕ) (a b d : Bool) → LocksOurs l k → Fits l t (if a then Row.HeirPendsOn k v true else if b then Row.HeirPends k Again else Row.HeirPendsOn k v false) g
  heir_looks_fit k v true b d o = o
  heir_looks_fit k v false true d o = o
  heir_looks_fit k v false false d o = o

  pub fits_row : (r : Row) (was : Stage) → Fits l t r was → IsApart x t r → ((m : ℕ) → MayWakeAll r m → IsAbout l m g) → Fits l t (made x t c r).next g
  fits_row Row.Rests was f apart wakes = tt
  fits_row (Row.Looks k) was (o, tried) apart wakes = by_test Then_fits ((fields_of (word k.mutex)).owner == t)
      (makes (Access.Load (cell_at k.mutex)) (Event.Begin t (OnMutex (TimedLock (cell_of k.mutex))) ∷ Step t ∷ Step t ∷ Step t ∷ []) Row.Rests) (makes (Access.Load (cell_at k.mutex)) [] (Row.Pends k (word k.mutex)))
      (λ e. tt) (λ e. (o, tried))
  fits_row (Row.Pends k v) was (o, tried) apart wakes = by_test (λ (r : Row). Fits l t r g) (is_free v) (Row.Takes k v) (Row.Sees k) (λ e. (o, e)) (λ e. o)
  fits_row (Row.Sees k) was o apart wakes = seen_fits l t g k (word k.mutex) o (wakes k.mutex refl)
  fits_row (Row.Takes k v) was (o, free) apart wakes = takes_fit k v o (wakes k.mutex refl)
  fits_row (Row.Links m r) was f apart wakes = along_fits (Row.Links m r) (Row.Clears m r) tt tt
  fits_row (Row.Clears m r) was f apart wakes = tt
  fits_row (Row.Chooses k v) was (o, sees) apart wakes = chosen_fits k v o sees
  fits_row (Row.SeesAgain k v) was (o, to) apart wakes = seen_fits l t g k (word k.mutex) o (wakes k.mutex refl)
  fits_row (Row.Marks k v n) was (o, to) apart wakes = marks_fit k v n o to (wakes k.mutex refl)
  fits_row (Row.SleepsOn k v) was (o, sees) apart wakes = asleep_fits k k.how v (word k.mutex) refl o
  fits_row (Row.Asleep k) was (o, later_if) apart wakes = o
  fits_row (Row.Late k) was f apart wakes = f
  fits_row (Row.LateSees k) was f apart wakes = tt
  fits_row (Row.WakesAll m r) was f apart wakes = tt
  fits_row (Row.SlotPends k sl) was (o, to, none) apart wakes = (o, none)
  fits_row (Row.SlotTakes k sl) was (o, none) apart wakes = slot_takes_fit k sl o
  fits_row (Row.SlotLeft k) was o apart wakes = (locks_later l k o, refl)
  fits_row (Row.SeesToSleep k) was (o, is) apart wakes = to_sleep_fits l t g k (word k.mutex) o (apart_shown k.mutex o.ours apart) (wakes k.mutex refl)
  fits_row (Row.SlotLinks k d) was o apart wakes = along_fits (Row.SlotLinks k d) (if d then Row.SlotClears k else Row.HeirPends k Linked) o (either d (Row.SlotClears k) (Row.HeirPends k Linked) o o)
  fits_row (Row.SlotClears k) was o apart wakes = o
  fits_row (Row.SlotQuiets k) was o apart wakes = o
  fits_row (Row.SlotMends k) was o apart wakes = o
  fits_row (Row.HeirPends k b) was o apart wakes = o
  fits_row (Row.HeirSets k) was o apart wakes = o
  fits_row (Row.HeirLooks k) was o apart wakes = heir_looks_fit k (word k.mutex) ((fields_of (word k.mutex)).unusable || (is_free (word k.mutex) && c.yes)) c.again true o
  fits_row (Row.HeirPendsOn k v over) was o apart wakes = watched_fits k v over o
  fits_row (Row.HeirTakes k v) was (o, free) apart wakes = heir_takes_fit k v o
  fits_row (Row.HeirHas k r) was o apart wakes = o
  fits_row (Row.HeirLinks k r) was o apart wakes = along_fits (Row.HeirLinks k r) (Row.Frees k (Has r)) o o
  fits_row (Row.GivesUp k) was o apart wakes = o
  fits_row (Row.LastLooks k) was o apart wakes = last_fits k o apart
  fits_row (Row.LastMarks k v) was (o, to) apart wakes = last_marks_fit k v o
  fits_row (Row.HeirWakes k) was o apart wakes = o
  fits_row (Row.Frees k f) was o apart wakes = o
  fits_row (Row.FreeUnlinks k f) was o apart wakes = along_fits (Row.FreeUnlinks k f) (Row.FreeGives k f) o o
  fits_row (Row.FreeGives k f) was o apart wakes = freed_fits k f o
  fits_row (Row.TryLooks m) was o apart wakes = by_test Then_fits (is_free (word m))
      (makes (Access.Load (cell_at m)) [] (Row.TryPends m (word m))) (makes (Access.Load (cell_at m)) (Event.Begin t (OnMutex (TryLock (cell_of m))) ∷ Step t ∷ Step t ∷ Step t ∷ []) Row.Rests)
      (λ e. (o, e)) (λ e. tt)
  fits_row (Row.TryPends m v) was o apart wakes = o
  fits_row (Row.TryTakes m v) was (o, free) apart wakes = try_takes_fit m v o
  fits_row (Row.GiveLooks m) was o apart wakes = by_test Then_fits ((fields_of (word m)).owner == t)
      (makes (Access.Load (cell_at m)) [] (Row.GivePends m (OfUnlock (fields_of (word m)).died))) (makes (Access.Load (cell_at m)) (Event.Begin t (OnMutex (Unlock (cell_of m))) ∷ Step t ∷ []) Row.Rests)
      (λ e. o) (λ e. tt)
  fits_row (Row.GivePends m y) was o apart wakes = o
  fits_row (Row.GiveUnlinks m y) was o apart wakes = along_fits (Row.GiveUnlinks m y) (unlinked_row x t c m y) o (unlinked_fits m y o)
  fits_row (Row.GiveFinds m y) was o apart wakes = either c.again (Row.GiveFinds m y) (Row.Gives m y) o o
  fits_row (Row.Gives m y) was o apart wakes = released_fits m y (word m) o (wakes m refl)
  fits_row (Row.HandsOn m y is) was o apart wakes = by_test Then_fits (shows_heir (slot_word m) && c.yes)
      (makes (Access.Load (slot_at m)) (Spare t (heir_of x.machine t (cell_of m)) ∷ []) (given_row x t c m y)) (makes (Access.Load (slot_at m)) [] (Row.LooksBack m y is))
      (λ e. given_fits m y o) (λ e. o)
  fits_row (Row.LooksBack m y is) was o apart wakes = by_test Then_fits ((fields_of (word m)).owner == 0)
      (makes (Access.Load (cell_at m)) [] (Row.WakesOne m y is)) (makes (Access.Load (cell_at m)) (Spare t left_to.Owner ∷ []) (given_row x t c m y))
      (λ e. o) (λ e. given_fits m y o)
  fits_row (Row.WakesOne m y is) was o apart wakes = woke_fits m y is o
  fits_row (Row.Trims m is) was o apart wakes = tt
  fits_row (Row.MendLooks m) was o apart wakes = by_test Then_fits (((fields_of (word m)).owner == t) && (fields_of (word m)).died)
      (makes (Access.Load (cell_at m)) [] (Row.Mends m)) (makes (Access.Load (cell_at m)) (Event.Begin t (OnMutex (Consistent (cell_of m))) ∷ Step t ∷ []) Row.Rests)
      (λ e. o) (λ e. tt)
  fits_row (Row.Mends m) was o apart wakes = tt
  fits_row (Row.AnewLooks m) was o apart wakes = by_test (λ (r : Row). Fits l t r g) (fields_of (word m)).unusable (Row.Anews m (word m)) Row.Rests (λ e. (o, e)) (λ e. tt)
  fits_row (Row.Anews m v) was (o, lost) apart wakes = anews_fit m v o
  fits_row (Row.WaitLooks m k timed) was o apart wakes = by_test Then_fits ((fields_of (word m)).owner == t)
      (makes (Access.Load (cell_at m)) [] (Row.WaitCounts m k timed (fields_of (word m)).died)) (makes (Access.Load (cell_at m)) (wait_begins x t c k timed) Row.Rests)
      (λ e. o) (λ e. tt)
  fits_row (Row.WaitCounts m k timed died) was o apart wakes = by_test Then_fits died
      (makes (Access.Load (address_in l t (counter_place l k))) (wait_begins x t c k timed) Row.Rests)
      (makes (Access.Load (address_in l t (counter_place l k))) [] (Row.GivePends m (OfWait k (shown x (counter_place l k) % 4294967296) (shows_slept x t c (shown x (counter_place l k))) timed)))
      (λ e. tt) (λ e. o)
  fits_row (Row.WaitSets m k n timed) was o apart wakes = finds_fits m (OfWait k n true timed) o
  fits_row (Row.WaitSleeps m k n timed) was o apart wakes = o
  fits_row (Row.WaitAsleep m k n timed) was o apart wakes = locks_again l m k o
  fits_row (Row.WaitLate m k n) was o apart wakes = o
  fits_row (Row.CountLooks m k all) was o apart wakes = by_test Then_fits ((fields_of (word m)).owner == t)
      (makes (Access.Load (cell_at m)) [] (Row.CountLoads m k all)) (makes (Access.Load (cell_at m)) (refused_count x t c k all) Row.Rests)
      (λ e. o) (λ e. tt)
  fits_row (Row.CountLoads m k all) was o apart wakes = o
  fits_row (Row.Counts m k all n) was o apart wakes = counted_fits m k all (shows_slept x t c n) (counted x t c n % 4294967296) o
  fits_row (Row.CountWakes m k n) was o apart wakes = either (is_nobody (x.machine.queues (counter_place l k))) (Row.Unsets m k n) Row.Rests o tt
  fits_row (Row.AllMarks m k n) was o apart wakes = o
  fits_row (Row.AllMoves m k n) was o apart wakes = o
  fits_row (Row.Unsets m k n) was o apart wakes = tt

pub next_rows_fit : NextRowsFit
next_rows_fit x t c r g g' fits apart wakes = fits_row x t c g' r g fits apart wakes
