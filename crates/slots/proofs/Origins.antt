-- At which row a call began, as far as its row says: from row to row it stays so, as does what a wait knows of its count.
use Rattle.std.proofs.Common.{◌≡◌, ◌⊎◌, inl, inr, ℕ, ◌<◌, ◌==◌, Bool, true, false, [], ◌∷◌, length, refl, ap}
use Rattle.std.specs.Prelude.{if◌then◌else◌, not, ◌&&◌, ◌||◌, ◌-◌, ◌%◌, ◌^◌, nat_lt}
use Rattle.lockword.specs.Cells.{fields_of}
use Rattle.lockword.specs.declared.reply.Reply.TheVariants.{OK, EDEADLK, EINVAL, ETIMEDOUT, ENOTRECOVERABLE}
use Rattle.stepprograms.specs.declared.access.Access.{Access}
use Rattle.stepprograms.specs.Accesses.{is_nobody}
use Rattle.memorymap.specs.Layouts.{Layout', address_in, cell_place, counter_place}
use Rattle.protocol.specs.declared.event.Event.TheVariants.{Step}
use Rattle.protocol.specs.declared.thread.Stage.{Stage}
use Rattle.protocol.specs.Machine.{run}
use Rattle.slots.specs.Places.{cell_of, slot_of}
use Rattle.slots.specs.Rows.{Choice, Giving, How, Onward, Row, Taking, Then}
use Rattle.slots.specs.Rows.How.{Tried, Later, Waited}
use Rattle.slots.specs.Rows.Before.{Linked, Again}
use Rattle.slots.specs.Rows.Giving.{OfUnlock, OfWait}
use Rattle.slots.specs.Rows.Onward.{Has, Fails, Sleeps}
use Rattle.slots.specs.Rows.Then.{ToSleep, ToSlot}
use Rattle.slots.specs.Shown.{Slots, shown}
use Rattle.slots.specs.Words.{is_free, is_moving, shows_heir}
use Rattle.slots.specs.Seen.{expires, later, owned_row, seen_row, seen_to_sleep, sleep_row, unusable_row}
use Rattle.slots.specs.Table.{Made, chosen, counted, counted_row, finds_row, freed_row, given_row, is_on_list, made, makes, marked_row, missed, on_cell, out_of, released, shows_slept, to_slot, tries, unlinked_row, watched_row, woke_row}
use Rattle.slots.specs.Runs.{is_first, is_ours, lapse_row, may_be_due, may_call}
use Rattle.slots.specs.Fits.{Fits, FitsToMark}
use Rattle.slots.specs.Deadlines.{has_deadline, is_lock}
use Rattle.slots.specs.Outcomes.{ends_wait, unlocks}
use Rattle.slots.specs.Replies.{deed}
use Rattle.slots.proofs.Leading.{by_test}

-- ---- what a row says

-- Nothing; that its call is no signal and no broadcast; a lock, which has come there so, and whether it has a deadline; a
-- wait, and whether it has one; a signal, or a broadcast; one of these, which has woken whom it wakes
pub data Origin : Type 0 where
  Unsaid : Origin
  Other : Origin
  Lock : How → Bool → Origin
  Wait : ℕ → Bool → Origin
  Count : ℕ → Bool → Origin
  Counted : ℕ → Origin

-- it is a signal or a broadcast
abbrev pub is_count : Row → Bool
is_count (Row.CountLooks m k all) = true
is_count r = false

-- the lock that ends a wait says nothing of the wait
abbrev pub LockFrom : How → Bool → Row → Type 0
LockFrom (Waited z) timed b = Unit {0}
LockFrom h timed b = (is_lock b ≡ true) × (has_deadline b ≡ timed)

abbrev pub WaitFrom : ℕ → Bool → Row → Type 0
WaitFrom k timed (Row.WaitLooks m j d) = (j ≡ k) × (d ≡ timed)
WaitFrom k timed b = ⊥

abbrev pub CountFrom : ℕ → Bool → Row → Type 0
CountFrom k all (Row.CountLooks m j d) = (j ≡ k) × (d ≡ all)
CountFrom k all b = ⊥

abbrev pub CountedFrom : ℕ → Row → Type 0
CountedFrom k (Row.CountLooks m j d) = j ≡ k
CountedFrom k b = ⊥

-- a call that began at row b is such a one
abbrev pub From : Origin → Row → Type 0
From Origin.Unsaid b = Unit {0}
From Origin.Other b = is_count b ≡ false
From (Origin.Lock h timed) b = (is_count b ≡ false) × LockFrom h timed b
From (Origin.Wait k timed) b = WaitFrom k timed b
From (Origin.Count k all) b = CountFrom k all b
From (Origin.Counted k) b = CountedFrom k b

abbrev pub giving_origin : Giving → Origin
giving_origin (OfUnlock d) = Origin.Other
giving_origin (OfWait k n slept timed) = Origin.Wait k timed

abbrev pub origin : Row → Origin
origin Row.Rests = Origin.Unsaid
origin (Row.Looks k) = Origin.Lock k.how k.timed
origin (Row.Pends k v) = Origin.Lock k.how k.timed
origin (Row.Sees k) = Origin.Lock k.how k.timed
origin (Row.Takes k v) = Origin.Lock k.how k.timed
origin (Row.Chooses k v) = Origin.Lock k.how k.timed
origin (Row.SeesAgain k v) = Origin.Lock k.how k.timed
origin (Row.Marks k v n) = Origin.Lock k.how k.timed
origin (Row.SleepsOn k v) = Origin.Lock k.how k.timed
origin (Row.Asleep k) = Origin.Lock k.how k.timed
origin (Row.SeesToSleep k) = Origin.Lock k.how k.timed
-- at the slot, and as the heir
origin (Row.Late k) = Origin.Lock Later k.timed
origin (Row.LateSees k) = Origin.Lock Later k.timed
origin (Row.SlotPends k g) = Origin.Lock Later k.timed
origin (Row.SlotTakes k g) = Origin.Lock Later k.timed
origin (Row.SlotLeft k) = Origin.Lock Later k.timed
origin (Row.SlotLinks k d) = Origin.Lock Later k.timed
origin (Row.SlotClears k) = Origin.Lock Later k.timed
origin (Row.SlotQuiets k) = Origin.Lock Later k.timed
origin (Row.SlotMends k) = Origin.Lock Later k.timed
origin (Row.HeirPends k b) = Origin.Lock Later k.timed
origin (Row.HeirSets k) = Origin.Lock Later k.timed
origin (Row.HeirLooks k) = Origin.Lock Later k.timed
origin (Row.HeirPendsOn k v over) = Origin.Lock Later k.timed
origin (Row.HeirTakes k v) = Origin.Lock Later k.timed
origin (Row.HeirHas k y) = Origin.Lock Later k.timed
origin (Row.HeirLinks k y) = Origin.Lock Later k.timed
origin (Row.GivesUp k) = Origin.Lock Later k.timed
origin (Row.LastLooks k) = Origin.Lock Later k.timed
origin (Row.LastMarks k v) = Origin.Lock Later k.timed
origin (Row.HeirWakes k) = Origin.Lock Later k.timed
origin (Row.Frees k f) = Origin.Lock Later k.timed
origin (Row.FreeUnlinks k f) = Origin.Lock Later k.timed
origin (Row.FreeGives k f) = Origin.Lock Later k.timed
-- a release
origin (Row.GivePends m y) = giving_origin y
origin (Row.GiveUnlinks m y) = giving_origin y
origin (Row.GiveFinds m y) = giving_origin y
origin (Row.Gives m y) = giving_origin y
origin (Row.HandsOn m y is) = giving_origin y
origin (Row.LooksBack m y is) = giving_origin y
origin (Row.WakesOne m y is) = giving_origin y
-- condition variables
origin (Row.WaitLooks m k timed) = Origin.Wait k timed
origin (Row.WaitCounts m k timed died) = Origin.Wait k timed
origin (Row.WaitSets m k n timed) = Origin.Wait k timed
origin (Row.WaitSleeps m k n timed) = Origin.Wait k timed
origin (Row.WaitAsleep m k n timed) = Origin.Wait k timed
origin (Row.WaitLate m k n) = Origin.Wait k true
origin (Row.CountLooks m k all) = Origin.Count k all
origin (Row.CountLoads m k all) = Origin.Count k all
origin (Row.Counts m k all n) = Origin.Count k all
origin (Row.CountWakes m k n) = Origin.Count k false
origin (Row.AllMarks m k n) = Origin.Count k true
origin (Row.AllMoves m k n) = Origin.Count k true
origin (Row.Unsets m k n) = Origin.Counted k
origin r = Origin.Other

-- A wait that has unlocked its mutex knows T of its condition variable and the count on which it sleeps. After its deadline,
-- it is at the row of a wait without one
abbrev pub AsBegun : Row → Bool → (ℕ → ℕ → Type 0) → Row → Type 0
AsBegun b passed T (Row.HandsOn m (OfWait k n slept timed) is) = WaitFrom k timed b × T k n
AsBegun b passed T (Row.LooksBack m (OfWait k n slept timed) is) = WaitFrom k timed b × T k n
AsBegun b passed T (Row.WakesOne m (OfWait k n slept timed) is) = WaitFrom k timed b × T k n
AsBegun b passed T (Row.WaitSleeps m k n timed) = WaitFrom k timed b × T k n
AsBegun b passed T (Row.WaitAsleep m k n true) = WaitFrom k true b × T k n
AsBegun b passed T (Row.WaitAsleep m k n false) = WaitFrom k false b ⊎ ((passed ≡ true) × (is_count b ≡ false))
AsBegun b passed T (Row.WaitLate m k n) = WaitFrom k true b × T k n
AsBegun b passed T r = From (origin r) b

pub no_count : (k : ℕ) (timed : Bool) (b : Row) → WaitFrom k timed b → is_count b ≡ false
no_count k timed (Row.WaitLooks m j d) f = refl
no_count k timed b f = absurd f

pub wait_deadline : (k : ℕ) (timed : Bool) (b : Row) → WaitFrom k timed b → has_deadline b ≡ timed
wait_deadline k timed (Row.WaitLooks m j d) f = f.1
wait_deadline k timed b f = absurd f

-- a lock that has been to the slot, or has slept
pub later_from : (h : How) (timed : Bool) (b : Row) → ends_wait h ≡ false → From (Origin.Lock h timed) b → From (Origin.Lock Later timed) b
later_from Tried timed b e f = f
later_from Later timed b e f = f
later_from (Waited z) timed b e f = absurd cc

-- ---- a call begins

pub first_begun : (l : Layout') (held : ℕ) (r : Row) (T : ℕ → ℕ → Type 0) → may_call l held r ≡ true → AsBegun r false T r
first_begun l held (Row.Looks k) T e = go k.how (is_ours l k.mutex) (nat_lt held 2046) (may_be_due k) e
  where
    go : (h : How) (a d f : Bool) → (is_first h && a && d && f) ≡ true → (false ≡ false) × LockFrom h k.timed (Row.Looks k)
    go Tried a d f e = (refl, (refl, refl))
    go Later a d f e = absurd cc
    go (Waited z) a d f e = absurd cc
first_begun l held (Row.TryLooks m) T e = refl
first_begun l held (Row.GiveLooks m) T e = refl
first_begun l held (Row.MendLooks m) T e = refl
first_begun l held (Row.AnewLooks m) T e = refl
first_begun l held (Row.WaitLooks m k timed) T e = (refl, refl)
first_begun l held (Row.CountLooks m k all) T e = (refl, refl)
first_begun l held r T e = absurd cc

-- ---- a deadline passes, or nothing does

pub lapse_begun : (l : Layout') (t : ℕ) (g : Stage) (b : Row) (p q : Bool) (T : ℕ → ℕ → Type 0) (r : Row) → Fits l t r g → (p ≡ true → q ≡ true) → AsBegun b p T r → AsBegun b q T (lapse_row r)
lapse_begun l t g b p q T (Row.Asleep k) o on f = by_test (AsBegun b q T) k.timed (Row.Late k) (Row.Asleep k) (λ e. later_from k.how k.timed b (ap ends_wait (o.1 e)) f) (λ e. f)
lapse_begun l t g b p q T (Row.WaitAsleep m k n true) o on f = f
lapse_begun l t g b p q T (Row.WaitAsleep m k n false) o on (inl f) = inl f
lapse_begun l t g b p q T (Row.WaitAsleep m k n false) o on (inr f) = inr (on f.0, f.1)
lapse_begun l t g b p q T (Row.HandsOn m (OfWait k n slept timed) is) o on f = f
lapse_begun l t g b p q T (Row.HandsOn m (OfUnlock d) is) o on f = f
lapse_begun l t g b p q T (Row.LooksBack m (OfWait k n slept timed) is) o on f = f
lapse_begun l t g b p q T (Row.LooksBack m (OfUnlock d) is) o on f = f
lapse_begun l t g b p q T (Row.WakesOne m (OfWait k n slept timed) is) o on f = f
lapse_begun l t g b p q T (Row.WakesOne m (OfUnlock d) is) o on f = f
lapse_begun l t g b p q T r o on f = f

-- something else is known of counts
pub know_begun : (l : Layout') (t : ℕ) (g : Stage) (b : Row) (p : Bool) (T T' : ℕ → ℕ → Type 0) (r : Row) → Fits l t r g → ((k n : ℕ) (timed : Bool) → k < length l.conditions → WaitFrom k timed b → T k n → T' k n) → AsBegun b p T r → AsBegun b p T' r
know_begun l t g b p T T' (Row.HandsOn m (OfWait k n slept timed) is) o so f = (f.0, so k n timed o.cell.inside f.0 f.1)
know_begun l t g b p T T' (Row.HandsOn m (OfUnlock d) is) o so f = f
know_begun l t g b p T T' (Row.LooksBack m (OfWait k n slept timed) is) o so f = (f.0, so k n timed o.cell.inside f.0 f.1)
know_begun l t g b p T T' (Row.LooksBack m (OfUnlock d) is) o so f = f
know_begun l t g b p T T' (Row.WakesOne m (OfWait k n slept timed) is) o so f = (f.0, so k n timed o.cell.inside f.0 f.1)
know_begun l t g b p T T' (Row.WakesOne m (OfUnlock d) is) o so f = f
know_begun l t g b p T T' (Row.WaitSleeps m k n timed) o so f = (f.0, so k n timed o.cell.inside f.0 f.1)
know_begun l t g b p T T' (Row.WaitAsleep m k n true) o so f = (f.0, so k n true o.cell.inside f.0 f.1)
know_begun l t g b p T T' (Row.WaitAsleep m k n false) o so f = f
know_begun l t g b p T T' (Row.WaitLate m k n) o so f = (f.0, so k n true o.cell.inside f.0 f.1)
know_begun l t g b p T T' r o so f = f

-- ---- an access

-- a wait whose deadline has just passed
abbrev pub is_wait_late : Row → Bool
is_wait_late (Row.WaitLate m k n) = true
is_wait_late r = false

-- what a wait knows of its count once it has unlocked its mutex
abbrev pub GivesSo : (ℕ → ℕ → Type 0) → Row → Type 0
GivesSo T (Row.Gives m (OfWait k n slept timed)) = T k n
GivesSo T r = Unit {0}

and_first : (a b d : Bool) → (a && b && d) ≡ true → a ≡ true
and_first true b d e = refl
and_first false b d e = absurd cc

module _ (x : Slots) (t : ℕ) (c : Choice) (b : Row) (p : Bool) (T T' : ℕ → ℕ → Type 0) where
  abbrev l : Layout'
  l = x.machine.layout

  abbrev word : ℕ → ℕ
  word k = shown x (cell_place l k)

  abbrev cell : ℕ → ℕ
  cell m = word (cell_of m)

  abbrev As : Row → Type 0
  As r = AsBegun b p T' r

  -- of a lock, in this way
  abbrev Locks : How → Bool → Type 0
  Locks h timed = From (Origin.Lock h timed) b

  either : (d : Bool) (r q : Row) → As r → As q → As (if d then r else q)
  either true r q first second = first
  either false r q first second = second

  two : (d : Bool) (n o : Made) → As n.next → As o.next → As (if d then n else o).next
  two true n o first second = first
  two false n o first second = second

  along : (here behind : Row) → As here → As behind → As (if is_on_list ((run x.machine (Step t ∷ [])).threads t).stage then here else behind)
  along here behind now then_on = either (is_on_list ((run x.machine (Step t ∷ [])).threads t).stage) here behind now then_on

  -- ---- a lock has seen its cell's word

  lost : (m w : ℕ) → is_count b ≡ false → As (unusable_row m w)
  lost m w f = either (fields_of w).waiters (Row.WakesAll m ENOTRECOVERABLE) (Row.Clears m ENOTRECOVERABLE) f f

  owned : (k : Taking) (h : How) (w : ℕ) → Locks k.how k.timed → As (owned_row k h w)
  owned k Tried w f = either k.wrong (Row.Clears k.mutex EINVAL) (Row.Chooses k w) f.0 f
  owned k Later w f = f
  owned k (Waited z) w f = f

  seen : (k : Taking) (w : ℕ) → Locks k.how k.timed → As (seen_row t k w)
  seen k w f = either (fields_of w).unusable (unusable_row k.mutex w) (if (fields_of w).owner == 0 then Row.Takes k w else if (fields_of w).owner == t then Row.Clears k.mutex EDEADLK else owned_row k k.how w) (lost k.mutex w f.0)
      (either ((fields_of w).owner == 0) (Row.Takes k w) (if (fields_of w).owner == t then Row.Clears k.mutex EDEADLK else owned_row k k.how w) f
      (either ((fields_of w).owner == t) (Row.Clears k.mutex EDEADLK) (owned_row k k.how w) f.0 (owned k k.how w f)))

  sleep : (k : Taking) (w : ℕ) → Locks k.how k.timed → As (sleep_row k w)
  sleep k w f = either (fields_of w).waiters (Row.SleepsOn k w) (Row.Marks k w ToSleep) f f

  to_sleep : (k : Taking) (w : ℕ) → Locks k.how k.timed → As (seen_to_sleep k w)
  to_sleep k w f = either (fields_of w).unusable (unusable_row k.mutex w) (if (fields_of w).owner == 0 then Row.Takes k w else sleep_row k w) (lost k.mutex w f.0)
      (either ((fields_of w).owner == 0) (Row.Takes k w) (sleep_row k w) f (sleep k w f))

  to_the_slot : (k : Taking) (h : How) (v sl : ℕ) → Locks Later k.timed → Locks k.how k.timed → As (to_slot x t c k h v sl)
  to_the_slot k Tried v sl f g = f
  to_the_slot k Later v sl f g = either (fields_of v).waiters (Row.SlotPends k sl) (Row.Marks k v (ToSlot sl)) f g
  to_the_slot k (Waited z) v sl f g = either (fields_of v).waiters (Row.SlotPends k sl) (Row.Marks k v (ToSlot sl)) f g

  tries_so : (h : How) → tries x t c h ≡ true → ends_wait h ≡ false
  tries_so Tried e = refl
  tries_so Later e = refl
  tries_so (Waited z) e = absurd cc

  chooses : (k : Taking) (v sl : ℕ) → Locks k.how k.timed → As (chosen x t c k v sl)
  chooses k v sl f = either (tries x t c k.how && is_moving sl && c.again) (Row.SeesAgain k v) (if tries x t c k.how && ((fields_of sl).owner == 0) && c.yes then to_slot x t c k k.how v sl else sleep_row k v) f
      (by_test As (tries x t c k.how && ((fields_of sl).owner == 0) && c.yes) (to_slot x t c k k.how v sl) (sleep_row k v)
      (λ e. to_the_slot k k.how v sl (later_from k.how k.timed b (tries_so k.how (and_first (tries x t c k.how) ((fields_of sl).owner == 0) c.yes e)) f) f) (λ e. sleep k v f))

  marked : (k : Taking) (v : ℕ) (n : Then) (h : How) → k.how ≡ h → FitsToMark k t v n → Locks k.how k.timed → As (marked_row x t c k h v n)
  marked k v (ToSlot sl) h how o f = later_from k.how k.timed b (ap ends_wait o.1) f
  marked k v ToSleep Tried how o f = later_from k.how k.timed b (ap ends_wait how) f
  marked k v ToSleep Later how o f = later_from k.how k.timed b (ap ends_wait how) f
  marked k v ToSleep (Waited z) how o f = f

  misses : (a : Access) (k : Taking) (h : How) → k.how ≡ h → Locks k.how k.timed → As (missed x t c a k h (cell k.mutex)).next
  misses a k Tried how f = seen (later k) (cell k.mutex) (later_from k.how k.timed b (ap ends_wait how) f)
  misses a k Later how f = seen k (cell k.mutex) f
  misses a k (Waited z) how f = seen k (cell k.mutex) f

  asleep : (k : Taking) (v : ℕ) (h : How) (w : ℕ) → k.how ≡ h → Locks k.how k.timed → As (on_cell x t c k h v w).next
  asleep k v (Waited z) w how f = f
  asleep k v Tried w how f = let g = later_from k.how k.timed b (ap ends_wait how) f in two (w % 2 ^ 32 == v % 2 ^ 32) _ _ g g
  asleep k v Later w how f = let g = later_from k.how k.timed b (ap ends_wait how) f in two (w % 2 ^ 32 == v % 2 ^ 32) _ _ g g

  watched : (k : Taking) (v : ℕ) (over : Bool) → Locks Later k.timed → As (watched_row x t c k v over)
  watched k v over f = either (over && is_free v) (Row.HeirTakes k v) (if over && not (fields_of v).unusable && not (k.timed && c.yes) then Row.HeirPends k Again else Row.GivesUp k) f
      (either (over && not (fields_of v).unusable && not (k.timed && c.yes)) (Row.HeirPends k Again) (Row.GivesUp k) f f)

  out : (k : Taking) → Locks Later k.timed → As (out_of x t c k)
  out k f = either (k.timed && c.yes) (Row.Frees k (Fails ETIMEDOUT)) (Row.Frees k Sleeps) f f

  freed : (k : Taking) (y : Onward) → Locks Later k.timed → As (freed_row x t c k y)
  freed k (Has y) f = f.0
  freed k (Fails y) f = f.0
  freed k Sleeps f = f

  last : (k : Taking) (w : ℕ) (a d e : Bool) → Locks Later k.timed → As (
      if a then makes (Access.Load (address_in l t (cell_place l (cell_of k.mutex)))) (Step t ∷ []) (if e then Row.HeirWakes k else Row.Frees k (Fails ENOTRECOVERABLE))
      else if d then makes (Access.Load (address_in l t (cell_place l (cell_of k.mutex)))) [] (Row.HeirPends k Again)
      else if e then makes (Access.Load (address_in l t (cell_place l (cell_of k.mutex)))) (expires t) (out_of x t c k)
      else makes (Access.Load (address_in l t (cell_place l (cell_of k.mutex)))) [] (Row.LastMarks k w)
      ).next
  last k w true d true f = f
  last k w true d false f = f
  last k w false true e f = f
  last k w false false true f = out k f
  last k w false false false f = f

  -- ---- a release

  finds : (m : ℕ) (y : Giving) → From (giving_origin y) b → As (finds_row x t c m y)
  finds m y f = either c.yes (Row.GiveFinds m y) (Row.Gives m y) f f

  unlinked : (m : ℕ) (y : Giving) → From (giving_origin y) b → As (unlinked_row x t c m y)
  unlinked m (OfUnlock d) f = finds m (OfUnlock d) f
  unlinked m (OfWait k n true timed) f = finds m (OfWait k n true timed) f
  unlinked m (OfWait k n false timed) f = f

  -- what is known after the release
  abbrev Given : Giving → Type 0
  Given (OfUnlock d) = is_count b ≡ false
  Given (OfWait k n slept timed) = WaitFrom k timed b × T' k n

  given : (m : ℕ) (y : Giving) → Given y → As (given_row x t c m y)
  given m (OfUnlock d) f = f
  given m (OfWait k n slept timed) f = f

  hands : (m : ℕ) (y : Giving) (is : ℕ) → Given y → As (if c.yes then Row.WakesOne m y is else Row.HandsOn m y is)
  hands m (OfUnlock d) is f = either c.yes (Row.WakesOne m (OfUnlock d) is) (Row.HandsOn m (OfUnlock d) is) f f
  hands m (OfWait k n slept timed) is f = either c.yes (Row.WakesOne m (OfWait k n slept timed) is) (Row.HandsOn m (OfWait k n slept timed) is) f f

  gives : (m : ℕ) (y : Giving) (w : ℕ) → Given y → As (released x t c m y w)
  gives m (OfUnlock true) w f = either (fields_of w).waiters (Row.WakesAll m OK) (Row.Clears m OK) f f
  gives m (OfUnlock false) w f = either (fields_of w).waiters (if c.yes then Row.WakesOne m (OfUnlock false) (w - t) else Row.HandsOn m (OfUnlock false) (w - t)) (Row.Clears m OK) (hands m (OfUnlock false) (w - t) f) f
  gives m (OfWait k n slept timed) w f = either (fields_of w).waiters (if c.yes then Row.WakesOne m (OfWait k n slept timed) (w - t) else Row.HandsOn m (OfWait k n slept timed) (w - t)) (Row.WaitSleeps m k n timed) (hands m (OfWait k n slept timed) (w - t) f) f

  woke : (m : ℕ) (y : Giving) (n : ℕ) → Given y → As (woke_row x t c m y n)
  woke m (OfUnlock d) n f = either (is_nobody (x.machine.queues (cell_place l (cell_of m)))) (Row.Trims m n) (Row.Clears m OK) f f
  woke m (OfWait k i slept timed) n f = f

  counts : (m k : ℕ) (all slept : Bool) (v : ℕ) → CountFrom k all b → As (counted_row x t c m k all slept v)
  counts m k all false v f = tt
  counts m k false true v f = f
  counts m k true true v f = f

  counted_from : (k : ℕ) (all : Bool) (b : Row) → CountFrom k all b → CountedFrom k b
  counted_from k all (Row.CountLooks m j d) f = f.0
  counted_from k all b f = absurd f

  -- ---- each row

  handed : (m : ℕ) (y : Giving) (is : ℕ) → Given y → As (Row.LooksBack m y is)
  handed m (OfUnlock d) is f = f
  handed m (OfWait k n slept timed) is f = f

  waking : (m : ℕ) (y : Giving) (is : ℕ) → Given y → As (Row.WakesOne m y is)
  waking m (OfUnlock d) is f = f
  waking m (OfWait k n slept timed) is f = f

  pub begun_row : (r : Row) (g : Stage) → Fits l t r g → (unlocks (deed x t c r) ≡ false → (k n : ℕ) → T k n → T' k n) → GivesSo T' r → (is_wait_late r ≡ true → p ≡ true) → AsBegun b p T r → As (made x t c r).next
  begun_row Row.Rests g o still gs due f = tt
  begun_row (Row.Looks k) g o still gs due f = two ((fields_of (cell k.mutex)).owner == t) _ _ tt f
  begun_row (Row.Pends k v) g o still gs due f = either (is_free v) (Row.Takes k v) (Row.Sees k) f f
  begun_row (Row.Sees k) g o still gs due f = seen k (cell k.mutex) f
  begun_row (Row.Takes k v) g o still gs due f = two (cell k.mutex == v) _ _ f.0 (seen k (cell k.mutex) f)
  begun_row (Row.Links m y) g o still gs due f = along (Row.Links m y) (Row.Clears m y) f f
  begun_row (Row.Clears m y) g o still gs due f = tt
  begun_row (Row.Chooses k v) g o still gs due f = chooses k v (word (slot_of k.mutex)) f
  begun_row (Row.SeesAgain k v) g o still gs due f = seen k (cell k.mutex) f
  begun_row (Row.Marks k v n) g o still gs due f = two (cell k.mutex == v) _ _ (marked k v n k.how refl o.1 f) (misses _ k k.how refl f)
  begun_row (Row.SleepsOn k v) g o still gs due f = asleep k v k.how (cell k.mutex) refl f
  begun_row (Row.Asleep k) g o still gs due f = f
  begun_row (Row.Late k) g o still gs due f = f
  begun_row (Row.LateSees k) g o still gs due f = f.0
  begun_row (Row.WakesAll m y) g o still gs due f = f
  begun_row (Row.SlotPends k sl) g o still gs due f = f
  begun_row (Row.SlotTakes k sl) g o still gs due f = two (word (slot_of k.mutex) == sl) _ _ f (two ((fields_of (word (slot_of k.mutex))).owner == 0) _ _ f f)
  begun_row (Row.SlotLeft k) g o still gs due f = f
  begun_row (Row.SeesToSleep k) g o still gs due f = to_sleep k (cell k.mutex) f
  begun_row (Row.SlotLinks k d) g o still gs due f = along (Row.SlotLinks k d) (if d then Row.SlotClears k else Row.HeirPends k Linked) f (either d (Row.SlotClears k) (Row.HeirPends k Linked) f f)
  begun_row (Row.SlotClears k) g o still gs due f = f
  begun_row (Row.SlotQuiets k) g o still gs due f = f
  begun_row (Row.SlotMends k) g o still gs due f = f
  begun_row (Row.HeirPends k a) g o still gs due f = f
  begun_row (Row.HeirSets k) g o still gs due f = f
  begun_row (Row.HeirLooks k) g o still gs due f = either ((fields_of (cell k.mutex)).unusable || (is_free (cell k.mutex) && c.yes)) (Row.HeirPendsOn k (cell k.mutex) true) (if c.again then Row.HeirPends k Again else Row.HeirPendsOn k (cell k.mutex) false) f (either c.again (Row.HeirPends k Again) (Row.HeirPendsOn k (cell k.mutex) false) f f)
  begun_row (Row.HeirPendsOn k v over) g o still gs due f = watched k v over f
  begun_row (Row.HeirTakes k v) g o still gs due f = two (cell k.mutex == v) _ _ f (watched k (cell k.mutex) true f)
  begun_row (Row.HeirHas k y) g o still gs due f = f
  begun_row (Row.HeirLinks k y) g o still gs due f = along (Row.HeirLinks k y) (Row.Frees k (Has y)) f f
  begun_row (Row.GivesUp k) g o still gs due f = f
  begun_row (Row.LastLooks k) g o still gs due f = last k (cell k.mutex) (fields_of (cell k.mutex)).unusable ((fields_of (cell k.mutex)).owner == 0) (fields_of (cell k.mutex)).waiters f
  begun_row (Row.LastMarks k v) g o still gs due f = two (cell k.mutex == v) _ _ (out k f) f
  begun_row (Row.HeirWakes k) g o still gs due f = f
  begun_row (Row.Frees k y) g o still gs due f = f
  begun_row (Row.FreeUnlinks k y) g o still gs due f = along (Row.FreeUnlinks k y) (Row.FreeGives k y) f f
  begun_row (Row.FreeGives k y) g o still gs due f = freed k y f
  begun_row (Row.TryLooks m) g o still gs due f = two (is_free (cell m)) _ _ f tt
  begun_row (Row.TryPends m v) g o still gs due f = f
  begun_row (Row.TryTakes m v) g o still gs due f = two (cell m == v) _ _ f (two (is_free (cell m)) _ _ f f)
  begun_row (Row.GiveLooks m) g o still gs due f = two ((fields_of (cell m)).owner == t) _ _ f tt
  begun_row (Row.GivePends m y) g o still gs due f = f
  begun_row (Row.GiveUnlinks m y) g o still gs due f = along (Row.GiveUnlinks m y) (unlinked_row x t c m y) f (unlinked m y f)
  begun_row (Row.GiveFinds m y) g o still gs due f = either c.again (Row.GiveFinds m y) (Row.Gives m y) f f
  begun_row (Row.Gives m (OfUnlock d)) g o still gs due f = gives m (OfUnlock d) (cell m) f
  begun_row (Row.Gives m (OfWait k n slept timed)) g o still gs due f = gives m (OfWait k n slept timed) (cell m) (f, gs)
  begun_row (Row.HandsOn m (OfUnlock d) is) g o still gs due f = two (shows_heir (word (slot_of m)) && c.yes) _ _ (given m (OfUnlock d) f) (handed m (OfUnlock d) is f)
  begun_row (Row.HandsOn m (OfWait k n slept timed) is) g o still gs due f = let now : WaitFrom k timed b × T' k n = (f.0, still refl k n f.1) in two (shows_heir (word (slot_of m)) && c.yes) _ _ (given m (OfWait k n slept timed) now) (handed m (OfWait k n slept timed) is now)
  begun_row (Row.LooksBack m (OfUnlock d) is) g o still gs due f = two ((fields_of (cell m)).owner == 0) _ _ (waking m (OfUnlock d) is f) (given m (OfUnlock d) f)
  begun_row (Row.LooksBack m (OfWait k n slept timed) is) g o still gs due f = let now : WaitFrom k timed b × T' k n = (f.0, still refl k n f.1) in two ((fields_of (cell m)).owner == 0) _ _ (waking m (OfWait k n slept timed) is now) (given m (OfWait k n slept timed) now)
  begun_row (Row.WakesOne m (OfUnlock d) is) g o still gs due f = woke m (OfUnlock d) is f
  begun_row (Row.WakesOne m (OfWait k n slept timed) is) g o still gs due f = woke m (OfWait k n slept timed) is (f.0, still refl k n f.1)
  begun_row (Row.Trims m n) g o still gs due f = f
  begun_row (Row.MendLooks m) g o still gs due f = two (((fields_of (cell m)).owner == t) && (fields_of (cell m)).died) _ _ f tt
  begun_row (Row.Mends m) g o still gs due f = tt
  begun_row (Row.AnewLooks m) g o still gs due f = either (fields_of (cell m)).unusable (Row.Anews m (cell m)) Row.Rests f tt
  begun_row (Row.Anews m v) g o still gs due f = two (cell m == v) _ _ tt (either (fields_of (cell m)).unusable (Row.Anews m (cell m)) Row.Rests f tt)
  begun_row (Row.WaitLooks m k timed) g o still gs due f = two ((fields_of (cell m)).owner == t) _ _ f tt
  begun_row (Row.WaitCounts m k timed died) g o still gs due f = two died _ _ tt f
  begun_row (Row.WaitSets m k n timed) g o still gs due f = finds m (OfWait k n true timed) f
  begun_row (Row.WaitSleeps m k n true) g o still gs due f = (f.0, still refl k n f.1)
  begun_row (Row.WaitSleeps m k n false) g o still gs due f = inl f.0
  begun_row (Row.WaitAsleep m k n true) g o still gs due f = (no_count k true b f.0, tt)
  begun_row (Row.WaitAsleep m k n false) g o still gs due (inl f) = (no_count k false b f, tt)
  begun_row (Row.WaitAsleep m k n false) g o still gs due (inr f) = (f.1, tt)
  begun_row (Row.WaitLate m k n) g o still gs due f = inr (due refl, no_count k true b f.0)
  begun_row (Row.CountLooks m k all) g o still gs due f = two ((fields_of (cell m)).owner == t) _ _ f tt
  begun_row (Row.CountLoads m k all) g o still gs due f = f
  begun_row (Row.Counts m k all n) g o still gs due f = counts m k all (shows_slept x t c n) (counted x t c n % 4294967296) f
  begun_row (Row.CountWakes m k n) g o still gs due f = either (is_nobody (x.machine.queues (counter_place l k))) (Row.Unsets m k n) Row.Rests (counted_from k false b f) tt
  begun_row (Row.AllMarks m k n) g o still gs due f = f
  begun_row (Row.AllMoves m k n) g o still gs due f = counted_from k true b f
  begun_row (Row.Unsets m k n) g o still gs due f = tt
