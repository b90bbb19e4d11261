-- After an access nobody has come to sleep on a counter, unless it is a wait's sleep.
use Rattle.std.proofs.Common.{ℕ, ◌+◌, ◌%◌, ◌==◌, Bool, true, false, [], ◌∷◌, ◌++◌}
use Rattle.std.specs.Prelude.{if◌then◌else◌, ◌&&◌, ◌-◌}
use Rattle.lockword.specs.Cells.{fields_of}
use Rattle.lockword.specs.declared.reply.Reply.TheVariants.{EBUSY, ENOTRECOVERABLE}
use Rattle.stepprograms.specs.declared.access.Access.{Access}
use Rattle.memorymap.specs.Layouts.{Layout', address_in, cell_place, counter_place}
use Rattle.mutex.specs.Rows.{acquired}
use Rattle.mutex.specs.declared.call.Call.TheVariants.{Consistent, TimedLock, TryLock, Unlock}
use Rattle.condvar.specs.declared.op.Op.TheVariants.{OnMutex}
use Rattle.protocol.specs.declared.event.Event.TheVariants.{Begin, Expire, Remake, Spare, Step}
use Rattle.protocol.specs.declared.event.LeftTo.TheVariants as left_to
use Rattle.slots.specs.Places.{cell_of, slot_of}
use Rattle.slots.specs.Rows.{Choice, How, Row, Taking}
use Rattle.slots.specs.Rows.How.{Tried, Later, Waited}
use Rattle.slots.specs.Rows.Before.{Again}
use Rattle.slots.specs.Rows.Giving.{OfUnlock, OfWait}
use Rattle.slots.specs.Rows.Onward.{Fails}
use Rattle.slots.specs.Shown.{Slots, shown}
use Rattle.slots.specs.Words.{is_free}
use Rattle.slots.specs.Seen.{begins_behind, heir_of, later}
use Rattle.slots.specs.Table.{Made, given_row, made, makes, marked_events, marked_row, missed, on_cell, out_of}
use Rattle.slots.specs.Words.{shows_heir, taken_word, waiting_word}
use Rattle.slots.specs.Seen.{seen_events, seen_row, sets_and_expires}
use Rattle.slots.specs.Table.{refused_count, shows_slept, wait_begins, watched_row}
use Rattle.std.proofs.Common.{arith, inl, inr, ◌≡◌, ◌≢◌, ◌≤◌, List, drop, zero, suc, refl, sym, ap, ◌∙◌, subst}
use Rattle.robustlist.specs.Link.{link_access}
use Rattle.robustlist.specs.Unlink.{unlink_access}
use Rattle.robustlist.specs.Standings.{LinkStanding, UnlinkStanding}
use Rattle.robustlist.specs.declared.link.LinkRow.{LinkRow}
use Rattle.robustlist.specs.declared.unlink.UnlinkRow.{UnlinkRow}
use Rattle.mutex.specs.Standings.{Whole}
use Rattle.mutex.specs.Whole.{whole_access}
use Rattle.mutex.specs.declared.phase.Phase.{Phase}
use Rattle.mutex.specs.declared.phase.Phase.TheVariants.{Linking, Unlinking}
use Rattle.condvar.specs.Standings.{CondWhole}
use Rattle.condvar.specs.Whole.{cond_access}
use Rattle.condvar.specs.declared.phase.CondPhase.{CondPhase}
use Rattle.memorymap.specs.Layouts.{head_place, place_in}
use Rattle.protocol.specs.declared.thread.Stage.{Stage}
use Rattle.protocol.specs.Machine.{State, is_met, joined, moved_by, place_met, put, queue_after, queues_after}
use Rattle.protocol.proofs.Kept.{Kept}
use Rattle.protocol.proofs.Places.{counter_is_no_cell}
use Rattle.protocol.proofs.Puts.{by_put}
use Rattle.protocol.proofs.Seeing.{cell_again}
use Rattle.slots.specs.Stands.{StandsAs}
use Rattle.slots.specs.Fits.{Fits, IsOurs}
use Rattle.slots.specs.Table.{access_of_stage}
use Rattle.slots.proofs.Owned.{our_cell}

-- nobody comes to sleep at this place by the access
abbrev pub SleepsElsewhere : Layout' → ℕ → Access → ℕ → Type 0
SleepsElsewhere l t (Access.Wait at e) pl = pl ≢ place_in l t at
SleepsElsewhere l t (Access.Requeue from n to k) pl = ⊥
SleepsElsewhere l t (Access.CmpRequeue from e n to k) pl = pl ≢ place_in l t to
SleepsElsewhere l t a pl = Unit {0}

drop_empty : (n : ℕ) (q : List ℕ) → q ≡ [] → drop n q ≡ []
drop_empty zero q e = e
drop_empty (suc n) [] e = refl
drop_empty (suc n) (u ∷ us) e = absurd cc

module _ (s : State) (t pl : ℕ) (e : s.queues pl ≡ []) where
  when : (b : Bool) (f : ℕ → List ℕ) → f pl ≡ [] → (if b then f else s.queues) pl ≡ []
  when true f h = h
  when false f h = e

  put_empty : (f : ℕ → List ℕ) (p : ℕ) (q : List ℕ) → (pl ≡ p → q ≡ []) → f pl ≡ [] → put f p q pl ≡ []
  put_empty f p q at there = by_put (λ (v : List ℕ). v ≡ []) f p q pl at (λ apart. there)

  here_empty : (p : ℕ) → pl ≡ p → s.queues p ≡ []
  here_empty p is = sym (ap s.queues is) ∙ e

  moved_empty : (b : Bool) (n k : ℕ) (q : List ℕ) → q ≡ [] → (if b then drop k (drop n q) else q) ≡ []
  moved_empty true n k q none = drop_empty k (drop n q) (drop_empty n q none)
  moved_empty false n k q none = none

  -- the access is made
  abbrev Made_empty : Access → Type 0
  Made_empty a = joined s.layout t a (moved_by a (s.words (place_met s.layout t a)) (s.queues (place_met s.layout t a))) (put s.queues (place_met s.layout t a) (queue_after t a (s.words (place_met s.layout t a)) (s.queues (place_met s.layout t a)))) pl ≡ []

  pub empty_made : (a : Access) → SleepsElsewhere s.layout t a pl → Made_empty a
  empty_made (Access.Wait at w) away = put_empty s.queues (place_in s.layout t at) _ (λ is. absurd (away is)) e
  empty_made (Access.Wake at n) away = put_empty s.queues (place_in s.layout t at) (drop n (s.queues (place_in s.layout t at))) (λ is. drop_empty n (s.queues (place_in s.layout t at)) (here_empty (place_in s.layout t at) is)) e
  empty_made (Access.Requeue from n to k) away = absurd away
  empty_made (Access.CmpRequeue from w n to k) away =
      put_empty left (place_in s.layout t to) _ (λ is. absurd (away is)) (put_empty s.queues (place_in s.layout t from) _ (λ is. moved_empty (s.words (place_in s.layout t from) % 4294967296 == w) n k (s.queues (place_in s.layout t from)) (here_empty (place_in s.layout t from) is)) e)
    where
      left : ℕ → List ℕ
      left = put s.queues (place_in s.layout t from) (queue_after t (Access.CmpRequeue from w n to k) (s.words (place_in s.layout t from)) (s.queues (place_in s.layout t from)))
  empty_made a away = put_empty s.queues (place_met s.layout t a) (s.queues (place_met s.layout t a)) (λ is. here_empty (place_met s.layout t a) is) e

  pub empty_stays : (a : Access) → SleepsElsewhere s.layout t a pl → queues_after s t a pl ≡ []
  empty_stays a away = when (is_met s.layout t a) (joined s.layout t a (moved_by a (s.words (place_met s.layout t a)) (s.queues (place_met s.layout t a))) (put s.queues (place_met s.layout t a) (queue_after t a (s.words (place_met s.layout t a)) (s.queues (place_met s.layout t a))))) (empty_made a away)

-- ---- an access of the list

link_away : (l : Layout') (t h e pl : ℕ) (r : LinkRow) → SleepsElsewhere l t (link_access h e r) pl
link_away l t h e pl r = grind (arith)

unlink_away : (l : Layout') (t h e pl : ℕ) (r : UnlinkRow) → SleepsElsewhere l t (unlink_access h e r) pl
unlink_away l t h e pl r = grind (arith)

module _ (x : Slots) (t : ℕ) (c : Choice) (inv : Kept x.machine) (pos : 1 ≤ t) (known : t ≤ x.machine.layout.threads) (j : ℕ) where
  abbrev l : Layout'
  l = x.machine.layout

  abbrev word : ℕ → ℕ
  word k = shown x (cell_place l k)

  abbrev Away : Access → Type 0
  Away a = SleepsElsewhere l t a (counter_place l j)

  -- of this stage
  abbrev StageAway : Stage → Type 0
  StageAway g = Away (access_of_stage g (address_in l t (head_place t)))

  whole_link : (p : Whole) (u : LinkStanding) (r : _) → p.phase ≡ Linking u r → Away (whole_access p)
  whole_link p u r is = subst (λ (f : Phase). Away (whole_access (record p { phase = f }))) (sym is) (link_away l t u.head u.entry (counter_place l j) u.row)

  whole_unlink : (p : Whole) (u : UnlinkStanding) (d : Bool) → p.phase ≡ Unlinking u d → Away (whole_access p)
  whole_unlink p u d is = subst (λ (f : Phase). Away (whole_access (record p { phase = f }))) (sym is) (unlink_away l t u.head u.entry (counter_place l j) u.row)

  cond_unlink : (p : CondWhole) (u : UnlinkStanding) (n : ℕ) → p.phase ≡ CondPhase.Unlinking u n → Away (cond_access p)
  cond_unlink p u n is = subst (λ (f : CondPhase). Away (cond_access (record p { phase = f }))) (sym is) (unlink_away l t u.head u.entry (counter_place l j) u.row)

  at_stage : (g : Stage) → (x.machine.threads t).stage ≡ g → StageAway g → StageAway (x.machine.threads t).stage
  at_stage g is away = subst StageAway (sym is) away

  two : (b : Bool) (n o : Made) → Away n.access → Away o.access → Away (if b then n else o).access
  two true n o first second = first
  two false n o first second = second

  cell_away : (m : ℕ) → IsOurs l m → counter_place l j ≢ place_in l t (address_in l t (cell_place l (cell_of m)))
  cell_away m ours e = counter_is_no_cell l (cell_of m) j (our_cell l m ours) (e ∙ cell_again l t inv.layout pos known (cell_of m) (our_cell l m ours))

  missed_away : (a : Access) (k : Taking) (h : How) (w : ℕ) → Away a → Away (missed x t c a k h w).access
  missed_away a k Tried w away = away
  missed_away a k Later w away = away
  missed_away a k (Waited z) w away = away

  sleep_away : (k : Taking) (h : How) (v w : ℕ) → IsOurs l k.mutex → Away (on_cell x t c k h v w).access
  sleep_away k (Waited z) v w ours = cell_away k.mutex ours
  sleep_away k Tried v w ours = two (w % 4294967296 == v % 4294967296) (makes (Access.Wait (address_in l t (cell_place l (cell_of k.mutex))) (v % 4294967296)) (begins_behind t (TimedLock (cell_of k.mutex)) ++ Step t ∷ Step t ∷ []) (Row.Asleep (later k))) (makes (Access.Wait (address_in l t (cell_place l (cell_of k.mutex))) (v % 4294967296)) (begins_behind t (TimedLock (cell_of k.mutex))) (Row.Asleep (later k))) (cell_away k.mutex ours) (cell_away k.mutex ours)
  sleep_away k Later v w ours = two (w % 4294967296 == v % 4294967296) (makes (Access.Wait (address_in l t (cell_place l (cell_of k.mutex))) (v % 4294967296)) (begins_behind t (TimedLock (cell_of k.mutex)) ++ Step t ∷ Step t ∷ []) (Row.Asleep (later k))) (makes (Access.Wait (address_in l t (cell_place l (cell_of k.mutex))) (v % 4294967296)) (begins_behind t (TimedLock (cell_of k.mutex))) (Row.Asleep (later k))) (cell_away k.mutex ours) (cell_away k.mutex ours)

  last_away : (k : Taking) (w at : ℕ) (a b d : Bool) → Away (
      if a then makes (Access.Load at) (Step t ∷ []) (if d then Row.HeirWakes k else Row.Frees k (Fails ENOTRECOVERABLE))
      else if b then makes (Access.Load at) [] (Row.HeirPends k Again)
      else if d then makes (Access.Load at) (Step t ∷ (Step t ∷ (Expire t ∷ []))) (out_of x t c k)
      else makes (Access.Load at) [] (Row.LastMarks k w)
      ).access
  last_away k w at true b d = tt
  last_away k w at false true d = tt
  last_away k w at false false true = tt
  last_away k w at false false false = tt

  -- a wait's sleep
  abbrev pub IsSleep : Row → Type 0
  IsSleep (Row.WaitSleeps m k n timed) = Unit {0}
  IsSleep r = ⊥

  pub away_row : (r : Row) → Fits l t r (x.machine.threads t).stage → StandsAs r (x.machine.threads t).stage → (IsSleep r → ⊥) → Away (made x t c r).access
  away_row (Row.WaitSleeps m k n timed) o there never = absurd (never tt)
  away_row (Row.SleepsOn k v) o there never = sleep_away k k.how v (word (cell_of k.mutex)) o.0.ours
  away_row (Row.AllMoves m k n) o there never = cell_away m o.ours
  away_row (Row.Links m r) o (u, inl (p, is, phase)) never = at_stage _ is (whole_link p u r phase)
  away_row (Row.Links m r) o (u, inr (inl (p, is, phase))) never = at_stage _ is (whole_link p u r phase)
  away_row (Row.Links m r) o (u, inr (inr (z, (d, p, is, of, acts, phase)))) never = at_stage _ is (whole_link p u r phase)
  away_row (Row.SlotLinks k d) o (u, (p, is, phase)) never = at_stage _ is (whole_link p u _ phase)
  away_row (Row.HeirLinks k r) o (u, (p, is, phase)) never = at_stage _ is (whole_link p u r phase)
  away_row (Row.FreeUnlinks k f) o (u, (p, is, phase)) never = at_stage _ is (whole_unlink p u false phase)
  away_row (Row.GiveUnlinks m (OfUnlock d)) o (u, (p, is, phase)) never = at_stage _ is (whole_unlink p u d phase)
  away_row (Row.GiveUnlinks m (OfWait k n slept timed)) o (p, u, is, phase) never = at_stage _ is (cond_unlink p u n phase)
  away_row (Row.LastLooks k) o there never = last_away k (word (cell_of k.mutex)) (address_in l t (cell_place l (cell_of k.mutex))) (fields_of (word (cell_of k.mutex))).unusable ((fields_of (word (cell_of k.mutex))).owner == 0) (fields_of (word (cell_of k.mutex))).waiters
  away_row (Row.HandsOn m y is) o there never = two (shows_heir (word (slot_of m)) && c.yes) (makes (Access.Load (address_in l t (cell_place l (slot_of m)))) (Spare t (heir_of x.machine t (cell_of m)) ∷ []) (given_row x t c m y)) (makes (Access.Load (address_in l t (cell_place l (slot_of m)))) [] (Row.LooksBack m y is)) tt tt
  away_row (Row.LooksBack m y is) o there never = two ((fields_of (word (cell_of m))).owner == 0) (makes (Access.Load (address_in l t (cell_place l (cell_of m)))) [] (Row.WakesOne m y is)) (makes (Access.Load (address_in l t (cell_place l (cell_of m)))) (Spare t left_to.Owner ∷ []) (given_row x t c m y)) tt tt
  away_row (Row.Looks k) o there never = two ((fields_of (word (cell_of k.mutex))).owner == t) (makes (Access.Load (address_in l t (cell_place l (cell_of k.mutex)))) (Begin t (OnMutex (TimedLock (cell_of k.mutex))) ∷ Step t ∷ Step t ∷ Step t ∷ []) Row.Rests) (makes (Access.Load (address_in l t (cell_place l (cell_of k.mutex)))) [] (Row.Pends k (word (cell_of k.mutex)))) tt tt
  away_row (Row.Takes k v) o there never = two (word (cell_of k.mutex) == v) (makes (Access.Exchange (address_in l t (cell_place l (cell_of k.mutex))) v (taken_word v t)) (Step t ∷ Step t ∷ []) (Row.Links k.mutex (acquired (fields_of v)))) (makes (Access.Exchange (address_in l t (cell_place l (cell_of k.mutex))) v (taken_word v t)) (seen_events t k.mutex k.how (word (cell_of k.mutex))) (seen_row t k (word (cell_of k.mutex)))) tt tt
  away_row (Row.Marks k v n) o there never = two (word (cell_of k.mutex) == v) (makes (Access.Exchange (address_in l t (cell_place l (cell_of k.mutex))) v (waiting_word v)) (marked_events x t c k k.how) (marked_row x t c k k.how v n)) (missed x t c (Access.Exchange (address_in l t (cell_place l (cell_of k.mutex))) v (waiting_word v)) k k.how (word (cell_of k.mutex))) tt (missed_away (Access.Exchange (address_in l t (cell_place l (cell_of k.mutex))) v (waiting_word v)) k k.how (word (cell_of k.mutex)) tt)
  away_row (Row.SlotTakes k sl) o there never = two (word (slot_of k.mutex) == sl) (makes (Access.Exchange (address_in l t (cell_place l (slot_of k.mutex))) sl (taken_word sl t)) (Step t ∷ Step t ∷ []) (Row.SlotLinks k (fields_of sl).died)) (if (fields_of (word (slot_of k.mutex))).owner == 0 then makes (Access.Exchange (address_in l t (cell_place l (slot_of k.mutex))) sl (taken_word sl t)) [] (Row.SlotTakes k (word (slot_of k.mutex))) else makes (Access.Exchange (address_in l t (cell_place l (slot_of k.mutex))) sl (taken_word sl t)) (Step t ∷ []) (Row.SlotLeft k)) tt (two ((fields_of (word (slot_of k.mutex))).owner == 0) (makes (Access.Exchange (address_in l t (cell_place l (slot_of k.mutex))) sl (taken_word sl t)) [] (Row.SlotTakes k (word (slot_of k.mutex)))) (makes (Access.Exchange (address_in l t (cell_place l (slot_of k.mutex))) sl (taken_word sl t)) (Step t ∷ []) (Row.SlotLeft k)) tt tt)
  away_row (Row.HeirTakes k v) o there never = two (word (cell_of k.mutex) == v) (makes (Access.Exchange (address_in l t (cell_place l (cell_of k.mutex))) v (taken_word v t)) (Step t ∷ Step t ∷ []) (Row.HeirHas k (acquired (fields_of v)))) (makes (Access.Exchange (address_in l t (cell_place l (cell_of k.mutex))) v (taken_word v t)) [] (watched_row x t c k (word (cell_of k.mutex)) true)) tt tt
  away_row (Row.LastMarks k v) o there never = two (word (cell_of k.mutex) == v) (makes (Access.Exchange (address_in l t (cell_place l (cell_of k.mutex))) v (waiting_word v)) (sets_and_expires t) (out_of x t c k)) (makes (Access.Exchange (address_in l t (cell_place l (cell_of k.mutex))) v (waiting_word v)) [] (Row.HeirPends k Again)) tt tt
  away_row (Row.TryLooks m) o there never = two (is_free (word (cell_of m))) (makes (Access.Load (address_in l t (cell_place l (cell_of m)))) [] (Row.TryPends m (word (cell_of m)))) (makes (Access.Load (address_in l t (cell_place l (cell_of m)))) (Begin t (OnMutex (TryLock (cell_of m))) ∷ Step t ∷ Step t ∷ Step t ∷ []) Row.Rests) tt tt
  away_row (Row.TryTakes m v) o there never = two (word (cell_of m) == v) (makes (Access.Exchange (address_in l t (cell_place l (cell_of m))) v (taken_word v t)) (Step t ∷ Step t ∷ []) (Row.Links m (acquired (fields_of v)))) (if is_free (word (cell_of m)) then makes (Access.Exchange (address_in l t (cell_place l (cell_of m))) v (taken_word v t)) [] (Row.TryTakes m (word (cell_of m))) else makes (Access.Exchange (address_in l t (cell_place l (cell_of m))) v (taken_word v t)) (Step t ∷ []) (Row.Clears m (if (fields_of (word (cell_of m))).unusable then ENOTRECOVERABLE else EBUSY))) tt (two (is_free (word (cell_of m))) (makes (Access.Exchange (address_in l t (cell_place l (cell_of m))) v (taken_word v t)) [] (Row.TryTakes m (word (cell_of m)))) (makes (Access.Exchange (address_in l t (cell_place l (cell_of m))) v (taken_word v t)) (Step t ∷ []) (Row.Clears m (if (fields_of (word (cell_of m))).unusable then ENOTRECOVERABLE else EBUSY))) tt tt)
  away_row (Row.GiveLooks m) o there never = two ((fields_of (word (cell_of m))).owner == t) (makes (Access.Load (address_in l t (cell_place l (cell_of m)))) [] (Row.GivePends m (OfUnlock (fields_of (word (cell_of m))).died))) (makes (Access.Load (address_in l t (cell_place l (cell_of m)))) (Begin t (OnMutex (Unlock (cell_of m))) ∷ Step t ∷ []) Row.Rests) tt tt
  away_row (Row.MendLooks m) o there never = two (((fields_of (word (cell_of m))).owner == t) && (fields_of (word (cell_of m))).died) (makes (Access.Load (address_in l t (cell_place l (cell_of m)))) [] (Row.Mends m)) (makes (Access.Load (address_in l t (cell_place l (cell_of m)))) (Begin t (OnMutex (Consistent (cell_of m))) ∷ Step t ∷ []) Row.Rests) tt tt
  away_row (Row.Anews m v) o there never = two (word (cell_of m) == v) (makes (Access.Exchange (address_in l t (cell_place l (cell_of m))) v (v - 4294967296 + 8589934592)) (Remake t (cell_of m) ∷ []) Row.Rests) (makes (Access.Exchange (address_in l t (cell_place l (cell_of m))) v (v - 4294967296 + 8589934592)) [] (if (fields_of (word (cell_of m))).unusable then Row.Anews m (word (cell_of m)) else Row.Rests)) tt tt
  away_row (Row.WaitLooks m k timed) o there never = two ((fields_of (word (cell_of m))).owner == t) (makes (Access.Load (address_in l t (cell_place l (cell_of m)))) [] (Row.WaitCounts m k timed (fields_of (word (cell_of m))).died)) (makes (Access.Load (address_in l t (cell_place l (cell_of m)))) (wait_begins x t c k timed) Row.Rests) tt tt
  away_row (Row.WaitCounts m k timed died) o there never = two died (makes (Access.Load (address_in l t (counter_place l k))) (wait_begins x t c k timed) Row.Rests) (makes (Access.Load (address_in l t (counter_place l k))) [] (Row.GivePends m (OfWait k (shown x (counter_place l k) % 4294967296) (shows_slept x t c (shown x (counter_place l k))) timed))) tt tt
  away_row (Row.CountLooks m k all) o there never = two ((fields_of (word (cell_of m))).owner == t) (makes (Access.Load (address_in l t (cell_place l (cell_of m)))) [] (Row.CountLoads m k all)) (makes (Access.Load (address_in l t (cell_place l (cell_of m)))) (refused_count x t c k all) Row.Rests) tt tt
  away_row r o there never = tt
