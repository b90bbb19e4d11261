-- Each row's access is its call's point or does nothing, and the reply goes from row to row.
use Rattle.std.proofs.Common.{◌≡◌, inl, inr, ℕ, ◌+◌, ◌%◌, ◌==◌, Bool, true, false, [], ◌∷◌, ◌++◌, refl, sym, ap, ◌∙◌, subst}
use Rattle.std.specs.Prelude.{if◌then◌else◌, not, ◌&&◌, ◌||◌, ◌-◌, nat_lt}
use Rattle.lockword.specs.Cells.{fields_of}
use Rattle.lockword.specs.declared.reply.Reply.{Reply}
use Rattle.lockword.specs.declared.reply.Reply.TheVariants.{OK, EBUSY, EDEADLK, EINVAL, EPERM, ETIMEDOUT, ENOTRECOVERABLE, XSTATE}
use Rattle.stepprograms.specs.declared.access.Access.{Access}
use Rattle.stepprograms.specs.Accesses.{is_nobody}
use Rattle.memorymap.specs.Layouts.{Layout', address_in, cell_place, counter_place}
use Rattle.mutex.specs.Rows.{acquired}
use Rattle.mutex.specs.declared.call.Call.TheVariants.{Consistent, TimedLock, TryLock, Unlock}
use Rattle.condvar.specs.declared.op.Op.TheVariants.{OnMutex}
use Rattle.posixmutex.specs.declared.point.Decision.{Decision}
use Rattle.posixmutex.specs.declared.point.Operation.TheVariants as op
use Rattle.protocol.specs.declared.event.Event.TheVariants.{Begin, Expire, Remake, Spare, Step}
use Rattle.protocol.specs.declared.event.LeftTo.TheVariants as left_to
use Rattle.protocol.specs.declared.thread.Stage.{Stage}
use Rattle.protocol.specs.Machine.{run}
use Rattle.slots.specs.Places.{cell_of, slot_of}
use Rattle.slots.specs.Rows.{Choice, Giving, How, Onward, Row, Taking, Then, about}
use Rattle.slots.specs.Rows.How.{Tried, Later, Waited}
use Rattle.slots.specs.Rows.Before.{Linked, Mended, Again}
use Rattle.slots.specs.Rows.Giving.{OfUnlock, OfWait}
use Rattle.slots.specs.Rows.Onward.{Has, Fails, Sleeps}
use Rattle.slots.specs.Rows.Then.{ToSleep, ToSlot}
use Rattle.slots.specs.Shown.{Slots, shown}
use Rattle.slots.specs.Words.{is_free, is_moving}
use Rattle.slots.specs.Seen.{begins_behind, heir_of, later, owned_row}
use Rattle.slots.specs.Table.{Made, counted, counted_row, freed_row, given_row, is_on_list, made, makes, marked_events, marked_row, missed, on_cell, out_of}
use Rattle.slots.specs.Words.{shows_heir, taken_word, waiting_word}
use Rattle.slots.specs.Seen.{retakes, seen_events, seen_row, seen_to_sleep, sets_and_expires, sleep_row, unusable_row}
use Rattle.slots.specs.Table.{finds_row, refused_count, released, shows_slept, to_slot, tries, unlinked_row, wait_begins, watched_row, woke_row}
use Rattle.slots.specs.Fits.{Fits}
use Rattle.slots.specs.Runs.{is_first, is_ours, lapse_row, may_be_due}
use Rattle.slots.specs.Replies.{CallsBeginUndecided, DecidesOnce, Deed, GoesOn, IsCalled, IsItsOwn, IsOfLock, MayDo, Progress, after_deed, counts_as, decided, deed, gave, late, lock_progress, locking, locks, looked, looked_first, looked_to_sleep, progress, refused_or, tried}
use Rattle.slots.specs.Replies.Deed.{Nothing, Decides, Refuses}

module _ (x : Slots) (t : ℕ) (c : Choice) where
  abbrev l : Layout'
  l = x.machine.layout

  abbrev word : ℕ → ℕ
  word k = shown x (cell_place l k)

  -- from row r, by this deed, to row q
  pub record One (r : Row) (e : Deed) (q : Row) : Type 0 where
    pub may : MayDo (progress r) e
    pub own : IsItsOwn t (about r) e
    pub goes : GoesOn r (after_deed (progress r) e) q

  -- nothing is done
  quiet : (r q : Row) → GoesOn r (progress r) q → One r Nothing q
  quiet r q goes = record { may = tt; own = tt; goes = goes }

  either : (r : Row) (e : Deed) (b : Bool) (p q : Row) → One r e p → One r e q → One r e (if b then p else q)
  either r e true p q first second = first
  either r e false p q first second = second

  -- a lock is decided
  may_lock_on : (wrong : Bool) (d : Decision) → IsOfLock d → MayDo (locking wrong) (Decides d)
  may_lock_on true d is = is
  may_lock_on false d is = is

  may_lock : (h : How) (wrong : Bool) (m : ℕ) (y : Reply) → MayDo (lock_progress h wrong) (locks t m y)
  may_lock Tried wrong m y = may_lock_on wrong (decided t m op.Lock y) (inl refl)
  may_lock Later wrong m y = may_lock_on wrong (decided t m op.Lock y) (inl refl)
  may_lock (Waited z) wrong m y = refl

  locked : (r q : Row) (h : How) (wrong : Bool) (y : Reply) → progress r ≡ lock_progress h wrong → GoesOn r (Progress.Decided y) q → One r (locks t (about r) y) q
  locked r q h wrong y is goes = record { may = subst (λ (p : Progress). MayDo p (locks t (about r) y)) (sym is) (may_lock h wrong (about r) y); own = (refl, refl); goes = goes }

  lost : (r : Row) (h : How) (wrong : Bool) (m w : ℕ) → about r ≡ m → progress r ≡ lock_progress h wrong → One r (locks t (about r) ENOTRECOVERABLE) (unusable_row m w)
  lost r h wrong m w same is = locked r (unusable_row m w) h wrong ENOTRECOVERABLE is (go (fields_of w).waiters)
    where
      go : (b : Bool) → GoesOn r (Progress.Decided ENOTRECOVERABLE) (if b then Row.WakesAll m ENOTRECOVERABLE else Row.Clears m ENOTRECOVERABLE)
      go true = (refl, sym same)
      go false = (refl, sym same)

  -- ---- a lock has seen the word w

  refuses : (r : Row) (k : Taking) (h : How) (w : ℕ) → k.how ≡ h → about r ≡ k.mutex → progress r ≡ lock_progress h k.wrong → One r (refused_or k h) (owned_row k h w)
  refuses r k Tried w how same is = go k.wrong refl
    where
      go : (b : Bool) → k.wrong ≡ b → One r (if b then Refuses EINVAL else Nothing) (if b then Row.Clears k.mutex EINVAL else Row.Chooses k w)
      go true wrong = record { may = subst (λ (p : Progress). MayDo p (Refuses EINVAL)) (sym (is ∙ ap locking wrong)) refl; own = tt; goes = (refl, sym same) }
      go false wrong = quiet r (Row.Chooses k w) (ap (λ (i : How). lock_progress i k.wrong) how ∙ sym is, sym same)
  refuses r k Later w how same is = quiet r (Row.Chooses k w) (ap (λ (i : How). lock_progress i k.wrong) how ∙ sym is, sym same)
  refuses r k (Waited z) w how same is = quiet r (Row.Chooses k w) (ap (λ (i : How). lock_progress i k.wrong) how ∙ sym is, sym same)

  seen_first : (r : Row) (k : Taking) (w : ℕ) → about r ≡ k.mutex → progress r ≡ lock_progress k.how k.wrong → One r (looked_first t k w) (seen_row t k w)
  seen_first r k w same is = go (fields_of w).unusable ((fields_of w).owner == 0) ((fields_of w).owner == t)
    where
      go : (a b d : Bool) → One r (if a then locks t k.mutex ENOTRECOVERABLE else if b then Nothing else if d then locks t k.mutex EDEADLK else refused_or k k.how)
          (if a then unusable_row k.mutex w else if b then Row.Takes k w else if d then Row.Clears k.mutex EDEADLK else owned_row k k.how w)
      go true b d = subst (λ (m : ℕ). One r (locks t m ENOTRECOVERABLE) (unusable_row k.mutex w)) same (lost r k.how k.wrong k.mutex w same is)
      go false true d = quiet r (Row.Takes k w) (sym is, sym same)
      go false false true = subst (λ (m : ℕ). One r (locks t m EDEADLK) (Row.Clears k.mutex EDEADLK)) same (locked r (Row.Clears k.mutex EDEADLK) k.how k.wrong EDEADLK is (refl, sym same))
      go false false false = refuses r k k.how w refl same is

  -- its deadline is known to be a time
  seen_again : (r : Row) (k : Taking) (w : ℕ) → about r ≡ k.mutex → progress r ≡ lock_progress k.how k.wrong → ((refused_or k k.how ≡ Nothing) × (owned_row k k.how w ≡ Row.Chooses k w)) → One r (looked t k.mutex w) (seen_row t k w)
  seen_again r k w same is (none, chooses) = subst (λ (e : Deed). One r (if (fields_of w).unusable then locks t k.mutex ENOTRECOVERABLE else if (fields_of w).owner == 0 then Nothing else if (fields_of w).owner == t then locks t k.mutex EDEADLK else e) (seen_row t k w)) none (seen_first r k w same is)

  missed_one : (a : Access) (k : Taking) (v : ℕ) (n : Then) (h : How) (w : ℕ) → k.how ≡ h → One (Row.Marks k v n) (looked t k.mutex w) (missed x t c a k h w).next
  missed_one a k v n Tried w how = seen_again (Row.Marks k v n) (later k) w refl (ap (λ (i : How). lock_progress i k.wrong) how) (refl, refl)
  missed_one a k v n Later w how = seen_again (Row.Marks k v n) k w refl refl (ap (refused_or k) how, ap (λ (h : How). owned_row k h w) how)
  missed_one a k v n (Waited z) w how = seen_again (Row.Marks k v n) k w refl refl (ap (refused_or k) how, ap (λ (h : How). owned_row k h w) how)

  sleeps : (r : Row) (k : Taking) (w : ℕ) → about r ≡ k.mutex → progress r ≡ lock_progress k.how k.wrong → One r Nothing (sleep_row k w)
  sleeps r k w same is = either r Nothing (fields_of w).waiters (Row.SleepsOn k w) (Row.Marks k w ToSleep) (quiet r (Row.SleepsOn k w) (sym is, sym same)) (quiet r (Row.Marks k w ToSleep) (sym is, sym same))

  to_sleep : (r : Row) (k : Taking) (w : ℕ) → about r ≡ k.mutex → progress r ≡ lock_progress k.how k.wrong → One r (looked_to_sleep t k.mutex w) (seen_to_sleep k w)
  to_sleep r k w same is = go (fields_of w).unusable ((fields_of w).owner == 0)
    where
      go : (a b : Bool) → One r (if a then locks t k.mutex ENOTRECOVERABLE else Nothing) (if a then unusable_row k.mutex w else if b then Row.Takes k w else sleep_row k w)
      go true b = subst (λ (m : ℕ). One r (locks t m ENOTRECOVERABLE) (unusable_row k.mutex w)) same (lost r k.how k.wrong k.mutex w same is)
      go false true = quiet r (Row.Takes k w) (sym is, sym same)
      go false false = sleeps r k w same is

  to_the_slot : (k : Taking) (h : How) (v sl : ℕ) → k.how ≡ h → lock_progress h k.wrong ≡ locking k.wrong → One (Row.Chooses k v) Nothing (to_slot x t c k h v sl)
  to_the_slot k Tried v sl how is = quiet (Row.Chooses k v) (Row.SlotPends k sl) (sym (ap (λ (i : How). lock_progress i k.wrong) how), refl)
  to_the_slot k Later v sl how is = either (Row.Chooses k v) Nothing (fields_of v).waiters (Row.SlotPends k sl) (Row.Marks k v (ToSlot sl)) (quiet (Row.Chooses k v) (Row.SlotPends k sl) (sym (ap (λ (i : How). lock_progress i k.wrong) how), refl)) (quiet (Row.Chooses k v) (Row.Marks k v (ToSlot sl)) (refl, refl))
  to_the_slot k (Waited z) v sl how is = absurd (never k.wrong is)
    where
      never : (wrong : Bool) → Progress.Unlocked ≡ locking wrong → ⊥
      never true e = cc e
      never false e = cc e

  chooses : (k : Taking) (h : How) (v sl : ℕ) → k.how ≡ h → One (Row.Chooses k v) Nothing (
      if tries x t c h && is_moving sl && c.again then Row.SeesAgain k v
      else if tries x t c h && ((fields_of sl).owner == 0) && c.yes then to_slot x t c k h v sl
      else sleep_row k v
      )
  chooses k Tried v sl how = either (Row.Chooses k v) Nothing (is_moving sl && c.again) (Row.SeesAgain k v) (if ((fields_of sl).owner == 0) && c.yes then to_slot x t c k Tried v sl else sleep_row k v) (quiet (Row.Chooses k v) (Row.SeesAgain k v) (refl, refl))
      (either (Row.Chooses k v) Nothing (((fields_of sl).owner == 0) && c.yes) (to_slot x t c k Tried v sl) (sleep_row k v) (to_the_slot k Tried v sl how refl) (sleeps (Row.Chooses k v) k v refl refl))
  chooses k Later v sl how = either (Row.Chooses k v) Nothing (is_moving sl && c.again) (Row.SeesAgain k v) (if ((fields_of sl).owner == 0) && c.yes then to_slot x t c k Later v sl else sleep_row k v) (quiet (Row.Chooses k v) (Row.SeesAgain k v) (refl, refl))
      (either (Row.Chooses k v) Nothing (((fields_of sl).owner == 0) && c.yes) (to_slot x t c k Later v sl) (sleep_row k v) (to_the_slot k Later v sl how refl) (sleeps (Row.Chooses k v) k v refl refl))
  chooses k (Waited z) v sl how = sleeps (Row.Chooses k v) k v refl refl

  marked_one : (k : Taking) (v : ℕ) (n : Then) (h : How) → k.how ≡ h → ((sl : ℕ) → n ≡ ToSlot sl → h ≡ Later) → One (Row.Marks k v n) Nothing (marked_row x t c k h v n)
  marked_one k v (ToSlot sl) h how later_is = quiet (Row.Marks k v (ToSlot sl)) (Row.SlotPends k sl) (sym (ap (λ (i : How). lock_progress i k.wrong) (how ∙ later_is sl refl)), refl)
  marked_one k v ToSleep Tried how later_is = quiet (Row.Marks k v ToSleep) (Row.SleepsOn (later k) (waiting_word v)) (sym (ap (λ (i : How). lock_progress i k.wrong) how), refl)
  marked_one k v ToSleep Later how later_is = quiet (Row.Marks k v ToSleep) (Row.SleepsOn (later k) (waiting_word v)) (sym (ap (λ (i : How). lock_progress i k.wrong) how), refl)
  marked_one k v ToSleep (Waited z) how later_is = quiet (Row.Marks k v ToSleep) (Row.SleepsOn k (waiting_word v)) (refl, refl)

  asleep_one : (k : Taking) (v : ℕ) (h : How) (w : ℕ) → k.how ≡ h → One (Row.SleepsOn k v) Nothing (on_cell x t c k h v w).next
  asleep_one k v (Waited z) w how = quiet (Row.SleepsOn k v) (Row.Asleep k) (refl, refl)
  asleep_one k v Tried w how = go (w % 4294967296 == v % 4294967296)
    where
      go : (b : Bool) → One (Row.SleepsOn k v) Nothing (if b then makes (Access.Wait (address_in l t (cell_place l (cell_of k.mutex))) (v % 4294967296)) (begins_behind t (TimedLock (cell_of k.mutex)) ++ Step t ∷ Step t ∷ []) (Row.Asleep (later k)) else makes (Access.Wait (address_in l t (cell_place l (cell_of k.mutex))) (v % 4294967296)) (begins_behind t (TimedLock (cell_of k.mutex))) (Row.Asleep (later k))).next
      go true = quiet (Row.SleepsOn k v) (Row.Asleep (later k)) (sym (ap (λ (i : How). lock_progress i k.wrong) how), refl)
      go false = quiet (Row.SleepsOn k v) (Row.Asleep (later k)) (sym (ap (λ (i : How). lock_progress i k.wrong) how), refl)
  asleep_one k v Later w how = go (w % 4294967296 == v % 4294967296)
    where
      go : (b : Bool) → One (Row.SleepsOn k v) Nothing (if b then makes (Access.Wait (address_in l t (cell_place l (cell_of k.mutex))) (v % 4294967296)) (begins_behind t (TimedLock (cell_of k.mutex)) ++ Step t ∷ Step t ∷ []) (Row.Asleep (later k)) else makes (Access.Wait (address_in l t (cell_place l (cell_of k.mutex))) (v % 4294967296)) (begins_behind t (TimedLock (cell_of k.mutex))) (Row.Asleep (later k))).next
      go true = quiet (Row.SleepsOn k v) (Row.Asleep (later k)) (sym (ap (λ (i : How). lock_progress i k.wrong) how), refl)
      go false = quiet (Row.SleepsOn k v) (Row.Asleep (later k)) (sym (ap (λ (i : How). lock_progress i k.wrong) how), refl)

  -- ---- the slot

  watched : (r : Row) (k : Taking) (v : ℕ) (over : Bool) → about r ≡ k.mutex → progress r ≡ locking k.wrong → One r Nothing (watched_row x t c k v over)
  watched r k v over same is = either r Nothing (over && is_free v) (Row.HeirTakes k v) (if over && not (fields_of v).unusable && not (k.timed && c.yes) then Row.HeirPends k Again else Row.GivesUp k) (quiet r (Row.HeirTakes k v) (sym is, sym same))
      (either r Nothing (over && not (fields_of v).unusable && not (k.timed && c.yes)) (Row.HeirPends k Again) (Row.GivesUp k) (quiet r (Row.HeirPends k Again) (sym is, sym same)) (quiet r (Row.GivesUp k) (sym is, sym same)))

  out : (r : Row) (k : Taking) → about r ≡ k.mutex → progress r ≡ locking k.wrong → One r (late x t c k) (out_of x t c k)
  out r k same is = go (k.timed && c.yes)
    where
      go : (b : Bool) → One r (if b then Decides (decided t k.mutex op.TimedLock ETIMEDOUT) else Nothing) (if b then Row.Frees k (Fails ETIMEDOUT) else Row.Frees k Sleeps)
      go true = record { may = subst (λ (p : Progress). MayDo p (Decides (decided t k.mutex op.TimedLock ETIMEDOUT))) (sym is) (may_lock_on k.wrong (decided t k.mutex op.TimedLock ETIMEDOUT) (inr (refl, refl))); own = (refl, sym same); goes = (refl, sym same) }
      go false = quiet r (Row.Frees k Sleeps) (sym is, sym same)

  last_one : (k : Taking) (w : ℕ) (look : Access) (a b d : Bool) → One (Row.LastLooks k)
      (if a then locks t k.mutex ENOTRECOVERABLE else if b then Nothing else if d then late x t c k else Nothing) (
      if a then makes look (Step t ∷ []) (if d then Row.HeirWakes k else Row.Frees k (Fails ENOTRECOVERABLE))
      else if b then makes look [] (Row.HeirPends k Again)
      else if d then makes look (Step t ∷ (Step t ∷ (Expire t ∷ []))) (out_of x t c k)
      else makes look [] (Row.LastMarks k w)
      ).next
  last_one k w look true b true = record { may = may_lock_on k.wrong (decided t k.mutex op.Lock ENOTRECOVERABLE) (inl refl); own = (refl, refl); goes = (refl, refl) }
  last_one k w look true b false = record { may = may_lock_on k.wrong (decided t k.mutex op.Lock ENOTRECOVERABLE) (inl refl); own = (refl, refl); goes = (refl, refl) }
  last_one k w look false true d = quiet (Row.LastLooks k) (Row.HeirPends k Again) (refl, refl)
  last_one k w look false false true = out (Row.LastLooks k) k refl refl
  last_one k w look false false false = quiet (Row.LastLooks k) (Row.LastMarks k w) (refl, refl)

  freed : (k : Taking) (f : Onward) → One (Row.FreeGives k f) Nothing (freed_row x t c k f)
  freed k (Has y) = quiet (Row.FreeGives k (Has y)) (Row.Clears k.mutex y) (refl, refl)
  freed k (Fails y) = quiet (Row.FreeGives k (Fails y)) (Row.Clears k.mutex y) (refl, refl)
  freed k Sleeps = quiet (Row.FreeGives k Sleeps) (Row.SlotLeft k) (refl, refl)

  along : (r here behind : Row) → One r Nothing here → One r Nothing behind → One r Nothing (if is_on_list ((run x.machine (Step t ∷ [])).threads t).stage then here else behind)
  along r here behind now then_on = either r Nothing (is_on_list ((run x.machine (Step t ∷ [])).threads t).stage) here behind now then_on

  -- ---- unlock, wait

  finds_one : (r : Row) (m : ℕ) (y : Giving) → about r ≡ m → progress (Row.Gives m y) ≡ progress r → One r Nothing (finds_row x t c m y)
  finds_one r m y same is = either r Nothing c.yes (Row.GiveFinds m y) (Row.Gives m y) (quiet r (Row.GiveFinds m y) (is, sym same)) (quiet r (Row.Gives m y) (is, sym same))

  unlinked : (m : ℕ) (y : Giving) → One (Row.GiveUnlinks m y) Nothing (unlinked_row x t c m y)
  unlinked m (OfUnlock d) = finds_one (Row.GiveUnlinks m (OfUnlock d)) m (OfUnlock d) refl refl
  unlinked m (OfWait k n true timed) = finds_one (Row.GiveUnlinks m (OfWait k n true timed)) m (OfWait k n true timed) refl refl
  unlinked m (OfWait k n false timed) = quiet (Row.GiveUnlinks m (OfWait k n false timed)) (Row.WaitSets m k n timed) (refl, refl)

  given : (r : Row) (m : ℕ) (y : Giving) → about r ≡ m → progress (Row.HandsOn m y 0) ≡ progress r → One r Nothing (given_row x t c m y)
  given r m (OfUnlock d) same is = quiet r (Row.Clears m OK) (is, sym same)
  given r m (OfWait k n slept timed) same is = quiet r (Row.WaitSleeps m k n timed) (is, sym same)

  released_one : (m : ℕ) (y : Giving) (w : ℕ) → One (Row.Gives m y) (gave t m y) (released x t c m y w)
  released_one m (OfUnlock true) w = either (Row.Gives m (OfUnlock true)) (gave t m (OfUnlock true)) (fields_of w).waiters (Row.WakesAll m OK) (Row.Clears m OK) (record { may = refl; own = (refl, refl); goes = (refl, refl) }) (record { may = refl; own = (refl, refl); goes = (refl, refl) })
  released_one m (OfUnlock false) w = either (Row.Gives m (OfUnlock false)) (gave t m (OfUnlock false)) (fields_of w).waiters (if c.yes then Row.WakesOne m (OfUnlock false) (w - t) else Row.HandsOn m (OfUnlock false) (w - t)) (Row.Clears m OK)
      (either (Row.Gives m (OfUnlock false)) (gave t m (OfUnlock false)) c.yes (Row.WakesOne m (OfUnlock false) (w - t)) (Row.HandsOn m (OfUnlock false) (w - t)) (record { may = refl; own = (refl, refl); goes = (refl, refl) }) (record { may = refl; own = (refl, refl); goes = (refl, refl) })) (record { may = refl; own = (refl, refl); goes = (refl, refl) })
  released_one m (OfWait k n slept timed) w = either (Row.Gives m (OfWait k n slept timed)) (gave t m (OfWait k n slept timed)) (fields_of w).waiters (if c.yes then Row.WakesOne m (OfWait k n slept timed) (w - t) else Row.HandsOn m (OfWait k n slept timed) (w - t)) (Row.WaitSleeps m k n timed)
      (either (Row.Gives m (OfWait k n slept timed)) (gave t m (OfWait k n slept timed)) c.yes (Row.WakesOne m (OfWait k n slept timed) (w - t)) (Row.HandsOn m (OfWait k n slept timed) (w - t)) (record { may = (refl, refl); own = (refl, refl); goes = (refl, refl) }) (record { may = (refl, refl); own = (refl, refl); goes = (refl, refl) })) (record { may = (refl, refl); own = (refl, refl); goes = (refl, refl) })

  woke_one : (m : ℕ) (y : Giving) (n : ℕ) → One (Row.WakesOne m y n) Nothing (woke_row x t c m y n)
  woke_one m (OfUnlock d) n = either (Row.WakesOne m (OfUnlock d) n) Nothing (is_nobody (x.machine.queues (cell_place l (cell_of m)))) (Row.Trims m n) (Row.Clears m OK) (quiet (Row.WakesOne m (OfUnlock d) n) (Row.Trims m n) (refl, refl)) (quiet (Row.WakesOne m (OfUnlock d) n) (Row.Clears m OK) (refl, refl))
  woke_one m (OfWait k i slept timed) n = quiet (Row.WakesOne m (OfWait k i slept timed) n) (Row.WaitSleeps m k i timed) (refl, refl)

  -- ---- each row

  two : (r : Row) (b : Bool) (e f : Deed) (n o : Made) → One r e n.next → One r f o.next → One r (if b then e else f) (if b then n else o).next
  two r true e f n o first second = first
  two r false e f n o first second = second

  abbrev at : ℕ → ℕ
  at k = address_in l t (cell_place l k)

  abbrev cell : ℕ → ℕ
  cell m = word (cell_of m)

  -- with this deed, which fits
  does : (r : Row) (e : Deed) (q : Row) → MayDo (progress r) e → IsItsOwn t (about r) e → GoesOn r (after_deed (progress r) e) q → One r e q
  does r e q may own goes = record { may = may; own = own; goes = goes }

  later_if : (k : Taking) (v : ℕ) (n : Then) (g : Stage) → Fits l t (Row.Marks k v n) g → (sl : ℕ) → n ≡ ToSlot sl → k.how ≡ Later
  later_if k v (ToSlot sl) g o i is = o.1.1
  later_if k v ToSleep g o i is = absurd cc

  counted_one : (m k n : ℕ) (all slept : Bool) (v : ℕ) → One (Row.Counts m k all n) (Decides (decided t m (counts_as all) OK)) (counted_row x t c m k all slept v)
  counted_one m k n true false v = does (Row.Counts m k true n) _ Row.Rests refl (refl, refl) tt
  counted_one m k n false false v = does (Row.Counts m k false n) _ Row.Rests refl (refl, refl) tt
  counted_one m k n false true v = does (Row.Counts m k false n) _ (Row.CountWakes m k v) refl (refl, refl) (refl, refl)
  counted_one m k n true true v = does (Row.Counts m k true n) _ (Row.AllMarks m k v) refl (refl, refl) (refl, refl)

  may_count : (all : Bool) (m : ℕ) (y : Reply) → MayDo (Progress.Called (counts_as all)) (Decides (decided t m (counts_as all) y))
  may_count true m y = refl
  may_count false m y = refl

  pub one_row : (r : Row) (g : Stage) → Fits l t r g → One r (deed x t c r) (made x t c r).next
  one_row Row.Rests g o = quiet Row.Rests Row.Rests refl
  one_row (Row.Looks k) g o = two (Row.Looks k) ((fields_of (cell k.mutex)).owner == t) (locks t k.mutex EDEADLK) Nothing (makes (Access.Load (at (cell_of k.mutex))) (Begin t (OnMutex (TimedLock (cell_of k.mutex))) ∷ Step t ∷ Step t ∷ Step t ∷ []) Row.Rests) (makes (Access.Load (at (cell_of k.mutex))) [] (Row.Pends k (cell k.mutex)))
      (locked (Row.Looks k) Row.Rests k.how k.wrong EDEADLK refl tt) (quiet (Row.Looks k) (Row.Pends k (cell k.mutex)) (refl, refl))
  one_row (Row.Pends k v) g o = either (Row.Pends k v) Nothing (is_free v) (Row.Takes k v) (Row.Sees k) (quiet (Row.Pends k v) (Row.Takes k v) (refl, refl)) (quiet (Row.Pends k v) (Row.Sees k) (refl, refl))
  one_row (Row.Sees k) g o = seen_first (Row.Sees k) k (cell k.mutex) refl refl
  one_row (Row.Takes k v) g o = two (Row.Takes k v) (cell k.mutex == v) (locks t k.mutex (acquired (fields_of v))) (looked_first t k (cell k.mutex)) (makes (Access.Exchange (at (cell_of k.mutex)) v (taken_word v t)) (Step t ∷ Step t ∷ []) (Row.Links k.mutex (acquired (fields_of v)))) (makes (Access.Exchange (at (cell_of k.mutex)) v (taken_word v t)) (seen_events t k.mutex k.how (cell k.mutex)) (seen_row t k (cell k.mutex)))
      (locked (Row.Takes k v) (Row.Links k.mutex (acquired (fields_of v))) k.how k.wrong (acquired (fields_of v)) refl (refl, refl)) (seen_first (Row.Takes k v) k (cell k.mutex) refl refl)
  one_row (Row.Links m y) g o = along (Row.Links m y) (Row.Links m y) (Row.Clears m y) (quiet (Row.Links m y) (Row.Links m y) (refl, refl)) (quiet (Row.Links m y) (Row.Clears m y) (refl, refl))
  one_row (Row.Clears m y) g o = quiet (Row.Clears m y) Row.Rests tt
  one_row (Row.Chooses k v) g o = chooses k k.how v (word (slot_of k.mutex)) refl
  one_row (Row.SeesAgain k v) g o = seen_first (Row.SeesAgain k v) k (cell k.mutex) refl refl
  one_row (Row.Marks k v n) g o = two (Row.Marks k v n) (cell k.mutex == v) Nothing (looked t k.mutex (cell k.mutex)) (makes (Access.Exchange (at (cell_of k.mutex)) v (waiting_word v)) (marked_events x t c k k.how) (marked_row x t c k k.how v n)) (missed x t c (Access.Exchange (at (cell_of k.mutex)) v (waiting_word v)) k k.how (cell k.mutex))
      (marked_one k v n k.how refl (later_if k v n g o)) (missed_one (Access.Exchange (at (cell_of k.mutex)) v (waiting_word v)) k v n k.how (cell k.mutex) refl)
  one_row (Row.SleepsOn k v) g o = asleep_one k v k.how (cell k.mutex) refl
  one_row (Row.Asleep k) g o = quiet (Row.Asleep k) (Row.Sees k) (refl, refl)
  one_row (Row.Late k) g o = quiet (Row.Late k) (Row.LateSees k) (refl, refl)
  one_row (Row.LateSees k) g o = does (Row.LateSees k) _ (Row.Clears k.mutex ETIMEDOUT) (may_lock_on k.wrong (decided t k.mutex op.TimedLock ETIMEDOUT) (inr (refl, refl))) (refl, refl) (refl, refl)
  one_row (Row.WakesAll m y) g o = quiet (Row.WakesAll m y) (Row.Clears m y) (refl, refl)
  one_row (Row.SlotPends k sl) g o = quiet (Row.SlotPends k sl) (Row.SlotTakes k sl) (refl, refl)
  one_row (Row.SlotTakes k sl) g o = slot_takes (word (slot_of k.mutex) == sl) ((fields_of (word (slot_of k.mutex))).owner == 0)
    where
      slot_takes : (a b : Bool) → One (Row.SlotTakes k sl) Nothing (if a then makes (Access.Exchange (at (slot_of k.mutex)) sl (taken_word sl t)) (Step t ∷ Step t ∷ []) (Row.SlotLinks k (fields_of sl).died) else if b then makes (Access.Exchange (at (slot_of k.mutex)) sl (taken_word sl t)) [] (Row.SlotTakes k (word (slot_of k.mutex))) else makes (Access.Exchange (at (slot_of k.mutex)) sl (taken_word sl t)) (Step t ∷ []) (Row.SlotLeft k)).next
      slot_takes true b = quiet (Row.SlotTakes k sl) (Row.SlotLinks k (fields_of sl).died) (refl, refl)
      slot_takes false true = quiet (Row.SlotTakes k sl) (Row.SlotTakes k (word (slot_of k.mutex))) (refl, refl)
      slot_takes false false = quiet (Row.SlotTakes k sl) (Row.SlotLeft k) (refl, refl)
  one_row (Row.SlotLeft k) g o = quiet (Row.SlotLeft k) (Row.SeesToSleep (later k)) (refl, refl)
  one_row (Row.SeesToSleep k) g o = to_sleep (Row.SeesToSleep k) k (cell k.mutex) refl refl
  one_row (Row.SlotLinks k d) g o = along (Row.SlotLinks k d) (Row.SlotLinks k d) (if d then Row.SlotClears k else Row.HeirPends k Linked) (quiet (Row.SlotLinks k d) (Row.SlotLinks k d) (refl, refl)) (either (Row.SlotLinks k d) Nothing d (Row.SlotClears k) (Row.HeirPends k Linked) (quiet (Row.SlotLinks k d) (Row.SlotClears k) (refl, refl)) (quiet (Row.SlotLinks k d) (Row.HeirPends k Linked) (refl, refl)))
  one_row (Row.SlotClears k) g o = quiet (Row.SlotClears k) (Row.SlotQuiets k) (refl, refl)
  one_row (Row.SlotQuiets k) g o = quiet (Row.SlotQuiets k) (Row.SlotMends k) (refl, refl)
  one_row (Row.SlotMends k) g o = quiet (Row.SlotMends k) (Row.HeirPends k Mended) (refl, refl)
  one_row (Row.HeirPends k b) g o = quiet (Row.HeirPends k b) (Row.HeirSets k) (refl, refl)
  one_row (Row.HeirSets k) g o = quiet (Row.HeirSets k) (Row.HeirLooks k) (refl, refl)
  one_row (Row.HeirLooks k) g o = either (Row.HeirLooks k) Nothing ((fields_of (cell k.mutex)).unusable || (is_free (cell k.mutex) && c.yes)) (Row.HeirPendsOn k (cell k.mutex) true) (if c.again then Row.HeirPends k Again else Row.HeirPendsOn k (cell k.mutex) false) (quiet (Row.HeirLooks k) (Row.HeirPendsOn k (cell k.mutex) true) (refl, refl))
      (either (Row.HeirLooks k) Nothing c.again (Row.HeirPends k Again) (Row.HeirPendsOn k (cell k.mutex) false) (quiet (Row.HeirLooks k) (Row.HeirPends k Again) (refl, refl)) (quiet (Row.HeirLooks k) (Row.HeirPendsOn k (cell k.mutex) false) (refl, refl)))
  one_row (Row.HeirPendsOn k v over) g o = watched (Row.HeirPendsOn k v over) k v over refl refl
  one_row (Row.HeirTakes k v) g o = two (Row.HeirTakes k v) (cell k.mutex == v) (locks t k.mutex (acquired (fields_of v))) Nothing (makes (Access.Exchange (at (cell_of k.mutex)) v (taken_word v t)) (Step t ∷ Step t ∷ []) (Row.HeirHas k (acquired (fields_of v)))) (makes (Access.Exchange (at (cell_of k.mutex)) v (taken_word v t)) [] (watched_row x t c k (cell k.mutex) true))
      (does (Row.HeirTakes k v) _ (Row.HeirHas k (acquired (fields_of v))) (may_lock_on k.wrong (decided t k.mutex op.Lock (acquired (fields_of v))) (inl refl)) (refl, refl) (refl, refl)) (watched (Row.HeirTakes k v) k (cell k.mutex) true refl refl)
  one_row (Row.HeirHas k y) g o = quiet (Row.HeirHas k y) (Row.HeirLinks k y) (refl, refl)
  one_row (Row.HeirLinks k y) g o = along (Row.HeirLinks k y) (Row.HeirLinks k y) (Row.Frees k (Has y)) (quiet (Row.HeirLinks k y) (Row.HeirLinks k y) (refl, refl)) (quiet (Row.HeirLinks k y) (Row.Frees k (Has y)) (refl, refl))
  one_row (Row.GivesUp k) g o = quiet (Row.GivesUp k) (Row.LastLooks k) (refl, refl)
  one_row (Row.LastLooks k) g o = last_one k (cell k.mutex) (Access.Load (at (cell_of k.mutex))) (fields_of (cell k.mutex)).unusable ((fields_of (cell k.mutex)).owner == 0) (fields_of (cell k.mutex)).waiters
  one_row (Row.LastMarks k v) g o = two (Row.LastMarks k v) (cell k.mutex == v) (late x t c k) Nothing (makes (Access.Exchange (at (cell_of k.mutex)) v (waiting_word v)) (sets_and_expires t) (out_of x t c k)) (makes (Access.Exchange (at (cell_of k.mutex)) v (waiting_word v)) [] (Row.HeirPends k Again)) (out (Row.LastMarks k v) k refl refl) (quiet (Row.LastMarks k v) (Row.HeirPends k Again) (refl, refl))
  one_row (Row.HeirWakes k) g o = quiet (Row.HeirWakes k) (Row.Frees k (Fails ENOTRECOVERABLE)) (refl, refl)
  one_row (Row.Frees k f) g o = quiet (Row.Frees k f) (Row.FreeUnlinks k f) (refl, refl)
  one_row (Row.FreeUnlinks k f) g o = along (Row.FreeUnlinks k f) (Row.FreeUnlinks k f) (Row.FreeGives k f) (quiet (Row.FreeUnlinks k f) (Row.FreeUnlinks k f) (refl, refl)) (quiet (Row.FreeUnlinks k f) (Row.FreeGives k f) (refl, refl))
  one_row (Row.FreeGives k f) g o = freed k f
  one_row (Row.TryLooks m) g o = two (Row.TryLooks m) (is_free (cell m)) Nothing (tried t m (cell m)) (makes (Access.Load (at (cell_of m))) [] (Row.TryPends m (cell m))) (makes (Access.Load (at (cell_of m))) (Begin t (OnMutex (TryLock (cell_of m))) ∷ Step t ∷ Step t ∷ Step t ∷ []) Row.Rests)
      (quiet (Row.TryLooks m) (Row.TryPends m (cell m)) (refl, refl)) (does (Row.TryLooks m) (tried t m (cell m)) Row.Rests refl (refl, refl) tt)
  one_row (Row.TryPends m v) g o = quiet (Row.TryPends m v) (Row.TryTakes m v) (refl, refl)
  one_row (Row.TryTakes m v) g o = try_takes (cell m == v) (is_free (cell m))
    where
      try_takes : (a b : Bool) → One (Row.TryTakes m v) (if a then Decides (decided t m op.TryLock (acquired (fields_of v))) else if b then Nothing else tried t m (cell m)) (if a then makes (Access.Exchange (at (cell_of m)) v (taken_word v t)) (Step t ∷ Step t ∷ []) (Row.Links m (acquired (fields_of v))) else if b then makes (Access.Exchange (at (cell_of m)) v (taken_word v t)) [] (Row.TryTakes m (cell m)) else makes (Access.Exchange (at (cell_of m)) v (taken_word v t)) (Step t ∷ []) (Row.Clears m (if (fields_of (cell m)).unusable then ENOTRECOVERABLE else EBUSY))).next
      try_takes true b = does (Row.TryTakes m v) (Decides (decided t m op.TryLock (acquired (fields_of v)))) (Row.Links m (acquired (fields_of v))) refl (refl, refl) (refl, refl)
      try_takes false true = quiet (Row.TryTakes m v) (Row.TryTakes m (cell m)) (refl, refl)
      try_takes false false = does (Row.TryTakes m v) (tried t m (cell m)) (Row.Clears m (if (fields_of (cell m)).unusable then ENOTRECOVERABLE else EBUSY)) refl (refl, refl) (refl, refl)
  one_row (Row.GiveLooks m) g o = two (Row.GiveLooks m) ((fields_of (cell m)).owner == t) Nothing (Decides (decided t m op.Unlock EPERM)) (makes (Access.Load (at (cell_of m))) [] (Row.GivePends m (OfUnlock (fields_of (cell m)).died))) (makes (Access.Load (at (cell_of m))) (Begin t (OnMutex (Unlock (cell_of m))) ∷ Step t ∷ []) Row.Rests)
      (quiet (Row.GiveLooks m) (Row.GivePends m (OfUnlock (fields_of (cell m)).died)) (refl, refl)) (does (Row.GiveLooks m) (Decides (decided t m op.Unlock EPERM)) Row.Rests refl (refl, refl) tt)
  one_row (Row.GivePends m y) g o = quiet (Row.GivePends m y) (Row.GiveUnlinks m y) (refl, refl)
  one_row (Row.GiveUnlinks m y) g o = along (Row.GiveUnlinks m y) (Row.GiveUnlinks m y) (unlinked_row x t c m y) (quiet (Row.GiveUnlinks m y) (Row.GiveUnlinks m y) (refl, refl)) (unlinked m y)
  one_row (Row.GiveFinds m y) g o = either (Row.GiveFinds m y) Nothing c.again (Row.GiveFinds m y) (Row.Gives m y) (quiet (Row.GiveFinds m y) (Row.GiveFinds m y) (refl, refl)) (quiet (Row.GiveFinds m y) (Row.Gives m y) (refl, refl))
  one_row (Row.Gives m y) g o = released_one m y (cell m)
  one_row (Row.HandsOn m y n) g o = hands (shows_heir (word (slot_of m)) && c.yes)
    where
      hands : (b : Bool) → One (Row.HandsOn m y n) Nothing (if b then makes (Access.Load (at (slot_of m))) (Spare t (heir_of x.machine t (cell_of m)) ∷ []) (given_row x t c m y) else makes (Access.Load (at (slot_of m))) [] (Row.LooksBack m y n)).next
      hands true = given (Row.HandsOn m y n) m y refl refl
      hands false = quiet (Row.HandsOn m y n) (Row.LooksBack m y n) (refl, refl)
  one_row (Row.LooksBack m y n) g o = looks ((fields_of (cell m)).owner == 0)
    where
      looks : (b : Bool) → One (Row.LooksBack m y n) Nothing (if b then makes (Access.Load (at (cell_of m))) [] (Row.WakesOne m y n) else makes (Access.Load (at (cell_of m))) (Spare t left_to.Owner ∷ []) (given_row x t c m y)).next
      looks true = quiet (Row.LooksBack m y n) (Row.WakesOne m y n) (refl, refl)
      looks false = given (Row.LooksBack m y n) m y refl refl
  one_row (Row.WakesOne m y n) g o = woke_one m y n
  one_row (Row.Trims m n) g o = quiet (Row.Trims m n) (Row.Clears m OK) (refl, refl)
  one_row (Row.MendLooks m) g o = two (Row.MendLooks m) (((fields_of (cell m)).owner == t) && (fields_of (cell m)).died) Nothing (Decides (decided t m op.Consistent (if (fields_of (cell m)).owner == t then EINVAL else EPERM))) (makes (Access.Load (at (cell_of m))) [] (Row.Mends m)) (makes (Access.Load (at (cell_of m))) (Begin t (OnMutex (Consistent (cell_of m))) ∷ Step t ∷ []) Row.Rests)
      (quiet (Row.MendLooks m) (Row.Mends m) (refl, refl)) (does (Row.MendLooks m) (Decides (decided t m op.Consistent (if (fields_of (cell m)).owner == t then EINVAL else EPERM))) Row.Rests refl (refl, refl) tt)
  one_row (Row.Mends m) g o = does (Row.Mends m) (Decides (decided t m op.Consistent OK)) Row.Rests refl (refl, refl) tt
  one_row (Row.AnewLooks m) g o = either (Row.AnewLooks m) Nothing (fields_of (cell m)).unusable (Row.Anews m (cell m)) Row.Rests (quiet (Row.AnewLooks m) (Row.Anews m (cell m)) (refl, refl)) (quiet (Row.AnewLooks m) Row.Rests tt)
  one_row (Row.Anews m v) g o = two (Row.Anews m v) (cell m == v) (Decides (decided t m op.Reinit OK)) Nothing (makes (Access.Exchange (at (cell_of m)) v (v - 4294967296 + 8589934592)) (Remake t (cell_of m) ∷ []) Row.Rests) (makes (Access.Exchange (at (cell_of m)) v (v - 4294967296 + 8589934592)) [] (if (fields_of (cell m)).unusable then Row.Anews m (cell m) else Row.Rests))
      (does (Row.Anews m v) (Decides (decided t m op.Reinit OK)) Row.Rests refl (refl, refl) tt) (either (Row.Anews m v) Nothing (fields_of (cell m)).unusable (Row.Anews m (cell m)) Row.Rests (quiet (Row.Anews m v) (Row.Anews m (cell m)) (refl, refl)) (quiet (Row.Anews m v) Row.Rests tt))
  one_row (Row.WaitLooks m k timed) g o = two (Row.WaitLooks m k timed) ((fields_of (cell m)).owner == t) Nothing (Decides (decided t m op.Wait EPERM)) (makes (Access.Load (at (cell_of m))) [] (Row.WaitCounts m k timed (fields_of (cell m)).died)) (makes (Access.Load (at (cell_of m))) (wait_begins x t c k timed) Row.Rests)
      (quiet (Row.WaitLooks m k timed) (Row.WaitCounts m k timed (fields_of (cell m)).died) (refl, refl)) (does (Row.WaitLooks m k timed) (Decides (decided t m op.Wait EPERM)) Row.Rests refl (refl, refl) tt)
  one_row (Row.WaitCounts m k timed died) g o = two (Row.WaitCounts m k timed died) died (Decides (decided t m op.Wait XSTATE)) Nothing (makes (Access.Load (address_in l t (counter_place l k))) (wait_begins x t c k timed) Row.Rests) (makes (Access.Load (address_in l t (counter_place l k))) [] (Row.GivePends m (OfWait k (shown x (counter_place l k) % 4294967296) (shows_slept x t c (shown x (counter_place l k))) timed)))
      (does (Row.WaitCounts m k timed died) (Decides (decided t m op.Wait XSTATE)) Row.Rests refl (refl, refl) tt) (quiet (Row.WaitCounts m k timed died) (Row.GivePends m (OfWait k (shown x (counter_place l k) % 4294967296) (shows_slept x t c (shown x (counter_place l k))) timed)) (refl, refl))
  one_row (Row.WaitSets m k n timed) g o = finds_one (Row.WaitSets m k n timed) m (OfWait k n true timed) refl refl
  one_row (Row.WaitSleeps m k n timed) g o = quiet (Row.WaitSleeps m k n timed) (Row.WaitAsleep m k n timed) (refl, refl)
  one_row (Row.WaitAsleep m k n timed) g o = quiet (Row.WaitAsleep m k n timed) (Row.Sees (retakes m k)) (refl, refl)
  one_row (Row.WaitLate m k n) g o = quiet (Row.WaitLate m k n) (Row.WaitAsleep m k n false) (refl, refl)
  one_row (Row.CountLooks m k all) g o = two (Row.CountLooks m k all) ((fields_of (cell m)).owner == t) Nothing (Decides (decided t m (counts_as all) EPERM)) (makes (Access.Load (at (cell_of m))) [] (Row.CountLoads m k all)) (makes (Access.Load (at (cell_of m))) (refused_count x t c k all) Row.Rests)
      (quiet (Row.CountLooks m k all) (Row.CountLoads m k all) (refl, refl)) (does (Row.CountLooks m k all) (Decides (decided t m (counts_as all) EPERM)) Row.Rests (may_count all m EPERM) (refl, refl) tt)
  one_row (Row.CountLoads m k all) g o = quiet (Row.CountLoads m k all) (Row.Counts m k all (shown x (counter_place l k))) (refl, refl)
  one_row (Row.Counts m k all n) g o = counted_one m k n all (shows_slept x t c n) (counted x t c n % 4294967296)
  one_row (Row.CountWakes m k n) g o = either (Row.CountWakes m k n) Nothing (is_nobody (x.machine.queues (counter_place l k))) (Row.Unsets m k n) Row.Rests (quiet (Row.CountWakes m k n) (Row.Unsets m k n) (refl, refl)) (quiet (Row.CountWakes m k n) Row.Rests tt)
  one_row (Row.AllMarks m k n) g o = quiet (Row.AllMarks m k n) (Row.AllMoves m k n) (refl, refl)
  one_row (Row.AllMoves m k n) g o = quiet (Row.AllMoves m k n) (Row.Unsets m k n) (refl, refl)
  one_row (Row.Unsets m k n) g o = quiet (Row.Unsets m k n) Row.Rests tt

  lapses_one : (r : Row) (g : Stage) → Fits l t r g → (progress (lapse_row r) ≡ progress r) × (about (lapse_row r) ≡ about r)
  lapses_one (Row.Asleep k) g o = go k.timed refl
    where
      go : (b : Bool) → k.timed ≡ b → (progress (if b then Row.Late k else Row.Asleep k) ≡ lock_progress k.how k.wrong) × (about (if b then Row.Late k else Row.Asleep k) ≡ k.mutex)
      go true e = (sym (ap (λ (i : How). lock_progress i k.wrong) (o.1 e)), refl)
      go false e = (refl, refl)
  lapses_one (Row.WaitAsleep m k n true) g o = (refl, refl)
  lapses_one (Row.WaitAsleep m k n false) g o = (refl, refl)
  lapses_one r g o = (refl, refl)

  pub decides_once : (g : Stage) → Fits l t (x.rows t) g → DecidesOnce x t c (x.rows t)
  decides_once g o = let one = one_row (x.rows t) g o in record { may = one.may; own = one.own; goes = one.goes; lapses = lapses_one (x.rows t) g o }

-- ---- a call begins

pub begins_called : CallsBeginUndecided
begins_called l held (Row.Looks k) e = go k.how k.wrong (is_ours l k.mutex) (nat_lt held 2046) (may_be_due k) e
  where
    go : (h : How) (wrong b d f : Bool) → (is_first h && b && d && f) ≡ true → IsCalled (lock_progress h wrong)
    go Tried true b d f e = tt
    go Tried false b d f e = tt
    go Later wrong b d f e = absurd cc
    go (Waited z) wrong b d f e = absurd cc
begins_called l held (Row.TryLooks m) e = tt
begins_called l held (Row.GiveLooks m) e = tt
begins_called l held (Row.MendLooks m) e = tt
begins_called l held (Row.AnewLooks m) e = tt
begins_called l held (Row.WaitLooks m k timed) e = tt
begins_called l held (Row.CountLooks m k all) e = tt
begins_called l held r e = absurd cc
