-- After an access the machine's thread is where the next row says.
use Rattle.std.proofs.Common.{◌≡◌, ◌≢◌, inl, inr, ℕ, ◌+◌, ◌%◌, ◌^◌, ◌<◌, ◌==◌, Bool, true, false, Some, List, [], ◌∷◌, ◌++◌, length, refl, sym, ap, ◌∙◌, subst, eqb-true}
use Rattle.std.specs.Prelude.{if◌then◌else◌, not, take, drop, ◌&&◌, ◌||◌}
use Rattle.lockword.specs.Cells.{fields_of, low_of, waiting}
use Rattle.lockword.specs.declared.reply.Reply.{Reply}
use Rattle.lockword.specs.declared.reply.Reply.TheVariants.{OK, EBUSY, EOWNERDEAD, ENOTRECOVERABLE, ETIMEDOUT}
use Rattle.stepprograms.specs.declared.access.Access.{Access}
use Rattle.posixmutex.specs.declared.point.Operation.TheVariants as operation
use Rattle.memorymap.specs.Layouts.{cell_place, head_place}
use Rattle.mutex.specs.declared.call.Call.TheVariants.{TimedLock, TryLock, Unlock}
use Rattle.mutex.specs.declared.phase.Phase.{Phase}
use Rattle.mutex.specs.declared.phase.Phase.TheVariants.{AtCell, Clearing, Linking, Unlinking}
use Rattle.mutex.specs.declared.lock.LockRow.TheVariants as lock
use Rattle.mutex.specs.declared.row.Row.TheVariants.{Lock}
use Rattle.mutex.specs.declared.row.Row.TheVariants as mutex_row
use Rattle.mutex.specs.Rows.{acquired, ends}
use Rattle.mutex.specs.TryLock.{try_sees}
use Rattle.mutex.specs.Whole.{from_cell, onward, phase_access, phase_led}
use Rattle.mutex.specs.declared.unlock.UnlockRow.TheVariants as unlock
use Rattle.lockword.specs.Threads.{most_threads}
use Rattle.stepprograms.specs.declared.access.Answer.TheVariants.{Count}
use Rattle.mutex.specs.Standings.{Whole}
use Rattle.condvar.specs.declared.call.CondCall.TheVariants as cond_call
use Rattle.condvar.specs.declared.phase.CondPhase.{CondPhase}
use Rattle.condvar.specs.declared.row.CondRow.TheVariants as cond_row
use Rattle.condvar.specs.declared.broadcast.BroadcastRow.TheVariants as broadcast
use Rattle.condvar.specs.declared.op.Op.{Op}
use Rattle.condvar.specs.declared.op.Op.TheVariants.{OnMutex, OnCondition}
use Rattle.condvar.specs.Ops.{mutex_of}
use Rattle.protocol.specs.declared.event.Event.{Event}
use Rattle.protocol.specs.declared.event.Event.TheVariants.{Step}
use Rattle.protocol.specs.declared.thread.Thread.{Thread}
use Rattle.protocol.specs.declared.thread.Stage.{Stage}
use Rattle.protocol.specs.declared.thread.Stage.TheVariants.{Idle, Calling}
use Rattle.protocol.specs.Machine.{State, held_after, put, run}
use Rattle.protocol.proofs.Kept.{Kept}
use Rattle.protocol.proofs.Puts.{put-same}
use Rattle.protocol.proofs.Seeing.{cell_in, cell_again, entry_in}
use Rattle.slots.specs.Places.{cell_of, is_slot, our_own, slot_of}
use Rattle.slots.specs.Rows.{Choice, How, Row, Taking, Then}
use Rattle.slots.specs.Rows.How.{Tried, Later, Waited}
use Rattle.slots.specs.Rows.Before.{Linked, Mended, Again}
use Rattle.slots.specs.Rows.Onward.{Fails, Has, Sleeps}
use Rattle.slots.specs.Rows.Giving.{OfUnlock, OfWait}
use Rattle.slots.specs.Rows.Then.{ToSleep, ToSlot}
use Rattle.slots.specs.Shown.{Slots, shown}
use Rattle.slots.specs.Stands.{RepliesAs, HasChosen, IsIn, IsThrough, IsToLook, IsToSleep, StandsAs, at_load}
use Rattle.slots.specs.Words.{is_free, is_moving, taken_word, waiting_word}
use Rattle.slots.specs.Seen.{again_events, begins, begins_behind, later, expires, seen_events, seen_row, seen_to_sleep, sets_and_expires, sleep_row}
use Rattle.slots.specs.Table.{Made, made, makes, out_of, marked_events, marked_row, missed, on_cell, to_slot, tries, watched_row}
use Rattle.slots.specs.Accesses.{IsAbout, IsAboutIt, IsAtRow}
use Rattle.slots.specs.Each.{Assumes, IsToMark, IsToTake, IsToTakeSlot}
use Rattle.slots.specs.Further.{GoesToSlot, MayTake, SeesAnother, SeesUnmarked}
use Rattle.slots.specs.Invariant.{fields_at}
use Rattle.slots.specs.Goes.{AssumesToo, LeadsOn, RowsLeadOn}
use Rattle.slots.proofs.Announcing.{call_of}
use Rattle.slots.proofs.CountLeads.{anews_so, count_wakes_lead, counts_lead, frees_lead, gives_lead, wait_sleeps_lead, wakes_one_lead}
use Rattle.slots.proofs.Releasing.{freeing_at}
use Rattle.slots.proofs.FirstLeads.{count_looks_lead, give_looks_lead, looks_lead, mend_looks_lead, try_looks_lead, wait_counts_lead, wait_looks_lead, wait_pends_lead}
use Rattle.slots.proofs.LinkLeads.{along_leads}
use Rattle.slots.proofs.UnlinkLeads.{off_leads}
use Rattle.slots.proofs.WaitLeads.{gives_wait, hands_lead, looks_back_lead, wait_unlinks_lead}
use Rattle.slots.proofs.StepLeads.{frees_slot, gives_cell, moves_lead, trims_lead, wait_wakes_lead}
use Rattle.slots.proofs.TakeLeads.{cell_taken, heir_taken, slot_taken, tried_taken}
use Rattle.slots.proofs.LookLeads.{Reaches, gives_up, loaded, lost_clears, lost_wakes, reach_later, reach_to_sleep, reach_tried, reach_waited}
use Rattle.slots.proofs.Meets.{Says, cell_says, cell_shows, pends_in}
use Rattle.slots.proofs.Chains.{again_more, behind_more, clears_more, lock_or_try, locks_more, sleeps_more, wakes_more}
use Rattle.slots.proofs.Decisions.{at_load_later, behind_later, behind_tried}
use Rattle.slots.proofs.Each.{finds, finds_slot, slot_owner, unmarked}
use Rattle.slots.proofs.Free.{reached_kept}
use Rattle.slots.proofs.Leading.{IsAt, Leads, by_test, call_at, compose, is_at, is_at_word, loads_more, now, on, op_of, put_back, stays, steps_more, unmoved, all_still}
use Rattle.slots.proofs.Marking as marking
use Rattle.slots.proofs.Mending as mending
use Rattle.slots.proofs.Sleeping as sleeping
use Rattle.slots.proofs.Refusals.{tries_owned, tries_unusable}
use Rattle.slots.proofs.Shows.{shown_cell}
use Rattle.slots.proofs.Takes.{load_of, not_equal}

module _ (x : Slots) (t : ℕ) (c : Choice) (at : IsAtRow x t) where
  abbrev z : State
  z = x.machine

  abbrev g : Stage
  g = (z.threads t).stage

  abbrev h : ℕ
  h = (z.threads t).held

  inv : Kept z
  inv = reached_kept z at.reached

  -- where events lead
  led : (es : List Event) (w : ℕ → ℕ) (q : ℕ → List ℕ) (th : Thread) (next : Row) → Leads z t es w q th → StandsAs next th.stage → StandsAs next ((run z es).threads t).stage
  led es w q th next l there = subst (StandsAs next) (sym (ap (λ (s : State). (s.threads t).stage) l.to ∙ ap (λ (y : Thread). y.stage) (put-same z.threads t th))) there

  -- whichever row a test chooses
  either : (b : Bool) (r s : Row) (f : Stage) → StandsAs r f → StandsAs s f → StandsAs (if b then r else s) f
  either true r s f yes_there no_there = yes_there
  either false r s f yes_there no_there = no_there

  -- ---- a lock's choice

  sleeps_so : (k : Taking) (v : ℕ) (how : How) → k.how ≡ how → (w : Bool) → (fields_of v).waiters ≡ w → HasChosen k how w v g → StandsAs (sleep_row k v) g
  sleeps_so k v Tried is true waits there = subst (λ (b : Bool). StandsAs (if b then Row.SleepsOn k v else Row.Marks k v ToSleep) g) (sym waits) (subst (λ (i : How). IsToSleep k i v g) (sym is) there)
  sleeps_so k v Tried is false waits there = subst (λ (b : Bool). StandsAs (if b then Row.SleepsOn k v else Row.Marks k v ToSleep) g) (sym waits) (subst (λ (i : How). HasChosen k i false v g) (sym is) there)
  sleeps_so k v Later is true waits there = subst (λ (b : Bool). StandsAs (if b then Row.SleepsOn k v else Row.Marks k v ToSleep) g) (sym waits) (subst (λ (i : How). IsToSleep k i v g) (sym is) there)
  sleeps_so k v Later is false waits there = subst (λ (b : Bool). StandsAs (if b then Row.SleepsOn k v else Row.Marks k v ToSleep) g) (sym waits) (subst (λ (i : How). HasChosen k i false v g) (sym is) there)
  sleeps_so k v (Waited y) is true waits there = subst (λ (b : Bool). StandsAs (if b then Row.SleepsOn k v else Row.Marks k v ToSleep) g) (sym waits) (subst (λ (i : How). IsToSleep k i v g) (sym is) there)
  sleeps_so k v (Waited y) is false waits there = subst (λ (b : Bool). StandsAs (if b then Row.SleepsOn k v else Row.Marks k v ToSleep) g) (sym waits) (subst (λ (i : How). HasChosen k i false v g) (sym is) there)

  to_slot_so : (k : Taking) (v sl : ℕ) (how : How) → k.how ≡ how → tries x t c how ≡ true → (w : Bool) → (fields_of v).waiters ≡ w → HasChosen k how w v g → StandsAs (to_slot x t c k how v sl) g
  to_slot_so k v sl Tried is tried w waits there = subst (λ (i : How). IsThrough k.mutex i g) (sym is) there
  to_slot_so k v sl Later is tried true waits there = subst (λ (b : Bool). StandsAs (if b then Row.SlotPends k sl else Row.Marks k v (ToSlot sl)) g) (sym waits) (subst (λ (i : How). IsThrough k.mutex i g) (sym is) there)
  to_slot_so k v sl Later is tried false waits there = subst (λ (b : Bool). StandsAs (if b then Row.SlotPends k sl else Row.Marks k v (ToSlot sl)) g) (sym waits) (subst (λ (i : How). HasChosen k i false v g) (sym is) there)
  to_slot_so k v sl (Waited y) is tried w waits there = absurd cc

  first_of : (a b d : Bool) → (a && b && d) ≡ true → a ≡ true
  first_of true b d e = refl
  first_of false b d e = absurd cc

  chosen_so : (k : Taking) (v sl : ℕ) → HasChosen k k.how (fields_of v).waiters v g → StandsAs (made x t c (Row.Chooses k v)).next g
  chosen_so k v sl there =
      by_test (λ (r : Row). StandsAs r g) (tries x t c k.how && is_moving found && c.again) (Row.SeesAgain k v) (if tries x t c k.how && ((fields_of found).owner == 0) && c.yes then to_slot x t c k k.how v found else sleep_row k v)
      (λ e. there)
      (λ e. by_test (λ (r : Row). StandsAs r g) (tries x t c k.how && ((fields_of found).owner == 0) && c.yes) (to_slot x t c k k.how v found) (sleep_row k v)
      (λ f. to_slot_so k v found k.how refl (first_of (tries x t c k.how) ((fields_of found).owner == 0) c.yes f) (fields_of v).waiters refl there)
      (λ f. sleeps_so k v k.how refl (fields_of v).waiters refl there))
    where
      found : ℕ
      found = shown x (cell_place z.layout (slot_of k.mutex))

  -- ---- calls that begin

  begun : (k : ℕ) (b : Bool) → g ≡ Idle → k < z.layout.mutexes → h < 2048 → Leads z t (begins t (call_of b k)) (put z.words (head_place t + 2) (entry_in z.layout t k)) z.queues (on (Calling (OnMutex (call_of b k)) (call_at z.layout t (lock_or_try b) k (AtCell (load_of b)))) h)
  begun k b is inside room = locks_more z t at.first at.last inv.layout [] z.words z.queues h k b at.out (stays z t Idle inv is) inside room

  behind : (k : ℕ) (b : Bool) (o : Op) (j : ℕ) (y : Reply) → IsAt z t o j (Clearing y) → k < z.layout.mutexes → h < 2048 → Leads z t (begins_behind t (call_of b k)) (put z.words (head_place t + 2) (entry_in z.layout t k)) z.queues (on (Calling (OnMutex (call_of b k)) (call_at z.layout t (lock_or_try b) k (AtCell (load_of b)))) h)
  behind k b o j y a inside room = behind_more z t at.first at.last inv.layout [] z.words z.queues h k b o (op_of o) j y at.out (stays z t (Calling o (call_at z.layout t (op_of o) j (Clearing y))) inv a.there) inside room

  clearing_at : (o : Op) (p : Whole) (y : Reply) → g ≡ Calling o p → p.phase ≡ Clearing y → IsAt z t o (mutex_of z.layout o) (Clearing y)
  clearing_at o p y is phase = is_at z t o p (mutex_of z.layout o) (Clearing y) inv at.first at.last is phase refl

  clears : (o : Op) (p : Whole) (y : Reply) → g ≡ Calling o p → p.phase ≡ Clearing y → Leads z t (Step t ∷ []) (put z.words (head_place t + 2) 0) z.queues (on Idle h)
  clears o p y is phase = let a = clearing_at o p y is phase in
      clears_more z t at.first at.last inv.layout [] z.words z.queues h at.out o (op_of o) (mutex_of z.layout o) y (stays z t (Calling o (call_at z.layout t (op_of o) (mutex_of z.layout o) (Clearing y))) inv a.there)

  through_slot : (k : Taking) (sl : ℕ) (how : How) → slot_of k.mutex < z.layout.mutexes → h < 2048 → IsThrough k.mutex how g → StandsAs (Row.SlotTakes k sl) ((run z (begins_behind t (TryLock (slot_of k.mutex)))).threads t).stage
  through_slot k sl Tried inside room (p, is, phase) = led (begins_behind t (TryLock (slot_of k.mutex))) _ z.queues _ (Row.SlotTakes k sl) (behind (slot_of k.mutex) false _ _ _ (clearing_at _ p _ is phase) inside room) (call_at z.layout t operation.TryLock (slot_of k.mutex) (AtCell (load_of false)), refl, refl)
  through_slot k sl Later inside room (p, is, phase) = led (begins_behind t (TryLock (slot_of k.mutex))) _ z.queues _ (Row.SlotTakes k sl) (behind (slot_of k.mutex) false _ _ _ (clearing_at _ p _ is phase) inside room) (call_at z.layout t operation.TryLock (slot_of k.mutex) (AtCell (load_of false)), refl, refl)
  through_slot k sl (Waited y) inside room never = absurd never

  -- a lock of the cell has announced it
  at_cell : (m : ℕ) → IsIn (TimedLock (cell_of m)) at_load (Calling (OnMutex (TimedLock (cell_of m))) (call_at z.layout t operation.Lock (cell_of m) (AtCell (load_of true))))
  at_cell m = (call_at z.layout t operation.Lock (cell_of m) (AtCell (load_of true)), refl, refl)

  tried_at : (m : ℕ) → IsIn (TryLock (cell_of m)) (AtCell (load_of false)) (Calling (OnMutex (TryLock (cell_of m))) (call_at z.layout t operation.TryLock (cell_of m) (AtCell (load_of false))))
  tried_at m = (call_at z.layout t operation.TryLock (cell_of m) (AtCell (load_of false)), refl, refl)

  pends_so : (k : Taking) (v : ℕ) (how : How) → k.how ≡ how → how ≡ Tried → g ≡ Idle → MayTake x t k.mutex → LeadsOn x t c (Row.Pends k v)
  pends_so k v how is tried idle may = led (begins t (TryLock (cell_of k.mutex))) _ z.queues _ (if is_free v then Row.Takes k v else Row.Sees k) (begun (cell_of k.mutex) false idle may.inside may.room)
      (either (is_free v) (Row.Takes k v) (Row.Sees k) _ looks looks)
    where
      looks : IsToLook k k.how (Calling (OnMutex (TryLock (cell_of k.mutex))) (call_at z.layout t operation.TryLock (cell_of k.mutex) (AtCell (load_of false))))
      looks = subst (λ (i : How). IsToLook k i (Calling (OnMutex (TryLock (cell_of k.mutex))) (call_at z.layout t operation.TryLock (cell_of k.mutex) (AtCell (load_of false))))) (sym (is ∙ tried)) (tried_at k.mutex)

  last_marks : (k : Taking) (v : ℕ) → IsIn (TimedLock (cell_of k.mutex)) at_load g → MayTake x t k.mutex → IsToMark t v → LeadsOn x t c (Row.LastMarks k v)
  last_marks k v there may to = by_test (λ (m : Made). StandsAs m.next ((run z m.events).threads t).stage) (shown x (cell_place z.layout (cell_of k.mutex)) == v)
      (makes (Access.Exchange (cell_in z.layout t (cell_of k.mutex)) v (waiting_word v)) (sets_and_expires t) (out_of x t c k)) (makes (Access.Exchange (cell_in z.layout t (cell_of k.mutex)) v (waiting_word v)) [] (Row.HeirPends k Again))
      (λ e. led (sets_and_expires t) _ z.queues _ (out_of x t c k) (marking.from_load x t c at k.mutex v may (unmarked x t c at k.mutex v to (eqb-true (shown x (cell_place z.layout (cell_of k.mutex))) v e)) (at_load_later x t c at k.mutex there))
      (either (k.timed && c.yes) (Row.Frees k (Fails ETIMEDOUT)) (Row.Frees k Sleeps) _ ended ended))
      (λ e. there)
    where
      ended : IsIn (TimedLock (cell_of k.mutex)) (Clearing ETIMEDOUT) (Calling (OnMutex (TimedLock (cell_of k.mutex))) (call_at z.layout t operation.Lock (cell_of k.mutex) (Clearing ETIMEDOUT)))
      ended = (call_at z.layout t operation.Lock (cell_of k.mutex) (Clearing ETIMEDOUT), refl, refl)

  looked_so : (k : Taking) (v : ℕ) (a b : Bool) → IsIn (TimedLock (cell_of k.mutex)) at_load g → StandsAs (if a then Row.HeirPendsOn k v true else if b then Row.HeirPends k Again else Row.HeirPendsOn k v false) g
  looked_so k v true b there = there
  looked_so k v false true there = there
  looked_so k v false false there = there

  watched_so : (k : Taking) (v : ℕ) (a b d e : Bool) → IsIn (TimedLock (cell_of k.mutex)) at_load g → StandsAs (if a && b then Row.HeirTakes k v else if a && d && e then Row.HeirPends k Again else Row.GivesUp k) g
  watched_so k v true true d e there = there
  watched_so k v true false true true there = there
  watched_so k v true false true false there = there
  watched_so k v true false false e there = there
  watched_so k v false b d e there = there

  -- ---- looks

  abbrev word : ℕ → ℕ
  word m = shown x (cell_place z.layout (cell_of m))

  reached : (es : List Event) (next : Row) → Reaches z t es next → StandsAs next ((run z es).threads t).stage
  reached es next r = led es z.words z.queues r.0 next r.1 r.2

  sees_so : (k : Taking) (how : How) → k.how ≡ how → MayTake x t k.mutex → IsToLook k how g → IsAbout z.layout k.mutex g → Reaches z t (seen_events t k.mutex how (word k.mutex)) (seen_row t k (word k.mutex))
  sees_so k Tried same may (p, is, phase) about = reach_tried z t k (word k.mutex) inv at.first at.last at.out may.room (cell_says x k.mutex may.inside) (is_at z t (OnMutex (TryLock (cell_of k.mutex))) p (cell_of k.mutex) (AtCell (load_of false)) inv at.first at.last is phase refl) same
  sees_so k Later same may there about = reach_later z t k (word k.mutex) inv at.first at.last at.out may.room (cell_says x k.mutex may.inside) (at_load_later x t c at k.mutex there) same
  sees_so k (Waited y) same may (o, p, is, of, acts, phase) about = reach_waited z t k (word k.mutex) inv at.first at.last at.out may.room (cell_says x k.mutex may.inside) o y of acts (is_at z t (OnCondition o) p (cell_of k.mutex) (AtCell (load_of true)) inv at.first at.last is phase (subst (IsAbout z.layout k.mutex) is about)) same

  -- after a call that begins again
  again_so : (k : Taking) (b : Bool) (o : Op) (y : Reply) → MayTake x t k.mutex → IsAt z t o (cell_of k.mutex) (Clearing y) → (fs : List Event) (next : Row)
      → ((th : Thread) → Kept (now z t z.words z.queues th) → ((now z t z.words z.queues th).threads t).held < 2048 → ((now z t z.words z.queues th).threads t).stage ≡ Calling (OnMutex (call_of b (cell_of k.mutex))) (call_at z.layout t (lock_or_try b) (cell_of k.mutex) (AtCell (load_of b))) → Reaches (now z t z.words z.queues th) t fs next)
      → Reaches z t (begins_behind t (call_of b (cell_of k.mutex)) ++ fs) next
  again_so k b o y may e fs next looks = (looked.0, compose z t (begins_behind t (call_of b (cell_of k.mutex))) fs z.words z.words z.queues z.queues th looked.0 started looked.1, looked.2)
    where
      th : Thread
      th = on (Calling (OnMutex (call_of b (cell_of k.mutex))) (call_at z.layout t (lock_or_try b) (cell_of k.mutex) (AtCell (load_of b)))) h

      started : Leads z t (begins_behind t (call_of b (cell_of k.mutex))) z.words z.queues th
      started = again_more z t at.first at.last inv.layout [] z.words z.queues h (cell_of k.mutex) b o (op_of o) (cell_of k.mutex) y at.out (stays z t (Calling o (call_at z.layout t (op_of o) (cell_of k.mutex) (Clearing y))) inv e.there) may.inside may.room (pends_in z t o (cell_of k.mutex) (Clearing y) inv at.first at.last e)

      same : put z.threads t th t ≡ th
      same = put-same z.threads t th

      looked : Reaches (now z t z.words z.queues th) t fs next
      looked = looks th started.kept (subst (λ (a : Thread). a.held < 2048) (sym same) may.room) (ap (λ (a : Thread). a.stage) same)

  sees_again : (k : Taking) (v : ℕ) (how : How) → k.how ≡ how → MayTake x t k.mutex → (b : Bool) → (fields_of v).waiters ≡ b → HasChosen k how b v g → GoesToSlot how → Reaches z t (again_events t k.mutex how v ++ seen_events t k.mutex how (word k.mutex)) (seen_row t k (word k.mutex))
  sees_again k v Tried same may b waits there to = again_so k false _ _ may (behind_tried x t c at k.mutex there) (seen_events t k.mutex Tried (word k.mutex)) (seen_row t k (word k.mutex))
      (λ th kept held stage. reach_tried (now z t z.words z.queues th) t k (word k.mutex) kept at.first at.last at.out held (cell_says x k.mutex may.inside) (record { inside = may.inside; there = stage }) same)
  sees_again k v Later same may true waits there to = subst (λ (b : Bool). Reaches z t ((if b then begins_behind t (TimedLock (cell_of k.mutex)) else []) ++ seen_events t k.mutex Later (word k.mutex)) (seen_row t k (word k.mutex))) (sym waits)
      (again_so k true _ _ may (behind_later x t c at k.mutex there) (seen_events t k.mutex Later (word k.mutex)) (seen_row t k (word k.mutex))
      (λ th kept held stage. reach_later (now z t z.words z.queues th) t k (word k.mutex) kept at.first at.last at.out held (cell_says x k.mutex may.inside) (record { inside = may.inside; there = stage }) same))
  sees_again k v Later same may false waits there to = subst (λ (b : Bool). Reaches z t ((if b then begins_behind t (TimedLock (cell_of k.mutex)) else []) ++ seen_events t k.mutex Later (word k.mutex)) (seen_row t k (word k.mutex))) (sym waits)
      (reach_later z t k (word k.mutex) inv at.first at.last at.out may.room (cell_says x k.mutex may.inside) (at_load_later x t c at k.mutex there) same)
  sees_again k v (Waited y) same may b waits there to = absurd to

  last_looks : (k : Taking) → MayTake x t k.mutex → (fields_at z (cell_of k.mutex)).owner ≢ t → IsIn (TimedLock (cell_of k.mutex)) at_load g → LeadsOn x t c (Row.LastLooks k)
  last_looks k may apart there = go (fields_of v).unusable refl ((fields_of v).owner == 0) refl (fields_of v).waiters refl
    where
      v : ℕ
      v = word k.mutex

      m : ℕ
      m = cell_of k.mutex

      look : Access
      look = Access.Load (cell_in z.layout t m)

      a : IsAt z t (OnMutex (TimedLock m)) m (AtCell (load_of true))
      a = at_load_later x t c at k.mutex there

      says : Says (z.words (cell_place z.layout m)) v
      says = cell_says x k.mutex may.inside

      start : Leads z t [] z.words z.queues (on (Calling (OnMutex (TimedLock m)) (call_at z.layout t operation.Lock m (AtCell (load_of true)))) h)
      start = loaded z t k v inv at.first at.last at.out may.room says a

      other : ((fields_of v).owner == t) ≡ false
      other = not_equal (fields_of v).owner t (λ e. apart (sym says.owner ∙ e))

      ended : (y : Reply) → IsIn (TimedLock m) (Clearing y) (Calling (OnMutex (TimedLock m)) (call_at z.layout t operation.Lock m (Clearing y)))
      ended y = (call_at z.layout t operation.Lock m (Clearing y), refl, refl)

      go : (u : Bool) → (fields_of v).unusable ≡ u → (b : Bool) → ((fields_of v).owner == 0) ≡ b → (d : Bool) → (fields_of v).waiters ≡ d
          → (λ (n : Made). StandsAs n.next ((run z n.events).threads t).stage) (
          if u then makes look (Step t ∷ []) (if d then Row.HeirWakes k else Row.Frees k (Fails ENOTRECOVERABLE))
          else if b then makes look [] (Row.HeirPends k Again)
          else if d then makes look (expires t) (out_of x t c k)
          else makes look [] (Row.LastMarks k v)
          )
      go true lost b none true waits = led (Step t ∷ []) z.words z.queues _ (Row.HeirWakes k) (lost_wakes z t k v inv at.first at.last at.out may.room says [] (OnMutex (TimedLock m)) refl may.inside start lost waits) (call_at z.layout t operation.Lock m (AtCell (Lock lock.WakeAll)), refl, refl)
      go true lost b none false alone = led (Step t ∷ []) z.words z.queues _ (Row.Frees k (Fails ENOTRECOVERABLE)) (lost_clears z t k v inv at.first at.last at.out may.room says [] (OnMutex (TimedLock m)) refl may.inside start lost alone) (ended ENOTRECOVERABLE)
      go false usable true none d waits = there
      go false usable false some true waits = led (expires t) z.words z.queues _ (out_of x t c k) (gives_up z t k v inv at.first at.last at.out may.room says a usable some other waits) (either (k.timed && c.yes) (Row.Frees k (Fails ETIMEDOUT)) (Row.Frees k Sleeps) _ (ended ETIMEDOUT) (ended ETIMEDOUT))
      go false usable false some false alone = there

  -- ---- takes

  takes_so : (k : Taking) (v : ℕ) → MayTake x t k.mutex → IsToTake x k.mutex v → IsToLook k k.how g → IsAbout z.layout k.mutex g → LeadsOn x t c (Row.Takes k v)
  takes_so k v may to there about = by_test (λ (n : Made). StandsAs n.next ((run z n.events).threads t).stage) (word k.mutex == v)
      (makes (Access.Exchange (cell_in z.layout t (cell_of k.mutex)) v (taken_word v t)) (Step t ∷ Step t ∷ []) (Row.Links k.mutex (acquired (fields_of v)))) (makes (Access.Exchange (cell_in z.layout t (cell_of k.mutex)) v (taken_word v t)) (seen_events t k.mutex k.how (word k.mutex)) (seen_row t k (word k.mutex)))
      (λ e. cell_taken x t c at k v k.how may (finds x t c at k.mutex v may to (eqb-true (word k.mutex) v e)) there about)
      (λ e. reached (seen_events t k.mutex k.how (word k.mutex)) (seen_row t k (word k.mutex)) (sees_so k k.how refl may there about))

  heir_takes_so : (k : Taking) (v : ℕ) → MayTake x t k.mutex → IsToTake x k.mutex v → IsIn (TimedLock (cell_of k.mutex)) at_load g → LeadsOn x t c (Row.HeirTakes k v)
  heir_takes_so k v may to there = by_test (λ (n : Made). StandsAs n.next ((run z n.events).threads t).stage) (word k.mutex == v)
      (makes (Access.Exchange (cell_in z.layout t (cell_of k.mutex)) v (taken_word v t)) (Step t ∷ Step t ∷ []) (Row.HeirHas k (acquired (fields_of v)))) (makes (Access.Exchange (cell_in z.layout t (cell_of k.mutex)) v (taken_word v t)) [] (watched_row x t c k (word k.mutex) true))
      (λ e. heir_taken x t c at k v may (finds x t c at k.mutex v may to (eqb-true (word k.mutex) v e)) there)
      (λ e. watched_so k (word k.mutex) true (is_free (word k.mutex)) (not (fields_of (word k.mutex)).unusable) (not (k.timed && c.yes)) there)

  -- a trylock of the cell, and of the slot
  miss_to : (k : ℕ) (p : Whole) (y : Reply) → g ≡ Calling (OnMutex (TryLock k)) p → p.phase ≡ AtCell (load_of false) → try_sees 0 (fields_at z k) ≡ ends y → from_cell (call_at z.layout t operation.TryLock k (AtCell (load_of false))) (ends y) ≡ record { phase = Clearing y; point = Some y } → held_after h operation.TryLock (Some y) ≡ h
      → Leads z t (Step t ∷ []) z.words z.queues (on (Calling (OnMutex (TryLock k)) (call_at z.layout t operation.TryLock k (Clearing y))) h)
  miss_to k p y is phase sees leads held = let a = is_at z t (OnMutex (TryLock k)) p k (AtCell (load_of false)) inv at.first at.last is phase refl in
      loads_more z t [] z.words z.queues (OnMutex (TryLock k)) (call_at z.layout t operation.TryLock k (AtCell (load_of false))) h at.first at.last (stays z t (Calling (OnMutex (TryLock k)) (call_at z.layout t operation.TryLock k (AtCell (load_of false)))) inv a.there) at.out
      (cell_in z.layout t k) (cell_place z.layout k) (record { phase = Clearing y; point = Some y }) (on (Calling (OnMutex (TryLock k)) (call_at z.layout t operation.TryLock k (Clearing y))) h)
      refl (cell_again z.layout t inv.layout at.first at.last k a.inside) (ap (from_cell (call_at z.layout t operation.TryLock k (AtCell (load_of false)))) sees ∙ leads) refl held

  try_takes_so : (m v : ℕ) → MayTake x t m → IsToTake x m v → IsIn (TryLock (cell_of m)) (AtCell (load_of false)) g → LeadsOn x t c (Row.TryTakes m v)
  try_takes_so m v may to (p, is, phase) = by_test (λ (n : Made). StandsAs n.next ((run z n.events).threads t).stage) (word m == v)
      (makes exchange (Step t ∷ Step t ∷ []) (Row.Links m (acquired (fields_of v))))
      (if is_free (word m) then makes exchange [] (Row.TryTakes m (word m)) else makes exchange (Step t ∷ []) (Row.Clears m reply))
      (λ e. tried_taken x t c at m v may (finds x t c at m v may to (eqb-true (word m) v e)) (p, is, phase))
      (λ e. by_test (λ (n : Made). StandsAs n.next ((run z n.events).threads t).stage) (is_free (word m)) (makes exchange [] (Row.TryTakes m (word m))) (makes exchange (Step t ∷ []) (Row.Clears m reply))
      (λ free. (p, is, phase))
      (λ taken. go (fields_of (word m)).unusable refl ((fields_of (word m)).owner == 0) refl taken))
    where
      exchange : Access
      exchange = Access.Exchange (cell_in z.layout t (cell_of m)) v (taken_word v t)

      reply : Reply
      reply = if (fields_of (word m)).unusable then ENOTRECOVERABLE else EBUSY

      says : Says (z.words (cell_place z.layout (cell_of m))) (word m)
      says = cell_says x m may.inside

      go : (a : Bool) → (fields_of (word m)).unusable ≡ a → (b : Bool) → ((fields_of (word m)).owner == 0) ≡ b → (b && not a) ≡ false → StandsAs (Row.Clears m reply) ((run z (Step t ∷ [])).threads t).stage
      go true lost b e all = led (Step t ∷ []) z.words z.queues _ (Row.Clears m reply) (miss_to (cell_of m) p ENOTRECOVERABLE is phase (tries_unusable (fields_at z (cell_of m)) (sym says.unusable ∙ lost)) refl refl) (OnMutex (TryLock (cell_of m)), call_at z.layout t operation.TryLock (cell_of m) (Clearing ENOTRECOVERABLE), ENOTRECOVERABLE, refl, refl, RepliesAs.Same (ap (λ (b : Bool). if b then ENOTRECOVERABLE else EBUSY) (sym lost)))
      go false usable false some all = led (Step t ∷ []) z.words z.queues _ (Row.Clears m reply) (miss_to (cell_of m) p EBUSY is phase (tries_owned (fields_at z (cell_of m)) (sym says.unusable ∙ usable) (ap (λ (n : ℕ). n == 0) (sym says.owner) ∙ some)) refl refl) (OnMutex (TryLock (cell_of m)), call_at z.layout t operation.TryLock (cell_of m) (Clearing EBUSY), EBUSY, refl, refl, RepliesAs.Same (ap (λ (b : Bool). if b then ENOTRECOVERABLE else EBUSY) (sym usable)))
      go false usable true none all = absurd cc

  slot_takes_so : (k : Taking) (sl : ℕ) → IsToTakeSlot x k.mutex sl → IsIn (TryLock (slot_of k.mutex)) (AtCell (load_of false)) g → LeadsOn x t c (Row.SlotTakes k sl)
  slot_takes_so k sl to (p, is, phase) = by_test (λ (n : Made). StandsAs n.next ((run z n.events).threads t).stage) (found == sl)
      (makes exchange (Step t ∷ Step t ∷ []) (Row.SlotLinks k (fields_of sl).died))
      (if (fields_of found).owner == 0 then makes exchange [] (Row.SlotTakes k found) else makes exchange (Step t ∷ []) (Row.SlotLeft k))
      (λ e. slot_taken x t c at k sl to.inside (finds_slot x t c at k.mutex sl to (eqb-true found sl e)) (p, is, phase))
      (λ e. by_test (λ (n : Made). StandsAs n.next ((run z n.events).threads t).stage) ((fields_of found).owner == 0) (makes exchange [] (Row.SlotTakes k found)) (makes exchange (Step t ∷ []) (Row.SlotLeft k))
      (λ free. (p, is, phase))
      (λ owned. led (Step t ∷ []) z.words z.queues _ (Row.SlotLeft k) (miss_to (slot_of k.mutex) p EBUSY is phase (tries_owned (fields_at z (slot_of k.mutex)) to.usable (ap (λ (n : ℕ). n == 0) (sym owner) ∙ owned)) refl refl)
      (inl (call_at z.layout t operation.TryLock (slot_of k.mutex) (Clearing EBUSY), refl, refl))))
    where
      found : ℕ
      found = shown x (cell_place z.layout (slot_of k.mutex))

      exchange : Access
      exchange = Access.Exchange (cell_in z.layout t (slot_of k.mutex)) sl (taken_word sl t)

      owner : (fields_of found).owner ≡ (fields_at z (slot_of k.mutex)).owner
      owner = ap (λ (u : ℕ). (fields_of u).owner) (shown_cell x (slot_of k.mutex) to.inside) ∙ slot_owner (z.words (cell_place z.layout (slot_of k.mutex))) (x.turns (slot_of k.mutex)) (is_slot (slot_of k.mutex) && x.awake (our_own (slot_of k.mutex)))

  -- ---- WAITERS is set

  timed_out_at : (m : ℕ) → IsIn (TimedLock (cell_of m)) (Clearing ETIMEDOUT) (Calling (OnMutex (TimedLock (cell_of m))) (call_at z.layout t operation.Lock (cell_of m) (Clearing ETIMEDOUT)))
  timed_out_at m = (call_at z.layout t operation.Lock (cell_of m) (Clearing ETIMEDOUT), refl, refl)

  abbrev MarksAs : Then → How → Type 0
  MarksAs ToSleep how = Unit {0}
  MarksAs (ToSlot sl) how = how ≡ Later

  set_so : (k : Taking) (v : ℕ) (n : Then) (how : How) → k.how ≡ how → MarksAs n how → MayTake x t k.mutex → SeesUnmarked x t k.mutex v → HasChosen k how false v g → IsAbout z.layout k.mutex g
      → StandsAs (marked_row x t c k how v n) ((run z (marked_events x t c k how)).threads t).stage
  set_so k v ToSleep Tried same leading may sees there about = led (marked_events x t c k Tried) _ z.queues _ (Row.SleepsOn (later k) (waiting_word v)) (marking.from_clear x t c at k.mutex v may sees _ _ (behind_tried x t c at k.mutex there)) (timed_out_at k.mutex)
  set_so k v ToSleep Later same leading may sees there about = led (marked_events x t c k Later) _ z.queues _ (Row.SleepsOn (later k) (waiting_word v)) (marking.from_load x t c at k.mutex v may sees (at_load_later x t c at k.mutex there)) (timed_out_at k.mutex)
  set_so k v ToSleep (Waited y) same leading may sees (o, p, is, of, acts, phase) about = led (marked_events x t c k (Waited y)) _ z.queues _ (Row.SleepsOn k (waiting_word v))
      (marking.from_wait x t c at k.mutex v may sees (OnCondition o) refl (is_at z t (OnCondition o) p (cell_of k.mutex) (AtCell (load_of true)) inv at.first at.last is phase (subst (IsAbout z.layout k.mutex) is about)))
      (subst (λ (i : How). IsToSleep k i (waiting_word v) (Calling (OnCondition o) (call_at z.layout t operation.Lock (cell_of k.mutex) (AtCell (Lock (lock.Sleep (waiting (fields_at z (cell_of k.mutex))))))))) (sym same)
      (waiting (fields_at z (cell_of k.mutex)), marking.waiting_low (z.words (cell_place z.layout (cell_of k.mutex))) (x.turns (cell_of k.mutex)) v (sym (cell_shows x k.mutex may.inside) ∙ sees.found), (o, _, refl, of, acts, refl)))
  set_so k v (ToSlot sl) Tried same leading may sees there about = absurd (cc leading)
  set_so k v (ToSlot sl) Later same leading may sees there about = led (marked_events x t c k Later) _ z.queues _ (Row.SlotPends k sl) (marking.from_load x t c at k.mutex v may sees (at_load_later x t c at k.mutex there))
      (subst (λ (i : How). IsThrough k.mutex i (Calling (OnMutex (TimedLock (cell_of k.mutex))) (call_at z.layout t operation.Lock (cell_of k.mutex) (Clearing ETIMEDOUT)))) (sym same) (timed_out_at k.mutex))
  set_so k v (ToSlot sl) (Waited y) same leading may sees there about = absurd (cc leading)

  missed_mark : (k : Taking) (a : Access) (how : How) → k.how ≡ how → (v : ℕ) → MayTake x t k.mutex → HasChosen k how false v g → IsAbout z.layout k.mutex g → StandsAs (missed x t c a k how (word k.mutex)).next ((run z (missed x t c a k how (word k.mutex)).events).threads t).stage
  missed_mark k a Tried same v may there about = reached (begins_behind t (TimedLock (cell_of k.mutex)) ++ seen_events t k.mutex Later (word k.mutex)) (seen_row t (later k) (word k.mutex)) (again_so k true _ _ may (behind_tried x t c at k.mutex there) (seen_events t k.mutex Later (word k.mutex)) (seen_row t (later k) (word k.mutex))
      (λ th kept held stage. reach_later (now z t z.words z.queues th) t (later k) (word k.mutex) kept at.first at.last at.out held (cell_says x k.mutex may.inside) (record { inside = may.inside; there = stage }) refl))
  missed_mark k a Later same v may there about = reached (seen_events t k.mutex Later (word k.mutex)) (seen_row t k (word k.mutex)) (sees_so k Later same may there about)
  missed_mark k a (Waited y) same v may there about = reached (seen_events t k.mutex (Waited y) (word k.mutex)) (seen_row t k (word k.mutex)) (sees_so k (Waited y) same may there about)

  marks_so : (k : Taking) (v : ℕ) (n : Then) → MarksAs n k.how → MayTake x t k.mutex → IsToMark t v → HasChosen k k.how false v g → IsAbout z.layout k.mutex g → LeadsOn x t c (Row.Marks k v n)
  marks_so k v n leading may to there about = by_test (λ (n : Made). StandsAs n.next ((run z n.events).threads t).stage) (word k.mutex == v)
      (makes (Access.Exchange (cell_in z.layout t (cell_of k.mutex)) v (waiting_word v)) (marked_events x t c k k.how) (marked_row x t c k k.how v n)) (missed x t c (Access.Exchange (cell_in z.layout t (cell_of k.mutex)) v (waiting_word v)) k k.how (word k.mutex))
      (λ e. set_so k v n k.how refl leading may (unmarked x t c at k.mutex v to (eqb-true (word k.mutex) v e)) there about)
      (λ e. missed_mark k (Access.Exchange (cell_in z.layout t (cell_of k.mutex)) v (waiting_word v)) k.how refl v may there about)

  -- ---- sleeps and wakes

  asleep_through : (k : Taking) (v : ℕ) → MayTake x t k.mutex → SeesAnother t v → (o : Op) (y : Reply) → IsAt z t o (cell_of k.mutex) (Clearing y) → (λ (n : Made). StandsAs n.next ((run z n.events).threads t).stage) (
      if word k.mutex % 2 ^ 32 == v % 2 ^ 32
      then makes (Access.Wait (cell_in z.layout t (cell_of k.mutex)) (v % 2 ^ 32)) (begins_behind t (TimedLock (cell_of k.mutex)) ++ Step t ∷ Step t ∷ []) (Row.Asleep (later k))
      else makes (Access.Wait (cell_in z.layout t (cell_of k.mutex)) (v % 2 ^ 32)) (begins_behind t (TimedLock (cell_of k.mutex))) (Row.Asleep (later k))
      )
  asleep_through k v may sees o y a = by_test (λ (n : Made). StandsAs n.next ((run z n.events).threads t).stage) (word k.mutex % 2 ^ 32 == v % 2 ^ 32)
      (makes (Access.Wait (cell_in z.layout t (cell_of k.mutex)) (v % 2 ^ 32)) (begins_behind t (TimedLock (cell_of k.mutex)) ++ Step t ∷ Step t ∷ []) (Row.Asleep (later k))) (makes (Access.Wait (cell_in z.layout t (cell_of k.mutex)) (v % 2 ^ 32)) (begins_behind t (TimedLock (cell_of k.mutex))) (Row.Asleep (later k)))
      (λ e. led (begins_behind t (TimedLock (cell_of k.mutex)) ++ Step t ∷ Step t ∷ []) _ _ _ (Row.Asleep (later k)) (sleeping.falls x t c at k v may sees o y a e) (at_cell k.mutex))
      (λ e. led (begins_behind t (TimedLock (cell_of k.mutex))) _ _ _ (Row.Asleep (later k)) (sleeping.begun x t c at k v may o y a) (at_cell k.mutex))

  sleeps_on : (k : Taking) (v : ℕ) (how : How) → k.how ≡ how → MayTake x t k.mutex → SeesAnother t v → IsToSleep k how v g → IsAbout z.layout k.mutex g → StandsAs (on_cell x t c k how v (word k.mutex)).next ((run z (on_cell x t c k how v (word k.mutex)).events).threads t).stage
  sleeps_on k v Tried same may sees there about = asleep_through k v may sees _ _ (behind_tried x t c at k.mutex there)
  sleeps_on k v Later same may sees there about = asleep_through k v may sees _ _ (behind_later x t c at k.mutex there)
  sleeps_on k v (Waited y) same may sees (d, low, (o, p, is, of, acts, phase)) about = go (z.words (cell_place z.layout (cell_of k.mutex)) % 2 ^ 32 == low_of d) refl
    where
      a : IsAt z t (OnCondition o) (cell_of k.mutex) (AtCell (Lock (lock.Sleep d)))
      a = is_at z t (OnCondition o) p (cell_of k.mutex) (AtCell (Lock (lock.Sleep d))) inv at.first at.last is phase (subst (IsAbout z.layout k.mutex) is about)

      l : Leads z t [] z.words z.queues (on (Calling (OnCondition o) (call_at z.layout t operation.Lock (cell_of k.mutex) (AtCell (Lock (lock.Sleep d))))) h)
      l = stays z t (Calling (OnCondition o) (call_at z.layout t operation.Lock (cell_of k.mutex) (AtCell (Lock (lock.Sleep d))))) inv a.there

      ended : StandsAs (Row.Asleep k) (Calling (OnCondition o) (call_at z.layout t operation.Lock (cell_of k.mutex) (AtCell (load_of true))))
      ended = subst (λ (i : How). IsToLook k i (Calling (OnCondition o) (call_at z.layout t operation.Lock (cell_of k.mutex) (AtCell (load_of true))))) (sym same) (o, _, refl, of, acts, refl)

      go : (b : Bool) → (z.words (cell_place z.layout (cell_of k.mutex)) % 2 ^ 32 == low_of d) ≡ b → StandsAs (Row.Asleep k) ((run z (Step t ∷ [])).threads t).stage
      go true e = led (Step t ∷ []) _ _ _ (Row.Asleep k) (sleeps_more z t at.first at.last inv.layout [] z.words z.queues h (cell_of k.mutex) (OnCondition o) operation.Lock at.out may.inside d l e) ended
      go false e = led (Step t ∷ []) _ _ _ (Row.Asleep k) (wakes_more z t at.first at.last inv.layout [] z.words z.queues h (cell_of k.mutex) (OnCondition o) operation.Lock at.out may.inside d l e) ended

  -- a wake of all, after which the call has only to clear what it had pending
  wakes_to : (o : Op) (m : ℕ) (f : Phase) (y : Reply) → IsAt z t o m f → phase_access (call_at z.layout t (op_of o) m f) f ≡ Access.Wake (cell_in z.layout t m) most_threads → ((n : ℕ) → phase_led (call_at z.layout t (op_of o) m f) f (Count n) ≡ onward (Clearing y))
      → Leads z t (Step t ∷ []) z.words (put z.queues (cell_place z.layout m) (drop most_threads (z.queues (cell_place z.layout m)))) (on (Calling o (call_at z.layout t (op_of o) m (Clearing y))) h)
  wakes_to o m f y a access leads = steps_more z t [] z.words z.queues o (call_at z.layout t (op_of o) m f) h at.first at.last (stays z t (Calling o (call_at z.layout t (op_of o) m f)) inv a.there) at.out (Access.Wake (cell_in z.layout t m) most_threads) (cell_place z.layout m) z.words (put z.queues (cell_place z.layout m) (drop most_threads (z.queues (cell_place z.layout m)))) (onward (Clearing y)) (on (Calling o (call_at z.layout t (op_of o) m (Clearing y))) h)
      access (cell_again z.layout t inv.layout at.first at.last m a.inside) tt (put_back z.words (cell_place z.layout m)) refl (leads (length (take most_threads (z.queues (cell_place z.layout m))))) refl (unmoved (op_of o) h) (all_still z z.words)

  woken_clears : (i : ℕ) (o : Op) (m : ℕ) (f : Phase) (y : Reply) (r : Reply) → r ≡ y → IsAt z t o m f → phase_access (call_at z.layout t (op_of o) m f) f ≡ Access.Wake (cell_in z.layout t m) most_threads → ((n : ℕ) → phase_led (call_at z.layout t (op_of o) m f) f (Count n) ≡ onward (Clearing y)) → StandsAs (Row.Clears i r) ((run z (Step t ∷ [])).threads t).stage
  woken_clears i o m f y r same a access leads = led (Step t ∷ []) _ _ _ (Row.Clears i r) (wakes_to o m f y a access leads) (o, call_at z.layout t (op_of o) m (Clearing y), y, refl, refl, RepliesAs.Same (sym same))

  lead_row : (r : Row) → StandsAs r g → IsAboutIt z.layout r g → Assumes x t r → AssumesToo x t r → LeadsOn x t c r
  lead_row Row.Rests there about a leading = there
  lead_row (Row.Pends k v) there about a tried = pends_so k v k.how refl tried there a
  lead_row (Row.Sees k) there about may leading = reached (seen_events t k.mutex k.how (word k.mutex)) (seen_row t k (word k.mutex)) (sees_so k k.how refl may there about)
  lead_row (Row.Takes k v) there about (may, to) leading = takes_so k v may to there about
  lead_row (Row.HeirTakes k v) there about (may, to) leading = heir_takes_so k v may to there
  lead_row (Row.Marks k v ToSleep) there about (may, to) leading = marks_so k v ToSleep tt may to there about
  lead_row (Row.Marks k v (ToSlot sl)) there about (may, to) leading = marks_so k v (ToSlot sl) leading may to there about
  lead_row (Row.SleepsOn k v) there about (may, sees) leading = sleeps_on k v k.how refl may sees there about
  lead_row (Row.WakesAll m r) (inl (inl (p, is, phase), same)) about a leading = woken_clears m (OnMutex (TryLock (cell_of m))) (cell_of m) (AtCell (Lock lock.WakeAll)) ENOTRECOVERABLE r same (is_at z t (OnMutex (TryLock (cell_of m))) p (cell_of m) (AtCell (Lock lock.WakeAll)) inv at.first at.last is phase refl) refl (λ n. refl)
  lead_row (Row.WakesAll m r) (inl (inr (inl (p, is, phase)), same)) about a leading = woken_clears m (OnMutex (TimedLock (cell_of m))) (cell_of m) (AtCell (Lock lock.WakeAll)) ENOTRECOVERABLE r same (is_at z t (OnMutex (TimedLock (cell_of m))) p (cell_of m) (AtCell (Lock lock.WakeAll)) inv at.first at.last is phase refl) refl (λ n. refl)
  lead_row (Row.WakesAll m r) (inl (inr (inr (k, (o, p, is, of, acts, phase))), same)) about a leading = woken_clears m (OnCondition o) (cell_of m) (AtCell (Lock lock.WakeAll)) ENOTRECOVERABLE r same (is_at z t (OnCondition o) p (cell_of m) (AtCell (Lock lock.WakeAll)) inv at.first at.last is phase (subst (IsAbout z.layout m) is about)) refl (λ n. refl)
  lead_row (Row.WakesAll m r) (inr ((p, is, phase), same)) about a leading = woken_clears m (OnMutex (Unlock (cell_of m))) (cell_of m) (AtCell (mutex_row.Unlock (unlock.Wake true))) OK r same (is_at z t (OnMutex (Unlock (cell_of m))) p (cell_of m) (AtCell (mutex_row.Unlock (unlock.Wake true))) inv at.first at.last is phase refl) refl (λ n. refl)
  lead_row (Row.HeirWakes k) (p, is, phase) about a leading = led (Step t ∷ []) _ _ _ (Row.Frees k (Fails ENOTRECOVERABLE))
      (wakes_to (OnMutex (TimedLock (cell_of k.mutex))) (cell_of k.mutex) (AtCell (Lock lock.WakeAll)) ENOTRECOVERABLE (is_at z t (OnMutex (TimedLock (cell_of k.mutex))) p (cell_of k.mutex) (AtCell (Lock lock.WakeAll)) inv at.first at.last is phase refl) refl (λ n. refl))
      (call_at z.layout t operation.Lock (cell_of k.mutex) (Clearing ENOTRECOVERABLE), refl, refl)
  lead_row (Row.SlotTakes k sl) there about a leading = slot_takes_so k sl a there
  lead_row (Row.TryTakes m v) there about (may, to) leading = try_takes_so m v may to there
  lead_row (Row.SeesAgain k v) there about (may, to) leading = reached (again_events t k.mutex k.how v ++ seen_events t k.mutex k.how (word k.mutex)) (seen_row t k (word k.mutex)) (sees_again k v k.how refl may (fields_of v).waiters refl there to)
  lead_row (Row.SeesToSleep k) there about may (same, apart) = reached (seen_events t k.mutex k.how (word k.mutex)) (seen_to_sleep k (word k.mutex))
      (subst (λ (i : How). Reaches z t (seen_events t k.mutex i (word k.mutex)) (seen_to_sleep k (word k.mutex))) (sym same)
      (reach_to_sleep z t k (word k.mutex) inv at.first at.last at.out may.room (cell_says x k.mutex may.inside) (at_load_later x t c at k.mutex (subst (λ (i : How). IsToLook k i g) same there)) same
      (not_equal (fields_of (word k.mutex)).owner t (λ e. apart (sym (cell_says x k.mutex may.inside).owner ∙ e)))))
  lead_row (Row.LastLooks k) there about (may, apart) leading = last_looks k may apart there
  lead_row (Row.Clears m r) (o, p, y, is, phase, same) about a leading = led (Step t ∷ []) _ z.queues _ Row.Rests (clears o p y is phase) refl
  lead_row (Row.Chooses k v) there about a leading = chosen_so k v 0 there
  lead_row (Row.Asleep k) there about a leading = there
  lead_row (Row.Late k) there about a leading = there
  lead_row (Row.LateSees k) (p, is, phase) about a leading = (OnMutex (TimedLock (cell_of k.mutex)), p, ETIMEDOUT, is, phase, RepliesAs.Same refl)
  lead_row (Row.SlotPends k sl) there about (inside, room) leading = through_slot k sl k.how inside room there
  lead_row (Row.SlotLeft k) (inl (p, is, phase)) about a leading = led (begins_behind t (TimedLock (cell_of k.mutex))) _ z.queues _ (Row.SeesToSleep (later k)) (behind (cell_of k.mutex) true _ _ _ (clearing_at _ p _ is phase) a.inside a.room) (at_cell k.mutex)
  lead_row (Row.SlotLeft k) (inr (p, is, phase)) about a leading = led (begins_behind t (TimedLock (cell_of k.mutex))) _ z.queues _ (Row.SeesToSleep (later k)) (behind (cell_of k.mutex) true _ _ _ (clearing_at _ p _ is phase) a.inside a.room) (at_cell k.mutex)
  lead_row (Row.SlotClears k) (p, is, phase) about a leading = led (Step t ∷ []) _ z.queues _ (Row.SlotQuiets k) (clears _ p _ is phase) refl
  lead_row (Row.SlotQuiets k) there about a leading = there
  lead_row (Row.SlotMends k) is about a leading = led (made x t c (Row.SlotMends k)).events _ z.queues _ (Row.HeirPends k Mended) (mending.declared x t c at (slot_of k.mutex) is a) refl
  lead_row (Row.HeirPends k Linked) (p, is, phase) about a leading = led (begins_behind t (TimedLock (cell_of k.mutex))) _ z.queues _ (Row.HeirSets k) (behind (cell_of k.mutex) true _ _ _ (clearing_at _ p _ is phase) a.inside a.room) (at_cell k.mutex)
  lead_row (Row.HeirPends k Mended) is about a leading = led (begins t (TimedLock (cell_of k.mutex))) _ z.queues _ (Row.HeirSets k) (begun (cell_of k.mutex) true is a.inside a.room) (at_cell k.mutex)
  lead_row (Row.HeirPends k Again) there about a leading = there
  lead_row (Row.HeirSets k) there about a leading = there
  lead_row (Row.HeirLooks k) there about a leading = looked_so k (shown x (cell_place z.layout (cell_of k.mutex))) ((fields_of (shown x (cell_place z.layout (cell_of k.mutex)))).unusable || (is_free (shown x (cell_place z.layout (cell_of k.mutex))) && c.yes)) c.again there
  lead_row (Row.HeirPendsOn k v over) there about a leading = watched_so k v over (is_free v) (not (fields_of v).unusable) (not (k.timed && c.yes)) there
  lead_row (Row.HeirHas k r) there about a leading = there
  lead_row (Row.GivesUp k) there about a leading = there
  lead_row (Row.LastMarks k v) there about (may, to) leading = last_marks k v there may to
  lead_row (Row.TryPends m v) is about a leading = led (begins t (TryLock (cell_of m))) _ z.queues _ (Row.TryTakes m v) (begun (cell_of m) false is a.inside a.room) (tried_at m)
  lead_row (Row.GiveFinds m y) there about a leading = either c.again (Row.GiveFinds m y) (Row.Gives m y) g there there
  lead_row (Row.Mends m) is about a leading = led (made x t c (Row.Mends m)).events _ z.queues _ Row.Rests (mending.declared x t c at (cell_of m) is a) refl
  lead_row (Row.AnewLooks m) is about a leading = either (fields_of (shown x (cell_place z.layout (cell_of m)))).unusable (Row.Anews m (shown x (cell_place z.layout (cell_of m)))) Row.Rests g is is
  lead_row (Row.WaitSets m k n timed) there about a leading = either c.yes (Row.GiveFinds m (OfWait k n true timed)) (Row.Gives m (OfWait k n true timed)) g there there
  lead_row (Row.WaitAsleep m k n timed) there about a leading = there.0
  lead_row (Row.WaitLate m k n) there about a leading = (there, λ e. absurd cc)
  lead_row (Row.CountLoads m k all) there about a leading = there
  lead_row (Row.AllMarks m k n) (seen, same, (p, is, phase)) about a leading = led (Step t ∷ []) _ z.queues _ (Row.AllMoves m k n)
      (marking.sets x t c at m k n seen (is_at_word z t (cond_call.Broadcast k) p (CondPhase.AtWords (cond_row.Broadcast (broadcast.SetWaiters seen))) inv at.first at.last is phase) (subst (IsAbout z.layout m) is about))
      (seen, same, (_, refl, refl))
  lead_row (Row.Unsets m k n) there about a leading = there
  lead_row (Row.Frees k f) there about owns alive = let a = freeing_at x t c at k.mutex f there in frees_lead x t c at k.mutex (cell_of k.mutex) a.0 owns alive a.1
  lead_row (Row.GivePends m (OfUnlock d)) is about owns says = gives_lead x t c at m d is owns says
  lead_row (Row.WakesOne m (OfUnlock d) is) there about a leading = wakes_one_lead x t c at m is d there
  lead_row (Row.WakesOne m (OfWait k n slept timed) is) there about a leading = wait_wakes_lead x t c at m k n is slept timed there
  lead_row (Row.FreeGives k f) there about owns alone = frees_slot x t c at k f there alone
  lead_row (Row.Gives m (OfUnlock d)) there about owns leading = gives_cell x t c at m d there
  lead_row (Row.Trims m is) there about a leading = trims_lead x t c at m is there
  lead_row (Row.AllMoves m k n) (seen, same, there) about a leading = moves_lead x t c at m k n seen there
  lead_row (Row.Looks k) is about (inside, room) leading = looks_lead x t c at k is inside room
  lead_row (Row.TryLooks m) is about (inside, room) leading = try_looks_lead x t c at m is inside room
  lead_row (Row.GiveLooks m) is about inside leading = give_looks_lead x t c at m is inside
  lead_row (Row.MendLooks m) is about inside leading = mend_looks_lead x t c at m is inside
  lead_row (Row.WaitLooks m k timed) is about a (of, inside) = wait_looks_lead x t c at m k timed is of inside
  lead_row (Row.WaitCounts m k timed false) is about a leading = is
  lead_row (Row.WaitCounts m k timed true) is about a (of, owns, died) = wait_counts_lead x t c at m k timed is of owns died
  lead_row (Row.CountLooks m k all) is about a (of, inside) = count_looks_lead x t c at m k all is of inside
  lead_row (Row.GivePends m (OfWait k n slept timed)) is about (of, owns, well) says = wait_pends_lead x t c at m k n slept timed is of owns well says
  lead_row (Row.Links m r) (u, inl (p, is, phase)) about a leading = along_leads x t at (OnMutex (TryLock (cell_of m))) p u r is phase (Row.Links m r) (Row.Clears m r) (λ l. (l, inl (record p { phase = Linking l r }, refl, refl))) (OnMutex (TryLock (cell_of m)), record p { phase = Clearing r }, r, refl, refl, RepliesAs.Same refl)
  lead_row (Row.Links m r) (u, inr (inl (p, is, phase))) about a leading = along_leads x t at (OnMutex (TimedLock (cell_of m))) p u r is phase (Row.Links m r) (Row.Clears m r) (λ l. (l, inr (inl (record p { phase = Linking l r }, refl, refl)))) (OnMutex (TimedLock (cell_of m)), record p { phase = Clearing r }, r, refl, refl, RepliesAs.Same refl)
  lead_row (Row.Links m r) (u, inr (inr (k, (o, p, is, of, acts, phase)))) about a leading = along_leads x t at (OnCondition o) p u r is phase (Row.Links m r) (Row.Clears m r) (λ l. (l, inr (inr (k, (o, record p { phase = Linking l r }, refl, of, acts, refl))))) (OnCondition o, record p { phase = Clearing r }, r, refl, refl, RepliesAs.Same refl)
  lead_row (Row.SlotLinks k true) (u, (p, is, phase)) about a leading = along_leads x t at (OnMutex (TryLock (slot_of k.mutex))) p u EOWNERDEAD is phase (Row.SlotLinks k true) (Row.SlotClears k) (λ l. (l, (record p { phase = Linking l EOWNERDEAD }, refl, refl))) (record p { phase = Clearing EOWNERDEAD }, refl, refl)
  lead_row (Row.SlotLinks k false) (u, (p, is, phase)) about a leading = along_leads x t at (OnMutex (TryLock (slot_of k.mutex))) p u OK is phase (Row.SlotLinks k false) (Row.HeirPends k Linked) (λ l. (l, (record p { phase = Linking l OK }, refl, refl))) (record p { phase = Clearing OK }, refl, refl)
  lead_row (Row.HeirLinks k r) (u, (p, is, phase)) about a leading = along_leads x t at (OnMutex (TimedLock (cell_of k.mutex))) p u r is phase (Row.HeirLinks k r) (Row.Frees k (Has r)) (λ l. (l, (record p { phase = Linking l r }, refl, refl))) (record p { phase = Clearing r }, refl, refl)
  lead_row (Row.FreeUnlinks k f) (u, (p, is, phase)) about a leading = off_leads x t at (OnMutex (Unlock (slot_of k.mutex))) p u false is phase (Row.FreeUnlinks k f) (Row.FreeGives k f) (λ l. (l, (record p { phase = Unlinking l false }, refl, refl))) (record p { phase = AtCell (mutex_row.Unlock (unlock.Release false)) }, refl, refl)
  lead_row (Row.GiveUnlinks m (OfUnlock d)) (u, (p, is, phase)) about a leading = off_leads x t at (OnMutex (Unlock (cell_of m))) p u d is phase (Row.GiveUnlinks m (OfUnlock d)) (if c.yes then Row.GiveFinds m (OfUnlock d) else Row.Gives m (OfUnlock d)) (λ l. (l, (record p { phase = Unlinking l d }, refl, refl)))
      (either c.yes (Row.GiveFinds m (OfUnlock d)) (Row.Gives m (OfUnlock d)) _ (record p { phase = AtCell (mutex_row.Unlock (unlock.Release d)) }, refl, refl) (record p { phase = AtCell (mutex_row.Unlock (unlock.Release d)) }, refl, refl))
  lead_row (Row.GiveUnlinks m (OfWait k n slept timed)) (p, u, is, phase) about a leading = wait_unlinks_lead x t c at m k n slept timed p u is phase
  lead_row (Row.Gives m (OfWait k n slept timed)) there about owns leading = gives_wait x t c at m k n slept timed there about
  lead_row (Row.HandsOn m y is) there about a left = hands_lead x t c at m y is there about left
  lead_row (Row.LooksBack m y is) there about a inside = looks_back_lead x t c at m y is there about inside
  lead_row (Row.Anews m v) is about to leading = anews_so x t c at m v is to
  lead_row (Row.WaitSleeps m k n timed) there about a leading = wait_sleeps_lead x t c at m k n timed there
  lead_row (Row.Counts m k all n) is about may leading = counts_lead x t c at m k n all may is
  lead_row (Row.CountWakes m k n) there about a leading = count_wakes_lead x t c at m k n there

pub rows_lead : RowsLeadOn
rows_lead x t c at assumes leading = lead_row x t c at (x.rows t) at.there at.about assumes leading
