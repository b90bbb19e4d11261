-- Nothing is ever above UNUSABLE in the machine's words of mutexes, and an unusable mutex has no OWNER_DIED.
use Rattle.std.proofs.Common.{◌≡◌, ◌≢◌, inl, inr, ℕ, ◌<◌, ◌≤◌, ◌==◌, Bool, true, false, Option, Some, None, Ok, Err, List, [], ◌∷◌, refl, sym, ap, ◌∙◌, subst, arith, eqb-true}
use Rattle.std.specs.Prelude.{if◌then◌else◌}
use Rattle.std.proofs.lemmas.Bool.Decides.{nat_tests}
use Rattle.lockword.specs.Cells.{Fields, bit, fields_of, marked, waiters_alone}
use Rattle.lockword.specs.Coding.{fields_of-word_of}
use Rattle.lockword.proofs.Bits.{or_waiting, xor_released}
use Rattle.lockword.specs.Threads.{most_threads}
use Rattle.lockword.specs.declared.reply.Reply.{Reply}
use Rattle.lockword.specs.declared.reply.Reply.TheVariants.{XHELD}
use Rattle.stepprograms.specs.Accesses.{address_of, is_trimmed, word_among}
use Rattle.posixmutex.specs.declared.object.Object.{Object}
use Rattle.posixmutex.specs.declared.point.Operation.{Operation}
use Rattle.posixmutex.specs.Objects.{Permits, object_of}
use Rattle.memorymap.specs.Chains.{address_sum}
use Rattle.memorymap.specs.Layouts.{Layout', cell_place, counter_place, first_word, place_in}
use Rattle.robustlist.specs.Standings.{LinkStanding, UnlinkStanding}
use Rattle.robustlist.specs.Words.{IsOn}
use Rattle.robustlist.specs.Link.{link_access}
use Rattle.robustlist.proofs.Links as links
use Rattle.exitwalk.specs.declared.row.Row as walk_row
use Rattle.exitwalk.specs.Standings as walks
use Rattle.exitwalk.specs.Walks as exit
use Rattle.mutex.specs.declared.row.Row.{Row}
use Rattle.mutex.specs.declared.row.Row.TheVariants as row
use Rattle.mutex.specs.declared.lock.LockRow.{LockRow}
use Rattle.mutex.specs.declared.try_lock.TryLockRow.{TryLockRow}
use Rattle.mutex.specs.declared.unlock.UnlockRow.{UnlockRow}
use Rattle.mutex.specs.declared.consistent.ConsistentRow.{ConsistentRow}
use Rattle.mutex.specs.declared.phase.Phase.{Phase}
use Rattle.mutex.specs.Laws.{Expects, Sound}
use Rattle.mutex.specs.Programs.{row_access}
use Rattle.mutex.specs.Rows.{IsGoing, Knows}
use Rattle.mutex.specs.Standings.{Whole}
use Rattle.mutex.specs.Whole.{whole_access, whole_led}
use Rattle.mutex.proofs.Addresses.{head_word_again}
use Rattle.mutex.proofs.Steps.{minds}
use Rattle.condvar.specs.Calls.{condition_of}
use Rattle.condvar.specs.Laws.{is_at_counter}
use Rattle.condvar.specs.Ops.{mutex_of}
use Rattle.condvar.specs.Programs as cond_programs
use Rattle.condvar.specs.Standings.{CondWhole}
use Rattle.condvar.specs.Whole.{cond_access, cond_led}
use Rattle.condvar.specs.declared.call.CondCall.{CondCall}
use Rattle.condvar.specs.declared.row.CondRow.{CondRow}
use Rattle.condvar.specs.declared.wait.WaitRow.{WaitRow}
use Rattle.condvar.specs.declared.signal.SignalRow.{SignalRow}
use Rattle.condvar.specs.declared.broadcast.BroadcastRow.{BroadcastRow}
use Rattle.condvar.specs.declared.phase.CondPhase.{CondPhase}
use Rattle.condvar.specs.declared.op.Op.{Op}
use Rattle.facts.specs.declared.fact.Queue.TheVariants.{Mutex, Condition}
use Rattle.protocol.specs.declared.event.Event.{Event}
use Rattle.protocol.specs.declared.thread.Stage.{Stage}
use Rattle.protocol.specs.declared.thread.Stage.TheVariants.{Calling, AtCondition, Dying}
use Rattle.protocol.specs.Headline.{seen}
use Rattle.protocol.specs.Machine.{State, After, begun, happens, led, led_at, place_met, reinited, run, start, stepped, waiters_of, walked}
use Rattle.protocol.proofs.Accesses.{fits_in, goes}
use Rattle.protocol.proofs.CallSteps.{call_stepping}
use Rattle.protocol.proofs.CellSteps as cell
use Rattle.protocol.proofs.CondAccesses.{by_access, cond_stepping}
use Rattle.protocol.proofs.CondSteps.{at_either, cond_of}
use Rattle.protocol.proofs.Events.{begins_at, by_event, by_stage}
use Rattle.protocol.proofs.Frames.{knows_at}
use Rattle.protocol.proofs.Kept.{Fits, FitsAt, Kept, Listed, Needs, Serves, last_thread}
use Rattle.protocol.proofs.Leaving as leaving
use Rattle.protocol.proofs.Places.{IsMine, Links, links_mine, mine_is_no_cell, more_links}
use Rattle.protocol.proofs.Puts.{by_put, put-other}
use Rattle.protocol.proofs.Reinits.{reinited_far, reinited_seen, waiters_say_nothing}
use Rattle.protocol.proofs.Renewals.{renewed_cell, renewed_seen}
use Rattle.protocol.proofs.Runs.{seen-start, sound, start_kept}
use Rattle.protocol.proofs.Seeing.{head_in, words_in}
use Rattle.protocol.proofs.Stepping.{Stepping}
use Rattle.protocol.proofs.Steps.{Tells, Transition, after, call_step, cell_at, counter_at, cond_step, its_mutex, met_no_move, seen-inside, went-is}
use Rattle.protocol.proofs.WalkSteps.{walk_access, walk_no_move, walk_step, walked-is}
use Rattle.protocol.proofs.Working.{by_step, walk_is}
use Rattle.slots.specs.Invariant.{fields_at, HasRoom}
use Rattle.slots.specs.Premises.{WordsAreSound, WordsStaySound}
use Rattle.slots.proofs.Owned.{or_else}

abbrev Rest : ℕ → Type 0
Rest w = (fields_of w).rest ≡ 0

abbrev Roomy : State → Type 0
Roomy s = (k : ℕ) → k < s.layout.mutexes → HasRoom s k

-- ---- one access

-- of a call at its mutex's cell
row_room : (t c w : ℕ) (q : List ℕ) (r : Row) → t ≤ most_threads → IsGoing r → Knows r → Expects t r (object_of (fields_of w)) → Rest w → Rest (word_among (row_access t c r) w q)
row_room t c w q (row.Lock LockRow.Load) last going knows expects room = room
row_room t c w q (row.Lock (LockRow.Take v)) last going knows expects room = (minds t c w (row.Lock (LockRow.Take v)) last going tt knows expects).rest room
row_room t c w q (row.Lock (LockRow.SetWaiters v)) last going knows expects room = (minds t c w (row.Lock (LockRow.SetWaiters v)) last going tt knows expects).rest room
row_room t c w q (row.Lock (LockRow.Sleep v)) last going knows expects room = room
row_room t c w q (row.Lock LockRow.WakeAll) last going knows expects room = room
row_room t c w q (row.TryLock TryLockRow.Load) last going knows expects room = room
row_room t c w q (row.TryLock (TryLockRow.Take v k)) last going knows expects room = (minds t c w (row.TryLock (TryLockRow.Take v k)) last going tt knows expects).rest room
row_room t c w q (row.Unlock UnlockRow.Load) last going knows expects room = room
row_room t c w q (row.Unlock (UnlockRow.Release d)) last going knows expects room = (minds t c w (row.Unlock (UnlockRow.Release d)) last going tt knows expects).rest room
row_room t c w q (row.Unlock (UnlockRow.Wake a)) last going knows expects room = room
row_room t c w q (row.Unlock UnlockRow.Trim) last going knows expects room = go (is_trimmed w q)
  where
    go : (b : Bool) → Rest (if b then 0 else w)
    go true = refl
    go false = room
row_room t c w q (row.Consistent ConsistentRow.Load) last going knows expects room = room
row_room t c w q (row.Consistent ConsistentRow.Declare) last going knows expects room = (minds t c w (row.Consistent ConsistentRow.Declare) last going tt knows expects).rest room
row_room t c w q (row.Ended x) last going knows expects room = absurd going

-- of a walk
walk_room : (h : ℕ) (r : walk_row.Row) (w : ℕ) (q : List ℕ) → Rest w → Rest (word_among (exit.row_access h r) w q)
walk_room h walk_row.Row.LoadFirst w q room = room
walk_room h (walk_row.Row.LoadOffset f) w q room = room
walk_room h (walk_row.Row.LoadPending f o) w q room = room
walk_room h (walk_row.Row.LoadNext r) w q room = room
walk_room h (walk_row.Row.LoadWord at part) w q room = room
walk_room h (walk_row.Row.Mark at v again part) w q room = go (w == v) refl
  where
    go : (b : Bool) → (w == v) ≡ b → Rest (if b then exit.marked_word v else w)
    go true e = ap (λ (c : Fields). c.rest) (fields_of-word_of (marked (fields_of v)) (omega arith)) ∙ ap (λ (u : ℕ). (fields_of u).rest) (sym (eqb-true w v e)) ∙ room
    go false e = room
walk_room h (walk_row.Row.WakeOne at part) w q room = room
walk_room h walk_row.Row.Ended w q room = room

-- of a call at the words of a condition variable, at its mutex's cell
cond_room : (t c n w : ℕ) (q : List ℕ) (r : CondRow) → is_at_counter r ≡ false → ((seen : ℕ) → r ≡ CondRow.Wait (WaitRow.Release seen) → (fields_of w).owner ≡ t) → Rest w → Rest (word_among (cond_programs.row_access t c n r) w q)
cond_room t c n w q (CondRow.Wait WaitRow.LoadCell) cell_there own room = room
cond_room t c n w q (CondRow.Wait (WaitRow.Release seen)) cell_there own room = ap (λ (f : Fields). f.rest) (xor_released w t (own seen refl)) ∙ room
cond_room t c n w q (CondRow.Wait (WaitRow.Wake seen)) cell_there own room = room
cond_room t c n w q (CondRow.Signal SignalRow.LoadCell) cell_there own room = room
cond_room t c n w q (CondRow.Broadcast BroadcastRow.LoadCell) cell_there own room = room
cond_room t c n w q (CondRow.Broadcast (BroadcastRow.SetWaiters seen)) cell_there own room = ap (λ (f : Fields). f.rest) (or_waiting w) ∙ room
cond_room t c n w q CondRow.Awake cell_there own room = room
cond_room t c n w q (CondRow.Ended x) cell_there own room = room
cond_room t c n w q r cell_there own room = absurd cc

module _ (s : State) (t : ℕ) (inv : Kept s) (pos : 1 ≤ t) (known : t ≤ s.layout.threads) (roomy : Roomy s) where
  -- at a place that is no cell
  elsewhere : (v : Transition) → ((k : ℕ) → k < s.layout.mutexes → place_met s.layout t v.access ≢ cell_place s.layout k) → Roomy (after s t v)
  elsewhere v apart k inside = subst Rest (sym (put-other s.words (place_met s.layout t v.access) (word_among v.access (s.words (place_met s.layout t v.access)) (s.queues (place_met s.layout t v.access))) (cell_place s.layout k) (λ e. apart k inside (sym e)))) (roomy k inside)

  own_room : (v : Transition) → IsMine s t (place_met s.layout t v.access) → Roomy (after s t v)
  own_room v mine = elsewhere v (λ k inside. mine_is_no_cell s t (place_met s.layout t v.access) k pos known inside mine)

  -- at a cell
  there_room : (v : Transition) (m : ℕ) → m < s.layout.mutexes → place_met s.layout t v.access ≡ cell_place s.layout m → (Rest (s.words (cell_place s.layout m)) → Rest (word_among v.access (s.words (cell_place s.layout m)) (s.queues (cell_place s.layout m)))) → Roomy (after s t v)
  there_room v m inside_m place keeps k inside = by_put Rest s.words (place_met s.layout t v.access) (word_among v.access (s.words (place_met s.layout t v.access)) (s.queues (place_met s.layout t v.access))) (cell_place s.layout k)
      (λ is. subst (λ (x : ℕ). Rest (word_among v.access (s.words x) (s.queues x))) (sym place) (keeps (roomy m inside_m)))
      (λ apart. roomy k inside)

  -- ---- a call on a mutex

  pending_mine : (h : ℕ) → h ≡ head_in s.layout t → IsMine s t (place_in s.layout t (address_sum h 2))
  pending_mine h is = inr (inl (ap (λ (a : ℕ). place_in s.layout t (address_sum a 2)) is ∙ head_word_again s.layout t inv.layout pos known 2 (omega arith)))

  call_room : (c : Op) (p : Whole) (f : Phase) → Fits s t (s.threads t).held (mutex_of s.layout c) (record p { phase = f }) → Serves s.layout c p → Listed s t (Calling c (record p { phase = f })) → Roomy (after s t (call_step s t c (record p { phase = f })))
  call_room c p (Phase.Announcing r) fits serves listed = own_room (call_step s t c (record p { phase = Phase.Announcing r })) (pending_mine p.head fits.head)
  call_room c p (Phase.Clearing x) fits serves listed = own_room (call_step s t c (record p { phase = Phase.Clearing x })) (pending_mine p.head fits.head)
  call_room c p (Phase.AtCell r) fits serves listed = there_room (call_step s t c (record p { phase = Phase.AtCell r })) (mutex_of s.layout c) fits.inside (cell.at_place s t c p r inv pos known fits serves)
      (row_room p.thread p.cell w (s.queues (cell_place s.layout (mutex_of s.layout c))) r (let is = fits.mine in let most = last_thread s t inv known in omega arith) fits.stands.going fits.stands.knows
      (subst (λ (z : Object). Expects p.thread r z) (seen-inside s (mutex_of s.layout c) fits.inside) (subst (λ (u : ℕ). Expects u r (seen s (mutex_of s.layout c))) (sym fits.mine) fits.stands.expects)))
    where
      w : ℕ
      w = s.words (cell_place s.layout (mutex_of s.layout c))
  call_room c p (Phase.Linking l x) fits serves (es, owned, ch) = subst (λ (z : LinkStanding). Roomy (after s t (call_step s t c (record p { phase = Phase.Linking z x })))) (sym same)
      (own_room (call_step s t c (record p { phase = Phase.Linking (record { head = head_in s.layout t; entry = p.entry; row = l.row }) x })) (links_mine s t (address_of (link_access (head_in s.layout t) p.entry l.row)) (each (address_of (link_access (head_in s.layout t) p.entry l.row)) (links.near (head_in s.layout t) p.entry es l.row (words_in s.layout t s.words) ch))))
    where
      same : l ≡ record { head = head_in s.layout t; entry = p.entry; row = l.row }
      same = λ i. record { head = (fits.stands.0 ∙ fits.head) i; entry = fits.stands.1 i; row = l.row }

      each : (y : ℕ) → IsOn (head_in s.layout t) (p.entry ∷ es) y → Links s t y
      each y on = more_links s t inv.layout pos known (mutex_of s.layout c) (Some (mutex_of s.layout c)) p.entry es y owned fits.inside fits.entry fits.stands.3 on
  call_room c p (Phase.Unlinking u d) fits serves (es, owned, ch) = subst (λ (z : UnlinkStanding). Roomy (after s t (call_step s t c (record p { phase = Phase.Unlinking z d })))) (sym same)
      (own_room (call_step s t c (record p { phase = Phase.Unlinking (record { head = head_in s.layout t; entry = p.entry; row = u.row }) d })) (leaving.mine s t (s.threads t) inv pos known (mutex_of s.layout c) fits.inside p.entry fits.entry u.row fits.stands.2 es owned ch))
    where
      same : u ≡ record { head = head_in s.layout t; entry = p.entry; row = u.row }
      same = λ i. record { head = (fits.stands.0 ∙ fits.head) i; entry = fits.stands.1 i; row = u.row }
  call_room c p (Phase.Ended x) fits serves listed = absurd fits.stands

  calls_room : (c : Op) (p : Whole) → (s.threads t).stage ≡ Calling c p → Roomy (after s t (call_step s t c p))
  calls_room c p is = let fits = fits_in s t c p inv pos known is in call_room c p p.phase fits.0 fits.1 (subst (λ (g : Stage). Listed s t g) is (inv.listed t pos known))

  -- ---- a call on a condition variable

  row_there : (c : CondCall) (r : CondRow) → FitsAt s t (s.threads t).held c (cond_of s.layout t c (CondPhase.AtWords r)) → Roomy (after s t (cond_step s t c (cond_of s.layout t c (CondPhase.AtWords r))))
  row_there c r fits = go (is_at_counter r) refl
    where
      v : Transition
      v = cond_step s t c (cond_of s.layout t c (CondPhase.AtWords r))

      either : place_met s.layout t (cond_access (cond_of s.layout t c (CondPhase.AtWords r))) ≡ (if is_at_counter r then counter_place s.layout (condition_of c) else cell_place s.layout (its_mutex s c))
      either = at_either s t c r inv pos known fits

      owns : (x : ℕ) → r ≡ CondRow.Wait (WaitRow.Release x) → (fields_of (s.words (cell_place s.layout (its_mutex s c)))).owner ≡ t
      owns x is = (subst (λ (z : CondRow). Needs t z (fields_of (s.words (cell_place s.layout (its_mutex s c))))) is fits.stands.needs).0

      go : (b : Bool) → is_at_counter r ≡ b → Roomy (after s t (cond_step s t c (cond_of s.layout t c (CondPhase.AtWords r))))
      go true e = elsewhere v (λ k inside same. (let off : counter_place s.layout (condition_of c) ≡ cell_place s.layout k = sym (either ∙ ap (λ (b : Bool). if b then counter_place s.layout (condition_of c) else cell_place s.layout (its_mutex s c)) e) ∙ same in omega (arith, off, inside)))
      go false e = there_room v (its_mutex s c) fits.inside (either ∙ ap (λ (b : Bool). if b then counter_place s.layout (condition_of c) else cell_place s.layout (its_mutex s c)) e)
          (cond_room t (cell_at s t c) (counter_at s t c) (s.words (cell_place s.layout (its_mutex s c))) (s.queues (cell_place s.layout (its_mutex s c))) r e owns)

  conds_room : (c : CondCall) (p : CondWhole) → (s.threads t).stage ≡ AtCondition c p → Roomy (after s t (cond_step s t c p))
  conds_room c p is = by_access s t c inv pos known (λ (q : CondWhole). Roomy (after s t (cond_step s t c q))) (λ r fits step. row_there c r fits) (λ x q near. own_room (cond_step s t c q) near.mine) p is

  -- ---- a walk

  abbrev RoomyThen : After → Type 0
  RoomyThen a = Roomy a.state

  walks_room : (w : walks.Standing) → (s.threads t).stage ≡ Dying w → RoomyThen (walked s t (s.threads t).held w)
  walks_room w is =
      let there = walk_is s t w inv pos known is in
      let g = walk_step s t inv pos known w.row there.0.going (knows_at s.layout t w there.0) there.2 in
      subst (λ (z : walks.Standing). RoomyThen (walked s t (s.threads t).held z)) there.1
      (subst RoomyThen (sym (walked-is s t w.row (met_no_move s.layout t (walk_access s t w.row) (walk_no_move (head_in s.layout t) w.row) ∙ g.valid)))
      (λ k inside. by_put Rest s.words (place_met s.layout t (walk_access s t w.row)) (word_among (walk_access s t w.row) (s.words (place_met s.layout t (walk_access s t w.row))) (s.queues (place_met s.layout t (walk_access s t w.row)))) (cell_place s.layout k)
      (λ at. walk_room (head_in s.layout t) w.row (s.words (place_met s.layout t (walk_access s t w.row))) (s.queues (place_met s.layout t (walk_access s t w.row))) (subst (λ (x : ℕ). Rest (s.words x)) at (roomy k inside)))
      (λ apart. roomy k inside)))

  steps_room : RoomyThen (stepped s t (s.threads t).held (s.threads t).stage)
  steps_room = by_stage s t RoomyThen (λ rests. roomy)
      (λ c p is awake. subst RoomyThen
      (sym (went-is s t (mutex_of s.layout c) (Mutex (mutex_of s.layout c)) (Calling c p) (whole_access p) (λ a. led c p (whole_led p a)) (call_stepping s t c p (goes s t c p inv pos known is) (fits_in s t c p inv pos known is).0).valid))
      (calls_room c p is))
      (λ c p is awake. subst RoomyThen
      (sym (went-is s t (its_mutex s c) (Condition (condition_of c)) (AtCondition c p) (cond_access p) (λ a. led_at c p (cond_led p a)) (cond_stepping s t c p inv pos known is).valid))
      (conds_room c p is))
      (λ w is awake. walks_room w is)

-- ---- one event

events_room : (s : State) (e : Event) → Kept s → Roomy s → Roomy (happens s e).state
events_room s e inv roomy =
    by_event s (λ (x : Event) (a : After). Roomy a.state)
    (λ x. roomy)
    (λ t o pos known named idle b full. begins_so t o b)
    (λ t pos known. steps_room s t inv pos known roomy)
    (λ t pos known alive. roomy)
    (λ t pos known asleep. roomy)
    (λ t k p pos known is asleep may. roomy)
    (λ t k x p pos known is stands. roomy)
    (λ t o p pos known is awake trims. roomy)
    (λ t pos known gone k inside. subst Rest (sym (renewed_cell s t pos known k)) (roomy k inside))
    (λ t m may k inside. by_put Rest s.words (cell_place s.layout m) (waiters_of (s.words (cell_place s.layout m))) (cell_place s.layout k) (λ is. only_waiters (fields_of (s.words (cell_place s.layout m))).waiters) (λ apart. roomy k inside))
    (λ t k g sp. roomy)
    e
  where
    begins_so : (t : ℕ) (o : Op) (b : Bool) → Roomy (begun s t o (if b then Err XHELD else Ok (begins_at s.layout t o))).state
    begins_so t o true = roomy
    begins_so t o false = roomy

    only_waiters : (b : Bool) → Rest (bit b waiters_alone)
    only_waiters true = refl
    only_waiters false = refl

-- ---- OWNER_DIED

-- an unusable mutex isn't marked
abbrev Cleared : Object → Type 0
Cleared o = o.unusable ≡ true → o.inconsistent ≡ false

permits_cleared : (o n : Object) (t : ℕ) (op : Operation) (x : Reply) → Sound o → Permits o t op x n → Cleared o → Cleared n
permits_cleared o n t op x plain p was = grind (arith)

abbrev AllCleared : State → Type 0
AllCleared s = (k : ℕ) → Cleared (seen s k)

access_cleared : (s : State) (t : ℕ) (v : Transition) → Kept s → Stepping s t v → AllCleared s → AllCleared (after s t v)
access_cleared s t v inv g was k = or_else (λ (i : ℕ). Cleared (seen (after s t v) i)) v.mutex k (told v.point g.tells) (λ apart. subst Cleared (sym (g.far k apart)) (was k))
  where
    told : (x : Option Reply) → Tells t (seen s v.mutex) v.operation x (seen (after s t v) v.mutex) → Cleared (seen (after s t v) v.mutex)
    told None same = subst Cleared (sym same) (was v.mutex)
    told (Some x) p = permits_cleared (seen s v.mutex) (seen (after s t v) v.mutex) t v.operation x (inv.sound v.mutex) p (was v.mutex)

events_cleared : (s : State) (e : Event) → Kept s → AllCleared s → AllCleared (happens s e).state
events_cleared s e inv was =
    by_event s (λ (x : Event) (a : After). AllCleared a.state)
    (λ x. was)
    (λ t o pos known named idle b full. begins_so t o b)
    (λ t pos known. by_step s t inv pos known (λ (a : After). AllCleared a.state) (λ rests. was) (λ v n is awake g noted. access_cleared s t v inv g was))
    (λ t pos known alive. was)
    (λ t pos known asleep. was)
    (λ t k p pos known is asleep may. was)
    (λ t k x p pos known is stands. was)
    (λ t o p pos known is awake trims. was)
    (λ t pos known gone k. subst Cleared (sym (renewed_seen s t pos known k)) (was k))
    (λ t m may k. or_else (λ (i : ℕ). Cleared (seen (reinited s t m (waiters_of (s.words (cell_place s.layout m)))).state i)) m k
    (subst Cleared (sym (reinited_seen s t m _ (waiters_say_nothing (s.words (cell_place s.layout m))) may)) (λ lost. absurd (cc lost)))
    (λ apart. subst Cleared (sym (reinited_far s t m _ (waiters_say_nothing (s.words (cell_place s.layout m))) may k apart)) (was k)))
    (λ t k g sp. was)
    e
  where
    begins_so : (t : ℕ) (o : Op) (b : Bool) → AllCleared (begun s t o (if b then Err XHELD else Ok (begins_at s.layout t o))).state
    begins_so t o true = was
    begins_so t o false = was

-- ---- every run

record Both (s : State) : Type 0 where
  roomy : Roomy s
  cleared : AllCleared s

run_both : (s : State) (es : List Event) → Kept s → Both s → Both (run s es)
run_both s [] inv b = b
run_both s (e ∷ es) inv b = run_both (happens s e).state es (sound s e inv).kept (record { roomy = events_room s e inv b.roomy; cleared = events_cleared s e inv b.cleared })

-- at first the words of mutexes are zeros
pub first_cell : (l : Layout') (counters : ℕ → ℕ) (k : ℕ) → k < l.mutexes → first_word l counters (cell_place l k) ≡ 0
first_cell l counters k inside = grind (arith, nat_tests)

start_both : (l : Layout') (counters : ℕ → ℕ) → Both (start l counters)
start_both l counters = record {
  roomy = λ k inside. subst Rest (sym (first_cell l counters k inside)) refl;
  cleared = λ k. subst Cleared (sym (seen-start l counters k)) (λ lost. refl);
}

pub words_sound : WordsStaySound
words_sound s r = subst WordsAreSound (sym r.here) (record { room = both.roomy; lost = λ k inside. lost_so k inside })
  where
    both : Both (run (start r.layout r.counters) r.events)
    both = run_both (start r.layout r.counters) r.events (start_kept r.layout r.counters r.is) (start_both r.layout r.counters)

    there : State
    there = run (start r.layout r.counters) r.events

    lost_so : (k : ℕ) → k < there.layout.mutexes → (fields_at there k).unusable ≡ true → (fields_at there k).died ≡ false
    lost_so k inside lost = sym (ap (λ (o : Object). o.inconsistent) (seen-inside there k inside)) ∙ both.cleared k (ap (λ (o : Object). o.unusable) (seen-inside there k inside) ∙ lost)
