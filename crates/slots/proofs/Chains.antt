-- What a call does at its words, event by event: it clears and announces, looks, sets WAITERS, sleeps and times out.
use Rattle.std.proofs.Common.{◌≡◌, ℕ, ◌+◌, ◌%◌, ◌^◌, ◌<◌, ◌≤◌, ◌==◌, Bool, true, false, List, [], ◌∷◌, ◌++◌, refl, sym, ap, ◌∙◌, subst, arith, eq-eqb}
use Rattle.std.specs.Prelude.{if◌then◌else◌, nat_le, nat_lt}
use Rattle.std.proofs.lemmas.Bool.Decides.{nat_tests}
use mathlib.Core.Path.{fun_ext}
use Rattle.lockword.specs.Cells.{Fields, fields_of, word_of, low_of, waiting}
use Rattle.lockword.specs.Coding.{word_of-fields_of, fields_of-word_of}
use Rattle.lockword.specs.declared.reply.Reply.{Reply}
use Rattle.lockword.specs.declared.reply.Reply.TheVariants.{ETIMEDOUT}
use Rattle.stepprograms.specs.declared.access.Access.{Access}
use Rattle.stepprograms.specs.declared.access.Answer.TheVariants.{Woken, Again, Exchanged, Changed}
use Rattle.stepprograms.specs.Accesses.{answer_among}
use Rattle.buckets.specs.Queues.{without}
use Rattle.posixmutex.specs.declared.point.Operation.{Operation}
use Rattle.posixmutex.specs.declared.point.Operation.TheVariants as operation
use Rattle.memorymap.specs.Layouts.{IsLayout, cell_place, head_place, place_in}
use Rattle.mutex.specs.declared.call.Call.TheVariants.{TimedLock, TryLock}
use Rattle.mutex.specs.declared.lock.LockRow.{LockRow}
use Rattle.mutex.specs.declared.lock.LockRow.TheVariants as lock
use Rattle.mutex.specs.declared.phase.Phase.{Phase}
use Rattle.mutex.specs.declared.phase.Phase.TheVariants.{Announcing, AtCell, Clearing, Ended}
use Rattle.mutex.specs.declared.row.Row as mutex_row
use Rattle.mutex.specs.declared.row.Row.TheVariants.{Lock}
use Rattle.mutex.specs.Lock.{lock_sees}
use Rattle.mutex.specs.Rows.{goes}
use Rattle.mutex.specs.Standings.{Whole}
use Rattle.mutex.specs.declared.phase.Onward.{Onward}
use Rattle.mutex.specs.Whole.{announced, from_cell, onward, pending_place, whole_access, whole_led}
use Rattle.condvar.specs.declared.call.CondCall.{CondCall}
use Rattle.condvar.specs.declared.phase.CondOnward.{CondOnward}
use Rattle.condvar.specs.Standings.{CondWhole}
use Rattle.condvar.specs.Whole.{cond_access, cond_led}
use Rattle.mutex.proofs.Addresses.{head_word_again}
use Rattle.condvar.specs.declared.op.Op.{Op}
use Rattle.condvar.specs.declared.op.Op.TheVariants.{OnMutex}
use Rattle.protocol.specs.declared.event.Event.{Event}
use Rattle.protocol.specs.declared.event.Event.TheVariants.{Begin, Step, Expire}
use Rattle.protocol.specs.declared.thread.Thread.{Thread}
use Rattle.protocol.specs.declared.thread.Stage.TheVariants.{Idle, Calling, AtCondition}
use Rattle.protocol.specs.Machine.{State, put, expired, happens, held_after, lapsed, led_at, nothing, stage_after, stage_at, stands_in}
use Rattle.protocol.proofs.Events.{is_known}
use Rattle.protocol.proofs.Places.{head_is_no_cell}
use Rattle.protocol.proofs.Puts.{by_put, put-same, put-other}
use Rattle.protocol.proofs.Queues.{first_stands, without_same}
use Rattle.protocol.proofs.Seeing.{cell_in, entry_in, head_in, cell_again}
use Rattle.slots.proofs.Announcing.{call_of}
use Rattle.slots.proofs.Leading.{Leads, Still, all_still, begins_more, call_at, cond_loads, loads_more, more, now, on, put_back, put_over, steps_more, still_same, unmoved}
use Rattle.slots.proofs.Takes.{load_of}

-- a lock's operation, or a trylock's
abbrev pub lock_or_try : Bool → Operation
lock_or_try true = operation.Lock
lock_or_try false = operation.TryLock

-- events lead to these words and queues, wherever the thread is then
abbrev pub Comes : State → ℕ → List Event → (ℕ → ℕ) → (ℕ → List ℕ) → Type 0
Comes s t es w q = (ti : Thread) × Leads s t es w q ti

sees_sleep : (t : ℕ) (c : Fields) → c.unusable ≡ false → (c.owner == t) ≡ false → (c.owner == 0) ≡ false → c.waiters ≡ true → lock_sees t c ≡ goes (Lock (lock.Sleep c))
sees_sleep t c usable other some waits = grind (arith)

sees_none : (t : ℕ) (c : Fields) → c.unusable ≡ false → (c.owner == t) ≡ false → (c.owner == 0) ≡ false → c.waiters ≡ false → lock_sees t c ≡ goes (Lock (lock.SetWaiters c))
sees_none t c usable other some waits = grind (arith)

pub stands_last : (t : ℕ) (q : List ℕ) → stands_in t (q ++ t ∷ []) ≡ true
stands_last t [] = first_stands t []
stands_last t (u ∷ us) = grind (arith, stands_last t us)

without_last : (t : ℕ) (q : List ℕ) → stands_in t q ≡ false → without t (q ++ t ∷ []) ≡ q
without_last t [] out = last_one (t == t) (eq-eqb t t refl)
  where
    last_one : (b : Bool) → (t == t) ≡ true → without t (t ∷ []) ≡ []
    last_one b e = grind (arith)
without_last t (u ∷ us) out = grind (arith, without_last t us)

-- WAITERS says nothing of the owner
pub waiting_still : (w : ℕ) → Still w (word_of (waiting (fields_of w)))
waiting_still w = (ap (λ (c : Fields). c.owner) same, ap (λ (c : Fields). c.unusable) same)
  where
    same : fields_of (word_of (waiting (fields_of w))) ≡ waiting (fields_of w)
    same = fields_of-word_of (waiting (fields_of w)) (omega arith)

-- a call loads, whatever it finds
pub any_load : (s : State) (t : ℕ) (es : List Event) (w : ℕ → ℕ) (q : ℕ → List ℕ) (o : Op) (p : Whole) (h at : ℕ) → 1 ≤ t → t ≤ s.layout.threads → Leads s t es w q (on (Calling o p) h) → ((key : ℕ) → stands_in t (q key) ≡ false) → whole_access p ≡ Access.Load at → Comes s t (es ++ Step t ∷ []) w q
any_load s t es w q o p h at pos known l out access =
    (on (stage_after o p g.phase) (held_after h p.operation g.point), loads_more s t es w q o p h pos known l out at (place_in s.layout t at) g (on (stage_after o p g.phase) (held_after h p.operation g.point)) access refl refl refl refl)
  where
    g : Onward
    g = whole_led p (answer_among (Access.Load at) (w (place_in s.layout t at)) (q (place_in s.layout t at)))

pub any_cond_load : (s : State) (t : ℕ) (es : List Event) (w : ℕ → ℕ) (q : ℕ → List ℕ) (c : CondCall) (p : CondWhole) (h at : ℕ) → 1 ≤ t → t ≤ s.layout.threads → Leads s t es w q (on (AtCondition c p) h) → cond_access p ≡ Access.Load at → Comes s t (es ++ Step t ∷ []) w q
any_cond_load s t es w q c p h at pos known l access =
    (ti, cond_loads s t es w q c p h pos known l at (place_in s.layout t at) g ti access refl refl refl refl)
  where
    g : CondOnward
    g = cond_led p (answer_among (Access.Load at) (w (place_in s.layout t at)) (q (place_in s.layout t at)))

    ti : Thread
    ti = on (stage_at c p g.phase) (held_after h (led_at c p g).operation (led_at c p g).point)

module _ (s : State) (t : ℕ) (pos : 1 ≤ t) (known : t ≤ s.layout.threads) (layout : IsLayout s.layout) where
  abbrev hp : ℕ
  hp = head_place t + 2

  pub head_there : place_in s.layout t (pending_place (head_in s.layout t)) ≡ hp
  head_there = head_word_again s.layout t layout pos known 2 (omega arith)

  pub still_head : (w : ℕ → ℕ) (v j : ℕ) → j < s.layout.mutexes → Still (w (cell_place s.layout j)) (put w hp v (cell_place s.layout j))
  still_head w v j inside = still_same (w (cell_place s.layout j)) (put w hp v (cell_place s.layout j)) (put-other w hp v (cell_place s.layout j) (λ e. head_is_no_cell s.layout t j 2 pos known (omega arith) (sym e)))

  module _ (es : List Event) (w : ℕ → ℕ) (q : ℕ → List ℕ) (h : ℕ) (out : (key : ℕ) → stands_in t (q key) ≡ false) where
    -- ---- the pending word

    pub clears_more : (o : Op) (op : Operation) (k : ℕ) (x : Reply) → Leads s t es w q (on (Calling o (call_at s.layout t op k (Clearing x))) h) → Leads s t (es ++ Step t ∷ []) (put w hp 0) q (on Idle h)
    clears_more o op k x l = steps_more s t es w q o (call_at s.layout t op k (Clearing x)) h pos known l out (Access.Store (pending_place (head_in s.layout t)) 0) hp (put w hp 0) q (onward (Ended x)) (on Idle h)
        refl head_there tt refl (put_back q hp) refl refl (unmoved op h) (still_head w 0)

    pub announces_more : (o : Op) (op : Operation) (k : ℕ) (r : mutex_row.Row) (f : Phase) → Leads s t es w q (on (Calling o (call_at s.layout t op k (Announcing r))) h) → announced (call_at s.layout t op k (Announcing r)) r ≡ f
        → stage_after o (call_at s.layout t op k (Announcing r)) f ≡ Calling o (call_at s.layout t op k f) → Leads s t (es ++ Step t ∷ []) (put w hp (entry_in s.layout t k)) q (on (Calling o (call_at s.layout t op k f)) h)
    announces_more o op k r f l leads stage = steps_more s t es w q o (call_at s.layout t op k (Announcing r)) h pos known l out (Access.Store (pending_place (head_in s.layout t)) (entry_in s.layout t k)) hp (put w hp (entry_in s.layout t k)) q (onward f) (on (Calling o (call_at s.layout t op k f)) h)
        refl head_there tt refl (put_back q hp) (ap onward leads) stage (unmoved op h) (still_head w (entry_in s.layout t k))

  pub locks_more : (es : List Event) (w : ℕ → ℕ) (q : ℕ → List ℕ) (h k : ℕ) (b : Bool) → ((key : ℕ) → stands_in t (q key) ≡ false) → Leads s t es w q (on Idle h) → k < s.layout.mutexes → h < 2048
      → Leads s t ((es ++ Begin t (OnMutex (call_of b k)) ∷ []) ++ Step t ∷ []) (put w hp (entry_in s.layout t k)) q (on (Calling (OnMutex (call_of b k)) (call_at s.layout t (lock_or_try b) k (AtCell (load_of b)))) h)
  locks_more es w q h k true out l inside room =
      let below : nat_lt k s.layout.mutexes ≡ true = grind (arith, nat_tests) in
      let free : nat_le 2048 h ≡ false = grind (arith, nat_tests) in
      announces_more (es ++ Begin t (OnMutex (TimedLock k)) ∷ []) w q h out (OnMutex (TimedLock k)) operation.Lock k (Lock lock.Load) (AtCell (Lock lock.Load)) (begins_more s t es w q h pos known l (OnMutex (TimedLock k)) below free) refl refl
  locks_more es w q h k false out l inside room =
      let below : nat_lt k s.layout.mutexes ≡ true = grind (arith, nat_tests) in
      let free : nat_le 2048 h ≡ false = grind (arith, nat_tests) in
      announces_more (es ++ Begin t (OnMutex (TryLock k)) ∷ []) w q h out (OnMutex (TryLock k)) operation.TryLock k (load_of false) (AtCell (load_of false)) (begins_more s t es w q h pos known l (OnMutex (TryLock k)) below free) refl refl

  -- after a call that has only to clear what it had pending
  pub behind_more : (es : List Event) (w : ℕ → ℕ) (q : ℕ → List ℕ) (h k : ℕ) (b : Bool) (o : Op) (op : Operation) (j : ℕ) (x : Reply) → ((key : ℕ) → stands_in t (q key) ≡ false) → Leads s t es w q (on (Calling o (call_at s.layout t op j (Clearing x))) h) → k < s.layout.mutexes → h < 2048
      → Leads s t (((es ++ Step t ∷ []) ++ Begin t (OnMutex (call_of b k)) ∷ []) ++ Step t ∷ []) (put w hp (entry_in s.layout t k)) q (on (Calling (OnMutex (call_of b k)) (call_at s.layout t (lock_or_try b) k (AtCell (load_of b)))) h)
  behind_more es w q h k b o op j x out l inside room =
      subst (λ (v : ℕ → ℕ). Leads s t (((es ++ Step t ∷ []) ++ Begin t (OnMutex (call_of b k)) ∷ []) ++ Step t ∷ []) v q (on (Calling (OnMutex (call_of b k)) (call_at s.layout t (lock_or_try b) k (AtCell (load_of b)))) h)) (put_over w hp 0 (entry_in s.layout t k))
      (locks_more (es ++ Step t ∷ []) (put w hp 0) q h k b out (clears_more es w q h out o op j x l) inside room)

  -- which had the same entry pending
  pub again_more : (es : List Event) (w : ℕ → ℕ) (q : ℕ → List ℕ) (h k : ℕ) (b : Bool) (o : Op) (op : Operation) (j : ℕ) (x : Reply) → ((key : ℕ) → stands_in t (q key) ≡ false) → Leads s t es w q (on (Calling o (call_at s.layout t op j (Clearing x))) h) → k < s.layout.mutexes → h < 2048 → w hp ≡ entry_in s.layout t k
      → Leads s t (((es ++ Step t ∷ []) ++ Begin t (OnMutex (call_of b k)) ∷ []) ++ Step t ∷ []) w q (on (Calling (OnMutex (call_of b k)) (call_at s.layout t (lock_or_try b) k (AtCell (load_of b)))) h)
  again_more es w q h k b o op j x out l inside room pends =
      subst (λ (v : ℕ → ℕ). Leads s t (((es ++ Step t ∷ []) ++ Begin t (OnMutex (call_of b k)) ∷ []) ++ Step t ∷ []) v q (on (Calling (OnMutex (call_of b k)) (call_at s.layout t (lock_or_try b) k (AtCell (load_of b)))) h)) (ap (put w hp) (sym pends) ∙ put_back w hp)
      (behind_more es w q h k b o op j x out l inside room)

  -- ---- the cell

  module _ (es : List Event) (w : ℕ → ℕ) (q : ℕ → List ℕ) (h k : ℕ) (o : Op) (op : Operation) (out : (key : ℕ) → stands_in t (q key) ≡ false) (inside : k < s.layout.mutexes) where
    abbrev pl : ℕ
    pl = cell_place s.layout k

    abbrev c : Fields
    c = fields_of (w pl)

    there : place_in s.layout t (cell_in s.layout t k) ≡ pl
    there = cell_again s.layout t layout pos known k inside

    -- it looks, whatever it sees
    pub looks_more : (b : Bool) → Leads s t es w q (on (Calling o (call_at s.layout t op k (AtCell (load_of b)))) h) → Comes s t (es ++ Step t ∷ []) w q
    looks_more true l = any_load s t es w q o (call_at s.layout t op k (AtCell (load_of true))) h (cell_in s.layout t k) pos known l out refl
    looks_more false l = any_load s t es w q o (call_at s.layout t op k (AtCell (load_of false))) h (cell_in s.layout t k) pos known l out refl

    -- it goes on to another row of the lock
    goes_more : (r : LockRow) → Leads s t es w q (on (Calling o (call_at s.layout t op k (AtCell (load_of true)))) h) → lock_sees t c ≡ goes (Lock r) → Leads s t (es ++ Step t ∷ []) w q (on (Calling o (call_at s.layout t op k (AtCell (Lock r)))) h)
    goes_more r l sees = loads_more s t es w q o (call_at s.layout t op k (AtCell (load_of true))) h pos known l out (cell_in s.layout t k) pl (onward (AtCell (Lock r))) (on (Calling o (call_at s.layout t op k (AtCell (Lock r)))) h)
        refl there (ap (from_cell (call_at s.layout t op k (AtCell (load_of true)))) sees) refl (unmoved op h)

    -- another thread owns it, which has seen to WAITERS
    pub sees_sleep_more : Leads s t es w q (on (Calling o (call_at s.layout t op k (AtCell (load_of true)))) h) → c.unusable ≡ false → (c.owner == t) ≡ false → (c.owner == 0) ≡ false → c.waiters ≡ true
        → Leads s t (es ++ Step t ∷ []) w q (on (Calling o (call_at s.layout t op k (AtCell (Lock (lock.Sleep c))))) h)
    sees_sleep_more l usable other some waits = goes_more (lock.Sleep c) l (sees_sleep t c usable other some waits)

    -- it falls asleep
    pub sleeps_more : (d : Fields) → Leads s t es w q (on (Calling o (call_at s.layout t op k (AtCell (Lock (lock.Sleep d))))) h) → (w pl % 2 ^ 32 == low_of d) ≡ true
        → Leads s t (es ++ Step t ∷ []) w (put q pl (q pl ++ t ∷ [])) (on (Calling o (call_at s.layout t op k (AtCell (load_of true)))) h)
    sleeps_more d l low = steps_more s t es w q o (call_at s.layout t op k (AtCell (Lock (lock.Sleep d)))) h pos known l out (Access.Wait (cell_in s.layout t k) (low_of d)) pl w (put q pl (q pl ++ t ∷ [])) (onward (AtCell (load_of true))) (on (Calling o (call_at s.layout t op k (AtCell (load_of true)))) h)
        refl there tt (put_back w pl) (ap (λ (b : Bool). put q pl (if b then q pl ++ t ∷ [] else q pl)) low) (ap (λ (b : Bool). whole_led (call_at s.layout t op k (AtCell (Lock (lock.Sleep d)))) (if b then Woken else Again)) low) refl (unmoved op h) (all_still s w)

    -- or not
    pub wakes_more : (d : Fields) → Leads s t es w q (on (Calling o (call_at s.layout t op k (AtCell (Lock (lock.Sleep d))))) h) → (w pl % 2 ^ 32 == low_of d) ≡ false
        → Leads s t (es ++ Step t ∷ []) w q (on (Calling o (call_at s.layout t op k (AtCell (load_of true)))) h)
    wakes_more d l low = steps_more s t es w q o (call_at s.layout t op k (AtCell (Lock (lock.Sleep d)))) h pos known l out (Access.Wait (cell_in s.layout t k) (low_of d)) pl w q (onward (AtCell (load_of true))) (on (Calling o (call_at s.layout t op k (AtCell (load_of true)))) h)
        refl there tt (put_back w pl) (ap (λ (b : Bool). put q pl (if b then q pl ++ t ∷ [] else q pl)) low ∙ put_back q pl) (ap (λ (b : Bool). whole_led (call_at s.layout t op k (AtCell (Lock (lock.Sleep d)))) (if b then Woken else Again)) low) refl (unmoved op h) (all_still s w)

    -- it sets WAITERS
    pub sets_more : Leads s t es w q (on (Calling o (call_at s.layout t op k (AtCell (Lock (lock.SetWaiters c))))) h)
        → Leads s t (es ++ Step t ∷ []) (put w pl (word_of (waiting c))) q (on (Calling o (call_at s.layout t op k (AtCell (Lock (lock.Sleep (waiting c)))))) h)
    sets_more l = steps_more s t es w q o (call_at s.layout t op k (AtCell (Lock (lock.SetWaiters c)))) h pos known l out (Access.Exchange (cell_in s.layout t k) (word_of c) (word_of (waiting c))) pl (put w pl (word_of (waiting c))) q (onward (AtCell (Lock (lock.Sleep (waiting c))))) (on (Calling o (call_at s.layout t op k (AtCell (Lock (lock.Sleep (waiting c)))))) h)
        refl there tt (ap (λ (b : Bool). put w pl (if b then word_of (waiting c) else w pl)) found) (put_back q pl) (ap (λ (b : Bool). whole_led (call_at s.layout t op k (AtCell (Lock (lock.SetWaiters c)))) (if b then Exchanged else Changed (w pl))) found) refl (unmoved op h) still
      where
        found : (w pl == word_of c) ≡ true
        found = eq-eqb (w pl) (word_of c) (sym (word_of-fields_of (w pl)))

        still : (j : ℕ) → j < s.layout.mutexes → Still (w (cell_place s.layout j)) (put w pl (word_of (waiting c)) (cell_place s.layout j))
        still j in_j = by_put (λ (v : ℕ). Still (w (cell_place s.layout j)) v) w pl (word_of (waiting c)) (cell_place s.layout j) (λ here. subst (λ (a : ℕ). Still (w a) (word_of (waiting c))) (sym here) (waiting_still (w pl))) (λ apart. (refl, refl))

    pub sees_and_sets : Leads s t es w q (on (Calling o (call_at s.layout t op k (AtCell (load_of true)))) h) → c.unusable ≡ false → (c.owner == t) ≡ false → (c.owner == 0) ≡ false → c.waiters ≡ false
        → Leads s t (es ++ Step t ∷ []) w q (on (Calling o (call_at s.layout t op k (AtCell (Lock (lock.SetWaiters c))))) h)
    sees_and_sets l usable other some waits = goes_more (lock.SetWaiters c) l (sees_none t c usable other some waits)

  -- ---- its time limit comes while it sleeps

  module _ (es : List Event) (w : ℕ → ℕ) (q : ℕ → List ℕ) (h k : ℕ) (out : (key : ℕ) → stands_in t (q key) ≡ false) where
    abbrev at : ℕ
    at = cell_place s.layout k

    abbrev asleep : ℕ → List ℕ
    asleep = put q at (q at ++ t ∷ [])

    abbrev o' : Op
    o' = OnMutex (TimedLock k)

    pub expires_more : Leads s t es w asleep (on (Calling o' (call_at s.layout t operation.Lock k (AtCell (load_of true)))) h) → Leads s t (es ++ Expire t ∷ []) w q (on (Calling o' (call_at s.layout t operation.Lock k (Clearing ETIMEDOUT))) h)
    expires_more l = more s t es w w asleep q (on (Calling o' (call_at s.layout t operation.Lock k (AtCell (load_of true)))) h) (on (Calling o' (call_at s.layout t operation.Lock k (Clearing ETIMEDOUT))) h) (Expire t) l goes_to (all_still s w)
      where
        z : State
        z = now s t w asleep (on (Calling o' (call_at s.layout t operation.Lock k (AtCell (load_of true)))) h)

        same : z.threads t ≡ on (Calling o' (call_at s.layout t operation.Lock k (AtCell (load_of true)))) h
        same = put-same s.threads t _

        stands : stands_in t (asleep at) ≡ true
        stands = ap (stands_in t) (put-same q at (q at ++ t ∷ [])) ∙ stands_last t (q at)

        back : ◌≡◌ {A = ℕ → List ℕ} (λ key. without t (asleep key)) q
        back = fun_ext (λ key. by_put (λ us. without t us ≡ q key) q at (q at ++ t ∷ []) key (λ here. without_last t (q at) (out at) ∙ ap q (sym here)) (λ apart. without_same t (q key) (out key)))

        goes_to : (happens z (Expire t)).state ≡ now s t w q (on (Calling o' (call_at s.layout t operation.Lock k (Clearing ETIMEDOUT))) h)
        goes_to =
            ap (λ (b : Bool). (if b then expired z t (z.threads t).held (z.threads t).stage else nothing z).state) (is_known z t pos known)
            ∙ ap (λ (y : Thread). (expired z t y.held y.stage).state) same
            ∙ ap (λ (b : Bool). (if (if b then true else false) then lapsed z t h o' (call_at s.layout t operation.Lock k (AtCell (load_of true))) else nothing z).state) stands
            ∙ (λ i. record {
              layout = s.layout;
              words = w;
              queues = back i;
              threads = put_over s.threads t (on (Calling o' (call_at s.layout t operation.Lock k (AtCell (load_of true)))) h) (on (Calling o' (call_at s.layout t operation.Lock k (Clearing ETIMEDOUT))) h) i;
            })

  -- ---- all of these

  module _ (es : List Event) (w : ℕ → ℕ) (q : ℕ → List ℕ) (h k : ℕ) (out : (key : ℕ) → stands_in t (q key) ≡ false) (inside : k < s.layout.mutexes)
      (l : Leads s t es w q (on (Calling (OnMutex (TimedLock k)) (call_at s.layout t operation.Lock k (AtCell (load_of true)))) h)) (usable : (fields_of (w (cell_place s.layout k))).unusable ≡ false)
      (other : ((fields_of (w (cell_place s.layout k))).owner == t) ≡ false) (some : ((fields_of (w (cell_place s.layout k))).owner == 0) ≡ false) where
    abbrev cell : ℕ
    cell = cell_place s.layout k

    abbrev said : Fields
    said = fields_of (w cell)

    abbrev given_up : Thread
    given_up = on (Calling (OnMutex (TimedLock k)) (call_at s.layout t operation.Lock k (Clearing ETIMEDOUT))) h

    -- with WAITERS: the lock sleeps, and times out
    pub gives_up_more : said.waiters ≡ true → Leads s t (((es ++ Step t ∷ []) ++ Step t ∷ []) ++ Expire t ∷ []) w q given_up
    gives_up_more waits =
        expires_more ((es ++ Step t ∷ []) ++ Step t ∷ []) w q h k out
        (sleeps_more (es ++ Step t ∷ []) w q h k (OnMutex (TimedLock k)) operation.Lock out inside said
        (sees_sleep_more es w q h k (OnMutex (TimedLock k)) operation.Lock out inside l usable other some waits)
        (eq-eqb (w cell % 2 ^ 32) (low_of said) (ap (λ (v : ℕ). v % 2 ^ 32) (sym (word_of-fields_of (w cell))))))

    -- and without: it sets WAITERS first
    pub marks_more : said.waiters ≡ false → Leads s t ((((es ++ Step t ∷ []) ++ Step t ∷ []) ++ Step t ∷ []) ++ Expire t ∷ []) (put w cell (word_of (waiting said))) q given_up
    marks_more waits =
        expires_more (((es ++ Step t ∷ []) ++ Step t ∷ []) ++ Step t ∷ []) (put w cell (word_of (waiting said))) q h k out
        (sleeps_more ((es ++ Step t ∷ []) ++ Step t ∷ []) (put w cell (word_of (waiting said))) q h k (OnMutex (TimedLock k)) operation.Lock out inside (waiting said)
        (sets_more (es ++ Step t ∷ []) w q h k (OnMutex (TimedLock k)) operation.Lock out inside
        (sees_and_sets es w q h k (OnMutex (TimedLock k)) operation.Lock out inside l usable other some waits))
        (eq-eqb (put w cell (word_of (waiting said)) cell % 2 ^ 32) (low_of (waiting said)) (ap (λ (v : ℕ). v % 2 ^ 32) (put-same w cell (word_of (waiting said))))))
