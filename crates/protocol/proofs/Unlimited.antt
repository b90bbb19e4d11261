-- Where no time limit comes, locks and waits with a limit are as those without one.
use Rattle.std.proofs.Common.{◌≡◌, ℕ, zero, suc, ◌==◌, ◌&&◌, Bool, true, false, Some, None, Result, Ok, Err, List, [], ◌∷◌, map, refl, sym, ap, ◌∙◌}
use mathlib.Core.Path.{fun_ext}
use Rattle.protocol.proofs.Vocabulary.{Operation, address_in, head_place, Begun, CondCall, CondPhase, CondOnward, CondWhole, Layout', Mutex, Condition, Queue, Access, Reply, XHELD, Phase, Onward, Whole, Call, Op, OnMutex, OnCondition, whole_access, whole_led, cond_access, cond_led, Trimmed, Count}
use Rattle.protocol.proofs.Vocabulary.{mutex_of, begun_of, condition_of, Thread, Stage, Calling, AtCondition, Dying, Event, Note, Began, State, After, begun, departed, killed, walked, renewed, reinited, spared, went, nothing, put, waiters_of}
use Rattle.protocol.proofs.Vocabulary.{cell_place, answer_of, is_alive, is_asleep, sleeps, stage_after, stage_at, stage_walked, led, led_at, happens, stepped, run, notes, held_after, if◌then◌else◌, not, ◌||◌, nat_lt, nat_le, stands_at, counter_place, first_stage}
use Rattle.protocol.proofs.Vocabulary.{LeftTo, a_walk_minds, another_answers, answers, is_left_to, walk_minds, sparing, wakes_one}
use Rattle.exitwalk.specs.Standings as walks
use Rattle.exitwalk.specs.Walks as exit
use Rattle.exitwalk.specs.declared.row.Row as walk_row
use Rattle.exitwalk.specs.declared.row.Row.TheVariants as walk
use Rattle.mutex.specs.Whole.{begins}
use Rattle.condvar.specs.Ops.{may_call, reply_of}
use Rattle.condvar.specs.Calls as condition
use Rattle.condvar.specs.declared.call.Limit.TheVariants.{Ahead, Past}
use Rattle.std.specs.Prelude.{slice_index}
use Rattle.protocol.specs.Machine as machine
use Rattle.protocol.specs.Machine.{Led, decided_at, declined, death_at, has_thread, is_gone, is_idle, is_in_head, is_trim, is_unusable, places_of, stage_begun, words_after, queues_after, wakes_next, told_of, idle}
use Rattle.protocol.specs.TimeLimits.{IsNoLimit, NoLimitComes, untimed, unlimited, unlimited_event, unlimited_note, unlimited_wait}
use Rattle.protocol.proofs.Events.{may_so}
use Rattle.protocol.specs.Applies.{BeginsAhead}

-- ---- a state with locks without limits instead of those with one

abbrev unlimited_stage : Stage → Stage
unlimited_stage (Calling o p) = Calling (unlimited o) p
unlimited_stage (AtCondition c p) = AtCondition (unlimited_wait c) p
unlimited_stage g = g

abbrev unlimited_thread : Thread → Thread
unlimited_thread z = record { stage = unlimited_stage z.stage; held = z.held }

abbrev pub unlimited_state : State → State
unlimited_state s = record { layout = s.layout; words = s.words; queues = s.queues; threads = λ t. unlimited_thread (s.threads t) }

abbrev unlimited_after : After → After
unlimited_after a = record { state = unlimited_state a.state; note = unlimited_note a.note }

-- ---- what a machine asks of a call or a stage is the same

condition_same : (c : CondCall) → condition_of (unlimited_wait c) ≡ condition_of c
condition_same (CondCall.TimedWait k Ahead) = refl
condition_same (CondCall.TimedWait k Past) = refl
condition_same (CondCall.Wait k) = refl
condition_same (CondCall.Signal k) = refl
condition_same (CondCall.Broadcast k) = refl

acts_same : (c : CondCall) → condition.acts_as (unlimited_wait c) ≡ condition.acts_as c
acts_same (CondCall.TimedWait k Ahead) = refl
acts_same (CondCall.TimedWait k Past) = refl
acts_same (CondCall.Wait k) = refl
acts_same (CondCall.Signal k) = refl
acts_same (CondCall.Broadcast k) = refl

mutex_same : (l : Layout') (o : Op) → mutex_of l (unlimited o) ≡ mutex_of l o
mutex_same l (OnMutex (Call.TimedLock m)) = refl
mutex_same l (OnMutex (Call.Lock m)) = refl
mutex_same l (OnMutex (Call.TryLock m)) = refl
mutex_same l (OnMutex (Call.Unlock m)) = refl
mutex_same l (OnMutex (Call.Consistent m)) = refl
mutex_same l (OnCondition c) = ap (slice_index l.conditions) (condition_same c)

inside_same : (l : Layout') (o : Op) → may_call l (unlimited o) ≡ may_call l o
inside_same l (OnMutex (Call.TimedLock m)) = refl
inside_same l (OnMutex (Call.Lock m)) = refl
inside_same l (OnMutex (Call.TryLock m)) = refl
inside_same l (OnMutex (Call.Unlock m)) = refl
inside_same l (OnMutex (Call.Consistent m)) = refl
inside_same l (OnCondition (CondCall.TimedWait k Ahead)) = refl
inside_same l (OnCondition (CondCall.TimedWait k Past)) = refl
inside_same l (OnCondition (CondCall.Wait k)) = refl
inside_same l (OnCondition (CondCall.Signal k)) = refl
inside_same l (OnCondition (CondCall.Broadcast k)) = refl

begun_same : (l : Layout') (o : Op) → BeginsAhead o → begun_of l (unlimited o) ≡ record (begun_of l o) { operation = untimed (begun_of l o).operation }
begun_same l (OnMutex (Call.TimedLock m)) ahead = refl
begun_same l (OnMutex (Call.Lock m)) ahead = refl
begun_same l (OnMutex (Call.TryLock m)) ahead = refl
begun_same l (OnMutex (Call.Unlock m)) ahead = refl
begun_same l (OnMutex (Call.Consistent m)) ahead = refl
begun_same l (OnCondition (CondCall.TimedWait k Ahead)) ahead = refl
begun_same l (OnCondition (CondCall.TimedWait k Past)) ahead = absurd (cc ahead)
begun_same l (OnCondition (CondCall.Wait k)) ahead = refl
begun_same l (OnCondition (CondCall.Signal k)) ahead = refl
begun_same l (OnCondition (CondCall.Broadcast k)) ahead = refl

idle_same : (g : Stage) → is_idle (unlimited_stage g) ≡ is_idle g
idle_same (Calling o p) = refl
idle_same (AtCondition c p) = refl
idle_same g = refl

alive_same : (g : Stage) → is_alive (unlimited_stage g) ≡ is_alive g
alive_same (Calling o p) = refl
alive_same (AtCondition c p) = refl
alive_same g = refl

gone_same : (g : Stage) → is_gone (unlimited_stage g) ≡ is_gone g
gone_same (Calling o p) = refl
gone_same (AtCondition c p) = refl
gone_same g = refl

places_same : (l : Layout') (g : Stage) → places_of l (unlimited_stage g) ≡ places_of l g
places_same l (Calling (OnMutex (Call.TimedLock m)) p) = refl
places_same l (Calling (OnMutex (Call.Lock m)) p) = refl
places_same l (Calling (OnMutex (Call.TryLock m)) p) = refl
places_same l (Calling (OnMutex (Call.Unlock m)) p) = refl
places_same l (Calling (OnMutex (Call.Consistent m)) p) = refl
places_same l (Calling (OnCondition c) p) = λ i. cell_place l (mutex_same l (OnCondition c) i) ∷ counter_place l (condition_same c i) ∷ []
places_same l (AtCondition c p) = refl
places_same l g = refl

answers_same : (l : Layout') (words : ℕ → ℕ) (m t : ℕ) (g : Stage) → answers l words m t (unlimited_stage g) ≡ answers l words m t g
answers_same l words m t (Calling o p) = ap (λ (k : ℕ). (k == m) && machine.answers_at p.phase) (mutex_same l o)
answers_same l words m t (AtCondition c p) = ap (λ (k : ℕ). (k == m) && wakes_next p.phase) (mutex_same l (OnCondition c))
answers_same l words m t g = refl

sleeps_same : (s : State) (t : ℕ) (g : Stage) → sleeps (unlimited_state s) t (unlimited_stage g) ≡ sleeps s t g
sleeps_same s t g = ap (stands_at t s.queues) (places_same s.layout g)

another_same : (s : State) (t m n : ℕ) → another_answers (unlimited_state s) t m n ≡ another_answers s t m n
another_same s t m zero = refl
another_same s t m (suc n) = λ i. (not (suc n == t) && not (sleeps_same s (suc n) (s.threads (suc n)).stage i) && answers_same s.layout s.words m (suc n) (s.threads (suc n)).stage i) || another_same s t m n i

minds_same : (l : Layout') (words : ℕ → ℕ) (m t : ℕ) (g : Stage) → walk_minds l words m t (unlimited_stage g) ≡ walk_minds l words m t g
minds_same l words m t (Dying w) = refl
minds_same l words m t (Calling o p) = refl
minds_same l words m t (AtCondition c p) = refl
minds_same l words m t g = refl

walks_same : (s : State) (m n : ℕ) → a_walk_minds (unlimited_state s) m n ≡ a_walk_minds s m n
walks_same s m zero = refl
walks_same s m (suc n) = λ i. minds_same s.layout s.words m (suc n) (s.threads (suc n)).stage i || walks_same s m n i

left_same : (s : State) (t m : ℕ) (by : LeftTo) → is_left_to (unlimited_state s) t m by ≡ is_left_to s t m by
left_same s t m LeftTo.Thread = another_same s t m s.layout.threads
left_same s t m LeftTo.Owner = refl
left_same s t m LeftTo.Walk = walks_same s m s.layout.threads

-- ---- and so is where it leads

after_same : (o : Op) (p : Whole) (f : Phase) → unlimited_stage (stage_after o p f) ≡ stage_after (unlimited o) p f
after_same o p (Phase.Ended x) = refl
after_same o p f = refl

at_same : (c : CondCall) (p : CondWhole) (f : CondPhase) → unlimited_stage (stage_at c p f) ≡ stage_at (unlimited_wait c) p f
at_same c p (CondPhase.Ended x) = refl
at_same c p (CondPhase.Locking w) = refl
at_same c p f = refl

walked_same : (w : walks.Standing) (r : walk_row.Row) → unlimited_stage (stage_walked w r) ≡ stage_walked w r
walked_same w walk.Ended = refl
walked_same w r = refl

abbrev unlimited_led : Led → Led
unlimited_led g = record { stage = unlimited_stage g.stage; operation = g.operation; point = g.point; returned = g.returned }

wait_replies : (c : CondCall) (x : Reply) → condition.reply_of (unlimited_wait c) x ≡ condition.reply_of c x
wait_replies (CondCall.TimedWait k Ahead) x = refl
wait_replies (CondCall.TimedWait k Past) x = refl
wait_replies (CondCall.Wait k) x = refl
wait_replies (CondCall.Signal k) x = refl
wait_replies (CondCall.Broadcast k) x = refl

reply_same : (o : Op) (x : Reply) → reply_of (unlimited o) x ≡ reply_of o x
reply_same (OnMutex c) x = refl
reply_same (OnCondition c) x = wait_replies c x

returned_same : (o : Op) (f : Phase) → machine.returned (unlimited o) f ≡ machine.returned o f
returned_same o (Phase.Ended x) = ap Some (reply_same o x)
returned_same o f = refl

led_same : (o : Op) (p : Whole) (x : Onward) → led (unlimited o) p x ≡ unlimited_led (led o p x)
led_same o p x = λ i. record { stage = sym (after_same o p x.phase) i; operation = (led o p x).operation; point = (led o p x).point; returned = returned_same o x.phase i }

led_at_same : (c : CondCall) (p : CondWhole) (x : CondOnward) → led_at (unlimited_wait c) p x ≡ unlimited_led (led_at c p x)
led_at_same c p x = λ i. record { stage = sym (at_same c p x.phase) i; operation = decided_at (acts_same c i) x.point; point = (led_at c p x).point; returned = (led_at c p x).returned }

-- ---- events

put_same : (s : State) (t : ℕ) (z : Thread) → (unlimited_state (record s { threads = put s.threads t z })).threads ≡ put (unlimited_state s).threads t (unlimited_thread z)
put_same s t z = fun_ext (λ u. go u (u == t))
  where
    go : (u : ℕ) (b : Bool) → unlimited_thread (if b then z else s.threads u) ≡ (if b then unlimited_thread z else unlimited_thread (s.threads u))
    go u true = refl
    go u false = refl

-- thread t changes to z
abbrev changed : State → (ℕ → ℕ) → (ℕ → List ℕ) → ℕ → Thread → Note → After
changed s w q t z n = record { state = record { layout = s.layout; words = w; queues = q; threads = put s.threads t z }; note = n }

changed_same : (s : State) (w : ℕ → ℕ) (q : ℕ → List ℕ) (t : ℕ) (z y : Thread) (n k : Note) → y ≡ unlimited_thread z → k ≡ unlimited_note n → changed (unlimited_state s) w q t y k ≡ unlimited_after (changed s w q t z n)
changed_same s w q t z y n k thread note = λ i. record { state = record { layout = s.layout; words = w; queues = q; threads = (ap (put (unlimited_state s).threads t) thread ∙ sym (put_same s t z)) i }; note = note i }

-- what is chosen by the same test
choose : (x y : Bool) (a b c d : After) → y ≡ x → b ≡ unlimited_after a → d ≡ unlimited_after c → (if y then b else d) ≡ unlimited_after (if x then a else c)
choose x y a b c d e f g = (λ i. if e i then f i else g i) ∙ go x
  where
    go : (z : Bool) → (if z then unlimited_after a else unlimited_after c) ≡ unlimited_after (if z then a else c)
    go true = refl
    go false = refl

-- the same, where what it is chosen by says more
choose_so : (x y : Bool) (a b c d : After) → y ≡ x → (x ≡ true → b ≡ unlimited_after a) → d ≡ unlimited_after c → (if y then b else d) ≡ unlimited_after (if x then a else c)
choose_so x y a b c d e f g = ap (λ (z : Bool). if z then b else d) e ∙ go x f
  where
    go : (z : Bool) → (z ≡ true → b ≡ unlimited_after a) → (if z then b else d) ≡ unlimited_after (if z then a else c)
    go true f = f refl
    go false f = g

third : (a b c : Bool) → (a && b && c) ≡ true → c ≡ true
third true true c e = e
third true false c e = absurd (cc e)
third false b c e = absurd (cc e)

-- begins
abbrev unlimited_result : Result Stage Reply → Result Stage Reply
unlimited_result (Ok g) = Ok (unlimited_stage g)
unlimited_result (Err x) = Err x

first_same : (l : Layout') (t held : ℕ) (o : Op) → first_stage l t held (unlimited o) ≡ unlimited_result (first_stage l t held o)
first_same l t held (OnMutex (Call.Lock m)) = go (nat_le 2048 held)
  where
    go : (b : Bool) → stage_begun (Call.Lock m) (if b then Err XHELD else Ok (begins l t (Call.Lock m))) ≡ unlimited_result (stage_begun (Call.Lock m) (if b then Err XHELD else Ok (begins l t (Call.Lock m))))
    go true = refl
    go false = refl
first_same l t held (OnMutex (Call.TimedLock m)) = go (nat_le 2048 held)
  where
    go : (b : Bool) → stage_begun (Call.Lock m) (if b then Err XHELD else Ok (begins l t (Call.Lock m))) ≡ unlimited_result (stage_begun (Call.TimedLock m) (if b then Err XHELD else Ok (begins l t (Call.TimedLock m))))
    go true = refl
    go false = refl
first_same l t held (OnMutex (Call.TryLock m)) = go (nat_le 2048 held)
  where
    go : (b : Bool) → stage_begun (Call.TryLock m) (if b then Err XHELD else Ok (begins l t (Call.TryLock m))) ≡ unlimited_result (stage_begun (Call.TryLock m) (if b then Err XHELD else Ok (begins l t (Call.TryLock m))))
    go true = refl
    go false = refl
first_same l t held (OnMutex (Call.Unlock m)) = refl
first_same l t held (OnMutex (Call.Consistent m)) = refl
first_same l t held (OnCondition (CondCall.TimedWait k Ahead)) = refl
first_same l t held (OnCondition (CondCall.TimedWait k Past)) = refl
first_same l t held (OnCondition (CondCall.Wait k)) = refl
first_same l t held (OnCondition (CondCall.Signal k)) = refl
first_same l t held (OnCondition (CondCall.Broadcast k)) = refl

begun_as : (s : State) (t : ℕ) (o : Op) (r : Result Stage Reply) → BeginsAhead o → begun (unlimited_state s) t (unlimited o) (unlimited_result r) ≡ unlimited_after (begun s t o r)
begun_as s t o (Ok g) ahead = changed_same s s.words s.queues t (record (s.threads t) { stage = g }) (record { stage = unlimited_stage g; held = (s.threads t).held }) (Began t (begun_of s.layout o) None) (Began t (begun_of s.layout (unlimited o)) None) refl (ap (λ (c : Begun). Began t c None) (begun_same s.layout o ahead))
begun_as s t o (Err x) ahead = λ i. record { state = unlimited_state s; note = Began t (begun_same s.layout o ahead i) (Some x) }

-- accesses
went_same : (s : State) (t held m : ℕ) (k : Queue) (a : Access) (g : Led) → went (unlimited_state s) t held m k a (unlimited_led g) ≡ unlimited_after (went s t held m k a g)
went_same s t held m k a g = changed_same s (words_after s t a) (queues_after s t a) t (record { stage = g.stage; held = held_after held g.operation g.point }) (record { stage = unlimited_stage g.stage; held = held_after held g.operation g.point }) (went s t held m k a g).note (went s t held m k a g).note refl refl

spared_same : (s : State) (t held m : ℕ) (g : Led) → spared (unlimited_state s) t held m (unlimited_led g) ≡ unlimited_after (spared s t held m g)
spared_same s t held m g = changed_same s s.words s.queues t (record { stage = g.stage; held = held_after held g.operation g.point }) (record { stage = unlimited_stage g.stage; held = held_after held g.operation g.point }) (spared s t held m g).note (spared s t held m g).note refl refl

module _ (s : State) (t held : ℕ) where
  abbrev s1 : State
  s1 = unlimited_state s

  steps : (g : Stage) → stepped s1 t held (unlimited_stage g) ≡ unlimited_after (stepped s t held g)
  steps (Calling o p) =
      choose (sleeps s t (Calling o p)) _ (nothing s) _ (went s t held (mutex_of s.layout o) (Mutex (mutex_of s.layout o)) (whole_access p) (led o p (whole_led p (answer_of s t (whole_access p))))) _ (sleeps_same s t (Calling o p)) refl
      ((λ i. went s1 t held (mutex_same s.layout o i) (Mutex (mutex_same s.layout o i)) (whole_access p) (led_same o p (whole_led p (answer_of s t (whole_access p))) i)) ∙ went_same s t held (mutex_of s.layout o) (Mutex (mutex_of s.layout o)) (whole_access p) (led o p (whole_led p (answer_of s t (whole_access p)))))
  steps (AtCondition c p) =
      (λ i. went s1 t held (mutex_same s.layout (OnCondition c) i) (Condition (condition_same c i)) (cond_access p) (led_at_same c p (cond_led p (answer_of s t (cond_access p))) i))
      ∙ went_same s t held (mutex_of s.layout (OnCondition c)) (Condition (condition_of c)) (cond_access p) (led_at c p (cond_led p (answer_of s t (cond_access p))))
  steps (Dying w) =
      changed_same s (words_after s t (exit.access_of w)) (queues_after s t (exit.access_of w)) t (walker (stage_walked w row)) (walker (stage_walked w row)) (walked s t held w).note (walked s t held w).note (ap walker (sym (walked_same w row))) refl
    where
      row : walk_row.Row
      row = exit.row_after w.thread w.head w.row (answer_of s t (exit.access_of w))

      walker : Stage → Thread
      walker g = record { stage = g; held = held_after held Operation.Death (told_of (death_at s.layout t (exit.point_of w.thread w.row (answer_of s t (exit.access_of w))))) }
  steps g = refl

  declines : (g : Stage) → declined s1 t held (unlimited_stage g) ≡ unlimited_after (declined s t held g)
  declines (Calling o p) =
      choose (is_trim (whole_access p) && not (sleeps s t (Calling o p))) _ (spared s t held (mutex_of s.layout o) (led o p (whole_led p (Trimmed false)))) _ (nothing s) _ (ap (λ (b : Bool). is_trim (whole_access p) && not b) (sleeps_same s t (Calling o p)))
      ((λ i. spared s1 t held (mutex_same s.layout o i) (led_same o p (whole_led p (Trimmed false)) i)) ∙ spared_same s t held (mutex_of s.layout o) (led o p (whole_led p (Trimmed false)))) refl
  declines (AtCondition c p) = refl
  declines g = refl

  spares : (by : LeftTo) (g : Stage) → sparing s1 t by held (unlimited_stage g) ≡ unlimited_after (sparing s t by held g)
  spares by (Calling o p) =
      choose (wakes_one p.phase && is_left_to s t (mutex_of s.layout o) by) _ (spared s t held (mutex_of s.layout o) (led o p (whole_led p (Count 1)))) _ (nothing s) _
      (ap (λ (b : Bool). wakes_one p.phase && b) (ap (λ (k : ℕ). is_left_to s1 t k by) (mutex_same s.layout o) ∙ left_same s t (mutex_of s.layout o) by))
      ((λ i. spared s1 t held (mutex_same s.layout o i) (led_same o p (whole_led p (Count 1)) i)) ∙ spared_same s t held (mutex_of s.layout o) (led o p (whole_led p (Count 1)))) refl
  spares by (AtCondition c p) =
      choose (wakes_next p.phase && is_left_to s t (mutex_of s.layout (OnCondition c)) by) _ (spared s t held (mutex_of s.layout (OnCondition c)) (led_at c p (cond_led p (Count 1)))) _ (nothing s) _
      (ap (λ (b : Bool). wakes_next p.phase && b) (ap (λ (k : ℕ). is_left_to s1 t k by) (mutex_same s.layout (OnCondition c)) ∙ left_same s t (mutex_of s.layout (OnCondition c)) by))
      ((λ i. spared s1 t held (mutex_same s.layout (OnCondition c) i) (led_at_same c p (cond_led p (Count 1)) i)) ∙ spared_same s t held (mutex_of s.layout (OnCondition c)) (led_at c p (cond_led p (Count 1)))) refl
  spares by g = refl

pub happens_same : (s : State) (e : Event) → IsNoLimit e → happens (unlimited_state s) (unlimited_event e) ≡ unlimited_after (happens s e)
happens_same s (Event.Begin t o) none =
    choose_so (has_thread s t && is_idle (s.threads t).stage && may_call s.layout o) _ (begun s t o (first_stage s.layout t (s.threads t).held o)) _ (nothing s) _ (λ i. has_thread s t && idle_same (s.threads t).stage i && inside_same s.layout o i)
    (λ may. ap (begun (unlimited_state s) t (unlimited o)) (first_same s.layout t (s.threads t).held o) ∙ begun_as s t o (first_stage s.layout t (s.threads t).held o) (may_so s.layout o (third (has_thread s t) (is_idle (s.threads t).stage) (may_call s.layout o) may)).1) refl
happens_same s (Event.Step t) none = choose (has_thread s t) _ (stepped s t (s.threads t).held (s.threads t).stage) _ (nothing s) _ refl (steps s t (s.threads t).held (s.threads t).stage) refl
happens_same s (Event.Kill t) none =
    choose (has_thread s t && is_alive (s.threads t).stage) _ (killed s t) _ (nothing s) _ (ap (λ (b : Bool). has_thread s t && b) (alive_same (s.threads t).stage))
    (changed_same s s.words (killed s t).state.queues t (record (s.threads t) { stage = Dying (exit.begun t (address_in s.layout t (head_place t))) }) _ (killed s t).note _ refl refl) refl
happens_same s (Event.Leave t) none = choose (has_thread s t && is_asleep s t) _ (departed s t) _ (nothing s) _ (ap (λ (b : Bool). has_thread s t && b) (sleeps_same s t (s.threads t).stage)) refl refl
happens_same s (Event.Expire t) none = absurd none
happens_same s (Event.Decline t) none = choose (has_thread s t) _ (declined s t (s.threads t).held (s.threads t).stage) _ (nothing s) _ refl (declines s t (s.threads t).held (s.threads t).stage) refl
happens_same s (Event.Renew t) none =
    choose (has_thread s t && is_gone (s.threads t).stage) _ (renewed s t) _ (nothing s) _ (ap (λ (b : Bool). has_thread s t && b) (gone_same (s.threads t).stage))
    (changed_same s (renewed s t).state.words s.queues t idle idle (renewed s t).note _ refl refl) refl
happens_same s (Event.Remake t m) none =
    choose (machine.may_remake s t m) _ (reinited s t m (waiters_of (s.words (cell_place s.layout m)))) _ (nothing s) _ (ap (λ (b : Bool). has_thread s t && b && nat_lt m s.layout.mutexes && is_unusable s m) (idle_same (s.threads t).stage)) refl refl
happens_same s (Event.Spare t by) none = choose (has_thread s t) _ (sparing s t by (s.threads t).held (s.threads t).stage) _ (nothing s) _ refl (spares s t (s.threads t).held by (s.threads t).stage) refl

-- ---- runs

pub runs_same : (s : State) (es : List Event) → NoLimitComes es → (run (unlimited_state s) (map unlimited_event es) ≡ unlimited_state (run s es)) × (notes (unlimited_state s) (map unlimited_event es) ≡ map unlimited_note (notes s es))
runs_same s [] none = (refl, refl)
runs_same s (e ∷ es) none =
    let same = happens_same s e none.0 in
    let rest = runs_same (happens s e).state es none.1 in (
      (λ i. run (same i).state (map unlimited_event es)) ∙ rest.0,
      (λ i. (same i).note ∷ notes (same i).state (map unlimited_event es)) ∙ ap (λ (ns : List Note). unlimited_note (happens s e).note ∷ ns) rest.1,
    )
