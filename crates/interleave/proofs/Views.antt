-- The machine's lists and the state that they show: a write into a list is a write into the state.
use Rattle.std.proofs.Common.{◌≡◌, ◌≢◌, ℕ, zero, suc, ◌+◌, ◌<◌, ◌≤◌, ◌==◌, Bool, true, false, ◌&&◌, List, [], length, Option, Some, None, Result, Ok, refl, sym, ap, ◌∙◌, subst, arith, slice_index_or, slice_set}
use Rattle.std.specs.Prelude.{if◌then◌else◌, not, slice_index, nat_le, nat_lt}
use mathlib.Core.Path.{fun_ext}
use Rattle.std.proofs.lemmas.Grind.{common_steps}
use Rattle.std.proofs.lemmas.Bool.Decides.{nat_tests}
use Rattle.lockword.specs.declared.reply.Reply.{Reply}
use Rattle.stepprograms.specs.declared.access.Access.{Access}
use Rattle.stepprograms.specs.declared.access.Access.TheVariants as access
use Rattle.stepprograms.specs.declared.access.Answer.{Answer}
use Rattle.stepprograms.specs.declared.access.Answer.TheVariants.{Fault}
use Rattle.posixmutex.specs.declared.point.Decision.{Decision}
use Rattle.posixmutex.specs.declared.point.Operation.{Operation}
use Rattle.posixmutex.specs.declared.point.Point.{Point}
use Rattle.stepprograms.specs.declared.program.Progress.{Progress}
use Rattle.memorymap.specs.Layouts.{Layout', words_of, base_of, place_in}
use Rattle.stepprograms.specs.Accesses.{word_among, answer_among, sleeps_at}
use Rattle.mutex.specs.declared.phase.Phase.{Phase}
use Rattle.mutex.specs.declared.phase.Phase.TheVariants.{Announcing, AtCell, Linking, Unlinking, Clearing, Ended}
use Rattle.mutex.specs.declared.phase.Onward.{Onward}
use Rattle.mutex.specs.Standings.{Whole}
use Rattle.mutex.specs.Whole.{whole_access, whole_led, whole_moved, whole_progress, whole_point, progress_in}
use Rattle.condvar.specs.declared.call.CondCall.{CondCall}
use Rattle.condvar.specs.declared.phase.CondPhase.{CondPhase}
use Rattle.condvar.specs.declared.phase.CondPhase.TheVariants as cond
use Rattle.condvar.specs.declared.phase.CondOnward.{CondOnward}
use Rattle.condvar.specs.Calls as conditions
use Rattle.condvar.specs.Standings.{CondWhole}
use Rattle.condvar.specs.Whole as condition
use Rattle.facts.specs.declared.fact.Queue.{Queue}
use Rattle.facts.specs.declared.fact.Queue.TheVariants.{Mutex}
use Rattle.syscalls.specs.Kernels.{Kernel', queue_of}
use Rattle.syscalls.specs.Memories as memories
use Rattle.condvar.specs.declared.op.Op.{Op}
use Rattle.protocol.specs.declared.event.Event.TheVariants.{Begin, Step}
use Rattle.protocol.specs.declared.thread.Thread.{Thread}
use Rattle.protocol.specs.declared.thread.Stage.{Stage}
use Rattle.protocol.specs.declared.thread.Stage.TheVariants.{Calling}
use Rattle.protocol.specs.declared.note.Note.TheVariants.{Stepped}
use Rattle.condvar.specs.Ops.{mutex_of, may_call}
use Rattle.protocol.specs.Machine.{State, After, Led, put, idle, is_valid, place_met, is_met, joined, queue_after, woken_by, moved_by, answer_of, words_after, queues_after, falls_asleep, woken, moved, slept_in, has_thread, is_idle, places_of, stands_in, may_begin, first_stage, begun, nothing, went, stepped, stage_after, returned, led, stage_at, returned_at, led_at, decided_at, reply_at, held_after, decision, happens}
use Rattle.protocol.proofs.Puts.{by_put}
use Rattle.protocol.proofs.Steps.{unmoved}
use Rattle.protocol.proofs.Queues.{stands_none}
use Rattle.interleave.specs.declared.accesses.Performed.{Performed}
use Rattle.interleave.specs.declared.calls.InCall.{InCall}
use Rattle.interleave.specs.declared.calls.InCall.TheVariants as in_call
use Rattle.interleave.specs.Calls.{access_of, led_by, op_of, progress_behind, queue_in, stage_behind, stage_of}
use Rattle.interleave.specs.Shown.{thread_at, state_at}
use Rattle.interleave.specs.Perform.{Performs, list_words, list_met, list_joined, point_in, held_with, decision_with, reply_in, replying, stage_in, stage_at_in}

-- a word that is set in the list is put in the state
pub words-set : (ws : List ℕ) (k v : ℕ) → k < length ws → (λ p. slice_index (slice_set ws k v) p) ≡ put (λ p. slice_index ws p) k v
words-set ws k v lt =
    fun_ext (λ p. by_put (λ x. slice_index (slice_set ws k v) p ≡ x) (λ p. slice_index ws p) k v p
    (λ is. grind (arith, common_steps))
    (λ apart. grind (arith, common_steps)))

-- thread t is at t - 1
pub thread_at-index : (ts : List Thread) (k t : ℕ) → k + 1 ≡ t → thread_at ts t ≡ slice_index_or ts k idle
thread_at-index ts k zero e = absurd (omega arith)
thread_at-index ts k (suc i) e = let same : i ≡ k = omega arith in ap (λ j. slice_index_or ts j idle) same

-- a thread that is set in the list is put in the state
thread_at-set : (ts : List Thread) (k t : ℕ) (x : Thread) → k + 1 ≡ t → k < length ts → (u : ℕ) → thread_at (slice_set ts k x) u ≡ put (thread_at ts) t x u
thread_at-set ts k t x e lt zero = by_put (λ z. thread_at ts zero ≡ z) (thread_at ts) t x zero (λ is. absurd (omega arith)) (λ apart. refl)
thread_at-set ts k t x e lt (suc i) =
    by_put (λ z. slice_index_or (slice_set ts k x) i idle ≡ z) (thread_at ts) t x (suc i)
    (λ is. let here : i ≡ k = omega arith in grind (arith, common_steps))
    (λ apart. let there : i ≢ k = λ (same : i ≡ k). apart (omega (arith, same)) in grind (arith, common_steps))

-- the same of all threads at once
pub threads-set : (ts : List Thread) (k t : ℕ) (x : Thread) → k + 1 ≡ t → k < length ts → thread_at (slice_set ts k x) ≡ put (thread_at ts) t x
threads-set ts k t x e lt = fun_ext (thread_at-set ts k t x e lt)

-- ---- a call begins

-- a begin of a thread in no call
pub begin_ran : (l : Layout') (ws : List ℕ) (kernel : Kernel') (ts : List Thread) (t : ℕ) (o : Op) (r : Result Stage Reply) (th : Thread) → 1 ≤ t → t ≤ l.threads → may_call l o ≡ true
    → thread_at ts t ≡ th → is_idle th.stage ≡ true → first_stage l t th.held o ≡ r → happens (state_at l ws kernel ts) (Begin t o) ≡ begun (state_at l ws kernel ts) t o r
begin_ran l ws kernel ts t o r th pos known inside e rests starts =
    let s : State = state_at l ws kernel ts in
    let resting : is_idle (thread_at ts t).stage ≡ true = ap (λ (z : Thread). is_idle z.stage) e ∙ rests in
    let may : may_begin s t o ≡ true = grind (arith, nat_tests, resting, inside) in
    ap (λ (b : Bool). if b then begun s t o (first_stage l t (thread_at ts t).held o) else nothing s) may
    ∙ ap (begun s t o) (ap (λ (z : Thread). first_stage l t z.held o) e ∙ starts)

-- the state after one that isn't refused
pub begin_state : (l : Layout') (ws : List ℕ) (kernel : Kernel') (ts : List Thread) (k t : ℕ) (o : Op) (g : Stage) (th : Thread) → 1 ≤ t → t ≤ l.threads → k + 1 ≡ t → length ts ≡ l.threads → may_call l o ≡ true
    → thread_at ts t ≡ th → is_idle th.stage ≡ true → first_stage l t th.held o ≡ Ok g
    → state_at l ws kernel (slice_set ts k (record { stage = g; held = th.held })) ≡ (happens (state_at l ws kernel ts) (Begin t o)).state
begin_state l ws kernel ts k t o g th pos known at len inside e rests starts =
    let same : thread_at (slice_set ts k (record { stage = g; held = th.held })) ≡ put (thread_at ts) t (record { stage = g; held = (thread_at ts t).held }) =
    threads-set ts k t (record { stage = g; held = th.held }) at (omega arith) ∙ ap (λ (z : Thread). put (thread_at ts) t (record { stage = g; held = z.held })) (sym e) in
    (λ i. record { layout = l; words = λ q. slice_index ws q; queues = λ q. queue_of kernel q; threads = same i })
    ∙ sym (ap (λ (a : After). a.state) (begin_ran l ws kernel ts t o (Ok g) th pos known inside e rests starts))

-- ---- an access

-- a function with the value that it has there anyway
pub put-itself : {A : Type 0} (f : ℕ → A) (k : ℕ) → put f k (f k) ≡ f
put-itself f k = fun_ext (λ p. by_put (λ x. x ≡ f p) f k (f k) p (λ is. ap f (sym is)) (λ apart. refl))

module _ (l : Layout') (ws : List ℕ) (kernel : Kernel') (ts : List Thread) (room : length ws ≡ words_of l) (t : ℕ) where
  abbrev words : ℕ → ℕ
  words = λ q. slice_index ws q

  -- a place is valid in the list as it is in the layout
  valid-is : (at : ℕ) → memories.is_valid ws at ≡ is_valid l at
  valid-is at = ap (λ (n : ℕ). nat_le 1 at && nat_lt at n) room

  met-is : (a : Access) → list_met ws (base_of l t) a ≡ is_met l t a
  met-is (access.Requeue from n to k) = λ i. valid-is (place_in l t from) i && (valid-is (place_in l t to) i && not (place_in l t from == place_in l t to))
  met-is (access.CmpRequeue from e n to k) = λ i. valid-is (place_in l t from) i && (valid-is (place_in l t to) i && not (place_in l t from == place_in l t to))
  met-is a = valid-is (place_met l t a)

  -- the list's words, with a new one at a place where there is one
  set-is : (at v : ℕ) → (λ q. slice_index (if memories.is_valid ws at then slice_set ws at v else ws) q) ≡ (if is_valid l at then put words at v else words)
  set-is at v = ap (λ (b : Bool). λ (q : ℕ). slice_index (if b then slice_set ws at v else ws) q) (valid-is at) ∙ go (is_valid l at) refl
    where
      go : (b : Bool) → is_valid l at ≡ b → (λ q. slice_index (if b then slice_set ws at v else ws) q) ≡ (if b then put words at v else words)
      go true e = words-set ws at v (grind (arith, nat_tests))
      go false e = refl

  -- a requeue changes none, where it is refused and where it isn't
  same-is : (at : ℕ) (b c : Bool) → (if b then put words at (words at) else words) ≡ (if c then put words at (words at) else words)
  same-is at true true = refl
  same-is at true false = put-itself words at
  same-is at false true = sym (put-itself words at)
  same-is at false false = refl

  -- the words after an access
  pub words-is : (a : Access) → (λ q. slice_index (list_words ws kernel (base_of l t) a) q) ≡ words_after (state_at l ws kernel ts) t a
  words-is (access.Requeue from n to k) = set-is (place_in l t from) (words (place_in l t from)) ∙ same-is (place_in l t from) (is_valid l (place_in l t from)) (is_met l t (access.Requeue from n to k))
  words-is (access.CmpRequeue from e n to k) = set-is (place_in l t from) (words (place_in l t from)) ∙ same-is (place_in l t from) (is_valid l (place_in l t from)) (is_met l t (access.CmpRequeue from e n to k))
  words-is a = set-is (place_met l t a) (word_among a (words (place_met l t a)) (queue_of kernel (place_met l t a)))

  joined-is : (a : Access) (us : List ℕ) (queues : ℕ → List ℕ) → list_joined (base_of l t) a us queues ≡ joined l t a us queues
  joined-is (access.Requeue from n to k) us queues = refl
  joined-is (access.CmpRequeue from e n to k) us queues = refl
  joined-is a us queues = refl

  module _ (a : Access) (after : Kernel') (done : Performed) (performs : Performs ws kernel after (base_of l t) t a done) where
    abbrev w : ℕ
    w = slice_index ws (place_met l t a)

    abbrev q : List ℕ
    q = queue_of kernel (place_met l t a)

    pub answer-is : done.answer ≡ answer_of (state_at l ws kernel ts) t a
    answer-is = performs.answer ∙ ap (λ (b : Bool). if b then answer_among a w q else Fault) (met-is a)

    pub queues-is : (λ p. queue_of after p) ≡ queues_after (state_at l ws kernel ts) t a
    queues-is =
        fun_ext performs.queues
        ∙ ap (λ (b : Bool). if b then list_joined (base_of l t) a (moved_by a w q) (put (queue_of kernel) (place_met l t a) (queue_after t a w q)) else queue_of kernel) (met-is a)
        ∙ ap (λ (f : ℕ → List ℕ). if is_met l t a then f else queue_of kernel) (joined-is a (moved_by a w q) (put (queue_of kernel) (place_met l t a) (queue_after t a w q)))

    pub slept-is : done.slept ≡ falls_asleep (state_at l ws kernel ts) t a
    slept-is = performs.slept ∙ ap (λ (b : Bool). b && sleeps_at a w) (met-is a)

    pub woken-is : done.woken ≡ woken (state_at l ws kernel ts) t a
    woken-is = performs.woken ∙ ap (λ (b : Bool). if b then woken_by a w q else []) (met-is a)

    pub moved-is : done.moved ≡ moved (state_at l ws kernel ts) t a
    moved-is = performs.moved ∙ ap (λ (b : Bool). if b then moved_by a w q else []) (met-is a)

-- ---- what a program says of its step, and what the definition does

-- without a point a thread holds as many mutexes, and nothing is decided
pub held-with : (op : Operation) (held : ℕ) (pt : Option Point) → held_with held pt ≡ held_after held (decided_at op pt) (reply_at pt)
held-with op held None = sym (unmoved op held)
held-with op held (Some p) = refl

pub decision-with : (t m : ℕ) (op : Operation) (pt : Option Point) → decision_with t m pt ≡ decision t m (decided_at op pt) (reply_at pt)
decision-with t m op None = refl
decision-with t m op (Some p) = refl

-- of a mutex's program
module _ (o : Op) (p : Whole) where
  stage-of : (pt : Option Point) (f : Phase) → stage_in o (record p { phase = f }) (replying o (progress_in pt f)) ≡ stage_after o p f
  stage-of pt (Announcing r) = refl
  stage-of pt (AtCell r) = refl
  stage-of pt (Linking l x) = refl
  stage-of pt (Unlinking u d) = refl
  stage-of pt (Clearing x) = refl
  stage-of pt (Ended x) = refl

  returned-of : (pt : Option Point) (f : Phase) → reply_in (replying o (progress_in pt f)) ≡ returned o f
  returned-of pt (Announcing r) = refl
  returned-of pt (AtCell r) = refl
  returned-of pt (Linking l x) = refl
  returned-of pt (Unlinking u d) = refl
  returned-of pt (Clearing x) = refl
  returned-of pt (Ended x) = refl

  point-of : (pt : Option Point) (f : Phase) → point_in (replying o (progress_in pt f)) ≡ pt
  point-of pt (Announcing r) = refl
  point-of pt (AtCell r) = refl
  point-of pt (Linking l x) = refl
  point-of pt (Unlinking u d) = refl
  point-of pt (Clearing x) = refl
  point-of pt (Ended x) = refl

  held-of : (held : ℕ) (x : Option Reply) → held_with held (whole_point p x) ≡ held_after held p.operation x
  held-of held None = sym (unmoved p.operation held)
  held-of held (Some x) = refl

  decision-of : (t m : ℕ) (x : Option Reply) → decision_with t m (whole_point p x) ≡ decision t m p.operation x
  decision-of t m None = refl
  decision-of t m (Some x) = refl

-- of a call on a condition variable
module _ (c : CondCall) (p : CondWhole) where
  stage-at : (pt : Option Point) (f : CondPhase) → stage_at_in c (record p { phase = f }) (condition.progress_in pt f) ≡ stage_at c p f
  stage-at pt (cond.AtWords r) = refl
  stage-at pt (cond.Announcing x) = refl
  stage-at pt (cond.Unlinking u x) = refl
  stage-at pt (cond.Locking w) = refl
  stage-at pt (cond.Ended x) = refl

  returned-at : (pt : Option Point) (f : CondPhase) → reply_in (condition.progress_in pt f) ≡ returned_at f
  returned-at pt (cond.AtWords r) = refl
  returned-at pt (cond.Announcing x) = refl
  returned-at pt (cond.Unlinking u x) = refl
  returned-at pt (cond.Locking w) = refl
  returned-at pt (cond.Ended x) = refl

  point-at : (pt : Option Point) (f : CondPhase) → point_in (condition.progress_in pt f) ≡ pt
  point-at pt (cond.AtWords r) = refl
  point-at pt (cond.Announcing x) = refl
  point-at pt (cond.Unlinking u x) = refl
  point-at pt (cond.Locking w) = refl
  point-at pt (cond.Ended x) = refl

-- ---- a step

-- what the code made of an answer: the stage of its thread then, how many mutexes this owns, the point, and what is returned
pub record Made : Type 0 where
  pub stage : Stage
  pub held : ℕ
  pub point : Option Decision
  pub returned : Option Reply

-- it is what the definition makes of it
pub record IsMade (t m before : ℕ) (g : Led) (made : Made) : Type 0 where
  pub stage : made.stage ≡ g.stage
  pub held : made.held ≡ held_after before g.operation g.point
  pub point : made.point ≡ decision t m g.operation g.point
  pub returned : made.returned ≡ g.returned

pub made_called : (t m held : ℕ) (o : Op) (p p' : Whole) (g : Onward) (pr : Progress) → p' ≡ whole_moved p g → pr ≡ replying o (whole_progress p g)
    → IsMade t m held (led o p g) (record { stage = stage_in o p' pr; held = held_with held (point_in pr); point = decision_with t m (point_in pr); returned = reply_in pr })
made_called t m held o p p' g pr moves says =
    let point : point_in pr ≡ whole_point p g.point = ap point_in says ∙ point-of o p (whole_point p g.point) g.phase in
    record {
      stage = (λ i. stage_in o (moves i) (says i)) ∙ stage-of o p (whole_point p g.point) g.phase;
      held = ap (held_with held) point ∙ held-of o p held g.point;
      point = ap (decision_with t m) point ∙ decision-of o p t m g.point;
      returned = ap reply_in says ∙ returned-of o p (whole_point p g.point) g.phase;
    }

pub made_at : (t m held : ℕ) (c : CondCall) (p p' : CondWhole) (g : CondOnward) (pr : Progress) → p' ≡ condition.cond_moved p g → pr ≡ condition.cond_progress g
    → IsMade t m held (led_at c p g) (record { stage = stage_at_in c p' pr; held = held_with held (point_in pr); point = decision_with t m (point_in pr); returned = reply_in pr })
made_at t m held c p p' g pr moves says =
    let point : point_in pr ≡ g.point = ap point_in says ∙ point-at c p g.point g.phase in
    record {
      stage = (λ i. stage_at_in c (moves i) (says i)) ∙ stage-at c p g.point g.phase;
      held = ap (held_with held) point ∙ held-with (conditions.acts_as c) held g.point;
      point = ap (decision_with t m) point ∙ decision-with t m (conditions.acts_as c) g.point;
      returned = ap reply_in says ∙ returned-at c p g.point g.phase;
    }

-- an access of thread t, which stands in no queue, of a call about mutex m that would sleep in queue q
module _ (l : Layout') (ws ws' : List ℕ) (kernel after : Kernel') (ts : List Thread) (k t m : ℕ) (q : Queue) (a : Access) (f : Answer → Led) (th : Thread) (done : Performed) (made : Made)
    (known : t ≤ l.threads) (at : k + 1 ≡ t) (len : length ts ≡ l.threads) (room : length ws ≡ words_of l)
    (e : thread_at ts t ≡ th) (goes : stepped (state_at l ws kernel ts) t th.held th.stage ≡ went (state_at l ws kernel ts) t th.held m q a (f (answer_of (state_at l ws kernel ts) t a)))
    (performs : Performs ws kernel after (base_of l t) t a done) (wrote : ws' ≡ list_words ws kernel (base_of l t) a) (is_made : IsMade t m th.held (f done.answer) made) where
  abbrev s : State
  s = state_at l ws kernel ts

  abbrev to : Led
  to = f (answer_of s t a)

  leads : f done.answer ≡ to
  leads = ap f (answer-is l ws kernel ts room t a after done performs)

  as_told : IsMade t m th.held to made
  as_told = subst (λ (g : Led). IsMade t m th.held g made) leads is_made

  ran : happens s (Step t) ≡ went s t th.held m q a to
  ran =
      let is : has_thread s t ≡ true = grind (arith, nat_tests) in
      ap (λ (b : Bool). if b then stepped s t (thread_at ts t).held (thread_at ts t).stage else nothing s) is ∙ ap (λ (z : Thread). stepped s t z.held z.stage) e ∙ goes

  step_state : state_at l ws' after (slice_set ts k (record { stage = made.stage; held = made.held })) ≡ (happens s (Step t)).state
  step_state =
      let words : (λ p. slice_index ws' p) ≡ words_after s t a = ap (λ (v : List ℕ). λ (p : ℕ). slice_index v p) wrote ∙ words-is l ws kernel ts room t a in
      let queues : (λ p. queue_of after p) ≡ queues_after s t a = queues-is l ws kernel ts room t a after done performs in
      let threads : thread_at (slice_set ts k (record { stage = made.stage; held = made.held })) ≡ put (thread_at ts) t (record { stage = to.stage; held = held_after th.held to.operation to.point }) =
      threads-set ts k t (record { stage = made.stage; held = made.held }) at (omega arith) ∙ (λ i. put (thread_at ts) t (record { stage = as_told.stage i; held = as_told.held i })) in
      (λ i. record { layout = l; words = words i; queues = queues i; threads = threads i }) ∙ sym (ap (λ (x : After). x.state) ran)

  step_note : Stepped t m made.point (slept_in q done.slept) done.woken done.moved made.returned ≡ (happens s (Step t)).note
  step_note =
      let slept : done.slept ≡ falls_asleep s t a = slept-is l ws kernel ts room t a after done performs in
      let wakes : done.woken ≡ woken s t a = woken-is l ws kernel ts room t a after done performs in
      let moves : done.moved ≡ moved s t a = moved-is l ws kernel ts room t a after done performs in
      (λ i. Stepped t m (as_told.point i) (slept_in q (slept i)) (wakes i) (moves i) (as_told.returned i)) ∙ sym (ap (λ (x : After). x.note) ran)

  -- both what it leaves and what is noted of it
  pub step_shows : (state_at l ws' after (slice_set ts k (record { stage = made.stage; held = made.held })) ≡ (happens s (Step t)).state)
      × (Stepped t m made.point (slept_in q done.slept) done.woken done.moved made.returned ≡ (happens s (Step t)).note)
  step_shows = (step_state, step_note)

-- a thread that stands in no queue makes the next access of its call
goes_called : (s : State) (t held : ℕ) (o : Op) (p : Whole) (g : Stage) → g ≡ Calling o p → ((key : ℕ) → stands_in t (s.queues key) ≡ false)
    → stepped s t held g ≡ went s t held (mutex_of s.layout o) (Mutex (mutex_of s.layout o)) (whole_access p) (led o p (whole_led p (answer_of s t (whole_access p))))
goes_called s t held o p g is awake =
    ap (stepped s t held) is
    ∙ ap (λ (b : Bool). if b then nothing s else went s t held (mutex_of s.layout o) (Mutex (mutex_of s.layout o)) (whole_access p) (led o p (whole_led p (answer_of s t (whole_access p))))) (stands_none t s.queues (places_of s.layout (Calling o p)) awake)

-- ---- of a call in progress, whatever it is on

-- what the code makes of an answer is what the definition makes of it
pub made_by : (t m held : ℕ) (k : InCall) (x : Answer)
    → IsMade t m held (led_by k x) (record { stage = stage_behind k x; held = held_with held (point_in (progress_behind k x)); point = decision_with t m (point_in (progress_behind k x)); returned = reply_in (progress_behind k x) })
made_by t m held (in_call.Calling o p) x = made_called t m held o p (whole_moved p (whole_led p x)) (whole_led p x) (replying o (whole_progress p (whole_led p x))) refl refl
made_by t m held (in_call.AtCondition c p) x = made_at t m held c p (condition.cond_moved p (condition.cond_led p x)) (condition.cond_led p x) (condition.cond_progress (condition.cond_led p x)) refl refl

-- a thread that stands in no queue makes its next access
pub goes_by : (s : State) (t held : ℕ) (k : InCall) (g : Stage) → g ≡ stage_of k → ((key : ℕ) → stands_in t (s.queues key) ≡ false)
    → stepped s t held g ≡ went s t held (mutex_of s.layout (op_of k)) (queue_in (mutex_of s.layout (op_of k)) k) (access_of k) (led_by k (answer_of s t (access_of k)))
goes_by s t held (in_call.Calling o p) g is awake = goes_called s t held o p g is awake
goes_by s t held (in_call.AtCondition c p) g is awake = ap (stepped s t held) is
