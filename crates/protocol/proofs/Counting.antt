-- A counter is what it was at first, and one more for each signal and broadcast.
use Rattle.std.proofs.Common.{◌≡◌, ◌≢◌, ℕ, ◌+◌, ◌<◌, ◌≤◌, ◌==◌, Bool, true, false, Option, Some, None, Ok, Err, List, [], ◌∷◌, ◌++◌, length, refl, sym, ap, ◌∙◌, subst, arith, eq-eqb, add-zero}
use Rattle.protocol.proofs.Vocabulary.{CondCall, CondRow, CondWhole, CondOnward, cond_access, cond_led, condition_of, met_word, counter_after, full, Mutex, Condition, Queue, Fact, Begun, Decision, Operation, Layout', counter_place}
use Rattle.protocol.proofs.Vocabulary.{Reply, OK, XHELD, Whole, whole_access, whole_led, Op, OnCondition, mutex_of, begun_of, reinit_of, Event, Note, Stepped, Walked, Stage, Calling, AtCondition, Dying, State, After, answer_at, decision, decided_at, reply_at, facts_of, facts_among}
use Rattle.protocol.proofs.Vocabulary.{return_facts, reap_facts, led, led_at, begun, walked, happens, run, notes, start, place_met, if◌then◌else◌, last_begun}
use Rattle.lockword.specs.declared.reply.Reply.TheVariants.{ETIMEDOUT}
use Rattle.posixmutex.specs.declared.point.Point.{Point}
use Rattle.exitwalk.specs.Standings as walks
use Rattle.condvar.specs.declared.row.Decided.{Decided}
use Rattle.condvar.specs.Calls.{acts_as}
use Rattle.condvar.specs.Rows.{IsGoing}
use Rattle.condvar.specs.Programs.{row_access, resume_of, point_of}
use Rattle.protocol.specs.Counting.{one_on, one_of, signals_in, CountersCountUp}
use Rattle.protocol.proofs.Puts.{put-other}
use Rattle.protocol.proofs.Cases.{by_same}
use Rattle.protocol.proofs.Seeing.{head_in}
use Rattle.protocol.proofs.Kept.{IsFor, Kept}
use Rattle.protocol.proofs.Places.{counter_is_no_cell}
use Rattle.protocol.proofs.Steps.{met_no_move, after, went-is, call_step, call_note, cond_onto, cond_note, its_mutex, its_cell, its_counter, cond_after, cell_at, counter_at}
use Rattle.protocol.proofs.Frames.{knows_at}
use Rattle.protocol.proofs.CallSteps.{call_stepping}
use Rattle.protocol.proofs.Accesses.{goes, fits_in}
use Rattle.protocol.proofs.CondAccesses.{cond_stepping}
use Rattle.protocol.proofs.Counters.{CondMove, By_row, Before_release, CondGoes, cond_moves, KnowsCount, KnowsAt, KnowsIn, Counted, first_word-counter, counted_on, run_counted, start_counted}
use Rattle.protocol.proofs.WalkSteps.{walk_no_move, walk_access, walk_after, death_then, walked-is, DeathTells, WalkStep, walk_step}
use Rattle.protocol.proofs.Working.{walk_is}
use Rattle.protocol.proofs.Declines.{spared_is}
use Rattle.protocol.proofs.Renewals.{renewed_counter}
use Rattle.protocol.proofs.Vocabulary.{cell_place}
use Rattle.protocol.proofs.Reinits.{waiters_say_nothing, reinited_counter}
use Rattle.protocol.proofs.Events.{begins_at, by_event, by_stage}
use Rattle.protocol.proofs.NoteFacts.{IsOfSleep, behind_point, of_walk}
use Rattle.protocol.specs.Applies.{IsTold}
use Rattle.protocol.proofs.CallsTold.{told_on, told_run}
use Rattle.protocol.proofs.Runs.{sound, start_kept, run_kept, run_layout}
use Rattle.protocol.specs.PassedBy.{call_told}
use Rattle.protocol.proofs.Sparing.{spare_is}

-- ---- facts

abbrev calls_after : (ℕ → Option Begun) → List Fact → ℕ → Option Begun
calls_after calls [] = calls
calls_after calls (Fact.Begin u b ∷ fs) = calls_after (λ t. if u == t then Some b else calls t) fs
calls_after calls (f ∷ fs) = calls_after calls fs

calls_last : (t : ℕ) (calls : ℕ → Option Begun) (fs : List Fact) → calls_after calls fs t ≡ last_begun t (calls t) fs
calls_last t calls [] = refl
calls_last t calls (Fact.Begin u b ∷ fs) = calls_last t (λ t. if u == t then Some b else calls t) fs
calls_last t calls (f ∷ fs) = calls_last t calls fs

signals_append : (k : ℕ) (calls : ℕ → Option Begun) (fs gs : List Fact) → signals_in k calls (fs ++ gs) ≡ signals_in k calls fs + signals_in k (calls_after calls fs) gs
signals_append k calls [] gs = omega arith
signals_append k calls (Fact.Begin u b ∷ fs) gs = signals_append k (λ t. if u == t then Some b else calls t) fs gs
signals_append k calls (Fact.Point d ∷ fs) gs = let later = signals_append k calls fs gs in omega (arith, later)
signals_append k calls (f ∷ fs) gs = signals_append k calls fs gs

-- those of an access
abbrev of_decision : ℕ → (ℕ → Option Begun) → Option Decision → ℕ
of_decision k calls None = 0
of_decision k calls (Some d) = one_of k (calls d.thread) d.operation d.reply

none_slept : (k : ℕ) (calls : ℕ → Option Begun) (u : ℕ) (f : Fact) (fs : List Fact) → IsOfSleep u f → signals_in k calls fs ≡ 0 → signals_in k calls (f ∷ fs) ≡ 0
none_slept k calls u (Fact.Sleep t q) fs of none = none
none_slept k calls u (Fact.Wake t) fs of none = none
none_slept k calls u (Fact.Move t m) fs of none = none
none_slept k calls u f fs of none = absurd of

none_returned : (k : ℕ) (calls : ℕ → Option Begun) (u : ℕ) (y : Option Reply) → signals_in k calls (return_facts u y) ≡ 0
none_returned k calls u None = refl
none_returned k calls u (Some x) = refl

none_reaped : (k : ℕ) (calls : ℕ → Option Begun) (u : ℕ) (y : Bool) → signals_in k calls (reap_facts u y) ≡ 0
none_reaped k calls u false = refl
none_reaped k calls u true = refl

signals_stepped : (k : ℕ) (calls : ℕ → Option Begun) (u m : ℕ) (d : Option Decision) (q : Option Queue) (ws ms : List ℕ) (y : Option Reply) → signals_in k calls (facts_of (Stepped u m d q ws ms y)) ≡ of_decision k calls d
signals_stepped k calls u m None q ws ms y = behind_point (λ (fs : List Fact). signals_in k calls fs ≡ 0) u m q ws ms (return_facts u y) (λ f of fs none. none_slept k calls u f fs of none) (none_returned k calls u y)
signals_stepped k calls u m (Some d) q ws ms y =
    let behind = behind_point (λ (fs : List Fact). signals_in k calls fs ≡ 0) u m q ws ms (return_facts u y) (λ f of fs none. none_slept k calls u f fs of none) (none_returned k calls u y) in
    ap (λ (n : ℕ). one_of k (calls d.thread) d.operation d.reply + n) behind ∙ add-zero (one_of k (calls d.thread) d.operation d.reply)

-- as it is noted
stepped_noted : (k : ℕ) (calls : ℕ → Option Begun) (u m : ℕ) (d : Option Decision) (q : Option Queue) (ws ms : List ℕ) (y : Option Reply) (n : Note) → n ≡ Stepped u m d q ws ms y → signals_in k calls (facts_of n) ≡ of_decision k calls d
stepped_noted k calls u m d q ws ms y n is = ap (λ (x : Note). signals_in k calls (facts_of x)) is ∙ signals_stepped k calls u m d q ws ms y

signals_walked : (k : ℕ) (calls : ℕ → Option Begun) (u : ℕ) (d : Option ℕ) (ws : List ℕ) (y : Bool) → signals_in k calls (facts_of (Walked u d ws y)) ≡ 0
signals_walked k calls u d ws y = of_walk (λ (fs : List Fact). signals_in k calls fs ≡ 0) u d ws y (λ m fs none. none) (λ w fs none. none) (none_reaped k calls u y)

walked_noted : (k : ℕ) (calls : ℕ → Option Begun) (u : ℕ) (d : Option ℕ) (ws : List ℕ) (y : Bool) (n : Note) → n ≡ Walked u d ws y → signals_in k calls (facts_of n) ≡ 0
walked_noted k calls u d ws y n is = ap (λ (x : Note). signals_in k calls (facts_of x)) is ∙ signals_walked k calls u d ws y

-- ---- what counts

refused_none : (k : ℕ) (b : Option Begun) (op : Operation) → one_of k b op XHELD ≡ 0
refused_none k b op = grind (arith)

reinit_none : (k : ℕ) (b : Option Begun) → one_of k b Operation.Reinit OK ≡ 0
reinit_none k b = grind (arith)

expired_none : (k : ℕ) (b : Option Begun) → one_of k b Operation.TimedLock ETIMEDOUT ≡ 0
expired_none k b = grind (arith)

-- no call on a mutex, and no lock that ends a wait
called_none : (k : ℕ) (l : Layout') (o : Op) (op : Operation) (b : Option Begun) (x : Reply) → IsFor l o op → one_of k b op x ≡ 0
called_none k l o op b x is = grind (arith)

abbrev counts : Operation → Reply → ℕ
counts Operation.Signal OK = 1
counts Operation.Broadcast OK = 1
counts op x = 0

abbrev counts_by : Option Decided → ℕ
counts_by None = 0
counts_by (Some d) = counts d.operation d.reply

-- on this condition variable
one_self : (k : ℕ) → one_on k (Some k) ≡ 1
one_self k = ap (λ (e : Bool). if e then 1 else 0) (eq-eqb k k refl)

by_one : (k : ℕ) (b : Begun) (op : Operation) (x : Reply) → one_on k b.condition ≡ 1 → one_of k (Some b) op x ≡ counts op x
by_one k b op x one = grind (arith)

counts_here : (k : ℕ) (b : Begun) (op : Operation) (x : Reply) → b.condition ≡ Some k → one_of k (Some b) op x ≡ counts op x
counts_here k b op x is = by_one k b op x (ap (one_on k) is ∙ one_self k)

-- on another
counts_there : (k j : ℕ) (b : Begun) (op : Operation) (x : Reply) → b.condition ≡ Some j → j ≢ k → one_of k (Some b) op x ≡ 0
counts_there k j b op x is apart = grind (arith)

-- a row leaves the counter one greater exactly where it counts
count_row : (t cell counter w n : ℕ) (r : CondRow) → IsGoing r → KnowsCount n r → n ≤ full → counter_after t cell counter r n ≡ n + counts_by (resume_of t r (answer_at (row_access t cell counter r) (met_word r w n))).decided
count_row t cell counter w n r going knows most = grind (arith)

-- ---- one event

module _ (s : State) (k : ℕ) (calls : ℕ → Option Begun) (inv : Kept s) (counted : Counted s) (inside : k < length s.layout.conditions) (told : (t : ℕ) → IsTold s.layout (s.threads t).stage (calls t)) where
  abbrev at : ℕ
  at = counter_place s.layout k

  abbrev CountsUp : After → Type 0
  CountsUp a = a.state.words at ≡ s.words at + signals_in k calls (facts_of a.note)

  -- nothing counts, and the counter stays
  stays : (w : ℕ) (n : Note) → w ≡ s.words at → signals_in k calls (facts_of n) ≡ 0 → w ≡ s.words at + signals_in k calls (facts_of n)
  stays w n same none = omega (arith, same, none)

  begins : (u : ℕ) (o : Op) (b : Bool) → CountsUp (begun s u o (if b then Err XHELD else Ok (begins_at s.layout u o)))
  begins u o true = let none = refused_none k (if u == u then Some (begun_of s.layout o) else calls u) (begun_of s.layout o).operation in omega (arith, none)
  begins u o false = omega arith

  called : (u : ℕ) (o : Op) (p : Whole) → 1 ≤ u → u ≤ s.layout.threads → (s.threads u).stage ≡ Calling o p → CountsUp (record { state = after s u (call_step s u o p); note = call_note s u o p })
  called u o p pos known is =
      stays _ (call_note s u o p) ((goes s u o p inv pos known is).counters k)
      (stepped_noted k calls u (mutex_of s.layout o) _ _ _ _ _ (call_note s u o p) refl ∙ none _)
    where
      none : (x : Option Reply) → of_decision k calls (decision u (mutex_of s.layout o) p.operation x) ≡ 0
      none None = refl
      none (Some x) = called_none k s.layout o p.operation (calls u) x (fits_in s u o p inv pos known is).1

  at_condition : (u : ℕ) (c : CondCall) (p : CondWhole) → 1 ≤ u → u ≤ s.layout.threads → (s.threads u).stage ≡ AtCondition c p → CountsUp (record { state = cond_after s u c p; note = cond_note s u c p })
  at_condition u c p pos known is = by_same (condition_of c) k (here moved.move) there
    where
      moved : CondGoes s u c p
      moved = cond_moves s u c inv pos known p is

      call_is : calls u ≡ Some (begun_of s.layout (OnCondition c))
      call_is = subst (λ (g : Stage). IsTold s.layout g (calls u)) is (told u)

      abbreviated : (x : Option Point) → signals_in k calls (facts_of (cond_note s u c p)) ≡ of_decision k calls (decision u (its_mutex s c) (decided_at (acts_as c) (cond_onto s u p).point) (reply_at (cond_onto s u p).point))
      abbreviated x = stepped_noted k calls u (its_mutex s c) _ _ _ _ _ (cond_note s u c p) refl

      of_point : (x : Option Point) → (cond_onto s u p).point ≡ x → signals_in k calls (facts_of (cond_note s u c p)) ≡ of_decision k calls (decision u (its_mutex s c) (decided_at (acts_as c) x) (reply_at x))
      of_point x e = abbreviated x ∙ ap (λ (y : Option Point). of_decision k calls (decision u (its_mutex s c) (decided_at (acts_as c) y) (reply_at y))) e

      there : condition_of c ≢ k → CountsUp (record { state = cond_after s u c p; note = cond_note s u c p })
      there apart = stays _ (cond_note s u c p) (moved.others k (λ e. apart (sym e))) (of_point (cond_onto s u p).point refl ∙ none (cond_onto s u p).point)
        where
          none : (x : Option Point) → of_decision k calls (decision u (its_mutex s c) (decided_at (acts_as c) x) (reply_at x)) ≡ 0
          none None = refl
          none (Some y) = ap (λ (b : Option Begun). one_of k b y.operation y.reply) call_is ∙ counts_there k (condition_of c) (begun_of s.layout (OnCondition c)) y.operation y.reply refl apart

      by_decided : (x : Option Decided) → condition_of c ≡ k → of_decision k calls (decision u (its_mutex s c) (decided_at (acts_as c) (point_of p.thread p.cell x)) (reply_at (point_of p.thread p.cell x))) ≡ counts_by x
      by_decided None same = refl
      by_decided (Some d) same = ap (λ (b : Option Begun). one_of k b d.operation d.reply) call_is ∙ counts_here k (begun_of s.layout (OnCondition c)) d.operation d.reply (ap Some same)

      knows : KnowsAt (s.words (its_counter s c)) p.phase
      knows = subst (KnowsIn s.layout s.words) is (counted.knows u pos known)

      here : CondMove s u c p → condition_of c ≡ k → CountsUp (record { state = cond_after s u c p; note = cond_note s u c p })
      here (Before_release x before later none same) e =
          stays _ (cond_note s u c p) (subst (λ (j : ℕ). (cond_after s u c p).words (counter_place s.layout j) ≡ s.words (counter_place s.layout j)) e same) (of_point None none)
      here (By_row r from going of needs rises leads) e =
          let signals = of_point _ (ap (λ (g : CondOnward). g.point) leads) ∙ by_decided _ e in
          let row = count_row u (cell_at s u c) (counter_at s u c) (s.words (its_cell s c)) (s.words (its_counter s c)) r going (subst (λ (z : CondWhole). KnowsAt (s.words (its_counter s c)) z.phase) from knows)
          (counted.most (condition_of c) (subst (λ (j : ℕ). j < length s.layout.conditions) (sym e) inside)) in
          subst (λ (j : ℕ). (cond_after s u c p).words (counter_place s.layout j) ≡ s.words (counter_place s.layout j) + signals_in k calls (facts_of (cond_note s u c p))) e
          (rises ∙ row ∙ ap (λ (n : ℕ). s.words (its_counter s c) + n) (sym signals))

  on_a_walk : (u : ℕ) (w : walks.Standing) → 1 ≤ u → u ≤ s.layout.threads → (s.threads u).stage ≡ Dying w → CountsUp (walked s u (s.threads u).held w)
  on_a_walk u w pos known is =
      let there = walk_is s u w inv pos known is in
      let g : WalkStep s u w.row = walk_step s u inv pos known w.row there.0.going (knows_at s.layout u w there.0) there.2 in
      stays _ (walked s u (s.threads u).held w).note
      (subst (λ (z : walks.Standing). (walked s u (s.threads u).held z).state.words at ≡ s.words at) there.1
      (ap (λ (a : After). a.state.words at) (walked-is s u w.row (met_no_move s.layout u (walk_access s u w.row) (walk_no_move (head_in s.layout u) w.row) ∙ g.valid)) ∙ same g (death_then s u w.row) refl))
      (walked_noted k calls u _ _ _ (walked s u (s.threads u).held w).note refl)
    where
      same : WalkStep s u w.row → (d : Option ℕ) → death_then s u w.row ≡ d → (walk_after s u w.row).words at ≡ s.words at
      same g None e = g.reads e at
      same g (Some m) e =
          let below : m < s.layout.mutexes = (subst (λ (d : Option ℕ). DeathTells s u d (walk_after s u w.row)) e g.tells).0 in
          put-other s.words (place_met s.layout u (walk_access s u w.row)) _ at (λ there. counter_is_no_cell s.layout m k below (there ∙ g.place m e))

  pub counts_up : (e : Event) → CountsUp (happens s e)
  counts_up e =
      by_event s (λ (x : Event) (a : After). CountsUp a)
      (λ x. omega arith)
      (λ u o pos known named idle b full. begins u o b)
      (λ u pos known.
      by_stage s u CountsUp (λ rests. omega arith)
      (λ o p is awake. subst CountsUp
      (sym (went-is s u (mutex_of s.layout o) (Mutex (mutex_of s.layout o)) (Calling o p) (whole_access p) (λ a. led o p (whole_led p a)) (call_stepping s u o p (goes s u o p inv pos known is) (fits_in s u o p inv pos known is).0).valid))
      (called u o p pos known is))
      (λ c p is awake. subst CountsUp
      (sym (went-is s u (its_mutex s c) (Condition (condition_of c)) (AtCondition c p) (cond_access p) (λ a. led_at c p (cond_led p a)) (cond_stepping s u c p inv pos known is).valid))
      (at_condition u c p pos known is))
      (λ w is awake. on_a_walk u w pos known is))
      (λ u pos known alive. omega arith)
      (λ u pos known asleep. omega arith)
      (λ u m p pos known is asleep may. let none = expired_none k (calls u) in omega (arith, none))
      (λ u j x p pos known is there. omega arith)
      (λ u o p pos known is awake trims. subst CountsUp (sym (spared_is s u o p is trims inv pos known)) (omega arith))
      (λ u pos known gone. let same = renewed_counter s u pos known k in omega (arith, same))
      (λ u m may. let same = reinited_counter s u m _ (waiters_say_nothing (s.words (cell_place s.layout m))) may k in let none = reinit_none k (if u == u then Some (reinit_of m) else calls u) in omega (arith, same, none))
      (λ u m g sp. subst CountsUp (sym (spare_is s u m g sp inv)) (omega arith))
      e

-- ---- runs

counts_run : (s : State) (es : List Event) (k : ℕ) (calls : ℕ → Option Begun) → Kept s → Counted s → k < length s.layout.conditions → ((t : ℕ) → IsTold s.layout (s.threads t).stage (calls t))
    → (run s es).words (counter_place s.layout k) ≡ s.words (counter_place s.layout k) + signals_in k calls (facts_among (notes s es))
counts_run s [] k calls inv counted inside told = omega arith
counts_run s (e ∷ es) k calls inv counted inside told =
    let next = sound s e inv in
    let fs = facts_of (happens s e).note in
    let later = counts_run (happens s e).state es k (calls_after calls fs) next.kept (counted_on s e inv counted) (subst (λ (l : Layout'). k < length l.conditions) (sym next.same) inside)
    (λ t. subst (IsTold (happens s e).state.layout ((happens s e).state.threads t).stage) (sym (calls_last t calls fs)) (told_on s e t (calls t) (told t))) in
    let here = counts_up s k calls inv counted inside told e in
    let there : (run (happens s e).state es).words (counter_place s.layout k) ≡ (happens s e).state.words (counter_place s.layout k) + signals_in k (calls_after calls fs) (facts_among (notes (happens s e).state es))
    = subst (λ (l : Layout'). (run (happens s e).state es).words (counter_place l k) ≡ (happens s e).state.words (counter_place l k) + signals_in k (calls_after calls fs) (facts_among (notes (happens s e).state es))) next.same later in
    let both = signals_append k calls fs (facts_among (notes (happens s e).state es)) in
    omega (arith, here, there, both)

pub counters_count_up : CountersCountUp
counters_count_up l counters is presets k inside = record {
  first = λ events.
      counts_run s0 events k (λ t. None) inv counted inside (λ t. tt)
      ∙ ap (λ (n : ℕ). n + signals_in k (λ t. None) (facts_among (notes s0 events))) (first_word-counter l counters k inside);
  since = λ before later.
      subst (λ (y : Layout'). (run (run s0 before) later).words (counter_place y k) ≡ (run s0 before).words (counter_place y k) + signals_in k (λ t. call_told t (notes s0 before)) (facts_among (notes (run s0 before) later))) (run_layout s0 before inv)
      (counts_run (run s0 before) later k (λ t. call_told t (notes s0 before)) (run_kept s0 before inv) (run_counted s0 before inv counted) (subst (λ (y : Layout'). k < length y.conditions) (sym (run_layout s0 before inv)) inside)
      (λ t. told_run s0 before t None tt));
}
  where
    s0 : State
    s0 = start l counters

    inv : Kept s0
    inv = start_kept l counters is

    counted : Counted s0
    counted = start_counted l counters presets
