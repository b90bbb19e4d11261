-- Signals and broadcasts by the mutex's owner that no other event divides.
use Rattle.std.proofs.Common.{◌≡◌, ◌≢◌, ℕ, suc, ◌+◌, ◌-◌, ◌%◌, ◌^◌, ◌<◌, ◌≤◌, ◌==◌, Bool, true, false, Some, None, List, [], ◌∷◌, ◌++◌, map, length, take, drop, refl, sym, ap, ◌∙◌, subst, arith, eq-eqb, append-nil}
use Rattle.protocol.proofs.Vocabulary.{CondCall, CondRow, Signal, Broadcast, CondPhase, full, CondOnward, condition_of, CondWhole, from_words, cond_led, Fact, Condition, Again, word_among}
use Rattle.protocol.proofs.Vocabulary.{Layout', cell_place, counter_place, Object, Operation, or_waiting, fields_of, Reply, OK, EPERM, XFULL, OnCondition}
use Rattle.protocol.proofs.Vocabulary.{Event, Step, Began, Note, Thread, Stage, Idle, AtCondition, facts_of, moves_to, mutex_of, begun_of, State, After, put, answer_among}
use Rattle.protocol.proofs.Vocabulary.{queue_after, moved_by, joined, stage_at, reply_at, held_after, start, may_begin, first_stage, begun, nothing, happens, run, notes}
use Rattle.protocol.proofs.Vocabulary.{seen, facts_among, if◌then◌else◌, not, replicate, slice_index, nat_tests, SignalRow, BroadcastRow, bit_or, decided_at, owner_of-is}
use Rattle.protocol.proofs.Vocabulary.{Access, Stepped, decision, returned_at, sleeps_at, slept_in, woken_by}
use Rattle.stepprograms.specs.declared.access.Answer.TheVariants.{Counts}
use Rattle.protocol.proofs.Places.{counter_is_no_cell}
use Rattle.protocol.proofs.Emptied.{no_more}
use Rattle.std.proofs.lemmas.List.{take_all, drop_all}
use Rattle.protocol.specs.declared.event.Event.TheVariants.{Begin}
use Rattle.condvar.specs.Rows.{goes, ends}
use Rattle.protocol.specs.Signals.{call_alone, told_of_call, IsUnchanged, IsSignalled, IsBroadcast, IsRightAlone, AreRightAlone, SignalsAreRight}
use Rattle.protocol.proofs.Events.{at_rest, names_mutex}
use Rattle.protocol.proofs.QueueRuns.{run_queued}
use Rattle.protocol.proofs.Queued.{Queued}
use Rattle.protocol.proofs.Counters.{Counted, one_more, start_counted, run_counted}
use Rattle.condvar.specs.Calls.{acts_as}
use Rattle.condvar.specs.Programs.{first_row, row_access}
use Rattle.condvar.specs.Whole.{onward}
use Rattle.protocol.proofs.Puts.{by_put, put-same, put-other}
use Rattle.protocol.proofs.Kept.{Kept}
use Rattle.protocol.proofs.Steps.{seen-inside, cell_at, counter_at}
use Rattle.protocol.proofs.CondSteps.{cond_of, at_either}
use Rattle.protocol.proofs.Working.{cond_goes}
use Rattle.protocol.proofs.Runs.{sound, start_kept, run_kept}
use Rattle.protocol.proofs.Returning.{still_run, still_tells, idle_still}
use Rattle.protocol.proofs.Seeing.{cell_in, cell_again}
use Rattle.protocol.proofs.CondAccesses.{fits_at}
use Rattle.condvar.specs.Laws.{is_at_counter}
use Rattle.lockword.specs.Threads.{most_threads}

-- ---- functions with one new value

put-self : {A : Type 0} (f : ℕ → A) (k : ℕ) → put f k (f k) ≡ f
put-self f k = λ i j. by_put (λ v. v ≡ f j) f k (f k) j (λ is. ap f (sym is)) (λ apart. refl) i

put-put : {A : Type 0} (f : ℕ → A) (k : ℕ) (x y : A) → put (put f k x) k y ≡ put f k y
put-put f k x y = λ i j. by_put (λ v. v ≡ put f k y j) (put f k x) k y j (λ is. sym (ap (put f k y) is ∙ put-same f k y)) (λ apart. put-other f k x j apart ∙ sym (put-other f k y j apart)) i

differs : (i j : ℕ) → i ≢ j → (i == j) ≡ false
differs i j apart = grind (arith)

-- ---- runs

-- where events lead, and what they tell
record Comes_to (s : State) (es : List Event) (z : State) (fs : List Fact) : Type 0 where
  at : run s es ≡ z
  told : facts_among (notes s es) ≡ fs

first_step : (s : State) (e : Event) (es : List Event) (y z : State) (n : Note) (fs : List Fact) → happens s e ≡ record { state = y; note = n } → Comes_to y es z fs → Comes_to s (e ∷ es) z (facts_of n ++ fs)
first_step s e es y z n fs is later = record {
  at = ap (λ (a : After). run a.state es) is ∙ later.at;
  told = ap (λ (a : After). facts_of a.note ++ facts_among (notes a.state es)) is ∙ ap (λ (gs : List Fact). facts_of n ++ gs) later.told;
}

at_rest_then : (s : State) (t n : ℕ) → (s.threads t).stage ≡ Idle → Comes_to s (replicate n (Step t)) s []
at_rest_then s t n idle = record { at = still_run s t n (idle_still s t idle); told = still_tells s t n (idle_still s t idle) }

-- ---- thread t in a call on a condition variable, where nobody else stepped since state s

module _ (s : State) (t : ℕ) (c : CondCall) (pos : 1 ≤ t) (known : t ≤ s.layout.threads) where
  abbrev l : Layout'
  l = s.layout

  abbrev m : ℕ
  m = mutex_of l (OnCondition c)

  abbrev cell : ℕ
  cell = cell_place l m

  abbrev counter : ℕ
  counter = counter_place l (condition_of c)

  abbrev held : ℕ
  held = (s.threads t).held

  abbrev whole : CondRow → CondWhole
  whole r = cond_of l t c (CondPhase.AtWords r)

  abbrev pub at_stage : (ℕ → ℕ) → (ℕ → List ℕ) → Stage → State
  at_stage words queues g = record { layout = l; words = words; queues = queues; threads = put s.threads t (record { stage = g; held = held }) }

  abbrev pub at_row : (ℕ → ℕ) → (ℕ → List ℕ) → CondRow → State
  at_row words queues r = at_stage words queues (AtCondition c (whole r))

  stage_is : (words : ℕ → ℕ) (queues : ℕ → List ℕ) (g : Stage) → ((at_stage words queues g).threads t).stage ≡ g
  stage_is words queues g = ap (λ (z : Thread). z.stage) (put-same s.threads t (record { stage = g; held = held }))

  -- the access of a row, the place that it meets, and how it is noted
  abbrev access_at : CondRow → Access
  access_at r = row_access t (cell_at s t c) (counter_at s t c) r

  abbrev met_at : CondRow → ℕ
  met_at r = if is_at_counter r then counter else cell

  abbrev noted : (ℕ → ℕ) → (ℕ → List ℕ) → CondRow → ℕ → CondOnward → Note
  noted words queues r x g =
      Stepped t m (decision t m (decided_at (acts_as c) g.point) (reply_at g.point)) (slept_in (Condition (condition_of c)) (sleeps_at (access_at r) (words x))) (woken_by (access_at r) (words x) (queues x)) (moved_by (access_at r) (words x) (queues x)) (returned_at g.phase)

  abbrev note_at : (ℕ → ℕ) → (ℕ → List ℕ) → CondRow → CondOnward → Note
  note_at words queues r g = noted words queues r (met_at r) g

  -- what it leads to and leaves, where it meets a place
  abbrev led_by : (ℕ → ℕ) → (ℕ → List ℕ) → CondRow → ℕ → CondOnward
  led_by words queues r x = cond_led (whole r) (answer_among (access_at r) (words x) (queues x))

  abbrev words_by : (ℕ → ℕ) → (ℕ → List ℕ) → CondRow → ℕ → ℕ → ℕ
  words_by words queues r x = put words x (word_among (access_at r) (words x) (queues x))

  abbrev queues_by : (ℕ → ℕ) → (ℕ → List ℕ) → CondRow → ℕ → ℕ → List ℕ
  queues_by words queues r x = joined l t (access_at r) (moved_by (access_at r) (words x) (queues x)) (put queues x (queue_after t (access_at r) (words x) (queues x)))

  -- one access, at a row
  row_goes : (words words' : ℕ → ℕ) (queues queues' : ℕ → List ℕ) (r : CondRow) (g : CondOnward) → Kept (at_row words queues r)
      → led_by words queues r (met_at r) ≡ g → words_by words queues r (met_at r) ≡ words' → queues_by words queues r (met_at r) ≡ queues' → held_after held (decided_at (acts_as c) g.point) (reply_at g.point) ≡ held
      → happens (at_row words queues r) (Step t) ≡ record { state = at_stage words' queues' (stage_at c (whole r) g.phase); note = note_at words queues r g }
  row_goes words words' queues queues' r g kept leads words_are queues_are same =
      cond_goes z t c (whole r) kept pos known in_call
      ∙ ap (λ (x : ℕ). record { state = record { layout = l; words = words_by words queues r x; queues = queues_by words queues r x; threads = threads_by (led_by words queues r x) }; note = noted words queues r x (led_by words queues r x) })
      (at_either z t c r kept pos known (fits_at z t c (whole r) kept pos known in_call))
      ∙ (λ i. record {
        state = record { layout = l; words = words_are i; queues = queues_are i; threads = threads_are i };
        note = note_at words queues r (leads i);
      })
    where
      z : State
      z = at_row words queues r

      in_call : (z.threads t).stage ≡ AtCondition c (whole r)
      in_call = stage_is words queues (AtCondition c (whole r))

      threads_by : CondOnward → ℕ → Thread
      threads_by o = put z.threads t (record { stage = stage_at c (whole r) o.phase; held = held_after (z.threads t).held (decided_at (acts_as c) o.point) (reply_at o.point) })

      held_is : held_after (z.threads t).held (decided_at (acts_as c) g.point) (reply_at g.point) ≡ held
      held_is = ap (λ (y : Thread). held_after y.held (decided_at (acts_as c) g.point) (reply_at g.point)) (put-same s.threads t (record { stage = AtCondition c (whole r); held = held })) ∙ same

      threads_are : threads_by (led_by words queues r (met_at r)) ≡ put s.threads t (record { stage = stage_at c (whole r) g.phase; held = held })
      threads_are =
          ap threads_by leads ∙ (λ i. put z.threads t (record { stage = stage_at c (whole r) g.phase; held = held_is i }))
          ∙ put-put s.threads t (record { stage = AtCondition c (whole r); held = held }) (record { stage = stage_at c (whole r) g.phase; held = held })

  -- and then the others, where what holds of every state holds still
  row_then : (words words' : ℕ → ℕ) (queues queues' : ℕ → List ℕ) (r : CondRow) (g : CondOnward) (es : List Event) (y : State) (fs : List Fact)
      → led_by words queues r (met_at r) ≡ g → words_by words queues r (met_at r) ≡ words' → queues_by words queues r (met_at r) ≡ queues' → held_after held (decided_at (acts_as c) g.point) (reply_at g.point) ≡ held
      → (Kept (at_stage words' queues' (stage_at c (whole r) g.phase)) → Comes_to (at_stage words' queues' (stage_at c (whole r) g.phase)) es y fs) → Kept (at_row words queues r)
      → Comes_to (at_row words queues r) (Step t ∷ es) y (facts_of (note_at words queues r g) ++ fs)
  row_then words words' queues queues' r g es y fs leads words_are queues_are same further kept =
      let goes = row_goes words words' queues queues' r g kept leads words_are queues_are same in
      first_step (at_row words queues r) (Step t) es (at_stage words' queues' (stage_at c (whole r) g.phase)) y (note_at words queues r g) fs goes
      (further (subst (λ (a : After). Kept a.state) goes (sound (at_row words queues r) (Step t) kept).kept))

  -- the call begins
  begins_so : may_begin s t (OnCondition c) ≡ true → happens s (Begin t (OnCondition c)) ≡ record { state = at_row s.words s.queues (first_row c); note = Began t (begun_of l (OnCondition c)) None }
  begins_so may = ap (λ (b : Bool). if b then begun s t (OnCondition c) (first_stage l t held (OnCondition c)) else nothing s) may

  begins_then : (es : List Event) (y : State) (fs : List Fact) → Kept s → may_begin s t (OnCondition c) ≡ true → (Kept (at_row s.words s.queues (first_row c)) → Comes_to (at_row s.words s.queues (first_row c)) es y fs)
      → Comes_to s (Begin t (OnCondition c) ∷ es) y (Fact.Begin t (begun_of l (OnCondition c)) ∷ fs)
  begins_then es y fs inv may further = first_step _ _ _ _ _ _ _ (begins_so may) (further (subst (λ (a : After). Kept a.state) (begins_so may) (sound s (Begin t (OnCondition c)) inv).kept))

  -- once it has returned its thread is as it was
  idle_again : (s.threads t).stage ≡ Idle → (words : ℕ → ℕ) (queues : ℕ → List ℕ) (u : ℕ) → (at_stage words queues Idle).threads u ≡ s.threads u
  idle_again idle words queues u = by_put (λ (z : Thread). z ≡ s.threads u) s.threads t (record { stage = Idle; held = held }) u (λ is. (λ i. record { stage = sym idle i; held = held }) ∙ ap s.threads (sym is)) (λ apart. refl)

  returned : (words : ℕ → ℕ) (queues : ℕ → List ℕ) (n : ℕ) → Comes_to (at_stage words queues Idle) (replicate n (Step t)) (at_stage words queues Idle) []
  returned words queues n = at_rest_then (at_stage words queues Idle) t n (stage_is words queues Idle)

-- ---- by the owner
module _ (s : State) (t k : ℕ) (inv : Kept s) (counted : Counted s) (queued : Queued s) (pos : 1 ≤ t) (known : t ≤ s.layout.threads) (idle : (s.threads t).stage ≡ Idle) (below : k < length s.layout.conditions) (own : (seen s (slice_index s.layout.conditions k)).owner ≡ Some t) where
  abbrev mutex : ℕ
  mutex = slice_index s.layout.conditions k

  abbrev mutex_cell : ℕ
  mutex_cell = cell_place s.layout mutex

  abbrev at : ℕ
  at = counter_place s.layout k

  abbrev w : ℕ
  w = s.words mutex_cell

  abbrev n : ℕ
  n = s.words at

  abbrev q : List ℕ
  q = s.queues at

  inside : mutex < s.layout.mutexes
  inside = names_mutex s.layout (OnCondition (CondCall.Signal k)) inv.layout below

  owned : (fields_of w).owner ≡ t
  owned = owner_of-is (fields_of w).owner t (sym (ap (λ (z : Object). z.owner) (seen-inside s mutex inside)) ∙ own)

  owns : ((fields_of w).owner == t) ≡ true
  owns = eq-eqb (fields_of w).owner t owned

  most : n ≤ full
  most = counted.most k below

  unchanged : (words : ℕ → ℕ) (queues : ℕ → List ℕ) → words ≡ s.words → queues ≡ s.queues → (c : CondCall) → IsUnchanged s (at_stage s t c pos known words queues Idle)
  unchanged words queues words_are queues_are c = record {
    words = λ p. ap (λ (f : ℕ → ℕ). f p) words_are;
    queues = λ key. ap (λ (f : ℕ → List ℕ). f key) queues_are;
    threads = idle_again s t c pos known idle words queues;
  }

  -- ---- a signal
  abbrev signal : CondCall
  signal = CondCall.Signal k

  abbrev signals_at : (ℕ → ℕ) → (ℕ → List ℕ) → CondRow → State
  signals_at = at_row s t signal pos known

  abbrev decided_with : Reply → Operation → CondPhase → CondOnward
  decided_with x op f = record { phase = f; point = Some (record { thread = t; at = cell_in s.layout t mutex; operation = op; reply = x }) }

  abbrev words_counted : ℕ → ℕ
  words_counted = put s.words at (n + 1)

  counted_so : n ≢ full → put s.words at ((n + 1) % 18446744073709551616) ≡ words_counted
  counted_so apart = ap (put s.words at) (one_more n (let few = most in omega arith))

  module _ (may : may_begin s t (OnCondition (CondCall.Signal k)) ≡ true) where
    signal_looks : (es : List Event) (y : State) (fs : List Fact) → (Kept (signals_at s.words s.queues (Signal SignalRow.LoadCounter)) → Comes_to (signals_at s.words s.queues (Signal SignalRow.LoadCounter)) es y fs)
        → Comes_to s (Begin t (OnCondition signal) ∷ (Step t ∷ es)) y (Fact.Begin t (begun_of s.layout (OnCondition signal)) ∷ fs)
    signal_looks es y fs further =
        begins_then s t signal pos known _ _ _ inv may
        (row_then s t signal pos known s.words s.words s.queues s.queues (Signal SignalRow.LoadCell) (onward (CondPhase.AtWords (Signal SignalRow.LoadCounter))) es y fs
        (ap (λ (b : Bool). from_words (whole s t signal pos known (Signal SignalRow.LoadCell)) (if not b then ends Operation.Signal EPERM else goes (Signal SignalRow.LoadCounter))) owns)
        (put-self s.words mutex_cell) (put-self s.queues mutex_cell) refl further)

    refused_alone : n ≡ full → (r : ℕ) → Comes_to s (call_alone t signal (suc (suc r))) (at_stage s t signal pos known s.words s.queues Idle) (told_of_call s t signal mutex Operation.Signal XFULL [])
    refused_alone is r =
        signal_looks _ _ _
        (row_then s t signal pos known s.words s.words s.queues s.queues (Signal SignalRow.LoadCounter) (decided_with XFULL Operation.Signal (CondPhase.Ended XFULL)) _ _ _
        (ap (λ (b : Bool). from_words (whole s t signal pos known (Signal SignalRow.LoadCounter)) (if b then ends Operation.Signal XFULL else goes (Signal SignalRow.Count))) (eq-eqb n full is))
        (put-self s.words at) (put-self s.queues at) refl (λ kept. returned s t signal pos known s.words s.queues r))

    signals_alone : n ≢ full → (r : ℕ) → Comes_to s (call_alone t signal (suc (suc (suc (suc r))))) (at_stage s t signal pos known words_counted (put s.queues at (drop 1 q)) Idle) (told_of_call s t signal mutex Operation.Signal OK (map Fact.Wake (take 1 q)))
    signals_alone apart r =
        subst (λ (fs : List Fact). Comes_to s (call_alone t signal (suc (suc (suc (suc r))))) (at_stage s t signal pos known words_counted (put s.queues at (drop 1 q)) Idle) (Fact.Begin t (begun_of s.layout (OnCondition signal)) ∷ (Fact.Point (record { thread = t; mutex = mutex; operation = Operation.Signal; reply = OK }) ∷ fs))) (append-nil (map Fact.Wake (take 1 q) ++ Fact.Return t OK ∷ []))
        (signal_looks _ _ _
        (row_then s t signal pos known s.words s.words s.queues s.queues (Signal SignalRow.LoadCounter) (onward (CondPhase.AtWords (Signal SignalRow.Count))) _ _ _
        (ap (λ (b : Bool). from_words (whole s t signal pos known (Signal SignalRow.LoadCounter)) (if b then ends Operation.Signal XFULL else goes (Signal SignalRow.Count))) (differs n full apart))
        (put-self s.words at) (put-self s.queues at) refl
        (row_then s t signal pos known s.words words_counted s.queues s.queues (Signal SignalRow.Count) (decided_with OK Operation.Signal (CondPhase.AtWords (Signal SignalRow.Wake))) _ _ _ refl (counted_so apart) (put-self s.queues at) refl
        (row_then s t signal pos known words_counted words_counted s.queues (put s.queues at (drop 1 q)) (Signal SignalRow.Wake) (onward (CondPhase.Ended OK)) _ _ _ refl (put-self words_counted at) refl refl
        (λ kept. returned s t signal pos known words_counted (put s.queues at (drop 1 q)) r)))))

    signalled : IsSignalled s (at_stage s t signal pos known words_counted (put s.queues at (drop 1 q)) Idle) k
    signalled = record {
      counter = put-same s.words at (n + 1);
      words = λ p apart. put-other s.words at (n + 1) p apart;
      queue = put-same s.queues at (drop 1 q);
      queues = λ key apart. put-other s.queues at (drop 1 q) key apart;
      threads = idle_again s t signal pos known idle words_counted (put s.queues at (drop 1 q));
    }

  -- ---- a broadcast
  abbrev cast : CondCall
  cast = CondCall.Broadcast k

  abbrev casts_at : (ℕ → ℕ) → (ℕ → List ℕ) → CondRow → State
  casts_at = at_row s t cast pos known

  abbrev low : ℕ
  low = n % 2 ^ 32

  module _ (may : may_begin s t (OnCondition (CondCall.Broadcast k)) ≡ true) where
    cast_looks : (es : List Event) (y : State) (fs : List Fact) → (Kept (casts_at s.words s.queues (Broadcast BroadcastRow.LoadCounter)) → Comes_to (casts_at s.words s.queues (Broadcast BroadcastRow.LoadCounter)) es y fs)
        → Comes_to s (Begin t (OnCondition cast) ∷ (Step t ∷ es)) y (Fact.Begin t (begun_of s.layout (OnCondition cast)) ∷ fs)
    cast_looks es y fs further =
        begins_then s t cast pos known _ _ _ inv may
        (row_then s t cast pos known s.words s.words s.queues s.queues (Broadcast BroadcastRow.LoadCell) (onward (CondPhase.AtWords (Broadcast BroadcastRow.LoadCounter))) es y fs
        (ap (λ (b : Bool). from_words (whole s t cast pos known (Broadcast BroadcastRow.LoadCell)) (if not b then ends Operation.Broadcast EPERM else goes (Broadcast BroadcastRow.LoadCounter))) owns)
        (put-self s.words mutex_cell) (put-self s.queues mutex_cell) refl further)

    abbrev words_set : ℕ → ℕ
    words_set = put words_counted mutex_cell (bit_or (words_counted mutex_cell) 0x8000_0000)

    abbrev queues_moved : ℕ → List ℕ
    queues_moved = put (put s.queues at (drop most_threads q)) mutex_cell (put s.queues at (drop most_threads q) mutex_cell ++ take most_threads q)

    -- the counter is as the broadcast left it
    not_cell : at ≢ mutex_cell
    not_cell = counter_is_no_cell s.layout mutex k inside

    set_counter : words_set at ≡ n + 1
    set_counter = put-other words_counted mutex_cell _ at not_cell ∙ put-same s.words at (n + 1)

    abbrev differs_not : Bool
    differs_not = words_set at % 2 ^ 32 == (low + 1) % 2 ^ 32

    -- what its move leaves there, and takes from there
    abbrev left_if : Bool → ℕ → List ℕ
    left_if b = put s.queues at (if b then drop most_threads (drop 0 q) else q)

    abbrev moved_if : Bool → List ℕ
    moved_if b = if b then take most_threads (drop 0 q) else []

    compares : differs_not ≡ true
    compares = eq-eqb (words_set at % 2 ^ 32) ((low + 1) % 2 ^ 32) (ap (λ (x : ℕ). x % 2 ^ 32) set_counter ∙ omega arith)

    -- no more than `most_threads` sleep
    short_queue : length q ≤ most_threads
    short_queue =
        let few = no_more s.layout.threads q (queued.once at) (λ u stands. let slept = queued.sleeps at u stands in (slept.0, slept.1)) in
        let last = inv.layout.threads.1 in omega (arith, few, last)

    cast_refused_alone : n ≡ full → (r : ℕ) → Comes_to s (call_alone t cast (suc (suc r))) (at_stage s t cast pos known s.words s.queues Idle) (told_of_call s t cast mutex Operation.Broadcast XFULL [])
    cast_refused_alone is r =
        cast_looks _ _ _
        (row_then s t cast pos known s.words s.words s.queues s.queues (Broadcast BroadcastRow.LoadCounter) (decided_with XFULL Operation.Broadcast (CondPhase.Ended XFULL)) _ _ _
        (ap (λ (b : Bool). from_words (whole s t cast pos known (Broadcast BroadcastRow.LoadCounter)) (if b then ends Operation.Broadcast XFULL else goes (Broadcast (BroadcastRow.Count low)))) (eq-eqb n full is))
        (put-self s.words at) (put-self s.queues at) refl (λ kept. returned s t cast pos known s.words s.queues r))

    -- what the move tells
    move_told : facts_of (note_at s t cast pos known words_set s.queues (Broadcast (BroadcastRow.Move low)) (onward (CondPhase.Ended OK))) ≡ map (moves_to mutex) q ++ Fact.Return t OK ∷ []
    move_told =
        ap (λ (b : Bool). map Fact.Wake (if b then take 0 q else []) ++ (map (moves_to mutex) (if b then take most_threads (drop 0 q) else []) ++ Fact.Return t OK ∷ [])) compares
        ∙ ap (λ (us : List ℕ). map (moves_to mutex) us ++ Fact.Return t OK ∷ []) (take_all most_threads q short_queue)

    cast_alone : n ≢ full → (r : ℕ) → Comes_to s (call_alone t cast (suc (suc (suc (suc (suc r)))))) (at_stage s t cast pos known words_set queues_moved Idle) (told_of_call s t cast mutex Operation.Broadcast OK (map (moves_to mutex) q))
    cast_alone apart r =
        subst (λ (fs : List Fact). Comes_to s (call_alone t cast (suc (suc (suc (suc (suc r)))))) (at_stage s t cast pos known words_set queues_moved Idle) (Fact.Begin t (begun_of s.layout (OnCondition cast)) ∷ (Fact.Point (record { thread = t; mutex = mutex; operation = Operation.Broadcast; reply = OK }) ∷ fs)))
        (append-nil _ ∙ move_told)
        (cast_looks _ _ _
        (row_then s t cast pos known s.words s.words s.queues s.queues (Broadcast BroadcastRow.LoadCounter) (onward (CondPhase.AtWords (Broadcast (BroadcastRow.Count low)))) _ _ _
        (ap (λ (b : Bool). from_words (whole s t cast pos known (Broadcast BroadcastRow.LoadCounter)) (if b then ends Operation.Broadcast XFULL else goes (Broadcast (BroadcastRow.Count low)))) (differs n full apart))
        (put-self s.words at) (put-self s.queues at) refl
        (row_then s t cast pos known s.words words_counted s.queues s.queues (Broadcast (BroadcastRow.Count low)) (decided_with OK Operation.Broadcast (CondPhase.AtWords (Broadcast (BroadcastRow.SetWaiters low)))) _ _ _
        refl (counted_so apart) (put-self s.queues at) refl
        (row_then s t cast pos known words_counted words_set s.queues s.queues (Broadcast (BroadcastRow.SetWaiters low)) (onward (CondPhase.AtWords (Broadcast (BroadcastRow.Move low)))) _ _ _ refl refl (put-self s.queues mutex_cell) refl
        (row_then s t cast pos known words_set words_set s.queues queues_moved (Broadcast (BroadcastRow.Move low)) (onward (CondPhase.Ended OK)) _ _ _
        (ap (λ (b : Bool). cond_led (whole s t cast pos known (Broadcast (BroadcastRow.Move low))) (if b then Counts (length (take 0 q)) (length (take most_threads (drop 0 q))) else Again)) compares)
        (put-self words_set at)
        (ap (λ (x : ℕ). put (left_if differs_not) x (left_if differs_not x ++ moved_if differs_not)) (cell_again s.layout t inv.layout pos known mutex inside) ∙ ap (λ (b : Bool). put (left_if b) mutex_cell (left_if b mutex_cell ++ moved_if b)) compares)
        refl (λ kept. returned s t cast pos known words_set queues_moved r))))))

    broadcast_done : IsBroadcast s (at_stage s t cast pos known words_set queues_moved Idle) k mutex
    broadcast_done = record {
      counter = set_counter;
      cell = ap fields_of (put-same words_counted mutex_cell _ ∙ ap (λ (x : ℕ). bit_or x 0x8000_0000) (put-other s.words at (n + 1) mutex_cell (λ e. not_cell (sym e)))) ∙ or_waiting w;
      words = λ p no_counter no_cell. put-other words_counted mutex_cell _ p no_cell ∙ put-other s.words at (n + 1) p no_counter;
      queue = put-other (put s.queues at (drop most_threads q)) mutex_cell _ at not_cell ∙ put-same s.queues at (drop most_threads q) ∙ drop_all most_threads q short_queue;
      moved = put-same (put s.queues at (drop most_threads q)) mutex_cell _ ∙ (λ i. put-other s.queues at (drop most_threads q) mutex_cell (λ e. not_cell (sym e)) i ++ take_all most_threads q short_queue i);
      queues = λ key no_counter no_cell. put-other (put s.queues at (drop most_threads q)) mutex_cell _ key no_cell ∙ put-other s.queues at (drop most_threads q) key no_counter;
      threads = idle_again s t cast pos known idle words_set queues_moved;
    }

-- ---- every state that events lead to

then_holds : (Q : State → Type 0) (s z : State) (es : List Event) (fs : List Fact) → Comes_to s es z fs → Q z → Q (run s es) × (facts_among (notes s es) ≡ fs)
then_holds Q s z es fs comes holds = (subst Q (sym comes.at) holds, comes.told)

right_alone : (s : State) → Kept s → Queued s → Counted s → AreRightAlone s
right_alone s inv queued counted t k n may own enough =
    subst (IsRightAlone s t k (slice_index s.layout.conditions k)) (let few : n ≡ suc (suc (suc (suc (suc (n - 5))))) = omega arith in sym few) (right (n - 5))
  where
    pos : 1 ≤ t
    pos = grind (arith, nat_tests)

    known : t ≤ s.layout.threads
    known = grind (arith, nat_tests)

    idle : (s.threads t).stage ≡ Idle
    idle = at_rest (s.threads t).stage (grind (arith, nat_tests))

    below : k < length s.layout.conditions
    below = grind (arith, nat_tests)

    m : ℕ
    m = slice_index s.layout.conditions k

    right : (r : ℕ) → IsRightAlone s t k m (suc (suc (suc (suc (suc r)))))
    right r = record {
      signal_full = λ is. then_holds (IsUnchanged s) s _ _ _ (refused_alone s t k inv counted queued pos known idle below own may is (suc (suc (suc r)))) (unchanged s t k inv counted queued pos known idle below own s.words s.queues refl refl (CondCall.Signal k));
      signal = λ apart. then_holds (λ (y : State). IsSignalled s y k) s _ _ _ (signals_alone s t k inv counted queued pos known idle below own may apart (suc r)) (signalled s t k inv counted queued pos known idle below own may);
      broadcast_full = λ is. then_holds (IsUnchanged s) s _ _ _ (cast_refused_alone s t k inv counted queued pos known idle below own may is (suc (suc (suc r)))) (unchanged s t k inv counted queued pos known idle below own s.words s.queues refl refl (CondCall.Broadcast k));
      broadcast = λ apart. then_holds (λ (y : State). IsBroadcast s y k m) s _ _ _ (cast_alone s t k inv counted queued pos known idle below own may apart r) (broadcast_done s t k inv counted queued pos known idle below own may);
    }

pub right_signals : SignalsAreRight
right_signals l counters events is presets =
    right_alone (run (start l counters) events) (run_kept (start l counters) events (start_kept l counters is)) (run_queued l counters events is)
    (run_counted (start l counters) events (start_kept l counters is) (start_counted l counters presets))
