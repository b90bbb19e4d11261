-- Machines stay reached.
use Rattle.std.proofs.Common.{◌≡◌, ◌≢◌, ℕ, zero, suc, ◌<◌, ◌≤◌, Bool, true, false, ◌&&◌, List, [], ◌∷◌, ◌++◌, length, take, Result, Ok, Err, Option, Some, None, ◌-◌, refl, sym, ap, ◌∙◌, subst, arith, slice_index_or, slice_set}
use Rattle.std.specs.Prelude.{if◌then◌else◌, slice_index, map, nat_lt, nat_le, not, replicate}
use Rattle.stepprograms.specs.declared.access.Answer.TheVariants.{Trimmed}
use Rattle.std.specs.List.{range_with_len}
use mathlib.Core.Path.{fun_ext}
use Rattle.std.proofs.lemmas.Grind.{common_steps}
use Rattle.std.proofs.lemmas.Bool.Decides.{nat_tests}
use Rattle.std.proofs.lemmas.List.FromFn.{get_or-map-range_with_len, length-map-range_with_len}
use Rattle.std.proofs.lemmas.List.{length-replicate, length-set}
use Rattle.lockword.specs.declared.reply.Reply.{Reply}
use Rattle.posixmutex.specs.declared.object.Object.{Object}
use Rattle.memorymap.specs.Layouts.{Layout', IsLayout, words_of, cell_place, counter_place, first_word, head_word}
use Rattle.posixmutex.specs.Histories.{held_by}
use Rattle.lockword.specs.Cells.{Fields}
use Rattle.posixmutex.specs.declared.point.Operation.{Operation}
use Rattle.mutex.specs.declared.phase.Phase.{Phase}
use Rattle.mutex.specs.declared.phase.Phase.TheVariants.{Announcing, AtCell, Linking, Unlinking, Clearing, Ended}
use Rattle.mutex.specs.Standings.{Whole}
use Rattle.mutex.specs.Whole.{may_expire, whole_access, whole_led, IsUnderWay, PhaseKnows}
use Rattle.condvar.specs.declared.phase.CondPhase.{CondPhase}
use Rattle.condvar.specs.declared.phase.CondPhase.TheVariants as cond
use Rattle.condvar.specs.Standings.{CondWhole}
use Rattle.condvar.specs.Whole as condition
use Rattle.facts.specs.declared.fact.Queue.TheVariants.{Mutex}
use Rattle.condvar.specs.declared.op.Op.{Op}
use Rattle.condvar.specs.declared.op.Op.TheVariants.{OnMutex, OnCondition}
use Rattle.condvar.specs.Ops.{mutex_of, is_in}
use Rattle.protocol.specs.declared.event.Event.{Event}
use Rattle.protocol.specs.declared.event.Event.TheVariants.{Begin, Step, Kill, Leave, Expire, Decline, Renew, Remake, Spare}
use Rattle.protocol.specs.declared.thread.Thread.{Thread}
use Rattle.protocol.specs.declared.thread.Stage.{Stage}
use Rattle.protocol.specs.declared.thread.Stage.TheVariants.{Idle, Calling, AtCondition, Dying, Reaped}
use Rattle.protocol.specs.declared.note.Note.{Note}
use Rattle.protocol.specs.Machine.{State, After, put, idle, start, is_valid, has_thread, may_begin, may_remake, waiters_of, first_stage, begun, nothing, is_alive, is_gone, killed, renewed, reinited, departed, declined, expired, is_timed, lapsed, overslept, waits_on, spared, is_asleep, is_trim, sleeps, led, went, stepped, answer_of, happens, run, notes}
use Rattle.protocol.specs.Machine.{Led, led_at, is_left_to, sparing, wakes_next, wakes_one}
use Rattle.stepprograms.specs.declared.access.Answer.TheVariants.{Count}
use Rattle.condvar.specs.Calls.{condition_of}
use Rattle.condvar.specs.Whole.{cond_led}
use Rattle.protocol.specs.Sleepers.{alone, RunsAlone}
use Rattle.protocol.proofs.Queued.{Queued, asleep_there}
use Rattle.protocol.proofs.QueueRuns.{run_queued}
use Rattle.protocol.proofs.Undivided.{runs_alone}
use Rattle.protocol.proofs.Waking.{told_sleeps}
use Rattle.stepprograms.specs.declared.access.Access.TheVariants.{Store}
use Rattle.syscalls.specs.Kernels.{Kernel'}
use Rattle.syscalls.specs.Memories as memories
use Rattle.syscalls.specs.Memories.{word_at, words_after}
use Rattle.protocol.specs.Deaths.{ReportsDeaths}
use Rattle.protocol.specs.Headline.{IsHistory, NoReapedOwns, seen}
use Rattle.protocol.specs.Wakings.{TellsSleepers}
use Rattle.protocol.specs.PassedBy.{ArePresets}
use Rattle.condvar.specs.Rows.{full}
use Rattle.protocol.proofs.Puts.{by_put, put-same, put-other}
use Rattle.protocol.proofs.Kept.{Kept, InPhase, AtPhase, Fits, Serves, Sits}
use Rattle.protocol.proofs.Deaths.{reports_deaths}
use Rattle.protocol.proofs.Reaped.{no_reaped_owns}
use Rattle.protocol.proofs.Runs.{start_kept, run_kept, run_layout, legal}
use Rattle.interleave.specs.Shown.{Shown, thread_at, state_at, state_of}
use Rattle.interleave.specs.Notes.{is_nothing}
use Rattle.interleave.specs.Steps.{IsOnItsWay, MayStep, SleepsInItsCall}
use Rattle.interleave.specs.Reached.{IsReached, IsFirst, AtEachMoment, TellsAtEachMoment}
use Rattle.interleave.proofs.Views.{words-set}
use Rattle.protocol.proofs.Steps.{seen-inside, is_valid-cell}
use Rattle.std.specs.Option.{SomeIff}
use Rattle.posixmutex.specs.Objects.{owner_of}
use Rattle.lockword.specs.Cells.{fields_of}
use Rattle.lockword.specs.Threads.{most_threads}

-- one event more
pub run-more : (s : State) (es : List Event) (e : Event) → run s (es ++ e ∷ []) ≡ (happens (run s es) e).state
run-more s [] e = refl
run-more s (x ∷ es) e = run-more (happens s x).state es e

-- a machine that was reached keeps the law's invariant
pub reached_kept : (m : Shown) → IsReached m → Kept (state_of m)
reached_kept m r = subst Kept (sym r.is) (run_kept (start m.layout r.counters) r.events (start_kept m.layout r.counters r.layout))

-- nobody holds more mutexes than there are
few : (t n : ℕ) (f : ℕ → Object) → held_by t f n ≤ n
few t zero f = omega arith
few t (suc n) f = let before = few t n f in grind (arith, nat_tests)

-- a call that is in a phase is under way, and knows what the phase needs
on_the_way : (t held : ℕ) (p : Whole) (f : Phase) (o : Object) → InPhase t held p f o → IsUnderWay f × PhaseKnows f
on_the_way t held p (Announcing r) o h = (tt, (h.0.going, h.0.knows))
on_the_way t held p (AtCell r) o h = (tt, (h.going, h.knows))
on_the_way t held p (Linking l x) o h = (tt, h.2)
on_the_way t held p (Unlinking u d) o h = (tt, h.2)
on_the_way t held p (Clearing x) o h = (tt, tt)
on_the_way t held p (Ended x) o h = absurd h

-- and so is one on a condition variable
at_the_words : (t held : ℕ) (op : Operation) (p : CondWhole) (f : CondPhase) (c : Fields) → AtPhase t held op p f c → condition.IsUnderWay f × condition.PhaseKnows f
at_the_words t held op p (cond.AtWords r) c h = (tt, h.going)
at_the_words t held op p (cond.Announcing seen) c h = (tt, tt)
at_the_words t held op p (cond.Unlinking u seen) c h = (tt, h.3)
at_the_words t held op p (cond.Locking w) c h = absurd h
at_the_words t held op p (cond.Ended x) c h = absurd h

-- what a call names is the layout's
names : (s : State) (t held : ℕ) (o : Op) (p : Whole) → Fits s t held (mutex_of s.layout o) p → Serves s.layout o p → is_in s.layout o ≡ true
names s t held (OnMutex c) p fits serves = let inside = fits.inside in grind (arith, nat_tests)
names s t held (OnCondition c) p fits serves = let inside = serves.2 in grind (arith, nat_tests)

-- so each thread may step
pub kept_step : (s : State) → Kept s → IsLayout s.layout → (t : ℕ) → 1 ≤ t → t ≤ s.layout.threads → MayStep s.layout (s.threads t)
kept_step s inv is t pos known =
    let held = inv.held t pos known in
    let bound = few t s.layout.mutexes (seen s) in
    let most = is.mutexes.1 in
    (on_its_way (s.threads t).stage (inv.sits t pos known), omega arith)
  where
    on_its_way : (g : Stage) → Sits s t (s.threads t).held g → IsOnItsWay s.layout g
    on_its_way Idle f = tt
    on_its_way (Calling o p) f =
        let way = on_the_way t (s.threads t).held p p.phase (seen s (mutex_of s.layout o)) f.0.stands in
        (names s t (s.threads t).held o p f.0 f.1, way.0, way.1)
    on_its_way (AtCondition c p) f =
        let there = f.there in
        let way = at_the_words t (s.threads t).held _ p p.phase _ f.stands in
        (grind (arith, nat_tests), way.0, way.1)
    on_its_way (Dying w) f = f.going
    on_its_way Reaped f = tt

pub may_step : (m : Shown) → IsReached m → (t : ℕ) → 1 ≤ t → t ≤ m.layout.threads → MayStep m.layout (thread_at m.threads t)
may_step m r = kept_step (state_of m) (reached_kept m r) r.layout

-- a begin that applies is noted
begun_noted : (s : State) (t : ℕ) (o : Op) (r : Result Stage Reply) → is_nothing (begun s t o r).note ≡ true → (begun s t o r).state ≡ s
begun_noted s t o (Ok g) h = absurd cc
begun_noted s t o (Err x) h = refl

-- an event that is noted as nothing changes nothing
stays : (s : State) (e : Event) → is_nothing (happens s e).note ≡ true → (happens s e).state ≡ s
stays s (Begin t o) = go (may_begin s t o)
  where
    go : (b : Bool) → is_nothing (if b then begun s t o (first_stage s.layout t (s.threads t).held o) else nothing s).note ≡ true → (if b then begun s t o (first_stage s.layout t (s.threads t).held o) else nothing s).state ≡ s
    go true h = begun_noted s t o (first_stage s.layout t (s.threads t).held o) h
    go false h = refl
stays s (Step t) = go (has_thread s t) (s.threads t).stage
  where
    access : (o : Op) (p : Whole) (a : Bool) → is_nothing (if a then nothing s else went s t (s.threads t).held (mutex_of s.layout o) (Mutex (mutex_of s.layout o)) (whole_access p) (led o p (whole_led p (answer_of s t (whole_access p))))).note ≡ true
        → (if a then nothing s else went s t (s.threads t).held (mutex_of s.layout o) (Mutex (mutex_of s.layout o)) (whole_access p) (led o p (whole_led p (answer_of s t (whole_access p))))).state ≡ s
    access o p true h = refl
    access o p false h = absurd cc

    go : (b : Bool) (g : Stage) → is_nothing (if b then stepped s t (s.threads t).held g else nothing s).note ≡ true → (if b then stepped s t (s.threads t).held g else nothing s).state ≡ s
    go true Idle h = refl
    go true (Calling o p) h = access o p (sleeps s t (Calling o p)) h
    go true (AtCondition c p) h = absurd cc
    go true (Dying w) h = absurd cc
    go true Reaped h = refl
    go false g h = refl
stays s (Kill t) = go (has_thread s t && is_alive (s.threads t).stage)
  where
    go : (b : Bool) → is_nothing (if b then killed s t else nothing s).note ≡ true → (if b then killed s t else nothing s).state ≡ s
    go true h = absurd cc
    go false h = refl
stays s (Leave t) = go (has_thread s t && is_asleep s t)
  where
    go : (b : Bool) → is_nothing (if b then departed s t else nothing s).note ≡ true → (if b then departed s t else nothing s).state ≡ s
    go true h = absurd cc
    go false h = refl
stays s (Expire t) = go (has_thread s t) (s.threads t).stage
  where
    lapses : (o : Op) (p : Whole) (a : Bool) → is_nothing (if a then lapsed s t (s.threads t).held o p else nothing s).note ≡ true → (if a then lapsed s t (s.threads t).held o p else nothing s).state ≡ s
    lapses o p true h = absurd cc
    lapses o p false h = refl

    oversleeps : (k : ℕ) (p : Whole) (a : Bool) → is_nothing (if a then overslept s t (s.threads t).held k p else nothing s).note ≡ true → (if a then overslept s t (s.threads t).held k p else nothing s).state ≡ s
    oversleeps k p true h = absurd cc
    oversleeps k p false h = refl

    go : (b : Bool) (g : Stage) → is_nothing (if b then expired s t (s.threads t).held g else nothing s).note ≡ true → (if b then expired s t (s.threads t).held g else nothing s).state ≡ s
    go true (Calling (OnMutex c) p) h = lapses (OnMutex c) p (is_timed (OnMutex c) && may_expire p.phase && sleeps s t (Calling (OnMutex c) p)) h
    go true (Calling (OnCondition c) p) h = oversleeps (condition_of c) p (is_timed (OnCondition c) && waits_on s t (condition_of c)) h
    go true g h = refl
    go false g h = refl
stays s (Decline t) = go (has_thread s t) (s.threads t).stage
  where
    trims : (o : Op) (p : Whole) (a : Bool) → is_nothing (if a then spared s t (s.threads t).held (mutex_of s.layout o) (led o p (whole_led p (Trimmed false))) else nothing s).note ≡ true
        → (if a then spared s t (s.threads t).held (mutex_of s.layout o) (led o p (whole_led p (Trimmed false))) else nothing s).state ≡ s
    trims o p true h = absurd cc
    trims o p false h = refl

    go : (b : Bool) (g : Stage) → is_nothing (if b then declined s t (s.threads t).held g else nothing s).note ≡ true → (if b then declined s t (s.threads t).held g else nothing s).state ≡ s
    go true (Calling o p) h = trims o p (is_trim (whole_access p) && not (sleeps s t (Calling o p))) h
    go true g h = refl
    go false g h = refl
stays s (Renew t) = go (has_thread s t && is_gone (s.threads t).stage)
  where
    go : (b : Bool) → is_nothing (if b then renewed s t else nothing s).note ≡ true → (if b then renewed s t else nothing s).state ≡ s
    go true h = absurd cc
    go false h = refl
stays s (Remake t m) = go (may_remake s t m)
  where
    to : ℕ
    to = waiters_of (s.words (cell_place s.layout m))

    go : (b : Bool) → is_nothing (if b then reinited s t m to else nothing s).note ≡ true → (if b then reinited s t m to else nothing s).state ≡ s
    go true h = absurd cc
    go false h = refl
stays s (Spare t by) = go (has_thread s t) (s.threads t).stage
  where
    spares : (m : ℕ) (g : Led) (a : Bool) → is_nothing (if a then spared s t (s.threads t).held m g else nothing s).note ≡ true → (if a then spared s t (s.threads t).held m g else nothing s).state ≡ s
    spares m g true h = absurd cc
    spares m g false h = refl

    go : (b : Bool) (g : Stage) → is_nothing (if b then sparing s t by (s.threads t).held g else nothing s).note ≡ true → (if b then sparing s t by (s.threads t).held g else nothing s).state ≡ s
    go true (Calling o p) h = spares (mutex_of s.layout o) (led o p (whole_led p (Count 1))) (wakes_one p.phase && is_left_to s t (mutex_of s.layout o) by) h
    go true (AtCondition c p) h = spares (mutex_of s.layout (OnCondition c)) (led_at c p (cond_led p (Count 1))) (wakes_next p.phase && is_left_to s t (mutex_of s.layout (OnCondition c)) by) h
    go true g h = refl
    go false g h = refl

-- both hold where both together hold
both : (a b : Bool) → (a && b) ≡ true → (a ≡ true) × (b ≡ true)
both true b e = (refl, e)
both false b e = absurd cc

-- an event leads from a machine that is reached to one
pub reached_step : (m : Shown) (ws : List ℕ) (k : Kernel') (ts : List Thread) (e : Event) → IsReached m → state_at m.layout ws k ts ≡ (happens (state_of m) e).state → length ws ≡ length m.words → k.threads ≡ m.kernel.threads → k.heads ≡ m.kernel.heads → length ts ≡ length m.threads
    → (b : Bool) → b ≡ (m.fresh && is_nothing (happens (state_of m) e).note) → IsReached (record { layout = m.layout; words = ws; kernel = k; threads = ts; fresh = b })
reached_step m ws k ts e r is words kernel heads threads b fresh = record {
  layout = r.layout;
  counters = r.counters;
  presets = r.presets;
  events = r.events ++ e ∷ [];
  is = is ∙ ap (λ (s : State). (happens s e).state) r.is ∙ sym (run-more (start m.layout r.counters) r.events e);
  fresh = λ on.
      let parts = both m.fresh (is_nothing (happens (state_of m) e).note) (sym fresh ∙ on) in
      let before = r.fresh parts.0 in
      record { layout = before.layout; counters = before.counters; presets = before.presets; is = is ∙ stays (state_of m) e parts.1 ∙ before.is };
  words = words ∙ r.words;
  kernel = kernel ∙ r.kernel;
  threads = threads ∙ r.threads;
  heads = λ t first last. ap (λ (hs : List ℕ). slice_index hs (t - 1)) heads ∙ r.heads t first last;
}

-- ---- the beginning

-- after its end a list reads as 0
get_or-beyond : (xs : List ℕ) (i : ℕ) → length xs ≤ i → slice_index xs i ≡ 0
get_or-beyond xs i h = grind (arith, common_steps)

-- among idle threads each is idle
replicated : (n i : ℕ) → slice_index_or (replicate n idle) i idle ≡ idle
replicated n i = grind (arith, common_steps)

-- the words that a new machine has are the first ones
first_words-is : (l : Layout') (ws : List ℕ) → ws ≡ map (first_word l (λ c. 0)) (range_with_len 0 (words_of l)) → (p : ℕ) → slice_index ws p ≡ first_word l (λ c. 0) p
first_words-is l ws e p = ap (λ (v : List ℕ). slice_index v p) e ∙ go (nat_lt p (words_of l)) refl
  where
    go : (b : Bool) → nat_lt p (words_of l) ≡ b → slice_index (map (first_word l (λ c. 0)) (range_with_len 0 (words_of l))) p ≡ first_word l (λ c. 0) p
    go true h = get_or-map-range_with_len (first_word l (λ c. 0)) 0 (words_of l) p p 0 (grind (arith, nat_tests)) (omega arith)
    go false h =
        let beyond : words_of l ≤ p = grind (arith, nat_tests) in
        let len = length-map-range_with_len (first_word l (λ c. 0)) 0 (words_of l) in
        let zero_word : first_word l (λ c. 0) p ≡ 0 = grind (arith, nat_tests) in
        get_or-beyond (map (first_word l (λ c. 0)) (range_with_len 0 (words_of l))) p (omega arith) ∙ sym zero_word

-- and its threads are idle
first_threads-is : (n : ℕ) (ts : List Thread) → ts ≡ replicate n idle → (t : ℕ) → thread_at ts t ≡ idle
first_threads-is n ts e zero = refl
first_threads-is n ts e (suc i) = ap (λ (v : List Thread). slice_index_or v i idle) e ∙ replicated n i

-- so a new machine is at the start
pub state-first : (l : Layout') (ws : List ℕ) (k : Kernel') (ts : List Thread) → ws ≡ map (first_word l (λ c. 0)) (range_with_len 0 (words_of l)) → IsFirst l k → ts ≡ replicate l.threads idle → state_at l ws k ts ≡ start l (λ c. 0)
state-first l ws k ts w idles t = λ i. record { layout = l; words = fun_ext (first_words-is l ws w) i; queues = fun_ext idles.queues i; threads = fun_ext (first_threads-is l.threads ts t) i }

-- and is reached by no event
pub reached_first : (l : Layout') (ws : List ℕ) (k : Kernel') (ts : List Thread) → IsLayout l → ws ≡ map (first_word l (λ c. 0)) (range_with_len 0 (words_of l)) → IsFirst l k → ts ≡ replicate l.threads idle → IsReached (record { layout = l; words = ws; kernel = k; threads = ts; fresh = true })
reached_first l ws k ts is w idles t = record {
  layout = is;
  counters = λ c. 0;
  presets = λ c. omega arith;
  events = [];
  is = state-first l ws k ts w idles t;
  fresh = λ on. record { layout = is; counters = λ c. 0; presets = λ c. omega arith; is = state-first l ws k ts w idles t };
  words = ap length w ∙ length-map-range_with_len (first_word l (λ c. 0)) 0 (words_of l);
  kernel = idles.threads;
  threads = ap length t ∙ length-replicate l.threads idle;
  heads = idles.heads;
}

-- a counter set at the beginning is a counter that begins so
pub first_word-set : (l : Layout') (counters : ℕ → ℕ) (c v : ℕ) → c < length l.conditions → (p : ℕ) → put (first_word l counters) (counter_place l c) v p ≡ first_word l (put counters c v) p
first_word-set l counters c v inside p =
    by_put (λ x. x ≡ first_word l (put counters c v) p) (first_word l counters) (counter_place l c) v p
    (λ is.
    let heads : (nat_lt 0 p && nat_lt p (cell_place l 0)) ≡ false = grind (arith, nat_tests) in
    let counts : (nat_le (counter_place l 0) p && nat_lt p (words_of l)) ≡ true = grind (arith, nat_tests) in
    let here : p - counter_place l 0 ≡ c = omega arith in
    sym (ap (λ (b : Bool). if b then head_word l p else if nat_le (counter_place l 0) p && nat_lt p (words_of l) then put counters c v (p - counter_place l 0) else 0) heads
    ∙ ap (λ (b : Bool). if b then put counters c v (p - counter_place l 0) else 0) counts
    ∙ ap (put counters c v) here ∙ put-same counters c v))
    (λ apart. go (nat_lt 0 p && nat_lt p (cell_place l 0)) (nat_le (counter_place l 0) p && nat_lt p (words_of l)) refl apart)
  where
    go : (a b : Bool) → (nat_le (counter_place l 0) p && nat_lt p (words_of l)) ≡ b → p ≢ counter_place l c
        → (if a then head_word l p else if b then counters (p - counter_place l 0) else 0) ≡ (if a then head_word l p else if b then put counters c v (p - counter_place l 0) else 0)
    go true b e apart = refl
    go false false e apart = refl
    go false true e apart =
        let from : counter_place l 0 ≤ p = grind (arith, nat_tests) in
        sym (put-other counters c v (p - counter_place l 0) (λ (same : p - counter_place l 0 ≡ c). apart (omega (arith, same, from))))

-- one more is within its limit
presets-set : (counters : ℕ → ℕ) (c v : ℕ) → ArePresets counters → v ≤ full → ArePresets (put counters c v)
presets-set counters c v presets small k = by_put (λ x. x ≤ full) counters c v k (λ is. small) (λ apart. presets k)

-- a counter that is set on a fresh machine leaves it reached
reached_counter : (m : Shown) (c v : ℕ) → v ≤ full → IsReached m → m.fresh ≡ true → c < length m.layout.conditions → IsReached (record m { words = slice_set m.words (counter_place m.layout c) v })
reached_counter m c v small r on inside =
    let before = r.fresh on in
    let room : counter_place m.layout c < length m.words = let n = r.words in omega arith in
    let words : (λ p. slice_index (slice_set m.words (counter_place m.layout c) v) p) ≡ first_word m.layout (put before.counters c v) =
    words-set m.words (counter_place m.layout c) v room ∙ ap (λ (s : State). put s.words (counter_place m.layout c) v) before.is ∙ fun_ext (first_word-set m.layout before.counters c v inside) in
    let now : state_at m.layout (slice_set m.words (counter_place m.layout c) v) m.kernel m.threads ≡ start m.layout (put before.counters c v) =
    (λ i. record { layout = m.layout; words = words i; queues = (before.is i).queues; threads = (before.is i).threads }) in
    record {
      layout = r.layout;
      counters = put before.counters c v;
      presets = presets-set before.counters c v before.presets small;
      events = [];
      is = now;
      fresh = λ z. record { layout = r.layout; counters = put before.counters c v; presets = presets-set before.counters c v before.presets small; is = now };
      words = length-set m.words (counter_place m.layout c) v ∙ r.words;
      kernel = r.kernel;
      threads = r.threads;
      heads = r.heads;
    }

-- a write at a valid place is a write into the list
pub stored : (ws : List ℕ) (at v : ℕ) → 1 ≤ at → at < length ws → words_after (Store at v) ws ≡ slice_set ws at v
stored ws at v first last = let valid : memories.is_valid ws at ≡ true = grind (arith, nat_tests) in ap (λ (b : Bool). if b then slice_set ws at v else ws) valid

-- what a store of the counter leaves
pub stored_counter : (m : Shown) (ws : List ℕ) (c v q x : ℕ) → IsReached m → c < length m.layout.conditions → q ≡ counter_place m.layout c → x ≡ v → ws ≡ words_after (Store q x) m.words → ws ≡ slice_set m.words (counter_place m.layout c) v
stored_counter m ws c v q x r inside at is wrote =
    let n = r.words in
    wrote ∙ (λ i. words_after (Store (at i) (is i)) m.words) ∙ stored m.words (counter_place m.layout c) v (omega arith) (omega arith)

-- the same, by the place that the code computes
pub reached_preset : (m : Shown) (ws : List ℕ) (c v q x : ℕ) → v ≤ full → IsReached m → m.fresh ≡ true → c < length m.layout.conditions → q ≡ counter_place m.layout c → x ≡ v → ws ≡ words_after (Store q x) m.words → IsReached (record m { words = ws })
reached_preset m ws c v q x small r on inside at is wrote =
    subst (λ (z : List ℕ). IsReached (record m { words = z })) (sym (stored_counter m ws c v q x r inside at is wrote)) (reached_counter m c v small r on inside)

-- and the state
pub state_preset : (m : Shown) (ws : List ℕ) (c v q x : ℕ) → IsReached m → c < length m.layout.conditions → q ≡ counter_place m.layout c → x ≡ v → ws ≡ words_after (Store q x) m.words
    → state_at m.layout ws m.kernel m.threads ≡ record (state_of m) { words = put (state_of m).words (counter_place m.layout c) v }
state_preset m ws c v q x r inside at is wrote =
    let n = r.words in
    let words : (λ p. slice_index ws p) ≡ put (λ p. slice_index m.words p) (counter_place m.layout c) v =
    ap (λ (z : List ℕ). λ (p : ℕ). slice_index z p) (stored_counter m ws c v q x r inside at is wrote) ∙ words-set m.words (counter_place m.layout c) v (omega arith) in
    λ i. record (state_of m) { words = words i }

-- ---- owners

-- a mutex's owner is 0 or a thread
pub owner_small : (m : Shown) (k o : ℕ) → IsReached m → k < m.layout.mutexes → o ≡ (fields_of (slice_index m.words (cell_place m.layout k))).owner → o ≤ most_threads
owner_small m k zero r inside e = omega arith
owner_small m k (suc n) r inside e =
    let inv = reached_kept m r in
    let own : (seen (state_of m) k).owner ≡ Some (suc n) = ap (λ (o : Object). o.owner) (seen-inside (state_of m) k inside) ∙ ap owner_of (sym e) in
    let known = inv.owners k (suc n) own in
    let most = r.layout.threads.1 in omega arith

-- an id that is none or a thread is the owner that it names
pub owner_is : (r : Option ℕ) (o : ℕ) → SomeIff r ((1 ≤ o) × (o ≤ most_threads)) o → o ≤ most_threads → r ≡ owner_of o
owner_is None zero h most = refl
owner_is None (suc n) h most = absurd (h (omega arith, most))
owner_is (Some x) zero h most = let first = h.0.0 in absurd (omega arith)
owner_is (Some x) (suc n) h most = ap Some h.1

-- ---- runs

-- the first notes are those of the first events
notes-take : (s : State) (es : List Event) (n : ℕ) → take n (notes s es) ≡ notes s (take n es)
notes-take s es zero = refl
notes-take s [] (suc n) = refl
notes-take s (e ∷ es) (suc n) = ap (λ (ns : List Note). (happens s e).note ∷ ns) (notes-take (happens s e).state es n)

-- from the start, the law holds at each moment
pub each_moment : (s : State) (l : Layout') (counters : ℕ → ℕ) (es : List Event) → IsLayout l → s ≡ start l counters → AtEachMoment s es (notes s es)
each_moment s l counters es is e n =
    subst (IsHistory (run s (take n es))) (sym (notes-take s es n)) (subst (λ (z : State). IsHistory (run z (take n es)) (notes z (take n es))) (sym e) (legal l counters (take n es) is))

-- and so do the notes tell who sleeps
pub tells_each_moment : (s : State) (l : Layout') (counters : ℕ → ℕ) (es : List Event) → IsLayout l → s ≡ start l counters → TellsAtEachMoment l s es (notes s es)
tells_each_moment s l counters es is e n =
    subst (TellsSleepers l (run s (take n es))) (sym (notes-take s es n)) (subst (λ (z : State). TellsSleepers l (run z (take n es)) (notes z (take n es))) (sym e) (told_sleeps l counters (take n es) is))

-- one note more
pub notes-more : (s : State) (es : List Event) (e : Event) → notes s (es ++ e ∷ []) ≡ notes s es ++ (happens (run s es) e).note ∷ []
notes-more s [] e = refl
notes-more s (x ∷ es) e = ap (λ (ns : List Note). (happens s x).note ∷ ns) (notes-more (happens s x).state es e)

-- what is read at an address of the machine's memory
pub read_at : (m : Shown) (at : ℕ) → IsReached m → word_at m.words at ≡ (if is_valid m.layout at then Some ((state_of m).words at) else None)
read_at m at r = ap (λ (n : ℕ). if nat_le 1 at && nat_lt at n then Some (slice_index m.words at) else None) r.words

-- so the cell of a mutex is read
pub read_cell : (m : Shown) (k at : ℕ) (x : Option ℕ) → IsReached m → k < m.layout.mutexes → at ≡ cell_place m.layout k → x ≡ word_at m.words at → x ≡ Some (slice_index m.words (cell_place m.layout k))
read_cell m k at x r inside is read =
    read ∙ ap (word_at m.words) is ∙ read_at m (cell_place m.layout k) r
    ∙ ap (λ (b : Bool). if b then Some (slice_index m.words (cell_place m.layout k)) else None) (is_valid-cell m.layout k inside)

-- ---- sleepers

-- in a machine that was reached, each queue is as the law says
pub reached_queued : (m : Shown) → IsReached m → Queued (state_of m)
reached_queued m r = subst Queued (sym r.is) (run_queued m.layout r.counters r.events r.layout)

-- so whoever stands in a queue sleeps in its call
pub sleeps_in_call : (m : Shown) → IsReached m → (t : ℕ) → SleepsInItsCall (state_of m) t
sleeps_in_call m r t key stands = asleep_there (state_of m) t key (reached_queued m r) stands

-- one list of events after another
run-append : (s : State) (es fs : List Event) → run s (es ++ fs) ≡ run (run s es) fs
run-append s [] fs = refl
run-append s (e ∷ es) fs = run-append (happens s e).state es fs

-- whatever happens to a machine that was reached, no sleeper is stranded, and what a thread does alone comes to an end
pub reached_runs_alone : (m : Shown) (es : List Event) → IsReached m → RunsAlone (run (state_of m) es)
reached_runs_alone m es r =
    subst RunsAlone (run-append (start m.layout r.counters) r.events es ∙ ap (λ (s : State). run s es) (sym r.is)) (runs_alone m.layout r.counters (r.events ++ es) r.layout)

-- and nobody who was reaped owns a mutex
pub reached_reaped : (m : Shown) (es : List Event) → IsReached m → NoReapedOwns (run (state_of m) es)
reached_reaped m es r = no_reaped_owns (run (state_of m) es) (run_kept (state_of m) es (reached_kept m r))

-- and whoever is killed, its death is recorded
pub reached_deaths : (m : Shown) (es : List Event) → IsReached m → ReportsDeaths (state_of m) es
reached_deaths m es r = reports_deaths (state_of m) es (reached_kept m r)

-- ---- a thread alone

-- one step more
pub alone-more : (s : State) (t n : ℕ) → alone s t (suc n) ≡ (happens (alone s t n) (Step t)).state
alone-more s t zero = refl
alone-more s t (suc n) = alone-more (happens s (Step t)).state t n

-- at the beginning a step does nothing
start_rests : (l : Layout') (counters : ℕ → ℕ) (t : ℕ) → happens (start l counters) (Step t) ≡ nothing (start l counters)
start_rests l counters t = go (has_thread (start l counters) t)
  where
    go : (b : Bool) → (if b then nothing (start l counters) else nothing (start l counters)) ≡ nothing (start l counters)
    go true = refl
    go false = refl

alone_rests : (l : Layout') (counters : ℕ → ℕ) (t n : ℕ) → alone (start l counters) t n ≡ start l counters
alone_rests l counters t zero = refl
alone_rests l counters t (suc n) = ap (λ (a : After). alone a.state t n) (start_rests l counters t) ∙ alone_rests l counters t n

-- so a machine to which nothing has happened stays so
pub stays_fresh : (m : Shown) (t n : ℕ) → IsReached m → (m.fresh && is_nothing (happens (alone (state_of m) t n) (Step t)).note) ≡ m.fresh
stays_fresh m t n r = go m.fresh refl
  where
    go : (b : Bool) → m.fresh ≡ b → (b && is_nothing (happens (alone (state_of m) t n) (Step t)).note) ≡ b
    go true e =
        let begun = r.fresh e in
        ap (λ (s : State). is_nothing (happens (alone s t n) (Step t)).note) begun.is ∙ ap (λ (s : State). is_nothing (happens s (Step t)).note) (alone_rests m.layout begun.counters t n)
        ∙ ap (λ (a : After). is_nothing a.note) (start_rests m.layout begun.counters t)
    go false e = refl

-- its layout stays
pub alone_layout : (m n : Shown) (t k : ℕ) → IsReached m → state_of n ≡ alone (state_of m) t k → n.layout ≡ m.layout
alone_layout m n t k r is = ap (λ (s : State). s.layout) is ∙ run_layout (state_of m) (replicate k (Step t)) (reached_kept m r)
