-- Places that no machine uses: word 0, and queues of what is neither a cell nor a counter.
use Rattle.std.proofs.Common.{◌≡◌, ◌≢◌, ⊎_elim, ℕ, ◌-◌, ◌<◌, ◌≤◌, Bool, true, false, ◌&&◌, List, [], ◌∷◌, length, Result, Ok, Err, refl, sym, ap, ◌∙◌, subst, arith}
use Rattle.std.specs.Prelude.{if◌then◌else◌, slice_index, nat_lt, nat_le, not}
use Rattle.std.proofs.lemmas.Bool.Decides.{nat_tests}
use Rattle.lockword.specs.declared.reply.Reply.{Reply}
use Rattle.stepprograms.specs.declared.access.Access.{Access}
use Rattle.stepprograms.specs.declared.access.Access.TheVariants as access
use Rattle.stepprograms.specs.declared.access.Answer.TheVariants.{Trimmed, Count}
use Rattle.stepprograms.specs.Accesses.{word_among}
use Rattle.memorymap.specs.Layouts.{Layout', IsLayout, words_of, cell_place, counter_place, first_word, head_word}
use Rattle.mutex.specs.Standings.{Whole}
use Rattle.mutex.specs.Whole.{may_expire, whole_access, whole_led}
use Rattle.condvar.specs.declared.op.Op.{Op}
use Rattle.condvar.specs.declared.op.Op.TheVariants.{OnMutex, OnCondition}
use Rattle.condvar.specs.Ops.{mutex_of}
use Rattle.condvar.specs.Calls.{condition_of}
use Rattle.condvar.specs.Whole.{cond_access, cond_led}
use Rattle.facts.specs.declared.fact.Queue.{Queue}
use Rattle.protocol.specs.declared.event.Event.{Event}
use Rattle.protocol.specs.declared.event.Event.TheVariants.{Begin, Step, Kill, Leave, Expire, Decline, Renew, Remake, Spare}
use Rattle.protocol.specs.declared.thread.Stage.{Stage}
use Rattle.protocol.specs.declared.thread.Stage.TheVariants.{Idle, Calling, AtCondition, Dying, Reaped}
use Rattle.protocol.specs.Machine.{State, put, start, run, is_met, place_met, words_after, has_thread, is_alive, is_gone, may_begin, may_remake, begun, first_stage, nothing, killed, departed, renewed, reinited, waiters_of, is_asleep, happens, stepped, expired, declined, sparing, went, lapsed, overslept, spared, is_timed, is_trim, sleeps, waits_on, Led, led, led_at, stands_in}
use Rattle.protocol.specs.Machine.{wakes_one, wakes_next, is_left_to, is_in_head}
use Rattle.protocol.proofs.Puts.{by_put}
use Rattle.protocol.proofs.Kept.{Kept}
use Rattle.protocol.proofs.Queued.{Queued}
use Rattle.protocol.proofs.Stepping.{SleepsAs}
use mathlib.Core.Path.{fun_ext}
use Rattle.syscalls.specs.Kernels.{Kernel', queue_of}
use Rattle.protocol.proofs.Runs.{start_kept, run_kept}
use Rattle.protocol.specs.declared.thread.Thread.{Thread}
use Rattle.protocol.proofs.QueueRuns.{run_queued}
use Rattle.interleave.specs.Shown.{Shown, state_of, state_at, thread_at}
use Rattle.interleave.specs.declared.saved.Saved.{Saved}
use Rattle.interleave.specs.Reached.{IsReached}
use Rattle.interleave.specs.Steps.{IsOnItsWay}
use Rattle.interleave.specs.Saved.{WasReached, saved_state, sleepers_at, AreApart}
use Rattle.interleave.proofs.Reaches.{kept_step, reached_kept, reached_queued}
use Rattle.interleave.proofs.Saving.{nobody, apart_from}

-- ---- word 0

-- no access that isn't refused is at place 0
not_at_zero : (l : Layout') (t : ℕ) (a : Access) → is_met l t a ≡ true → place_met l t a ≢ 0
not_at_zero l t (access.Requeue from n to k) h = λ e. grind (arith, nat_tests)
not_at_zero l t (access.CmpRequeue from e n to k) h = λ z. grind (arith, nat_tests)
not_at_zero l t a h = λ e. grind (arith, nat_tests)

-- so an access leaves word 0
access_keeps : (s : State) (t : ℕ) (a : Access) → words_after s t a 0 ≡ s.words 0
access_keeps s t a = go (is_met s.layout t a) (not_at_zero s.layout t a)
  where
    go : (b : Bool) → (b ≡ true → place_met s.layout t a ≢ 0)
        → (if b then put s.words (place_met s.layout t a) (word_among a (s.words (place_met s.layout t a)) (s.queues (place_met s.layout t a))) else s.words) 0 ≡ s.words 0
    go true apart = by_put (λ x. x ≡ s.words 0) s.words (place_met s.layout t a) _ 0 (λ e. absurd (apart refl (sym e))) (λ other. refl)
    go false apart = refl

-- and so does any event
event_keeps : (s : State) (e : Event) → (happens s e).state.words 0 ≡ s.words 0
event_keeps s (Begin t o) = go (may_begin s t o) (first_stage s.layout t (s.threads t).held o)
  where
    go : (b : Bool) (r : Result Stage Reply) → (if b then begun s t o r else nothing s).state.words 0 ≡ s.words 0
    go true (Ok g) = refl
    go true (Err x) = refl
    go false r = refl
event_keeps s (Step t) = go (has_thread s t) (s.threads t).stage
  where
    rests : (o : Op) (p : Whole) (q : Queue) (g : Led) (a : Bool) → (if a then nothing s else went s t (s.threads t).held (mutex_of s.layout o) q (whole_access p) g).state.words 0 ≡ s.words 0
    rests o p q g true = refl
    rests o p q g false = access_keeps s t (whole_access p)

    go : (b : Bool) (g : Stage) → (if b then stepped s t (s.threads t).held g else nothing s).state.words 0 ≡ s.words 0
    go true (Calling o p) = rests o p _ _ (sleeps s t (Calling o p))
    go true (AtCondition c p) = access_keeps s t (cond_access p)
    go true (Dying w) = access_keeps s t _
    go true Idle = refl
    go true Reaped = refl
    go false g = refl
event_keeps s (Kill t) = go (has_thread s t && is_alive (s.threads t).stage)
  where
    go : (b : Bool) → (if b then killed s t else nothing s).state.words 0 ≡ s.words 0
    go true = refl
    go false = refl
event_keeps s (Leave t) = go (has_thread s t && is_asleep s t)
  where
    go : (b : Bool) → (if b then departed s t else nothing s).state.words 0 ≡ s.words 0
    go true = refl
    go false = refl
event_keeps s (Expire t) = go (has_thread s t) (s.threads t).stage
  where
    lapses : (o : Op) (p : Whole) (a : Bool) → (if a then lapsed s t (s.threads t).held o p else nothing s).state.words 0 ≡ s.words 0
    lapses o p true = refl
    lapses o p false = refl

    oversleeps : (k : ℕ) (p : Whole) (a : Bool) → (if a then overslept s t (s.threads t).held k p else nothing s).state.words 0 ≡ s.words 0
    oversleeps k p true = refl
    oversleeps k p false = refl

    go : (b : Bool) (g : Stage) → (if b then expired s t (s.threads t).held g else nothing s).state.words 0 ≡ s.words 0
    go true (Calling (OnMutex c) p) = lapses (OnMutex c) p (is_timed (OnMutex c) && may_expire p.phase && sleeps s t (Calling (OnMutex c) p))
    go true (Calling (OnCondition c) p) = oversleeps (condition_of c) p (is_timed (OnCondition c) && waits_on s t (condition_of c))
    go true g = refl
    go false g = refl
event_keeps s (Decline t) = go (has_thread s t) (s.threads t).stage
  where
    trims : (m : ℕ) (g : Led) (a : Bool) → (if a then spared s t (s.threads t).held m g else nothing s).state.words 0 ≡ s.words 0
    trims m g true = refl
    trims m g false = refl

    go : (b : Bool) (g : Stage) → (if b then declined s t (s.threads t).held g else nothing s).state.words 0 ≡ s.words 0
    go true (Calling o p) = trims (mutex_of s.layout o) (led o p (whole_led p (Trimmed false))) (is_trim (whole_access p) && not (sleeps s t (Calling o p)))
    go true g = refl
    go false g = refl
event_keeps s (Renew t) = go (has_thread s t && is_gone (s.threads t).stage)
  where
    head : (b : Bool) → b ≡ is_in_head t 0 → (if b then head_word s.layout 0 else s.words 0) ≡ s.words 0
    head true e = absurd (let outside : is_in_head t 0 ≡ false = grind (arith, nat_tests) in cc)
    head false e = refl

    go : (b : Bool) → (if b then renewed s t else nothing s).state.words 0 ≡ s.words 0
    go true = head (is_in_head t 0) refl
    go false = refl
event_keeps s (Remake t m) = go (may_remake s t m)
  where
    to : ℕ
    to = waiters_of (s.words (cell_place s.layout m))

    go : (b : Bool) → (if b then reinited s t m to else nothing s).state.words 0 ≡ s.words 0
    go true = by_put (λ x. x ≡ s.words 0) s.words (cell_place s.layout m) to 0 (λ e. absurd (omega (arith, e))) (λ other. refl)
    go false = refl
event_keeps s (Spare t by) = go (has_thread s t) (s.threads t).stage
  where
    spares : (m : ℕ) (g : Led) (a : Bool) → (if a then spared s t (s.threads t).held m g else nothing s).state.words 0 ≡ s.words 0
    spares m g true = refl
    spares m g false = refl

    go : (b : Bool) (g : Stage) → (if b then sparing s t by (s.threads t).held g else nothing s).state.words 0 ≡ s.words 0
    go true (Calling o p) = spares (mutex_of s.layout o) (led o p (whole_led p (Count 1))) (wakes_one p.phase && is_left_to s t (mutex_of s.layout o) by)
    go true (AtCondition c p) = spares (mutex_of s.layout (OnCondition c)) (led_at c p (cond_led p (Count 1))) (wakes_next p.phase && is_left_to s t (mutex_of s.layout (OnCondition c)) by)
    go true g = refl
    go false g = refl

run_keeps : (s : State) (es : List Event) → (run s es).words 0 ≡ s.words 0
run_keeps s [] = refl
run_keeps s (e ∷ es) = run_keeps (happens s e).state es ∙ event_keeps s e

-- word 0 is 0 in every run
null_word : (l : Layout') (counters : ℕ → ℕ) (es : List Event) → (run (start l counters) es).words 0 ≡ 0
null_word l counters es = run_keeps (start l counters) es ∙ first
  where
    first : first_word l counters 0 ≡ 0
    first = grind (arith, nat_tests)

pub null_reached : (m : Shown) → IsReached m → slice_index m.words 0 ≡ 0
null_reached m r = ap (λ (s : State). s.words 0) r.is ∙ null_word m.layout r.counters r.events

-- ---- where threads sleep

-- the places on which a thread may sleep are cells and counters
among_places : (l : Layout') (key : ℕ) (g : Stage) → IsOnItsWay l g → IsLayout l → SleepsAs l key g → (cell_place l 0 ≤ key) × (key < words_of l)
among_places l key (Calling (OnMutex c) p) way is h = ⊎_elim (λ e. let inside = way.0 in (omega arith, grind (arith, nat_tests))) (λ none. absurd none) h.1
among_places l key (Calling (OnCondition c) p) way is h =
    let k : ℕ = condition_of c in
    let there : k < length l.conditions = (let inside = way.0 in grind (arith, nat_tests)) in
    let below : slice_index l.conditions k < l.mutexes = is.conditions.1 k 0 there in
    ⊎_elim (λ e. let same : key ≡ cell_place l (slice_index l.conditions k) = e in (omega arith, omega arith)) (λ more. ⊎_elim (λ e. let same : key ≡ counter_place l k = e in (omega arith, omega arith)) (λ none. absurd none) more) h.1
among_places l key Idle way is h = absurd h
among_places l key (AtCondition c p) way is h = absurd h
among_places l key (Dying w) way is h = absurd h
among_places l key Reaped way is h = absurd h

-- who sleeps is a thread, and sleeps there
sleeps_inside : (s : State) → Kept s → Queued s → IsLayout s.layout → (key t : ℕ) → stands_in t (s.queues key) ≡ true → ((1 ≤ t) × (t ≤ s.layout.threads)) × ((cell_place s.layout 0 ≤ key) × (key < words_of s.layout))
sleeps_inside s kept queued is key t stands =
    let slept = queued.sleeps key t stands in
    ((slept.0, slept.1), among_places s.layout key (s.threads t).stage (kept_step s kept is t slept.0 slept.1).0 is slept.2)

-- so nobody sleeps elsewhere
pub nobody_outside : (m : Shown) → IsReached m → (first end key : ℕ) → first ≡ cell_place m.layout 0 → end ≡ words_of m.layout → (nat_le first key && nat_lt key end) ≡ false → (state_of m).queues key ≡ []
nobody_outside m r first end key f e out = nobody ((state_of m).queues key) (λ t stands. let inside = (sleeps_inside (state_of m) (reached_kept m r) (reached_queued m r) r.layout key t stands).1 in let yes : (nat_le first key && nat_lt key end) ≡ true = grind (arith, nat_tests) in cc)

-- ---- what is saved

-- what is saved of a machine is its state
pub saved_is : (m : Shown) (s : Saved) (first end : ℕ) → IsReached m → first ≡ cell_place m.layout 0 → end ≡ words_of m.layout → s.words.items ≡ m.words → s.threads.items ≡ m.threads
    → ((p : ℕ) → sleepers_at s.sleepers.items p ≡ (if nat_le first p && nat_lt p end then queue_of m.kernel p else [])) → saved_state m.layout s ≡ state_of m
saved_is m s first end r f e words threads queues = λ i. record {
  layout = m.layout;
  words = λ p. slice_index (words i) p;
  queues = fun_ext here i;
  threads = thread_at (threads i);
}
  where
    here : (p : ℕ) → sleepers_at s.sleepers.items p ≡ queue_of m.kernel p
    here p = queues p ∙ go (nat_le first p && nat_lt p end) (nobody_outside m r first end p f e)
      where
        go : (b : Bool) → (b ≡ false → queue_of m.kernel p ≡ []) → (if b then queue_of m.kernel p else []) ≡ queue_of m.kernel p
        go true out = refl
        go false out = sym (out refl)

-- and was reached
pub saved_reached : (m : Shown) (s : Saved) (first end : ℕ) → IsReached m → first ≡ cell_place m.layout 0 → end ≡ words_of m.layout → s.words.items ≡ m.words → s.threads.items ≡ m.threads
    → ((p : ℕ) → sleepers_at s.sleepers.items p ≡ (if nat_le first p && nat_lt p end then queue_of m.kernel p else [])) → WasReached m.layout s
saved_reached m s first end r f e words threads queues = record {
  layout = r.layout;
  counters = r.counters;
  presets = r.presets;
  events = r.events;
  is = saved_is m s first end r f e words threads queues ∙ r.is;
  words = ap length words ∙ r.words;
  threads = ap length threads ∙ r.threads;
}

-- its word 0 is 0
pub null_saved : (l : Layout') (s : Saved) → WasReached l s → slice_index s.words.items 0 ≡ 0
null_saved l s r = ap (λ (z : State). z.words 0) r.is ∙ null_word l r.counters r.events

saved_queued : (l : Layout') (s : Saved) → WasReached l s → Queued (saved_state l s)
saved_queued l s r = subst Queued (sym r.is) (run_queued l r.counters r.events r.layout)

-- no thread sleeps twice
pub saved_apart : (l : Layout') (s : Saved) → WasReached l s → AreApart s.sleepers.items
saved_apart l s r = let queued = saved_queued l s r in apart_from s.sleepers.items queued.once queued.one

-- and each sleeper is a thread, on a word that is there
pub saved_inside : (l : Layout') (s : Saved) → WasReached l s → (key t : ℕ) → stands_in t (sleepers_at s.sleepers.items key) ≡ true → ((1 ≤ t) × (t ≤ l.threads)) × ((cell_place l 0 ≤ key) × (key < words_of l))
saved_inside l s r key t stands =
    let kept = subst Kept (sym r.is) (run_kept (start l r.counters) r.events (start_kept l r.counters r.layout)) in
    sleeps_inside (saved_state l s) kept (saved_queued l s r) r.layout key t stands

-- ---- what is restored

-- what was saved is the state then
pub restored_is : (l : Layout') (s : Saved) (ws : List ℕ) (k : Kernel') (ts : List Thread) → ws ≡ s.words.items → ts ≡ s.threads.items → ((key : ℕ) → queue_of k key ≡ sleepers_at s.sleepers.items key) → state_at l ws k ts ≡ saved_state l s
restored_is l s ws k ts words threads queues = λ i. record {
  layout = l;
  words = λ p. slice_index (words i) p;
  queues = fun_ext queues i;
  threads = thread_at (threads i);
}

-- and the machine is reached
pub restored : (m : Shown) (s : Saved) (ws : List ℕ) (k : Kernel') (ts : List Thread) → IsReached m → WasReached m.layout s → ws ≡ s.words.items → ts ≡ s.threads.items → ((key : ℕ) → queue_of k key ≡ sleepers_at s.sleepers.items key)
    → k.threads ≡ m.kernel.threads → k.heads ≡ m.kernel.heads → IsReached (record { layout = m.layout; words = ws; kernel = k; threads = ts; fresh = false })
restored m s ws k ts r was words threads queues kernel heads = record {
  layout = r.layout;
  counters = was.counters;
  presets = was.presets;
  events = was.events;
  is = restored_is m.layout s ws k ts words threads queues ∙ was.is;
  fresh = λ on. absurd cc;
  words = ap length words ∙ was.words;
  kernel = kernel ∙ r.kernel;
  threads = ap length threads ∙ was.threads;
  heads = λ t first last. ap (λ (hs : List ℕ). slice_index hs (t - 1)) heads ∙ r.heads t first last;
}
