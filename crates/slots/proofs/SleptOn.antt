-- What a run keeps of SLEPT, of waits that have released their mutexes, and of counters on which nobody sleeps.
use Rattle.std.proofs.Common.{◌≡◌, ◌≢◌, ℕ, ◌<◌, ◌≤◌, Bool, true, false, List, [], ◌∷◌, length, refl, sym, ap, subst, arith}
use Rattle.std.specs.Prelude.{not, ◌&&◌}
use Rattle.exitwalk.specs.Standings as walks
use Rattle.exitwalk.specs.declared.row.Row as walk_row
use Rattle.exitwalk.specs.Walks as exit
use Rattle.memorymap.specs.Layouts.{Layout', counter_place}
use Rattle.mutex.specs.Whole.{may_expire}
use Rattle.condvar.specs.Calls.{condition_of}
use Rattle.condvar.specs.Standings.{CondWhole}
use Rattle.condvar.specs.declared.phase.CondPhase.{CondPhase}
use Rattle.condvar.specs.declared.phase.CondPhase.TheVariants.{AtWords}
use Rattle.condvar.specs.declared.row.CondRow.TheVariants.{Wait}
use Rattle.condvar.specs.declared.wait.WaitRow.TheVariants as wait
use Rattle.condvar.specs.declared.op.Op.TheVariants.{OnMutex, OnCondition}
use Rattle.protocol.specs.Explained.{caller}
use Rattle.protocol.specs.declared.event.Event.{Event}
use Rattle.protocol.specs.declared.event.Event.TheVariants.{Step, Kill, Leave, Expire, Renew}
use Rattle.protocol.specs.declared.thread.Stage.{Stage}
use Rattle.protocol.specs.declared.thread.Stage.TheVariants.{AtCondition, Calling, Dying, Idle, Reaped}
use Rattle.protocol.specs.Machine.{State, After, departed, expired, happens, has_thread, is_alive, is_asleep, is_dying, is_exiting, is_gone, is_timed, killed, lapsed, nothing, overslept, renewed, run, sleeps, stands_in, waits_on}
use Rattle.protocol.proofs.Counters.{Counted, KnowsAt, KnowsIn, counted_on, never_falls, passes}
use Rattle.protocol.proofs.Kept.{Kept}
use Rattle.protocol.proofs.Queued.{in_none}
use Rattle.protocol.proofs.Runs.{sound}
use Rattle.protocol.proofs.Seeing.{head_in}
use Rattle.buckets.specs.Queues.{without}
use Rattle.slots.specs.Rows.{Row}
use Rattle.slots.specs.Rows.Giving.{OfWait}
use Rattle.slots.specs.Shown.{Slots, after}
use Rattle.slots.specs.Stands.{StandsAs}
use Rattle.slots.specs.Seen.{wait_of}
use Rattle.slots.specs.Table.{made}
use Rattle.slots.specs.Runs.{Happening, at_row, events_of, is_resting, lapse_events, lapse_row, made_by, may_call, next}
use Rattle.slots.specs.Runs.Happening.{Calls, Goes, Interrupts, Lapses, Dies, Walks, Lives}
use Rattle.slots.specs.Accesses.{IsAtRow}
use Rattle.slots.specs.Goes.{Grants, who}
use Rattle.slots.specs.Premises.{TrustsIn}
use Rattle.slots.proofs.AllRows.{layout_run}
use Rattle.slots.proofs.CountersKept.{count_at}
use Rattle.slots.proofs.Each.{each_access}
use Rattle.slots.proofs.Free.{reached_kept, reached_queued}
use Rattle.slots.proofs.HeirsStay.{walk_goes}
use Rattle.slots.proofs.Keeping.{dying_at}
use Rattle.slots.proofs.Leading.{by_test}
use Rattle.slots.proofs.MachineRuns.{next_is}
use Rattle.slots.proofs.NoWaits.{SleepsElsewhere, empty_made}
use Rattle.slots.specs.Stores.{Released}
use Rattle.slots.proofs.Slept.{queue_at}
use Rattle.slots.proofs.SleptKept.{empty_then}
use Rattle.slots.proofs.Steady.{Steady, granted, may_go}

-- ---- what a wait has seen

wait_below : (l : Layout') (words : ℕ → ℕ) (i c : ℕ) (timed : Bool) (p : CondWhole) → KnowsIn l words (AtCondition (wait_of i timed) p) → (p.phase ≡ AtWords (Wait (wait.Wake c))) → c ≤ words (counter_place l i)
wait_below l words i c true p knows at = subst (λ (f : CondPhase). KnowsAt (words (counter_place l i)) f) at knows
wait_below l words i c false p knows at = subst (λ (f : CondPhase). KnowsAt (words (counter_place l i)) f) at knows

sleep_below : (l : Layout') (words : ℕ → ℕ) (i c : ℕ) (timed : Bool) (p : CondWhole) → KnowsIn l words (AtCondition (wait_of i timed) p) → (p.phase ≡ AtWords (Wait (wait.Sleep c))) → c ≤ words (counter_place l i)
sleep_below l words i c true p knows at = subst (λ (f : CondPhase). KnowsAt (words (counter_place l i)) f) at knows
sleep_below l words i c false p knows at = subst (λ (f : CondPhase). KnowsAt (words (counter_place l i)) f) at knows

both_same : (l : Layout') (words : ℕ → ℕ) (i c k n : ℕ) → i ≡ k → c ≡ n → c ≤ words (counter_place l i) → n ≤ words (counter_place l k)
both_same l words i c k n e f h = subst (λ (j : ℕ). n ≤ words (counter_place l j)) e (subst (λ (d : ℕ). d ≤ words (counter_place l i)) f h)

below_row : (l : Layout') (words : ℕ → ℕ) (r : Row) (g : Stage) (k n : ℕ) → StandsAs r g → KnowsIn l words g → Released r k n → n ≤ words (counter_place l k)
below_row l words (Row.HandsOn m (OfWait i c b timed) is) g k n (p, st, at) knows (e, f) = both_same l words i c k n e f (wait_below l words i c timed p (subst (KnowsIn l words) st knows) at)
below_row l words (Row.LooksBack m (OfWait i c b timed) is) g k n (p, st, at) knows (e, f) = both_same l words i c k n e f (wait_below l words i c timed p (subst (KnowsIn l words) st knows) at)
below_row l words (Row.WakesOne m (OfWait i c b timed) is) g k n (p, st, at) knows (e, f) = both_same l words i c k n e f (wait_below l words i c timed p (subst (KnowsIn l words) st knows) at)
below_row l words (Row.WaitSleeps m i c timed) g k n (p, st, at) knows (e, f) = both_same l words i c k n e f (sleep_below l words i c timed p (subst (KnowsIn l words) st knows) at)
below_row l words r g k n there knows rel = absurd rel

pub below : (x : Slots) (u : ℕ) → 1 ≤ u → u ≤ x.machine.layout.threads → Steady x → (k n : ℕ) → Released (x.rows u) k n → n ≤ count_at x k
below x u first last s k n rel = go (is_alive (x.machine.threads u).stage) refl
  where
    go : (b : Bool) → is_alive (x.machine.threads u).stage ≡ b → n ≤ count_at x k
    go true lives = below_row x.machine.layout x.machine.words (x.rows u) (x.machine.threads u).stage k n (s.there u first last lives) (s.counts.knows u first last) rel
    go false dead = absurd (subst (λ (r : Row). Released r k n) (s.rests u first last dead) rel)

-- ---- counters rise

pub run_rises : (s : State) (es : List Event) (k : ℕ) → Kept s → Counted s → s.words (counter_place s.layout k) ≤ (run s es).words (counter_place (run s es).layout k)
run_rises s [] k inv counted = omega arith
run_rises s (e ∷ es) k inv counted =
    let later = run_rises (happens s e).state es k (sound s e inv).kept (counted_on s e inv counted) in
    let now = never_falls s (caller e) (happens s e).state inv counted (passes s e inv counted) k in
    let same : (happens s e).state.words (counter_place (happens s e).state.layout k) ≡ (happens s e).state.words (counter_place s.layout k) = ap (λ (l : Layout'). (happens s e).state.words (counter_place l k)) (sound s e inv).same in
    omega (arith, later, now, same)

pub rises_next : (x : Slots) (h : Happening) → Steady x → (k : ℕ) → count_at x k ≤ count_at (next x h) k
rises_next x h s k = subst (λ (z : State). count_at x k ≤ z.words (counter_place z.layout k)) (sym (next_is x h)) (run_rises x.machine (events_of x h) k (reached_kept x.machine s.reached) s.counts)

-- ---- nobody comes to sleep

module _ (s : State) (t k : ℕ) (none : s.queues (counter_place s.layout k) ≡ []) where
  abbrev Empty : After → Type 0
  Empty a = a.state.queues (counter_place a.state.layout k) ≡ []

  gone : (without t (s.queues (counter_place s.layout k))) ≡ []
  gone = ap (without t) none

  leave_empty : Empty (happens s (Leave t))
  leave_empty = by_test Empty (has_thread s t && is_asleep s t) (departed s t) (nothing s) (λ e. gone) (λ e. none)

  kill_empty : Empty (happens s (Kill t))
  kill_empty = by_test Empty (has_thread s t && is_alive (s.threads t).stage) (killed s t) (nothing s) (λ e. gone) (λ e. none)

  renew_empty : Empty (happens s (Renew t))
  renew_empty = by_test Empty (has_thread s t && is_gone (s.threads t).stage) (renewed s t) (nothing s) (λ e. none) (λ e. none)

  expired_empty : (h : ℕ) (g : Stage) → Empty (expired s t h g)
  expired_empty h (Calling (OnMutex c) q) = by_test Empty (is_timed (OnMutex c) && may_expire q.phase && sleeps s t (Calling (OnMutex c) q)) (lapsed s t h (OnMutex c) q) (nothing s) (λ e. gone) (λ e. none)
  expired_empty h (Calling (OnCondition c) q) = by_test Empty (is_timed (OnCondition c) && waits_on s t (condition_of c)) (overslept s t h (condition_of c) q) (nothing s) (λ e. gone) (λ e. none)
  expired_empty h Idle = none
  expired_empty h (AtCondition c q) = none
  expired_empty h (Dying v) = none
  expired_empty h Reaped = none

  expire_empty : Empty (happens s (Expire t))
  expire_empty = by_test Empty (has_thread s t) (expired s t (s.threads t).held (s.threads t).stage) (nothing s) (λ e. expired_empty (s.threads t).held (s.threads t).stage) (λ e. none)

  walk_away : (h : ℕ) (r : walk_row.Row) → SleepsElsewhere s.layout t (exit.row_access h r) (counter_place s.layout k)
  walk_away h r = grind (arith)

  walk_empty : (w : walks.Standing) → Kept s → 1 ≤ t → t ≤ s.layout.threads → (s.threads t).stage ≡ Dying w → Empty (happens s (Step t))
  walk_empty w inv pos known is = subst (λ (z : State). z.queues (counter_place z.layout k) ≡ []) (sym (walk_goes s t w inv pos known is)) (empty_made s t (counter_place s.layout k) none (exit.row_access (head_in s.layout t) w.row) (walk_away (head_in s.layout t) w.row))

second_of : (a b : Bool) → (a && b) ≡ true → b ≡ true
second_of true b e = e
second_of false b e = absurd cc

pub empty_next : (x : Slots) (h : Happening) → Steady x → 1 ≤ who h → who h ≤ x.machine.layout.threads → TrustsIn x h → (k : ℕ) → k < length x.machine.layout.conditions → queue_at x k ≡ [] → ((n : ℕ) → Released (x.rows (who h)) k n → n ≢ count_at x k) → queue_at (next x h) k ≡ []
empty_next x (Calls t r) s pos known w k inside none away = by_test (λ (y : Slots). queue_at y k ≡ []) (has_thread x.machine t && is_alive (x.machine.threads t).stage && is_resting (x.rows t) && may_call x.machine.layout (x.machine.threads t).held r) (at_row x t r) x (λ e. none) (λ e. none)
empty_next x (Goes t c) s pos known w k inside none away = by_test (λ (y : Slots). queue_at y k ≡ []) (has_thread x.machine t && is_alive (x.machine.threads t).stage && not (is_asleep x.machine t)) (made_by x t c (made x t c (x.rows t))) x
    (λ e. let may = may_go (has_thread x.machine t) (is_alive (x.machine.threads t).stage) (is_asleep x.machine t) e in on_row may.0 may.1) (λ e. none)
  where
    on_row : is_alive (x.machine.threads t).stage ≡ true → is_asleep x.machine t ≡ false → queue_at (made_by x t c (made x t c (x.rows t))) k ≡ []
    on_row lives awake = empty_then x (made_by x t c (made x t c (x.rows t))) t c (reached_kept x.machine s.reached) (reached_queued x.machine s.reached) pos known (layout_run x.machine (made x t c (x.rows t)).events (reached_kept x.machine s.reached)) s.counts (x.rows t) (s.fits t pos known) (s.there t pos known lives) (each_access x t c at grant.1).queues k inside none away
      where
        grant : Grants x (Goes t c)
        grant = granted x t pos known s c w

        at : IsAtRow x t
        at = record { reached = s.reached; first = pos; last = known; there = s.there t pos known lives; about = grant.0; out = in_none x.machine t (reached_queued x.machine s.reached) awake }
empty_next x (Interrupts t) s pos known w k inside none away = leave_empty x.machine t k none
empty_next x (Lapses t) s pos known w k inside none away = by_test (λ (y : Slots). queue_at y k ≡ []) (is_asleep x.machine t) (at_row (after x (lapse_events x t (x.rows t))) t (lapse_row (x.rows t))) x (λ e. of_row (x.rows t)) (λ e. none)
  where
    of_row : (r : Row) → (run x.machine (lapse_events x t r)).queues (counter_place (run x.machine (lapse_events x t r)).layout k) ≡ []
    of_row (Row.Asleep j) = by_test (λ (es : List Event). (run x.machine es).queues (counter_place (run x.machine es).layout k) ≡ []) j.timed (Expire t ∷ []) [] (λ e. expire_empty x.machine t k none) (λ e. none)
    of_row (Row.WaitAsleep m i n true) = by_test (λ (es : List Event). (run x.machine es).queues (counter_place (run x.machine es).layout k) ≡ []) (stands_in t (x.machine.queues (counter_place x.machine.layout i))) (Expire t ∷ []) (Leave t ∷ []) (λ e. expire_empty x.machine t k none) (λ e. leave_empty x.machine t k none)
    of_row (Row.WaitAsleep m i n false) = none
    of_row r = none
empty_next x (Dies t) s pos known w k inside none away = by_test (λ (y : Slots). queue_at y k ≡ []) (has_thread x.machine t && is_alive (x.machine.threads t).stage) (at_row (after x (Kill t ∷ [])) t Row.Rests) x (λ e. kill_empty x.machine t k none) (λ e. none)
empty_next x (Walks t) s pos known w k inside none away = by_test (λ (y : Slots). queue_at y k ≡ []) (is_dying x.machine t) (after x (Step t ∷ [])) x (λ e. let at = dying_at (x.machine.threads t).stage (second_of (has_thread x.machine t) (is_exiting (x.machine.threads t).stage) e) in walk_empty x.machine t k none at.0 (reached_kept x.machine s.reached) pos known at.1) (λ e. none)
empty_next x (Lives t) s pos known w k inside none away = renew_empty x.machine t k none
