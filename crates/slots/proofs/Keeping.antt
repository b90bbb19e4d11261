-- Whatever happens to a thread, it is at its row afterwards.
use Rattle.std.proofs.Common.{◌≡◌, ◌⊎◌, inl, inr, ℕ, ◌≤◌, Bool, true, false, List, [], ◌∷◌, refl, sym, ap, ◌∙◌, subst, arith}
use Rattle.std.specs.Prelude.{if◌then◌else◌, not, ◌&&◌}
use Rattle.memorymap.specs.Layouts.{counter_place}
use Rattle.exitwalk.specs.Standings as walks
use Rattle.exitwalk.specs.declared.row.Row as walk_row
use Rattle.mutex.specs.declared.call.Call.TheVariants.{TimedLock}
use Rattle.mutex.specs.Standings.{Whole}
use Rattle.mutex.specs.Whole.{timed_out}
use Rattle.condvar.specs.declared.call.CondCall.TheVariants.{TimedWait}
use Rattle.condvar.specs.declared.call.Limit.TheVariants.{Past}
use Rattle.condvar.specs.Calls.{condition_of}
use Rattle.condvar.specs.declared.op.Op.TheVariants.{OnMutex, OnCondition}
use Rattle.protocol.specs.declared.event.Event.{Event}
use Rattle.protocol.specs.declared.event.Event.TheVariants.{Step, Kill, Leave, Expire}
use Rattle.protocol.specs.declared.thread.Thread.{Thread}
use Rattle.protocol.specs.declared.thread.Stage.{Stage}
use Rattle.protocol.specs.declared.thread.Stage.TheVariants.{Idle, Calling, AtCondition, Dying, Reaped}
use Rattle.protocol.specs.Machine.{State, After, departed, expired, happens, has_thread, is_alive, is_asleep, is_dying, is_exiting, is_gone, is_timed, killed, lapsed, nothing, overslept, renewed, run, sleeps, stage_walked, stands_in, waits_on}
use Rattle.protocol.proofs.Kept.{Kept}
use Rattle.protocol.proofs.Events.{is_known}
use Rattle.protocol.proofs.Puts.{put-same}
use Rattle.protocol.proofs.Queued.{in_none}
use Rattle.protocol.proofs.Steps.{thread_after}
use Rattle.protocol.proofs.WalkSteps.{row_then, walk_of, walk_transition}
use Rattle.slots.specs.Places.{cell_of}
use Rattle.slots.specs.Rows.{Choice, How, Row, Taking}
use Rattle.slots.specs.Rows.How.{Later}
use Rattle.slots.specs.Shown.{Slots, after}
use Rattle.slots.specs.Stands.{IsRetaking, IsThrough, IsToLook, StandsAs, at_load}
use Rattle.slots.specs.Table.{made}
use Rattle.slots.specs.Runs.{next, at_row, is_resting, lapse_events, lapse_row, made_by, may_call}
use Rattle.slots.specs.Runs.Happening.{Calls, Goes, Interrupts, Lapses, Dies, Walks, Lives}
use Rattle.slots.specs.Laws.{IsReached}
use Rattle.slots.specs.Goes.{Grants, IsAtItsRow, SleepsLater, ThreadsKeepTheirRows}
use Rattle.slots.proofs.Free.{reached_kept, reached_queued}
use Rattle.slots.proofs.HeirsStay.{walk_goes}
use Rattle.slots.proofs.Leading.{by_test}
use Rattle.slots.proofs.LeadsOn.{rows_lead}

-- a call begins at rest
pub rests_at : (r : Row) → is_resting r ≡ true → r ≡ Row.Rests
rests_at Row.Rests e = refl
rests_at r e = absurd cc

begins_at : (x : Slots) (held : ℕ) (r : Row) → may_call x.machine.layout held r ≡ true → StandsAs r Idle
begins_at x held (Row.Looks k) e = refl
begins_at x held (Row.TryLooks m) e = refl
begins_at x held (Row.GiveLooks m) e = refl
begins_at x held (Row.MendLooks m) e = refl
begins_at x held (Row.AnewLooks m) e = refl
begins_at x held (Row.WaitLooks m k timed) e = refl
begins_at x held (Row.CountLooks m k all) e = refl
begins_at x held r e = absurd cc

pub record Four (a b c d : Bool) : Type 0 where
  pub second : b ≡ true
  pub third : c ≡ true
  pub fourth : d ≡ true

pub all_four : (a b c d : Bool) → (a && b && c && d) ≡ true → Four a b c d
all_four true true true true e = record { second = refl; third = refl; fourth = refl }
all_four true true true false e = absurd cc
all_four true true false d e = absurd cc
all_four true false c d e = absurd cc
all_four false b c d e = absurd cc

-- a walk leads nobody to life
dead_still : (w : walks.Standing) (r : walk_row.Row) → is_alive (stage_walked w r) ≡ false
dead_still w r = grind (arith)

pub dying_at : (g : Stage) → is_exiting g ≡ true → (w : walks.Standing) × (g ≡ Dying w)
dying_at (Dying w) e = (w, refl)
dying_at g e = absurd cc

module _ (x : Slots) (t : ℕ) (reached : Kept x.machine) where
  abbrev z : State
  z = x.machine

  abbrev g : Stage
  g = (z.threads t).stage

  abbrev h : ℕ
  h = (z.threads t).held

  -- ---- a deadline

  asleep_late : (k : Taking) (p : Whole) → has_thread z t ≡ true → is_asleep z t ≡ true → g ≡ Calling (OnMutex (TimedLock (cell_of k.mutex))) p → p.phase ≡ at_load → IsThrough k.mutex Later ((run z (Expire t ∷ [])).threads t).stage
  asleep_late k p there asleep is phase = (timed_out q, to, refl)
    where
      q : Whole
      q = record p { phase = at_load }

      stands : g ≡ Calling (OnMutex (TimedLock (cell_of k.mutex))) q
      stands = is ∙ (λ i. Calling (OnMutex (TimedLock (cell_of k.mutex))) (record { thread = p.thread; operation = p.operation; head = p.head; entry = p.entry; cell = p.cell; phase = phase i }))

      to : ((run z (Expire t ∷ [])).threads t).stage ≡ Calling (OnMutex (TimedLock (cell_of k.mutex))) (timed_out q)
      to =
          ap (λ (b : Bool). ((if b then expired z t h g else nothing z).state.threads t).stage) there
          ∙ ap (λ (f : Stage). ((expired z t h f).state.threads t).stage) stands
          ∙ ap (λ (b : Bool). ((if true && true && b then lapsed z t h (OnMutex (TimedLock (cell_of k.mutex))) q else nothing z).state.threads t).stage) (sym (ap (sleeps z t) stands) ∙ asleep)
          ∙ ap (λ (y : Thread). y.stage) (put-same z.threads t _)

  abbrev Retakes : ℕ → After → Type 0
  Retakes k a = IsRetaking k at_load (a.state.threads t).stage

  wait_expires : (k : ℕ) (f : Stage) → g ≡ f → IsRetaking k at_load f → Retakes k (expired z t h f)
  wait_expires k f at (o, p, is, of, acts, phase) = subst (λ (e : Stage). Retakes k (expired z t h e)) (sym is)
      (by_test (Retakes k) (is_timed (OnCondition o) && waits_on z t (condition_of o)) (overslept z t h (condition_of o) p) (nothing z)
      (λ e. (TimedWait (condition_of o) Past, p, ap (λ (y : Thread). y.stage) (put-same z.threads t _), of, refl, phase))
      (λ e. (o, p, at ∙ is, of, acts, phase)))

  wait_late : (k : ℕ) (e : Event) → IsRetaking k at_load g → (e ≡ Expire t) ⊎ (e ≡ Leave t) → IsRetaking k at_load ((happens z e).state.threads t).stage
  wait_late k e there (inl is) = subst (λ (v : Event). Retakes k (happens z v)) (sym is) (by_test (Retakes k) (has_thread z t) (expired z t h g) (nothing z) (λ y. wait_expires k g refl there) (λ y. there))
  wait_late k e there (inr is) = subst (λ (v : Event). Retakes k (happens z v)) (sym is) (by_test (Retakes k) (has_thread z t && is_asleep z t) (departed z t) (nothing z) (λ y. there) (λ y. there))

  asleep_so : (k : Taking) (b : Bool) → k.timed ≡ b → SleepsLater (Row.Asleep k) → has_thread z t ≡ true → is_asleep z t ≡ true → IsToLook k k.how g
      → StandsAs (if b then Row.Late k else Row.Asleep k) ((run z (if b then Expire t ∷ [] else [])).threads t).stage
  asleep_so k true timed later there asleep look = let at = subst (λ (i : How). IsToLook k i g) (later timed) look in asleep_late k at.0 there asleep at.1 at.2
  asleep_so k false timed later there asleep look = look

  pub lapses_so : (r : Row) → StandsAs r g → SleepsLater r → has_thread z t ≡ true → is_asleep z t ≡ true → StandsAs (lapse_row r) ((run z (lapse_events x t r)).threads t).stage
  lapses_so (Row.Asleep k) stands later there asleep = asleep_so k k.timed refl later there asleep stands
  lapses_so (Row.WaitAsleep m k n true) stands later there asleep = by_test (λ (es : List Event). IsRetaking k at_load ((run z es).threads t).stage) (stands_in t (z.queues (counter_place z.layout k))) (Expire t ∷ []) (Leave t ∷ []) (λ e. wait_late k (Expire t) stands.0 (inl refl)) (λ e. wait_late k (Leave t) stands.0 (inr refl))
  lapses_so (Row.WaitAsleep m k n false) stands later there asleep = stands
  lapses_so r stands later there asleep = stands

  -- ---- whatever happens

  module _ (pos : 1 ≤ t) (known : t ≤ z.layout.threads) (here : IsAtItsRow x t) where
    there_is : has_thread z t ≡ true
    there_is = is_known z t pos known

    calls_so : (r : Row) → IsAtItsRow (next x (Calls t r)) t
    calls_so r = by_test (λ (y : Slots). IsAtItsRow y t) (has_thread z t && is_alive g && is_resting (x.rows t) && may_call z.layout h r) (at_row x t r) x
        (λ e lives. let four = all_four (has_thread z t) (is_alive g) (is_resting (x.rows t)) (may_call z.layout h r) e in
        let idle : g ≡ Idle = subst (λ (q : Row). StandsAs q g) (rests_at (x.rows t) four.third) (here lives) in
        subst (λ (q : Row). StandsAs q g) (sym (put-same x.rows t r)) (subst (StandsAs r) (sym idle) (begins_at x h r four.fourth)))
        (λ e. here)

    may_go : (a d e : Bool) → (a && d && not e) ≡ true → (d ≡ true) × (e ≡ false)
    may_go true true false same = (refl, refl)
    may_go true true true same = absurd cc
    may_go true false e same = absurd cc
    may_go false d e same = absurd cc

    goes_so : (c : Choice) → IsReached z → Grants x (Goes t c) → IsAtItsRow (next x (Goes t c)) t
    goes_so c from (about, assumes, too) = by_test (λ (y : Slots). IsAtItsRow y t) (has_thread z t && is_alive g && not (is_asleep z t)) (made_by x t c (made x t c (x.rows t))) x
        (λ e lives. let may = may_go (has_thread z t) (is_alive g) (is_asleep z t) e in
        subst (λ (q : Row). StandsAs q ((run z (made x t c (x.rows t)).events).threads t).stage) (sym (put-same x.rows t (made x t c (x.rows t)).next))
        (rows_lead x t c (record { reached = from; first = pos; last = known; there = here may.0; about = about; out = in_none z t (reached_queued z from) may.1 }) assumes too))
        (λ e. here)

    leaves_so : IsAtItsRow (next x (Interrupts t)) t
    leaves_so = by_test (λ (a : After). is_alive (a.state.threads t).stage ≡ true → StandsAs (x.rows t) (a.state.threads t).stage) (has_thread z t && is_asleep z t) (departed z t) (nothing z) (λ e. here) (λ e. here)

    late_so : SleepsLater (x.rows t) → IsAtItsRow (next x (Lapses t)) t
    late_so later = go (is_asleep z t) refl
      where
        alive_asleep : (f : Stage) → sleeps z t f ≡ true → is_alive f ≡ true
        alive_asleep (Calling o p) e = refl
        alive_asleep f e = absurd cc

        go : (b : Bool) → is_asleep z t ≡ b → IsAtItsRow (if b then at_row (after x (lapse_events x t (x.rows t))) t (lapse_row (x.rows t)) else x) t
        go true asleep lives = subst (λ (q : Row). StandsAs q ((run z (lapse_events x t (x.rows t))).threads t).stage) (sym (put-same x.rows t (lapse_row (x.rows t)))) (lapses_so (x.rows t) (here (alive_asleep g asleep)) later there_is asleep)
        go false awake lives = here lives

    dies_so : IsAtItsRow (next x (Dies t)) t
    dies_so = go (has_thread z t && is_alive g) refl
      where
        go : (b : Bool) → (has_thread z t && is_alive g) ≡ b → IsAtItsRow (if b then at_row (after x (Kill t ∷ [])) t Row.Rests else x) t
        go true e lives = absurd (cc (sym (ap (λ (d : Bool). is_alive ((if d then killed z t else nothing z).state.threads t).stage) e ∙ ap (λ (y : Thread). is_alive y.stage) (put-same z.threads t _)) ∙ lives))
        go false e lives = here lives

    walks_so : IsAtItsRow (next x (Walks t)) t
    walks_so = go (is_dying z t) refl
      where
        second : (a b : Bool) → (a && b) ≡ true → b ≡ true
        second true b e = e
        second false b e = absurd cc

        go : (b : Bool) → is_dying z t ≡ b → IsAtItsRow (if b then after x (Step t ∷ []) else x) t
        go true e lives = let at = dying_at g (second (has_thread z t) (is_exiting g) e) in
            absurd (cc (sym (ap (λ (s : State). is_alive (s.threads t).stage) (walk_goes z t at.0 reached pos known at.1) ∙ ap (λ (y : Thread). is_alive y.stage) (put-same z.threads t (thread_after z t (walk_transition z t at.0.row))) ∙ dead_still (walk_of z.layout t at.0.row) (row_then z t at.0.row)) ∙ lives))
        go false e lives = here lives

    lives_so : (is_alive g ≡ false → x.rows t ≡ Row.Rests) → IsAtItsRow (next x (Lives t)) t
    lives_so rests = go (has_thread z t && is_gone g) refl
      where
        gone_dead : (a : Bool) (f : Stage) → (a && is_gone f) ≡ true → is_alive f ≡ false
        gone_dead a Reaped e = refl
        gone_dead true Idle e = absurd cc
        gone_dead false Idle e = absurd cc
        gone_dead true (Calling o p) e = absurd cc
        gone_dead false (Calling o p) e = absurd cc
        gone_dead true (AtCondition o p) e = absurd cc
        gone_dead false (AtCondition o p) e = absurd cc
        gone_dead true (Dying w) e = absurd cc
        gone_dead false (Dying w) e = absurd cc

        go : (b : Bool) → (has_thread z t && is_gone g) ≡ b → (λ (a : After). is_alive (a.state.threads t).stage ≡ true → StandsAs (x.rows t) (a.state.threads t).stage) (if b then renewed z t else nothing z)
        go true e lives = subst (λ (q : Row). StandsAs q ((renewed z t).state.threads t).stage) (sym (rests (gone_dead (has_thread z t) g e))) (ap (λ (y : Thread). y.stage) (put-same z.threads t _))
        go false e lives = here lives

pub threads_keep : ThreadsKeepTheirRows
threads_keep x (Calls t r) reached pos known grants here = calls_so x t (reached_kept x.machine reached) pos known here r
threads_keep x (Goes t c) reached pos known grants here = goes_so x t (reached_kept x.machine reached) pos known here c reached grants
threads_keep x (Interrupts t) reached pos known grants here = leaves_so x t (reached_kept x.machine reached) pos known here
threads_keep x (Lapses t) reached pos known grants here = late_so x t (reached_kept x.machine reached) pos known here grants
threads_keep x (Dies t) reached pos known grants here = dies_so x t (reached_kept x.machine reached) pos known here
threads_keep x (Walks t) reached pos known grants here = walks_so x t (reached_kept x.machine reached) pos known here
threads_keep x (Lives t) reached pos known grants here = lives_so x t (reached_kept x.machine reached) pos known here grants
