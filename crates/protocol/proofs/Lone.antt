-- What a leave and a declined trim do, and a spare.
use Rattle.std.proofs.Common.{◌≡◌, ℕ, ◌≤◌, Bool, true, false, ◌&&◌, [], ◌∷◌, refl, sym, ap, ◌∙◌, subst}
use Rattle.protocol.proofs.Vocabulary.{Layout', Op, Whole, whole_access, Stage, Calling, State, After, start, run, departed, nothing, is_asleep, happens, facts_of, if◌then◌else◌}
use Rattle.facts.specs.declared.fact.Fact.TheVariants.{Wake}
use Rattle.protocol.specs.declared.event.Event.TheVariants.{Leave}
use Rattle.protocol.specs.Machine.{is_trim}
use Rattle.protocol.specs.Applies.{IsInAQueue, IsAboutToTrim}
use Rattle.protocol.specs.Leaves.{OnlyLeaves, LeavesSo, OnlyDeclines, DeclinesSo, LeavesAndDeclines, LeavesAreLone}
use Rattle.protocol.proofs.Puts.{put-same, put-other}
use Rattle.protocol.proofs.Kept.{Kept}
use Rattle.protocol.proofs.Queues.{without_same, without_gone}
use Rattle.protocol.proofs.Queued.{Queued, in_none, asleep_there}
use Rattle.protocol.proofs.Declines.{behind, decline_goes, decline_rests, goes_on}
use Rattle.protocol.proofs.Events.{is_known, trims_at}
use Rattle.protocol.proofs.Runs.{start_kept, run_kept, run_layout}
use Rattle.protocol.proofs.QueueRuns.{run_queued}
use Rattle.std.proofs.Common.{List}
use Rattle.protocol.proofs.Vocabulary.{Event, LeftTo, Thread, IsLayout}
use Rattle.protocol.specs.Spares.{OnlySpares, SparesSo, SparesAreLone}
use Rattle.protocol.proofs.Sparing.{spare_goes, spare_rests}

module _ (s : State) (t : ℕ) (inv : Kept s) (queued : Queued s) (pos : 1 ≤ t) (known : t ≤ s.layout.threads) where
  -- ---- a leave
  leave_is : (b : Bool) → is_asleep s t ≡ b → happens s (Leave t) ≡ (if b then departed s t else nothing s)
  leave_is b e = ap (λ (x : Bool). if x && is_asleep s t then departed s t else nothing s) (is_known s t pos known) ∙ ap (λ (x : Bool). if x then departed s t else nothing s) e

  abbrev Leaves : After → Type 0
  Leaves a = OnlyLeaves s a.state t × (IsInAQueue s t → facts_of a.note ≡ Wake t ∷ [])

  leaves_so : LeavesSo s t
  leaves_so = subst Leaves (sym (leave_is (is_asleep s t) refl)) (go (is_asleep s t) refl)
    where
      go : (b : Bool) → is_asleep s t ≡ b → Leaves (if b then departed s t else nothing s)
      go true e = (record { words = λ p. refl; threads = λ u. refl; queues = λ key. refl; gone = λ key. without_gone t (s.queues key) }, λ stands. refl)
      go false e = (
        record { words = λ p. refl; threads = λ u. refl; queues = λ key. sym (without_same t (s.queues key) (in_none s t queued e key)); gone = in_none s t queued e },
        λ stands. absurd (cc (asleep_there s t stands.0 queued stands.1, e)),
      )

  -- ---- a decline
  abbrev Declines : After → Type 0
  Declines a = OnlyDeclines s a.state t × (facts_of a.note ≡ [])

  rests : (IsAboutToTrim s t → ⊥) → DeclinesSo s t
  rests never = subst Declines (sym (decline_rests s t (λ first last. never))) (record { words = λ p. refl; queues = λ key. refl; others = λ u apart. refl; goes_on = λ about. absurd (never about) }, refl)

  declines_so : DeclinesSo s t
  declines_so = at (s.threads t).stage refl
    where
      same_call : (o c : Op) (p q : Whole) → Calling o p ≡ Calling c q → p ≡ q
      same_call o c p q e = cc

      trims : (o : Op) (p : Whole) → (s.threads t).stage ≡ Calling o p → (b : Bool) → is_trim (whole_access p) ≡ b → DeclinesSo s t
      trims o p is true e =
          let now = trims_at p p.phase e in
          subst Declines (sym (decline_goes s t o p is now queued inv pos known))
          (record { words = λ x. refl; queues = λ key. refl; others = λ u apart. put-other s.threads t (behind s t o p is now) u apart; goes_on = λ about. put-same s.threads t (behind s t o p is now) ∙ goes_on s t o p is now queued inv pos known }, refl)
      trims o p is false e = rests (λ about. cc (e, ap is_trim (ap whole_access (same_call o about.0 p about.1 (sym is ∙ about.3)) ∙ about.4)))

      at : (g : Stage) → (s.threads t).stage ≡ g → DeclinesSo s t
      at (Calling o p) is = trims o p is (is_trim (whole_access p)) refl
      at g is = rests (λ about. cc (is, about.3))

-- ---- every run

pub leaves_lone : LeavesAreLone
leaves_lone l counters events is =
    let inv = start_kept l counters is in
    let kept = run_kept (start l counters) events inv in
    let queued = run_queued l counters events is in
    subst (λ (k : Layout'). LeavesAndDeclines k (run (start l counters) events)) (run_layout (start l counters) events inv)
    (record {
      leaves = λ t first last. leaves_so (run (start l counters) events) t kept queued first last;
      declines = λ t first last. declines_so (run (start l counters) events) t kept queued first last;
    })

-- ---- spares

module _ (s : State) (t : ℕ) (inv : Kept s) (queued : Queued s) (pos : 1 ≤ t) (known : t ≤ s.layout.threads) where
  abbrev Spares : Stage → After → Type 0
  Spares g a = OnlySpares s a.state t g × (facts_of a.note ≡ [])

  spares : (by : LeftTo) → SparesSo s t by
  spares by = record {
    spared = λ m g wakes left.
        subst (Spares g) (sym (spare_goes s t m by g inv queued pos known wakes left)) (
          record {
            words = λ p. refl;
            queues = λ key. refl;
            others = λ u apart. put-other s.threads t _ u apart;
            goes_on = ap (λ (z : Thread). z.stage) (put-same s.threads t _);
            held = ap (λ (z : Thread). z.held) (put-same s.threads t _);
          },
          refl,
        );
    else_nothing = λ never. spare_rests s t by queued (λ first last may. never may);
  }

module _ (l : Layout') (counters : ℕ → ℕ) (events : List Event) (is : IsLayout l) where
  abbrev s0 : State
  s0 = start l counters

  known_then : (t : ℕ) → t ≤ l.threads → t ≤ (run s0 events).layout.threads
  known_then t known = subst (λ (k : Layout'). t ≤ k.threads) (sym (run_layout s0 events (start_kept l counters is))) known

  inv_then : Kept (run s0 events)
  inv_then = run_kept s0 events (start_kept l counters is)

  pub spares_then : (t : ℕ) → 1 ≤ t → t ≤ l.threads → (by : LeftTo) → SparesSo (run s0 events) t by
  spares_then t pos known by = spares (run s0 events) t inv_then (run_queued l counters events is) pos (known_then t known) by

pub spares_lone : SparesAreLone
spares_lone l counters events is t pos known by = spares_then l counters events is t pos known by
