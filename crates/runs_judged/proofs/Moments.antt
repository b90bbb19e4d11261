-- A moment of a run: what its state and its trace so far say of each other.
use Rattle.std.proofs.Common.{◌≡◌, ◌≢◌, ◌⊎◌, ℕ, ◌<◌, ◌≤◌, Bool, true, false, ◌&&◌, Option, Some, None, List, refl, sym, ap, ◌∙◌, subst}
use Rattle.std.specs.Prelude.{if◌then◌else◌}
use Rattle.memorymap.specs.Layouts.{Layout', IsLayout}
use Rattle.mutex.specs.declared.call.Call.TheVariants.{Lock}
use Rattle.facts.specs.declared.fact.Queue.{Queue}
use Rattle.condvar.specs.declared.op.Op.TheVariants.{OnMutex}
use Rattle.protocol.specs.declared.event.Event.{Event}
use Rattle.protocol.specs.declared.event.Event.TheVariants as event
use Rattle.protocol.specs.declared.note.Note.{Note}
use Rattle.protocol.specs.declared.note.Note.TheVariants.{Nothing, Began, Killed}
use Rattle.protocol.specs.declared.thread.Stage.{Stage}
use Rattle.protocol.specs.declared.thread.Stage.TheVariants.{Calling}
use Rattle.protocol.specs.Ops.{begun_of, queue_place}
use Rattle.protocol.specs.Machine.{State, start, is_alive, is_idle, first_stage, begun, killed, nothing, stands_in, happens, run, notes}
use Rattle.protocol.specs.Headline.{IsHistory, NoReapedOwns}
use Rattle.protocol.specs.Applies.{Told, AtRest, InCall, Dead, Gone, last_told, IsLiving, IsInNoQueue, IsThread, NextApplies, refusal}
use Rattle.protocol.specs.Wakings.{told_asleep, TellsSleepers}
use Rattle.protocol.proofs.Kept.{Kept}
use Rattle.protocol.proofs.Stepping.{SleepsAs}
use Rattle.protocol.proofs.Events.{is_known}
use Rattle.protocol.proofs.Queued.{Queued}
use Rattle.protocol.proofs.QueueRuns.{run_queued}
use Rattle.protocol.proofs.Runs.{start_kept, run_kept, run_layout, legal}
use Rattle.protocol.proofs.Reaped.{no_reaped_owns}
use Rattle.protocol.proofs.Waking.{told_sleeps}
use Rattle.protocol.proofs.Applying.{applied}

-- events led to this state and were noted so
pub record Moment (l : Layout') (s : State) (ns : List Note) : Type 0 where
  pub layout : s.layout ≡ l
  pub kept : Kept s
  pub queued : Queued s
  pub applies : NextApplies l s ns
  pub tells : TellsSleepers l s ns
  pub history : IsHistory s ns
  pub owners : NoReapedOwns s

pub moment : (l : Layout') (counters : ℕ → ℕ) (events : List Event) → IsLayout l → Moment l (run (start l counters) events) (notes (start l counters) events)
moment l counters events is =
    let inv = start_kept l counters is in
    record {
      layout = run_layout (start l counters) events inv;
      kept = run_kept (start l counters) events inv;
      queued = run_queued l counters events is;
      applies = applied l counters events is;
      tells = told_sleeps l counters events is;
      history = legal l counters events is;
      owners = no_reaped_owns (run (start l counters) events) (run_kept (start l counters) events inv);
    }

-- ---- what the trace told of a thread

-- whoever sleeps is in a call
sleeps_alive : (l : Layout') (key : ℕ) (g : Stage) → SleepsAs l key g → (is_alive g ≡ true) × (is_idle g ≡ false)
sleeps_alive l key (Calling o p) h = (refl, refl)
sleeps_alive l key g h = absurd h

rests_not : (a b c : Bool) → b ≡ false → (a && b && c) ≡ false
rests_not true b c e = ap (λ (z : Bool). z && c) e
rests_not false b c e = refl

both : (a b : Bool) → a ≡ true → b ≡ true → (a && b) ≡ true
both a b e f = ap (λ (z : Bool). z && b) e ∙ f

module _ (l : Layout') (s : State) (ns : List Note) (m : Moment l s ns) where
  in_range : (t : ℕ) → 1 ≤ t → t ≤ s.layout.threads → IsThread l t
  in_range t first most = (first, subst (λ (k : Layout'). t ≤ k.threads) m.layout most)

  kills : (t : ℕ) → 1 ≤ t → t ≤ s.layout.threads → is_alive (s.threads t).stage ≡ true → (happens s (event.Kill t)).note ≡ Killed t
  kills t first most alive = ap (λ (b : Bool). (if b then killed s t else nothing s).note) (both _ _ (is_known s t first most) alive)

  -- so nobody is told to be dead that lives
  not_dead : (t : ℕ) → 1 ≤ t → t ≤ s.layout.threads → is_alive (s.threads t).stage ≡ true → (IsLiving (last_told t ns) → ⊥) → ⊥
  not_dead t first most alive dead =
      let none = (m.applies.else_nothing (event.Kill t) (λ a. dead a.1)).0 in
      let noted : Nothing ≡ Killed t = sym none ∙ kills t first most alive in
      absurd cc

  -- whoever stands in a queue is told to be in a call
  pub queued_in_call : (t key : ℕ) → stands_in t (s.queues key) ≡ true → last_told t ns ≡ InCall
  queued_in_call t key stands =
      let slept = m.queued.sleeps key t stands in
      let busy = sleeps_alive s.layout key (s.threads t).stage slept.2 in
      go slept.0 slept.1 busy.0 busy.1 (last_told t ns) refl
    where
      go : 1 ≤ t → t ≤ s.layout.threads → is_alive (s.threads t).stage ≡ true → is_idle (s.threads t).stage ≡ false → (o : Told) → last_told t ns ≡ o → o ≡ InCall
      go first most alive busy InCall e = refl
      go first most alive busy AtRest e =
          let noted = m.applies.happens_so (event.Begin t (OnMutex (Lock 0))) (in_range t first most, subst (λ (k : Layout'). 0 < k.mutexes) m.layout m.kept.layout.mutexes.0, tt, e) in
          let not_noted : (happens s (event.Begin t (OnMutex (Lock 0)))).note ≡ Nothing = ap (λ (b : Bool). (if b then begun s t (OnMutex (Lock 0)) (first_stage s.layout t (s.threads t).held (OnMutex (Lock 0))) else nothing s).note) (rests_not _ _ _ busy) in
          let never : Nothing ≡ Began t (begun_of l (OnMutex (Lock 0))) (refusal l s t (OnMutex (Lock 0))) = sym not_noted ∙ noted in
          absurd cc
      go first most alive busy Dead e = absurd (not_dead t first most alive (λ h. subst IsLiving e h))
      go first most alive busy Gone e = absurd (not_dead t first most alive (λ h. subst IsLiving e h))

  -- so whoever isn't sleeps nowhere, and that is recorded
  pub awake_told : (t : ℕ) → IsInNoQueue s t → told_asleep t ns ≡ None
  awake_told t out = go (told_asleep t ns) refl
    where
      go : (w : Option Queue) → told_asleep t ns ≡ w → w ≡ None
      go None e = refl
      go (Some q) e = let stands = (m.tells.sleeps t q e).1 in let here = out (queue_place l q) in absurd (cc (here, stands))

  pub resting_awake : (t : ℕ) → last_told t ns ≢ InCall → told_asleep t ns ≡ None
  resting_awake t rests = go (told_asleep t ns) refl
    where
      go : (w : Option Queue) → told_asleep t ns ≡ w → w ≡ None
      go None e = refl
      go (Some q) e = absurd (rests (queued_in_call t (queue_place s.layout q) (m.tells.sleeps t q e).1))
