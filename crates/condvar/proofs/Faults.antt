-- When a whole call returns EFAULT.
use Rattle.std.proofs.Common.{◌≡◌, ◌≢◌, ℕ, ◌==◌, Bool, true, false, not, Option, List, [], ◌∷◌, ◌++◌, refl, sym, ap, subst}
use Rattle.std.specs.Prelude.{if◌then◌else◌}
use Rattle.lockword.specs.Cells.{Fields, fields_of}
use Rattle.lockword.specs.declared.reply.Reply.{Reply}
use Rattle.lockword.specs.declared.reply.Reply.TheVariants.{OK, EPERM, EFAULT, XFULL, XSTATE}
use Rattle.stepprograms.specs.declared.access.Answer.{Answer}
use Rattle.stepprograms.specs.declared.access.Answer.TheVariants.{Value, Stored, Again, Woken, Count, Counts}
use Rattle.posixmutex.specs.declared.point.Operation.TheVariants as operation
use Rattle.posixmutex.specs.declared.point.Point.{Point}
use Rattle.memorymap.specs.Layouts.{Layout'}
use Rattle.robustlist.specs.declared.unlink.UnlinkRow.{UnlinkRow}
use Rattle.robustlist.specs.declared.unlink.UnlinkRow.TheVariants as unlink
use Rattle.robustlist.specs.Standings.{UnlinkStanding}
use Rattle.robustlist.specs.Unlink.{unlink_moved, UnlinkGoes}
use Rattle.mutex.specs.declared.phase.Phase.{Phase}
use Rattle.mutex.specs.declared.phase.Phase.TheVariants as phase
use Rattle.mutex.specs.Standings.{Whole}
use Rattle.mutex.specs.Whole as mutex
use Rattle.stepprograms.specs.Accesses.{IsAnswerOf}
use Rattle.mutex.specs.Decisions.{replies}
use Rattle.mutex.proofs.Once.{DecidedSo, phase_so, phase_faults, phase_fine, NoFault, unlink_faults, UnlinkFine, unlink_fine}
use Rattle.condvar.specs.declared.call.CondCall.{CondCall}
use Rattle.condvar.specs.declared.call.CondCall.TheVariants as call
use Rattle.condvar.specs.declared.wait.WaitRow.TheVariants as wait
use Rattle.condvar.specs.declared.signal.SignalRow.TheVariants as signal
use Rattle.condvar.specs.declared.broadcast.BroadcastRow.TheVariants as broadcast
use Rattle.condvar.specs.declared.row.CondRow.{CondRow}
use Rattle.condvar.specs.declared.row.CondRow.TheVariants.{Wait, Signal, Broadcast, Awake}
use Rattle.condvar.specs.declared.row.CondRow.TheVariants as cond
use Rattle.condvar.specs.declared.row.CondLed.{CondLed}
use Rattle.condvar.specs.declared.phase.CondPhase.{CondPhase}
use Rattle.condvar.specs.declared.phase.CondPhase.TheVariants.{AtWords, Announcing, Unlinking, Locking, Ended}
use Rattle.condvar.specs.Rows.{goes, ends, faults, full, IsGoing}
use Rattle.condvar.specs.Standings.{CondWhole}
use Rattle.condvar.specs.Programs.{row_access, resume_of}
use Rattle.condvar.specs.Wait.{wait_sees}
use Rattle.condvar.specs.Signal.{signal_sees, signal_counts}
use Rattle.condvar.specs.Broadcast.{broadcast_sees}
use Rattle.condvar.specs.Whole.{begins, after_words, from_lock, unlinked_at, phase_access, phase_led, cond_led, cond_moved, IsUnderWay}
use Rattle.condvar.specs.WholeLaws.{cond_reached}
use Rattle.condvar.specs.Faults.{FaultsAreTold}

-- ---- rows

-- it isn't a return with EFAULT
abbrev RowFine : CondRow → Type 0
RowFine (cond.Ended EFAULT) = ⊥
RowFine r = Unit {0}

wait_fine : (t : ℕ) (c : Fields) → RowFine (wait_sees t c).row
wait_fine t c = go (not (c.owner == t)) c.died
  where
    go : (m d : Bool) → RowFine (if m then ends operation.Wait EPERM else if d then ends operation.Wait XSTATE else goes (Wait wait.LoadCounter)).row
    go true d = tt
    go false true = tt
    go false false = tt

released_fine : (seen : ℕ) (w : Bool) → RowFine (if w then Wait (wait.Wake seen) else Wait (wait.Sleep seen))
released_fine seen true = tt
released_fine seen false = tt

signal_fine : (t : ℕ) (c : Fields) → RowFine (signal_sees t c).row
signal_fine t c = go (not (c.owner == t))
  where
    go : (m : Bool) → RowFine (if m then ends operation.Signal EPERM else goes (Signal signal.LoadCounter)).row
    go true = tt
    go false = tt

signal_counted : (s : ℕ) → RowFine (signal_counts s).row
signal_counted s = go (s == full)
  where
    go : (b : Bool) → RowFine (if b then ends operation.Signal XFULL else goes (Signal signal.Count)).row
    go true = tt
    go false = tt

broadcast_fine : (t : ℕ) (c : Fields) → RowFine (broadcast_sees t c).row
broadcast_fine t c = go (not (c.owner == t))
  where
    go : (m : Bool) → RowFine (if m then ends operation.Broadcast EPERM else goes (Broadcast broadcast.LoadCounter)).row
    go true = tt
    go false = tt

broadcast_counted : (s k : ℕ) → RowFine (if s == full then ends operation.Broadcast XFULL else goes (Broadcast (broadcast.Count k))).row
broadcast_counted s k = go (s == full)
  where
    go : (b : Bool) → RowFine (if b then ends operation.Broadcast XFULL else goes (Broadcast (broadcast.Count k))).row
    go true = tt
    go false = tt

row_answered : (t cell counter : ℕ) (r : CondRow) (a : Answer) → IsGoing r → IsAnswerOf (row_access t cell counter r) a → RowFine (resume_of t r a).row
row_answered t cell counter (Wait wait.LoadCell) (Value w) g h = wait_fine t (fields_of w)
row_answered t cell counter (Wait wait.LoadCell) a g h = absurd h
row_answered t cell counter (Wait wait.LoadCounter) (Value w) g h = tt
row_answered t cell counter (Wait wait.LoadCounter) a g h = absurd h
row_answered t cell counter (Wait (wait.Release seen)) (Value w) g h = released_fine seen (fields_of w).waiters
row_answered t cell counter (Wait (wait.Release seen)) a g h = absurd h
row_answered t cell counter (Wait (wait.Wake seen)) (Count k) g h = tt
row_answered t cell counter (Wait (wait.Wake seen)) a g h = absurd h
row_answered t cell counter (Wait (wait.Sleep seen)) Again g h = tt
row_answered t cell counter (Wait (wait.Sleep seen)) Woken g h = tt
row_answered t cell counter (Wait (wait.Sleep seen)) a g h = absurd h
row_answered t cell counter (Signal signal.LoadCell) (Value w) g h = signal_fine t (fields_of w)
row_answered t cell counter (Signal signal.LoadCell) a g h = absurd h
row_answered t cell counter (Signal signal.LoadCounter) (Value w) g h = signal_counted w
row_answered t cell counter (Signal signal.LoadCounter) a g h = absurd h
row_answered t cell counter (Signal signal.Count) (Value w) g h = tt
row_answered t cell counter (Signal signal.Count) a g h = absurd h
row_answered t cell counter (Signal signal.Wake) (Count k) g h = tt
row_answered t cell counter (Signal signal.Wake) a g h = absurd h
row_answered t cell counter (Broadcast broadcast.LoadCell) (Value w) g h = broadcast_fine t (fields_of w)
row_answered t cell counter (Broadcast broadcast.LoadCell) a g h = absurd h
row_answered t cell counter (Broadcast broadcast.LoadCounter) (Value w) g h = broadcast_counted w _
row_answered t cell counter (Broadcast broadcast.LoadCounter) a g h = absurd h
row_answered t cell counter (Broadcast (broadcast.Count seen)) (Value w) g h = tt
row_answered t cell counter (Broadcast (broadcast.Count seen)) a g h = absurd h
row_answered t cell counter (Broadcast (broadcast.SetWaiters seen)) (Value w) g h = tt
row_answered t cell counter (Broadcast (broadcast.SetWaiters seen)) a g h = absurd h
row_answered t cell counter (Broadcast (broadcast.Move seen)) Again g h = tt
row_answered t cell counter (Broadcast (broadcast.Move seen)) (Counts k j) g h = tt
row_answered t cell counter (Broadcast (broadcast.Move seen)) a g h = absurd h
row_answered t cell counter Awake a g h = absurd g
row_answered t cell counter (cond.Ended x) a g h = absurd g

row_faulted : (t cell counter : ℕ) (r : CondRow) (a : Answer) → IsGoing r → ¬ IsAnswerOf (row_access t cell counter r) a → resume_of t r a ≡ faults
row_faulted t cell counter (Wait wait.LoadCell) (Value w) g n = absurd (n tt)
row_faulted t cell counter (Wait wait.LoadCell) a g n = refl
row_faulted t cell counter (Wait wait.LoadCounter) (Value w) g n = absurd (n tt)
row_faulted t cell counter (Wait wait.LoadCounter) a g n = refl
row_faulted t cell counter (Wait (wait.Release seen)) (Value w) g n = absurd (n tt)
row_faulted t cell counter (Wait (wait.Release seen)) a g n = refl
row_faulted t cell counter (Wait (wait.Wake seen)) (Count k) g n = absurd (n tt)
row_faulted t cell counter (Wait (wait.Wake seen)) a g n = refl
row_faulted t cell counter (Wait (wait.Sleep seen)) Again g n = absurd (n tt)
row_faulted t cell counter (Wait (wait.Sleep seen)) Woken g n = absurd (n tt)
row_faulted t cell counter (Wait (wait.Sleep seen)) a g n = refl
row_faulted t cell counter (Signal signal.LoadCell) (Value w) g n = absurd (n tt)
row_faulted t cell counter (Signal signal.LoadCell) a g n = refl
row_faulted t cell counter (Signal signal.LoadCounter) (Value w) g n = absurd (n tt)
row_faulted t cell counter (Signal signal.LoadCounter) a g n = refl
row_faulted t cell counter (Signal signal.Count) (Value w) g n = absurd (n tt)
row_faulted t cell counter (Signal signal.Count) a g n = refl
row_faulted t cell counter (Signal signal.Wake) (Count k) g n = absurd (n tt)
row_faulted t cell counter (Signal signal.Wake) a g n = refl
row_faulted t cell counter (Broadcast broadcast.LoadCell) (Value w) g n = absurd (n tt)
row_faulted t cell counter (Broadcast broadcast.LoadCell) a g n = refl
row_faulted t cell counter (Broadcast broadcast.LoadCounter) (Value w) g n = absurd (n tt)
row_faulted t cell counter (Broadcast broadcast.LoadCounter) a g n = refl
row_faulted t cell counter (Broadcast (broadcast.Count seen)) (Value w) g n = absurd (n tt)
row_faulted t cell counter (Broadcast (broadcast.Count seen)) a g n = refl
row_faulted t cell counter (Broadcast (broadcast.SetWaiters seen)) (Value w) g n = absurd (n tt)
row_faulted t cell counter (Broadcast (broadcast.SetWaiters seen)) a g n = refl
row_faulted t cell counter (Broadcast (broadcast.Move seen)) Again g n = absurd (n tt)
row_faulted t cell counter (Broadcast (broadcast.Move seen)) (Counts k j) g n = absurd (n tt)
row_faulted t cell counter (Broadcast (broadcast.Move seen)) a g n = refl
row_faulted t cell counter Awake a g n = absurd g
row_faulted t cell counter (cond.Ended x) a g n = absurd g

-- ---- phases

-- what a call knows in each phase
abbrev Stands : CondPhase → Type 0
Stands (AtWords r) = IsGoing r
Stands (Announcing seen) = Unit {0}
Stands (Unlinking u seen) = UnlinkGoes u.row
Stands (Locking w) = (ds : List Reply) × DecidedSo w.phase ds × mutex.IsUnderWay w.phase
Stands (Ended x) = Unit {0}

after_stands : (p : CondWhole) (r : CondRow) → Stands (after_words p r)
after_stands p (Wait (wait.Release seen)) = tt
after_stands p (Wait wait.LoadCell) = tt
after_stands p (Wait wait.LoadCounter) = tt
after_stands p (Wait (wait.Wake seen)) = tt
after_stands p (Wait (wait.Sleep seen)) = tt
after_stands p (Signal r) = tt
after_stands p (Broadcast r) = tt
after_stands p Awake = ([], (tt, refl), tt)
after_stands p (cond.Ended x) = tt

unlinked_stands : (u : UnlinkStanding) (r : UnlinkRow) (seen : ℕ) → u.row ≡ r → Stands (unlinked_at u r seen)
unlinked_stands u (unlink.Ended OK) seen is = tt
unlinked_stands u (unlink.Ended y) seen is = tt
unlinked_stands u unlink.LoadNext seen is = subst UnlinkGoes (sym is) tt
unlinked_stands u (unlink.LoadPrevious n) seen is = subst UnlinkGoes (sym is) tt
unlinked_stands u (unlink.StoreNext n q) seen is = subst UnlinkGoes (sym is) tt
unlinked_stands u (unlink.StorePrevious n q) seen is = subst UnlinkGoes (sym is) tt

-- the wait goes on as its lock does
locked_stands : (w : Whole) (point : Option Point) (ds : List Reply) (f : Phase) → w.phase ≡ f → DecidedSo f ds → Stands (from_lock w (mutex.progress_in point f)).phase
locked_stands w point ds (phase.Ended x) is h = tt
locked_stands w point ds (phase.Announcing r) is h = (ds, subst (λ (g : Phase). DecidedSo g ds) (sym is) h, subst mutex.IsUnderWay (sym is) tt)
locked_stands w point ds (phase.AtCell r) is h = (ds, subst (λ (g : Phase). DecidedSo g ds) (sym is) h, subst mutex.IsUnderWay (sym is) tt)
locked_stands w point ds (phase.Linking l x) is h = (ds, subst (λ (g : Phase). DecidedSo g ds) (sym is) h, subst mutex.IsUnderWay (sym is) tt)
locked_stands w point ds (phase.Unlinking u d) is h = (ds, subst (λ (g : Phase). DecidedSo g ds) (sym is) h, subst mutex.IsUnderWay (sym is) tt)
locked_stands w point ds (phase.Clearing x) is h = (ds, subst (λ (g : Phase). DecidedSo g ds) (sym is) h, subst mutex.IsUnderWay (sym is) tt)

phase_stands : (p : CondWhole) (f : CondPhase) (a : Answer) → Stands f → Stands (phase_led p f a).phase
phase_stands p (AtWords r) a s = after_stands p (resume_of p.thread r a).row
phase_stands p (Announcing seen) Stored s = tt
phase_stands p (Announcing seen) a s = tt
phase_stands p (Unlinking u seen) a s = unlinked_stands (unlink_moved u a) (unlink_moved u a).row seen refl
phase_stands p (Locking w) a s =
    locked_stands (mutex.whole_moved w (mutex.whole_led w a)) (mutex.whole_point w (mutex.whole_led w a).point) (s.0 ++ replies (mutex.whole_led w a).point) (mutex.whole_led w a).phase refl (phase_so w w.phase a s.0 s.1)
phase_stands p (Ended x) a s = tt

run_stands : (answers : List Answer) (p : CondWhole) → Stands p.phase → Stands (cond_reached p answers).phase
run_stands [] p s = s
run_stands (a ∷ answers) p s = run_stands answers (cond_moved p (cond_led p a)) (phase_stands p p.phase a s)

begins_stands : (l : Layout') (t : ℕ) (c : CondCall) → Stands (begins l t c).phase
begins_stands l t (call.Wait c) = tt
begins_stands l t (call.TimedWait c x) = tt
begins_stands l t (call.Signal c) = tt
begins_stands l t (call.Broadcast c) = tt

-- ---- faults

locked_faults : (w : Whole) (point : Option Point) (f : Phase) → f ≡ phase.Ended EFAULT → (from_lock w (mutex.progress_in point f)).phase ≡ Ended EFAULT
locked_faults w point f e = ap (λ (g : Phase). (from_lock w (mutex.progress_in point g)).phase) e

phase_faulted : (p : CondWhole) (f : CondPhase) (a : Answer) → Stands f → IsUnderWay f → ¬ IsAnswerOf (phase_access p f) a → (phase_led p f a).phase ≡ Ended EFAULT
phase_faulted p (AtWords r) a s g n = ap (λ (l : CondLed). after_words p l.row) (row_faulted p.thread p.cell p.counter r a s n)
phase_faulted p (Announcing seen) Stored s g n = absurd (n tt)
phase_faulted p (Announcing seen) a s g n = refl
phase_faulted p (Unlinking u seen) a s g n = ap (λ (r : UnlinkRow). unlinked_at (unlink_moved u a) r seen) (unlink_faults u.head u.entry u.row a s n)
phase_faulted p (Locking w) a s g n =
    locked_faults (mutex.whole_moved w (mutex.whole_led w a)) (mutex.whole_point w (mutex.whole_led w a).point) (mutex.whole_led w a).phase (phase_faults w w.phase a s.0 s.1 s.2 n)
phase_faulted p (Ended x) a s g n = absurd g

-- ---- answers

abbrev Fine : CondPhase → Type 0
Fine (Ended EFAULT) = ⊥
Fine f = Unit {0}

after_fine : (p : CondWhole) (r : CondRow) → RowFine r → Fine (after_words p r)
after_fine p (Wait (wait.Release seen)) h = tt
after_fine p (Wait wait.LoadCell) h = tt
after_fine p (Wait wait.LoadCounter) h = tt
after_fine p (Wait (wait.Wake seen)) h = tt
after_fine p (Wait (wait.Sleep seen)) h = tt
after_fine p (Signal r) h = tt
after_fine p (Broadcast r) h = tt
after_fine p Awake h = tt
after_fine p (cond.Ended EFAULT) h = absurd h
after_fine p (cond.Ended x) h = tt

unlinked_fine : (u : UnlinkStanding) (r : UnlinkRow) (seen : ℕ) → UnlinkFine r → Fine (unlinked_at u r seen)
unlinked_fine u (unlink.Ended OK) seen h = tt
unlinked_fine u (unlink.Ended y) seen h = absurd h
unlinked_fine u r seen h = tt

locked_fine : (w : Whole) (point : Option Point) (f : Phase) → NoFault f → Fine (from_lock w (mutex.progress_in point f)).phase
locked_fine w point (phase.Ended EFAULT) h = absurd h
locked_fine w point (phase.Ended x) h = tt
locked_fine w point f h = tt

phase_answered : (p : CondWhole) (f : CondPhase) (a : Answer) → Stands f → IsUnderWay f → IsAnswerOf (phase_access p f) a → Fine (phase_led p f a).phase
phase_answered p (AtWords r) a s g h = after_fine p (resume_of p.thread r a).row (row_answered p.thread p.cell p.counter r a s h)
phase_answered p (Announcing seen) Stored s g h = tt
phase_answered p (Announcing seen) a s g h = absurd h
phase_answered p (Unlinking u seen) a s g h = unlinked_fine (unlink_moved u a) (unlink_moved u a).row seen (unlink_fine u.head u.entry u.row a s h)
phase_answered p (Locking w) a s g h =
    locked_fine (mutex.whole_moved w (mutex.whole_led w a)) (mutex.whole_point w (mutex.whole_led w a).point) (mutex.whole_led w a).phase (phase_fine w w.phase a s.0 s.1 s.2 h)
phase_answered p (Ended x) a s g h = absurd g

fine_at : (f : CondPhase) → Fine f → f ≢ Ended EFAULT
fine_at f h e = subst Fine e h

pub told : FaultsAreTold
told = record {
  faulted = λ l t c answers a g n. let p = cond_reached (begins l t c) answers in phase_faulted p p.phase a (run_stands answers (begins l t c) (begins_stands l t c)) g n;
  answered = λ l t c answers a g h. let p = cond_reached (begins l t c) answers in fine_at (cond_led p a).phase (phase_answered p p.phase a (run_stands answers (begins l t c) (begins_stands l t c)) g h);
}
