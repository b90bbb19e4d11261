-- For any answers, what a first load decides is permitted for the cell met there.
use Rattle.std.proofs.Common.{◌≡◌, ℕ, ◌≤◌, ◌==◌, Bool, true, false, not, Option, Some, None, refl, subst, eqb-true}
use Rattle.std.specs.Prelude.{if◌then◌else◌}
use Rattle.lockword.specs.Cells.{Fields, fields_of}
use Rattle.lockword.specs.declared.reply.Reply.TheVariants.{EPERM, XFULL, XSTATE}
use Rattle.stepprograms.specs.declared.access.Answer.{Answer}
use Rattle.stepprograms.specs.declared.access.Answer.TheVariants.{Value, Again, Woken, Count, Counts}
use Rattle.posixmutex.specs.declared.point.Operation.TheVariants as operation
use Rattle.posixmutex.specs.Objects.{object_of, freed}
use Rattle.mutex.specs.Laws.{PermitsAt}
use Rattle.condvar.specs.declared.wait.WaitRow.TheVariants as wait
use Rattle.condvar.specs.declared.signal.SignalRow.TheVariants as signal
use Rattle.condvar.specs.declared.broadcast.BroadcastRow.TheVariants as broadcast
use Rattle.condvar.specs.declared.row.CondRow.{CondRow}
use Rattle.condvar.specs.declared.row.CondRow.TheVariants.{Wait, Signal, Broadcast, Awake, Ended}
use Rattle.condvar.specs.declared.row.CondLed.{CondLed}
use Rattle.condvar.specs.declared.row.Decided.{Decided}
use Rattle.condvar.specs.Rows.{goes, ends, full}
use Rattle.condvar.specs.Wait.{wait_sees}
use Rattle.condvar.specs.Signal.{signal_sees}
use Rattle.condvar.specs.Broadcast.{broadcast_sees}
use Rattle.condvar.specs.Programs.{resume_of}
use Rattle.condvar.specs.Laws.{met, GoesOnFrom, PointsArePermitted}
use Rattle.condvar.proofs.Rights.{names, names_not}

-- what a look decides, and where it goes on from
record Looks (t : ℕ) (l : CondLed) (c : Fields) : Type 0 where
  decides : (d : Decided) → l.decided ≡ Some d → PermitsAt (Some c) t d.operation d.reply
  goes_on : GoesOnFrom t l.row (Some c)

-- what was decided
told : (t : ℕ) (c : Fields) (d e : Decided) → PermitsAt (Some c) t d.operation d.reply → Some d ≡ Some e → PermitsAt (Some c) t e.operation e.reply
told t c d e h is = subst (λ (o : Option Decided). of o) is h
  where
    of : Option Decided → Type 0
    of None = Unit {0}
    of (Some x) = PermitsAt (Some c) t x.operation x.reply

nothing : (d : Decided) → None ≡ Some d → ⊥
nothing d e = cc

wait_looks : (t : ℕ) (c : Fields) → 1 ≤ t → Looks t (wait_sees t c) c
wait_looks t c pos = go (c.owner == t) refl c.died refl
  where
    go : (b : Bool) → (c.owner == t) ≡ b → (d : Bool) → c.died ≡ d → Looks t (if not b then ends operation.Wait EPERM else if d then ends operation.Wait XSTATE else goes (Wait wait.LoadCounter)) c
    go false e d ed = record { decides = λ x is. told t c (record { operation = operation.Wait; reply = EPERM }) x (object_of c, (names_not t c e, refl)) is; goes_on = tt }
    go true e true ed = record { decides = λ x is. told t c (record { operation = operation.Wait; reply = XSTATE }) x (object_of c, (names t c pos (eqb-true c.owner t e), ed, refl)) is; goes_on = tt }
    go true e false ed = record { decides = λ x is. absurd (nothing x is); goes_on = ((freed (object_of c), (names t c pos (eqb-true c.owner t e), refl)), ed) }

signal_looks : (t : ℕ) (c : Fields) → 1 ≤ t → Looks t (signal_sees t c) c
signal_looks t c pos = go (c.owner == t) refl
  where
    go : (b : Bool) → (c.owner == t) ≡ b → Looks t (if not b then ends operation.Signal EPERM else goes (Signal signal.LoadCounter)) c
    go false e = record { decides = λ x is. told t c (record { operation = operation.Signal; reply = EPERM }) x (object_of c, (names_not t c e, refl)) is; goes_on = tt }
    go true e =
        let own = names t c pos (eqb-true c.owner t e) in
        record { decides = λ x is. absurd (nothing x is); goes_on = ((object_of c, (own, refl)), (object_of c, (own, refl))) }

broadcast_looks : (t : ℕ) (c : Fields) → 1 ≤ t → Looks t (broadcast_sees t c) c
broadcast_looks t c pos = go (c.owner == t) refl
  where
    go : (b : Bool) → (c.owner == t) ≡ b → Looks t (if not b then ends operation.Broadcast EPERM else goes (Broadcast broadcast.LoadCounter)) c
    go false e = record { decides = λ x is. told t c (record { operation = operation.Broadcast; reply = EPERM }) x (object_of c, (names_not t c e, refl)) is; goes_on = tt }
    go true e =
        let own = names t c pos (eqb-true c.owner t e) in
        record { decides = λ x is. absurd (nothing x is); goes_on = ((object_of c, (own, refl)), (object_of c, (own, refl))) }

-- each row, each answer
at : (t : ℕ) (r : CondRow) (a : Answer) (d : Decided) → 1 ≤ t → (resume_of t r a).decided ≡ Some d → PermitsAt (met r a) t d.operation d.reply
at t (Wait wait.LoadCell) (Value w) d pos e = (wait_looks t (fields_of w) pos).decides d e
at t (Wait wait.LoadCell) a d pos e = tt
at t (Wait wait.LoadCounter) a d pos e = tt
at t (Wait (wait.Release s)) a d pos e = tt
at t (Wait (wait.Wake s)) a d pos e = tt
at t (Wait (wait.Sleep s)) a d pos e = tt
at t (Signal signal.LoadCell) (Value w) d pos e = (signal_looks t (fields_of w) pos).decides d e
at t (Signal signal.LoadCell) a d pos e = tt
at t (Signal signal.LoadCounter) a d pos e = tt
at t (Signal signal.Count) a d pos e = tt
at t (Signal signal.Wake) a d pos e = tt
at t (Broadcast broadcast.LoadCell) (Value w) d pos e = (broadcast_looks t (fields_of w) pos).decides d e
at t (Broadcast broadcast.LoadCell) a d pos e = tt
at t (Broadcast broadcast.LoadCounter) a d pos e = tt
at t (Broadcast (broadcast.Count s)) a d pos e = tt
at t (Broadcast (broadcast.SetWaiters s)) a d pos e = tt
at t (Broadcast (broadcast.Move s)) a d pos e = tt
at t Awake a d pos e = tt
at t (Ended x) a d pos e = tt

-- after the first load no call comes back to it
signal_on : (t : ℕ) (b : Bool) → GoesOnFrom t (if b then ends operation.Signal XFULL else goes (Signal signal.Count)).row None
signal_on t true = tt
signal_on t false = tt

broadcast_on : (t s : ℕ) (b : Bool) → GoesOnFrom t (if b then ends operation.Broadcast XFULL else goes (Broadcast (broadcast.Count s))).row None
broadcast_on t s true = tt
broadcast_on t s false = tt

release_on : (t s : ℕ) (b : Bool) → GoesOnFrom t (if b then Wait (wait.Wake s) else Wait (wait.Sleep s)) None
release_on t s true = tt
release_on t s false = tt

goes_on : (t : ℕ) (r : CondRow) (a : Answer) → 1 ≤ t → GoesOnFrom t (resume_of t r a).row (met r a)
goes_on t (Wait wait.LoadCell) (Value w) pos = (wait_looks t (fields_of w) pos).goes_on
goes_on t (Wait wait.LoadCell) a pos = tt
goes_on t (Wait wait.LoadCounter) (Value s) pos = tt
goes_on t (Wait wait.LoadCounter) a pos = tt
goes_on t (Wait (wait.Release s)) (Value w) pos = release_on t s (fields_of w).waiters
goes_on t (Wait (wait.Release s)) a pos = tt
goes_on t (Wait (wait.Wake s)) (Count n) pos = tt
goes_on t (Wait (wait.Wake s)) a pos = tt
goes_on t (Wait (wait.Sleep s)) Again pos = tt
goes_on t (Wait (wait.Sleep s)) Woken pos = tt
goes_on t (Wait (wait.Sleep s)) a pos = tt
goes_on t (Signal signal.LoadCell) (Value w) pos = (signal_looks t (fields_of w) pos).goes_on
goes_on t (Signal signal.LoadCell) a pos = tt
goes_on t (Signal signal.LoadCounter) (Value s) pos = signal_on t (s == full)
goes_on t (Signal signal.LoadCounter) a pos = tt
goes_on t (Signal signal.Count) (Value s) pos = tt
goes_on t (Signal signal.Count) a pos = tt
goes_on t (Signal signal.Wake) (Count n) pos = tt
goes_on t (Signal signal.Wake) a pos = tt
goes_on t (Broadcast broadcast.LoadCell) (Value w) pos = (broadcast_looks t (fields_of w) pos).goes_on
goes_on t (Broadcast broadcast.LoadCell) a pos = tt
goes_on t (Broadcast broadcast.LoadCounter) (Value s) pos = broadcast_on t _ (s == full)
goes_on t (Broadcast broadcast.LoadCounter) a pos = tt
goes_on t (Broadcast (broadcast.Count s)) (Value w) pos = tt
goes_on t (Broadcast (broadcast.Count s)) a pos = tt
goes_on t (Broadcast (broadcast.SetWaiters s)) (Value w) pos = tt
goes_on t (Broadcast (broadcast.SetWaiters s)) a pos = tt
goes_on t (Broadcast (broadcast.Move s)) Again pos = tt
goes_on t (Broadcast (broadcast.Move s)) (Counts n m) pos = tt
goes_on t (Broadcast (broadcast.Move s)) a pos = tt
goes_on t Awake a pos = tt
goes_on t (Ended x) a pos = tt

pub permitted : PointsArePermitted
permitted = record { at = at; goes_on = goes_on }
