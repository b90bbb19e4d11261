-- Whom a call wakes.
use Rattle.std.proofs.Common.{◌≡◌, ℕ, ◌==◌, Bool, true, false, not}
use Rattle.std.specs.Prelude.{◌↔◌, if◌then◌else◌}
use Rattle.lockword.specs.Cells.{Fields, fields_of}
use Rattle.lockword.specs.declared.reply.Reply.TheVariants.{OK, EPERM, XFULL, XSTATE}
use Rattle.stepprograms.specs.declared.access.Access.TheVariants as access
use Rattle.stepprograms.specs.declared.access.Answer.{Answer}
use Rattle.stepprograms.specs.declared.access.Answer.TheVariants.{Value, Again, Woken, Count, Counts}
use Rattle.posixmutex.specs.declared.point.Operation.TheVariants as operation
use Rattle.condvar.specs.declared.wait.WaitRow.TheVariants as wait
use Rattle.condvar.specs.declared.signal.SignalRow.TheVariants as signal
use Rattle.condvar.specs.declared.broadcast.BroadcastRow.TheVariants as broadcast
use Rattle.condvar.specs.declared.row.CondRow.{CondRow}
use Rattle.condvar.specs.declared.row.CondRow.TheVariants.{Wait, Signal, Broadcast, Awake, Ended}
use Rattle.condvar.specs.declared.row.CondLed.{CondLed}
use Rattle.condvar.specs.Rows.{IsGoing, goes, decides, ends, full}
use Rattle.condvar.specs.Wait.{wait_sees}
use Rattle.condvar.specs.Signal.{signal_sees}
use Rattle.condvar.specs.Broadcast.{broadcast_sees}
use Rattle.condvar.specs.Programs.{row_access, resume_of}
use Rattle.condvar.specs.Wakes.{tells_waiters, Wakes, WakesAreRight}

-- the next access of a call that was led so is a wake exactly where it is to be one
abbrev Next : ℕ → ℕ → ℕ → CondLed → Bool → ℕ → ℕ → Type 0
Next t cell counter l b at n = (row_access t cell counter l.row ≡ access.Wake at n) ↔ Wakes cell counter l.decided b at n

module _ (t cell counter at n : ℕ) where
  wait_looks : (c : Fields) (b : Bool) → Next t cell counter (wait_sees t c) b at n
  wait_looks c b = go (c.owner == t) c.died
    where
      go : (x d : Bool) → Next t cell counter (if not x then ends operation.Wait EPERM else if d then ends operation.Wait XSTATE else goes (Wait wait.LoadCounter)) b at n
      go false d = (λ is. absurd (cc is), λ h. absurd h)
      go true true = (λ is. absurd (cc is), λ h. absurd h)
      go true false = (λ is. absurd (cc is), λ h. absurd h)

  signal_looks : (c : Fields) (b : Bool) → Next t cell counter (signal_sees t c) b at n
  signal_looks c b = go (c.owner == t)
    where
      go : (x : Bool) → Next t cell counter (if not x then ends operation.Signal EPERM else goes (Signal signal.LoadCounter)) b at n
      go false = (λ is. absurd (cc is), λ h. absurd h)
      go true = (λ is. absurd (cc is), λ h. absurd h)

  broadcast_looks : (c : Fields) (b : Bool) → Next t cell counter (broadcast_sees t c) b at n
  broadcast_looks c b = go (c.owner == t)
    where
      go : (x : Bool) → Next t cell counter (if not x then ends operation.Broadcast EPERM else goes (Broadcast broadcast.LoadCounter)) b at n
      go false = (λ is. absurd (cc is), λ h. absurd h)
      go true = (λ is. absurd (cc is), λ h. absurd h)

  signal_counted : (x b : Bool) → Next t cell counter (if x then ends operation.Signal XFULL else goes (Signal signal.Count)) b at n
  signal_counted true b = (λ is. absurd (cc is), λ h. absurd h)
  signal_counted false b = (λ is. absurd (cc is), λ h. absurd h)

  broadcast_counted : (s : ℕ) (x b : Bool) → Next t cell counter (if x then ends operation.Broadcast XFULL else goes (Broadcast (broadcast.Count s))) b at n
  broadcast_counted s true b = (λ is. absurd (cc is), λ h. absurd h)
  broadcast_counted s false b = (λ is. absurd (cc is), λ h. absurd h)

  -- a release of a wait
  releases : (s : ℕ) (b : Bool) → Next t cell counter (decides (if b then Wait (wait.Wake s) else Wait (wait.Sleep s)) operation.Unlock OK) b at n
  releases s true = (
    (λ is. let place : at ≡ cell = cc is in let count : n ≡ 1 = cc is in (place, count)),
    (λ h. let place = h.0 in let count = h.1 in cc (place, count)),
  )
  releases s false = (λ is. absurd (cc is), λ h. absurd h)

  -- a signal that counted
  signals : (b : Bool) → Next t cell counter (decides (Signal signal.Wake) operation.Signal OK) b at n
  signals b = (
    (λ is. let place : at ≡ counter = cc is in let count : n ≡ 1 = cc is in (place, count)),
    (λ h. let place = h.0 in let count = h.1 in cc (place, count)),
  )

  -- each row, each answer
  each : (r : CondRow) (a : Answer) → IsGoing r → Next t cell counter (resume_of t r a) (tells_waiters a) at n
  each (Wait wait.LoadCell) (Value w) going = wait_looks (fields_of w) (fields_of w).waiters
  each (Wait wait.LoadCell) a going = (λ is. absurd (cc is), λ h. absurd h)
  each (Wait wait.LoadCounter) (Value w) going = (λ is. absurd (cc is), λ h. absurd h)
  each (Wait wait.LoadCounter) a going = (λ is. absurd (cc is), λ h. absurd h)
  each (Wait (wait.Release s)) (Value w) going = releases s (fields_of w).waiters
  each (Wait (wait.Release s)) a going = (λ is. absurd (cc is), λ h. absurd h)
  each (Wait (wait.Wake s)) (Count k) going = (λ is. absurd (cc is), λ h. absurd h)
  each (Wait (wait.Wake s)) a going = (λ is. absurd (cc is), λ h. absurd h)
  each (Wait (wait.Sleep s)) Again going = (λ is. absurd (cc is), λ h. absurd h)
  each (Wait (wait.Sleep s)) Woken going = (λ is. absurd (cc is), λ h. absurd h)
  each (Wait (wait.Sleep s)) a going = (λ is. absurd (cc is), λ h. absurd h)
  each (Signal signal.LoadCell) (Value w) going = signal_looks (fields_of w) (fields_of w).waiters
  each (Signal signal.LoadCell) a going = (λ is. absurd (cc is), λ h. absurd h)
  each (Signal signal.LoadCounter) (Value w) going = signal_counted (w == full) (fields_of w).waiters
  each (Signal signal.LoadCounter) a going = (λ is. absurd (cc is), λ h. absurd h)
  each (Signal signal.Count) (Value w) going = signals (fields_of w).waiters
  each (Signal signal.Count) a going = (λ is. absurd (cc is), λ h. absurd h)
  each (Signal signal.Wake) (Count k) going = (λ is. absurd (cc is), λ h. absurd h)
  each (Signal signal.Wake) a going = (λ is. absurd (cc is), λ h. absurd h)
  each (Broadcast broadcast.LoadCell) (Value w) going = broadcast_looks (fields_of w) (fields_of w).waiters
  each (Broadcast broadcast.LoadCell) a going = (λ is. absurd (cc is), λ h. absurd h)
  each (Broadcast broadcast.LoadCounter) (Value w) going = broadcast_counted _ (w == full) (fields_of w).waiters
  each (Broadcast broadcast.LoadCounter) a going = (λ is. absurd (cc is), λ h. absurd h)
  each (Broadcast (broadcast.Count s)) (Value w) going = (λ is. absurd (cc is), λ h. absurd h)
  each (Broadcast (broadcast.Count s)) a going = (λ is. absurd (cc is), λ h. absurd h)
  each (Broadcast (broadcast.SetWaiters s)) (Value w) going = (λ is. absurd (cc is), λ h. absurd h)
  each (Broadcast (broadcast.SetWaiters s)) a going = (λ is. absurd (cc is), λ h. absurd h)
  each (Broadcast (broadcast.Move s)) Again going = (λ is. absurd (cc is), λ h. absurd h)
  each (Broadcast (broadcast.Move s)) (Counts k j) going = (λ is. absurd (cc is), λ h. absurd h)
  each (Broadcast (broadcast.Move s)) a going = (λ is. absurd (cc is), λ h. absurd h)
  each Awake a going = absurd going
  each (Ended x) a going = absurd going

pub woken_right : WakesAreRight
woken_right t cell counter at n r a going = each t cell counter at n r a going
