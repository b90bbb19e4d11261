-- Where a call on a condition variable stands, as plain numbers: for whoever keeps it outside Rattle.
--
-- | kind     | is at                                                 | carries
-- | 0        | it has returned                                       | its reply
-- | 1 to 5   | Wait: LoadCell, LoadCounter, Release, Wake, Sleep     | seen: the counter's low half (3 to 5)
-- | 6 to 9   | Signal: LoadCell, LoadCounter, Count, Wake            |
-- | 10 to 14 | Broadcast: LoadCell, LoadCounter, Count, SetWaiters, Move | seen (12 to 14)
-- | 15       | Announcing                                            | seen
-- | 16 to 19 | Unlinking: LoadNext, LoadPrevious, StoreNext, StorePrevious | seen; x: the next entry (17 to 19); y: the previous one (18, 19)
-- | 20       | Locking                                               | the numbers of the lock that ends the wait
--
-- x, y and the reply are those of `lock`, whose other numbers are then 0. What a kind doesn't carry is 0.
use Rattle.std.specs.Prelude.{ℕ, ◌≡◌}
use Rattle.lockword.specs.declared.reply.Reply.{Reply}
use Rattle.lockword.specs.declared.reply.Reply.TheVariants.{EFAULT}
use Rattle.posixmutex.specs.declared.point.Operation.TheVariants as operation
use Rattle.robustlist.specs.declared.unlink.UnlinkRow.{UnlinkRow}
use Rattle.robustlist.specs.declared.unlink.UnlinkRow.TheVariants as unlink
use Rattle.mutex.specs.Standings.{Whole}
use Rattle.mutex.specs.Whole as mutex
use Rattle.mutex.specs.Codings as coded
use Rattle.condvar.specs.declared.wait.WaitRow.TheVariants as wait
use Rattle.condvar.specs.declared.signal.SignalRow.TheVariants as signal
use Rattle.condvar.specs.declared.broadcast.BroadcastRow.TheVariants as broadcast
use Rattle.condvar.specs.declared.row.CondRow.{CondRow}
use Rattle.condvar.specs.declared.row.CondRow.TheVariants.{Wait, Signal, Broadcast, Awake}
use Rattle.condvar.specs.declared.row.CondRow.TheVariants as row
use Rattle.condvar.specs.declared.phase.CondPhase.{CondPhase}
use Rattle.condvar.specs.declared.phase.CondPhase.TheVariants.{AtWords, Announcing, Unlinking, Locking, Ended}
use Rattle.condvar.specs.declared.coding.CodedCondPhase.{CodedCondPhase}

abbrev pub plain : ℕ → ℕ → ℕ → ℕ → CodedCondPhase
plain kind seen x y = record { lock = coded.plain 0 0 x y; seen = seen; kind = kind }

abbrev pub ended : Reply → CodedCondPhase
ended r = record { lock = coded.replying 0 r 0; seen = 0; kind = 0 }

abbrev pub row_code : CondRow → CodedCondPhase
row_code (Wait wait.LoadCell) = plain 1 0 0 0
row_code (Wait wait.LoadCounter) = plain 2 0 0 0
row_code (Wait (wait.Release seen)) = plain 3 seen 0 0
row_code (Wait (wait.Wake seen)) = plain 4 seen 0 0
row_code (Wait (wait.Sleep seen)) = plain 5 seen 0 0
row_code (Signal signal.LoadCell) = plain 6 0 0 0
row_code (Signal signal.LoadCounter) = plain 7 0 0 0
row_code (Signal signal.Count) = plain 8 0 0 0
row_code (Signal signal.Wake) = plain 9 0 0 0
row_code (Broadcast broadcast.LoadCell) = plain 10 0 0 0
row_code (Broadcast broadcast.LoadCounter) = plain 11 0 0 0
row_code (Broadcast (broadcast.Count seen)) = plain 12 seen 0 0
row_code (Broadcast (broadcast.SetWaiters seen)) = plain 13 seen 0 0
row_code (Broadcast (broadcast.Move seen)) = plain 14 seen 0 0
row_code Awake = ended EFAULT
row_code (row.Ended r) = ended r

abbrev pub unlink_code : ℕ → UnlinkRow → CodedCondPhase
unlink_code seen unlink.LoadNext = plain 16 seen 0 0
unlink_code seen (unlink.LoadPrevious next) = plain 17 seen next 0
unlink_code seen (unlink.StoreNext next previous) = plain 18 seen next previous
unlink_code seen (unlink.StorePrevious next previous) = plain 19 seen next previous
unlink_code seen (unlink.Ended r) = ended r

abbrev pub phase_code : CondPhase → CodedCondPhase
phase_code (AtWords r) = row_code r
phase_code (Announcing seen) = plain 15 seen 0 0
phase_code (Unlinking u seen) = unlink_code seen u.row
phase_code (Locking w) = record { lock = coded.phase_code w.phase; seen = 0; kind = 20 }
phase_code (Ended r) = ended r

-- the lock that ends a wait of thread t, whose head, whose mutex's entry and whose cell are at these addresses, and
-- which knows what its phase does
abbrev pub IsLockOf : ℕ → ℕ → ℕ → ℕ → Whole → Type 0
IsLockOf t h e cell w =
    (w ≡ mutex.whole_at t operation.Lock h e cell w.phase) × mutex.PhaseKnows w.phase × coded.LiesAt h e w.phase

-- a call's unlink and lock are its own
abbrev pub LiesAt : ℕ → ℕ → ℕ → ℕ → CondPhase → Type 0
LiesAt t h e cell (Unlinking u seen) = (u.head ≡ h) × (u.entry ≡ e)
LiesAt t h e cell (Locking w) = IsLockOf t h e cell w
LiesAt t h e cell f = Unit {0}
