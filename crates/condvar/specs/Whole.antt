-- A whole call, access by access: what it does at the cell and the counter, and around that, in a wait, at its thread's
-- robust list (robust-futexes, its ABI document).
--
-- | is at      | access                             | then
-- | AtWords    | that of the call's row             | as the row says; but before a release Announcing, and awake Locking
-- | Announcing | store the entry as the pending one | Unlinking
-- | Unlinking  | that of the unlink's row           | out of the list: AtWords, to release
-- | Locking    | that of the mutex's lock           | as the lock says; the wait returns when it does
--
-- A wait's entry is pending from before its release until the lock that ends it has put it on the list, or has failed:
-- so also while it sleeps. A signal and a broadcast leave the list alone.
use Rattle.std.specs.Prelude.{ℕ, Option, Some, None}
use Rattle.lockword.specs.declared.reply.Reply.TheVariants.{OK, EFAULT}
use Rattle.stepprograms.specs.declared.access.Access.{Access}
use Rattle.stepprograms.specs.declared.access.Access.TheVariants as access
use Rattle.stepprograms.specs.declared.access.Answer.{Answer}
use Rattle.stepprograms.specs.declared.access.Answer.TheVariants.{Stored}
use Rattle.posixmutex.specs.declared.point.Point.{Point}
use Rattle.stepprograms.specs.declared.program.Progress.{Progress}
use Rattle.stepprograms.specs.declared.program.Progress.TheVariants.{Goes, Returns}
use Rattle.memorymap.specs.Layouts.{Layout', head_place, entry_place, cell_place, counter_place, address_in}
use Rattle.robustlist.specs.declared.unlink.UnlinkRow.{UnlinkRow}
use Rattle.robustlist.specs.declared.unlink.UnlinkRow.TheVariants as unlink
use Rattle.robustlist.specs.Standings.{UnlinkStanding}
use Rattle.robustlist.specs.Unlink.{unlink_started, unlink_access_of, unlink_moved, UnlinkGoes}
use Rattle.mutex.specs.Standings.{Whole}
use Rattle.mutex.specs.Whole as mutex
use Rattle.condvar.specs.declared.call.CondCall.{CondCall}
use Rattle.condvar.specs.declared.row.CondRow.{CondRow}
use Rattle.condvar.specs.declared.row.CondRow.TheVariants as row
use Rattle.condvar.specs.declared.row.CondLed.{CondLed}
use Rattle.condvar.specs.declared.wait.WaitRow.TheVariants.{Release}
use Rattle.condvar.specs.declared.phase.CondPhase.{CondPhase}
use Rattle.condvar.specs.declared.phase.CondPhase.TheVariants.{AtWords, Announcing, Unlinking, Locking, Ended}
use Rattle.condvar.specs.declared.phase.CondOnward.{CondOnward}
use Rattle.condvar.specs.Calls.{condition_of}
use Rattle.condvar.specs.Rows.{IsGoing}
use Rattle.condvar.specs.Standings.{CondWhole}
use Rattle.condvar.specs.Programs.{first_row, row_access, resume_of, point_of, mutex_of}

-- to a phase, without a point
abbrev pub onward : CondPhase → CondOnward
onward f = record { phase = f; point = None }

-- a call that is answered a fault, or anything that isn't an answer of its access, has no further point
abbrev pub faulted : CondOnward
faulted = onward (Ended EFAULT)

-- the call hasn't returned
abbrev pub IsUnderWay : CondPhase → Type 0
IsUnderWay (Ended x) = ⊥
IsUnderWay f = Unit {0}

-- a call in a phase isn't finished with it
abbrev pub PhaseKnows : CondPhase → Type 0
PhaseKnows (AtWords r) = IsGoing r
PhaseKnows (Unlinking u seen) = UnlinkGoes u.row
PhaseKnows (Locking w) = mutex.IsUnderWay w.phase
PhaseKnows f = Unit {0}

-- ---- the beginning

-- a call of a thread whose head, whose mutex's entry and cell, and whose counter are at these addresses
abbrev pub cond_at : ℕ → ℕ → ℕ → ℕ → ℕ → CondPhase → CondWhole
cond_at t h e cell counter f = record { thread = t; head = h; entry = e; cell = cell; counter = counter; phase = f }

abbrev pub begun_at : ℕ → ℕ → ℕ → ℕ → ℕ → CondCall → CondWhole
begun_at t h e cell counter c = cond_at t h e cell counter (AtWords (first_row c))

abbrev pub begins : Layout' → ℕ → CondCall → CondWhole
begins l t c = begun_at t (address_in l t (head_place t)) (address_in l t (entry_place l (mutex_of l c)))
    (address_in l t (cell_place l (mutex_of l c))) (address_in l t (counter_place l (condition_of c))) c

-- ---- the access of each phase

abbrev pub phase_access : CondWhole → CondPhase → Access
phase_access p (AtWords r) = row_access p.thread p.cell p.counter r
phase_access p (Announcing seen) = access.Store (mutex.pending_place p.head) p.entry
phase_access p (Unlinking u seen) = unlink_access_of u
phase_access p (Locking w) = mutex.whole_access w
phase_access p (Ended x) = access.Load p.cell

abbrev pub cond_access : CondWhole → Access
cond_access p = phase_access p p.phase

-- ---- where each answer leads

-- from the cell or the counter
abbrev pub after_words : CondWhole → CondRow → CondPhase
after_words p (row.Wait (Release seen)) = Announcing seen
after_words p row.Awake = Locking (mutex.retaking p.thread p.head p.entry p.cell)
after_words p (row.Ended x) = Ended x
after_words p r = AtWords r

abbrev pub from_words : CondWhole → CondLed → CondOnward
from_words p l = record { phase = after_words p l.row; point = point_of p.thread p.cell l.decided }

-- from an unlink
abbrev pub unlinked_at : UnlinkStanding → UnlinkRow → ℕ → CondPhase
unlinked_at u (unlink.Ended OK) seen = AtWords (row.Wait (Release seen))
unlinked_at u (unlink.Ended y) seen = Ended EFAULT
unlinked_at u r seen = Unlinking u seen

abbrev pub unlinked : UnlinkStanding → ℕ → CondPhase
unlinked u seen = unlinked_at u u.row seen

-- as far as its lock the wait goes on, or returns with its reply; its points are the lock's
abbrev pub from_lock : Whole → Progress → CondOnward
from_lock w (Goes point) = record { phase = Locking w; point = point }
from_lock w (Returns x point) = record { phase = Ended x; point = point }

abbrev pub phase_led : CondWhole → CondPhase → Answer → CondOnward
phase_led p (AtWords r) a = from_words p (resume_of p.thread r a)
phase_led p (Announcing seen) Stored = onward (Unlinking (unlink_started p.head p.entry) seen)
phase_led p (Unlinking u seen) a = onward (unlinked (unlink_moved u a) seen)
phase_led p (Locking w) a =
    from_lock (mutex.whole_moved w (mutex.whole_led w a)) (mutex.whole_progress w (mutex.whole_led w a))
phase_led p (Ended x) a = onward (Ended x)
phase_led p f a = faulted

abbrev pub cond_led : CondWhole → Answer → CondOnward
cond_led p a = phase_led p p.phase a

abbrev pub cond_moved : CondWhole → CondOnward → CondWhole
cond_moved p o = record p { phase = o.phase }

-- the mutex's lock that a wait is in, once it is awake again
abbrev pub lock_of : CondPhase → Option Whole
lock_of (Locking w) = Some w
lock_of f = None

-- ---- how far an answer brought the call

abbrev pub progress_in : Option Point → CondPhase → Progress
progress_in point (Ended x) = Returns x point
progress_in point f = Goes point

abbrev pub cond_progress : CondOnward → Progress
cond_progress o = progress_in o.point o.phase
