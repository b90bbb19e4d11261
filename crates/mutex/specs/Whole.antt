-- A whole call, access by access: what it does at its mutex's cell, and around that at its thread's robust list, so
-- that the kernel finds at any moment what the thread owns (robust-futexes, its ABI document; get_robust_list(2)).
--
-- | is at      | access                             | then
-- | Announcing | store the entry as the pending one | AtCell; a release goes by Unlinking
-- | AtCell     | that of the call's row             | as the row says; but before a release Announcing, and at the end: a mutex was taken, Linking; else an entry is pending, Clearing; else it returns
-- | Linking    | that of the link's row             | linked: Clearing
-- | Unlinking  | that of the unlink's row           | out of the list: AtCell, to release
-- | Clearing   | store 0 as the pending entry       | returns
--
-- A lock or trylock begins by Announcing. An unlock announces when it has seen that the mutex is its thread's; a
-- declaration that it is consistent never does.
use Rattle.std.specs.Prelude.{ℕ, ◌&&◌, Bool, true, false, nat_le, Option, Some, None, Result, Ok, Err, if◌then◌else◌}
use Rattle.lockword.specs.declared.reply.Reply.{Reply}
use Rattle.lockword.specs.declared.reply.Reply.TheVariants.{OK, EFAULT, ETIMEDOUT, EOWNERDEAD, XHELD}
use Rattle.stepprograms.specs.declared.access.Access.{Access}
use Rattle.stepprograms.specs.declared.access.Access.TheVariants as access
use Rattle.stepprograms.specs.declared.access.Answer.{Answer}
use Rattle.stepprograms.specs.declared.access.Answer.TheVariants.{Stored}
use Rattle.posixmutex.specs.declared.point.Operation.{Operation}
use Rattle.posixmutex.specs.declared.point.Operation.TheVariants as operation
use Rattle.posixmutex.specs.declared.point.Point.{Point}
use Rattle.stepprograms.specs.declared.program.Progress.{Progress}
use Rattle.stepprograms.specs.declared.program.Progress.TheVariants.{Goes, Returns}
use Rattle.memorymap.specs.Chains.{address_sum}
use Rattle.memorymap.specs.Layouts.{Layout', head_place, entry_place, cell_place, address_in}
use Rattle.posixmutex.specs.Objects.{held_limit, acquires}
use Rattle.robustlist.specs.declared.link.LinkRow.{LinkRow}
use Rattle.robustlist.specs.declared.link.LinkRow.TheVariants as link
use Rattle.robustlist.specs.declared.unlink.UnlinkRow.{UnlinkRow}
use Rattle.robustlist.specs.declared.unlink.UnlinkRow.TheVariants as unlink
use Rattle.robustlist.specs.Standings.{LinkStanding, UnlinkStanding}
use Rattle.robustlist.specs.Link.{link_started, link_access_of, link_moved, LinkGoes}
use Rattle.robustlist.specs.Unlink.{unlink_started, unlink_access_of, unlink_moved, UnlinkGoes}
use Rattle.mutex.specs.declared.call.Call.{Call}
use Rattle.mutex.specs.declared.call.Call.TheVariants as call
use Rattle.mutex.specs.declared.row.Row.{Row}
use Rattle.mutex.specs.declared.row.Row.TheVariants as row
use Rattle.mutex.specs.declared.row.Led.{Led}
use Rattle.mutex.specs.declared.lock.LockRow.TheVariants as lock
use Rattle.mutex.specs.declared.unlock.UnlockRow.TheVariants.{Release}
use Rattle.mutex.specs.declared.phase.Phase.{Phase}
use Rattle.mutex.specs.declared.phase.Phase.TheVariants.{Announcing, AtCell, Linking, Unlinking, Clearing, Ended}
use Rattle.mutex.specs.declared.phase.Onward.{Onward}
use Rattle.mutex.specs.Calls.{acts_as, mutex_of, operation_of}
use Rattle.mutex.specs.Rows.{Knows, IsGoing}
use Rattle.mutex.specs.Standings.{Whole}
use Rattle.mutex.specs.Programs.{first_row, row_access, resume_of}

-- to a phase, without a point
abbrev pub onward : Phase → Onward
onward f = record { phase = f; point = None }

-- a call that is answered a fault, or anything that isn't an answer of its access, is not decided
abbrev pub faulted : Onward
faulted = onward (Ended EFAULT)

-- the call hasn't returned
abbrev pub IsUnderWay : Phase → Type 0
IsUnderWay (Ended x) = ⊥
IsUnderWay f = Unit {0}

-- what a call knows in a phase: what its row knows
abbrev pub PhaseKnows : Phase → Type 0
PhaseKnows (Announcing r) = IsGoing r × Knows r
PhaseKnows (AtCell r) = IsGoing r × Knows r
PhaseKnows (Linking l x) = LinkGoes l.row
PhaseKnows (Unlinking u d) = UnlinkGoes u.row
PhaseKnows f = Unit {0}

-- ---- the beginning

-- a lock or trylock makes its entry pending first
abbrev pub first_phase : Call → Phase
first_phase (call.Lock m) = Announcing (first_row (call.Lock m))
first_phase (call.TimedLock m) = Announcing (first_row (call.TimedLock m))
first_phase (call.TryLock m) = Announcing (first_row (call.TryLock m))
first_phase c = AtCell (first_row c)

-- a call of a thread whose head, whose mutex's entry and whose cell are at these addresses
abbrev pub whole_at : ℕ → Operation → ℕ → ℕ → ℕ → Phase → Whole
whole_at t op h e cell f = record { thread = t; operation = op; head = h; entry = e; cell = cell; phase = f }

-- where it begins
abbrev pub begun_at : ℕ → ℕ → ℕ → ℕ → Call → Whole
begun_at t h e cell c = whole_at t (acts_as c) h e cell (first_phase c)

-- it speaks of its head, its entry and its cell by their addresses in the thread's process
abbrev pub begins : Layout' → ℕ → Call → Whole
begins l t c = begun_at t (address_in l t (head_place t)) (address_in l t (entry_place l (mutex_of c)))
    (address_in l t (cell_place l (mutex_of c))) c

-- whoever holds as many mutexes as a thread may hold may not take another
abbrev pub whole_started : Layout' → ℕ → ℕ → Call → Result Whole Reply
whole_started l t held c = if acquires (operation_of c) && nat_le held_limit held then Err XHELD else Ok (begins l t c)

-- a lock that takes its mutex again: its entry is pending
abbrev pub retaking : ℕ → ℕ → ℕ → ℕ → Whole
retaking t h e cell = whole_at t operation.Lock h e cell (AtCell (row.Lock lock.Load))

-- ---- the access of each phase

-- where a head has its pending entry
abbrev pub pending_place : ℕ → ℕ
pending_place h = address_sum h 2

abbrev pub phase_access : Whole → Phase → Access
phase_access p (Announcing r) = access.Store (pending_place p.head) p.entry
phase_access p (AtCell r) = row_access p.thread p.cell r
phase_access p (Linking l x) = link_access_of l
phase_access p (Unlinking u d) = unlink_access_of u
phase_access p (Clearing x) = access.Store (pending_place p.head) 0
phase_access p (Ended x) = access.Load p.cell

abbrev pub whole_access : Whole → Access
whole_access p = phase_access p p.phase

-- ---- where each answer leads

-- a call whose entry is pending goes on at the cell; one that is to release the mutex first takes the entry out of the
-- list
abbrev pub announced : Whole → Row → Phase
announced p (row.Unlock (Release d)) = Unlinking (unlink_started p.head p.entry) d
announced p r = AtCell r

-- a call that is finished with the cell: a mutex that was taken is put on the list, and an entry that is pending is
-- cleared
abbrev pub leaving : Whole → Operation → Reply → Phase
leaving p op EFAULT = Ended EFAULT
leaving p operation.Lock OK = Linking (link_started p.head p.entry) OK
leaving p operation.Lock EOWNERDEAD = Linking (link_started p.head p.entry) EOWNERDEAD
leaving p operation.Lock x = Clearing x
leaving p operation.TryLock OK = Linking (link_started p.head p.entry) OK
leaving p operation.TryLock EOWNERDEAD = Linking (link_started p.head p.entry) EOWNERDEAD
leaving p operation.TryLock x = Clearing x
leaving p operation.Unlock OK = Clearing OK
leaving p op x = Ended x

-- from the cell
abbrev pub after_cell : Whole → Row → Phase
after_cell p (row.Ended x) = leaving p p.operation x
after_cell p (row.Unlock (Release d)) = Announcing (row.Unlock (Release d))
after_cell p r = AtCell r

abbrev pub from_cell : Whole → Led → Onward
from_cell p l = record { phase = after_cell p l.row; point = l.point }

-- from a link, and from an unlink
abbrev pub linked_at : Reply → LinkStanding → LinkRow → Phase
linked_at x l (link.Ended OK) = Clearing x
linked_at x l (link.Ended y) = Ended EFAULT
linked_at x l r = Linking l x

abbrev pub linked : Reply → LinkStanding → Phase
linked x l = linked_at x l l.row

abbrev pub unlinked_at : UnlinkStanding → UnlinkRow → Bool → Phase
unlinked_at u (unlink.Ended OK) d = AtCell (row.Unlock (Release d))
unlinked_at u (unlink.Ended y) d = Ended EFAULT
unlinked_at u r d = Unlinking u d

abbrev pub unlinked : UnlinkStanding → Bool → Phase
unlinked u d = unlinked_at u u.row d

-- from a store
abbrev pub once_stored : Phase → Answer → Onward
once_stored f Stored = onward f
once_stored f a = faulted

abbrev pub phase_led : Whole → Phase → Answer → Onward
phase_led p (Announcing r) a = once_stored (announced p r) a
phase_led p (AtCell r) a = from_cell p (resume_of p.thread r a)
phase_led p (Linking l x) a = onward (linked x (link_moved l a))
phase_led p (Unlinking u d) a = onward (unlinked (unlink_moved u a) d)
phase_led p (Clearing x) a = once_stored (Ended x) a
phase_led p (Ended x) a = onward (Ended x)

abbrev pub whole_led : Whole → Answer → Onward
whole_led p a = phase_led p p.phase a

abbrev pub whole_moved : Whole → Onward → Whole
whole_moved p o = record p { phase = o.phase }

-- ---- a lock whose time limit comes while it sleeps

-- a lock that sleeps: it is at its sleep, or where it goes on when it is woken
abbrev pub may_expire : Phase → Bool
may_expire (AtCell (row.Lock lock.Load)) = true
may_expire (AtCell (row.Lock (lock.Sleep seen))) = true
may_expire f = false

-- out of time: the mutex was never its own, and its entry, which is pending, is to be cleared
abbrev pub timed_out : Whole → Whole
timed_out p = record p { phase = Clearing ETIMEDOUT }

abbrev pub expired : Whole → Option Whole
expired p = if may_expire p.phase then Some (timed_out p) else None

-- ---- how far an answer brought the call

abbrev pub whole_point : Whole → Option Reply → Option Point
whole_point p None = None
whole_point p (Some x) = Some (record { thread = p.thread; at = p.cell; operation = p.operation; reply = x })

abbrev pub progress_in : Option Point → Phase → Progress
progress_in point (Ended x) = Returns x point
progress_in point f = Goes point

abbrev pub whole_progress : Whole → Onward → Progress
whole_progress p o = progress_in (whole_point p o.point) o.phase
