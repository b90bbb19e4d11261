-- Where a call stands, as plain numbers: for whoever keeps it outside Rattle.
--
-- | kind     | is at                                | carries
-- | 0        | it has returned                      | its reply
-- | 1        | Clearing                             | its reply
-- | 2 to 6   | Linking: LoadFirst, StoreNext, StorePrevious, StoreBehind, StoreFirst | its reply; x: the first entry (3 to 5)
-- | 7 to 10  | Unlinking: LoadNext, LoadPrevious, StoreNext, StorePrevious | flag: OWNER_DIED as noted; x: the next entry (8 to 10); y: the previous one (9, 10)
-- | 16 to 20 | Lock: Load, Take, SetWaiters, Sleep, WakeAll | x: the word seen (17 to 19)
-- | 21, 22   | TryLock: Load, Take                  | x: the word seen, y: exchanges that failed (22)
-- | 23 to 26 | Unlock: Load, Release, Wake, Trim    | flag: OWNER_DIED as noted (24), whether all are woken (25)
-- | 27, 28   | Consistent: Load, Declare            |
-- | 48 to 60 | Announcing, with the row of 32 less next | as that row
--
-- What a kind doesn't carry is 0. A number is the one of errno(3), or the project's own, for replies.
--
-- *Where a call or a walk stands, as numbers.* A table at the head of each file: a number for each row, and what that
-- row carries. A phase that links or unlinks does so at the call's own head and entry (`LiesAt`).
use Rattle.std.specs.Prelude.{ℕ, ◌≡◌, ◌+◌, Bool, true, false}
use Rattle.lockword.specs.Cells.{word_of}
use Rattle.lockword.specs.Replies.{number_of}
use Rattle.lockword.specs.declared.reply.Reply.{Reply}
use Rattle.robustlist.specs.declared.link.LinkRow.{LinkRow}
use Rattle.robustlist.specs.declared.link.LinkRow.TheVariants as link
use Rattle.robustlist.specs.declared.unlink.UnlinkRow.{UnlinkRow}
use Rattle.robustlist.specs.declared.unlink.UnlinkRow.TheVariants as unlink
use Rattle.mutex.specs.declared.lock.LockRow.TheVariants as lock
use Rattle.mutex.specs.declared.try_lock.TryLockRow.TheVariants as try
use Rattle.mutex.specs.declared.unlock.UnlockRow.TheVariants as release
use Rattle.mutex.specs.declared.consistent.ConsistentRow.TheVariants as consistent
use Rattle.mutex.specs.declared.row.Row.{Row}
use Rattle.mutex.specs.declared.row.Row.TheVariants.{Lock, TryLock, Unlock, Consistent}
use Rattle.mutex.specs.declared.row.Row.TheVariants as row
use Rattle.mutex.specs.declared.phase.Phase.{Phase}
use Rattle.mutex.specs.declared.phase.Phase.TheVariants.{Announcing, AtCell, Linking, Unlinking, Clearing, Ended}
use Rattle.mutex.specs.declared.coding.CodedPhase.{CodedPhase}

abbrev pub flag_of : Bool → ℕ
flag_of true = 1
flag_of false = 0

abbrev pub plain : ℕ → ℕ → ℕ → ℕ → CodedPhase
plain kind flag x y = record { x = x; y = y; reply = 0; kind = kind; flag = flag }

abbrev pub replying : ℕ → Reply → ℕ → CodedPhase
replying kind r x = record { x = x; y = 0; reply = number_of r; kind = kind; flag = 0 }

abbrev pub row_code : Row → CodedPhase
row_code (Lock lock.Load) = plain 16 0 0 0
row_code (Lock (lock.Take seen)) = plain 17 0 (word_of seen) 0
row_code (Lock (lock.SetWaiters seen)) = plain 18 0 (word_of seen) 0
row_code (Lock (lock.Sleep seen)) = plain 19 0 (word_of seen) 0
row_code (Lock lock.WakeAll) = plain 20 0 0 0
row_code (TryLock try.Load) = plain 21 0 0 0
row_code (TryLock (try.Take seen failed)) = plain 22 0 (word_of seen) failed
row_code (Unlock release.Load) = plain 23 0 0 0
row_code (Unlock (release.Release died)) = plain 24 (flag_of died) 0 0
row_code (Unlock (release.Wake all)) = plain 25 (flag_of all) 0 0
row_code (Unlock release.Trim) = plain 26 0 0 0
row_code (Consistent consistent.Load) = plain 27 0 0 0
row_code (Consistent consistent.Declare) = plain 28 0 0 0
row_code (row.Ended r) = replying 0 r 0

abbrev pub link_code : Reply → LinkRow → CodedPhase
link_code r link.LoadFirst = replying 2 r 0
link_code r (link.StoreNext first) = replying 3 r first
link_code r (link.StorePrevious first) = replying 4 r first
link_code r (link.StoreBehind first) = replying 5 r first
link_code r link.StoreFirst = replying 6 r 0
link_code r (link.Ended x) = replying 0 x 0

abbrev pub unlink_code : Bool → UnlinkRow → CodedPhase
unlink_code d unlink.LoadNext = plain 7 (flag_of d) 0 0
unlink_code d (unlink.LoadPrevious next) = plain 8 (flag_of d) next 0
unlink_code d (unlink.StoreNext next previous) = plain 9 (flag_of d) next previous
unlink_code d (unlink.StorePrevious next previous) = plain 10 (flag_of d) next previous
unlink_code d (unlink.Ended x) = replying 0 x 0

-- a row that comes once the entry is pending
abbrev pub announced_code : CodedPhase → CodedPhase
announced_code c = record c { kind = c.kind + 32 }

abbrev pub phase_code : Phase → CodedPhase
phase_code (Announcing r) = announced_code (row_code r)
phase_code (AtCell r) = row_code r
phase_code (Linking l r) = link_code r l.row
phase_code (Unlinking u d) = unlink_code d u.row
phase_code (Clearing r) = replying 1 r 0
phase_code (Ended r) = replying 0 r 0

-- a call's link and unlink are of its own entry, into its thread's own list
abbrev pub LiesAt : ℕ → ℕ → Phase → Type 0
LiesAt h e (Linking l r) = (l.head ≡ h) × (l.entry ≡ e)
LiesAt h e (Unlinking u d) = (u.head ≡ h) × (u.entry ≡ e)
LiesAt h e f = Unit {0}
