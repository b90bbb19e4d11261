-- An entry is taken out of a list, access by access (robust-futex-ABI; the kernel follows next words alone, so the
-- first store takes it out).
--
-- | is at         | access                                                             | then
-- | LoadNext      | load the entry's next word                                         | LoadPrevious, with the next entry, or the head
-- | LoadPrevious  | load the entry's previous word                                     | StoreNext, with the previous entry, or the head
-- | StoreNext     | store the previous one's next word: the next entry, or the head    | StorePrevious; of the last entry returns OK
-- | StorePrevious | store the next entry's previous word: the previous one             | returns OK
--
-- Anything that isn't an answer of the access counts as a fault: the unlink returns EFAULT.
use Rattle.std.specs.Prelude.{ℕ, ◌==◌, None, if◌then◌else◌}
use Rattle.lockword.specs.declared.reply.Reply.TheVariants.{OK, EFAULT}
use Rattle.stepprograms.specs.declared.access.Access.{Access}
use Rattle.stepprograms.specs.declared.access.Access.TheVariants.{Load, Store}
use Rattle.stepprograms.specs.declared.access.Answer.{Answer}
use Rattle.stepprograms.specs.declared.access.Answer.TheVariants.{Value, Stored}
use Rattle.stepprograms.specs.declared.program.Progress.{Progress}
use Rattle.stepprograms.specs.declared.program.Progress.TheVariants.{Goes, Returns}
use Rattle.memorymap.specs.Chains.{previous_place}
use Rattle.robustlist.specs.declared.unlink.UnlinkRow.{UnlinkRow}
use Rattle.robustlist.specs.declared.unlink.UnlinkRow.TheVariants.{LoadNext, LoadPrevious}
use Rattle.robustlist.specs.declared.unlink.UnlinkRow.TheVariants.{StoreNext, StorePrevious, Ended}
use Rattle.robustlist.specs.Standings.{UnlinkStanding}

-- (after its return it makes none: any will do)
abbrev pub unlink_access : ℕ → ℕ → UnlinkRow → Access
unlink_access h e LoadNext = Load e
unlink_access h e (LoadPrevious n) = Load (previous_place e)
unlink_access h e (StoreNext n p) = Store p n
unlink_access h e (StorePrevious n p) = Store (previous_place n) p
unlink_access h e (Ended x) = Load h

-- a store is answered that it is made
abbrev pub unlink_stored : Answer → UnlinkRow → UnlinkRow
unlink_stored Stored r = r
unlink_stored a r = Ended EFAULT

-- after the last entry comes the head, which has no previous word
abbrev pub unlink_after_next : ℕ → ℕ → ℕ → UnlinkRow
unlink_after_next h n p = if n == h then Ended OK else StorePrevious n p

abbrev pub unlink_resume : ℕ → UnlinkRow → Answer → UnlinkRow
unlink_resume h LoadNext (Value n) = LoadPrevious n
unlink_resume h LoadNext a = Ended EFAULT
unlink_resume h (LoadPrevious n) (Value p) = StoreNext n p
unlink_resume h (LoadPrevious n) a = Ended EFAULT
unlink_resume h (StoreNext n p) a = unlink_stored a (unlink_after_next h n p)
unlink_resume h (StorePrevious n p) a = unlink_stored a (Ended OK)
unlink_resume h (Ended x) a = Ended x

-- it hasn't returned
abbrev pub UnlinkGoes : UnlinkRow → Type 0
UnlinkGoes (Ended x) = ⊥
UnlinkGoes r = Unit {0}

abbrev pub unlink_progress : UnlinkRow → Progress
unlink_progress (Ended x) = Returns x None
unlink_progress r = Goes None

abbrev pub unlink_at : ℕ → ℕ → UnlinkRow → UnlinkStanding
unlink_at h e r = record { head = h; entry = e; row = r }

abbrev pub unlink_started : ℕ → ℕ → UnlinkStanding
unlink_started h e = unlink_at h e LoadNext

abbrev pub unlink_access_of : UnlinkStanding → Access
unlink_access_of u = unlink_access u.head u.entry u.row

abbrev pub unlink_moved : UnlinkStanding → Answer → UnlinkStanding
unlink_moved u a = record u { row = unlink_resume u.head u.row a }
