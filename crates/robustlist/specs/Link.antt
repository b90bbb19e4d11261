-- An entry is put in front of a list, access by access (robust-futex-ABI; an entry's words are read by the kernel at
-- any time, so the head's word comes last).
--
-- | is at         | access                                                      | then
-- | LoadFirst     | load the head's first word                                  | StoreNext, with what it was: the first entry, or the head
-- | StoreNext     | store the entry's next word: the first entry, or the head   | StorePrevious
-- | StorePrevious | store the entry's previous word: the head                   | StoreBehind; in an empty list StoreFirst
-- | StoreBehind   | store the first entry's previous word: the entry            | StoreFirst
-- | StoreFirst    | store the head's first word: the entry                      | returns OK
--
-- Anything that isn't an answer of the access counts as a fault: the link returns EFAULT.
use Rattle.std.specs.Prelude.{ℕ, ◌==◌, None, if◌then◌else◌}
use Rattle.lockword.specs.declared.reply.Reply.TheVariants.{OK, EFAULT}
use Rattle.stepprograms.specs.declared.access.Access.{Access}
use Rattle.stepprograms.specs.declared.access.Access.TheVariants.{Load, Store}
use Rattle.stepprograms.specs.declared.access.Answer.{Answer}
use Rattle.stepprograms.specs.declared.access.Answer.TheVariants.{Value, Stored}
use Rattle.stepprograms.specs.declared.program.Progress.{Progress}
use Rattle.stepprograms.specs.declared.program.Progress.TheVariants.{Goes, Returns}
use Rattle.memorymap.specs.Chains.{previous_place}
use Rattle.robustlist.specs.declared.link.LinkRow.{LinkRow}
use Rattle.robustlist.specs.declared.link.LinkRow.TheVariants.{LoadFirst, StoreNext, StorePrevious}
use Rattle.robustlist.specs.declared.link.LinkRow.TheVariants.{StoreBehind, StoreFirst, Ended}
use Rattle.robustlist.specs.Standings.{LinkStanding}

-- (after its return it makes none: any will do)
abbrev pub link_access : ℕ → ℕ → LinkRow → Access
link_access h e LoadFirst = Load h
link_access h e (StoreNext f) = Store e f
link_access h e (StorePrevious f) = Store (previous_place e) h
link_access h e (StoreBehind f) = Store (previous_place f) e
link_access h e StoreFirst = Store h e
link_access h e (Ended x) = Load h

-- a store is answered that it is made
abbrev pub link_stored : Answer → LinkRow → LinkRow
link_stored Stored r = r
link_stored a r = Ended EFAULT

-- in an empty list no entry was first
abbrev pub link_after_both : ℕ → ℕ → LinkRow
link_after_both h f = if f == h then StoreFirst else StoreBehind f

abbrev pub link_resume : ℕ → LinkRow → Answer → LinkRow
link_resume h LoadFirst (Value f) = StoreNext f
link_resume h LoadFirst a = Ended EFAULT
link_resume h (StoreNext f) a = link_stored a (StorePrevious f)
link_resume h (StorePrevious f) a = link_stored a (link_after_both h f)
link_resume h (StoreBehind f) a = link_stored a StoreFirst
link_resume h StoreFirst a = link_stored a (Ended OK)
link_resume h (Ended x) a = Ended x

-- it hasn't returned
abbrev pub LinkGoes : LinkRow → Type 0
LinkGoes (Ended x) = ⊥
LinkGoes r = Unit {0}

abbrev pub link_progress : LinkRow → Progress
link_progress (Ended x) = Returns x None
link_progress r = Goes None

abbrev pub link_at : ℕ → ℕ → LinkRow → LinkStanding
link_at h e r = record { head = h; entry = e; row = r }

abbrev pub link_started : ℕ → ℕ → LinkStanding
link_started h e = link_at h e LoadFirst

abbrev pub link_access_of : LinkStanding → Access
link_access_of l = link_access l.head l.entry l.row

abbrev pub link_moved : LinkStanding → Answer → LinkStanding
link_moved l a = record l { row = link_resume l.head l.row a }
