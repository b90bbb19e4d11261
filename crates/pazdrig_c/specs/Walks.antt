-- The walk over a dead thread's list as C keeps it.
use Rattle.std.specs.Prelude.{ℕ, ◌≡◌, ◌==◌, Bool, false, not, if◌then◌else◌}
use Rattle.lockword.specs.Cells.{fields_of}
use Rattle.stepprograms.specs.declared.access.Answer.{Answer}
use Rattle.stepprograms.specs.declared.program.Progress.{Progress}
use Rattle.stepprograms.specs.declared.program.Progress.TheVariants.{Goes, Returns}
use Rattle.exitwalk.specs.declared.row.Row.{Row}
use Rattle.exitwalk.specs.declared.row.Row.TheVariants.{Mark}
use Rattle.exitwalk.specs.Standings.{Standing}
use Rattle.exitwalk.specs.Walks.{IsGoing, Knows, access_of, moved, progress_of}
use Rattle.exitwalk.specs.Codings.{row_code}
use Rattle.pazdrig_c.specs.Accesses.{access_code, no_access, with_point}
use Rattle.pazdrig_c.specs.Running.{IsThread, status_of}
use Rattle.pazdrig_c.specs.declared.structs.PzWalk.{PzWalk}
use Rattle.pazdrig_c.specs.declared.structs.PzAccess.{PzAccess}

-- a walk that hasn't ended, and which knows what its row does
abbrev pub IsWalking : Standing → Type 0
IsWalking s = IsThread s.thread × IsGoing s.row × Knows s.thread s.head s.row

-- its numbers
abbrev pub walk_code : Standing → PzWalk
walk_code s = record { head = s.head; row = row_code s.row; thread = s.thread }

abbrev pub told : Progress → Standing → PzAccess
told (Goes point) s = with_point point (access_code (access_of s))
told (Returns x point) s = with_point point no_access

-- the walk goes on as its own program does
pub record WalksOn (s : Standing) (a : Answer) (answered : ℕ) (new : PzWalk) (next : PzAccess) : Type 0 where
  pub status : answered ≡ status_of (progress_of s a)
  pub walk : new ≡ walk_code (moved s a)
  pub access : next ≡ told (progress_of s a) (moved s a)

-- Of a walk that was kept after each access, by a walker that may have died between an access and the record of it:
-- whether the word shows that the exchange was made. While a walk is to mark a word, that word's owner stays the dead
-- thread, which nobody but the walk changes.
abbrev pub is_marked : Standing → ℕ → Bool
is_marked s w = go s.row
  where
    go : Row → Bool
    go (Mark at seen again part) = not ((fields_of w).owner == s.thread)
    go r = false

abbrev pub marked_answer : Standing → ℕ → ℕ
marked_answer s w = if is_marked s w then 1 else 0
