-- Declaring a mutex consistent, access by access (pthread_mutex_consistent).
--
-- | is at     | access                          | then
-- | Load      | load the cell                   | another's: EPERM. Own, OWNER_DIED not set: EINVAL. Else Declare
-- | Declare   | clear OWNER_DIED in the cell    | OK
use Rattle.std.specs.Prelude.{ℕ, ◌==◌, not, if◌then◌else◌}
use Rattle.lockword.specs.Cells.{Fields, fields_of}
use Rattle.lockword.specs.declared.reply.Reply.TheVariants.{OK, EPERM, EINVAL}
use Rattle.stepprograms.specs.declared.access.Access.{Access}
use Rattle.stepprograms.specs.declared.access.Access.TheVariants as access
use Rattle.stepprograms.specs.declared.access.Answer.{Answer}
use Rattle.stepprograms.specs.declared.access.Answer.TheVariants.{Value}
use Rattle.mutex.specs.declared.consistent.ConsistentRow.{ConsistentRow}
use Rattle.mutex.specs.declared.consistent.ConsistentRow.TheVariants.{Load, Declare}
use Rattle.mutex.specs.declared.row.Row.TheVariants.{Consistent}
use Rattle.mutex.specs.declared.row.Led.{Led}
use Rattle.mutex.specs.Rows.{goes, ends, faults}

-- every bit but OWNER_DIED
abbrev pub all_but_owner_died : ℕ
all_but_owner_died = 0xffff_ffff_bfff_ffff

abbrev pub consistent_access : ℕ → ConsistentRow → Access
consistent_access cell Load = access.Load cell
consistent_access cell Declare = access.FetchAnd cell all_but_owner_died

abbrev pub consistent_sees : ℕ → Fields → Led
consistent_sees t c =
    if not (c.owner == t) then ends EPERM else if c.died then goes (Consistent Declare) else ends EINVAL

abbrev pub consistent_resume : ℕ → ConsistentRow → Answer → Led
consistent_resume t Load (Value w) = consistent_sees t (fields_of w)
consistent_resume t Declare (Value w) = ends OK
consistent_resume t r a = faults
