-- Where a walk stands, as plain numbers: for whoever keeps it where the walker's own death can't reach.
--
-- | kind | is at       | carries
-- | 0    | it has ended |
-- | 1    | LoadFirst   |
-- | 2    | LoadOffset  | entry: the first one
-- | 3    | LoadPending | entry: the first one; offset
-- | 4    | LoadNext    | entry, offset, pending, loaded: what is left of the list
-- | 5    | LoadWord    | at; whose word it is
-- | 6    | Mark        | at, seen, again; whose word it is
-- | 7    | WakeOne     | at; whose word it is
--
-- Whose word it is: of the pending entry's `of_pending` is 1; of an entry of the list it is 0, and entry, offset,
-- pending and loaded are what is left of the list. What a kind doesn't carry is 0.
use Rattle.std.specs.Prelude.{ℕ, Bool, false, if◌then◌else◌}
use Rattle.exitwalk.specs.declared.row.Rest.{Rest}
use Rattle.exitwalk.specs.declared.row.Part.{Part}
use Rattle.exitwalk.specs.declared.row.Part.TheVariants.{List, Pending}
use Rattle.exitwalk.specs.declared.row.Row.{Row}
use Rattle.exitwalk.specs.declared.row.Row.TheVariants.{LoadFirst, LoadOffset, LoadPending}
use Rattle.exitwalk.specs.declared.row.Row.TheVariants.{LoadNext, LoadWord, Mark, WakeOne, Ended}
use Rattle.exitwalk.specs.declared.coding.CodedRow.{CodedRow}

abbrev pub rest_code : ℕ → Rest → CodedRow
rest_code kind r = record {
  at = 0;
  seen = 0;
  entry = r.entry;
  offset = r.offset;
  pending = r.pending;
  loaded = r.loaded;
  kind = kind;
  again = 0;
  of_pending = 0;
}

abbrev pub first_code : ℕ → ℕ → ℕ → CodedRow
first_code kind entry offset = rest_code kind (record { entry = entry; offset = offset; pending = 0; loaded = 0 })

abbrev pub part_code : ℕ → ℕ → ℕ → Bool → Part → CodedRow
part_code kind at seen again (List r) =
    record (rest_code kind r) { at = at; seen = seen; again = if again then 1 else 0 }
part_code kind at seen again Pending =
    record (first_code kind 0 0) { at = at; seen = seen; again = if again then 1 else 0; of_pending = 1 }

abbrev pub row_code : Row → CodedRow
row_code LoadFirst = first_code 1 0 0
row_code (LoadOffset first) = first_code 2 first 0
row_code (LoadPending first offset) = first_code 3 first offset
row_code (LoadNext r) = rest_code 4 r
row_code (LoadWord at part) = part_code 5 at 0 false part
row_code (Mark at seen again part) = part_code 6 at seen again part
row_code (WakeOne at part) = part_code 7 at 0 false part
row_code Ended = first_code 0 0 0
