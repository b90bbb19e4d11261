-- Names of files, part by part.
--
-- *A file's directory and its own name.* The parts of a name are between slashes. The last is the file's own name, those
-- before it lead to its directory. An empty part and `.` lead nowhere else, so a name is the same with more or fewer of
-- them. `..` is a part like others: where it leads depends on the directories.
use Rattle.std.specs.Prelude.{ℕ, ◌≡◌, ◌<◌, ◌==◌, ◌&&◌, not, Bool, true, false, List, [], ◌∷◌, length}
use Rattle.std.specs.Prelude.{Option, Some, None, if◌then◌else◌}
use Rattle.std.specs.Borrow.{Bor}
use Rattle.std.specs.List.{slice_split}
use Rattle.std.specs.Str.{bytes_eq}
use Rattle.judge_report.specs.declared.paths.Step.{Step}
use Rattle.judge_report.specs.declared.paths.Step.TheVariants.{Directory, Own}

abbrev pub parts_of : List ℕ → List (List ℕ)
parts_of name = slice_split (λ b. b == 47) name

-- a part leads to another directory
abbrev pub leads : List ℕ → Bool
leads [] = false
leads (b ∷ []) = not (b == 46)
leads part = true

abbrev pub with_part : List ℕ → List (List ℕ) → List (List ℕ)
with_part part more = if leads part then part ∷ more else more

-- of some parts, those that lead to the directory; and the last one
abbrev pub directory_in : List (List ℕ) → List (List ℕ)
directory_in [] = []
directory_in (part ∷ []) = []
directory_in (part ∷ next ∷ more) = with_part part (directory_in (next ∷ more))

abbrev pub own_in : List (List ℕ) → List ℕ
own_in [] = []
own_in (part ∷ []) = part
own_in (part ∷ next ∷ more) = own_in (next ∷ more)

abbrev pub directory_of : List ℕ → List (List ℕ)
directory_of name = directory_in (parts_of name)

abbrev pub own_name : List ℕ → List ℕ
own_name name = own_in (parts_of name)

-- the directory is looked for from the root
abbrev pub is_from_root : List ℕ → Bool
is_from_root [] = false
is_from_root (b ∷ bs) = b == 47

-- ---- two names

abbrev pub are_same : List (List ℕ) → List (List ℕ) → Bool
are_same [] [] = true
are_same (x ∷ xs) (y ∷ ys) = bytes_eq x y && are_same xs ys
are_same xs ys = false

abbrev pub both_or_none : Bool → Bool → Bool
both_or_none true b = b
both_or_none false b = not b

-- both name files in one directory
abbrev pub in_one_directory : List ℕ → List ℕ → Bool
in_one_directory a b = both_or_none (is_from_root a) (is_from_root b) && are_same (directory_of a) (directory_of b)

abbrev pub name_one_file : List ℕ → List ℕ → Bool
name_one_file a b = in_one_directory a b && bytes_eq (own_name a) (own_name b)

-- ---- a step over a name

-- the name's next part that leads to another directory, and what follows; or there is none, but the own name
abbrev pub IsNext : List ℕ → Step → Type 0
IsNext name (Directory part rest) = (directory_of name ≡ part.now ∷ directory_of rest.now) × (own_name name ≡ own_name rest.now)
    × (length rest.now < length name)
IsNext name (Own own) = (directory_of name ≡ []) × (own_name name ≡ own.now)

-- these are the own names of two files, which are in one directory; or they aren't
abbrev pub AreOwn : Bool → List ℕ → List ℕ → Option (Bor (List ℕ) × Bor (List ℕ)) → Type 0
AreOwn together a b None = together ≡ false
AreOwn together a b (Some x) = (together ≡ true) × (own_name a ≡ x.0.now) × (own_name b ≡ x.1.now)
