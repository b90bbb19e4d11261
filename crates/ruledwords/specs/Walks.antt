-- What is left of the kernel's walk over a dead thread's list, wherever the walk stands (robust-futexes;
-- robust-futex-ABI; get_robust_list(2)).
--
-- `w a` is a word that the thread alone wrote, at the address a in its process: its head's, and the links of the
-- mutexes that it owns. `owns k` tells whether it owns mutex k.
--
-- *What is left of a walk.* Wherever the walk over a dead thread's list stands: next words lead over mutexes that the
-- thread owns still, and each mutex that it owns is on that list, or pending, or treated just now. Where an exchange is
-- to mark a word, others can only have set WAITERS in it since it was found (`WasSeen`; `Deaths.antt`). Source:
-- robust-futexes; robust-futex-ABI.
use Rattle.std.specs.Prelude.{ℕ, ◌≡◌, ◌≢◌, ◌<◌, ◌≤◌, ◌+◌, ◌⊎◌, Bool, true, false, Option, Some, None, List, ◌∷◌, length}
use Rattle.std.proofs.Props.{props}
use Rattle.memorymap.specs.Chains.{IsAmong, AreDifferent, Leads, address_sum}
use Rattle.memorymap.specs.Layouts.{Layout', cell_place, cell_offset, address_in}
use Rattle.posixmutex.specs.Objects.{held_limit}
use Rattle.exitwalk.specs.declared.row.Part.{Part}
use Rattle.exitwalk.specs.declared.row.Part.TheVariants as part
use Rattle.exitwalk.specs.declared.row.Rest.{Rest}
use Rattle.exitwalk.specs.declared.row.Row.{Row}
use Rattle.exitwalk.specs.declared.row.Row.TheVariants as row
use Rattle.exitwalk.specs.Walks.{IsGoing}
use Rattle.mutex.specs.WholeLists.{head_in, entry_in}

-- from e next words lead over these entries, of mutexes that the thread owns still, and back to its head; each mutex
-- that it owns is one of them, or the pending one p, or is being treated
pub record Left (l : Layout') (t : ℕ) (owns : ℕ → Bool) (w : ℕ → ℕ) (e p : ℕ) (es : List ℕ) (treated : Option ℕ) : Type
    0 where
  pub leads : Leads w (head_in l t) e es
  pub different : AreDifferent (head_in l t ∷ es)
  pub entries : (x : ℕ) → IsAmong x es
      → (m : ℕ) × (m < l.mutexes) × (x ≡ entry_in l t m) × (owns m ≡ true) × (treated ≢ Some m)
  pub all : (m : ℕ) → m < l.mutexes → owns m ≡ true
      → IsAmong (entry_in l t m) es ⊎ ((p ≡ entry_in l t m) ⊎ (treated ≡ Some m))
  pub pending : (p ≡ 0) ⊎ (m : ℕ) × (m < l.mutexes) × (p ≡ entry_in l t m)

-- the rest of a walk, after this many entries
abbrev pub LeftOf : Layout' → ℕ → (ℕ → Bool) → (ℕ → ℕ) → Rest → Option ℕ → Type 0
LeftOf l t owns w r treated = (es : List ℕ) × Left l t owns w r.entry r.pending es treated × (r.offset ≡ cell_offset)
    × (length es + r.loaded ≤ held_limit)

-- after the list only the pending mutex is left
abbrev pub LeftIn : Layout' → ℕ → (ℕ → Bool) → (ℕ → ℕ) → Part → Option ℕ → Type 0
LeftIn l t owns w (part.List r) treated = LeftOf l t owns w r treated
LeftIn l t owns w part.Pending treated = (m : ℕ) → m < l.mutexes → owns m ≡ true → treated ≡ Some m

-- the head's words, as the walk will find them
abbrev pub LeftFrom : Layout' → ℕ → (ℕ → Bool) → (ℕ → ℕ) → ℕ → Type 0
LeftFrom l t owns w first = (es : List ℕ) × Left l t owns w first (w (address_sum (head_in l t) 2)) es None
    × (w (address_sum (head_in l t) 1) ≡ cell_offset) × (length es ≤ held_limit)

-- a mutex that is treated, by its cell's address
abbrev pub IsTreated : Layout' → ℕ → ℕ → ℕ → Type 0
IsTreated l t at m = (m < l.mutexes) × (at ≡ address_in l t (cell_place l m))

abbrev pub OwnsNothing : Layout' → (ℕ → Bool) → Type 0
OwnsNothing l owns = (m : ℕ) → m < l.mutexes → owns m ≡ false

-- what is left at each row; `seen` says of the word that an exchange expects at a cell's place what it has to
abbrev pub LeftAt : Layout' → ℕ → (ℕ → Bool) → (ℕ → ℕ) → (ℕ → ℕ → Bool → Type 0) → Row → Type 0
LeftAt l t owns w seen row.LoadFirst = LeftFrom l t owns w (w (head_in l t))
LeftAt l t owns w seen (row.LoadOffset first) = LeftFrom l t owns w first
LeftAt l t owns w seen (row.LoadPending first offset) = LeftFrom l t owns w first × (offset ≡ cell_offset)
LeftAt l t owns w seen (row.LoadNext r) = LeftOf l t owns w r None
LeftAt l t owns w seen (row.LoadWord at rest) = (m : ℕ) × IsTreated l t at m × LeftIn l t owns w rest (Some m)
LeftAt l t owns w seen (row.Mark at v again rest) =
    (m : ℕ) × IsTreated l t at m × LeftIn l t owns w rest (Some m) × seen (cell_place l m) v again
LeftAt l t owns w seen (row.WakeOne at rest) = (m : ℕ) × IsTreated l t at m × LeftIn l t owns w rest None
LeftAt l t owns w seen row.Ended = OwnsNothing l owns

-- that a walk goes on has one proof at most
pub going_prop : (r : Row) → IsProp (IsGoing r)
going_prop row.LoadFirst = Prim.hlevel props
going_prop (row.LoadOffset first) = Prim.hlevel props
going_prop (row.LoadPending first offset) = Prim.hlevel props
going_prop (row.LoadNext r) = Prim.hlevel props
going_prop (row.LoadWord a rest) = Prim.hlevel props
going_prop (row.Mark a v tried rest) = Prim.hlevel props
going_prop (row.WakeOne a rest) = Prim.hlevel props
going_prop row.Ended = Prim.hlevel props
