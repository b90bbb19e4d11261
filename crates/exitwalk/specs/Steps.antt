-- One access of a walk, where others write too.
use Rattle.std.specs.Prelude.{ℕ, ◌≡◌, ◌≢◌, ◌⊎◌, ◌≤◌, ◌<◌, Bool, true, false, Option, Some, None, List, [], ◌∷◌}
use Rattle.std.proofs.Props.{props}
use Rattle.lockword.specs.Cells.{fields_of, word_of, marked, waiting}
use Rattle.stepprograms.specs.declared.access.Access.{Access}
use Rattle.stepprograms.specs.declared.access.Access.TheVariants.{Exchange}
use Rattle.stepprograms.specs.declared.access.Answer.{Answer}
use Rattle.stepprograms.specs.declared.access.Answer.TheVariants.{Value, Exchanged, Changed}
use Rattle.posixmutex.specs.declared.point.Point.{Point}
use Rattle.stepprograms.specs.Accesses.{address_of, changed, answer_at}
use Rattle.posixmutex.specs.Objects.{Run, object_of}
use Rattle.exitwalk.specs.declared.row.Part.{Part}
use Rattle.exitwalk.specs.declared.row.Row.{Row}
use Rattle.exitwalk.specs.declared.row.Part.TheVariants as part
use Rattle.exitwalk.specs.declared.row.Row.TheVariants.{LoadFirst, LoadOffset, LoadPending}
use Rattle.exitwalk.specs.declared.row.Row.TheVariants.{LoadNext, LoadWord, Mark, WakeOne, Ended}
use Rattle.exitwalk.specs.Words.{owner_in, has_waiters, died_word}
use Rattle.exitwalk.specs.Walks.{row_access, row_after, point_of, IsCounted, IsGoing, Knows}
use Rattle.exitwalk.specs.Ranks.{accesses_left, left_alone}

abbrev pub points : Option Point → List Point
points None = []
points (Some p) = p ∷ []

-- a word of thread t's says that its owner died, and nothing else has changed in it
pub record SaysDied (t w w' : ℕ) : Type 0 where
  pub owner : owner_in w ≡ t
  pub word : w' ≡ died_word w
  pub cell : fields_of w' ≡ marked (fields_of w)

-- one access at row r, which meets the word w and leaves w', is the owner's death as the mutex sees it, or leaves the
-- word alone
pub record Right (t : ℕ) (r : Row) (a : Answer) (w w' : ℕ) : Type 0 where
  pub runs : Run (object_of (fields_of w)) (points (point_of t r a)) (object_of (fields_of w'))
  pub changes : (w' ≡ w) ⊎ SaysDied t w w'

-- the answer is true of the word met
abbrev pub IsTrueOf : Access → ℕ → Answer → Type 0
IsTrueOf x w (Value v) = v ≡ w
IsTrueOf (Exchange at old new) w Exchanged = w ≡ old
IsTrueOf (Exchange at old new) w (Changed v) = (v ≡ w) × (w ≢ old)
IsTrueOf x w a = Unit {0}

abbrev pub waiting_word : ℕ → ℕ
waiting_word v = word_of (waiting (fields_of v))

-- a word that was seen as such has stayed so, but that WAITERS may have been set since; where an exchange has failed
-- already, it was set before
pub record OnlyWaits (seen : ℕ) (again : Bool) (w : ℕ) : Type 0 where
  pub stays : (w ≡ seen) ⊎ (w ≡ waiting_word seen)
  pub set : again ≡ true → has_waiters seen ≡ true

-- Whatever word an access meets, it is right.
-- Whatever the answer is, what the next row knows is so, and fewer accesses are left, of 10,247 at most.
-- Where nobody else writes, and the answer is true, fewer are left of 8,198 at most.
-- Where others only set WAITERS in the dead thread's words, an exchange fails once at most, and the next one is for the
-- word found.
pub record StepsAreRight : Type 0 where
  pub right : (t h w : ℕ) (r : Row) → 1 ≤ t → IsGoing r → Knows t h r
      → Right t r (answer_at (row_access h r) w) w (changed (row_access h r) w)
  pub knows : (t h : ℕ) (r : Row) (a : Answer) → Knows t h r → Knows t h (row_after t h r a)
  pub falls : (t h : ℕ) (r : Row) (a : Answer) → IsGoing r → Knows t h r
      → accesses_left (row_after t h r a) < accesses_left r
  pub few : (t h : ℕ) (r : Row) (words : ℕ → ℕ) → Knows t h r → (accesses_left r ≤ 10247) × (left_alone words r ≤ 8198)
  pub alone : (t h : ℕ) (r : Row) (a : Answer) (words words' : ℕ → ℕ) → IsGoing r → Knows t h r
      → IsTrueOf (row_access h r) (words (address_of (row_access h r))) a
      → words' (address_of (row_access h r)) ≡ changed (row_access h r) (words (address_of (row_access h r)))
      → left_alone words' (row_after t h r a) < left_alone words r
  pub second : (t h at seen w : ℕ) (again : Bool) (p : Part) → 1 ≤ t → Knows t h (Mark at seen again p)
      → OnlyWaits seen again w → w ≢ seen
      → (again ≡ false) × (row_after t h (Mark at seen again p) (Changed w) ≡ Mark at w true p) × OnlyWaits w true w

-- what a row knows has one proof at most
pub IsCounted-prop : (p : Part) → IsProp (IsCounted p)
IsCounted-prop (part.List r) = Prim.hlevel props
IsCounted-prop part.Pending = Prim.hlevel props

pub Knows-prop : (t h : ℕ) (r : Row) → IsProp (Knows t h r)
Knows-prop t h LoadFirst = Prim.hlevel props
Knows-prop t h (LoadOffset first) = Prim.hlevel props
Knows-prop t h (LoadPending first offset) = Prim.hlevel props
Knows-prop t h (LoadNext r) = Prim.hlevel props
Knows-prop t h (LoadWord at p) = IsCounted-prop p
Knows-prop t h (Mark at seen again (part.List r)) = Prim.hlevel props
Knows-prop t h (Mark at seen again part.Pending) = Prim.hlevel props
Knows-prop t h (WakeOne at p) = IsCounted-prop p
Knows-prop t h Ended = Prim.hlevel props
