-- A line's mark is in its own thread's lane.
use Rattle.std.proofs.Common.{◌≡◌, ℕ, zero, suc, ◌+◌, ◌-◌, ◌*◌, ◌<◌, ◌≤◌, ◌==◌, Bool, true, false, Option, Some, None, List, [], ◌∷◌, ◌++◌, refl, sym, ap, ◌∙◌, append_assoc, append-nil, arith, cond, inl, inr, min, max, not}
use Rattle.std.specs.Prelude.{if◌then◌else◌, nat_lt, nat_le, codes, ◌≢◌, ◌&&◌}
use Rattle.std.specs.List.{repeat}
use Rattle.std.proofs.lemmas.Bool.{cases_lt}
use Rattle.std.proofs.lemmas.Bool.Decides.{nat_tests}
use Rattle.std.proofs.Math.Nat.{suc-mul}
use Rattle.facts.specs.Facts.{thread_of}
use Rattle.picture.specs.declared.bands.Extent.{Extent}
use Rattle.picture.specs.declared.lane.Lane.{Lane}
use Rattle.picture.specs.declared.lane.Lane.TheVariants.{Idle, Calling, Asleep, Dying, Reaped}
use Rattle.picture.specs.declared.rows.Part.{Part}
use Rattle.picture.specs.declared.rows.Part.TheVariants as part
use Rattle.picture.specs.Lanes.{stays}
use Rattle.picture.specs.Laws.{MarksStandInTheirLanes, columns}
use Rattle.picture.specs.Layouts.{gap, is_wide, plain_width, width}
use Rattle.picture.specs.Pieces.{each}
use Rattle.picture.specs.Rows.{beside, cell, cell_at, from_at, in_arrow, is_covered, is_from_right, mark, origin, part_of, part_text, reach, sign, stays_so, words_at}
use Rattle.picture.specs.Scenes.{lane_at}
use Rattle.picture.specs.Signs.{dash, to_right}

-- ---- columns

pub columns-append : (a b : List ℕ) → columns (a ++ b) ≡ columns a + columns b
columns-append [] b = omega arith
columns-append (x ∷ a) b = let rest = columns-append a b in omega (arith, rest)

pub columns-repeat : (n : ℕ) (a : List ℕ) → columns a ≡ 1 → columns (repeat n a) ≡ n
columns-repeat zero a one = refl
columns-repeat (suc n) a one =
    let both = columns-append a (repeat n a) in
    let rest = columns-repeat n a one in
    omega (arith, both, rest, one)

pub columns-stays : (l : Lane) → columns (stays l) ≡ 1
columns-stays Idle = refl
columns-stays (Calling op) = refl
columns-stays (Asleep op) = refl
columns-stays Dying = refl
columns-stays Reaped = refl

some_either : (b : Bool) (m n : ℕ) → 1 ≤ m → 1 ≤ (if b then max m n else m)
some_either true m n some = omega (arith, some)
some_either false m n some = some

pub width_some : (x : Extent) → 1 ≤ width x
width_some x =
    let plain : 1 ≤ plain_width x.threads = grind (arith, nat_tests) in
    some_either (is_wide x) (plain_width x.threads) _ plain

-- ---- what is in the lanes before the line's own

-- a sign, and blanks or dashes up to the next lane
pub sign_wide : (x : Extent) (n : ℕ) (s a : List ℕ) → columns s ≡ 1 → columns a ≡ 1 → n ≡ width x - 1 → columns (s ++ repeat n a) ≡ width x
sign_wide x n s a one single is =
    let both = columns-append s (repeat n a) in
    let rest = columns-repeat n a single in
    let some = width_some x in
    omega (arith, both, rest, one, is, some)

pub gap_before : (x : Extent) (u : ℕ) → u < x.threads → gap x u ≡ width x - 1
gap_before x u lt = grind (arith, nat_tests)

pub stays_wide : (x : Extent) (u : ℕ) (l : Lane) → u < x.threads → columns (stays_so x l u) ≡ width x
stays_wide x u l lt = sign_wide x (gap x u) (stays l) (codes " ") (columns-stays l) refl (gap_before x u lt)

middle_false : (a b d : Bool) → (a && b && false && d) ≡ false
middle_false false b d = refl
middle_false true false d = refl
middle_false true true d = refl

beside_before : (x : Extent) (t : ℕ) (from : Option ℕ) (ws : List (List ℕ)) (u : ℕ) → u < t → beside x t from ws u ≡ part.Stays
beside_before x t from ws u lt =
    let behind : nat_lt t u ≡ false = grind (arith, nat_tests) in
    let covered : is_covered x t from ws u ≡ false = rw behind (middle_false (is_wide x) (not (is_from_right t from)) (nat_le (u - t) (reach x ws))) in
    rw covered refl

-- what is beside the line's own lane before it
module _ (x : Extent) (t : ℕ) (s : List ℕ) (ws : List (List ℕ)) (shown : Lane) (u : ℕ) (lt : u < t) (few : t ≤ x.threads) where
  beside_wide : (from : Option ℕ) → columns (part_text x t from s ws shown u (beside x t from ws u)) ≡ width x
  beside_wide from = rw (beside_before x t from ws u lt) (stays_wide x u shown (omega (arith, lt, few)))

  origin_wide : (a : ℕ) → u ≡ a → columns (origin x t (Some a) u) ≡ width x
  origin_wide a is =
      let left : nat_lt t a ≡ false = grind (arith, nat_tests) in
      rw left (sign_wide x (width x - 1) to_right dash refl refl refl)

  arrow_wide : (a : ℕ) (b1 b2 : Bool) → (u == a) ≡ b1 → columns (part_text x t (Some a) s ws shown u (cond b1 part.Origin (cond b2 part.Arrow (beside x t (Some a) ws u)))) ≡ width x
  arrow_wide a true b2 is = let at : u ≡ a = grind (arith, nat_tests) in origin_wide a at
  arrow_wide a false true is = columns-repeat (width x) dash refl
  arrow_wide a false false is = beside_wide (Some a)

  in_arrow_wide : (from : Option ℕ) → columns (part_text x t from s ws shown u (in_arrow from t u (beside x t from ws u))) ≡ width x
  in_arrow_wide None = beside_wide None
  in_arrow_wide (Some a) = arrow_wide a (u == a) (nat_lt (min t a) u && nat_lt u (max t a)) refl

  pub cell_wide : (from : Option ℕ) → columns (cell x t from s ws shown u) ≡ width x
  cell_wide from =
      let other : (u == t) ≡ false = grind (arith, nat_tests) in
      rw other (in_arrow_wide from)

-- ---- all lanes

pub each_wide : (f : ℕ → List ℕ) (w n : ℕ) → ((i : ℕ) → i < n → columns (f i) ≡ w) → columns (each f n) ≡ n * w
each_wide f w zero wide = omega arith
each_wide f w (suc n) wide =
    let so_far = each_wide f w n (λ i lt. wide i (omega (arith, lt))) in
    let one = wide n (omega arith) in
    columns-append (each f n) (f n) ∙ grind (arith, so_far, one, suc-mul n w)

pub each_at : (f : ℕ → List ℕ) (n m : ℕ) → m < n → (rest : List ℕ) × (each f n ≡ each f m ++ (f m ++ rest))
each_at f zero m lt = absurd (omega (arith, lt))
each_at f (suc n) m lt = elim (cases_lt m n) [
  | inl less ↦
      let p = each_at f n m less in
      (p.0 ++ f n, ap (λ l. l ++ f n) p.1 ∙ append_assoc (each f m) (f m ++ p.0) (f n) ∙ ap (λ l. each f m ++ l) (append_assoc (f m) p.0 (f n)))
  | inr le ↦
      let same : n ≡ m = omega (arith, le, lt) in
      ([], ap (λ k. each f k ++ f k) same ∙ ap (λ l. each f m ++ l) (sym (append-nil (f m))))
]

-- ---- the line's own lane

pub own_mark : (x : Extent) (t : ℕ) (from : Option ℕ) (s : List ℕ) (ws : List (List ℕ)) (shown : Lane) (u : ℕ) → u ≡ t → cell x t from s ws shown u ≡ mark x t from s ws
own_mark x t from s ws shown u is =
    let own : (u == t) ≡ true = grind (arith, nat_tests) in
    rw own refl

no_mark_beside : (b : Bool) → cond b part.Covered part.Stays ≢ part.Mark
no_mark_beside true = λ e. cc
no_mark_beside false = λ e. cc

no_mark_in : (from : Option ℕ) (t u : ℕ) (other : Part) → other ≢ part.Mark → in_arrow from t u other ≢ part.Mark
no_mark_in None t u other h = h
no_mark_in (Some a) t u other h = go (u == a) (nat_lt (min t a) u && nat_lt u (max t a))
  where
    go : (b1 b2 : Bool) → cond b1 part.Origin (cond b2 part.Arrow other) ≢ part.Mark
    go true b2 = λ e. cc
    go false true = λ e. cc
    go false false = h

alone_there : (x : Extent) (t : ℕ) (from : Option ℕ) (ws : List (List ℕ)) (u : ℕ) → u ≢ t → part_of x t from ws u ≢ part.Mark
alone_there x t from ws u other =
    let beside_it : (u == t) ≡ false = grind (arith, nat_tests) in
    rw beside_it (no_mark_in from t u (beside x t from ws u) (no_mark_beside (is_covered x t from ws u)))

pub marks : MarksStandInTheirLanes
marks n x s l some few =
    let t = thread_of l.fact in
    let from = from_at s l in
    let ws = words_at n s l in
    let sg = sign l.fact from in
    let f = cell_at x t from sg ws s.lanes in
    let at = each_at f x.threads (t - 1) (omega (arith, some, few)) in
    let own = own_mark x t from sg ws (lane_at s.lanes (t - 1 + 1)) (t - 1 + 1) (omega (arith, some)) in
    record {
      before = each f (t - 1);
      behind = at.0;
      whole = at.1 ∙ ap (λ c. each f (t - 1) ++ (c ++ at.0)) own;
      place = each_wide f (width x) (t - 1) (λ i lt. cell_wide x t sg ws (lane_at s.lanes (i + 1)) (i + 1) (omega (arith, lt)) few from);
      alone = λ u other. alone_there x t from ws u other;
    }
