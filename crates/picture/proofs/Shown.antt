-- Each lane that shows something is in its own columns.
use Rattle.std.proofs.Common.{◌≡◌, ℕ, zero, suc, ◌+◌, ◌-◌, ◌*◌, ◌/◌, ◌%◌, ◌<◌, ◌≤◌, ◌^◌, ◌==◌, Bool, true, false, Option, Some, None, List, [], ◌∷◌, ◌++◌, length, refl, sym, ap, ◌∙◌, append-nil, subst, append_assoc, arith, cond, inl, inr, min, max, IfSome}
use Rattle.std.specs.Prelude.{nat_lt, nat_le, codes, decimal, ◌&&◌, slice_index_or, if◌then◌else◌}
use Rattle.std.specs.List.{concat, repeat}
use Rattle.std.proofs.lemmas.Bool.{cases_lt}
use Rattle.std.proofs.lemmas.Bool.Decides.{nat_tests}
use Rattle.std.proofs.Math.Nat.{add-mul, add_assoc, mod-add-div, suc-mul}
use Rattle.posixmutex.specs.declared.object.Object.{Object}
use Rattle.posixmutex.specs.Objects.{fresh}
use Rattle.facts.specs.declared.fact.Fact.{Fact}
use Rattle.facts.specs.declared.fact.Fact.TheVariants.{Begin, Point, Death, Sleep, Wake, Move, Return, Kill, Reap, Renew}
use Rattle.facts.specs.declared.fact.Line.{Line}
use Rattle.facts.specs.Facts.{thread_of}
use Rattle.picture.specs.declared.bands.Extent.{Extent}
use Rattle.picture.specs.declared.lane.Lane.{Lane}
use Rattle.picture.specs.declared.rows.Part.TheVariants as part
use Rattle.picture.specs.declared.scene.Scene.{Scene}
use Rattle.picture.specs.Laws.{AreNames, EndsWithABlank, HasNumbersOfATrace, HasRoomForNames, PartsItsWords, ShownLanesStandInTheirColumns, Shows, StandsInItsColumns, columns}
use Rattle.picture.specs.Layouts.{band_width, gap, is_wide, plain_width, width}
use Rattle.picture.specs.Bands.{mutex_at}
use Rattle.picture.specs.Names.{Called, mutex_head, mutex_tail, thread_head, thread_tail}
use Rattle.picture.specs.Pieces.{each, less, padded}
use Rattle.picture.specs.Rows.{arrow_end, arrow_from, arrow_sign, band_at, bands_text, beside, blanks, cell, cell_at, event_text, from_at, is_covered, is_from_right, mark, narrow_mark, owner_name, owner_pieces, part_of, part_text, reach, sign, tail, taken, words_at, wide_mark}
use Rattle.picture.specs.Scenes.{lane_at}
use Rattle.picture.specs.Signs.{dash, to_left}
use Rattle.picture.specs.Words.{first_number, words}
use Rattle.picture.proofs.Columns.{repeat-suc}
use Rattle.picture.proofs.Letters.{Letters, TwoPieces, at_most, both_letters, less_is, move_letters, mutex_pieces, number_letters, pieces_of, then_letters, thread_pieces, wake_letters, words_letters}
use Rattle.picture.proofs.Own.{cell_wide, columns-append, columns-repeat, each_at, each_wide, own_mark, sign_wide, stays_wide, width_some}

-- ---- a line's mark

-- how many lanes after its own the words of a line cover: none where lanes have no room for words, nor beside an arrow from the right
abbrev over_if : Bool → Bool → ℕ → ℕ
over_if true false n = n
over_if w r n = 0

abbrev over : Extent → ℕ → Option ℕ → List (List ℕ) → ℕ
over x t from ws = over_if (is_wide x) (is_from_right t from) (reach x ws)

up_to_next : (n w : ℕ) → 1 ≤ w → n + (w - n % w) ≡ (1 + n / w) * w
up_to_next n w some =
    let split = mod-add-div n w in
    grind (arith, split, some)

-- a lane that has room for words has room for those of an arrow, with its sign and a blank on both sides
wide_room : (x : Extent) → is_wide x ≡ true → 6 + max x.letters 5 ≤ width x
wide_room x isw =
    let plain : 11 ≤ plain_width x.threads = grind (arith, nat_tests, isw) in
    subst (λ (b : Bool). 6 + max x.letters 5 ≤ (if b then max (plain_width x.threads) (x.letters + 6) else plain_width x.threads)) (sym isw) (omega (arith, plain))

module _ (x : Extent) (t : ℕ) (from : Option ℕ) (s : List ℕ) (ws : List (List ℕ)) (one : columns s ≡ 1) (letters : Letters (concat ws) 60) (short : is_from_right t from ≡ true → length (concat ws) ≤ 3 + max x.letters 5) where
  signed : (rest : List ℕ) → columns ((s ++ codes " ") ++ (concat ws ++ rest)) ≡ 2 + (length (concat ws) + columns rest)
  signed rest =
      let a = columns-append (s ++ codes " ") (concat ws ++ rest) in
      let b = columns-append s (codes " ") in
      let c = columns-append (concat ws) rest in
      omega (arith, a, b, c, one, letters.single)

  ends_wide : (n : ℕ) → 1 ≤ n → columns (arrow_end n) ≡ n
  ends_wide n some =
      let a = columns-append (codes " ") (repeat (n - 1) dash) in
      let b = columns-repeat (n - 1) dash refl in
      omega (arith, a, b, some)

  all_taken : taken ws ≡ 2 + length (concat ws)
  all_taken = omega (arith, less_is 62 ws, letters.few)

  mark_wide : (w r : Bool) → is_wide x ≡ w → is_from_right t from ≡ r → t + over_if w r (reach x ws) < x.threads → columns (mark x t from s ws) ≡ (1 + over_if w r (reach x ws)) * width x
  mark_wide true true isw isr fits =
      let ten = wide_room x isw in
      let n = less (width x - 2) ws in
      let wide = ap (λ b. columns (if b then wide_mark x t from s ws else narrow_mark x t from s)) isw in
      let arrow = ap (λ b. columns ((s ++ codes " ") ++ (concat ws ++ (if b then arrow_end n else repeat (blanks x t ws) (codes " "))))) isr in
      let some : 1 ≤ n = omega (arith, less_is (width x - 2) ws, short isr, ten) in
      wide ∙ arrow ∙ omega (arith, signed (arrow_end n), ends_wide n some, less_is (width x - 2) ws, short isr, ten)
  mark_wide true false isw isr fits =
      let some = width_some x in
      let behind : nat_le (x.threads - t) (reach x ws) ≡ false = grind (arith, nat_tests, fits) in
      let n = width x - taken ws % width x in
      let wide = ap (λ b. columns (if b then wide_mark x t from s ws else narrow_mark x t from s)) isw in
      let blank = ap (λ b. columns ((s ++ codes " ") ++ (concat ws ++ (if b then arrow_end (less (width x - 2) ws) else repeat (blanks x t ws) (codes " "))))) isr in
      let so_many = ap (λ b. columns ((s ++ codes " ") ++ (concat ws ++ repeat (if b then 0 else n) (codes " ")))) behind in
      let all = signed (repeat n (codes " ")) in
      let rest = columns-repeat n (codes " ") refl in
      let sum = up_to_next (taken ws) (width x) some in
      wide ∙ blank ∙ so_many ∙ omega (arith, all, rest, all_taken, sum)
  mark_wide false true isw isr fits =
      let narrow = ap (λ b. columns (if b then wide_mark x t from s ws else narrow_mark x t from s)) isw in
      let arrow = ap (λ b. columns (s ++ (if b then repeat (width x - 1) dash else repeat (gap x t) (codes " ")))) isr in
      let all = sign_wide x (width x - 1) s dash one refl refl in
      narrow ∙ arrow ∙ all ∙ omega arith
  mark_wide false false isw isr fits =
      let same : gap x t ≡ width x - 1 = grind (arith, nat_tests, fits) in
      let narrow = ap (λ b. columns (if b then wide_mark x t from s ws else narrow_mark x t from s)) isw in
      let blank = ap (λ b. columns (s ++ (if b then repeat (width x - 1) dash else repeat (gap x t) (codes " ")))) isr in
      let all = sign_wide x (gap x t) s (codes " ") one refl same in
      narrow ∙ blank ∙ all ∙ omega arith

-- ---- the lanes after it

-- what is in a lane after the line's own, beside no arrow
between_false : (a t u : ℕ) → a ≤ t → t < u → (nat_lt (min t a) u && nat_lt u (max t a)) ≡ false
between_false a t u le lt = grind (arith, nat_tests)

past_arrow : (x : Extent) (t : ℕ) (from : Option ℕ) (ws : List (List ℕ)) (u : ℕ) → t < u → is_from_right t from ≡ false → part_of x t from ws u ≡ beside x t from ws u
past_arrow x t None ws u lt left =
    let other : (u == t) ≡ false = grind (arith, nat_tests) in
    rw other refl
past_arrow x t (Some a) ws u lt left =
    let le : a ≤ t = grind (arith, nat_tests, left) in
    let other : (u == t) ≡ false = grind (arith, nat_tests) in
    let apart : (u == a) ≡ false = grind (arith, nat_tests, le) in
    rw (other, apart, between_false a t u le lt) refl

-- such a lane is covered where the words reach as far
covered_if : (x : Extent) (t : ℕ) (from : Option ℕ) (ws : List (List ℕ)) (u : ℕ) (w r : Bool) → is_wide x ≡ w → is_from_right t from ≡ r → t < u → is_covered x t from ws u ≡ nat_lt 0 (1 + over_if w r (reach x ws) - (u - t))
covered_if x t from ws u true false isw isr lt =
    let ahead : nat_lt t u ≡ true = grind (arith, nat_tests) in
    rw (isw, isr, ahead) (grind (arith, nat_tests))
covered_if x t from ws u true true isw isr lt = rw (isw, isr) (grind (arith, nat_tests))
covered_if x t from ws u false true isw isr lt = rw isw (grind (arith, nat_tests))
covered_if x t from ws u false false isw isr lt = rw isw (grind (arith, nat_tests))

module _ (x : Extent) (t : ℕ) (s : List ℕ) (ws : List (List ℕ)) (shown : Lane) (u : ℕ) (lt : t < u) (few : u < x.threads) where
  -- from the left, or without an arrow
  beside_columns : (from : Option ℕ) (b : Bool) → is_covered x t from ws u ≡ b → columns (part_text x t from s ws shown u (beside x t from ws u)) ≡ cond b 0 (width x)
  beside_columns from true is = rw is refl
  beside_columns from false is = rw is (stays_wide x u shown few)

  -- an arrow from the right
  behind_arrow : (a : ℕ) (b1 b2 : Bool) → is_from_right t (Some a) ≡ true → (u == a) ≡ b1 → (nat_lt (min t a) u && nat_lt u (max t a)) ≡ b2 → columns (cell x t (Some a) s ws shown u) ≡ width x
  behind_arrow a true b2 right at isin =
      let other : (u == t) ≡ false = grind (arith, nat_tests) in
      let same : gap x u ≡ width x - 1 = grind (arith, nat_tests, few) in
      rw (other, at, right) (sign_wide x (gap x u) to_left (codes " ") refl refl same)
  behind_arrow a false true right at isin =
      let other : (u == t) ≡ false = grind (arith, nat_tests) in
      rw (other, at, isin) (columns-repeat (width x) dash refl)
  behind_arrow a false false right at isin =
      let other : (u == t) ≡ false = grind (arith, nat_tests) in
      let open_there : is_covered x t (Some a) ws u ≡ false = rw right (middle (is_wide x) (nat_lt t u) (nat_le (u - t) (reach x ws))) in
      rw (other, at, isin, open_there) (stays_wide x u shown few)
    where
      middle : (w b d : Bool) → (w && false && b && d) ≡ false
      middle true b d = refl
      middle false b d = refl

  behind_columns : (from : Option ℕ) (w r : Bool) → is_wide x ≡ w → is_from_right t from ≡ r → columns (cell x t from s ws shown u) ≡ cond (nat_lt 0 (1 + over_if w r (reach x ws) - (u - t))) 0 (width x)
  behind_columns from w false isw isr =
      let covered = covered_if x t from ws u w false isw isr lt in
      rw (past_arrow x t from ws u lt isr) (beside_columns from _ covered)
  behind_columns None w true isw isr = absurd cc
  behind_columns (Some a) w true isw isr =
      let none : nat_lt 0 (1 + over_if w true (reach x ws) - (u - t)) ≡ false = go w in
      rw none (behind_arrow a (u == a) (nat_lt (min t a) u && nat_lt u (max t a)) isr refl refl)
    where
      go : (w : Bool) → nat_lt 0 (1 + over_if w true (reach x ws) - (u - t)) ≡ false
      go true = grind (arith, nat_tests, lt)
      go false = grind (arith, nat_tests, lt)

-- ---- all lanes, the line's own being after i others
module _ (f : ℕ → List ℕ) (w i n k : ℕ) (before : (j : ℕ) → j < i → columns (f j) ≡ w) (own : columns (f i) ≡ (1 + n) * w) (behind : (j : ℕ) → i < j → j < k → columns (f j) ≡ cond (nat_lt 0 (1 + n - (j - i))) 0 w) where
  -- one lane more, after the line's own
  further : (m : ℕ) → i < m → m < k → columns (each f m) ≡ max m (i + 1 + n) * w → (b : Bool) → nat_lt 0 (1 + n - (m - i)) ≡ b → columns (each f (suc m)) ≡ max (suc m) (i + 1 + n) * w
  further m less le b true is =
      let a = columns-append (each f m) (f m) in
      let c : columns (f m) ≡ 0 = behind m less le ∙ ap (λ t. cond t 0 w) is in
      let d : max (suc m) (i + 1 + n) ≡ max m (i + 1 + n) = grind (arith, nat_tests, is, less) in
      omega (arith, a, b, c, ap (λ z. z * w) d)
  further m less le b false is =
      let a = columns-append (each f m) (f m) in
      let c : columns (f m) ≡ w = behind m less le ∙ ap (λ t. cond t 0 w) is in
      let d : max m (i + 1 + n) ≡ m = grind (arith, nat_tests, is, less) in
      let e : max (suc m) (i + 1 + n) ≡ suc m = grind (arith, nat_tests, is, less) in
      omega (arith, a, b, c, ap (λ z. z * w) d, ap (λ z. z * w) e, suc-mul m w)

  sum_from : (m : ℕ) → i < m → m ≤ k → columns (each f m) ≡ max m (i + 1 + n) * w
  sum_from zero lt le = absurd (omega (arith, lt))
  sum_from (suc m) lt le = elim (cases_lt i m) [
    | inl less ↦ further m less le (sum_from m less (omega (arith, le))) (nat_lt 0 (1 + n - (m - i))) refl
    | inr ge ↦
        let same : m ≡ i = omega (arith, ge, lt) in
        let a = columns-append (each f m) (f m) in
        let b = each_wide f w m (λ j less. before j (omega (arith, less, same))) in
        let c : columns (f m) ≡ (1 + n) * w = ap (λ j. columns (f j)) same ∙ own in
        let d : max (suc m) (i + 1 + n) ≡ m + (1 + n) = omega (arith, same) in
        omega (arith, a, b, c, ap (λ z. z * w) d, add-mul m (1 + n) w)
  ]

-- ---- a row

-- an arrow comes to what another one did to a thread alone, of which few words tell
module _ (n : Called) (x : Extent) (names : AreNames n) (room : HasRoomForNames n x) where
  arrow_words : (actor : Option ℕ) (lane : Lane) (f : Fact) → first_number f < 10 ^ 4 → is_from_right (thread_of f) (arrow_from actor f) ≡ true → length (concat (words n lane f)) ≤ 3 + max x.letters 5
  arrow_words actor lane (Wake t) small right = (wake_letters n x names room lane t).few
  arrow_words actor lane (Move t m) small right = (move_letters n x names room lane t m small).few
  arrow_words None lane (Begin t c) small right = absurd cc
  arrow_words (Some a) lane (Begin t c) small right = absurd cc
  arrow_words None lane (Point d) small right = absurd cc
  arrow_words (Some a) lane (Point d) small right = absurd cc
  arrow_words None lane (Death t m) small right = absurd cc
  arrow_words (Some a) lane (Death t m) small right = absurd cc
  arrow_words None lane (Sleep t q) small right = absurd cc
  arrow_words (Some a) lane (Sleep t q) small right = absurd cc
  arrow_words None lane (Return t x) small right = absurd cc
  arrow_words (Some a) lane (Return t x) small right = absurd cc
  arrow_words None lane (Kill t) small right = absurd cc
  arrow_words (Some a) lane (Kill t) small right = absurd cc
  arrow_words None lane (Reap t) small right = absurd cc
  arrow_words (Some a) lane (Reap t) small right = absurd cc
  arrow_words None lane (Renew t) small right = absurd cc
  arrow_words (Some a) lane (Renew t) small right = absurd cc

arrow_one : (t : ℕ) (from : Option ℕ) → columns (arrow_sign t from) ≡ 1
arrow_one t None = refl
arrow_one t (Some a) = go (nat_lt a t)
  where
    go : (b : Bool) → columns (if b then codes ">" else codes "<") ≡ 1
    go true = refl
    go false = refl

sign_one : (f : Fact) (from : Option ℕ) → columns (sign f from) ≡ 1
sign_one (Begin t c) from = refl
sign_one (Point d) from = refl
sign_one (Death t m) from = refl
sign_one (Sleep t q) from = refl
sign_one (Wake t) from = arrow_one t from
sign_one (Move t m) from = arrow_one t from
sign_one (Return t x) from = refl
sign_one (Kill t) from = refl
sign_one (Reap t) from = refl
sign_one (Renew t) from = refl

-- a padded text of fewer letters than columns takes these, and a blank is the last
padded_columns : (n m : ℕ) (ps : List (List ℕ)) → Letters (concat ps) m → m < n → columns (padded n ps) ≡ n
padded_columns n m ps letters less_than =
    let a = columns-append (concat ps) (repeat (less n ps) (codes " ")) in
    let b = columns-repeat (less n ps) (codes " ") refl in
    omega (arith, a, b, less_is n ps, letters.single, letters.few, less_than)

padded_ends : (n m : ℕ) (ps : List (List ℕ)) → Letters (concat ps) m → m < n → EndsWithABlank (padded n ps)
padded_ends n m ps letters less_than = go (less n ps) refl
  where
    go : (k : ℕ) → less n ps ≡ k → EndsWithABlank (padded n ps)
    go zero is = absurd (omega (arith, is, less_is n ps, letters.few, less_than))
    go (suc k) is = record { name = concat ps ++ repeat k (codes " "); whole = ap (λ j. concat ps ++ repeat j (codes " ")) is ∙ ap (λ x. concat ps ++ x) (repeat-suc k (codes " ")) ∙ sym (append_assoc (concat ps) (repeat k (codes " ")) (codes " ")) }

-- an owner's name
mark_letters : (b : Bool) → Letters (if b then codes "!" else []) 1
mark_letters true = record { single = refl; few = omega arith }
mark_letters false = record { single = refl; few = omega arith }

three : (a b c : List ℕ) (j k l : ℕ) → Letters a j → Letters b k → Letters c l → Letters (concat (a ∷ b ∷ c ∷ [])) (j + (k + (l + 0)))
three a b c j k l p q r = then_letters a (concat (b ∷ c ∷ [])) j (k + (l + 0)) p (then_letters b (concat (c ∷ [])) k (l + 0) q (then_letters c [] l 0 r (record { single = refl; few = omega arith })))

-- the owner that a band shows, whose name has that many letters at most
owner_letters : (n : Called) (x : Extent) → AreNames n → HasRoomForNames n x → (o : Object) → IfSome o.owner (λ t. t < 10 ^ 2) → Letters (concat (owner_pieces n o)) (max x.letters 3 + 1)
owner_letters n x names room o small = go o.owner o.unusable small
  where
    m : List ℕ
    m = if o.inconsistent then codes "!" else []

    mark_of : Letters m 1
    mark_of = mark_letters o.inconsistent

    empty : Letters [] 0
    empty = record { single = refl; few = omega arith }

    go : (owner : Option ℕ) (unusable : Bool) → IfSome owner (λ t. t < 10 ^ 2) → Letters (concat (owner_name n owner unusable m)) (max x.letters 3 + 1)
    go (Some t) unusable low =
        let p = thread_pieces n x names room t low in
        at_most _ (p.one + (p.two + (1 + 0))) (max x.letters 3 + 1) (omega (arith, p.few)) (three (thread_head n t) (thread_tail n t) m p.one p.two 1 p.head_letters p.tail_letters mark_of)
    go None true low = at_most (codes "lost") 4 (max x.letters 3 + 1) (omega arith) (record { single = refl; few = omega arith })
    go None false low = at_most _ 2 (max x.letters 3 + 1) (omega arith) (three (codes "-") [] m 1 0 1 (record { single = refl; few = omega arith }) empty mark_of)

event_columns : (i : ℕ) → i < 10 ^ 6 → columns (event_text i) ≡ 8
event_columns i small =
    let letters = number_letters i 6 (omega arith) small (omega (arith, small)) in
    let a = columns-append (repeat (6 - length (decimal i)) (codes " ")) (decimal i ++ (codes "  " ++ [])) in
    let b = columns-append (decimal i) (codes "  " ++ []) in
    let c = columns-repeat (6 - length (decimal i)) (codes " ") refl in
    omega (arith, a, b, c, letters.single, letters.few)

-- five texts, the third of which is parted in three
parted : (a b c d e g : List ℕ) (whole : List ℕ) → whole ≡ c ++ (d ++ e) → a ++ (b ++ (whole ++ g)) ≡ (a ++ (b ++ c)) ++ (d ++ (e ++ g))
parted a b c d e g whole is =
    ap (λ l. a ++ (b ++ (l ++ g))) is
    ∙ ap (λ l. a ++ (b ++ l)) (append_assoc c (d ++ e) g ∙ ap (λ l. c ++ l) (append_assoc d e g))
    ∙ ap (λ l. a ++ l) (sym (append_assoc b c (d ++ (e ++ g))))
    ∙ sym (append_assoc a (b ++ c) (d ++ (e ++ g)))

module _ (n : Called) (x : Extent) (names : AreNames n) (room : HasRoomForNames n x) (s : Scene) (l : Line) (numbers : HasNumbersOfATrace s l) (some : 1 ≤ thread_of l.fact) (few : thread_of l.fact ≤ x.threads) where
  abbrev t : ℕ
  t = thread_of l.fact

  abbrev from : Option ℕ
  from = from_at s l

  abbrev ws : List (List ℕ)
  ws = words_at n s l

  abbrev sg : List ℕ
  sg = sign l.fact from

  abbrev f : ℕ → List ℕ
  f = cell_at x t from sg ws s.lanes

  abbrev far : ℕ
  far = over x t from ws

  before_own : (j : ℕ) → j < t - 1 → columns (f j) ≡ width x
  before_own j lt = cell_wide x t sg ws (lane_at s.lanes (j + 1)) (j + 1) (omega (arith, lt)) few from

  own_lane : t + far < x.threads → columns (f (t - 1)) ≡ (1 + far) * width x
  own_lane fits =
      let own = own_mark x t from sg ws (lane_at s.lanes (t - 1 + 1)) (t - 1 + 1) (omega (arith, some)) in
      let few_letters = at_most _ _ 60 (let most = room.few in omega (arith, most)) (words_letters n x names room (lane_at s.lanes t) l.fact numbers.first numbers.second) in
      ap columns own ∙ mark_wide x t from sg ws (sign_one l.fact from) few_letters (arrow_words n x names room s.actor (lane_at s.lanes t) l.fact numbers.first) (is_wide x) (is_from_right t from) refl refl fits

  behind_own : (j : ℕ) → t - 1 < j → j < x.threads - 1 → columns (f j) ≡ cond (nat_lt 0 (1 + far - (j - (t - 1)))) 0 (width x)
  behind_own j lt last =
      let same : j + 1 - t ≡ j - (t - 1) = omega (arith, some, lt) in
      let it = behind_columns x t sg ws (lane_at s.lanes (j + 1)) (j + 1) (omega (arith, some, lt)) (omega (arith, last)) from (is_wide x) (is_from_right t from) refl refl in
      it ∙ ap (λ n. cond (nat_lt 0 (1 + far - n)) 0 (width x)) same

  -- a lane after the line's own that shows something isn't covered
  past_words : (u : ℕ) → t < u → Shows n x s l u → t + far < u
  past_words u lt shows = go (is_wide x) (is_from_right t from) refl refl
    where
      covered : (b : Bool) → is_from_right t from ≡ false → is_covered x t from ws u ≡ b → b ≡ false
      covered false left is = refl
      covered true left is = absurd (shows (past_arrow x t from ws u lt left ∙ ap (λ b. if b then part.Covered else part.Stays) is))

      go : (w r : Bool) → is_wide x ≡ w → is_from_right t from ≡ r → t + over_if w r (reach x ws) < u
      go true false isw isr =
          let open_there = covered (is_covered x t from ws u) isr refl in
          let ahead : nat_lt t u ≡ true = grind (arith, nat_tests, lt) in
          let test = covered_if x t from ws u true false isw isr lt in
          grind (arith, nat_tests, open_there, test, lt)
      go true true isw isr = omega (arith, lt)
      go false true isw isr = omega (arith, lt)
      go false false isw isr = omega (arith, lt)

  lanes_before : (u : ℕ) → 1 ≤ u → u ≤ x.threads → Shows n x s l u → columns (each f (u - 1)) ≡ (u - 1) * width x
  lanes_before u one most shows = elim (cases_lt t u) [
    | inl lt ↦
        let past = past_words u lt shows in
        let sum = sum_from f (width x) (t - 1) far (x.threads - 1) before_own (own_lane (omega (arith, past, most))) behind_own (u - 1) (omega (arith, some, lt)) (omega (arith, most)) in
        let far_enough : max (u - 1) (t - 1 + 1 + far) ≡ u - 1 = omega (arith, past, some) in
        sum ∙ ap (λ k. k * width x) far_enough
    | inr le ↦ each_wide f (width x) (u - 1) (λ j lt. before_own j (omega (arith, lt, le)))
  ]

band_columns : (n : Called) (x : Extent) → AreNames n → HasRoomForNames n x → (s : Scene) (l : Line) → HasNumbersOfATrace s l → (i : ℕ) → columns (band_at n x s.objects i) ≡ band_width x
band_columns n x names room s l numbers i = padded_columns (band_width x) (max x.letters 3 + 1) (owner_pieces n (slice_index_or s.objects i fresh)) (owner_letters n x names room (slice_index_or s.objects i fresh) (numbers.owners i)) (omega arith)

stands : (n : Called) (x : Extent) (s : Scene) (l : Line) → AreNames n → HasRoomForNames n x → HasNumbersOfATrace s l → 1 ≤ thread_of l.fact → thread_of l.fact ≤ x.threads → (u : ℕ) → 1 ≤ u → u ≤ x.threads → Shows n x s l u → StandsInItsColumns n x s l u
stands n x s l names room numbers some few u one most shows =
    let cell_there = f n x names room s l numbers some few in
    let at = each_at cell_there x.threads (u - 1) (omega (arith, one, most)) in
    let left = event_text l.event in
    let owners = bands_text n x s.objects in
    let lanes = each cell_there (u - 1) in
    let last = tail n x (thread_of l.fact) (words_at n s l) ++ codes "\n" in
    let a = columns-append left (owners ++ lanes) in
    let b = columns-append owners lanes in
    let c = event_columns l.event numbers.event in
    let d = each_wide (band_at n x s.objects) (band_width x) x.bands.count (λ i lt. band_columns n x names room s l numbers i) in
    let e = lanes_before n x names room s l numbers some few u one most shows in
    record {
      before = left ++ (owners ++ lanes);
      behind = at.0 ++ last;
      whole = parted left owners lanes (cell_there (u - 1)) at.0 last (each cell_there x.threads) at.1;
      place = a ∙ ap (λ k. columns left + k) b ∙ ap (λ k. k + (columns owners + columns lanes)) c ∙ ap (λ k. 8 + (k + columns lanes)) d ∙ ap (λ k. 8 + (x.bands.count * band_width x + k)) e ∙ sym (add_assoc 8 (x.bands.count * band_width x) ((u - 1) * width x));
    }

-- the name of a band's mutex
pub mutex_letters : (n : Called) (x : Extent) → AreNames n → HasRoomForNames n x → (i : ℕ) → i < x.bands.count → mutex_at x.bands i < 10 ^ 4 → TwoPieces (mutex_head n (mutex_at x.bands i)) (mutex_tail n (mutex_at x.bands i)) (max (x.letters + 1) 3)
mutex_letters n x names room i lt small = elim (cases_lt (mutex_at x.bands i) 100) [
  | inl low ↦
      let p = pieces_of n.mutexes (mutex_at x.bands i) x.letters 2 (codes "m") (decimal (mutex_at x.bands i)) names.mutexes (room.mutexes (mutex_at x.bands i) []) (record { single = refl; few = omega arith }) (number_letters (mutex_at x.bands i) 2 (omega arith) low (omega (arith, low))) in
      record { one = p.one; two = p.two; head_letters = p.head_letters; tail_letters = p.tail_letters; few = omega (arith, p.few) }
  | inr high ↦
      let p = mutex_pieces n x names room (mutex_at x.bands i) small in
      let far = room.numbers i lt high in
      record { one = p.one; two = p.two; head_letters = p.head_letters; tail_letters = p.tail_letters; few = omega (arith, p.few, far) }
]

two_letters : (a b : List ℕ) (k : ℕ) → Letters (a ++ b) k → Letters (concat (a ∷ b ∷ [])) k
two_letters a b k p = record { single = ap (λ y. columns (a ++ y)) (append-nil b) ∙ p.single ∙ ap (λ y. length (a ++ y)) (sym (append-nil b)); few = subst (λ (y : List ℕ). length (a ++ y) ≤ k) (sym (append-nil b)) p.few }

-- a blank parts a line's words from its arrow
apart : (n : Called) (x : Extent) (s : Scene) (l : Line) → is_wide x ≡ true → is_from_right (thread_of l.fact) (from_at s l) ≡ true → PartsItsWords n x s l
apart n x s l isw isr = record { dashes = less (width x - 2) ws - 1; whole = wide ∙ arrow ∙ sym (append_assoc (sg ++ codes " ") (concat ws) end) ∙ ap (λ z. z ++ end) (append_assoc sg (codes " ") (concat ws)) }
  where
    t : ℕ
    t = thread_of l.fact

    from : Option ℕ
    from = from_at s l

    ws : List (List ℕ)
    ws = words_at n s l

    sg : List ℕ
    sg = sign l.fact from

    end : List ℕ
    end = arrow_end (less (width x - 2) ws)

    wide : mark x t from sg ws ≡ wide_mark x t from sg ws
    wide = ap (λ b. if b then wide_mark x t from sg ws else narrow_mark x t from sg) isw

    arrow : wide_mark x t from sg ws ≡ (sg ++ codes " ") ++ (concat ws ++ end)
    arrow = ap (λ b. (sg ++ codes " ") ++ (concat ws ++ (if b then end else repeat (blanks x t ws) (codes " ")))) isr

pub shown : ShownLanesStandInTheirColumns
shown = record {
  lanes = stands;
  arrows = apart;
  bands = λ n x s l names room numbers i. padded_ends (band_width x) (max x.letters 3 + 1) (owner_pieces n (slice_index_or s.objects i fresh)) (owner_letters n x names room (slice_index_or s.objects i fresh) (numbers.owners i)) (omega arith);
  heads = λ n x names room i lt small.
      let p = both_letters _ _ _ (mutex_letters n x names room i lt small) in
      padded_ends (band_width x) (max (x.letters + 1) 3) (mutex_head n (mutex_at x.bands i) ∷ mutex_tail n (mutex_at x.bands i) ∷ []) (two_letters (mutex_head n (mutex_at x.bands i)) (mutex_tail n (mutex_at x.bands i)) _ p) (omega arith);
}
