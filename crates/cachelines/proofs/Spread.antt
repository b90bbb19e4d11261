-- Words by place, and how a step by place is a step of memory.
use Rattle.std.proofs.Common.{◌≡◌, ◌≢◌, ℕ, zero, suc, ◌+◌, ◌<◌, List, [], ◌∷◌, length, get_or, set, refl, sym, ap, ◌∙◌, subst, arith, length-set, get_or-set_other, get_or-set_same}
use mathlib.Core.Logic.{dite}
use mathlib.Core.Option.{Option, some, some-ne-none, some-injective}
use native.Mathlib.Decide.{ℕ_discrete}
use lib.ListN.{get_elem?}
use Rattle.atomic_table.specs.Table.{State, Step, Me, step, Act, Valid, stepped, Allows, Splits, Joins, Final, Seen, homes_after, carried_after}
use Rattle.cachelines.specs.Spread.{slot_of, place_of, slots_for, words_from, by_place, spread, at_place}

-- ---- where words lie

pub place_slot : (p : ℕ) → place_of (slot_of p) ≡ p
place_slot p = omega arith

pub within : (n p : ℕ) → p < n → slot_of p < slots_for n
within n p low = omega arith

pub slots_differ : (p q : ℕ) → p ≢ q → slot_of p ≢ slot_of q
slots_differ p q apart same = apart (sym (place_slot p) ∙ ap place_of same ∙ place_slot q)

-- ---- words by place

pub words_length : (n p : ℕ) (ws : List ℕ) → length (words_from n p ws) ≡ n
words_length zero p ws = refl
words_length (suc n) p ws = ap suc (words_length n (suc p) ws)

pub word_at : (n p i : ℕ) (ws : List ℕ) → i < n → get_or (words_from n p ws) i 0 ≡ get_or ws (slot_of (p + i)) 0
word_at zero p i ws low = absurd (omega arith)
word_at (suc n) p zero ws low = let e : p ≡ p + 0 = omega arith in ap (λ (q : ℕ). get_or ws (slot_of q) 0) e
word_at (suc n) p (suc i) ws low = let e : suc p + i ≡ p + suc i = omega arith in word_at n (suc p) i ws (omega arith) ∙ ap (λ (q : ℕ). get_or ws (slot_of q) 0) e

-- a word before these changes none of them
pub words_later : (n p q x : ℕ) (ws : List ℕ) → q < p → words_from n p (set ws (slot_of q) x) ≡ words_from n p ws
words_later zero p q x ws low = refl
words_later (suc n) p q x ws low = let head = get_or-set_other ws (slot_of q) (slot_of p) x 0 (slots_differ p q (λ e. omega arith)) in let rest = words_later n (suc p) q x ws (omega arith) in
    λ k. head k ∷ rest k

pub words_set : (n p i x : ℕ) (ws : List ℕ) → i < n → slot_of (p + i) < length ws → words_from n p (set ws (slot_of (p + i)) x) ≡ set (words_from n p ws) i x
words_set zero p i x ws low in_range = absurd (omega arith)
words_set (suc n) p zero x ws low in_range =
    let e : p ≡ p + 0 = omega arith in
    let P : ℕ → Type 0 = λ q. slot_of q < length ws → words_from (suc n) p (set ws (slot_of q) x) ≡ x ∷ words_from n (suc p) ws in
    subst P e (λ here. let head = get_or-set_same ws (slot_of p) x 0 here in let rest = words_later n (suc p) p x ws (omega arith) in λ k. head k ∷ rest k) in_range
words_set (suc n) p (suc i) x ws low in_range =
    let e : suc p + i ≡ p + suc i = omega arith in
    let head = get_or-set_other ws (slot_of (p + suc i)) (slot_of p) x 0 (slots_differ p (p + suc i) (λ same. omega arith)) in
    let P : ℕ → Type 0 = λ q. slot_of q < length ws → words_from n (suc p) (set ws (slot_of q) x) ≡ set (words_from n (suc p) ws) i x in
    let rest = subst P e (λ here. words_set n (suc p) i x ws (omega arith) here) in_range in
    λ k. head k ∷ rest k

-- words that are those of a list at each of its places are that list
pub words_are : (ws xs : List ℕ) (n p : ℕ) → length xs ≡ n → ((i : ℕ) → i < n → get_or ws (slot_of (p + i)) 0 ≡ get_or xs i 0) → words_from n p ws ≡ xs
words_are ws [] zero p len each = refl
words_are ws (x ∷ xs) zero p len each = absurd (omega arith)
words_are ws [] (suc n) p len each = absurd (omega arith)
words_are ws (x ∷ xs) (suc n) p len each =
    let e : p ≡ p + 0 = omega arith in
    let head = ap (λ (q : ℕ). get_or ws (slot_of q) 0) e ∙ each 0 (omega arith) in
    let rest = words_are ws xs n (suc p) (omega arith) (λ i low. let f : suc p + i ≡ p + suc i = omega arith in ap (λ (q : ℕ). get_or ws (slot_of q) 0) f ∙ each (suc i) (omega arith)) in
    λ k. head k ∷ rest k

-- the same from place 0 on
pub word_here : (n p : ℕ) (ws : List ℕ) → p < n → get_or (words_from n 0 ws) p 0 ≡ get_or ws (slot_of p) 0
word_here n p ws low = let e : 0 + p ≡ p = omega arith in word_at n 0 p ws low ∙ ap (λ (q : ℕ). get_or ws (slot_of q) 0) e

pub set_here : (n p x : ℕ) (ws : List ℕ) → p < n → length ws ≡ slots_for n → words_from n 0 (set ws (slot_of p) x) ≡ set (words_from n 0 ws) p x
set_here n p x ws low wide = let e : 0 + p ≡ p = omega arith in
    let P : ℕ → Type 0 = λ q. slot_of q < length ws → words_from n 0 (set ws (slot_of q) x) ≡ set (words_from n 0 ws) p x in
    let inside = within n p low in
    subst P e (λ here. words_set n 0 p x ws low here) (subst (λ (l : ℕ). slot_of p < l) (sym wide) inside)

-- the list with one word more
pub each_set : (ws xs : List ℕ) (n q x : ℕ) → q < n → length ws ≡ slots_for n → x ≡ get_or xs q 0 → ((p : ℕ) → p < q → get_or ws (slot_of p) 0 ≡ get_or xs p 0)
    → (p : ℕ) → p < q + 1 → get_or (set ws (slot_of q) x) (slot_of p) 0 ≡ get_or xs p 0
each_set ws xs n q x low wide is each p lower = dite (ℕ_discrete p q)
    (λ here. subst (λ (z : ℕ). get_or (set ws (slot_of q) x) (slot_of z) 0 ≡ get_or xs z 0) (sym here)
    (get_or-set_same ws (slot_of q) x 0 (subst (λ (l : ℕ). slot_of q < l) (sym wide) (within n q low)) ∙ is))
    (λ other. get_or-set_other ws (slot_of q) (slot_of p) x 0 (slots_differ p q other) ∙ each p (omega arith))

pub found_at : (xs : List ℕ) (i x : ℕ) → get_elem? xs i ≡ some x → x ≡ get_or xs i 0
found_at [] i x e = absurd (some-ne-none x (sym e))
found_at (y ∷ ys) zero x e = sym (some-injective y x e)
found_at (y ∷ ys) (suc i) x e = found_at ys i x e

-- ---- steps

module _ {S : Type 0} where
  -- what a step in memory tells is what it tells by place
  pub told : (slots p q a b : ℕ) (x : Option S) → q ≡ slot_of p → at_place (step {S = S} slots q a b x) ≡ step slots p a b x
  told slots p q a b x here = ap (λ (z : ℕ). step {S = S} slots z a b x) (ap place_of here ∙ place_slot p)

  pub has_stepped : (slots p q a b : ℕ) (x : Option S) (tells : Step S → Type 0) → q ≡ slot_of p → tells (at_place (step slots q a b x)) → tells (step slots p a b x)
  has_stepped slots p q a b x tells here did = subst tells (told slots p q a b x here) did

module _ {S V : Type 0} where
  -- a step that is allowed by place is allowed in memory
  pub allows_spread : (n slots id p : ℕ) (holds : State S V → Type 0) (me : Me S V) (f : ℕ → ℕ) (tells : ℕ → Me S V → Type 0) → p < n
      → Allows holds slots id me p f tells → Allows (spread n holds) slots id me (slot_of p) f tells
  allows_spread n slots id p holds me f tells low allows s kept homes view small =
      let same : get_or (words_from n 0 s.words) p 0 ≡ get_or s.words (slot_of p) 0 = word_here n p s.words low in
      let done = allows (by_place n s) kept.1 homes view (subst (λ (x : ℕ). x < 18446744073709551616) (sym same) small) in
      let done' = subst (λ (x : ℕ). (w : V) × (a : Act S) × Valid s.homes me.1 a × holds (stepped (by_place n s) p (f x) id me.1 w a) × tells x (w, carried_after me.1 a)) same done in
      let x : ℕ = f (get_or s.words (slot_of p) 0) in (
        done'.0,
        done'.1,
        done'.2,
        (
          length-set s.words (slot_of p) x ∙ kept.0,
          subst (λ (ws : List ℕ). holds record { words = ws; homes = homes_after s.homes me.1 done'.1; views = set s.views id done'.0 }) (sym (set_here n p x s.words low kept.0)) done'.3,
        ),
        done'.4,
      )

  pub splits_spread : (n id : ℕ) (holds : State S V → Type 0) (v left right : V) → Splits holds id v left right → Splits (spread n holds) id v left right
  splits_spread n id holds v left right splits s kept view = (kept.0, splits (by_place n s) kept.1 view)

  pub joins_spread : (n id other : ℕ) (holds : State S V → Type 0) (v w both spent : V) → Joins holds id v other w both spent → Joins (spread n holds) id v other w both spent
  joins_spread n id other holds v w both spent joins s kept view apart view' = (kept.0, joins (by_place n s) kept.1 view apart view')

  pub final_spread : (n count : ℕ) (holds : State S V → Type 0) (ws : List ℕ) (xs : List S) → count ≡ n → Final (spread n holds) ws xs → Final holds (words_from count 0 ws) xs
  final_spread n count holds ws xs all last =
      subst (λ (z : ℕ). Final holds (words_from z 0 ws) xs) (sym all) (by_place n last.0, last.1.1, ap (words_from n 0) last.2, last.3, last.4)

  pub final_seen : (n count id : ℕ) (holds : State S V → Type 0) (v : V) (ws : List ℕ) (xs : List S) → count ≡ n → Final (Seen (spread n holds) id v) ws xs → Final (Seen holds id v) (words_from count 0 ws) xs
  final_seen n count id holds v ws xs all last =
      subst (λ (z : ℕ). Final (Seen holds id v) (words_from z 0 ws) xs) (sym all) (by_place n last.0, (last.1.0.1, last.1.1), ap (words_from n 0) last.2, last.3, last.4)

  pub may_step : (n count slots id p q a b : ℕ) (x : Option S) (holds : State S V → Type 0) (me : Me S V) (f : ℕ → ℕ) (tells : Step S → ℕ → Me S V → Type 0) → count ≡ n → p < count → q ≡ slot_of p
      → Allows holds slots id me p f (tells (step slots p a b x)) → Allows (spread n holds) slots id me q f (tells (at_place (step slots q a b x)))
  may_step n count slots id p q a b x holds me f tells all low here allows =
      let P : ℕ × Step S → Type 0 = λ z. Allows (spread n holds) slots id me z.0 f (tells z.1) in
      subst P (λ i. (sym here i, sym (told slots p q a b x here) i)) (allows_spread n slots id p holds me f (tells (step slots p a b x)) (subst (λ (z : ℕ). p < z) all low) allows)
