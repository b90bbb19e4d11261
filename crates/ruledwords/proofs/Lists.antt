-- Lists by place, the points of one thread, and beginnings.
use Rattle.std.proofs.Common.{Bool, true, false, ◌≡◌, ◌≢◌, ◌⊎◌, inl, inr, ⊎_elim, ℕ, zero, suc, ◌+◌, ◌<◌, ◌≤◌, ◌==◌, Option, Some, None, List, [], ◌∷◌, ◌++◌, refl, sym, ap, ◌∙◌, arith, append_assoc, append-nil, eq-eqb, ne_eqb, set, get_or, slice_get, length}
use Rattle.std.specs.Prelude.{if◌then◌else◌}
use Rattle.std.proofs.lemmas.List.Elements.{filter-append}
use Rattle.std.proofs.Math.Seq.{get_or-append_seam}
use Rattle.std.proofs.lemmas.List.{get_or_append_left}
use mathlib.Core.Logic.{dite}
use mathlib.Core.Option.{some-ne-none, some-injective}
use native.Mathlib.Decide.{ℕ_discrete}
use mathlib.Core.List.{IsPrefix}
use lib.ListN.{get_elem?}
use Rattle.lockword.specs.declared.reply.Reply.{Reply}
use Rattle.memorymap.specs.Layouts.{Layout'}
use Rattle.posixmutex.specs.declared.point.Operation.{Operation}
use Rattle.posixmutex.specs.declared.point.Operation.TheVariants.{Reinit}
use Rattle.posixmutex.specs.declared.point.Point.{Point}
use Rattle.mutex.specs.Laws.{points}
use Rattle.mutex.specs.Programs.{point_of}
use Rattle.ruledwords.specs.declared.pass.Card.{Card}
use Rattle.ruledwords.specs.Cards.{at, put, value_at, put_value, mark_at, put_mark}
use Rattle.ruledwords.specs.Seen.{by, AllOf}
use Rattle.ruledwords.specs.Rules.{cards_of, all_cards_of, first_card}

-- ---- by place

pub at_put : (xs : List (List Point)) (p : ℕ) (y : List Point) → at (put xs p y) p ≡ y
at_put [] zero y = refl
at_put [] (suc p) y = at_put [] p y
at_put (x ∷ xs) zero y = refl
at_put (x ∷ xs) (suc p) y = at_put xs p y

pub at_put_else : (xs : List (List Point)) (p q : ℕ) (y : List Point) → q ≢ p → at (put xs p y) q ≡ at xs q
at_put_else [] zero zero y n = absurd (n refl)
at_put_else [] zero (suc q) y n = refl
at_put_else [] (suc p) zero y n = refl
at_put_else [] (suc p) (suc q) y n = at_put_else [] p q y (λ e. n (ap suc e))
at_put_else (x ∷ xs) zero zero y n = absurd (n refl)
at_put_else (x ∷ xs) zero (suc q) y n = refl
at_put_else (x ∷ xs) (suc p) zero y n = refl
at_put_else (x ∷ xs) (suc p) (suc q) y n = at_put_else xs p q y (λ e. n (ap suc e))

pub value_put : (xs : List (Option ℕ)) (p : ℕ) (y : Option ℕ) → value_at (put_value xs p y) p ≡ y
value_put [] zero y = refl
value_put [] (suc p) y = value_put [] p y
value_put (x ∷ xs) zero y = refl
value_put (x ∷ xs) (suc p) y = value_put xs p y

pub value_put_else : (xs : List (Option ℕ)) (p q : ℕ) (y : Option ℕ) → q ≢ p → value_at (put_value xs p y) q ≡ value_at xs q
value_put_else [] zero zero y n = absurd (n refl)
value_put_else [] zero (suc q) y n = refl
value_put_else [] (suc p) zero y n = refl
value_put_else [] (suc p) (suc q) y n = value_put_else [] p q y (λ e. n (ap suc e))
value_put_else (x ∷ xs) zero zero y n = absurd (n refl)
value_put_else (x ∷ xs) zero (suc q) y n = refl
value_put_else (x ∷ xs) (suc p) zero y n = refl
value_put_else (x ∷ xs) (suc p) (suc q) y n = value_put_else xs p q y (λ e. n (ap suc e))

pub mark_put : (xs : List Bool) (p : ℕ) (y : Bool) → mark_at (put_mark xs p y) p ≡ y
mark_put [] zero y = refl
mark_put [] (suc p) y = mark_put [] p y
mark_put (x ∷ xs) zero y = refl
mark_put (x ∷ xs) (suc p) y = mark_put xs p y

pub mark_put_else : (xs : List Bool) (p q : ℕ) (y : Bool) → q ≢ p → mark_at (put_mark xs p y) q ≡ mark_at xs q
mark_put_else [] zero zero y n = absurd (n refl)
mark_put_else [] zero (suc q) y n = refl
mark_put_else [] (suc p) zero y n = refl
mark_put_else [] (suc p) (suc q) y n = mark_put_else [] p q y (λ e. n (ap suc e))
mark_put_else (x ∷ xs) zero zero y n = absurd (n refl)
mark_put_else (x ∷ xs) zero (suc q) y n = refl
mark_put_else (x ∷ xs) (suc p) zero y n = refl
mark_put_else (x ∷ xs) (suc p) (suc q) y n = mark_put_else xs p q y (λ e. n (ap suc e))

-- the values at some of the places
abbrev pub only : (ℕ → Bool) → List (Option ℕ) → List (Option ℕ)
only f [] = []
only f (x ∷ xs) = (if f 0 then x else None) ∷ only (λ p. f (suc p)) xs

pub value_only : (f : ℕ → Bool) (xs : List (Option ℕ)) (p x : ℕ) → value_at (only f xs) p ≡ Some x → (f p ≡ true) × (value_at xs p ≡ Some x)
value_only f [] p x e = absurd (cc e)
value_only f (y ∷ ys) zero x e = go (f 0) refl e
  where
    go : (b : Bool) → f 0 ≡ b → (if b then y else None) ≡ Some x → (f 0 ≡ true) × (y ≡ Some x)
    go true is e = (is, e)
    go false is e = absurd (cc e)
value_only f (y ∷ ys) (suc p) x e = value_only (λ q. f (suc q)) ys p x e

-- ---- points

pub by_append : (t : ℕ) (xs ys : List Point) → by t (xs ++ ys) ≡ by t xs ++ by t ys
by_append t xs ys = filter-append (λ (x : Point). x.thread == t) xs ys

-- the point, if there is one
abbrev pub told : ℕ → ℕ → Operation → Option Reply → List Point
told t p op r = points (point_of t p op r)

pub by_own : (t p : ℕ) (op : Operation) (r : Option Reply) → by t (told t p op r) ≡ told t p op r
by_own t p op None = refl
by_own t p op (Some r) = rw (eq-eqb t t refl) refl

pub by_other : (u t p : ℕ) (op : Operation) (r : Option Reply) → t ≢ u → by u (told t p op r) ≡ []
by_other u t p op None n = refl
by_other u t p op (Some r) n = rw (ne_eqb t u n) refl

pub all_of_append : (n p : ℕ) (xs ys : List Point) → AllOf n p xs → AllOf n p ys → AllOf n p (xs ++ ys)
all_of_append n p [] ys h i = i
all_of_append n p (x ∷ xs) ys h i = (h.0, all_of_append n p xs ys h.1 i)

-- where a call decided something, it didn't reinitialise its mutex
abbrev pub NoReinit : Operation → Option Reply → Type 0
NoReinit op None = Unit {0}
NoReinit op (Some x) = op ≢ Reinit

pub all_of_told : (n t p : ℕ) (op : Operation) (r : Option Reply) → 1 ≤ t → t ≤ n → NoReinit op r → AllOf n p (told t p op r)
all_of_told n t p op None pos le made = tt
all_of_told n t p op (Some r) pos le made = ((refl, pos, le, made), tt)

pub prefix_self : (xs : List Point) → IsPrefix xs xs
prefix_self xs = ([], append-nil xs)

pub prefix_more : (xs ys zs : List Point) → IsPrefix xs ys → IsPrefix xs (ys ++ zs)
prefix_more xs ys zs p = (p.0 ++ zs, sym (append_assoc xs p.0 zs) ∙ ap (λ l. l ++ zs) p.1)

-- a list that another extends by nothing
pub no_more : (xs ys : List Point) → xs ++ ys ≡ xs → ys ≡ []
no_more [] ys e = e
no_more (x ∷ xs) ys e = no_more xs ys (cc e)

-- ---- counts of cards

pub all_set : (t : ℕ) (vs : List (List Card)) (i : ℕ) (v w : List Card) → get_elem? vs i ≡ mathlib.Core.Option.some v → all_cards_of t (set vs i w) + cards_of t v ≡ all_cards_of t vs + cards_of t w
all_set t [] i v w e = absurd (some-ne-none v (sym e))
all_set t (x ∷ xs) zero v w e = let is : cards_of t x ≡ cards_of t v = ap (cards_of t) (some-injective x v e) in omega arith
all_set t (x ∷ xs) (suc i) v w e = let r = all_set t xs i v w e in omega arith

pub all_append : (t : ℕ) (vs ws : List (List Card)) → all_cards_of t (vs ++ ws) ≡ all_cards_of t vs + all_cards_of t ws
all_append t [] ws = omega arith
all_append t (v ∷ vs) ws = let r = all_append t vs ws in omega arith

pub cards_append : (t : ℕ) (vs ws : List Card) → cards_of t (vs ++ ws) ≡ cards_of t vs + cards_of t ws
cards_append t [] ws = omega arith
cards_append t (v ∷ vs) ws = let r = cards_append t vs ws in omega arith

pub all_one : (t : ℕ) (vs : List (List Card)) (i : ℕ) (v : List Card) → get_elem? vs i ≡ mathlib.Core.Option.some v → cards_of t v ≤ all_cards_of t vs
all_one t [] i v e = absurd (some-ne-none v (sym e))
all_one t (x ∷ xs) zero v e = let is : cards_of t x ≡ cards_of t v = ap (cards_of t) (some-injective x v e) in omega arith
all_one t (x ∷ xs) (suc i) v e = let r = all_one t xs i v e in omega arith

pub all_two : (t : ℕ) (vs : List (List Card)) (i j : ℕ) (v w : List Card) → get_elem? vs i ≡ mathlib.Core.Option.some v → get_elem? vs j ≡ mathlib.Core.Option.some w → j ≢ i → cards_of t v + cards_of t w ≤ all_cards_of t vs
all_two t [] i j v w e f n = absurd (some-ne-none v (sym e))
all_two t (x ∷ xs) zero zero v w e f n = absurd (n refl)
all_two t (x ∷ xs) zero (suc j) v w e f n = let is : cards_of t x ≡ cards_of t v = ap (cards_of t) (some-injective x v e) in let r = all_one t xs j w f in omega arith
all_two t (x ∷ xs) (suc i) zero v w e f n = let is : cards_of t x ≡ cards_of t w = ap (cards_of t) (some-injective x w f) in let r = all_one t xs i v e in omega arith
all_two t (x ∷ xs) (suc i) (suc j) v w e f n = let r = all_two t xs i j v w e f (λ q. n (ap suc q)) in omega arith

pub counted : (t : ℕ) (c : Card) (cs : List Card) → t ≡ c.thread → 1 ≤ cards_of t (c ∷ cs)
counted t c cs e = let one : if◌then◌else◌ {A = ℕ} (c.thread == t) 1 0 ≡ 1 = ap (λ (b : Bool). if◌then◌else◌ {A = ℕ} b 1 0) (eq-eqb c.thread t (sym e)) in omega arith

pub one_or_none : (u t : ℕ) (cs : List Card) (k : Layout') (counters : List ℕ) → t ≢ u → cards_of u cs ≡ 0 → cards_of u (first_card k counters t ∷ cs) ≡ 0
one_or_none u t cs k counters apart e = let b : if◌then◌else◌ {A = ℕ} (t == u) 1 0 ≡ 0 = ap (λ (b : Bool). if◌then◌else◌ {A = ℕ} b 1 0) (ne_eqb t u apart) in omega arith

-- ---- others

pub found_at : (xs : List ℕ) (i x : ℕ) → get_elem? xs i ≡ mathlib.Core.Option.some x → x ≡ get_or xs i 0
found_at [] i x e = absurd (some-ne-none x (sym e))
found_at (y ∷ ys) zero x e = sym (some-injective y x e)
found_at (y ∷ ys) (suc i) x e = found_at ys i x e

pub get_snoc : {A : Type 0} (xs : List A) (x y : A) (j : ℕ) → slice_get (xs ++ x ∷ []) j ≡ Some y → (slice_get xs j ≡ Some y) ⊎ ((j ≡ length xs) × (x ≡ y))
get_snoc [] x y zero e = inr (refl, cc e)
get_snoc [] x y (suc j) e = absurd (cc e)
get_snoc (z ∷ xs) x y zero e = inl e
get_snoc (z ∷ xs) x y (suc j) e = ⊎_elim (λ t. inl t) (λ (t : (j ≡ length xs) × (x ≡ y)). inr (ap suc t.0, t.1)) (get_snoc xs x y j e)

-- a list by index, and one more
pub each_more : (ws : List ℕ) (x n : ℕ) (f : ℕ → ℕ) → length ws ≡ n → ((p : ℕ) → p < n → get_or ws p 0 ≡ f p) → x ≡ f n → (p : ℕ) → p < n + 1 → get_or (ws ++ x ∷ []) p 0 ≡ f p
each_more ws x n f count each is p low = dite (ℕ_discrete p n)
    (λ here. ap (λ (z : ℕ). get_or (ws ++ x ∷ []) z 0) (here ∙ sym count) ∙ get_or-append_seam ws x [] 0 ∙ is ∙ ap f (sym here))
    (λ other. get_or_append_left ws (x ∷ []) 0 p (omega arith) ∙ each p (omega arith))

pub slice_get_low : {A : Type 0} (xs : List A) (i : ℕ) (x : A) → slice_get xs i ≡ Some x → i < length xs
slice_get_low [] i x e = absurd (cc e)
slice_get_low (y ∷ ys) zero x e = omega arith
slice_get_low (y ∷ ys) (suc i) x e = let r = slice_get_low ys i x e in omega arith

pub slice_get_or : {A : Type 0} (xs : List A) (i : ℕ) (d : A) → i < length xs → slice_get xs i ≡ Some (get_or xs i d)
slice_get_or [] i d low = absurd (omega arith)
slice_get_or (y ∷ ys) zero d low = refl
slice_get_or (y ∷ ys) (suc i) d low = slice_get_or ys i d (omega arith)
