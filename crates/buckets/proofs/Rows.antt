-- One ring through the rows: what a change of rows does to it.
use Rattle.std.proofs.Common.{◌≡◌, ◌≢◌, ℕ, zero, suc, ◌+◌, ◌<◌, ◌≤◌, Bool, true, false, List, [], ◌∷◌, ◌++◌, length, Option, Some, None, refl, sym, ap, ◌∙◌, subst, arith, ◌⊎◌, inl, inr, ◌-◌, append_assoc, append-nil, eqb-true}
use Rattle.std.specs.Prelude.{◌==◌, get_or, slice_get, replicate, if◌then◌else◌}
use Rattle.std.proofs.lemmas.Bool.Decides.{nat_tests}
use Rattle.buckets.specs.declared.row.Row.{Row}
use Rattle.buckets.specs.Rings.{row_of, first_or, last_or, row, put, with_after, with_before, joined, next_or, follow, Linked, IsRing, NotIn, Once}

-- rows that are the same for each thread are the same
pub ext : (v w : ℕ → Option Row) → ((u : ℕ) → v u ≡ w u) → v ≡ w
ext v w h = λ i u. h u i

pub put_same : (w : ℕ → Option Row) (t : ℕ) (r : Option Row) → put w t r t ≡ r
put_same w t r = grind (arith, nat_tests)

pub put_other : (w : ℕ → Option Row) (t : ℕ) (r : Option Row) (u : ℕ) → u ≢ t → put w t r u ≡ w u
put_other w t r u o = grind (arith, nat_tests)

-- ---- threads that are all different

pub away : (t : ℕ) (xs ys : List ℕ) → NotIn t (xs ++ ys) → NotIn t xs × NotIn t ys
away t [] ys h = (tt, h)
away t (x ∷ xs) ys h = let m = away t xs ys h.1 in ((h.0, m.0), m.1)

pub away_from_both : (t : ℕ) (xs ys : List ℕ) → NotIn t xs → NotIn t ys → NotIn t (xs ++ ys)
away_from_both t [] ys a b = b
away_from_both t (x ∷ xs) ys a b = (a.0, away_from_both t xs ys a.1 b)

abbrev pub Apart : List ℕ → List ℕ → Type 0
Apart [] ys = Unit {0}
Apart (x ∷ xs) ys = NotIn x ys × Apart xs ys

pub apart_tail : (xs : List ℕ) (y : ℕ) (ys : List ℕ) → Apart xs (y ∷ ys) → NotIn y xs × Apart xs ys
apart_tail [] y ys a = (tt, tt)
apart_tail (x ∷ xs) y ys a = let m = apart_tail xs y ys a.1 in (((λ s. a.0.0 (sym s)), m.0), (a.0.1, m.1))

pub apart_turned : (xs ys : List ℕ) → Apart xs ys → Apart ys xs
apart_turned xs [] a = tt
apart_turned xs (y ∷ ys) a = let m = apart_tail xs y ys a in (m.0, apart_turned xs ys m.1)

pub once_parts : (xs ys : List ℕ) → Once (xs ++ ys) → Once xs × Once ys × Apart xs ys
once_parts [] ys o = (tt, o, tt)
once_parts (x ∷ xs) ys o = let a = away x xs ys o.0 in let m = once_parts xs ys o.1 in ((a.0, m.0), m.1, (a.1, m.2))

pub once_both : (xs ys : List ℕ) → Once xs → Once ys → Apart xs ys → Once (xs ++ ys)
once_both [] ys a b c = b
once_both (x ∷ xs) ys a b c = (away_from_both x xs ys a.0 c.0, once_both xs ys a.1 b c.1)

pub once_turned : (xs ys : List ℕ) → Once (xs ++ ys) → Once (ys ++ xs)
once_turned xs ys o = let m = once_parts xs ys o in once_both ys xs m.1 m.0 (apart_turned xs ys m.2)

-- the last and the first of a list are other threads than one that is not in it
pub not_last : (t x : ℕ) (xs : List ℕ) → NotIn t (x ∷ xs) → last_or x xs ≢ t
not_last t x [] n = n.0
not_last t x (y ∷ ys) n = not_last t y ys n.1

pub not_last_or : (u t : ℕ) (zs : List ℕ) → u ≢ t → NotIn u zs → u ≢ last_or t zs
not_last_or u t [] o n = o
not_last_or u t (z ∷ zs) o n = λ s. not_last u z zs n (sym s)

pub not_first_or : (u t : ℕ) (zs : List ℕ) → u ≢ t → NotIn u zs → u ≢ first_or zs t
not_first_or u t [] o n = o
not_first_or u t (z ∷ zs) o n = λ s. n.0 (sym s)

pub last_of_push : (d t : ℕ) (xs : List ℕ) → last_or d (xs ++ t ∷ []) ≡ t
last_of_push d t [] = refl
last_of_push d t (x ∷ xs) = last_of_push x t xs

pub last_of_both : (d : ℕ) (xs ys : List ℕ) → last_or d (xs ++ ys) ≡ last_or (last_or d xs) ys
last_of_both d [] ys = refl
last_of_both d (x ∷ xs) ys = last_of_both x xs ys

-- ---- rows that are the same for each of a list

abbrev pub Same : (ℕ → Option Row) → (ℕ → Option Row) → List ℕ → Type 0
Same v w [] = Unit {0}
Same v w (t ∷ ts) = (w t ≡ v t) × Same v w ts

pub same_parts : (v w : ℕ → Option Row) (xs ys : List ℕ) → Same v w (xs ++ ys) → Same v w xs × Same v w ys
same_parts v w [] ys s = (tt, s)
same_parts v w (x ∷ xs) ys s = let m = same_parts v w xs ys s.1 in ((s.0, m.0), m.1)

pub same_steps : (u v w : ℕ → Option Row) (ids : List ℕ) → Same u v ids → Same v w ids → Same u w ids
same_steps u v w [] a b = tt
same_steps u v w (t ∷ ts) a b = (b.0 ∙ a.0, same_steps u v w ts a.1 b.1)

pub same_put : (w : ℕ → Option Row) (t : ℕ) (r : Option Row) (ids : List ℕ) → NotIn t ids → Same w (put w t r) ids
same_put w t r [] n = tt
same_put w t r (u ∷ us) n = (put_other w t r u n.0, same_put w t r us n.1)

pub same_joined : (w : ℕ → Option Row) (p n : ℕ) (ids : List ℕ) → NotIn p ids → NotIn n ids → Same w (joined w p n) ids
same_joined w p n ids a b =
    let v = put w p (with_after n (w p)) in
    same_steps w v (joined w p n) ids (same_put w p (with_after n (w p)) ids a) (same_put v n (with_before p (v n)) ids b)

pub joined_other : (w : ℕ → Option Row) (p n u : ℕ) → u ≢ p → u ≢ n → joined w p n u ≡ w u
joined_other w p n u a b =
    let v = put w p (with_after n (w p)) in
    put_other v n (with_before p (v n)) u b ∙ put_other w p (with_after n (w p)) u a

pub linked_same : (v w : ℕ → Option Row) (k b : ℕ) (ids : List ℕ) (a : ℕ) → Same v w ids → Linked v k b ids a → Linked w k b ids a
linked_same v w k b [] a s c = tt
linked_same v w k b (t ∷ ts) a s c = (s.0 ∙ c.0, linked_same v w k t ts a s.1 c.1)

pub follow_same : (v w : ℕ → Option Row) (n t : ℕ) → Same v w (follow v n t) → follow w n t ≡ follow v n t
follow_same v w zero t s = refl
follow_same v w (suc n) t s = ap (λ (q : List ℕ). t ∷ q) (ap (λ (o : Option Row). follow w n (next_or o t)) s.0 ∙ follow_same v w n (next_or (v t) t) s.1)

pub length_follow : (w : ℕ → Option Row) (n t : ℕ) → length (follow w n t) ≡ n
length_follow w zero t = refl
length_follow w (suc n) t = ap (λ (m : ℕ). suc m) (length_follow w n (next_or (w t) t))

-- who follows the first of linked threads are all of them
pub follow_linked : (w : ℕ → Option Row) (k b : ℕ) (ids : List ℕ) (a d : ℕ) → Linked w k b ids a → follow w (length ids) (first_or ids d) ≡ ids
follow_linked w k b [] a d c = refl
follow_linked w k b (t ∷ ts) a d c = ap (λ (q : List ℕ). t ∷ q) (ap (λ (o : Option Row). follow w (length ts) (next_or o t)) c.0 ∙ follow_linked w k t ts a a c.1)

-- ---- two lists of linked threads

pub linked_both : (w : ℕ → Option Row) (k b : ℕ) (xs ys : List ℕ) (a : ℕ) → Linked w k b xs (first_or ys a) → Linked w k (last_or b xs) ys a → Linked w k b (xs ++ ys) a
linked_both w k b [] ys a c d = d
linked_both w k b (x ∷ xs) ys a c d = (c.0 ∙ ap (λ (n : ℕ). Some (row k b n)) (next xs ys a), linked_both w k x xs ys a c.1 d)
  where
    next : (xs ys : List ℕ) (a : ℕ) → first_or xs (first_or ys a) ≡ first_or (xs ++ ys) a
    next [] ys a = refl
    next (x ∷ xs) ys a = refl

pub linked_parts : (w : ℕ → Option Row) (k b : ℕ) (xs ys : List ℕ) (a : ℕ) → Linked w k b (xs ++ ys) a → Linked w k b xs (first_or ys a) × Linked w k (last_or b xs) ys a
linked_parts w k b [] ys a c = (tt, c)
linked_parts w k b (x ∷ xs) ys a c = let m = linked_parts w k x xs ys a c.1 in ((c.0 ∙ ap (λ (n : ℕ). Some (row k b n)) (next xs ys a), m.0), m.1)
  where
    next : (xs ys : List ℕ) (a : ℕ) → first_or (xs ++ ys) a ≡ first_or xs (first_or ys a)
    next [] ys a = refl
    next (x ∷ xs) ys a = refl

-- a ring is one wherever one begins
pub turned : (w : ℕ → Option Row) (k : ℕ) (xs ys : List ℕ) → IsRing w k (xs ++ ys) → IsRing w k (ys ++ xs)
turned w k [] [] c = tt
turned w k [] (y ∷ ys) c = subst (IsRing w k) (sym (append_nil (y ∷ ys))) c
  where
    append_nil : (l : List ℕ) → l ++ [] ≡ l
    append_nil [] = refl
    append_nil (x ∷ l) = ap (λ (q : List ℕ). x ∷ q) (append_nil l)
turned w k (x ∷ xs) [] c = subst (IsRing w k) (append_nil (x ∷ xs)) c
  where
    append_nil : (l : List ℕ) → l ++ [] ≡ l
    append_nil [] = refl
    append_nil (x ∷ l) = ap (λ (q : List ℕ). x ∷ q) (append_nil l)
turned w k (x ∷ xs) (y ∷ ys) c =
    let first : Linked w k (last_or y ys) ((x ∷ xs) ++ (y ∷ ys)) x = subst (λ (b : ℕ). Linked w k b ((x ∷ xs) ++ (y ∷ ys)) x) (last_of_both x xs (y ∷ ys)) c in
    let m = linked_parts w k (last_or y ys) (x ∷ xs) (y ∷ ys) x first in
    subst (λ (b : ℕ). Linked w k b ((y ∷ ys) ++ (x ∷ xs)) y) (sym (last_of_both y ys (x ∷ xs)))
    (linked_both w k (last_or x xs) (y ∷ ys) (x ∷ xs) y m.1 m.0)

-- ---- neighbours

-- the last of linked threads gets another one after it
pub after_put : (w : ℕ → Option Row) (k b x : ℕ) (xs : List ℕ) (a n : ℕ) → Linked w k b (x ∷ xs) a → Once (x ∷ xs) → Linked (put w (last_or x xs) (with_after n (w (last_or x xs)))) k b (x ∷ xs) n
after_put w k b x [] a n c o = (put_same w x (with_after n (w x)) ∙ ap (with_after n) c.0, tt)
after_put w k b x (y ∷ ys) a n c o =
    let p = last_or y ys in
    (put_other w p (with_after n (w p)) x (λ s. not_last x y ys o.0 (sym s)) ∙ c.0, after_put w k x y ys a n c.1 o.1)

-- the first of linked threads gets another one before it
pub before_put : (w : ℕ → Option Row) (k b y : ℕ) (ys : List ℕ) (a p : ℕ) → Linked w k b (y ∷ ys) a → NotIn y ys → Linked (put w y (with_before p (w y))) k p (y ∷ ys) a
before_put w k b y ys a p c o =
    (put_same w y (with_before p (w y)) ∙ ap (with_before p) c.0, linked_same w (put w y (with_before p (w y))) k y ys a (same_put w y (with_before p (w y)) ys o) c.1)

-- the ring is closed after a thread that leaves it
pub closed : (w : ℕ → Option Row) (k t : ℕ) (zs : List ℕ) → Linked w k t zs t → Once zs → NotIn t zs → IsRing (put (joined w (last_or t zs) (first_or zs t)) t None) k zs
closed w k t [] c o n = tt
closed w k t (x ∷ xs) c o n =
    let p = last_or x xs in
    let v = put w p (with_after x (w p)) in
    let u = joined w p x in
    linked_same u (put u t None) k p (x ∷ xs) x (same_put u t None (x ∷ xs) n) (before_put v k t x xs x p (after_put w k t x xs t x c o) o.0)

-- the row of a thread in its ring, and the ring without it
pub its_row : (w : ℕ → Option Row) (k t : ℕ) (xs ys : List ℕ) → IsRing w k (xs ++ t ∷ ys) → w t ≡ Some (row k (last_or t (ys ++ xs)) (first_or (ys ++ xs) t))
its_row w k t xs ys c = (turned w k xs (t ∷ ys) c).0

pub unlinked : (w : ℕ → Option Row) (k t : ℕ) (xs ys : List ℕ) → IsRing w k (xs ++ t ∷ ys) → Once (xs ++ t ∷ ys) → IsRing (put (joined w (last_or t (ys ++ xs)) (first_or (ys ++ xs) t)) t None) k (xs ++ ys)
unlinked w k t xs ys c o =
    let once = once_turned xs (t ∷ ys) o in
    turned (put (joined w (last_or t (ys ++ xs)) (first_or (ys ++ xs) t)) t None) k ys xs (closed w k t (ys ++ xs) (turned w k xs (t ∷ ys) c).1 once.1 once.0)

-- a thread that is a ring of its own gets after the last of another ring
pub appended : (w : ℕ → Option Row) (k t x : ℕ) (xs : List ℕ) → IsRing w k (x ∷ xs) → Once (x ∷ xs) → NotIn t (x ∷ xs) → w t ≡ Some (row k t t) → IsRing (joined (joined w (last_or x xs) t) t x) k ((x ∷ xs) ++ t ∷ [])
appended w k t x xs c o n is =
    let l = last_or x xs in
    let v1 = put w l (with_after t (w l)) in
    let v2 = put v1 t (with_before l (v1 t)) in
    let v3 = put v2 t (with_after x (v2 t)) in
    let v4 = put v3 x (with_before t (v3 x)) in
    let all = x ∷ xs in
    let r1 : v1 t ≡ Some (row k t t) = put_other w l (with_after t (w l)) t (λ s. not_last t x xs n (sym s)) ∙ is in
    let r2 : v2 t ≡ Some (row k l t) = put_same v1 t (with_before l (v1 t)) ∙ ap (with_before l) r1 in
    let r3 : v3 t ≡ Some (row k l x) = put_same v2 t (with_after x (v2 t)) ∙ ap (with_after x) r2 in
    let r4 : v4 t ≡ Some (row k l x) = put_other v3 x (with_before t (v3 x)) t (λ s. n.0 (sym s)) ∙ r3 in
    let l1 : Linked v1 k l all t = after_put w k l x xs x t c o in
    let l2 : Linked v2 k l all t = linked_same v1 v2 k l all t (same_put v1 t (with_before l (v1 t)) all n) l1 in
    let l3 : Linked v3 k l all t = linked_same v2 v3 k l all t (same_put v2 t (with_after x (v2 t)) all n) l2 in
    let l4 : Linked v4 k t all t = before_put v3 k l x xs t t l3 o.0 in
    subst (λ (b : ℕ). Linked v4 k b (all ++ t ∷ []) x) (sym (last_of_push x t xs)) (linked_both v4 k t all (t ∷ []) x l4 (r4, tt))

-- linked threads have rows on their key
pub keyed : (w : ℕ → Option Row) (k b : ℕ) (ids : List ℕ) (a t : ℕ) (r : Row) → Linked w k b ids a → w t ≡ Some r → k ≢ r.key.0 → NotIn t ids
keyed w k b [] a t r c is o = tt
keyed w k b (x ∷ xs) a t r c is o = (λ s. o (ap key (sym c.0 ∙ ap w s ∙ is)), keyed w k x xs a t r c.1 is o)
  where
    key : Option Row → ℕ
    key None = 0
    key (Some r) = r.key.0

-- a thread is among some, between those before it and those after it, or it isn't
pub among : (t : ℕ) (ids : List ℕ) → NotIn t ids ⊎ ((xs : List ℕ) × (ys : List ℕ) × (ids ≡ xs ++ t ∷ ys))
among t [] = inl tt
among t (x ∷ xs) = go (x == t) refl (among t xs)
  where
    go : (b : Bool) → (x == t) ≡ b → NotIn t xs ⊎ ((fs : List ℕ) × (bs : List ℕ) × (xs ≡ fs ++ t ∷ bs)) → NotIn t (x ∷ xs) ⊎ ((fs : List ℕ) × (bs : List ℕ) × (x ∷ xs ≡ fs ++ t ∷ bs))
    go true e m = inr ([], xs, ap (λ (u : ℕ). u ∷ xs) (eqb-true x t e))
    go false e (inl n) = inl ((λ s. absurd (grind (arith, nat_tests))), n)
    go false e (inr m) = inr (x ∷ m.0, m.1, ap (λ (q : List ℕ). x ∷ q) m.2)

-- one more thread is followed
pub one_follows : (w : ℕ → Option Row) (ids : List ℕ) (n i t : ℕ) (all : List ℕ) → i < n → ids ++ follow w (n - i) t ≡ all → (ids ++ t ∷ []) ++ follow w (n - (i + 1)) (next_or (w t) t) ≡ all
one_follows w ids n i t all lt is =
    append_assoc ids (t ∷ []) (follow w (n - (i + 1)) (next_or (w t) t))
    ∙ ap (λ (m : ℕ). ids ++ follow w m t) (less lt) ∙ is
  where
    less : i < n → suc (n - (i + 1)) ≡ n - i
    less lt = omega (arith, lt)

pub all_followed : (w : ℕ → Option Row) (ids : List ℕ) (n i t : ℕ) (all : List ℕ) → n ≤ i → ids ++ follow w (n - i) t ≡ all → ids ≡ all
all_followed w ids n i t all le is = sym (append-nil ids) ∙ ap (λ (m : ℕ). ids ++ follow w m t) (none le) ∙ is
  where
    none : n ≤ i → 0 ≡ n - i
    none le = omega (arith, le)

pub none_followed : (w : ℕ → Option Row) (ids : List ℕ) (n t : ℕ) → ids ≡ [] → ids ++ follow w (n - 0) t ≡ follow w n t
none_followed w ids n t e = ap (λ (q : List ℕ). q ++ follow w (n - 0) t) e ∙ ap (λ (m : ℕ). follow w m t) (whole n)
  where
    whole : (n : ℕ) → n - 0 ≡ n
    whole n = omega arith

-- ---- threads that are in another list

pub apart_parts : (xs ys l : List ℕ) → Apart (xs ++ ys) l → Apart xs l × Apart ys l
apart_parts [] ys l a = (tt, a)
apart_parts (x ∷ xs) ys l a = let m = apart_parts xs ys l a.1 in ((a.0, m.0), m.1)

pub apart_both : (xs ys l : List ℕ) → Apart xs l → Apart ys l → Apart (xs ++ ys) l
apart_both [] ys l a b = b
apart_both (x ∷ xs) ys l a b = (a.0, apart_both xs ys l a.1 b)

pub apart_last : (t : ℕ) (zs l : List ℕ) → NotIn t l → Apart zs l → NotIn (last_or t zs) l
apart_last t [] l n a = n
apart_last t (z ∷ zs) l n a = apart_last z zs l a.0 a.1

pub apart_first : (t : ℕ) (zs l : List ℕ) → NotIn t l → Apart zs l → NotIn (first_or zs t) l
apart_first t [] l n a = n
apart_first t (z ∷ zs) l n a = a.0

-- a thread out of its ring changes no row of those in other rings
pub same_unlinked : (w : ℕ → Option Row) (t : ℕ) (xs ys l : List ℕ) → Apart (xs ++ t ∷ ys) l → Same w (put (joined w (last_or t (ys ++ xs)) (first_or (ys ++ xs) t)) t None) l
same_unlinked w t xs ys l a =
    let m = apart_parts xs (t ∷ ys) l a in
    let zs = apart_both ys xs l m.1.1 m.0 in
    let v = joined w (last_or t (ys ++ xs)) (first_or (ys ++ xs) t) in
    same_steps w v (put v t None) l
    (same_joined w (last_or t (ys ++ xs)) (first_or (ys ++ xs) t) l (apart_last t (ys ++ xs) l m.1.0 zs) (apart_first t (ys ++ xs) l m.1.0 zs))
    (same_put v t None l m.1.0)

-- nor does a thread that gets into a ring
pub same_appended : (w : ℕ → Option Row) (t x : ℕ) (xs : List ℕ) (r : Option Row) (l : List ℕ) → NotIn t l → Apart (x ∷ xs) l → Same w (joined (joined (put w t r) (last_or x xs) t) t x) l
same_appended w t x xs r l n a =
    let v1 = put w t r in
    let v2 = joined v1 (last_or x xs) t in
    same_steps w v2 (joined v2 t x) l
    (same_steps w v1 v2 l (same_put w t r l n) (same_joined v1 (last_or x xs) t l (apart_last x xs l a.0 a.1) n))
    (same_joined v2 t x l n a.0)

pub first_of_follow : (w : ℕ → Option Row) (n t d : ℕ) → 1 ≤ n → first_or (follow w n t) d ≡ t
first_of_follow w zero t d le = absurd (omega (arith, le))
first_of_follow w (suc n) t d le = refl

pub once_less : (xs : List ℕ) (t : ℕ) (ys : List ℕ) → Once (xs ++ t ∷ ys) → Once (xs ++ ys)
once_less xs t ys o = let m = once_parts xs (t ∷ ys) o in once_both xs ys m.0 m.1.1 (apart_tail xs t ys m.2).1

pub away_more : (u : ℕ) (xs : List ℕ) (t : ℕ) (ys : List ℕ) → NotIn u (xs ++ ys) → t ≢ u → NotIn u (xs ++ t ∷ ys)
away_more u xs t ys n o = let m = away u xs ys n in away_from_both u xs (t ∷ ys) m.0 (o, m.1)

-- who is first when a thread has left
pub first_left : (xs ys : List ℕ) (t f : ℕ) → f ≡ first_or (xs ++ t ∷ ys) 0 → Once (xs ++ t ∷ ys) → (if f == t then first_or (ys ++ xs) t else f) ≡ first_or (xs ++ ys) t
first_left [] ys t f is o = go (f == t) refl
  where
    go : (b : Bool) → (f == t) ≡ b → (if b then first_or (ys ++ []) t else f) ≡ first_or ys t
    go true e = ap (λ (q : List ℕ). first_or q t) (append-nil ys)
    go false e = absurd (grind (arith, nat_tests))
first_left (x ∷ xs) ys t f is o = go (f == t) refl
  where
    go : (b : Bool) → (f == t) ≡ b → (if b then first_or (ys ++ x ∷ xs) t else f) ≡ x
    go true e = absurd ((away x xs (t ∷ ys) o.0).1.0 (sym (eqb-true f t e) ∙ is))
    go false e = is

-- a thread with no row is none of linked threads
pub rowless : (w : ℕ → Option Row) (k b : ℕ) (ids : List ℕ) (a t : ℕ) → Linked w k b ids a → w t ≡ None → NotIn t ids
rowless w k b [] a t c is = tt
rowless w k b (x ∷ xs) a t c is = (λ s. some (sym c.0 ∙ ap w s ∙ is), rowless w k x xs a t c.1 is)
  where
    some : {r : Row} → Some r ≡ None → ⊥
    some e = cc

pub once_more : (xs : List ℕ) (t : ℕ) (ys : List ℕ) → Once (xs ++ ys) → NotIn t (xs ++ ys) → Once (xs ++ t ∷ ys)
once_more [] t ys o n = (n, o)
once_more (x ∷ xs) t ys o n = (away_more x xs t ys o.0 (λ e. n.0 (sym e)), once_more xs t ys o.1 n.1)

pub away_less : (u : ℕ) (xs : List ℕ) (t : ℕ) (ys : List ℕ) → NotIn u (xs ++ t ∷ ys) → (t ≢ u) × NotIn u (xs ++ ys)
away_less u xs t ys n = let m = away u xs (t ∷ ys) n in (m.1.0, away_from_both u xs ys m.0 m.1.1)

pub follow_some : (w : ℕ → Option Row) (n t : ℕ) → 1 ≤ n → (ts : List ℕ) × (follow w n t ≡ t ∷ ts)
follow_some w zero t le = absurd (omega (arith, le))
follow_some w (suc n) t le = (follow w n (next_or (w t) t), refl)

-- rows after a thread got into a ring, at others than its new neighbours
pub appended_other : (w : ℕ → Option Row) (t x : ℕ) (xs : List ℕ) (r : Option Row) (u : ℕ) → t ≢ u → NotIn u (x ∷ xs) → joined (joined (put w t r) (last_or x xs) t) t x u ≡ w u
appended_other w t x xs r u o n =
    let v = put w t r in
    joined_other (joined v (last_or x xs) t) t x u (λ e. o (sym e)) (λ e. n.0 (sym e))
    ∙ joined_other v (last_or x xs) t u (λ e. not_last u x xs n (sym e)) (λ e. o (sym e)) ∙ put_other w t r u (λ e. o (sym e))

-- where nobody sleeps
pub nobody : (n t : ℕ) → row_of (replicate n None) t ≡ None
nobody n zero = refl
nobody zero (suc t) = refl
nobody (suc n) (suc zero) = refl
nobody (suc n) (suc (suc t)) = nobody n (suc t)

-- a row at its index
pub slot_some : (rows : List (Option Row)) (t : ℕ) (r : Row) → row_of rows t ≡ Some r → slice_get rows (t - 1) ≡ Some (Some r)
slot_some rows zero r e = absurd cc
slot_some rows (suc i) r e = ap (λ (j : ℕ). slice_get rows j) (less i) ∙ go rows i e
  where
    less : (i : ℕ) → suc i - 1 ≡ i
    less i = omega arith

    go : (rows : List (Option Row)) (i : ℕ) → get_or rows i None ≡ Some r → slice_get rows i ≡ Some (Some r)
    go [] i e = absurd cc
    go (x ∷ xs) zero e = ap (λ (o : Option Row). Some o) e
    go (x ∷ xs) (suc i) e = go xs i e

pub slot_none : (rows : List (Option Row)) (t : ℕ) → 1 ≤ t → t ≤ length rows → row_of rows t ≡ None → slice_get rows (t - 1) ≡ Some None
slot_none rows zero le lt e = absurd (omega (arith, le))
slot_none rows (suc i) le lt e = ap (λ (j : ℕ). slice_get rows j) (less i) ∙ go rows i lt e
  where
    less : (i : ℕ) → suc i - 1 ≡ i
    less i = omega arith

    go : (rows : List (Option Row)) (i : ℕ) → suc i ≤ length rows → get_or rows i None ≡ None → slice_get rows i ≡ Some None
    go [] i lt e = absurd (omega (arith, lt))
    go (x ∷ xs) zero lt e = ap (λ (o : Option Row). Some o) e
    go (x ∷ xs) (suc i) lt e = go xs i (omega (arith, lt)) e
