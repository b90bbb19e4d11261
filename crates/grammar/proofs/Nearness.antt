-- The nearest of the words so far.
use Rattle.std.proofs.Common.{◌≡◌, ℕ, ◌+◌, ◌<◌, ◌≤◌, List, [], ◌∷◌, ◌++◌, length, get_or, map, take, Option, Some, None, sym, subst, ap, ◌∙◌, arith}
use Rattle.std.specs.Prelude.{option_map}
use Rattle.std.proofs.lemmas.List.{map-append, take_all, take_more}
use Rattle.std.proofs.lemmas.List.Elements.{All-push, Contains-append_left, Contains-push}
use Rattle.grammar.specs.Near.{IsNearest, edits, most_edits}

-- with how many edits fewer than which a further word would be nearer
abbrev pub IsBest : List ℕ → List (List ℕ) → ℕ → Option (List ℕ) → Type 0
IsBest w vs room None = (room ≡ most_edits w + 1) × IsNearest w vs None
IsBest w vs room (Some v) = (room ≡ edits w v) × IsNearest w vs (Some v)

pub none_yet : (w : List ℕ) → IsBest w [] (most_edits w + 1) None
none_yet w = (omega arith, λ k d lt. absurd (omega (arith, lt)))

pub nearest_is : (w : List ℕ) (vs : List (List ℕ)) (room : ℕ) (o : Option (List ℕ)) → IsBest w vs room o → IsNearest w vs o
nearest_is w vs room None h = h.1
nearest_is w vs room (Some v) h = h.1

-- a nearer one
pub nearer : (w : List ℕ) (vs : List (List ℕ)) (room : ℕ) (o : Option (List ℕ)) (u : List ℕ) → IsBest w vs room o → edits w u < room → IsBest w (vs ++ u ∷ []) (edits w u) (Some u)
nearer w vs room None u h lt =
    (omega arith, (Contains-push vs u, omega (arith, h.0, lt), All-push (λ v. edits w u ≤ edits w v) vs u (λ k d in_range. let far = h.1 k d in_range in omega (arith, far, h.0, lt)) (omega arith)))
nearer w vs room (Some b) u h lt =
    (omega arith, (Contains-push vs u, omega (arith, h.0, h.1.1, lt), All-push (λ v. edits w u ≤ edits w v) vs u (λ k d in_range. let far = h.1.2 k d in_range in omega (arith, far, h.0, lt)) (omega arith)))

-- one that isn't
pub farther : (w : List ℕ) (vs : List (List ℕ)) (room : ℕ) (o : Option (List ℕ)) (u : List ℕ) → IsBest w vs room o → room ≤ edits w u → IsBest w (vs ++ u ∷ []) room o
farther w vs room None u h far = (h.0, All-push (λ v. most_edits w < edits w v) vs u h.1 (omega (arith, h.0, far)))
farther w vs room (Some b) u h far = (h.0, (Contains-append_left vs (u ∷ []) b h.1.0, h.1.1, All-push (λ v. edits w b ≤ edits w v) vs u h.1.2 (omega (arith, h.0, far))))

-- ---- of a list, by the place of its next

one_more : {A : Type 0} (f : A → List ℕ) (ks : List A) (i : ℕ) (d : A) → i < length ks → map f (take (i + 1) ks) ≡ map f (take i ks) ++ f (get_or ks i d) ∷ []
one_more f ks i d lt = ap (map f) (take_more ks i d lt) ∙ map-append f (take i ks) (get_or ks i d ∷ [])

pub nearer_there : {A : Type 0} (f : A → List ℕ) (w : List ℕ) (ks : List A) (i : ℕ) (d : A) (room far : ℕ) (o p : Option A) → i < length ks → IsBest w (map f (take i ks)) room (option_map f o) → p ≡ Some (get_or ks i d) → far ≡ edits w (f (get_or ks i d)) → far < room → IsBest w (map f (take (i + 1) ks)) far (option_map f p)
nearer_there {A} f w ks i d room far o p lt h is e less =
    let near = nearer w (map f (take i ks)) room (option_map f o) (f (get_or ks i d)) h (omega (arith, e, less)) in
    let there = subst (λ (vs : List (List ℕ)). IsBest w vs (edits w (f (get_or ks i d))) (Some (f (get_or ks i d)))) (sym (one_more f ks i d lt)) near in
    let so_far = subst (λ (n : ℕ). IsBest w (map f (take (i + 1) ks)) n (Some (f (get_or ks i d)))) (sym e) there in
    subst (λ (q : Option A). IsBest w (map f (take (i + 1) ks)) far (option_map f q)) (sym is) so_far

pub farther_there : {A : Type 0} (f : A → List ℕ) (w : List ℕ) (ks : List A) (i : ℕ) (d : A) (room far : ℕ) (o p : Option A) → i < length ks → IsBest w (map f (take i ks)) room (option_map f o) → p ≡ o → far ≡ edits w (f (get_or ks i d)) → room ≤ far → IsBest w (map f (take (i + 1) ks)) room (option_map f p)
farther_there {A} f w ks i d room far o p lt h is e less =
    let on = farther w (map f (take i ks)) room (option_map f o) (f (get_or ks i d)) h (omega (arith, e, less)) in
    let there = subst (λ (vs : List (List ℕ)). IsBest w vs room (option_map f o)) (sym (one_more f ks i d lt)) on in
    subst (λ (q : Option A). IsBest w (map f (take (i + 1) ks)) room (option_map f q)) (sym is) there

-- all of it
pub nearest_of : {A : Type 0} (f : A → List ℕ) (w : List ℕ) (ks : List A) (i room : ℕ) (o : Option A) → length ks ≤ i → IsBest w (map f (take i ks)) room (option_map f o) → IsNearest w (map f ks) (option_map f o)
nearest_of f w ks i room o all h = nearest_is w (map f ks) room (option_map f o) (subst (λ l. IsBest w (map f l) room (option_map f o)) (take_all i ks all) h)
