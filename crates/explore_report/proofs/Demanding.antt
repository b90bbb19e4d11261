-- What is asked of every outcome: how it is read, and what it means that it is met or broken.
use Rattle.std.proofs.Common.{◌≡◌, ℕ, zero, suc, ◌+◌, not, Bool, true, false, List, [], ◌∷◌, ◌++◌, length, Option, Some, None, Result, Ok, Err, refl, sym, ap, subst, ◌∙◌, arith}
use Rattle.std.specs.Prelude.{is_some, slice_get, if◌then◌else◌}
use Rattle.lines.specs.Lines.{words_of}
use Rattle.outcomes.specs.Outcomes.{outcome_in}
use Rattle.outcomes.specs.declared.exploring.Witnessed.{Witnessed}
use Rattle.script.specs.Scope.{Scope}
use Rattle.explore_report.specs.declared.patterns.Pattern.{Pattern}
use Rattle.explore_report.specs.Meets.{Breaks, Holds, Meets}
use Rattle.explore_report.specs.Patterns.{is_met, pattern_words}
use Rattle.explore_report.specs.Texts.{Demanded, are_met, breaks, first_broken, is_broken}
use Rattle.explore_report.specs.Told.{both, demand_read, demands_read}
use Rattle.explore_report.proofs.Meeting.{met_only, met_so}

-- ---- outcomes and demands

holds_for : (p : Pattern) (always : Bool) (w : Witnessed) → breaks p always w ≡ false → Holds always p (outcome_in w.outcome)
holds_for p true w h = go (is_met w.outcome p) refl h
  where
    go : (b : Bool) → is_met w.outcome p ≡ b → (if b then not true else true) ≡ false → Meets (outcome_in w.outcome) p
    go true e k = met_so w.outcome p e
    go false e k = absurd cc
holds_for p false w h = λ meets. let e = met_only w.outcome p meets in absurd (go (is_met w.outcome p) e h)
  where
    go : (b : Bool) → b ≡ true → (if b then not false else false) ≡ false → ⊥
    go true e k = cc
    go false e k = cc

breaks_for : (p : Pattern) (always : Bool) (w : Witnessed) → breaks p always w ≡ true → Breaks always p (outcome_in w.outcome)
breaks_for p true w h = λ meets. let e = met_only w.outcome p meets in absurd (go (is_met w.outcome p) e h)
  where
    go : (b : Bool) → b ≡ true → (if b then not true else true) ≡ true → ⊥
    go true e k = cc
    go false e k = cc
breaks_for p false w h = go (is_met w.outcome p) refl h
  where
    go : (b : Bool) → is_met w.outcome p ≡ b → (if b then not false else false) ≡ true → Meets (outcome_in w.outcome) p
    go true e k = met_so w.outcome p e
    go false e k = absurd cc

-- no outcome breaks the demand
unbroken : (d : Demanded) (n : ℕ) (ws : List Witnessed) → is_some (first_broken d n ws) ≡ false → (i : ℕ) (w : Witnessed) → slice_get ws i ≡ Some w → Holds d.always d.pattern (outcome_in w.outcome)
unbroken d n [] h i w there = absurd cc
unbroken d n (x ∷ ws) h i w there = go (breaks d.pattern d.always x) refl (λ k j at. unbroken d (n + 1) ws k j w at) h i there
  where
    go : (b : Bool) → breaks d.pattern d.always x ≡ b
        → (is_some (first_broken d (n + 1) ws) ≡ false → (j : ℕ) → slice_get ws j ≡ Some w → Holds d.always d.pattern (outcome_in w.outcome))
        → is_some (if b then Some (n + 1) else first_broken d (n + 1) ws) ≡ false → (k : ℕ) → slice_get (x ∷ ws) k ≡ Some w → Holds d.always d.pattern (outcome_in w.outcome)
    go true e more k j at = absurd cc
    go false e more k zero at = let same : x ≡ w = cc in subst (λ (v : Witnessed). Holds d.always d.pattern (outcome_in v.outcome)) same (holds_for d.pattern d.always x e)
    go false e more k (suc j) at = more k j at

-- an outcome breaks it
broken : (d : Demanded) (n : ℕ) (ws : List Witnessed) → is_some (first_broken d n ws) ≡ true → (i : ℕ) × (w : Witnessed) × (slice_get ws i ≡ Some w) × Breaks d.always d.pattern (outcome_in w.outcome)
broken d n [] h = absurd cc
broken d n (x ∷ ws) h = go (breaks d.pattern d.always x) refl (broken d (n + 1) ws) h
  where
    go : (b : Bool) → breaks d.pattern d.always x ≡ b
        → (is_some (first_broken d (n + 1) ws) ≡ true → (i : ℕ) × (w : Witnessed) × (slice_get ws i ≡ Some w) × Breaks d.always d.pattern (outcome_in w.outcome))
        → is_some (if b then Some (n + 1) else first_broken d (n + 1) ws) ≡ true → (i : ℕ) × (w : Witnessed) × (slice_get (x ∷ ws) i ≡ Some w) × Breaks d.always d.pattern (outcome_in w.outcome)
    go true e more k = (0, x, refl, breaks_for d.pattern d.always x e)
    go false e more k = let r = more k in (suc r.0, r.1, r.2, r.3)

-- ---- all demands

pub all_hold : (ws : List Witnessed) (ds : List Demanded) → are_met ws ds ≡ true → (i : ℕ) (d : Demanded) → slice_get ds i ≡ Some d → (k : ℕ) (w : Witnessed) → slice_get ws k ≡ Some w → Holds d.always d.pattern (outcome_in w.outcome)
all_hold ws [] h i d there k w at = absurd cc
all_hold ws (x ∷ ds) h i d there k w at = go (is_broken ws x) refl (λ m j here. all_hold ws ds m j d here k w at) h i there
  where
    go : (b : Bool) → is_broken ws x ≡ b
        → (are_met ws ds ≡ true → (j : ℕ) → slice_get ds j ≡ Some d → Holds d.always d.pattern (outcome_in w.outcome))
        → (if b then false else are_met ws ds) ≡ true → (j : ℕ) → slice_get (x ∷ ds) j ≡ Some d → Holds d.always d.pattern (outcome_in w.outcome)
    go true e more m j here = absurd cc
    go false e more m zero here = let same : x ≡ d = cc in subst (λ (y : Demanded). Holds y.always y.pattern (outcome_in w.outcome)) same (unbroken x 0 ws e k w at)
    go false e more m (suc j) here = more m j here

pub one_breaks : (ws : List Witnessed) (ds : List Demanded) → are_met ws ds ≡ false → (i : ℕ) × (d : Demanded) × (slice_get ds i ≡ Some d) × ((k : ℕ) × (w : Witnessed) × (slice_get ws k ≡ Some w) × Breaks d.always d.pattern (outcome_in w.outcome))
one_breaks ws [] h = absurd cc
one_breaks ws (x ∷ ds) h = go (is_broken ws x) refl (one_breaks ws ds) h
  where
    go : (b : Bool) → is_broken ws x ≡ b
        → (are_met ws ds ≡ false → (i : ℕ) × (d : Demanded) × (slice_get ds i ≡ Some d) × ((k : ℕ) × (w : Witnessed) × (slice_get ws k ≡ Some w) × Breaks d.always d.pattern (outcome_in w.outcome)))
        → (if b then false else are_met ws ds) ≡ false → (i : ℕ) × (d : Demanded) × (slice_get (x ∷ ds) i ≡ Some d) × ((k : ℕ) × (w : Witnessed) × (slice_get ws k ≡ Some w) × Breaks d.always d.pattern (outcome_in w.outcome))
    go true e more m = (0, x, refl, broken x 0 ws e)
    go false e more m = let r = more m in (suc r.0, r.1, r.2, r.3)

-- ---- how they are read

-- one of the words is a pattern, and is asked for
pub record IsRead (s : Scope) (always : Bool) (w : List ℕ) (ds : List Demanded) : Type 0 where
  pub pattern : Pattern
  pub reads : pattern_words s (words_of w) ≡ Some pattern
  pub place : ℕ
  pub there : slice_get ds place ≡ Some (record { words = w; pattern = pattern; always = always })

pub reads : (s : Scope) (always : Bool) (ws : List (List ℕ)) (ds : List Demanded) → demands_read s always ws ≡ Ok ds → (i : ℕ) (w : List ℕ) → slice_get ws i ≡ Some w → IsRead s always w ds
reads s always [] ds e i w there = absurd cc
reads s always (x ∷ ws) ds e i w there = go (pattern_words s (words_of x)) refl (λ rest more j at. reads s always ws rest more j w at) (demands_read s always ws) refl e i there
  where
    go : (o : Option Pattern) → pattern_words s (words_of x) ≡ o
        → ((rest : List Demanded) → demands_read s always ws ≡ Ok rest → (j : ℕ) → slice_get ws j ≡ Some w → IsRead s always w rest)
        → (r : Result (List Demanded) (List ℕ)) → demands_read s always ws ≡ r → both (demand_read x always o) r ≡ Ok ds → (j : ℕ) → slice_get (x ∷ ws) j ≡ Some w → IsRead s always w ds
    go None is behind r more all j at = absurd cc
    go (Some p) is behind (Err other) more all j at = absurd cc
    go (Some p) is behind (Ok rest) more all zero at =
        let same : x ≡ w = cc in
        let first : (record { words = x; pattern = p; always = always }) ∷ rest ≡ ds = cc in
        record {
          pattern = p;
          reads = ap (λ (v : List ℕ). pattern_words s (words_of v)) (sym same) ∙ is;
          place = 0;
          there = sym (ap (λ (l : List Demanded). slice_get l 0) first) ∙ ap (λ (v : List ℕ). Some (record { words = v; pattern = p; always = always })) same;
        }
    go (Some p) is behind (Ok rest) more all (suc j) at =
        let later = behind rest more j at in
        let first : (record { words = x; pattern = p; always = always }) ∷ rest ≡ ds = cc in
        record {
          pattern = later.pattern;
          reads = later.reads;
          place = suc later.place;
          there = sym (ap (λ (l : List Demanded). slice_get l (suc later.place)) first) ∙ later.there;
        }

-- of two lists
get_left : (xs ys : List Demanded) (i : ℕ) (d : Demanded) → slice_get xs i ≡ Some d → slice_get (xs ++ ys) i ≡ Some d
get_left [] ys i d there = absurd cc
get_left (x ∷ xs) ys zero d there = there
get_left (x ∷ xs) ys (suc i) d there = get_left xs ys i d there

get_right : (xs ys : List Demanded) (i : ℕ) (d : Demanded) → slice_get ys i ≡ Some d → (k : ℕ) × (slice_get (xs ++ ys) k ≡ Some d)
get_right [] ys i d there = (i, there)
get_right (x ∷ xs) ys i d there = let r = get_right xs ys i d there in (suc r.0, r.1)

pub read_first : (s : Scope) (w : List ℕ) (always : Bool) (words : List (List ℕ)) (r : Result (List Demanded) (List ℕ)) (ds : List Demanded) → both (demands_read s always words) r ≡ Ok ds → (i : ℕ) → slice_get words i ≡ Some w → IsRead s always w ds
read_first s w always words r ds e i there = go (demands_read s always words) refl r e
  where
    go : (a : Result (List Demanded) (List ℕ)) → demands_read s always words ≡ a → (b : Result (List Demanded) (List ℕ)) → both a b ≡ Ok ds → IsRead s always w ds
    go (Err x) is b k = absurd cc
    go (Ok xs) is (Err x) k = absurd cc
    go (Ok xs) is (Ok ys) k =
        let d = reads s always words xs is i w there in
        let all : xs ++ ys ≡ ds = cc in
        record { pattern = d.pattern; reads = d.reads; place = d.place; there = ap (λ (l : List Demanded). slice_get l d.place) (sym all) ∙ get_left xs ys d.place _ d.there }

pub read_last : (s : Scope) (w : List ℕ) (always : Bool) (words : List (List ℕ)) (r : Result (List Demanded) (List ℕ)) (ds : List Demanded) → both r (demands_read s always words) ≡ Ok ds → (i : ℕ) → slice_get words i ≡ Some w → IsRead s always w ds
read_last s w always words r ds e i there = go r (demands_read s always words) refl e
  where
    go : (a b : Result (List Demanded) (List ℕ)) → demands_read s always words ≡ b → both a b ≡ Ok ds → IsRead s always w ds
    go (Err x) b is k = absurd cc
    go (Ok xs) (Err x) is k = absurd cc
    go (Ok xs) (Ok ys) is k =
        let d = reads s always words ys is i w there in
        let all : xs ++ ys ≡ ds = cc in
        let at = get_right xs ys d.place _ d.there in
        record { pattern = d.pattern; reads = d.reads; place = at.0; there = ap (λ (l : List Demanded). slice_get l at.0) (sym all) ∙ at.1 }
