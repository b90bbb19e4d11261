-- The outcomes in the order of their numbers are those that were found, each once.
use Rattle.std.proofs.Common.{◌≡◌, ◌≢◌, ℕ, zero, suc, ◌+◌, ◌-◌, ◌<◌, ◌≤◌, ◌==◌, Bool, true, false, ◌⊎◌, inl, inr, List, [], ◌∷◌, ◌++◌, length, map, Option, Some, None, refl, sym, ap, subst, ◌∙◌, arith, eqb-true, eq-eqb}
use Rattle.std.specs.Prelude.{filter, slice_get, if◌then◌else◌}
use Rattle.std.specs.List.{flat_map, range_with_len}
use Rattle.outcomes.specs.Outcomes.{AreDifferent, AreWitnessed, Ended', HasAll, IsListed, IsWitnessed, Outcome', ended_in, outcome_in, outcome_of}
use Rattle.outcomes.specs.declared.exploring.Witnessed.{Witnessed}
use Rattle.outcomes.specs.declared.outcome.Ended.{Ended}
use Rattle.outcomes.specs.declared.plan.Plan.{Plan}
use Rattle.explore_report.specs.Patterns.{is_dead}
use Rattle.explore_report.specs.Texts.{deaths, in_order, with_deaths}

-- ---- what holds of each

abbrev pub Each : (Witnessed → Type 0) → List Witnessed → Type 0
Each P [] = Unit {0}
Each P (w ∷ ws) = P w × Each P ws

module _ (P : Witnessed → Type 0) where
  pub each_at : (ws : List Witnessed) → Each P ws → (i : ℕ) (w : Witnessed) → slice_get ws i ≡ Some w → P w
  each_at [] h i w e = absurd cc
  each_at (x ∷ ws) h zero w e = let same : x ≡ w = cc in subst P same h.0
  each_at (x ∷ ws) h (suc i) w e = each_at ws h.1 i w e

  each_append : (xs ys : List Witnessed) → Each P xs → Each P ys → Each P (xs ++ ys)
  each_append [] ys h k = k
  each_append (x ∷ xs) ys h k = (h.0, each_append xs ys h.1 k)

  each_filter : (test : Witnessed → Bool) (ws : List Witnessed) → Each P ws → Each P (filter test ws)
  each_filter test [] h = tt
  each_filter test (w ∷ ws) h = go (test w) (each_filter test ws h.1)
    where
      go : (b : Bool) → Each P (filter test ws) → Each P (if b then w ∷ filter test ws else filter test ws)
      go true more = (h.0, more)
      go false more = more

  each_flat : (f : ℕ → List Witnessed) (ns : List ℕ) → ((n : ℕ) → Each P (f n)) → Each P (flat_map f ns)
  each_flat f [] h = tt
  each_flat f (n ∷ ns) h = each_append (f n) (flat_map f ns) (h n) (each_flat f ns h)

  pub each_in_order : (n : ℕ) (ws : List Witnessed) → Each P ws → Each P (in_order n ws)
  each_in_order n ws h = each_flat (with_deaths ws) (range_with_len 0 (n + 1)) (λ k. each_filter (λ w. deaths w == k) ws h)

pub each_witnessed : (plan : Plan) (ws : List Witnessed) → AreWitnessed plan ws → Each (IsWitnessed plan) ws
each_witnessed plan [] h = tt
each_witnessed plan (w ∷ ws) h = (h.0, each_witnessed plan ws h.1)

-- ---- deaths are seen in the outcome

abbrev deaths_in : Outcome' → ℕ
deaths_in o = length (filter (λ e. is_dead e.end) o.threads)

deaths_of : (es : List Ended) → length (filter (λ e. is_dead e.end) es) ≡ length (filter (λ e. is_dead e.end) (map ended_in es))
deaths_of [] = refl
deaths_of (e ∷ es) = go (is_dead e.end) (deaths_of es)
  where
    go : (b : Bool) → length (filter (λ e. is_dead e.end) es) ≡ length (filter (λ e. is_dead e.end) (map ended_in es)) → length (if b then e ∷ filter (λ e. is_dead e.end) es else filter (λ e. is_dead e.end) es)
        ≡ length (if b then ended_in e ∷ filter (λ e. is_dead e.end) (map ended_in es) else filter (λ e. is_dead e.end) (map ended_in es))
    go true more = ap suc more
    go false more = more

deaths_is : (w : Witnessed) (o : Outcome') → outcome_in w.outcome ≡ o → deaths w ≡ deaths_in o
deaths_is w o is = deaths_of w.outcome.threads.items ∙ ap deaths_in is

few_deaths : (es : List Ended') → length (filter (λ e. is_dead e.end) es) ≤ length es
few_deaths [] = omega arith
few_deaths (e ∷ es) = go (is_dead e.end) (few_deaths es)
  where
    go : (b : Bool) → length (filter (λ e. is_dead e.end) es) ≤ length es → length (if b then e ∷ filter (λ e. is_dead e.end) es else filter (λ e. is_dead e.end) es) ≤ length (e ∷ es)
    go true more = omega arith
    go false more = omega arith

-- ---- an outcome that is listed keeps its line

pub listed_left : (o : Outcome') (xs ys : List Witnessed) → IsListed o xs → IsListed o (xs ++ ys)
listed_left o [] ys h = absurd h
listed_left o (x ∷ xs) ys (inl is) = inl is
listed_left o (x ∷ xs) ys (inr h) = inr (listed_left o xs ys h)

listed_right : (o : Outcome') (xs ys : List Witnessed) → IsListed o ys → IsListed o (xs ++ ys)
listed_right o [] ys h = h
listed_right o (x ∷ xs) ys h = inr (listed_right o xs ys h)

listed_with : (o : Outcome') (ws : List Witnessed) → IsListed o ws → IsListed o (with_deaths ws (deaths_in o))
listed_with o [] h = absurd h
listed_with o (w ∷ ws) (inl is) = go (deaths w == deaths_in o) (eq-eqb (deaths w) (deaths_in o) (deaths_is w o is))
  where
    go : (b : Bool) → b ≡ true → IsListed o (if b then w ∷ with_deaths ws (deaths_in o) else with_deaths ws (deaths_in o))
    go true e = inl is
    go false e = absurd cc
listed_with o (w ∷ ws) (inr h) = go (deaths w == deaths_in o) (listed_with o ws h)
  where
    go : (b : Bool) → IsListed o (with_deaths ws (deaths_in o)) → IsListed o (if b then w ∷ with_deaths ws (deaths_in o) else with_deaths ws (deaths_in o))
    go true more = inr more
    go false more = more

listed_flat : (o : Outcome') (f : ℕ → List Witnessed) (n a m : ℕ) → a ≤ n → n < a + m → IsListed o (f n) → IsListed o (flat_map f (range_with_len a m))
listed_flat o f n a zero low high h = absurd (omega arith)
listed_flat o f n a (suc m) low high h = go (n == a) refl (λ from to. listed_flat o f n (a + 1) m from to h)
  where
    go : (b : Bool) → (n == a) ≡ b → (a + 1 ≤ n → n < (a + 1) + m → IsListed o (flat_map f (range_with_len (a + 1) m))) → IsListed o (f a ++ flat_map f (range_with_len (a + 1) m))
    go true e more = listed_left o (f a) _ (subst (λ (k : ℕ). IsListed o (f k)) (eqb-true n a e) h)
    go false e more =
        let other : n ≢ a = λ same. let both : true ≡ false = sym (eq-eqb n a same) ∙ e in absurd cc in
        listed_right o (f a) _ (more (omega arith) (omega arith))

pub listed_in_order : (o : Outcome') (n : ℕ) (ws : List Witnessed) → length o.threads ≤ n → IsListed o ws → IsListed o (in_order n ws)
listed_in_order o n ws few h =
    let most = few_deaths o.threads in
    listed_flat o (with_deaths ws) (deaths_in o) 0 (n + 1) (omega arith) (omega arith) (listed_with o ws h)

-- it has a place
pub place_of : (o : Outcome') (ws : List Witnessed) → IsListed o ws → (i : ℕ) × (w : Witnessed) × (slice_get ws i ≡ Some w) × (outcome_in w.outcome ≡ o)
place_of o [] h = absurd h
place_of o (w ∷ ws) (inl is) = (0, w, refl, is)
place_of o (w ∷ ws) (inr h) = let r = place_of o ws h in (suc r.0, r.1, r.2, r.3)

listed_at : (o : Outcome') (ws : List Witnessed) (i : ℕ) (w : Witnessed) → slice_get ws i ≡ Some w → outcome_in w.outcome ≡ o → IsListed o ws
listed_at o [] i w there is = absurd cc
listed_at o (x ∷ ws) zero w there is = let same : x ≡ w = cc in inl (ap (λ (v : Witnessed). outcome_in v.outcome) same ∙ is)
listed_at o (x ∷ ws) (suc i) w there is = inr (listed_at o ws i w there is)

-- ---- and only one

unlisted_filter : (o : Outcome') (test : Witnessed → Bool) (ws : List Witnessed) → IsListed o (filter test ws) → IsListed o ws
unlisted_filter o test [] h = absurd h
unlisted_filter o test (w ∷ ws) h = go (test w) (unlisted_filter o test ws) h
  where
    go : (b : Bool) → (IsListed o (filter test ws) → IsListed o ws) → IsListed o (if b then w ∷ filter test ws else filter test ws) → IsListed o (w ∷ ws)
    go true more (inl is) = inl is
    go true more (inr k) = inr (more k)
    go false more k = inr (more k)

different_filter : (test : Witnessed → Bool) (ws : List Witnessed) → AreDifferent ws → AreDifferent (filter test ws)
different_filter test [] h = tt
different_filter test (w ∷ ws) h = go (test w) (different_filter test ws h.1)
  where
    go : (b : Bool) → AreDifferent (filter test ws) → AreDifferent (if b then w ∷ filter test ws else filter test ws)
    go true more = (λ l. h.0 (unlisted_filter (outcome_in w.outcome) test ws l), more)
    go false more = more

either : (o : Outcome') (xs ys : List Witnessed) → IsListed o (xs ++ ys) → IsListed o xs ⊎ IsListed o ys
either o [] ys h = inr h
either o (x ∷ xs) ys (inl is) = inl (inl is)
either o (x ∷ xs) ys (inr h) = elim (either o xs ys h) [ inl l ↦ inl (inr l) | inr l ↦ inr l ]

different_append : (xs ys : List Witnessed) → AreDifferent xs → AreDifferent ys → ((o : Outcome') → IsListed o xs → IsListed o ys → ⊥) → AreDifferent (xs ++ ys)
different_append [] ys h k apart = k
different_append (x ∷ xs) ys h k apart = (
  λ l. elim (either (outcome_in x.outcome) xs ys l) [ inl here ↦ h.0 here | inr there ↦ apart (outcome_in x.outcome) (inl refl) there ],
  different_append xs ys h.1 k (λ o here there. apart o (inr here) there),
)

-- those with n deaths
has_deaths : (o : Outcome') (ws : List Witnessed) (n : ℕ) → IsListed o (with_deaths ws n) → deaths_in o ≡ n
has_deaths o [] n h = absurd h
has_deaths o (w ∷ ws) n h = go (deaths w == n) refl (has_deaths o ws n) h
  where
    go : (b : Bool) → (deaths w == n) ≡ b → (IsListed o (with_deaths ws n) → deaths_in o ≡ n) → IsListed o (if b then w ∷ with_deaths ws n else with_deaths ws n) → deaths_in o ≡ n
    go true e more (inl is) = sym (deaths_is w o is) ∙ eqb-true (deaths w) n e
    go true e more (inr k) = more k
    go false e more k = more k

has_more : (o : Outcome') (ws : List Witnessed) (a m : ℕ) → IsListed o (flat_map (with_deaths ws) (range_with_len a m)) → a ≤ deaths_in o
has_more o ws a zero h = absurd h
has_more o ws a (suc m) h = elim (either o (with_deaths ws a) _ h) [
  | inl here ↦ let is = has_deaths o ws a here in omega arith
  | inr there ↦ let more = has_more o ws (a + 1) m there in omega arith
]

different_flat : (ws : List Witnessed) (a m : ℕ) → AreDifferent ws → AreDifferent (flat_map (with_deaths ws) (range_with_len a m))
different_flat ws a zero h = tt
different_flat ws a (suc m) h =
    different_append (with_deaths ws a) _ (different_filter (λ w. deaths w == a) ws h) (different_flat ws (a + 1) m h)
    (λ o here there. let is = has_deaths o ws a here in let more = has_more o ws (a + 1) m there in absurd (omega arith))

pub different_in_order : (n : ℕ) (ws : List Witnessed) → AreDifferent ws → AreDifferent (in_order n ws)
different_in_order n ws h = different_flat ws 0 (n + 1) h

-- two places have different outcomes
pub same_place : (ws : List Witnessed) → AreDifferent ws → (o : Outcome') (i j : ℕ) (w v : Witnessed) → slice_get ws i ≡ Some w → slice_get ws j ≡ Some v → outcome_in w.outcome ≡ o → outcome_in v.outcome ≡ o → i ≡ j
same_place [] h o i j w v at_i at_j is also = absurd cc
same_place (x ∷ ws) h o zero zero w v at_i at_j is also = refl
same_place (x ∷ ws) h o zero (suc j) w v at_i at_j is also =
    let same : x ≡ w = cc in
    let one : outcome_in x.outcome ≡ o = ap (λ (u : Witnessed). outcome_in u.outcome) same ∙ is in
    absurd (h.0 (subst (λ (p : Outcome'). IsListed p ws) (sym one) (listed_at o ws j v at_j also)))
same_place (x ∷ ws) h o (suc i) zero w v at_i at_j is also =
    let same : x ≡ v = cc in
    let one : outcome_in x.outcome ≡ o = ap (λ (u : Witnessed). outcome_in u.outcome) same ∙ also in
    absurd (h.0 (subst (λ (p : Outcome'). IsListed p ws) (sym one) (listed_at o ws i w at_i is)))
same_place (x ∷ ws) h o (suc i) (suc j) w v at_i at_j is also = ap suc (same_place ws h.1 o i j w v at_i at_j is also)
