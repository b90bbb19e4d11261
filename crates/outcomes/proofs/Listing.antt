-- Outcomes in a list.
use Rattle.std.proofs.Common.{◌≡◌, ◌≢◌, ◌⊎◌, inl, inr, ⊎_elim, ℕ, zero, suc, ◌+◌, ◌<◌, ◌≤◌, List, [], ◌∷◌, ◌++◌, length, take, refl, sym, ap, ◌∙◌, subst, arith, get_or}
use Rattle.std.proofs.lemmas.List.{take_more, take_all}
use Rattle.outcomes.specs.declared.plan.Plan.{Plan}
use Rattle.outcomes.specs.declared.exploring.Witnessed.{Witnessed}
use Rattle.outcomes.specs.Outcomes.{Outcome', outcome_in, IsListed, AreDifferent, IsWitnessed, AreWitnessed}

pub listed_at : (o : Outcome') (ws : List Witnessed) (i : ℕ) (w : Witnessed) → i < length ws → w ≡ get_or ws i w → outcome_in w.outcome ≡ o → IsListed o ws
listed_at o [] i w lt is e = absurd (omega arith)
listed_at o (v ∷ vs) zero w lt is e = inl (ap (λ (z : Witnessed). outcome_in z.outcome) (sym is) ∙ e)
listed_at o (v ∷ vs) (suc i) w lt is e = inr (listed_at o vs i w (omega arith) is e)

pub listed_front : (o : Outcome') (xs ys : List Witnessed) → IsListed o xs → IsListed o (xs ++ ys)
listed_front o [] ys h = absurd h
listed_front o (x ∷ xs) ys h = ⊎_elim (λ e. inl e) (λ later. inr (listed_front o xs ys later)) h

pub listed_last : (xs : List Witnessed) (w : Witnessed) → IsListed (outcome_in w.outcome) (xs ++ w ∷ [])
listed_last [] w = inl refl
listed_last (x ∷ xs) w = inr (listed_last xs w)

listed_split : (o : Outcome') (xs : List Witnessed) (w : Witnessed) → IsListed o (xs ++ w ∷ []) → IsListed o xs ⊎ (outcome_in w.outcome ≡ o)
listed_split o [] w h = ⊎_elim (λ e. inr e) (λ none. absurd none) h
listed_split o (x ∷ xs) w h = ⊎_elim (λ e. inl (inl e)) (λ later. ⊎_elim (λ a. inl (inr a)) (λ b. inr b) (listed_split o xs w later)) h

-- one more that isn't the outcome
pub unlisted_more : (o : Outcome') (ws : List Witnessed) (i : ℕ) (w : Witnessed) → i < length ws → w ≡ get_or ws i w → outcome_in w.outcome ≢ o → (IsListed o (take i ws) → ⊥) → IsListed o (take (i + 1) ws) → ⊥
unlisted_more o ws i w lt is apart before h =
    let more : take (i + 1) ws ≡ take i ws ++ w ∷ [] = take_more ws i w lt ∙ ap (λ (x : Witnessed). take i ws ++ x ∷ []) (sym is) in
    ⊎_elim before apart (listed_split o (take i ws) w (subst (IsListed o) more h))

pub unlisted_all : (o : Outcome') (ws : List Witnessed) (i : ℕ) → length ws ≤ i → (IsListed o (take i ws) → ⊥) → IsListed o ws → ⊥
unlisted_all o ws i past none h = none (subst (IsListed o) (sym (take_all i ws past)) h)

pub different_more : (ws : List Witnessed) (w : Witnessed) → AreDifferent ws → (IsListed (outcome_in w.outcome) ws → ⊥) → AreDifferent (ws ++ w ∷ [])
different_more [] w d none = (λ h. h, tt)
different_more (v ∷ vs) w d none =
    (λ h. ⊎_elim d.0 (λ e. none (inl (sym e))) (listed_split (outcome_in v.outcome) vs w h), different_more vs w d.1 (λ later. none (inr later)))

pub witnessed_more : (plan : Plan) (ws : List Witnessed) (w : Witnessed) → AreWitnessed plan ws → IsWitnessed plan w → AreWitnessed plan (ws ++ w ∷ [])
witnessed_more plan [] w h one = (one, tt)
witnessed_more plan (v ∷ vs) w h one = (h.0, witnessed_more plan vs w h.1 one)
