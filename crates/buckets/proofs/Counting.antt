-- How many sleepers there are.
use Rattle.std.proofs.Common.{◌≡◌, ◌≢◌, ℕ, suc, ◌+◌, ◌-◌, ◌<◌, ◌≤◌, List, [], ◌∷◌, length, get_or, refl, sym, ap, ◌∙◌, subst, ◌⊎◌, inl, inr, arith}
use Rattle.std.specs.Prelude.{Contains, remove}
use Rattle.std.proofs.lemmas.Bool.{cases_lt}
use Rattle.std.proofs.lemmas.List.{get_or_default}
use Rattle.std.proofs.lemmas.List.Elements.{Contains-append_right}
use Rattle.std.proofs.lemmas.List.Edits.{length-remove, get_or-remove_below, get_or-remove_above}
use Rattle.buckets.specs.declared.sleeper.Sleeper.{Sleeper}
use Rattle.buckets.specs.Queues.{threads_on, StandOnce}
use Rattle.buckets.proofs.Places.{threads_on-append, sleeper_of, stands_there}

-- what is in a list is still there once another one is removed
pub Contains-remove : (ids : List ℕ) (i t : ℕ) → i < length ids → get_or ids i t ≢ t → Contains ids t → Contains (remove ids i) t
Contains-remove ids i t lt other at = go (cases_lt at.0 i)
  where
    len : length (remove ids i) + 1 ≡ length ids
    len = length-remove ids i lt

    go : (at.0 < i) ⊎ (i ≤ at.0) → Contains (remove ids i) t
    go (inl below) = (at.0, omega (arith, len), get_or-remove_below ids i t at.0 below lt ∙ at.2)
    go (inr above) = more (cases_lt i at.0)
      where
        more : (i < at.0) ⊎ (at.0 ≤ i) → Contains (remove ids i) t
        more (inl past) =
            let back : (at.0 - 1) + 1 ≡ at.0 = omega arith in
            (at.0 - 1, omega (arith, len, at.1), get_or-remove_above ids i t (at.0 - 1) (omega arith) lt ∙ ap (λ n. get_or ids n t) back ∙ at.2)
        more (inr le) = let even : at.0 ≡ i = omega arith in absurd (other (ap (λ n. get_or ids n t) (sym even) ∙ at.2))

-- a list with every thread that stands is at least as long as the list of sleepers
pub no_more : (xs : List Sleeper) → StandOnce xs → (ids : List ℕ) → ((k t : ℕ) → Contains (threads_on k xs) t → Contains ids t) → length xs ≤ length ids
no_more [] once ids all = omega arith
no_more (x ∷ xs) once ids all =
    let at = all x.key.0 x.thread (stands_there (x ∷ xs) 0 x (omega arith) refl) in
    let len = length-remove ids at.0 at.1 in
    let rest = no_more xs later (remove ids at.0) (λ k t c. Contains-remove ids at.0 t at.1 (apart at k t c) (all k t (standing k t c))) in
    omega arith
  where
    later : StandOnce xs
    later i j d lt in' = once (suc i) (suc j) d (omega arith) (omega arith)

    standing : (k t : ℕ) → Contains (threads_on k xs) t → Contains (threads_on k (x ∷ xs)) t
    standing k t c = subst (λ (q : List ℕ). Contains q t) (sym (threads_on-append k (x ∷ []) xs)) (Contains-append_right (threads_on k (x ∷ [])) (threads_on k xs) t c)

    apart : (at : Contains ids x.thread) (k t : ℕ) → Contains (threads_on k xs) t → get_or ids at.0 t ≢ t
    apart at k t c same =
        let s = sleeper_of k t xs c in
        let is : get_or xs s.1.0 x ≡ s.0 = get_or_default xs s.1.0 x s.0 s.1.1 ∙ s.1.2 in
        once 0 (suc s.1.0) x (omega arith) (let in' = s.1.1 in omega arith)
        (sym at.2 ∙ get_or_default ids at.0 x.thread t at.1 ∙ same ∙ sym s.3 ∙ sym (ap (λ (r : Sleeper). r.thread) is))
