-- What a line makes of the states, one by one.
use Rattle.std.proofs.Common.{ℕ, ◌≡◌, ◌<◌, ◌≤◌, ◌+◌, ◌⊎◌, inl, inr, List, [], ◌∷◌, ◌++◌, length, get_or, sym, subst, arith, ◌∙◌, ap}
use Rattle.std.specs.Prelude.{Contains, take}
use Rattle.std.proofs.lemmas.List.{take_all, take_more}
use Rattle.std.proofs.lemmas.List.Elements.{Contains-push_cases}
use Rattle.histories.specs.declared.entry.Entry.{Entry}
use Rattle.refuting.specs.declared.state.State.{State}
use Rattle.refuting.specs.declared.turn.Turn.{Turn}
use Rattle.refuting.specs.States.{Covered, Covers}
use Rattle.refuting.specs.Steps.{AreNoted, Grows, IsNoted}
use Rattle.refuting.specs.Following.{Allows, Retells, told}
use Rattle.refuting.proofs.States.{covered_on}
use Rattle.refuting.proofs.Growing.{grows_none, noted_more, still_covered}

pub record Retelling (m : ℕ) (turn : Turn) (ts : List Turn) (e : Entry) (ss rs : List State) (count : ℕ) : Type 0 where
  pub noted : AreNoted m ts rs
  pub within : count ≤ length ss
  pub told : Retells m turn e (take count ss) rs

one_told : (m : ℕ) (turn : Turn) (e : Entry) (ss rs : List State) (s d : State) (count : ℕ) → count < length ss → get_or ss count d ≡ s → Retells m turn e (take count ss) rs → (Allows m turn s e → Covered rs (told m turn s e)) → Retells m turn e (take (count + 1) ss) rs
one_told m turn e ss rs s d count lt is old one = λ r has may. by_cases r may (Contains-push_cases (take count ss) s r (subst (λ z. Contains z r) (take_more ss count d lt ∙ ap (λ y. take count ss ++ y ∷ []) is) has)) where
  by_cases : (r : State) → Allows m turn r e → Contains (take count ss) r ⊎ (s ≡ r) → Covered rs (told m turn r e)
  by_cases r may (inl earlier) = old r earlier may
  by_cases r may (inr same) = subst (λ q. Covered rs (told m turn q e)) same (one (subst (λ q. Allows m turn q e) (sym same) may))

pub refused : (m : ℕ) (turn : Turn) (ts : List Turn) (e : Entry) (ss rs : List State) (s d : State) (count : ℕ) → Retelling m turn ts e ss rs count → count < length ss → get_or ss count d ≡ s → ¬ Allows m turn s e → Retelling m turn ts e ss rs (count + 1)
refused m turn ts e ss rs s d count r lt is never = record {
  noted = r.noted;
  within = omega (arith, lt);
  told = one_told m turn e ss rs s d count lt is r.told (λ may. absurd (never may));
}

grown : (rs qs : List State) (k : State) → (qs ≡ rs) ⊎ (qs ≡ rs ++ k ∷ []) → Grows rs qs
grown rs qs k (inl same) = subst (Grows rs) (sym same) (grows_none rs)
grown rs qs k (inr more) = (k ∷ [], more)

pub retelling : (m : ℕ) (turn : Turn) (ts : List Turn) (e : Entry) (ss rs qs : List State) (s d t k : State) (count : ℕ) → Retelling m turn ts e ss rs count → count < length ss → get_or ss count d ≡ s → t ≡ told m turn s e → Covers k t → IsNoted m ts k → (qs ≡ rs) ⊎ (qs ≡ rs ++ k ∷ []) → Covered qs k → Retelling m turn ts e ss qs (count + 1)
retelling m turn ts e ss rs qs s d t k count r lt is tells cov noted grows has = let g = grown rs qs k grows in record {
  noted = noted_more m ts rs qs k r.noted noted grows;
  within = omega (arith, lt);
  told = one_told m turn e ss qs s d count lt is (λ q old may. still_covered rs qs (told m turn q e) g (r.told q old may)) (λ may. subst (Covered qs) tells (covered_on qs k t has cov));
}

pub all_told : (m : ℕ) (turn : Turn) (ts : List Turn) (e : Entry) (ss rs qs : List State) (count : ℕ) → Retelling m turn ts e ss rs count → length ss ≤ count → Grows rs qs → Retells m turn e ss qs
all_told m turn ts e ss rs qs count r le g = λ s has may. still_covered rs qs (told m turn s e) g (r.told s (subst (λ z. Contains z s) (sym (take_all count ss le)) has) may)
