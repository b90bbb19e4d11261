-- States, and what covers them.
use Rattle.std.proofs.Common.{ℕ, ◌≡◌, ◌<◌, ◌≤◌, ◌⊎◌, inl, inr, List, length, refl, sym, subst, arith, ◌∙◌}
use Rattle.std.proofs.lemmas.Bool.{cases_lt}
use Rattle.std.proofs.lemmas.List.{get_or_past}
use Rattle.refuting.specs.declared.state.Call.{Call}
use Rattle.refuting.specs.declared.state.State.{State}
use Rattle.refuting.specs.States.{ids, Covered, Covers, HasAll, call_at, first_call}

beyond : (cs : List Call) (t : ℕ) → length cs ≡ ids → ids ≤ t → call_at cs t ≡ first_call
beyond cs t long le = get_or_past cs t first_call (omega (arith, long))

-- whoever compares the calls of all threads has compared all calls
pub has_all_beyond : (xs ys : List Call) → length xs ≡ ids → length ys ≡ ids → ((t : ℕ) → t < ids → HasAll (call_at xs t) (call_at ys t)) → (t : ℕ) → HasAll (call_at xs t) (call_at ys t)
has_all_beyond xs ys lx ly each t = by_cases (cases_lt t ids) where
  by_cases : (t < ids) ⊎ (ids ≤ t) → HasAll (call_at xs t) (call_at ys t)
  by_cases (inl lt) = each t lt
  by_cases (inr ge) = subst (λ c. HasAll c (call_at ys t)) (sym (beyond xs t lx ge)) (subst (λ c. HasAll first_call c) (sym (beyond ys t ly ge)) (refl, λ seen. seen))

pub covers_itself : (s : State) → Covers s s
covers_itself s = record { object = refl; long = refl; calls = λ t. (refl, λ seen. seen) }

pub covers_on : (a b c : State) → Covers a b → Covers b c → Covers a c
covers_on a b c x y = record {
  object = x.object ∙ y.object;
  long = x.long ∙ y.long;
  calls = λ t. ((x.calls t).0 ∙ (y.calls t).0, λ seen. (x.calls t).1 ((y.calls t).1 seen));
}

pub covered_on : (ss : List State) (b c : State) → Covered ss b → Covers b c → Covered ss c
covered_on ss b c x y = (x.0, x.1, covers_on x.0 b c x.2 y)
