-- Closing: as the loops go on.
use Rattle.std.proofs.Common.{ℕ, ◌≡◌, ◌<◌, ◌≤◌, ◌+◌, ◌⊎◌, inl, inr, List, [], ◌∷◌, ◌++◌, length, get_or, sym, subst, arith, ◌∙◌, ap}
use Rattle.std.specs.Prelude.{Contains, Some, None, take}
use Rattle.std.proofs.lemmas.List.{length-append, take-append-le, take_all, take_more}
use Rattle.std.proofs.lemmas.List.Elements.{Contains-push_cases}
use Rattle.std.proofs.lemmas.Bool.{cases_lt}
use Rattle.std.proofs.lemmas.List.{get_or_past}
use Rattle.refuting.specs.declared.state.State.{State}
use Rattle.refuting.specs.declared.turn.Turn.{Turn}
use Rattle.refuting.specs.declared.turn.Turn.TheVariants.{Resting, Dying}
use Rattle.refuting.specs.Steps.{AreNoted, FollowsCall, FollowsThread, Grows, IsClosed, IsFollowed}
use Rattle.refuting.specs.Turns.{turn_at}
use Rattle.refuting.proofs.Growing.{grows_on, still_follows}
use Rattle.lockword.specs.Threads.{most_threads}
use Rattle.refuting.specs.States.{ids}

-- ---- the threads, one by one

pub record Following (m : ℕ) (ts : List Turn) (was ss : List State) (s : State) (count : ℕ) : Type 0 where
  pub noted : AreNoted m ts ss
  pub grows : Grows was ss
  pub follows : (t : ℕ) → 1 ≤ t → t ≤ count → FollowsThread m ts ss s t

pub one_more : (m : ℕ) (ts : List Turn) (was ss rs : List State) (s : State) (before t : ℕ) → t ≡ before + 1 → Following m ts was ss s before → AreNoted m ts rs → Grows ss rs → FollowsThread m ts rs s t → Following m ts was rs s (before + 1)
one_more m ts was ss rs s before t is f noted grows one = record {
  noted = noted;
  grows = grows_on was ss rs f.grows grows;
  follows = λ u low high. by_cases u low high (cases_lt u (before + 1));
} where
  by_cases : (u : ℕ) → 1 ≤ u → u ≤ before + 1 → (u < before + 1) ⊎ (before + 1 ≤ u) → FollowsThread m ts rs s u
  by_cases u low high (inl lt) = still_follows m ts ss rs s u grows (f.follows u low (omega (arith, lt)))
  by_cases u low high (inr ge) = let same : t ≡ u = omega (arith, is, high, ge) in subst (FollowsThread m ts rs s) same one

-- who has no turn does nothing
pub rests : (m : ℕ) (ts : List Turn) (ss : List State) (s : State) (t : ℕ) → turn_at ts t ≡ Resting → FollowsThread m ts ss s t
rests m ts ss s t is = record {
  changes = subst (λ z. FollowsCall m z ss s t) (sym is) (λ c none. let no : None ≡ Some c = none in absurd cc);
  dies = λ c o dying may. let no : Resting ≡ Dying c = sym is ∙ dying in absurd cc;
}

pub all_follow : (m : ℕ) (ts : List Turn) (ss : List State) (s : State) → length ts ≡ ids → ((t : ℕ) → 1 ≤ t → t ≤ most_threads → FollowsThread m ts ss s t) → IsFollowed m ts ss s
all_follow m ts ss s long each t low = by_cases (cases_lt t ids) where
  by_cases : (t < ids) ⊎ (ids ≤ t) → FollowsThread m ts ss s t
  by_cases (inl lt) = each t low (omega (arith, lt))
  by_cases (inr ge) = rests m ts ss s t (get_or_past ts t Resting (omega (arith, ge, long)))

-- ---- the states, one by one

-- whatever follows the first of them stands among them
pub record Closing (m : ℕ) (ts : List Turn) (was ss : List State) (count : ℕ) : Type 0 where
  pub noted : AreNoted m ts ss
  pub grows : Grows was ss
  pub within : count ≤ length ss
  pub followed : (s : State) → Contains (take count ss) s → IsFollowed m ts ss s

pub state_followed : (m : ℕ) (ts : List Turn) (was ss rs : List State) (s d : State) (count : ℕ) → Closing m ts was ss count → count < length ss → get_or ss count d ≡ s → AreNoted m ts rs → Grows ss rs → IsFollowed m ts rs s → Closing m ts was rs (count + 1)
state_followed m ts was ss rs s d count c lt is noted grows one =
    let first : take (count + 1) rs ≡ take count ss ++ s ∷ [] =
    ap (take (count + 1)) grows.1 ∙ take-append-le (count + 1) ss grows.0 (omega arith) ∙ take_more ss count d lt ∙ ap (λ y. take count ss ++ y ∷ []) is in
    let longer : length rs ≡ length ss + length grows.0 = ap length grows.1 ∙ length-append ss grows.0 in
    record {
      noted = noted;
      grows = grows_on was ss rs c.grows grows;
      within = omega (arith, longer, lt);
      followed = λ r has. by_cases r (Contains-push_cases (take count ss) s r (subst (λ z. Contains z r) first has));
    } where
      by_cases : (r : State) → Contains (take count ss) r ⊎ (s ≡ r) → IsFollowed m ts rs r
      by_cases r (inl old) = λ t low. still_follows m ts ss rs r t grows (c.followed r old t low)
      by_cases r (inr new) = subst (IsFollowed m ts rs) new one

pub all_closed : (m : ℕ) (ts : List Turn) (was ss : List State) (count : ℕ) → Closing m ts was ss count → length ss ≤ count → IsClosed m ts ss
all_closed m ts was ss count c le = record {
  noted = c.noted;
  followed = λ s has. c.followed s (subst (λ z. Contains z s) (sym (take_all count ss le)) has);
}
