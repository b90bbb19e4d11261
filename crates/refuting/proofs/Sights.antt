-- What calls have seen.
use Rattle.std.proofs.Common.{ℕ, ◌≡◌, ◌≢◌, ◌<◌, ◌≤◌, ◌+◌, ◌⊎◌, inl, inr, List, length, Bool, true, false, refl, sym, subst, arith, ◌∙◌, ap, get_or-set_same, get_or-set_other, length-set}
use Rattle.std.specs.Prelude.{◌==◌, Some}
use Rattle.std.proofs.lemmas.Bool.{cases_lt}
use Rattle.std.proofs.lemmas.List.{get_or_past}
use Rattle.std.proofs.lemmas.Bool.Decides.{nat_tests}
use Rattle.lockword.specs.declared.reply.Reply.{Reply}
use Rattle.posixmutex.specs.declared.object.Object.{Object}
use Rattle.posixmutex.specs.declared.point.Operation.{Operation}
use Rattle.posixmutex.specs.Objects.{Does}
use Rattle.facts.specs.Chances.{is_anothers}
use Rattle.refuting.specs.declared.state.Call.{Call}
use Rattle.refuting.specs.declared.state.State.{State}
use Rattle.refuting.specs.declared.turn.Turn.{Turn}
use Rattle.refuting.specs.declared.turn.Turn.TheVariants.{Resting, Calling}
use Rattle.refuting.specs.States.{ids, Covers, HasAll, call_at, first_call}
use Rattle.refuting.specs.Steps.{MayLook, Sees, next_look, with_sight}
use Rattle.refuting.specs.Turns.{turn_at}
use Rattle.refuting.proofs.States.{covers_on}
use Rattle.lockword.specs.Threads.{most_threads}

-- thread u's call after a sight of thread t's
sight : (s : State) (t u : ℕ) → t < length s.calls
    → HasAll (call_at (with_sight s t).calls u) (call_at s.calls u) × ((t ≡ u) → (call_at (with_sight s t).calls u).seen ≡ true)
sight s t u inside = by_cases (t == u) refl where
  by_cases : (b : Bool) → (t == u) ≡ b → HasAll (call_at (with_sight s t).calls u) (call_at s.calls u) × ((t ≡ u) → (call_at (with_sight s t).calls u).seen ≡ true)
  by_cases true is =
      let same : t ≡ u = grind (arith, nat_tests) in
      let here : call_at (with_sight s t).calls t ≡ record { made = (call_at s.calls t).made; seen = true } = get_or-set_same s.calls t _ first_call inside in
      subst (λ v. HasAll (call_at (with_sight s t).calls v) (call_at s.calls v) × ((t ≡ v) → (call_at (with_sight s t).calls v).seen ≡ true)) same
      ((ap (λ (k : Call). k.made) here, λ _. ap (λ (k : Call). k.seen) here), λ _. ap (λ (k : Call). k.seen) here)
  by_cases false is =
      let other : u ≢ t = grind (arith, nat_tests) in
      let there : call_at (with_sight s t).calls u ≡ call_at s.calls u = get_or-set_other s.calls t u _ first_call other in
      (subst (λ k. HasAll k (call_at s.calls u)) (sym there) (refl, λ seen. seen), λ e. absurd (other (sym e)))

pub sight_covers : (s : State) (t : ℕ) → t < length s.calls → Covers (with_sight s t) s
sight_covers s t inside = record { object = refl; long = length-set s.calls t _; calls = λ u. (sight s t u inside).0 }

-- who could get its reply after it, could be before it
looks_back : (s r : State) (u : ℕ) (a : Operation) (x : Reply) → Covers r s → MayLook r u a x → MayLook s u a x
looks_back s r u a x c l = (
  record {
    operation = l.0.operation;
    next = ap (λ k. next_look a k x) (sym ((c.calls u).0)) ∙ l.0.next;
    held = l.0.held;
    does = subst (λ o. Does l.0.held o u l.0.operation x o) c.object l.0.does;
  },
  λ late. ap (λ (o : Object). is_anothers u o.owner) (sym c.object) ∙ l.1 late,
)

pub sees_back : (m : ℕ) (turn : Turn) (s r : State) (u : ℕ) → Covers r s → Sees m turn r u → Sees m turn s u
sees_back m (Calling c (Some x)) s r u cov h = (h.0, looks_back s r u c.operation x cov h.1)
sees_back m turn s r u cov h = absurd h

-- the sights of one more thread
sees_more : (m : ℕ) (ts : List Turn) (s : State) (before : ℕ) → before + 1 < length s.calls
    → ((t : ℕ) → 1 ≤ t → t ≤ before → Sees m (turn_at ts t) s t → (call_at s.calls t).seen ≡ true)
    → (t : ℕ) → 1 ≤ t → t ≤ before + 1 → Sees m (turn_at ts t) (with_sight s (before + 1)) t → (call_at (with_sight s (before + 1)).calls t).seen ≡ true
sees_more m ts s before inside old t low high h = by_cases (cases_lt t (before + 1)) where
  by_cases : (t < before + 1) ⊎ (before + 1 ≤ t) → (call_at (with_sight s (before + 1)).calls t).seen ≡ true
  by_cases (inl lt) =
      let cov = sight_covers s (before + 1) inside in
      (cov.calls t).1 (old t low (omega (arith, lt)) (sees_back m (turn_at ts t) s (with_sight s (before + 1)) t cov h))
  by_cases (inr ge) = (sight s (before + 1) t inside).1 (omega (arith, ge, high))

-- where one thread sees nothing
sees_none : (m : ℕ) (ts : List Turn) (s : State) (before : ℕ) → (Sees m (turn_at ts (before + 1)) s (before + 1) → ⊥)
    → ((t : ℕ) → 1 ≤ t → t ≤ before → Sees m (turn_at ts t) s t → (call_at s.calls t).seen ≡ true)
    → (t : ℕ) → 1 ≤ t → t ≤ before + 1 → Sees m (turn_at ts t) s t → (call_at s.calls t).seen ≡ true
sees_none m ts s before none old t low high h = by_cases (cases_lt t (before + 1)) where
  by_cases : (t < before + 1) ⊎ (before + 1 ≤ t) → (call_at s.calls t).seen ≡ true
  by_cases (inl lt) = old t low (omega (arith, lt)) h
  by_cases (inr ge) = let same : t ≡ before + 1 = omega (arith, ge, high) in absurd (none (subst (λ v. Sees m (turn_at ts v) s v) same h))

-- all threads that have turns are looked at
pub sees_all : (m : ℕ) (ts : List Turn) (s : State) → length ts ≡ ids
    → ((t : ℕ) → 1 ≤ t → t ≤ most_threads → Sees m (turn_at ts t) s t → (call_at s.calls t).seen ≡ true)
    → (t : ℕ) → 1 ≤ t → Sees m (turn_at ts t) s t → (call_at s.calls t).seen ≡ true
sees_all m ts s long each t low h = by_cases (cases_lt t ids) where
  by_cases : (t < ids) ⊎ (ids ≤ t) → (call_at s.calls t).seen ≡ true
  by_cases (inl lt) = each t low (omega (arith, lt)) h
  by_cases (inr ge) = let rests : turn_at ts t ≡ Resting = get_or_past ts t Resting (omega (arith, ge, long)) in absurd (subst (λ turn. Sees m turn s t) rests h)

-- ---- as the loop goes on

-- of threads up to here
pub record Noting (m : ℕ) (ts : List Turn) (was s : State) (count : ℕ) : Type 0 where
  pub long : length s.calls ≡ ids
  pub covers : Covers s was
  pub notes : (t : ℕ) → 1 ≤ t → t ≤ count → Sees m (turn_at ts t) s t → (call_at s.calls t).seen ≡ true

pub more_sights : (m : ℕ) (ts : List Turn) (was s r : State) (before : ℕ) → r ≡ with_sight s (before + 1) → before < most_threads → Noting m ts was s before → Noting m ts was r (before + 1)
more_sights m ts was s r before is lt n = subst (λ q. Noting m ts was q (before + 1)) (sym is)
    (let inside : before + 1 < length s.calls = omega (arith, lt, n.long) in
    record {
      long = length-set s.calls (before + 1) _ ∙ n.long;
      covers = covers_on (with_sight s (before + 1)) s was (sight_covers s (before + 1) inside) n.covers;
      notes = sees_more m ts s before inside n.notes;
    })

pub none_seen : (m : ℕ) (ts : List Turn) (was s r : State) (before : ℕ) → r ≡ s → (Sees m (turn_at ts (before + 1)) s (before + 1) → ⊥) → Noting m ts was s before → Noting m ts was r (before + 1)
none_seen m ts was s r before is none n = subst (λ q. Noting m ts was q (before + 1)) (sym is)
    (record { long = n.long; covers = n.covers; notes = sees_none m ts s before none n.notes })
