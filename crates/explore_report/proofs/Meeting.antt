-- The test of a pattern says what an outcome has.
use Rattle.std.proofs.Common.{◌≡◌, ℕ, zero, suc, ◌-◌, ◌==◌, ◌&&◌, ◌||◌, not, Bool, true, false, ◌⊎◌, inl, inr, List, [], ◌∷◌, map, Option, Some, None, refl, sym, ap, subst, ◌∙◌, eqb-true, eq-eqb}
use Rattle.std.specs.Prelude.{find, slice_get, unwrap_or}
use Rattle.std.specs.List.{list_any}
use Rattle.lockword.specs.Replies.{all_replies, number_of}
use Rattle.lockword.specs.declared.reply.Reply.{Reply}
use Rattle.lockword.specs.declared.reply.Reply.TheVariants.{OK, EPERM, ESRCH, EAGAIN, EFAULT, EBUSY, EINVAL, EDEADLK, ETIMEDOUT, EOWNERDEAD, ENOTRECOVERABLE, XNOMEM, XRACED, XHELD, XFULL, XSTATE}
use Rattle.posixmutex.specs.Objects.{fresh}
use Rattle.posixmutex.specs.declared.object.Object.{Object}
use Rattle.outcomes.specs.Outcomes.{Ended', Outcome', ended_in, outcome_in}
use Rattle.outcomes.specs.declared.outcome.End.{End}
use Rattle.outcomes.specs.declared.outcome.End.TheVariants as end
use Rattle.outcomes.specs.declared.outcome.Ended.{Ended}
use Rattle.outcomes.specs.declared.outcome.Outcome.{Outcome}
use Rattle.explore_report.specs.Meets.{HasGot, IsLeft as IsLeft', Meets, Sleeps}
use Rattle.explore_report.specs.Patterns.{at_some, is_asleep, is_dead, is_waiting, is_left, is_met, is_owned, same_reply}
use Rattle.explore_report.specs.declared.patterns.Pattern.{Pattern}
use Rattle.explore_report.specs.declared.patterns.Pattern.TheVariants.{Got, Dead, Asleep, Waiting, SomeAsleep, Left}
use Rattle.explore_report.specs.declared.patterns.State.{State}
use Rattle.explore_report.specs.declared.patterns.State.TheVariants.{Free, Owned, Inconsistent, Unusable}

-- ---- one of a list

module _ {A B : Type 0} (v : A → B) (f : A → Bool) (P : B → Type 0) where
  pub at_so : ((x : A) → f x ≡ true → P (v x)) → (xs : List A) (k : ℕ) → at_some (slice_get xs k) f ≡ true → (y : B) × (slice_get (map v xs) k ≡ Some y) × P y
  at_so means [] k h = absurd cc
  at_so means (x ∷ xs) zero h = (v x, refl, means x h)
  at_so means (x ∷ xs) (suc k) h = at_so means xs k h

  pub at_only : ((x : A) → P (v x) → f x ≡ true) → (xs : List A) (k : ℕ) (y : B) → slice_get (map v xs) k ≡ Some y → P y → at_some (slice_get xs k) f ≡ true
  at_only means [] k y there h = absurd cc
  at_only means (x ∷ xs) zero y there h = let same : y ≡ v x = cc in means x (subst P same h)
  at_only means (x ∷ xs) (suc k) y there h = at_only means xs k y there h

  pub any_so : ((x : A) → f x ≡ true → P (v x)) → (xs : List A) → list_any f xs ≡ true → (i : ℕ) × (y : B) × (slice_get (map v xs) i ≡ Some y) × P y
  any_so means [] h = absurd cc
  any_so means (x ∷ xs) h = go (f x) refl (any_so means xs) h
    where
      go : (b : Bool) → f x ≡ b → (list_any f xs ≡ true → (i : ℕ) × (y : B) × (slice_get (map v xs) i ≡ Some y) × P y) → (b || list_any f xs) ≡ true → (i : ℕ) × (y : B) × (slice_get (map v (x ∷ xs)) i ≡ Some y) × P y
      go true e more k = (0, v x, refl, means x e)
      go false e more k = let r = more k in (suc r.0, r.1, r.2, r.3)

  pub any_only : ((x : A) → P (v x) → f x ≡ true) → (xs : List A) (i : ℕ) (y : B) → slice_get (map v xs) i ≡ Some y → P y → list_any f xs ≡ true
  any_only means [] i y there h = absurd cc
  any_only means (x ∷ xs) zero y there h = let same : y ≡ v x = cc in ap (λ (b : Bool). b || list_any f xs) (means x (subst P same h))
  any_only means (x ∷ xs) (suc i) y there h = go (f x) (any_only means xs i y there h)
    where
      go : (b : Bool) → list_any f xs ≡ true → (b || list_any f xs) ≡ true
      go true more = refl
      go false more = more

-- ---- ends

sleeps_so : (e : End) → is_asleep e ≡ true → Sleeps e
sleeps_so (end.OnMutex m) h = inl (m, refl)
sleeps_so (end.OnCondition k) h = inr (k, refl)
sleeps_so end.Finished h = absurd cc
sleeps_so end.Waiting h = absurd cc
sleeps_so end.Dead h = absurd cc

sleeps_only : (e : End) → Sleeps e → is_asleep e ≡ true
sleeps_only e (inl h) = ap is_asleep h.1
sleeps_only e (inr h) = ap is_asleep h.1

dead_so : (e : End) → is_dead e ≡ true → e ≡ end.Dead
dead_so end.Dead h = refl
dead_so (end.OnMutex m) h = absurd cc
dead_so (end.OnCondition k) h = absurd cc
dead_so end.Finished h = absurd cc
dead_so end.Waiting h = absurd cc

waiting_so : (e : End) → is_waiting e ≡ true → e ≡ end.Waiting
waiting_so end.Waiting h = refl
waiting_so end.Dead h = absurd cc
waiting_so (end.OnMutex m) h = absurd cc
waiting_so (end.OnCondition k) h = absurd cc
waiting_so end.Finished h = absurd cc

-- ---- replies

reply_at : ℕ → Reply
reply_at n = unwrap_or (find (λ x. number_of x == n) all_replies) OK

numbered : (x : Reply) → reply_at (number_of x) ≡ x
unfolding reply_at
numbered OK = refl
numbered EPERM = refl
numbered ESRCH = refl
numbered EAGAIN = refl
numbered EFAULT = refl
numbered EBUSY = refl
numbered EINVAL = refl
numbered EDEADLK = refl
numbered ETIMEDOUT = refl
numbered EOWNERDEAD = refl
numbered ENOTRECOVERABLE = refl
numbered XNOMEM = refl
numbered XRACED = refl
numbered XHELD = refl
numbered XFULL = refl
numbered XSTATE = refl

same_so : (x y : Reply) → same_reply x y ≡ true → x ≡ y
same_so x y h = sym (numbered x) ∙ ap reply_at (eqb-true (number_of x) (number_of y) h) ∙ numbered y

same_only : (x y : Reply) → x ≡ y → same_reply x y ≡ true
same_only x y is = eq-eqb (number_of x) (number_of y) (ap number_of is)

one_got : (rs : List Reply) (x : Reply) → list_any (λ y. same_reply y x) rs ≡ true → (i : ℕ) × (slice_get rs i ≡ Some x)
one_got [] x h = absurd cc
one_got (r ∷ rs) x h = go (same_reply r x) refl (one_got rs x) h
  where
    go : (b : Bool) → same_reply r x ≡ b → (list_any (λ y. same_reply y x) rs ≡ true → (i : ℕ) × (slice_get rs i ≡ Some x)) → (b || list_any (λ y. same_reply y x) rs) ≡ true → (i : ℕ) × (slice_get (r ∷ rs) i ≡ Some x)
    go true same more k = (0, ap Some (same_so r x same))
    go false same more k = let n = more k in (suc n.0, n.1)

got_one : (rs : List Reply) (x : Reply) (i : ℕ) → slice_get rs i ≡ Some x → list_any (λ y. same_reply y x) rs ≡ true
got_one [] x i there = absurd cc
got_one (r ∷ rs) x zero there = let same : r ≡ x = cc in ap (λ (b : Bool). b || list_any (λ y. same_reply y x) rs) (same_only r x same)
got_one (r ∷ rs) x (suc i) there = go (same_reply r x) (got_one rs x i there)
  where
    go : (b : Bool) → list_any (λ y. same_reply y x) rs ≡ true → (b || list_any (λ y. same_reply y x) rs) ≡ true
    go true more = refl
    go false more = more

got_so : (e : Ended) (x : Reply) → list_any (λ y. same_reply y x) e.replies.items ≡ true → HasGot (ended_in e) x
got_so e x h = one_got e.replies.items x h

got_only : (e : Ended) (x : Reply) → HasGot (ended_in e) x → list_any (λ y. same_reply y x) e.replies.items ≡ true
got_only e x h = got_one e.replies.items x h.0 h.1

-- ---- mutexes

object : Option ℕ → Bool → Bool → Object
object owner inconsistent unusable = record { owner = owner; inconsistent = inconsistent; unusable = unusable }

free_so : (owner : Option ℕ) (a b : Bool) → (not (is_owned owner) && (not a && not b)) ≡ true → (owner ≡ None) × (a ≡ false) × (b ≡ false)
free_so None false false h = (refl, refl, refl)
free_so None false true h = absurd cc
free_so None true b h = absurd cc
free_so (Some t) a b h = absurd cc

left_so : (o : Object) (s : State) → is_left o s ≡ true → IsLeft' o s
left_so o Free h = let r = free_so o.owner o.inconsistent o.unusable h in λ i. record { owner = r.0 i; inconsistent = r.1 i; unusable = r.2 i }
left_so o Owned h = go o.owner h
  where
    go : (owner : Option ℕ) → is_owned owner ≡ true → (t : ℕ) × (owner ≡ Some t)
    go None k = absurd cc
    go (Some t) k = (t, refl)
left_so o Inconsistent h = h
left_so o Unusable h = h

left_only : (o : Object) (s : State) → IsLeft' o s → is_left o s ≡ true
left_only o Free h = ap (λ (x : Object). is_left x Free) h
left_only o Owned h = ap is_owned h.1
left_only o Inconsistent h = h
left_only o Unusable h = h

-- ---- patterns

pub met_so : (o : Outcome) (p : Pattern) → is_met o p ≡ true → Meets (outcome_in o) p
met_so o (Got t x) h = at_so ended_in (λ e. list_any (λ y. same_reply y x) e.replies.items) (λ e. HasGot e x) (λ e k. got_so e x k) o.threads.items (t - 1) h
met_so o (Dead t) h = at_so ended_in (λ e. is_dead e.end) (λ e. e.end ≡ end.Dead) (λ e k. dead_so e.end k) o.threads.items (t - 1) h
met_so o (Asleep t) h = at_so ended_in (λ e. is_asleep e.end) (λ e. Sleeps e.end) (λ e k. sleeps_so e.end k) o.threads.items (t - 1) h
met_so o (Waiting t) h = at_so ended_in (λ e. is_waiting e.end) (λ e. e.end ≡ end.Waiting) (λ e k. waiting_so e.end k) o.threads.items (t - 1) h
met_so o SomeAsleep h = any_so ended_in (λ e. is_asleep e.end) (λ e. Sleeps e.end) (λ e k. sleeps_so e.end k) o.threads.items h
met_so o (Left m state) h = go (slice_get o.mutexes.items m) refl h
  where
    go : (r : Option Object) → slice_get o.mutexes.items m ≡ r → at_some r (λ x. is_left x state) ≡ true → (x : Object) × (slice_get o.mutexes.items m ≡ Some x) × IsLeft' x state
    go None e k = absurd cc
    go (Some x) e k = (x, e, left_so x state k)

pub met_only : (o : Outcome) (p : Pattern) → Meets (outcome_in o) p → is_met o p ≡ true
met_only o (Got t x) h = at_only ended_in (λ e. list_any (λ y. same_reply y x) e.replies.items) (λ e. HasGot e x) (λ e k. got_only e x k) o.threads.items (t - 1) h.0 h.1 h.2
met_only o (Dead t) h = at_only ended_in (λ e. is_dead e.end) (λ e. e.end ≡ end.Dead) (λ e k. ap is_dead k) o.threads.items (t - 1) h.0 h.1 h.2
met_only o (Asleep t) h = at_only ended_in (λ e. is_asleep e.end) (λ e. Sleeps e.end) (λ e k. sleeps_only e.end k) o.threads.items (t - 1) h.0 h.1 h.2
met_only o (Waiting t) h = at_only ended_in (λ e. is_waiting e.end) (λ e. e.end ≡ end.Waiting) (λ e k. ap is_waiting k) o.threads.items (t - 1) h.0 h.1 h.2
met_only o SomeAsleep h = any_only ended_in (λ e. is_asleep e.end) (λ e. Sleeps e.end) (λ e k. sleeps_only e.end k) o.threads.items h.0 h.1 h.2 h.3
met_only o (Left m state) h = ap (λ (r : Option Object). at_some r (λ x. is_left x state)) h.1 ∙ left_only h.0 state h.2
