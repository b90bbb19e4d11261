-- Since when the mutex of a call that is named has had no owner, and in which order the calls are named.
use Rattle.std.proofs.Common.{◌≡◌, ◌≢◌, ℕ, zero, suc, ◌<◌, ◌≤◌, ◌==◌, Bool, true, false, not, ◌&&◌, List, [], ◌∷◌, ◌++◌, length, reverse, if◌then◌else◌, Option, Some, None, refl, sym, ap, subst, ◌∙◌, arith}
use Rattle.std.specs.Prelude.{All}
use Rattle.std.specs.List.{AllPairs, Contains}
use Rattle.std.specs.Option.{is_some}
use Rattle.std.proofs.lemmas.Bool.Decides.{nat_tests}
use Rattle.std.proofs.lemmas.List.Elements.{All-nil, All-push}
use Rattle.std.proofs.lemmas.List.Quantifiers.{all_pairs_push}
use Rattle.facts.specs.declared.fact.Fact.TheVariants.{Kill}
use Rattle.verdict.specs.Earlier.{objects_after}
use Rattle.histories.specs.declared.entry.Entry.{Entry}
use Rattle.histories.specs.declared.entry.Entry.TheVariants.{Told, Doom}
use Rattle.histories.specs.Limits.{max_threads}
use Rattle.certificates.specs.declared.waiting.Waiter.{Waiter}
use Rattle.certificates.specs.Certificates.{is_doomed, seen_of, trace_of}
use Rattle.certificates.specs.Laws.{IsLastLeft, IsSince, LeavesUnowned, NoneLeaves, SinceIsTheLast, WaitersAreInOrder}
use Rattle.certificates.specs.Waiters.{added, begun_at, is_owned, left_at, locks, waiter_for, waiter_of, waiters_to}
use Rattle.certificates.proofs.Members.{of_member}

-- ---- the last step that left a mutex

owned_some : (o : Option ℕ) → is_some o ≡ true → o ≢ None
owned_some (Some t) is none = absurd cc
owned_some None is none = absurd cc

unowned_none : (o : Option ℕ) → is_some o ≡ false → o ≡ None
unowned_none None is = refl
unowned_none (Some t) is = absurd cc

-- a step that doesn't leave it changes nothing
none_more : (m : ℕ) (e : Entry) (es : List Entry) → (LeavesUnowned m e es → ⊥) → NoneLeaves m es → NoneLeaves m (e ∷ es)
none_more m e es stays old [] f earlier is leaves =
    let all : e ∷ es ≡ f ∷ earlier = is in
    let same : f ≡ e = cc in
    let rest : earlier ≡ es = cc in
    stays (subst (λ (x : Entry). LeavesUnowned m x es) same (subst (LeavesUnowned m f) rest leaves))
none_more m e es stays old (x ∷ later) f earlier is leaves =
    let all : e ∷ es ≡ x ∷ (later ++ f ∷ earlier) = is in
    let rest : es ≡ later ++ f ∷ earlier = cc in
    old later f earlier rest leaves

last_more : (m : ℕ) (e : Entry) (es : List Entry) (n : ℕ) → (LeavesUnowned m e es → ⊥) → IsLastLeft m es n → IsLastLeft m (e ∷ es) n
last_more m e es n stays old = record {
  later = e ∷ old.later;
  step = old.step;
  earlier = old.earlier;
  all = ap (λ (xs : List Entry). e ∷ xs) old.all;
  leaves = old.leaves;
  lines = old.lines;
  none_later = none;
}
  where
    none : (last : List Entry) (f : Entry) (between : List Entry) → e ∷ old.later ≡ last ++ f ∷ between → LeavesUnowned m f (between ++ old.step ∷ old.earlier) → ⊥
    none [] f between is leaves =
        let all : e ∷ old.later ≡ f ∷ between = is in
        let same : f ≡ e = cc in
        let rest : between ≡ old.later = cc in
        let whole : between ++ old.step ∷ old.earlier ≡ es = ap (λ (xs : List Entry). xs ++ old.step ∷ old.earlier) rest ∙ sym old.all in
        stays (subst (λ (x : Entry). LeavesUnowned m x es) same (subst (LeavesUnowned m f) whole leaves))
    none (x ∷ last) f between is leaves =
        let all : e ∷ old.later ≡ x ∷ (last ++ f ∷ between) = is in
        let rest : old.later ≡ last ++ f ∷ between = cc in
        old.none_later last f between rest leaves

more : (m : ℕ) (e : Entry) (es : List Entry) (s : Option ℕ) → (LeavesUnowned m e es → ⊥) → IsSince m es s → IsSince m (e ∷ es) s
more m e es None stays old = none_more m e es stays old
more m e es (Some n) stays old = last_more m e es n stays old

nothing_after : (m : ℕ) (step : Entry) (earlier last : List Entry) (e : Entry) (between : List Entry) → [] ≡ last ++ e ∷ between → LeavesUnowned m e (between ++ step ∷ earlier) → ⊥
nothing_after m step earlier [] e between is leaves = let no : [] ≡ e ∷ between = is in absurd cc
nothing_after m step earlier (x ∷ last) e between is leaves = let no : [] ≡ x ∷ (last ++ e ∷ between) = is in absurd cc

since : (m : ℕ) (es : List Entry) → IsSince m es (left_at m es)
since m [] = none
  where
    none : NoneLeaves m []
    none [] e earlier is leaves = let no : [] ≡ e ∷ earlier = is in absurd cc
    none (x ∷ later) e earlier is leaves = let no : [] ≡ x ∷ (later ++ e ∷ earlier) = is in absurd cc
since m (e ∷ es) = by_cases (is_owned m (trace_of es)) (is_owned m (trace_of (e ∷ es))) refl refl (since m es)
  where
    by_cases : (a b : Bool) → is_owned m (trace_of es) ≡ a → is_owned m (trace_of (e ∷ es)) ≡ b → IsSince m es (left_at m es) → IsSince m (e ∷ es) (if a && not b then Some (length (seen_of es)) else left_at m es)
    by_cases true false before after old = record {
      later = [];
      step = e;
      earlier = es;
      all = refl;
      leaves = record { owned = owned_some (objects_after (trace_of es) m).owner before; unowned = unowned_none (objects_after (trace_of (e ∷ es)) m).owner after };
      lines = refl;
      none_later = nothing_after m e es;
    }
    by_cases true true before after old = more m e es (left_at m es) (λ leaves. owned_some (objects_after (trace_of (e ∷ es)) m).owner after leaves.unowned) old
    by_cases false b before after old = more m e es (left_at m es) (λ leaves. leaves.owned (unowned_none (objects_after (trace_of es) m).owner before)) old

-- ---- what a call that is named says

record IsOf (t : ℕ) (es : List Entry) (w : Waiter) : Type 0 where
  thread : w.thread ≡ t
  left : w.since ≡ left_at w.mutex es
  alive : is_doomed t es ≡ false

of_waiter : (t : ℕ) (es : List Entry) (w : Waiter) → waiter_of t es ≡ Some w → IsOf t es w
of_waiter t es w is = of_doom (is_doomed t es) (locks t (trace_of es)) refl is
  where
    of_owner : (m : ℕ) (o : Bool) → is_doomed t es ≡ false → (if o then None else Some (record { thread = t; mutex = m; unusable = (objects_after (trace_of es) m).unusable; begin = begun_at t es; since = left_at m es })) ≡ Some w → IsOf t es w
    of_owner m true alive is = let no : None ≡ Some w = is in absurd cc
    of_owner m false alive is =
        let made : record { thread = t; mutex = m; unusable = (objects_after (trace_of es) m).unusable; begin = begun_at t es; since = left_at m es } ≡ w = cc in
        subst (IsOf t es) made (record { thread = refl; left = refl; alive = alive })

    of_doom : (d : Bool) (l : Option ℕ) → is_doomed t es ≡ d → (if d then None else waiter_for t (begun_at t es) es l) ≡ Some w → IsOf t es w
    of_doom true l alive is = let no : None ≡ Some w = is in absurd cc
    of_doom false None alive is = let no : None ≡ Some w = is in absurd cc
    of_doom false (Some m) alive is = of_owner m (is_owned m (trace_of es)) alive is

of_named : (steps : List Entry) (w : Waiter) → Contains (waiters_to max_threads (reverse steps)) w → IsOf w.thread (reverse steps) w
of_named steps w named =
    let of = of_member max_threads (reverse steps) w named in
    let this = of_waiter of.0 (reverse steps) w of.1 in
    record { thread = refl; left = this.left; alive = ap (λ (u : ℕ). is_doomed u (reverse steps)) this.thread ∙ this.alive }

pub since_last : SinceIsTheLast
since_last steps w named = subst (IsSince w.mutex (reverse steps)) (sym (of_named steps w named).left) (since w.mutex (reverse steps))

-- ---- each once

abbrev AreUpTo : ℕ → List Waiter → Type 0
AreUpTo n ws = All (λ (w : Waiter). w.thread ≤ n) ws

abbrev AreRising : List Waiter → Type 0
AreRising ws = AllPairs (λ (a b : Waiter). a.thread < b.thread) ws

widened : (n : ℕ) (ws : List Waiter) → AreUpTo n ws → AreUpTo (suc n) ws
widened n ws all k d lt = let this = all k d lt in omega (arith, this)

rising_to : (n : ℕ) (es : List Entry) → AreRising (waiters_to n es) × AreUpTo n (waiters_to n es)
unfolding waiters_to
rising_to zero es = ((λ i j d less few. absurd (omega (arith, few))), All-nil (λ (w : Waiter). w.thread ≤ 0))
rising_to (suc n) es = with_next (waiter_of (suc n) es) refl (rising_to n es)
  where
    with_next : (o : Option Waiter) → waiter_of (suc n) es ≡ o → AreRising (waiters_to n es) × AreUpTo n (waiters_to n es) → AreRising (added (waiters_to n es) o) × AreUpTo (suc n) (added (waiters_to n es) o)
    with_next None is old = (old.0, widened n (waiters_to n es) old.1)
    with_next (Some w) is old =
        let this = of_waiter (suc n) es w is in
        let last : w.thread ≡ suc n = this.thread in (
          all_pairs_push (λ (a b : Waiter). a.thread < b.thread) (waiters_to n es) w old.0 (λ k d lt. let few = old.1 k d lt in omega (arith, few, last)),
          All-push (λ (v : Waiter). v.thread ≤ suc n) (waiters_to n es) w (widened n (waiters_to n es) old.1) (omega (arith, last)),
        )

-- ---- who was doomed

first : (xs : List Entry) (x : Entry) → Contains (x ∷ xs) x
first xs x = (zero, omega arith, refl)

behind : (xs : List Entry) (y x : Entry) → Contains xs x → Contains (y ∷ xs) x
behind xs y x has = (suc has.0, omega (arith, has.1), has.2)

killed_since : (t : ℕ) (later earlier : List Entry) → is_doomed t (later ++ Doom t ∷ earlier) ≡ false → Contains later (Told (Kill t))
killed_since t [] earlier alive =
    let same : (t == t) ≡ true = grind (arith, nat_tests) in
    let no : true ≡ false = sym (ap (λ (b : Bool). if b then true else is_doomed t earlier) same) ∙ alive in
    absurd cc
killed_since t (Doom u ∷ later) earlier alive = go (u == t) alive (killed_since t later earlier)
  where
    go : (b : Bool) → (if b then true else is_doomed t (later ++ Doom t ∷ earlier)) ≡ false → (is_doomed t (later ++ Doom t ∷ earlier) ≡ false → Contains later (Told (Kill t))) → Contains (Doom u ∷ later) (Told (Kill t))
    go true is more = absurd cc
    go false is more = behind later (Doom u) (Told (Kill t)) (more is)
killed_since t (Told (Kill u) ∷ later) earlier alive = go (u == t) refl alive (killed_since t later earlier)
  where
    go : (b : Bool) → (u == t) ≡ b → (if b then false else is_doomed t (later ++ Doom t ∷ earlier)) ≡ false → (is_doomed t (later ++ Doom t ∷ earlier) ≡ false → Contains later (Told (Kill t))) → Contains (Told (Kill u) ∷ later) (Told (Kill t))
    go true same is more =
        let u_is : u ≡ t = grind (arith, nat_tests) in
        subst (λ (v : ℕ). Contains (Told (Kill v) ∷ later) (Told (Kill t))) (sym u_is) (first later (Told (Kill t)))
    go false same is more = behind later (Told (Kill u)) (Told (Kill t)) (more is)
killed_since t (Told f ∷ later) earlier alive = behind later (Told f) (Told (Kill t)) (killed_since t later earlier alive)

pub in_order : WaitersAreInOrder
in_order = record {
  rising = λ steps. (rising_to max_threads (reverse steps)).0;
  killed = λ steps w later earlier named is. killed_since w.thread later earlier (sym (ap (is_doomed w.thread) is) ∙ (of_named steps w named).alive);
}
