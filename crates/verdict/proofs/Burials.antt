-- What fits line by line is a legal history, in which each death is recorded as often as it should be.
use Rattle.std.proofs.Common.{◌≡◌, ◌≢◌, ℕ, ◌+◌, ◌<◌, ◌≤◌, ◌==◌, ◌&&◌, Bool, true, false, List, [], ◌∷◌, ◌++◌, Option, None, Some, refl, sym, ap, subst, ◌∙◌, arith}
use Rattle.std.specs.Prelude.{if◌then◌else◌, reverse}
use Rattle.std.proofs.lemmas.List.{reverse-append}
use Rattle.std.proofs.lemmas.Bool.Decides.{nat_tests}
use mathlib.Core.Path.{fun_ext}
use Rattle.posixmutex.specs.declared.object.Object.{Object}
use Rattle.lockword.specs.declared.reply.Reply.TheVariants.{OK}
use Rattle.posixmutex.specs.declared.point.Decision.{Decision}
use Rattle.posixmutex.specs.declared.point.Operation.TheVariants as operation
use Rattle.posixmutex.specs.Objects.{Does, stepped}
use Rattle.posixmutex.specs.Histories.{Legal, held_by, is_thread, opening}
use Rattle.facts.specs.declared.fact.Begun.{Begun}
use Rattle.facts.specs.declared.fact.Fact.{Fact}
use Rattle.facts.specs.declared.fact.Fact.TheVariants.{Begin, Kill, Point, Death, Sleep, Wake, Move, Return, Reap, Renew}
use Rattle.facts.specs.declared.fact.Line.{Line}
use Rattle.verdict.specs.declared.stage.Stage.{Stage}
use Rattle.verdict.specs.declared.stage.Stage.TheVariants.{Resting, Calling, Dying, Reaped}
use Rattle.facts.specs.Facts.{thread_of, decision_of}
use Rattle.verdict.specs.Earlier.{told_of, call_in, is_killed, objects_after, moved}
use Rattle.facts.specs.Orders.{Later, Each, Orderly}
use Rattle.verdict.specs.Fits.{Fits, FitsThread, Allows, OwnsNothing}
use Rattle.verdict.specs.Judges.{IsMutex, one}
use Rattle.verdict.specs.Verdicts.{AllFit}
use Rattle.verdict.specs.Explained.{with_decision, decisions, is_death, deaths, is_reaping, reaped, is_renewing, renewed, in_this_life, Buries, Explains}
use Rattle.posixmutex.proofs.Steps.{determined}
use Rattle.verdict.proofs.Owners.{does_owners, not_owner, others_own, owns_itself}
use Rattle.verdict.proofs.Stages.{Kept}
use Rattle.verdict.proofs.Lives.{lived, lives, sleeps}
use Rattle.verdict.proofs.TimeLimits.{time_limits}

-- ---- one history

decisions-append : (xs ys : List Line) (zs : List Decision) → decisions ys ≡ zs → (ds : List Decision) → decisions xs ≡ ds → decisions (xs ++ ys) ≡ ds ++ zs
decisions-append [] ys zs e ds f = e ∙ ap (λ qs. qs ++ zs) f
decisions-append (x ∷ xs) ys zs e ds f = go (decision_of x.fact) (decisions-append xs ys zs e (decisions xs) refl) ∙ ap (λ qs. qs ++ zs) f where
  go : (o : Option Decision) → decisions (xs ++ ys) ≡ decisions xs ++ zs → with_decision o (decisions (xs ++ ys)) ≡ with_decision o (decisions xs) ++ zs
  go None r = r
  go (Some d) r = ap (λ qs. d ∷ qs) r

append_nil : {A : Type 0} (xs : List A) → xs ++ [] ≡ xs
append_nil [] = refl
append_nil (x ∷ xs) = ap (λ ys. x ∷ ys) (append_nil xs)

newest : (e : Line) (es : List Line) → decisions (reverse (e ∷ es)) ≡ decisions (reverse es) ++ with_decision (decision_of e.fact) []
newest e es = ap decisions (reverse-append (e ∷ []) es) ∙ decisions-append (reverse es) (e ∷ []) (with_decision (decision_of e.fact) []) refl (decisions (reverse es)) refl

-- one step more
further : (n : ℕ) (old mid new : ℕ → Object) (ds : List Decision) (d : Decision) → Legal n old ds mid → d.mutex < n → Does (held_by d.thread mid n) (mid d.mutex) d.thread d.operation d.reply (new d.mutex) → ((m : ℕ) → m ≢ d.mutex → new m ≡ mid m) → Legal n old (ds ++ d ∷ []) new
further n old mid new [] d same lt does others =
    let e : mid ≡ old = fun_ext same in
    (lt, (new, subst (λ (os : ℕ → Object). Does (held_by d.thread os n) (os d.mutex) d.thread d.operation d.reply (new d.mutex)) e does, λ m o. others m o ∙ same m, λ m. refl))
further n old mid new (k ∷ ds) d h lt does others = (h.0, (h.1.0, h.1.1, h.1.2, further n h.1.0 mid new ds d h.1.3 lt does others))

pub legal : (n : ℕ) (told : List Line) → AllFit n told → Each (λ e. IsMutex n e.fact) told → Legal n opening (decisions (reverse told)) (objects_after told)
legal n [] fit inside = λ m. refl
legal n (e ∷ es) fit inside = subst (λ ds. Legal n opening ds (objects_after (e ∷ es))) (sym (newest e es)) (go e.fact fit.0.allowed inside.0 (legal n es fit.1 inside.1)) where
  go : (f : Fact) → Allows n (objects_after es) (decision_of f) → IsMutex n f → Legal n opening (decisions (reverse es)) (objects_after es) → Legal n opening (decisions (reverse es) ++ with_decision (decision_of f) []) (moved (objects_after es) (decision_of f))
  go f a i h = by_decision (decision_of f) (mutex_in f i) a where
    mutex_in : (f : Fact) → IsMutex n f → (d : Decision) → decision_of f ≡ Some d → d.mutex < n
    mutex_in (Point e) i d is = let same : e.mutex ≡ d.mutex = cc in omega (arith, i, same)
    mutex_in (Death t m) i d is = let same : m ≡ d.mutex = cc in omega (arith, i, same)
    mutex_in (Begin t c) i d is = absurd cc
    mutex_in (Kill t) i d is = absurd cc
    mutex_in (Sleep t q) i d is = absurd cc
    mutex_in (Wake t) i d is = absurd cc
    mutex_in (Move t k) i d is = absurd cc
    mutex_in (Return t x) i d is = absurd cc
    mutex_in (Reap t) i d is = absurd cc
    mutex_in (Renew t) i d is = absurd cc

    by_decision : (o : Option Decision) → ((d : Decision) → o ≡ Some d → d.mutex < n) → Allows n (objects_after es) o → Legal n opening (decisions (reverse es) ++ with_decision o []) (moved (objects_after es) o)
    by_decision None i a = subst (λ ds. Legal n opening ds (objects_after es)) (sym (append_nil (decisions (reverse es)))) h
    by_decision (Some d) i a =
        let here : (d.mutex == d.mutex) ≡ true = grind (arith, nat_tests) in
        let becomes : moved (objects_after es) (Some d) d.mutex ≡ a.0 = ap (λ b. if b then stepped (objects_after es d.mutex) d.thread d.operation d.reply else objects_after es d.mutex) here ∙ sym (determined (held_by d.thread (objects_after es) n) (objects_after es d.mutex) d.thread d.operation d.reply a.0 a.1) in
        further n opening (objects_after es) (moved (objects_after es) (Some d)) (decisions (reverse es)) d h (i d refl)
        (subst (λ k. Does (held_by d.thread (objects_after es) n) (objects_after es d.mutex) d.thread d.operation d.reply k) (sym becomes) a.1)
        (λ m other. let no : (m == d.mutex) ≡ false = grind (arith, nat_tests) in ap (λ b. if b then stepped (objects_after es m) d.thread d.operation d.reply else objects_after es m) no)

-- ---- deaths

moved_here : (os : ℕ → Object) (d : Decision) (m : ℕ) → m ≡ d.mutex → moved os (Some d) m ≡ stepped (os d.mutex) d.thread d.operation d.reply
moved_here os d m same =
    let yes : (m == d.mutex) ≡ true = grind (arith, nat_tests) in
    ap (λ b. if b then stepped (os m) d.thread d.operation d.reply else os m) yes ∙ ap (λ k. stepped (os k) d.thread d.operation d.reply) same

moved_there : (os : ℕ → Object) (d : Decision) (m : ℕ) → m ≢ d.mutex → moved os (Some d) m ≡ os m
moved_there os d m other =
    let no : (m == d.mutex) ≡ false = grind (arith, nat_tests) in
    ap (λ b. if b then stepped (os m) d.thread d.operation d.reply else os m) no

-- whether thread t owns the object
abbrev owns : ℕ → Object → ℕ
owns t o = one (is_thread t o.owner)

-- a step of another thread leaves whether t owns a mutex
others_step : (n t m : ℕ) (os : ℕ → Object) (d : Decision) → Allows n os (Some d) → t ≢ d.thread → owns t (moved os (Some d) m) ≡ owns t (os m)
others_step n t m os d a other = go (m == d.mutex) refl where
  go : (b : Bool) → (m == d.mutex) ≡ b → owns t (moved os (Some d) m) ≡ owns t (os m)
  go true is =
      let same : m ≡ d.mutex = grind (arith, nat_tests) in
      let held = held_by d.thread os n in
      ap (owns t) (moved_here os d m same ∙ sym (determined held (os d.mutex) d.thread d.operation d.reply a.0 a.1))
      ∙ ap one (others_own (os d.mutex) d.thread a.0 t other (does_owners held (os d.mutex) d.thread d.operation d.reply a.0 a.1)) ∙ ap (λ k. owns t (os k)) (sym same)
  go false is = ap (owns t) (moved_there os d m (grind (arith, nat_tests)))

-- a killed thread is in no call
pub no_call : (s : Stage) (fs : List Fact) → Kept s fs → is_killed fs ≡ true → call_in fs ≡ None
no_call Resting fs k killed = k.0
no_call (Calling c made z) fs k killed = let e : true ≡ false = sym killed ∙ k.2 in absurd cc
no_call Dying fs k killed = k.0
no_call Reaped fs k killed = k.0

never_points : (fs : List Fact) (t : ℕ) (o : Option Begun) → o ≡ None → (k : Begun) → o ≡ Some k → ⊥
never_points fs t o e k f = let g : None ≡ Some k = sym e ∙ f in absurd cc

-- the thread's death of a mutex takes it from the thread
own_death : (n t m k : ℕ) (os : ℕ → Object) → Allows n os (decision_of (Death t k)) → (b : Bool) → (k == m) ≡ b → (if b then 1 else 0) + owns t (moved os (decision_of (Death t k)) m) ≡ owns t (os m)
own_death n t m k os a true is =
    let same : m ≡ k = grind (arith, nat_tests) in
    let was = ap one (owns_itself t (os k).owner a.1.0) in
    let before = ap (λ j. owns t (os j)) same in
    let after = ap (owns t) (moved_here os (record { thread = t; mutex = k; operation = operation.Death; reply = OK }) m same) in
    omega (arith, was, before, after)
own_death n t m k os a false is =
    let other : m ≢ k = grind (arith, nat_tests) in
    let after = ap (owns t) (moved_there os (record { thread = t; mutex = k; operation = operation.Death; reply = OK }) m other) in
    omega (arith, after)

nothing_else : (t : ℕ) (o p : Object) → o ≡ p → 0 + owns t o ≡ owns t p
nothing_else t o p e = let f = ap (owns t) e in omega (arith, f)

-- after a kill, whoever makes a line: a death less is owned
balance : (n t m : ℕ) (es : List Line) (f : Fact) → call_in (told_of t es) ≡ None → FitsThread (told_of (thread_of f) es) f → Allows n (objects_after es) (decision_of f) → (if is_death t m f then 1 else 0) + owns t (moved (objects_after es) (decision_of f) m) ≡ owns t (objects_after es m)
balance n t m es (Begin u c) free fits a = nothing_else t (objects_after es m) (objects_after es m) refl
balance n t m es (Kill u) free fits a = nothing_else t (objects_after es m) (objects_after es m) refl
balance n t m es (Sleep u q) free fits a = nothing_else t (objects_after es m) (objects_after es m) refl
balance n t m es (Wake u) free fits a = nothing_else t (objects_after es m) (objects_after es m) refl
balance n t m es (Move u k) free fits a = nothing_else t (objects_after es m) (objects_after es m) refl
balance n t m es (Return u x) free fits a = nothing_else t (objects_after es m) (objects_after es m) refl
balance n t m es (Reap u) free fits a = nothing_else t (objects_after es m) (objects_after es m) refl
balance n t m es (Renew u) free fits a = nothing_else t (objects_after es m) (objects_after es m) refl
balance n t m es (Point d) free fits a = go (d.thread == t) refl where
  go : (b : Bool) → (d.thread == t) ≡ b → 0 + owns t (moved (objects_after es) (decision_of (Point d)) m) ≡ owns t (objects_after es m)
  go true is =
      let same : d.thread ≡ t = grind (arith, nat_tests) in
      absurd (never_points [] t (call_in (told_of t es)) free fits.1.0 (subst (λ v. call_in (told_of v es) ≡ Some fits.1.0) same fits.1.1))
  go false is = let other : t ≢ d.thread = grind (arith, nat_tests) in let e = others_step n t m (objects_after es) d a other in omega (arith, e)
balance n t m es (Death u k) free fits a = go (u == t) refl where
  go : (b : Bool) → (u == t) ≡ b → (if b && (k == m) then 1 else 0) + owns t (moved (objects_after es) (decision_of (Death u k)) m) ≡ owns t (objects_after es m)
  go true is =
      let same : u ≡ t = grind (arith, nat_tests) in
      subst (λ v. (if k == m then 1 else 0) + owns t (moved (objects_after es) (decision_of (Death v k)) m) ≡ owns t (objects_after es m)) (sym same)
      (by_mutex (k == m) refl (own_death n t m k (objects_after es) (subst (λ v. Allows n (objects_after es) (decision_of (Death v k))) same a)))
    where
      by_mutex : (b : Bool) → (k == m) ≡ b → ((c : Bool) → (k == m) ≡ c → (if c then 1 else 0) + owns t (moved (objects_after es) (decision_of (Death t k)) m) ≡ owns t (objects_after es m)) → (if k == m then 1 else 0) + owns t (moved (objects_after es) (decision_of (Death t k)) m) ≡ owns t (objects_after es m)
      by_mutex b is h = h (k == m) refl
  go false is = let other : t ≢ u = grind (arith, nat_tests) in let e = others_step n t m (objects_after es) (record { thread = u; mutex = k; operation = operation.Death; reply = OK }) a other in omega (arith, e)

-- ---- from a kill on

-- what is recorded after the kill of thread t, before it lives again, the newest first, upon what was recorded with
-- and before it
still_killed : (t : ℕ) (f : Fact) (fs : List Fact) → (thread_of f == t) ≡ true → is_renewing t f ≡ false → is_killed fs ≡ true → is_killed (f ∷ fs) ≡ true
still_killed t (Begin u c) fs is old k = k
still_killed t (Kill u) fs is old k = refl
still_killed t (Point d) fs is old k = k
still_killed t (Death u m) fs is old k = k
still_killed t (Sleep u q) fs is old k = k
still_killed t (Wake u) fs is old k = k
still_killed t (Move u m) fs is old k = k
still_killed t (Return u x) fs is old k = k
still_killed t (Reap u) fs is old k = k
still_killed t (Renew u) fs is old k = let both : true ≡ false = sym is ∙ old in absurd cc

killed_after : (t : ℕ) (e : Line) (es : List Line) → is_renewing t e.fact ≡ false → is_killed (told_of t es) ≡ true → is_killed (told_of t (e ∷ es)) ≡ true
killed_after t e es old k = go (thread_of e.fact == t) refl where
  go : (b : Bool) → (thread_of e.fact == t) ≡ b → is_killed (if b then e.fact ∷ told_of t es else told_of t es) ≡ true
  go true is = still_killed t e.fact (told_of t es) is old k
  go false is = k

killed_now : (t : ℕ) (i : ℕ) (es : List Line) → is_killed (told_of t ((record { event = i; fact = Kill t }) ∷ es)) ≡ true
killed_now t i es = let yes : (t == t) ≡ true = grind (arith, nat_tests) in ap (λ b. is_killed (if b then Kill t ∷ told_of t es else told_of t es)) yes

-- so far: each mutex that t owned at its kill is reported once, or is still owned; and a reaped thread owns
-- nothing
record Settled (t n : ℕ) (earlier newer told : List Line) : Type 0 where
  killed : is_killed (told_of t told) ≡ true
  each : (m : ℕ) → deaths t m newer + owns t (objects_after told m) ≡ owns t (objects_after earlier m)
  gone : reaped t newer ≡ true → (m : ℕ) → m < n → owns t (objects_after told m) ≡ 0

reap_owns : (t n : ℕ) (os : ℕ → Object) (f : Fact) → OwnsNothing n os f → is_reaping t f ≡ true → (m : ℕ) → m < n → owns t (os m) ≡ 0
reap_owns t n os (Reap u) o is m lt = let same : u ≡ t = grind (arith, nat_tests) in ap one (not_owner t (os m).owner (λ e. o m lt (e ∙ ap Some (sym same))))
reap_owns t n os (Begin u c) o is m lt = absurd cc
reap_owns t n os (Kill u) o is m lt = absurd cc
reap_owns t n os (Point d) o is m lt = absurd cc
reap_owns t n os (Death u k) o is m lt = absurd cc
reap_owns t n os (Sleep u q) o is m lt = absurd cc
reap_owns t n os (Wake u) o is m lt = absurd cc
reap_owns t n os (Move u k) o is m lt = absurd cc
reap_owns t n os (Return u x) o is m lt = absurd cc
reap_owns t n os (Renew u) o is m lt = absurd cc

settle : (t n : ℕ) (earlier newer told : List Line) (e : Line) → is_renewing t e.fact ≡ false → AllFit n told → Fits n told e → Settled t n earlier newer told → Settled t n earlier (e ∷ newer) (e ∷ told)
settle t n earlier newer told e old fit fits s = record {
  killed = killed_after t e told old s.killed;
  each = λ m. let a = s.each m in let b = one_more m in omega (arith, a, b);
  gone = λ is m lt. go (is_reaping t e.fact) refl is m lt;
}
  where
    free : call_in (told_of t told) ≡ None
    free = let l = lived n t told fit in no_call l.stage (told_of t told) l.kept s.killed

    one_more : (m : ℕ) → (if is_death t m e.fact then 1 else 0) + owns t (objects_after (e ∷ told) m) ≡ owns t (objects_after told m)
    one_more m = balance n t m told e.fact free fits.of_thread fits.allowed

    go : (b : Bool) → is_reaping t e.fact ≡ b → (if b then true else reaped t newer) ≡ true → (m : ℕ) → m < n → owns t (objects_after (e ∷ told) m) ≡ 0
    go true is w m lt = let was = reap_owns t n (objects_after told) e.fact fits.reaped is m lt in let b = one_more m in omega (arith, was, b)
    go false is w m lt = let was = s.gone w m lt in let b = one_more m in omega (arith, was, b)

-- none of these lines tells that t lives again
not_yet : (b c : Bool) → (if b then true else c) ≡ false → (b ≡ false) × (c ≡ false)
not_yet false c e = (refl, e)
not_yet true c e = absurd cc

settled : (t n i : ℕ) (earlier newer : List Line) → renewed t newer ≡ false → AllFit n (newer ++ (record { event = i; fact = Kill t }) ∷ earlier) → Settled t n earlier newer (newer ++ (record { event = i; fact = Kill t }) ∷ earlier)
settled t n i earlier [] old fit = record {
  killed = killed_now t i earlier;
  each = λ m. omega arith;
  gone = λ is. absurd cc;
}
settled t n i earlier (e ∷ newer) old fit =
    let none = not_yet (is_renewing t e.fact) (renewed t newer) old in
    settle t n earlier newer (newer ++ (record { event = i; fact = Kill t }) ∷ earlier) e none.0 fit.1 fit.0 (settled t n i earlier newer none.1 fit.1)

at_most_one : (b : Bool) → one b ≤ 1
at_most_one true = omega arith
at_most_one false = omega arith

buries : (t n : ℕ) (earlier newer told : List Line) → Settled t n earlier newer told → Buries t n (objects_after earlier) newer
buries t n earlier newer told s = record {
  at_most_once = λ m lt owner. let a = s.each m in omega (arith, a, at_most_one (is_thread t (objects_after earlier m).owner));
  once_reaped = λ m lt owner is. let a = s.each m in let b = s.gone is m lt in let c = ap one (owns_itself t (objects_after earlier m).owner owner) in omega (arith, a, b, c);
  no_other = λ m lt owner. let a = s.each m in let c = ap one (not_owner t (objects_after earlier m).owner owner) in omega (arith, a, c);
}

-- after the first line that tells that t lives again nothing counts
buries_life : (t n i : ℕ) (earlier newer : List Line) → AllFit n (newer ++ (record { event = i; fact = Kill t }) ∷ earlier) → Buries t n (objects_after earlier) (in_this_life t newer)
buries_life t n i earlier [] fit = buries t n earlier [] ((record { event = i; fact = Kill t }) ∷ earlier) (settled t n i earlier [] refl fit)
buries_life t n i earlier (e ∷ newer) fit = go (renewed t (e ∷ newer)) refl (buries_life t n i earlier newer fit.1) where
  go : (b : Bool) → renewed t (e ∷ newer) ≡ b → Buries t n (objects_after earlier) (in_this_life t newer) → Buries t n (objects_after earlier) (if b then in_this_life t newer else e ∷ newer)
  go true is rest = rest
  go false old rest = buries t n earlier (e ∷ newer) (e ∷ (newer ++ (record { event = i; fact = Kill t }) ∷ earlier)) (settled t n i earlier (e ∷ newer) old fit)

-- ---- all of it

each_append : (P : Line → Type 0) (xs ys : List Line) → Each P xs → Each P ys → Each P (xs ++ ys)
each_append P [] ys all more = more
each_append P (x ∷ xs) ys all more = (all.0, each_append P xs ys all.1 more)

pub each_reverse : (P : Line → Type 0) (es : List Line) → Each P es → Each P (reverse es)
each_reverse P [] all = tt
each_reverse P (e ∷ es) all = subst (Each P) (sym (reverse-append (e ∷ []) es)) (each_append P (reverse es) (e ∷ []) (each_reverse P es all.1) (all.0, tt))

-- a line after all of them
orderly_behind : (xs : List Line) (e : Line) → Orderly xs → Each (λ a. Later a e) xs → Orderly (xs ++ e ∷ [])
orderly_behind [] e order before = (tt, tt)
orderly_behind (x ∷ xs) e order before = (each_append (Later x) xs (e ∷ []) order.0 (before.0, tt), orderly_behind xs e order.1 before.1)

orderly : (n : ℕ) (told : List Line) → AllFit n told → Orderly (reverse told)
orderly n [] fit = tt
orderly n (e ∷ es) fit = subst Orderly (sym (reverse-append (e ∷ []) es)) (orderly_behind (reverse es) e (orderly n es fit.1) (each_reverse (λ a. Later a e) es fit.0.in_order))

fit_before : (n : ℕ) (newer : List Line) (e : Line) (earlier : List Line) → AllFit n (newer ++ e ∷ earlier) → AllFit n earlier
fit_before n [] e earlier fit = fit.1
fit_before n (x ∷ newer) e earlier fit = fit_before n newer e earlier fit.1

inside_before : (n : ℕ) (newer : List Line) (e : Line) (earlier : List Line) → Each (λ x. IsMutex n x.fact) (newer ++ e ∷ earlier) → Each (λ x. IsMutex n x.fact) earlier
inside_before n [] e earlier inside = inside.1
inside_before n (x ∷ newer) e earlier inside = inside_before n newer e earlier inside.1

pub explains : (n : ℕ) (told : List Line) → AllFit n told → Each (λ e. IsMutex n e.fact) told → Explains n told
explains n told fit inside = record {
  orderly = orderly n told fit;
  legal = (objects_after told, legal n told fit inside);
  lives = lives n told fit;
  sleeps = sleeps n told fit;
  time_limits = λ t m. time_limits n t m told fit;
  deaths_told = λ newer earlier i t all.
      let k : Line = record { event = i; fact = Kill t } in
      let fit_all = subst (AllFit n) all fit in
      let inside_all = subst (Each (λ e. IsMutex n e.fact)) all inside in
      (objects_after earlier, legal n earlier (fit_before n newer k earlier fit_all) (inside_before n newer k earlier inside_all), buries_life t n i earlier newer fit_all);
}
