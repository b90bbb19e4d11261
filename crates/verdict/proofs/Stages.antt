-- What is kept of a thread says what was recorded of it.
use Rattle.std.proofs.Common.{◌≡◌, ◌≢◌, ⊎_elim, inl, inr, Bool, true, false, List, [], ◌∷◌, ◌++◌, Option, None, Some, refl, sym, ap, subst, ◌∙◌, append_assoc}
use Rattle.lockword.specs.declared.reply.Reply.{Reply}
use Rattle.lockword.specs.declared.reply.Reply.TheVariants.{OK}
use Rattle.posixmutex.specs.declared.point.Operation.{Operation}
use Rattle.posixmutex.specs.declared.point.Operation.TheVariants.{Lock, TryLock, TimedLock, Unlock, Consistent, Wait, TimedWait, Signal, Broadcast, Death, Reinit}
use Rattle.facts.specs.declared.fact.Begun.{Begun}
use Rattle.facts.specs.declared.fact.Fact.{Fact}
use Rattle.facts.specs.declared.fact.Fact.TheVariants.{Begin, Kill, Point, Death, Sleep, Wake, Move, Return, Reap, Renew}
use Rattle.verdict.specs.declared.stage.Made.{Made}
use Rattle.verdict.specs.declared.stage.Made.TheVariants.{Nothing, Released, Decided}
use Rattle.verdict.specs.declared.stage.Stage.{Stage}
use Rattle.verdict.specs.declared.stage.Stage.TheVariants.{Resting, Calling, Dying, Reaped}
use Rattle.facts.specs.Lives.{Act, Complete, Beginning, IsWait, MayReturn}
use Rattle.verdict.specs.Misfits.{Replied}
use Rattle.verdict.specs.Earlier.{call_in, points_in, is_asleep, is_killed, is_reaped}
use Rattle.verdict.specs.Fits.{FitsThread}
use Rattle.verdict.specs.Stages.{MayPoint, MayReturnNow, pointed, May, next}

-- ---- the points of a call

-- these points are made
abbrev pub Of : Operation → List Act → Made → Type 0
Of a ps Nothing = ps ≡ []
Of a ps Released = IsWait a × (ps ≡ (Unlock, OK) ∷ [])
Of a ps (Decided x) = Complete a ps x × Replied ps x

append_nil : {A : Type 0} (xs : List A) → xs ++ [] ≡ xs
append_nil [] = refl
append_nil (x ∷ xs) = ap (λ ys. x ∷ ys) (append_nil xs)

-- what any call may have as its points
first_of : (a : Operation) → Beginning a []
first_of TimedLock = ((TimedLock, OK) ∷ [], OK, inl refl)
first_of TimedWait = ((Wait, OK) ∷ [], OK, (refl, inl refl))
first_of a = ((a, OK) ∷ [], OK, refl)

last_replied : (ps : List Act) (b : Operation) (x : Reply) → Replied (ps ++ (b, x) ∷ []) x
last_replied [] b x = refl
last_replied (p ∷ []) b x = refl
last_replied (p ∷ q ∷ ps) b x = last_replied (q ∷ ps) b x

pub beginning : (a : Operation) (ps : List Act) (made : Made) → Of a ps made → Beginning a ps
beginning a ps Nothing of = subst (Beginning a) (sym of) (first_of a)
beginning a ps Released of =
    ⊎_elim (λ (is : a ≡ Wait). subst (λ c. Beginning c ps) (sym is) (subst (Beginning Wait) (sym of.1) ((Lock, OK) ∷ [], OK, (refl, refl))))
    (λ (is : a ≡ TimedWait). subst (λ c. Beginning c ps) (sym is) (subst (Beginning TimedWait) (sym of.1) ((Lock, OK) ∷ [], OK, (refl, refl, inl refl)))) of.0
beginning a ps (Decided x) of = ([], x, subst (λ ys. Complete a ys x) (sym (append_nil ps)) of.0)

pub onward : (a : Operation) (ps : List Act) (made : Made) (b : Operation) (x : Reply) → Of a ps made → MayPoint a made b x → Of a (ps ++ (b, x) ∷ []) (pointed a b x)
onward Wait ps Nothing Wait x of may = (subst (λ ys. Complete Wait (ys ++ (Wait, x) ∷ []) x) (sym of) refl, last_replied ps Wait x)
onward Wait ps Nothing Unlock x of may = (inl refl, subst (λ ys. ys ++ (Unlock, x) ∷ [] ≡ (Unlock, OK) ∷ []) (sym of) (ap (λ y. (Unlock, y) ∷ []) may))
onward Wait ps Nothing b x of may = absurd cc
onward Wait ps Released b x of may = subst (λ r. Of Wait (ps ++ (r, x) ∷ []) (pointed Wait r x)) (sym may) (subst (λ ys. Complete Wait (ys ++ (Lock, x) ∷ []) x) (sym of.1) (refl, refl), last_replied ps Lock x)
onward Wait ps (Decided y) b x of may = absurd may
onward TimedWait ps Nothing Wait x of may = (subst (λ ys. Complete TimedWait (ys ++ (Wait, x) ∷ []) x) (sym of) (refl, inl refl), last_replied ps Wait x)
onward TimedWait ps Nothing Unlock x of may = (inr refl, subst (λ ys. ys ++ (Unlock, x) ∷ [] ≡ (Unlock, OK) ∷ []) (sym of) (ap (λ y. (Unlock, y) ∷ []) may))
onward TimedWait ps Nothing b x of may = absurd may
onward TimedWait ps Released b x of may = subst (λ r. Of TimedWait (ps ++ (r, x) ∷ []) (pointed TimedWait r x)) (sym may) (subst (λ ys. Complete TimedWait (ys ++ (Lock, x) ∷ []) x) (sym of.1) (refl, refl, inl refl), last_replied ps Lock x)
onward TimedWait ps (Decided y) b x of may = absurd may
onward TimedLock ps Nothing b x of may = (
  ⊎_elim
      (λ e. subst (λ r. Complete TimedLock (ps ++ (r, x) ∷ []) x) (sym e) (subst (λ ys. Complete TimedLock (ys ++ (TimedLock, x) ∷ []) x) (sym of) (inl refl)))
      (λ e. subst (λ r. Complete TimedLock (ps ++ (r, x) ∷ []) x) (sym e) (subst (λ ys. Complete TimedLock (ys ++ (Lock, x) ∷ []) x) (sym of) (inr refl)))
      may,
  last_replied ps b x,
)
onward a ps Nothing b x of may = subst (λ r. Of a (ps ++ (r, x) ∷ []) (pointed a r x)) (sym may) (subst (λ ys. Complete a (ys ++ (a, x) ∷ []) x) (sym of) refl, last_replied ps a x)
onward a ps Released b x of may = absurd (⊎_elim (λ (e : a ≡ Wait). cc e) (λ (e : a ≡ TimedWait). cc e) of.0)
onward a ps (Decided y) b x of may = absurd may

-- the first point of a call
pub may_first : (a b : Operation) (x : Reply) → Beginning a ((b, x) ∷ []) → MayPoint a Nothing b x
may_first TimedLock b x ([], y, is) = ⊎_elim (λ e. inl (ap (λ (p : Act). p.0) e)) (λ e. inr (ap (λ (p : Act). p.0) e)) is
may_first TimedWait b x ([], y, is) = subst (λ c. MayPoint TimedWait Nothing c x) (sym is.0) tt
may_first Wait b x ([], y, is) = subst (λ c. MayPoint Wait Nothing c x) (sym (ap (λ (p : Act). p.0) is)) tt
may_first a b x ([], y, is) = ap (λ (p : Act). p.0) is
may_first TimedWait b x (p ∷ [], y, is) = subst (λ c. MayPoint TimedWait Nothing c x) (sym (ap (λ q. q.0) is.0)) (ap (λ q. q.1) is.0)
may_first Wait b x (p ∷ [], y, is) = subst (λ c. MayPoint Wait Nothing c x) (sym (ap (λ q. q.0) is.0)) (ap (λ q. q.1) is.0)
may_first a b x (p ∷ [], y, is) = absurd is
may_first a b x (p ∷ q ∷ rest, y, is) = absurd is

-- and no further one
none_more : (a : Operation) (ps rest : List Act) (p : Act) (x y : Reply) → Complete a ps x → Complete a (ps ++ p ∷ rest) y → ⊥
none_more a [] rest p x y is also = is
none_more Wait (q ∷ []) [] p x y is also = let e : Wait ≡ Unlock = ap (λ (r : Act). r.0) (sym is ∙ also.0) in absurd cc
none_more TimedWait (q ∷ []) [] p x y is also = let e : Wait ≡ Unlock = sym is.0 ∙ ap (λ (r : Act). r.0) also.0 in absurd cc
none_more a (q ∷ []) [] p x y is also = also
none_more a (q ∷ []) (r ∷ rest) p x y is also = also
none_more a (q ∷ r ∷ []) rest p x y is also = also
none_more a (q ∷ r ∷ s ∷ qs) rest p x y is also = is

-- nor after all of them
pub no_more : (a : Operation) (ps : List Act) (y : Reply) (b : Operation) (x : Reply) → Complete a ps y → Beginning a (ps ++ (b, x) ∷ []) → ⊥
no_more a ps y b x of is = none_more a ps is.0 (b, x) y is.1 of (subst (λ ys. Complete a ys is.1) (append_assoc ps ((b, x) ∷ []) is.0) is.2)

pub may_point : (a : Operation) (ps : List Act) (made : Made) (b : Operation) (x : Reply) → Of a ps made → Beginning a (ps ++ (b, x) ∷ []) → MayPoint a made b x
may_point a ps Nothing b x of is = may_first a b x (subst (λ ys. Beginning a (ys ++ (b, x) ∷ [])) of is)
may_point a ps Released b x of is =
    ⊎_elim (λ (w : a ≡ Wait). subst (λ c. MayPoint c Released b x) (sym w) (second (subst (λ ys. Beginning Wait (ys ++ (b, x) ∷ [])) of.1 (subst (λ c. Beginning c (ps ++ (b, x) ∷ [])) w is))))
    (λ (w : a ≡ TimedWait). subst (λ c. MayPoint c Released b x) (sym w) (timed (subst (λ ys. Beginning TimedWait (ys ++ (b, x) ∷ [])) of.1 (subst (λ c. Beginning c (ps ++ (b, x) ∷ [])) w is)))) of.0
  where
    second : Beginning Wait ((Unlock, OK) ∷ (b, x) ∷ []) → b ≡ Lock
    second ([], y, h) = ap (λ p. p.0) h.1
    second (p ∷ rest, y, h) = absurd h

    timed : Beginning TimedWait ((Unlock, OK) ∷ (b, x) ∷ []) → b ≡ Lock
    timed ([], y, h) = h.1
    timed (p ∷ rest, y, h) = absurd h
may_point a ps (Decided y) b x of is = absurd (no_more a ps y b x of.0 is)

-- ---- a thread

-- this is the stage of a thread of which these facts are recorded
abbrev pub Kept : Stage → List Fact → Type 0
Kept Resting fs = (call_in fs ≡ None) × (is_asleep fs ≡ false) × (is_killed fs ≡ false) × (is_reaped fs ≡ false)
Kept (Calling c made asleep) fs = (call_in fs ≡ Some c) × (is_asleep fs ≡ asleep) × (is_killed fs ≡ false) × (is_reaped fs ≡ false) × Of c.operation (points_in fs) made
Kept Dying fs = (call_in fs ≡ None) × (is_asleep fs ≡ false) × (is_killed fs ≡ true) × (is_reaped fs ≡ false)
Kept Reaped fs = (call_in fs ≡ None) × (is_asleep fs ≡ false) × (is_killed fs ≡ true) × (is_reaped fs ≡ true)

-- what it may return makes its points those of a call that returns so
pub returned : (a : Operation) (ps : List Act) (made : Made) (x : Reply) → Of a ps made → MayReturnNow a made x → Complete a ps x
returned a ps Nothing x of may = absurd may
returned a ps Released x of may = absurd may
returned TimedWait [] (Decided y) x of may = absurd of.0
returned TimedWait (p ∷ []) (Decided y) x of may = (of.0.0, subst (λ z. MayReturn TimedWait z x) (sym of.1) may)
returned TimedWait (p ∷ q ∷ []) (Decided y) x of may = (of.0.0, of.0.1, subst (λ z. MayReturn TimedWait z x) (sym of.1) may)
returned TimedWait (p ∷ q ∷ r ∷ ps) (Decided y) x of may = absurd of.0
returned a ps (Decided y) x of may = subst (Complete a ps) (sym may) of.0

pub may_fits : (s : Stage) (f : Fact) (fs : List Fact) → Kept s fs → May s f → FitsThread fs f
may_fits Resting (Begin t c) fs k m = (k.0, k.2)
may_fits Resting (Kill t) fs k m = k.2
may_fits (Calling c made z) (Kill t) fs k m = k.2
may_fits (Calling c made z) (Point d) fs k m = (k.1 ∙ m.0, (c, k.0, m.1, beginning c.operation _ _ (onward c.operation (points_in fs) made d.operation d.reply k.4 m.2)))
may_fits (Calling c made z) (Sleep t q) fs k m = (k.1 ∙ m, (c, k.0))
may_fits (Calling c made z) (Wake t) fs k m = k.1 ∙ m
may_fits (Calling c made z) (Move t m') fs k m = k.1 ∙ m
may_fits (Calling c made z) (Return t x) fs k m = (k.1 ∙ m.0, (c, k.0, returned c.operation (points_in fs) made x k.4 m.1))
may_fits Dying (Death t m') fs k m = (k.2, k.3)
may_fits Dying (Reap t) fs k m = (k.2, k.3)
may_fits Reaped (Renew t) fs k m = k.3
may_fits s f fs k m = absurd m

pub nobody_calls : {A : Type 0} {x : A} (o : Option A) → o ≡ None → o ≡ Some x → ⊥
nobody_calls o e f = let g = sym e ∙ f in absurd cc

pub unkilled : (b : Bool) → b ≡ true → b ≡ false → ⊥
unkilled b e f = let g = sym e ∙ f in absurd cc

pub same_call : (o : Option Begun) (c d : Begun) → o ≡ Some c → o ≡ Some d → d ≡ c
same_call o c d e f = let g = sym e ∙ f in cc

pub all_made : (a : Operation) (ps : List Act) (made : Made) (x : Reply) → Of a ps made → Complete a ps x → MayReturnNow a made x
all_made a ps Nothing x of is = absurd (subst (λ ys. Complete a ys x) of is)
all_made a ps Released x of is =
    absurd (⊎_elim (λ (w : a ≡ Wait). waits (subst (λ ys. Complete Wait ys x) of.1 (subst (λ c. Complete c ps x) w is)))
    (λ (w : a ≡ TimedWait). timed (subst (λ ys. Complete TimedWait ys x) of.1 (subst (λ c. Complete c ps x) w is))) of.0)
  where
    waits : Complete Wait ((Unlock, OK) ∷ []) x → ⊥
    waits h = let e : Unlock ≡ Wait = ap (λ (p : Act). p.0) h in cc e

    timed : Complete TimedWait ((Unlock, OK) ∷ []) x → ⊥
    timed h = let e : Unlock ≡ Wait = h.0 in cc e
all_made TimedWait [] (Decided y) x of is = absurd is
all_made TimedWait (p ∷ []) (Decided y) x of is = subst (λ z. MayReturn TimedWait z x) of.1 is.1
all_made TimedWait (p ∷ q ∷ []) (Decided y) x of is = subst (λ z. MayReturn TimedWait z x) of.1 is.2
all_made TimedWait (p ∷ q ∷ r ∷ ps) (Decided y) x of is = absurd is
all_made a ps (Decided y) x of is = one_reply a ps x y (λ (e : a ≡ TimedWait). cc e) is of.0
  where
    one_reply : (a : Operation) (ps : List Act) (y x : Reply) → a ≢ TimedWait → Complete a ps y → Complete a ps x → y ≡ x
    one_reply a [] y x other p q = absurd p
    one_reply TimedLock (r ∷ []) y x other p q =
        ⊎_elim (λ a. ⊎_elim (λ b. ap (λ (s : Act). s.1) (sym a ∙ b)) (λ b. ap (λ (s : Act). s.1) (sym a ∙ b)) q)
        (λ a. ⊎_elim (λ b. ap (λ (s : Act). s.1) (sym a ∙ b)) (λ b. ap (λ (s : Act). s.1) (sym a ∙ b)) q) p
    one_reply TimedWait rs y x other p q = absurd (other refl)
    one_reply a (r ∷ []) y x other p q = ap (λ s. s.1) (sym p ∙ q)
    one_reply Wait (r ∷ s ∷ []) y x other p q = ap (λ z. z.1) (sym p.1 ∙ q.1)
    one_reply a (r ∷ s ∷ []) y x other p q = absurd p
    one_reply a (r ∷ s ∷ t ∷ rs) y x other p q = absurd p

pub fits_may : (s : Stage) (f : Fact) (fs : List Fact) → Kept s fs → FitsThread fs f → May s f
fits_may Resting (Begin t c) fs k h = tt
fits_may Resting (Kill t) fs k h = tt
fits_may Resting (Point d) fs k h = nobody_calls _ k.0 h.1.1
fits_may Resting (Death t m) fs k h = unkilled _ h.0 k.2
fits_may Resting (Sleep t q) fs k h = nobody_calls _ k.0 h.1.1
fits_may Resting (Wake t) fs k h = unkilled _ h k.1
fits_may Resting (Move t m') fs k h = unkilled _ h k.1
fits_may Resting (Return t x) fs k h = nobody_calls _ k.0 h.1.1
fits_may Resting (Reap t) fs k h = unkilled _ h.0 k.2
fits_may Resting (Renew t) fs k h = unkilled _ h k.3
fits_may (Calling c made z) (Begin t d) fs k h = nobody_calls _ h.0 k.0
fits_may (Calling c made z) (Kill t) fs k h = tt
fits_may (Calling c made z) (Point d) fs k h =
    let e = same_call _ c h.1.0 k.0 h.1.1 in
    (sym k.1 ∙ h.0, h.1.2 ∙ ap (λ (q : Begun). q.mutex) e, may_point c.operation (points_in fs) made d.operation d.reply k.4 (subst (λ (q : Begun). Beginning q.operation (points_in fs ++ (d.operation, d.reply) ∷ [])) e h.1.3))
fits_may (Calling c made z) (Death t m) fs k h = unkilled _ h.0 k.2
fits_may (Calling c made z) (Sleep t q) fs k h = sym k.1 ∙ h.0
fits_may (Calling c made z) (Wake t) fs k h = sym k.1 ∙ h
fits_may (Calling c made z) (Move t m') fs k h = sym k.1 ∙ h
fits_may (Calling c made z) (Return t x) fs k h =
    let e = same_call _ c h.1.0 k.0 h.1.1 in
    (sym k.1 ∙ h.0, all_made c.operation (points_in fs) made x k.4 (subst (λ (q : Begun). Complete q.operation (points_in fs) x) e h.1.2))
fits_may (Calling c made z) (Reap t) fs k h = unkilled _ h.0 k.2
fits_may (Calling c made z) (Renew t) fs k h = unkilled _ h k.3
fits_may Dying (Begin t c) fs k h = unkilled _ k.2 h.1
fits_may Dying (Kill t) fs k h = unkilled _ k.2 h
fits_may Dying (Point d) fs k h = nobody_calls _ k.0 h.1.1
fits_may Dying (Death t m) fs k h = tt
fits_may Dying (Sleep t q) fs k h = nobody_calls _ k.0 h.1.1
fits_may Dying (Wake t) fs k h = unkilled _ h k.1
fits_may Dying (Move t m') fs k h = unkilled _ h k.1
fits_may Dying (Return t x) fs k h = nobody_calls _ k.0 h.1.1
fits_may Dying (Reap t) fs k h = tt
fits_may Dying (Renew t) fs k h = unkilled _ h k.3
fits_may Reaped (Begin t c) fs k h = unkilled _ k.2 h.1
fits_may Reaped (Kill t) fs k h = unkilled _ k.2 h
fits_may Reaped (Point d) fs k h = nobody_calls _ k.0 h.1.1
fits_may Reaped (Death t m) fs k h = unkilled _ k.3 h.1
fits_may Reaped (Sleep t q) fs k h = nobody_calls _ k.0 h.1.1
fits_may Reaped (Wake t) fs k h = unkilled _ h k.1
fits_may Reaped (Move t m') fs k h = unkilled _ h k.1
fits_may Reaped (Return t x) fs k h = nobody_calls _ k.0 h.1.1
fits_may Reaped (Reap t) fs k h = unkilled _ k.3 h.1
fits_may Reaped (Renew t) fs k h = tt

pub next_kept : (s : Stage) (f : Fact) (fs : List Fact) → Kept s fs → May s f → Kept (next s f) (f ∷ fs)
next_kept Resting (Begin t c) fs k m = (refl, k.1, k.2, k.3, refl)
next_kept Resting (Kill t) fs k m = (refl, refl, refl, k.3)
next_kept (Calling c made z) (Kill t) fs k m = (refl, refl, refl, k.3)
next_kept (Calling c made z) (Point d) fs k m = (k.0, k.1, k.2, k.3, onward c.operation (points_in fs) made d.operation d.reply k.4 m.2)
next_kept (Calling c made z) (Sleep t q) fs k m = (k.0, refl, k.2, k.3, k.4)
next_kept (Calling c made z) (Wake t) fs k m = (k.0, refl, k.2, k.3, k.4)
next_kept (Calling c made z) (Move t m') fs k m = k
next_kept (Calling c made z) (Return t x) fs k m = (refl, k.1 ∙ m.0, k.2, k.3)
next_kept Dying (Death t m') fs k m = k
next_kept Dying (Reap t) fs k m = (k.0, k.1, k.2, refl)
next_kept Reaped (Renew t) fs k m = (k.0, k.1, refl, refl)
next_kept s f fs k m = absurd m
