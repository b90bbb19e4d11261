-- What is recorded of a line is so.
use Rattle.std.proofs.Common.{◌≡◌, ◌≢◌, ℕ, ◌+◌, ◌==◌, Bool, true, false, List, [], ◌∷◌, ◌++◌, length, if◌then◌else◌, Some, None, refl, sym, ap, subst, ◌∙◌, eqb-true, eq-eqb}
use Rattle.std.specs.Prelude.{All}
use Rattle.std.proofs.lemmas.Bool.{ne_eqb}
use Rattle.std.proofs.lemmas.List.Elements.{All-nil, All-cons, All-head, All-tail}
use Rattle.lockword.specs.declared.reply.Reply.{Reply}
use Rattle.facts.specs.declared.fact.Begun.{Begun}
use Rattle.facts.specs.declared.fact.Fact.TheVariants.{Begin, Return, Kill, Reap, Renew}
use Rattle.histories.specs.declared.entry.Entry.{Entry}
use Rattle.histories.specs.declared.entry.Entry.TheVariants.{Told, Doom}
use Rattle.certificates.specs.Certificates.{whose}
use Rattle.judge.specs.declared.reason.OutOfTurn.TheVariants as turn
use Rattle.judge.specs.declared.reason.Reason.{Reason}
use Rattle.judge.specs.declared.reason.Reason.TheVariants.{OutOfTurn, NoOrder}
use Rattle.judge.specs.declared.reason.Standing.{Standing}
use Rattle.judge.specs.declared.reason.Standing.TheVariants.{Resting, Calling, Dead, Reaped}
use Rattle.judge.specs.Reasons.{IsNewest, IsSo, Newest, begin_reason, begins, death_reason, dies, reap_reason, reaps, reason_of, renewal_reason, renews, return_reason, standing_after, standing_behind}

-- ---- the newest line says where its thread is

says_of : (t : ℕ) (later earlier : List Entry) (e : Entry) → whose e ≡ t → All (λ (o : Entry). whose o ≢ t) later → standing_behind t (later ++ e ∷ earlier) ≡ standing_after e (length earlier + 1)
says_of t [] earlier e own others = ap (λ (b : Bool). if b then standing_after e (length earlier + 1) else standing_behind t earlier) (eq-eqb (whose e) t own)
says_of t (o ∷ later) earlier e own others =
    ap (λ (b : Bool). if b then standing_after o (length (later ++ e ∷ earlier) + 1) else standing_behind t (later ++ e ∷ earlier)) (ne_eqb (whose o) t (All-head (λ (x : Entry). whose x ≢ t) o later others))
    ∙ says_of t later earlier e own (All-tail (λ (x : Entry). whose x ≢ t) o later others)

pub says : (t : ℕ) (es : List Entry) (e : Entry) (n : IsNewest t es e) → standing_behind t es ≡ standing_after e (length n.earlier + 1)
says t es e n = ap (standing_behind t) n.all ∙ says_of t n.later n.earlier e n.own n.others

-- who rests has begun no call since
resting : (e : Entry) (k : ℕ) → standing_after e k ≡ Resting → begins e ≡ false
resting (Told (Begin t c)) k is = let no : Calling c k ≡ Resting = is in absurd cc
resting e k is = refl

living : (e : Entry) (k : ℕ) (s : Standing) → standing_after e k ≡ s → (s ≡ Dead → ⊥) → dies e ≡ false
living (Told (Kill t)) k s is apart = absurd (apart (sym is))
living (Doom t) k s is apart = absurd (apart (sym is))
living e k s is apart = refl

unreaped : (e : Entry) (k : ℕ) (s : Standing) → standing_after e k ≡ s → (s ≡ Reaped → ⊥) → reaps e ≡ false
unreaped (Told (Reap t)) k s is apart = absurd (apart (sym is))
unreaped e k s is apart = refl

-- ---- where a thread is, its newest line says

abbrev pub Found : ℕ → List Entry → Standing → Type 0
Found t es Resting = Unit {0}
Found t es (Calling c k) = (n : IsNewest t es (Told (Begin t c))) × (k ≡ length n.earlier + 1)
Found t es Dead = Newest dies t es
Found t es Reaped = Newest reaps t es

abbrev here : (t : ℕ) (e : Entry) (es : List Entry) → whose e ≡ t → IsNewest t (e ∷ es) e
here t e es own = record { later = []; earlier = es; all = refl; own = own; others = All-nil (λ (x : Entry). whose x ≢ t) }

abbrev there : (t : ℕ) (o e : Entry) (es : List Entry) → whose o ≢ t → IsNewest t es e → IsNewest t (o ∷ es) e
there t o e es other n = record {
  later = o ∷ n.later;
  earlier = n.earlier;
  all = ap (λ (xs : List Entry). o ∷ xs) n.all;
  own = n.own;
  others = All-cons (λ (x : Entry). whose x ≢ t) o n.later other n.others;
}

own_line : (t : ℕ) (e : Entry) (es : List Entry) → whose e ≡ t → Found t (e ∷ es) (standing_after e (length es + 1))
own_line t (Told (Begin u c)) es own = subst (λ (v : ℕ). Found v (Told (Begin u c) ∷ es) (Calling c (length es + 1))) own (here u (Told (Begin u c)) es refl, refl)
own_line t (Told (Kill u)) es own = (Told (Kill u), here t (Told (Kill u)) es own, refl)
own_line t (Told (Reap u)) es own = (Told (Reap u), here t (Told (Reap u)) es own, refl)
own_line t (Told f) es own = tt
own_line t (Doom u) es own = (Doom u, here t (Doom u) es own, refl)

further : (t : ℕ) (o : Entry) (es : List Entry) (s : Standing) → whose o ≢ t → Found t es s → Found t (o ∷ es) s
further t o es Resting other f = tt
further t o es (Calling c k) other f = (there t o (Told (Begin t c)) es other f.0, f.1)
further t o es Dead other f = (f.0, there t o f.0 es other f.1, f.2)
further t o es Reaped other f = (f.0, there t o f.0 es other f.1, f.2)

pub found : (t : ℕ) (es : List Entry) → Found t es (standing_behind t es)
found t [] = tt
found t (e ∷ es) = by_cases (whose e == t) refl (found t es) where
  by_cases : (b : Bool) → (whose e == t) ≡ b → Found t es (standing_behind t es) → Found t (e ∷ es) (if b then standing_after e (length es + 1) else standing_behind t es)
  by_cases true is f = own_line t e es (eqb-true (whose e) t is)
  by_cases false is f = further t e es (standing_behind t es) (λ same. let no : true ≡ false = sym (eq-eqb (whose e) t same) ∙ is in absurd cc) f

-- ---- each kind of line

gone : (es : List Entry) (e : Entry) (s : Standing) → Found (whose e) es s → reaps e ≡ false → renews e ≡ false → (why : Reason) → death_reason s ≡ Some why → IsSo es e why
gone es e Resting f lives old why is = let no : None ≡ Some why = is in absurd cc
gone es e (Calling c k) f lives old why is = let no : None ≡ Some why = is in absurd cc
gone es e Dead f lives old why is = let w : OutOfTurn turn.Dead ≡ why = cc in subst (IsSo es e) w (lives, f)
gone es e Reaped f lives old why is = let w : OutOfTurn turn.Reaped ≡ why = cc in subst (IsSo es e) w (old, f)

begun : (t : ℕ) (c : Begun) (es : List Entry) (s : Standing) → Found t es s → (why : Reason) → begin_reason s ≡ Some why → IsSo es (Told (Begin t c)) why
begun t c es (Calling d k) f why is = let w : OutOfTurn turn.InCall ≡ why = cc in subst (IsSo es (Told (Begin t c))) w (refl, (Told (Begin t d), f.0, refl))
begun t c es s f why is = gone es (Told (Begin t c)) s f refl refl why is

returned : (t : ℕ) (x : Reply) (es : List Entry) (s : Standing) → standing_behind t es ≡ s → Found t es s → (why : Reason) → return_reason s x ≡ Some why → IsSo es (Told (Return t x)) why
returned t x es Resting at f why is =
    let w : OutOfTurn turn.NoCall ≡ why = cc in
    subst (IsSo es (Told (Return t x))) w (refl, λ newest n. resting newest (length n.earlier + 1) (sym (says t es newest n) ∙ at))
returned t x es (Calling c k) at f why is =
    let w : NoOrder c.operation c.mutex x k ≡ why = cc in
    subst (IsSo es (Told (Return t x))) w (record { line = refl; call = c; newest = f.0; operation_is = refl; mutex_is = refl; place = f.1 })
returned t x es s at f why is = gone es (Told (Return t x)) s f refl refl why is

reaped : (t : ℕ) (es : List Entry) (s : Standing) → standing_behind t es ≡ s → Found t es s → (why : Reason) → reap_reason s ≡ Some why → IsSo es (Told (Reap t)) why
reaped t es Dead at f why is = let no : None ≡ Some why = is in absurd cc
reaped t es Reaped at f why is = let w : OutOfTurn turn.Reaped ≡ why = cc in subst (IsSo es (Told (Reap t))) w (refl, f)
reaped t es Resting at f why is =
    let w : OutOfTurn turn.Alive ≡ why = cc in
    subst (IsSo es (Told (Reap t))) w (refl, λ newest n. living newest (length n.earlier + 1) Resting (sym (says t es newest n) ∙ at) (λ (no : Resting ≡ Dead). absurd cc))
reaped t es (Calling c k) at f why is =
    let w : OutOfTurn turn.Alive ≡ why = cc in
    subst (IsSo es (Told (Reap t))) w (refl, λ newest n. living newest (length n.earlier + 1) (Calling c k) (sym (says t es newest n) ∙ at) (λ (no : Calling c k ≡ Dead). absurd cc))

renewed : (t : ℕ) (es : List Entry) (s : Standing) → standing_behind t es ≡ s → (why : Reason) → renewal_reason s ≡ Some why → IsSo es (Told (Renew t)) why
renewed t es Reaped at why is = let no : None ≡ Some why = is in absurd cc
renewed t es Resting at why is =
    let w : OutOfTurn turn.NotReaped ≡ why = cc in
    subst (IsSo es (Told (Renew t))) w (refl, λ newest n. unreaped newest (length n.earlier + 1) Resting (sym (says t es newest n) ∙ at) (λ (no : Resting ≡ Reaped). absurd cc))
renewed t es (Calling c k) at why is =
    let w : OutOfTurn turn.NotReaped ≡ why = cc in
    subst (IsSo es (Told (Renew t))) w (refl, λ newest n. unreaped newest (length n.earlier + 1) (Calling c k) (sym (says t es newest n) ∙ at) (λ (no : Calling c k ≡ Reaped). absurd cc))
renewed t es Dead at why is =
    let w : OutOfTurn turn.NotReaped ≡ why = cc in
    subst (IsSo es (Told (Renew t))) w (refl, λ newest n. unreaped newest (length n.earlier + 1) Dead (sym (says t es newest n) ∙ at) (λ (no : Dead ≡ Reaped). absurd cc))

pub so : (es : List Entry) (e : Entry) (why : Reason) → reason_of es e ≡ Some why → IsSo es e why
so es (Told (Begin t c)) why is = begun t c es (standing_behind t es) (found t es) why is
so es (Told (Return t x)) why is = returned t x es (standing_behind t es) refl (found t es) why is
so es (Told (Kill t)) why is = gone es (Told (Kill t)) (standing_behind t es) (found t es) refl refl why is
so es (Told (Reap t)) why is = reaped t es (standing_behind t es) refl (found t es) why is
so es (Told (Renew t)) why is = renewed t es (standing_behind t es) refl why is
so es (Told f) why is = let no : None ≡ Some why = is in absurd cc
so es (Doom t) why is = gone es (Doom t) (standing_behind t es) (found t es) refl refl why is
