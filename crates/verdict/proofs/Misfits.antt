-- A reason for which a line is refused is a reason for which it doesn't fit.
use Rattle.std.proofs.Common.{◌≡◌, ◌≢◌, inl, inr, ℕ, ◌≤◌, ◌&&◌, Bool, true, false, nat_le, MatchBool, List, [], ◌∷◌, ◌++◌, Option, None, Some, ⊎_elim, refl, sym, ap, subst, ◌∙◌, arith}
use Rattle.std.proofs.lemmas.Bool.Decides.{nat_tests}
use Rattle.lockword.specs.declared.reply.Reply.{Reply}
use Rattle.lockword.specs.declared.reply.Reply.TheVariants.{OK, ETIMEDOUT, XHELD}
use Rattle.posixmutex.specs.declared.object.Object.{Object}
use Rattle.posixmutex.specs.declared.point.Operation.TheVariants as operation
use Rattle.posixmutex.specs.declared.point.Decision.{Decision}
use Rattle.posixmutex.specs.Objects.{Permits, Does, acquires, bereaved}
use Rattle.posixmutex.specs.Histories.{held_by, is_thread}
use Rattle.facts.specs.declared.fact.Begun.{Begun}
use Rattle.facts.specs.declared.fact.Fact.{Fact}
use Rattle.facts.specs.declared.fact.Fact.TheVariants as fact
use Rattle.facts.specs.declared.fact.Line.{Line}
use Rattle.facts.specs.Lives.{Beginning, Complete}
use Rattle.facts.specs.Facts.{decides, is_kill, is_renewal}
use Rattle.facts.specs.Orders.{Later, Each}
use Rattle.verdict.specs.declared.stage.Made.{Made}
use Rattle.verdict.specs.declared.stage.Made.TheVariants.{Nothing, Released, Decided}
use Rattle.verdict.specs.declared.stage.Stage.{Stage}
use Rattle.verdict.specs.declared.stage.Stage.TheVariants.{Resting, Calling, Dying, Reaped}
use Rattle.verdict.specs.declared.misfit.Misfit.{Misfit}
use Rattle.verdict.specs.declared.misfit.Misfit.TheVariants as misfit
use Rattle.verdict.specs.Earlier.{call_in, points_in, is_reaped}
use Rattle.verdict.specs.Fits.{Fits, FitsThread, Allows, IsDue, OwnsNothing}
use Rattle.verdict.specs.Misfits.{IsAwakeIn, IsDoneBy, IsEnded, IsMisfit, IsOutOfLife, IsOutOfOrder, IsTooEarly, OwnsSome, Refuses, RefusesStep, Told, needs_kill}
use Rattle.verdict.specs.Stages.{Forbids, ForbidsPoint, MayPoint}
use Rattle.verdict.proofs.Stages.{Of, Kept, all_made, may_first, may_point, no_more, nobody_calls, same_call, unkilled}

-- ---- the thread's stage says what of it was recorded

point_out : (m : Misfit) (c : Begun) (d : Decision) (made : Made) (fs : List Fact) → Of c.operation (points_in fs) made → IsAwakeIn fs c → ForbidsPoint m c.operation made d.operation d.reply → IsOutOfLife m fs (fact.Point d)
point_out (misfit.OtherOperation op) c d Nothing fs of awake h =
    (c, awake, h.0, of, λ x begins. h.1 x (may_first c.operation d.operation x (subst (λ a. Beginning a ((d.operation, x) ∷ [])) h.0 begins)))
point_out misfit.ReleaseRefused c d Nothing fs of awake h = (c, awake, h.0, of, h.1, h.2)
point_out misfit.Released c d Released fs of awake h = (c, awake, of.0, of.1, h)
point_out (misfit.Decided y) c d (Decided z) fs of awake h =
    let is = subst (λ (x : Reply). Of c.operation (points_in fs) (Decided x)) (sym h) of in
    (c, awake, is.0, is.1)
point_out m c d made fs of awake h = absurd h

pub forbids_out : (m : Misfit) (s : Stage) (f : Fact) (fs : List Fact) → Kept s fs → Forbids m s f → IsOutOfLife m fs f
forbids_out (misfit.InCall k) (Calling c made z) f fs kept h = (h.0, kept.0 ∙ ap Some (sym h.1))
forbids_out misfit.NoCall Resting f fs kept h = (h, kept.0, kept.2)
forbids_out misfit.Asleep (Calling c made z) f fs kept h = (h.0, kept.1 ∙ h.1)
forbids_out misfit.Awake Resting f fs kept h = (h, kept.1, kept.2)
forbids_out misfit.Awake (Calling c made z) f fs kept h = (h.0, kept.1 ∙ h.1, kept.2)
forbids_out misfit.Alive Resting f fs kept h = (h, kept.2, kept.3)
forbids_out misfit.Alive (Calling c made z) f fs kept h = (h, kept.2, kept.3)
forbids_out misfit.Killed Dying f fs kept h = (h, record { killed = kept.2; no_call = kept.0; awake = kept.1 }, kept.3)
forbids_out misfit.NotReaped Dying f fs kept h = (h, record { killed = kept.2; no_call = kept.0; awake = kept.1 }, kept.3)
forbids_out misfit.Reaped Reaped f fs kept h = (h, record { killed = kept.2; no_call = kept.0; awake = kept.1 }, kept.3)
forbids_out (misfit.OtherMutex n) (Calling c made z) (fact.Point d) fs kept h = (c, record { call = kept.0; awake = kept.1 ∙ h.0 }, h.1, h.2)
forbids_out misfit.Undecided (Calling c made z) (fact.Return t x) fs kept h = (c, record { call = kept.0; awake = kept.1 ∙ h.0 }, subst (Of c.operation (points_in fs)) h.1 kept.4)
forbids_out misfit.Released (Calling c made z) (fact.Return t x) fs kept h =
    let of : Of c.operation (points_in fs) Released = subst (Of c.operation (points_in fs)) h.1 kept.4 in
    (c, record { call = kept.0; awake = kept.1 ∙ h.0 }, of.0, of.1)
forbids_out (misfit.OtherReply y) (Calling c made z) (fact.Return t x) fs kept h =
    let of : Of c.operation (points_in fs) (Decided y) = subst (Of c.operation (points_in fs)) h.1 kept.4 in
    (c, record { call = kept.0; awake = kept.1 ∙ h.0 }, of.0, of.1, h.2)
forbids_out m (Calling c made z) (fact.Point d) fs kept h = point_out m c d made fs kept.4 (record { call = kept.0; awake = kept.1 ∙ h.0 }) h.2
forbids_out m s f fs kept h = absurd h

-- ---- such a line breaks its clause of Fits

-- of a killed thread nothing fits but its death and its reaping, and then that it lives again
ended_breaks : (fs : List Fact) (f : Fact) → IsEnded fs → (needs_kill f ≡ true → is_reaped fs ≡ false → ⊥) → (is_renewal f ≡ true → is_reaped fs ≡ true → ⊥) → FitsThread fs f → ⊥
ended_breaks fs (fact.Begin t c) e mourned renewed fits = unkilled _ e.killed fits.1
ended_breaks fs (fact.Kill t) e mourned renewed fits = unkilled _ e.killed fits
ended_breaks fs (fact.Point d) e mourned renewed fits = nobody_calls _ e.no_call fits.1.1
ended_breaks fs (fact.Death t m) e mourned renewed fits = mourned refl fits.1
ended_breaks fs (fact.Sleep t q) e mourned renewed fits = nobody_calls _ e.no_call fits.1.1
ended_breaks fs (fact.Wake t) e mourned renewed fits = unkilled _ fits e.awake
ended_breaks fs (fact.Move t m) e mourned renewed fits = unkilled _ fits e.awake
ended_breaks fs (fact.Return t x) e mourned renewed fits = nobody_calls _ e.no_call fits.1.1
ended_breaks fs (fact.Reap t) e mourned renewed fits = mourned refl fits.1
ended_breaks fs (fact.Renew t) e mourned renewed fits = renewed refl fits

-- the points of the call with this one
points_with : (fs : List Fact) (d : Decision) (c : Begun) → call_in fs ≡ Some c → FitsThread fs (fact.Point d) → Beginning c.operation (points_in fs ++ (d.operation, d.reply) ∷ [])
points_with fs d c is fits = subst (λ (k : Begun). Beginning k.operation (points_in fs ++ (d.operation, d.reply) ∷ [])) (same_call _ c fits.1.0 is fits.1.1) fits.1.3

points_all : (fs : List Fact) (t : ℕ) (x : Reply) (c : Begun) → call_in fs ≡ Some c → FitsThread fs (fact.Return t x) → Complete c.operation (points_in fs) x
points_all fs t x c is fits = subst (λ (k : Begun). Complete k.operation (points_in fs) x) (same_call _ c fits.1.0 is fits.1.1) fits.1.2

pub life_breaks : (m : Misfit) (fs : List Fact) (f : Fact) → IsOutOfLife m fs f → FitsThread fs f → ⊥
life_breaks (misfit.InCall c) fs (fact.Begin t k) h fits = nobody_calls _ fits.0 h.1
life_breaks misfit.NoCall fs (fact.Point d) h fits = nobody_calls _ h.1 fits.1.1
life_breaks misfit.NoCall fs (fact.Sleep t q) h fits = nobody_calls _ h.1 fits.1.1
life_breaks misfit.NoCall fs (fact.Return t x) h fits = nobody_calls _ h.1 fits.1.1
life_breaks misfit.Asleep fs (fact.Point d) h fits = unkilled _ h.1 fits.0
life_breaks misfit.Asleep fs (fact.Sleep t q) h fits = unkilled _ h.1 fits.0
life_breaks misfit.Asleep fs (fact.Return t x) h fits = unkilled _ h.1 fits.0
life_breaks misfit.Awake fs (fact.Wake t) h fits = unkilled _ fits h.1
life_breaks misfit.Awake fs (fact.Move t m) h fits = unkilled _ fits h.1
life_breaks misfit.Killed fs f h fits = ended_breaks fs f h.1 (λ yes not. unkilled _ yes h.0) (λ is yes. unkilled _ yes h.2) fits
life_breaks misfit.NotReaped fs (fact.Renew t) h fits = unkilled _ fits h.2
life_breaks misfit.Reaped fs f h fits = ended_breaks fs f h.1 (λ yes not. unkilled _ h.2 not) (λ is yes. unkilled _ is h.0) fits
life_breaks misfit.Alive fs (fact.Death t m) h fits = unkilled _ fits.0 h.1
life_breaks misfit.Alive fs (fact.Reap t) h fits = unkilled _ fits.0 h.1
life_breaks misfit.Alive fs (fact.Renew t) h fits = unkilled _ fits h.2
life_breaks (misfit.OtherMutex m) fs (fact.Point d) h fits = h.3 (fits.1.2 ∙ ap (λ (k : Begun). k.mutex) (same_call _ h.0 fits.1.0 h.1.call fits.1.1) ∙ sym h.2)
life_breaks (misfit.OtherOperation op) fs (fact.Point d) h fits =
    h.4 d.reply (subst (λ a. Beginning a ((d.operation, d.reply) ∷ [])) (sym h.2) (subst (λ ps. Beginning h.0.operation (ps ++ (d.operation, d.reply) ∷ [])) h.3 (points_with fs d h.0 h.1.call fits)))
life_breaks misfit.ReleaseRefused fs (fact.Point d) h fits =
    let may = may_point h.0.operation (points_in fs) Nothing d.operation d.reply h.3 (points_with fs d h.0 h.1.call fits) in
    h.5 (⊎_elim (λ is. subst (λ b. MayPoint operation.Wait Nothing b d.reply) h.4 (subst (λ a. MayPoint a Nothing d.operation d.reply) is may))
    (λ is. subst (λ b. MayPoint operation.TimedWait Nothing b d.reply) h.4 (subst (λ a. MayPoint a Nothing d.operation d.reply) is may)) h.2)
life_breaks misfit.Released fs (fact.Point d) h fits = h.4 (may_point h.0.operation (points_in fs) Released d.operation d.reply (h.2, h.3) (points_with fs d h.0 h.1.call fits))
life_breaks misfit.Released fs (fact.Return t x) h fits = all_made h.0.operation (points_in fs) Released x (h.2, h.3) (points_all fs t x h.0 h.1.call fits)
life_breaks (misfit.Decided y) fs (fact.Point d) h fits = no_more h.0.operation (points_in fs) y d.operation d.reply h.2 (points_with fs d h.0 h.1.call fits)
life_breaks misfit.Undecided fs (fact.Return t x) h fits = all_made h.0.operation (points_in fs) Nothing x h.2 (points_all fs t x h.0 h.1.call fits)
life_breaks (misfit.OtherReply y) fs (fact.Return t x) h fits = h.4 (all_made h.0.operation (points_in fs) (Decided y) x (h.2, h.3) (points_all fs t x h.0 h.1.call fits))
life_breaks (misfit.InCall c) fs f h fits = let e : false ≡ true = h.0 in absurd cc
life_breaks misfit.NoCall fs f h fits = let e : false ≡ true = h.0 in absurd cc
life_breaks misfit.Asleep fs f h fits = let e : false ≡ true = h.0 in absurd cc
life_breaks misfit.Awake fs f h fits = let e : false ≡ true = h.0 in absurd cc
life_breaks misfit.NotReaped fs f h fits = let e : false ≡ true = h.0 in absurd cc
life_breaks misfit.Alive fs f h fits = let e : false ≡ true = h.0 in absurd cc
life_breaks m fs f h fits = h

told_breaks : (P : Fact → Type 0) (earlier : List Line) (e : Line) → ((a : Line) → a.event ≡ e.event → P a.fact → Later a e → ⊥) → Told P e.event earlier → Each (λ a. Later a e) earlier → ⊥
told_breaks P [] e never told each = told
told_breaks P (a ∷ rest) e never (inl here) each = never a here.0 here.1 each.0
told_breaks P (a ∷ rest) e never (inr there) each = told_breaks P rest e never there each.1

falls_breaks : (i : ℕ) (earlier : List Line) (e : Line) → IsOutOfOrder (misfit.EventFalls i) earlier e → Each (λ a. Later a e) earlier → ⊥
falls_breaks i [] e h each = omega (arith, h.0, h.1)
falls_breaks i (a ∷ rest) e h each = omega (arith, h.0, h.1, each.0.never_falls)

pub order_breaks : (m : Misfit) (earlier : List Line) (e : Line) → IsOutOfOrder m earlier e → Each (λ a. Later a e) earlier → ⊥
order_breaks (misfit.EventFalls i) earlier e h each = falls_breaks i earlier e h each
order_breaks (misfit.AnothersEvent t) earlier e h each = told_breaks (IsDoneBy t) earlier e (λ a same by l. h.2 (sym (l.one_thread same by.0 h.1) ∙ by.1)) h.0 each
order_breaks misfit.EventDecided earlier e h each = told_breaks (λ f. decides f ≡ true) earlier e (λ a same does l. let lt = l.decisions_rise does h.1 in omega arith) h.0 each
order_breaks misfit.KillShares earlier e h each = told_breaks (λ f. is_kill f ≡ false) earlier e (λ a same any l. let lt = l.kill_behind h.1 in omega arith) h.0 each
order_breaks misfit.EventKilled earlier e h each = told_breaks (λ f. is_kill f ≡ true) earlier e (λ a same kills l. let lt = l.kill_before kills in omega arith) h each
order_breaks m earlier e h each = h

-- ---- the mutexes

death_owns : (o : Object) (t : ℕ) (x : Reply) (n : Object) → Permits o t operation.Death x n → o.owner ≡ Some t
death_owns o t OK n h = h.0
death_owns o t x n h = absurd h

both : (a b : Bool) → (a && b) ≡ true → (a ≡ true) × (b ≡ true)
both true b e = (refl, e)
both false b e = absurd cc

step_breaks : (m : Misfit) (held : ℕ) (o : Object) (d : Decision) (n : Object) → RefusesStep m held o d → Does held o d.thread d.operation d.reply n → ⊥
step_breaks (misfit.NotAllowed p x) held o d n h does = by_cases (acquires d.operation && nat_le 2048 held) refl does where
  by_cases : (b : Bool) → (acquires d.operation && nat_le 2048 held) ≡ b → MatchBool b ((d.reply ≡ XHELD) × (n ≡ o)) (Permits o d.thread d.operation d.reply n) → ⊥
  by_cases true is does =
      let room = h.2 (both (acquires d.operation) (nat_le 2048 held) is).0 in
      let full = (both (acquires d.operation) (nat_le 2048 held) is).1 in
      grind (arith, nat_tests)
  by_cases false is does = h.4 n (subst (λ y. Permits o d.thread d.operation y n) (sym h.1) does)
step_breaks (misfit.AtLimit k) held o d n h does =
    let full : nat_le 2048 held ≡ true = let le = h.1 in grind (arith, nat_tests) in
    let limited : (acquires d.operation && nat_le 2048 held) ≡ true = ap (λ b. b && nat_le 2048 held) h.2 ∙ full in
    h.3 (subst (λ b. MatchBool b ((d.reply ≡ XHELD) × (n ≡ o)) (Permits o d.thread d.operation d.reply n)) limited does).0
step_breaks (misfit.NotOwner p) held o d n h does =
    let died : Does held o d.thread operation.Death d.reply n = subst (λ op. Does held o d.thread op d.reply n) h.1 does in
    h.2 (death_owns o d.thread d.reply n died)
step_breaks m held o d n h does = h

-- where the thread holds as many as it may, only another reply than XHELD is refused
pub limited : (held : ℕ) (o : Object) (d : Decision) → ((n : Object) → Does held o d.thread d.operation d.reply n → ⊥) → acquires d.operation ≡ true → 2048 ≤ held → d.reply ≢ XHELD
limited held o d refused takes full is =
    let many : nat_le 2048 held ≡ true = grind (arith, nat_tests) in
    let at_limit : (acquires d.operation && nat_le 2048 held) ≡ true = ap (λ b. b && nat_le 2048 held) takes ∙ many in
    refused o (subst (λ b. MatchBool b ((d.reply ≡ XHELD) × (o ≡ o)) (Permits o d.thread d.operation d.reply o)) (sym at_limit) (is, refl))

pub is_owner : (t : ℕ) (o : Option ℕ) → is_thread t o ≡ true → o ≡ Some t
is_owner t None e = absurd cc
is_owner t (Some u) e = let same : u ≡ t = grind (arith, nat_tests) in ap Some same

-- an owner's death is refused only with another reply than OK
pub owner_dies : (held : ℕ) (o : Object) (d : Decision) → ((n : Object) → Does held o d.thread d.operation d.reply n → ⊥) → d.operation ≡ operation.Death → o.owner ≡ Some d.thread → d.reply ≢ OK
owner_dies held o d refused dies owner is =
    refused (bereaved o) (subst (λ op. Does held o d.thread op d.reply (bereaved o)) (sym dies) (subst (λ x. Does held o d.thread operation.Death x (bereaved o)) (sym is) (owner, refl)))

pub refuses_breaks : (m : Misfit) (n : ℕ) (os : ℕ → Object) (d : Option Decision) → Refuses m n os d → Allows n os d → ⊥
refuses_breaks m n os None h allows = h
refuses_breaks m n os (Some d) h allows = step_breaks m (held_by d.thread os n) (os d.mutex) d allows.0 h allows.1

pub owns_breaks : (m : Misfit) (n : ℕ) (os : ℕ → Object) (f : Fact) → OwnsSome m n os f → OwnsNothing n os f → ⊥
owns_breaks (misfit.StillOwns k) n os (fact.Reap t) h nothing = nothing k h.0 h.1
owns_breaks m n os f h nothing = absurd h

-- ---- a time limit

pub early_breaks : (m : Misfit) (earlier : List Line) (f : Fact) → IsTooEarly m earlier f → IsDue earlier f → ⊥
early_breaks (misfit.TooEarly i) earlier (fact.Point d) h due = unkilled _ (due refl refl h.1) h.2
early_breaks m earlier f h due = absurd h

-- ---- the line

pub misfit_fails : (m : Misfit) (n : ℕ) (earlier : List Line) (e : Line) → IsMisfit m n earlier e → Fits n earlier e → ⊥
misfit_fails m n earlier e (inl h) fits = h.1 fits.in_order
misfit_fails m n earlier e (inr (inl h)) fits = h.2 fits.of_thread
misfit_fails m n earlier e (inr (inr (inl h))) fits = h.3 fits.allowed
misfit_fails m n earlier e (inr (inr (inr (inl h)))) fits = h.4 fits.due
misfit_fails m n earlier e (inr (inr (inr (inr h)))) fits = h.3 fits.reaped
