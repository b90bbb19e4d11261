-- The event of a kind and a thread is the one that the plan asks for.
use Rattle.std.proofs.Common.{◌≡◌, ℕ, Bool, true, false, Option, Some, None, refl, sym, ap, ◌∙◌, subst}
use Rattle.protocol.specs.declared.event.Event.{Event}
use Rattle.protocol.specs.declared.event.Event.TheVariants.{Begin, Step, Kill, Leave, Expire, Decline, Renew, Remake, Spare}
use Rattle.protocol.specs.declared.event.LeftTo.TheVariants as left_to
use Rattle.condvar.specs.declared.op.Op.{Op}
use Rattle.outcomes.specs.declared.plan.Plan.{Plan}
use Rattle.outcomes.specs.declared.next.Next.{Next}
use Rattle.outcomes.specs.declared.events.Kind.{Kind}
use Rattle.outcomes.specs.declared.events.Kind.TheVariants as kind
use Rattle.outcomes.specs.Positions.{Position, next_call, is_turn, may_kill}
use Rattle.outcomes.specs.Events.{Begins, IsAsked, MayCome}
use Rattle.outcomes.specs.Searches.{IsOf, thread_of, if_wanted, begin_with, event_for}

wanted_is : (b : Bool) (x e : Event) → if_wanted b x ≡ Some e → (b ≡ true) × (x ≡ e)
wanted_is true x e h = (refl, cc)
wanted_is false x e h = absurd cc

some_is : (x e : Event) → Some x ≡ Some e → x ≡ e
some_is x e h = cc

abbrev Asks : Plan → Position → Kind → ℕ → Event → Type 0
Asks plan p k t e = IsAsked plan p e × IsOf k e × (thread_of e ≡ t)

-- what is found is asked for
pub found_asked : (plan : Plan) (p : Position) (k : Kind) (t : ℕ) (e : Event) → event_for plan p k t ≡ Some e → IsAsked plan p e × IsOf k e × (thread_of e ≡ t)
found_asked plan p kind.Begin t e h = go (next_call plan p.places t) refl h
  where
    go : (o : Option Next) → next_call plan p.places t ≡ o → begin_with plan p t o ≡ Some e → Asks plan p kind.Begin t e
    go None is h = absurd cc
    go (Some n) is h = let w = wanted_is (is_turn plan p n.phase) (Begin t n.op) e h in subst (Asks plan p kind.Begin t) w.1 (subst (Begins plan p n.op) (sym is) (refl, w.0), tt, refl)
found_asked plan p kind.Step t e h = subst (Asks plan p kind.Step t) (some_is (Step t) e h) (tt, tt, refl)
found_asked plan p kind.Kill t e h = let w = wanted_is (may_kill plan p t) (Kill t) e h in subst (Asks plan p kind.Kill t) w.1 (w.0, tt, refl)
found_asked plan p kind.Expire t e h = let w = wanted_is plan.asked.expire (Expire t) e h in subst (Asks plan p kind.Expire t) w.1 (w.0, tt, refl)
found_asked plan p kind.Leave t e h = let w = wanted_is plan.asked.leave (Leave t) e h in subst (Asks plan p kind.Leave t) w.1 (w.0, tt, refl)
found_asked plan p kind.Spare t e h = let w = wanted_is plan.asked.spare (Spare t left_to.Thread) e h in subst (Asks plan p kind.Spare t) w.1 (w.0, tt, refl)

-- and what is asked for is found
pub asked_found : (plan : Plan) (p : Position) (k : Kind) (e : Event) → IsAsked plan p e → IsOf k e → event_for plan p k (thread_of e) ≡ Some e
asked_found plan p kind.Begin (Begin t o) h of = go (next_call plan p.places t) h
  where
    go : (x : Option Next) → Begins plan p o x → begin_with plan p t x ≡ Some (Begin t o)
    go None h = absurd h
    go (Some n) h = ap (λ (b : Bool). if_wanted b (Begin t n.op)) h.1 ∙ ap (λ (y : Op). Some (Begin t y)) h.0
asked_found plan p kind.Step (Step t) h of = refl
asked_found plan p kind.Kill (Kill t) h of = ap (λ (b : Bool). if_wanted b (Kill t)) h
asked_found plan p kind.Expire (Expire t) h of = ap (λ (b : Bool). if_wanted b (Expire t)) h
asked_found plan p kind.Leave (Leave t) h of = ap (λ (b : Bool). if_wanted b (Leave t)) h
asked_found plan p kind.Spare (Spare t left_to.Thread) h of = ap (λ (b : Bool). if_wanted b (Spare t left_to.Thread)) h
asked_found plan p kind.Spare (Spare t left_to.Owner) h of = absurd h
asked_found plan p kind.Spare (Spare t left_to.Walk) h of = absurd h
asked_found plan p k e h of = absurd of

-- an event that may come is of one of the kinds
pub of_a_kind : (plan : Plan) (p : Position) (e : Event) → MayCome plan p e → (k : Kind) × IsOf k e
of_a_kind plan p (Begin t o) h = (kind.Begin, tt)
of_a_kind plan p (Step t) h = (kind.Step, tt)
of_a_kind plan p (Kill t) h = (kind.Kill, tt)
of_a_kind plan p (Expire t) h = (kind.Expire, tt)
of_a_kind plan p (Leave t) h = (kind.Leave, tt)
of_a_kind plan p (Spare t by) h = (kind.Spare, tt)
of_a_kind plan p (Decline t) h = absurd h.0
of_a_kind plan p (Renew t) h = absurd h.0
of_a_kind plan p (Remake t m) h = absurd h.0
