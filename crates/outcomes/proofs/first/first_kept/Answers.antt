use Rattle.std.proofs.Common.{◌≡◌, ap, ◌∙◌, sym, length, List, ℕ, Vec, Global}
use Rattle.std.specs.Prelude.{replicate}
use Rattle.std.proofs.lemmas.List.{length-replicate, length-map}
use Rattle.memorymap.specs.Layouts.{Layout'}
use Rattle.protocol.specs.Machine.{State}
use Rattle.interleave.specs.Saved.{saved_state, WasReached}
use Rattle.outcomes.specs.declared.kept.Life.{Life}
use Rattle.outcomes.specs.Plans.{first_state}
use Rattle.outcomes.specs.Positions.{Place, first_place}
use Rattle.outcomes.specs.Kept.{place_in, places_in}
use Rattle.std.proofs.Common.{subst}
use Rattle.outcomes.proofs.first.first_kept.Goals as goal

pub returns-clause-first : goal.returns-clause-first
returns-clause-first c =
    let plan = c.args.plan.now in
    let s = c.in_ok-saved.saved in
    let of : c.args.machine.now.layout ≡ plan.layout = ap (λ (z : State). z.layout) c.requires in
    let state : saved_state plan.layout s ≡ first_state plan = ap (λ (l : Layout'). saved_state l s) (sym of) ∙ c.in_ok-saved.ensures.state ∙ c.requires in
    let places : places_in c.in_ok-lives.lives.value.items ≡ replicate plan.layout.threads first_place = ap (λ (v : Vec Life Global). places_in v.items) c.in_ok-lives.ensures ∙ c.in_ok-first.ensures ∙ ap (λ (n : ℕ). replicate n first_place) c.threads.ensures.value in
    λ i. record { state = state i; phase = 0; places = places i }

pub returns-clause-kept : goal.returns-clause-kept
returns-clause-kept c =
    let plan = c.args.plan.now in
    let of : c.args.machine.now.layout ≡ plan.layout = ap (λ (z : State). z.layout) c.requires in
    record {
      saved = subst (λ (l : Layout'). WasReached l c.in_ok-saved.saved) of c.in_ok-saved.ensures.reached;
      lives = ap (λ (v : Vec Life Global). length v.items) c.in_ok-lives.ensures ∙ sym (length-map c.in_ok-first.first.items place_in) ∙ ap (λ (ps : List Place). length ps) c.in_ok-first.ensures ∙ length-replicate c.threads.result first_place ∙ c.threads.ensures.value;
    }
