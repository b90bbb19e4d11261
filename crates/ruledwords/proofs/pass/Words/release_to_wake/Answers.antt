use Rattle.std.proofs.Common.{Bool, ◌≡◌, ℕ, sym, ap, ◌∙◌, subst}
use Rattle.std.specs.Prelude.{if◌then◌else◌}
use Rattle.lockword.specs.Cells.{fields_of}
use Rattle.posixmutex.specs.declared.object.Object.{Object}
use Rattle.mutex.specs.declared.call.Call.TheVariants as call
use Rattle.ruledwords.specs.declared.pass.Card.{Card}
use Rattle.ruledwords.specs.declared.turn.Wakes.{Wakes}
use Rattle.ruledwords.specs.declared.turn.Wakes.TheVariants.{Nobody, One, All}
use Rattle.ruledwords.specs.Lists.{IsMortal}
use Rattle.ruledwords.specs.Outcomes.{wakes_of, OwesAsLeft}
use Rattle.ruledwords.specs.Passes.{card, layout_of}
use Rattle.ruledwords.specs.Releases.{ReleaseEnds}
use Rattle.ruledwords.specs.Turns.{running_of}
use Rattle.ruledwords.proofs.Listing.{mortal}
use Rattle.ruledwords.proofs.Releasing.{freed}
use Rattle.ruledwords.proofs.Turning.{died_in}
use Rattle.ruledwords.proofs.pass.Words.release_to_wake.Goals as goal

-- by the word that it found it owes whom the mutex as it left it tells
owes_as_left : (n : ℕ) (v : Wakes) (o : Object) → v ≡ wakes_of n → o.unusable ≡ (fields_of n).died → OwesAsLeft v (fields_of n).waiters o
owes_as_left n v o is spoilt = record {
  nobody = λ off. is ∙ ap (λ (b : Bool). if b then (if (fields_of n).died then All else One) else Nobody) off;
  one = λ on usable. is ∙ ap (λ (b : Bool). if b then (if (fields_of n).died then All else One) else Nobody) on ∙ ap (λ (b : Bool). if b then All else One) (sym spoilt ∙ usable);
  all = λ on unusable. is ∙ ap (λ (b : Bool). if b then (if (fields_of n).died then All else One) else Nobody) on ∙ ap (λ (b : Bool). if b then All else One) (sym spoilt ∙ unusable);
}

pub returns-in-Ok-clause-frees : goal.returns-in-Ok-clause-frees
returns-in-Ok-clause-frees g c = λ x m is.
    let w = c.args.self.now in
    let told = c.in-Ok.ensures.steps in
    let rel = told.1 x m is in
    let f = freed w x m (running_of w c.release_steps.new.pass c.in-Ok.freed.0 rel.0) rel.1 rel.2 rel.3 rel.4 c.in-Ok.freed.1 told.2 in
    (rel.1.0, f.0, f.1, f.2, rel.1.1, f.3, λ o run. owes_as_left (card c.release_steps.new.pass).last c.in-Ok.freed.1 o f.2 (f.4 o run), rel.5)

pub returns-in-Replied-clause-frees : goal.returns-in-Replied-clause-frees
returns-in-Replied-clause-frees g c = λ x m is. (subst (ReleaseEnds c.args.self.now c.args.running.pass c.args.running.program c.release_steps.new.pass) c.in-Replied.is c.in-Err.ensures.steps) x m is

pub returns-in-Stopped-clause-frees : goal.returns-in-Stopped-clause-frees
returns-in-Stopped-clause-frees g c = λ x m is.
    let w = c.args.self.now in
    let b = c.release_steps.new.pass in
    let t = (subst (ReleaseEnds c.args.self.now c.args.running.pass c.args.running.program c.release_steps.new.pass) c.in-Stopped.is c.in-Err.ensures.steps) x m is in
    let u = t.1.1 in
    let found = mortal (layout_of w) (card b) u.0.0.1 u.0.1.0 t.0 u.0.1.1 in
    ((c.died.ensures.words w u.0.0, subst (IsMortal (layout_of w)) (sym c.died.ensures.card) found), (died_in w x (call.Unlock m) (running_of w b t.0 t.1.0) (card c.died.result) u c.died.ensures.card).0, ap (λ (z : Card). z.trims) c.died.ensures.card ∙ t.1.5)
