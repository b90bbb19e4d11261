use Rattle.std.proofs.Common.{◌≡◌, ◌∙◌, sym, ap, Bool, ℕ}
use Rattle.std.specs.Prelude.{if◌then◌else◌, ◌==◌}
use Rattle.buckets.proofs.Rings.{set_left}
use Rattle.buckets.proofs.ring.leave.Goals as goal
use Rattle.buckets.proofs.ring.leave.Goals.{then-eq, else-eq}

pub returns-clause-left : goal.returns-clause-left
returns-clause-left c front back r long is =
    let x = c.index.result.now in
    let test : ℕ → ℕ → Bool → ℕ = λ a t b. if b then a else t in
    let heir : c.if-eq.thread ≡ (if x.first.thread == c.args.thread then c.args.after else x.first.thread) = elim c.if-eq.branch [
      | then-eq w ↦ w.thread-is ∙ ap (λ (b : Bool). if b then c.args.after else x.first.thread) (sym w.if-eq.true ∙ c.eq.ensures)
      | else-eq w ↦ w.thread-is ∙ ap (λ (b : Bool). if b then c.args.after else x.first.thread) (sym w.if-eq.false ∙ c.eq.ensures)
    ] in
    set_left c.args.rings.now.items front back c.args.place r x c.args.thread c.args.after c.if-eq.thread long is c.index.ensures c.if-count-le1.false heir
