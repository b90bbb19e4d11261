use Rattle.std.proofs.Common.{◌≤◌, ℕ, sym, ap, ◌∙◌, subst}
use Rattle.memorymap.specs.Layouts.{address_in, head_place}
use Rattle.ruledwords.specs.declared.pass.Card.{Card}
use Rattle.ruledwords.specs.Deaths.{IsWalking}
use Rattle.ruledwords.specs.Passes.{card, layout_of}
use Rattle.ruledwords.proofs.WalkBeginnings.{walk_begins}
use Rattle.ruledwords.proofs.WalkSteps.{walked_nothing}
use Rattle.ruledwords.proofs.turn.Reaping.walk.Goals as goal

pub returns-clause-words : goal.returns-clause-words
returns-clause-words c =
    let k = layout_of c.args.words.now in
    let pass = c.args.pass in
    let d : Card = card pass in
    let of = c.requires.pass in
    let most = subst (λ (n : ℕ). n ≤ 2048) pass.count pass.few in (
      of.0,
      subst (IsWalking k d) (sym c.new-walk.ensures) record {
        knows = of.1.knows;
        thread = sym pass.own;
        head = c.address-head.ensures ∙ ap (address_in k pass.thread) c.head.ensures ∙ ap (λ (t : ℕ). address_in k t (head_place t)) (sym pass.own);
        row = tt;
        left = walk_begins k d of.0.1 of.1 most;
      },
    )

pub returns-clause-walked : goal.returns-clause-walked
returns-clause-walked c = walked_nothing (layout_of c.args.words.now) (card c.args.pass)
