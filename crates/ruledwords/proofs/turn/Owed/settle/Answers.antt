use Rattle.std.proofs.Common.{ℕ, refl, sym, ap, ◌∙◌}
use Rattle.memorymap.specs.Layouts.{address_in, cell_place}
use Rattle.lockword.specs.declared.reply.Reply.TheVariants.{OK}
use Rattle.ruledwords.specs.Owing.{owing_at}
use Rattle.ruledwords.specs.Calls.{IsOnMutex}
use Rattle.ruledwords.specs.Passes.{card, layout_of}
use Rattle.ruledwords.specs.Turns.{running_program}
use Rattle.ruledwords.proofs.Changes.{more_yet}
use Rattle.ruledwords.proofs.Settling.{settles_at_once, decided_there}
use Rattle.ruledwords.proofs.Stretching.{in_place}
use Rattle.ruledwords.proofs.turn.Owed.settle.Goals as goal

pub unreachable-requires : goal.unreachable-requires
unreachable-requires c =
    let r = c.args.self.running in
    let t = c.in-None.ensures (in_place c.args.words.now r c.requires) in
    settles_at_once r.program c.advance.new.program t.1.1.0 (c.args.self.at ∙ ap owing_at c.in-Nobody.is) t.1.1.2 t.0.going

pub returns : goal.returns
returns c =
    let r = c.args.self.running in
    let w = c.args.words.now in
    let t = c.in-Some.ensures (in_place w r c.requires) in
    let decided = decided_there r.program.phase (c.args.self.at ∙ ap owing_at c.in-Nobody.is) in
    let on = c.requires.1 in
    let here : IsOnMutex (layout_of w) (running_program r) on.0 = (on.1.inside, on.1.of.cell ∙ ap (λ (u : ℕ). address_in (layout_of w) u (cell_place (layout_of w) on.0)) (sym on.1.of.thread)) in
    let end = t.3 on.0 (card r.pass) OK (c.requires, decided, here, (refl, more_yet (card r.pass) (cell_place (layout_of w) on.0))) in
    (c.in-Nobody.is, end.0, λ m there. (t.3 m (card r.pass) OK (c.requires, decided, there, (refl, more_yet (card r.pass) (cell_place (layout_of w) m)))).2)
