use Rattle.std.proofs.Common.{ℕ, get_or, sym, ap, ◌∙◌}
use Rattle.std.specs.Mem.Slots.{slots_items}
use Rattle.cachelines.proofs.Spread.{word_here, found_at}
use Rattle.cachelines.proofs.closed.Closed.word.Goals as goal

pub returns : goal.returns
returns c =
    let ws = slots_items c.args.self.now.closed.words in
    found_at ws c.slot.result _ c.word.ensures ∙ ap (λ (i : ℕ). get_or ws i 0) c.slot.ensures ∙ sym (word_here c.args.self.now.count c.args.place ws c.requires)
