use Rattle.std.proofs.Common.{◌≡◌, ℕ, ◌%◌, sym, ap, ◌∙◌}
use Rattle.lockword.specs.Cells.{released}
use Rattle.lockword.proofs.Bits.{xor_released}
use Rattle.lockword.proofs.cell.Cell.released.Goals as goal

pub returns : goal.returns
returns c =
    let w : ℕ = c.word.result in
    let t : ℕ = c.from.result in
    let thread : t ≡ c.args.thread = c.from.ensures ∙ c.get.ensures.value in
    let own : w % 0x4000_0000 ≡ t = ap (λ f. f.owner) c.word.ensures.cell ∙ c.requires ∙ sym thread in
    xor_released w t own ∙ ap released c.word.ensures.cell
