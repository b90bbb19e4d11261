use Rattle.std.proofs.Common.{◌≡◌, ℕ, ◌%◌, ◌<◌, true, sym, ap, ◌∙◌, arith, bit_xor}
use Rattle.lockword.specs.Cells.{spoiled, fields_of}
use Rattle.lockword.proofs.Bits.{or_flips, xor_spoiled}
use Rattle.lockword.proofs.cell.Cell.spoiled.Goals as goal

pub returns : goal.returns
returns c =
    let w : ℕ = c.word.result in
    let t : ℕ = c.from.result in
    let thread : t ≡ c.args.thread = c.from.ensures ∙ c.get.ensures.value in
    let own : w % 0x4000_0000 ≡ t = ap (λ f. f.owner) c.word.ensures.cell ∙ c.requires.owned ∙ sym thread in
    let died : (fields_of w).died ≡ true = ap (λ f. f.died) c.word.ensures.cell ∙ c.requires.inconsistent in
    let small : t < 0x4000_0000 = omega arith in
    ap (λ x. fields_of (bit_xor w x)) (or_flips t small) ∙ xor_spoiled w t own died ∙ ap spoiled c.word.ensures.cell
