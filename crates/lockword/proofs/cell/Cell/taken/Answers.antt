use Rattle.std.proofs.Common.{◌≡◌, ℕ, ◌%◌, ◌<◌, ap, ◌∙◌, arith}
use Rattle.lockword.specs.Cells.{taken}
use Rattle.lockword.proofs.Bits.{or_taken}
use Rattle.lockword.proofs.cell.Cell.taken.Goals as goal

pub returns : goal.returns
returns c =
    let w : ℕ = c.word.result in
    let t : ℕ = c.from.result in
    let thread : t ≡ c.args.thread = c.from.ensures ∙ c.get.ensures.value in
    let free : w % 0x4000_0000 ≡ 0 = ap (λ f. f.owner) c.word.ensures.cell ∙ c.requires in
    let small : t < 0x4000_0000 = omega arith in
    or_taken w t free small ∙ (λ i. taken (c.word.ensures.cell i) (thread i))
