use Rattle.std.proofs.Common.{◌∙◌, ap, arith}
use Rattle.memorymap.specs.Addresses.{seen_at}
use Rattle.memorymap.specs.Layouts.{words_of, base_of}
use Rattle.memorymap.proofs.Processes.{found}
use Rattle.memorymap.proofs.layout.Layout.place.Goals as goal
use Rattle.memorymap.proofs.layout.Layout.place.Goals.{else-place-ge1-via-then-place-ge1+else-place-words, else-place-ge1-via-else-place-ge1}

pub returns-else-place-ge1-clause-address : goal.returns-else-place-ge1-clause-address
returns-else-place-ge1-clause-address c = λ p is same.
    let at = found (base_of c.args.self.now c.args.thread) (words_of c.args.self.now) p c.args.address c.seen_at-place.result (omega (arith, c.base.ensures.value, c.base.ensures.low)) (omega (arith, c.words-words.ensures.value, c.words-words.ensures.small)) is same
    (c.seen_at-place.ensures ∙ ap (λ b. seen_at b c.args.address) c.base.ensures.value) in
    elim c.else-place-ge1.branch [
      | else-place-ge1-via-then-place-ge1+else-place-words w ↦ absurd (omega (arith, at.0, at.1, c.words-words.ensures.value))
      | else-place-ge1-via-else-place-ge1 w ↦ absurd (omega (arith, at.0))
    ]
