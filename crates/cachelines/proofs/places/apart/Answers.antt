use Rattle.std.proofs.Common.{◌≡◌, ℕ, ◌+◌, length, get_or, ap, ◌∙◌, refl, arith}
use Rattle.cachelines.specs.Spread.{slot_of}
use Rattle.cachelines.proofs.Spread.{words_are}
use Rattle.cachelines.proofs.places.apart.Goals as goal

pub returns-clause-words : goal.returns-clause-words
returns-clause-words c = words_are c.loop-place.apart.items c.args.words.now (length c.args.words.now) 0 refl
    (λ i low. let e : 0 + i ≡ i = omega arith in ap (λ (q : ℕ). get_or c.loop-place.apart.items (slot_of q) 0) e ∙ c.loop-place.invariant.each i (let end = c.loop-place-test.false in omega arith))
