use Rattle.std.proofs.Common.{ℕ, ap, ◌∙◌}
use Rattle.memorymap.specs.Addresses.{seen_at}
use Rattle.ruledwords.specs.Rules.{card_of}
use Rattle.ruledwords.proofs.Listing.{loaded}
use Rattle.ruledwords.proofs.pass.Words.access_own.Goals as goal

pub returns-in-Load-clause-answer : goal.returns-in-Load-clause-answer
returns-in-Load-clause-answer c =
    let k = c.args.self.now.layout in
    let there = c.seen_at-place.ensures ∙ ap (λ (b : ℕ). seen_at b c.in-Load.at) c.requires.base in
    loaded k (card_of c.args.seat.now.me.0) c.args.access c.in-Load.at c.recall.result c.seen_at-place.result c.in-Load.is c.requires.address there c.requires.own c.requires.knows c.recall.ensures.value
