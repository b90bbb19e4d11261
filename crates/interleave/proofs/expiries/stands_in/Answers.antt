use Rattle.std.proofs.Common.{Some, sym, ap, ◌∙◌, arith}
use Rattle.interleave.proofs.Expiring.{got_stands, none_stands}
use Rattle.interleave.proofs.expiries.stands_in.Goals as goal

pub returns-then-get : goal.returns-then-get
returns-then-get c =
    sym (got_stands c.args.thread c.args.sleepers.now c.loop-place.place
    (sym c.get.ensures ∙ c.in-Some.is ∙ ap Some (sym c.get-in-loop-place.ensures.value ∙ c.if-get.true ∙ c.get-in-loop-place-2.ensures.value)))

pub returns : goal.returns
returns c = sym (none_stands c.args.thread c.args.sleepers.now (λ i below. c.loop-place.invariant i (omega arith)))
