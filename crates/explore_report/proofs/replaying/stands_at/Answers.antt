use Rattle.std.proofs.Common.{◌≡◌, ℕ, List, Some, sym, ap, ◌∙◌, arith}
use Rattle.protocol.specs.Machine.{stands_in}
use Rattle.explore_report.proofs.Sleeping.{got_stands, none_stands}
use Rattle.explore_report.proofs.replaying.stands_at.Goals as goal

pub returns-then-get : goal.returns-then-get
returns-then-get c =
    sym (ap (stands_in c.args.thread) (sym c.sleepers-sleepers.ensures.value) ∙ got_stands c.args.thread c.sleepers-sleepers.result c.loop-rank.rank
    (sym c.get.ensures ∙ c.in-Some.is ∙ ap Some (sym c.get-in-Some.ensures.value ∙ c.if-get.true ∙ c.get-in-Some-2.ensures.value)))

pub returns : goal.returns
returns c = sym (ap (stands_in c.args.thread) (sym c.sleepers-sleepers.ensures.value) ∙ none_stands c.args.thread c.sleepers-sleepers.result (λ i below. c.loop-rank.invariant i (omega arith)))
