use Rattle.outcomes.specs.Outcomes.{outcome_in}
use Rattle.outcomes.proofs.Listing.{listed_at, unlisted_more, unlisted_all}
use Rattle.outcomes.proofs.exploring.is_listed.Goals as goal

pub returns-then-same_outcomes-clause-listed : goal.returns-then-same_outcomes-clause-listed
returns-then-same_outcomes-clause-listed c = λ e. listed_at (outcome_in c.args.outcome.now) c.args.found.now c.loop-witnessed.witnessed-index c.witnessed-item.result c.loop-witnessed-test.true c.witnessed-item.is c.if-same_outcomes.ensures

pub loop-witnessed-preserved : goal.loop-witnessed-preserved
loop-witnessed-preserved c = unlisted_more (outcome_in c.args.outcome.now) c.args.found.now c.loop-witnessed.witnessed-index c.witnessed-item.result c.loop-witnessed-test.true c.witnessed-item.is c.if-same_outcomes.ensures c.loop-witnessed.invariant

pub returns-clause-new : goal.returns-clause-new
returns-clause-new c = λ e. unlisted_all (outcome_in c.args.outcome.now) c.args.found.now c.loop-witnessed.witnessed-index c.loop-witnessed-test.false c.loop-witnessed.invariant
