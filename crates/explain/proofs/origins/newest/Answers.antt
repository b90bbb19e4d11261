use Rattle.std.proofs.Common.{ap, ◌∙◌}
use Rattle.explain.specs.Origins.{is_origin}
use Rattle.explain.proofs.Earlier.{newer_other, newer_this, newest_all}
use Rattle.explain.proofs.origins.newest.Goals as goal
use Rattle.explain.proofs.origins.newest.Goals.{then-is_origin, else-is_origin}

pub loop-index-preserved : goal.loop-index-preserved
loop-index-preserved c =
    let is = c.is_origin.ensures ∙ ap (is_origin c.args.why.now c.args.entry.now) c.index-entries-index.is in
    elim c.if-is_origin.branch [
      | then-is_origin w ↦ newer_this (λ e. is_origin c.args.why.now c.args.entry.now e) c.args.entries.now c.loop-index.index c.index-entries-index.result c.loop-index.found c.if-is_origin.found c.is_origin.result c.loop-index-test.true c.loop-index.invariant is w.if-is_origin.true w.found-is
      | else-is_origin w ↦ newer_other (λ e. is_origin c.args.why.now c.args.entry.now e) c.args.entries.now c.loop-index.index c.index-entries-index.result c.loop-index.found c.if-is_origin.found c.is_origin.result c.loop-index-test.true c.loop-index.invariant is w.if-is_origin.false w.found-is
    ]

pub returns : goal.returns
returns c = newest_all (λ e. is_origin c.args.why.now c.args.entry.now e) c.args.entries.now c.loop-index.index c.loop-index.found c.loop-index-test.false c.loop-index.invariant
