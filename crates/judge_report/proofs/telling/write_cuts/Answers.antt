use Rattle.streams.proofs.Writers.{goes_on, stops_at}
use Rattle.judge_report.specs.declared.keeping.Cut.{Cut}
use Rattle.judge_report.specs.Texts.{cut_text}
use Rattle.judge_report.proofs.telling.write_cuts.Goals as goal

abbrev nothing : Cut
nothing = record { number = 0; before = 0; last = 0; preamble = 0 }

pub returns-in_err-write_cut : goal.returns-in_err-write_cut
returns-in_err-write_cut g c =
    stops_at cut_text c.args.cuts.now c.loop-cut.cut-index nothing _ _ _ c.from_residual.result c.loop-cut-test.true c.from_residual.ensures.0 c.loop-cut.invariant c.in_err-write_cut.ensures

pub loop-cut-preserved : goal.loop-cut-preserved
loop-cut-preserved g c =
    goes_on cut_text c.args.cuts.now c.loop-cut.cut-index nothing _ _ _ c.loop-cut-test.true c.loop-cut.invariant c.in_ok-write_cut.ensures
