use Rattle.streams.proofs.Writers.{ends_at_first, then_leaves}
use Rattle.judge_report.specs.Texts.{death_title, quote}
use Rattle.judge_report.proofs.evidence.write_death.Goals as goal

pub returns-in_err-write_death_title : goal.returns-in_err-write_death_title
returns-in_err-write_death_title g c =
    let l = c.args.line.now in
    ends_at_first _ _ c.from_residual.result (death_title c.args.mutex l) (quote l) c.from_residual.ensures.0 c.in_err-write_death_title.ensures

pub returns : goal.returns
returns g c =
    let l = c.args.line.now in
    then_leaves _ _ _ c.write_quote.result (death_title c.args.mutex l) (quote l) c.in_ok-write_death_title.ensures c.write_quote.ensures
