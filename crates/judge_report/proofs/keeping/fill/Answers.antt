use Rattle.windows.specs.Texts.{certificate_text}
use Rattle.judge_report.proofs.Filing.{written_so}
use Rattle.judge_report.proofs.keeping.fill.Goals as goal

pub returns : goal.returns
returns g c = written_so (g.M.Maker.makes c.args.maker.now) (g.M.Maker.fills c.args.maker.now) c.args.name.now (certificate_text c.args.head.now c.args.steps.now) _ _ c.fill.result c.in_ok-file.ensures c.in_ok-write_certificate.ensures c.fill.ensures
