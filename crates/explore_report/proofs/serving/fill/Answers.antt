use Rattle.explore_report.proofs.Ends.{written_so}
use Rattle.explore_report.proofs.serving.fill.Goals as goal

pub returns : goal.returns
returns g c = written_so (g.M.Maker.makes c.args.maker.now) (g.M.Maker.fills c.args.maker.now) c.args.name.now c.args.text.now _ _ c.fill.result c.in_ok-file.ensures c.in_ok-put_text.ensures c.fill.ensures
