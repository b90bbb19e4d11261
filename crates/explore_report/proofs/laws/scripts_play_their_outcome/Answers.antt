use Rattle.explore_report.proofs.Lawful.{scripts}
use Rattle.explore_report.proofs.laws.scripts_play_their_outcome.Goals as goal

pub returns : goal.returns
returns g c = scripts (g.M.Maker.makes c.args.maker.now) (g.M.Maker.fills c.args.maker.now)
