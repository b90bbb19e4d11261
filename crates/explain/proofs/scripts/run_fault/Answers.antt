use Rattle.script.specs.declared.command.Mode.TheVariants.{Run}
use Rattle.explain.proofs.Titles.{played_as, read_as}
use Rattle.explain.proofs.scripts.run_fault.Goals as goal

pub returns-in-Err : goal.returns-in-Err
returns-in-Err c = read_as Run c.args.bytes.now c.in-Err.fault c.known.result c.in-Err.ensures.reads c.known.ensures

pub returns : goal.returns
returns c = played_as c.args.bytes.now c.in-Ok.script c.in-Err-play.fault c.known-in-Err-play.result c.in-Ok.ensures.reads c.in-Err-play.ensures c.known-in-Err-play.ensures
