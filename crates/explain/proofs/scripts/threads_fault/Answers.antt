use Rattle.script.specs.declared.command.Mode.TheVariants.{Threads}
use Rattle.explain.proofs.Titles.{read_as}
use Rattle.explain.proofs.scripts.threads_fault.Goals as goal

pub returns-in-Err : goal.returns-in-Err
returns-in-Err c = read_as Threads c.args.bytes.now c.in-Err.fault c.known.result c.in-Err.ensures.reads c.known.ensures
