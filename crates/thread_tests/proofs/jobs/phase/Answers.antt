use Rattle.threadbench.proofs.Living.{works_on}
use Rattle.thread_tests.proofs.jobs.phase.Goals as goal

pub returns : goal.returns
returns g c = (
  works_on c.args.bench.now _ c.in_ok-mine.mine c.in_ok-one.one c.in_ok-one.ensures.0 c.in_ok-mine.ensures.0,
  works_on c.args.bench.now _ c.in_ok-other.other c.in_ok-one.two c.in_ok-one.ensures.1 c.in_ok-other.ensures.0,
)
