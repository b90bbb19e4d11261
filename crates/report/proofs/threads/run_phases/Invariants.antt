use Rattle.std.proofs.Common.{take}
use Rattle.report.specs.Threads.{HaveMade}
use Rattle.report.proofs.threads.run_phases.Given as goal

abbrev pub invariant-loop-phase : goal.invariant-loop-phase
invariant-loop-phase g l = HaveMade l.bench (take l.phase-index l.phases) l.fn.workers.items l.workers.items l.replies.items
