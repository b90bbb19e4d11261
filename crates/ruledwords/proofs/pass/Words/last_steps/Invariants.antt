use Rattle.std.proofs.Common.{◌≡◌}
use Rattle.ruledwords.specs.Stretches.{ComesOn}
use Rattle.ruledwords.proofs.Ranks.{rank_in}
use Rattle.ruledwords.proofs.pass.Words.last_steps.Given as goal

abbrev pub invariant-loop-end : goal.invariant-loop-end
invariant-loop-end g l = record {
  came : ComesOn l.self l.fn.pass l.fn.begun l.pass l.program;
  fate : g.F.Fate.stopped l.fate ≡ g.F.Fate.stopped l.fn.fate;
}

abbrev pub decreases-loop-end : goal.decreases-loop-end
decreases-loop-end g l = rank_in l.program.phase
