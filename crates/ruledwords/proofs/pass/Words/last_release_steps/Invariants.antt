use Rattle.std.proofs.Common.{◌≡◌}
use Rattle.ruledwords.specs.Releases.{IsInRelease, StaysReleasing}
use Rattle.ruledwords.proofs.Ranks.{rank_in}
use Rattle.ruledwords.proofs.pass.Words.last_release_steps.Given as goal

abbrev pub invariant-loop-wakes : goal.invariant-loop-wakes
invariant-loop-wakes g l = record {
  releases : IsInRelease l.self l.pass l.program;
  stays : StaysReleasing l.self l.fn.pass l.fn.begun l.pass l.program;
  fate : g.F.Fate.stopped l.fate ≡ g.F.Fate.stopped l.fn.fate;
}

abbrev pub decreases-loop-wakes : goal.decreases-loop-wakes
decreases-loop-wakes g l = rank_in l.program.phase
