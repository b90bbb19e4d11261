use Rattle.std.proofs.Common.{◌≡◌, map, take}
use Rattle.ruledwords.specs.Aways.{away_of}
use Rattle.ruledwords.proofs.meeting.aways_of.Given as goal

abbrev pub invariant-loop-pass : goal.invariant-loop-pass
invariant-loop-pass g l = l.aways.items ≡ map away_of (take l.pass-index l.passes)
