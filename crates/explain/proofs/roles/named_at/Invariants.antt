use Rattle.std.proofs.Common.{◌≡◌, drop}
use Rattle.explain.specs.Roles.{named_at}
use Rattle.explain.proofs.roles.named_at.Given as goal

abbrev pub invariant-loop-used : goal.invariant-loop-used
invariant-loop-used l = named_at (drop l.used-index l.uses) l.index ≡ named_at l.uses l.index
