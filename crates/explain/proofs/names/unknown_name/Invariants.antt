use Rattle.std.proofs.Common.{◌≡◌, drop}
use Rattle.explain.specs.Advised.{first_undeclared}
use Rattle.explain.proofs.names.unknown_name.Given as goal

abbrev pub invariant-loop-used : goal.invariant-loop-used
invariant-loop-used l = first_undeclared l.text l.number (drop l.used-index l.uses) ≡ first_undeclared l.text l.number l.uses
