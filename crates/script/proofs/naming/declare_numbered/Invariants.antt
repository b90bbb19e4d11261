use Rattle.std.proofs.Common.{◌≡◌, ◌++◌}
use Rattle.script.specs.Reading.{numbered}
use Rattle.script.proofs.Names.{texts}
use Rattle.script.proofs.naming.declare_numbered.Given as goal

abbrev pub invariant-loop-number : goal.invariant-loop-number
invariant-loop-number l = texts l.names.keys ≡ texts l.initial.names.keys ++ numbered l.word l.number-counter
