use Rattle.std.proofs.Common.{◌≡◌, take}
use Rattle.windows.proofs.alike.same_objects.Given as goal

abbrev pub invariant-loop-at : goal.invariant-loop-at
invariant-loop-at l = take l.at l.a ≡ take l.at l.b
