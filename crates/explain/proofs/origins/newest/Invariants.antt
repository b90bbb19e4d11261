use Rattle.std.proofs.Common.{◌≡◌, take, reverse}
use Rattle.explain.specs.Origins.{is_origin, newest_line}
use Rattle.explain.proofs.origins.newest.Given as goal

abbrev pub invariant-loop-index : goal.invariant-loop-index
invariant-loop-index l = l.found ≡ newest_line (λ e. is_origin l.why l.entry e) (reverse (take l.index l.entries))
