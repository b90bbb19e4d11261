use Rattle.std.proofs.Common.{◌≡◌, length}
use Rattle.page.specs.Stories.{heir_in}
use Rattle.page.proofs.stories.heir_in.Given as goal

abbrev pub invariant-lines : goal.invariant-lines
invariant-lines l = heir_in l.mutex l.rest ≡ heir_in l.mutex l.fn.lines

abbrev pub decreases-lines : goal.decreases-lines
decreases-lines l = length l.rest
