use Rattle.std.proofs.Common.{◌≡◌, length}
use Rattle.page.specs.Stories.{story_in}
use Rattle.page.proofs.stories.story_in.Given as goal

abbrev pub invariant-lines : goal.invariant-lines
invariant-lines l = story_in l.rest ≡ story_in l.fn.lines

abbrev pub decreases-lines : goal.decreases-lines
decreases-lines l = length l.rest
