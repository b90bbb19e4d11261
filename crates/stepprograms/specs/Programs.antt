-- Programs that are run access by access.
--
-- *Step program.* A link, an unlink, a walk, a call on a mutex and one on a condition variable alike: a value that is
-- under way or has returned; under way it has an access that comes next, and an answer leads it on, or to its return.
use Rattle.stepprograms.specs.declared.program.Progress.{Progress}
use Rattle.stepprograms.specs.declared.program.Progress.TheVariants.{Goes, Returns}

-- this holds, unless an answer has brought the program to its return
abbrev pub UnlessReturned : Progress → Type 0 → Type 0
UnlessReturned (Goes point) P = P
UnlessReturned (Returns x point) P = Unit {0}
