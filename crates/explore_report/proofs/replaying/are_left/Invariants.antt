use Rattle.std.proofs.Common.{◌≡◌, ◌<◌, ℕ, Some}
use Rattle.std.specs.Prelude.{slice_get}
use Rattle.interleave.specs.Shown.{state_of}
use Rattle.posixmutex.specs.declared.object.Object.{Object}
use Rattle.protocol.specs.Headline.{seen}
use Rattle.explore_report.proofs.replaying.are_left.Given as goal

abbrev pub invariant-loop-mutex : goal.invariant-loop-mutex
invariant-loop-mutex l = (m : ℕ) (x : Object) → m < l.mutex → slice_get l.mutexes m ≡ Some x → seen (state_of l.machine) m ≡ x
