use Rattle.std.proofs.Common.{length, ◌-◌, ◌≤◌}
use Rattle.refuting.specs.Kills.{AreNever}
use Rattle.refuting.proofs.kills.refutes_doom.Given as goal

abbrev pub invariant-kills : goal.invariant-kills
invariant-kills l = (l.count ≤ length l.rest) × AreNever l.head.mutexes l.before l.rest l.thread l.count

abbrev pub decreases-kills : goal.decreases-kills
decreases-kills l = length l.rest - l.count
