use Rattle.std.proofs.Common.{◌≡◌, ◌+◌, ◌++◌, length, map, take}
use Rattle.std.specs.Vec.Iter.{into_iter_items}
use Rattle.report.specs.Meetings.{as_worker}
use Rattle.report.proofs.meeting.workers_with.Given as goal

-- each pass so far has its thread
abbrev pub invariant-loop-pass : goal.invariant-loop-pass
invariant-loop-pass l = record {
  can_next : (goal.iterator-loop-pass).can_next l.pass-iterator;
  finite : (goal.iterator-loop-pass).is_finite l.pass-iterator;
  passes : map (λ v. v.pass) l.workers.items ++ map as_worker (into_iter_items l.pass-iterator) ≡ map as_worker l.fn.passes.items;
  numbers : map (λ v. v.die) l.workers.items ≡ take (length l.workers.items) l.dies;
  left : length l.workers.items + length (into_iter_items l.pass-iterator) ≡ length l.fn.passes.items;
}
