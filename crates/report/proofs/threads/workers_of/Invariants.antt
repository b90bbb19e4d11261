use Rattle.std.proofs.Common.{◌≡◌, ◌++◌, List}
use Rattle.std.specs.Vec.Iter.{into_iter_items}
use Rattle.ruledwords.specs.declared.pass.Live.{Live}
use Rattle.ruledwords.specs.declared.pass.Pass.{Pass}
use Rattle.report.specs.Threads.{AreFirst}
use Rattle.report.proofs.threads.workers_of.Given as goal

-- each pass so far has its thread
abbrev pub invariant-loop-pass : goal.invariant-loop-pass
invariant-loop-pass l =
    (goal.iterator-loop-pass).can_next l.pass-iterator ×
    (goal.iterator-loop-pass).is_finite l.pass-iterator ×
    ((done : List (Pass Live)) × (done ++ into_iter_items l.pass-iterator ≡ l.fn.passes.items) × AreFirst done l.dies l.workers.items)
