use Rattle.std.proofs.Common.{◌≡◌, ◌≤◌, ◌+◌, ◌++◌, List, All, length, map, vec_len, vec_capacity}
use Rattle.std.specs.Vec.Iter.{into_iter_items}
use Rattle.threadbench.specs.declared.hand.Hand.{Hand}
use Rattle.threadbench.specs.Hands.{IsHandIn, MayBegin, job_of}
use Rattle.threadbench.specs.Jobs.{IsJobOf, AreDone}
use Rattle.threadbench.proofs.ending.records_of.Given as goal

-- each hand so far gave its record, and there is room for the others'
abbrev pub invariant-loop-hand : goal.invariant-loop-hand
invariant-loop-hand g l =
    (goal.iterator-loop-hand g).can_next l.hand-iterator ×
    (goal.iterator-loop-hand g).is_finite l.hand-iterator ×
    ((done : List (Hand g.row.G.Denot)) × (done ++ into_iter_items l.hand-iterator ≡ l.fn.hands.items) × AreDone l.phase.bench.now (g.G.Gate.says l.phase.gate.now) (map job_of done) l.records.items) ×
    All (λ h. IsJobOf l.phase.bench.now (job_of h)) (into_iter_items l.hand-iterator) ×
    All (IsHandIn l.phase) (into_iter_items l.hand-iterator) ×
    All MayBegin (into_iter_items l.hand-iterator) ×
    (vec_len l.records + length (into_iter_items l.hand-iterator) ≤ vec_capacity l.records)
