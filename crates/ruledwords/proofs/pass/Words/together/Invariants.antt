use Rattle.std.proofs.Common.{◌≡◌, ◌++◌, List, All, map}
use Rattle.std.specs.Vec.Iter.{into_iter_items}
use Rattle.ruledwords.specs.Gathered.{HaveCome}
use Rattle.ruledwords.specs.Meetings.{card_in, IsEitherOf}
use Rattle.ruledwords.proofs.pass.Words.together.Given as goal

-- the seats of the passes so far have come
abbrev pub invariant-loop-pass : goal.invariant-loop-pass
invariant-loop-pass g l =
    (goal.iterator-loop-pass g).can_next l.pass-iterator ×
    (goal.iterator-loop-pass g).is_finite l.pass-iterator ×
    ((come : List _) × (come ++ into_iter_items l.pass-iterator ≡ l.fn.passes.items) × HaveCome l.self (map card_in come) l.seat) ×
    All (λ p. IsEitherOf l.self p) (into_iter_items l.pass-iterator)
