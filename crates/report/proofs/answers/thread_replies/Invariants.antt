use Rattle.std.proofs.Common.{◌≡◌, map, take}
use Rattle.report.proofs.answers.thread_replies.Given as goal

abbrev pub invariant-loop-index : goal.invariant-loop-index
invariant-loop-index l =
    (map (λ t. t.name.now) l.lines.items ≡ take l.index l.script.threads)
    × (map (λ t. t.replies.now) l.lines.items ≡ take l.index (map (λ r. r.items) l.answers.replies.items))
    × (map (λ t. t.died) l.lines.items ≡ take l.index l.answers.died.items)
