use Rattle.std.proofs.Common.{ℕ, List, length, sym, ap, ◌∙◌}
use Rattle.std.proofs.lemmas.List.{nil_from_length}
use Rattle.buckets.specs.Queues.{queue}
use Rattle.ruledwords.specs.Passes.{card}
use Rattle.ruledwords.specs.Turns.{running_pass}
use Rattle.threadbench.proofs.Sections.{trimmed_there, left_there, trimmed_nobodys, left_nobodys}
use Rattle.threadbench.proofs.section.trim_in.Goals as goal

pub returns-then-count-ne0-clause-trims : goal.returns-then-count-ne0-clause-trims
returns-then-count-ne0-clause-trims c = left_there (queue c.args.bucket.now c.args.key.0) (card (running_pass c.args.running.now)) (λ e. c.if-count-ne0.true (c.count.ensures ∙ ap (λ (xs : List ℕ). length xs) e))

pub returns-clause-trims : goal.returns-clause-trims
returns-clause-trims c =
    let sleepers = queue c.args.bucket.now c.args.key.0 in
    let empty = nil_from_length sleepers (sym c.count.ensures ∙ c.if-count-ne0.false) in
    trimmed_there sleepers (card (running_pass c.args.running.now)) (card (running_pass c.trim-cleared.new.self)) c.trim-cleared.result empty c.trim-cleared.ensures.trims.0 c.trim-cleared.ensures.trims.1

pub returns-then-count-ne0-clause-nobodys : goal.returns-then-count-ne0-clause-nobodys
returns-then-count-ne0-clause-nobodys c = left_nobodys (queue c.args.bucket.now c.args.key.0) (card (running_pass c.args.running.now))

pub returns-clause-nobodys : goal.returns-clause-nobodys
returns-clause-nobodys c =
    let sleepers = queue c.args.bucket.now c.args.key.0 in
    let empty = nil_from_length sleepers (sym c.count.ensures ∙ c.if-count-ne0.false) in
    trimmed_nobodys sleepers (card (running_pass c.args.running.now)) (card (running_pass c.trim-cleared.new.self)) c.trim-cleared.result empty c.trim-cleared.ensures.trims.0

pub returns-then-count-ne0-clause-leaves : goal.returns-then-count-ne0-clause-leaves
returns-then-count-ne0-clause-leaves c m on e = absurd (c.if-count-ne0.true (c.count.ensures ∙ ap (λ (xs : List ℕ). length xs) e))

pub returns-clause-leaves : goal.returns-clause-leaves
returns-clause-leaves c m on e = c.trim-cleared.ensures.leaves m on
