use Rattle.std.proofs.Common.{rules, ◌≡◌, ◌<◌, Some, true, refl, sym, ◌∙◌}
use Rattle.posixmutex.specs.Histories.{is_thread}
use Rattle.posixmutex.specs.Objects.{acquires, held_limit}
use Rattle.posixmutex.specs.declared.point.Operation.TheVariants as operation
use Rattle.verdict.proofs.Misfits.{is_owner, limited, owner_dies}
use Rattle.verdict.proofs.judge.refusal.Goals.{else-dies-via-then-dies+else-not-is_owner, else-dies-via-else-dies}
use Rattle.verdict.proofs.judge.refusal.Goals as goal

pub returns-then-held-ge-HELD_LIMIT : goal.returns-then-held-ge-HELD_LIMIT
returns-then-held-ge-HELD_LIMIT c =
    let takes = sym c.acquires.ensures ∙ c.if-acquires.true in
    let full = c.if-held-ge-HELD_LIMIT.true in
    (refl, full, takes, limited c.args.held c.args.object c.args.decision.now c.requires takes full)

pub returns : goal.returns
returns c =
    let d = c.args.decision.now in
    let room : acquires d.operation ≡ true → c.args.held < held_limit = search rules in
    let owner : d.operation ≡ operation.Death → c.args.object.owner ≡ Some d.thread = λ dies. elim c.else-dies.branch [
      | else-dies-via-then-dies+else-not-is_owner w ↦
          let owns : is_thread d.thread c.args.object.owner ≡ true = search rules in
          is_owner d.thread c.args.object.owner owns
      | else-dies-via-else-dies w ↦ search rules
    ] in
    (refl, refl, room, λ dies. owner_dies c.args.held c.args.object d c.requires dies (owner dies), search rules)
