use Rattle.std.proofs.Common.{◌≡◌, true, [], ◌∷◌, subst}
use Rattle.memorymap.specs.Layouts.{cell_place}
use Rattle.posixmutex.specs.declared.point.Operation.TheVariants.{Consistent}
use Rattle.ruledwords.specs.declared.turn.Outcome.TheVariants.{Lives}
use Rattle.ruledwords.specs.declared.pass.Words.{Words}
use Rattle.ruledwords.specs.Outcomes.{Declared}
use Rattle.ruledwords.specs.Passes.{card, layout_of}
use Rattle.example_recovery.proofs.Holding.{declares}
use Rattle.example_recovery.proofs.guard.declared.Goals as goal

pub returns-clause-owns : goal.returns-clause-owns
returns-clause-owns c =
    let declared = subst (λ (w : Words). Declared w c.args.mutex c.args.pass (Lives c.in-Lives.pass c.in-Lives.field-1)) c.words.ensures c.in-Lives.ensures.declared in
    declares (layout_of c.args.bench.now) c.args.mutex (card c.args.pass) (card c.in-Lives.pass) c.in-Lives.field-1 declared.1
