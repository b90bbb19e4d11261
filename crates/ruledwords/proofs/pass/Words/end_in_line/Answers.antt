use Rattle.std.proofs.Common.{refl}
use Rattle.lockword.specs.declared.reply.Reply.TheVariants.{OK}
use Rattle.mutex.specs.declared.phase.Phase.TheVariants.{Clearing}
use Rattle.robustlist.specs.declared.link.LinkRow.TheVariants.{StoreFirst}
use Rattle.ruledwords.specs.InLine.{linking}
use Rattle.ruledwords.proofs.InLine.{leads_on, leads_out, stopped}
use Rattle.ruledwords.proofs.Stepping.{went_nowhere}
use Rattle.ruledwords.proofs.pass.Words.end_in_line.Goals as goal

pub returns-in_err-find : goal.returns-in_err-find
returns-in_err-find g c =
    let l = c.args.line.now in
    stopped l (linking l StoreFirst) _ _ _ (went_nowhere _ _ c.requires.call) c.linking.ensures c.in_err-find.ensures c.from_residual.ensures.1

pub returns-in_err-find-2 : goal.returns-in_err-find-2
returns-in_err-find-2 g c =
    let l = c.args.line.now in
    let one = leads_on l (linking l StoreFirst) (Clearing OK) c.linking.ensures refl tt c.in_ok-find.ensures in
    stopped l (Clearing OK) _ _ _ one c.at-clearing.ensures c.in_err-find-2.ensures c.from_residual-in_err-find-2.ensures.1

pub returns : goal.returns
returns g c =
    let l = c.args.line.now in
    let one = leads_on l (linking l StoreFirst) (Clearing OK) c.linking.ensures refl tt c.in_ok-find.ensures in
    leads_out l (Clearing OK) OK one c.at-clearing.ensures refl refl c.in_ok-find-2.ensures
