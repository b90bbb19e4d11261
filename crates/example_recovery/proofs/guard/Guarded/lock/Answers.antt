use Rattle.std.proofs.Common.{◌≡◌, true, sym, subst}
use Rattle.lockword.specs.declared.reply.Reply.{Reply}
use Rattle.posixmutex.specs.declared.point.Operation.TheVariants.{Lock}
use Rattle.ruledwords.specs.declared.pass.Live.{Live}
use Rattle.ruledwords.specs.declared.pass.Pass.{Pass}
use Rattle.ruledwords.specs.Outcomes.{Takes}
use Rattle.ruledwords.specs.OwnWords.{owns_in}
use Rattle.ruledwords.specs.Passes.{card, layout_of}
use Rattle.example_recovery.proofs.Holding.{inherited, locked}
use Rattle.example_recovery.proofs.guard.Guarded.lock.Goals as goal

pub returns-in-Lives-default-OK-clause-owns : goal.returns-in-Lives-default-OK-clause-owns
returns-in-Lives-default-OK-clause-owns g c =
    let k = layout_of c.args.bench.now in
    let m = c.args.self.now.mutex in
    let its = c.in-Lives-default-OK in
    let takes = subst (λ (r : Reply). Takes k m Lock (card c.args.pass) r (card its.pass)) its.field-1-is its.ensures.locked.1 in
    subst (λ (p : Pass Live). owns_in k (card p) m ≡ true) (sym c.owner.ensures.pass) (locked k m (card c.args.pass) (card its.pass) takes)

pub returns-in-Lives-default-EOWNERDEAD-clause-owns : goal.returns-in-Lives-default-EOWNERDEAD-clause-owns
returns-in-Lives-default-EOWNERDEAD-clause-owns g c =
    let k = layout_of c.args.bench.now in
    let m = c.args.self.now.mutex in
    let its = c.in-Lives-default-EOWNERDEAD in
    let takes = subst (λ (r : Reply). Takes k m Lock (card c.args.pass) r (card its.pass)) its.field-1-is its.ensures.locked.1 in
    subst (λ (p : Pass Live). owns_in k (card p) m ≡ true) (sym c.owner-in-Lives-default-EOWNERDEAD.ensures.pass) (c.declared-pass.ensures.owns (inherited k m (card c.args.pass) (card its.pass) takes))
