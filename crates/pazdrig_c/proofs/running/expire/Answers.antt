use Rattle.std.proofs.Common.{◌≡◌, ap, ◌∙◌}
use Rattle.lockword.specs.declared.reply.Reply.TheVariants.{ETIMEDOUT}
use Rattle.posixmutex.specs.declared.point.Operation.TheVariants as operation
use Rattle.mutex.specs.Codings.{phase_code}
use Rattle.pazdrig_c.specs.Accesses.{access_code, decided}
use Rattle.pazdrig_c.specs.declared.structs.PzAccess.{PzAccess}
use Rattle.pazdrig_c.proofs.Expiries.{expires_so}
use Rattle.pazdrig_c.proofs.running.expire.Goals as goal

pub returns : goal.returns
returns c =
    expires_so c.args.running c.in-OnMutex.program c.in-Some.left c.args.call.now c.of-call.result c.args.access.now c.decided.result c.in-OnMutex.is c.in-Some.ensures c.requires
    (c.of-call.ensures ∙ ap phase_code c.phase.ensures)
    (c.decided.ensures ∙ ap (λ (x : PzAccess). decided operation.TimedLock ETIMEDOUT x) (c.coded.ensures ∙ ap access_code c.next.ensures))
