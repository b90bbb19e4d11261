-- An unlock that has nobody to wake.
use Rattle.std.proofs.Common.{◌≡◌, Some, ap, subst}
use Rattle.lockword.specs.declared.reply.Reply.TheVariants.{OK}
use Rattle.stepprograms.specs.declared.access.Answer.{Answer}
use Rattle.stepprograms.specs.declared.access.Answer.TheVariants.{Stored}
use Rattle.mutex.specs.declared.phase.Phase.{Phase}
use Rattle.mutex.specs.declared.phase.Phase.TheVariants.{Clearing, Ended}
use Rattle.mutex.specs.Laws.{decided}
use Rattle.mutex.specs.Standings.{Whole}
use Rattle.mutex.specs.Whole.{once_stored, phase_led, whole_led, whole_moved, IsUnderWay}
use Rattle.ruledwords.specs.Calls.{row_in}

ended_by : (x : Answer) → IsUnderWay (once_stored (Ended OK) x).phase → ⊥
ended_by Stored goes = goes
ended_by x goes = goes

-- its one access is its last
pub settles_at_once : (p q : Whole) (x : Answer) → p.phase ≡ Clearing OK → q ≡ whole_moved p (whole_led p x) → IsUnderWay q.phase → ⊥
settles_at_once p q x at to goes = ended_by x (subst (λ (f : Phase). IsUnderWay (phase_led p f x).phase) at (subst (λ (z : Whole). IsUnderWay z.phase) to goes))

-- and it is decided
pub decided_there : (f : Phase) → f ≡ Clearing OK → decided (row_in f) ≡ Some OK
decided_there f at = ap (λ (z : Phase). decided (row_in z)) at
