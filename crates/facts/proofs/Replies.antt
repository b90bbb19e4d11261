-- What a call returns beside its last point's reply.
use Rattle.std.proofs.Common.{inl, inr, refl}
use Rattle.posixmutex.specs.declared.point.Operation.TheVariants.{TimedWait}
use Rattle.facts.specs.Lives.{OnlyLateWaitsDiffer}

pub differ : OnlyLateWaitsDiffer
differ TimedWait y x (inl same) other = absurd (other same)
differ TimedWait y x (inr (replied, told)) other = (refl, replied, told)
differ op y x same other = absurd (other same)
