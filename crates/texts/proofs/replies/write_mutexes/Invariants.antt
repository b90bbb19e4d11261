use Rattle.std.proofs.Common.{take}
use Rattle.std.specs.Io.KnownBytes.{Appends}
use Rattle.texts.specs.Replies.{mutexes_text}
use Rattle.texts.proofs.replies.write_mutexes.Given as goal

abbrev pub invariant-loop-mutex : goal.invariant-loop-mutex
invariant-loop-mutex g l = Appends (g.W.Write.contents l.initial.out) (g.W.Write.contents l.out) (mutexes_text l.threads (take l.mutex-index l.mutexes))
