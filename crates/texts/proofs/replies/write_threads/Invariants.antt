use Rattle.std.proofs.Common.{take}
use Rattle.std.specs.Io.KnownBytes.{Appends}
use Rattle.texts.specs.Replies.{threads_text}
use Rattle.texts.proofs.replies.write_threads.Given as goal

abbrev pub invariant-loop-thread : goal.invariant-loop-thread
invariant-loop-thread g l = Appends (g.W.Write.contents l.initial.out) (g.W.Write.contents l.out) (threads_text (take l.thread-index l.threads))
