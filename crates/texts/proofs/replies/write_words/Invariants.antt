use Rattle.std.proofs.Common.{take}
use Rattle.std.specs.Io.KnownBytes.{Appends}
use Rattle.texts.specs.Replies.{reply_texts}
use Rattle.texts.proofs.replies.write_words.Given as goal

abbrev pub invariant-loop-reply : goal.invariant-loop-reply
invariant-loop-reply g l = Appends (g.W.Write.contents l.initial.out) (g.W.Write.contents l.out) (reply_texts (take l.reply-index l.replies))
