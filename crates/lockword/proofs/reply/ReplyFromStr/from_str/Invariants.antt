use Rattle.std.proofs.Common.{◌≡◌, find}
use Rattle.std.specs.Array.Iter.{array_into_iter_items}
use Rattle.std.specs.Str.{bytes_eq}
use Rattle.lockword.specs.Replies.{reply_of, reply_word}
use Rattle.lockword.proofs.reply.ReplyFromStr.from_str.Given as goal

abbrev pub invariant-loop-reply : goal.invariant-loop-reply
invariant-loop-reply l = find (λ x. bytes_eq (reply_word x) l.text) (array_into_iter_items l.reply-iterator) ≡ reply_of l.text
