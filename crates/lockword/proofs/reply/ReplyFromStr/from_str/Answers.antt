use Rattle.std.proofs.Common.{rules}
use Rattle.lockword.specs.Replies.{reply_of}
use Rattle.lockword.proofs.reply.ReplyFromStr.from_str.Goals as goal

pub loop-reply-init : goal.loop-reply-init
unfolding reply_of
loop-reply-init c = search rules
