use Rattle.std.proofs.Common.{◌≡◌, ◌++◌, drop, false}
use Rattle.explain.specs.Allowed.{allowed_words}
use Rattle.explain.proofs.allowed.add_replies.Given as goal

abbrev pub invariant-loop-reply : goal.invariant-loop-reply
invariant-loop-reply l = l.text.items ++ allowed_words l.standing l.operation l.told (drop l.reply-index l.replies) ≡ l.initial.text.items ++ allowed_words l.standing l.operation false l.replies
