use Rattle.std.proofs.Common.{◌≡◌, ◌++◌, take}
use Rattle.std.specs.List.{flat_map}
use Rattle.explore_report.specs.Texts.{reply_text}
use Rattle.explore_report.proofs.cells.add_replies.Given as goal

abbrev pub invariant-loop-reply : goal.invariant-loop-reply
invariant-loop-reply l = l.text.items ≡ l.initial.text.items ++ flat_map reply_text (take l.reply-index l.replies)
