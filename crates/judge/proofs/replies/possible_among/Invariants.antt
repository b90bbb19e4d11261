use Rattle.std.proofs.Common.{take}
use Rattle.certificates.specs.Certificates.{whose}
use Rattle.judge.specs.Judgements.{AreSome}
use Rattle.judge.proofs.replies.possible_among.Given as goal

abbrev pub invariant-loop-reply : goal.invariant-loop-reply
invariant-loop-reply l = AreSome l.head l.lines (whose l.line.entry) (take l.reply-index l.replies) l.found.items
