use Rattle.std.specs.Prelude.{string_bytes}
use Rattle.streams.proofs.Listed.{says_on}
use Rattle.streams.proofs.words.lent.Goals as goal

pub loop-word-preserved : goal.loop-word-preserved
loop-word-preserved c =
    says_on (λ w. w.now) string_bytes c.args.words.now c.loop-word.word-index c.word-item.result c.loop-word.lent.items c.push.new.self.items c.as_str.result c.loop-word-test.true c.word-item.is c.as_str.ensures.value c.loop-word.invariant c.in_ok-push.ensures.items
