use Rattle.std.proofs.Common.{arith, rules}
use Rattle.std.proofs.lemmas.Iterator.{YieldsList-from_chars}
use Rattle.std.proofs.lemmas.Iterator.Consumers.{YieldsList-end, YieldsList-turn}
use Rattle.std.proofs.lemmas.List.{length_push}
use Rattle.explain.proofs.Showing.{all_shown, one_shown, some_shown}
use Rattle.explain.proofs.adding.add_shown.Goals as goal

pub loop-c-preserved : goal.loop-c-preserved
loop-c-preserved c =
    let t = YieldsList-turn (YieldsList-from_chars c.args.line.now c.utf8.line cc) c.loop-c.yielded _ c.loop-c.yielded_by _ _ c.in-Some.c c.in-Some.is c.next.ensures.steps in
    let n = length_push c.loop-c.yielded c.in-Some.c in
    record {
      counted = omega (arith, n, c.loop-c.invariant.counted);
      few = omega (arith, c.loop-c.invariant.few);
      so_far = one_shown c.args.line.now c.loop-c.count c.loop-c.yielded c.in-Some.c c.args.text.now.items _ _ c.loop-c.invariant.counted t c.loop-c.invariant.so_far c.in_ok-add_char.ensures;
    }

pub returns-then-count-eq-WIDTH : goal.returns-then-count-eq-WIDTH
returns-then-count-eq-WIDTH c =
    let t = YieldsList-turn (YieldsList-from_chars c.args.line.now c.utf8.line cc) c.loop-c.yielded _ c.loop-c.yielded_by _ _ c.in-Some.c c.in-Some.is c.next.ensures.steps in
    some_shown c.args.line.now c.loop-c.count c.loop-c.yielded c.args.text.now.items _ _ c.loop-c.invariant.counted t.0 (search rules) c.loop-c.invariant.so_far c.in_ok-add.ensures

pub returns : goal.returns
returns c =
    let t = YieldsList-end (YieldsList-from_chars c.args.line.now c.utf8.line cc) c.loop-c.yielded _ c.loop-c.yielded_by _ _ c.in-None.is c.next.ensures.steps in
    all_shown c.args.line.now c.loop-c.count c.loop-c.yielded c.args.text.now.items _ c.loop-c.invariant.counted t.1 c.loop-c.invariant.few c.loop-c.invariant.so_far
