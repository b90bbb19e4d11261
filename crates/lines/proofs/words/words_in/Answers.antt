use Rattle.std.proofs.Common.{◌==◌}
use Rattle.lines.proofs.Cutting.{seven_or_more}
use Rattle.lines.proofs.words.words_in.Goals as goal

pub returns : goal.returns
returns c = seven_or_more (λ b. b == 32) c.in-Some.first.now c.in-Some-cut.second.now c.in-Some-cut-2.third.now c.in-Some-cut-3.fourth.now c.in-Some-cut-4.fifth.now c.in-Some-cut-5.field-0.0.now
    c.args.text.now c.in-Some.rest.now c.in-Some-cut.rest.now c.in-Some-cut-2.rest.now c.in-Some-cut-3.rest.now c.in-Some-cut-4.rest.now c.in-Some-cut-5.field-0.1.now
    c.in-Some.ensures.parts c.in-Some-cut.ensures.parts c.in-Some-cut-2.ensures.parts c.in-Some-cut-3.ensures.parts c.in-Some-cut-4.ensures.parts c.in-Some-cut-5.ensures.parts
