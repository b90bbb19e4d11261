use Rattle.std.proofs.Common.{◌≡◌, inl, inr, arith}
use Rattle.explore_report.proofs.Played.{item_at, played_all, played_more}
use Rattle.explore_report.proofs.exploring.play_scripts.Goals as goal

pub returns-in-Ok-false-clause-fails : goal.returns-in-Ok-false-clause-fails
returns-in-Ok-false-clause-fails c = record {
  witnessed = c.witnessed-item.result.now;
  there = item_at c.args.outcomes.now c.loop-witnessed.witnessed-index _ c.witnessed-item.result (let n = c.loop-witnessed.invariant.counted in omega arith) c.loop-witnessed-test.true c.witnessed-item.is;
  another = λ has. let e = c.in-Ok-false.ensures.only (inl has) in let f = c.in-Ok-false.field-0-test in cc;
  short = λ long. let e = c.in-Ok-false.ensures.only (inr long) in let f = c.in-Ok-false.field-0-test in cc;
}

pub loop-witnessed-preserved : goal.loop-witnessed-preserved
loop-witnessed-preserved c = record {
  counted = let n = c.loop-witnessed.invariant.counted in omega arith;
  played = played_more c.args.script.now c.args.outcomes.now c.loop-witnessed.number c.loop-witnessed.witnessed-index c.witnessed-item.result c.loop-witnessed.invariant.counted c.loop-witnessed-test.true c.witnessed-item.is (c.in-Ok-true.ensures.so c.in-Ok-true.field-0-test) c.loop-witnessed.invariant.played;
}

pub returns-clause-played : goal.returns-clause-played
returns-clause-played c = played_all c.args.script.now c.args.outcomes.now c.loop-witnessed.number c.loop-witnessed.witnessed-index c.loop-witnessed.invariant.counted c.loop-witnessed-test.false c.loop-witnessed.invariant.played
