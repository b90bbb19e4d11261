use Rattle.std.proofs.Common.{rules}
use Rattle.explore_report.proofs.Loops.{kinds_on, spelled_on}
use Rattle.explore_report.proofs.spelling.spell.Goals as goal

pub loop-line-preserved : goal.loop-line-preserved
loop-line-preserved c = record {
  is_text = search rules;
  text = spelled_on c.in-Some.line.now c.loop-line.rest.now c.in-Some.after.now _ _ _ c.in-Some.ensures.parts c.in_ok-add.ensures.text c.loop-line.invariant.text;
  kinds = kinds_on c.in-Some.line.now c.loop-line.rest.now c.in-Some.after.now _ _ _ c.in-Some.ensures.parts c.in_ok-add.ensures.kinds c.loop-line.invariant.kinds;
}
