use Rattle.std.proofs.Common.{sym, arith}
use Rattle.judge.proofs.judging.judged_at.Goals as goal

pub returns-then-refuted : goal.returns-then-refuted
returns-then-refuted c = record {
  before = (omega arith, c.requires.legal);
  never = c.in_ok-refuted.ensures c.if-refuted.true;
  line = c.in-Some.line;
  stands = sym c.in-Some.ensures;
  reason = sym c.in-Some-reason_of.ensures;
  could = c.in_ok-possible.ensures;
  shown = c.in_ok-steps.ensures;
}
