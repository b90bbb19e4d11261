use Rattle.histories.specs.Reading.{IsHead}
use Rattle.judge_report.specs.Heard.{heard_of}
use Rattle.judge_report.proofs.Lines.{Same}
use Rattle.judge_report.proofs.reading.read_lines.Given as goal

abbrev pub invariant-loop-number : goal.invariant-loop-number
invariant-loop-number g l = record {
  same : Same (g.R.Read.remaining l.initial.input) (g.R.Read.remaining l.input) l.fn.head l.number (heard_of l.history);
  head : IsHead l.history.head;
}
