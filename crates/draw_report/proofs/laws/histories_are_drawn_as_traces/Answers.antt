use Rattle.draw_report.proofs.Histories.{drawn_as_traces}
use Rattle.draw_report.proofs.laws.histories_are_drawn_as_traces.Goals as goal

pub returns : goal.returns
returns c = drawn_as_traces
