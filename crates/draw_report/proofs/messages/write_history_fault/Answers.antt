use Rattle.std.proofs.Common.{subst}
use Rattle.std.specs.Prelude.{codes}
use Rattle.streams.specs.Leaves.{Leaves}
use Rattle.draw_report.specs.Messages.{fault_text}
use Rattle.draw_report.proofs.messages.write_history_fault.Goals as goal

pub returns : goal.returns
returns g c = subst (Leaves (g.E.Write.contents c.args.err.now) (g.E.Write.contents c.write_fault.new.err) c.write_fault.result) (λ i. fault_text (codes "rfx-draw: line ") c.args.at.line (c.number.ensures i) (c.words.ensures i)) c.write_fault.ensures
