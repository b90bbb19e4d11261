use Rattle.std.proofs.Common.{subst}
use Rattle.streams.specs.Leaves.{Leaves}
use Rattle.explore_report.specs.Messages.{fault_text}
use Rattle.explore_report.proofs.messages.write_fault.Goals as goal

pub returns : goal.returns
returns g c = subst (Leaves (g.E.Write.contents c.args.err.now) (g.E.Write.contents c.write_fault_at.new.err) c.write_fault_at.result) (λ i. fault_text c.args.at.line (c.number.ensures i) (c.words.ensures i)) c.write_fault_at.ensures
