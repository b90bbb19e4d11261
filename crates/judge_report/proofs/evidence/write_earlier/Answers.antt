use Rattle.std.proofs.Common.{Option, subst}
use Rattle.histories.specs.declared.entry.HistoryLine.{HistoryLine}
use Rattle.streams.specs.Leaves.{Leaves}
use Rattle.judge_report.specs.Texts.{reply_note}
use Rattle.judge_report.proofs.evidence.write_earlier.Goals as goal

pub returns-in-Some : goal.returns-in-Some
returns-in-Some g c =
    rw c.in-Some.is (subst (λ (o : Option HistoryLine). Leaves (g.W.Write.contents c.args.out.now) (g.W.Write.contents c.write_reply_at.new.out) c.write_reply_at.result (reply_note c.args.mutex c.in-Some.told o)) c.line_at.ensures c.write_reply_at.ensures)
