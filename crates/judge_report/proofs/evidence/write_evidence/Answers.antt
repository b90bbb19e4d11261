use Rattle.std.proofs.Common.{◌++◌, Option, subst}
use Rattle.histories.specs.declared.entry.HistoryLine.{HistoryLine}
use Rattle.streams.specs.Leaves.{Leaves}
use Rattle.streams.proofs.Writers.{ends_at_first, then_leaves}
use Rattle.judge_report.specs.Texts.{death_note, earlier_note}
use Rattle.judge_report.proofs.evidence.write_evidence.Goals as goal

pub returns-in_err-write_death_at : goal.returns-in_err-write_death_at
returns-in_err-write_death_at g c =
    let ls = c.args.lines.now in
    let e = c.args.evidence.now in
    let m = c.args.mutex in
    let replies = earlier_note ls m e.got ++ (earlier_note ls m e.declared ++ earlier_note ls m e.left) in
    subst (λ (o : Option HistoryLine). Leaves (g.W.Write.contents c.args.out.now) (g.W.Write.contents c.write_death_at.new.out) c.from_residual.result (death_note m o ++ replies)) c.line_of.ensures
    (ends_at_first _ _ c.from_residual.result (death_note m c.line_of.result) replies c.from_residual.ensures.0 c.in_err-write_death_at.ensures)

pub returns : goal.returns
returns g c =
    let ls = c.args.lines.now in
    let e = c.args.evidence.now in
    let m = c.args.mutex in
    let replies = earlier_note ls m e.got ++ (earlier_note ls m e.declared ++ earlier_note ls m e.left) in
    subst (λ (o : Option HistoryLine). Leaves (g.W.Write.contents c.args.out.now) (g.W.Write.contents c.write_replies.new.out) c.write_replies.result (death_note m o ++ replies)) c.line_of.ensures
    (then_leaves _ _ _ c.write_replies.result (death_note m c.line_of.result) replies c.in_ok-write_death_at.ensures c.write_replies.ensures)
