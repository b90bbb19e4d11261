use Rattle.std.proofs.Common.{◌-◌, ◌++◌, Option, subst}
use Rattle.std.specs.List.{slice_get}
use Rattle.histories.specs.declared.entry.HistoryLine.{HistoryLine}
use Rattle.judge.specs.declared.evidence.Evidence.{Evidence}
use Rattle.streams.specs.Leaves.{Leaves}
use Rattle.streams.proofs.Writers.{ends_at_first, then_leaves}
use Rattle.judge_report.specs.Texts.{begin_note, evidence_notes}
use Rattle.judge_report.proofs.illegal.write_call.Goals as goal

pub returns-in_err-write_evidence : goal.returns-in_err-write_evidence
returns-in_err-write_evidence g c =
    let ls = c.args.lines.now in
    let m = c.args.mutex in
    let began = begin_note (slice_get ls (c.args.begin - 1)) in
    subst (λ (e : Evidence). Leaves (g.W.Write.contents c.args.out.now) (g.W.Write.contents c.write_evidence.new.out) c.from_residual.result (evidence_notes ls m e ++ began)) c.evidence_of-evidence.ensures
    (ends_at_first _ _ c.from_residual.result (evidence_notes ls m c.evidence_of-evidence.result) began c.from_residual.ensures.0 c.in_err-write_evidence.ensures)

pub returns : goal.returns
returns g c =
    let ls = c.args.lines.now in
    let m = c.args.mutex in
    let began = begin_note (slice_get ls (c.args.begin - 1)) in
    subst (λ (e : Evidence). Leaves (g.W.Write.contents c.args.out.now) (g.W.Write.contents c.write_begin_at.new.out) c.write_begin_at.result (evidence_notes ls m e ++ began)) c.evidence_of-evidence.ensures
    (then_leaves _ _ _ c.write_begin_at.result (evidence_notes ls m c.evidence_of-evidence.result) began c.in_ok-write_evidence.ensures
    (subst (λ (o : Option HistoryLine). Leaves (g.W.Write.contents c.write_evidence.new.out) (g.W.Write.contents c.write_begin_at.new.out) c.write_begin_at.result (begin_note o)) c.line_at.ensures c.write_begin_at.ensures))
