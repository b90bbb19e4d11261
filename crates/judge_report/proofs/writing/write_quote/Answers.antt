use Rattle.std.proofs.Common.{[], ◌∷◌, codes}
use Rattle.std.specs.List.{concat}
use Rattle.streams.proofs.Writers.{ends_at_first, then_leaves}
use Rattle.judge_report.specs.Texts.{entry_text}
use Rattle.judge_report.proofs.writing.write_quote.Goals as goal

pub returns-in_err-put : goal.returns-in_err-put
returns-in_err-put g c =
    let l = c.args.line.now in
    ends_at_first _ _ c.from_residual.result (concat (codes "  | " ∷ [])) (entry_text l.event l.entry) c.from_residual.ensures.0 c.in_err-put.ensures

pub returns : goal.returns
returns g c =
    let l = c.args.line.now in
    then_leaves _ _ _ c.write_entry.result (concat (codes "  | " ∷ [])) (entry_text l.event l.entry) c.in_ok-put.ensures c.write_entry.ensures
