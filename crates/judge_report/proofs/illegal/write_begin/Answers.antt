use Rattle.std.proofs.Common.{[], ◌∷◌, codes}
use Rattle.std.specs.Prelude.{decimal}
use Rattle.std.specs.List.{concat}
use Rattle.streams.proofs.Writers.{ends_at_first, then_leaves}
use Rattle.judge_report.specs.Texts.{quote}
use Rattle.judge_report.proofs.illegal.write_begin.Goals as goal

pub returns-in_err-put_pieces : goal.returns-in_err-put_pieces
returns-in_err-put_pieces g c =
    let l = c.args.line.now in
    ends_at_first _ _ c.from_residual.result (concat (codes "  = see line " ∷ decimal l.number ∷ codes " (event " ∷ decimal l.event ∷ codes "): the call began\n" ∷ [])) (quote l) c.from_residual.ensures.0 c.in_err-put_pieces.ensures

pub returns : goal.returns
returns g c =
    let l = c.args.line.now in
    then_leaves _ _ _ c.write_quote.result (concat (codes "  = see line " ∷ decimal l.number ∷ codes " (event " ∷ decimal l.event ∷ codes "): the call began\n" ∷ [])) (quote l) c.in_ok-put_pieces.ensures c.write_quote.ensures
