use Rattle.std.proofs.Common.{[], ◌∷◌, ◌++◌, codes, subst}
use Rattle.std.specs.List.{concat}
use Rattle.std.specs.Io.KnownBytes.{Appends}
use Rattle.streams.specs.Leaves.{AppendsFront}
use Rattle.texts.specs.MutexLines.{word_digits}
use Rattle.streams.proofs.Writers.{ends_at_first, ends_at_second, then_leaves}
use Rattle.texts.proofs.mutex_start.write_mutex_start.Goals as goal

pub returns-in_err-put : goal.returns-in_err-put
returns-in_err-put g c =
    ends_at_first _ _ c.from_residual.result (concat (codes "mutex " ∷ c.args.name.now ∷ codes " " ∷ [])) (word_digits c.args.cell ++ concat (codes " " ∷ c.args.owner.now ∷ codes " " ∷ [])) c.from_residual.ensures.0 c.in_err-put.ensures

pub returns-in_err-put_text : goal.returns-in_err-put_text
returns-in_err-put_text g c =
    ends_at_second _ _ _ c.from_residual-in_err-put_text.result (concat (codes "mutex " ∷ c.args.name.now ∷ codes " " ∷ [])) (word_digits c.args.cell) (concat (codes " " ∷ c.args.owner.now ∷ codes " " ∷ []))
    c.from_residual-in_err-put_text.ensures.0 c.in_ok-put.ensures (subst (AppendsFront _ _) c.digits.ensures c.in_err-put_text.ensures)

pub returns : goal.returns
returns g c =
    then_leaves _ _ _ c.put-2.result (concat (codes "mutex " ∷ c.args.name.now ∷ codes " " ∷ [])) _ c.in_ok-put.ensures
    (then_leaves _ _ _ c.put-2.result (word_digits c.args.cell) _ (subst (Appends _ _) c.digits.ensures c.in_ok-put_text.ensures) c.put-2.ensures)
