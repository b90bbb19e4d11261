use Rattle.std.proofs.Common.{[], ◌∷◌, codes, subst, ap, ◌∙◌}
use Rattle.std.specs.List.{concat}
use Rattle.std.specs.Io.KnownBytes.{Appends}
use Rattle.lockword.specs.Cells.{fields_of}
use Rattle.streams.specs.Leaves.{AppendsFront}
use Rattle.texts.specs.MutexLines.{mutex_start}
use Rattle.texts.specs.Replies.{owner_name}
use Rattle.streams.proofs.Writers.{ends_at_first, then_leaves}
use Rattle.texts.proofs.replies.write_mutex.Goals as goal

pub returns-in_err-write_mutex_start : goal.returns-in_err-write_mutex_start
returns-in_err-write_mutex_start g c =
    let m = c.args.mutex.now in
    let before = g.W.Write.contents c.args.out.now in
    let after = g.W.Write.contents c.write_mutex_start.new.out in
    let owner = c.owner-owner.ensures ∙ ap (owner_name c.args.threads.now) (c.owner.ensures.value ∙ ap (λ f. f.owner) c.new.ensures) in
    ends_at_first _ _ c.from_residual.result (mutex_start m.name.now m.cell (owner_name c.args.threads.now (fields_of m.cell).owner)) (concat (codes "-\n" ∷ [])) c.from_residual.ensures.0
    (subst (λ w. AppendsFront before after (mutex_start m.name.now m.cell w)) owner c.in_err-write_mutex_start.ensures)

pub returns : goal.returns
returns g c =
    let m = c.args.mutex.now in
    let before = g.W.Write.contents c.args.out.now in
    let after = g.W.Write.contents c.write_mutex_start.new.out in
    let owner = c.owner-owner.ensures ∙ ap (owner_name c.args.threads.now) (c.owner.ensures.value ∙ ap (λ f. f.owner) c.new.ensures) in
    then_leaves _ _ _ c.put.result (mutex_start m.name.now m.cell (owner_name c.args.threads.now (fields_of m.cell).owner)) (concat (codes "-\n" ∷ []))
    (subst (λ w. Appends before after (mutex_start m.name.now m.cell w)) owner c.in_ok-write_mutex_start.ensures) c.put.ensures
