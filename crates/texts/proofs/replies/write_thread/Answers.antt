use Rattle.std.proofs.Common.{[], ◌∷◌, ◌++◌, codes, subst}
use Rattle.std.specs.List.{concat}
use Rattle.streams.specs.Leaves.{Leaves}
use Rattle.texts.specs.Replies.{reply_texts, ending}
use Rattle.streams.proofs.Writers.{ends_at_first, ends_at_second, then_leaves}
use Rattle.texts.proofs.replies.write_thread.Goals as goal

pub returns-in_err-put : goal.returns-in_err-put
returns-in_err-put g c =
    let t = c.args.thread.now in
    ends_at_first _ _ c.from_residual.result (concat (codes "replies " ∷ t.name.now ∷ [])) (reply_texts t.replies.now ++ concat (ending t.died ∷ [])) c.from_residual.ensures.0 c.in_err-put.ensures

pub returns-in_err-write_words : goal.returns-in_err-write_words
returns-in_err-write_words g c =
    let t = c.args.thread.now in
    ends_at_second _ _ _ c.from_residual-in_err-write_words.result (concat (codes "replies " ∷ t.name.now ∷ [])) (reply_texts t.replies.now) (concat (ending t.died ∷ []))
    c.from_residual-in_err-write_words.ensures.0 c.in_ok-put.ensures c.in_err-write_words.ensures

pub returns : goal.returns
returns g c =
    let t = c.args.thread.now in
    let before = g.W.Write.contents c.write_words.new.out in
    let after = g.W.Write.contents c.put-2.new.out in
    let end : Leaves before after c.put-2.result (concat (ending t.died ∷ [])) = subst (λ w. Leaves before after c.put-2.result (concat (w ∷ []))) c.ending.ensures c.put-2.ensures in
    then_leaves _ _ _ c.put-2.result (concat (codes "replies " ∷ t.name.now ∷ [])) _ c.in_ok-put.ensures (then_leaves _ _ _ c.put-2.result (reply_texts t.replies.now) _ c.in_ok-write_words.ensures end)
