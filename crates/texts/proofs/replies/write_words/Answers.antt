use Rattle.std.proofs.Common.{◌∷◌, [], codes, ap, subst}
use Rattle.std.specs.List.{concat}
use Rattle.std.specs.Io.KnownBytes.{Appends}
use Rattle.streams.specs.Leaves.{AppendsFront}
use Rattle.texts.specs.Replies.{reply_text}
use Rattle.streams.proofs.Writers.{goes_on, stops_at}
use Rattle.texts.proofs.replies.write_words.Goals as goal

pub returns-in_err-put : goal.returns-in_err-put
returns-in_err-put g c =
    stops_at reply_text c.args.replies.now c.loop-reply.reply-index _ _ _ _ c.from_residual.result c.loop-reply-test.true c.from_residual.ensures.0 c.loop-reply.invariant
    (subst (AppendsFront _ _) (ap (λ w. concat (codes " " ∷ w ∷ [])) c.name.ensures) c.in_err-put.ensures)

pub loop-reply-preserved : goal.loop-reply-preserved
loop-reply-preserved g c =
    goes_on reply_text c.args.replies.now c.loop-reply.reply-index _ _ _ _ c.loop-reply-test.true c.loop-reply.invariant
    (subst (Appends _ _) (ap (λ w. concat (codes " " ∷ w ∷ [])) c.name.ensures) c.in_ok-put.ensures)
