use Rattle.std.proofs.Common.{rules, ◌≡◌, ◌∷◌, [], codes, decimal, subst, ap, ◌∙◌}
use Rattle.std.specs.List.{concat}
use Rattle.std.specs.Io.KnownBytes.{Appends}
use Rattle.streams.specs.Leaves.{AppendsFront, Leaves}
use Rattle.interleave.specs.Shown.{state_of}
use Rattle.texts.specs.Tables.{name_of, state_word, held_by, last_reply, reply_or_hyphen}
use Rattle.streams.proofs.Writers.{ends_at_first, then_leaves}
use Rattle.texts.proofs.table.write_thread.Goals as goal

pub returns-in_err-put : goal.returns-in_err-put
returns-in_err-put g c =
    let s = state_of c.args.machine.now in
    let t = c.args.thread in
    let before = g.W.Write.contents c.args.out.now in
    let after = g.W.Write.contents c.put.new.out in
    ends_at_first before after c.from_residual.result (concat (codes "thread " ∷ name_of c.args.script.now.threads t ∷ codes " " ∷ []))
    (concat (state_word s t (s.threads t).stage ∷ codes " " ∷ decimal (held_by s t) ∷ codes " " ∷ reply_or_hyphen (last_reply t c.args.notes.now) ∷ codes "\n" ∷ [])) c.from_residual.ensures.0
    (subst (λ w. AppendsFront before after (concat (codes "thread " ∷ w ∷ codes " " ∷ []))) c.name.ensures c.in_err-put.ensures)

pub returns : goal.returns
returns g c =
    let s = state_of c.args.machine.now in
    let t = c.args.thread in
    let before = g.W.Write.contents c.args.out.now in
    let mid = g.W.Write.contents c.put.new.out in
    let after = g.W.Write.contents c.put-2.new.out in
    let held : c.format-held.result.now ≡ decimal (held_by s t) = search rules in
    let last : c.reply_or_hyphen-last.result.now ≡ reply_or_hyphen (last_reply t c.args.notes.now) = c.reply_or_hyphen-last.ensures ∙ ap reply_or_hyphen c.last_reply.ensures in
    let told : Leaves mid after c.put-2.result (concat (state_word s t (s.threads t).stage ∷ codes " " ∷ decimal (held_by s t) ∷ codes " " ∷ reply_or_hyphen (last_reply t c.args.notes.now) ∷ codes "\n" ∷ [])) =
    subst (Leaves mid after c.put-2.result) (λ i. concat (c.state_word-state.ensures i ∷ codes " " ∷ held i ∷ codes " " ∷ last i ∷ codes "\n" ∷ [])) c.put-2.ensures in
    then_leaves before mid after c.put-2.result (concat (codes "thread " ∷ name_of c.args.script.now.threads t ∷ codes " " ∷ [])) _
    (subst (λ w. Appends before mid (concat (codes "thread " ∷ w ∷ codes " " ∷ []))) c.name.ensures c.in_ok-put.ensures) told
