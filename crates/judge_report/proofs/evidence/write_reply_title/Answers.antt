use Rattle.std.proofs.Common.{◌≡◌, ℕ, List, [], ◌∷◌, codes, ap₂, subst, rules, ◌∙◌}
use Rattle.std.specs.Prelude.{decimal}
use Rattle.std.specs.List.{concat}
use Rattle.lockword.specs.Replies.{reply_word}
use Rattle.posixmutex.specs.Words.{operation_word}
use Rattle.streams.specs.Leaves.{Leaves}
use Rattle.judge_report.proofs.evidence.write_reply_title.Goals as goal

pub returns : goal.returns
returns g c =
    let l = c.args.line.now in
    let r = c.args.told.now in
    let thread : c.into.result ≡ r.thread = search rules in
    let mutex : c.into-2.result ≡ c.args.mutex = search rules in
    let reply : c.name.result.now ≡ reply_word r.reply = search rules in
    let word : c.word.result.now ≡ operation_word r.operation = search rules in
    subst (Leaves (g.W.Write.contents c.args.out.now) (g.W.Write.contents c.put_pieces.new.out) c.put_pieces.result)
    (ap₂ (λ (t m : ℕ). concat (codes "  = see line " ∷ decimal l.number ∷ codes " (event " ∷ decimal l.event ∷ codes "): t" ∷ decimal t ∷ codes " was told " ∷ c.name.result.now ∷ codes " for its " ∷ c.word.result.now ∷ codes " of m" ∷ decimal m ∷ codes "\n" ∷ [])) thread mutex
    ∙ ap₂ (λ (x o : List ℕ). concat (codes "  = see line " ∷ decimal l.number ∷ codes " (event " ∷ decimal l.event ∷ codes "): t" ∷ decimal r.thread ∷ codes " was told " ∷ x ∷ codes " for its " ∷ o ∷ codes " of m" ∷ decimal c.args.mutex ∷ codes "\n" ∷ [])) reply word)
    c.put_pieces.ensures
