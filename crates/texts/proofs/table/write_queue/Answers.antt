use Rattle.std.proofs.Common.{◌∷◌, [], subst, sym, ◌∙◌}
use Rattle.std.specs.List.{concat}
use Rattle.std.specs.Io.KnownBytes.{Appends}
use Rattle.streams.specs.Leaves.{AppendsFront, Leaves}
use Rattle.texts.specs.Tables.{name_of, others_names}
use Rattle.streams.proofs.Writers.{ends_at_first, then_leaves}
use Rattle.texts.proofs.Tables.{queue_starts}
use Rattle.texts.proofs.table.write_queue.Goals as goal

pub returns-in_err-put-in-Some : goal.returns-in_err-put-in-Some
returns-in_err-put-in-Some g c =
    let names = c.args.script.now.threads in
    let ids = c.args.queue.now in
    let t = c.in-Some.first in
    let before = g.W.Write.contents c.args.out.now in
    let after = g.W.Write.contents c.put.new.out in
    subst (Leaves before after c.from_residual.result) (sym (queue_starts names ids t (sym c.get.ensures ∙ c.in-Some.is)))
    (ends_at_first before after c.from_residual.result (concat (name_of names t ∷ [])) (others_names names ids) c.from_residual.ensures.0 (subst (λ w. AppendsFront before after (concat (w ∷ []))) c.name.ensures c.in_err-put-in-Some.ensures))

pub returns-in_ok-put-in-Some : goal.returns-in_ok-put-in-Some
returns-in_ok-put-in-Some g c =
    let names = c.args.script.now.threads in
    let ids = c.args.queue.now in
    let t = c.in-Some.first in
    let before = g.W.Write.contents c.args.out.now in
    let mid = g.W.Write.contents c.put.new.out in
    let after = g.W.Write.contents c.write_others.new.out in
    subst (Leaves before after c.write_others.result) (sym (queue_starts names ids t (sym c.get.ensures ∙ c.in-Some.is)))
    (then_leaves before mid after c.write_others.result (concat (name_of names t ∷ [])) (others_names names ids) (subst (λ w. Appends before mid (concat (w ∷ []))) c.name.ensures c.in_ok-put-in-Some.ensures) c.write_others.ensures)
