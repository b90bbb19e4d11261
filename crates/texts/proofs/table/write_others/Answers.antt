use Rattle.std.proofs.Common.{suc, ◌≡◌, ℕ, ◌+◌, ◌-◌, ◌∷◌, [], List, take, drop, map, codes, arith, subst, ap, sym, ◌∙◌}
use Rattle.std.specs.List.{concat}
use Rattle.std.specs.Io.KnownBytes.{Appends}
use Rattle.streams.specs.Leaves.{AppendsFront}
use Rattle.std.specs.Prelude.{slice_get, Some}
use Rattle.texts.specs.Tables.{comma_name}
use Rattle.texts.proofs.Tables.{item_goes_on, item_stops, behind_first}
use Rattle.texts.proofs.table.write_others.Goals as goal

pub returns-in_err-put : goal.returns-in_err-put
returns-in_err-put g c =
    let names = c.args.script.now.threads in
    let rest : List ℕ = drop 1 c.args.queue.now in
    let place : suc (c.loop-place.place - 1) ≡ c.loop-place.place = omega (arith, c.loop-place.invariant.0) in
    let there : slice_get c.args.queue.now (suc (c.loop-place.place - 1)) ≡ Some c.in-Some.thread = ap (slice_get c.args.queue.now) place ∙ sym c.get.ensures ∙ c.in-Some.is in
    let mid = g.W.Write.contents c.loop-place.out in
    let after = g.W.Write.contents c.put.new.out in
    item_stops (comma_name names) rest (c.loop-place.place - 1) c.in-Some.thread (g.W.Write.contents c.args.out.now) mid after c.from_residual.result (behind_first c.args.queue.now (c.loop-place.place - 1) c.in-Some.thread there)
    c.from_residual.ensures.0 c.loop-place.invariant.1 (subst (λ w. AppendsFront mid after (concat (codes "," ∷ w ∷ []))) c.name.ensures c.in_err-put.ensures)

pub loop-place-preserved : goal.loop-place-preserved
loop-place-preserved g c =
    let names = c.args.script.now.threads in
    let rest : List ℕ = drop 1 c.args.queue.now in
    let place : suc (c.loop-place.place - 1) ≡ c.loop-place.place = omega (arith, c.loop-place.invariant.0) in
    let next : (c.loop-place.place - 1) + 1 ≡ (c.loop-place.place + 1) - 1 = omega (arith, c.loop-place.invariant.0) in
    let there : slice_get c.args.queue.now (suc (c.loop-place.place - 1)) ≡ Some c.in-Some.thread = ap (slice_get c.args.queue.now) place ∙ sym c.get.ensures ∙ c.in-Some.is in
    let before = g.W.Write.contents c.args.out.now in
    let mid = g.W.Write.contents c.loop-place.out in
    let after = g.W.Write.contents c.put.new.out in (
      omega (arith, c.loop-place.invariant.0),
      subst (λ (k : ℕ). Appends before after (concat (map (comma_name names) (take k rest)))) next
          (item_goes_on (comma_name names) rest (c.loop-place.place - 1) c.in-Some.thread before mid after (behind_first c.args.queue.now (c.loop-place.place - 1) c.in-Some.thread there) c.loop-place.invariant.1
          (subst (λ w. Appends mid after (concat (codes "," ∷ w ∷ []))) c.name.ensures c.in_ok-put.ensures)),
    )
