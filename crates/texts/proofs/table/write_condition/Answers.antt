use Rattle.std.proofs.Common.{rules, ◌≡◌, ℕ, ◌∷◌, ◌++◌, [], List, codes, decimal, subst, ap, ◌∙◌}
use Rattle.std.specs.List.{concat}
use Rattle.std.specs.Io.KnownBytes.{Appends}
use Rattle.streams.specs.Leaves.{AppendsFront}
use Rattle.memorymap.specs.Layouts.{Layout', counter_place}
use Rattle.interleave.specs.Shown.{state_of}
use Rattle.texts.specs.Tables.{condition_name, queue_names}
use Rattle.texts.proofs.Tables.{its_name}
use Rattle.streams.proofs.Writers.{ends_at_first, ends_at_second, then_leaves}
use Rattle.texts.proofs.table.write_condition.Goals as goal

pub returns-in_err-put : goal.returns-in_err-put
returns-in_err-put g c =
    let s = state_of c.args.machine.now in
    let k = c.args.condition in
    let sc = c.args.script.now in
    let before = g.W.Write.contents c.args.out.now in
    let after = g.W.Write.contents c.put.new.out in
    let name : c.condition_name.result.now ≡ condition_name sc k = its_name sc k c.condition_name.result.now c.condition_name.ensures in
    let counter : c.format-counter.result.now ≡ decimal (s.words (counter_place s.layout k)) = search rules in
    ends_at_first before after c.from_residual.result (concat (codes "cond " ∷ condition_name sc k ∷ codes " " ∷ decimal (s.words (counter_place s.layout k)) ∷ codes " " ∷ []))
    (queue_names sc.threads (s.queues (counter_place s.layout k)) ++ concat (codes "\n" ∷ [])) c.from_residual.ensures.0
    (subst (AppendsFront before after) (λ i. concat (codes "cond " ∷ name i ∷ codes " " ∷ counter i ∷ codes " " ∷ [])) c.in_err-put.ensures)

pub returns-in_err-write_queue : goal.returns-in_err-write_queue
returns-in_err-write_queue g c =
    let s = state_of c.args.machine.now in
    let k = c.args.condition in
    let sc = c.args.script.now in
    let before = g.W.Write.contents c.args.out.now in
    let mid = g.W.Write.contents c.put.new.out in
    let after = g.W.Write.contents c.write_queue.new.out in
    let name : c.condition_name.result.now ≡ condition_name sc k = its_name sc k c.condition_name.result.now c.condition_name.ensures in
    let counter : c.format-counter.result.now ≡ decimal (s.words (counter_place s.layout k)) = search rules in
    let place : c.counter-place.result ≡ counter_place s.layout k = c.counter-place.ensures.value ∙ ap (λ (l : Layout'). counter_place l k) c.layout.ensures.value in
    let queue : c.sleepers.result ≡ s.queues (counter_place s.layout k) = c.sleepers.ensures.value ∙ ap s.queues place in
    ends_at_second before mid after c.from_residual-in_err-write_queue.result (concat (codes "cond " ∷ condition_name sc k ∷ codes " " ∷ decimal (s.words (counter_place s.layout k)) ∷ codes " " ∷ []))
    (queue_names sc.threads (s.queues (counter_place s.layout k))) (concat (codes "\n" ∷ [])) c.from_residual-in_err-write_queue.ensures.0
    (subst (Appends before mid) (λ i. concat (codes "cond " ∷ name i ∷ codes " " ∷ counter i ∷ codes " " ∷ [])) c.in_ok-put.ensures) (subst (λ (q : List ℕ). AppendsFront mid after (queue_names sc.threads q)) queue c.in_err-write_queue.ensures)

pub returns : goal.returns
returns g c =
    let s = state_of c.args.machine.now in
    let k = c.args.condition in
    let sc = c.args.script.now in
    let before = g.W.Write.contents c.args.out.now in
    let mid = g.W.Write.contents c.put.new.out in
    let late = g.W.Write.contents c.write_queue.new.out in
    let after = g.W.Write.contents c.put-2.new.out in
    let name : c.condition_name.result.now ≡ condition_name sc k = its_name sc k c.condition_name.result.now c.condition_name.ensures in
    let counter : c.format-counter.result.now ≡ decimal (s.words (counter_place s.layout k)) = search rules in
    let place : c.counter-place.result ≡ counter_place s.layout k = c.counter-place.ensures.value ∙ ap (λ (l : Layout'). counter_place l k) c.layout.ensures.value in
    let queue : c.sleepers.result ≡ s.queues (counter_place s.layout k) = c.sleepers.ensures.value ∙ ap s.queues place in
    then_leaves before mid after c.put-2.result (concat (codes "cond " ∷ condition_name sc k ∷ codes " " ∷ decimal (s.words (counter_place s.layout k)) ∷ codes " " ∷ [])) _
    (subst (Appends before mid) (λ i. concat (codes "cond " ∷ name i ∷ codes " " ∷ counter i ∷ codes " " ∷ [])) c.in_ok-put.ensures)
    (then_leaves mid late after c.put-2.result (queue_names sc.threads (s.queues (counter_place s.layout k))) (concat (codes "\n" ∷ [])) (subst (λ (q : List ℕ). Appends mid late (queue_names sc.threads q)) queue c.in_ok-write_queue.ensures) c.put-2.ensures)
