use Rattle.std.proofs.Common.{rules, ◌≡◌, ℕ, ◌∷◌, ◌++◌, [], List, codes, subst, ap, sym, ◌∙◌}
use Rattle.std.specs.List.{concat}
use Rattle.std.specs.Io.KnownBytes.{Appends}
use Rattle.streams.specs.Leaves.{AppendsFront}
use Rattle.std.specs.Prelude.{slice_get}
use Rattle.memorymap.specs.Layouts.{Layout', cell_place}
use Rattle.protocol.specs.Machine.{sleepers}
use Rattle.protocol.specs.Headline.{seen}
use Rattle.interleave.specs.Shown.{state_of}
use Rattle.texts.specs.MutexLines.{mutex_start}
use Rattle.texts.specs.Tables.{name_in, owner_word, queue_names}
use Rattle.streams.proofs.Writers.{ends_at_first, ends_at_second, then_leaves}
use Rattle.texts.proofs.table.write_mutex.Goals as goal

pub returns-in_err-write_mutex_start : goal.returns-in_err-write_mutex_start
returns-in_err-write_mutex_start g c =
    let s = state_of c.args.machine.now in
    let m = c.args.mutex in
    let names = c.args.script.now.threads in
    let before = g.W.Write.contents c.args.out.now in
    let after = g.W.Write.contents c.write_mutex_start.new.out in
    let name : c.mutex_name.result.now ≡ name_in (slice_get c.args.script.now.mutexes m) = sym (ap name_in c.mutex_name.ensures) in
    let cell : c.cell_word-cell.result ≡ s.words (cell_place s.layout m) = c.cell_word-cell.ensures in
    let owner : c.owner_word-owner.result.now ≡ owner_word names (seen s m).owner = c.owner_word-owner.ensures ∙ ap (owner_word names) c.owner.ensures in
    ends_at_first before after c.from_residual.result (mutex_start (name_in (slice_get c.args.script.now.mutexes m)) (s.words (cell_place s.layout m)) (owner_word names (seen s m).owner)) (queue_names names (sleepers s m) ++ concat (codes "\n" ∷ []))
    c.from_residual.ensures.0 (subst (AppendsFront before after) (λ i. mutex_start (name i) (cell i) (owner i)) c.in_err-write_mutex_start.ensures)

pub returns-in_err-write_queue : goal.returns-in_err-write_queue
returns-in_err-write_queue g c =
    let s = state_of c.args.machine.now in
    let m = c.args.mutex in
    let names = c.args.script.now.threads in
    let before = g.W.Write.contents c.args.out.now in
    let mid = g.W.Write.contents c.write_mutex_start.new.out in
    let after = g.W.Write.contents c.write_queue.new.out in
    let name : c.mutex_name.result.now ≡ name_in (slice_get c.args.script.now.mutexes m) = sym (ap name_in c.mutex_name.ensures) in
    let cell : c.cell_word-cell.result ≡ s.words (cell_place s.layout m) = c.cell_word-cell.ensures in
    let owner : c.owner_word-owner.result.now ≡ owner_word names (seen s m).owner = c.owner_word-owner.ensures ∙ ap (owner_word names) c.owner.ensures in
    let place : c.cell-place.result ≡ cell_place s.layout m = c.cell-place.ensures.value ∙ ap (λ (l : Layout'). cell_place l m) c.layout.ensures.value in
    let queue : c.sleepers.result ≡ sleepers s m = c.sleepers.ensures.value ∙ ap s.queues place in
    ends_at_second before mid after c.from_residual-in_err-write_queue.result (mutex_start (name_in (slice_get c.args.script.now.mutexes m)) (s.words (cell_place s.layout m)) (owner_word names (seen s m).owner)) (queue_names names (sleepers s m)) (concat (codes "\n" ∷ []))
    c.from_residual-in_err-write_queue.ensures.0 (subst (Appends before mid) (λ i. mutex_start (name i) (cell i) (owner i)) c.in_ok-write_mutex_start.ensures) (subst (λ (q : List ℕ). AppendsFront mid after (queue_names names q)) queue c.in_err-write_queue.ensures)

pub returns : goal.returns
returns g c =
    let s = state_of c.args.machine.now in
    let m = c.args.mutex in
    let names = c.args.script.now.threads in
    let before = g.W.Write.contents c.args.out.now in
    let mid = g.W.Write.contents c.write_mutex_start.new.out in
    let late = g.W.Write.contents c.write_queue.new.out in
    let after = g.W.Write.contents c.put.new.out in
    let name : c.mutex_name.result.now ≡ name_in (slice_get c.args.script.now.mutexes m) = sym (ap name_in c.mutex_name.ensures) in
    let cell : c.cell_word-cell.result ≡ s.words (cell_place s.layout m) = c.cell_word-cell.ensures in
    let owner : c.owner_word-owner.result.now ≡ owner_word names (seen s m).owner = c.owner_word-owner.ensures ∙ ap (owner_word names) c.owner.ensures in
    let place : c.cell-place.result ≡ cell_place s.layout m = c.cell-place.ensures.value ∙ ap (λ (l : Layout'). cell_place l m) c.layout.ensures.value in
    let queue : c.sleepers.result ≡ sleepers s m = c.sleepers.ensures.value ∙ ap s.queues place in
    then_leaves before mid after c.put.result (mutex_start (name_in (slice_get c.args.script.now.mutexes m)) (s.words (cell_place s.layout m)) (owner_word names (seen s m).owner)) _
    (subst (Appends before mid) (λ i. mutex_start (name i) (cell i) (owner i)) c.in_ok-write_mutex_start.ensures)
    (then_leaves mid late after c.put.result (queue_names names (sleepers s m)) (concat (codes "\n" ∷ [])) (subst (λ (q : List ℕ). Appends mid late (queue_names names q)) queue c.in_ok-write_queue.ensures) c.put.ensures)
