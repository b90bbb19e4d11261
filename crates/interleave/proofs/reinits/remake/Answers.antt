use Rattle.std.proofs.Common.{◌≡◌, ℕ, [], sym, ap, ◌∙◌}
use Rattle.std.specs.Prelude.{slice_index}
use Rattle.memorymap.specs.Layouts.{cell_place}
use Rattle.protocol.specs.Machine.{State, After, waiters_of, reinited}
use Rattle.interleave.specs.Shown.{state_at}
use Rattle.interleave.proofs.Reiniting.{remake_not_resting, remake_not_unusable, remakes, is_inside, cell_stored}
use Rattle.interleave.proofs.reinits.remake.Goals as goal

pub returns-then-not-is_resting-clause-state : goal.returns-then-not-is_resting-clause-state
returns-then-not-is_resting-clause-state c = λ kernel. sym (ap (λ (a : After). a.state) (remake_not_resting (state_at c.args.layout.now c.args.memory.now kernel c.args.threads.now.items) c.args.thread c.args.mutex c.is_resting.result (c.is_resting.ensures c.args.memory.now kernel) c.if-not-is_resting.true))

pub returns-then-not-is_unusable-clause-state : goal.returns-then-not-is_unusable-clause-state
returns-then-not-is_unusable-clause-state c = λ kernel. sym (ap (λ (a : After). a.state) (remake_not_unusable (state_at c.args.layout.now c.args.memory.now kernel c.args.threads.now.items) c.args.thread c.args.mutex c.is_unusable.result (c.is_unusable.ensures kernel c.args.threads.now.items) c.if-not-is_unusable.true))

pub returns-then-not-is_resting-clause-note : goal.returns-then-not-is_resting-clause-note
returns-then-not-is_resting-clause-note c = λ kernel. sym (ap (λ (a : After). a.note) (remake_not_resting (state_at c.args.layout.now c.args.memory.now kernel c.args.threads.now.items) c.args.thread c.args.mutex c.is_resting.result (c.is_resting.ensures c.args.memory.now kernel) c.if-not-is_resting.true))

pub returns-then-not-is_unusable-clause-note : goal.returns-then-not-is_unusable-clause-note
returns-then-not-is_unusable-clause-note c = λ kernel. sym (ap (λ (a : After). a.note) (remake_not_unusable (state_at c.args.layout.now c.args.memory.now kernel c.args.threads.now.items) c.args.thread c.args.mutex c.is_unusable.result (c.is_unusable.ensures kernel c.args.threads.now.items) c.if-not-is_unusable.true))

-- which kernel is no matter of the mutexes
pub cell-cell-requires : goal.cell-cell-requires
cell-cell-requires c = is_inside c.is_unusable.result c.args.mutex c.args.layout.now.mutexes _ (c.is_unusable.ensures (record { threads = 0; buckets = []; heads = [] }) c.args.threads.now.items) c.if-not-is_unusable.false

pub returns-clause-state : goal.returns-clause-state
returns-clause-state c = λ kernel.
    let l = c.args.layout.now in
    let ws = c.args.memory.now in
    let m = c.args.mutex in
    let s : State = state_at l ws kernel c.args.threads.now.items in
    let unusable = c.is_unusable.ensures kernel c.args.threads.now.items in
    let wrote : c.waiters_of.result ≡ waiters_of (slice_index ws (cell_place l m)) = c.waiters_of.ensures ∙ ap waiters_of (c.word_at-word.ensures ∙ ap (slice_index ws) c.cell-cell.ensures.value) in
    cell_stored l ws c.store.new.self kernel c.args.threads.now.items c.args.thread m c.cell-cell.result c.waiters_of.result c.requires.words (is_inside c.is_unusable.result m l.mutexes _ unusable c.if-not-is_unusable.false) c.cell-cell.ensures.value c.store.ensures.words
    ∙ ap (λ (w : ℕ). (reinited s c.args.thread m w).state) wrote
    ∙ sym (ap (λ (a : After). a.state) (remakes s c.args.thread m c.is_resting.result c.is_unusable.result (c.is_resting.ensures ws kernel) c.if-not-is_resting.false unusable c.if-not-is_unusable.false))

pub returns-clause-note : goal.returns-clause-note
returns-clause-note c = λ kernel.
    let s : State = state_at c.args.layout.now c.args.memory.now kernel c.args.threads.now.items in
    sym (ap (λ (a : After). a.note) (remakes s c.args.thread c.args.mutex c.is_resting.result c.is_unusable.result (c.is_resting.ensures c.args.memory.now kernel) c.if-not-is_resting.false (c.is_unusable.ensures kernel c.args.threads.now.items) c.if-not-is_unusable.false))
