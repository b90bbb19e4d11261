use Rattle.std.proofs.Common.{◌≡◌, ◌+◌, arith, sym, ap, ◌∙◌, slice_index_or, true}
use Rattle.std.proofs.lemmas.Grind.{common_steps}
use Rattle.protocol.specs.declared.thread.Thread.{Thread}
use Rattle.protocol.specs.Machine.{idle, is_gone}
use Rattle.interleave.specs.Shown.{thread_at}
use Rattle.interleave.proofs.Views.{thread_at-index}
use Rattle.interleave.proofs.Renewing.{renewed_words, renew_state, renew_note}
use Rattle.interleave.proofs.renewals.renew.Goals as goal

-- the thread was reaped
gone : (c : goal.After-threads-1) → is_gone (thread_at c.args.threads.now.items c.args.thread).stage ≡ true
gone c =
    let k = c.as_index-index.result in
    let at : k + 1 ≡ c.args.thread = omega arith in
    let read : c.index.result.now ≡ slice_index_or c.args.threads.now.items k idle = grind (arith, common_steps) in
    ap (λ (z : Thread). is_gone z.stage) (thread_at-index c.args.threads.now.items k c.args.thread at ∙ sym read) ∙ sym c.if-not-is_reaped.ensures

pub returns-clause-state : goal.returns-clause-state
returns-clause-state c = λ kernel.
    let at : c.as_index-index.result + 1 ≡ c.args.thread = omega arith in
    renew_state c.args.layout.now c.args.memory.now c.store-3.new.self kernel c.args.threads.now.items c.as_index-index.result c.args.thread (omega arith) (omega arith) at c.requires.threads (gone c)
    (renewed_words c.args.layout.now c.args.thread c.head-head.result (omega arith) (omega arith) c.head-head.ensures c.args.memory.now c.store.new.self c.store-2.new.self c.store-3.new.self c.first_word.result c.first_word-2.result c.first_word-3.result
    c.requires.words c.first_word.ensures c.first_word-2.ensures c.first_word-3.ensures c.store.ensures.words c.store-2.ensures.words c.store-3.ensures.words)

pub returns-clause-note : goal.returns-clause-note
returns-clause-note c = λ kernel.
    let at : c.as_index-index.result + 1 ≡ c.args.thread = omega arith in
    renew_note c.args.layout.now c.args.memory.now c.store-3.new.self kernel c.args.threads.now.items c.as_index-index.result c.args.thread (omega arith) (omega arith) at c.requires.threads (gone c)
    (renewed_words c.args.layout.now c.args.thread c.head-head.result (omega arith) (omega arith) c.head-head.ensures c.args.memory.now c.store.new.self c.store-2.new.self c.store-3.new.self c.first_word.result c.first_word-2.result c.first_word-3.result
    c.requires.words c.first_word.ensures c.first_word-2.ensures c.first_word-3.ensures c.store.ensures.words c.store-2.ensures.words c.store-3.ensures.words)
