use Rattle.std.proofs.Common.{◌≡◌, ◌-◌, ◌++◌, ◌∷◌, [], ◌<◌, List, length, refl, sym, ap, subst, ◌∙◌, arith}
use Rattle.std.specs.Prelude.{None, Option, slice_index_or}
use Rattle.lockword.specs.declared.reply.Reply.{Reply}
use Rattle.histories.specs.declared.entry.HistoryLine.{HistoryLine}
use Rattle.refuting.specs.Turns.{entry_thread}
use Rattle.refuting.proofs.Foretelling.{Foretold, none_yet, one_back}
use Rattle.refuting.proofs.replies.replies.Goals as goal

pub loop-back-init : goal.loop-back-init
loop-back-init c = subst (λ (rs : List (Option Reply)). Foretold c.args.lines.now c.nothing_yet-next.result rs 0) (sym c.new-replies.ensures.items) (none_yet c.args.lines.now c.nothing_yet-next.result c.nothing_yet-next.ensures)

pub loop-back-preserved : goal.loop-back-preserved
loop-back-preserved c =
    let ls = c.args.lines.now in
    let d = c.index-lines-lines.result in
    let back = c.loop-back.back in
    let l : HistoryLine = slice_index_or ls (length ls - 1 - back) d in
    let at : c.from.result ≡ entry_thread l.entry = c.from.ensures ∙ c.get.ensures.value ∙ c.thread_of.ensures in
    let lt : back < length ls = omega (arith, c.loop-back-test.true) in
    one_back ls c.loop-back.next c.hear.new.next c.loop-back.replies.items c.push.new.self.items back (length ls - 1 - back) l d lt refl refl c.loop-back.invariant
    (c.in_ok-push.ensures.items ∙ ap (λ u. c.loop-back.replies.items ++ slice_index_or c.loop-back.next u None ∷ []) at) c.hear.ensures
