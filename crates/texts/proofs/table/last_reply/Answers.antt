use Rattle.std.proofs.Common.{◌∙◌, sym, ap}
use Rattle.std.specs.Prelude.{Option, option_to_list}
use Rattle.std.specs.List.{last_or}
use Rattle.lockword.specs.declared.reply.Reply.{Reply}
use Rattle.texts.proofs.Told.{last_more, later}
use Rattle.texts.proofs.table.last_reply.Goals as goal

pub loop-note-preserved : goal.loop-note-preserved
loop-note-preserved c =
    let n = c.note-item.result in
    c.or-last.ensures ∙ later c.loop-note.last c.reply_in.result ∙ ap (λ (o : Option Reply). last_or o (option_to_list c.reply_in.result)) c.loop-note.invariant
    ∙ sym (last_more c.args.thread c.args.notes.now c.loop-note.note-index n n c.reply_in.result c.loop-note-test.true (sym c.note-item.is) c.reply_in.ensures)
