use Rattle.std.proofs.Common.{◌≡◌, take}
use Rattle.texts.specs.Tables.{last_reply}
use Rattle.texts.proofs.table.last_reply.Given as goal

abbrev pub invariant-loop-note : goal.invariant-loop-note
invariant-loop-note l = l.last ≡ last_reply l.thread (take l.note-index l.notes)
