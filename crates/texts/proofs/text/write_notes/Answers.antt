use Rattle.std.proofs.Common.{◌+◌, take, sym, subst}
use Rattle.std.specs.Io.KnownBytes.{Appends}
use Rattle.protocol.specs.Notes.{facts_of}
use Rattle.streams.specs.Leaves.{Leaves}
use Rattle.texts.specs.Text.{notes_text, facts_text}
use Rattle.texts.proofs.Events.{notes_more, notes_as_far}
use Rattle.streams.proofs.Writers.{ends_at_second, Appends-trans}
use Rattle.texts.proofs.text.write_notes.Goals as goal

pub returns-in_err-write_note : goal.returns-in_err-write_note
returns-in_err-write_note g c =
    let ns = c.args.notes.now in
    let i = c.loop-i.i in
    let (rest, whole) = notes_as_far i ns c.index-notes-i.result c.index-notes-i.is c.loop-i-test.true in
    subst (Leaves _ _ c.from_residual.result) (sym whole) (ends_at_second _ _ _ c.from_residual.result (notes_text 1 (take i ns)) (facts_text (i + 1) (facts_of c.index-notes-i.result)) rest
    c.from_residual.ensures.0 c.loop-i.invariant c.in_err-write_note.ensures)

pub loop-i-preserved : goal.loop-i-preserved
loop-i-preserved g c =
    let more = notes_more c.loop-i.i c.args.notes.now c.index-notes-i.result c.index-notes-i.is c.loop-i-test.true in
    subst (Appends _ _) (sym more) (Appends-trans _ _ _ _ _ c.loop-i.invariant c.in_ok-write_note.ensures)
