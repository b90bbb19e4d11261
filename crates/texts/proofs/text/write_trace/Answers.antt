use Rattle.std.proofs.Common.{rules, ◌++◌, length}
use Rattle.std.specs.Io.KnownBytes.{Appends}
use Rattle.streams.specs.Leaves.{AppendsFront, Leaves}
use Rattle.texts.specs.Text.{head_line, notes_text, end_line}
use Rattle.streams.proofs.Writers.{ends_at_first, ends_at_second, then_leaves}
use Rattle.texts.proofs.text.write_trace.Goals as goal

pub returns-in_err-write_head : goal.returns-in_err-write_head
returns-in_err-write_head g c =
    let t = c.args.trace.now in
    ends_at_first _ _ c.from_residual.result (head_line t.threads t.mutexes t.conditions) (notes_text 1 t.notes.items ++ end_line (length t.notes.items)) c.from_residual.ensures.0 c.in_err-write_head.ensures

pub returns-in_err-write_notes : goal.returns-in_err-write_notes
returns-in_err-write_notes g c =
    let t = c.args.trace.now in
    let notes : AppendsFront (g.W.Write.contents c.write_head.new.out) (g.W.Write.contents c.write_notes.new.out) (notes_text 1 t.notes.items) = search rules in
    ends_at_second _ _ _ c.from_residual-in_err-write_notes.result (head_line t.threads t.mutexes t.conditions) (notes_text 1 t.notes.items) (end_line (length t.notes.items))
    c.from_residual-in_err-write_notes.ensures.0 c.in_ok-write_head.ensures notes

pub returns : goal.returns
returns g c =
    let t = c.args.trace.now in
    let notes : Appends (g.W.Write.contents c.write_head.new.out) (g.W.Write.contents c.write_notes.new.out) (notes_text 1 t.notes.items) = search rules in
    let end : Leaves (g.W.Write.contents c.write_notes.new.out) (g.W.Write.contents c.write_end.new.out) c.write_end.result (end_line (length t.notes.items)) = search rules in
    then_leaves _ _ _ c.write_end.result (head_line t.threads t.mutexes t.conditions) _ c.in_ok-write_head.ensures (then_leaves _ _ _ c.write_end.result (notes_text 1 t.notes.items) (end_line (length t.notes.items)) notes end)
