use Rattle.std.proofs.Common.{rules}
use Rattle.std.specs.Io.KnownBytes.{Appends}
use Rattle.streams.specs.Leaves.{AppendsFront}
use Rattle.interleave.specs.Shown.{state_of}
use Rattle.texts.specs.Tables.{thread_lines, object_lines}
use Rattle.streams.proofs.Writers.{ends_at_first, then_leaves}
use Rattle.texts.proofs.table.write_table.Goals as goal

pub returns-in_err-write_threads : goal.returns-in_err-write_threads
returns-in_err-write_threads g c =
    let s = state_of c.args.machine.now in
    let before = g.W.Write.contents c.args.out.now in
    let after = g.W.Write.contents c.write_threads.new.out in
    let lines : AppendsFront before after (thread_lines c.args.script.now s c.args.trace.now.notes.items) = search rules in
    ends_at_first before after c.from_residual.result (thread_lines c.args.script.now s c.args.trace.now.notes.items) (object_lines c.args.script.now s) c.from_residual.ensures.0 lines

pub returns : goal.returns
returns g c =
    let s = state_of c.args.machine.now in
    let before = g.W.Write.contents c.args.out.now in
    let mid = g.W.Write.contents c.write_threads.new.out in
    let after = g.W.Write.contents c.write_objects.new.out in
    let lines : Appends before mid (thread_lines c.args.script.now s c.args.trace.now.notes.items) = search rules in
    then_leaves before mid after c.write_objects.result (thread_lines c.args.script.now s c.args.trace.now.notes.items) (object_lines c.args.script.now s) lines c.write_objects.ensures
