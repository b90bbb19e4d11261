use Rattle.std.proofs.Common.{subst}
use Rattle.std.specs.Io.KnownBytes.{Appends}
use Rattle.streams.specs.Leaves.{AppendsFront}
use Rattle.explain.proofs.serving.tell_bytes.Goals as goal

pub returns-in-Ok-write_out-clause-tells : goal.returns-in-Ok-write_out-clause-tells
returns-in-Ok-write_out-clause-tells g c =
    let old = g.W.Write.contents c.args.out.now in
    let new = g.W.Write.contents c.write_out.new.out in
    (c.in-Ok.told.text.items, (c.in-Ok.ensures, subst (Appends old new) c.deref.ensures.value c.in-Ok-write_out.ensures.text))

pub returns-clause-fails : goal.returns-clause-fails
returns-clause-fails g c =
    let old = g.W.Write.contents c.args.out.now in
    let new = g.W.Write.contents c.write_out.new.out in
    (c.in-Ok.told.text.items, (c.in-Ok.told.status, (c.in-Ok.ensures, subst (AppendsFront old new) c.deref.ensures.value c.in-Err.ensures.text)))
