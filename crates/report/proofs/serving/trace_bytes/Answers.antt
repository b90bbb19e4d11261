use Rattle.std.proofs.Common.{refl}
use Rattle.report.proofs.Servings.{written, written_front}
use Rattle.report.proofs.serving.trace_bytes.Goals as goal

pub returns-in-Ok-write_out-clause-ends : goal.returns-in-Ok-write_out-clause-ends
returns-in-Ok-write_out-clause-ends g c =
    let p = c.in-Ok.played in
    (refl, written _ _ c.args.bytes.now p.script p.trace p.machine c.in-Ok.ensures.reads c.in-Ok.ensures.plays c.in-Ok-write_out.ensures.text)

pub returns-clause-fails : goal.returns-clause-fails
returns-clause-fails g c =
    let p = c.in-Ok.played in
    written_front _ _ c.args.bytes.now p.script p.trace p.machine c.in-Ok.ensures.reads c.in-Ok.ensures.plays c.in-Err-write_out.ensures.text
