use Rattle.std.proofs.Common.{inl, sym}
use Rattle.verdict.proofs.Collecting.{gives, refuses}
use Rattle.verdict.proofs.told.read_text.Goals as goal

pub returns-in-Ok-clause-gives : goal.returns-in-Ok-clause-gives
returns-in-Ok-clause-gives c = gives c.args.text.now c.in-Some.first.now c.in-Some.rest.now c.in-Ok.head c.read_lines.result c.in-Some.ensures.parts (sym c.in-Ok.ensures.value) c.read_lines.ensures.gives

pub returns-in-Err-clause-gives : goal.returns-in-Err-clause-gives
returns-in-Err-clause-gives c = inl (refuses c.args.text.now c.in-Some.first.now c.in-Some.rest.now c.in-Err.fault c.in-Some.ensures.parts (sym c.in-Err.ensures.value))
