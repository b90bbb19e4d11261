use Rattle.std.proofs.Common.{inl, inr}
use Rattle.report.proofs.serving.play_bytes.Goals as goal

pub returns-in-Err-clause-fails : goal.returns-in-Err-clause-fails
returns-in-Err-clause-fails c = inr (c.in_ok-script.script, c.in_ok-script.ensures.reads, inl c.in-Err.ensures)
