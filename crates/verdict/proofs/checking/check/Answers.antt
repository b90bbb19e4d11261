use Rattle.std.proofs.Common.{Ok, sym, subst}
use Rattle.verdict.specs.Reading.{trace_read}
use Rattle.verdict.specs.Verdicts.{Answers}
use Rattle.verdict.proofs.Whole.{checked}
use Rattle.verdict.proofs.checking.check.Goals as goal

pub returns-in-Ok : goal.returns-in-Ok
returns-in-Ok c = subst (λ v. Answers (trace_read c.args.bytes.now) (Ok v)) (sym c.verdict.ensures) (checked (trace_read c.args.bytes.now) c.in-Ok.finding c.in-Ok.ensures)
