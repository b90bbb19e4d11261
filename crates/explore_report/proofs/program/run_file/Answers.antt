use Rattle.std.proofs.Common.{inl, inr, refl}
use Rattle.explore_report.proofs.program.run_file.Goals as goal

pub returns-in-Ok-serve : goal.returns-in-Ok-serve
returns-in-Ok-serve g c = inl (_, _, c.in-Ok.ensures.opened, inl (c.in-Ok-serve.ensures.serves, c.in-Ok-serve.ensures.let_go, refl))

pub returns : goal.returns
returns g c = inl (_, _, c.in-Ok.ensures.opened, inr (c.in-Err-serve.failure, c.in-Err-serve.ensures.fails, (c.fail-in-Err-serve.ensures.told, c.fail-in-Err-serve.ensures.status)))
