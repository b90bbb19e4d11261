use Rattle.std.proofs.Common.{List, ℕ, inl, inr, refl, subst}
use Rattle.streams.specs.Leaves.{AppendsFront}
use Rattle.judge_report.specs.Messages.{failure_text}
use Rattle.judge_report.proofs.program.run_file.Goals as goal

pub returns-in-Ok-serve : goal.returns-in-Ok-serve
returns-in-Ok-serve g c = inl (_, c.in-Ok.ensures.opened, inl (c.in-Ok-serve.ensures.serves, c.in-Ok-serve.ensures.let_go, refl))

pub returns-in-Err-serve : goal.returns-in-Err-serve
returns-in-Err-serve g c =
    let f = c.in-Err-serve.failure in
    let told = subst (λ (file : List ℕ). AppendsFront (g.E.Write.contents c.args.err.now) (g.E.Write.contents c.fail-in-Err-serve.new.err) (failure_text file f)) c.subject_of.ensures c.fail-in-Err-serve.ensures.told in
    inl (_, c.in-Ok.ensures.opened, inr (f, c.in-Err-serve.ensures.fails, (told, c.fail-in-Err-serve.ensures.status)))
