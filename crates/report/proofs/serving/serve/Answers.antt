use Rattle.std.proofs.Common.{arith, inl, inr, refl, sym, subst, ◌∙◌}
use Rattle.streams.specs.Leaves.{AppendsFront}
use Rattle.report.specs.Messages.{failure_text}
use Rattle.report.proofs.Failures.{ended_done, ended_front, ended_low, ended_named, failed_front, failed_low, failed_not_0, fails_usage, usage_fails}
use Rattle.report.proofs.serving.serve.Goals as goal

pub returns-in-Ok-clause-done : goal.returns-in-Ok-clause-done
returns-in-Ok-clause-done g c = λ zero. ended_done c.args.form.now _ _ _ _ c.in-Ok.status c.in-Ok.ensures.ends zero

pub returns-in-Ok-clause-front : goal.returns-in-Ok-clause-front
returns-in-Ok-clause-front g c = ended_front c.args.form.now _ _ _ _ c.in-Ok.status c.in-Ok.ensures.ends

pub returns-in-Ok-clause-usage : goal.returns-in-Ok-clause-usage
returns-in-Ok-clause-usage g c = (
  λ two. absurd (let low = ended_low c.args.form.now _ _ _ _ c.in-Ok.status c.in-Ok.ensures.ends in omega (arith, low, two)),
  λ is. absurd (ended_named c.args.form.now _ _ _ _ c.in-Ok.status c.in-Ok.ensures.ends is),
)

pub returns-in-Ok-clause-last : goal.returns-in-Ok-clause-last
returns-in-Ok-clause-last g c = let low = ended_low c.args.form.now _ _ _ _ c.in-Ok.status c.in-Ok.ensures.ends in omega (arith, low)

pub returns-in-Ok-clause-told : goal.returns-in-Ok-clause-told
returns-in-Ok-clause-told g c = inl (c.in-Ok.ensures.ends, c.in-Ok.ensures.let_go, refl)

pub returns-in-Err-clause-done : goal.returns-in-Err-clause-done
returns-in-Err-clause-done g c = λ zero. absurd (failed_not_0 c.in-Err.failure (sym c.status_after.ensures ∙ zero))

pub returns-in-Err-clause-front : goal.returns-in-Err-clause-front
returns-in-Err-clause-front g c = failed_front c.args.form.now _ _ _ _ c.in-Err.failure c.in-Err.ensures.fails

pub returns-in-Err-clause-usage : goal.returns-in-Err-clause-usage
returns-in-Err-clause-usage g c = (
  λ two. usage_fails c.args.form.now _ _ _ _ c.in-Err.failure c.in-Err.ensures.fails (sym c.status_after.ensures ∙ two),
  λ is. c.status_after.ensures ∙ fails_usage c.args.form.now _ _ _ _ c.in-Err.failure c.in-Err.ensures.fails is,
)

pub returns-in-Err-clause-last : goal.returns-in-Err-clause-last
returns-in-Err-clause-last g c = let low = failed_low c.in-Err.failure in let is = c.status_after.ensures in omega (arith, low, is)

pub returns-in-Err-clause-quiet : goal.returns-in-Err-clause-quiet
returns-in-Err-clause-quiet g c = λ zero. absurd (failed_not_0 c.in-Err.failure (sym c.status_after.ensures ∙ zero))

pub returns-in-Err-clause-let_go : goal.returns-in-Err-clause-let_go
returns-in-Err-clause-let_go g c = λ zero. absurd (failed_not_0 c.in-Err.failure (sym c.status_after.ensures ∙ zero))

pub returns-in-Err-clause-told : goal.returns-in-Err-clause-told
returns-in-Err-clause-told g c = inr (c.in-Err.failure, c.in-Err.ensures.fails, subst (λ name. AppendsFront (g.E.Write.contents c.args.err.now) (g.E.Write.contents c.tell.new.err) (failure_text name c.in-Err.failure)) c.file_named.ensures c.tell.ensures, c.status_after.ensures)
