use Rattle.std.proofs.Common.{inl, inr, ⊎_elim, Err, refl, sym, ap, subst}
use Rattle.std.specs.IoError.{error_kind}
use Rattle.cmdline.specs.Forms.{asked_by}
use Rattle.streams.specs.Leaves.{AppendsFront}
use Rattle.report.specs.Messages.{failure_text}
use Rattle.report.proofs.Asking.{asked_file}
use Rattle.report.proofs.program.serve_named.Goals as goal

pub returns-in-Err-clause-ends : goal.returns-in-Err-clause-ends
returns-in-Err-clause-ends g c =
    let asked =
    asked_file (asked_by c.args.form.now) c.in-Run.file.now
    (⊎_elim (λ e. inl (ap asked_by e)) (⊎_elim (λ e. inr (inl (ap asked_by e))) (⊎_elim (λ e. inr (inr (inl (ap asked_by e)))) (λ e. inr (inr (inr (ap asked_by e)))))) c.in-Run.is)
    in
    inr (
      c.failure_of.result,
      (asked.0, error_kind c.in-Err.error, subst (λ name. g.F.Opener.opens c.args.files.now name (Err (error_kind c.in-Err.error))) (sym asked.1) c.in-Err.ensures.refused, c.failure_of.ensures),
      refl,
      subst (λ name. AppendsFront (g.E.Write.contents c.args.err.now) (g.E.Write.contents c.fail.new.err) (failure_text name c.failure_of.result)) (sym asked.1) c.fail.ensures.told,
      c.fail.ensures.status,
    )
