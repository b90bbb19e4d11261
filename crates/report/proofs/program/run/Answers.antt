use Rattle.std.proofs.Common.{◌≡◌, ap, inl, inr, map, refl, subst, sym, ◌∙◌}
use Rattle.std.specs.Prelude.{string_bytes}
use Rattle.cmdline.specs.Forms.{asked_by, asked_of}
use Rattle.report.specs.Programs.{asked_in, NamedEnds}
use Rattle.report.proofs.Failures.{anyway}
use Rattle.report.proofs.program.run.Goals as goal

pub returns-in-Err-clause-ends : goal.returns-in-Err-clause-ends
returns-in-Err-clause-ends g c = inr (refl, c.fail.ensures.told, c.fail.ensures.status)

pub returns-in-Err-2-clause-no_text : goal.returns-in-Err-2-clause-no_text
returns-in-Err-2-clause-no_text g c = anyway c.args.words _ _ (c.serve_named.ensures.usage refl)

pub returns-in-Ok-form_of_words-clause-ends : goal.returns-in-Ok-form_of_words-clause-ends
returns-in-Ok-form_of_words-clause-ends g c =
    let served = c.serve_named-in-Ok-form_of_words in
    let asked : asked_by c.in-Ok-form_of_words.form ≡ asked_in c.args.words =
    c.in-Ok-form_of_words.ensures
    ∙ ap (λ ws. asked_of (map (λ w. w.now) ws)) c.deref-2.ensures.value
    ∙ ap asked_of (c.in-Ok-lent.ensures ∙ ap (map string_bytes) c.deref.ensures.value)
    ∙ ap asked_in (sym c.in-Ok.is) in
    inl (subst (λ a. NamedEnds (g.F.Opener.opens c.args.files.now) a (g.W.Write.contents c.args.out.now) (g.W.Write.contents served.new.out) (g.W.Output.is_let_go served.new.out) (served.new.err ≡ c.args.err.now) (g.E.Write.contents c.args.err.now) (g.E.Write.contents served.new.err) served.result) asked served.ensures.ends)
