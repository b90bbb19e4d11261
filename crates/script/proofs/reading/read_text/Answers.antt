use Rattle.std.proofs.Common.{arith, rules, sym, ap, ◌∙◌, subst, Err}
use Rattle.std.proofs.lemmas.Result.{err_from_is_err_and}
use Rattle.script.specs.Outcome.{SpeaksAt}
use Rattle.script.specs.Reading.{text_read}
use Rattle.script.specs.Seen.{scope_of}
use Rattle.script.proofs.Bounds.{line_keeps}
use Rattle.script.proofs.Lines.{goes_on, stops_at, ends, ends_ill, behind_next, speaks, ends_remembered}
use Rattle.script.proofs.reading.read_text.Goals as goal

pub returns-in_err-read_line-clause-reads : goal.returns-in_err-read_line-clause-reads
returns-in_err-read_line-clause-reads c =
    let p = err_from_is_err_and c.from_residual.result c.from_residual.ensures.1 in
    rw (p.1, p.2) (stops_at c.loop-first.line (scope_of c.loop-first.draft) c.in_err-read_line.field-0.0 c.in-Some.first.now c.loop-first.rest.now c.in-Some.after.now (text_read c.args.mode c.args.text.now) c.in-Some.ensures.parts c.in_err-read_line.ensures.gives c.loop-first.invariant.so_far)

pub loop-first-preserved : goal.loop-first-preserved
loop-first-preserved c = record {
  is_text = search rules;
  few_lines = omega (arith, c.in_ok-read_line.ensures.few);
  mode = search rules;
  within = line_keeps c.loop-first.line (scope_of c.loop-first.draft) (scope_of c.read_line.new.draft) c.in-Some.first.now c.loop-first.invariant.within c.in_ok-read_line.ensures.gives;
  earlier = behind_next c.args.text.now c.loop-first.rest.now c.in-Some.first.now c.in-Some.after.now c.loop-first.line c.loop-first.invariant.earlier c.in-Some.ensures.parts;
  so_far = goes_on c.loop-first.line (scope_of c.loop-first.draft) (scope_of c.read_line.new.draft) c.in-Some.first.now c.loop-first.rest.now c.in-Some.after.now (text_read c.args.mode c.args.text.now) c.in-Some.ensures.parts c.in_ok-read_line.ensures.gives c.loop-first.invariant.so_far;
}

pub returns-in-Ok-clause-reads : goal.returns-in-Ok-clause-reads
returns-in-Ok-clause-reads c = ends c.loop-first.line (scope_of c.loop-first.draft) c.in-Ok.script c.loop-first.rest.now (text_read c.args.mode c.args.text.now) c.in_default.ensures.parts (sym c.in-Ok.ensures) c.loop-first.invariant.so_far

pub returns-in-Err-clause-reads : goal.returns-in-Err-clause-reads
returns-in-Err-clause-reads c = ends_ill c.loop-first.line (scope_of c.loop-first.draft) c.in-Err.fault c.loop-first.rest.now (text_read c.args.mode c.args.text.now) c.in_default.ensures.parts (sym c.in-Err.ensures) c.loop-first.invariant.so_far

pub returns-in_err-read_line-clause-memory : goal.returns-in_err-read_line-clause-memory
returns-in_err-read_line-clause-memory c =
    let p = err_from_is_err_and c.from_residual.result c.from_residual.ensures.1 in
    rw (p.1, p.2) (λ wants. subst (SpeaksAt c.args.text.now) (sym c.in_err-read_line.ensures.gives.0)
    (speaks c.args.text.now c.loop-first.rest.now c.in-Some.first.now c.in-Some.after.now c.loop-first.line c.loop-first.invariant.earlier c.in-Some.ensures.parts (c.in_err-read_line.ensures.memory wants)))

pub returns-in-Err-clause-memory : goal.returns-in-Err-clause-memory
returns-in-Err-clause-memory c = λ wants. absurd (ends_remembered c.loop-first.line (scope_of c.loop-first.draft) c.loop-first.rest.now (sym c.in-Err.ensures ∙ ap Err wants))
