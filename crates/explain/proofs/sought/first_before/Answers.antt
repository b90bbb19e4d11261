use Rattle.std.proofs.Common.{◌≡◌, false, sym, ◌∙◌, rules}
use Rattle.lines.specs.Lines.{lines_of}
use Rattle.explain.specs.Sought.{is_sought}
use Rattle.explain.proofs.Earlier.{none_left, not_this}
use Rattle.explain.proofs.sought.first_before.Goals as goal

pub lines-preserved : goal.lines-preserved
lines-preserved c =
    let other : is_sought c.args.sought.now c.in-Some.first.now ≡ false = sym c.is_sought.ensures ∙ c.if-is_sought.false in
    record {
      is_text = search rules;
      so_far = sym (not_this (λ t. is_sought c.args.sought.now t) c.args.before c.lines.line c.in-Some.first.now (lines_of c.lines.rest.now) (lines_of c.in-Some.behind.now) c.lines-test.true c.in-Some.ensures.parts other) ∙ c.lines.invariant.so_far;
    }

pub returns : goal.returns
returns c = sym (none_left (λ t. is_sought c.args.sought.now t) c.args.before c.lines.line (lines_of c.lines.rest.now) c.lines-test.false) ∙ c.lines.invariant.so_far
