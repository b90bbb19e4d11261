use Rattle.std.proofs.Common.{◌-◌, ◌++◌, map, take, ap, ◌∙◌, rules}
use Rattle.lines.specs.Lines.{lines_of}
use Rattle.explain.specs.Advised.{listed, names_in}
use Rattle.explain.proofs.Declared.{last_of_all, no_more, one_more}
use Rattle.explain.proofs.names.names_before.Goals as goal

pub lines-init : goal.lines-init
lines-init c = record {
  is_text = search rules;
  so_far = ap (λ ns. map (λ w. w.now) ns ++ names_in c.args.things (take (c.args.before - 1) (lines_of c.args.text.now))) c.new-names.ensures.items;
}

pub returns-in_default : goal.returns-in_default
returns-in_default c =
    let kept = map (λ w. w.now) c.lines.names.items in
    last_of_all c.args.things c.args.before c.lines.line c.lines.rest.now (lines_of c.lines.rest.now) kept _ _ c.lines-test.true c.in_default.ensures.parts
    (c.in_ok-keep.ensures ∙ ap (λ o. kept ++ listed o) c.single_name.ensures) c.lines.invariant.so_far

pub lines-preserved : goal.lines-preserved
lines-preserved c =
    let kept = map (λ w. w.now) c.lines.names.items in
    record {
      is_text = search rules;
      so_far = one_more c.args.things c.args.before c.lines.line c.in-Some.first.now (lines_of c.lines.rest.now) (lines_of c.in-Some.behind.now) kept _ _ c.lines-test.true c.in-Some.ensures.parts
          (c.in_ok-keep-2.ensures ∙ ap (λ o. kept ++ listed o) c.single_name-in-lines.ensures) c.lines.invariant.so_far;
    }

pub returns : goal.returns
returns c = no_more c.args.things c.args.before c.lines.line (lines_of c.lines.rest.now) _ _ c.lines-test.false c.lines.invariant.so_far
