use Rattle.std.proofs.Common.{sym, ap, ◌∙◌}
use Rattle.std.proofs.lemmas.List.{at_drop_all}
use Rattle.lines.specs.Lines.{words_of}
use Rattle.explain.specs.Advised.{first_undeclared, word_at}
use Rattle.explain.specs.Roles.{uses_of}
use Rattle.explain.specs.Stray.{word_of}
use Rattle.explain.proofs.Declared.{other_use, tells_twice, tells_undeclared, this_use}
use Rattle.explain.proofs.names.unknown_name.Goals as goal

pub returns-then-is_undeclared : goal.returns-then-is_undeclared
returns-then-is_undeclared c =
    let text = c.args.text.now in
    let n = c.args.number in
    let us = c.uses_of-uses.result.now in
    let first = c.word_of.ensures ∙ ap (λ l. word_of (words_of l) 0) c.line_of-line.ensures in
    let third = c.word_of-2.ensures ∙ ap (λ l. word_of (words_of l) 2) c.line_of-line.ensures in
    let is = c.uses_of-uses.ensures ∙ ap (λ w. uses_of w c.word_of-2.result.now) first ∙ ap (λ w. uses_of (word_at text n 0) w) third in
    tells_undeclared text n us _ c.undeclared.result is (this_use text n us c.loop-used.used-index _ _ c.loop-used-test.true (sym c.is_undeclared.ensures ∙ c.if-is_undeclared.true) c.loop-used.invariant) c.undeclared.ensures

pub loop-used-preserved : goal.loop-used-preserved
loop-used-preserved c = other_use c.args.text.now c.args.number c.uses_of-uses.result.now c.loop-used.used-index _ _ c.loop-used-test.true (sym c.is_undeclared.ensures ∙ c.if-is_undeclared.false) c.loop-used.invariant

pub returns : goal.returns
returns c =
    let text = c.args.text.now in
    let n = c.args.number in
    let us = c.uses_of-uses.result.now in
    let first = c.word_of.ensures ∙ ap (λ l. word_of (words_of l) 0) c.line_of-line.ensures in
    let third = c.word_of-2.ensures ∙ ap (λ l. word_of (words_of l) 2) c.line_of-line.ensures in
    let is = c.uses_of-uses.ensures ∙ ap (λ w. uses_of w c.word_of-2.result.now) first ∙ ap (λ w. uses_of (word_at text n 0) w) third in
    tells_twice text n us c.declared_twice.result is (sym c.loop-used.invariant ∙ at_drop_all (first_undeclared text n) us c.loop-used.used-index c.loop-used-test.false) c.declared_twice.ensures
