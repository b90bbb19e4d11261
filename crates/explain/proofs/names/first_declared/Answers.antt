use Rattle.std.proofs.Common.{◌≡◌, false, true, sym, ap, ◌∙◌}
use Rattle.std.specs.Prelude.{codes}
use Rattle.std.specs.Str.{bytes_eq}
use Rattle.lines.specs.Lines.{words_of}
use Rattle.explain.specs.Advised.{first_earlier}
use Rattle.explain.specs.Sought.{count_of, declares, is_clashing}
use Rattle.explain.specs.Stray.{word_of}
use Rattle.explain.proofs.Declared.{of_one, of_several}
use Rattle.explain.proofs.names.first_declared.Goals as goal

pub returns-then-eq : goal.returns-then-eq
returns-then-eq c =
    let text = c.args.text.now in
    let n = c.args.number in
    let ws = words_of c.args.line.now in
    let is : bytes_eq (word_of ws 0) (codes "mutexes") ≡ true = sym (c.if-eq.ensures ∙ ap (λ w. bytes_eq w (codes "mutexes")) c.word_of.ensures) in
    let count = c.count_of-count.ensures ∙ ap count_of c.word_of-then-eq.ensures in
    of_several text n ws c.args.things c.first_before.result is
    (c.first_before.ensures ∙ ap (λ w. first_earlier text n (λ t. is_clashing (words_of t) w c.count_of-count.result)) c.word_of-name.ensures ∙ ap (λ k. first_earlier text n (λ t. is_clashing (words_of t) (word_of ws 1) k)) count)

pub returns : goal.returns
returns c =
    let text = c.args.text.now in
    let n = c.args.number in
    let ws = words_of c.args.line.now in
    let is : bytes_eq (word_of ws 0) (codes "mutexes") ≡ false = sym (c.if-eq.ensures ∙ ap (λ w. bytes_eq w (codes "mutexes")) c.word_of.ensures) in
    of_one text n ws c.args.things c.first_before-2.result is (c.first_before-2.ensures ∙ ap (λ w. first_earlier text n (λ t. declares (words_of t) c.args.things w)) c.word_of-name.ensures)
