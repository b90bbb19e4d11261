use Rattle.std.proofs.Common.{◌≡◌, ◌+◌, length, Some, sym, ◌∙◌, ap, subst, arith, rules}
use Rattle.lines.specs.Lines.{words_of}
use Rattle.grammar.specs.Wrongs.{first_of, wrong_in}
use Rattle.grammar.proofs.Scanning.{at_end, cut_width, refused, taken}
use Rattle.grammar.proofs.wrong.scan.Goals as goal

pub words-preserved : goal.words-preserved
words-preserved c =
    let i = c.words.invariant in
    let n = c.in-Some-after.after in
    let w = c.in-Some.part.now in
    let more = c.in-Some.behind.now in
    let t = taken c.words.next n c.words.word c.words.start w c.words.rest.now more c.in-Some.ensures.parts (sym c.in-Some-after.ensures) in
    let at : c.words.start + length w + 1 ≡ c.words.start + (length w + 1) = omega arith in
    record {
      is_text = search rules;
      room = omega (arith, i.room, cut_width w c.words.rest.now more c.in-Some.ensures.parts);
      few = omega (arith, i.few);
      so_far = subst (λ k. wrong_in n (c.words.word + 1) k (words_of more) ≡ wrong_in (first_of c.args.kind) 0 0 (words_of c.args.text.now)) at (sym t ∙ i.so_far);
    }

pub returns-in_default-after : goal.returns-in_default-after
returns-in_default-after c =
    ap Some c.wrong_at.ensures ∙ sym (refused c.words.next c.words.word c.words.start c.in-Some.part.now c.words.rest.now c.in-Some.behind.now c.in-Some.ensures.parts (sym c.in_default-after.ensures)) ∙ c.words.invariant.so_far

pub returns : goal.returns
returns c = c.wrong_last.ensures ∙ sym (at_end c.words.next c.words.word c.words.start c.words.rest.now c.in_default.ensures.parts) ∙ c.words.invariant.so_far
