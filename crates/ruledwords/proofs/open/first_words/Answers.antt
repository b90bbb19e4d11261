use Rattle.std.proofs.Common.{rules, ◌≡◌, ℕ, ◌+◌, ◌<◌, List, get_or, sym, subst, arith}
use Rattle.ruledwords.specs.Rules.{opening_word}
use Rattle.ruledwords.proofs.Lists.{each_more}
use Rattle.ruledwords.proofs.open.first_words.Goals as goal

pub loop-place-init : goal.loop-place-init
loop-place-init c = record { count = search rules; each = λ p low. absurd (omega arith) }

pub loop-place-preserved : goal.loop-place-preserved
loop-place-preserved c = record {
  count = search rules;
  each = subst (λ (xs : List ℕ). (p : ℕ) → p < c.loop-place.place + 1 → get_or xs p 0 ≡ opening_word c.args.layout.now c.args.presets.now p) (sym c.in_ok-push.ensures.items)
      (each_more c.loop-place.words.items c.first_word.result c.loop-place.place (opening_word c.args.layout.now c.args.presets.now) c.loop-place.invariant.count c.loop-place.invariant.each c.first_word.ensures);
}

pub returns-clause-count : goal.returns-clause-count
returns-clause-count c = let a = c.loop-place.invariant.count in let b = c.loop-place-test.false in let d = c.loop-place.auto.place-end in let e = c.words-count.ensures.value in omega arith

pub returns-clause-each : goal.returns-clause-each
returns-clause-each c p low = c.loop-place.invariant.each p (let b = c.loop-place-test.false in let e = c.words-count.ensures.value in omega arith)
