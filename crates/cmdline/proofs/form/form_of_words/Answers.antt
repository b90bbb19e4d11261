use Rattle.std.proofs.Common.{sym, ap, subst, inl, inr, map, true, ◌≡◌, ◌∙◌}
use Rattle.cmdline.specs.Said.{Said, seen, in_order}
use Rattle.cmdline.proofs.Found.{is_seen, some_same}
use Rattle.cmdline.proofs.Ordered.{order_asks}
use Rattle.cmdline.proofs.Taken.{forms_found}
use Rattle.cmdline.proofs.form.form_of_words.Goals as goal

pub returns-in_default : goal.returns-in_default
returns-in_default c = elim (forms_found (map (λ w. w.now) c.args.words.now)) [
  | inl is ↦ sym is
  | inr (s, it) ↦ let there = is_seen seen c.in_ok-found.field-0 s (c.in_ok-found.ensures s it.taken it.said) in absurd (c.in_default.not-Some there.0 there.1)
]

pub returns-then-are_in_order : goal.returns-then-are_in_order
returns-then-are_in_order c =
    let words = map (λ w. w.now) c.args.words.now in
    c.form_of.ensures ∙ sym (order_asks words (seen c.in-Some.found) (sym c.are_in_order.ensures ∙ c.if-are_in_order.true))

pub returns-else-are_in_order : goal.returns-else-are_in_order
returns-else-are_in_order c =
    let words = map (λ w. w.now) c.args.words.now in
    elim (forms_found words) [
      | inl is ↦ sym is
      | inr (s, it) ↦
          let said = c.in_ok-found.ensures s it.taken it.said in
          let there = is_seen seen c.in_ok-found.field-0 s said in
          let same : seen c.in-Some.found ≡ s = ap seen (some_same c.in-Some.found there.0 (sym c.in-Some.is ∙ there.1)) ∙ there.2 in
          let ordered : in_order words (seen c.in-Some.found) ≡ true = subst (λ (z : Said). in_order words z ≡ true) (sym same) it.ordered in
          absurd cc
    ]
