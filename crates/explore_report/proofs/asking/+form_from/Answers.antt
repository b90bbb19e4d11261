use Rattle.std.proofs.Common.{◌≡◌, ◌∙◌, ap, sym, subst, map, rules, Bool, List, ℕ, Option, Some, None}
use Rattle.std.specs.Prelude.{if◌then◌else◌}
use Rattle.std.specs.Result.{IfOk}
use Rattle.explore_report.specs.Asked.{asked_after, asked_by, choice_of, choices_of, Choices}
use Rattle.explore_report.proofs.Loops.{options_more}
use Rattle.explore_report.proofs.asking.+form_from.Goals as goal

pub returns-then-branch : goal.returns-then-branch
returns-then-branch t c =
    let adds = c.in_ok-add.ensures ∙ ap (λ (b : Bool). if b then Some (choices_of c.add.new.self) else None) c.if-branch.true in
    let more = options_more c.args.most (choices_of c.args.options) (choices_of c.add.new.self) (map (λ w. w.now) c.args.words.now) (map (λ w. w.now) c.in-Some.rest.now) (choice_of c.in-Some.flag) (search rules) (sym c.in-Some.ensures) adds in
    subst (λ (z : Option (Choices × List (List ℕ))). IfOk c.form_from.result (λ form. asked_by form ≡ asked_after z)) (sym more) c.form_from.ensures
