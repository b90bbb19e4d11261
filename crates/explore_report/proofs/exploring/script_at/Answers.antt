use Rattle.std.proofs.Common.{◌∙◌, ap, refl, sym, subst, List, ℕ}
use Rattle.explore_report.specs.Replays.{Came}
use Rattle.explore_report.specs.Witnesses.{script_text}
use Rattle.explore_report.proofs.Played.{has_another, has_long, has_script, item_at}
use Rattle.explore_report.proofs.exploring.script_at.Goals as goal

pub returns-in-Ok-Same-clause-script : goal.returns-in-Ok-Same-clause-script
returns-in-Ok-Same-clause-script c =
    let found = c.in-Some.ensures.lookup in
    has_script c.args.script.now _ c.args.number c.in-Some.witnessed.now.now c.in-Ok.text.items
    (item_at c.args.outcomes.now c.saturating_sub.result _ c.in-Some.witnessed.now (sym c.saturating_sub.ensures) found.3.0 found.1)
    (c.in-Ok.ensures ∙ ap (script_text c.args.script.now) c.deref.ensures.value)
    (subst (λ (t : List ℕ). Came t c.in-Some.witnessed.now.now.outcome c.in-Ok-Same.field-0) c.deref-2.ensures.value c.in-Ok-Same.ensures) c.in-Ok-Same.field-0-is

pub returns-in-Ok-TooLong-clause-fails : goal.returns-in-Ok-TooLong-clause-fails
returns-in-Ok-TooLong-clause-fails c =
    let found = c.in-Some.ensures.lookup in (
      refl,
      has_long c.args.script.now _ c.args.number c.in-Some.witnessed.now.now c.in-Ok.text.items
          (item_at c.args.outcomes.now c.saturating_sub.result _ c.in-Some.witnessed.now (sym c.saturating_sub.ensures) found.3.0 found.1)
          (c.in-Ok.ensures ∙ ap (script_text c.args.script.now) c.deref.ensures.value)
          (subst (λ (t : List ℕ). Came t c.in-Some.witnessed.now.now.outcome c.in-Ok-TooLong.field-0) c.deref-2.ensures.value c.in-Ok-TooLong.ensures) c.in-Ok-TooLong.field-0-is,
    )

pub returns-in-Ok-Other-clause-fails : goal.returns-in-Ok-Other-clause-fails
returns-in-Ok-Other-clause-fails c =
    let found = c.in-Some.ensures.lookup in (
      refl,
      has_another c.args.script.now _ c.args.number c.in-Some.witnessed.now.now c.in-Ok.text.items
          (item_at c.args.outcomes.now c.saturating_sub.result _ c.in-Some.witnessed.now (sym c.saturating_sub.ensures) found.3.0 found.1)
          (c.in-Ok.ensures ∙ ap (script_text c.args.script.now) c.deref.ensures.value)
          (subst (λ (t : List ℕ). Came t c.in-Some.witnessed.now.now.outcome c.in-Ok-Other.field-0) c.deref-2.ensures.value c.in-Ok-Other.ensures) c.in-Ok-Other.field-0-is,
    )
