use Rattle.std.proofs.Common.{sym, ◌∙◌, arith, rules}
use Rattle.judge_report.proofs.Parts.{leads_on, own_on, stays}
use Rattle.judge_report.proofs.paths.next_step.Goals as goal

pub returns-then-leads : goal.returns-then-leads
returns-then-leads c =
    let i = c.parts.invariant in
    let more = c.in-Some.ensures.parts in (
      sym i.directory ∙ leads_on c.parts.rest.now c.in-Some.part.now c.in-Some.behind.now more (sym c.leads.ensures ∙ c.if-leads.true),
      sym i.own ∙ own_on c.parts.rest.now c.in-Some.part.now c.in-Some.behind.now more,
      omega (arith, i.shorter, c.in-Some.ensures.shorter),
    )

pub parts-preserved : goal.parts-preserved
parts-preserved c =
    let i = c.parts.invariant in
    let more = c.in-Some.ensures.parts in
    record {
      is_text = search rules;
      directory = sym (stays c.parts.rest.now c.in-Some.part.now c.in-Some.behind.now more (sym c.leads.ensures ∙ c.if-leads.false)) ∙ i.directory;
      own = sym (own_on c.parts.rest.now c.in-Some.part.now c.in-Some.behind.now more) ∙ i.own;
      shorter = omega (arith, i.shorter, c.in-Some.ensures.shorter);
    }
