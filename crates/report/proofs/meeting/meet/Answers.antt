use Rattle.std.proofs.Common.{◌≡◌, List, All, map, sym, ap, ◌∙◌, subst}
use Rattle.ruledwords.specs.declared.pass.Words.{Words}
use Rattle.ruledwords.specs.Meetings.{IsEitherOf, HaveMet}
use Rattle.report.specs.declared.threads.Worker.{Worker}
use Rattle.report.proofs.AllMeet.{eithers_are, met_if}
use Rattle.report.proofs.meeting.meet.Goals as goal

pub meet_all-requires : goal.meet_all-requires
meet_all-requires c =
    let passes = c.in_ok-passes.passes.items in
    subst (λ (w : Words). All (IsEitherOf w) passes) (sym c.words.ensures) (eithers_are c.args.bench.now c.args.workers.items passes c.requires c.in_ok-passes.ensures)

pub returns : goal.returns
returns c =
    let us : List Worker = c.args.workers.items in
    let passes = c.in_ok-passes.passes.items in
    let met = subst (λ (w : Words). HaveMet w passes c.in_ok-met.met.items) c.words.ensures c.in_ok-met.ensures in
    let numbers : c.as_slice-2.result.now ≡ map (λ v. v.die) us = c.as_slice-2.ensures.value ∙ c.in_ok-dies.ensures ∙ ap (λ (vs : List Worker). map (λ v. v.die) vs) c.as_slice.ensures.value in
    met_if c.args.bench.now us passes c.in_ok-met.met.items c.as_slice-2.result.now c.workers_with.result c.requires c.in_ok-passes.ensures met numbers c.workers_with.ensures.passes c.workers_with.ensures.numbers
