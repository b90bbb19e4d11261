use Rattle.std.proofs.Common.{◌≡◌, ◌+◌, ◌<◌, [], length, Ok, Err, refl, sym, ap, subst, ◌∙◌, arith, rules}
use Rattle.lines.specs.Lines.{lines_of}
use Rattle.facts.specs.Facts.{thread_of}
use Rattle.verdict.specs.Judges.{IsRead, IsMutex}
use Rattle.verdict.specs.Passes.{AnswersLines}
use Rattle.verdict.specs.Reading.{line_read, lines_read, fault_at}
use Rattle.verdict.proofs.Lines.{stops, goes_end, ended_ill, is_empty, is_some, runs_out}
use Rattle.verdict.proofs.Passing.{begins, takes_line, ends_well}
use Rattle.verdict.proofs.checking.judge_lines.Goals as goal

pub returns-in-Err : goal.returns-in-Err
returns-in-Err c =
    let i = c.loop-first.invariant in
    stops c.loop-first.line c.args.pass.judge.head i.progress.told c.in-Err.fault c.in-Some.first.now c.loop-first.rest.now c.in-Some.after.now _ c.in-Some.ensures.parts (ap (λ h. line_read h c.in-Some.first.now) (sym i.head) ∙ sym c.in-Err.ensures.value) i.progress.so_far

pub returns-then-is_empty : goal.returns-then-is_empty
returns-then-is_empty c =
    let i = c.loop-first.invariant in
    let empty : c.in-Some.after.now ≡ [] = is_empty c.in-Some.after.now c.if-is_empty.ensures in
    subst (λ v. AnswersLines (lines_read 2 c.args.pass.judge.head [] (lines_of c.args.text.now)) (Ok v)) (sym c.finding.ensures)
    (ends_well c.args.text.now c.loop-first.rest.now c.in-Some.first.now c.in-Some.after.now c.args.pass.judge.head c.loop-first.line c.in-End.last c.loop-first.pass i.progress c.in-Some.ensures.parts (sym (ap Ok c.in-End.is) ∙ c.in-Ok.ensures.value ∙ ap (λ h. line_read h c.in-Some.first.now) i.head) empty)

pub returns-in-End : goal.returns-in-End
returns-in-End c =
    let i = c.loop-first.invariant in
    goes_end c.loop-first.line c.args.pass.judge.head i.progress.told c.in-End.last c.in-Some.first.now c.loop-first.rest.now c.in-Some.after.now _ c.in-Some.ensures.parts (ap (λ h. line_read h c.in-Some.first.now) (sym i.head) ∙ sym c.in-Ok.ensures.value ∙ ap Ok c.in-End.is) i.progress.so_far
    ∙ ended_ill (c.loop-first.line + 1) c.args.pass.judge.head i.progress.told c.in-End.last c.in-Some.after.now (is_some c.in-Some.after.now c.if-is_empty.ensures)

pub loop-first-init : goal.loop-first-init
loop-first-init c =
    let fresh = c.requires.fresh in
    record {
      is_text = search rules;
      head = refl;
      sound = fresh.judge.sound;
      stages = fresh.judge.each_stage;
      objects = fresh.judge.each_object;
      room = omega arith;
      points = omega (arith, fresh.points);
      progress = begins c.args.text.now c.args.pass fresh;
    }

pub loop-first-preserved : goal.loop-first-preserved
loop-first-preserved c =
    let i = c.loop-first.invariant in
    let line : IsRead c.loop-first.pass.judge.head c.in-Ok.read = c.in-Ok.ensures.range in
    let e = c.in-Told.entry in
    let some = subst (λ r. IsRead c.loop-first.pass.judge.head r) c.in-Told.is line in
    let low : thread_of e.fact < length c.loop-first.pass.judge.stages.items = omega (arith, some.1.0, i.stages, ap (λ h. h.threads) i.head) in
    record {
      is_text = search rules;
      head = c.take.ensures.head ∙ i.head;
      sound = c.take.ensures.sound;
      stages = c.take.ensures.stages ∙ i.stages;
      objects = c.take.ensures.objects ∙ i.objects;
      room = omega (arith, i.room, c.in-Some.ensures.shorter);
      points = omega (arith, i.points, c.take.ensures.points);
      progress = takes_line c.args.text.now c.loop-first.rest.now c.in-Some.first.now c.in-Some.after.now c.args.pass.judge.head c.loop-first.line c.loop-first.pass c.take.new.self e i.progress c.in-Some.ensures.parts
          (sym (ap Ok c.in-Told.is) ∙ c.in-Ok.ensures.value ∙ ap (λ h. line_read h c.in-Some.first.now) i.head) c.take.ensures.takes i.sound i.objects some.0 low (subst (λ h. IsMutex h.mutexes e.fact) i.head some.1.1);
    }

pub returns : goal.returns
returns c =
    let i = c.loop-first.invariant in
    runs_out c.loop-first.line c.args.pass.judge.head i.progress.told c.loop-first.rest.now _ c.in_default.ensures.parts i.progress.so_far ∙ ap (λ f. Err (fault_at c.loop-first.line f)) (sym c.unended_by.ensures)
