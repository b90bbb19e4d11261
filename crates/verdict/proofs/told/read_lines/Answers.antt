use Rattle.std.proofs.Common.{◌≡◌, ℕ, inr, ◌+◌, List, [], ◌∷◌, length, reverse, Ok, Err, inl, sym, ap, subst, ◌∙◌, arith, rules}
use Rattle.std.proofs.lemmas.List.Elements.{All-push}
use Rattle.std.proofs.lemmas.List.{length-append, length-reverse}
use Rattle.std.specs.Prelude.{All}
use Rattle.facts.specs.declared.fact.Line.{Line}
use Rattle.verdict.specs.Judges.{IsRead}
use Rattle.lines.specs.Lines.{lines_of}
use Rattle.verdict.specs.declared.fault.Fault.TheVariants.{OutOfMemory}
use Rattle.verdict.specs.declared.fault.TraceFault.{TraceFault}
use Rattle.verdict.specs.Reading.{fault_at, lines_read}
use Rattle.verdict.specs.Told.{IsOf, IsTelling}
use Rattle.verdict.proofs.Lines.{stops, goes_end, ended_empty, ended_ill, is_empty, is_some, runs_out}
use Rattle.verdict.proofs.Collecting.{keeps, wants}
use Rattle.verdict.proofs.told.read_lines.Goals as goal

pub returns-in-Err-clause-gives : goal.returns-in-Err-clause-gives
returns-in-Err-clause-gives c = inl (stops c.loop-first.line c.args.head (reverse c.loop-first.lines.items) c.in-Err.fault c.in-Some.first.now c.loop-first.rest.now c.in-Some.after.now _ c.in-Some.ensures.parts (sym c.in-Err.ensures.value) c.loop-first.invariant.so_far)

pub returns-then-is_empty-clause-gives : goal.returns-then-is_empty-clause-gives
returns-then-is_empty-clause-gives c =
    let empty = is_empty c.in-Some.after.now c.if-is_empty.ensures in
    goes_end c.loop-first.line c.args.head (reverse c.loop-first.lines.items) c.in-End.last c.in-Some.first.now c.loop-first.rest.now c.in-Some.after.now _ c.in-Some.ensures.parts (sym c.in-Ok.ensures.value ∙ ap Ok c.in-End.is) c.loop-first.invariant.so_far
    ∙ ended_empty (c.loop-first.line + 1) c.args.head (reverse c.loop-first.lines.items) c.in-End.last c.in-Some.after.now empty

pub returns-in-End-clause-gives : goal.returns-in-End-clause-gives
returns-in-End-clause-gives c =
    inl (goes_end c.loop-first.line c.args.head (reverse c.loop-first.lines.items) c.in-End.last c.in-Some.first.now c.loop-first.rest.now c.in-Some.after.now _ c.in-Some.ensures.parts (sym c.in-Ok.ensures.value ∙ ap Ok c.in-End.is) c.loop-first.invariant.so_far
    ∙ ended_ill (c.loop-first.line + 1) c.args.head (reverse c.loop-first.lines.items) c.in-End.last c.in-Some.after.now (is_some c.in-Some.after.now c.if-is_empty.ensures))

pub returns-in-Err-keep-clause-gives : goal.returns-in-Err-keep-clause-gives
returns-in-Err-keep-clause-gives c =
    let i = c.loop-first.invariant in
    let kept = c.loop-first.lines.items in
    let wanted : c.in-Err-keep.wanted ≡ fault_at c.loop-first.line OutOfMemory = c.in-Err-keep.ensures.wanted in
    let count : c.loop-first.line ≡ length (reverse kept) + 2 = omega (arith, i.count, length-reverse kept) in
    let telling = wants c.loop-first.line c.args.head (reverse kept) c.in-Told.entry c.in-Some.first.now c.loop-first.rest.now c.in-Some.after.now (lines_read 2 c.args.head [] (lines_of c.args.text.now)) count c.in-Some.ensures.parts (sym c.in-Ok.ensures.value ∙ ap Ok c.in-Told.is) i.so_far in
    inr (ap (λ (e : TraceFault). e.fault) wanted, subst (λ (n : ℕ). IsTelling n (lines_read 2 c.args.head [] (lines_of c.args.text.now))) (sym (ap (λ (e : TraceFault). e.line) wanted)) telling)

pub loop-first-preserved : goal.loop-first-preserved
loop-first-preserved c =
    let i = c.loop-first.invariant in
    let line : IsRead c.args.head c.in-Ok.read = c.in-Ok.ensures.range in
    let one : IsOf c.args.head c.in-Told.entry = subst (λ r. IsRead c.args.head r) c.in-Told.is line in
    record {
      is_text = search rules;
      room = omega (arith, i.room, c.in-Some.ensures.shorter);
      count = omega (arith, i.count, ap length c.in_default-keep.ensures.kept, length-append c.loop-first.lines.items (c.in-Told.entry ∷ []));
      so_far = keeps c.loop-first.line c.args.head c.loop-first.lines.items c.keep.new.lines.items c.in-Told.entry c.in-Some.first.now c.loop-first.rest.now c.in-Some.after.now _ c.in-Some.ensures.parts (sym c.in-Ok.ensures.value ∙ ap Ok c.in-Told.is) c.in_default-keep.ensures.kept i.so_far;
      within = subst (λ (ls : List Line). All (IsOf c.args.head) ls) (sym c.in_default-keep.ensures.kept) (All-push (IsOf c.args.head) c.loop-first.lines.items c.in-Told.entry i.within one);
    }

pub returns-clause-gives : goal.returns-clause-gives
returns-clause-gives c = inl (runs_out c.loop-first.line c.args.head (reverse c.loop-first.lines.items) c.loop-first.rest.now _ c.in_default.ensures.parts c.loop-first.invariant.so_far ∙ ap (λ f. Err (fault_at c.loop-first.line f)) (sym c.unended_by.ensures))
