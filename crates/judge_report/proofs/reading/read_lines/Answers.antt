use Rattle.std.proofs.Common.{true, false, Ok, Err, refl, sym, ap, subst, ◌∙◌}
use Rattle.histories.specs.Reading.{IsHead}
use Rattle.histories.specs.declared.fault.Fault.{Fault}
use Rattle.judge_report.specs.declared.reading.ReadFault.TheVariants.{Ill}
use Rattle.judge_report.specs.Heard.{Heard, fault_at, heard_of, unended}
use Rattle.judge_report.proofs.Lines.{at_first, ends_ill, ends_well, goes_further, known, runs_out, seen_so, stops}
use Rattle.judge_report.proofs.reading.read_lines.Goals as goal

pub loop-number-init : goal.loop-number-init
loop-number-init g c = record {
  same = at_first _ c.args.head (heard_of c.new-history.result) c.new-history.ensures;
  head = subst IsHead (sym (ap (λ (k : Heard). k.head) c.new-history.ensures)) c.requires;
}

pub returns-then-not-whole-clause-gives : goal.returns-then-not-whole-clause-gives
returns-then-not-whole-clause-gives g c =
    runs_out _ _ (g.R.Read.remaining c.next_line.new.input) c.args.head c.loop-number.number (heard_of c.loop-number.history) _ c.ill.result c.loop-number.invariant.same (known _ _ _ false _ c.if-not-whole.true c.in-Ok.ensures.cuts)
    (c.ill.ensures ∙ ap (λ (f : Fault). Ill (fault_at c.loop-number.number f)) (c.unended.ensures ∙ ap unended c.deref.ensures.value))

pub take-requires : goal.take-requires
take-requires g c = c.loop-number.invariant.head

pub returns-in-Err-take-clause-gives : goal.returns-in-Err-take-clause-gives
returns-in-Err-take-clause-gives g c =
    stops _ _ _ c.args.head c.loop-number.number (heard_of c.loop-number.history) (heard_of c.take.new.self) _ c.in-Err-take.failure c.loop-number.invariant.same (known _ _ _ true _ c.if-not-whole.false c.in-Ok.ensures.cuts)
    (seen_so (heard_of c.loop-number.history) (heard_of c.take.new.self) c.loop-number.number _ _ (Err c.in-Err-take.failure) (Err c.in-Err-take.failure) c.deref-in-loop-number.ensures.value refl c.in-Err-take.ensures.takes)

pub returns-in-Ok-close-clause-gives : goal.returns-in-Ok-close-clause-gives
returns-in-Ok-close-clause-gives g c =
    ends_well _ _ _ c.args.head c.loop-number.number (heard_of c.loop-number.history) c.take.new.self _ c.loop-number.invariant.same (known _ _ _ true _ c.if-not-whole.false c.in-Ok.ensures.cuts)
    (seen_so (heard_of c.loop-number.history) (heard_of c.take.new.self) c.loop-number.number _ _ (Ok c.in-Ok-take.ends) (Ok true) c.deref-in-loop-number.ensures.value (ap Ok c.if-ends.true) c.in-Ok-take.ensures.takes) c.in-Ok-close.ensures

pub returns-in-Ok-close-clause-head : goal.returns-in-Ok-close-clause-head
returns-in-Ok-close-clause-head g c = subst IsHead (sym c.take.ensures.head) c.loop-number.invariant.head

pub returns-in-Err-close-clause-gives : goal.returns-in-Err-close-clause-gives
returns-in-Err-close-clause-gives g c =
    ends_ill _ _ _ c.args.head c.loop-number.number (heard_of c.loop-number.history) (heard_of c.take.new.self) _ c.in-Err-close.failure c.loop-number.invariant.same (known _ _ _ true _ c.if-not-whole.false c.in-Ok.ensures.cuts)
    (seen_so (heard_of c.loop-number.history) (heard_of c.take.new.self) c.loop-number.number _ _ (Ok c.in-Ok-take.ends) (Ok true) c.deref-in-loop-number.ensures.value (ap Ok c.if-ends.true) c.in-Ok-take.ensures.takes) c.in-Err-close.ensures

pub loop-number-preserved : goal.loop-number-preserved
loop-number-preserved g c = record {
  same = goes_further _ _ _ c.args.head c.loop-number.number (heard_of c.loop-number.history) (heard_of c.take.new.self) _ c.loop-number.invariant.same (known _ _ _ true _ c.if-not-whole.false c.in-Ok.ensures.cuts)
      (seen_so (heard_of c.loop-number.history) (heard_of c.take.new.self) c.loop-number.number _ _ (Ok c.in-Ok-take.ends) (Ok false) c.deref-in-loop-number.ensures.value (ap Ok c.if-ends.false) c.in-Ok-take.ensures.takes);
  head = subst IsHead (sym c.take.ensures.head) c.loop-number.invariant.head;
}
