use Rattle.std.proofs.Common.{true, sym, ap, ◌∙◌}
use Rattle.histories.specs.Reading.{head_read}
use Rattle.judge_report.proofs.Lines.{begins_ill, begins_well, known}
use Rattle.judge_report.proofs.reading.read_head.Goals as goal

pub returns-in-Ok-head_of-clause-begins : goal.returns-in-Ok-head_of-clause-begins
returns-in-Ok-head_of-clause-begins g c =
    begins_well _ _ _ c.in-Ok-head_of.head (known _ _ _ true _ c.if-not-whole.false c.in-Ok.ensures.cuts) (ap head_read (sym c.deref-2.ensures.value) ∙ sym c.in-Ok-head_of.ensures.value)

pub returns-clause-begins : goal.returns-clause-begins
returns-clause-begins g c =
    begins_ill _ _ _ c.in-Err-head_of.fault c.ill-in-Err-head_of.result (known _ _ _ true _ c.if-not-whole.false c.in-Ok.ensures.cuts) (ap head_read (sym c.deref-2.ensures.value) ∙ sym c.in-Err-head_of.ensures.value) c.ill-in-Err-head_of.ensures
