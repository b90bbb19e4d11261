use Rattle.std.proofs.Common.{◌≡◌, length, refl, sym, ap, ◌∙◌, arith}
use Rattle.std.proofs.Math.ListN.{length-set}
use Rattle.std.proofs.lemmas.List.{get_or_read_under}
use Rattle.std.specs.Prelude.{slice_set}
use Rattle.facts.specs.Facts.{thread_of}
use Rattle.verdict.specs.Judges.{begun_next, freed_next}
use Rattle.verdict.specs.Stages.{next}
use Rattle.verdict.proofs.Chances.{begun_length, freed_length}
use Rattle.certificates.specs.declared.phase.Phase.TheVariants.{Resting}
use Rattle.certificates.specs.Phases.{stage_of}
use Rattle.certificates.specs.States.{phase_at}
use Rattle.certificates.proofs.state.State.accept.Goals as goal

pub returns-clause-moves : goal.returns-clause-moves
returns-clause-moves c =
    let xs = c.args.self.now.phases.items in
    let f = c.args.fact.now in
    let by : c.from-by.result ≡ thread_of f = c.from-by.ensures ∙ c.get.ensures.value ∙ c.thread.ensures in
    let was = get_or_read_under xs c.from-by.result (length xs) c.index.result.now Resting c.index.ensures (omega arith) refl ∙ ap (phase_at xs) by in
    record {
      after = c.in_ok-after.after;
      goes = c.in_ok-after.ensures.1 ∙ ap (λ p. next (stage_of p) f) was;
      phases = ap (λ k. slice_set xs k c.in_ok-after.after) by;
      objects = c.in_ok-change.ensures.moved;
      many = c.in_ok-change.ensures.objects;
      doomed = refl;
      lines = c.in_ok-line.ensures.1;
      begun = c.note_begin.ensures ∙ ap (λ i. begun_next c.args.self.now.begun.items i f) c.in_ok-line.ensures.1;
      freed = c.note_freeing.ensures ∙ ap (λ i. freed_next c.args.self.now.freed.items i f) c.in_ok-line.ensures.1;
    }

pub returns-clause-sound : goal.returns-clause-sound
returns-clause-sound c =
    let sound = c.requires in
    let phases = length-set c.args.self.now.phases.items c.from-by.result c.in_ok-after.after in
    record {
      each_held = c.change.ensures.held ∙ sound.each_held ∙ sym phases;
      each_doom = sound.each_doom ∙ sym phases;
      each_begun = ap length c.note_begin.ensures ∙ begun_length _ _ _ ∙ sound.each_begun ∙ sym phases;
      each_freed = ap length c.note_freeing.ensures ∙ freed_length _ _ _ ∙ sound.each_freed ∙ sym c.change.ensures.objects;
      counted = c.change.ensures.counted;
    }
