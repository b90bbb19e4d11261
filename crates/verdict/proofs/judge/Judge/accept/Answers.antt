use Rattle.std.proofs.Common.{◌≡◌, length, refl, sym, ap, ◌∙◌, arith}
use Rattle.std.proofs.Math.ListN.{length-set}
use Rattle.std.proofs.lemmas.List.{get_or_read_under}
use Rattle.std.specs.Prelude.{slice_set}
use Rattle.verdict.specs.declared.stage.Stage.TheVariants.{Resting}
use Rattle.facts.specs.Facts.{thread_of}
use Rattle.verdict.specs.Stages.{next}
use Rattle.verdict.specs.Judges.{stage_at}
use Rattle.verdict.proofs.Chances.{begun_length, freed_length}
use Rattle.verdict.proofs.judge.Judge.accept.Goals as goal

pub returns-clause-moves : goal.returns-clause-moves
returns-clause-moves c =
    let xs = c.args.self.now.stages.items in
    let f = c.args.entry.now.fact in
    let by : c.from-by.result ≡ thread_of f = c.from-by.ensures ∙ c.get.ensures.value ∙ c.thread.ensures in
    let was = get_or_read_under xs c.from-by.result (length xs) c.index.result.now Resting c.index.ensures (omega arith) refl ∙ ap (stage_at xs) by in
    record {
      place = c.behind-self.ensures;
      stages = ap (λ k. slice_set xs k c.in_ok-stage.stage) by ∙ ap (slice_set xs (thread_of f)) (c.in_ok-stage.ensures.1 ∙ ap (λ s. next s f) was);
      objects = c.in_ok-change.ensures.moved;
      begun = c.note_begin.ensures;
      freed = c.note_freeing.ensures;
    }

pub returns-clause-sound : goal.returns-clause-sound
returns-clause-sound c =
    let sound = c.requires.sound in
    let stages = length-set c.args.self.now.stages.items c.from-by.result c.in_ok-stage.stage in
    record {
      few = omega (arith, sound.few, c.change.ensures.objects);
      each_held = c.change.ensures.held ∙ sound.each_held ∙ sym stages;
      each_begun = ap length c.note_begin.ensures ∙ begun_length _ _ _ ∙ sound.each_begun ∙ sym stages;
      each_freed = ap length c.note_freeing.ensures ∙ freed_length _ _ _ ∙ sound.each_freed ∙ sym c.change.ensures.objects;
      counted = c.change.ensures.counted;
    }
