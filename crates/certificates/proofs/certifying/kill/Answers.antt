use Rattle.std.proofs.Common.{◌≡◌, false, ap, ◌∙◌}
use Rattle.std.specs.Prelude.{slice_set}
use Rattle.certificates.proofs.certifying.kill.Goals as goal

pub returns-clause-moves : goal.returns-clause-moves
returns-clause-moves c =
    let m = c.in_ok-accept.ensures.moves in
    let by : c.from-by.result ≡ c.args.thread = c.from-by.ensures ∙ c.get.ensures.value in
    record {
      after = m.after;
      goes = m.goes;
      phases = m.phases;
      objects = m.objects;
      many = m.many;
      lines = m.lines;
      begun = m.begun;
      freed = m.freed;
      doomed = ap (λ ds. slice_set ds c.from-by.result false) m.doomed ∙ ap (λ k. slice_set c.args.state.now.doomed.items k false) by;
    }
