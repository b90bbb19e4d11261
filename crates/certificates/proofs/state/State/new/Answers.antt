use Rattle.std.proofs.Common.{refl, sym, ◌∙◌}
use Rattle.verdict.proofs.Owners.{none_counted}
use Rattle.certificates.proofs.state.State.new.Goals as goal

pub returns : goal.returns
returns c =
    let phases = c.in_ok-phases.ensures in
    let held = c.in_ok-held.ensures in
    let doomed = c.in_ok-doomed.ensures in
    let objects = c.in_ok-objects.ensures in
    let begun = c.in_ok-begun.ensures in
    let freed = c.in_ok-freed.ensures in
    record {
      phases = phases.each;
      objects = objects.each;
      doomed = doomed.each;
      many = objects.count;
      lines = refl;
      begun = begun.each;
      freed = freed.each;
      sound = record {
        each_held = held.count ∙ sym phases.count;
        each_doom = doomed.count ∙ sym phases.count;
        each_begun = begun.count ∙ sym phases.count;
        each_freed = freed.count ∙ sym objects.count;
        counted = none_counted _ _ held.each objects.each;
      };
    }
