use Rattle.std.proofs.Common.{ℕ, List, map, ap, sym, ◌∙◌, Bor}
use Rattle.explore_report.specs.Asked.{choices_of}
use Rattle.explore_report.specs.Plans.{said_by}
use Rattle.explore_report.specs.Told.{first_unknown}
use Rattle.explore_report.proofs.Reading.{unasked_by}
use Rattle.explore_report.proofs.exploring.question_of.Goals as goal

pub returns-in-Some-clause-fails : goal.returns-in-Some-clause-fails
returns-in-Some-clause-fails c = (
  said_by c.in-Ok.explored,
  c.in-Ok.ensures,
  sym (ap (λ (l : List (Bor (List ℕ))). first_unknown c.in-Ok.explored.script (map (λ w. w.now) l)) c.deref.ensures.value) ∙ sym c.in-Some.ensures,
)

pub returns-in-Err-all_demands-clause-fails : goal.returns-in-Err-all_demands-clause-fails
returns-in-Err-all_demands-clause-fails c = unasked_by c.args.bytes.now (choices_of c.args.options.now) (said_by c.in-Ok.explored) c.in-Err-all_demands.why c.in-Ok.ensures c.in-Err-all_demands.ensures
