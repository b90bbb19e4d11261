use Rattle.picture.proofs.Own.{marks}
use Rattle.picture.proofs.laws.marks_stand_in_their_lanes.Goals as goal

pub returns : goal.returns
returns c = marks
