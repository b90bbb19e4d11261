use Rattle.picture.proofs.Shown.{shown}
use Rattle.picture.proofs.laws.shown_lanes_stand_in_their_columns.Goals as goal

pub returns : goal.returns
returns c = shown
