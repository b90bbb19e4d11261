use Rattle.picture.proofs.Roomy.{roomy}
use Rattle.picture.proofs.laws.pictures_have_room_for_names.Goals as goal

pub returns : goal.returns
returns c = roomy
