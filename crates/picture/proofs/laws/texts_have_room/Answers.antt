use Rattle.picture.proofs.Room.{have_room}
use Rattle.picture.proofs.laws.texts_have_room.Goals as goal

pub returns : goal.returns
returns c = have_room
