-- What a page says is so or isn't is read as it is.
use Rattle.std.proofs.Common.{true, false, refl}
use Rattle.page.specs.Flags.{FlagsAreRead}

pub flags_are_read : FlagsAreRead
flags_are_read true = refl
flags_are_read false = refl
