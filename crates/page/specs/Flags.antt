-- What a page says is so or isn't.
--
-- *True and false.* The page's script takes the number 0 for false, and any other for true (ECMAScript, ToBoolean).
use Rattle.std.specs.Prelude.{ℕ, ◌≡◌, ◌==◌, ◌&&◌, Bool, not, List, length, slice_index_or}
use Rattle.page.specs.Texts.{flag}

abbrev pub is_zero : List ℕ → Bool
is_zero text = length text == 1 && slice_index_or text 0 0 == 48

abbrev pub FlagsAreRead : Type 0
FlagsAreRead = (so : Bool) → is_zero (flag so) ≡ not so
