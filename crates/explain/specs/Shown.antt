-- A line as it is shown, and its columns.
use Rattle.std.specs.Prelude.{ℕ, ◌+◌, Bool, true, false, not, ◌&&◌, ◌||◌, ◌==◌, nat_le, nat_lt, List, [], ◌∷◌, ◌++◌}
use Rattle.std.specs.Prelude.{length, take, count_by, if◌then◌else◌}
use Rattle.std.specs.Char.{encode_utf8}
use Rattle.std.specs.List.{concat, flat_map}
use Rattle.std.specs.Str.{chars}

-- how many columns of a line are shown
abbrev pub width : ℕ
width = 200

-- a character that can't be seen, or that turns others about: a control character after DEL, the marks and overrides
-- of directions, the ends of lines and paragraphs, what has no width
abbrev pub is_hidden : ℕ → Bool
is_hidden c = (nat_le 0x80 c && nat_le c 0x9f) || ((c == 0x61c) || ((nat_le 0x200b c && nat_le c 0x200f)
    || ((nat_le 0x2028 c && nat_le c 0x202e) || ((nat_le 0x2060 c && nat_le c 0x2069) || (c == 0xfeff)))))

-- a control character as the picture that Unicode has of it (U+2400 and on, U+2421), another one that can't be seen as
-- the replacement character (U+FFFD): each takes one column
abbrev pub shown_char : ℕ → List ℕ
shown_char c = if nat_lt c 32 then 226 ∷ 144 ∷ (128 + c) ∷ []
    else (if c == 127 then 226 ∷ 144 ∷ 161 ∷ [] else (if is_hidden c then 239 ∷ 191 ∷ 189 ∷ [] else encode_utf8 c))

-- an ellipsis (U+2026), after a line that is longer
abbrev pub cut_mark : Bool → List ℕ
cut_mark true = concat ((226 ∷ 128 ∷ 166 ∷ []) ∷ [])
cut_mark false = []

unfoldable pub shown : List ℕ → List ℕ
shown line = flat_map shown_char (take width (chars line)) ++ cut_mark (nat_lt width (length (chars line)))

-- a byte with which a character begins: UTF-8 has the others from 128 to 191
abbrev pub begins_character : ℕ → Bool
begins_character b = not (nat_le 128 b && nat_lt b 192)

-- how many columns these bytes take
abbrev pub columns : List ℕ → ℕ
columns bs = count_by begins_character bs
