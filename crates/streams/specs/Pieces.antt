-- A text in pieces.
use Rattle.std.specs.Prelude.{ℕ, List, map, decimal}
use Rattle.std.specs.List.{concat}
use Rattle.streams.specs.declared.pieces.Piece.{Piece}
use Rattle.streams.specs.declared.pieces.Piece.TheVariants.{Word, Number}

-- a word as it is, a number in decimal digits
abbrev pub piece_text : Piece → List ℕ
piece_text (Word w) = w.now
piece_text (Number n) = decimal n

-- one after the other
abbrev pub pieces_text : List Piece → List ℕ
pieces_text pieces = concat (map piece_text pieces)
