use Rattle.std.proofs.Common.{◌≡◌, ◌+◌, ◌++◌, ℕ, List, length, ap, sym, ◌∙◌, arith, length-append}
use Rattle.std.specs.Prelude.{codes, decimal}
use Rattle.picture.proofs.svg.line_note_length.Goals as goal

-- the words around the line's number
words_around : (digits : List ℕ) → length (codes "line " ++ (digits ++ codes " doesn't fit those before it")) ≡ length digits + 33
words_around digits = let whole = length-append digits (codes " doesn't fit those before it") in omega (arith, whole)

pub returns : goal.returns
returns c = ap (λ l. length l + 33) c.format.ensures.text ∙ sym (words_around (decimal c.args.line))
