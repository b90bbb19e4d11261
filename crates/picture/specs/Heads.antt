-- The rows above all lanes: what is in which column.
use Rattle.std.specs.Prelude.{ℕ, ◌+◌, ◌-◌, ◌*◌, ◌/◌, ◌%◌, ◌==◌, nat_lt, min, List, [], ◌∷◌}
use Rattle.std.specs.Prelude.{◌++◌, length, codes, decimal, slice_index_or, if◌then◌else◌}
use Rattle.std.specs.Char.{encode_utf8}
use Rattle.std.specs.List.{repeat}
use Rattle.picture.specs.declared.bands.Extent.{Extent}
use Rattle.picture.specs.Bands.{mutex_at}
use Rattle.picture.specs.Layouts.{band_width, gap, is_wide, width}
use Rattle.picture.specs.Names.{Called, longest_of, most_letters, mutex_head, mutex_tail, thread_head, thread_tail}
use Rattle.picture.specs.Pieces.{each, padded}

abbrev pub band_head : Called → Extent → ℕ → List ℕ
band_head n x i = padded (band_width x) (mutex_head n (mutex_at x.bands i) ∷ mutex_tail n (mutex_at x.bands i) ∷ [])

abbrev pub band_heads : Called → Extent → List ℕ
band_heads n x = each (band_head n x) x.bands.count

-- nothing comes after the name of the last lane
abbrev pub name_width : Extent → ℕ → ℕ
name_width x lane = if lane == x.threads then 0 else width x

-- the name of the lane after i others
abbrev pub lane_head : Called → Extent → ℕ → List ℕ
lane_head n x i = padded (name_width x (i + 1)) (thread_head n (i + 1) ∷ thread_tail n (i + 1) ∷ [])

abbrev pub lane_heads : Called → Extent → List ℕ
lane_heads n x = each (lane_head n x) x.threads

-- the names of narrow lanes are written downwards: of a number a `t` or the tens above the units
abbrev pub ten_sign : ℕ → List ℕ
ten_sign lane = if nat_lt lane 10 then codes "t" else decimal (lane / 10)

abbrev pub ten : Extent → ℕ → List ℕ
ten x i = ten_sign (i + 1) ++ repeat (gap x (i + 1)) (codes " ")

abbrev pub tens : Extent → List ℕ
tens x = each (ten x) x.threads

abbrev pub unit : Extent → ℕ → List ℕ
unit x i = decimal ((i + 1) % 10) ++ repeat (gap x (i + 1)) (codes " ")

abbrev pub units : Extent → List ℕ
units x = each (unit x) x.threads

-- the next row, up to the first lane
abbrev pub next_row : Extent → List ℕ
next_row x = codes "\n" ++ repeat (8 + band_width x * x.bands.count) (codes " ")

abbrev pub numbers_down : Extent → List ℕ
numbers_down x = tens x ++ (next_row x ++ units x)

-- and of a name its letters: here letter k, or a blank after its last one
abbrev pub letter_at : List ℕ → ℕ → List ℕ
letter_at name k = if nat_lt k (length name) then encode_utf8 (slice_index_or name k 0) else codes " "

abbrev pub letter : Called → Extent → ℕ → ℕ → List ℕ
letter n x k i = letter_at (slice_index_or n.threads i []) k ++ repeat (gap x (i + 1)) (codes " ")

abbrev pub letters : Called → Extent → ℕ → List ℕ
letters n x k = each (letter n x k) x.threads

-- from the second row of letters on
abbrev pub letters_below : Called → Extent → ℕ → List ℕ
letters_below n x k = next_row x ++ letters n x (k + 1)

abbrev pub letters_down : Called → Extent → ℕ → List ℕ
letters_down n x rows = letters n x 0 ++ each (letters_below n x) rows

-- how many rows of letters are below the first: as many as the longest name has letters, less one
abbrev pub rows_of : Called → ℕ
rows_of n = min most_letters (longest_of 1 n.threads) - 1

abbrev pub narrow_heads : Called → Extent → List ℕ
narrow_heads n x = if length n.threads == 0 then numbers_down x else letters_down n x (rows_of n)

abbrev pub heads : Called → Extent → List ℕ
heads n x =
    codes " event  " ++ (band_heads n x ++ ((if is_wide x then lane_heads n x else narrow_heads n x) ++ codes "\n"))
