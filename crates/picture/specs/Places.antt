-- Where things are in an SVG picture, in its pixels.
use Rattle.std.specs.Prelude.{ℕ, ◌+◌, ◌-◌, ◌*◌, ◌/◌, nat_le, max, if◌then◌else◌}
use Rattle.picture.specs.declared.bands.Extent.{Extent}

-- how much room the words of any line take, and a blank after them: 260 pixels, and more where names are long
abbrev pub words_room : Extent → ℕ
words_room x = 220 + 8 * max 5 x.letters

-- how much room a name takes, of 8 pixels for a letter
abbrev pub name_room : Extent → ℕ
name_room x = 8 * x.letters + 8

-- how far a lane is from the next one: the more lanes, the nearer; up to five have room for the words of each line, all
-- of them for their names
abbrev pub apart : Extent → ℕ
apart x =
    if nat_le x.threads 5
    then words_room x
    else max (if nat_le x.threads 8 then 120 else (if nat_le x.threads 16 then 60 else 30)) (name_room x)

-- how far lane u is from lane 1
abbrev pub along : Extent → ℕ → ℕ
along x u = apart x * (u - 1)

-- how far a band is from the next one: it has room for a name
abbrev pub band_apart : Extent → ℕ
band_apart x = max 26 (name_room x)

-- how wide a band is, and where its middle is
abbrev pub band_wide : Extent → ℕ
band_wide x = band_apart x - 4

abbrev pub band_middle : Extent → ℕ
band_middle x = band_wide x / 2

-- the left end of a band
abbrev pub band_x : Extent → ℕ → ℕ
band_x x i = 64 + band_apart x * i

-- the middle of a lane, the first being number 1
abbrev pub lane_x : Extent → ℕ → ℕ
lane_x x u = band_x x x.bands.count + 20 + along x u

-- where the words of a line begin, by the middle of its lane
abbrev pub words_x : ℕ → ℕ
words_x middle = middle + 10

-- where the number of an event ends
abbrev pub number_x : ℕ
number_x = 48

-- how much room there is after the middle of the last lane: enough for the words of each line
abbrev pub margin : Extent → ℕ
margin x = words_room x

-- the middle of a line's row, the first line being number 1
abbrev pub row_y : ℕ → ℕ
row_y k = 30 + 18 * k
