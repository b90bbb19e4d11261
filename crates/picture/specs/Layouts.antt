-- How much room a picture in text has: about a hundred columns, and more where names are long.
use Rattle.std.specs.Prelude.{ℕ, ◌+◌, ◌-◌, ◌==◌, nat_le, max, Bool, if◌then◌else◌}
use Rattle.picture.specs.declared.bands.Extent.{Extent}

-- whether lanes are wide enough for the words of their lines
abbrev pub is_wide : Extent → Bool
is_wide x = nat_le x.threads 8

-- how many columns a lane takes, where names are short
abbrev pub plain_width : ℕ → ℕ
plain_width threads = if nat_le threads 3 then 24
    else (if threads == 4 then 18
    else (if threads == 5 then 14
    else (if threads == 6 then 12
    else (if nat_le threads 8 then 11
    else (if nat_le threads 16 then 4
    else (if nat_le threads 32 then 2 else 1))))))

-- how many columns a lane takes: one that has room for words has room for a sign, `to NAME` beside it and a blank
abbrev pub width : Extent → ℕ
width x = if is_wide x then max (plain_width x.threads) (x.letters + 6) else plain_width x.threads

-- how many columns a band takes: it has room for a name, a mark and a blank
abbrev pub band_width : Extent → ℕ
band_width x = max 5 (x.letters + 2)

-- how many bands there is room for
abbrev pub band_room : ℕ → ℕ
band_room threads = if nat_le threads 2 then 8 else (if threads == 8 then 2 else 4)

-- how many columns stand between the sign of a lane and the next lane
abbrev pub gap : Extent → ℕ → ℕ
gap x lane = if lane == x.threads then 0 else width x - 1
