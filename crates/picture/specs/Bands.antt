-- Which mutexes have bands: all of them, or where there are more than fit those that the trace uses first.
--
-- *Bands.* Which mutexes a picture shows beside its lanes: all, or where there are more than fit those of which the
-- trace tells a point or a death first.
use Rattle.std.specs.Prelude.{ℕ, zero, suc, ◌+◌, ◌==◌, ◌||◌, nat_le, Bool, false, Option, Some}
use Rattle.std.specs.Prelude.{None, List, [], ◌∷◌, slice_index_or, slice_set, if◌then◌else◌}
use Rattle.posixmutex.specs.declared.point.Decision.{Decision}
use Rattle.facts.specs.declared.fact.Line.{Line}
use Rattle.facts.specs.Facts.{decision_of}
use Rattle.picture.specs.declared.bands.Bands.{Bands}

-- the mutex of a band
abbrev pub mutex_at : Bands → ℕ → ℕ
mutex_at b i = slice_index_or b.mutexes i 0

-- which of the first n bands is that of a mutex
abbrev pub band_in : List ℕ → ℕ → ℕ → Option ℕ
band_in ms m zero = None
band_in ms m (suc n) = if slice_index_or ms n 0 == m then Some n else band_in ms m n

abbrev pub band_of : Bands → ℕ → Option ℕ
band_of b m = band_in b.mutexes m b.count

-- the first n mutexes, by their numbers
abbrev pub first_bands : ℕ → Bands
first_bands n = record { mutexes = 0 ∷ 1 ∷ 2 ∷ 3 ∷ 4 ∷ 5 ∷ 6 ∷ 7 ∷ 8 ∷ 9 ∷ 10 ∷ 11 ∷ 12 ∷ 13 ∷ 14 ∷ 15 ∷ []; count = n }

-- a band more, after the others
abbrev pub one_more : Bands → ℕ → Bands
one_more b m = record { mutexes = slice_set b.mutexes b.count m; count = b.count + 1 }

-- unless the mutex has one, or there is no room
abbrev pub with_new : ℕ → Bands → ℕ → Option ℕ → Bands
with_new room b m (Some i) = b
with_new room b m None = if nat_le room b.count then b else one_more b m

abbrev pub with_mutex : ℕ → Bands → ℕ → Bands
with_mutex room b m = with_new room b m (band_of b m)

-- a line uses the mutex of which it tells a point or a death
abbrev pub with_decision : ℕ → Bands → Option Decision → Bands
with_decision room b None = b
with_decision room b (Some d) = with_mutex room b d.mutex

abbrev pub used : ℕ → Bands → List Line → Bands
used room b [] = b
used room b (l ∷ ls) = used room (with_decision room b (decision_of l.fact)) ls

-- the bands of a picture that has room for that many, of a trace of that many mutexes with these lines
abbrev pub shown : ℕ → ℕ → List Line → Bands
shown room mutexes ls = if nat_le mutexes room then first_bands mutexes else used room (first_bands 0) ls

-- whether a mutex of the first n bands has a number of three digits or more: its name takes four letters or more, if it
-- has none of its own
abbrev pub has_long : List ℕ → ℕ → Bool
has_long ms zero = false
has_long ms (suc n) = has_long ms n || nat_le 100 (slice_index_or ms n 0)

-- how many letters of a name have room at least, beside the letter of a number
abbrev pub least_letters : Bands → ℕ
least_letters b = if has_long b.mutexes b.count then 4 else 0
