-- The rows of a picture in text, from their left to their right.
use Rattle.std.specs.Prelude.{ℕ, ◌+◌, ◌-◌, ◌/◌, ◌%◌, ◌==◌, ◌&&◌, nat_lt, nat_le, min, max, not, Bool, false}
use Rattle.std.specs.Prelude.{Option, Some, None, List, [], ◌∷◌, ◌++◌, length, codes, decimal, if◌then◌else◌}
use Rattle.std.specs.List.{concat, repeat}
use Rattle.posixmutex.specs.declared.object.Object.{Object}
use Rattle.posixmutex.specs.Objects.{fresh}
use Rattle.facts.specs.declared.fact.Fact.{Fact}
use Rattle.facts.specs.declared.fact.Fact.TheVariants.{Begin, Point, Death, Sleep, Wake}
use Rattle.facts.specs.declared.fact.Fact.TheVariants.{Move, Return, Kill, Reap, Renew}
use Rattle.facts.specs.declared.fact.Line.{Line}
use Rattle.facts.specs.Facts.{is_passive, thread_of}
use Rattle.std.specs.Prelude.{slice_index_or}
use Rattle.picture.specs.declared.lane.Lane.{Lane}
use Rattle.picture.specs.declared.scene.Scene.{Scene}
use Rattle.picture.specs.declared.rows.Part.{Part}
use Rattle.picture.specs.declared.rows.Part.TheVariants as part
use Rattle.picture.specs.Lanes.{stays}
use Rattle.picture.specs.declared.bands.Extent.{Extent}
use Rattle.picture.specs.Layouts.{band_width, gap, is_wide, width}
use Rattle.picture.specs.Names.{Called, thread_head, thread_tail}
use Rattle.picture.specs.Pieces.{each, less, padded}
use Rattle.picture.specs.Scenes.{lane_at}
use Rattle.picture.specs.Words.{words}
use Rattle.picture.specs.Signs.{dagger, top, disc, bottom, cross, ring, dash, to_right, to_left}

-- ---- a line's mark

-- where the arrow to a line's mark comes from: another thread, whose event did this
abbrev pub arrow_from : Option ℕ → Fact → Option ℕ
arrow_from None f = None
arrow_from (Some a) f = if is_passive f && not (a == thread_of f) then Some a else None

-- an arrow's head; where nobody else is named, a ring
abbrev pub arrow_sign : ℕ → Option ℕ → List ℕ
arrow_sign t None = ring
arrow_sign t (Some a) = if nat_lt a t then codes ">" else codes "<"

abbrev pub sign : Fact → Option ℕ → List ℕ
sign (Begin t c) from = top
sign (Point d) from = disc
sign (Death t m) from = codes "!"
sign (Sleep t q) from = codes "z"
sign (Wake t) from = arrow_sign t from
sign (Move t m) from = arrow_sign t from
sign (Return t x) from = bottom
sign (Kill t) from = cross
sign (Reap t) from = dagger
sign (Renew t) from = codes "*"

-- how many columns a sign, a blank and the words after it take; all words have fewer than 62
abbrev pub taken : List (List ℕ) → ℕ
taken ws = 64 - less 62 ws

-- how many lanes after its own the words of a line cover, with a blank after them
abbrev pub reach : Extent → List (List ℕ) → ℕ
reach x ws = taken ws / width x

abbrev pub is_from_right : ℕ → Option ℕ → Bool
is_from_right t None = false
is_from_right t (Some a) = nat_lt t a

-- blanks come after the words, up to the next lane that shows; none after the last lane
abbrev pub blanks : Extent → ℕ → List (List ℕ) → ℕ
blanks x t ws = if nat_le (x.threads - t) (reach x ws) then 0 else width x - (taken ws % width x)

-- the end of an arrow from the right, in that many columns after its words: a blank, and the arrow in the others
abbrev pub arrow_end : ℕ → List ℕ
arrow_end n = codes " " ++ repeat (n - 1) dash

-- sign and words; an arrow from the right begins after them
abbrev pub wide_mark : Extent → ℕ → Option ℕ → List ℕ → List (List ℕ) → List ℕ
wide_mark x t from s ws = (s ++ codes " ") ++ (concat ws ++ (if is_from_right t from
    then arrow_end (less (width x - 2) ws)
    else repeat (blanks x t ws) (codes " ")))

abbrev pub narrow_mark : Extent → ℕ → Option ℕ → List ℕ → List ℕ
narrow_mark x t from s = s ++ (if is_from_right t from then repeat (width x - 1) dash else repeat (gap x t) (codes " "))

abbrev pub mark : Extent → ℕ → Option ℕ → List ℕ → List (List ℕ) → List ℕ
mark x t from s ws = if is_wide x then wide_mark x t from s ws else narrow_mark x t from s

-- ---- a lane

-- words of the line are in lane u, which is neither the line's own nor one of its arrow's
abbrev pub is_covered : Extent → ℕ → Option ℕ → List (List ℕ) → ℕ → Bool
is_covered x t from ws u = is_wide x && not (is_from_right t from) && nat_lt t u && nat_le (u - t) (reach x ws)

abbrev pub beside : Extent → ℕ → Option ℕ → List (List ℕ) → ℕ → Part
beside x t from ws u = if is_covered x t from ws u then part.Covered else part.Stays

-- an arrow takes all lanes between both ends
abbrev pub in_arrow : Option ℕ → ℕ → ℕ → Part → Part
in_arrow None t u other = other
in_arrow (Some a) t u other =
    if u == a then part.Origin else (if nat_lt (min t a) u && nat_lt u (max t a) then part.Arrow else other)

-- what is in lane u at the row of a line of thread t
abbrev pub part_of : Extent → ℕ → Option ℕ → List (List ℕ) → ℕ → Part
part_of x t from ws u = if u == t then part.Mark else in_arrow from t u (beside x t from ws u)

abbrev pub origin : Extent → ℕ → Option ℕ → ℕ → List ℕ
origin x t from u =
    if is_from_right t from then to_left ++ repeat (gap x u) (codes " ") else to_right ++ repeat (width x - 1) dash

-- a lane that goes on to show what it showed
abbrev pub stays_so : Extent → Lane → ℕ → List ℕ
stays_so x shown u = stays shown ++ repeat (gap x u) (codes " ")

abbrev pub part_text : Extent → ℕ → Option ℕ → List ℕ → List (List ℕ) → Lane → ℕ → Part → List ℕ
part_text x t from s ws shown u part.Stays = stays_so x shown u
part_text x t from s ws shown u part.Covered = []
part_text x t from s ws shown u part.Mark = mark x t from s ws
part_text x t from s ws shown u part.Origin = origin x t from u
part_text x t from s ws shown u part.Arrow = repeat (width x) dash

abbrev pub cell : Extent → ℕ → Option ℕ → List ℕ → List (List ℕ) → Lane → ℕ → List ℕ
cell x t from s ws shown u = part_text x t from s ws shown u (part_of x t from ws u)

abbrev pub cell_at : Extent → ℕ → Option ℕ → List ℕ → List (List ℕ) → List Lane → ℕ → List ℕ
cell_at x t from s ws lanes i = cell x t from s ws (lane_at lanes (i + 1)) (i + 1)

-- all lanes, side by side
abbrev pub cells : Extent → ℕ → Option ℕ → List ℕ → List (List ℕ) → List Lane → List ℕ
cells x t from s ws lanes = each (cell_at x t from s ws lanes) x.threads

-- where lanes have no room for words, these come after all lanes
abbrev pub tail : Called → Extent → ℕ → List (List ℕ) → List ℕ
tail n x t ws =
    if is_wide x then [] else concat (codes "  " ∷ thread_head n t ∷ thread_tail n t ∷ codes " " ∷ []) ++ concat ws

-- ---- a band

-- the owner or `-`, and `!` where an owner died and nobody has declared the mutex consistent; or `lost`, and nothing
-- beside it
abbrev pub owner_name : Called → Option ℕ → Bool → List ℕ → List (List ℕ)
owner_name n (Some t) unusable m = thread_head n t ∷ thread_tail n t ∷ m ∷ []
owner_name n None unusable m = if unusable then codes "lost" ∷ [] ∷ [] ∷ [] else codes "-" ∷ [] ∷ m ∷ []

abbrev pub owner_pieces : Called → Object → List (List ℕ)
owner_pieces n o = owner_name n o.owner o.unusable (if o.inconsistent then codes "!" else [])

abbrev pub band_at : Called → Extent → List Object → ℕ → List ℕ
band_at n x os i = padded (band_width x) (owner_pieces n (slice_index_or os i fresh))

abbrev pub bands_text : Called → Extent → List Object → List ℕ
bands_text n x os = each (band_at n x os) x.bands.count

-- ---- a row

abbrev pub event_text : ℕ → List ℕ
event_text i = repeat (6 - length (decimal i)) (codes " ") ++ concat (decimal i ∷ codes "  " ∷ [])

-- the words of a line, and where its arrow comes from
abbrev pub words_at : Called → Scene → Line → List (List ℕ)
words_at n s l = words n (lane_at s.lanes (thread_of l.fact)) l.fact

abbrev pub from_at : Scene → Line → Option ℕ
from_at s l = arrow_from s.actor l.fact

-- the row of a line of this event, with its thread, where its arrow comes from, its sign and its words
abbrev pub row_of : Called → Extent → Scene → ℕ → ℕ → Option ℕ → List ℕ → List (List ℕ) → List ℕ
row_of n x s event t from mark ws =
    event_text event ++ (bands_text n x s.objects ++ (cells x t from mark ws s.lanes ++ (tail n x t ws ++ codes "\n")))

-- the row of a line, after which all lanes and bands show this
abbrev pub row_text : Called → Extent → Scene → Line → List ℕ
row_text n x s l = row_of n x s l.event (thread_of l.fact) (from_at s l) (sign l.fact (from_at s l)) (words_at n s l)

-- the last row: how many events there were
abbrev pub end_text : ℕ → List ℕ
end_text n = event_text n ++ codes "end\n"
