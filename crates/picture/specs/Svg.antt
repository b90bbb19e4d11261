-- An SVG picture: time runs downwards. Below stands what lanes and bands show from line to line, over it the marks of
-- all lines.
--
-- *The picture as SVG.* What lanes and bands show from line to line, and over that each line's number, its mark in the
-- middle of its thread's lane or an arrow to it, and its words. Source: Scalable Vector Graphics 1.1.
use Rattle.std.specs.Prelude.{ℕ, ◌+◌, ◌-◌, ◌*◌, max, Bool, true, false, Option, Some, None, List, [], ◌∷◌, ◌++◌, length}
use Rattle.std.specs.Prelude.{codes, decimal, option_map, replicate, slice_index_or, slice_set, if◌then◌else◌}
use Rattle.std.specs.List.{concat}
use Rattle.lockword.specs.Threads.{most_threads}
use Rattle.posixmutex.specs.declared.object.Object.{Object}
use Rattle.posixmutex.specs.declared.point.Decision.{Decision}
use Rattle.posixmutex.specs.Objects.{fresh}
use Rattle.facts.specs.declared.fact.Fact.{Fact}
use Rattle.facts.specs.declared.fact.Fact.TheVariants.{Point, Death, Move}
use Rattle.facts.specs.declared.fact.Line.{Line}
use Rattle.facts.specs.Facts.{thread_of, decision_of}
use Rattle.picture.specs.declared.lane.Lane.{Lane}
use Rattle.picture.specs.declared.scene.Scene.{Scene}
use Rattle.picture.specs.declared.svg.Misfit.{Misfit}
use Rattle.picture.specs.declared.svg.Since.{Since}
use Rattle.picture.specs.declared.bands.Bands.{Bands}
use Rattle.picture.specs.declared.bands.Extent.{Extent}
use Rattle.picture.specs.Bands.{band_of, mutex_at}
use Rattle.picture.specs.Drawn.{extent_in}
use Rattle.picture.specs.Names.{Called, mutex_head, mutex_tail, thread_head, thread_tail}
use Rattle.picture.specs.Places.{band_middle, band_x, lane_x, margin, row_y}
use Rattle.picture.specs.Rows.{from_at, is_from_right, words_at}
use Rattle.picture.specs.Scenes.{behind, first_scene, lane_at, most_bands}
use Rattle.picture.specs.Shapes.{arrow_shape, band_shape, lane_shape, mark_shape, name_label, number_label, words_label}
use Rattle.picture.specs.Pieces.{each}
use Rattle.picture.specs.Style.{style}

-- as many bands as there is room for
abbrev pub svg_extent : Called → ℕ → ℕ → List Line → Extent
svg_extent n threads mutexes ls = extent_in most_bands n threads mutexes ls

-- ---- what lanes and bands show

-- a point, a death and a move leave a lane as it was
abbrev pub ends_lane : Fact → Bool
ends_lane (Point d) = false
ends_lane (Death t m) = false
ends_lane (Move t m) = false
ends_lane f = true

abbrev pub first_since : Since
first_since = record { lanes = replicate (most_threads + 1) 0; bands = replicate most_bands 0 }

abbrev pub since_lane : List ℕ → Fact → ℕ → List ℕ
since_lane lanes f k = if ends_lane f then slice_set lanes (thread_of f) k else lanes

abbrev pub since_at : List ℕ → Option ℕ → ℕ → List ℕ
since_at bands None k = bands
since_at bands (Some i) k = slice_set bands i k

abbrev pub since_band : Bands → List ℕ → Option Decision → ℕ → List ℕ
since_band b bands None k = bands
since_band b bands (Some d) k = since_at bands (band_of b d.mutex) k

-- line k begins what its lane shows, and what its mutex's band shows
abbrev pub begins_at : Bands → Since → Fact → ℕ → Since
begins_at b s f k = record { lanes = since_lane s.lanes f k; bands = since_band b s.bands (decision_of f) k }

abbrev pub lane_from : Extent → List Lane → List ℕ → ℕ → ℕ → List ℕ
lane_from x lanes since u k = lane_shape (lane_at lanes u) (lane_x x u) (slice_index_or since u 0) k

abbrev pub band_from : Called → Extent → List Object → List ℕ → ℕ → ℕ → List ℕ
band_from n x os since i k = band_shape n x (slice_index_or os i fresh) i (slice_index_or since i 0) k

-- what line k ends
abbrev pub lane_part : Extent → Scene → Since → Fact → ℕ → List ℕ
lane_part x s since f k = if ends_lane f then lane_from x s.lanes since.lanes (thread_of f) k else []

abbrev pub part_at : Called → Extent → Scene → Since → Option ℕ → ℕ → List ℕ
part_at n x s since None k = []
part_at n x s since (Some i) k = band_from n x s.objects since.bands i k

abbrev pub band_part : Called → Extent → Scene → Since → Option Decision → ℕ → List ℕ
band_part n x s since None k = []
band_part n x s since (Some d) k = part_at n x s since (band_of x.bands d.mutex) k

abbrev pub line_parts : Called → Extent → Scene → Since → Fact → ℕ → List ℕ
line_parts n x s since f k = lane_part x s since f k ++ band_part n x s since (decision_of f) k

-- what goes on up to the end
abbrev pub lane_rest : Extent → List Lane → List ℕ → ℕ → ℕ → List ℕ
lane_rest x lanes since k i = lane_from x lanes since (i + 1) k

abbrev pub lane_rests : Extent → List Lane → List ℕ → ℕ → List ℕ
lane_rests x lanes since k = each (lane_rest x lanes since k) x.threads

abbrev pub band_rest : Called → Extent → List Object → List ℕ → ℕ → ℕ → List ℕ
band_rest n x os since k i = band_from n x os since i k

abbrev pub band_rests : Called → Extent → List Object → List ℕ → ℕ → List ℕ
band_rests n x os since k = each (band_rest n x os since k) x.bands.count

abbrev pub rests : Called → Extent → Scene → Since → ℕ → List ℕ
rests n x s since k = lane_rests x s.lanes since.lanes k ++ band_rests n x s.objects since.bands k

-- the lines from line k on
abbrev pub parts : Called → Extent → Scene → Since → ℕ → List Line → List ℕ
parts n x s since k [] = rests n x s since k
parts n x s since k (l ∷ ls) = line_parts n x s since l.fact k
    ++ parts n x (behind x.bands s l (l ∷ ls)) (begins_at x.bands since l.fact k) (k + 1) ls

-- ---- the lines' marks

abbrev pub mark_of : Extent → Fact → Option ℕ → ℕ → List ℕ
mark_of x f None k = mark_shape f (lane_x x (thread_of f)) k
mark_of x f (Some a) k = arrow_shape (lane_x x a) (lane_x x (thread_of f)) k

-- the number of a line's event, its mark in the lane of its thread, and these words
abbrev pub marks_of : Extent → Fact → ℕ → Option ℕ → List (List ℕ) → ℕ → List ℕ
marks_of x f event from ws k =
    number_label event k
    ++ (mark_of x f from k
    ++ words_label ws (lane_x x (thread_of f)) k (is_from_right (thread_of f) from))

-- line k; after it all lanes and bands show this
abbrev pub line_marks : Called → Extent → Scene → Line → ℕ → List ℕ
line_marks n x s l k = marks_of x l.fact l.event (from_at s l) (words_at n s l) k

abbrev pub marks : Called → Extent → Scene → ℕ → List Line → List ℕ
marks n x s k [] = []
marks n x s k (l ∷ ls) =
    line_marks n x (behind x.bands s l (l ∷ ls)) l k ++ marks n x (behind x.bands s l (l ∷ ls)) (k + 1) ls

-- ---- heads and foot

abbrev pub svg_band : Called → Extent → ℕ → List ℕ
svg_band n x i = name_label (mutex_head n (mutex_at x.bands i)) (mutex_tail n (mutex_at x.bands i))
    (band_x x i + band_middle x) 20 ++ codes "\n"

abbrev pub svg_bands : Called → Extent → List ℕ
svg_bands n x = each (svg_band n x) x.bands.count

-- the line that stands for a lane's time
abbrev pub lane_line : List ℕ → List ℕ → List ℕ
lane_line middle bottom =
    concat (codes "<path class=\"l\" d=\"M" ∷ middle ∷ codes " 28V" ∷ bottom ∷ codes "\"/>\n" ∷ [])

abbrev pub svg_lane : Called → Extent → ℕ → ℕ → List ℕ
svg_lane n x bottom u =
    name_label (thread_head n u) (thread_tail n u) (lane_x x u) 20 ++ lane_line (decimal (lane_x x u)) (decimal bottom)

-- the lane after i others
abbrev pub svg_lane_behind : Called → Extent → ℕ → ℕ → List ℕ
svg_lane_behind n x bottom i = svg_lane n x bottom (i + 1)

abbrev pub svg_lanes : Called → Extent → ℕ → List ℕ
svg_lanes n x bottom = each (svg_lane_behind n x bottom) x.threads

abbrev pub svg_tag : List ℕ → List ℕ → List ℕ → List ℕ
svg_tag wide high shown = concat
    (codes "<svg xmlns=\"http://www.w3.org/2000/svg\" width=\"" ∷ wide ∷ codes "\" height=\"" ∷ high
    ∷ codes "\" viewBox=\"0 0 " ∷ wide ∷ codes " " ∷ high ∷ codes "\">\n" ∷ shown ∷ [])

-- a line that is marked, and what is said of it, if it is to be this
pub record Marked : Type 0 where
  pub line : ℕ
  pub note : Option (List ℕ)

-- what is said of it: this, or which line it is
abbrev pub note_of : ℕ → Option (List ℕ) → List ℕ
note_of line (Some note) = note
note_of line None = concat (codes "line " ∷ decimal line ∷ codes " doesn't fit those before it" ∷ [])

-- how far to the right that reaches, which begins at 54, with 8 pixels for a letter
abbrev pub note_end : Option Marked → ℕ
note_end None = 0
note_end (Some m) = 54 + 8 * length (note_of m.line m.note)

-- how wide and how high a picture is: it has room for the lanes, and for what is said of a marked line
abbrev pub svg_width : Extent → Option Marked → ℕ
svg_width x misfit = max (lane_x x x.threads + margin x) (note_end misfit)

abbrev pub svg_height : ℕ → ℕ
svg_height lines = row_y lines + 36

abbrev pub svg_open : Extent → Option Marked → ℕ → List ℕ
svg_open x misfit lines = svg_tag (decimal (svg_width x misfit)) (decimal (svg_height lines)) style

abbrev pub svg_heads : Called → Extent → Option Marked → ℕ → List ℕ
svg_heads n x misfit lines = svg_open x misfit lines ++ (svg_bands n x ++ svg_lanes n x (row_y lines + 18))

abbrev pub foot_text : ℕ → ℕ → List ℕ
foot_text last lines = concat
    (codes "<text class=\"n\" x=\"48\" y=\"" ∷ decimal (row_y lines + 22) ∷ codes "\">" ∷ decimal last
    ∷ codes "</text><text x=\"54\" y=\"" ∷ decimal (row_y lines + 22) ∷ codes "\">end</text>\n</svg>\n" ∷ [])

-- the row of a line that doesn't fit those before it, and where below the end something is said of it
abbrev pub misfit_shape : List ℕ → List ℕ → List ℕ
misfit_shape top foot = concat
    (codes "<rect class=\"m\" y=\"" ∷ top
    ∷ codes "\" width=\"100%\" height=\"18\" fill=\"#c00\" fill-opacity=\".2\"/>\n<text class=\"m\" x=\"54\" y=\""
    ∷ foot ∷ codes "\" fill=\"#c00\">" ∷ [])

-- line 1 is the trace's head
abbrev pub misfit_row : ℕ → ℕ → List ℕ
misfit_row line lines = misfit_shape (decimal (row_y (line - 1) - 9)) (decimal (row_y lines + 33))

abbrev pub misfit_at : Marked → ℕ → List ℕ
misfit_at m lines = misfit_row m.line lines ++ (note_of m.line m.note ++ codes "</text>\n")

abbrev pub misfit_mark : Option Marked → ℕ → List ℕ
misfit_mark None lines = []
misfit_mark (Some m) lines = misfit_at m lines

-- what a program marks
abbrev pub marked_by : Misfit → Marked
marked_by m = record { line = m.line; note = option_map (λ s. s.now) m.note }

abbrev pub marked_of : Option Misfit → Option Marked
marked_of m = option_map marked_by m

abbrev pub end_text : Option Marked → ℕ → ℕ → List ℕ
end_text misfit last lines = misfit_mark misfit lines ++ foot_text last lines

-- ---- all of it

abbrev pub svg_with : Called → Extent → List Line → ℕ → Option Marked → List ℕ
svg_with n x ls last misfit = svg_heads n x misfit (length ls)
    ++ (parts n x first_scene first_since 1 ls ++ (marks n x first_scene 1 ls ++ end_text misfit last (length ls)))

-- with this line marked, if there is one
abbrev pub svg_marked : Called → ℕ → ℕ → List Line → ℕ → Option Marked → List ℕ
svg_marked n threads mutexes ls last misfit = svg_with n (svg_extent n threads mutexes ls) ls last misfit

abbrev pub svg_drawn : Called → ℕ → ℕ → List Line → ℕ → List ℕ
svg_drawn n threads mutexes ls last = svg_marked n threads mutexes ls last None
