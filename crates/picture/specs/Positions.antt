-- Where an SVG picture draws.
--
-- *Things are drawn at their lanes, bands and rows.* A line's mark or its arrow, a lane's name, its line and what it shows
-- are at the middle of this lane; the name of a band, what it shows and its owner are at this band. Line k of a trace has
-- row k, with the state after it. Rows are below the names, one below the other, and the last one is above the foot,
-- which is within the picture.
use Rattle.std.specs.Prelude.{ℕ, ◌≡◌, ◌<◌, ◌≤◌, ◌+◌, ◌-◌, ◌/◌, ◌==◌, ◌&&◌, not, Bool, true, false, Option, Some, None, List, [], ◌∷◌, ◌++◌, codes, decimal}
use Rattle.std.specs.Prelude.{if◌then◌else◌, length, slice_index_or}
use Rattle.std.specs.List.{concat}
use Rattle.std.specs.Option.{is_some}
use Rattle.lockword.specs.Threads.{most_threads}
use Rattle.posixmutex.specs.Objects.{fresh}
use Rattle.posixmutex.specs.declared.point.Decision.{Decision}
use Rattle.posixmutex.specs.declared.object.Object.{Object}
use Rattle.facts.specs.declared.fact.Line.{Line}
use Rattle.facts.specs.Facts.{decision_of, thread_of}
use Rattle.facts.specs.declared.fact.Fact.{Fact}
use Rattle.facts.specs.declared.fact.Fact.TheVariants.{Move}
use Rattle.picture.specs.declared.bands.Extent.{Extent}
use Rattle.picture.specs.declared.lane.Lane.{Lane}
use Rattle.picture.specs.declared.scene.Scene.{Scene}
use Rattle.picture.specs.declared.svg.Since.{Since}
use Rattle.picture.specs.Bands.{band_of, mutex_at}
use Rattle.picture.specs.Names.{Called, mutex_head, mutex_tail, thread_head, thread_tail}
use Rattle.picture.specs.Places.{band_x, lane_x, row_y}
use Rattle.picture.specs.Drawn.{drawn, text_extent}
use Rattle.picture.specs.Rows.{from_at, row_text}
use Rattle.picture.specs.Scenes.{first_scene, lane_at, most_bands}
use Rattle.picture.specs.Shapes.{band_class, lane_class, lane_shape, band_shape}
use Rattle.picture.specs.States.{scene_after}
use Rattle.picture.specs.Svg.{Marked, begins_at, first_since, foot_text, line_marks, misfit_at, note_of, svg_band, svg_extent}
use Rattle.picture.specs.Svg.{svg_height, svg_lane, svg_marked, svg_width}

-- a text is part of another one
pub record Contains (whole part : List ℕ) : Type 0 where
  pub before : List ℕ
  pub later : List ℕ
  pub all : whole ≡ before ++ (part ++ later)

-- ---- shapes

-- a path of this class that begins at this point
abbrev pub path_at : List ℕ → ℕ → ℕ → List ℕ → List ℕ
path_at class x y path = concat
    (codes "<path class=\"" ∷ class ∷ codes "\" d=\"M" ∷ decimal x ∷ codes " " ∷ decimal y ∷ path ∷ codes "\"/>" ∷ [])

-- a rectangle of this class with this left end, top, width and height
abbrev pub rectangle_at : List ℕ → ℕ → ℕ → ℕ → ℕ → List ℕ
rectangle_at class x y wide high = concat
    (codes "<rect class=\"" ∷ class ∷ codes "\" x=\"" ∷ decimal x ∷ codes "\" y=\"" ∷ decimal y ∷ codes "\" width=\""
    ∷ decimal wide ∷ codes "\" height=\"" ∷ decimal high ∷ codes "\"/>\n" ∷ [])

-- a name with its middle here
abbrev pub name_at : List ℕ → List ℕ → ℕ → ℕ → List ℕ
name_at head tail x y =
    concat (codes "<text class=\"h\" x=\"" ∷ decimal x ∷ codes "\" y=\"" ∷ decimal y ∷ codes "\">" ∷ [])
    ++ concat (head ∷ tail ∷ codes "</text>" ∷ [])

-- ---- a line

-- a line without an arrow has its mark in the middle of its thread's lane, at its row. An arrow begins in the middle of the
-- lane that it comes from, and ends next to the middle of the line's own lane, on this side
pub record MarksItsLane (x : Extent) (s : Scene) (l : Line) (k : ℕ) (mark : List ℕ) : Type 0 where
  pub alone : from_at s l ≡ None
      → (class path : List ℕ) × (mark ≡ path_at class (lane_x x (thread_of l.fact)) (row_y k) path)
  pub from_left : (a : ℕ) → from_at s l ≡ Some a → lane_x x a < lane_x x (thread_of l.fact)
      → mark ≡ path_at (codes "a") (lane_x x a) (row_y k) (codes "H" ++ decimal (lane_x x (thread_of l.fact) - 6))
  pub from_right : (a : ℕ) → from_at s l ≡ Some a → lane_x x (thread_of l.fact) < lane_x x a
      → mark ≡ path_at (codes "a") (lane_x x a) (row_y k) (codes "H" ++ decimal (lane_x x (thread_of l.fact) + 6))

-- what is drawn of a line contains its mark
pub record LineIsAtItsPlace (n : Called) (x : Extent) (s : Scene) (l : Line) (k : ℕ) : Type 0 where
  pub mark : List ℕ
  pub drawn : Contains (line_marks n x s l k) mark
  pub marks : MarksItsLane x s l k mark

-- ---- lanes and bands

-- lane u has its name over its middle, and from there down the line that stands for its time
pub record LaneIsAtItsPlace (n : Called) (x : Extent) (u : ℕ) : Type 0 where
  pub name : (bottom : ℕ) → svg_lane n x bottom u
      ≡ name_at (thread_head n u) (thread_tail n u) (lane_x x u) 20
      ++ concat (codes "<path class=\"l\" d=\"M" ∷ decimal (lane_x x u) ∷ codes " 28V" ∷ decimal bottom ∷ codes "\"/>\n" ∷ [])
  -- what it shows between two lines is 10 wide, around its middle
  pub shows : (l : Lane) (class : List ℕ) (from to : ℕ) → lane_class l ≡ Some class
      → lane_shape l (lane_x x u) from to ≡ rectangle_at class (lane_x x u - 5) (row_y from) 10 (row_y to - row_y from)

-- band i has its mutex's name over its middle, and what it shows between two lines is as wide as itself, with the name of
-- an owner over its middle; it ends before the next band begins, and the last one before the first lane
pub record BandIsAtItsPlace (n : Called) (x : Extent) (i : ℕ) : Type 0 where
  pub middle : ℕ
  pub wide : ℕ
  pub inside : (middle ≡ band_x x i + wide / 2) × (band_x x i + wide < band_x x (i + 1)) × (22 ≤ wide)
  pub name : svg_band n x i ≡ name_at (mutex_head n (mutex_at x.bands i)) (mutex_tail n (mutex_at x.bands i)) middle 20 ++ codes "\n"
  pub free : (o : Object) (class : List ℕ) (from to : ℕ) → o.owner ≡ None → band_class o ≡ Some class
      → band_shape n x o i from to ≡ rectangle_at class (band_x x i) (row_y from - 9) wide (row_y to - row_y from)
  pub owned : (o : Object) (t : ℕ) (class : List ℕ) (from to : ℕ) → o.owner ≡ Some t → band_class o ≡ Some class
      → band_shape n x o i from to ≡ rectangle_at class (band_x x i) (row_y from - 9) wide (row_y to - row_y from)
      ++ (name_at (thread_head n t) (thread_tail n t) middle (row_y from + 4) ++ codes "\n")

-- rows are one below the other, the first one below all names; below the last one, and within the picture, stand the
-- number of events and, lower, what is said of a line that doesn't fit. A letter is 11 high, and what is written at a row is at most 4 below
-- its middle
pub record RowsHaveRoom : Type 0 where
  pub first : 20 + 11 < row_y 1
  pub next : (k : ℕ) → row_y (k + 1) ≡ row_y k + 18
  pub foot : (last lines : ℕ) → (y : ℕ) × Contains (foot_text last lines) (codes "y=\"" ++ (decimal y ++ codes "\">end"))
      × (row_y lines + 4 + 11 ≤ y) × (y < svg_height lines)
  pub misfit : (m : Marked) (lines : ℕ)
      → Contains (misfit_at m lines) (codes "<rect class=\"m\" y=\"" ++ decimal (row_y (m.line - 1) - 9))
      × ((y : ℕ)
      × Contains (misfit_at m lines) (codes "x=\"54\" y=\"" ++ (decimal y ++ (codes "\" fill=\"#c00\">" ++ note_of m.line m.note)))
      × (row_y lines + 4 + 11 ≤ y) × (y < svg_height lines))

-- ---- the picture

abbrev pub is_move : Fact → Bool
is_move (Move t m) = true
is_move f = false

-- from which line on lanes and bands show what they show after the first lines, of which the next one is line k
abbrev pub since_after : Extent → Since → ℕ → List Line → Since
since_after x s k [] = s
since_after x s k (l ∷ ls) = since_after x (begins_at x.bands s l.fact k) (k + 1) ls

-- the number of the newest line that does so, the first of them being line k; found, if none does
abbrev pub newest_that : (Line → Bool) → ℕ → ℕ → List Line → ℕ
newest_that does found k [] = found
newest_that does found k (l ∷ ls) = newest_that does (if does l then k else found) (k + 1) ls

-- it changes what the lane of thread t shows, if that changes at all: it is neither a point, a death nor a move
abbrev pub turns_lane : ℕ → Line → Bool
turns_lane t l = thread_of l.fact == t && not (is_some (decision_of l.fact)) && not (is_move l.fact)

-- each thread has its lane, and each mutex with a band its band. Each line is drawn at the row of its number, with the state
-- after it. If a line changes a lane or a band, what this lane or band showed before it is drawn from the line that began
-- it down to this one; what goes on after the last line is drawn to the row after it
pub record IsDrawnInPlace (n : Called) (x : Extent) (ls : List Line) (misfit : Option Marked) (picture : List ℕ) : Type 0 where
  pub size : Contains picture
      (codes "width=\"" ++ (decimal (svg_width x misfit) ++ (codes "\" height=\"" ++ (decimal (svg_height (length ls)) ++ codes "\""))))
  pub lanes : (u : ℕ) → 1 ≤ u → u ≤ x.threads → Contains picture (svg_lane n x (row_y (length ls) + 18) u)
  pub bands : (i : ℕ) → i < x.bands.count → Contains picture (svg_band n x i)
  pub lines : (before later : List Line) (l : Line) → ls ≡ before ++ (l ∷ later)
      → Contains picture (line_marks n x (scene_after x.bands first_scene (before ++ (l ∷ [])) later) l (length before + 1))
  pub stays : (before later : List Line) (l : Line) → ls ≡ before ++ (l ∷ later) → turns_lane (thread_of l.fact) l ≡ true
      → Contains picture
      (lane_shape (lane_at (scene_after x.bands first_scene before (l ∷ later)).lanes (thread_of l.fact)) (lane_x x (thread_of l.fact))
      (slice_index_or (since_after x first_since 1 before).lanes (thread_of l.fact) 0) (length before + 1))
  pub owned : (before later : List Line) (l : Line) (d : Decision) (i : ℕ) → ls ≡ before ++ (l ∷ later)
      → decision_of l.fact ≡ Some d → band_of x.bands d.mutex ≡ Some i
      → Contains picture
      (band_shape n x (slice_index_or (scene_after x.bands first_scene before (l ∷ later)).objects i fresh) i
      (slice_index_or (since_after x first_since 1 before).bands i 0) (length before + 1))
  pub last_lanes : (u : ℕ) → 1 ≤ u → u ≤ x.threads → Contains picture
      (lane_shape (lane_at (scene_after x.bands first_scene ls []).lanes u) (lane_x x u)
      (slice_index_or (since_after x first_since 1 ls).lanes u 0) (length ls + 1))
  pub last_bands : (i : ℕ) → i < x.bands.count → Contains picture
      (band_shape n x (slice_index_or (scene_after x.bands first_scene ls []).objects i fresh) i
      (slice_index_or (since_after x first_since 1 ls).bands i 0) (length ls + 1))

-- it is a point or a death of the mutex of band i
abbrev pub is_band : ℕ → Option ℕ → Bool
is_band i None = false
is_band i (Some j) = j == i

abbrev pub decides_band : Extent → ℕ → Option Decision → Bool
decides_band x i None = false
decides_band x i (Some d) = is_band i (band_of x.bands d.mutex)

abbrev pub turns_band : Extent → ℕ → Line → Bool
turns_band x i l = decides_band x i (decision_of l.fact)

-- a lane or a band shows what it shows since the newest line that changed it
pub record SinceIsTheNewest (x : Extent) (ls : List Line) : Type 0 where
  pub lanes : (t : ℕ) → t ≤ most_threads
      → slice_index_or (since_after x first_since 1 ls).lanes t 0 ≡ newest_that (turns_lane t) 0 1 ls
  pub bands : (i : ℕ) → i < most_bands
      → slice_index_or (since_after x first_since 1 ls).bands i 0 ≡ newest_that (turns_band x i) 0 1 ls

pub record SvgDrawsInPlace : Type 0 where
  pub line : (n : Called) (x : Extent) (s : Scene) (l : Line) (k : ℕ) → LineIsAtItsPlace n x s l k
  pub lane : (n : Called) (x : Extent) (u : ℕ) → LaneIsAtItsPlace n x u
  pub band : (n : Called) (x : Extent) (i : ℕ) → BandIsAtItsPlace n x i
  pub rows : RowsHaveRoom
  -- the last band ends 20 before the middle of the first lane, and each lane is within the picture
  pub apart : (x : Extent) (misfit : Option Marked) (u : ℕ) → 1 ≤ u → u ≤ x.threads
      → (band_x x x.bands.count + 20 ≤ lane_x x u) × (lane_x x u < svg_width x misfit)
  pub all : (n : Called) (threads mutexes : ℕ) (ls : List Line) (last : ℕ) (misfit : Option Marked)
      → IsDrawnInPlace n (svg_extent n threads mutexes ls) ls misfit (svg_marked n threads mutexes ls last misfit)
  pub since : (x : Extent) (ls : List Line) → SinceIsTheNewest x ls

-- ---- the picture in text

-- each line has its row, with the state after it; the last row has the number of events
pub record TextIsInOrder (n : Called) (x : Extent) (ls : List Line) (last : ℕ) (picture : List ℕ) : Type 0 where
  pub lines : (before later : List Line) (l : Line) → ls ≡ before ++ (l ∷ later)
      → Contains picture (row_text n x (scene_after x.bands first_scene (before ++ (l ∷ [])) later) l)
  pub end : (rows : List ℕ) × (picture ≡ rows ++ (decimal last ++ codes "  end\n"))

abbrev pub TextDrawsInOrder : Type 0
TextDrawsInOrder = (n : Called) (threads mutexes : ℕ) (ls : List Line) (last : ℕ)
    → TextIsInOrder n (text_extent n threads mutexes ls) ls last (drawn n threads mutexes ls last)
