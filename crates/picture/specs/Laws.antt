-- What holds of every picture.
--
-- *A mark is in its own lane.* What is in the lanes at a line's row is a text of as many columns as the lanes
-- before its thread's have, then the line's mark, then the rest; in no other lane is a mark. A column is a character of
-- UTF-8.
--
-- *A lane that shows something is in its columns.* A row is a text of 8 columns for the event, those of each band
-- and of each lane before this one, then what is in the lane, then the rest: of each lane that no words of another
-- one cover, where the numbers of the line and the owners have as many digits as a trace's, and names are as a
-- script's. The last column of a band is blank. Where an arrow goes on after the words of a line, a blank parts them.
--
-- *Texts have room.* A letter is taken to be 7.5 pixels wide at most, which is more than one of a monospaced font at 11
-- pixels takes: then the words of a line end within the picture, up to five threads before the next lane's marks, and
-- neither the names of two bands touch nor those of two lanes. What is said of a marked line ends within the picture, too.
use Rattle.std.specs.Prelude.{All, Any, IsSomeAnd, Option, Some, None, ℕ, ◌≡◌, ◌≢◌, ◌≤◌, ◌<◌, ◌+◌, ◌-◌}
use Rattle.std.specs.Prelude.{◌*◌, ◌/◌, ◌^◌, ◌==◌, nat_lt, Bool, true, false, List, [], ◌∷◌, ◌++◌}
use Rattle.std.specs.Prelude.{length, codes, decimal, slice_index_or, IfSome, if◌then◌else◌}
use Rattle.std.specs.List.{concat, repeat}
use Rattle.posixmutex.specs.Objects.{fresh}
use Rattle.facts.specs.declared.fact.Line.{Line}
use Rattle.facts.specs.Facts.{decision_of, thread_of}
use Rattle.picture.specs.declared.rows.Part.TheVariants as part
use Rattle.picture.specs.declared.scene.Scene.{Scene}
use Rattle.picture.specs.declared.bands.Bands.{Bands}
use Rattle.picture.specs.declared.bands.Extent.{Extent}
use Rattle.picture.specs.Bands.{band_of, mutex_at, shown}
use Rattle.picture.specs.Drawn.{extent_in}
use Rattle.picture.specs.Heads.{band_head}
use Rattle.picture.specs.Layouts.{band_width, is_wide, width}
use Rattle.picture.specs.Names.{Called, most_letters, mutex_head, mutex_tail, thread_head, thread_tail}
use Rattle.picture.specs.Places.{band_x, lane_x, number_x, row_y, words_x}
use Rattle.picture.specs.Rows.{band_at, cell_at, cells, from_at, is_from_right}
use Rattle.picture.specs.Rows.{mark, part_of, row_text, sign, words_at}
use Rattle.picture.specs.Shapes.{words_y}
use Rattle.picture.specs.Signs.{dash}
use Rattle.picture.specs.Style.{shapes_style, style}
use Rattle.picture.specs.Svg.{Marked, line_marks, note_of, svg_width}
use Rattle.picture.specs.Words.{first_number, second_number}

-- ---- in text: a line's mark

-- a character takes one column; a byte from 128 to 191 goes on with one (utf-8)
abbrev pub column : ℕ → ℕ
column b = if nat_lt b 128 then 1 else (if nat_lt b 192 then 0 else 1)

abbrev pub columns : List ℕ → ℕ
columns [] = 0
columns (b ∷ bs) = column b + columns bs

-- what is in the lanes at the row of a line
abbrev pub lanes_text : Called → Extent → Scene → Line → List ℕ
lanes_text n x s l = cells x (thread_of l.fact) (from_at s l) (sign l.fact (from_at s l)) (words_at n s l) s.lanes

-- the line's sign, with its words where lanes have room for them
abbrev pub mark_of_line : Called → Extent → Scene → Line → List ℕ
mark_of_line n x s l = mark x (thread_of l.fact) (from_at s l) (sign l.fact (from_at s l)) (words_at n s l)

-- a line's mark is in its own thread's lane, after as many columns as the lanes before that one have, and in no
-- other
pub record StandsInItsLane (n : Called) (x : Extent) (s : Scene) (l : Line) : Type 0 where
  pub before : List ℕ
  pub behind : List ℕ
  pub whole : lanes_text n x s l ≡ before ++ (mark_of_line n x s l ++ behind)
  pub place : columns before ≡ (thread_of l.fact - 1) * width x
  pub alone : (u : ℕ) → u ≢ thread_of l.fact → part_of x (thread_of l.fact) (from_at s l) (words_at n s l) u ≢ part.Mark

-- so it is of every line of one of a picture's threads, whatever all lanes and bands show, and whatever things are
-- called
abbrev pub MarksStandInTheirLanes : Type 0
MarksStandInTheirLanes = (n : Called) (x : Extent) (s : Scene) (l : Line) → 1 ≤ thread_of l.fact
    → thread_of l.fact ≤ x.threads → StandsInItsLane n x s l

-- ---- in text: all lanes

-- what is in the lane after i others
abbrev pub lane_text : Called → Extent → Scene → Line → ℕ → List ℕ
lane_text n x s l i = cell_at x (thread_of l.fact) (from_at s l) (sign l.fact (from_at s l)) (words_at n s l) s.lanes i

-- no words of another lane are in lane u
abbrev pub Shows : Called → Extent → Scene → Line → ℕ → Type 0
Shows n x s l u = part_of x (thread_of l.fact) (from_at s l) (words_at n s l) u ≢ part.Covered

-- a name as scripts have them: at most 16 letters, each of one byte
abbrev pub IsName : List ℕ → Type 0
IsName name = All (λ b. b < 128) name × (length name ≤ most_letters)

pub record AreNames (n : Called) : Type 0 where
  pub threads : All IsName n.threads
  pub mutexes : All IsName n.mutexes
  pub conditions : All IsName n.conditions

-- a picture has room for each name, and for numbers of four digits where a band's mutex has more than two
pub record HasRoomForNames (n : Called) (x : Extent) : Type 0 where
  pub threads : All (λ m. length m ≤ x.letters) n.threads
  pub mutexes : All (λ m. length m ≤ x.letters) n.mutexes
  pub conditions : All (λ m. length m ≤ x.letters) n.conditions
  pub numbers : (i : ℕ) → i < x.bands.count → 100 ≤ mutex_at x.bands i → 4 ≤ x.letters
  pub few : x.letters ≤ most_letters

-- so has each that is drawn
abbrev pub PicturesHaveRoomForNames : Type 0
PicturesHaveRoomForNames = (room : ℕ) (n : Called) (threads mutexes : ℕ) (ls : List Line) → AreNames n
    → HasRoomForNames n (extent_in room n threads mutexes ls)

-- numbers as a trace's are: an event's has at most 6 digits, those of mutexes and condition variables have 4, and an
-- owner's 2
pub record HasNumbersOfATrace (s : Scene) (l : Line) : Type 0 where
  pub event : l.event < 10 ^ 6
  pub first : first_number l.fact < 10 ^ 4
  pub second : second_number l.fact < 10 ^ 4
  pub owners : (m : ℕ) → IfSome (slice_index_or s.objects m fresh).owner (λ t. t < 10 ^ 2)

-- lane u comes after the 8 columns of the event, those of all bands and those of the lanes before it
pub record StandsInItsColumns (n : Called) (x : Extent) (s : Scene) (l : Line) (u : ℕ) : Type 0 where
  pub before : List ℕ
  pub behind : List ℕ
  pub whole : row_text n x s l ≡ before ++ (lane_text n x s l (u - 1) ++ behind)
  pub place : columns before ≡ 8 + x.bands.count * band_width x + (u - 1) * width x

-- a blank parts a band from what comes after it
pub record EndsWithABlank (text : List ℕ) : Type 0 where
  pub name : List ℕ
  pub whole : text ≡ name ++ codes " "

-- a line's words, and after a blank the arrow that goes on to the right
pub record PartsItsWords (n : Called) (x : Extent) (s : Scene) (l : Line) : Type 0 where
  pub dashes : ℕ
  pub whole : mark_of_line n x s l
      ≡
      (sign l.fact (from_at s l) ++ (codes " " ++ concat (words_at n s l))) ++ (codes " " ++ repeat dashes dash)

-- so does each lane that shows something, whatever the line's words and its arrow, where there is room for the names
pub record ShownLanesStandInTheirColumns : Type 0 where
  pub lanes : (n : Called) (x : Extent) (s : Scene) (l : Line) → AreNames n → HasRoomForNames n x
      → HasNumbersOfATrace s l → 1 ≤ thread_of l.fact → thread_of l.fact ≤ x.threads → (u : ℕ) → 1 ≤ u → u ≤ x.threads
      → Shows n x s l u → StandsInItsColumns n x s l u
  pub arrows : (n : Called) (x : Extent) (s : Scene) (l : Line) → is_wide x ≡ true
      → is_from_right (thread_of l.fact) (from_at s l) ≡ true → PartsItsWords n x s l
  pub bands : (n : Called) (x : Extent) (s : Scene) (l : Line) → AreNames n → HasRoomForNames n x
      → HasNumbersOfATrace s l → (i : ℕ) → EndsWithABlank (band_at n x s.objects i)
  pub heads : (n : Called) (x : Extent) → AreNames n → HasRoomForNames n x → (i : ℕ) → i < x.bands.count
      → mutex_at x.bands i < 10 ^ 4 → EndsWithABlank (band_head n x i)

-- ---- in SVG

-- how many pixels that many letters take at most: no letter is wider than 7.5 at this size. A font is the reader's own;
-- of one whose letters are equally wide, at 11 pixels, each takes 6.6
abbrev pub pixels : ℕ → ℕ
pixels letters = 15 * letters / 2

-- how far to the right the words of a line reach
abbrev pub words_end : Called → Extent → Scene → Line → ℕ
words_end n x s l = words_x (lane_x x (thread_of l.fact)) + pixels (length (concat (words_at n s l)))

-- the words of a line end within the picture; up to five lanes have room for them, up to the next lane's marks, which
-- begin 7 before its middle; and the number of its event begins within the picture
pub record HasRoom (n : Called) (x : Extent) (s : Scene) (l : Line) : Type 0 where
  pub inside : (misfit : Option Marked) → words_end n x s l ≤ svg_width x misfit
  pub apart : x.threads ≤ 5 → words_end n x s l ≤ lane_x x (thread_of l.fact + 1) - 7
  pub event : pixels (length (decimal l.event)) ≤ number_x

-- a line is drawn as the number of its event, which ends there, its mark, and its words, which begin there
pub record IsDrawnSo (n : Called) (x : Extent) (s : Scene) (l : Line) (k : ℕ) : Type 0 where
  pub mark : List ℕ
  pub above : Bool
  pub whole : line_marks n x s l k
      ≡
      (codes "<text class=\"n\" x=\""
      ++ (decimal number_x
      ++ (codes "\" y=\"" ++ (decimal (row_y k + 4) ++ (codes "\">" ++ (decimal l.event ++ codes "</text>"))))))
      ++ (mark
      ++ ((codes "<text class=\"t\" x=\"" ++ (decimal (words_x (lane_x x (thread_of l.fact))) ++ (codes "\" y=\"" ++ (decimal (words_y k above) ++ codes "\">"))))
      ++ (concat (words_at n s l) ++ codes "</text>\n")))

-- whether a text begins so, and whether such a word is in it
abbrev pub begins_with : List ℕ → List ℕ → Bool
begins_with [] text = true
begins_with (b ∷ bs) [] = false
begins_with (b ∷ bs) (c ∷ cs) = if b == c then begins_with bs cs else false

abbrev pub mentions : List ℕ → List ℕ → Bool
mentions word [] = false
mentions word (c ∷ cs) = if begins_with word (c ∷ cs) then true else mentions word cs

-- all texts are of one font, whose letters are equally wide, at 11 pixels. The numbers of events end where they stand,
-- the names of bands and lanes have their middle there, and all other texts begin there
pub record HasOneFont : Type 0 where
  pub first : style
      ≡ codes "<style>text{font:11px monospace}.n{text-anchor:end;fill:#777}.h{text-anchor:middle;font-weight:bold}"
      ++ shapes_style
  pub fonts : mentions (codes "font") shapes_style ≡ false
  pub anchors : mentions (codes "text-anchor") shapes_style ≡ false

-- so it is of every line of one of a picture's threads where there is room for the names, and neither the names of two
-- bands touch nor those of two lanes; and what is said of a marked line, which begins at 54 (`SvgDrawsInPlace`), has room
pub record TextsHaveRoom : Type 0 where
  pub font : HasOneFont
  pub drawn : (n : Called) (x : Extent) (s : Scene) (l : Line) (k : ℕ) → IsDrawnSo n x s l k
  pub lines : (n : Called) (x : Extent) (s : Scene) (l : Line) → AreNames n → HasRoomForNames n x
      → HasNumbersOfATrace s l → 1 ≤ thread_of l.fact → thread_of l.fact ≤ x.threads → HasRoom n x s l
  pub bands : (n : Called) (x : Extent) → AreNames n → HasRoomForNames n x → (i : ℕ) → i < x.bands.count
      → mutex_at x.bands i < 10 ^ 4
      → band_x x i + pixels (length (mutex_head n (mutex_at x.bands i) ++ mutex_tail n (mutex_at x.bands i)))
      < band_x x (i + 1)
  pub note : (x : Extent) (m : Marked) → 54 + pixels (length (note_of m.line m.note)) ≤ svg_width x (Some m)
  pub lanes : (n : Called) (x : Extent) → AreNames n → HasRoomForNames n x → (u : ℕ) → 1 ≤ u → u < 10 ^ 2
      → lane_x x u + pixels (length (thread_head n u ++ thread_tail n u)) < lane_x x (u + 1)

-- ---- bands

-- a line tells a point or a death of a mutex
abbrev pub Uses : ℕ → Line → Type 0
Uses m l = IsSomeAnd (decision_of l.fact) (λ d. d.mutex ≡ m)

-- mutexes with bands, where there is room for that many: each has one band; where all fit, mutex i has band i; else only
-- mutexes have one of which a line tells, and one of which a line tells has none only where all room is taken
pub record AreShown (room mutexes : ℕ) (ls : List Line) (b : Bands) : Type 0 where
  pub few : b.count ≤ room
  pub once : (i : ℕ) → i < b.count → band_of b (mutex_at b i) ≡ Some i
  pub all : mutexes ≤ room → (m : ℕ) → m < mutexes → band_of b m ≡ Some m
  pub named : room < mutexes → (i : ℕ) → i < b.count → Any (Uses (mutex_at b i)) ls
  pub full : room < mutexes → (m : ℕ) → Any (Uses m) ls → band_of b m ≡ None → b.count ≡ room

abbrev pub UsedMutexesHaveBands : Type 0
UsedMutexesHaveBands =
    (room mutexes : ℕ) (ls : List Line) → room ≤ 16 → AreShown room mutexes ls (shown room mutexes ls)
