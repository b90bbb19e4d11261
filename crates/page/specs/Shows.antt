-- What the page says of a trace, line by line.
--
-- *What the page shows.* The state after each line, in the order of the lines: before every thousandth line, the first
-- among them, the whole state; of each line what it changes. A reader who starts at any of the whole ones gets just
-- the states after the lines (the law `page_shows`).
use Rattle.std.specs.Prelude.{ℕ, ◌≡◌, ◌==◌, ◌%◌, List, [], ◌∷◌, ◌++◌, length, if◌then◌else◌}
use Rattle.facts.specs.declared.fact.Line.{Line}
use Rattle.page.specs.States.{Change, Shown, change_of, changed, state_behind}

-- a whole state, or a line and what it changes
pub data Item : Type 0 where
  Whole : Shown → Item
  Turn : Line → Change → Item

-- the states that items say, one for each line: the reader
abbrev pub read_from : Shown → List Item → List Shown
read_from s [] = []
read_from s (Whole w ∷ is) = read_from w is
read_from s (Turn e c ∷ is) = changed s c ∷ read_from (changed s c) is

-- the lines that they are of
abbrev pub lines_in : List Item → List Line
lines_in [] = []
lines_in (Whole w ∷ is) = lines_in is
lines_in (Turn e c ∷ is) = e ∷ lines_in is

-- ---- of a trace with that many threads and mutexes, the items of lines after earlier ones

abbrev pub whole_every : ℕ
whole_every = 1000

abbrev pub whole_at : ℕ → ℕ → List Line → List Item
whole_at threads mutexes es =
    if (length es % whole_every) == 0 then Whole (state_behind threads mutexes es) ∷ [] else []

-- those of one line
abbrev pub turn : ℕ → ℕ → List Line → Line → List Item
turn threads mutexes es e = whole_at threads mutexes es ++ Turn e (change_of e es) ∷ []

abbrev pub items_behind : ℕ → ℕ → List Line → List Line → List Item
items_behind threads mutexes es [] = []
items_behind threads mutexes es (e ∷ more) =
    turn threads mutexes es e ++ items_behind threads mutexes (e ∷ es) more

-- the states after each of these lines
abbrev pub states_behind : ℕ → ℕ → List Line → List Line → List Shown
states_behind threads mutexes es [] = []
states_behind threads mutexes es (e ∷ more) =
    state_behind threads mutexes (e ∷ es) ∷ states_behind threads mutexes (e ∷ es) more

-- ---- what holds of every page

-- who reads the items of a trace's lines, whatever he takes for the state before them, comes to the states after these
-- lines; and they are of all of these lines, in their order
pub record IsShown (threads mutexes : ℕ) (ls : List Line) : Type 0 where
  pub states : (s : Shown) → read_from s (items_behind threads mutexes [] ls) ≡ states_behind threads mutexes [] ls
  pub lines : lines_in (items_behind threads mutexes [] ls) ≡ ls

abbrev pub PageShows : Type 0
PageShows = (threads mutexes : ℕ) (ls : List Line) → IsShown threads mutexes ls
