-- Who reads a page's items comes to the states.
use Rattle.std.proofs.Common.{◌≡◌, ℕ, Bool, true, false, List, [], ◌∷◌, ◌++◌, length, refl, ap, ◌∙◌}
use Rattle.std.specs.Prelude.{◌==◌, ◌%◌, if◌then◌else◌}
use Rattle.facts.specs.declared.fact.Line.{Line}
use Rattle.page.specs.Shows.{Item, Whole, Turn, PageShows, items_behind, lines_in, read_from, states_behind, turn, whole_every}
use Rattle.page.specs.States.{Shown, change_of, changed, state_behind}
use Rattle.page.proofs.Behind.{change_leads}

-- whether the whole state comes before the other items or not
abbrev pub perhaps : Bool → Shown → List Item
perhaps whole s = if whole then Whole s ∷ [] else []

read_perhaps : (whole : Bool) (s : Shown) (is : List Item) → read_from s (perhaps whole s ++ is) ≡ read_from s is
read_perhaps true s is = refl
read_perhaps false s is = refl

lines_perhaps : (whole : Bool) (s : Shown) (is : List Item) → lines_in (perhaps whole s ++ is) ≡ lines_in is
lines_perhaps true s is = refl
lines_perhaps false s is = refl

-- a line's items before others
turn_before : (whole : Bool) (s : Shown) (i : Item) (is : List Item) → (perhaps whole s ++ i ∷ []) ++ is ≡ perhaps whole s ++ i ∷ is
turn_before true s i is = refl
turn_before false s i is = refl

reads : (threads mutexes : ℕ) (es more : List Line) → read_from (state_behind threads mutexes es) (items_behind threads mutexes es more) ≡ states_behind threads mutexes es more
reads threads mutexes es [] = refl
reads threads mutexes es (e ∷ more) =
    let s = state_behind threads mutexes es in
    let rest = items_behind threads mutexes (e ∷ es) more in
    let whole = (length es % whole_every) == 0 in
    let first : read_from s (turn threads mutexes es e ++ rest) ≡ changed s (change_of e es) ∷ read_from (changed s (change_of e es)) rest = ap (read_from s) (turn_before whole s (Turn e (change_of e es)) rest) ∙ read_perhaps whole s (Turn e (change_of e es) ∷ rest) in
    first
    ∙ ap (λ (w : Shown). w ∷ read_from w rest) (change_leads threads mutexes e es)
    ∙ ap (λ (ws : List Shown). state_behind threads mutexes (e ∷ es) ∷ ws) (reads threads mutexes (e ∷ es) more)

has_lines : (threads mutexes : ℕ) (es more : List Line) → lines_in (items_behind threads mutexes es more) ≡ more
has_lines threads mutexes es [] = refl
has_lines threads mutexes es (e ∷ more) =
    let s = state_behind threads mutexes es in
    let rest = items_behind threads mutexes (e ∷ es) more in
    let whole = (length es % whole_every) == 0 in
    let first : lines_in (turn threads mutexes es e ++ rest) ≡ e ∷ lines_in rest = ap lines_in (turn_before whole s (Turn e (change_of e es)) rest) ∙ lines_perhaps whole s (Turn e (change_of e es) ∷ rest) in
    first ∙ ap (λ (ls : List Line). e ∷ ls) (has_lines threads mutexes (e ∷ es) more)

-- the first item is a whole state
from_anywhere : (threads mutexes : ℕ) (ls : List Line) (s : Shown) → read_from s (items_behind threads mutexes [] ls) ≡ read_from (state_behind threads mutexes []) (items_behind threads mutexes [] ls)
from_anywhere threads mutexes [] s = refl
from_anywhere threads mutexes (e ∷ more) s = refl

pub page_shows : PageShows
page_shows threads mutexes ls = record {
  states = λ s. from_anywhere threads mutexes ls s ∙ reads threads mutexes [] ls;
  lines = has_lines threads mutexes [] ls;
}
