-- The shapes of an SVG picture.
use Rattle.std.specs.Prelude.{ℕ, ◌+◌, ◌-◌, nat_lt, Bool, Option, Some, None, List}
use Rattle.std.specs.Prelude.{[], ◌∷◌, ◌++◌, codes, decimal, if◌then◌else◌}
use Rattle.std.specs.List.{concat}
use Rattle.posixmutex.specs.declared.object.Object.{Object}
use Rattle.facts.specs.declared.fact.Fact.{Fact}
use Rattle.facts.specs.declared.fact.Fact.TheVariants as fact
use Rattle.picture.specs.declared.lane.Lane.{Lane}
use Rattle.picture.specs.declared.lane.Lane.TheVariants as lane
use Rattle.picture.specs.declared.bands.Extent.{Extent}
use Rattle.picture.specs.Names.{Called, thread_head, thread_tail}
use Rattle.picture.specs.Places.{band_middle, band_wide, band_x, number_x, row_y, words_x}

-- ---- what lanes and bands show, from one line to another one

abbrev pub rectangle : List ℕ → ℕ → ℕ → ℕ → ℕ → List ℕ
rectangle class left top width height = concat
    (codes "<rect class=\"" ∷ class ∷ codes "\" x=\"" ∷ decimal left ∷ codes "\" y=\"" ∷ decimal top
    ∷ codes "\" width=\"" ∷ decimal width ∷ codes "\" height=\"" ∷ decimal height ∷ codes "\"/>\n" ∷ [])

-- a call, sleep in it, and the time from a kill to the end of the walk
abbrev pub lane_class : Lane → Option (List ℕ)
lane_class (lane.Calling op) = Some (codes "c")
lane_class (lane.Asleep op) = Some (codes "s")
lane_class lane.Dying = Some (codes "d")
lane_class l = None

abbrev pub lane_box : Option (List ℕ) → ℕ → ℕ → ℕ → List ℕ
lane_box None middle from to = []
lane_box (Some class) middle from to = rectangle class (middle - 5) (row_y from) 10 (row_y to - row_y from)

abbrev pub lane_shape : Lane → ℕ → ℕ → ℕ → List ℕ
lane_shape l middle from to = lane_box (lane_class l) middle from to

-- an owner, one that hasn't declared the mutex consistent, an owner's death that nobody knows of yet, and a
-- mutex that is lost
abbrev pub owned_class : Option ℕ → Bool → Bool → Option (List ℕ)
owned_class (Some t) inconsistent unusable = if inconsistent then Some (codes "i") else Some (codes "o")
owned_class None inconsistent unusable =
    if unusable then Some (codes "u") else (if inconsistent then Some (codes "w") else None)

abbrev pub band_class : Object → Option (List ℕ)
band_class o = owned_class o.owner o.inconsistent o.unusable

-- the name of a thing, in two pieces, its middle here
abbrev pub name_at : List ℕ → List ℕ → List ℕ
name_at middle y = concat (codes "<text class=\"h\" x=\"" ∷ middle ∷ codes "\" y=\"" ∷ y ∷ codes "\">" ∷ [])

abbrev pub name_label : List ℕ → List ℕ → ℕ → ℕ → List ℕ
name_label head tail middle y = name_at (decimal middle) (decimal y) ++ concat (head ∷ tail ∷ codes "</text>" ∷ [])

abbrev pub owner_label : Called → ℕ → ℕ → ℕ → List ℕ
owner_label n t middle top = name_label (thread_head n t) (thread_tail n t) middle (top + 4) ++ codes "\n"

abbrev pub owner_of : Called → Option ℕ → ℕ → ℕ → List ℕ
owner_of n None middle top = []
owner_of n (Some t) middle top = owner_label n t middle top

abbrev pub stretch : Called → Extent → List ℕ → Option ℕ → ℕ → ℕ → ℕ → List ℕ
stretch n x class owner i from to = rectangle class (band_x x i) (row_y from - 9) (band_wide x) (row_y to - row_y from)
    ++ owner_of n owner (band_x x i + band_middle x) (row_y from)

abbrev pub band_box : Called → Extent → Option (List ℕ) → Option ℕ → ℕ → ℕ → ℕ → List ℕ
band_box n x None owner i from to = []
band_box n x (Some class) owner i from to = stretch n x class owner i from to

abbrev pub band_shape : Called → Extent → Object → ℕ → ℕ → ℕ → List ℕ
band_shape n x o i from to = band_box n x (band_class o) o.owner i from to

-- ---- a line's mark

abbrev pub mark_class : Fact → List ℕ
mark_class (fact.Begin t c) = codes "b"
mark_class (fact.Return t x) = codes "b"
mark_class (fact.Sleep t q) = codes "b"
mark_class (fact.Point d) = codes "p"
mark_class (fact.Death t m) = codes "k"
mark_class (fact.Kill t) = codes "k"
mark_class (fact.Reap t) = codes "k"
mark_class (fact.Renew t) = codes "b"
mark_class (fact.Wake t) = codes "q"
mark_class (fact.Move t m) = codes "q"

-- a stroke, a disc, a z, a cross, a star and so on, from the middle of the lane
abbrev pub mark_path : Fact → List ℕ
mark_path (fact.Begin t c) = codes "m-7 0h14"
mark_path (fact.Return t x) = codes "m-7 0h14"
mark_path (fact.Sleep t q) = codes "m-4-4h8l-8 8h8"
mark_path (fact.Point d) = codes "m-4 0a4 4 0 1 0 8 0a4 4 0 1 0-8 0"
mark_path (fact.Death t m) = codes "m0-6v7m0 3v2"
mark_path (fact.Kill t) = codes "m-5-5l10 10m0-10l-10 10"
mark_path (fact.Reap t) = codes "m0-6v12m-4-8h8"
mark_path (fact.Renew t) = codes "m0-6v12m-5-9l10 6m0-6l-10 6"
mark_path (fact.Wake t) = codes "m-4 0a4 4 0 1 0 8 0a4 4 0 1 0-8 0"
mark_path (fact.Move t m) = codes "m-4 0a4 4 0 1 0 8 0a4 4 0 1 0-8 0"

abbrev pub mark_shape : Fact → ℕ → ℕ → List ℕ
mark_shape f middle k = concat
    (codes "<path class=\"" ∷ mark_class f ∷ codes "\" d=\"M" ∷ decimal middle ∷ codes " " ∷ decimal (row_y k)
    ∷ mark_path f ∷ codes "\"/>" ∷ [])

abbrev pub arrow_shape : ℕ → ℕ → ℕ → List ℕ
arrow_shape from to k = concat
    (codes "<path class=\"a\" d=\"M" ∷ decimal from ∷ codes " " ∷ decimal (row_y k) ∷ codes "H"
    ∷ decimal (if nat_lt from to then to - 6 else to + 6) ∷ codes "\"/>" ∷ [])

-- ---- a line's texts

abbrev pub number_label : ℕ → ℕ → List ℕ
number_label i k = concat
    (codes "<text class=\"n\" x=\"" ∷ decimal number_x ∷ codes "\" y=\"" ∷ decimal (row_y k + 4) ∷ codes "\">"
    ∷ decimal i ∷ codes "</text>" ∷ [])

-- beside the mark; above an arrow from the right
abbrev pub words_y : ℕ → Bool → ℕ
words_y k above = if above then row_y k - 3 else row_y k + 4

abbrev pub words_at_pixel : List ℕ → List ℕ → List ℕ
words_at_pixel left y = concat (codes "<text class=\"t\" x=\"" ∷ left ∷ codes "\" y=\"" ∷ y ∷ codes "\">" ∷ [])

abbrev pub words_label : List (List ℕ) → ℕ → ℕ → Bool → List ℕ
words_label ws middle k above =
    words_at_pixel (decimal (words_x middle)) (decimal (words_y k above)) ++ (concat ws ++ codes "</text>\n")
