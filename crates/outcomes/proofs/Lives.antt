-- How far threads have come, in lists.
use Rattle.std.proofs.Common.{◌≡◌, ℕ, zero, suc, ◌+◌, ◌-◌, ◌<◌, ◌≤◌, List, [], ◌∷◌, ◌++◌, length, take, drop, Option, Some, None, refl, sym, ap, ◌∙◌, arith, get_or, Vec, Global}
use Rattle.std.specs.Prelude.{slice_index_or, slice_set, slice_get}
use Rattle.std.proofs.lemmas.List.{take_more, map_push, map-set, get_or-map, length-map, length-set}
use Rattle.std.proofs.lemmas.Option.{slice_get_past, slice_get_read}
use Rattle.lockword.specs.declared.reply.Reply.{Reply}
use Rattle.outcomes.specs.declared.kept.Life.{Life}
use Rattle.outcomes.specs.declared.next.Next.{Next}
use Rattle.outcomes.specs.declared.plan.Item.{Item}
use Rattle.outcomes.specs.declared.plan.Plan.{Plan}
use Rattle.outcomes.specs.Plans.{items_in, items_of, last_reply, next_among}
use Rattle.outcomes.specs.Positions.{Place, first_place, place_of, next_call}
use Rattle.protocol.specs.declared.event.Event.{Event}
use Rattle.protocol.specs.declared.event.Event.TheVariants as event
use Rattle.outcomes.specs.Events.{replied, begun, places_begun}
use Rattle.outcomes.specs.Kept.{place_in, places_in}

-- past its end a list isn't written
set_past : (ps : List Place) (i : ℕ) (x : Place) → length ps ≤ i → slice_set ps i x ≡ ps
set_past [] i x h = refl
set_past (p ∷ ps) zero x h = absurd (omega arith)
set_past (p ∷ ps) (suc i) x h = ap (λ (qs : List Place). p ∷ qs) (set_past ps i x (omega arith))

-- nor read
read_past : (ps : List Place) (i : ℕ) → length ps ≤ i → slice_index_or ps i first_place ≡ first_place
read_past [] i h = refl
read_past (p ∷ ps) zero h = absurd (omega arith)
read_past (p ∷ ps) (suc i) h = read_past ps i (omega arith)

at_index : (i t : ℕ) → i + 1 ≡ t → t - 1 ≡ i
at_index i t e = omega arith

-- how far a thread has come is what is kept of it
pub place_read : (ls : List Life) (i t : ℕ) (life : Life) → i + 1 ≡ t → i < length ls → life ≡ get_or ls i life → place_of (places_in ls) t ≡ place_in life
place_read ls i t life e lt is = ap (λ (k : ℕ). slice_index_or (places_in ls) k first_place) (at_index i t e) ∙ get_or-map place_in ls i life first_place lt ∙ ap place_in (sym is)

pub place_past : (ls : List Life) (i t : ℕ) → i + 1 ≡ t → length ls ≤ i → place_of (places_in ls) t ≡ first_place
place_past ls i t e past = ap (λ (k : ℕ). slice_index_or (places_in ls) k first_place) (at_index i t e) ∙ read_past (places_in ls) i (let n = length-map ls place_in in omega arith)

-- a thread that begins its next call
pub begun_is : (ls : List Life) (i t : ℕ) (life : Life) (n : Next) → i + 1 ≡ t → i < length ls → life ≡ get_or ls i life → places_in (slice_set ls i (record life { at = n.at })) ≡ begun (places_in ls) t (Some n)
begun_is ls i t life n e lt is =
    map-set place_in ls i (record life { at = n.at })
    ∙ (λ j. slice_set (places_in ls) (sym (at_index i t e) j) (record { at = n.at; replies = (sym (place_read ls i t life e lt is) j).replies }))

pub begun_past : (ls : List Life) (i t : ℕ) (n : Next) → i + 1 ≡ t → length ls ≤ i → places_in ls ≡ begun (places_in ls) t (Some n)
begun_past ls i t n e past = sym (set_past (places_in ls) (t - 1) _ (let k = length-map ls place_in in omega arith))

-- and one whose call returns
pub replied_is : (ls : List Life) (i t : ℕ) (life : Life) (x : Reply) (now : Vec Reply Global) → i + 1 ≡ t → i < length ls → life ≡ get_or ls i life → now.items ≡ life.replies.items ++ x ∷ []
    → places_in (slice_set ls i (record { at = life.at; replies = now })) ≡ replied (Some (t, x)) (places_in ls)
replied_is ls i t life x now e lt is said =
    map-set place_in ls i (record { at = life.at; replies = now })
    ∙ ap (λ (rs : List Reply). slice_set (places_in ls) i (record { at = life.at; replies = rs })) said
    ∙ (λ j. slice_set (places_in ls) (sym (at_index i t e) j) (record { at = (sym (place_read ls i t life e lt is) j).at; replies = (sym (place_read ls i t life e lt is) j).replies ++ x ∷ [] }))

pub replied_past : (ls : List Life) (i t : ℕ) (x : Reply) → i + 1 ≡ t → length ls ≤ i → places_in ls ≡ replied (Some (t, x)) (places_in ls)
replied_past ls i t x e past = sym (set_past (places_in ls) (t - 1) _ (let k = length-map ls place_in in omega arith))

-- one more that is copied
pub copied : (ls xs : List Life) (i : ℕ) (life : Life) (rs : Vec Reply Global) → i < length ls → life ≡ get_or ls i life → rs.items ≡ life.replies.items → places_in xs ≡ places_in (take i ls) → places_in (xs ++ record { at = life.at; replies = rs } ∷ []) ≡ places_in (take (i + 1) ls)
copied ls xs i life rs lt is same before =
    map_push place_in xs (record { at = life.at; replies = rs })
    ∙ (λ j. before j ++ record { at = life.at; replies = same j } ∷ [])
    ∙ sym (map_push place_in (take i ls) life)
    ∙ ap places_in (sym (take_more ls i life lt ∙ ap (λ (x : Life). take i ls ++ x ∷ []) (sym is)))

-- ---- the next call

items_past : (plan : Plan) (i t : ℕ) → i + 1 ≡ t → length plan.threads.items ≤ i → items_of plan t ≡ []
items_past plan i t e past = ap (λ (k : ℕ). items_in (slice_get plan.threads.items k)) (at_index i t e) ∙ ap items_in (slice_get_past plan.threads.items i past)

items_read : (plan : Plan) (i t : ℕ) (v : Vec Item Global) → i + 1 ≡ t → i < length plan.threads.items → v ≡ get_or plan.threads.items i v → items_of plan t ≡ v.items
items_read plan i t v e lt is = ap (λ (k : ℕ). items_in (slice_get plan.threads.items k)) (at_index i t e) ∙ ap items_in (slice_get_read plan.threads.items (length plan.threads.items) i v refl lt is)

none_left : (last : Option Reply) (at k : ℕ) → next_among last at (drop k []) ≡ None
none_left last at zero = refl
none_left last at (suc k) = refl

pub next_none : (plan : Plan) (places : List Place) (i t : ℕ) → i + 1 ≡ t → length plan.threads.items ≤ i → None ≡ next_call plan places t
next_none plan places i t e past =
    let p = place_of places t in
    sym (ap (λ (xs : List Item). next_among (last_reply p.replies) p.at (drop p.at xs)) (items_past plan i t e past) ∙ none_left (last_reply p.replies) p.at p.at)

pub next_first : (plan : Plan) (ls : List Life) (i t : ℕ) (v : Vec Item Global) → i + 1 ≡ t → i < length plan.threads.items → v ≡ get_or plan.threads.items i v → length ls ≤ i → next_among None 0 (drop 0 v.items) ≡ next_call plan (places_in ls) t
next_first plan ls i t v e lt is past =
    sym (ap (λ (p : Place). next_among (last_reply p.replies) p.at (drop p.at (items_of plan t))) (place_past ls i t e past)
    ∙ ap (λ (xs : List Item). next_among None 0 (drop 0 xs)) (items_read plan i t v e lt is))

pub next_read : (plan : Plan) (ls : List Life) (i t : ℕ) (v : Vec Item Global) (life : Life) → i + 1 ≡ t → i < length plan.threads.items → v ≡ get_or plan.threads.items i v → i < length ls → life ≡ get_or ls i life
    → next_among (last_reply life.replies.items) life.at (drop life.at v.items) ≡ next_call plan (places_in ls) t
next_read plan ls i t v life e lt is below it =
    sym (ap (λ (p : Place). next_among (last_reply p.replies) p.at (drop p.at (items_of plan t))) (place_read ls i t life e below it)
    ∙ ap (λ (xs : List Item). next_among (last_reply life.replies.items) life.at (drop life.at xs)) (items_read plan i t v e lt is))

-- ---- as many threads

pub replied_long : (said : Option (ℕ × Reply)) (ps : List Place) → length (replied said ps) ≡ length ps
replied_long None ps = refl
replied_long (Some r) ps = length-set ps (r.0 - 1) _

begun_long : (ps : List Place) (t : ℕ) (n : Option Next) → length (begun ps t n) ≡ length ps
begun_long ps t None = refl
begun_long ps t (Some n) = length-set ps (t - 1) _

pub places_long : (plan : Plan) (ps : List Place) (e : Event) → length (places_begun plan ps e) ≡ length ps
places_long plan ps (event.Begin t o) = begun_long ps t (next_call plan ps t)
places_long plan ps e = refl

pub lives_long : (plan : Plan) (ls ms : List Life) (said : Option (ℕ × Reply)) (e : Event) → places_in ms ≡ replied said (places_begun plan (places_in ls) e) → length ms ≡ length ls
lives_long plan ls ms said e is = sym (length-map ms place_in) ∙ ap (λ (ps : List Place). length ps) is ∙ replied_long said (places_begun plan (places_in ls) e) ∙ places_long plan (places_in ls) e ∙ length-map ls place_in
