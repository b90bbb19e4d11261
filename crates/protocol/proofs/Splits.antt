-- A note among those of a run is that of one of its events.
use Rattle.std.proofs.Common.{◌≡◌, List, [], ◌∷◌, ◌++◌, append_assoc, refl, sym, ap, ◌∙◌}
use Rattle.protocol.proofs.Vocabulary.{Fact, Event, Note, facts_of, State, happens, run, notes, facts_among}

pub record Split (s : State) (a : List Note) (n : Note) (b : List Note) : Type 0 where
  pub first : List Event
  pub event : Event
  pub rest : List Event
  pub before : notes s first ≡ a
  pub note : (happens (run s first) event).note ≡ n
  pub behind : notes (happens (run s first) event).state rest ≡ b

same_ends : (x y : Note) (xs ys : List Note) → x ∷ xs ≡ y ∷ ys → (x ≡ y) × (xs ≡ ys)
same_ends x y xs ys same = (cc, cc)

pub split : (s : State) (es : List Event) (a : List Note) (n : Note) (b : List Note) → notes s es ≡ a ++ n ∷ b → Split s a n b
split s [] [] n b is = absurd cc
split s [] (x ∷ a) n b is = absurd cc
split s (e ∷ es) [] n b is =
    let ends = same_ends (happens s e).note n (notes (happens s e).state es) b is in
    record { first = []; event = e; rest = es; before = refl; note = ends.0; behind = ends.1 }
split s (e ∷ es) (x ∷ a) n b is =
    let ends = same_ends (happens s e).note x (notes (happens s e).state es) (a ++ n ∷ b) is in
    let later = split (happens s e).state es a n b ends.1 in
    record { first = e ∷ later.first; event = later.event; rest = later.rest; before = λ i. ends.0 i ∷ later.before i; note = later.note; behind = later.behind }

pub facts_among-append : (xs ys : List Note) → facts_among (xs ++ ys) ≡ facts_among xs ++ facts_among ys
facts_among-append [] ys = refl
facts_among-append (x ∷ xs) ys = ap (λ (fs : List Fact). facts_of x ++ fs) (facts_among-append xs ys) ∙ sym (append_assoc (facts_of x) (facts_among xs) (facts_among ys))
