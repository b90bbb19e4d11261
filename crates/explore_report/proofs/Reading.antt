-- How demands are read, one after the other.
use Rattle.std.proofs.Common.{◌≡◌, ℕ, ◌+◌, Bool, true, false, inr, List, [], ◌∷◌, ◌++◌, map, drop, length, Option, Some, None, Result, Ok, Err, IfOk, IfErr, refl, sym, ap, subst, ◌∙◌, append_assoc, append-nil, ◌≤◌, Bor}
use Rattle.std.specs.Prelude.{is_some, option_map, slice_get, if◌then◌else◌}
use Rattle.std.proofs.Math.ListN.{drop_of_length-le}
use Rattle.lines.specs.Lines.{words_of}
use Rattle.script.specs.Scope.{Scope}
use Rattle.explore_report.specs.declared.patterns.Pattern.{Pattern}
use Rattle.explore_report.specs.Patterns.{pattern_words, place_of}
use Rattle.explore_report.specs.Texts.{Demanded}
use Rattle.outcomes.specs.Outcomes.{AreDifferent, AreWitnessed, HasAll}
use Rattle.outcomes.specs.declared.exploring.Found.{Found}
use Rattle.outcomes.specs.declared.plan.Plan.{Plan}
use Rattle.explore_report.specs.declared.exploring.Told.{Told}
use Rattle.explore_report.specs.declared.exploring.Untold.{Untold}
use Rattle.explore_report.specs.declared.exploring.Untold.TheVariants.{OutOfMemory, Ill, NoThread, NoPattern, NoOutcome, TooLong, Unplayed}
use Rattle.explore_report.specs.Asked.{Choices, states_of}
use Rattle.explore_report.specs.Plans.{Said, said_read}
use Rattle.explore_report.specs.Told.{Answers, Demands, IsAsked, IsFound, Question', Tells, Unanswered, Unasked, Untells, both, demand_read, demands_read, first_unknown}
use Rattle.explore_report.proofs.Loops.{item_dropped}

abbrev texts : List (Bor (List ℕ)) → List (List ℕ)
texts words = map (λ w. w.now) words

both_more : (ds es : List Demanded) (r : Result (List Demanded) (List ℕ)) → both (Ok ds) (both (Ok es) r) ≡ both (Ok (ds ++ es)) r
both_more ds es (Ok fs) = ap Ok (sym (append_assoc ds es fs))
both_more ds es (Err words) = refl

both_none : (r : Result (List Demanded) (List ℕ)) → both (Ok []) r ≡ r
both_none (Ok ds) = refl
both_none (Err words) = refl

both_ill : (ds : List Demanded) (r : Result (List Demanded) (List ℕ)) (words : List ℕ) → both (Ok ds) r ≡ Err words → r ≡ Err words
both_ill ds (Ok es) words e = absurd cc
both_ill ds (Err other) words e = e

module _ (s : Scope) (always : Bool) where
  -- a pattern more is read
  pub demands_on : (words : List (Bor (List ℕ))) (i : ℕ) (w : Bor (List ℕ)) (p : Pattern) (now next : List Demanded) → slice_get words i ≡ Some w → pattern_words s (words_of w.now) ≡ Some p → next ≡ now ++ (record { words = w.now; pattern = p; always = always }) ∷ []
      → both (Ok next) (demands_read s always (texts (drop (i + 1) words))) ≡ both (Ok now) (demands_read s always (texts (drop i words)))
  demands_on words i w p now next at reads adds =
      let first = ap (λ (l : List (Bor (List ℕ))). demands_read s always (texts l)) (item_dropped words i w at) in
      let known = ap (λ (o : Option Pattern). both (demand_read w.now always o) (demands_read s always (texts (drop (i + 1) words)))) reads in
      ap (λ (ds : List Demanded). both (Ok ds) (demands_read s always (texts (drop (i + 1) words)))) adds
      ∙ sym (both_more now _ (demands_read s always (texts (drop (i + 1) words))))
      ∙ ap (both (Ok now)) (sym (first ∙ known))

  -- a pattern is none
  pub demands_end : (words : List (Bor (List ℕ))) (i : ℕ) (w : Bor (List ℕ)) (now old : List Demanded) → slice_get words i ≡ Some w → pattern_words s (words_of w.now) ≡ None
      → both (Ok now) (demands_read s always (texts (drop i words))) ≡ both (Ok old) (demands_read s always (texts words)) → demands_read s always (texts words) ≡ Err w.now
  demands_end words i w now old at none is =
      let first = ap (λ (l : List (Bor (List ℕ))). demands_read s always (texts l)) (item_dropped words i w at) in
      let unknown = ap (λ (o : Option Pattern). both (demand_read w.now always o) (demands_read s always (texts (drop (i + 1) words)))) none in
      both_ill old _ w.now (sym is ∙ ap (both (Ok now)) (first ∙ unknown))

  -- all are read
  pub demands_all : (words : List (Bor (List ℕ))) (i : ℕ) (now old : List Demanded) → length words ≤ i → both (Ok now) (demands_read s always (texts (drop i words))) ≡ both (Ok old) (demands_read s always (texts words)) → both (Ok old) (demands_read s always (texts words)) ≡ Ok now
  demands_all words i now old past is = sym is ∙ ap (λ (l : List (Bor (List ℕ))). both (Ok now) (demands_read s always (texts l))) (drop_of_length-le words past) ∙ ap Ok (append-nil now)

-- after none
pub demands_first : (r : Result (List Demanded) (List ℕ)) (ds : List Demanded) → both (Ok []) r ≡ Ok ds → r ≡ Ok ds
demands_first r ds e = sym (both_none r) ∙ e

-- both lists
pub demands_both : (a b : Result (List Demanded) (List ℕ)) (old ds es : List Demanded) → old ≡ [] → both (Ok old) a ≡ Ok ds → both (Ok ds) b ≡ Ok es → both a b ≡ Ok es
demands_both a b old ds es none first last =
    let is = demands_first a ds (ap (λ (l : List Demanded). both (Ok l) a) (sym none) ∙ first) in
    ap (λ (r : Result (List Demanded) (List ℕ)). both r b) is ∙ last

pub demands_ill : (a b : Result (List Demanded) (List ℕ)) (old ds : List Demanded) (words : List ℕ) → old ≡ [] → both (Ok old) a ≡ Ok ds → b ≡ Err words → both a b ≡ Err words
demands_ill a b old ds words none first last =
    let is = demands_first a ds (ap (λ (l : List Demanded). both (Ok l) a) (sym none) ∙ first) in
    ap (λ (r : Result (List Demanded) (List ℕ)). both r b) is ∙ ap (both (Ok ds)) last

-- ---- names

some_mapped : {A B : Type 0} (f : A → B) (o : Option A) → is_some (option_map f o) ≡ is_some o
some_mapped f None = refl
some_mapped f (Some x) = refl

module _ (s : Scope) where
  known : (name : List ℕ) (o : Option ℕ) → o ≡ option_map (λ i. i + 1) (place_of s.threads name) → is_some (place_of s.threads name) ≡ is_some o
  known name o is = sym (some_mapped (λ i. i + 1) (place_of s.threads name)) ∙ ap is_some (sym is)

  pub unknown_on : (names : List (Bor (List ℕ))) (i : ℕ) (n : Bor (List ℕ)) (o : Option ℕ) → slice_get names i ≡ Some n → o ≡ option_map (λ i. i + 1) (place_of s.threads n.now) → is_some o ≡ true → first_unknown s (texts (drop (i + 1) names)) ≡ first_unknown s (texts (drop i names))
  unknown_on names i n o at is some =
      sym (ap (λ (l : List (Bor (List ℕ))). first_unknown s (texts l)) (item_dropped names i n at) ∙ ap (λ (b : Bool). if b then first_unknown s (texts (drop (i + 1) names)) else Some n.now) (known n.now o is ∙ some))

  pub unknown_found : (names : List (Bor (List ℕ))) (i : ℕ) (n : Bor (List ℕ)) (o : Option ℕ) → slice_get names i ≡ Some n → o ≡ option_map (λ i. i + 1) (place_of s.threads n.now) → is_some o ≡ false → first_unknown s (texts (drop i names)) ≡ Some n.now
  unknown_found names i n o at is none =
      ap (λ (l : List (Bor (List ℕ))). first_unknown s (texts l)) (item_dropped names i n at) ∙ ap (λ (b : Bool). if b then first_unknown s (texts (drop (i + 1) names)) else Some n.now) (known n.now o is ∙ none)

  pub unknown_none : (names : List (Bor (List ℕ))) (i : ℕ) → length names ≤ i → first_unknown s (texts (drop i names)) ≡ None
  unknown_none names i past = ap (λ (l : List (Bor (List ℕ))). first_unknown s (texts l)) (drop_of_length-le names past)

-- ---- what isn't asked

-- demands that can't be read
pub unasked_by : (bytes : List ℕ) (c : Choices) (said : Said) (why : Untold) → said_read bytes ≡ Ok said → Demands said.scope c (Err why) → Unasked bytes c why
unasked_by bytes c said OutOfMemory read h = tt
unasked_by bytes c said (Ill e) read h = absurd h
unasked_by bytes c said (NoThread name) read h = absurd h
unasked_by bytes c said (NoPattern words) read h = (said, read, h)
unasked_by bytes c said (NoOutcome n) read h = absurd h
unasked_by bytes c said (TooLong n) read h = absurd h
unasked_by bytes c said (Unplayed n) read h = absurd h

-- ---- what is said

-- what exploring gave, for the limit that the options say
pub found_so : (plan : Plan) (f : Found) (c : Choices) (limit : ℕ) → limit ≡ states_of c → AreWitnessed plan f.outcomes.items → (f.complete ≡ true → HasAll plan f.outcomes.items) → AreDifferent f.outcomes.items → f.states ≤ limit → (f.complete ≡ false → f.states ≡ limit)
    → IsFound plan (states_of c) f
found_so plan f c limit is sound complete once few stopped =
    subst (λ (n : ℕ). IsFound plan n f) is (record { sound = sound; complete = complete; once = once; few = few; stopped = stopped })

pub tells_so : (bytes : List ℕ) (c : Choices) (q : Question') (f : Found) (r : Result Told Untold) → IsAsked bytes c q → IsFound q.plan (states_of c) f → IfOk r (Answers q c f) → IfOk r (Tells bytes c)
tells_so bytes c q f (Ok t) asked found h = record { question = q; asked = asked; found = f; explored = found; answer = h }
tells_so bytes c q f (Err why) asked found h = tt

pub untells_so : (bytes : List ℕ) (c : Choices) (q : Question') (f : Found) (r : Result Told Untold) → IsAsked bytes c q → IsFound q.plan (states_of c) f → IfErr r (Unanswered q c f) → IfErr r (Untells bytes c)
untells_so bytes c q f (Ok t) asked found h = tt
untells_so bytes c q f (Err why) asked found h = inr (q, asked, (f, found, h))
