-- Lists of facts: what is among them, and what they tell of a thread.
use Rattle.std.proofs.Common.{◌≡◌, ◌⊎◌, inl, inr, ℕ, Bool, true, false, Option, Some, None, List, [], ◌∷◌, ◌++◌, map, append_assoc, append-nil, refl, sym, ap, ◌∙◌}
use Rattle.lockword.specs.declared.reply.Reply.{Reply}
use Rattle.posixmutex.specs.declared.point.Decision.{Decision}
use Rattle.facts.specs.declared.fact.Queue.{Queue}
use Rattle.facts.specs.declared.fact.Fact.{Fact}
use Rattle.facts.specs.declared.fact.Fact.TheVariants.{Point, Death, Sleep, Wake, Move, Return, Reap}
use Rattle.protocol.specs.declared.event.Event.{Event}
use Rattle.protocol.specs.declared.note.Note.{Note}
use Rattle.protocol.specs.Notes.{facts_of, point_facts, sleep_facts, moves_to, return_facts, death_facts, reap_facts}
use Rattle.protocol.specs.Machine.{State, happens, run, notes}
use Rattle.protocol.specs.Headline.{facts_among}
use Rattle.protocol.specs.Sleepers.{IsAmong}
use Rattle.protocol.specs.Applies.{Told, AtRest, told_next, told_after, last_told}
use Rattle.protocol.specs.Wakings.{asleep_next, asleep_after, told_asleep}

-- ---- what is among them

pub among_left : (f : Fact) (fs gs : List Fact) → IsAmong f fs → IsAmong f (fs ++ gs)
among_left f [] gs h = absurd h
among_left f (g ∷ fs) gs (inl e) = inl e
among_left f (g ∷ fs) gs (inr h) = inr (among_left f fs gs h)

pub among_right : (f : Fact) (fs gs : List Fact) → IsAmong f gs → IsAmong f (fs ++ gs)
among_right f [] gs h = h
among_right f (g ∷ fs) gs h = inr (among_right f fs gs h)

pub among_parts : (f : Fact) (fs gs : List Fact) → IsAmong f (fs ++ gs) → IsAmong f fs ⊎ IsAmong f gs
among_parts f [] gs h = inr h
among_parts f (g ∷ fs) gs (inl e) = inl (inl e)
among_parts f (g ∷ fs) gs (inr h) = first (among_parts f fs gs h)
  where
    first : IsAmong f fs ⊎ IsAmong f gs → ((g ≡ f) ⊎ IsAmong f fs) ⊎ IsAmong f gs
    first (inl k) = inl (inr k)
    first (inr k) = inr k

-- it is none of these
pub among_wakes : (f : Fact) (us : List ℕ) → IsAmong f (map Wake us) → (u : ℕ) × (Wake u ≡ f)
among_wakes f [] h = absurd h
among_wakes f (u ∷ us) (inl e) = (u, e)
among_wakes f (u ∷ us) (inr h) = among_wakes f us h

pub among_moves : (m : ℕ) (f : Fact) (us : List ℕ) → IsAmong f (map (moves_to m) us) → (u : ℕ) × (Move u m ≡ f)
among_moves m f [] h = absurd h
among_moves m f (u ∷ us) (inl e) = (u, e)
among_moves m f (u ∷ us) (inr h) = among_moves m f us h

pub among_sleep : (t : ℕ) (f : Fact) (z : Option Queue) → IsAmong f (sleep_facts t z) → (q : Queue) × (Sleep t q ≡ f)
among_sleep t f None h = absurd h
among_sleep t f (Some q) (inl e) = (q, e)
among_sleep t f (Some q) (inr h) = absurd h

pub among_points : (f : Fact) (p : Option Decision) → IsAmong f (point_facts p) → (d : Decision) × (p ≡ Some d) × (Point d ≡ f)
among_points f None h = absurd h
among_points f (Some d) (inl e) = (d, refl, e)
among_points f (Some d) (inr h) = absurd h

pub among_returns : (t : ℕ) (f : Fact) (y : Option Reply) → IsAmong f (return_facts t y) → (x : Reply) × (y ≡ Some x) × (Return t x ≡ f)
among_returns t f None h = absurd h
among_returns t f (Some x) (inl e) = (x, refl, e)
among_returns t f (Some x) (inr h) = absurd h

pub among_deaths : (t : ℕ) (f : Fact) (d : Option ℕ) → IsAmong f (death_facts t d) → (m : ℕ) × (Death t m ≡ f)
among_deaths t f None h = absurd h
among_deaths t f (Some m) (inl e) = (m, e)
among_deaths t f (Some m) (inr h) = absurd h

pub among_reaps : (t : ℕ) (f : Fact) (b : Bool) → IsAmong f (reap_facts t b) → Reap t ≡ f
among_reaps t f false h = absurd h
among_reaps t f true (inl e) = e
among_reaps t f true (inr h) = absurd h

-- ---- an access of a call, fact by fact
pub data OfStep (t m : ℕ) (p : Option Decision) (z : Option Queue) (us vs : List ℕ) (y : Option Reply) (f : Fact) : Type 0 where
  Is_point : (d : Decision) → p ≡ Some d → Point d ≡ f → OfStep t m p z us vs y f
  Is_sleep : (q : Queue) → Sleep t q ≡ f → OfStep t m p z us vs y f
  Is_wake : (u : ℕ) → Wake u ≡ f → OfStep t m p z us vs y f
  Is_move : (u : ℕ) → Move u m ≡ f → OfStep t m p z us vs y f
  Is_return : (x : Reply) → y ≡ Some x → Return t x ≡ f → OfStep t m p z us vs y f

pub of_step : (t m : ℕ) (p : Option Decision) (z : Option Queue) (us vs : List ℕ) (y : Option Reply) (f : Fact) → IsAmong f (point_facts p ++ (sleep_facts t z ++ (map Wake us ++ (map (moves_to m) vs ++ return_facts t y)))) → OfStep t m p z us vs y f
of_step t m p z us vs y f h = at_point (among_parts f (point_facts p) (sleep_facts t z ++ (map Wake us ++ (map (moves_to m) vs ++ return_facts t y))) h)
  where
    at_move : IsAmong f (map (moves_to m) vs) ⊎ IsAmong f (return_facts t y) → OfStep t m p z us vs y f
    at_move (inl k) = let g = among_moves m f vs k in Is_move g.0 g.1
    at_move (inr k) = let g = among_returns t f y k in Is_return g.0 g.1 g.2

    at_wake : IsAmong f (map Wake us) ⊎ IsAmong f (map (moves_to m) vs ++ return_facts t y) → OfStep t m p z us vs y f
    at_wake (inl k) = let g = among_wakes f us k in Is_wake g.0 g.1
    at_wake (inr k) = at_move (among_parts f (map (moves_to m) vs) (return_facts t y) k)

    at_sleep : IsAmong f (sleep_facts t z) ⊎ IsAmong f (map Wake us ++ (map (moves_to m) vs ++ return_facts t y)) → OfStep t m p z us vs y f
    at_sleep (inl k) = let g = among_sleep t f z k in Is_sleep g.0 g.1
    at_sleep (inr k) = at_wake (among_parts f (map Wake us) (map (moves_to m) vs ++ return_facts t y) k)

    at_point : IsAmong f (point_facts p) ⊎ IsAmong f (sleep_facts t z ++ (map Wake us ++ (map (moves_to m) vs ++ return_facts t y))) → OfStep t m p z us vs y f
    at_point (inl k) = let g = among_points f p k in Is_point g.0 g.1 g.2
    at_point (inr k) = at_sleep (among_parts f (sleep_facts t z) (map Wake us ++ (map (moves_to m) vs ++ return_facts t y)) k)

-- and one of a walk
pub data OfWalk (t : ℕ) (f : Fact) : Type 0 where
  Is_death : (m : ℕ) → Death t m ≡ f → OfWalk t f
  Wakes_one : (u : ℕ) → Wake u ≡ f → OfWalk t f
  Is_reap : Reap t ≡ f → OfWalk t f

pub of_walk : (t : ℕ) (d : Option ℕ) (us : List ℕ) (b : Bool) (f : Fact) → IsAmong f (death_facts t d ++ (map Wake us ++ reap_facts t b)) → OfWalk t f
of_walk t d us b f h = at_death (among_parts f (death_facts t d) (map Wake us ++ reap_facts t b) h)
  where
    at_wake : IsAmong f (map Wake us) ⊎ IsAmong f (reap_facts t b) → OfWalk t f
    at_wake (inl k) = let g = among_wakes f us k in Wakes_one g.0 g.1
    at_wake (inr k) = Is_reap (among_reaps t f b k)

    at_death : IsAmong f (death_facts t d) ⊎ IsAmong f (map Wake us ++ reap_facts t b) → OfWalk t f
    at_death (inl k) = let g = among_deaths t f d k in Is_death g.0 g.1
    at_death (inr k) = at_wake (among_parts f (map Wake us) (reap_facts t b) k)

-- ---- what they tell

pub told_append : (t : ℕ) (o : Told) (fs gs : List Fact) → told_after t o (fs ++ gs) ≡ told_after t (told_after t o fs) gs
told_append t o [] gs = refl
told_append t o (f ∷ fs) gs = told_append t (told_next t o f) fs gs

pub asleep_append : (t : ℕ) (w : Option Queue) (fs gs : List Fact) → asleep_after t w (fs ++ gs) ≡ asleep_after t (asleep_after t w fs) gs
asleep_append t w [] gs = refl
asleep_append t w (f ∷ fs) gs = asleep_append t (asleep_next t w f) fs gs

-- ---- the facts of notes

pub among_push : (ns : List Note) (n : Note) → facts_among (ns ++ n ∷ []) ≡ facts_among ns ++ facts_of n
among_push [] n = append-nil (facts_of n)
among_push (k ∷ ns) n = ap (λ (fs : List Fact). facts_of k ++ fs) (among_push ns n) ∙ sym (append_assoc (facts_of k) (facts_among ns) (facts_of n))

pub told_push : (t : ℕ) (ns : List Note) (n : Note) → last_told t (ns ++ n ∷ []) ≡ told_after t (last_told t ns) (facts_of n)
told_push t ns n = ap (told_after t AtRest) (among_push ns n) ∙ told_append t AtRest (facts_among ns) (facts_of n)

pub asleep_push : (t : ℕ) (ns : List Note) (n : Note) → told_asleep t (ns ++ n ∷ []) ≡ asleep_after t (told_asleep t ns) (facts_of n)
asleep_push t ns n = ap (asleep_after t None) (among_push ns n) ∙ asleep_append t None (facts_among ns) (facts_of n)

-- ---- one event more

pub run_push : (s : State) (es : List Event) (e : Event) → run s (es ++ e ∷ []) ≡ (happens (run s es) e).state
run_push s [] e = refl
run_push s (d ∷ es) e = run_push (happens s d).state es e

pub notes_push : (s : State) (es : List Event) (e : Event) → notes s (es ++ e ∷ []) ≡ notes s es ++ (happens (run s es) e).note ∷ []
notes_push s [] e = refl
notes_push s (d ∷ es) e = ap (λ (ns : List Note). (happens s d).note ∷ ns) (notes_push (happens s d).state es e)
