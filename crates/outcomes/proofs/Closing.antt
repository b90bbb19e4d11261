-- What was reached is closed under events, so every run of the plan stays in it.
use Rattle.std.proofs.Common.{◌≡◌, ◌⊎◌, inl, inr, ⊎_elim, ℕ, zero, suc, ◌+◌, ◌<◌, ◌≤◌, Bool, true, false, List, [], ◌∷◌, ◌++◌, length, Some, refl, sym, ap, ◌∙◌, subst, arith}
use Rattle.std.specs.Prelude.{slice_get, nat_lt}
use Rattle.std.proofs.lemmas.Bool.Decides.{nat_tests}
use Rattle.std.proofs.lemmas.Option.{slice_get_within}
use Rattle.memorymap.specs.Layouts.{Layout'}
use Rattle.protocol.specs.declared.event.Event.{Event}
use Rattle.outcomes.specs.declared.plan.Plan.{Plan}
use Rattle.outcomes.specs.declared.search.Reached.{Reached}
use Rattle.outcomes.specs.declared.exploring.Witnessed.{Witnessed}
use Rattle.outcomes.specs.Positions.{Position, first}
use Rattle.outcomes.specs.Events.{MayCome, after}
use Rattle.outcomes.specs.Runs.{IsRun, IsOver, GoesOn}
use Rattle.outcomes.specs.Outcomes.{Outcome', outcome_of, IsListed, HasAll}
use Rattle.outcomes.specs.Searches.{IsAt, Has, Grows, AreThreads, thread_of}
use Rattle.outcomes.proofs.Moves.{of_a_thread}
use Rattle.outcomes.proofs.Reaching.{has_grown}

-- each position below a number has where its events lead among what was reached
abbrev pub IsClosed : Plan → List Reached → ℕ → Type 0
IsClosed plan rs done = (i : ℕ) (p : Position) → i < done → IsAt plan.layout rs i p → (e : Event) → MayCome plan p e → Has plan.layout rs (after plan p e)

-- and its outcome among those found, if it is over
abbrev pub IsRead : Plan → List Reached → ℕ → List Witnessed → Type 0
IsRead plan rs done ws = (i : ℕ) (p : Position) → i < done → IsAt plan.layout rs i p → IsOver plan p → IsListed (outcome_of plan p) ws

front_there : {X : Type 0} (xs ys : List X) (i : ℕ) (x : X) → i < length xs → slice_get (xs ++ ys) i ≡ Some x → slice_get xs i ≡ Some x
front_there [] ys i x lt h = absurd (omega arith)
front_there (z ∷ zs) ys zero x lt h = h
front_there (z ∷ zs) ys (suc i) x lt h = front_there zs ys i x (omega arith) h

pub at_shrunk : (l : Layout') (old new : List Reached) → Grows old new → (i : ℕ) (p : Position) → i < length old → IsAt l new i p → IsAt l old i p
at_shrunk l old new grows i p lt h = record { one = h.one; there = front_there old grows.0 i h.one lt (ap (λ (rs : List Reached). slice_get rs i) (sym grows.1) ∙ h.there); is = h.is }

-- the layout stays the plan's
layout_at : (plan : Plan) (rs : List Reached) (i : ℕ) (p : Position) → IsAt plan.layout rs i p → p.state.layout ≡ plan.layout
layout_at plan rs i p h = ap (λ (q : Position). q.state.layout) (sym h.is)

whose : (plan : Plan) (rs : List Reached) (i : ℕ) (p : Position) (e : Event) → IsAt plan.layout rs i p → MayCome plan p e → (1 ≤ thread_of e) × (thread_of e ≤ plan.layout.threads)
whose plan rs i p e at may = let t = of_a_thread plan p e may in (t.0, subst (λ (l : Layout'). thread_of e ≤ l.threads) (layout_at plan rs i p at) t.1)

module _ (plan : Plan) (old new : List Reached) (grows : Grows old new) (limit done : ℕ) (below : done < length old) (on room : Bool) (tried : (p : Position) → IsAt plan.layout old done p → AreThreads plan p limit new plan.layout.threads on room) where
  -- a position from which no run goes on is over
  pub over_there : on ≡ false → (p : Position) → IsAt plan.layout new done p → IsOver plan p
  over_there off p at e goes may =
      let before = at_shrunk plan.layout old new grows done p below at in
      let t = whose plan old done p e before may in
      (tried p before).over off e t.0 t.1 goes may

  which : (i : ℕ) → i < done + 1 → (i < done) ⊎ (i ≡ done)
  which i lt = go (nat_lt i done) refl
    where
      go : (b : Bool) → nat_lt i done ≡ b → (i < done) ⊎ (i ≡ done)
      go true e = inl (grind (arith, nat_tests))
      go false e = let high : done ≤ i = grind (arith, nat_tests) in inr (omega arith)

  pub closed_more : room ≡ true → IsClosed plan old done → IsClosed plan new (done + 1)
  closed_more enough closed i p lt at e may =
      ⊎_elim
      (λ lower. has_grown old new grows plan.layout (after plan p e) (closed i p lower (at_shrunk plan.layout old new grows i p (omega (arith, lower)) at) e may))
      (λ here.
      let before = at_shrunk plan.layout old new grows done p below (subst (λ (k : ℕ). IsAt plan.layout new k p) here at) in
      let t = whose plan old done p e before may in
      (tried p before).closed enough e t.0 t.1 may)
      (which i lt)

  pub read_more : (ws ws' : List Witnessed) → ((o : Outcome') → IsListed o ws → IsListed o ws') → (on ≡ false → (p : Position) → IsAt plan.layout new done p → IsListed (outcome_of plan p) ws') → IsRead plan old done ws → IsRead plan new (done + 1) ws'
  read_more ws ws' keeps this read i p lt at over =
      ⊎_elim
      (λ lower. keeps (outcome_of plan p) (read i p lower (at_shrunk plan.layout old new grows i p (omega (arith, lower)) at) over))
      (λ here.
      let there : IsAt plan.layout new done p = subst (λ (k : ℕ). IsAt plan.layout new k p) here at in
      let before = at_shrunk plan.layout old new grows done p below there in
      this (off p before over) p there)
      (which i lt)
    where
      off : (p : Position) → IsAt plan.layout old done p → IsOver plan p → on ≡ false
      off p before over = go on (tried p before).goes
        where
          go : (b : Bool) → (b ≡ true → (e : Event) × GoesOn e × MayCome plan p e) → b ≡ false
          go true goes = let h = goes refl in absurd (over h.0 h.1 h.2)
          go false goes = refl

-- every run from a position that was reached stays there
all_runs : (plan : Plan) (rs : List Reached) (done : ℕ) → length rs ≤ done → IsClosed plan rs done → (es : List Event) (p q : Position) → Has plan.layout rs p → IsRun plan p es q → Has plan.layout rs q
all_runs plan rs done past closed [] p q has run = subst (λ (z : Position). Has plan.layout rs z) run has
all_runs plan rs done past closed (e ∷ es) p q has run =
    let inside = slice_get_within rs has.0 has.1.one has.1.there in
    all_runs plan rs done past closed es (after plan p e) q (closed has.0 p (omega arith) has.1 e run.0) run.1

-- so no outcome is missing
pub has_all : (plan : Plan) (rs : List Reached) (done : ℕ) (ws : List Witnessed) → length rs ≤ done → IsAt plan.layout rs 0 (first plan) → IsClosed plan rs done → IsRead plan rs done ws → HasAll plan ws
has_all plan rs done ws past at closed read es p run over =
    let has = all_runs plan rs done past closed es (first plan) p (0, at) run in
    let inside = slice_get_within rs has.0 has.1.one has.1.there in
    read has.0 p (omega arith) has.1 over
