-- What was reached, as more is.
use Rattle.std.proofs.Common.{◌≡◌, ◌⊎◌, inl, inr, ⊎_elim, ℕ, zero, suc, ◌<◌, ◌≤◌, List, [], ◌∷◌, ◌++◌, length, Option, Some, None, refl, sym, ap, ◌∙◌, subst, arith, append_assoc, append-nil, length-append}
use Rattle.std.specs.Prelude.{slice_get, reverse}
use Rattle.std.proofs.Common.{get_or}
use Rattle.std.proofs.lemmas.Option.{slice_get_read}
use Rattle.std.proofs.lemmas.List.{reverse-append}
use Rattle.memorymap.specs.Layouts.{Layout'}
use Rattle.protocol.specs.declared.event.Event.{Event}
use Rattle.outcomes.specs.declared.plan.Plan.{Plan}
use Rattle.outcomes.specs.declared.search.Reached.{Reached}
use Rattle.outcomes.specs.Positions.{Position, first}
use Rattle.outcomes.specs.Events.{after}
use Rattle.outcomes.specs.Runs.{IsRun}
use Rattle.outcomes.specs.Stored.{stored_position, IsStored}
use Rattle.outcomes.specs.Searches.{IsAt, Has, CameBy, IsOne, AreReached, Grows}

get_front : {X : Type 0} (xs ys : List X) (i : ℕ) (x : X) → slice_get xs i ≡ Some x → slice_get (xs ++ ys) i ≡ Some x
get_front [] ys i x h = absurd cc
get_front (z ∷ zs) ys zero x h = h
get_front (z ∷ zs) ys (suc i) x h = get_front zs ys i x h

get_last : {X : Type 0} (xs : List X) (x : X) → slice_get (xs ++ x ∷ []) (length xs) ≡ Some x
get_last [] x = refl
get_last (z ∷ zs) x = get_last zs x

get_either : {X : Type 0} (xs : List X) (x : X) (i : ℕ) (y : X) → slice_get (xs ++ x ∷ []) i ≡ Some y → (slice_get xs i ≡ Some y) ⊎ ((i ≡ length xs) × (x ≡ y))
get_either [] x zero y h = inr (refl, cc)
get_either [] x (suc i) y h = absurd cc
get_either (z ∷ zs) x zero y h = inl h
get_either (z ∷ zs) x (suc i) y h = ⊎_elim (λ e. inl e) (λ e. inr (ap suc e.0, e.1)) (get_either zs x i y h)

-- a number has one position
pub at_once : (l : Layout') (rs : List Reached) (i : ℕ) (p q : Position) → IsAt l rs i p → IsAt l rs i q → p ≡ q
at_once l rs i p q a b = let same : a.one ≡ b.one = (let x = a.there in let y = b.there in cc) in sym a.is ∙ ap (λ (o : Reached). stored_position l o.stored) same ∙ b.is

module _ (old new : List Reached) (grows : Grows old new) where
  pub at_grown : (l : Layout') (i : ℕ) (p : Position) → IsAt l old i p → IsAt l new i p
  at_grown l i p h = record { one = h.one; there = ap (λ (rs : List Reached). slice_get rs i) grows.1 ∙ get_front old grows.0 i h.one h.there; is = h.is }

  pub has_grown : (l : Layout') (p : Position) → Has l old p → Has l new p
  has_grown l p h = (h.0, at_grown l h.0 p h.1)

  pub came_grown : (plan : Plan) (i : ℕ) (by : Option (ℕ × Event)) (p : Position) → CameBy plan old i by p → CameBy plan new i by p
  came_grown plan i None p h = h
  came_grown plan i (Some by) p h = (h.0, h.1, at_grown plan.layout by.0 h.1 h.2, h.3, h.4)

  pub long_grown : length old ≤ length new
  long_grown = let n = ap (λ (rs : List Reached). length rs) grows.1 in omega (arith, n, length-append old grows.0)

pub grows_not : (rs : List Reached) → Grows rs rs
grows_not rs = ([], sym (append-nil rs))

pub grows_twice : (rs ss ts : List Reached) → Grows rs ss → Grows ss ts → Grows rs ts
grows_twice rs ss ts a b = (a.0 ++ b.0, b.1 ∙ ap (λ (xs : List Reached). xs ++ b.0) a.1 ∙ append_assoc rs a.0 b.0)

-- one more was reached
pub more_reached : (plan : Plan) (old new : List Reached) (one : Reached) → new ≡ old ++ one ∷ [] → AreReached plan old → IsStored plan one.stored → CameBy plan old (length old) one.by (stored_position plan.layout one.stored) → AreReached plan new
more_reached plan old new one is are stored came i x there =
    ⊎_elim
    (λ before. let h = are i x before in record { stored = h.stored; came = came_grown old new (one ∷ [], is) plan i x.by (stored_position plan.layout x.stored) h.came })
    (λ last. subst (λ (y : Reached). IsOne plan new i y) last.1 (record {
      stored = stored;
      came = subst (λ (k : ℕ). CameBy plan new k one.by (stored_position plan.layout one.stored)) (sym last.0) (came_grown old new (one ∷ [], is) plan (length old) one.by (stored_position plan.layout one.stored) came);
    }))
    (get_either old one i x (ap (λ (rs : List Reached). slice_get rs i) (sym is) ∙ there))

pub last_there : (l : Layout') (old new : List Reached) (one : Reached) → new ≡ old ++ one ∷ [] → Has l new (stored_position l one.stored)
last_there l old new one is = (length old, record { one = one; there = ap (λ (rs : List Reached). slice_get rs (length old)) is ∙ get_last old one; is = refl })

-- ---- read by a number

pub there_at : (rs : List Reached) (i : ℕ) (one : Reached) → i < length rs → one ≡ get_or rs i one → slice_get rs i ≡ Some one
there_at rs i one lt is = slice_get_read rs (length rs) i one refl lt is

pub is_at : (l : Layout') (rs : List Reached) (i : ℕ) (one : Reached) → i < length rs → one ≡ get_or rs i one → IsAt l rs i (stored_position l one.stored)
is_at l rs i one lt is = record { one = one; there = there_at rs i one lt is; is = refl }

-- ---- the events that led to a position

-- one event more, at the front
pub run_back : (plan : Plan) (rs : List Reached) (here : ℕ) (one : Reached) (by : ℕ × Event) (es now : List Event) → AreReached plan rs → here < length rs → one ≡ get_or rs here one → one.by ≡ Some by → now ≡ es ++ by.1 ∷ []
    → (p : Position) → ((q : Position) → IsAt plan.layout rs here q → IsRun plan q (reverse es) p) → (q : Position) → IsAt plan.layout rs by.0 q → IsRun plan q (reverse now) p
run_back plan rs here one by es now are lt is led adds p before q at =
    let came = subst (λ (o : Option (ℕ × Event)). CameBy plan rs here o (stored_position plan.layout one.stored)) led (are here one (there_at rs here one lt is)).came in
    let same : q ≡ came.1 = at_once plan.layout rs by.0 q came.1 at came.2 in
    let turned : reverse now ≡ by.1 ∷ reverse es = ap (λ (xs : List Event). reverse xs) adds ∙ reverse-append es (by.1 ∷ []) in
    let on : IsRun plan (after plan came.1 by.1) (reverse es) p = before (after plan came.1 by.1) (record { one = one; there = there_at rs here one lt is; is = sym came.4 }) in
    subst (λ (xs : List Event). IsRun plan q xs p) (sym turned) (subst (λ (z : Position). IsRun plan z (by.1 ∷ reverse es) p) (sym same) (came.3, on))

pub below_it : (plan : Plan) (rs : List Reached) (here : ℕ) (one : Reached) (by : ℕ × Event) → AreReached plan rs → here < length rs → one ≡ get_or rs here one → one.by ≡ Some by → by.0 < here
below_it plan rs here one by are lt is led = (subst (λ (o : Option (ℕ × Event)). CameBy plan rs here o (stored_position plan.layout one.stored)) led (are here one (there_at rs here one lt is)).came).0

pub from_first : (plan : Plan) (rs : List Reached) (here : ℕ) (one : Reached) → AreReached plan rs → here < length rs → one ≡ get_or rs here one → one.by ≡ None → IsAt plan.layout rs here (first plan)
from_first plan rs here one are lt is led =
    let came = subst (λ (o : Option (ℕ × Event)). CameBy plan rs here o (stored_position plan.layout one.stored)) led (are here one (there_at rs here one lt is)).came in
    record { one = one; there = there_at rs here one lt is; is = sym came.1 }

-- a number below how many were reached has a position
pub some_at : (l : Layout') (rs : List Reached) (i : ℕ) → i < length rs → (p : Position) × IsAt l rs i p
some_at l [] i lt = absurd (omega arith)
some_at l (r ∷ rs) zero lt = (stored_position l r.stored, record { one = r; there = refl; is = refl })
some_at l (r ∷ rs) (suc i) lt = let later = some_at l rs i (omega arith) in (later.0, record { one = later.1.one; there = later.1.there; is = later.1.is })
