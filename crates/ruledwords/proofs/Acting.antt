-- The access of a call on a condition variable at a seat.
use Rattle.std.proofs.Common.{Bool, true, false, ◌≡◌, ℕ, ◌^◌, ◌<◌, ◌≤◌, List, [], ◌∷◌, refl, sym, ap, ◌∙◌, subst, arith}
use Rattle.std.specs.Prelude.{if◌then◌else◌}
use mathlib.Core.Option.{none}
use Rattle.atomic_table.specs.Table.{step, Allows}
use Rattle.stepprograms.specs.declared.access.Access.{Access}
use Rattle.stepprograms.specs.Accesses.{address_of, changed}
use Rattle.memorymap.specs.Addresses.{address_from}
use Rattle.memorymap.specs.Layouts.{Layout', base_of, counter_place, words_of, place_in}
use Rattle.mutex.proofs.Addresses.{again, few_words, low}
use Rattle.condvar.specs.Laws.{is_at_counter}
use Rattle.mutex.specs.Whole.{phase_access as phase_access_of}
use Rattle.mutex.specs.WholeLists.{IsOwnAccess}
use Rattle.condvar.specs.declared.phase.CondPhase.{CondPhase}
use Rattle.condvar.specs.declared.phase.CondPhase.TheVariants as condition
use Rattle.condvar.specs.declared.row.CondRow.{CondRow}
use Rattle.condvar.specs.Programs.{row_access}
use Rattle.condvar.specs.Rows.{IsGoing}
use Rattle.condvar.specs.Standings.{CondWhole}
use Rattle.condvar.specs.Whole.{cond_access, phase_access, IsUnderWay, PhaseKnows}
use Rattle.condvar.proofs.Rights.{there}
use Rattle.ruledwords.specs.declared.pass.Card.{Card}
use Rattle.ruledwords.specs.Calls.{address_at}
use Rattle.ruledwords.specs.ConditionCalls.{CondFound, IsCondStep}
use Rattle.ruledwords.specs.Conditions.{access_at, acted, cond_row_in, cond_standing, condition_at, list_phase, unlock_of, Acted, CondReady, CondStanding, IsAtCondition, IsOnCondition}
use Rattle.ruledwords.specs.Counts.{cell_at, mutex_at}
use Rattle.ruledwords.specs.Passes.{IsCardOf}
use Rattle.ruledwords.specs.Rules.{Kept, card_of, IsOne}
use Rattle.ruledwords.proofs.ConditionSteps.{acts, place_for}
use Rattle.ruledwords.proofs.Counts.{of_mutex}
use Rattle.ruledwords.proofs.Moves.{Sat}
use Rattle.ruledwords.proofs.Turned.{turned, at_one}

module _ (k : Layout') (c : Card) (is : IsCardOf k c) (q : ℕ) (z : CondStanding) (mine : z.thread ≡ c.thread) (on : IsOnCondition k q z) where
  abbrev same : CondStanding
  same = record { thread = c.thread; cell = z.cell; counter = z.counter; row = z.row }

  is_same : z ≡ same
  is_same = ap (λ (t : ℕ). record { thread = t; cell = z.cell; counter = z.counter; row = z.row }) mine

  in_layout : mutex_at k q < k.mutexes
  in_layout = of_mutex k q is.layout on.inside

  back : (p : ℕ) → p < words_of k → place_in k c.thread (address_from (base_of k z.thread) p) ≡ p
  back p inside = ap (λ (t : ℕ). place_in k c.thread (address_from (base_of k t) p)) mine ∙ again k c.thread is.layout is.first is.thread p inside

  cell_inside : cell_at k q < words_of k
  cell_inside = let inside = in_layout in omega arith

  counter_inside : counter_place k q < words_of k
  counter_inside = let inside = on.inside in omega arith

  -- where the access is
  pub placed : place_in k c.thread (address_of (access_at z)) ≡ place_for k q z.row
  placed = ap (place_in k c.thread) (there z.thread z.cell z.counter z.row) ∙ go (is_at_counter z.row)
    where
      go : (b : Bool) → place_in k c.thread (if b then z.counter else z.cell) ≡ (if b then counter_place k q else cell_at k q)
      go true = ap (place_in k c.thread) on.counter ∙ back (counter_place k q) counter_inside
      go false = ap (place_in k c.thread) on.cell ∙ back (cell_at k q) cell_inside

  pub placed_inside : place_for k q z.row < words_of k
  placed_inside = go (is_at_counter z.row)
    where
      go : (b : Bool) → (if b then counter_place k q else cell_at k q) < words_of k
      go true = counter_inside
      go false = cell_inside

  addressed : z.cell ≡ address_at c (cell_at k q)
  addressed = on.cell ∙ ap (λ (b : ℕ). address_from b (cell_at k q)) (ap (base_of k) mine ∙ sym is.base)

  few : cell_at k q < 2 ^ 64
  few = let bound = few_words k c.thread is.layout is.first is.thread in let inside = in_layout in omega arith

  base_low : c.base ≤ 1000000000
  base_low = subst (λ (b : ℕ). b ≤ 1000000000) (sym is.base) (low k c.thread is.layout is.first is.thread)

  pub may_act : {o : List ℕ} (key j : Layout') (slots id x y place : ℕ) (me : Sat) (a : Access) → key ≡ k → j ≡ k → card_of me.0 ≡ c → IsOne me → IsGoing z.row → IsCondStep (access_at z) → CondReady k q z.row c → a ≡ access_at z → place ≡ place_in k c.thread (address_of a)
      → Allows (Kept key o) slots id me place (changed a) (acted j q z (step slots place x y none) me)
  may_act {o} key j slots id x y place me a is_key its is_card one going stepping ready next at_place =
      let here : place ≡ place_for k q z.row = at_place ∙ ap (λ (b : Access). place_in k c.thread (address_of b)) next ∙ placed in
      let legal = is.legal (cell_at k q) in
      let may : Allows (Kept k o) slots id (c ∷ [], []) (place_for k q z.row) (changed (access_at same)) (acted k q same (step slots (place_for k q z.row) x y none) (c ∷ [], [])) =
      acts k slots id c q is.layout on.inside (legal.0, legal.1.0) z.cell z.counter addressed few base_low z.row x y going (subst (λ (u : CondStanding). IsCondStep (access_at u)) is_same stepping) ready in
      subst (λ (u : Layout'). Allows (Kept key o) slots id me place (changed a) (acted u q z (step slots place x y none) me)) (sym its)
      (subst (λ (b : Access). Allows (Kept key o) slots id me place (changed b) (acted k q z (step slots place x y none) me)) (sym next)
      (subst (λ (u : CondStanding). Allows (Kept key o) slots id me place (changed (access_at u)) (acted k q u (step slots place x y none) me)) (sym is_same)
      (at_one key k slots id place (place_for k q z.row) me (changed (access_at same)) (λ w m. acted k q same (step slots w x y none) m) is_key here one
      (subst (λ (d : Card). Allows (Kept k o) slots id (d ∷ [], []) (place_for k q z.row) (changed (access_at same)) (acted k q same (step slots (place_for k q z.row) x y none) (d ∷ [], []))) (sym is_card) may))))

  pub may_within : (words place : ℕ) (a : Access) → words ≡ words_of k → a ≡ access_at z → place ≡ place_in k c.thread (address_of a) → place < words
  may_within words place a wide next at_place = subst (λ (u : ℕ × ℕ). u.0 < u.1) (λ i. (sym (at_place ∙ ap (λ (b : Access). place_in k c.thread (address_of b)) next ∙ placed) i, sym wide i)) placed_inside

pub after_act : (k j : Layout') (q slots place x y n : ℕ) (z : CondStanding) (me me' : Sat) → j ≡ k → IsOne me → acted j q z (step slots place x y none) me n me' → IsOne me' × Acted k q z z.row (card_of me.0) n (card_of me'.0)
after_act k j q slots place x y n z me me' its one did = turned me me' (λ c d. Acted k q z z.row c n d) one (subst (λ (u : Layout'). acted u q z (step slots place x y none) me n me') its did)

-- ---- where a call stands

pub going_there : (f : CondPhase) (r : CondRow) → f ≡ condition.AtWords r → PhaseKnows f → IsGoing (cond_row_in f)
going_there (condition.AtWords z) r at knows = knows
going_there (condition.Announcing seen) r at knows = absurd (cc at)
going_there (condition.Unlinking u seen) r at knows = absurd (cc at)
going_there (condition.Locking w) r at knows = absurd (cc at)
going_there (condition.Ended x) r at knows = absurd (cc at)

pub access_there : (p : CondWhole) (r : CondRow) → p.phase ≡ condition.AtWords r → cond_access p ≡ access_at (cond_standing p)
access_there p r at = ap (phase_access p) at ∙ sym (ap (λ (f : CondPhase). row_access p.thread p.cell p.counter (cond_row_in f)) at)

pub found_there : (k : Layout') (p : CondWhole) (f : CondPhase) (r : CondRow) (c : Card) (n : ℕ) (d : Card) → f ≡ condition.AtWords r → Acted k (condition_at k p) (cond_standing p) (cond_row_in f) c n d → CondFound k p f c n d
found_there k p (condition.AtWords z) r c n d at found = found
found_there k p (condition.Announcing seen) r c n d at found = absurd (cc at)
found_there k p (condition.Unlinking u seen) r c n d at found = absurd (cc at)
found_there k p (condition.Locking w) r c n d at found = absurd (cc at)
found_there k p (condition.Ended x) r c n d at found = absurd (cc at)

-- elsewhere it is at its thread's own words, as an unlock is
pub own_there : (p : CondWhole) (f : CondPhase) → IsAtCondition f → ((r : CondRow) → f ≡ condition.AtWords r → ⊥) → IsOwnAccess (list_phase f) × (phase_access p f ≡ phase_access_of (unlock_of p) (list_phase f))
own_there p (condition.AtWords r) at other = absurd (other r refl)
own_there p (condition.Announcing seen) at other = (tt, refl)
own_there p (condition.Unlinking u seen) at other = (tt, refl)
own_there p (condition.Locking w) at other = absurd at
own_there p (condition.Ended x) at other = absurd at

pub under_there : (f : CondPhase) → IsAtCondition f → IsUnderWay f
under_there (condition.AtWords r) at = tt
under_there (condition.Announcing seen) at = tt
under_there (condition.Unlinking u seen) at = tt
under_there (condition.Locking w) at = absurd at
under_there (condition.Ended x) at = absurd at
