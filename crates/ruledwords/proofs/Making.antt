-- The access of a call at a seat.
use Rattle.std.proofs.Common.{Bool, true, false, ◌≡◌, ℕ, ◌^◌, ◌<◌, ◌≤◌, ◌==◌, List, [], ◌∷◌, refl, sym, ap, ◌∙◌, subst, arith}
use Rattle.std.specs.Prelude.{if◌then◌else◌}
use mathlib.Core.Option.{none}
use mathlib.Core.Path.{fun_ext}
use prog.Atomic.{either}
use Rattle.atomic_table.specs.Table.{Step, step, Allows}
use Rattle.stepprograms.specs.declared.access.Access.{Access}
use Rattle.stepprograms.specs.Accesses.{address_of, changed}
use Rattle.memorymap.specs.Addresses.{address_from}
use Rattle.memorymap.specs.Layouts.{Layout', base_of, cell_place, words_of, place_in}
use Rattle.mutex.proofs.Addresses.{again, few_words}
use Rattle.mutex.specs.Programs.{access_of}
use Rattle.mutex.specs.Rows.{IsGoing}
use Rattle.mutex.specs.Standings.{Standing}
use Rattle.mutex.specs.Steps.{IsStep}
use Rattle.mutex.proofs.Steps.{at_cell}
use Rattle.ruledwords.specs.declared.pass.Card.{Card}
use Rattle.ruledwords.specs.Calls.{address_at, Ready, IsOnMutex, IsInLayout, Made, OwnKept, made}
use Rattle.ruledwords.specs.Passes.{IsCardOf}
use Rattle.ruledwords.specs.Rules.{Kept, card_of, IsOne}
use Rattle.ruledwords.proofs.Keepers.{inside}
use Rattle.ruledwords.proofs.Moves.{Sat}
use Rattle.ruledwords.proofs.Steps.{makes}
use Rattle.ruledwords.proofs.Turned.{turned, at_one}

-- the address that its thread has there
pub addressed : (k : Layout') (p : Standing) (c : Card) (m : ℕ) → IsOnMutex k p m → p.thread ≡ c.thread → c.base ≡ base_of k c.thread → p.cell ≡ address_at c (cell_place k m)
addressed k p c m here mine base = here.1 ∙ ap (λ (b : ℕ). address_from b (cell_place k m)) (ap (base_of k) mine ∙ sym base)

module _ (k : Layout') (p : Standing) (c : Card) (is : IsCardOf k c) (mine : p.thread ≡ c.thread) where
  first : 1 ≤ p.thread
  first = subst (λ (t : ℕ). 1 ≤ t) (sym mine) is.first

  few : p.thread ≤ k.threads
  few = subst (λ (t : ℕ). t ≤ k.threads) (sym mine) is.thread

  -- where the access is: at the place of the cell
  pub where_is : (m : ℕ) (a res : Access) → IsOnMutex k p m → res ≡ access_of p → res ≡ a → place_in k p.thread (address_of a) ≡ cell_place k m
  where_is m a res here next arm =
      let low = here.0 in
      ap (place_in k p.thread) (ap address_of (sym arm ∙ next) ∙ at_cell p.thread p.cell p.row ∙ here.1) ∙ again k p.thread is.layout first few (cell_place k m) (omega arith)

  pub within : (a res : Access) (words place : ℕ) → words ≡ words_of k → IsInLayout k p → res ≡ access_of p → res ≡ a → place ≡ place_in k p.thread (address_of a) → place < words
  within a res words place wide on next arm there = subst (λ (z : ℕ). z < words) (sym (there ∙ where_is on.0 a res on.1 next arm)) (subst (λ (z : ℕ). cell_place k on.0 < z) (sym wide) (inside k on.0 on.1.0))

  small : (m : ℕ) → m < k.mutexes → cell_place k m < 2 ^ 64
  small m low = let few = few_words k p.thread is.layout first few in omega arith

  pub may_make : {o : List ℕ} (key j : Layout') (slots id x y place : ℕ) (me : Sat) (a res : Access) → key ≡ k → j ≡ k → IsInLayout k p → card_of me.0 ≡ c → IsOne me → IsGoing p.row → IsStep (access_of p) → Ready p c → res ≡ access_of p → res ≡ a → place ≡ place_in k p.thread (address_of a)
      → Allows (Kept key o) slots id me place (changed a) (made j p (step slots place x y none) me)
  may_make {o} key j slots id x y place me a res same its on its_card one going stepping ready next arm there =
      subst (λ (z : Layout'). Allows (Kept key o) slots id me place (changed a) (made z p (step slots place x y none) me)) (sym its)
      (at_one key k slots id place (cell_place k on.0) me (changed a) (λ w m. made k p (step slots w x y none) m) same (there ∙ where_is on.0 a res on.1 next arm) one
      (subst (λ (z : Card). Allows (Kept k o) slots id (z ∷ [], []) (cell_place k on.0) (changed a) (made k p (step slots (cell_place k on.0) x y none) (z ∷ [], []))) (sym its_card)
      (makes k slots id c on.0 on.1.0 (small on.0 on.1.0) p a (sym next ∙ arm) (addressed k p c on.0 on.1 mine is.base) going stepping ready x y)))

-- an exchange, as the table has it
pub may_exchange : {o : List ℕ} (key k : Layout') (slots id place old new : ℕ) (me : Sat) (q : Standing) (st : Step (Unit {0})) → Allows (Kept key o) slots id me place (λ n. if n == old then new else n) (made k q st me)
    → Allows (Kept key o) slots id me place (λ n. either (n == old) new n) (made k q st me)
may_exchange {o} key k slots id place old new me q st h = subst (λ (f : ℕ → ℕ). Allows (Kept key o) slots id me place f (made k q st me)) (fun_ext (λ n. same (n == old) n)) h
  where
    same : (b : Bool) (n : ℕ) → (if b then new else n) ≡ either b new n
    same true n = refl
    same false n = refl

pub after_make : (k : Layout') (slots w x y : ℕ) (me me' : Sat) (p : Standing) (m n : ℕ) → w ≡ cell_place k m → IsOnMutex k p m → IsOne me → made k p (step slots w x y none) me n me'
    → IsOne me' × ((l : ℕ) × IsOnMutex k p l × Made p (cell_place k l) (card_of me.0) n (card_of me'.0)) × OwnKept k (card_of me.0) (card_of me'.0)
after_make k slots w x y me me' p m n there here one did =
    let r : IsOne me' × (Made p w (card_of me.0) n (card_of me'.0) × OwnKept k (card_of me.0) (card_of me'.0)) = turned me me' (λ c d. Made p w c n d × OwnKept k c d) one did in
    (r.0, (m, here, subst (λ (z : ℕ). Made p z (card_of me.0) n (card_of me'.0)) there r.1.0), r.1.1)
