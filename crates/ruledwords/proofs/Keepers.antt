-- Whose the words are.
use Rattle.std.proofs.Common.{Bool, true, false, ◌≡◌, ◌≢◌, ◌⊎◌, ⊎_elim, ℕ, ◌+◌, ◌-◌, ◌/◌, ◌%◌, ◌<◌, ◌≤◌, ◌==◌, ◌&&◌, ◌||◌, List, length, set, refl, sym, ap, ◌∙◌, arith, get_or-set_other, get_or-set_same}
use Rattle.std.specs.Prelude.{nat_lt, not, if◌then◌else◌}
use Rattle.std.proofs.lemmas.Bool.Decides.{nat_tests}
use Rattle.std.proofs.lemmas.Bool.{eqb-false}
use mathlib.Core.Logic.{dite}
use native.Mathlib.Decide.{ℕ_discrete}
use Rattle.lockword.specs.Cells.{fields_of}
use Rattle.memorymap.specs.Layouts.{Layout', head_place, cell_place, entry_place, counter_place, words_of}
use Rattle.ruledwords.specs.Rules.{guard, owner_at, keeper}

-- the two tests of a place
abbrev keeper_by : Bool → Bool → ℕ → ℕ → ℕ
keeper_by head cell t owner = if head then t else if cell then 0 else owner

-- a cell is nobody's own
pub cell_keeper : (k : Layout') (ws : List ℕ) (m : ℕ) → m < k.mutexes → keeper k ws (cell_place k m) ≡ 0
cell_keeper k ws m low = grind (arith, nat_tests)

-- a head is its thread's
pub head_keeper : (k : Layout') (ws : List ℕ) (t p : ℕ) → 1 ≤ t → t ≤ k.threads → head_place t ≤ p → p < head_place t + 3 → keeper k ws p ≡ t
head_keeper k ws t p pos le low high = let here : (p + 2) / 3 ≡ t = omega arith in grind (arith, nat_tests)

-- a link is its mutex's owner's
abbrev pub IsLink : Layout' → ℕ → ℕ → Type 0
IsLink k m p = (p ≡ entry_place k m) ⊎ (p ≡ entry_place k m + 1)

pub link_keeper : (k : Layout') (ws : List ℕ) (m p : ℕ) → m < k.mutexes → IsLink k m p → keeper k ws p ≡ owner_at k ws m
link_keeper k ws m p low link = ⊎_elim
    (λ (e : p ≡ entry_place k m). by_place p (omega arith) (omega arith) (omega arith) (omega arith))
    (λ (e : p ≡ entry_place k m + 1). by_place p (omega arith) (omega arith) (omega arith) (omega arith))
    link
  where
    by_place : (p : ℕ) → cell_place k 0 ≤ p → p < counter_place k 0 → (p - cell_place k 0) % 3 ≢ 0 → (p - cell_place k 0) / 3 ≡ m → keeper k ws p ≡ owner_at k ws m
    by_place p high low other is = grind (arith, nat_tests)

pub link_no_cell : (k : Layout') (m l p : ℕ) → IsLink k m p → p ≢ cell_place k l
link_no_cell k m l p link e = ⊎_elim (λ (f : p ≡ entry_place k m). absurd (omega arith)) (λ (f : p ≡ entry_place k m + 1). absurd (omega arith)) link

-- words with the same owners have the same keepers
pub keeper_same : (k : Layout') (ws ws' : List ℕ) (p : ℕ) → owner_at k ws' (guard k p) ≡ owner_at k ws (guard k p) → keeper k ws' p ≡ keeper k ws p
keeper_same k ws ws' p same = ap (λ (o : ℕ). keeper_by (nat_lt p (cell_place k 0)) (nat_lt p (counter_place k 0) && ((p - cell_place k 0) % 3 == 0)) ((p + 2) / 3) o) same

pub other_cell : (k : Layout') (m l : ℕ) → l ≢ m → cell_place k l ≢ cell_place k m
other_cell k m l n e = n (omega arith)

pub inside : (k : Layout') (m : ℕ) → m < k.mutexes → cell_place k m < words_of k
inside k m low = omega arith

-- after a change of the cell of m
pub owner_set : (k : Layout') (ws : List ℕ) (m n l : ℕ) → l ≢ m → owner_at k (set ws (cell_place k m) n) l ≡ owner_at k ws l
owner_set k ws m n l other = ap (λ (v : ℕ). (fields_of v).owner) (get_or-set_other ws (cell_place k m) (cell_place k l) n 0 (other_cell k m l other))

pub owner_here : (k : Layout') (ws : List ℕ) (m n : ℕ) → cell_place k m < length ws → owner_at k (set ws (cell_place k m) n) m ≡ (fields_of n).owner
owner_here k ws m n within = ap (λ (v : ℕ). (fields_of v).owner) (get_or-set_same ws (cell_place k m) n 0 within)

-- the keeper is the owner of the place's mutex, unless it is no matter who that is
pub keeper_set : (k : Layout') (ws : List ℕ) (m n t p : ℕ) → cell_place k m < length ws → keeper k ws p ≡ t → (cell_place k 0 ≤ p → guard k p ≡ m → owner_at k ws m ≡ t → (fields_of n).owner ≡ t) → keeper k (set ws (cell_place k m) n) p ≡ t
keeper_set k ws m n t p within was keep = dite (ℕ_discrete (guard k p) m)
    (λ here. go (nat_lt p (cell_place k 0)) refl (nat_lt p (counter_place k 0) && ((p - cell_place k 0) % 3 == 0)) here was)
    (λ other. keeper_same k ws (set ws (cell_place k m) n) p (owner_set k ws m n (guard k p) other) ∙ was)
  where
    go : (head : Bool) → nat_lt p (cell_place k 0) ≡ head → (cell : Bool) → guard k p ≡ m → keeper_by head cell ((p + 2) / 3) (owner_at k ws (guard k p)) ≡ t → keeper_by head cell ((p + 2) / 3) (owner_at k (set ws (cell_place k m) n) (guard k p)) ≡ t
    go true is cell here was = was
    go false is true here was = was
    go false is false here was =
        let high : cell_place k 0 ≤ p = grind (arith, nat_tests) in
        ap (owner_at k (set ws (cell_place k m) n)) here ∙ owner_here k ws m n within ∙ keep high here (ap (owner_at k ws) (sym here) ∙ was)

-- the places that stay a thread's own when it releases m
abbrev pub stays : Layout' → ℕ → ℕ → Bool
stays k m q = nat_lt q (cell_place k 0) || not (guard k q == m)

pub stays_not : (k : Layout') (m q : ℕ) → stays k m q ≡ true → cell_place k 0 ≤ q → guard k q ≡ m → ⊥
stays_not k m q is high here = go (guard k q == m) refl
  where
    go : (b : Bool) → (guard k q == m) ≡ b → ⊥
    go true e = let out : nat_lt q (cell_place k 0) ≡ false = grind (arith, nat_tests) in let bad : false ≡ true = sym (λ i. out i || not (e i)) ∙ is in cc
    go false e = eqb-false (guard k q) m e here

-- two kinds of places
pub counter_no_cell : (k : Layout') (q m : ℕ) → m < k.mutexes → counter_place k q ≢ cell_place k m
counter_no_cell k q m low e = omega arith
