-- What the walk leaves of a list that is whole (robust-futexes.rst, robust-futex-ABI.rst).
use Rattle.std.specs.Prelude.{ℕ, ◌≡◌, ◌≢◌, ◌⊎◌, ◌≤◌, ◌==◌, Bool, true, false, ◌&&◌}
use Rattle.std.specs.Prelude.{◌||◌, not, List, [], ◌∷◌, length, if◌then◌else◌}
use Rattle.posixmutex.specs.Objects.{held_limit}
use Rattle.exitwalk.specs.Words.{sum_of, owner_in, died_word}
use Rattle.exitwalk.specs.Meanings.{Head, meaning}

-- following next links from the address e visits exactly these entries, and comes back to the head at h
abbrev pub Leads : (ℕ → ℕ) → ℕ → ℕ → List ℕ → Type 0
Leads words h e [] = e ≡ h
Leads words h e (x ∷ xs) = (e ≡ x) × (x ≢ h) × Leads words h (words x) xs

abbrev pub Stands : ℕ → List ℕ → Type 0
Stands e [] = ⊥
Stands e (x ∷ xs) = (e ≡ x) ⊎ Stands e xs

-- a place is that of the word of one of the entries; of the pending entry, 0 being none
abbrev pub is_listed : ℕ → List ℕ → ℕ → Bool
is_listed offset [] at = false
is_listed offset (e ∷ es) at = (at == sum_of e offset) || is_listed offset es at

abbrev pub is_pended : Head → ℕ → Bool
is_pended h at = not (h.pending == 0) && (at == sum_of h.pending h.offset)

-- the list of a head: at most 2,048 entries that lead back to it; all addresses are valid, 0 is no entry, and no entry
-- is the word of one
pub record IsWhole (valid : ℕ → Bool) (words : ℕ → ℕ) (h : Head) (es : List ℕ) : Type 0 where
  pub first : valid h.at ≡ true
  pub second : (valid (sum_of h.at 1) ≡ true) × (words (sum_of h.at 1) ≡ h.offset)
  pub third : (valid (sum_of h.at 2) ≡ true) × (words (sum_of h.at 2) ≡ h.pending)
  pub leads : Leads words h.at (words h.at) es
  pub few : length es ≤ held_limit
  pub links : (e : ℕ) → Stands e es → (valid e ≡ true) × (e ≢ 0)
  pub places : (e : ℕ) → Stands e es → valid (sum_of e h.offset) ≡ true
  pub last : h.pending ≢ 0 → valid (sum_of h.pending h.offset) ≡ true
  pub apart : (e f : ℕ) → Stands e es → Stands f es → sum_of e h.offset ≢ f

-- what becomes of a word that is treated: a word of thread t's says that its owner died; any other stays
abbrev pub treated_word : ℕ → ℕ → ℕ
treated_word t v = if owner_in v == t then died_word v else v

-- of a whole list the word of each entry is treated, and that of the pending entry; each other word stays
abbrev pub WholeListsAreTreated : Type 0
WholeListsAreTreated =
    (valid : ℕ → Bool) (t : ℕ) (words : ℕ → ℕ) (h : Head) (es : List ℕ) → 1 ≤ t → IsWhole valid words h es
    → (at : ℕ)
    → (meaning valid t h.at words).words at
    ≡ (if is_listed h.offset es at || is_pended h at then treated_word t (words at) else words at)
