-- Lists linked through words, as the kernel finds robust lists (its document robust-futex-ABI; get_robust_list(2)).
--
-- A head has three words: the address of the first entry, the offset to the lock words, the pending entry. An entry has
-- two: the address of the next entry, or of the head in the last one, and after it the address of the entry before
-- it, or of the head in the first one. An entry is named by the address of its next word. `w a` is the word at the
-- address a; words may be seen from any base.
use Rattle.std.specs.Prelude.{ℕ, ◌≡◌, ◌≢◌, ◌+◌, ◌%◌, ◌^◌, ◌==◌, List, [], ◌∷◌, if◌then◌else◌, ◌⊎◌}

-- this many words after an address; addresses have 64 bits
abbrev pub address_sum : ℕ → ℕ → ℕ
address_sum a k = (a + k) % 2 ^ 64

-- where an entry has its previous word
abbrev pub previous_place : ℕ → ℕ
previous_place e = address_sum e 1

-- it is one of them
abbrev pub IsAmong : ℕ → List ℕ → Type 0
IsAmong a [] = ⊥
IsAmong a (x ∷ xs) = (a ≡ x) ⊎ IsAmong a xs

-- it is none of them
abbrev pub IsApart : ℕ → List ℕ → Type 0
IsApart a [] = Unit {0}
IsApart a (x ∷ xs) = (a ≢ x) × IsApart a xs

abbrev pub AreDifferent : List ℕ → Type 0
AreDifferent [] = Unit {0}
AreDifferent (x ∷ xs) = IsApart x xs × AreDifferent xs

-- the places of the two words of each entry
abbrev pub links_of : List ℕ → List ℕ
links_of [] = []
links_of (e ∷ es) = e ∷ previous_place e ∷ links_of es

-- the places of a head's three words and of the entries' two
abbrev pub places_of : ℕ → List ℕ → List ℕ
places_of head es = head ∷ address_sum head 1 ∷ address_sum head 2 ∷ links_of es

-- the address is that of the first of these entries, each entry's next word leads to the one after it, and the last
-- one's to the head; of no entries, the address is the head's
abbrev pub Leads : (ℕ → ℕ) → ℕ → ℕ → List ℕ → Type 0
Leads w head a [] = a ≡ head
Leads w head a (e ∷ es) = (a ≡ e) × Leads w head (w e) es

-- each entry's previous word is the address of the one before it, and the first one's is the address given
abbrev pub LeadsBack : (ℕ → ℕ) → ℕ → List ℕ → Type 0
LeadsBack w a [] = Unit {0}
LeadsBack w a (e ∷ es) = (w (previous_place e) ≡ a) × LeadsBack w e es

-- a chain: following the next words from the head visits exactly these entries, all different, and comes back to the
-- head
pub record IsChain (w : ℕ → ℕ) (head : ℕ) (entries : List ℕ) : Type 0 where
  pub leads : Leads w head (w head) entries
  pub different : AreDifferent (head ∷ entries)

-- a chain both ways: the previous words lead from each entry to the one before it and from the first to the head, and
-- all these words have places of their own
pub record IsChainBothWays (w : ℕ → ℕ) (head : ℕ) (entries : List ℕ) : Type 0 where
  pub chain : IsChain w head entries
  pub back : LeadsBack w head entries
  pub places : AreDifferent (places_of head entries)

-- a list without an entry
abbrev pub without : ℕ → List ℕ → List ℕ
without e [] = []
without e (x ∷ xs) = if x == e then xs else x ∷ without e xs
