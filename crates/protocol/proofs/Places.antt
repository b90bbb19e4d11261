-- Which words are whose.
use Rattle.std.proofs.Common.{◌≡◌, ◌≢◌, ◌⊎◌, inl, inr, ℕ, ◌+◌, ◌<◌, ◌≤◌, true, Option, Some, List, ◌∷◌, length, refl, sym, ap, ◌∙◌, subst, arith}
use Rattle.protocol.proofs.Vocabulary.{Layout', IsLayout, head_place, entry_place, cell_place, counter_place, State, is_valid, seen, words_of, address_in}
use Rattle.protocol.proofs.Vocabulary.{place_in, nat_tests}
use Rattle.memorymap.specs.Chains.{previous_place}
use Rattle.robustlist.specs.Words.{IsOn}
use Rattle.protocol.proofs.Seeing.{head_in, entry_in, cell_again}
use Rattle.mutex.proofs.Addresses.{again, further_on}
use Rattle.protocol.proofs.Kept.{Owned, Treats}

-- the word is thread t's own: its head's first entry or pending one, or a link of a mutex that it owns
abbrev pub IsMine : State → ℕ → ℕ → Type 0
IsMine s t at = (at ≡ head_place t) ⊎ ((at ≡ head_place t + 2) ⊎ (k : ℕ) × (k < s.layout.mutexes) × ((at ≡ entry_place s.layout k) ⊎ (at ≡ entry_place s.layout k + 1)) × ((seen s k).owner ≡ Some t))

-- it is valid
pub mine_is_valid : (s : State) (t at : ℕ) → 1 ≤ t → t ≤ s.layout.threads → IsMine s t at → is_valid s.layout at ≡ true
mine_is_valid s t at pos known (inl is) = grind (arith, nat_tests)
mine_is_valid s t at pos known (inr (inl is)) = grind (arith, nat_tests)
mine_is_valid s t at pos known (inr (inr (k, inside, inl is, own))) = grind (arith, nat_tests)
mine_is_valid s t at pos known (inr (inr (k, inside, inr is, own))) = grind (arith, nat_tests)

-- it is no mutex's cell
pub mine_is_no_cell : (s : State) (t at m : ℕ) → 1 ≤ t → t ≤ s.layout.threads → m < s.layout.mutexes → IsMine s t at → at ≢ cell_place s.layout m
mine_is_no_cell s t at m pos known in_m h = grind (arith)

-- nor a counter
pub mine_is_no_counter : (s : State) (t at c : ℕ) → 1 ≤ t → t ≤ s.layout.threads → IsMine s t at → at ≢ counter_place s.layout c
mine_is_no_counter s t at c pos known h = grind (arith)

-- nor another thread's own
pub mine_is_not_theirs : (s : State) (t u a b : ℕ) → 1 ≤ t → t ≤ s.layout.threads → 1 ≤ u → u ≤ s.layout.threads → t ≢ u → IsMine s t a → IsMine s u b → a ≢ b
mine_is_not_theirs s t u a b pos known first last apart x10 x11 = grind (arith)

-- ---- lists

-- a word of its list: its head's first entry, or a link of a mutex that it owns
abbrev pub IsLinked : State → ℕ → ℕ → Type 0
IsLinked s t p = (p ≡ head_place t) ⊎ (k : ℕ) × (k < s.layout.mutexes) × ((p ≡ entry_place s.layout k) ⊎ (p ≡ entry_place s.layout k + 1)) × ((seen s k).owner ≡ Some t)

linked_inside : (s : State) (t p : ℕ) → 1 ≤ t → t ≤ s.layout.threads → IsLinked s t p → p < words_of s.layout
linked_inside s t p pos known h = grind (arith)

-- the address of such a word, in its thread's process
pub record Links (s : State) (t at : ℕ) : Type 0 where
  pub place : ℕ
  pub from : at ≡ address_in s.layout t place
  pub met : place_in s.layout t at ≡ place
  pub linked : IsLinked s t place

module _ (s : State) (t : ℕ) (is : IsLayout s.layout) (pos : 1 ≤ t) (known : t ≤ s.layout.threads) where
  links_at : (at p : ℕ) → at ≡ address_in s.layout t p → IsLinked s t p → Links s t at
  links_at at p from linked = record { place = p; from = from; met = ap (place_in s.layout t) from ∙ again s.layout t is pos known p (linked_inside s t p pos known linked); linked = linked }

  -- the word after an entry
  pub behind : (k : ℕ) → k < s.layout.mutexes → previous_place (entry_in s.layout t k) ≡ address_in s.layout t (entry_place s.layout k + 1)
  behind k inside = further_on s.layout t is pos known (entry_place s.layout k) 1 (omega arith)

  -- an address of a list, and of one of an entry more of a mutex that the thread owns
  pub list_links : (out : Option ℕ) (es : List ℕ) (at : ℕ) → Owned s t out es → IsOn (head_in s.layout t) es at → Links s t at
  list_links out es at owned (inl here) = links_at at (head_place t) here (inl refl)
  list_links out es at owned (inr (x, among, inl here)) = let e = owned.entries x among in links_at at (entry_place s.layout e.0) (here ∙ e.2) (inr (e.0, e.1, inl refl, e.3))
  list_links out es at owned (inr (x, among, inr here)) = let e = owned.entries x among in links_at at (entry_place s.layout e.0 + 1) (here ∙ ap previous_place e.2 ∙ behind e.0 e.1) (inr (e.0, e.1, inr refl, e.3))

  pub more_links : (m : ℕ) (out : Option ℕ) (e : ℕ) (es : List ℕ) (at : ℕ) → Owned s t out es → m < s.layout.mutexes → e ≡ entry_in s.layout t m → (seen s m).owner ≡ Some t → IsOn (head_in s.layout t) (e ∷ es) at → Links s t at
  more_links m out e es at owned inside same own (inl here) = links_at at (head_place t) here (inl refl)
  more_links m out e es at owned inside same own (inr (x, inl first, inl here)) = links_at at (entry_place s.layout m) (here ∙ first ∙ same) (inr (m, inside, inl refl, own))
  more_links m out e es at owned inside same own (inr (x, inl first, inr here)) = links_at at (entry_place s.layout m + 1) (here ∙ ap previous_place (first ∙ same) ∙ behind m inside) (inr (m, inside, inr refl, own))
  more_links m out e es at owned inside same own (inr (x, inr among, here)) = list_links out es at owned (inr (x, among, here))

-- its place is one of the thread's own, and not the pending one's
linked_is_mine : (s : State) (t p : ℕ) → IsLinked s t p → IsMine s t p
linked_is_mine s t p (inl here) = inl here
linked_is_mine s t p (inr here) = inr (inr here)

pub links_mine : (s : State) (t at : ℕ) → Links s t at → IsMine s t (place_in s.layout t at)
links_mine s t at x = subst (IsMine s t) (sym x.met) (linked_is_mine s t x.place x.linked)

linked_not_pending : (s : State) (t p : ℕ) → t ≤ s.layout.threads → 1 ≤ t → IsLinked s t p → p ≢ head_place t + 2
linked_not_pending s t p known pos h = grind (arith)

pub links_not_pending : (s : State) (t at : ℕ) → 1 ≤ t → t ≤ s.layout.threads → Links s t at → place_in s.layout t at ≢ head_place t + 2
links_not_pending s t at pos known x e = linked_not_pending s t x.place known pos x.linked (sym x.met ∙ e)

-- other addresses are of other places
pub links_apart : (s : State) (t a b : ℕ) → Links s t a → Links s t b → a ≢ b → place_in s.layout t a ≢ place_in s.layout t b
links_apart s t a b x y apart e = apart (x.from ∙ ap (address_in s.layout t) (sym x.met ∙ e ∙ y.met) ∙ sym y.from)

-- the place of a mutex that is treated
pub treated_at : (s : State) (t : ℕ) → IsLayout s.layout → 1 ≤ t → t ≤ s.layout.threads → (at k : ℕ) → Treats s t at k → place_in s.layout t at ≡ cell_place s.layout k
treated_at s t is pos known at k treats = ap (place_in s.layout t) treats.1 ∙ cell_again s.layout t is pos known k treats.0

-- no access to a thread's own words, nor to a cell, is at an offset's place
pub offset_is_nobodys : (s : State) (t u at : ℕ) → 1 ≤ t → t ≤ s.layout.threads → 1 ≤ u → u ≤ s.layout.threads → IsMine s t at → head_place u + 1 ≢ at
offset_is_nobodys s t u at pos known first last h = grind (arith)

pub head_is_no_cell : (l : Layout') (u m i : ℕ) → 1 ≤ u → u ≤ l.threads → i < 3 → head_place u + i ≢ cell_place l m
head_is_no_cell l u m i first last few = λ e. omega (arith, e)

pub head_is_no_counter : (l : Layout') (u c i : ℕ) → 1 ≤ u → u ≤ l.threads → i < 3 → head_place u + i ≢ counter_place l c
head_is_no_counter l u c i first last few = λ e. omega (arith, e)

pub counter_is_no_cell : (l : Layout') (m c : ℕ) → m < l.mutexes → counter_place l c ≢ cell_place l m
counter_is_no_cell l m c inside = λ e. omega (arith, e)

pub counter_is_valid : (l : Layout') (c : ℕ) → c < length l.conditions → is_valid l (counter_place l c) ≡ true
counter_is_valid l c inside = grind (arith, nat_tests)
