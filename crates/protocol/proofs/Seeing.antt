-- What a thread's process sees: the addresses there of a layout's words, and the places that addresses are of.
use Rattle.std.proofs.Common.{◌≡◌, ◌≢◌, ℕ, ◌<◌, ◌≤◌, length, arith}
use Rattle.memorymap.specs.Addresses.{words_from}
use Rattle.memorymap.specs.Chains.{address_sum}
use Rattle.memorymap.specs.Layouts.{Layout', IsLayout, head_place, entry_place, cell_place, counter_place, words_of, base_of, address_in, place_in}
use Rattle.mutex.proofs.Addresses.{few_words, low, again}

-- the addresses of its head, of mutex k's entry and cell, and of counter k, in thread t's process
abbrev pub head_in : Layout' → ℕ → ℕ
head_in l t = address_in l t (head_place t)

abbrev pub entry_in : Layout' → ℕ → ℕ → ℕ
entry_in l t k = address_in l t (entry_place l k)

abbrev pub cell_in : Layout' → ℕ → ℕ → ℕ
cell_in l t k = address_in l t (cell_place l k)

abbrev pub counter_in : Layout' → ℕ → ℕ → ℕ
counter_in l t k = address_in l t (counter_place l k)

-- the words there, by their addresses
abbrev pub words_in : Layout' → ℕ → (ℕ → ℕ) → ℕ → ℕ
words_in l t words = words_from (base_of l t) words

module _ (l : Layout') (t : ℕ) (is : IsLayout l) (pos : 1 ≤ t) (known : t ≤ l.threads) where
  -- no word is at 0
  pub not_null : (p : ℕ) → 1 ≤ p → p < words_of l → address_in l t p ≢ 0
  not_null p first inside e = let few = few_words l t is pos known in let base = low l t is pos known in omega (arith, inside, e)

  -- an entry's cell, by the offset
  pub cell_before : (k : ℕ) → k < l.mutexes → address_sum (entry_in l t k) 18446744073709551615 ≡ cell_in l t k
  cell_before k inside = let few = few_words l t is pos known in let base = low l t is pos known in omega (arith, inside)

  pub head_again : place_in l t (head_in l t) ≡ head_place t
  head_again = again l t is pos known (head_place t) (omega arith)

  pub cell_again : (k : ℕ) → k < l.mutexes → place_in l t (cell_in l t k) ≡ cell_place l k
  cell_again k inside = again l t is pos known (cell_place l k) (omega arith)

  pub entry_again : (k : ℕ) → k < l.mutexes → place_in l t (entry_in l t k) ≡ entry_place l k
  entry_again k inside = again l t is pos known (entry_place l k) (omega arith)

  pub counter_again : (k : ℕ) → k < length l.conditions → place_in l t (counter_in l t k) ≡ counter_place l k
  counter_again k there = again l t is pos known (counter_place l k) (omega arith)
