-- The addresses that a thread's process has for a layout's words, and the places that addresses are of.
use Rattle.std.proofs.Common.{◌≡◌, ℕ, ◌+◌, ◌-◌, ◌<◌, ◌≤◌, length, sym, ap, ◌∙◌, arith}
use Rattle.std.proofs.lemmas.List.Elements.{All-get_or}
use Rattle.std.specs.Prelude.{slice_index}
use Rattle.memorymap.specs.Chains.{address_sum}
use Rattle.memorymap.specs.Layouts.{Layout', IsLayout, head_place, entry_place, words_of, base_of, address_in, place_in}
use Rattle.mutex.specs.WholeLists.{head_in, entry_in}

module _ (l : Layout') (t : ℕ) (is : IsLayout l) (pos : 1 ≤ t) (known : t ≤ l.threads) where
  -- the words are few, and mapped low: so no address wraps
  pub few_words : words_of l ≤ 0xffff
  few_words = let threads = is.threads.1 in let mutexes = is.mutexes.1 in let conditions = is.conditions.0 in omega arith

  pub low : base_of l t ≤ 1000000000
  low =
      All-get_or (λ (b : ℕ). b ≤ 1000000000) l.bases (slice_index l.processes (t - 1)) 0
      (All-get_or (λ (p : ℕ). p < length l.bases) l.processes (t - 1) 0 (let each = is.each in omega arith) is.members) is.bases

  -- the place of an address
  pub again : (p : ℕ) → p < words_of l → place_in l t (address_in l t p) ≡ p
  again p inside = let few = few_words in let base = low in omega (arith, inside)

  -- each place has an address of its own
  pub same_place : (p q : ℕ) → p < words_of l → q < words_of l → address_in l t p ≡ address_in l t q → p ≡ q
  same_place p q inside below e = sym (again p inside) ∙ ap (place_in l t) e ∙ again q below

  pub same_entry : (k j : ℕ) → k < l.mutexes → j < l.mutexes → entry_in l t k ≡ entry_in l t j → k ≡ j
  same_entry k j inside below e = let place = same_place (entry_place l k) (entry_place l j) (omega arith) (omega arith) e in omega (arith, place)

  -- this many words further on
  pub further_on : (p k : ℕ) → p + k < words_of l → address_sum (address_in l t p) k ≡ address_in l t (p + k)
  further_on p k inside = let few = few_words in let base = low in omega (arith, inside)

  -- a head's further words
  pub head_further : (k : ℕ) → k < 3 → address_sum (head_in l t) k ≡ address_in l t (head_place t + k)
  head_further k few = further_on (head_place t) k (omega arith)

  pub head_word_again : (k : ℕ) → k < 3 → place_in l t (address_sum (head_in l t) k) ≡ head_place t + k
  head_word_again k few = ap (place_in l t) (head_further k few) ∙ again (head_place t + k) (omega arith)
