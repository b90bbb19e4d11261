-- Where the words lie in a process: after its base, one address for each place.
use Rattle.std.specs.Prelude.{ℕ, ◌≡◌, ◌+◌, ◌-◌, ◌%◌, ◌^◌, ◌<◌, ◌≤◌, ◌↔◌, true, slice_index}
use Rattle.memorymap.specs.Addresses.{address_from, seen_at}
use Rattle.memorymap.specs.Layouts.{Layout', address_in, place_in, is_place, words_of}

-- the word at place x has the address base + x, modulo 2^64, and that is found at place x again. So a process that maps
-- the words at 0 has places for addresses; the next place has the next address; two processes have the addresses of a
-- place as far apart as their bases; a thread has the base of its own process; and null is no place, nor is what lies
-- after the words
pub record AddressesAreSums : Type 0 where
  pub sum : (base place : ℕ) → address_from base place ≡ (base + place) % 2 ^ 64
  pub found : (base place : ℕ) → base < 2 ^ 64 → place < 2 ^ 64 → seen_at base ((base + place) % 2 ^ 64) ≡ place
  pub at_zero : (place : ℕ) → place < 2 ^ 64 → (address_from 0 place ≡ place) × (seen_at 0 place ≡ place)
  pub next : (base place : ℕ) → address_from base (place + 1) ≡ (address_from base place + 1) % 2 ^ 64
  pub apart : (base other place : ℕ) → base ≤ other
      → address_from other place ≡ (address_from base place + (other - base)) % 2 ^ 64
  pub of_threads : (l : Layout') (t place : ℕ)
      → address_in l t place ≡ (slice_index l.bases (slice_index l.processes (t - 1)) + place) % 2 ^ 64
  pub valid : (l : Layout') (place : ℕ) → (is_place l place ≡ true) ↔ ((1 ≤ place) × (place < words_of l))
  pub of_places : (l : Layout') (t at : ℕ)
      → place_in l t at ≡ seen_at (slice_index l.bases (slice_index l.processes (t - 1))) at
