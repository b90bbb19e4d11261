-- Addresses and places: a process maps the words at a base, and there the word at place x has the address base + x,
-- modulo 2^64.
--
-- *Address and place.* A process maps the words at a base: there the word at place p has the address base + p, modulo
-- 2^64. An address is valid in a process if its place is at least 1 and less than the number of words. Whatever a whole
-- program holds is an address of its thread's process: its registers, and the first entries, links and pending entries
-- that it stores. Words, queues, keys and buckets go by the place. The laws `addresses_are_sums` (`AddressesAreSums`;
-- `memorymap/specs/Mappings.antt`), `addresses_are_seen` and `writes_are_seen`: an address is the sum of the base of
-- the thread's own process and the place, modulo 2^64, so the place itself at base 0, one more for the next place, and
-- as far from that of another process as their bases are apart; from each base the two are inverses; and a write at a
-- place is seen at its address alone. So what is said of chains and of the exit walk, over words by address, holds of
-- the words as each thread's process sees them. Source: futex(2) on shared futexes, which meet by the memory and not by
-- its address; mmap(2).
use Rattle.std.specs.Prelude.{ℕ, ◌≡◌, ◌+◌, ◌-◌, ◌%◌, ◌^◌, ◌<◌, ◌==◌, if◌then◌else◌}

-- the address of a place as it is seen from a base
abbrev pub address_from : ℕ → ℕ → ℕ
address_from base p = (base + p) % 2 ^ 64

-- the place of an address as it is seen from a base
abbrev pub seen_at : ℕ → ℕ → ℕ
seen_at base at = (at + (2 ^ 64 - base)) % 2 ^ 64

-- the words as they are seen from a base: the word at an address is that at its place
abbrev pub words_from : ℕ → (ℕ → ℕ) → ℕ → ℕ
words_from base words at = words (seen_at base at)

-- from each base, each place has an address of its own, and each address is a place's
abbrev pub AddressesAreSeen : Type 0
AddressesAreSeen = (base n : ℕ) → base < 2 ^ 64 → n < 2 ^ 64
    → (seen_at base (address_from base n) ≡ n) × (address_from base (seen_at base n) ≡ n)

-- a write at an address, which is one at its place, changes the words as they are seen from the base at that address
-- alone
abbrev pub WritesAreSeen : Type 0
WritesAreSeen =
    (base : ℕ) (words : ℕ → ℕ) (a v x : ℕ) → base < 2 ^ 64 → a < 2 ^ 64 → x < 2 ^ 64
    → words_from base (λ p. if p == seen_at base a then v else words p) x
    ≡ (if x == a then v else words_from base words x)
