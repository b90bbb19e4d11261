-- What a mark makes of a word, by its bits.
use Rattle.std.proofs.Common.{◌≡◌, ℕ, ◌*◌, ◌/◌, ◌%◌, ◌<◌, ◌==◌, arith}
use Rattle.std.proofs.lemmas.Bool.Decides.{nat_tests}
use Rattle.lockword.specs.Cells.{bit}
use Rattle.exitwalk.specs.Words.{died_word}
use Rattle.exitwalk.specs.Walks.{marked_word}

-- the weight of a bit that is tested
bit_test : (x n : ℕ) → bit (x % 2 == 1) n ≡ (x % 2) * n
bit_test x n = let below : x % 2 < 2 = omega arith in go (x % 2) below
  where
    go : (y : ℕ) → y < 2 → bit (y == 1) n ≡ y * n
    go y h = grind (arith, nat_tests)

-- the owner's id goes, OWNER_DIED comes, and all else stays
pub marked_died : (v : ℕ) → marked_word v ≡ died_word v
marked_died v = omega (arith, bit_test (v / 0x8000_0000) 0x8000_0000, bit_test (v / 0x1_0000_0000) 0x1_0000_0000)
