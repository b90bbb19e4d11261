-- The owner that an id names.
use Rattle.std.proofs.Common.{◌≡◌, ℕ, zero, suc, ◌<◌, Some, None, refl, arith}
use Rattle.posixmutex.specs.Objects.{owner_of}

-- 0 names nobody
pub owner_of-zero : owner_of 0 ≡ None
owner_of-zero = refl

-- an id names its thread
pub owner_of-some : (t : ℕ) → 0 < t → owner_of t ≡ Some t
owner_of-some zero some = absurd (omega arith)
owner_of-some (suc t) some = refl

-- the thread that is named has the id
pub owner_of-is : (n t : ℕ) → owner_of n ≡ Some t → n ≡ t
owner_of-is zero t is = cc
owner_of-is (suc n) t is = cc

-- nobody is named by 0 alone
pub owner_of-none : (n : ℕ) → owner_of n ≡ None → n ≡ 0
owner_of-none zero is = refl
owner_of-none (suc n) is = cc
