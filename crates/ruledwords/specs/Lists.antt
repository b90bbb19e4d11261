-- What a thread's own words say of its robust list, as far as its card knows them (robust-futex-ABI;
-- get_robust_list(2)).
use Rattle.std.specs.Prelude.{◌<◌, ℕ, ◌^◌, nat_lt, Option, None, Some, if◌then◌else◌}
use Rattle.memorymap.specs.Layouts.{Layout', place_in}
use Rattle.mutex.specs.Standings.{Whole}
use Rattle.mutex.specs.WholeLists.{HasList, KeepsList, IsCallOn, CanBeWalked}
use Rattle.ruledwords.specs.declared.pass.Card.{Card}
use Rattle.ruledwords.specs.Cards.{value_at}
use Rattle.ruledwords.specs.OwnWords.{owns_in, KnowsOwn}

abbrev pub or_zero : Option ℕ → ℕ
or_zero None = 0
or_zero (Some x) = x

-- the word that the thread knows at an address in its process, 0 where it knows none
abbrev pub known : Layout' → Card → ℕ → ℕ
known k c a = if nat_lt a (2 ^ 64) then or_zero (value_at c.values (place_in k c.thread a)) else 0

-- between calls: it knows its own words, and they are a list of what it owns
pub record IsAlive (k : Layout') (c : Card) : Type 0 where
  pub knows : KnowsOwn k c
  pub list : HasList k c.thread (owns_in k c) (known k c)

-- in a call on mutex m
pub record IsInCall (k : Layout') (c : Card) (m : ℕ) (p : Whole) : Type 0 where
  pub inside : m < k.mutexes
  pub knows : KnowsOwn k c
  pub of : IsCallOn k c.thread m p
  pub list : KeepsList k c.thread (owns_in k c) m p.operation p.phase (known k c)

-- dead: the kernel will find all that it owns
pub record IsMortal (k : Layout') (c : Card) : Type 0 where
  pub knows : KnowsOwn k c
  pub list : CanBeWalked k c.thread (owns_in k c) (known k c)

-- whoever was alive is so still, and whoever was dead
abbrev pub StaysSo : Layout' → Card → Card → Type 0
StaysSo k c d = (IsAlive k c → IsAlive k d) × (IsMortal k c → IsMortal k d)
