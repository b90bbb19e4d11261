-- The word of a robust mutex, by its bits (futex(2); the kernel's robust-futex-ABI; UNUSABLE is this project's own).
use Rattle.std.specs.Prelude.{ℕ, ◌==◌, ◌+◌, ◌*◌, ◌/◌, ◌%◌, ◌^◌, Bool, true, false, not}

-- What the word of a cell says: bits 0 to 29 are the owner's id, 0 for none; bit 30 is OWNER_DIED, bit 31 WAITERS and
-- bit 32 UNUSABLE. `rest` is what is above them, 0 in the cell of a mutex.
pub record Fields : Type 0 where
  pub owner : ℕ
  pub died : Bool
  pub waiters : Bool
  pub unusable : Bool
  pub rest : ℕ

-- a bit's weight where it is set
abbrev pub bit : Bool → ℕ → ℕ
bit true n = n
bit false n = 0

abbrev pub word_of : Fields → ℕ
word_of c =
    c.owner + bit c.died 0x4000_0000 + bit c.waiters 0x8000_0000 + bit c.unusable 0x1_0000_0000 + c.rest * 0x2_0000_0000

abbrev pub fields_of : ℕ → Fields
fields_of w =
    record {
      owner = w % 0x4000_0000;
      died = w / 0x4000_0000 % 2 == 1;
      waiters = w / 0x8000_0000 % 2 == 1;
      unusable = w / 0x1_0000_0000 % 2 == 1;
      rest = w / 0x2_0000_0000;
    }

-- somebody may sleep on it
abbrev pub waiting : Fields → Fields
waiting c = record c { waiters = true }

abbrev pub taken : Fields → ℕ → Fields
taken c t = record c { owner = t }

-- what the exit walk leaves of a dead owner's cell
abbrev pub marked : Fields → Fields
marked c = record c { owner = 0; died = true }

abbrev pub released : Fields → Fields
released c = record c { owner = 0 }

-- released by an owner who never declared it consistent
abbrev pub spoiled : Fields → Fields
spoiled c = record c { owner = 0; died = false; unusable = not c.unusable }

-- the futex word: the low half
abbrev pub low_of : Fields → ℕ
low_of c = word_of c % 2 ^ 32

-- the word of a free cell that says nothing but that somebody may sleep on it: WAITERS alone
abbrev pub waiters_alone : ℕ
waiters_alone = 0x8000_0000

-- a free cell that says nothing but that: where nobody sleeps on it, it may be trimmed to 0
abbrev pub trimmable : Fields → Bool
trimmable c = word_of c == waiters_alone
