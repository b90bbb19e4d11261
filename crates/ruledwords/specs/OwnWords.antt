-- Own words: those that one thread alone writes, while they are its own. They have the values that it knows.
--
-- *Own words of running threads.* A thread's card has the values of the words that it alone writes, by place. A store
-- of such a word is known from then on; an access at a cell leaves what is known of the words that stay its own, and
-- brings the links of a mutex that it takes. By these values a thread that is in no call has a list, both ways, of just
-- the mutexes that it holds, and nothing is pending (`IsLive`); and of one that has died a walk would find all that it
-- holds (`IsDying`). Source: robust-futexes; robust-futex-ABI.
use Rattle.std.specs.Prelude.{◌≡◌, ◌+◌, ℕ, Bool, Some, [], ◌∷◌}
use Rattle.stepprograms.specs.declared.access.Access.{Access}
use Rattle.stepprograms.specs.declared.access.Access.TheVariants as access
use Rattle.memorymap.specs.Layouts.{Layout', head_place, cell_place, cell_offset, place_in}
use Rattle.mutex.specs.WholeLists.{IsOwnPlace}
use Rattle.ruledwords.specs.declared.pass.Card.{Card}
use Rattle.ruledwords.specs.Cards.{at, value_at, put_value}
use Rattle.ruledwords.specs.Seen.{holds}
use Rattle.ruledwords.specs.Rules.{Sat, At, Turns}

-- whether the thread owns mutex m, by its own points
abbrev pub owns_in : Layout' → Card → ℕ → Bool
owns_in k c m = holds c.thread (at c.seen (cell_place k m))

-- the word there is the thread's own: its head's first entry or pending one, or a link of a mutex that it holds
abbrev pub IsOwn : Layout' → Card → ℕ → Type 0
IsOwn k c p = IsOwnPlace k c.thread (owns_in k c) p

-- the thread knows all words that are its own, and its head's offset from an entry to its cell, which nobody changes
pub record KnowsOwn (k : Layout') (c : Card) : Type 0 where
  pub each : (p : ℕ) → IsOwn k c p → (x : ℕ) × (value_at c.values p ≡ Some x)
  pub offset : value_at c.values (head_place c.thread + 1) ≡ Some cell_offset

-- what it knows that has stored v there
abbrev pub knowing : Card → ℕ → ℕ → Card
knowing c p v = record c { values = put_value c.values p (Some v) }

-- what it knows after one of its own accesses: a store's word
abbrev pub own_after : Layout' → Card → Access → Card
own_after k c (access.Store a v) = knowing c (place_in k c.thread a) v
own_after k c a = c

-- the thread has stored v there
abbrev pub stored : At → Sat → ℕ → Sat → Type 0
stored st me r me' = Turns me me' (λ c d. d ≡ knowing c st.word st.first)

-- it has loaded the word there, which is the one that it knows, if it knows one
abbrev pub recalled : At → Sat → ℕ → Sat → Type 0
recalled st me r me' =
    (c : Card) → me ≡ (c ∷ [], []) → (me' ≡ (c ∷ [], [])) × ((x : ℕ) → value_at c.values st.word ≡ Some x → r ≡ x)
