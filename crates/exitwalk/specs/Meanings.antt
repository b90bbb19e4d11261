-- What the exit walk leaves where nobody else writes (robust-futexes.rst, robust-futex-ABI.rst, get_robust_list(2)): a
-- fold over the entries.
--
-- *The meaning of the exit walk.* Over any words that nobody else changes: which words say afterwards that their owner
-- died, and where a sleeper is woken, entry after entry, then the pending one; the first invalid address ends all.
use Rattle.std.specs.Prelude.{ℕ, zero, suc, ◌==◌, Bool, true, false, List, [], ◌∷◌, ◌++◌, if◌then◌else◌}
use Rattle.posixmutex.specs.Objects.{held_limit}
use Rattle.exitwalk.specs.Words.{sum_of, owner_in, has_waiters, died_word, put}

-- the words, and the places at which one sleeper was woken, in their order
pub record Effect : Type 0 where
  pub words : ℕ → ℕ
  pub wakes : List ℕ

-- nothing is done yet
abbrev pub untouched : (ℕ → ℕ) → Effect
untouched words = record { words = words; wakes = [] }

-- one sleeper on the word at a place is woken
abbrev pub woken : ℕ → Effect → Effect
woken a s = record { words = s.words; wakes = s.wakes ++ (a ∷ []) }

abbrev pub woken_if : Bool → ℕ → Effect → Effect
woken_if true a s = woken a s
woken_if false a s = s

-- the word at a place says that its owner has died
abbrev pub died_at : ℕ → Effect → Effect
died_at a s = record { words = put s.words a (died_word (s.words a)); wakes = s.wakes }

-- the word at a place is treated: where its owner is t, it says that its owner has died, and one sleeper is woken if
-- there was any; else it is left alone
abbrev pub treated : ℕ → ℕ → Effect → Effect
treated t a s = if owner_in (s.words a) == t then woken_if (has_waiters (s.words a)) a (died_at a s) else s

-- a thread that died between the release of its pending mutex and the wake of a sleeper left a word with no owner: the
-- sleeper is woken for it
abbrev pub pending_treated : ℕ → ℕ → Effect → Effect
pending_treated t a s = if owner_in (s.words a) == 0 then woken a s else treated t a s

-- whoever reads at an address goes on with the word there; where that is invalid all ends, and what is done is done
abbrev pub reading : (ℕ → Bool) → ℕ → Effect → (ℕ → Effect) → Effect
reading valid a s go = if valid a then go (s.words a) else s

-- a list's head: its address, the offset from an entry to its word, and the pending entry
pub record Head : Type 0 where
  pub at : ℕ
  pub offset : ℕ
  pub pending : ℕ

-- after the list: the pending entry, if there is one
abbrev pub at_last : (ℕ → Bool) → ℕ → Head → Effect → Effect
at_last valid t h s =
    if h.pending == 0
    then s
    else reading valid (sum_of h.pending h.offset) s (λ v. pending_treated t (sum_of h.pending h.offset) s)

-- the entries from e on, this many at most, back to the head: each one's next is read, and then its word is treated,
-- but that of the pending entry isn't yet
unfoldable pub entries : (ℕ → Bool) → ℕ → Head → ℕ → ℕ → Effect → Effect
entries valid t h zero e s = at_last valid t h s
entries valid t h (suc n) e s =
    if e == h.at then at_last valid t h s
    else reading valid e s (λ next.
    if e == h.pending then entries valid t h n next s
    else reading valid (sum_of e h.offset) s (λ v. entries valid t h n next (treated t (sum_of e h.offset) s)))

-- the walk over thread t's list, whose head is at h: 2,048 entries at most
abbrev pub meaning : (ℕ → Bool) → ℕ → ℕ → (ℕ → ℕ) → Effect
meaning valid t h words =
    let s = untouched words in
    reading valid h s (λ first. reading valid (sum_of h 1) s (λ offset. reading valid (sum_of h 2) s (λ pending.
    entries valid t (record { at = h; offset = offset; pending = pending }) held_limit first s)))
