-- What an access does to the word that it meets, and what it answers. Of the futex sections a trim alone changes a
-- word.
--
-- *Access and answer.* What one access does to the word that it meets, and what it answers: load, store, exchange, the
-- fetch operations, and the futex sections. Both are functions of the word and of who sleeps on it; of the sections a
-- trim alone changes a word. Source: futex(2).
--
-- *Meaning of a trim.* Of a word and who sleeps on it: the word changes, from 0x80000000 to 0, exactly where it has
-- that value and nobody sleeps there; the answer is true exactly there. No queue changes. The law `trims_are_right`
-- says that an access's word and answer are so, and the model's call meets it (`TrimsAt`).
--
-- *Falling asleep, being woken and moved.* A wait whose word has the expected low half puts its thread at the end of
-- the word's queue; a wake takes the first of a queue out of it; a requeue takes the first out of it and puts more of
-- them, in their order, at the end of another word's queue, and does so where its word has the expected low half if it
-- compares that; no other access changes a queue. Source: futex(2).
use Rattle.std.specs.Prelude.{ℕ, ◌≡◌, ◌==◌, ◌+◌, ◌%◌, ◌^◌, ◌&&◌, ◌↔◌, Bool, true, false, List, []}
use Rattle.std.specs.Prelude.{◌∷◌, length, take, drop, bit_or, bit_and, bit_xor, if◌then◌else◌}
use Rattle.lockword.specs.Cells.{waiters_alone}
use Rattle.stepprograms.specs.declared.access.Access.{Access}
use Rattle.stepprograms.specs.declared.access.Access.TheVariants.{Load, Store, Exchange, FetchXor, FetchOr, FetchAnd}
use Rattle.stepprograms.specs.declared.access.Access.TheVariants.{FetchAdd, Wait, Wake, Requeue, CmpRequeue, Trim}
use Rattle.stepprograms.specs.declared.access.Answer.{Answer}
use Rattle.stepprograms.specs.declared.access.Answer.TheVariants.{Value, Stored, Exchanged, Changed}
use Rattle.stepprograms.specs.declared.access.Answer.TheVariants.{Again, Woken, Count, Counts, Trimmed}

-- the address of the word that it reads or changes
abbrev pub address_of : Access → ℕ
address_of (Load at) = at
address_of (Store at v) = at
address_of (Exchange at old new) = at
address_of (FetchXor at v) = at
address_of (FetchOr at v) = at
address_of (FetchAnd at v) = at
address_of (FetchAdd at v) = at
address_of (Wait at e) = at
address_of (Wake at n) = at
address_of (Requeue from n to k) = from
address_of (CmpRequeue from e n to k) = from
address_of (Trim at) = at

-- ---- where nobody sleeps

-- the word after the access, of the word before
abbrev pub changed : Access → ℕ → ℕ
changed (Store at v) w = v
changed (Exchange at old new) w = if w == old then new else w
changed (FetchXor at v) w = bit_xor w v
changed (FetchOr at v) w = bit_or w v
changed (FetchAnd at v) w = bit_and w v
changed (FetchAdd at v) w = (w + v) % 18446744073709551616
changed (Trim at) w = if w == waiters_alone then 0 else w
changed a w = w

-- its answer, where nobody comes to sleep either
abbrev pub answer_at : Access → ℕ → Answer
answer_at (Load at) w = Value w
answer_at (Store at v) w = Stored
answer_at (Exchange at old new) w = if w == old then Exchanged else Changed w
answer_at (FetchXor at v) w = Value w
answer_at (FetchOr at v) w = Value w
answer_at (FetchAnd at v) w = Value w
answer_at (FetchAdd at v) w = Value w
answer_at (Wait at e) w = Again
answer_at (Wake at n) w = Count 0
answer_at (Requeue from n to k) w = Counts 0 0
answer_at (CmpRequeue from e n to k) w = Counts 0 0
answer_at (Trim at) w = Trimmed (w == waiters_alone)

-- ---- whoever sleeps on the word

-- nobody does
abbrev pub is_nobody : List ℕ → Bool
is_nobody [] = true
is_nobody (t ∷ ts) = false

-- a trim clears the word
abbrev pub is_trimmed : ℕ → List ℕ → Bool
is_trimmed w q = w == waiters_alone && is_nobody q

-- the word after the access, of the word before and of those who sleep on it
abbrev pub word_among : Access → ℕ → List ℕ → ℕ
word_among (Trim at) w q = if is_trimmed w q then 0 else w
word_among a w q = changed a w

-- what the access answers. A thread whose wait sleeps goes on with this answer when it is woken (futex(2))
abbrev pub answer_among : Access → ℕ → List ℕ → Answer
answer_among (Wait at e) w q = if w % 2 ^ 32 == e then Woken else Again
answer_among (Wake at n) w q = Count (length (take n q))
answer_among (Requeue from n to k) w q = Counts (length (take n q)) (length (take k (drop n q)))
answer_among (CmpRequeue from e n to k) w q =
    if w % 2 ^ 32 == e then Counts (length (take n q)) (length (take k (drop n q))) else Again
answer_among (Trim at) w q = Trimmed (is_trimmed w q)
answer_among a w q = answer_at a w

-- a thread falls asleep at a wait whose word has the expected low half (FUTEX_WAIT)
abbrev pub sleeps_at : Access → ℕ → Bool
sleeps_at (Wait at e) w = w % 2 ^ 32 == e
sleeps_at a w = false

-- the meaning of a trim of the word w, on which these threads sleep: it becomes 0 exactly where WAITERS is all that it
-- says and nobody sleeps on it, and the answer is true exactly there
pub record Trims (w : ℕ) (queue : List ℕ) (after : ℕ) (trimmed : Bool) : Type 0 where
  pub answer : (trimmed ≡ true) ↔ ((w ≡ 0x8000_0000) × (queue ≡ []))
  pub cleared : trimmed ≡ true → after ≡ 0
  pub kept : trimmed ≡ false → after ≡ w

-- a trim's word, and its answer, are so
abbrev pub TrimsAreRight : Type 0
TrimsAreRight = (at w : ℕ) (queue : List ℕ)
    → (trimmed : Bool) × (answer_among (Trim at) w queue ≡ Trimmed trimmed)
    × Trims w queue (word_among (Trim at) w queue) trimmed

-- what such an access is answered, except for a fault (futex(2))
abbrev pub IsAnswerOf : Access → Answer → Type 0
IsAnswerOf (Load at) (Value w) = Unit {0}
IsAnswerOf (Store at v) Stored = Unit {0}
IsAnswerOf (Exchange at e n) Exchanged = Unit {0}
IsAnswerOf (Exchange at e n) (Changed w) = Unit {0}
IsAnswerOf (FetchXor at o) (Value w) = Unit {0}
IsAnswerOf (FetchOr at o) (Value w) = Unit {0}
IsAnswerOf (FetchAnd at o) (Value w) = Unit {0}
IsAnswerOf (FetchAdd at o) (Value w) = Unit {0}
IsAnswerOf (Wait at e) Again = Unit {0}
IsAnswerOf (Wait at e) Woken = Unit {0}
IsAnswerOf (Wake at n) (Count k) = Unit {0}
IsAnswerOf (Requeue f n t m) (Counts k j) = Unit {0}
IsAnswerOf (CmpRequeue f e n t m) (Counts k j) = Unit {0}
IsAnswerOf (CmpRequeue f e n t m) Again = Unit {0}
IsAnswerOf (Trim at) (Trimmed b) = Unit {0}
IsAnswerOf a x = ⊥
