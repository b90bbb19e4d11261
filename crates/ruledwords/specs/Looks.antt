-- What a look at a cell tells, by which nothing new is seen.
--
-- *Found.* What a look at a cell or a trim of it tells: the word found is, except for WAITERS, as the mutex may be
-- after what the thread has seen and then points of other threads. The thread's card notes that word, and how many
-- trims it has made; nothing new is seen.
use Rattle.std.specs.Prelude.{◌≡◌, ℕ, ◌+◌, ◌==◌, List, [], ◌++◌, if◌then◌else◌}
use Rattle.lockword.specs.Cells.{fields_of}
use Rattle.posixmutex.specs.declared.point.Point.{Point}
use Rattle.posixmutex.specs.Objects.{object_of}
use Rattle.ruledwords.specs.declared.pass.Card.{Card}
use Rattle.ruledwords.specs.declared.pass.Change.{Change}
use Rattle.ruledwords.specs.Cards.{at}
use Rattle.ruledwords.specs.Changes.{Writes}
use Rattle.ruledwords.specs.Seen.{by, Leaves}
use Rattle.ruledwords.specs.Rules.{Sat, At, Turns}

-- the word n of the cell at p is that after a legal list of the mutex's points, which begins with what the card has
-- seen and then has other threads' points alone; no bits above its flags are set
abbrev pub Finds : Card → ℕ → ℕ → Type 0
Finds c p n = (since : List Point) × Leaves c.threads p (at c.seen p ++ since) (object_of (fields_of n))
    × (by c.thread since ≡ []) × ((fields_of n).rest ≡ 0)

-- a thread that found the word n last, has made this many trims, and knows of these changes of cells, knows else
-- what it knew
abbrev pub noted : Card → ℕ → ℕ → List (List Change) → Card
noted c n t zs = record c { last = n; trims = t; changes = zs }

-- the card knows what the other one does, except for the word that was found last, the trims that were made, and
-- changes of cells
abbrev pub KnowsTheSame : Card → Card → Type 0
KnowsTheSame c d = d ≡ noted c d.last d.trims d.changes

-- it has looked at a cell, whose word was r
abbrev pub looked : At → Sat → ℕ → Sat → Type 0
looked st me r me' = Turns me me' (λ c d. (d ≡ noted c r c.trims c.changes) × Finds c st.word r)

-- it has exchanged 0x80000000 for 0 there, if that was the word: a trim
abbrev pub trimmed : At → Sat → ℕ → Sat → Type 0
trimmed st me r me' = Turns me me'
    (λ c d. (st.first ≡ 0x8000_0000) × (st.second ≡ 0) × (d ≡ noted c r (c.trims + 1) d.changes) × Finds c st.word r
    × Writes c st.word r (if r == 0x8000_0000 then 0 else r) d)
