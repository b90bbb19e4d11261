-- Which words the cells of mutexes and the counters of condition variables had, one after the other, and who wrote
-- each.
--
-- *Changes of cells and counters.* Which words each mutex's cell and each condition variable's counter had, one after
-- the other, and who wrote each: they leave the word that is there, or the 0 that a cell begins with. What a thread's
-- card knows of them begins them, and has all that the thread itself wrote; all that it doesn't know of threads of the
-- layout wrote. So a step can put in a change of its own thread alone, and only after all that others made: no body
-- can name a word of its own as the one that its release found, nor forget a sleeper who set WAITERS before that. An
-- access that meets a word and leaves another makes one change; a trim that finds WAITERS alone leaves 0. Each exchange
-- of a call on a mutex expects the word that the changes leave of which its thread knows; so one that fails finds a
-- change by another thread, and a trylock that gives up has come to know of four, by other threads of the layout
-- (`OthersChanged`). A wait has changed nothing at its counter, and what its thread knows of that counter's changes
-- leaves the value that it loaded. At first each thread knows what the counters began with (`first_known`;
-- `Rules.antt`), which nobody wrote, and nothing of cells; so of a counter it always knows a first change, and all that
-- it comes to know of is by threads.
use Rattle.std.specs.Prelude.{◌≡◌, ◌≢◌, ℕ, zero, suc, ◌+◌, ◌<◌, ◌≤◌, ◌==◌, not, List, []}
use Rattle.std.specs.Prelude.{◌∷◌, ◌++◌, filter, length, map, slice_index, if◌then◌else◌}
use mathlib.Core.Option.{some}
use mathlib.Core.List.{IsPrefix}
use lib.ListN.{get_elem?}
use Rattle.memorymap.specs.Layouts.{Layout', cell_place, counter_place}
use Rattle.ruledwords.specs.declared.pass.Card.{Card}
use Rattle.ruledwords.specs.declared.pass.Change.{Change}

-- ---- by place

-- the changes at p
abbrev pub changes_at : List (List Change) → ℕ → List Change
changes_at [] p = []
changes_at (x ∷ xs) zero = x
changes_at (x ∷ xs) (suc p) = changes_at xs p

abbrev pub put_changes : List (List Change) → ℕ → List Change → List (List Change)
put_changes [] zero y = y ∷ []
put_changes [] (suc p) y = [] ∷ put_changes [] p y
put_changes (x ∷ xs) zero y = y ∷ xs
put_changes (x ∷ xs) (suc p) y = x ∷ put_changes xs p y

-- ---- of one word

-- those that thread t made
abbrev pub made_by : ℕ → List Change → List Change
made_by t xs = filter (λ (x : Change). x.thread == t) xs

-- those that other threads than t made
abbrev pub made_by_others : ℕ → List Change → List Change
made_by_others t xs = filter (λ (x : Change). not (x.thread == t)) xs

-- the word that they leave of the word w
abbrev pub left_of : ℕ → List Change → ℕ
left_of w [] = w
left_of w (x ∷ xs) = left_of x.word xs

-- the word that they leave instead of the 0 that nobody has changed
abbrev pub left_by : List Change → ℕ
left_by xs = left_of 0 xs

-- thread t found the word n and left v: a change, if they differ
abbrev pub change_of : ℕ → ℕ → ℕ → List Change
change_of t n v = if v == n then [] else record { thread = t; word = v } ∷ []

-- at first each of these words, of counters, is as it was given, which no thread did
abbrev pub first_changes : List ℕ → List (List Change)
first_changes ws = map (λ (w : ℕ). record { thread = 0; word = w } ∷ []) ws

-- nothing is known of n words; these changes are of those after
abbrev pub behind_unknown : ℕ → List (List Change) → List (List Change)
behind_unknown zero xs = xs
behind_unknown (suc n) xs = [] ∷ behind_unknown n xs

-- ---- who made them

-- threads 1 to n
abbrev pub AreBy : ℕ → List Change → Type 0
AreBy n [] = Unit {0}
AreBy n (x ∷ xs) = ((1 ≤ x.thread) × (x.thread ≤ n)) × AreBy n xs

-- all but the first, which may be the word as it was given
abbrev pub AreBehindFirst : ℕ → List Change → Type 0
AreBehindFirst n [] = Unit {0}
AreBehindFirst n (x ∷ xs) = AreBy n xs

-- what a thread knew of each word's changes begins what it knows of them, and those that it came to know of since are
-- by threads
abbrev pub KnowsOn : Card → Card → Type 0
KnowsOn c d =
    (p : ℕ) → (since : List Change) × (changes_at c.changes p ++ since ≡ changes_at d.changes p) × AreBy c.threads since

-- ---- what holds

-- what thread t knows of a word's changes begins them, and has all that the thread made. Those that it doesn't know of
-- are by threads 1 to n
abbrev pub TiedAt : ℕ → List Change → ℕ → List Change → Type 0
TiedAt n xs t ys = (on : IsPrefix ys xs) × (made_by t ys ≡ made_by t xs) × AreBy n on.0

-- so it is of each word
abbrev pub Tied : ℕ → List (List Change) → ℕ → List (List Change) → Type 0
Tied n xs t ys = (p : ℕ) → TiedAt n (changes_at xs p) t (changes_at ys p)

abbrev pub AllTied : ℕ → List (List Change) → List Card → Type 0
AllTied n xs [] = Unit {0}
AllTied n xs (c ∷ cs) = Tied n xs c.thread c.changes × AllTied n xs cs

-- of each cell and of each counter the changes that were made, of which each card has a beginning: they leave its word;
-- and threads of the layout made all after the first one, and all of which a card doesn't know. So nobody can put in
-- a change but at their end, as its own
pub record Recorded (k : Layout') (ws : List ℕ) (vs : List (List Card)) : Type 0 where
  pub changes : List (List Change)
  pub leave : (m : ℕ) → m < k.mutexes → left_by (changes_at changes (cell_place k m)) ≡ slice_index ws (cell_place k m)
  pub count : (q : ℕ) → q < length k.conditions
      → left_by (changes_at changes (counter_place k q)) ≡ slice_index ws (counter_place k q)
  pub authors : (p : ℕ) → AreBehindFirst k.threads (changes_at changes p)
  pub tied : (id : ℕ) (v : List Card) → get_elem? vs id ≡ some v → AllTied k.threads changes v

-- ---- what an access tells

-- an access at the word at p met n and left v: after what its thread knew of the word's changes stand others', which
-- left n, and then its own, if it made one, all by threads that there are. Of other words' it knows what it knew
pub record Writes (c : Card) (p n v : ℕ) (d : Card) : Type 0 where
  pub since : List Change
  pub others : made_by c.thread since ≡ []
  pub authors : AreBy c.threads (since ++ change_of c.thread n v)
  pub grows : changes_at d.changes p ≡ (changes_at c.changes p ++ since) ++ change_of c.thread n v
  pub met : left_by (changes_at c.changes p ++ since) ≡ n
  pub elsewhere : (q : ℕ) → q ≢ p → changes_at d.changes q ≡ changes_at c.changes q

-- a thread has changed nothing there
pub record ChangedNothing (c : Card) (p : ℕ) (d : Card) : Type 0 where
  pub since : List Change
  pub others : made_by c.thread since ≡ []
  pub grows : changes_at d.changes p ≡ changes_at c.changes p ++ since

-- a thread has changed none of these words: of each, all that it knows more of are others' changes
abbrev pub ChangedNone : (ℕ → Type 0) → Card → Card → Type 0
ChangedNone P c d =
    (p : ℕ) → P p → made_by c.thread (changes_at d.changes p) ≡ made_by c.thread (changes_at c.changes p)

-- a thread has counted once at p, the counter of a condition variable whose mutex's cell is at z: it left one more than
-- what it found there, which is what it loaded last. Of other words, except for the cell, it has changed none
pub record CountedOnce (c : Card) (z p : ℕ) (d : Card) : Type 0 where
  pub since : List Change
  pub others : made_by c.thread since ≡ []
  pub grows : changes_at d.changes p
      ≡ (changes_at c.changes p ++ since) ++ record { thread = c.thread; word = d.counted + 1 } ∷ []
  pub found : left_by (changes_at c.changes p ++ since) ≡ d.counted
  pub elsewhere : ChangedNone (λ x. (x ≢ z) × (x ≢ p)) c d

-- a thread has changed the cell at p once, and that last of all: the word that was there is the last that it found
pub record ChangedOnce (c : Card) (p : ℕ) (d : Card) : Type 0 where
  pub since : List Change
  pub others : made_by c.thread since ≡ []
  pub word : ℕ
  pub grows : changes_at d.changes p
      ≡ (changes_at c.changes p ++ since) ++ record { thread = c.thread; word = word } ∷ []
  pub found : left_by (changes_at c.changes p ++ since) ≡ d.last

-- ---- of calls

-- of the changes of the word at p a thread knows what it knew, and maybe more, by threads that there are; of other
-- words' it knows what it knew; and the counter that it loaded last is the same
pub record KnowsMoreAt (c : Card) (p : ℕ) (d : Card) : Type 0 where
  pub here : (since : List Change) × (changes_at c.changes p ++ since ≡ changes_at d.changes p) × AreBy c.threads since
  pub elsewhere : (q : ℕ) → q ≢ p → changes_at d.changes q ≡ changes_at c.changes q
  pub counted : d.counted ≡ c.counted

-- a thread has loaded the counter at p: it has changed nothing there, and the changes of this counter that it knows of
-- leave the value that it loaded
pub record Loaded (c : Card) (p : ℕ) (d : Card) : Type 0 where
  pub nothing : ChangedNothing c p d
  pub left : left_by (changes_at d.changes p) ≡ d.counted

-- after what a thread knew of the changes of the word at p it has come to know of n changes at least by others, who
-- are threads that there are. So the word as it was given, which nobody made, isn't among them
pub record OthersChanged (n : ℕ) (c : Card) (p : ℕ) (d : Card) : Type 0 where
  pub since : List Change
  pub grows : changes_at d.changes p ≡ changes_at c.changes p ++ since
  pub authors : AreBy c.threads since
  pub others : n ≤ length (made_by_others c.thread since)
