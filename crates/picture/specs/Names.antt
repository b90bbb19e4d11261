-- What things are called in a picture.
--
-- *Names.* What threads, mutexes and condition variables are called: by a name, or where they have none by a letter and
-- a number. How many letters of a name a picture has room for: those of the longest one, 16 at most.
use Rattle.std.specs.Prelude.{ℕ, ◌-◌, max, min, nat_lt, List, [], ◌∷◌, length}
use Rattle.std.specs.Prelude.{codes, decimal, slice_index_or, if◌then◌else◌}

-- the names of threads, mutexes and condition variables, in the order of their numbers; what comes after the last one
-- has none
pub record Called : Type 0 where
  pub threads : List (List ℕ)
  pub mutexes : List (List ℕ)
  pub conditions : List (List ℕ)

-- no names: each thing is called by a letter and its number, as in the trace
abbrev pub nameless : Called
nameless = record { threads = []; mutexes = []; conditions = [] }

-- a name is written in two pieces: itself and nothing; or, where there is none, a letter and a number
abbrev pub head_of : List (List ℕ) → ℕ → List ℕ → List ℕ
head_of names i letter = if nat_lt i (length names) then slice_index_or names i [] else letter

abbrev pub tail_of : List (List ℕ) → ℕ → List ℕ → List ℕ
tail_of names i number = if nat_lt i (length names) then [] else number

-- threads count from 1
abbrev pub thread_head : Called → ℕ → List ℕ
thread_head n t = head_of n.threads (t - 1) (codes "t")

abbrev pub thread_tail : Called → ℕ → List ℕ
thread_tail n t = tail_of n.threads (t - 1) (decimal t)

abbrev pub mutex_head : Called → ℕ → List ℕ
mutex_head n m = head_of n.mutexes m (codes "m")

abbrev pub mutex_tail : Called → ℕ → List ℕ
mutex_tail n m = tail_of n.mutexes m (decimal m)

abbrev pub condition_head : Called → ℕ → List ℕ
condition_head n k = head_of n.conditions k (codes "c")

abbrev pub condition_tail : Called → ℕ → List ℕ
condition_tail n k = tail_of n.conditions k (decimal k)

-- the most letters of these names, or that many
abbrev pub longest_of : ℕ → List (List ℕ) → ℕ
longest_of most [] = most
longest_of most (n ∷ ns) = longest_of (max most (length n)) ns

-- a name has at most that many letters, or more than there is room for
abbrev pub most_letters : ℕ
most_letters = 16

-- for how many letters of a name there is room: for those of the longest name, and for that many at least
abbrev pub letters_of : ℕ → Called → ℕ
letters_of least n = min most_letters (longest_of (longest_of (longest_of least n.threads) n.mutexes) n.conditions)
