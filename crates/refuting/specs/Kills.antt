-- Kills in place of dooms.
--
-- *Dooms and kills.* A doomed thread is killed at some moment after its doom, or isn't killed within the history. So a
-- history with a doom is legal only if it is legal without that doom, or with a kill somewhere after it instead.
use Rattle.std.specs.Prelude.{ℕ, ◌<◌, List, ◌∷◌, ◌++◌, drop, reverse, take}
use Rattle.facts.specs.declared.fact.Fact.TheVariants.{Kill}
use Rattle.histories.specs.declared.entry.Entry.TheVariants.{Told, Doom}
use Rattle.histories.specs.declared.entry.HistoryLine.{HistoryLine}
use Rattle.histories.specs.Histories.{LegalHistory}
use Rattle.refuting.specs.Turns.{entries}

-- a kill of thread t, as a line; what its number and its event are doesn't matter
abbrev pub kill_line : ℕ → HistoryLine
kill_line t = record { number = 0; event = 0; entry = Told (Kill t) }

-- the lines before a doom and those after it, with a kill after the first k of the latter
abbrev pub with_kill : List HistoryLine → List HistoryLine → ℕ → ℕ → List HistoryLine
with_kill before rest k t = before ++ (take k rest ++ kill_line t ∷ drop k rest)

-- no trace shows the lines
abbrev pub IsNever : ℕ → List HistoryLine → Type 0
IsNever n lines = LegalHistory n (reverse (entries lines)) → ⊥

-- nor with a doom of thread t between these
abbrev pub IsNeverDoomed : ℕ → List HistoryLine → ℕ → List HistoryLine → Type 0
IsNeverDoomed n before t rest = LegalHistory n (reverse (entries rest) ++ Doom t ∷ reverse (entries before)) → ⊥

-- nor with a kill after the first i of the latter, for each i below k
abbrev pub AreNever : ℕ → List HistoryLine → List HistoryLine → ℕ → ℕ → Type 0
AreNever n before rest t k = (i : ℕ) → i < k → IsNever n (with_kill before rest i t)
