-- What the walk does where nobody else writes.
--
-- *A right walk.* Alone, the walk does what its meaning says. Whatever it is answered, it ends after at most 10,247
-- accesses, and each exchange that it asks for says of a word that it was told there, owned by the dead thread, that
-- its owner died; an answer that isn't in its access's line ends it.
use Rattle.std.specs.Prelude.{ℕ, ◌≡◌, ◌≤◌, Bool, List}
use Rattle.exitwalk.specs.declared.row.Row.TheVariants.{Ended}
use Rattle.exitwalk.specs.Meanings.{Effect, meaning}
use Rattle.exitwalk.specs.Runs.{Course, run, outset}

-- a walk has ended, and has left these words and woken sleepers at these places, in their order
pub record Leaves (c : Course) (e : Effect) : Type 0 where
  pub ended : c.row ≡ Ended
  pub words : (at : ℕ) → c.effect.words at ≡ e.words at
  pub wakes : c.effect.wakes ≡ e.wakes

-- where nobody else writes a walk ends after at most 8,198 accesses, and leaves its meaning: over any words, cyclic
-- links and wrong offsets among them, whatever is valid, and however many sleepers a wake wakes
abbrev pub WalksAreRight : Type 0
WalksAreRight = (valid : ℕ → Bool) (sleepers : List ℕ → ℕ) (t h n : ℕ) (words : ℕ → ℕ) → 8198 ≤ n
    → Leaves (run valid sleepers t h n (outset words)) (meaning valid t h words)
