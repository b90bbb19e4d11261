-- What some order of steps has led to, at one mutex.
use Rattle.std.specs.Prelude.{ℕ, ◌≡◌, ◌+◌, true, false, List, length, Contains, slice_index_or}
use Rattle.lockword.specs.Threads.{most_threads}
use Rattle.refuting.specs.declared.state.Made.TheVariants.{Nothing}
use Rattle.refuting.specs.declared.state.Call.{Call}
use Rattle.refuting.specs.declared.state.State.{State}

abbrev pub first_call : Call
first_call = record { made = Nothing; seen = false }

-- how many places there are where things are kept by threads' ids: 0 is no thread's
abbrev pub ids : ℕ
ids = most_threads + 1

-- threads' calls, by their ids
abbrev pub call_at : List Call → ℕ → Call
call_at cs t = slice_index_or cs t first_call

-- the one call has come as far as the other, and has seen what that has
abbrev pub HasAll : Call → Call → Type 0
HasAll one other = (one.made ≡ other.made) × (other.seen ≡ true → one.seen ≡ true)

-- the one state has all that the other has
pub record Covers (one other : State) : Type 0 where
  pub object : one.object ≡ other.object
  pub long : length one.calls ≡ length other.calls
  pub calls : (t : ℕ) → HasAll (call_at one.calls t) (call_at other.calls t)

-- one of these states does
abbrev pub Covered : List State → State → Type 0
Covered ss s = (r : State) × Contains ss r × Covers r s
