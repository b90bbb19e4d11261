-- A thread that goes on comes to rest.
use Rattle.std.specs.Prelude.{ℕ, ◌≡◌, ◌<◌, true, false, List}
use Rattle.memorymap.specs.Layouts.{Layout', IsLayout}
use Rattle.protocol.specs.declared.event.Event.{Event}
use Rattle.protocol.specs.Machine.{State, start, run}
use Rattle.protocol.specs.Sleepers.{alone}
use Rattle.script.specs.Playing.{is_going, steps_to_rest}
use Rattle.script.specs.Limits.{rest_steps}

-- after this many steps of its own the thread rests, and after fewer it doesn't
abbrev pub RestsAfter : State → ℕ → ℕ → Type 0
RestsAfter s t n = (is_going (alone s t n) t ≡ false) × ((k : ℕ) → k < n → is_going (alone s t k) t ≡ true)

-- whatever happened before, with any values of the counters at the beginning
abbrev pub ThreadsComeToRest : Type 0
ThreadsComeToRest = (l : Layout') (counters : ℕ → ℕ) (events : List Event) (t : ℕ) → IsLayout l →
    RestsAfter (run (start l counters) events) t (steps_to_rest rest_steps (run (start l counters) events) t)
