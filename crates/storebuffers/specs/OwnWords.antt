-- What a thread finds of its own words, whatever others do.
use Rattle.std.specs.Prelude.{ℕ, ◌≡◌, ◌≢◌, ◌≤◌, List, [], ◌∷◌}
use Rattle.memorymap.specs.Layouts.{Layout', IsLayout}
use Rattle.protocol.specs.declared.event.Event.{Event}
use Rattle.protocol.specs.Explained.{caller}
use Rattle.protocol.specs.Changes.{IsItsOwn}
use Rattle.protocol.specs.Machine.{State, start, run}

-- none of these events is thread t's
abbrev pub AreOthers : ℕ → List Event → Type 0
AreOthers t [] = Unit {0}
AreOthers t (e ∷ es) = (caller e ≢ t) × AreOthers t es

-- a word of thread t's head, or a link of a mutex that it owns, is as it was, and still thread t's
pub record StaysItsOwn (s s' : State) (t p : ℕ) : Type 0 where
  pub word : s'.words p ≡ s.words p
  pub own : IsItsOwn s' t p

-- whatever happened before, with any values of the counters at the beginning, and whatever others do then
abbrev pub OwnWordsStay : Type 0
OwnWordsStay = (l : Layout') (counters : ℕ → ℕ) (before others : List Event) (t p : ℕ) → IsLayout l
    → 1 ≤ t → t ≤ l.threads → AreOthers t others → IsItsOwn (run (start l counters) before) t p
    → StaysItsOwn (run (start l counters) before) (run (run (start l counters) before) others) t p
