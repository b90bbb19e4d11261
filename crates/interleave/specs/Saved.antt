-- States that were saved.
--
-- *Saved.* What was saved of a machine has its words, its threads, and its sleepers with their places. With the
-- machine's layout these are its state: who sleeps on a word are the sleepers at its place, in their order.
use Rattle.std.specs.Prelude.{ℕ, Bool, true, false, ◌≡◌, ◌==◌, List, [], ◌∷◌, length, slice_index, if◌then◌else◌}
use Rattle.memorymap.specs.Layouts.{Layout', IsLayout, words_of}
use Rattle.protocol.specs.declared.event.Event.{Event}
use Rattle.protocol.specs.Machine.{State, start, run}
use Rattle.protocol.specs.PassedBy.{ArePresets}
use Rattle.interleave.specs.declared.saved.Saved.{Saved}
use Rattle.interleave.specs.declared.saved.Sleeper.{Sleeper}
use Rattle.interleave.specs.Shown.{thread_at}

-- those of the sleepers that sleep on the word at a place
abbrev pub sleepers_at : List Sleeper → ℕ → List ℕ
sleepers_at [] p = []
sleepers_at (s ∷ ss) p = if s.place == p then s.thread ∷ sleepers_at ss p else sleepers_at ss p

-- thread t is one of the sleepers
abbrev pub is_one : ℕ → List Sleeper → Bool
is_one t [] = false
is_one t (s ∷ ss) = if s.thread == t then true else is_one t ss

-- no thread sleeps twice
abbrev pub AreApart : List Sleeper → Type 0
AreApart [] = Unit {0}
AreApart (s ∷ ss) = (is_one s.thread ss ≡ false) × AreApart ss

-- the state that was saved of a machine with this layout
abbrev pub saved_state : Layout' → Saved → State
saved_state l s = record {
  layout = l;
  words = λ p. slice_index s.words.items p;
  queues = λ p. sleepers_at s.sleepers.items p;
  threads = thread_at s.threads.items;
}

-- some events lead to what was saved, from the beginning of a machine with this layout
pub record WasReached (l : Layout') (s : Saved) : Type 0 where
  pub layout : IsLayout l
  pub counters : ℕ → ℕ
  pub presets : ArePresets counters
  pub events : List Event
  pub is : saved_state l s ≡ run (start l counters) events
  pub words : length s.words.items ≡ words_of l
  pub threads : length s.threads.items ≡ l.threads
