-- The kernel that a machine is made with: nobody sleeps, and each thread's head is set.
--
-- *At each moment.* The same after each of the events; the contract of `Machine::run`.
--
-- *Reached.* What a machine's type promises: some events lead to its state from a start, and it is fresh where none
-- has.
use Rattle.std.specs.Prelude.{ℕ, ◌≡◌, ◌≤◌, true, List, [], length, take}
use Rattle.memorymap.specs.Layouts.{Layout', IsLayout, words_of, head_place, address_in}
use Rattle.syscalls.specs.Kernels.{Kernel', queue_of, head_of}
use Rattle.protocol.specs.declared.event.Event.{Event}
use Rattle.protocol.specs.declared.note.Note.{Note}
use Rattle.protocol.specs.Machine.{State, start, run}
use Rattle.protocol.specs.Headline.{IsHistory}
use Rattle.protocol.specs.Wakings.{TellsSleepers}
use Rattle.protocol.specs.PassedBy.{ArePresets}
use Rattle.interleave.specs.Shown.{Shown, state_of}

-- each thread's robust list begins at its head, by the address that this has in its process
abbrev pub HasHeads : Layout' → Kernel' → Type 0
HasHeads l k = (t : ℕ) → 1 ≤ t → t ≤ l.threads → head_of k t ≡ address_in l t (head_place t)

-- a kernel for the threads of a layout, none of which sleeps
pub record IsFirst (l : Layout') (k : Kernel') : Type 0 where
  pub threads : k.threads ≡ l.threads
  pub queues : (key : ℕ) → queue_of k key ≡ []
  pub heads : HasHeads l k

-- nothing has happened but that counters were set
pub record IsStart (m : Shown) : Type 0 where
  pub layout : IsLayout m.layout
  pub counters : ℕ → ℕ
  pub presets : ArePresets counters
  pub is : state_of m ≡ start m.layout counters

-- some events lead there from the beginning
pub record IsReached (m : Shown) : Type 0 where
  pub layout : IsLayout m.layout
  pub counters : ℕ → ℕ
  pub presets : ArePresets counters
  pub events : List Event
  pub is : state_of m ≡ run (start m.layout counters) events
  pub fresh : m.fresh ≡ true → IsStart m
  pub words : length m.words ≡ words_of m.layout
  pub kernel : m.kernel.threads ≡ m.layout.threads
  pub threads : length m.threads ≡ m.layout.threads
  pub heads : HasHeads m.layout m.kernel

-- after each event the points so far are a legal history, which says of every mutex what its cell says
abbrev pub AtEachMoment : State → List Event → List Note → Type 0
AtEachMoment s events told = (n : ℕ) → IsHistory (run s (take n events)) (take n told)

-- after each event the notes so far tell who sleeps, on which mutex or condition variable, and in which order they came
abbrev pub TellsAtEachMoment : Layout' → State → List Event → List Note → Type 0
TellsAtEachMoment l s events told = (n : ℕ) → TellsSleepers l (run s (take n events)) (take n told)
