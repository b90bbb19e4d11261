-- Windows of a certificate.
--
-- *Window.* A trace that is legal by itself, of at most 100,000 events: lines of its own, which bring threads and
-- mutexes to where the certificate's steps before it leave them, and then the lines of its steps, from here to there.
use Rattle.std.specs.Prelude.{ℕ, ◌≡◌, ◌<◌, ◌≤◌, ◌⊎◌, ◌-◌, ◌++◌, List, length, take, drop, Result, Ok, Err}
use Rattle.verdict.specs.Limits.{max_conditions, max_events, max_mutexes}
use Rattle.verdict.specs.Reading.{Trace, trace_read}
use Rattle.verdict.specs.Verdicts.{IsLegal}
use Rattle.histories.specs.declared.head.Head.{Head}
use Rattle.histories.specs.declared.entry.Entry.{Entry}
use Rattle.certificates.specs.States.{IsSound}
use Rattle.windows.specs.declared.cutting.Cutter.{Cutter}
use Rattle.windows.specs.declared.cutting.Window.{Window}
use Rattle.windows.specs.declared.stop.Stop.{Stop}
use Rattle.windows.specs.declared.stop.Stop.TheVariants.{TooMany, Memory}
use Rattle.windows.specs.Places.{LeaveAlike, Reaches, told}
use Rattle.windows.specs.Texts.{certificate_text, steps_count}

-- the steps from one place to another
abbrev pub part : ℕ → ℕ → List Entry → List Entry
part from to steps = take (to - from) (drop from steps)

-- the bytes are a trace that the judge of traces finds legal
pub record IsLegalText (bytes : List ℕ) : Type 0 where
  pub trace : Trace
  pub read : trace_read bytes ≡ Ok trace
  pub legal : IsLegal trace

-- a window of these steps
pub record IsWindow (h : Head) (steps : List Entry) (w : Window) : Type 0 where
  pub before : List Entry
  pub more : w.from < w.to
  pub within : w.to ≤ length steps
  pub text : w.text.items ≡ certificate_text h (before ++ part w.from w.to steps)
  pub legal : IsLegalText w.text.items
  pub few : steps_count (before ++ part w.from w.to steps) ≤ max_events
  pub preamble : w.preamble ≡ steps_count before
  pub joins : LeaveAlike (told (length before) before) (told w.from steps)

-- the next window of these steps begins here
pub record IsAt (steps : List Entry) (c : Cutter) : Type 0 where
  pub within : c.from ≤ length steps
  pub sound : IsSound c.state
  pub here : Reaches c.state (told c.from steps)

-- where there are too many mutexes or condition variables for any trace, that is recorded
abbrev pub Begins : Head → List Entry → Result Cutter Stop → Type 0
Begins h steps (Ok c) = IsAt steps c × (c.from ≡ 0) × (h.mutexes ≤ max_mutexes) × (h.conditions ≤ max_conditions)
Begins h steps (Err e) =
    (e ≡ Memory) ⊎ ((e ≡ TooMany) × ((max_mutexes < h.mutexes) ⊎ (max_conditions < h.conditions)))
