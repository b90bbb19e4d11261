-- Threads that were reaped and live again: an id is used again.
use Rattle.std.specs.Prelude.{ℕ, ◌≡◌, ◌≢◌, ◌+◌, ◌<◌, ◌≤◌, true, Some, List, [], ◌∷◌, ◌++◌}
use Rattle.memorymap.specs.Layouts.{Layout', IsLayout, head_place, first_word}
use Rattle.facts.specs.declared.fact.Fact.TheVariants as fact
use Rattle.facts.specs.Lives.{own, Life}
use Rattle.protocol.specs.declared.event.Event.{Event}
use Rattle.protocol.specs.declared.event.Event.TheVariants.{Kill, Renew}
use Rattle.protocol.specs.declared.thread.Stage.TheVariants.{Reaped}
use Rattle.protocol.specs.Notes.{facts_of, lines_from}
use Rattle.protocol.specs.Machine.{State, idle, start, happens, run, notes, has_thread, is_alive}
use Rattle.protocol.specs.Headline.{seen}
use Rattle.protocol.specs.Applies.{IsInNoQueue}
use Rattle.protocol.specs.Deaths.{ReportsDeath}

-- ---- renewals

-- thread t is renewed, from state s to s': it is in no call, and counts no mutex as its own; its head's three words are
-- as they were at first, whatever the counters were; it stands in no queue and owns no mutex. Every other word and
-- thread is as it was, and every queue
pub record OnlyRenews (s s' : State) (t : ℕ) : Type 0 where
  pub thread : s'.threads t ≡ idle
  pub head : (counters : ℕ → ℕ) (k : ℕ) → k < 3
      → s'.words (head_place t + k) ≡ first_word s.layout counters (head_place t + k)
  pub words : (p : ℕ) → ((k : ℕ) → k < 3 → p ≢ head_place t + k) → s'.words p ≡ s.words p
  pub others : (u : ℕ) → u ≢ t → s'.threads u ≡ s.threads u
  pub queues : (key : ℕ) → s'.queues key ≡ s.queues key
  pub awake : IsInNoQueue s' t
  pub owns_none : (m : ℕ) → (seen s' m).owner ≢ Some t

-- where it was reaped, and that it is renewed is all that is recorded
abbrev pub RenewsSo : State → ℕ → Type 0
RenewsSo s t = (s.threads t).stage ≡ Reaped
    → OnlyRenews s (happens s (Renew t)).state t × (facts_of (happens s (Renew t)).note ≡ fact.Renew t ∷ [])

-- whatever happened, with any values of the counters at the beginning: so each thread of the layout begins again
abbrev pub RenewalsBeginAnew : Type 0
RenewalsBeginAnew = (l : Layout') (counters : ℕ → ℕ) (events : List Event) → IsLayout l → (t : ℕ) → 1 ≤ t
    → t ≤ l.threads → RenewsSo (run (start l counters) events) t

-- ---- runs without renewals

-- nobody is renewed
abbrev pub NobodyIsRenewed : List Event → Type 0
NobodyIsRenewed [] = Unit {0}
NobodyIsRenewed (Renew t ∷ es) = ⊥
NobodyIsRenewed (e ∷ es) = NobodyIsRenewed es

-- then what is recorded of each thread is one life, and a death is reported however much happens after it
pub record LivesOnce (s : State) (events : List Event) : Type 0 where
  pub lives : (t : ℕ) → Life t (own t (lines_from 1 (notes s events)))
  pub deaths : (before after : List Event) (t : ℕ) → events ≡ before ++ Kill t ∷ after
      → has_thread (run s before) t ≡ true → is_alive ((run s before).threads t).stage ≡ true
      → ReportsDeath (run s before) t after

-- whatever else happens, with any values of the counters at the beginning
abbrev pub LivesAreOne : Type 0
LivesAreOne = (l : Layout') (counters : ℕ → ℕ) (events : List Event) → IsLayout l → NobodyIsRenewed events
    → LivesOnce (start l counters) events
