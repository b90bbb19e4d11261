-- Counters of condition variables: how often it was signalled.
--
-- *Counting up.* With counters that are at most 2^32 - 1 at the beginning each is what it was then, and one more for
-- each signal and broadcast with OK whose call, as it was recorded, is on that condition variable; and from any
-- moment on what it was then and those since: the law `counters_count_up`. A counter that is full, at 2^32 - 1,
-- stays so: signals and broadcasts are refused then (X_FULL), so that none wraps.
use Rattle.std.specs.Prelude.{ℕ, length, ◌≡◌, ◌+◌, ◌<◌, ◌==◌, Option, Some, None, List, [], ◌∷◌, if◌then◌else◌}
use Rattle.lockword.specs.declared.reply.Reply.{Reply}
use Rattle.lockword.specs.declared.reply.Reply.TheVariants.{OK}
use Rattle.posixmutex.specs.declared.point.Operation.{Operation}
use Rattle.posixmutex.specs.declared.point.Operation.TheVariants.{Signal, Broadcast}
use Rattle.memorymap.specs.Layouts.{Layout', IsLayout, counter_place}
use Rattle.facts.specs.declared.fact.Begun.{Begun}
use Rattle.facts.specs.declared.fact.Fact.{Fact}
use Rattle.facts.specs.declared.fact.Fact.TheVariants.{Begin, Point}
use Rattle.protocol.specs.declared.event.Event.{Event}
use Rattle.protocol.specs.Machine.{State, start, run, notes}
use Rattle.protocol.specs.Headline.{facts_among}
use Rattle.protocol.specs.PassedBy.{ArePresets, call_told}

-- 1 where a call is on condition variable k
abbrev pub one_on : ℕ → Option ℕ → ℕ
one_on k None = 0
one_on k (Some j) = if j == k then 1 else 0

-- 1 where a point of this operation and reply, of the call that its thread was told to have begun last, counts there: a
-- signal or a broadcast that isn't refused
abbrev pub one_of : ℕ → Option Begun → Operation → Reply → ℕ
one_of k (Some b) Signal OK = one_on k b.condition
one_of k (Some b) Broadcast OK = one_on k b.condition
one_of k b op x = 0

-- this many points among some facts count there, where each thread was recorded before them to have begun this call
-- last
abbrev pub signals_in : ℕ → (ℕ → Option Begun) → List Fact → ℕ
signals_in k calls [] = 0
signals_in k calls (Begin u b ∷ fs) = signals_in k (λ t. if u == t then Some b else calls t) fs
signals_in k calls (Point d ∷ fs) = one_of k (calls d.thread) d.operation d.reply + signals_in k calls fs
signals_in k calls (f ∷ fs) = signals_in k calls fs

-- after these events, from state s on, and then those: the counter of condition variable k is what it was before
-- those, and one more for each signal and each broadcast on it with OK among them
abbrev pub CountsUp : State → ℕ → List Event → List Event → Type 0
CountsUp s k before after =
    (run (run s before) after).words (counter_place s.layout k) ≡ (run s before).words (counter_place s.layout k)
    + signals_in k (λ t. call_told t (notes s before)) (facts_among (notes (run s before) after))

-- whatever happens, with counters that are at most as large as they may be at the beginning: the counter of condition
-- variable k is what it was then, and one more for each such call; and from any moment on what it was, and those since
pub record CountsFrom (l : Layout') (counters : ℕ → ℕ) (k : ℕ) : Type 0 where
  pub first : (events : List Event) → (run (start l counters) events).words (counter_place l k)
      ≡ counters k + signals_in k (λ t. None) (facts_among (notes (start l counters) events))
  pub since : (before after : List Event) → CountsUp (start l counters) k before after

abbrev pub CountersCountUp : Type 0
CountersCountUp = (l : Layout') (counters : ℕ → ℕ) → IsLayout l → ArePresets counters → (k : ℕ)
    → k < length l.conditions → CountsFrom l counters k
