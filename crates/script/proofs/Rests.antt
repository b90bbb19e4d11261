-- A thread that goes on comes to rest.
use Rattle.std.proofs.Common.{◌≡◌, ℕ, zero, suc, ◌<◌, ◌≤◌, ◌&&◌, ◌||◌, Bool, true, false, not, refl, sym, ◌∙◌, arith, inl, inr, ⊎_elim}
use Rattle.std.specs.Prelude.{if◌then◌else◌}
use Rattle.protocol.specs.declared.event.Event.TheVariants.{Step}
use Rattle.protocol.specs.Machine.{State, start, run, happens, is_busy, is_dying, is_asleep}
use Rattle.protocol.specs.Sleepers.{IsAwake, IsAtRest, EndsAlone, alone}
use Rattle.protocol.proofs.Queued.{Queued, in_none}
use Rattle.protocol.proofs.QueueRuns.{run_queued}
use Rattle.protocol.proofs.Undivided.{all_rest}
use Rattle.script.specs.Playing.{is_going, steps_to_rest}
use Rattle.script.specs.Resting.{RestsAfter, ThreadsComeToRest}
use Rattle.script.specs.Limits.{rest_steps}

-- whoever goes on is awake
is_awake : (s : State) (t : ℕ) → Queued s → is_going s t ≡ true → IsAwake s t
is_awake s t queued goes = by_cases (is_busy s t) refl (is_dying s t) refl (is_asleep s t) refl goes
  where
    by_cases : (b : Bool) → is_busy s t ≡ b → (d : Bool) → is_dying s t ≡ d → (a : Bool) → is_asleep s t ≡ a → ((b || d) && not a) ≡ true → IsAwake s t
    by_cases b busy d dying true asleep e = absurd (never (b || d) e)
      where
        never : (x : Bool) → ¬ ((x && false) ≡ true)
        never true e = absurd cc
        never false e = absurd cc
    by_cases true busy d dying false asleep e = (inl busy, in_none s t queued asleep)
    by_cases false busy true dying false asleep e = (inr dying, in_none s t queued asleep)
    by_cases false busy false dying false asleep e = absurd cc

-- and whoever is at rest doesn't go on
not_going : (s : State) (t : ℕ) → IsAtRest s t → is_going s t ≡ false
not_going s t rests = ⊎_elim (λ done. rw (done.0, done.1) refl) (λ asleep. rw asleep (never (is_busy s t || is_dying s t))) rests
  where
    never : (b : Bool) → (b && false) ≡ false
    never true = refl
    never false = refl

-- the number that is looked for is the least, where there is one
counted : (most : ℕ) (s : State) (t n : ℕ) → n ≤ most → is_going (alone s t n) t ≡ false → RestsAfter s t (steps_to_rest most s t)
unfolding steps_to_rest
counted zero s t zero few rests = (rests, λ k lt. absurd (omega (arith, lt)))
counted zero s t (suc n) few rests = absurd (omega arith)
counted (suc most) s t n few rests = go (is_going s t) refl (λ k low at_rest. counted most (happens s (Step t)).state t k low at_rest)
  where
    Later : Type 0
    Later = (k : ℕ) → k ≤ most → is_going (alone (happens s (Step t)).state t k) t ≡ false → RestsAfter (happens s (Step t)).state t (steps_to_rest most (happens s (Step t)).state t)

    before : ((k : ℕ) → k < steps_to_rest most (happens s (Step t)).state t → is_going (alone (happens s (Step t)).state t k) t ≡ true) → is_going s t ≡ true → (k : ℕ) → k < suc (steps_to_rest most (happens s (Step t)).state t) → is_going (alone s t k) t ≡ true
    before rest goes zero lt = goes
    before rest goes (suc k) lt = rest k (omega arith)

    later : Later → (n : ℕ) → n ≤ suc most → is_going (alone s t n) t ≡ false → is_going s t ≡ true → RestsAfter s t (suc (steps_to_rest most (happens s (Step t)).state t))
    later further zero few rests goes = absurd (cc (sym goes ∙ rests))
    later further (suc k) few rests goes = let rest = further k (omega arith) rests in (rest.0, before rest.1 goes)

    go : (b : Bool) → is_going s t ≡ b → Later → RestsAfter s t (if b then suc (steps_to_rest most (happens s (Step t)).state t) else 0)
    go false is further = (is, λ k lt. absurd (omega (arith, lt)))
    go true is further = later further n few rests is

comes : (s : State) (t : ℕ) → Queued s → EndsAlone s t → RestsAfter s t (steps_to_rest rest_steps s t)
comes s t queued ends = go (is_going s t) refl
  where
    go : (b : Bool) → is_going s t ≡ b → RestsAfter s t (steps_to_rest rest_steps s t)
    go false is = counted rest_steps s t 0 (omega arith) is
    go true is = let end = ends (is_awake s t queued is) in counted rest_steps s t end.0 end.1 (not_going (alone s t end.0) t end.2)

pub come_to_rest : ThreadsComeToRest
come_to_rest l counters events t is = comes (run (start l counters) events) t (run_queued l counters events is) (all_rest l counters events is t)
