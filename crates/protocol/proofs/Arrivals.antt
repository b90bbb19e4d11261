-- Where a step leads its own thread: to a phase in which it stands rightly, with its list as that phase has it.
use Rattle.std.proofs.Common.{◌≡◌, ◌⊎◌, inl, inr, ℕ, List, refl, arith}
use Rattle.protocol.proofs.Vocabulary.{Access, Object, Reply, Phase, AtCell, Linking, Clearing, Whole, Op, mutex_of, Thread, Calling, State, stage_after, seen}
use Rattle.mutex.specs.declared.phase.Phase.TheVariants.{Announcing, Unlinking, Ended}
use Rattle.protocol.proofs.Seeing.{head_in, words_in}
use Rattle.protocol.proofs.Kept.{InPhase, Fits, Serves, Sits, left_out_in, Owned, ChainedIn, Listed, pending_in, PendsAs}
use Rattle.protocol.proofs.Steps.{done}

-- the call has returned, or is there rightly
abbrev pub Arrives : ℕ → ℕ → Whole → Phase → Object → Type 0
Arrives t held p (Ended x) o = Unit {0}
Arrives t held p (Announcing r) o = InPhase t held p (Announcing r) o
Arrives t held p (AtCell r) o = InPhase t held p (AtCell r) o
Arrives t held p (Linking l x) o = InPhase t held p (Linking l x) o
Arrives t held p (Unlinking u d) o = InPhase t held p (Unlinking u d) o
Arrives t held p (Clearing x) o = InPhase t held p (Clearing x) o

-- a phase, ended or not
pub ended_or_not : (f : Phase) → ((x : Reply) × (f ≡ Ended x)) ⊎ ((c : Op) (p : Whole) → stage_after c p f ≡ Calling c (record p { phase = f }))
ended_or_not (Announcing r) = inr (λ c p. refl)
ended_or_not (AtCell r) = inr (λ c p. refl)
ended_or_not (Linking l x) = inr (λ c p. refl)
ended_or_not (Unlinking u d) = inr (λ c p. refl)
ended_or_not (Clearing x) = inr (λ c p. refl)
ended_or_not (Ended x) = inl (x, refl)

-- an access of thread t, in a call on mutex m
module _ (s : State) (t h : ℕ) (c : Op) (p : Whole) (fits : Fits s t h (mutex_of s.layout c) p) (serves : Serves s.layout c p) (a : Access) (th : Thread) where
  abbrev s' : State
  s' = done s t a th

  -- then its thread sits rightly
  pub sits_after : (held : ℕ) (f : Phase) → Arrives t held p f (seen s' (mutex_of s.layout c)) → Sits s' t held (stage_after c p f)
  sits_after held f stands = grind (arith)

-- and has its list
pub listed_after : (s : State) (t : ℕ) (c : Op) (p : Whole) (es : List ℕ) (f : Phase) → Owned s t (left_out_in (mutex_of s.layout c) f) es → ChainedIn (words_in s.layout t s.words) (head_in s.layout t) p.entry es f → Listed s t (stage_after c p f)
listed_after s t c p es f owned ch = grind (arith)

-- its pending entry is that of its phase
pub pending_then : (c : Op) (p : Whole) (f : Phase) (w : ℕ) → w ≡ pending_in p.entry f → PendsAs w (stage_after c p f)
pending_then c p f w is = grind (arith)
