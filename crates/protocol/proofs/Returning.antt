-- A call alone comes to its return, or falls asleep.
use Rattle.std.proofs.Common.{◌≡◌, ◌⊎◌, ⊎_elim, inl, inr, ℕ, zero, suc, Bool, true, false, Option, Some, List, [], ◌∷◌, ◌++◌, sym, ap, ◌∙◌, subst, refl}
use Rattle.protocol.proofs.Vocabulary.{Queue, Fact, Return, Decision, Reply, Step, Stepped, Idle, State, After, is_asleep, nothing, stepped, happens, run, notes, facts_among}
use Rattle.protocol.proofs.Vocabulary.{facts_of, if◌then◌else◌, replicate}
use Rattle.protocol.specs.Machine.{has_thread}
use Rattle.protocol.specs.Sleepers.{IsAmong}
use Rattle.protocol.proofs.Events.{by_stage}
use Rattle.protocol.proofs.NoteFacts.{of_access}

-- ---- a thread that is idle or asleep steps no more

abbrev pub IsStill : State → ℕ → Type 0
IsStill s t = happens s (Step t) ≡ nothing s

pub still_run : (s : State) (t n : ℕ) → IsStill s t → run s (replicate n (Step t)) ≡ s
still_run s t zero still = refl
still_run s t (suc n) still = ap (λ (a : After). run a.state (replicate n (Step t))) still ∙ still_run s t n still

pub still_tells : (s : State) (t n : ℕ) → IsStill s t → facts_among (notes s (replicate n (Step t))) ≡ []
still_tells s t zero still = refl
still_tells s t (suc n) still = ap (λ (a : After). facts_of a.note ++ facts_among (notes a.state (replicate n (Step t)))) still ∙ still_tells s t n still

either_way : (b : Bool) (s : State) (a : After) → a ≡ nothing s → (if b then a else nothing s) ≡ nothing s
either_way true s a e = e
either_way false s a e = refl

pub idle_still : (s : State) (t : ℕ) → (s.threads t).stage ≡ Idle → IsStill s t
idle_still s t is = either_way (has_thread s t) s (stepped s t (s.threads t).held (s.threads t).stage) (ap (stepped s t (s.threads t).held) is)

pub asleep_still : (s : State) (t : ℕ) → is_asleep s t ≡ true → IsStill s t
asleep_still s t e = either_way (has_thread s t) s (stepped s t (s.threads t).held (s.threads t).stage) (by_stage s t (λ (a : After). a ≡ nothing s) (λ rests. refl) (λ o p is awake. absurd (cc (e, awake))) (λ c p is awake. absurd (cc (e, awake))) (λ w is awake. absurd (cc (e, awake))))

-- ---- what a step tells that returns

pub told_return : (t m : ℕ) (x : Reply) (d : Option Decision) (k : Option Queue) (ws ms : List ℕ) (y : Option Reply) (rest : List Fact) → y ≡ Some x → IsAmong (Return t x) (facts_of (Stepped t m d k ws ms y) ++ rest)
told_return t m x d k ws ms y rest e =
    subst (λ (z : Option Reply). IsAmong (Return t x) (facts_of (Stepped t m d k ws ms z) ++ rest)) (sym e)
    (of_access (λ (fs : List Fact). IsAmong (Return t x) (fs ++ rest)) t m d k ws ms (Some x) (λ p fs later. inr later) (λ f of fs later. inr later) (inl refl))

pub among_later : (f : Fact) (gs fs : List Fact) → IsAmong f fs → IsAmong f (gs ++ fs)
among_later f [] fs h = h
among_later f (g ∷ gs) fs h = inr (among_later f gs fs h)

-- ---- a call that runs alone

-- within n steps its return is recorded; or it sleeps then
abbrev pub Back : State → ℕ → ℕ → Type 0
Back s t n = ((x : Reply) × IsAmong (Return t x) (facts_among (notes s (replicate n (Step t))))) ⊎ (is_asleep (run s (replicate n (Step t))) t ≡ true)

pub back_later : (s z : State) (t n : ℕ) → (happens s (Step t)).state ≡ z → Back z t n → Back s t (suc n)
back_later s z t n to back =
    ⊎_elim
    (λ told. inl (
      told.0,
      among_later (Return t told.0) (facts_of (happens s (Step t)).note) (facts_among (notes (happens s (Step t)).state (replicate n (Step t))))
          (subst (λ (y : State). IsAmong (Return t told.0) (facts_among (notes y (replicate n (Step t))))) (sym to) told.1),
    ))
    (λ asleep. inr (subst (λ (y : State). is_asleep (run y (replicate n (Step t))) t ≡ true) (sym to) asleep))
    back

pub back_asleep : (s : State) (t n : ℕ) → is_asleep s t ≡ true → Back s t n
back_asleep s t n e = inr (ap (λ (z : State). is_asleep z t) (still_run s t n (asleep_still s t e)) ∙ e)
