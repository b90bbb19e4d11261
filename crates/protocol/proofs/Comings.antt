-- What a call that no other event divides comes to: one step, whatever that is, and then the others.
use Rattle.std.proofs.Common.{◌≡◌, ◌≢◌, ◌⊎◌, ⊎_elim, inl, inr, ℕ, suc, ◌≤◌, Bool, true, false, Option, Some, List, ◌++◌, refl, sym, ap, ◌∙◌, subst, arith}
use Rattle.protocol.proofs.Vocabulary.{Fact, Return, Queue, Object, Operation, Decision, sleeps_at, Does, Reply, XRACED, Step, Stepped, Idle, State, After, is_calling, sleeps}
use Rattle.protocol.proofs.Vocabulary.{is_asleep, happens, run, notes, seen, facts_among, facts_of, return_facts, replicate}
use Rattle.protocol.specs.Sleepers.{IsAmong}
use Rattle.protocol.proofs.Steps.{Transition, after, met}
use Rattle.protocol.proofs.Stepping.{left_of, Stepping}
use Rattle.protocol.proofs.Endings.{EndsOrGoes}
use Rattle.protocol.proofs.Queued.{Queued, mine, now_asleep}
use Rattle.protocol.proofs.Returning.{still_run, still_tells, IsStill, idle_still, asleep_still, told_return, Back, back_later, back_asleep}
use Rattle.protocol.proofs.NoteFacts.{IsOfSleep, of_access}

-- ---- what a step tells of returns

among_return : (t y : ℕ) (z : Reply) (x : Option Reply) (rest : List Fact) → IsAmong (Return y z) (return_facts t x ++ rest) → (x ≡ Some z) ⊎ IsAmong (Return y z) rest
among_return t y z x rest h = grind (arith)

among_step : (t m y : ℕ) (z : Reply) (d : Option Decision) (k : Option Queue) (ws ms : List ℕ) (x : Option Reply) (rest : List Fact) → IsAmong (Return y z) (facts_of (Stepped t m d k ws ms x) ++ rest) → (x ≡ Some z) ⊎ IsAmong (Return y z) rest
among_step t m y z d k ws ms x rest =
    of_access (λ (fs : List Fact). IsAmong (Return y z) (fs ++ rest) → (x ≡ Some z) ⊎ IsAmong (Return y z) rest) t m d k ws ms x
    (λ e fs later. ⊎_elim (λ same. absurd (cc same)) later) (λ f of fs later. ⊎_elim (λ same. absurd (subst (IsOfSleep t) same of)) later) (among_return t y z x rest)

-- ---- a call of thread t on mutex m, which held this many mutexes when that was this object; where it sleeps, this
-- holds
module _ (t held m : ℕ) (op : Operation) (o : Object) (Rest : State → Type 0) where
  -- what it comes to after n steps
  pub record Comes (s : State) (n : ℕ) : Type 0 where
    pub returns : (x : Reply) → IsAmong (Return t x) (facts_among (notes s (replicate n (Step t)))) → (x ≢ XRACED) × Does held o t op x (seen (run s (replicate n (Step t))) m)
    pub sleeps : is_asleep (run s (replicate n (Step t))) t ≡ true → Rest (run s (replicate n (Step t)))

  -- and that it comes back, if they are enough
  abbrev pub ComesBack : State → ℕ → Type 0
  ComesBack s n = Comes s n × (left_of s (s.threads t).stage ≤ n → Back s t n)

  -- it comes to nothing more once it is at rest
  rests : (s : State) (n : ℕ) → IsStill s t → (is_asleep s t ≡ true → Rest s) → Comes s n
  rests s n still asleep = record {
    returns = λ x among. absurd (subst (IsAmong (Return t x)) (still_tells s t n still) among);
    sleeps = λ e. subst Rest (sym (still_run s t n still)) (asleep (ap (λ (z : State). is_asleep z t) (sym (still_run s t n still)) ∙ e));
  }

  -- without a step
  pub at_first : (s : State) (v : Transition) → Stepping s t v → (s.threads t).stage ≡ v.from → is_asleep s t ≡ false → ComesBack s 0
  at_first s v step is awake = (
    record { returns = λ x among. absurd among; sleeps = λ e. absurd (cc (awake, e)) },
    λ few. let some = step.some in let before : left_of s (s.threads t).stage ≡ left_of s v.from = ap (left_of s) is in absurd (omega (arith, some, few, before)),
  )

  -- one step of it, while it is awake
  module _ (s : State) (v : Transition) (step : Stepping s t v) (queued : Queued s) (pos : 1 ≤ t) (known : t ≤ s.layout.threads) (is : (s.threads t).stage ≡ v.from) (awake : is_asleep s t ≡ false) (k : ℕ) (d : Option Decision) (q : Option Queue) (ws ms : List ℕ) (y : Option Reply)
      (goes_to : happens s (Step t) ≡ record { state = after s t v; note = Stepped t k d q ws ms y }) (ends : EndsOrGoes v.next y) where
    abbrev z : State
    z = after s t v

    abbrev falls : Bool
    falls = sleeps_at v.access (met s t v)

    stage_then : (z.threads t).stage ≡ v.next
    stage_then = mine s t v step pos known is queued awake

    -- what it tells
    told : (x : Reply) (rest : List Fact) → IsAmong (Return t x) (facts_of (happens s (Step t)).note ++ rest) → (y ≡ Some x) ⊎ IsAmong (Return t x) rest
    told x rest h = among_step t k t x d q ws ms y rest (subst (λ (a : After). IsAmong (Return t x) (facts_of a.note ++ rest)) goes_to h)

    -- one step, and then n
    after_step : (n : ℕ) → Comes z n → ((x : Reply) → y ≡ Some x → (x ≢ XRACED) × Does held o t op x (seen (run z (replicate n (Step t))) m)) → Comes s (suc n)
    after_step n comes at_return = record {
      returns = λ x among.
          subst (λ (a : After). (x ≢ XRACED) × Does held o t op x (seen (run a.state (replicate n (Step t))) m)) (sym goes_to)
          (⊎_elim (at_return x) (comes.returns x)
          (subst (λ (a : After). (y ≡ Some x) ⊎ IsAmong (Return t x) (facts_among (notes a.state (replicate n (Step t))))) goes_to (told x (facts_among (notes (happens s (Step t)).state (replicate n (Step t)))) among)));
      sleeps = λ e.
          subst (λ (a : After). Rest (run a.state (replicate n (Step t)))) (sym goes_to)
          (comes.sleeps (ap (λ (a : After). is_asleep (run a.state (replicate n (Step t))) t) (sym goes_to) ∙ e));
    }

    -- whoever is idle doesn't sleep
    idle_awake : v.next ≡ Idle → is_asleep z t ≡ true → ⊥
    idle_awake idle asleep = cc (sym (ap (sleeps z t) (stage_then ∙ idle)) ∙ asleep)

    -- it falls asleep, or returns, or goes on
    pub takes_step : (n : ℕ) → (falls ≡ true → Rest z) → ((x : Reply) → falls ≡ false → y ≡ Some x → (x ≢ XRACED) × Does held o t op x (seen z m)) → (falls ≡ false → is_calling v.next ≡ true → ComesBack z n) → ComesBack s (suc n)
    takes_step n resting returning further = go falls refl ends
      where
        go : (b : Bool) → falls ≡ b → EndsOrGoes v.next y → ComesBack s (suc n)
        go true on (inr (idle, x, e)) = absurd (idle_awake idle (now_asleep s t v step pos known is queued awake on))
        go true on (inl (calling, none)) =
            let asleep = now_asleep s t v step pos known is queued awake on in (
              after_step n (rests z n (asleep_still z t asleep) (λ e. resting on)) (λ x e. absurd (cc (none, e))),
              λ few. back_later s z t n (ap (λ (a : After). a.state) goes_to) (back_asleep z t n asleep),
            )
        go false quiet (inr (idle, x, e)) =
            let still = idle_still z t (stage_then ∙ idle) in (
              after_step n (rests z n still (λ asleep. absurd (idle_awake idle asleep))) (λ r back. subst (λ (u : State). (r ≢ XRACED) × Does held o t op r (seen u m)) (sym (still_run z t n still)) (returning r quiet back)),
              λ few. inl (x, subst (λ (a : After). IsAmong (Return t x) (facts_of a.note ++ facts_among (notes a.state (replicate n (Step t))))) (sym goes_to) (told_return t k x d q ws ms y _ e)),
            )
        go false quiet (inl (calling, none)) =
            let on = further quiet calling in (
              after_step n on.0 (λ x e. absurd (cc (none, e))),
              λ few. back_later s z t n (ap (λ (a : After). a.state) goes_to)
                  (on.1
                  (let less = step.fewer quiet in
                  let before : left_of s (s.threads t).stage ≡ left_of s v.from = ap (left_of s) is in
                  let left_then : left_of z (z.threads t).stage ≡ left_of z v.next = ap (left_of z) stage_then in
                  omega (arith, less, few, before, left_then))),
            )
