-- A sleep is recorded only of a thread in a lock or a wait.
use Rattle.std.proofs.Common.{◌≡◌, ⊎_elim, ℕ, ◌≤◌, ◌&&◌, Bool, true, false, Option, Some, Ok, Err, [], ◌∷◌, refl, sym, ap, ◌∙◌, subst, arith}
use Rattle.protocol.proofs.Vocabulary.{CondCall, CondWhole, condition_of, cond_access, Queue, Mutex, Condition, Fact, Begun, Object, Operation, Layout', XHELD, Phase, Whole, whole_access}
use Rattle.protocol.proofs.Vocabulary.{Op, OnCondition, mutex_of, begun_of, Event, Stage, Calling, AtCondition, State, After, place_met, is_met, sleeps_at, slept_in, facts_of, begun, happens, falls_asleep, seen, if◌then◌else◌}
use Rattle.facts.specs.declared.fact.Fact.TheVariants.{Sleep, Wake}
use Rattle.condvar.specs.Calls.{acts_as, operation_of}
use Rattle.facts.specs.Lives.{IsWait}
use Rattle.condvar.specs.Laws.{row_operation}
use Rattle.protocol.specs.Sleepers.{IsAmong}
use Rattle.protocol.specs.Wakings.{MaySleepIn}
use Rattle.protocol.proofs.Phases.{plain_awake}
use Rattle.protocol.proofs.Kept.{IsFor, InPhase, Kept}
use Rattle.protocol.proofs.CondRows.{only_waits_sleep}
use Rattle.protocol.proofs.CondAccesses.{by_access}
use Rattle.protocol.proofs.Accesses.{goes, fits_in}
use Rattle.protocol.proofs.Declines.{spared_is}
use Rattle.protocol.proofs.Events.{begins_at, by_event, by_stage}
use Rattle.protocol.proofs.Passing.{sleep_noted, none_walked}
use Rattle.protocol.proofs.Learnt.{Learnt}
use Rattle.protocol.proofs.Sparing.{spare_is}
use Rattle.std.proofs.Common.{inl, inr}

-- ---- facts that tell no sleep

one_else : (f : Fact) (t : ℕ) (q : Queue) → (f ≡ Sleep t q → ⊥) → IsAmong (Sleep t q) (f ∷ []) → ⊥
one_else f t q other h = ⊎_elim other (λ none. none) h

two_else : (f g : Fact) (t : ℕ) (q : Queue) → (f ≡ Sleep t q → ⊥) → (g ≡ Sleep t q → ⊥) → IsAmong (Sleep t q) (f ∷ (g ∷ [])) → ⊥
two_else f g t q first second h = ⊎_elim first (one_else g t q second) h

three_else : (f g k : Fact) (t : ℕ) (q : Queue) → (f ≡ Sleep t q → ⊥) → (g ≡ Sleep t q → ⊥) → (k ≡ Sleep t q → ⊥) → IsAmong (Sleep t q) (f ∷ (g ∷ (k ∷ []))) → ⊥
three_else f g k t q first second third h = ⊎_elim first (λ more. ⊎_elim second (one_else k t q third) more) h

-- ---- where a sleep is recorded

slept_is : (k q : Queue) (b : Bool) → slept_in k b ≡ Some q → (b ≡ true) × (k ≡ q)
slept_is k q true e = (refl, cc)
slept_is k q false e = absurd cc

second : (a b : Bool) → (a && b) ≡ true → b ≡ true
second true b e = e
second false b e = absurd cc

-- a lock of a mutex, also that which ends a wait
lock_may : (l : Layout') (o : Op) (op : Operation) → op ≡ Operation.Lock → IsFor l o op → MaySleepIn (Mutex (mutex_of l o)) (Some (begun_of l o))
lock_may l o op is for_one = grind (arith)

-- a wait, with a time limit or without
wait_is : (c : CondCall) → acts_as c ≡ Operation.Wait → IsWait (operation_of c)
wait_is (CondCall.Wait k) is = inl refl
wait_is (CondCall.TimedWait k x) is = inr refl
wait_is (CondCall.Signal k) is = absurd (cc is)
wait_is (CondCall.Broadcast k) is = absurd (cc is)

wait_may : (l : Layout') (c : CondCall) → acts_as c ≡ Operation.Wait → MaySleepIn (Condition (condition_of c)) (Some (begun_of l (OnCondition c)))
wait_may l c is = (refl, wait_is c is)

module _ (s : State) (inv : Kept s) (calls : ℕ → Option Begun) (left : ℕ → Option Object) (learnt : (t : ℕ) → Learnt s.layout (s.threads t).stage (calls t) (left t)) where
  abbrev Tells : After → Type 0
  Tells a = (t : ℕ) (q : Queue) → IsAmong (Sleep t q) (facts_of a.note) → MaySleepIn q (calls t)

  -- the thread that falls asleep, and the queue
  told_there : (u t : ℕ) (k q : Queue) (b : Option Begun) → u ≡ t → k ≡ q → calls u ≡ b → MaySleepIn k b → MaySleepIn q (calls t)
  told_there u t k q b me same is may = subst (λ (v : ℕ). MaySleepIn q (calls v)) me (subst (λ (r : Queue). MaySleepIn r (calls u)) same (subst (MaySleepIn k) (sym is) may))

  called : (u : ℕ) (o : Op) (p : Whole) → 1 ≤ u → u ≤ s.layout.threads → (s.threads u).stage ≡ Calling o p → falls_asleep s u (whole_access p) ≡ true → MaySleepIn (Mutex (mutex_of s.layout o)) (Some (begun_of s.layout o))
  called u o p pos known is on =
      let fits = fits_in s u o p inv pos known is in
      let row = (goes s u o p inv pos known is).sleeper (second (is_met s.layout u (whole_access p)) (sleeps_at (whole_access p) (s.words (place_met s.layout u (whole_access p)))) on) in
      let stands = subst (λ (f : Phase). InPhase u (s.threads u).held p f (seen s (mutex_of s.layout o))) row.1 fits.0.stands in
      lock_may s.layout o p.operation (sym stands.of) fits.1

  abbrev Waits : ℕ → CondCall → CondWhole → Type 0
  Waits u c p = sleeps_at (cond_access p) (s.words (place_met s.layout u (cond_access p))) ≡ true → acts_as c ≡ Operation.Wait

  at_condition : (u : ℕ) (c : CondCall) (p : CondWhole) → 1 ≤ u → u ≤ s.layout.threads → (s.threads u).stage ≡ AtCondition c p → Waits u c p
  at_condition u c p pos known is =
      by_access s u c inv pos known (Waits u c)
      (λ r fits step on. let row = only_waits_sleep _ _ _ r _ on in sym fits.stands.of ∙ ap row_operation row.1)
      (λ x q near on. absurd (cc (on, (plain_awake _ _ near.plain).0)))
      p is

  begins : (u : ℕ) (o : Op) (b : Bool) → Tells (begun s u o (if b then Err XHELD else Ok (begins_at s.layout u o)))
  begins u o true t q h = absurd (three_else _ _ _ t q (λ e. cc e) (λ e. cc e) (λ e. cc e) h)
  begins u o false t q h = absurd (one_else _ t q (λ e. cc e) h)

  pub told_of_callers : (e : Event) → Tells (happens s e)
  told_of_callers e =
      by_event s (λ (x : Event) (a : After). Tells a)
      (λ x t q h. absurd h)
      (λ u o pos known inside idle b full. begins u o b)
      (λ u pos known.
      by_stage s u Tells (λ rests t q h. absurd h)
      (λ o p is awake t q h.
      let noted = sleep_noted t q u (mutex_of s.layout o) _ _ _ _ _ h in
      let there = slept_is (Mutex (mutex_of s.layout o)) q (falls_asleep s u (whole_access p)) noted.1 in
      told_there u t _ q _ noted.0 there.1 (subst (λ (g : Stage). Learnt s.layout g (calls u) (left u)) is (learnt u)).0 (called u o p pos known is there.0))
      (λ c p is awake t q h.
      let noted = sleep_noted t q u (mutex_of s.layout (OnCondition c)) _ _ _ _ _ h in
      let there = slept_is (Condition (condition_of c)) q (falls_asleep s u (cond_access p)) noted.1 in
      let on = second (is_met s.layout u (cond_access p)) (sleeps_at (cond_access p) (s.words (place_met s.layout u (cond_access p)))) there.0 in
      told_there u t _ q _ noted.0 there.1 (subst (λ (g : Stage). Learnt s.layout g (calls u) (left u)) is (learnt u)).0 (wait_may s.layout c (at_condition u c p pos known is on)))
      (λ w is awake t q h. absurd (none_walked (Sleep t q) u _ _ _ refl h)))
      (λ u pos known alive t q h. absurd (one_else _ t q (λ e. cc e) h))
      (λ u pos known asleep t q h. absurd (one_else _ t q (λ e. cc e) h))
      (λ u m p pos known is asleep may t q h. absurd (two_else _ _ t q (λ e. cc e) (λ e. cc e) h))
      (λ u k x p pos known is there t q h. absurd (one_else _ t q (λ e. cc e) h))
      (λ u o p pos known is awake trims. subst Tells (sym (spared_is s u o p is trims inv pos known)) (λ t q h. absurd h))
      (λ u pos known gone t q h. absurd (one_else _ t q (λ e. cc e) h))
      (λ u m may t q h. absurd (three_else _ _ _ t q (λ e. cc e) (λ e. cc e) (λ e. cc e) h))
      (λ u m g sp. subst Tells (sym (spare_is s u m g sp inv)) (λ t q h. absurd h))
      e
    where
      slept_again : (u t k : ℕ) (q : Queue) → IsAmong (Sleep t q) (Wake u ∷ (Sleep u (Condition k) ∷ [])) → (u ≡ t) × (Condition k ≡ q)
      slept_again u t k q h = ⊎_elim (λ e. absurd (cc e)) (λ more. ⊎_elim (λ e. (cc, cc)) (λ none. absurd none) more) h
