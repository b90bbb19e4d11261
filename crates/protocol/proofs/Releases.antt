-- A wait's unlock is of a consistent mutex of its own.
use Rattle.std.proofs.Common.{◌≡◌, ⊎_elim, inl, inr, ℕ, ◌≤◌, Bool, true, false, Option, Some, None, Ok, Err, List, refl, sym, ap, ◌∙◌, subst, arith}
use Rattle.protocol.proofs.Vocabulary.{CondCall, CondRow, CondWhole, CondOnward, cond_access, cond_led, condition_of, met_word, Condition, Fact, Begun, Decision, Object, Operation, Layout', fields_of, owner_of, owner_of-some}
use Rattle.protocol.proofs.Vocabulary.{OK, XHELD, Reply, Op, OnCondition, mutex_of, begun_of, Event, Stage, AtCondition, State, After, answer_at, decision, decided_at, reply_at, facts_of, led_at, begun, happens, run, notes, start, WaitRow, if◌then◌else◌}
use Rattle.posixmutex.specs.declared.point.Point.{Point}
use Rattle.condvar.specs.declared.row.CondRow.TheVariants.{Wait}
use Rattle.condvar.specs.declared.row.Decided.{Decided}
use Rattle.condvar.specs.Calls.{acts_as}
use Rattle.condvar.specs.Programs.{row_access, resume_of, point_of}
use Rattle.condvar.specs.Ops as ops
use Rattle.facts.specs.Lives.{IsWait}
use Rattle.protocol.specs.Sleepers.{IsAmong}
use Rattle.protocol.specs.PassedBy.{call_told}
use Rattle.protocol.specs.Wakes.{left_by}
use Rattle.protocol.specs.Releases.{OwnsConsistent, WaitsReleaseConsistentMutexes}
use Rattle.protocol.proofs.Kept.{IsFor, Needs, Kept}
use Rattle.protocol.proofs.Steps.{went-is, seen-inside, cond_onto, cond_note, its_mutex, its_cell, cond_after}
use Rattle.protocol.proofs.Accesses.{fits_in}
use Rattle.protocol.proofs.CondAccesses.{cond_stepping, fits_at}
use Rattle.protocol.proofs.Counters.{CondMove, By_row, Before_release, cond_moves}
use Rattle.protocol.proofs.Declines.{spared_is}
use Rattle.protocol.proofs.Events.{begins_at, by_event, by_stage}
use Rattle.protocol.proofs.Passing.{point_noted, none_walked}
use Rattle.protocol.proofs.Runs.{start_kept, run_kept}
use Rattle.protocol.proofs.Learnt.{Learnt, run_learnt}
use Rattle.protocol.proofs.Sparing.{spare_is}

abbrev unlock_of : ℕ → ℕ → Decision
unlock_of t m = record { thread = t; mutex = m; operation = Operation.Unlock; reply = OK }

abbrev TellsUnlock : ℕ → ℕ → List Fact → Type 0
TellsUnlock t m fs = IsAmong (Fact.Point (unlock_of t m)) fs

-- ---- what was decided

decided_same : (u k : ℕ) (op : Operation) (x : Reply) (d : Decision) → Some (record { thread = u; mutex = k; operation = op; reply = x }) ≡ Some d → (u ≡ d.thread) × (k ≡ d.mutex) × (op ≡ d.operation)
decided_same u k op x d e = (cc, cc, cc)

same_decision : (d e : Decision) → Fact.Point d ≡ Fact.Point e → (d.reply ≡ e.reply) × (d.operation ≡ e.operation)
same_decision d e is = (cc, cc)

of_call : (u k : ℕ) (op : Operation) (x : Option Reply) (t m : ℕ) → decision u k op x ≡ Some (unlock_of t m) → (u ≡ t) × (op ≡ Operation.Unlock)
of_call u k op None t m e = absurd cc
of_call u k op (Some x) t m e = let same = decided_same u k op x (unlock_of t m) e in (same.0, same.2)

record OfPoint (u k : ℕ) (x : Option Point) (t m : ℕ) : Type 0 where
  thread : u ≡ t
  mutex : k ≡ m
  point : Point
  is : x ≡ Some point
  unlocks : point.operation ≡ Operation.Unlock

of_point : (u k : ℕ) (op : Operation) (x : Option Point) (t m : ℕ) → decision u k (decided_at op x) (reply_at x) ≡ Some (unlock_of t m) → OfPoint u k x t m
of_point u k op None t m e = absurd cc
of_point u k op (Some y) t m e = let same = decided_same u k y.operation y.reply (unlock_of t m) e in record { thread = same.0; mutex = same.1; point = y; is = refl; unlocks = same.2 }

of_decided : (t cell : ℕ) (x : Option Decided) (y : Point) → point_of t cell x ≡ Some y → (d : Decided) × (x ≡ Some d) × (d.operation ≡ y.operation)
of_decided t cell x y e = grind (arith)

-- only a wait's release unlocks
releases_row : (t cell counter w n : ℕ) (r : CondRow) (d : Decided) → (resume_of t r (answer_at (row_access t cell counter r) (met_word r w n))).decided ≡ Some d → d.operation ≡ Operation.Unlock → (x : ℕ) × (r ≡ Wait (WaitRow.Release x))
releases_row t cell counter w n r d e of = grind (arith)

-- a wait makes no unlock point in the lock that ends it
never_in_lock : (l : Layout') (o : Op) (op : Operation) → IsFor l o op → op ≡ Operation.Unlock → IsWait (ops.operation_of o) → ⊥
never_in_lock l o op is unlocks (inl waits) = grind (arith)
never_in_lock l o op is unlocks (inr waits) = grind (arith)

same_some : (x y : Begun) → Some x ≡ Some y → x ≡ y
same_some x y e = cc

module _ (s : State) (inv : Kept s) (calls : ℕ → Option Begun) (left : ℕ → Option Object) (learnt : (t : ℕ) → Learnt s.layout (s.threads t).stage (calls t) (left t)) where
  abbrev Releases : After → Type 0
  Releases a = (t m : ℕ) (b : Begun) → TellsUnlock t m (facts_of a.note) → calls t ≡ Some b → IsWait b.operation → (b.mutex ≡ m) × OwnsConsistent s t m

  -- its call is the one that it is in
  call_is : (u t : ℕ) (b c : Begun) → u ≡ t → calls u ≡ Some c → calls t ≡ Some b → c ≡ b
  call_is u t b c me here there = same_some c b (sym here ∙ ap calls me ∙ there)

  begins : (u : ℕ) (o : Op) (full : Bool) → Releases (begun s u o (if full then Err XHELD else Ok (begins_at s.layout u o)))
  begins u o true t m b h told waits = absurd (⊎_elim (λ e. cc e) (λ more. ⊎_elim (λ e. cc (same_decision _ (unlock_of t m) e).0) (λ last. ⊎_elim (λ e. cc e) (λ none. none) last) more) h)
  begins u o false t m b h told waits = absurd (⊎_elim (λ e. cc e) (λ none. none) h)

  at_condition : (u : ℕ) (c : CondCall) (p : CondWhole) → 1 ≤ u → u ≤ s.layout.threads → (s.threads u).stage ≡ AtCondition c p → Releases (record { state = cond_after s u c p; note = cond_note s u c p })
  at_condition u c p pos known is t m b h told waits = go (cond_moves s u c inv pos known p is).move
    where
      told_point : OfPoint u (its_mutex s c) (cond_onto s u p).point t m
      told_point = of_point u (its_mutex s c) (acts_as c) (cond_onto s u p).point t m (point_noted (unlock_of t m) u (its_mutex s c) _ _ _ _ _ h)

      same : begun_of s.layout (OnCondition c) ≡ b
      same = call_is u t b (begun_of s.layout (OnCondition c)) told_point.thread (subst (λ (g : Stage). Learnt s.layout g (calls u) (left u)) is (learnt u)).0 told

      owns : (fields_of (s.words (its_cell s c))).owner ≡ u → (fields_of (s.words (its_cell s c))).died ≡ false → OwnsConsistent s u (its_mutex s c)
      owns own fresh =
          let seen_is = seen-inside s (its_mutex s c) (fits_at s u c p inv pos known is).inside in
          record {
            owner = ap (λ (x : Object). x.owner) seen_is ∙ ap owner_of own ∙ owner_of-some u pos;
            consistent = ap (λ (x : Object). x.inconsistent) seen_is ∙ fresh;
          }

      go : CondMove s u c p → (b.mutex ≡ m) × OwnsConsistent s t m
      go (Before_release x before later none stays) = absurd (cc (sym none ∙ told_point.is))
      go (By_row r from going of needs counts leads) =
          let y = of_decided p.thread p.cell _ told_point.point (sym (ap (λ (g : CondOnward). g.point) leads) ∙ told_point.is) in
          let row = releases_row u _ _ _ _ r y.0 y.1 (y.2 ∙ told_point.unlocks) in
          let has : Needs u (Wait (WaitRow.Release row.0)) (fields_of (s.words (its_cell s c))) = subst (λ (z : CondRow). Needs u z (fields_of (s.words (its_cell s c)))) row.1 needs in (
            ap (λ (x : Begun). x.mutex) (sym same) ∙ told_point.mutex,
            subst (λ (v : ℕ). OwnsConsistent s v m) told_point.thread (subst (OwnsConsistent s u) told_point.mutex (owns has.0 has.1)),
          )

  pub releases_so : (e : Event) → Releases (happens s e)
  releases_so e =
      by_event s (λ (x : Event) (a : After). Releases a)
      (λ x t m b h told waits. absurd h)
      (λ u o pos known inside idle full is. begins u o full)
      (λ u pos known.
      by_stage s u Releases (λ rests t m b h told waits. absurd h)
      (λ o p is awake t m b h told waits.
      let point = of_call u (mutex_of s.layout o) p.operation _ t m (point_noted (unlock_of t m) u (mutex_of s.layout o) _ _ _ _ _ h) in
      let same = call_is u t b (begun_of s.layout o) point.0 (subst (λ (g : Stage). Learnt s.layout g (calls u) (left u)) is (learnt u)).0 told in
      absurd (never_in_lock s.layout o p.operation (fits_in s u o p inv pos known is).1 point.1 (subst IsWait (sym (ap (λ (x : Begun). x.operation) same)) waits)))
      (λ c p is awake. subst Releases
      (sym (went-is s u (its_mutex s c) (Condition (condition_of c)) (AtCondition c p) (cond_access p) (λ a. led_at c p (cond_led p a)) (cond_stepping s u c p inv pos known is).valid))
      (at_condition u c p pos known is))
      (λ w is awake t m b h told waits. absurd (none_walked (Fact.Point (unlock_of t m)) u _ _ _ refl h)))
      (λ u pos known alive t m b h told waits. absurd (⊎_elim (λ e. cc e) (λ none. none) h))
      (λ u pos known asleep t m b h told waits. absurd (⊎_elim (λ e. cc e) (λ none. none) h))
      (λ u k p pos known is asleep may t m b h told waits. absurd (⊎_elim (λ e. cc e) (λ more. ⊎_elim (λ e. cc (same_decision _ (unlock_of t m) e).1) (λ none. none) more) h))
      (λ u k x p pos known is there t m b h told waits. absurd (⊎_elim (λ e. cc e) (λ none. none) h))
      (λ u o p pos known is awake trims. subst Releases (sym (spared_is s u o p is trims inv pos known)) (λ t m b h told waits. absurd h))
      (λ u pos known gone t m b h told waits. absurd (⊎_elim (λ e. cc e) (λ none. none) h))
      (λ u k may t m b h told waits. absurd (⊎_elim (λ e. cc e) (λ more. ⊎_elim (λ e. cc (same_decision _ (unlock_of t m) e).1) (λ last. ⊎_elim (λ e. cc e) (λ none. none) last) more) h))
      (λ u k g sp. subst Releases (sym (spare_is s u k g sp inv)) (λ t m b h told waits. absurd h))
      e

pub waits_release : WaitsReleaseConsistentMutexes
waits_release l counters events is e t m b told call waits =
    let inv = start_kept l counters is in
    releases_so (run (start l counters) events) (run_kept (start l counters) events inv) (λ u. call_told u (notes (start l counters) events)) (λ u. left_by u (start l counters) None events)
    (λ u. run_learnt (start l counters) events inv u None None tt) e t m b told call waits
