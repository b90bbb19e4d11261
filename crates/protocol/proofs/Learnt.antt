-- How a call that is about to wake somebody has left its mutex.
use Rattle.std.proofs.Common.{⊎_elim, ◌≡◌, ◌≢◌, ◌⊎◌, ℕ, ◌≤◌, ◌==◌, Bool, true, false, Option, Some, None, Ok, Err, List, [], ◌∷◌, refl, sym, ap, ◌∙◌, subst, arith, eq-eqb, eqb-true}
use Rattle.protocol.proofs.Vocabulary.{departed, renewed, reinited, reinit_of}
use Rattle.protocol.proofs.Vocabulary.{Limit, overslept}
use Rattle.protocol.proofs.Renewals.{renewed_thread, renewed_other}
use Rattle.protocol.proofs.Vocabulary.{Access, Answer, answer_among, answer_at, word_among, Fact, Decision, Begun, Queue, Mutex, Condition, Layout', cell_place, place_in, place_met, fields_of, object_of, Object, Operation}
use Rattle.protocol.proofs.Vocabulary.{Reply, OK, XHELD, Phase, AtCell, Whole, whole_access, whole_led, CondCall, CondRow, CondLed, CondPhase, CondOnward, CondWhole, cond_access, cond_led, condition_of, after_words, from_words, met_word, WaitRow}
use Rattle.protocol.proofs.Vocabulary.{Op, OnMutex, OnCondition, mutex_of, begun_of, Event, caller, Stepped, Walked, Thread, Stage, Idle, Calling, AtCondition, State, After, put, run, notes, happens, nothing, begun, killed, walked}
use Rattle.protocol.proofs.Vocabulary.{facts_of, facts_among, return_facts, reap_facts, decision, led, led_at, stage_after, stage_at, reply_at, decided_at, seen, if◌then◌else◌, last_begun}
use Rattle.protocol.proofs.Vocabulary.{answer_of, death_at, woken, has_ended, Sound, Expects, Permits, Call}
use Rattle.stepprograms.specs.Accesses.{address_of}
use Rattle.posixmutex.specs.Objects.{freed}
use Rattle.mutex.specs.declared.row.Row.{Row}
use Rattle.mutex.specs.declared.phase.Phase.TheVariants.{Announcing, Linking, Unlinking, Clearing, Ended}
use Rattle.mutex.specs.Programs.{row_access}
use Rattle.mutex.specs.Wakes as mutex
use Rattle.mutex.specs.Whole.{phase_access}
use Rattle.mutex.specs.WholeLaws.{IsAt, IsAtCell, WakesNext}
use Rattle.mutex.proofs.WholeWakes as whole
use Rattle.condvar.specs.Whole as condition
use Rattle.condvar.specs.Calls.{acts_as}
use Rattle.condvar.specs.Rows.{IsGoing}
use Rattle.condvar.specs.Laws as cond_laws
use Rattle.condvar.specs.Programs as cond_rows
use Rattle.condvar.specs.Wakes as cond_wakes
use Rattle.condvar.specs.declared.row.Decided.{Decided}
use Rattle.condvar.proofs.Wakes as cond_woken
use Rattle.condvar.proofs.WholeWakes as cond_whole
use Rattle.exitwalk.specs.Standings as walks
use Rattle.exitwalk.specs.Walks as exit
use Rattle.protocol.specs.Wakes.{left_next, left_by}
use Rattle.protocol.proofs.Puts.{put-same, put-other}
use Rattle.protocol.proofs.Cases.{by_same}
use Rattle.protocol.proofs.Kept.{InPhase, Fits, FitsAt, Kept, last_thread, Needs}
use Rattle.protocol.proofs.Seeing.{cell_again}
use Rattle.protocol.proofs.Steps.{Transition, Tells, seen-inside, after, went-is, onto, call_step, cond_onto, cond_step, its_mutex, its_cell, its_counter, cell_at, counter_at, cond_after, thread_after}
use Rattle.protocol.proofs.CallSteps.{CallStep, call_stepping}
use Rattle.protocol.proofs.Accesses.{goes, fits_in}
use Rattle.protocol.proofs.Arrivals.{ended_or_not}
use Rattle.protocol.proofs.CondAccesses.{IsBefore, cond_stepping, fits_at}
use Rattle.protocol.proofs.Counters.{CondMove, By_row, Before_release, cond_moves}
use Rattle.protocol.proofs.WalkSteps.{by_walked}
use Rattle.mutex.specs.Whole.{timed_out}
use Rattle.protocol.proofs.Vocabulary.{lapsed}
use Rattle.protocol.proofs.Declines.{declined_state, quiet, spared_is}
use Rattle.protocol.proofs.Events.{begins_at, by_event, by_stage, IsTrimming}
use Rattle.protocol.proofs.Runs.{sound}
use Rattle.protocol.proofs.NoteFacts.{IsOfSleep, behind_point, of_walk}
use Rattle.protocol.proofs.Passing.{Begins_nothing, begins_stepped, begins_walked, last_begun-append}
use Rattle.protocol.proofs.Vocabulary.{Led, WaitRow}
use Rattle.protocol.proofs.Events.{HowSpared, Of_unlock, Of_wait, Sparing}
use Rattle.protocol.proofs.Sparing.{spare_is, spared_state, next_of, unwoken}
use Rattle.lockword.specs.Threads.{most_threads}

-- ---- the mutex of a point that is recorded

abbrev point_next : ℕ → State → Option Object → Option Decision → Option Object
point_next t s o None = o
point_next t s o (Some d) = if d.thread == t then Some (seen s d.mutex) else o

slept_left : (t : ℕ) (s : State) (o : Option Object) (u : ℕ) (f : Fact) (fs : List Fact) → IsOfSleep u f → left_next t s o fs ≡ o → left_next t s o (f ∷ fs) ≡ o
slept_left t s o u (Fact.Sleep v q) fs of same = same
slept_left t s o u (Fact.Wake v) fs of same = same
slept_left t s o u (Fact.Move v m) fs of same = same
slept_left t s o u f fs of same = absurd of

left_returned : (t : ℕ) (s : State) (o : Option Object) (u : ℕ) (y : Option Reply) → left_next t s o (return_facts u y) ≡ o
left_returned t s o u None = refl
left_returned t s o u (Some x) = refl

left_reaped : (t : ℕ) (s : State) (o : Option Object) (u : ℕ) (y : Bool) → left_next t s o (reap_facts u y) ≡ o
left_reaped t s o u false = refl
left_reaped t s o u true = refl

left_stepped : (t : ℕ) (s : State) (o : Option Object) (u m : ℕ) (d : Option Decision) (k : Option Queue) (ws ms : List ℕ) (y : Option Reply) → left_next t s o (facts_of (Stepped u m d k ws ms y)) ≡ point_next t s o d
left_stepped t s o u m None k ws ms y = behind_point (λ (fs : List Fact). left_next t s o fs ≡ o) u m k ws ms (return_facts u y) (λ f of fs same. slept_left t s o u f fs of same) (left_returned t s o u y)
left_stepped t s o u m (Some e) k ws ms y =
    let x = point_next t s o (Some e) in
    behind_point (λ (fs : List Fact). left_next t s x fs ≡ x) u m k ws ms (return_facts u y) (λ f of fs same. slept_left t s x u f fs of same) (left_returned t s x u y)

left_walked : (t : ℕ) (s : State) (o : Option Object) (u : ℕ) (d : Option ℕ) (ws : List ℕ) (y : Bool) → left_next t s o (facts_of (Walked u d ws y)) ≡ o
left_walked t s o u d ws y = of_walk (λ (fs : List Fact). left_next t s o fs ≡ o) u d ws y (λ m fs same. same) (λ w fs same. same) (left_reaped t s o u y)

-- of the thread itself, and of another
pointed : (t m : ℕ) (s : State) (o : Option Object) (op : Operation) (x : Option Reply) (y : Reply) → x ≡ Some y → point_next t s o (decision t m op x) ≡ Some (seen s m)
pointed t m s o op x y is = ap (λ (z : Option Reply). point_next t s o (decision t m op z)) is ∙ ap (λ (b : Bool). if b then Some (seen s m) else o) (eq-eqb t t refl)

unpointed : (t u m : ℕ) (s : State) (o : Option Object) (op : Operation) (x : Option Reply) → u ≢ t → point_next t s o (decision u m op x) ≡ o
unpointed t u m s o op x apart = grind (arith)

-- ---- what a call that is about to wake has left

-- so many as are to learn of the mutex as it was left
abbrev pub Asks : Access → Option Object → Type 0
Asks a o = (at n : ℕ) → a ≡ Access.Wake at n → (x : Object) × (o ≡ Some x) × (n ≡ mutex.to_wake x)

-- of a call on a condition variable one where it is a signal
abbrev pub AsksFor : Operation → ℕ → ℕ → Option Object → ℕ → ℕ → Type 0
AsksFor Operation.Signal cell counter o at n = (at ≡ counter) × (n ≡ 1) × (x : Object) × (o ≡ Some x)
AsksFor Operation.Wait cell counter o at n = (at ≡ cell) × (x : Object) × (o ≡ Some x) × (n ≡ mutex.to_wake x)
AsksFor op cell counter o at n = ⊥

abbrev pub AsksAt : CondCall → CondWhole → Option Object → Type 0
AsksAt c p o = (at n : ℕ) → cond_access p ≡ Access.Wake at n → AsksFor (acts_as c) p.cell p.counter o at n

-- a thread there was told to have begun this call, and its last point left the mutex so
abbrev pub Learnt : Layout' → Stage → Option Begun → Option Object → Type 0
Learnt l (Calling c p) b o = (b ≡ Some (begun_of l c)) × whole.IsQuiet p.phase × Asks (whole_access p) o
Learnt l (AtCondition c p) b o = (b ≡ Some (begun_of l (OnCondition c))) × AsksAt c p o
Learnt l g b o = Unit {0}

asked : (op : Operation) (x : Option Reply) (b : Bool) (o : Object) (n : ℕ) → mutex.Wakes op x b o n → (y : Reply) × (x ≡ Some y) × (n ≡ mutex.to_wake o)
asked op x b o n h = grind (arith)

-- ---- an access of a call on a mutex, or of the lock that ends a wait

row_at_cell : (t cell : ℕ) (r : Row) → address_of (row_access t cell r) ≡ cell
row_at_cell t cell r = grind (arith)

module _ (s : State) (t : ℕ) (c : Op) (p : Whole) (inv : Kept s) (pos : 1 ≤ t) (known : t ≤ s.layout.threads) (is : (s.threads t).stage ≡ Calling c p) where
  abbrev m : ℕ
  m = mutex_of s.layout c

  abbrev at : ℕ
  at = place_met s.layout t (whole_access p)

  abbrev a : Answer
  a = answer_among (whole_access p) (s.words at) (s.queues at)

  abbrev s' : State
  s' = after s t (call_step s t c p)

  abbrev g : CallStep s t c p
  g = goes s t c p inv pos known is

  fits : Fits s t (s.threads t).held m p
  fits = (fits_in s t c p inv pos known is).0

  -- at its cell
  at_cell : (r : Row) → p.phase ≡ AtCell r → at ≡ cell_place s.layout m
  at_cell r e =
      ap (λ (f : Phase). place_in s.layout t (address_of (phase_access p f))) e ∙ ap (place_in s.layout t) (row_at_cell p.thread p.cell r ∙ fits.cell) ∙ cell_again s.layout t inv.layout pos known m fits.inside

  met_object : (r : Row) → p.phase ≡ AtCell r → seen s m ≡ object_of (fields_of (s.words at))
  met_object r e = seen-inside s m fits.inside ∙ ap (λ (x : ℕ). object_of (fields_of (s.words x))) (sym (at_cell r e))

  left_object : (r : Row) → p.phase ≡ AtCell r → object_of (fields_of (word_among (whole_access p) (s.words at) (s.queues at))) ≡ seen s' m
  left_object r e =
      let w' = word_among (whole_access p) (s.words at) (s.queues at) in
      let there : put s.words at w' (cell_place s.layout m) ≡ w' = subst (λ (x : ℕ). put s.words at w' x ≡ w') (at_cell r e) (put-same s.words at w') in
      sym (seen-inside s' m fits.inside ∙ ap (λ (x : ℕ). object_of (fields_of x)) there)

  -- where its next access is a wake, this was its point, and left the mutex as that wake asks
  asks_next : (k n : ℕ) → whole.IsQuiet p.phase → WakesNext p a k n → (y : Reply) × ((onto s t p).point ≡ Some y) × (n ≡ mutex.to_wake (seen s' m))
  asks_next k n quiet wakes = go p.phase refl
    where
      elsewhere : ¬ IsAtCell p.phase → (y : Reply) × ((onto s t p).point ≡ Some y) × (n ≡ mutex.to_wake (seen s' m))
      elsewhere out = absurd (whole.none_follows p p.phase a k n quiet out wakes)

      go : (f : Phase) → p.phase ≡ f → (y : Reply) × ((onto s t p).point ≡ Some y) × (n ≡ mutex.to_wake (seen s' m))
      go (AtCell r) e =
          let stands = subst (λ (f : Phase). InPhase t (s.threads t).held p f (seen s m)) e fits.stands in
          let first : 1 ≤ p.thread = subst (λ (x : ℕ). 1 ≤ x) (sym fits.mine) pos in
          let most : p.thread ≤ most_threads = subst (λ (x : ℕ). x ≤ most_threads) (sym fits.mine) (last_thread s t inv known) in
          let is_at : IsAt p p.phase = subst (IsAt p) (sym e) (stands.knows, stands.of) in
          let expects = subst (λ (x : ℕ). Expects x r (object_of (fields_of (s.words at)))) (sym fits.mine) (subst (Expects t r) (met_object r e) stands.expects) in
          let so = whole.whole_wakes.at_the_cell p r (s.words at) k n (s.queues at) (first, is_at) most e stands.going (subst Sound (met_object r e) (inv.sound m)) expects in
          let told = asked p.operation (onto s t p).point _ _ n (so.0 wakes).1 in
          (told.0, told.1, told.2 ∙ ap mutex.to_wake (left_object r e))
      go (Announcing r) e = elsewhere (λ out. subst IsAtCell e out)
      go (Linking l x) e = elsewhere (λ out. subst IsAtCell e out)
      go (Unlinking u d) e = elsewhere (λ out. subst IsAtCell e out)
      go (Clearing x) e = elsewhere (λ out. subst IsAtCell e out)
      go (Ended x) e = elsewhere (λ out. subst IsAtCell e out)

  -- so it has learnt of it where it goes on
  call_learns : (b : Option Begun) (o : Option Object) → Learnt s.layout (Calling c p) b o → Learnt s.layout (stage_after c p (onto s t p).phase) b (point_next t s' o (decision t m p.operation (onto s t p).point))
  call_learns b o (told, quiet, asks) =
      ⊎_elim (λ ended. subst (λ (f : Phase). Learnt s.layout (stage_after c p f) b (point_next t s' o (decision t m p.operation (onto s t p).point))) (sym ended.1) tt)
      (λ on. subst (λ (z : Stage). Learnt s.layout z b (point_next t s' o (decision t m p.operation (onto s t p).point))) (sym (on c p)) (
        told,
        whole.stays_quiet p p.phase a,
        (λ k n wakes. let next = asks_next k n quiet wakes in (seen s' m, pointed t m s' o p.operation (onto s t p).point next.0 next.1, next.2)),
      ))
      (ended_or_not (onto s t p).phase)

-- ---- an access of a call on a condition variable, before that

-- before its release a wait wakes nobody
before_awake : (p : CondWhole) (seen : ℕ) (f : CondPhase) (at n : ℕ) → IsBefore seen f → condition.phase_access p f ≢ Access.Wake at n
before_awake p seen f at n is = grind (arith)

-- after which row it is to wake
wakes_behind : (t cell counter w n : ℕ) (r : CondRow) (x : Option Decided) → (cond_rows.resume_of t r (answer_at (cond_rows.row_access t cell counter r) (met_word r w n))).decided ≡ x → IsGoing r
    → (b : Bool) (at k : ℕ) → cond_wakes.Wakes cell counter x b at k
    → ((cond_laws.row_operation r ≡ Operation.Signal) × (at ≡ counter) × (k ≡ 1) × ((d : Decided) × (x ≡ Some d))) ⊎ ((cond_laws.row_operation r ≡ Operation.Wait) × (at ≡ cell) × (k ≡ 1) × ((d : Decided) × (x ≡ Some d) × (d.operation ≡ Operation.Unlock) × (d.reply ≡ OK)) × ((seen : ℕ) × (r ≡ CondRow.Wait (WaitRow.Release seen))))
wakes_behind t cell counter w n r x is going b at k h = grind (arith)

stage_before : (c : CondCall) (p : CondWhole) (seen : ℕ) (f : CondPhase) → IsBefore seen f → stage_at c p f ≡ AtCondition c (record p { phase = f })
stage_before c p seen f is = grind (arith)

-- a release of a consistent mutex leaves it usable
one_to_wake : (t : ℕ) (o n : Object) → Sound o → o.owner ≡ Some t → n ≡ freed o → o.inconsistent ≡ false → 1 ≡ mutex.to_wake n
one_to_wake t o n sound own is consistent = go o.unusable refl
  where
    go : (b : Bool) → o.unusable ≡ b → 1 ≡ mutex.to_wake n
    go true lost = let none = sound lost in absurd (cc (own, none))
    go false fine = grind (arith)

module _ (s : State) (t : ℕ) (c : CondCall) (p : CondWhole) (inv : Kept s) (pos : 1 ≤ t) (known : t ≤ s.layout.threads) (is : (s.threads t).stage ≡ AtCondition c p) where
  abbrev its : ℕ
  its = its_mutex s c

  abbrev then_state : State
  then_state = cond_after s t c p

  abbrev onto_it : CondOnward
  onto_it = cond_onto s t p

  abbrev row_led : CondRow → CondLed
  row_led r = cond_rows.resume_of t r (answer_at (cond_rows.row_access t (cell_at s t c) (counter_at s t c) r) (met_word r (s.words (its_cell s c)) (s.words (its_counter s c))))

  fits_here : FitsAt s t (s.threads t).held c p
  fits_here = fits_at s t c p inv pos known is

  abbrev left_then : Option Object → Option Object
  left_then o = point_next t then_state o (decision t its (decided_at (acts_as c) onto_it.point) (reply_at onto_it.point))

  -- where a row leads
  row_learns : (b : Option Begun) (x : Option Object) (q : CondRow) → b ≡ Some (begun_of s.layout (OnCondition c))
      → ((at n : ℕ) → cond_rows.row_access p.thread p.cell p.counter q ≡ Access.Wake at n → AsksFor (acts_as c) p.cell p.counter x at n) → Learnt s.layout (stage_at c p (after_words p q)) b x
  row_learns b x (CondRow.Wait (WaitRow.Release seen)) told asks = (told, λ at n e. absurd (cc e))
  row_learns b x (CondRow.Wait WaitRow.LoadCell) told asks = (told, asks)
  row_learns b x (CondRow.Wait WaitRow.LoadCounter) told asks = (told, asks)
  row_learns b x (CondRow.Wait (WaitRow.Wake seen)) told asks = (told, asks)
  row_learns b x (CondRow.Wait (WaitRow.Sleep seen)) told asks = (told, asks)
  row_learns b x (CondRow.Signal r) told asks = (told, asks)
  row_learns b x (CondRow.Broadcast r) told asks = (told, asks)
  row_learns b x CondRow.Awake told asks = (told, tt, λ at n e. absurd (cc e))
  row_learns b x (CondRow.Ended y) told asks = tt

  -- a release that leads to a wake was of a consistent mutex
  abbrev Unlocked : Option Decided → Type 0
  Unlocked x = (d : Decided) × (x ≡ Some d) × (d.operation ≡ Operation.Unlock) × (d.reply ≡ OK)

  released : (r : CondRow) → onto_it ≡ from_words p (row_led r) → Unlocked (row_led r).decided → (k : ℕ) → r ≡ CondRow.Wait (WaitRow.Release k) → Needs t r (fields_of (s.words (its_cell s c))) → (o : Option Object)
      → (left_then o ≡ Some (seen then_state its)) × (1 ≡ mutex.to_wake (seen then_state its))
  released r leads (d, is_d, unlocks, ok) k row_is needs o =
      let point : reply_at onto_it.point ≡ Some OK = ap (λ (z : CondOnward). reply_at z.point) leads ∙ ap (λ (x : Option Decided). reply_at (cond_rows.point_of p.thread p.cell x)) is_d ∙ ap Some ok in
      let op : decided_at (acts_as c) onto_it.point ≡ Operation.Unlock = ap (λ (z : CondOnward). decided_at (acts_as c) z.point) leads ∙ ap (λ (x : Option Decided). decided_at (acts_as c) (cond_rows.point_of p.thread p.cell x)) is_d ∙ unlocks in
      let permits : Permits (seen s its) t Operation.Unlock OK (seen then_state its) =
      subst (λ (x : Option Reply). Tells t (seen s its) Operation.Unlock x (seen then_state its)) point (subst (λ (z : Operation). Tells t (seen s its) z (reply_at onto_it.point) (seen then_state its)) op (cond_stepping s t c p inv pos known is).tells) in
      let needs_so = subst (λ (z : CondRow). Needs t z (fields_of (s.words (its_cell s c)))) row_is needs in
      let consistent : (seen s its).inconsistent ≡ false = ap (λ (z : Object). z.inconsistent) (seen-inside s its fits_here.inside) ∙ needs_so.1 in
      (pointed t its then_state o (decided_at (acts_as c) onto_it.point) (reply_at onto_it.point) OK point, one_to_wake t (seen s its) (seen then_state its) (inv.sound its) permits.0 permits.1 consistent)

  -- whatever a row decides is a point of the mutex
  pointed_by : (r : CondRow) → onto_it ≡ from_words p (row_led r) → (d : Decided) → (row_led r).decided ≡ Some d → (o : Option Object) → left_then o ≡ Some (seen then_state its)
  pointed_by r leads d is_d o =
      pointed t its then_state o (decided_at (acts_as c) onto_it.point) (reply_at onto_it.point) d.reply (ap (λ (z : CondOnward). reply_at z.point) leads ∙ ap (λ (x : Option Decided). reply_at (cond_rows.point_of p.thread p.cell x)) is_d)

  asks_behind : (r : CondRow) → IsGoing r → cond_laws.row_operation r ≡ acts_as c → Needs t r (fields_of (s.words (its_cell s c))) → onto_it ≡ from_words p (row_led r) → (o : Option Object)
      → (at n : ℕ) → cond_rows.row_access p.thread p.cell p.counter (row_led r).row ≡ Access.Wake at n → AsksFor (acts_as c) p.cell p.counter (left_then o) at n
  asks_behind r going of needs leads o at n wakes =
      let there : cond_rows.row_access t (cell_at s t c) (counter_at s t c) (row_led r).row ≡ Access.Wake at n = (λ i. cond_rows.row_access (sym fits_here.mine i) (sym fits_here.cell i) (sym fits_here.counter i) (row_led r).row) ∙ wakes in
      let so = (cond_woken.woken_right t (cell_at s t c) (counter_at s t c) at n r _ going).0 there in
      ⊎_elim
      (λ signals.
      let decided = signals.3 in
      subst (λ (op : Operation). AsksFor op p.cell p.counter (left_then o) at n) (sym signals.0 ∙ of) (signals.1 ∙ sym fits_here.counter, signals.2, seen then_state its, pointed_by r leads decided.0 decided.1 o))
      (λ waits.
      let row_is = waits.4 in
      let left = released r leads waits.3 row_is.0 row_is.1 needs o in
      subst (λ (op : Operation). AsksFor op p.cell p.counter (left_then o) at n) (sym waits.0 ∙ of) (waits.1 ∙ sym fits_here.cell, seen then_state its, left.0, waits.2 ∙ left.1))
      (wakes_behind t (cell_at s t c) (counter_at s t c) _ _ r (row_led r).decided refl going _ at n so)

  cond_learns : (b : Option Begun) (o : Option Object) → Learnt s.layout (AtCondition c p) b o → Learnt s.layout (stage_at c p onto_it.phase) b (left_then o)
  cond_learns b o (told, asks) = go (cond_moves s t c inv pos known p is).move
    where
      go : CondMove s t c p → Learnt s.layout (stage_at c p onto_it.phase) b (left_then o)
      go (Before_release seen before later none same) =
          subst (λ (z : Stage). Learnt s.layout z b (left_then o)) (sym (stage_before c p seen onto_it.phase later)) (told, λ at n e. absurd (before_awake (record p { phase = onto_it.phase }) seen onto_it.phase at n later e))
      go (By_row r from going of needs counts leads) =
          subst (λ (z : CondOnward). Learnt s.layout (stage_at c p z.phase) b (left_then o)) (sym leads) (row_learns b (left_then o) (row_led r).row told (asks_behind r going of needs leads o))

-- ---- each event

-- what an event of thread u, which leaves e, tells of calls that are about to wake
record Teaches (s : State) (u : ℕ) (e : After) : Type 0 where
  layout : e.state.layout ≡ s.layout
  own : (b : Option Begun) (o : Option Object) → Learnt s.layout (s.threads u).stage b o → Learnt s.layout (e.state.threads u).stage (last_begun u b (facts_of e.note)) (left_next u e.state o (facts_of e.note))
  theirs : (t : ℕ) → u ≢ t → (e.state.threads t).stage ≡ (s.threads t).stage
  others : (t : ℕ) (b : Option Begun) (o : Option Object) → u ≢ t → (last_begun t b (facts_of e.note) ≡ b) × (left_next t e.state o (facts_of e.note) ≡ o)

nothing_teaches : (s : State) (u : ℕ) → Teaches s u (nothing s)
nothing_teaches s u = record { layout = refl; own = λ b o h. h; theirs = λ t apart. refl; others = λ t b o apart. (refl, refl) }

-- an access of a call
step_teaches : (s : State) (u : ℕ) (v : Transition) (k : Option Queue) (ws ms : List ℕ) (y : Option Reply)
    → ((b : Option Begun) (o : Option Object) → Learnt s.layout (s.threads u).stage b o → Learnt s.layout v.next b (point_next u (after s u v) o (decision u v.mutex v.operation v.point)))
    → Teaches s u (record { state = after s u v; note = Stepped u v.mutex (decision u v.mutex v.operation v.point) k ws ms y })
step_teaches s u v k ws ms y learns = record {
  layout = refl;
  own = λ b o h.
      subst (λ (x : Option Begun). Learnt s.layout ((after s u v).threads u).stage x (left_next u (after s u v) o facts)) (sym (none_begins.same u b))
      (subst (Learnt s.layout ((after s u v).threads u).stage b) (sym (left_stepped u (after s u v) o u v.mutex d k ws ms y))
      (subst (λ (z : Thread). Learnt s.layout z.stage b (point_next u (after s u v) o d)) (sym (put-same s.threads u (thread_after s u v))) (learns b o h)));
  theirs = λ t apart. ap (λ (z : Thread). z.stage) (put-other s.threads u (thread_after s u v) t (λ e. apart (sym e)));
  others = λ t b o apart. (none_begins.same t b, left_stepped t (after s u v) o u v.mutex d k ws ms y ∙ unpointed t u v.mutex (after s u v) o v.operation v.point apart);
}
  where
    d : Option Decision
    d = decision u v.mutex v.operation v.point

    facts : List Fact
    facts = facts_of (Stepped u v.mutex d k ws ms y)

    none_begins : Begins_nothing facts
    none_begins = begins_stepped u v.mutex d k ws ms y

-- a walk
walk_teaches : (s : State) (u : ℕ) (w : walks.Standing) → Teaches s u (walked s u (s.threads u).held w)
walk_teaches s u w = record {
  layout = refl;
  own = λ b o h. subst (λ (z : Thread). Learnt s.layout z.stage (last_begun u b facts) (left_next u x.state o facts)) (sym (put-same s.threads u _)) (by_walked (λ (g : Stage). Learnt s.layout g (last_begun u b facts) (left_next u x.state o facts)) w _ (λ ended. tt) (λ going. tt));
  theirs = λ t apart. ap (λ (z : Thread). z.stage) (put-other s.threads u _ t (λ e. apart (sym e)));
  others = λ t b o apart. (none_begins.same t b, left_walked t x.state o u (death_at s.layout u (exit.point_of w.thread w.row answer)) (woken s u (exit.access_of w)) (has_ended (exit.row_after w.thread w.head w.row answer)));
}
  where
    x : After
    x = walked s u (s.threads u).held w

    facts : List Fact
    facts = facts_of x.note

    none_begins : Begins_nothing facts
    none_begins = begins_walked u _ _ _

    answer : Answer
    answer = answer_of s u (exit.access_of w)

kill_teaches : (s : State) (u : ℕ) → Teaches s u (killed s u)
kill_teaches s u = record {
  layout = refl;
  own = λ b o h. subst (λ (z : Thread). Learnt s.layout z.stage b o) (sym (put-same s.threads u _)) tt;
  theirs = λ t apart. ap (λ (z : Thread). z.stage) (put-other s.threads u _ t (λ e. apart (sym e)));
  others = λ t b o apart. (refl, refl);
}

leave_teaches : (s : State) (u : ℕ) → Teaches s u (departed s u)
leave_teaches s u = record { layout = refl; own = λ b o h. h; theirs = λ t apart. refl; others = λ t b o apart. (refl, refl) }

-- after a trim no wake comes next
decline_teaches : (s : State) (u : ℕ) (c : Op) (p : Whole) (is : (s.threads u).stage ≡ Calling c p) (trims : IsTrimming p) → Teaches s u (record { state = declined_state s u c p is trims; note = quiet s u c p is trims })
decline_teaches s u c p is trims = record {
  layout = refl;
  own = λ b o h. subst (λ (z : Thread). Learnt s.layout z.stage b o) (sym (put-same s.threads u _)) (learns b o (subst (λ (g : Stage). Learnt s.layout g b o) is h));
  theirs = λ t apart. ap (λ (z : Thread). z.stage) (put-other s.threads u _ t (λ e. apart (sym e)));
  others = λ t b o apart. (refl, refl);
}
  where
    learns : (b : Option Begun) (o : Option Object) → Learnt s.layout (Calling c p) b o → Learnt s.layout (Calling c (record p { phase = Clearing OK })) b o
    learns b o h = (h.0, tt, λ at n e. absurd cc)

-- nor after a wake that is spared
spare_teaches : (s : State) (u m : ℕ) (g : Led) (sp : Sparing s u m g) → Teaches s u (record { state = spared_state s u m g sp.how; note = unwoken u m })
spare_teaches s u m g sp = record {
  layout = refl;
  own = λ b o h. subst (λ (z : Thread). Learnt s.layout z.stage b o) (sym (put-same s.threads u _)) (learns sp.how b o h);
  theirs = λ t apart. ap (λ (z : Thread). z.stage) (put-other s.threads u _ t (λ e. apart (sym e)));
  others = λ t b o apart. (refl, refl);
}
  where
    unlocks : (c : Op) (p : Whole) (b : Option Begun) (o : Option Object) → Learnt s.layout (Calling c p) b o → Learnt s.layout (Calling c (record p { phase = Clearing OK })) b o
    unlocks c p b o h = (h.0, tt, λ at n e. absurd cc)

    waits : (c : CondCall) (p : CondWhole) (x : ℕ) (b : Option Begun) (o : Option Object) → Learnt s.layout (AtCondition c p) b o → Learnt s.layout (AtCondition c (record p { phase = CondPhase.AtWords (CondRow.Wait (WaitRow.Sleep x)) })) b o
    waits c p x b o h = (h.0, λ at n e. absurd cc)

    learns : (how : HowSpared s u m g) (b : Option Begun) (o : Option Object) → Learnt s.layout (s.threads u).stage b o → Learnt s.layout (next_of s u m g how) b o
    learns (Of_unlock c p is mutex at leads) b o h = unlocks c p b o (subst (λ (z : Stage). Learnt s.layout z b o) is h)
    learns (Of_wait c p x is mutex at leads) b o h = waits c p x b o (subst (λ (z : Stage). Learnt s.layout z b o) is h)

-- a thread that lives again is in no call
renew_teaches : (s : State) (u : ℕ) → 1 ≤ u → u ≤ s.layout.threads → Teaches s u (renewed s u)
renew_teaches s u pos known = record {
  layout = refl;
  own = λ b o h. subst (λ (z : Thread). Learnt s.layout z.stage b o) (sym (renewed_thread s u pos known)) tt;
  theirs = λ t apart. ap (λ (z : Thread). z.stage) (renewed_other s u pos known t (λ e. apart (sym e)));
  others = λ t b o apart. (refl, refl);
}

of_another : {A : Type 0} (u t : ℕ) (x y : A) → u ≢ t → (if u == t then x else y) ≡ y
of_another {A} u t x y apart = go (u == t) refl
  where
    go : (b : Bool) → (u == t) ≡ b → (if b then x else y) ≡ y
    go true e = absurd (apart (eqb-true u t e))
    go false e = refl

-- nor is one that reinitialised a mutex
reinit_teaches : (s : State) (u m w : ℕ) → (s.threads u).stage ≡ Idle → Teaches s u (reinited s u m w)
reinit_teaches s u m w idle = record {
  layout = refl;
  own = λ b o h. subst (λ (g : Stage). Learnt s.layout g (last_begun u b (facts_of (reinited s u m w).note)) (left_next u (reinited s u m w).state o (facts_of (reinited s u m w).note))) (sym idle) tt;
  theirs = λ t apart. refl;
  others = λ t b o apart. (of_another u t (Some (reinit_of m)) b apart, of_another u t (Some (seen (reinited s u m w).state m)) (if u == t then None else o) apart ∙ of_another u t None o apart);
}

-- after a time limit that came
expire_teaches : (s : State) (u m : ℕ) (p : Whole) → (s.threads u).stage ≡ Calling (OnMutex (Call.TimedLock m)) p → Teaches s u (lapsed s u (s.threads u).held (OnMutex (Call.TimedLock m)) p)
expire_teaches s u m p is = record {
  layout = refl;
  own = λ b o h. subst (λ (z : Thread). Learnt s.layout z.stage b (if u == u then Some (seen s m) else o)) (sym (put-same s.threads u _)) (learns b o (if u == u then Some (seen s m) else o) (subst (λ (g : Stage). Learnt s.layout g b o) is h));
  theirs = λ t apart. ap (λ (z : Thread). z.stage) (put-other s.threads u _ t (λ e. apart (sym e)));
  others = λ t b o apart. (refl, of_another u t (Some (seen s m)) o apart);
}
  where
    learns : (b : Option Begun) (o o' : Option Object) → Learnt s.layout (Calling (OnMutex (Call.TimedLock m)) p) b o → Learnt s.layout (Calling (OnMutex (Call.TimedLock m)) (timed_out p)) b o'
    learns b o o' h = (h.0, tt, λ at n e. absurd cc)

-- a wait's tells nothing of its mutex
oversleep_teaches : (s : State) (u k : ℕ) (x : Limit) (p : Whole) → (s.threads u).stage ≡ Calling (OnCondition (CondCall.TimedWait k x)) p → Teaches s u (overslept s u (s.threads u).held k p)
oversleep_teaches s u k x p is = record {
  layout = refl;
  own = λ b o h. subst (λ (z : Thread). Learnt s.layout z.stage b o) (sym (put-same s.threads u _)) (subst (λ (g : Stage). Learnt s.layout g b o) is h);
  theirs = λ t apart. ap (λ (z : Thread). z.stage) (put-other s.threads u _ t (λ e. apart (sym e)));
  others = λ t b o apart. (refl, refl);
}

-- a call that begins
first_learns : (l : Layout') (t : ℕ) (c : Op) (o : Option Object) → Learnt l (begins_at l t c) (Some (begun_of l c)) o
first_learns l t (OnMutex (Call.Lock m)) o = (refl, tt, λ k n e. absurd (whole.whole_wakes.first l t (Call.Lock m) k n e))
first_learns l t (OnMutex (Call.TimedLock m)) o = (refl, tt, λ k n e. absurd (whole.whole_wakes.first l t (Call.TimedLock m) k n e))
first_learns l t (OnMutex (Call.TryLock m)) o = (refl, tt, λ k n e. absurd (whole.whole_wakes.first l t (Call.TryLock m) k n e))
first_learns l t (OnMutex (Call.Unlock m)) o = (refl, tt, λ k n e. absurd (whole.whole_wakes.first l t (Call.Unlock m) k n e))
first_learns l t (OnMutex (Call.Consistent m)) o = (refl, tt, λ k n e. absurd (whole.whole_wakes.first l t (Call.Consistent m) k n e))
first_learns l t (OnCondition c) o = (refl, λ k n e. absurd (cond_whole.whole_wakes.first l t c k n e))

begin_teaches : (s : State) (u : ℕ) (c : Op) → (s.threads u).stage ≡ Idle → (full : Bool) → Teaches s u (begun s u c (if full then Err XHELD else Ok (begins_at s.layout u c)))
begin_teaches s u c idle true = record {
  layout = refl;
  own = λ b o h. subst (λ (g : Stage). Learnt s.layout g (last_begun u b (facts_of (begun s u c (Err XHELD)).note)) (left_next u s o (facts_of (begun s u c (Err XHELD)).note))) (sym idle) tt;
  theirs = λ t apart. refl;
  others = λ t b o apart. (of_another u t (Some (begun_of s.layout c)) b apart, of_another u t (Some (seen s (mutex_of s.layout c))) (if u == t then None else o) apart ∙ of_another u t None o apart);
}
begin_teaches s u c idle false = record {
  layout = refl;
  own = λ b o h.
      subst (λ (z : Thread). Learnt s.layout z.stage (if u == u then Some (begun_of s.layout c) else b) (if u == u then None else o)) (sym (put-same s.threads u _))
      (subst (λ (x : Bool). Learnt s.layout (begins_at s.layout u c) (if x then Some (begun_of s.layout c) else b) (if x then None else o)) (sym (eq-eqb u u refl)) (first_learns s.layout u c None));
  theirs = λ t apart. ap (λ (z : Thread). z.stage) (put-other s.threads u _ t (λ e. apart (sym e)));
  others = λ t b o apart. (of_another u t (Some (begun_of s.layout c)) b apart, of_another u t None o apart);
}

teaches : (s : State) (e : Event) → Kept s → Teaches s (caller e) (happens s e)
teaches s e inv =
    by_event s (λ (x : Event) (a : After). Teaches s (caller x) a)
    (λ x. nothing_teaches s (caller x))
    (λ t c pos known inside idle b full. begin_teaches s t c idle b)
    (λ t pos known.
    by_stage s t (Teaches s t) (λ rests. nothing_teaches s t)
    (λ c p is awake. subst (Teaches s t)
    (sym (went-is s t (mutex_of s.layout c) (Mutex (mutex_of s.layout c)) (Calling c p) (whole_access p) (λ a. led c p (whole_led p a)) (call_stepping s t c p (goes s t c p inv pos known is) (fits_in s t c p inv pos known is).0).valid))
    (step_teaches s t (call_step s t c p) _ _ _ _ (λ b o h. call_learns s t c p inv pos known is b o (subst (λ (g : Stage). Learnt s.layout g b o) is h))))
    (λ c p is awake. subst (Teaches s t)
    (sym (went-is s t (its_mutex s c) (Condition (condition_of c)) (AtCondition c p) (cond_access p) (λ a. led_at c p (cond_led p a)) (cond_stepping s t c p inv pos known is).valid))
    (step_teaches s t (cond_step s t c p) _ _ _ _ (λ b o h. cond_learns s t c p inv pos known is b o (subst (λ (g : Stage). Learnt s.layout g b o) is h))))
    (λ w is awake. walk_teaches s t w))
    (λ t pos known alive. kill_teaches s t)
    (λ t pos known asleep. leave_teaches s t)
    (λ t m p pos known is asleep may. expire_teaches s t m p is)
    (λ t k x p pos known is there. oversleep_teaches s t k x p is)
    (λ t o p pos known is awake trims. subst (Teaches s t) (sym (spared_is s t o p is trims inv pos known)) (decline_teaches s t o p is trims))
    (λ t pos known gone. renew_teaches s t pos known)
    (λ t m may. reinit_teaches s t m _ may.resting)
    (λ t m g sp. subst (Teaches s t) (sym (spare_is s t m g sp inv)) (spare_teaches s t m g sp))
    e

learnt_on : (s : State) (e : Event) → Kept s → (t : ℕ) (b : Option Begun) (o : Option Object) → Learnt s.layout (s.threads t).stage b o
    → Learnt (happens s e).state.layout ((happens s e).state.threads t).stage (last_begun t b (facts_of (happens s e).note)) (left_next t (happens s e).state o (facts_of (happens s e).note))
learnt_on s e inv t b o h =
    subst (λ (l : Layout'). Learnt l ((happens s e).state.threads t).stage (last_begun t b facts) (left_next t (happens s e).state o facts)) (sym x.layout)
    (by_same (caller e) t
    (λ me. subst (λ (v : ℕ). Learnt s.layout ((happens s e).state.threads v).stage (last_begun v b facts) (left_next v (happens s e).state o facts)) me (x.own b o (subst (λ (v : ℕ). Learnt s.layout (s.threads v).stage b o) (sym me) h)))
    (λ apart.
    let same = x.others t b o apart in
    subst (λ (y : Option Begun). Learnt s.layout ((happens s e).state.threads t).stage y (left_next t (happens s e).state o facts)) (sym same.0)
    (subst (Learnt s.layout ((happens s e).state.threads t).stage b) (sym same.1) (subst (λ (g : Stage). Learnt s.layout g b o) (sym (x.theirs t apart)) h))))
  where
    x : Teaches s (caller e) (happens s e)
    x = teaches s e inv

    facts : List Fact
    facts = facts_of (happens s e).note

pub run_learnt : (s : State) (es : List Event) → Kept s → (t : ℕ) (b : Option Begun) (o : Option Object) → Learnt s.layout (s.threads t).stage b o
    → Learnt (run s es).layout ((run s es).threads t).stage (last_begun t b (facts_among (notes s es))) (left_by t s o es)
run_learnt s [] inv t b o h = h
run_learnt s (e ∷ es) inv t b o h =
    let s' = (happens s e).state in
    let facts = facts_of (happens s e).note in
    subst (λ (x : Option Begun). Learnt (run s' es).layout ((run s' es).threads t).stage x (left_by t s' (left_next t s' o facts) es)) (sym (last_begun-append t b facts (facts_among (notes s' es))))
    (run_learnt s' es (sound s e inv).kept t (last_begun t b facts) (left_next t s' o facts) (learnt_on s e inv t b o h))
