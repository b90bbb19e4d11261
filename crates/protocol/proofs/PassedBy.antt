-- No wait is passed by.
use Rattle.std.proofs.Common.{◌≡◌, ◌≢◌, ⊎_elim, ℕ, ◌+◌, ◌<◌, ◌≤◌, Bool, true, false, Option, Some, None, Ok, Err, List, [], ◌∷◌, ◌++◌, refl, sym, ap, ◌∙◌, subst, arith}
use Rattle.protocol.proofs.Vocabulary.{departed, renewed, reinited, Clearing}
use Rattle.protocol.proofs.Vocabulary.{Limit, overslept}
use Rattle.protocol.proofs.Renewals.{renewed_thread}
use Rattle.protocol.proofs.Vocabulary.{CondCall, CondRow, CondLed, CondPhase, condition_of, full, met_word, counter_after, CondWhole, cond_access, cond_led, after_words}
use Rattle.protocol.proofs.Vocabulary.{from_words, CondOnward, Begun, Mutex, Condition, Fact, Operation, Decision, answer_at, sleeps_at, Layout', counter_place, Reply}
use Rattle.protocol.proofs.Vocabulary.{OK, XHELD, Phase, Whole, whole_access, whole_led, Op, OnCondition, Thread, Stage, Idle, Calling, AtCondition, Dying, Reaped, Event, caller}
use Rattle.protocol.proofs.Vocabulary.{mutex_of, begun_of, facts_of, State, After, nothing, place_met, answer_of, falls_asleep, decision, slept_in, stage_after, stage_at, reply_at}
use Rattle.protocol.proofs.Vocabulary.{led, led_at, went, begun, killed, walked, happens, run, notes, facts_among, Note, if◌then◌else◌, WaitRow}
use Rattle.posixmutex.specs.declared.point.Point.{Point}
use Rattle.condvar.specs.declared.row.CondRow.TheVariants.{Wait}
use Rattle.condvar.specs.declared.row.Decided.{Decided}
use Rattle.condvar.specs.Calls.{acts_as}
use Rattle.condvar.specs.Rows.{IsGoing}
use Rattle.condvar.specs.Programs.{row_access, resume_of, point_of}
use Rattle.exitwalk.specs.Standings as walks
use Rattle.protocol.specs.Machine.{decided_at, Led}
use Rattle.protocol.proofs.Runs.{sound, run_kept, run_layout}
use Rattle.protocol.specs.Sleepers.{IsAmong}
use Rattle.protocol.specs.PassedBy.{last_begun, call_told, BeginsNone, Counts, IsOn, IsPassedBy}
use Rattle.protocol.proofs.Puts.{put-same}
use Rattle.protocol.proofs.Kept.{IsFor, Kept}
use Rattle.protocol.proofs.Arrivals.{ended_or_not}
use Rattle.protocol.proofs.Accesses.{fits_in}
use Rattle.protocol.specs.Applies.{IsTold}
use Rattle.protocol.proofs.CallsTold.{told_on, told_run}
use Rattle.protocol.proofs.Passing.{point_noted, sleep_noted, none_walked, last_begun-append, begins_first, begins_later}
use Rattle.protocol.proofs.WalkSteps.{by_walked}
use Rattle.protocol.proofs.Vocabulary.{lapsed, Call, OnMutex}
use Rattle.protocol.proofs.Declines.{declined_state, quiet, spared_is}
use Rattle.protocol.proofs.Events.{begins_at, by_event, by_stage, IsTrimming}
use Rattle.protocol.proofs.Counters.{CondMove, By_row, Before_release, CondGoes, cond_moves, KnowsCount, KnowsAt, KnowsIn, Counted, never_falls, passes, counted_on, run_counted}
use Rattle.protocol.proofs.CondSteps.{cond_of}
use Rattle.protocol.proofs.CondAccesses.{IsBefore, cond_stepping}
use Rattle.protocol.proofs.Steps.{thread_after, went-is, cond_onto, cond_step, cond_note, its_mutex, its_cell, its_counter, cond_after, cell_at, counter_at}
use Rattle.protocol.proofs.Splits.{Split, split, facts_among-append}
use Rattle.protocol.proofs.Vocabulary.{Led}
use Rattle.protocol.proofs.Cases.{by_same}
use Rattle.protocol.proofs.Changing.{theirs}
use Rattle.protocol.proofs.Events.{HowSpared, Of_unlock, Of_wait, Sparing}
use Rattle.protocol.proofs.Sparing.{spare_is, spared_state, next_of, unwoken}

-- ---- where a wait stands

-- after its release, if it is a wait's
abbrev IsPastRow : CondRow → Type 0
IsPastRow (Wait WaitRow.LoadCell) = ⊥
IsPastRow (Wait WaitRow.LoadCounter) = ⊥
IsPastRow (Wait (WaitRow.Release seen)) = ⊥
IsPastRow r = Unit {0}

abbrev IsPastIn : CondPhase → Type 0
IsPastIn (CondPhase.AtWords r) = IsPastRow r
IsPastIn (CondPhase.Announcing seen) = ⊥
IsPastIn (CondPhase.Unlinking u seen) = ⊥
IsPastIn f = Unit {0}

abbrev IsPast : Stage → Type 0
IsPast (AtCondition c p) = IsPastIn p.phase
IsPast g = Unit {0}

-- and it saw less than the counter is, so it won't sleep
abbrev IsBehindRow : ℕ → CondRow → Type 0
IsBehindRow n (Wait WaitRow.LoadCell) = ⊥
IsBehindRow n (Wait WaitRow.LoadCounter) = ⊥
IsBehindRow n (Wait (WaitRow.Release seen)) = ⊥
IsBehindRow n (Wait (WaitRow.Wake seen)) = seen < n
IsBehindRow n (Wait (WaitRow.Sleep seen)) = seen < n
IsBehindRow n r = Unit {0}

abbrev IsBehindIn : ℕ → CondPhase → Type 0
IsBehindIn n (CondPhase.AtWords r) = IsBehindRow n r
IsBehindIn n (CondPhase.Announcing seen) = ⊥
IsBehindIn n (CondPhase.Unlinking u seen) = ⊥
IsBehindIn n f = Unit {0}

-- if it is on condition variable k
abbrev IsBehind : Layout' → (ℕ → ℕ) → ℕ → Stage → Type 0
IsBehind l words k (AtCondition c p) = condition_of c ≡ k → IsBehindIn (words (counter_place l k)) p.phase
IsBehind l words k g = Unit {0}

-- ---- row by row

-- an unlock leads after it
abbrev Unlocks : Option Decided → CondRow → Type 0
Unlocks None q = Unit {0}
Unlocks (Some d) q = d.operation ≡ Operation.Unlock → IsPastRow q

-- a count is one more, and leads to a row at which no wait is
abbrev CountsTo : ℕ → ℕ → Option Decided → CondRow → Type 0
CountsTo n n' None q = Unit {0}
CountsTo n n' (Some d) q = Counts d.operation d.reply → (n' ≡ n + 1) × ((j : ℕ) → IsBehindRow j q)

record Does_so (n n' : ℕ) (r : CondRow) (l : CondLed) : Type 0 where
  unlocks : Unlocks l.decided l.row
  past : IsPastRow r → IsPastRow l.row
  behind : IsBehindRow n r → IsBehindRow n' l.row
  counts : CountsTo n n' l.decided l.row

does_row : (t cell counter w n : ℕ) (r : CondRow) → IsGoing r → KnowsCount n r → Does_so n (counter_after t cell counter r n) r (resume_of t r (answer_at (row_access t cell counter r) (met_word r w n)))
does_row t cell counter w n r going knows = grind (arith)

-- ---- where a row leads its thread

past_there : (c : CondCall) (p : CondWhole) (q : CondRow) → IsPastRow q → IsPast (stage_at c p (after_words p q))
past_there c p q h = grind (arith)

-- a greater counter leaves it after
behind_later : (l : Layout') (words words' : ℕ → ℕ) (k : ℕ) (g : Stage) → words (counter_place l k) ≤ words' (counter_place l k) → IsBehind l words k g → IsBehind l words' k g
behind_later l words words' k g more h = grind (arith)

-- whoever is past its release and saw no more than the counter was is after once that is one more
behind_now : (l : Layout') (words words' : ℕ → ℕ) (k : ℕ) (g : Stage) → words' (counter_place l k) ≡ words (counter_place l k) + 1 → IsPast g → KnowsIn l words g → IsBehind l words' k g
behind_now l words words' k g more past knows = grind (arith)

-- ---- one event

-- an event of thread u, which leaves a
record Makes (s : State) (u : ℕ) (a : After) : Type 0 where
  points : (d : Decision) → IsAmong (Fact.Point d) (facts_of a.note) → (d.thread ≡ u) × (1 ≤ u) × (u ≤ s.layout.threads)
  unlocks : (d : Decision) → IsAmong (Fact.Point d) (facts_of a.note) → d.operation ≡ Operation.Unlock → d.reply ≡ OK → IsPast (a.state.threads u).stage
  past : BeginsNone u (facts_of a.note) → IsPast (s.threads u).stage → IsPast (a.state.threads u).stage
  behind : (k : ℕ) → 1 ≤ u → BeginsNone u (facts_of a.note) → IsBehind s.layout s.words k (s.threads u).stage → IsBehind s.layout a.state.words k (a.state.threads u).stage
  counts : (d : Decision) → IsAmong (Fact.Point d) (facts_of a.note) → Counts d.operation d.reply
      → (c : CondCall) × (p : CondWhole) × ((s.threads u).stage ≡ AtCondition c p) × (a.state.words (counter_place s.layout (condition_of c)) ≡ s.words (counter_place s.layout (condition_of c)) + 1) × ((k : ℕ) → IsBehind s.layout a.state.words k (a.state.threads u).stage)
  sleeps : (t k : ℕ) → IsAmong (Fact.Sleep t (Condition k)) (facts_of a.note) → IsBehind s.layout s.words k (s.threads t).stage → ⊥

nothing_makes : (s : State) (u : ℕ) → Makes s u (nothing s)
nothing_makes s u = grind (arith)

decided_is : (u m : ℕ) (op : Operation) (x : Reply) (d : Decision) → Some (record { thread = u; mutex = m; operation = op; reply = x }) ≡ Some d → (u ≡ d.thread) × (op ≡ d.operation) × (x ≡ d.reply)
decided_is u m op x d is = (cc, cc, cc)

-- ---- a call on a mutex, or the lock that ends a wait
past_call : (o : Op) (p : Whole) (f : Phase) → IsPast (stage_after o p f)
past_call o p f = ⊎_elim (λ ended. subst (λ (x : Phase). IsPast (stage_after o p x)) (sym ended.1) tt) (λ on. subst IsPast (sym (on o p)) tt) (ended_or_not f)

behind_call : (l : Layout') (words : ℕ → ℕ) (k : ℕ) (o : Op) (p : Whole) (f : Phase) → IsBehind l words k (stage_after o p f)
behind_call l words k o p f = ⊎_elim (λ ended. subst (λ (x : Phase). IsBehind l words k (stage_after o p x)) (sym ended.1) tt) (λ on. subst (IsBehind l words k) (sym (on o p)) tt) (ended_or_not f)

-- it counts nothing
never_counts : (l : Layout') (o : Op) (op : Operation) (x : Reply) → IsFor l o op → Counts op x → ⊥
never_counts l o op x is h = grind (arith)

module _ (s : State) (u : ℕ) (o : Op) (p : Whole) (inv : Kept s) (pos : 1 ≤ u) (known : u ≤ s.layout.threads) (is : (s.threads u).stage ≡ Calling o p) where
  abbrev m : ℕ
  m = mutex_of s.layout o

  abbrev called : Led
  called = led o p (whole_led p (answer_of s u (whole_access p)))

  abbrev a : After
  a = went s u (s.threads u).held m (Mutex m) (whole_access p) called

  stage_is : (a.state.threads u).stage ≡ called.stage
  stage_is = ap (λ (z : Thread). z.stage) (put-same s.threads u _)

  point_is : (d : Decision) → IsAmong (Fact.Point d) (facts_of a.note) → decision u m called.operation called.point ≡ Some d
  point_is d h = point_noted d u m _ _ _ _ _ h

  -- what a point is
  pointed : (x : Option Reply) (d : Decision) → decision u m p.operation x ≡ Some d → (u ≡ d.thread) × (p.operation ≡ d.operation)
  pointed None d e = absurd cc
  pointed (Some x) d e = let same = decided_is u m p.operation x d e in (same.0, same.1)

  call_makes : Makes s u a
  call_makes = record {
    points = λ d h. (sym (pointed called.point d (point_is d h)).0, pos, known);
    unlocks = λ d h op x. subst IsPast (sym stage_is) (past_call o p _);
    past = λ none h. subst IsPast (sym stage_is) (past_call o p _);
    behind = λ k first none h. subst (IsBehind s.layout a.state.words k) (sym stage_is) (behind_call s.layout a.state.words k o p _);
    counts = λ d h c. absurd (never_counts s.layout o p.operation d.reply (fits_in s u o p inv pos known is).1 (subst (λ (z : Operation). Counts z d.reply) (sym (pointed called.point d (point_is d h)).1) c));
    sleeps = λ t k h b. never (falls_asleep s u (whole_access p)) k (sleep_noted t (Condition k) u m _ _ _ _ _ h).1;
  }
    where
      never : (b : Bool) (k : ℕ) → slept_in (Mutex m) b ≡ Some (Condition k) → ⊥
      never true k e = cc
      never false k e = cc

-- ---- a call on a condition variable, before that

past_before : (seen : ℕ) (f : CondPhase) → IsBefore seen f → IsPastIn f → ⊥
past_before seen f is h = grind (arith)

module _ (s : State) (u : ℕ) (c : CondCall) (p : CondWhole) (inv : Kept s) (counted : Counted s) (pos : 1 ≤ u) (known : u ≤ s.layout.threads) (is : (s.threads u).stage ≡ AtCondition c p) where
  abbrev n : ℕ
  n = s.words (its_counter s c)

  abbrev led_on : Led
  led_on = led_at c p (cond_onto s u p)

  abbrev to_led : CondRow → CondLed
  to_led r = resume_of u r (answer_at (row_access u (cell_at s u c) (counter_at s u c) r) (met_word r (s.words (its_cell s c)) n))

  stage_then : ((cond_after s u c p).threads u).stage ≡ led_on.stage
  stage_then = ap (λ (y : Thread). y.stage) (put-same s.threads u (thread_after s u (cond_step s u c p)))

  moved : CondGoes s u c p
  moved = cond_moves s u c inv pos known p is

  knows : KnowsAt n p.phase
  knows = subst (KnowsIn s.layout s.words) is (counted.knows u pos known)

  does : (r : CondRow) → p ≡ cond_of s.layout u c (CondPhase.AtWords r) → IsGoing r → Does_so n (counter_after u (cell_at s u c) (counter_at s u c) r n) r (to_led r)
  does r from going = does_row u (cell_at s u c) (counter_at s u c) (s.words (its_cell s c)) n r going (subst (λ (y : CondWhole). KnowsAt n y.phase) from knows)

  noted_point : (d : Decision) → IsAmong (Fact.Point d) (facts_of (cond_note s u c p)) → decision u (its_mutex s c) led_on.operation led_on.point ≡ Some d
  noted_point d h = point_noted d u (its_mutex s c) _ _ _ _ _ h

  -- what was decided, where that is recorded
  told_so : (x : Option Point) (d : Decision) → decision u (its_mutex s c) (decided_at (acts_as c) x) (reply_at x) ≡ Some d → (y : Point) × (x ≡ Some y) × (u ≡ d.thread) × (y.operation ≡ d.operation) × (y.reply ≡ d.reply)
  told_so None d e = absurd cc
  told_so (Some y) d e = let same = decided_is u (its_mutex s c) y.operation y.reply d e in (y, refl, same.0, same.1, same.2)

  abbrev Told_point : Decision → Type 0
  Told_point d = (y : Point) × ((cond_onto s u p).point ≡ Some y) × (u ≡ d.thread) × (y.operation ≡ d.operation) × (y.reply ≡ d.reply)

  point_told : (d : Decision) → IsAmong (Fact.Point d) (facts_of (cond_note s u c p)) → Told_point d
  point_told d h = told_so (cond_onto s u p).point d (noted_point d h)

  -- by a row
  row_decided : (r : CondRow) (x : Option Decided) (y : Point) → point_of p.thread p.cell x ≡ Some y → (e : Decided) × (x ≡ Some e) × (e.operation ≡ y.operation) × (e.reply ≡ y.reply)
  row_decided r d y e = grind (arith)

  abbrev FromRow : CondRow → Decision → Type 0
  FromRow r d = (e : Decided) × ((to_led r).decided ≡ Some e) × (e.operation ≡ d.operation) × (e.reply ≡ d.reply)

  from_row : (r : CondRow) (d : Decision) → cond_onto s u p ≡ from_words p (to_led r) → Told_point d → FromRow r d
  from_row r d leads (y, pointed, me, op, x) =
      let e = row_decided r (to_led r).decided y (sym (ap (λ (g : CondOnward). g.point) leads) ∙ pointed) in
      (e.0, e.1, e.2 ∙ op, e.3 ∙ x)

  -- where a row leads
  stage_row : (r : CondRow) → cond_onto s u p ≡ from_words p (to_led r) → ((cond_after s u c p).threads u).stage ≡ stage_at c p (after_words p (to_led r).row)
  stage_row r leads = stage_then ∙ ap (λ (g : CondOnward). stage_at c p g.phase) leads

  unlocks_at : (d : Decision) → Told_point d → d.operation ≡ Operation.Unlock → CondMove s u c p → IsPast ((cond_after s u c p).threads u).stage
  unlocks_at d told op (Before_release seen before later none same) = absurd (cc (sym none ∙ told.1))
  unlocks_at d told op (By_row r from going of needs counts leads) =
      let e = from_row r d leads told in
      subst IsPast (sym (stage_row r leads)) (past_there c p (to_led r).row (subst (λ (x : Option Decided). Unlocks x (to_led r).row) e.1 (does r from going).unlocks (e.2 ∙ op)))

  past_at : IsPastIn p.phase → CondMove s u c p → IsPast ((cond_after s u c p).threads u).stage
  past_at h (Before_release seen before later none same) = absurd (past_before seen p.phase before h)
  past_at h (By_row r from going of needs counts leads) = subst IsPast (sym (stage_row r leads)) (past_there c p (to_led r).row ((does r from going).past (subst (λ (y : CondWhole). IsPastIn y.phase) from h)))

  behind_at : (k : ℕ) → (condition_of c ≡ k → IsBehindIn (s.words (counter_place s.layout k)) p.phase) → CondMove s u c p → IsBehind s.layout (cond_after s u c p).words k ((cond_after s u c p).threads u).stage
  behind_at k h move = grind (arith)

  abbrev CountsAt : Type 0
  CountsAt = ((cond_after s u c p).words (its_counter s c) ≡ n + 1) × ((k : ℕ) → IsBehind s.layout (cond_after s u c p).words k ((cond_after s u c p).threads u).stage)

  counts_at : (d : Decision) → Told_point d → Counts d.operation d.reply → CondMove s u c p → CountsAt
  counts_at d told h move = grind (arith)

  sleeps_on : (k : ℕ) → slept_in (Condition (condition_of c)) (sleeps_at (cond_access p) (s.words (place_met s.layout u (cond_access p)))) ≡ Some (Condition k) → (condition_of c ≡ k → IsBehindIn (s.words (counter_place s.layout k)) p.phase) → CondMove s u c p → ⊥
  sleeps_on k e h move = grind (arith)

  cond_makes : Makes s u (record { state = cond_after s u c p; note = cond_note s u c p })
  cond_makes = record {
    points = λ d h. (sym (point_told d h).2, pos, known);
    unlocks = λ d h op x. unlocks_at d (point_told d h) op moved.move;
    past = λ none h. past_at (subst IsPast is h) moved.move;
    behind = λ k first none h. behind_at k (subst (IsBehind s.layout s.words k) is h) moved.move;
    counts = λ d h counts. let made = counts_at d (point_told d h) counts moved.move in (c, p, is, made.0, made.1);
    sleeps = λ t k h b.
        let noted = sleep_noted t (Condition k) u (its_mutex s c) _ _ _ _ _ h in
        sleeps_on k noted.1 (subst (IsBehind s.layout s.words k) (ap (λ (y : ℕ). (s.threads y).stage) (sym noted.0) ∙ is) b) moved.move;
  }

-- ---- each event

module _ (s : State) (u : ℕ) (o : Op) (pos : 1 ≤ u) (known : u ≤ s.layout.threads) (idle : (s.threads u).stage ≡ Idle) where
  abbrev b : Begun
  b = begun_of s.layout o

  -- a call that begins, or is refused
  begin_makes : (full : Bool) → Makes s u (begun s u o (if full then Err XHELD else Ok (begins_at s.layout u o)))
  begin_makes full = grind (arith)

kill_makes : (s : State) (u : ℕ) → Makes s u (killed s u)
kill_makes s u = grind (arith)

leave_makes : (s : State) (u : ℕ) → Makes s u (departed s u)
leave_makes s u = grind (arith)

decline_makes : (s : State) (u : ℕ) (o : Op) (p : Whole) (is : (s.threads u).stage ≡ Calling o p) (trims : IsTrimming p) → Makes s u (record { state = declined_state s u o p is trims; note = quiet s u o p is trims })
decline_makes s u o p is trims = record {
  points = λ d h. absurd h;
  unlocks = λ d h op x. absurd h;
  past = λ none h. subst IsPast (sym stage_is) tt;
  behind = λ k first none h. subst (IsBehind s.layout s.words k) (sym stage_is) tt;
  counts = λ d h c. absurd h;
  sleeps = λ t k h b. h;
}
  where
    stage_is : ((declined_state s u o p is trims).threads u).stage ≡ Calling o (record p { phase = Clearing OK })
    stage_is = ap (λ (z : Thread). z.stage) (put-same s.threads u _)

expire_makes : (s : State) (u m : ℕ) (p : Whole) → 1 ≤ u → u ≤ s.layout.threads → (s.threads u).stage ≡ Calling (OnMutex (Call.TimedLock m)) p → Makes s u (lapsed s u (s.threads u).held (OnMutex (Call.TimedLock m)) p)
expire_makes s u m p pos known is = grind (arith)

oversleep_makes : (s : State) (u k : ℕ) (x : Limit) (p : Whole) → 1 ≤ u → u ≤ s.layout.threads → (s.threads u).stage ≡ Calling (OnCondition (CondCall.TimedWait k x)) p → Makes s u (overslept s u (s.threads u).held k p)
oversleep_makes s u k x p pos known is = grind (arith)

renew_makes : (s : State) (u : ℕ) → 1 ≤ u → u ≤ s.layout.threads → Makes s u (renewed s u)
renew_makes s u pos known = record {
  points = λ d h. absurd (no_point d h);
  unlocks = λ d h op x. absurd (no_point d h);
  past = λ none h. subst (λ (z : Thread). IsPast z.stage) (sym (renewed_thread s u pos known)) tt;
  behind = λ k first none h. subst (λ (z : Thread). IsBehind s.layout (renewed s u).state.words k z.stage) (sym (renewed_thread s u pos known)) tt;
  counts = λ d h c. absurd (no_point d h);
  sleeps = λ t k h b. ⊎_elim (λ e. cc e) (λ none. none) h;
}
  where
    no_point : (d : Decision) → IsAmong (Fact.Point d) (facts_of (renewed s u).note) → ⊥
    no_point d h = ⊎_elim (λ e. cc e) (λ none. none) h

reinit_makes : (s : State) (u m w : ℕ) → 1 ≤ u → u ≤ s.layout.threads → (s.threads u).stage ≡ Idle → Makes s u (reinited s u m w)
reinit_makes s u m w pos known idle = grind (arith)

-- a walk
module _ (s : State) (u : ℕ) (v : walks.Standing) where
  abbrev after_walk : After
  after_walk = walked s u (s.threads u).held v

  dying : (P : Stage → Type 0) → P Reaped → ((y : walks.Standing) → P (Dying y)) → P (after_walk.state.threads u).stage
  dying P reaped walks_on = subst (λ (z : Thread). P z.stage) (sym (put-same s.threads u _)) (by_walked P v _ (λ ended. reaped) (λ going. walks_on _))

  walk_makes : Makes s u after_walk
  walk_makes = record {
    points = λ d h. absurd (none_walked (Fact.Point d) u _ _ _ refl h);
    unlocks = λ d h op x. absurd (none_walked (Fact.Point d) u _ _ _ refl h);
    past = λ never h. dying IsPast tt (λ y. tt);
    behind = λ k first never h. dying (IsBehind s.layout after_walk.state.words k) tt (λ y. tt);
    counts = λ d h c. absurd (none_walked (Fact.Point d) u _ _ _ refl h);
    sleeps = λ t k h x. none_walked (Fact.Sleep t (Condition k)) u _ _ _ refl h;
  }

spare_makes : (s : State) (u m : ℕ) (g : Led) (sp : Sparing s u m g) → Makes s u (record { state = spared_state s u m g sp.how; note = unwoken u m })
spare_makes s u m g sp = record {
  points = λ d h. absurd h;
  unlocks = λ d h op x. absurd h;
  past = λ none h. subst IsPast (sym stage_is) (past_on sp.how h);
  behind = λ k first none h. subst (IsBehind s.layout s.words k) (sym stage_is) (behind_on k sp.how h);
  counts = λ d h c. absurd h;
  sleeps = λ t k h b. h;
}
  where
    stage_is : ((spared_state s u m g sp.how).threads u).stage ≡ next_of s u m g sp.how
    stage_is = ap (λ (z : Thread). z.stage) (put-same s.threads u _)

    past_on : (how : HowSpared s u m g) → IsPast (s.threads u).stage → IsPast (next_of s u m g how)
    past_on (Of_unlock o p is mutex at leads) h = tt
    past_on (Of_wait c p x is mutex at leads) h = tt

    behind_on : (k : ℕ) (how : HowSpared s u m g) → IsBehind s.layout s.words k (s.threads u).stage → IsBehind s.layout s.words k (next_of s u m g how)
    behind_on k (Of_unlock o p is mutex at leads) h = tt
    behind_on k (Of_wait c p x is mutex at leads) h = λ here. subst (IsBehindIn (s.words (counter_place s.layout k))) at (subst (IsBehind s.layout s.words k) is h here)

makes : (s : State) (e : Event) → Kept s → Counted s → Makes s (caller e) (happens s e)
makes s e inv counted =
    by_event s (λ (x : Event) (a : After). Makes s (caller x) a)
    (λ x. nothing_makes s (caller x))
    (λ t o pos known inside idle b full. begin_makes s t o pos known idle b)
    (λ t pos known.
    by_stage s t (Makes s t) (λ rests. nothing_makes s t)
    (λ o p is awake. call_makes s t o p inv pos known is)
    (λ c p is awake. subst (Makes s t)
    (sym (went-is s t (its_mutex s c) (Condition (condition_of c)) (AtCondition c p) (cond_access p) (λ a. led_at c p (cond_led p a)) (cond_stepping s t c p inv pos known is).valid))
    (cond_makes s t c p inv counted pos known is))
    (λ w is awake. walk_makes s t w))
    (λ t pos known alive. kill_makes s t)
    (λ t pos known asleep. leave_makes s t)
    (λ t m p pos known is asleep may. expire_makes s t m p pos known is)
    (λ t k x p pos known is there. oversleep_makes s t k x p pos known is)
    (λ t o p pos known is awake trims. subst (Makes s t) (sym (spared_is s t o p is trims inv pos known)) (decline_makes s t o p is trims))
    (λ t pos known gone. renew_makes s t pos known)
    (λ t m may. reinit_makes s t m _ may.first may.last may.resting)
    (λ t m g sp. subst (Makes s t) (sym (spare_is s t m g sp inv)) (spare_makes s t m g sp))
    e

-- ---- what one event is to any thread

module _ (s : State) (e : Event) (inv : Kept s) (counted : Counted s) (t : ℕ) where
  abbrev s' : State
  s' = (happens s e).state

  abbrev told_facts : List Fact
  told_facts = facts_of (happens s e).note

  abbrev made : Makes s (caller e) (happens s e)
  made = makes s e inv counted

  same_layout : s'.layout ≡ s.layout
  same_layout = (sound s e inv).same

  -- of its own event one thing, and of another's another
  either : (P : Stage → Type 0) → (caller e ≡ t → P (s'.threads t).stage) → (caller e ≢ t → P (s.threads t).stage) → P (s'.threads t).stage
  either P mine other = by_same (caller e) t mine (λ apart. subst (λ (z : Thread). P z.stage) (sym (theirs s e t apart)) (other apart))

  past_on : BeginsNone t told_facts → IsPast (s.threads t).stage → IsPast (s'.threads t).stage
  past_on none h = either IsPast (λ me. subst (λ (v : ℕ). BeginsNone v told_facts → IsPast (s.threads v).stage → IsPast (s'.threads v).stage) me made.past none h) (λ apart. h)

  behind_on : (k : ℕ) → 1 ≤ t → t ≤ s.layout.threads → BeginsNone t told_facts → IsBehind s.layout s.words k (s.threads t).stage → IsBehind s'.layout s'.words k (s'.threads t).stage
  behind_on k first last none h =
      subst (λ (l : Layout'). IsBehind l s'.words k (s'.threads t).stage) (sym same_layout)
      (either (IsBehind s.layout s'.words k)
      (λ me. subst (λ (v : ℕ). 1 ≤ v → BeginsNone v told_facts → IsBehind s.layout s.words k (s.threads v).stage → IsBehind s.layout s'.words k (s'.threads v).stage) me (made.behind k) first none h)
      (λ apart. behind_later s.layout s.words s'.words k (s.threads t).stage (never_falls s (caller e) s' inv counted (passes s e inv counted) k) h))

  -- a count on condition variable k leaves it after, if it is past its release
  counted_by : (k : ℕ) (d : Decision) (b : Option Begun) → 1 ≤ t → t ≤ s.layout.threads → IsPast (s.threads t).stage → IsAmong (Fact.Point d) told_facts → Counts d.operation d.reply → IsTold s.layout (s.threads d.thread).stage b → IsOn k b → IsBehind s'.layout s'.words k (s'.threads t).stage
  counted_by k d b first last past among counts told on =
      let done = made.counts d among counts in
      let c : CondCall = done.0 in
      let is_at : (s.threads d.thread).stage ≡ AtCondition c done.1 = ap (λ (v : ℕ). (s.threads v).stage) (made.points d among).0 ∙ done.2 in
      let here : condition_of c ≡ k = named c k b (subst (λ (g : Stage). IsTold s.layout g b) is_at told) on in
      subst (λ (l : Layout'). IsBehind l s'.words k (s'.threads t).stage) (sym same_layout)
      (either (IsBehind s.layout s'.words k)
      (λ me. subst (λ (v : ℕ). IsBehind s.layout s'.words k (s'.threads v).stage) me (done.4 k))
      (λ apart. behind_now s.layout s.words s'.words k (s.threads t).stage (subst (λ (j : ℕ). s'.words (counter_place s.layout j) ≡ s.words (counter_place s.layout j) + 1) here done.3) past (counted.knows t first last)))
    where
      named : (c : CondCall) (k : ℕ) (b : Option Begun) → b ≡ Some (begun_of s.layout (OnCondition c)) → IsOn k b → condition_of c ≡ k
      named c k b is on = grind (arith)

-- ---- runs

past_run : (s : State) (es : List Event) → Kept s → Counted s → (t : ℕ) → BeginsNone t (facts_among (notes s es)) → IsPast (s.threads t).stage → IsPast ((run s es).threads t).stage
past_run s [] inv counted t none h = h
past_run s (e ∷ es) inv counted t none h =
    past_run (happens s e).state es (sound s e inv).kept (counted_on s e inv counted) t (begins_later t (facts_of (happens s e).note) (facts_among (notes (happens s e).state es)) none)
    (past_on s e inv counted t (begins_first t (facts_of (happens s e).note) (facts_among (notes (happens s e).state es)) none) h)

behind_run : (s : State) (es : List Event) → Kept s → Counted s → (t k : ℕ) → 1 ≤ t → t ≤ s.layout.threads → BeginsNone t (facts_among (notes s es)) → IsBehind s.layout s.words k (s.threads t).stage → IsBehind (run s es).layout (run s es).words k ((run s es).threads t).stage
behind_run s [] inv counted t k first last none h = h
behind_run s (e ∷ es) inv counted t k first last none h =
    behind_run (happens s e).state es (sound s e inv).kept (counted_on s e inv counted) t k first (subst (λ (l : Layout'). t ≤ l.threads) (sym (sound s e inv).same) last) (begins_later t (facts_of (happens s e).note) (facts_among (notes (happens s e).state es)) none)
    (behind_on s e inv counted t k first last (begins_first t (facts_of (happens s e).note) (facts_among (notes (happens s e).state es)) none) h)

-- from a state in which no call was recorded
module _ (s0 : State) (events : List Event) (inv : Kept s0) (counted : Counted s0) (untold : (t : ℕ) → IsTold s0.layout (s0.threads t).stage None) (t k : ℕ) (h : IsPassedBy t k (notes s0 events)) where
  release_at : Split s0 h.before h.release (h.between ++ h.count ∷ (h.later ++ h.sleep ∷ h.rest))
  release_at = split s0 events h.before h.release (h.between ++ h.count ∷ (h.later ++ h.sleep ∷ h.rest)) h.told_so

  abbrev s1 : State
  s1 = run s0 release_at.first

  good1 : Kept s1 × Counted s1
  good1 = (run_kept s0 release_at.first inv, run_counted s0 release_at.first inv counted)

  abbrev s2 : State
  s2 = (happens s1 release_at.event).state

  good2 : Kept s2 × Counted s2
  good2 = ((sound s1 release_at.event good1.0).kept, counted_on s1 release_at.event good1.0 good1.1)

  abbrev unlock : Decision
  unlock = record { thread = t; mutex = h.mutex; operation = Operation.Unlock; reply = OK }

  released : IsAmong (Fact.Point unlock) (facts_of (happens s1 release_at.event).note)
  released = subst (λ (n : Note). IsAmong (Fact.Point unlock) (facts_of n)) (sym release_at.note) h.releases

  mine : (t ≡ caller release_at.event) × (1 ≤ caller release_at.event) × (caller release_at.event ≤ s1.layout.threads)
  mine = (makes s1 release_at.event good1.0 good1.1).points unlock released

  past2 : IsPast (s2.threads t).stage
  past2 = subst (λ (v : ℕ). IsPast (s2.threads v).stage) (sym mine.0) ((makes s1 release_at.event good1.0 good1.1).unlocks unlock released refl refl)

  count_at : Split s2 h.between h.count (h.later ++ h.sleep ∷ h.rest)
  count_at = split s2 release_at.rest h.between h.count (h.later ++ h.sleep ∷ h.rest) release_at.behind

  abbrev s3 : State
  s3 = run s2 count_at.first

  good3 : Kept s3 × Counted s3
  good3 = (run_kept s2 count_at.first good2.0, run_counted s2 count_at.first good2.0 good2.1)

  abbrev s4 : State
  s4 = (happens s3 count_at.event).state

  good4 : Kept s4 × Counted s4
  good4 = ((sound s3 count_at.event good3.0).kept, counted_on s3 count_at.event good3.0 good3.1)

  none_between : BeginsNone t (facts_among h.between)
  none_between = begins_first t (facts_among h.between) (facts_among (h.count ∷ h.later)) (subst (BeginsNone t) (facts_among-append h.between (h.count ∷ h.later)) h.same_call)

  none_later : BeginsNone t (facts_among h.later)
  none_later = begins_later t (facts_of h.count) (facts_among h.later) (begins_later t (facts_among h.between) (facts_among (h.count ∷ h.later)) (subst (BeginsNone t) (facts_among-append h.between (h.count ∷ h.later)) h.same_call))

  past3 : IsPast (s3.threads t).stage
  past3 = past_run s2 count_at.first good2.0 good2.1 t (subst (λ (ns : List Note). BeginsNone t (facts_among ns)) (sym count_at.before) none_between) past2

  abbrev v : ℕ
  v = h.point.thread

  told3 : IsTold s3.layout (s3.threads v).stage (call_told v (h.before ++ h.release ∷ h.between))
  told3 =
      subst (IsTold s3.layout (s3.threads v).stage) calls
      (told_run s2 count_at.first v _ (told_on s1 release_at.event v _ (told_run s0 release_at.first v None (untold v))))
    where
      calls : last_begun v (last_begun v (last_begun v None (facts_among (notes s0 release_at.first))) (facts_of (happens s1 release_at.event).note)) (facts_among (notes s2 count_at.first)) ≡ call_told v (h.before ++ h.release ∷ h.between)
      calls =
          (λ i. last_begun v (last_begun v (last_begun v None (facts_among (release_at.before i))) (facts_of (release_at.note i))) (facts_among (count_at.before i)))
          ∙ sym (last_begun-append v (last_begun v None (facts_among h.before)) (facts_of h.release) (facts_among h.between))
          ∙ sym (last_begun-append v None (facts_among h.before) (facts_of h.release ++ facts_among h.between))
          ∙ ap (last_begun v None) (sym (facts_among-append h.before (h.release ∷ h.between)))

  last3 : t ≤ s3.layout.threads
  last3 =
      subst (λ (l : Layout'). t ≤ l.threads) (sym (run_layout s2 count_at.first good2.0 ∙ (sound s1 release_at.event good1.0).same))
      (subst (λ (x : ℕ). x ≤ s1.layout.threads) (sym mine.0) mine.2)

  behind4 : IsBehind s4.layout s4.words k (s4.threads t).stage
  behind4 =
      counted_by s3 count_at.event good3.0 good3.1 t k h.point (call_told v (h.before ++ h.release ∷ h.between)) (subst (λ (x : ℕ). 1 ≤ x) (sym mine.0) mine.1) last3 past3
      (subst (λ (n : Note). IsAmong (Fact.Point h.point) (facts_of n)) (sym count_at.note) h.counts.0) h.counts.1 told3 h.counts.2

  last4 : t ≤ s4.layout.threads
  last4 = subst (λ (l : Layout'). t ≤ l.threads) (sym (sound s3 count_at.event good3.0).same) last3

  sleep_at : Split s4 h.later h.sleep h.rest
  sleep_at = split s4 count_at.rest h.later h.sleep h.rest count_at.behind

  pub never_passed : ⊥
  never_passed =
      (makes (run s4 sleep_at.first) sleep_at.event (run_kept s4 sleep_at.first good4.0) (run_counted s4 sleep_at.first good4.0 good4.1)).sleeps t k
      (subst (λ (n : Note). IsAmong (Fact.Sleep t (Condition k)) (facts_of n)) (sym sleep_at.note) h.sleeps)
      (behind_run s4 sleep_at.first good4.0 good4.1 t k (subst (λ (x : ℕ). 1 ≤ x) (sym mine.0) mine.1) last4 (subst (λ (ns : List Note). BeginsNone t (facts_among ns)) (sym sleep_at.before) none_later) behind4)
