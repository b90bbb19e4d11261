-- Counters of condition variables: what changes them, and what calls know of them.
use Rattle.std.proofs.Common.{◌≡◌, ◌≢◌, ◌⊎◌, ⊎_elim, inl, inr, ℕ, ◌+◌, ◌%◌, ◌<◌, ◌≤◌, Bool, true, false, Option, Some, None, Ok, Err, List, [], ◌∷◌, length, refl, sym, ap, ◌∙◌, subst, arith}
use Rattle.protocol.proofs.Vocabulary.{CondCall, CondRow, Signal, Broadcast, CondPhase, CondOnward, condition_of, full, met_word, counter_after, CondWhole, cond_access, cond_led}
use Rattle.protocol.proofs.Vocabulary.{after_words, from_words, Mutex, Condition, answer_at, Layout', cell_place, counter_place, fields_of, XHELD, Phase}
use Rattle.protocol.proofs.Vocabulary.{Whole, whole_access, whole_led, Op, OnMutex, OnCondition, Event, Thread, Stage, Calling, AtCondition, Dying, mutex_of, State, After, start}
use Rattle.protocol.proofs.Vocabulary.{place_met, stage_after, stage_at, led, led_at, reply_at, begun, walked, happens, run, caller, if◌then◌else◌, slice_index}
use Rattle.protocol.proofs.Vocabulary.{WaitRow, SignalRow, BroadcastRow, first_word, ArePresets}
use Rattle.exitwalk.specs.Standings as walks
use Rattle.condvar.specs.declared.row.CondRow.TheVariants.{Wait}
use Rattle.condvar.specs.Calls.{acts_as}
use Rattle.condvar.specs.Rows.{IsGoing}
use Rattle.condvar.specs.Laws.{is_at_counter, row_operation}
use Rattle.condvar.specs.Programs.{row_access, resume_of}
use Rattle.protocol.proofs.Puts.{put-same, put-other}
use Rattle.protocol.proofs.Kept.{Needs, FitsAt, Kept}
use Rattle.protocol.proofs.Places.{counter_is_no_cell}
use Rattle.protocol.proofs.Steps.{thread_after, met_no_move, after, went-is, onto, call_step, cond_onto, cond_step, its_mutex, its_cell, its_counter, cond_after}
use Rattle.protocol.proofs.Steps.{cell_at, counter_at}
use Rattle.protocol.proofs.Stepping.{Stepping}
use Rattle.protocol.proofs.Arrivals.{ended_or_not}
use Rattle.protocol.proofs.Frames.{knows_at}
use Rattle.protocol.proofs.CallSteps.{call_stepping}
use Rattle.protocol.proofs.Accesses as accesses
use Rattle.protocol.proofs.WalkSteps.{walk_of, by_walked, walk_no_move, walk_access, row_then, death_then, walk_transition, walk_after, walked-is, DeathTells, WalkStep, walk_step}
use Rattle.protocol.proofs.Declines.{declined_state, spared_is}
use Rattle.protocol.proofs.Events.{begins_at, by_event, by_stage, IsTrimming}
use Rattle.protocol.proofs.Vocabulary.{renewed, reinited, MayRemake}
use Rattle.protocol.proofs.Renewals.{renewed_counter, renewed_thread, renewed_other}
use Rattle.protocol.proofs.Reinits.{Says_nothing, waiters_say_nothing, reinited_counter}
use Rattle.protocol.proofs.Working.{walk_is}
use Rattle.protocol.proofs.Runs.{sound}
use Rattle.protocol.proofs.CondSteps.{cond_of, at_either, counter_here, leads}
use Rattle.protocol.proofs.OwnWords.{own_counter}
use Rattle.protocol.proofs.CondAccesses.{fits_at, IsBefore, Nears, by_access, cond_stepping}
use Rattle.protocol.proofs.Cases.{at_or_else}
use Rattle.protocol.proofs.Seeing.{head_in}
use Rattle.protocol.proofs.Vocabulary.{Led}
use Rattle.protocol.proofs.Events.{HowSpared, Of_unlock, Of_wait, Sparing}
use Rattle.protocol.proofs.Sparing.{spare_is, spared_state, next_of}
use Rattle.protocol.proofs.Cases.{by_same}
use Rattle.protocol.proofs.Vocabulary.{Idle, Reaped, Fields, Operation}
use Rattle.protocol.proofs.Kept.{Sits, AtPhase}

-- ---- one access of a call on a condition variable

module _ (s : State) (t : ℕ) (c : CondCall) where
  abbrev w : ℕ
  w = s.words (its_cell s c)

  abbrev n : ℕ
  n = s.words (its_counter s c)

  abbrev then_words : CondWhole → ℕ → ℕ
  then_words p = (cond_after s t c p).words

  -- by its row; or it comes nearer to its release
  pub data CondMove (p : CondWhole) : Type 0 where
    By_row : (r : CondRow) → p ≡ cond_of s.layout t c (CondPhase.AtWords r) → IsGoing r → row_operation r ≡ acts_as c → Needs t r (fields_of w) → then_words p (its_counter s c) ≡ counter_after t (cell_at s t c) (counter_at s t c) r n
        → cond_onto s t p ≡ from_words p (resume_of t r (answer_at (row_access t (cell_at s t c) (counter_at s t c) r) (met_word r w n))) → CondMove p
    Before_release : (seen : ℕ) → IsBefore seen p.phase → IsBefore seen (cond_onto s t p).phase → (cond_onto s t p).point ≡ None → then_words p (its_counter s c) ≡ n → CondMove p

  pub record CondGoes (p : CondWhole) : Type 0 where
    pub move : CondMove p
    pub others : (k : ℕ) → k ≢ condition_of c → then_words p (counter_place s.layout k) ≡ s.words (counter_place s.layout k)

  pub cond_moves : Kept s → 1 ≤ t → t ≤ s.layout.threads → (p : CondWhole) → (s.threads t).stage ≡ AtCondition c p → CondGoes p
  cond_moves inv pos known = by_access s t c inv pos known CondGoes row nearer
    where
      row : (r : CondRow) → FitsAt s t (s.threads t).held c (cond_of s.layout t c (CondPhase.AtWords r)) → Stepping s t (cond_step s t c (cond_of s.layout t c (CondPhase.AtWords r))) → CondGoes (cond_of s.layout t c (CondPhase.AtWords r))
      row r fits step = record {
        move = By_row r refl fits.stands.going fits.stands.of fits.stands.needs (counter_here s t c r inv pos known fits) (leads s t c r inv pos known fits);
        others = λ k apart. put-other s.words (place_met s.layout t (row_access t (cell_at s t c) (counter_at s t c) r)) _ (counter_place s.layout k) (λ at. elsewhere k apart (is_at_counter r) (at ∙ at_either s t c r inv pos known fits));
      }
        where
          elsewhere : (k : ℕ) → k ≢ condition_of c → (b : Bool) → counter_place s.layout k ≡ (if b then its_counter s c else its_cell s c) → ⊥
          elsewhere k apart true at = apart (omega (arith, at))
          elsewhere k apart false at = counter_is_no_cell s.layout (its_mutex s c) k fits.inside at

      nearer : (x : ℕ) (p : CondWhole) → Nears s t c x p → CondGoes p
      nearer x p near =
          let own = own_counter s t (cond_step s t c p) inv pos known near.step.inside near.plain near.mine (ap reply_at near.pointless) in
          record { move = Before_release x near.before (near.leads (IsBefore x) (λ u. refl) refl) near.pointless (own (condition_of c)); others = λ k apart. own k }

-- ---- what a call knows of its counter

-- of a counter of this value: a wait has seen no more; a signal and a broadcast that are to count know that it isn't
-- full, and a broadcast what it is before and after its count
abbrev pub KnowsCount : ℕ → CondRow → Type 0
KnowsCount n (Wait (WaitRow.Release seen)) = seen ≤ n
KnowsCount n (Wait (WaitRow.Wake seen)) = seen ≤ n
KnowsCount n (Wait (WaitRow.Sleep seen)) = seen ≤ n
KnowsCount n (Signal SignalRow.Count) = n < full
KnowsCount n (Broadcast (BroadcastRow.Count seen)) = (n < full) × (n ≡ seen)
KnowsCount n (Broadcast (BroadcastRow.SetWaiters seen)) = n ≡ seen + 1
KnowsCount n (Broadcast (BroadcastRow.Move seen)) = n ≡ seen + 1
KnowsCount n r = Unit {0}

abbrev pub KnowsAt : ℕ → CondPhase → Type 0
KnowsAt n (CondPhase.AtWords r) = KnowsCount n r
KnowsAt n (CondPhase.Announcing seen) = seen ≤ n
KnowsAt n (CondPhase.Unlinking u seen) = seen ≤ n
KnowsAt n f = Unit {0}

abbrev pub KnowsIn : Layout' → (ℕ → ℕ) → Stage → Type 0
KnowsIn l words (AtCondition c p) = KnowsAt (words (counter_place l (condition_of c))) p.phase
KnowsIn l words g = Unit {0}

-- the row's access leaves the counter so, and so it leads
abbrev Up : ℕ → ℕ → ℕ → ℕ → Type 0
Up t w n n' = (n' ≡ n) ⊎ ((n' ≡ n + 1) × (n < full) × ((fields_of w).owner ≡ t))

record Counts_so (t w n n' : ℕ) (q : CondRow) : Type 0 where
  knows : KnowsCount n' q
  rises : Up t w n n'

pub one_more : (n : ℕ) → n < full → (n + 1) % 18446744073709551616 ≡ n + 1
one_more n less = omega arith

knows_row : (t cell counter w n : ℕ) (r : CondRow) → IsGoing r → Needs t r (fields_of w) → n ≤ full → KnowsCount n r → Counts_so t w n (counter_after t cell counter r n) (resume_of t r (answer_at (row_access t cell counter r) (met_word r w n))).row
knows_row t cell counter w n r going needs most knows = grind (arith)

-- ---- every state

-- a counter is at most as it may be, and who is in a call knows of its
pub record Counted (s : State) : Type 0 where
  pub most : (k : ℕ) → k < length s.layout.conditions → s.words (counter_place s.layout k) ≤ full
  pub knows : (t : ℕ) → 1 ≤ t → t ≤ s.layout.threads → KnowsIn s.layout s.words (s.threads t).stage

-- a step of thread t to s' leaves counter k as it is; or counts, where the thread owns the mutex
abbrev pub Rises : State → ℕ → State → ℕ → Type 0
Rises s t s' k =
    (s'.words (counter_place s.layout k) ≡ s.words (counter_place s.layout k))
    ⊎ ((s'.words (counter_place s.layout k) ≡ s.words (counter_place s.layout k) + 1) × (s.words (counter_place s.layout k) < full) × ((fields_of (s.words (cell_place s.layout (slice_index s.layout.conditions k)))).owner ≡ t))

-- an event of thread t
pub record Passes (s : State) (t : ℕ) (s' : State) : Type 0 where
  pub layout : s'.layout ≡ s.layout
  pub rises : (k : ℕ) → Rises s t s' k
  pub knows : 1 ≤ t → t ≤ s.layout.threads → KnowsIn s.layout s'.words (s'.threads t).stage
  pub theirs : (u : ℕ) → u ≢ t → (s'.threads u).stage ≡ (s.threads u).stage

still_at : (t u held n n' : ℕ) (op : Operation) (p : CondWhole) (f : CondPhase) (z : Fields) → AtPhase u held op p f z → u ≢ t → (n' ≡ n) ⊎ ((n' ≡ n + 1) × (n < full) × (z.owner ≡ t)) → KnowsAt n f → KnowsAt n' f
still_at t u held n n' op p f z stands apart rises knows = grind (arith)

module _ (s : State) (t : ℕ) (s' : State) (inv : Kept s) (counted : Counted s) (g : Passes s t s') where
  pub never_falls : (k : ℕ) → s.words (counter_place s.layout k) ≤ s'.words (counter_place s.layout k)
  never_falls k = grind (arith)

  most_then : (k : ℕ) → k < length s.layout.conditions → s'.words (counter_place s.layout k) ≤ full
  most_then k low = ⊎_elim
      (λ same. subst (λ (n : ℕ). n ≤ full) (sym same) (counted.most k low))
      (λ up. let counts = up.0 in let room = up.1 in omega arith)
      (g.rises k)

  -- what another knows of a counter it knows of it after the event: that rose only where its mutex is thread t's
  still_in : (u h : ℕ) → u ≢ t → (z : Stage) → Sits s u h z → KnowsIn s.layout s.words z → KnowsIn s.layout s'.words z
  still_in u h apart Idle sits knows = tt
  still_in u h apart (Calling o p) sits knows = tt
  still_in u h apart (AtCondition c p) sits knows = still_at t u h _ _ (acts_as c) p p.phase _ sits.stands apart (g.rises (condition_of c)) knows
  still_in u h apart (Dying w) sits knows = tt
  still_in u h apart Reaped sits knows = tt

  knows_then : (u : ℕ) → 1 ≤ u → u ≤ s.layout.threads → KnowsIn s.layout s'.words (s'.threads u).stage
  knows_then u first last = by_same u t
      (λ is. subst (λ (v : ℕ). KnowsIn s.layout s'.words (s'.threads v).stage) (sym is) (g.knows (subst (λ (v : ℕ). 1 ≤ v) is first) (subst (λ (v : ℕ). v ≤ s.layout.threads) is last)))
      (λ apart. subst (KnowsIn s.layout s'.words) (sym (g.theirs u apart)) (still_in u (s.threads u).held apart (s.threads u).stage (inv.sits u first last) (counted.knows u first last)))

  pub counted_then : Counted s'
  counted_then = record {
    most = subst (λ (l : Layout'). (k : ℕ) → k < length l.conditions → s'.words (counter_place l k) ≤ full) (sym g.layout) most_then;
    knows = subst (λ (l : Layout'). (u : ℕ) → 1 ≤ u → u ≤ l.threads → KnowsIn l s'.words (s'.threads u).stage) (sym g.layout) knows_then;
  }

-- ---- each event

-- what a call knows at a row it knows where that leads
knows_there : (l : Layout') (words : ℕ → ℕ) (c : CondCall) (p : CondWhole) (q : CondRow) → KnowsCount (words (counter_place l (condition_of c))) q → KnowsIn l words (stage_at c p (after_words p q))
knows_there l words c p q knows = grind (arith)

-- a wait that is about to release
seen_before : (n seen : ℕ) (f : CondPhase) → IsBefore seen f → KnowsAt n f → seen ≤ n
seen_before n seen f is knows = grind (arith)

knows_before : (l : Layout') (words : ℕ → ℕ) (c : CondCall) (p : CondWhole) (seen : ℕ) (f : CondPhase) → IsBefore seen f → seen ≤ words (counter_place l (condition_of c)) → KnowsIn l words (stage_at c p f)
knows_before l words c p seen f is few = grind (arith)

-- where a row of thread t's call leads
abbrev row_to : State → ℕ → CondCall → CondRow → CondRow
row_to s t c r =
    (resume_of t r (answer_at (row_access t (cell_at s t c) (counter_at s t c) r) (met_word r (s.words (its_cell s c)) (s.words (its_counter s c))))).row

-- and what is so of it
abbrev RowLaw : State → ℕ → CondCall → CondRow → Type 0
RowLaw s t c r =
    Counts_so t (s.words (its_cell s c)) (s.words (its_counter s c))
    (counter_after t (cell_at s t c) (counter_at s t c) r (s.words (its_counter s c))) (row_to s t c r)

cond_passes : (s : State) (t : ℕ) (c : CondCall) (p : CondWhole) → Kept s → Counted s → 1 ≤ t → t ≤ s.layout.threads → (s.threads t).stage ≡ AtCondition c p → Passes s t (after s t (cond_step s t c p))
cond_passes s t c p inv counted pos known is = record {
  layout = refl;
  rises = rises;
  knows = λ first last. subst (KnowsIn s.layout words') (sym stage_is) (go moved.move);
  theirs = λ u other. ap (λ (z : Thread). z.stage) (put-other s.threads t (thread_after s t (cond_step s t c p)) u other);
}
  where
    words' : ℕ → ℕ
    words' = (after s t (cond_step s t c p)).words

    at : ℕ
    at = its_counter s c

    moved : CondGoes s t c p
    moved = cond_moves s t c inv pos known p is

    stage_is : ((after s t (cond_step s t c p)).threads t).stage ≡ stage_at c p (cond_onto s t p).phase
    stage_is = ap (λ (z : Thread). z.stage) (put-same s.threads t (thread_after s t (cond_step s t c p)))

    most : s.words at ≤ full
    most = counted.most (condition_of c) (fits_at s t c p inv pos known is).there

    knows : KnowsAt (s.words at) p.phase
    knows = subst (KnowsIn s.layout s.words) is (counted.knows t pos known)

    law : (r : CondRow) → p ≡ cond_of s.layout t c (CondPhase.AtWords r) → IsGoing r → Needs t r (fields_of (s.words (its_cell s c))) → RowLaw s t c r
    law r from going needs = knows_row t _ (counter_at s t c) _ (s.words at) r going needs most (subst (λ (z : CondWhole). KnowsAt (s.words at) z.phase) from knows)

    here : CondMove s t c p → Rises s t (after s t (cond_step s t c p)) (condition_of c)
    here (Before_release seen before later point same) = inl same
    here (By_row r from going of needs counts leads_to) = pick _ counts (law r from going needs).rises
      where
        pick : (n' : ℕ) → words' at ≡ n' → Up t (s.words (its_cell s c)) (s.words at) n' → Rises s t (after s t (cond_step s t c p)) (condition_of c)
        pick n' is (inl same) = inl (is ∙ same)
        pick n' is (inr (more, less, own)) = inr (is ∙ more, less, own)

    rises : (k : ℕ) → Rises s t (after s t (cond_step s t c p)) k
    rises k = at_or_else (Rises s t (after s t (cond_step s t c p))) (condition_of c) k (here moved.move) (λ other. inl (moved.others k other))

    go : CondMove s t c p → KnowsIn s.layout words' (stage_at c p (cond_onto s t p).phase)
    go (Before_release seen before later point same) =
        knows_before s.layout words' c p seen (cond_onto s t p).phase later (let few = seen_before (s.words at) seen p.phase before knows in omega (arith, few, same))
    go (By_row r from going of needs counts leads_to) =
        subst (λ (z : CondOnward). KnowsIn s.layout words' (stage_at c p z.phase)) (sym leads_to)
        (knows_there s.layout words' c p (row_to s t c r) (subst (λ (x : ℕ). KnowsCount x (row_to s t c r)) (sym counts) (law r from going needs).knows))

-- calls on mutexes and walks leave all counters
call_passes : (s : State) (t : ℕ) (o : Op) (p : Whole) → Kept s → 1 ≤ t → t ≤ s.layout.threads → (s.threads t).stage ≡ Calling o p → Passes s t (after s t (call_step s t o p))
call_passes s t o p inv pos known is = record {
  layout = refl;
  rises = λ k. inl ((accesses.goes s t o p inv pos known is).counters k);
  knows = λ first last. subst (KnowsIn s.layout (after s t (call_step s t o p)).words) (sym (ap (λ (z : Thread). z.stage) (put-same s.threads t (thread_after s t (call_step s t o p))))) (knows_nothing (onto s t p).phase);
  theirs = λ u other. ap (λ (z : Thread). z.stage) (put-other s.threads t (thread_after s t (call_step s t o p)) u other);
}
  where
    knows_nothing : (f : Phase) → KnowsIn s.layout (after s t (call_step s t o p)).words (stage_after o p f)
    knows_nothing f = ⊎_elim (λ ended. subst (λ (x : Phase). KnowsIn s.layout (after s t (call_step s t o p)).words (stage_after o p x)) (sym ended.1) tt) (λ on. subst (KnowsIn s.layout (after s t (call_step s t o p)).words) (sym (on o p)) tt) (ended_or_not f)

walk_passes : (s : State) (t : ℕ) (w : walks.Standing) → Kept s → 1 ≤ t → t ≤ s.layout.threads → (s.threads t).stage ≡ Dying w → Passes s t (walked s t (s.threads t).held w).state
walk_passes s t w inv pos known is =
    let at = walk_is s t w inv pos known is in
    let g : WalkStep s t w.row = walk_step s t inv pos known w.row at.0.going (knows_at s.layout t w at.0) at.2 in
    subst (λ (z : walks.Standing). Passes s t (walked s t (s.threads t).held z).state) at.1
    (subst (λ (a : After). Passes s t a.state) (sym (walked-is s t w.row (met_no_move s.layout t (walk_access s t w.row) (walk_no_move (head_in s.layout t) w.row) ∙ g.valid)))
    record {
      layout = refl;
      rises = λ k. inl (same g k (death_then s t w.row) refl);
      knows = λ first last. subst (KnowsIn s.layout (walk_after s t w.row).words) (sym (ap (λ (z : Thread). z.stage) (put-same s.threads t (thread_after s t (walk_transition s t w.row)))))
          (by_walked (KnowsIn s.layout (walk_after s t w.row).words) (walk_of s.layout t w.row) (row_then s t w.row) (λ ended. tt) (λ going. tt));
      theirs = λ u other. ap (λ (z : Thread). z.stage) (put-other s.threads t (thread_after s t (walk_transition s t w.row)) u other);
    })
  where
    same : WalkStep s t w.row → (k : ℕ) (d : Option ℕ) → death_then s t w.row ≡ d → (walk_after s t w.row).words (counter_place s.layout k) ≡ s.words (counter_place s.layout k)
    same g k None e = g.reads e (counter_place s.layout k)
    same g k (Some m) e =
        let inside : m < s.layout.mutexes = (subst (λ (d : Option ℕ). DeathTells s t d (walk_after s t w.row)) e g.tells).0 in
        put-other s.words (place_met s.layout t (walk_access s t w.row)) _ (counter_place s.layout k) (λ at. counter_is_no_cell s.layout m k inside (at ∙ g.place m e))

pub passes : (s : State) (e : Event) → Kept s → Counted s → Passes s (caller e) (happens s e).state
passes s e inv counted =
    by_event s (λ (x : Event) (a : After). Passes s (caller x) a.state)
    (λ x. nothing_passes (caller x))
    (λ t o pos known inside idle b full. begins t o b)
    (λ t pos known.
    by_stage s t (λ (a : After). Passes s t a.state) (λ rests. nothing_passes t)
    (λ o p is awake. subst (λ (a : After). Passes s t a.state)
    (sym (went-is s t (mutex_of s.layout o) (Mutex (mutex_of s.layout o)) (Calling o p) (whole_access p) (λ a. led o p (whole_led p a)) (call_stepping s t o p (accesses.goes s t o p inv pos known is) (accesses.fits_in s t o p inv pos known is).0).valid))
    (call_passes s t o p inv pos known is))
    (λ c p is awake. subst (λ (a : After). Passes s t a.state)
    (sym (went-is s t (its_mutex s c) (Condition (condition_of c)) (AtCondition c p) (cond_access p) (λ a. led_at c p (cond_led p a)) (cond_stepping s t c p inv pos known is).valid))
    (cond_passes s t c p inv counted pos known is))
    (λ w is awake. walk_passes s t w inv pos known is))
    (λ t pos known alive. record {
      layout = refl;
      rises = λ k. inl refl;
      knows = λ first last. subst (λ (z : Thread). KnowsIn s.layout s.words z.stage) (sym (put-same s.threads t _)) tt;
      theirs = λ u other. ap (λ (z : Thread). z.stage) (put-other s.threads t _ u other);
    })
    (λ t pos known asleep. record { layout = refl; rises = λ k. inl refl; knows = λ first last. counted.knows t first last; theirs = λ u other. refl })
    (λ t m p pos known is asleep may. record {
      layout = refl;
      rises = λ k. inl refl;
      knows = λ first last. subst (λ (z : Thread). KnowsIn s.layout s.words z.stage) (sym (put-same s.threads t _)) tt;
      theirs = λ u other. ap (λ (z : Thread). z.stage) (put-other s.threads t _ u other);
    })
    (λ t k x p pos known is there. record {
      layout = refl;
      rises = λ j. inl refl;
      knows = λ first last. subst (λ (z : Thread). KnowsIn s.layout s.words z.stage) (sym (put-same s.threads t _)) tt;
      theirs = λ u other. ap (λ (z : Thread). z.stage) (put-other s.threads t _ u other);
    })
    (λ t o p pos known is awake trims. subst (λ (a : After). Passes s t a.state) (sym (spared_is s t o p is trims inv pos known)) (declines t o p is trims))
    (λ t pos known gone. record {
      layout = refl;
      rises = λ k. inl (renewed_counter s t pos known k);
      knows = λ first last. subst (λ (z : Thread). KnowsIn s.layout (renewed s t).state.words z.stage) (sym (renewed_thread s t pos known)) tt;
      theirs = λ u other. ap (λ (z : Thread). z.stage) (renewed_other s t pos known u other);
    })
    (λ t m may. made_anew t m _ (waiters_say_nothing (s.words (cell_place s.layout m))) may)
    (λ t m g sp. subst (λ (a : After). Passes s t a.state) (sym (spare_is s t m g sp inv)) (spares t m g sp))
    e
  where
    made_anew : (t m w : ℕ) → Says_nothing w → MayRemake s t m → Passes s t (reinited s t m w).state
    made_anew t m w says may = record {
      layout = refl;
      rises = λ k. inl (reinited_counter s t m w says may k);
      knows = λ first last. subst (KnowsIn s.layout (reinited s t m w).state.words) (sym may.resting) tt;
      theirs = λ u other. refl;
    }

    spares : (t m : ℕ) (g : Led) (sp : Sparing s t m g) → Passes s t (spared_state s t m g sp.how)
    spares t m g sp = record {
      layout = refl;
      rises = λ k. inl refl;
      knows = λ first last. subst (λ (z : Thread). KnowsIn s.layout s.words z.stage) (sym (put-same s.threads t _)) (go sp.how (counted.knows t first last));
      theirs = λ u other. ap (λ (z : Thread). z.stage) (put-other s.threads t _ u other);
    }
      where
        go : (how : HowSpared s t m g) → KnowsIn s.layout s.words (s.threads t).stage → KnowsIn s.layout s.words (next_of s t m g how)
        go (Of_unlock o p is mutex at to) knows = tt
        go (Of_wait c p seen is mutex at to) knows = subst (KnowsAt (s.words (counter_place s.layout (condition_of c)))) at (subst (KnowsIn s.layout s.words) is knows)

    declines : (t : ℕ) (o : Op) (p : Whole) (is : (s.threads t).stage ≡ Calling o p) (trims : IsTrimming p) → Passes s t (declined_state s t o p is trims)
    declines t o p is trims = record {
      layout = refl;
      rises = λ k. inl refl;
      knows = λ first last. subst (λ (z : Thread). KnowsIn s.layout s.words z.stage) (sym (put-same s.threads t _)) tt;
      theirs = λ u other. ap (λ (z : Thread). z.stage) (put-other s.threads t _ u other);
    }

    nothing_passes : (t : ℕ) → Passes s t s
    nothing_passes t = record { layout = refl; rises = λ k. inl refl; knows = λ first last. counted.knows t first last; theirs = λ u other. refl }

    first_knows : (t : ℕ) (o : Op) → KnowsIn s.layout s.words (begins_at s.layout t o)
    first_knows t (OnMutex c) = tt
    first_knows t (OnCondition (CondCall.Wait k)) = tt
    first_knows t (OnCondition (CondCall.TimedWait k x)) = tt
    first_knows t (OnCondition (CondCall.Signal k)) = tt
    first_knows t (OnCondition (CondCall.Broadcast k)) = tt

    begins : (t : ℕ) (o : Op) (b : Bool) → Passes s t (begun s t o (if b then Err XHELD else Ok (begins_at s.layout t o))).state
    begins t o true = nothing_passes t
    begins t o false = record {
      layout = refl;
      rises = λ k. inl refl;
      knows = λ first last. subst (λ (z : Thread). KnowsIn s.layout s.words z.stage) (sym (put-same s.threads t _)) (first_knows t o);
      theirs = λ u other. ap (λ (z : Thread). z.stage) (put-other s.threads t _ u other);
    }

pub counted_on : (s : State) (e : Event) → Kept s → Counted s → Counted (happens s e).state
counted_on s e inv counted = counted_then s (caller e) (happens s e).state inv counted (passes s e inv counted)

-- ---- runs

pub first_word-counter : (l : Layout') (counters : ℕ → ℕ) (k : ℕ) → k < length l.conditions → first_word l counters (counter_place l k) ≡ counters k
first_word-counter l counters k inside = grind (arith)

pub start_counted : (l : Layout') (counters : ℕ → ℕ) → ArePresets counters → Counted (start l counters)
start_counted l counters presets = record { most = λ k inside. subst (λ (n : ℕ). n ≤ full) (sym (first_word-counter l counters k inside)) (presets k); knows = λ t first last. tt }

pub run_counted : (s : State) (es : List Event) → Kept s → Counted s → Counted (run s es)
run_counted s [] inv counted = counted
run_counted s (e ∷ es) inv counted = run_counted (happens s e).state es (sound s e inv).kept (counted_on s e inv counted)
