-- Why a lock is out of time.
use Rattle.std.proofs.Common.{◌≡◌, ◌≢◌, ◌⊎◌, ⊎_elim, inl, inr, ℕ, zero, suc, ◌≤◌, ◌==◌, ◌&&◌, Bool, true, false, Option, Some, None, Ok, Err, List, [], ◌∷◌, ◌++◌, refl, sym, ap, ◌∙◌, subst, arith, eq-eqb, eqb-true}
use Rattle.protocol.proofs.Vocabulary.{Answer, Exchanged, Changed, Object, Operation, Decision, Layout', Fields, fields_of, owner_of, word_of, answer_among, cell_place, place_in, place_met}
use Rattle.protocol.proofs.Vocabulary.{Limit, Past, overslept}
use Rattle.protocol.proofs.Vocabulary.{Reply, XHELD, Call, LockRow, UnlockRow, Phase, AtCell, Whole, whole_access, whole_led, after_cell, Op, OnMutex, OnCondition, mutex_of, condition_of, CondCall, CondPhase, CondRow, CondWhole, WaitRow, SignalRow, BroadcastRow, cond_access, cond_led}
use Rattle.protocol.proofs.Vocabulary.{Event, Fact, Note, Walked, Stage, Idle, Calling, AtCondition, State, After, start, happens, notes, facts_of, facts_among, points_of, begun, departed, killed, lapsed, renewed, reinited, stepped, went, Thread, counter_place, seen, put, stands_in, stage_after, stage_at, led, led_at, is_asleep}
use Rattle.protocol.proofs.Vocabulary.{if◌then◌else◌, waiters_of, answer_of, walked, decision, moved_by, sleeps_at, slept_in, woken_by, not, ◌||◌, eqb-false, BeginsNone, Begun, Mutex, Condition}
use Rattle.lockword.specs.declared.reply.Reply.TheVariants.{ETIMEDOUT}
use Rattle.posixmutex.specs.Objects.{stepped as object_stepped}
use Rattle.posixmutex.proofs.Steps.{determined}
use Rattle.mutex.specs.declared.row.Row.{Row}
use Rattle.mutex.specs.declared.row.Row.TheVariants as row
use Rattle.mutex.specs.declared.phase.Phase.TheVariants.{Announcing, Ended}
use Rattle.mutex.specs.Rows.{decides, ends}
use Rattle.mutex.specs.Rows.{goes as goes_to}
use Rattle.mutex.specs.Lock.{lock_access, lock_resume, lock_sees, after_loss}
use Rattle.mutex.specs.Programs.{row_access, resume_of}
use Rattle.mutex.specs.Whole.{announced, phase_access, phase_led}
use Rattle.condvar.specs.Calls as conditions
use Rattle.condvar.specs.Programs as condition
use Rattle.condvar.specs.Laws.{row_operation}
use Rattle.condvar.specs.Whole as condition_whole
use Rattle.exitwalk.specs.Standings as walks
use Rattle.facts.specs.Chances.{Chances, mutex_next, is_anothers, begins_call, no_chances, chances_next, chances_after, TimeLimitsHaveReasons}
use Rattle.exitwalk.specs.declared.row.Row as walk_row
use Rattle.exitwalk.specs.declared.row.Row.TheVariants as walk
use Rattle.exitwalk.specs.Walks as exit
use Rattle.buckets.specs.Queues.{without}
use Rattle.protocol.specs.Machine as machine
use Rattle.protocol.specs.Machine.{decided_at, stage_walked, told_of}
use Rattle.protocol.specs.Applies.{IsInAQueue}
use Rattle.protocol.specs.TimeLimits.{AreInTime, IsNoLimit, LocksWithoutLimits, NoLimitComes, NobodyTimesOutEarly, OwnedMeanwhile, WaitedIsOwned, decided_after}
use Rattle.protocol.proofs.Unlimited.{runs_same}
use Rattle.protocol.proofs.Puts.{put-same, put-other}
use Rattle.protocol.proofs.Cases.{by_same}
use Rattle.protocol.proofs.Seeing.{cell_again}
use Rattle.protocol.proofs.Kept.{Kept, Fits, AtPhase}
use Rattle.protocol.proofs.Steps.{met, met_queue, Transition, Tells, went-is, onto, after, call_step, call_note, cond_step, seen-inside}
use Rattle.protocol.proofs.Accesses.{goes, fits_in}
use Rattle.protocol.proofs.CondAccesses.{cond_stepping, fits_at}
use Rattle.protocol.proofs.CallSteps.{CallStep, call_stepping}
use Rattle.protocol.proofs.Arrivals.{ended_or_not}
use Rattle.protocol.proofs.Stepping.{SleepsAs, Stepping}
use Rattle.protocol.proofs.Queues.{not_true, without_stands}
use Rattle.protocol.proofs.Queued.{Queued, asleep_there, stood}
use Rattle.protocol.proofs.QueueRuns.{queued_on, start_queued}
use Rattle.protocol.proofs.Departures.{asleep_where}
use Rattle.protocol.proofs.Events.{begins_at, IsTrimming, by_event, by_stage, Sparing, HowSpared, Of_unlock, Of_wait}
use Rattle.protocol.proofs.Working.{Noted, Of_call, Of_walk, point_of, told_call, told_walk, by_step}
use Rattle.protocol.proofs.WalkSteps.{or_first}
use Rattle.protocol.proofs.Lives.{timed_is}
use Rattle.protocol.proofs.Passing.{begins_later, begins_stepped, begins_walked}
use Rattle.protocol.proofs.Declines.{declined_state, quiet, spared_is}
use Rattle.protocol.proofs.Sparing.{spare_is, spared_state, next_of, unwoken}
use Rattle.protocol.proofs.Runs.{Told, sound, start_kept, seen-start}

-- ---- what lines tell of a mutex

first_or : (a b : Bool) → a ≡ true → (a || b) ≡ true
first_or true b e = refl
first_or false b e = absurd cc

second_or : (a b : Bool) → b ≡ true → (a || b) ≡ true
second_or true b e = refl
second_or false b e = e

mutex_by : (t m : ℕ) (c : Chances) (fs : List Fact) → (chances_after t m c fs).mutex ≡ decided_after m c.mutex (points_of fs)
mutex_by t m c [] = refl
mutex_by t m c (Fact.Point d ∷ fs) = mutex_by t m (chances_next t m c (Fact.Point d)) fs
mutex_by t m c (Fact.Death u k ∷ fs) = mutex_by t m (chances_next t m c (Fact.Death u k)) fs
mutex_by t m c (f ∷ fs) = mutex_by t m (chances_next t m c f) fs

-- that is what its cell says
seen_after : (s s' : State) (m : ℕ) (ds : List Decision) → Told s ds s' → decided_after m (seen s m) ds ≡ seen s' m
seen_after s s' m [] told = sym (told m)
seen_after s s' m (d ∷ ds) told = ap (λ (xs : List Decision). decided_after m next xs) told.3 ∙ go (d.mutex == m) refl
  where
    next : Object
    next = if d.mutex == m then object_stepped (seen s m) d.thread d.operation d.reply else seen s m

    go : (b : Bool) → (d.mutex == m) ≡ b → (if b then object_stepped (seen s m) d.thread d.operation d.reply else seen s m) ≡ seen s' m
    go true e =
        let same : d.mutex ≡ m = eqb-true d.mutex m e in
        subst (λ (k : ℕ). object_stepped (seen s k) d.thread d.operation d.reply ≡ seen s' k) same (sym (determined _ (seen s d.mutex) d.thread d.operation d.reply (seen s' d.mutex) told.1))
    go false e = sym (told.2 m (λ is. eqb-false d.mutex m e (sym is)))

-- ---- and of a thread's chances

-- where another thread owns the mutex it counts
abbrev Aware : ℕ → Chances → Type 0
Aware t c = is_anothers t c.mutex.owner ≡ true → c.waited ≡ true

aware_after : (t m : ℕ) (c : Chances) (fs : List Fact) → Aware t c → Aware t (chances_after t m c fs)
aware_after t m c [] h = h
aware_after t m c (f ∷ fs) h = aware_after t m (chances_next t m c f) fs (λ e. second_or (not (begins_call t f) && c.waited) (is_anothers t (mutex_next m c.mutex f).owner) e)

-- until the thread begins a call
differs : (u t : ℕ) → u ≢ t → (u == t) ≡ false
differs u t apart = not_true (u == t) (λ e. apart (eqb-true u t e))

no_begin : (t : ℕ) (f : Fact) (fs : List Fact) → BeginsNone t (f ∷ fs) → (begins_call t f ≡ false) × BeginsNone t fs
no_begin t (Fact.Begin u b) fs h = (differs u t h.0, h.1)
no_begin t f fs h = (refl, h)

stays_next : (a b c : Bool) → a ≡ false → b ≡ true → ((not a && b) || c) ≡ true
stays_next false true c e h = refl
stays_next true b c e h = absurd cc
stays_next false false c e h = absurd cc

stays : (t m : ℕ) (c : Chances) (fs : List Fact) → BeginsNone t fs → c.waited ≡ true → (chances_after t m c fs).waited ≡ true
stays t m c [] none w = w
stays t m c (f ∷ fs) none w = let here = no_begin t f fs none in stays t m (chances_next t m c f) fs here.1 (stays_next (begins_call t f) c.waited (is_anothers t (mutex_next m c.mutex f).owner) here.0 w)

-- ---- what it is to have waited

chances_after-append : (t m : ℕ) (c : Chances) (fs gs : List Fact) → chances_after t m c (fs ++ gs) ≡ chances_after t m (chances_after t m c fs) gs
chances_after-append t m c [] gs = refl
chances_after-append t m c (f ∷ fs) gs = chances_after-append t m (chances_next t m c f) fs gs

-- another thread is some thread, and not that one
some_other : (t : ℕ) (o : Option ℕ) → is_anothers t o ≡ true → (u : ℕ) × (u ≢ t) × (o ≡ Some u)
some_other t None e = absurd cc
some_other t (Some u) e = (u, (λ same. cc (e, ap not (eq-eqb u t same))), refl)

other_is : (t u : ℕ) (o : Option ℕ) → u ≢ t → o ≡ Some u → is_anothers t o ≡ true
other_is t u o apart is = ap (is_anothers t) is ∙ ap not (differs u t apart)

one_of : (a b c : Bool) → ((not a && b) || c) ≡ true → ((a ≡ false) × (b ≡ true)) ⊎ (c ≡ true)
one_of false true c e = inl (refl, refl)
one_of false false c e = inr e
one_of true b c e = inr e

-- after the first of these facts another thread owns the mutex
record OwnedIn (t m : ℕ) (c : Chances) (fs : List Fact) : Type 0 where
  first : List Fact
  rest : List Fact
  all : fs ≡ first ++ rest
  owned : is_anothers t (chances_after t m c first).mutex.owner ≡ true

owned_in : (t m : ℕ) (c : Chances) (fs : List Fact) → (chances_after t m c fs).waited ≡ true → (c.waited ≡ true) ⊎ OwnedIn t m c fs
owned_in t m c [] w = inl w
owned_in t m c (f ∷ fs) w =
    ⊎_elim (λ now. ⊎_elim (λ before. inl before.1) (λ owned. inr (record { first = f ∷ []; rest = fs; all = refl; owned = owned })) (one_of (begins_call t f) c.waited (is_anothers t (mutex_next m c.mutex f).owner) now))
    (λ later. inr (record { first = f ∷ later.first; rest = later.rest; all = ap (λ (xs : List Fact). f ∷ xs) later.all; owned = later.owned }))
    (owned_in t m (chances_next t m c f) fs w)

module _ (t m : ℕ) (before : List Fact) (call : Begun) (since : List Fact) (none : BeginsNone t since) where
  abbrev first_chances : Chances
  first_chances = chances_after t m no_chances before

  -- directly after the begin
  abbrev begun_chances : Chances
  begun_chances = chances_next t m first_chances (Fact.Begin t call)

  then_is : (fs : List Fact) → chances_after t m no_chances (before ++ Fact.Begin t call ∷ fs) ≡ chances_after t m begun_chances fs
  then_is fs = chances_after-append t m no_chances before (Fact.Begin t call ∷ fs)

  -- who waited before doesn't count
  at_begin : begun_chances.waited ≡ true → is_anothers t begun_chances.mutex.owner ≡ true
  at_begin w = ⊎_elim (λ old. absurd (cc (old.0, eq-eqb t t refl))) (λ now. now) (one_of (t == t) first_chances.waited (is_anothers t first_chances.mutex.owner) w)

  moment_of : OwnedIn t m begun_chances since → OwnedMeanwhile t m before call since
  moment_of h =
      let other = some_other t (chances_after t m begun_chances h.first).mutex.owner h.owned in
      record {
        during = h.first;
        later = h.rest;
        moment = h.all;
        owner = other.0;
        another = other.1;
        owns = ap (λ (o : Object). o.owner) (sym (mutex_by t m no_chances (before ++ Fact.Begin t call ∷ h.first))) ∙ ap (λ (c : Chances). c.mutex.owner) (then_is h.first) ∙ other.2;
      }

  waited_owned : (chances_after t m no_chances (before ++ Fact.Begin t call ∷ since)).waited ≡ true → OwnedMeanwhile t m before call since
  waited_owned w =
      moment_of
      (⊎_elim (λ now. record { first = []; rest = since; all = refl; owned = at_begin now }) (λ h. h)
      (owned_in t m begun_chances since (sym (ap (λ (c : Chances). c.waited) (then_is since)) ∙ w)))

  owned_waited : OwnedMeanwhile t m before call since → (chances_after t m no_chances (before ++ Fact.Begin t call ∷ since)).waited ≡ true
  owned_waited h =
      let c : Chances = chances_after t m no_chances (before ++ Fact.Begin t call ∷ h.during) in
      let waits : c.waited ≡ true = aware_after t m no_chances (before ++ Fact.Begin t call ∷ h.during) (λ e. absurd cc) (other_is t h.owner c.mutex.owner h.another (ap (λ (o : Object). o.owner) (mutex_by t m no_chances (before ++ Fact.Begin t call ∷ h.during)) ∙ h.owns)) in
      let still : (chances_after t m begun_chances (h.during ++ h.later)).waited ≡ true =
      ap (λ (x : Chances). x.waited) (chances_after-append t m begun_chances h.during h.later)
      ∙ stays t m (chances_after t m begun_chances h.during) h.later (begins_later t h.during h.later (subst (BeginsNone t) h.moment none)) (sym (ap (λ (x : Chances). x.waited) (then_is h.during)) ∙ waits) in
      ap (λ (x : Chances). x.waited) (then_is since) ∙ ap (λ (fs : List Fact). (chances_after t m begun_chances fs).waited) h.moment ∙ still

pub waited_is_owned : WaitedIsOwned
waited_is_owned t m before call since none = (waited_owned t m before call since none, owned_waited t m before call since none)

-- ---- points that tell of no time limit

abbrev Untimed : List Decision → Type 0
Untimed [] = Unit {0}
Untimed (d ∷ ds) = (d.reply ≢ ETIMEDOUT) × Untimed ds

untimed_reasons : (t m : ℕ) (c : Chances) (fs : List Fact) → Untimed (points_of fs) → TimeLimitsHaveReasons t m c fs
untimed_reasons t m c [] h = tt
untimed_reasons t m c (Fact.Point d ∷ fs) h = ((λ mine there told. absurd (h.0 told)), untimed_reasons t m (chances_next t m c (Fact.Point d)) fs h.1)
untimed_reasons t m c (Fact.Death u k ∷ fs) h = (tt, untimed_reasons t m (chances_next t m c (Fact.Death u k)) fs h.1)
untimed_reasons t m c (f ∷ fs) h = (tt, untimed_reasons t m (chances_next t m c f) fs h)

-- what is recorded of one point of another operation is none
told_untimed : (o n : Object) (t m : ℕ) (op : Operation) (x : Option Reply) → op ≢ Operation.TimedLock → Tells t o op x n → Untimed (point_of t m op x)
told_untimed o n t m op None other tells = tt
told_untimed o n t m op (Some x) other tells = ((λ is. timed_told o n t op x other is tells), tt)
  where
    timed_told : (o n : Object) (t : ℕ) (op : Operation) (x : Reply) → op ≢ Operation.TimedLock → x ≡ ETIMEDOUT → Tells t o op (Some x) n → ⊥
    timed_told o n t op x other is tells = grind (arith)

-- a signal, a broadcast and a wait do that by their own operations, or by an unlock
wait_untimed : (t : ℕ) (p : CondWhole) (r : WaitRow) (a : Answer) → decided_at Operation.Wait (condition_whole.from_words p (condition.resume_of t (CondRow.Wait r) a)).point ≢ Operation.TimedLock
wait_untimed t p r a = grind (arith)

signal_untimed : (t : ℕ) (p : CondWhole) (r : SignalRow) (a : Answer) → decided_at Operation.Signal (condition_whole.from_words p (condition.resume_of t (CondRow.Signal r) a)).point ≢ Operation.TimedLock
signal_untimed t p r a = grind (arith)

broadcast_untimed : (t : ℕ) (p : CondWhole) (r : BroadcastRow) (a : Answer) → decided_at Operation.Broadcast (condition_whole.from_words p (condition.resume_of t (CondRow.Broadcast r) a)).point ≢ Operation.TimedLock
broadcast_untimed t p r a = grind (arith)

words_untimed : (t : ℕ) (op : Operation) (p : CondWhole) (r : CondRow) (a : Answer) → op ≢ Operation.TimedLock → row_operation r ≡ op → decided_at op (condition_whole.from_words p (condition.resume_of t r a)).point ≢ Operation.TimedLock
words_untimed t op p (CondRow.Wait r) a other is = subst (λ (o : Operation). decided_at o (condition_whole.from_words p (condition.resume_of t (CondRow.Wait r) a)).point ≢ Operation.TimedLock) is (wait_untimed t p r a)
words_untimed t op p (CondRow.Signal r) a other is = subst (λ (o : Operation). decided_at o (condition_whole.from_words p (condition.resume_of t (CondRow.Signal r) a)).point ≢ Operation.TimedLock) is (signal_untimed t p r a)
words_untimed t op p (CondRow.Broadcast r) a other is = subst (λ (o : Operation). decided_at o (condition_whole.from_words p (condition.resume_of t (CondRow.Broadcast r) a)).point ≢ Operation.TimedLock) is (broadcast_untimed t p r a)
words_untimed t op p r a other is = grind (arith)

cond_untimed : (t held : ℕ) (op : Operation) (p : CondWhole) (f : CondPhase) (a : Answer) (w : Fields) → op ≢ Operation.TimedLock → AtPhase t held op p f w → decided_at op (condition_whole.phase_led p f a).point ≢ Operation.TimedLock
cond_untimed t held op p (CondPhase.AtWords r) a w other stands = words_untimed p.thread op p r a other stands.of
cond_untimed t held op p (CondPhase.Announcing x) a w other stands = grind (arith)
cond_untimed t held op p (CondPhase.Unlinking u x) a w other stands = other
cond_untimed t held op p f a w other stands = absurd stands

its_own : (c : CondCall) → conditions.acts_as c ≢ Operation.TimedLock
its_own c = grind (arith)

-- ---- a lock that is about to sleep

abbrev waits_next : Row → Bool
waits_next (row.Lock (LockRow.SetWaiters v)) = true
waits_next (row.Lock (LockRow.Sleep v)) = true
waits_next r = false

abbrev waits_in : Phase → Bool
waits_in (Announcing r) = waits_next r
waits_in (AtCell r) = waits_next r
waits_in f = false

-- who decides so has found another's mutex
anothers : (t n : ℕ) → (n == t) ≡ false → (n == 0) ≡ false → is_anothers t (owner_of n) ≡ true
anothers t zero e f = absurd cc
anothers t (suc n) e f = ap not e

loss_is_quiet : (c : Fields) → waits_next (after_loss c) ≡ false
loss_is_quiet c = go c.waiters
  where
    go : (b : Bool) → waits_next (if b then row.Lock LockRow.WakeAll else row.Ended Reply.ENOTRECOVERABLE) ≡ false
    go true = refl
    go false = refl

sees_waits : (t : ℕ) (c : Fields) → waits_next (lock_sees t c).row ≡ true → is_anothers t (owner_of c.owner) ≡ true
sees_waits t c h = go c.unusable (c.owner == t) refl (c.owner == 0) refl c.waiters h
  where
    go : (a b : Bool) → (c.owner == t) ≡ b → (z : Bool) → (c.owner == 0) ≡ z → (x : Bool)
        → waits_next (if a then decides (after_loss c) Reply.ENOTRECOVERABLE else if b then ends Reply.EDEADLK else if z then goes_to (row.Lock (LockRow.Take c)) else if x then goes_to (row.Lock (LockRow.Sleep c)) else goes_to (row.Lock (LockRow.SetWaiters c))).row ≡ true
        → is_anothers t (owner_of c.owner) ≡ true
    go true b e z f x h = absurd (cc (h, loss_is_quiet c))
    go false true e z f x h = absurd cc
    go false false e true f x h = absurd cc
    go false false e false f x h = anothers t c.owner e f

-- at a row
lock_waits : (t cell w : ℕ) (q : List ℕ) (r : LockRow) → waits_next (lock_resume t r (answer_among (lock_access t cell r) w q)).row ≡ true → (waits_next (row.Lock r) ≡ true) ⊎ (is_anothers t (owner_of (fields_of w).owner) ≡ true)
lock_waits t cell w q LockRow.Load h = inr (sees_waits t (fields_of w) h)
lock_waits t cell w q (LockRow.Take v) h = go (w == word_of v) h
  where
    go : (b : Bool) → waits_next (lock_resume t (LockRow.Take v) (if b then Exchanged else Changed w)).row ≡ true → (waits_next (row.Lock (LockRow.Take v)) ≡ true) ⊎ (is_anothers t (owner_of (fields_of w).owner) ≡ true)
    go true h = absurd cc
    go false h = inr (sees_waits t (fields_of w) h)
lock_waits t cell w q (LockRow.SetWaiters v) h = inl refl
lock_waits t cell w q (LockRow.Sleep v) h = inl refl
lock_waits t cell w q LockRow.WakeAll h = absurd cc

-- and in a phase
cell_waits : (p : Whole) (r : Row) → waits_in (after_cell p r) ≡ true → waits_next r ≡ true
cell_waits p r h = grind (arith)

announced_waits : (p : Whole) (r : Row) → waits_in (announced p r) ≡ true → waits_next r ≡ true
announced_waits p r h = grind (arith)

abbrev is_lock : Row → Bool
is_lock (row.Lock r) = true
is_lock r = false

others_are_quiet : (t : ℕ) (r : Row) (a : Answer) → is_lock r ≡ false → waits_next (resume_of t r a).row ≡ true → ⊥
others_are_quiet t r a other h = grind (arith)

abbrev is_away : Phase → Bool
is_away (Announcing r) = false
is_away (AtCell r) = false
is_away f = true

elsewhere_is_quiet : (p : Whole) (f : Phase) (a : Answer) → is_away f ≡ true → waits_in (phase_led p f a).phase ≡ true → ⊥
elsewhere_is_quiet p f a away h = grind (arith)

phase_waits : (p : Whole) (f : Phase) (w : ℕ) (q : List ℕ) → waits_in (phase_led p f (answer_among (phase_access p f) w q)).phase ≡ true
    → (waits_in f ≡ true) ⊎ ((r : LockRow) × (f ≡ AtCell (row.Lock r)) × (is_anothers p.thread (owner_of (fields_of w).owner) ≡ true))
phase_waits p (Announcing r) w q h = inl (announced_waits p r h)
phase_waits p (AtCell (row.Lock r)) w q h =
    ⊎_elim (λ before. inl before) (λ now. inr (r, refl, now)) (lock_waits p.thread p.cell w q r (cell_waits p (lock_resume p.thread r (answer_among (lock_access p.thread p.cell r) w q)).row h))
phase_waits p (AtCell r) w q h = absurd (others_are_quiet p.thread r (answer_among (row_access p.thread p.cell r) w q) refl (cell_waits p (resume_of p.thread r (answer_among (row_access p.thread p.cell r) w q)).row h))
phase_waits p f w q h = absurd (elsewhere_is_quiet p f (answer_among (phase_access p f) w q) refl h)

-- ---- a lock that sleeps, or is about to

-- where the queues are those of state s
abbrev IsWaiting : State → ℕ → ℕ → Stage → Type 0
IsWaiting s t m (Calling (OnMutex (Call.TimedLock k)) p) = (k ≡ m) × ((waits_in p.phase ≡ true) ⊎ IsInAQueue s t)
IsWaiting s t m g = ⊥

waits_where : (s s' : State) (t m : ℕ) (g : Stage) → (IsInAQueue s' t → IsInAQueue s t) → IsWaiting s' t m g → IsWaiting s t m g
waits_where s s' t m (Calling (OnMutex (Call.TimedLock k)) p) before h = (h.0, ⊎_elim (λ about. inl about) (λ asleep. inr (before asleep)) h.1)
waits_where s s' t m g before h = absurd h

timed_only : (s : State) (t m : ℕ) (o : Op) (p : Whole) → IsWaiting s t m (Calling o p) → (OnMutex (Call.TimedLock m) ≡ o) × ((waits_in p.phase ≡ true) ⊎ IsInAQueue s t)
timed_only s t m (OnMutex (Call.TimedLock k)) p h = (ap (λ (x : ℕ). OnMutex (Call.TimedLock x)) (sym h.0), h.1)
timed_only s t m o p h = absurd h

timed_waits : (s : State) (t m : ℕ) (o : Op) (p : Whole) → OnMutex (Call.TimedLock m) ≡ o → (waits_in p.phase ≡ true) ⊎ IsInAQueue s t → IsWaiting s t m (Calling o p)
timed_waits s t m o p e h = subst (λ (x : Op). IsWaiting s t m (Calling x p)) e (refl, h)

-- none that begins, that ended, or on a condition variable
first_waits : (s : State) (t m : ℕ) (l : Layout') (u : ℕ) (o : Op) → IsWaiting s t m (begins_at l u o) → IsInAQueue s t
first_waits s t m l u (OnMutex (Call.TimedLock k)) h = ⊎_elim (λ (e : false ≡ true). absurd (cc e)) (λ asleep. asleep) h.1
first_waits s t m l u o h = absurd h

never_at : (s : State) (t m : ℕ) (c : CondCall) (p : CondWhole) (f : CondPhase) → IsWaiting s t m (stage_at c p f) → ⊥
never_at s t m c p (CondPhase.Ended x) h = h
never_at s t m c p (CondPhase.Locking w) h = h
never_at s t m c p f h = h

never_walks : (s : State) (t m : ℕ) (w : walks.Standing) (r : walk_row.Row) → IsWaiting s t m (stage_walked w r) → ⊥
never_walks s t m w walk.Ended h = h
never_walks s t m w r h = h

put_here : (f : ℕ → Thread) (u t : ℕ) (th : Thread) → u ≡ t → put f u th t ≡ th
put_here f u t th same = subst (λ (v : ℕ). put f u th v ≡ th) same (put-same f u th)

put_there : (f : ℕ → Thread) (u t : ℕ) (th : Thread) → u ≢ t → put f u th t ≡ f t
put_there f u t th apart = put-other f u th t (λ e. apart (sym e))

-- ---- what an event tells that is no time limit

abbrev UntimedIn : After → Type 0
UntimedIn a = Untimed (points_of (facts_of a.note))

death_untimed : (u : ℕ) (d : Option ℕ) → Untimed (point_of u (or_first d) Operation.Death (told_of d))
death_untimed u None = tt
death_untimed u (Some k) = ((λ e. cc e), tt)

walked_untimed : (u : ℕ) (d : Option ℕ) (ws : List ℕ) (y : Bool) → Untimed (points_of (facts_of (Walked u d ws y)))
walked_untimed u d ws y = subst Untimed (sym (told_walk u d ws y)) (death_untimed u d)

module _ (s : State) (inv : Kept s) where
  begun_untimed : (u : ℕ) (o : Op) (b : Bool) → UntimedIn (begun s u o (if b then Err XHELD else Ok (begins_at s.layout u o)))
  begun_untimed u o true = ((λ e. cc e), tt)
  begun_untimed u o false = tt

  step_untimed : (u : ℕ) → 1 ≤ u → u ≤ s.layout.threads → UntimedIn (stepped s u (s.threads u).held (s.threads u).stage)
  step_untimed u pos known =
      by_stage s u UntimedIn (λ rests. tt)
      (λ o p is awake. subst UntimedIn
      (sym (went-is s u (mutex_of s.layout o) (Mutex (mutex_of s.layout o)) (Calling o p) (whole_access p) (λ a. led o p (whole_led p a)) (call_stepping s u o p (goes s u o p inv pos known is) (fits_in s u o p inv pos known is).0).valid))
      (subst Untimed (sym (told_call u (mutex_of s.layout o) p.operation (onto s u p).point _ _ _ _))
      (told_untimed _ _ u (mutex_of s.layout o) p.operation (onto s u p).point (timed_is s.layout o p.operation (fits_in s u o p inv pos known is).1) (goes s u o p inv pos known is).tells)))
      (λ d p is awake. subst UntimedIn
      (sym (went-is s u (mutex_of s.layout (OnCondition d)) (Condition (condition_of d)) (AtCondition d p) (cond_access p) (λ a. led_at d p (cond_led p a)) (cond_stepping s u d p inv pos known is).valid))
      (subst Untimed (sym (told_call u (mutex_of s.layout (OnCondition d)) (cond_step s u d p).operation (cond_step s u d p).point _ _ _ _))
      (told_untimed _ _ u (mutex_of s.layout (OnCondition d)) (cond_step s u d p).operation (cond_step s u d p).point
      (cond_untimed u (s.threads u).held (conditions.acts_as d) p p.phase _ _ (its_own d) (fits_at s u d p inv pos known is).stands)
      (cond_stepping s u d p inv pos known is).tells)))
      (λ v is awake.
      let answer = answer_of s u (exit.access_of v) in
      walked_untimed u (machine.death_at s.layout u (exit.point_of v.thread v.row answer)) (machine.woken s u (exit.access_of v)) (machine.has_ended (exit.row_after v.thread v.head v.row answer)))

  untimed_in : (e : Event) → IsNoLimit e → UntimedIn (happens s e)
  untimed_in e =
      by_event s (λ (x : Event) (a : After). IsNoLimit x → UntimedIn a)
      (λ x none. tt)
      (λ u o pos known inside idle b full none. begun_untimed u o b)
      (λ u pos known none. step_untimed u pos known)
      (λ u pos known alive none. tt)
      (λ u pos known asleep none. tt)
      (λ u k p pos known is asleep may none. absurd none)
      (λ u k x p pos known is there none. absurd none)
      (λ u o p pos known is awake trims none. subst UntimedIn (sym (spared_is s u o p is trims inv pos known)) tt)
      (λ u pos known gone none. tt)
      (λ u k may none. ((λ e. cc e), tt))
      (λ u k g sp none. subst UntimedIn (sym (spare_is s u k g sp inv)) tt)
      e

-- ---- one event

module _ (s : State) (t m : ℕ) (inv : Kept s) (queued : Queued s) where
  -- whoever is waiting after it was so before, or another thread owned the mutex; and it began no call
  abbrev Comes : After → Type 0
  Comes a = IsWaiting a.state t m (a.state.threads t).stage → BeginsNone t (facts_of a.note) × (IsWaiting s t m (s.threads t).stage ⊎ (is_anothers t (seen s m).owner ≡ true))

  idle_out : (s.threads t).stage ≡ Idle → IsInAQueue s t → ⊥
  idle_out idle (key, there) = subst (SleepsAs s.layout key) idle (queued.sleeps key t there).2

  not_idle : (u : ℕ) → (s.threads u).stage ≡ Idle → IsWaiting s t m (s.threads t).stage → u ≢ t
  not_idle u idle h same = subst (IsWaiting s t m) (ap (λ (v : ℕ). (s.threads v).stage) (sym same) ∙ idle) h

  begins : (u : ℕ) (o : Op) → (s.threads u).stage ≡ Idle → (b : Bool) → Comes (begun s u o (if b then Err XHELD else Ok (begins_at s.layout u o)))
  begins u o idle true h = ((not_idle u idle h, tt), inl h)
  begins u o idle false h =
      by_same u t
      (λ same.
      let here = subst (λ (z : Thread). IsWaiting s t m z.stage) (put_here s.threads u t _ same) (waits_where s (begun s u o (Ok (begins_at s.layout u o))).state t m _ (λ q. q) h) in
      absurd (idle_out (ap (λ (v : ℕ). (s.threads v).stage) (sym same) ∙ idle) (first_waits s t m s.layout u o here)))
      (λ apart. ((apart, tt), inl (subst (λ (z : Thread). IsWaiting s t m z.stage) (put_there s.threads u t _ apart) (waits_where s (begun s u o (Ok (begins_at s.layout u o))).state t m _ (λ q. q) h))))

  -- a step of another
  others : (u : ℕ) (v : Transition) (n : Note) (g : Stepping s u v) → 1 ≤ u → u ≤ s.layout.threads → (s.threads u).stage ≡ v.from → is_asleep s u ≡ false → Noted s u v n → u ≢ t → Comes (record { state = after s u v; note = n })
  others u v n g pos known is awake noted apart h =
      (nothing_begun noted, inl (waits_where s (after s u v) t m (s.threads t).stage before (subst (λ (z : Thread). IsWaiting (after s u v) t m z.stage) (put_there s.threads u t _ apart) h)))
    where
      nothing_begun : Noted s u v n → BeginsNone t (facts_of n)
      nothing_begun (Of_call k y is there) = subst (λ (z : Note). BeginsNone t (facts_of z)) (sym is) ((begins_stepped u v.mutex (decision u v.mutex v.operation v.point) (slept_in k (sleeps_at v.access (met s u v))) (woken_by v.access (met s u v) (met_queue s u v)) (moved_by v.access (met s u v) (met_queue s u v)) y).none t)
      nothing_begun (Of_walk d y is k op point awake_still stays_put) = subst (λ (z : Note). BeginsNone t (facts_of z)) (sym is) ((begins_walked u d (woken_by v.access (met s u v) (met_queue s u v)) y).none t)

      before : IsInAQueue (after s u v) t → IsInAQueue s t
      before (key, stands) =
          ⊎_elim (λ old. (key, old.1)) (λ new. ⊎_elim (λ falls. absurd (apart (sym falls.0))) (λ moved. (counter_place s.layout moved.from, moved.left)) new)
          (stood s u v g pos known is queued awake t key stands)

  -- the thread's own, in a lock
  module _ (pos : 1 ≤ t) (known : t ≤ s.layout.threads) where
    called : (o : Op) (p : Whole) → (s.threads t).stage ≡ Calling o p → is_asleep s t ≡ false → Comes (record { state = after s t (call_step s t o p); note = call_note s t o p })
    called o p is awake h = ((begins_stepped t (mutex_of s.layout o) (decision t (mutex_of s.layout o) (led o p (onto s t p)).operation (led o p (onto s t p)).point) (slept_in (Mutex (mutex_of s.layout o)) (sleeps_at (whole_access p) (s.words (place_met s.layout t (whole_access p))))) (woken_by (whole_access p) (s.words (place_met s.layout t (whole_access p))) (s.queues (place_met s.layout t (whole_access p)))) (moved_by (whole_access p) (s.words (place_met s.layout t (whole_access p))) (s.queues (place_met s.layout t (whole_access p)))) (led o p (onto s t p)).returned).none t, go (ended_or_not (onto s t p).phase))
      where
        fits : Fits s t (s.threads t).held (mutex_of s.layout o) p
        fits = (fits_in s t o p inv pos known is).0

        g : CallStep s t o p
        g = goes s t o p inv pos known is

        behind : State
        behind = after s t (call_step s t o p)

        here : IsWaiting behind t m (stage_after o p (onto s t p).phase)
        here = subst (λ (z : Thread). IsWaiting behind t m z.stage) (put-same s.threads t _) h

        -- the word that it met is its mutex's cell
        meets : (r : LockRow) → p.phase ≡ AtCell (row.Lock r) → place_met s.layout t (whole_access p) ≡ cell_place s.layout (mutex_of s.layout o)
        meets r at = ap (λ (f : Phase). place_met s.layout t (phase_access p f)) at ∙ of_row r ∙ ap (place_in s.layout t) fits.cell ∙ cell_again s.layout t inv.layout pos known (mutex_of s.layout o) fits.inside
          where
            of_row : (r : LockRow) → place_met s.layout t (row_access p.thread p.cell (row.Lock r)) ≡ place_in s.layout t p.cell
            of_row LockRow.Load = refl
            of_row (LockRow.Take v) = refl
            of_row (LockRow.SetWaiters v) = refl
            of_row (LockRow.Sleep v) = refl
            of_row LockRow.WakeAll = refl

        owned : place_met s.layout t (whole_access p) ≡ cell_place s.layout (mutex_of s.layout o) → is_anothers p.thread (owner_of (fields_of (s.words (place_met s.layout t (whole_access p)))).owner) ≡ true → OnMutex (Call.TimedLock m) ≡ o → is_anothers t (seen s m).owner ≡ true
        owned place other of =
            let at : mutex_of s.layout o ≡ m = sym (ap (mutex_of s.layout) of) in
            subst (λ (k : ℕ). is_anothers t (seen s k).owner ≡ true) at
            (ap (λ (x : Object). is_anothers t x.owner) (seen-inside s (mutex_of s.layout o) fits.inside)
            ∙ ap (λ (k : ℕ). is_anothers t (owner_of (fields_of (s.words k)).owner)) (sym place)
            ∙ ap (λ (u : ℕ). is_anothers u (owner_of (fields_of (s.words (place_met s.layout t (whole_access p)))).owner)) (sym fits.mine)
            ∙ other)

        was : OnMutex (Call.TimedLock m) ≡ o → (waits_in p.phase ≡ true) ⊎ IsInAQueue s t → IsWaiting s t m (s.threads t).stage
        was of about = subst (IsWaiting s t m) (sym is) (timed_waits s t m o p of about)

        by_phase : OnMutex (Call.TimedLock m) ≡ o → waits_in (onto s t p).phase ≡ true → IsWaiting s t m (s.threads t).stage ⊎ (is_anothers t (seen s m).owner ≡ true)
        by_phase of waits =
            ⊎_elim (λ before. inl (was of (inl before)))
            (λ now. inr (owned (meets now.0 now.1) now.2 of))
            (phase_waits p p.phase (s.words (place_met s.layout t (whole_access p))) (s.queues (place_met s.layout t (whole_access p))) waits)

        by_queue : OnMutex (Call.TimedLock m) ≡ o → IsInAQueue behind t → IsWaiting s t m (s.threads t).stage ⊎ (is_anothers t (seen s m).owner ≡ true)
        by_queue of (key, stands) =
            ⊎_elim (λ old. absurd (old.0 refl))
            (λ new. ⊎_elim (λ falls. let slept = g.sleeper falls.1 in inl (was of (inl (ap waits_in slept.1)))) (λ moved. absurd (moved.apart refl)) new)
            (stood s t (call_step s t o p) (call_stepping s t o p g fits) pos known is queued awake t key stands)

        go : ((x : Reply) × ((onto s t p).phase ≡ Ended x)) ⊎ ((c : Op) (q : Whole) → stage_after c q (onto s t p).phase ≡ Calling c (record q { phase = (onto s t p).phase })) → IsWaiting s t m (s.threads t).stage ⊎ (is_anothers t (seen s m).owner ≡ true)
        go (inl ended) = absurd (subst (λ (f : Phase). IsWaiting behind t m (stage_after o p f)) ended.1 here)
        go (inr on) =
            let waiting = timed_only behind t m o (record p { phase = (onto s t p).phase }) (subst (IsWaiting behind t m) (on o p) here) in
            ⊎_elim (by_phase waiting.0) (by_queue waiting.0) waiting.1

    steps : Comes (stepped s t (s.threads t).held (s.threads t).stage)
    steps =
        by_stage s t Comes (λ rests h. (tt, inl h))
        (λ o p is awake. subst Comes
        (sym (went-is s t (mutex_of s.layout o) (Mutex (mutex_of s.layout o)) (Calling o p) (whole_access p) (λ a. led o p (whole_led p a)) (call_stepping s t o p (goes s t o p inv pos known is) (fits_in s t o p inv pos known is).0).valid))
        (called o p is awake))
        (λ c p is awake h.
        let to : State = (went s t (s.threads t).held (mutex_of s.layout (OnCondition c)) (Condition (condition_of c)) (cond_access p) (led_at c p (cond_led p (answer_of s t (cond_access p))))).state in
        absurd (never_at to t m c p _ (subst (λ (z : Thread). IsWaiting to t m z.stage) (put-same s.threads t _) h)))
        (λ w is awake h.
        let to : State = (walked s t (s.threads t).held w).state in
        absurd (never_walks to t m w _ (subst (λ (z : Thread). IsWaiting to t m z.stage) (put-same s.threads t _) h)))

  -- ---- and every other event

  without_where : (u : ℕ) → (key : ℕ) × (stands_in t (without u (s.queues key)) ≡ true) → IsInAQueue s t
  without_where u (key, there) = (key, (without_stands u t (s.queues key) there).0)

  kills : (u : ℕ) → Comes (killed s u)
  kills u h =
      by_same u t
      (λ same. absurd (subst (λ (z : Thread). IsWaiting (killed s u).state t m z.stage) (put_here s.threads u t _ same) h))
      (λ apart. (tt, inl (waits_where s (killed s u).state t m _ (without_where u) (subst (λ (z : Thread). IsWaiting (killed s u).state t m z.stage) (put_there s.threads u t _ apart) h))))

  expires : (u k : ℕ) (p : Whole) → Comes (lapsed s u (s.threads u).held (OnMutex (Call.TimedLock k)) p)
  expires u k p h =
      by_same u t
      (λ same.
      let here = subst (λ (z : Thread). IsWaiting behind t m z.stage) (put_here s.threads u t _ same) h in
      absurd (⊎_elim (λ (e : false ≡ true). cc e) (λ (q : IsInAQueue behind t). (without_stands u t (s.queues q.0) q.1).1 (sym same)) here.1))
      (λ apart. (tt, inl (waits_where s behind t m _ (without_where u) (subst (λ (z : Thread). IsWaiting behind t m z.stage) (put_there s.threads u t _ apart) h))))
    where
      behind : State
      behind = (lapsed s u (s.threads u).held (OnMutex (Call.TimedLock k)) p).state

  -- nor is a wait a lock
  oversleeps : (u k : ℕ) (x : Limit) (p : Whole) → (s.threads u).stage ≡ Calling (OnCondition (CondCall.TimedWait k x)) p → Comes (overslept s u (s.threads u).held k p)
  oversleeps u k x p is h =
      by_same u t
      (λ same.
      let here = subst (λ (z : Thread). IsWaiting behind t m z.stage) (put_here s.threads u t _ same) h in
      absurd (cc (timed_only behind t m (OnCondition (CondCall.TimedWait k Past)) p here).0))
      (λ apart. (tt, inl (waits_where s behind t m _ (without_where u) (subst (λ (z : Thread). IsWaiting behind t m z.stage) (put_there s.threads u t _ apart) h))))
    where
      behind : State
      behind = (overslept s u (s.threads u).held k p).state

  -- whoever is awake stands in no queue
  awake_out : (u : ℕ) → u ≡ t → is_asleep s u ≡ false → IsInAQueue s t → ⊥
  awake_out u same awake (key, there) = let asleep = asleep_there s t key queued there in cc (asleep, sym (ap (is_asleep s) same) ∙ awake)

  declines : (u : ℕ) (o : Op) (p : Whole) (is : (s.threads u).stage ≡ Calling o p) (trims : IsTrimming p) → is_asleep s u ≡ false → Comes (record { state = declined_state s u o p is trims; note = quiet s u o p is trims })
  declines u o p is trims awake h =
      by_same u t
      (λ same.
      let here = timed_only behind t m o _ (subst (λ (z : Thread). IsWaiting behind t m z.stage) (put_here s.threads u t _ same) h) in
      absurd (⊎_elim (λ (e : false ≡ true). cc e) (awake_out u same awake) here.1))
      (λ apart. (tt, inl (waits_where s behind t m _ (λ q. q) (subst (λ (z : Thread). IsWaiting behind t m z.stage) (put_there s.threads u t _ apart) h))))
    where
      behind : State
      behind = declined_state s u o p is trims

  renews : (u : ℕ) → Comes (renewed s u)
  renews u h =
      by_same u t
      (λ same. absurd (subst (λ (z : Thread). IsWaiting (renewed s u).state t m z.stage) (put_here s.threads u t _ same) h))
      (λ apart. (tt, inl (waits_where s (renewed s u).state t m _ (λ q. q) (subst (λ (z : Thread). IsWaiting (renewed s u).state t m z.stage) (put_there s.threads u t _ apart) h))))

  reinits : (u k w : ℕ) → (s.threads u).stage ≡ Idle → Comes (reinited s u k w)
  reinits u k w idle h = let before = waits_where s (reinited s u k w).state t m (s.threads t).stage (λ q. q) h in ((not_idle u idle before, tt), inl before)

  spares : (u k : ℕ) (g : machine.Led) (sp : Sparing s u k g) → Comes (record { state = spared_state s u k g sp.how; note = unwoken u k })
  spares u k g sp h =
      by_same u t
      (λ same. absurd (goes_on sp.how same (subst (λ (z : Thread). IsWaiting behind t m z.stage) (put_here s.threads u t _ same) h)))
      (λ apart. (tt, inl (waits_where s behind t m _ (λ q. q) (subst (λ (z : Thread). IsWaiting behind t m z.stage) (put_there s.threads u t _ apart) h))))
    where
      behind : State
      behind = spared_state s u k g sp.how

      wakes : (o : Op) (p : Whole) → (s.threads u).stage ≡ Calling o p → p.phase ≡ AtCell (row.Unlock (UnlockRow.Wake false)) → u ≡ t → IsInAQueue s t → ⊥
      wakes o p is at same (key, there) =
          let slept : SleepsAs s.layout key (Calling o p) = subst (SleepsAs s.layout key) (ap (λ (v : ℕ). (s.threads v).stage) (sym same) ∙ is) (queued.sleeps key t there).2 in
          cc (slept.0, at)

      goes_on : (how : HowSpared s u k g) → u ≡ t → IsWaiting behind t m (next_of s u k g how) → ⊥
      goes_on (Of_unlock o p is mutex at leads) same here = ⊎_elim (λ (e : false ≡ true). cc e) (wakes o p is at same) (timed_only behind t m o _ here).1
      goes_on (Of_wait c p seen is mutex at leads) same here = here

  comes : (e : Event) → Comes (happens s e)
  comes e =
      by_event s (λ (x : Event) (a : After). Comes a)
      (λ x h. (tt, inl h))
      (λ u o pos known inside idle b full. begins u o idle b)
      (λ u pos known.
      by_same u t
      (λ same. subst (λ (v : ℕ). 1 ≤ v → v ≤ s.layout.threads → Comes (stepped s v (s.threads v).held (s.threads v).stage)) (sym same) steps pos known)
      (λ apart. by_step s u inv pos known Comes (λ rests h. (tt, inl h)) (λ v n is awake g noted. others u v n g pos known is awake noted apart)))
      (λ u pos known alive. kills u)
      (λ u pos known asleep h. (tt, inl (waits_where s (departed s u).state t m (s.threads t).stage (without_where u) h)))
      (λ u k p pos known is asleep may. expires u k p)
      (λ u k x p pos known is there. oversleeps u k x p is)
      (λ u o p pos known is awake trims. subst Comes (sym (spared_is s u o p is trims inv pos known)) (declines u o p is trims awake))
      (λ u pos known gone. renews u)
      (λ u k may. reinits u k (waiters_of (s.words (cell_place s.layout k))) may.resting)
      (λ u k g sp. subst Comes (sym (spare_is s u k g sp inv)) (spares u k g sp))
      e

  -- ---- what an event tells

  abbrev Reasons : After → Type 0
  Reasons a = (c : Chances) → (IsWaiting s t m (s.threads t).stage → c.waited ≡ true) → TimeLimitsHaveReasons t m c (facts_of a.note)

  walked_reasons : (u : ℕ) (d : Option ℕ) (ws : List ℕ) (y : Bool) (c : Chances) → TimeLimitsHaveReasons t m c (facts_of (Walked u d ws y))
  walked_reasons u d ws y c = untimed_reasons t m c (facts_of (Walked u d ws y)) (walked_untimed u d ws y)

  expired_reasons : (u k : ℕ) (p : Whole) → (s.threads u).stage ≡ Calling (OnMutex (Call.TimedLock k)) p → is_asleep s u ≡ true → Reasons (lapsed s u (s.threads u).held (OnMutex (Call.TimedLock k)) p)
  expired_reasons u k p is asleep c w =
      (tt, ((λ mine there told. stays_next (begins_call t (Fact.Wake u)) c.waited _ refl (w (subst (λ (v : ℕ). IsWaiting s v m (s.threads v).stage) mine (subst (IsWaiting s u m) (sym is) (there, inr (asleep_where s u asleep)))))), tt))

  reasons : (e : Event) → Reasons (happens s e)
  reasons e =
      by_event s (λ (x : Event) (a : After). Reasons a)
      (λ x c w. tt)
      (λ u o pos known inside idle b full c w. untimed_reasons t m c _ (begun_untimed s inv u o b))
      (λ u pos known c w. untimed_reasons t m c _ (step_untimed s inv u pos known))
      (λ u pos known alive c w. (tt, tt))
      (λ u pos known asleep c w. (tt, tt))
      (λ u k p pos known is asleep may. expired_reasons u k p is asleep)
      (λ u k x p pos known is there c w. (tt, tt))
      (λ u o p pos known is awake trims. subst Reasons (sym (spared_is s u o p is trims inv pos known)) (λ c w. tt))
      (λ u pos known gone c w. (tt, tt))
      (λ u k may c w. untimed_reasons t m c (facts_of (reinited s u k 0).note) ((λ e. cc e), tt))
      (λ u k g sp. subst Reasons (sym (spare_is s u k g sp inv)) (λ c w. tt))
      e

-- ---- runs

-- this many lines tell of a state
record Chanced (s : State) (t m : ℕ) (c : Chances) : Type 0 where
  sees : c.mutex ≡ seen s m
  aware : Aware t c
  waits : IsWaiting s t m (s.threads t).stage → c.waited ≡ true

chanced_on : (s : State) (e : Event) (t m : ℕ) (c : Chances) → Kept s → Queued s → Chanced s t m c → Chanced (happens s e).state t m (chances_after t m c (facts_of (happens s e).note))
chanced_on s e t m c inv queued h = record {
  sees = mutex_by t m c fs ∙ ap (λ (o : Object). decided_after m o (points_of fs)) h.sees ∙ seen_after s (happens s e).state m (points_of fs) (sound s e inv).told;
  aware = aware_after t m c fs h.aware;
  waits = λ waiting.
      let before = comes s t m inv queued e waiting in
      stays t m c fs before.0 (⊎_elim h.waits (λ other. h.aware (ap (λ (o : Object). is_anothers t o.owner) h.sees ∙ other)) before.1);
}
  where
    fs : List Fact
    fs = facts_of (happens s e).note

reasons-append : (t m : ℕ) (c : Chances) (fs gs : List Fact) → TimeLimitsHaveReasons t m c fs → TimeLimitsHaveReasons t m (chances_after t m c fs) gs → TimeLimitsHaveReasons t m c (fs ++ gs)
reasons-append t m c [] gs h k = k
reasons-append t m c (f ∷ fs) gs h k = (h.0, reasons-append t m (chances_next t m c f) fs gs h.1 k)

run_reasons : (s : State) (es : List Event) (t m : ℕ) (c : Chances) → Kept s → Queued s → Chanced s t m c → TimeLimitsHaveReasons t m c (facts_among (notes s es))
run_reasons s [] t m c inv queued h = tt
run_reasons s (e ∷ es) t m c inv queued h =
    reasons-append t m c (facts_of (happens s e).note) (facts_among (notes (happens s e).state es)) (reasons s t m inv queued e c h.waits)
    (run_reasons (happens s e).state es t m _ (sound s e inv).kept (queued_on s e inv queued) (chanced_on s e t m c inv queued h))

pub in_time : NobodyTimesOutEarly
in_time l counters events is t m =
    run_reasons (start l counters) events t m no_chances (start_kept l counters is) (start_queued l counters)
    (record { sees = sym (seen-start l counters m); aware = λ e. absurd cc; waits = λ h. absurd h })

-- ---- where no time limit comes

untimed-append : (fs gs : List Fact) → Untimed (points_of fs) → Untimed (points_of gs) → Untimed (points_of (fs ++ gs))
untimed-append [] gs h k = k
untimed-append (Fact.Point d ∷ fs) gs h k = (h.0, untimed-append fs gs h.1 k)
untimed-append (Fact.Death u m ∷ fs) gs h k = (h.0, untimed-append fs gs h.1 k)
untimed-append (f ∷ fs) gs h k = untimed-append fs gs h k

run_untimed : (s : State) (es : List Event) → Kept s → NoLimitComes es → Untimed (points_of (facts_among (notes s es)))
run_untimed s [] inv none = tt
run_untimed s (e ∷ es) inv none =
    untimed-append (facts_of (happens s e).note) (facts_among (notes (happens s e).state es)) (untimed_in s inv e none.0)
    (run_untimed (happens s e).state es (sound s e inv).kept none.1)

in_time-of : (fs : List Fact) → Untimed (points_of fs) → AreInTime fs
in_time-of [] h = tt
in_time-of (Fact.Point d ∷ fs) h = (h.0, in_time-of fs h.1)
in_time-of (Fact.Death u m ∷ fs) h = (tt, in_time-of fs h.1)
in_time-of (f ∷ fs) h = (tt, in_time-of fs h)

pub as_before : LocksWithoutLimits
as_before l counters events is none =
    let s0 : State = start l counters in
    let same = runs_same s0 events none in
    record {
      in_time = in_time-of (facts_among (notes s0 events)) (run_untimed s0 events (start_kept l counters is) none);
      noted = same.1;
      words = λ p. ap (λ (s : State). s.words p) same.0;
      queues = λ key. ap (λ (s : State). s.queues key) same.0;
    }
