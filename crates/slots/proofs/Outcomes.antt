-- In any run, a call returns the reply of its point, and a lock whose deadline isn't a time doesn't wait.
use Rattle.std.proofs.Common.{◌≡◌, ◌≢◌, ◌⊎◌, inl, inr, ℕ, ◌+◌, ◌%◌, ◌<◌, ◌≤◌, ◌==◌, Bool, true, false, Some, List, [], ◌∷◌, ◌++◌, length, refl, sym, ap, ◌∙◌, subst, arith, eqb-true, eq-eqb}
use Rattle.std.specs.Prelude.{if◌then◌else◌, not, ◌&&◌, ◌||◌, nat_lt}
use Rattle.lockword.specs.Cells.{bit, fields_of}
use Rattle.lockword.specs.declared.reply.Reply.{Reply}
use Rattle.lockword.specs.declared.reply.Reply.TheVariants.{OK, EINVAL, EPERM, ETIMEDOUT, EDEADLK, ENOTRECOVERABLE, XSTATE}
use Rattle.memorymap.specs.Layouts.{Layout', IsLayout, cell_place}
use Rattle.condvar.specs.Calls.{reply_of}
use Rattle.condvar.specs.declared.call.CondCall.TheVariants.{TimedWait}
use Rattle.mutex.specs.Rows.{acquired}
use Rattle.posixmutex.specs.declared.point.Decision.{Decision}
use Rattle.posixmutex.specs.declared.point.Operation.{Operation}
use Rattle.posixmutex.specs.declared.point.Operation.TheVariants as op
use Rattle.slots.specs.Places.{cell_of}
use Rattle.slots.specs.Rows.{Choice, How, Row, Taking, about}
use Rattle.slots.specs.Rows.How.{Tried, Later, Waited}
use Rattle.slots.specs.Rows.Giving.{OfUnlock, OfWait}
use Rattle.slots.specs.Words.{is_free}
use Rattle.protocol.specs.declared.thread.Stage.{Stage}
use Rattle.protocol.specs.Machine.{is_asleep}
use Rattle.slots.specs.Shown.{Slots, begin, shown}
use Rattle.slots.specs.Table.{made}
use Rattle.slots.specs.Runs.{Happening, is_first, is_first_row, is_ours, is_resting, lapse_row, may_be_due, may_call, next, overdue_after, reached, reached_from}
use Rattle.slots.specs.Fits.{Fits, IsOurs}
use Rattle.slots.specs.Goes.{who}
use Rattle.slots.specs.Premises.{AllTrusted, SeesCount, TrustsIn}
use Rattle.slots.specs.Deadlines.{has_deadline, is_anothers, is_lock}
use Rattle.slots.specs.Replies.{Deed, GoesOn, HasEnded, IsItsOwn, MayDo, Progress, after_deed, counts_as, decided, deed, late, lock_progress, locking, locks, looked, looked_first, points_in, progress, refused_or, replied, reply, returned, tried}
use Rattle.slots.specs.Replies.Deed.{Nothing, Unlocks, Decides, Refuses}
use Rattle.slots.specs.Outcomes.{Call, CallsReturnTheirPoints, EndsAs, IsPoint, IsTurnedAway, Returns, WrongDeadlinesAreRefused, begun_at, call_after, call_from, call_next, call_so_far, count_of, ends_wait, gone_on, has_met, hears, is_in_sleep, is_mistimed, is_reinit, is_wait, limit, no_call, signals_at, signals_to, sleeps_until, unlocks}
use Rattle.slots.proofs.CountersKept.{count_at}
use Rattle.slots.proofs.Deciding.{One, decides_once, one_row}
use Rattle.slots.proofs.DueDeeds.{begins_not_ok, decides_out}
use Rattle.slots.proofs.DueOn.{due_row}
use Rattle.slots.proofs.DueRows.{Keeps, in_wait, is_late, is_out, may_wait, times_out}
use Rattle.slots.proofs.Following.{begins_steady, layout_then, steady_next, steady_run}
use Rattle.slots.proofs.HappensTo.{HappensTo, happens_to, lapsed_on}
use Rattle.slots.proofs.Keeping.{rests_at}
use Rattle.slots.proofs.Leading.{by_test}
use Rattle.slots.proofs.Meets.{Says, cell_says}
use Rattle.slots.proofs.Origins.{AsBegun, From, GivesSo, Origin, WaitFrom, begun_row, first_begun, is_wait_late, know_begun, lapse_begun, later_from, wait_deadline}
use Rattle.slots.proofs.Owned.{our_cell}
use Rattle.slots.proofs.Signals.{signals_row}
use Rattle.slots.proofs.Sleeping.{counter_shows}
use Rattle.slots.proofs.Steady.{Steady}

no_more : (ds : List Decision) → ds ++ [] ≡ ds
no_more [] = refl
no_more (d ∷ ds) = ap (λ (es : List Decision). d ∷ es) (no_more ds)

-- the first point is a wait's
abbrev is_waits : Operation → Bool
is_waits op.Wait = true
is_waits o = false

abbrev waits_first : List Decision → Bool
waits_first [] = false
waits_first (d ∷ ds) = is_waits d.operation

-- ---- how a call began

-- it may begin so
abbrev Began : Row → Type 0
Began b = (l : Layout') × (held : ℕ) × (may_call l held b ≡ true)

-- a lock begins when it has only tried
tries : (k : Taking) → Began (Row.Looks k) → k.how ≡ Tried
tries k (l, held, e) = go k.how (is_ours l k.mutex) (nat_lt held 2046) (may_be_due k) e
  where
    go : (h : How) (a b d : Bool) → (is_first h && a && b && d) ≡ true → h ≡ Tried
    go Tried a b d e = refl
    go Later a b d e = absurd cc
    go (Waited z) a b d e = absurd cc

looks_as : (k : Taking) → Began (Row.Looks k) → progress (Row.Looks k) ≡ locking k.wrong
looks_as k b = ap (λ (h : How). lock_progress h k.wrong) (tries k b)

-- a lock whose deadline is a time, or another call
timely_if : (b : Row) → Began b → (o : Operation) → progress b ≡ Progress.Called o → is_mistimed b ≡ false
timely_if (Row.Looks k) began o e = go k.wrong (sym (looks_as k began) ∙ e)
  where
    go : (w : Bool) → locking w ≡ Progress.Called o → w ≡ false
    go false e = refl
    go true e = absurd cc
timely_if r began o e = refl

mistimed_if : (b : Row) → Began b → progress b ≡ Progress.Mistimed → is_mistimed b ≡ true
mistimed_if (Row.Looks k) began e = go k.wrong (sym (looks_as k began) ∙ e)
  where
    go : (w : Bool) → locking w ≡ Progress.Mistimed → w ≡ true
    go true e = refl
    go false e = absurd cc
mistimed_if (Row.TryLooks m) began e = absurd cc
mistimed_if (Row.GiveLooks m) began e = absurd cc
mistimed_if (Row.MendLooks m) began e = absurd cc
mistimed_if (Row.AnewLooks m) began e = absurd cc
mistimed_if (Row.WaitLooks m k timed) began e = absurd cc
mistimed_if (Row.CountLooks m k all) began e = absurd cc
mistimed_if r (l, held, e) is = absurd cc

mistimed_due : (b : Row) → Began b → is_mistimed b ≡ true → has_deadline b ≡ true
mistimed_due (Row.Looks k) (l, held, e) wrong = go k.timed k.wrong wrong (last_of (is_first k.how && is_ours l k.mutex && nat_lt held 2046) (may_be_due k) e)
  where
    last_of : (a b : Bool) → (a && b) ≡ true → b ≡ true
    last_of true b e = e
    last_of false b e = absurd cc

    go : (timed wrong : Bool) → wrong ≡ true → (timed || not wrong) ≡ true → timed ≡ true
    go true wrong is e = refl
    go false true is e = absurd cc
    go false false is e = absurd cc
mistimed_due r began wrong = absurd cc

reinit_if : (b : Row) → Began b → progress b ≡ Progress.Called op.Reinit → is_reinit b ≡ true
reinit_if (Row.Looks k) began e = go k.wrong (sym (looks_as k began) ∙ e)
  where
    go : (w : Bool) → locking w ≡ Progress.Called op.Reinit → is_reinit (Row.Looks k) ≡ true
    go true e = absurd cc
    go false e = absurd cc
reinit_if (Row.TryLooks m) began e = absurd cc
reinit_if (Row.GiveLooks m) began e = absurd cc
reinit_if (Row.MendLooks m) began e = absurd cc
reinit_if (Row.AnewLooks m) began e = refl
reinit_if (Row.WaitLooks m k timed) began e = absurd cc
reinit_if (Row.CountLooks m k true) began e = absurd cc
reinit_if (Row.CountLooks m k false) began e = absurd cc
reinit_if r (l, held, e) is = absurd cc

wait_if : (b : Row) → Began b → progress b ≡ Progress.Called op.Wait → is_wait b ≡ true
wait_if (Row.Looks k) began e = go k.wrong (sym (looks_as k began) ∙ e)
  where
    go : (w : Bool) → locking w ≡ Progress.Called op.Wait → is_wait (Row.Looks k) ≡ true
    go true e = absurd cc
    go false e = absurd cc
wait_if (Row.TryLooks m) began e = absurd cc
wait_if (Row.GiveLooks m) began e = absurd cc
wait_if (Row.MendLooks m) began e = absurd cc
wait_if (Row.AnewLooks m) began e = absurd cc
wait_if (Row.WaitLooks m k timed) began e = refl
wait_if (Row.CountLooks m k true) began e = absurd cc
wait_if (Row.CountLooks m k false) began e = absurd cc
wait_if r (l, held, e) is = absurd cc

module _ (t m : ℕ) where
  -- ---- how it ends, if it isn't late

  abbrev Ended : Row → List Decision → Reply → Type 0
  Ended b ds y = EndsAs t m ds false y b

  point : (d : Decision) (o : Operation) → d.thread ≡ t → d.mutex ≡ m → d.operation ≡ o → IsPoint t m (d ∷ []) false d.reply o
  point d o its of is = λ i. record { thread = its i; mutex = of i; operation = is i; reply = d.reply } ∷ []

  -- by its first point
  decides : (b : Row) → Began b → (d : Decision) → MayDo (progress b) (Decides d) → d.thread ≡ t → d.mutex ≡ m → (is_out d.reply ≡ true → is_mistimed b ≡ false) → Ended b (d ∷ []) d.reply
  decides (Row.Looks k) began d may its of timely = go k.wrong timely (subst (λ (p : Progress). MayDo p (Decides d)) (looks_as k began) may)
    where
      go : (w : Bool) → (is_out d.reply ≡ true → w ≡ false) → MayDo (locking w) (Decides d) → IsPoint t m (d ∷ []) false d.reply op.Lock ⊎ IsTurnedAway t m (d ∷ []) false d.reply w
      go true timely (inl is) = inl (point d op.Lock its of is)
      go true timely (inr (is, out)) = absurd (cc (timely (ap is_out out)))
      go false timely (inl is) = inl (point d op.Lock its of is)
      go false timely (inr (is, out)) = inr (point d op.TimedLock its of is, out)
  decides (Row.TryLooks j) began d may its of timely = point d op.TryLock its of may
  decides (Row.GiveLooks j) began d may its of timely = point d op.Unlock its of may
  decides (Row.MendLooks j) began d may its of timely = point d op.Consistent its of may
  decides (Row.AnewLooks j) began d may its of timely = point d op.Reinit its of may
  decides (Row.WaitLooks j k timed) began d may its of timely = inl (point d op.Wait its of may)
  decides (Row.CountLooks j k true) began d may its of timely = point d op.Broadcast its of may
  decides (Row.CountLooks j k false) began d may its of timely = point d op.Signal its of may
  decides r (l, held, e) d may its of timely = absurd cc

  refuses : (b : Row) → Began b → progress b ≡ Progress.Mistimed → Ended b [] EINVAL
  refuses (Row.Looks k) began e = go k.wrong (sym (looks_as k began) ∙ e)
    where
      go : (w : Bool) → locking w ≡ Progress.Mistimed → IsPoint t m [] false EINVAL op.Lock ⊎ IsTurnedAway t m [] false EINVAL w
      go true e = inr (refl, refl)
      go false e = absurd cc
  refuses (Row.TryLooks j) began e = absurd cc
  refuses (Row.GiveLooks j) began e = absurd cc
  refuses (Row.MendLooks j) began e = absurd cc
  refuses (Row.AnewLooks j) began e = absurd cc
  refuses (Row.WaitLooks j k timed) began e = absurd cc
  refuses (Row.CountLooks j k all) began e = absurd cc
  refuses r (l, held, e) is = absurd cc

  abbrev unlock : Decision
  unlock = decided t m op.Unlock OK

  waits : (b : Row) → is_wait b ≡ true → (d : Decision) → d.thread ≡ t → d.mutex ≡ m → d.operation ≡ op.Lock → Ended b (unlock ∷ d ∷ []) d.reply
  waits (Row.WaitLooks j k timed) e d its of is = inr (d.reply, ap (λ (ds : List Decision). unlock ∷ ds) (point d op.Lock its of is), in_time d.reply)
    where
      in_time : (y : Reply) → y ≡ reply_of (TimedWait k (limit false)) y
      in_time OK = refl
      in_time y = refl
  waits r e d its of is = absurd cc

  -- ---- a call so far

  -- it is as far as this
  abbrev Matches : Call → Progress → Type 0
  Matches s Progress.Idle = Unit {0}
  Matches s (Progress.Called o) = (progress s.began ≡ Progress.Called o) × (s.points ≡ [])
  Matches s Progress.Mistimed = (progress s.began ≡ Progress.Mistimed) × (s.points ≡ [])
  Matches s Progress.Unlocked = (is_wait s.began ≡ true) × (s.points ≡ unlock ∷ [])
  Matches s (Progress.Decided y) = Ended s.began s.points y

  -- it has been late since it unlocked its mutex
  abbrev HasUnlocked : Call → Type 0
  HasUnlocked s = (is_wait s.began ≡ true) × ((ds : List Decision) × (s.points ≡ unlock ∷ ds))

  abbrev more : Call → Bool → Bool → List Decision → Call
  more s signalled late ds = record { began = s.began; points = s.points ++ ds; passed = s.passed; signalled = signalled; late = late }

  -- with this deed
  then_matches : (s : Call) (signalled late : Bool) (p : Progress) (e : Deed) → Began s.began → Matches s p → MayDo p e → IsItsOwn t m e → (times_out e ≡ true → is_mistimed s.began ≡ false) → Matches (more s signalled late (points_in e)) (after_deed p e)
  then_matches s signalled late p Nothing began is may own timely = stays p is
    where
      same : s.points ++ [] ≡ s.points
      same = no_more s.points

      stays : (p : Progress) → Matches s p → Matches (more s signalled late []) p
      stays Progress.Idle is = tt
      stays (Progress.Called o) is = (is.0, same ∙ is.1)
      stays Progress.Mistimed is = (is.0, same ∙ is.1)
      stays Progress.Unlocked is = (is.0, same ∙ is.1)
      stays (Progress.Decided y) is = subst (λ (ds : List Decision). Ended s.began ds y) (sym same) is
  then_matches s signalled late (Progress.Called op.Wait) (Unlocks d) began is may own timely = (wait_if s.began began is.0, ap (λ (ds : List Decision). ds ++ d ∷ []) is.1 ∙ (λ i. record { thread = own.0 i; mutex = own.1 i; operation = may.0 i; reply = may.1 i } ∷ []))
  then_matches s signalled late (Progress.Called o) (Decides d) began is may own timely = subst (λ (ds : List Decision). Ended s.began (ds ++ d ∷ []) d.reply) (sym is.1) (decides s.began began d (subst (λ (p : Progress). MayDo p (Decides d)) (sym is.0) may) own.0 own.1 timely)
  then_matches s signalled late Progress.Mistimed (Decides d) began is may own timely = subst (λ (ds : List Decision). Ended s.began (ds ++ d ∷ []) d.reply) (sym is.1) (decides s.began began d (subst (λ (p : Progress). MayDo p (Decides d)) (sym is.0) may) own.0 own.1 timely)
  then_matches s signalled late Progress.Unlocked (Decides d) began is may own timely = subst (λ (ds : List Decision). Ended s.began (ds ++ d ∷ []) d.reply) (sym is.1) (waits s.began is.0 d own.0 own.1 may)
  then_matches s signalled late Progress.Mistimed (Refuses y) began is may own timely = subst (λ (z : Reply). Ended s.began (s.points ++ []) z) (sym may) (subst (λ (ds : List Decision). Ended s.began (ds ++ []) EINVAL) (sym is.1) (refuses s.began began is.0))
  then_matches s signalled late p e began is may own timely = absurd may

-- ---- a deadline, and signals

-- a wait that has unlocked its mutex, and sleeps on count n, has been signalled just if the count has risen
abbrev pub Tells : (ℕ → ℕ) → Bool → ℕ → ℕ → Type 0
Tells counts signalled k n = (signalled ≡ false → counts k ≡ n) × (signalled ≡ true → n < counts k)

-- it is a wait whose deadline hasn't passed in its sleep
abbrev is_early : Row → Bool
is_early (Row.WaitAsleep m k n timed) = timed
is_early (Row.WaitLate m k n) = false
is_early r = in_wait r

-- a lock whose deadline has passed in its sleep
abbrev is_timed_out : Row → Bool
is_timed_out (Row.Late k) = true
is_timed_out (Row.LateSees k) = true
is_timed_out (Row.Clears m y) = is_out y
is_timed_out r = false

-- what is known of thread t's call at row r, overdue or not, if counts are so
pub record IsCall (t : ℕ) (r : Row) (overdue : Bool) (counts : ℕ → ℕ) (s : Call) : Type 0 where
  began : Began s.began
  mutex : about r ≡ about s.began
  stage : Matches t (about s.began) s (progress r)
  timely : has_met r ≡ true → is_mistimed s.began ≡ false
  late : is_first_row r ≡ false → overdue ≡ s.late
  unlocked : s.late ≡ true → HasUnlocked t (about s.began) s
  begun : AsBegun s.began s.passed (Tells counts s.signalled) r
  early : is_early r ≡ true → s.passed ≡ false
  passed : s.late ≡ true → s.passed ≡ true
  due : is_wait_late r ≡ true → (s.passed ≡ true) × (s.late ≡ false)
  settled : is_wait_late r ≡ false → (is_wait s.began && s.passed && not s.signalled) ≡ true → s.late ≡ true
  out : is_lock s.began ≡ true → s.passed ≡ true → is_timed_out r ≡ true

-- in a call
abbrev Known : ℕ → Row → Bool → (ℕ → ℕ) → Call → Type 0
Known t r overdue counts s = is_resting r ≡ false → IsCall t r overdue counts s

resting : (t : ℕ) (r : Row) (overdue : Bool) (counts : ℕ → ℕ) (s : Call) → r ≡ Row.Rests → Known t r overdue counts s
resting t r overdue counts s is busy = absurd (cc (sym busy ∙ ap is_resting is))

and_true : (a : Bool) → (a && true) ≡ a
and_true true = refl
and_true false = refl

and_false : (a : Bool) → (a && false) ≡ false
and_false true = refl
and_false false = refl

or_true : (a : Bool) → (a || true) ≡ true
or_true true = refl
or_true false = refl

-- a call begins
starts : (t : ℕ) (l : Layout') (held : ℕ) (r : Row) (overdue : Bool) (counts : ℕ → ℕ) → may_call l held r ≡ true → IsCall t r overdue counts (begun_at r)
starts t l held r overdue counts e = record {
  began = (l, held, e);
  mutex = refl;
  stage = undecided r e;
  timely = λ met. absurd (cc (sym met ∙ unmet r e));
  late = λ inside. absurd (cc (sym inside ∙ first r e));
  unlocked = λ late. absurd cc;
  begun = first_begun l held r (Tells counts false) e;
  early = λ early. refl;
  passed = λ late. absurd cc;
  due = λ due. absurd (cc (sym due ∙ new r e));
  settled = λ other so. absurd (cc (sym so ∙ ap (λ (b : Bool). b && true) (and_false (is_wait r))));
  out = λ lock passed. absurd cc;
}
  where
    new : (b : Row) → may_call l held b ≡ true → is_wait_late b ≡ false
    new (Row.Looks k) e = refl
    new (Row.TryLooks m) e = refl
    new (Row.GiveLooks m) e = refl
    new (Row.MendLooks m) e = refl
    new (Row.AnewLooks m) e = refl
    new (Row.WaitLooks m k timed) e = refl
    new (Row.CountLooks m k all) e = refl
    new b e = absurd cc

    undecided : (b : Row) → may_call l held b ≡ true → Matches t (about r) (begun_at b) (progress b)
    undecided (Row.Looks k) e = go (progress (Row.Looks k)) (locks_so k.wrong (looks_as k (l, held, e))) refl
      where
        locks_so : (w : Bool) → progress (Row.Looks k) ≡ locking w → (progress (Row.Looks k) ≡ Progress.Mistimed) ⊎ (progress (Row.Looks k) ≡ Progress.Called op.Lock)
        locks_so true is = inl is
        locks_so false is = inr is

        go : (p : Progress) → (p ≡ Progress.Mistimed) ⊎ (p ≡ Progress.Called op.Lock) → progress (Row.Looks k) ≡ p → Matches t (about r) (begun_at (Row.Looks k)) p
        go p (inl is) same = subst (Matches t (about r) (begun_at (Row.Looks k))) (sym is) (same ∙ is, refl)
        go p (inr is) same = subst (Matches t (about r) (begun_at (Row.Looks k))) (sym is) (same ∙ is, refl)
    undecided (Row.TryLooks m) e = (refl, refl)
    undecided (Row.GiveLooks m) e = (refl, refl)
    undecided (Row.MendLooks m) e = (refl, refl)
    undecided (Row.AnewLooks m) e = (refl, refl)
    undecided (Row.WaitLooks m k timed) e = (refl, refl)
    undecided (Row.CountLooks m k all) e = (refl, refl)
    undecided b e = absurd cc

    unmet : (b : Row) → may_call l held b ≡ true → has_met b ≡ false
    unmet (Row.Looks k) e = refl
    unmet (Row.TryLooks m) e = refl
    unmet (Row.GiveLooks m) e = refl
    unmet (Row.MendLooks m) e = refl
    unmet (Row.AnewLooks m) e = refl
    unmet (Row.WaitLooks m k timed) e = refl
    unmet (Row.CountLooks m k all) e = refl
    unmet b e = absurd cc

    first : (b : Row) → may_call l held b ≡ true → is_first_row b ≡ true
    first (Row.Looks k) e = refl
    first (Row.TryLooks m) e = refl
    first (Row.GiveLooks m) e = refl
    first (Row.MendLooks m) e = refl
    first (Row.AnewLooks m) e = refl
    first (Row.WaitLooks m k timed) e = refl
    first (Row.CountLooks m k all) e = refl
    first b e = absurd cc

-- ---- a call is refused only if another thread owns the mutex

module _ (x : Slots) (t : ℕ) (c : Choice) where
  abbrev cell : ℕ → ℕ
  cell j = shown x (cell_place x.machine.layout (cell_of j))

  abbrev RefusedSo : Row → Deed → Type 0
  RefusedSo r e = (y : Reply) → e ≡ Refuses y → is_anothers x.machine t (about r) ≡ true

  neither : (r : Row) (b : Bool) (e f : Deed) → RefusedSo r e → RefusedSo r f → RefusedSo r (if b then e else f)
  neither r true e f first second = first
  neither r false e f first second = second

  by_look : (r : Row) (i : Taking) → IsOurs x.machine.layout i.mutex → about r ≡ i.mutex → RefusedSo r (looked_first t i (cell i.mutex))
  by_look r i ours same = go (fields_of (cell i.mutex)).unusable ((fields_of (cell i.mutex)).owner == 0) refl ((fields_of (cell i.mutex)).owner == t) refl
    where
      says : Says (x.machine.words (cell_place x.machine.layout (cell_of i.mutex))) (cell i.mutex)
      says = cell_says x i.mutex (our_cell x.machine.layout i.mutex ours)

      go : (a b : Bool) → ((fields_of (cell i.mutex)).owner == 0) ≡ b → (d : Bool) → ((fields_of (cell i.mutex)).owner == t) ≡ d
          → RefusedSo r (if a then locks t i.mutex ENOTRECOVERABLE else if b then Nothing else if d then locks t i.mutex EDEADLK else refused_or i i.how)
      go true b some d other = λ y e. absurd cc
      go false true some d other = λ y e. absurd cc
      go false false some true other = λ y e. absurd cc
      go false false some false other = λ y e. ap (λ (j : ℕ). is_anothers x.machine t j) same ∙ (λ i. not (sym says.owner i == 0) && not (sym says.owner i == t)) ∙ (λ i. not (some i) && not (other i))

  looks : (r : Row) (j w : ℕ) → RefusedSo r (looked t j w)
  looks r j w = neither r (fields_of w).unusable (locks t j ENOTRECOVERABLE) _ (λ y e. absurd cc) (neither r ((fields_of w).owner == 0) Nothing _ (λ y e. absurd cc) (neither r ((fields_of w).owner == t) (locks t j EDEADLK) Nothing (λ y e. absurd cc) (λ y e. absurd cc)))

  late_so : (r : Row) (i : Taking) → RefusedSo r (late x t c i)
  late_so r i = neither r (i.timed && c.yes) (Decides (decided t i.mutex op.TimedLock ETIMEDOUT)) Nothing (λ y e. absurd cc) (λ y e. absurd cc)

  pub refused_row : (r : Row) (g : Stage) → Fits x.machine.layout t r g → RefusedSo r (deed x t c r)
  refused_row (Row.Looks i) g o = neither (Row.Looks i) ((fields_of (cell i.mutex)).owner == t) (locks t i.mutex EDEADLK) Nothing (λ y e. absurd cc) (λ y e. absurd cc)
  refused_row (Row.Sees i) g o = by_look (Row.Sees i) i o.ours refl
  refused_row (Row.Takes i v) g o = neither (Row.Takes i v) (cell i.mutex == v) (locks t i.mutex (acquired (fields_of v))) (looked_first t i (cell i.mutex)) (λ y e. absurd cc) (by_look (Row.Takes i v) i o.0.ours refl)
  refused_row (Row.SeesAgain i v) g o = by_look (Row.SeesAgain i v) i o.0.ours refl
  refused_row (Row.Marks i v n) g o = neither (Row.Marks i v n) (cell i.mutex == v) Nothing (looked t i.mutex (cell i.mutex)) (λ y e. absurd cc) (looks (Row.Marks i v n) i.mutex (cell i.mutex))
  refused_row (Row.SeesToSleep i) g o = neither (Row.SeesToSleep i) (fields_of (cell i.mutex)).unusable (locks t i.mutex ENOTRECOVERABLE) Nothing (λ y e. absurd cc) (λ y e. absurd cc)
  refused_row (Row.HeirTakes i v) g o = neither (Row.HeirTakes i v) (cell i.mutex == v) (locks t i.mutex (acquired (fields_of v))) Nothing (λ y e. absurd cc) (λ y e. absurd cc)
  refused_row (Row.LastLooks i) g o = neither (Row.LastLooks i) (fields_of (cell i.mutex)).unusable (locks t i.mutex ENOTRECOVERABLE) _ (λ y e. absurd cc)
      (neither (Row.LastLooks i) ((fields_of (cell i.mutex)).owner == 0) Nothing _ (λ y e. absurd cc) (neither (Row.LastLooks i) (fields_of (cell i.mutex)).waiters (late x t c i) Nothing (late_so (Row.LastLooks i) i) (λ y e. absurd cc)))
  refused_row (Row.LastMarks i v) g o = neither (Row.LastMarks i v) (cell i.mutex == v) (late x t c i) Nothing (late_so (Row.LastMarks i v) i) (λ y e. absurd cc)
  refused_row (Row.TryLooks j) g o = neither (Row.TryLooks j) (is_free (cell j)) Nothing (tried t j (cell j)) (λ y e. absurd cc) (λ y e. absurd cc)
  refused_row (Row.TryTakes j v) g o = neither (Row.TryTakes j v) (cell j == v) (Decides (decided t j op.TryLock (acquired (fields_of v)))) _ (λ y e. absurd cc) (neither (Row.TryTakes j v) (is_free (cell j)) Nothing (tried t j (cell j)) (λ y e. absurd cc) (λ y e. absurd cc))
  refused_row (Row.GiveLooks j) g o = neither (Row.GiveLooks j) ((fields_of (cell j)).owner == t) Nothing (Decides (decided t j op.Unlock EPERM)) (λ y e. absurd cc) (λ y e. absurd cc)
  refused_row (Row.Gives j (OfUnlock d)) g o = λ y e. absurd cc
  refused_row (Row.Gives j (OfWait i n slept timed)) g o = λ y e. absurd cc
  refused_row (Row.MendLooks j) g o = neither (Row.MendLooks j) (((fields_of (cell j)).owner == t) && (fields_of (cell j)).died) Nothing _ (λ y e. absurd cc) (λ y e. absurd cc)
  refused_row (Row.Anews j v) g o = neither (Row.Anews j v) (cell j == v) (Decides (decided t j op.Reinit OK)) Nothing (λ y e. absurd cc) (λ y e. absurd cc)
  refused_row (Row.WaitLooks j i timed) g o = neither (Row.WaitLooks j i timed) ((fields_of (cell j)).owner == t) Nothing (Decides (decided t j op.Wait EPERM)) (λ y e. absurd cc) (λ y e. absurd cc)
  refused_row (Row.WaitCounts j i timed died) g o = neither (Row.WaitCounts j i timed died) died (Decides (decided t j op.Wait XSTATE)) Nothing (λ y e. absurd cc) (λ y e. absurd cc)
  refused_row (Row.CountLooks j i all) g o = neither (Row.CountLooks j i all) ((fields_of (cell j)).owner == t) Nothing (Decides (decided t j (counts_as all) EPERM)) (λ y e. absurd cc) (λ y e. absurd cc)
  refused_row r g o = λ y e. absurd cc

  -- ---- only a wait's release unlocks its mutex before the call is decided

  abbrev Not : Deed → Type 0
  Not e = unlocks e ≡ true → ⊥

  not_either : (b : Bool) (e f : Deed) → Not e → Not f → Not (if b then e else f)
  not_either true e f first second = first
  not_either false e f first second = second

  not_looks : (j w : ℕ) (e : Deed) → Not e → Not (if (fields_of w).unusable then locks t j ENOTRECOVERABLE else if (fields_of w).owner == 0 then Nothing else if (fields_of w).owner == t then locks t j EDEADLK else e)
  not_looks j w e none = not_either (fields_of w).unusable (locks t j ENOTRECOVERABLE) _ (λ u. cc u) (not_either ((fields_of w).owner == 0) Nothing _ (λ u. cc u) (not_either ((fields_of w).owner == t) (locks t j EDEADLK) e (λ u. cc u) none))

  refuses_not : (i : Taking) (h : How) → Not (refused_or i h)
  refuses_not i Tried = not_either i.wrong (Refuses EINVAL) Nothing (λ u. cc u) (λ u. cc u)
  refuses_not i Later = λ u. cc u
  refuses_not i (Waited z) = λ u. cc u

  late_not : (i : Taking) → Not (late x t c i)
  late_not i = not_either (i.timed && c.yes) (Decides (decided t i.mutex op.TimedLock ETIMEDOUT)) Nothing (λ u. cc u) (λ u. cc u)

  unlocking : (r : Row) → unlocks (deed x t c r) ≡ true → is_early r ≡ true
  unlocking (Row.Gives j (OfWait i n slept timed)) u = refl
  unlocking (Row.Gives j (OfUnlock d)) u = absurd cc
  unlocking (Row.Looks i) u = absurd (not_either ((fields_of (cell i.mutex)).owner == t) (locks t i.mutex EDEADLK) Nothing (λ u. cc u) (λ u. cc u) u)
  unlocking (Row.Sees i) u = absurd (not_looks i.mutex (cell i.mutex) (refused_or i i.how) (refuses_not i i.how) u)
  unlocking (Row.Takes i v) u = absurd (not_either (cell i.mutex == v) (locks t i.mutex (acquired (fields_of v))) (looked_first t i (cell i.mutex)) (λ u. cc u) (not_looks i.mutex (cell i.mutex) (refused_or i i.how) (refuses_not i i.how)) u)
  unlocking (Row.SeesAgain i v) u = absurd (not_looks i.mutex (cell i.mutex) (refused_or i i.how) (refuses_not i i.how) u)
  unlocking (Row.Marks i v n) u = absurd (not_either (cell i.mutex == v) Nothing (looked t i.mutex (cell i.mutex)) (λ u. cc u) (not_looks i.mutex (cell i.mutex) Nothing (λ u. cc u)) u)
  unlocking (Row.SeesToSleep i) u = absurd (not_either (fields_of (cell i.mutex)).unusable (locks t i.mutex ENOTRECOVERABLE) Nothing (λ u. cc u) (λ u. cc u) u)
  unlocking (Row.HeirTakes i v) u = absurd (not_either (cell i.mutex == v) (locks t i.mutex (acquired (fields_of v))) Nothing (λ u. cc u) (λ u. cc u) u)
  unlocking (Row.LastLooks i) u = absurd (not_either (fields_of (cell i.mutex)).unusable (locks t i.mutex ENOTRECOVERABLE) _ (λ u. cc u)
      (not_either ((fields_of (cell i.mutex)).owner == 0) Nothing _ (λ u. cc u) (not_either (fields_of (cell i.mutex)).waiters (late x t c i) Nothing (late_not i) (λ u. cc u))) u)
  unlocking (Row.LastMarks i v) u = absurd (not_either (cell i.mutex == v) (late x t c i) Nothing (late_not i) (λ u. cc u) u)
  unlocking (Row.TryLooks j) u = absurd (not_either (is_free (cell j)) Nothing (tried t j (cell j)) (λ u. cc u) (λ u. cc u) u)
  unlocking (Row.TryTakes j v) u = absurd (not_either (cell j == v) (Decides (decided t j op.TryLock (acquired (fields_of v)))) _ (λ u. cc u) (not_either (is_free (cell j)) Nothing (tried t j (cell j)) (λ u. cc u) (λ u. cc u)) u)
  unlocking (Row.GiveLooks j) u = absurd (not_either ((fields_of (cell j)).owner == t) Nothing (Decides (decided t j op.Unlock EPERM)) (λ u. cc u) (λ u. cc u) u)
  unlocking (Row.MendLooks j) u = absurd (not_either (((fields_of (cell j)).owner == t) && (fields_of (cell j)).died) Nothing _ (λ u. cc u) (λ u. cc u) u)
  unlocking (Row.Anews j v) u = absurd (not_either (cell j == v) (Decides (decided t j op.Reinit OK)) Nothing (λ u. cc u) (λ u. cc u) u)
  unlocking (Row.WaitLooks j i timed) u = absurd (not_either ((fields_of (cell j)).owner == t) Nothing (Decides (decided t j op.Wait EPERM)) (λ u. cc u) (λ u. cc u) u)
  unlocking (Row.WaitCounts j i timed died) u = absurd (not_either died (Decides (decided t j op.Wait XSTATE)) Nothing (λ u. cc u) (λ u. cc u) u)
  unlocking (Row.CountLooks j i all) u = absurd (not_either ((fields_of (cell j)).owner == t) Nothing (Decides (decided t j (counts_as all) EPERM)) (λ u. cc u) (λ u. cc u) u)
  unlocking r u = absurd cc

-- ---- an access

module _ (x : Slots) (t : ℕ) (c : Choice) (s : Call) (r : Row) (fit : Fits x.machine.layout t r (x.machine.threads t).stage) (gives : GivesSo (Tells (count_of x) false) r) (k : IsCall t r (x.overdue t) (count_of x) s) (busy : is_resting r ≡ false) where
  abbrev q : Row
  q = (made x t c r).next

  abbrev e : Deed
  e = deed x t c r

  abbrev p : Progress
  p = after_deed (progress r) e

  abbrev m : ℕ
  m = about s.began

  abbrev then_call : Call
  then_call = record {
    began = s.began;
    points = s.points ++ points_in e;
    passed = s.passed;
    signalled = s.signalled && not (unlocks e);
    late = s.late || (is_wait s.began && s.passed && not s.signalled);
  }

  one : One x t c r e q
  one = one_row x t c r (x.machine.threads t).stage fit

  -- a lock that waits has a time as its deadline
  met_timely : (has_met r ≡ true) ⊎ ((is_anothers x.machine t (about r) ≡ true) × (may_wait (progress r) ≡ true)) → is_mistimed s.began ≡ false
  met_timely (inl met) = k.timely met
  met_timely (inr (others, may)) = go (progress r) k.stage may
    where
      go : (p : Progress) → Matches t m s p → may_wait p ≡ true → is_mistimed s.began ≡ false
      go (Progress.Called o) is may = timely_if s.began k.began o is.0
      go Progress.Unlocked is may = a_wait s.began is.0
        where
          a_wait : (b : Row) → is_wait b ≡ true → is_mistimed b ≡ false
          a_wait (Row.WaitLooks j i timed) e = refl
          a_wait b e = absurd cc
      go Progress.Idle is may = absurd cc
      go Progress.Mistimed is may = absurd cc
      go (Progress.Decided y) is may = absurd cc

  stage_then : Matches t m then_call p
  stage_then = then_matches t m s then_call.signalled then_call.late (progress r) e k.began k.stage one.may (its_own e one.own) (λ out. k.timely (decides_out x t c r out).2)
    where
      its_own : (e : Deed) → IsItsOwn t (about r) e → IsItsOwn t m e
      its_own (Unlocks d) own = (own.0, own.1 ∙ k.mutex)
      its_own (Decides d) own = (own.0, own.1 ∙ k.mutex)
      its_own Nothing own = tt
      its_own (Refuses y) own = tt

  -- at its first row it isn't late
  fresh : is_first_row r ≡ true → s.late ≡ false
  fresh first = go s.late refl
    where
      no_points : (r : Row) → Fits x.machine.layout t r (x.machine.threads t).stage → is_first_row r ≡ true → Matches t m s (progress r) → s.points ≡ []
      no_points (Row.Looks i) fit first is = by_lock i.wrong (subst (Matches t m s) (ap (λ (h : How). lock_progress h i.wrong) fit.1) is)
        where
          by_lock : (w : Bool) → Matches t m s (locking w) → s.points ≡ []
          by_lock true is = is.1
          by_lock false is = is.1
      no_points (Row.TryLooks j) fit first is = is.1
      no_points (Row.GiveLooks j) fit first is = is.1
      no_points (Row.MendLooks j) fit first is = is.1
      no_points (Row.AnewLooks j) fit first is = is.1
      no_points (Row.WaitLooks j i timed) fit first is = is.1
      no_points (Row.CountLooks j i all) fit first is = is.1
      no_points r fit first is = absurd cc

      go : (b : Bool) → s.late ≡ b → b ≡ false
      go false is = refl
      go true is = absurd (cc (sym (no_points r fit first k.stage) ∙ (k.unlocked is).1.1))

  from_before : (is_first_row r ≡ true → s.late ≡ false) → (x.overdue t && not (is_first_row r)) ≡ s.late
  from_before fresh = go (is_first_row r) refl
    where
      go : (b : Bool) → is_first_row r ≡ b → (x.overdue t && not (is_first_row r)) ≡ s.late
      go true is = ap (λ (b : Bool). x.overdue t && not b) is ∙ and_false (x.overdue t) ∙ sym (fresh is)
      go false is = ap (λ (b : Bool). x.overdue t && not b) is ∙ and_true (x.overdue t) ∙ k.late is

  -- it is no later than before, if its deadline hasn't just passed
  late_same : is_wait_late r ≡ false → then_call.late ≡ s.late
  late_same other = go s.late (is_wait s.began && s.passed && not s.signalled) (k.settled other)
    where
      go : (a b : Bool) → (b ≡ true → a ≡ true) → (a || b) ≡ a
      go true b so = refl
      go false true so = sym (so refl)
      go false false so = refl

  waits_so : (i : ℕ) (timed : Bool) (b : Row) → WaitFrom i timed b → is_wait b ≡ true
  waits_so i timed (Row.WaitLooks j h d) f = refl
  waits_so i timed b f = absurd f

  -- if it has, it is late just if it wasn't signalled
  late_now : (j i n : ℕ) → IsCall t (Row.WaitLate j i n) (x.overdue t) (count_of x) s → (count_of x i == n) ≡ then_call.late
  late_now j i n k = counted s.signalled k.begun.1 ∙ (λ h. sym (k.due refl).1 h || (sym (waits_so i true s.began k.begun.0) h && sym (k.due refl).0 h && not s.signalled))
    where
      apart : (a b : ℕ) → a < b → (b == a) ≡ false
      apart a b less = go (b == a) refl
        where
          go : (d : Bool) → (b == a) ≡ d → d ≡ false
          go false e = refl
          go true e = let same : b ≡ a = eqb-true b a e in absurd (omega (arith, less, same))

      counted : (b : Bool) → Tells (count_of x) b i n → (count_of x i == n) ≡ not b
      counted false tells = eq-eqb (count_of x i) n (tells.0 refl)
      counted true tells = apart n (count_of x i) (tells.1 refl)

  late_then : (r : Row) → IsCall t r (x.overdue t) (count_of x) s → (is_wait_late r ≡ false → (x.overdue t && not (is_first_row r)) ≡ then_call.late) → overdue_after x t r ≡ then_call.late
  late_then (Row.WaitLate j i n) k other = late_now j i n k
  late_then r k other = other refl

  unlocked_then : then_call.late ≡ true → HasUnlocked t m then_call
  unlocked_then = go r k.stage one.may late_same
    where
      before : (e : Deed) → s.late ≡ true → (is_wait s.began ≡ true) × ((ds : List Decision) × (s.points ++ points_in e ≡ unlock t m ∷ ds))
      before e late = let is = k.unlocked late in (is.0, (is.1.0 ++ points_in e, ap (λ (es : List Decision). es ++ points_in e) is.1.1))

      go : (r : Row) → Matches t m s (progress r) → MayDo (progress r) (deed x t c r) → (is_wait_late r ≡ false → then_call.late ≡ s.late) → then_call.late ≡ true → (is_wait s.began ≡ true) × ((ds : List Decision) × (s.points ++ points_in (deed x t c r) ≡ unlock t m ∷ ds))
      go (Row.WaitLate j i n) is may same late = (is.0, ([], no_more s.points ∙ is.1))
      go r is may same late = before (deed x t c r) (sym (same refl) ∙ late)

  -- ---- what is known of its deadline and of signals

  keeps : Keeps x t r q
  keeps = due_row x t c r (x.machine.threads t).stage fit

  begun_then : AsBegun s.began s.passed (Tells (count_of x) then_call.signalled) q
  begun_then = begun_row x t c s.began s.passed (Tells (count_of x) s.signalled) (Tells (count_of x) then_call.signalled) r (x.machine.threads t).stage fit
      (λ none i n. subst (λ (b : Bool). Tells (count_of x) b i n) (sym (ap (λ (u : Bool). s.signalled && not u) none ∙ and_true s.signalled))) (given_so r gives) (λ due. (k.due due).0) k.begun
    where
      given_so : (r : Row) → GivesSo (Tells (count_of x) false) r → GivesSo (Tells (count_of x) (s.signalled && not (unlocks (deed x t c r)))) r
      given_so (Row.Gives j (OfWait i n slept timed)) gs = subst (λ (b : Bool). Tells (count_of x) b i n) (sym (and_false s.signalled)) gs
      given_so (Row.Gives j (OfUnlock d)) gs = tt
      given_so r gs = tt

  early_then : is_early q ≡ true → then_call.passed ≡ false
  early_then early = k.early (before r (keeps.3 (in_it q early)) early)
    where
      in_it : (q : Row) → is_early q ≡ true → in_wait q ≡ true
      in_it (Row.WaitAsleep j i n timed) e = refl
      in_it (Row.WaitLate j i n) e = absurd cc
      in_it q e = e

      before : (r : Row) → in_wait r ≡ true → is_early (made x t c r).next ≡ true → is_early r ≡ true
      before (Row.WaitAsleep j i n timed) is e = absurd cc
      before (Row.WaitLate j i n) is e = absurd cc
      before r is e = is

  passed_then : then_call.late ≡ true → then_call.passed ≡ true
  passed_then = go s.late (is_wait s.began) s.passed (not s.signalled) k.passed
    where
      go : (a b d e : Bool) → (a ≡ true → d ≡ true) → (a || (b && d && e)) ≡ true → d ≡ true
      go true b d e was so = was refl
      go false true true e was so = refl
      go false true false e was so = absurd cc
      go false false d e was so = absurd cc

  -- no access leads to a deadline that passes
  not_due : is_wait_late q ≡ false
  not_due = go (is_wait_late q) refl
    where
      is_so : (q : Row) → is_wait_late q ≡ true → is_late q ≡ true
      is_so (Row.WaitLate j i n) e = refl
      is_so q e = absurd cc

      none : (r : Row) → is_late r ≡ true → is_wait_late (made x t c r).next ≡ true → ⊥
      none (Row.Late i) is e = cc e
      none (Row.LateSees i) is e = cc e
      none (Row.WaitLate j i n) is e = cc e
      none r is e = cc is

      go : (b : Bool) → is_wait_late q ≡ b → b ≡ false
      go false e = refl
      go true e = absurd (none r (keeps.1 (is_so q e)) e)

  settled_then : (is_wait s.began && s.passed && not then_call.signalled) ≡ true → then_call.late ≡ true
  settled_then so = go (unlocks e) refl
    where
      has_passed : (a b d : Bool) → (a && b && d) ≡ true → b ≡ true
      has_passed true true d e = refl
      has_passed true false d e = absurd cc
      has_passed false b d e = absurd cc

      go : (u : Bool) → unlocks e ≡ u → then_call.late ≡ true
      go true u = absurd (cc (sym (has_passed (is_wait s.began) s.passed (not then_call.signalled) so) ∙ k.early (unlocking x t c r u)))
      go false u = ap (λ (b : Bool). s.late || b) ((λ i. is_wait s.began && s.passed && not (sym (ap (λ (v : Bool). s.signalled && not v) u ∙ and_true s.signalled) i)) ∙ so) ∙ or_true s.late

  out_then : is_resting q ≡ false → is_lock s.began ≡ true → s.passed ≡ true → is_timed_out q ≡ true
  out_then on lock passed = go r (k.out lock passed) on
    where
      go : (r : Row) → is_timed_out r ≡ true → is_resting (made x t c r).next ≡ false → is_timed_out (made x t c r).next ≡ true
      go (Row.Late i) e on = refl
      go (Row.LateSees i) e on = refl
      go (Row.Clears j y) e on = absurd cc
      go r e on = absurd cc

  on_to : (q : Row) → GoesOn r p q → is_resting q ≡ false → (progress q ≡ p) × (about q ≡ about r)
  on_to Row.Rests goes on = absurd cc
  on_to q goes on = goes

  goes_call : is_resting q ≡ false → IsCall t q (overdue_after x t r) (count_of x) then_call
  goes_call on = record {
    began = k.began;
    mutex = (on_to q one.goes on).1 ∙ k.mutex;
    stage = subst (Matches t m then_call) (sym (on_to q one.goes on).0) stage_then;
    timely = λ met. met_timely (keeps.2 met);
    late = λ inside. late_then r k (λ other. from_before fresh ∙ sym (late_same other));
    unlocked = unlocked_then;
    begun = begun_then;
    early = early_then;
    passed = passed_then;
    due = λ due. absurd (cc (sym due ∙ not_due));
    settled = λ other. settled_then;
    out = out_then on;
  }

  -- ---- it returns

  -- its point's reply, which isn't OK; or the call is late just if it is overdue
  ends : (y : Reply) (overdue tardy : Bool) → EndsAs t m then_call.points false y s.began → (y ≢ OK) ⊎ (overdue ≡ tardy) → (tardy ≡ true → HasUnlocked t m then_call) → EndsAs t m then_call.points tardy (returned y overdue) s.began
  ends y overdue tardy is (inl other) unlocked = subst (λ (z : Reply). EndsAs t m then_call.points tardy z s.began) (sym (as_it_is y overdue other)) (any_late s.began is)
    where
      as_it_is : (y : Reply) (b : Bool) → y ≢ OK → returned y b ≡ y
      as_it_is OK b other = absurd (other refl)
      as_it_is y b other = refl

      not_late : (i : ℕ) (z : Reply) (b : Bool) → y ≡ reply_of (TimedWait i (limit false)) z → y ≡ reply_of (TimedWait i (limit b)) z
      not_late i OK b is = absurd (other is)
      not_late i z true is = is
      not_late i z false is = is

      any_late : (b : Row) → EndsAs t m then_call.points false y b → EndsAs t m then_call.points tardy y b
      any_late (Row.WaitLooks j i timed) (inl is) = inl is
      any_late (Row.WaitLooks j i timed) (inr (z, is, same)) = inr (z, is, not_late i z tardy same)
      any_late b is = is
  ends y overdue tardy is (inr same) unlocked = subst (λ (b : Bool). EndsAs t m then_call.points tardy (returned y b) s.began) (sym same) (go tardy unlocked)
    where
      by_wait : (b : Row) → EndsAs t m then_call.points false y b → is_wait b ≡ true → (ds : List Decision) → then_call.points ≡ unlock t m ∷ ds → EndsAs t m then_call.points true (returned y true) b
      by_wait (Row.WaitLooks j i timed) (inl is) wait ds unlocks = absurd (cc (ap waits_first (sym is ∙ unlocks)))
      by_wait (Row.WaitLooks j i timed) (inr (z, is, same)) wait ds unlocks = inr (z, is, replies z y same)
        where
          replies : (z y : Reply) → y ≡ reply_of (TimedWait i (limit false)) z → returned y true ≡ reply_of (TimedWait i (limit true)) z
          replies OK y same = ap (λ (w : Reply). returned w true) same
          replies z y same = ap (λ (w : Reply). returned w true) same
      by_wait b is wait ds unlocks = absurd cc

      in_time : (y : Reply) → returned y false ≡ y
      in_time OK = refl
      in_time y = refl

      go : (tardy : Bool) → (tardy ≡ true → HasUnlocked t m then_call) → EndsAs t m then_call.points tardy (returned y tardy) s.began
      go false unlocked = subst (λ (z : Reply). EndsAs t m then_call.points false z s.began) (sym (in_time y)) is
      go true unlocked = let has = unlocked refl in by_wait s.began is has.0 has.1.0 has.1.1

  -- a lock whose deadline has passed
  timed_out : (r : Row) → is_timed_out r ≡ true → is_resting (made x t c r).next ≡ true → (y : Reply) → after_deed (progress r) (deed x t c r) ≡ Progress.Decided y → y ≡ ETIMEDOUT
  timed_out (Row.Late i) e rests y is = absurd cc
  timed_out (Row.LateSees i) e rests y is = absurd cc
  timed_out (Row.Clears j z) e rests y is = sym (ap (decided_by z) is) ∙ out_is z e
    where
      decided_by : Reply → Progress → Reply
      decided_by z (Progress.Decided y) = y
      decided_by z p = z

      out_is : (y : Reply) → is_out y ≡ true → y ≡ ETIMEDOUT
      out_is ETIMEDOUT e = refl
      out_is y e = absurd cc
  timed_out r e rests y is = absurd cc

  its_reply : is_resting q ≡ true → (y : Reply) → p ≡ Progress.Decided y → Returns t then_call (Some (returned y (x.overdue t)))
  its_reply rests y is = (ends y (x.overdue t) then_call.late (subst (Matches t m then_call) is stage_then) (go (is_first_row r) refl) unlocked_then, out_of_time)
    where
      out_of_time : is_lock s.began ≡ true → s.passed ≡ true → returned y (x.overdue t) ≡ ETIMEDOUT
      out_of_time lock passed = ap (λ (z : Reply). returned z (x.overdue t)) (timed_out r (k.out lock passed) rests y is)

      by_first : p ≡ Progress.Decided OK → is_first_row r ≡ true → ⊥
      by_first ok first = cc (sym first ∙ begins_not_ok x t c r ok)

      not_late : (r : Row) → after_deed (progress r) (deed x t c r) ≡ Progress.Decided y → is_wait_late r ≡ false
      not_late (Row.WaitLate j i n) is = absurd cc
      not_late r is = refl

      go : (b : Bool) → is_first_row r ≡ b → (y ≢ OK) ⊎ (x.overdue t ≡ then_call.late)
      go true first = inl (λ ok. by_first (is ∙ ap Progress.Decided ok) first)
      go false first = inr (k.late first ∙ sym (late_same (not_late r is)))

  -- a reinit may return without one
  undecided : progress r ≡ Progress.Called op.Reinit → (p : Progress) → ((y : Reply) → p ≢ Progress.Decided y) → p ≢ Progress.Idle → Matches t m then_call p → (is_reinit s.began ≡ true) × (then_call.points ≡ [])
  undecided is p none busy matches = (reinit_if s.began k.began (subst (Matches t m s) is k.stage).0, go p none busy matches)
    where
      go : (p : Progress) → ((y : Reply) → p ≢ Progress.Decided y) → p ≢ Progress.Idle → Matches t m then_call p → then_call.points ≡ []
      go (Progress.Called o) none busy matches = matches.1
      go Progress.Mistimed none busy matches = matches.1
      go Progress.Unlocked none busy matches = absurd (a_wait s.began matches.0 (subst (Matches t m s) is k.stage).0)
        where
          a_wait : (b : Row) → is_wait b ≡ true → progress b ≡ Progress.Called op.Reinit → ⊥
          a_wait (Row.WaitLooks j i timed) wait e = cc e
          a_wait b wait e = cc wait
      go (Progress.Decided y) none busy matches = absurd (none y refl)
      go Progress.Idle none busy matches = absurd (busy refl)

  pub returns : is_resting q ≡ true → Returns t then_call (reply x t c r)
  returns rests = go p refl (ended r p busy (subst (GoesOn r p) (rests_at q rests) one.goes))
    where
      ended : (r : Row) (p' : Progress) → is_resting r ≡ false → HasEnded r p' → ((y : Reply) × (p' ≡ Progress.Decided y)) ⊎ (progress r ≡ Progress.Called op.Reinit)
      ended Row.Rests p' busy has = absurd cc
      ended (Row.AnewLooks j) p' busy has = inr refl
      ended (Row.Anews j v) p' busy has = inr refl
      ended r (Progress.Decided y) busy has = inl (y, refl)
      ended r p' busy has = absurd has

      go : (p' : Progress) → p ≡ p' → ((y : Reply) × (p ≡ Progress.Decided y)) ⊎ (progress r ≡ Progress.Called op.Reinit) → Returns t then_call (replied (x.overdue t) p')
      go (Progress.Decided y) is ended = its_reply rests y is
      go Progress.Idle is (inl (y, decided)) = absurd (cc (sym is ∙ decided))
      go Progress.Idle is (inr reinit) = absurd (never e (sym (ap (λ (p : Progress). after_deed p e) reinit) ∙ is))
        where
          never : (e : Deed) → after_deed (Progress.Called op.Reinit) e ≡ Progress.Idle → ⊥
          never Nothing i = cc i
          never (Unlocks d) i = cc i
          never (Decides d) i = cc i
          never (Refuses y) i = cc i
      go p' is (inl (y, decided)) = absurd (cc (sym is ∙ decided))
      go p' is (inr reinit) = undecided reinit p' (λ y d. cc d) (λ i. cc i) (subst (Matches t m then_call) is stage_then)

  -- ---- it is refused

  by_may : (y : Reply) (p : Progress) → Matches t m s p → MayDo p (Refuses y) → (y ≡ EINVAL) × (is_mistimed s.began ≡ true)
  by_may y Progress.Mistimed is may = (may, mistimed_if s.began k.began is.0)
  by_may y Progress.Idle is may = absurd may
  by_may y (Progress.Called op.Lock) is may = absurd may
  by_may y (Progress.Called op.Wait) is may = absurd may
  by_may y (Progress.Called o) is may = absurd may
  by_may y Progress.Unlocked is may = absurd may
  by_may y (Progress.Decided z) is may = absurd may

  pub refused_so : (y : Reply) → e ≡ Refuses y → (y ≡ EINVAL) × (is_mistimed s.began ≡ true) × (has_deadline s.began ≡ true) × (is_anothers x.machine t (about r) ≡ true)
  refused_so y is = let both = by_may y (progress r) k.stage (subst (MayDo (progress r)) is one.may) in (both.0, both.1, mistimed_due s.began k.began both.1, refused_row x t c r (x.machine.threads t).stage fit y is)

  pub waits_not : is_mistimed s.began ≡ true → has_met r ≡ false
  waits_not mistimed = go (has_met r) refl
    where
      go : (b : Bool) → has_met r ≡ b → b ≡ false
      go false met = refl
      go true met = absurd (cc (sym mistimed ∙ k.timely met))

-- ---- whatever happens

-- what is known of a call is of its row, its points and when it was late
passed_alike : (t m : ℕ) (s : Call) (p : Progress) → Matches t m s p → Matches t m (record s { passed = true }) p
passed_alike t m s Progress.Idle is = is
passed_alike t m s (Progress.Called o) is = is
passed_alike t m s Progress.Mistimed is = is
passed_alike t m s Progress.Unlocked is = is
passed_alike t m s (Progress.Decided y) is = is

heard_alike : (t m : ℕ) (s : Call) (b : Bool) (p : Progress) → Matches t m s p → Matches t m (record s { signalled = b }) p
heard_alike t m s b Progress.Idle is = is
heard_alike t m s b (Progress.Called o) is = is
heard_alike t m s b Progress.Mistimed is = is
heard_alike t m s b Progress.Unlocked is = is
heard_alike t m s b (Progress.Decided y) is = is

module _ (x : Slots) (st : Steady x) where
  -- a wait that unlocks its mutex has seen its count as it is
  count_low : (i : ℕ) → i < length x.machine.layout.conditions → count_of x i ≡ count_at x i
  count_low i inside = ap (λ (w : ℕ). w % 4294967296) (counter_shows x i inside) ∙ low (x.slept i)
    where
      low : (b : Bool) → (count_at x i + bit b 4294967296) % 4294967296 ≡ count_at x i
      low true = let most : count_at x i ≤ 4294967295 = st.counts.most i inside in omega (arith, most)
      low false = let most : count_at x i ≤ 4294967295 = st.counts.most i inside in omega (arith, most)

  gives_so : (t : ℕ) (r : Row) → Fits x.machine.layout t r (x.machine.threads t).stage → SeesCount x r → GivesSo (Tells (count_of x) false) r
  gives_so t (Row.Gives m (OfWait i n slept timed)) o sees = (λ e. count_low i o.cell.inside ∙ sees, λ e. absurd cc)
  gives_so t (Row.Gives m (OfUnlock d)) o sees = tt
  gives_so t r o sees = tt

-- a count that has risen, or hasn't
tells_then : (a b n : ℕ) (e d : Bool) → b ≡ a + (if d then 1 else 0) → (e ≡ false → a ≡ n) × (e ≡ true → n < a) → ((e || d) ≡ false → b ≡ n) × ((e || d) ≡ true → n < b)
tells_then a b n true true up tells = (λ f. absurd cc, λ f. let more : n < a = tells.1 refl in omega (arith, more, up))
tells_then a b n true false up tells = (λ f. absurd cc, λ f. let more : n < a = tells.1 refl in omega (arith, more, up))
tells_then a b n false true up tells = (λ f. absurd cc, λ f. let same : a ≡ n = tells.0 refl in omega (arith, same, up))
tells_then a b n false false up tells = (λ f. let same : a ≡ n = tells.0 refl in omega (arith, same, up), λ f. absurd cc)

module _ (x : Slots) (t : ℕ) (s : Call) (st : Steady x) (pos : 1 ≤ t) (known : t ≤ x.machine.layout.threads) (k : Known t (x.rows t) (x.overdue t) (count_of x) s) where
  abbrev Then : Happening → (ℕ → ℕ) → Call → Type 0
  Then h counts s = Known t ((next x h).rows t) ((next x h).overdue t) counts s

  fit : Fits x.machine.layout t (x.rows t) (x.machine.threads t).stage
  fit = st.fits t pos known

  -- in no call: it stays so, or a call begins
  new : (h : Happening) → x.rows t ≡ Row.Rests → HappensTo x t h → Then h (count_of (next x h)) (begun_at ((next x h).rows t))
  new h rests (HappensTo.Stays row overdue call) = resting t _ _ _ _ (row ∙ rests)
  new h rests (HappensTo.Starts held r is may row) = λ busy. subst (λ (q : Row). IsCall t q ((next x h).overdue t) (count_of (next x h)) (begun_at q)) (sym row) (starts t x.machine.layout held r ((next x h).overdue t) (count_of (next x h)) may)
  new h rests (HappensTo.GoesOn c row overdue call) = resting t _ _ _ _ (row ∙ ap (λ (r : Row). (made x t c r).next) rests)
  new h rests (HappensTo.Lapsed asleep row overdue call) = resting t _ _ _ _ (row ∙ ap lapse_row rests)
  new h rests (HappensTo.Ends row) = resting t _ _ _ _ row

  -- ---- a deadline passes

  lapses : (r : Row) → is_resting r ≡ false → (has_met (lapse_row r) ≡ true → has_met r ≡ true) × (is_first_row (lapse_row r) ≡ false → is_first_row r ≡ false)
  lapses (Row.Asleep i) busy = (λ e. refl, λ e. refl)
  lapses (Row.WaitAsleep j i n true) busy = (λ e. absurd cc, λ e. refl)
  lapses (Row.WaitAsleep j i n false) busy = (λ e. absurd cc, λ e. refl)
  lapses r busy = (λ e. e, λ e. e)

  abbrev LapsedTo : Bool → Row → Type 0
  LapsedTo b q = IsCall t q (x.overdue t) (count_of x) (lapsed_on s b)

  -- of a lock that sleeps, with a deadline or without
  lock_of : (i : Taking) (b : Row) → not (ends_wait i.how) ≡ true → From (Origin.Lock i.how i.timed) b → (is_lock b ≡ true) × (has_deadline b ≡ i.timed)
  lock_of i b e f = (later_from i.how i.timed b (is_not (ends_wait i.how) e) f).1
    where
      is_not : (a : Bool) → not a ≡ true → a ≡ false
      is_not false e = refl
      is_not true e = absurd cc

  no_wait : (b : Row) → is_lock b ≡ true → is_wait b ≡ false
  no_wait (Row.Looks i) e = refl
  no_wait b e = absurd cc

  no_lock : (i : ℕ) (timed : Bool) (b : Row) → WaitFrom i timed b → is_lock b ≡ false
  no_lock i timed (Row.WaitLooks j h d) f = refl
  no_lock i timed b f = absurd f

  -- it passes in its sleep
  module _ (on : is_in_sleep (x.rows t) ≡ true) (has : has_deadline s.began ≡ true) (i : IsCall t (x.rows t) (x.overdue t) (count_of x) s) where
    abbrev B : Row → Type 0
    B r = AsBegun s.began s.passed (Tells (count_of x) s.signalled) r

    not_early : (r : Row) → is_in_sleep r ≡ true → is_early (lapse_row r) ≡ true → ⊥
    not_early (Row.Asleep j) e = by_test (λ (q : Row). is_early q ≡ true → ⊥) j.timed (Row.Late j) (Row.Asleep j) (λ f g. cc g) (λ f g. cc g)
    not_early (Row.WaitAsleep m j n true) e = λ g. cc g
    not_early (Row.WaitAsleep m j n false) e = λ g. cc g
    not_early r e = absurd cc

    was_early : (r : Row) → is_in_sleep r ≡ true → is_wait_late (lapse_row r) ≡ true → is_early r ≡ true
    was_early (Row.Asleep j) e = by_test (λ (q : Row). is_wait_late q ≡ true → false ≡ true) j.timed (Row.Late j) (Row.Asleep j) (λ f g. g) (λ f g. g)
    was_early (Row.WaitAsleep m j n true) e = λ g. refl
    was_early (Row.WaitAsleep m j n false) e = λ g. absurd cc
    was_early r e = absurd cc

    not_late : s.passed ≡ false → s.late ≡ false
    not_late none = go s.late refl
      where
        go : (b : Bool) → s.late ≡ b → b ≡ false
        go false e = refl
        go true e = absurd (cc (sym none ∙ i.passed e))

    settles : (r : Row) → is_in_sleep r ≡ true → B r → (is_wait_late r ≡ false → (is_wait s.began && s.passed && not s.signalled) ≡ true → s.late ≡ true) → is_wait_late (lapse_row r) ≡ false → (is_wait s.began && true && not s.signalled) ≡ true → s.late ≡ true
    settles (Row.Asleep j) e f was other so = absurd (cc (sym so ∙ ap (λ (b : Bool). b && true && not s.signalled) (no_wait s.began (lock_of j s.began e f).0)))
    settles (Row.WaitAsleep m j n true) e f was other so = absurd cc
    settles (Row.WaitAsleep m j n false) e (inl f) was other so = absurd (cc (sym has ∙ wait_deadline j false s.began f))
    settles (Row.WaitAsleep m j n false) e (inr f) was other so = was refl (ap (λ (b : Bool). is_wait s.began && b && not s.signalled) f.0 ∙ so)
    settles r e f was other so = absurd cc

    outs : (r : Row) → is_in_sleep r ≡ true → B r → (is_lock s.began ≡ true → s.passed ≡ true → is_timed_out r ≡ true) → is_lock s.began ≡ true → is_timed_out (lapse_row r) ≡ true
    outs (Row.Asleep j) e f was lock = by_test (λ (q : Row). is_timed_out q ≡ true) j.timed (Row.Late j) (Row.Asleep j) (λ g. refl) (λ g. absurd (cc (sym has ∙ (lock_of j s.began e f).1 ∙ g)))
    outs (Row.WaitAsleep m j n true) e f was lock = absurd (cc (sym lock ∙ no_lock j true s.began f.0))
    outs (Row.WaitAsleep m j n false) e (inl f) was lock = absurd (cc (sym lock ∙ no_lock j false s.began f))
    outs (Row.WaitAsleep m j n false) e (inr f) was lock = was lock f.0
    outs r e f was lock = absurd cc

    passes_now : is_resting (x.rows t) ≡ false → LapsedTo true (lapse_row (x.rows t))
    passes_now busy = let same = (decides_once x t (record { yes = true; again = true; time = 0 }) (x.machine.threads t).stage fit).lapses in record {
      began = i.began;
      mutex = same.1 ∙ i.mutex;
      stage = passed_alike t (about s.began) s (progress (lapse_row (x.rows t))) (subst (Matches t (about s.began) s) (sym same.0) i.stage);
      timely = λ met. i.timely ((lapses (x.rows t) busy).0 met);
      late = λ inside. i.late ((lapses (x.rows t) busy).1 inside);
      unlocked = i.unlocked;
      begun = lapse_begun x.machine.layout t (x.machine.threads t).stage s.began s.passed true (Tells (count_of x) s.signalled) (x.rows t) fit (λ e. refl) i.begun;
      early = λ early. absurd (not_early (x.rows t) on early);
      passed = λ late. refl;
      due = λ due. (refl, not_late (i.early (was_early (x.rows t) on due)));
      settled = settles (x.rows t) on i.begun i.settled;
      out = λ lock passed. outs (x.rows t) on i.begun i.out lock;
    }

  -- or it isn't one that ends a sleep
  module _ (not_so : (has_deadline s.began && is_in_sleep (x.rows t)) ≡ false) (i : IsCall t (x.rows t) (x.overdue t) (count_of x) s) where
    abbrev Is : Row → Type 0
    Is r = AsBegun s.began s.passed (Tells (count_of x) s.signalled) r

    earlier : (r : Row) → is_early (lapse_row r) ≡ true → is_early r ≡ true
    earlier (Row.Asleep j) = by_test (λ (q : Row). is_early q ≡ true → false ≡ true) j.timed (Row.Late j) (Row.Asleep j) (λ f g. g) (λ f g. g)
    earlier (Row.WaitAsleep m j n true) = λ g. refl
    earlier (Row.WaitAsleep m j n false) = λ g. g
    earlier r = λ g. g

    later_on : (r : Row) → is_wait_late (lapse_row r) ≡ false → is_wait_late r ≡ false
    later_on (Row.Asleep j) e = refl
    later_on (Row.WaitAsleep m j n true) e = refl
    later_on (Row.WaitAsleep m j n false) e = refl
    later_on r e = e

    dues : (r : Row) → Is r → (has_deadline s.began && is_in_sleep r) ≡ false → (is_wait_late r ≡ true → (s.passed ≡ true) × (s.late ≡ false)) → is_wait_late (lapse_row r) ≡ true → (s.passed ≡ true) × (s.late ≡ false)
    dues (Row.Asleep j) f none was = by_test (λ (q : Row). is_wait_late q ≡ true → (s.passed ≡ true) × (s.late ≡ false)) j.timed (Row.Late j) (Row.Asleep j) (λ g h. absurd cc) (λ g h. absurd cc)
    dues (Row.WaitAsleep m j n true) f none was = λ g. absurd (cc (sym none ∙ ap (λ (b : Bool). b && true) (wait_deadline j true s.began f.0)))
    dues (Row.WaitAsleep m j n false) f none was = λ g. absurd cc
    dues r f none was = was

    outs_still : (r : Row) → is_timed_out r ≡ true → is_timed_out (lapse_row r) ≡ true
    outs_still (Row.Asleep j) e = absurd cc
    outs_still (Row.WaitAsleep m j n true) e = absurd cc
    outs_still (Row.WaitAsleep m j n false) e = absurd cc
    outs_still r e = e

    passes_by : is_resting (x.rows t) ≡ false → LapsedTo false (lapse_row (x.rows t))
    passes_by busy = let same = (decides_once x t (record { yes = true; again = true; time = 0 }) (x.machine.threads t).stage fit).lapses in record {
      began = i.began;
      mutex = same.1 ∙ i.mutex;
      stage = subst (Matches t (about s.began) s) (sym same.0) i.stage;
      timely = λ met. i.timely ((lapses (x.rows t) busy).0 met);
      late = λ inside. i.late ((lapses (x.rows t) busy).1 inside);
      unlocked = i.unlocked;
      begun = lapse_begun x.machine.layout t (x.machine.threads t).stage s.began s.passed s.passed (Tells (count_of x) s.signalled) (x.rows t) fit (λ e. e) i.begun;
      early = λ early. i.early (earlier (x.rows t) early);
      passed = i.passed;
      due = dues (x.rows t) i.begun not_so i.due;
      settled = λ other. i.settled (later_on (x.rows t) other);
      out = λ lock passed. outs_still (x.rows t) (i.out lock passed);
    }

  lapsed : is_asleep x.machine t ≡ true → is_resting (x.rows t) ≡ false → IsCall t (x.rows t) (x.overdue t) (count_of x) s → LapsedTo (sleeps_until x t s.began) (lapse_row (x.rows t))
  lapsed asleep busy i = subst (λ (b : Bool). LapsedTo b (lapse_row (x.rows t))) (ap (λ (a : Bool). a && has_deadline s.began && is_in_sleep (x.rows t)) (sym asleep)) (go (has_deadline s.began) (is_in_sleep (x.rows t)) refl refl)
    where
      go : (a b : Bool) → has_deadline s.began ≡ a → is_in_sleep (x.rows t) ≡ b → LapsedTo (has_deadline s.began && is_in_sleep (x.rows t)) (lapse_row (x.rows t))
      go true true has on = subst (λ (b : Bool). LapsedTo b (lapse_row (x.rows t))) (λ h. sym has h && sym on h) (passes_now on has i busy)
      go true false has on = subst (λ (b : Bool). LapsedTo b (lapse_row (x.rows t))) (λ h. sym has h && sym on h) (passes_by (λ h. has h && on h) i busy)
      go false b has on = subst (λ (b : Bool). LapsedTo b (lapse_row (x.rows t))) (λ h. sym has h && is_in_sleep (x.rows t)) (passes_by (λ h. has h && is_in_sleep (x.rows t)) i busy)

  -- ---- in a call

  old : (h : Happening) → is_resting (x.rows t) ≡ false → HappensTo x t h → Then h (count_of x) (call_after x t s h)
  old h busy (HappensTo.Stays row overdue call) = λ on. subst (λ (z : Call). IsCall t ((next x h).rows t) ((next x h).overdue t) (count_of x) z) (sym (call s))
      (subst (λ (q : Row). IsCall t q ((next x h).overdue t) (count_of x) s) (sym row) (subst (λ (o : Bool). IsCall t (x.rows t) o (count_of x) s) (sym overdue) (k busy)))
  old h busy (HappensTo.Starts held r is may row) = absurd (cc (sym busy ∙ is))
  old h busy (HappensTo.GoesOn c row overdue call) = λ on. subst (λ (z : Call). IsCall t ((next x h).rows t) ((next x h).overdue t) (count_of x) z) (sym (call s))
      (subst (λ (q : Row). IsCall t q ((next x h).overdue t) (count_of x) (gone_on x t c s)) (sym row) (subst (λ (o : Bool). IsCall t (made x t c (x.rows t)).next o (count_of x) (gone_on x t c s)) (sym overdue)
      (goes_call x t c s (x.rows t) fit (gives_so x st t (x.rows t) fit (st.sees t pos known)) (k busy) busy (sym (ap is_resting row) ∙ on))))
  old h busy (HappensTo.Lapsed asleep row overdue call) = λ on. subst (λ (z : Call). IsCall t ((next x h).rows t) ((next x h).overdue t) (count_of x) z) (sym (call s))
      (subst (λ (q : Row). IsCall t q ((next x h).overdue t) (count_of x) (lapsed_on s (sleeps_until x t s.began))) (sym row)
      (subst (λ (o : Bool). IsCall t (lapse_row (x.rows t)) o (count_of x) (lapsed_on s (sleeps_until x t s.began))) (sym overdue) (lapsed asleep busy (k busy))))
  old h busy (HappensTo.Ends row) = resting t _ _ _ _ row

  -- ---- signals

  module _ (h : Happening) (first : 1 ≤ who h) (last : who h ≤ x.machine.layout.threads) (w : TrustsIn x h) where
    abbrev y : Slots
    y = next x h

    layout_y : y.machine.layout ≡ x.machine.layout
    layout_y = layout_then x (h ∷ []) st ((first, last, w), tt)

    fit_then : Fits y.machine.layout t (y.rows t) (y.machine.threads t).stage
    fit_then = (steady_next x h st first last w).fits t pos (subst (λ (l : Layout'). t ≤ l.threads) (sym layout_y) known)

    hears_so : (z : Call) → IsCall t (y.rows t) (y.overdue t) (count_of x) z → IsCall t (y.rows t) (y.overdue t) (count_of y) (hears x h z)
    hears_so z i = record {
      began = i.began;
      mutex = i.mutex;
      stage = heard_alike t (about z.began) z (z.signalled || signals_to x z.began h) (progress (y.rows t)) i.stage;
      timely = i.timely;
      late = i.late;
      unlocked = i.unlocked;
      begun = know_begun y.machine.layout t (y.machine.threads t).stage z.began z.passed (Tells (count_of x) z.signalled) (Tells (count_of y) (z.signalled || signals_to x z.began h)) (y.rows t) fit_then counts_on i.begun;
      early = i.early;
      passed = i.passed;
      due = i.due;
      settled = λ other so. i.settled other (unheard (is_wait z.began) z.passed z.signalled (signals_to x z.began h) so);
      out = i.out;
    }
      where
        unheard : (a b d e : Bool) → (a && b && not (d || e)) ≡ true → (a && b && not d) ≡ true
        unheard true true false e so = refl
        unheard true true true e so = absurd cc
        unheard true false d e so = absurd cc
        unheard false b d e so = absurd cc

        of_its : (i : ℕ) (timed : Bool) (b : Row) → WaitFrom i timed b → signals_to x b h ≡ signals_at x i h
        of_its i timed (Row.WaitLooks j m d) f = ap (λ (n : ℕ). signals_at x n h) f.0
        of_its i timed b f = absurd f

        counts_on : (i n : ℕ) (timed : Bool) → i < length y.machine.layout.conditions → WaitFrom i timed z.began → Tells (count_of x) z.signalled i n → Tells (count_of y) (z.signalled || signals_to x z.began h) i n
        counts_on i n timed inside f tells = subst (λ (b : Bool). Tells (count_of y) (z.signalled || b) i n) (sym (of_its i timed z.began f))
            (tells_then (count_of x i) (count_of y i) n z.signalled (signals_at x i h) (signals_row x i st (subst (λ (l : Layout'). i < length l.conditions) layout_y inside) h first last w) tells)

    known_next : Then h (count_of (next x h)) (call_next x t s h)
    known_next = by_test (Then h (count_of (next x h))) (is_resting (x.rows t)) (begun_at ((next x h).rows t)) (hears x h (call_after x t s h))
        (λ rests. new h (rests_at (x.rows t) rests) (happens_to x t st.reached h)) (λ busy on. hears_so (call_after x t s h) (old h busy (happens_to x t st.reached h) on))

-- ---- runs

known_run : (x : Slots) (t : ℕ) (s : Call) (hs : List Happening) → Steady x → 1 ≤ t → t ≤ x.machine.layout.threads → AllTrusted x hs → Known t (x.rows t) (x.overdue t) (count_of x) s
    → Known t ((reached_from x hs).rows t) ((reached_from x hs).overdue t) (count_of (reached_from x hs)) (call_from x t s hs)
known_run x t s [] st pos known trusted k = k
known_run x t s (h ∷ hs) st pos known ((first, last, w), trusted) k = known_run (next x h) t (call_next x t s h) hs (steady_next x h st first last w) pos
    (subst (λ (l : Layout'). t ≤ l.threads) (sym (layout_then x (h ∷ []) st ((first, last, w), tt))) known) trusted (known_next x t s st pos known k h first last w)

-- in any run, of a thread in a call
pub begun_in : (l : Layout') (hs : List Happening) (t : ℕ) → IsLayout l → 1 ≤ t → t ≤ l.threads → AllTrusted (begin l) hs → is_resting ((reached l hs).rows t) ≡ false
    → AsBegun (call_so_far l hs t).began (call_so_far l hs t).passed (Tells (count_of (reached l hs)) (call_so_far l hs t).signalled) ((reached l hs).rows t)
begun_in l hs t is pos known trusted busy = (known_run (begin l) t no_call hs (begins_steady l is) pos known trusted (resting t Row.Rests false (count_of (begin l)) no_call refl) busy).begun

pub return_points : CallsReturnTheirPoints
return_points l hs t c is pos known trusted busy rests =
    let st : Steady (reached l hs) = steady_run (begin l) hs (begins_steady l is) trusted in
    let here : t ≤ (reached l hs).machine.layout.threads = subst (λ (k : Layout'). t ≤ k.threads) (sym (layout_then (begin l) hs (begins_steady l is) trusted)) known in
    returns (reached l hs) t c (call_so_far l hs t) ((reached l hs).rows t) (st.fits t pos here) (gives_so (reached l hs) st t ((reached l hs).rows t) (st.fits t pos here) (st.sees t pos here))
    (known_run (begin l) t no_call hs (begins_steady l is) pos known trusted (resting t Row.Rests false (count_of (begin l)) no_call refl) busy) busy rests

pub wrong_refused : WrongDeadlinesAreRefused
wrong_refused l hs t c is pos known trusted busy =
    let st : Steady (reached l hs) = steady_run (begin l) hs (begins_steady l is) trusted in
    let here : t ≤ (reached l hs).machine.layout.threads = subst (λ (k : Layout'). t ≤ k.threads) (sym (layout_then (begin l) hs (begins_steady l is) trusted)) known in
    let call : IsCall t ((reached l hs).rows t) ((reached l hs).overdue t) (count_of (reached l hs)) (call_so_far l hs t) = known_run (begin l) t no_call hs (begins_steady l is) pos known trusted (resting t Row.Rests false (count_of (begin l)) no_call refl) busy in
    let fit : Fits (reached l hs).machine.layout t ((reached l hs).rows t) ((reached l hs).machine.threads t).stage = st.fits t pos here in record {
      waits = waits_not (reached l hs) t c (call_so_far l hs t) ((reached l hs).rows t) fit (gives_so (reached l hs) st t ((reached l hs).rows t) (st.fits t pos here) (st.sees t pos here)) call busy;
      refused = refused_so (reached l hs) t c (call_so_far l hs t) ((reached l hs).rows t) fit (gives_so (reached l hs) st t ((reached l hs).rows t) (st.fits t pos here) (st.sees t pos here)) call busy;
    }
