-- Why a line doesn't fit the lines before it: one clause for each reason.
--
-- *Misfits.* Why a line doesn't fit, one clause for each reason: it isn't in the order of events (`IsOutOfOrder`), it
-- isn't what comes next in its thread's life (`IsOutOfLife`), the mutex's object doesn't allow it (`Refuses`: a lock or
-- trylock of a thread that holds as many as it may, a death of one that isn't the owner, or else no death), its call is
-- out of time and nobody else owned the mutex (`IsTooEarly`), or its thread is reaped and owns a mutex (`OwnsSome`); and
-- that the clause of `Fits` of the same subject is the first that is false of the line: the order of events comes first,
-- then the thread, then the mutex. Sources: pthread_mutex_lock(3p), pthread_mutex_timedlock(3p), pthread_cond_wait(3p).
use Rattle.std.specs.Prelude.{ℕ, ◌≡◌, ◌≢◌, ◌<◌, ◌≤◌, ◌⊎◌, Bool, true, false, Option, Some, None, List, [], ◌∷◌}
use Rattle.lockword.specs.declared.reply.Reply.{Reply}
use Rattle.lockword.specs.declared.reply.Reply.TheVariants.{OK, ETIMEDOUT, XHELD}
use Rattle.posixmutex.specs.declared.object.Object.{Object}
use Rattle.posixmutex.specs.declared.point.Operation.TheVariants as operation
use Rattle.posixmutex.specs.declared.point.Decision.{Decision}
use Rattle.posixmutex.specs.Objects.{Permits, acquires, held_limit}
use Rattle.posixmutex.specs.Histories.{held_by}
use Rattle.facts.specs.declared.fact.Begun.{Begun}
use Rattle.facts.specs.declared.fact.Fact.{Fact}
use Rattle.facts.specs.declared.fact.Fact.TheVariants.{Begin, Point, Death, Sleep, Return, Reap, Renew}
use Rattle.facts.specs.declared.fact.Line.{Line}
use Rattle.facts.specs.Lives.{Act, Complete, Beginning, IsWait, MayReturn}
use Rattle.facts.specs.Facts.{thread_of, decision_of, decides, is_passive, is_kill, is_renewal}
use Rattle.facts.specs.Orders.{Later, Each}
use Rattle.verdict.specs.declared.misfit.Misfit.{Misfit}
use Rattle.verdict.specs.declared.misfit.Misfit.TheVariants.{EventFalls, AnothersEvent, EventDecided, KillShares}
use Rattle.verdict.specs.declared.misfit.Misfit.TheVariants.{EventKilled, InCall, NoCall, Asleep, Awake, Killed}
use Rattle.verdict.specs.declared.misfit.Misfit.TheVariants.{NotReaped, Reaped, Alive, OtherMutex, OtherOperation}
use Rattle.verdict.specs.declared.misfit.Misfit.TheVariants.{ReleaseRefused, Released, Decided, Undecided}
use Rattle.verdict.specs.declared.misfit.Misfit.TheVariants.{OtherReply, NotAllowed, AtLimit, NotOwner, TooEarly}
use Rattle.verdict.specs.declared.misfit.Misfit.TheVariants.{StillOwns}
use Rattle.verdict.specs.Earlier.{told_of, call_in, points_in, is_asleep, is_killed, is_reaped, objects_after, latest}
use Rattle.verdict.specs.Earlier.{begun_at, chances_behind}
use Rattle.verdict.specs.Fits.{FitsThread, Allows, IsDue, OwnsNothing}

-- ---- the numbers of events

-- one of these lines is of this event, and tells such a fact
abbrev pub Told : (Fact → Type 0) → ℕ → List Line → Type 0
Told P i [] = ⊥
Told P i (l ∷ ls) = ((l.event ≡ i) × P l.fact) ⊎ Told P i ls

-- thread t did it
abbrev pub IsDoneBy : ℕ → Fact → Type 0
IsDoneBy t f = (is_passive f ≡ false) × (thread_of f ≡ t)

-- the line isn't in the order of events. The lines before it fit, so those of one event are a kill alone, or have no
-- kill: EventKilled is of the one, KillShares of the other
abbrev pub IsOutOfOrder : Misfit → List Line → Line → Type 0
IsOutOfOrder (EventFalls i) earlier e = (i ≡ latest earlier) × (e.event < i)
IsOutOfOrder (AnothersEvent t) earlier e =
    Told (IsDoneBy t) e.event earlier × (is_passive e.fact ≡ false) × (thread_of e.fact ≢ t)
IsOutOfOrder EventDecided earlier e = Told (λ f. decides f ≡ true) e.event earlier × (decides e.fact ≡ true)
IsOutOfOrder KillShares earlier e = Told (λ f. is_kill f ≡ false) e.event earlier × (is_kill e.fact ≡ true)
IsOutOfOrder EventKilled earlier e = Told (λ f. is_kill f ≡ true) e.event earlier
IsOutOfOrder m earlier e = ⊥

-- ---- one thread

abbrev pub begins : Fact → Bool
begins (Begin t c) = true
begins f = false

-- only a thread in a call, awake, does it
abbrev pub acts : Fact → Bool
acts (Point d) = true
acts (Sleep t q) = true
acts (Return t x) = true
acts f = false

-- only of a thread that was killed it is recorded
abbrev pub needs_kill : Fact → Bool
needs_kill (Death t m) = true
needs_kill (Reap t) = true
needs_kill (Renew t) = true
needs_kill f = false

-- the thread was killed, which ended its call and its sleep, and hasn't lived again since
pub record IsEnded (fs : List Fact) : Type 0 where
  pub killed : is_killed fs ≡ true
  pub no_call : call_in fs ≡ None
  pub awake : is_asleep fs ≡ false

-- the thread is awake, in this call
pub record IsAwakeIn (fs : List Fact) (c : Begun) : Type 0 where
  pub call : call_in fs ≡ Some c
  pub awake : is_asleep fs ≡ false

-- the last of these points replied so
abbrev pub Replied : List Act → Reply → Type 0
Replied [] x = ⊥
Replied (p ∷ []) x = p.1 ≡ x
Replied (p ∷ q ∷ ps) x = Replied (q ∷ ps) x

-- the fact isn't what comes next in the life of a thread of which these facts are recorded
abbrev pub IsOutOfLife : Misfit → List Fact → Fact → Type 0
IsOutOfLife (InCall c) fs f = (begins f ≡ true) × (call_in fs ≡ Some c)
IsOutOfLife NoCall fs f = (acts f ≡ true) × (call_in fs ≡ None) × (is_killed fs ≡ false)
IsOutOfLife Asleep fs f = (acts f ≡ true) × (is_asleep fs ≡ true)
IsOutOfLife Awake fs f = (is_passive f ≡ true) × (is_asleep fs ≡ false) × (is_killed fs ≡ false)
IsOutOfLife Killed fs f = (needs_kill f ≡ false) × IsEnded fs × (is_reaped fs ≡ false)
IsOutOfLife NotReaped fs f = (is_renewal f ≡ true) × IsEnded fs × (is_reaped fs ≡ false)
IsOutOfLife Reaped fs f = (is_renewal f ≡ false) × IsEnded fs × (is_reaped fs ≡ true)
IsOutOfLife Alive fs f = (needs_kill f ≡ true) × (is_killed fs ≡ false) × (is_reaped fs ≡ false)
IsOutOfLife (OtherMutex m) fs (Point d) = (c : Begun) × IsAwakeIn fs c × (m ≡ c.mutex) × (d.mutex ≢ m)
IsOutOfLife (OtherOperation op) fs (Point d) = (c : Begun) × IsAwakeIn fs c × (op ≡ c.operation) × (points_in fs ≡ [])
    × ((x : Reply) → Beginning op ((d.operation, x) ∷ []) → ⊥)
IsOutOfLife ReleaseRefused fs (Point d) = (c : Begun) × IsAwakeIn fs c × IsWait c.operation
    × (points_in fs ≡ []) × (d.operation ≡ operation.Unlock) × (d.reply ≢ OK)
IsOutOfLife Released fs (Point d) = (c : Begun) × IsAwakeIn fs c × IsWait c.operation
    × (points_in fs ≡ (operation.Unlock, OK) ∷ []) × (d.operation ≢ operation.Lock)
IsOutOfLife Released fs (Return t x) =
    (c : Begun) × IsAwakeIn fs c × IsWait c.operation × (points_in fs ≡ (operation.Unlock, OK) ∷ [])
IsOutOfLife (Decided x) fs (Point d) =
    (c : Begun) × IsAwakeIn fs c × Complete c.operation (points_in fs) x × Replied (points_in fs) x
IsOutOfLife Undecided fs (Return t x) = (c : Begun) × IsAwakeIn fs c × (points_in fs ≡ [])
IsOutOfLife (OtherReply y) fs (Return t x) =
    (c : Begun) × IsAwakeIn fs c × Complete c.operation (points_in fs) y × Replied (points_in fs) y
    × (MayReturn c.operation y x → ⊥)
IsOutOfLife m fs f = ⊥

-- ---- the mutexes

-- the mutex's object doesn't allow the step of a thread that owns this many mutexes: it is a lock or trylock of a
-- thread that owns as many as it may, a death of one that isn't the owner, or neither. A death replies OK
abbrev pub RefusesStep : Misfit → ℕ → Object → Decision → Type 0
RefusesStep (NotAllowed p x) held o d = (p ≡ o) × (x ≡ d.reply) × (acquires d.operation ≡ true → held < held_limit)
    × (d.operation ≡ operation.Death → x ≢ OK) × ((new : Object) → Permits o d.thread d.operation x new → ⊥)
RefusesStep (AtLimit k) held o d = (k ≡ held) × (held_limit ≤ held) × (acquires d.operation ≡ true) × (d.reply ≢ XHELD)
RefusesStep (NotOwner p) held o d = (p ≡ o) × (d.operation ≡ operation.Death) × (o.owner ≢ Some d.thread)
RefusesStep m held o d = ⊥

abbrev pub Refuses : Misfit → ℕ → (ℕ → Object) → Option Decision → Type 0
Refuses m n os None = ⊥
Refuses m n os (Some d) = RefusesStep m (held_by d.thread os n) (os d.mutex) d

-- the call is out of time, and nobody else owned its mutex since it began, in this event
abbrev pub IsTooEarly : Misfit → List Line → Fact → Type 0
IsTooEarly (TooEarly i) earlier (Point d) = (i ≡ begun_at d.thread earlier) × (d.reply ≡ ETIMEDOUT)
    × ((chances_behind d.thread d.mutex earlier).waited ≡ false)
IsTooEarly m earlier f = ⊥

-- who is reaped owns a mutex, of which this is the first
abbrev pub OwnsSome : Misfit → ℕ → (ℕ → Object) → Fact → Type 0
OwnsSome (StillOwns m) n os (Reap t) = (m < n) × ((os m).owner ≡ Some t) × ((k : ℕ) → k < m → (os k).owner ≢ Some t)
OwnsSome m n os f = ⊥

-- ---- the line

-- the reason is true of the line after the earlier ones, and the clause of Fits that it is about is the first that
-- isn't: the line's event comes first, then its thread, then its mutex; n is the number of mutexes
abbrev pub IsMisfit : Misfit → ℕ → List Line → Line → Type 0
IsMisfit m n earlier e =
    (IsOutOfOrder m earlier e × (Each (λ a. Later a e) earlier → ⊥))
    ⊎ ((Each (λ a. Later a e) earlier × IsOutOfLife m (told_of (thread_of e.fact) earlier) e.fact
    × (FitsThread (told_of (thread_of e.fact) earlier) e.fact → ⊥))
    ⊎ ((Each (λ a. Later a e) earlier × FitsThread (told_of (thread_of e.fact) earlier) e.fact
    × Refuses m n (objects_after earlier) (decision_of e.fact)
    × (Allows n (objects_after earlier) (decision_of e.fact) → ⊥))
    ⊎ ((Each (λ a. Later a e) earlier × FitsThread (told_of (thread_of e.fact) earlier) e.fact
    × Allows n (objects_after earlier) (decision_of e.fact) × IsTooEarly m earlier e.fact × (IsDue earlier e.fact → ⊥))
    ⊎ (Each (λ a. Later a e) earlier × FitsThread (told_of (thread_of e.fact) earlier) e.fact
    × OwnsSome m n (objects_after earlier) e.fact × (OwnsNothing n (objects_after earlier) e.fact → ⊥)))))
