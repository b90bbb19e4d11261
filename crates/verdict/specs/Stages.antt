-- What the checker keeps of a thread.
use Rattle.std.specs.Prelude.{◌≡◌, ◌≢◌, ◌⊎◌, true, false}
use Rattle.facts.specs.Lives.{IsWait, MayReturn}
use Rattle.lockword.specs.declared.reply.Reply.{Reply}
use Rattle.lockword.specs.declared.reply.Reply.TheVariants.{OK}
use Rattle.posixmutex.specs.declared.point.Operation.{Operation}
use Rattle.posixmutex.specs.declared.point.Operation.TheVariants.{Lock, TimedLock, Unlock, Wait, TimedWait}
use Rattle.facts.specs.declared.fact.Fact.{Fact}
use Rattle.facts.specs.declared.fact.Fact.TheVariants.{Begin, Kill, Point, Death, Sleep}
use Rattle.facts.specs.declared.fact.Fact.TheVariants.{Wake, Move, Return, Reap, Renew}
use Rattle.verdict.specs.declared.stage.Made.{Made}
use Rattle.verdict.specs.declared.stage.Made.TheVariants.{Nothing, Released, Decided}
use Rattle.verdict.specs.declared.stage.Stage.{Stage}
use Rattle.verdict.specs.declared.stage.Stage.TheVariants.{Resting, Calling, Dying, Reaped}
use Rattle.facts.specs.Facts.{is_passive, is_renewal}
use Rattle.verdict.specs.declared.misfit.Misfit.{Misfit}
use Rattle.verdict.specs.declared.misfit.Misfit.TheVariants as misfit
use Rattle.verdict.specs.Misfits.{acts, begins, needs_kill}

-- the next point of a call of which these are made
abbrev pub MayPoint : Operation → Made → Operation → Reply → Type 0
MayPoint Wait Nothing Wait x = Unit {0}
MayPoint Wait Nothing Unlock x = x ≡ OK
MayPoint TimedWait Nothing Wait x = Unit {0}
MayPoint TimedWait Nothing Unlock x = x ≡ OK
MayPoint TimedWait Nothing b x = ⊥
MayPoint TimedLock Nothing b x = (b ≡ TimedLock) ⊎ (b ≡ Lock)
MayPoint a Nothing b x = b ≡ a
MayPoint a Released b x = b ≡ Lock
MayPoint a (Decided y) b x = ⊥

-- why a point isn't the next of such a call
abbrev pub ForbidsPoint : Misfit → Operation → Made → Operation → Reply → Type 0
ForbidsPoint (misfit.OtherOperation op) a Nothing b x = (op ≡ a) × ((y : Reply) → MayPoint a Nothing b y → ⊥)
ForbidsPoint misfit.ReleaseRefused a Nothing b x = IsWait a × (b ≡ Unlock) × (x ≢ OK)
ForbidsPoint misfit.Released a Released b x = b ≢ Lock
ForbidsPoint (misfit.Decided y) a (Decided z) b x = y ≡ z
ForbidsPoint m a made b x = ⊥

-- how far a point brings a call
abbrev pub pointed : Operation → Operation → Reply → Made
pointed Wait Unlock x = Released
pointed TimedWait Unlock x = Released
pointed a b x = Decided x

-- such a call may return this reply
abbrev pub MayReturnNow : Operation → Made → Reply → Type 0
MayReturnNow a (Decided y) x = MayReturn a y x
MayReturnNow a made x = ⊥

-- what may be recorded of a thread at a stage
abbrev pub May : Stage → Fact → Type 0
May Resting (Begin t c) = Unit {0}
May Resting (Kill t) = Unit {0}
May (Calling c made asleep) (Kill t) = Unit {0}
May (Calling c made asleep) (Point d) =
    (asleep ≡ false) × (d.mutex ≡ c.mutex) × MayPoint c.operation made d.operation d.reply
May (Calling c made asleep) (Sleep t q) = asleep ≡ false
May (Calling c made asleep) (Wake t) = asleep ≡ true
May (Calling c made asleep) (Move t m) = asleep ≡ true
May (Calling c made asleep) (Return t x) = (asleep ≡ false) × MayReturnNow c.operation made x
May Dying (Death t m) = Unit {0}
May Dying (Reap t) = Unit {0}
May Reaped (Renew t) = Unit {0}
May stage f = ⊥

-- why a fact may not be recorded of a thread at a stage
abbrev pub Forbids : Misfit → Stage → Fact → Type 0
Forbids (misfit.InCall k) (Calling c made asleep) f = (begins f ≡ true) × (k ≡ c)
Forbids misfit.NoCall Resting f = acts f ≡ true
Forbids misfit.Asleep (Calling c made asleep) f = (acts f ≡ true) × (asleep ≡ true)
Forbids misfit.Awake Resting f = is_passive f ≡ true
Forbids misfit.Awake (Calling c made asleep) f = (is_passive f ≡ true) × (asleep ≡ false)
Forbids misfit.Alive Resting f = needs_kill f ≡ true
Forbids misfit.Alive (Calling c made asleep) f = needs_kill f ≡ true
Forbids misfit.Killed Dying f = needs_kill f ≡ false
Forbids misfit.NotReaped Dying f = is_renewal f ≡ true
Forbids misfit.Reaped Reaped f = is_renewal f ≡ false
Forbids (misfit.OtherMutex n) (Calling c made asleep) (Point d) = (asleep ≡ false) × (n ≡ c.mutex) × (d.mutex ≢ n)
Forbids misfit.Undecided (Calling c made asleep) (Return t x) = (asleep ≡ false) × (made ≡ Nothing)
Forbids misfit.Released (Calling c made asleep) (Return t x) = (asleep ≡ false) × (made ≡ Released)
Forbids (misfit.OtherReply y) (Calling c made asleep) (Return t x) =
    (asleep ≡ false) × (made ≡ Decided y) × (MayReturn c.operation y x → ⊥)
Forbids m (Calling c made asleep) (Point d) =
    (asleep ≡ false) × (d.mutex ≡ c.mutex) × ForbidsPoint m c.operation made d.operation d.reply
Forbids m stage f = ⊥

-- and where it leaves the thread
abbrev pub next : Stage → Fact → Stage
next stage (Begin t c) = Calling c Nothing false
next stage (Kill t) = Dying
next stage (Return t x) = Resting
next stage (Reap t) = Reaped
next stage (Renew t) = Resting
next (Calling c made asleep) (Point d) = Calling c (pointed c.operation d.operation d.reply) asleep
next (Calling c made asleep) (Sleep t q) = Calling c made true
next (Calling c made asleep) (Wake t) = Calling c made false
next stage f = stage
