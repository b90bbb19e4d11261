-- What a legal trace means: its points and deaths are one legal history, which explains what its threads were
-- recorded (POSIX robust mutexes).
--
-- *A legal trace explains itself.* Its lines are in order; its points and deaths are a legal history; each thread's
-- lines are its lives (`Lives`), each but the last ended by its reaping; a thread falls asleep only awake in a call,
-- and asleep it is only moved, and then woken or killed, as it is nowhere else; a call is out of time only where another
-- thread owned its mutex at some moment since it began (`TimeLimitsHaveReasons`); and at each kill, what the thread
-- owned then is what its death is recorded for in this life (`in_this_life`). Calls on condition variables have their
-- points there too. Sources: pthread_mutex_lock(3p), pthread_mutex_timedlock(3p), pthread_cond_wait(3p).
use Rattle.std.specs.Prelude.{ℕ, ◌≡◌, ◌≢◌, ◌+◌, ◌<◌, ◌≤◌, ◌==◌, ◌&&◌, Bool, true, false}
use Rattle.std.specs.Prelude.{Option, Some, None, List, [], ◌∷◌, ◌++◌, map, reverse, if◌then◌else◌}
use Rattle.posixmutex.specs.declared.object.Object.{Object}
use Rattle.posixmutex.specs.declared.point.Decision.{Decision}
use Rattle.posixmutex.specs.Histories.{Legal, opening}
use Rattle.facts.specs.declared.fact.Fact.{Fact}
use Rattle.facts.specs.declared.fact.Fact.TheVariants.{Begin, Kill, Death, Sleep, Wake, Move, Return, Reap, Renew}
use Rattle.facts.specs.declared.fact.Line.{Line}
use Rattle.facts.specs.Lives.{own, Lives}
use Rattle.facts.specs.Facts.{decision_of}
use Rattle.facts.specs.Chances.{TimeLimitsHaveReasons, no_chances}
use Rattle.facts.specs.Orders.{Orderly}
use Rattle.verdict.specs.Earlier.{told_of}

-- ---- the mutexes

-- the points and deaths, in their order
abbrev pub with_decision : Option Decision → List Decision → List Decision
with_decision None ds = ds
with_decision (Some d) ds = d ∷ ds

abbrev pub decisions : List Line → List Decision
decisions [] = []
decisions (e ∷ es) = with_decision (decision_of e.fact) (decisions es)

-- how often thread t's death is recorded of mutex m
abbrev pub is_death : ℕ → ℕ → Fact → Bool
is_death t m (Death u k) = (u == t) && (k == m)
is_death t m f = false

abbrev pub deaths : ℕ → ℕ → List Line → ℕ
deaths t m [] = 0
deaths t m (e ∷ es) = (if is_death t m e.fact then 1 else 0) + deaths t m es

-- whether these lines tell that thread t was reaped
abbrev pub is_reaping : ℕ → Fact → Bool
is_reaping t (Reap u) = u == t
is_reaping t f = false

abbrev pub reaped : ℕ → List Line → Bool
reaped t [] = false
reaped t (e ∷ es) = if is_reaping t e.fact then true else reaped t es

-- whether these lines tell that thread t lives again
abbrev pub is_renewing : ℕ → Fact → Bool
is_renewing t (Renew u) = u == t
is_renewing t f = false

abbrev pub renewed : ℕ → List Line → Bool
renewed t [] = false
renewed t (e ∷ es) = if is_renewing t e.fact then true else renewed t es

-- of these lines, the newest first, those before the first that tells that thread t lives again; all of them where
-- none does
abbrev pub in_this_life : ℕ → List Line → List Line
in_this_life t [] = []
in_this_life t (e ∷ es) = if renewed t (e ∷ es) then in_this_life t es else e ∷ es

-- of each mutex that thread t owned when it was killed its death is recorded at most once, and exactly once if it was
-- reaped; of no other is it told; n is the number of mutexes, and the lines are those of this life of t
pub record Buries (t n : ℕ) (held : ℕ → Object) (later : List Line) : Type 0 where
  pub at_most_once : (m : ℕ) → m < n → (held m).owner ≡ Some t → deaths t m later ≤ 1
  pub once_reaped : (m : ℕ) → m < n → (held m).owner ≡ Some t → reaped t later ≡ true → deaths t m later ≡ 1
  pub no_other : (m : ℕ) → m < n → (held m).owner ≢ Some t → deaths t m later ≡ 0

-- ---- who sleeps

-- what a thread does: it is in no call, or awake in one, or asleep in one
pub data Doing : Type 0 where
  Idle : Doing
  Awake : Doing
  Asleep : Doing

-- what is recorded of a thread that does this, in its order: it falls asleep only awake in a call; asleep it is only
-- moved, and then woken or killed; and it is woken and moved only asleep
abbrev pub Alternates : Doing → List Fact → Type 0
Alternates d [] = Unit {0}
Alternates Awake (Sleep t q ∷ fs) = Alternates Asleep fs
Alternates d (Sleep t q ∷ fs) = ⊥
Alternates Asleep (Move t m ∷ fs) = Alternates Asleep fs
Alternates d (Move t m ∷ fs) = ⊥
Alternates Asleep (Wake t ∷ fs) = Alternates Awake fs
Alternates d (Wake t ∷ fs) = ⊥
Alternates d (Kill t ∷ fs) = Alternates Idle fs
Alternates Asleep (f ∷ fs) = ⊥
Alternates d (Begin t c ∷ fs) = Alternates Awake fs
Alternates d (Return t x ∷ fs) = Alternates Idle fs
Alternates d (f ∷ fs) = Alternates d fs

-- ---- the trace

abbrev pub facts_of : List Line → List Fact
facts_of ls = map (λ l. l.fact) ls

-- these lines, the newest first, explain themselves; n is the number of mutexes
pub record Explains (n : ℕ) (told : List Line) : Type 0 where
  -- the numbers of points and deaths rise, and each is of an event of its own thread
  pub orderly : Orderly (reverse told)
  -- the points and deaths are a legal history
  pub legal : (new : ℕ → Object) × Legal n opening (decisions (reverse told)) new
  pub lives : (t : ℕ) → Lives t (own t (reverse told))
  -- nobody sleeps but in a call, until it is woken or killed
  pub sleeps : (t : ℕ) → Alternates Idle (told_of t (reverse told))
  -- nobody is out of time but where another thread owned the mutex since the call began
  pub time_limits : (t m : ℕ) → TimeLimitsHaveReasons t m no_chances (facts_of (reverse told))
  -- at each kill, until the thread lives again
  pub deaths_told : (newer earlier : List Line) (i t : ℕ)
      → told ≡ newer ++ (record { event = i; fact = Kill t }) ∷ earlier →
      (held : ℕ → Object) × Legal n opening (decisions (reverse earlier)) held × Buries t n held (in_this_life t newer)
