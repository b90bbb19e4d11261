-- What an explanation claims.
--
-- *The title.* Of a fault, the line, the fault's number and its words, and for which kind of file; of an illegal trace the
-- line that doesn't fit, and the reason; the exit status is 0 for a good script and a legal trace, and 1 else.
--
-- *What a mutex allows.* A reply comes after `may reply` exactly if the mutex, as it is, permits it to the thread's
-- operation; `or` parts the replies. If it permits none, that is said, in words of the operation.
--
-- *The earlier line.* The newest earlier line of which the reason speaks, of the kind that belongs to this reason.
--
-- *Waits that make their mutexes unusable.* A line tells of one exactly if it is the unlock of a wait, with a time limit or
-- without, whose mutex is inconsistent: the object's step makes it unusable.
use Rattle.std.specs.Prelude.{ℕ, ◌≡◌, ◌≢◌, ◌⊎◌, ◌↔◌, ◌==◌, Bool, true, false, Option, Some, None, List, [], ◌∷◌, ◌++◌}
use Rattle.std.specs.Prelude.{codes, decimal, length, reverse, take, slice_get, if◌then◌else◌}
use Rattle.lockword.specs.Replies.{all_replies, reply_word}
use Rattle.lockword.specs.declared.reply.Reply.{Reply}
use Rattle.lockword.specs.declared.reply.Reply.TheVariants.{OK}
use Rattle.posixmutex.specs.Objects.{Permits, stepped}
use Rattle.posixmutex.specs.Words.{operation_word}
use Rattle.posixmutex.specs.declared.object.Object.{Object}
use Rattle.posixmutex.specs.declared.point.Decision.{Decision}
use Rattle.posixmutex.specs.declared.point.Operation.{Operation}
use Rattle.posixmutex.specs.declared.point.Operation.TheVariants as operation
use Rattle.facts.specs.Facts.{decision_of, decides, thread_of}
use Rattle.facts.specs.Lives.{IsWait}
use Rattle.facts.specs.declared.fact.Begun.{Begun}
use Rattle.facts.specs.declared.fact.Fact.{Fact}
use Rattle.facts.specs.declared.fact.Fact.TheVariants as fact
use Rattle.facts.specs.declared.fact.Line.{Line}
use Rattle.facts.specs.declared.fact.Queue.{Queue}
use Rattle.verdict.specs.Earlier.{call_in, objects_after, told_of}
use Rattle.verdict.specs.declared.misfit.Misfit.{Misfit}
use Rattle.verdict.specs.declared.misfit.Misfit.TheVariants as misfit
use Rattle.verdict.specs.declared.misfit.TraceMisfit.{TraceMisfit}
use Rattle.script.specs.Faults as script
use Rattle.script.specs.declared.command.Mode.TheVariants.{Run, Threads}
use Rattle.verdict.specs.Faults as traces
use Rattle.reasons.specs.Reasons.{reason_text}
use Rattle.explain.specs.Advised.{asked_at}
use Rattle.explain.specs.Allowed.{allowed_text, standing_of}
use Rattle.explain.specs.Explains.{status_of}
use Rattle.explain.specs.Texts.{title_text}
use Rattle.explain.specs.declared.explanation.Title.{Title}
use Rattle.explain.specs.declared.explanation.Title.TheVariants.{Good, Illegal, Legal, Script, Trace}
use Rattle.explain.specs.Origins.{is_origin, origin_of}
use Rattle.explain.specs.Spoiling.{spoils}

-- ---- the title

-- of a line of the file
abbrev pub at_line : List ℕ → ℕ → List ℕ → List ℕ
at_line file line rest = file ++ (codes ": line " ++ (decimal line ++ (codes ": " ++ rest)))

-- a fault's number and its words, and for which kind of file
abbrev pub fault_said : ℕ → List ℕ → List ℕ → List ℕ
fault_said number words kind = codes "fault " ++ (decimal number ++ (codes ": " ++ (words ++ kind)))

-- how many points a trace has
abbrev pub points_said : ℕ → List ℕ
points_said n = decimal n ++ (if n == 1 then codes " point\n" else codes " points\n")

-- what the title says, and its exit status
abbrev pub Claims : Title → List ℕ → List ℕ → ℕ → Type 0
Claims (Good true false) file text status = (text ≡ file ++ codes ": a good script for `rfx run`\n") × (status ≡ 0)
Claims (Good false true) file text status = (text ≡ file ++ codes ": a good script for `rfx threads`\n") × (status ≡ 0)
Claims (Good true true) file text status =
    (text ≡ file ++ codes ": a good script for `rfx run` and `rfx threads`\n") × (status ≡ 0)
Claims (Good false false) file text status = status ≡ 0
Claims (Script Run e) file text status = (text
    ≡ at_line file e.line (fault_said (script.number_of e.fault) (script.words_of e.fault) (codes " (a script for `rfx run`)\n")))
    × (status ≡ 1)
Claims (Script Threads e) file text status = (text
    ≡ at_line file e.line (fault_said (script.number_of e.fault) (script.words_of e.fault) (codes " (a script for `rfx threads`)\n")))
    × (status ≡ 1)
Claims (Trace e) file text status = (text
    ≡ at_line file e.line (fault_said (traces.number_of e.fault) (traces.words_of e.fault) (codes " (a trace)\n"))) × (status ≡ 1)
Claims (Illegal why) file text status =
    (text ≡ at_line file why.line (codes "illegal: " ++ (reason_text why.misfit ++ codes "\n"))) × (status ≡ 1)
Claims (Legal points None) file text status =
    (text ≡ file ++ (codes ": a legal trace, of " ++ points_said points)) × (status ≡ 0)
Claims (Legal points (Some line)) file text status = (text
    ≡ file ++ (codes ": a legal trace, of " ++ (points_said points
    ++ at_line file line (codes "no run has this: the wait makes its mutex unusable\n")))) × (status ≡ 0)

abbrev pub TitlesSayWhatIsFound : Type 0
TitlesSayWhatIsFound = (t : Title) (file : List ℕ) → Claims t file (title_text file t) (status_of t)

-- ---- what a mutex allows

-- a step with this reply leaves some object
abbrev pub MayReply : Object → ℕ → Operation → Reply → Type 0
MayReply o t op r = (new : Object) × Permits o t op r new

abbrev pub Among : Reply → List Reply → Type 0
Among r [] = ⊥
Among r (x ∷ xs) = (r ≡ x) ⊎ Among r xs

-- these replies, with `or` between two
abbrev pub or_others : List Reply → List ℕ
or_others [] = []
or_others (r ∷ rs) = codes " or " ++ (reply_word r ++ or_others rs)

-- that there is none: a lock that isn't answered sleeps, a wait that isn't refused goes on
abbrev pub no_reply : Operation → List ℕ
no_reply operation.Lock = codes " sleeps"
no_reply operation.Wait = codes " isn't refused"
no_reply operation.TimedWait = codes " has no point of its own"
no_reply op = codes " has no reply"

abbrev pub replies_said : Operation → List Reply → List ℕ
replies_said op [] = no_reply op
replies_said op (r ∷ rs) = codes " may reply " ++ (reply_word r ++ or_others rs)

-- what comes after the replies
abbrev pub where_said : Operation → List ℕ
where_said operation.TimedLock =
    codes " where another thread owned the mutex since the call began, and else its point is a `lock`\n"
where_said operation.TimedWait = codes ": its first is a `wait` or an `unlock`\n"
where_said op = codes " here\n"

-- the replies that are named are just those that the mutex permits
pub record NamesItsReplies (o : Object) (t : ℕ) (op : Operation) : Type 0 where
  pub replies : List Reply
  pub just : (r : Reply) → Among r replies ↔ MayReply o t op r
  pub said : allowed_text (standing_of o t) op
      ≡ codes "  = " ++ (operation_word op ++ (replies_said op replies ++ where_said op))

abbrev pub RepliesAreThoseAllowed : Type 0
RepliesAreThoseAllowed = (o : Object) (t : ℕ) (op : Operation) → NamesItsReplies o t op

-- what a point asks of the mutex: an unlock by a thread that doesn't own it, in a wait with a time limit or without, is asked
-- as this wait, which is refused; all else is asked as it stands
pub record WaitsAreAskedAsWaits : Type 0 where
  pub refused : (call : Operation) → IsWait call → asked_at false operation.Unlock (Some call) ≡ operation.Wait
  pub owned : (op : Operation) (call : Option Operation) → asked_at true op call ≡ op
  pub others : (owns : Bool) (op : Operation) (call : Option Operation) → op ≢ operation.Unlock → asked_at owns op call ≡ op
  pub no_wait : (owns : Bool) (op call : Operation) → (IsWait call → ⊥) → asked_at owns op (Some call) ≡ op
  pub no_call : (owns : Bool) (op : Operation) → asked_at owns op None ≡ op

-- ---- the earlier line

-- line a is of the thread of line e, and tells such a fact
abbrev pub IsOwn : (Fact → Type 0) → Line → Line → Type 0
IsOwn P e a = (thread_of a.fact ≡ thread_of e.fact) × P a.fact

abbrev pub Begins : Fact → Type 0
Begins f = (t : ℕ) × (c : Begun) × (f ≡ fact.Begin t c)

abbrev pub Returns : Fact → Type 0
Returns f = (t : ℕ) × (x : Reply) × (f ≡ fact.Return t x)

abbrev pub FallsAsleep : Fact → Type 0
FallsAsleep f = (t : ℕ) × (q : Queue) × (f ≡ fact.Sleep t q)

abbrev pub IsWoken : Fact → Type 0
IsWoken f = (t : ℕ) × (f ≡ fact.Wake t)

abbrev pub IsMoved : Fact → Type 0
IsMoved f = (t m : ℕ) × (f ≡ fact.Move t m)

abbrev pub IsKilled : Fact → Type 0
IsKilled f = (t : ℕ) × (f ≡ fact.Kill t)

abbrev pub IsReaped : Fact → Type 0
IsReaped f = (t : ℕ) × (f ≡ fact.Reap t)

abbrev pub LivesAgain : Fact → Type 0
LivesAgain f = (t : ℕ) × (f ≡ fact.Renew t)

abbrev pub HasPoint : Fact → Type 0
HasPoint f = (d : Decision) × (f ≡ fact.Point d)

-- a point or a death of mutex m
abbrev pub IsStepOf : ℕ → Fact → Type 0
IsStepOf m f = (d : Decision) × (decision_of f ≡ Some d) × (d.mutex ≡ m)

-- of the mutex of which line e has a point or a death
abbrev pub IsStepLike : Line → Line → Type 0
IsStepLike e a = (d : Decision) × (decision_of e.fact ≡ Some d) × IsStepOf d.mutex a.fact

-- which earlier lines each reason speaks of
abbrev pub Speaks : Misfit → Line → Line → Type 0
Speaks (misfit.EventFalls i) e a = Unit {0}
Speaks (misfit.AnothersEvent t) e a = (a.event ≡ e.event) × (IsWoken a.fact → ⊥) × (IsMoved a.fact → ⊥)
Speaks misfit.EventDecided e a = (a.event ≡ e.event) × ((d : Decision) × (decision_of a.fact ≡ Some d))
Speaks misfit.KillShares e a = a.event ≡ e.event
Speaks misfit.EventKilled e a = (a.event ≡ e.event) × IsKilled a.fact
Speaks (misfit.InCall c) e a = IsOwn Begins e a
Speaks misfit.NoCall e a = IsOwn (λ f. Returns f ⊎ LivesAgain f) e a
Speaks misfit.Asleep e a = IsOwn FallsAsleep e a
Speaks misfit.Awake e a = IsOwn (λ f. IsWoken f ⊎ LivesAgain f) e a
Speaks misfit.Killed e a = IsOwn IsKilled e a
Speaks misfit.NotReaped e a = IsOwn IsKilled e a
Speaks misfit.Reaped e a = IsOwn IsReaped e a
Speaks misfit.Alive e a = IsOwn LivesAgain e a
Speaks (misfit.OtherMutex m) e a = IsOwn Begins e a
Speaks (misfit.OtherOperation o) e a = IsOwn Begins e a
Speaks misfit.ReleaseRefused e a = IsOwn Begins e a
Speaks misfit.Released e a = IsOwn HasPoint e a
Speaks (misfit.Decided x) e a = IsOwn HasPoint e a
Speaks misfit.Undecided e a = IsOwn Begins e a
Speaks (misfit.OtherReply x) e a = IsOwn HasPoint e a
Speaks (misfit.NotAllowed o x) e a = IsStepLike e a
Speaks (misfit.AtLimit k) e a = ⊥
Speaks (misfit.NotOwner o) e a = IsStepLike e a
Speaks (misfit.TooEarly i) e a = IsOwn Begins e a
Speaks (misfit.StillOwns m) e a = IsStepOf m a.fact
Speaks (misfit.EndFalls i) e a = Unit {0}

-- the kind of fact that an earlier line has, by its reason; both ways
abbrev pub OriginsAreOfTheirKind : Type 0
OriginsAreOfTheirKind = (m : Misfit) (e a : Line) → is_origin m e a ≡ true → Speaks m e a

abbrev pub AllOfTheKindAreOrigins : Type 0
AllOfTheKindAreOrigins = (m : Misfit) (e a : Line) → is_origin m e a ≡ false → Speaks m e a → ⊥

-- ---- waits that make their mutexes unusable

-- after these lines, which stand newest first, the step is the unlock of a wait whose mutex is inconsistent
pub record IsSpoilingWait (earlier : List Line) (d : Decision) : Type 0 where
  pub call : Begun
  pub waits : (call_in (told_of d.thread earlier) ≡ Some call) × IsWait call.operation
  pub unlocks : (d.operation ≡ operation.Unlock) × (d.reply ≡ OK)
  pub inconsistent : (objects_after earlier d.mutex).inconsistent ≡ true
  -- so it becomes unusable
  pub spoils : (stepped (objects_after earlier d.mutex) d.thread d.operation d.reply).unusable ≡ true

pub record SpoilingWaitsAreFound : Type 0 where
  pub found : (earlier : List Line) (d : Decision) → spoils earlier (Some d) ≡ true → IsSpoilingWait earlier d
  pub all : (earlier : List Line) (d : Decision) → IsSpoilingWait earlier d → spoils earlier (Some d) ≡ true
