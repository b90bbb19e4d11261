-- What is known of a mutex after some lines of a history.
--
-- *Standing among the states.* A trace that shows the lines so far has left the mutex an object, and of each call on it
-- some points. A state stands for it where it is that object, and has the points that changed it; of a call whose point
-- changed nothing it has seen that, if the point's reply is what the call returns; and of a lock that will be told that
-- its time limit came, it has seen another owner, if there was one since the call began. Each trace that shows the lines
-- has such a state (`Follows`): so where there is none, no trace shows them. And each thread owns as many mutexes as its
-- lines say.
use Rattle.std.specs.Prelude.{ℕ, ◌≡◌, ◌≢◌, ◌<◌, ◌==◌, ◌⊎◌, Bool, true, Option, Some, List, [], ◌∷◌, length}
use Rattle.std.specs.Prelude.{Contains, MatchBool, slice_set, if◌then◌else◌}
use Rattle.std.specs.Option.{is_some}
use Rattle.lockword.specs.declared.reply.Reply.{Reply}
use Rattle.lockword.specs.declared.reply.Reply.TheVariants.{ETIMEDOUT}
use Rattle.posixmutex.specs.declared.point.Operation.{Operation}
use Rattle.posixmutex.specs.declared.point.Operation.TheVariants.{TimedLock}
use Rattle.posixmutex.specs.Histories.{held_by}
use Rattle.facts.specs.declared.fact.Begun.{Begun}
use Rattle.facts.specs.declared.fact.Fact.TheVariants.{Begin, Kill, Return, Reap}
use Rattle.facts.specs.declared.fact.Line.{Line}
use Rattle.facts.specs.Facts.{thread_of}
use Rattle.facts.specs.Chances.{Chances}
use Rattle.facts.specs.Lives.{MayReturn}
use Rattle.verdict.specs.declared.stage.Made.{Made as TheirMade}
use Rattle.verdict.specs.declared.stage.Made.TheVariants as made
use Rattle.verdict.specs.declared.stage.Stage.{Stage}
use Rattle.verdict.specs.declared.stage.Stage.TheVariants.{Resting, Calling}
use Rattle.verdict.specs.Earlier.{chances_behind, objects_after}
use Rattle.verdict.specs.Stages.{next}
use Rattle.histories.specs.declared.entry.Entry.{Entry}
use Rattle.histories.specs.declared.entry.Entry.TheVariants.{Told}
use Rattle.histories.specs.Histories.{Certifies, LegalHistory}
use Rattle.refuting.specs.declared.refuter.Refuter.{Refuter}
use Rattle.refuting.specs.declared.state.Call.{Call}
use Rattle.refuting.specs.declared.state.Made.{Made}
use Rattle.refuting.specs.declared.state.Made.TheVariants.{Nothing, Released, Changed}
use Rattle.refuting.specs.declared.state.State.{State}
use Rattle.refuting.specs.declared.turn.Turn.{Turn}
use Rattle.refuting.specs.declared.turn.Turn.TheVariants as turn
use Rattle.refuting.specs.States.{ids, Covered, call_at, first_call}
use Rattle.refuting.specs.Counts.{Counted, count_at}
use Rattle.refuting.specs.Steps.{IsClosed}
use Rattle.refuting.specs.Turns.{Turned, call_on, entry_thread, reply_in, reply_of, turn_at}

-- ---- what a line makes of a state

-- a call of this operation that has come so far may return so: its point decided this reply, or OK where it is a wait
-- that is out of time; or it has seen that it could get it
abbrev pub HasMade : Operation → Made → Bool → Reply → Type 0
HasMade a (Changed x) seen y = MayReturn a x y
HasMade a m seen y = seen ≡ true

abbrev pub MayBeTold : Operation → Call → Reply → Type 0
MayBeTold a c x = HasMade a c.made c.seen x

-- thread t has no call any more, or a new one
abbrev pub renewed : State → ℕ → State
renewed s t = record { object = s.object; calls = slice_set s.calls t first_call }

-- the state allows a line, whose thread was at this turn
abbrev pub Allows : ℕ → Turn → State → Entry → Type 0
Allows m turn s (Told (Return t x)) =
    (k : Begun) → call_on m turn ≡ Some k → MayBeTold k.operation (call_at s.calls t) x
Allows m turn s (Told (Reap t)) = s.object.owner ≢ Some t
Allows m turn s e = Unit {0}

-- what a line makes of the state
abbrev pub told : ℕ → Turn → State → Entry → State
told m turn s (Told (Begin t c)) = if c.mutex == m then renewed s t else s
told m turn s (Told (Return t x)) = if is_some (call_on m turn) then renewed s t else s
told m turn s (Told (Kill t)) = renewed s t
told m turn s (Told (Reap t)) = renewed s t
told m turn s e = s

-- ---- traces

-- the stage of thread t after these lines of a trace, as the judge of traces keeps it
abbrev pub stage_after : ℕ → List Line → Stage
stage_after t [] = Resting
stage_after t (e ∷ es) = if thread_of e.fact == t then next (stage_after t es) e.fact else stage_after t es

-- the point changed nothing
abbrev pub IsOpen : Made → Type 0
IsOpen (Changed x) = ⊥
IsOpen m = Unit {0}

-- a call of this operation that returns x, and of which these points are made, has come so far
abbrev pub HasCome : Operation → TheirMade → Option Reply → Call → Type 0
HasCome a made.Nothing x c = c.made ≡ Nothing
HasCome a made.Released x c = c.made ≡ Released
HasCome a (made.Decided y) x c = (c.made ≡ Changed y)
    ⊎ (IsOpen c.made × ((z : Reply) → MayReturn a y z → x ≡ Some z → c.seen ≡ true))

abbrev pub Goes : ℕ → Stage → Turn → Call → Type 0
Goes m (Calling k made asleep) turn c = k.mutex ≡ m → HasCome k.operation made (reply_of turn) c
Goes m stage turn c = Unit {0}

-- a lock that will be told that its time limit came, and has had no point, has seen another owner, if there was one
abbrev pub Waits : ℕ → Stage → Turn → Call → Chances → Type 0
Waits m (Calling k made.Nothing asleep) turn c chances = k.mutex ≡ m → k.operation ≡ TimedLock
    → reply_of turn ≡ Some ETIMEDOUT → chances.waited ≡ true → c.seen ≡ true
Waits m stage turn c chances = Unit {0}

-- the state stands for what this trace has made of mutex m
pub record StandsFor (m : ℕ) (ts : List Turn) (trace : List Line) (s : State) : Type 0 where
  pub object : s.object ≡ objects_after trace m
  pub long : length s.calls ≡ ids
  pub calls : (t : ℕ) → Goes m (stage_after t trace) (turn_at ts t) (call_at s.calls t)

-- and its calls have waited for what they will be recorded
abbrev pub HaveWaited : ℕ → List Turn → List Line → State → Type 0
HaveWaited m ts trace s =
    (t : ℕ) → Waits m (stage_after t trace) (turn_at ts t) (call_at s.calls t) (chances_behind t m trace)

-- after these lines of a history of n mutexes, which stand newest first, before those later ones
pub record Follows (n : ℕ) (h future : List Entry) (r : Refuter) : Type 0 where
  pub long : length r.turns ≡ ids
  pub nobody : turn_at r.turns 0 ≡ turn.Resting
  pub knows : (t : ℕ) (k : Begun) (x : Option Reply) → turn_at r.turns t ≡ turn.Calling k x → x ≡ reply_in t future
  pub turned : (d : ℕ → Bool) (trace : List Line) → Certifies n d trace h → (t : ℕ)
      → Turned (turn_at r.turns t) (stage_after t trace) (d t)
  pub stands : (d : ℕ → Bool) (trace : List Line) → Certifies n d trace h
      → (s : State) × Contains r.states.items s × StandsFor r.mutex r.turns trace s × HaveWaited r.mutex r.turns trace s
  pub holds : length r.held ≡ ids
  pub counted : (d : ℕ → Bool) (trace : List Line) → Certifies n d trace h → (t : ℕ)
      → Counted (stage_after t trace) (held_by t (objects_after trace) n) (count_at r.held t)
  pub closed : IsClosed r.mutex r.turns r.states.items

-- of each state that allows the line what it makes of it is covered
abbrev pub Retells : ℕ → Turn → Entry → List State → List State → Type 0
Retells m turn e ss rs = (s : State) → Contains ss s → Allows m turn s e → Covered rs (told m turn s e)

-- a line is taken, of a thread whose next return says x; or it refutes the history
abbrev pub Takes : Refuter → Entry → Option Reply → Bool → Refuter → Type 0
Takes r e x going k = (n : ℕ) (h future : List Entry) → r.mutex < n → Follows n h (e ∷ future) r
    → x ≡ reply_in (entry_thread e) future
    → MatchBool going (Follows n (e ∷ h) future k × (k.mutex ≡ r.mutex)) (LegalHistory n (e ∷ h) → ⊥)
