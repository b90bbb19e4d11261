-- Where threads are in their lives, as a history's lines say.
--
-- *The turn of a thread.* It rests; is in a call; was killed, or is doomed, perhaps in a call that it may still be in;
-- or was reaped. A begin, a return, a kill, a doom, a reaping and a renewal take it from one to another. A call knows
-- what it returns, where later lines tell.
use Rattle.std.specs.Prelude.{ℕ, ◌==◌, Bool, true, false, Option, Some, None, List}
use Rattle.std.specs.Prelude.{[], ◌∷◌, ◌≡◌, map, slice_index_or, if◌then◌else◌}
use Rattle.lockword.specs.declared.reply.Reply.{Reply}
use Rattle.facts.specs.declared.fact.Begun.{Begun}
use Rattle.facts.specs.declared.fact.Fact.{Fact}
use Rattle.facts.specs.declared.fact.Fact.TheVariants.{Begin, Kill, Return, Reap, Renew}
use Rattle.facts.specs.Facts.{thread_of}
use Rattle.verdict.specs.declared.stage.Stage.{Stage}
use Rattle.verdict.specs.declared.stage.Stage.TheVariants as stage
use Rattle.histories.specs.declared.entry.Entry.{Entry}
use Rattle.histories.specs.declared.entry.Entry.TheVariants.{Told, Doom}
use Rattle.histories.specs.declared.entry.HistoryLine.{HistoryLine}
use Rattle.refuting.specs.declared.turn.Turn.{Turn}
use Rattle.refuting.specs.declared.turn.Turn.TheVariants.{Resting, Calling, Dying, Reaped}

-- whose line it is
abbrev pub entry_thread : Entry → ℕ
entry_thread (Told f) = thread_of f
entry_thread (Doom t) = t

-- where a line leaves its thread, whose next return says x
abbrev pub after_fact : Turn → Fact → Option Reply → Option Turn
after_fact Resting (Begin t c) x = Some (Calling c x)
after_fact Resting (Kill t) x = Some (Dying None)
after_fact (Calling c y) (Return t z) x = Some Resting
after_fact (Calling c y) (Kill t) x = Some (Dying None)
after_fact (Dying c) (Reap t) x = Some Reaped
after_fact Reaped (Renew t) x = Some Resting
after_fact turn f x = None

abbrev pub after_doom : Turn → Option Turn
after_doom Resting = Some (Dying None)
after_doom (Calling c y) = Some (Dying (Some c))
after_doom turn = None

abbrev pub turn_after : Turn → Entry → Option Reply → Option Turn
turn_after turn (Told f) x = after_fact turn f x
turn_after turn (Doom t) x = after_doom turn

-- the threads' turns, by their ids
abbrev pub turn_at : List Turn → ℕ → Turn
turn_at ts t = slice_index_or ts t Resting

-- the call, if it is on mutex m
abbrev pub if_on : ℕ → Begun → Option Begun
if_on m c = if c.mutex == m then Some c else None

-- the call on mutex m that the thread is in, or may be in
abbrev pub call_on : ℕ → Turn → Option Begun
call_on m (Calling c x) = if_on m c
call_on m (Dying (Some c)) = if_on m c
call_on m turn = None

-- what the thread's call returns, if that is known
abbrev pub reply_of : Turn → Option Reply
reply_of (Calling c x) = x
reply_of turn = None

-- what thread t's next return says, in these lines
abbrev pub reply_in : ℕ → List Entry → Option Reply
reply_in t [] = None
reply_in t (Told (Return u x) ∷ es) = if u == t then Some x else reply_in t es
reply_in t (e ∷ es) = reply_in t es

abbrev pub entries : List HistoryLine → List Entry
entries ls = map (λ l. l.entry) ls

-- for each line what its thread's next return says, in the lines after it
abbrev pub replies_of : List HistoryLine → List (Option Reply)
replies_of [] = []
replies_of (l ∷ ls) = reply_in (entry_thread l.entry) (entries ls) ∷ replies_of ls

-- ---- turns and stages

-- the thread rests, and may be doomed
abbrev pub AtRest : Turn → Bool → Type 0
AtRest Resting false = Unit {0}
AtRest (Dying c) true = c ≡ None
AtRest turn doomed = ⊥

-- it is in this call, and may be doomed
abbrev pub InCall : Begun → Turn → Bool → Type 0
InCall k (Calling c x) false = c ≡ k
InCall k (Dying c) true = c ≡ Some k
InCall k turn doomed = ⊥

-- it was killed
abbrev pub IsKilled : Turn → Bool → Type 0
IsKilled (Dying c) false = Unit {0}
IsKilled turn doomed = ⊥

-- and reaped
abbrev pub IsReaped : Turn → Bool → Type 0
IsReaped Reaped false = Unit {0}
IsReaped turn doomed = ⊥

-- the turn of a thread goes with its stage, as the judge of traces has it; `doomed` says that it is doomed and not
-- killed yet
abbrev pub Turned : Turn → Stage → Bool → Type 0
Turned turn stage.Resting doomed = AtRest turn doomed
Turned turn (stage.Calling k made asleep) doomed = InCall k turn doomed
Turned turn stage.Dying doomed = IsKilled turn doomed
Turned turn stage.Reaped doomed = IsReaped turn doomed
