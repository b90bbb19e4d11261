-- Outcomes: what is seen of a run that is over.
--
-- *Outcome.* Of each thread what its calls returned, in order, and how it ended: it made its calls; it has calls left,
-- of a phase that never comes; it was killed; or it sleeps, on a mutex or on a condition variable, and nobody is left to
-- wake it. Of each mutex what its word says: its owner, and whether it is inconsistent or unusable.
use Rattle.std.specs.Prelude.{ℕ, ◌≡◌, ◌⊎◌, Bool, true, false, is_some, List, [], ◌∷◌, map, if◌then◌else◌}
use Rattle.std.specs.List.{range_with_len}
use Rattle.lockword.specs.declared.reply.Reply.{Reply}
use Rattle.memorymap.specs.Layouts.{cell_place}
use Rattle.posixmutex.specs.declared.object.Object.{Object}
use Rattle.condvar.specs.declared.op.Op.{Op}
use Rattle.condvar.specs.declared.op.Op.TheVariants.{OnMutex, OnCondition}
use Rattle.condvar.specs.Ops.{mutex_of}
use Rattle.condvar.specs.Calls.{condition_of}
use Rattle.protocol.specs.declared.thread.Stage.{Stage}
use Rattle.protocol.specs.declared.thread.Stage.TheVariants as stage
use Rattle.protocol.specs.Machine.{State, stands_in}
use Rattle.protocol.specs.Headline.{seen}
use Rattle.protocol.specs.declared.event.Event.{Event}
use Rattle.outcomes.specs.declared.plan.Plan.{Plan}
use Rattle.outcomes.specs.declared.exploring.Witnessed.{Witnessed}
use Rattle.outcomes.specs.declared.outcome.End.{End}
use Rattle.outcomes.specs.declared.outcome.End.TheVariants.{Finished, Waiting, Dead, OnMutex as Mutex, OnCondition as Condition}
use Rattle.outcomes.specs.declared.outcome.Ended.{Ended}
use Rattle.outcomes.specs.declared.outcome.Outcome.{Outcome}
use Rattle.outcomes.specs.Positions.{Position, place_of, next_call, first}
use Rattle.outcomes.specs.Runs.{IsRun, IsOver}

-- what became of a thread, and what is seen at the end
pub record Ended' : Type 0 where
  pub replies : List Reply
  pub end : End

pub record Outcome' : Type 0 where
  pub threads : List Ended'
  pub mutexes : List Object

-- as the code has them
abbrev pub ended_in : Ended → Ended'
ended_in e = record { replies = e.replies.items; end = e.end }

abbrev pub outcome_in : Outcome → Outcome'
outcome_in o = record { threads = map ended_in o.threads.items; mutexes = o.mutexes.items }

-- where thread t sleeps, in a call
abbrev pub asleep_in : State → ℕ → Op → End
asleep_in s t (OnMutex c) = Mutex (mutex_of s.layout (OnMutex c))
asleep_in s t (OnCondition c) =
    if stands_in t (s.queues (cell_place s.layout (mutex_of s.layout (OnCondition c))))
    then Mutex (mutex_of s.layout (OnCondition c))
    else Condition (condition_of c)

-- a thread in no call has calls left, or not
abbrev pub idle_end : Bool → End
idle_end true = Waiting
idle_end false = Finished

-- how thread t, there, ended
abbrev pub end_of : Plan → Position → ℕ → Stage → End
end_of plan p t stage.Idle = idle_end (is_some (next_call plan p.places t))
end_of plan p t (stage.Calling o w) = asleep_in p.state t o
end_of plan p t (stage.AtCondition c w) = Condition (condition_of c)
end_of plan p t (stage.Dying w) = Dead
end_of plan p t stage.Reaped = Dead

abbrev pub ended : Plan → Position → ℕ → Ended'
ended plan p t =
    record { replies = (place_of p.places t).replies; end = end_of plan p t (p.state.threads t).stage }

-- the outcome of a position
abbrev pub outcome_of : Plan → Position → Outcome'
outcome_of plan p = record {
  threads = map (ended plan p) (range_with_len 1 plan.layout.threads);
  mutexes = map (seen p.state) (range_with_len 0 plan.layout.mutexes);
}

-- ---- lists of outcomes

-- an outcome is one of the list
abbrev pub IsListed : Outcome' → List Witnessed → Type 0
IsListed o [] = ⊥
IsListed o (w ∷ ws) = (outcome_in w.outcome ≡ o) ⊎ IsListed o ws

-- each is there once
abbrev pub AreDifferent : List Witnessed → Type 0
AreDifferent [] = Unit {0}
AreDifferent (w ∷ ws) = (IsListed (outcome_in w.outcome) ws → ⊥) × AreDifferent ws

-- the events are a run of the plan from its first position, which is over, with this outcome
pub record IsWitnessed (plan : Plan) (w : Witnessed) : Type 0 where
  pub end : Position
  pub run : IsRun plan (first plan) w.events.items end
  pub over : IsOver plan end
  pub outcome : outcome_in w.outcome ≡ outcome_of plan end

abbrev pub AreWitnessed : Plan → List Witnessed → Type 0
AreWitnessed plan [] = Unit {0}
AreWitnessed plan (w ∷ ws) = IsWitnessed plan w × AreWitnessed plan ws

-- no run of the plan that is over has an outcome that isn't in the list
abbrev pub HasAll : Plan → List Witnessed → Type 0
HasAll plan ws = (es : List Event) (p : Position) → IsRun plan (first plan) es p → IsOver plan p → IsListed (outcome_of plan p) ws
