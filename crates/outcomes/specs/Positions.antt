-- Positions: where a run of a plan is.
--
-- *Position.* The machine's state, the phase, and for each thread how many of its items it has passed and what its calls
-- returned. At first the machine is at its start, the phase is 0, and no thread has begun.
use Rattle.std.specs.Prelude.{ℕ, zero, suc, ◌+◌, ◌-◌, ◌==◌, Bool, true, false, ◌&&◌, ◌||◌, nat_lt, List, [], drop, replicate}
use Rattle.std.specs.Prelude.{Option, Some, None, is_some, slice_index_or, if◌then◌else◌}
use Rattle.lockword.specs.declared.reply.Reply.{Reply}
use Rattle.protocol.specs.declared.thread.Stage.{Stage}
use Rattle.protocol.specs.declared.thread.Stage.TheVariants.{Idle, Calling, AtCondition, Dying, Reaped}
use Rattle.protocol.specs.Machine.{State, is_idle, is_gone, is_alive}
use Rattle.outcomes.specs.declared.plan.Plan.{Plan}
use Rattle.outcomes.specs.declared.next.Next.{Next}
use Rattle.outcomes.specs.Plans.{last_reply, next_among, items_of, first_state, is_killable}

-- how far a thread has come: how many of its items it has passed, and what its calls returned, in order
pub record Place : Type 0 where
  pub at : ℕ
  pub replies : List Reply

pub record Position : Type 0 where
  pub state : State
  pub phase : ℕ
  pub places : List Place

abbrev pub first_place : Place
first_place = record { at = 0; replies = [] }

abbrev pub first : Plan → Position
first plan = record { state = first_state plan; phase = 0; places = replicate plan.layout.threads first_place }

-- how far thread t has come
abbrev pub place_of : List Place → ℕ → Place
place_of places t = slice_index_or places (t - 1) first_place

-- the call that thread t makes next, where it is in no call
abbrev pub next_call : Plan → List Place → ℕ → Option Next
next_call plan places t =
    next_among (last_reply (place_of places t).replies) (place_of places t).at (drop (place_of places t).at (items_of plan t))

-- ---- phases

-- a thread is in no call, and not dying
abbrev pub rests : Stage → Bool
rests g = is_idle g || is_gone g

-- each of the first n threads rests
abbrev pub all_rest : State → ℕ → Bool
all_rest s zero = true
all_rest s (suc n) = all_rest s n && rests (s.threads (suc n)).stage

-- a call of an earlier phase
abbrev pub is_earlier : ℕ → Option Next → Bool
is_earlier phase None = false
is_earlier phase (Some n) = nat_lt n.phase phase

-- one of the first n threads, which lives and is in no call, has a next call of an earlier phase
abbrev pub some_earlier : Plan → Position → ℕ → ℕ → Bool
some_earlier plan p phase zero = false
some_earlier plan p phase (suc n) =
    some_earlier plan p phase n
    || (is_idle (p.state.threads (suc n)).stage && is_earlier phase (next_call plan p.places (suc n)))

-- calls of a phase may begin: it is the present one; or a later one, where everybody rests and nobody has a call of a
-- phase before it
abbrev pub is_turn : Plan → Position → ℕ → Bool
is_turn plan p phase =
    (phase == p.phase)
    || (nat_lt p.phase phase
    && (all_rest p.state plan.layout.threads && (if some_earlier plan p phase plan.layout.threads then false else true)))

-- ---- kills

-- how many of the first n threads were killed
abbrev pub killed_among : State → ℕ → ℕ
killed_among s zero = 0
killed_among s (suc n) = killed_among s n + (if is_alive (s.threads (suc n)).stage then 0 else 1)

-- thread t lives and has something left to do
abbrev pub is_under_way : Plan → List Place → ℕ → Stage → Bool
is_under_way plan places t Idle = is_some (next_call plan places t)
is_under_way plan places t (Calling o p) = true
is_under_way plan places t (AtCondition c p) = true
is_under_way plan places t (Dying w) = false
is_under_way plan places t Reaped = false

-- thread t may be killed: the plan asks for it, fewer were killed than may be, and it has something left to do
abbrev pub may_kill : Plan → Position → ℕ → Bool
may_kill plan p t =
    is_killable plan.asked t
    && (nat_lt (killed_among p.state plan.layout.threads) plan.asked.kills
    && is_under_way plan p.places t (p.state.threads t).stage)
