-- Plans, and the call that a thread makes next.
--
-- *Next call.* A thread goes along its items, in order. It skips an item that comes only after a reply which isn't that
-- of its latest call. The first item that it doesn't skip is its next call; where that item is a stop, or there is none,
-- the thread makes no call any more.
use Rattle.std.specs.Prelude.{ℕ, ◌+◌, ◌-◌, ◌==◌, Bool, true, false, List, [], ◌∷◌, length, take, Option, Some, None}
use Rattle.std.specs.Prelude.{slice_get, slice_index, slice_index_or, if◌then◌else◌}
use Rattle.std.specs.Prelude.{Vec}
use Rattle.std.specs.declared.alloc.Global.{Global}
use Rattle.lockword.specs.declared.reply.Reply.{Reply}
use Rattle.lockword.specs.Replies.{number_of}
use Rattle.protocol.specs.Machine.{State, start}
use Rattle.outcomes.specs.declared.plan.Act.{Act}
use Rattle.outcomes.specs.declared.plan.Act.TheVariants.{Call, Stop}
use Rattle.outcomes.specs.declared.plan.Item.{Item}
use Rattle.outcomes.specs.declared.plan.Asked.{Asked}
use Rattle.outcomes.specs.declared.plan.Plan.{Plan}
use Rattle.outcomes.specs.declared.next.Next.{Next}

-- the reply of a thread's latest call that has returned, if any
abbrev pub last_reply : List Reply → Option Reply
last_reply replies = slice_get replies (length replies - 1)

-- both are one reply
abbrev pub is_same : Reply → Option Reply → Bool
is_same x None = false
is_same x (Some y) = number_of x == number_of y

-- an item comes where that is the last reply
abbrev pub comes_after : Option Reply → Option Reply → Bool
comes_after last None = true
comes_after last (Some x) = is_same x last

-- the call of an item, once its thread has passed this many items
abbrev pub call_of : ℕ → ℕ → Act → Option Next
call_of passed phase (Call o) = Some (record { op = o; phase = phase; at = passed })
call_of passed phase Stop = None

-- the call that comes next among items, of which the first is number i
abbrev pub next_among : Option Reply → ℕ → List Item → Option Next
next_among last i [] = None
next_among last i (item ∷ items) =
    if comes_after last item.after then call_of (i + 1) item.phase item.act else next_among last (i + 1) items

-- the items of a list that may not be there
abbrev pub items_in : Option (Vec Item Global) → List Item
items_in None = []
items_in (Some v) = v.items

-- the items of thread t. Ids begin at 1
abbrev pub items_of : Plan → ℕ → List Item
items_of plan t = items_in (slice_get plan.threads.items (t - 1))

-- what the counter of condition variable k begins with
abbrev pub preset_of : Plan → ℕ → ℕ
preset_of plan k = slice_index (take (length plan.layout.conditions) plan.presets.items) k

-- the machine's state at first
abbrev pub first_state : Plan → State
first_state plan = start plan.layout (preset_of plan)

-- thread t may be killed
abbrev pub is_killable : Asked → ℕ → Bool
is_killable asked t = slice_index_or asked.killable.items (t - 1) false
