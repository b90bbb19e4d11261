-- What a search has reached.
--
-- *Reached.* Each position that was reached is the first one, or an event of the plan leads there from one that was
-- reached before it.
use Rattle.std.specs.Prelude.{ℕ, ◌≡◌, ◌<◌, ◌≤◌, Bool, true, false, List, ◌++◌, length, Option, Some, None, slice_get}
use Rattle.memorymap.specs.Layouts.{Layout'}
use Rattle.protocol.specs.declared.event.Event.{Event}
use Rattle.protocol.specs.declared.event.Event.TheVariants.{Begin, Step, Kill, Leave, Expire, Decline, Renew, Remake, Spare}
use Rattle.outcomes.specs.declared.plan.Plan.{Plan}
use Rattle.outcomes.specs.declared.events.Kind.{Kind}
use Rattle.outcomes.specs.declared.events.Kind.TheVariants as kind
use Rattle.outcomes.specs.declared.search.Reached.{Reached}
use Rattle.outcomes.specs.declared.search.Tried.{Tried}
use Rattle.outcomes.specs.declared.search.Tried.TheVariants.{Never, Found, NoRoom}
use Rattle.protocol.specs.declared.event.LeftTo.TheVariants as left_to
use Rattle.outcomes.specs.declared.next.Next.{Next}
use Rattle.outcomes.specs.Positions.{Position, first, next_call, is_turn, may_kill}
use Rattle.outcomes.specs.Events.{MayCome, after}
use Rattle.outcomes.specs.Runs.{GoesOn}
use Rattle.outcomes.specs.Stored.{stored_position, IsStored}

-- number i of what was reached is this position
pub record IsAt (l : Layout') (reached : List Reached) (i : ℕ) (p : Position) : Type 0 where
  pub one : Reached
  pub there : slice_get reached i ≡ Some one
  pub is : stored_position l one.stored ≡ p

-- a position was reached
abbrev pub Has : Layout' → List Reached → Position → Type 0
Has l reached p = (i : ℕ) × IsAt l reached i p

-- how a position came to be reached, as number i
abbrev pub CameBy : Plan → List Reached → ℕ → Option (ℕ × Event) → Position → Type 0
CameBy plan reached i None p = (i ≡ 0) × (first plan ≡ p)
CameBy plan reached i (Some by) p =
    (by.0 < i) × (q : Position) × IsAt plan.layout reached by.0 q × MayCome plan q by.1 × (after plan q by.1 ≡ p)

pub record IsOne (plan : Plan) (reached : List Reached) (i : ℕ) (one : Reached) : Type 0 where
  pub stored : IsStored plan one.stored
  pub came : CameBy plan reached i one.by (stored_position plan.layout one.stored)

-- each of them was reached
abbrev pub AreReached : Plan → List Reached → Type 0
AreReached plan reached = (i : ℕ) (one : Reached) → slice_get reached i ≡ Some one → IsOne plan reached i one

-- these were reached besides
abbrev pub Grows : List Reached → List Reached → Type 0
Grows old new = (more : List Reached) × (new ≡ old ++ more)

-- ---- events that are tried

-- whose event it is
abbrev pub thread_of : Event → ℕ
thread_of (Begin t o) = t
thread_of (Step t) = t
thread_of (Kill t) = t
thread_of (Leave t) = t
thread_of (Expire t) = t
thread_of (Decline t) = t
thread_of (Renew t) = t
thread_of (Remake t m) = t
thread_of (Spare t by) = t

-- an event of a kind
abbrev pub IsOf : Kind → Event → Type 0
IsOf kind.Begin (Begin t o) = Unit {0}
IsOf kind.Step (Step t) = Unit {0}
IsOf kind.Kill (Kill t) = Unit {0}
IsOf kind.Expire (Expire t) = Unit {0}
IsOf kind.Leave (Leave t) = Unit {0}
IsOf kind.Spare (Spare t by) = Unit {0}
IsOf k e = ⊥

-- what trying an event at a position says, where there is room for this many
abbrev pub IsTried : Plan → Position → ℕ → List Reached → Event → Tried → Type 0
IsTried plan p limit reached e Never = MayCome plan p e → ⊥
IsTried plan p limit reached e Found = MayCome plan p e × Has plan.layout reached (after plan p e)
IsTried plan p limit reached e NoRoom = MayCome plan p e × (limit ≤ length reached)

-- of the kind and the thread there is such an event, or none may come
abbrev pub IsTriedOf : Plan → Position → ℕ → List Reached → Kind → ℕ → Tried → Type 0
IsTriedOf plan p limit reached k t Never = (e : Event) → IsOf k e → thread_of e ≡ t → MayCome plan p e → ⊥
IsTriedOf plan p limit reached k t Found =
    (e : Event) × IsOf k e × MayCome plan p e × ((f : Event) → IsOf k f → thread_of f ≡ t → MayCome plan p f → Has plan.layout reached (after plan p f))
IsTriedOf plan p limit reached k t NoRoom = (e : Event) × IsOf k e × MayCome plan p e × (limit ≤ length reached)

-- the events of a thread were tried at a position: `on` where a run goes on by one, `room` where there was room for
-- what each of them leads to
pub record IsThread (plan : Plan) (p : Position) (limit : ℕ) (reached : List Reached) (t : ℕ) (on room : Bool) : Type 0 where
  pub goes : on ≡ true → (e : Event) × GoesOn e × MayCome plan p e
  pub over : on ≡ false → (e : Event) → thread_of e ≡ t → GoesOn e → MayCome plan p e → ⊥
  pub closed : room ≡ true → (e : Event) → thread_of e ≡ t → MayCome plan p e → Has plan.layout reached (after plan p e)
  pub full : room ≡ false → limit ≤ length reached

-- and those of the first n threads
pub record AreThreads (plan : Plan) (p : Position) (limit : ℕ) (reached : List Reached) (n : ℕ) (on room : Bool) : Type 0 where
  pub goes : on ≡ true → (e : Event) × GoesOn e × MayCome plan p e
  pub over : on ≡ false → (e : Event) → 1 ≤ thread_of e → thread_of e ≤ n → GoesOn e → MayCome plan p e → ⊥
  pub closed : room ≡ true → (e : Event) → 1 ≤ thread_of e → thread_of e ≤ n → MayCome plan p e → Has plan.layout reached (after plan p e)
  pub full : room ≡ false → limit ≤ length reached

-- ---- the event of a kind

abbrev pub if_wanted : Bool → Event → Option Event
if_wanted true e = Some e
if_wanted false e = None

-- the begin of the next call, if it is its turn
abbrev pub begin_with : Plan → Position → ℕ → Option Next → Option Event
begin_with plan p t None = None
begin_with plan p t (Some n) = if_wanted (is_turn plan p n.phase) (Begin t n.op)

abbrev pub begin_for : Plan → Position → ℕ → Option Event
begin_for plan p t = begin_with plan p t (next_call plan p.places t)

-- the event of a kind and of thread t that the plan has come, if it does something; `asked_is_event` proves that this is
-- what `IsAsked` says
abbrev pub event_for : Plan → Position → Kind → ℕ → Option Event
event_for plan p kind.Begin t = begin_for plan p t
event_for plan p kind.Step t = Some (Step t)
event_for plan p kind.Kill t = if_wanted (may_kill plan p t) (Kill t)
event_for plan p kind.Expire t = if_wanted plan.asked.expire (Expire t)
event_for plan p kind.Leave t = if_wanted plan.asked.leave (Leave t)
event_for plan p kind.Spare t = if_wanted plan.asked.spare (Spare t left_to.Thread)

-- ---- what became of an event

abbrev pub came : Tried → Bool
came Never = false
came Found = true
came NoRoom = true

abbrev pub had_room : Tried → Bool
had_room Never = true
had_room Found = true
had_room NoRoom = false
