-- The events of a plan: which may come at a position, and where each leads.
--
-- *Events.* A thread begins its next call, when calls of that call's phase may begin; a thread that is in a call and
-- awake, or dying, makes its next access; a thread is killed, in a call or between its calls, where the plan lets it be;
-- and, if the plan asks for them, time limits come, sleepers leave their queues, and wakes are spared. No other events
-- come, and none that does nothing.
use Rattle.std.specs.Prelude.{ℕ, ◌-◌, ◌≡◌, Bool, not, true, false, List, [], ◌∷◌, ◌++◌, Option, Some, None, slice_set}
use Rattle.lockword.specs.declared.reply.Reply.{Reply}
use Rattle.condvar.specs.declared.op.Op.{Op}
use Rattle.protocol.specs.declared.event.Event.{Event}
use Rattle.protocol.specs.declared.event.Event.TheVariants.{Begin, Step, Kill, Leave, Expire, Spare}
use Rattle.protocol.specs.declared.event.LeftTo.TheVariants as left_to
use Rattle.protocol.specs.declared.note.Note.{Note}
use Rattle.protocol.specs.declared.note.Note.TheVariants.{Began, Stepped}
use Rattle.protocol.specs.declared.thread.Stage.{Stage}
use Rattle.protocol.specs.Machine.{happens, is_idle}
use Rattle.interleave.specs.Notes.{is_nothing}
use Rattle.outcomes.specs.declared.plan.Plan.{Plan}
use Rattle.outcomes.specs.declared.next.Next.{Next}
use Rattle.outcomes.specs.Positions.{Place, Position, place_of, next_call, is_turn, may_kill, rests}

-- the next call is this one, and it is its turn
abbrev pub Begins : Plan → Position → Op → Option Next → Type 0
Begins plan p o None = ⊥
Begins plan p o (Some n) = (n.op ≡ o) × (is_turn plan p n.phase ≡ true)

-- the plan has the event come at a position, if it does something there
abbrev pub IsAsked : Plan → Position → Event → Type 0
IsAsked plan p (Begin t o) = Begins plan p o (next_call plan p.places t)
IsAsked plan p (Step t) = Unit {0}
IsAsked plan p (Kill t) = may_kill plan p t ≡ true
IsAsked plan p (Expire t) = plan.asked.expire ≡ true
IsAsked plan p (Leave t) = plan.asked.leave ≡ true
IsAsked plan p (Spare t left_to.Thread) = plan.asked.spare ≡ true
IsAsked plan p e = ⊥

-- and it does
abbrev pub MayCome : Plan → Position → Event → Type 0
MayCome plan p e = IsAsked plan p e × (is_nothing (happens p.state e).note ≡ false)

-- a thread that stands so can't make an event: begin a call in another one, or step where it rests
abbrev pub is_out : Stage → Event → Bool
is_out g (Begin t o) = not (is_idle g)
is_out g (Step t) = rests g
is_out g e = false

-- ---- where it leads

-- what a call returned, and of which thread, as the note says
abbrev pub reply_in : Note → Option (ℕ × Reply)
reply_in (Began t c (Some x)) = Some (t, x)
reply_in (Stepped t m point slept woken moved (Some x)) = Some (t, x)
reply_in n = None

-- the reply is added to those of its thread
abbrev pub replied : Option (ℕ × Reply) → List Place → List Place
replied None places = places
replied (Some r) places =
    slice_set places (r.0 - 1)
    (record { at = (place_of places r.0).at; replies = (place_of places r.0).replies ++ r.1 ∷ [] })

-- thread t has begun its next call
abbrev pub begun : List Place → ℕ → Option Next → List Place
begun places t None = places
begun places t (Some n) =
    slice_set places (t - 1) (record { at = n.at; replies = (place_of places t).replies })

abbrev pub places_begun : Plan → List Place → Event → List Place
places_begun plan places (Begin t o) = begun places t (next_call plan places t)
places_begun plan places e = places

-- the phase once that is the next call
abbrev pub phase_begun : ℕ → Option Next → ℕ
phase_begun phase None = phase
phase_begun phase (Some n) = n.phase

abbrev pub phase_after : Plan → Position → Event → ℕ
phase_after plan p (Begin t o) = phase_begun p.phase (next_call plan p.places t)
phase_after plan p e = p.phase

-- the position after an event
abbrev pub after : Plan → Position → Event → Position
after plan p e = record {
  state = (happens p.state e).state;
  phase = phase_after plan p e;
  places = replied (reply_in (happens p.state e).note) (places_begun plan p.places e);
}
