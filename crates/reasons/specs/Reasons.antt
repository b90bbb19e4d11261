-- The words for why a line of a trace doesn't fit those before it.
--
-- *The words of a reason.* One text for each misfit that the judge of traces tells, with its numbers and words.
use Rattle.std.specs.Prelude.{ℕ, Bool, true, false, List, [], ◌∷◌, ◌++◌, Option, Some, None, codes, decimal}
use Rattle.std.specs.Prelude.{if◌then◌else◌}
use Rattle.std.specs.List.{concat}
use Rattle.lockword.specs.Replies.{reply_word}
use Rattle.posixmutex.specs.declared.object.Object.{Object}
use Rattle.posixmutex.specs.Words.{operation_word}
use Rattle.verdict.specs.declared.misfit.Misfit.{Misfit}
use Rattle.verdict.specs.declared.misfit.Misfit.TheVariants.{EventFalls, AnothersEvent, EventDecided, KillShares}
use Rattle.verdict.specs.declared.misfit.Misfit.TheVariants.{EventKilled, InCall, NoCall, Asleep, Awake, Killed}
use Rattle.verdict.specs.declared.misfit.Misfit.TheVariants.{NotReaped, Reaped, Alive, OtherMutex, OtherOperation}
use Rattle.verdict.specs.declared.misfit.Misfit.TheVariants.{ReleaseRefused, Released, Decided, Undecided, OtherReply}
use Rattle.verdict.specs.declared.misfit.Misfit.TheVariants.{NotAllowed, AtLimit, NotOwner, TooEarly, StillOwns}
use Rattle.verdict.specs.declared.misfit.Misfit.TheVariants.{EndFalls}

abbrev pub with_number : List ℕ → ℕ → List ℕ → List ℕ
with_number before n behind = concat (before ∷ decimal n ∷ behind ∷ [])

-- a mutex that is free, or owned: an owner died, and nobody has declared it consistent since; or not so
abbrev pub owner_text : Option ℕ → Bool → List ℕ
owner_text None false = concat (codes "nobody owns it" ∷ [])
owner_text None true = concat (codes "nobody owns it, since its owner died" ∷ [])
owner_text (Some t) false = with_number (codes "t") t (codes " owns it")
owner_text (Some t) true = with_number (codes "t") t (codes " owns it, and has not declared it consistent")

abbrev pub object_text : Object → List ℕ
object_text o = if o.unusable then concat (codes "it is unusable" ∷ []) else owner_text o.owner o.inconsistent

-- the call that a thread is in already
abbrev pub call_text : List ℕ → ℕ → List ℕ
call_text operation m =
    concat (codes "the thread is in a call already: " ∷ operation ∷ []) ++ with_number (codes " of m") m []

abbrev pub reason_text : Misfit → List ℕ
reason_text (EventFalls i) = with_number (codes "its event is before event ") i (codes ", of which a line was told")
reason_text (AnothersEvent t) = with_number (codes "the event is one of thread t") t []
reason_text EventDecided = concat (codes "the event has a point or a death already" ∷ [])
reason_text KillShares = concat (codes "a kill is an event of its own, and this event has a line already" ∷ [])
reason_text EventKilled = concat (codes "the event is a kill, and has no other line" ∷ [])
reason_text (InCall c) = call_text (operation_word c.operation) c.mutex
reason_text NoCall = concat (codes "the thread is in no call" ∷ [])
reason_text Asleep = concat (codes "the thread is asleep" ∷ [])
reason_text Awake = concat (codes "the thread isn't asleep" ∷ [])
reason_text Killed = concat (codes "the thread was killed" ∷ [])
reason_text NotReaped = concat (codes "the thread was killed, and isn't reaped yet" ∷ [])
reason_text Reaped = concat (codes "the thread was reaped" ∷ [])
reason_text Alive = concat (codes "the thread lives" ∷ [])
reason_text (OtherMutex m) = with_number (codes "the thread's call is on m") m []
reason_text (OtherOperation o) = concat (codes "a call of " ∷ operation_word o ∷ codes " has no such point" ∷ [])
reason_text ReleaseRefused = concat (codes "the unlock of a wait replies OK" ∷ [])
reason_text Released = concat (codes "the wait has released its mutex, and locks it next" ∷ [])
reason_text (Decided x) = concat (codes "the call has its points already, and the last replied " ∷ reply_word x ∷ [])
reason_text Undecided = concat (codes "the call has had no point yet" ∷ [])
reason_text (OtherReply x) = concat (codes "the call's point replied " ∷ reply_word x ∷ [])
reason_text (NotAllowed o x) =
    concat (codes "the mutex doesn't allow the reply " ∷ reply_word x ∷ codes ": " ∷ []) ++ object_text o
reason_text (AtLimit k) = with_number (codes "the thread holds ") k (codes " mutexes, so that the reply is X_HELD")
reason_text (NotOwner o) = concat (codes "the thread doesn't own the mutex: " ∷ []) ++ object_text o
reason_text (TooEarly i) =
    with_number (codes "no other thread owned the mutex since event ") i (codes ", in which the call began")
reason_text (StillOwns m) = with_number (codes "the thread still owns m") m []
reason_text (EndFalls i) = with_number (codes "the end is before event ") i (codes ", of which a line was told")
