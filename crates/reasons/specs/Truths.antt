-- What a reason says of a thread, and of a mutex, is so.
--
-- *Reasons are true.* Each reason that the judge of traces finds has its own words, and what they say of the line's thread,
-- its event and its mutex is so after the earlier lines. The words for a mutex are those of its state.
use Rattle.std.specs.Prelude.{ℕ, ◌≡◌, ◌≢◌, ◌<◌, ◌≤◌, true, false, Some, None, List, [], ◌∷◌, ◌++◌, codes}
use Rattle.std.specs.Prelude.{decimal}
use Rattle.lockword.specs.declared.reply.Reply.{Reply}
use Rattle.lockword.specs.declared.reply.Reply.TheVariants.{OK, XHELD}
use Rattle.lockword.specs.Replies.{reply_word}
use Rattle.posixmutex.specs.declared.object.Object.{Object}
use Rattle.posixmutex.specs.declared.point.Decision.{Decision}
use Rattle.posixmutex.specs.declared.point.Operation.TheVariants as operation
use Rattle.posixmutex.specs.Histories.{held_by}
use Rattle.posixmutex.specs.Objects.{Permits, held_limit}
use Rattle.posixmutex.specs.Words.{operation_word}
use Rattle.facts.specs.declared.fact.Begun.{Begun}
use Rattle.facts.specs.declared.fact.Fact.{Fact}
use Rattle.facts.specs.declared.fact.Line.{Line}
use Rattle.facts.specs.Facts.{decides, decision_of, is_kill, thread_of}
use Rattle.facts.specs.Lives.{Complete, IsWait}
use Rattle.verdict.specs.declared.misfit.Misfit.{Misfit}
use Rattle.verdict.specs.declared.misfit.Misfit.TheVariants.{EventFalls, AnothersEvent, EventDecided, KillShares}
use Rattle.verdict.specs.declared.misfit.Misfit.TheVariants.{EventKilled, InCall, NoCall, Asleep, Awake, Killed}
use Rattle.verdict.specs.declared.misfit.Misfit.TheVariants.{NotReaped, Reaped, Alive, OtherMutex, OtherOperation}
use Rattle.verdict.specs.declared.misfit.Misfit.TheVariants.{ReleaseRefused, Released, Decided, Undecided, OtherReply}
use Rattle.verdict.specs.declared.misfit.Misfit.TheVariants.{NotAllowed, AtLimit, NotOwner, TooEarly, StillOwns}
use Rattle.verdict.specs.declared.misfit.Misfit.TheVariants.{EndFalls}
use Rattle.verdict.specs.Earlier.{begun_at, call_in, is_asleep, is_killed, is_reaped, latest, objects_after, points_in}
use Rattle.verdict.specs.Earlier.{told_of}
use Rattle.verdict.specs.Misfits.{IsDoneBy, IsMisfit, Replied, Told}
use Rattle.reasons.specs.Reasons.{object_text, reason_text}

-- the thread is in this call
abbrev pub IsIn : List Fact → Begun → Type 0
IsIn fs c = call_in fs ≡ Some c

-- it was killed, and hasn't been reaped since
abbrev pub IsUnreaped : List Fact → Type 0
IsUnreaped fs = (is_killed fs ≡ true) × (is_reaped fs ≡ false)

-- the wait has made its first point, the unlock
abbrev pub HasReleased : List Fact → Type 0
HasReleased fs = (c : Begun) × IsIn fs c × IsWait c.operation × (points_in fs ≡ (operation.Unlock, OK) ∷ [])

-- all points of the call have been made, and the last replied so
abbrev pub IsDecided : List Fact → Reply → Type 0
IsDecided fs x = (c : Begun) × IsIn fs c × Complete c.operation (points_in fs) x × Replied (points_in fs) x

-- the words of each reason, and what they say of the thread, its event and the mutex: this is so where line e comes
-- after the earlier ones; n is the number of mutexes. EndFalls is no reason of a line but of the end
abbrev pub Says : Misfit → List ℕ → ℕ → List Line → Line → Type 0
Says (EventFalls i) words n earlier e =
    (words ≡ codes "its event is before event " ++ decimal i ++ codes ", of which a line was told")
    × (latest earlier ≡ i) × (e.event < i)
Says (AnothersEvent t) words n earlier e =
    (words ≡ codes "the event is one of thread t" ++ decimal t) × Told (IsDoneBy t) e.event earlier
Says EventDecided words n earlier e = (words ≡ codes "the event has a point or a death already")
    × Told (λ f. decides f ≡ true) e.event earlier
Says KillShares words n earlier e =
    (words ≡ codes "a kill is an event of its own, and this event has a line already")
    × (is_kill e.fact ≡ true) × Told (λ f. is_kill f ≡ false) e.event earlier
Says EventKilled words n earlier e =
    (words ≡ codes "the event is a kill, and has no other line") × Told (λ f. is_kill f ≡ true) e.event earlier
Says (InCall c) words n earlier e =
    (words
    ≡ codes "the thread is in a call already: " ++ (operation_word c.operation ++ (codes " of m" ++ decimal c.mutex)))
    × IsIn (told_of (thread_of e.fact) earlier) c
Says NoCall words n earlier e =
    (words ≡ codes "the thread is in no call") × (call_in (told_of (thread_of e.fact) earlier) ≡ None)
Says Asleep words n earlier e =
    (words ≡ codes "the thread is asleep") × (is_asleep (told_of (thread_of e.fact) earlier) ≡ true)
Says Awake words n earlier e =
    (words ≡ codes "the thread isn't asleep") × (is_asleep (told_of (thread_of e.fact) earlier) ≡ false)
Says Killed words n earlier e =
    (words ≡ codes "the thread was killed") × IsUnreaped (told_of (thread_of e.fact) earlier)
Says NotReaped words n earlier e =
    (words ≡ codes "the thread was killed, and isn't reaped yet") × IsUnreaped (told_of (thread_of e.fact) earlier)
Says Reaped words n earlier e =
    (words ≡ codes "the thread was reaped") × (is_reaped (told_of (thread_of e.fact) earlier) ≡ true)
Says Alive words n earlier e =
    (words ≡ codes "the thread lives") × (is_killed (told_of (thread_of e.fact) earlier) ≡ false)
Says (OtherMutex m) words n earlier e = (words ≡ codes "the thread's call is on m" ++ decimal m)
    × ((c : Begun) × IsIn (told_of (thread_of e.fact) earlier) c × (c.mutex ≡ m))
Says (OtherOperation o) words n earlier e =
    (words ≡ codes "a call of " ++ operation_word o ++ codes " has no such point")
    × ((c : Begun) × IsIn (told_of (thread_of e.fact) earlier) c × (c.operation ≡ o))
Says ReleaseRefused words n earlier e = (words ≡ codes "the unlock of a wait replies OK")
    × ((c : Begun) × IsIn (told_of (thread_of e.fact) earlier) c × IsWait c.operation)
Says Released words n earlier e = (words ≡ codes "the wait has released its mutex, and locks it next")
    × HasReleased (told_of (thread_of e.fact) earlier)
Says (Decided x) words n earlier e =
    (words ≡ codes "the call has its points already, and the last replied " ++ reply_word x)
    × IsDecided (told_of (thread_of e.fact) earlier) x
Says Undecided words n earlier e = (words ≡ codes "the call has had no point yet")
    × ((c : Begun) × IsIn (told_of (thread_of e.fact) earlier) c × (points_in (told_of (thread_of e.fact) earlier) ≡ []))
Says (OtherReply x) words n earlier e = (words ≡ codes "the call's point replied " ++ reply_word x)
    × IsDecided (told_of (thread_of e.fact) earlier) x
Says (NotAllowed o x) words n earlier e =
    (words ≡ codes "the mutex doesn't allow the reply " ++ (reply_word x ++ (codes ": " ++ object_text o)))
    × ((d : Decision) × (decision_of e.fact ≡ Some d) × (x ≡ d.reply) × (o ≡ objects_after earlier d.mutex)
    × ((new : Object) → Permits o d.thread d.operation x new → ⊥))
Says (AtLimit k) words n earlier e =
    (words ≡ codes "the thread holds " ++ decimal k ++ codes " mutexes, so that the reply is X_HELD")
    × ((d : Decision) × (decision_of e.fact ≡ Some d) × (k ≡ held_by d.thread (objects_after earlier) n)
    × (held_limit ≤ k) × (d.reply ≢ XHELD))
Says (NotOwner o) words n earlier e = (words ≡ codes "the thread doesn't own the mutex: " ++ object_text o)
    × ((d : Decision) × (decision_of e.fact ≡ Some d) × (o ≡ objects_after earlier d.mutex) × (o.owner ≢ Some d.thread))
Says (TooEarly i) words n earlier e =
    (words ≡ codes "no other thread owned the mutex since event " ++ decimal i ++ codes ", in which the call began")
    × (i ≡ begun_at (thread_of e.fact) earlier)
Says (StillOwns m) words n earlier e = (words ≡ codes "the thread still owns m" ++ decimal m)
    × ((objects_after earlier m).owner ≡ Some (thread_of e.fact))
Says (EndFalls i) words n earlier e = ⊥

-- n is the number of mutexes; the earlier lines stand newest first
abbrev pub ReasonsAreTrue : Type 0
ReasonsAreTrue = (n : ℕ) (earlier : List Line) (e : Line) (why : Misfit) → IsMisfit why n earlier e
    → Says why (reason_text why) n earlier e

-- the words for an end whose number is below that of the last event, i
abbrev pub EndHasItsWords : Type 0
EndHasItsWords = (i : ℕ)
    → reason_text (EndFalls i) ≡ codes "the end is before event " ++ decimal i ++ codes ", of which a line was told"

-- ---- a mutex

-- the words for a mutex that is as it is: unusable; or free, and perhaps its owner died; or owned, and perhaps its owner
-- hasn't declared it consistent since an owner died
pub record AreTrueOfMutex (words : List ℕ) (o : Object) : Type 0 where
  pub unusable : o.unusable ≡ true → words ≡ codes "it is unusable"
  pub free : o.unusable ≡ false → o.owner ≡ None → o.inconsistent ≡ false → words ≡ codes "nobody owns it"
  pub died : o.unusable ≡ false → o.owner ≡ None → o.inconsistent ≡ true
      → words ≡ codes "nobody owns it, since its owner died"
  pub owned : (t : ℕ) → o.unusable ≡ false → o.owner ≡ Some t → o.inconsistent ≡ false
      → words ≡ codes "t" ++ decimal t ++ codes " owns it"
  pub undeclared : (t : ℕ) → o.unusable ≡ false → o.owner ≡ Some t → o.inconsistent ≡ true
      → words ≡ codes "t" ++ decimal t ++ codes " owns it, and has not declared it consistent"

abbrev pub MutexesAreTrue : Type 0
MutexesAreTrue = (o : Object) → AreTrueOfMutex (object_text o) o
