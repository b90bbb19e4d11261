-- A call on a condition variable whose section was made, and a wait that takes its mutex again.
use Rattle.std.proofs.Common.{◌≡◌, inl, inr, ℕ, ◌<◌, List, [], ◌∷◌, ◌++◌, refl, sym, ap, ◌∙◌, subst}
use Rattle.std.specs.Prelude.{Ok, Err}
use Rattle.facts.specs.Lives.{Act, Beginning, Complete}
use Rattle.lockword.specs.declared.reply.Reply.{Reply}
use Rattle.lockword.specs.declared.reply.Reply.TheVariants.{OK}
use Rattle.stepprograms.specs.declared.access.Answer.{Answer}
use Rattle.posixmutex.specs.declared.point.Operation.TheVariants as operation
use Rattle.mutex.specs.declared.call.Call.TheVariants as call
use Rattle.condvar.specs.declared.call.CondCall.{CondCall}
use Rattle.condvar.specs.declared.call.CondCall.TheVariants.{Wait, TimedWait, Signal, Broadcast}
use Rattle.condvar.specs.declared.row.CondRow.{CondRow}
use Rattle.condvar.specs.declared.row.CondRow.TheVariants as cond
use Rattle.condvar.specs.declared.broadcast.BroadcastRow.TheVariants as broadcast
use Rattle.condvar.specs.declared.signal.SignalRow.TheVariants as signal
use Rattle.condvar.specs.declared.wait.WaitRow.TheVariants as wait
use Rattle.condvar.specs.Calls.{acts_as, condition_of}
use Rattle.memorymap.specs.Layouts.{Layout', counter_place}
use Rattle.ruledwords.specs.Looks.{noted}
use Rattle.condvar.specs.Standings.{CondWhole}
use Rattle.ruledwords.specs.declared.pass.Card.{Card}
use Rattle.ruledwords.specs.declared.pass.Change.{Change}
use Rattle.ruledwords.specs.declared.turn.CondRunning.{CondRunning}
use Rattle.ruledwords.specs.declared.turn.CondTurn.{CondTurn}
use Rattle.ruledwords.specs.declared.turn.CondTurn.TheVariants.{Goes, Locks, Lives}
use Rattle.ruledwords.specs.declared.turn.Outcome.{Outcome}
use Rattle.ruledwords.specs.declared.turn.Outcome.TheVariants as outcome
use Rattle.ruledwords.specs.declared.pass.Words.{Words}
use Rattle.ruledwords.specs.declared.pass.Pass.{Pass}
use Rattle.ruledwords.specs.declared.pass.Live.{Live}
use Rattle.ruledwords.specs.declared.pass.Dead.{Dead}
use Rattle.ruledwords.specs.declared.turn.Running.{Running}
use Rattle.ruledwords.specs.Changes.{KnowsMoreAt, Loaded}
use Rattle.ruledwords.specs.ConditionCalls.{cond_call, cond_pass, CondOnward, CondUnmoved, IsCondTurnOf}
use Rattle.ruledwords.specs.ConditionStands.{cond_acts, CondEnded, CondKeeps, CondStands, LoadsBehind, UsableBehind, HasReleased, IsCondUnderWay}
use Rattle.ruledwords.specs.Conditions.{cond_row_in, condition_at}
use Rattle.ruledwords.specs.Counts.{cell_at, mutex_at}
use Rattle.ruledwords.specs.Passes.{card, layout_of}
use Rattle.ruledwords.specs.Turns.{running_pass}
use Rattle.ruledwords.proofs.Changes.{counted_still, loaded_still, more_same, nothing_still}
use Rattle.ruledwords.proofs.Keepers.{counter_no_cell}
use Rattle.ruledwords.proofs.Noted.{saw_on, still_called, waited}
use Rattle.threadbench.specs.Calls.{RanOut, Runs}
use Rattle.threadbench.specs.Conditions.{CondAnswered, CondComesTo, CondReplied, CondRuns, IsCellOf, StaysOn}

-- a word that was noted leaves the mutex as it was seen
usable_noted : (k : Layout') (q : ℕ) (r : CondRow) (c : Card) (n t : ℕ) (zs : List (List Change)) → UsableBehind k q r c → UsableBehind k q r (noted c n t zs)
usable_noted k q (cond.Wait wait.LoadCell) c n t zs u = tt
usable_noted k q (cond.Wait wait.LoadCounter) c n t zs u = tt
usable_noted k q (cond.Wait (wait.Release seen)) c n t zs u = tt
usable_noted k q (cond.Wait (wait.Wake seen)) c n t zs u = u
usable_noted k q (cond.Wait (wait.Sleep seen)) c n t zs u = u
usable_noted k q (cond.Signal s) c n t zs u = tt
usable_noted k q (cond.Broadcast b) c n t zs u = tt
usable_noted k q cond.Awake c n t zs u = tt
usable_noted k q (cond.Ended x) c n t zs u = tt

loads_noted : (r : CondRow) (a c : Card) (z p n t : ℕ) → c.thread ≡ a.thread → LoadsBehind r a z p c → LoadsBehind r a z p (noted c n t c.changes)
loads_noted (cond.Wait wait.LoadCell) a c z p n t same l = nothing_still a c (noted c n t c.changes) p refl l
loads_noted (cond.Wait wait.LoadCounter) a c z p n t same l = nothing_still a c (noted c n t c.changes) p refl l
loads_noted (cond.Wait (wait.Release seen)) a c z p n t same l = (loaded_still a c (noted c n t c.changes) p refl refl l.0, l.1)
loads_noted (cond.Wait (wait.Wake seen)) a c z p n t same l = (loaded_still a c (noted c n t c.changes) p refl refl l.0, l.1)
loads_noted (cond.Wait (wait.Sleep seen)) a c z p n t same l = (loaded_still a c (noted c n t c.changes) p refl refl l.0, l.1)
loads_noted (cond.Signal signal.LoadCell) a c z p n t same l = tt
loads_noted (cond.Signal signal.LoadCounter) a c z p n t same l = tt
loads_noted (cond.Signal signal.Count) a c z p n t same l = tt
loads_noted (cond.Signal signal.Wake) a c z p n t same l = counted_still a c (noted c n t c.changes) z p same refl refl (λ x there. refl) l
loads_noted (cond.Broadcast broadcast.LoadCell) a c z p n t same l = tt
loads_noted (cond.Broadcast broadcast.LoadCounter) a c z p n t same l = tt
loads_noted (cond.Broadcast (broadcast.Count seen)) a c z p n t same l = tt
loads_noted (cond.Broadcast (broadcast.SetWaiters seen)) a c z p n t same l = counted_still a c (noted c n t c.changes) z p same refl refl (λ x there. refl) l
loads_noted (cond.Broadcast (broadcast.Move seen)) a c z p n t same l = counted_still a c (noted c n t c.changes) z p same refl refl (λ x there. refl) l
loads_noted cond.Awake a c z p n t same l = tt
loads_noted (cond.Ended x) a c z p n t same l = tt

-- a call whose counter was looked at is under way as it was
pub cond_still_under_way : (w : Words) (r r' : CondRunning) (a : Pass Live) (cl : CondCall) → CondUnmoved w r r' → IsCondUnderWay w a cl r → IsCondUnderWay w a cl r'
cond_still_under_way w r r' a cl m u =
    let k = layout_of w in
    let looked : Card = record (card (cond_pass r)) { last = (card (cond_pass r')).last; trims = (card (cond_pass r')).trims; changes = (card (cond_pass r)).changes } in
    let q = condition_of cl in (
      m.0,
      ap (condition_at k) m.1 ∙ u.1,
      subst (λ (z : Card). CondStands k q (acts_as cl) (card a) (cond_row_in (cond_call r').phase) z) (sym m.2)
          (subst (λ (p : CondWhole). CondStands k q (acts_as cl) (card a) (cond_row_in p.phase) (record (card (cond_pass r)) { last = (card (cond_pass r')).last; trims = (card (cond_pass r')).trims; changes = (card (cond_pass r)).changes })) (sym m.1)
          record {
            of = u.2.of;
            called = still_called (card a) (cell_at k q) (cond_acts (cond_row_in (cond_call r).phase)) (card (cond_pass r)) looked (refl, more_same (card (cond_pass r)) looked (cell_at k q) refl refl) u.2.called;
            owns = u.2.owns;
            counts = u.2.counts;
            waiters = u.2.waiters;
            usable = usable_noted k q (cond_row_in (cond_call r).phase) (card (cond_pass r)) (card (cond_pass r')).last (card (cond_pass r')).trims (card (cond_pass r)).changes u.2.usable;
            loads = loads_noted (cond_row_in (cond_call r).phase) (card a) (card (cond_pass r)) (cell_at k q) (counter_place k q) (card (cond_pass r')).last (card (cond_pass r')).trims u.2.called.saw.thread u.2.loads;
          }),
    )

-- a section that was answered leaves it on its condition variable
pub stays_answered : (w : Words) (r r' : CondRunning) (x : Answer) (t : CondTurn) → CondUnmoved w r r' → CondOnward (cond_call r') x (cond_pass r') t → StaysOn w r t
stays_answered w r r' x (Goes s) m on = ap (condition_at (layout_of w)) on.1 ∙ ap (condition_at (layout_of w)) m.1
stays_answered w r r' x (Locks l) m on = tt
stays_answered w r r' x (Lives b y) m on = tt

-- what it comes to from there it comes to from where it was
pub comes_still : (w : Words) (r r' : CondRunning) (t : CondTurn) → CondUnmoved w r r' → IsCondTurnOf w t → CondKeeps w r' t → StaysOn w r t → CondComesTo w r (Ok t)
comes_still w r r' t m there keeps stays = (there, (λ a cl u. keeps a cl (cond_still_under_way w r r' a cl m u)), stays)

-- ---- a wait that takes its mutex again

-- where the lock has made the first of its points, the wait has made the first of its own
begins_with : (acts rest : List Act) (x : Reply) → Complete operation.Lock (acts ++ rest) x → Beginning operation.Wait ((operation.Unlock, OK) ∷ acts)
begins_with [] rest x is = ((operation.Lock, OK) ∷ [], OK, (refl, refl))
begins_with (p ∷ []) [] x is = ([], x, (refl, is))
begins_with (p ∷ []) (q ∷ []) x is = absurd is
begins_with (p ∷ []) (q ∷ r ∷ rest) x is = absurd is
begins_with (p ∷ q ∷ []) [] x is = absurd is
begins_with (p ∷ q ∷ []) (r ∷ rest) x is = absurd is
begins_with (p ∷ q ∷ r ∷ acts) rest x is = absurd is

begins_retaking : (acts : List Act) → Beginning operation.Lock acts → Beginning operation.Wait ((operation.Unlock, OK) ∷ acts)
begins_retaking acts begins = begins_with acts begins.0 begins.1 begins.2

-- its lock leaves what it knows of its counter
loaded_through : (k : Layout') (q : ℕ) (c d e : Card) → mutex_at k q < k.mutexes → Loaded c (counter_place k q) d → KnowsMoreAt d (cell_at k q) e → Loaded c (counter_place k q) e
loaded_through k q c d e low loaded more = loaded_still c d e (counter_place k q) (more.elsewhere (counter_place k q) (counter_no_cell k q (mutex_at k q) low)) more.counted loaded

-- its lock came to its end, or its thread died in that
pub took_again : (w : Words) (a e : Pass Live) (q : ℕ) (end : Outcome) → mutex_at (layout_of w) q < (layout_of w).mutexes → HasReleased w a (Wait q) e → RanOut w e (call.Lock (mutex_at (layout_of w) q)) end → CondAnswered w a (Wait q) end
took_again w a e q (outcome.Lives b x) low was ran = (
  ran.0,
  inr record {
    awake = card e;
    released = was.called;
    owned = was.owns;
    usable = was.usable;
    took = ran.1;
    called = waited (card a) (cell_at (layout_of w) q) x (card e) (card b) was.called ran.1;
    loaded = loaded_through (layout_of w) q (card a) (card e) (card b) low was.loaded ran.3;
  },
)
took_again w a e q (outcome.Dead d) low was ran = (
  ran.0,
  record {
    died = record {
      acts = (operation.Unlock, OK) ∷ ran.1.acts;
      beginning = begins_retaking ran.1.acts ran.1.beginning;
      saw = saw_on (card a) (cell_at (layout_of w) q) ((operation.Unlock, OK) ∷ []) ran.1.acts (card e) (card d) was.called.saw ran.1.saw;
    };
    loaded = loaded_through (layout_of w) q (card a) (card e) (card d) low was.loaded ran.2;
  },
)

took_again_in : (w : Words) (a e : Pass Live) (cl : CondCall) (end : Outcome) → mutex_at (layout_of w) (condition_of cl) < (layout_of w).mutexes → HasReleased w a cl e → RanOut w e (call.Lock (mutex_at (layout_of w) (condition_of cl))) end → CondAnswered w a cl end
took_again_in w a e (Wait q) end low was ran = took_again w a e q end low was ran
took_again_in w a e (TimedWait q y) end low was ran =
    took_again w a e q end low (record { of = refl; called = was.called; owns = was.owns; usable = was.usable; loaded = was.loaded }) ran
took_again_in w a e (Signal q) end low was ran = let bad = was.of in absurd (cc bad)
took_again_in w a e (Broadcast q) end low was ran = let bad = was.of in absurd (cc bad)

-- ---- a call that is run

-- wherever the call began that was at r, it is at r' now
abbrev pub ComesFar : Words → CondRunning → CondRunning → Type 0
ComesFar w r r' = (a : Pass Live) (cl : CondCall) → IsCondUnderWay w a cl r → IsCondUnderWay w a cl r'

pub came_on : (w : Words) (r r' r'' : CondRunning) → ComesFar w r r' → CondComesTo w r' (Ok (Goes r'')) → ComesFar w r r''
came_on w r r' r'' far on = λ a cl u. on.1 a cl (far a cl u)

-- its mutex's cell stays
pub same_cell : (w : Words) (r r' : CondRunning) (key : ℕ) → IsCellOf w r key → CondComesTo w r (Ok (Goes r')) → IsCellOf w r' key
same_cell w r r' key is on = is ∙ ap (cell_at (layout_of w)) (sym on.2)

pub locks_out : (w : Words) (r r' : CondRunning) (l : Running) (end : Outcome) → ComesFar w r r' → CondComesTo w r' (Ok (Locks l)) → Runs w l end → CondRuns w r end
locks_out w r r' l end far on runs = λ a cl u.
    let went = on.1 a cl (far a cl u) in
    took_again_in w a (running_pass l) cl end went.1.1.0 went.0 (runs.0 (running_pass l) (call.Lock (mutex_at (layout_of w) (condition_of cl))) went.1)

replied : (k : Layout') (c : Card) (cl : CondCall) (x : Reply) (d : Card) → CondEnded k (condition_of cl) (acts_as cl) x c d → CondReplied k c cl x d
replied k c (Wait q) x d ended = inl ended
replied k c (TimedWait q y) x d ended = inl ended
replied k c (Signal q) x d ended = ended
replied k c (Broadcast q) x d ended = ended

pub lives_out : (w : Words) (r r' : CondRunning) (b : Pass Live) (x : Reply) → ComesFar w r r' → CondComesTo w r' (Ok (Lives b x)) → CondRuns w r (outcome.Lives b x)
lives_out w r r' b x far on = λ a cl u. let went = on.1 a cl (far a cl u) in (went.0, replied (layout_of w) (card a) cl x (card b) went.1)

pub dies_out : (w : Words) (r r' : CondRunning) (d : Pass Dead) → ComesFar w r r' → CondComesTo w r' (Err d) → CondRuns w r (outcome.Dead d)
dies_out w r r' d far on = λ a cl u. on a cl (far a cl u)
