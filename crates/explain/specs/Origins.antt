-- The earlier line of a trace that one which doesn't fit goes back to.
use Rattle.std.specs.Prelude.{ℕ, ◌+◌, ◌-◌, Bool, true, false, ◌&&◌, ◌||◌, ◌==◌, not, List, [], ◌∷◌}
use Rattle.std.specs.Prelude.{length, take, reverse, slice_get, Option, Some, None, option_and_then, if◌then◌else◌}
use Rattle.posixmutex.specs.declared.point.Decision.{Decision}
use Rattle.facts.specs.declared.fact.Fact.{Fact}
use Rattle.facts.specs.declared.fact.Fact.TheVariants as fact
use Rattle.facts.specs.declared.fact.Line.{Line}
use Rattle.facts.specs.Facts.{decides, decision_of, is_kill, is_passive, is_point, is_renewal, thread_of}
use Rattle.verdict.specs.declared.misfit.Misfit.{Misfit}
use Rattle.verdict.specs.declared.misfit.Misfit.TheVariants.{EventFalls, AnothersEvent, EventDecided, KillShares}
use Rattle.verdict.specs.declared.misfit.Misfit.TheVariants.{EventKilled, InCall, NoCall, Asleep, Awake, Killed}
use Rattle.verdict.specs.declared.misfit.Misfit.TheVariants.{NotReaped, Reaped, Alive, OtherMutex, OtherOperation}
use Rattle.verdict.specs.declared.misfit.Misfit.TheVariants.{ReleaseRefused, Released, Decided, Undecided, OtherReply}
use Rattle.verdict.specs.declared.misfit.Misfit.TheVariants.{NotAllowed, AtLimit, NotOwner, TooEarly, StillOwns}
use Rattle.verdict.specs.declared.misfit.Misfit.TheVariants.{EndFalls}
use Rattle.verdict.specs.declared.misfit.TraceMisfit.{TraceMisfit}

abbrev pub is_begin : Fact → Bool
is_begin (fact.Begin t c) = true
is_begin f = false

abbrev pub is_return : Fact → Bool
is_return (fact.Return t x) = true
is_return f = false

abbrev pub is_sleep : Fact → Bool
is_sleep (fact.Sleep t q) = true
is_sleep f = false

abbrev pub is_wake : Fact → Bool
is_wake (fact.Wake t) = true
is_wake f = false

abbrev pub is_reap : Fact → Bool
is_reap (fact.Reap t) = true
is_reap f = false

-- a point or a death on the mutex
abbrev pub is_step_of : ℕ → Option Decision → Bool
is_step_of m None = false
is_step_of m (Some d) = d.mutex == m

abbrev pub is_step_like : Option Decision → Option Decision → Bool
is_step_like None o = false
is_step_like (Some d) o = is_step_of d.mutex o

abbrev pub is_own : Line → Line → Bool
is_own e a = thread_of a.fact == thread_of e.fact

-- a is a line that the reason speaks of, for which e doesn't fit: of the event, what its own thread, a decision or a
-- kill did; of the thread, the call it is in or ended, its sleep, its wake, its death, its renewal, its last point; of
-- the mutex, what made it what it is
abbrev pub is_origin : Misfit → Line → Line → Bool
is_origin (EventFalls i) e a = true
is_origin (AnothersEvent t) e a = (a.event == e.event) && not (is_passive a.fact)
is_origin EventDecided e a = (a.event == e.event) && decides a.fact
is_origin KillShares e a = a.event == e.event
is_origin EventKilled e a = (a.event == e.event) && is_kill a.fact
is_origin (InCall c) e a = is_own e a && is_begin a.fact
is_origin NoCall e a = is_own e a && (is_return a.fact || is_renewal a.fact)
is_origin Asleep e a = is_own e a && is_sleep a.fact
is_origin Awake e a = is_own e a && (is_wake a.fact || is_renewal a.fact)
is_origin Killed e a = is_own e a && is_kill a.fact
is_origin NotReaped e a = is_own e a && is_kill a.fact
is_origin Reaped e a = is_own e a && is_reap a.fact
is_origin Alive e a = is_own e a && is_renewal a.fact
is_origin (OtherMutex m) e a = is_own e a && is_begin a.fact
is_origin (OtherOperation o) e a = is_own e a && is_begin a.fact
is_origin ReleaseRefused e a = is_own e a && is_begin a.fact
is_origin Released e a = is_own e a && is_point a.fact
is_origin (Decided x) e a = is_own e a && is_point a.fact
is_origin Undecided e a = is_own e a && is_begin a.fact
is_origin (OtherReply x) e a = is_own e a && is_point a.fact
is_origin (NotAllowed o x) e a = is_step_like (decision_of e.fact) (decision_of a.fact)
is_origin (AtLimit k) e a = false
is_origin (NotOwner o) e a = is_step_like (decision_of e.fact) (decision_of a.fact)
is_origin (TooEarly i) e a = is_own e a && is_begin a.fact
is_origin (StillOwns m) e a = is_step_of m (decision_of a.fact)
is_origin (EndFalls i) e a = true

-- the step that line n tells, of these lines, the first of which is line 2
abbrev pub step_at : List Line → ℕ → Option Decision
step_at es n = option_and_then (λ e. decision_of e.fact) (slice_get es (n - 2))

-- of these lines, which stand newest first and the oldest of which is line 2, the line of the newest for which the test
-- passes
abbrev pub newest_line : (Line → Bool) → List Line → Option ℕ
newest_line p [] = None
newest_line p (a ∷ as') = if p a then Some (length as' + 2) else newest_line p as'

abbrev pub origin_behind : List Line → TraceMisfit → Option Line → Option ℕ
origin_behind es why None = Some (why.line - 1)
origin_behind es why (Some e) = newest_line (λ a. is_origin why.misfit e a) (reverse (take (why.line - 2) es))

-- the newest line of which the reason speaks, before the one that doesn't fit; of the last line, the one before it
abbrev pub origin_of : List Line → TraceMisfit → Option ℕ
origin_of es why = origin_behind es why (slice_get es (why.line - 2))
