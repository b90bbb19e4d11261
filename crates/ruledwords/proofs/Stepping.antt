-- Accesses of a call, one after the other.
use Rattle.std.proofs.Common.{◌≡◌, ℕ, ◌+◌, ◌<◌, Result, Ok, Err, refl, sym, ap, ◌∙◌, subst}
use Rattle.posixmutex.specs.declared.point.Operation.TheVariants as operation
use Rattle.std.specs.Result.{IsErrAnd}
use Rattle.mutex.specs.Standings.{Whole}
use Rattle.mutex.specs.declared.call.Call.{Call}
use Rattle.mutex.specs.declared.call.Call.TheVariants as call
use Rattle.ruledwords.specs.declared.pass.Words.{Words}
use Rattle.ruledwords.specs.declared.pass.Pass.{Pass}
use Rattle.ruledwords.specs.declared.pass.Live.{Live}
use Rattle.ruledwords.specs.declared.step.End.{End}
use Rattle.ruledwords.specs.declared.step.End.TheVariants as end
use Rattle.ruledwords.specs.declared.turn.Running.{Running}
use Rattle.ruledwords.specs.declared.turn.Turn.TheVariants.{Goes}
use Rattle.ruledwords.specs.Fates.{Heeds}
use Rattle.ruledwords.specs.Passes.{card, layout_of}
use Rattle.ruledwords.specs.Stretches.{ComesOn, ComesToEnd, StepsTo}
use Rattle.ruledwords.specs.Turns.{access_in, running_call, running_pass, EndsIn, IsCallOf, IsInNonblocking, IsOneStep, IsUnderWay, TrimsNone, Turned, IsNonblocking, stops_with, stops_within}
use Rattle.ruledwords.proofs.Fates.{heeds_nothing, heeds_on}
use Rattle.ruledwords.proofs.Ranks.{rank_in, turn_falls}
use Rattle.ruledwords.proofs.StepsOfCalls.{try_step, consistent_step}

-- no access was made
pub stays : (w : Words) (a : Pass Live) (p : Whole) → IsCallOf w a p → ComesOn w a p a p
stays w a p of = (of, (λ x call is. is), (λ m c y is. is), (λ x m is. is), refl)

pub comes_further : (w : Words) (a : Pass Live) (p : Whole) (b : Pass Live) (q : Whole) (d : Pass Live) (r : Whole) → ComesOn w a p b q → ComesOn w b q d r → ComesOn w a p d r
comes_further w a p b q d r first more = (more.0, (λ x call is. more.1 x call (first.1 x call is)), (λ m c y is. more.2 m c y (first.2 m c y is)), (λ x m is. more.3 x m (first.3 x m is)), more.4 ∙ first.4)

-- what ends after accesses ends since before them
pub after : (w : Words) (a : Pass Live) (p : Whole) (b : Pass Live) (q : Whole) (d : Pass Live) (e : End) → ComesOn w a p b q → ComesToEnd w b q d e → ComesToEnd w a p d e
after w a p b q d end.Stopped first ends = (ends.0, comes_further w a p b q d ends.0 first ends.1)
after w a p b q d (end.Replied y) first ends = ((λ x call is. ends.0 x call (first.1 x call is)), (λ m c z is. ends.1 m c z (first.2 m c z is)), (λ x m is. ends.2 x m (first.3 x m is)), ends.3 ∙ first.4)

-- a `?` hands on how the call ended
handed_on : (w : Words) (a : Pass Live) (p : Whole) (b : Pass Live) (r : Result Whole End) (e : End) → IsErrAnd r (λ y. y ≡ e) → ComesToEnd w a p b e → StepsTo w a p b r
handed_on w a p b (Ok q) e is ends = absurd is
handed_on w a p b (Err y) e is ends = subst (ComesToEnd w a p b) (sym is) ends

pub counts_on : {A : Type 0} (r : Result A End) (e : End) (n m : ℕ) → IsErrAnd r (λ y. y ≡ e) → n ≡ m + stops_with e → n ≡ m + stops_within r
counts_on (Ok q) e n m is counted = absurd is
counts_on (Err y) e n m is counted = counted ∙ ap (λ (z : End). m + stops_with z) (sym is)

heeds_out : {A : Type 0} (r : Result A End) (e : End) (f f' n n' : ℕ) → IsErrAnd r (λ y. y ≡ e) → Heeds f f' n n' (stops_with e) → Heeds f f' n n' (stops_within r)
heeds_out (Ok q) e f f' n n' is heeded = absurd is
heeds_out (Err y) e f f' n n' is heeded = subst (λ (z : End). Heeds f f' n n' (stops_with z)) (sym is) heeded

-- ---- accesses before each of which the thread's fates let it go on

infixl 30 ◌⨾◌
-- from here to there, and from what the fates had said to what they have said then
pub record Went (w : Words) (a : Pass Live) (p : Whole) (b : Pass Live) (q : Whole) (f f' n n' : ℕ) : Type 0 where
  pub came : ComesOn w a p b q
  pub fate : Heeds f f' n n' 0

-- none
pub went_nowhere : {w : Words} {a : Pass Live} {p : Whole} (f n : ℕ) → IsCallOf w a p → Went w a p a p f f n n
went_nowhere {w} {a} {p} f n of = record { came = stays w a p of; fate = heeds_nothing f n }

-- one
pub went : {w : Words} {a : Pass Live} {p : Whole} {b : Pass Live} {q : Whole} {f f' n n' : ℕ} {O : Type 0} → record { steps : ComesOn w a p b q; once : O; fate : Heeds f f' n n' 0 } → Went w a p b q f f' n n'
went step = record { came = step.steps; fate = step.fate }

-- and further ones
pub ◌⨾◌ : {w : Words} {a : Pass Live} {p : Whole} {b : Pass Live} {q : Whole} {d : Pass Live} {r : Whole} {f f' f'' n n' n'' : ℕ} → Went w a p b q f f' n n' → Went w b q d r f' f'' n' n'' → Went w a p d r f f'' n n''
◌⨾◌ {w} {a} {p} {b} {q} {d} {r} first more = record { came = comes_further w a p b q d r first.came more.came; fate = heeds_on _ _ _ _ _ _ _ first.fate more.fate }

-- after them the call ended, which a `?` hands on
pub ended : {w : Words} {a : Pass Live} {p : Whole} {b : Pass Live} {q : Whole} {f f' f'' n n' n'' : ℕ} {O : Type 0} (d : Pass Live) (e : End) (r : Result Whole End)
    → Went w a p b q f f' n n' → record { steps : ComesToEnd w b q d e; once : O; fate : Heeds f' f'' n' n'' (stops_with e) } → IsErrAnd r (λ y. y ≡ e)
    → record { steps : StepsTo w a p d r; fate : Heeds f f'' n n'' (stops_within r) }
ended {w} {a} {p} {b} {q} d e r first last is = record { steps = handed_on w a p d r e is (after w a p b q d e first.came last.steps); fate = heeds_out r e _ _ _ _ is (heeds_on _ _ _ _ _ _ _ first.fate last.fate) }

-- none of them was a trim
pub untrimmed : (w : Words) (a : Pass Live) (p : Whole) (b : Pass Live) (e : End) → ComesToEnd w a p b e → TrimsNone (card a) (card b)
untrimmed w a p b end.Stopped ends = ends.1.4
untrimmed w a p b (end.Replied y) ends = ends.3

-- ---- calls that wait for nobody

pub ends_in : (w : Words) (a : Pass Live) (p : Whole) (b : Pass Live) (e : End) → ComesToEnd w a p b e → EndsIn w a p b e
ends_in w a p b end.Stopped ends = λ x call is. (ends.0, ends.1.1 x call is)
ends_in w a p b (end.Replied y) ends = ends.0

pub ends_after : (w : Words) (a : Pass Live) (p : Whole) (b : Pass Live) (q : Whole) (d : Pass Live) (e : End) → ComesOn w a p b q → EndsIn w b q d e → EndsIn w a p d e
ends_after w a p b q d end.Stopped first ends = λ x call is. ends x call (first.1 x call is)
ends_after w a p b q d (end.Replied y) first ends = λ x call is. ends x call (first.1 x call is)

pub still_nonblocking : (w : Words) (a : Pass Live) (p : Whole) (b : Pass Live) (q : Whole) → IsInNonblocking w a p → ComesOn w a p b q → IsInNonblocking w b q
still_nonblocking w a p b q s on = (s.0, s.1, s.2, on.1 s.0 s.1 s.3)

-- each of their accesses is a step
pub is_step : (w : Words) (x : Pass Live) (call : Call) (r : Running) → IsNonblocking call → IsUnderWay w x call r → IsOneStep (access_in r)
is_step w x (call.Lock m) r waits u = absurd waits
is_step w x (call.TimedLock m) r waits u = absurd waits
is_step w x (call.TryLock m) r waits u = try_step w x m r u
is_step w x (call.Unlock m) r waits u = absurd waits
is_step w x (call.Consistent m) r waits u = consistent_step w x m r u

-- and leaves fewer
pub falls : (w : Words) (x : Pass Live) (call : Call) (r r' : Running) → IsNonblocking call → IsUnderWay w x call r → Turned (layout_of w) (running_call r) (running_pass r) (Goes r')
    → rank_in (running_call r').phase < rank_in (running_call r).phase
falls w x (call.Lock m) r r' waits u turned = absurd waits
falls w x (call.TimedLock m) r r' waits u turned = absurd waits
falls w x (call.TryLock m) r r' waits u turned = turn_falls w r r' operation.TryLock u.0 (λ e. cc) u.2.of (try_step w x m r u) turned
falls w x (call.Unlock m) r r' waits u turned = absurd waits
falls w x (call.Consistent m) r r' waits u turned = turn_falls w r r' operation.Consistent u.0 (λ e. cc) u.2.of (consistent_step w x m r u) turned
