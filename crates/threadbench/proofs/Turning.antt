-- A call whose section was made.
use Rattle.std.proofs.Common.{◌≡◌, ℕ, false, sym, ap, ◌∙◌, subst}
use Rattle.std.specs.Prelude.{nat_le}
use Rattle.lockword.specs.declared.reply.Reply.{Reply}
use Rattle.lockword.specs.declared.reply.Reply.TheVariants.{OK}
use Rattle.mutex.specs.declared.call.Call.{Call}
use Rattle.mutex.specs.declared.call.Call.TheVariants as call
use Rattle.memorymap.specs.Layouts.{Layout', address_in, cell_place}
use Rattle.mutex.specs.Calls.{acts_as, mutex_of}
use Rattle.mutex.specs.Laws.{decided}
use Rattle.mutex.specs.Programs.{first_row}
use Rattle.mutex.specs.Standings.{Standing, Whole}
use Rattle.ruledwords.specs.declared.pass.Card.{Card}
use Rattle.ruledwords.specs.declared.pass.Words.{Words}
use Rattle.ruledwords.specs.declared.pass.Pass.{Pass}
use Rattle.ruledwords.specs.declared.pass.Live.{Live}
use Rattle.ruledwords.specs.declared.pass.Dead.{Dead}
use Rattle.ruledwords.specs.declared.turn.Outcome.{Outcome}
use Rattle.ruledwords.specs.declared.turn.Outcome.TheVariants as outcome
use Rattle.ruledwords.specs.declared.turn.Owed.{Owed}
use Rattle.ruledwords.specs.declared.turn.Running.{Running}
use Rattle.ruledwords.specs.declared.turn.Stretch.{Stretch}
use Rattle.ruledwords.specs.declared.turn.Stretch.TheVariants as stretch
use Rattle.ruledwords.specs.declared.turn.Turn.{Turn}
use Rattle.ruledwords.specs.declared.turn.Turn.TheVariants as turn
use Rattle.ruledwords.specs.Outcomes.{owed_pass, owed_running, IsOwedOf}
use Rattle.ruledwords.specs.Seen.{held}
use Rattle.ruledwords.specs.Passes.{card, layout_of, IsDying}
use Rattle.ruledwords.specs.Calls.{IsOnMutex, Stands, row_in, standing_of}
use Rattle.ruledwords.specs.Stretches.{Stretches}
use Rattle.ruledwords.specs.Turns.{running_call, running_pass, running_program, HasDied, HasSeenTheSame, IsDecided, IsRunningOf, IsTurnOf, IsUnderWay, Keeps, KeepsDecided, Unmoved}
use Rattle.ruledwords.proofs.Exchanges.{expects_at_section}
use Rattle.ruledwords.proofs.Noted.{seen_noted, seen_on, still_stands}
use Rattle.threadbench.specs.Calls.{Locked, Paid, RanOut, RanOutDecided, Runs, stretch_of}
use Rattle.ruledwords.proofs.Beginnings.{picks_false}

-- a call whose word was looked at is under way as it was
pub still_under_way : (w : Words) (r r' : Running) (a : Pass Live) (call : Call) → Unmoved w r r' → IsUnderWay w a call r → IsUnderWay w a call r'
still_under_way w r r' a call m u =
    let same = ap standing_of m.1 in (
      m.0,
      subst (λ (q : Standing). IsOnMutex (layout_of w) q (mutex_of call)) (sym same) u.1,
      subst (λ (z : Standing). Stands (acts_as call) (first_row call) (cell_place (layout_of w) (mutex_of call)) (card a) z (card r'.pass)) (sym same)
          (still_stands (acts_as call) (first_row call) (cell_place (layout_of w) (mutex_of call)) (card a) (running_program r) (card r.pass) (card r'.pass) (seen_noted (cell_place (layout_of w) (mutex_of call)) (card r.pass) (card r'.pass) m.2 (m.4 (mutex_of call) u.1))
          (expects_at_section (running_call r) (running_call r).phase (cell_place (layout_of w) (mutex_of call)) (card r'.pass) m.3) u.2),
    )

-- the mutex that a call is on
pub is_on : (w : Words) (r : Running) → IsRunningOf w r → (m : ℕ) × IsOnMutex (layout_of w) (running_program r) m
is_on w r there =
    let k : Layout' = layout_of w in
    let on : ℕ = there.1.0 in
    let call = there.1.1 in
    (on, (call.inside, call.of.cell ∙ ap (λ (u : ℕ). address_in k u (cell_place k on)) (sym call.of.thread)))

-- and decided as it was
pub still_decided : (w : Words) (r r' : Running) (m : ℕ) (c : Card) (x : Reply) → Unmoved w r r' → IsDecided w m c x r → IsDecided w m c x r'
still_decided w r r' m c x still was =
    let p : ℕ = cell_place (layout_of w) m in (
      still.0,
      ap (λ (p : Whole). decided (row_in p.phase)) still.1 ∙ was.1,
      subst (λ (q : Standing). IsOnMutex (layout_of w) q m) (sym (ap standing_of still.1)) was.2,
      seen_on p c (card r.pass) (card r'.pass) was.3 (seen_noted p (card r.pass) (card r'.pass) still.2 (still.4 m was.2)),
    )

-- what it comes to from there it comes to from where it was
pub stretches_still : (w : Words) (r r' : Running) (s : Stretch) → Unmoved w r r' → Stretches w r' s → Stretches w r s
stretches_still w r r' s m on = (on.0, (λ a call u. on.1 a call (still_under_way w r r' a call m u)), (λ l c x was. on.2 l c x (still_decided w r r' l c x m was)))

-- ---- accesses, and more of them

pub stretched_on : (w : Words) (r r' : Running) (s : Stretch) → Stretches w r (stretch.Goes r') → Stretches w r' s → Stretches w r s
stretched_on w r r' s first more = (more.0, (λ a call u. more.1 a call (first.1 a call u)), (λ m c x was. more.2 m c x (first.2 m c x was)))

pub stays_there : (w : Words) (r : Running) → IsRunningOf w r → Stretches w r (stretch.Goes r)
stays_there w r there = (there, (λ a call u. u), (λ m c x was. was))

-- an access in which nobody dies
pub onward : (w : Words) (r : Running) (t : Turn) (s : Stretch) → s ≡ stretch_of t → IsTurnOf w t → Keeps w r t → KeepsDecided w r t → Stretches w r s
onward w r (turn.Goes q) s is there keeps decided = subst (λ (z : Stretch). Stretches w r z) (sym is) (there, keeps, decided)
onward w r (turn.Lives b x) s is there keeps decided = subst (λ (z : Stretch). Stretches w r z) (sym is) (tt, keeps, decided)

-- its thread dies there
pub dies_there : (w : Words) (r : Running) (d : Pass Dead) → card d ≡ card (running_pass r) → ((w : Words) → IsRunningOf w r → IsDying w d) → ((w : Words) (a : Pass Live) (call : Call) → IsUnderWay w a call r → HasDied w a call d) → Stretches w r (stretch.Dead d)
dies_there w r d same dying died = (tt, (λ a call u. died w a call u), (λ m c x was. (dying w was.0, subst (λ (z : Card). HasSeenTheSame (cell_place (layout_of w) m) c z) (sym same) was.3)))

-- a call that came to its end has run out
pub ran_out : (w : Words) (r : Running) (b : Pass Live) (y : Reply) → Stretches w r (stretch.Lives b y) → Runs w r (outcome.Lives b y)
ran_out w r b y came = (came.1, came.2)

pub ran_dead : (w : Words) (r : Running) (d : Pass Dead) → Stretches w r (stretch.Dead d) → Runs w r (outcome.Dead d)
ran_dead w r d came = (came.1, came.2)

-- as does one that came so far and was run on from there
pub ran_after : (w : Words) (r r' : Running) (end : Outcome) → Stretches w r (stretch.Goes r') → Runs w r' end → Runs w r end
ran_after w r r' (outcome.Lives b y) first more = ((λ a call u. more.0 a call (first.1 a call u)), (λ m c x was. more.1 m c x (first.2 m c x was)))
ran_after w r r' (outcome.Dead d) first more = ((λ a call u. more.0 a call (first.1 a call u)), (λ m c x was. more.1 m c x (first.2 m c x was)))

-- ---- calls that were run out

-- a lock that wasn't refused
pub ran_locked : (w : Words) (a : Pass Live) (m : ℕ) (end : Outcome) → nat_le 2048 (held (card a)) ≡ false → RanOut w a (call.Lock m) end → Locked w m a end
ran_locked w a m (outcome.Lives b r) few ran = (ran.0, picks_false (nat_le 2048 (held (card a))) _ _ few ran.1)
ran_locked w a m (outcome.Dead d) few ran = (ran.0, (few, ran.1))

pub ran_paid : (w : Words) (o : Owed) (end : Outcome) → IsOwedOf w o → ((m : ℕ) → IsOnMutex (layout_of w) (running_program (owed_running o)) m → RanOutDecided w m (card (owed_pass o)) OK end) → Paid w o end
ran_paid w o (outcome.Lives b r) of ran =
    let on = is_on w (owed_running o) of in
    let one = ran on.0 on.1 in
    (one.0, one.1, λ m there. (ran m there).2)
ran_paid w o (outcome.Dead d) of ran =
    let on = is_on w (owed_running o) of in
    let one = ran on.0 on.1 in
    (one.0, λ m there. (ran m there).1)
