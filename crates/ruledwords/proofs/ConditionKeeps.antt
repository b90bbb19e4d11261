-- A call on a condition variable, wherever it began: its turns, its beginning, and its thread's death in it.
use Rattle.std.proofs.Common.{◌≡◌, true, ℕ, ◌<◌, List, [], ◌∷◌, refl, sym, subst}
use Rattle.atomic_table.specs.declared.shared.Seat.{Seat}
use Rattle.lockword.specs.declared.reply.Reply.{Reply}
use Rattle.lockword.specs.declared.reply.Reply.TheVariants.{OK}
use Rattle.stepprograms.specs.declared.access.Answer.{Answer}
use Rattle.posixmutex.specs.declared.point.Operation.TheVariants as operation
use Rattle.stepprograms.specs.Accesses.{answer_at}
use Rattle.memorymap.specs.Layouts.{Layout', cell_place, counter_place}
use Rattle.mutex.specs.declared.lock.LockRow.TheVariants as lock
use Rattle.mutex.specs.declared.row.Row.TheVariants as row
use Rattle.mutex.specs.Standings.{Standing, Whole}
use Rattle.mutex.specs.Whole.{retaking}
use Rattle.condvar.specs.declared.call.CondCall.{CondCall}
use Rattle.condvar.specs.declared.call.CondCall.TheVariants as call
use Rattle.condvar.specs.declared.phase.CondPhase.TheVariants as condition
use Rattle.condvar.specs.Calls.{acts_as, condition_of}
use Rattle.condvar.specs.Standings.{CondWhole}
use Rattle.condvar.specs.Whole.{begins, cond_access, cond_led, cond_moved, IsUnderWay}
use Rattle.ruledwords.specs.declared.pass.Card.{Card}
use Rattle.ruledwords.specs.declared.turn.CondRunning.{CondRunning}
use Rattle.ruledwords.specs.declared.pass.Words.{Words}
use Rattle.ruledwords.specs.declared.pass.Pass.{Pass}
use Rattle.ruledwords.specs.declared.pass.Live.{Live}
use Rattle.ruledwords.specs.Calls.{standing_of, IsOnMutex, Stands}
use Rattle.ruledwords.specs.ConditionCalls.{cond_access_in, FindsCondWord, IsCondAnswerOf, IsCondRunningOf, IsCondStep}
use Rattle.ruledwords.specs.Conditions.{cond_row_in, condition_at, IsAtCondition}
use Rattle.ruledwords.specs.ConditionStands.{cond_acts, CondEnded, CondStands, DiesOn, HasReleased, IsCondUnderWay, LeftUsable}
use Rattle.ruledwords.specs.Changes.{Loaded}
use Rattle.ruledwords.specs.Counts.{cell_at, mutex_at}
use Rattle.ruledwords.specs.OwnWords.{owns_in}
use Rattle.ruledwords.specs.Passes.{card, layout_of}
use Rattle.ruledwords.specs.Rules.{card_of}
use Rattle.ruledwords.specs.Seen.{Called}
use Rattle.ruledwords.proofs.Cards.{saw_nothing}
use Rattle.ruledwords.proofs.Changes.{nothing_yet}
use Rattle.ruledwords.proofs.ConditionReleases.{release_ready, unlinks_on}
use Rattle.ruledwords.proofs.ConditionStands.{begins_acts, loaded_behind, section_stands, step_stands, Outcome, SectionOutcome}
use Rattle.ruledwords.proofs.ConditionTurns.{addressed, few, on, there_then}
use Rattle.ruledwords.proofs.Counts.{of_mutex}
use Rattle.ruledwords.proofs.Standing.{begins as stands_begun}

-- where it stands, and what its pass has seen
abbrev pub CondStandsIn : Words → Pass Live → CondCall → CondWhole → Card → Type 0
CondStandsIn w a cl p d = (condition_at (layout_of w) p ≡ condition_of cl) × CondStands (layout_of w) (condition_of cl) (acts_as cl) (card a) (cond_row_in p.phase) d

abbrev pub CondHasEnded : Words → Pass Live → CondCall → Reply → Card → Type 0
CondHasEnded w a cl x d = CondEnded (layout_of w) (condition_of cl) (acts_as cl) x (card a) d

module _ (w : Words) (r : CondRunning) (of : IsCondRunningOf w r) where
  abbrev k : Layout'
  k = layout_of w

  abbrev c : Card
  c = card r.pass

  abbrev p : CondWhole
  p = r.program

  in_layout : mutex_at k (condition_at k p) < k.mutexes
  in_layout = of_mutex k (condition_at k p) of.0.1.layout of.1.on.inside

  module _ (a : Pass Live) (cl : CondCall) (u : IsCondUnderWay w a cl r) where
    stands : CondStands k (condition_at k p) (acts_as cl) (card a) (cond_row_in p.phase) c
    stands = subst (λ (z : ℕ). CondStands k z (acts_as cl) (card a) (cond_row_in p.phase) c) (sym u.1) u.2

    goes_on : (p' : CondWhole) (o : _) (d : Card) → p' ≡ cond_moved p o → CondStands k (condition_at k p) (acts_as cl) (card a) (cond_row_in o.phase) d → CondStandsIn w a cl p' d
    goes_on p' o d to s = subst (λ (z : CondWhole). CondStandsIn w a cl z d) (sym to) (u.1, subst (λ (z : ℕ). CondStands k z (acts_as cl) (card a) (cond_row_in o.phase) d) u.1 s)

    -- a step
    module _ (one : IsCondStep (cond_access_in r)) (s : Seat (Unit {0}) (List Card)) (n : ℕ) (finds : FindsCondWord w r.pass.seat s r.program n) (x : Answer) (is_answer : x ≡ answer_at (cond_access p) n) where
      outcome : Outcome k p.head p.entry p.cell p.counter p.thread (acts_as cl) (card a) (card_of s.me.0) (cond_led p x)
      outcome = subst (λ (y : Answer). Outcome k p.head p.entry p.cell p.counter p.thread (acts_as cl) (card a) (card_of s.me.0) (cond_led p y)) (sym is_answer)
          (step_stands k p.head p.entry p.cell p.counter p.thread (card a) c r.mine of.0.1.first in_layout
          (λ seen ready. release_ready k p.head p.entry p.cell p.counter p.thread c of.0.1 (on w r of) (addressed w r of) (few w r of) seen ready)
          (λ unlink seen call. unlinks_on k p.head p.entry p.cell p.counter p.thread c of.0.1 (on w r of) (addressed w r of) (few w r of) unlink seen call.list)
          (acts_as cl) p.phase r.there of.1 one n (card_of s.me.0) finds.2 stands)

      pub keeps_goes : IsUnderWay (cond_led p x).phase → (p' : CondWhole) → p' ≡ cond_moved p (cond_led p x) → (b : Pass Live) → card b ≡ card_of s.me.0 → CondStandsIn w a cl p' (card b)
      keeps_goes under p' to b is =
          let there = subst (λ (z : CondWhole). IsAtCondition z.phase) to (there_then w r of one s n finds x is_answer under p' to) in
          subst (CondStandsIn w a cl p') (sym is) (goes_on p' (cond_led p x) (card_of s.me.0) to (outcome.goes there))

      pub keeps_lives : (y : Reply) → (cond_led p x).phase ≡ condition.Ended y → (b : Pass Live) → card b ≡ card_of s.me.0 → CondHasEnded w a cl y (card b)
      keeps_lives y ended b is = subst (CondHasEnded w a cl y) (sym is) (subst (λ (z : ℕ). CondEnded k z (acts_as cl) y (card a) (card_of s.me.0)) u.1 (outcome.ends y ended))

    -- a section
    module _ (x : Answer) (fits : IsCondAnswerOf (cond_access_in r) x) where
      answered : SectionOutcome k p.head p.entry p.cell p.counter p.thread (card a) c r.mine of.0.1.first in_layout (acts_as cl) (cond_led p x)
      answered = section_stands k p.head p.entry p.cell p.counter p.thread (card a) c r.mine of.0.1.first in_layout (acts_as cl) p.phase r.there of.1 x fits stands

      pub keeps_answered : (p' : CondWhole) → p' ≡ cond_moved p (cond_led p x) → IsAtCondition p'.phase → CondStandsIn w a cl p' c
      keeps_answered p' to there = goes_on p' (cond_led p x) c to (answered.outcome.goes (subst (λ (z : CondWhole). IsAtCondition z.phase) to there))

      pub ends_answered : (y : Reply) → (cond_led p x).phase ≡ condition.Ended y → CondHasEnded w a cl y c
      ends_answered y ended = subst (λ (z : ℕ). CondEnded k z (acts_as cl) y (card a) c) u.1 (answered.outcome.ends y ended)

      pub releases_answered : (l : Whole) → (cond_led p x).phase ≡ condition.Locking l → HasReleased w a cl r.pass
      releases_answered l locks =
          let h = answered.locks l locks in
          let there = subst (λ (z : ℕ). Called (card a) (cell_at k z) ((operation.Unlock, OK) ∷ []) c × (owns_in k (card a) (mutex_at k z) ≡ true) × LeftUsable k z c × Loaded (card a) (counter_place k z) c) u.1 (h.1, h.2, h.3, h.4) in
          record { of = sym h.0; called = there.0; owns = there.1; usable = there.2; loaded = there.3 }

      pub lock_answered : (l : Whole) → retaking p.thread p.head p.entry p.cell ≡ l
          → IsOnMutex k (standing_of l) (mutex_at k (condition_of cl)) × Stands operation.Lock (row.Lock lock.Load) (cell_place k (mutex_at k (condition_of cl))) c (standing_of l) c
      lock_answered l is =
          let at : Standing = record { thread = p.thread; cell = p.cell; row = row.Lock lock.Load } in
          subst (λ (z : ℕ × Whole). IsOnMutex k (standing_of z.1) (mutex_at k z.0) × Stands operation.Lock (row.Lock lock.Load) (cell_place k (mutex_at k z.0)) c (standing_of z.1) c) (λ i. (u.1 i, is i))
          ((in_layout, of.1.on.cell), stands_begun operation.Lock (cell_place k (mutex_at k (condition_at k p))) c at refl refl tt)

    -- its thread dies
    pub dies_here : (d : Card) → d ≡ c → DiesOn k (condition_of cl) (acts_as cl) (card a) d
    dies_here d same = subst (DiesOn k (condition_of cl) (acts_as cl) (card a)) (sym same) record {
      died = record { acts = cond_acts (cond_row_in p.phase); beginning = begins_acts k (condition_of cl) (acts_as cl) (card a) c (cond_row_in p.phase) u.2; saw = u.2.called.saw };
      loaded = loaded_behind (card a) c (cell_at k (condition_of cl)) (counter_place k (condition_of cl)) (cond_row_in p.phase) _ u.2.loads u.2.counts;
    }

-- ---- a call begins

stands_first : (k : Layout') (c : Card) (cl : CondCall) → CondStands k (condition_of cl) (acts_as cl) c (cond_row_in (begins k c.thread cl).phase) c
stands_first k c (call.Wait q) = record { of = refl; called = saw_nothing c (cell_at k q); owns = tt; counts = tt; waiters = tt; usable = tt; loads = nothing_yet c (counter_place k q) }
stands_first k c (call.TimedWait q y) = record { of = refl; called = saw_nothing c (cell_at k q); owns = tt; counts = tt; waiters = tt; usable = tt; loads = nothing_yet c (counter_place k q) }
stands_first k c (call.Signal q) = record { of = refl; called = saw_nothing c (cell_at k q); owns = tt; counts = tt; waiters = tt; usable = tt; loads = tt }
stands_first k c (call.Broadcast q) = record { of = refl; called = saw_nothing c (cell_at k q); owns = tt; counts = tt; waiters = tt; usable = tt; loads = tt }

pub begun_stands : (w : Words) (a : Pass Live) (cl : CondCall) (p : CondWhole) → p ≡ begins (layout_of w) (card a).thread cl → condition_at (layout_of w) (begins (layout_of w) (card a).thread cl) ≡ condition_of cl → CondStandsIn w a cl p (card a)
begun_stands w a cl p begun at = subst (λ (z : CondWhole). CondStandsIn w a cl z (card a)) (sym begun) (at, stands_first (layout_of w) (card a) cl)
