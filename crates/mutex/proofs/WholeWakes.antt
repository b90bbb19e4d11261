-- How many sleepers a whole call wakes.
use Rattle.std.proofs.Common.{◌≡◌, ◌≢◌, ◌≤◌, ℕ, List, [], ◌∷◌, sym, subst, arith}
use Rattle.std.specs.Prelude.{◌↔◌}
use Rattle.lockword.specs.Cells.{fields_of}
use Rattle.stepprograms.specs.declared.access.Access.{Access}
use Rattle.stepprograms.specs.declared.access.Access.TheVariants as access
use Rattle.stepprograms.specs.declared.access.Answer.{Answer}
use Rattle.posixmutex.specs.declared.point.Operation.{Operation}
use Rattle.stepprograms.specs.Accesses.{word_among, answer_among}
use Rattle.posixmutex.specs.Objects.{object_of}
use Rattle.mutex.specs.declared.call.Call.{Call}
use Rattle.mutex.specs.declared.call.Call.TheVariants as call
use Rattle.mutex.specs.declared.lock.LockRow.TheVariants as lock
use Rattle.mutex.specs.declared.try_lock.TryLockRow.TheVariants as try
use Rattle.mutex.specs.declared.unlock.UnlockRow.TheVariants as unlock
use Rattle.mutex.specs.declared.row.Row.{Row}
use Rattle.mutex.specs.declared.row.Row.TheVariants as row
use Rattle.mutex.specs.declared.phase.Phase.{Phase}
use Rattle.mutex.specs.declared.phase.Phase.TheVariants.{Announcing, AtCell}
use Rattle.mutex.specs.Standings.{Whole}
use Rattle.mutex.specs.Rows.{Knows, IsGoing}
use Rattle.mutex.specs.Programs.{row_access, resume_of, row_operation}
use Rattle.mutex.specs.Laws.{Sound, Expects}
use Rattle.mutex.specs.Wakes.{Wakes}
use Rattle.mutex.specs.Whole.{begins, first_phase, phase_access, phase_led, after_cell, whole_access, whole_led, whole_moved}
use Rattle.mutex.specs.WholeLaws.{IsAt, IsWhole, IsAtCell, WholeCallsWake, whole_reached}
use Rattle.mutex.proofs.Wakes.{woken_right}
use Rattle.lockword.specs.Threads.{most_threads}

-- a call announces before it looks at the cell, and before it releases the mutex
abbrev pub Announces : Row → Type 0
Announces (row.Lock lock.Load) = Unit {0}
Announces (row.TryLock try.Load) = Unit {0}
Announces (row.Unlock (unlock.Release d)) = Unit {0}
Announces r = ⊥

abbrev pub IsQuiet : Phase → Type 0
IsQuiet (Announcing r) = Announces r
IsQuiet f = Unit {0}

-- the access of a call that came to this phase
abbrev there : Whole → Phase → Access
there p f = whole_access (record p { phase = f })

-- from the cell it goes on to that row's wake, or to none
wakes_as : (p : Whole) (q : Row) (at n : ℕ) → (there p (after_cell p q) ≡ access.Wake at n) ↔ (row_access p.thread p.cell q ≡ access.Wake at n)
wakes_as p q at n = grind (arith)

-- at the list no wake follows
pub none_follows : (p : Whole) (f : Phase) (a : Answer) (at n : ℕ) → IsQuiet f → ¬ IsAtCell f → there p (phase_led p f a).phase ≢ access.Wake at n
none_follows p f a at n quiet elsewhere = grind (arith)

pub stays_quiet : (p : Whole) (f : Phase) (a : Answer) → IsQuiet (phase_led p f a).phase
stays_quiet p f a = grind (arith)

reached_quiet : (p : Whole) (answers : List Answer) → IsQuiet p.phase → IsQuiet (whole_reached p answers).phase
reached_quiet p [] quiet = quiet
reached_quiet p (a ∷ answers) quiet = reached_quiet (whole_moved p (whole_led p a)) answers (stays_quiet p p.phase a)

begins_quiet : (c : Call) → IsQuiet (first_phase c)
begins_quiet (call.Lock m) = tt
begins_quiet (call.TimedLock m) = tt
begins_quiet (call.TryLock m) = tt
begins_quiet (call.Unlock m) = tt
begins_quiet (call.Consistent m) = tt

begins_awake : (p : Whole) (c : Call) (at n : ℕ) → phase_access p (first_phase c) ≢ access.Wake at n
begins_awake p c at n = grind (arith)

module _ (p : Whole) (w at n : ℕ) (queue : List ℕ) where
  -- in a phase, so it wakes
  abbrev Wakes_so : Phase → Type 0
  Wakes_so f =
      (there p (phase_led p f (answer_among (phase_access p f) w queue)).phase ≡ access.Wake at n)
      ↔ ((at ≡ p.cell) × Wakes p.operation (phase_led p f (answer_among (phase_access p f) w queue)).point (fields_of w).waiters (object_of (fields_of (word_among (phase_access p f) w queue))) n)

  pub at_row : (r : Row) → IsWhole p → p.thread ≤ most_threads → p.phase ≡ AtCell r → IsGoing r → Sound (object_of (fields_of w)) → Expects p.thread r (object_of (fields_of w)) → Wakes_so p.phase
  at_row r whole few is going sound expected =
      let knows : Knows r × (row_operation r ≡ p.operation) = subst (IsAt p) is whole.1 in
      let so = woken_right p.thread p.cell w at n queue r whole.0 few going knows.0 sound expected in
      let leads = wakes_as p (resume_of p.thread r (answer_among (row_access p.thread p.cell r) w queue)).row at n in
      subst Wakes_so (sym is)
      (subst (λ (op : Operation). (there p (phase_led p (AtCell r) (answer_among (row_access p.thread p.cell r) w queue)).phase ≡ access.Wake at n)
      ↔ ((at ≡ p.cell) × Wakes op (resume_of p.thread r (answer_among (row_access p.thread p.cell r) w queue)).point (fields_of w).waiters (object_of (fields_of (word_among (row_access p.thread p.cell r) w queue))) n)) knows.1
      ((λ e. so.0 (leads.0 e)), (λ h. leads.1 (so.1 h))))

pub whole_wakes : WholeCallsWake
whole_wakes = record {
  at_the_cell = λ p r w at n queue whole few is going sound expected. at_row p w at n queue r whole few is going sound expected;
  first = λ l t c at n. begins_awake (begins l t c) c at n;
  at_the_list = λ l t c answers a at n elsewhere. none_follows (whole_reached (begins l t c) answers) (whole_reached (begins l t c) answers).phase a at n (reached_quiet (begins l t c) answers (begins_quiet c)) elsewhere;
}
