-- How many sleepers a whole call wakes.
use Rattle.std.proofs.Common.{◌≡◌, ◌≢◌, ℕ, Bool, Option, Some, None, List, [], ◌∷◌, refl, sym, subst, arith}
use Rattle.std.specs.Prelude.{◌↔◌}
use Rattle.stepprograms.specs.declared.access.Access.{Access}
use Rattle.stepprograms.specs.declared.access.Access.TheVariants as access
use Rattle.stepprograms.specs.declared.access.Answer.{Answer}
use Rattle.posixmutex.specs.declared.point.Point.{Point}
use Rattle.memorymap.specs.Layouts.{Layout'}
use Rattle.mutex.specs.declared.phase.Phase.{Phase}
use Rattle.mutex.specs.Standings.{Whole}
use Rattle.mutex.specs.Whole as mutex
use Rattle.mutex.specs.WholeLaws as whole
use Rattle.mutex.proofs.WholeWakes as lock
use Rattle.condvar.specs.declared.call.CondCall.{CondCall}
use Rattle.condvar.specs.declared.call.CondCall.TheVariants as call
use Rattle.condvar.specs.declared.row.CondRow.{CondRow}
use Rattle.condvar.specs.declared.row.Decided.{Decided}
use Rattle.condvar.specs.declared.phase.CondPhase.{CondPhase}
use Rattle.condvar.specs.declared.phase.CondPhase.TheVariants.{AtWords, Announcing, Unlinking, Locking, Ended}
use Rattle.condvar.specs.Rows.{IsGoing}
use Rattle.condvar.specs.Standings.{CondWhole}
use Rattle.condvar.specs.Programs.{row_access, resume_of, point_of}
use Rattle.condvar.specs.Wakes.{tells_waiters, Wakes}
use Rattle.condvar.specs.Whole.{begins, phase_led, after_words, from_lock, cond_access, cond_led, cond_moved}
use Rattle.condvar.specs.WholeLaws.{cond_reached, IsAtWords, IsToWake, WakesNext, WholeCallsWake}
use Rattle.condvar.proofs.Wakes.{woken_right}

-- the access of a call that came to this phase
abbrev there : CondWhole → CondPhase → Access
there p f = cond_access (record p { phase = f })

-- from the words it goes on to that row's wake, or to none
wakes_as : (p : CondWhole) (q : CondRow) (at n : ℕ) → (there p (after_words p q) ≡ access.Wake at n) ↔ (row_access p.thread p.cell p.counter q ≡ access.Wake at n)
wakes_as p q at n = grind (arith)

asked : (p : CondWhole) (d : Option Decided) (b : Bool) (at n : ℕ) → Wakes p.cell p.counter d b at n ≡ IsToWake p (point_of p.thread p.cell d) b at n
asked p None b at n = refl
asked p (Some d) b at n = refl

module _ (p : CondWhole) (a : Answer) (at n : ℕ) where
  at_row : (r : CondRow) → p.phase ≡ AtWords r → IsGoing r → WakesNext p a at n ↔ IsToWake p (cond_led p a).point (tells_waiters a) at n
  at_row r is going =
      let so = woken_right p.thread p.cell p.counter at n r a going in
      let leads = wakes_as p (resume_of p.thread r a).row at n in
      let same = asked p (resume_of p.thread r a).decided (tells_waiters a) at n in
      subst (λ (f : CondPhase). (there p (phase_led p f a).phase ≡ access.Wake at n) ↔ IsToWake p (phase_led p f a).point (tells_waiters a) at n) (sym is)
      ((λ e. subst (λ (X : Type 0). X) same (so.0 (leads.0 e))), (λ h. leads.1 (so.1 (subst (λ (X : Type 0). X) (sym same) h))))

  -- a lock that goes on, or has ended
  locks_on : (w : Whole) (f : Phase) (x : Option Point) → (there p (from_lock (record w { phase = f }) (mutex.progress_in x f)).phase ≡ access.Wake at n) ↔ (mutex.whole_access (record w { phase = f }) ≡ access.Wake at n)
  locks_on w f x = grind (arith)

  at_lock : (w : Whole) → p.phase ≡ Locking w → WakesNext p a at n ↔ whole.WakesNext w a at n
  at_lock w is =
      subst (λ (f : CondPhase). (there p (phase_led p f a).phase ≡ access.Wake at n) ↔ whole.WakesNext w a at n) (sym is)
      (locks_on w (mutex.whole_led w a).phase (mutex.whole_point w (mutex.whole_led w a).point))

-- ---- elsewhere

abbrev pub IsQuiet : CondPhase → Type 0
IsQuiet (Locking w) = lock.IsQuiet w.phase
IsQuiet f = Unit {0}

quiet_lock : (w : Whole) (f : Phase) (x : Option Point) → lock.IsQuiet f → IsQuiet (from_lock (record w { phase = f }) (mutex.progress_in x f)).phase
quiet_lock w f x quiet = grind (arith)

quiet_words : (p : CondWhole) (q : CondRow) → IsQuiet (after_words p q)
quiet_words p q = grind (arith)

quiet_list : (p : CondWhole) (f : CondPhase) (a : Answer) → ((w : Whole) → f ≢ Locking w) → ((r : CondRow) → f ≢ AtWords r) → IsQuiet (phase_led p f a).phase
quiet_list p f a no_lock no_words = grind (arith)

pub stays_quiet : (p : CondWhole) (f : CondPhase) (a : Answer) → IsQuiet (phase_led p f a).phase
stays_quiet p (AtWords r) a = quiet_words p (resume_of p.thread r a).row
stays_quiet p (Locking w) a = quiet_lock w (mutex.whole_led w a).phase (mutex.whole_point w (mutex.whole_led w a).point) (lock.stays_quiet w w.phase a)
stays_quiet p (Announcing seen) a = quiet_list p (Announcing seen) a (λ w e. cc e) (λ r e. cc e)
stays_quiet p (Unlinking u seen) a = quiet_list p (Unlinking u seen) a (λ w e. cc e) (λ r e. cc e)
stays_quiet p (Ended x) a = tt

reached_quiet : (p : CondWhole) (answers : List Answer) → IsQuiet p.phase → IsQuiet (cond_reached p answers).phase
reached_quiet p [] quiet = quiet
reached_quiet p (a ∷ answers) quiet = reached_quiet (cond_moved p (cond_led p a)) answers (stays_quiet p p.phase a)

-- at the list no wake follows
list_awake : (p : CondWhole) (f : CondPhase) (a : Answer) (at n : ℕ) → ((w : Whole) → f ≢ Locking w) → ((r : CondRow) → f ≢ AtWords r) → there p (phase_led p f a).phase ≢ access.Wake at n
list_awake p f a at n no_lock no_words = grind (arith)

pub none_follows : (p : CondWhole) (f : CondPhase) (a : Answer) (at n : ℕ) → IsQuiet f → ¬ IsAtWords f → there p (phase_led p f a).phase ≢ access.Wake at n
none_follows p (AtWords r) a at n quiet elsewhere = absurd (elsewhere tt)
none_follows p (Locking w) a at n quiet elsewhere = λ e.
    lock.none_follows w w.phase a at n quiet elsewhere ((locks_on p a at n w (mutex.whole_led w a).phase (mutex.whole_point w (mutex.whole_led w a).point)).0 e)
none_follows p (Announcing seen) a at n quiet elsewhere = list_awake p (Announcing seen) a at n (λ w e. cc e) (λ r e. cc e)
none_follows p (Unlinking u seen) a at n quiet elsewhere = list_awake p (Unlinking u seen) a at n (λ w e. cc e) (λ r e. cc e)
none_follows p (Ended x) a at n quiet elsewhere = λ e. cc e

begins_awake : (l : Layout') (t : ℕ) (c : CondCall) (at n : ℕ) → cond_access (begins l t c) ≢ access.Wake at n
begins_awake l t (call.Wait c) at n e = cc e
begins_awake l t (call.TimedWait c x) at n e = cc e
begins_awake l t (call.Signal c) at n e = cc e
begins_awake l t (call.Broadcast c) at n e = cc e

pub whole_wakes : WholeCallsWake
whole_wakes = record {
  at_the_words = λ p r a at n is going. at_row p a at n r is going;
  in_its_lock = λ p w a at n is. at_lock p a at n w is;
  first = λ l t c at n. begins_awake l t c at n;
  at_the_list = λ l t c answers a at n elsewhere. none_follows (cond_reached (begins l t c) answers) (cond_reached (begins l t c) answers).phase a at n (reached_quiet (begins l t c) answers tt) elsewhere;
}
