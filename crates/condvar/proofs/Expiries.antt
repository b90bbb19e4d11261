-- Waits with a time limit.
use Rattle.std.proofs.Common.{◌≡◌, ◌≢◌, ◌≤◌, ℕ, Bool, true, false, Option, List, [], ◌∷◌, refl, sym, ap, ◌∙◌}
use Rattle.std.specs.Prelude.{Some}
use Rattle.lockword.specs.declared.reply.Reply.{Reply}
use Rattle.lockword.specs.declared.reply.Reply.TheVariants.{OK, ETIMEDOUT}
use Rattle.stepprograms.specs.declared.access.Answer.{Answer}
use Rattle.stepprograms.specs.declared.access.Answer.TheVariants.{Woken}
use Rattle.posixmutex.specs.declared.point.Operation.TheVariants as operation
use Rattle.memorymap.specs.Layouts.{Layout', cell_place, address_in}
use Rattle.mutex.specs.Whole as mutex
use Rattle.condvar.specs.declared.call.CondCall.{CondCall}
use Rattle.condvar.specs.declared.call.CondCall.TheVariants.{Wait, TimedWait, Signal, Broadcast}
use Rattle.condvar.specs.declared.call.Limit.TheVariants.{Ahead, Past}
use Rattle.condvar.specs.declared.call.Limit.{Limit}
use Rattle.condvar.specs.declared.wait.WaitRow.TheVariants.{Sleep}
use Rattle.condvar.specs.declared.row.CondRow.TheVariants as row
use Rattle.condvar.specs.declared.phase.CondPhase.{CondPhase}
use Rattle.condvar.specs.declared.phase.CondPhase.TheVariants.{AtWords, Locking}
use Rattle.condvar.specs.Calls.{expired, is_ahead, reply_of}
use Rattle.condvar.specs.Programs.{mutex_of}
use Rattle.condvar.specs.Standings.{CondWhole}
use Rattle.condvar.specs.Whole.{begins, cond_led, phase_led, onward}
use Rattle.condvar.specs.WholeLaws.{cond_reached, points_after, point}
use Rattle.condvar.specs.Expiries.{IsLate, SleepsNext, TimedWaitsAreRight}
use Rattle.condvar.proofs.Wholes.{kept, reached_had}

unlocked : (l : Layout') (t : ℕ) (c : CondCall) (answers : List Answer) → 1 ≤ t → SleepsNext (cond_reached (begins l t c) answers).phase
    → points_after (begins l t c) [] answers ≡ point t (address_in l t (cell_place l (mutex_of l c))) operation.Unlock OK ∷ []
unlocked l t c answers pos (seen, is) =
    let k = kept answers (begins l t c) in
    let h = reached_had l t c answers (AtWords (row.Wait (Sleep seen))) pos is in
    h.2 ∙ ap (λ (u : ℕ). point u (cond_reached (begins l t c) answers).cell operation.Unlock OK ∷ []) k.thread
    ∙ ap (λ (cell : ℕ). point t cell operation.Unlock OK ∷ []) k.cell

locks : (p : CondWhole) → SleepsNext p.phase → cond_led p Woken ≡ onward (Locking (mutex.retaking p.thread p.head p.entry p.cell))
locks p (seen, is) = ap (λ (f : CondPhase). phase_led p f Woken) is

to_late : (c : CondCall) (x : Reply) → x ≢ ETIMEDOUT → reply_of c x ≡ ETIMEDOUT → IsLate c × (x ≡ OK)
to_late (TimedWait k Past) OK in_time e = ((k, refl), refl)
to_late (TimedWait k Past) x in_time e = absurd (in_time e)
to_late (TimedWait k Ahead) x in_time e = absurd (in_time e)
to_late (Wait k) x in_time e = absurd (in_time e)
to_late (Signal k) x in_time e = absurd (in_time e)
to_late (Broadcast k) x in_time e = absurd (in_time e)

from_late : (c : CondCall) (x : Reply) → IsLate c × (x ≡ OK) → reply_of c x ≡ ETIMEDOUT
from_late c x ((k, late), ok) = ap (λ (d : CondCall). reply_of d x) late ∙ ap (λ (y : Reply). reply_of (TimedWait k Past) y) ok

otherwise : (c : CondCall) (x : Reply) → reply_of c x ≢ ETIMEDOUT → reply_of c x ≡ x
otherwise (TimedWait k Past) OK other = absurd (other refl)
otherwise (TimedWait k Past) x other = refl
otherwise (TimedWait k Ahead) x other = refl
otherwise (Wait k) x other = refl
otherwise (Signal k) x other = refl
otherwise (Broadcast k) x other = refl

not_late : (c : CondCall) → is_ahead c ≡ true → ¬ IsLate c
not_late c ahead (k, is) = absurd (cc (sym ahead ∙ ap is_ahead is))

begins_ahead : (c : CondCall) → (¬ IsLate c) → is_ahead c ≡ true
begins_ahead (TimedWait k Past) late = absurd (late (k, refl))
begins_ahead (TimedWait k Ahead) late = refl
begins_ahead (Wait k) late = refl
begins_ahead (Signal k) late = refl
begins_ahead (Broadcast k) late = refl

-- what a limit makes of a call
abbrev pub Comes : CondCall → CondCall → Type 0
Comes c d = (k : ℕ) × ((x : Limit) × (c ≡ TimedWait k x)) × (d ≡ TimedWait k Past)

has_come : (c d : CondCall) → expired c ≡ Some d → Comes c d
has_come (TimedWait k x) d e = (k, (x, refl), cc e)
has_come (Wait k) d e = absurd (cc e)
has_come (Signal k) d e = absurd (cc e)
has_come (Broadcast k) d e = absurd (cc e)

will_come : (c d : CondCall) → Comes c d → expired c ≡ Some d
will_come c d (k, (x, is), to) = ap expired is ∙ ap Some (sym to)

pub timed : TimedWaitsAreRight
timed = record {
  waits = λ l t k x. refl;
  unlocked = unlocked;
  locks = locks;
  late = λ c x in_time. (to_late c x in_time, from_late c x);
  otherwise = otherwise;
  begins = λ c. (not_late c, begins_ahead c);
  comes = λ c d. (has_come c d, will_come c d);
}
