-- What is left of a lock whose time limit comes.
use Rattle.std.proofs.Common.{◌≡◌, ◌⊎◌, inl, inr, ℕ, Bool, true, false, Option, Some, None, refl, sym, ap, ◌∙◌, subst}
use Rattle.std.specs.Prelude.{if◌then◌else◌, option_map}
use Rattle.lockword.specs.Cells.{low_of}
use Rattle.lockword.specs.declared.reply.Reply.TheVariants.{ETIMEDOUT}
use Rattle.posixmutex.specs.declared.point.Operation.TheVariants as operation
use Rattle.stepprograms.specs.declared.access.Access.TheVariants as access
use Rattle.mutex.specs.declared.coding.CodedPhase.{CodedPhase}
use Rattle.mutex.specs.declared.lock.LockRow.TheVariants as lock
use Rattle.mutex.specs.declared.phase.Phase.{Phase}
use Rattle.mutex.specs.declared.phase.Phase.TheVariants.{AtCell}
use Rattle.mutex.specs.declared.row.Row.TheVariants as row
use Rattle.mutex.specs.Codings.{phase_code}
use Rattle.mutex.specs.Standings.{Whole}
use Rattle.mutex.specs.Whole as mutex
use Rattle.pazdrig_c.specs.Accesses.{access_code, decided}
use Rattle.pazdrig_c.specs.Expiring.{LooksOrSleeps, OnlySleepersExpire}
use Rattle.pazdrig_c.specs.Running.{Expires, access_of, call_code, expired}
use Rattle.pazdrig_c.specs.declared.running.Running.{Running}
use Rattle.pazdrig_c.specs.declared.running.Running.TheVariants.{OnMutex, OnCondition}
use Rattle.pazdrig_c.specs.declared.structs.PzAccess.{PzAccess}
use Rattle.pazdrig_c.specs.declared.structs.PzCall.{PzCall}

-- it is out of time
left_is : (p q : Whole) → Some q ≡ mutex.expired p → q ≡ mutex.timed_out p
left_is p q is = go (mutex.may_expire p.phase) is
  where
    go : (b : Bool) → Some q ≡ (if b then Some (mutex.timed_out p) else None) → q ≡ mutex.timed_out p
    go true e = cc e
    go false e = absurd (cc e)

-- the numbers of a call, except for where it is at its mutex
abbrev pub at_phase : PzCall → CodedPhase → PzCall
at_phase c f = record {
  head = c.head;
  entry = c.entry;
  cell = c.cell;
  counter = c.counter;
  phase = record { lock = f; seen = c.phase.seen; kind = c.phase.kind };
  program = c.program;
  thread = c.thread;
}

left_code : (p q : Whole) (old : PzCall) → Some q ≡ mutex.expired p → call_code (OnMutex p) ≡ old → at_phase old (phase_code q.phase) ≡ call_code (OnMutex q)
left_code p q old is code =
    ap (λ (c : PzCall). at_phase c (phase_code q.phase)) (sym code)
    ∙ ap (λ (z : Whole). at_phase (call_code (OnMutex z)) (phase_code q.phase)) (sym (left_is p q is))

-- and what is recorded of it
pub expires_so : (r : Running) (p q : Whole) (old : PzCall) (f : CodedPhase) (a a' : PzAccess) → r ≡ OnMutex p → Some q ≡ mutex.expired p → call_code r ≡ old → f ≡ phase_code q.phase
    → a' ≡ decided operation.TimedLock ETIMEDOUT (access_code (access_of (OnMutex q))) → Expires (expired r) 0 old (at_phase old f) a a'
expires_so r p q old f a a' on is code lock told =
    subst (λ (s : Running). Expires (expired s) 0 old (at_phase old f) a a') (sym on)
    (subst (λ (o : Option Whole). Expires (option_map OnMutex o) 0 old (at_phase old f) a a') is
    (refl, ap (at_phase old) lock ∙ left_code p q old is (ap call_code (sym on) ∙ code), told))

-- ---- only who looks or sleeps

looks : (p : Whole) (f : Phase) → mutex.may_expire f ≡ true → (mutex.phase_access p f ≡ access.Load p.cell) ⊎ ((e : ℕ) × (mutex.phase_access p f ≡ access.Wait p.cell e))
looks p (AtCell (row.Lock lock.Load)) may = inl refl
looks p (AtCell (row.Lock (lock.Sleep seen))) may = inr (low_of seen, refl)
looks p f may = absurd cc

pub only_sleepers_expire : OnlySleepersExpire
only_sleepers_expire (OnCondition p) left is = absurd cc
only_sleepers_expire (OnMutex p) left is = go (mutex.may_expire p.phase) refl is
  where
    go : (b : Bool) → mutex.may_expire p.phase ≡ b → option_map OnMutex (if b then Some (mutex.timed_out p) else None) ≡ Some left → LooksOrSleeps (OnMutex p)
    go true may e = looks p p.phase may
    go false may e = absurd cc
