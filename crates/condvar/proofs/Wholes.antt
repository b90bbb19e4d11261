-- Whatever a whole call is answered, it has exactly its points.
use Rattle.std.proofs.Common.{◌≡◌, ◌≢◌, ℕ, ◌≤◌, ◌==◌, inl, inr, Bool, true, false, not, Option, Some, None, List, [], ◌∷◌, refl, sym, ap, ◌∙◌, subst, arith}
use Rattle.std.specs.Prelude.{◌++◌, if◌then◌else◌}
use Rattle.lockword.specs.Cells.{fields_of}
use Rattle.lockword.specs.declared.reply.Reply.{Reply}
use Rattle.lockword.specs.declared.reply.Reply.TheVariants.{OK, EPERM, EFAULT, EOWNERDEAD, XFULL, XSTATE}
use Rattle.stepprograms.specs.declared.access.Answer.{Answer}
use Rattle.stepprograms.specs.declared.access.Answer.TheVariants.{Value, Stored, Exchanged, Changed, Again, Woken, Count, Counts}
use Rattle.posixmutex.specs.declared.point.Operation.{Operation}
use Rattle.posixmutex.specs.declared.point.Operation.TheVariants as operation
use Rattle.posixmutex.specs.declared.point.Point.{Point}
use Rattle.memorymap.specs.Layouts.{Layout', cell_place, address_in}
use Rattle.robustlist.specs.declared.link.LinkRow.{LinkRow}
use Rattle.robustlist.specs.declared.link.LinkRow.TheVariants as link
use Rattle.robustlist.specs.declared.unlink.UnlinkRow.{UnlinkRow}
use Rattle.robustlist.specs.declared.unlink.UnlinkRow.TheVariants as unlink
use Rattle.robustlist.specs.Standings.{LinkStanding, UnlinkStanding}
use Rattle.robustlist.specs.Link.{link_moved}
use Rattle.robustlist.specs.Unlink.{unlink_moved}
use Rattle.mutex.specs.declared.lock.LockRow.TheVariants as lock
use Rattle.mutex.specs.declared.row.Row.{Row}
use Rattle.mutex.specs.declared.row.Row.TheVariants as row
use Rattle.mutex.specs.declared.phase.Phase.{Phase}
use Rattle.mutex.specs.declared.phase.Phase.TheVariants as phase
use Rattle.mutex.specs.declared.phase.Onward.{Onward}
use Rattle.mutex.specs.Rows as rows
use Rattle.mutex.specs.Standings.{Whole}
use Rattle.mutex.specs.Programs as programs
use Rattle.mutex.specs.Laws.{points, decided, Joins}
use Rattle.mutex.specs.Whole as mutex
use Rattle.mutex.specs.WholeLaws.{IsWhole}
use Rattle.mutex.proofs.Rights.{Looks, lock_looks}
use Rattle.condvar.specs.declared.call.CondCall.{CondCall}
use Rattle.condvar.specs.declared.call.CondCall.TheVariants as call
use Rattle.condvar.specs.declared.wait.WaitRow.TheVariants as wait
use Rattle.condvar.specs.declared.signal.SignalRow.TheVariants as signal
use Rattle.condvar.specs.declared.broadcast.BroadcastRow.TheVariants as broadcast
use Rattle.condvar.specs.declared.row.CondRow.{CondRow}
use Rattle.condvar.specs.declared.row.CondRow.TheVariants.{Wait, Signal, Broadcast, Awake}
use Rattle.condvar.specs.declared.row.CondRow.TheVariants as cond
use Rattle.condvar.specs.declared.phase.CondPhase.{CondPhase}
use Rattle.condvar.specs.declared.phase.CondPhase.TheVariants.{AtWords, Announcing, Unlinking, Locking, Ended}
use Rattle.condvar.specs.declared.phase.CondOnward.{CondOnward}
use Rattle.condvar.specs.Calls.{acts_as}
use Rattle.condvar.specs.Rows.{goes, decides, ends, full, IsGoing}
use Rattle.condvar.specs.Standings.{CondWhole}
use Rattle.condvar.specs.Programs.{mutex_of, resume_of}
use Rattle.condvar.specs.Whole.{begins, from_words, from_lock, unlinked_at, phase_led, cond_led, cond_moved}
use Rattle.condvar.specs.Laws.{row_operation}
use Rattle.condvar.proofs.Firsts.{first_permits}
use Rattle.condvar.specs.WholeLaws.{cond_reached, points_after, point, IsDecidedBy, IsLockOf, WholeCallsAreRight}

-- ---- the lock that ends a wait

-- it is at rows of a lock, or is finished with the cell
abbrev pub IsLockPhase : Phase → Type 0
IsLockPhase (phase.AtCell (row.Lock r)) = rows.Knows (row.Lock r)
IsLockPhase (phase.Linking l x) = Unit {0}
IsLockPhase (phase.Clearing x) = Unit {0}
IsLockPhase (phase.Ended x) = Unit {0}
IsLockPhase f = ⊥

-- the reply that it has been given
abbrev pub lock_decided : Phase → Option Reply
lock_decided (phase.AtCell r) = decided r
lock_decided (phase.Linking l x) = Some x
lock_decided (phase.Clearing x) = Some x
lock_decided (phase.Ended x) = Some x
lock_decided f = None

-- the lock of a call p, in a phase
abbrev pub lock_of : CondWhole → Phase → Whole
lock_of p f = record { thread = p.thread; operation = operation.Lock; head = p.head; entry = p.entry; cell = p.cell; phase = f }

-- a row of a lock, or its end
abbrev IsLockRow : Row → Type 0
IsLockRow (row.Lock r) = rows.Knows (row.Lock r)
IsLockRow (row.Ended x) = Unit {0}
IsLockRow r = ⊥

-- what an answer at a row of a lock leads to
record Led (t : ℕ) (r : Row) (a : Answer) : Type 0 where
  joins : (programs.resume_of t r a).row ≢ row.Ended EFAULT → Joins (decided r) (programs.resume_of t r a).point (decided (programs.resume_of t r a).row)
  goes : IsLockRow (programs.resume_of t r a).row

-- what a look leads to is a row of a lock
is_lock : (r : Row) → rows.Knows r → Rattle.mutex.specs.Laws.IsOf operation.Lock r → IsLockRow r
is_lock (row.Lock r) k s = k
is_lock (row.Ended x) k s = tt
is_lock (row.TryLock r) k s = absurd cc
is_lock (row.Unlock r) k s = absurd cc
is_lock (row.Consistent r) k s = absurd cc

looks : (t w : ℕ) → 1 ≤ t → Looks t 0 operation.Lock (Rattle.mutex.specs.Lock.lock_sees t (fields_of w)) (fields_of w)
looks t w pos = lock_looks t 0 (fields_of w) pos (omega arith)

led : (t : ℕ) (r : Row) (a : Answer) → 1 ≤ t → IsLockRow r → Led t r a
led t (row.Lock lock.Load) (Value w) pos h = let l = looks t w pos in record { joins = λ no. l.tells; goes = is_lock _ l.knows l.stays }
led t (row.Lock lock.Load) a pos h = record { joins = λ no. absurd (no refl); goes = tt }
led t (row.Lock (lock.Take v)) Exchanged pos h = record { joins = λ no. refl; goes = tt }
led t (row.Lock (lock.Take v)) (Changed w) pos h = let l = looks t w pos in record { joins = λ no. l.tells; goes = is_lock _ l.knows l.stays }
led t (row.Lock (lock.Take v)) a pos h = record { joins = λ no. absurd (no refl); goes = tt }
led t (row.Lock (lock.SetWaiters v)) Exchanged pos h = record { joins = λ no. refl; goes = (h, refl) }
led t (row.Lock (lock.SetWaiters v)) (Changed w) pos h = let l = looks t w pos in record { joins = λ no. l.tells; goes = is_lock _ l.knows l.stays }
led t (row.Lock (lock.SetWaiters v)) a pos h = record { joins = λ no. absurd (no refl); goes = tt }
led t (row.Lock (lock.Sleep v)) Again pos h = record { joins = λ no. refl; goes = tt }
led t (row.Lock (lock.Sleep v)) Woken pos h = record { joins = λ no. refl; goes = tt }
led t (row.Lock (lock.Sleep v)) a pos h = record { joins = λ no. absurd (no refl); goes = tt }
led t (row.Lock lock.WakeAll) (Count n) pos h = record { joins = λ no. (refl, refl); goes = tt }
led t (row.Lock lock.WakeAll) a pos h = record { joins = λ no. absurd (no refl); goes = tt }
led t (row.Ended x) a pos h = record { joins = λ no. (refl, refl); goes = tt }
led t (row.TryLock r) a pos h = absurd h
led t (row.Unlock r) a pos h = absurd h
led t (row.Consistent r) a pos h = absurd h

-- finished with the cell it keeps the reply
left : (p : CondWhole) (f : Phase) (x : Reply) → lock_decided (mutex.leaving (lock_of p f) operation.Lock x) ≡ Some x
left p f EFAULT = refl
left p f OK = refl
left p f EOWNERDEAD = refl
left p f x = refl

left_so : (p : CondWhole) (f : Phase) (x : Reply) → IsLockPhase (mutex.leaving (lock_of p f) operation.Lock x)
left_so p f EFAULT = tt
left_so p f OK = tt
left_so p f EOWNERDEAD = tt
left_so p f x = tt

after_decided : (p : CondWhole) (f : Phase) (r : Row) → IsLockRow r → lock_decided (mutex.after_cell (lock_of p f) r) ≡ decided r
after_decided p f (row.Lock r) h = refl
after_decided p f (row.Ended x) h = left p f x
after_decided p f (row.TryLock r) h = absurd h
after_decided p f (row.Unlock r) h = absurd h
after_decided p f (row.Consistent r) h = absurd h

after_so : (p : CondWhole) (f : Phase) (r : Row) → IsLockRow r → IsLockPhase (mutex.after_cell (lock_of p f) r)
after_so p f (row.Lock r) h = h
after_so p f (row.Ended x) h = left_so p f x
after_so p f (row.TryLock r) h = absurd h
after_so p f (row.Unlock r) h = absurd h
after_so p f (row.Consistent r) h = absurd h

-- what an answer leads to in a phase of it
record Stepped (f : Phase) (o : Onward) : Type 0 where
  joins : o.phase ≢ phase.Ended EFAULT → Joins (lock_decided f) o.point (lock_decided o.phase)
  goes : IsLockPhase o.phase

at_cell : (p : CondWhole) (f : Phase) (r : Row) (a : Answer) → 1 ≤ p.thread → IsLockRow r → Stepped (phase.AtCell r) (mutex.from_cell (lock_of p f) (programs.resume_of p.thread r a))
at_cell p f r a pos h =
    let l = led p.thread r a pos h in
    let l' = programs.resume_of p.thread r a in
    record {
      joins = λ no. subst (λ (x : Option Reply). Joins (decided r) l'.point x) (sym (after_decided p f l'.row l.goes)) (l.joins (λ is. no (ap (λ (z : Row). mutex.after_cell (lock_of p f) z) is)));
      goes = after_so p f l'.row l.goes;
    }

linked : (x : Reply) (l : LinkStanding) (r : LinkRow) → Stepped (phase.Linking l x) (mutex.onward (mutex.linked_at x l r))
linked x l (link.Ended OK) = record { joins = λ no. (refl, refl); goes = tt }
linked x l (link.Ended y) = record { joins = λ no. absurd (no refl); goes = tt }
linked x l r = record { joins = λ no. (refl, refl); goes = tt }

linked_on : (x : Reply) (k l : LinkStanding) (r : LinkRow) → Stepped (phase.Linking k x) (mutex.onward (mutex.linked_at x l r))
linked_on x k l r = let s = linked x l r in record { joins = s.joins; goes = s.goes }

steps : (p : CondWhole) (f g : Phase) (a : Answer) → 1 ≤ p.thread → IsLockPhase f → Stepped f (mutex.phase_led (lock_of p g) f a)
steps p (phase.AtCell (row.Lock r)) g a pos h = at_cell p g (row.Lock r) a pos h
steps p (phase.AtCell (row.Ended x)) g a pos h = absurd h
steps p (phase.AtCell (row.TryLock r)) g a pos h = absurd h
steps p (phase.AtCell (row.Unlock r)) g a pos h = absurd h
steps p (phase.AtCell (row.Consistent r)) g a pos h = absurd h
steps p (phase.Linking l x) g a pos h = linked_on x l (link_moved l a) (link_moved l a).row
steps p (phase.Clearing x) g Stored pos h = record { joins = λ no. (refl, refl); goes = tt }
steps p (phase.Clearing x) g a pos h = record { joins = λ no. absurd (no refl); goes = tt }
steps p (phase.Ended x) g a pos h = record { joins = λ no. (refl, refl); goes = tt }
steps p (phase.Announcing r) g a pos h = absurd h
steps p (phase.Unlinking u d) g a pos h = absurd h

-- it is a whole call of the mutex
whole_lock : (p : CondWhole) (f : Phase) → 1 ≤ p.thread → IsLockPhase f → IsWhole (lock_of p f)
whole_lock p (phase.AtCell (row.Lock r)) pos h = (pos, (h, refl))
whole_lock p (phase.AtCell (row.Ended x)) pos h = absurd h
whole_lock p (phase.AtCell (row.TryLock r)) pos h = absurd h
whole_lock p (phase.AtCell (row.Unlock r)) pos h = absurd h
whole_lock p (phase.AtCell (row.Consistent r)) pos h = absurd h
whole_lock p (phase.Linking l x) pos h = (pos, tt)
whole_lock p (phase.Clearing x) pos h = (pos, tt)
whole_lock p (phase.Ended x) pos h = (pos, tt)
whole_lock p (phase.Announcing r) pos h = absurd h
whole_lock p (phase.Unlinking u d) pos h = absurd h

-- ---- the points so far

-- a lock's point, once that is made
abbrev pub lock_points : CondWhole → Option Reply → List Point
lock_points p None = []
lock_points p (Some x) = point p.thread p.cell operation.Lock x ∷ []

abbrev pub row_points : CondWhole → CondRow → List Point
row_points p (Wait (wait.Wake s)) = point p.thread p.cell operation.Unlock OK ∷ []
row_points p (Wait (wait.Sleep s)) = point p.thread p.cell operation.Unlock OK ∷ []
row_points p (Signal signal.Wake) = point p.thread p.cell operation.Signal OK ∷ []
row_points p (Broadcast (broadcast.SetWaiters s)) = point p.thread p.cell operation.Broadcast OK ∷ []
row_points p (Broadcast (broadcast.Move s)) = point p.thread p.cell operation.Broadcast OK ∷ []
row_points p r = []

-- a call of an operation, in a phase, has had these points
abbrev pub Had : Operation → CondWhole → CondPhase → List Point → Type 0
Had op p (AtWords r) ps = IsGoing r × (row_operation r ≡ op) × (ps ≡ row_points p r)
Had op p (Announcing s) ps = (operation.Wait ≡ op) × (ps ≡ [])
Had op p (Unlinking u s) ps = (operation.Wait ≡ op) × (ps ≡ [])
Had op p (Locking w) ps = (f : Phase) × (w ≡ lock_of p f) × IsLockPhase f × (operation.Wait ≡ op) × (ps ≡ point p.thread p.cell operation.Unlock OK ∷ lock_points p (lock_decided f))
Had op p (Ended x) ps = x ≢ EFAULT → IsDecidedBy p.thread p.cell op x ps

-- where a look at the cell leads
wait_looks : (p : CondWhole) (b d : Bool) → let o = from_words p (if not b then ends operation.Wait EPERM else if d then ends operation.Wait XSTATE else goes (Wait wait.LoadCounter)) in Had operation.Wait p o.phase (points o.point)
wait_looks p false d = λ no. inl (tt, refl)
wait_looks p true true = λ no. inl (tt, refl)
wait_looks p true false = (tt, refl, refl)

signal_looks : (p : CondWhole) (b : Bool) → let o = from_words p (if not b then ends operation.Signal EPERM else goes (Signal signal.LoadCounter)) in Had operation.Signal p o.phase (points o.point)
signal_looks p false = λ no. refl
signal_looks p true = (tt, refl, refl)

signal_reads : (p : CondWhole) (b : Bool) → let o = from_words p (if b then ends operation.Signal XFULL else goes (Signal signal.Count)) in Had operation.Signal p o.phase (points o.point)
signal_reads p true = λ no. refl
signal_reads p false = (tt, refl, refl)

broadcast_looks : (p : CondWhole) (b : Bool) → let o = from_words p (if not b then ends operation.Broadcast EPERM else goes (Broadcast broadcast.LoadCounter)) in Had operation.Broadcast p o.phase (points o.point)
broadcast_looks p false = λ no. refl
broadcast_looks p true = (tt, refl, refl)

broadcast_reads : (p : CondWhole) (s : ℕ) (b : Bool) → let o = from_words p (if b then ends operation.Broadcast XFULL else goes (Broadcast (broadcast.Count s))) in Had operation.Broadcast p o.phase (points o.point)
broadcast_reads p s true = λ no. refl
broadcast_reads p s false = (tt, refl, refl)

release_on : (p : CondWhole) (s : ℕ) (b : Bool) → let o = from_words p (decides (if b then Wait (wait.Wake s) else Wait (wait.Sleep s)) operation.Unlock OK) in Had operation.Wait p o.phase (points o.point)
release_on p s true = (tt, refl, refl)
release_on p s false = (tt, refl, refl)

-- each row, each answer
at_words : (p : CondWhole) (r : CondRow) (a : Answer) → IsGoing r → let o = from_words p (resume_of p.thread r a) in Had (row_operation r) p o.phase (row_points p r ++ points o.point)
at_words p (Wait wait.LoadCell) (Value w) going = wait_looks p ((fields_of w).owner == p.thread) (fields_of w).died
at_words p (Wait wait.LoadCell) a going = λ no. absurd (no refl)
at_words p (Wait wait.LoadCounter) (Value s) going = (refl, refl)
at_words p (Wait wait.LoadCounter) a going = λ no. absurd (no refl)
at_words p (Wait (wait.Release s)) (Value w) going = release_on p s (fields_of w).waiters
at_words p (Wait (wait.Release s)) a going = λ no. absurd (no refl)
at_words p (Wait (wait.Wake s)) (Count n) going = (tt, refl, refl)
at_words p (Wait (wait.Wake s)) a going = λ no. absurd (no refl)
at_words p (Wait (wait.Sleep s)) Again going = (phase.AtCell (row.Lock lock.Load), refl, tt, refl, refl)
at_words p (Wait (wait.Sleep s)) Woken going = (phase.AtCell (row.Lock lock.Load), refl, tt, refl, refl)
at_words p (Wait (wait.Sleep s)) a going = λ no. absurd (no refl)
at_words p (Signal signal.LoadCell) (Value w) going = signal_looks p ((fields_of w).owner == p.thread)
at_words p (Signal signal.LoadCell) a going = λ no. absurd (no refl)
at_words p (Signal signal.LoadCounter) (Value s) going = signal_reads p (s == full)
at_words p (Signal signal.LoadCounter) a going = λ no. absurd (no refl)
at_words p (Signal signal.Count) (Value s) going = (tt, refl, refl)
at_words p (Signal signal.Count) a going = λ no. absurd (no refl)
at_words p (Signal signal.Wake) (Count n) going = λ no. refl
at_words p (Signal signal.Wake) a going = λ no. absurd (no refl)
at_words p (Broadcast broadcast.LoadCell) (Value w) going = broadcast_looks p ((fields_of w).owner == p.thread)
at_words p (Broadcast broadcast.LoadCell) a going = λ no. absurd (no refl)
at_words p (Broadcast broadcast.LoadCounter) (Value s) going = broadcast_reads p _ (s == full)
at_words p (Broadcast broadcast.LoadCounter) a going = λ no. absurd (no refl)
at_words p (Broadcast (broadcast.Count s)) (Value w) going = (tt, refl, refl)
at_words p (Broadcast (broadcast.Count s)) a going = λ no. absurd (no refl)
at_words p (Broadcast (broadcast.SetWaiters s)) (Value w) going = (tt, refl, refl)
at_words p (Broadcast (broadcast.SetWaiters s)) a going = λ no. absurd (no refl)
at_words p (Broadcast (broadcast.Move s)) Again going = λ no. refl
at_words p (Broadcast (broadcast.Move s)) (Counts n m) going = λ no. refl
at_words p (Broadcast (broadcast.Move s)) a going = λ no. absurd (no refl)
at_words p Awake a going = absurd going
at_words p (cond.Ended x) a going = absurd going

-- an unlink makes no point
unlinks : (p : CondWhole) (u : UnlinkStanding) (r : UnlinkRow) (s : ℕ) → Had operation.Wait p (unlinked_at u r s) []
unlinks p u (unlink.Ended OK) s = (tt, refl, refl)
unlinks p u (unlink.Ended y) s = λ no. absurd (no refl)
unlinks p u r s = (refl, refl)

-- points that join are those of the next phase
joined : (p : CondWhole) (f : Phase) (d o e : Option Reply) → Joins d o e → lock_points p d ++ points (mutex.whole_point (lock_of p f) o) ≡ lock_points p e
joined p f None None e j = ap (lock_points p) (sym j)
joined p f None (Some x) e j = ap (lock_points p) (sym j)
joined p f (Some y) None e j = ap (lock_points p) (sym j.1)
joined p f (Some y) (Some x) e j = absurd cc

-- where the lock of a wait goes on, or ends
lock_on : (p : CondWhole) (f g : Phase) (o : Option Reply) → IsLockPhase g → (g ≢ phase.Ended EFAULT → Joins (lock_decided f) o (lock_decided g))
    → let n = from_lock (lock_of p g) (mutex.progress_in (mutex.whole_point (lock_of p f) o) g) in
    Had operation.Wait p n.phase ((point p.thread p.cell operation.Unlock OK ∷ lock_points p (lock_decided f)) ++ points n.point)
lock_on p f (phase.AtCell r) o h j = (phase.AtCell r, refl, h, refl, ap (λ (ps : List Point). point p.thread p.cell operation.Unlock OK ∷ ps) (joined p f (lock_decided f) o (decided r) (j (λ is. cc))))
lock_on p f (phase.Linking l x) o h j = (phase.Linking l x, refl, h, refl, ap (λ (ps : List Point). point p.thread p.cell operation.Unlock OK ∷ ps) (joined p f (lock_decided f) o (Some x) (j (λ is. cc))))
lock_on p f (phase.Clearing x) o h j = (phase.Clearing x, refl, h, refl, ap (λ (ps : List Point). point p.thread p.cell operation.Unlock OK ∷ ps) (joined p f (lock_decided f) o (Some x) (j (λ is. cc))))
lock_on p f (phase.Ended x) o h j = λ no. inr (ap (λ (ps : List Point). point p.thread p.cell operation.Unlock OK ∷ ps) (joined p f (lock_decided f) o (Some x) (j (λ is. no (reply_of is)))))
  where
    reply_of : {y : Reply} → phase.Ended x ≡ phase.Ended y → x ≡ y
    reply_of is = cc
lock_on p f (phase.Announcing r) o h j = absurd h
lock_on p f (phase.Unlinking u d) o h j = absurd h

locking : (p : CondWhole) (f : Phase) (a : Answer) → 1 ≤ p.thread → IsLockPhase f
    → let n = phase_led p (Locking (lock_of p f)) a in Had operation.Wait p n.phase ((point p.thread p.cell operation.Unlock OK ∷ lock_points p (lock_decided f)) ++ points n.point)
locking p f a pos h =
    let o = mutex.phase_led (lock_of p f) f a in
    let s = steps p f f a pos h in
    lock_on p f o.phase o.point s.goes s.joins

-- points that are equal
as_told : (op : Operation) (p : CondWhole) (o : CondOnward) (ps qs : List Point) → ps ≡ qs → Had op p o.phase (qs ++ points o.point) → Had op p o.phase (ps ++ points o.point)
as_told op p o ps qs e h = subst (λ (z : List Point). Had op p o.phase (z ++ points o.point)) (sym e) h

-- none after the last
none_more : (ps : List Point) → ps ++ [] ≡ ps
none_more [] = refl
none_more (q ∷ ps) = ap (λ (z : List Point). q ∷ z) (none_more ps)

-- each phase, each answer
had : (op : Operation) (p : CondWhole) (f : CondPhase) (a : Answer) (ps : List Point) → 1 ≤ p.thread → Had op p f ps → let o = phase_led p f a in Had op p o.phase (ps ++ points o.point)
had op p (AtWords r) a ps pos h =
    as_told op p (phase_led p (AtWords r) a) ps (row_points p r) h.2 (subst (λ (z : Operation). Had z p (phase_led p (AtWords r) a).phase (row_points p r ++ points (phase_led p (AtWords r) a).point)) h.1 (at_words p r a h.0))
had op p (Announcing s) Stored ps pos h = (h.0, none_more ps ∙ h.1)
had op p (Announcing s) a ps pos h = λ no. absurd (no refl)
had op p (Unlinking u s) a ps pos h =
    as_told op p (phase_led p (Unlinking u s) a) ps [] h.1 (subst (λ (z : Operation). Had z p (phase_led p (Unlinking u s) a).phase []) h.0 (unlinks p (unlink_moved u a) (unlink_moved u a).row s))
had op p (Locking w) a ps pos h =
    let f = h.0 in
    subst (λ (z : Whole). Had op p (phase_led p (Locking z) a).phase (ps ++ points (phase_led p (Locking z) a).point)) (sym h.1)
    (as_told op p (phase_led p (Locking (lock_of p f)) a) ps _ h.4
    (subst (λ (z : Operation). Had z p (phase_led p (Locking (lock_of p f)) a).phase ((point p.thread p.cell operation.Unlock OK ∷ lock_points p (lock_decided f)) ++ points (phase_led p (Locking (lock_of p f)) a).point)) h.3
    (locking p f a pos h.2)))
had op p (Ended x) a ps pos h = λ no. subst (IsDecidedBy p.thread p.cell op x) (sym (none_more ps)) (h no)

-- what a call has had is a matter of what it keeps
forth : (op : Operation) (p : CondWhole) (o : CondOnward) (f : CondPhase) (ps : List Point) → Had op p f ps → Had op (cond_moved p o) f ps
forth op p o (AtWords r) ps h = (h.0, h.1, h.2 ∙ sym (same_row p o r))
  where
    same_row : (p : CondWhole) (o : CondOnward) (r : CondRow) → row_points (cond_moved p o) r ≡ row_points p r
    same_row p o (Wait wait.LoadCell) = refl
    same_row p o (Wait wait.LoadCounter) = refl
    same_row p o (Wait (wait.Release s)) = refl
    same_row p o (Wait (wait.Wake s)) = refl
    same_row p o (Wait (wait.Sleep s)) = refl
    same_row p o (Signal signal.LoadCell) = refl
    same_row p o (Signal signal.LoadCounter) = refl
    same_row p o (Signal signal.Count) = refl
    same_row p o (Signal signal.Wake) = refl
    same_row p o (Broadcast broadcast.LoadCell) = refl
    same_row p o (Broadcast broadcast.LoadCounter) = refl
    same_row p o (Broadcast (broadcast.Count s)) = refl
    same_row p o (Broadcast (broadcast.SetWaiters s)) = refl
    same_row p o (Broadcast (broadcast.Move s)) = refl
    same_row p o Awake = refl
    same_row p o (cond.Ended x) = refl
forth op p o (Announcing s) ps h = h
forth op p o (Unlinking u s) ps h = h
forth op p o (Locking w) ps h = (h.0, h.1, h.2, h.3, h.4 ∙ ap (λ (qs : List Point). point p.thread p.cell operation.Unlock OK ∷ qs) (sym (same_lock p o (lock_decided h.0))))
  where
    same_lock : (p : CondWhole) (o : CondOnward) (d : Option Reply) → lock_points (cond_moved p o) d ≡ lock_points p d
    same_lock p o None = refl
    same_lock p o (Some x) = refl
forth op p o (Ended x) ps h = h

-- all answers
all_had : (op : Operation) (answers : List Answer) (p : CondWhole) (ps : List Point) → 1 ≤ p.thread → Had op p p.phase ps → Had op (cond_reached p answers) (cond_reached p answers).phase (points_after p ps answers)
all_had op [] p ps pos h = h
all_had op (a ∷ answers) p ps pos h =
    let o = cond_led p a in
    all_had op answers (cond_moved p o) (ps ++ points o.point) pos (forth op p o o.phase (ps ++ points o.point) (had op p p.phase a ps pos h))

-- what a call keeps
pub record Keeps (p q : CondWhole) : Type 0 where
  pub thread : q.thread ≡ p.thread
  pub head : q.head ≡ p.head
  pub entry : q.entry ≡ p.entry
  pub cell : q.cell ≡ p.cell

pub kept : (answers : List Answer) (p : CondWhole) → Keeps p (cond_reached p answers)
kept [] p = record { thread = refl; head = refl; entry = refl; cell = refl }
kept (a ∷ answers) p = let k = kept answers (cond_moved p (cond_led p a)) in record { thread = k.thread; head = k.head; entry = k.entry; cell = k.cell }

-- at its begin it has had none
none_had : (l : Layout') (t : ℕ) (c : CondCall) → Had (acts_as c) (begins l t c) (begins l t c).phase []
none_had l t (call.Wait c) = (tt, refl, refl)
none_had l t (call.TimedWait c x) = (tt, refl, refl)
none_had l t (call.Signal c) = (tt, refl, refl)
none_had l t (call.Broadcast c) = (tt, refl, refl)

pub reached_had : (l : Layout') (t : ℕ) (c : CondCall) (answers : List Answer) (f : CondPhase) → 1 ≤ t → (cond_reached (begins l t c) answers).phase ≡ f
    → Had (acts_as c) (cond_reached (begins l t c) answers) f (points_after (begins l t c) [] answers)
reached_had l t c answers f pos is =
    subst (λ (g : CondPhase). Had (acts_as c) (cond_reached (begins l t c) answers) g (points_after (begins l t c) [] answers)) is (all_had (acts_as c) answers (begins l t c) [] pos (none_had l t c))

has_points : (l : Layout') (t : ℕ) (c : CondCall) (answers : List Answer) (x : Reply) → 1 ≤ t → (cond_reached (begins l t c) answers).phase ≡ Ended x → x ≢ EFAULT
    → IsDecidedBy t (address_in l t (cell_place l (mutex_of l c))) (acts_as c) x (points_after (begins l t c) [] answers)
has_points l t c answers x pos is other =
    let k = kept answers (begins l t c) in
    let h = reached_had l t c answers (Ended x) pos is other in
    subst (λ (cell : ℕ). IsDecidedBy t cell (acts_as c) x (points_after (begins l t c) [] answers)) k.cell
    (subst (λ (u : ℕ). IsDecidedBy u (cond_reached (begins l t c) answers).cell (acts_as c) x (points_after (begins l t c) [] answers)) k.thread h)

locks_again : (l : Layout') (t : ℕ) (c : CondCall) (answers : List Answer) (w : Whole) → 1 ≤ t → (cond_reached (begins l t c) answers).phase ≡ Locking w → IsLockOf l t c w
locks_again l t c answers w pos is =
    let q = cond_reached (begins l t c) answers in
    let k = kept answers (begins l t c) in
    let h = reached_had l t c answers (Locking w) pos is in
    let e = h.1 in
    record {
      whole = subst IsWhole (sym e) (whole_lock q h.0 (subst (λ (u : ℕ). 1 ≤ u) (sym k.thread) pos) h.2);
      thread = ap (λ (z : Whole). z.thread) e ∙ k.thread;
      operation = ap (λ (z : Whole). z.operation) e;
      head = ap (λ (z : Whole). z.head) e ∙ k.head;
      entry = ap (λ (z : Whole). z.entry) e ∙ k.entry;
      cell = ap (λ (z : Whole). z.cell) e ∙ k.cell;
    }

-- all together
pub whole : WholeCallsAreRight
whole = record { points = has_points; permitted = first_permits; locks = locks_again }
