use Rattle.mutex.proofs.laws.whole_calls_are_decided.Goals as goal
use Rattle.posixmutex.specs.declared.point.Operation.TheVariants as operation
use Rattle.robustlist.specs.declared.link.LinkRow.TheVariants as link
use Rattle.robustlist.specs.declared.unlink.UnlinkRow.TheVariants as unlink
use Rattle.mutex.specs.declared.call.Call.TheVariants as call
use Rattle.mutex.specs.declared.lock.LockRow.TheVariants as lock
use Rattle.mutex.specs.declared.try_lock.TryLockRow.TheVariants as try
use Rattle.mutex.specs.declared.unlock.UnlockRow.TheVariants as unlock
use Rattle.mutex.specs.declared.consistent.ConsistentRow.TheVariants as consistent
use Rattle.mutex.specs.declared.row.Row.TheVariants as row
use Rattle.std.proofs.Common.{◌≡◌, ℕ, ◌≤◌, Bool, Option, Some, None, List, [], ◌∷◌, refl, sym, subst}
use Rattle.lockword.specs.Cells.{Fields}
use Rattle.lockword.specs.declared.reply.Reply.{Reply}
use Rattle.lockword.specs.declared.reply.Reply.TheVariants.{OK, EFAULT, EOWNERDEAD}
use Rattle.stepprograms.specs.declared.access.Answer.{Answer}
use Rattle.stepprograms.specs.declared.access.Answer.TheVariants.{Value, Stored, Exchanged, Changed, Again, Woken}
use Rattle.stepprograms.specs.declared.access.Answer.TheVariants.{Count, Trimmed}
use Rattle.posixmutex.specs.declared.point.Operation.{Operation}
use Rattle.memorymap.specs.Layouts.{Layout'}
use Rattle.robustlist.specs.declared.link.LinkRow.{LinkRow}
use Rattle.robustlist.specs.declared.unlink.UnlinkRow.{UnlinkRow}
use Rattle.robustlist.specs.Standings.{LinkStanding, UnlinkStanding}
use Rattle.robustlist.specs.Link.{link_moved}
use Rattle.robustlist.specs.Unlink.{unlink_moved}
use Rattle.mutex.specs.declared.call.Call.{Call}
use Rattle.mutex.specs.declared.row.Row.{Row}
use Rattle.mutex.specs.declared.phase.Phase.{Phase}
use Rattle.mutex.specs.declared.phase.Phase.TheVariants.{Announcing, AtCell, Linking, Unlinking, Clearing, Ended}
use Rattle.mutex.specs.Rows.{Knows}
use Rattle.mutex.specs.Standings.{Whole}
use Rattle.mutex.specs.Programs.{row_operation, resume_of}
use Rattle.mutex.specs.Laws.{met, IsPermitted}
use Rattle.mutex.specs.Whole.{begins, leaving, announced, after_cell, linked_at, unlinked_at, phase_led, whole_led}
use Rattle.mutex.specs.Whole.{whole_moved}
use Rattle.mutex.specs.WholeLaws.{IsAt, IsWhole}
use Rattle.mutex.specs.Decisions.{met_in, or_before, IsPermittedFor, ArePermitted, WholeCallsAreDecided}
use Rattle.mutex.proofs.Replies.{permitted}
use Rattle.mutex.proofs.Wholes.{whole}
use Rattle.mutex.proofs.Once.{once, faulted_calls, answered_calls}

-- Whatever a whole call is answered, its point is permitted for the cell that it met last.

-- ---- what a call knows of the cell that it met last

-- it is one for which the object permits OK
abbrev HasMet : ℕ → Operation → Option Fields → Type 0
HasMet t op None = ⊥
HasMet t op (Some c) = IsPermitted c t op OK

-- a release and a declaration stand after such a cell
abbrev RowStands : ℕ → Row → Option Fields → Type 0
RowStands t (row.Unlock (unlock.Release d)) c = HasMet t operation.Unlock c
RowStands t (row.Consistent consistent.Declare) c = HasMet t operation.Consistent c
RowStands t r c = Unit {0}

abbrev Stands : ℕ → Phase → Option Fields → Type 0
Stands t (Announcing r) c = RowStands t r c
Stands t (AtCell r) c = RowStands t r c
Stands t (Unlinking u d) c = HasMet t operation.Unlock c
Stands t f c = Unit {0}

-- ---- rows

-- the object permits a reply for a cell that was met
abbrev Permitted : ℕ → Operation → Option Fields → Reply → Type 0
Permitted t op None x = ⊥
Permitted t op (Some c) x = IsPermitted c t op x

-- a point OK after such a cell
permitted_there : (t : ℕ) (op : Operation) (c : Option Fields) (x : Reply) → HasMet t op c → Some OK ≡ Some x → Permitted t op c x
permitted_there t op None x h e = absurd h
permitted_there t op (Some c) x h e = subst (λ (y : Reply). IsPermitted c t op y) (same OK x e) h
  where
    same : (y z : Reply) → Some y ≡ Some z → y ≡ z
    same y z is = cc

none_told : (x : Reply) {A : Type 0} → None ≡ Some x → A
none_told x e = absurd cc

row_point : (t : ℕ) (r : Row) (a : Answer) (x : Reply) (c : Option Fields) → 1 ≤ t → Knows r → RowStands t r c → (resume_of t r a).point ≡ Some x → Permitted t (row_operation r) (or_before (met r a) c) x
row_point t (row.Lock lock.Load) (Value w) x c pos k s e = permitted.at t (row.Lock lock.Load) (Value w) x pos k e
row_point t (row.Lock lock.Load) a x c pos k s e = none_told x e
row_point t (row.Lock (lock.Take v)) Exchanged x c pos k s e = permitted.at t (row.Lock (lock.Take v)) Exchanged x pos k e
row_point t (row.Lock (lock.Take v)) (Changed w) x c pos k s e = permitted.at t (row.Lock (lock.Take v)) (Changed w) x pos k e
row_point t (row.Lock (lock.Take v)) a x c pos k s e = none_told x e
row_point t (row.Lock (lock.SetWaiters v)) (Changed w) x c pos k s e = permitted.at t (row.Lock (lock.SetWaiters v)) (Changed w) x pos k e
row_point t (row.Lock (lock.SetWaiters v)) a x c pos k s e = none_told x e
row_point t (row.Lock (lock.Sleep v)) Again x c pos k s e = none_told x e
row_point t (row.Lock (lock.Sleep v)) Woken x c pos k s e = none_told x e
row_point t (row.Lock (lock.Sleep v)) a x c pos k s e = none_told x e
row_point t (row.Lock lock.WakeAll) (Count n) x c pos k s e = none_told x e
row_point t (row.Lock lock.WakeAll) a x c pos k s e = none_told x e
row_point t (row.TryLock try.Load) (Value w) x c pos k s e = permitted.at t (row.TryLock try.Load) (Value w) x pos k e
row_point t (row.TryLock try.Load) a x c pos k s e = none_told x e
row_point t (row.TryLock (try.Take v n)) Exchanged x c pos k s e = permitted.at t (row.TryLock (try.Take v n)) Exchanged x pos k e
row_point t (row.TryLock (try.Take v n)) (Changed w) x c pos k s e = permitted.at t (row.TryLock (try.Take v n)) (Changed w) x pos k e
row_point t (row.TryLock (try.Take v n)) a x c pos k s e = none_told x e
row_point t (row.Unlock unlock.Load) (Value w) x c pos k s e = permitted.at t (row.Unlock unlock.Load) (Value w) x pos k e
row_point t (row.Unlock unlock.Load) a x c pos k s e = none_told x e
row_point t (row.Unlock (unlock.Release d)) (Value w) x c pos k s e = permitted_there t operation.Unlock c x s e
row_point t (row.Unlock (unlock.Release d)) a x c pos k s e = none_told x e
row_point t (row.Unlock (unlock.Wake all)) (Count n) x c pos k s e = none_told x e
row_point t (row.Unlock (unlock.Wake all)) a x c pos k s e = none_told x e
row_point t (row.Unlock unlock.Trim) (Trimmed b) x c pos k s e = none_told x e
row_point t (row.Unlock unlock.Trim) a x c pos k s e = none_told x e
row_point t (row.Consistent consistent.Load) (Value w) x c pos k s e = permitted.at t (row.Consistent consistent.Load) (Value w) x pos k e
row_point t (row.Consistent consistent.Load) a x c pos k s e = none_told x e
row_point t (row.Consistent consistent.Declare) (Value w) x c pos k s e = permitted_there t operation.Consistent c x s e
row_point t (row.Consistent consistent.Declare) a x c pos k s e = none_told x e
row_point t (row.Ended y) a x c pos k s e = none_told x e

-- where an answer leads
row_stands : (t : ℕ) (r : Row) (a : Answer) (c : Option Fields) → 1 ≤ t → RowStands t (resume_of t r a).row (or_before (met r a) c)
row_stands t r a c pos = go (resume_of t r a).row refl
  where
    go : (z : Row) → (resume_of t r a).row ≡ z → RowStands t z (or_before (met r a) c)
    go (row.Unlock (unlock.Release d)) e = let l = permitted.release t r a d pos e in subst (λ (m : Option Fields). HasMet t operation.Unlock (or_before m c)) (sym l.1) l.2
    go (row.Unlock unlock.Load) e = tt
    go (row.Unlock (unlock.Wake all)) e = tt
    go (row.Unlock unlock.Trim) e = tt
    go (row.Consistent consistent.Declare) e = let l = permitted.declaration t r a pos e in subst (λ (m : Option Fields). HasMet t operation.Consistent (or_before m c)) (sym l.1) l.2
    go (row.Consistent consistent.Load) e = tt
    go (row.Lock z) e = tt
    go (row.TryLock z) e = tt
    go (row.Ended x) e = tt

-- ---- phases

leaving_stands : (t : ℕ) (p : Whole) (op : Operation) (x : Reply) (c : Option Fields) → Stands t (leaving p op x) c
leaving_stands t p operation.Lock EFAULT c = tt
leaving_stands t p operation.Lock OK c = tt
leaving_stands t p operation.Lock EOWNERDEAD c = tt
leaving_stands t p operation.Lock x c = tt
leaving_stands t p operation.TryLock EFAULT c = tt
leaving_stands t p operation.TryLock OK c = tt
leaving_stands t p operation.TryLock EOWNERDEAD c = tt
leaving_stands t p operation.TryLock x c = tt
leaving_stands t p operation.Unlock EFAULT c = tt
leaving_stands t p operation.Unlock OK c = tt
leaving_stands t p operation.Unlock x c = tt
leaving_stands t p op EFAULT c = tt
leaving_stands t p op x c = tt

after_stands : (t : ℕ) (p : Whole) (r : Row) (c : Option Fields) → RowStands t r c → Stands t (after_cell p r) c
after_stands t p (row.Ended x) c s = leaving_stands t p p.operation x c
after_stands t p (row.Unlock (unlock.Release d)) c s = s
after_stands t p (row.Unlock unlock.Load) c s = s
after_stands t p (row.Unlock (unlock.Wake all)) c s = s
after_stands t p (row.Unlock unlock.Trim) c s = s
after_stands t p (row.Lock r) c s = s
after_stands t p (row.TryLock r) c s = s
after_stands t p (row.Consistent r) c s = s

announced_stands : (t : ℕ) (p : Whole) (r : Row) (c : Option Fields) → RowStands t r c → Stands t (announced p r) c
announced_stands t p (row.Unlock (unlock.Release d)) c s = s
announced_stands t p (row.Unlock unlock.Load) c s = s
announced_stands t p (row.Unlock (unlock.Wake all)) c s = s
announced_stands t p (row.Unlock unlock.Trim) c s = s
announced_stands t p (row.Lock r) c s = s
announced_stands t p (row.TryLock r) c s = s
announced_stands t p (row.Consistent r) c s = s
announced_stands t p (row.Ended x) c s = s

link_stands : (t : ℕ) (x : Reply) (l : LinkStanding) (r : LinkRow) (c : Option Fields) → Stands t (linked_at x l r) c
link_stands t x l (link.Ended OK) c = tt
link_stands t x l (link.Ended y) c = tt
link_stands t x l r c = tt

unlink_stands : (t : ℕ) (u : UnlinkStanding) (r : UnlinkRow) (d : Bool) (c : Option Fields) → HasMet t operation.Unlock c → Stands t (unlinked_at u r d) c
unlink_stands t u (unlink.Ended OK) d c s = s
unlink_stands t u (unlink.Ended y) d c s = tt
unlink_stands t u r d c s = s

phase_stands : (p : Whole) (f : Phase) (a : Answer) (c : Option Fields) → 1 ≤ p.thread → Stands p.thread f c → Stands p.thread (phase_led p f a).phase (or_before (met_in f a) c)
phase_stands p (Announcing r) Stored c pos s = announced_stands p.thread p r c s
phase_stands p (Announcing r) a c pos s = tt
phase_stands p (AtCell r) a c pos s = after_stands p.thread p (resume_of p.thread r a).row (or_before (met r a) c) (row_stands p.thread r a c pos)
phase_stands p (Linking l x) a c pos s = link_stands p.thread x (link_moved l a) (link_moved l a).row c
phase_stands p (Unlinking u d) a c pos s = unlink_stands p.thread (unlink_moved u a) (unlink_moved u a).row d c s
phase_stands p (Clearing x) Stored c pos s = tt
phase_stands p (Clearing x) a c pos s = tt
phase_stands p (Ended x) a c pos s = tt

told_for : (p : Whole) (c : Option Fields) (x : Reply) → Permitted p.thread p.operation c x → IsPermittedFor p c (Some x)
told_for p None x h = h
told_for p (Some c) x h = h

phase_point : (p : Whole) (f : Phase) (a : Answer) (x : Reply) (c : Option Fields) → 1 ≤ p.thread → IsAt p f → Stands p.thread f c → (phase_led p f a).point ≡ Some x → IsPermittedFor p (or_before (met_in f a) c) (Some x)
phase_point p (Announcing r) Stored x c pos h s e = none_told x e
phase_point p (Announcing r) a x c pos h s e = none_told x e
phase_point p (AtCell r) a x c pos h s e =
    told_for p (or_before (met r a) c) x (subst (λ (op : Operation). Permitted p.thread op (or_before (met r a) c) x) h.1 (row_point p.thread r a x c pos h.0 s e))
phase_point p (Linking l y) a x c pos h s e = none_told x e
phase_point p (Unlinking u d) a x c pos h s e = none_told x e
phase_point p (Clearing y) Stored x c pos h s e = none_told x e
phase_point p (Clearing y) a x c pos h s e = none_told x e
phase_point p (Ended y) a x c pos h s e = none_told x e

-- ---- all answers

are_permitted : (answers : List Answer) (p : Whole) (c : Option Fields) → IsWhole p → Stands p.thread p.phase c → ArePermitted p c answers
are_permitted [] p c h s = tt
are_permitted (a ∷ answers) p c h s = (
  point (whole_led p a).point refl,
  are_permitted answers (whole_moved p (whole_led p a)) (or_before (met_in p.phase a) c) (whole.keeps p a h) (phase_stands p p.phase a c h.0 s),
)
  where
    point : (o : Option Reply) → (whole_led p a).point ≡ o → IsPermittedFor p (or_before (met_in p.phase a) c) o
    point None e = tt
    point (Some x) e = phase_point p p.phase a x c h.0 h.1 s e

begins_stands : (t : ℕ) (c : Call) → (l : Layout') → Stands t (begins l t c).phase None
begins_stands t (call.Lock m) l = tt
begins_stands t (call.TimedLock m) l = tt
begins_stands t (call.TryLock m) l = tt
begins_stands t (call.Unlock m) l = tt
begins_stands t (call.Consistent m) l = tt

decided_calls : WholeCallsAreDecided
decided_calls = record {
  once = once;
  faulted = faulted_calls;
  answered = answered_calls;
  permitted = λ l t c answers pos. are_permitted answers (begins l t c) None (whole.begins_so l t c pos) (begins_stands t c l);
}

pub returns : goal.returns
returns c = decided_calls
