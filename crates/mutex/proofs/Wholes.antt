-- Whatever a whole call is answered, what it does to its mutex is what its row does.
use Rattle.std.proofs.Common.{◌≡◌, ℕ, ◌+◌, ◌≤◌, ◌==◌, ◌⊎◌, inl, inr, Bool, true, false, not, Option, Some, None, List, [], ◌∷◌, refl, sym, subst, arith}
use Rattle.std.specs.Prelude.{◌&&◌, if◌then◌else◌}
use Rattle.lockword.specs.Cells.{Fields, fields_of}
use Rattle.lockword.specs.declared.reply.Reply.{Reply}
use Rattle.lockword.specs.declared.reply.Reply.TheVariants.{OK, EPERM, EFAULT, EINVAL, EDEADLK, EOWNERDEAD, ENOTRECOVERABLE, XRACED}
use Rattle.stepprograms.specs.declared.access.Answer.{Answer}
use Rattle.stepprograms.specs.declared.access.Answer.TheVariants.{Value, Stored, Exchanged, Changed, Again, Woken, Count, Trimmed}
use Rattle.posixmutex.specs.declared.point.Operation.{Operation}
use Rattle.posixmutex.specs.declared.point.Operation.TheVariants as operation
use Rattle.memorymap.specs.Layouts.{Layout'}
use Rattle.robustlist.specs.declared.link.LinkRow.{LinkRow}
use Rattle.robustlist.specs.declared.link.LinkRow.TheVariants as link
use Rattle.robustlist.specs.declared.unlink.UnlinkRow.{UnlinkRow}
use Rattle.robustlist.specs.declared.unlink.UnlinkRow.TheVariants as unlink
use Rattle.robustlist.specs.Standings.{LinkStanding, UnlinkStanding}
use Rattle.robustlist.specs.Link.{link_moved}
use Rattle.robustlist.specs.Unlink.{unlink_moved}
use Rattle.mutex.specs.declared.call.Call.{Call}
use Rattle.mutex.specs.declared.call.Call.TheVariants as call
use Rattle.mutex.specs.declared.lock.LockRow.TheVariants as lock
use Rattle.mutex.specs.declared.try_lock.TryLockRow.TheVariants as try
use Rattle.mutex.specs.declared.unlock.UnlockRow.TheVariants as unlock
use Rattle.mutex.specs.declared.consistent.ConsistentRow.TheVariants as consistent
use Rattle.mutex.specs.declared.row.Row.{Row}
use Rattle.mutex.specs.declared.row.Row.TheVariants as row
use Rattle.mutex.specs.declared.phase.Phase.{Phase}
use Rattle.mutex.specs.declared.phase.Phase.TheVariants.{Announcing, AtCell, Linking, Unlinking, Clearing, Ended}
use Rattle.mutex.specs.Rows.{Knows, goes, decides, ends}
use Rattle.mutex.specs.Standings.{Whole}
use Rattle.mutex.specs.Lock.{lock_sees}
use Rattle.mutex.specs.Programs.{row_operation, resume_of}
use Rattle.mutex.specs.Laws.{met, changes, tells_change, IsOf, IsPermitted, PermitsAt}
use Rattle.mutex.specs.Whole.{begins, leaving, announced, after_cell, linked_at, unlinked_at, phase_led, whole_led, whole_moved}
use Rattle.mutex.specs.WholeLaws.{IsAt, IsWhole, WholeCallsAreRight, whole_reached, about_to_release}
use Rattle.mutex.proofs.Rights.{lock_looks, try_looks, unlock_looks, consistent_looks}
use Rattle.mutex.proofs.Races.{Met, ended_met, answered}
use Rattle.mutex.proofs.Replies.{permitted}

-- where a release goes on
after_knows : (d w : Bool) → Knows (if w then row.Unlock (unlock.Wake d) else row.Ended OK) × IsOf operation.Unlock (if w then row.Unlock (unlock.Wake d) else row.Ended OK)
after_knows d true = (tt, refl)
after_knows d false = (tt, tt)

-- where a wake goes on
trim_knows : (b : Bool) → Knows (if b then row.Unlock unlock.Trim else row.Ended OK) × IsOf operation.Unlock (if b then row.Unlock unlock.Trim else row.Ended OK)
trim_knows true = (tt, refl)
trim_knows false = (tt, tt)

-- whatever a call is answered at a row, its next row is of its operation, and knows what it needs
pub goes_on : (t : ℕ) (r : Row) (a : Answer) → 1 ≤ t → Knows r → Knows (resume_of t r a).row × IsOf (row_operation r) (resume_of t r a).row
goes_on t (row.Lock lock.Load) (Value w) pos k = let l = lock_looks t 0 (fields_of w) pos (omega arith) in (l.knows, l.stays)
goes_on t (row.Lock lock.Load) a pos k = (tt, tt)
goes_on t (row.Lock (lock.Take v)) Exchanged pos k = (tt, tt)
goes_on t (row.Lock (lock.Take v)) (Changed w) pos k = let l = lock_looks t 0 (fields_of w) pos (omega arith) in (l.knows, l.stays)
goes_on t (row.Lock (lock.Take v)) a pos k = (tt, tt)
goes_on t (row.Lock (lock.SetWaiters v)) Exchanged pos k = ((k, refl), refl)
goes_on t (row.Lock (lock.SetWaiters v)) (Changed w) pos k = let l = lock_looks t 0 (fields_of w) pos (omega arith) in (l.knows, l.stays)
goes_on t (row.Lock (lock.SetWaiters v)) a pos k = (tt, tt)
goes_on t (row.Lock (lock.Sleep v)) Again pos k = (tt, refl)
goes_on t (row.Lock (lock.Sleep v)) Woken pos k = (tt, refl)
goes_on t (row.Lock (lock.Sleep v)) a pos k = (tt, tt)
goes_on t (row.Lock lock.WakeAll) (Count n) pos k = (tt, tt)
goes_on t (row.Lock lock.WakeAll) a pos k = (tt, tt)
goes_on t (row.TryLock try.Load) (Value w) pos k = let l = try_looks t 0 0 (fields_of w) (omega arith) in (l.knows, l.stays)
goes_on t (row.TryLock try.Load) a pos k = (tt, tt)
goes_on t (row.TryLock (try.Take v n)) Exchanged pos k = (tt, tt)
goes_on t (row.TryLock (try.Take v n)) (Changed w) pos k = let few = k.2 in let l = try_looks t 0 (n + 1) (fields_of w) (omega arith) in (l.knows, l.stays)
goes_on t (row.TryLock (try.Take v n)) a pos k = (tt, tt)
goes_on t (row.Unlock unlock.Load) (Value w) pos k = let l = unlock_looks t 0 (fields_of w) pos in (l.knows, l.stays)
goes_on t (row.Unlock unlock.Load) a pos k = (tt, tt)
goes_on t (row.Unlock (unlock.Release d)) (Value w) pos k = after_knows d (fields_of w).waiters
goes_on t (row.Unlock (unlock.Release d)) a pos k = (tt, tt)
goes_on t (row.Unlock (unlock.Wake all)) (Count n) pos k = trim_knows (not all && (n == 0))
goes_on t (row.Unlock (unlock.Wake all)) a pos k = (tt, tt)
goes_on t (row.Unlock unlock.Trim) (Trimmed b) pos k = (tt, tt)
goes_on t (row.Unlock unlock.Trim) a pos k = (tt, tt)
goes_on t (row.Consistent consistent.Load) (Value w) pos k = let l = consistent_looks t 0 (fields_of w) pos in (l.knows, l.stays)
goes_on t (row.Consistent consistent.Load) a pos k = (tt, tt)
goes_on t (row.Consistent consistent.Declare) (Value w) pos k = (tt, tt)
goes_on t (row.Consistent consistent.Declare) a pos k = (tt, tt)
goes_on t (row.Ended x) a pos k = (tt, tt)

-- a call begins at a row of its operation
begins_whole : (l : Layout') (t : ℕ) (c : Call) → 1 ≤ t → IsWhole (begins l t c)
begins_whole l t (call.Lock m) pos = (pos, (tt, refl))
begins_whole l t (call.TimedLock m) pos = (pos, (tt, refl))
begins_whole l t (call.TryLock m) pos = (pos, (tt, refl))
begins_whole l t (call.Unlock m) pos = (pos, (tt, refl))
begins_whole l t (call.Consistent m) pos = (pos, (tt, refl))

-- finished with the cell a call is at no row
leaving_at : (p q : Whole) (op : Operation) (x : Reply) → IsAt q (leaving p op x)
leaving_at p q operation.Lock EFAULT = tt
leaving_at p q operation.Lock OK = tt
leaving_at p q operation.Lock EOWNERDEAD = tt
leaving_at p q operation.Lock x = tt
leaving_at p q operation.TryLock EFAULT = tt
leaving_at p q operation.TryLock OK = tt
leaving_at p q operation.TryLock EOWNERDEAD = tt
leaving_at p q operation.TryLock x = tt
leaving_at p q operation.Unlock EFAULT = tt
leaving_at p q operation.Unlock OK = tt
leaving_at p q operation.Unlock x = tt
leaving_at p q op EFAULT = tt
leaving_at p q op x = tt

-- from the cell a call q goes to a row of its operation
after_at : (p q : Whole) (r : Row) → Knows r → IsOf q.operation r → IsAt q (after_cell p r)
after_at p q (row.Ended x) k s = leaving_at p q p.operation x
after_at p q (row.Unlock (unlock.Release d)) k s = (tt, s)
after_at p q (row.Unlock unlock.Load) k s = (tt, s)
after_at p q (row.Unlock (unlock.Wake all)) k s = (tt, s)
after_at p q (row.Unlock unlock.Trim) k s = (tt, s)
after_at p q (row.Lock r) k s = (k, s)
after_at p q (row.TryLock r) k s = (k, s)
after_at p q (row.Consistent r) k s = (k, s)

-- and once its entry is pending
announced_at : (p q : Whole) (r : Row) → Knows r → row_operation r ≡ q.operation → IsAt q (announced p r)
announced_at p q (row.Unlock (unlock.Release d)) k s = sym s
announced_at p q (row.Unlock unlock.Load) k s = (tt, s)
announced_at p q (row.Unlock (unlock.Wake all)) k s = (tt, s)
announced_at p q (row.Unlock unlock.Trim) k s = (tt, s)
announced_at p q (row.Lock r) k s = (k, s)
announced_at p q (row.TryLock r) k s = (k, s)
announced_at p q (row.Consistent r) k s = (k, s)
announced_at p q (row.Ended x) k s = (tt, s)

link_at : (q : Whole) (x : Reply) (l : LinkStanding) (r : LinkRow) → IsAt q (linked_at x l r)
link_at q x l (link.Ended OK) = tt
link_at q x l (link.Ended y) = tt
link_at q x l r = tt

unlink_at : (q : Whole) (u : UnlinkStanding) (r : UnlinkRow) (d : Bool) → q.operation ≡ operation.Unlock → IsAt q (unlinked_at u r d)
unlink_at q u (unlink.Ended OK) d e = (tt, sym e)
unlink_at q u (unlink.Ended y) d e = tt
unlink_at q u r d e = e

-- each phase, each answer
kept_at : (p : Whole) (f g : Phase) (a : Answer) → 1 ≤ p.thread → IsAt p f → IsAt (record p { phase = g }) (phase_led p f a).phase
kept_at p (Announcing r) g Stored pos h = announced_at p (record p { phase = g }) r h.0 h.1
kept_at p (Announcing r) g a pos h = tt
kept_at p (AtCell r) g a pos h =
    let on = goes_on p.thread r a pos h.0 in
    after_at p (record p { phase = g }) (resume_of p.thread r a).row on.0 (subst (λ (op : Operation). IsOf op (resume_of p.thread r a).row) h.1 on.1)
kept_at p (Linking l x) g a pos h = link_at (record p { phase = g }) x (link_moved l a) (link_moved l a).row
kept_at p (Unlinking u d) g a pos h = unlink_at (record p { phase = g }) (unlink_moved u a) (unlink_moved u a).row d h
kept_at p (Clearing x) g Stored pos h = tt
kept_at p (Clearing x) g a pos h = tt
kept_at p (Ended x) g a pos h = tt

-- a call stays at rows of its operation
keeps_whole : (p : Whole) (a : Answer) → IsWhole p → IsWhole (whole_moved p (whole_led p a))
keeps_whole p a h = (h.0, kept_at p p.phase (whole_led p a).phase a h.0 h.1)

-- a phase that makes no point
no_point : (x : Reply) → None ≡ Some x → ⊥
no_point x e = cc

-- the point of each phase
point_at : (p : Whole) (f : Phase) (a : Answer) (x : Reply) → 1 ≤ p.thread → IsAt p f → (phase_led p f a).point ≡ Some x → (r : Row) × (f ≡ AtCell r) × PermitsAt (met r a) p.thread p.operation x
point_at p (Announcing r) Stored x pos h e = absurd (no_point x e)
point_at p (Announcing r) a x pos h e = absurd (no_point x e)
point_at p (AtCell r) a x pos h e = (r, refl, subst (λ (op : Operation). PermitsAt (met r a) p.thread op x) h.1 (permitted.at p.thread r a x pos h.0 e))
point_at p (Linking l y) a x pos h e = absurd (no_point x e)
point_at p (Unlinking u d) a x pos h e = absurd (no_point x e)
point_at p (Clearing y) Stored x pos h e = absurd (no_point x e)
point_at p (Clearing y) a x pos h e = absurd (no_point x e)
point_at p (Ended y) a x pos h e = absurd (no_point x e)

points_whole : (p : Whole) (a : Answer) (x : Reply) → IsWhole p → (whole_led p a).point ≡ Some x → (r : Row) × (p.phase ≡ AtCell r) × PermitsAt (met r a) p.thread p.operation x
points_whole p a x h e = point_at p p.phase a x h.0 h.1 e

-- no call that is finished with the cell is about to release
left_behind : (p : Whole) (op : Operation) (x : Reply) → about_to_release (leaving p op x) ≡ None
left_behind p operation.Lock EFAULT = refl
left_behind p operation.Lock OK = refl
left_behind p operation.Lock EOWNERDEAD = refl
left_behind p operation.Lock x = refl
left_behind p operation.TryLock EFAULT = refl
left_behind p operation.TryLock OK = refl
left_behind p operation.TryLock EOWNERDEAD = refl
left_behind p operation.TryLock x = refl
left_behind p operation.Unlock EFAULT = refl
left_behind p operation.Unlock OK = refl
left_behind p operation.Unlock x = refl
left_behind p op EFAULT = refl
left_behind p op x = refl

-- so nothing that is none is a release
none_is : (o : Option Bool) (d : Bool) → o ≡ None → o ≡ Some d → ⊥
none_is o d n e = cc

-- the note of a release
noted : (d e : Bool) → Some d ≡ Some e → d ≡ e
noted d e is = cc

-- from the cell a call goes to its release only at the row of a release
release_row : (p : Whole) (r : Row) (d : Bool) → about_to_release (after_cell p r) ≡ Some d → r ≡ row.Unlock (unlock.Release d)
release_row p (row.Ended x) d e = absurd (none_is (about_to_release (leaving p p.operation x)) d (left_behind p p.operation x) e)
release_row p (row.Unlock (unlock.Release c)) d e = let same = noted c d e in cc
release_row p (row.Unlock unlock.Load) d e = absurd cc
release_row p (row.Unlock (unlock.Wake all)) d e = absurd cc
release_row p (row.Unlock unlock.Trim) d e = absurd cc
release_row p (row.Lock r) d e = absurd cc
release_row p (row.TryLock r) d e = absurd cc
release_row p (row.Consistent r) d e = absurd cc

-- a link leads to no release
link_row : (x : Reply) (l : LinkStanding) (r : LinkRow) → about_to_release (linked_at x l r) ≡ None
link_row x l (link.Ended OK) = refl
link_row x l (link.Ended y) = refl
link_row x l r = refl

-- an unlink leads to the release that it was made for
unlink_row : (u : UnlinkStanding) (r : UnlinkRow) (c d : Bool) → about_to_release (unlinked_at u r c) ≡ Some d → Some c ≡ Some d
unlink_row u (unlink.Ended OK) c d e = e
unlink_row u (unlink.Ended y) c d e = absurd cc
unlink_row u r c d e = e

-- who announced goes on as it was about to
announced_row : (p : Whole) (r : Row) (d : Bool) → about_to_release (phase_led p (Announcing r) Stored).phase ≡ Some d → about_to_release (Announcing r) ≡ Some d
announced_row p (row.Unlock (unlock.Release c)) d e = e
announced_row p (row.Unlock unlock.Load) d e = absurd cc
announced_row p (row.Unlock (unlock.Wake all)) d e = absurd cc
announced_row p (row.Unlock unlock.Trim) d e = absurd cc
announced_row p (row.Lock r) d e = absurd cc
announced_row p (row.TryLock r) d e = absurd cc
announced_row p (row.Consistent r) d e = absurd cc
announced_row p (row.Ended x) d e = absurd cc

-- the release of each phase
release_at : (p : Whole) (f : Phase) (a : Answer) (d : Bool) → 1 ≤ p.thread → about_to_release (phase_led p f a).phase ≡ Some d →
    (about_to_release f ≡ Some d) ⊎ (r : Row) × (c : Fields) × (f ≡ AtCell r) × (met r a ≡ Some c) × IsPermitted c p.thread operation.Unlock OK × (c.died ≡ d)
release_at p (Announcing r) Stored d pos e = inl (announced_row p r d e)
release_at p (Announcing r) a d pos e = absurd cc
release_at p (AtCell r) a d pos e =
    let c = permitted.release p.thread r a d pos (release_row p (resume_of p.thread r a).row d e) in
    inr (r, c.0, refl, c.1, c.2, c.3)
release_at p (Linking l x) a d pos e = absurd (none_is (about_to_release (phase_led p (Linking l x) a).phase) d (link_row x (link_moved l a) (link_moved l a).row) e)
release_at p (Unlinking u c) a d pos e = inl (unlink_row (unlink_moved u a) (unlink_moved u a).row c d e)
release_at p (Clearing x) Stored d pos e = absurd cc
release_at p (Clearing x) a d pos e = absurd cc
release_at p (Ended x) a d pos e = absurd cc

releases_whole : (p : Whole) (a : Answer) (d : Bool) → IsWhole p → about_to_release (whole_led p a).phase ≡ Some d →
    (about_to_release p.phase ≡ Some d) ⊎ (r : Row) × (c : Fields) × (p.phase ≡ AtCell r) × (met r a ≡ Some c) × IsPermitted c p.thread operation.Unlock OK × (c.died ≡ d)
releases_whole p a d h e = release_at p p.phase a d h.0 e

-- what a row tells of the changed cells that its call met: a trylock's, and a raced call's
abbrev RowMet : Row → ℕ → Type 0
RowMet (row.TryLock r) n = Met (row.TryLock r) n
RowMet (row.Ended x) n = Met (row.Ended x) n
RowMet r n = Unit {0}

-- and a phase
abbrev PhaseMet : Phase → ℕ → Type 0
PhaseMet (Announcing r) n = RowMet r n
PhaseMet (AtCell r) n = RowMet r n
PhaseMet (Linking l x) n = Met (row.Ended x) n
PhaseMet (Unlinking u d) n = Unit {0}
PhaseMet (Clearing x) n = Met (row.Ended x) n
PhaseMet (Ended x) n = Met (row.Ended x) n

-- what a trylock tells
met_row : (r : Row) (n : ℕ) → Met r n → RowMet r n
met_row (row.Lock r) n h = tt
met_row (row.TryLock r) n h = h
met_row (row.Unlock r) n h = tt
met_row (row.Consistent r) n h = tt
met_row (row.Ended x) n h = h

-- further changes leave it so
row_more : (r : Row) (n m : ℕ) → RowMet r n → RowMet r (n + m)
row_more (row.Lock r) n m h = tt
row_more (row.TryLock try.Load) n m h = tt
row_more (row.TryLock (try.Take v k)) n m h = let so_far = h.1 in (h.0, omega arith)
row_more (row.Unlock r) n m h = tt
row_more (row.Consistent r) n m h = tt
row_more (row.Ended x) n m h = ended_met x n m h

-- a lock is never raced, nor an unlock, nor a declaration
lock_met : (t n : ℕ) (c : Fields) → RowMet (lock_sees t c).row n
lock_met t n c = go c.unusable (c.owner == t) (c.owner == 0) c.waiters
  where
    loss : (w : Bool) → RowMet (if w then row.Lock lock.WakeAll else row.Ended ENOTRECOVERABLE) n
    loss true = tt
    loss false = tt

    go : (u m f w : Bool) → RowMet (if u then decides (if w then row.Lock lock.WakeAll else row.Ended ENOTRECOVERABLE) ENOTRECOVERABLE else if m then ends EDEADLK else if f then goes (row.Lock (lock.Take c)) else if w then goes (row.Lock (lock.Sleep c)) else goes (row.Lock (lock.SetWaiters c))).row n
    go true m f w = loss w
    go false true f w = tt
    go false false true w = tt
    go false false false true = tt
    go false false false false = tt

took_met : (d : Bool) (n : ℕ) → RowMet (row.Ended (if d then EOWNERDEAD else OK)) n
took_met true n = tt
took_met false n = tt

release_met : (d w : Bool) (n : ℕ) → RowMet (if w then row.Unlock (unlock.Wake d) else row.Ended OK) n
release_met d true n = tt
release_met d false n = tt

trim_met : (b : Bool) (n : ℕ) → RowMet (if b then row.Unlock unlock.Trim else row.Ended OK) n
trim_met true n = tt
trim_met false n = tt

unlock_met : (b d : Bool) (n : ℕ) → RowMet (if b then goes (row.Unlock (unlock.Release d)) else ends EPERM).row n
unlock_met true d n = tt
unlock_met false d n = tt

consistent_met : (b d : Bool) (n : ℕ) → RowMet (if not b then ends EPERM else if d then goes (row.Consistent consistent.Declare) else ends EINVAL).row n
consistent_met false d n = tt
consistent_met true true n = tt
consistent_met true false n = tt

-- one answer more, at the cell
row_met : (t : ℕ) (r : Row) (a : Answer) (n : ℕ) → RowMet r n → RowMet (resume_of t r a).row (n + tells_change a)
row_met t (row.Lock lock.Load) (Value w) n h = lock_met t (n + 0) (fields_of w)
row_met t (row.Lock lock.Load) a n h = tt
row_met t (row.Lock (lock.Take v)) Exchanged n h = took_met v.died (n + 0)
row_met t (row.Lock (lock.Take v)) (Changed w) n h = lock_met t (n + 1) (fields_of w)
row_met t (row.Lock (lock.Take v)) a n h = tt
row_met t (row.Lock (lock.SetWaiters v)) Exchanged n h = tt
row_met t (row.Lock (lock.SetWaiters v)) (Changed w) n h = lock_met t (n + 1) (fields_of w)
row_met t (row.Lock (lock.SetWaiters v)) a n h = tt
row_met t (row.Lock (lock.Sleep v)) Again n h = tt
row_met t (row.Lock (lock.Sleep v)) Woken n h = tt
row_met t (row.Lock (lock.Sleep v)) a n h = tt
row_met t (row.Lock lock.WakeAll) (Count k) n h = tt
row_met t (row.Lock lock.WakeAll) a n h = tt
row_met t (row.TryLock r) a n h = met_row (resume_of t (row.TryLock r) a).row (n + tells_change a) (answered t (row.TryLock r) a n h)
row_met t (row.Unlock unlock.Load) (Value w) n h = unlock_met ((fields_of w).owner == t) (fields_of w).died (n + 0)
row_met t (row.Unlock unlock.Load) a n h = tt
row_met t (row.Unlock (unlock.Release d)) (Value w) n h = release_met d (fields_of w).waiters (n + 0)
row_met t (row.Unlock (unlock.Release d)) a n h = tt
row_met t (row.Unlock (unlock.Wake all)) (Count k) n h = trim_met (not all && (k == 0)) (n + 0)
row_met t (row.Unlock (unlock.Wake all)) a n h = tt
row_met t (row.Unlock unlock.Trim) (Trimmed b) n h = tt
row_met t (row.Unlock unlock.Trim) a n h = tt
row_met t (row.Consistent consistent.Load) (Value w) n h = consistent_met ((fields_of w).owner == t) (fields_of w).died (n + 0)
row_met t (row.Consistent consistent.Load) a n h = tt
row_met t (row.Consistent consistent.Declare) (Value w) n h = tt
row_met t (row.Consistent consistent.Declare) a n h = tt
row_met t (row.Ended x) a n h = ended_met x n (tells_change a) h

-- finished with the cell
leaving_met : (p : Whole) (op : Operation) (x : Reply) (n : ℕ) → Met (row.Ended x) n → PhaseMet (leaving p op x) n
leaving_met p operation.Lock EFAULT n h = tt
leaving_met p operation.Lock OK n h = tt
leaving_met p operation.Lock EOWNERDEAD n h = tt
leaving_met p operation.Lock x n h = h
leaving_met p operation.TryLock EFAULT n h = tt
leaving_met p operation.TryLock OK n h = tt
leaving_met p operation.TryLock EOWNERDEAD n h = tt
leaving_met p operation.TryLock x n h = h
leaving_met p operation.Unlock EFAULT n h = tt
leaving_met p operation.Unlock OK n h = tt
leaving_met p operation.Unlock x n h = h
leaving_met p op EFAULT n h = tt
leaving_met p op x n h = h

after_met : (p : Whole) (r : Row) (n : ℕ) → RowMet r n → PhaseMet (after_cell p r) n
after_met p (row.Ended x) n h = leaving_met p p.operation x n h
after_met p (row.Unlock (unlock.Release d)) n h = tt
after_met p (row.Unlock unlock.Load) n h = tt
after_met p (row.Unlock (unlock.Wake all)) n h = tt
after_met p (row.Unlock unlock.Trim) n h = tt
after_met p (row.Lock r) n h = tt
after_met p (row.TryLock r) n h = h
after_met p (row.Consistent r) n h = tt

announced_met : (p : Whole) (r : Row) (n : ℕ) → RowMet r n → PhaseMet (announced p r) n
announced_met p (row.Unlock (unlock.Release d)) n h = tt
announced_met p (row.Unlock unlock.Load) n h = tt
announced_met p (row.Unlock (unlock.Wake all)) n h = tt
announced_met p (row.Unlock unlock.Trim) n h = tt
announced_met p (row.Lock r) n h = tt
announced_met p (row.TryLock r) n h = h
announced_met p (row.Consistent r) n h = tt
announced_met p (row.Ended x) n h = h

link_met : (x : Reply) (l : LinkStanding) (r : LinkRow) (n : ℕ) → Met (row.Ended x) n → PhaseMet (linked_at x l r) n
link_met x l (link.Ended OK) n h = h
link_met x l (link.Ended y) n h = tt
link_met x l r n h = h

unlink_met : (u : UnlinkStanding) (r : UnlinkRow) (d : Bool) (n : ℕ) → PhaseMet (unlinked_at u r d) n
unlink_met u (unlink.Ended OK) d n = tt
unlink_met u (unlink.Ended y) d n = tt
unlink_met u r d n = tt

-- one answer more, anywhere
phase_met : (p : Whole) (f : Phase) (a : Answer) (n : ℕ) → PhaseMet f n → PhaseMet (phase_led p f a).phase (n + tells_change a)
phase_met p (Announcing r) Stored n h = announced_met p r (n + 0) (row_more r n 0 h)
phase_met p (Announcing r) a n h = tt
phase_met p (AtCell r) a n h = after_met p (resume_of p.thread r a).row (n + tells_change a) (row_met p.thread r a n h)
phase_met p (Linking l x) a n h = link_met x (link_moved l a) (link_moved l a).row (n + tells_change a) (ended_met x n (tells_change a) h)
phase_met p (Unlinking u d) a n h = unlink_met (unlink_moved u a) (unlink_moved u a).row d (n + tells_change a)
phase_met p (Clearing x) Stored n h = ended_met x n 0 h
phase_met p (Clearing x) a n h = tt
phase_met p (Ended x) a n h = ended_met x n (tells_change a) h

-- all answers
after : (answers : List Answer) (p : Whole) (n : ℕ) → PhaseMet p.phase n → (whole_reached p answers).phase ≡ Ended XRACED → 4 ≤ n + changes answers
after [] p n h is = let four : 4 ≤ n = subst (λ (f : Phase). PhaseMet f n) is h in omega arith
after (a ∷ answers) p n h is = let further = after answers (whole_moved p (whole_led p a)) (n + tells_change a) (phase_met p p.phase a n h) is in omega arith

begins_met : (l : Layout') (t : ℕ) (c : Call) → PhaseMet (begins l t c).phase 0
begins_met l t (call.Lock m) = tt
begins_met l t (call.TimedLock m) = tt
begins_met l t (call.TryLock m) = tt
begins_met l t (call.Unlock m) = tt
begins_met l t (call.Consistent m) = tt

-- from the begin on
raced_whole : (l : Layout') (t : ℕ) (c : Call) (answers : List Answer) → 1 ≤ t → (whole_reached (begins l t c) answers).phase ≡ Ended XRACED → 4 ≤ changes answers
raced_whole l t c answers pos is = let four = after answers (begins l t c) 0 (begins_met l t c) is in omega arith

-- all together
pub whole : WholeCallsAreRight
whole = record { begins_so = begins_whole; keeps = keeps_whole; points = points_whole; releases = releases_whole; raced = raced_whole }
