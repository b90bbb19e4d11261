-- Whatever a whole call is answered, it has one point, and returns EFAULT exactly after an answer that its access doesn't have.
use Rattle.std.proofs.Common.{◌≡◌, ◌≢◌, ◌⊎◌, inl, inr, ℕ, ◌+◌, ◌==◌, Bool, true, false, not, Option, Some, None, List, [], ◌∷◌, ◌++◌, refl, sym, ap, ◌∙◌, subst}
use Rattle.std.specs.Prelude.{◌&&◌, if◌then◌else◌}
use Rattle.lockword.specs.Cells.{Fields, fields_of}
use Rattle.lockword.specs.declared.reply.Reply.{Reply}
use Rattle.lockword.specs.declared.reply.Reply.TheVariants.{OK, EPERM, EBUSY, EINVAL, EFAULT, EDEADLK, EOWNERDEAD, ENOTRECOVERABLE, XRACED}
use Rattle.stepprograms.specs.declared.access.Access.{Access}
use Rattle.stepprograms.specs.declared.access.Access.TheVariants as access
use Rattle.stepprograms.specs.declared.access.Answer.{Answer}
use Rattle.stepprograms.specs.declared.access.Answer.TheVariants.{Value, Stored, Exchanged, Changed, Again, Woken, Count, Counts, Trimmed}
use Rattle.posixmutex.specs.declared.point.Operation.{Operation}
use Rattle.posixmutex.specs.declared.point.Operation.TheVariants as operation
use Rattle.stepprograms.specs.Accesses.{IsAnswerOf}
use Rattle.memorymap.specs.Layouts.{Layout'}
use Rattle.robustlist.specs.declared.link.LinkRow.{LinkRow}
use Rattle.robustlist.specs.declared.link.LinkRow.TheVariants as link
use Rattle.robustlist.specs.declared.unlink.UnlinkRow.{UnlinkRow}
use Rattle.robustlist.specs.declared.unlink.UnlinkRow.TheVariants as unlink
use Rattle.robustlist.specs.Standings.{LinkStanding, UnlinkStanding}
use Rattle.robustlist.specs.Link.{link_access, link_resume, link_moved, LinkGoes}
use Rattle.robustlist.specs.Unlink.{unlink_access, unlink_resume, unlink_moved, UnlinkGoes}
use Rattle.mutex.specs.declared.call.Call.{Call}
use Rattle.mutex.specs.declared.call.Call.TheVariants as call
use Rattle.mutex.specs.declared.lock.LockRow.TheVariants as lock
use Rattle.mutex.specs.declared.try_lock.TryLockRow.TheVariants as try
use Rattle.mutex.specs.declared.unlock.UnlockRow.TheVariants as unlock
use Rattle.mutex.specs.declared.consistent.ConsistentRow.TheVariants as consistent
use Rattle.mutex.specs.declared.row.Row.{Row}
use Rattle.mutex.specs.declared.row.Row.TheVariants as row
use Rattle.mutex.specs.declared.row.Led.{Led}
use Rattle.mutex.specs.declared.phase.Phase.{Phase}
use Rattle.mutex.specs.declared.phase.Phase.TheVariants.{Announcing, AtCell, Linking, Unlinking, Clearing, Ended}
use Rattle.mutex.specs.Rows.{IsGoing, goes, decides, ends, faults}
use Rattle.mutex.specs.Standings.{Whole}
use Rattle.mutex.specs.Lock.{lock_sees}
use Rattle.mutex.specs.TryLock.{try_sees}
use Rattle.mutex.specs.Unlock.{unlock_sees}
use Rattle.mutex.specs.Consistent.{consistent_sees}
use Rattle.mutex.specs.Programs.{row_access, resume_of}
use Rattle.mutex.specs.Laws.{decided, Joins}
use Rattle.mutex.specs.Whole.{begins, leaving, announced, after_cell, linked_at, linked, unlinked_at, unlinked, phase_access, phase_led, whole_access, whole_led, whole_moved, IsUnderWay}
use Rattle.mutex.specs.WholeLaws.{whole_reached}
use Rattle.mutex.specs.Decisions.{replies, decided_by}

-- ---- rows

-- an access that isn't answered a fault decides the call once, and not with EFAULT
abbrev Fine : Option Reply → Led → Type 0
Fine d l = Joins d l.point (decided l.row) × (l.point ≢ Some EFAULT)

no_fault : None ≢ Some EFAULT
no_fault e = cc

acquired_fine : (d : Bool) → Some (if d then EOWNERDEAD else OK) ≢ Some EFAULT
acquired_fine true e = cc
acquired_fine false e = cc

lock_fine : (t : ℕ) (c : Fields) → Fine None (lock_sees t c)
lock_fine t c = go c.unusable (c.owner == t) (c.owner == 0) c.waiters
  where
    loss : (w : Bool) → decided (if w then row.Lock lock.WakeAll else row.Ended ENOTRECOVERABLE) ≡ Some ENOTRECOVERABLE
    loss true = refl
    loss false = refl

    go : (u m f w : Bool) → Fine None (if u then decides (if w then row.Lock lock.WakeAll else row.Ended ENOTRECOVERABLE) ENOTRECOVERABLE else if m then ends EDEADLK else if f then goes (row.Lock (lock.Take c)) else if w then goes (row.Lock (lock.Sleep c)) else goes (row.Lock (lock.SetWaiters c)))
    go true m f w = (loss w, λ e. cc)
    go false true f w = (refl, λ e. cc)
    go false false true w = (refl, no_fault)
    go false false false true = (refl, no_fault)
    go false false false false = (refl, no_fault)

try_fine : (k : ℕ) (c : Fields) → Fine None (try_sees k c)
try_fine k c = go c.unusable (not (c.owner == 0)) (k == 4)
  where
    go : (u o f : Bool) → Fine None (if u then ends ENOTRECOVERABLE else if o then ends EBUSY else if f then ends XRACED else goes (row.TryLock (try.Take c k)))
    go true o f = (refl, λ e. cc)
    go false true f = (refl, λ e. cc)
    go false false true = (refl, λ e. cc)
    go false false false = (refl, no_fault)

unlock_fine : (t : ℕ) (c : Fields) → Fine None (unlock_sees t c)
unlock_fine t c = go (c.owner == t)
  where
    go : (b : Bool) → Fine None (if b then goes (row.Unlock (unlock.Release c.died)) else ends EPERM)
    go true = (refl, no_fault)
    go false = (refl, λ e. cc)

released_fine : (d w : Bool) → Fine None (decides (if w then row.Unlock (unlock.Wake d) else row.Ended OK) OK)
released_fine d true = (refl, λ e. cc)
released_fine d false = (refl, λ e. cc)

woken_fine : (b : Bool) → Fine (Some OK) (goes (if b then row.Unlock unlock.Trim else row.Ended OK))
woken_fine true = ((refl, refl), no_fault)
woken_fine false = ((refl, refl), no_fault)

consistent_fine : (t : ℕ) (c : Fields) → Fine None (consistent_sees t c)
consistent_fine t c = go (c.owner == t) c.died
  where
    go : (b d : Bool) → Fine None (if not b then ends EPERM else if d then goes (row.Consistent consistent.Declare) else ends EINVAL)
    go false d = (refl, λ e. cc)
    go true true = (refl, no_fault)
    go true false = (refl, λ e. cc)

row_fine : (t cell : ℕ) (r : Row) (a : Answer) → IsGoing r → IsAnswerOf (row_access t cell r) a → Fine (decided r) (resume_of t r a)
row_fine t cell (row.Lock lock.Load) (Value w) g h = lock_fine t (fields_of w)
row_fine t cell (row.Lock lock.Load) a g h = absurd h
row_fine t cell (row.Lock (lock.Take v)) Exchanged g h = (refl, acquired_fine v.died)
row_fine t cell (row.Lock (lock.Take v)) (Changed w) g h = lock_fine t (fields_of w)
row_fine t cell (row.Lock (lock.Take v)) a g h = absurd h
row_fine t cell (row.Lock (lock.SetWaiters v)) Exchanged g h = (refl, no_fault)
row_fine t cell (row.Lock (lock.SetWaiters v)) (Changed w) g h = lock_fine t (fields_of w)
row_fine t cell (row.Lock (lock.SetWaiters v)) a g h = absurd h
row_fine t cell (row.Lock (lock.Sleep v)) Again g h = (refl, no_fault)
row_fine t cell (row.Lock (lock.Sleep v)) Woken g h = (refl, no_fault)
row_fine t cell (row.Lock (lock.Sleep v)) a g h = absurd h
row_fine t cell (row.Lock lock.WakeAll) (Count n) g h = ((refl, refl), no_fault)
row_fine t cell (row.Lock lock.WakeAll) a g h = absurd h
row_fine t cell (row.TryLock try.Load) (Value w) g h = try_fine 0 (fields_of w)
row_fine t cell (row.TryLock try.Load) a g h = absurd h
row_fine t cell (row.TryLock (try.Take v k)) Exchanged g h = (refl, acquired_fine v.died)
row_fine t cell (row.TryLock (try.Take v k)) (Changed w) g h = try_fine (k + 1) (fields_of w)
row_fine t cell (row.TryLock (try.Take v k)) a g h = absurd h
row_fine t cell (row.Unlock unlock.Load) (Value w) g h = unlock_fine t (fields_of w)
row_fine t cell (row.Unlock unlock.Load) a g h = absurd h
row_fine t cell (row.Unlock (unlock.Release d)) (Value w) g h = released_fine d (fields_of w).waiters
row_fine t cell (row.Unlock (unlock.Release d)) a g h = absurd h
row_fine t cell (row.Unlock (unlock.Wake all)) (Count n) g h = woken_fine (not all && (n == 0))
row_fine t cell (row.Unlock (unlock.Wake all)) a g h = absurd h
row_fine t cell (row.Unlock unlock.Trim) (Trimmed b) g h = ((refl, refl), no_fault)
row_fine t cell (row.Unlock unlock.Trim) a g h = absurd h
row_fine t cell (row.Consistent consistent.Load) (Value w) g h = consistent_fine t (fields_of w)
row_fine t cell (row.Consistent consistent.Load) a g h = absurd h
row_fine t cell (row.Consistent consistent.Declare) (Value w) g h = (refl, λ e. cc)
row_fine t cell (row.Consistent consistent.Declare) a g h = absurd h
row_fine t cell (row.Ended x) a g h = absurd g

row_faults : (t cell : ℕ) (r : Row) (a : Answer) → IsGoing r → ¬ IsAnswerOf (row_access t cell r) a → resume_of t r a ≡ faults
row_faults t cell (row.Lock lock.Load) (Value w) g n = absurd (n tt)
row_faults t cell (row.Lock lock.Load) a g n = refl
row_faults t cell (row.Lock (lock.Take v)) Exchanged g n = absurd (n tt)
row_faults t cell (row.Lock (lock.Take v)) (Changed w) g n = absurd (n tt)
row_faults t cell (row.Lock (lock.Take v)) a g n = refl
row_faults t cell (row.Lock (lock.SetWaiters v)) Exchanged g n = absurd (n tt)
row_faults t cell (row.Lock (lock.SetWaiters v)) (Changed w) g n = absurd (n tt)
row_faults t cell (row.Lock (lock.SetWaiters v)) a g n = refl
row_faults t cell (row.Lock (lock.Sleep v)) Again g n = absurd (n tt)
row_faults t cell (row.Lock (lock.Sleep v)) Woken g n = absurd (n tt)
row_faults t cell (row.Lock (lock.Sleep v)) a g n = refl
row_faults t cell (row.Lock lock.WakeAll) (Count k) g n = absurd (n tt)
row_faults t cell (row.Lock lock.WakeAll) a g n = refl
row_faults t cell (row.TryLock try.Load) (Value w) g n = absurd (n tt)
row_faults t cell (row.TryLock try.Load) a g n = refl
row_faults t cell (row.TryLock (try.Take v k)) Exchanged g n = absurd (n tt)
row_faults t cell (row.TryLock (try.Take v k)) (Changed w) g n = absurd (n tt)
row_faults t cell (row.TryLock (try.Take v k)) a g n = refl
row_faults t cell (row.Unlock unlock.Load) (Value w) g n = absurd (n tt)
row_faults t cell (row.Unlock unlock.Load) a g n = refl
row_faults t cell (row.Unlock (unlock.Release d)) (Value w) g n = absurd (n tt)
row_faults t cell (row.Unlock (unlock.Release d)) a g n = refl
row_faults t cell (row.Unlock (unlock.Wake all)) (Count k) g n = absurd (n tt)
row_faults t cell (row.Unlock (unlock.Wake all)) a g n = refl
row_faults t cell (row.Unlock unlock.Trim) (Trimmed b) g n = absurd (n tt)
row_faults t cell (row.Unlock unlock.Trim) a g n = refl
row_faults t cell (row.Consistent consistent.Load) (Value w) g n = absurd (n tt)
row_faults t cell (row.Consistent consistent.Load) a g n = refl
row_faults t cell (row.Consistent consistent.Declare) (Value w) g n = absurd (n tt)
row_faults t cell (row.Consistent consistent.Declare) a g n = refl
row_faults t cell (row.Ended x) a g n = absurd g

-- an answer is one of its access, or not
either : (a : Access) (x : Answer) → IsAnswerOf a x ⊎ (¬ IsAnswerOf a x)
either (access.Load at) (Value w) = inl tt
either (access.Store at v) Stored = inl tt
either (access.Exchange at e n) Exchanged = inl tt
either (access.Exchange at e n) (Changed w) = inl tt
either (access.FetchXor at o) (Value w) = inl tt
either (access.FetchOr at o) (Value w) = inl tt
either (access.FetchAnd at o) (Value w) = inl tt
either (access.FetchAdd at o) (Value w) = inl tt
either (access.Wait at e) Again = inl tt
either (access.Wait at e) Woken = inl tt
either (access.Wake at n) (Count k) = inl tt
either (access.Requeue f n t m) (Counts k j) = inl tt
either (access.CmpRequeue f e n t m) (Counts k j) = inl tt
either (access.CmpRequeue f e n t m) Again = inl tt
either (access.Trim at) (Trimmed b) = inl tt
either a x = inr (λ h. h)

-- ---- what a call was decided by, in each phase

abbrev pub Once : Option Reply → List Reply → Type 0
Once None ds = ds ≡ []
Once (Some x) ds = (ds ≡ x ∷ []) × (x ≢ EFAULT)

abbrev pub DecidedSo : Phase → List Reply → Type 0
DecidedSo (Announcing r) ds = IsGoing r × Once (decided r) ds
DecidedSo (AtCell r) ds = IsGoing r × Once (decided r) ds
DecidedSo (Linking l x) ds = LinkGoes l.row × (ds ≡ x ∷ []) × (x ≢ EFAULT)
DecidedSo (Unlinking u d) ds = UnlinkGoes u.row × (ds ≡ [])
DecidedSo (Clearing x) ds = (ds ≡ x ∷ []) × (x ≢ EFAULT)
DecidedSo (Ended x) ds = x ≢ EFAULT → ds ≡ x ∷ []

nil_after : (ds : List Reply) → (ds ++ []) ≡ ds
nil_after [] = refl
nil_after (d ∷ ds) = ap (λ (es : List Reply). d ∷ es) (nil_after ds)

assoc : (a b c : List Reply) → ((a ++ b) ++ c) ≡ (a ++ (b ++ c))
assoc [] b c = refl
assoc (d ∷ a) b c = ap (λ (es : List Reply). d ∷ es) (assoc a b c)

-- no point
quiet : (f : Phase) (ds : List Reply) → DecidedSo f ds → DecidedSo f (ds ++ [])
quiet f ds h = subst (DecidedSo f) (sym (nil_after ds)) h

-- a point, or none
once_more : (d point d' : Option Reply) (ds : List Reply) → Once d ds → Joins d point d' → point ≢ Some EFAULT → Once d' (ds ++ replies point)
once_more None None d' ds once joins fine = subst (λ (o : Option Reply). Once o (ds ++ [])) (sym joins) (nil_after ds ∙ once)
once_more None (Some x) d' ds once joins fine = subst (λ (o : Option Reply). Once o (ds ++ x ∷ [])) (sym joins) (ap (λ (es : List Reply). es ++ x ∷ []) once, λ e. fine (ap (λ (y : Reply). Some y) e))
once_more (Some x) None d' ds once joins fine = subst (λ (o : Option Reply). Once o (ds ++ [])) (sym joins.1) (nil_after ds ∙ once.0, once.1)
once_more (Some x) (Some y) d' ds once joins fine = absurd (some_none y joins.0)
  where
    some_none : (z : Reply) → Some z ≡ None → ⊥
    some_none z e = cc

leaving_so : (p : Whole) (op : Operation) (x : Reply) (ds : List Reply) → ds ≡ x ∷ [] → x ≢ EFAULT → DecidedSo (leaving p op x) ds
leaving_so p op EFAULT ds e n = absurd (n refl)
leaving_so p operation.Lock OK ds e n = (tt, e, n)
leaving_so p operation.Lock EOWNERDEAD ds e n = (tt, e, n)
leaving_so p operation.Lock x ds e n = (e, n)
leaving_so p operation.TryLock OK ds e n = (tt, e, n)
leaving_so p operation.TryLock EOWNERDEAD ds e n = (tt, e, n)
leaving_so p operation.TryLock x ds e n = (e, n)
leaving_so p operation.Unlock OK ds e n = (e, n)
leaving_so p op x ds e n = λ m. e

after_so : (p : Whole) (r : Row) (ds : List Reply) → Once (decided r) ds → DecidedSo (after_cell p r) ds
after_so p (row.Ended x) ds h = leaving_so p p.operation x ds h.0 h.1
after_so p (row.Unlock (unlock.Release d)) ds h = (tt, h)
after_so p (row.Unlock unlock.Load) ds h = (tt, h)
after_so p (row.Unlock (unlock.Wake all)) ds h = (tt, h)
after_so p (row.Unlock unlock.Trim) ds h = (tt, h)
after_so p (row.Lock r) ds h = (tt, h)
after_so p (row.TryLock r) ds h = (tt, h)
after_so p (row.Consistent r) ds h = (tt, h)

leaving_fault : (p : Whole) (op : Operation) → leaving p op EFAULT ≡ Ended EFAULT
leaving_fault p operation.Lock = refl
leaving_fault p operation.TryLock = refl
leaving_fault p operation.Unlock = refl
leaving_fault p op = refl

-- a fault at the cell
cell_fault : (p : Whole) (r : Row) (a : Answer) → resume_of p.thread r a ≡ faults → after_cell p (resume_of p.thread r a).row ≡ Ended EFAULT
cell_fault p r a e = ap (λ (l : Led). after_cell p l.row) e ∙ leaving_fault p p.operation

announced_so : (p : Whole) (r : Row) (ds : List Reply) → IsGoing r → Once (decided r) ds → DecidedSo (announced p r) ds
announced_so p (row.Unlock (unlock.Release d)) ds g h = (tt, h)
announced_so p (row.Unlock unlock.Load) ds g h = (g, h)
announced_so p (row.Unlock (unlock.Wake all)) ds g h = (g, h)
announced_so p (row.Unlock unlock.Trim) ds g h = (g, h)
announced_so p (row.Lock r) ds g h = (g, h)
announced_so p (row.TryLock r) ds g h = (g, h)
announced_so p (row.Consistent r) ds g h = (g, h)
announced_so p (row.Ended x) ds g h = absurd g

linked_so : (x : Reply) (l : LinkStanding) (r : LinkRow) (ds : List Reply) → l.row ≡ r → ds ≡ x ∷ [] → x ≢ EFAULT → DecidedSo (linked_at x l r) ds
linked_so x l (link.Ended OK) ds is e n = (e, n)
linked_so x l (link.Ended y) ds is e n = λ m. absurd (m refl)
linked_so x l link.LoadFirst ds is e n = (subst LinkGoes (sym is) tt, e, n)
linked_so x l (link.StoreNext f) ds is e n = (subst LinkGoes (sym is) tt, e, n)
linked_so x l (link.StorePrevious f) ds is e n = (subst LinkGoes (sym is) tt, e, n)
linked_so x l (link.StoreBehind f) ds is e n = (subst LinkGoes (sym is) tt, e, n)
linked_so x l link.StoreFirst ds is e n = (subst LinkGoes (sym is) tt, e, n)

unlinked_so : (u : UnlinkStanding) (r : UnlinkRow) (d : Bool) (ds : List Reply) → u.row ≡ r → ds ≡ [] → DecidedSo (unlinked_at u r d) ds
unlinked_so u (unlink.Ended OK) d ds is e = (tt, e)
unlinked_so u (unlink.Ended y) d ds is e = λ m. absurd (m refl)
unlinked_so u unlink.LoadNext d ds is e = (subst UnlinkGoes (sym is) tt, e)
unlinked_so u (unlink.LoadPrevious n) d ds is e = (subst UnlinkGoes (sym is) tt, e)
unlinked_so u (unlink.StoreNext n q) d ds is e = (subst UnlinkGoes (sym is) tt, e)
unlinked_so u (unlink.StorePrevious n q) d ds is e = (subst UnlinkGoes (sym is) tt, e)

pub phase_so : (p : Whole) (f : Phase) (a : Answer) (ds : List Reply) → DecidedSo f ds → DecidedSo (phase_led p f a).phase (ds ++ replies (phase_led p f a).point)
phase_so p (Announcing r) Stored ds h = quiet (announced p r) ds (announced_so p r ds h.0 h.1)
phase_so p (Announcing r) a ds h = λ m. absurd (m refl)
phase_so p (AtCell r) a ds h = go (either (row_access p.thread p.cell r) a)
  where
    go : (IsAnswerOf (row_access p.thread p.cell r) a ⊎ (¬ IsAnswerOf (row_access p.thread p.cell r) a)) → DecidedSo (after_cell p (resume_of p.thread r a).row) (ds ++ replies (resume_of p.thread r a).point)
    go (inl is) =
        let fine = row_fine p.thread p.cell r a h.0 is in
        after_so p (resume_of p.thread r a).row (ds ++ replies (resume_of p.thread r a).point) (once_more (decided r) (resume_of p.thread r a).point (decided (resume_of p.thread r a).row) ds h.1 fine.0 fine.1)
    go (inr isnt) = subst (λ (g : Phase). DecidedSo g (ds ++ replies (resume_of p.thread r a).point)) (sym (cell_fault p r a (row_faults p.thread p.cell r a h.0 isnt))) (λ m. absurd (m refl))
phase_so p (Linking l x) a ds h = quiet (linked x (link_moved l a)) ds (linked_so x (link_moved l a) (link_moved l a).row ds refl h.1 h.2)
phase_so p (Unlinking u d) a ds h = quiet (unlinked (unlink_moved u a) d) ds (unlinked_so (unlink_moved u a) (unlink_moved u a).row d ds refl h.1)
phase_so p (Clearing x) Stored ds h = quiet (Ended x) ds (λ m. h.0)
phase_so p (Clearing x) a ds h = λ m. absurd (m refl)
phase_so p (Ended x) a ds h = quiet (Ended x) ds h

-- all answers
pub run_so : (answers : List Answer) (p : Whole) (ds : List Reply) → DecidedSo p.phase ds → DecidedSo (whole_reached p answers).phase (ds ++ decided_by p answers)
run_so [] p ds h = quiet p.phase ds h
run_so (a ∷ answers) p ds h =
    subst (DecidedSo (whole_reached p (a ∷ answers)).phase) (assoc ds (replies (whole_led p a).point) (decided_by (whole_moved p (whole_led p a)) answers))
    (run_so answers (whole_moved p (whole_led p a)) (ds ++ replies (whole_led p a).point) (phase_so p p.phase a ds h))

pub begins_so : (l : Layout') (t : ℕ) (c : Call) → DecidedSo (begins l t c).phase []
begins_so l t (call.Lock m) = (tt, refl)
begins_so l t (call.TimedLock m) = (tt, refl)
begins_so l t (call.TryLock m) = (tt, refl)
begins_so l t (call.Unlock m) = (tt, refl)
begins_so l t (call.Consistent m) = (tt, refl)

pub once : (l : Layout') (t : ℕ) (c : Call) (answers : List Answer) (x : Reply) → (whole_reached (begins l t c) answers).phase ≡ Ended x → x ≢ EFAULT → decided_by (begins l t c) answers ≡ x ∷ []
once l t c answers x is n = subst (λ (f : Phase). DecidedSo f (decided_by (begins l t c) answers)) is (run_so answers (begins l t c) [] (begins_so l t c)) n

-- ---- faults

link_faults : (h e : ℕ) (r : LinkRow) (a : Answer) → LinkGoes r → ¬ IsAnswerOf (link_access h e r) a → link_resume h r a ≡ link.Ended EFAULT
link_faults h e link.LoadFirst (Value f) g n = absurd (n tt)
link_faults h e link.LoadFirst a g n = refl
link_faults h e (link.StoreNext f) Stored g n = absurd (n tt)
link_faults h e (link.StoreNext f) a g n = refl
link_faults h e (link.StorePrevious f) Stored g n = absurd (n tt)
link_faults h e (link.StorePrevious f) a g n = refl
link_faults h e (link.StoreBehind f) Stored g n = absurd (n tt)
link_faults h e (link.StoreBehind f) a g n = refl
link_faults h e link.StoreFirst Stored g n = absurd (n tt)
link_faults h e link.StoreFirst a g n = refl
link_faults h e (link.Ended x) a g n = absurd g

pub unlink_faults : (h e : ℕ) (r : UnlinkRow) (a : Answer) → UnlinkGoes r → ¬ IsAnswerOf (unlink_access h e r) a → unlink_resume h r a ≡ unlink.Ended EFAULT
unlink_faults h e unlink.LoadNext (Value f) g n = absurd (n tt)
unlink_faults h e unlink.LoadNext a g n = refl
unlink_faults h e (unlink.LoadPrevious m) (Value f) g n = absurd (n tt)
unlink_faults h e (unlink.LoadPrevious m) a g n = refl
unlink_faults h e (unlink.StoreNext m q) Stored g n = absurd (n tt)
unlink_faults h e (unlink.StoreNext m q) a g n = refl
unlink_faults h e (unlink.StorePrevious m q) Stored g n = absurd (n tt)
unlink_faults h e (unlink.StorePrevious m q) a g n = refl
unlink_faults h e (unlink.Ended x) a g n = absurd g

pub phase_faults : (p : Whole) (f : Phase) (a : Answer) (ds : List Reply) → DecidedSo f ds → IsUnderWay f → ¬ IsAnswerOf (phase_access p f) a → (phase_led p f a).phase ≡ Ended EFAULT
phase_faults p (Announcing r) Stored ds h g n = absurd (n tt)
phase_faults p (Announcing r) a ds h g n = refl
phase_faults p (AtCell r) a ds h g n = cell_fault p r a (row_faults p.thread p.cell r a h.0 n)
phase_faults p (Linking l x) a ds h g n = ap (λ (r : LinkRow). linked_at x (link_moved l a) r) (link_faults l.head l.entry l.row a h.0 n)
phase_faults p (Unlinking u d) a ds h g n = ap (λ (r : UnlinkRow). unlinked_at (unlink_moved u a) r d) (unlink_faults u.head u.entry u.row a h.0 n)
phase_faults p (Clearing x) Stored ds h g n = absurd (n tt)
phase_faults p (Clearing x) a ds h g n = refl
phase_faults p (Ended x) a ds h g n = absurd g

pub faulted_calls : (l : Layout') (t : ℕ) (c : Call) (answers : List Answer) (a : Answer) → IsUnderWay (whole_reached (begins l t c) answers).phase → ¬ IsAnswerOf (whole_access (whole_reached (begins l t c) answers)) a
    → (whole_led (whole_reached (begins l t c) answers) a).phase ≡ Ended EFAULT
faulted_calls l t c answers a g n =
    let p = whole_reached (begins l t c) answers in
    phase_faults p p.phase a (decided_by (begins l t c) answers) (run_so answers (begins l t c) [] (begins_so l t c)) g n

-- ---- answers

-- it isn't a return with EFAULT
abbrev pub NoFault : Phase → Type 0
NoFault (Ended EFAULT) = ⊥
NoFault f = Unit {0}

no_fault_at : (f : Phase) → NoFault f → f ≢ Ended EFAULT
no_fault_at f h e = subst NoFault e h

leaving_fine : (p : Whole) (op : Operation) (x : Reply) → x ≢ EFAULT → NoFault (leaving p op x)
leaving_fine p op EFAULT n = absurd (n refl)
leaving_fine p operation.Lock OK n = tt
leaving_fine p operation.Lock EOWNERDEAD n = tt
leaving_fine p operation.Lock x n = tt
leaving_fine p operation.TryLock OK n = tt
leaving_fine p operation.TryLock EOWNERDEAD n = tt
leaving_fine p operation.TryLock x n = tt
leaving_fine p operation.Unlock OK n = tt
leaving_fine p op x n = ended_fine x n
  where
    ended_fine : (y : Reply) → y ≢ EFAULT → NoFault (Ended y)
    ended_fine EFAULT m = absurd (m refl)
    ended_fine y m = tt

after_fine : (p : Whole) (r : Row) (ds : List Reply) → Once (decided r) ds → NoFault (after_cell p r)
after_fine p (row.Ended x) ds h = leaving_fine p p.operation x h.1
after_fine p (row.Unlock (unlock.Release d)) ds h = tt
after_fine p (row.Unlock unlock.Load) ds h = tt
after_fine p (row.Unlock (unlock.Wake all)) ds h = tt
after_fine p (row.Unlock unlock.Trim) ds h = tt
after_fine p (row.Lock r) ds h = tt
after_fine p (row.TryLock r) ds h = tt
after_fine p (row.Consistent r) ds h = tt

announced_fine : (p : Whole) (r : Row) → NoFault (announced p r)
announced_fine p (row.Unlock (unlock.Release d)) = tt
announced_fine p (row.Unlock unlock.Load) = tt
announced_fine p (row.Unlock (unlock.Wake all)) = tt
announced_fine p (row.Unlock unlock.Trim) = tt
announced_fine p (row.Lock r) = tt
announced_fine p (row.TryLock r) = tt
announced_fine p (row.Consistent r) = tt
announced_fine p (row.Ended x) = tt

-- where an answered link goes it is linked, or goes on
abbrev LinkFine : LinkRow → Type 0
LinkFine (link.Ended OK) = Unit {0}
LinkFine (link.Ended y) = ⊥
LinkFine r = Unit {0}

link_fine : (h e : ℕ) (r : LinkRow) (a : Answer) → LinkGoes r → IsAnswerOf (link_access h e r) a → LinkFine (link_resume h r a)
link_fine h e link.LoadFirst (Value f) g is = tt
link_fine h e link.LoadFirst a g is = absurd is
link_fine h e (link.StoreNext f) Stored g is = tt
link_fine h e (link.StoreNext f) a g is = absurd is
link_fine h e (link.StorePrevious f) Stored g is = go (f == h)
  where
    go : (b : Bool) → LinkFine (if b then link.StoreFirst else link.StoreBehind f)
    go true = tt
    go false = tt
link_fine h e (link.StorePrevious f) a g is = absurd is
link_fine h e (link.StoreBehind f) Stored g is = tt
link_fine h e (link.StoreBehind f) a g is = absurd is
link_fine h e link.StoreFirst Stored g is = tt
link_fine h e link.StoreFirst a g is = absurd is
link_fine h e (link.Ended x) a g is = absurd g

linked_fine : (x : Reply) (l : LinkStanding) (r : LinkRow) → LinkFine r → NoFault (linked_at x l r)
linked_fine x l (link.Ended OK) h = tt
linked_fine x l (link.Ended y) h = absurd h
linked_fine x l r h = tt

abbrev pub UnlinkFine : UnlinkRow → Type 0
UnlinkFine (unlink.Ended OK) = Unit {0}
UnlinkFine (unlink.Ended y) = ⊥
UnlinkFine r = Unit {0}

pub unlink_fine : (h e : ℕ) (r : UnlinkRow) (a : Answer) → UnlinkGoes r → IsAnswerOf (unlink_access h e r) a → UnlinkFine (unlink_resume h r a)
unlink_fine h e unlink.LoadNext (Value f) g is = tt
unlink_fine h e unlink.LoadNext a g is = absurd is
unlink_fine h e (unlink.LoadPrevious m) (Value f) g is = tt
unlink_fine h e (unlink.LoadPrevious m) a g is = absurd is
unlink_fine h e (unlink.StoreNext m q) Stored g is = go (m == h)
  where
    go : (b : Bool) → UnlinkFine (if b then unlink.Ended OK else unlink.StorePrevious m q)
    go true = tt
    go false = tt
unlink_fine h e (unlink.StoreNext m q) a g is = absurd is
unlink_fine h e (unlink.StorePrevious m q) Stored g is = tt
unlink_fine h e (unlink.StorePrevious m q) a g is = absurd is
unlink_fine h e (unlink.Ended x) a g is = absurd g

unlinked_fine : (u : UnlinkStanding) (r : UnlinkRow) (d : Bool) → UnlinkFine r → NoFault (unlinked_at u r d)
unlinked_fine u (unlink.Ended OK) d h = tt
unlinked_fine u (unlink.Ended y) d h = absurd h
unlinked_fine u r d h = tt

pub phase_fine : (p : Whole) (f : Phase) (a : Answer) (ds : List Reply) → DecidedSo f ds → IsUnderWay f → IsAnswerOf (phase_access p f) a → NoFault (phase_led p f a).phase
phase_fine p (Announcing r) Stored ds h g is = announced_fine p r
phase_fine p (Announcing r) a ds h g is = absurd is
phase_fine p (AtCell r) a ds h g is =
    let fine = row_fine p.thread p.cell r a h.0 is in
    after_fine p (resume_of p.thread r a).row (ds ++ replies (resume_of p.thread r a).point) (once_more (decided r) (resume_of p.thread r a).point (decided (resume_of p.thread r a).row) ds h.1 fine.0 fine.1)
phase_fine p (Linking l x) a ds h g is = linked_fine x (link_moved l a) (link_moved l a).row (link_fine l.head l.entry l.row a h.0 is)
phase_fine p (Unlinking u d) a ds h g is = unlinked_fine (unlink_moved u a) (unlink_moved u a).row d (unlink_fine u.head u.entry u.row a h.0 is)
phase_fine p (Clearing x) Stored ds h g is = leaving_ended x h.1
  where
    leaving_ended : (y : Reply) → y ≢ EFAULT → NoFault (Ended y)
    leaving_ended EFAULT m = absurd (m refl)
    leaving_ended y m = tt
phase_fine p (Clearing x) a ds h g is = absurd is
phase_fine p (Ended x) a ds h g is = absurd g

pub answered_calls : (l : Layout') (t : ℕ) (c : Call) (answers : List Answer) (a : Answer) → IsUnderWay (whole_reached (begins l t c) answers).phase → IsAnswerOf (whole_access (whole_reached (begins l t c) answers)) a
    → (whole_led (whole_reached (begins l t c) answers) a).phase ≢ Ended EFAULT
answered_calls l t c answers a g is =
    let p = whole_reached (begins l t c) answers in
    no_fault_at (whole_led p a).phase (phase_fine p p.phase a (decided_by (begins l t c) answers) (run_so answers (begins l t c) [] (begins_so l t c)) g is)
