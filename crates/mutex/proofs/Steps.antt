-- What one step of a call tells beyond the object.
use Rattle.std.proofs.Common.{◌≡◌, ◌≢◌, ℕ, ◌+◌, ◌-◌, ◌<◌, ◌≤◌, ◌==◌, Bool, true, false, Option, Some, None, List, [], not, refl, sym, ap, ◌∙◌, subst, arith, eqb-true, bit_xor}
use Rattle.std.specs.Prelude.{if◌then◌else◌}
use Rattle.std.proofs.lemmas.Bool.{eqb-false}
use Rattle.lockword.specs.Cells.{Fields, fields_of, word_of, taken, waiting}
use Rattle.lockword.proofs.Bits.{xor_released, xor_spoiled, and_declared}
use Rattle.lockword.specs.Coding.{fields_of-word_of}
use Rattle.lockword.specs.declared.reply.Reply.{Reply}
use Rattle.lockword.specs.declared.reply.Reply.TheVariants.{OK, EPERM, EBUSY, EINVAL, EDEADLK, EOWNERDEAD, ENOTRECOVERABLE, XRACED}
use Rattle.stepprograms.specs.declared.access.Access.{Access}
use Rattle.stepprograms.specs.declared.access.Access.TheVariants as access
use Rattle.stepprograms.specs.declared.access.Answer.{Answer}
use Rattle.stepprograms.specs.declared.access.Answer.TheVariants.{Exchanged, Changed}
use Rattle.posixmutex.specs.declared.object.Object.{Object}
use Rattle.posixmutex.specs.declared.point.Operation.{Operation}
use Rattle.posixmutex.specs.declared.point.Operation.TheVariants as operation
use Rattle.posixmutex.specs.declared.point.Point.{Point}
use Rattle.stepprograms.specs.declared.program.Progress.TheVariants.{Goes, Returns}
use Rattle.stepprograms.specs.Accesses.{address_of, changed, answer_at, word_among, answer_among}
use Rattle.posixmutex.specs.Objects.{object_of}
use Rattle.posixmutex.proofs.Owners.{owner_of-is}
use Rattle.mutex.specs.declared.lock.LockRow.TheVariants as lock
use Rattle.mutex.specs.declared.try_lock.TryLockRow.TheVariants as try
use Rattle.mutex.specs.declared.unlock.UnlockRow.TheVariants as unlock
use Rattle.mutex.specs.declared.consistent.ConsistentRow.TheVariants as consistent
use Rattle.mutex.specs.declared.row.Row.{Row}
use Rattle.mutex.specs.declared.row.Row.TheVariants.{Lock, TryLock, Unlock, Consistent, Ended}
use Rattle.mutex.specs.Rows.{Knows, IsGoing, goes, decides, ends, acquired}
use Rattle.mutex.specs.Lock.{lock_sees}
use Rattle.mutex.specs.TryLock.{try_sees}
use Rattle.mutex.specs.Unlock.{released_bits, after_release, unlock_sees}
use Rattle.mutex.specs.Consistent.{consistent_sees}
use Rattle.mutex.specs.Programs.{row_access, resume_of, row_operation}
use Rattle.mutex.specs.Progresses.{progress_at}
use Rattle.mutex.specs.Laws.{Expects, Sound, Right, decided, IsOf}
use Rattle.mutex.specs.Steps.{IsStep, Minds, Tells, rank}
use Rattle.mutex.proofs.Rights.{right}
use Rattle.lockword.specs.Threads.{most_threads}

-- a call's accesses are at its cell
pub at_cell : (t cell : ℕ) (r : Row) → address_of (row_access t cell r) ≡ cell
at_cell t cell (Lock lock.Load) = refl
at_cell t cell (Lock (lock.Take v)) = refl
at_cell t cell (Lock (lock.SetWaiters v)) = refl
at_cell t cell (Lock (lock.Sleep v)) = refl
at_cell t cell (Lock lock.WakeAll) = refl
at_cell t cell (TryLock try.Load) = refl
at_cell t cell (TryLock (try.Take v k)) = refl
at_cell t cell (Unlock unlock.Load) = refl
at_cell t cell (Unlock (unlock.Release d)) = refl
at_cell t cell (Unlock (unlock.Wake a)) = refl
at_cell t cell (Unlock unlock.Trim) = refl
at_cell t cell (Consistent consistent.Load) = refl
at_cell t cell (Consistent consistent.Declare) = refl
at_cell t cell (Ended x) = refl

-- what follows a trylock's look at a cell
try_tells : (k : ℕ) (c : Fields) → Tells operation.TryLock (try_sees k c).row c
try_tells k c = go c.unusable (not (c.owner == 0)) (k == 4)
  where
    go : (u o f : Bool) → Tells operation.TryLock (if u then ends ENOTRECOVERABLE else if o then ends EBUSY else if f then ends XRACED else goes (TryLock (try.Take c k))).row c
    go true o f = tt
    go false true f = tt
    go false false true = tt
    go false false false = tt

-- it has fewer steps left
try_falls : (k : ℕ) (c : Fields) (n : ℕ) → 0 < n → (k < 4 → 5 - k < n) → k ≤ 4 → rank (try_sees k c).row < n
try_falls k c n some fewer last = go c.unusable (not (c.owner == 0)) (k == 4) refl
  where
    go : (u o f : Bool) → (k == 4) ≡ f → rank (if u then ends ENOTRECOVERABLE else if o then ends EBUSY else if f then ends XRACED else goes (TryLock (try.Take c k))).row < n
    go true o f e = some
    go false true f e = some
    go false false true e = some
    go false false false e = let other = eqb-false k 4 e in fewer (omega arith)

-- whoever takes a cell learns of no release
acquired_tells : (c d : Fields) → Tells operation.TryLock (Ended (acquired c)) d
acquired_tells c d = go c.died
  where
    go : (b : Bool) → Tells operation.TryLock (Ended (if b then EOWNERDEAD else OK)) d
    go true = tt
    go false = tt

take_minds : (t cell w : ℕ) (v : Fields) (k : ℕ) → t ≤ most_threads → Knows (TryLock (try.Take v k)) → (b : Bool) → (w == word_of v) ≡ b
    → Minds (TryLock (try.Take v k)) (resume_of t (TryLock (try.Take v k)) (if b then Exchanged else Changed w)) w (if b then word_of (taken v t) else w)
take_minds t cell w v k last known false miss = let few = known.2 in record {
  tells = try_tells (k + 1) (fields_of w);
  waiters = λ on. on;
  rest = λ none. none;
  falls = λ other. try_falls (k + 1) (fields_of w) (5 - k) (omega arith) (λ l. omega arith) (omega arith);
}
take_minds t cell w v k last known true hit =
    let few = known.2 in
    let free = known.0 in
    let before : fields_of w ≡ v = ap fields_of (eqb-true w (word_of v) hit) ∙ fields_of-word_of v (omega arith) in
    let after : fields_of (word_of (taken v t)) ≡ taken v t = fields_of-word_of (taken v t) (omega arith) in
    record {
      tells = acquired_tells v (fields_of w);
      waiters = λ on. ap (λ (c : Fields). c.waiters) after ∙ ap (λ (c : Fields). c.waiters) (sym before) ∙ on;
      rest = λ none. ap (λ (c : Fields). c.rest) after ∙ ap (λ (c : Fields). c.rest) (sym before) ∙ none;
      falls = λ other. (let e : 0 < 5 - k = omega arith in e);
    }

unlock_tells : (t : ℕ) (c : Fields) → Tells operation.Unlock (unlock_sees t c).row c
unlock_tells t c = go (c.owner == t)
  where
    go : (b : Bool) → Tells operation.Unlock (if b then goes (Unlock (unlock.Release c.died)) else ends EPERM).row c
    go true = tt
    go false = tt

unlock_falls : (t : ℕ) (c : Fields) → rank (unlock_sees t c).row < 2
unlock_falls t c = go (c.owner == t)
  where
    go : (b : Bool) → rank (if b then goes (Unlock (unlock.Release c.died)) else ends EPERM).row < 2
    go true = omega arith
    go false = omega arith

release_tells : (d : Bool) (c : Fields) → c.died ≡ d → Tells operation.Unlock (after_release d c) c
release_tells d c e = go c.waiters refl
  where
    go : (b : Bool) → c.waiters ≡ b → Tells operation.Unlock (if b then Unlock (unlock.Wake d) else Ended OK) c
    go true on = (on, e)
    go false off = off

release_falls : (d b : Bool) → rank (if b then Unlock (unlock.Wake d) else Ended OK) < 1
release_falls d true = omega arith
release_falls d false = omega arith

-- a release leaves WAITERS
release_waiters : (t w : ℕ) (d : Bool) → (fields_of w).owner ≡ t → (fields_of w).died ≡ d → (fields_of (bit_xor w (released_bits t d))).waiters ≡ (fields_of w).waiters
release_waiters t w true mine dead = ap (λ (c : Fields). c.waiters) (xor_spoiled w t mine dead)
release_waiters t w false mine alive = ap (λ (c : Fields). c.waiters) (xor_released w t mine)

release_rest : (t w : ℕ) (d : Bool) → (fields_of w).owner ≡ t → (fields_of w).died ≡ d → (fields_of (bit_xor w (released_bits t d))).rest ≡ (fields_of w).rest
release_rest t w true mine dead = ap (λ (c : Fields). c.rest) (xor_spoiled w t mine dead)
release_rest t w false mine alive = ap (λ (c : Fields). c.rest) (xor_released w t mine)

-- what follows a lock's look at a cell
sight_tells : (t : ℕ) (c : Fields) → Tells operation.Lock (lock_sees t c).row c
sight_tells t c = go c.unusable (c.owner == t) (c.owner == 0) c.waiters
  where
    go : (u m f w : Bool) → Tells operation.Lock (if u then decides (if w then Lock lock.WakeAll else Ended ENOTRECOVERABLE) ENOTRECOVERABLE else if m then ends EDEADLK else if f then goes (Lock (lock.Take c)) else if w then goes (Lock (lock.Sleep c)) else goes (Lock (lock.SetWaiters c))).row c
    go true m f true = tt
    go true m f false = tt
    go false true f w = tt
    go false false true w = tt
    go false false false true = tt
    go false false false false = tt

-- a lock takes the cell that it saw, or sets WAITERS in it
take_lock : (t cell w : ℕ) (v : Fields) → t ≤ most_threads → Knows (Lock (lock.Take v)) → (b : Bool) → (w == word_of v) ≡ b
    → Minds (Lock (lock.Take v)) (resume_of t (Lock (lock.Take v)) (if b then Exchanged else Changed w)) w (if b then word_of (taken v t) else w)
take_lock t cell w v last known false miss = record { tells = sight_tells t (fields_of w); waiters = λ on. on; rest = λ none. none; falls = λ other. absurd (other refl) }
take_lock t cell w v last known true hit =
    let free = known.0 in
    let before : fields_of w ≡ v = ap fields_of (eqb-true w (word_of v) hit) ∙ fields_of-word_of v (omega arith) in
    let after : fields_of (word_of (taken v t)) ≡ taken v t = fields_of-word_of (taken v t) (omega arith) in
    record {
      tells = tt;
      waiters = λ on. ap (λ (c : Fields). c.waiters) after ∙ ap (λ (c : Fields). c.waiters) (sym before) ∙ on;
      rest = λ none. ap (λ (c : Fields). c.rest) after ∙ ap (λ (c : Fields). c.rest) (sym before) ∙ none;
      falls = λ other. absurd (other refl);
    }

mark_lock : (t cell w : ℕ) (v : Fields) → Knows (Lock (lock.SetWaiters v)) → (b : Bool) → (w == word_of v) ≡ b
    → Minds (Lock (lock.SetWaiters v)) (resume_of t (Lock (lock.SetWaiters v)) (if b then Exchanged else Changed w)) w (if b then word_of (waiting v) else w)
mark_lock t cell w v known false miss = record { tells = sight_tells t (fields_of w); waiters = λ on. on; rest = λ none. none; falls = λ other. absurd (other refl) }
mark_lock t cell w v known true hit =
    let before : fields_of w ≡ v = ap fields_of (eqb-true w (word_of v) hit) ∙ fields_of-word_of v known.1 in
    let after : fields_of (word_of (waiting v)) ≡ waiting v = fields_of-word_of (waiting v) known.1 in
    record {
      tells = tt;
      waiters = λ on. ap (λ (c : Fields). c.waiters) after;
      rest = λ none. ap (λ (c : Fields). c.rest) after ∙ ap (λ (c : Fields). c.rest) (sym before) ∙ none;
      falls = λ other. absurd (other refl);
    }

consistent_falls : (t : ℕ) (c : Fields) → rank (consistent_sees t c).row < 2
consistent_falls t c = go (c.owner == t) c.died
  where
    go : (b d : Bool) → rank (if not b then ends EPERM else if d then goes (Consistent consistent.Declare) else ends EINVAL).row < 2
    go false d = omega arith
    go true true = omega arith
    go true false = omega arith

consistent_tells : (t : ℕ) (c : Fields) → Tells operation.Consistent (consistent_sees t c).row c
consistent_tells t c = go (c.owner == t) c.died
  where
    go : (b d : Bool) → Tells operation.Consistent (if not b then ends EPERM else if d then goes (Consistent consistent.Declare) else ends EINVAL).row c
    go false d = tt
    go true true = tt
    go true false = tt

-- each row in turn
pub minds : (t cell w : ℕ) (r : Row) → t ≤ most_threads → IsGoing r → IsStep (row_access t cell r) → Knows r → Expects t r (object_of (fields_of w))
    → Minds r (resume_of t r (answer_at (row_access t cell r) w)) w (changed (row_access t cell r) w)
minds t cell w (Lock lock.Load) last going step known expected = record { tells = sight_tells t (fields_of w); waiters = λ on. on; rest = λ none. none; falls = λ other. absurd (other refl) }
minds t cell w (Lock (lock.Take v)) last going step known expected = take_lock t cell w v last known (w == word_of v) refl
minds t cell w (Lock (lock.SetWaiters v)) last going step known expected = mark_lock t cell w v known (w == word_of v) refl
minds t cell w (Lock (lock.Sleep v)) last going step known expected = absurd step
minds t cell w (Lock lock.WakeAll) last going step known expected = absurd step
minds t cell w (TryLock try.Load) last going step known expected = record {
  tells = try_tells 0 (fields_of w);
  waiters = λ on. on;
  rest = λ none. none;
  falls = λ other. try_falls 0 (fields_of w) 6 (omega arith) (λ l. omega arith) (omega arith);
}
minds t cell w (TryLock (try.Take v k)) last going step known expected = take_minds t cell w v k last known (w == word_of v) refl
minds t cell w (Unlock unlock.Load) last going step known expected = record { tells = unlock_tells t (fields_of w); waiters = λ on. on; rest = λ none. none; falls = λ other. unlock_falls t (fields_of w) }
minds t cell w (Unlock (unlock.Release d)) last going step known expected =
    record {
      tells = release_tells d (fields_of w) expected.1;
      waiters = λ on. release_waiters t w d (owner_of-is (fields_of w).owner t expected.0) expected.1 ∙ on;
      rest = λ none. release_rest t w d (owner_of-is (fields_of w).owner t expected.0) expected.1 ∙ none;
      falls = λ other. release_falls d (fields_of w).waiters;
    }
minds t cell w (Unlock (unlock.Wake all)) last going step known expected = absurd step
minds t cell w (Unlock unlock.Trim) last going step known expected = absurd step
minds t cell w (Consistent consistent.Load) last going step known expected = record { tells = consistent_tells t (fields_of w); waiters = λ on. on; rest = λ none. none; falls = λ other. consistent_falls t (fields_of w) }
minds t cell w (Consistent consistent.Declare) last going step known expected =
    let d = and_declared w in
    record { tells = tt; waiters = λ on. d.waiters ∙ on; rest = d.rest; falls = λ other. (let e : 0 < 1 = omega arith in e) }
minds t cell w (Ended x) last going step known expected = absurd going

-- a step does what it does, and answers so, whoever sleeps
step_answer : (a : Access) (w : ℕ) (queue : List ℕ) → IsStep a → answer_among a w queue ≡ answer_at a w
step_answer (access.Load at) w queue step = refl
step_answer (access.Exchange at old new) w queue step = refl
step_answer (access.FetchXor at v) w queue step = refl
step_answer (access.FetchOr at v) w queue step = refl
step_answer (access.FetchAnd at v) w queue step = refl
step_answer a w queue step = absurd step

step_word : (a : Access) (w : ℕ) (queue : List ℕ) → IsStep a → word_among a w queue ≡ changed a w
step_word (access.Load at) w queue step = refl
step_word (access.Exchange at old new) w queue step = refl
step_word (access.FetchXor at v) w queue step = refl
step_word (access.FetchOr at v) w queue step = refl
step_word (access.FetchAnd at v) w queue step = refl
step_word a w queue step = absurd step

-- so the law of programs holds of it with no word of sleepers
pub right_step : (t cell w : ℕ) (r : Row) → 1 ≤ t → t ≤ most_threads → IsGoing r → IsStep (row_access t cell r) → Knows r → Sound (object_of (fields_of w)) → Expects t r (object_of (fields_of w))
    → Right t cell r (resume_of t r (answer_at (row_access t cell r) w)) w (changed (row_access t cell r) w)
right_step t cell w r pos last going step known sound expected =
    subst (λ (z : Answer × ℕ). Right t cell r (resume_of t r z.0) w z.1) (λ i. (step_answer (row_access t cell r) w [] step i, step_word (row_access t cell r) w [] step i)) (right t cell w [] r pos last going known sound expected)

-- what a row needs of the mutex is a matter of its owner's: where others leave an owned mutex alone, it stays so
pub carries : (t : ℕ) (r : Row) (o n : Object) → (o.owner ≡ Some t → n ≡ o) → Expects t r o → Expects t r n
carries t (Lock r) o n keep e = tt
carries t (TryLock r) o n keep e = tt
carries t (Unlock unlock.Load) o n keep e = tt
carries t (Unlock (unlock.Release d)) o n keep e = subst (λ (z : Object). (z.owner ≡ Some t) × (z.inconsistent ≡ d)) (sym (keep e.0)) e
carries t (Unlock (unlock.Wake a)) o n keep e = tt
carries t (Unlock unlock.Trim) o n keep e = tt
carries t (Consistent consistent.Load) o n keep e = tt
carries t (Consistent consistent.Declare) o n keep e = subst (λ (z : Object). (z.owner ≡ Some t) × (z.inconsistent ≡ true)) (sym (keep e.0)) e
carries t (Ended x) o n keep e = tt

-- who stands before a step has not decided yet
pub undecided : (t cell : ℕ) (r : Row) → IsGoing r → IsStep (row_access t cell r) → decided r ≡ None
undecided t cell (Lock lock.Load) going step = refl
undecided t cell (Lock (lock.Take v)) going step = refl
undecided t cell (Lock (lock.SetWaiters v)) going step = refl
undecided t cell (Lock (lock.Sleep v)) going step = refl
undecided t cell (Lock lock.WakeAll) going step = absurd step
undecided t cell (TryLock r) going step = refl
undecided t cell (Unlock unlock.Load) going step = refl
undecided t cell (Unlock (unlock.Release d)) going step = refl
undecided t cell (Unlock (unlock.Wake a)) going step = absurd step
undecided t cell (Unlock unlock.Trim) going step = absurd step
undecided t cell (Consistent r) going step = refl
undecided t cell (Ended x) going step = absurd going

pub of_going : (op : Operation) (r : Row) → IsGoing r → IsOf op r → row_operation r ≡ op
of_going op (Lock r) going of = of
of_going op (TryLock r) going of = of
of_going op (Unlock r) going of = of
of_going op (Consistent r) going of = of
of_going op (Ended x) going of = absurd going

pub of_itself : (r : Row) → IsOf (row_operation r) r
of_itself (Lock r) = refl
of_itself (TryLock r) = refl
of_itself (Unlock r) = refl
of_itself (Consistent r) = refl
of_itself (Ended x) = tt

pub undecided_going : (r : Row) → decided r ≡ None → IsGoing r
undecided_going (Lock r) none = tt
undecided_going (TryLock r) none = tt
undecided_going (Unlock r) none = tt
undecided_going (Consistent r) none = tt
undecided_going (Ended x) none = absurd (cc none)

-- each access of a trylock is a step
pub try_steps : (t cell : ℕ) (r : Row) → IsGoing r → IsOf operation.TryLock r → IsStep (row_access t cell r)
try_steps t cell (Lock r) going of = absurd (cc of)
try_steps t cell (TryLock try.Load) going of = tt
try_steps t cell (TryLock (try.Take v k)) going of = tt
try_steps t cell (Unlock r) going of = absurd (cc of)
try_steps t cell (Consistent r) going of = absurd (cc of)
try_steps t cell (Ended x) going of = absurd going

-- each access of an unlock but the wake and what follows it
pub unlock_steps : (t cell : ℕ) (r : Row) (c : Fields) → IsGoing r → IsOf operation.Unlock r → Tells operation.Unlock r c → ((at n : ℕ) → row_access t cell r ≡ access.Wake at n → ⊥) → IsStep (row_access t cell r)
unlock_steps t cell (Lock r) c going of tells other = absurd (cc of)
unlock_steps t cell (TryLock r) c going of tells other = absurd (cc of)
unlock_steps t cell (Unlock unlock.Load) c going of tells other = tt
unlock_steps t cell (Unlock (unlock.Release d)) c going of tells other = tt
unlock_steps t cell (Unlock (unlock.Wake a)) c going of tells other = absurd (other cell (if a then most_threads else 1) refl)
unlock_steps t cell (Unlock unlock.Trim) c going of tells other = absurd tells
unlock_steps t cell (Consistent r) c going of tells other = absurd (cc of)
unlock_steps t cell (Ended x) c going of tells other = absurd going

-- who wakes has made its release, which found what its row tells
pub wakes : (t cell at n : ℕ) (r : Row) (c : Fields) → IsGoing r → IsOf operation.Unlock r → row_access t cell r ≡ access.Wake at n → Tells operation.Unlock r c → (decided r ≡ Some OK) × (c.waiters ≡ true) × (n ≡ (if c.died then most_threads else 1))
wakes t cell at n (Lock r) c going of is tells = absurd (cc of)
wakes t cell at n (TryLock r) c going of is tells = absurd (cc of)
wakes t cell at n (Unlock unlock.Load) c going of is tells = absurd (cc is)
wakes t cell at n (Unlock (unlock.Release d)) c going of is tells = absurd (cc is)
wakes t cell at n (Unlock unlock.Trim) c going of is tells = absurd tells
wakes t cell at n (Unlock (unlock.Wake a)) c going of is tells = let e : (if a then most_threads else 1) ≡ n = cc is in (refl, tells.0, sym e ∙ ap (λ (b : Bool). if b then most_threads else 1) (sym tells.1))
wakes t cell at n (Consistent r) c going of is tells = absurd (cc of)
wakes t cell at n (Ended x) c going of is tells = absurd going

-- an unlock that doesn't end with OK is refused
pub unlock_refused : (x : Reply) (c : Fields) → Tells operation.Unlock (Ended x) c → x ≢ OK → x ≡ EPERM
unlock_refused OK c tells other = absurd (other refl)
unlock_refused EPERM c tells other = refl
unlock_refused x c tells other = absurd tells

-- a call that goes on, and one that returns
pub goes_on : (point q : Option Point) (r : Row) → progress_at point r ≡ Goes q → IsGoing r × (q ≡ point)
goes_on point q (Lock r) e = (tt, sym cc)
goes_on point q (TryLock r) e = (tt, sym cc)
goes_on point q (Unlock r) e = (tt, sym cc)
goes_on point q (Consistent r) e = (tt, sym cc)
goes_on point q (Ended x) e = absurd (cc e)

pub returned : (point q : Option Point) (r : Row) (x : Reply) → progress_at point r ≡ Returns x q → (r ≡ Ended x) × (q ≡ point)
returned point q (Lock r) x e = absurd (cc e)
returned point q (TryLock r) x e = absurd (cc e)
returned point q (Unlock r) x e = absurd (cc e)
returned point q (Consistent r) x e = absurd (cc e)
returned point q (Ended y) x e = (cc, sym cc)
