-- One access of a call is a step of the mutex as an object, and leaves what the next row needs.
use Rattle.std.proofs.Common.{◌≡◌, ◌≢◌, ℕ, ◌+◌, ◌<◌, ◌≤◌, ◌==◌, Bool, true, false, not, Option, Some, None, refl, sym, ap, ◌∙◌, subst, arith, eqb-true, bit_xor, bit_and}
use Rattle.std.specs.Prelude.{◌&&◌, ◌%◌, ◌^◌, length, take, if◌then◌else◌}
use Rattle.std.proofs.lemmas.Bool.{eqb-false}
use Rattle.lockword.specs.Cells.{Fields, fields_of, word_of, low_of, taken, waiting, waiters_alone}
use Rattle.lockword.specs.Coding.{fields_of-word_of}
use Rattle.lockword.proofs.Bits.{xor_released, xor_spoiled, and_declared}
use Rattle.lockword.specs.declared.reply.Reply.{Reply}
use Rattle.lockword.specs.declared.reply.Reply.TheVariants.{OK, EPERM, EBUSY, EINVAL, EDEADLK, EOWNERDEAD, ENOTRECOVERABLE, XRACED}
use Rattle.stepprograms.specs.declared.access.Answer.TheVariants.{Exchanged, Changed, Again, Woken}
use Rattle.posixmutex.specs.declared.point.Operation.{Operation}
use Rattle.posixmutex.specs.declared.point.Operation.TheVariants as operation
use Rattle.posixmutex.specs.declared.object.Object.{Object}
use Rattle.stepprograms.specs.Accesses.{is_trimmed}
use Rattle.stepprograms.proofs.Trims.{trims_free}
use Rattle.posixmutex.specs.Objects.{Permits, Run, object_of, owner_of, owned_by, freed, declared_consistent}
use Rattle.posixmutex.proofs.Owners.{owner_of-some, owner_of-is, owner_of-none}
use Rattle.mutex.specs.declared.lock.LockRow.TheVariants as lock
use Rattle.mutex.specs.declared.try_lock.TryLockRow.TheVariants as try
use Rattle.mutex.specs.declared.unlock.UnlockRow.TheVariants as unlock
use Rattle.mutex.specs.declared.consistent.ConsistentRow.TheVariants as consistent
use Rattle.mutex.specs.declared.row.Row.{Row}
use Rattle.mutex.specs.declared.row.Row.TheVariants.{Lock, TryLock, Unlock, Consistent, Ended}
use Rattle.mutex.specs.declared.row.Led.{Led}
use Rattle.mutex.specs.Rows.{Knows, goes, decides, ends, acquired}
use Rattle.mutex.specs.Lock.{after_loss, lock_sees}
use Rattle.mutex.specs.TryLock.{try_sees}
use Rattle.mutex.specs.Unlock.{released_bits, after_release, unlock_sees}
use Rattle.mutex.specs.Consistent.{all_but_owner_died, consistent_sees}
use Rattle.mutex.specs.Programs.{row_operation, point_of, resume_of}
use Rattle.mutex.specs.Laws.{Expects, Sound, points, decided, Joins, IsOf, Right, ProgramsAreRight}
use Rattle.lockword.specs.Threads.{most_threads}

-- what a call does with a cell that it only looks at
pub record Looks (t cell : ℕ) (op : Operation) (l : Led) (c : Fields) : Type 0 where
  pub runs : Run (object_of c) (points (point_of t cell op l.point)) (object_of c)
  pub knows : Knows l.row
  pub expects : Expects t l.row (object_of c)
  pub tells : Joins None l.point (decided l.row)
  pub stays : IsOf op l.row

-- an owner field that is not 0 names somebody
owned : (c : Fields) → c.owner ≢ 0 → owner_of c.owner ≢ None
owned c some none = some (owner_of-none c.owner none)

-- an owner field of 0 names nobody
free : (c : Fields) → c.owner ≡ 0 → owner_of c.owner ≡ None
free c e = ap owner_of e

-- what is not false is true
not_false : (b : Bool) → not b ≡ false → b ≡ true
not_false true e = refl
not_false false e = absurd cc

-- what is not true is false
not_true : (b : Bool) → not b ≡ true → b ≡ false
not_true true e = absurd cc
not_true false e = refl

-- trylock decides rightly on any cell
pub try_looks : (t cell k : ℕ) (c : Fields) → k ≤ 4 → Looks t cell operation.TryLock (try_sees k c) c
try_looks t cell k c few = go c.unusable refl (not (c.owner == 0)) refl (k == 4) refl
  where
    go : (u : Bool) → c.unusable ≡ u → (o : Bool) → not (c.owner == 0) ≡ o → (f : Bool) → (k == 4) ≡ f
        → Looks t cell operation.TryLock (if u then ends ENOTRECOVERABLE else if o then ends EBUSY else if f then ends XRACED else goes (TryLock (try.Take c k))) c
    go true eu o eo f ef = record { runs = (object_of c, (eu, refl), refl); knows = tt; expects = tt; tells = refl; stays = tt }
    go false eu true eo f ef = record { runs = (object_of c, (owned c (eqb-false c.owner 0 (not_true (c.owner == 0) eo)), refl), refl); knows = tt; expects = tt; tells = refl; stays = tt }
    go false eu false eo true ef = record { runs = (object_of c, (eu, free c (eqb-true c.owner 0 (not_false (c.owner == 0) eo)), refl), refl); knows = tt; expects = tt; tells = refl; stays = tt }
    go false eu false eo false ef =
        let less = eqb-false k 4 ef in
        record { runs = refl; knows = (eqb-true c.owner 0 (not_false (c.owner == 0) eo), eu, omega arith); expects = tt; tells = refl; stays = refl }

-- where a lock of an unusable mutex goes on
loss_knows : (b : Bool) → Knows (if b then Lock lock.WakeAll else Ended ENOTRECOVERABLE)
loss_knows true = tt
loss_knows false = tt

loss_expects : (t : ℕ) (b : Bool) (o : Object) → Expects t (if b then Lock lock.WakeAll else Ended ENOTRECOVERABLE) o
loss_expects t true o = tt
loss_expects t false o = tt

loss_tells : (b : Bool) → Joins None (Some ENOTRECOVERABLE) (decided (if b then Lock lock.WakeAll else Ended ENOTRECOVERABLE))
loss_tells true = refl
loss_tells false = refl

loss_stays : (b : Bool) → IsOf operation.Lock (if b then Lock lock.WakeAll else Ended ENOTRECOVERABLE)
loss_stays true = refl
loss_stays false = tt

-- lock decides rightly on any cell
pub lock_looks : (t cell : ℕ) (c : Fields) → 1 ≤ t → c.owner < 0x4000_0000 → Looks t cell operation.Lock (lock_sees t c) c
lock_looks t cell c pos small = go c.unusable refl (c.owner == t) refl (c.owner == 0) refl c.waiters refl
  where
    go : (u : Bool) → c.unusable ≡ u → (m : Bool) → (c.owner == t) ≡ m → (f : Bool) → (c.owner == 0) ≡ f → (w : Bool) → c.waiters ≡ w
        → Looks t cell operation.Lock (if u then decides (after_loss c) ENOTRECOVERABLE else if m then ends EDEADLK else if f then goes (Lock (lock.Take c)) else if w then goes (Lock (lock.Sleep c)) else goes (Lock (lock.SetWaiters c))) c
    go true eu m em f ef w ew = record { runs = (object_of c, (eu, refl), refl); knows = loss_knows c.waiters; expects = loss_expects t c.waiters (object_of c); tells = loss_tells c.waiters; stays = loss_stays c.waiters }
    go false eu true em f ef w ew = record { runs = (object_of c, (ap owner_of (eqb-true c.owner t em) ∙ owner_of-some t pos, refl), refl); knows = tt; expects = tt; tells = refl; stays = tt }
    go false eu false em true ef w ew = record { runs = refl; knows = (eqb-true c.owner 0 ef, eu); expects = tt; tells = refl; stays = refl }
    go false eu false em false ef true ew = let apart = eqb-false c.owner 0 ef in record { runs = refl; knows = ((omega arith, small), ew); expects = tt; tells = refl; stays = refl }
    go false eu false em false ef false ew = let apart = eqb-false c.owner 0 ef in record { runs = refl; knows = (omega arith, small); expects = tt; tells = refl; stays = refl }

-- a declaration is decided rightly on any cell
pub consistent_looks : (t cell : ℕ) (c : Fields) → 1 ≤ t → Looks t cell operation.Consistent (consistent_sees t c) c
consistent_looks t cell c pos = go (c.owner == t) refl c.died refl
  where
    go : (b : Bool) → (c.owner == t) ≡ b → (d : Bool) → c.died ≡ d → Looks t cell operation.Consistent (if not b then ends EPERM else if d then goes (Consistent consistent.Declare) else ends EINVAL) c
    go false e d ed = record { runs = (object_of c, (λ is. eqb-false c.owner t e (owner_of-is c.owner t is), refl), refl); knows = tt; expects = tt; tells = refl; stays = tt }
    go true e true ed = record { runs = refl; knows = tt; expects = (ap owner_of (eqb-true c.owner t e) ∙ owner_of-some t pos, ed); tells = refl; stays = refl }
    go true e false ed = record { runs = (object_of c, (ap owner_of (eqb-true c.owner t e) ∙ owner_of-some t pos, ed, refl), refl); knows = tt; expects = tt; tells = refl; stays = tt }

-- unlock decides rightly on any cell
pub unlock_looks : (t cell : ℕ) (c : Fields) → 1 ≤ t → Looks t cell operation.Unlock (unlock_sees t c) c
unlock_looks t cell c pos = go (c.owner == t) refl
  where
    go : (b : Bool) → (c.owner == t) ≡ b → Looks t cell operation.Unlock (if b then goes (Unlock (unlock.Release c.died)) else ends EPERM) c
    go true e = record { runs = refl; knows = tt; expects = (ap owner_of (eqb-true c.owner t e) ∙ owner_of-some t pos, refl); tells = refl; stays = refl }
    go false e = record { runs = (object_of c, (λ is. eqb-false c.owner t e (owner_of-is c.owner t is), refl), refl); knows = tt; expects = tt; tells = refl; stays = tt }

-- an access that changes nothing and decides rightly is right
looked : (t cell w : ℕ) (r : Row) (l : Led) → decided r ≡ None → Sound (object_of (fields_of w)) → Looks t cell (row_operation r) l (fields_of w) → Right t cell r l w w
looked t cell w r l none sound s = record {
  runs = s.runs;
  knows = s.knows;
  expects = s.expects;
  sound = sound;
  tells = subst (λ (d : Option Reply). Joins d l.point (decided l.row)) (sym none) s.tells;
  stays = s.stays;
}

-- a cell that was taken, as an object
taken_object : (t : ℕ) (c : Fields) → 1 ≤ t → object_of (taken c t) ≡ owned_by (object_of c) t
taken_object t c pos = λ i. record { owner = owner_of-some t pos i; inconsistent = c.died; unusable = c.unusable }

-- whoever takes a free and usable cell learns whether its owner died
pub takes : (t : ℕ) (c : Fields) → 1 ≤ t → c.owner ≡ 0 → c.unusable ≡ false → Permits (object_of c) t operation.TryLock (acquired c) (object_of (taken c t))
takes t c pos none usable = go c.died refl
  where
    go : (d : Bool) → c.died ≡ d → Permits (object_of c) t operation.TryLock (if d then EOWNERDEAD else OK) (object_of (taken c t))
    go true e = (usable, free c none, e, taken_object t c pos)
    go false e = (usable, free c none, e, taken_object t c pos)

pub locks : (t : ℕ) (c : Fields) → 1 ≤ t → c.owner ≡ 0 → c.unusable ≡ false → Permits (object_of c) t operation.Lock (acquired c) (object_of (taken c t))
locks t c pos none usable = go c.died refl
  where
    go : (d : Bool) → c.died ≡ d → Permits (object_of c) t operation.Lock (if d then EOWNERDEAD else OK) (object_of (taken c t))
    go true e = (usable, free c none, e, taken_object t c pos)
    go false e = (usable, free c none, e, taken_object t c pos)

-- a cell that was taken is that of a usable mutex
after_take : (t : ℕ) (c : Fields) → c.unusable ≡ false → Sound (object_of (taken c t))
after_take t c usable = λ u. absurd (cc (usable, u))

-- trylock's exchange is right, whether it met the cell that it saw or another
try_take : (t cell w : ℕ) (v : Fields) (k : ℕ) → 1 ≤ t → t ≤ most_threads → Knows (TryLock (try.Take v k)) → Sound (object_of (fields_of w)) → (b : Bool) → (w == word_of v) ≡ b
    → Right t cell (TryLock (try.Take v k)) (resume_of t (TryLock (try.Take v k)) (if b then Exchanged else Changed w)) w (if b then word_of (taken v t) else w)
try_take t cell w v k pos last known sound false miss =
    let few = known.2 in
    looked t cell w (TryLock (try.Take v k)) _ refl sound (try_looks t cell (k + 1) (fields_of w) (omega arith))
try_take t cell w v k pos last known sound true hit =
    let before : fields_of w ≡ v = ap fields_of (eqb-true w (word_of v) hit) ∙ fields_of-word_of v (let none = known.0 in omega arith) in
    let after : fields_of (word_of (taken v t)) ≡ taken v t = fields_of-word_of (taken v t) (omega arith) in
    record {
      runs = (
        object_of (taken v t),
        subst (λ (c : Fields). Permits (object_of c) t operation.TryLock (acquired v) (object_of (taken v t))) (sym before) (takes t v pos known.0 known.1),
        ap object_of after,
      );
      knows = tt;
      expects = tt;
      sound = subst (λ (c : Fields). Sound (object_of c)) (sym after) (after_take t v known.1);
      tells = refl;
      stays = tt;
    }

-- a word's owner field has 30 bits
small_owner : (w : ℕ) → (fields_of w).owner < 0x4000_0000
small_owner w = omega arith

-- lock's exchange is right, whether it met the cell that it saw or another
lock_take : (t cell w : ℕ) (v : Fields) → 1 ≤ t → t ≤ most_threads → Knows (Lock (lock.Take v)) → Sound (object_of (fields_of w)) → (b : Bool) → (w == word_of v) ≡ b
    → Right t cell (Lock (lock.Take v)) (resume_of t (Lock (lock.Take v)) (if b then Exchanged else Changed w)) w (if b then word_of (taken v t) else w)
lock_take t cell w v pos last known sound false miss = looked t cell w (Lock (lock.Take v)) _ refl sound (lock_looks t cell (fields_of w) pos (small_owner w))
lock_take t cell w v pos last known sound true hit =
    let before : fields_of w ≡ v = ap fields_of (eqb-true w (word_of v) hit) ∙ fields_of-word_of v (let none = known.0 in omega arith) in
    let after : fields_of (word_of (taken v t)) ≡ taken v t = fields_of-word_of (taken v t) (omega arith) in
    record {
      runs = (
        object_of (taken v t),
        subst (λ (c : Fields). Permits (object_of c) t operation.Lock (acquired v) (object_of (taken v t))) (sym before) (locks t v pos known.0 known.1),
        ap object_of after,
      );
      knows = tt;
      expects = tt;
      sound = subst (λ (c : Fields). Sound (object_of c)) (sym after) (after_take t v known.1);
      tells = refl;
      stays = tt;
    }

-- setting WAITERS changes nothing of the object
lock_wait : (t cell w : ℕ) (v : Fields) → 1 ≤ t → Knows (Lock (lock.SetWaiters v)) → Sound (object_of (fields_of w)) → (b : Bool) → (w == word_of v) ≡ b
    → Right t cell (Lock (lock.SetWaiters v)) (resume_of t (Lock (lock.SetWaiters v)) (if b then Exchanged else Changed w)) w (if b then word_of (waiting v) else w)
lock_wait t cell w v pos known sound false miss = looked t cell w (Lock (lock.SetWaiters v)) _ refl sound (lock_looks t cell (fields_of w) pos (small_owner w))
lock_wait t cell w v pos known sound true hit =
    let before : fields_of w ≡ v = ap fields_of (eqb-true w (word_of v) hit) ∙ fields_of-word_of v known.1 in
    let after : fields_of (word_of (waiting v)) ≡ waiting v = fields_of-word_of (waiting v) known.1 in
    let same : object_of (fields_of (word_of (waiting v))) ≡ object_of (fields_of w) = ap object_of after ∙ ap object_of (sym before) in
    record {
      runs = same;
      knows = (known, refl);
      expects = tt;
      sound = subst Sound (sym same) sound;
      tells = refl;
      stays = refl;
    }

-- a mutex with an owner is usable
usable_owned : (o : Object) (t : ℕ) → Sound o → o.owner ≡ Some t → (b : Bool) → o.unusable ≡ b → o.unusable ≡ false
usable_owned o t sound own true u = absurd (cc (sound u, own))
usable_owned o t sound own false u = u

-- what a release leaves
release_leaves : (t w : ℕ) (d : Bool) → 1 ≤ t → Sound (object_of (fields_of w)) → (object_of (fields_of w)).owner ≡ Some t → (fields_of w).died ≡ d
    → object_of (fields_of (bit_xor w (released_bits t d))) ≡ freed (object_of (fields_of w))
release_leaves t w true pos sound own dead =
    let c = fields_of w in
    let mine : c.owner ≡ t = owner_of-is c.owner t own in
    let usable : c.unusable ≡ false = usable_owned (object_of c) t sound own c.unusable refl in
    ap object_of (xor_spoiled w t mine dead) ∙ grind (arith, dead, usable)
release_leaves t w false pos sound own alive =
    let c = fields_of w in
    let mine : c.owner ≡ t = owner_of-is c.owner t own in
    ap object_of (xor_released w t mine) ∙ grind (arith, alive)

-- a release has the point, and what follows has none
release_tells : (t w : ℕ) (d : Bool) → Joins None (Some OK) (decided (after_release d (fields_of w)))
release_tells t w d = go (fields_of w).waiters
  where
    go : (b : Bool) → Joins None (Some OK) (decided (if b then Unlock (unlock.Wake d) else Ended OK))
    go true = refl
    go false = refl

-- what follows a release needs to know nothing
release_knows : (d b : Bool) → Knows (if b then Unlock (unlock.Wake d) else Ended OK)
release_knows d true = tt
release_knows d false = tt

-- what follows a release needs nothing of the mutex
release_expects : (t : ℕ) (d b : Bool) (o : Object) → Expects t (if b then Unlock (unlock.Wake d) else Ended OK) o
release_expects t d true o = tt
release_expects t d false o = tt

-- what follows a release is an unlock
release_stays : (d b : Bool) → IsOf operation.Unlock (if b then Unlock (unlock.Wake d) else Ended OK)
release_stays d true = refl
release_stays d false = tt

-- where a wake leads needs nothing
wake_leads : (t cell w : ℕ) (all b : Bool) → Sound (object_of (fields_of w)) → Right t cell (Unlock (unlock.Wake all)) (goes (if b then Unlock unlock.Trim else Ended OK)) w w
wake_leads t cell w all true sound = record { runs = refl; knows = tt; expects = tt; sound = sound; tells = (refl, refl); stays = refl }
wake_leads t cell w all false sound = record { runs = refl; knows = tt; expects = tt; sound = sound; tells = (refl, refl); stays = tt }

-- a cell that is trimmed was free and usable, and stays so
trim_leaves : (w : ℕ) (b : Bool) → (b ≡ true → w ≡ waiters_alone) → object_of (fields_of (if b then 0 else w)) ≡ object_of (fields_of w)
trim_leaves w true is = ap (λ (v : ℕ). object_of (fields_of v)) (sym (is refl))
trim_leaves w false is = refl

-- a sleep, whether or not it is one
sleep_leads : (t cell w : ℕ) (v : Fields) (b : Bool) → Sound (object_of (fields_of w)) → Right t cell (Lock (lock.Sleep v)) (resume_of t (Lock (lock.Sleep v)) (if b then Woken else Again)) w w
sleep_leads t cell w v true sound = looked t cell w (Lock (lock.Sleep v)) _ refl sound (record { runs = refl; knows = tt; expects = tt; tells = refl; stays = refl })
sleep_leads t cell w v false sound = looked t cell w (Lock (lock.Sleep v)) _ refl sound (record { runs = refl; knows = tt; expects = tt; tells = refl; stays = refl })

-- declaring an owned mutex consistent
declares : (t w : ℕ) → object_of (fields_of (bit_and w all_but_owner_died)) ≡ declared_consistent (object_of (fields_of w))
declares t w = let d = and_declared w in λ i. record { owner = owner_of (d.owner i); inconsistent = d.died i; unusable = d.unusable i }

-- each row in turn
pub right : ProgramsAreRight
right t cell w q (Lock lock.Load) pos last going known sound expected = looked t cell w (Lock lock.Load) _ refl sound (lock_looks t cell (fields_of w) pos (small_owner w))
right t cell w q (Lock (lock.Take v)) pos last going known sound expected = lock_take t cell w v pos last known sound (w == word_of v) refl
right t cell w q (Lock (lock.SetWaiters v)) pos last going known sound expected = lock_wait t cell w v pos known sound (w == word_of v) refl
right t cell w q (Lock (lock.Sleep v)) pos last going known sound expected = sleep_leads t cell w v (w % 2 ^ 32 == low_of v) sound
right t cell w q (Lock lock.WakeAll) pos last going known sound expected = record { runs = refl; knows = tt; expects = tt; sound = sound; tells = (refl, refl); stays = tt }
right t cell w q (TryLock try.Load) pos last going known sound expected = looked t cell w (TryLock try.Load) _ refl sound (try_looks t cell 0 (fields_of w) (omega arith))
right t cell w q (TryLock (try.Take v k)) pos last going known sound expected = try_take t cell w v k pos last known sound (w == word_of v) refl
right t cell w q (Unlock unlock.Load) pos last going known sound expected = looked t cell w (Unlock unlock.Load) _ refl sound (unlock_looks t cell (fields_of w) pos)
right t cell w q (Unlock (unlock.Release d)) pos last going known sound expected =
    let leaves = release_leaves t w d pos sound expected.0 expected.1 in
    record {
      runs = (freed (object_of (fields_of w)), (expected.0, refl), leaves);
      knows = release_knows d (fields_of w).waiters;
      expects = release_expects t d (fields_of w).waiters _;
      sound = subst Sound (sym leaves) (λ u. refl);
      tells = release_tells t w d;
      stays = release_stays d (fields_of w).waiters;
    }
right t cell w q (Unlock (unlock.Wake all)) pos last going known sound expected = wake_leads t cell w all (not all && (length (take (if all then most_threads else 1) q) == 0)) sound
right t cell w q (Unlock unlock.Trim) pos last going known sound expected =
    let leaves = trim_leaves w (is_trimmed w q) (trims_free w q) in
    record { runs = leaves; knows = tt; expects = tt; sound = subst Sound (sym leaves) sound; tells = (refl, refl); stays = tt }
right t cell w q (Consistent consistent.Load) pos last going known sound expected = looked t cell w (Consistent consistent.Load) _ refl sound (consistent_looks t cell (fields_of w) pos)
right t cell w q (Consistent consistent.Declare) pos last going known sound expected =
    let leaves = declares t w in
    record {
      runs = (declared_consistent (object_of (fields_of w)), (expected.0, expected.1, refl), leaves);
      knows = tt;
      expects = tt;
      sound = subst Sound (sym leaves) sound;
      tells = refl;
      stays = tt;
    }
right t cell w q (Ended x) pos last going known sound expected = absurd going
