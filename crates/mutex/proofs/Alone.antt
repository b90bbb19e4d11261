-- What a call does while no other thread steps.
use Rattle.std.proofs.Common.{◌≡◌, ◌≢◌, ℕ, ◌+◌, ◌-◌, ◌%◌, ◌^◌, ◌<◌, ◌≤◌, ◌==◌, Bool, true, false, not, Some, List, [], ◌⊎◌, inl, inr, refl, sym, ap, ◌∙◌, subst, arith, eq-eqb, eqb-true}
use Rattle.std.specs.Prelude.{◌&&◌, length, take, if◌then◌else◌}
use Rattle.std.proofs.lemmas.Bool.{eqb-false}
use Rattle.lockword.specs.Cells.{Fields, fields_of, word_of, low_of, taken, waiting, waiters_alone}
use Rattle.lockword.specs.Coding.{fields_of-word_of, word_of-fields_of}
use Rattle.lockword.proofs.Bits.{xor_released, xor_spoiled, and_declared, low_alike}
use Rattle.lockword.specs.declared.reply.Reply.TheVariants.{OK, EPERM, EBUSY, EINVAL, EDEADLK, EOWNERDEAD, ENOTRECOVERABLE, XRACED}
use Rattle.stepprograms.specs.declared.access.Answer.TheVariants.{Exchanged, Changed, Again, Woken}
use Rattle.stepprograms.specs.declared.access.Access.TheVariants as access
use Rattle.stepprograms.specs.Accesses.{word_among, answer_among, is_trimmed}
use Rattle.stepprograms.proofs.Trims.{trims_free, trims_unslept}
use Rattle.posixmutex.specs.Objects.{object_of}
use Rattle.posixmutex.proofs.Owners.{owner_of-is}
use Rattle.mutex.specs.declared.lock.LockRow.TheVariants as lock
use Rattle.mutex.specs.declared.try_lock.TryLockRow.TheVariants as try
use Rattle.mutex.specs.declared.unlock.UnlockRow.TheVariants as unlock
use Rattle.mutex.specs.declared.consistent.ConsistentRow.TheVariants as consistent
use Rattle.mutex.specs.declared.row.Row.{Row}
use Rattle.mutex.specs.declared.row.Row.TheVariants.{Lock, TryLock, Unlock, Consistent, Ended}
use Rattle.mutex.specs.Rows.{Knows, IsGoing, goes, decides, ends, acquired}
use Rattle.mutex.specs.Lock.{lock_sees}
use Rattle.mutex.specs.TryLock.{try_sees}
use Rattle.mutex.specs.Unlock.{released_bits, unlock_sees}
use Rattle.mutex.specs.Consistent.{consistent_sees}
use Rattle.mutex.specs.Programs.{row_access, resume_of}
use Rattle.mutex.specs.Laws.{Expects}
use Rattle.mutex.specs.Alone.{answers_for, left, Steady, Alone}
use Rattle.lockword.specs.Threads.{most_threads}

-- a word is that of the cell that it says
same_word : (w : ℕ) → (w == word_of (fields_of w)) ≡ true
same_word w = eq-eqb w (word_of (fields_of w)) (sym (word_of-fields_of w))

same_low : (w : ℕ) → (w % 2 ^ 32 == low_of (fields_of w)) ≡ true
same_low w = eq-eqb (w % 2 ^ 32) (low_of (fields_of w)) (ap (λ (v : ℕ). v % 2 ^ 32) (sym (word_of-fields_of w)))

-- a test that is true picks its first arm, one that is false the second
picks : (b : Bool) (x y : ℕ) → b ≡ true → (if b then x else y) ≡ x
picks true x y e = refl
picks false x y e = absurd cc

misses : (b : Bool) (x y : ℕ) → b ≡ false → (if b then x else y) ≡ y
misses true x y e = absurd cc
misses false x y e = refl

-- ---- a lock that looks at a cell
record Looked (t : ℕ) (r : Row) (w : ℕ) : Type 0 where
  fewer : left r w < 3
  answers : (fields_of w).owner ≡ 0 → (fields_of w).waiters ≡ true → answers_for r ≡ true
  steady : Steady t r w

lock_looked : (t w : ℕ) → 1 ≤ t → Looked t (lock_sees t (fields_of w)).row w
lock_looked t w pos = go c.unusable (c.owner == t) refl (c.owner == 0) refl c.waiters refl
  where
    c : Fields
    c = fields_of w

    loss : (b : Bool) → c.waiters ≡ b → Looked t (if b then Lock lock.WakeAll else Ended ENOTRECOVERABLE) w
    loss true on = record { fewer = omega arith; answers = λ free is. refl; steady = tt }
    loss false off = record { fewer = omega arith; answers = λ free is. absurd (cc (off, is)); steady = λ e. cc }

    go : (u : Bool) → (m : Bool) → (c.owner == t) ≡ m → (f : Bool) → (c.owner == 0) ≡ f → (b : Bool) → c.waiters ≡ b
        → Looked t (if u then decides (if c.waiters then Lock lock.WakeAll else Ended ENOTRECOVERABLE) ENOTRECOVERABLE else if m then ends EDEADLK else if f then goes (Lock (lock.Take c)) else if b then goes (Lock (lock.Sleep c)) else goes (Lock (lock.SetWaiters c))).row w
    go true m em f ef b eb = loss c.waiters refl
    go false true em f ef b eb = let own = eqb-true c.owner t em in record { fewer = omega arith; answers = λ free on. absurd (omega arith); steady = λ e. cc }
    go false false em true ef b eb = let one = picks (w == word_of c) 1 3 (same_word w) in record { fewer = omega arith; answers = λ free on. refl; steady = sym (word_of-fields_of w) }
    go false false em false ef true eb = let one = picks (w % 2 ^ 32 == low_of c) 1 4 (same_low w) in record { fewer = omega arith; answers = λ free on. refl; steady = (sym (word_of-fields_of w), eqb-false c.owner t em) }
    go false false em false ef false eb = let two = picks (w == word_of c) 2 3 (same_word w) in record { fewer = omega arith; answers = λ free on. refl; steady = (sym (word_of-fields_of w), eqb-false c.owner t em) }

-- ---- a trylock that looks at a cell
try_fewer : (k w n : ℕ) → 0 < n → (k < 4 → 5 - k < n) → k ≤ 4 → left (try_sees k (fields_of w)).row w < n
try_fewer k w n some fewer last = go (fields_of w).unusable (not ((fields_of w).owner == 0)) (k == 4) refl
  where
    go : (u o f : Bool) → (k == 4) ≡ f → left (if u then ends ENOTRECOVERABLE else if o then ends EBUSY else if f then ends XRACED else goes (TryLock (try.Take (fields_of w) k))).row w < n
    go true o f e = some
    go false true f e = some
    go false false true e = some
    go false false false e = let other = eqb-false k 4 e in fewer (omega arith)

try_steady : (t w : ℕ) → Steady t (try_sees 0 (fields_of w)).row w
try_steady t w = go (fields_of w).unusable (not ((fields_of w).owner == 0))
  where
    go : (u o : Bool) → Steady t (if u then ends ENOTRECOVERABLE else if o then ends EBUSY else if 0 == 4 then ends XRACED else goes (TryLock (try.Take (fields_of w) 0))).row w
    go true o = λ e. cc
    go false true = λ e. cc
    go false false = (sym (word_of-fields_of w), refl)

-- whoever takes a cell isn't raced
took : (t w : ℕ) (c : Fields) → Steady t (Ended (acquired c)) w
took t w c = go c.died
  where
    go : (d : Bool) → Steady t (Ended (if d then EOWNERDEAD else OK)) w
    go true = λ e. cc
    go false = λ e. cc

-- ---- an unlock, and a declaration
unlock_looked : (t w : ℕ) → (left (unlock_sees t (fields_of w)).row w < 4) × Steady t (unlock_sees t (fields_of w)).row w
unlock_looked t w = go ((fields_of w).owner == t)
  where
    go : (b : Bool) → (left (if b then goes (Unlock (unlock.Release (fields_of w).died)) else ends EPERM).row w < 4) × Steady t (if b then goes (Unlock (unlock.Release (fields_of w).died)) else ends EPERM).row w
    go true = (omega arith, tt)
    go false = (omega arith, λ e. cc)

consistent_looked : (t w : ℕ) → (left (consistent_sees t (fields_of w)).row w < 2) × Steady t (consistent_sees t (fields_of w)).row w
consistent_looked t w = go ((fields_of w).owner == t) (fields_of w).died
  where
    go : (b d : Bool) → (left (if not b then ends EPERM else if d then goes (Consistent consistent.Declare) else ends EINVAL).row w < 2) × Steady t (if not b then ends EPERM else if d then goes (Consistent consistent.Declare) else ends EINVAL).row w
    go false d = (omega arith, λ e. cc)
    go true true = (omega arith, tt)
    go true false = (omega arith, λ e. cc)

record Released (t : ℕ) (r : Row) (waiters : Bool) (w' : ℕ) : Type 0 where
  fewer : left r w' < 3
  answers : waiters ≡ true → answers_for r ≡ true
  steady : Steady t r w'

released : (t w' : ℕ) (d b : Bool) → Released t (if b then Unlock (unlock.Wake d) else Ended OK) b w'
released t w' d true = record { fewer = omega arith; answers = λ on. refl; steady = tt }
released t w' d false = record { fewer = omega arith; answers = λ on. absurd cc; steady = λ e. cc }

-- a release changes no WAITERS
release_keeps : (t w : ℕ) (d : Bool) → (fields_of w).owner ≡ t → (fields_of w).died ≡ d → (fields_of (Rattle.std.proofs.Common.bit_xor w (released_bits t d))).waiters ≡ (fields_of w).waiters
release_keeps t w true mine dead = ap (λ (c : Fields). c.waiters) (xor_spoiled w t mine dead)
release_keeps t w false mine alive = ap (λ (c : Fields). c.waiters) (xor_released w t mine)

-- ---- exchanges, whether they meet the cell that they saw or another
take_lock : (t cell w : ℕ) (q : List ℕ) (v : Fields) → 1 ≤ t → t ≤ most_threads → Knows (Lock (lock.Take v)) → (b : Bool) → (w == word_of v) ≡ b
    → Alone t (Lock (lock.Take v)) (row_access t cell (Lock (lock.Take v))) (resume_of t (Lock (lock.Take v)) (if b then Exchanged else Changed w)) w q (if b then word_of (taken v t) else w)
take_lock t cell w q v pos last known false miss = let s = lock_looked t w pos in let three = misses (w == word_of v) 1 3 miss in record {
  waiters = λ on. inl on;
  sleeps = λ e. absurd cc;
  fewer = λ e. let l = s.fewer in omega arith;
  answers = λ e free on. inl (s.answers free on);
  steady = λ e f. s.steady;
}
take_lock t cell w q v pos last known true hit =
    let none = known.0 in
    let before : fields_of w ≡ v = ap fields_of (eqb-true w (word_of v) hit) ∙ fields_of-word_of v (omega arith) in
    let after : fields_of (word_of (taken v t)) ≡ taken v t = fields_of-word_of (taken v t) (omega arith) in
    let one = picks (w == word_of v) 1 3 hit in
    record {
      waiters = λ on. inl (ap (λ (c : Fields). c.waiters) after ∙ ap (λ (c : Fields). c.waiters) (sym before) ∙ on);
      sleeps = λ e. absurd cc;
      fewer = λ e. omega arith;
      answers = λ e free on. let mine : (fields_of (word_of (taken v t))).owner ≡ t = ap (λ (c : Fields). c.owner) after in absurd (omega arith);
      steady = λ e f. took t (word_of (taken v t)) v;
    }

mark_lock : (t cell w : ℕ) (q : List ℕ) (v : Fields) → 1 ≤ t → Knows (Lock (lock.SetWaiters v)) → (b : Bool) → (w == word_of v) ≡ b
    → Alone t (Lock (lock.SetWaiters v)) (row_access t cell (Lock (lock.SetWaiters v))) (resume_of t (Lock (lock.SetWaiters v)) (if b then Exchanged else Changed w)) w q (if b then word_of (waiting v) else w)
mark_lock t cell w q v pos known false miss = let s = lock_looked t w pos in let three = misses (w == word_of v) 2 3 miss in record {
  waiters = λ on. inl on;
  sleeps = λ e. absurd cc;
  fewer = λ e. let l = s.fewer in omega arith;
  answers = λ e free on. inl (s.answers free on);
  steady = λ e f. s.steady;
}
mark_lock t cell w q v pos known true hit =
    let after : fields_of (word_of (waiting v)) ≡ waiting v = fields_of-word_of (waiting v) known.1 in
    let two = picks (w == word_of v) 2 3 hit in
    let one = picks (word_of (waiting v) % 2 ^ 32 == low_of (waiting v)) 1 4 (eq-eqb (word_of (waiting v) % 2 ^ 32) (low_of (waiting v)) refl) in
    record {
      waiters = λ on. inl (ap (λ (c : Fields). c.waiters) after);
      sleeps = λ e. absurd cc;
      fewer = λ e. omega arith;
      answers = λ e free on. inl refl;
      steady = λ e f. (refl, f.1);
    }

take_try : (t cell w : ℕ) (q : List ℕ) (v : Fields) (k : ℕ) → 1 ≤ t → t ≤ most_threads → Knows (TryLock (try.Take v k)) → (b : Bool) → (w == word_of v) ≡ b
    → Alone t (TryLock (try.Take v k)) (row_access t cell (TryLock (try.Take v k))) (resume_of t (TryLock (try.Take v k)) (if b then Exchanged else Changed w)) w q (if b then word_of (taken v t) else w)
take_try t cell w q v k pos last known false miss = let few = known.2 in record {
  waiters = λ on. inl on;
  sleeps = λ e. absurd cc;
  fewer = λ e. try_fewer (k + 1) w (5 - k) (omega arith) (λ l. omega arith) (omega arith);
  answers = λ e free on. inr (refl, refl);
  steady = λ e f. absurd (cc (miss, eq-eqb w (word_of v) f.0));
}
take_try t cell w q v k pos last known true hit =
    let few = known.2 in
    let none = known.0 in
    let before : fields_of w ≡ v = ap fields_of (eqb-true w (word_of v) hit) ∙ fields_of-word_of v (omega arith) in
    let after : fields_of (word_of (taken v t)) ≡ taken v t = fields_of-word_of (taken v t) (omega arith) in
    record {
      waiters = λ on. inl (ap (λ (c : Fields). c.waiters) after ∙ ap (λ (c : Fields). c.waiters) (sym before) ∙ on);
      sleeps = λ e. absurd cc;
      fewer = λ e. omega arith;
      answers = λ e free on. let mine : (fields_of (word_of (taken v t))).owner ≡ t = ap (λ (c : Fields). c.owner) after in absurd (omega arith);
      steady = λ e f. took t (word_of (taken v t)) v;
    }

-- a wait
sleep : (t cell w : ℕ) (q : List ℕ) (v : Fields) → Knows (Lock (lock.Sleep v)) → Alone t (Lock (lock.Sleep v)) (row_access t cell (Lock (lock.Sleep v))) (goes (Lock lock.Load)) w q w
sleep t cell w q v known = record {
  waiters = λ on. inl on;
  sleeps = λ e.
      let is : fields_of (word_of v) ≡ v = fields_of-word_of v known.0.1 in
      let same = low_alike w (word_of v) (eqb-true (w % 2 ^ 32) (low_of v) e) in
      let owner : (fields_of w).owner ≡ v.owner = same.0 ∙ ap (λ (c : Fields). c.owner) is in
      let some = known.0.0 in
      (omega arith, same.1 ∙ ap (λ (c : Fields). c.waiters) is ∙ known.1);
  fewer = λ e. let four = misses (w % 2 ^ 32 == low_of v) 1 4 e in omega arith;
  answers = λ e free on. inl refl;
  steady = λ e f. tt;
}

-- a wait, whether or not it sleeps
waits : (t cell w : ℕ) (q : List ℕ) (v : Fields) (b : Bool) → Knows (Lock (lock.Sleep v)) → Alone t (Lock (lock.Sleep v)) (row_access t cell (Lock (lock.Sleep v))) (resume_of t (Lock (lock.Sleep v)) (if b then Woken else Again)) w q w
waits t cell w q v true known = sleep t cell w q v known
waits t cell w q v false known = sleep t cell w q v known

-- a wake, and where it leads
wake_fewer : (b : Bool) (w : ℕ) → left (if b then Unlock unlock.Trim else Ended OK) w < 2
wake_fewer true w = omega arith
wake_fewer false w = omega arith

wake_steady : (t w : ℕ) (b : Bool) → Steady t (if b then Unlock unlock.Trim else Ended OK) w
wake_steady t w true = tt
wake_steady t w false = λ e. cc

-- a trim
trim : (t cell w : ℕ) (q : List ℕ) (b : Bool) → (b ≡ true → w ≡ waiters_alone) → (b ≡ true → q ≡ []) → Alone t (Unlock unlock.Trim) (access.Trim cell) (goes (Ended OK)) w q (if b then 0 else w)
trim t cell w q true is none = record {
  waiters = λ on. inr (none refl, ap (λ (v : ℕ). (fields_of v).owner) (is refl));
  sleeps = λ e. absurd cc;
  fewer = λ e. omega arith;
  answers = λ e free on. absurd cc;
  steady = λ e f. λ i. cc;
}
trim t cell w q false is none = record { waiters = λ on. inl on; sleeps = λ e. absurd cc; fewer = λ e. omega arith; answers = λ e free on. inr (refl, refl); steady = λ e f. λ i. cc }

-- each row in turn
pub alone : (t cell w : ℕ) (q : List ℕ) (r : Row) → 1 ≤ t → t ≤ most_threads → IsGoing r → Knows r → Expects t r (object_of (fields_of w))
    → Alone t r (row_access t cell r) (resume_of t r (answer_among (row_access t cell r) w q)) w q (word_among (row_access t cell r) w q)
alone t cell w q (Lock lock.Load) pos last going known expected = let s = lock_looked t w pos in record {
  waiters = λ on. inl on;
  sleeps = λ e. absurd cc;
  fewer = λ e. s.fewer;
  answers = λ e free on. inl (s.answers free on);
  steady = λ e f. s.steady;
}
alone t cell w q (Lock (lock.Take v)) pos last going known expected = take_lock t cell w q v pos last known (w == word_of v) refl
alone t cell w q (Lock (lock.SetWaiters v)) pos last going known expected = mark_lock t cell w q v pos known (w == word_of v) refl
alone t cell w q (Lock (lock.Sleep v)) pos last going known expected = waits t cell w q v (w % 2 ^ 32 == low_of v) known
alone t cell w q (Lock lock.WakeAll) pos last going known expected = record { waiters = λ on. inl on; sleeps = λ e. absurd cc; fewer = λ e. omega arith; answers = λ e free on. absurd cc; steady = λ e f. λ i. cc }
alone t cell w q (TryLock try.Load) pos last going known expected = record {
  waiters = λ on. inl on;
  sleeps = λ e. absurd cc;
  fewer = λ e. try_fewer 0 w 6 (omega arith) (λ l. omega arith) (omega arith);
  answers = λ e free on. inr (refl, refl);
  steady = λ e f. try_steady t w;
}
alone t cell w q (TryLock (try.Take v k)) pos last going known expected = take_try t cell w q v k pos last known (w == word_of v) refl
alone t cell w q (Unlock unlock.Load) pos last going known expected = let s = unlock_looked t w in record {
  waiters = λ on. inl on;
  sleeps = λ e. absurd cc;
  fewer = λ e. s.0;
  answers = λ e free on. inr (refl, refl);
  steady = λ e f. s.1;
}
alone t cell w q (Unlock (unlock.Release d)) pos last going known expected =
    let w' = Rattle.std.proofs.Common.bit_xor w (released_bits t d) in
    let s = released t w' d (fields_of w).waiters in
    let keeps = release_keeps t w d (owner_of-is (fields_of w).owner t expected.0) expected.1 in
    record {
      waiters = λ on. inl (keeps ∙ on);
      sleeps = λ e. absurd cc;
      fewer = λ e. s.fewer;
      answers = λ e free on. inl (s.answers (sym keeps ∙ on));
      steady = λ e f. s.steady;
    }
alone t cell w q (Unlock (unlock.Wake a)) pos last going known expected =
    let b : Bool = not a && (length (take (if a then most_threads else 1) q) == 0) in
    record { waiters = λ on. inl on; sleeps = λ e. absurd cc; fewer = λ e. wake_fewer b w; answers = λ e free on. absurd cc; steady = λ e f. wake_steady t w b }
alone t cell w q (Unlock unlock.Trim) pos last going known expected = trim t cell w q (is_trimmed w q) (trims_free w q) (trims_unslept w q)
alone t cell w q (Consistent consistent.Load) pos last going known expected = let s = consistent_looked t w in record {
  waiters = λ on. inl on;
  sleeps = λ e. absurd cc;
  fewer = λ e. s.0;
  answers = λ e free on. inr (refl, refl);
  steady = λ e f. s.1;
}
alone t cell w q (Consistent consistent.Declare) pos last going known expected =
    let d = and_declared w in
    let mine = owner_of-is (fields_of w).owner t expected.0 in
    record {
      waiters = λ on. inl (d.waiters ∙ on);
      sleeps = λ e. absurd cc;
      fewer = λ e. omega arith;
      answers = λ e free on. let own = d.owner in absurd (omega arith);
      steady = λ e f. λ i. cc;
    }
alone t cell w q (Ended x) pos last going known expected = absurd going
