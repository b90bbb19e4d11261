-- Exchanges of a call: each expects the word that its thread knows to be there, so one that fails finds a change by another thread.
use Rattle.std.proofs.Common.{Bool, true, false, ◌≡◌, ℕ, ◌+◌, ◌≤◌, ◌==◌, not, ◌++◌, length, refl, sym, ap, ◌∙◌, arith}
use Rattle.std.specs.Prelude.{◌&&◌, if◌then◌else◌}
use Rattle.std.proofs.lemmas.Bool.{eqb-false}
use Rattle.lockword.specs.Cells.{Fields, fields_of, word_of}
use Rattle.lockword.specs.Coding.{word_of-fields_of}
use Rattle.lockword.specs.declared.reply.Reply.TheVariants.{OK, EPERM, EINVAL, EBUSY, EDEADLK, ENOTRECOVERABLE, XRACED}
use Rattle.stepprograms.specs.declared.access.Answer.TheVariants.{Changed, Exchanged}
use Rattle.stepprograms.specs.Accesses.{answer_at, changed}
use Rattle.mutex.specs.declared.consistent.ConsistentRow.TheVariants as consistent
use Rattle.mutex.specs.declared.lock.LockRow.TheVariants as lock
use Rattle.mutex.specs.declared.phase.Phase.{Phase}
use Rattle.mutex.specs.declared.phase.Phase.TheVariants as phase
use Rattle.mutex.specs.declared.row.Led.{Led}
use Rattle.mutex.specs.declared.row.Row.{Row}
use Rattle.mutex.specs.declared.row.Row.TheVariants.{Lock, TryLock, Unlock, Consistent, Ended}
use Rattle.mutex.specs.declared.try_lock.TryLockRow.TheVariants as try
use Rattle.mutex.specs.declared.unlock.UnlockRow.TheVariants as unlock
use Rattle.mutex.specs.Laws.{tells_change}
use Rattle.mutex.specs.Lock.{lock_resume, lock_sees}
use Rattle.mutex.specs.Programs.{resume_of, row_access}
use Rattle.mutex.specs.Rows.{decides, ends, goes}
use Rattle.mutex.specs.Standings.{Whole}
use Rattle.mutex.specs.TryLock.{try_resume, try_sees}
use Rattle.mutex.specs.Whole.{phase_access}
use Rattle.ruledwords.specs.declared.pass.Card.{Card}
use Rattle.ruledwords.specs.Calls.{row_in, ExpectsKnown}
use Rattle.ruledwords.specs.Changes.{change_of, changes_at, left_by, made_by_others, Writes}
use Rattle.ruledwords.specs.Turns.{IsOneStep}
use Rattle.ruledwords.proofs.Changes.{others_found}

-- ---- what a call's next exchange expects

module _ (q : ℕ) (d : Card) where
  -- where it decides on the word that it knows to be there
  lock_decides : (t : ℕ) (f : Fields) → left_by (changes_at d.changes q) ≡ word_of f → ExpectsKnown (lock_sees t f).row q d
  lock_decides t f known = go f.unusable (f.owner == t) (f.owner == 0) f.waiters
    where
      lost : (b : Bool) → ExpectsKnown (if b then Lock lock.WakeAll else Ended ENOTRECOVERABLE) q d
      lost true = tt
      lost false = tt

      go : (u m n w : Bool)
          → ExpectsKnown (if u then decides (if w then Lock lock.WakeAll else Ended ENOTRECOVERABLE) ENOTRECOVERABLE else if m then ends EDEADLK else if n then goes (Lock (lock.Take f)) else if w then goes (Lock (lock.Sleep f)) else goes (Lock (lock.SetWaiters f))).row q d
      go true m n w = lost w
      go false true n w = tt
      go false false true w = known
      go false false false true = tt
      go false false false false = known

  try_decides : (k : ℕ) (f : Fields) → left_by (changes_at d.changes q) ≡ word_of f → ExpectsKnown (try_sees k f).row q d
  try_decides k f known = go f.unusable (not (f.owner == 0)) (k == 4)
    where
      go : (u o l : Bool) → ExpectsKnown (if u then ends ENOTRECOVERABLE else if o then ends EBUSY else if l then ends XRACED else goes (TryLock (try.Take f k))).row q d
      go true o l = tt
      go false true l = tt
      go false false true = tt
      go false false false = known

  plain_unlock : (b died : Bool) → ExpectsKnown (if◌then◌else◌ {A = Led} b (goes (Unlock (unlock.Release died))) (ends EPERM)).row q d
  plain_unlock true died = tt
  plain_unlock false died = tt

  plain_release : (b died : Bool) → ExpectsKnown (if b then Unlock (unlock.Wake died) else Ended OK) q d
  plain_release true died = tt
  plain_release false died = tt

  pub plain_wake : (b : Bool) → ExpectsKnown (if b then Unlock unlock.Trim else Ended OK) q d
  plain_wake true = tt
  plain_wake false = tt

  plain_consistent : (b died : Bool) → ExpectsKnown (if b then ends EPERM else if died then goes (Consistent consistent.Declare) else ends EINVAL).row q d
  plain_consistent true died = tt
  plain_consistent false true = tt
  plain_consistent false false = tt

  -- after an access
  pub expects_next : (t cell n : ℕ) (r : Row) → left_by (changes_at d.changes q) ≡ changed (row_access t cell r) n → ExpectsKnown (resume_of t r (answer_at (row_access t cell r) n)).row q d
  expects_next t cell n (Lock lock.Load) known = lock_decides t (fields_of n) (known ∙ sym (word_of-fields_of n))
  expects_next t cell n (Lock (lock.Take seen)) known = go (n == word_of seen) _ known
    where
      go : (b : Bool) (v : ℕ) → left_by (changes_at d.changes q) ≡ (if b then v else n) → ExpectsKnown (lock_resume t (lock.Take seen) (if b then Exchanged else Changed n)).row q d
      go true v known = tt
      go false v known = lock_decides t (fields_of n) (known ∙ sym (word_of-fields_of n))
  expects_next t cell n (Lock (lock.SetWaiters seen)) known = go (n == word_of seen) _ known
    where
      go : (b : Bool) (v : ℕ) → left_by (changes_at d.changes q) ≡ (if b then v else n) → ExpectsKnown (lock_resume t (lock.SetWaiters seen) (if b then Exchanged else Changed n)).row q d
      go true v known = tt
      go false v known = lock_decides t (fields_of n) (known ∙ sym (word_of-fields_of n))
  expects_next t cell n (Lock (lock.Sleep seen)) known = tt
  expects_next t cell n (Lock lock.WakeAll) known = tt
  expects_next t cell n (TryLock try.Load) known = try_decides 0 (fields_of n) (known ∙ sym (word_of-fields_of n))
  expects_next t cell n (TryLock (try.Take seen k)) known = go (n == word_of seen) _ known
    where
      go : (b : Bool) (v : ℕ) → left_by (changes_at d.changes q) ≡ (if b then v else n) → ExpectsKnown (try_resume (try.Take seen k) (if b then Exchanged else Changed n)).row q d
      go true v known = tt
      go false v known = try_decides (k + 1) (fields_of n) (known ∙ sym (word_of-fields_of n))
  expects_next t cell n (Unlock unlock.Load) known = plain_unlock ((fields_of n).owner == t) (fields_of n).died
  expects_next t cell n (Unlock (unlock.Release died)) known = plain_release (fields_of n).waiters died
  expects_next t cell n (Unlock (unlock.Wake a)) known = plain_wake (not a && (0 == 0))
  expects_next t cell n (Unlock unlock.Trim) known = tt
  expects_next t cell n (Consistent consistent.Load) known = plain_consistent (not ((fields_of n).owner == t)) (fields_of n).died
  expects_next t cell n (Consistent consistent.Declare) known = tt
  expects_next t cell n (Ended x) known = tt

-- where the changes are known as they were
pub expects_still : (r : Row) (q : ℕ) (c d : Card) → changes_at d.changes q ≡ changes_at c.changes q → ExpectsKnown r q c → ExpectsKnown r q d
expects_still (Lock lock.Load) q c d same known = tt
expects_still (Lock (lock.Take seen)) q c d same known = ap left_by same ∙ known
expects_still (Lock (lock.SetWaiters seen)) q c d same known = ap left_by same ∙ known
expects_still (Lock (lock.Sleep seen)) q c d same known = tt
expects_still (Lock lock.WakeAll) q c d same known = tt
expects_still (TryLock try.Load) q c d same known = tt
expects_still (TryLock (try.Take seen k)) q c d same known = ap left_by same ∙ known
expects_still (Unlock r) q c d same known = tt
expects_still (Consistent r) q c d same known = tt
expects_still (Ended x) q c d same known = tt

-- at a section
pub expects_at_section : (p : Whole) (f : Phase) (q : ℕ) (d : Card) → (IsOneStep (phase_access p f) → ⊥) → ExpectsKnown (row_in f) q d
expects_at_section p (phase.Announcing r) q d section = absurd (section tt)
expects_at_section p (phase.AtCell (Lock lock.Load)) q d section = tt
expects_at_section p (phase.AtCell (Lock (lock.Take seen))) q d section = absurd (section tt)
expects_at_section p (phase.AtCell (Lock (lock.SetWaiters seen))) q d section = absurd (section tt)
expects_at_section p (phase.AtCell (Lock (lock.Sleep seen))) q d section = tt
expects_at_section p (phase.AtCell (Lock lock.WakeAll)) q d section = tt
expects_at_section p (phase.AtCell (TryLock try.Load)) q d section = tt
expects_at_section p (phase.AtCell (TryLock (try.Take seen k))) q d section = absurd (section tt)
expects_at_section p (phase.AtCell (Unlock r)) q d section = tt
expects_at_section p (phase.AtCell (Consistent r)) q d section = tt
expects_at_section p (phase.AtCell (Ended x)) q d section = tt
expects_at_section p (phase.Linking l x) q d section = tt
expects_at_section p (phase.Unlinking u e) q d section = tt
expects_at_section p (phase.Clearing x) q d section = tt
expects_at_section p (phase.Ended x) q d section = tt

-- ---- whoever fails

module _ (q n v : ℕ) (d e : Card) (w : Writes d q n v e) where
  failed_by : (old : ℕ) (b : Bool) → (n == old) ≡ b → left_by (changes_at d.changes q) ≡ old → tells_change (if b then Exchanged else Changed n) ≤ length (made_by_others d.thread (w.since ++ change_of d.thread n v))
  failed_by old true is known = omega arith
  failed_by old false is known = others_found d e q n v (λ same. eqb-false n old is (sym same ∙ known)) w

  -- an access that tells of a changed word has found others' change
  pub failed : (t cell : ℕ) (r : Row) → ExpectsKnown r q d → tells_change (answer_at (row_access t cell r) n) ≤ length (made_by_others d.thread (w.since ++ change_of d.thread n v))
  failed t cell (Lock lock.Load) known = omega arith
  failed t cell (Lock (lock.Take seen)) known = failed_by (word_of seen) (n == word_of seen) refl known
  failed t cell (Lock (lock.SetWaiters seen)) known = failed_by (word_of seen) (n == word_of seen) refl known
  failed t cell (Lock (lock.Sleep seen)) known = omega arith
  failed t cell (Lock lock.WakeAll) known = omega arith
  failed t cell (TryLock try.Load) known = omega arith
  failed t cell (TryLock (try.Take seen k)) known = failed_by (word_of seen) (n == word_of seen) refl known
  failed t cell (Unlock unlock.Load) known = omega arith
  failed t cell (Unlock (unlock.Release died)) known = omega arith
  failed t cell (Unlock (unlock.Wake a)) known = omega arith
  failed t cell (Unlock unlock.Trim) known = omega arith
  failed t cell (Consistent consistent.Load) known = omega arith
  failed t cell (Consistent consistent.Declare) known = omega arith
  failed t cell (Ended x) known = omega arith
