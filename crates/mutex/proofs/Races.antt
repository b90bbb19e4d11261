-- A trylock gives up only after four exchanges that each found a changed cell.
use Rattle.std.proofs.Common.{◌≡◌, ℕ, ◌+◌, ◌<◌, ◌≤◌, ◌==◌, Bool, true, false, not, List, [], ◌∷◌, refl, subst, arith, eqb-true}
use Rattle.std.specs.Prelude.{if◌then◌else◌}
use Rattle.std.proofs.lemmas.Bool.{eqb-false}
use Rattle.lockword.specs.Cells.{Fields, fields_of}
use Rattle.lockword.specs.declared.reply.Reply.{Reply}
use Rattle.lockword.specs.declared.reply.Reply.TheVariants.{OK, EBUSY, EOWNERDEAD, ENOTRECOVERABLE, XRACED}
use Rattle.stepprograms.specs.declared.access.Answer.{Answer}
use Rattle.stepprograms.specs.declared.access.Answer.TheVariants.{Value, Exchanged, Changed}
use Rattle.mutex.specs.declared.try_lock.TryLockRow.TheVariants as try
use Rattle.mutex.specs.declared.row.Row.{Row}
use Rattle.mutex.specs.declared.row.Row.TheVariants.{Lock, TryLock, Unlock, Consistent, Ended}
use Rattle.mutex.specs.Rows.{goes, ends}
use Rattle.mutex.specs.TryLock.{try_sees}
use Rattle.mutex.specs.Programs.{resume_of}
use Rattle.mutex.specs.Laws.{reached, tells_change, changes, RacedAfterFour, GivesUpAfterFour}

-- a trylock that is there has met this many changed cells, or more
abbrev pub Met : Row → ℕ → Type 0
Met (TryLock try.Load) n = Unit {0}
Met (TryLock (try.Take v k)) n = (k < 4) × (k ≤ n)
Met (Ended XRACED) n = 4 ≤ n
Met (Ended x) n = Unit {0}
Met (Lock r) n = ⊥
Met (Unlock r) n = ⊥
Met (Consistent r) n = ⊥

-- a call that has returned saw the changes that it had to
pub ended_met : (x : Reply) (n m : ℕ) → Met (Ended x) n → Met (Ended x) (n + m)
ended_met XRACED n m h = omega arith
ended_met x n m h = tt

-- deciding on a cell gives up only after enough changes
sees_met : (k n : ℕ) (c : Fields) → k ≤ 4 → k ≤ n → Met (try_sees k c).row n
sees_met k n c few so_far = go c.unusable (not (c.owner == 0)) (k == 4) refl
  where
    go : (u o f : Bool) → (k == 4) ≡ f → Met (if u then ends ENOTRECOVERABLE else if o then ends EBUSY else if f then ends XRACED else goes (TryLock (try.Take c k))).row n
    go true o f e = tt
    go false true f e = tt
    go false false true e = let four = eqb-true k 4 e in omega arith
    go false false false e = let less = eqb-false k 4 e in (omega arith, so_far)

-- a call that took the mutex is not raced
acquired_met : (d : Bool) (n : ℕ) → Met (Ended (if d then EOWNERDEAD else OK)) n
acquired_met true n = tt
acquired_met false n = tt

-- one answer more
pub answered : (t : ℕ) (r : Row) (a : Answer) (n : ℕ) → Met r n → Met (resume_of t r a).row (n + tells_change a)
answered t (TryLock try.Load) (Value w) n h = sees_met 0 (n + 0) (fields_of w) (omega arith) (omega arith)
answered t (TryLock try.Load) a n h = tt
answered t (TryLock (try.Take v k)) Exchanged n h = acquired_met v.died (n + 0)
answered t (TryLock (try.Take v k)) (Changed w) n h = let few = h.0 in let so_far = h.1 in sees_met (k + 1) (n + 1) (fields_of w) (omega arith) (omega arith)
answered t (TryLock (try.Take v k)) a n h = tt
answered t (Lock r) a n h = absurd h
answered t (Unlock r) a n h = absurd h
answered t (Consistent r) a n h = absurd h
answered t (Ended x) a n h = ended_met x n (tells_change a) h

-- all answers
after : (t : ℕ) (answers : List Answer) (r : Row) (n : ℕ) → Met r n → reached t r answers ≡ Ended XRACED → 4 ≤ n + changes answers
after t [] r n h is = let four : 4 ≤ n = subst (λ (z : Row). Met z n) is h in omega arith
after t (a ∷ answers) r n h is = let further = after t answers (resume_of t r a).row (n + tells_change a) (answered t r a n h) is in omega arith

-- from the first load on
pub raced : RacedAfterFour
raced t answers is = let four = after t answers (TryLock try.Load) 0 tt is in omega arith

-- ---- that it does give up

-- a trylock that is there has met this many changed cells at most
abbrev Few : Row → ℕ → Type 0
Few (TryLock try.Load) n = n ≡ 0
Few (TryLock (try.Take v k)) n = (k < 4) × (n ≤ k)
Few (Ended x) n = Unit {0}
Few (Lock r) n = ⊥
Few (Unlock r) n = ⊥
Few (Consistent r) n = ⊥

sees_few : (k n : ℕ) (c : Fields) → k ≤ 4 → n ≤ k → Few (try_sees k c).row n
sees_few k n c few so_far = go c.unusable (not (c.owner == 0)) (k == 4) refl
  where
    go : (u o f : Bool) → (k == 4) ≡ f → Few (if u then ends ENOTRECOVERABLE else if o then ends EBUSY else if f then ends XRACED else goes (TryLock (try.Take c k))).row n
    go true o f e = tt
    go false true f e = tt
    go false false true e = tt
    go false false false e = let less = eqb-false k 4 e in (omega arith, so_far)

acquired_few : (d : Bool) (n : ℕ) → Few (Ended (if d then EOWNERDEAD else OK)) n
acquired_few true n = tt
acquired_few false n = tt

answered_few : (t : ℕ) (r : Row) (a : Answer) (n : ℕ) → Few r n → Few (resume_of t r a).row (n + tells_change a)
answered_few t (TryLock try.Load) (Value w) n h = sees_few 0 (n + 0) (fields_of w) (omega arith) (omega arith)
answered_few t (TryLock try.Load) a n h = tt
answered_few t (TryLock (try.Take v k)) Exchanged n h = acquired_few v.died (n + 0)
answered_few t (TryLock (try.Take v k)) (Changed w) n h = let few = h.0 in let so_far = h.1 in sees_few (k + 1) (n + 1) (fields_of w) (omega arith) (omega arith)
answered_few t (TryLock (try.Take v k)) a n h = tt
answered_few t (Lock r) a n h = absurd h
answered_few t (Unlock r) a n h = absurd h
answered_few t (Consistent r) a n h = absurd h
answered_few t (Ended x) a n h = tt

few_after : (t : ℕ) (answers : List Answer) (r : Row) (n : ℕ) → Few r n → (v : Fields) (k : ℕ) → reached t r answers ≡ TryLock (try.Take v k) → n + changes answers < 4
few_after t [] r n h v k is = let few : (k < 4) × (n ≤ k) = subst (λ (z : Row). Few z n) is h in let a = few.0 in let b = few.1 in omega arith
few_after t (a ∷ answers) r n h v k is = let further = few_after t answers (resume_of t r a).row (n + tells_change a) (answered_few t r a n h) v k is in omega arith

pub gives_up : GivesUpAfterFour
gives_up t answers v k is = let few = few_after t answers (TryLock try.Load) 0 refl v k is in omega arith
