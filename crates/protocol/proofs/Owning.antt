-- Which thread owns a mutex after an access of a call to its cell, and whether it is left out of its owner's list.
use Rattle.std.proofs.Common.{◌≡◌, ℕ, Some, None, arith}
use Rattle.protocol.proofs.Vocabulary.{Object, Answer, Phase, AtCell, Whole, after_cell, decided, Joins}
use Rattle.mutex.specs.declared.row.Row.{Row}
use Rattle.mutex.specs.Rows.{IsGoing}
use Rattle.mutex.specs.Programs.{row_operation, resume_of}
use Rattle.mutex.specs.Laws.{IsOf}
use Rattle.protocol.proofs.Kept.{left_out_in, pending_in}
use Rattle.protocol.proofs.Steps.{Tells}

-- from row r to phase f: the thread takes the mutex, which isn't on its list yet; it frees it, which wasn't any more; or its owner stays
pub data Owning (m t : ℕ) (r : Row) (f : Phase) (o n : Object) : Type 0 where
  takes : left_out_in m (AtCell r) ≡ None → left_out_in m f ≡ Some m → o.owner ≡ None → n.owner ≡ Some t → Owning m t r f o n
  frees : left_out_in m (AtCell r) ≡ Some m → left_out_in m f ≡ None → n.owner ≡ None → Owning m t r f o n
  keeps : left_out_in m (AtCell r) ≡ None → left_out_in m f ≡ None → n.owner ≡ o.owner → Owning m t r f o n

-- ---- lock

module _ (m t : ℕ) (p : Whole) (o n : Object) where
  -- ---- trylock
  -- ---- consistent
  -- ---- unlock
  -- each access of a call, whatever it is answered; except for a fault
  pub owning : (u : ℕ) (r : Row) (a : Answer) → IsGoing r → row_operation r ≡ p.operation → IsOf (row_operation r) (resume_of u r a).row → Joins (decided r) (resume_of u r a).point (decided (resume_of u r a).row)
      → Tells t o (row_operation r) (resume_of u r a).point n → Owning m t r (after_cell p (resume_of u r a).row) o n
  owning u r a going of same joins tells = grind (arith)

  -- ---- the pending entry stays as it is

  pub pends : (u : ℕ) (r : Row) (a : Answer) → IsGoing r → row_operation r ≡ p.operation → IsOf (row_operation r) (resume_of u r a).row → Joins (decided r) (resume_of u r a).point (decided (resume_of u r a).row)
      → Tells t o (row_operation r) (resume_of u r a).point n → pending_in p.entry (after_cell p (resume_of u r a).row) ≡ pending_in p.entry (AtCell r)
  pends u r a going of same joins tells = grind (arith)
