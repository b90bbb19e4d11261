-- One access of a call on a condition variable, row by row: what it does to its mutex, and what holds at the next row. Whatever the counter is.
use Rattle.std.proofs.Common.{◌≡◌, ◌⊎◌, inl, inr, ℕ, ◌<◌, ◌≤◌, Bool, true, false, Some, None, List, refl, sym, ap, ◌∙◌, subst, arith, bit_or, bit_xor, []}
use Rattle.protocol.proofs.Vocabulary.{CondRow, Signal, Broadcast, Awake, CondLed, cell_after, met_word, answer_at, sleeps_at, Permits, acquires, object_of, Fields, fields_of, OK}
use Rattle.protocol.proofs.Vocabulary.{or_waiting, Sound, answer_among, reply_at, held_after, if◌then◌else◌, Operation, UnlockRow, WaitRow, SignalRow, BroadcastRow, CondPhase}
use Rattle.protocol.proofs.Vocabulary.{names, decided_at}
use Rattle.lockword.proofs.Bits.{xor_released}
use Rattle.mutex.specs.declared.row.Row.TheVariants as row
use Rattle.mutex.specs.Laws as mutex_laws
use Rattle.mutex.specs.Programs as mutex_programs
use Rattle.mutex.proofs.Rights as mutex
use Rattle.condvar.specs.declared.row.CondRow.TheVariants.{Wait, Ended}
use Rattle.condvar.specs.Rows.{IsGoing}
use Rattle.condvar.specs.Laws.{IsOf, row_operation}
use Rattle.condvar.specs.Programs.{row_access, resume_of, point_of}
use Rattle.condvar.specs.Wait.{wait_sees}
use Rattle.condvar.specs.Signal.{signal_sees, signal_counts}
use Rattle.condvar.specs.Broadcast.{broadcast_sees, broadcast_counts}
use Rattle.protocol.proofs.Kept.{Needs, Room, left_out_at, pending_at_words}
use Rattle.protocol.proofs.Steps.{Tells, IsNoMove, IsNoTrim}
use Rattle.protocol.proofs.Stepping.{wakes_next, left_of_row}
use Rattle.lockword.specs.Threads.{most_threads}

-- ---- whoever sleeps

-- no access of a call is a trim
pub cond_no_trim : (t cell counter : ℕ) (r : CondRow) → IsNoTrim (row_access t cell counter r)
cond_no_trim t cell counter r = grind (arith)

-- a call goes on alike, whoever sleeps
pub cond_alike : (t cell counter : ℕ) (r : CondRow) (w : ℕ) (q : List ℕ) → resume_of t r (answer_among (row_access t cell counter r) w q) ≡ resume_of t r (answer_at (row_access t cell counter r) w)
cond_alike t cell counter r w q = grind (arith)

-- only a wait sleeps
pub only_waits_sleep : (t cell counter : ℕ) (r : CondRow) (w : ℕ) → sleeps_at (row_access t cell counter r) w ≡ true → (seen : ℕ) × (r ≡ Wait (WaitRow.Sleep seen))
only_waits_sleep t cell counter r w e = grind (arith)

-- only a broadcast moves
pub move_or : (t cell counter : ℕ) (r : CondRow) → IsNoMove (row_access t cell counter r) ⊎ (seen : ℕ) × (r ≡ Broadcast (BroadcastRow.Move seen))
move_or t cell counter r = grind (arith)

-- ---- the next row

-- this many accesses are left at most where the call goes on there: a wait that is to release leaves its list first,
-- and one that is awake locks
abbrev pub left_next : CondRow → ℕ
left_next (Wait (WaitRow.Release seen)) = 75
left_next Awake = 62
left_next r = left_of_row r

-- and this pends
abbrev pub pending_next : ℕ → CondRow → ℕ
pending_next e (Wait (WaitRow.Release seen)) = 0
pending_next e Awake = e
pending_next e r = pending_at_words e r

-- one access of a call at row r, which meets the cell's word w, leaves w' and leads to l
pub record Fair (t cell held : ℕ) (r : CondRow) (l : CondLed) (w w' : ℕ) : Type 0 where
  pub tells : Tells t (object_of (fields_of w)) (decided_at (row_operation r) (point_of t cell l.decided)) (reply_at (point_of t cell l.decided)) (object_of (fields_of w'))
  pub takes_none : acquires (decided_at (row_operation r) (point_of t cell l.decided)) ≡ false
  pub sound : Sound (object_of (fields_of w'))
  pub waiters : (fields_of w).waiters ≡ true → (fields_of w').waiters ≡ true
  pub needs : Needs t l.row (fields_of w')
  pub stays : IsOf (row_operation r) l.row
  pub room : held ≤ 2048 → Room (held_after held (decided_at (row_operation r) (point_of t cell l.decided)) (reply_at (point_of t cell l.decided))) l.row
  pub fewer : left_next l.row < left_of_row r
  pub pends : (e : ℕ) → pending_next e l.row ≡ pending_at_words e r
  -- another's mutex is left as it is
  pub touched : (w' ≡ w) ⊎ ((fields_of w).owner ≡ t)
  -- only a release frees it, which isn't on its thread's list by then
  pub frees : (m : ℕ) → ((left_out_at m (CondPhase.AtWords r) ≡ None) × ((fields_of w').owner ≡ (fields_of w).owner)) ⊎ ((left_out_at m (CondPhase.AtWords r) ≡ Some m) × ((fields_of w').owner ≡ 0))
  -- whoever leaves it free with WAITERS wakes one, or is about to, or found it so
  pub settles : (fields_of w').owner ≡ 0 → (fields_of w').waiters ≡ true → (wakes_next (CondPhase.AtWords r) ≡ true) ⊎ ((wakes_next (CondPhase.AtWords l.row) ≡ true) ⊎ ((w' ≡ w) × (wakes_next (CondPhase.AtWords r) ≡ false)))

-- ---- first loads

wait_looks : (t cell held w : ℕ) → 1 ≤ t → Sound (object_of (fields_of w)) → Fair t cell held (Wait WaitRow.LoadCell) (wait_sees t (fields_of w)) w w
wait_looks t cell held w pos sound = grind (arith)

signal_looks : (t cell held w : ℕ) → Sound (object_of (fields_of w)) → Fair t cell held (Signal SignalRow.LoadCell) (signal_sees t (fields_of w)) w w
signal_looks t cell held w sound = grind (arith)

broadcast_looks : (t cell held w : ℕ) → Sound (object_of (fields_of w)) → Fair t cell held (Broadcast BroadcastRow.LoadCell) (broadcast_sees t (fields_of w)) w w
broadcast_looks t cell held w sound = grind (arith)

-- ---- loads of the counter

signal_reads : (t cell held w k : ℕ) → 1 ≤ t → Sound (object_of (fields_of w)) → (fields_of w).owner ≡ t → Fair t cell held (Signal SignalRow.LoadCounter) (signal_counts k) w w
signal_reads t cell held w k pos sound own = grind (arith)

broadcast_reads : (t cell held w k : ℕ) → 1 ≤ t → Sound (object_of (fields_of w)) → (fields_of w).owner ≡ t → Fair t cell held (Broadcast BroadcastRow.LoadCounter) (broadcast_counts k) w w
broadcast_reads t cell held w k pos sound own = grind (arith)

-- ---- the release

released : (t cell held w seen : ℕ) → 1 ≤ t → t ≤ most_threads → Sound (object_of (fields_of w)) → (fields_of w).owner ≡ t → (fields_of w).died ≡ false → (b : Bool) → (fields_of w).waiters ≡ b
    → Fair t cell held (Wait (WaitRow.Release seen)) (record { row = if b then Wait (WaitRow.Wake seen) else Wait (WaitRow.Sleep seen); decided = Some (record { operation = Operation.Unlock; reply = OK }) }) w (bit_xor w t)
released t cell held w seen pos last sound own living b is = go b is
  where
    c : Fields
    c = fields_of w

    leaves : (fields_of (bit_xor w t)).waiters ≡ c.waiters
    leaves = ap (λ (d : Fields). d.waiters) (xor_released w t own)

    none : (fields_of (bit_xor w t)).owner ≡ 0
    none = ap (λ (d : Fields). d.owner) (xor_released w t own)

    step : mutex_laws.Right t cell (row.Unlock (UnlockRow.Release false)) (mutex_programs.resume_of t (row.Unlock (UnlockRow.Release false)) (answer_at (mutex_programs.row_access t cell (row.Unlock (UnlockRow.Release false))) w)) w (bit_xor w t)
    step = mutex.right t cell w [] (row.Unlock (UnlockRow.Release false)) pos last tt tt sound (names t c pos own, living)

    tells : Permits (object_of c) t Operation.Unlock OK (object_of (fields_of (bit_xor w t)))
    tells = subst (Permits (object_of c) t Operation.Unlock OK) (sym step.runs.2) step.runs.1

    go : (b : Bool) → c.waiters ≡ b → Fair t cell held (Wait (WaitRow.Release seen)) (record { row = if b then Wait (WaitRow.Wake seen) else Wait (WaitRow.Sleep seen); decided = Some (record { operation = Operation.Unlock; reply = OK }) }) w (bit_xor w t)
    go true on = record { tells = tells; takes_none = refl; sound = step.sound; waiters = λ e. leaves ∙ e; needs = tt; stays = refl; room = λ few. omega arith; fewer = omega arith; pends = λ x. refl; touched = inr own; frees = λ m. inr (refl, none); settles = λ free set. inr (inl refl) }
    go false off = record { tells = tells; takes_none = refl; sound = step.sound; waiters = λ e. leaves ∙ e; needs = tt; stays = refl; room = λ few. omega arith; fewer = omega arith; pends = λ x. refl; touched = inr own; frees = λ m. inr (refl, none); settles = λ free set. absurd (cc (sym leaves ∙ set, off)) }

-- ---- each row in turn
pub fair : (t cell counter held w k : ℕ) (r : CondRow) → 1 ≤ t → t ≤ most_threads → IsGoing r → Sound (object_of (fields_of w)) → Needs t r (fields_of w) → Room held r
    → Fair t cell held r (resume_of t r (answer_at (row_access t cell counter r) (met_word r w k))) w (cell_after t cell counter r w)
fair t cell counter held w k (Wait WaitRow.LoadCell) pos last going sound needs room = wait_looks t cell held w pos sound
fair t cell counter held w k (Wait WaitRow.LoadCounter) pos last going sound needs room = record { tells = refl; takes_none = refl; sound = sound; waiters = λ on. on; needs = needs; stays = refl; room = λ few. tt; fewer = omega arith; pends = λ x. refl; touched = inl refl; frees = λ m. inl (refl, refl); settles = λ free on. inr (inr (refl, refl)) }
fair t cell counter held w k (Wait (WaitRow.Release seen)) pos last going sound needs room = released t cell held w seen pos last sound needs.0 needs.1 (fields_of w).waiters refl
fair t cell counter held w k (Wait (WaitRow.Wake seen)) pos last going sound needs room = record { tells = refl; takes_none = refl; sound = sound; waiters = λ on. on; needs = tt; stays = refl; room = λ few. room; fewer = omega arith; pends = λ x. refl; touched = inl refl; frees = λ m. inl (refl, refl); settles = λ free on. inl refl }
fair t cell counter held w k (Wait (WaitRow.Sleep seen)) pos last going sound needs room = record { tells = refl; takes_none = refl; sound = sound; waiters = λ on. on; needs = tt; stays = refl; room = λ few. room; fewer = omega arith; pends = λ x. refl; touched = inl refl; frees = λ m. inl (refl, refl); settles = λ free on. inr (inr (refl, refl)) }
fair t cell counter held w k (Signal SignalRow.LoadCell) pos last going sound needs room = signal_looks t cell held w sound
fair t cell counter held w k (Signal SignalRow.LoadCounter) pos last going sound needs room = signal_reads t cell held w k pos sound needs
fair t cell counter held w k (Signal SignalRow.Count) pos last going sound needs room = record { tells = (names t (fields_of w) pos needs, refl); takes_none = refl; sound = sound; waiters = λ on. on; needs = needs; stays = refl; room = λ few. tt; fewer = omega arith; pends = λ x. refl; touched = inl refl; frees = λ m. inl (refl, refl); settles = λ free on. inr (inr (refl, refl)) }
fair t cell counter held w k (Signal SignalRow.Wake) pos last going sound needs room = record { tells = refl; takes_none = refl; sound = sound; waiters = λ on. on; needs = tt; stays = tt; room = λ few. tt; fewer = omega arith; pends = λ x. refl; touched = inl refl; frees = λ m. inl (refl, refl); settles = λ free on. inr (inr (refl, refl)) }
fair t cell counter held w k (Broadcast BroadcastRow.LoadCell) pos last going sound needs room = broadcast_looks t cell held w sound
fair t cell counter held w k (Broadcast BroadcastRow.LoadCounter) pos last going sound needs room = broadcast_reads t cell held w k pos sound needs
fair t cell counter held w k (Broadcast (BroadcastRow.Count seen)) pos last going sound needs room = record { tells = (names t (fields_of w) pos needs, refl); takes_none = refl; sound = sound; waiters = λ on. on; needs = needs; stays = refl; room = λ few. tt; fewer = omega arith; pends = λ x. refl; touched = inl refl; frees = λ m. inl (refl, refl); settles = λ free on. inr (inr (refl, refl)) }
fair t cell counter held w k (Broadcast (BroadcastRow.SetWaiters seen)) pos last going sound needs room =
    let set = or_waiting w in
    let same : object_of (fields_of (bit_or w 0x8000_0000)) ≡ object_of (fields_of w) = ap object_of set in
    let owner : (fields_of (bit_or w 0x8000_0000)).owner ≡ (fields_of w).owner = ap (λ (d : Fields). d.owner) set in
    record {
      tells = same;
      takes_none = refl;
      sound = subst Sound (sym same) sound;
      waiters = λ on. ap (λ (d : Fields). d.waiters) set;
      needs = (owner ∙ needs, ap (λ (d : Fields). d.waiters) set);
      stays = refl;
      room = λ few. tt;
      fewer = omega arith;
      pends = λ x. refl;
      touched = inr needs;
      frees = λ m. inl (refl, owner);
      settles = λ free on. absurd (omega (arith, pos, free, owner, needs));
    }
fair t cell counter held w k (Broadcast (BroadcastRow.Move seen)) pos last going sound needs room = record { tells = refl; takes_none = refl; sound = sound; waiters = λ on. on; needs = tt; stays = tt; room = λ few. tt; fewer = omega arith; pends = λ x. refl; touched = inl refl; frees = λ m. inl (refl, refl); settles = λ free on. inr (inr (refl, refl)) }
fair t cell counter held w k Awake pos last going sound needs room = absurd going
fair t cell counter held w k (Ended x) pos last going sound needs room = absurd going
