-- One access of a call is a step of the mutex as an object, or leaves it, and leaves what the next row needs.
use Rattle.std.proofs.Common.{◌≡◌, ◌≢◌, ℕ, ◌+◌, ◌≤◌, ◌==◌, ◌%◌, ◌^◌, Bool, true, false, not, Some, [], refl, sym, ap, ◌∙◌, subst, arith, eqb-true, bit_or}
use Rattle.std.specs.Prelude.{if◌then◌else◌}
use Rattle.std.proofs.lemmas.Bool.{eqb-false}
use Rattle.lockword.specs.Cells.{Fields, fields_of}
use Rattle.lockword.proofs.Bits.{xor_released, or_waiting}
use Rattle.lockword.specs.declared.reply.Reply.TheVariants.{EPERM, XFULL, XSTATE}
use Rattle.stepprograms.specs.declared.access.Access.TheVariants as access
use Rattle.posixmutex.specs.declared.point.Operation.TheVariants as operation
use Rattle.posixmutex.specs.Objects.{object_of, owner_of}
use Rattle.posixmutex.proofs.Owners.{owner_of-some, owner_of-is}
use Rattle.mutex.specs.declared.unlock.UnlockRow.TheVariants as unlock
use Rattle.mutex.specs.declared.row.Row.TheVariants as row
use Rattle.mutex.specs.Laws.{Sound}
use Rattle.mutex.proofs.Rights as mutex
use Rattle.condvar.specs.declared.wait.WaitRow.TheVariants as wait
use Rattle.condvar.specs.declared.signal.SignalRow.TheVariants as signal
use Rattle.condvar.specs.declared.broadcast.BroadcastRow.TheVariants as broadcast
use Rattle.condvar.specs.declared.row.CondRow.TheVariants.{Wait, Signal, Broadcast, Awake, Ended}
use Rattle.condvar.specs.Rows.{goes, ends, full}
use Rattle.condvar.specs.Wait.{wait_sees}
use Rattle.condvar.specs.Signal.{signal_sees, signal_counts}
use Rattle.condvar.specs.Broadcast.{broadcast_sees, broadcast_counts}
use Rattle.condvar.specs.Laws.{Expects, IsOf, Right, CallsAreRight, AccessesAreThere, MovesAreRight, NeedsAreOwned}
use Rattle.lockword.specs.Threads.{most_threads}

-- who owns a cell, as an object
pub names : (t : ℕ) (c : Fields) → 1 ≤ t → c.owner ≡ t → owner_of c.owner ≡ Some t
names t c pos own = ap owner_of own ∙ owner_of-some t pos

-- who doesn't
pub names_not : (t : ℕ) (c : Fields) → (c.owner == t) ≡ false → owner_of c.owner ≢ Some t
names_not t c e = λ is. eqb-false c.owner t e (owner_of-is c.owner t is)

-- a wait looks at the cell
wait_looks : (t cell w k : ℕ) → 1 ≤ t → k ≤ full → Sound (object_of (fields_of w)) → Right t cell (Wait wait.LoadCell) (wait_sees t (fields_of w)) w k w k
wait_looks t cell w k pos small sound = go (c.owner == t) refl c.died refl
  where
    c : Fields
    c = fields_of w

    go : (b : Bool) → (c.owner == t) ≡ b → (d : Bool) → c.died ≡ d → Right t cell (Wait wait.LoadCell) (if not b then ends operation.Wait EPERM else if d then ends operation.Wait XSTATE else goes (Wait wait.LoadCounter)) w k w k
    go false e d ed = record { runs = (object_of c, (names_not t c e, refl), refl); sound = sound; waiters = λ on. on; counts = omega arith; within = small; is_full = tt; expects = tt; stays = tt }
    go true e true ed = record { runs = (object_of c, (names t c pos (eqb-true c.owner t e), ed, refl), refl); sound = sound; waiters = λ on. on; counts = omega arith; within = small; is_full = tt; expects = tt; stays = tt }
    go true e false ed = record { runs = refl; sound = sound; waiters = λ on. on; counts = omega arith; within = small; is_full = tt; expects = (eqb-true c.owner t e, ed); stays = refl }

-- a signal
signal_looks : (t cell w k : ℕ) → 1 ≤ t → k ≤ full → Sound (object_of (fields_of w)) → Right t cell (Signal signal.LoadCell) (signal_sees t (fields_of w)) w k w k
signal_looks t cell w k pos small sound = go (c.owner == t) refl
  where
    c : Fields
    c = fields_of w

    go : (b : Bool) → (c.owner == t) ≡ b → Right t cell (Signal signal.LoadCell) (if not b then ends operation.Signal EPERM else goes (Signal signal.LoadCounter)) w k w k
    go false e = record { runs = (object_of c, (names_not t c e, refl), refl); sound = sound; waiters = λ on. on; counts = omega arith; within = small; is_full = tt; expects = tt; stays = tt }
    go true e = record { runs = refl; sound = sound; waiters = λ on. on; counts = omega arith; within = small; is_full = tt; expects = eqb-true c.owner t e; stays = refl }

-- and a broadcast
broadcast_looks : (t cell w k : ℕ) → 1 ≤ t → k ≤ full → Sound (object_of (fields_of w)) → Right t cell (Broadcast broadcast.LoadCell) (broadcast_sees t (fields_of w)) w k w k
broadcast_looks t cell w k pos small sound = go (c.owner == t) refl
  where
    c : Fields
    c = fields_of w

    go : (b : Bool) → (c.owner == t) ≡ b → Right t cell (Broadcast broadcast.LoadCell) (if not b then ends operation.Broadcast EPERM else goes (Broadcast broadcast.LoadCounter)) w k w k
    go false e = record { runs = (object_of c, (names_not t c e, refl), refl); sound = sound; waiters = λ on. on; counts = omega arith; within = small; is_full = tt; expects = tt; stays = tt }
    go true e = record { runs = refl; sound = sound; waiters = λ on. on; counts = omega arith; within = small; is_full = tt; expects = eqb-true c.owner t e; stays = refl }

-- a signal looks at the counter
signal_reads : (t cell w k : ℕ) → 1 ≤ t → k ≤ full → Sound (object_of (fields_of w)) → (fields_of w).owner ≡ t → Right t cell (Signal signal.LoadCounter) (signal_counts k) w k w k
signal_reads t cell w k pos small sound own = go (k == full) refl
  where
    c : Fields
    c = fields_of w

    go : (b : Bool) → (k == full) ≡ b → Right t cell (Signal signal.LoadCounter) (if b then ends operation.Signal XFULL else goes (Signal signal.Count)) w k w k
    go true e = record { runs = (object_of c, (names t c pos own, refl), refl); sound = sound; waiters = λ on. on; counts = omega arith; within = small; is_full = eqb-true k full e; expects = tt; stays = tt }
    go false e = record { runs = refl; sound = sound; waiters = λ on. on; counts = omega arith; within = small; is_full = tt; expects = (own, eqb-false k full e); stays = refl }

-- a broadcast, which keeps its low half
broadcast_reads : (t cell w k : ℕ) → 1 ≤ t → k ≤ full → Sound (object_of (fields_of w)) → (fields_of w).owner ≡ t → Right t cell (Broadcast broadcast.LoadCounter) (broadcast_counts k) w k w k
broadcast_reads t cell w k pos small sound own = go (k == full) refl
  where
    c : Fields
    c = fields_of w

    go : (b : Bool) → (k == full) ≡ b → Right t cell (Broadcast broadcast.LoadCounter) (if b then ends operation.Broadcast XFULL else goes (Broadcast (broadcast.Count (k % 2 ^ 32)))) w k w k
    go true e = record { runs = (object_of c, (names t c pos own, refl), refl); sound = sound; waiters = λ on. on; counts = omega arith; within = small; is_full = eqb-true k full e; expects = tt; stays = tt }
    go false e = record { runs = refl; sound = sound; waiters = λ on. on; counts = omega arith; within = small; is_full = tt; expects = (own, eqb-false k full e, omega arith); stays = refl }

-- what follows a release needs nothing, and is a wait
released_expects : (t seen k : ℕ) (b : Bool) (d : Fields) → Expects t (if b then Wait (wait.Wake seen) else Wait (wait.Sleep seen)) d k
released_expects t seen k true d = tt
released_expects t seen k false d = tt

released_stays : (seen : ℕ) (b : Bool) → IsOf operation.Wait (if b then Wait (wait.Wake seen) else Wait (wait.Sleep seen))
released_stays seen true = refl
released_stays seen false = refl

-- each row in turn
pub right : CallsAreRight
right t cell counter w k (Wait wait.LoadCell) pos last going small sound expected = wait_looks t cell w k pos small sound
right t cell counter w k (Wait wait.LoadCounter) pos last going small sound expected = record { runs = refl; sound = sound; waiters = λ on. on; counts = omega arith; within = small; is_full = tt; expects = expected; stays = refl }
right t cell counter w k (Wait (wait.Release seen)) pos last going small sound expected =
    let c = fields_of w in
    let own = expected.0 in
    let leaves = xor_released w t own in
    let step = mutex.right t cell w [] (row.Unlock (unlock.Release false)) pos last tt tt sound (names t c pos own, expected.1) in
    record {
      runs = step.runs;
      sound = step.sound;
      waiters = λ on. ap (λ (d : Fields). d.waiters) leaves ∙ on;
      counts = omega arith;
      within = small;
      is_full = tt;
      expects = released_expects t seen k c.waiters _;
      stays = released_stays seen c.waiters;
    }
right t cell counter w k (Wait (wait.Wake seen)) pos last going small sound expected = record { runs = refl; sound = sound; waiters = λ on. on; counts = omega arith; within = small; is_full = tt; expects = tt; stays = refl }
right t cell counter w k (Wait (wait.Sleep seen)) pos last going small sound expected = record { runs = refl; sound = sound; waiters = λ on. on; counts = omega arith; within = small; is_full = tt; expects = tt; stays = refl }
right t cell counter w k (Signal signal.LoadCell) pos last going small sound expected = signal_looks t cell w k pos small sound
right t cell counter w k (Signal signal.LoadCounter) pos last going small sound expected = signal_reads t cell w k pos small sound expected
right t cell counter w k (Signal signal.Count) pos last going small sound expected =
    let c = fields_of w in
    let below = expected.1 in
    record {
      runs = (object_of c, (names t c pos expected.0, refl), refl);
      sound = sound;
      waiters = λ on. on;
      counts = omega arith;
      within = omega arith;
      is_full = tt;
      expects = expected.0;
      stays = refl;
    }
right t cell counter w k (Signal signal.Wake) pos last going small sound expected = record { runs = refl; sound = sound; waiters = λ on. on; counts = omega arith; within = small; is_full = tt; expects = tt; stays = tt }
right t cell counter w k (Broadcast broadcast.LoadCell) pos last going small sound expected = broadcast_looks t cell w k pos small sound
right t cell counter w k (Broadcast broadcast.LoadCounter) pos last going small sound expected = broadcast_reads t cell w k pos small sound expected
right t cell counter w k (Broadcast (broadcast.Count seen)) pos last going small sound expected =
    let c = fields_of w in
    let below = expected.1 in
    let is = expected.2 in
    record {
      runs = (object_of c, (names t c pos expected.0, refl), refl);
      sound = sound;
      waiters = λ on. on;
      counts = omega arith;
      within = omega arith;
      is_full = tt;
      expects = (expected.0, omega arith);
      stays = refl;
    }
right t cell counter w k (Broadcast (broadcast.SetWaiters seen)) pos last going small sound expected =
    let after = or_waiting w in
    let same : object_of (fields_of (bit_or w 0x8000_0000)) ≡ object_of (fields_of w) = ap object_of after in
    record {
      runs = same;
      sound = subst Sound (sym same) sound;
      waiters = λ on. ap (λ (d : Fields). d.waiters) after;
      counts = omega arith;
      within = small;
      is_full = tt;
      expects = (ap (λ (d : Fields). d.owner) after ∙ expected.0, expected.1, ap (λ (d : Fields). d.waiters) after);
      stays = refl;
    }
right t cell counter w k (Broadcast (broadcast.Move seen)) pos last going small sound expected = record { runs = refl; sound = sound; waiters = λ on. on; counts = omega arith; within = small; is_full = tt; expects = tt; stays = tt }
right t cell counter w k Awake pos last going small sound expected = absurd going
right t cell counter w k (Ended x) pos last going small sound expected = absurd going

-- where each access is
pub there : AccessesAreThere
there t cell counter (Wait wait.LoadCell) = refl
there t cell counter (Wait wait.LoadCounter) = refl
there t cell counter (Wait (wait.Release seen)) = refl
there t cell counter (Wait (wait.Wake seen)) = refl
there t cell counter (Wait (wait.Sleep seen)) = refl
there t cell counter (Signal signal.LoadCell) = refl
there t cell counter (Signal signal.LoadCounter) = refl
there t cell counter (Signal signal.Count) = refl
there t cell counter (Signal signal.Wake) = refl
there t cell counter (Broadcast broadcast.LoadCell) = refl
there t cell counter (Broadcast broadcast.LoadCounter) = refl
there t cell counter (Broadcast (broadcast.Count seen)) = refl
there t cell counter (Broadcast (broadcast.SetWaiters seen)) = refl
there t cell counter (Broadcast (broadcast.Move seen)) = refl
there t cell counter Awake = refl
there t cell counter (Ended x) = refl

-- a move compares the counter with what it is
pub moves : MovesAreRight
moves t cell counter seen k c small e =
    let is = e.1 in
    let same : (seen + 1) % 2 ^ 32 ≡ k % 2 ^ 32 = omega arith in
    (ap (λ (v : ℕ). access.CmpRequeue counter v 0 cell most_threads) same, e.0, e.2)

-- what is needed of an owned mutex stays
pub owned : NeedsAreOwned
owned t (Wait wait.LoadCell) c d k j keep e = tt
owned t (Wait wait.LoadCounter) c d k j keep e = let s = keep e.0 in (s.0 ∙ e.0, s.1 ∙ e.1)
owned t (Wait (wait.Release seen)) c d k j keep e = let s = keep e.0 in (s.0 ∙ e.0, s.1 ∙ e.1)
owned t (Wait (wait.Wake seen)) c d k j keep e = tt
owned t (Wait (wait.Sleep seen)) c d k j keep e = tt
owned t (Signal signal.LoadCell) c d k j keep e = tt
owned t (Signal signal.LoadCounter) c d k j keep e = (keep e).0 ∙ e
owned t (Signal signal.Count) c d k j keep e = let s = keep e.0 in (s.0 ∙ e.0, λ is. e.1 (sym s.2 ∙ is))
owned t (Signal signal.Wake) c d k j keep e = (keep e).0 ∙ e
owned t (Broadcast broadcast.LoadCell) c d k j keep e = tt
owned t (Broadcast broadcast.LoadCounter) c d k j keep e = (keep e).0 ∙ e
owned t (Broadcast (broadcast.Count seen)) c d k j keep e = let s = keep e.0 in (s.0 ∙ e.0, (λ is. e.1 (sym s.2 ∙ is)), s.2 ∙ e.2)
owned t (Broadcast (broadcast.SetWaiters seen)) c d k j keep e = let s = keep e.0 in (s.0 ∙ e.0, s.2 ∙ e.1)
owned t (Broadcast (broadcast.Move seen)) c d k j keep e = let s = keep e.0 in (s.0 ∙ e.0, s.2 ∙ e.1, s.3 e.2)
owned t Awake c d k j keep e = tt
owned t (Ended x) c d k j keep e = tt
