-- After a release, a slot that shows an heir lets the machine leave the wake to that heir.
use Rattle.std.proofs.Common.{◌≡◌, ℕ, Bool, true, false, refl, sym, ◌∙◌}
use Rattle.std.specs.Prelude.{slice_index}
use Rattle.lockword.specs.declared.reply.Reply.TheVariants.{OK}
use Rattle.memorymap.specs.Layouts.{Layout', cell_place}
use Rattle.mutex.specs.declared.call.Call.TheVariants.{Unlock}
use Rattle.mutex.specs.declared.phase.Phase.TheVariants.{Clearing}
use Rattle.condvar.specs.Ops.{mutex_of}
use Rattle.condvar.specs.declared.op.Op.TheVariants.{OnMutex, OnCondition}
use Rattle.condvar.specs.declared.phase.CondPhase.TheVariants.{AtWords}
use Rattle.condvar.specs.declared.row.CondRow.TheVariants.{Wait}
use Rattle.condvar.specs.declared.wait.WaitRow.TheVariants.{Sleep}
use Rattle.protocol.specs.declared.thread.Stage.TheVariants.{AtCondition, Calling}
use Rattle.protocol.specs.Machine.{is_left_to}
use Rattle.protocol.specs.Spares.WakesOneOf.{In_unlock, In_wait}
use Rattle.slots.specs.Places.{cell_of, slot_of}
use Rattle.slots.specs.Rows.{Giving}
use Rattle.slots.specs.Rows.Giving.{OfUnlock, OfWait}
use Rattle.slots.specs.Shown.{Slots, shown}
use Rattle.slots.specs.Stands.{IsWaking}
use Rattle.slots.specs.Words.{shows_heir}
use Rattle.slots.specs.Seen.{heir_of, wait_of}
use Rattle.slots.specs.Invariant.{HasRoom, HeirsAnswer, SlotIsQuiet}
use Rattle.slots.specs.Laws.{IsReached}
use Rattle.slots.specs.Fits.{GivesOurs}
use Rattle.slots.proofs.Heirs.{left_to}
use Rattle.slots.proofs.Owned.{our_cell, our_slot}

waking : (l : Layout') (k : ℕ) (timed : Bool) → mutex_of l (OnCondition (wait_of k timed)) ≡ slice_index l.conditions k
waking l k true = refl
waking l k false = refl

pub taken_over : (x : Slots) (t m : ℕ) (y : Giving) → IsReached x.machine → GivesOurs x.machine.layout m y → IsWaking m y (x.machine.threads t).stage
    → HasRoom x.machine (slot_of m) → SlotIsQuiet x.machine m → HeirsAnswer x
    → shows_heir (shown x (cell_place x.machine.layout (slot_of m))) ≡ true → is_left_to x.machine t (cell_of m) (heir_of x.machine t (cell_of m)) ≡ true
taken_over x t m (OfUnlock d) reached ours (p, is, at) room quiet heirs shows = (left_to x t m (Calling (OnMutex (Unlock (cell_of m))) (record p { phase = Clearing OK })) reached ours (our_cell x.machine.layout m ours) (our_slot x.machine.layout m ours) room quiet heirs shows (In_unlock (OnMutex (Unlock (cell_of m))) p is refl at refl)).1
taken_over x t m (OfWait k n slept timed) reached o (p, is, at) room quiet heirs shows = (left_to x t m (AtCondition (wait_of k timed) (record p { phase = AtWords (Wait (Sleep n)) })) reached o.ours (our_cell x.machine.layout m o.ours) (our_slot x.machine.layout m o.ours) room quiet heirs shows (In_wait (wait_of k timed) p n is (sym (waking x.machine.layout k timed ∙ o.cell.cell)) at refl)).1
