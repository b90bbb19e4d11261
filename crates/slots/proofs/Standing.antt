-- A thread that is where its row says is an heir if it has AWAKE set.
use Rattle.std.proofs.Common.{◌≡◌, ℕ, ◌≤◌, true, false, Some, subst}
use Rattle.lockword.specs.declared.reply.Reply.{Reply}
use Rattle.mutex.specs.declared.call.Call.TheVariants.{TimedLock}
use Rattle.mutex.specs.declared.lock.LockRow.TheVariants as lock
use Rattle.mutex.specs.declared.phase.Phase.{Phase}
use Rattle.mutex.specs.declared.phase.Phase.TheVariants.{Linking}
use Rattle.condvar.specs.declared.op.Op.TheVariants.{OnMutex}
use Rattle.protocol.specs.Headline.{seen}
use Rattle.protocol.specs.Machine.{State, stands_in}
use Rattle.protocol.proofs.Kept.{Kept, InPhase}
use Rattle.protocol.proofs.Accesses.{fits_in}
use Rattle.slots.specs.Places.{cell_of, slot_of}
use Rattle.slots.specs.Rows.{Row}
use Rattle.slots.specs.Rows.Before.{Again}
use Rattle.slots.specs.Stands.{IsIn, IsLinking, at_load, StandsAs, HasSlot, MayBeAwake, HasMarked}
use Rattle.slots.specs.Invariant.{IsHeir, fields_at}
use Rattle.slots.specs.Invariant.IsHeir.{Looks, HasTaken}
use Rattle.slots.specs.Laws.{StandingHeirsAnswer}
use Rattle.slots.proofs.Free.{reached_kept}

module _ (s : State) (u : ℕ) (inv : Kept s) (pos : 1 ≤ u) (known : u ≤ s.layout.threads) where
  looking : (k : ℕ) → IsIn (TimedLock k) at_load (s.threads u).stage → ((key : ℕ) → stands_in u (s.queues key) ≡ false) → IsHeir s k u
  looking k there out = Looks there.0 lock.Load there.1 there.2 out

  taking : (k : ℕ) (r : Reply) → IsLinking (TimedLock k) r (s.threads u).stage → IsHeir s k u
  taking k r (l, (p, is, at)) = HasTaken p l r is at (owner_of (subst (λ (f : Phase). InPhase u (s.threads u).held p f (seen s k)) at (fits_in s u (OnMutex (TimedLock k)) p inv pos known is).0.stands))
    where
      owner_of : InPhase u (s.threads u).held p (Linking l r) (seen s k) → (seen s k).owner ≡ Some u
      owner_of h = h.3

  heir_at : (m : ℕ) (r : Row) → StandsAs r (s.threads u).stage → HasSlot r m → MayBeAwake r → (HasMarked r → (fields_at s (slot_of m)).died ≡ true) → ((key : ℕ) → stands_in u (s.queues key) ≡ false) → (fields_at s (slot_of m)).died ≡ false → IsHeir s (cell_of m) u
  heir_at m (Row.SlotLinks k d) stands has awake marked out alive = absurd (cc (marked awake, alive))
  heir_at m (Row.SlotClears k) stands has awake marked out alive = absurd (cc (marked tt, alive))
  heir_at m (Row.SlotQuiets k) stands has awake marked out alive = absurd (cc (marked tt, alive))
  heir_at m (Row.HeirPends k Again) stands has awake marked out alive = subst (λ (j : ℕ). IsHeir s (cell_of j) u) has (looking (cell_of k.mutex) stands out)
  heir_at m (Row.HeirSets k) stands has awake marked out alive = subst (λ (j : ℕ). IsHeir s (cell_of j) u) has (looking (cell_of k.mutex) stands out)
  heir_at m (Row.HeirLooks k) stands has awake marked out alive = subst (λ (j : ℕ). IsHeir s (cell_of j) u) has (looking (cell_of k.mutex) stands out)
  heir_at m (Row.HeirPendsOn k v over) stands has awake marked out alive = subst (λ (j : ℕ). IsHeir s (cell_of j) u) has (looking (cell_of k.mutex) stands out)
  heir_at m (Row.HeirTakes k v) stands has awake marked out alive = subst (λ (j : ℕ). IsHeir s (cell_of j) u) has (looking (cell_of k.mutex) stands out)
  heir_at m (Row.GivesUp k) stands has awake marked out alive = subst (λ (j : ℕ). IsHeir s (cell_of j) u) has (looking (cell_of k.mutex) stands out)
  heir_at m (Row.HeirHas k r) stands has awake marked out alive = subst (λ (j : ℕ). IsHeir s (cell_of j) u) has (taking (cell_of k.mutex) r stands)
  heir_at m r stands has awake marked out alive = absurd awake

pub standing_heirs : StandingHeirsAnswer
standing_heirs x u m reached pos known stands on own alive =
    let has = stands.alone m own in
    let awake = stands.quiet m has on in
    heir_at x.machine u (reached_kept x.machine reached) pos known m (x.rows u) stands.stage has awake (stands.marked m has) (stands.out awake) alive
