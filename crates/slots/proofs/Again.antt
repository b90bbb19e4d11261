-- Stores of the entry that is pending already.
use Rattle.std.proofs.Common.{◌≡◌, inl, inr, ℕ, ◌+◌, ◌≤◌, None, [], refl, sym, ap, ◌∙◌, subst, arith}
use Rattle.stepprograms.specs.declared.access.Access.{Access}
use Rattle.memorymap.specs.Layouts.{Layout', entry_place, head_place, address_in, place_in}
use Rattle.mutex.specs.declared.phase.Phase.{Phase}
use Rattle.mutex.specs.Standings.{Whole}
use Rattle.mutex.proofs.Addresses.{head_further, head_word_again}
use Rattle.condvar.specs.declared.op.Op.{Op}
use Rattle.condvar.specs.Ops.{mutex_of}
use Rattle.protocol.specs.declared.thread.Stage.TheVariants.{Calling}
use Rattle.protocol.specs.Machine.{put}
use Rattle.protocol.proofs.Kept.{Kept, Fits, PendsAs, pending_in}
use Rattle.protocol.proofs.Accesses.{fits_in}
use Rattle.protocol.proofs.Places.{mine_is_valid, mine_is_no_cell, mine_is_no_counter}
use Rattle.slots.specs.Places.{cell_of, counter_at}
use Rattle.slots.specs.Rows.{Choice, How, Row, Taking}
use Rattle.slots.specs.Rows.How.{Tried, Later, Waited}
use Rattle.slots.specs.Rows.Before.{Again}
use Rattle.slots.specs.Shown.{Slots, after, memory, shown, shown_as}
use Rattle.slots.specs.Stands.{StandsAs, IsToLook}
use Rattle.slots.specs.Table.{made}
use Rattle.slots.specs.Runs.{awake_after, slept_after, turns_after}
use Rattle.slots.specs.Accesses.{IsAbout, IsAboutIt, IsAtRow, IsPendingAgain, PendingAgainIsNoEvent}
use Rattle.slots.proofs.Free.{reached_kept}
use Rattle.slots.proofs.Looks.{IsQuiet, like_so}
use Rattle.slots.proofs.OneStep.{AreEvents}
use Rattle.slots.proofs.Shows.{no_mutex, no_counter, put_there, shows_same, stores, store_queues}

-- the head's place is shown as it is
pub head_shown : (x : Slots) (t : ℕ) → 1 ≤ t → t ≤ x.machine.layout.threads → shown x (head_place t + 2) ≡ x.machine.words (head_place t + 2)
head_shown x t pos known =
    (λ i. shown_as x (no_mutex l (head_place t + 2) (λ k inside. mine_is_no_cell x.machine t (head_place t + 2) k pos known inside (inr (inl refl))) i) (counter_at l (head_place t + 2)) (x.machine.words (head_place t + 2)))
    ∙ (λ i. shown_as x None (no_counter l (head_place t + 2) (λ k. mine_is_no_counter x.machine t (head_place t + 2) k pos known (inr (inl refl))) i) (x.machine.words (head_place t + 2)))
  where
    l : Layout'
    l = x.machine.layout

module _ (x : Slots) (t : ℕ) (c : Choice) (at : IsAtRow x t) where
  inv : Kept x.machine
  inv = reached_kept x.machine at.reached

  -- it is pending
  is_pending : (m : ℕ) (o : Op) (p : Whole) (f : Phase) → (x.machine.threads t).stage ≡ Calling o p → p.phase ≡ f → mutex_of x.machine.layout o ≡ cell_of m → pending_in p.entry f ≡ p.entry
      → x.machine.words (head_place t + 2) ≡ address_in x.machine.layout t (entry_place x.machine.layout (cell_of m))
  is_pending m o p f is phase about pends =
      let fits : Fits x.machine t (x.machine.threads t).held (mutex_of x.machine.layout o) p = (fits_in x.machine t o p inv at.first at.last is).0 in
      let w : PendsAs (x.machine.words (head_place t + 2)) (Calling o p) = subst (PendsAs (x.machine.words (head_place t + 2))) is (inv.heads t at.first at.last).pending in
      w ∙ ap (pending_in p.entry) phase ∙ pends ∙ fits.entry ∙ ap (λ (k : ℕ). address_in x.machine.layout t (entry_place x.machine.layout k)) about

  -- so storing it changes nothing
  again_so : (m : ℕ) (r next : Row) → IsQuiet r → x.machine.words (head_place t + 2) ≡ address_in x.machine.layout t (entry_place x.machine.layout (cell_of m))
      → AreEvents x t c r (record { access = Access.Store (address_in x.machine.layout t (head_place t + 2)) (address_in x.machine.layout t (entry_place x.machine.layout (cell_of m))); events = []; next = next })
  again_so m r next quiet is = (
    λ p. shows_same x (record (after x []) { turns = turns_after r c x.turns; awake = awake_after r x.awake; slept = slept_after r x.slept; rows = put x.rows t next }) (like_so x t c r next quiet) (λ q. refl) p
        ∙ sym (put_there (shown x) (head_place t + 2) p)
        ∙ ap (λ (v : ℕ). put (shown x) (head_place t + 2) v p) (head_shown x t at.first at.last ∙ is)
        ∙ sym (stores (memory x) t (address_in x.machine.layout t (head_place t + 2)) entry (head_place t + 2) place (mine_is_valid x.machine t (head_place t + 2) at.first at.last (inr (inl refl))) p),
    λ p. sym (store_queues (memory x) t (address_in x.machine.layout t (head_place t + 2)) entry p),
  )
    where
      entry : ℕ
      entry = address_in x.machine.layout t (entry_place x.machine.layout (cell_of m))

      place : place_in x.machine.layout t (address_in x.machine.layout t (head_place t + 2)) ≡ head_place t + 2
      place = ap (place_in x.machine.layout t) (sym (head_further x.machine.layout t inv.layout at.first at.last 2 (omega arith))) ∙ head_word_again x.machine.layout t inv.layout at.first at.last 2 (omega arith)

  abbrev Pends : ℕ → Type 0
  Pends m = x.machine.words (head_place t + 2) ≡ address_in x.machine.layout t (entry_place x.machine.layout (cell_of m))

  to_look : (k : Taking) (h : How) → IsToLook k h (x.machine.threads t).stage → IsAbout x.machine.layout k.mutex (x.machine.threads t).stage → Pends k.mutex
  to_look k Tried (p, is, phase) about = is_pending k.mutex _ p _ is phase refl refl
  to_look k Later (p, is, phase) about = is_pending k.mutex _ p _ is phase refl refl
  to_look k (Waited z) (o, p, is, of, acts, phase) about = is_pending k.mutex _ p _ is phase (subst (IsAbout x.machine.layout k.mutex) is about) refl

  pub again_row : (r : Row) → StandsAs r (x.machine.threads t).stage → IsAboutIt x.machine.layout r (x.machine.threads t).stage → IsPendingAgain r → AreEvents x t c r (made x t c r)
  again_row (Row.Asleep k) there about again = again_so k.mutex (Row.Asleep k) (Row.Sees k) (record { awake = λ a. refl; slept = λ a. refl; turns = λ d a. refl }) (to_look k k.how there about)
  again_row (Row.Late k) (p, is, phase) about again = again_so k.mutex (Row.Late k) (Row.LateSees k) (record { awake = λ a. refl; slept = λ a. refl; turns = λ d a. refl }) (is_pending k.mutex _ p _ is phase refl refl)
  again_row (Row.HeirPends k Again) (p, is, phase) about again = again_so k.mutex (Row.HeirPends k Again) (Row.HeirSets k) (record { awake = λ a. refl; slept = λ a. refl; turns = λ d a. refl }) (is_pending k.mutex _ p _ is phase refl refl)
  again_row (Row.HeirPendsOn k v over) (p, is, phase) about again = again_so k.mutex (Row.HeirPendsOn k v over) (made x t c (Row.HeirPendsOn k v over)).next (record { awake = λ a. refl; slept = λ a. refl; turns = λ d a. refl }) (is_pending k.mutex _ p _ is phase refl refl)
  again_row (Row.WaitAsleep m k n timed) ((o, p, is, of, acts, phase), due) about again = again_so m (Row.WaitAsleep m k n timed) (made x t c (Row.WaitAsleep m k n timed)).next (record { awake = λ a. refl; slept = λ a. refl; turns = λ d a. refl }) (is_pending m _ p _ is phase (subst (IsAbout x.machine.layout m) is about) refl)
  again_row r there about again = absurd again

pub pending_again : PendingAgainIsNoEvent
pending_again x t c at again = let both = again_row x t c at (x.rows t) at.there at.about again in record { words = both.0; queues = both.1 }
