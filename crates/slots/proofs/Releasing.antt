-- An unlock or a wait begins, finds that its thread owns the mutex, and announces it: one store of the pending word.
use Rattle.std.proofs.Common.{◌≡◌, ℕ, ◌+◌, ◌%◌, ◌^◌, ◌<◌, ◌≤◌, ◌==◌, Bool, true, false, List, [], ◌∷◌, ◌++◌, length, refl, sym, ap, ◌∙◌, subst, arith, eq-eqb}
use Rattle.std.specs.Prelude.{nat_lt, slice_index, ◌&&◌}
use Rattle.std.proofs.lemmas.Bool.Decides.{nat_tests}
use Rattle.lockword.specs.Cells.{Fields, fields_of}
use Rattle.lockword.specs.declared.reply.Reply.{Reply}
use Rattle.lockword.specs.declared.reply.Reply.TheVariants.{ETIMEDOUT}
use Rattle.stepprograms.specs.declared.access.Access.{Access}
use Rattle.posixmutex.specs.Objects.{acquires}
use Rattle.posixmutex.specs.declared.point.Operation.TheVariants as operation
use Rattle.memorymap.specs.Layouts.{address_in, cell_place, counter_place, head_place}
use Rattle.robustlist.specs.Unlink.{unlink_started}
use Rattle.mutex.specs.declared.call.Call.TheVariants.{TimedLock, Unlock}
use Rattle.mutex.specs.declared.phase.Phase.TheVariants.{Announcing, AtCell, Clearing, Unlinking}
use Rattle.mutex.specs.declared.row.Row as mutex_rows
use Rattle.mutex.specs.declared.row.Row.TheVariants as mutex_row
use Rattle.mutex.specs.declared.unlock.UnlockRow.TheVariants as unlock
use Rattle.mutex.specs.Unlock.{unlock_sees}
use Rattle.mutex.specs.Rows.{goes}
use Rattle.mutex.specs.Whole.{from_cell, onward, pending_place}
use Rattle.condvar.specs.declared.call.CondCall.{CondCall}
use Rattle.condvar.specs.declared.phase.CondPhase.{CondPhase}
use Rattle.condvar.specs.declared.row.CondRow.TheVariants as cond_row
use Rattle.condvar.specs.declared.wait.WaitRow.TheVariants as wait
use Rattle.condvar.specs.Calls.{acts_as, condition_of}
use Rattle.condvar.specs.Programs as condition_programs
use Rattle.condvar.specs.Wait.{wait_sees}
use Rattle.condvar.specs.Rows as cond_rows
use Rattle.condvar.specs.Standings.{CondWhole}
use Rattle.condvar.specs.Whole as condition
use Rattle.condvar.specs.Whole.{from_words}
use Rattle.condvar.specs.declared.op.Op.TheVariants.{OnMutex, OnCondition}
use Rattle.condvar.specs.Ops.{may_call, operation_of}
use Rattle.protocol.specs.declared.event.Event.{Event}
use Rattle.protocol.specs.declared.event.Event.TheVariants.{Begin, Step}
use Rattle.protocol.specs.declared.thread.Stage.TheVariants.{Idle, Calling, AtCondition}
use Rattle.protocol.specs.Machine.{State, put, stands_in}
use Rattle.protocol.proofs.Kept.{Kept}
use Rattle.protocol.proofs.CondSteps.{cond_of}
use Rattle.protocol.proofs.Places.{head_is_no_cell}
use Rattle.protocol.proofs.Puts.{put-other}
use Rattle.protocol.proofs.Seeing.{cell_in, counter_in, entry_in, head_in, cell_again, counter_again}
use Rattle.slots.specs.Places.{cell_of, slot_of}
use Rattle.slots.specs.Rows.{Choice, Onward, Row}
use Rattle.slots.specs.Rows.Giving.{OfUnlock, OfWait}
use Rattle.slots.specs.Rows.Onward.{Fails, Has, Sleeps}
use Rattle.slots.specs.Shown.{Slots}
use Rattle.slots.specs.Stands.{IsFreeing, StandsAs}
use Rattle.slots.specs.Seen.{frees, wait_of}
use Rattle.slots.specs.Table.{giving_begins, made}
use Rattle.slots.specs.Invariant.{fields_at}
use Rattle.slots.specs.Accesses.{IsAtRow}
use Rattle.slots.specs.Further.{IsOfCell, OwnsInside, IsToRelease, AnnouncedReleasesAreEvents}
use Rattle.slots.proofs.Chains.{announces_more, clears_more, head_there, still_head}
use Rattle.slots.proofs.Free.{reached_kept}
use Rattle.slots.proofs.Leading.{IsAt, Leads, begins_more, call_at, cond_loads, cond_more, is_at, loads_more, on, put_back, put_over, stays, unmoved}
use Rattle.slots.proofs.Looks.{IsQuiet}
use Rattle.slots.proofs.Meets.{pending_events}
use Rattle.slots.proofs.OneStep.{AreEvents}

sees_own : (t : ℕ) (c : Fields) → (c.owner == t) ≡ true → unlock_sees t c ≡ goes (mutex_row.Unlock (unlock.Release c.died))
sees_own t c own = grind (arith)

waits_own : (t : ℕ) (c : Fields) → (c.owner == t) ≡ true → c.died ≡ false → wait_sees t c ≡ cond_rows.goes (cond_row.Wait wait.LoadCounter)
waits_own t c own well = grind (arith)

module _ (s : State) (t : ℕ) (pos : 1 ≤ t) (known : t ≤ s.layout.threads) (inv : Kept s) where
  abbrev hp : ℕ
  hp = head_place t + 2

  -- the word is as it was, whatever is pending
  pub cell_stays : (w : ℕ → ℕ) (v j : ℕ) → put w hp v (cell_place s.layout j) ≡ w (cell_place s.layout j)
  cell_stays w v j = put-other w hp v (cell_place s.layout j) (λ e. head_is_no_cell s.layout t j 2 pos known (omega arith) (sym e))

  module _ (es : List Event) (w : ℕ → ℕ) (q : ℕ → List ℕ) (h : ℕ) (out : (key : ℕ) → stands_in t (q key) ≡ false) (l : Leads s t es w q (on Idle h)) where
    -- an unlock
    pub unlock_more : (k : ℕ) → k < s.layout.mutexes → (fields_of (w (cell_place s.layout k))).owner ≡ t
        → Leads s t (((es ++ Begin t (OnMutex (Unlock k)) ∷ []) ++ Step t ∷ []) ++ Step t ∷ []) (put w hp (entry_in s.layout t k)) q
        (on (Calling (OnMutex (Unlock k)) (call_at s.layout t operation.Unlock k (Unlinking (unlink_started (head_in s.layout t) (entry_in s.layout t k)) (fields_of (w (cell_place s.layout k))).died))) h)
    unlock_more k inside own = announces_more s t pos known inv.layout ((es ++ Begin t (OnMutex (Unlock k)) ∷ []) ++ Step t ∷ []) w q h out (OnMutex (Unlock k)) operation.Unlock k release
        (Unlinking (unlink_started (head_in s.layout t) (entry_in s.layout t k)) c.died) looked refl refl
      where
        c : Fields
        c = fields_of (w (cell_place s.layout k))

        release : mutex_rows.Row
        release = mutex_row.Unlock (unlock.Release c.died)

        below : nat_lt k s.layout.mutexes ≡ true
        below = grind (arith, nat_tests)

        begun : Leads s t (es ++ Begin t (OnMutex (Unlock k)) ∷ []) w q (on (Calling (OnMutex (Unlock k)) (call_at s.layout t operation.Unlock k (AtCell (mutex_row.Unlock unlock.Load)))) h)
        begun = begins_more s t es w q h pos known l (OnMutex (Unlock k)) below refl

        looked : Leads s t ((es ++ Begin t (OnMutex (Unlock k)) ∷ []) ++ Step t ∷ []) w q (on (Calling (OnMutex (Unlock k)) (call_at s.layout t operation.Unlock k (Announcing release))) h)
        looked = loads_more s t (es ++ Begin t (OnMutex (Unlock k)) ∷ []) w q (OnMutex (Unlock k)) (call_at s.layout t operation.Unlock k (AtCell (mutex_row.Unlock unlock.Load))) h pos known begun out (cell_in s.layout t k) (cell_place s.layout k)
            (onward (Announcing release)) (on (Calling (OnMutex (Unlock k)) (call_at s.layout t operation.Unlock k (Announcing release))) h)
            refl (cell_again s.layout t inv.layout pos known k inside) (ap (from_cell (call_at s.layout t operation.Unlock k (AtCell (mutex_row.Unlock unlock.Load)))) (sees_own t c (eq-eqb c.owner t own))) refl (unmoved operation.Unlock h)

  -- a wait, at its first look
  module _ (es : List Event) (w : ℕ → ℕ) (q : ℕ → List ℕ) (h : ℕ) (o : CondCall) (l : Leads s t es w q (on (AtCondition o (cond_of s.layout t o (CondPhase.AtWords (cond_row.Wait wait.LoadCell)))) h)) (there : condition_of o < length s.layout.conditions)
      (inside : condition_programs.mutex_of s.layout o < s.layout.mutexes) (own : (fields_of (w (cell_place s.layout (condition_programs.mutex_of s.layout o)))).owner ≡ t) (well : (fields_of (w (cell_place s.layout (condition_programs.mutex_of s.layout o)))).died ≡ false) where
    abbrev k : ℕ
    k = condition_programs.mutex_of s.layout o

    abbrev at : CondPhase → CondWhole
    at f = cond_of s.layout t o f

    abbrev n : ℕ
    n = w (counter_place s.layout (condition_of o)) % 2 ^ 32

    abbrev owned : Fields
    owned = fields_of (w (cell_place s.layout k))

    sees_it : Leads s t (es ++ Step t ∷ []) w q (on (AtCondition o (at (CondPhase.AtWords (cond_row.Wait wait.LoadCounter)))) h)
    sees_it = cond_loads s t es w q o (at (CondPhase.AtWords (cond_row.Wait wait.LoadCell))) h pos known l (cell_in s.layout t k) (cell_place s.layout k)
        (condition.onward (CondPhase.AtWords (cond_row.Wait wait.LoadCounter))) (on (AtCondition o (at (CondPhase.AtWords (cond_row.Wait wait.LoadCounter)))) h)
        refl (cell_again s.layout t inv.layout pos known k inside) (ap (from_words (at (CondPhase.AtWords (cond_row.Wait wait.LoadCell)))) (waits_own t owned (eq-eqb owned.owner t own) well)) refl (unmoved (acts_as o) h)

    counts_it : Leads s t ((es ++ Step t ∷ []) ++ Step t ∷ []) w q (on (AtCondition o (at (CondPhase.Announcing n))) h)
    counts_it = cond_loads s t (es ++ Step t ∷ []) w q o (at (CondPhase.AtWords (cond_row.Wait wait.LoadCounter))) h pos known sees_it (counter_in s.layout t (condition_of o)) (counter_place s.layout (condition_of o))
        (condition.onward (CondPhase.Announcing n)) (on (AtCondition o (at (CondPhase.Announcing n))) h)
        refl (counter_again s.layout t inv.layout pos known (condition_of o) there) refl refl (unmoved (acts_as o) h)

    pub wait_more : Leads s t (((es ++ Step t ∷ []) ++ Step t ∷ []) ++ Step t ∷ []) (put w hp (entry_in s.layout t k)) q (on (AtCondition o (at (CondPhase.Unlinking (unlink_started (head_in s.layout t) (entry_in s.layout t k)) n))) h)
    wait_more = cond_more s t ((es ++ Step t ∷ []) ++ Step t ∷ []) w q o (at (CondPhase.Announcing n)) h pos known counts_it (Access.Store (pending_place (head_in s.layout t)) (entry_in s.layout t k)) hp (put w hp (entry_in s.layout t k)) q
        (condition.onward (CondPhase.Unlinking (unlink_started (head_in s.layout t) (entry_in s.layout t k)) n)) (on (AtCondition o (at (CondPhase.Unlinking (unlink_started (head_in s.layout t) (entry_in s.layout t k)) n))) h)
        refl (head_there s t pos known inv.layout) tt refl (put_back q hp) refl refl (unmoved (acts_as o) h) (still_head s t pos known inv.layout w (entry_in s.layout t k))

-- ---- the rows

module _ (x : Slots) (t : ℕ) (c : Choice) (at : IsAtRow x t) where
  abbrev z : State
  z = x.machine

  invz : Kept z
  invz = reached_kept z at.reached

  rests : (z.threads t).stage ≡ Idle → Leads z t [] z.words z.queues (on Idle (z.threads t).held)
  rests is = stays z t Idle invz is

  frees_so : (r next : Row) (m k : ℕ) (y : Reply) → IsQuiet r → OwnsInside z t (slot_of m) → IsAt z t (OnMutex (TimedLock k)) k (Clearing y)
      → AreEvents x t c r (record { access = Access.Store (address_in z.layout t (head_place t + 2)) (entry_in z.layout t (slot_of m)); events = frees t m; next = next })
  frees_so r next m k y quiet owns a =
      pending_events x t c r next (frees t m) (put (put z.words (head_place t + 2) 0) (head_place t + 2) (entry_in z.layout t (slot_of m))) z.queues _ quiet
      (unlock_more z t at.first at.last invz (Step t ∷ []) (put z.words (head_place t + 2) 0) z.queues (z.threads t).held at.out
      (clears_more z t at.first at.last invz.layout [] z.words z.queues (z.threads t).held at.out (OnMutex (TimedLock k)) operation.Lock k y (stays z t (Calling (OnMutex (TimedLock k)) (call_at z.layout t operation.Lock k (Clearing y))) invz a.there))
      (slot_of m) owns.inside (ap (λ (v : ℕ). (fields_of v).owner) (cell_stays z t at.first at.last invz z.words 0 (slot_of m)) ∙ owns.owner))
      at.first at.last invz.layout (entry_in z.layout t (slot_of m)) (λ p. ap (λ (f : ℕ → ℕ). f p) (put_over z.words (head_place t + 2) 0 (entry_in z.layout t (slot_of m)))) (λ p. refl)

  pub freeing_at : (m : ℕ) (f : Onward) → IsFreeing m f (z.threads t).stage → (y : Reply) × IsAt z t (OnMutex (TimedLock (cell_of m))) (cell_of m) (Clearing y)
  freeing_at m (Has y) (p, is, phase) = (y, is_at z t (OnMutex (TimedLock (cell_of m))) p (cell_of m) (Clearing y) invz at.first at.last is phase refl)
  freeing_at m (Fails y) (p, is, phase) = (y, is_at z t (OnMutex (TimedLock (cell_of m))) p (cell_of m) (Clearing y) invz at.first at.last is phase refl)
  freeing_at m Sleeps (p, is, phase) = (ETIMEDOUT, is_at z t (OnMutex (TimedLock (cell_of m))) p (cell_of m) (Clearing ETIMEDOUT) invz at.first at.last is phase refl)

  waits_so : (m k n : ℕ) (slept timed : Bool) (o : CondCall) → condition_of o ≡ k → IsOfCell z.layout m k → OwnsInside z t (cell_of m) → (fields_at z (cell_of m)).died ≡ false
      → Leads z t (Begin t (OnCondition o) ∷ []) z.words z.queues (on (AtCondition o (cond_of z.layout t o (CondPhase.AtWords (cond_row.Wait wait.LoadCell)))) (z.threads t).held)
      → (r next : Row) → IsQuiet r → AreEvents x t c r (record { access = Access.Store (address_in z.layout t (head_place t + 2)) (entry_in z.layout t (cell_of m)); events = Begin t (OnCondition o) ∷ Step t ∷ Step t ∷ Step t ∷ []; next = next })
  waits_so m k n slept timed o is of owns well l r next quiet =
      subst (λ (j : ℕ). AreEvents x t c r (record { access = Access.Store (address_in z.layout t (head_place t + 2)) (entry_in z.layout t j); events = Begin t (OnCondition o) ∷ Step t ∷ Step t ∷ Step t ∷ []; next = next })) about
      (pending_events x t c r next (Begin t (OnCondition o) ∷ Step t ∷ Step t ∷ Step t ∷ []) (put z.words (head_place t + 2) (entry_in z.layout t (condition_programs.mutex_of z.layout o))) z.queues _ quiet
      (wait_more z t at.first at.last invz (Begin t (OnCondition o) ∷ []) z.words z.queues (z.threads t).held o l (subst (λ (j : ℕ). j < length z.layout.conditions) (sym is) of.inside) (subst (λ (j : ℕ). j < z.layout.mutexes) (sym about) owns.inside)
      (ap (λ (j : ℕ). (fields_at z j).owner) about ∙ owns.owner) (ap (λ (j : ℕ). (fields_at z j).died) about ∙ well))
      at.first at.last invz.layout (entry_in z.layout t (condition_programs.mutex_of z.layout o)) (λ p. refl) (λ p. refl))
    where
      about : condition_programs.mutex_of z.layout o ≡ cell_of m
      about = ap (slice_index z.layout.conditions) is ∙ of.cell

  pub wait_begun : (o : CondCall) → may_call z.layout (OnCondition o) ≡ true → acquires (operation_of (OnCondition o)) ≡ false → (z.threads t).stage ≡ Idle → Leads z t (Begin t (OnCondition o) ∷ []) z.words z.queues (on (AtCondition o (condition.begins z.layout t o)) (z.threads t).held)
  wait_begun o may free is = begins_more z t [] z.words z.queues (z.threads t).held at.first at.last (rests is) (OnCondition o) may (let e = free in grind (arith))

  pub release_row : (r : Row) → StandsAs r (z.threads t).stage → IsToRelease x t r → AreEvents x t c r (made x t c r)
  release_row (Row.Frees k f) there owns = let a = freeing_at k.mutex f there in frees_so (Row.Frees k f) (Row.FreeUnlinks k f) k.mutex (cell_of k.mutex) a.0 (record { awake = λ a. refl; slept = λ a. refl; turns = λ d a. refl }) owns a.1
  release_row (Row.GivePends m (OfUnlock d)) is owns =
      pending_events x t c (Row.GivePends m (OfUnlock d)) (Row.GiveUnlinks m (OfUnlock d)) (giving_begins x t c m (OfUnlock d)) (put z.words (head_place t + 2) (entry_in z.layout t (cell_of m))) z.queues _ (record { awake = λ a. refl; slept = λ a. refl; turns = λ d a. refl })
      (unlock_more z t at.first at.last invz [] z.words z.queues (z.threads t).held at.out (rests is) (cell_of m) owns.inside owns.owner)
      at.first at.last invz.layout (entry_in z.layout t (cell_of m)) (λ p. refl) (λ p. refl)
  release_row (Row.GivePends m (OfWait k n slept true)) is (of, owns, well) = waits_so m k n slept true (wait_of k true) refl of owns well (wait_begun (wait_of k true) (λ i. below i && true) refl is) (Row.GivePends m (OfWait k n slept true)) (Row.GiveUnlinks m (OfWait k n slept true)) (record { awake = λ a. refl; slept = λ a. refl; turns = λ d a. refl })
    where
      below : nat_lt k (length z.layout.conditions) ≡ true
      below = let inside : k < length z.layout.conditions = of.inside in grind (arith, nat_tests)
  release_row (Row.GivePends m (OfWait k n slept false)) is (of, owns, well) = waits_so m k n slept false (wait_of k false) refl of owns well (wait_begun (wait_of k false) (λ i. below i && true) refl is) (Row.GivePends m (OfWait k n slept false)) (Row.GiveUnlinks m (OfWait k n slept false)) (record { awake = λ a. refl; slept = λ a. refl; turns = λ d a. refl })
    where
      below : nat_lt k (length z.layout.conditions) ≡ true
      below = let inside : k < length z.layout.conditions = of.inside in grind (arith, nat_tests)
  release_row r there never = absurd never

pub announced_releases : AnnouncedReleasesAreEvents
announced_releases x t c at owns = let both = release_row x t c at (x.rows t) at.there owns in record { words = both.0; queues = both.1 }
