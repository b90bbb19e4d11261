-- Where one Step leads: of a release, a trim, a move and a wait's wake.
use Rattle.std.proofs.Common.{◌≡◌, inr, ℕ, ◌+◌, ◌-◌, ◌%◌, ◌^◌, ◌==◌, Bool, true, false, [], ◌∷◌, length, refl, sym, ap, ◌∙◌, subst}
use Rattle.std.specs.Prelude.{if◌then◌else◌, not, take, drop, ◌&&◌}
use Rattle.lockword.specs.Cells.{fields_of}
use Rattle.lockword.specs.declared.reply.Reply.TheVariants.{OK}
use Rattle.lockword.specs.Threads.{most_threads}
use Rattle.stepprograms.specs.declared.access.Access.{Access}
use Rattle.stepprograms.specs.declared.access.Answer.TheVariants.{Again, Counts, Trimmed, Value}
use Rattle.stepprograms.specs.Accesses.{address_of, answer_among}
use Rattle.posixmutex.specs.declared.point.Operation.TheVariants as operation
use Rattle.memorymap.specs.Layouts.{cell_place, place_in}
use Rattle.mutex.specs.declared.call.Call.TheVariants.{Unlock}
use Rattle.mutex.specs.declared.phase.Phase.{Phase}
use Rattle.mutex.specs.declared.phase.Phase.TheVariants.{AtCell, Clearing}
use Rattle.mutex.specs.declared.row.Row.TheVariants as mutex_row
use Rattle.mutex.specs.declared.unlock.UnlockRow.TheVariants as unlock
use Rattle.mutex.specs.Standings.{Whole}
use Rattle.mutex.specs.Whole.{after_cell, whole_access, whole_led}
use Rattle.condvar.specs.declared.call.CondCall.{CondCall}
use Rattle.condvar.specs.declared.call.CondCall.TheVariants as cond_call
use Rattle.condvar.specs.declared.phase.CondPhase.{CondPhase}
use Rattle.condvar.specs.declared.row.CondRow.TheVariants as cond_row
use Rattle.condvar.specs.declared.wait.WaitRow.TheVariants as wait
use Rattle.condvar.specs.declared.broadcast.BroadcastRow.TheVariants as broadcast
use Rattle.condvar.specs.Standings.{CondWhole}
use Rattle.condvar.specs.Whole.{cond_access, cond_led}
use Rattle.condvar.specs.declared.op.Op.{Op}
use Rattle.condvar.specs.declared.op.Op.TheVariants.{OnMutex}
use Rattle.protocol.specs.declared.event.Event.TheVariants.{Decline, Step}
use Rattle.protocol.specs.declared.thread.Thread.{Thread}
use Rattle.protocol.specs.declared.thread.Stage.{Stage}
use Rattle.protocol.specs.declared.thread.Stage.TheVariants.{Idle, Calling}
use Rattle.protocol.specs.Machine.{State, After, declined, led, nothing, run, sleeps, spared, stage_after, stage_at}
use Rattle.protocol.proofs.Kept.{Kept}
use Rattle.protocol.proofs.CondSteps.{cond_of}
use Rattle.protocol.proofs.Events.{is_known}
use Rattle.protocol.proofs.Puts.{put-same}
use Rattle.protocol.proofs.Queued.{out_awake}
use Rattle.protocol.proofs.Seeing.{counter_in, cell_again}
use Rattle.protocol.proofs.Working.{call_goes, cond_goes}
use Rattle.slots.specs.Places.{cell_of, slot_of}
use Rattle.slots.specs.Rows.{Choice, Onward, Row, Taking}
use Rattle.slots.specs.Rows.Giving.{OfUnlock, OfWait}
use Rattle.slots.specs.Rows.Onward.{Fails, Has, Sleeps}
use Rattle.slots.specs.Shown.{Slots, shown}
use Rattle.slots.specs.Stands.RepliesAs.{SlotsUnlock, Same}
use Rattle.slots.specs.Stands.{IsAtWords, IsIn, IsWaking, StandsAs}
use Rattle.slots.specs.Seen.{wait_of}
use Rattle.slots.specs.Table.{hands_row}
use Rattle.slots.specs.Invariant.{fields_at}
use Rattle.slots.specs.Accesses.{IsAtRow}
use Rattle.slots.specs.Goes.{LeadsOn}
use Rattle.slots.proofs.Free.{reached_kept}
use Rattle.slots.proofs.Leading.{IsAt, IsAtWord, call_at, is_at, is_at_word, op_of}
use Rattle.slots.proofs.Meets.{Says, cell_says}

module _ (x : Slots) (t : ℕ) (c : Choice) (at : IsAtRow x t) where
  abbrev z : State
  z = x.machine

  abbrev g : Stage
  g = (z.threads t).stage

  abbrev h : ℕ
  h = (z.threads t).held

  inv : Kept z
  inv = reached_kept z at.reached

  -- the stage after the Step of a call, by its access, the word and those who sleep there
  step_at : (o : Op) (k : ℕ) (f : Phase) (a : Access) → IsAt z t o k f → whole_access (call_at z.layout t (op_of o) k f) ≡ a → place_in z.layout t (address_of a) ≡ cell_place z.layout k
      → ((run z (Step t ∷ [])).threads t).stage ≡ stage_after o (call_at z.layout t (op_of o) k f) (whole_led (call_at z.layout t (op_of o) k f) (answer_among a (z.words (cell_place z.layout k)) (z.queues (cell_place z.layout k)))).phase
  step_at o k f a is access place =
      ap (λ (s : After). (s.state.threads t).stage) (call_goes z t o p inv at.first at.last is.there (out_awake z t at.out))
      ∙ ap (λ (y : Thread). y.stage) (put-same z.threads t _)
      ∙ ap (λ (b : Access). stage_after o p (whole_led p (answer_among b (z.words (place_in z.layout t (address_of b))) (z.queues (place_in z.layout t (address_of b))))).phase) access
      ∙ ap (λ (pl : ℕ). stage_after o p (whole_led p (answer_among a (z.words pl) (z.queues pl))).phase) place
    where
      p : Whole
      p = call_at z.layout t (op_of o) k f

  pub step_at_word : (o : CondCall) (f : CondPhase) (a : Access) (pl : ℕ) → IsAtWord z t o f → cond_access (cond_of z.layout t o f) ≡ a → place_in z.layout t (address_of a) ≡ pl
      → ((run z (Step t ∷ [])).threads t).stage ≡ stage_at o (cond_of z.layout t o f) (cond_led (cond_of z.layout t o f) (answer_among a (z.words pl) (z.queues pl))).phase
  step_at_word o f a pl is access place =
      ap (λ (s : After). (s.state.threads t).stage) (cond_goes z t o p inv at.first at.last is.there)
      ∙ ap (λ (y : Thread). y.stage) (put-same z.threads t _)
      ∙ ap (λ (b : Access). stage_at o p (cond_led p (answer_among b (z.words (place_in z.layout t (address_of b))) (z.queues (place_in z.layout t (address_of b))))).phase) access
      ∙ ap (λ (v : ℕ). stage_at o p (cond_led p (answer_among a (z.words v) (z.queues v))).phase) place
    where
      p : CondWhole
      p = cond_of z.layout t o f

  -- ---- releases

  module _ (k : ℕ) (d : Bool) (a : IsAt z t (OnMutex (Unlock k)) k (AtCell (mutex_row.Unlock (unlock.Release d)))) where
    abbrev giving : Whole
    giving = call_at z.layout t operation.Unlock k (AtCell (mutex_row.Unlock (unlock.Release d)))

    abbrev at_phase : Phase → Stage
    at_phase f = Calling (OnMutex (Unlock k)) (call_at z.layout t operation.Unlock k f)

    release_to : ((run z (Step t ∷ [])).threads t).stage ≡ stage_after (OnMutex (Unlock k)) giving (whole_led giving (Value (z.words (cell_place z.layout k)))).phase
    release_to = step_at (OnMutex (Unlock k)) k (AtCell (mutex_row.Unlock (unlock.Release d))) _ a refl (cell_again z.layout t inv.layout at.first at.last k a.inside)

    -- somebody is to be woken, or nobody
    release_wakes : (fields_at z k).waiters ≡ true → ((run z (Step t ∷ [])).threads t).stage ≡ at_phase (AtCell (mutex_row.Unlock (unlock.Wake d)))
    release_wakes waits = release_to ∙ by_waiters (fields_at z k).waiters waits
      where
        by_waiters : (b : Bool) → b ≡ true → stage_after (OnMutex (Unlock k)) giving (after_cell giving (if b then mutex_row.Unlock (unlock.Wake d) else mutex_row.Ended OK)) ≡ at_phase (AtCell (mutex_row.Unlock (unlock.Wake d)))
        by_waiters true e = refl
        by_waiters false e = absurd cc

    release_ends : (fields_at z k).waiters ≡ false → ((run z (Step t ∷ [])).threads t).stage ≡ at_phase (Clearing OK)
    release_ends alone = release_to ∙ by_waiters (fields_at z k).waiters alone
      where
        by_waiters : (b : Bool) → b ≡ false → stage_after (OnMutex (Unlock k)) giving (after_cell giving (if b then mutex_row.Unlock (unlock.Wake d) else mutex_row.Ended OK)) ≡ at_phase (Clearing OK)
        by_waiters false e = refl
        by_waiters true e = absurd cc

  pub frees_slot : (k : Taking) (f : Onward) → IsIn (Unlock (slot_of k.mutex)) (AtCell (mutex_row.Unlock (unlock.Release false))) g → (fields_at z (slot_of k.mutex)).waiters ≡ false → LeadsOn x t c (Row.FreeGives k f)
  frees_slot k f (p, is, phase) alone = go f
    where
      ends_so : ((run z (Step t ∷ [])).threads t).stage ≡ Calling (OnMutex (Unlock (slot_of k.mutex))) (call_at z.layout t operation.Unlock (slot_of k.mutex) (Clearing OK))
      ends_so = release_ends (slot_of k.mutex) false (is_at z t (OnMutex (Unlock (slot_of k.mutex))) p (slot_of k.mutex) (AtCell (mutex_row.Unlock (unlock.Release false))) inv at.first at.last is phase refl) alone

      go : (y : Onward) → LeadsOn x t c (Row.FreeGives k y)
      go (Has r) = (OnMutex (Unlock (slot_of k.mutex)), _, OK, ends_so, refl, SlotsUnlock refl refl)
      go (Fails r) = (OnMutex (Unlock (slot_of k.mutex)), _, OK, ends_so, refl, SlotsUnlock refl refl)
      go Sleeps = inr (_, ends_so, refl)

  pub gives_cell : (m : ℕ) (d : Bool) → IsIn (Unlock (cell_of m)) (AtCell (mutex_row.Unlock (unlock.Release d))) g → LeadsOn x t c (Row.Gives m (OfUnlock d))
  gives_cell m d (p, is, phase) = go d is_there (fields_of word).waiters refl
    where
      word : ℕ
      word = shown x (cell_place z.layout (cell_of m))

      is_there : IsAt z t (OnMutex (Unlock (cell_of m))) (cell_of m) (AtCell (mutex_row.Unlock (unlock.Release d)))
      is_there = is_at z t (OnMutex (Unlock (cell_of m))) p (cell_of m) (AtCell (mutex_row.Unlock (unlock.Release d))) inv at.first at.last is phase refl

      says : Says (z.words (cell_place z.layout (cell_of m))) word
      says = cell_says x m is_there.inside

      go : (e : Bool) → IsAt z t (OnMutex (Unlock (cell_of m))) (cell_of m) (AtCell (mutex_row.Unlock (unlock.Release e))) → (b : Bool) → (fields_of word).waiters ≡ b → LeadsOn x t c (Row.Gives m (OfUnlock e))
      go true a true waits = subst (λ (b : Bool). StandsAs (if b then Row.WakesAll m OK else Row.Clears m OK) ((run z (Step t ∷ [])).threads t).stage) (sym waits) (inr ((_, release_wakes (cell_of m) true a (sym says.waiters ∙ waits), refl), refl))
      go true a false alone = subst (λ (b : Bool). StandsAs (if b then Row.WakesAll m OK else Row.Clears m OK) ((run z (Step t ∷ [])).threads t).stage) (sym alone) (OnMutex (Unlock (cell_of m)), _, OK, release_ends (cell_of m) true a (sym says.waiters ∙ alone), refl, Same refl)
      go false a true waits = subst (λ (b : Bool). StandsAs (if b then hands_row x t c m (OfUnlock false) (word - t) else Row.Clears m OK) ((run z (Step t ∷ [])).threads t).stage) (sym waits)
          (hands c.yes (_, release_wakes (cell_of m) false a (sym says.waiters ∙ waits), refl))
        where
          hands : (b : Bool) → IsWaking m (OfUnlock false) ((run z (Step t ∷ [])).threads t).stage → StandsAs (if b then Row.WakesOne m (OfUnlock false) (word - t) else Row.HandsOn m (OfUnlock false) (word - t)) ((run z (Step t ∷ [])).threads t).stage
          hands true there = there
          hands false there = there
      go false a false alone = subst (λ (b : Bool). StandsAs (if b then hands_row x t c m (OfUnlock false) (word - t) else Row.Clears m OK) ((run z (Step t ∷ [])).threads t).stage) (sym alone) (OnMutex (Unlock (cell_of m)), _, OK, release_ends (cell_of m) false a (sym says.waiters ∙ alone), refl, Same refl)

  -- ---- a trim

  pub trims_lead : (m is : ℕ) → IsIn (Unlock (cell_of m)) (AtCell (mutex_row.Unlock unlock.Trim)) g → LeadsOn x t c (Row.Trims m is)
  trims_lead m is (p, stage, phase) = go (shown x (cell_place z.layout (cell_of m)) == is)
    where
      a : IsAt z t (OnMutex (Unlock (cell_of m))) (cell_of m) (AtCell (mutex_row.Unlock unlock.Trim))
      a = is_at z t (OnMutex (Unlock (cell_of m))) p (cell_of m) (AtCell (mutex_row.Unlock unlock.Trim)) inv at.first at.last stage phase refl

      here : Whole
      here = call_at z.layout t operation.Unlock (cell_of m) (AtCell (mutex_row.Unlock unlock.Trim))

      declines : ((run z (Decline t ∷ [])).threads t).stage ≡ Calling (OnMutex (Unlock (cell_of m))) (call_at z.layout t operation.Unlock (cell_of m) (Clearing OK))
      declines =
          ap (λ (b : Bool). ((if b then declined z t h g else nothing z).state.threads t).stage) (is_known z t at.first at.last)
          ∙ ap (λ (f : Stage). ((declined z t h f).state.threads t).stage) a.there
          ∙ ap (λ (b : Bool). ((if true && not b then spared z t h (cell_of m) (led (OnMutex (Unlock (cell_of m))) here (whole_led here (Trimmed false))) else nothing z).state.threads t).stage) (sym (ap (sleeps z t) a.there) ∙ out_awake z t at.out)
          ∙ ap (λ (y : Thread). y.stage) (put-same z.threads t _)

      go : (b : Bool) → StandsAs (Row.Clears m OK) ((run z (if b then Step t ∷ [] else Decline t ∷ [])).threads t).stage
      go true = (OnMutex (Unlock (cell_of m)), _, OK, step_at (OnMutex (Unlock (cell_of m))) (cell_of m) (AtCell (mutex_row.Unlock unlock.Trim)) _ a refl (cell_again z.layout t inv.layout at.first at.last (cell_of m) a.inside), refl, Same refl)
      go false = (OnMutex (Unlock (cell_of m)), _, OK, declines, refl, Same refl)

  -- ---- a broadcast's move

  pub moves_lead : (m k n seen : ℕ) → IsAtWords (cond_call.Broadcast k) (cond_row.Broadcast (broadcast.Move seen)) g → LeadsOn x t c (Row.AllMoves m k n)
  moves_lead m k n seen (p, is, phase) = step_at_word (cond_call.Broadcast k) (CondPhase.AtWords (cond_row.Broadcast (broadcast.Move seen))) _ _ (is_at_word z t (cond_call.Broadcast k) p (CondPhase.AtWords (cond_row.Broadcast (broadcast.Move seen))) inv at.first at.last is phase) refl refl
      ∙ moved (z.words pl % 2 ^ 32 == (seen + 1) % 2 ^ 32)
    where
      pl : ℕ
      pl = place_in z.layout t (counter_in z.layout t k)

      here : CondWhole
      here = cond_of z.layout t (cond_call.Broadcast k) (CondPhase.AtWords (cond_row.Broadcast (broadcast.Move seen)))

      moved : (b : Bool) → stage_at (cond_call.Broadcast k) here (cond_led here (if b then Counts (length (take 0 (z.queues pl))) (length (take most_threads (drop 0 (z.queues pl)))) else Again)).phase ≡ Idle
      moved true = refl
      moved false = refl

  -- ---- a wait's release and its wake

  wait_wakes : (m n is : ℕ) (k : ℕ) (slept timed : Bool) (o : CondCall) → IsAtWord z t o (CondPhase.AtWords (cond_row.Wait (wait.Wake n))) → IsAtWords o (cond_row.Wait (wait.Sleep n)) ((run z (Step t ∷ [])).threads t).stage
  wait_wakes m n is k slept timed o a = (_, step_at_word o (CondPhase.AtWords (cond_row.Wait (wait.Wake n))) _ _ a refl refl, refl)

  pub wait_wakes_lead : (m k n is : ℕ) (slept timed : Bool) → IsAtWords (wait_of k timed) (cond_row.Wait (wait.Wake n)) g → LeadsOn x t c (Row.WakesOne m (OfWait k n slept timed) is)
  wait_wakes_lead m k n is slept true (p, stage, phase) = wait_wakes m n is k slept true (wait_of k true) (is_at_word z t (wait_of k true) p _ inv at.first at.last stage phase)
  wait_wakes_lead m k n is slept false (p, stage, phase) = wait_wakes m n is k slept false (wait_of k false) (is_at_word z t (wait_of k false) p _ inv at.first at.last stage phase)
