-- Where accesses of a wait lead until it has released its mutex, and a wake that is spared.
use Rattle.std.proofs.Common.{◌≡◌, ◌⊎◌, inl, inr, ℕ, ◌-◌, ◌<◌, Bool, true, false, [], ◌∷◌, refl, sym, ap, ◌∙◌, subst}
use Rattle.std.specs.Prelude.{if◌then◌else◌, ◌&&◌, ◌==◌, not}
use Rattle.lockword.specs.Cells.{fields_of}
use Rattle.lockword.specs.declared.reply.Reply.TheVariants.{OK}
use Rattle.stepprograms.specs.declared.access.Access.{Access}
use Rattle.stepprograms.specs.declared.access.Answer.TheVariants.{Count}
use Rattle.posixmutex.specs.declared.point.Operation.TheVariants as operation
use Rattle.memorymap.specs.Layouts.{cell_place, place_in}
use Rattle.robustlist.specs.Standings.{UnlinkStanding}
use Rattle.mutex.specs.declared.call.Call.TheVariants.{Unlock}
use Rattle.mutex.specs.declared.phase.Phase.TheVariants.{AtCell, Clearing}
use Rattle.mutex.specs.declared.row.Row.TheVariants as mutex_row
use Rattle.mutex.specs.declared.unlock.UnlockRow.TheVariants as unlock
use Rattle.mutex.specs.Standings.{Whole}
use Rattle.mutex.specs.Whole.{whole_led}
use Rattle.condvar.specs.declared.call.CondCall.{CondCall}
use Rattle.condvar.specs.declared.phase.CondPhase.{CondPhase}
use Rattle.condvar.specs.declared.row.CondRow.TheVariants as cond_row
use Rattle.condvar.specs.declared.wait.WaitRow.TheVariants as wait
use Rattle.condvar.specs.Programs as programs
use Rattle.condvar.specs.Standings.{CondWhole}
use Rattle.condvar.specs.Whole.{after_words, cond_led}
use Rattle.condvar.specs.declared.op.Op.TheVariants.{OnMutex}
use Rattle.protocol.specs.declared.event.Event.TheVariants.{Spare, Step}
use Rattle.protocol.specs.declared.event.LeftTo.{LeftTo}
use Rattle.protocol.specs.declared.event.LeftTo.TheVariants as left_to
use Rattle.protocol.specs.declared.thread.Thread.{Thread}
use Rattle.protocol.specs.declared.thread.Stage.{Stage}
use Rattle.protocol.specs.declared.thread.Stage.TheVariants.{Calling, AtCondition}
use Rattle.protocol.specs.Machine.{State, After, is_left_to, led, led_at, nothing, run, spared, sparing, stage_at}
use Rattle.protocol.proofs.Kept.{Kept}
use Rattle.protocol.proofs.CondAccesses.{IsBefore, by_access}
use Rattle.protocol.proofs.CondSteps.{cond_of}
use Rattle.protocol.proofs.Events.{is_known}
use Rattle.protocol.proofs.Puts.{put-same}
use Rattle.protocol.proofs.Seeing.{cell_in, cell_again}
use Rattle.protocol.proofs.Steps.{cond_onto, cond_step, thread_after}
use Rattle.protocol.proofs.Working.{cond_goes}
use Rattle.slots.specs.Places.{cell_of, slot_of}
use Rattle.slots.specs.Rows.{Choice, Giving, Row}
use Rattle.slots.specs.Rows.Giving.{OfUnlock, OfWait}
use Rattle.slots.specs.Shown.{Slots, shown}
use Rattle.slots.specs.Stands.RepliesAs.{Same}
use Rattle.slots.specs.Stands.{IsAtWords, IsIn, IsWaking, StandsAs}
use Rattle.slots.specs.Words.{shows_heir}
use Rattle.slots.specs.Seen.{heir_of, wait_of}
use Rattle.slots.specs.Table.{Made, hands_row, is_on_list, is_unlinking_at, makes}
use Rattle.slots.specs.Accesses.{IsAbout, IsAtRow}
use Rattle.slots.specs.Goes.{LeadsOn}
use Rattle.slots.proofs.Free.{reached_kept}
use Rattle.slots.proofs.Leading.{IsAt, IsAtWord, by_test, call_at, is_at, is_at_word}
use Rattle.slots.proofs.Meets.{cell_says}
use Rattle.slots.proofs.StepLeads.{step_at_word}

-- a wait in its unlink, with this count
abbrev UnlinksAs : ℕ → CondPhase → Type 0
UnlinksAs n (CondPhase.Unlinking u seen) = seen ≡ n
UnlinksAs n f = ⊥

same_count : (x n : ℕ) (f : CondPhase) → UnlinksAs n f → IsBefore x f → x ≡ n
same_count x n (CondPhase.Unlinking u seen) is before = sym before ∙ is
same_count x n f is before = absurd is

module _ (x : Slots) (t : ℕ) (c : Choice) (at : IsAtRow x t) where
  abbrev z : State
  z = x.machine

  abbrev g : Stage
  g = (z.threads t).stage

  abbrev h : ℕ
  h = (z.threads t).held

  inv : Kept z
  inv = reached_kept z at.reached

  either : (b : Bool) (r s : Row) (f : Stage) → StandsAs r f → StandsAs s f → StandsAs (if b then r else s) f
  either true r s f this that = this
  either false r s f this that = that

  -- ---- the unlink

  abbrev Unlinks : CondCall → ℕ → Stage → Type 0
  Unlinks o n f = ((p : CondWhole) × (u : UnlinkStanding) × (f ≡ AtCondition o p) × (p.phase ≡ CondPhase.Unlinking u n)) ⊎ IsAtWords o (cond_row.Wait (wait.Release n)) f

  unlinks_to : (o : CondCall) (p : CondWhole) (u : UnlinkStanding) (n : ℕ) → g ≡ AtCondition o p → p.phase ≡ CondPhase.Unlinking u n → Unlinks o n ((run z (Step t ∷ [])).threads t).stage
  unlinks_to o p u n is phase = subst (Unlinks o n) (sym to) (by_access z t o inv at.first at.last (λ (q : CondWhole). UnlinksAs n q.phase → Unlinks o n (stage_at o q (cond_onto z t q).phase))
      (λ r fits step never. absurd never)
      (λ y q near un. near.leads (λ (f : CondPhase). Unlinks o n (stage_at o q f))
      (λ v. inl (record q { phase = CondPhase.Unlinking v y }, v, refl, ap (CondPhase.Unlinking v) (same_count y n q.phase un near.before)))
      (inr (record q { phase = CondPhase.AtWords (cond_row.Wait (wait.Release y)) }, refl, ap (λ (e : ℕ). CondPhase.AtWords (cond_row.Wait (wait.Release e))) (same_count y n q.phase un near.before))))
      p is (subst (UnlinksAs n) (sym phase) refl))
    where
      to : ((run z (Step t ∷ [])).threads t).stage ≡ stage_at o p (cond_onto z t p).phase
      to = ap (λ (a : After). (a.state.threads t).stage) (cond_goes z t o p inv at.first at.last is) ∙ ap (λ (y : Thread). y.stage) (put-same z.threads t (thread_after z t (cond_step z t o p)))

  unlink_so : (o : CondCall) (p : CondWhole) (u : UnlinkStanding) (n : ℕ) (here behind : Row) → g ≡ AtCondition o p → p.phase ≡ CondPhase.Unlinking u n
      → ((f : Stage) → (q : CondWhole) × (v : UnlinkStanding) × (f ≡ AtCondition o q) × (q.phase ≡ CondPhase.Unlinking v n) → StandsAs here f) → ((f : Stage) → IsAtWords o (cond_row.Wait (wait.Release n)) f → StandsAs behind f)
      → StandsAs (if is_on_list ((run z (Step t ∷ [])).threads t).stage then here else behind) ((run z (Step t ∷ [])).threads t).stage
  unlink_so o p u n here behind is phase on through = go ((run z (Step t ∷ [])).threads t).stage (unlinks_to o p u n is phase)
    where
      go : (f : Stage) → Unlinks o n f → StandsAs (if is_on_list f then here else behind) f
      go f (inl (q, v, e, there)) = subst (λ (b : Bool). StandsAs (if b then here else behind) f) (sym (ap is_on_list e ∙ ap is_unlinking_at there)) (on f (q, v, e, there))
      go f (inr (q, e, there)) = subst (λ (b : Bool). StandsAs (if b then here else behind) f) (sym (ap is_on_list e ∙ ap is_unlinking_at there)) (through f (q, e, there))

  pub wait_unlinks_lead : (m k n : ℕ) (slept timed : Bool) (p : CondWhole) (u : UnlinkStanding) → g ≡ AtCondition (wait_of k timed) p → p.phase ≡ CondPhase.Unlinking u n → LeadsOn x t c (Row.GiveUnlinks m (OfWait k n slept timed))
  wait_unlinks_lead m k n true timed p u is phase = unlink_so (wait_of k timed) p u n (Row.GiveUnlinks m (OfWait k n true timed)) (if c.yes then Row.GiveFinds m (OfWait k n true timed) else Row.Gives m (OfWait k n true timed)) is phase (λ f there. there) (λ f there. either c.yes (Row.GiveFinds m (OfWait k n true timed)) (Row.Gives m (OfWait k n true timed)) f there there)
  wait_unlinks_lead m k n false timed p u is phase = unlink_so (wait_of k timed) p u n (Row.GiveUnlinks m (OfWait k n false timed)) (Row.WaitSets m k n timed) is phase (λ f there. there) (λ f there. there)

  -- ---- the release

  gives_so : (m k n : ℕ) (slept timed : Bool) (o : CondCall) → IsAtWord z t o (CondPhase.AtWords (cond_row.Wait (wait.Release n))) → programs.mutex_of z.layout o ≡ cell_of m → (b : Bool) → (fields_of (shown x (cell_place z.layout (cell_of m)))).waiters ≡ b
      → IsAtWords o (if b then cond_row.Wait (wait.Wake n) else cond_row.Wait (wait.Sleep n)) ((run z (Step t ∷ [])).threads t).stage
  gives_so m k n slept timed o a about b is = subst (IsAtWords o (if b then cond_row.Wait (wait.Wake n) else cond_row.Wait (wait.Sleep n))) (sym to) (there b)
    where
      inside : cell_of m < z.layout.mutexes
      inside = subst (λ (j : ℕ). j < z.layout.mutexes) about a.cell

      here : CondWhole
      here = cond_of z.layout t o (CondPhase.AtWords (cond_row.Wait (wait.Release n)))

      to : ((run z (Step t ∷ [])).threads t).stage ≡ stage_at o here (after_words here (if b then cond_row.Wait (wait.Wake n) else cond_row.Wait (wait.Sleep n)))
      to = step_at_word x t c at o (CondPhase.AtWords (cond_row.Wait (wait.Release n))) (Access.FetchXor (cell_in z.layout t (programs.mutex_of z.layout o)) t) (cell_place z.layout (cell_of m)) a refl (ap (λ (j : ℕ). place_in z.layout t (cell_in z.layout t j)) about ∙ cell_again z.layout t inv.layout at.first at.last (cell_of m) inside)
          ∙ ap (λ (d : Bool). stage_at o here (after_words here (if d then cond_row.Wait (wait.Wake n) else cond_row.Wait (wait.Sleep n)))) (sym (cell_says x m inside).waiters ∙ is)

      there : (d : Bool) → IsAtWords o (if d then cond_row.Wait (wait.Wake n) else cond_row.Wait (wait.Sleep n)) (stage_at o here (after_words here (if d then cond_row.Wait (wait.Wake n) else cond_row.Wait (wait.Sleep n))))
      there true = (cond_of z.layout t o (CondPhase.AtWords (cond_row.Wait (wait.Wake n))), refl, refl)
      there false = (cond_of z.layout t o (CondPhase.AtWords (cond_row.Wait (wait.Sleep n))), refl, refl)

  pub gives_wait : (m k n : ℕ) (slept timed : Bool) → IsAtWords (wait_of k timed) (cond_row.Wait (wait.Release n)) g → IsAbout z.layout m g → LeadsOn x t c (Row.Gives m (OfWait k n slept timed))
  gives_wait m k n slept timed (p, is, phase) about = go (fields_of word).waiters refl
    where
      word : ℕ
      word = shown x (cell_place z.layout (cell_of m))

      go : (b : Bool) → (fields_of word).waiters ≡ b → LeadsOn x t c (Row.Gives m (OfWait k n slept timed))
      go true waits = subst (λ (b : Bool). StandsAs (if b then hands_row x t c m (OfWait k n slept timed) (word - t) else Row.WaitSleeps m k n timed) ((run z (Step t ∷ [])).threads t).stage) (sym waits)
          (either c.yes (Row.WakesOne m (OfWait k n slept timed) (word - t)) (Row.HandsOn m (OfWait k n slept timed) (word - t)) _ woken woken)
        where
          woken : IsAtWords (wait_of k timed) (cond_row.Wait (wait.Wake n)) ((run z (Step t ∷ [])).threads t).stage
          woken = gives_so m k n slept timed (wait_of k timed) (is_at_word z t (wait_of k timed) p _ inv at.first at.last is phase) (subst (IsAbout z.layout m) is about) true waits
      go false alone = subst (λ (b : Bool). StandsAs (if b then hands_row x t c m (OfWait k n slept timed) (word - t) else Row.WaitSleeps m k n timed) ((run z (Step t ∷ [])).threads t).stage) (sym alone)
          (gives_so m k n slept timed (wait_of k timed) (is_at_word z t (wait_of k timed) p _ inv at.first at.last is phase) (subst (IsAbout z.layout m) is about) false alone)

  -- ---- a look at the slot or at the cell, by which a wake may be spared

  spares_unlock : (m : ℕ) (by : LeftTo) → IsIn (Unlock (cell_of m)) (AtCell (mutex_row.Unlock (unlock.Wake false))) g → is_left_to z t (cell_of m) by ≡ true → StandsAs (Row.Clears m OK) ((run z (Spare t by ∷ [])).threads t).stage
  spares_unlock m by (p, is, phase) left = (OnMutex (Unlock (cell_of m)), call_at z.layout t operation.Unlock (cell_of m) (Clearing OK), OK, to, refl, Same refl)
    where
      here : Whole
      here = call_at z.layout t operation.Unlock (cell_of m) (AtCell (mutex_row.Unlock (unlock.Wake false)))

      a : IsAt z t (OnMutex (Unlock (cell_of m))) (cell_of m) (AtCell (mutex_row.Unlock (unlock.Wake false)))
      a = is_at z t (OnMutex (Unlock (cell_of m))) p (cell_of m) (AtCell (mutex_row.Unlock (unlock.Wake false))) inv at.first at.last is phase refl

      to : ((run z (Spare t by ∷ [])).threads t).stage ≡ Calling (OnMutex (Unlock (cell_of m))) (call_at z.layout t operation.Unlock (cell_of m) (Clearing OK))
      to =
          ap (λ (b : Bool). ((if b then sparing z t by h g else nothing z).state.threads t).stage) (is_known z t at.first at.last)
          ∙ ap (λ (f : Stage). ((sparing z t by h f).state.threads t).stage) a.there
          ∙ ap (λ (b : Bool). ((if true && b then spared z t h (cell_of m) (led (OnMutex (Unlock (cell_of m))) here (whole_led here (Count 1))) else nothing z).state.threads t).stage) left
          ∙ ap (λ (y : Thread). y.stage) (put-same z.threads t _)

  spares_wait : (m n : ℕ) (by : LeftTo) (o : CondCall) → IsAtWord z t o (CondPhase.AtWords (cond_row.Wait (wait.Wake n))) → programs.mutex_of z.layout o ≡ cell_of m → is_left_to z t (cell_of m) by ≡ true → IsAtWords o (cond_row.Wait (wait.Sleep n)) ((run z (Spare t by ∷ [])).threads t).stage
  spares_wait m n by o a about left = (cond_of z.layout t o (CondPhase.AtWords (cond_row.Wait (wait.Sleep n))), to, refl)
    where
      here : CondWhole
      here = cond_of z.layout t o (CondPhase.AtWords (cond_row.Wait (wait.Wake n)))

      to : ((run z (Spare t by ∷ [])).threads t).stage ≡ AtCondition o (cond_of z.layout t o (CondPhase.AtWords (cond_row.Wait (wait.Sleep n))))
      to =
          ap (λ (b : Bool). ((if b then sparing z t by h g else nothing z).state.threads t).stage) (is_known z t at.first at.last)
          ∙ ap (λ (f : Stage). ((sparing z t by h f).state.threads t).stage) a.there
          ∙ ap (λ (b : Bool). ((if true && b then spared z t h (programs.mutex_of z.layout o) (led_at o here (cond_led here (Count 1))) else nothing z).state.threads t).stage) (ap (λ (j : ℕ). is_left_to z t j by) about ∙ left)
          ∙ ap (λ (y : Thread). y.stage) (put-same z.threads t _)

  first_so : (a b : Bool) → (a && b) ≡ true → a ≡ true
  first_so true b e = refl
  first_so false b e = absurd cc

  pub hands_lead : (m : ℕ) (y : Giving) (is : ℕ) → IsWaking m y g → IsAbout z.layout m g → (shows_heir (shown x (cell_place z.layout (slot_of m))) ≡ true → is_left_to z t (cell_of m) (heir_of z t (cell_of m)) ≡ true) → LeadsOn x t c (Row.HandsOn m y is)
  hands_lead m (OfUnlock d) is there about left = by_test (λ (n : Made). StandsAs n.next ((run z n.events).threads t).stage) (shows_heir (shown x (cell_place z.layout (slot_of m))) && c.yes)
      (makes (Access.Load (cell_in z.layout t (slot_of m))) (Spare t (heir_of z t (cell_of m)) ∷ []) (Row.Clears m OK)) (makes (Access.Load (cell_in z.layout t (slot_of m))) [] (Row.LooksBack m (OfUnlock d) is))
      (λ e. spares_unlock m (heir_of z t (cell_of m)) there (left (first_so (shows_heir (shown x (cell_place z.layout (slot_of m)))) c.yes e)))
      (λ e. there)
  hands_lead m (OfWait k n slept timed) is (p, stage, phase) about left = by_test (λ (n : Made). StandsAs n.next ((run z n.events).threads t).stage) (shows_heir (shown x (cell_place z.layout (slot_of m))) && c.yes)
      (makes (Access.Load (cell_in z.layout t (slot_of m))) (Spare t (heir_of z t (cell_of m)) ∷ []) (Row.WaitSleeps m k n timed)) (makes (Access.Load (cell_in z.layout t (slot_of m))) [] (Row.LooksBack m (OfWait k n slept timed) is))
      (λ e. spares_wait m n (heir_of z t (cell_of m)) (wait_of k timed) (is_at_word z t (wait_of k timed) p _ inv at.first at.last stage phase) (subst (IsAbout z.layout m) stage about) (left (first_so (shows_heir (shown x (cell_place z.layout (slot_of m)))) c.yes e)))
      (λ e. (p, stage, phase))

  -- if the cell has an owner, the wake is left to it
  owned : (m : ℕ) → cell_of m < z.layout.mutexes → ((fields_of (shown x (cell_place z.layout (cell_of m)))).owner == 0) ≡ false → is_left_to z t (cell_of m) left_to.Owner ≡ true
  owned m inside some = ap (λ (o : ℕ). not (o == 0)) (sym (cell_says x m inside).owner) ∙ ap not some

  pub looks_back_lead : (m : ℕ) (y : Giving) (is : ℕ) → IsWaking m y g → IsAbout z.layout m g → cell_of m < z.layout.mutexes → LeadsOn x t c (Row.LooksBack m y is)
  looks_back_lead m (OfUnlock d) is there about inside = by_test (λ (n : Made). StandsAs n.next ((run z n.events).threads t).stage) ((fields_of (shown x (cell_place z.layout (cell_of m)))).owner == 0)
      (makes (Access.Load (cell_in z.layout t (cell_of m))) [] (Row.WakesOne m (OfUnlock d) is)) (makes (Access.Load (cell_in z.layout t (cell_of m))) (Spare t left_to.Owner ∷ []) (Row.Clears m OK))
      (λ e. there)
      (λ e. spares_unlock m left_to.Owner there (owned m inside e))
  looks_back_lead m (OfWait k n slept timed) is (p, stage, phase) about inside = by_test (λ (n : Made). StandsAs n.next ((run z n.events).threads t).stage) ((fields_of (shown x (cell_place z.layout (cell_of m)))).owner == 0)
      (makes (Access.Load (cell_in z.layout t (cell_of m))) [] (Row.WakesOne m (OfWait k n slept timed) is)) (makes (Access.Load (cell_in z.layout t (cell_of m))) (Spare t left_to.Owner ∷ []) (Row.WaitSleeps m k n timed))
      (λ e. (p, stage, phase))
      (λ e. spares_wait m n left_to.Owner (wait_of k timed) (is_at_word z t (wait_of k timed) p _ inv at.first at.last stage phase) (subst (IsAbout z.layout m) stage about) (owned m inside e))
