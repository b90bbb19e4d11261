-- Where an access of an unlink leads: on along the unlink, or to the release.
use Rattle.std.proofs.Common.{◌≡◌, ◌≢◌, ◌⊎◌, inl, inr, ℕ, ◌+◌, ◌≤◌, Bool, [], ◌∷◌, refl, sym, ap, ◌∙◌, subst, arith}
use Rattle.std.specs.Prelude.{if◌then◌else◌}
use Rattle.lockword.specs.declared.reply.Reply.TheVariants.{EFAULT}
use Rattle.stepprograms.specs.declared.access.Access.{Access}
use Rattle.stepprograms.specs.Accesses.{answer_among}
use Rattle.memorymap.specs.Layouts.{Layout', entry_place, head_place}
use Rattle.robustlist.specs.declared.unlink.UnlinkRow.{UnlinkRow}
use Rattle.robustlist.specs.Standings.{UnlinkStanding}
use Rattle.robustlist.specs.Unlink.{unlink_access, unlink_access_of, unlink_moved}
use Rattle.mutex.specs.declared.phase.Phase.TheVariants.{AtCell, Ended, Unlinking}
use Rattle.mutex.specs.Standings.{Whole}
use Rattle.mutex.specs.declared.row.Row.TheVariants as mutex_row
use Rattle.mutex.specs.declared.unlock.UnlockRow.TheVariants as unlock
use Rattle.mutex.specs.Whole.{unlinked, unlinked_at, whole_access}
use Rattle.condvar.specs.declared.op.Op.{Op}
use Rattle.condvar.specs.Ops.{mutex_of}
use Rattle.protocol.specs.declared.event.Event.TheVariants.{Step}
use Rattle.protocol.specs.declared.thread.Thread.{Thread}
use Rattle.protocol.specs.declared.thread.Stage.{Stage}
use Rattle.protocol.specs.declared.thread.Stage.TheVariants.{Idle, Calling}
use Rattle.protocol.specs.Machine.{State, After, happens, place_met, run, stage_after}
use Rattle.protocol.proofs.Kept.{Kept, Fits, Listed, PendsAs}
use Rattle.protocol.proofs.Accesses.{fits_in}
use Rattle.protocol.proofs.Leaving as leaving
use Rattle.protocol.proofs.Puts.{put-same}
use Rattle.protocol.proofs.Queued.{out_awake}
use Rattle.protocol.proofs.Runs.{sound}
use Rattle.protocol.proofs.Seeing.{head_in, not_null}
use Rattle.protocol.proofs.Steps.{after, call_step, done, thread_after}
use Rattle.protocol.proofs.Working.{call_goes}
use Rattle.slots.specs.Rows.{Row}
use Rattle.slots.specs.Shown.{Slots}
use Rattle.slots.specs.Stands.{StandsAs}
use Rattle.slots.specs.Table.{is_on_list}
use Rattle.slots.specs.Accesses.{IsAtRow}
use Rattle.slots.proofs.Free.{reached_kept}

-- an unlink goes on, or is through, or has met a fault
unlinked_where : (d : Bool) (l : UnlinkStanding) (r : UnlinkRow) → (unlinked_at l r d ≡ Unlinking l d) ⊎ ((unlinked_at l r d ≡ AtCell (mutex_row.Unlock (unlock.Release d))) ⊎ (unlinked_at l r d ≡ Ended EFAULT))
unlinked_where d l UnlinkRow.LoadNext = inl refl
unlinked_where d l (UnlinkRow.LoadPrevious n) = inl refl
unlinked_where d l (UnlinkRow.StoreNext n q) = inl refl
unlinked_where d l (UnlinkRow.StorePrevious n q) = inl refl
unlinked_where d l (UnlinkRow.Ended y) = grind (arith)

module _ (x : Slots) (t : ℕ) (at : IsAtRow x t) (o : Op) (q : Whole) (u : UnlinkStanding) (d : Bool) (is : (x.machine.threads t).stage ≡ Calling o q) (phase : q.phase ≡ Unlinking u d) where
  abbrev z : State
  z = x.machine

  inv : Kept z
  inv = reached_kept z at.reached

  abbrev p : Whole
  p = record q { phase = Unlinking u d }

  stands : (z.threads t).stage ≡ Calling o p
  stands = is ∙ (λ i. Calling o (record { thread = q.thread; operation = q.operation; head = q.head; entry = q.entry; cell = q.cell; phase = phase i }))

  fits : Fits z t (z.threads t).held (mutex_of z.layout o) p
  fits = (fits_in z t o p inv at.first at.last stands).0

  listed : Listed z t (Calling o p)
  listed = subst (Listed z t) stands (inv.listed t at.first at.last)

  same : u ≡ record { head = head_in z.layout t; entry = q.entry; row = u.row }
  same = λ i. record { head = (fits.stands.0 ∙ fits.head) i; entry = fits.stands.1 i; row = u.row }

  goes_to : (happens z (Step t)).state ≡ after z t (call_step z t o p)
  goes_to = ap (λ (a : After). a.state) (call_goes z t o p inv at.first at.last stands (out_awake z t at.out))

  abbrev th : Thread
  th = thread_after z t (call_step z t o p)

  access : whole_access p ≡ unlink_access (head_in z.layout t) q.entry u.row
  access = ap unlink_access_of same

  pends_still : (happens z (Step t)).state.words (head_place t + 2) ≡ q.entry
  pends_still = ap (λ (s : State). s.words (head_place t + 2)) (goes_to ∙ ap (λ (a : Access). done z t a th) access)
      ∙ leaving.still_pending z t th inv at.first at.last (mutex_of z.layout o) fits.inside q.entry fits.entry u.row fits.stands.2 listed.0 listed.1 listed.2
      ∙ subst (PendsAs (z.words (head_place t + 2))) stands (inv.heads t at.first at.last).pending

  not_idle : ((run z (Step t ∷ [])).threads t).stage ≢ Idle
  not_idle idle = not_null z.layout t inv.layout at.first at.last (entry_place z.layout (mutex_of z.layout o)) (omega arith) (let inside = fits.inside in omega (arith, inside)) (sym fits.entry ∙ sym pends_still ∙ none)
    where
      layout : (happens z (Step t)).state.layout ≡ z.layout
      layout = (sound z (Step t) inv).same

      none : (happens z (Step t)).state.words (head_place t + 2) ≡ 0
      none = subst (PendsAs ((happens z (Step t)).state.words (head_place t + 2))) idle ((sound z (Step t) inv).kept.heads t at.first (subst (λ (l : Layout'). t ≤ l.threads) (sym layout) at.last)).pending

  -- the stage then
  pub unlink_leads : ((l : UnlinkStanding) × (((run z (Step t ∷ [])).threads t).stage ≡ Calling o (record q { phase = Unlinking l d }))) ⊎ (((run z (Step t ∷ [])).threads t).stage ≡ Calling o (record q { phase = AtCell (mutex_row.Unlock (unlock.Release d)) }))
  unlink_leads = go moved refl (unlinked_where d moved moved.row)
    where
      moved : UnlinkStanding
      moved = unlink_moved u (answer_among (whole_access p) (z.words (place_met z.layout t (whole_access p))) (z.queues (place_met z.layout t (whole_access p))))

      to : ((run z (Step t ∷ [])).threads t).stage ≡ stage_after o p (unlinked moved d)
      to = ap (λ (s : State). (s.threads t).stage) goes_to ∙ ap (λ (th : Thread). th.stage) (put-same z.threads t (thread_after z t (call_step z t o p)))

      go : (l : UnlinkStanding) → moved ≡ l → (unlinked_at moved moved.row d ≡ Unlinking moved d) ⊎ ((unlinked_at moved moved.row d ≡ AtCell (mutex_row.Unlock (unlock.Release d))) ⊎ (unlinked_at moved moved.row d ≡ Ended EFAULT))
          → ((l : UnlinkStanding) × (((run z (Step t ∷ [])).threads t).stage ≡ Calling o (record q { phase = Unlinking l d }))) ⊎ (((run z (Step t ∷ [])).threads t).stage ≡ Calling o (record q { phase = AtCell (mutex_row.Unlock (unlock.Release d)) }))
      go l e (inl on) = inl (moved, to ∙ ap (stage_after o p) on)
      go l e (inr (inl through)) = inr (to ∙ ap (stage_after o p) through)
      go l e (inr (inr fault)) = absurd (not_idle (to ∙ ap (stage_after o p) fault))

  -- so it is at this row still, or at the next
  pub off_leads : (here behind : Row) → ((l : UnlinkStanding) → StandsAs here (Calling o (record q { phase = Unlinking l d }))) → StandsAs behind (Calling o (record q { phase = AtCell (mutex_row.Unlock (unlock.Release d)) }))
      → StandsAs (if is_on_list ((run z (Step t ∷ [])).threads t).stage then here else behind) ((run z (Step t ∷ [])).threads t).stage
  off_leads here behind on through = go unlink_leads
    where
      go : ((l : UnlinkStanding) × (((run z (Step t ∷ [])).threads t).stage ≡ Calling o (record q { phase = Unlinking l d }))) ⊎ (((run z (Step t ∷ [])).threads t).stage ≡ Calling o (record q { phase = AtCell (mutex_row.Unlock (unlock.Release d)) }))
          → StandsAs (if is_on_list ((run z (Step t ∷ [])).threads t).stage then here else behind) ((run z (Step t ∷ [])).threads t).stage
      go (inl (l, e)) = subst (λ (f : Stage). StandsAs (if is_on_list f then here else behind) f) (sym e) (on l)
      go (inr e) = subst (λ (f : Stage). StandsAs (if is_on_list f then here else behind) f) (sym e) through
