-- Where an access of a link leads: on along the link, or to the end of it.
use Rattle.std.proofs.Common.{◌≡◌, ◌≢◌, ◌⊎◌, inl, inr, ℕ, ◌+◌, ◌≤◌, Some, [], ◌∷◌, refl, sym, ap, ◌∙◌, subst, arith}
use Rattle.std.specs.Prelude.{if◌then◌else◌}
use Rattle.lockword.specs.declared.reply.Reply.{Reply}
use Rattle.lockword.specs.declared.reply.Reply.TheVariants.{EFAULT}
use Rattle.stepprograms.specs.Accesses.{address_of, answer_among}
use Rattle.memorymap.specs.Layouts.{Layout', entry_place, head_place}
use Rattle.robustlist.specs.declared.link.LinkRow.{LinkRow}
use Rattle.robustlist.specs.Standings.{LinkStanding}
use Rattle.robustlist.specs.Link.{link_access, link_moved}
use Rattle.robustlist.proofs.Links.{near}
use Rattle.mutex.specs.declared.phase.Phase.TheVariants.{Linking, Clearing, Ended}
use Rattle.mutex.specs.Standings.{Whole}
use Rattle.mutex.specs.Whole.{linked, linked_at, whole_access}
use Rattle.condvar.specs.declared.op.Op.{Op}
use Rattle.condvar.specs.Ops.{mutex_of}
use Rattle.protocol.specs.declared.event.Event.TheVariants.{Step}
use Rattle.protocol.specs.declared.thread.Thread.{Thread}
use Rattle.protocol.specs.declared.thread.Stage.{Stage}
use Rattle.protocol.specs.declared.thread.Stage.TheVariants.{Idle, Calling}
use Rattle.protocol.specs.Machine.{State, After, happens, place_met, run, stage_after}
use Rattle.protocol.proofs.Kept.{Kept, Fits, Listed, PendsAs}
use Rattle.protocol.proofs.Accesses.{fits_in}
use Rattle.protocol.proofs.Places.{Links, links_not_pending, more_links}
use Rattle.protocol.proofs.Puts.{put-same, put-other}
use Rattle.protocol.proofs.Queued.{out_awake}
use Rattle.protocol.proofs.Runs.{sound}
use Rattle.protocol.proofs.Seeing.{head_in, not_null, words_in}
use Rattle.protocol.proofs.Steps.{after, call_step, thread_after}
use Rattle.protocol.proofs.Working.{call_goes}
use Rattle.slots.specs.Rows.{Row}
use Rattle.slots.specs.Shown.{Slots}
use Rattle.slots.specs.Stands.{StandsAs}
use Rattle.slots.specs.Table.{is_on_list}
use Rattle.slots.specs.Accesses.{IsAtRow}
use Rattle.slots.proofs.Free.{reached_kept}

-- a link goes on, or is through, or has met a fault
linked_where : (x : Reply) (l : LinkStanding) (r : LinkRow) → (linked_at x l r ≡ Linking l x) ⊎ ((linked_at x l r ≡ Clearing x) ⊎ (linked_at x l r ≡ Ended EFAULT))
linked_where x l LinkRow.LoadFirst = inl refl
linked_where x l (LinkRow.StoreNext f) = inl refl
linked_where x l (LinkRow.StorePrevious f) = inl refl
linked_where x l (LinkRow.StoreBehind f) = inl refl
linked_where x l LinkRow.StoreFirst = inl refl
linked_where x l (LinkRow.Ended y) = grind (arith)

module _ (x : Slots) (t : ℕ) (at : IsAtRow x t) (o : Op) (q : Whole) (u : LinkStanding) (y : Reply) (is : (x.machine.threads t).stage ≡ Calling o q) (phase : q.phase ≡ Linking u y) where
  abbrev z : State
  z = x.machine

  inv : Kept z
  inv = reached_kept z at.reached

  abbrev p : Whole
  p = record q { phase = Linking u y }

  stands : (z.threads t).stage ≡ Calling o p
  stands = is ∙ (λ i. Calling o (record { thread = q.thread; operation = q.operation; head = q.head; entry = q.entry; cell = q.cell; phase = phase i }))

  fits : Fits z t (z.threads t).held (mutex_of z.layout o) p
  fits = (fits_in z t o p inv at.first at.last stands).0

  listed : Listed z t (Calling o p)
  listed = subst (Listed z t) stands (inv.listed t at.first at.last)

  same : u ≡ record { head = head_in z.layout t; entry = q.entry; row = u.row }
  same = λ i. record { head = (fits.stands.0 ∙ fits.head) i; entry = fits.stands.1 i; row = u.row }

  -- the access is one of the list, and not of the pending word
  on_list : Links z t (address_of (whole_access p))
  on_list = subst (λ (v : LinkStanding). Links z t (address_of (whole_access (record q { phase = Linking v y })))) (sym same)
      (more_links z t inv.layout at.first at.last (mutex_of z.layout o) (Some (mutex_of z.layout o)) q.entry listed.0 (address_of (link_access (head_in z.layout t) q.entry u.row)) listed.1 fits.inside fits.entry fits.stands.3
      (near (head_in z.layout t) q.entry listed.0 u.row (words_in z.layout t z.words) listed.2))

  goes_to : (happens z (Step t)).state ≡ after z t (call_step z t o p)
  goes_to = ap (λ (a : After). a.state) (call_goes z t o p inv at.first at.last stands (out_awake z t at.out))

  pends_still : (happens z (Step t)).state.words (head_place t + 2) ≡ q.entry
  pends_still = ap (λ (s : State). s.words (head_place t + 2)) goes_to
      ∙ put-other z.words (place_met z.layout t (whole_access p)) _ (head_place t + 2) (λ e. links_not_pending z t (address_of (whole_access p)) at.first at.last on_list (sym e))
      ∙ subst (PendsAs (z.words (head_place t + 2))) stands (inv.heads t at.first at.last).pending

  not_idle : ((run z (Step t ∷ [])).threads t).stage ≢ Idle
  not_idle idle = not_null z.layout t inv.layout at.first at.last (entry_place z.layout (mutex_of z.layout o)) (omega arith) (let inside = fits.inside in omega (arith, inside)) (sym fits.entry ∙ sym pends_still ∙ none)
    where
      layout : (happens z (Step t)).state.layout ≡ z.layout
      layout = (sound z (Step t) inv).same

      none : (happens z (Step t)).state.words (head_place t + 2) ≡ 0
      none = subst (PendsAs ((happens z (Step t)).state.words (head_place t + 2))) idle ((sound z (Step t) inv).kept.heads t at.first (subst (λ (l : Layout'). t ≤ l.threads) (sym layout) at.last)).pending

  -- the stage then
  pub link_leads : ((l : LinkStanding) × (((run z (Step t ∷ [])).threads t).stage ≡ Calling o (record q { phase = Linking l y }))) ⊎ (((run z (Step t ∷ [])).threads t).stage ≡ Calling o (record q { phase = Clearing y }))
  link_leads = go moved refl (linked_where y moved moved.row)
    where
      moved : LinkStanding
      moved = link_moved u (answer_among (whole_access p) (z.words (place_met z.layout t (whole_access p))) (z.queues (place_met z.layout t (whole_access p))))

      to : ((run z (Step t ∷ [])).threads t).stage ≡ stage_after o p (linked y moved)
      to = ap (λ (s : State). (s.threads t).stage) goes_to ∙ ap (λ (th : Thread). th.stage) (put-same z.threads t (thread_after z t (call_step z t o p)))

      go : (l : LinkStanding) → moved ≡ l → (linked_at y moved moved.row ≡ Linking moved y) ⊎ ((linked_at y moved moved.row ≡ Clearing y) ⊎ (linked_at y moved moved.row ≡ Ended EFAULT))
          → ((l : LinkStanding) × (((run z (Step t ∷ [])).threads t).stage ≡ Calling o (record q { phase = Linking l y }))) ⊎ (((run z (Step t ∷ [])).threads t).stage ≡ Calling o (record q { phase = Clearing y }))
      go l e (inl on) = inl (moved, to ∙ ap (stage_after o p) on)
      go l e (inr (inl through)) = inr (to ∙ ap (stage_after o p) through)
      go l e (inr (inr fault)) = absurd (not_idle (to ∙ ap (stage_after o p) fault))

  -- so it is at this row still, or at the next
  pub along_leads : (here behind : Row) → ((l : LinkStanding) → StandsAs here (Calling o (record q { phase = Linking l y }))) → StandsAs behind (Calling o (record q { phase = Clearing y }))
      → StandsAs (if is_on_list ((run z (Step t ∷ [])).threads t).stage then here else behind) ((run z (Step t ∷ [])).threads t).stage
  along_leads here behind on through = go link_leads
    where
      go : ((l : LinkStanding) × (((run z (Step t ∷ [])).threads t).stage ≡ Calling o (record q { phase = Linking l y }))) ⊎ (((run z (Step t ∷ [])).threads t).stage ≡ Calling o (record q { phase = Clearing y }))
          → StandsAs (if is_on_list ((run z (Step t ∷ [])).threads t).stage then here else behind) ((run z (Step t ∷ [])).threads t).stage
      go (inl (l, e)) = subst (λ (f : Stage). StandsAs (if is_on_list f then here else behind) f) (sym e) (on l)
      go (inr e) = subst (λ (f : Stage). StandsAs (if is_on_list f then here else behind) f) (sym e) through
