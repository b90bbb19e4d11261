-- An access of a thread's list is at one of the thread's own words, and at no mutex's.
use Rattle.std.proofs.Common.{◌≡◌, ◌≢◌, inl, inr, ℕ, ◌<◌, ◌≤◌, false, Some, ◌∷◌, sym, ◌∙◌, subst}
use Rattle.stepprograms.specs.Accesses.{address_of}
use Rattle.memorymap.specs.Layouts.{cell_place}
use Rattle.robustlist.specs.Link.{link_access}
use Rattle.robustlist.specs.Standings.{LinkStanding, UnlinkStanding}
use Rattle.robustlist.specs.Words.{IsOn}
use Rattle.robustlist.proofs.Links as links
use Rattle.mutex.specs.declared.phase.Phase.{Phase}
use Rattle.mutex.specs.declared.phase.Phase.TheVariants.{Linking, Unlinking}
use Rattle.mutex.specs.Standings.{Whole}
use Rattle.mutex.specs.Whole.{whole_access}
use Rattle.condvar.specs.Ops.{mutex_of}
use Rattle.condvar.specs.Standings.{CondWhole}
use Rattle.condvar.specs.Whole.{cond_access}
use Rattle.condvar.specs.declared.call.CondCall.{CondCall}
use Rattle.condvar.specs.declared.phase.CondPhase.{CondPhase}
use Rattle.condvar.specs.declared.op.Op.{Op}
use Rattle.protocol.specs.declared.thread.Stage.{Stage}
use Rattle.protocol.specs.declared.thread.Stage.TheVariants.{Calling, AtCondition}
use Rattle.protocol.specs.Machine.{State, place_met}
use Rattle.protocol.proofs.Accesses.{fits_in}
use Rattle.protocol.proofs.CondAccesses.{by_access}
use Rattle.protocol.proofs.Kept.{Fits, Kept, Listed}
use Rattle.protocol.proofs.Leaving as leaving
use Rattle.protocol.proofs.Places.{IsMine, Links, links_mine, mine_is_no_cell, more_links}
use Rattle.protocol.proofs.Seeing.{head_in, words_in}
use Rattle.slots.specs.Rows.{Row}
use Rattle.slots.specs.Rows.Giving.{OfUnlock, OfWait}
use Rattle.slots.specs.Stands.{StandsAs}
use Rattle.slots.specs.Table.{access_of_stage}
use Rattle.slots.specs.Accesses.{IsAlongList}

module _ (s : State) (t : ℕ) (inv : Kept s) (pos : 1 ≤ t) (known : t ≤ s.layout.threads) where
  -- a call that links, or unlinks
  abbrev IsAlong : Phase → Type 0
  IsAlong (Linking l x) = Unit {0}
  IsAlong (Unlinking u d) = Unit {0}
  IsAlong f = ⊥

  call_mine : (c : Op) (p : Whole) (f : Phase) → IsAlong f → Fits s t (s.threads t).held (mutex_of s.layout c) (record p { phase = f }) → Listed s t (Calling c (record p { phase = f })) → IsMine s t (place_met s.layout t (whole_access (record p { phase = f })))
  call_mine c p (Linking l x) along fits (es, owned, ch) = subst (λ (z : LinkStanding). IsMine s t (place_met s.layout t (whole_access (record p { phase = Linking z x })))) (sym same)
      (links_mine s t (address_of (link_access (head_in s.layout t) p.entry l.row)) (each (address_of (link_access (head_in s.layout t) p.entry l.row)) (links.near (head_in s.layout t) p.entry es l.row (words_in s.layout t s.words) ch)))
    where
      same : l ≡ record { head = head_in s.layout t; entry = p.entry; row = l.row }
      same = λ i. record { head = (fits.stands.0 ∙ fits.head) i; entry = fits.stands.1 i; row = l.row }

      each : (y : ℕ) → IsOn (head_in s.layout t) (p.entry ∷ es) y → Links s t y
      each y on = more_links s t inv.layout pos known (mutex_of s.layout c) (Some (mutex_of s.layout c)) p.entry es y owned fits.inside fits.entry fits.stands.3 on
  call_mine c p (Unlinking u d) along fits (es, owned, ch) = subst (λ (z : UnlinkStanding). IsMine s t (place_met s.layout t (whole_access (record p { phase = Unlinking z d })))) (sym same)
      (leaving.mine s t (s.threads t) inv pos known (mutex_of s.layout c) fits.inside p.entry fits.entry u.row fits.stands.2 es owned ch)
    where
      same : u ≡ record { head = head_in s.layout t; entry = p.entry; row = u.row }
      same = λ i. record { head = (fits.stands.0 ∙ fits.head) i; entry = fits.stands.1 i; row = u.row }
  call_mine c p f along fits listed = absurd along

  call_there : (c : Op) (p : Whole) (f : Phase) → IsAlong f → (s.threads t).stage ≡ Calling c p → p.phase ≡ f → IsMine s t (place_met s.layout t (whole_access p))
  call_there c p f along is phase = call_mine c p p.phase (subst IsAlong (sym phase) along) (fits_in s t c p inv pos known is).0 (subst (λ (g : Stage). Listed s t g) is (inv.listed t pos known))

  cond_there : (c : CondCall) (p : CondWhole) (u : UnlinkStanding) (n : ℕ) → (s.threads t).stage ≡ AtCondition c p → p.phase ≡ CondPhase.Unlinking u n → IsMine s t (place_met s.layout t (cond_access p))
  cond_there c p u n is phase = by_access s t c inv pos known (λ (q : CondWhole). (v : UnlinkStanding) (m : ℕ) → q.phase ≡ CondPhase.Unlinking v m → IsMine s t (place_met s.layout t (cond_access q)))
      (λ r fits step v m never. absurd (cc never)) (λ x q near v m there. near.mine) p is u n phase

  abbrev Mine : Stage → Type 0
  Mine g = (at : ℕ) → IsMine s t (place_met s.layout t (access_of_stage g at))

  there : (g : Stage) → (s.threads t).stage ≡ g → Mine g → Mine (s.threads t).stage
  there g is mine = subst Mine (sym is) mine

  pub list_mine : (r : Row) → IsAlongList r → StandsAs r (s.threads t).stage → Mine (s.threads t).stage
  list_mine (Row.Links m r) along (u, inl (p, is, phase)) = there _ is (λ at. call_there _ p (Linking u r) tt is phase)
  list_mine (Row.Links m r) along (u, inr (inl (p, is, phase))) = there _ is (λ at. call_there _ p (Linking u r) tt is phase)
  list_mine (Row.Links m r) along (u, inr (inr (z, (c, p, is, of, acts, phase)))) = there _ is (λ at. call_there _ p (Linking u r) tt is phase)
  list_mine (Row.SlotLinks k d) along (u, (p, is, phase)) = there _ is (λ at. call_there _ p _ tt is phase)
  list_mine (Row.HeirLinks k r) along (u, (p, is, phase)) = there _ is (λ at. call_there _ p (Linking u r) tt is phase)
  list_mine (Row.FreeUnlinks k f) along (u, (p, is, phase)) = there _ is (λ at. call_there _ p (Unlinking u false) tt is phase)
  list_mine (Row.GiveUnlinks m (OfUnlock d)) along (u, (p, is, phase)) = there _ is (λ at. call_there _ p (Unlinking u d) tt is phase)
  list_mine (Row.GiveUnlinks m (OfWait k n slept timed)) along (p, u, is, phase) = there _ is (λ at. cond_there _ p u n is phase)
  list_mine r along stands = absurd along

  pub list_apart : (r : Row) → IsAlongList r → StandsAs r (s.threads t).stage → (at k : ℕ) → k < s.layout.mutexes → cell_place s.layout k ≢ place_met s.layout t (access_of_stage (s.threads t).stage at)
  list_apart r along stands at k inside e = mine_is_no_cell s t (place_met s.layout t (access_of_stage (s.threads t).stage at)) k pos known inside (list_mine r along stands at) (sym e)
