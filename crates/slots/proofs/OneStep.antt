-- One Step at the thread's own words: along its list, and of the pending word.
use Rattle.std.proofs.Common.{◌≡◌, inl, inr, ℕ, ◌+◌, ◌<◌, ◌≤◌, Bool, false, Some, [], ◌∷◌, refl, sym, ap, ◌∙◌, subst, arith}
use Rattle.lockword.specs.declared.reply.Reply.{Reply}
use Rattle.stepprograms.specs.declared.access.Access.{Access}
use Rattle.stepprograms.specs.Accesses.{address_of}
use Rattle.memorymap.specs.Layouts.{cell_place, head_place, address_in, place_in}
use Rattle.robustlist.specs.Standings.{LinkStanding, UnlinkStanding}
use Rattle.robustlist.specs.Link.{link_access}
use Rattle.robustlist.proofs.Links.{near}
use Rattle.mutex.specs.declared.phase.Phase.{Phase}
use Rattle.mutex.specs.declared.phase.Phase.TheVariants.{Linking, Unlinking, Clearing}
use Rattle.mutex.specs.Standings.{Whole}
use Rattle.mutex.specs.Whole.{phase_access, whole_access, pending_place}
use Rattle.mutex.proofs.Addresses.{head_further, head_word_again}
use Rattle.condvar.specs.declared.call.CondCall.{CondCall}
use Rattle.condvar.specs.declared.phase.CondPhase.{CondPhase}
use Rattle.condvar.specs.Standings.{CondWhole}
use Rattle.condvar.specs.Whole.{cond_access}
use Rattle.condvar.specs.declared.op.Op.{Op}
use Rattle.condvar.specs.Ops.{mutex_of}
use Rattle.protocol.specs.declared.event.Event.TheVariants.{Step}
use Rattle.protocol.specs.declared.thread.Thread.{Thread}
use Rattle.protocol.specs.declared.thread.Stage.{Stage}
use Rattle.protocol.specs.declared.thread.Stage.TheVariants.{Calling, AtCondition}
use Rattle.protocol.specs.Machine.{State, After, put, happens, place_met, words_after, queues_after}
use Rattle.protocol.proofs.Kept.{Kept, Fits, Listed}
use Rattle.protocol.proofs.Accesses.{fits_in}
use Rattle.protocol.proofs.CondAccesses.{by_access}
use Rattle.protocol.proofs.Leaving as leaving
use Rattle.protocol.proofs.Phases.{IsPlain, link_plain}
use Rattle.protocol.proofs.Places.{IsMine, links_mine, more_links, mine_is_valid, mine_is_no_cell, mine_is_no_counter}
use Rattle.protocol.proofs.Puts.{put-other}
use Rattle.protocol.proofs.Queued.{out_awake}
use Rattle.protocol.proofs.Seeing.{head_in, words_in}
use Rattle.protocol.proofs.Steps.{done, thread_after, call_step, cond_step}
use Rattle.protocol.proofs.Working.{call_goes, cond_goes}
use Rattle.slots.specs.Rows.{Choice, Row}
use Rattle.slots.specs.Rows.Giving.{OfUnlock, OfWait}
use Rattle.slots.specs.Shown.{Slots, after, memory, shown, turned}
use Rattle.slots.specs.Stands.{StandsAs}
use Rattle.slots.specs.Table.{Made, made, access_of_stage}
use Rattle.slots.specs.Runs.{awake_after, slept_after, turns_after}
use Rattle.slots.specs.Accesses.{IsAtRow, IsAlongList, ListRowsAreEvents, IsClearing, ClearingRowsAreEvents}
use Rattle.slots.proofs.Free.{reached_kept}
use Rattle.slots.proofs.Looks.{IsQuiet}
use Rattle.slots.proofs.Shows.{IsLike, shows_same, shows_put, turn_stays, put_there, loads, load_queues, stores, store_queues}

-- what the table says of a row's access, of these events
abbrev pub AreEvents : Slots → ℕ → Choice → Row → Made → Type 0
AreEvents x t c r g = ((p : ℕ) → shown (record (after x g.events) { turns = turns_after r c (after x g.events).turns; awake = awake_after r x.awake; slept = slept_after r x.slept; rows = put x.rows t g.next }) p ≡ words_after (memory x) t g.access p)
    × ((p : ℕ) → (after x g.events).machine.queues p ≡ queues_after (memory x) t g.access p)

-- ---- a plain access of one of the thread's own words

module _ (x : Slots) (t : ℕ) (c : Choice) (r next : Row) (quiet : IsQuiet r) (pos : 1 ≤ t) (known : t ≤ x.machine.layout.threads) (th : Thread) where
  abbrev behind : Slots
  behind = record (after x (Step t ∷ [])) { turns = turns_after r c (after x (Step t ∷ [])).turns; awake = awake_after r x.awake; slept = slept_after r x.slept; rows = put x.rows t next }

  module _ (a : Access) (to : (happens x.machine (Step t)).state ≡ done x.machine t a th) (mine : IsMine x.machine t (place_met x.machine.layout t a)) where
    cell_same : (k : ℕ) → k < x.machine.layout.mutexes → (happens x.machine (Step t)).state.words (cell_place x.machine.layout k) ≡ x.machine.words (cell_place x.machine.layout k)
    cell_same k inside = ap (λ (s : State). s.words (cell_place x.machine.layout k)) to
        ∙ put-other x.machine.words (place_met x.machine.layout t a) _ (cell_place x.machine.layout k) (λ e. mine_is_no_cell x.machine t (place_met x.machine.layout t a) k pos known inside mine (sym e))

    like : IsLike x behind
    like = record {
      layout = ap (λ (s : State). s.layout) to;
      awake = λ m. ap (λ (f : ℕ → Bool). f m) (quiet.awake x.awake);
      slept = λ m. ap (λ (f : ℕ → Bool). f m) (quiet.slept x.slept);
      turns = λ k inside.
          ap (λ (f : ℕ → ℕ). f k) (quiet.turns c (turned x.machine (happens x.machine (Step t)).state x.turns))
          ∙ turn_stays x.machine (happens x.machine (Step t)).state x.turns k (ap (λ (s : State). s.layout) to) (cell_same k inside);
    }

  pub plain_row : (a : Access) → (happens x.machine (Step t)).state ≡ done x.machine t a th → IsPlain a → IsMine x.machine t (place_met x.machine.layout t a) → AreEvents x t c r (record { access = a; events = Step t ∷ []; next = next })
  plain_row (Access.Load at) to plain mine = (
    λ p. shows_same x behind (like (Access.Load at) to mine) (λ q. ap (λ (s : State). s.words q) to ∙ put_there x.machine.words (place_in x.machine.layout t at) q) p ∙ sym (loads (memory x) t at p),
    λ p. ap (λ (s : State). s.queues p) to ∙ put_there x.machine.queues (place_in x.machine.layout t at) p ∙ sym (load_queues (memory x) t at p),
  )
  plain_row (Access.Store at v) to plain mine = (
    λ p. shows_put x behind (place_in x.machine.layout t at) v (like (Access.Store at v) to mine)
        (λ k inside. mine_is_no_cell x.machine t (place_in x.machine.layout t at) k pos known inside mine)
        (λ k. mine_is_no_counter x.machine t (place_in x.machine.layout t at) k pos known mine)
        (λ q. ap (λ (s : State). s.words q) to) p
        ∙ sym (stores (memory x) t at v (place_in x.machine.layout t at) refl (mine_is_valid x.machine t (place_in x.machine.layout t at) pos known mine) p),
    λ p. ap (λ (s : State). s.queues p) to ∙ put_there x.machine.queues (place_in x.machine.layout t at) p ∙ sym (store_queues (memory x) t at v p),
  )
  plain_row a to plain mine = absurd plain

-- ---- along the list

abbrev IsListPhase : Phase → Type 0
IsListPhase (Linking l x) = Unit {0}
IsListPhase (Unlinking u d) = Unit {0}
IsListPhase f = ⊥

along : (s : State) (t : ℕ) (o : Op) (p : Whole) (f : Phase) → Kept s → 1 ≤ t → t ≤ s.layout.threads → IsListPhase f → Fits s t (s.threads t).held (mutex_of s.layout o) (record p { phase = f }) → Listed s t (Calling o (record p { phase = f }))
    → IsPlain (phase_access p f) × IsMine s t (place_met s.layout t (phase_access p f))
along s t o p (Linking l x) inv pos known list fits (es, owned, ch) = subst (λ (z : LinkStanding). IsPlain (phase_access p (Linking z x)) × IsMine s t (place_met s.layout t (phase_access p (Linking z x)))) (sym same) (
  link_plain (head_in s.layout t) p.entry l.row,
  links_mine s t (address_of (link_access (head_in s.layout t) p.entry l.row))
      (more_links s t inv.layout pos known (mutex_of s.layout o) (Some (mutex_of s.layout o)) p.entry es (address_of (link_access (head_in s.layout t) p.entry l.row)) owned fits.inside fits.entry fits.stands.3
      (near (head_in s.layout t) p.entry es l.row (words_in s.layout t s.words) ch)),
)
  where
    same : l ≡ record { head = head_in s.layout t; entry = p.entry; row = l.row }
    same = λ i. record { head = (fits.stands.0 ∙ fits.head) i; entry = fits.stands.1 i; row = l.row }
along s t o p (Unlinking u d) inv pos known list fits (es, owned, ch) = subst (λ (z : UnlinkStanding). IsPlain (phase_access p (Unlinking z d)) × IsMine s t (place_met s.layout t (phase_access p (Unlinking z d)))) (sym same) (
  leaving.plain s t (s.threads t) inv pos known (mutex_of s.layout o) fits.inside p.entry fits.entry u.row fits.stands.2 es owned ch,
  leaving.mine s t (s.threads t) inv pos known (mutex_of s.layout o) fits.inside p.entry fits.entry u.row fits.stands.2 es owned ch,
)
  where
    same : u ≡ record { head = head_in s.layout t; entry = p.entry; row = u.row }
    same = λ i. record { head = (fits.stands.0 ∙ fits.head) i; entry = fits.stands.1 i; row = u.row }
along s t o p f inv pos known list fits listed = absurd list

along_in : (s : State) (t : ℕ) (o : Op) (p : Whole) → Kept s → 1 ≤ t → t ≤ s.layout.threads → (s.threads t).stage ≡ Calling o p → IsListPhase p.phase → IsPlain (whole_access p) × IsMine s t (place_met s.layout t (whole_access p))
along_in s t o p inv pos known is list = along s t o p p.phase inv pos known list (fits_in s t o p inv pos known is).0 (subst (λ (g : Stage). Listed s t g) is (inv.listed t pos known))

-- a wait's, before its release
abbrev IsUnlinkingAt : CondPhase → Type 0
IsUnlinkingAt (CondPhase.Unlinking u seen) = Unit {0}
IsUnlinkingAt f = ⊥

along_at : (s : State) (t : ℕ) (c : CondCall) (p : CondWhole) → Kept s → 1 ≤ t → t ≤ s.layout.threads → (s.threads t).stage ≡ AtCondition c p → IsUnlinkingAt p.phase → IsPlain (cond_access p) × IsMine s t (place_met s.layout t (cond_access p))
along_at s t c p inv pos known is list =
    by_access s t c inv pos known (λ (q : CondWhole). IsUnlinkingAt q.phase → IsPlain (cond_access q) × IsMine s t (place_met s.layout t (cond_access q)))
    (λ r fits step never. absurd never)
    (λ z q near list. (near.plain, near.mine)) p is list

-- ---- the rows

module _ (x : Slots) (t : ℕ) (c : Choice) (at : IsAtRow x t) where
  inv : Kept x.machine
  inv = reached_kept x.machine at.reached

  -- of a call on a mutex, and of a wait
  pub call_row : (r next : Row) (o : Op) (p : Whole) → IsQuiet r → (x.machine.threads t).stage ≡ Calling o p → IsPlain (whole_access p) → IsMine x.machine t (place_met x.machine.layout t (whole_access p)) → AreEvents x t c r (record { access = whole_access p; events = Step t ∷ []; next = next })
  call_row r next o p quiet is plain mine =
      plain_row x t c r next quiet at.first at.last (thread_after x.machine t (call_step x.machine t o p)) (whole_access p)
      (ap (λ (a : After). a.state) (call_goes x.machine t o p inv at.first at.last is (out_awake x.machine t at.out))) plain mine

  pub cond_row : (r next : Row) (o : CondCall) (p : CondWhole) → IsQuiet r → (x.machine.threads t).stage ≡ AtCondition o p → IsPlain (cond_access p) → IsMine x.machine t (place_met x.machine.layout t (cond_access p)) → AreEvents x t c r (record { access = cond_access p; events = Step t ∷ []; next = next })
  cond_row r next o p quiet is plain mine =
      plain_row x t c r next quiet at.first at.last (thread_after x.machine t (cond_step x.machine t o p)) (cond_access p)
      (ap (λ (a : After). a.state) (cond_goes x.machine t o p inv at.first at.last is)) plain mine

  -- a row along the list, wherever it leads
  abbrev Along : Row → Type 0
  Along r = (z : ℕ) (next : Row) → AreEvents x t c r (record { access = access_of_stage (x.machine.threads t).stage z; events = Step t ∷ []; next = next })

  in_call : (r : Row) (o : Op) (p : Whole) (f : Phase) → IsQuiet r → (x.machine.threads t).stage ≡ Calling o p → p.phase ≡ f → IsListPhase f → Along r
  in_call r o p f quiet is phase list z next =
      let own = along_in x.machine t o p inv at.first at.last is (subst IsListPhase (sym phase) list) in
      subst (λ (a : Access). AreEvents x t c r (record { access = a; events = Step t ∷ []; next = next })) (sym (ap (λ (g : Stage). access_of_stage g z) is)) (call_row r next o p quiet is own.0 own.1)

  in_wait : (r : Row) (o : CondCall) (p : CondWhole) (f : CondPhase) → IsQuiet r → (x.machine.threads t).stage ≡ AtCondition o p → p.phase ≡ f → IsUnlinkingAt f → Along r
  in_wait r o p f quiet is phase list z next =
      let own = along_at x.machine t o p inv at.first at.last is (subst IsUnlinkingAt (sym phase) list) in
      subst (λ (a : Access). AreEvents x t c r (record { access = a; events = Step t ∷ []; next = next })) (sym (ap (λ (g : Stage). access_of_stage g z) is)) (cond_row r next o p quiet is own.0 own.1)

  pub list_row : (r : Row) → StandsAs r (x.machine.threads t).stage → IsAlongList r → AreEvents x t c r (made x t c r)
  list_row (Row.Links m y) (u, inl (p, is, phase)) list = in_call (Row.Links m y) _ p (Linking u y) (record { awake = λ a. refl; slept = λ a. refl; turns = λ d a. refl }) is phase tt _ (made x t c (Row.Links m y)).next
  list_row (Row.Links m y) (u, inr (inl (p, is, phase))) list = in_call (Row.Links m y) _ p (Linking u y) (record { awake = λ a. refl; slept = λ a. refl; turns = λ d a. refl }) is phase tt _ (made x t c (Row.Links m y)).next
  list_row (Row.Links m y) (u, inr (inr (k, (o, p, is, of, acts, phase)))) list = in_call (Row.Links m y) _ p (Linking u y) (record { awake = λ a. refl; slept = λ a. refl; turns = λ d a. refl }) is phase tt _ (made x t c (Row.Links m y)).next
  list_row (Row.SlotLinks k d) (u, (p, is, phase)) list = in_call (Row.SlotLinks k d) _ p (Linking u _) (record { awake = λ a. refl; slept = λ a. refl; turns = λ d a. refl }) is phase tt _ (made x t c (Row.SlotLinks k d)).next
  list_row (Row.HeirLinks k y) (u, (p, is, phase)) list = in_call (Row.HeirLinks k y) _ p (Linking u y) (record { awake = λ a. refl; slept = λ a. refl; turns = λ d a. refl }) is phase tt _ (made x t c (Row.HeirLinks k y)).next
  list_row (Row.FreeUnlinks k f) (u, (p, is, phase)) list = in_call (Row.FreeUnlinks k f) _ p (Unlinking u false) (record { awake = λ a. refl; slept = λ a. refl; turns = λ d a. refl }) is phase tt _ (made x t c (Row.FreeUnlinks k f)).next
  list_row (Row.GiveUnlinks m (OfUnlock d)) (u, (p, is, phase)) list = in_call (Row.GiveUnlinks m (OfUnlock d)) _ p (Unlinking u d) (record { awake = λ a. refl; slept = λ a. refl; turns = λ d a. refl }) is phase tt _ (made x t c (Row.GiveUnlinks m (OfUnlock d))).next
  list_row (Row.GiveUnlinks m (OfWait k n slept timed)) (p, u, is, phase) list = in_wait (Row.GiveUnlinks m (OfWait k n slept timed)) _ p (CondPhase.Unlinking u n) (record { awake = λ a. refl; slept = λ a. refl; turns = λ d a. refl }) is phase tt _ (made x t c (Row.GiveUnlinks m (OfWait k n slept timed))).next
  list_row r there list = absurd list

pub list_rows : ListRowsAreEvents
list_rows x t c at list = let both = list_row x t c at (x.rows t) at.there list in record { words = both.0; queues = both.1 }

-- ---- the pending word is cleared

module _ (x : Slots) (t : ℕ) (c : Choice) (at : IsAtRow x t) where
  clears : (r next : Row) (o : Op) (p : Whole) (y : Reply) → IsQuiet r → (x.machine.threads t).stage ≡ Calling o p → p.phase ≡ Clearing y
      → AreEvents x t c r (record { access = Access.Store (address_in x.machine.layout t (head_place t + 2)) 0; events = Step t ∷ []; next = next })
  clears r next o p y quiet is phase =
      let inv = reached_kept x.machine at.reached in
      let fits : Fits x.machine t (x.machine.threads t).held (mutex_of x.machine.layout o) p = (fits_in x.machine t o p inv at.first at.last is).0 in
      let address : pending_place p.head ≡ address_in x.machine.layout t (head_place t + 2) = ap pending_place fits.head ∙ head_further x.machine.layout t inv.layout at.first at.last 2 (omega arith) in
      let access : whole_access p ≡ Access.Store (address_in x.machine.layout t (head_place t + 2)) 0 = ap (phase_access p) phase ∙ ap (λ (a : ℕ). Access.Store a 0) address in
      let place : place_in x.machine.layout t (address_in x.machine.layout t (head_place t + 2)) ≡ head_place t + 2 = ap (place_in x.machine.layout t) (sym (head_further x.machine.layout t inv.layout at.first at.last 2 (omega arith))) ∙ head_word_again x.machine.layout t inv.layout at.first at.last 2 (omega arith) in
      subst (λ (a : Access). AreEvents x t c r (record { access = a; events = Step t ∷ []; next = next })) access
      (call_row x t c at r next o p quiet is (subst IsPlain (sym access) tt) (subst (λ (a : Access). IsMine x.machine t (place_met x.machine.layout t a)) (sym access) (inr (inl place))))

  pub clearing_row : (r : Row) → StandsAs r (x.machine.threads t).stage → IsClearing r → AreEvents x t c r (made x t c r)
  clearing_row (Row.Clears m y) (o, p, z, is, phase, same) clearing = clears (Row.Clears m y) Row.Rests o p z (record { awake = λ a. refl; slept = λ a. refl; turns = λ d a. refl }) is phase
  clearing_row (Row.SlotClears k) (p, is, phase) clearing = clears (Row.SlotClears k) (Row.SlotQuiets k) _ p _ (record { awake = λ a. refl; slept = λ a. refl; turns = λ d a. refl }) is phase
  clearing_row r there clearing = absurd clearing

pub clearing_rows : ClearingRowsAreEvents
clearing_rows x t c at clearing = let both = clearing_row x t c at (x.rows t) at.there clearing in record { words = both.0; queues = both.1 }
