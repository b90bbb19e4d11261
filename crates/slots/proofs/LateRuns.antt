-- In every run, whatever stores wait, loads find what the layer shows.
use Rattle.std.proofs.Common.{◌≡◌, ◌≢◌, ◌⊎◌, inl, inr, ℕ, ◌+◌, ◌<◌, ◌≤◌, ◌==◌, Bool, true, false, None, Some, List, [], ◌∷◌, ◌++◌, length, refl, sym, ap, ◌∙◌, subst, arith, eqb-true, eq-eqb}
use Rattle.std.specs.Prelude.{if◌then◌else◌, not, ◌&&◌, slice_index}
use Rattle.lockword.specs.Cells.{bit}
use Rattle.stepprograms.specs.declared.access.Access.{Access}
use Rattle.memorymap.specs.Layouts.{IsLayout, Layout', cell_place, counter_place, entry_place, head_place}
use Rattle.protocol.specs.Changes.{IsItsOwn}
use Rattle.protocol.specs.Headline.{seen}
use Rattle.protocol.specs.declared.event.Event.{Event}
use Rattle.protocol.specs.declared.event.Event.TheVariants.{Expire, Leave, Step}
use Rattle.protocol.specs.declared.thread.Stage.{Stage}
use Rattle.storebuffers.specs.OwnWords.{AreOthers}
use Rattle.storebuffers.proofs.Owning.{IsOwn}
use Rattle.storebuffers.proofs.OwnWords.{all_stay, head_again}
use Rattle.mutex.specs.Whole.{may_expire}
use Rattle.condvar.specs.Calls.{condition_of}
use Rattle.condvar.specs.declared.op.Op.TheVariants.{OnMutex, OnCondition}
use Rattle.protocol.specs.declared.thread.Stage.TheVariants.{AtCondition, Calling, Dying, Idle, Reaped}
use Rattle.slots.specs.Heirs.{AreOf}
use Rattle.slots.proofs.AllRows.{layout_run}
use Rattle.slots.proofs.CountersKept.{count_at, counter_stays}
use Rattle.slots.proofs.Free.{reached_kept}
use Rattle.slots.proofs.MachineRuns.{next_is}
use Rattle.slots.proofs.OthersKeep.{seen_owned}
use Rattle.slots.proofs.Shows.{no_counter, no_mutex, put_there}
use Rattle.slots.proofs.Sleeping.{counter_shows}
use Rattle.slots.proofs.SleptNext.{slept_but}
use Rattle.protocol.specs.Machine.{State, After, departed, expired, happens, is_dying, is_exiting, is_gone, is_timed, lapsed, nothing, overslept, renewed, sleeps, stands_in, waits_on, has_thread, is_alive, is_asleep, is_valid, mutex_at, place_met, put, run, words_after}
use Rattle.protocol.proofs.Puts.{put-other, put-same}
use Rattle.storebuffers.specs.Buffers.{Store, Waits, stored}
use Rattle.storebuffers.proofs.Stores.{same_or_not, waits-on}
use Rattle.std.proofs.lemmas.Bool.Decides.{nat_tests}
use Rattle.slots.proofs.PlainStores.{made_so}
use Rattle.slots.proofs.ShownWords.{IsReading, apart_words, reads}
use Rattle.slots.specs.Places.{counter_at}
use Rattle.slots.specs.Rows.{Choice, Row}
use Rattle.slots.specs.Shown.{Slots, after, memory, shown, shown_as}
use Rattle.slots.specs.Table.{made}
use Rattle.slots.specs.Runs.{Happening, at_row, events_of, is_resting, lapse_events, lapse_row, made_by, may_call, next}
use Rattle.slots.specs.Runs.Happening.{Calls, Goes, Interrupts, Lapses, Dies, Walks, Lives}
use Rattle.slots.specs.Goes.{who}
use Rattle.slots.specs.Premises.{TrustsIn}
use Rattle.slots.specs.Late.{AllTrustedLate, FindsTheSame, Late, LateMemoryTellsTheSame, Moment, begin_late, changed, drained, flushed, kept, late_from, late_next, went, with_store}
use Rattle.slots.specs.Late.Moment.{Happens, Drains}
use Rattle.slots.specs.Stores.{IsMadeSo, IsOwnHere, IsPlain, Manner, WaitsAt, manner, stored_by, waiting_after, waiting_row}
use Rattle.slots.specs.Stores.Manner.{Loads, Stores, Locks, Asks, Along}
use Rattle.slots.proofs.Following.{begins_steady, events_of_it, steady_next}
use Rattle.slots.proofs.Lagging.{AreApart, Finds, drained_finds, flushed_finds, kept_finds, store_finds}
use Rattle.slots.proofs.Leading.{by_test}
use Rattle.slots.proofs.Steady.{Steady, may_go}
use Rattle.slots.proofs.Waiting.{Dead, Own, access_words, next_dead, next_own, own_apart, own_no_cell, own_place, owned_inside}

-- ---- what holds

pub record Holds (g : Late) : Type 0 where
  pub steady : Steady g.layer
  pub waiting : ℕ → List ℕ
  pub own : Own g.layer.machine waiting
  pub dead : Dead g.layer.machine waiting
  pub within : (t p : ℕ) → Waits p (g.buffers t) → WaitsAt p (waiting t)
  pub finds : Finds (shown g.layer) g.memory g.buffers

its : (g : Late) → Holds g → (t p : ℕ) → Waits p (g.buffers t) → (1 ≤ t) × (t ≤ g.layer.machine.layout.threads) × IsOwnHere g.layer.machine t p
its g h t p there = h.own t p (h.within t p there)

apart : (g : Late) → Holds g → AreApart g.buffers
apart g h t u p off a b = let x = its g h t p a in let y = its g h u p b in own_apart g.layer.machine t u p x.0 x.1 y.0 y.1 off x.2 y.2

-- so loads find the same
pub finds_same : (g : Late) → Holds g → FindsTheSame g
finds_same g h = record {
  own = λ t p first last mine. h.finds t p (λ u off there. let y = its g h u p there in own_apart g.layer.machine u t p y.0 y.1 first last off y.2 mine);
  cells = λ t k inside. h.finds t (cell_place g.layer.machine.layout k) (λ u off there. no_cell u k inside there);
  memory = λ k inside. ap (λ (xs : List Store). stored xs g.memory (cell_place g.layer.machine.layout k)) (sym none) ∙ h.finds 0 (cell_place g.layer.machine.layout k) (λ u off there. no_cell u k inside there);
}
  where
    no_cell : (u k : ℕ) → k < g.layer.machine.layout.mutexes → Waits (cell_place g.layer.machine.layout k) (g.buffers u) → ⊥
    no_cell u k inside there = let y = its g h u (cell_place g.layer.machine.layout k) there in own_no_cell g.layer.machine u (cell_place g.layer.machine.layout k) k y.0 y.1 inside y.2 refl

    none : g.buffers 0 ≡ []
    none = go (g.buffers 0) refl
      where
        go : (xs : List Store) → g.buffers 0 ≡ xs → xs ≡ []
        go [] e = refl
        go (s ∷ ss) e = let y = its g h 0 s.at (subst (Waits s.at) (sym e) (inl refl)) in absurd (let first = y.0 in omega (arith, first))

-- ---- drains

pub drains_hold : (g : Late) (t : ℕ) → Holds g → (xs : List Store) → g.buffers t ≡ xs → Holds (drained g t xs)
drains_hold g t h [] e = h
drains_hold g t h (s ∷ ss) e = record {
  steady = h.steady;
  waiting = h.waiting;
  own = h.own;
  dead = h.dead;
  within = λ u p there. h.within u p (still u p (u == t) refl there);
  finds = drained_finds (shown g.layer) g.memory g.buffers (apart g h) h.finds t s ss e;
}
  where
    still : (u p : ℕ) (b : Bool) → (u == t) ≡ b → Waits p (put g.buffers t ss u) → Waits p (g.buffers u)
    still u p true f there = let is : u ≡ t = eqb-true u t f in
        subst (λ (j : ℕ). Waits p (g.buffers j)) (sym is) (subst (Waits p) (sym e) (inr (subst (Waits p) (ap (put g.buffers t ss) is ∙ put-same g.buffers t ss) there)))
    still u p false f there = subst (Waits p) (put-other g.buffers t ss u (λ is. cc (sym f ∙ eq-eqb u t is))) there

-- ---- words that stay

its_is_own : (s : State) (t p : ℕ) → IsItsOwn s t p → IsOwn s t p
its_is_own s t p (inl (k, small, is)) = head_again s t p k small is
its_is_own s t p (inr (k, inside, own, place)) = inl (inr (inr (k, inside, place, own)))

are_others : (t u : ℕ) (es : List Event) → AreOf t es → t ≢ u → AreOthers u es
are_others t u [] of off = tt
are_others t u (e ∷ es) (mine, of) off = ((λ is. off (sym mine ∙ is)), are_others t u es of off)

-- a word that is neither a mutex's nor a counter
its_no_cell : (s : State) (t p k : ℕ) → 1 ≤ t → t ≤ s.layout.threads → k < s.layout.mutexes → IsItsOwn s t p → p ≢ cell_place s.layout k
its_no_cell s t p k first last inside own = own_no_cell s t p k first last inside (inl own)

pub its_no_counter : (s : State) (t p k : ℕ) → 1 ≤ t → t ≤ s.layout.threads → IsItsOwn s t p → p ≢ counter_place s.layout k
its_no_counter s t p k first last (inl (i, small, is)) e = let f : head_place t + i ≡ counter_place s.layout k = sym is ∙ e in omega (arith, f, small, last, first)
its_no_counter s t p k first last (inr (m, below, own, inl is)) e = let f : entry_place s.layout m ≡ counter_place s.layout k = sym is ∙ e in omega (arith, f, below)
its_no_counter s t p k first last (inr (m, below, own, inr is)) e = let f : entry_place s.layout m + 1 ≡ counter_place s.layout k = sym is ∙ e in omega (arith, f, below)

plain_shown : (x : Slots) (l : Layout') (p : ℕ) → x.machine.layout ≡ l → mutex_at l p ≡ None → counter_at l p ≡ None → shown x p ≡ x.machine.words p
plain_shown x l p same none neither = (λ i. shown_as x (mutex_at (same i) p) (counter_at (same i) p) (x.machine.words p)) ∙ (λ i. shown_as x (none i) (neither i) (x.machine.words p))

-- with the same words, it is shown as before
same_shown : (x y : Slots) (t p : ℕ) → 1 ≤ t → t ≤ x.machine.layout.threads → y.machine.layout ≡ x.machine.layout
    → (IsItsOwn x.machine t p → y.machine.words p ≡ x.machine.words p)
    → ((k : ℕ) → k < length x.machine.layout.conditions → (seen x.machine (slice_index x.machine.layout.conditions k)).owner ≡ Some t → (count_at y k ≡ count_at x k) × (y.slept k ≡ x.slept k))
    → IsOwnHere x.machine t p → shown y p ≡ shown x p
same_shown x y t p first last layout words counts (inl own) =
    let none = no_mutex x.machine.layout p (λ k inside. its_no_cell x.machine t p k first last inside own) in
    let neither = no_counter x.machine.layout p (λ k. its_no_counter x.machine t p k first last own) in
    plain_shown y x.machine.layout p layout none neither ∙ words own ∙ sym (plain_shown x x.machine.layout p refl none neither)
same_shown x y t p first last layout words counts (inr (k, inside, is, own)) =
    let both = counts k inside own in
    ap (shown y) (is ∙ ap (λ (l : Layout'). counter_place l k) (sym layout)) ∙ counter_shows y k (subst (λ (l : Layout'). k < length l.conditions) (sym layout) inside)
    ∙ (λ i. both.0 i + bit (both.1 i) 4294967296) ∙ sym (counter_shows x k inside) ∙ ap (shown x) (sym is)

module _ (x : Slots) (h : Happening) (s : Steady x) (pos : 1 ≤ who h) (known : who h ≤ x.machine.layout.threads) (w : TrustsIn x h) where
  layout_next : (next x h).machine.layout ≡ x.machine.layout
  layout_next = ap (λ (z : State). z.layout) (next_is x h) ∙ layout_run x.machine (events_of x h) (reached_kept x.machine s.reached)

  -- what is another thread's own
  others_shown : (v p : ℕ) → v ≢ who h → 1 ≤ v → v ≤ x.machine.layout.threads → IsOwnHere x.machine v p → shown (next x h) p ≡ shown x p
  others_shown v p off first last = same_shown x (next x h) v p first last layout_next
      (λ own. ap (λ (z : State). z.words p) (next_is x h) ∙ (all_stay v p first x.machine (events_of x h) (reached_kept x.machine s.reached) last (are_others (who h) v (events_of x h) (events_of_it x h) (λ e. off (sym e))) (its_is_own x.machine v p own)).0)
      (λ k inside own. (
        ap (λ (z : State). z.words (counter_place z.layout k)) (next_is x h) ∙ counter_stays x.machine (events_of x h) (who h) v k s.reached s.counts (events_of_it x h) (λ e. off (sym e)) first (owned_inside x.machine (slice_index x.machine.layout.conditions k) v own) own,
        slept_but x h s pos known k (λ e. off (sym (seen_owned x.machine (slice_index x.machine.layout.conditions k) v (owned_inside x.machine (slice_index x.machine.layout.conditions k) v own) own) ∙ e)),
      ))

-- neither an access nor a death
abbrev IsNoAccess : Happening → Type 0
IsNoAccess (Goes t c) = ⊥
IsNoAccess (Dies t) = ⊥
IsNoAccess h = Unit {0}

second_of : (a b : Bool) → (a && b) ≡ true → b ≡ true
second_of true b e = e
second_of false b e = absurd cc

abbrev SameWords : Slots → State → Type 0
SameWords x z = ((p : ℕ) → z.words p ≡ x.machine.words p) × ((k : ℕ) → z.words (counter_place z.layout k) ≡ count_at x k)

module _ (x : Slots) (t : ℕ) where
  expired_words : (f : Stage) → SameWords x (expired x.machine t (x.machine.threads t).held f).state
  expired_words (Calling (OnMutex o) q) = by_test (λ (a : After). SameWords x a.state) (is_timed (OnMutex o) && may_expire q.phase && sleeps x.machine t (Calling (OnMutex o) q)) (lapsed x.machine t (x.machine.threads t).held (OnMutex o) q) (nothing x.machine) (λ e. ((λ p. refl), (λ k. refl))) (λ e. ((λ p. refl), (λ k. refl)))
  expired_words (Calling (OnCondition o) q) = by_test (λ (a : After). SameWords x a.state) (is_timed (OnCondition o) && waits_on x.machine t (condition_of o)) (overslept x.machine t (x.machine.threads t).held (condition_of o) q) (nothing x.machine) (λ e. ((λ p. refl), (λ k. refl))) (λ e. ((λ p. refl), (λ k. refl)))
  expired_words Idle = ((λ p. refl), (λ k. refl))
  expired_words (AtCondition o q) = ((λ p. refl), (λ k. refl))
  expired_words (Dying v) = ((λ p. refl), (λ k. refl))
  expired_words Reaped = ((λ p. refl), (λ k. refl))

  expire_words : SameWords x (happens x.machine (Expire t)).state
  expire_words = by_test (λ (a : After). SameWords x a.state) (has_thread x.machine t) (expired x.machine t (x.machine.threads t).held (x.machine.threads t).stage) (nothing x.machine) (λ e. expired_words (x.machine.threads t).stage) (λ e. ((λ p. refl), (λ k. refl)))

  pub leave_words : SameWords x (happens x.machine (Leave t)).state
  leave_words = by_test (λ (a : After). SameWords x a.state) (has_thread x.machine t && is_asleep x.machine t) (departed x.machine t) (nothing x.machine) (λ e. ((λ p. refl), (λ k. refl))) (λ e. ((λ p. refl), (λ k. refl)))

  pub lapse_words : (r : Row) → SameWords x (run x.machine (lapse_events x t r))
  lapse_words (Row.Asleep k) = by_test (λ (es : List Event). SameWords x (run x.machine es)) k.timed (Expire t ∷ []) [] (λ e. expire_words) (λ e. ((λ p. refl), (λ k. refl)))
  lapse_words (Row.WaitAsleep j k n true) = by_test (λ (es : List Event). SameWords x (run x.machine es)) (stands_in t (x.machine.queues (counter_place x.machine.layout k))) (Expire t ∷ []) (Leave t ∷ []) (λ e. expire_words) (λ e. leave_words)
  lapse_words (Row.WaitAsleep j k n false) = ((λ p. refl), (λ k. refl))
  lapse_words r = ((λ p. refl), (λ k. refl))

  lapses_words : SameWords x (next x (Lapses t)).machine
  lapses_words = by_test (λ (y : Slots). SameWords x y.machine) (is_asleep x.machine t) (at_row (after x (lapse_events x t (x.rows t))) t (lapse_row (x.rows t))) x (λ e. lapse_words (x.rows t)) (λ e. ((λ p. refl), (λ k. refl)))

  gone_dead : (f : Stage) → is_gone f ≡ true → is_alive f ≡ false
  gone_dead Reaped e = refl
  gone_dead f e = absurd cc

  renews : (is_alive (x.machine.threads t).stage ≡ false → ⊥) → SameWords x (next x (Lives t)).machine
  renews lives = by_test (λ (a : After). SameWords x a.state) (has_thread x.machine t && is_gone (x.machine.threads t).stage) (renewed x.machine t) (nothing x.machine)
      (λ e. absurd (lives (gone_dead (x.machine.threads t).stage (second_of (has_thread x.machine t) (is_gone (x.machine.threads t).stage) e)))) (λ e. ((λ p. refl), (λ k. refl)))

-- a happening without an access of its own changes no word of the thread's own, if stores of it wait
pub waiting_shown : (x : Slots) (h : Happening) → Steady x → 1 ≤ who h → who h ≤ x.machine.layout.threads → TrustsIn x h → IsNoAccess h → (is_alive (x.machine.threads (who h)).stage ≡ false → ⊥) → (p : ℕ) → IsOwnHere x.machine (who h) p → shown (next x h) p ≡ shown x p
waiting_shown x (Calls t r) s pos known w quiet lives p own = by_test (λ (y : Slots). shown y p ≡ shown x p) (has_thread x.machine t && is_alive (x.machine.threads t).stage && is_resting (x.rows t) && may_call x.machine.layout (x.machine.threads t).held r) (at_row x t r) x (λ e. refl) (λ e. refl)
waiting_shown x (Goes t c) s pos known w quiet lives p own = absurd quiet
waiting_shown x (Interrupts t) s pos known w quiet lives p own = same_shown x (next x (Interrupts t)) t p pos known (layout_next x (Interrupts t) s pos known w)
    (λ o. by_test (λ (a : After). a.state.words p ≡ x.machine.words p) (has_thread x.machine t && is_asleep x.machine t) (departed x.machine t) (nothing x.machine) (λ e. refl) (λ e. refl))
    (λ k inside o. (by_test (λ (a : After). a.state.words (counter_place a.state.layout k) ≡ count_at x k) (has_thread x.machine t && is_asleep x.machine t) (departed x.machine t) (nothing x.machine) (λ e. refl) (λ e. refl), refl)) own
waiting_shown x (Lapses t) s pos known w quiet lives p own = same_shown x (next x (Lapses t)) t p pos known (layout_next x (Lapses t) s pos known w)
    (λ o. (lapses_words x t).0 p) (λ k inside o. ((lapses_words x t).1 k, by_test (λ (y : Slots). y.slept k ≡ x.slept k) (is_asleep x.machine t) (at_row (after x (lapse_events x t (x.rows t))) t (lapse_row (x.rows t))) x (λ e. refl) (λ e. refl))) own
waiting_shown x (Dies t) s pos known w quiet lives p own = absurd quiet
waiting_shown x (Walks t) s pos known w quiet lives p own = go (is_dying x.machine t) refl
  where
    exiting_dead : (f : Stage) → is_exiting f ≡ true → is_alive f ≡ false
    exiting_dead (Dying v) e = refl
    exiting_dead f e = absurd cc

    go : (b : Bool) → is_dying x.machine t ≡ b → shown (if b then after x (Step t ∷ []) else x) p ≡ shown x p
    go true e = absurd (lives (exiting_dead (x.machine.threads t).stage (second_of (has_thread x.machine t) (is_exiting (x.machine.threads t).stage) e)))
    go false e = refl
waiting_shown x (Lives t) s pos known w quiet lives p own = same_shown x (next x (Lives t)) t p pos known (layout_next x (Lives t) s pos known w)
    (λ o. (renews x t lives).0 p) (λ k inside o. ((renews x t lives).1 k, refl)) own

-- ---- one happening

own_valid : (s : State) (t p : ℕ) → 1 ≤ t → t ≤ s.layout.threads → IsOwnHere s t p → is_valid s.layout p ≡ true
own_valid s t p first last own = grind (arith, nat_tests)

module _ (g : Late) (h : Holds g) where
  abbrev x : Slots
  x = g.layer

  -- where a thread's stores wait, it lives
  lives_if : (t p : ℕ) → Waits p (g.buffers t) → is_alive (x.machine.threads t).stage ≡ false → ⊥
  lives_if t p there dead = let y = its g h t p there in subst (WaitsAt p) (h.dead t y.0 y.1 dead) (h.within t p there)

  -- no access, and no death
  quiet_holds : (q : Happening) → 1 ≤ who q → who q ≤ x.machine.layout.threads → TrustsIn x q → IsNoAccess q → ((t : ℕ) → waiting_after x q h.waiting t ≡ h.waiting t) → Holds (kept g (next x q))
  quiet_holds q pos known w quiet same = record {
    steady = steady_next x q h.steady pos known w;
    waiting = waiting_after x q h.waiting;
    own = next_own x q h.steady pos known w h.waiting h.own h.dead;
    dead = next_dead x q h.steady pos known w h.waiting h.own h.dead;
    within = λ t p there. subst (WaitsAt p) (sym (same t)) (h.within t p there);
    finds = kept_finds (shown x) g.memory g.buffers (apart g h) h.finds (shown (next x q)) (λ t p there. still t p there (same_or_not t (who q)));
  }
    where
      still : (t p : ℕ) → Waits p (g.buffers t) → (t ≡ who q) ⊎ (t ≢ who q) → shown (next x q) p ≡ shown x p
      still t p there (inl e) = waiting_shown x q h.steady pos known w quiet (λ dead. lives_if t p there (subst (λ (j : ℕ). is_alive (x.machine.threads j).stage ≡ false) (sym e) dead)) p (subst (λ (j : ℕ). IsOwnHere x.machine j p) e (its g h t p there).2)
      still t p there (inr off) = let y = its g h t p there in others_shown x q h.steady pos known w t p off y.0 y.1 y.2

  -- what waits of the others
  put_within : (t : ℕ) (xs : List Store) (ps : List ℕ) → ((p : ℕ) → Waits p xs → WaitsAt p ps) → (u p : ℕ) → Waits p (put g.buffers t xs u) → WaitsAt p (put h.waiting t ps u)
  put_within t xs ps mine u p there = go (same_or_not u t)
    where
      go : (u ≡ t) ⊎ (u ≢ t) → WaitsAt p (put h.waiting t ps u)
      go (inl e) = subst (WaitsAt p) (sym (ap (put h.waiting t ps) e ∙ put-same h.waiting t ps)) (mine p (subst (Waits p) (ap (put g.buffers t xs) e ∙ put-same g.buffers t xs) there))
      go (inr off) = subst (WaitsAt p) (sym (put-other h.waiting t ps u off)) (h.within u p (subst (Waits p) (put-other g.buffers t xs u off) there))

  same_within : (t : ℕ) (u p : ℕ) → Waits p (g.buffers u) → WaitsAt p (put h.waiting t (h.waiting t) u)
  same_within t u p there = subst (WaitsAt p) (sym (put_there h.waiting t u)) (h.within u p there)

  dies_hold : (t : ℕ) → 1 ≤ t → t ≤ x.machine.layout.threads → Holds (late_next g (Happens (Dies t)))
  dies_hold t pos known = go (has_thread x.machine t && is_alive (x.machine.threads t).stage) refl (steady_next x (Dies t) h.steady pos known tt) (next_own x (Dies t) h.steady pos known tt h.waiting h.own h.dead) (next_dead x (Dies t) h.steady pos known tt h.waiting h.own h.dead)
    where
      go : (b : Bool) → (has_thread x.machine t && is_alive (x.machine.threads t).stage) ≡ b → Steady (next x (Dies t)) → Own (next x (Dies t)).machine (if b then put h.waiting t [] else h.waiting) → Dead (next x (Dies t)).machine (if b then put h.waiting t [] else h.waiting) → Holds (if b then flushed g t (next x (Dies t)) else g)
      go true e steady own dead = record {
        steady = steady;
        waiting = put h.waiting t [];
        own = own;
        dead = dead;
        within = put_within t [] [] (λ p there. there);
        finds = flushed_finds (shown x) g.memory g.buffers (apart g h) h.finds t (shown (next x (Dies t))) (λ v p off there. let y = its g h v p there in others_shown x (Dies t) h.steady pos known tt v p off y.0 y.1 y.2);
      }
      go false e steady own dead = h

  -- ---- an access

  module _ (t : ℕ) (c : Choice) (pos : 1 ≤ t) (known : t ≤ x.machine.layout.threads) (w : TrustsIn x (Goes t c)) (e : (has_thread x.machine t && is_alive (x.machine.threads t).stage && not (is_asleep x.machine t)) ≡ true) where
    abbrev y : Slots
    y = made_by x t c (made x t c (x.rows t))

    abbrev a : Access
    a = (made x t c (x.rows t)).access

    abbrev place : ℕ
    place = place_met x.machine.layout t (made x t c (x.rows t)).access

    next_is_y : next x (Goes t c) ≡ y
    next_is_y = ap (λ (b : Bool). if b then y else x) e

    lives : is_alive (x.machine.threads t).stage ≡ true
    lives = (may_go (has_thread x.machine t) (is_alive (x.machine.threads t).stage) (is_asleep x.machine t) e).0

    awake : is_asleep x.machine t ≡ false
    awake = (may_go (has_thread x.machine t) (is_alive (x.machine.threads t).stage) (is_asleep x.machine t) e).1

    is : (p : ℕ) → shown y p ≡ words_after (memory x) t a p
    is = access_words x t c h.steady pos known w lives awake

    others : (v p : ℕ) → v ≢ t → Waits p (g.buffers v) → shown y p ≡ shown x p
    others v p off there = let z = its g h v p there in subst (λ (q : Slots). shown q p ≡ shown x p) next_is_y (others_shown x (Goes t c) h.steady pos known w v p off z.0 z.1 z.2)

    abbrev Waiting : List ℕ → ℕ → List ℕ
    Waiting ps = put h.waiting t ps

    mk : (ps : List ℕ) → waiting_row (manner (x.rows t)) a (h.waiting t) place ≡ ps → (memory' : ℕ → ℕ) (buffers' : ℕ → List Store) → ((u p : ℕ) → Waits p (buffers' u) → WaitsAt p (Waiting ps u)) → Finds (shown y) memory' buffers' → Holds (record { layer = y; memory = memory'; buffers = buffers' })
    mk ps row memory' buffers' within finds = record {
      steady = subst Steady next_is_y (steady_next x (Goes t c) h.steady pos known w);
      waiting = Waiting ps;
      own = subst (λ (q : Slots). Own q.machine (Waiting ps)) next_is_y (subst (Own (next x (Goes t c)).machine) waits (next_own x (Goes t c) h.steady pos known w h.waiting h.own h.dead));
      dead = subst (λ (q : Slots). Dead q.machine (Waiting ps)) next_is_y (subst (Dead (next x (Goes t c)).machine) waits (next_dead x (Goes t c) h.steady pos known w h.waiting h.own h.dead));
      within = within;
      finds = finds;
    }
      where
        waits : waiting_after x (Goes t c) h.waiting ≡ put h.waiting t ps
        waits = ap (λ (b : Bool). if b then put h.waiting t (waiting_row (manner (x.rows t)) (made x t c (x.rows t)).access (h.waiting t) (place_met x.machine.layout t (made x t c (x.rows t)).access)) else h.waiting) e ∙ ap (put h.waiting t) row

    read : (IsReading a) → waiting_row (manner (x.rows t)) a (h.waiting t) place ≡ h.waiting t → Holds (kept g y)
    read reading row = mk (h.waiting t) row (changed x y g.memory) g.buffers (same_within t)
        (kept_finds (shown x) g.memory g.buffers (apart g h) h.finds (shown y) (λ v p there. is p ∙ reads (memory x) t a reading p))

    locked : waiting_row (manner (x.rows t)) a (h.waiting t) place ≡ [] → Holds (flushed g t y)
    locked row = mk [] row (changed x y (stored (g.buffers t) g.memory)) (put g.buffers t []) (put_within t [] [] (λ p there. there))
        (flushed_finds (shown x) g.memory g.buffers (apart g h) h.finds t (shown y) others)

    plain : IsPlain (manner (x.rows t)) a → (at v : ℕ) → a ≡ Access.Store at v → waiting_row (manner (x.rows t)) a (h.waiting t) place ≡ place ∷ h.waiting t → Holds (with_store g t y a)
    plain store at v same row = mk (place ∷ h.waiting t) row g.memory (put g.buffers t (g.buffers t ++ record { at = place; value = stored_by a } ∷ []))
        (put_within t (g.buffers t ++ record { at = place; value = stored_by a } ∷ []) (place ∷ h.waiting t) more)
        (store_finds (shown x) g.memory g.buffers (apart g h) h.finds t (record { at = place; value = stored_by a }) (shown y) (is place ∙ here) (λ p off. is p ∙ apart_words (memory x) t a p off))
      where
        more : (p : ℕ) → Waits p (g.buffers t ++ record { at = place; value = stored_by a } ∷ []) → WaitsAt p (place ∷ h.waiting t)
        more p there = go (waits-on p (g.buffers t) (record { at = place; value = stored_by a } ∷ []) there)
          where
            go : Waits p (g.buffers t) ⊎ Waits p (record { at = place; value = stored_by a } ∷ []) → WaitsAt p (place ∷ h.waiting t)
            go (inl old) = inr (h.within t p old)
            go (inr (inl f)) = inl f
            go (inr (inr f)) = absurd f

        valid : is_valid x.machine.layout place ≡ true
        valid = own_valid x.machine t place pos known (own_place x t c h.steady pos known w lives awake store)

        here : words_after (memory x) t a place ≡ stored_by a
        here = subst (λ (b : Access). is_valid x.machine.layout (place_met x.machine.layout t b) ≡ true → words_after (memory x) t b (place_met x.machine.layout t b) ≡ stored_by b) (sym same)
            (λ ok. ap (λ (d : Bool). (if d then put (shown x) (place_met x.machine.layout t (Access.Store at v)) v else shown x) (place_met x.machine.layout t (Access.Store at v))) ok ∙ put-same (shown x) (place_met x.machine.layout t (Access.Store at v)) v) valid

    of_manner : (m : Manner) (b : Access) → manner (x.rows t) ≡ m → a ≡ b → IsMadeSo m b → Holds (went g t y m b)
    of_manner Loads (Access.Load at) f same so = read (subst IsReading (sym same) tt) (λ i. waiting_row (f i) (same i) (h.waiting t) place)
    of_manner Stores (Access.Store at v) f same so = subst (λ (b : Access). Holds (with_store g t y b)) same (plain (subst (λ (m : Manner). IsPlain m a) (sym f) (subst (IsPlain Stores) (sym same) tt)) at v same (λ i. waiting_row (f i) (same i) (h.waiting t) place))
    of_manner Locks b f same so = locked (λ i. waiting_row (f i) (same i) (h.waiting t) place)
    of_manner Asks (Access.Wait at n) f same so = read (subst IsReading (sym same) tt) (λ i. waiting_row (f i) (same i) (h.waiting t) place)
    of_manner Asks (Access.Wake at n) f same so = read (subst IsReading (sym same) tt) (λ i. waiting_row (f i) (same i) (h.waiting t) place)
    of_manner Asks (Access.CmpRequeue from v n to k) f same so = read (subst IsReading (sym same) tt) (λ i. waiting_row (f i) (same i) (h.waiting t) place)
    of_manner Along (Access.Load at) f same so = read (subst IsReading (sym same) tt) (λ i. waiting_row (f i) (same i) (h.waiting t) place)
    of_manner Along (Access.Store at v) f same so = subst (λ (b : Access). Holds (with_store g t y b)) same (plain (subst (λ (m : Manner). IsPlain m a) (sym f) (subst (IsPlain Along) (sym same) tt)) at v same (λ i. waiting_row (f i) (same i) (h.waiting t) place))
    of_manner m b f same so = absurd so

    goes_there : Holds (went g t y (manner (x.rows t)) a)
    goes_there = of_manner (manner (x.rows t)) a refl refl (made_so x t c (x.rows t) (h.steady.there t pos known lives))

  goes_hold : (t : ℕ) (c : Choice) → 1 ≤ t → t ≤ x.machine.layout.threads → TrustsIn x (Goes t c) → Holds (late_next g (Happens (Goes t c)))
  goes_hold t c pos known w = go (has_thread x.machine t && is_alive (x.machine.threads t).stage && not (is_asleep x.machine t)) refl
    where
      go : (b : Bool) → (has_thread x.machine t && is_alive (x.machine.threads t).stage && not (is_asleep x.machine t)) ≡ b → Holds (if b then went g t (made_by x t c (made x t c (x.rows t))) (manner (x.rows t)) (made x t c (x.rows t)).access else g)
      go true e = goes_there t c pos known w e
      go false e = h

next_holds : (g : Late) (q : Happening) → Holds g → 1 ≤ who q → who q ≤ g.layer.machine.layout.threads → TrustsIn g.layer q → Holds (late_next g (Happens q))
next_holds g (Calls t r) h pos known w = quiet_holds g h (Calls t r) pos known w tt (λ u. refl)
next_holds g (Goes t c) h pos known w = goes_hold g h t c pos known w
next_holds g (Interrupts t) h pos known w = quiet_holds g h (Interrupts t) pos known w tt (λ u. refl)
next_holds g (Lapses t) h pos known w = quiet_holds g h (Lapses t) pos known w tt (λ u. refl)
next_holds g (Dies t) h pos known w = dies_hold g h t pos known
next_holds g (Walks t) h pos known w = quiet_holds g h (Walks t) pos known w tt (λ u. refl)
next_holds g (Lives t) h pos known w = quiet_holds g h (Lives t) pos known w tt (λ u. refl)

runs_hold : (g : Late) (ms : List Moment) → Holds g → AllTrustedLate g ms → Holds (late_from g ms)
runs_hold g [] h trusted = h
runs_hold g (Happens q ∷ ms) h ((pos, known, w), trusted) = runs_hold (late_next g (Happens q)) ms (next_holds g q h pos known w) trusted
runs_hold g (Drains t ∷ ms) h trusted = runs_hold (late_next g (Drains t)) ms (drains_hold g t h (g.buffers t) refl) trusted

pub late_holds : (l : Layout') (ms : List Moment) → IsLayout l → AllTrustedLate (begin_late l) ms → Holds (late_from (begin_late l) ms)
late_holds l ms is trusted = runs_hold (begin_late l) ms (record {
  steady = begins_steady l is;
  waiting = λ t. [];
  own = λ t p there. absurd there;
  dead = λ t first last gone. refl;
  within = λ t p there. there;
  finds = λ t p none. refl;
}) trusted

pub late_same : LateMemoryTellsTheSame
late_same l ms is trusted = finds_same (late_from (begin_late l) ms) (late_holds l ms is trusted)
