-- Plain stores that wait are at places that stay their threads' own.
use Rattle.std.proofs.Common.{◌≡◌, ◌≢◌, ◌⊎◌, inl, inr, ℕ, ◌+◌, ◌<◌, ◌≤◌, ◌==◌, Bool, true, false, Some, List, [], ◌∷◌, length, refl, sym, ap, ◌∙◌, subst, arith, eqb-true, eq-eqb}
use Rattle.std.specs.Prelude.{if◌then◌else◌, not, ◌&&◌, slice_index}
use Rattle.std.proofs.lemmas.Bool.Decides.{nat_tests}
use Rattle.lockword.specs.Cells.{fields_of}
use Rattle.stepprograms.specs.declared.access.Access.{Access}
use Rattle.memorymap.specs.Layouts.{Layout', cell_place, counter_place, entry_place, head_place}
use Rattle.protocol.specs.Changes.{IsItsOwn}
use Rattle.protocol.specs.Headline.{seen}
use Rattle.posixmutex.specs.declared.object.Object.{Object}
use Rattle.mutex.specs.Whole.{may_expire}
use Rattle.condvar.specs.Calls.{condition_of}
use Rattle.condvar.specs.declared.op.Op.TheVariants.{OnMutex, OnCondition}
use Rattle.protocol.specs.declared.thread.Stage.{Stage}
use Rattle.protocol.specs.declared.thread.Stage.TheVariants.{AtCondition, Calling, Dying, Idle, Reaped}
use Rattle.protocol.specs.declared.thread.Thread.{Thread}
use Rattle.protocol.specs.declared.event.Event.{Event}
use Rattle.protocol.specs.declared.event.Event.TheVariants.{Expire, Kill, Leave, Step}
use Rattle.protocol.specs.Machine.{State, After, departed, expired, happens, has_thread, is_alive, is_asleep, is_dying, is_exiting, is_gone, is_timed, lapsed, nothing, overslept, place_met, put, renewed, run, sleeps, stands_in, waits_on, words_after}
use Rattle.protocol.proofs.Kept.{Kept}
use Rattle.protocol.proofs.Puts.{put-other, put-same}
use Rattle.protocol.proofs.Renewals.{renewed_seen}
use Rattle.protocol.proofs.Queued.{in_none}
use Rattle.slots.specs.Rows.{Choice, Row}
use Rattle.slots.specs.Shown.{Slots, after, begin, memory, shown}
use Rattle.slots.specs.Table.{made}
use Rattle.slots.specs.Runs.{Happening, at_row, events_of, lapse_events, lapse_row, made_by, next, reached_from}
use Rattle.slots.specs.Runs.Happening.{Calls, Goes, Interrupts, Lapses, Dies, Walks, Lives}
use Rattle.slots.specs.Accesses.{IsAtRow}
use Rattle.slots.specs.Goes.{Grants, who}
use Rattle.slots.specs.Premises.{AllTrusted, TrustsIn}
use Rattle.slots.specs.Stores.{IsMadeSo, IsOwnHere, IsPlain, Manner, PlainStoresWaitApart, StoresCount, StoresWaitApart, WaitsAt, manner, stored_by, waiting_after, waiting_from, waiting_row}
use Rattle.slots.specs.Stores.Manner.{Loads, Stores, Locks, Asks, Along}
use Rattle.slots.proofs.Alive.{standing_lives}
use Rattle.slots.proofs.AllRows.{layout_run}
use Rattle.slots.proofs.LeadsOn.{rows_lead}
use Rattle.slots.proofs.Leading.{by_test}
use Rattle.slots.proofs.Others.{others_still}
use Rattle.slots.proofs.Each.{each_access}
use Rattle.slots.proofs.Following.{begins_steady, events_of_it, steady_next}
use Rattle.slots.proofs.Free.{reached_kept, reached_queued}
use Rattle.slots.proofs.MachineRuns.{next_is}
use Rattle.slots.proofs.OthersKeep.{LeavesIt, owned_seen, run_leaves, seen_owned}
use Rattle.slots.proofs.OwnStores.{own_row}
use Rattle.slots.proofs.OwnKeep as words
use Rattle.slots.proofs.PlainStores.{made_so}
use Rattle.slots.proofs.ShownWords.{IsReading}
use Rattle.slots.proofs.Steady.{Steady, granted, may_go, small}

-- ---- places

pub own_no_cell : (s : State) (t p k : ℕ) → 1 ≤ t → t ≤ s.layout.threads → k < s.layout.mutexes → IsOwnHere s t p → p ≢ cell_place s.layout k
own_no_cell s t p k pos known inside (inl (inl (i, small, is))) e = let f : head_place t + i ≡ cell_place s.layout k = sym is ∙ e in omega (arith, f, small, known, pos)
own_no_cell s t p k pos known inside (inl (inr (m, below, own, inl is))) e = let f : entry_place s.layout m ≡ cell_place s.layout k = sym is ∙ e in omega (arith, f)
own_no_cell s t p k pos known inside (inl (inr (m, below, own, inr is))) e = let f : entry_place s.layout m + 1 ≡ cell_place s.layout k = sym is ∙ e in omega (arith, f)
own_no_cell s t p k pos known inside (inr (m, below, is, own)) e = let f : counter_place s.layout m ≡ cell_place s.layout k = sym is ∙ e in omega (arith, f, inside)

-- a mutex that is owned is one of the layout
pub owned_inside : (s : State) (k u : ℕ) → (seen s k).owner ≡ Some u → k < s.layout.mutexes
owned_inside s k u own = grind (arith, nat_tests)

one_owner : (s : State) (k m t u : ℕ) → k ≡ m → t ≢ u → (seen s k).owner ≡ Some t → (seen s m).owner ≡ Some u → ⊥
one_owner s k m t u e apart own its = apart (let f : Some t ≡ Some u = sym own ∙ ap (λ (i : ℕ). (seen s i).owner) e ∙ its in cc f)

pub own_apart : (s : State) (t u p : ℕ) → 1 ≤ t → t ≤ s.layout.threads → 1 ≤ u → u ≤ s.layout.threads → t ≢ u → IsOwnHere s t p → IsOwnHere s u p → ⊥
own_apart s t u p pos known first most apart a b = grind (arith)

-- another state in which the thread owns what it did
keep_own : (s s' : State) (u p : ℕ) → s'.layout ≡ s.layout → ((k : ℕ) → (seen s k).owner ≡ Some u → (seen s' k).owner ≡ Some u) → IsOwnHere s u p → IsOwnHere s' u p
keep_own s s' u p same keeps own = go own
  where
    go : IsOwnHere s u p → IsOwnHere s' u p
    go (inl (inl head)) = inl (inl head)
    go (inl (inr (m, below, its, place))) = inl (inr (m, subst (λ (j : Layout'). m < j.mutexes) (sym same) below, keeps m its, subst (λ (j : Layout'). (p ≡ entry_place j m) ⊎ (p ≡ entry_place j m + 1)) (sym same) place))
    go (inr (k, below, is, its)) = inr (k, subst (λ (j : Layout'). k < length j.conditions) (sym same) below, subst (λ (j : Layout'). p ≡ counter_place j k) (sym same) is, subst (λ (j : Layout'). (seen s' (slice_index j.conditions k)).owner ≡ Some u) (sym same) (keeps (slice_index s.layout.conditions k) its))

-- ---- one happening

abbrev pub Own : State → (ℕ → List ℕ) → Type 0
Own s waiting = (t p : ℕ) → WaitsAt p (waiting t) → (1 ≤ t) × (t ≤ s.layout.threads) × IsOwnHere s t p

abbrev pub Dead : State → (ℕ → List ℕ) → Type 0
Dead s waiting = (t : ℕ) → 1 ≤ t → t ≤ s.layout.threads → is_alive (s.threads t).stage ≡ false → waiting t ≡ []

module _ (x : Slots) (t : ℕ) (c : Choice) (s : Steady x) (pos : 1 ≤ t) (known : t ≤ x.machine.layout.threads) (w : TrustsIn x (Goes t c)) (lives : is_alive (x.machine.threads t).stage ≡ true) (awake : is_asleep x.machine t ≡ false) where
  abbrev y : Slots
  y = made_by x t c (made x t c (x.rows t))

  abbrev l : Layout'
  l = x.machine.layout

  abbrev r : Row
  r = x.rows t

  abbrev a : Access
  a = (made x t c (x.rows t)).access

  inv : Kept x.machine
  inv = reached_kept x.machine s.reached

  same : y.machine.layout ≡ l
  same = layout_run x.machine (made x t c r).events inv

  grant : Grants x (Goes t c)
  grant = granted x t pos known s c w

  at : IsAtRow x t
  at = record { reached = s.reached; first = pos; last = known; there = s.there t pos known lives; about = grant.0; out = in_none x.machine t (reached_queued x.machine s.reached) awake }

  pub access_words : (p : ℕ) → shown y p ≡ words_after (memory x) t a p
  access_words = (each_access x t c at grant.1).words

  abbrev AllKeep : Type 0
  AllKeep = (k : ℕ) → k < l.mutexes → shown y (cell_place l k) ≡ shown x (cell_place l k)

  -- mutexes stay whose they are
  keeps_owner : AllKeep → (k : ℕ) → (seen x.machine k).owner ≡ Some t → (seen y.machine k).owner ≡ Some t
  keeps_owner all k own =
      let inside = owned_inside x.machine k t own in
      owned_seen y.machine k t (subst (λ (j : Layout'). k < j.mutexes) (sym same) inside) pos
      (sym (words.says_y x y t c inv pos known (small x.machine t inv known) same k inside).owner ∙ ap (λ (v : ℕ). (fields_of v).owner) (all k inside) ∙ (words.says_x x y t c inv pos known (small x.machine t inv known) same k inside).owner ∙ seen_owned x.machine k t inside own)

  own_then : AllKeep → (p : ℕ) → IsOwnHere x.machine t p → IsOwnHere y.machine t p
  own_then all p own = keep_own x.machine y.machine t p same (keeps_owner all) own

  reading : IsReading a → AllKeep
  reading reads = words.by_reading x y t c inv pos known (small x.machine t inv known) same a reads access_words

  -- of a plain store
  pub own_place : IsPlain (manner r) a → IsOwnHere x.machine t (place_met l t a)
  own_place plain = go (own_row x t c s pos known r (s.fits t pos known) (s.owning t pos known) (s.sees t pos known) (s.there t pos known lives) plain)
    where
      go : IsItsOwn x.machine t (place_met l t a) ⊎ (k : ℕ) × StoresCount x t (place_met l t a) (stored_by a) k → IsOwnHere x.machine t (place_met l t a)
      go (inl own) = inl own
      go (inr (k, o)) = inr (k, o.inside, o.place, o.owner)

  storing : IsPlain (manner r) a → AllKeep
  storing plain k inside = words.by_place x y t c inv pos known (small x.machine t inv known) same a (place_met l t a) refl (λ j below e. own_no_cell x.machine t (place_met l t a) j pos known below (own_place plain) (sym e)) access_words k inside

  -- it lives then
  pub lives_then : is_alive (y.machine.threads t).stage ≡ true
  lives_then = standing_lives ((run x.machine (made x t c r).events).threads t).stage (made x t c r).next (rows_lead x t c at grant.1 grant.2)

  -- its places that wait then
  pub go_own : (ps : List ℕ) → ((p : ℕ) → WaitsAt p ps → IsOwnHere x.machine t p) → (p : ℕ) → WaitsAt p (waiting_row (manner r) a ps (place_met l t a)) → IsOwnHere y.machine t p
  go_own ps own = of_manner (manner r) a refl refl (made_so x t c r at.there)
    where
      more : IsPlain (manner r) a → (p : ℕ) → (place_met l t a ≡ p) ⊎ WaitsAt p ps → IsOwnHere y.machine t p
      more plain p (inl e) = subst (IsOwnHere y.machine t) e (own_then (storing plain) (place_met l t a) (own_place plain))
      more plain p (inr there) = own_then (storing plain) p (own p there)

      of_manner : (m : Manner) (b : Access) → manner r ≡ m → a ≡ b → IsMadeSo m b → (p : ℕ) → WaitsAt p (waiting_row m b ps (place_met l t a)) → IsOwnHere y.machine t p
      of_manner Loads (Access.Load i) e f so p there = own_then (reading (subst IsReading (sym f) tt)) p (own p there)
      of_manner Stores (Access.Store i v) e f so p there = more (subst (λ (m : Manner). IsPlain m a) (sym e) (subst (IsPlain Stores) (sym f) tt)) p there
      of_manner Locks b e f so p there = absurd there
      of_manner Asks (Access.Wait i v) e f so p there = own_then (reading (subst IsReading (sym f) tt)) p (own p there)
      of_manner Asks (Access.Wake i n) e f so p there = own_then (reading (subst IsReading (sym f) tt)) p (own p there)
      of_manner Asks (Access.CmpRequeue i v n j k) e f so p there = own_then (reading (subst IsReading (sym f) tt)) p (own p there)
      of_manner Along (Access.Load i) e f so p there = own_then (reading (subst IsReading (sym f) tt)) p (own p there)
      of_manner Along (Access.Store i v) e f so p there = more (subst (λ (m : Manner). IsPlain m a) (sym e) (subst (IsPlain Along) (sym f) tt)) p there
      of_manner m b e f so p there = absurd so

-- ---- any happening

second_of : (a b : Bool) → (a && b) ≡ true → b ≡ true
second_of true b e = e
second_of false b e = absurd cc

module _ (x : Slots) (h : Happening) (s : Steady x) (pos : 1 ≤ who h) (known : who h ≤ x.machine.layout.threads) (w : TrustsIn x h) (waiting : ℕ → List ℕ) (own : Own x.machine waiting) (dead : Dead x.machine waiting) where
  same_layout : (next x h).machine.layout ≡ x.machine.layout
  same_layout = ap (λ (z : State). z.layout) (next_is x h) ∙ layout_run x.machine (events_of x h) (reached_kept x.machine s.reached)

  -- of another thread
  others_own : (u p : ℕ) → who h ≢ u → 1 ≤ u → IsOwnHere x.machine u p → IsOwnHere (next x h).machine u p
  others_own u p apart first its = keep_own x.machine (next x h).machine u p same_layout (λ k owns. ap (λ (o : Object). o.owner) (leaves.same k owns) ∙ owns) its
    where
      leaves : LeavesIt x.machine (next x h).machine u
      leaves = subst (λ (z : State). LeavesIt x.machine z u) (sym (next_is x h)) (run_leaves x.machine (events_of x h) (who h) u s.reached (events_of_it x h) apart)

and_not : (a b : Bool) → b ≡ false → (a && b) ≡ false
and_not true b e = e
and_not false b e = refl

-- a timeout changes no mutex, and no thread dies of it
module _ (x : Slots) (t : ℕ) where
  abbrev Alike : After → Type 0
  Alike a = ((k : ℕ) → seen a.state k ≡ seen x.machine k) × (is_alive (a.state.threads t).stage ≡ is_alive (x.machine.threads t).stage)

  expired_alike : (f : Stage) → is_alive f ≡ is_alive (x.machine.threads t).stage → Alike (expired x.machine t (x.machine.threads t).held f)
  expired_alike (Calling (OnMutex o) q) alive = by_test Alike (is_timed (OnMutex o) && may_expire q.phase && sleeps x.machine t (Calling (OnMutex o) q)) (lapsed x.machine t (x.machine.threads t).held (OnMutex o) q) (nothing x.machine) (λ e. ((λ k. refl), ap (λ (v : Thread). is_alive v.stage) (put-same x.machine.threads t _) ∙ alive)) (λ e. ((λ k. refl), refl))
  expired_alike (Calling (OnCondition o) q) alive = by_test Alike (is_timed (OnCondition o) && waits_on x.machine t (condition_of o)) (overslept x.machine t (x.machine.threads t).held (condition_of o) q) (nothing x.machine) (λ e. ((λ k. refl), ap (λ (v : Thread). is_alive v.stage) (put-same x.machine.threads t _) ∙ alive)) (λ e. ((λ k. refl), refl))
  expired_alike Idle alive = ((λ k. refl), refl)
  expired_alike (AtCondition o q) alive = ((λ k. refl), refl)
  expired_alike (Dying v) alive = ((λ k. refl), refl)
  expired_alike Reaped alive = ((λ k. refl), refl)

  expire_alike : Alike (happens x.machine (Expire t))
  expire_alike = by_test Alike (has_thread x.machine t) (expired x.machine t (x.machine.threads t).held (x.machine.threads t).stage) (nothing x.machine) (λ e. expired_alike (x.machine.threads t).stage refl) (λ e. ((λ k. refl), refl))

  leave_alike : Alike (happens x.machine (Leave t))
  leave_alike = by_test Alike (has_thread x.machine t && is_asleep x.machine t) (departed x.machine t) (nothing x.machine) (λ e. ((λ k. refl), refl)) (λ e. ((λ k. refl), refl))

  abbrev AlikeThen : State → Type 0
  AlikeThen z = ((k : ℕ) → seen z k ≡ seen x.machine k) × (is_alive (z.threads t).stage ≡ is_alive (x.machine.threads t).stage)

  lapse_alike : (r : Row) → AlikeThen (run x.machine (lapse_events x t r))
  lapse_alike (Row.Asleep k) = by_test (λ (es : List Event). AlikeThen (run x.machine es)) k.timed (Expire t ∷ []) [] (λ e. expire_alike) (λ e. ((λ k. refl), refl))
  lapse_alike (Row.WaitAsleep j k n true) = by_test (λ (es : List Event). AlikeThen (run x.machine es)) (stands_in t (x.machine.queues (counter_place x.machine.layout k))) (Expire t ∷ []) (Leave t ∷ []) (λ e. expire_alike) (λ e. leave_alike)
  lapse_alike (Row.WaitAsleep j k n false) = ((λ k. refl), refl)
  lapse_alike r = ((λ k. refl), refl)

  lapses_alike : AlikeThen (next x (Lapses t)).machine
  lapses_alike = by_test (λ (y : Slots). AlikeThen y.machine) (is_asleep x.machine t) (at_row (after x (lapse_events x t (x.rows t))) t (lapse_row (x.rows t))) x (λ e. lapse_alike (x.rows t)) (λ e. ((λ k. refl), refl))

-- of the thread itself, whose places that wait are these afterwards
own_places : (x : Slots) (h : Happening) → Steady x → 1 ≤ who h → who h ≤ x.machine.layout.threads → TrustsIn x h → (waiting : ℕ → List ℕ) → Own x.machine waiting → Dead x.machine waiting → (p : ℕ) → WaitsAt p (waiting_after x h waiting (who h)) → IsOwnHere (next x h).machine (who h) p
own_places x (Calls t q) s pos known w waiting own dead p = λ there. subst (λ (z : State). IsOwnHere z t p) (sym (next_is x (Calls t q))) (own t p there).2
own_places x (Goes t c) s pos known w waiting own dead p = go (has_thread x.machine t && is_alive (x.machine.threads t).stage && not (is_asleep x.machine t)) refl
  where
    go : (b : Bool) → (has_thread x.machine t && is_alive (x.machine.threads t).stage && not (is_asleep x.machine t)) ≡ b
        → WaitsAt p ((if b then put waiting t (waiting_row (manner (x.rows t)) (made x t c (x.rows t)).access (waiting t) (place_met x.machine.layout t (made x t c (x.rows t)).access)) else waiting) t)
        → IsOwnHere (if b then made_by x t c (made x t c (x.rows t)) else x).machine t p
    go true e there = let may = may_go (has_thread x.machine t) (is_alive (x.machine.threads t).stage) (is_asleep x.machine t) e in
        go_own x t c s pos known w may.0 may.1 (waiting t) (λ q there. (own t q there).2) p
        (subst (WaitsAt p) (put-same waiting t (waiting_row (manner (x.rows t)) (made x t c (x.rows t)).access (waiting t) (place_met x.machine.layout t (made x t c (x.rows t)).access))) there)
    go false e there = (own t p there).2
own_places x (Interrupts t) s pos known w waiting own dead p = λ there. keep_own x.machine (next x (Interrupts t)).machine t p (same_layout x (Interrupts t) s pos known w waiting own dead)
    (λ k owns. by_test (λ (a : After). (seen a.state k).owner ≡ Some t) (has_thread x.machine t && is_asleep x.machine t) (departed x.machine t) (nothing x.machine) (λ e. owns) (λ e. owns)) (own t p there).2
own_places x (Lapses t) s pos known w waiting own dead p = λ there. keep_own x.machine (next x (Lapses t)).machine t p (same_layout x (Lapses t) s pos known w waiting own dead)
    (λ k owns. ap (λ (o : Object). o.owner) ((lapses_alike x t).0 k) ∙ owns) (own t p there).2
own_places x (Dies t) s pos known w waiting own dead p = go (has_thread x.machine t && is_alive (x.machine.threads t).stage) refl
  where
    go : (b : Bool) → (has_thread x.machine t && is_alive (x.machine.threads t).stage) ≡ b → WaitsAt p ((if b then put waiting t [] else waiting) t) → IsOwnHere (if b then at_row (after x (Kill t ∷ [])) t Row.Rests else x).machine t p
    go true e there = absurd (subst (WaitsAt p) (put-same waiting t []) there)
    go false e there = (own t p there).2
own_places x (Walks t) s pos known w waiting own dead p = go (is_dying x.machine t) refl
  where
    exiting_dead : (f : Stage) → is_exiting f ≡ true → is_alive f ≡ false
    exiting_dead (Dying v) e = refl
    exiting_dead f e = absurd cc

    go : (b : Bool) → is_dying x.machine t ≡ b → WaitsAt p (waiting t) → IsOwnHere (if b then after x (Step t ∷ []) else x).machine t p
    go true e there = absurd (subst (WaitsAt p) (dead t pos known (exiting_dead (x.machine.threads t).stage (second_of (has_thread x.machine t) (is_exiting (x.machine.threads t).stage) e))) there)
    go false e there = (own t p there).2
own_places x (Lives t) s pos known w waiting own dead p = λ there. keep_own x.machine (next x (Lives t)).machine t p (same_layout x (Lives t) s pos known w waiting own dead)
    (λ k owns. by_test (λ (a : After). (seen a.state k).owner ≡ Some t) (has_thread x.machine t && is_gone (x.machine.threads t).stage) (renewed x.machine t) (nothing x.machine) (λ e. ap (λ (o : Object). o.owner) (renewed_seen x.machine t pos known k) ∙ owns) (λ e. owns)) (own t p there).2

-- another thread's stay
others_wait : (x : Slots) (h : Happening) (waiting : ℕ → List ℕ) (u : ℕ) → who h ≢ u → waiting_after x h waiting u ≡ waiting u
others_wait x (Calls t r) waiting u apart = refl
others_wait x (Goes t c) waiting u apart = by_test (λ (f : ℕ → List ℕ). f u ≡ waiting u) (has_thread x.machine t && is_alive (x.machine.threads t).stage && not (is_asleep x.machine t)) (put waiting t (waiting_row (manner (x.rows t)) (made x t c (x.rows t)).access (waiting t) (place_met x.machine.layout t (made x t c (x.rows t)).access))) waiting (λ e. put-other waiting t _ u (λ same. apart (sym same))) (λ e. refl)
others_wait x (Interrupts t) waiting u apart = refl
others_wait x (Lapses t) waiting u apart = refl
others_wait x (Dies t) waiting u apart = by_test (λ (f : ℕ → List ℕ). f u ≡ waiting u) (has_thread x.machine t && is_alive (x.machine.threads t).stage) (put waiting t []) waiting (λ e. put-other waiting t [] u (λ same. apart (sym same))) (λ e. refl)
others_wait x (Walks t) waiting u apart = refl
others_wait x (Lives t) waiting u apart = refl

pub next_own : (x : Slots) (h : Happening) → Steady x → 1 ≤ who h → who h ≤ x.machine.layout.threads → TrustsIn x h → (waiting : ℕ → List ℕ) → Own x.machine waiting → Dead x.machine waiting → Own (next x h).machine (waiting_after x h waiting)
next_own x h s pos known w waiting own dead u p there = go (who h == u) refl
  where
    layout : (next x h).machine.layout ≡ x.machine.layout
    layout = same_layout x h s pos known w waiting own dead

    go : (b : Bool) → (who h == u) ≡ b → (1 ≤ u) × (u ≤ (next x h).machine.layout.threads) × IsOwnHere (next x h).machine u p
    go true e = subst (λ (v : ℕ). (1 ≤ v) × (v ≤ (next x h).machine.layout.threads) × IsOwnHere (next x h).machine v p) (eqb-true (who h) u e)
        (pos, subst (λ (l : Layout'). who h ≤ l.threads) (sym layout) known, own_places x h s pos known w waiting own dead p (subst (λ (v : ℕ). WaitsAt p (waiting_after x h waiting v)) (sym (eqb-true (who h) u e)) there))
    go false e =
        let apart : who h ≢ u = (λ same. cc (sym e ∙ eq-eqb (who h) u same)) in
        let before = own u p (subst (WaitsAt p) (others_wait x h waiting u apart) there) in
        (before.0, subst (λ (l : Layout'). u ≤ l.threads) (sym layout) before.1, others_own x h s pos known w waiting own dead u p apart before.0 before.2)

-- a dead thread's are none
dead_then : (x : Slots) (h : Happening) → Steady x → 1 ≤ who h → who h ≤ x.machine.layout.threads → TrustsIn x h → (waiting : ℕ → List ℕ) → Dead x.machine waiting → is_alive ((next x h).machine.threads (who h)).stage ≡ false → waiting_after x h waiting (who h) ≡ []
dead_then x (Calls t q) s pos known w waiting dead = λ gone. dead t pos known (sym (ap (λ (z : State). is_alive (z.threads t).stage) (next_is x (Calls t q))) ∙ gone)
dead_then x (Goes t c) s pos known w waiting dead = go (has_thread x.machine t && is_alive (x.machine.threads t).stage && not (is_asleep x.machine t)) refl
  where
    go : (b : Bool) → (has_thread x.machine t && is_alive (x.machine.threads t).stage && not (is_asleep x.machine t)) ≡ b
        → is_alive ((if b then made_by x t c (made x t c (x.rows t)) else x).machine.threads t).stage ≡ false
        → (if b then put waiting t (waiting_row (manner (x.rows t)) (made x t c (x.rows t)).access (waiting t) (place_met x.machine.layout t (made x t c (x.rows t)).access)) else waiting) t ≡ []
    go true e gone = let may = may_go (has_thread x.machine t) (is_alive (x.machine.threads t).stage) (is_asleep x.machine t) e in absurd (cc (sym gone ∙ lives_then x t c s pos known w may.0 may.1))
    go false e gone = dead t pos known gone
dead_then x (Interrupts t) s pos known w waiting dead = λ gone. dead t pos known (sym (by_test (λ (a : After). is_alive (a.state.threads t).stage ≡ is_alive (x.machine.threads t).stage) (has_thread x.machine t && is_asleep x.machine t) (departed x.machine t) (nothing x.machine) (λ e. refl) (λ e. refl)) ∙ gone)
dead_then x (Lapses t) s pos known w waiting dead = λ gone. dead t pos known (sym (lapses_alike x t).1 ∙ gone)
dead_then x (Dies t) s pos known w waiting dead = go (has_thread x.machine t && is_alive (x.machine.threads t).stage) refl
  where
    go : (b : Bool) → (has_thread x.machine t && is_alive (x.machine.threads t).stage) ≡ b → is_alive ((if b then at_row (after x (Kill t ∷ [])) t Row.Rests else x).machine.threads t).stage ≡ false → (if b then put waiting t [] else waiting) t ≡ []
    go true e gone = put-same waiting t []
    go false e gone = dead t pos known gone
dead_then x (Walks t) s pos known w waiting dead = go (is_dying x.machine t) refl
  where
    exiting_dead : (f : Stage) → is_exiting f ≡ true → is_alive f ≡ false
    exiting_dead (Dying v) e = refl
    exiting_dead f e = absurd cc

    go : (b : Bool) → is_dying x.machine t ≡ b → is_alive ((if b then after x (Step t ∷ []) else x).machine.threads t).stage ≡ false → waiting t ≡ []
    go true e gone = dead t pos known (exiting_dead (x.machine.threads t).stage (second_of (has_thread x.machine t) (is_exiting (x.machine.threads t).stage) e))
    go false e gone = dead t pos known gone
dead_then x (Lives t) s pos known w waiting dead = λ gone. dead t pos known (go gone (is_gone (x.machine.threads t).stage) refl)
  where
    gone_dead : (f : Stage) → is_gone f ≡ true → is_alive f ≡ false
    gone_dead Reaped e = refl
    gone_dead f e = absurd cc

    go : is_alive ((next x (Lives t)).machine.threads t).stage ≡ false → (b : Bool) → is_gone (x.machine.threads t).stage ≡ b → is_alive (x.machine.threads t).stage ≡ false
    go gone true e = gone_dead (x.machine.threads t).stage e
    go gone false e = sym (by_test (λ (a : After). (has_thread x.machine t && is_gone (x.machine.threads t).stage) ≡ false → is_alive (a.state.threads t).stage ≡ is_alive (x.machine.threads t).stage) (has_thread x.machine t && is_gone (x.machine.threads t).stage) (renewed x.machine t) (nothing x.machine) (λ f g. absurd (cc (sym f ∙ g))) (λ f g. refl) (and_not (has_thread x.machine t) (is_gone (x.machine.threads t).stage) e)) ∙ gone

pub next_dead : (x : Slots) (h : Happening) → Steady x → 1 ≤ who h → who h ≤ x.machine.layout.threads → TrustsIn x h → (waiting : ℕ → List ℕ) → Own x.machine waiting → Dead x.machine waiting → Dead (next x h).machine (waiting_after x h waiting)
next_dead x h s pos known w waiting own dead u first last gone = go (who h == u) refl
  where
    go : (b : Bool) → (who h == u) ≡ b → waiting_after x h waiting u ≡ []
    go true e = subst (λ (v : ℕ). waiting_after x h waiting v ≡ []) (eqb-true (who h) u e) (dead_then x h s pos known w waiting dead (subst (λ (v : ℕ). is_alive ((next x h).machine.threads v).stage ≡ false) (sym (eqb-true (who h) u e)) gone))
    go false e =
        let apart : who h ≢ u = (λ same. cc (sym e ∙ eq-eqb (who h) u same)) in
        others_wait x h waiting u apart ∙ dead u first (subst (λ (l : Layout'). u ≤ l.threads) (same_layout x h s pos known w waiting own dead) last) (sym (ap (λ (v : Thread). is_alive v.stage) (others_still x h u s.reached apart).thread) ∙ gone)

waits : (x : Slots) (hs : List Happening) (waiting : ℕ → List ℕ) → Steady x → AllTrusted x hs → Own x.machine waiting → Dead x.machine waiting → StoresWaitApart (reached_from x hs).machine (waiting_from x hs waiting)
waits x [] waiting s trusted own dead = record {
  own = own;
  cells = λ t p k there inside. let o = own t p there in own_no_cell x.machine t p k o.0 o.1 inside o.2;
  apart = λ t u p first last apart there its. let o = own t p there in own_apart x.machine t u p o.0 o.1 first last apart o.2 its;
  dead = dead;
}
waits x (h ∷ hs) waiting s ((pos, known, w), trusted) own dead = waits (next x h) hs (waiting_after x h waiting) (steady_next x h s pos known w) trusted (next_own x h s pos known w waiting own dead) (next_dead x h s pos known w waiting own dead)

pub wait_apart : PlainStoresWaitApart
wait_apart l hs is trusted = waits (begin l) hs (λ t. []) (begins_steady l is) trusted (λ t p there. absurd there) (λ t first last gone. refl)
