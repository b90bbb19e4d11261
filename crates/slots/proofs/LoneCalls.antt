-- A call that runs alone comes to rest.
use Rattle.std.proofs.Common.{◌≡◌, ℕ, ◌+◌, ◌*◌, ◌<◌, ◌≤◌, ◌==◌, Bool, true, false, List, [], ◌∷◌, ◌++◌, length, refl, sym, ap, ◌∙◌, subst, arith}
use Rattle.std.specs.Prelude.{if◌then◌else◌, ◌%◌, ◌^◌, nat_lt, not, ◌&&◌, ◌||◌, suc}
use Rattle.std.proofs.lemmas.Bool.Decides.{nat_tests}
use Rattle.lockword.specs.Cells.{fields_of}
use Rattle.memorymap.specs.Layouts.{Layout', address_in, cell_place, counter_place}
use Rattle.protocol.specs.Machine.{has_thread, is_alive, is_asleep, queues_after, sleeps, stands_at, stands_in}
use Rattle.protocol.proofs.Puts.{put-same}
use Rattle.protocol.proofs.Events.{is_known}
use Rattle.protocol.proofs.Queued.{in_none}
use Rattle.slots.specs.Places.{cell_of, slot_of}
use Rattle.slots.specs.Rows.{Choice, Row, about}
use Rattle.slots.specs.Rows.Then.{ToSleep, ToSlot}
use Rattle.slots.specs.Shown.{Slots, begin, memory, shown}
use Rattle.slots.specs.Words.{is_free}
use Rattle.slots.specs.Replies.{GoesOn, Progress}
use Rattle.slots.specs.Table.{Made, made, on_cell}
use Rattle.slots.specs.Runs.{is_resting, made_by, next, reached}
use Rattle.slots.specs.Runs.Happening.{Goes}
use Rattle.slots.specs.Goes.{Grants}
use Rattle.slots.specs.Accesses.{IsAtRow}
use Rattle.slots.specs.Premises.{AllTrusted, Trusts}
use Rattle.slots.specs.Alone.{LoneCallsComeToRest, comes_to_rest, goes_alone, goes_on, has_come_to_rest, looks_again}
use Rattle.stepprograms.specs.declared.access.Access.{Access}
use Rattle.mutex.specs.Standings.{Whole}
use Rattle.condvar.specs.Calls.{condition_of}
use Rattle.condvar.specs.declared.op.Op.{Op}
use Rattle.condvar.specs.declared.op.Op.TheVariants.{OnMutex, OnCondition}
use Rattle.protocol.specs.declared.thread.Stage.{Stage}
use Rattle.protocol.specs.declared.thread.Stage.TheVariants.{Calling}
use Rattle.protocol.proofs.Kept.{Kept}
use Rattle.protocol.proofs.Seeing.{cell_again}
use Rattle.slots.specs.Rows.{How, Taking}
use Rattle.slots.specs.Rows.How.{Tried, Later, Waited}
use Rattle.slots.specs.Seen.{later}
use Rattle.slots.specs.Stands.{IsToLook, StandsAs}
use Rattle.slots.specs.Fits.{Fits, IsOurs}
use Rattle.slots.specs.Accesses.{IsAbout}
use Rattle.slots.specs.Premises.{TrustsIn}
use Rattle.slots.proofs.Abouts.{about_it}
use Rattle.slots.proofs.Chains.{stands_last}
use Rattle.slots.proofs.Owned.{our_cell}
use Rattle.slots.proofs.Shows.{cell_valid}
use Rattle.slots.proofs.Sleeping.{waits_queues}
use Rattle.slots.proofs.AllRows.{layout_run}
use Rattle.slots.proofs.Deciding.{one_row}
use Rattle.slots.proofs.Each.{each_access}
use Rattle.slots.proofs.Following.{begins_steady, layout_then, steady_next, steady_run}
use Rattle.slots.proofs.Free.{reached_kept, reached_queued}
use Rattle.slots.proofs.Leading.{by_test}
use Rattle.slots.proofs.RankRows.{StaysAwake, nearer_row}
use Rattle.slots.proofs.Ranks.{few_left, list_rank, rank}
use Rattle.slots.proofs.Steady.{Steady, granted}

-- ---- ranks

pick : (b : Bool) (m n a : ℕ) → nat_lt m a ≡ true → nat_lt n a ≡ true → nat_lt (if b then m else n) a ≡ true
pick true m n a first second = first
pick false m n a first second = second

below_63 : (s n : ℕ) → nat_lt s 6 ≡ true → nat_lt n 57 ≡ true → nat_lt (s + n) 63 ≡ true
below_63 s n few less = grind (arith, nat_tests)

rank_few : (w v s : ℕ) (r : Row) → nat_lt s 6 ≡ true → nat_lt (rank w v s r) 63 ≡ true
rank_few w v s (Row.Takes k u) few = pick (w == u) 8 45 63 refl refl
rank_few w v s (Row.Links m y) few = below_63 s 2 few refl
rank_few w v s (Row.Chooses k u) few = pick (w == u) 44 48 63 refl refl
rank_few w v s (Row.Marks k u ToSleep) few = pick (w == u) 2 45 63 refl refl
rank_few w v s (Row.Marks k u (ToSlot i)) few = pick (w == u) 43 45 63 refl refl
rank_few w v s (Row.SleepsOn k u) few = pick (w % 2 ^ 32 == u % 2 ^ 32) 1 47 63 refl refl
rank_few w v s (Row.SlotTakes k i) few = pick (v == i) 40 41 63 refl refl
rank_few w v s (Row.SlotLinks k d) few = below_63 s 34 few refl
rank_few w v s (Row.HeirPends k b) few = pick (is_free w) 30 25 63 refl refl
rank_few w v s (Row.HeirSets k) few = pick (is_free w) 29 24 63 refl refl
rank_few w v s (Row.HeirLooks k) few = pick (is_free w) 28 23 63 refl refl
rank_few w v s (Row.HeirPendsOn k u over) few =
    pick (is_free w) (if over && is_free u then (if w == u then 27 else 28) else 33) (if over && (is_free u || not (fields_of u).unusable) then 28 else 22) 63
    (pick (over && is_free u) (if w == u then 27 else 28) 33 63 (pick (w == u) 27 28 63 refl refl) refl) (pick (over && (is_free u || not (fields_of u).unusable)) 28 22 63 refl refl)
rank_few w v s (Row.HeirTakes k u) few = pick (w == u) 26 27 63 refl refl
rank_few w v s (Row.HeirLinks k y) few = below_63 s 19 few refl
rank_few w v s (Row.GivesUp k) few = pick (is_free w) 32 21 63 refl refl
rank_few w v s (Row.LastLooks k) few = pick (is_free w) 31 20 63 refl refl
rank_few w v s (Row.LastMarks k u) few = pick (w == u) 19 (if is_free w then 31 else 26) 63 refl (pick (is_free w) 31 26 63 refl refl)
rank_few w v s (Row.FreeUnlinks k f) few = below_63 s 12 few refl
rank_few w v s (Row.TryTakes m u) few = pick (w == u) 8 9 63 refl refl
rank_few w v s (Row.GiveUnlinks m y) few = below_63 s 54 few refl
rank_few w v s (Row.Anews m u) few = pick (w == u) 1 2 63 refl refl
rank_few w v s r few = refl

-- of a thread's row
abbrev rank_at : Slots → ℕ → ℕ
rank_at x t = rank (shown x (cell_place x.machine.layout (cell_of (about (x.rows t))))) (shown x (cell_place x.machine.layout (slot_of (about (x.rows t))))) (list_rank (x.machine.threads t).stage) (x.rows t)

few_at : (x : Slots) (t : ℕ) → nat_lt (rank_at x t) 63 ≡ true
few_at x t = rank_few _ _ _ (x.rows t) (few_left (x.machine.threads t).stage)

-- the next row is of the same mutex
same_rank : (f h : ℕ → ℕ) (s : ℕ) (r q : Row) (p : Progress) → GoesOn r p q → rank (f (about q)) (h (about q)) s q ≡ rank (f (about r)) (h (about r)) s q
same_rank f h s r Row.Rests p goes = refl
same_rank f h s r q p goes = ap (λ (m : ℕ). rank (f m) (h m) s q) goes.1

all_true : (a b d : Bool) → a ≡ true → b ≡ true → d ≡ false → (a && b && not d) ≡ true
all_true true true false e f i = refl
all_true false b d e f i = absurd cc
all_true true false d e f i = absurd cc
all_true true true true e f i = absurd cc

module _ (x : Slots) (t : ℕ) (st : Steady x) (pos : 1 ≤ t) (known : t ≤ x.machine.layout.threads) (c : Choice) (w : Trusts x t (x.rows t)) (busy : is_resting (x.rows t) ≡ false) (awake : is_asleep x.machine t ≡ false) where
  abbrev y : Slots
  y = made_by x t c (made x t c (x.rows t))

  inv : Kept x.machine
  inv = reached_kept x.machine st.reached

  lives : is_alive (x.machine.threads t).stage ≡ true
  lives = go (is_alive (x.machine.threads t).stage) refl
    where
      go : (b : Bool) → is_alive (x.machine.threads t).stage ≡ b → b ≡ true
      go true e = refl
      go false e = absurd (cc (sym busy ∙ ap is_resting (st.rests t pos known e)))

  guard : (has_thread x.machine t && is_alive (x.machine.threads t).stage && not (is_asleep x.machine t)) ≡ true
  guard = all_true (has_thread x.machine t) (is_alive (x.machine.threads t).stage) (is_asleep x.machine t) (is_known x.machine t pos known) lives awake

  grant : Grants x (Goes t c)
  grant = granted x t pos known st c w

  at : IsAtRow x t
  at = record { reached = st.reached; first = pos; last = known; there = st.there t pos known lives; about = grant.0; out = in_none x.machine t (reached_queued x.machine st.reached) awake }

  layout : y.machine.layout ≡ x.machine.layout
  layout = layout_run x.machine (made x t c (x.rows t)).events (reached_kept x.machine st.reached)

  nearer : StaysAwake x y t c inv pos known awake (x.rows t) → goes_on x (x.rows t) c ≡ true → nat_lt (rank_at (next x (Goes t c)) t) (rank_at x t) ≡ true
  nearer up goes = subst (λ (b : Bool). nat_lt (rank_at (if b then y else x) t) (rank_at x t) ≡ true) (sym guard)
      (subst (λ (q : Row). nat_lt (rank (shown y (cell_place y.machine.layout (cell_of (about q)))) (shown y (cell_place y.machine.layout (slot_of (about q)))) (list_rank (y.machine.threads t).stage) q) (rank_at x t) ≡ true) (sym (put-same x.rows t (made x t c (x.rows t)).next))
      (subst (λ (l : Layout'). nat_lt (rank (shown y (cell_place l (cell_of (about (made x t c (x.rows t)).next)))) (shown y (cell_place l (slot_of (about (made x t c (x.rows t)).next)))) (list_rank (y.machine.threads t).stage) (made x t c (x.rows t)).next) (rank_at x t) ≡ true) (sym layout)
      (subst (λ (n : ℕ). nat_lt n (rank_at x t) ≡ true)
      (sym (same_rank (λ m. shown y (cell_place x.machine.layout (cell_of m))) (λ m. shown y (cell_place x.machine.layout (slot_of m))) (list_rank (y.machine.threads t).stage) (x.rows t) (made x t c (x.rows t)).next _ (one_row x t c (x.rows t) (x.machine.threads t).stage (st.fits t pos known)).goes))
      (nearer_row x y t c inv pos known awake (x.rows t) (st.fits t pos known) (st.there t pos known lives) busy up goes (each_access x t c at grant.1).words refl))))

  -- ---- a sleep

  abbrev cell : ℕ → ℕ
  cell m = shown x (cell_place x.machine.layout (cell_of m))

  -- its sleep comes
  abbrev falls_asleep : Row → Bool
  falls_asleep (Row.SleepsOn k v) = cell k.mutex % 2 ^ 32 == v % 2 ^ 32
  falls_asleep r = false

  stays : (r : Row) → falls_asleep r ≡ false → StaysAwake x y t c inv pos known awake r
  stays (Row.SleepsOn k v) e = e
  stays r e = tt

  waits : (k : Taking) (v : ℕ) (h : How) (w : ℕ) → (on_cell x t c k h v w).access ≡ Access.Wait (address_in x.machine.layout t (cell_place x.machine.layout (cell_of k.mutex))) (v % 2 ^ 32)
  waits k v Tried w = by_test (λ (n : Made). n.access ≡ Access.Wait (address_in x.machine.layout t (cell_place x.machine.layout (cell_of k.mutex))) (v % 2 ^ 32)) (w % 2 ^ 32 == v % 2 ^ 32) _ _ (λ e. refl) (λ e. refl)
  waits k v Later w = by_test (λ (n : Made). n.access ≡ Access.Wait (address_in x.machine.layout t (cell_place x.machine.layout (cell_of k.mutex))) (v % 2 ^ 32)) (w % 2 ^ 32 == v % 2 ^ 32) _ _ (λ e. refl) (λ e. refl)
  waits k v (Waited z) w = refl

  -- the thread stands in the cell's queue then
  stands : (k : Taking) (v : ℕ) → IsOurs x.machine.layout k.mutex → (cell k.mutex % 2 ^ 32 == v % 2 ^ 32) ≡ true
      → ((p : ℕ) → y.machine.queues p ≡ queues_after (memory x) t (made x t c (Row.SleepsOn k v)).access p) → stands_in t (y.machine.queues (cell_place x.machine.layout (cell_of k.mutex))) ≡ true
  stands k v ours e queues = ap (stands_in t) (queues pl ∙ ap (λ (a : Access). queues_after (memory x) t a pl) (waits k v k.how (cell k.mutex))
      ∙ waits_queues x t (address_in x.machine.layout t pl) (v % 2 ^ 32) pl (cell_again x.machine.layout t inv.layout pos known (cell_of k.mutex) (our_cell x.machine.layout k.mutex ours)) (cell_valid x.machine.layout (cell_of k.mutex) (our_cell x.machine.layout k.mutex ours)) pl
      ∙ put-same x.machine.queues pl _ ∙ ap (λ (b : Bool). if b then x.machine.queues pl ++ t ∷ [] else x.machine.queues pl) e) ∙ stands_last t (x.machine.queues pl)
    where
      pl : ℕ
      pl = cell_place x.machine.layout (cell_of k.mutex)

  -- wherever its call is that is about the cell
  asleep_there : (f : Stage) (m : ℕ) (b : Bool) → b ≡ true → stands_in t (y.machine.queues (cell_place y.machine.layout (cell_of m))) ≡ b → IsAbout y.machine.layout m f → (o : Op) (p : Whole) → f ≡ Calling o p → sleeps y.machine t f ≡ true
  asleep_there f m b on stand about (OnMutex o) p is = ap (sleeps y.machine t) is ∙ ap (λ (j : ℕ). stands_at t y.machine.queues (cell_place y.machine.layout j ∷ [])) (subst (IsAbout y.machine.layout m) is about) ∙ ap (λ (d : Bool). if d then true else false) (stand ∙ on)
  asleep_there f m b on stand about (OnCondition o) p is = ap (sleeps y.machine t) is ∙ ap (λ (j : ℕ). stands_at t y.machine.queues (cell_place y.machine.layout j ∷ counter_place y.machine.layout (condition_of o) ∷ [])) (subst (IsAbout y.machine.layout m) is about)
      ∙ ap (λ (d : Bool). if d then true else stands_at t y.machine.queues (counter_place y.machine.layout (condition_of o) ∷ [])) (stand ∙ on)

  asleep_at : (k : Taking) (h : How) (f : Stage) → IsToLook k h f → (o : Op) × (p : Whole) × (f ≡ Calling o p)
  asleep_at k Tried f (p, is, phase) = (_, p, is)
  asleep_at k Later f (p, is, phase) = (_, p, is)
  asleep_at k (Waited z) f (o, p, is, of, acts, phase) = (_, p, is)

  sleeps_next : (k : Taking) (v : ℕ) (h : How) (w : ℕ) → (j : Taking) × (j.mutex ≡ k.mutex) × ((on_cell x t c k h v w).next ≡ Row.Asleep j)
  sleeps_next k v (Waited z) w = (k, refl, refl)
  sleeps_next k v Tried w = by_test (λ (n : Made). (j : Taking) × (j.mutex ≡ k.mutex) × (n.next ≡ Row.Asleep j)) (w % 2 ^ 32 == v % 2 ^ 32) _ _ (λ e. (later k, refl, refl)) (λ e. (later k, refl, refl))
  sleeps_next k v Later w = by_test (λ (n : Made). (j : Taking) × (j.mutex ≡ k.mutex) × (n.next ≡ Row.Asleep j)) (w % 2 ^ 32 == v % 2 ^ 32) _ _ (λ e. (later k, refl, refl)) (λ e. (later k, refl, refl))

  sleeps_then : TrustsIn x (Goes t c) → (r : Row) → x.rows t ≡ r → falls_asleep r ≡ true → is_asleep y.machine t ≡ true
  sleeps_then w (Row.SleepsOn k v) is e =
      let next_is : (j : Taking) × (j.mutex ≡ k.mutex) × ((made x t c (Row.SleepsOn k v)).next ≡ Row.Asleep j) = sleeps_next k v k.how (cell k.mutex) in
      let row : y.rows t ≡ Row.Asleep next_is.0 = put-same x.rows t (made x t c (x.rows t)).next ∙ ap (λ (r : Row). (made x t c r).next) is ∙ next_is.2 in
      let after : Steady y = subst Steady (ap (λ (b : Bool). if b then y else x) guard) (steady_next x (Goes t c) st pos known w) in
      let here : t ≤ y.machine.layout.threads = subst (λ (l : Layout'). t ≤ l.threads) (sym layout) known in
      let fits : Fits y.machine.layout t (Row.Asleep next_is.0) (y.machine.threads t).stage = subst (λ (r : Row). Fits y.machine.layout t r (y.machine.threads t).stage) row (after.fits t pos here) in
      let there : StandsAs (Row.Asleep next_is.0) (y.machine.threads t).stage = subst (λ (r : Row). StandsAs r (y.machine.threads t).stage) row (after.there t pos here (lives_there (y.machine.threads t).stage (subst (λ (r : Row). r ≡ Row.Rests → ⊥) (sym row) (λ f. cc)) (after.rests t pos here))) in
      let ours : IsOurs x.machine.layout k.mutex = (subst (λ (r : Row). Fits x.machine.layout t r (x.machine.threads t).stage) is (st.fits t pos known)).0.ours in
      let call : (o : Op) × (p : Whole) × ((y.machine.threads t).stage ≡ Calling o p) = asleep_at next_is.0 next_is.0.how (y.machine.threads t).stage there in
      asleep_there (y.machine.threads t).stage next_is.0.mutex true refl
      (subst (λ (l : Layout'). stands_in t (y.machine.queues (cell_place l (cell_of next_is.0.mutex))) ≡ true) (sym layout) (subst (λ (m : ℕ). stands_in t (y.machine.queues (cell_place x.machine.layout (cell_of m))) ≡ true) (sym next_is.1)
      (stands k v ours e (subst (λ (r : Row). (p : ℕ) → y.machine.queues p ≡ queues_after (memory x) t (made x t c r).access p) is (each_access x t c at grant.1).queues))))
      (about_it y.machine.layout t (Row.Asleep next_is.0) (y.machine.threads t).stage fits there) call.0 call.1 call.2
    where
      lives_there : (f : Stage) → (y.rows t ≡ Row.Rests → ⊥) → (is_alive f ≡ false → y.rows t ≡ Row.Rests) → is_alive f ≡ true
      lives_there f never rests = go (is_alive f) refl
        where
          go : (b : Bool) → is_alive f ≡ b → b ≡ true
          go true e = refl
          go false e = absurd (never (rests e))
  sleeps_then w r is e = absurd cc

  pub asleep_next : (r : Row) → x.rows t ≡ r → falls_asleep r ≡ true → is_asleep (next x (Goes t c)).machine t ≡ true
  asleep_next r is e = subst (λ (b : Bool). is_asleep (if b then y else x).machine t ≡ true) (sym guard) (sleeps_then w r is e)

-- ---- alone

or_true : (a : Bool) → (a || true) ≡ true
or_true true = refl
or_true false = refl

-- one access fewer is left; or all are left again
step : (a b n again : ℕ) → nat_lt a b ≡ true → b + 63 * (0 + again) < suc n → a + 63 * again < n
step a b n again less few = let e : a < b = grind (arith, nat_tests) in omega (arith, e, few)

step_again : (a b n again : ℕ) → nat_lt a 63 ≡ true → b + 63 * (1 + again) < suc n → a + 63 * again < n
step_again a b n again less few = let e : a < 63 = grind (arith, nat_tests) in omega (arith, e, few)

none_of : (a b : Bool) → (a || b) ≡ false → (a ≡ false) × (b ≡ false)
none_of false false e = (refl, refl)
none_of true b e = absurd cc
none_of false true e = absurd cc

rests_now : (x : Slots) (t : ℕ) (cs : List Choice) → is_asleep x.machine t ≡ true → comes_to_rest x t cs ≡ true
rests_now x t [] e = ap (λ (b : Bool). is_resting (x.rows t) || b) e ∙ or_true (is_resting (x.rows t))
rests_now x t (c ∷ cs) e = ap (λ (b : Bool). (is_resting (x.rows t) || b) || comes_to_rest (next x (Goes t c)) t cs) e ∙ ap (λ (b : Bool). b || comes_to_rest (next x (Goes t c)) t cs) (or_true (is_resting (x.rows t)))

rest_or : (b d : Bool) → (b ≡ false → d ≡ true) → (b || d) ≡ true
rest_or true d after = refl
rest_or false d after = after refl

by_sleep : (b : Bool) → (e : Bool) → (b ≡ true → e ≡ true) → (b ≡ false → e ≡ true) → e ≡ true
by_sleep true e first second = first refl
by_sleep false e first second = second refl

comes : (x : Slots) (t : ℕ) (cs : List Choice) → Steady x → 1 ≤ t → t ≤ x.machine.layout.threads → AllTrusted x (goes_alone t cs) → rank_at x t + 63 * looks_again x t cs < length cs → comes_to_rest x t cs ≡ true
comes x t [] st pos known trusted few = absurd (let e : rank_at x t + 63 * 0 < 0 = few in omega (arith, e))
comes x t (c ∷ cs) st pos known ((first, last, w), trusted) few = rest_or (has_come_to_rest x t) (comes_to_rest (next x (Goes t c)) t cs)
    (λ e. let none = none_of (is_resting (x.rows t)) (is_asleep x.machine t) e in
    by_sleep (falls_asleep x t st pos known c w none.0 none.1 (x.rows t)) (comes_to_rest (next x (Goes t c)) t cs)
    (λ sleeps. rests_now (next x (Goes t c)) t cs (asleep_next x t st pos known c w none.0 none.1 (x.rows t) refl sleeps))
    (λ stays_up. comes (next x (Goes t c)) t cs (steady_next x (Goes t c) st first last w) pos
    (subst (λ (l : Layout'). t ≤ l.threads) (sym (layout_then x (Goes t c ∷ []) st ((first, last, w), tt))) known) trusted
    (go (goes_on x (x.rows t) c) refl (λ goes. nearer x t st pos known c w none.0 none.1 (stays x t st pos known c w none.0 none.1 (x.rows t) stays_up) goes) few)))
  where
    go : (b : Bool) → goes_on x (x.rows t) c ≡ b → (goes_on x (x.rows t) c ≡ true → nat_lt (rank_at (next x (Goes t c)) t) (rank_at x t) ≡ true)
        → rank_at x t + 63 * ((if b then 0 else 1) + looks_again (next x (Goes t c)) t cs) < suc (length cs) → rank_at (next x (Goes t c)) t + 63 * looks_again (next x (Goes t c)) t cs < length cs
    go true e near few = step (rank_at (next x (Goes t c)) t) (rank_at x t) (length cs) (looks_again (next x (Goes t c)) t cs) (near e) few
    go false e near few = step_again (rank_at (next x (Goes t c)) t) (rank_at x t) (length cs) (looks_again (next x (Goes t c)) t cs) (few_at (next x (Goes t c)) t) few

at_most : (a again n : ℕ) → nat_lt a 63 ≡ true → 63 * (1 + again) ≤ n → a + 63 * again < n
at_most a again n less most = let e : a < 63 = grind (arith, nat_tests) in omega (arith, e, most)

pub lone_calls : LoneCallsComeToRest
lone_calls l hs t cs is pos known trusted alone most =
    let st : Steady (reached l hs) = steady_run (begin l) hs (begins_steady l is) trusted in
    let here : t ≤ (reached l hs).machine.layout.threads = subst (λ (k : Layout'). t ≤ k.threads) (sym (layout_then (begin l) hs (begins_steady l is) trusted)) known in
    comes (reached l hs) t cs st pos here alone (at_most (rank_at (reached l hs) t) (looks_again (reached l hs) t cs) (length cs) (few_at (reached l hs) t) most)
