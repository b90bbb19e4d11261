-- One access of a call at its mutex's cell.
use Rattle.std.proofs.Common.{◌≡◌, ◌≢◌, inl, inr, ⊎_elim, ℕ, zero, suc, ◌+◌, ◌*◌, ◌%◌, ◌^◌, ◌<◌, ◌≤◌, ◌==◌, Bool, true, false, Option, Some, None, List, refl, sym, ap, ◌∙◌, subst, arith, eqb-true}
use Rattle.protocol.proofs.Vocabulary.{word_of, fields_of-word_of, Access, Object, Operation, word_among, sleeps_at, IsChainBothWays, head_place, place_in}
use Rattle.protocol.proofs.Vocabulary.{cell_place, Run, object_of, owner_of, fresh, acquires, owner_of-some, Fields, fields_of, Reply, OK, EOWNERDEAD, TryLock, Consistent, Phase}
use Rattle.protocol.proofs.Vocabulary.{AtCell, Onward, is_wake, left, Expects, Sound, decided, Joins, Whole, after_cell, leaving, Op, mutex_of, Calling, State, put, is_valid}
use Rattle.protocol.proofs.Vocabulary.{place_met, answer_among, stage_after, held_after, seen, Agree, if◌then◌else◌, nat_lt, eqb-false, LinkRow, LockRow, TryLockRow, UnlockRow}
use Rattle.protocol.proofs.Vocabulary.{ConsistentRow, Alone, taken, waiting}
use Rattle.lockword.specs.Cells.{low_of, waiters_alone}
use Rattle.lockword.specs.declared.reply.Reply.TheVariants.{EFAULT}
use Rattle.stepprograms.specs.Accesses.{is_trimmed}
use Rattle.stepprograms.specs.declared.access.Answer.TheVariants.{Again, Woken}
use Rattle.stepprograms.proofs.Trims.{trims_free}
use Rattle.stepprograms.specs.declared.access.Access.TheVariants.{Wake}
use Rattle.memorymap.specs.Chains.{IsAmong}
use Rattle.robustlist.specs.LinkLaws as link_laws
use Rattle.robustlist.proofs.Links as links
use Rattle.mutex.specs.declared.row.Row.{Row}
use Rattle.mutex.specs.declared.row.Row.TheVariants.{Lock, Unlock}
use Rattle.mutex.specs.declared.row.Row.TheVariants as row
use Rattle.mutex.specs.declared.row.Led.{Led}
use Rattle.mutex.specs.Laws.{points, Right}
use Rattle.mutex.specs.Rows.{Knows, IsGoing}
use Rattle.mutex.specs.Programs.{row_access, row_operation, point_of, resume_of}
use Rattle.mutex.specs.Whole.{from_cell}
use Rattle.mutex.proofs.Rights.{right}
use Rattle.mutex.proofs.Alone.{alone}
use Rattle.mutex.proofs.Steps.{at_cell}
use Rattle.protocol.proofs.Puts.{put-same, put-other}
use Rattle.protocol.proofs.Phases.{left_at, Moves, after_decided, after_answers, after_left, after_steady}
use Rattle.protocol.proofs.Seeing.{head_in, entry_in, cell_in, cell_again}
use Rattle.protocol.proofs.Kept.{AtRow, Fits, Serves, Sits, left_out_in, Owned, ChainedIn, Listed, pending_in, PendsAs, Kept, last_thread, view_of}
use Rattle.protocol.proofs.Places.{mine_is_no_cell, head_is_no_cell, list_links, links_mine}
use Rattle.mutex.proofs.OwnPlaces.{both_same, lies_apart}
use Rattle.protocol.proofs.Steps.{is_valid-cell, seen-inside, Tells, run_tells, same_operation, not_taken, same_held, onto, thread_after, after, call_step}
use Rattle.protocol.proofs.Owning.{Owning, owning, pends, takes, frees, keeps}
use Rattle.protocol.proofs.Frames.{OnlyWaitsFrom, kept_where}
use Rattle.protocol.proofs.Arrivals.{Arrives, sits_after, listed_after, pending_then}
use Rattle.protocol.proofs.Cases.{by_equal, at_or_else, some_same}

-- a wake is of the cell
wakes_row : (t cell : ℕ) (r : Row) → is_wake (row_access t cell r) ≡ true → (n : ℕ) × (1 ≤ n) × (row_access t cell r ≡ Wake cell n)
wakes_row t cell r e = grind (arith)

-- who falls asleep is in a lock that saw the word
pub sleeper : (t cell : ℕ) (r : Row) (w : ℕ) → sleeps_at (row_access t cell r) w ≡ true → (v : Fields) × (r ≡ Lock (LockRow.Sleep v))
sleeper t cell r w e = grind (arith)

-- an owner field of an id
owner_is : (n u : ℕ) → owner_of n ≡ Some u → n ≡ u
owner_is zero u e = absurd cc
owner_is (suc n) u e = some_same (suc n) u e

-- a word that is taken from was free
taken_free : (u w : ℕ) (v : Fields) → w ≡ word_of v → 1 ≤ u → v.owner ≡ 0 → (fields_of w).owner ≡ u → ⊥
taken_free u w v is first free owner = let same : (fields_of w).owner ≡ v.owner = ap (λ (c : Fields). c.owner) (ap fields_of is ∙ fields_of-word_of v (omega arith)) in omega arith

-- a mutex that another owns has WAITERS set in its cell, at most
waits_row : (t cell u w : ℕ) (q : List ℕ) (r : Row) → 1 ≤ u → u ≢ t → Knows r → Expects t r (object_of (fields_of w)) → (fields_of w).owner ≡ u → OnlyWaitsFrom w (word_among (row_access t cell r) w q)
waits_row t cell u w q (Lock LockRow.Load) first apart knows expects owner = inl refl
waits_row t cell u w q (Lock (LockRow.Take v)) first apart knows expects owner = by_equal (OnlyWaitsFrom w) w (word_of v) (word_of (taken v t)) w (λ is. absurd (taken_free u w v is first knows.0 owner)) (λ other. inl refl)
waits_row t cell u w q (Lock (LockRow.SetWaiters v)) first apart knows expects owner =
    by_equal (OnlyWaitsFrom w) w (word_of v) (word_of (waiting v)) w (λ is. inr (ap (λ (c : Fields). word_of (waiting c)) (sym (ap fields_of is ∙ fields_of-word_of v knows.1)))) (λ other. inl refl)
waits_row t cell u w q (Lock (LockRow.Sleep v)) first apart knows expects owner = inl refl
waits_row t cell u w q (Lock LockRow.WakeAll) first apart knows expects owner = inl refl
waits_row t cell u w q (TryLock TryLockRow.Load) first apart knows expects owner = inl refl
waits_row t cell u w q (TryLock (TryLockRow.Take v n)) first apart knows expects owner = by_equal (OnlyWaitsFrom w) w (word_of v) (word_of (taken v t)) w (λ is. absurd (taken_free u w v is first knows.0 owner)) (λ other. inl refl)
waits_row t cell u w q (Unlock UnlockRow.Load) first apart knows expects owner = inl refl
waits_row t cell u w q (Unlock (UnlockRow.Release d)) first apart knows expects owner = absurd (apart (some_same u t (sym (ap owner_of owner ∙ owner_of-some u first) ∙ expects.0)))
waits_row t cell u w q (Unlock (UnlockRow.Wake a)) first apart knows expects owner = inl refl
waits_row t cell u w q (Unlock UnlockRow.Trim) first apart knows expects owner = go (is_trimmed w q) (trims_free w q)
  where
    go : (b : Bool) → (b ≡ true → w ≡ waiters_alone) → OnlyWaitsFrom w (if b then 0 else w)
    go true is = absurd (let free : (fields_of w).owner ≡ 0 = ap (λ (v : ℕ). (fields_of v).owner) (is refl) in omega arith)
    go false is = inl refl
waits_row t cell u w q (Consistent ConsistentRow.Load) first apart knows expects owner = inl refl
waits_row t cell u w q (Consistent ConsistentRow.Declare) first apart knows expects owner = absurd (apart (some_same u t (sym (ap owner_of owner ∙ owner_of-some u first) ∙ expects.0)))
waits_row t cell u w q (row.Ended x) first apart knows expects owner = inl refl

-- an access of thread t's call at row r
module _ (s : State) (t : ℕ) (c : Op) (p : Whole) (r : Row) (inv : Kept s) (pos : 1 ≤ t) (known : t ≤ s.layout.threads) (fits : Fits s t (s.threads t).held (mutex_of s.layout c) (record p { phase = AtCell r })) (serves : Serves s.layout c p) where
  abbrev whole : Whole
  whole = record p { phase = AtCell r }

  abbrev m : ℕ
  m = mutex_of s.layout c

  abbrev place : ℕ
  place = cell_place s.layout m

  abbrev a : Access
  a = row_access p.thread p.cell r

  abbrev w : ℕ
  w = s.words place

  abbrev q : List ℕ
  q = s.queues place

  abbrev w' : ℕ
  w' = word_among a w q

  abbrev l : Led
  l = resume_of p.thread r (answer_among a w q)

  abbrev o : Onward
  o = onto s t whole

  abbrev s' : State
  s' = after s t (call_step s t c whole)

  abbrev at : AtRow t (s.threads t).held p.operation r (seen s m)
  at = fits.stands

  pub at_place : place_met s.layout t a ≡ place
  at_place = ap (place_in s.layout t) (at_cell p.thread p.cell r ∙ fits.cell) ∙ cell_again s.layout t inv.layout pos known m fits.inside

  pub valid : is_valid s.layout (place_met s.layout t a) ≡ true
  valid = ap (is_valid s.layout) at_place ∙ is_valid-cell s.layout m fits.inside

  word_at : (x : ℕ) → s'.words x ≡ put s.words place w' x
  word_at x = ap (λ (y : ℕ). put s.words y (word_among a (s.words y) (s.queues y)) x) at_place

  pub word_here : s'.words place ≡ w'
  word_here = word_at place ∙ put-same s.words place w'

  pub word_there : (x : ℕ) → x ≢ place → s'.words x ≡ s.words x
  word_there x apart = word_at x ∙ put-other s.words place w' x apart

  pub wakes : is_wake a ≡ true → (n : ℕ) × (1 ≤ n) × (a ≡ Wake (cell_in s.layout t m) n)
  wakes e = let woken = wakes_row p.thread p.cell r e in (woken.0, woken.1, woken.2 ∙ ap (λ (x : ℕ). Wake x woken.0) fits.cell)

  pub leads : o ≡ from_cell whole l
  leads = ap (λ (y : ℕ). from_cell whole (resume_of p.thread r (answer_among a (s.words y) (s.queues y)))) at_place

  before : seen s m ≡ object_of (fields_of w)
  before = seen-inside s m fits.inside

  here : seen s' m ≡ object_of (fields_of w')
  here = seen-inside s' m fits.inside ∙ ap (λ (v : ℕ). object_of (fields_of v)) word_here

  pub cells_there : (k : ℕ) → k ≢ m → s'.words (cell_place s.layout k) ≡ s.words (cell_place s.layout k)
  cells_there k apart = word_there (cell_place s.layout k) (λ e. apart (omega (arith, e)))

  pub far : (k : ℕ) → k ≢ m → seen s' k ≡ seen s k
  far k apart = ap (λ (v : ℕ). if nat_lt k s.layout.mutexes then object_of (fields_of v) else fresh) (cells_there k apart)

  needs : Expects p.thread r (object_of (fields_of w))
  needs = subst (λ (z : Object). Expects p.thread r z) before (subst (λ (u : ℕ). Expects u r (seen s m)) (sym fits.mine) at.expects)

  al : Alone t r a l w q w'
  al = subst (λ (u : ℕ). Alone u r a l w q w') fits.mine (alone p.thread p.cell w q r (let is = fits.mine in omega arith) (let is = fits.mine in let most = last_thread s t inv known in omega arith) at.going at.knows needs)

  rt : Right p.thread p.cell r l w w'
  rt = right p.thread p.cell w q r (let is = fits.mine in omega arith) (let is = fits.mine in let most = last_thread s t inv known in omega arith) at.going at.knows (subst Sound before (inv.sound m)) needs

  tells_row : Tells t (seen s m) (row_operation r) l.point (seen s' m)
  tells_row =
      let run : Run (object_of (fields_of w)) (points (point_of t p.cell (row_operation r) l.point)) (object_of (fields_of w')) = subst (λ (u : ℕ). Run (object_of (fields_of w)) (points (point_of u p.cell (row_operation r) l.point)) (object_of (fields_of w'))) fits.mine rt.runs in
      run_tells t p.cell (seen s m) (seen s' m) (row_operation r) l.point
      (subst (λ (z : Object). Run z (points (point_of t p.cell (row_operation r) l.point)) (seen s' m)) (sym before) (subst (λ (n : Object). Run (object_of (fields_of w)) (points (point_of t p.cell (row_operation r) l.point)) n) (sym here) run))

  pub tells : Tells t (seen s m) p.operation o.point (seen s' m)
  tells = subst (λ (z : Operation × Option Reply). Tells t (seen s m) z.0 z.1 (seen s' m)) (λ i. (at.of i, (sym leads i).point)) tells_row

  -- ---- beyond the object
  moves_so : Moves t whole (from_cell whole l) w q w'
  moves_so = record {
    joins = subst (Joins (decided r) l.point) (sym (after_decided whole l.row)) rt.tells;
    waiters = al.waiters;
    sleeps = al.sleeps;
    fewer = λ e. let few = al.fewer e in let most = after_left whole l.row w' in let here : left_at (after_cell whole l.row) w' < 8 + 8 * left r w = omega arith in here;
    answers = λ e free on. ⊎_elim (λ yes. inl (after_answers whole l.row yes)) inr (al.answers e free on);
    steady = λ e was. after_steady t whole l.row w' (al.steady e was);
  }

  pub moves : Moves t whole o w q (s'.words place)
  moves = subst (λ (z : Onward × ℕ). Moves t whole z.0 w q z.1) (λ i. (sym leads i, sym word_here i)) moves_so

  -- ---- its thread, and its list
  room : acquires p.operation ≡ true → (q : Row) → l.row ≡ q → IsGoing q → held_after (s.threads t).held p.operation l.point < 2048
  room took_one z is going =
      let took : acquires (row_operation r) ≡ true = ap acquires at.of ∙ took_one in
      let on : IsGoing l.row = subst IsGoing (sym is) going in
      let same : row_operation l.row ≡ row_operation r = same_operation r l.row on rt.stays in
      let as_before : held_after (s.threads t).held (row_operation r) l.point ≡ (s.threads t).held = same_held (decided r) l.point (decided l.row) (row_operation r) (s.threads t).held rt.tells took (λ z e. not_taken l.row z on (ap acquires same ∙ took) e) in
      let now : held_after (s.threads t).held p.operation l.point ≡ (s.threads t).held = ap (λ (op : Operation). held_after (s.threads t).held op l.point) (sym at.of) ∙ as_before in
      let below = at.room took_one in omega arith

  at_row : (q : Row) → l.row ≡ q → IsGoing q → AtRow t (held_after (s.threads t).held p.operation l.point) p.operation q (seen s' m)
  at_row z is going =
      let on : IsGoing l.row = subst IsGoing (sym is) going in record {
        going = going;
        knows = subst Knows is rt.knows;
        expects = subst (λ (v : Object). Expects t z v) (sym here) (subst (λ (u : ℕ). Expects u z (object_of (fields_of w'))) fits.mine (subst (λ (v : Row). Expects p.thread v (object_of (fields_of w'))) is rt.expects));
        of = sym (ap row_operation is) ∙ same_operation r l.row on rt.stays ∙ at.of;
        room = λ acq. room acq z is going;
      }

  owning_so : Owning m t r (after_cell whole l.row) (seen s m) (seen s' m)
  owning_so = owning m t whole (seen s m) (seen s' m) p.thread r (answer_among a w q) at.going at.of rt.stays rt.tells tells_row

  abbrev held' : ℕ
  held' = held_after (s.threads t).held p.operation l.point

  linking : (op : Operation) (x : Reply) → Owning m t r (leaving whole op x) (seen s m) (seen s' m) → Arrives t held' whole (leaving whole op x) (seen s' m)
  linking op x own = grind (arith)

  arrives : (q : Row) → l.row ≡ q → Owning m t r (after_cell whole q) (seen s m) (seen s' m) → Arrives t held' whole (after_cell whole q) (seen s' m)
  arrives (row.Ended x) is own = linking p.operation x own
  arrives (Lock z) is own = at_row (Lock z) is tt
  arrives (TryLock z) is own = at_row (TryLock z) is tt
  arrives (Consistent z) is own = at_row (Consistent z) is tt
  arrives (Unlock UnlockRow.Load) is own = at_row (Unlock UnlockRow.Load) is tt
  arrives (Unlock (UnlockRow.Release d)) is own = (at_row (Unlock (UnlockRow.Release d)) is tt, tt)
  arrives (Unlock (UnlockRow.Wake d)) is own = at_row (Unlock (UnlockRow.Wake d)) is tt
  arrives (Unlock UnlockRow.Trim) is own = at_row (Unlock UnlockRow.Trim) is tt

  -- the entries are those of the mutexes that the thread owns now
  module _ (es : List ℕ) (owned : Owned s t (left_out_in m (AtCell r)) es) where
    entry_here : (f : Phase) → Owning m t r f (seen s m) (seen s' m) → (k : ℕ) → (seen s k).owner ≡ Some t → left_out_in m (AtCell r) ≢ Some k → ((seen s' k).owner ≡ Some t) × (left_out_in m f ≢ Some k)
    entry_here f own k mine outside = go own (k == m) refl
      where
        go : Owning m t r f (seen s m) (seen s' m) → (b : Bool) → (k == m) ≡ b → ((seen s' k).owner ≡ Some t) × (left_out_in m f ≢ Some k)
        go (takes x y free now) true e = absurd (cc (ap (λ (j : ℕ). (seen s j).owner) (eqb-true k m e), mine, free))
        go (takes x y free now) false e = (ap (λ (z : Object). z.owner) (far k (eqb-false k m e)) ∙ mine, λ same. eqb-false k m e (sym (some_same m k (sym y ∙ same))))
        go (frees x y now) true e = absurd (outside (x ∙ ap Some (sym (eqb-true k m e))))
        go (frees x y now) false e = (ap (λ (z : Object). z.owner) (far k (eqb-false k m e)) ∙ mine, λ same. cc (y, same))
        go (keeps x y now) true e = (ap (λ (j : ℕ). (seen s' j).owner) (eqb-true k m e) ∙ now ∙ sym (ap (λ (j : ℕ). (seen s j).owner) (eqb-true k m e)) ∙ mine, λ same. cc (y, same))
        go (keeps x y now) false e = (ap (λ (z : Object). z.owner) (far k (eqb-false k m e)) ∙ mine, λ same. cc (y, same))

    entry_before : (f : Phase) → Owning m t r f (seen s m) (seen s' m) → (k : ℕ) → (seen s' k).owner ≡ Some t → left_out_in m f ≢ Some k → ((seen s k).owner ≡ Some t) × (left_out_in m (AtCell r) ≢ Some k)
    entry_before f own k mine outside = go own (k == m) refl
      where
        go : Owning m t r f (seen s m) (seen s' m) → (b : Bool) → (k == m) ≡ b → ((seen s k).owner ≡ Some t) × (left_out_in m (AtCell r) ≢ Some k)
        go (takes x y free now) true e = absurd (outside (y ∙ ap Some (sym (eqb-true k m e))))
        go (takes x y free now) false e = (sym (ap (λ (z : Object). z.owner) (far k (eqb-false k m e))) ∙ mine, λ same. cc (x, same))
        go (frees x y now) true e = absurd (cc (ap (λ (j : ℕ). (seen s' j).owner) (eqb-true k m e), mine, now))
        go (frees x y now) false e = (sym (ap (λ (z : Object). z.owner) (far k (eqb-false k m e))) ∙ mine, λ same. eqb-false k m e (sym (some_same m k (sym x ∙ same))))
        go (keeps x y now) true e = (ap (λ (j : ℕ). (seen s j).owner) (eqb-true k m e) ∙ sym now ∙ sym (ap (λ (j : ℕ). (seen s' j).owner) (eqb-true k m e)) ∙ mine, λ same. cc (x, same))
        go (keeps x y now) false e = (sym (ap (λ (z : Object). z.owner) (far k (eqb-false k m e))) ∙ mine, λ same. cc (x, same))

    owned_after : (f : Phase) → Owning m t r f (seen s m) (seen s' m) → Owned s' t (left_out_in m f) es
    owned_after f own = record {
      entries = λ x among. let e = owned.entries x among in let now = entry_here f own e.0 e.3 e.4 in (e.0, e.1, e.2, now.0, now.1);
      all = λ k below mine outside. let was = entry_before f own k mine outside in owned.all k below was.0 was.1;
    }

    agree : Agree (head_in s.layout t) es (view_of s t) (view_of s' t)
    agree x on = word_there (place_in s.layout t x) (mine_is_no_cell s t (place_in s.layout t x) m pos known fits.inside (links_mine s t x (list_links s t inv.layout pos known (left_out_in m (AtCell r)) es x owned on)))

    module _ (ch : IsChainBothWays (view_of s t) (head_in s.layout t) es) where
      still : IsChainBothWays (view_of s' t) (head_in s.layout t) es
      still = both_same (view_of s t) (view_of s' t) (head_in s.layout t) es agree ch

      -- a mutex that was free isn't on the list
      apart_from_list : (seen s m).owner ≡ None → (x : ℕ) → IsAmong x es → (k : ℕ) × (k < s.layout.mutexes) × (x ≡ entry_in s.layout t k) × (k ≢ m)
      apart_from_list free x among = let e = owned.entries x among in (e.0, e.1, e.2, λ is. cc (sym e.3 ∙ ap (λ (j : ℕ). (seen s j).owner) is ∙ free))

      begins_link : (f : Phase) → left_out_in m f ≡ Some m → Owning m t r f (seen s m) (seen s' m) → link_laws.Linking (head_in s.layout t) p.entry es LinkRow.LoadFirst (view_of s' t)
      begins_link f out (takes x y free now) = links.right.begins (head_in s.layout t) p.entry es (view_of s' t) still (subst (λ (e : ℕ). link_laws.LiesApart (head_in s.layout t) e es) (sym fits.entry) (lies_apart s.layout t m es inv.layout pos known fits.inside (apart_from_list free)))
      begins_link f out (frees x y now) = absurd (cc (out, y))
      begins_link f out (keeps x y now) = absurd (cc (out, y))

      chain_left : (op : Operation) (x : Reply) → Owning m t r (leaving whole op x) (seen s m) (seen s' m) → ChainedIn (view_of s' t) (head_in s.layout t) p.entry es (leaving whole op x)
      chain_left op EFAULT own = still
      chain_left Operation.Lock OK own = begins_link _ refl own
      chain_left Operation.Lock EOWNERDEAD own = begins_link _ refl own
      chain_left Operation.Lock x own = still
      chain_left Operation.TryLock OK own = begins_link _ refl own
      chain_left Operation.TryLock EOWNERDEAD own = begins_link _ refl own
      chain_left Operation.TryLock x own = still
      chain_left Operation.Unlock OK own = still
      chain_left op x own = still

      chain_after : (q : Row) → Owning m t r (after_cell whole q) (seen s m) (seen s' m) → ChainedIn (view_of s' t) (head_in s.layout t) p.entry es (after_cell whole q)
      chain_after (row.Ended x) own = chain_left p.operation x own
      chain_after (Lock z) own = still
      chain_after (TryLock z) own = still
      chain_after (Consistent z) own = still
      chain_after (Unlock UnlockRow.Load) own = still
      chain_after (Unlock (UnlockRow.Release d)) own = still
      chain_after (Unlock (UnlockRow.Wake d)) own = still
      chain_after (Unlock UnlockRow.Trim) own = still

  pends_so : pending_in p.entry (after_cell whole l.row) ≡ pending_in p.entry (AtCell r)
  pends_so = pends m t whole (seen s m) (seen s' m) p.thread r (answer_among a w q) at.going at.of rt.stays rt.tells tells_row

  waits_so : (u k : ℕ) → 1 ≤ u → u ≤ s.layout.threads → t ≢ u → k < s.layout.mutexes → (seen s k).owner ≡ Some u → OnlyWaitsFrom (s.words (cell_place s.layout k)) (s'.words (cell_place s.layout k))
  waits_so u k first most apart inside =
      at_or_else (λ (j : ℕ). (seen s j).owner ≡ Some u → OnlyWaitsFrom (s.words (cell_place s.layout j)) (s'.words (cell_place s.layout j))) m k
      (λ own.
      subst (OnlyWaitsFrom w) (sym word_here)
      (waits_row p.thread p.cell u w q r first (λ same. apart (sym (same ∙ fits.mine))) at.knows needs (owner_is (fields_of w).owner u (sym (ap (λ (z : Object). z.owner) before) ∙ own))))
      (λ other own. inl (cells_there k other))

  -- what holds of every state holds then
  pub kept : (s.threads t).stage ≡ Calling c whole → Listed s t (Calling c whole) → Kept s'
  kept is (es, owned, ch) =
      kept_where s t m a (thread_after s t (call_step s t c whole)) p.operation o.point inv pos known fits.inside far tells refl
      (λ x e. at.room)
      (λ u first most. word_there (head_place u + 1) (head_is_no_cell s.layout u m 1 first most (omega arith)))
      (λ u x first most apart mine. word_there x (mine_is_no_cell s u x m first most fits.inside mine))
      waits_so
      (subst (λ (z : Onward). Sits s' t (held_after (s.threads t).held p.operation z.point) (stage_after c whole z.phase)) (sym leads) (sits_after s t (s.threads t).held c whole fits serves a (thread_after s t (call_step s t c whole)) held' (after_cell whole l.row) (arrives l.row refl owning_so)))
      (subst (λ (z : Onward). Listed s' t (stage_after c whole z.phase)) (sym leads) (listed_after s' t c whole es (after_cell whole l.row) (owned_after es owned (after_cell whole l.row) owning_so) (chain_after es owned ch l.row owning_so)))
      (subst (λ (z : Onward). PendsAs (s'.words (head_place t + 2)) (stage_after c whole z.phase)) (sym leads) (pending_then c whole (after_cell whole l.row) (s'.words (head_place t + 2)) (word_there (head_place t + 2) (head_is_no_cell s.layout t m 2 pos known (omega arith)) ∙ subst (PendsAs (s.words (head_place t + 2))) is (inv.heads t pos known).pending ∙ sym pends_so)))
      (subst Sound (sym here) rt.sound)

  -- a lock that slept loads the cell again
  woken_after : (v : Fields) → r ≡ Lock (LockRow.Sleep v) → after_cell whole l.row ≡ AtCell (Lock LockRow.Load)
  woken_after v is = ap (λ (z : Row). after_cell whole (resume_of p.thread z (answer_among (row_access p.thread p.cell z) w q)).row) is ∙ go (w % 2 ^ 32 == low_of v)
    where
      go : (b : Bool) → after_cell whole (resume_of p.thread (Lock (LockRow.Sleep v)) (if b then Woken else Again)).row ≡ AtCell (Lock LockRow.Load)
      go true = refl
      go false = refl

  pub falls_asleep : sleeps_at a w ≡ true → (v : Fields) × (AtCell r ≡ AtCell (Lock (LockRow.Sleep v))) × (o.phase ≡ AtCell (Lock LockRow.Load))
  falls_asleep e =
      let row_is = sleeper p.thread p.cell r w e in
      (row_is.0, ap AtCell row_is.1, ap (λ (z : Onward). z.phase) leads ∙ woken_after row_is.0 row_is.1)
