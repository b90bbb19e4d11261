-- What one access of a thread leaves of the others, and of the mutexes' owners.
use Rattle.std.proofs.Common.{◌≡◌, ◌≢◌, ◌⊎◌, inl, inr, ⊎_elim, ℕ, ◌+◌, ◌<◌, ◌≤◌, Bool, true, Option, Some, None, List, ◌∷◌, refl, sym, ap, ◌∙◌, subst, arith}
use Rattle.protocol.proofs.Vocabulary.{CondCall, CondPhase, CondWhole, OnlyWaits, owner_of, owner_of-some, Access, acquires, Object, Operation, Layout', IsLayout, head_place, place_in}
use Rattle.protocol.proofs.Vocabulary.{cell_place, held_by, Fields, fields_of, word_of, fields_of-word_of, Reply, Phase, AtCell, Linking, Clearing, Whole, Sound, OnCondition}
use Rattle.protocol.proofs.Vocabulary.{mutex_of, Thread, Stage, Idle, Calling, AtCondition, Dying, Reaped, State, held_after, seen, Agree, waiting}
use Rattle.exitwalk.specs.declared.row.Row as walk_row
use Rattle.exitwalk.specs.Standings as walks
use Rattle.exitwalk.specs.Walks as exit
use Rattle.exitwalk.specs.Steps.{waiting_word}
use Rattle.robustlist.proofs.Links as links
use Rattle.robustlist.proofs.Unlinks.{right}
use Rattle.mutex.specs.declared.phase.Phase.TheVariants.{Announcing, Unlinking, Ended}
use Rattle.condvar.specs.Calls.{acts_as}
use Rattle.posixmutex.proofs.Objects.{others_keep}
use Rattle.protocol.proofs.Puts.{by_put}
use Rattle.protocol.proofs.Objects.{one, mine, others, owners}
use Rattle.protocol.proofs.Counts.{held_by-changed, held_by-owns}
use Rattle.protocol.proofs.Seeing.{head_in, entry_in, entry_again}
use Rattle.protocol.proofs.Kept.{InPhase, Fits, AtPhase, FitsAt, ChainedAt, Sits, Owned, ChainedIn, Chained, left_out, Walks, Treats, LeftToWalk, Listed, PendsAs, HasHead, Kept}
use Rattle.protocol.proofs.Kept.{view_of}
use Rattle.protocol.proofs.Places.{IsMine, Links, list_links, more_links, links_mine, treated_at}
use Rattle.mutex.proofs.OwnPlaces.{both_same}
use Rattle.protocol.proofs.Steps.{Tells, unmoved, seen-inside, done}
use Rattle.protocol.proofs.Cases.{by_same, at_or_else}
use Rattle.protocol.proofs.WalksLeft.{left_to_walk_carries}

-- what a call needs of its mutex stays, where that stays as long as the call's thread owns it
in_phase_carries : (u held : ℕ) (q : Whole) (f : Phase) (o n : Object) → (o.owner ≡ Some u → n ≡ o) → InPhase u held q f o → InPhase u held q f n
in_phase_carries u held q f o n same a = grind (arith)

-- whoever may take one more owns 2,048 at most then
held_few : (held : ℕ) (op : Operation) (x : Reply) → held ≤ 2048 → (acquires op ≡ true → held < 2048) → held_after held op (Some x) ≤ 2048
held_few held op x few may = grind (arith)

-- a word that is as it was, or has WAITERS too
abbrev pub OnlyWaitsFrom : ℕ → ℕ → Type 0
OnlyWaitsFrom w w' = (w' ≡ w) ⊎ (w' ≡ waiting_word w)

pub fields_of-waiting : (v : ℕ) → fields_of (waiting_word v) ≡ waiting (fields_of v)
fields_of-waiting v = fields_of-word_of (waiting (fields_of v)) (omega arith)

waiting_twice : (v : ℕ) → waiting_word (waiting_word v) ≡ waiting_word v
waiting_twice v = ap (λ (c : Fields). word_of (waiting c)) (fields_of-waiting v)

only_waits_on : (v : ℕ) (again : Bool) (w w' : ℕ) → OnlyWaits v again w → OnlyWaitsFrom w w' → OnlyWaits v again w'
only_waits_on v again w w' only (inl same) = subst (OnlyWaits v again) (sym same) only
only_waits_on v again w w' only (inr set) = record { stays = inr (go only.stays); set = only.set }
  where
    go : (w ≡ v) ⊎ (w ≡ waiting_word v) → w' ≡ waiting_word v
    go (inl is) = set ∙ ap waiting_word is
    go (inr is) = set ∙ ap waiting_word is ∙ waiting_twice v

-- a walk marks only what its thread still owns
pub marks_own : (s : State) (u k at v : ℕ) (again : Bool) → IsLayout s.layout → Treats s u at k → 1 ≤ u → u ≤ s.layout.threads → (fields_of v).owner ≡ u → OnlyWaits v again (s.words (place_in s.layout u at)) → (seen s k).owner ≡ Some u
marks_own s u k at v again is treats first most owner only =
    let cell : (fields_of (s.words (cell_place s.layout k))).owner ≡ u = subst (λ (x : ℕ). (fields_of (s.words x)).owner ≡ u) (treated_at s u is first most at k treats) (go only.stays) in
    ap (λ (o : Object). o.owner) (seen-inside s k treats.0) ∙ ap owner_of cell ∙ owner_of-some u first
  where
    go : (s.words (place_in s.layout u at) ≡ v) ⊎ (s.words (place_in s.layout u at) ≡ waiting_word v) → (fields_of (s.words (place_in s.layout u at))).owner ≡ u
    go (inl same) = ap (λ (x : ℕ). (fields_of x).owner) same ∙ owner
    go (inr set) = ap (λ (x : ℕ). (fields_of x).owner) set ∙ ap (λ (c : Fields). c.owner) (fields_of-waiting v) ∙ owner

-- what a call on a condition variable needs of its mutex's cell stays, where that stays as long as the call's thread owns it, but that WAITERS may be set
abbrev pub StaysFor : ℕ → Fields → Fields → Type 0
StaysFor u c d = c.owner ≡ u → (d ≡ c) ⊎ (d ≡ waiting c)

-- so its call stays as it is to be
at_phase_carries : (u held : ℕ) (op : Operation) (q : CondWhole) (f : CondPhase) (c d : Fields) → StaysFor u c d → AtPhase u held op q f c → AtPhase u held op q f d
at_phase_carries u held op q f c d stays a = grind (arith)

-- what a walk's row knows
pub knows_at : (l : Layout') (u : ℕ) (w : walks.Standing) → Walks l u w → exit.Knows u (head_in l u) w.row
knows_at l u w f = subst (λ (z : ℕ × ℕ). exit.Knows z.0 z.1 w.row) (λ i. (f.mine i, f.head i)) f.knows

-- one access of thread t, to a mutex m or to its own words: what it tells of m; it leaves the words that others own, and sets WAITERS at most in their cells
module _ (s : State) (t m : ℕ) (a : Access) (th : Thread) (op : Operation) (point : Option Reply) (inv : Kept s) (pos : 1 ≤ t) (known : t ≤ s.layout.threads) (inside : m < s.layout.mutexes)
    (far : (k : ℕ) → k ≢ m → seen (done s t a th) k ≡ seen s k)
    (tells : Tells t (seen s m) op point (seen (done s t a th) m))
    (counts : th.held ≡ held_after (s.threads t).held op point)
    (room : (x : Reply) → point ≡ Some x → acquires op ≡ true → (s.threads t).held < 2048)
    (offsets : (u : ℕ) → 1 ≤ u → u ≤ s.layout.threads → (done s t a th).words (head_place u + 1) ≡ s.words (head_place u + 1))
    (spares : (u x : ℕ) → 1 ≤ u → u ≤ s.layout.threads → t ≢ u → IsMine s u x → (done s t a th).words x ≡ s.words x)
    (waits : (u k : ℕ) → 1 ≤ u → u ≤ s.layout.threads → t ≢ u → k < s.layout.mutexes → (seen s k).owner ≡ Some u → OnlyWaitsFrom (s.words (cell_place s.layout k)) ((done s t a th).words (cell_place s.layout k))) where
  abbrev s' : State
  s' = done s t a th

  -- a mutex that another owns is as it was
  keeps_theirs : (u k : ℕ) → t ≢ u → (seen s k).owner ≡ Some u → seen s' k ≡ seen s k
  keeps_theirs u k apart = at_or_else (λ (j : ℕ). (seen s j).owner ≡ Some u → seen s' j ≡ seen s j) m k (here point tells) (λ other own. far k other)
    where
      here : (x : Option Reply) → Tells t (seen s m) op x (seen s' m) → (seen s m).owner ≡ Some u → seen s' m ≡ seen s m
      here None same own = same
      here (Some x) permits own = others_keep (seen s m) (seen s' m) t u op x own apart permits

  -- and another comes to own none
  owned_before : (u k : ℕ) → t ≢ u → (seen s' k).owner ≡ Some u → (seen s k).owner ≡ Some u
  owned_before u k apart = at_or_else (λ (j : ℕ). (seen s' j).owner ≡ Some u → (seen s j).owner ≡ Some u) m k (here point tells) (λ other own. sym (ap (λ (z : Object). z.owner) (far k other)) ∙ own)
    where
      here : (x : Option Reply) → Tells t (seen s m) op x (seen s' m) → (seen s' m).owner ≡ Some u → (seen s m).owner ≡ Some u
      here None same own = sym (ap (λ (z : Object). z.owner) same) ∙ own
      here (Some x) permits own = ⊎_elim (λ before. before) (λ is. absurd (apart (sym is))) (owners (seen s m) (seen s' m) t u op x permits own)

  -- ---- the calls of others, and their lists
  fits_theirs : (u : ℕ) → t ≢ u → (held k : ℕ) (q : Whole) → Fits s u held k q → Fits s' u held k q
  fits_theirs u apart held k q f = record {
    mine = f.mine;
    inside = f.inside;
    head = f.head;
    entry = f.entry;
    cell = f.cell;
    stands = in_phase_carries u held q q.phase (seen s k) (seen s' k) (keeps_theirs u k apart) f.stands;
  }

  cell_stays : (u : ℕ) → 1 ≤ u → u ≤ s.layout.threads → t ≢ u → (k : ℕ) → k < s.layout.mutexes → StaysFor u (fields_of (s.words (cell_place s.layout k))) (fields_of (s'.words (cell_place s.layout k)))
  cell_stays u first most apart k below own =
      ⊎_elim (λ same. inl (ap fields_of same)) (λ set. inr (ap fields_of set ∙ fields_of-waiting (s.words (cell_place s.layout k))))
      (waits u k first most apart below (ap (λ (z : Object). z.owner) (seen-inside s k below) ∙ ap owner_of own ∙ owner_of-some u first))

  fits_at_theirs : (u : ℕ) → 1 ≤ u → u ≤ s.layout.threads → t ≢ u → (held : ℕ) (d : CondCall) (q : CondWhole) → FitsAt s u held d q → FitsAt s' u held d q
  fits_at_theirs u first most apart held d q f = record {
    mine = f.mine;
    inside = f.inside;
    there = f.there;
    head = f.head;
    entry = f.entry;
    cell = f.cell;
    counter = f.counter;
    stands = at_phase_carries u held (acts_as d) q q.phase _ _ (cell_stays u first most apart (mutex_of s.layout (OnCondition d)) f.inside) f.stands;
  }

  theirs : (u : ℕ) → 1 ≤ u → u ≤ s.layout.threads → t ≢ u → (held : ℕ) (g : Stage) → Sits s u held g → Sits s' u held g
  theirs u first most apart held Idle f = tt
  theirs u first most apart held (Dying w) f = f
  theirs u first most apart held Reaped f = tt
  theirs u first most apart held (Calling d q) (f, serves) = (fits_theirs u apart held (mutex_of s.layout d) q f, serves)
  theirs u first most apart held (AtCondition d q) f = fits_at_theirs u first most apart held d q f

  their_entries : (u : ℕ) (out : Option ℕ) (es : List ℕ) → t ≢ u → Owned s u out es → Owned s' u out es
  their_entries u out es apart owned = record {
    entries = λ x among. let e = owned.entries x among in (e.0, e.1, e.2, ap (λ (z : Object). z.owner) (keeps_theirs u e.0 apart e.3) ∙ e.3, e.4);
    all = λ k below own outside. owned.all k below (owned_before u k apart own) outside;
  }

  module _ (u : ℕ) (first : 1 ≤ u) (most : u ≤ s.layout.threads) (apart : t ≢ u) (out : Option ℕ) (es : List ℕ) (owned : Owned s u out es) where
    spared : (x : ℕ) → Links s u x → view_of s' u x ≡ view_of s u x
    spared x on = spares u (place_in s.layout u x) first most apart (links_mine s u x on)

    agree : Agree (head_in s.layout u) es (view_of s u) (view_of s' u)
    agree x on = spared x (list_links s u inv.layout first most out es x owned on)

    -- the list and one entry more, of a mutex that it owns
    agree_more : (e k : ℕ) → k < s.layout.mutexes → e ≡ entry_in s.layout u k → (seen s k).owner ≡ Some u → Agree (head_in s.layout u) (e ∷ es) (view_of s u) (view_of s' u)
    agree_more e k below is own x on = spared x (more_links s u inv.layout first most k out e es x owned below is own on)

    their_chain : (held : ℕ) (g : Stage) → Sits s u held g → Chained s.layout s.words u es g → Chained s.layout s'.words u es g
    their_chain held Idle f ch = both_same (view_of s u) (view_of s' u) (head_in s.layout u) es agree ch
    their_chain held (Dying w) f ch = both_same (view_of s u) (view_of s' u) (head_in s.layout u) es agree ch
    their_chain held Reaped f ch = both_same (view_of s u) (view_of s' u) (head_in s.layout u) es agree ch
    their_chain held (AtCondition d q) f ch = by_phase q.phase ch
      where
        by_phase : (h : CondPhase) → ChainedAt (view_of s u) (head_in s.layout u) q.entry es h → ChainedAt (view_of s' u) (head_in s.layout u) q.entry es h
        by_phase (CondPhase.AtWords r) ch = both_same (view_of s u) (view_of s' u) (head_in s.layout u) es agree ch
        by_phase (CondPhase.Announcing x) ch = both_same (view_of s u) (view_of s' u) (head_in s.layout u) es agree ch
        by_phase (CondPhase.Unlinking v x) ch = right.others (head_in s.layout u) q.entry es v.row (view_of s u) (view_of s' u) agree ch
        by_phase (CondPhase.Locking v) ch = both_same (view_of s u) (view_of s' u) (head_in s.layout u) es agree ch
        by_phase (CondPhase.Ended x) ch = both_same (view_of s u) (view_of s' u) (head_in s.layout u) es agree ch
    their_chain held (Calling d q) (f, serves) ch = by_phase q.phase f.stands ch
      where
        by_phase : (h : Phase) → InPhase u held q h (seen s (mutex_of s.layout d)) → ChainedIn (view_of s u) (head_in s.layout u) q.entry es h → ChainedIn (view_of s' u) (head_in s.layout u) q.entry es h
        by_phase (Announcing r) a ch = both_same (view_of s u) (view_of s' u) (head_in s.layout u) es agree ch
        by_phase (AtCell r) a ch = both_same (view_of s u) (view_of s' u) (head_in s.layout u) es agree ch
        by_phase (Linking l x) a ch = links.others (head_in s.layout u) q.entry es l.row (view_of s u) (view_of s' u) (agree_more q.entry (mutex_of s.layout d) f.inside f.entry a.3) ch
        by_phase (Unlinking v x) a ch = right.others (head_in s.layout u) q.entry es v.row (view_of s u) (view_of s' u) agree ch
        by_phase (Clearing x) a ch = both_same (view_of s u) (view_of s' u) (head_in s.layout u) es agree ch
        by_phase (Ended x) a ch = absurd a

  -- ---- the lists of threads that died

  module _ (u : ℕ) (first : 1 ≤ u) (most : u ≤ s.layout.threads) (apart : t ≢ u) where
    -- the word that is being treated is still as it was seen, but that WAITERS may be set
    still_waits : (v at k : ℕ) (again : Bool) → Treats s u at k → (seen s k).owner ≡ Some u → OnlyWaits v again (s.words (place_in s.layout u at)) → OnlyWaits v again (s'.words (place_in s.layout u at))
    still_waits v at k again treats own only =
        let place = treated_at s u inv.layout first most at k treats in
        subst (λ (x : ℕ). OnlyWaits v again (s'.words x)) (sym place)
        (only_waits_on v again (s.words (cell_place s.layout k)) (s'.words (cell_place s.layout k)) (subst (λ (x : ℕ). OnlyWaits v again (s.words x)) place only) (waits u k first most apart treats.0 own))

    their_walk : (r : walk_row.Row) → exit.Knows u (head_in s.layout u) r → LeftToWalk s u r → LeftToWalk s' u r
    their_walk r knows l =
        left_to_walk_carries s s'.words s'.queues s'.threads u (λ x k below is own. spares u (place_in s.layout u x) first most apart (inr (inr (k, below, inl (ap (place_in s.layout u) is ∙ entry_again s.layout u inv.layout first most k below), own))))
        (spares u (head_place u) first most apart (inl refl)) (spares u (head_place u + 2) first most apart (inr (inl refl)))
        (λ k own. ap (λ (z : Object). z.owner) (keeps_theirs u k apart own) ∙ own) (λ k own. owned_before u k apart own)
        (λ k at v again treats owner only. still_waits v at k again treats (marks_own s u k at v again inv.layout treats first most owner only) only) r knows l

  their_list : (u : ℕ) → 1 ≤ u → u ≤ s.layout.threads → t ≢ u → (held : ℕ) (g : Stage) → Sits s u held g → Listed s u g → Listed s' u g
  their_list u first most apart held Idle f (es, owned, ch) = (es, their_entries u None es apart owned, their_chain u first most apart None es owned held Idle f ch)
  their_list u first most apart held (Calling o p) f (es, owned, ch) = (es, their_entries u (left_out s.layout (Calling o p)) es apart owned, their_chain u first most apart (left_out s.layout (Calling o p)) es owned held (Calling o p) f ch)
  their_list u first most apart held (AtCondition c p) f (es, owned, ch) =
      (es, their_entries u (left_out s.layout (AtCondition c p)) es apart owned, their_chain u first most apart (left_out s.layout (AtCondition c p)) es owned held (AtCondition c p) f ch)
  their_list u first most apart held (Dying w) f l = their_walk u first most apart w.row (knows_at s.layout u w f) l
  their_list u first most apart held Reaped f none = λ k own. none k (owned_before u k apart own)

  -- ---- how many mutexes each thread owns
  count : (u : ℕ) → held_by u (seen s') s.layout.mutexes + one u (seen s m) ≡ held_by u (seen s) s.layout.mutexes + one u (seen s' m)
  count u = held_by-changed u s.layout.mutexes m (seen s) (seen s') inside far

  owns_mine : (x : Option Reply) → Tells t (seen s m) op x (seen s' m) → held_after (s.threads t).held op x ≡ held_by t (seen s') s.layout.mutexes
  owns_mine None same =
      let c = count t in
      let h = inv.held t pos known in
      let as_before : one t (seen s' m) ≡ one t (seen s m) = ap (one t) same in
      let stays : held_after (s.threads t).held op None ≡ (s.threads t).held = unmoved op (s.threads t).held in
      omega arith
  owns_mine (Some x) permits =
      let c = count t in
      let h = inv.held t pos known in
      let within = held_by-owns t s.layout.mutexes m (seen s) inside in
      let moves = mine (seen s m) (seen s' m) t (s.threads t).held op x (omega arith) permits in
      omega arith

  owns_theirs : (u : ℕ) → t ≢ u → (x : Option Reply) → Tells t (seen s m) op x (seen s' m) → held_by u (seen s') s.layout.mutexes ≡ held_by u (seen s) s.layout.mutexes
  owns_theirs u apart None same = let c = count u in let as_before : one u (seen s' m) ≡ one u (seen s m) = ap (one u) same in omega arith
  owns_theirs u apart (Some x) permits = let c = count u in let as_before = others (seen s m) (seen s' m) t u op x apart permits in omega arith

  held' : (u : ℕ) → 1 ≤ u → u ≤ s.layout.threads → (s'.threads u).held ≡ held_by u (seen s') s.layout.mutexes
  held' u first most =
      by_put (λ (z : Thread). z.held ≡ held_by u (seen s') s.layout.mutexes) s.threads t th u
      (λ is. subst (λ (v : ℕ). th.held ≡ held_by v (seen s') s.layout.mutexes) (sym is) (counts ∙ owns_mine point tells))
      (λ apart. inv.held u first most ∙ sym (owns_theirs u (λ e. apart (sym e)) point tells))

  -- it owns 2,048 at most
  few_after : (x : Option Reply) → ((y : Reply) → x ≡ Some y → acquires op ≡ true → (s.threads t).held < 2048) → held_after (s.threads t).held op x ≤ 2048
  few_after None may = let was = (inv.heads t pos known).few in let same = unmoved op (s.threads t).held in omega arith
  few_after (Some y) may = held_few (s.threads t).held op y (inv.heads t pos known).few (may y refl)

  head_after : PendsAs (s'.words (head_place t + 2)) th.stage → (u : ℕ) → 1 ≤ u → u ≤ s.layout.threads → HasHead s' u
  head_after pending u first most = record {
    offset = offsets u first most ∙ (inv.heads u first most).offset;
    pending = by_put (λ (z : Thread). PendsAs (s'.words (head_place u + 2)) z.stage) s.threads t th u
        (λ is. subst (λ (v : ℕ). PendsAs (s'.words (head_place v + 2)) th.stage) (sym is) pending)
        (λ apart. subst (λ (w : ℕ). PendsAs w (s.threads u).stage) (sym (spares u (head_place u + 2) first most (λ e. apart (sym e)) (inr (inl refl)))) (inv.heads u first most).pending);
    few = by_put (λ (z : Thread). z.held ≤ 2048) s.threads t th u (λ is. subst (λ (n : ℕ). n ≤ 2048) (sym counts) (few_after point room)) (λ apart. (inv.heads u first most).few);
  }

  owners' : (k u : ℕ) → (seen s' k).owner ≡ Some u → (1 ≤ u) × (u ≤ s.layout.threads)
  owners' k u own = by_same t u (λ is. (omega (arith, is), omega (arith, is))) (λ apart. inv.owners k u (owned_before u k apart own))

  -- what holds of every state holds then, where it holds of the thread itself and of its mutex
  pub kept_where : Sits s' t th.held th.stage → Listed s' t th.stage → PendsAs (s'.words (head_place t + 2)) th.stage → Sound (seen s' m) → Kept s'
  kept_where sits listed pending sound_here = record {
    layout = inv.layout;
    sits = λ u first most.
        by_put (λ (z : Thread). Sits s' u z.held z.stage) s.threads t th u
        (λ is. subst (λ (v : ℕ). Sits s' v th.held th.stage) (sym is) sits)
        (λ apart. theirs u first most (λ e. apart (sym e)) (s.threads u).held (s.threads u).stage (inv.sits u first most));
    listed = λ u first most.
        by_put (λ (z : Thread). Listed s' u z.stage) s.threads t th u
        (λ is. subst (λ (v : ℕ). Listed s' v th.stage) (sym is) listed)
        (λ apart. their_list u first most (λ e. apart (sym e)) (s.threads u).held (s.threads u).stage (inv.sits u first most) (inv.listed u first most));
    heads = head_after pending;
    sound = λ k. at_or_else (λ (j : ℕ). Sound (seen s' j)) m k sound_here (λ other. subst Sound (sym (far k other)) (inv.sound k));
    owners = owners';
    held = held';
  }
