-- One access of the kernel's walk for a thread that died.
use Rattle.std.proofs.Common.{◌≡◌, ◌≢◌, inl, inr, ⊎_elim, ℕ, ◌+◌, ◌<◌, ◌≤◌, ◌==◌, Bool, true, false, Option, Some, None, List, [], ◌∷◌, refl, sym, ap, ◌∙◌, subst, arith, eqb-true}
use Rattle.std.proofs.Common.{eq-eqb}
use Rattle.protocol.proofs.Vocabulary.{Part, LoadFirst, LoadOffset, LoadPending, LoadNext, LoadWord, Mark, WakeOne, sum_of, OnlyWaits, Access, Answer, Object, changed, word_among}
use Rattle.protocol.proofs.Vocabulary.{answer_at, Leads, Layout', IsLayout, head_place, entry_place, cell_place, Permits, Run, object_of, fresh, fields_of, OK, Sound, Thread}
use Rattle.protocol.proofs.Vocabulary.{Stage, Dying, Reaped, Note, Walked, State, is_valid, is_met, place_met, answer_among, woken_by, walked, has_ended, stage_walked, told_of}
use Rattle.protocol.proofs.Vocabulary.{held_after, seen, if◌then◌else◌, nat_lt, eqb-false, nat_tests, Operation, death_at, mutex_at, Exchanged, Changed, leads-same}
use Rattle.protocol.proofs.Vocabulary.{place_in, words_of}
use Rattle.posixmutex.specs.declared.point.Point.{Point}
use Rattle.memorymap.specs.Chains.{IsAmong}
use Rattle.posixmutex.specs.Objects.{bereaved}
use Rattle.exitwalk.specs.declared.row.Row.{Row}
use Rattle.exitwalk.specs.declared.row.Row.TheVariants.{Ended}
use Rattle.exitwalk.specs.Standings.{Standing}
use Rattle.exitwalk.specs.Steps.{points, Right}
use Rattle.exitwalk.specs.Walks.{Knows, IsGoing, row_access, row_after, point_of, marked_word, goes_on}
use Rattle.exitwalk.proofs.Steps.{steps}
use Rattle.protocol.proofs.Puts.{put-same, put-other, by_put}
use Rattle.protocol.proofs.Kept.{Sits, Left, LeftFrom, LeftIn, Treats, LeftToWalk, Listed, PendsAs, Kept}
use Rattle.protocol.proofs.Places.{mine_is_no_cell, head_is_no_cell, treated_at}
use Rattle.protocol.proofs.Steps.{seen-inside, is_valid-cell, IsNoMove, Transition, done, thread_after, after, IsNoTrim, untrimmed}
use Rattle.protocol.proofs.Frames.{kept_where, marks_own}
use Rattle.protocol.proofs.Walking.{Arrived, OwnsNothing, forward_arrives, next_arrives, goes_on_arrives, looks_arrives}
use Rattle.protocol.proofs.Cases.{some_same}
use Rattle.protocol.proofs.WalksLeft.{left_to_walk_carries}
use Rattle.protocol.proofs.Seeing.{head_in, cell_in, words_in, head_again, entry_again}
use Rattle.mutex.proofs.Addresses.{head_word_again}

-- thread t's walk at a row
abbrev pub walk_of : Layout' → ℕ → Row → Standing
walk_of l t r = record { thread = t; head = head_in l t; row = r }

-- the mutex of a death
abbrev pub or_first : Option ℕ → ℕ
or_first None = 0
or_first (Some m) = m

-- what holds of a thread that was reaped, and of a walk that goes on, holds wherever a walk leads
pub by_walked : (P : Stage → Type 0) (w : Standing) (r : Row) → (r ≡ Ended → P Reaped) → (IsGoing r → P (Dying (record w { row = r }))) → P (stage_walked w r)
by_walked P w r gone on = grind (arith)

-- where a walk has come, its thread has what is left
pub listed_walk : (s : State) (t : ℕ) (w : Standing) (r : Row) → Arrived s t r → Listed s t (stage_walked w r)
listed_walk s t w r l = grind (arith)

-- and sits rightly
pub sits_walk : (s : State) (t held : ℕ) (r q : Row) → Knows t (head_in s.layout t) q → Sits s t held (stage_walked (walk_of s.layout t r) q)
sits_walk s t held r q knows = by_walked (Sits s t held) (walk_of s.layout t r) q (λ ended. tt) (λ going. record { mine = refl; head = refl; going = going; knows = knows })

-- nothing pends for a thread that died
pub pends_walk : (x : ℕ) (w : Standing) (r : Row) → PendsAs x (stage_walked w r)
pends_walk x w r = by_walked (PendsAs x) w r (λ ended. tt) (λ going. tt)

-- where a walk has come, in another state
arrived_by : (s s' : State) (t : ℕ) (r : Row) → (OwnsNothing s t → OwnsNothing s' t) → (LeftToWalk s t r → LeftToWalk s' t r) → Arrived s t r → Arrived s' t r
arrived_by s s' t r gone on a = grind (arith)

-- the mutex at a cell is found
pub mutex_at-cell : (l : Layout') (k : ℕ) → k < l.mutexes → mutex_at l (cell_place l k) ≡ Some k
mutex_at-cell l k inside = grind (arith)

-- ---- one access

-- no access of a walk is a trim
walk_no_trim : (h : ℕ) (r : Row) → IsNoTrim (row_access h r)
walk_no_trim h r = grind (arith)

pub walk_word : (h : ℕ) (r : Row) (w : ℕ) (q : List ℕ) → word_among (row_access h r) w q ≡ changed (row_access h r) w
walk_word h r w q = untrimmed (row_access h r) w q (walk_no_trim h r)

module _ (s : State) (t : ℕ) (r : Row) (inv : Kept s) (pos : 1 ≤ t) (known : t ≤ s.layout.threads) where
  abbrev a : Access
  a = row_access (head_in s.layout t) r

  abbrev at : ℕ
  at = place_met s.layout t a

  -- an access that writes nothing and is answered so, after which the walk is at row q
  module _ (q : Row) (death : Option ℕ) (th : Thread) (th_is : th ≡ record { stage = stage_walked (walk_of s.layout t r) q; held = held_after (s.threads t).held Operation.Death (told_of death) }) where
    abbrev s' : State
    s' = done s t a th

    -- no word changes
    pub read_words : (changed a (s.words at) ≡ s.words at) → (x : ℕ) → s'.words x ≡ s.words x
    read_words reads x = by_put (λ v. v ≡ s.words x) s.words at (word_among a (s.words at) (s.queues at)) x (λ is. walk_word (head_in s.layout t) r (s.words at) (s.queues at) ∙ reads ∙ ap s.words (sym is)) (λ apart. refl)

    pub reads_seen : (changed a (s.words at) ≡ s.words at) → (k : ℕ) → seen s' k ≡ seen s k
    reads_seen reads k = ap (λ (v : ℕ). if nat_lt k s.layout.mutexes then object_of (fields_of v) else fresh) (read_words reads (cell_place s.layout k))

    arrives_still : (changed a (s.words at) ≡ s.words at) → Knows t (head_in s.layout t) q → Arrived s t q → Arrived s' t q
    arrives_still reads knows =
        arrived_by s s' t q (λ none k below own. none k below (sym (ap (λ (o : Object). o.owner) (reads_seen reads k)) ∙ own))
        (left_to_walk_carries s s'.words s'.queues s'.threads t (λ x k below is own. read_words reads (place_in s.layout t x)) (read_words reads (head_place t)) (read_words reads (head_place t + 2))
        (λ k own. ap (λ (o : Object). o.owner) (reads_seen reads k) ∙ own) (λ k own. sym (ap (λ (o : Object). o.owner) (reads_seen reads k)) ∙ own)
        (λ k at v again treats owner only. subst (OnlyWaits v again) (sym (read_words reads (place_in s.layout t at))) only) q knows)

    pub reads_kept : death ≡ None → (changed a (s.words at) ≡ s.words at) → Knows t (head_in s.layout t) q → Arrived s t q → Kept s'
    reads_kept none reads knows arrived =
        kept_where s t 0 a th Operation.Death None inv pos known (let some = inv.layout.mutexes.0 in omega arith)
        (λ k apart. reads_seen reads k) (reads_seen reads 0)
        (ap (λ (z : Thread). z.held) th_is ∙ ap (λ (d : Option ℕ). held_after (s.threads t).held Operation.Death (told_of d)) none)
        (λ x e takes. absurd (cc takes))
        (λ u first most. read_words reads (head_place u + 1))
        (λ u x first most apart mine. read_words reads x)
        (λ u k first most apart inside own. inl (read_words reads (cell_place s.layout k)))
        (subst (λ (z : Thread). Sits s' t z.held z.stage) (sym th_is) (sits_walk s' t _ r q knows))
        (subst (λ (z : Thread). Listed s' t z.stage) (sym th_is) (listed_walk s' t (walk_of s.layout t r) q (arrives_still reads knows arrived)))
        (subst (λ (z : Thread). PendsAs (s'.words (head_place t + 2)) z.stage) (sym th_is) (pends_walk _ (walk_of s.layout t r) q))
        (subst Sound (sym (reads_seen reads 0)) (inv.sound 0))

  -- the exchange that marks a word that is as it was seen: the owner's death
  module _ (place k v : ℕ) (again : Bool) (rest : Part) (is : r ≡ Mark place v again rest) (treats : Treats s t place k) (l : LeftIn s t rest (Some k)) (only : OnlyWaits v again (s.words (place_in s.layout t place))) (met : s.words (place_in s.layout t place) ≡ v) (knows : Knows t (head_in s.layout t) r)
      (q : Row) (th : Thread) (th_is : th ≡ record { stage = stage_walked (walk_of s.layout t r) q; held = held_after (s.threads t).held Operation.Death (Some OK) }) where
    abbrev after_mark : State
    after_mark = done s t a th

    at_is : at ≡ place_in s.layout t place
    at_is = ap (λ (z : Row). place_met s.layout t (row_access (head_in s.layout t) z)) is

    at_cell : at ≡ cell_place s.layout k
    at_cell = at_is ∙ treated_at s t inv.layout pos known place k treats

    knows_mark : Knows t (head_in s.layout t) (Mark place v again rest)
    knows_mark = subst (Knows t (head_in s.layout t)) is knows

    own : (seen s k).owner ≡ Some t
    own = marks_own s t k place v again inv.layout treats pos known knows_mark.0 only

    elsewhere : (x : ℕ) → x ≢ cell_place s.layout k → after_mark.words x ≡ s.words x
    elsewhere x apart = put-other s.words at (word_among a (s.words at) (s.queues at)) x (λ e. apart (e ∙ at_cell))

    law : Right t r (answer_at a (s.words at)) (s.words at) (changed a (s.words at))
    law = steps.right t (head_in s.layout t) (s.words at) r pos (subst IsGoing (sym is) tt) knows

    answered : answer_at a (s.words at) ≡ Exchanged
    answered = ap (λ (z : Row). answer_at (row_access (head_in s.layout t) z) (s.words at)) is ∙ ap (λ (b : Bool). if b then Exchanged else Changed (s.words at)) (eq-eqb (s.words at) v (ap s.words at_is ∙ met))

    pub told : point_of t r (answer_at a (s.words at)) ≡ Some (record { thread = t; at = place; operation = Operation.Death; reply = OK })
    told = ap (point_of t r) answered ∙ ap (λ (z : Row). point_of t z Exchanged) is

    here : seen after_mark k ≡ object_of (fields_of (changed a (s.words at)))
    here = seen-inside after_mark k treats.0 ∙ ap (λ (x : ℕ). object_of (fields_of (after_mark.words x))) (sym at_cell) ∙ ap (λ (x : ℕ). object_of (fields_of x)) (put-same s.words at (word_among a (s.words at) (s.queues at)) ∙ walk_word (head_in s.layout t) r (s.words at) (s.queues at))

    before : seen s k ≡ object_of (fields_of (s.words at))
    before = seen-inside s k treats.0 ∙ ap (λ (x : ℕ). object_of (fields_of (s.words x))) (sym at_cell)

    pub dies : Permits (seen s k) t Operation.Death OK (seen after_mark k)
    dies =
        let run : Run (object_of (fields_of (s.words at))) (record { thread = t; at = place; operation = Operation.Death; reply = OK } ∷ []) (object_of (fields_of (changed a (s.words at)))) =
        subst (λ (p : Option Point). Run (object_of (fields_of (s.words at))) (points p) (object_of (fields_of (changed a (s.words at))))) told law.runs in
        subst (λ (o : Object). Permits o t Operation.Death OK (seen after_mark k)) (sym before) (subst (λ (n : Object). Permits (object_of (fields_of (s.words at))) t Operation.Death OK n) (sym (here ∙ run.2)) run.1)

    pub far : (j : ℕ) → j ≢ k → seen after_mark j ≡ seen s j
    far j apart = ap (λ (x : ℕ). if nat_lt j s.layout.mutexes then object_of (fields_of x) else fresh) (elsewhere (cell_place s.layout j) (λ e. apart (omega (arith, e))))

    freed : (seen after_mark k).owner ≡ None
    freed = ap (λ (o : Object). o.owner) dies.1

    -- nothing but that mutex has changed, and it is treated now
    left_then : (e p : ℕ) (es : List ℕ) → Left s t e p es (Some k) → Left after_mark t e p es None
    left_then e p es x = record {
      leads = leads-same (words_in s.layout t s.words) (words_in s.layout t after_mark.words) (head_in s.layout t) e e es refl
          (λ y among.
          let j = x.entries y among in
          elsewhere (place_in s.layout t y) (mine_is_no_cell s t (place_in s.layout t y) k pos known treats.0 (inr (inr (j.0, j.1, inl (ap (place_in s.layout t) j.2 ∙ entry_again s.layout t inv.layout pos known j.0 j.1), j.3)))))
          x.leads;
      different = x.different;
      entries = λ y among. let j = x.entries y among in (j.0, j.1, j.2, ap (λ (o : Object). o.owner) (far j.0 (λ same. j.4 (ap Some (sym same)))) ∙ j.3, λ e. cc e);
      all = λ j below has.
          let other : j ≢ k = λ same. cc (sym has ∙ ap (λ (i : ℕ). (seen after_mark i).owner) same ∙ freed) in
          ⊎_elim inl (λ more. inr (⊎_elim inl (λ same. absurd (other (sym (some_same k j same)))) more)) (x.all j below (sym (ap (λ (o : Object). o.owner) (far j other)) ∙ has));
      pending = x.pending;
    }

    part_then : (z : Part) → LeftIn s t z (Some k) → LeftIn after_mark t z None
    part_then (Part.List z) (es, x, offset, few) = (es, left_then z.entry z.pending es x, offset, few)
    part_then Part.Pending x = λ j below has.
        let other : j ≢ k = λ same. cc (sym has ∙ ap (λ (i : ℕ). (seen after_mark i).owner) same ∙ freed) in
        absurd (other (sym (some_same k j (x j below (sym (ap (λ (o : Object). o.owner) (far j other)) ∙ has)))))

    mark_arrives : Arrived after_mark t (if (fields_of v).waiters then WakeOne place rest else goes_on (head_in s.layout t) rest)
    mark_arrives = go (fields_of v).waiters
      where
        go : (b : Bool) → Arrived after_mark t (if b then WakeOne place rest else goes_on (head_in s.layout t) rest)
        go true = (k, treats, part_then rest l)
        go false = goes_on_arrives after_mark t inv.layout pos known rest (part_then rest l)

    pub marks_kept : q ≡ (if (fields_of v).waiters then WakeOne place rest else goes_on (head_in s.layout t) rest) → Knows t (head_in s.layout t) q → Kept after_mark
    marks_kept q_is knows_q =
        kept_where s t k a th Operation.Death (Some OK) inv pos known treats.0
        far dies
        (ap (λ (z : Thread). z.held) th_is)
        (λ x e takes. absurd (cc takes))
        (λ u first most. elsewhere (head_place u + 1) (head_is_no_cell s.layout u k 1 first most (omega arith)))
        (λ u x first most apart mine. elsewhere x (mine_is_no_cell s u x k first most treats.0 mine))
        (λ u j first most apart inside has. inl (elsewhere (cell_place s.layout j) (λ e. apart (some_same t u (sym own ∙ ap (λ (i : ℕ). (seen s i).owner) (place_same j e) ∙ has)))))
        (subst (λ (z : Thread). Sits after_mark t z.held z.stage) (sym th_is) (sits_walk after_mark t _ r q knows_q))
        (subst (λ (z : Thread). Listed after_mark t z.stage) (sym th_is) (listed_walk after_mark t (walk_of s.layout t r) q (subst (Arrived after_mark t) (sym q_is) mark_arrives)))
        (subst (λ (z : Thread). PendsAs (after_mark.words (head_place t + 2)) z.stage) (sym th_is) (pends_walk _ (walk_of s.layout t r) q))
        (sound_then (seen after_mark k) freed dies.1)
      where
        place_same : (j : ℕ) → cell_place s.layout j ≡ cell_place s.layout k → k ≡ j
        place_same j e = omega (arith, e)

        sound_then : (n : Object) → n.owner ≡ None → n ≡ bereaved (seen s k) → Sound n
        sound_then n none same = λ unusable. none

-- ---- the walk's access at a row, whatever that is

-- it moves nobody
pub walk_no_move : (h : ℕ) (r : Row) → IsNoMove (row_access h r)
walk_no_move h r = grind (arith)

module _ (s : State) (t : ℕ) (r : Row) where
  abbrev pub walk_access : Access
  walk_access = row_access (head_in s.layout t) r

  abbrev pub walk_answer : Answer
  walk_answer = answer_among walk_access (s.words (place_met s.layout t walk_access)) (s.queues (place_met s.layout t walk_access))

  abbrev pub row_then : Row
  row_then = row_after t (head_in s.layout t) r walk_answer

  abbrev pub death_then : Option ℕ
  death_then = death_at s.layout t (point_of t r walk_answer)

  -- where no death is recorded, any mutex will do
  abbrev pub walk_transition : Transition
  walk_transition = record { from = Dying (walk_of s.layout t r); access = walk_access; next = stage_walked (walk_of s.layout t r) row_then; mutex = or_first death_then; operation = Operation.Death; point = told_of death_then }

  abbrev pub walk_after : State
  walk_after = after s t walk_transition

  abbrev pub walk_note : Note
  walk_note = Walked t death_then (woken_by walk_access (s.words (place_met s.layout t walk_access)) (s.queues (place_met s.layout t walk_access))) (has_ended row_then)

  pub walked-is : is_met s.layout t walk_access ≡ true → walked s t (s.threads t).held (walk_of s.layout t r) ≡ record { state = walk_after; note = walk_note }
  walked-is valid = grind (arith)

-- what a walk's access tells of mutexes: nothing, or an owner's death
abbrev pub DeathTells : State → ℕ → Option ℕ → State → Type 0
DeathTells s t None s' = (k : ℕ) → seen s' k ≡ seen s k
DeathTells s t (Some m) s' = (m < s.layout.mutexes) × Permits (seen s m) t Operation.Death OK (seen s' m) × ((k : ℕ) → k ≢ m → seen s' k ≡ seen s k)

-- one access of a walk: what holds of every state holds then, and what it tells
pub record WalkStep (s : State) (t : ℕ) (r : Row) : Type 0 where
  pub valid : is_valid s.layout (place_met s.layout t (walk_access s t r)) ≡ true
  pub kept : Kept (walk_after s t r)
  pub tells : DeathTells s t (death_then s t r) (walk_after s t r)
  pub place : (k : ℕ) → death_then s t r ≡ Some k → place_met s.layout t (walk_access s t r) ≡ cell_place s.layout k
  -- a walk that told a death where somebody may sleep wakes one next
  pub wakes : (k : ℕ) → death_then s t r ≡ Some k → (fields_of (s.words (cell_place s.layout k))).waiters ≡ true → (rest : Part) × (row_then s t r ≡ WakeOne (cell_in s.layout t k) rest)
  -- and else no word has changed
  pub reads : death_then s t r ≡ None → (x : ℕ) → (walk_after s t r).words x ≡ s.words x

-- its address is valid
place_is_valid : (l : Layout') (p : ℕ) → 1 ≤ p → p < words_of l → is_valid l p ≡ true
place_is_valid l p first inside = grind (arith, nat_tests)

head_is_valid : (l : Layout') (t i : ℕ) → IsLayout l → 1 ≤ t → t ≤ l.threads → i < 3 → is_valid l (place_in l t (sum_of (head_in l t) i)) ≡ true
head_is_valid l t i is pos known few = ap (is_valid l) (head_word_again l t is pos known i few) ∙ place_is_valid l (head_place t + i) (omega arith) (omega arith)

module _ (s : State) (t : ℕ) (inv : Kept s) (pos : 1 ≤ t) (known : t ≤ s.layout.threads) where
  pub walk_valid : (r : Row) → IsGoing r → Knows t (head_in s.layout t) r → LeftToWalk s t r → is_valid s.layout (place_met s.layout t (row_access (head_in s.layout t) r)) ≡ true
  walk_valid LoadFirst going knows l = ap (is_valid s.layout) (head_again s.layout t inv.layout pos known) ∙ place_is_valid s.layout (head_place t) (omega arith) (omega arith)
  walk_valid (LoadOffset f) going knows l = head_is_valid s.layout t 1 inv.layout pos known (omega arith)
  walk_valid (LoadPending f o) going knows l = head_is_valid s.layout t 2 inv.layout pos known (omega arith)
  walk_valid (LoadNext r) going knows (es, l, offset, few) = go es refl
    where
      go : (ds : List ℕ) → es ≡ ds → is_valid s.layout (place_in s.layout t r.entry) ≡ true
      go [] same = absurd (eqb-false r.entry (head_in s.layout t) knows.0 (subst (Leads (words_in s.layout t s.words) (head_in s.layout t) r.entry) same l.leads))
      go (x ∷ xs) same =
          let k = l.entries x (subst (IsAmong x) (sym same) (inl refl)) in
          let leads : Leads (words_in s.layout t s.words) (head_in s.layout t) r.entry (x ∷ xs) = subst (Leads (words_in s.layout t s.words) (head_in s.layout t) r.entry) same l.leads in
          ap (λ (e : ℕ). is_valid s.layout (place_in s.layout t e)) (leads.0 ∙ k.2) ∙ ap (is_valid s.layout) (entry_again s.layout t inv.layout pos known k.0 k.1) ∙ place_is_valid s.layout (entry_place s.layout k.0) (omega arith) (let below = k.1 in omega (arith, below))
  walk_valid (LoadWord place rest) going knows (k, treats, l) = ap (is_valid s.layout) (treated_at s t inv.layout pos known place k treats) ∙ is_valid-cell s.layout k treats.0
  walk_valid (Mark place v again rest) going knows (k, treats, l, only) = ap (is_valid s.layout) (treated_at s t inv.layout pos known place k treats) ∙ is_valid-cell s.layout k treats.0
  walk_valid (WakeOne place rest) going knows (k, treats, l) = ap (is_valid s.layout) (treated_at s t inv.layout pos known place k treats) ∙ is_valid-cell s.layout k treats.0
  walk_valid Ended going knows l = absurd going

  knows_then : (r : Row) → Knows t (head_in s.layout t) r → Knows t (head_in s.layout t) (row_then s t r)
  knows_then r knows = steps.knows t (head_in s.layout t) r (walk_answer s t r) knows

  -- a row that reads, by which no death is recorded
  reads_so : (r : Row) → IsGoing r → Knows t (head_in s.layout t) r → LeftToWalk s t r → death_then s t r ≡ None → changed (walk_access s t r) (s.words (place_met s.layout t (walk_access s t r))) ≡ s.words (place_met s.layout t (walk_access s t r)) → Arrived s t (row_then s t r) → WalkStep s t r
  reads_so r going knows l none reads arrived = record {
    valid = walk_valid r going knows l;
    kept = reads_kept s t r inv pos known (row_then s t r) (death_then s t r) (thread_after s t (walk_transition s t r)) refl none reads (knows_then r knows) arrived;
    tells = subst (λ (d : Option ℕ). DeathTells s t d (walk_after s t r)) (sym none) (reads_seen s t r inv pos known (row_then s t r) (death_then s t r) (thread_after s t (walk_transition s t r)) refl reads);
    place = λ k e. absurd (cc (none, e));
    wakes = λ k e. absurd (cc (none, e));
    reads = λ e. read_words s t r inv pos known (row_then s t r) (death_then s t r) (thread_after s t (walk_transition s t r)) refl reads;
  }

  pub walk_step : (r : Row) → IsGoing r → Knows t (head_in s.layout t) r → LeftToWalk s t r → WalkStep s t r
  walk_step LoadFirst going knows l = reads_so LoadFirst going knows l refl refl (subst (λ (p : ℕ). LeftFrom s t (s.words p)) (sym (head_again s.layout t inv.layout pos known)) l)
  walk_step (LoadOffset f) going knows l = reads_so (LoadOffset f) going knows l refl refl (l, ap s.words (head_word_again s.layout t inv.layout pos known 1 (omega arith)) ∙ (inv.heads t pos known).offset)
  walk_step (LoadPending f o) going knows ((es, l, few), offset) =
      reads_so (LoadPending f o) going knows ((es, l, few), offset) refl refl
      (forward_arrives s t inv.layout pos known (record { entry = f; offset = o; pending = s.words (place_in s.layout t (sum_of (head_in s.layout t) 2)); loaded = 0 }) (es, subst (λ (x : ℕ). Left s t f (s.words x) es None) (sym (head_word_again s.layout t inv.layout pos known 2 (omega arith))) l, offset, omega arith))
  walk_step (LoadNext r) going knows l = reads_so (LoadNext r) going knows l refl refl (next_arrives s t inv.layout pos known r knows l)
  walk_step (LoadWord place rest) going knows (k, treats, l) = reads_so (LoadWord place rest) going knows (k, treats, l) refl refl (looks_arrives s t inv.layout pos known place k false rest treats l (λ e. absurd cc))
  walk_step (Mark place v again rest) going knows (k, treats, l, only) = go (s.words (place_in s.layout t place) == v) refl
    where
      treated : place_in s.layout t place ≡ cell_place s.layout k
      treated = treated_at s t inv.layout pos known place k treats

      -- the answer by whether the word is as it was seen
      answered : (b : Bool) → (s.words (place_in s.layout t place) == v) ≡ b → walk_answer s t (Mark place v again rest) ≡ (if b then Exchanged else Changed (s.words (place_in s.layout t place)))
      answered b e = ap (λ (x : Bool). if x then Exchanged else Changed (s.words (place_in s.layout t place))) e

      go : (b : Bool) → (s.words (place_in s.layout t place) == v) ≡ b → WalkStep s t (Mark place v again rest)
      go true e =
          let met : s.words (place_in s.layout t place) ≡ v = eqb-true (s.words (place_in s.layout t place)) v e in
          let told_so : death_then s t (Mark place v again rest) ≡ Some k = ap (λ (x : Answer). death_at s.layout t (point_of t (Mark place v again rest) x)) (answered true e) ∙ ap (mutex_at s.layout) treated ∙ mutex_at-cell s.layout k treats.0 in
          let th_is : thread_after s t (walk_transition s t (Mark place v again rest)) ≡ record { stage = stage_walked (walk_of s.layout t (Mark place v again rest)) (row_then s t (Mark place v again rest)); held = held_after (s.threads t).held Operation.Death (Some OK) } =
          ap (λ (d : Option ℕ). record { stage = stage_walked (walk_of s.layout t (Mark place v again rest)) (row_then s t (Mark place v again rest)); held = held_after (s.threads t).held Operation.Death (told_of d) }) told_so in
          record {
            valid = walk_valid (Mark place v again rest) going knows (k, treats, l, only);
            kept = marks_kept s t (Mark place v again rest) inv pos known place k v again rest refl treats l only met knows (row_then s t (Mark place v again rest)) (thread_after s t (walk_transition s t (Mark place v again rest))) th_is
                (ap (row_after t (head_in s.layout t) (Mark place v again rest)) (answered true e)) (knows_then (Mark place v again rest) knows);
            tells = subst (λ (d : Option ℕ). DeathTells s t d (walk_after s t (Mark place v again rest))) (sym told_so) (
              treats.0,
              dies s t (Mark place v again rest) inv pos known place k v again rest refl treats l only met knows (row_then s t (Mark place v again rest)) (thread_after s t (walk_transition s t (Mark place v again rest))) th_is,
              far s t (Mark place v again rest) inv pos known place k v again rest refl treats l only met knows (row_then s t (Mark place v again rest)) (thread_after s t (walk_transition s t (Mark place v again rest))) th_is,
            );
            place = λ j is_j. treated ∙ ap (cell_place s.layout) (some_same k j (sym told_so ∙ is_j));
            wakes = λ j is_j set.
                let same : j ≡ k = sym (some_same k j (sym told_so ∙ is_j)) in
                let there : place ≡ cell_in s.layout t j = treats.1 ∙ ap (cell_in s.layout t) (sym same) in
                let waits : (fields_of v).waiters ≡ true = ap (λ (x : ℕ). (fields_of x).waiters) (sym met ∙ ap s.words (treated ∙ ap (cell_place s.layout) (sym same))) ∙ set in
                (rest, ap (row_after t (head_in s.layout t) (Mark place v again rest)) (answered true e) ∙ ap (λ (b : Bool). if b then WakeOne place rest else goes_on (head_in s.layout t) rest) waits ∙ ap (λ (x : ℕ). WakeOne x rest) there);
            reads = λ none. absurd (cc (told_so, none));
          }
      go false e =
          let miss = steps.second t (head_in s.layout t) place v (s.words (place_in s.layout t place)) again rest pos knows only (eqb-false (s.words (place_in s.layout t place)) v e) in
          let row_is : row_then s t (Mark place v again rest) ≡ Mark place (s.words (place_in s.layout t place)) true rest = ap (row_after t (head_in s.layout t) (Mark place v again rest)) (answered false e) ∙ miss.1 in
          reads_so (Mark place v again rest) going knows (k, treats, l, only)
          (ap (λ (x : Answer). death_at s.layout t (point_of t (Mark place v again rest) x)) (answered false e))
          (ap (λ (b : Bool). if b then marked_word v else s.words (place_in s.layout t place)) e)
          (subst (Arrived s t) (sym row_is) (k, treats, l, miss.2))
  walk_step (WakeOne place rest) going knows (k, treats, l) = reads_so (WakeOne place rest) going knows (k, treats, l) refl refl (goes_on_arrives s t inv.layout pos known rest l)
  walk_step Ended going knows l = absurd going
