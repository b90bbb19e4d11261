-- What a requeue does to the queues.
use Rattle.std.proofs.Common.{◌≡◌, ◌≢◌, ℕ, suc, ◌+◌, ◌-◌, ◌<◌, ◌≤◌, Bool, true, false, List, [], ◌∷◌, ◌++◌, length, get_or, set, take, drop, refl, sym, ap, ◌∙◌, subst, ◌⊎◌, inl, inr, arith}
use Rattle.std.specs.Prelude.{◌%◌, ◌==◌, AllPairs, Contains, remove, if◌then◌else◌}
use Rattle.std.specs.List.{range_with_len}
use Rattle.std.proofs.lemmas.Bool.Decides.{nat_tests}
use Rattle.std.proofs.lemmas.Bool.{cases_eq}
use Rattle.std.proofs.lemmas.List.{length-set, get_or_default}
use Rattle.std.proofs.lemmas.List.Edits.{length-remove}
use Rattle.std.proofs.lemmas.List.Elements.{All-weaker, All-contains_itself, Contains-append_cases}
use Rattle.std.proofs.lemmas.List.FromFn.{get_or-range_with_len, length-range_with_len}
use Rattle.std.proofs.Math.Seq.{take-append_seam}
use Rattle.buckets.specs.Queues.{Sleepers, queue, StandsNowhere, IsOrderly, Takes, Joins, MovesWithin, MovesTo, Fits}
use Rattle.buckets.proofs.Counting.{Contains-remove}
use Rattle.buckets.proofs.Moves.{contains_take, once_take, none_left}
use Rattle.syscalls.specs.Kernels.{Kernel', bucket_at, queue_in, queue_of, IsKernel, HasBuckets, Wakes, Moves, Requeues}
use Rattle.syscalls.proofs.Buckets.{kernel, at_same, at_other, stands_home, inside}
use Rattle.syscalls.proofs.Changes.{Sound, contains_drop}
use Rattle.syscalls.proofs.Calls.{Taken, here}

same : (k : ℕ) → (k == k) ≡ true
same k = grind (arith, nat_tests)

unequal : (k j : ℕ) → k ≢ j → (k == j) ≡ false
unequal k j ne = grind (arith, nat_tests)

-- ---- buckets of which one or two are changed

-- each of the buckets is in order, has the same room, and has nobody new on another bucket's keys
pub record Changed (bs cs : List Sleepers) : Type 0 where
  pub long : length cs ≡ length bs
  pub orderly : (i : ℕ) → i < length bs → IsOrderly (bucket_at cs i)
  pub capacity : (i : ℕ) → i < length bs → (bucket_at cs i).capacity ≡ (bucket_at bs i).capacity
  pub home : (i k : ℕ) → i < length bs → k % length bs ≢ i → queue (bucket_at cs i) k ≡ queue (bucket_at bs i) k

changed : (n : ℕ) (hs : List ℕ) (bs cs : List Sleepers) → HasBuckets (kernel n hs bs) → Changed bs cs → HasBuckets (kernel n hs cs)
changed n hs bs cs has c = record {
  count = c.long ∙ has.count;
  orderly = λ i lt. c.orderly i (below i lt);
  room = λ i lt. c.capacity i (below i lt) ∙ has.room i (below i lt);
  home = λ i k lt ne. let away = subst (λ (m : ℕ). k % m ≢ i) c.long ne in c.home i k (below i lt) away ∙ has.home i k (below i lt) away;
}
  where
    below : (i : ℕ) → i < length cs → i < length bs
    below i lt = let len = c.long in omega arith

-- ---- who stands after a move

-- those moved was on the one key
pub moved_from : (old new : Kernel') (from m to : ℕ) (moved : List ℕ) (t : ℕ) → Moves old new from m to moved → Contains moved t → Contains (take m (queue_of old from)) t
moved_from old new from m to moved t e c = subst (λ (q : List ℕ). Contains q t) e.firsts c

pub came : (old new : Kernel') (from m to : ℕ) (moved : List ℕ) → IsKernel old → from ≢ to → Moves old new from m to moved → (k t : ℕ) → Contains (queue_of new k) t
    → (Contains (queue_of old k) t × ¬ Contains moved t) ⊎ ((k ≡ to) × Contains moved t)
came old new from m to moved is ne e k t c = go (cases_eq k from) (cases_eq k to)
  where
    stood : Contains moved t → Contains (queue_of old from) t
    stood moves = contains_take m (queue_of old from) t (moved_from old new from m to moved t e moves)

    -- who is on another key wasn't moved
    elsewhere : (j : ℕ) → j ≢ from → Contains (queue_of old j) t → ¬ Contains moved t
    elsewhere j other at moves = other (is.one_queue t j from at (stood moves))

    put : (k ≡ to) → Contains (queue_of old to) t ⊎ Contains moved t → (Contains (queue_of old k) t × ¬ Contains moved t) ⊎ ((k ≡ to) × Contains moved t)
    put same (inl at) = inl (subst (λ (j : ℕ). Contains (queue_of old j) t) (sym same) at, elsewhere to (λ back. ne (sym back)) at)
    put same (inr moves) = inr (same, moves)

    go : (k ≡ from) ⊎ (k ≡ from → ⊥) → (k ≡ to) ⊎ (k ≡ to → ⊥) → (Contains (queue_of old k) t × ¬ Contains moved t) ⊎ ((k ≡ to) × Contains moved t)
    go (inl same) any =
        let left = subst (λ (q : List ℕ). Contains q t) e.left (subst (λ (j : ℕ). Contains (queue_of new j) t) same c) in
        inl (
          subst (λ (j : ℕ). Contains (queue_of old j) t) (sym same) (contains_drop m (queue_of old from) t left),
          (λ moves. none_left m (queue_of old from) t (is.one_place from) (moved_from old new from m to moved t e moves) left),
        )
    go (inr other) (inl same) = put same (Contains-append_cases (queue_of old to) moved t (subst (λ (q : List ℕ). Contains q t) e.joined (subst (λ (j : ℕ). Contains (queue_of new j) t) same c)))
    go (inr other) (inr last) = let at = subst (λ (q : List ℕ). Contains q t) (e.others k other last) c in inl (at, elsewhere k other at)

-- what a kernel is stays through a move
pub sound_moved : (n : ℕ) (hs : List ℕ) (bs cs : List Sleepers) (from m to : ℕ) (moved : List ℕ) → Sound n hs bs → from ≢ to → Changed bs cs → Moves (kernel n hs bs) (kernel n hs cs) from m to moved → Sound n hs cs
sound_moved n hs bs cs from m to moved s ne c e = (
  record {
    first = s.0.first;
    last = s.0.last;
    known = λ k t at. known k t (arrived k t at);
    one_place = λ k. (has.orderly (k % length cs) (inside n hs cs k has)).one_place k;
    one_queue = λ t k j a b. one t k j (arrived k t a) (arrived j t b);
    heads = s.0.heads;
  },
  has,
)
  where
    has : HasBuckets (kernel n hs cs)
    has = changed n hs bs cs s.1 c

    arrived : (k t : ℕ) → Contains (queue_in cs k) t → (Contains (queue_in bs k) t × ¬ Contains moved t) ⊎ ((k ≡ to) × Contains moved t)
    arrived = came (kernel n hs bs) (kernel n hs cs) from m to moved s.0 ne e

    known : (k t : ℕ) → (Contains (queue_in bs k) t × ¬ Contains moved t) ⊎ ((k ≡ to) × Contains moved t) → (1 ≤ t) × (t ≤ n)
    known k t (inl old) = s.0.known k t old.0
    known k t (inr moves) = s.0.known from t (contains_take m (queue_in bs from) t (moved_from (kernel n hs bs) (kernel n hs cs) from m to moved t e moves.1))

    one : (t k j : ℕ) → (Contains (queue_in bs k) t × ¬ Contains moved t) ⊎ ((k ≡ to) × Contains moved t) → (Contains (queue_in bs j) t × ¬ Contains moved t) ⊎ ((j ≡ to) × Contains moved t) → k ≡ j
    one t k j (inl a) (inl b) = s.0.one_queue t k j a.0 b.0
    one t k j (inr a) (inr b) = a.0 ∙ sym b.0
    one t k j (inl a) (inr b) = absurd (a.1 b.1)
    one t k j (inr a) (inl b) = absurd (b.1 a.1)

-- ---- where the two words have their buckets

-- what holds of one place, and of each other place, holds of all
each : (P : ℕ → Type 0) (i j : ℕ) → P i → (j ≢ i → P j) → P j
each P i j here there = go (cases_eq j i)
  where
    go : (j ≡ i) ⊎ (j ≡ i → ⊥) → P j
    go (inl same) = subst P (sym same) here
    go (inr ne) = there ne

-- a key of another bucket is another key
other_key : (bs : List Sleepers) (i k key : ℕ) → i ≡ key % length bs → k % length bs ≢ i → k ≢ key
other_key bs i k key at ne same = ne (ap (λ j. j % length bs) same ∙ sym at)

-- the queue of a key, by the number of its bucket
queue_by : (bs cs : List Sleepers) (i k : ℕ) → length cs ≡ length bs → i ≡ k % length bs → queue_in cs k ≡ queue (bucket_at cs i) k
queue_by bs cs i k long at = ap (λ (j : ℕ). queue (bucket_at cs j) k) (ap (λ m. k % m) long ∙ sym at)

-- in one bucket
pub changed_one : (n : ℕ) (hs : List ℕ) (bs cs : List Sleepers) (i key m to : ℕ) (moved : List ℕ) → HasBuckets (kernel n hs bs) → length cs ≡ length bs → ((j : ℕ) → j ≢ i → bucket_at cs j ≡ bucket_at bs j)
    → i ≡ key % length bs → i ≡ to % length bs → IsOrderly (bucket_at cs i) → MovesWithin (bucket_at bs i) (bucket_at cs i) key m to moved → Changed bs cs
changed_one n hs bs cs i key m to moved has long others at at_to orderly e = record {
  long = long;
  orderly = λ j lt. each (λ p. IsOrderly (bucket_at cs p)) i j orderly (λ ne. subst IsOrderly (sym (others j ne)) (has.orderly j lt));
  capacity = λ j lt. each (λ p. (bucket_at cs p).capacity ≡ (bucket_at bs p).capacity) i j e.capacity (λ ne. ap (λ (b : Sleepers). b.capacity) (others j ne));
  home = λ j k lt. each (λ p. k % length bs ≢ p → queue (bucket_at cs p) k ≡ queue (bucket_at bs p) k) i j
      (λ away. e.others k (other_key bs i k key at away) (other_key bs i k to at_to away)) (λ ne away. ap (λ (b : Sleepers). queue b k) (others j ne));
}

pub moves_one : (n : ℕ) (hs : List ℕ) (bs cs : List Sleepers) (i key m to : ℕ) (moved : List ℕ) → length cs ≡ length bs → ((j : ℕ) → j ≢ i → bucket_at cs j ≡ bucket_at bs j)
    → i ≡ key % length bs → i ≡ to % length bs → MovesWithin (bucket_at bs i) (bucket_at cs i) key m to moved → Moves (kernel n hs bs) (kernel n hs cs) key m to moved
moves_one n hs bs cs i key m to moved long others at at_to e = record {
  firsts = e.firsts ∙ ap (λ (q : List ℕ). take m q) (sym (queue_by bs bs i key refl at));
  left = queue_by bs cs i key long at ∙ e.left ∙ ap (λ (q : List ℕ). drop m q) (sym (queue_by bs bs i key refl at));
  joined = queue_by bs cs i to long at_to ∙ e.joined ∙ ap (λ (q : List ℕ). q ++ moved) (sym (queue_by bs bs i to refl at_to));
  others = λ k ne last. queue_by bs cs (k % length bs) k long refl
      ∙ each (λ p. queue (bucket_at cs p) k ≡ queue (bucket_at bs p) k) i (k % length bs) (e.others k ne last) (λ away. ap (λ (b : Sleepers). queue b k) (others (k % length bs) away));
  threads = refl;
  heads = refl;
}

-- the same, of the bucket that the call takes from the vector
within_here : (bs : List Sleepers) (i : ℕ) (b c : Sleepers) (key m to : ℕ) (moved : List ℕ) → Taken bs i b → MovesWithin b c key m to moved → MovesWithin (bucket_at bs i) (bucket_at (set bs i c) i) key m to moved
within_here bs i b c key m to moved taken e =
    subst (λ (a : Sleepers). MovesWithin a (bucket_at (set bs i c) i) key m to moved) (sym (here bs i b taken))
    (subst (λ (a : Sleepers). MovesWithin b a key m to moved) (sym (at_same bs i c taken.below)) e)

pub one_moves : (n : ℕ) (hs : List ℕ) (bs : List Sleepers) (i : ℕ) (b c : Sleepers) (key m to : ℕ) (moved : List ℕ) → Taken bs i b → i ≡ key % length bs → i ≡ to % length bs → MovesWithin b c key m to moved
    → Moves (kernel n hs bs) (kernel n hs (set bs i c)) key m to moved
one_moves n hs bs i b c key m to moved taken at at_to e =
    moves_one n hs bs (set bs i c) i key m to moved (length-set bs i c) (λ j ne. at_other bs i j c ne) at at_to (within_here bs i b c key m to moved taken e)

pub sound_one : (n : ℕ) (hs : List ℕ) (bs : List Sleepers) (i : ℕ) (b c : Sleepers) (key m to : ℕ) (moved : List ℕ) → Sound n hs bs → Taken bs i b → i ≡ key % length bs → i ≡ to % length bs → key ≢ to → IsOrderly c → MovesWithin b c key m to moved
    → Sound n hs (set bs i c)
sound_one n hs bs i b c key m to moved s taken at at_to ne orderly e =
    sound_moved n hs bs (set bs i c) key m to moved s ne
    (changed_one n hs bs (set bs i c) i key m to moved s.1 (length-set bs i c) (λ j other. at_other bs i j c other) at at_to (subst IsOrderly (sym (at_same bs i c taken.below)) orderly) (within_here bs i b c key m to moved taken e))
    (one_moves n hs bs i b c key m to moved taken at at_to e)

-- in two buckets
taken_other : (a b : Sleepers) (key m k : ℕ) (moved : List ℕ) → Takes a b key m moved → k ≢ key → queue b k ≡ queue a k
taken_other a b key m k moved e ne = subst (λ (d : Bool). queue b k ≡ (if d then drop m (queue a k) else queue a k)) (unequal k key ne) (e.queues k)

taken_same : (a b : Sleepers) (key m : ℕ) (moved : List ℕ) → Takes a b key m moved → queue b key ≡ drop m (queue a key)
taken_same a b key m moved e = subst (λ (d : Bool). queue b key ≡ (if d then drop m (queue a key) else queue a key)) (same key) (e.queues key)

joined_other : (a b : Sleepers) (to k : ℕ) (moved : List ℕ) → Joins a b moved to → k ≢ to → queue b k ≡ queue a k
joined_other a b to k moved e ne = subst (λ (d : Bool). queue b k ≡ (if d then queue a k ++ moved else queue a k)) (unequal k to ne) (e.queues k)

joined_same : (a b : Sleepers) (to : ℕ) (moved : List ℕ) → Joins a b moved to → queue b to ≡ queue a to ++ moved
joined_same a b to moved e = subst (λ (d : Bool). queue b to ≡ (if d then queue a to ++ moved else queue a to)) (same to) (e.queues to)

pub changed_two : (n : ℕ) (hs : List ℕ) (bs cs : List Sleepers) (i l key m to : ℕ) (moved : List ℕ) → HasBuckets (kernel n hs bs) → length cs ≡ length bs → ((j : ℕ) → j ≢ i → j ≢ l → bucket_at cs j ≡ bucket_at bs j)
    → i ≡ key % length bs → l ≡ to % length bs → IsOrderly (bucket_at cs i) → IsOrderly (bucket_at cs l) → MovesTo (bucket_at bs i) (bucket_at cs i) (bucket_at bs l) (bucket_at cs l) key m to moved → Changed bs cs
changed_two n hs bs cs i l key m to moved has long others at at_to orderly orderly_to e = record {
  long = long;
  orderly = λ j lt. each (λ p. IsOrderly (bucket_at cs p)) i j orderly (λ ne. each (λ p. IsOrderly (bucket_at cs p)) l j orderly_to (λ last. subst IsOrderly (sym (others j ne last)) (has.orderly j lt)));
  capacity = λ j lt. each (λ p. (bucket_at cs p).capacity ≡ (bucket_at bs p).capacity) i j e.leave.capacity
      (λ ne. each (λ p. (bucket_at cs p).capacity ≡ (bucket_at bs p).capacity) l j e.join.capacity (λ last. ap (λ (b : Sleepers). b.capacity) (others j ne last)));
  home = λ j k lt. each (λ p. k % length bs ≢ p → queue (bucket_at cs p) k ≡ queue (bucket_at bs p) k) i j
      (λ away. taken_other (bucket_at bs i) (bucket_at cs i) key m k moved e.leave (other_key bs i k key at away))
      (λ ne. each (λ p. k % length bs ≢ p → queue (bucket_at cs p) k ≡ queue (bucket_at bs p) k) l j
      (λ away. joined_other (bucket_at bs l) (bucket_at cs l) to k moved e.join (other_key bs l k to at_to away))
      (λ last away. ap (λ (b : Sleepers). queue b k) (others j ne last)));
}

pub moves_two : (n : ℕ) (hs : List ℕ) (bs cs : List Sleepers) (i l key m to : ℕ) (moved : List ℕ) → length cs ≡ length bs → ((j : ℕ) → j ≢ i → j ≢ l → bucket_at cs j ≡ bucket_at bs j)
    → i ≡ key % length bs → l ≡ to % length bs → MovesTo (bucket_at bs i) (bucket_at cs i) (bucket_at bs l) (bucket_at cs l) key m to moved → Moves (kernel n hs bs) (kernel n hs cs) key m to moved
moves_two n hs bs cs i l key m to moved long others at at_to e = record {
  firsts = e.leave.firsts ∙ ap (λ (q : List ℕ). take m q) (sym (queue_by bs bs i key refl at));
  left = queue_by bs cs i key long at ∙ taken_same (bucket_at bs i) (bucket_at cs i) key m moved e.leave ∙ ap (λ (q : List ℕ). drop m q) (sym (queue_by bs bs i key refl at));
  joined = queue_by bs cs l to long at_to ∙ joined_same (bucket_at bs l) (bucket_at cs l) to moved e.join ∙ ap (λ (q : List ℕ). q ++ moved) (sym (queue_by bs bs l to refl at_to));
  others = λ k ne last. queue_by bs cs (k % length bs) k long refl
      ∙ each (λ p. queue (bucket_at cs p) k ≡ queue (bucket_at bs p) k) i (k % length bs) (taken_other (bucket_at bs i) (bucket_at cs i) key m k moved e.leave ne)
      (λ away. each (λ p. queue (bucket_at cs p) k ≡ queue (bucket_at bs p) k) l (k % length bs) (joined_other (bucket_at bs l) (bucket_at cs l) to k moved e.join last)
      (λ past. ap (λ (b : Sleepers). queue b k) (others (k % length bs) away past)));
  threads = refl;
  heads = refl;
}

pub sound_two : (n : ℕ) (hs : List ℕ) (bs cs : List Sleepers) (i l key m to : ℕ) (moved : List ℕ) → Sound n hs bs → key ≢ to → length cs ≡ length bs → ((j : ℕ) → j ≢ i → j ≢ l → bucket_at cs j ≡ bucket_at bs j)
    → i ≡ key % length bs → l ≡ to % length bs → IsOrderly (bucket_at cs i) → IsOrderly (bucket_at cs l) → MovesTo (bucket_at bs i) (bucket_at cs i) (bucket_at bs l) (bucket_at cs l) key m to moved → Sound n hs cs
sound_two n hs bs cs i l key m to moved s ne long others at at_to orderly orderly_to e =
    sound_moved n hs bs cs key m to moved s ne (changed_two n hs bs cs i l key m to moved s.1 long others at at_to orderly orderly_to e) (moves_two n hs bs cs i l key m to moved long others at at_to e)

-- the items of a vector, all of which were written
abbrev pub refill : ℕ → List Sleepers → List Sleepers → List Sleepers
refill k bs cs = take k (cs ++ drop (length cs) bs)

pub refilled : (k : ℕ) (bs cs : List Sleepers) → length cs ≡ k → cs ≡ refill k bs cs
refilled k bs cs long = sym (ap (λ j. take j (cs ++ drop (length cs) bs)) (sym long) ∙ take-append_seam cs (drop (length cs) bs))

-- ---- whom another bucket has room for

-- ids without some of them: as many fewer, and all the others
left_over : (ids ts : List ℕ) → AllPairs (λ t u. t ≢ u) ts → ((t : ℕ) → Contains ts t → Contains ids t) → (rest : List ℕ) × (length rest + length ts ≡ length ids) × ((u : ℕ) → Contains ids u → ¬ Contains ts u → Contains rest u)
left_over ids [] once all = (ids, omega arith, λ u c none. c)
left_over ids (t ∷ ts) once all =
    let at = all t (0, omega arith, refl) in
    let len = length-remove ids at.0 at.1 in
    let more = left_over (remove ids at.0) ts later (λ u c. Contains-remove ids at.0 u at.1 (apart at u c) (all u (behind u c))) in
    (more.0, (let fewer = more.1 in omega arith), λ u c none. more.2 u (Contains-remove ids at.0 u at.1 (λ same. none (here at u same)) c) (λ m. none (behind u m)))
  where
    behind : (u : ℕ) → Contains ts u → Contains (t ∷ ts) u
    behind u c = (suc c.0, (let in' = c.1 in omega arith), c.2)

    later : AllPairs (λ t u. t ≢ u) ts
    later i j d lt in' = once (suc i) (suc j) d (omega arith) (omega arith)

    here : (at : Contains ids t) (u : ℕ) → get_or ids at.0 u ≡ u → Contains (t ∷ ts) u
    here at u same = (0, omega arith, sym at.2 ∙ get_or_default ids at.0 t u at.1 ∙ same)

    apart : (at : Contains ids t) (u : ℕ) → Contains ts u → get_or ids at.0 u ≢ u
    apart at u c same = once 0 (suc c.0) u (omega arith) (let in' = c.1 in omega arith) (sym at.2 ∙ get_or_default ids at.0 t u at.1 ∙ same ∙ sym c.2)

among : (n u : ℕ) → 1 ≤ u → u ≤ n → Contains (range_with_len 1 n) u
among n u low high =
    let len = length-range_with_len 1 n in
    let is : 1 + (u - 1) ≡ u = omega arith in
    (u - 1, omega arith, get_or-range_with_len 1 n (u - 1) u (omega arith) ∙ is)

-- the first of a queue fit into another bucket
pub fits_there : (n : ℕ) (hs : List ℕ) (bs : List Sleepers) (i l key m : ℕ) → Sound n hs bs → i ≡ key % length bs → l < length bs → i ≢ l → Fits (bucket_at bs i) (bucket_at bs l) key m
fits_there n hs bs i l key m s at lt ne = record {
  room =
      let few = (s.1.orderly l lt).few rest.0 (λ k u c. rest.2 u (known k u (stands k u c)) (λ moves. apart u moves k c)) in
      let len = length-range_with_len 1 n in
      let cap = s.1.room l lt in
      let sum = rest.1 in
      omega arith;
  awake = All-weaker (Contains firsts) (StandsNowhere (bucket_at bs l)) apart firsts (All-contains_itself firsts);
}
  where
    firsts : List ℕ
    firsts = take m (queue (bucket_at bs i) key)

    stood : (u : ℕ) → Contains (take m (queue (bucket_at bs i) key)) u → Contains (queue_in bs key) u
    stood u c = contains_take m (queue_in bs key) u (subst (λ (j : ℕ). Contains (take m (queue (bucket_at bs j) key)) u) at c)

    stands : (k u : ℕ) → Contains (queue (bucket_at bs l) k) u → Contains (queue_in bs k) u
    stands k u c = (stands_home n hs bs l k u s.1 lt c).1

    known : (k u : ℕ) → Contains (queue_in bs k) u → Contains (range_with_len 1 n) u
    known k u c = let id = s.0.known k u c in among n u id.0 id.1

    apart : (u : ℕ) → Contains (take m (queue (bucket_at bs i) key)) u → StandsNowhere (bucket_at bs l) u
    apart u moves k c =
        let home = stands_home n hs bs l k u s.1 lt c in
        let same = s.0.one_queue u key k (stood u moves) home.1 in
        ne (at ∙ ap (λ j. j % length bs) same ∙ home.0)

    once : AllPairs (λ t u. t ≢ u) (take m (queue (bucket_at bs i) key))
    once = subst (λ (j : ℕ). AllPairs (λ t u. t ≢ u) (take m (queue (bucket_at bs j) key))) (sym at) (once_take m (queue_in bs key) (s.0.one_place key))

    rest : (rest : List ℕ) × (length rest + length (take m (queue (bucket_at bs i) key)) ≡ length (range_with_len 1 n)) × ((u : ℕ) → Contains (range_with_len 1 n) u → ¬ Contains (take m (queue (bucket_at bs i) key)) u → Contains rest u)
    rest = left_over (range_with_len 1 n) (take m (queue (bucket_at bs i) key)) once (λ u c. known key u (stood u c))

-- ---- a wake and then a move

pub requeues : (old mid new : Kernel') (from wake to moves : ℕ) (woken moved : List ℕ) → from ≢ to → Wakes old mid from wake woken → Moves mid new from moves to moved → Requeues old new from wake to moves woken moved
requeues old mid new from wake to moves woken moved ne a b = record {
  firsts = a.firsts;
  next = b.firsts ∙ ap (λ (q : List ℕ). take moves q) rest;
  left = b.left ∙ ap (λ (q : List ℕ). drop moves q) rest;
  joined = b.joined ∙ ap (λ (q : List ℕ). q ++ moved) (stays to (λ same. ne (sym same)));
  others = λ k first last. b.others k first last ∙ stays k first;
  threads = b.threads ∙ a.threads;
  heads = b.heads ∙ a.heads;
}
  where
    rest : queue_of mid from ≡ drop wake (queue_of old from)
    rest = subst (λ (d : Bool). queue_of mid from ≡ (if d then drop wake (queue_of old from) else queue_of old from)) (same from) (a.queues from)

    stays : (k : ℕ) → k ≢ from → queue_of mid k ≡ queue_of old k
    stays k h = subst (λ (d : Bool). queue_of mid k ≡ (if d then drop wake (queue_of old from) else queue_of old k)) (unequal k from h) (a.queues k)
