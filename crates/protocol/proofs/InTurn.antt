-- In each queue threads are in the order in which they came, as the trace tells it, and the front is woken or moved
-- first.
use Rattle.std.proofs.Common.{◌≡◌, ◌≢◌, ⊎_elim, ℕ, ◌%◌, ◌^◌, ◌<◌, ◌≤◌, ◌==◌, Bool, true, false, Option, Some, None, Ok, Err, List, [], ◌∷◌, ◌++◌, map, length, take, drop, refl, sym, ap, ◌∙◌, subst, arith, eq-eqb, eqb-true, append-nil}
use Rattle.protocol.proofs.Vocabulary.{Call, Expired}
use Rattle.protocol.proofs.Vocabulary.{Access, Queue, Mutex, Condition, Fact, Decision, Layout', cell_place, counter_place, sleeps_at, Reply, XHELD, OnMutex, OnCondition, Op, Whole, Event, Note, Stepped}
use Rattle.protocol.proofs.Vocabulary.{mutex_of, condition_of, Walked, Stage, Idle, Calling, AtCondition, Dying, Reaped, facts_of, sleep_facts, moves_to, point_facts, return_facts, death_facts, reap_facts, State, After, start, woken_by, moved_by}
use Rattle.protocol.proofs.Vocabulary.{queue_after, stands_in, begun, decision, slept_in, happens, run, notes, facts_among, if◌then◌else◌, not, slice_index, queue_place, place_in, place_met, joined, put}
use Rattle.std.proofs.lemmas.List.{take-append-drop, append_assoc}
use Rattle.buckets.specs.Queues.{without}
use Rattle.memorymap.specs.Chains.{IsAmong}
use Rattle.facts.specs.declared.fact.Begun.{Begun}
use Rattle.facts.specs.declared.fact.Fact.TheVariants.{Sleep, Wake, Move}
use Rattle.protocol.specs.Machine.{places_of}
use Rattle.protocol.specs.Notes.{refusal_facts}
use Rattle.protocol.specs.Wakings.{IsQueue, is_queue, queues_next, queues_after, nobody, IsFront, NameFronts, NotesFronts, AllNoteFronts}
use Rattle.protocol.specs.Leaves.{NobodyLeaves, FrontsAreWoken}
use Rattle.protocol.specs.Applies.{IsInAQueue}
use Rattle.protocol.proofs.Vocabulary.{Nothing, Began, Killed, Left, Renewed, Reinited}
use Rattle.protocol.proofs.Departures.{asleep_where}
use Rattle.protocol.proofs.Declines.{spared_is}
use Rattle.protocol.proofs.Puts.{put-same, put-other}
use Rattle.protocol.proofs.Cases.{by_same}
use Rattle.protocol.proofs.Kept.{IsFor, Kept}
use Rattle.protocol.proofs.Places.{counter_is_no_cell}
use Rattle.protocol.proofs.Accesses.{fits_in}
use Rattle.protocol.proofs.Steps.{Transition, IsNoMove, moves_none, joined_none, after, place_of, met, met_queue}
use Rattle.protocol.proofs.Stepping.{SleepsAs, Stepping, Moving, Moves_none, Moves_to}
use Rattle.protocol.proofs.Events.{begins_at, by_event, by_stage}
use Rattle.protocol.proofs.Working.{Noted, Of_call, Of_walk, by_step}
use Rattle.protocol.proofs.Queues.{Once, first_stands, stands_append, without_same}
use Rattle.protocol.proofs.Queued.{Queued}
use Rattle.protocol.proofs.QueueRuns.{queued_on, start_queued}
use Rattle.protocol.proofs.Runs.{sound, start_kept}
use Rattle.protocol.proofs.Seeing.{cell_again, counter_again, cell_in, counter_in}
use Rattle.protocol.proofs.Vocabulary.{CondCall}
use Rattle.buckets.specs.Queues.{without}
use Rattle.protocol.proofs.Sparing.{spare_is}
use Rattle.protocol.proofs.Queues.{without_same}

-- ---- queues

this : (n : ℕ) → (n == n) ≡ true
this n = eq-eqb n n refl

is_itself : (q : Queue) → is_queue q q ≡ true
is_itself (Mutex m) = this m
is_itself (Condition k) = this k

is_that : (q r : Queue) → is_queue q r ≡ true → q ≡ r
is_that (Mutex m) (Mutex n) e = ap Mutex (eqb-true m n e)
is_that (Condition k) (Condition j) e = ap Condition (eqb-true k j e)
is_that (Mutex m) (Condition j) e = absurd cc
is_that (Condition k) (Mutex n) e = absurd cc

is_other : (q r : Queue) → is_queue q r ≡ false → q ≢ r
is_other q r e same = cc (sym (ap (is_queue q) same) ∙ is_itself q, e)

-- one queue or another
by_queue : (P : Type 0) (q r : Queue) → (r ≡ q → P) → (r ≢ q → is_queue q r ≡ false → P) → P
by_queue P q r same apart = go (is_queue q r) refl
  where
    go : (b : Bool) → is_queue q r ≡ b → P
    go true e = same (sym (is_that q r e))
    go false e = apart (λ is. is_other q r e (sym is)) e

-- queues of the layout have places of their own
pub same_queue : (l : Layout') (q r : Queue) → IsQueue l q → IsQueue l r → queue_place l q ≡ queue_place l r → q ≡ r
same_queue l q r inside below place = grind (arith)

-- whoever came first and is there once leaves the others
first_leaves : (x : ℕ) (us : List ℕ) → stands_in x us ≡ false → without x (x ∷ us) ≡ us
first_leaves x us out = ap (λ (b : Bool). if not b then x ∷ without x us else without x us) (this x) ∙ without_same x us out

-- ---- facts that tell nothing of sleep

tells_call : (w : Queue → List ℕ) (d : Option Decision) (fs : List Fact) → queues_after w (point_facts d ++ fs) ≡ queues_after w fs
tells_call w None fs = refl
tells_call w (Some d) fs = refl

fronts_call : (l : Layout') (w : Queue → List ℕ) (d : Option Decision) (fs : List Fact) → NameFronts l w fs → NameFronts l w (point_facts d ++ fs)
fronts_call l w None fs h = h
fronts_call l w (Some d) fs h = (tt, h)

tells_death : (w : Queue → List ℕ) (t : ℕ) (d : Option ℕ) (fs : List Fact) → queues_after w (death_facts t d ++ fs) ≡ queues_after w fs
tells_death w t None fs = refl
tells_death w t (Some d) fs = refl

fronts_death : (l : Layout') (w : Queue → List ℕ) (t : ℕ) (d : Option ℕ) (fs : List Fact) → NameFronts l w fs → NameFronts l w (death_facts t d ++ fs)
fronts_death l w t None fs h = h
fronts_death l w t (Some d) fs h = (tt, h)

tells_return : (w : Queue → List ℕ) (t : ℕ) (y : Option Reply) → queues_after w (return_facts t y) ≡ w
tells_return w t None = refl
tells_return w t (Some x) = refl

fronts_return : (l : Layout') (w : Queue → List ℕ) (t : ℕ) (y : Option Reply) → NameFronts l w (return_facts t y)
fronts_return l w t None = tt
fronts_return l w t (Some x) = (tt, tt)

tells_reaping : (w : Queue → List ℕ) (t : ℕ) (y : Bool) → queues_after w (reap_facts t y) ≡ w
tells_reaping w t false = refl
tells_reaping w t true = refl

fronts_reaping : (l : Layout') (w : Queue → List ℕ) (t : ℕ) (y : Bool) → NameFronts l w (reap_facts t y)
fronts_reaping l w t false = tt
fronts_reaping l w t true = (tt, tt)

after-append : (w : Queue → List ℕ) (fs gs : List Fact) → queues_after w (fs ++ gs) ≡ queues_after (queues_after w fs) gs
after-append w [] gs = refl
after-append w (f ∷ fs) gs = after-append (queues_next f w) fs gs

fronts-append : (l : Layout') (w : Queue → List ℕ) (fs gs : List Fact) → NameFronts l w fs → NameFronts l (queues_after w fs) gs → NameFronts l w (fs ++ gs)
fronts-append l w [] gs h k = k
fronts-append l w (f ∷ fs) gs h k = (h.0, fronts-append l (queues_next f w) fs gs h.1 k)

-- ---- wakes, one after the other

-- these stand in front of queue k, once, and in no other queue
pub record Stands (l : Layout') (w : Queue → List ℕ) (k : Queue) (these rest : List ℕ) : Type 0 where
  pub inside : IsQueue l k
  pub there : w k ≡ these ++ rest
  pub once : Once (these ++ rest)
  pub alone : (x : ℕ) → stands_in x these ≡ true → (r : Queue) → r ≢ k → IsQueue l r → stands_in x (w r) ≡ false

-- who stands after the first is there
behind : (x y : ℕ) (xs : List ℕ) → stands_in y xs ≡ true → stands_in y (x ∷ xs) ≡ true
behind x y xs h = go (x == y)
  where
    go : (b : Bool) → (if b then true else stands_in y xs) ≡ true
    go true = refl
    go false = h

-- and is another
is_another : (x y : ℕ) (xs rest : List ℕ) → Once (x ∷ (xs ++ rest)) → stands_in y xs ≡ true → y ≢ x
is_another x y xs rest once h same =
    cc (once.0, stands_append x xs rest ∙ ap (λ (b : Bool). if b then true else stands_in x rest) (sym (ap (λ (z : ℕ). stands_in z xs) same) ∙ h))

pub record Told (l : Layout') (w : Queue → List ℕ) (k : Queue) (rest : List ℕ) (fs : List Fact) : Type 0 where
  pub fronts : NameFronts l w fs
  pub left : queues_after w fs k ≡ rest
  pub others : (r : Queue) → r ≢ k → IsQueue l r → queues_after w fs r ≡ w r

told_wakes : (l : Layout') (k : Queue) (these rest : List ℕ) (w : Queue → List ℕ) → Stands l w k these rest → Told l w k rest (map Wake these)
told_wakes l k [] rest w g = record { fronts = tt; left = g.there; others = λ r apart inside. refl }
told_wakes l k (x ∷ xs) rest w g =
    let stays : (r : Queue) → r ≢ k → IsQueue l r → without x (w r) ≡ w r = (λ r apart inside. without_same x (w r) (g.alone x (first_stands x xs) r apart inside)) in
    let later = told_wakes l k xs rest (queues_next (Wake x) w) (record {
      inside = g.inside;
      there = ap (without x) g.there ∙ first_leaves x (xs ++ rest) g.once.0;
      once = g.once.1;
      alone = λ y h r apart inside. ap (stands_in y) (stays r apart inside) ∙ g.alone y (behind x y xs h) r apart inside;
    }) in
    record {
      fronts = ((k, g.inside, subst (IsFront x) (sym g.there) refl), later.fronts);
      left = later.left;
      others = λ r apart inside. later.others r apart inside ∙ stays r apart inside;
    }

-- ---- moves, one after the other

pub record Carried (l : Layout') (w : Queue → List ℕ) (c m : ℕ) (these rest : List ℕ) (fs : List Fact) : Type 0 where
  pub fronts : NameFronts l w fs
  pub left : queues_after w fs (Condition c) ≡ rest
  pub come : queues_after w fs (Mutex m) ≡ w (Mutex m) ++ these
  pub others : (r : Queue) → r ≢ Condition c → r ≢ Mutex m → IsQueue l r → queues_after w fs r ≡ w r

no_condition : (m c : ℕ) → Mutex m ≡ Condition c → ⊥
no_condition m c e = cc

told_moves : (l : Layout') (c m : ℕ) (these rest : List ℕ) (w : Queue → List ℕ) → slice_index l.conditions c ≡ m → m < l.mutexes → Stands l w (Condition c) these rest → Carried l w c m these rest (map (moves_to m) these)
told_moves l c m [] rest w of inside g = record { fronts = tt; left = g.there; come = sym (append-nil (w (Mutex m))); others = λ r apart other below. refl }
told_moves l c m (x ∷ xs) rest w of inside g =
    let later = told_moves l c m xs rest w' of inside (record {
      inside = g.inside;
      there = ap (without x) g.there ∙ first_leaves x (xs ++ rest) g.once.0;
      once = g.once.1;
      alone = alone';
    }) in
    record {
      fronts = ((c, g.inside, of, subst (IsFront x) (sym g.there) refl), later.fronts);
      left = later.left;
      come = later.come ∙ ap (λ (us : List ℕ). us ++ xs) comes ∙ append_assoc (w (Mutex m)) (x ∷ []) xs;
      others = λ r apart other below. later.others r apart other below ∙ stays r apart other below;
    }
  where
    w' : Queue → List ℕ
    w' = queues_next (Move x m) w

    out : (r : Queue) → r ≢ Condition c → IsQueue l r → without x (w r) ≡ w r
    out r apart below = without_same x (w r) (g.alone x (first_stands x xs) r apart below)

    comes : w' (Mutex m) ≡ w (Mutex m) ++ x ∷ []
    comes = ap (λ (b : Bool). if b then without x (w (Mutex m)) ++ x ∷ [] else without x (w (Mutex m))) (this m) ∙ ap (λ (us : List ℕ). us ++ x ∷ []) (out (Mutex m) (λ e. no_condition m c e) inside)

    stays : (r : Queue) → r ≢ Condition c → r ≢ Mutex m → IsQueue l r → w' r ≡ w r
    stays r apart other below =
        by_queue (w' r ≡ w r) (Mutex m) r (λ is. absurd (other is))
        (λ differs off. ap (λ (b : Bool). if b then without x (w r) ++ x ∷ [] else without x (w r)) off ∙ out r apart below)

    alone' : (y : ℕ) → stands_in y xs ≡ true → (r : Queue) → r ≢ Condition c → IsQueue l r → stands_in y (w' r) ≡ false
    alone' y h r apart below =
        by_queue (stands_in y (w' r) ≡ false) (Mutex m) r
        (λ is. subst (λ (q : Queue). stands_in y (w' q) ≡ false) (sym is)
        (ap (stands_in y) comes ∙ stands_append y (w (Mutex m)) (x ∷ [])
        ∙ ap (λ (b : Bool). if b then true else stands_in y (x ∷ [])) (g.alone y (behind x y xs h) (Mutex m) (λ e. no_condition m c e) inside)
        ∙ not_it))
        (λ differs off. ap (stands_in y) (stays r apart differs below) ∙ g.alone y (behind x y xs h) r apart below)
      where
        not_it : stands_in y (x ∷ []) ≡ false
        not_it = go (x == y) refl
          where
            go : (b : Bool) → (x == y) ≡ b → (if b then true else false) ≡ false
            go true e = absurd (is_another x y xs rest g.once h (sym (eqb-true x y e)))
            go false e = refl

-- ---- an event

-- in each queue of the layout they stand as was recorded
abbrev pub AsTold : Layout' → (ℕ → List ℕ) → (Queue → List ℕ) → Type 0
AsTold l qs w = (q : Queue) → IsQueue l q → qs (queue_place l q) ≡ w q

-- after these facts too, and they name fronts
abbrev pub TellsOn : Layout' → (ℕ → List ℕ) → (Queue → List ℕ) → List Fact → Type 0
TellsOn l qs w fs = AsTold l qs (queues_after w fs) × NameFronts l w fs

-- whoever stands in a queue is in one of the layout's
pub placed : (s : State) (key t : ℕ) → Kept s → Queued s → stands_in t (s.queues key) ≡ true → (q : Queue) × IsQueue s.layout q × (key ≡ queue_place s.layout q)
placed s key t inv queued stands = let slept = queued.sleeps key t stands in go slept.0 slept.1 (s.threads t).stage refl slept.2
  where
    at_one : (o : Op) (p : Whole) → IsFor s.layout o p.operation → mutex_of s.layout o < s.layout.mutexes → IsAmong key (places_of s.layout (Calling o p)) → (q : Queue) × IsQueue s.layout q × (key ≡ queue_place s.layout q)
    at_one (OnMutex c) p of inside among = ⊎_elim (λ e. (Mutex (mutex_of s.layout (OnMutex c)), inside, e)) (λ none. absurd none) among
    at_one (OnCondition c) p of inside among =
        ⊎_elim (λ e. (Mutex (mutex_of s.layout (OnCondition c)), inside, e)) (λ more. ⊎_elim (λ e. (Condition (condition_of c), of.2, e)) (λ none. absurd none) more) among

    go : 1 ≤ t → t ≤ s.layout.threads → (g : Stage) → (s.threads t).stage ≡ g → SleepsAs s.layout key g → (q : Queue) × IsQueue s.layout q × (key ≡ queue_place s.layout q)
    go first last (Calling o p) is h = let fits = fits_in s t o p inv first last is in at_one o p fits.1 fits.0.inside h.1
    go first last Idle is h = absurd h
    go first last (AtCondition c p) is h = absurd h
    go first last (Dying w) is h = absurd h
    go first last Reaped is h = absurd h

module _ (s : State) (inv : Kept s) (queued : Queued s) where
  -- who stands in front of a queue, and where the queues say so it was recorded
  stand_so : (k : Queue) (these rest : List ℕ) (w : Queue → List ℕ) → IsQueue s.layout k → s.queues (queue_place s.layout k) ≡ these ++ rest → AsTold s.layout s.queues w → Stands s.layout w k these rest
  stand_so k these rest w inside is said = record {
    inside = inside;
    there = sym (said k inside) ∙ is;
    once = subst Once is (queued.once (queue_place s.layout k));
    alone = λ x h r apart below. ap (stands_in x) (sym (said r below)) ∙ nowhere x h r apart below (stands_in x (s.queues (queue_place s.layout r))) refl;
  }
    where
      here : (x : ℕ) → stands_in x these ≡ true → stands_in x (s.queues (queue_place s.layout k)) ≡ true
      here x h = ap (stands_in x) is ∙ stands_append x these rest ∙ ap (λ (b : Bool). if b then true else stands_in x rest) h

      nowhere : (x : ℕ) → stands_in x these ≡ true → (r : Queue) → r ≢ k → IsQueue s.layout r → (b : Bool) → stands_in x (s.queues (queue_place s.layout r)) ≡ b → b ≡ false
      nowhere x h r apart below true there = absurd (apart (same_queue s.layout r k below inside (queued.one x (queue_place s.layout r) (queue_place s.layout k) there (here x h))))
      nowhere x h r apart below false there = refl

  -- nothing is recorded, and nothing changes
  tells_none : (qs : ℕ → List ℕ) (w : Queue → List ℕ) → ((key : ℕ) → qs key ≡ s.queues key) → AsTold s.layout s.queues w → TellsOn s.layout qs w []
  tells_none qs w same said = ((λ q inside. same (queue_place s.layout q) ∙ said q inside), tt)

  -- a thread comes to the end of a queue
  tells_sleep : (qs : ℕ → List ℕ) (w : Queue → List ℕ) (t : ℕ) (k : Queue) → IsQueue s.layout k → qs (queue_place s.layout k) ≡ s.queues (queue_place s.layout k) ++ t ∷ [] → ((key : ℕ) → key ≢ queue_place s.layout k → qs key ≡ s.queues key)
      → AsTold s.layout s.queues w → TellsOn s.layout qs w (Sleep t k ∷ [])
  tells_sleep qs w t k inside comes same said = (
    (λ q below. by_queue (qs (queue_place s.layout q) ≡ queues_next (Sleep t k) w q) k q
        (λ is. subst (λ (r : Queue). qs (queue_place s.layout r) ≡ (if is_queue k r then w r ++ t ∷ [] else w r)) (sym is)
        (comes ∙ ap (λ (us : List ℕ). us ++ t ∷ []) (said k inside) ∙ sym (ap (λ (b : Bool). if b then w k ++ t ∷ [] else w k) (is_itself k))))
        (λ apart off. same (queue_place s.layout q) (λ e. apart (same_queue s.layout q k below inside e)) ∙ said q below ∙ sym (ap (λ (b : Bool). if b then w q ++ t ∷ [] else w q) off))),
    (tt, tt),
  )

  -- some are woken
  tells_wakes : (qs : ℕ → List ℕ) (w : Queue → List ℕ) (key : ℕ) (these rest : List ℕ) → s.queues key ≡ these ++ rest → qs key ≡ rest → ((at : ℕ) → at ≢ key → qs at ≡ s.queues at) → AsTold s.layout s.queues w → TellsOn s.layout qs w (map Wake these)
  tells_wakes qs w key [] rest is left same said = tells_none qs w (λ at. by_same at key (λ e. subst (λ (x : ℕ). qs x ≡ s.queues x) (sym e) (left ∙ sym is)) (λ apart. same at apart)) said
  tells_wakes qs w key (x ∷ xs) rest is left same said =
      let there = placed s key x inv queued (ap (stands_in x) is ∙ first_stands x (xs ++ rest)) in
      let k = there.0 in
      let told = told_wakes s.layout k (x ∷ xs) rest w (stand_so k (x ∷ xs) rest w there.1 (ap s.queues (sym there.2) ∙ is) said) in (
        (λ q below. by_queue (qs (queue_place s.layout q) ≡ queues_after w (map Wake (x ∷ xs)) q) k q
            (λ e. subst (λ (r : Queue). qs (queue_place s.layout r) ≡ queues_after w (map Wake (x ∷ xs)) r) (sym e) (ap qs (sym there.2) ∙ left ∙ sym told.left))
            (λ apart off. same (queue_place s.layout q) (λ e. apart (same_queue s.layout q k below there.1 (e ∙ there.2))) ∙ said q below ∙ sym (told.others q apart below))),
        told.fronts,
      )

  -- some are moved from a condition variable's queue to its mutex's
  tells_moves : (qs : ℕ → List ℕ) (w : Queue → List ℕ) (c m : ℕ) (these rest : List ℕ) → c < length s.layout.conditions → slice_index s.layout.conditions c ≡ m → m < s.layout.mutexes → s.queues (counter_place s.layout c) ≡ these ++ rest
      → qs (counter_place s.layout c) ≡ rest → qs (cell_place s.layout m) ≡ s.queues (cell_place s.layout m) ++ these → ((at : ℕ) → at ≢ counter_place s.layout c → at ≢ cell_place s.layout m → qs at ≡ s.queues at)
      → AsTold s.layout s.queues w → TellsOn s.layout qs w (map (moves_to m) these)
  tells_moves qs w c m these rest below of inside is left come same said =
      let told = told_moves s.layout c m these rest w of inside (stand_so (Condition c) these rest w below is said) in (
        (λ q there. by_queue (qs (queue_place s.layout q) ≡ queues_after w (map (moves_to m) these) q) (Condition c) q
            (λ e. subst (λ (r : Queue). qs (queue_place s.layout r) ≡ queues_after w (map (moves_to m) these) r) (sym e) (left ∙ sym told.left))
            (λ apart off. by_queue (qs (queue_place s.layout q) ≡ queues_after w (map (moves_to m) these) q) (Mutex m) q
            (λ e. subst (λ (r : Queue). qs (queue_place s.layout r) ≡ queues_after w (map (moves_to m) these) r) (sym e) (come ∙ ap (λ (us : List ℕ). us ++ these) (said (Mutex m) inside) ∙ sym told.come))
            (λ other nor. same (queue_place s.layout q) (λ e. apart (same_queue s.layout q (Condition c) there below e)) (λ e. other (same_queue s.layout q (Mutex m) there inside e)) ∙ said q there ∙ sym (told.others q apart other there)))),
        told.fronts,
      )

-- ---- an access

-- an access that moves nobody lets its thread sleep, or wakes the first of its queue
data Shape (t : ℕ) (a : Access) (w : ℕ) (q : List ℕ) : Type 0 where
  Joins : sleeps_at a w ≡ true → queue_after t a w q ≡ q ++ t ∷ [] → woken_by a w q ≡ [] → Shape t a w q
  Leaves : (n : ℕ) → sleeps_at a w ≡ false → queue_after t a w q ≡ drop n q → woken_by a w q ≡ take n q → Shape t a w q

shape : (t : ℕ) (a : Access) (w : ℕ) (q : List ℕ) → IsNoMove a → Shape t a w q
shape t (Access.Wait at e) w q none = go (w % 2 ^ 32 == e) refl
  where
    go : (b : Bool) → (w % 2 ^ 32 == e) ≡ b → Shape t (Access.Wait at e) w q
    go true on = Joins on (ap (λ (b : Bool). if b then q ++ t ∷ [] else q) on) refl
    go false quiet = Leaves 0 quiet (ap (λ (b : Bool). if b then q ++ t ∷ [] else q) quiet) refl
shape t (Access.Wake at n) w q none = Leaves n refl refl refl
shape t (Access.Requeue from n to k) w q none = absurd none
shape t (Access.CmpRequeue from e n to k) w q none = absurd none
shape t a w q none = Leaves 0 refl refl refl

-- what an access of a call tells, one thing after the other
told_call : (l : Layout') (qs : ℕ → List ℕ) (w : Queue → List ℕ) (t m : ℕ) (d : Option Decision) (z : Option Queue) (us vs : List ℕ) (y : Option Reply)
    → TellsOn l qs w (sleep_facts t z ++ (map Wake us ++ map (moves_to m) vs)) → TellsOn l qs w (facts_of (Stepped t m d z us vs y))
told_call l qs w t m d z us vs y h = (
  (λ q inside. h.0 q inside ∙ sym (ap (λ (f : Queue → List ℕ). f q) same)),
  fronts_call l w d _ (subst (NameFronts l w) rest (fronts-append l w _ (return_facts t y) h.1 (fronts_return l (queues_after w (sleep_facts t z ++ (map Wake us ++ map (moves_to m) vs))) t y))),
)
  where
    rest : (sleep_facts t z ++ (map Wake us ++ map (moves_to m) vs)) ++ return_facts t y ≡ sleep_facts t z ++ (map Wake us ++ (map (moves_to m) vs ++ return_facts t y))
    rest = append_assoc (sleep_facts t z) (map Wake us ++ map (moves_to m) vs) (return_facts t y) ∙ ap (λ (fs : List Fact). sleep_facts t z ++ fs) (append_assoc (map Wake us) (map (moves_to m) vs) (return_facts t y))

    same : queues_after w (facts_of (Stepped t m d z us vs y)) ≡ queues_after w (sleep_facts t z ++ (map Wake us ++ map (moves_to m) vs))
    same =
        tells_call w d (sleep_facts t z ++ (map Wake us ++ (map (moves_to m) vs ++ return_facts t y))) ∙ ap (queues_after w) (sym rest)
        ∙ after-append w (sleep_facts t z ++ (map Wake us ++ map (moves_to m) vs)) (return_facts t y) ∙ tells_return _ t y

told_walk : (l : Layout') (qs : ℕ → List ℕ) (w : Queue → List ℕ) (t : ℕ) (d : Option ℕ) (us : List ℕ) (y : Bool) → TellsOn l qs w (map Wake us) → TellsOn l qs w (facts_of (Walked t d us y))
told_walk l qs w t d us y h = (
  (λ q inside. h.0 q inside ∙ sym (ap (λ (f : Queue → List ℕ). f q) (tells_death w t d (map Wake us ++ reap_facts t y) ∙ after-append w (map Wake us) (reap_facts t y) ∙ tells_reaping _ t y))),
  fronts_death l w t d _ (fronts-append l w (map Wake us) (reap_facts t y) h.1 (fronts_reaping l (queues_after w (map Wake us)) t y)),
)

module _ (s : State) (u : ℕ) (v : Transition) (g : Stepping s u v) (inv : Kept s) (queued : Queued s) (pos : 1 ≤ u) (known : u ≤ s.layout.threads) (t : Queue → List ℕ) (said : AsTold s.layout s.queues t) where
  abbrev at : ℕ
  at = place_of s u v

  abbrev w : ℕ
  w = met s u v

  abbrev q : List ℕ
  q = met_queue s u v

  abbrev qs : ℕ → List ℕ
  qs = (after s u v).queues

  -- where it moves nobody
  module _ (none : IsNoMove v.access) where
    left : (key : ℕ) → qs key ≡ put s.queues at (queue_after u v.access w q) key
    left key = ap (λ (f : ℕ → List ℕ). f key) (joined_none s.layout u v.access (moved_by v.access w q) (put s.queues at (queue_after u v.access w q)) none)

    others : (key : ℕ) → key ≢ at → qs key ≡ s.queues key
    others key apart = left key ∙ put-other s.queues at (queue_after u v.access w q) key apart

    here : qs at ≡ queue_after u v.access w q
    here = left at ∙ put-same s.queues at (queue_after u v.access w q)

    woken_so : (n : ℕ) → queue_after u v.access w q ≡ drop n q → woken_by v.access w q ≡ take n q → TellsOn s.layout qs t (map Wake (woken_by v.access w q))
    woken_so n leaves woken =
        subst (λ (us : List ℕ). TellsOn s.layout qs t (map Wake us)) (sym woken) (tells_wakes s inv queued qs t at (take n q) (drop n q) (sym (take-append-drop n q)) (here ∙ leaves) others said)

    -- in a call, which would sleep in queue k
    still : (m : ℕ) (k : Queue) → (sleeps_at v.access w ≡ true → (at ≡ queue_place s.layout k) × IsQueue s.layout k)
        → TellsOn s.layout qs t (sleep_facts u (slept_in k (sleeps_at v.access w)) ++ (map Wake (woken_by v.access w q) ++ map (moves_to m) []))
    still m k there = go (shape u v.access w q none)
      where
        go : Shape u v.access w q → TellsOn s.layout qs t (sleep_facts u (slept_in k (sleeps_at v.access w)) ++ (map Wake (woken_by v.access w q) ++ []))
        go (Joins on comes nobody_woken) =
            let is = there on in
            subst (TellsOn s.layout qs t) (sym (λ i. sleep_facts u (slept_in k (on i)) ++ (map Wake (nobody_woken i) ++ [])))
            (tells_sleep s inv queued qs t u k is.1 (ap qs (sym is.0) ∙ here ∙ comes ∙ ap (λ (x : ℕ). s.queues x ++ u ∷ []) is.0) (λ key apart. others key (λ e. apart (e ∙ is.0))) said)
        go (Leaves n quiet leaves woken) =
            subst (TellsOn s.layout qs t) (sym ((λ i. sleep_facts u (slept_in k (quiet i)) ++ (map Wake (woken_by v.access w q) ++ [])) ∙ append-nil (map Wake (woken_by v.access w q)))) (woken_so n leaves woken)

    -- on a walk, which never sleeps
    walking : sleeps_at v.access w ≡ false → TellsOn s.layout qs t (map Wake (woken_by v.access w q))
    walking awake = go (shape u v.access w q none)
      where
        go : Shape u v.access w q → TellsOn s.layout qs t (map Wake (woken_by v.access w q))
        go (Leaves n quiet leaves woken) = woken_so n leaves woken
        go (Joins on comes nobody_woken) = absurd (cc (on, awake))

  -- where it moves from a condition variable's queue to its mutex's
  module _ (c e n : ℕ) (below : c < length s.layout.conditions) (of : slice_index s.layout.conditions c ≡ v.mutex) where
    abbrev from : ℕ
    from = counter_place s.layout c

    abbrev to : ℕ
    to = cell_place s.layout v.mutex

    -- by whether the word at this place is as it is to be
    abbrev leaves : ℕ → Bool → List ℕ
    leaves x b = if b then drop n (drop 0 (s.queues x)) else s.queues x

    abbrev moves : ℕ → Bool → List ℕ
    moves x b = if b then take n (drop 0 (s.queues x)) else []

    abbrev wakes : ℕ → Bool → List ℕ
    wakes x b = if b then take 0 (s.queues x) else []

    abbrev then_left : ℕ → Bool → ℕ → List ℕ
    then_left x b = put s.queues x (leaves x b)

    abbrev then_joined : ℕ → ℕ → Bool → ℕ → List ℕ
    then_joined x y b = put (then_left x b) y (then_left x b y ++ moves x b)

    abbrev Carries : ℕ → ℕ → Bool → Type 0
    Carries x y b = TellsOn s.layout (then_joined x y b) t (map Wake (wakes x b) ++ map (moves_to v.mutex) (moves x b))

    apart : from ≢ to
    apart is = counter_is_no_cell s.layout v.mutex c g.inside is

    carries : (b : Bool) → Carries from to b
    carries true =
        tells_moves s inv queued (then_joined from to true) t c v.mutex (take n (s.queues from)) (drop n (s.queues from)) below of g.inside (sym (take-append-drop n (s.queues from)))
        (put-other (then_left from true) to _ from apart ∙ put-same s.queues from (leaves from true))
        (put-same (then_left from true) to _ ∙ ap (λ (us : List ℕ). us ++ moves from true) (put-other s.queues from (leaves from true) to (λ is. apart (sym is))))
        (λ key off nor. put-other (then_left from true) to _ key nor ∙ put-other s.queues from (leaves from true) key off) said
    carries false = tells_none s inv queued (then_joined from to false) t (λ key. by_same key to (at_to key) (elsewhere key)) said
      where
        as_before : (key : ℕ) → then_left from false key ≡ s.queues key
        as_before key = by_same key from (λ is. subst (λ (x : ℕ). then_left from false x ≡ s.queues x) (sym is) (put-same s.queues from (s.queues from))) (λ off. put-other s.queues from (s.queues from) key off)

        at_to : (key : ℕ) → key ≡ to → then_joined from to false key ≡ s.queues key
        at_to key is = subst (λ (x : ℕ). then_joined from to false x ≡ s.queues x) (sym is) (put-same (then_left from false) to (then_left from false to ++ []) ∙ append-nil (then_left from false to) ∙ as_before to)

        elsewhere : (key : ℕ) → key ≢ to → then_joined from to false key ≡ s.queues key
        elsewhere key off = put-other (then_left from false) to (then_left from false to ++ []) key off ∙ as_before key

    abbrev move : Access
    move = Access.CmpRequeue (counter_in s.layout u c) e 0 (cell_in s.layout u v.mutex) n

    -- of any access: what it does to the queues, and tells
    abbrev Does_so : Queue → Access → Type 0
    Does_so k a =
        TellsOn s.layout (joined s.layout u a (moved_by a (s.words (place_met s.layout u a)) (s.queues (place_met s.layout u a))) (put s.queues (place_met s.layout u a) (queue_after u a (s.words (place_met s.layout u a)) (s.queues (place_met s.layout u a))))) t
        (sleep_facts u (slept_in k (sleeps_at a (s.words (place_met s.layout u a)))) ++ (map Wake (woken_by a (s.words (place_met s.layout u a)) (s.queues (place_met s.layout u a))) ++ map (moves_to v.mutex) (moved_by a (s.words (place_met s.layout u a)) (s.queues (place_met s.layout u a)))))

    moving : (k : Queue) → Does_so k move
    moving k =
        subst (λ (x : ℕ). Carries x (place_in s.layout u (cell_in s.layout u v.mutex)) (s.words x % 2 ^ 32 == e)) (sym (counter_again s.layout u inv.layout pos known c below))
        (subst (λ (y : ℕ). Carries from y (s.words from % 2 ^ 32 == e)) (sym (cell_again s.layout u inv.layout pos known v.mutex g.inside)) (carries (s.words from % 2 ^ 32 == e)))

  step_tells : (n : Note) → Noted s u v n → TellsOn s.layout qs t (facts_of n)
  step_tells n (Of_call k y noted there) =
      subst (λ (z : Note). TellsOn s.layout qs t (facts_of z)) (sym noted)
      (told_call s.layout qs t u v.mutex (decision u v.mutex v.operation v.point) (slept_in k (sleeps_at v.access w)) (woken_by v.access w q) (moved_by v.access w q) y (go g.moving))
    where
      go : Moving s u v → TellsOn s.layout qs t (sleep_facts u (slept_in k (sleeps_at v.access w)) ++ (map Wake (woken_by v.access w q) ++ map (moves_to v.mutex) (moved_by v.access w q)))
      go (Moves_none none) =
          subst (λ (us : List ℕ). TellsOn s.layout qs t (sleep_facts u (slept_in k (sleeps_at v.access w)) ++ (map Wake (woken_by v.access w q) ++ map (moves_to v.mutex) us))) (sym (moves_none v.access w q none)) (still none v.mutex k there)
      go (Moves_to c e m below of shape waits owned) = subst (Does_so c e m below of k) (sym shape) (moving c e m below of k)
  step_tells n (Of_walk d y noted m op point quiet none) =
      subst (λ (z : Note). TellsOn s.layout qs t (facts_of z)) (sym noted) (told_walk s.layout qs t u d (woken_by v.access w q) y (walking none quiet))

-- ---- events

-- all whom a step wakes or moves are fronts
note_fronts : (s : State) (u : ℕ) (v : Transition) (w : Queue → List ℕ) (n : Note) → Noted s u v n → NameFronts s.layout w (facts_of n) → NotesFronts s.layout w n
note_fronts s u v w n (Of_call k y is there) = subst (λ (z : Note). NameFronts s.layout w (facts_of z) → NotesFronts s.layout w z) (sym is) (λ h. h)
note_fronts s u v w n (Of_walk d y is m op point quiet none) = subst (λ (z : Note). NameFronts s.layout w (facts_of z) → NotesFronts s.layout w z) (sym is) (λ h. h)

abbrev Tells : State → (Queue → List ℕ) → After → Type 0
Tells s w z = AsTold s.layout z.state.queues (queues_after w (facts_of z.note)) × NotesFronts s.layout w z.note

refused_tells : (l : Layout') (qs : ℕ → List ℕ) (w : Queue → List ℕ) (t : ℕ) (b : Begun) (x : Option Reply) → AsTold l qs w → TellsOn l qs w (refusal_facts t b x)
refused_tells l qs w t b None said = (said, tt)
refused_tells l qs w t b (Some x) said = (said, (tt, (tt, tt)))

event_tells : (s : State) (e : Event) (w : Queue → List ℕ) → Kept s → Queued s → AsTold s.layout s.queues w → Tells s w (happens s e)
event_tells s e w inv queued said =
    by_event s (λ (x : Event) (z : After). Tells s w z)
    (λ x. (said, tt))
    (λ u o pos known inside idle b full. begins_so u o b)
    (λ u pos known. by_step s u inv pos known (Tells s w) (λ rests. (said, tt)) (λ v n is awake g noted. let told = step_tells s u v g inv queued pos known w said n noted in (told.0, note_fronts s u v w n noted told.1)))
    (λ u pos known alive. ((λ q inside. ap (without u) (said q inside)), (tt, tt)))
    (λ u pos known asleep. ((λ q inside. ap (without u) (said q inside)), leaves_so u (asleep_where s u asleep)))
    (λ u m p pos known is asleep may. ((λ q inside. ap (without u) (said q inside)), expires_so u m p is (fits_in s u (OnMutex (Call.TimedLock m)) p inv pos known is).0.inside (asleep_where s u asleep)))
    (λ u k x p pos known is there. let inside = (fits_in s u (OnCondition (CondCall.TimedWait k x)) p inv pos known is).1.2 in ((λ q within. ap (without u) (said q within)), (inside, ap (stands_in u) (sym (said (Condition k) inside)) ∙ there)))
    (λ u o p pos known is awake trims. subst (Tells s w) (sym (spared_is s u o p is trims inv pos known)) (said, tt))
    (λ u pos known gone. (said, (tt, tt)))
    (λ u m may. (said, (tt, (tt, (tt, tt)))))
    (λ u m g sp. subst (Tells s w) (sym (spare_is s u m g sp inv)) (said, tt))
    e
  where
    begins_so : (u : ℕ) (o : Op) (b : Bool) → Tells s w (begun s u o (if b then Err XHELD else Ok (begins_at s.layout u o)))
    begins_so u o true = (said, (tt, (tt, (tt, tt))))
    begins_so u o false = (said, (tt, tt))

    leaves_so : (u : ℕ) → IsInAQueue s u → (q : Queue) × IsQueue s.layout q × (stands_in u (w q) ≡ true)
    leaves_so u (key, stands) =
        let there = placed s key u inv queued stands in
        (there.0, there.1, ap (stands_in u) (sym (said there.0 there.1)) ∙ (ap (λ (x : ℕ). stands_in u (s.queues x)) (sym there.2) ∙ stands))

    -- whoever is out of time stands in its mutex's queue
    expires_so : (u m : ℕ) (p : Whole) → (s.threads u).stage ≡ Calling (OnMutex (Call.TimedLock m)) p → m < s.layout.mutexes → IsInAQueue s u → (m < s.layout.mutexes) × (stands_in u (w (Mutex m)) ≡ true)
    expires_so u m p is inside (key, stands) =
        let slept : SleepsAs s.layout key (Calling (OnMutex (Call.TimedLock m)) p) = subst (SleepsAs s.layout key) is (queued.sleeps key u stands).2 in
        let here : key ≡ cell_place s.layout m = ⊎_elim (λ e. e) (λ none. absurd none) slept.1 in
        (inside, ap (stands_in u) (sym (said (Mutex m) inside)) ∙ (ap (λ (x : ℕ). stands_in u (s.queues x)) (sym here) ∙ stands))

-- ---- runs

-- after these notes too, and they name fronts
abbrev pub TellsAll : Layout' → (ℕ → List ℕ) → (Queue → List ℕ) → List Note → Type 0
TellsAll l qs w ns = AsTold l qs (queues_after w (facts_among ns)) × AllNoteFronts l w ns

run_tells : (s : State) (es : List Event) (w : Queue → List ℕ) → Kept s → Queued s → AsTold s.layout s.queues w → TellsAll s.layout (run s es).queues w (notes s es)
run_tells s [] w inv queued said = (said, tt)
run_tells s (e ∷ es) w inv queued said =
    let one = event_tells s e w inv queued said in
    let same : (happens s e).state.layout ≡ s.layout = (sound s e inv).same in
    let w' = queues_after w (facts_of (happens s e).note) in
    let more = subst (λ (l : Layout'). TellsAll l (run (happens s e).state es).queues w' (notes (happens s e).state es)) same
    (run_tells (happens s e).state es w' (sound s e inv).kept (queued_on s e inv queued) (subst (λ (l : Layout'). AsTold l (happens s e).state.queues w') (sym same) one.0)) in (
      (λ q inside. more.0 q inside ∙ sym (ap (λ (f : Queue → List ℕ). f q) (after-append w (facts_of (happens s e).note) (facts_among (notes (happens s e).state es))))),
      (one.1, more.1),
    )

pub told_in_turn : (l : Layout') (counters : ℕ → ℕ) (events : List Event) → Kept (start l counters) → TellsAll l (run (start l counters) events).queues nobody (notes (start l counters) events)
told_in_turn l counters events inv = run_tells (start l counters) events nobody inv (start_queued l counters) (λ q inside. refl)

-- ---- runs in which nobody leaves

abbrev IsNoLeave : Note → Type 0
IsNoLeave (Left t) = ⊥
IsNoLeave (Expired t m) = ⊥
IsNoLeave n = Unit {0}

abbrev NoneLeaves : List Note → Type 0
NoneLeaves [] = Unit {0}
NoneLeaves (n ∷ ns) = IsNoLeave n × NoneLeaves ns

abbrev IsNoLeaving : Event → Type 0
IsNoLeaving (Event.Leave t) = ⊥
IsNoLeaving (Event.Expire t) = ⊥
IsNoLeaving e = Unit {0}

no_leave : (s : State) (e : Event) → IsNoLeaving e → IsNoLeave (happens s e).note
no_leave s e =
    by_event s (λ (x : Event) (a : After). IsNoLeaving x → IsNoLeave a.note) (λ x none. tt) (λ u o pos known inside idle b full none. begins_so u o b)
    (λ u pos known none. by_stage s u (λ (a : After). IsNoLeave a.note) (λ rests. tt) (λ o p is awake. tt) (λ c p is awake. tt) (λ v is awake. tt)) (λ u pos known alive none. tt) (λ u pos known asleep none. absurd none) (λ u m p pos known is asleep may none. absurd none) (λ u k x p pos known is there none. absurd none)
    (λ u o p pos known is awake trims none. tt) (λ u pos known gone none. tt) (λ u m may none. tt) (λ u m g sp none. tt) e
  where
    begins_so : (u : ℕ) (o : Op) (b : Bool) → IsNoLeave (begun s u o (if b then Err XHELD else Ok (begins_at s.layout u o))).note
    begins_so u o true = tt
    begins_so u o false = tt

noted_none : (s : State) (es : List Event) → NobodyLeaves es → NoneLeaves (notes s es)
noted_none s [] none = tt
noted_none s (Event.Leave t ∷ es) none = absurd none
noted_none s (Event.Expire t ∷ es) none = absurd none
noted_none s (Event.Begin t o ∷ es) none = (no_leave s (Event.Begin t o) tt, noted_none (happens s (Event.Begin t o)).state es none)
noted_none s (Event.Step t ∷ es) none = (no_leave s (Event.Step t) tt, noted_none (happens s (Event.Step t)).state es none)
noted_none s (Event.Kill t ∷ es) none = (no_leave s (Event.Kill t) tt, noted_none (happens s (Event.Kill t)).state es none)
noted_none s (Event.Decline t ∷ es) none = (no_leave s (Event.Decline t) tt, noted_none (happens s (Event.Decline t)).state es none)
noted_none s (Event.Spare t by ∷ es) none = (no_leave s (Event.Spare t by) tt, noted_none (happens s (Event.Spare t by)).state es none)
noted_none s (Event.Renew t ∷ es) none = (no_leave s (Event.Renew t) tt, noted_none (happens s (Event.Renew t)).state es none)
noted_none s (Event.Remake t m ∷ es) none = (no_leave s (Event.Remake t m) tt, noted_none (happens s (Event.Remake t m)).state es none)

fronts_of : (l : Layout') (w : Queue → List ℕ) (n : Note) → IsNoLeave n → NotesFronts l w n → NameFronts l w (facts_of n)
fronts_of l w (Left t) none h = absurd none
fronts_of l w (Expired t m) none h = absurd none
fronts_of l w Nothing none h = h
fronts_of l w (Began t c x) none h = h
fronts_of l w (Stepped t m d z us vs y) none h = h
fronts_of l w (Killed t) none h = h
fronts_of l w (Renewed t) none h = h
fronts_of l w (Reinited t m) none h = h
fronts_of l w (Walked t d us y) none h = h

all_fronts : (l : Layout') (w : Queue → List ℕ) (ns : List Note) → NoneLeaves ns → AllNoteFronts l w ns → NameFronts l w (facts_among ns)
all_fronts l w [] none h = tt
all_fronts l w (n ∷ ns) none h = fronts-append l w (facts_of n) (facts_among ns) (fronts_of l w n none.0 h.0) (all_fronts l (queues_after w (facts_of n)) ns none.1 h.1)

pub fronts_are_woken : FrontsAreWoken
fronts_are_woken l counters events is none = all_fronts l nobody (notes (start l counters) events) (noted_none (start l counters) events none) (told_in_turn l counters events (start_kept l counters is)).1
