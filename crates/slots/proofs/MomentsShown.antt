-- What memory shows after several events at one moment.
use Rattle.std.proofs.Common.{◌≡◌, ◌≢◌, ℕ, ◌+◌, ◌%◌, ◌<◌, ◌==◌, Bool, true, false, Option, Some, None, List, [], ◌∷◌, refl, sym, ap, ◌∙◌, arith, eq-eqb}
use Rattle.std.specs.Prelude.{if◌then◌else◌, not, ◌&&◌, ◌||◌, ◌*◌, ◌/◌}
use Rattle.std.proofs.lemmas.Bool.Decides.{nat_tests}
use mathlib.Core.Path.{fun_ext}
use Rattle.lockword.specs.Cells.{Fields, bit, fields_of, word_of, taken}
use Rattle.lockword.specs.Coding.{fields_of-word_of}
use Rattle.memorymap.specs.Layouts.{Layout', cell_place}
use Rattle.mutex.specs.declared.call.Call.TheVariants.{TimedLock}
use Rattle.mutex.specs.Standings.{Whole}
use Rattle.condvar.specs.declared.op.Op.TheVariants.{OnMutex}
use Rattle.protocol.specs.declared.event.Event.TheVariants.{Step, Expire}
use Rattle.protocol.specs.declared.thread.Thread.{Thread}
use Rattle.protocol.specs.declared.thread.Stage.TheVariants.{Calling}
use Rattle.protocol.specs.Machine.{State, put, happens, is_owned, is_unusable, mutex_at}
use Rattle.protocol.proofs.Kept.{last_thread}
use Rattle.protocol.proofs.WalkSteps.{mutex_at-cell}
use Rattle.protocol.proofs.Puts.{by_put, put-same, put-other}
use Rattle.slots.specs.Moments.{GivingUpIsALook, TakesAreTheExchange}
use Rattle.slots.specs.Shown as layer
use Rattle.slots.specs.Shown.{Slots, shown, shown_as, took, turned, turned_by}
use Rattle.slots.specs.Places.{counter_at, is_slot, our_own}
use Rattle.slots.proofs.Trims.{shown_at}
use Rattle.slots.specs.Stands.{at_load}
use Rattle.slots.specs.Words.{taken_word}
use Rattle.slots.specs.Seen.{expires}
use Rattle.slots.specs.Invariant.{fields_at}
use Rattle.slots.proofs.Moments.{stays_at, not_true, s1, first_to, s2, second_to, s3, third_to, all_to, at_load_of, phase_is, pl', at_place', looked, looked_to, taken_state, taken_to, both_to, gives_up, takes, AtLoad}

-- no turn where no word of a mutex changes
same_bits : (a b : Bool) → ((not a && a) || (b && not b)) ≡ false
same_bits true true = refl
same_bits true false = refl
same_bits false true = refl
same_bits false false = refl

took_none : (s : State) (words : ℕ → ℕ) (queues : ℕ → List ℕ) (threads : ℕ → Thread) (k : ℕ) → words (cell_place s.layout k) ≡ s.words (cell_place s.layout k)
    → took s (record { layout = s.layout; words = words; queues = queues; threads = threads }) k ≡ false
took_none s words queues threads k same =
    (λ i. (not (is_owned s k) && not ((fields_of (same i)).owner == 0)) || (is_unusable s k && not (fields_of (same i)).unusable))
    ∙ same_bits (is_owned s k) (is_unusable s k)

no_turn : (s : State) (words : ℕ → ℕ) (queues : ℕ → List ℕ) (threads : ℕ → Thread) (turns : ℕ → ℕ) (k : ℕ) → words (cell_place s.layout k) ≡ s.words (cell_place s.layout k)
    → turned s (record { layout = s.layout; words = words; queues = queues; threads = threads }) turns k ≡ turns k
no_turn s words queues threads turns k same = ap (λ (b : Bool). if b then turns k + 1 else turns k) (took_none s words queues threads k same)

module _ (x : Slots) (t k : ℕ) (p : Whole) (g : AtLoad x.machine t k p) (is : (x.machine.threads t).stage ≡ Calling (OnMutex (TimedLock k)) (stays_at p at_load))
    (some : (fields_at x.machine k).owner ≢ 0) (other : (fields_at x.machine k).owner ≢ t) (usable : (fields_at x.machine k).unusable ≡ false) (waits : (fields_at x.machine k).waiters ≡ true) where
  abbrev gone : State
  gone = s3 x.machine t k p g is some other usable waits

  -- the turns, and the state
  abbrev turns_by : State → State → State → ℕ → ℕ
  turns_by a b c = turned b c (turned a b (turned x.machine a x.turns))

  gives_up_turns : turned_by x.machine (expires t) x.turns ≡ turns_by (s1 x.machine t k p g is some other usable waits) (s2 x.machine t k p g is some other usable waits) gone
  gives_up_turns =
      (λ i. let a : State = first_to x.machine t k p g is some other usable waits i in turned (happens a (Step t)).state (happens (happens a (Step t)).state (Expire t)).state (turned a (happens a (Step t)).state (turned x.machine a x.turns)))
      ∙ (λ i. let b : State = second_to x.machine t k p g is some other usable waits i in turned b (happens b (Expire t)).state (turned (s1 x.machine t k p g is some other usable waits) b (turned x.machine (s1 x.machine t k p g is some other usable waits) x.turns)))
      ∙ ap (turns_by (s1 x.machine t k p g is some other usable waits) (s2 x.machine t k p g is some other usable waits)) (third_to x.machine t k p g is some other usable waits)

  turns_same : (j : ℕ) → turned_by x.machine (expires t) x.turns j ≡ x.turns j
  turns_same j =
      ap (λ (f : ℕ → ℕ). f j) gives_up_turns
      ∙ no_turn (s2 x.machine t k p g is some other usable waits) x.machine.words gone.queues gone.threads (turned (s1 x.machine t k p g is some other usable waits) (s2 x.machine t k p g is some other usable waits) (turned x.machine (s1 x.machine t k p g is some other usable waits) x.turns)) j refl
      ∙ no_turn (s1 x.machine t k p g is some other usable waits) x.machine.words (s2 x.machine t k p g is some other usable waits).queues (s2 x.machine t k p g is some other usable waits).threads (turned x.machine (s1 x.machine t k p g is some other usable waits) x.turns) j refl
      ∙ no_turn x.machine x.machine.words x.machine.queues (s1 x.machine t k p g is some other usable waits).threads x.turns j refl

  look_shown : (q : ℕ) → shown (layer.after x (expires t)) q ≡ shown x q
  look_shown q = λ i. shown (record x { machine = record x.machine { queues = (all_to x.machine t k p g is some other usable waits i).queues; words = (all_to x.machine t k p g is some other usable waits i).words; layout = (all_to x.machine t k p g is some other usable waits i).layout }; turns = (fun_ext turns_same) i }) q

pub gives_up_looks : GivingUpIsALook
gives_up_looks x t k a some other usable waits =
    let p = a.there.0 in
    (look_shown x t k p (at_load_of x.machine t k p a) (a.there.1 ∙ ap (Calling (OnMutex (TimedLock k))) (phase_is p at_load a.there.2)) some other usable waits, (gives_up x.machine t k a some other usable waits).queues)

-- the word taken, as memory shows it with its turn
tests_same : (a b : ℕ) → a ≡ b → (a == 1) ≡ (b == 1)
tests_same a b e = ap (λ (z : ℕ). z == 1) e

taken_shows : (w turns t : ℕ) → (fields_of w).rest ≡ 0
    → word_of (taken (fields_of w) t) + 0 + (turns + 1) * 8589934592 ≡ word_of (taken (fields_of (w + 0 + turns * 8589934592)) t) + 8589934592
taken_shows w turns t room =
    let died : ((w + 0 + turns * 8589934592) / 1073741824 % 2 == 1) ≡ (w / 1073741824 % 2 == 1) = tests_same ((w + 0 + turns * 8589934592) / 1073741824 % 2) (w / 1073741824 % 2) (omega arith) in
    let waits : ((w + 0 + turns * 8589934592) / 2147483648 % 2 == 1) ≡ (w / 2147483648 % 2 == 1) = tests_same ((w + 0 + turns * 8589934592) / 2147483648 % 2) (w / 2147483648 % 2) (omega arith) in
    let lost : ((w + 0 + turns * 8589934592) / 4294967296 % 2 == 1) ≡ (w / 4294967296 % 2 == 1) = tests_same ((w + 0 + turns * 8589934592) / 4294967296 % 2) (w / 4294967296 % 2) (omega arith) in
    let above : (w + 0 + turns * 8589934592) / 8589934592 ≡ turns = omega (arith, room) in
    sums t (bit (w / 1073741824 % 2 == 1) 1073741824) (bit (w / 2147483648 % 2 == 1) 2147483648) (bit (w / 4294967296 % 2 == 1) 4294967296) ((fields_of w).rest) turns room
    ∙ (λ i. t + bit (sym died i) 1073741824 + bit (sym waits i) 2147483648 + bit (sym lost i) 4294967296 + sym above i * 8589934592 + 8589934592)
  where
    sums : (t a b c r n : ℕ) → r ≡ 0 → t + a + b + c + r * 8589934592 + 0 + (n + 1) * 8589934592 ≡ t + a + b + c + n * 8589934592 + 8589934592
    sums t a b c r n none = omega (arith, none)

-- where a place is a mutex's it is its cell's
found_at : (l : Layout') (p j : ℕ) → mutex_at l p ≡ Some j → p ≡ cell_place l j
found_at l p j e = grind (arith, nat_tests)

module _ (x : Slots) (t k : ℕ) (p : Whole) (g : AtLoad x.machine t k p) (is : (x.machine.threads t).stage ≡ Calling (OnMutex (TimedLock k)) (stays_at p at_load)) (none : (fields_at x.machine k).owner ≡ 0) (usable : (fields_at x.machine k).unusable ≡ false)
    (room : (fields_at x.machine k).rest ≡ 0) (cell : is_slot k ≡ false) where
  abbrev s0 : State
  s0 = x.machine

  abbrev at_look : State
  at_look = looked s0 t k p g is none usable

  abbrev at_end : State
  at_end = taken_state s0 t k p g is none usable

  abbrev new_word : ℕ
  new_word = word_of (taken (fields_at s0 k) t)

  place_k : pl' s0 t k p g is none usable ≡ cell_place s0.layout k
  place_k = at_place' s0 t k p g is none usable

  word_then : at_end.words (cell_place s0.layout k) ≡ new_word
  word_then = ap (put s0.words (pl' s0 t k p g is none usable) new_word) (sym place_k) ∙ put-same s0.words (pl' s0 t k p g is none usable) new_word

  words_else : (q : ℕ) → q ≢ cell_place s0.layout k → at_end.words q ≡ s0.words q
  words_else q apart = put-other s0.words (pl' s0 t k p g is none usable) new_word q (λ e. apart (e ∙ place_k))

  turns_are : turned_by s0 (Step t ∷ Step t ∷ []) x.turns ≡ turned at_look at_end (turned s0 at_look x.turns)
  turns_are =
      (λ i. let a : State = looked_to s0 t k p g is none usable i in turned a (happens a (Step t)).state (turned s0 a x.turns))
      ∙ (λ i. turned at_look (taken_to s0 t k p g is none usable i) (turned s0 at_look x.turns))

  -- one turn more, and no other
  took_it : took at_look at_end k ≡ true
  took_it =
      (λ i. (not (not (unowned_before i)) && not (owner_then i)) || (is_unusable at_look k && not (fields_of (at_end.words (cell_place s0.layout k))).unusable))
    where
      unowned_before : ((fields_at s0 k).owner == 0) ≡ true
      unowned_before = eq-eqb (fields_at s0 k).owner 0 none

      small : t < 1073741824
      small = let most = last_thread s0 t g.inv g.known in omega (arith, most)

      owner_is : (fields_of (at_end.words (cell_place s0.layout k))).owner ≡ t
      owner_is = ap (λ (w : ℕ). (fields_of w).owner) word_then ∙ ap (λ (c : Fields). c.owner) (fields_of-word_of (taken (fields_at s0 k) t) small)

      owner_then : ((fields_of (at_end.words (cell_place s0.layout k))).owner == 0) ≡ false
      owner_then = not_true (fields_of (at_end.words (cell_place s0.layout k))).owner 0 (λ e. let pos = g.pos in omega (arith, e, owner_is, pos))

  turn_then : turned_by s0 (Step t ∷ Step t ∷ []) x.turns k ≡ x.turns k + 1
  turn_then =
      ap (λ (f : ℕ → ℕ). f k) turns_are
      ∙ ap (λ (b : Bool). if b then turned s0 at_look x.turns k + 1 else turned s0 at_look x.turns k) took_it
      ∙ ap (λ (n : ℕ). n + 1) (no_turn s0 s0.words s0.queues at_look.threads x.turns k refl)

  turns_else : (j : ℕ) → j ≢ k → turned_by s0 (Step t ∷ Step t ∷ []) x.turns j ≡ x.turns j
  turns_else j apart =
      ap (λ (f : ℕ → ℕ). f j) turns_are
      ∙ no_turn at_look at_end.words at_end.queues at_end.threads (turned s0 at_look x.turns) j (words_else (cell_place s0.layout j) (λ e. apart (omega (arith, e))))
      ∙ no_turn s0 s0.words s0.queues at_look.threads x.turns j refl

  abbrev behind : Slots
  behind = layer.after x (Step t ∷ Step t ∷ [])

  -- what memory shows of a word then
  shown_then : (q : ℕ) → shown behind q ≡ shown_as (record x { turns = turned_by s0 (Step t ∷ Step t ∷ []) x.turns }) (mutex_at s0.layout q) (counter_at s0.layout q) (at_end.words q)
  shown_then q = λ i. shown_as (record x { machine = both_to s0 t k p g is none usable i; turns = turned_by s0 (Step t ∷ Step t ∷ []) x.turns }) (mutex_at (both_to s0 t k p g is none usable i).layout q) (counter_at (both_to s0 t k p g is none usable i).layout q) ((both_to s0 t k p g is none usable i).words q)

  shows_before : shown x (cell_place s0.layout k) ≡ s0.words (cell_place s0.layout k) + 0 + x.turns k * 8589934592
  shows_before = shown_at x k g.inside ∙ ap (λ (b : Bool). s0.words (cell_place s0.layout k) + bit (b && x.awake (our_own k)) 4294967296 + x.turns k * 8589934592) cell

  at_it : shown behind (cell_place s0.layout k) ≡ taken_word (shown x (cell_place s0.layout k)) t
  at_it =
      shown_then (cell_place s0.layout k)
      ∙ (λ i. shown_as (record x { turns = turned_by s0 (Step t ∷ Step t ∷ []) x.turns }) (mutex_at-cell s0.layout k g.inside i) (counter_at s0.layout (cell_place s0.layout k)) (word_then i))
      ∙ (λ i. new_word + bit (cell i && x.awake (our_own k)) 4294967296 + turn_then i * 8589934592)
      ∙ taken_shows (s0.words (cell_place s0.layout k)) (x.turns k) t room
      ∙ ap (λ (v : ℕ). taken_word v t) (sym shows_before)

  elsewhere : (q : ℕ) → q ≢ cell_place s0.layout k → shown behind q ≡ shown x q
  elsewhere q apart = shown_then q ∙ ap (shown_as (record x { turns = turned_by s0 (Step t ∷ Step t ∷ []) x.turns }) (mutex_at s0.layout q) (counter_at s0.layout q)) (words_else q apart) ∙ go (mutex_at s0.layout q) refl (counter_at s0.layout q)
    where
      go : (o : Option ℕ) → mutex_at s0.layout q ≡ o → (c : Option ℕ) → shown_as (record x { turns = turned_by s0 (Step t ∷ Step t ∷ []) x.turns }) o c (s0.words q) ≡ shown_as x o c (s0.words q)
      go (Some j) e c = ap (λ (n : ℕ). s0.words q + bit (is_slot j && x.awake (our_own j)) 4294967296 + n * 8589934592) (turns_else j (λ same. apart (found_at s0.layout q j e ∙ ap (cell_place s0.layout) same)))
      go None e (Some c) = refl
      go None e None = refl

  take_shown : (q : ℕ) → shown behind q ≡ put (shown x) (cell_place s0.layout k) (taken_word (shown x (cell_place s0.layout k)) t) q
  take_shown q = by_put (λ v. shown behind q ≡ v) (shown x) (cell_place s0.layout k) (taken_word (shown x (cell_place s0.layout k)) t) q (λ here. ap (shown behind) here ∙ at_it) (λ apart. elsewhere q apart)

pub takes_the_exchange : TakesAreTheExchange
takes_the_exchange x t k a none usable room cell =
    let p = a.there.0 in
    (take_shown x t k p (at_load_of x.machine t k p a) (a.there.1 ∙ ap (Calling (OnMutex (TimedLock k))) (phase_is p at_load a.there.2)) none usable room cell, (takes x.machine t k a none usable).queues)
