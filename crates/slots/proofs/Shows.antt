-- What memory shows after events that leave AWAKE, SLEPT and turns as they are.
use Rattle.std.proofs.Common.{◌≡◌, ◌≢◌, ℕ, ◌+◌, ◌*◌, ◌<◌, ◌==◌, Bool, true, false, Option, Some, None, refl, sym, ap, ◌∙◌, arith, eqb-true}
use Rattle.std.specs.Prelude.{if◌then◌else◌, not, ◌&&◌, ◌||◌, ◌%◌, bit_and, bit_or, bit_xor}
use Rattle.std.proofs.lemmas.Bool.Decides.{nat_tests}
use Rattle.lockword.specs.Cells.{bit, fields_of}
use Rattle.stepprograms.specs.declared.access.Access.{Access}
use Rattle.stepprograms.specs.Accesses.{address_of, changed}
use Rattle.memorymap.specs.Layouts.{Layout', cell_place, counter_place, place_in}
use Rattle.protocol.specs.Machine.{State, put, is_owned, is_unusable, is_valid, mutex_at, words_after, queues_after}
use Rattle.protocol.proofs.Puts.{by_put, put-same, put-other}
use Rattle.protocol.proofs.WalkSteps.{mutex_at-cell}
use Rattle.slots.specs.Places.{counter_at, is_slot, our_own, slot_of}
use Rattle.slots.specs.Shown.{Slots, shown, shown_as, shown_mutex, turned}

-- ---- places

-- if a place is a mutex's it is its cell's, and the mutex is one of the layout's
pub found_there : (l : Layout') (p j : ℕ) → mutex_at l p ≡ Some j → p ≡ cell_place l j
found_there l p j e = grind (arith, nat_tests)

pub found_inside : (l : Layout') (p j : ℕ) → mutex_at l p ≡ Some j → j < l.mutexes
found_inside l p j e = grind (arith, nat_tests)

pub counter_there : (l : Layout') (p j : ℕ) → counter_at l p ≡ Some j → p ≡ counter_place l j
counter_there l p j e = grind (arith, nat_tests)

pub no_mutex : (l : Layout') (p : ℕ) → ((k : ℕ) → k < l.mutexes → p ≢ cell_place l k) → mutex_at l p ≡ None
no_mutex l p apart = go (mutex_at l p) refl
  where
    go : (o : Option ℕ) → mutex_at l p ≡ o → o ≡ None
    go None e = refl
    go (Some j) e = absurd (apart j (found_inside l p j e) (found_there l p j e))

pub no_counter : (l : Layout') (p : ℕ) → ((k : ℕ) → p ≢ counter_place l k) → counter_at l p ≡ None
no_counter l p apart = go (counter_at l p) refl
  where
    go : (o : Option ℕ) → counter_at l p ≡ o → o ≡ None
    go None e = refl
    go (Some j) e = absurd (apart j (counter_there l p j e))

-- ---- turns

same_bits : (a b : Bool) → ((not a && a) || (b && not b)) ≡ false
same_bits true true = refl
same_bits true false = refl
same_bits false true = refl
same_bits false false = refl

-- a mutex's turn stays while its word stays
pub turn_stays : (s s' : State) (turns : ℕ → ℕ) (k : ℕ) → s'.layout ≡ s.layout → s'.words (cell_place s.layout k) ≡ s.words (cell_place s.layout k) → turned s s' turns k ≡ turns k
turn_stays s s' turns k layout same =
    ap (λ (b : Bool). if b then turns k + 1 else turns k)
    (
    (λ i. (not (is_owned s k) && not ((fields_of (s'.words (cell_place (layout i) k))).owner == 0)) || (is_unusable s k && not (fields_of (s'.words (cell_place (layout i) k))).unusable))
    ∙ (λ i. (not (is_owned s k) && not ((fields_of (same i)).owner == 0)) || (is_unusable s k && not (fields_of (same i)).unusable))
    ∙ same_bits (is_owned s k) (is_unusable s k)
    )

-- ---- what is shown

-- y shows its words as x would
pub record IsLike (x y : Slots) : Type 0 where
  pub layout : y.machine.layout ≡ x.machine.layout
  pub awake : (m : ℕ) → y.awake m ≡ x.awake m
  pub slept : (k : ℕ) → y.slept k ≡ x.slept k
  pub turns : (k : ℕ) → k < x.machine.layout.mutexes → y.turns k ≡ x.turns k

pub shows_like : (x y : Slots) → IsLike x y → (p : ℕ) → shown y p ≡ shown_as x (mutex_at x.machine.layout p) (counter_at x.machine.layout p) (y.machine.words p)
shows_like x y like p = (λ i. shown_as y (mutex_at (like.layout i) p) (counter_at (like.layout i) p) (y.machine.words p)) ∙ go (mutex_at x.machine.layout p) refl (counter_at x.machine.layout p)
  where
    go : (o : Option ℕ) → mutex_at x.machine.layout p ≡ o → (c : Option ℕ) → shown_as y o c (y.machine.words p) ≡ shown_as x o c (y.machine.words p)
    go (Some j) e c = λ i. y.machine.words p + bit (is_slot j && like.awake (our_own j) i) 4294967296 + like.turns j (found_inside x.machine.layout p j e) i * 8589934592
    go None e (Some c) = λ i. y.machine.words p + bit (like.slept c i) 4294967296
    go None e None = refl

-- no word has changed
pub shows_same : (x y : Slots) → IsLike x y → ((p : ℕ) → y.machine.words p ≡ x.machine.words p) → (p : ℕ) → shown y p ≡ shown x p
shows_same x y like same p = shows_like x y like p ∙ ap (shown_as x (mutex_at x.machine.layout p) (counter_at x.machine.layout p)) (same p)

-- one has, which is no mutex's and no counter
pub shows_put : (x y : Slots) (at v : ℕ) → IsLike x y → ((k : ℕ) → k < x.machine.layout.mutexes → at ≢ cell_place x.machine.layout k) → ((k : ℕ) → at ≢ counter_place x.machine.layout k)
    → ((p : ℕ) → y.machine.words p ≡ put x.machine.words at v p) → (p : ℕ) → shown y p ≡ put (shown x) at v p
shows_put x y at v like cells counters same p =
    shows_like x y like p ∙ ap (shown_as x (mutex_at l p) (counter_at l p)) (same p)
    ∙ by_put (λ w. shown_as x (mutex_at l p) (counter_at l p) (put x.machine.words at v p) ≡ w) (shown x) at v p
    (λ here.
    (λ i. shown_as x (mutex_at l (here i)) (counter_at l (here i)) (put x.machine.words at v (here i)))
    ∙ (λ i. shown_as x (no_mutex l at cells i) (no_counter l at counters i) (put x.machine.words at v at))
    ∙ by_put (λ w. w ≡ v) x.machine.words at v at (λ e. refl) (λ e. absurd (e refl)))
    (λ apart. ap (shown_as x (mutex_at l p) (counter_at l p)) (by_put (λ w. w ≡ x.machine.words p) x.machine.words at v p (λ e. absurd (apart e)) (λ e. refl)))
  where
    l : Layout'
    l = x.machine.layout

-- ---- accesses

-- a value put where it is already
pub put_there : {A : Type 0} → (f : ℕ → A) (at : ℕ) (p : ℕ) → put f at (f at) p ≡ f p
put_there f at p = by_put (λ v. v ≡ f p) f at (f at) p (λ is. ap f (sym is)) (λ apart. refl)

pub loads : (s : State) (t at : ℕ) (p : ℕ) → words_after s t (Access.Load at) p ≡ s.words p
loads s t at p = go (is_valid s.layout (place_in s.layout t at))
  where
    go : (b : Bool) → (if b then put s.words (place_in s.layout t at) (s.words (place_in s.layout t at)) else s.words) p ≡ s.words p
    go true = put_there s.words (place_in s.layout t at) p
    go false = refl

pub load_queues : (s : State) (t at : ℕ) (p : ℕ) → queues_after s t (Access.Load at) p ≡ s.queues p
load_queues s t at p = go (is_valid s.layout (place_in s.layout t at))
  where
    go : (b : Bool) → (if b then put s.queues (place_in s.layout t at) (s.queues (place_in s.layout t at)) else s.queues) p ≡ s.queues p
    go true = put_there s.queues (place_in s.layout t at) p
    go false = refl

pub stores : (s : State) (t at v pl : ℕ) → place_in s.layout t at ≡ pl → is_valid s.layout pl ≡ true → (p : ℕ) → words_after s t (Access.Store at v) p ≡ put s.words pl v p
stores s t at v pl place valid p =
    ap (λ (x : ℕ). (if is_valid s.layout x then put s.words x v else s.words) p) place
    ∙ ap (λ (b : Bool). (if b then put s.words pl v else s.words) p) valid

pub store_queues : (s : State) (t at v : ℕ) (p : ℕ) → queues_after s t (Access.Store at v) p ≡ s.queues p
store_queues s t at v p = go (is_valid s.layout (place_in s.layout t at))
  where
    go : (b : Bool) → (if b then put s.queues (place_in s.layout t at) (s.queues (place_in s.layout t at)) else s.queues) p ≡ s.queues p
    go true = put_there s.queues (place_in s.layout t at) p
    go false = refl

-- ---- one mutex's word, flag or turn changes

-- y shows its words as x would, except at mutex k
pub record IsLikeBut (x y : Slots) (k : ℕ) : Type 0 where
  pub layout : y.machine.layout ≡ x.machine.layout
  pub awake : (m : ℕ) → slot_of m ≢ k → y.awake m ≡ x.awake m
  pub slept : (j : ℕ) → y.slept j ≡ x.slept j
  pub turns : (j : ℕ) → j < x.machine.layout.mutexes → j ≢ k → y.turns j ≡ x.turns j

-- a slot is the slot of its own mutex
slot_again : (j : ℕ) → is_slot j ≡ true → slot_of (our_own j) ≡ j
slot_again j e = let odd : j % 2 ≡ 1 = eqb-true (j % 2) 1 e in omega (arith, odd)

other_flag : (x y : Slots) (j k : ℕ) → j ≢ k → ((m : ℕ) → slot_of m ≢ k → y.awake m ≡ x.awake m) → (is_slot j && y.awake (our_own j)) ≡ (is_slot j && x.awake (our_own j))
other_flag x y j k apart awake = go (is_slot j) refl
  where
    go : (b : Bool) → is_slot j ≡ b → (b && y.awake (our_own j)) ≡ (b && x.awake (our_own j))
    go true e = awake (our_own j) (λ same. apart (sym (slot_again j e) ∙ same))
    go false e = refl

pub shows_but : (x y : Slots) (k w : ℕ) → k < x.machine.layout.mutexes → IsLikeBut x y k → ((p : ℕ) → y.machine.words p ≡ put x.machine.words (cell_place x.machine.layout k) w p)
    → (p : ℕ) → shown y p ≡ put (shown x) (cell_place x.machine.layout k) (shown_mutex y k w) p
shows_but x y k w inside like words p =
    by_put (λ v. shown y p ≡ v) (shown x) (cell_place l k) (shown_mutex y k w) p
    (λ here.
    ap (shown y) here
    ∙ (λ i. shown_as y (mutex_at (like.layout i) (cell_place l k)) (counter_at (like.layout i) (cell_place l k)) (y.machine.words (cell_place l k)))
    ∙ (λ i. shown_as y (mutex_at-cell l k inside i) (counter_at l (cell_place l k)) (y.machine.words (cell_place l k)))
    ∙ ap (shown_mutex y k) (words (cell_place l k) ∙ put-same x.machine.words (cell_place l k) w))
    (λ apart.
    (λ i. shown_as y (mutex_at (like.layout i) p) (counter_at (like.layout i) p) (y.machine.words p))
    ∙ ap (shown_as y (mutex_at l p) (counter_at l p)) (words p ∙ put-other x.machine.words (cell_place l k) w p apart)
    ∙ go apart (mutex_at l p) refl (counter_at l p))
  where
    l : Layout'
    l = x.machine.layout

    go : p ≢ cell_place l k → (o : Option ℕ) → mutex_at l p ≡ o → (c : Option ℕ) → shown_as y o c (x.machine.words p) ≡ shown_as x o c (x.machine.words p)
    go apart (Some j) e c =
        let other : j ≢ k = λ same. apart (found_there l p j e ∙ ap (cell_place l) same) in
        λ i. x.machine.words p + bit (other_flag x y j k other like.awake i) 4294967296 + like.turns j (found_inside l p j e) other i * 8589934592
    go apart None e (Some c) = λ i. x.machine.words p + bit (like.slept c i) 4294967296
    go apart None e None = refl

-- what is shown at a mutex's place
pub shown_cell : (x : Slots) (k : ℕ) → k < x.machine.layout.mutexes → shown x (cell_place x.machine.layout k) ≡ shown_mutex x k (x.machine.words (cell_place x.machine.layout k))
shown_cell x k inside = λ i. shown_as x (mutex_at-cell x.machine.layout k inside i) (counter_at x.machine.layout (cell_place x.machine.layout k)) (x.machine.words (cell_place x.machine.layout k))

-- ---- accesses of a word

-- an access that changes its word alone
abbrev pub IsOfWord : Access → Type 0
IsOfWord (Access.Store at v) = Unit {0}
IsOfWord (Access.Exchange at e n) = Unit {0}
IsOfWord (Access.FetchXor at v) = Unit {0}
IsOfWord (Access.FetchOr at v) = Unit {0}
IsOfWord (Access.FetchAnd at v) = Unit {0}
IsOfWord a = ⊥

pub changes : (s : State) (t pl : ℕ) (a : Access) → IsOfWord a → place_in s.layout t (address_of a) ≡ pl → is_valid s.layout pl ≡ true → (p : ℕ) → words_after s t a p ≡ put s.words pl (changed a (s.words pl)) p
changes s t pl a of place valid p = go a of place
  where
    go : (b : Access) → IsOfWord b → place_in s.layout t (address_of b) ≡ pl → words_after s t b p ≡ put s.words pl (changed b (s.words pl)) p
    go (Access.Store at v) of place = (λ i. (if is_valid s.layout (place i) then put s.words (place i) v else s.words) p) ∙ ap (λ (b : Bool). (if b then put s.words pl v else s.words) p) valid
    go (Access.Exchange at e n) of place = (λ i. (if is_valid s.layout (place i) then put s.words (place i) (if s.words (place i) == e then n else s.words (place i)) else s.words) p) ∙ ap (λ (b : Bool). (if b then put s.words pl (if s.words pl == e then n else s.words pl) else s.words) p) valid
    go (Access.FetchXor at v) of place = (λ i. (if is_valid s.layout (place i) then put s.words (place i) (bit_xor (s.words (place i)) v) else s.words) p) ∙ ap (λ (b : Bool). (if b then put s.words pl (bit_xor (s.words pl) v) else s.words) p) valid
    go (Access.FetchOr at v) of place = (λ i. (if is_valid s.layout (place i) then put s.words (place i) (bit_or (s.words (place i)) v) else s.words) p) ∙ ap (λ (b : Bool). (if b then put s.words pl (bit_or (s.words pl) v) else s.words) p) valid
    go (Access.FetchAnd at v) of place = (λ i. (if is_valid s.layout (place i) then put s.words (place i) (bit_and (s.words (place i)) v) else s.words) p) ∙ ap (λ (b : Bool). (if b then put s.words pl (bit_and (s.words pl) v) else s.words) p) valid
    go b of place = absurd of

pub changes_queues : (s : State) (t : ℕ) (a : Access) → IsOfWord a → (p : ℕ) → queues_after s t a p ≡ s.queues p
changes_queues s t a of p = go a of
  where
    none : (at : ℕ) (b : Bool) → (if b then put s.queues at (s.queues at) else s.queues) p ≡ s.queues p
    none at true = put_there s.queues at p
    none at false = refl

    go : (b : Access) → IsOfWord b → queues_after s t b p ≡ s.queues p
    go (Access.Store at v) of = none (place_in s.layout t at) (is_valid s.layout (place_in s.layout t at))
    go (Access.Exchange at e n) of = none (place_in s.layout t at) (is_valid s.layout (place_in s.layout t at))
    go (Access.FetchXor at v) of = none (place_in s.layout t at) (is_valid s.layout (place_in s.layout t at))
    go (Access.FetchOr at v) of = none (place_in s.layout t at) (is_valid s.layout (place_in s.layout t at))
    go (Access.FetchAnd at v) of = none (place_in s.layout t at) (is_valid s.layout (place_in s.layout t at))
    go b of = absurd of

pub cell_valid : (l : Layout') (k : ℕ) → k < l.mutexes → is_valid l (cell_place l k) ≡ true
cell_valid l k inside = grind (arith, nat_tests)
