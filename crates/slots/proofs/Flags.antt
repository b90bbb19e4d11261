-- AWAKE of a slot is set and cleared.
use Rattle.std.proofs.Common.{◌≡◌, ◌≢◌, ℕ, ◌+◌, ◌*◌, ◌<◌, ◌/◌, ◌%◌, ◌^◌, Bool, true, false, [], refl, sym, ap, ◌∙◌, subst, arith, lit<, eq-eqb, bit_and}
use Rattle.std.specs.Prelude.{◌&&◌}
use Rattle.std.proofs.lemmas.Nat.{and_block, and_mask}
use Rattle.std.specs.Int.Bits.{and_zero_r}
use Rattle.lockword.specs.Cells.{bit}
use Rattle.stepprograms.specs.declared.access.Access.{Access}
use Rattle.memorymap.specs.Layouts.{cell_place, place_in}
use Rattle.protocol.specs.Machine.{put, words_after}
use Rattle.protocol.proofs.Kept.{Kept}
use Rattle.protocol.proofs.Puts.{put-same, put-other}
use Rattle.protocol.proofs.Seeing.{cell_in, cell_again}
use Rattle.slots.specs.Places.{is_slot, our_own, slot_of}
use Rattle.slots.specs.Rows.{Choice, Row, Taking}
use Rattle.slots.specs.Shown.{Slots, after, memory, shown, shown_mutex}
use Rattle.slots.specs.Words.{awake_word}
use Rattle.slots.specs.Table.{made}
use Rattle.slots.specs.Runs.{awake_after, slept_after, turns_after}
use Rattle.slots.specs.Accesses.{IsInLayout, AwakeIsSet, AwakeIsCleared, IsQuieting}
use Rattle.slots.proofs.Free.{reached_kept}
use Rattle.slots.proofs.OneStep.{AreEvents}
use Rattle.slots.proofs.Shows.{IsLikeBut, shows_but, shown_cell, changes, changes_queues, cell_valid, put_there}

slot_is : (m : ℕ) → is_slot (slot_of m) ≡ true
slot_is m = eq-eqb ((2 * m + 1) % 2) 1 (omega arith)

own_is : (m : ℕ) → our_own (slot_of m) ≡ m
own_is m = let e : (2 * m + 1) / 2 ≡ m = omega arith in e

other_slot : (m j : ℕ) → slot_of j ≢ slot_of m → j ≢ m
other_slot m j apart e = apart (ap slot_of e)

-- every bit but AWAKE, of a word of 64 bits
and_sum : (v : ℕ) → bit_and v 0xffff_fffe_ffff_ffff ≡ v / 0x2_0000_0000 % 2 ^ 31 * 0x2_0000_0000 + v % 0x1_0000_0000
and_sum v =
    let q : ℕ = v / 0x1_0000_0000 in
    let r : ℕ = v % 0x1_0000_0000 in
    let is : v ≡ q * 0x1_0000_0000 + r = omega arith in
    let low : bit_and r 0xffff_ffff ≡ r = and_mask r 32 ∙ (let e : r % 0x1_0000_0000 ≡ r = omega arith in e) in
    let half : q ≡ q / 2 * 2 + q % 2 = omega arith in
    let high : bit_and q 0xffff_fffe ≡ q / 2 % 2 ^ 31 * 2 + 0 =
    ap (λ x. bit_and x 0xffff_fffe) half ∙ and_block 1 (q / 2) 0x7fff_ffff (q % 2) 0 (omega arith) (lit< tt) ∙ (λ i. and_mask (q / 2) 31 i * 2 + and_zero_r (q % 2) i) in
    ap (λ x. bit_and x 0xffff_fffe_ffff_ffff) is ∙ and_block 32 q 0xffff_fffe r 0xffff_ffff (omega arith) (lit< tt) ∙ (λ i. high i * 0x1_0000_0000 + low i)
    ∙ (let e : (q / 2 % 2 ^ 31 * 2 + 0) * 0x1_0000_0000 + r ≡ v / 0x2_0000_0000 % 2 ^ 31 * 0x2_0000_0000 + v % 0x1_0000_0000 = omega arith in e)

cleared : (w n : ℕ) (b : Bool) → w < 4294967296 → n < 2147483648 → bit_and (w + bit b 4294967296 + n * 8589934592) 18446744069414584319 ≡ w + 0 + n * 8589934592
cleared w n true small few = let sum = and_sum (w + 4294967296 + n * 8589934592) in sum ∙ omega arith
cleared w n false small few = let sum = and_sum (w + 0 + n * 8589934592) in sum ∙ omega arith

module _ (x : Slots) (t m : ℕ) (a : IsInLayout x.machine t (slot_of m)) where
  inv : Kept x.machine
  inv = reached_kept x.machine a.reached

  abbrev pl : ℕ
  pl = cell_place x.machine.layout (slot_of m)

  abbrev w : ℕ
  w = x.machine.words pl

  place : place_in x.machine.layout t (cell_in x.machine.layout t (slot_of m)) ≡ pl
  place = cell_again x.machine.layout t inv.layout a.first a.last (slot_of m) a.inside

  shows : shown x pl ≡ w + bit (x.awake m) 4294967296 + x.turns (slot_of m) * 8589934592
  shows = shown_cell x (slot_of m) a.inside ∙ (λ i. w + bit (slot_is m i && x.awake (own_is m i)) 4294967296 + x.turns (slot_of m) * 8589934592)

  -- AWAKE is cleared

  clears : (r next : Row) (c : Choice) → x.machine.words pl < 4294967296 → x.turns (slot_of m) < 2147483648 → (awake_after r x.awake ≡ put x.awake m false) → (slept_after r x.slept ≡ x.slept) → (turns_after r c x.turns ≡ x.turns)
      → AreEvents x t c r (record { access = Access.FetchAnd (cell_in x.machine.layout t (slot_of m)) 18446744069414584319; events = []; next = next })
  clears r next c small few awake slept turns = (words, λ p. sym (changes_queues (memory x) t (Access.FetchAnd (cell_in x.machine.layout t (slot_of m)) 18446744069414584319) tt p))
    where
      behind : Slots
      behind = record (after x []) { turns = turns_after r c x.turns; awake = awake_after r x.awake; slept = slept_after r x.slept; rows = put x.rows t next }

      like : IsLikeBut x behind (slot_of m)
      like = record {
        layout = refl;
        awake = λ j apart. ap (λ (f : ℕ → Bool). f j) awake ∙ put-other x.awake m false j (other_slot m j apart);
        slept = λ j. ap (λ (f : ℕ → Bool). f j) slept;
        turns = λ j inside apart. ap (λ (f : ℕ → ℕ). f j) turns;
      }

      value : shown_mutex behind (slot_of m) w ≡ bit_and (shown x pl) 18446744069414584319
      value =
          (λ i. w + bit (slot_is m i && awake i (own_is m i)) 4294967296 + turns i (slot_of m) * 8589934592)
          ∙ ap (λ (b : Bool). w + bit b 4294967296 + x.turns (slot_of m) * 8589934592) (put-same x.awake m false)
          ∙ sym (cleared w (x.turns (slot_of m)) (x.awake m) small few)
          ∙ ap (λ (v : ℕ). bit_and v 18446744069414584319) (sym shows)

      words : (p : ℕ) → shown behind p ≡ words_after (memory x) t (Access.FetchAnd (cell_in x.machine.layout t (slot_of m)) 18446744069414584319) p
      words p =
          shows_but x behind (slot_of m) w a.inside like (λ q. sym (put_there x.machine.words pl q)) p
          ∙ ap (λ (v : ℕ). put (shown x) pl v p) value
          ∙ sym (changes (memory x) t pl (Access.FetchAnd (cell_in x.machine.layout t (slot_of m)) 18446744069414584319) tt place (cell_valid x.machine.layout (slot_of m) a.inside) p)

  -- and set
  pub sets : (k : Taking) (next : Row) (c : Choice) → k.mutex ≡ m → x.machine.words pl ≡ t
      → AreEvents x t c (Row.HeirSets k) (record { access = Access.Store (cell_in x.machine.layout t (slot_of m)) (awake_word t c.time); events = []; next = next })
  sets k next c same own = (words, λ p. sym (changes_queues (memory x) t (Access.Store (cell_in x.machine.layout t (slot_of m)) (awake_word t c.time)) tt p))
    where
      behind : Slots
      behind = record (after x []) { turns = put x.turns (slot_of k.mutex) c.time; awake = put x.awake k.mutex true; rows = put x.rows t next }

      like : IsLikeBut x behind (slot_of m)
      like = record {
        layout = refl;
        awake = λ j apart. put-other x.awake k.mutex true j (λ e. other_slot m j apart (e ∙ same));
        slept = λ j. refl;
        turns = λ j inside apart. put-other x.turns (slot_of k.mutex) c.time j (λ e. apart (e ∙ ap slot_of same));
      }

      value : shown_mutex behind (slot_of m) w ≡ awake_word t c.time
      value =
          (λ i. w + bit (slot_is m i && put x.awake (same i) true (own_is m i)) 4294967296 + put x.turns (slot_of (same i)) c.time (slot_of m) * 8589934592)
          ∙ (λ i. own i + bit (put-same x.awake m true i) 4294967296 + put-same x.turns (slot_of m) c.time i * 8589934592)

      words : (p : ℕ) → shown behind p ≡ words_after (memory x) t (Access.Store (cell_in x.machine.layout t (slot_of m)) (awake_word t c.time)) p
      words p =
          shows_but x behind (slot_of m) w a.inside like (λ q. sym (put_there x.machine.words pl q)) p
          ∙ ap (λ (v : ℕ). put (shown x) pl v p) value
          ∙ sym (changes (memory x) t pl (Access.Store (cell_in x.machine.layout t (slot_of m)) (awake_word t c.time)) tt place (cell_valid x.machine.layout (slot_of m) a.inside) p)

pub quiets : (x : Slots) (t : ℕ) (c : Choice) (r : Row) (m : ℕ) → IsInLayout x.machine t (slot_of m) → IsQuieting r m → x.machine.words (cell_place x.machine.layout (slot_of m)) < 4294967296 → x.turns (slot_of m) < 2147483648 → AreEvents x t c r (made x t c r)
quiets x t c (Row.SlotQuiets k) m a is small few = subst (λ (j : ℕ). IsInLayout x.machine t (slot_of j) → x.machine.words (cell_place x.machine.layout (slot_of j)) < 4294967296 → x.turns (slot_of j) < 2147483648 → AreEvents x t c (Row.SlotQuiets k) (made x t c (Row.SlotQuiets k))) is (λ b s f. clears x t k.mutex b (Row.SlotQuiets k) (made x t c (Row.SlotQuiets k)).next c s f refl refl refl) a small few
quiets x t c (Row.HeirHas k y) m a is small few = subst (λ (j : ℕ). IsInLayout x.machine t (slot_of j) → x.machine.words (cell_place x.machine.layout (slot_of j)) < 4294967296 → x.turns (slot_of j) < 2147483648 → AreEvents x t c (Row.HeirHas k y) (made x t c (Row.HeirHas k y))) is (λ b s f. clears x t k.mutex b (Row.HeirHas k y) (made x t c (Row.HeirHas k y)).next c s f refl refl refl) a small few
quiets x t c (Row.GivesUp k) m a is small few = subst (λ (j : ℕ). IsInLayout x.machine t (slot_of j) → x.machine.words (cell_place x.machine.layout (slot_of j)) < 4294967296 → x.turns (slot_of j) < 2147483648 → AreEvents x t c (Row.GivesUp k) (made x t c (Row.GivesUp k))) is (λ b s f. clears x t k.mutex b (Row.GivesUp k) (made x t c (Row.GivesUp k)).next c s f refl refl refl) a small few
quiets x t c r m a is small few = absurd is

pub awake_cleared : AwakeIsCleared
awake_cleared x t c m a is small few = let both = quiets x t c (x.rows t) m a is small few in record { words = both.0; queues = both.1 }

pub awake_set : AwakeIsSet
awake_set x t c k a row own =
    let both = subst (λ (r : Row). AreEvents x t c r (made x t c r)) (sym row) (sets x t k.mutex a k (made x t c (Row.HeirSets k)).next c refl own) in
    record { words = both.0; queues = both.1 }
