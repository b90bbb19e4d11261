-- A mutex is declared consistent, is reinitialised, or loses WAITERS.
use Rattle.std.proofs.Common.{◌≡◌, ◌≢◌, ℕ, ◌+◌, ◌-◌, ◌*◌, ◌/◌, ◌%◌, ◌^◌, ◌<◌, ◌==◌, Bool, true, false, Some, [], ◌∷◌, refl, sym, ap, ◌∙◌, subst, arith, eq-eqb, eqb-true, lit<, bit_and}
use Rattle.std.specs.Prelude.{if◌then◌else◌, nat_lt, not, ◌&&◌, ◌||◌}
use Rattle.std.proofs.lemmas.Bool.Decides.{nat_tests}
use Rattle.std.proofs.lemmas.Nat.{and_block, and_mask}
use Rattle.std.specs.Int.Bits.{and_zero_r}
use Rattle.lockword.specs.Cells.{Fields, bit, fields_of, waiters_alone}
use Rattle.lockword.proofs.Bits.{and_declared}
use Rattle.lockword.specs.declared.reply.Reply.TheVariants.{OK}
use Rattle.stepprograms.specs.declared.access.Access.{Access}
use Rattle.stepprograms.specs.Accesses.{changed, is_nobody, is_trimmed}
use Rattle.posixmutex.specs.declared.point.Operation.TheVariants as operation
use Rattle.memorymap.specs.Layouts.{cell_place, place_in}
use Rattle.mutex.specs.declared.call.Call.TheVariants.{Consistent, Unlock}
use Rattle.mutex.specs.declared.consistent.ConsistentRow.TheVariants as consistent
use Rattle.mutex.specs.declared.unlock.UnlockRow.TheVariants as unlock
use Rattle.mutex.specs.declared.phase.Phase.TheVariants.{AtCell, Clearing, Ended}
use Rattle.mutex.specs.declared.row.Row.TheVariants as mutex_row
use Rattle.mutex.specs.Consistent.{consistent_sees}
use Rattle.mutex.specs.Rows.{goes}
use Rattle.mutex.specs.Whole.{from_cell, onward}
use Rattle.condvar.specs.declared.op.Op.TheVariants.{OnMutex}
use Rattle.protocol.specs.declared.event.Event.TheVariants.{Begin, Step, Decline, Remake}
use Rattle.protocol.specs.declared.thread.Stage.TheVariants.{Idle, Calling}
use Rattle.protocol.specs.Machine.{State, put, happens, is_idle, is_owned, may_remake, nothing, reinited, waiters_of}
use Rattle.protocol.proofs.Kept.{Kept}
use Rattle.protocol.proofs.Events.{is_known}
use Rattle.protocol.proofs.Puts.{by_put, put-same, put-other}
use Rattle.protocol.proofs.Seeing.{cell_in, cell_again}
use Rattle.slots.specs.Places.{cell_of, is_slot, our_own, slot_of}
use Rattle.slots.specs.Rows.{Choice, Row}
use Rattle.slots.specs.Rows.Before.{Mended}
use Rattle.slots.specs.Shown.{Slots, after, memory, shown, took, turned}
use Rattle.slots.specs.Stands.{StandsAs}
use Rattle.slots.specs.Table.{made, makes}
use Rattle.slots.specs.Invariant.{KnowsTurn}
use Rattle.slots.specs.Accesses.{IsAtRow}
use Rattle.slots.specs.Further.{FindsUnusable, IsMending, IsTrimming, KnowsItsWord, MendsAreEvents, OwnsMarked, TrimsAreEvents}
use Rattle.slots.specs.Laws.{TrimsThere}
use Rattle.slots.proofs.Free.{reached_kept}
use Rattle.slots.proofs.Leading.{IsAt, Leads, Still, begins_more, by_test, call_at, is_at, loads_more, on, put_back, stays, steps_more, unmoved}
use Rattle.slots.proofs.Looks.{IsQuiet}
use Rattle.slots.proofs.Meets.{cell_shows, cell_word_events, miss_idles, nothing_events, usable_if_owned, word_events}
use Rattle.slots.proofs.Moving.{decline_comes}
use Rattle.slots.proofs.OneStep.{AreEvents}
use Rattle.slots.proofs.Shows.{IsLikeBut, shows_but, changes, changes_queues, cell_valid, turn_stays}
use Rattle.slots.proofs.Trims.{no_slot, trims_are}

-- ---- every bit but OWNER_DIED, of a word of 64 bits

and_sum : (w : ℕ) → bit_and w 18446744072635809791 ≡ w / 2147483648 % 2 ^ 33 * 2147483648 + w % 1073741824
and_sum w =
    let q : ℕ = w / 0x4000_0000 in
    let r : ℕ = w % 0x4000_0000 in
    let is : w ≡ q * 0x4000_0000 + r = omega arith in
    let low : bit_and r 0x3fff_ffff ≡ r = and_mask r 30 ∙ (let e : r % 0x4000_0000 ≡ r = omega arith in e) in
    let half : q ≡ q / 2 * 2 + q % 2 = omega arith in
    let high : bit_and q 0x3_ffff_fffe ≡ q / 2 % 2 ^ 33 * 2 + 0 =
    ap (λ x. bit_and x 0x3_ffff_fffe) half ∙ and_block 1 (q / 2) 0x1_ffff_ffff (q % 2) 0 (omega arith) (lit< tt) ∙ (λ i. and_mask (q / 2) 33 i * 2 + and_zero_r (q % 2) i) in
    ap (λ x. bit_and x 0xffff_ffff_bfff_ffff) is ∙ and_block 30 q 0x3_ffff_fffe r 0x3fff_ffff (omega arith) (lit< tt) ∙ (λ i. high i * 0x4000_0000 + low i)
    ∙ (let e : (q / 2 % 2 ^ 33 * 2 + 0) * 0x4000_0000 + r ≡ w / 0x8000_0000 % 2 ^ 33 * 0x8000_0000 + w % 0x4000_0000 = omega arith in e)

mended : (w n : ℕ) (b : Bool) → w < 4294967296 → n < 2147483648 → bit_and w 18446744072635809791 + bit b 4294967296 + n * 8589934592 ≡ bit_and (w + bit b 4294967296 + n * 8589934592) 18446744072635809791
mended w n true small few = let one = and_sum w in let two = and_sum (w + 4294967296 + n * 8589934592) in ap (λ (v : ℕ). v + 4294967296 + n * 8589934592) one ∙ omega (arith, small, few) ∙ sym two
mended w n false small few = let one = and_sum w in let two = and_sum (w + 0 + n * 8589934592) in ap (λ (v : ℕ). v + 0 + n * 8589934592) one ∙ omega (arith, small, few) ∙ sym two

declares : (t : ℕ) (c : Fields) → (c.owner == t) ≡ true → c.died ≡ true → consistent_sees t c ≡ goes (mutex_row.Consistent consistent.Declare)
declares t c own died = grind (arith)

module _ (x : Slots) (t : ℕ) (c : Choice) (at : IsAtRow x t) where
  abbrev z : State
  z = x.machine

  abbrev h : ℕ
  h = (z.threads t).held

  invz : Kept z
  invz = reached_kept z at.reached

  -- ---- consistent

  module _ (k : ℕ) (is : (z.threads t).stage ≡ Idle) (owns : OwnsMarked x t k) where
    abbrev pl : ℕ
    pl = cell_place z.layout k

    abbrev w : ℕ
    w = z.words pl

    abbrev mended_words : ℕ → ℕ
    mended_words = put z.words pl (bit_and w 18446744072635809791)

    below : nat_lt k z.layout.mutexes ≡ true
    below = let inside : k < z.layout.mutexes = owns.inside in grind (arith, nat_tests)

    there : place_in z.layout t (cell_in z.layout t k) ≡ pl
    there = cell_again z.layout t invz.layout at.first at.last k owns.inside

    begun : Leads z t (Begin t (OnMutex (Consistent k)) ∷ []) z.words z.queues (on (Calling (OnMutex (Consistent k)) (call_at z.layout t operation.Consistent k (AtCell (mutex_row.Consistent consistent.Load)))) h)
    begun = begins_more z t [] z.words z.queues h at.first at.last (stays z t Idle invz is) (OnMutex (Consistent k)) below refl

    looked : Leads z t (Begin t (OnMutex (Consistent k)) ∷ Step t ∷ []) z.words z.queues (on (Calling (OnMutex (Consistent k)) (call_at z.layout t operation.Consistent k (AtCell (mutex_row.Consistent consistent.Declare)))) h)
    looked = loads_more z t (Begin t (OnMutex (Consistent k)) ∷ []) z.words z.queues (OnMutex (Consistent k)) (call_at z.layout t operation.Consistent k (AtCell (mutex_row.Consistent consistent.Load))) h at.first at.last begun at.out (cell_in z.layout t k) pl
        (onward (AtCell (mutex_row.Consistent consistent.Declare))) (on (Calling (OnMutex (Consistent k)) (call_at z.layout t operation.Consistent k (AtCell (mutex_row.Consistent consistent.Declare)))) h)
        refl there (ap (from_cell (call_at z.layout t operation.Consistent k (AtCell (mutex_row.Consistent consistent.Load)))) (declares t (fields_of w) (eq-eqb (fields_of w).owner t owns.owner) owns.died)) refl (unmoved operation.Consistent h)

    still : (j : ℕ) → j < z.layout.mutexes → Still (z.words (cell_place z.layout j)) (mended_words (cell_place z.layout j))
    still j in_j = by_put (λ (v : ℕ). Still (z.words (cell_place z.layout j)) v) z.words pl (bit_and w 18446744072635809791) (cell_place z.layout j)
        (λ here. subst (λ (e : ℕ). Still (z.words e) (bit_and w 18446744072635809791)) (sym here) ((and_declared w).owner, (and_declared w).unusable)) (λ apart. (refl, refl))

    pub declared : Leads z t (Begin t (OnMutex (Consistent k)) ∷ Step t ∷ Step t ∷ []) mended_words z.queues (on Idle h)
    declared = steps_more z t (Begin t (OnMutex (Consistent k)) ∷ Step t ∷ []) z.words z.queues (OnMutex (Consistent k)) (call_at z.layout t operation.Consistent k (AtCell (mutex_row.Consistent consistent.Declare))) h at.first at.last looked at.out
        (Access.FetchAnd (cell_in z.layout t k) 18446744072635809791) pl mended_words z.queues (record { phase = Ended OK; point = Some OK }) (on Idle h) refl there tt refl (put_back z.queues pl) refl refl refl still

    mend_so : (r next : Row) → IsQuiet r → AreEvents x t c r (makes (Access.FetchAnd (cell_in z.layout t k) 18446744072635809791) (Begin t (OnMutex (Consistent k)) ∷ Step t ∷ Step t ∷ []) next)
    mend_so r next quiet = word_events x t c r next (Begin t (OnMutex (Consistent k)) ∷ Step t ∷ Step t ∷ []) mended_words z.queues (on Idle h) quiet declared k (bit_and w 18446744072635809791) owns.inside (λ p. refl) (λ p. refl)
        (Access.FetchAnd (cell_in z.layout t k) 18446744072635809791) tt there (mended w (x.turns k) (is_slot k && x.awake (our_own k)) owns.small owns.few)

  -- ---- reinit

  module _ (m v : ℕ) (is : (z.threads t).stage ≡ Idle) (f : FindsUnusable x (cell_of m) v) where
    abbrev spot : ℕ
    spot = cell_place z.layout (cell_of m)

    abbrev u : ℕ
    u = z.words spot

    abbrev clean : ℕ
    clean = waiters_of u

    shows : u + 0 + x.turns (cell_of m) * 8589934592 ≡ v
    shows = sym (cell_shows x m f.inside) ∙ f.found

    lost : (fields_of u).unusable ≡ true
    lost = ap (λ (n : ℕ). n == 1) (let e : u / 4294967296 % 2 ≡ v / 4294967296 % 2 = omega (arith, shows) in e) ∙ f.unusable

    nobody : (fields_of u).owner ≡ 0
    nobody = go ((fields_of u).owner == 0) refl
      where
        go : (b : Bool) → ((fields_of u).owner == 0) ≡ b → (fields_of u).owner ≡ 0
        go true e = eqb-true (fields_of u).owner 0 e
        go false e = absurd (cc (lost, usable_if_owned z (cell_of m) invz f.inside (λ same. cc (sym e ∙ eq-eqb (fields_of u).owner 0 same))))

    may : may_remake z t (cell_of m) ≡ true
    may = let inside : cell_of m < z.layout.mutexes = f.inside in let below : nat_lt (cell_of m) z.layout.mutexes ≡ true = grind (arith, nat_tests) in
        λ i. is_known z t at.first at.last i && is_idle (is i) && below i && lost i

    abbrev s' : State
    s' = record z { words = put z.words spot clean }

    pub goes_to : (happens z (Remake t (cell_of m))).state ≡ s'
    goes_to = ap (λ (b : Bool). (if b then reinited z t (cell_of m) clean else nothing z).state) may

    clean_usable : (fields_of clean).unusable ≡ false
    clean_usable = go (fields_of u).waiters
      where
        go : (b : Bool) → (fields_of (bit b waiters_alone)).unusable ≡ false
        go true = refl
        go false = refl

    -- one turn more
    took_it : took z s' (cell_of m) ≡ true
    took_it =
        (λ i. (not (is_owned z (cell_of m)) && is_owned s' (cell_of m)) || (lost i && not (fields_of (put-same z.words spot clean i)).unusable))
        ∙ (λ i. (not (is_owned z (cell_of m)) && is_owned s' (cell_of m)) || (true && not (clean_usable i)))
        ∙ always (not (is_owned z (cell_of m)) && is_owned s' (cell_of m))
      where
        always : (b : Bool) → (b || true) ≡ true
        always true = refl
        always false = refl

    turn_then : turned z (happens z (Remake t (cell_of m))).state x.turns (cell_of m) ≡ x.turns (cell_of m) + 1
    turn_then = (λ i. turned z (goes_to i) x.turns (cell_of m)) ∙ ap (λ (b : Bool). if b then x.turns (cell_of m) + 1 else x.turns (cell_of m)) took_it

    turn_else : (j : ℕ) → j ≢ cell_of m → turned z (happens z (Remake t (cell_of m))).state x.turns j ≡ x.turns j
    turn_else j apart = (λ i. turned z (goes_to i) x.turns j) ∙ turn_stays z s' x.turns j refl (put-other z.words spot clean (cell_place z.layout j) (λ e. apart (omega (arith, e))))

    abbrev behind : Slots
    behind = record (after x (Remake t (cell_of m) ∷ [])) { rows = put x.rows t Row.Rests }

    like : IsLikeBut x behind (cell_of m)
    like = record {
      layout = ap (λ (s : State). s.layout) goes_to;
      awake = λ j apart. refl;
      slept = λ j. refl;
      turns = λ j in_j apart. turn_else j apart;
    }

    sums : (d : ℕ) (o w : ℕ) → o ≡ 0 → w / 8589934592 ≡ 0 → w / 4294967296 % 2 ≡ 1 → w / 1073741824 % 2 ≡ 0 → w % 1073741824 ≡ o → w ≡ 4294967296 + w / 2147483648 % 2 * 2147483648
    sums d o w none rest one died own = omega (arith, none, rest, one, died, own)

    clean_is : clean ≡ u / 2147483648 % 2 * 2147483648
    clean_is = go (u / 2147483648 % 2) (let small : u / 2147483648 % 2 < 2 = omega arith in small)
      where
        go : (d : ℕ) → d < 2 → bit (d == 1) waiters_alone ≡ d * 2147483648
        go d small = grind (arith, nat_tests)

    zero_of : (d : ℕ) → d < 2 → (d == 1) ≡ false → d ≡ 0
    zero_of d small e = grind (arith, nat_tests)

    value : clean + 0 + (x.turns (cell_of m) + 1) * 8589934592 ≡ v - 4294967296 + 8589934592
    value =
        let parts : u ≡ 4294967296 + u / 2147483648 % 2 * 2147483648 = sums 0 (fields_of u).owner u nobody f.room (eqb-true (u / 4294967296 % 2) 1 lost) (zero_of (u / 1073741824 % 2) (omega arith) f.died) refl in
        omega (arith, parts, clean_is, shows)

    anew_so : AreEvents x t c (Row.Anews m v) (makes (Access.Exchange (cell_in z.layout t (cell_of m)) v (v - 4294967296 + 8589934592)) (Remake t (cell_of m) ∷ []) Row.Rests)
    anew_so = (
      λ p. shows_but x behind (cell_of m) clean f.inside like (λ q. ap (λ (s : State). s.words q) goes_to) p
          ∙ ap (λ (n : ℕ). put (shown x) spot n p) (
          (λ i. clean + bit (no_slot m i && x.awake (our_own (cell_of m))) 4294967296 + turn_then i * 8589934592) ∙ value
          ∙ sym (ap (λ (b : Bool). if b then v - 4294967296 + 8589934592 else shown x spot) (eq-eqb (shown x spot) v f.found))
          )
          ∙ sym (changes (memory x) t spot (Access.Exchange (cell_in z.layout t (cell_of m)) v (v - 4294967296 + 8589934592)) tt (cell_again z.layout t invz.layout at.first at.last (cell_of m) f.inside) (cell_valid z.layout (cell_of m) f.inside) p),
      λ p. ap (λ (s : State). s.queues p) goes_to ∙ sym (changes_queues (memory x) t (Access.Exchange (cell_in z.layout t (cell_of m)) v (v - 4294967296 + 8589934592)) tt p),
    )

  pub mend_row : (r : Row) → StandsAs r (z.threads t).stage → IsMending x t r → AreEvents x t c r (made x t c r)
  mend_row (Row.SlotMends k) is owns = mend_so (slot_of k.mutex) is owns (Row.SlotMends k) (Row.HeirPends k Mended) (record { awake = λ a. refl; slept = λ a. refl; turns = λ d a. refl })
  mend_row (Row.Mends m) is owns = mend_so (cell_of m) is owns (Row.Mends m) Row.Rests (record { awake = λ a. refl; slept = λ a. refl; turns = λ d a. refl })
  mend_row (Row.Anews m v) is f = by_test (AreEvents x t c (Row.Anews m v)) (shown x (cell_place z.layout (cell_of m)) == v)
      (makes (Access.Exchange (cell_in z.layout t (cell_of m)) v (v - 4294967296 + 8589934592)) (Remake t (cell_of m) ∷ []) Row.Rests)
      (makes (Access.Exchange (cell_in z.layout t (cell_of m)) v (v - 4294967296 + 8589934592)) [] (if (fields_of (shown x (cell_place z.layout (cell_of m)))).unusable then Row.Anews m (shown x (cell_place z.layout (cell_of m))) else Row.Rests))
      (λ found. anew_so m v is f)
      (λ miss. absurd (cc (sym miss ∙ eq-eqb (shown x (cell_place z.layout (cell_of m))) v f.found)))
  mend_row r _ mending = absurd mending

  -- ---- trims

  module _ (m is : ℕ) (a : IsAt z t (OnMutex (Unlock (cell_of m))) (cell_of m) (AtCell (mutex_row.Unlock unlock.Trim))) (known : KnowsItsWord x m is) where
    abbrev its : ℕ
    its = cell_place z.layout (cell_of m)

    abbrev exchange : Access
    exchange = Access.Exchange (cell_in z.layout t (cell_of m)) is (is - waiters_alone)

    place : place_in z.layout t (cell_in z.layout t (cell_of m)) ≡ its
    place = cell_again z.layout t invz.layout at.first at.last (cell_of m) known.inside

    trims_so : (b : Bool) → (shown x its == is) ≡ b → AreEvents x t c (Row.Trims m is) (makes exchange (if b then Step t ∷ [] else Decline t ∷ []) (Row.Clears m OK))
    trims_so false miss = let l = decline_comes z t invz in
        nothing_events x t c (Row.Trims m is) (Row.Clears m OK) (Decline t ∷ []) z.words z.queues l.0 (record { awake = λ a. refl; slept = λ a. refl; turns = λ d a. refl }) l.1 exchange
        (miss_idles x t (cell_in z.layout t (cell_of m)) is (is - waiters_alone) (λ e. cc (sym miss ∙ eq-eqb (shown x its) is (ap (shown x) (sym place) ∙ e)))) (λ p. refl) (λ p. refl)
    trims_so true e = cell_word_events x t c (Row.Trims m is) (Row.Clears m OK) (Step t ∷ []) (put z.words its 0) z.queues (on (Calling (OnMutex (Unlock (cell_of m))) (call_at z.layout t operation.Unlock (cell_of m) (Clearing OK))) h)
        (record { awake = λ a. refl; slept = λ a. refl; turns = λ d a. refl }) trimmed m 0 known.inside (λ p. refl) (λ p. refl) exchange tt place value
      where
        found : shown x its ≡ is
        found = eqb-true (shown x its) is e

        then_there : TrimsThere x m is
        then_there = subst (λ (n : ℕ). KnowsTurn x (Row.Trims m n) → shown x its ≡ n → TrimsThere x m n) (sym known.left) (trims_are x m known.turn known.inside known.room) known.knows found

        tested : is_trimmed (z.words its) (z.queues its) ≡ true
        tested = λ i. eq-eqb (z.words its) waiters_alone then_there.word i && is_nobody (then_there.nobody i)

        still : (j : ℕ) → j < z.layout.mutexes → Still (z.words (cell_place z.layout j)) (put z.words its 0 (cell_place z.layout j))
        still j in_j = by_put (λ (v : ℕ). Still (z.words (cell_place z.layout j)) v) z.words its 0 (cell_place z.layout j)
            (λ here. subst (λ (n : ℕ). Still n 0) (sym (ap z.words here ∙ then_there.word)) (refl, refl)) (λ apart. (refl, refl))

        trimmed : Leads z t (Step t ∷ []) (put z.words its 0) z.queues (on (Calling (OnMutex (Unlock (cell_of m))) (call_at z.layout t operation.Unlock (cell_of m) (Clearing OK))) h)
        trimmed = steps_more z t [] z.words z.queues (OnMutex (Unlock (cell_of m))) (call_at z.layout t operation.Unlock (cell_of m) (AtCell (mutex_row.Unlock unlock.Trim))) h at.first at.last
            (stays z t (Calling (OnMutex (Unlock (cell_of m))) (call_at z.layout t operation.Unlock (cell_of m) (AtCell (mutex_row.Unlock unlock.Trim)))) invz a.there) at.out
            (Access.Trim (cell_in z.layout t (cell_of m))) its (put z.words its 0) z.queues (onward (Clearing OK)) (on (Calling (OnMutex (Unlock (cell_of m))) (call_at z.layout t operation.Unlock (cell_of m) (Clearing OK))) h)
            refl place tt (ap (λ (b : Bool). put z.words its (if b then 0 else z.words its)) tested) (put_back z.queues its) refl refl (unmoved operation.Unlock h) still

        value : 0 + 0 + x.turns (cell_of m) * 8589934592 ≡ changed exchange (z.words its + 0 + x.turns (cell_of m) * 8589934592)
        value =
            let shows : z.words its + 0 + x.turns (cell_of m) * 8589934592 ≡ is = sym (cell_shows x m known.inside) ∙ found in
            let word : z.words its ≡ 2147483648 = then_there.word in
            (let e : 0 + 0 + x.turns (cell_of m) * 8589934592 ≡ is - 2147483648 = omega (arith, shows, word) in e)
            ∙ sym (ap (λ (b : Bool). if b then is - waiters_alone else z.words its + 0 + x.turns (cell_of m) * 8589934592) (eq-eqb (z.words its + 0 + x.turns (cell_of m) * 8589934592) is shows))

  pub trim_row : (r : Row) → StandsAs r (z.threads t).stage → IsTrimming x r → AreEvents x t c r (made x t c r)
  trim_row (Row.Trims m is) (p, stage, phase) known = trims_so m is (is_at z t (OnMutex (Unlock (cell_of m))) p (cell_of m) (AtCell (mutex_row.Unlock unlock.Trim)) invz at.first at.last stage phase refl) known (shown x (cell_place z.layout (cell_of m)) == is) refl
  trim_row r _ trimming = absurd trimming

pub mends_are : MendsAreEvents
mends_are x t c at mending = let both = mend_row x t c at (x.rows t) at.there mending in record { words = both.0; queues = both.1 }

pub trims_are_events : TrimsAreEvents
trims_are_events x t c at trimming = let both = trim_row x t c at (x.rows t) at.there trimming in record { words = both.0; queues = both.1 }
