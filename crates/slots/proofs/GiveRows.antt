-- Rows that release a cell or a slot.
use Rattle.std.proofs.Common.{◌≡◌, ◌≢◌, ℕ, ◌+◌, ◌-◌, ◌*◌, ◌<◌, ◌/◌, ◌%◌, ◌==◌, Bool, true, false, [], ◌∷◌, refl, sym, ap, ◌∙◌, subst, arith, eq-eqb, eqb-true, bit_xor}
use Rattle.std.specs.Prelude.{if◌then◌else◌, not, ◌&&◌, ◌||◌}
use Rattle.lockword.specs.Cells.{bit}
use Rattle.lockword.proofs.Bits.{xor_subtracts, xor_flips}
use Rattle.stepprograms.specs.declared.access.Access.{Access}
use Rattle.memorymap.specs.Layouts.{cell_place, place_in}
use Rattle.mutex.specs.declared.unlock.UnlockRow.TheVariants as unlock
use Rattle.mutex.specs.declared.row.Row.TheVariants as mutex_row
use Rattle.mutex.specs.declared.phase.Phase.TheVariants.{AtCell}
use Rattle.mutex.specs.Standings.{Whole}
use Rattle.mutex.specs.Unlock.{released_bits}
use Rattle.mutex.specs.Whole.{phase_access, whole_access}
use Rattle.condvar.specs.declared.call.CondCall.{CondCall}
use Rattle.condvar.specs.declared.phase.CondPhase.{CondPhase}
use Rattle.condvar.specs.declared.row.CondRow.TheVariants as cond_row
use Rattle.condvar.specs.declared.wait.WaitRow.TheVariants as wait
use Rattle.condvar.specs.Standings.{CondWhole}
use Rattle.condvar.specs.Whole.{cond_access}
use Rattle.condvar.specs.Whole as cond
use Rattle.condvar.specs.declared.op.Op.{Op}
use Rattle.condvar.specs.declared.op.Op.TheVariants.{OnCondition}
use Rattle.condvar.specs.Ops.{mutex_of}
use Rattle.protocol.specs.declared.event.Event.TheVariants.{Step}
use Rattle.protocol.specs.declared.thread.Thread.{Thread}
use Rattle.protocol.specs.declared.thread.Stage.TheVariants.{Calling, AtCondition}
use Rattle.protocol.specs.Machine.{State, After, put, happens, is_owned, is_unusable}
use Rattle.protocol.proofs.Kept.{Kept, Fits, FitsAt}
use Rattle.protocol.proofs.Accesses.{fits_in}
use Rattle.protocol.proofs.CondAccesses.{fits_at}
use Rattle.protocol.proofs.Puts.{put-other}
use Rattle.protocol.proofs.Queued.{out_awake}
use Rattle.protocol.proofs.Seeing.{cell_in, cell_again}
use Rattle.protocol.proofs.Steps.{done, thread_after, call_step, cond_step}
use Rattle.protocol.proofs.Working.{call_goes, cond_goes}
use Rattle.slots.specs.Places.{cell_of, is_slot, our_own, slot_of}
use Rattle.slots.specs.Rows.{Choice, Row}
use Rattle.slots.specs.Rows.Giving.{OfUnlock, OfWait}
use Rattle.slots.specs.Shown.{Slots, after, memory, shown, turned}
use Rattle.slots.specs.Stands.{StandsAs}
use Rattle.slots.specs.Table.{made}
use Rattle.slots.specs.Runs.{awake_after, slept_after, turns_after}
use Rattle.slots.specs.Invariant.{fields_at}
use Rattle.slots.specs.Accesses.{IsAbout, IsAboutIt, IsAtRow, IsGiven, Owns, ReleasesAreEvents}
use Rattle.slots.proofs.Free.{reached_kept}
use Rattle.slots.proofs.Looks.{IsQuiet}
use Rattle.slots.proofs.OneStep.{AreEvents}
use Rattle.slots.proofs.Shows.{IsLikeBut, shows_but, shown_cell, changes, changes_queues, cell_valid, put_there, turn_stays}
use Rattle.slots.proofs.Takes.{not_equal}
use Rattle.slots.proofs.Trims.{no_slot}

-- ---- what is flipped, as memory shows it

-- the owner's id
flips_owner : (w n t : ℕ) (b : Bool) → w % 1073741824 ≡ t → bit_xor w t + bit b 4294967296 + n * 8589934592 ≡ bit_xor (w + bit b 4294967296 + n * 8589934592) t
flips_owner w n t true own =
    let one = xor_subtracts w t own in
    let two = xor_subtracts (w + 4294967296 + n * 8589934592) t (omega (arith, own)) in
    ap (λ (v : ℕ). v + 4294967296 + n * 8589934592) one ∙ (let e : w - t + 4294967296 + n * 8589934592 ≡ w + 4294967296 + n * 8589934592 - t = omega (arith, own) in e) ∙ sym two
flips_owner w n t false own =
    let one = xor_subtracts w t own in
    let two = xor_subtracts (w + 0 + n * 8589934592) t (omega (arith, own)) in
    ap (λ (v : ℕ). v + 0 + n * 8589934592) one ∙ (let e : w - t + 0 + n * 8589934592 ≡ w + 0 + n * 8589934592 - t = omega (arith, own) in e) ∙ sym two

-- OWNER_DIED and UNUSABLE, too
flips_all : (w n t : ℕ) → w % 1073741824 ≡ t → w / 1073741824 % 2 ≡ 1 → bit_xor w (t + 5368709120) + 0 + n * 8589934592 ≡ bit_xor (w + 0 + n * 8589934592) (t + 5368709120)
flips_all w n t own died =
    let one = xor_flips w t own died in
    let two = xor_flips (w + 0 + n * 8589934592) t (omega (arith, own)) (omega (arith, died)) in
    let high : (w + 0 + n * 8589934592) / 8589934592 ≡ w / 8589934592 + n = omega arith in
    let unusable : (w + 0 + n * 8589934592) / 4294967296 % 2 ≡ w / 4294967296 % 2 = omega arith in
    let waits : (w + 0 + n * 8589934592) / 2147483648 % 2 ≡ w / 2147483648 % 2 = omega arith in
    ap (λ (v : ℕ). v + 0 + n * 8589934592) one
    ∙ sums (w / 8589934592) n (1 - w / 4294967296 % 2) (w / 2147483648 % 2)
    ∙ (λ i. (sym high i * 8 + ((1 - sym unusable i) * 4 + sym waits i * 2)) * 1073741824)
    ∙ sym two
  where
    sums : (h n u b : ℕ) → (h * 8 + (u * 4 + b * 2)) * 1073741824 + 0 + n * 8589934592 ≡ ((h + n) * 8 + (u * 4 + b * 2)) * 1073741824
    sums h n u b = omega arith

-- ---- a release is no turn

owned_stays : (s s' : State) (turns : ℕ → ℕ) (k : ℕ) → is_owned s k ≡ true → is_unusable s k ≡ false → turned s s' turns k ≡ turns k
owned_stays s s' turns k owned usable = ap (λ (b : Bool). if b then turns k + 1 else turns k) (λ i. (not (owned i) && is_owned s' k) || (usable i && not (is_unusable s' k)))

-- ---- one Step that flips bits of a mutex's word

module _ (x : Slots) (t : ℕ) (c : Choice) (at : IsAtRow x t) (r next : Row) (quiet : IsQuiet r) (k bits : ℕ) (th : Thread) (inside : k < x.machine.layout.mutexes) (owns : Owns x.machine t k)
    (to : (happens x.machine (Step t)).state ≡ done x.machine t (Access.FetchXor (cell_in x.machine.layout t k) bits) th) where
  abbrev pl : ℕ
  pl = cell_place x.machine.layout k

  abbrev w : ℕ
  w = x.machine.words pl

  place : place_in x.machine.layout t (cell_in x.machine.layout t k) ≡ pl
  place = cell_again x.machine.layout t (reached_kept x.machine at.reached).layout at.first at.last k inside

  words_to : (q : ℕ) → (happens x.machine (Step t)).state.words q ≡ put x.machine.words pl (bit_xor w bits) q
  words_to q = ap (λ (s : State). s.words q) to ∙ (λ i. put x.machine.words (place i) (bit_xor (x.machine.words (place i)) bits) q)

  abbrev behind : Slots
  behind = record (after x (Step t ∷ [])) { turns = turns_after r c (after x (Step t ∷ [])).turns; awake = awake_after r x.awake; slept = slept_after r x.slept; rows = put x.rows t next }

  abbrev s' : State
  s' = (happens x.machine (Step t)).state

  owned : is_owned x.machine k ≡ true
  owned = ap not (not_equal (fields_at x.machine k).owner 0 (λ e. let own = owns.owner in let pos = at.first in omega (arith, e, own, pos)))

  turns_same : (j : ℕ) → j < x.machine.layout.mutexes → behind.turns j ≡ x.turns j
  turns_same j in_j = ap (λ (g : ℕ → ℕ). g j) (quiet.turns c (turned x.machine s' x.turns))
      ∙ by_same_mutex j (λ same. subst (λ (i : ℕ). turned x.machine s' x.turns i ≡ x.turns i) (sym same) (owned_stays x.machine s' x.turns k owned owns.usable))
      (λ apart. turn_stays x.machine s' x.turns j (ap (λ (s : State). s.layout) to) (words_to (cell_place x.machine.layout j) ∙ put-other x.machine.words pl (bit_xor w bits) (cell_place x.machine.layout j) (λ e. apart (omega (arith, e)))))
    where
      by_same_mutex : (j : ℕ) → {P : Type 0} → (j ≡ k → P) → (j ≢ k → P) → P
      by_same_mutex j {P} here apart = go (j == k) refl
        where
          go : (b : Bool) → (j == k) ≡ b → P
          go true e = here (eqb-true j k e)
          go false e = apart (λ same. cc (sym e ∙ eq-eqb j k same))

  like : IsLikeBut x behind k
  like = record {
    layout = ap (λ (s : State). s.layout) to;
    awake = λ m apart. ap (λ (g : ℕ → Bool). g m) (quiet.awake x.awake);
    slept = λ j. ap (λ (g : ℕ → Bool). g j) (quiet.slept x.slept);
    turns = λ j in_j apart. turns_same j in_j;
  }

  abbrev flips : Access
  flips = Access.FetchXor (cell_in x.machine.layout t k) bits

  flips_are : bit_xor w bits + bit (is_slot k && x.awake (our_own k)) 4294967296 + x.turns k * 8589934592 ≡ bit_xor (w + bit (is_slot k && x.awake (our_own k)) 4294967296 + x.turns k * 8589934592) bits
      → AreEvents x t c r (record { access = flips; events = Step t ∷ []; next = next })
  flips_are same = (
    λ q. shows_but x behind k (bit_xor w bits) inside like words_to q
        ∙ ap (λ (u : ℕ). put (shown x) pl u q) ((λ i. bit_xor w bits + bit (is_slot k && quiet.awake x.awake i (our_own k)) 4294967296 + turns_same k inside i * 8589934592) ∙ same ∙ ap (λ (v : ℕ). bit_xor v bits) (sym (shown_cell x k inside)))
        ∙ sym (changes (memory x) t pl flips tt place (cell_valid x.machine.layout k inside) q),
    λ q. ap (λ (s : State). s.queues q) to ∙ put_there x.machine.queues (place_in x.machine.layout t (cell_in x.machine.layout t k)) q ∙ sym (changes_queues (memory x) t flips tt q),
  )

-- ---- the rows

module _ (x : Slots) (t : ℕ) (c : Choice) (at : IsAtRow x t) where
  inv : Kept x.machine
  inv = reached_kept x.machine at.reached

  -- an unlock's
  unlocks : (r next : Row) (k : ℕ) (d : Bool) (o : Op) (p : Whole) → IsQuiet r → (x.machine.threads t).stage ≡ Calling o p → p.phase ≡ AtCell (mutex_row.Unlock (unlock.Release d)) → mutex_of x.machine.layout o ≡ k → Owns x.machine t k
      → bit_xor (x.machine.words (cell_place x.machine.layout k)) (released_bits t d) + bit (is_slot k && x.awake (our_own k)) 4294967296 + x.turns k * 8589934592
      ≡ bit_xor (x.machine.words (cell_place x.machine.layout k) + bit (is_slot k && x.awake (our_own k)) 4294967296 + x.turns k * 8589934592) (released_bits t d)
      → AreEvents x t c r (record { access = Access.FetchXor (cell_in x.machine.layout t k) (released_bits t d); events = Step t ∷ []; next = next })
  unlocks r next k d o p quiet is phase about owns same =
      let fits : Fits x.machine t (x.machine.threads t).held (mutex_of x.machine.layout o) p = (fits_in x.machine t o p inv at.first at.last is).0 in
      let access : whole_access p ≡ Access.FetchXor (cell_in x.machine.layout t k) (released_bits t d) =
      ap (phase_access p) phase ∙ (λ i. Access.FetchXor ((fits.cell ∙ ap (cell_in x.machine.layout t) about) i) (released_bits (fits.mine i) d)) in
      let th = thread_after x.machine t (call_step x.machine t o p) in
      flips_are x t c at r next quiet k (released_bits t d) th (subst (λ (j : ℕ). j < x.machine.layout.mutexes) about fits.inside) owns
      (ap (λ (a : After). a.state) (call_goes x.machine t o p inv at.first at.last is (out_awake x.machine t at.out)) ∙ ap (λ (a : Access). done x.machine t a th) access) same

  -- a wait's
  waits : (r next : Row) (k n : ℕ) (o : CondCall) (p : CondWhole) → IsQuiet r → (x.machine.threads t).stage ≡ AtCondition o p → p.phase ≡ CondPhase.AtWords (cond_row.Wait (wait.Release n)) → mutex_of x.machine.layout (OnCondition o) ≡ k → Owns x.machine t k
      → bit_xor (x.machine.words (cell_place x.machine.layout k)) t + bit (is_slot k && x.awake (our_own k)) 4294967296 + x.turns k * 8589934592
      ≡ bit_xor (x.machine.words (cell_place x.machine.layout k) + bit (is_slot k && x.awake (our_own k)) 4294967296 + x.turns k * 8589934592) t
      → AreEvents x t c r (record { access = Access.FetchXor (cell_in x.machine.layout t k) t; events = Step t ∷ []; next = next })
  waits r next k n o p quiet is phase about owns same =
      let fits : FitsAt x.machine t (x.machine.threads t).held o p = fits_at x.machine t o p inv at.first at.last is in
      let access : cond_access p ≡ Access.FetchXor (cell_in x.machine.layout t k) t =
      ap (cond.phase_access p) phase ∙ (λ i. Access.FetchXor ((fits.cell ∙ ap (cell_in x.machine.layout t) about) i) (fits.mine i)) in
      let th = thread_after x.machine t (cond_step x.machine t o p) in
      flips_are x t c at r next quiet k t th (subst (λ (j : ℕ). j < x.machine.layout.mutexes) about fits.inside) owns
      (ap (λ (a : After). a.state) (cond_goes x.machine t o p inv at.first at.last is) ∙ ap (λ (a : Access). done x.machine t a th) access) same

  owner_at : (k : ℕ) → Owns x.machine t k → bit_xor (x.machine.words (cell_place x.machine.layout k)) t + bit (is_slot k && x.awake (our_own k)) 4294967296 + x.turns k * 8589934592
      ≡ bit_xor (x.machine.words (cell_place x.machine.layout k) + bit (is_slot k && x.awake (our_own k)) 4294967296 + x.turns k * 8589934592) t
  owner_at k owns = flips_owner (x.machine.words (cell_place x.machine.layout k)) (x.turns k) t (is_slot k && x.awake (our_own k)) owns.owner

  all_at : (m : ℕ) → Owns x.machine t (cell_of m) → (fields_at x.machine (cell_of m)).died ≡ true → bit_xor (x.machine.words (cell_place x.machine.layout (cell_of m))) (t + 5368709120) + bit (is_slot (cell_of m) && x.awake (our_own (cell_of m))) 4294967296 + x.turns (cell_of m) * 8589934592
      ≡ bit_xor (x.machine.words (cell_place x.machine.layout (cell_of m)) + bit (is_slot (cell_of m) && x.awake (our_own (cell_of m))) 4294967296 + x.turns (cell_of m) * 8589934592) (t + 5368709120)
  all_at m owns died =
      (λ i. bit_xor w (t + 5368709120) + bit (no_slot m i && x.awake (our_own (cell_of m))) 4294967296 + x.turns (cell_of m) * 8589934592)
      ∙ flips_all w (x.turns (cell_of m)) t owns.owner (eqb-true (w / 1073741824 % 2) 1 died)
      ∙ (λ i. bit_xor (w + bit (sym (no_slot m) i && x.awake (our_own (cell_of m))) 4294967296 + x.turns (cell_of m) * 8589934592) (t + 5368709120))
    where
      w : ℕ
      w = x.machine.words (cell_place x.machine.layout (cell_of m))

  pub give_row : (r : Row) → StandsAs r (x.machine.threads t).stage → IsAboutIt x.machine.layout r (x.machine.threads t).stage → IsGiven x t r → AreEvents x t c r (made x t c r)
  give_row (Row.FreeGives k f) (p, is, phase) about owns = unlocks (Row.FreeGives k f) (made x t c (Row.FreeGives k f)).next (slot_of k.mutex) false _ p (record { awake = λ a. refl; slept = λ a. refl; turns = λ d a. refl }) is phase refl owns (owner_at (slot_of k.mutex) owns)
  give_row (Row.Gives m (OfUnlock false)) (p, is, phase) about owns = unlocks (Row.Gives m (OfUnlock false)) (made x t c (Row.Gives m (OfUnlock false))).next (cell_of m) false _ p (record { awake = λ a. refl; slept = λ a. refl; turns = λ d a. refl }) is phase refl owns (owner_at (cell_of m) owns)
  give_row (Row.Gives m (OfUnlock true)) (p, is, phase) about (owns, died) = unlocks (Row.Gives m (OfUnlock true)) (made x t c (Row.Gives m (OfUnlock true))).next (cell_of m) true _ p (record { awake = λ a. refl; slept = λ a. refl; turns = λ d a. refl }) is phase refl owns (all_at m owns died)
  give_row (Row.Gives m (OfWait k n slept timed)) (p, is, phase) about owns = waits (Row.Gives m (OfWait k n slept timed)) (made x t c (Row.Gives m (OfWait k n slept timed))).next (cell_of m) n _ p (record { awake = λ a. refl; slept = λ a. refl; turns = λ d a. refl }) is phase (subst (IsAbout x.machine.layout m) is about) owns (owner_at (cell_of m) owns)
  give_row r there about given = absurd given

pub releases_are : ReleasesAreEvents
releases_are x t c at given = let both = give_row x t c at (x.rows t) at.there at.about given in record { words = both.0; queues = both.1 }
