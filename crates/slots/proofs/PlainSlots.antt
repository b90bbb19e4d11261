-- A slot never has WAITERS and is never unusable, so nobody sleeps there.
use Rattle.std.proofs.Common.{◌≡◌, ◌≢◌, ℕ, ◌+◌, ◌*◌, ◌/◌, ◌%◌, ◌<◌, ◌≤◌, ◌==◌, Bool, true, false, List, refl, sym, ap, ◌∙◌, subst, arith, eqb-true}
use Rattle.std.specs.Prelude.{if◌then◌else◌, ◌&&◌}
use Rattle.lockword.specs.Cells.{Fields, bit, fields_of, marked}
use Rattle.lockword.specs.Coding.{fields_of-word_of}
use Rattle.stepprograms.specs.Accesses.{word_among}
use Rattle.memorymap.specs.Layouts.{Layout', cell_place}
use Rattle.exitwalk.specs.declared.row.Row as walk_row
use Rattle.exitwalk.specs.Standings as walks
use Rattle.exitwalk.specs.Walks as exit
use Rattle.mutex.specs.Whole.{may_expire}
use Rattle.condvar.specs.Calls.{condition_of}
use Rattle.condvar.specs.declared.op.Op.TheVariants.{OnMutex, OnCondition}
use Rattle.protocol.specs.declared.event.Event.TheVariants.{Step, Kill, Leave, Expire, Renew}
use Rattle.protocol.specs.declared.thread.Stage.{Stage}
use Rattle.protocol.specs.declared.thread.Stage.TheVariants.{Idle, Calling, AtCondition, Dying, Reaped}
use Rattle.protocol.specs.Machine.{State, After, departed, expired, happens, has_thread, is_alive, is_asleep, is_gone, is_timed, killed, lapsed, nothing, overslept, place_met, renewed, sleeps, waits_on}
use Rattle.protocol.proofs.Kept.{Kept}
use Rattle.protocol.proofs.Puts.{by_put}
use Rattle.protocol.proofs.Renewals.{renewed_cell}
use Rattle.protocol.proofs.Seeing.{head_in}
use Rattle.protocol.proofs.WalkSteps.{walk_access}
use Rattle.slots.specs.Places.{is_slot, our_own, slot_of}
use Rattle.slots.specs.Shown.{Slots, shown}
use Rattle.slots.specs.Invariant.{fields_at}
use Rattle.slots.specs.Laws.{IsReached}
use Rattle.slots.specs.Fits.{IsOurs}
use Rattle.slots.specs.Premises.{SlotsAreQuiet}
use Rattle.slots.proofs.Free.{empty_where, reached_queued}
use Rattle.slots.proofs.HeirsStay.{walk_goes}
use Rattle.slots.proofs.Leading.{by_test}
use Rattle.slots.proofs.Owned.{our_slot}
use Rattle.slots.proofs.ShownWords.{shows_at}
use Rattle.slots.proofs.Quiet.{Alike}
use Rattle.slots.proofs.Rooms.{words_sound}
use Rattle.slots.proofs.Shows.{shown_cell}

pub record IsPlain (s : State) (m : ℕ) : Type 0 where
  pub waiters : (fields_at s (slot_of m)).waiters ≡ false
  pub usable : (fields_at s (slot_of m)).unusable ≡ false

abbrev pub ArePlain : State → Type 0
ArePlain s = (m : ℕ) → IsOurs s.layout m → IsPlain s m

pub plain_quiet : (s : State) → IsReached s → ArePlain s → SlotsAreQuiet s
plain_quiet s r plain m ours = record {
  waiters = (plain m ours).waiters;
  usable = (plain m ours).usable;
  queue = empty_where (s.queues (cell_place s.layout (slot_of m))) (λ u there. absurd (cc (sym ((reached_queued s r).bits (slot_of m) u (our_slot s.layout m ours) there) ∙ (plain m ours).waiters)));
}

-- ---- an access of the thread's own

usable_word : (w v n k : ℕ) (a : Bool) → (fields_of w).rest ≡ 0 → (fields_of v).rest ≡ 0 → (fields_of w).unusable ≡ false
    → (fields_of (v + bit a 4294967296 + k * 8589934592)).unusable ≡ (fields_of (w + bit a 4294967296 + n * 8589934592)).unusable → (fields_of v).unusable ≡ false
usable_word w v n k a room_w room_v usable alike = go a alike (v / 4294967296 % 2 == 1) refl
  where
    small : w / 4294967296 % 2 ≢ 1
    small e = absurd (cc (sym usable ∙ ap (λ (z : ℕ). z == 1) e))

    go : (a : Bool) → (fields_of (v + bit a 4294967296 + k * 8589934592)).unusable ≡ (fields_of (w + bit a 4294967296 + n * 8589934592)).unusable → (b : Bool) → (v / 4294967296 % 2 == 1) ≡ b → (v / 4294967296 % 2 == 1) ≡ false
    go a same false e = e
    go true same true e =
        let set : v / 4294967296 % 2 ≡ 1 = eqb-true (v / 4294967296 % 2) 1 e in
        let above_w : w / 8589934592 ≡ 0 = room_w in
        let above_v : v / 8589934592 ≡ 0 = room_v in
        let clear : w / 4294967296 % 2 ≢ 1 = small in
        let left : (v + 4294967296 + k * 8589934592) / 4294967296 % 2 ≡ 0 = omega (arith, set, above_v) in
        let right : (w + 4294967296 + n * 8589934592) / 4294967296 % 2 ≡ 1 = omega (arith, clear, above_w) in
        absurd (differ (sym (ap (λ (z : ℕ). z == 1) left) ∙ same ∙ ap (λ (z : ℕ). z == 1) right))
      where
        differ : false ≡ true → ⊥
        differ e = cc e
    go false same true e =
        let set : v / 4294967296 % 2 ≡ 1 = eqb-true (v / 4294967296 % 2) 1 e in
        let above_w : w / 8589934592 ≡ 0 = room_w in
        let above_v : v / 8589934592 ≡ 0 = room_v in
        let clear : w / 4294967296 % 2 ≢ 1 = small in
        let left : (v + 0 + k * 8589934592) / 4294967296 % 2 ≡ 1 = omega (arith, set, above_v) in
        let right : (w + 0 + n * 8589934592) / 4294967296 % 2 ≡ 0 = omega (arith, clear, above_w) in
        absurd (differ (sym (ap (λ (z : ℕ). z == 1) left) ∙ same ∙ ap (λ (z : ℕ). z == 1) right))
      where
        differ : true ≡ false → ⊥
        differ e = cc e

module _ (x y : Slots) (same : y.machine.layout ≡ x.machine.layout) (from : IsReached x.machine) (to : IsReached y.machine) (plain : ArePlain x.machine) where
  abbrev l : Layout'
  l = x.machine.layout

  inside_y : (m : ℕ) → IsOurs l m → slot_of m < y.machine.layout.mutexes
  inside_y m ours = subst (λ (j : Layout'). slot_of m < j.mutexes) (sym same) (our_slot l m ours)

  -- what memory shows of the slot is alike, and AWAKE is as it was
  pub alike_plain : ((m : ℕ) → IsOurs l m → Alike (shown y (cell_place l (slot_of m))) (shown x (cell_place l (slot_of m)))) → y.awake ≡ x.awake → (m : ℕ) → IsOurs l m → IsPlain y.machine m
  alike_plain alike awake m ours = record {
    waiters = sym (shows_at y k (inside_y m ours)).waiters ∙ (here.0 ∙ (shows_at x k (our_slot l m ours)).waiters) ∙ (plain m ours).waiters;
    usable = usable_word (x.machine.words (cell_place l k)) (y.machine.words (cell_place y.machine.layout k)) (x.turns k) (y.turns k) (is_slot k && x.awake (our_own k))
        ((words_sound x.machine from).room k (our_slot l m ours)) ((words_sound y.machine to).room k (inside_y m ours)) (plain m ours).usable
        (ap (λ (u : ℕ). (fields_of u).unusable) (sym (shown_cell y k (inside_y m ours) ∙ (λ i. y.machine.words (cell_place y.machine.layout k) + bit (is_slot k && awake i (our_own k)) 4294967296 + y.turns k * 8589934592)))
        ∙ here.1 ∙ ap (λ (u : ℕ). (fields_of u).unusable) (shown_cell x k (our_slot l m ours)));
  }
    where
      k : ℕ
      k = slot_of m

      here : Alike (shown y (cell_place y.machine.layout (slot_of m))) (shown x (cell_place l (slot_of m)))
      here = subst (λ (j : Layout'). Alike (shown y (cell_place j (slot_of m))) (shown x (cell_place l (slot_of m)))) (sym same) (alike m ours)

-- ---- what isn't an access of ours

pub still_plain : (s z : State) (m : ℕ) → z.words (cell_place z.layout (slot_of m)) ≡ s.words (cell_place s.layout (slot_of m)) → IsPlain s m → IsPlain z m
still_plain s z m same p = record { waiters = ap (λ (w : ℕ). (fields_of w).waiters) same ∙ p.waiters; usable = ap (λ (w : ℕ). (fields_of w).unusable) same ∙ p.usable }

walk_alike : (h : ℕ) (r : walk_row.Row) (w : ℕ) (q : List ℕ) → Alike (word_among (exit.row_access h r) w q) w
walk_alike h walk_row.Row.LoadFirst w q = (refl, refl)
walk_alike h (walk_row.Row.LoadOffset f) w q = (refl, refl)
walk_alike h (walk_row.Row.LoadPending f o) w q = (refl, refl)
walk_alike h (walk_row.Row.LoadNext r) w q = (refl, refl)
walk_alike h (walk_row.Row.LoadWord at part) w q = (refl, refl)
walk_alike h (walk_row.Row.Mark at v again part) w q = go (w == v) refl
  where
    is : fields_of (exit.marked_word v) ≡ marked (fields_of v)
    is = fields_of-word_of (marked (fields_of v)) (omega arith)

    go : (b : Bool) → (w == v) ≡ b → Alike (if b then exit.marked_word v else w) w
    go true e = (
      ap (λ (f : Fields). f.waiters) is ∙ ap (λ (u : ℕ). (fields_of u).waiters) (sym (eqb-true w v e)),
      ap (λ (f : Fields). f.unusable) is ∙ ap (λ (u : ℕ). (fields_of u).unusable) (sym (eqb-true w v e)),
    )
    go false e = (refl, refl)
walk_alike h (walk_row.Row.WakeOne at part) w q = (refl, refl)
walk_alike h walk_row.Row.Ended w q = (refl, refl)

module _ (s : State) (t m : ℕ) (p : IsPlain s m) where
  abbrev PlainThen : After → Type 0
  PlainThen a = IsPlain a.state m

  pub leave_plain : IsPlain (happens s (Leave t)).state m
  leave_plain = by_test PlainThen (has_thread s t && is_asleep s t) (departed s t) (nothing s) (λ e. still_plain s (departed s t).state m refl p) (λ e. p)

  expired_plain : (h : ℕ) (g : Stage) → PlainThen (expired s t h g)
  expired_plain h (Calling (OnMutex c) q) = by_test PlainThen (is_timed (OnMutex c) && may_expire q.phase && sleeps s t (Calling (OnMutex c) q)) (lapsed s t h (OnMutex c) q) (nothing s) (λ e. still_plain s (lapsed s t h (OnMutex c) q).state m refl p) (λ e. p)
  expired_plain h (Calling (OnCondition c) q) = by_test PlainThen (is_timed (OnCondition c) && waits_on s t (condition_of c)) (overslept s t h (condition_of c) q) (nothing s) (λ e. still_plain s (overslept s t h (condition_of c) q).state m refl p) (λ e. p)
  expired_plain h Idle = p
  expired_plain h (AtCondition c q) = p
  expired_plain h (Dying w) = p
  expired_plain h Reaped = p

  pub expire_plain : IsPlain (happens s (Expire t)).state m
  expire_plain = by_test PlainThen (has_thread s t) (expired s t (s.threads t).held (s.threads t).stage) (nothing s) (λ e. expired_plain (s.threads t).held (s.threads t).stage) (λ e. p)

  pub kill_plain : IsPlain (happens s (Kill t)).state m
  kill_plain = by_test PlainThen (has_thread s t && is_alive (s.threads t).stage) (killed s t) (nothing s) (λ e. still_plain s (killed s t).state m refl p) (λ e. p)

  pub renew_plain : 1 ≤ t → t ≤ s.layout.threads → IsPlain (happens s (Renew t)).state m
  renew_plain pos known = by_test PlainThen (has_thread s t && is_gone (s.threads t).stage) (renewed s t) (nothing s) (λ e. still_plain s (renewed s t).state m (renewed_cell s t pos known (slot_of m)) p) (λ e. p)

  pub walk_plain : Kept s → 1 ≤ t → t ≤ s.layout.threads → (w : walks.Standing) → (s.threads t).stage ≡ Dying w → IsPlain (happens s (Step t)).state m
  walk_plain inv pos known w is = subst (λ (z : State). IsPlain z m) (sym (walk_goes s t w inv pos known is)) (record {
    waiters = by_put (λ (u : ℕ). (fields_of u).waiters ≡ false) s.words at new (cell_place s.layout (slot_of m)) (λ e. (walk_alike (head_in s.layout t) w.row (s.words at) (s.queues at)).0 ∙ ap (λ (u : ℕ). (fields_of (s.words u)).waiters) (sym e) ∙ p.waiters) (λ e. p.waiters);
    usable = by_put (λ (u : ℕ). (fields_of u).unusable ≡ false) s.words at new (cell_place s.layout (slot_of m)) (λ e. (walk_alike (head_in s.layout t) w.row (s.words at) (s.queues at)).1 ∙ ap (λ (u : ℕ). (fields_of (s.words u)).unusable) (sym e) ∙ p.usable) (λ e. p.usable);
  })
    where
      at : ℕ
      at = place_met s.layout t (walk_access s t w.row)

      new : ℕ
      new = word_among (walk_access s t w.row) (s.words at) (s.queues at)
