-- A call of the machine begins and announces its mutex, at once or after the last call has cleared what it had pending: one store.
use Rattle.std.proofs.Common.{◌≡◌, inl, inr, ℕ, ◌+◌, ◌<◌, ◌≤◌, Bool, true, false, Result, Ok, Err, List, refl, sym, ap, ◌∙◌, subst, arith}
use Rattle.std.specs.Prelude.{if◌then◌else◌, nat_lt, nat_le, ◌&&◌}
use Rattle.std.proofs.lemmas.Bool.Decides.{nat_tests}
use Rattle.lockword.specs.declared.reply.Reply.{Reply}
use Rattle.lockword.specs.declared.reply.Reply.TheVariants.{XHELD}
use Rattle.stepprograms.specs.declared.access.Access.{Access}
use Rattle.memorymap.specs.Layouts.{Layout', cell_place, head_place, address_in, place_in}
use Rattle.mutex.specs.declared.call.Call.{Call}
use Rattle.mutex.specs.declared.call.Call.TheVariants.{TimedLock, TryLock}
use Rattle.mutex.specs.declared.phase.Phase.TheVariants.{Clearing}
use Rattle.mutex.specs.Standings.{Whole}
use Rattle.mutex.specs.Whole as whole
use Rattle.mutex.specs.Whole.{whole_access, phase_access, pending_place}
use Rattle.mutex.proofs.Addresses.{head_further, head_word_again}
use Rattle.condvar.specs.declared.op.Op.{Op}
use Rattle.condvar.specs.declared.op.Op.TheVariants.{OnMutex}
use Rattle.protocol.specs.declared.event.Event.{Event}
use Rattle.protocol.specs.declared.event.Event.TheVariants.{Begin, Step}
use Rattle.protocol.specs.declared.thread.Thread.{Thread}
use Rattle.protocol.specs.declared.thread.Stage.{Stage}
use Rattle.protocol.specs.declared.thread.Stage.TheVariants.{Idle, Calling}
use Rattle.protocol.specs.Machine.{State, After, put, begun, happens, nothing, run, has_thread, is_idle, may_begin, first_stage, stage_begun, stands_in}
use Rattle.protocol.proofs.Kept.{Kept}
use Rattle.protocol.proofs.Accesses.{fits_in}
use Rattle.protocol.proofs.Events.{is_known}
use Rattle.protocol.proofs.Places.{mine_is_valid, mine_is_no_cell, mine_is_no_counter}
use Rattle.protocol.proofs.Puts.{by_put, put-same, put-other}
use Rattle.protocol.proofs.Queued.{out_awake}
use Rattle.protocol.proofs.Runs.{sound}
use Rattle.protocol.proofs.Seeing.{head_in, entry_in}
use Rattle.protocol.proofs.Steps.{done, thread_after, call_step}
use Rattle.protocol.proofs.Working.{call_goes}
use Rattle.slots.specs.Places.{cell_of, slot_of}
use Rattle.slots.specs.Rows.{Choice, How, Row, Taking}
use Rattle.slots.specs.Rows.How.{Tried, Later, Waited}
use Rattle.slots.specs.Rows.Before.{Linked, Mended}
use Rattle.slots.specs.Shown.{Slots, after, memory, turned, turned_by}
use Rattle.slots.specs.Stands.{StandsAs, IsThrough}
use Rattle.slots.specs.Seen.{begins, begins_behind}
use Rattle.slots.specs.Table.{made}
use Rattle.slots.specs.Runs.{awake_after, slept_after, turns_after}
use Rattle.slots.specs.Accesses.{IsAtRow, IsAnnouncing, AnnouncingRowsAreEvents}
use Rattle.slots.proofs.Free.{reached_kept}
use Rattle.slots.proofs.Looks.{IsQuiet}
use Rattle.slots.proofs.OneStep.{AreEvents}
use Rattle.slots.proofs.Shows.{shows_put, turn_stays, put_there, stores, store_queues}

-- a lock with a deadline, or a trylock
abbrev pub call_of : Bool → ℕ → Call
call_of true k = TimedLock k
call_of false k = TryLock k

may_call_it : (b : Bool) (s : State) (t k : ℕ) → has_thread s t ≡ true → (s.threads t).stage ≡ Idle → k < s.layout.mutexes → may_begin s t (OnMutex (call_of b k)) ≡ true
may_call_it true s t k there is inside = let below : nat_lt k s.layout.mutexes ≡ true = grind (arith, nat_tests) in λ i. there i && is_idle (is i) && below i
may_call_it false s t k there is inside = let below : nat_lt k s.layout.mutexes ≡ true = grind (arith, nat_tests) in λ i. there i && is_idle (is i) && below i

first_at : (b : Bool) (l : Layout') (t held k : ℕ) → nat_le 2048 held ≡ false → first_stage l t held (OnMutex (call_of b k)) ≡ Ok (Calling (OnMutex (call_of b k)) (whole.begins l t (call_of b k)))
first_at true l t held k free = ap (λ (d : Bool). stage_begun (TimedLock k) (if d then Err XHELD else Ok (whole.begins l t (TimedLock k)))) free
first_at false l t held k free = ap (λ (d : Bool). stage_begun (TryLock k) (if d then Err XHELD else Ok (whole.begins l t (TryLock k)))) free

announces : (b : Bool) (l : Layout') (t k : ℕ) → whole_access (whole.begins l t (call_of b k)) ≡ Access.Store (pending_place (head_in l t)) (entry_in l t k)
announces true l t k = refl
announces false l t k = refl

-- ---- from rest

module _ (s : State) (t k : ℕ) (b : Bool) (inv : Kept s) (pos : 1 ≤ t) (known : t ≤ s.layout.threads) (inside : k < s.layout.mutexes) (is : (s.threads t).stage ≡ Idle) (out : (key : ℕ) → stands_in t (s.queues key) ≡ false) (room : (s.threads t).held < 2048) where
  abbrev o : Op
  o = OnMutex (call_of b k)

  abbrev starts : Whole
  starts = whole.begins s.layout t (call_of b k)

  abbrev s1 : State
  s1 = record s { threads = put s.threads t (record (s.threads t) { stage = Calling o starts }) }

  to1 : (happens s (Begin t o)).state ≡ s1
  to1 =
      ap (λ (d : Bool). (if d then begun s t o (first_stage s.layout t (s.threads t).held o) else nothing s).state) (may_call_it b s t k (is_known s t pos known) is inside)
      ∙ ap (λ (r : Result Stage Reply). (begun s t o r).state) (first_at b s.layout t (s.threads t).held k (grind (arith, nat_tests)))

  is1 : (s1.threads t).stage ≡ Calling o starts
  is1 = ap (λ (z : Thread). z.stage) (put-same s.threads t (record (s.threads t) { stage = Calling o starts }))

  abbrev th : Thread
  th = thread_after s1 t (call_step s1 t o starts)

  abbrev s2 : State
  s2 = done s1 t (Access.Store (pending_place (head_in s.layout t)) (entry_in s.layout t k)) th

  to2 : (happens s1 (Step t)).state ≡ s2
  to2 = ap (λ (a : After). a.state) (call_goes s1 t o starts (subst Kept to1 (sound s (Begin t o) inv).kept) pos known is1 (out_awake s1 t out)) ∙ ap (λ (a : Access). done s1 t a th) (announces b s.layout t k)

  place : place_in s.layout t (pending_place (head_in s.layout t)) ≡ head_place t + 2
  place = head_word_again s.layout t inv.layout pos known 2 (omega arith)

  words2 : (q : ℕ) → s2.words q ≡ put s.words (head_place t + 2) (entry_in s.layout t k) q
  words2 q = λ i. put s.words (place i) (entry_in s.layout t k) q

  pub rest_to : run s (begins t (call_of b k)) ≡ s2
  rest_to = ap (λ (z : State). (happens z (Step t)).state) to1 ∙ to2

  pub rest_words : (q : ℕ) → (run s (begins t (call_of b k))).words q ≡ put s.words (head_place t + 2) (entry_in s.layout t k) q
  rest_words q = ap (λ (z : State). z.words q) rest_to ∙ words2 q

  pub rest_queues : (q : ℕ) → (run s (begins t (call_of b k))).queues q ≡ s.queues q
  rest_queues q = ap (λ (z : State). z.queues q) rest_to ∙ put_there s.queues (place_in s.layout t (pending_place (head_in s.layout t))) q

  pub rest_layout : (run s (begins t (call_of b k))).layout ≡ s.layout
  rest_layout = ap (λ (z : State). z.layout) rest_to

  pub rest_turns : (turns : ℕ → ℕ) (j : ℕ) → j < s.layout.mutexes → turned_by s (begins t (call_of b k)) turns j ≡ turns j
  rest_turns turns j in_j =
      (λ i. turned (to1 i) (happens (to1 i) (Step t)).state (turned s (to1 i) turns) j)
      ∙ (λ i. turned s1 (to2 i) (turned s s1 turns) j)
      ∙ turn_stays s1 s2 (turned s s1 turns) j refl (words2 (cell_place s.layout j) ∙ put-other s.words (head_place t + 2) (entry_in s.layout t k) (cell_place s.layout j) (λ e. mine_is_no_cell s t (head_place t + 2) j pos known in_j (inr (inl refl)) (sym e)))
      ∙ turn_stays s s1 turns j refl refl

-- ---- after a call that has only to clear what it had pending

module _ (s : State) (t k : ℕ) (b : Bool) (e : Op) (p : Whole) (y : Reply) (inv : Kept s) (pos : 1 ≤ t) (known : t ≤ s.layout.threads) (inside : k < s.layout.mutexes) (is : (s.threads t).stage ≡ Calling e (record p { phase = Clearing y })) (out : (key : ℕ) → stands_in t (s.queues key) ≡ false) (room : (s.threads t).held < 2048) where
  abbrev th1 : Thread
  th1 = thread_after s t (call_step s t e (record p { phase = Clearing y }))

  abbrev c1 : State
  c1 = done s t (Access.Store (pending_place p.head) 0) th1

  cleared_to : (happens s (Step t)).state ≡ c1
  cleared_to = ap (λ (a : After). a.state) (call_goes s t e (record p { phase = Clearing y }) inv pos known is (out_awake s t out))

  at_head : place_in s.layout t (pending_place p.head) ≡ head_place t + 2
  at_head = ap (λ (h : ℕ). place_in s.layout t (pending_place h)) (fits_in s t e (record p { phase = Clearing y }) inv pos known is).0.head ∙ head_word_again s.layout t inv.layout pos known 2 (omega arith)

  rests : (c1.threads t).stage ≡ Idle
  rests = ap (λ (z : Thread). z.stage) (put-same s.threads t th1)

  held_same : (c1.threads t).held ≡ (s.threads t).held
  held_same = ap (λ (z : Thread). z.held) (put-same s.threads t th1) ∙ grind (arith)

  c_words : (q : ℕ) → c1.words q ≡ put s.words (head_place t + 2) 0 q
  c_words q = λ i. put s.words (at_head i) 0 q

  c_inv : Kept c1
  c_inv = subst Kept cleared_to (sound s (Step t) inv).kept

  c_out : (key : ℕ) → stands_in t (c1.queues key) ≡ false
  c_out key = ap (stands_in t) (put_there s.queues (place_in s.layout t (pending_place p.head)) key) ∙ out key

  c_room : (c1.threads t).held < 2048
  c_room = subst (λ (h : ℕ). h < 2048) (sym held_same) room

  pub behind_words : (q : ℕ) → (run s (begins_behind t (call_of b k))).words q ≡ put s.words (head_place t + 2) (entry_in s.layout t k) q
  behind_words q =
      ap (λ (z : State). (run z (begins t (call_of b k))).words q) cleared_to
      ∙ rest_words c1 t k b c_inv pos known inside rests c_out c_room q
      ∙ by_put (λ v. v ≡ put s.words (head_place t + 2) (entry_in s.layout t k) q) c1.words (head_place t + 2) (entry_in s.layout t k) q
      (λ here. sym (ap (put s.words (head_place t + 2) (entry_in s.layout t k)) here ∙ put-same s.words (head_place t + 2) (entry_in s.layout t k)))
      (λ apart. c_words q ∙ put-other s.words (head_place t + 2) 0 q apart ∙ sym (put-other s.words (head_place t + 2) (entry_in s.layout t k) q apart))

  pub behind_queues : (q : ℕ) → (run s (begins_behind t (call_of b k))).queues q ≡ s.queues q
  behind_queues q = ap (λ (z : State). (run z (begins t (call_of b k))).queues q) cleared_to ∙ rest_queues c1 t k b c_inv pos known inside rests c_out c_room q ∙ put_there s.queues (place_in s.layout t (pending_place p.head)) q

  pub behind_layout : (run s (begins_behind t (call_of b k))).layout ≡ s.layout
  behind_layout = ap (λ (z : State). (run z (begins t (call_of b k))).layout) cleared_to ∙ rest_layout c1 t k b c_inv pos known inside rests c_out c_room

  pub behind_turns : (turns : ℕ → ℕ) (j : ℕ) → j < s.layout.mutexes → turned_by s (begins_behind t (call_of b k)) turns j ≡ turns j
  behind_turns turns j in_j =
      (λ i. turned_by (cleared_to i) (begins t (call_of b k)) (turned s (cleared_to i) turns) j)
      ∙ rest_turns c1 t k b c_inv pos known inside rests c_out c_room (turned s c1 turns) j in_j
      ∙ turn_stays s c1 turns j refl (c_words (cell_place s.layout j) ∙ put-other s.words (head_place t + 2) 0 (cell_place s.layout j) (λ same. mine_is_no_cell s t (head_place t + 2) j pos known in_j (inr (inl refl)) (sym same)))

-- ---- as memory shows it

module _ (x : Slots) (t : ℕ) (c : Choice) (at : IsAtRow x t) (k : ℕ) (inside : k < x.machine.layout.mutexes) (room : (x.machine.threads t).held < 2048) where
  inv_x : Kept x.machine
  inv_x = reached_kept x.machine at.reached

  abbrev store : Access
  store = Access.Store (address_in x.machine.layout t (head_place t + 2)) (entry_in x.machine.layout t k)

  place_x : place_in x.machine.layout t (address_in x.machine.layout t (head_place t + 2)) ≡ head_place t + 2
  place_x = ap (place_in x.machine.layout t) (sym (head_further x.machine.layout t inv_x.layout at.first at.last 2 (omega arith))) ∙ head_word_again x.machine.layout t inv_x.layout at.first at.last 2 (omega arith)

  stored : (r next : Row) (es : List Event) → IsQuiet r → ((q : ℕ) → (run x.machine es).words q ≡ put x.machine.words (head_place t + 2) (entry_in x.machine.layout t k) q) → ((q : ℕ) → (run x.machine es).queues q ≡ x.machine.queues q)
      → (run x.machine es).layout ≡ x.machine.layout → ((j : ℕ) → j < x.machine.layout.mutexes → turned_by x.machine es x.turns j ≡ x.turns j) → AreEvents x t c r (record { access = store; events = es; next = next })
  stored r next es quiet words queues layout turns = (
    λ p. shows_put x (record (after x es) { turns = turns_after r c (after x es).turns; awake = awake_after r x.awake; slept = slept_after r x.slept; rows = put x.rows t next }) (head_place t + 2) (entry_in x.machine.layout t k)
        (record {
          layout = layout;
          awake = λ m. ap (λ (f : ℕ → Bool). f m) (quiet.awake x.awake);
          slept = λ m. ap (λ (f : ℕ → Bool). f m) (quiet.slept x.slept);
          turns = λ j in_j. ap (λ (f : ℕ → ℕ). f j) (quiet.turns c (turned_by x.machine es x.turns)) ∙ turns j in_j;
        })
        (λ j in_j. mine_is_no_cell x.machine t (head_place t + 2) j at.first at.last in_j (inr (inl refl)))
        (λ j. mine_is_no_counter x.machine t (head_place t + 2) j at.first at.last (inr (inl refl)))
        words p
        ∙ sym (stores (memory x) t (address_in x.machine.layout t (head_place t + 2)) (entry_in x.machine.layout t k) (head_place t + 2) place_x (mine_is_valid x.machine t (head_place t + 2) at.first at.last (inr (inl refl))) p),
    λ p. queues p ∙ sym (store_queues (memory x) t (address_in x.machine.layout t (head_place t + 2)) (entry_in x.machine.layout t k) p),
  )

  from_rest : (r next : Row) (b : Bool) → IsQuiet r → (x.machine.threads t).stage ≡ Idle → AreEvents x t c r (record { access = store; events = begins t (call_of b k); next = next })
  from_rest r next b quiet is = stored r next (begins t (call_of b k)) quiet
      (rest_words x.machine t k b inv_x at.first at.last inside is at.out room) (rest_queues x.machine t k b inv_x at.first at.last inside is at.out room)
      (rest_layout x.machine t k b inv_x at.first at.last inside is at.out room) (rest_turns x.machine t k b inv_x at.first at.last inside is at.out room x.turns)

  from_call : (r next : Row) (b : Bool) (e : Op) (p : Whole) (y : Reply) → IsQuiet r → (x.machine.threads t).stage ≡ Calling e p → p.phase ≡ Clearing y → AreEvents x t c r (record { access = store; events = begins_behind t (call_of b k); next = next })
  from_call r next b e p y quiet is phase =
      let so : (x.machine.threads t).stage ≡ Calling e (record p { phase = Clearing y }) = is ∙ (λ i. Calling e (record { thread = p.thread; operation = p.operation; head = p.head; entry = p.entry; cell = p.cell; phase = phase i })) in
      stored r next (begins_behind t (call_of b k)) quiet
      (behind_words x.machine t k b e p y inv_x at.first at.last inside so at.out room) (behind_queues x.machine t k b e p y inv_x at.first at.last inside so at.out room)
      (behind_layout x.machine t k b e p y inv_x at.first at.last inside so at.out room) (behind_turns x.machine t k b e p y inv_x at.first at.last inside so at.out room x.turns)

module _ (x : Slots) (t : ℕ) (c : Choice) (at : IsAtRow x t) (room : (x.machine.threads t).held < 2048) where
  through : (k : Taking) (g : ℕ) (h : How) → slot_of k.mutex < x.machine.layout.mutexes → IsThrough k.mutex h (x.machine.threads t).stage → AreEvents x t c (Row.SlotPends k g) (made x t c (Row.SlotPends k g))
  through k g Tried inside (p, is, phase) = from_call x t c at (slot_of k.mutex) inside room (Row.SlotPends k g) (Row.SlotTakes k g) false _ p _ (record { awake = λ a. refl; slept = λ a. refl; turns = λ d a. refl }) is phase
  through k g Later inside (p, is, phase) = from_call x t c at (slot_of k.mutex) inside room (Row.SlotPends k g) (Row.SlotTakes k g) false _ p _ (record { awake = λ a. refl; slept = λ a. refl; turns = λ d a. refl }) is phase
  through k g (Waited z) inside never = absurd never

  pub announcing_row : (r : Row) → StandsAs r (x.machine.threads t).stage → IsAnnouncing x r → AreEvents x t c r (made x t c r)
  announcing_row (Row.Pends k v) is inside = from_rest x t c at (cell_of k.mutex) inside room (Row.Pends k v) (made x t c (Row.Pends k v)).next false (record { awake = λ a. refl; slept = λ a. refl; turns = λ d a. refl }) is
  announcing_row (Row.TryPends m v) is inside = from_rest x t c at (cell_of m) inside room (Row.TryPends m v) (made x t c (Row.TryPends m v)).next false (record { awake = λ a. refl; slept = λ a. refl; turns = λ d a. refl }) is
  announcing_row (Row.SlotPends k g) there inside = through k g k.how inside there
  announcing_row (Row.SlotLeft k) (inl (p, is, phase)) inside = from_call x t c at (cell_of k.mutex) inside room (Row.SlotLeft k) (made x t c (Row.SlotLeft k)).next true _ p _ (record { awake = λ a. refl; slept = λ a. refl; turns = λ d a. refl }) is phase
  announcing_row (Row.SlotLeft k) (inr (p, is, phase)) inside = from_call x t c at (cell_of k.mutex) inside room (Row.SlotLeft k) (made x t c (Row.SlotLeft k)).next true _ p _ (record { awake = λ a. refl; slept = λ a. refl; turns = λ d a. refl }) is phase
  announcing_row (Row.HeirPends k Linked) (p, is, phase) inside = from_call x t c at (cell_of k.mutex) inside room (Row.HeirPends k Linked) (made x t c (Row.HeirPends k Linked)).next true _ p _ (record { awake = λ a. refl; slept = λ a. refl; turns = λ d a. refl }) is phase
  announcing_row (Row.HeirPends k Mended) is inside = from_rest x t c at (cell_of k.mutex) inside room (Row.HeirPends k Mended) (made x t c (Row.HeirPends k Mended)).next true (record { awake = λ a. refl; slept = λ a. refl; turns = λ d a. refl }) is
  announcing_row r there announcing = absurd announcing

pub announcing_rows : AnnouncingRowsAreEvents
announcing_rows x t c at room announcing = let both = announcing_row x t c at room (x.rows t) at.there announcing in record { words = both.0; queues = both.1 }
