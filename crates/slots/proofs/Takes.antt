-- Load and exchange of the machine's lock or trylock, of any call that takes: the one exchange of the C library.
use Rattle.std.proofs.Common.{◌≡◌, ◌≢◌, ℕ, zero, suc, ◌+◌, ◌*◌, ◌<◌, ◌≤◌, ◌/◌, ◌%◌, ◌==◌, Bool, true, false, None, [], ◌∷◌, refl, sym, ap, ◌∙◌, subst, arith, eq-eqb, eqb-true}
use Rattle.std.specs.Prelude.{if◌then◌else◌, not, ◌&&◌, ◌||◌}
use Rattle.lockword.specs.Cells.{Fields, bit, fields_of, word_of, taken}
use Rattle.lockword.specs.Coding.{word_of-fields_of, fields_of-word_of}
use Rattle.stepprograms.specs.declared.access.Access.{Access}
use Rattle.stepprograms.specs.declared.access.Answer.TheVariants.{Exchanged, Changed}
use Rattle.stepprograms.specs.Accesses.{answer_among}
use Rattle.memorymap.specs.Layouts.{cell_place, place_in}
use Rattle.mutex.specs.declared.lock.LockRow.TheVariants as lock
use Rattle.mutex.specs.declared.try_lock.TryLockRow.TheVariants as try
use Rattle.mutex.specs.declared.row.Row as mutex_row
use Rattle.mutex.specs.declared.row.Row.TheVariants.{Lock, TryLock}
use Rattle.mutex.specs.declared.phase.Phase.{Phase}
use Rattle.mutex.specs.declared.phase.Phase.TheVariants.{AtCell}
use Rattle.mutex.specs.declared.phase.Onward.{Onward}
use Rattle.mutex.specs.Lock.{lock_sees}
use Rattle.mutex.specs.TryLock.{try_sees}
use Rattle.mutex.specs.Rows.{acquired, ends, goes}
use Rattle.mutex.specs.Standings.{Whole}
use Rattle.mutex.specs.Whole.{from_cell, leaving, whole_access, whole_led}
use Rattle.condvar.specs.declared.op.Op.{Op}
use Rattle.condvar.specs.Ops.{mutex_of}
use Rattle.protocol.specs.declared.event.Event.TheVariants.{Step}
use Rattle.protocol.specs.declared.thread.Thread.{Thread}
use Rattle.protocol.specs.declared.thread.Stage.TheVariants.{Calling}
use Rattle.protocol.specs.Machine.{State, After, put, happens, place_met, run, stage_after, stands_in, is_unusable}
use Rattle.protocol.proofs.Kept.{Kept, Fits, last_thread}
use Rattle.protocol.proofs.Accesses.{fits_in}
use Rattle.protocol.proofs.Puts.{by_put, put-same, put-other}
use Rattle.protocol.proofs.Queued.{out_awake}
use Rattle.protocol.proofs.Runs.{sound}
use Rattle.protocol.proofs.Seeing.{cell_again}
use Rattle.protocol.proofs.Steps.{done, onto, thread_after, call_step}
use Rattle.protocol.proofs.Working.{call_goes}
use Rattle.slots.specs.Shown.{took, turned, turned_by}
use Rattle.slots.specs.Invariant.{fields_at}
use Rattle.slots.proofs.Shows.{turn_stays, put_there}

-- a lock's load, or a trylock's; and the exchange that follows
abbrev pub load_of : Bool → mutex_row.Row
load_of true = Lock lock.Load
load_of false = TryLock try.Load

abbrev pub take_of : Bool → Fields → mutex_row.Row
take_of true c = Lock (lock.Take c)
take_of false c = TryLock (try.Take c 0)

pub not_equal : (a b : ℕ) → a ≢ b → (a == b) ≡ false
not_equal a b apart = go (a == b) refl
  where
    go : (y : Bool) → (a == b) ≡ y → y ≡ false
    go false e = refl
    go true e = absurd (apart (eqb-true a b e))

abbrev at_cell : Whole → mutex_row.Row → Whole
at_cell p r = record p { phase = AtCell r }

load_access : (b : Bool) (p : Whole) → whole_access (at_cell p (load_of b)) ≡ Access.Load p.cell
load_access true p = refl
load_access false p = refl

take_access : (b : Bool) (p : Whole) (c : Fields) → whole_access (at_cell p (take_of b c)) ≡ Access.Exchange p.cell (word_of c) (word_of (taken c p.thread))
take_access true p c = refl
take_access false p c = refl

exchanged_ends : (b : Bool) (p : Whole) (c : Fields) → whole_led (at_cell p (take_of b c)) Exchanged ≡ from_cell (at_cell p (take_of b c)) (ends (acquired c))
exchanged_ends true p c = refl
exchanged_ends false p c = refl

lock_takes : (t : ℕ) (c : Fields) → c.unusable ≡ false → (c.owner == t) ≡ false → (c.owner == 0) ≡ true → lock_sees t c ≡ goes (Lock (lock.Take c))
lock_takes t c usable other none = grind (arith)

try_takes : (c : Fields) → c.unusable ≡ false → (c.owner == 0) ≡ true → try_sees 0 c ≡ goes (TryLock (try.Take c 0))
try_takes c usable none = grind (arith)

-- a free mutex leads from the load to the exchange
leads_from : (b : Bool) (s : State) (t : ℕ) (p : Whole) (pl : ℕ) → place_in s.layout t p.cell ≡ pl → p.thread ≡ t → 1 ≤ t → (fields_of (s.words pl)).owner ≡ 0 → (fields_of (s.words pl)).unusable ≡ false
    → onto s t (at_cell p (load_of b)) ≡ record { phase = AtCell (take_of b (fields_of (s.words pl))); point = None }
leads_from true s t p pl place mine pos none usable =
    (λ i. from_cell (at_cell p (load_of true)) (lock_sees (mine i) (fields_of (s.words (place i)))))
    ∙ ap (from_cell (at_cell p (load_of true))) (lock_takes t (fields_of (s.words pl)) usable (not_equal (fields_of (s.words pl)).owner t (λ e. omega (arith, e, none, pos))) (eq-eqb (fields_of (s.words pl)).owner 0 none))
leads_from false s t p pl place mine pos none usable =
    (λ i. from_cell (at_cell p (load_of false)) (try_sees 0 (fields_of (s.words (place i)))))
    ∙ ap (from_cell (at_cell p (load_of false))) (try_takes (fields_of (s.words pl)) usable (eq-eqb (fields_of (s.words pl)).owner 0 none))

module _ (s : State) (t : ℕ) (o : Op) (p : Whole) (b : Bool) (inv : Kept s) (pos : 1 ≤ t) (known : t ≤ s.layout.threads)
    (is : (s.threads t).stage ≡ Calling o (at_cell p (load_of b))) (out : (key : ℕ) → stands_in t (s.queues key) ≡ false)
    (none : (fields_at s (mutex_of s.layout o)).owner ≡ 0) (usable : (fields_at s (mutex_of s.layout o)).unusable ≡ false) where
  abbrev k : ℕ
  k = mutex_of s.layout o

  abbrev pl : ℕ
  pl = cell_place s.layout k

  abbrev c : Fields
  c = fields_at s k

  fits : Fits s t (s.threads t).held k (at_cell p (load_of b))
  fits = (fits_in s t o (at_cell p (load_of b)) inv pos known is).0

  place : place_in s.layout t p.cell ≡ pl
  place = ap (place_in s.layout t) fits.cell ∙ cell_again s.layout t inv.layout pos known k fits.inside

  -- ---- the load
  abbrev th1 : Thread
  th1 = thread_after s t (call_step s t o (at_cell p (load_of b)))

  abbrev s1 : State
  s1 = done s t (Access.Load p.cell) th1

  to1 : (happens s (Step t)).state ≡ s1
  to1 = ap (λ (a : After). a.state) (call_goes s t o (at_cell p (load_of b)) inv pos known is (out_awake s t out)) ∙ ap (λ (a : Access). done s t a th1) (load_access b p)

  words1 : (q : ℕ) → s1.words q ≡ s.words q
  words1 q = put_there s.words (place_in s.layout t p.cell) q

  inv1 : Kept s1
  inv1 = subst Kept to1 (sound s (Step t) inv).kept

  out1 : (key : ℕ) → stands_in t (s1.queues key) ≡ false
  out1 key = ap (stands_in t) (put_there s.queues (place_in s.layout t p.cell) key) ∙ out key

  is1 : (s1.threads t).stage ≡ Calling o (at_cell p (take_of b c))
  is1 = ap (λ (z : Thread). z.stage) (put-same s.threads t th1) ∙ ap (λ (g : Onward). stage_after o (at_cell p (load_of b)) g.phase) (leads_from b s t p pl place fits.mine pos none usable)

  -- ---- the exchange
  abbrev th2 : Thread
  th2 = thread_after s1 t (call_step s1 t o (at_cell p (take_of b c)))

  abbrev new_word : ℕ
  new_word = word_of (taken c t)

  abbrev s2 : State
  s2 = done s1 t (Access.Exchange p.cell (word_of c) (word_of (taken c p.thread))) th2

  to2 : (happens s1 (Step t)).state ≡ s2
  to2 = ap (λ (a : After). a.state) (call_goes s1 t o (at_cell p (take_of b c)) inv1 pos known is1 (out_awake s1 t out1)) ∙ ap (λ (a : Access). done s1 t a th2) (take_access b p c)

  same_word : (s1.words pl == word_of c) ≡ true
  same_word = eq-eqb (s1.words pl) (word_of c) (words1 pl ∙ sym (word_of-fields_of (s.words pl)))

  words2 : (q : ℕ) → s2.words q ≡ put s.words pl new_word q
  words2 q =
      (λ i. put s1.words (place i) (if s1.words (place i) == word_of c then word_of (taken c (fits.mine i)) else s1.words (place i)) q)
      ∙ ap (λ (d : Bool). put s1.words pl (if d then new_word else s1.words pl) q) same_word
      ∙ by_put (λ v. v ≡ put s.words pl new_word q) s1.words pl new_word q
      (λ here. sym (ap (put s.words pl new_word) here ∙ put-same s.words pl new_word))
      (λ apart. words1 q ∙ sym (put-other s.words pl new_word q apart))

  pub both_to : run s (Step t ∷ Step t ∷ []) ≡ s2
  both_to = ap (λ (z : State). (happens z (Step t)).state) to1 ∙ to2

  pub both_words : (q : ℕ) → (run s (Step t ∷ Step t ∷ [])).words q ≡ put s.words pl new_word q
  both_words q = ap (λ (z : State). z.words q) both_to ∙ words2 q

  pub both_queues : (q : ℕ) → (run s (Step t ∷ Step t ∷ [])).queues q ≡ s.queues q
  both_queues q = ap (λ (z : State). z.queues q) both_to ∙ put_there s1.queues (place_in s.layout t p.cell) q ∙ put_there s.queues (place_in s.layout t p.cell) q

  pub both_layout : (run s (Step t ∷ Step t ∷ [])).layout ≡ s.layout
  both_layout = ap (λ (z : State). z.layout) both_to

  -- it leads to the link
  abbrev p2 : Whole
  p2 = at_cell p (take_of b c)

  onto2 : onto s1 t p2 ≡ from_cell p2 (ends (acquired c))
  onto2 =
      ap (λ (a : Access). whole_led p2 (answer_among a (s1.words (place_met s.layout t a)) (s1.queues (place_met s.layout t a)))) (take_access b p c)
      ∙ (λ i. whole_led p2 (if s1.words (place i) == word_of c then Exchanged else Changed (s1.words (place i))))
      ∙ ap (λ (d : Bool). whole_led p2 (if d then Exchanged else Changed (s1.words pl))) same_word
      ∙ exchanged_ends b p c

  pub both_stage : (f : Phase) → leaving p2 p.operation (acquired c) ≡ f → stage_after o p2 f ≡ Calling o (record p { phase = f }) → ((run s (Step t ∷ Step t ∷ [])).threads t).stage ≡ Calling o (record p { phase = f })
  both_stage f leads going =
      ap (λ (z : State). (z.threads t).stage) both_to
      ∙ ap (λ (y : Thread). y.stage) (put-same s1.threads t th2)
      ∙ ap (λ (g : Onward). stage_after o p2 g.phase) onto2
      ∙ ap (stage_after o p2) leads ∙ going

  -- ---- the turns
  turns_are : (turns : ℕ → ℕ) (j : ℕ) → turned_by s (Step t ∷ Step t ∷ []) turns j ≡ turned s1 s2 (turned s s1 turns) j
  turns_are turns j = (λ i. turned (to1 i) (happens (to1 i) (Step t)).state (turned s (to1 i) turns) j) ∙ (λ i. turned s1 (to2 i) (turned s s1 turns) j)

  pub turns_else : (turns : ℕ → ℕ) (j : ℕ) → j ≢ k → turned_by s (Step t ∷ Step t ∷ []) turns j ≡ turns j
  turns_else turns j apart =
      turns_are turns j
      ∙ turn_stays s1 s2 (turned s s1 turns) j refl (words2 (cell_place s.layout j) ∙ put-other s.words pl new_word (cell_place s.layout j) (λ e. apart (omega (arith, e))) ∙ sym (words1 (cell_place s.layout j)))
      ∙ turn_stays s s1 turns j refl (words1 (cell_place s.layout j))

  small : t < 1073741824
  small = let most = last_thread s t inv known in omega (arith, most)

  took_it : took s1 s2 k ≡ true
  took_it = (λ i. (not (not (unowned i)) && not (owned i)) || (is_unusable s1 k && not (fields_of (s2.words pl)).unusable))
    where
      unowned : ((fields_of (s1.words pl)).owner == 0) ≡ true
      unowned = eq-eqb (fields_of (s1.words pl)).owner 0 (ap (λ (w : ℕ). (fields_of w).owner) (words1 pl) ∙ none)

      owner_is : (fields_of (s2.words pl)).owner ≡ t
      owner_is = ap (λ (w : ℕ). (fields_of w).owner) (words2 pl ∙ put-same s.words pl new_word) ∙ ap (λ (d : Fields). d.owner) (fields_of-word_of (taken c t) small)

      owned : ((fields_of (s2.words pl)).owner == 0) ≡ false
      owned = not_equal (fields_of (s2.words pl)).owner 0 (λ e. omega (arith, e, owner_is, pos))

  pub turn_more : (turns : ℕ → ℕ) → turned_by s (Step t ∷ Step t ∷ []) turns k ≡ turns k + 1
  turn_more turns =
      turns_are turns k
      ∙ ap (λ (d : Bool). if d then turned s s1 turns k + 1 else turned s s1 turns k) took_it
      ∙ ap (λ (n : ℕ). n + 1) (turn_stays s s1 turns k refl (words1 pl))

-- ---- the word taken, as memory shows it with AWAKE and its turn

digit : (w : ℕ) → w / 8589934592 ≡ 0 → (w / 4294967296 % 2 == 1) ≡ false → w / 4294967296 ≡ 0
digit w room usable = go (w / 4294967296 % 2) refl
  where
    go : (d : ℕ) → w / 4294967296 % 2 ≡ d → w / 4294967296 ≡ 0
    go zero e = omega (arith, room, e)
    go (suc d) e = absurd (let one : w / 4294967296 % 2 ≡ 1 = omega (arith, e) in cc (sym usable ∙ eq-eqb (w / 4294967296 % 2) 1 one))

pub taken_shown : (w n t : ℕ) (b : Bool) → (fields_of w).rest ≡ 0 → (fields_of w).unusable ≡ false
    → word_of (taken (fields_of w) t) + bit b 4294967296 + (n + 1) * 8589934592 ≡ word_of (taken (fields_of (w + bit b 4294967296 + n * 8589934592)) t) + 8589934592
taken_shown w n t false room usable =
    let died : ((w + 0 + n * 8589934592) / 1073741824 % 2 == 1) ≡ (w / 1073741824 % 2 == 1) = ap (λ (z : ℕ). z == 1) (let e : (w + 0 + n * 8589934592) / 1073741824 % 2 ≡ w / 1073741824 % 2 = omega arith in e) in
    let waits : ((w + 0 + n * 8589934592) / 2147483648 % 2 == 1) ≡ (w / 2147483648 % 2 == 1) = ap (λ (z : ℕ). z == 1) (let e : (w + 0 + n * 8589934592) / 2147483648 % 2 ≡ w / 2147483648 % 2 = omega arith in e) in
    let lost : ((w + 0 + n * 8589934592) / 4294967296 % 2 == 1) ≡ (w / 4294967296 % 2 == 1) = ap (λ (z : ℕ). z == 1) (let e : (w + 0 + n * 8589934592) / 4294967296 % 2 ≡ w / 4294967296 % 2 = omega arith in e) in
    let above : (w + 0 + n * 8589934592) / 8589934592 ≡ n = omega (arith, room) in
    sums t (bit (w / 1073741824 % 2 == 1) 1073741824) (bit (w / 2147483648 % 2 == 1) 2147483648) (bit (w / 4294967296 % 2 == 1) 4294967296) (w / 8589934592) n room
    ∙ (λ i. t + bit (sym died i) 1073741824 + bit (sym waits i) 2147483648 + bit (sym lost i) 4294967296 + sym above i * 8589934592 + 8589934592)
  where
    sums : (t a b c r n : ℕ) → r ≡ 0 → t + a + b + c + r * 8589934592 + 0 + (n + 1) * 8589934592 ≡ t + a + b + c + n * 8589934592 + 8589934592
    sums t a b c r n none = omega (arith, none)
taken_shown w n t true room usable =
    let low : w / 4294967296 ≡ 0 = digit w room usable in
    let died : ((w + 4294967296 + n * 8589934592) / 1073741824 % 2 == 1) ≡ (w / 1073741824 % 2 == 1) = ap (λ (z : ℕ). z == 1) (let e : (w + 4294967296 + n * 8589934592) / 1073741824 % 2 ≡ w / 1073741824 % 2 = omega arith in e) in
    let waits : ((w + 4294967296 + n * 8589934592) / 2147483648 % 2 == 1) ≡ (w / 2147483648 % 2 == 1) = ap (λ (z : ℕ). z == 1) (let e : (w + 4294967296 + n * 8589934592) / 2147483648 % 2 ≡ w / 2147483648 % 2 = omega arith in e) in
    let lost : ((w + 4294967296 + n * 8589934592) / 4294967296 % 2 == 1) ≡ true = eq-eqb ((w + 4294967296 + n * 8589934592) / 4294967296 % 2) 1 (omega (arith, low)) in
    let above : (w + 4294967296 + n * 8589934592) / 8589934592 ≡ n = omega (arith, low) in
    ap (λ (d : Bool). t + bit (w / 1073741824 % 2 == 1) 1073741824 + bit (w / 2147483648 % 2 == 1) 2147483648 + bit d 4294967296 + w / 8589934592 * 8589934592 + 4294967296 + (n + 1) * 8589934592) usable
    ∙ sums t (bit (w / 1073741824 % 2 == 1) 1073741824) (bit (w / 2147483648 % 2 == 1) 2147483648) (w / 8589934592) n room
    ∙ (λ i. t + bit (sym died i) 1073741824 + bit (sym waits i) 2147483648 + bit (sym lost i) 4294967296 + sym above i * 8589934592 + 8589934592)
  where
    sums : (t a b r n : ℕ) → r ≡ 0 → t + a + b + 0 + r * 8589934592 + 4294967296 + (n + 1) * 8589934592 ≡ t + a + b + 4294967296 + n * 8589934592 + 8589934592
    sums t a b r n none = omega (arith, none)
