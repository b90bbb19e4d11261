-- Rows that take: one exchange is load and exchange of the machine's call.
use Rattle.std.proofs.Common.{◌≡◌, ℕ, ◌+◌, ◌*◌, Bool, true, false, [], ◌∷◌, refl, sym, ap, ◌∙◌, subst, arith, eq-eqb}
use Rattle.std.specs.Prelude.{if◌then◌else◌, ◌&&◌}
use Rattle.lockword.specs.Cells.{bit, fields_of, word_of, taken}
use Rattle.stepprograms.specs.declared.access.Access.{Access}
use Rattle.memorymap.specs.Layouts.{cell_place}
use Rattle.mutex.specs.declared.phase.Phase.TheVariants.{AtCell}
use Rattle.mutex.specs.declared.phase.Phase.{Phase}
use Rattle.mutex.specs.Rows.{acquired}
use Rattle.mutex.specs.Standings.{Whole}
use Rattle.condvar.specs.declared.op.Op.{Op}
use Rattle.condvar.specs.Ops.{mutex_of}
use Rattle.protocol.specs.declared.event.Event.TheVariants.{Step}
use Rattle.protocol.specs.declared.thread.Stage.TheVariants.{Calling}
use Rattle.protocol.specs.Machine.{put}
use Rattle.protocol.proofs.Kept.{Kept, Fits}
use Rattle.protocol.proofs.Accesses.{fits_in}
use Rattle.protocol.proofs.Seeing.{cell_in, cell_again}
use Rattle.slots.specs.Places.{cell_of, is_slot, our_own, slot_of}
use Rattle.slots.specs.Rows.{Choice, How, Row, Taking}
use Rattle.slots.specs.Rows.How.{Tried, Later, Waited}
use Rattle.slots.specs.Shown.{Slots, after, memory, shown, shown_mutex, turned_by}
use Rattle.slots.specs.Stands.{StandsAs, IsToLook}
use Rattle.slots.specs.Words.{taken_word}
use Rattle.slots.specs.Table.{Made, made}
use Rattle.slots.specs.Runs.{awake_after, slept_after, turns_after}
use Rattle.slots.specs.Invariant.{fields_at}
use Rattle.slots.specs.Accesses.{IsAbout, IsAboutIt, IsAtRow, Finds, IsFound, TakesAreEvents}
use Rattle.slots.proofs.Free.{reached_kept}
use Rattle.slots.proofs.Looks.{IsQuiet}
use Rattle.slots.proofs.OneStep.{AreEvents}
use Rattle.slots.proofs.Shows.{IsLikeBut, shows_but, shown_cell, changes, changes_queues, cell_valid}
use Rattle.slots.proofs.Takes.{load_of, both_words, both_queues, both_layout, turns_else, turn_more, taken_shown}

module _ (x : Slots) (t : ℕ) (c : Choice) (at : IsAtRow x t) (r next : Row) (v : ℕ) (o : Op) (p : Whole) (b : Bool) (quiet : IsQuiet r)
    (is : (x.machine.threads t).stage ≡ Calling o (record p { phase = AtCell (load_of b) })) (f : Finds x (mutex_of x.machine.layout o) v) where
  abbrev k : ℕ
  k = mutex_of x.machine.layout o

  abbrev pl : ℕ
  pl = cell_place x.machine.layout k

  abbrev w : ℕ
  w = x.machine.words pl

  inv : Kept x.machine
  inv = reached_kept x.machine at.reached

  fits : Fits x.machine t (x.machine.threads t).held k (record p { phase = AtCell (load_of b) })
  fits = (fits_in x.machine t o (record p { phase = AtCell (load_of b) }) inv at.first at.last is).0

  abbrev behind : Slots
  behind = record (after x (Step t ∷ Step t ∷ [])) { turns = turns_after r c (turned_by x.machine (Step t ∷ Step t ∷ []) x.turns); awake = awake_after r x.awake; slept = slept_after r x.slept; rows = put x.rows t next }

  turns_so : (j : ℕ) → behind.turns j ≡ turned_by x.machine (Step t ∷ Step t ∷ []) x.turns j
  turns_so j = ap (λ (g : ℕ → ℕ). g j) (quiet.turns c (turned_by x.machine (Step t ∷ Step t ∷ []) x.turns))

  like : IsLikeBut x behind k
  like = record {
    layout = both_layout x.machine t o p b inv at.first at.last is at.out f.free f.usable;
    awake = λ m apart. ap (λ (g : ℕ → Bool). g m) (quiet.awake x.awake);
    slept = λ j. ap (λ (g : ℕ → Bool). g j) (quiet.slept x.slept);
    turns = λ j inside apart. turns_so j ∙ turns_else x.machine t o p b inv at.first at.last is at.out f.free f.usable x.turns j apart;
  }

  shows : shown x pl ≡ w + bit (is_slot k && x.awake (our_own k)) 4294967296 + x.turns k * 8589934592
  shows = shown_cell x k fits.inside

  value : shown_mutex behind k (word_of (taken (fields_at x.machine k) t)) ≡ taken_word v t
  value =
      (λ i. word_of (taken (fields_at x.machine k) t) + bit (is_slot k && quiet.awake x.awake i (our_own k)) 4294967296 + (turns_so k ∙ turn_more x.machine t o p b inv at.first at.last is at.out f.free f.usable x.turns) i * 8589934592)
      ∙ taken_shown w (x.turns k) t (is_slot k && x.awake (our_own k)) f.room f.usable
      ∙ ap (λ (u : ℕ). taken_word u t) (sym shows ∙ f.found)

  abbrev exchange : Access
  exchange = Access.Exchange (cell_in x.machine.layout t k) v (taken_word v t)

  pub exchange_is : AreEvents x t c r (record { access = exchange; events = Step t ∷ Step t ∷ []; next = next })
  exchange_is = (
    λ q. shows_but x behind k (word_of (taken (fields_at x.machine k) t)) fits.inside like (both_words x.machine t o p b inv at.first at.last is at.out f.free f.usable) q
        ∙ ap (λ (u : ℕ). put (shown x) pl u q) (value ∙ sym (ap (λ (d : Bool). if d then taken_word v t else shown x pl) (eq-eqb (shown x pl) v f.found)))
        ∙ sym (changes (memory x) t pl exchange tt (cell_again x.machine.layout t inv.layout at.first at.last k fits.inside) (cell_valid x.machine.layout k fits.inside) q),
    λ q. both_queues x.machine t o p b inv at.first at.last is at.out f.free f.usable q ∙ sym (changes_queues (memory x) t exchange tt q),
  )

module _ (x : Slots) (t : ℕ) (c : Choice) (at : IsAtRow x t) where
  takes_so : (r next : Row) (k v : ℕ) (o : Op) (p : Whole) (b : Bool) → IsQuiet r → (x.machine.threads t).stage ≡ Calling o p → p.phase ≡ AtCell (load_of b) → mutex_of x.machine.layout o ≡ k → Finds x k v
      → AreEvents x t c r (record { access = Access.Exchange (cell_in x.machine.layout t k) v (taken_word v t); events = Step t ∷ Step t ∷ []; next = next })
  takes_so r next k v o p b quiet is phase about finds =
      subst (λ (j : ℕ). Finds x j v → AreEvents x t c r (record { access = Access.Exchange (cell_in x.machine.layout t j) v (taken_word v t); events = Step t ∷ Step t ∷ []; next = next })) about (go (is ∙ ap (Calling o) (phase_is p (AtCell (load_of b)) phase))) finds
    where
      phase_is : (q : Whole) (f : Phase) → q.phase ≡ f → q ≡ record q { phase = f }
      phase_is q f e = λ i. record { thread = q.thread; operation = q.operation; head = q.head; entry = q.entry; cell = q.cell; phase = e i }

      go : (x.machine.threads t).stage ≡ Calling o (record p { phase = AtCell (load_of b) }) → Finds x (mutex_of x.machine.layout o) v
          → AreEvents x t c r (record { access = Access.Exchange (cell_in x.machine.layout t (mutex_of x.machine.layout o)) v (taken_word v t); events = Step t ∷ Step t ∷ []; next = next })
      go there f = exchange_is x t c at r next v o p b quiet there f

  to_take : (r next : Row) (k : Taking) (h : How) (v : ℕ) → IsQuiet r → IsToLook k h (x.machine.threads t).stage → IsAbout x.machine.layout k.mutex (x.machine.threads t).stage → Finds x (cell_of k.mutex) v
      → AreEvents x t c r (record { access = Access.Exchange (cell_in x.machine.layout t (cell_of k.mutex)) v (taken_word v t); events = Step t ∷ Step t ∷ []; next = next })
  to_take r next k Tried v quiet (p, is, phase) about finds = takes_so r next (cell_of k.mutex) v _ p false quiet is phase refl finds
  to_take r next k Later v quiet (p, is, phase) about finds = takes_so r next (cell_of k.mutex) v _ p true quiet is phase refl finds
  to_take r next k (Waited z) v quiet (o, p, is, of, acts, phase) about finds = takes_so r next (cell_of k.mutex) v _ p true quiet is phase (subst (IsAbout x.machine.layout k.mutex) is about) finds

  abbrev exchanges : ℕ → ℕ → Row → Made
  exchanges k v next = record { access = Access.Exchange (cell_in x.machine.layout t k) v (taken_word v t); events = Step t ∷ Step t ∷ []; next = next }

  pub take_row : (r : Row) → StandsAs r (x.machine.threads t).stage → IsAboutIt x.machine.layout r (x.machine.threads t).stage → IsFound x r → AreEvents x t c r (made x t c r)
  take_row (Row.Takes k v) there about f =
      subst (AreEvents x t c (Row.Takes k v)) (sym made_is) (to_take (Row.Takes k v) (Row.Links k.mutex (acquired (fields_of v))) k k.how v (record { awake = λ a. refl; slept = λ a. refl; turns = λ d a. refl }) there about f)
    where
      made_is : made x t c (Row.Takes k v) ≡ exchanges (cell_of k.mutex) v (Row.Links k.mutex (acquired (fields_of v)))
      made_is = grind (arith, eq-eqb (shown x (cell_place x.machine.layout (cell_of k.mutex))) v f.found)
  take_row (Row.HeirTakes k v) (p, is, phase) about f =
      subst (AreEvents x t c (Row.HeirTakes k v)) (sym made_is) (takes_so (Row.HeirTakes k v) (Row.HeirHas k (acquired (fields_of v))) (cell_of k.mutex) v _ p true (record { awake = λ a. refl; slept = λ a. refl; turns = λ d a. refl }) is phase refl f)
    where
      made_is : made x t c (Row.HeirTakes k v) ≡ exchanges (cell_of k.mutex) v (Row.HeirHas k (acquired (fields_of v)))
      made_is = grind (arith, eq-eqb (shown x (cell_place x.machine.layout (cell_of k.mutex))) v f.found)
  take_row (Row.TryTakes m v) (p, is, phase) about f =
      subst (AreEvents x t c (Row.TryTakes m v)) (sym made_is) (takes_so (Row.TryTakes m v) (Row.Links m (acquired (fields_of v))) (cell_of m) v _ p false (record { awake = λ a. refl; slept = λ a. refl; turns = λ d a. refl }) is phase refl f)
    where
      made_is : made x t c (Row.TryTakes m v) ≡ exchanges (cell_of m) v (Row.Links m (acquired (fields_of v)))
      made_is = grind (arith, eq-eqb (shown x (cell_place x.machine.layout (cell_of m))) v f.found)
  take_row (Row.SlotTakes k g) (p, is, phase) about f =
      subst (AreEvents x t c (Row.SlotTakes k g)) (sym made_is) (takes_so (Row.SlotTakes k g) (Row.SlotLinks k (fields_of g).died) (slot_of k.mutex) g _ p false (record { awake = λ a. refl; slept = λ a. refl; turns = λ d a. refl }) is phase refl f)
    where
      made_is : made x t c (Row.SlotTakes k g) ≡ exchanges (slot_of k.mutex) g (Row.SlotLinks k (fields_of g).died)
      made_is = grind (arith, eq-eqb (shown x (cell_place x.machine.layout (slot_of k.mutex))) g f.found)
  take_row r there about f = absurd f

pub takes_are : TakesAreEvents
takes_are x t c at found = let both = take_row x t c at (x.rows t) at.there at.about found in record { words = both.0; queues = both.1 }
