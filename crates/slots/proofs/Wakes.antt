-- One Step that wakes sleepers.
use Rattle.std.proofs.Common.{◌≡◌, inl, inr, ℕ, Bool, true, false, [], ◌∷◌, refl, sym, ap, ◌∙◌, subst}
use Rattle.std.specs.Prelude.{if◌then◌else◌, drop}
use Rattle.stepprograms.specs.declared.access.Access.{Access}
use Rattle.lockword.specs.Threads.{most_threads}
use Rattle.memorymap.specs.Layouts.{cell_place, counter_place, address_in, place_in}
use Rattle.mutex.specs.declared.phase.Phase.{Phase}
use Rattle.mutex.specs.Standings.{Whole}
use Rattle.mutex.specs.Whole.{phase_access, whole_access}
use Rattle.condvar.specs.declared.call.CondCall.{CondCall}
use Rattle.condvar.specs.Calls.{condition_of}
use Rattle.condvar.specs.declared.phase.CondPhase.{CondPhase}
use Rattle.condvar.specs.Standings.{CondWhole}
use Rattle.condvar.specs.Whole.{cond_access}
use Rattle.condvar.specs.Whole as cond
use Rattle.condvar.specs.declared.op.Op.{Op}
use Rattle.condvar.specs.declared.op.Op.TheVariants.{OnCondition}
use Rattle.condvar.specs.Ops.{mutex_of}
use Rattle.protocol.specs.declared.event.Event.TheVariants.{Step}
use Rattle.protocol.specs.declared.thread.Thread.{Thread}
use Rattle.protocol.specs.declared.thread.Stage.TheVariants.{Calling, AtCondition}
use Rattle.protocol.specs.Machine.{State, After, put, happens, is_valid, is_met, place_met, words_after, queues_after}
use Rattle.protocol.proofs.Kept.{Kept, Fits, FitsAt}
use Rattle.protocol.proofs.Accesses.{fits_in, goes}
use Rattle.protocol.proofs.CondAccesses.{cond_stepping, fits_at}
use Rattle.protocol.proofs.Queued.{out_awake}
use Rattle.protocol.proofs.Steps.{done, thread_after, call_step, cond_step}
use Rattle.protocol.proofs.Working.{call_goes, cond_goes}
use Rattle.slots.specs.Places.{cell_of}
use Rattle.slots.specs.Rows.{Choice, Row}
use Rattle.slots.specs.Rows.Giving.{OfUnlock, OfWait}
use Rattle.slots.specs.Shown.{Slots, after, memory, turned}
use Rattle.slots.specs.Stands.{StandsAs}
use Rattle.slots.specs.Table.{made}
use Rattle.slots.specs.Runs.{awake_after, slept_after, turns_after}
use Rattle.slots.specs.Accesses.{IsAbout, IsAboutIt, IsAtRow, IsWake, WakesAreEvents}
use Rattle.slots.proofs.Free.{reached_kept}
use Rattle.slots.proofs.Looks.{IsQuiet}
use Rattle.slots.proofs.OneStep.{AreEvents}
use Rattle.slots.proofs.Shows.{IsLike, shows_same, turn_stays, put_there}

-- a wake changes no word, and takes the first out of the queue
wake_words : (s : State) (t at n : ℕ) (p : ℕ) → words_after s t (Access.Wake at n) p ≡ s.words p
wake_words s t at n p = go (is_valid s.layout (place_in s.layout t at))
  where
    go : (b : Bool) → (if b then put s.words (place_in s.layout t at) (s.words (place_in s.layout t at)) else s.words) p ≡ s.words p
    go true = put_there s.words (place_in s.layout t at) p
    go false = refl

wake_queues : (s : State) (t at n : ℕ) → is_valid s.layout (place_in s.layout t at) ≡ true → (p : ℕ) → queues_after s t (Access.Wake at n) p ≡ put s.queues (place_in s.layout t at) (drop n (s.queues (place_in s.layout t at))) p
wake_queues s t at n valid p = ap (λ (b : Bool). (if b then put s.queues (place_in s.layout t at) (drop n (s.queues (place_in s.layout t at))) else s.queues) p) valid

module _ (x : Slots) (t : ℕ) (c : Choice) (r next : Row) (quiet : IsQuiet r) (th : Thread) (at n : ℕ) (to : (happens x.machine (Step t)).state ≡ done x.machine t (Access.Wake at n) th) (valid : is_valid x.machine.layout (place_in x.machine.layout t at) ≡ true) where
  abbrev behind : Slots
  behind = record (after x (Step t ∷ [])) { turns = turns_after r c (after x (Step t ∷ [])).turns; awake = awake_after r x.awake; slept = slept_after r x.slept; rows = put x.rows t next }

  words_same : (q : ℕ) → (happens x.machine (Step t)).state.words q ≡ x.machine.words q
  words_same q = ap (λ (s : State). s.words q) to ∙ put_there x.machine.words (place_in x.machine.layout t at) q

  like : IsLike x behind
  like = record {
    layout = ap (λ (s : State). s.layout) to;
    awake = λ m. ap (λ (f : ℕ → Bool). f m) (quiet.awake x.awake);
    slept = λ m. ap (λ (f : ℕ → Bool). f m) (quiet.slept x.slept);
    turns = λ k inside.
        ap (λ (f : ℕ → ℕ). f k) (quiet.turns c (turned x.machine (happens x.machine (Step t)).state x.turns))
        ∙ turn_stays x.machine (happens x.machine (Step t)).state x.turns k (ap (λ (s : State). s.layout) to) (words_same (cell_place x.machine.layout k));
  }

  wakes_so : AreEvents x t c r (record { access = Access.Wake at n; events = Step t ∷ []; next = next })
  wakes_so = (
    λ p. shows_same x behind like words_same p ∙ sym (wake_words (memory x) t at n p),
    λ p. ap (λ (s : State). s.queues p) to ∙ sym (wake_queues (memory x) t at n valid p),
  )

module _ (x : Slots) (t : ℕ) (c : Choice) (at : IsAtRow x t) where
  inv : Kept x.machine
  inv = reached_kept x.machine at.reached

  -- of a call on a mutex
  in_call : (m n : ℕ) (r next : Row) (o : Op) (p : Whole) (f : Phase) → IsQuiet r → (x.machine.threads t).stage ≡ Calling o p → p.phase ≡ f → phase_access p f ≡ Access.Wake p.cell n → mutex_of x.machine.layout o ≡ cell_of m
      → AreEvents x t c r (record { access = Access.Wake (address_in x.machine.layout t (cell_place x.machine.layout (cell_of m))) n; events = Step t ∷ []; next = next })
  in_call m n r next o p f quiet is phase wakes about =
      let fits : Fits x.machine t (x.machine.threads t).held (mutex_of x.machine.layout o) p = (fits_in x.machine t o p inv at.first at.last is).0 in
      let access : whole_access p ≡ Access.Wake p.cell n = ap (phase_access p) phase ∙ wakes in
      let address : p.cell ≡ address_in x.machine.layout t (cell_place x.machine.layout (cell_of m)) = fits.cell ∙ ap (λ (k : ℕ). address_in x.machine.layout t (cell_place x.machine.layout k)) about in
      let th = thread_after x.machine t (call_step x.machine t o p) in
      let step = (goes x.machine t o p inv at.first at.last is).valid in
      subst (λ (a : ℕ). AreEvents x t c r (record { access = Access.Wake a n; events = Step t ∷ []; next = next })) address
      (wakes_so x t c r next quiet th p.cell n
      (ap (λ (a : After). a.state) (call_goes x.machine t o p inv at.first at.last is (out_awake x.machine t at.out)) ∙ ap (λ (a : Access). done x.machine t a th) access)
      (subst (λ (a : Access). is_valid x.machine.layout (place_met x.machine.layout t a) ≡ true) access step))

  -- of one on a condition variable
  in_wait : (m n : ℕ) (r next : Row) (o : CondCall) (p : CondWhole) (f : CondPhase) → IsQuiet r → (x.machine.threads t).stage ≡ AtCondition o p → p.phase ≡ f → cond.phase_access p f ≡ Access.Wake p.cell n → mutex_of x.machine.layout (OnCondition o) ≡ cell_of m
      → AreEvents x t c r (record { access = Access.Wake (address_in x.machine.layout t (cell_place x.machine.layout (cell_of m))) n; events = Step t ∷ []; next = next })
  in_wait m n r next o p f quiet is phase wakes about =
      let fits : FitsAt x.machine t (x.machine.threads t).held o p = fits_at x.machine t o p inv at.first at.last is in
      let access : cond_access p ≡ Access.Wake p.cell n = ap (cond.phase_access p) phase ∙ wakes in
      let address : p.cell ≡ address_in x.machine.layout t (cell_place x.machine.layout (cell_of m)) = fits.cell ∙ ap (λ (k : ℕ). address_in x.machine.layout t (cell_place x.machine.layout k)) about in
      let th = thread_after x.machine t (cond_step x.machine t o p) in
      let step = (cond_stepping x.machine t o p inv at.first at.last is).valid in
      subst (λ (a : ℕ). AreEvents x t c r (record { access = Access.Wake a n; events = Step t ∷ []; next = next })) address
      (wakes_so x t c r next quiet th p.cell n
      (ap (λ (a : After). a.state) (cond_goes x.machine t o p inv at.first at.last is) ∙ ap (λ (a : Access). done x.machine t a th) access)
      (subst (λ (a : Access). is_met x.machine.layout t a ≡ true) access step))

  -- of a signal, on its condition variable
  in_signal : (k n : ℕ) (r next : Row) (o : CondCall) (p : CondWhole) (f : CondPhase) → IsQuiet r → (x.machine.threads t).stage ≡ AtCondition o p → p.phase ≡ f → cond.phase_access p f ≡ Access.Wake p.counter n → condition_of o ≡ k
      → AreEvents x t c r (record { access = Access.Wake (address_in x.machine.layout t (counter_place x.machine.layout k)) n; events = Step t ∷ []; next = next })
  in_signal k n r next o p f quiet is phase wakes about =
      let fits : FitsAt x.machine t (x.machine.threads t).held o p = fits_at x.machine t o p inv at.first at.last is in
      let access : cond_access p ≡ Access.Wake p.counter n = ap (cond.phase_access p) phase ∙ wakes in
      let address : p.counter ≡ address_in x.machine.layout t (counter_place x.machine.layout k) = fits.counter ∙ ap (λ (j : ℕ). address_in x.machine.layout t (counter_place x.machine.layout j)) about in
      let th = thread_after x.machine t (cond_step x.machine t o p) in
      let step = (cond_stepping x.machine t o p inv at.first at.last is).valid in
      subst (λ (a : ℕ). AreEvents x t c r (record { access = Access.Wake a n; events = Step t ∷ []; next = next })) address
      (wakes_so x t c r next quiet th p.counter n
      (ap (λ (a : After). a.state) (cond_goes x.machine t o p inv at.first at.last is) ∙ ap (λ (a : Access). done x.machine t a th) access)
      (subst (λ (a : Access). is_met x.machine.layout t a ≡ true) access step))

  pub wake_row : (r : Row) → StandsAs r (x.machine.threads t).stage → IsAboutIt x.machine.layout r (x.machine.threads t).stage → IsWake r → AreEvents x t c r (made x t c r)
  wake_row (Row.WakesAll m y) (inl (inl (p, is, phase), same)) about wake = in_call m most_threads (Row.WakesAll m y) (Row.Clears m y) _ p _ (record { awake = λ a. refl; slept = λ a. refl; turns = λ d a. refl }) is phase refl refl
  wake_row (Row.WakesAll m y) (inl (inr (inl (p, is, phase)), same)) about wake = in_call m most_threads (Row.WakesAll m y) (Row.Clears m y) _ p _ (record { awake = λ a. refl; slept = λ a. refl; turns = λ d a. refl }) is phase refl refl
  wake_row (Row.WakesAll m y) (inl (inr (inr (k, (o, p, is, of, acts, phase))), same)) about wake = in_call m most_threads (Row.WakesAll m y) (Row.Clears m y) _ p _ (record { awake = λ a. refl; slept = λ a. refl; turns = λ d a. refl }) is phase refl (subst (IsAbout x.machine.layout m) is about)
  wake_row (Row.WakesAll m y) (inr ((p, is, phase), same)) about wake = in_call m most_threads (Row.WakesAll m y) (Row.Clears m y) _ p _ (record { awake = λ a. refl; slept = λ a. refl; turns = λ d a. refl }) is phase refl refl
  wake_row (Row.HeirWakes k) (p, is, phase) about wake = in_call k.mutex most_threads (Row.HeirWakes k) (made x t c (Row.HeirWakes k)).next _ p _ (record { awake = λ a. refl; slept = λ a. refl; turns = λ d a. refl }) is phase refl refl
  wake_row (Row.WakesOne m (OfUnlock d) w) (p, is, phase) about wake = in_call m 1 (Row.WakesOne m (OfUnlock d) w) (made x t c (Row.WakesOne m (OfUnlock d) w)).next _ p _ (record { awake = λ a. refl; slept = λ a. refl; turns = λ d a. refl }) is phase refl refl
  wake_row (Row.WakesOne m (OfWait k n slept timed) w) (p, is, phase) about wake = in_wait m 1 (Row.WakesOne m (OfWait k n slept timed) w) (made x t c (Row.WakesOne m (OfWait k n slept timed) w)).next _ p _ (record { awake = λ a. refl; slept = λ a. refl; turns = λ d a. refl }) is phase refl (subst (IsAbout x.machine.layout m) is about)
  wake_row (Row.CountWakes m k n) (p, is, phase) about wake = in_signal k 1 (Row.CountWakes m k n) (made x t c (Row.CountWakes m k n)).next _ p _ (record { awake = λ a. refl; slept = λ a. refl; turns = λ d a. refl }) is phase refl refl
  wake_row r there about wake = absurd wake

pub wakes_are : WakesAreEvents
wakes_are x t c at wake = let both = wake_row x t c at (x.rows t) at.there at.about wake in record { words = both.0; queues = both.1 }
