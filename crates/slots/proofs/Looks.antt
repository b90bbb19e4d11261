-- Loads and exchanges without events.
use Rattle.std.proofs.Common.{◌≡◌, ◌≢◌, ℕ, ◌==◌, Bool, true, false, List, [], refl, sym, ap, ◌∙◌, subst, eqb-true}
use Rattle.std.specs.Prelude.{if◌then◌else◌}
use Rattle.stepprograms.specs.declared.access.Access.{Access}
use Rattle.protocol.specs.declared.event.Event.{Event}
use Rattle.memorymap.specs.Layouts.{place_in}
use Rattle.protocol.specs.Machine.{State, put, is_valid, words_after, queues_after}
use Rattle.slots.specs.Rows.{Choice, Row}
use Rattle.slots.specs.Shown.{Slots, after, memory, shown}
use Rattle.slots.specs.Table.{Made, made}
use Rattle.slots.specs.Runs.{awake_after, slept_after, turns_after}
use Rattle.slots.specs.Accesses.{IsLoad, IsMiss, LooksAreEvents, MissesAreNoEvents}
use Rattle.slots.proofs.Shows.{IsLike, put_there, shows_same, loads, load_queues, changes_queues}

-- a row that changes neither AWAKE nor SLEPT, nor the time
pub record IsQuiet (r : Row) : Type 0 where
  pub awake : (a : ℕ → Bool) → awake_after r a ≡ a
  pub slept : (a : ℕ → Bool) → slept_after r a ≡ a
  pub turns : (c : Choice) (a : ℕ → ℕ) → turns_after r c a ≡ a

-- a row whose access is a load is such a row
quiet_at : (x : Slots) (t : ℕ) (c : Choice) (r : Row) → IsLoad (made x t c r).access → IsQuiet r
quiet_at x t c (Row.HeirSets k) load = absurd load
quiet_at x t c (Row.SlotQuiets k) load = absurd load
quiet_at x t c (Row.HeirHas k y) load = absurd load
quiet_at x t c (Row.GivesUp k) load = absurd load
quiet_at x t c (Row.WaitSets m k n timed) load = absurd load
quiet_at x t c (Row.Unsets m k n) load = absurd load
quiet_at x t c r load = record { awake = λ a. refl; slept = λ a. refl; turns = λ d a. refl }

-- nothing has happened
abbrev pub Nothing : Slots → ℕ → Choice → Row → Made → Type 0
Nothing x t c r g = ((p : ℕ) → shown (record (after x g.events) { turns = turns_after r c (after x g.events).turns; awake = awake_after r x.awake; slept = slept_after r x.slept; rows = put x.rows t g.next }) p ≡ words_after (memory x) t g.access p)
    × ((p : ℕ) → (after x g.events).machine.queues p ≡ queues_after (memory x) t g.access p)

pub like_so : (x : Slots) (t : ℕ) (c : Choice) (r next : Row) → IsQuiet r → IsLike x (record (after x []) { turns = turns_after r c x.turns; awake = awake_after r x.awake; slept = slept_after r x.slept; rows = put x.rows t next })
like_so x t c r next quiet = record {
  layout = refl;
  awake = λ m. ap (λ (f : ℕ → Bool). f m) (quiet.awake x.awake);
  slept = λ m. ap (λ (f : ℕ → Bool). f m) (quiet.slept x.slept);
  turns = λ k inside. ap (λ (f : ℕ → ℕ). f k) (quiet.turns c x.turns);
}

looks_so : (x : Slots) (t : ℕ) (c : Choice) (r next : Row) (a : Access) → IsQuiet r → IsLoad a → Nothing x t c r (record { access = a; events = []; next = next })
looks_so x t c r next (Access.Load at) quiet load = (
  λ p. shows_same x (record (after x []) { turns = turns_after r c x.turns; awake = awake_after r x.awake; slept = slept_after r x.slept; rows = put x.rows t next }) (like_so x t c r next quiet) (λ q. refl) p ∙ sym (loads (memory x) t at p),
  λ p. sym (load_queues (memory x) t at p),
)
looks_so x t c r next a quiet load = absurd load

pub looks_are : LooksAreEvents
looks_are x t c load none =
    let g = made x t c (x.rows t) in
    let both = subst (λ (es : List Event). Nothing x t c (x.rows t) (record { access = g.access; events = es; next = g.next })) (sym none) (looks_so x t c (x.rows t) g.next g.access (quiet_at x t c (x.rows t) load) load) in
    record { words = both.0; queues = both.1 }

-- ---- an exchange that finds another word

misses_not : (x : Slots) (t : ℕ) (c : Choice) (r : Row) → IsMiss x t (made x t c r).access → IsQuiet r
misses_not x t c (Row.HeirSets k) miss = absurd miss
misses_not x t c (Row.SlotQuiets k) miss = absurd miss
misses_not x t c (Row.HeirHas k y) miss = absurd miss
misses_not x t c (Row.GivesUp k) miss = absurd miss
misses_not x t c (Row.WaitSets m k n timed) miss = absurd miss
misses_not x t c (Row.Unsets m k n) miss = absurd miss
misses_not x t c r miss = record { awake = λ a. refl; slept = λ a. refl; turns = λ d a. refl }

pub missed_words : (s : State) (t at e n : ℕ) → s.words (place_in s.layout t at) ≢ e → (p : ℕ) → words_after s t (Access.Exchange at e n) p ≡ s.words p
missed_words s t at e n other p = go (is_valid s.layout pl)
  where
    pl : ℕ
    pl = place_in s.layout t at

    not_it : (b : Bool) → (s.words pl == e) ≡ b → b ≡ false
    not_it false found = refl
    not_it true found = absurd (other (eqb-true (s.words pl) e found))

    go : (b : Bool) → (if b then put s.words pl (if s.words pl == e then n else s.words pl) else s.words) p ≡ s.words p
    go true = ap (λ (b : Bool). put s.words pl (if b then n else s.words pl) p) (not_it (s.words pl == e) refl) ∙ put_there s.words pl p
    go false = refl

misses_so : (x : Slots) (t : ℕ) (c : Choice) (r next : Row) (a : Access) → IsQuiet r → IsMiss x t a → Nothing x t c r (record { access = a; events = []; next = next })
misses_so x t c r next (Access.Exchange at e n) quiet miss = (
  λ p. shows_same x (record (after x []) { turns = turns_after r c x.turns; awake = awake_after r x.awake; slept = slept_after r x.slept; rows = put x.rows t next }) (like_so x t c r next quiet) (λ q. refl) p ∙ sym (missed_words (memory x) t at e n miss p),
  λ p. sym (changes_queues (memory x) t (Access.Exchange at e n) tt p),
)
misses_so x t c r next a quiet miss = absurd miss

pub misses_are : MissesAreNoEvents
misses_are x t c miss none =
    let g = made x t c (x.rows t) in
    let both = subst (λ (es : List Event). Nothing x t c (x.rows t) (record { access = g.access; events = es; next = g.next })) (sym none) (misses_so x t c (x.rows t) g.next g.access (misses_not x t c (x.rows t) miss) miss) in
    record { words = both.0; queues = both.1 }
