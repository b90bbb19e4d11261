-- What memory shows after events that lead somewhere, and the one access that the C library makes.
use Rattle.std.proofs.Common.{◌≡◌, ◌≢◌, inl, inr, ℕ, ◌+◌, ◌*◌, ◌/◌, ◌%◌, ◌^◌, ◌<◌, ◌≤◌, ◌==◌, Bool, true, false, Some, List, [], ◌∷◌, ◌++◌, refl, sym, ap, ◌∙◌, subst, arith}
use Rattle.std.specs.Prelude.{if◌then◌else◌, ◌&&◌}
use Rattle.std.proofs.lemmas.Bool.Decides.{nat_tests}
use Rattle.lockword.specs.Cells.{bit, fields_of}
use Rattle.stepprograms.specs.declared.access.Access.{Access}
use Rattle.stepprograms.specs.Accesses.{address_of, changed}
use Rattle.memorymap.specs.Layouts.{IsLayout, cell_place, head_place, address_in, place_in}
use Rattle.mutex.specs.declared.phase.Phase.{Phase}
use Rattle.mutex.proofs.Addresses.{head_further, head_word_again}
use Rattle.condvar.specs.declared.op.Op.{Op}
use Rattle.protocol.specs.declared.event.Event.{Event}
use Rattle.protocol.specs.declared.thread.Thread.{Thread}
use Rattle.protocol.specs.declared.thread.Stage.TheVariants.{Idle}
use Rattle.protocol.specs.Machine.{State, put, is_valid, words_after, queues_after}
use Rattle.posixmutex.specs.declared.object.Object.{Object}
use Rattle.protocol.specs.Headline.{seen}
use Rattle.protocol.proofs.Kept.{Kept, PendsAs, pending_in}
use Rattle.protocol.proofs.Places.{mine_is_valid, mine_is_no_cell, mine_is_no_counter}
use Rattle.protocol.proofs.Seeing.{entry_in}
use Rattle.protocol.proofs.Steps.{seen-inside}
use Rattle.slots.specs.Places.{cell_of, is_slot, our_own}
use Rattle.slots.specs.Rows.{Choice, Row}
use Rattle.slots.specs.Shown.{Slots, after, memory, shown, shown_mutex}
use Rattle.slots.specs.Runs.{awake_after, slept_after, turns_after}
use Rattle.slots.specs.Invariant.{fields_at}
use Rattle.slots.proofs.Leading.{Leads, IsAt}
use Rattle.slots.proofs.Looks.{IsQuiet, missed_words}
use Rattle.slots.proofs.OneStep.{AreEvents}
use Rattle.slots.proofs.Shows.{IsLike, IsLikeBut, IsOfWord, shows_but, shows_put, shows_same, shown_cell, loads, load_queues, stores, store_queues, changes, changes_queues, cell_valid, put_there}
use Rattle.slots.proofs.Trims.{no_slot}

-- ---- accesses that change nothing

abbrev pub Idles : Slots → ℕ → Access → Type 0
Idles x t a = ((p : ℕ) → words_after (memory x) t a p ≡ shown x p) × ((p : ℕ) → queues_after (memory x) t a p ≡ x.machine.queues p)

pub load_idles : (x : Slots) (t at : ℕ) → Idles x t (Access.Load at)
load_idles x t at = (loads (memory x) t at, load_queues (memory x) t at)

-- an exchange that finds another word
pub miss_idles : (x : Slots) (t at e n : ℕ) → shown x (place_in x.machine.layout t at) ≢ e → Idles x t (Access.Exchange at e n)
miss_idles x t at e n other = (missed_words (memory x) t at e n other, changes_queues (memory x) t (Access.Exchange at e n) tt)

-- a sleep that doesn't come
pub wait_idles : (x : Slots) (t at e : ℕ) → (shown x (place_in x.machine.layout t at) % 2 ^ 32 == e) ≡ false → Idles x t (Access.Wait at e)
wait_idles x t at e other = (λ p. words p (is_valid x.machine.layout (place_in x.machine.layout t at)), λ p. queues p (is_valid x.machine.layout (place_in x.machine.layout t at)))
  where
    pl : ℕ
    pl = place_in x.machine.layout t at

    words : (p : ℕ) (b : Bool) → (if b then put (shown x) pl (shown x pl) else shown x) p ≡ shown x p
    words p true = put_there (shown x) pl p
    words p false = refl

    queues : (p : ℕ) (b : Bool) → (if b then put x.machine.queues pl (if shown x pl % 2 ^ 32 == e then x.machine.queues pl ++ t ∷ [] else x.machine.queues pl) else x.machine.queues) p ≡ x.machine.queues p
    queues p true = ap (λ (d : Bool). put x.machine.queues pl (if d then x.machine.queues pl ++ t ∷ [] else x.machine.queues pl) p) other ∙ put_there x.machine.queues pl p
    queues p false = refl

-- ---- after the events

module _ (x : Slots) (t : ℕ) (c : Choice) (r next : Row) (es : List Event) (w : ℕ → ℕ) (q : ℕ → List ℕ) (th : Thread) (quiet : IsQuiet r) (l : Leads x.machine t es w q th) where
  abbrev behind : Slots
  behind = record (after x es) { turns = turns_after r c (after x es).turns; awake = awake_after r x.awake; slept = slept_after r x.slept; rows = put x.rows t next }

  words_are : (p : ℕ) → behind.machine.words p ≡ w p
  words_are p = ap (λ (s : State). s.words p) l.to

  queues_are : (p : ℕ) → behind.machine.queues p ≡ q p
  queues_are p = ap (λ (s : State). s.queues p) l.to

  turns_are : (j : ℕ) → j < x.machine.layout.mutexes → behind.turns j ≡ x.turns j
  turns_are j inside = ap (λ (f : ℕ → ℕ). f j) (quiet.turns c (after x es).turns) ∙ l.turns x.turns j inside

  like : IsLike x behind
  like = record {
    layout = ap (λ (s : State). s.layout) l.to;
    awake = λ m. ap (λ (f : ℕ → Bool). f m) (quiet.awake x.awake);
    slept = λ m. ap (λ (f : ℕ → Bool). f m) (quiet.slept x.slept);
    turns = turns_are;
  }

  -- no word has changed
  pub nothing_events : (a : Access) → Idles x t a → ((p : ℕ) → w p ≡ x.machine.words p) → ((p : ℕ) → q p ≡ x.machine.queues p) → AreEvents x t c r (record { access = a; events = es; next = next })
  nothing_events a idles words queues = (
    λ p. shows_same x behind like (λ v. words_are v ∙ words v) p ∙ sym (idles.0 p),
    λ p. queues_are p ∙ queues p ∙ sym (idles.1 p),
  )

  -- the queues alone have
  pub queue_events : (a : Access) → ((p : ℕ) → w p ≡ x.machine.words p) → ((p : ℕ) → words_after (memory x) t a p ≡ shown x p) → ((p : ℕ) → q p ≡ queues_after (memory x) t a p) → AreEvents x t c r (record { access = a; events = es; next = next })
  queue_events a words same queues = (
    λ p. shows_same x behind like (λ v. words_are v ∙ words v) p ∙ sym (same p),
    λ p. queues_are p ∙ queues p,
  )

  -- the pending word has
  pub pending_events : 1 ≤ t → t ≤ x.machine.layout.threads → IsLayout x.machine.layout → (v : ℕ) → ((p : ℕ) → w p ≡ put x.machine.words (head_place t + 2) v p) → ((p : ℕ) → q p ≡ x.machine.queues p)
      → AreEvents x t c r (record { access = Access.Store (address_in x.machine.layout t (head_place t + 2)) v; events = es; next = next })
  pending_events pos known layout v words queues = (
    λ p. shows_put x behind (head_place t + 2) v like
        (λ j in_j. mine_is_no_cell x.machine t (head_place t + 2) j pos known in_j (inr (inl refl)))
        (λ j. mine_is_no_counter x.machine t (head_place t + 2) j pos known (inr (inl refl)))
        (λ u. words_are u ∙ words u) p
        ∙ sym (stores (memory x) t (address_in x.machine.layout t (head_place t + 2)) v (head_place t + 2) place (mine_is_valid x.machine t (head_place t + 2) pos known (inr (inl refl))) p),
    λ p. queues_are p ∙ queues p ∙ sym (store_queues (memory x) t (address_in x.machine.layout t (head_place t + 2)) v p),
  )
    where
      place : place_in x.machine.layout t (address_in x.machine.layout t (head_place t + 2)) ≡ head_place t + 2
      place = ap (place_in x.machine.layout t) (sym (head_further x.machine.layout t layout pos known 2 (omega arith))) ∙ head_word_again x.machine.layout t layout pos known 2 (omega arith)

  -- a mutex's word has
  module _ (k u : ℕ) (inside : k < x.machine.layout.mutexes) (words : (p : ℕ) → w p ≡ put x.machine.words (cell_place x.machine.layout k) u p) (queues : (p : ℕ) → q p ≡ x.machine.queues p) where
    abbrev pl : ℕ
    pl = cell_place x.machine.layout k

    but : IsLikeBut x behind k
    but = record {
      layout = like.layout;
      awake = λ m apart. like.awake m;
      slept = like.slept;
      turns = λ j in_j apart. turns_are j in_j;
    }

    abbrev flag : ℕ
    flag = bit (is_slot k && x.awake (our_own k)) 4294967296

    shows_then : shown_mutex behind k u ≡ u + flag + x.turns k * 8589934592
    shows_then = λ i. u + bit (is_slot k && like.awake (our_own k) i) 4294967296 + turns_are k inside i * 8589934592

    pub word_events : (a : Access) → IsOfWord a → place_in x.machine.layout t (address_of a) ≡ pl → u + flag + x.turns k * 8589934592 ≡ changed a (x.machine.words pl + flag + x.turns k * 8589934592)
        → AreEvents x t c r (record { access = a; events = es; next = next })
    word_events a of place same = (
      λ p. shows_but x behind k u inside but (λ v. words_are v ∙ words v) p
          ∙ ap (λ (v : ℕ). put (shown x) pl v p) (shows_then ∙ same ∙ ap (changed a) (sym (shown_cell x k inside)))
          ∙ sym (changes (memory x) t pl a of place (cell_valid x.machine.layout k inside) p),
      λ p. queues_are p ∙ queues p ∙ sym (changes_queues (memory x) t a of p),
    )

  -- and a cell's
  pub cell_word_events : (m u : ℕ) → cell_of m < x.machine.layout.mutexes → ((p : ℕ) → w p ≡ put x.machine.words (cell_place x.machine.layout (cell_of m)) u p) → ((p : ℕ) → q p ≡ x.machine.queues p) → (a : Access) → IsOfWord a
      → place_in x.machine.layout t (address_of a) ≡ cell_place x.machine.layout (cell_of m)
      → u + 0 + x.turns (cell_of m) * 8589934592 ≡ changed a (x.machine.words (cell_place x.machine.layout (cell_of m)) + 0 + x.turns (cell_of m) * 8589934592) → AreEvents x t c r (record { access = a; events = es; next = next })
  cell_word_events m u inside words queues a of place same = word_events (cell_of m) u inside words queues a of place
      (subst (λ (n : ℕ). u + n + x.turns (cell_of m) * 8589934592 ≡ changed a (x.machine.words (cell_place x.machine.layout (cell_of m)) + n + x.turns (cell_of m) * 8589934592)) (sym (ap (λ (b : Bool). bit (b && x.awake (our_own (cell_of m))) 4294967296) (no_slot m))) same)

-- ---- what a cell shows

-- it says what the machine's word says, except for the turn
pub record Says (w v : ℕ) : Type 0 where
  pub owner : (fields_of v).owner ≡ (fields_of w).owner
  pub died : (fields_of v).died ≡ (fields_of w).died
  pub waiters : (fields_of v).waiters ≡ (fields_of w).waiters
  pub unusable : (fields_of v).unusable ≡ (fields_of w).unusable
  pub low : v % 2 ^ 32 ≡ w % 2 ^ 32

says_so : (w n : ℕ) → Says w (w + 0 + n * 8589934592)
says_so w n = record {
  owner = omega arith;
  died = ap (λ (z : ℕ). z == 1) (let e : (w + 0 + n * 8589934592) / 1073741824 % 2 ≡ w / 1073741824 % 2 = omega arith in e);
  waiters = ap (λ (z : ℕ). z == 1) (let e : (w + 0 + n * 8589934592) / 2147483648 % 2 ≡ w / 2147483648 % 2 = omega arith in e);
  unusable = ap (λ (z : ℕ). z == 1) (let e : (w + 0 + n * 8589934592) / 4294967296 % 2 ≡ w / 4294967296 % 2 = omega arith in e);
  low = omega arith;
}

pub cell_shows : (x : Slots) (m : ℕ) → cell_of m < x.machine.layout.mutexes → shown x (cell_place x.machine.layout (cell_of m)) ≡ x.machine.words (cell_place x.machine.layout (cell_of m)) + 0 + x.turns (cell_of m) * 8589934592
cell_shows x m inside = shown_cell x (cell_of m) inside ∙ ap (λ (b : Bool). x.machine.words (cell_place x.machine.layout (cell_of m)) + bit (b && x.awake (our_own (cell_of m))) 4294967296 + x.turns (cell_of m) * 8589934592) (no_slot m)

pub cell_says : (x : Slots) (m : ℕ) → cell_of m < x.machine.layout.mutexes → Says (x.machine.words (cell_place x.machine.layout (cell_of m))) (shown x (cell_place x.machine.layout (cell_of m)))
cell_says x m inside = subst (Says (x.machine.words (cell_place x.machine.layout (cell_of m)))) (sym (cell_shows x m inside)) (says_so (x.machine.words (cell_place x.machine.layout (cell_of m))) (x.turns (cell_of m)))

-- ---- what is pending

pub pends_in : (s : State) (t : ℕ) (o : Op) (k : ℕ) (f : Phase) → Kept s → 1 ≤ t → t ≤ s.layout.threads → IsAt s t o k f → s.words (head_place t + 2) ≡ pending_in (entry_in s.layout t k) f
pends_in s t o k f inv pos known is = subst (PendsAs (s.words (head_place t + 2))) is.there (inv.heads t pos known).pending

pub pends_none : (s : State) (t : ℕ) → Kept s → 1 ≤ t → t ≤ s.layout.threads → (s.threads t).stage ≡ Idle → s.words (head_place t + 2) ≡ 0
pends_none s t inv pos known is = subst (PendsAs (s.words (head_place t + 2))) is (inv.heads t pos known).pending

-- a mutex that a thread owns is usable
pub usable_if_owned : (s : State) (k : ℕ) → Kept s → k < s.layout.mutexes → (fields_at s k).owner ≢ 0 → (fields_at s k).unusable ≡ false
usable_if_owned s k inv inside some = go (fields_at s k).unusable refl
  where
    owned : (seen s k).owner ≡ Some (fields_at s k).owner
    owned = grind (arith, nat_tests)

    go : (b : Bool) → (fields_at s k).unusable ≡ b → b ≡ false
    go false e = refl
    go true e = absurd (cc (inv.sound k (ap (λ (o : Object). o.unusable) (seen-inside s k inside) ∙ e), owned))
