-- What a call that has released its mutex knows of the turn, it knows whatever happens; and its own rows tell it.
use Rattle.std.proofs.Common.{◌≡◌, ◌≢◌, ◌⊎◌, ℕ, ◌+◌, ◌*◌, ◌/◌, ◌<◌, Bool, true, false, List, [], ◌∷◌, refl, sym, ◌∙◌, subst, arith}
use Rattle.std.specs.Prelude.{if◌then◌else◌, not, ◌&&◌, ◌-◌}
use Rattle.lockword.specs.Cells.{bit, fields_of}
use Rattle.lockword.specs.Coding.{word_of-fields_of}
use Rattle.lockword.specs.declared.reply.Reply.TheVariants.{OK}
use Rattle.stepprograms.specs.Accesses.{is_nobody}
use Rattle.memorymap.specs.Layouts.{Layout', cell_place}
use Rattle.protocol.specs.declared.event.Event.{Event}
use Rattle.protocol.specs.declared.event.Event.TheVariants.{Kill, Step}
use Rattle.protocol.specs.declared.thread.Stage.{Stage}
use Rattle.protocol.specs.Machine.{State, has_thread, is_alive, is_asleep, is_dying}
use Rattle.protocol.specs.Sleepers.{IsUnowned}
use Rattle.protocol.proofs.Puts.{put-other}
use Rattle.slots.specs.Places.{cell_of, slot_of}
use Rattle.slots.specs.Rows.{Choice, Giving, Row}
use Rattle.slots.specs.Rows.Giving.{OfUnlock, OfWait}
use Rattle.slots.specs.Shown.{Slots, after, shown}
use Rattle.slots.specs.Stands.{StandsAs}
use Rattle.slots.specs.Table.{made, released, woke_row}
use Rattle.slots.specs.Runs.{Happening, at_row, events_of, is_resting, lapse_events, lapse_row, made_by, may_call, next, turns_after}
use Rattle.slots.specs.Runs.Happening.{Calls, Goes, Interrupts, Lapses, Dies, Walks, Lives}
use Rattle.slots.specs.Invariant.{KnowsTurn, fields_at}
use Rattle.slots.specs.Laws.{IsReached}
use Rattle.slots.specs.Accesses.{IsAtRow}
use Rattle.slots.specs.Fits.{Fits, GivesOurs, IsOurs}
use Rattle.slots.specs.Premises.{IsOfTurn, KnowsItsTurn, Owning}
use Rattle.slots.proofs.Free.{reached_kept, turns_stay_all, wakes_tell}
use Rattle.slots.proofs.Leading.{by_test}
use Rattle.slots.proofs.Meets.{cell_says, cell_shows, usable_if_owned}
use Rattle.slots.proofs.Owned.{our_cell}
use Rattle.slots.proofs.Releases.{releases_tell}
use Rattle.slots.proofs.Rooms.{words_sound}

-- ---- whatever events

pub turn_after : (x : Slots) (es : List Event) (t : ℕ) (r : Row) (g : Stage) → IsReached x.machine → Fits x.machine.layout t r g → KnowsItsTurn x r → KnowsItsTurn (after x es) r
turn_after x es t (Row.HandsOn m (OfUnlock d) is) g reached o (knows, form) = (turns_stay_all x es (Row.HandsOn m (OfUnlock d) is) reached (our_cell x.machine.layout m o) knows, form)
turn_after x es t (Row.LooksBack m (OfUnlock d) is) g reached o (knows, form) = (turns_stay_all x es (Row.LooksBack m (OfUnlock d) is) reached (our_cell x.machine.layout m o) knows, form)
turn_after x es t (Row.WakesOne m (OfUnlock d) is) g reached o (knows, form) = (turns_stay_all x es (Row.WakesOne m (OfUnlock d) is) reached (our_cell x.machine.layout m o) knows, form)
turn_after x es t (Row.Trims m is) g reached o (knows, form) = (turns_stay_all x es (Row.Trims m is) reached (our_cell x.machine.layout m o) knows, form)
turn_after x es t r g reached o knows = tt

-- ---- another state of the layer with the same machine, and with the same turns of cells

abbrev Past : ℕ → ℕ → State → ℕ → Type 0
Past m is s n = (is / 8589934592 < n) ⊎ ((is / 8589934592 ≡ n) × IsUnowned s (cell_of m))

abbrev PastOrQuiet : ℕ → ℕ → State → ℕ → Type 0
PastOrQuiet m is s n = (is / 8589934592 < n) ⊎ (((is / 8589934592 ≡ n) × IsUnowned s (cell_of m)) × (s.queues (cell_place s.layout (cell_of m)) ≡ []))

alike : (P : State → ℕ → Type 0) (s z : State) (n k : ℕ) → z ≡ s → k ≡ n → P s n → P z k
alike P s z n k same turn p = subst (λ (q : State). P q k) (sym same) (subst (P s) (sym turn) p)

pub turn_like : (x y : Slots) → y.machine ≡ x.machine → ((m : ℕ) → y.turns (cell_of m) ≡ x.turns (cell_of m)) → (r : Row) → KnowsItsTurn x r → KnowsItsTurn y r
turn_like x y same turns (Row.HandsOn m (OfUnlock d) is) (knows, form) = (alike (Past m is) x.machine y.machine (x.turns (cell_of m)) (y.turns (cell_of m)) same (turns m) knows, form)
turn_like x y same turns (Row.LooksBack m (OfUnlock d) is) (knows, form) = (alike (Past m is) x.machine y.machine (x.turns (cell_of m)) (y.turns (cell_of m)) same (turns m) knows, form)
turn_like x y same turns (Row.WakesOne m (OfUnlock d) is) (knows, form) = (alike (Past m is) x.machine y.machine (x.turns (cell_of m)) (y.turns (cell_of m)) same (turns m) knows, form)
turn_like x y same turns (Row.Trims m is) (knows, form) = (alike (PastOrQuiet m is) x.machine y.machine (x.turns (cell_of m)) (y.turns (cell_of m)) same (turns m) knows, form)
turn_like x y same turns r knows = tt

-- only a slot's time is set
pub time_apart : (r : Row) (c : Choice) (f : ℕ → ℕ) (m : ℕ) → turns_after r c f (cell_of m) ≡ f (cell_of m)
time_apart (Row.HeirSets k) c f m = put-other f (slot_of k.mutex) c.time (cell_of m) (λ e. (let h : 2 * m ≡ 2 * k.mutex + 1 = e in omega (arith, h)))
time_apart r c f m = refl

pub next_turns : (x : Slots) (h : Happening) (m : ℕ) → (next x h).turns (cell_of m) ≡ (after x (events_of x h)).turns (cell_of m)
next_turns x (Calls t r) m = by_test (λ (y : Slots). y.turns (cell_of m) ≡ x.turns (cell_of m)) (has_thread x.machine t && is_alive (x.machine.threads t).stage && is_resting (x.rows t) && may_call x.machine.layout (x.machine.threads t).held r) (at_row x t r) x (λ e. refl) (λ e. refl)
next_turns x (Goes t c) m = go (has_thread x.machine t && is_alive (x.machine.threads t).stage && not (is_asleep x.machine t))
  where
    go : (b : Bool) → (if b then made_by x t c (made x t c (x.rows t)) else x).turns (cell_of m) ≡ (after x (if b then (made x t c (x.rows t)).events else [])).turns (cell_of m)
    go true = time_apart (x.rows t) c (after x (made x t c (x.rows t)).events).turns m
    go false = refl
next_turns x (Interrupts t) m = refl
next_turns x (Lapses t) m = go (is_asleep x.machine t)
  where
    go : (b : Bool) → (if b then at_row (after x (lapse_events x t (x.rows t))) t (lapse_row (x.rows t)) else x).turns (cell_of m) ≡ (after x (if b then lapse_events x t (x.rows t) else [])).turns (cell_of m)
    go true = refl
    go false = refl
next_turns x (Dies t) m = go (has_thread x.machine t && is_alive (x.machine.threads t).stage)
  where
    go : (b : Bool) → (if b then at_row (after x (Kill t ∷ [])) t Row.Rests else x).turns (cell_of m) ≡ (after x (if b then Kill t ∷ [] else [])).turns (cell_of m)
    go true = refl
    go false = refl
next_turns x (Walks t) m = go (is_dying x.machine t)
  where
    go : (b : Bool) → (if b then after x (Step t ∷ []) else x).turns (cell_of m) ≡ (after x (if b then Step t ∷ [] else [])).turns (cell_of m)
    go true = refl
    go false = refl
next_turns x (Lives t) m = refl

-- ---- the thread's own rows

-- a word with its owner and WAITERS alone
waits_alone : (w t : ℕ) → (fields_of w).owner ≡ t → (fields_of w).died ≡ false → (fields_of w).waiters ≡ true → (fields_of w).unusable ≡ false → (fields_of w).rest ≡ 0 → w ≡ t + 2147483648
waits_alone w t owner died waiters usable room =
    sym (word_of-fields_of w)
    ∙ (λ i. owner i + bit (died i) 1073741824 + bit (waiters i) 2147483648 + bit (usable i) 4294967296 + room i * 8589934592)
    ∙ (let e : t + 0 + 2147483648 + 0 + 0 * 8589934592 ≡ t + 2147483648 = omega arith in e)

nobody_empty : (q : List ℕ) → is_nobody q ≡ true → q ≡ []
nobody_empty [] e = refl
nobody_empty (u ∷ us) e = absurd cc

module _ (x : Slots) (t : ℕ) (c : Choice) (at : IsAtRow x t) where
  abbrev z : State
  z = x.machine

  abbrev l : Layout'
  l = z.layout

  abbrev g : Stage
  g = (z.threads t).stage

  abbrev word : ℕ → ℕ
  word m = shown x (cell_place l (cell_of m))

  released_form : (m : ℕ) → IsOurs l m → (fields_at z (cell_of m)).owner ≡ t → (fields_at z (cell_of m)).died ≡ false → (fields_of (word m)).waiters ≡ true → IsOfTurn (word m - t)
  released_form m ours own alive waits = (x.turns (cell_of m), (let e = shows in let f = alone in omega (arith, e, f)))
    where
      inside : cell_of m < l.mutexes
      inside = our_cell l m ours

      w : ℕ
      w = z.words (cell_place l (cell_of m))

      some : (fields_at z (cell_of m)).owner ≢ 0
      some e = absurd (let first = at.first in omega (arith, own, e, first))

      shows : word m ≡ w + 0 + x.turns (cell_of m) * 8589934592
      shows = cell_shows x m inside

      waiters : (fields_of w).waiters ≡ true
      waiters = sym (cell_says x m inside).waiters ∙ waits

      alone : w ≡ t + 2147483648
      alone = waits_alone w t own alive waiters (usable_if_owned z (cell_of m) (reached_kept z at.reached) inside some) ((words_sound z at.reached).room (cell_of m) inside)

  -- after a release
  release_tells : (m : ℕ) → IsOurs l m → StandsAs (Row.Gives m (OfUnlock false)) g → (fields_at z (cell_of m)).owner ≡ t → KnowsTurn (after x (Step t ∷ [])) (Row.HandsOn m (OfUnlock false) (word m - t))
  release_tells m ours there own = releases_tell x t m at.reached at.first at.last (our_cell l m ours) ((words_sound z at.reached).room (cell_of m) (our_cell l m ours)) there at.out own

  module _ (y : Slots) where
    either : (b : Bool) (r s : Row) → KnowsItsTurn y r → KnowsItsTurn y s → KnowsItsTurn y (if b then r else s)
    either true r s first second = first
    either false r s first second = second

    pub gives_tell : (m : ℕ) (d : Giving) → GivesOurs l m d → StandsAs (Row.Gives m d) g → Owning z t (Row.Gives m d) → y.machine ≡ (after x (Step t ∷ [])).machine → ((j : ℕ) → y.turns (cell_of j) ≡ (after x (Step t ∷ [])).turns (cell_of j)) → KnowsItsTurn y (released x t c m d (word m))
    gives_tell m (OfUnlock true) o there own machine turns = either (fields_of (word m)).waiters (Row.WakesAll m OK) (Row.Clears m OK) tt tt
    gives_tell m (OfWait k n slept timed) o there own machine turns = either (fields_of (word m)).waiters (if c.yes then Row.WakesOne m (OfWait k n slept timed) (word m - t) else Row.HandsOn m (OfWait k n slept timed) (word m - t)) (Row.WaitSleeps m k n timed) (either c.yes (Row.WakesOne m (OfWait k n slept timed) (word m - t)) (Row.HandsOn m (OfWait k n slept timed) (word m - t)) tt tt) tt
    gives_tell m (OfUnlock false) o there own machine turns = by_test (KnowsItsTurn y) (fields_of (word m)).waiters (if c.yes then Row.WakesOne m (OfUnlock false) (word m - t) else Row.HandsOn m (OfUnlock false) (word m - t)) (Row.Clears m OK)
        (λ waits. let knows : KnowsItsTurn y (Row.HandsOn m (OfUnlock false) (word m - t)) = turn_like (after x (Step t ∷ [])) y machine turns (Row.HandsOn m (OfUnlock false) (word m - t)) (release_tells m o there own.owner, released_form m o own.owner own.died waits) in
        either c.yes (Row.WakesOne m (OfUnlock false) (word m - t)) (Row.HandsOn m (OfUnlock false) (word m - t)) knows knows)
        (λ alone. tt)

    pub wake_tells : (m : ℕ) (d : Giving) (is : ℕ) → GivesOurs l m d → KnowsItsTurn x (Row.WakesOne m d is) → y.machine ≡ (after x (Step t ∷ [])).machine → ((j : ℕ) → y.turns (cell_of j) ≡ (after x (Step t ∷ [])).turns (cell_of j)) → KnowsItsTurn y (woke_row x t c m d is)
    wake_tells m (OfWait k n slept timed) is o knows machine turns = tt
    wake_tells m (OfUnlock d) is o knows machine turns = by_test (KnowsItsTurn y) (is_nobody (z.queues (cell_place l (cell_of m)))) (Row.Trims m is) (Row.Clears m OK)
        (λ none. turn_like (after x (Step t ∷ [])) y machine turns (Row.Trims m is) (wakes_tell x t m is (OfUnlock d) at.reached (our_cell l m o) (nobody_empty (z.queues (cell_place l (cell_of m))) none) knows.0, knows.1))
        (λ some. tt)
