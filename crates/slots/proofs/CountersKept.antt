-- A counter changes only by its mutex's owner: so a call that owns the mutex, and has seen the counter's word, has seen it as
-- it is.
use Rattle.std.proofs.Common.{◌≡◌, ◌≢◌, inl, inr, ℕ, ◌+◌, ◌%◌, ◌<◌, ◌≤◌, Bool, true, false, Some, List, [], ◌∷◌, length, refl, sym, ap, ◌∙◌, subst, arith}
use Rattle.std.specs.Prelude.{if◌then◌else◌, slice_index}
use Rattle.lockword.specs.Cells.{bit}
use Rattle.lockword.specs.Threads.{most_threads}
use Rattle.stepprograms.specs.declared.access.Access.{Access}
use Rattle.stepprograms.specs.Accesses.{is_nobody}
use Rattle.memorymap.specs.Layouts.{Layout', address_in, cell_place, counter_place, head_place, place_in}
use Rattle.mutex.proofs.Addresses.{head_further, head_word_again}
use Rattle.condvar.specs.Standings.{CondWhole}
use Rattle.condvar.specs.Whole.{cond_access}
use Rattle.condvar.specs.declared.phase.CondPhase.{CondPhase}
use Rattle.robustlist.specs.Standings.{UnlinkStanding}
use Rattle.protocol.specs.Explained.{caller}
use Rattle.protocol.specs.Headline.{seen}
use Rattle.protocol.specs.declared.event.Event.{Event}
use Rattle.protocol.specs.declared.event.Event.TheVariants.{Step}
use Rattle.protocol.specs.declared.thread.Stage.{Stage}
use Rattle.protocol.specs.Machine.{State, happens, place_met, run, words_after}
use Rattle.protocol.proofs.CondAccesses.{by_access}
use Rattle.protocol.proofs.Counters.{Counted, Passes, Rises, counted_on, passes}
use Rattle.protocol.proofs.Kept.{Kept}
use Rattle.protocol.proofs.Places.{IsMine, counter_is_no_cell, counter_is_valid, mine_is_no_counter}
use Rattle.protocol.proofs.Puts.{put-other, put-same}
use Rattle.protocol.proofs.Runs.{sound}
use Rattle.protocol.proofs.Seeing.{cell_again, cell_in, counter_again}
use Rattle.storebuffers.proofs.Staying.{owner_stays}
use Rattle.slots.specs.Places.{cell_of, slot_of}
use Rattle.slots.specs.Rows.{Choice, Row}
use Rattle.slots.specs.Rows.Giving.{OfUnlock, OfWait}
use Rattle.slots.specs.Shown.{Slots, memory, shown}
use Rattle.slots.specs.Stands.{StandsAs}
use Rattle.slots.specs.Table.{Made, access_of_stage, counted, counted_row, is_on_list, made, makes, shows_slept, unlinked_row, wait_begins}
use Rattle.slots.specs.Heirs.{AreOf}
use Rattle.slots.specs.Runs.{slept_after}
use Rattle.slots.specs.Invariant.{fields_at}
use Rattle.slots.specs.Laws.{IsReached}
use Rattle.slots.specs.Fits.{AreOfUs, Fits}
use Rattle.slots.specs.Premises.{Owning, SeesCount}
use Rattle.slots.proofs.CountRows.{Needs}
use Rattle.slots.proofs.Free.{reached_kept, reached_next}
use Rattle.slots.proofs.Leading.{by_test}
use Rattle.slots.proofs.Owned.{our_cell}
use Rattle.slots.proofs.OthersKeep.{seen_owned}
use Rattle.slots.proofs.ShownWords.{IsReading, apart_words, reads}
use Rattle.slots.proofs.Shows.{changes}
use Rattle.slots.proofs.Sleeping.{counter_shows}

-- ---- another state of the layer with the same counters

abbrev pub count_at : Slots → ℕ → ℕ
count_at x k = x.machine.words (counter_place x.machine.layout k)

pub shown_alike : (x y : Slots) (k n : ℕ) → y.machine.layout ≡ x.machine.layout → k < length x.machine.layout.conditions → count_at y k ≡ count_at x k → y.slept k ≡ x.slept k → shown x (counter_place x.machine.layout k) ≡ n → shown y (counter_place y.machine.layout k) ≡ n
shown_alike x y k n layout inside words slept is =
    counter_shows y k (subst (λ (l : Layout'). k < length l.conditions) (sym layout) inside)
    ∙ (λ i. words i + bit (slept i) 4294967296)
    ∙ sym (counter_shows x k inside) ∙ is

pub sees_like : (x y : Slots) (t : ℕ) (r : Row) (g : Stage) → y.machine.layout ≡ x.machine.layout → Fits x.machine.layout t r g → ((m k : ℕ) → AreOfUs x.machine.layout m k → Owning x.machine t r → (fields_at x.machine (cell_of m)).owner ≡ t → (count_at y k ≡ count_at x k) × (y.slept k ≡ x.slept k)) → Owning x.machine t r → SeesCount x r → SeesCount y r
sees_like x y t (Row.GivePends m (OfWait k n slept timed)) g layout o same own s = (same m k o own own.owner).0 ∙ s
sees_like x y t (Row.GiveUnlinks m (OfWait k n slept timed)) g layout o same own s = (same m k o own own.owner).0 ∙ s
sees_like x y t (Row.GiveFinds m (OfWait k n slept timed)) g layout o same own s = (same m k o own own.owner).0 ∙ s
sees_like x y t (Row.Gives m (OfWait k n slept timed)) g layout o same own s = (same m k o own own.owner).0 ∙ s
sees_like x y t (Row.WaitSets m k n timed) g layout o same own s = (same m k o own own.owner).0 ∙ s
sees_like x y t (Row.Counts m k all n) g layout o same own s = let both = same m k o own own in shown_alike x y k n layout o.cell.inside both.0 both.1 s
sees_like x y t (Row.CountWakes m k n) g layout o same own s = (same m k o own own).0 ∙ s
sees_like x y t (Row.AllMarks m k n) g layout o same own s = (same m k o own own).0 ∙ s
sees_like x y t (Row.AllMoves m k n) g layout o same own s = (same m k o own own).0 ∙ s
sees_like x y t (Row.Unsets m k n) g layout o same own s = (same m k o own own).0 ∙ s
sees_like x y t r g layout o same own s = tt

-- ---- what others do

-- a counter whose mutex is thread u's is as it was after other threads' events
pub counter_stays : (s : State) (es : List Event) (t u k : ℕ) → IsReached s → Counted s → AreOf t es → t ≢ u → 1 ≤ u → slice_index s.layout.conditions k < s.layout.mutexes
    → (seen s (slice_index s.layout.conditions k)).owner ≡ Some u → (run s es).words (counter_place (run s es).layout k) ≡ s.words (counter_place s.layout k)
counter_stays s [] t u k from counted of apart pos inside own = refl
counter_stays s (e ∷ es) t u k from counted (mine, of) apart pos inside own =
    counter_stays s' es t u k (reached_next s e from) (counted_on s e inv counted) of apart pos
    (subst (λ (l : Layout'). slice_index l.conditions k < l.mutexes) (sym layout) inside)
    (subst (λ (l : Layout'). (seen s' (slice_index l.conditions k)).owner ≡ Some u) (sym layout) (owner_stays s e inv u (slice_index s.layout.conditions k) other own))
    ∙ ap (λ (l : Layout'). s'.words (counter_place l k)) layout ∙ same (passes s e inv counted)
  where
    inv : Kept s
    inv = reached_kept s from

    s' : State
    s' = (happens s e).state

    layout : (happens s e).state.layout ≡ s.layout
    layout = (sound s e inv).same

    other : caller e ≢ u
    other is = apart (sym mine ∙ is)

    same : Passes s (caller e) (happens s e).state → (happens s e).state.words (counter_place s.layout k) ≡ s.words (counter_place s.layout k)
    same p = go (p.rises k)
      where
        go : Rises s (caller e) (happens s e).state k → (happens s e).state.words (counter_place s.layout k) ≡ s.words (counter_place s.layout k)
        go (inl is) = is
        go (inr (up, less, its)) = absurd (other (sym its ∙ seen_owned s (slice_index s.layout.conditions k) u inside own))

-- SLEPT is set and cleared only by the mutex's owner
pub slept_else : (x : Slots) (t : ℕ) (r : Row) (g : Stage) (k : ℕ) → Fits x.machine.layout t r g → Owning x.machine t r → (fields_at x.machine (slice_index x.machine.layout.conditions k)).owner ≢ t → slept_after r x.slept k ≡ x.slept k
slept_else x t (Row.WaitSets m j n timed) g k o own apart = put-other x.slept j true k (λ e. apart (ap (λ (i : ℕ). (fields_at x.machine (slice_index x.machine.layout.conditions i)).owner) e ∙ ap (λ (i : ℕ). (fields_at x.machine i).owner) o.cell.cell ∙ own.owner))
slept_else x t (Row.Unsets m j n) g k o own apart = put-other x.slept j false k (λ e. apart (ap (λ (i : ℕ). (fields_at x.machine (slice_index x.machine.layout.conditions i)).owner) e ∙ ap (λ (i : ℕ). (fields_at x.machine i).owner) o.cell.cell ∙ own))
slept_else x t r g k o own apart = refl

-- ---- the thread's own accesses

pub wait_apart : (s : State) (t : ℕ) → Kept s → 1 ≤ t → t ≤ s.layout.threads → (m k n : ℕ) (slept timed : Bool) → StandsAs (Row.GiveUnlinks m (OfWait k n slept timed)) (s.threads t).stage → (at j : ℕ) → counter_place s.layout j ≢ place_met s.layout t (access_of_stage (s.threads t).stage at)
wait_apart s t inv pos known m k n slept timed (p, u, is, phase) at j e = mine_is_no_counter s t (place_met s.layout t (cond_access p)) j pos known
    (by_access s t _ inv pos known (λ (q : CondWhole). (v : UnlinkStanding) (i : ℕ) → q.phase ≡ CondPhase.Unlinking v i → IsMine s t (place_met s.layout t (cond_access q)))
    (λ r fits step v i never. absurd (cc never)) (λ x q near v i there. near.mine) p is u n phase)
    (sym (e ∙ ap (λ (g : Stage). place_met s.layout t (access_of_stage g at)) is))

module _ (x y : Slots) (t : ℕ) (c : Choice) (inv : Kept x.machine) (pos : 1 ≤ t) (known : t ≤ x.machine.layout.threads) (layout : y.machine.layout ≡ x.machine.layout) (before : Counted x.machine) (behind : Counted y.machine) where
  abbrev l : Layout'
  l = x.machine.layout

  abbrev Is : Access → Type 0
  Is a = (p : ℕ) → shown y p ≡ words_after (memory x) t a p

  place_then : (k : ℕ) → counter_place y.machine.layout k ≡ counter_place l k
  place_then k = ap (λ (j : Layout'). counter_place j k) layout

  inside_then : (k : ℕ) → k < length l.conditions → k < length y.machine.layout.conditions
  inside_then k inside = subst (λ (j : Layout'). k < length j.conditions) (sym layout) inside

  equal : (a b : ℕ) (d e : Bool) → e ≡ d → a + bit e 4294967296 ≡ b + bit d 4294967296 → a ≡ b
  equal a b true true same is = omega (arith, is)
  equal a b false false same is = omega (arith, is)
  equal a b true false same is = absurd cc
  equal a b false true same is = absurd cc

  -- it is shown as before
  alike : (k : ℕ) → k < length l.conditions → y.slept k ≡ x.slept k → shown y (counter_place l k) ≡ shown x (counter_place l k) → count_at y k ≡ count_at x k
  alike k inside slept is = equal (count_at y k) (count_at x k) (x.slept k) (y.slept k) slept (sym (counter_shows y k (inside_then k inside)) ∙ ap (shown y) (place_then k) ∙ is ∙ counter_shows x k inside)

  by_place : (a : Access) (k : ℕ) → counter_place l k ≢ place_met l t a → Is a → shown y (counter_place l k) ≡ shown x (counter_place l k)
  by_place a k apart is = is (counter_place l k) ∙ apart_words (memory x) t a (counter_place l k) apart

  by_reading : (a : Access) (k : ℕ) → IsReading a → Is a → shown y (counter_place l k) ≡ shown x (counter_place l k)
  by_reading a k r is = is (counter_place l k) ∙ reads (memory x) t a r (counter_place l k)

  pending_place : place_in l t (address_in l t (head_place t + 2)) ≡ head_place t + 2
  pending_place = ap (place_in l t) (sym (head_further l t inv.layout pos known 2 (omega arith))) ∙ head_word_again l t inv.layout pos known 2 (omega arith)

  pending_apart : (k : ℕ) → counter_place l k ≢ head_place t + 2
  pending_apart k e = mine_is_no_counter x.machine t (head_place t + 2) k pos known (inr (inl refl)) (sym e)

  -- a counter's word, of its count and SLEPT
  low : (w : ℕ) (b : Bool) → w ≤ 4294967295 → (w + bit b 4294967296) % 4294967296 ≡ w
  low w true most = omega (arith, most)
  low w false most = omega (arith, most)

  most_before : (k : ℕ) → k < length l.conditions → count_at x k ≤ 4294967295
  most_before k inside = before.most k inside

  most_behind : (k : ℕ) → k < length l.conditions → count_at y k ≤ 4294967295
  most_behind k inside = behind.most k (inside_then k inside)

  shown_low : (k : ℕ) → k < length l.conditions → shown x (counter_place l k) % 4294967296 ≡ count_at x k
  shown_low k inside = ap (λ (w : ℕ). w % 4294967296) (counter_shows x k inside) ∙ low (count_at x k) (x.slept k) (most_before k inside)

  behind_low : (k : ℕ) → k < length l.conditions → count_at y k ≡ shown y (counter_place l k) % 4294967296
  behind_low k inside = sym (low (count_at y k) (y.slept k) (most_behind k inside)) ∙ ap (λ (w : ℕ). w % 4294967296) (sym (counter_shows y k (inside_then k inside)) ∙ ap (shown y) (place_then k))

  counted_low : (n : ℕ) → counted x t c n % 4294967296 ≡ (n + 1) % 4294967296
  counted_low n = omega arith

  either : (b : Bool) (r s : Row) → SeesCount y r → SeesCount y s → SeesCount y (if b then r else s)
  either true r s first second = first
  either false r s first second = second

  unlinked_sees : (m k n : ℕ) (slept timed : Bool) → count_at y k ≡ n → SeesCount y (unlinked_row x t c m (OfWait k n slept timed))
  unlinked_sees m k n true timed is = either c.yes (Row.GiveFinds m (OfWait k n true timed)) (Row.Gives m (OfWait k n true timed)) is is
  unlinked_sees m k n false timed is = is

  unlinked_none : (m : ℕ) (d : Bool) → SeesCount y (unlinked_row x t c m (OfUnlock d))
  unlinked_none m d = either c.yes (Row.GiveFinds m (OfUnlock d)) (Row.Gives m (OfUnlock d)) tt tt

  counted_sees : (m k : ℕ) (all slept : Bool) (n : ℕ) → count_at y k ≡ n → SeesCount y (counted_row x t c m k all slept n)
  counted_sees m k all false n is = tt
  counted_sees m k false true n is = is
  counted_sees m k true true n is = is

  store_then : (k v : ℕ) → k < length l.conditions → Is (Access.Store (address_in l t (counter_place l k)) v) → shown y (counter_place l k) ≡ v
  store_then k v inside is = is (counter_place l k) ∙ changes (memory x) t (counter_place l k) (Access.Store (address_in l t (counter_place l k)) v) tt (counter_again l t inv.layout pos known k inside) (counter_is_valid l k inside) (counter_place l k) ∙ put-same (shown x) (counter_place l k) v

  -- SLEPT is set
  sets_then : (k n : ℕ) → k < length l.conditions → count_at x k ≡ n → shown y (counter_place l k) ≡ n + 4294967296 → count_at y k ≡ n
  sets_then k n inside sees is = behind_low k inside ∙ ap (λ (w : ℕ). w % 4294967296) is ∙ (let most : count_at x k ≤ 4294967295 = most_before k inside in let e : (n + 4294967296) % 4294967296 ≡ n = omega (arith, most, sees) in e)

  abbrev Leads : Made → Type 0
  Leads n = Is n.access → SeesCount y n.next

  pub needs_row : (r : Row) (g : Stage) → Fits l t r g → StandsAs r (x.machine.threads t).stage → SeesCount x r → ((k : ℕ) → y.slept k ≡ slept_after r x.slept k) → Is (made x t c r).access → ((made x t c r).events ≡ [] → y.machine ≡ x.machine) → Needs x y t c r
  needs_row (Row.WaitCounts m k timed died) g o there s slept is none = by_test Leads died
      (makes (Access.Load (address_in l t (counter_place l k))) (wait_begins x t c k timed) Row.Rests)
      (makes (Access.Load (address_in l t (counter_place l k))) [] (Row.GivePends m (OfWait k (shown x (counter_place l k) % 4294967296) (shows_slept x t c (shown x (counter_place l k))) timed)))
      (λ e is. tt) (λ e is. alike k o.cell.inside (slept k) (by_reading (Access.Load (address_in l t (counter_place l k))) k tt is) ∙ sym (shown_low k o.cell.inside)) is
  needs_row (Row.GivePends m (OfUnlock d)) g o there s slept is none = tt
  needs_row (Row.GivePends m (OfWait k n b timed)) g o there s slept is none = alike k o.cell.inside (slept k) (by_place (made x t c (Row.GivePends m (OfWait k n b timed))).access k (λ e. pending_apart k (e ∙ pending_place)) is) ∙ s
  needs_row (Row.GiveUnlinks m (OfUnlock d)) g o there s slept is none = either (is_on_list ((run x.machine (Step t ∷ [])).threads t).stage) (Row.GiveUnlinks m (OfUnlock d)) (unlinked_row x t c m (OfUnlock d)) tt (unlinked_none m d)
  needs_row (Row.GiveUnlinks m (OfWait k n b timed)) g o there s slept is none = let same = alike k o.cell.inside (slept k) (by_place (made x t c (Row.GiveUnlinks m (OfWait k n b timed))).access k (wait_apart x.machine t inv pos known m k n b timed there (address_in l t (head_place t)) k) is) ∙ s in
      either (is_on_list ((run x.machine (Step t ∷ [])).threads t).stage) (Row.GiveUnlinks m (OfWait k n b timed)) (unlinked_row x t c m (OfWait k n b timed)) same (unlinked_sees m k n b timed same)
  needs_row (Row.GiveFinds m (OfUnlock d)) g o there s slept is none = either c.again (Row.GiveFinds m (OfUnlock d)) (Row.Gives m (OfUnlock d)) tt tt
  needs_row (Row.GiveFinds m (OfWait k n b timed)) g o there s slept is none = let same = alike k o.cell.inside (slept k) (by_reading (Access.Load (address_in l t (cell_place l (slot_of m)))) k tt is) ∙ s in
      either c.again (Row.GiveFinds m (OfWait k n b timed)) (Row.Gives m (OfWait k n b timed)) same same
  needs_row (Row.WaitSets m k n timed) g o there s slept is none = let same = sets_then k n o.cell.inside s (store_then k (n + 4294967296) o.cell.inside is) in
      either c.yes (Row.GiveFinds m (OfWait k n true timed)) (Row.Gives m (OfWait k n true timed)) same same
  needs_row (Row.CountLoads m k all) g o there s slept is none = ap (shown y) (place_then k) ∙ by_reading (Access.Load (address_in l t (counter_place l k))) k tt is
  needs_row (Row.Counts m k all n) g o there s slept is none = counted_sees m k all (shows_slept x t c n) (counted x t c n % 4294967296) (behind_low k o.cell.inside ∙ ap (λ (w : ℕ). w % 4294967296) (store_then k (counted x t c n) o.cell.inside is))
  needs_row (Row.CountWakes m k n) g o there s slept is none = either (is_nobody (x.machine.queues (counter_place l k))) (Row.Unsets m k n) Row.Rests (alike k o.cell.inside (slept k) (by_reading (Access.Wake (address_in l t (counter_place l k)) 1) k tt is) ∙ s) tt
  needs_row (Row.AllMarks m k n) g o there s slept is none = alike k o.cell.inside (slept k) (by_place (Access.FetchOr (cell_in l t (cell_of m)) 2147483648) k (λ e. counter_is_no_cell l (cell_of m) k (our_cell l m o.ours) (e ∙ cell_again l t inv.layout pos known (cell_of m) (our_cell l m o.ours))) is) ∙ s
  needs_row (Row.AllMoves m k n) g o there s slept is none = alike k o.cell.inside (slept k) (by_reading (Access.CmpRequeue (address_in l t (counter_place l k)) n 0 (cell_in l t (cell_of m)) most_threads) k tt is) ∙ s
  needs_row r g o there s slept is none = tt
