-- A count rises at signals and broadcasts of its condition variable, and at nothing else.
use Rattle.std.proofs.Common.{◌≡◌, ◌≢◌, inl, ℕ, ◌+◌, ◌/◌, ◌%◌, ◌<◌, ◌≤◌, ◌==◌, Bool, true, false, Option, Some, None, [], ◌∷◌, length, refl, sym, ap, ◌∙◌, subst, arith, eqb-true}
use Rattle.std.specs.Prelude.{if◌then◌else◌, not, ◌&&◌}
use Rattle.std.proofs.lemmas.Bool.{eqb-false}
use Rattle.lockword.specs.Cells.{bit, fields_of}
use Rattle.stepprograms.specs.declared.access.Access.{Access}
use Rattle.memorymap.specs.Layouts.{Layout', address_in, cell_place, counter_place, head_place, place_in}
use Rattle.mutex.proofs.Addresses.{head_further, head_word_again}
use Rattle.exitwalk.specs.Standings as walks
use Rattle.protocol.specs.declared.event.Event.TheVariants.{Kill, Leave, Renew, Step}
use Rattle.protocol.specs.declared.thread.Stage.TheVariants.{Dying}
use Rattle.protocol.specs.Machine.{After, State, happens, has_thread, is_alive, is_asleep, is_dying, is_exiting, is_gone, killed, nothing, place_met, renewed, words_after}
use Rattle.protocol.proofs.Frames.{knows_at}
use Rattle.protocol.proofs.Kept.{Kept}
use Rattle.protocol.proofs.Renewals.{renewed_counter}
use Rattle.protocol.proofs.Places.{counter_is_no_cell, counter_is_valid}
use Rattle.protocol.proofs.Puts.{put-other, put-same}
use Rattle.protocol.proofs.Queued.{in_none}
use Rattle.protocol.proofs.Seeing.{cell_again, counter_again}
use Rattle.protocol.proofs.WalkSteps.{DeathTells, WalkStep, death_then, walk_access, walk_after, walk_step}
use Rattle.protocol.proofs.Working.{walk_is}
use Rattle.slots.specs.Places.{cell_of, slot_of}
use Rattle.slots.specs.Rows.{Choice, Giving, How, Row, Taking}
use Rattle.slots.specs.Rows.How.{Tried, Later, Waited}
use Rattle.slots.specs.Rows.Giving.{OfUnlock, OfWait}
use Rattle.slots.specs.Words.{is_free}
use Rattle.slots.specs.Shown.{Slots, after, begin, memory, shown}
use Rattle.slots.specs.Stands.{StandsAs}
use Rattle.slots.specs.Table.{Made, access_of_stage, counted, made, missed}
use Rattle.slots.specs.Runs.{Happening, at_row, is_resting, lapse_events, lapse_row, made_by, may_call, next, reached}
use Rattle.slots.specs.Runs.Happening.{Calls, Goes, Interrupts, Lapses, Dies, Walks, Lives}
use Rattle.slots.specs.Accesses.{IsAlongList, IsAtRow}
use Rattle.slots.specs.Goes.{Grants, who}
use Rattle.slots.specs.Fits.{Fits, GivesOurs, IsOurs}
use Rattle.slots.specs.Premises.{HasFewCounts, SeesCount, TrustsIn}
use Rattle.slots.specs.Stores.{IsMadeSo, Manner, manner}
use Rattle.slots.specs.Stores.Manner.{Loads, Stores, Locks, Asks}
use Rattle.slots.specs.Outcomes.{CountsAreSignals, count_of, counts_at, signals_at}
use Rattle.slots.proofs.AllRows.{layout_run}
use Rattle.slots.proofs.CountersKept.{count_at, shown_alike}
use Rattle.slots.proofs.Each.{each_access}
use Rattle.slots.proofs.Following.{begins_steady, layout_then, steady_run}
use Rattle.slots.proofs.Free.{reached_kept, reached_queued}
use Rattle.slots.proofs.HeirsStay.{walk_goes}
use Rattle.slots.proofs.Keeping.{dying_at}
use Rattle.slots.proofs.LateRuns.{its_no_counter, lapse_words, leave_words}
use Rattle.slots.proofs.Leading.{by_test}
use Rattle.slots.proofs.ListPlaces.{list_mine}
use Rattle.slots.proofs.OwnStores.{its_own}
use Rattle.slots.proofs.Owned.{our_cell, our_slot}
use Rattle.slots.proofs.PlainStores.{made_so}
use Rattle.slots.proofs.ShownWords.{IsReading, apart_words, reads}
use Rattle.slots.proofs.Shows.{changes}
use Rattle.slots.proofs.Sleeping.{counter_shows}
use Rattle.slots.proofs.Steady.{Steady, granted, may_go}

-- ---- accesses that change no word

abbrev reads_only : Manner → Bool
reads_only Loads = true
reads_only Asks = true
reads_only m = false

reading_of : (m : Manner) (a : Access) → reads_only m ≡ true → IsMadeSo m a → IsReading a
reading_of Loads (Access.Load at) e so = tt
reading_of Loads a e so = absurd so
reading_of Asks (Access.Wait at n) e so = tt
reading_of Asks (Access.Wake at n) e so = tt
reading_of Asks (Access.CmpRequeue from n k to i) e so = tt
reading_of Asks a e so = absurd so
reading_of m a e so = absurd cc

rises_by : (a b : ℕ) (d : Bool) → d ≡ false → a ≡ b → a ≡ b + (if d then 1 else 0)
rises_by a b false e same = omega (arith, same)
rises_by a b true e same = absurd cc

module _ (x : Slots) (t : ℕ) (c : Choice) (s : Steady x) (pos : 1 ≤ t) (known : t ≤ x.machine.layout.threads) (k : ℕ) (inside : k < length x.machine.layout.conditions) (Y : ℕ → ℕ) where
  abbrev l : Layout'
  l = x.machine.layout

  abbrev pl : ℕ
  pl = counter_place l k

  inv : Kept x.machine
  inv = reached_kept x.machine s.reached

  abbrev Is : Access → Type 0
  Is a = (p : ℕ) → Y p ≡ words_after (memory x) t a p

  -- the count then
  abbrev Goal : Row → Type 0
  Goal r = Y pl % 4294967296 ≡ shown x pl % 4294967296 + (if counts_at r k then 1 else 0)

  stays : (r : Row) → counts_at r k ≡ false → Y pl ≡ shown x pl → Goal r
  stays r none same = rises_by (Y pl % 4294967296) (shown x pl % 4294967296) (counts_at r k) none (ap (λ (w : ℕ). w % 4294967296) same)

  -- at another place
  abbrev Apart : Access → Type 0
  Apart a = pl ≢ place_met l t a

  elsewhere : (r : Row) → counts_at r k ≡ false → Apart (made x t c r).access → Is (made x t c r).access → Goal r
  elsewhere r none apart is = stays r none (is pl ∙ apart_words (memory x) t (made x t c r).access pl apart)

  pend : pl ≢ place_in l t (address_in l t (head_place t + 2))
  pend e = its_no_counter x.machine t (head_place t + 2) k pos known (inl (2, omega arith, refl))
      (sym (ap (place_in l t) (sym (head_further l t inv.layout pos known 2 (omega arith))) ∙ head_word_again l t inv.layout pos known 2 (omega arith)) ∙ sym e)

  listed : (r : Row) → IsAlongList r → StandsAs r (x.machine.threads t).stage → Apart (access_of_stage (x.machine.threads t).stage (address_in l t (head_place t)))
  listed r on there e = its_no_counter x.machine t (place_met l t (access_of_stage (x.machine.threads t).stage (address_in l t (head_place t)))) k pos known
      (its_own x.machine t (place_met l t (access_of_stage (x.machine.threads t).stage (address_in l t (head_place t)))) (list_mine x.machine t inv pos known r on there (address_in l t (head_place t)))) (sym e)

  at_cell : (m : ℕ) → IsOurs l m → pl ≢ place_in l t (address_in l t (cell_place l (cell_of m)))
  at_cell m ours e = counter_is_no_cell l (cell_of m) k (our_cell l m ours) (e ∙ cell_again l t inv.layout pos known (cell_of m) (our_cell l m ours))

  at_slot : (m : ℕ) → IsOurs l m → pl ≢ place_in l t (address_in l t (cell_place l (slot_of m)))
  at_slot m ours e = counter_is_no_cell l (slot_of m) k (our_slot l m ours) (e ∙ cell_again l t inv.layout pos known (slot_of m) (our_slot l m ours))

  gives_cell : (m : ℕ) (y : Giving) → GivesOurs l m y → IsOurs l m
  gives_cell m (OfUnlock d) o = o
  gives_cell m (OfWait j n slept timed) o = o.ours

  two : (b : Bool) (n o : Made) → Apart n.access → Apart o.access → Apart (if b then n else o).access
  two true n o first second = first
  two false n o first second = second

  missed_apart : (a : Access) (i : Taking) (h : How) (w : ℕ) → Apart a → Apart (missed x t c a i h w).access
  missed_apart a i Tried w apart = apart
  missed_apart a i Later w apart = apart
  missed_apart a i (Waited z) w apart = apart

  -- ---- a store at a counter

  other_counter : (j v : ℕ) → j < length l.conditions → (j == k) ≡ false → Apart (Access.Store (address_in l t (counter_place l j)) v)
  other_counter j v there other e =
      let f : counter_place l k ≡ counter_place l j = e ∙ counter_again l t inv.layout pos known j there in
      let g : j ≢ k = λ (same : j ≡ k). eqb-false j k other same in omega (arith, f, g)

  stored : (v : ℕ) → Is (Access.Store (address_in l t pl) v) → Y pl ≡ v
  stored v is = is pl ∙ changes (memory x) t pl (Access.Store (address_in l t pl) v) tt (counter_again l t inv.layout pos known k inside) (counter_is_valid l k inside) pl ∙ put-same (shown x) pl v

  most : count_at x k ≤ 4294967295
  most = s.counts.most k inside

  low : (w : ℕ) (b : Bool) → w ≤ 4294967295 → (w + bit b 4294967296) % 4294967296 ≡ w
  low w true few = omega (arith, few)
  low w false few = omega (arith, few)

  shown_low : shown x pl % 4294967296 ≡ count_at x k
  shown_low = ap (λ (w : ℕ). w % 4294967296) (counter_shows x k inside) ∙ low (count_at x k) (x.slept k) most

  sets : (n : ℕ) → count_at x k ≡ n → Is (Access.Store (address_in l t pl) (n + 4294967296)) → Y pl % 4294967296 ≡ shown x pl % 4294967296
  sets n sees is = ap (λ (w : ℕ). w % 4294967296) (stored (n + 4294967296) is) ∙ low n true (let few : count_at x k ≤ 4294967295 = most in omega (arith, few, sees)) ∙ sym sees ∙ sym shown_low

  unsets : (n : ℕ) → count_at x k ≡ n → Is (Access.Store (address_in l t pl) n) → Y pl % 4294967296 ≡ shown x pl % 4294967296
  unsets n sees is = ap (λ (w : ℕ). w % 4294967296) (stored n is) ∙ (let few : count_at x k ≤ 4294967295 = most in let e : n % 4294967296 ≡ n = omega (arith, few, sees) in e) ∙ sym sees ∙ sym shown_low

  counts : (n : ℕ) → shown x pl ≡ n → count_at x k < 4294967295 → Is (Access.Store (address_in l t pl) (counted x t c n)) → Y pl % 4294967296 ≡ shown x pl % 4294967296 + 1
  counts n sees few is = ap (λ (w : ℕ). w % 4294967296) (stored (counted x t c n) is)
      ∙ (let e : n % 4294967296 ≡ count_at x k = sym (ap (λ (w : ℕ). w % 4294967296) sees) ∙ shown_low in let f : counted x t c n % 4294967296 ≡ n % 4294967296 + 1 = omega (arith, e, few) in f)
      ∙ ap (λ (w : ℕ). w % 4294967296 + 1) (sym sees)

  -- ---- each row

  stores_row : (r : Row) → reads_only (manner r) ≡ false → Fits l t r (x.machine.threads t).stage → StandsAs r (x.machine.threads t).stage → SeesCount x r → HasFewCounts x r → Is (made x t c r).access → Goal r
  stores_row (Row.Pends i v) e o there sees few is = elsewhere (Row.Pends i v) refl pend is
  stores_row (Row.Clears m y) e o there sees few is = elsewhere (Row.Clears m y) refl pend is
  stores_row (Row.Asleep i) e o there sees few is = elsewhere (Row.Asleep i) refl pend is
  stores_row (Row.Late i) e o there sees few is = elsewhere (Row.Late i) refl pend is
  stores_row (Row.SlotPends i v) e o there sees few is = elsewhere (Row.SlotPends i v) refl pend is
  stores_row (Row.SlotLeft i) e o there sees few is = elsewhere (Row.SlotLeft i) refl pend is
  stores_row (Row.SlotClears i) e o there sees few is = elsewhere (Row.SlotClears i) refl pend is
  stores_row (Row.HeirPends i b) e o there sees few is = elsewhere (Row.HeirPends i b) refl pend is
  stores_row (Row.HeirPendsOn i v over) e o there sees few is = elsewhere (Row.HeirPendsOn i v over) refl pend is
  stores_row (Row.Frees i f) e o there sees few is = elsewhere (Row.Frees i f) refl pend is
  stores_row (Row.TryPends m v) e o there sees few is = elsewhere (Row.TryPends m v) refl pend is
  stores_row (Row.GivePends m y) e o there sees few is = elsewhere (Row.GivePends m y) refl pend is
  stores_row (Row.WaitAsleep m j n timed) e o there sees few is = elsewhere (Row.WaitAsleep m j n timed) refl pend is
  stores_row (Row.Links m y) e o there sees few is = elsewhere (Row.Links m y) refl (listed (Row.Links m y) tt there) is
  stores_row (Row.SlotLinks i d) e o there sees few is = elsewhere (Row.SlotLinks i d) refl (listed (Row.SlotLinks i d) tt there) is
  stores_row (Row.HeirLinks i y) e o there sees few is = elsewhere (Row.HeirLinks i y) refl (listed (Row.HeirLinks i y) tt there) is
  stores_row (Row.FreeUnlinks i f) e o there sees few is = elsewhere (Row.FreeUnlinks i f) refl (listed (Row.FreeUnlinks i f) tt there) is
  stores_row (Row.GiveUnlinks m y) e o there sees few is = elsewhere (Row.GiveUnlinks m y) refl (listed (Row.GiveUnlinks m y) tt there) is
  stores_row (Row.Takes i v) e o there sees few is = elsewhere (Row.Takes i v) refl (two (shown x (cell_place l (cell_of i.mutex)) == v) _ _ (at_cell i.mutex o.0.ours) (at_cell i.mutex o.0.ours)) is
  stores_row (Row.Marks i v n) e o there sees few is = elsewhere (Row.Marks i v n) refl (two (shown x (cell_place l (cell_of i.mutex)) == v) _ _ (at_cell i.mutex o.0.ours) (missed_apart _ i i.how (shown x (cell_place l (cell_of i.mutex))) (at_cell i.mutex o.0.ours))) is
  stores_row (Row.SlotTakes i g) e o there sees few is = elsewhere (Row.SlotTakes i g) refl (two (shown x (cell_place l (slot_of i.mutex)) == g) _ _ (at_slot i.mutex o.0.ours) (two ((fields_of (shown x (cell_place l (slot_of i.mutex)))).owner == 0) _ _ (at_slot i.mutex o.0.ours) (at_slot i.mutex o.0.ours))) is
  stores_row (Row.SlotQuiets i) e o there sees few is = elsewhere (Row.SlotQuiets i) refl (at_slot i.mutex o.ours) is
  stores_row (Row.SlotMends i) e o there sees few is = elsewhere (Row.SlotMends i) refl (at_slot i.mutex o.ours) is
  stores_row (Row.HeirSets i) e o there sees few is = elsewhere (Row.HeirSets i) refl (at_slot i.mutex o.ours) is
  stores_row (Row.HeirHas i y) e o there sees few is = elsewhere (Row.HeirHas i y) refl (at_slot i.mutex o.ours) is
  stores_row (Row.GivesUp i) e o there sees few is = elsewhere (Row.GivesUp i) refl (at_slot i.mutex o.ours) is
  stores_row (Row.FreeGives i f) e o there sees few is = elsewhere (Row.FreeGives i f) refl (at_slot i.mutex o.ours) is
  stores_row (Row.HeirTakes i v) e o there sees few is = elsewhere (Row.HeirTakes i v) refl (two (shown x (cell_place l (cell_of i.mutex)) == v) _ _ (at_cell i.mutex o.0.ours) (at_cell i.mutex o.0.ours)) is
  stores_row (Row.LastMarks i v) e o there sees few is = elsewhere (Row.LastMarks i v) refl (two (shown x (cell_place l (cell_of i.mutex)) == v) _ _ (at_cell i.mutex o.0.ours) (at_cell i.mutex o.0.ours)) is
  stores_row (Row.TryTakes m v) e o there sees few is = elsewhere (Row.TryTakes m v) refl (two (shown x (cell_place l (cell_of m)) == v) _ _ (at_cell m o.0) (two (is_free (shown x (cell_place l (cell_of m)))) _ _ (at_cell m o.0) (at_cell m o.0))) is
  stores_row (Row.Gives m y) e o there sees few is = elsewhere (Row.Gives m y) refl (at_cell m (gives_cell m y o)) is
  stores_row (Row.Trims m n) e o there sees few is = elsewhere (Row.Trims m n) refl (at_cell m o) is
  stores_row (Row.Mends m) e o there sees few is = elsewhere (Row.Mends m) refl (at_cell m o) is
  stores_row (Row.Anews m v) e o there sees few is = elsewhere (Row.Anews m v) refl (two (shown x (cell_place l (cell_of m)) == v) _ _ (at_cell m o.0) (at_cell m o.0)) is
  stores_row (Row.AllMarks m j n) e o there sees few is = elsewhere (Row.AllMarks m j n) refl (at_cell m o.ours) is
  stores_row (Row.WaitSets m j n timed) e o there sees few is = go (j == k) refl
    where
      go : (b : Bool) → (j == k) ≡ b → Goal (Row.WaitSets m j n timed)
      go false other = elsewhere (Row.WaitSets m j n timed) refl (other_counter j (n + 4294967296) o.cell.inside other) is
      go true same = rises_by (Y pl % 4294967296) (shown x pl % 4294967296) false refl (by_it j (eqb-true j k same) sees is)
        where
          by_it : (i : ℕ) → i ≡ k → count_at x i ≡ n → Is (Access.Store (address_in l t (counter_place l i)) (n + 4294967296)) → Y pl % 4294967296 ≡ shown x pl % 4294967296
          by_it i same sees is = sets n (subst (λ (h : ℕ). count_at x h ≡ n) same sees) (subst (λ (h : ℕ). Is (Access.Store (address_in l t (counter_place l h)) (n + 4294967296))) same is)
  stores_row (Row.Unsets m j n) e o there sees few is = go (j == k) refl
    where
      go : (b : Bool) → (j == k) ≡ b → Goal (Row.Unsets m j n)
      go false other = elsewhere (Row.Unsets m j n) refl (other_counter j n o.cell.inside other) is
      go true same = rises_by (Y pl % 4294967296) (shown x pl % 4294967296) false refl (by_it j (eqb-true j k same) sees is)
        where
          by_it : (i : ℕ) → i ≡ k → count_at x i ≡ n → Is (Access.Store (address_in l t (counter_place l i)) n) → Y pl % 4294967296 ≡ shown x pl % 4294967296
          by_it i same sees is = unsets n (subst (λ (h : ℕ). count_at x h ≡ n) same sees) (subst (λ (h : ℕ). Is (Access.Store (address_in l t (counter_place l h)) n)) same is)
  stores_row (Row.Counts m j all n) e o there sees few is = go (j == k) refl
    where
      go : (b : Bool) → (j == k) ≡ b → Y pl % 4294967296 ≡ shown x pl % 4294967296 + (if j == k then 1 else 0)
      go false other = elsewhere (Row.Counts m j all n) other (other_counter j (counted x t c n) o.cell.inside other) is
      go true same = by_it j (eqb-true j k same) sees few is ∙ ap (λ (b : Bool). shown x pl % 4294967296 + (if b then 1 else 0)) (sym same)
        where
          by_it : (i : ℕ) → i ≡ k → shown x (counter_place l i) ≡ n → count_at x i < 4294967295 → Is (Access.Store (address_in l t (counter_place l i)) (counted x t c n)) → Y pl % 4294967296 ≡ shown x pl % 4294967296 + 1
          by_it i same sees few is = counts n (subst (λ (h : ℕ). shown x (counter_place l h) ≡ n) same sees) (subst (λ (h : ℕ). count_at x h < 4294967295) same few) (subst (λ (h : ℕ). Is (Access.Store (address_in l t (counter_place l h)) (counted x t c n))) same is)
  stores_row r e o there sees few is = absurd cc

  no_count : (r : Row) → reads_only (manner r) ≡ true → counts_at r k ≡ false
  no_count (Row.Counts m j all n) e = go (n / 4294967296 == 1) e
    where
      go : (b : Bool) → reads_only (if b then Locks else Stores) ≡ true → (j == k) ≡ false
      go true e = absurd cc
      go false e = absurd cc
  no_count r e = refl

  pub counts_row : (r : Row) → Fits l t r (x.machine.threads t).stage → StandsAs r (x.machine.threads t).stage → SeesCount x r → HasFewCounts x r → Is (made x t c r).access → Goal r
  counts_row r o there sees few is = go (reads_only (manner r)) refl
    where
      go : (b : Bool) → reads_only (manner r) ≡ b → Goal r
      go true e = stays r (no_count r e) (is pl ∙ reads (memory x) t (made x t c r).access (reading_of (manner r) (made x t c r).access e (made_so x t c r there)) pl)
      go false e = stores_row r e o there sees few is

-- ---- what happens without an access of a call

walk_leaves : (s : State) (t : ℕ) (w : walks.Standing) → Kept s → 1 ≤ t → t ≤ s.layout.threads → (s.threads t).stage ≡ Dying w → (k : ℕ) → (happens s (Step t)).state.words (counter_place s.layout k) ≡ s.words (counter_place s.layout k)
walk_leaves s t w inv pos known is k = ap (λ (z : State). z.words (counter_place s.layout k)) (walk_goes s t w inv pos known is) ∙ same (death_then s t w.row) refl
  where
    g : WalkStep s t w.row
    g = let at = walk_is s t w inv pos known is in walk_step s t inv pos known w.row at.0.going (knows_at s.layout t w at.0) at.2

    same : (d : Option ℕ) → death_then s t w.row ≡ d → (walk_after s t w.row).words (counter_place s.layout k) ≡ s.words (counter_place s.layout k)
    same None e = g.reads e (counter_place s.layout k)
    same (Some m) e =
        let inside : m < s.layout.mutexes = (subst (λ (d : Option ℕ). DeathTells s t d (walk_after s t w.row)) e g.tells).0 in
        put-other s.words (place_met s.layout t (walk_access s t w.row)) _ (counter_place s.layout k) (λ at. counter_is_no_cell s.layout m k inside (at ∙ g.place m e))

second_of : (a b : Bool) → (a && b) ≡ true → b ≡ true
second_of true b e = e
second_of false b e = absurd cc

module _ (x : Slots) (k : ℕ) (s : Steady x) (inside : k < length x.machine.layout.conditions) where
  abbrev Stays : Slots → Type 0
  Stays y = count_of y k ≡ count_of x k + 0

  same : (y : Slots) → y.machine.layout ≡ x.machine.layout → count_at y k ≡ count_at x k → y.slept k ≡ x.slept k → Stays y
  same y layout words slept = rises_by (count_of y k) (count_of x k) false refl (ap (λ (w : ℕ). w % 4294967296) (shown_alike x y k (shown x (counter_place x.machine.layout k)) layout inside words slept refl))

  itself : Stays x
  itself = rises_by (count_of x k) (count_of x k) false refl refl

  pub signals_row : (h : Happening) → 1 ≤ who h → who h ≤ x.machine.layout.threads → TrustsIn x h → count_of (next x h) k ≡ count_of x k + (if signals_at x k h then 1 else 0)
  signals_row (Calls t r) pos known w = by_test Stays (has_thread x.machine t && is_alive (x.machine.threads t).stage && is_resting (x.rows t) && may_call x.machine.layout (x.machine.threads t).held r) (at_row x t r) x (λ e. itself) (λ e. itself)
  signals_row (Goes t c) pos known w = go (has_thread x.machine t && is_alive (x.machine.threads t).stage && not (is_asleep x.machine t)) refl
    where
      y : Slots
      y = made_by x t c (made x t c (x.rows t))

      on_row : is_alive (x.machine.threads t).stage ≡ true → is_asleep x.machine t ≡ false → count_of y k ≡ count_of x k + (if counts_at (x.rows t) k then 1 else 0)
      on_row lives awake = ap (λ (l : Layout'). shown y (counter_place l k) % 4294967296) (layout_run x.machine (made x t c (x.rows t)).events (reached_kept x.machine s.reached))
          ∙ counts_row x t c s pos known k inside (shown y) (x.rows t) (s.fits t pos known) (s.there t pos known lives) (s.sees t pos known) w.counts (each_access x t c at grant.1).words
        where
          grant : Grants x (Goes t c)
          grant = granted x t pos known s c w

          at : IsAtRow x t
          at = record { reached = s.reached; first = pos; last = known; there = s.there t pos known lives; about = grant.0; out = in_none x.machine t (reached_queued x.machine s.reached) awake }

      go : (b : Bool) → (has_thread x.machine t && is_alive (x.machine.threads t).stage && not (is_asleep x.machine t)) ≡ b → count_of (if b then y else x) k ≡ count_of x k + (if (if b then counts_at (x.rows t) k else false) then 1 else 0)
      go true e = let may = may_go (has_thread x.machine t) (is_alive (x.machine.threads t).stage) (is_asleep x.machine t) e in on_row may.0 may.1
      go false e = itself
  signals_row (Interrupts t) pos known w = same (next x (Interrupts t)) (layout_run x.machine (Leave t ∷ []) (reached_kept x.machine s.reached)) ((leave_words x t).1 k) refl
  signals_row (Lapses t) pos known w = by_test Stays (is_asleep x.machine t) (at_row (after x (lapse_events x t (x.rows t))) t (lapse_row (x.rows t))) x
      (λ e. same (at_row (after x (lapse_events x t (x.rows t))) t (lapse_row (x.rows t))) (layout_run x.machine (lapse_events x t (x.rows t)) (reached_kept x.machine s.reached)) ((lapse_words x t (x.rows t)).1 k) refl) (λ e. itself)
  signals_row (Dies t) pos known w = by_test Stays (has_thread x.machine t && is_alive (x.machine.threads t).stage) (at_row (after x (Kill t ∷ [])) t Row.Rests) x
      (λ e. same (at_row (after x (Kill t ∷ [])) t Row.Rests) (layout_run x.machine (Kill t ∷ []) (reached_kept x.machine s.reached))
      (by_test (λ (a : After). a.state.words (counter_place a.state.layout k) ≡ count_at x k) (has_thread x.machine t && is_alive (x.machine.threads t).stage) (killed x.machine t) (nothing x.machine) (λ e. refl) (λ e. refl)) refl) (λ e. itself)
  signals_row (Walks t) pos known w = by_test Stays (is_dying x.machine t) (after x (Step t ∷ [])) x
      (λ e. let at = dying_at (x.machine.threads t).stage (second_of (has_thread x.machine t) (is_exiting (x.machine.threads t).stage) e) in
      let layout : (happens x.machine (Step t)).state.layout ≡ x.machine.layout = layout_run x.machine (Step t ∷ []) (reached_kept x.machine s.reached) in
      same (after x (Step t ∷ [])) layout (ap (λ (l : Layout'). (happens x.machine (Step t)).state.words (counter_place l k)) layout ∙ walk_leaves x.machine t at.0 (reached_kept x.machine s.reached) pos known at.1 k) refl) (λ e. itself)
  signals_row (Lives t) pos known w = same (next x (Lives t)) (layout_run x.machine (Renew t ∷ []) (reached_kept x.machine s.reached))
      (by_test (λ (a : After). a.state.words (counter_place a.state.layout k) ≡ count_at x k) (has_thread x.machine t && is_gone (x.machine.threads t).stage) (renewed x.machine t) (nothing x.machine) (λ e. renewed_counter x.machine t pos known k) (λ e. refl)) refl

pub counts_signals : CountsAreSignals
counts_signals l hs h k is inside trusted ((pos, known, w), rest) =
    let st : Steady (reached l hs) = steady_run (begin l) hs (begins_steady l is) trusted in
    signals_row (reached l hs) k st (subst (λ (j : Layout'). k < length j.conditions) (sym (layout_then (begin l) hs (begins_steady l is) trusted)) inside) h pos known w
