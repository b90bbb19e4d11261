-- Nobody sleeps on a counter without SLEPT, whatever happens.
use Rattle.std.proofs.Common.{◌≡◌, ◌≢◌, ℕ, ◌+◌, ◌/◌, ◌%◌, ◌<◌, ◌≤◌, ◌==◌, Bool, true, false, List, [], ◌∷◌, ◌++◌, length, drop, take, refl, sym, ap, ◌∙◌, arith, eqb-true, eq-eqb}
use Rattle.std.specs.Prelude.{if◌then◌else◌, not, ◌&&◌, ◌-◌}
use Rattle.std.proofs.lemmas.List.{drop_all}
use Rattle.lockword.specs.Cells.{bit, fields_of}
use Rattle.lockword.specs.Threads.{most_threads}
use Rattle.lockword.specs.declared.reply.Reply.TheVariants.{OK}
use Rattle.stepprograms.specs.declared.access.Access.{Access}
use Rattle.stepprograms.specs.Accesses.{is_nobody}
use Rattle.memorymap.specs.Layouts.{Layout', address_in, cell_place, counter_place, place_in}
use Rattle.protocol.specs.declared.event.Event.TheVariants.{Spare, Step}
use Rattle.protocol.specs.declared.event.LeftTo.TheVariants as left_to
use Rattle.protocol.specs.Machine.{State, is_met, is_valid, put, queues_after, run}
use Rattle.protocol.proofs.Counters.{Counted}
use Rattle.protocol.proofs.Emptied.{no_more}
use Rattle.protocol.proofs.Kept.{Kept}
use Rattle.protocol.proofs.Places.{counter_is_no_cell, counter_is_valid}
use Rattle.protocol.proofs.Puts.{by_put, put-same}
use Rattle.protocol.proofs.Queued.{Queued}
use Rattle.protocol.proofs.Seeing.{cell_again, counter_again}
use Rattle.slots.specs.Places.{cell_of, slot_of}
use Rattle.slots.specs.Rows.{Choice, Row}
use Rattle.slots.specs.Rows.Giving.{OfUnlock, OfWait}
use Rattle.slots.specs.Shown.{Slots, memory, shown}
use Rattle.slots.specs.Stands.{StandsAs}
use Rattle.slots.specs.Words.{shows_heir}
use Rattle.slots.specs.Seen.{heir_of}
use Rattle.slots.specs.Table.{Made, given_row, is_on_list, made, makes, released, shows_slept, unlinked_row, wait_begins}
use Rattle.slots.specs.Runs.{slept_after}
use Rattle.slots.specs.Fits.{AreOfUs, Fits}
use Rattle.slots.specs.Premises.{SeesCount}
use Rattle.slots.proofs.CountersKept.{count_at}
use Rattle.slots.proofs.Leading.{by_test}
use Rattle.slots.proofs.NoWaits.{away_row, empty_stays}
use Rattle.slots.proofs.Owned.{our_cell}
use Rattle.slots.proofs.Shows.{cell_valid}
use Rattle.slots.proofs.Sleeping.{counter_shows}
use Rattle.slots.specs.Stores.{Released}
use Rattle.slots.proofs.Slept.{IfThere, SeesSlept, queue_at}
use Rattle.slots.proofs.SleptRows.{Needs}

nobody_empty : (q : List ℕ) → is_nobody q ≡ true → q ≡ []
nobody_empty [] e = refl
nobody_empty (u ∷ us) e = absurd cc

short : (s : State) (key : ℕ) → Kept s → Queued s → length (s.queues key) ≤ most_threads
short s key inv queued =
    let few = no_more s.layout.threads (s.queues key) (queued.once key) (λ u stands. let slept = queued.sleeps key u stands in (slept.0, slept.1)) in
    let most = inv.layout.threads.1 in omega (arith, few, most)

apart_false : (a b : ℕ) → a ≢ b → (a == b) ≡ false
apart_false a b apart = go (a == b) refl
  where
    go : (d : Bool) → (a == b) ≡ d → d ≡ false
    go true e = absurd (apart (eqb-true a b e))
    go false e = refl

module _ (x y : Slots) (t : ℕ) (c : Choice) (inv : Kept x.machine) (queued : Queued x.machine) (pos : 1 ≤ t) (known : t ≤ x.machine.layout.threads) (layout : y.machine.layout ≡ x.machine.layout) (counted : Counted x.machine) where
  abbrev l : Layout'
  l = x.machine.layout

  queue_then : (k : ℕ) → queue_at y k ≡ y.machine.queues (counter_place l k)
  queue_then k = ap (λ (j : Layout'). y.machine.queues (counter_place j k)) layout

  shown_low : (k : ℕ) → k < length l.conditions → shown x (counter_place l k) % 4294967296 ≡ count_at x k
  shown_low k inside = ap (λ (w : ℕ). w % 4294967296) (counter_shows x k inside) ∙ low (x.slept k)
    where
      low : (b : Bool) → (count_at x k + bit b 4294967296) % 4294967296 ≡ count_at x k
      low true = let most : count_at x k ≤ 4294967295 = counted.most k inside in omega (arith, most)
      low false = let most : count_at x k ≤ 4294967295 = counted.most k inside in omega (arith, most)

  shows_so : (k : ℕ) → k < length l.conditions → shows_slept x t c (shown x (counter_place l k)) ≡ true → x.slept k ≡ true
  shows_so k inside e = go (x.slept k) (ap (λ (w : ℕ). w / 4294967296 == 1) (sym (counter_shows x k inside)) ∙ e)
    where
      go : (b : Bool) → ((count_at x k + bit b 4294967296) / 4294967296 == 1) ≡ true → b ≡ true
      go true f = refl
      go false f = let most : count_at x k ≤ 4294967295 = counted.most k inside in let is : (count_at x k + 0) / 4294967296 ≡ 1 = eqb-true ((count_at x k + 0) / 4294967296) 1 f in absurd (omega (arith, most, is))

  -- ---- nobody comes to sleep there

  pub empty_then : (r : Row) → Fits l t r (x.machine.threads t).stage → StandsAs r (x.machine.threads t).stage → ((p : ℕ) → y.machine.queues p ≡ queues_after (memory x) t (made x t c r).access p) → (k : ℕ) → k < length l.conditions → queue_at x k ≡ [] → ((n : ℕ) → Released r k n → n ≢ count_at x k) → queue_at y k ≡ []
  empty_then (Row.WaitSleeps m i n timed) o there is k inside none away = queue_then k ∙ is (counter_place l k) ∙ go (is_met l t (Access.Wait (address_in l t (counter_place l i)) n))
    where
      at : ℕ
      at = place_in l t (address_in l t (counter_place l i))

      at_is : at ≡ counter_place l i
      at_is = counter_again l t inv.layout pos known i o.cell.inside

      same_one : counter_place l k ≡ at → i ≡ k
      same_one e = let f : counter_place l k ≡ counter_place l i = e ∙ at_is in omega (arith, f)

      stays : counter_place l k ≡ at → (if shown x at % 4294967296 == n then x.machine.queues at ++ t ∷ [] else x.machine.queues at) ≡ []
      stays e = ap (λ (b : Bool). if b then x.machine.queues at ++ t ∷ [] else x.machine.queues at) other ∙ ap x.machine.queues (sym e) ∙ none
        where
          other : (shown x at % 4294967296 == n) ≡ false
          other = apart_false (shown x at % 4294967296) n (λ f. away n (same_one e, refl) (sym f ∙ ap (λ (p : ℕ). shown x p % 4294967296) (sym e) ∙ shown_low k inside))

      go : (b : Bool) → (if b then put x.machine.queues at (if shown x at % 4294967296 == n then x.machine.queues at ++ t ∷ [] else x.machine.queues at) else x.machine.queues) (counter_place l k) ≡ []
      go true = by_put (λ (q : List ℕ). q ≡ []) x.machine.queues at (if shown x at % 4294967296 == n then x.machine.queues at ++ t ∷ [] else x.machine.queues at) (counter_place l k) stays (λ apart. none)
      go false = none
  empty_then r o there is k inside none away = queue_then k ∙ is (counter_place l k) ∙ empty_stays (memory x) t (counter_place l k) none (made x t c r).access (away_row x t c inv pos known k r o there (λ e. e))

  -- a move takes all
  moved_empty : (m k n : ℕ) → AreOfUs l m k → count_at x k ≡ n → queues_after (memory x) t (Access.CmpRequeue (address_in l t (counter_place l k)) n 0 (address_in l t (cell_place l (cell_of m))) most_threads) (counter_place l k) ≡ []
  moved_empty m k n o sees = ap (λ (b : Bool). (if b then put left to (left to ++ going) else x.machine.queues) (counter_place l k)) met
      ∙ by_put (λ (q : List ℕ). q ≡ []) left to (left to ++ going) (counter_place l k) (λ e. nowhere e) (λ apart. by_put (λ (q : List ℕ). q ≡ []) x.machine.queues from (if shown x from % 4294967296 == n then drop most_threads (drop 0 (x.machine.queues from)) else x.machine.queues from) (counter_place l k) (λ e. all) (λ off. absurd (off (sym from_is))))
    where
      from : ℕ
      from = place_in l t (address_in l t (counter_place l k))

      to : ℕ
      to = place_in l t (address_in l t (cell_place l (cell_of m)))

      from_is : from ≡ counter_place l k
      from_is = counter_again l t inv.layout pos known k o.cell.inside

      to_is : to ≡ cell_place l (cell_of m)
      to_is = cell_again l t inv.layout pos known (cell_of m) (our_cell l m o.ours)

      far : counter_place l k ≢ to
      far e = counter_is_no_cell l (cell_of m) k (our_cell l m o.ours) (e ∙ to_is)

      met : is_met l t (Access.CmpRequeue (address_in l t (counter_place l k)) n 0 (address_in l t (cell_place l (cell_of m))) most_threads) ≡ true
      met = λ i. (ap (is_valid l) from_is ∙ counter_is_valid l k o.cell.inside) i && ((ap (is_valid l) to_is ∙ cell_valid l (cell_of m) (our_cell l m o.ours)) i && not (apart_false from to (λ e. far (sym from_is ∙ e)) i))

      left : ℕ → List ℕ
      left = put x.machine.queues from (if shown x from % 4294967296 == n then drop most_threads (drop 0 (x.machine.queues from)) else x.machine.queues from)

      going : List ℕ
      going = if shown x from % 4294967296 == n then take most_threads (drop 0 (x.machine.queues from)) else []

      nowhere : counter_place l k ≡ to → (left to ++ going) ≡ []
      nowhere e = absurd (far e)

      all : (if shown x from % 4294967296 == n then drop most_threads (drop 0 (x.machine.queues from)) else x.machine.queues from) ≡ []
      all = ap (λ (b : Bool). if b then drop most_threads (drop 0 (x.machine.queues from)) else x.machine.queues from) (eq-eqb (shown x from % 4294967296) n (ap (λ (p : ℕ). shown x p % 4294967296) from_is ∙ shown_low k o.cell.inside ∙ sees)) ∙ drop_all most_threads (x.machine.queues from) (short x.machine from inv queued)

  -- ---- the next row

  either : (b : Bool) (r s : Row) → SeesSlept y r → SeesSlept y s → SeesSlept y (if b then r else s)
  either true r s first second = first
  either false r s first second = second

  made_either : (b : Bool) (n o : Made) → SeesSlept y n.next → SeesSlept y o.next → SeesSlept y (if b then n else o).next
  made_either true n o first second = first
  made_either false n o first second = second

  pends_slept : (b : Bool) (m k n : ℕ) (timed : Bool) → (b ≡ true → y.slept k ≡ true) → SeesSlept y (Row.GivePends m (OfWait k n b timed))
  pends_slept true m k n timed on = on refl
  pends_slept false m k n timed on = tt

  released_none : (m : ℕ) (d : Bool) (w : ℕ) → SeesSlept y (released x t c m (OfUnlock d) w)
  released_none m true w = either (fields_of w).waiters (Row.WakesAll m OK) (Row.Clears m OK) tt tt
  released_none m false w = either (fields_of w).waiters (if c.yes then Row.WakesOne m (OfUnlock false) (w - t) else Row.HandsOn m (OfUnlock false) (w - t)) (Row.Clears m OK) (either c.yes (Row.WakesOne m (OfUnlock false) (w - t)) (Row.HandsOn m (OfUnlock false) (w - t)) tt tt) tt

  module _ (rises : (k : ℕ) → count_at x k ≤ count_at y k) where
    still_there : (k n : ℕ) → n ≤ count_at x k → y.slept k ≡ x.slept k → IfThere x k n → IfThere y k n
    still_there k n below slept s e = slept ∙ s (let up = rises k in omega (arith, up, below, e))

    pub slept_needs : (r : Row) → Fits l t r (x.machine.threads t).stage → StandsAs r (x.machine.threads t).stage → SeesSlept x r → SeesCount x r → ((k n : ℕ) → Released r k n → n ≤ count_at x k) → ((k : ℕ) → y.slept k ≡ slept_after r x.slept k) → ((p : ℕ) → y.machine.queues p ≡ queues_after (memory x) t (made x t c r).access p) → Needs x y t c r
    slept_needs (Row.WaitCounts m k timed died) o there s sees below slept is = made_either died
        (makes (Access.Load (address_in l t (counter_place l k))) (wait_begins x t c k timed) Row.Rests)
        (makes (Access.Load (address_in l t (counter_place l k))) [] (Row.GivePends m (OfWait k (shown x (counter_place l k) % 4294967296) (shows_slept x t c (shown x (counter_place l k))) timed)))
        tt (pends_slept (shows_slept x t c (shown x (counter_place l k))) m k (shown x (counter_place l k) % 4294967296) timed (λ e. slept k ∙ shows_so k o.cell.inside e))
    slept_needs (Row.GivePends m (OfUnlock d)) o there s sees below slept is = tt
    slept_needs (Row.GivePends m (OfWait k n true timed)) o there s sees below slept is = slept k ∙ s
    slept_needs (Row.GivePends m (OfWait k n false timed)) o there s sees below slept is = tt
    slept_needs (Row.GiveUnlinks m (OfUnlock d)) o there s sees below slept is = either (is_on_list ((run x.machine (Step t ∷ [])).threads t).stage) (Row.GiveUnlinks m (OfUnlock d)) (unlinked_row x t c m (OfUnlock d)) tt (either c.yes (Row.GiveFinds m (OfUnlock d)) (Row.Gives m (OfUnlock d)) tt tt)
    slept_needs (Row.GiveUnlinks m (OfWait k n true timed)) o there s sees below slept is = let on = slept k ∙ s in either (is_on_list ((run x.machine (Step t ∷ [])).threads t).stage) (Row.GiveUnlinks m (OfWait k n true timed)) (unlinked_row x t c m (OfWait k n true timed)) on (either c.yes (Row.GiveFinds m (OfWait k n true timed)) (Row.Gives m (OfWait k n true timed)) on on)
    slept_needs (Row.GiveUnlinks m (OfWait k n false timed)) o there s sees below slept is = either (is_on_list ((run x.machine (Step t ∷ [])).threads t).stage) (Row.GiveUnlinks m (OfWait k n false timed)) (Row.WaitSets m k n timed) tt tt
    slept_needs (Row.WaitSets m k n timed) o there s sees below slept is = let on = slept k ∙ put-same x.slept k true in either c.yes (Row.GiveFinds m (OfWait k n true timed)) (Row.Gives m (OfWait k n true timed)) on on
    slept_needs (Row.GiveFinds m (OfUnlock d)) o there s sees below slept is = either c.again (Row.GiveFinds m (OfUnlock d)) (Row.Gives m (OfUnlock d)) tt tt
    slept_needs (Row.GiveFinds m (OfWait k n b timed)) o there s sees below slept is = let on = slept k ∙ s in either c.again (Row.GiveFinds m (OfWait k n b timed)) (Row.Gives m (OfWait k n b timed)) on on
    slept_needs (Row.Gives m (OfUnlock d)) o there s sees below slept is = released_none m d (shown x (cell_place l (cell_of m)))
    slept_needs (Row.Gives m (OfWait k n b timed)) o there s sees below slept is = either (fields_of (shown x (cell_place l (cell_of m)))).waiters _ (Row.WaitSleeps m k n timed) (either c.yes (Row.WakesOne m (OfWait k n b timed) (shown x (cell_place l (cell_of m)) - t)) (Row.HandsOn m (OfWait k n b timed) (shown x (cell_place l (cell_of m)) - t)) (λ e. slept k ∙ s) (λ e. slept k ∙ s)) (λ e. slept k ∙ s)
    slept_needs (Row.HandsOn m (OfUnlock d) n) o there s sees below slept is = made_either (shows_heir (shown x (cell_place l (slot_of m))) && c.yes) (makes (Access.Load (address_in l t (cell_place l (slot_of m)))) (Spare t (heir_of x.machine t (cell_of m)) ∷ []) (given_row x t c m (OfUnlock d))) (makes (Access.Load (address_in l t (cell_place l (slot_of m)))) [] (Row.LooksBack m (OfUnlock d) n)) tt tt
    slept_needs (Row.HandsOn m (OfWait k i b timed) n) o there s sees below slept is = let on = still_there k i (below k i (refl, refl)) (slept k) s in made_either (shows_heir (shown x (cell_place l (slot_of m))) && c.yes) (makes (Access.Load (address_in l t (cell_place l (slot_of m)))) (Spare t (heir_of x.machine t (cell_of m)) ∷ []) (Row.WaitSleeps m k i timed)) (makes (Access.Load (address_in l t (cell_place l (slot_of m)))) [] (Row.LooksBack m (OfWait k i b timed) n)) on on
    slept_needs (Row.LooksBack m (OfUnlock d) n) o there s sees below slept is = made_either ((fields_of (shown x (cell_place l (cell_of m)))).owner == 0) (makes (Access.Load (address_in l t (cell_place l (cell_of m)))) [] (Row.WakesOne m (OfUnlock d) n)) (makes (Access.Load (address_in l t (cell_place l (cell_of m)))) (Spare t left_to.Owner ∷ []) (given_row x t c m (OfUnlock d))) tt tt
    slept_needs (Row.LooksBack m (OfWait k i b timed) n) o there s sees below slept is = let on = still_there k i (below k i (refl, refl)) (slept k) s in made_either ((fields_of (shown x (cell_place l (cell_of m)))).owner == 0) (makes (Access.Load (address_in l t (cell_place l (cell_of m)))) [] (Row.WakesOne m (OfWait k i b timed) n)) (makes (Access.Load (address_in l t (cell_place l (cell_of m)))) (Spare t left_to.Owner ∷ []) (Row.WaitSleeps m k i timed)) on on
    slept_needs (Row.WakesOne m (OfUnlock d) n) o there s sees below slept is = either (is_nobody (x.machine.queues (cell_place l (cell_of m)))) (Row.Trims m n) (Row.Clears m OK) tt tt
    slept_needs (Row.WakesOne m (OfWait k i b timed) n) o there s sees below slept is = still_there k i (below k i (refl, refl)) (slept k) s
    slept_needs (Row.CountWakes m k n) o there s sees below slept is = by_test (SeesSlept y) (is_nobody (x.machine.queues (counter_place l k))) (Row.Unsets m k n) Row.Rests
        (λ e. empty_then (Row.CountWakes m k n) o there is k o.cell.inside (nobody_empty (x.machine.queues (counter_place l k)) e) (λ i never. absurd never)) (λ e. tt)
    slept_needs (Row.AllMoves m k n) o there s sees below slept is = queue_then k ∙ is (counter_place l k) ∙ moved_empty m k n o sees
    slept_needs r o there s sees below slept is = tt
