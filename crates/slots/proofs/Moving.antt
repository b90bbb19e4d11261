-- A broadcast's move, and a look at the slot by which a wake may be spared.
use Rattle.std.proofs.Common.{◌≡◌, ℕ, ◌+◌, ◌%◌, ◌^◌, ◌==◌, Bool, true, false, List, [], ◌∷◌, refl, sym, ap, ◌∙◌, subst}
use Rattle.std.specs.Prelude.{if◌then◌else◌, take, drop, ◌&&◌}
use Rattle.lockword.specs.Cells.{fields_of}
use Rattle.lockword.specs.Threads.{most_threads}
use Rattle.stepprograms.specs.declared.access.Access.{Access}
use Rattle.memorymap.specs.Layouts.{place_in, cell_place}
use Rattle.condvar.specs.declared.call.CondCall.{CondCall}
use Rattle.condvar.specs.declared.call.CondCall.TheVariants as cond_call
use Rattle.condvar.specs.declared.phase.CondPhase.{CondPhase}
use Rattle.condvar.specs.declared.row.CondRow.TheVariants as cond_row
use Rattle.condvar.specs.declared.broadcast.BroadcastRow.TheVariants as broadcast
use Rattle.condvar.specs.Programs as programs
use Rattle.condvar.specs.Standings.{CondWhole}
use Rattle.condvar.specs.Whole.{cond_led}
use Rattle.mutex.specs.Whole.{whole_led}
use Rattle.condvar.specs.declared.op.Op.TheVariants.{OnCondition}
use Rattle.condvar.specs.Ops.{mutex_of}
use Rattle.stepprograms.specs.declared.access.Answer.TheVariants.{Count, Trimmed}
use Rattle.mutex.specs.Whole.{whole_access}
use Rattle.protocol.specs.declared.event.Event.TheVariants.{Step, Spare, Decline}
use Rattle.protocol.specs.declared.event.LeftTo.{LeftTo}
use Rattle.protocol.specs.declared.event.LeftTo.TheVariants as left_to
use Rattle.protocol.specs.declared.thread.Thread.{Thread}
use Rattle.protocol.specs.declared.thread.Stage.{Stage}
use Rattle.protocol.specs.declared.thread.Stage.TheVariants.{Calling, AtCondition}
use Rattle.protocol.specs.Machine.{State, After, put, happens, declined, has_thread, is_left_to, is_met, is_trim, joined, led, led_at, nothing, queues_after, sleeps, spared, sparing, wakes_next, wakes_one, words_after}
use Rattle.std.specs.Prelude.{not}
use Rattle.protocol.proofs.Kept.{Kept}
use Rattle.protocol.proofs.CondAccesses.{cond_stepping}
use Rattle.protocol.proofs.CondSteps.{cond_of}
use Rattle.protocol.proofs.Seeing.{cell_in, counter_in, counter_again}
use Rattle.protocol.proofs.Steps.{thread_after, cond_step}
use Rattle.protocol.proofs.Working.{cond_goes}
use Rattle.slots.specs.Places.{cell_of, slot_of}
use Rattle.slots.specs.Rows.{Choice, Row}
use Rattle.slots.specs.Shown.{Slots, memory, shown}
use Rattle.slots.specs.Stands.{StandsAs}
use Rattle.slots.specs.Words.{shows_heir}
use Rattle.slots.specs.Seen.{heir_of}
use Rattle.slots.specs.Table.{given_row, made, makes}
use Rattle.slots.specs.Accesses.{IsAbout, IsAboutIt, IsAtRow}
use Rattle.slots.specs.Further.{IsMoving, MovesAreEvents, IsHanding, SparesAreEvents}
use Rattle.slots.proofs.Chains.{Comes}
use Rattle.slots.proofs.Free.{reached_kept}
use Rattle.slots.proofs.Leading.{IsAtWord, Leads, all_still, by_test, first_more, is_at_word, now, put_back, stays}
use Rattle.slots.proofs.Looks.{IsQuiet}
use Rattle.slots.proofs.Meets.{load_idles, nothing_events, queue_events}
use Rattle.slots.proofs.OneStep.{AreEvents}
use Rattle.slots.proofs.Shows.{put_there}
use Rattle.slots.proofs.Sleeping.{counter_low}

-- ---- a move

module _ (x : Slots) (t : ℕ) (c : Choice) (at : IsAtRow x t) (k seen : ℕ) (there : IsAtWord x.machine t (cond_call.Broadcast k) (CondPhase.AtWords (cond_row.Broadcast (broadcast.Move seen)))) where
  abbrev z : State
  z = x.machine

  inv : Kept z
  inv = reached_kept z at.reached

  abbrev o : CondCall
  o = cond_call.Broadcast k

  abbrev p : CondWhole
  p = cond_of z.layout t o (CondPhase.AtWords (cond_row.Broadcast (broadcast.Move seen)))

  abbrev n : ℕ
  n = (seen + 1) % 2 ^ 32

  abbrev to : ℕ
  to = cell_in z.layout t (programs.mutex_of z.layout o)

  abbrev a : Access
  a = Access.CmpRequeue (counter_in z.layout t k) n 0 to most_threads

  abbrev pl : ℕ
  pl = place_in z.layout t (counter_in z.layout t k)

  abbrev th : Thread
  th = thread_after z t (cond_step z t o p)

  -- who sleeps where then, if the counter's lower half is this
  abbrev moves : ℕ → ℕ → List ℕ
  moves low = joined z.layout t a (if low == n then take most_threads (drop 0 (z.queues pl)) else []) (put z.queues pl (if low == n then drop most_threads (drop 0 (z.queues pl)) else z.queues pl))

  met : is_met z.layout t a ≡ true
  met = (cond_stepping z t o p inv at.first at.last there.there).valid

  moved : Leads z t (Step t ∷ []) z.words (moves (z.words pl % 2 ^ 32)) th
  moved = first_more z t z.words (moves (z.words pl % 2 ^ 32)) th (Step t) inv
      (ap (λ (e : After). e.state) (cond_goes z t o p inv at.first at.last there.there) ∙ (λ i. record {
        layout = z.layout;
        words = put_back z.words pl i;
        queues = moves (z.words pl % 2 ^ 32);
        threads = put z.threads t th;
      }))
      (all_still z z.words)

  low : shown x pl % 2 ^ 32 ≡ z.words pl % 2 ^ 32
  low = subst (λ (v : ℕ). shown x v % 2 ^ 32 ≡ z.words v % 2 ^ 32) (sym (counter_again z.layout t inv.layout at.first at.last k there.counter)) (counter_low x k there.counter)

  words_met : (q : ℕ) → words_after (memory x) t a q ≡ shown x q
  words_met q = ap (λ (b : Bool). (if b then put (shown x) pl (shown x pl) else shown x) q) met ∙ put_there (shown x) pl q

  queues_met : (q : ℕ) → queues_after (memory x) t a q ≡ moves (z.words pl % 2 ^ 32) q
  queues_met q = ap (λ (b : Bool). (if b then moves (shown x pl % 2 ^ 32) else z.queues) q) met ∙ ap (λ (v : ℕ). moves v q) low

  move_so : (r next : Row) → IsQuiet r → AreEvents x t c r (makes a (Step t ∷ []) next)
  move_so r next quiet = queue_events x t c r next (Step t ∷ []) z.words (moves (z.words pl % 2 ^ 32)) th quiet moved a (λ q. refl) words_met (λ q. sym (queues_met q))

pub move_row : (x : Slots) (t : ℕ) (c : Choice) → IsAtRow x t → (r : Row) → StandsAs r (x.machine.threads t).stage → IsAboutIt x.machine.layout r (x.machine.threads t).stage → IsMoving r → AreEvents x t c r (made x t c r)
move_row x t c at (Row.AllMoves m k n) (seen, same, (p, is, phase)) about moving =
    subst (λ (y : ℕ × ℕ). AreEvents x t c (Row.AllMoves m k n) (makes (Access.CmpRequeue (counter_in x.machine.layout t k) y.0 0 (cell_in x.machine.layout t y.1) most_threads) (Step t ∷ []) (Row.Unsets m k n))) (λ i. (sym same i, subst (IsAbout x.machine.layout m) is about i))
    (move_so x t c at k seen (is_at_word x.machine t (cond_call.Broadcast k) p (CondPhase.AtWords (cond_row.Broadcast (broadcast.Move seen))) (reached_kept x.machine at.reached) at.first at.last is phase) (Row.AllMoves m k n) (Row.Unsets m k n) (record { awake = λ a. refl; slept = λ a. refl; turns = λ d a. refl }))
move_row x t c at r there about moving = absurd moving

pub moves_are : MovesAreEvents
moves_are x t c at moving = let both = move_row x t c at (x.rows t) at.there at.about moving in record { words = both.0; queues = both.1 }

-- ---- events that change a thread alone

abbrev pub IsThreadAlone : State → ℕ → After → Type 0
IsThreadAlone s t a = (ti : Thread) × (a.state ≡ now s t s.words s.queues ti)

nobody : (s : State) (t : ℕ) → IsThreadAlone s t (nothing s)
nobody s t = (s.threads t, λ i. record { layout = s.layout; words = s.words; queues = s.queues; threads = sym (put_back s.threads t) i })

spare_alone : (s : State) (t : ℕ) (by : LeftTo) (held : ℕ) (g : Stage) → IsThreadAlone s t (sparing s t by held g)
spare_alone s t by held (Calling o p) = by_test (IsThreadAlone s t) (wakes_one p.phase && is_left_to s t (mutex_of s.layout o) by) (spared s t held (mutex_of s.layout o) (led o p (whole_led p (Count 1)))) (nothing s) (λ e. (_, refl)) (λ e. nobody s t)
spare_alone s t by held (AtCondition o p) = by_test (IsThreadAlone s t) (wakes_next p.phase && is_left_to s t (mutex_of s.layout (OnCondition o)) by) (spared s t held (mutex_of s.layout (OnCondition o)) (led_at o p (cond_led p (Count 1)))) (nothing s) (λ e. (_, refl)) (λ e. nobody s t)
spare_alone s t by held g = nobody s t

decline_alone : (s : State) (t held : ℕ) (g : Stage) → IsThreadAlone s t (declined s t held g)
decline_alone s t held (Calling o p) = by_test (IsThreadAlone s t) (is_trim (whole_access p) && not (sleeps s t (Calling o p))) (spared s t held (mutex_of s.layout o) (led o p (whole_led p (Trimmed false)))) (nothing s) (λ e. (_, refl)) (λ e. nobody s t)
decline_alone s t held g = nobody s t

pub spare_comes : (s : State) (t : ℕ) (by : LeftTo) → Kept s → Comes s t (Spare t by ∷ []) s.words s.queues
spare_comes s t by inv = (alone.0, first_more s t s.words s.queues alone.0 (Spare t by) inv alone.1 (all_still s s.words))
  where
    alone : IsThreadAlone s t (happens s (Spare t by))
    alone = by_test (IsThreadAlone s t) (has_thread s t) (sparing s t by (s.threads t).held (s.threads t).stage) (nothing s) (λ e. spare_alone s t by (s.threads t).held (s.threads t).stage) (λ e. nobody s t)

pub decline_comes : (s : State) (t : ℕ) → Kept s → Comes s t (Decline t ∷ []) s.words s.queues
decline_comes s t inv = (alone.0, first_more s t s.words s.queues alone.0 (Decline t) inv alone.1 (all_still s s.words))
  where
    alone : IsThreadAlone s t (happens s (Decline t))
    alone = by_test (IsThreadAlone s t) (has_thread s t) (declined s t (s.threads t).held (s.threads t).stage) (nothing s) (λ e. decline_alone s t (s.threads t).held (s.threads t).stage) (λ e. nobody s t)

module _ (x : Slots) (t : ℕ) (c : Choice) (at : IsAtRow x t) where
  abbrev here : State
  here = x.machine

  kept : Kept here
  kept = reached_kept here at.reached

  -- a load, after which the wake is spared, or nothing happens
  spares_by : (r : Row) (p : ℕ) (to : Row) (by : LeftTo) → IsQuiet r → AreEvents x t c r (makes (Access.Load p) (Spare t by ∷ []) to)
  spares_by r p to by quiet = let l = spare_comes here t by kept in nothing_events x t c r to (Spare t by ∷ []) here.words here.queues l.0 quiet l.1 (Access.Load p) (load_idles x t p) (λ q. refl) (λ q. refl)

  passes_by : (r : Row) (p : ℕ) (to : Row) → IsQuiet r → AreEvents x t c r (makes (Access.Load p) [] to)
  passes_by r p to quiet = nothing_events x t c r to [] here.words here.queues _ quiet (stays here t (here.threads t).stage kept refl) (Access.Load p) (load_idles x t p) (λ q. refl) (λ q. refl)

  pub hand_row : (r : Row) → IsHanding r → AreEvents x t c r (made x t c r)
  hand_row (Row.HandsOn m g is) handing =
      by_test (AreEvents x t c (Row.HandsOn m g is)) (shows_heir (shown x (cell_place here.layout (slot_of m))) && c.yes)
      (makes (Access.Load look) (Spare t (heir_of here t (cell_of m)) ∷ []) (given_row x t c m g)) (makes (Access.Load look) [] (Row.LooksBack m g is))
      (λ e. spares_by (Row.HandsOn m g is) look (given_row x t c m g) (heir_of here t (cell_of m)) quiet)
      (λ e. passes_by (Row.HandsOn m g is) look (Row.LooksBack m g is) quiet)
    where
      look : ℕ
      look = cell_in here.layout t (slot_of m)

      quiet : IsQuiet (Row.HandsOn m g is)
      quiet = record { awake = λ a. refl; slept = λ a. refl; turns = λ d a. refl }
  hand_row (Row.LooksBack m g is) handing =
      by_test (AreEvents x t c (Row.LooksBack m g is)) ((fields_of (shown x (cell_place here.layout (cell_of m)))).owner == 0)
      (makes (Access.Load look) [] (Row.WakesOne m g is)) (makes (Access.Load look) (Spare t left_to.Owner ∷ []) (given_row x t c m g))
      (λ e. passes_by (Row.LooksBack m g is) look (Row.WakesOne m g is) quiet)
      (λ e. spares_by (Row.LooksBack m g is) look (given_row x t c m g) left_to.Owner quiet)
    where
      look : ℕ
      look = cell_in here.layout t (cell_of m)

      quiet : IsQuiet (Row.LooksBack m g is)
      quiet = record { awake = λ a. refl; slept = λ a. refl; turns = λ d a. refl }
  hand_row r handing = absurd handing

pub spares_are : SparesAreEvents
spares_are x t c at handing = let both = hand_row x t c at (x.rows t) handing in record { words = both.0; queues = both.1 }
