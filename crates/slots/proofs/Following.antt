-- What a run keeps, and what of the premises of its accesses follows from that.
use Rattle.std.proofs.Common.{◌≡◌, ◌≢◌, ◌<◌, ℕ, ◌≤◌, ◌==◌, Bool, true, false, List, [], ◌∷◌, length, refl, sym, ap, ◌∙◌, subst, arith, eqb-true, eq-eqb}
use Rattle.std.specs.Prelude.{not, ◌&&◌, slice_index}
use Rattle.lockword.specs.Cells.{fields_of}
use Rattle.memorymap.specs.Layouts.{IsLayout, Layout', counter_place}
use Rattle.protocol.specs.declared.event.Event.{Event}
use Rattle.protocol.specs.declared.event.Event.TheVariants.{Step, Kill, Leave, Renew}
use Rattle.protocol.specs.declared.thread.Thread.{Thread}
use Rattle.protocol.specs.declared.thread.Stage.{Stage}
use Rattle.protocol.specs.Machine.{State, has_thread, is_alive, is_asleep, is_dying, put, After, departed, is_exiting, is_gone, nothing, renewed, run}
use Rattle.protocol.proofs.Puts.{put-same}
use Rattle.protocol.proofs.Queued.{in_none}
use Rattle.protocol.proofs.Counters.{Counted, run_counted, start_counted}
use Rattle.protocol.proofs.Renewals.{renewed_counter}
use Rattle.protocol.specs.declared.thread.Stage.TheVariants.{Dying}
use Rattle.slots.specs.Premises.{SeesCount, RunsKeepCounts, RunsKeepSlept, KnowsItsTurn, HeirsTakeOver, RunsKeepHeirs, RunsKeepRoom, RunsKeepTurns, AllHold, RunsKeepOwners, SlotsStayQuiet, AllTrusted, Owning, PremisesFollow, Trusts, TrustsIn}
use Rattle.slots.specs.Places.{cell_of, slot_of}
use Rattle.slots.specs.Fits.{AreOfUs, IsOurs, Fits}
use Rattle.slots.specs.Rows.{Choice, Row}
use Rattle.slots.specs.Rows.Giving.{OfUnlock, OfWait}
use Rattle.slots.specs.Shown.{Slots, after, begin}
use Rattle.slots.specs.Table.{made}
use Rattle.slots.specs.Heirs.{AreOf}
use Rattle.slots.specs.Runs.{Happening, at_row, events_of, is_resting, lapse_events, lapse_row, made_by, may_call, next, reached, reached_from, awake_after, slept_after, turns_after}
use Rattle.slots.specs.Runs.Happening.{Calls, Goes, Interrupts, Lapses, Dies, Walks, Lives}
use Rattle.slots.specs.Laws.{IsReached}
use Rattle.slots.specs.Stands.{StandsAs}
use Rattle.slots.specs.Invariant.{fields_at}
use Rattle.slots.specs.Accesses.{IsAtRow}
use Rattle.slots.specs.Goes.{AllGranted, Grants, IsAtItsRow, StandsStill, who}
use Rattle.slots.proofs.Each.{each_access}
use Rattle.slots.proofs.CountRows.{count_row}
use Rattle.slots.proofs.CountersKept.{count_at, counter_stays, needs_row, sees_like}
use Rattle.slots.proofs.SleptNext.{empty_all, later_all, slept_all, slept_but}
use Rattle.slots.proofs.OthersKeep.{owned_seen, LeavesIt, owning_kept, run_leaves}
use Rattle.slots.proofs.Owned.{our_cell, our_slot}
use Rattle.slots.proofs.Free.{reached_queued, reached_kept}
use Rattle.slots.proofs.Keeping.{all_four}
use Rattle.slots.proofs.AllRows.{layout_run, one_more, reached_run, runs_are_events}
use Rattle.slots.proofs.Allowed.{sleeps_later}
use Rattle.slots.proofs.HeldRows.{RoomAt}
use Rattle.slots.proofs.Leading.{by_test}
use Rattle.slots.proofs.MachineRuns.{next_is}
use Rattle.slots.proofs.TurnRows.{Needs, turn_row}
use Rattle.slots.proofs.TurnsKept.{gives_tell, next_turns, turn_after, turn_like, wake_tells}
use Rattle.slots.proofs.PlainSlots.{IsPlain, plain_quiet}
use Rattle.slots.proofs.Watched.{OwnWatched, heirs_of_all, others_watched}
use Rattle.slots.proofs.Watching.{awake_else}
use Rattle.slots.proofs.Steady.{Steady, calls, dies, goes, granted, heir_over, interrupts, lapses, lives, may_go, more, silent, small, walks}
use Rattle.slots.proofs.Deciding.{decides_once}
use Rattle.slots.specs.Replies.{CallsDecideOnce}
use Rattle.slots.proofs.Rooms.{first_cell}
use Rattle.slots.proofs.Others.{events_are_of, others_still}

-- ---- what a thread knows of the turn

module _ (x : Slots) (t : ℕ) (pos : 1 ≤ t) (known : t ≤ x.machine.layout.threads) (s : Steady x) where
  abbrev z : State
  z = x.machine

  abbrev g : Stage
  g = (z.threads t).stage

  fit : Fits z.layout t (x.rows t) g
  fit = s.fits t pos known

  here : IsAtItsRow x t
  here = s.there t pos known

  own : Owning z t (x.rows t)
  own = s.owning t pos known

  knows : KnowsItsTurn x (x.rows t)
  knows = s.turns t pos known

  first_turn : (y : Slots) (held : ℕ) (r : Row) → may_call z.layout held r ≡ true → KnowsItsTurn y r
  first_turn y held (Row.Looks k) e = tt
  first_turn y held (Row.TryLooks m) e = tt
  first_turn y held (Row.GiveLooks m) e = tt
  first_turn y held (Row.MendLooks m) e = tt
  first_turn y held (Row.AnewLooks m) e = tt
  first_turn y held (Row.WaitLooks m k timed) e = tt
  first_turn y held (Row.CountLooks m k all) e = tt
  first_turn y held r e = absurd cc

  abbrev Turns : Slots → Type 0
  Turns y = KnowsItsTurn y (y.rows t)

  turns_then : (es : List Event) → KnowsItsTurn (after x es) (x.rows t)
  turns_then es = turn_after x es t (x.rows t) g s.reached fit knows

  call_turns : (r : Row) → Turns (next x (Calls t r))
  call_turns r = by_test Turns (has_thread z t && is_alive g && is_resting (x.rows t) && may_call z.layout (z.threads t).held r) (at_row x t r) x
      (λ e. let four = all_four (has_thread z t) (is_alive g) (is_resting (x.rows t)) (may_call z.layout (z.threads t).held r) e in
      subst (KnowsItsTurn (at_row x t r)) (sym (put-same x.rows t r)) (first_turn (at_row x t r) (z.threads t).held r four.fourth))
      (λ e. knows)

  go_turns : (c : Choice) → Trusts x t (x.rows t) → Turns (next x (Goes t c))
  go_turns c w = by_test Turns (has_thread z t && is_alive g && not (is_asleep z t)) (made_by x t c (made x t c (x.rows t))) x
      (λ e. let may = may_go (has_thread z t) (is_alive g) (is_asleep z t) e in
      subst (KnowsItsTurn (made_by x t c (made x t c (x.rows t)))) (sym (put-same x.rows t (made x t c (x.rows t)).next)) (on_row (at_it may.0 may.1) (x.rows t) fit own knows (here may.0)))
      (λ e. knows)
    where
      at_it : is_alive g ≡ true → is_asleep z t ≡ false → IsAtRow x t
      at_it lives awake = record { reached = s.reached; first = pos; last = known; there = here lives; about = (granted x t pos known s c w).0; out = in_none z t (reached_queued z s.reached) awake }

      then_at : Row → Slots
      then_at r = record (after x (made x t c r).events) { turns = turns_after r c (after x (made x t c r).events).turns; awake = awake_after r x.awake; slept = slept_after r x.slept; rows = put x.rows t (made x t c r).next }

      needs : IsAtRow x t → (r : Row) → Fits z.layout t r g → Owning z t r → KnowsItsTurn x r → StandsAs r g → Needs x (then_at r) t c r
      needs at (Row.Gives m d) o owns tells there = gives_tell x t c at (then_at (Row.Gives m d)) m d o there owns refl (λ j. refl)
      needs at (Row.WakesOne m d n) o owns tells there = wake_tells x t c at (then_at (Row.WakesOne m d n)) m d n o tells refl (λ j. refl)
      needs at (Row.HandsOn m (OfUnlock d) n) o owns tells there = turn_like (after x (made x t c (Row.HandsOn m (OfUnlock d) n)).events) (then_at (Row.HandsOn m (OfUnlock d) n)) refl (λ j. refl) (Row.LooksBack m (OfUnlock d) n) (turn_after x (made x t c (Row.HandsOn m (OfUnlock d) n)).events t (Row.HandsOn m (OfUnlock d) n) g s.reached o tells)
      needs at (Row.HandsOn m (OfWait k i slept timed) n) o owns tells there = tt
      needs at (Row.LooksBack m (OfUnlock d) n) o owns tells there = turn_like (after x (made x t c (Row.LooksBack m (OfUnlock d) n)).events) (then_at (Row.LooksBack m (OfUnlock d) n)) refl (λ j. refl) (Row.WakesOne m (OfUnlock d) n) (turn_after x (made x t c (Row.LooksBack m (OfUnlock d) n)).events t (Row.LooksBack m (OfUnlock d) n) g s.reached o tells)
      needs at (Row.LooksBack m (OfWait k i slept timed) n) o owns tells there = tt
      needs at r o owns tells there = tt

      on_row : IsAtRow x t → (r : Row) → Fits z.layout t r g → Owning z t r → KnowsItsTurn x r → StandsAs r g → KnowsItsTurn (then_at r) (made x t c r).next
      on_row at r o owns tells there = turn_row x (then_at r) t c r (needs at r o owns tells there)

  lapse_turns : Turns (next x (Lapses t))
  lapse_turns = by_test Turns (is_asleep z t) (at_row (after x (lapse_events x t (x.rows t))) t (lapse_row (x.rows t))) x
      (λ e. subst (KnowsItsTurn (at_row (after x (lapse_events x t (x.rows t))) t (lapse_row (x.rows t)))) (sym (put-same x.rows t (lapse_row (x.rows t)))) (of_row (x.rows t) fit knows)) (λ e. knows)
    where
      of_row : (r : Row) → Fits z.layout t r g → KnowsItsTurn x r → KnowsItsTurn (at_row (after x (lapse_events x t r)) t (lapse_row r)) (lapse_row r)
      of_row (Row.Asleep k) o h = by_test (KnowsItsTurn (at_row (after x (lapse_events x t (Row.Asleep k))) t (lapse_row (Row.Asleep k)))) k.timed (Row.Late k) (Row.Asleep k) (λ e. tt) (λ e. tt)
      of_row (Row.WaitAsleep m k n true) o h = tt
      of_row (Row.WaitAsleep m k n false) o h = tt
      of_row r o h = turn_like (after x []) (at_row (after x []) t r) refl (λ m. refl) r (turn_after x [] t r g s.reached o h)

  die_turns : Turns (next x (Dies t))
  die_turns = by_test Turns (has_thread z t && is_alive g) (at_row (after x (Kill t ∷ [])) t Row.Rests) x
      (λ e. subst (KnowsItsTurn (at_row (after x (Kill t ∷ [])) t Row.Rests)) (sym (put-same x.rows t Row.Rests)) tt) (λ e. knows)

  walk_turns : Turns (next x (Walks t))
  walk_turns = by_test Turns (is_dying z t) (after x (Step t ∷ [])) x (λ e. turns_then (Step t ∷ [])) (λ e. knows)

-- ---- what a thread has seen of its counter

module _ (x : Slots) (t : ℕ) (pos : 1 ≤ t) (known : t ≤ x.machine.layout.threads) (s : Steady x) where
  abbrev at_machine : State
  at_machine = x.machine

  abbrev at_stage : Stage
  at_stage = (x.machine.threads t).stage

  abbrev Sees : Slots → Type 0
  Sees y = SeesCount y (y.rows t)

  sees_now : SeesCount x (x.rows t)
  sees_now = s.sees t pos known

  -- in a state with the same counters
  still_sees : (y : Slots) → y.machine.layout ≡ x.machine.layout → ((k : ℕ) → count_at y k ≡ count_at x k) → ((k : ℕ) → y.slept k ≡ x.slept k) → SeesCount y (x.rows t)
  still_sees y layout words slept = sees_like x y t (x.rows t) at_stage layout (s.fits t pos known) (λ m k o own e. (words k, slept k)) (s.owning t pos known) sees_now

  first_sees : (y : Slots) (held : ℕ) (r : Row) → may_call at_machine.layout held r ≡ true → SeesCount y r
  first_sees y held (Row.Looks k) e = tt
  first_sees y held (Row.TryLooks m) e = tt
  first_sees y held (Row.GiveLooks m) e = tt
  first_sees y held (Row.MendLooks m) e = tt
  first_sees y held (Row.AnewLooks m) e = tt
  first_sees y held (Row.WaitLooks m k timed) e = tt
  first_sees y held (Row.CountLooks m k all) e = tt
  first_sees y held r e = absurd cc

  call_sees : (r : Row) → Sees (next x (Calls t r))
  call_sees r = by_test Sees (has_thread at_machine t && is_alive at_stage && is_resting (x.rows t) && may_call at_machine.layout (at_machine.threads t).held r) (at_row x t r) x
      (λ e. let four = all_four (has_thread at_machine t) (is_alive at_stage) (is_resting (x.rows t)) (may_call at_machine.layout (at_machine.threads t).held r) e in
      subst (SeesCount (at_row x t r)) (sym (put-same x.rows t r)) (first_sees (at_row x t r) (at_machine.threads t).held r four.fourth))
      (λ e. sees_now)

  go_sees : (c : Choice) → Trusts x t (x.rows t) → Sees (next x (Goes t c))
  go_sees c w = by_test Sees (has_thread at_machine t && is_alive at_stage && not (is_asleep at_machine t)) (made_by x t c (made x t c (x.rows t))) x
      (λ e. let may = may_go (has_thread at_machine t) (is_alive at_stage) (is_asleep at_machine t) e in
      subst (SeesCount y) (sym (put-same x.rows t (made x t c (x.rows t)).next)) (on_row may.0 may.1))
      (λ e. sees_now)
    where
      y : Slots
      y = made_by x t c (made x t c (x.rows t))

      on_row : is_alive at_stage ≡ true → is_asleep at_machine t ≡ false → SeesCount (made_by x t c (made x t c (x.rows t))) (made x t c (x.rows t)).next
      on_row lives awake = count_row x y t c (x.rows t)
          (needs_row x y t c (reached_kept at_machine s.reached) pos known (layout_run at_machine (made x t c (x.rows t)).events (reached_kept at_machine s.reached)) s.counts
          (run_counted at_machine (made x t c (x.rows t)).events (reached_kept at_machine s.reached) s.counts) (x.rows t) at_stage (s.fits t pos known) (s.there t pos known lives) sees_now (λ k. refl)
          (each_access x t c at grant.1).words (λ none. ap (λ (es : List Event). run at_machine es) none))
        where
          grant : Grants x (Goes t c)
          grant = granted x t pos known s c w

          at : IsAtRow x t
          at = record { reached = s.reached; first = pos; last = known; there = s.there t pos known lives; about = grant.0; out = in_none at_machine t (reached_queued at_machine s.reached) awake }

  leave_sees : Sees (next x (Interrupts t))
  leave_sees = still_sees (after x (Leave t ∷ [])) (layout_run at_machine (Leave t ∷ []) (reached_kept at_machine s.reached))
      (λ k. by_test (λ (a : After). a.state.words (counter_place a.state.layout k) ≡ at_machine.words (counter_place at_machine.layout k)) (has_thread at_machine t && is_asleep at_machine t) (departed at_machine t) (nothing at_machine) (λ e. refl) (λ e. refl)) (λ k. refl)

  lapse_sees : Sees (next x (Lapses t))
  lapse_sees = by_test Sees (is_asleep at_machine t) (at_row (after x (lapse_events x t (x.rows t))) t (lapse_row (x.rows t))) x
      (λ e. subst (SeesCount (at_row (after x (lapse_events x t (x.rows t))) t (lapse_row (x.rows t)))) (sym (put-same x.rows t (lapse_row (x.rows t)))) (of_row (x.rows t) sees_now)) (λ e. sees_now)
    where
      of_row : (r : Row) → SeesCount x r → SeesCount (at_row (after x (lapse_events x t r)) t (lapse_row r)) (lapse_row r)
      of_row (Row.Asleep k) h = by_test (SeesCount (at_row (after x (lapse_events x t (Row.Asleep k))) t (lapse_row (Row.Asleep k)))) k.timed (Row.Late k) (Row.Asleep k) (λ e. tt) (λ e. tt)
      of_row (Row.WaitAsleep m k n true) h = tt
      of_row (Row.WaitAsleep m k n false) h = tt
      of_row r h = h

  die_sees : Sees (next x (Dies t))
  die_sees = by_test Sees (has_thread at_machine t && is_alive at_stage) (at_row (after x (Kill t ∷ [])) t Row.Rests) x
      (λ e. subst (SeesCount (at_row (after x (Kill t ∷ [])) t Row.Rests)) (sym (put-same x.rows t Row.Rests)) tt) (λ e. sees_now)

  walk_sees : Sees (next x (Walks t))
  walk_sees = by_test Sees (is_dying at_machine t) (after x (Step t ∷ [])) x
      (λ e. subst (SeesCount (after x (Step t ∷ []))) (sym (s.rests t pos known (exiting_dead at_stage (second_of (has_thread at_machine t) (is_exiting at_stage) e)))) tt) (λ e. sees_now)
    where
      exiting_dead : (f : Stage) → is_exiting f ≡ true → is_alive f ≡ false
      exiting_dead (Dying w) e = refl
      exiting_dead f e = absurd cc

      second_of : (a b : Bool) → (a && b) ≡ true → b ≡ true
      second_of true b e = e
      second_of false b e = absurd cc

  live_sees : Sees (next x (Lives t))
  live_sees = still_sees (after x (Renew t ∷ [])) (layout_run at_machine (Renew t ∷ []) (reached_kept at_machine s.reached))
      (λ k. by_test (λ (a : After). a.state.words (counter_place a.state.layout k) ≡ at_machine.words (counter_place at_machine.layout k)) (has_thread at_machine t && is_gone at_stage) (renewed at_machine t) (nothing at_machine) (λ e. renewed_counter at_machine t pos known k) (λ e. refl)) (λ k. refl)

own_sees : (x : Slots) (h : Happening) → Steady x → 1 ≤ who h → who h ≤ x.machine.layout.threads → TrustsIn x h → SeesCount (next x h) ((next x h).rows (who h))
own_sees x (Calls t r) s pos known w = call_sees x t pos known s r
own_sees x (Goes t c) s pos known w = go_sees x t pos known s c w
own_sees x (Interrupts t) s pos known w = leave_sees x t pos known s
own_sees x (Lapses t) s pos known w = lapse_sees x t pos known s
own_sees x (Dies t) s pos known w = die_sees x t pos known s
own_sees x (Walks t) s pos known w = walk_sees x t pos known s
own_sees x (Lives t) s pos known w = live_sees x t pos known s

-- whatever happens to it
abbrev OwnThen : Slots → ℕ → Slots → Type 0
OwnThen x t y = Fits x.machine.layout t (y.rows t) (y.machine.threads t).stage × (is_alive (y.machine.threads t).stage ≡ false → y.rows t ≡ Row.Rests) × Owning y.machine t (y.rows t)

abbrev AllThen : Slots → ℕ → Slots → Type 0
AllThen x t y = Fits x.machine.layout t (y.rows t) (y.machine.threads t).stage × (is_alive (y.machine.threads t).stage ≡ false → y.rows t ≡ Row.Rests) × Owning y.machine t (y.rows t) × ((m : ℕ) → IsOurs x.machine.layout m → IsPlain y.machine m) × RoomAt (y.machine.threads t).held (y.rows t) × OwnWatched y.machine y.awake t (y.rows t)

own_then : (x : Slots) (h : Happening) → Steady x → 1 ≤ who h → who h ≤ x.machine.layout.threads → TrustsIn x h → AllThen x (who h) (next x h)
own_then x (Calls t r) s pos known w = calls x t pos known s r
own_then x (Goes t c) s pos known w = goes x t pos known s c w
own_then x (Interrupts t) s pos known w = interrupts x t pos known s
own_then x (Lapses t) s pos known w = lapses x t pos known s
own_then x (Dies t) s pos known w = dies x t pos known s
own_then x (Walks t) s pos known w = walks x t pos known s
own_then x (Lives t) s pos known w = lives x t pos known s

own_turns : (x : Slots) (h : Happening) → Steady x → 1 ≤ who h → who h ≤ x.machine.layout.threads → TrustsIn x h → KnowsItsTurn (next x h) ((next x h).rows (who h))
own_turns x (Calls t r) s pos known w = call_turns x t pos known s r
own_turns x (Goes t c) s pos known w = go_turns x t pos known s c w
own_turns x (Interrupts t) s pos known w = turns_then x t pos known s (Leave t ∷ [])
own_turns x (Lapses t) s pos known w = lapse_turns x t pos known s
own_turns x (Dies t) s pos known w = die_turns x t pos known s
own_turns x (Walks t) s pos known w = walk_turns x t pos known s
own_turns x (Lives t) s pos known w = turns_then x t pos known s (Renew t ∷ [])

grants_then : (x : Slots) (h : Happening) → Steady x → 1 ≤ who h → who h ≤ x.machine.layout.threads → TrustsIn x h → Grants x h
grants_then x (Calls t r) s pos known w = tt
grants_then x (Goes t c) s pos known w = granted x t pos known s c w
grants_then x (Interrupts t) s pos known w = tt
grants_then x (Lapses t) s pos known w = sleeps_later x.machine.layout t (x.rows t) (x.machine.threads t).stage (s.fits t pos known)
grants_then x (Dies t) s pos known w = tt
grants_then x (Walks t) s pos known w = tt
grants_then x (Lives t) s pos known w = s.rests t pos known

-- whatever happens to another
lapse_are_of : (x : Slots) (t : ℕ) (r : Row) → AreOf t (lapse_events x t r)
lapse_are_of x t r = grind (arith)

pub events_of_it : (x : Slots) (h : Happening) → AreOf (who h) (events_of x h)
events_of_it x (Calls t r) = tt
events_of_it x (Goes t c) = by_test (AreOf t) (has_thread x.machine t && is_alive (x.machine.threads t).stage && not (is_asleep x.machine t)) (made x t c (x.rows t)).events [] (λ e. events_are_of x t c (x.rows t)) (λ e. tt)
events_of_it x (Interrupts t) = (refl, tt)
events_of_it x (Lapses t) = by_test (AreOf t) (is_asleep x.machine t) (lapse_events x t (x.rows t)) [] (λ e. lapse_are_of x t (x.rows t)) (λ e. tt)
events_of_it x (Dies t) = by_test (AreOf t) (has_thread x.machine t && is_alive (x.machine.threads t).stage) (Kill t ∷ []) [] (λ e. (refl, tt)) (λ e. tt)
events_of_it x (Walks t) = by_test (AreOf t) (is_dying x.machine t) (Step t ∷ []) [] (λ e. (refl, tt)) (λ e. tt)
events_of_it x (Lives t) = (refl, tt)

still_then : (x y : Slots) (u : ℕ) → 1 ≤ u → y.machine.layout ≡ x.machine.layout → LeavesIt x.machine y.machine u → StandsStill x y u → OwnThen x u x → OwnThen x u y
still_then x y u first layout leaves still here = (
  subst (λ (r : Row). Fits x.machine.layout u r (y.machine.threads u).stage) (sym still.row) (subst (λ (v : Thread). Fits x.machine.layout u (x.rows u) v.stage) (sym still.thread) here.0),
  λ dead. still.row ∙ here.1 (sym (ap (λ (v : Thread). is_alive v.stage) still.thread) ∙ dead),
  subst (Owning y.machine u) (sym still.row) (owning_kept x y u first layout leaves (x.rows u) (x.machine.threads u).stage here.0 here.2),
)

-- AWAKE of a slot that it doesn't own stays
awake_but : (x : Slots) (h : Happening) → Steady x → 1 ≤ who h → who h ≤ x.machine.layout.threads → (m : ℕ) → (fields_at x.machine (slot_of m)).owner ≢ who h → (next x h).awake m ≡ x.awake m
awake_but x (Calls t r) s pos known m apart = by_test (λ (y : Slots). y.awake m ≡ x.awake m) (has_thread x.machine t && is_alive (x.machine.threads t).stage && is_resting (x.rows t) && may_call x.machine.layout (x.machine.threads t).held r) (at_row x t r) x (λ e. refl) (λ e. refl)
awake_but x (Goes t c) s pos known m apart = by_test (λ (y : Slots). y.awake m ≡ x.awake m) (has_thread x.machine t && is_alive (x.machine.threads t).stage && not (is_asleep x.machine t)) (made_by x t c (made x t c (x.rows t))) x (λ e. awake_else x x t c (reached_kept x.machine s.reached) pos known (small x.machine t (reached_kept x.machine s.reached) known) refl (x.rows t) m (s.owning t pos known) apart) (λ e. refl)
awake_but x (Interrupts t) s pos known m apart = refl
awake_but x (Lapses t) s pos known m apart = by_test (λ (y : Slots). y.awake m ≡ x.awake m) (is_asleep x.machine t) (at_row (after x (lapse_events x t (x.rows t))) t (lapse_row (x.rows t))) x (λ e. refl) (λ e. refl)
awake_but x (Dies t) s pos known m apart = by_test (λ (y : Slots). y.awake m ≡ x.awake m) (has_thread x.machine t && is_alive (x.machine.threads t).stage) (at_row (after x (Kill t ∷ [])) t Row.Rests) x (λ e. refl) (λ e. refl)
awake_but x (Walks t) s pos known m apart = by_test (λ (y : Slots). y.awake m ≡ x.awake m) (is_dying x.machine t) (after x (Step t ∷ [])) x (λ e. refl) (λ e. refl)
awake_but x (Lives t) s pos known m apart = refl

-- what another thread has seen
others_see : (x : Slots) (h : Happening) (u : ℕ) → Steady x → 1 ≤ who h → who h ≤ x.machine.layout.threads → 1 ≤ u → u ≤ x.machine.layout.threads → who h ≢ u → (next x h).machine.layout ≡ x.machine.layout → SeesCount (next x h) (x.rows u)
others_see x h u s pos known first last apart layout = sees_like x (next x h) u (x.rows u) (x.machine.threads u).stage layout (s.fits u first last) (λ m k o own e. (same m k o e, slept_but x h s pos known k (λ is. apart (sym is ∙ its m k o e)))) (s.owning u first last) (s.sees u first last)
  where
    its : (m k : ℕ) → AreOfUs x.machine.layout m k → (fields_at x.machine (cell_of m)).owner ≡ u → (fields_at x.machine (slice_index x.machine.layout.conditions k)).owner ≡ u
    its m k o e = ap (λ (i : ℕ). (fields_at x.machine i).owner) o.cell.cell ∙ e

    same : (m k : ℕ) → AreOfUs x.machine.layout m k → (fields_at x.machine (cell_of m)).owner ≡ u → count_at (next x h) k ≡ count_at x k
    same m k o e =
        let inside : slice_index x.machine.layout.conditions k < x.machine.layout.mutexes = subst (λ (i : ℕ). i < x.machine.layout.mutexes) (sym o.cell.cell) (our_cell x.machine.layout m o.ours) in
        ap (λ (z : State). z.words (counter_place z.layout k)) (next_is x h)
        ∙ counter_stays x.machine (events_of x h) (who h) u k s.reached s.counts (events_of_it x h) apart first inside (owned_seen x.machine (slice_index x.machine.layout.conditions k) u inside first (its m k o e))

pub steady_next : (x : Slots) (h : Happening) → Steady x → 1 ≤ who h → who h ≤ x.machine.layout.threads → TrustsIn x h → Steady (next x h)
steady_next x h s pos known w = record {
  reached = subst IsReached (sym (next_is x h)) (reached_run x.machine (events_of x h) s.reached);
  fits = λ u first last. subst (λ (l : Layout'). Fits l u ((next x h).rows u) ((next x h).machine.threads u).stage) (sym layout) (each u first (before u last)).0;
  there = λ u first last. one_more x h u s.reached pos known (grants_then x h s pos known w) s.there first (before u last);
  rests = λ u first last. (each u first (before u last)).1;
  owning = λ u first last. (each u first (before u last)).2;
  plain = λ m ours. own_all.3 m (subst (λ (l : Layout'). IsOurs l m) layout ours);
  turns = λ u first last. each_turn u first (before u last);
  room = λ u first last. each_room u first (before u last);
  sees = λ u first last. each_sees u first (before u last);
  counts = subst Counted (sym (next_is x h)) (run_counted x.machine (events_of x h) (reached_kept x.machine s.reached) s.counts);
  slept = λ u first last. slept_all x h s pos known w u first (before u last);
  empty = λ k inside off. empty_all x h s pos known w k (subst (λ (l : Layout'). k < length l.conditions) layout inside) off;
  later = λ v u k n v_first v_last first last on rel. later_all x h s pos known w v u k n v_first (before v v_last) first (before u last) on rel;
  watched = λ u first last. each_watched u first (before u last);
}
  where
    layout : (next x h).machine.layout ≡ x.machine.layout
    layout = ap (λ (z : State). z.layout) (next_is x h) ∙ layout_run x.machine (events_of x h) (reached_kept x.machine s.reached)

    own_all : AllThen x (who h) (next x h)
    own_all = own_then x h s pos known w

    before : (u : ℕ) → u ≤ (next x h).machine.layout.threads → u ≤ x.machine.layout.threads
    before u last = subst (λ (l : Layout'). u ≤ l.threads) layout last

    each_turn : (u : ℕ) → 1 ≤ u → u ≤ x.machine.layout.threads → KnowsItsTurn (next x h) ((next x h).rows u)
    each_turn u first last = go (who h == u) refl
      where
        go : (b : Bool) → (who h == u) ≡ b → KnowsItsTurn (next x h) ((next x h).rows u)
        go true e = subst (λ (v : ℕ). KnowsItsTurn (next x h) ((next x h).rows v)) (eqb-true (who h) u e) (own_turns x h s pos known w)
        go false e = subst (KnowsItsTurn (next x h)) (sym (others_still x h u s.reached (λ same. cc (sym e ∙ eq-eqb (who h) u same))).row)
            (turn_like (after x (events_of x h)) (next x h) (next_is x h) (next_turns x h) (x.rows u) (turn_after x (events_of x h) u (x.rows u) (x.machine.threads u).stage s.reached (s.fits u first last) (s.turns u first last)))

    each_room : (u : ℕ) → 1 ≤ u → u ≤ x.machine.layout.threads → RoomAt ((next x h).machine.threads u).held ((next x h).rows u)
    each_room u first last = go (who h == u) refl
      where
        go : (b : Bool) → (who h == u) ≡ b → RoomAt ((next x h).machine.threads u).held ((next x h).rows u)
        go true e = subst (λ (v : ℕ). RoomAt ((next x h).machine.threads v).held ((next x h).rows v)) (eqb-true (who h) u e) own_all.4
        go false e = let still = others_still x h u s.reached (λ same. cc (sym e ∙ eq-eqb (who h) u same)) in
            subst (λ (v : Thread). RoomAt v.held ((next x h).rows u)) (sym still.thread) (subst (RoomAt (x.machine.threads u).held) (sym still.row) (s.room u first last))

    each_sees : (u : ℕ) → 1 ≤ u → u ≤ x.machine.layout.threads → SeesCount (next x h) ((next x h).rows u)
    each_sees u first last = go (who h == u) refl
      where
        go : (b : Bool) → (who h == u) ≡ b → SeesCount (next x h) ((next x h).rows u)
        go true e = subst (λ (v : ℕ). SeesCount (next x h) ((next x h).rows v)) (eqb-true (who h) u e) (own_sees x h s pos known w)
        go false e = let apart : who h ≢ u = (λ same. cc (sym e ∙ eq-eqb (who h) u same)) in subst (SeesCount (next x h)) (sym (others_still x h u s.reached apart).row) (others_see x h u s pos known first last apart layout)

    each_watched : (u : ℕ) → 1 ≤ u → u ≤ x.machine.layout.threads → OwnWatched (next x h).machine (next x h).awake u ((next x h).rows u)
    each_watched u first last = go (who h == u) refl
      where
        go : (b : Bool) → (who h == u) ≡ b → OwnWatched (next x h).machine (next x h).awake u ((next x h).rows u)
        go true e = subst (λ (v : ℕ). OwnWatched (next x h).machine (next x h).awake v ((next x h).rows v)) (eqb-true (who h) u e) own_all.5
        go false e = let apart : who h ≢ u = (λ same. cc (sym e ∙ eq-eqb (who h) u same)) in
            others_watched x (next x h) (who h) u s.reached first last layout (subst (λ (z : State). LeavesIt x.machine z u) (sym (next_is x h)) (run_leaves x.machine (events_of x h) (who h) u s.reached (events_of_it x h) apart)) (others_still x h u s.reached apart)
            (awake_but x h s pos known) apart own_all.5.free (events_of x h) (events_of_it x h) (next_is x h) (s.watched u first last)

    each : (u : ℕ) → 1 ≤ u → u ≤ x.machine.layout.threads → OwnThen x u (next x h)
    each u first last = go (who h == u) refl
      where
        go : (b : Bool) → (who h == u) ≡ b → OwnThen x u (next x h)
        go true e = subst (λ (v : ℕ). OwnThen x v (next x h)) (eqb-true (who h) u e) (own_all.0, own_all.1, own_all.2)
        go false e = still_then x (next x h) u first layout (subst (λ (z : State). LeavesIt x.machine z u) (sym (next_is x h)) (run_leaves x.machine (events_of x h) (who h) u s.reached (events_of_it x h) (λ same. cc (sym e ∙ eq-eqb (who h) u same)))) (others_still x h u s.reached (λ same. cc (sym e ∙ eq-eqb (who h) u same))) (s.fits u first last, s.rests u first last, s.owning u first last)

follow : (x : Slots) (hs : List Happening) → Steady x → AllTrusted x hs → AllGranted x hs
follow x [] s trusted = tt
follow x (h ∷ hs) s ((pos, known, w), trusted) = ((pos, known, grants_then x h s pos known w), follow (next x h) hs (steady_next x h s pos known w) trusted)

pub steady_run : (x : Slots) (hs : List Happening) → Steady x → AllTrusted x hs → Steady (reached_from x hs)
steady_run x [] s trusted = s
steady_run x (h ∷ hs) s ((pos, known, w), trusted) = steady_run (next x h) hs (steady_next x h s pos known w) trusted

pub layout_then : (x : Slots) (hs : List Happening) → Steady x → AllTrusted x hs → (reached_from x hs).machine.layout ≡ x.machine.layout
layout_then x [] s trusted = refl
layout_then x (h ∷ hs) s ((pos, known, w), trusted) = layout_then (next x h) hs (steady_next x h s pos known w) trusted ∙ ap (λ (z : State). z.layout) (next_is x h) ∙ layout_run x.machine (events_of x h) (reached_kept x.machine s.reached)

pub begins_steady : (l : Layout') → IsLayout l → Steady (begin l)
begins_steady l is = record {
  reached = record { layout = l; counters = λ c. 0; events = []; is = is; here = refl };
  fits = λ t first last. tt;
  there = λ t first last lives. refl;
  rests = λ t first last dead. refl;
  owning = λ t first last. tt;
  plain = λ m ours. record { waiters = ap (λ (w : ℕ). (fields_of w).waiters) (first_cell l (λ c. 0) (slot_of m) (our_slot l m ours)); usable = ap (λ (w : ℕ). (fields_of w).unusable) (first_cell l (λ c. 0) (slot_of m) (our_slot l m ours)) };
  turns = λ t first last. tt;
  room = λ t first last. tt;
  sees = λ t first last. tt;
  counts = start_counted l (λ c. 0) (λ k. omega arith);
  slept = λ t first last. tt;
  empty = λ k inside off. refl;
  later = λ v u k n v_first v_last first last on rel. absurd on;
  watched = λ t first last. record {
    alone = λ alive m ours mine. absurd (let e : 0 ≡ t = sym (ap (λ (w : ℕ). (fields_of w).owner) (first_cell l (λ c. 0) (slot_of m) (our_slot l m ours))) ∙ mine in omega (arith, e, first));
    calm = λ alive m ours mine on. absurd cc;
    free = λ m ours none whole. refl;
    heirs = λ m ours mine whole on. absurd cc;
  };
}

pub premises_follow : PremisesFollow
premises_follow l hs is trusted = follow (begin l) hs (begins_steady l is) trusted

pub slots_quiet : SlotsStayQuiet
slots_quiet l hs is trusted = let s = steady_run (begin l) hs (begins_steady l is) trusted in plain_quiet (reached l hs).machine s.reached s.plain

pub owners_kept : RunsKeepOwners
owners_kept l hs t is first last trusted = (steady_run (begin l) hs (begins_steady l is) trusted).owning t first (subst (λ (k : Layout'). t ≤ k.threads) (sym (layout_then (begin l) hs (begins_steady l is) trusted)) last)

pub turns_kept : RunsKeepTurns
turns_kept l hs t is first last trusted = (steady_run (begin l) hs (begins_steady l is) trusted).turns t first (subst (λ (k : Layout'). t ≤ k.threads) (sym (layout_then (begin l) hs (begins_steady l is) trusted)) last)

pub room_kept : RunsKeepRoom
room_kept l hs t is first last trusted = more (reached l hs) t first (subst (λ (k : Layout'). t ≤ k.threads) (sym (layout_then (begin l) hs (begins_steady l is) trusted)) last) (steady_run (begin l) hs (begins_steady l is) trusted)

pub counts_kept : RunsKeepCounts
counts_kept l hs t is first last trusted = (steady_run (begin l) hs (begins_steady l is) trusted).sees t first (subst (λ (k : Layout'). t ≤ k.threads) (sym (layout_then (begin l) hs (begins_steady l is) trusted)) last)

pub slept_kept : RunsKeepSlept
slept_kept l hs t is first last trusted = silent (reached l hs) t first (subst (λ (k : Layout'). t ≤ k.threads) (sym (layout_then (begin l) hs (begins_steady l is) trusted)) last) (steady_run (begin l) hs (begins_steady l is) trusted)

pub heirs_kept : RunsKeepHeirs
heirs_kept l hs is trusted = let s = steady_run (begin l) hs (begins_steady l is) trusted in heirs_of_all (reached l hs) (reached_kept (reached l hs).machine s.reached) s.watched

pub heirs_over : HeirsTakeOver
heirs_over l hs t is first last trusted = heir_over (reached l hs) t first (subst (λ (k : Layout'). t ≤ k.threads) (sym (layout_then (begin l) hs (begins_steady l is) trusted)) last) (steady_run (begin l) hs (begins_steady l is) trusted)

pub all_hold : AllHold
all_hold l hs t c is first last trusted w lives awake = runs_are_events l hs t c is first last (premises_follow l hs is trusted)
    (granted (reached l hs) t first (subst (λ (k : Layout'). t ≤ k.threads) (sym (layout_then (begin l) hs (begins_steady l is) trusted)) last) (steady_run (begin l) hs (begins_steady l is) trusted) c w) lives awake

pub decide_once : CallsDecideOnce
decide_once l hs t c is first last trusted = decides_once (reached l hs) t c ((reached l hs).machine.threads t).stage
    ((steady_run (begin l) hs (begins_steady l is) trusted).fits t first (subst (λ (k : Layout'). t ≤ k.threads) (sym (layout_then (begin l) hs (begins_steady l is) trusted)) last))
