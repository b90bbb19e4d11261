-- What happens to one thread leaves all others at their rows.
use Rattle.std.proofs.Common.{◌≡◌, ◌≢◌, ℕ, List, [], ◌∷◌, ◌++◌, ◌==◌, refl, sym, ap, ◌∙◌, arith}
use Rattle.std.specs.Prelude.{not, ◌&&◌}
use Rattle.lockword.specs.Cells.{fields_of}
use Rattle.stepprograms.specs.declared.access.Access.{Access}
use Rattle.mutex.specs.Rows.{acquired}
use Rattle.memorymap.specs.Layouts.{cell_place}
use Rattle.protocol.proofs.Seeing.{cell_in}
use Rattle.protocol.specs.declared.event.Event.{Event}
use Rattle.protocol.specs.declared.event.Event.TheVariants.{Step, Kill, Leave, Renew}
use Rattle.protocol.specs.Machine.{State, happens, put, run, has_thread, is_alive, is_asleep, is_dying}
use Rattle.protocol.proofs.Kept.{Kept}
use Rattle.protocol.proofs.Puts.{put-other}
use Rattle.protocol.proofs.Runs.{sound}
use Rattle.storebuffers.proofs.Dying.{others_stand}
use Rattle.slots.specs.Heirs.{AreOf}
use Rattle.slots.specs.Rows.{Choice, How, Row, Taking}
use Rattle.slots.specs.Rows.How.{Tried, Later, Waited}
use Rattle.slots.specs.Rows.Before.{Linked, Mended, Again}
use Rattle.slots.specs.Rows.Giving.{OfUnlock, OfWait}
use Rattle.slots.specs.Places.{cell_of}
use Rattle.slots.specs.Shown.{Slots, after, shown}
use Rattle.slots.specs.Words.{taken_word, waiting_word}
use Rattle.slots.specs.Seen.{again_events, seen_events, seen_row}
use Rattle.slots.specs.Table.{Made, made, makes, marked_events, marked_row, missed, on_cell}
use Rattle.slots.specs.Runs.{Happening, next, at_row, is_resting, lapse_events, lapse_row, made_by, may_call}
use Rattle.slots.specs.Runs.Happening.{Calls, Goes, Interrupts, Lapses, Dies, Walks, Lives}
use Rattle.slots.specs.Goes.{OthersStandStill, StandsStill, who}
use Rattle.slots.proofs.Free.{reached_kept}
use Rattle.slots.proofs.Leading.{by_test}

-- a lock's look
seen_are_of : (t m : ℕ) (how : How) (w : ℕ) → AreOf t (seen_events t m how w)
seen_are_of t m Tried w = grind (arith)
seen_are_of t m Later w = grind (arith)
seen_are_of t m (Waited z) w = grind (arith)

-- of one list or of the other
of_both : (t : ℕ) (es fs : List Event) → AreOf t es → AreOf t fs → AreOf t (es ++ fs)
of_both t [] fs a b = b
of_both t (e ∷ es) fs a b = (a.0, of_both t es fs a.1 b)

again_are_of : (t m : ℕ) (how : How) (v : ℕ) → AreOf t (again_events t m how v)
again_are_of t m Tried v = grind (arith)
again_are_of t m Later v = grind (arith)
again_are_of t m (Waited z) v = grind (arith)

missed_are_of : (x : Slots) (t : ℕ) (c : Choice) (a : Access) (k : Taking) (how : How) (w : ℕ) → AreOf t (missed x t c a k how w).events
missed_are_of x t c a k Tried w = (refl, (refl, (refl, seen_are_of t k.mutex Later w)))
missed_are_of x t c a k Later w = seen_are_of t k.mutex Later w
missed_are_of x t c a k (Waited z) w = seen_are_of t k.mutex (Waited z) w

marked_are_of : (x : Slots) (t : ℕ) (c : Choice) (k : Taking) (how : How) → AreOf t (marked_events x t c k how)
marked_are_of x t c k Tried = (refl, (refl, (refl, (refl, (refl, (refl, (refl, tt)))))))
marked_are_of x t c k Later = (refl, (refl, (refl, (refl, tt))))
marked_are_of x t c k (Waited z) = (refl, (refl, tt))

sleep_are_of : (x : Slots) (t : ℕ) (c : Choice) (k : Taking) (how : How) (v w : ℕ) → AreOf t (on_cell x t c k how v w).events
sleep_are_of x t c k Tried v w = grind (arith)
sleep_are_of x t c k Later v w = grind (arith)
sleep_are_of x t c k (Waited z) v w = grind (arith)

-- all events of an access are of its thread
pub events_are_of : (x : Slots) (t : ℕ) (c : Choice) (r : Row) → AreOf t (made x t c r).events
events_are_of x t c Row.Rests = tt
events_are_of x t c (Row.Looks k) = grind (arith)
events_are_of x t c (Row.Pends k v) = (refl, (refl, tt))
events_are_of x t c (Row.Sees k) = seen_are_of t k.mutex k.how (shown x (cell_place x.machine.layout (cell_of k.mutex)))
events_are_of x t c (Row.Takes k v) = by_test (λ (g : Made). AreOf t g.events) (shown x (cell_place x.machine.layout (cell_of k.mutex)) == v) (makes (Access.Exchange (cell_in x.machine.layout t (cell_of k.mutex)) v (taken_word v t)) (Step t ∷ Step t ∷ []) (Row.Links k.mutex (acquired (fields_of v)))) (makes (Access.Exchange (cell_in x.machine.layout t (cell_of k.mutex)) v (taken_word v t)) (seen_events t k.mutex k.how (shown x (cell_place x.machine.layout (cell_of k.mutex)))) (seen_row t k (shown x (cell_place x.machine.layout (cell_of k.mutex)))))
    (λ e. (refl, (refl, tt))) (λ e. seen_are_of t k.mutex k.how (shown x (cell_place x.machine.layout (cell_of k.mutex))))
events_are_of x t c (Row.Links m r) = (refl, tt)
events_are_of x t c (Row.Clears m r) = (refl, tt)
events_are_of x t c (Row.Chooses k v) = tt
events_are_of x t c (Row.SeesAgain k v) = of_both t (again_events t k.mutex k.how v) (seen_events t k.mutex k.how (shown x (cell_place x.machine.layout (cell_of k.mutex)))) (again_are_of t k.mutex k.how v) (seen_are_of t k.mutex k.how (shown x (cell_place x.machine.layout (cell_of k.mutex))))
events_are_of x t c (Row.Marks k v n) = by_test (λ (g : Made). AreOf t g.events) (shown x (cell_place x.machine.layout (cell_of k.mutex)) == v) (makes (Access.Exchange (cell_in x.machine.layout t (cell_of k.mutex)) v (waiting_word v)) (marked_events x t c k k.how) (marked_row x t c k k.how v n)) (missed x t c (Access.Exchange (cell_in x.machine.layout t (cell_of k.mutex)) v (waiting_word v)) k k.how (shown x (cell_place x.machine.layout (cell_of k.mutex))))
    (λ e. marked_are_of x t c k k.how) (λ e. missed_are_of x t c (Access.Exchange (cell_in x.machine.layout t (cell_of k.mutex)) v (waiting_word v)) k k.how (shown x (cell_place x.machine.layout (cell_of k.mutex))))
events_are_of x t c (Row.SleepsOn k v) = sleep_are_of x t c k k.how v (shown x (cell_place x.machine.layout (cell_of k.mutex)))
events_are_of x t c (Row.Asleep k) = tt
events_are_of x t c (Row.Late k) = tt
events_are_of x t c (Row.LateSees k) = tt
events_are_of x t c (Row.WakesAll m r) = (refl, tt)
events_are_of x t c (Row.SlotPends k g) = (refl, (refl, (refl, tt)))
events_are_of x t c (Row.SlotTakes k g) = grind (arith)
events_are_of x t c (Row.SlotLeft k) = (refl, (refl, (refl, tt)))
events_are_of x t c (Row.SeesToSleep k) = seen_are_of t k.mutex k.how (shown x (cell_place x.machine.layout (cell_of k.mutex)))
events_are_of x t c (Row.SlotLinks k d) = (refl, tt)
events_are_of x t c (Row.SlotClears k) = (refl, tt)
events_are_of x t c (Row.SlotQuiets k) = tt
events_are_of x t c (Row.SlotMends k) = (refl, (refl, (refl, tt)))
events_are_of x t c (Row.HeirPends k Linked) = (refl, (refl, (refl, tt)))
events_are_of x t c (Row.HeirPends k Mended) = (refl, (refl, tt))
events_are_of x t c (Row.HeirPends k Again) = tt
events_are_of x t c (Row.HeirSets k) = tt
events_are_of x t c (Row.HeirLooks k) = tt
events_are_of x t c (Row.HeirPendsOn k v over) = tt
events_are_of x t c (Row.HeirTakes k v) = grind (arith)
events_are_of x t c (Row.HeirHas k r) = tt
events_are_of x t c (Row.HeirLinks k r) = (refl, tt)
events_are_of x t c (Row.GivesUp k) = tt
events_are_of x t c (Row.LastLooks k) = grind (arith)
events_are_of x t c (Row.LastMarks k v) = grind (arith)
events_are_of x t c (Row.HeirWakes k) = (refl, tt)
events_are_of x t c (Row.Frees k f) = (refl, (refl, (refl, (refl, tt))))
events_are_of x t c (Row.FreeUnlinks k f) = (refl, tt)
events_are_of x t c (Row.FreeGives k f) = (refl, tt)
events_are_of x t c (Row.TryLooks m) = grind (arith)
events_are_of x t c (Row.TryPends m v) = (refl, (refl, tt))
events_are_of x t c (Row.TryTakes m v) = grind (arith)
events_are_of x t c (Row.GiveLooks m) = grind (arith)
events_are_of x t c (Row.GivePends m (OfUnlock d)) = (refl, (refl, (refl, tt)))
events_are_of x t c (Row.GivePends m (OfWait k n slept timed)) = (refl, (refl, (refl, (refl, tt))))
events_are_of x t c (Row.GiveUnlinks m g) = (refl, tt)
events_are_of x t c (Row.GiveFinds m g) = tt
events_are_of x t c (Row.Gives m g) = (refl, tt)
events_are_of x t c (Row.HandsOn m g is) = grind (arith)
events_are_of x t c (Row.LooksBack m g is) = grind (arith)
events_are_of x t c (Row.WakesOne m g is) = (refl, tt)
events_are_of x t c (Row.Trims m is) = grind (arith)
events_are_of x t c (Row.MendLooks m) = grind (arith)
events_are_of x t c (Row.Mends m) = (refl, (refl, (refl, tt)))
events_are_of x t c (Row.AnewLooks m) = tt
events_are_of x t c (Row.Anews m v) = grind (arith)
events_are_of x t c (Row.WaitLooks m k timed) = grind (arith)
events_are_of x t c (Row.WaitCounts m k timed died) = grind (arith)
events_are_of x t c (Row.WaitSets m k n timed) = tt
events_are_of x t c (Row.WaitSleeps m k n timed) = (refl, tt)
events_are_of x t c (Row.WaitAsleep m k n timed) = tt
events_are_of x t c (Row.WaitLate m k n) = tt
events_are_of x t c (Row.CountLooks m k all) = grind (arith)
events_are_of x t c (Row.CountLoads m k all) = tt
events_are_of x t c (Row.Counts m k all n) = grind (arith)
events_are_of x t c (Row.CountWakes m k n) = (refl, tt)
events_are_of x t c (Row.AllMarks m k n) = (refl, tt)
events_are_of x t c (Row.AllMoves m k n) = (refl, tt)
events_are_of x t c (Row.Unsets m k n) = tt

run_stands : (s : State) (es : List Event) (t u : ℕ) → Kept s → AreOf t es → t ≢ u → (run s es).threads u ≡ s.threads u
run_stands s [] t u inv of apart = refl
run_stands s (e ∷ es) t u inv (mine, of) apart = run_stands (happens s e).state es t u (sound s e inv).kept of apart ∙ others_stand s e inv u (λ same. apart (sym mine ∙ same))

still : (x : Slots) (u : ℕ) → StandsStill x x u
still x u = record { row = refl; thread = refl }

module _ (x : Slots) (u : ℕ) (inv : Kept x.machine) where
  -- thread t goes to another row by these events
  goes_on : (t : ℕ) (y : Slots) (es : List Event) (r : Row) → t ≢ u → AreOf t es → y.machine ≡ run x.machine es → y.rows ≡ put x.rows t r → StandsStill x y u
  goes_on t y es r apart of machine rows = record {
    row = ap (λ (f : ℕ → Row). f u) rows ∙ put-other x.rows t r u (λ e. apart (sym e));
    thread = ap (λ (s : State). s.threads u) machine ∙ run_stands x.machine es t u inv of apart;
  }

  -- or stays at its row
  stays_on : (t : ℕ) (es : List Event) → t ≢ u → AreOf t es → StandsStill x (after x es) u
  stays_on t es apart of = record { row = refl; thread = run_stands x.machine es t u inv of apart }

  lapses_are_of : (t : ℕ) (r : Row) → AreOf t (lapse_events x t r)
  lapses_are_of t r = grind (arith)

  others : (h : Happening) → who h ≢ u → StandsStill x (next x h) u
  others (Calls t r) apart = by_test (λ (y : Slots). StandsStill x y u) (has_thread x.machine t && is_alive (x.machine.threads t).stage && is_resting (x.rows t) && may_call x.machine.layout (x.machine.threads t).held r) (at_row x t r) x
      (λ e. goes_on t (at_row x t r) [] r apart tt refl refl) (λ e. still x u)
  others (Goes t c) apart = by_test (λ (y : Slots). StandsStill x y u) (has_thread x.machine t && is_alive (x.machine.threads t).stage && not (is_asleep x.machine t)) (made_by x t c (made x t c (x.rows t))) x
      (λ e. goes_on t (made_by x t c (made x t c (x.rows t))) (made x t c (x.rows t)).events (made x t c (x.rows t)).next apart (events_are_of x t c (x.rows t)) refl refl) (λ e. still x u)
  others (Interrupts t) apart = stays_on t (Leave t ∷ []) apart (refl, tt)
  others (Lapses t) apart = by_test (λ (y : Slots). StandsStill x y u) (is_asleep x.machine t) (at_row (after x (lapse_events x t (x.rows t))) t (lapse_row (x.rows t))) x
      (λ e. goes_on t (at_row (after x (lapse_events x t (x.rows t))) t (lapse_row (x.rows t))) (lapse_events x t (x.rows t)) (lapse_row (x.rows t)) apart (lapses_are_of t (x.rows t)) refl refl) (λ e. still x u)
  others (Dies t) apart = by_test (λ (y : Slots). StandsStill x y u) (has_thread x.machine t && is_alive (x.machine.threads t).stage) (at_row (after x (Kill t ∷ [])) t Row.Rests) x
      (λ e. goes_on t (at_row (after x (Kill t ∷ [])) t Row.Rests) (Kill t ∷ []) Row.Rests apart (refl, tt) refl refl) (λ e. still x u)
  others (Walks t) apart = by_test (λ (y : Slots). StandsStill x y u) (is_dying x.machine t) (after x (Step t ∷ [])) x (λ e. stays_on t (Step t ∷ []) apart (refl, tt)) (λ e. still x u)
  others (Lives t) apart = stays_on t (Renew t ∷ []) apart (refl, tt)

pub others_still : OthersStandStill
others_still x h u reached apart = others x u (reached_kept x.machine reached) h apart
