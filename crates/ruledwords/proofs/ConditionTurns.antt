-- A call on a condition variable, turn by turn.
use Rattle.std.proofs.Common.{◌≡◌, false, ℕ, ◌-◌, ◌<◌, ◌≤◌, Option, Some, None, List, length, refl, sym, ap, ◌∙◌, subst, arith}
use Rattle.atomic_table.specs.declared.shared.Seat.{Seat}
use Rattle.lockword.specs.declared.reply.Reply.{Reply}
use Rattle.stepprograms.specs.declared.access.Access.{Access}
use Rattle.stepprograms.specs.declared.access.Access.TheVariants as access
use Rattle.stepprograms.specs.declared.access.Answer.{Answer}
use Rattle.stepprograms.specs.declared.access.Answer.TheVariants.{Again, Count, Counts as Moved, Woken}
use Rattle.posixmutex.specs.declared.point.Point.{Point}
use Rattle.stepprograms.specs.declared.program.Progress.{Progress}
use Rattle.stepprograms.specs.declared.program.Progress.TheVariants.{Goes, Returns}
use Rattle.posixmutex.specs.declared.point.Operation.TheVariants as operation
use Rattle.stepprograms.specs.Accesses.{address_of, answer_at}
use Rattle.robustlist.specs.Unlink.{unlink_access_of}
use Rattle.memorymap.specs.Layouts.{Layout', address_in, counter_place, place_in, words_of}
use Rattle.posixmutex.specs.Objects.{held_limit}
use Rattle.mutex.proofs.Addresses.{again}
use Rattle.mutex.specs.declared.phase.Phase.TheVariants as phase
use Rattle.mutex.specs.Standings.{Whole}
use Rattle.mutex.specs.Whole.{retaking}
use Rattle.mutex.specs.WholeLists.{IsCallOn}
use Rattle.condvar.specs.declared.broadcast.BroadcastRow.TheVariants as broadcast
use Rattle.condvar.specs.declared.call.CondCall.{CondCall}
use Rattle.condvar.specs.declared.call.CondCall.TheVariants as call
use Rattle.condvar.specs.declared.phase.CondPhase.{CondPhase}
use Rattle.condvar.specs.declared.phase.CondPhase.TheVariants as condition
use Rattle.condvar.specs.declared.row.CondRow.{CondRow}
use Rattle.condvar.specs.declared.row.CondRow.TheVariants as cond
use Rattle.condvar.specs.declared.signal.SignalRow.TheVariants as signal
use Rattle.condvar.specs.declared.wait.WaitRow.TheVariants as wait
use Rattle.condvar.specs.Calls.{condition_of}
use Rattle.condvar.specs.Programs.{row_access}
use Rattle.condvar.specs.Standings.{CondWhole}
use Rattle.condvar.specs.Whole.{begins, cond_access, cond_led, cond_moved, lock_of, phase_access, progress_in, IsUnderWay, PhaseKnows}
use Rattle.ruledwords.specs.declared.pass.Card.{Card}
use Rattle.ruledwords.specs.declared.pass.Change.{Change}
use Rattle.ruledwords.specs.declared.turn.CondRunning.{CondRunning}
use Rattle.ruledwords.specs.declared.pass.Words.{Words}
use Rattle.ruledwords.specs.declared.pass.Pass.{Pass}
use Rattle.ruledwords.specs.declared.pass.Live.{Live}
use Rattle.ruledwords.specs.Calls.{count_after}
use Rattle.ruledwords.specs.ConditionCalls.{cond_access_in, cond_place_at, FindsCondWord, IsCondAnswerOf, IsCondRunningOf, IsCondStep, IsInCondCall}
use Rattle.ruledwords.specs.Conditions.{cond_row_in, cond_standing, condition_at, most_behind, unlock_of, Compares, CondReady, IsAtCondition, IsOnCondition}
use Rattle.ruledwords.specs.Counts.{cell_at, mutex_at}
use Rattle.ruledwords.specs.Lists.{IsAlive, IsInCall}
use Rattle.ruledwords.specs.Looks.{noted}
use Rattle.ruledwords.specs.Passes.{card, layout_of, IsCardOf, IsPassOf, IsLive}
use Rattle.ruledwords.specs.Rules.{card_of}
use Rattle.ruledwords.specs.Seen.{held}
use Rattle.ruledwords.proofs.ConditionActs.{unlink_no_section, Leads}
use Rattle.ruledwords.proofs.ConditionReleases.{steps_on, section_on, Answered}
use Rattle.ruledwords.proofs.Counts.{of_mutex}
use Rattle.ruledwords.specs.Turns.{IsLoadOrStore}
use Rattle.ruledwords.proofs.Listing.{call_noted}
use Rattle.ruledwords.proofs.Phases.{is_load_or_store}

-- ---- how far it is

pub goes_under : (point : Option Point) (f : CondPhase) (result : Progress) (told : Option Point) → result ≡ Goes told → result ≡ progress_in point f → IsUnderWay f × (told ≡ point)
goes_under point (condition.Ended x) result told is progress = let bad : Goes told ≡ Returns x point = sym is ∙ progress in absurd (cc bad)
goes_under point (condition.AtWords r) result told is progress = let e : Goes told ≡ Goes point = sym is ∙ progress in (tt, cc e)
goes_under point (condition.Announcing seen) result told is progress = let e : Goes told ≡ Goes point = sym is ∙ progress in (tt, cc e)
goes_under point (condition.Unlinking u seen) result told is progress = let e : Goes told ≡ Goes point = sym is ∙ progress in (tt, cc e)
goes_under point (condition.Locking w) result told is progress = let e : Goes told ≡ Goes point = sym is ∙ progress in (tt, cc e)

pub returns_ended : (point : Option Point) (f : CondPhase) (result : Progress) (reply : Reply) (told : Option Point) → result ≡ Returns reply told → result ≡ progress_in point f → (f ≡ condition.Ended reply) × (told ≡ point)
returns_ended point (condition.Ended x) result reply told is progress = let e : Returns reply told ≡ Returns x point = sym is ∙ progress in (ap condition.Ended (cc e), cc e)
returns_ended point (condition.AtWords r) result reply told is progress = let bad : Returns reply told ≡ Goes point = sym is ∙ progress in absurd (cc bad)
returns_ended point (condition.Announcing seen) result reply told is progress = let bad : Returns reply told ≡ Goes point = sym is ∙ progress in absurd (cc bad)
returns_ended point (condition.Unlinking u seen) result reply told is progress = let bad : Returns reply told ≡ Goes point = sym is ∙ progress in absurd (cc bad)
returns_ended point (condition.Locking w) result reply told is progress = let bad : Returns reply told ≡ Goes point = sym is ∙ progress in absurd (cc bad)

pub at_condition : (f : CondPhase) → IsUnderWay f → ((l : Whole) → f ≡ condition.Locking l → ⊥) → IsAtCondition f
at_condition (condition.AtWords r) under no_lock = tt
at_condition (condition.Announcing seen) under no_lock = tt
at_condition (condition.Unlinking u seen) under no_lock = tt
at_condition (condition.Locking w) under no_lock = no_lock w refl
at_condition (condition.Ended x) under no_lock = absurd under

pub no_lock : (f : CondPhase) → lock_of f ≡ None → (l : Whole) → f ≡ condition.Locking l → ⊥
no_lock f none l is = let bad : Some l ≡ None = sym (ap lock_of is) ∙ none in absurd (cc bad)

pub has_lock : (f : CondPhase) (l : Whole) → lock_of f ≡ Some l → f ≡ condition.Locking l
has_lock (condition.AtWords r) l is = absurd (cc is)
has_lock (condition.Announcing seen) l is = absurd (cc is)
has_lock (condition.Unlinking u seen) l is = absurd (cc is)
has_lock (condition.Locking w) l is = ap condition.Locking (cc is)
has_lock (condition.Ended x) l is = absurd (cc is)

pub most_at : (r : CondRow) → most_behind r ≤ held_limit
most_at (cond.Wait (wait.Wake seen)) = omega arith
most_at (cond.Wait (wait.Sleep seen)) = omega arith
most_at (cond.Wait wait.LoadCell) = omega arith
most_at (cond.Wait wait.LoadCounter) = omega arith
most_at (cond.Wait (wait.Release seen)) = omega arith
most_at (cond.Signal r) = omega arith
most_at (cond.Broadcast r) = omega arith
most_at cond.Awake = omega arith
most_at (cond.Ended x) = omega arith

-- ---- a section, whatever the words are

-- this many mutexes its thread holds then; and the lock that ends a wait
abbrev pub SectionRoom : CondWhole → ℕ → CondPhase → Type 0
SectionRoom p h f = (h ≤ most_behind (cond_row_in f)) × ((l : Whole) → f ≡ condition.Locking l → (h ≤ held_limit - 1) × (l ≡ retaking p.thread p.head p.entry p.cell))

same_room : (p : CondWhole) (h : ℕ) (f : CondPhase) → h ≤ most_behind (cond_row_in f) → ((l : Whole) → f ≡ condition.Locking l → ⊥) → SectionRoom p h f
same_room p h f le never = (le, λ l e. absurd (never l e))

module _ (t he en ce co : ℕ) where
  abbrev of_phase : CondPhase → CondWhole
  of_phase f = record { thread = t; head = he; entry = en; cell = ce; counter = co; phase = f }

  woken_room : (h seen : ℕ) → h ≤ held_limit - 1 → SectionRoom (of_phase (condition.AtWords (cond.Wait (wait.Sleep seen)))) h (condition.Locking (retaking t he en ce))
  woken_room h seen le = (let a : h ≤ held_limit = omega arith in a, λ l e. (le, cc e))

  pub section_room : (f : CondPhase) → IsAtCondition f → (x : Answer) (h : ℕ) → IsCondAnswerOf (cond_access (of_phase f)) x → h ≤ most_behind (cond_row_in f) → SectionRoom (of_phase f) h (cond_led (of_phase f) x).phase
  section_room (condition.AtWords (cond.Wait wait.LoadCell)) there x h fits le = absurd fits
  section_room (condition.AtWords (cond.Wait wait.LoadCounter)) there x h fits le = absurd fits
  section_room (condition.AtWords (cond.Wait (wait.Release seen))) there x h fits le = absurd fits
  section_room (condition.AtWords (cond.Wait (wait.Wake seen))) there (Count j) h fits le = (le, λ l e. absurd (cc e))
  section_room (condition.AtWords (cond.Wait (wait.Wake seen))) there x h fits le = absurd fits
  section_room (condition.AtWords (cond.Wait (wait.Sleep seen))) there Again h fits le = woken_room h seen le
  section_room (condition.AtWords (cond.Wait (wait.Sleep seen))) there Woken h fits le = woken_room h seen le
  section_room (condition.AtWords (cond.Wait (wait.Sleep seen))) there x h fits le = absurd fits
  section_room (condition.AtWords (cond.Signal signal.LoadCell)) there x h fits le = absurd fits
  section_room (condition.AtWords (cond.Signal signal.LoadCounter)) there x h fits le = absurd fits
  section_room (condition.AtWords (cond.Signal signal.Count)) there x h fits le = absurd fits
  section_room (condition.AtWords (cond.Signal signal.Wake)) there (Count j) h fits le = (le, λ l e. absurd (cc e))
  section_room (condition.AtWords (cond.Signal signal.Wake)) there x h fits le = absurd fits
  section_room (condition.AtWords (cond.Broadcast broadcast.LoadCell)) there x h fits le = absurd fits
  section_room (condition.AtWords (cond.Broadcast broadcast.LoadCounter)) there x h fits le = absurd fits
  section_room (condition.AtWords (cond.Broadcast (broadcast.Count seen))) there x h fits le = absurd fits
  section_room (condition.AtWords (cond.Broadcast (broadcast.SetWaiters seen))) there x h fits le = absurd fits
  section_room (condition.AtWords (cond.Broadcast (broadcast.Move seen))) there Again h fits le = (le, λ l e. absurd (cc e))
  section_room (condition.AtWords (cond.Broadcast (broadcast.Move seen))) there (Moved i j) h fits le = (le, λ l e. absurd (cc e))
  section_room (condition.AtWords (cond.Broadcast (broadcast.Move seen))) there x h fits le = absurd fits
  section_room (condition.AtWords cond.Awake) there x h fits le = absurd fits
  section_room (condition.AtWords (cond.Ended y)) there x h fits le = absurd fits
  section_room (condition.Announcing seen) there x h fits le = absurd fits
  section_room (condition.Unlinking u seen) there x h fits le = absurd (unlink_no_section u x fits)
  section_room (condition.Locking w) there x h fits le = absurd there
  section_room (condition.Ended y) there x h fits le = absurd there

-- ---- a running call

module _ (w : Words) (r : CondRunning) (of : IsCondRunningOf w r) where
  abbrev pub k : Layout'
  k = layout_of w

  abbrev pub c : Card
  c = card r.pass

  abbrev pub p : CondWhole
  p = r.program

  abbrev LeadsTo : Card → CondPhase → Option Point → Type 0
  LeadsTo d f point = Leads k p.head p.entry p.cell p.counter p.thread c d (record { phase = f; point = point })

  pub few : held c ≤ held_limit
  few = subst (λ (n : ℕ). n ≤ held_limit) r.pass.count r.pass.few

  pub on : IsOnCondition k (condition_at k p) (cond_standing (record { thread = p.thread; head = p.head; entry = p.entry; cell = p.cell; counter = p.counter; phase = condition.Ended Rattle.lockword.specs.declared.reply.Reply.TheVariants.OK }))
  on = record { inside = of.1.on.inside; cell = of.1.on.cell; counter = of.1.on.counter }

  pub addressed : IsCallOn k c.thread (mutex_at k (condition_at k p)) (unlock_of (record { thread = p.thread; head = p.head; entry = p.entry; cell = p.cell; counter = p.counter; phase = condition.Ended Rattle.lockword.specs.declared.reply.Reply.TheVariants.OK }))
  addressed = record { thread = of.1.list.of.thread; head = of.1.list.of.head; entry = of.1.list.of.entry; cell = of.1.list.of.cell }

  -- a step
  module _ (one : IsCondStep (cond_access_in r)) (s : Seat (Unit {0}) (List Card)) (n : ℕ) (finds : FindsCondWord w r.pass.seat s r.program n) (x : Answer) (is_answer : x ≡ answer_at (cond_access p) n) where
    abbrev d : Card
    d = card_of s.me.0

    leads : Leads k p.head p.entry p.cell p.counter p.thread c d (cond_led p x)
    leads = subst (λ (y : Answer). Leads k p.head p.entry p.cell p.counter p.thread c d (cond_led p y)) (sym is_answer)
        (steps_on k p.head p.entry p.cell p.counter p.thread c of.0.1 on addressed few p.phase r.there of.1 one n d finds.2)

    pub whose : d.thread ≡ r.pass.thread
    whose = leads.thread ∙ r.pass.own

    counts : (told : Option Point) (h : ℕ) → told ≡ (cond_led p x).point → h ≡ count_after r.pass.held told → h ≡ count_after (held c) (cond_led p x).point
    counts told h same is = is ∙ (λ i. count_after (r.pass.count i) (same i))

    pub count : (told : Option Point) (h : ℕ) → told ≡ (cond_led p x).point → h ≡ count_after r.pass.held told → h ≡ held d
    count told h same is = counts told h same is ∙ sym leads.count

    room_at : (told : Option Point) (h : ℕ) → told ≡ (cond_led p x).point → h ≡ count_after r.pass.held told → h ≤ most_behind (cond_row_in (cond_led p x).phase)
    room_at told h same is = subst (λ (z : ℕ). z ≤ most_behind (cond_row_in (cond_led p x).phase)) (sym (counts told h same is)) leads.few

    pub few_then : (told : Option Point) (h : ℕ) → told ≡ (cond_led p x).point → h ≡ count_after r.pass.held told → h ≤ 2048
    few_then told h same is = let a = room_at told h same is in let b = most_at (cond_row_in (cond_led p x).phase) in omega arith

    -- it goes on
    module _ (under : IsUnderWay (cond_led p x).phase) (p' : CondWhole) (to : p' ≡ cond_moved p (cond_led p x)) where
      there_led : IsAtCondition (cond_led p x).phase
      there_led = at_condition (cond_led p x).phase under leads.locks

      pub there_then : IsAtCondition p'.phase
      there_then = subst (λ (z : CondWhole). IsAtCondition z.phase) (sym to) there_led

      pub mine_then : p'.thread ≡ d.thread
      mine_then = ap (λ (z : CondWhole). z.thread) to ∙ r.mine ∙ sym leads.thread

      pub room_then : (told : Option Point) (h : ℕ) → told ≡ (cond_led p x).point → h ≡ count_after r.pass.held told → h ≤ most_behind (cond_row_in p'.phase)
      room_then told h same is = subst (λ (z : CondWhole). h ≤ most_behind (cond_row_in z.phase)) (sym to) (room_at told h same is)

      pub goes_then : (b : Pass Live) → b.seat.table_id ≡ r.pass.seat.table_id → card b ≡ d → IsPassOf w b × IsInCondCall k (card b) p'
      goes_then b table is = ((table ∙ of.0.0, subst (IsCardOf k) (sym is) leads.card), subst (λ (z : Card × CondWhole). IsInCondCall k z.0 z.1) (λ i. (sym is i, sym to i)) (leads.goes there_led))

    -- it has replied
    pub lives_then : (y : Reply) → (cond_led p x).phase ≡ condition.Ended y → (b : Pass Live) → b.seat.table_id ≡ r.pass.seat.table_id → card b ≡ d → IsLive w b
    lives_then y ended b table is = ((table ∙ of.0.0, subst (IsCardOf k) (sym is) leads.card), subst (IsAlive k) (sym is) (leads.ends y ended))

  -- a section
  module _ (x : Answer) (fits : IsCondAnswerOf (cond_access_in r) x) where
    answered : Answered k p.head p.entry p.cell p.counter p.thread c of.0.1 on addressed few (cond_led p x)
    answered = section_on k p.head p.entry p.cell p.counter p.thread c of.0.1 on addressed few p.phase r.there of.1 x fits

    pub goes_answered : (p' : CondWhole) → p' ≡ cond_moved p (cond_led p x) → IsAtCondition p'.phase → IsInCondCall k c p'
    goes_answered p' to there = subst (IsInCondCall k c) (sym to) (answered.goes (subst (λ (z : CondWhole). IsAtCondition z.phase) to there))

    pub locks_answered : (l : Whole) → (cond_led p x).phase ≡ condition.Locking l → IsInCall k c (mutex_at k (condition_at k p)) l
    locks_answered l is = answered.locks l is

    pub lives_answered : (y : Reply) → (cond_led p x).phase ≡ condition.Ended y → IsAlive k c
    lives_answered y is = answered.ends y is

-- ---- a look at the counter

-- what compares a word is at the counter
compares_counter : (t cell counter : ℕ) (r : CondRow) → Compares (row_access t cell counter r) → address_of (row_access t cell counter r) ≡ counter
compares_counter t cell counter (cond.Wait (wait.Sleep seen)) compares = refl
compares_counter t cell counter (cond.Broadcast (broadcast.Move seen)) compares = refl
compares_counter t cell counter (cond.Wait wait.LoadCell) compares = absurd compares
compares_counter t cell counter (cond.Wait wait.LoadCounter) compares = absurd compares
compares_counter t cell counter (cond.Wait (wait.Release seen)) compares = absurd compares
compares_counter t cell counter (cond.Wait (wait.Wake seen)) compares = absurd compares
compares_counter t cell counter (cond.Signal signal.LoadCell) compares = absurd compares
compares_counter t cell counter (cond.Signal signal.LoadCounter) compares = absurd compares
compares_counter t cell counter (cond.Signal signal.Count) compares = absurd compares
compares_counter t cell counter (cond.Signal signal.Wake) compares = absurd compares
compares_counter t cell counter (cond.Broadcast broadcast.LoadCell) compares = absurd compares
compares_counter t cell counter (cond.Broadcast broadcast.LoadCounter) compares = absurd compares
compares_counter t cell counter (cond.Broadcast (broadcast.Count seen)) compares = absurd compares
compares_counter t cell counter (cond.Broadcast (broadcast.SetWaiters seen)) compares = absurd compares
compares_counter t cell counter cond.Awake compares = absurd compares
compares_counter t cell counter (cond.Ended x) compares = absurd compares

not_compared : (a : Access) → IsLoadOrStore a → Compares a → ⊥
not_compared (access.Load at) kind compares = compares
not_compared (access.Store at v) kind compares = compares
not_compared a kind compares = absurd kind

compares_there : (p : CondWhole) (f : CondPhase) → IsAtCondition f → Compares (phase_access p f) → address_of (phase_access p f) ≡ p.counter
compares_there p (condition.AtWords r) there compares = compares_counter p.thread p.cell p.counter r compares
compares_there p (condition.Announcing seen) there compares = absurd compares
compares_there p (condition.Unlinking u seen) there compares = absurd (not_compared (unlink_access_of u) (is_load_or_store (record { thread = 0; operation = operation.Unlock; head = 0; entry = 0; cell = 0; phase = phase.Unlinking u false }) tt) compares)
compares_there p (condition.Locking w) there compares = absurd there
compares_there p (condition.Ended x) there compares = absurd there

pub compared_at : (w : Words) (r : CondRunning) → IsCondRunningOf w r → Compares (cond_access_in r) → cond_place_at (layout_of w) r ≡ counter_place (layout_of w) (condition_at (layout_of w) r.program)
compared_at w r of compares =
    let k = layout_of w in
    let c : Card = card r.pass in
    let q : ℕ = condition_at k r.program in
    let low = of.1.on.inside in
    let there : counter_place k q < words_of k = omega arith in
    ap (place_in k c.thread) (compares_there r.program r.program.phase r.there compares ∙ of.1.on.counter ∙ ap (λ (t : ℕ). address_in k t (counter_place k q)) r.mine) ∙ again k c.thread of.0.1.layout of.0.1.first of.0.1.thread (counter_place k q) there

pub cond_noted : (k : Layout') (c : Card) (n s : ℕ) (zs : List (List Change)) (p : CondWhole) → IsInCondCall k c p → IsInCondCall k (noted c n s zs) p
cond_noted k c n s zs p call = record { on = call.on; knows = call.knows; list = call_noted k c n s zs (mutex_at k (condition_at k p)) (unlock_of p) call.list; ready = call.ready }

-- ---- a move

-- the address to which an access moves sleepers
abbrev pub target_of : Access → Option ℕ
target_of (access.CmpRequeue from e n to j) = Some to
target_of a = None

-- a move is to the mutex's cell
row_moves : (t cell counter to : ℕ) (r : CondRow) → target_of (row_access t cell counter r) ≡ Some to → to ≡ cell
row_moves t cell counter to (cond.Broadcast (broadcast.Move seen)) is = sym (cc is)
row_moves t cell counter to (cond.Wait (wait.Sleep seen)) is = absurd (cc is)
row_moves t cell counter to (cond.Wait wait.LoadCell) is = absurd (cc is)
row_moves t cell counter to (cond.Wait wait.LoadCounter) is = absurd (cc is)
row_moves t cell counter to (cond.Wait (wait.Release seen)) is = absurd (cc is)
row_moves t cell counter to (cond.Wait (wait.Wake seen)) is = absurd (cc is)
row_moves t cell counter to (cond.Signal signal.LoadCell) is = absurd (cc is)
row_moves t cell counter to (cond.Signal signal.LoadCounter) is = absurd (cc is)
row_moves t cell counter to (cond.Signal signal.Count) is = absurd (cc is)
row_moves t cell counter to (cond.Signal signal.Wake) is = absurd (cc is)
row_moves t cell counter to (cond.Broadcast broadcast.LoadCell) is = absurd (cc is)
row_moves t cell counter to (cond.Broadcast broadcast.LoadCounter) is = absurd (cc is)
row_moves t cell counter to (cond.Broadcast (broadcast.Count seen)) is = absurd (cc is)
row_moves t cell counter to (cond.Broadcast (broadcast.SetWaiters seen)) is = absurd (cc is)
row_moves t cell counter to cond.Awake is = absurd (cc is)
row_moves t cell counter to (cond.Ended x) is = absurd (cc is)

own_moves_none : (a : Access) → IsLoadOrStore a → target_of a ≡ None
own_moves_none (access.Load at) kind = refl
own_moves_none (access.Store at v) kind = refl
own_moves_none a kind = absurd kind

moves_there : (p : CondWhole) (f : CondPhase) (to : ℕ) → IsAtCondition f → target_of (phase_access p f) ≡ Some to → to ≡ p.cell
moves_there p (condition.AtWords r) to there is = row_moves p.thread p.cell p.counter to r is
moves_there p (condition.Announcing seen) to there is = absurd (cc is)
moves_there p (condition.Unlinking u seen) to there is =
    let none = own_moves_none (unlink_access_of u) (is_load_or_store (record { thread = 0; operation = operation.Unlock; head = 0; entry = 0; cell = 0; phase = phase.Unlinking u false }) tt) in
    let bad : None ≡ Some to = sym none ∙ is in absurd (cc bad)
moves_there p (condition.Locking w) to there is = absurd there
moves_there p (condition.Ended x) to there is = absurd there

pub moved_to : (w : Words) (r : CondRunning) → IsCondRunningOf w r → (to : ℕ) {from e n j : ℕ} → cond_access r.program ≡ access.CmpRequeue from e n to j → {place : ℕ} → place ≡ place_in (layout_of w) r.pass.thread to → place ≡ cell_at (layout_of w) (condition_at (layout_of w) r.program)
moved_to w r of to is there =
    let k = layout_of w in
    let c : Card = card r.pass in
    let z : ℕ = condition_at k r.program in
    let inside = of_mutex k z of.0.1.layout of.1.on.inside in
    let low : cell_at k z < words_of k = omega arith in
    there ∙ (λ i. place_in k (sym r.pass.own i) ((moves_there r.program r.program.phase to r.there (ap target_of is) ∙ of.1.on.cell ∙ ap (λ (t : ℕ). address_in k t (cell_at k z)) r.mine) i)) ∙ again k c.thread of.0.1.layout of.0.1.first of.0.1.thread (cell_at k z) low

-- ---- a call begins

pub condition_begun : (k : Layout') (c : Card) → IsCardOf k c → (cl : CondCall) → condition_of cl < length k.conditions → condition_at k (begins k c.thread cl) ≡ condition_of cl
condition_begun k c is cl low =
    let there : counter_place k (condition_of cl) < words_of k = omega arith in
    let back = again k c.thread is.layout is.first is.thread (counter_place k (condition_of cl)) there in
    omega (arith, back)

-- what holds of it, by the number of its condition variable
record Begins (k : Layout') (c : Card) (p : CondWhole) (q : ℕ) : Type 0 where
  pub on : IsOnCondition k q (cond_standing p)
  pub knows : PhaseKnows p.phase
  pub list : IsInCall k c (mutex_at k q) (unlock_of p)
  pub ready : CondReady k q (cond_row_in p.phase) c

on_begun : (k : Layout') (c : Card) (cl : CondCall) → condition_of cl < length k.conditions → IsOnCondition k (condition_of cl) (cond_standing (begins k c.thread cl))
on_begun k c cl low = record { inside = low; cell = refl; counter = refl }

begins_so : (k : Layout') (c : Card) → IsCardOf k c → IsAlive k c → (cl : CondCall) → condition_of cl < length k.conditions → Begins k c (begins k c.thread cl) (condition_of cl)
begins_so k c is alive (call.Wait q) low = let list = alive.list in record {
  on = on_begun k c (call.Wait q) low;
  knows = tt;
  list = record { inside = of_mutex k q is.layout low; knows = alive.knows; of = record { thread = refl; head = refl; entry = refl; cell = refl }; list = record { knows = (tt, tt); stands = (tt, refl); entries = list.entries; owned = list.owned; chain = list.chain; pending = list.pending } };
  ready = λ o run. tt;
}
begins_so k c is alive (call.TimedWait q y) low = let list = alive.list in record {
  on = on_begun k c (call.TimedWait q y) low;
  knows = tt;
  list = record { inside = of_mutex k q is.layout low; knows = alive.knows; of = record { thread = refl; head = refl; entry = refl; cell = refl }; list = record { knows = (tt, tt); stands = (tt, refl); entries = list.entries; owned = list.owned; chain = list.chain; pending = list.pending } };
  ready = λ o run. tt;
}
begins_so k c is alive (call.Signal q) low = let list = alive.list in record {
  on = on_begun k c (call.Signal q) low;
  knows = tt;
  list = record { inside = of_mutex k q is.layout low; knows = alive.knows; of = record { thread = refl; head = refl; entry = refl; cell = refl }; list = record { knows = (tt, tt); stands = (tt, refl); entries = list.entries; owned = list.owned; chain = list.chain; pending = list.pending } };
  ready = λ o run. tt;
}
begins_so k c is alive (call.Broadcast q) low = let list = alive.list in record {
  on = on_begun k c (call.Broadcast q) low;
  knows = tt;
  list = record { inside = of_mutex k q is.layout low; knows = alive.knows; of = record { thread = refl; head = refl; entry = refl; cell = refl }; list = record { knows = (tt, tt); stands = (tt, refl); entries = list.entries; owned = list.owned; chain = list.chain; pending = list.pending } };
  ready = λ o run. tt;
}

pub cond_begins : (k : Layout') (c : Card) → IsCardOf k c → IsAlive k c → (cl : CondCall) (p : CondWhole) → condition_of cl < length k.conditions → p ≡ begins k c.thread cl → IsInCondCall k c p
cond_begins k c is alive cl p low begun = subst (IsInCondCall k c) (sym begun)
    (let b = subst (Begins k c (begins k c.thread cl)) (sym (condition_begun k c is cl low)) (begins_so k c is alive cl low) in record { on = b.on; knows = b.knows; list = b.list; ready = b.ready })

pub begun_there : (k : Layout') (t : ℕ) (cl : CondCall) → IsAtCondition (begins k t cl).phase
begun_there k t cl = tt

pub begun_room : (k : Layout') (t h : ℕ) (cl : CondCall) → h ≤ held_limit → h ≤ most_behind (cond_row_in (begins k t cl).phase)
begun_room k t h (call.Wait q) le = le
begun_room k t h (call.TimedWait q y) le = le
begun_room k t h (call.Signal q) le = le
begun_room k t h (call.Broadcast q) le = le
