-- In any run, a deadline that passes ends its thread's sleep, and lets an heir give up.
use Rattle.std.proofs.Common.{◌≡◌, ◌≢◌, inl, inr, ℕ, ◌<◌, ◌≤◌, ◌==◌, Bool, true, false, List, [], ◌∷◌, refl, sym, ap, ◌∙◌, subst, eq-eqb}
use Rattle.std.specs.Prelude.{if◌then◌else◌, not, ◌&&◌}
use Rattle.lockword.specs.Cells.{fields_of}
use Rattle.lockword.specs.declared.reply.Reply.TheVariants.{ETIMEDOUT, ENOTRECOVERABLE}
use Rattle.memorymap.specs.Layouts.{Layout', cell_place, counter_place}
use Rattle.mutex.specs.declared.call.Call.TheVariants.{TimedLock}
use Rattle.mutex.specs.Standings.{Whole}
use Rattle.condvar.specs.Calls.{condition_of}
use Rattle.condvar.specs.declared.op.Op.TheVariants.{OnMutex, OnCondition}
use Rattle.posixmutex.specs.declared.point.Operation.TheVariants as op
use Rattle.protocol.specs.declared.event.Event.{Event}
use Rattle.protocol.specs.declared.event.Event.TheVariants.{Expire, Leave}
use Rattle.protocol.specs.declared.thread.Stage.{Stage}
use Rattle.protocol.specs.declared.thread.Stage.TheVariants.{Calling}
use Rattle.protocol.specs.Machine.{After, State, departed, expired, happens, has_thread, is_alive, is_asleep, is_timed, lapsed, nothing, overslept, places_of, run, sleeps, stands_at, stands_in, waits_on}
use Rattle.protocol.proofs.Events.{is_known}
use Rattle.protocol.proofs.Kept.{Kept}
use Rattle.protocol.proofs.Queues.{without_gone}
use Rattle.slots.specs.Places.{cell_of}
use Rattle.slots.specs.Rows.{Choice, How, Row, Taking, about}
use Rattle.slots.specs.Rows.Before.{Again}
use Rattle.slots.specs.Shown.{Slots, after, begin, shown}
use Rattle.slots.specs.Words.{is_free}
use Rattle.slots.specs.Stands.{IsRetaking, IsToLook, StandsAs, at_load, has_limit}
use Rattle.slots.specs.Table.{Made, made, watched_row}
use Rattle.slots.specs.Runs.{at_row, is_resting, lapse_events, lapse_row, next, reached}
use Rattle.slots.specs.Runs.Happening.{Lapses}
use Rattle.slots.specs.Invariant.{fields_at}
use Rattle.slots.specs.Fits.{Fits}
use Rattle.slots.specs.Goes.{SleepsLater}
use Rattle.slots.specs.Deadlines.{has_deadline}
use Rattle.slots.specs.Replies.{decided, deed, late, locks}
use Rattle.slots.specs.Replies.Deed.{Nothing, Decides}
use Rattle.slots.specs.Outcomes.{call_so_far, count_of, ends_wait, is_in_sleep}
use Rattle.slots.specs.Overdue.{DeadlinesEndSleeps, LateHeirsGiveUp, has_watched, sees_it_owned, watches_on}
use Rattle.slots.proofs.Allowed.{sleeps_later}
use Rattle.slots.proofs.Following.{begins_steady, layout_then, steady_run}
use Rattle.slots.proofs.Free.{reached_kept}
use Rattle.slots.proofs.Leading.{by_test}
use Rattle.slots.proofs.Meets.{Says, cell_says, usable_if_owned}
use Rattle.slots.proofs.Origins.{AsBegun, later_from, wait_deadline}
use Rattle.slots.proofs.Outcomes.{Tells, begun_in}
use Rattle.slots.proofs.Owned.{our_cell}
use Rattle.slots.proofs.Steady.{Steady}

is_not : (a : Bool) → not a ≡ true → a ≡ false
is_not false e = refl
is_not true e = absurd cc

-- ---- it ends a sleep

-- the row sleeps until a deadline
abbrev sleeps_timed : Row → Bool
sleeps_timed (Row.Asleep k) = k.timed
sleeps_timed (Row.WaitAsleep m k n timed) = timed
sleeps_timed r = false

timed_so : (b : Row) (p : Bool) (T : ℕ → ℕ → Type 0) (r : Row) → AsBegun b p T r → has_deadline b ≡ true → p ≡ false → is_in_sleep r ≡ true → sleeps_timed r ≡ true
timed_so b p T (Row.Asleep k) f has none on = sym (later_from k.how k.timed b (is_not (ends_wait k.how) on) f).1.1 ∙ has
timed_so b p T (Row.WaitAsleep m k n true) f has none on = refl
timed_so b p T (Row.WaitAsleep m k n false) (inl f) has none on = absurd (cc (sym has ∙ wait_deadline k false b f))
timed_so b p T (Row.WaitAsleep m k n false) (inr f) has none on = absurd (cc (sym f.0 ∙ none))
timed_so b p T r f has none on = absurd cc

-- whoever stands in no queue is awake
awake_if : (s : State) (t : ℕ) → ((key : ℕ) → stands_in t (s.queues key) ≡ false) → is_asleep s t ≡ false
awake_if s t out = go (places_of s.layout (s.threads t).stage)
  where
    go : (ps : List ℕ) → stands_at t s.queues ps ≡ false
    go [] = refl
    go (p ∷ ps) = ap (λ (b : Bool). if b then true else stands_at t s.queues ps) (out p) ∙ go ps

module _ (x : Slots) (t : ℕ) (there : has_thread x.machine t ≡ true) (asleep : is_asleep x.machine t ≡ true) where
  abbrev z : State
  z = x.machine

  abbrev g : Stage
  g = (z.threads t).stage

  abbrev h : ℕ
  h = (z.threads t).held

  abbrev Awake : After → Type 0
  Awake a = is_asleep a.state t ≡ false

  leaves : Awake (happens z (Leave t))
  leaves = subst Awake (ap (λ (b : Bool). if b then departed z t else nothing z) (λ i. sym there i && sym asleep i)) (awake_if (departed z t).state t (λ key. without_gone t (z.queues key)))

  lock_expires : (k : ℕ) (p : Whole) → g ≡ Calling (OnMutex (TimedLock k)) p → p.phase ≡ at_load → Awake (happens z (Expire t))
  lock_expires k p is phase = subst Awake (sym to) (awake_if (lapsed z t h (OnMutex (TimedLock k)) q).state t (λ key. without_gone t (z.queues key)))
    where
      q : Whole
      q = record p { phase = at_load }

      stands : g ≡ Calling (OnMutex (TimedLock k)) q
      stands = is ∙ (λ i. Calling (OnMutex (TimedLock k)) (record { thread = p.thread; operation = p.operation; head = p.head; entry = p.entry; cell = p.cell; phase = phase i }))

      to : happens z (Expire t) ≡ lapsed z t h (OnMutex (TimedLock k)) q
      to =
          ap (λ (b : Bool). if b then expired z t h g else nothing z) there
          ∙ ap (λ (f : Stage). expired z t h f) stands
          ∙ ap (λ (b : Bool). if true && true && b then lapsed z t h (OnMutex (TimedLock k)) q else nothing z) (sym (ap (sleeps z t) stands) ∙ asleep)

  wait_expires : (k : ℕ) → IsRetaking k at_load g → has_limit g ≡ true → stands_in t (z.queues (counter_place z.layout k)) ≡ true → Awake (happens z (Expire t))
  wait_expires k (o, p, is, of, acts, phase) limit stands = subst Awake (sym to) (awake_if (overslept z t h (condition_of o) p).state t (λ key. without_gone t (z.queues key)))
    where
      timed : is_timed (OnCondition o) ≡ true
      timed = sym (ap has_limit is) ∙ limit

      waits : waits_on z t (condition_of o) ≡ true
      waits = ap (λ (j : ℕ). stands_in t (z.queues (counter_place z.layout j))) of ∙ stands

      to : happens z (Expire t) ≡ overslept z t h (condition_of o) p
      to =
          ap (λ (b : Bool). if b then expired z t h g else nothing z) there
          ∙ ap (λ (f : Stage). expired z t h f) is
          ∙ ap (λ (b : Bool). if b then overslept z t h (condition_of o) p else nothing z) (λ i. timed i && waits i)

  abbrev Ends : List Event → Type 0
  Ends es = is_asleep (run z es) t ≡ false

  ends_row : (r : Row) → StandsAs r g → SleepsLater r → sleeps_timed r ≡ true → Ends (lapse_events x t r)
  ends_row (Row.Asleep k) stands slept timed = subst (λ (b : Bool). Ends (if b then Expire t ∷ [] else [])) (sym timed)
      (let at = subst (λ (i : How). IsToLook k i g) (slept timed) stands in lock_expires (cell_of k.mutex) at.0 at.1 at.2)
  ends_row (Row.WaitAsleep m k n true) stands slept timed = by_test Ends (stands_in t (z.queues (counter_place z.layout k))) (Expire t ∷ []) (Leave t ∷ []) (λ e. wait_expires k stands.0 (stands.1 refl) e) (λ e. leaves)
  ends_row (Row.WaitAsleep m k n false) stands slept timed = absurd cc
  ends_row r stands slept timed = absurd cc

  ends_then : (r : Row) → x.rows t ≡ r → Ends (lapse_events x t r) → is_asleep (next x (Lapses t)).machine t ≡ false
  ends_then r same ends = subst (λ (y : Slots). is_asleep y.machine t ≡ false) (ap (λ (b : Bool). if b then at_row (after x (lapse_events x t (x.rows t))) t (lapse_row (x.rows t)) else x) (sym asleep))
      (subst (λ (q : Row). Ends (lapse_events x t q)) (sym same) ends)

three : (a b d : Bool) → (a && b && d) ≡ true → (a ≡ true) × (b ≡ true) × (d ≡ true)
three true true true e = (refl, refl, refl)
three true true false e = absurd cc
three true false d e = absurd cc
three false b d e = absurd cc

in_sleep_busy : (r : Row) → is_in_sleep r ≡ true → is_resting r ≡ false
in_sleep_busy Row.Rests e = absurd cc
in_sleep_busy r e = refl

alive_asleep : (z : State) (t : ℕ) (f : Stage) → sleeps z t f ≡ true → is_alive f ≡ true
alive_asleep z t (Calling o p) e = refl
alive_asleep z t f e = absurd cc

pub sleeps_end : DeadlinesEndSleeps
sleeps_end l hs t is pos known trusted until none =
    let x : Slots = reached l hs in
    let st : Steady x = steady_run (begin l) hs (begins_steady l is) trusted in
    let here : t ≤ x.machine.layout.threads = subst (λ (k : Layout'). t ≤ k.threads) (sym (layout_then (begin l) hs (begins_steady l is) trusted)) known in
    let all = three (is_asleep x.machine t) (has_deadline (call_so_far l hs t).began) (is_in_sleep (x.rows t)) until in
    let begun = begun_in l hs t is pos known trusted (in_sleep_busy (x.rows t) all.2) in
    let timed = timed_so (call_so_far l hs t).began (call_so_far l hs t).passed (Tells (count_of x) (call_so_far l hs t).signalled) (x.rows t) begun all.1 none all.2 in
    ends_then x t (is_known x.machine t pos here) all.0 (x.rows t) refl
    (ends_row x t (is_known x.machine t pos here) all.0 (x.rows t) (st.there t pos here (alive_asleep x.machine t (x.machine.threads t).stage all.0)) (sleeps_later x.machine.layout t (x.rows t) (x.machine.threads t).stage (st.fits t pos here)) timed)

-- ---- heirs

module _ (x : Slots) (t : ℕ) (c : Choice) (yes : c.yes ≡ true) (inv : Kept x.machine) where
  abbrev cell : ℕ → ℕ
  cell m = shown x (cell_place x.machine.layout (cell_of m))

  never : (a b d : Bool) → d ≡ true → (a && b && not d) ≡ true → ⊥
  never true true true e f = cc f
  never true false true e f = cc f
  never false b true e f = cc f
  never a b false e f = cc e

  over : (k : Taking) → k.timed ≡ true → (k.timed && c.yes) ≡ true
  over k timed = λ i. timed i && yes i

  watched : (k : Taking) (v : ℕ) (done : Bool) → k.timed ≡ true → watches_on (watched_row x t c k v done) ≡ false
  watched k v done timed = by_test (λ (r : Row). watches_on r ≡ false) (done && is_free v) (Row.HeirTakes k v) (if done && not (fields_of v).unusable && not (k.timed && c.yes) then Row.HeirPends k Again else Row.GivesUp k) (λ e. refl)
      (λ e. by_test (λ (r : Row). watches_on r ≡ false) (done && not (fields_of v).unusable && not (k.timed && c.yes)) (Row.HeirPends k Again) (Row.GivesUp k) (λ f. absurd (never done (not (fields_of v).unusable) (k.timed && c.yes) (over k timed) f)) (λ f. refl))

  two : (d : Bool) (n o : Made) → watches_on n.next ≡ false → watches_on o.next ≡ false → watches_on (if d then n else o).next ≡ false
  two true n o first second = first
  two false n o first second = second

  watch_row : (b : Row) (p : Bool) (T : ℕ → ℕ → Type 0) (r : Row) → AsBegun b p T r → has_deadline b ≡ true → has_watched r ≡ true → watches_on (made x t c r).next ≡ false
  watch_row b p T (Row.HeirPendsOn k v done) f has on = watched k v done (sym f.1.1 ∙ has)
  watch_row b p T (Row.HeirTakes k v) f has on = two (cell k.mutex == v) _ _ refl (watched k (cell k.mutex) true (sym f.1.1 ∙ has))
  watch_row b p T r f has on = absurd cc

  times_out : (k : Taking) → k.timed ≡ true → late x t c k ≡ Decides (decided t k.mutex op.TimedLock ETIMEDOUT)
  times_out k timed = ap (λ (b : Bool). if b then Decides (decided t k.mutex op.TimedLock ETIMEDOUT) else Nothing) (over k timed)

  owned_by : (a b d : Bool) → (not a && not b && d) ≡ true → (a ≡ false) × (d ≡ true)
  owned_by false false true e = (refl, refl)
  owned_by false false false e = absurd cc
  owned_by false true d e = absurd cc
  owned_by true b d e = absurd cc

  look_row : (b : Row) (p : Bool) (T : ℕ → ℕ → Type 0) (r : Row) → Fits x.machine.layout t r (x.machine.threads t).stage → AsBegun b p T r → has_deadline b ≡ true → sees_it_owned x t r ≡ true
      → deed x t c r ≡ Decides (decided t (about r) op.TimedLock ETIMEDOUT)
  look_row b p T (Row.LastLooks k) o f has on = (λ i. if usable i then locks t k.mutex ENOTRECOVERABLE else if some i then Nothing else if waits i then late x t c k else Nothing) ∙ times_out k (sym f.1.1 ∙ has)
    where
      inside : cell_of k.mutex < x.machine.layout.mutexes
      inside = our_cell x.machine.layout k.mutex o.ours

      says : Says (x.machine.words (cell_place x.machine.layout (cell_of k.mutex))) (cell k.mutex)
      says = cell_says x k.mutex inside

      both : (((fields_at x.machine (cell_of k.mutex)).owner == 0) ≡ false) × ((fields_at x.machine (cell_of k.mutex)).waiters ≡ true)
      both = owned_by ((fields_at x.machine (cell_of k.mutex)).owner == 0) ((fields_at x.machine (cell_of k.mutex)).owner == t) (fields_at x.machine (cell_of k.mutex)).waiters on

      none : (fields_at x.machine (cell_of k.mutex)).owner ≢ 0
      none e = cc (sym both.0 ∙ eq-eqb (fields_at x.machine (cell_of k.mutex)).owner 0 e)

      usable : (fields_of (cell k.mutex)).unusable ≡ false
      usable = says.unusable ∙ usable_if_owned x.machine (cell_of k.mutex) inv inside none

      some : ((fields_of (cell k.mutex)).owner == 0) ≡ false
      some = ap (λ (n : ℕ). n == 0) says.owner ∙ both.0

      waits : (fields_of (cell k.mutex)).waiters ≡ true
      waits = says.waiters ∙ both.1
  look_row b p T (Row.LastMarks k v) o f has on = ap (λ (d : Bool). if d then late x t c k else Nothing) on ∙ times_out k (sym f.1.1 ∙ has)
  look_row b p T r o f has on = absurd cc

  watching_busy : (r : Row) → has_watched r ≡ true → is_resting r ≡ false
  watching_busy Row.Rests e = absurd cc
  watching_busy r e = refl

  looking_busy : (r : Row) → sees_it_owned x t r ≡ true → is_resting r ≡ false
  looking_busy Row.Rests e = absurd cc
  looking_busy r e = refl

pub heirs_give_up : LateHeirsGiveUp
heirs_give_up l hs t c is pos known trusted has passed =
    let x : Slots = reached l hs in
    let st : Steady x = steady_run (begin l) hs (begins_steady l is) trusted in
    let inv : Kept x.machine = reached_kept x.machine st.reached in
    let here : t ≤ x.machine.layout.threads = subst (λ (k : Layout'). t ≤ k.threads) (sym (layout_then (begin l) hs (begins_steady l is) trusted)) known in record {
      watch = λ on. watch_row x t c passed inv (call_so_far l hs t).began (call_so_far l hs t).passed (Tells (count_of x) (call_so_far l hs t).signalled) (x.rows t)
          (begun_in l hs t is pos known trusted (watching_busy x t c passed inv (x.rows t) on)) has on;
      look = λ on. look_row x t c passed inv (call_so_far l hs t).began (call_so_far l hs t).passed (Tells (count_of x) (call_so_far l hs t).signalled) (x.rows t) (st.fits t pos here)
          (begun_in l hs t is pos known trusted (looking_busy x t c passed inv (x.rows t) on)) has on;
    }
