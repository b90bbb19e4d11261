-- The points of our calls, and deaths, are one legal history in every run.
use Rattle.std.proofs.Common.{◌≡◌, ◌≢◌, ℕ, ◌*◌, ◌/◌, ◌%◌, ◌<◌, ◌≤◌, ◌==◌, Bool, true, false, Option, Some, None, List, [], ◌∷◌, ◌++◌, map, refl, sym, ap, ◌∙◌, subst, arith}
use Rattle.std.specs.Prelude.{if◌then◌else◌, not, ◌&&◌, nat_lt}
use Rattle.std.proofs.lemmas.Bool.{eqb-false}
use Rattle.lockword.specs.declared.reply.Reply.TheVariants.{OK}
use Rattle.memorymap.specs.Layouts.{Layout', address_in, cell_place, counter_place, head_place}
use Rattle.condvar.specs.Calls.{condition_of}
use Rattle.condvar.specs.declared.op.Op.TheVariants.{OnMutex, OnCondition}
use Rattle.exitwalk.specs.Standings as walks
use Rattle.exitwalk.specs.Walks as exit
use Rattle.mutex.specs.Whole.{may_expire}
use Rattle.posixmutex.specs.declared.object.Object.{Object}
use Rattle.posixmutex.specs.declared.point.Decision.{Decision}
use Rattle.posixmutex.specs.declared.point.Operation.TheVariants as op
use Rattle.posixmutex.specs.Objects.{Does, fresh}
use Rattle.posixmutex.specs.Histories.{Legal, held_by, opening}
use Rattle.facts.specs.declared.fact.Fact.TheVariants.{Wake}
use Rattle.protocol.specs.Headline.{points_of, seen}
use Rattle.protocol.specs.Notes.{death_facts, facts_of, reap_facts}
use Rattle.protocol.specs.declared.event.Event.{Event}
use Rattle.protocol.specs.declared.event.Event.TheVariants.{Expire, Kill, Leave, Renew, Step}
use Rattle.protocol.specs.declared.thread.Stage.{Stage}
use Rattle.protocol.specs.declared.thread.Stage.TheVariants.{AtCondition, Calling, Dying, Idle, Reaped}
use Rattle.protocol.specs.Machine.{State, After, answer_of, death_at, departed, has_ended, woken, expired, happens, has_thread, is_alive, is_asleep, is_dying, is_exiting, is_gone, is_timed, killed, lapsed, nothing, overslept, place_met, renewed, run, sleeps, stands_in, stepped, waits_on}
use Rattle.protocol.proofs.Queued.{in_none}
use Rattle.protocol.proofs.Renewals.{renewed_seen}
use Rattle.protocol.proofs.Runs.{seen-start, sound}
use Rattle.protocol.proofs.Runs as machine
use Rattle.slots.specs.Places.{cell_of, is_slot, our_mutexes, our_own}
use Rattle.slots.specs.Rows.{Choice, Row}
use Rattle.slots.specs.Shown.{Slots, after, begin}
use Rattle.slots.specs.Table.{access_of_stage, made}
use Rattle.slots.specs.Runs.{Happening, at_row, events_of, is_resting, lapse_events, lapse_row, made_by, may_call, next, reached_from}
use Rattle.slots.specs.Runs.Happening.{Calls, Goes, Interrupts, Lapses, Dies, Walks, Lives}
use Rattle.slots.specs.Accesses.{IsAlongList, IsAtRow}
use Rattle.slots.specs.Fits.{IsOurs}
use Rattle.slots.specs.Goes.{Grants, who}
use Rattle.slots.specs.Premises.{AllTrusted, TrustsIn}
use Rattle.slots.specs.Replies.{CallsAreOneHistory, decided, deed, is_ours_too, our_objects, ours_among, points_by, points_in, points_of_run}
use Rattle.slots.proofs.AllRows.{layout_run}
use Rattle.slots.proofs.Each.{each_access}
use Rattle.slots.proofs.Following.{begins_steady, steady_next}
use Rattle.slots.proofs.Free.{reached_kept, reached_queued}
use Rattle.slots.proofs.Keeping.{dying_at}
use Rattle.slots.proofs.Leading.{by_test}
use Rattle.slots.proofs.ListPlaces.{list_apart}
use Rattle.slots.proofs.MachineRuns.{next_is}
use Rattle.slots.proofs.OurObjects.{Told, inside_if, lt_true, held_same, not_ours, our_seen}
use Rattle.slots.proofs.Points.{told_row}
use Rattle.slots.proofs.Steady.{Steady, granted, may_go, small}

-- ---- deaths

woken_points : (us : List ℕ) (t : ℕ) (b : Bool) → points_of (map Wake us ++ reap_facts t b) ≡ []
woken_points [] t true = refl
woken_points [] t false = refl
woken_points (u ∷ us) t b = woken_points us t b

module _ (s s' : State) (same : s'.layout ≡ s.layout) where
  abbrev l : Layout'
  l = s.layout

  -- our mutexes are as before, if the machine's are
  all_same : ((k : ℕ) → seen s' k ≡ seen s k) → Told s [] s'
  all_same all m = go (nat_lt m (our_mutexes l)) refl
    where
      go : (b : Bool) → nat_lt m (our_mutexes l) ≡ b → our_objects s' m ≡ our_objects s m
      go true e = our_seen s' m (subst (λ (j : Layout'). IsOurs j m) (sym same) (inside_if m (our_mutexes l) e)) ∙ all (cell_of m) ∙ sym (our_seen s m (inside_if m (our_mutexes l) e))
      go false e = not_ours s' m (ap (λ (j : Layout'). nat_lt m (our_mutexes j)) same ∙ e) ∙ sym (not_ours s m e)

  but_one : (k m : ℕ) → ((j : ℕ) → j ≢ k → seen s' j ≡ seen s j) → (IsOurs l m → cell_of m ≢ k) → our_objects s' m ≡ our_objects s m
  but_one k m others apart = go (nat_lt m (our_mutexes l)) refl
    where
      go : (b : Bool) → nat_lt m (our_mutexes l) ≡ b → our_objects s' m ≡ our_objects s m
      go true e = let ours = inside_if m (our_mutexes l) e in our_seen s' m (subst (λ (j : Layout'). IsOurs j m) (sym same) ours) ∙ others (cell_of m) (apart ours) ∙ sym (our_seen s m ours)
      go false e = not_ours s' m (ap (λ (j : Layout'). nat_lt m (our_mutexes j)) same ∙ e) ∙ sym (not_ours s m e)

  cell_is : (k : ℕ) → is_ours_too l k ≡ true → (cell_of (our_own k) ≡ k) × IsOurs l (our_own k)
  cell_is k e = go (is_slot k) (nat_lt (our_own k) (our_mutexes l)) refl refl e
    where
      go : (a b : Bool) → is_slot k ≡ a → nat_lt (our_own k) (our_mutexes l) ≡ b → (not a && b) ≡ true → (cell_of (our_own k) ≡ k) × IsOurs l (our_own k)
      go false true f g h = let no : k % 2 ≢ 1 = eqb-false (k % 2) 1 f in (omega (arith, no), inside_if (our_own k) (our_mutexes l) g)
      go true b f g h = absurd cc
      go false false f g h = absurd cc

  is_cell : (m : ℕ) → IsOurs l m → is_ours_too l (cell_of m) ≡ true
  is_cell m ours = (λ i. not (even i) && nat_lt (half i) (our_mutexes l)) ∙ lt_true m (our_mutexes l) ours
    where
      even : is_slot (cell_of m) ≡ false
      even = ap (λ (n : ℕ). n == 1) (let e : 2 * m % 2 ≡ 0 = omega arith in e)

      half : our_own (cell_of m) ≡ m
      half = let e : 2 * m / 2 ≡ m = omega arith in e

  death_told : (t k : ℕ) → machine.Told s (decided t k op.Death OK ∷ []) s' → Told s (ours_among l (decided t k op.Death OK ∷ [])) s'
  death_told t k (inside, does, others, none) = go (is_ours_too l k) refl
    where
      go : (b : Bool) → is_ours_too l k ≡ b → Told s (if b then decided t (our_own k) op.Death OK ∷ [] else []) s'
      go true e = let is = cell_is k e in (
        is.1,
        subst (λ (o : Object). Does (held_by t (our_objects s) (our_mutexes l)) o t op.Death OK (our_objects s' (our_own k))) (sym (our_seen s (our_own k) is.1 ∙ ap (seen s) is.0))
            (subst (λ (o : Object). Does (held_by t (our_objects s) (our_mutexes l)) (seen s k) t op.Death OK o) (sym (our_seen s' (our_own k) (subst (λ (j : Layout'). IsOurs j (our_own k)) (sym same) is.1) ∙ ap (seen s') is.0)) does),
        (λ m apart. but_one k m others (λ ours f. apart (let g : 2 * m ≡ k = f in let h : our_own k ≡ k / 2 = refl in omega (arith, g, h)))),
        refl,
      )
      go false e = λ m. but_one k m others (λ ours f. cc (sym (is_cell m ours) ∙ ap (is_ours_too l) f ∙ e))

  walk_told : (t : ℕ) (death : Option ℕ) (us : List ℕ) (b : Bool) → machine.Told s (points_of (death_facts t death ++ (map Wake us ++ reap_facts t b))) s' → Told s (ours_among l (points_of (death_facts t death ++ (map Wake us ++ reap_facts t b)))) s'
  walk_told t None us b told = subst (λ (ds : List Decision). Told s (ours_among l ds) s') (sym (woken_points us t b)) (all_same (subst (λ (ds : List Decision). machine.Told s ds s') (woken_points us t b) told))
  walk_told t (Some k) us b told = subst (λ (ds : List Decision). Told s (ours_among l (decided t k op.Death OK ∷ ds)) s') (sym (woken_points us t b)) (death_told t k (subst (λ (ds : List Decision). machine.Told s (decided t k op.Death OK ∷ ds) s') (woken_points us t b) told))

-- ---- one happening

second_of : (a b : Bool) → (a && b) ≡ true → b ≡ true
second_of true b e = e
second_of false b e = absurd cc

module _ (x : Slots) (t : ℕ) (pos : 1 ≤ t) (known : t ≤ x.machine.layout.threads) (s : Steady x) where
  abbrev z : State
  z = x.machine

  abbrev g : Stage
  g = (x.machine.threads t).stage

  abbrev Quiet : After → Type 0
  Quiet a = (m : ℕ) → our_objects a.state m ≡ our_objects z m

  leave_told : Quiet (happens z (Leave t))
  leave_told = by_test Quiet (has_thread z t && is_asleep z t) (departed z t) (nothing z) (λ e m. refl) (λ e m. refl)

  kill_told : Quiet (happens z (Kill t))
  kill_told = by_test Quiet (has_thread z t && is_alive g) (killed z t) (nothing z) (λ e m. refl) (λ e m. refl)

  expired_told : (f : Stage) → Quiet (expired z t (z.threads t).held f)
  expired_told (Calling (OnMutex o) q) = by_test Quiet (is_timed (OnMutex o) && may_expire q.phase && sleeps z t (Calling (OnMutex o) q)) (lapsed z t (z.threads t).held (OnMutex o) q) (nothing z) (λ e m. refl) (λ e m. refl)
  expired_told (Calling (OnCondition o) q) = by_test Quiet (is_timed (OnCondition o) && waits_on z t (condition_of o)) (overslept z t (z.threads t).held (condition_of o) q) (nothing z) (λ e m. refl) (λ e m. refl)
  expired_told Idle = λ m. refl
  expired_told (AtCondition o q) = λ m. refl
  expired_told (Dying w) = λ m. refl
  expired_told Reaped = λ m. refl

  expire_told : Quiet (happens z (Expire t))
  expire_told = by_test Quiet (has_thread z t) (expired z t (z.threads t).held g) (nothing z) (λ e. expired_told g) (λ e m. refl)

  renew_told : Quiet (happens z (Renew t))
  renew_told = by_test Quiet (has_thread z t && is_gone g) (renewed z t) (nothing z) (λ e. all_same z (renewed z t).state refl (λ k. renewed_seen z t pos known k)) (λ e m. refl)

  lapse_told : (r : Row) (m : ℕ) → our_objects (run z (lapse_events x t r)) m ≡ our_objects z m
  lapse_told (Row.Asleep k) m = by_test (λ (es : List Event). our_objects (run z es) m ≡ our_objects z m) k.timed (Expire t ∷ []) [] (λ e. expire_told m) (λ e. refl)
  lapse_told (Row.WaitAsleep j k n true) m = by_test (λ (es : List Event). our_objects (run z es) m ≡ our_objects z m) (stands_in t (z.queues (counter_place z.layout k))) (Expire t ∷ []) (Leave t ∷ []) (λ e. expire_told m) (λ e. leave_told m)
  lapse_told (Row.WaitAsleep j k n false) m = refl
  lapse_told r m = refl

  first_of : (a b : Bool) → (a && b) ≡ true → a ≡ true
  first_of true b f = refl
  first_of false b f = absurd cc

  walks_there : is_dying z t ≡ true → Told z (ours_among z.layout (points_of (facts_of (happens z (Step t)).note))) (happens z (Step t)).state
  walks_there e = let at = dying_at g (second_of (has_thread z t) (is_exiting g) e) in walked_by at.0 at.1
    where
      walked_by : (w : walks.Standing) → g ≡ Dying w → Told z (ours_among z.layout (points_of (facts_of (happens z (Step t)).note))) (happens z (Step t)).state
      walked_by w is = subst (λ (a : After). machine.Told z (points_of (facts_of a.note)) (happens z (Step t)).state → Told z (ours_among z.layout (points_of (facts_of a.note))) (happens z (Step t)).state) (sym goes)
          (walk_told z (happens z (Step t)).state (sound z (Step t) (reached_kept z s.reached)).same t (death_at z.layout t (exit.point_of w.thread w.row (answer_of z t (exit.access_of w)))) (woken z t (exit.access_of w)) (has_ended (exit.row_after w.thread w.head w.row (answer_of z t (exit.access_of w)))))
          (sound z (Step t) (reached_kept z s.reached)).told
        where
          goes : happens z (Step t) ≡ stepped z t (z.threads t).held (Dying w)
          goes = ap (λ (b : Bool). if b then stepped z t (z.threads t).held g else nothing z) (first_of (has_thread z t) (is_exiting g) e) ∙ ap (stepped z t (z.threads t).held) is

  module _ (c : Choice) (w : TrustsIn x (Goes t c)) where
    abbrev y : Slots
    y = made_by x t c (made x t c (x.rows t))

    list_access : (r : Row) → IsAlongList r → ((at k : ℕ) → k < z.layout.mutexes → cell_place z.layout k ≢ place_met z.layout t (access_of_stage g at)) → (k : ℕ) → k < z.layout.mutexes → cell_place z.layout k ≢ place_met z.layout t (made x t c r).access
    list_access (Row.Links m r) along apart k inside = apart (address_in z.layout t (head_place t)) k inside
    list_access (Row.SlotLinks j d) along apart k inside = apart (address_in z.layout t (head_place t)) k inside
    list_access (Row.HeirLinks j r) along apart k inside = apart (address_in z.layout t (head_place t)) k inside
    list_access (Row.FreeUnlinks j f) along apart k inside = apart (address_in z.layout t (head_place t)) k inside
    list_access (Row.GiveUnlinks m v) along apart k inside = apart (address_in z.layout t (head_place t)) k inside
    list_access r along apart k inside = absurd along

    goes_there : is_alive g ≡ true → is_asleep z t ≡ false → Told z (points_in (deed x t c (x.rows t))) y.machine
    goes_there lives awake = told_row x y t c (reached_kept z s.reached) pos known (small z t (reached_kept z s.reached) known) (layout_run z (made x t c (x.rows t)).events (reached_kept z s.reached))
        (x.rows t) g (s.fits t pos known) (s.owning t pos known) grant.1 (s.room t pos known) (λ along. list_access (x.rows t) along (list_apart z t (reached_kept z s.reached) pos known (x.rows t) along (s.there t pos known lives))) (λ none. ap (λ (es : List Event). run z es) none)
        (each_access x t c at grant.1).words
      where
        grant : Grants x (Goes t c)
        grant = granted x t pos known s c w

        at : IsAtRow x t
        at = record { reached = s.reached; first = pos; last = known; there = s.there t pos known lives; about = grant.0; out = in_none z t (reached_queued z s.reached) awake }

    go_told : Told z (points_by x (Goes t c)) (next x (Goes t c)).machine
    go_told = go (has_thread z t && is_alive g && not (is_asleep z t)) refl
      where
        go : (b : Bool) → (has_thread z t && is_alive g && not (is_asleep z t)) ≡ b → Told z (if b then points_in (deed x t c (x.rows t)) else []) (if b then y else x).machine
        go true e = let may = may_go (has_thread z t) (is_alive g) (is_asleep z t) e in goes_there may.0 may.1
        go false e = λ m. refl

  walk_by : Told z (points_by x (Walks t)) (next x (Walks t)).machine
  walk_by = go (is_dying z t) refl
    where
      go : (b : Bool) → is_dying z t ≡ b → Told z (if b then ours_among z.layout (points_of (facts_of (happens z (Step t)).note)) else []) (if b then after x (Step t ∷ []) else x).machine
      go true e = walks_there e
      go false e = λ m. refl

pub told : (x : Slots) (h : Happening) → Steady x → 1 ≤ who h → who h ≤ x.machine.layout.threads → TrustsIn x h → Told x.machine (points_by x h) (next x h).machine
told x (Calls t r) s pos known w = λ m. by_test (λ (y : Slots). our_objects y.machine m ≡ our_objects x.machine m) (has_thread x.machine t && is_alive (x.machine.threads t).stage && is_resting (x.rows t) && may_call x.machine.layout (x.machine.threads t).held r) (at_row x t r) x (λ e. refl) (λ e. refl)
told x (Goes t c) s pos known w = go_told x t pos known s c w
told x (Interrupts t) s pos known w = leave_told x t pos known s
told x (Lapses t) s pos known w = λ m. by_test (λ (y : Slots). our_objects y.machine m ≡ our_objects x.machine m) (is_asleep x.machine t) (at_row (after x (lapse_events x t (x.rows t))) t (lapse_row (x.rows t))) x (λ e. lapse_told x t pos known s (x.rows t) m) (λ e. refl)
told x (Dies t) s pos known w = λ m. by_test (λ (y : Slots). our_objects y.machine m ≡ our_objects x.machine m) (has_thread x.machine t && is_alive (x.machine.threads t).stage) (at_row (after x (Kill t ∷ [])) t Row.Rests) x (λ e. kill_told x t pos known s m) (λ e. refl)
told x (Walks t) s pos known w = walk_by x t pos known s
told x (Lives t) s pos known w = renew_told x t pos known s

-- ---- runs

legal_told : (s s' : State) (ds rest : List Decision) (old new : ℕ → Object) → Told s ds s' → ((m : ℕ) → old m ≡ our_objects s m) → ((now : ℕ → Object) → ((m : ℕ) → now m ≡ our_objects s' m) → Legal (our_mutexes s.layout) now rest new) → Legal (our_mutexes s.layout) old (ds ++ rest) new
legal_told s s' [] rest old new tells same further = further old (λ m. same m ∙ sym (tells m))
legal_told s s' (d ∷ ds) rest old new tells same further = (
  tells.0,
  (
    our_objects s',
    subst (λ (o : Object). Does (held_by d.thread old (our_mutexes s.layout)) o d.thread d.operation d.reply (our_objects s' d.mutex)) (sym (same d.mutex))
        (subst (λ (h : ℕ). Does h (our_objects s d.mutex) d.thread d.operation d.reply (our_objects s' d.mutex)) (sym (held_same d.thread (our_mutexes s.layout) (our_objects s) old (λ m lt. same m))) tells.1),
    (λ m apart. tells.2 m apart ∙ sym (same m)),
    subst (λ (ds : List Decision). Legal (our_mutexes s.layout) (our_objects s') (ds ++ rest) new) (sym tells.3) (further (our_objects s') (λ m. refl)),
  ),
)

history : (x : Slots) (hs : List Happening) → Steady x → AllTrusted x hs → (old : ℕ → Object) → ((m : ℕ) → old m ≡ our_objects x.machine m) → Legal (our_mutexes x.machine.layout) old (points_of_run x hs) (our_objects (reached_from x hs).machine)
history x [] s trusted old same = λ m. sym (same m)
history x (h ∷ hs) s ((pos, known, w), trusted) old same = legal_told x.machine (next x h).machine (points_by x h) (points_of_run (next x h) hs) old (our_objects (reached_from (next x h) hs).machine) (told x h s pos known w) same
    (λ now is. subst (λ (l : Layout'). Legal (our_mutexes l) now (points_of_run (next x h) hs) (our_objects (reached_from (next x h) hs).machine)) layout (history (next x h) hs (steady_next x h s pos known w) trusted now is))
  where
    layout : (next x h).machine.layout ≡ x.machine.layout
    layout = ap (λ (z : State). z.layout) (next_is x h) ∙ layout_run x.machine (events_of x h) (reached_kept x.machine s.reached)

opening_is : (l : Layout') (m : ℕ) → opening m ≡ our_objects (begin l).machine m
opening_is l m = go (nat_lt m (our_mutexes l)) refl
  where
    go : (b : Bool) → nat_lt m (our_mutexes l) ≡ b → fresh ≡ our_objects (begin l).machine m
    go true e = sym (our_seen (begin l).machine m (inside_if m (our_mutexes l) e) ∙ seen-start l (λ c. 0) (cell_of m))
    go false e = sym (not_ours (begin l).machine m e)

pub one_history : CallsAreOneHistory
one_history l hs is trusted = history (begin l) hs (begins_steady l is) trusted opening (opening_is l)
