-- What a run keeps at each happening, of the thread to which it happens.
use Rattle.std.proofs.Common.{◌≡◌, ◌≢◌, ◌⊎◌, inl, inr, ℕ, ◌<◌, ◌≤◌, Bool, true, false, List, [], ◌∷◌, refl, sym, ap, ◌∙◌, subst, arith}
use Rattle.std.specs.Prelude.{if◌then◌else◌, not, ◌&&◌}
use Rattle.memorymap.specs.Layouts.{Layout', address_in, cell_place, counter_place, head_place}
use Rattle.protocol.specs.declared.event.Event.{Event}
use Rattle.protocol.specs.declared.event.Event.TheVariants.{Step, Kill, Leave, Expire}
use Rattle.protocol.specs.declared.thread.Stage.{Stage}
use Rattle.protocol.specs.declared.thread.Stage.TheVariants.{AtCondition, Calling, Dying, Idle, Reaped}
use Rattle.protocol.specs.declared.thread.Thread.{Thread}
use Rattle.mutex.specs.Whole.{may_expire}
use Rattle.condvar.specs.Calls.{condition_of}
use Rattle.condvar.specs.declared.op.Op.TheVariants.{OnMutex, OnCondition}
use Rattle.slots.specs.Rows.How.{Later}
use Rattle.protocol.specs.Machine.{After, State, departed, expired, has_thread, is_alive, is_asleep, is_dying, is_exiting, is_gone, is_timed, lapsed, nothing, overslept, place_met, renewed, run, sleeps, stands_in, waits_on, words_after}
use Rattle.protocol.proofs.Kept.{Kept, last_thread}
use Rattle.protocol.proofs.Events.{is_known}
use Rattle.protocol.proofs.Puts.{put-same}
use Rattle.protocol.proofs.Queued.{in_none}
use Rattle.protocol.proofs.Counters.{Counted}
use Rattle.protocol.proofs.Renewals.{renewed_cell}
use Rattle.slots.specs.Stores.{Released}
use Rattle.slots.proofs.Slept.{CountsOn, SeesSlept, queue_at}
use Rattle.slots.proofs.CountersKept.{count_at}
use Rattle.slots.specs.Premises.{KnowsSlept}
use Rattle.std.specs.Prelude.{length}
use Rattle.slots.specs.Premises.{SeesCount, KnowsItsTurn, HeirTakesOver, MayOwnMore, SlotsAreQuiet, Owning, Trusts}
use Rattle.slots.specs.Places.{slot_of}
use Rattle.slots.specs.Rows.{Choice, Giving, How, Row, Taking}
use Rattle.slots.specs.Rows.Giving.{OfUnlock, OfWait}
use Rattle.slots.specs.Shown.{memory, shown, Slots, after}
use Rattle.slots.specs.Table.{access_of_stage, made}
use Rattle.slots.specs.Runs.{at_row, is_resting, lapse_events, lapse_row, made_by, may_call, next, awake_after}
use Rattle.slots.specs.Runs.Happening.{Calls, Goes, Interrupts, Lapses, Dies, Walks, Lives}
use Rattle.slots.specs.Laws.{IsReached}
use Rattle.slots.specs.Stands.{HasSlot, StandsAs}
use Rattle.slots.specs.Invariant.{HeirsAnswer}
use Rattle.slots.specs.Accesses.{IsAboutIt, IsAlongList, IsAtRow}
use Rattle.slots.specs.Each.{Assumes}
use Rattle.slots.specs.Goes.{AssumesToo, Grants, IsAtItsRow}
use Rattle.slots.specs.Fits.{IsOurs, Fits, GivesOurs}
use Rattle.slots.proofs.Abouts.{about_it, wakes_its_own}
use Rattle.slots.proofs.Alive.{standing_lives}
use Rattle.slots.proofs.AllRows.{layout_run, reached_run}
use Rattle.slots.proofs.Allowed.{apart_row, assume_row, assume_too, may_own, sleeps_later}
use Rattle.slots.proofs.CallsFit.{calls_fit}
use Rattle.slots.proofs.FitsOn.{next_rows_fit}
use Rattle.slots.proofs.Free.{reached_kept, reached_queued}
use Rattle.slots.proofs.Keeping.{all_four, dying_at, lapses_so, rests_at}
use Rattle.slots.proofs.HeldRows.{Few, RoomAt, first_room, room_row}
use Rattle.slots.proofs.Leading.{by_test}
use Rattle.slots.proofs.LeadsOn.{rows_lead}
use Rattle.slots.proofs.Each.{each_access}
use Rattle.slots.proofs.ListPlaces.{list_apart}
use Rattle.slots.proofs.OthersKeep.{owning_kept}
use Rattle.slots.proofs.OwnKeep.{owning_row}
use Rattle.slots.proofs.Quiet.{Alike, quiet_row}
use Rattle.slots.proofs.PlainSlots.{ArePlain, IsPlain, alike_plain, expire_plain, kill_plain, leave_plain, plain_quiet, still_plain, walk_plain}
use Rattle.slots.proofs.TakesOver.{taken_over}
use Rattle.slots.proofs.Watched.{OwnWatched, called_watched, died_watched, gone_watched, heirs_of_all, late_watched, left_watched, new_watched, walked_watched}
use Rattle.slots.proofs.Watching.{alone_row, calm_row, free_row, heir_row}
use Rattle.slots.proofs.Rooms.{words_sound}
use Rattle.slots.proofs.Owned.{our_slot}

-- Each row fits, each living thread is at its row, and a dead thread at none. Each owns what its row says, and so few mutexes
-- as its row says, and has seen its counter as it is. Slots have neither WAITERS nor UNUSABLE, and heirs answer
pub record Steady (x : Slots) : Type 0 where
  pub reached : IsReached x.machine
  pub fits : (t : ℕ) → 1 ≤ t → t ≤ x.machine.layout.threads → Fits x.machine.layout t (x.rows t) (x.machine.threads t).stage
  pub there : (t : ℕ) → 1 ≤ t → t ≤ x.machine.layout.threads → IsAtItsRow x t
  pub rests : (t : ℕ) → 1 ≤ t → t ≤ x.machine.layout.threads → is_alive (x.machine.threads t).stage ≡ false → x.rows t ≡ Row.Rests
  pub owning : (t : ℕ) → 1 ≤ t → t ≤ x.machine.layout.threads → Owning x.machine t (x.rows t)
  pub plain : ArePlain x.machine
  pub turns : (t : ℕ) → 1 ≤ t → t ≤ x.machine.layout.threads → KnowsItsTurn x (x.rows t)
  pub room : (t : ℕ) → 1 ≤ t → t ≤ x.machine.layout.threads → RoomAt (x.machine.threads t).held (x.rows t)
  pub sees : (t : ℕ) → 1 ≤ t → t ≤ x.machine.layout.threads → SeesCount x (x.rows t)
  pub counts : Counted x.machine
  pub slept : (t : ℕ) → 1 ≤ t → t ≤ x.machine.layout.threads → SeesSlept x (x.rows t)
  pub empty : (k : ℕ) → k < length x.machine.layout.conditions → x.slept k ≡ false → queue_at x k ≡ []
  pub later : (v u k n : ℕ) → 1 ≤ v → v ≤ x.machine.layout.threads → 1 ≤ u → u ≤ x.machine.layout.threads → CountsOn (x.rows v) k → Released (x.rows u) k n → n < count_at x k
  pub watched : (t : ℕ) → 1 ≤ t → t ≤ x.machine.layout.threads → OwnWatched x.machine x.awake t (x.rows t)

pub may_go : (a d e : Bool) → (a && d && not e) ≡ true → (d ≡ true) × (e ≡ false)
may_go true true false same = (refl, refl)
may_go true true true same = absurd cc
may_go true false e same = absurd cc
may_go false d e same = absurd cc

gives_ours : (l : Layout') (m : ℕ) (y : Giving) → GivesOurs l m y → IsOurs l m
gives_ours l m (OfUnlock d) o = o
gives_ours l m (OfWait k n slept timed) o = o.ours

-- ---- one happening

pub small : (s : State) (t : ℕ) → Kept s → t ≤ s.layout.threads → t < 1073741824
small s t inv known = let most = last_thread s t inv known in omega (arith, most)

module _ (x : Slots) (t : ℕ) (pos : 1 ≤ t) (known : t ≤ x.machine.layout.threads) (s : Steady x) where
  abbrev z : State
  z = x.machine

  abbrev g : Stage
  g = (z.threads t).stage

  fit : Fits z.layout t (x.rows t) g
  fit = s.fits t pos known

  here : IsAtItsRow x t
  here = s.there t pos known

  resting : is_alive g ≡ false → x.rows t ≡ Row.Rests
  resting = s.rests t pos known

  own : Owning z t (x.rows t)
  own = s.owning t pos known

  quiet : SlotsAreQuiet z
  quiet = plain_quiet z s.reached s.plain

  knows : KnowsItsTurn x (x.rows t)
  knows = s.turns t pos known

  room : RoomAt (z.threads t).held (x.rows t)
  room = s.room t pos known

  seen_over : OwnWatched z x.awake t (x.rows t)
  seen_over = s.watched t pos known

  answer : HeirsAnswer x
  answer = heirs_of_all x (reached_kept z s.reached) s.watched

  takes_over : (r : Row) → StandsAs r g → Fits z.layout t r g → HeirTakesOver x t r
  takes_over (Row.HandsOn m y is) there o = let ours = gives_ours z.layout m y o in taken_over x t m y s.reached o there ((words_sound z s.reached).room (slot_of m) (our_slot z.layout m ours)) (quiet m ours) answer
  takes_over r there o = tt

  pub heir_over : HeirTakesOver x t (x.rows t)
  heir_over = go (is_alive g) refl
    where
      go : (b : Bool) → is_alive g ≡ b → HeirTakesOver x t (x.rows t)
      go true lives = takes_over (x.rows t) (here lives) fit
      go false dead = subst (HeirTakesOver x t) (sym (resting dead)) tt

  pub more : MayOwnMore x t (x.rows t)
  more = go (is_alive g) refl
    where
      go : (b : Bool) → is_alive g ≡ b → MayOwnMore x t (x.rows t)
      go true lives = may_own x t s.reached pos known (x.rows t) (here lives) fit room
      go false dead = subst (MayOwnMore x t) (sym (resting dead)) tt

  silent_at : (r : Row) → Fits z.layout t r g → KnowsSlept x r
  silent_at (Row.Counts m k all n) o = s.empty k o.cell.inside
  silent_at r o = tt

  pub silent : KnowsSlept x (x.rows t)
  silent = silent_at (x.rows t) fit

  pub granted : (c : Choice) → Trusts x t (x.rows t) → Grants x (Goes t c)
  granted c w = go (is_alive g) refl
    where
      go : (b : Bool) → is_alive g ≡ b → Grants x (Goes t c)
      go true lives = (about_it z.layout t (x.rows t) g fit (here lives), assume_row x t s.reached pos known (x.rows t) (here lives) fit own quiet knows more (s.sees t pos known) silent w, assume_too x t s.reached pos known (x.rows t) fit own quiet knows heir_over (s.sees t pos known) s.counts w)
      go false dead = (
        subst (λ (r : Row). IsAboutIt z.layout r g) (sym (resting dead)) tt,
        subst (Assumes x t) (sym (resting dead)) tt,
        subst (AssumesToo x t) (sym (resting dead)) tt,
      )

  -- how its row fits afterwards, in the same layout
  abbrev FitsIn : Slots → Type 0
  FitsIn y = Fits z.layout t (y.rows t) (y.machine.threads t).stage

  abbrev RestsIn : Slots → Type 0
  RestsIn y = is_alive (y.machine.threads t).stage ≡ false → y.rows t ≡ Row.Rests

  abbrev pub Both : Slots → Type 0
  Both y = FitsIn y × RestsIn y × Owning y.machine t (y.rows t) × ((m : ℕ) → IsOurs z.layout m → IsPlain y.machine m) × RoomAt (y.machine.threads t).held (y.rows t) × OwnWatched y.machine y.awake t (y.rows t)

  unchanged : Both x
  unchanged = (fit, resting, own, s.plain, room, seen_over)

  at_new : (y : Slots) (r : Row) → Fits z.layout t r (y.machine.threads t).stage → (is_alive (y.machine.threads t).stage ≡ false → r ≡ Row.Rests) → Owning y.machine t r → ((m : ℕ) → IsOurs z.layout m → IsPlain y.machine m) → RoomAt (y.machine.threads t).held r → OwnWatched y.machine y.awake t r → Both (at_row y t r)
  at_new y r fits_there rests_there owns_there plain_there room_there seen_there = (
    subst (λ (q : Row). Fits z.layout t q (y.machine.threads t).stage) (sym (put-same y.rows t r)) fits_there,
    λ dead. put-same y.rows t r ∙ rests_there dead,
    subst (Owning y.machine t) (sym (put-same y.rows t r)) owns_there,
    plain_there,
    subst (RoomAt (y.machine.threads t).held) (sym (put-same y.rows t r)) room_there,
    subst (OwnWatched y.machine y.awake t) (sym (put-same y.rows t r)) seen_there,
  )

  first_owns : (held : ℕ) (r : Row) → may_call z.layout held r ≡ true → Owning z t r
  first_owns held (Row.Looks k) e = tt
  first_owns held (Row.TryLooks m) e = tt
  first_owns held (Row.GiveLooks m) e = tt
  first_owns held (Row.MendLooks m) e = tt
  first_owns held (Row.AnewLooks m) e = tt
  first_owns held (Row.WaitLooks m k timed) e = tt
  first_owns held (Row.CountLooks m k all) e = tt
  first_owns held r e = absurd cc

  pub calls : (r : Row) → Both (next x (Calls t r))
  calls r = by_test Both (has_thread z t && is_alive g && is_resting (x.rows t) && may_call z.layout (z.threads t).held r) (at_row x t r) x
      (λ e. let four = all_four (has_thread z t) (is_alive g) (is_resting (x.rows t)) (may_call z.layout (z.threads t).held r) e in
      at_new x r (calls_fit z.layout t (z.threads t).held r g four.fourth) (λ dead. absurd (cc (sym dead ∙ four.second))) (first_owns (z.threads t).held r four.fourth) s.plain (first_room z.layout (z.threads t).held r four.fourth)
      (called_watched z x.awake t (x.rows t) seen_over r four.second (λ m h. subst (λ (q : Row). HasSlot q m) (rests_at (x.rows t) four.third) h)))
      (λ e. unchanged)

  pub goes : (c : Choice) → Trusts x t (x.rows t) → Both (next x (Goes t c))
  goes c w = by_test Both (has_thread z t && is_alive g && not (is_asleep z t)) (made_by x t c (made x t c (x.rows t))) x
      (λ e. let may = may_go (has_thread z t) (is_alive g) (is_asleep z t) e in on_row may.0 may.1)
      (λ e. unchanged)
    where
      on_row : is_alive g ≡ true → is_asleep z t ≡ false → Both (made_by x t c (made x t c (x.rows t)))
      on_row lives awake = (
        subst (λ (q : Row). Fits z.layout t q ((run z (made x t c (x.rows t)).events).threads t).stage) (sym (put-same x.rows t (made x t c (x.rows t)).next))
            (next_rows_fit x t c (x.rows t) g ((run z (made x t c (x.rows t)).events).threads t).stage fit (apart_row x t s.reached pos known (x.rows t) own)
            (λ m is. wakes_its_own x t c (x.rows t) m grant.0 is)),
        λ dead. absurd (cc (sym dead ∙ standing_lives ((run z (made x t c (x.rows t)).events).threads t).stage (made x t c (x.rows t)).next
            (rows_lead x t c at grant.1 grant.2))),
        subst (Owning (run z (made x t c (x.rows t)).events) t) (sym (put-same x.rows t (made x t c (x.rows t)).next))
            (owning_row x (made_by x t c (made x t c (x.rows t))) t c (reached_kept z s.reached) pos known (small z t (reached_kept z s.reached) known) (layout_run z (made x t c (x.rows t)).events (reached_kept z s.reached)) (x.rows t) g fit own
            on_list
            is none_then),
        plain_then,
        subst (RoomAt (y.machine.threads t).held) (sym (put-same x.rows t (made x t c (x.rows t)).next))
            (room_row x y t c (reached_kept z s.reached) (reached_kept y.machine (reached_run z (made x t c (x.rows t)).events s.reached)) pos known (small z t (reached_kept z s.reached) known) same (x.rows t) g fit own on_list room is none_then),
        subst (OwnWatched y.machine y.awake t) (sym (put-same x.rows t (made x t c (x.rows t)).next)) over,
      )
        where
          grant : Grants x (Goes t c)
          grant = granted c w

          at : IsAtRow x t
          at = record { reached = s.reached; first = pos; last = known; there = here lives; about = grant.0; out = in_none z t (reached_queued z s.reached) awake }

          y : Slots
          y = made_by x t c (made x t c (x.rows t))

          same : y.machine.layout ≡ z.layout
          same = layout_run z (made x t c (x.rows t)).events (reached_kept z s.reached)

          none_then : (made x t c (x.rows t)).events ≡ [] → y.machine ≡ z
          none_then none = ap (λ (es : List Event). run z es) none

          is : (p : ℕ) → shown y p ≡ words_after (memory x) t (made x t c (x.rows t)).access p
          is = (each_access x t c at grant.1).words

          list_access : (r : Row) → IsAlongList r → ((at k : ℕ) → k < z.layout.mutexes → cell_place z.layout k ≢ place_met z.layout t (access_of_stage g at)) → (k : ℕ) → k < z.layout.mutexes → cell_place z.layout k ≢ place_met z.layout t (made x t c r).access
          list_access (Row.Links m r) along apart k inside = apart (address_in z.layout t (head_place t)) k inside
          list_access (Row.SlotLinks j d) along apart k inside = apart (address_in z.layout t (head_place t)) k inside
          list_access (Row.HeirLinks j r) along apart k inside = apart (address_in z.layout t (head_place t)) k inside
          list_access (Row.FreeUnlinks j f) along apart k inside = apart (address_in z.layout t (head_place t)) k inside
          list_access (Row.GiveUnlinks m y) along apart k inside = apart (address_in z.layout t (head_place t)) k inside
          list_access r along apart k inside = absurd along

          on_list : IsAlongList (x.rows t) → (k : ℕ) → k < z.layout.mutexes → cell_place z.layout k ≢ place_met z.layout t (made x t c (x.rows t)).access
          on_list along k inside = list_access (x.rows t) along (list_apart z t (reached_kept z s.reached) pos known (x.rows t) along (here lives)) k inside

          over : OwnWatched y.machine y.awake t (made x t c (x.rows t)).next
          over = record {
            alone = λ alive m ours mine. alone_row x y t c (reached_kept z s.reached) pos known (small z t (reached_kept z s.reached) known) same (x.rows t) g fit own on_list is none_then (seen_over.alone lives) m (ours_in m ours) mine;
            calm = λ alive m ours mine on. calm_row x y t c (reached_kept z s.reached) pos known (small z t (reached_kept z s.reached) known) same (x.rows t) g fit own on_list is none_then (seen_over.alone lives) (seen_over.calm lives) seen_over.free m (ours_in m ours) mine on;
            free = λ m ours none whole. free_row x y t c (reached_kept z s.reached) pos known (small z t (reached_kept z s.reached) known) same (x.rows t) g fit own on_list is none_then (seen_over.calm lives) seen_over.free m (ours_in m ours) none whole;
            heirs = λ m ours mine whole on. heir_row x y t c (reached_kept z s.reached) pos known (small z t (reached_kept z s.reached) known) same (x.rows t) g s.reached at.out fit own (here lives) on_list is none_then (seen_over.alone lives) (seen_over.calm lives) seen_over.free m (ours_in m ours) mine whole on;
          }
            where
              ours_in : (m : ℕ) → IsOurs y.machine.layout m → IsOurs z.layout m
              ours_in m ours = subst (λ (j : Layout'). IsOurs j m) same ours

          -- AWAKE changes only without events
          awake_or : (r : Row) → ((made x t c r).events ≡ []) ⊎ (awake_after r x.awake ≡ x.awake)
          awake_or (Row.HeirSets k) = inl refl
          awake_or (Row.SlotQuiets k) = inl refl
          awake_or (Row.HeirHas k r) = inl refl
          awake_or (Row.GivesUp k) = inl refl
          awake_or r = inr refl

          without : (made x t c (x.rows t)).events ≡ [] → (m : ℕ) → IsOurs z.layout m → IsPlain y.machine m
          without none m ours = subst (λ (q : State). IsPlain q m) (sym (none_then none)) (s.plain m ours)

          plain_then : (m : ℕ) → IsOurs z.layout m → IsPlain y.machine m
          plain_then = go (awake_or (x.rows t)) (quiet_row x y t c (reached_kept z s.reached) pos known (small z t (reached_kept z s.reached) known) same (x.rows t) g fit own on_list is)
            where
              go : ((made x t c (x.rows t)).events ≡ []) ⊎ (awake_after (x.rows t) x.awake ≡ x.awake) → ((made x t c (x.rows t)).events ≡ []) ⊎ ((m : ℕ) → IsOurs z.layout m → Alike (shown y (cell_place z.layout (slot_of m))) (shown x (cell_place z.layout (slot_of m)))) → (m : ℕ) → IsOurs z.layout m → IsPlain y.machine m
              go (inl none) q = without none
              go (inr awake) (inl none) = without none
              go (inr awake) (inr alike) = alike_plain x y same s.reached (reached_run z (made x t c (x.rows t)).events s.reached) s.plain alike awake

  pub interrupts : Both (next x (Interrupts t))
  interrupts = (five.0, five.1, five.2, five.3, five.4, left_watched z x.awake t (x.rows t) seen_over)
    where
      five : FitsIn (next x (Interrupts t)) × RestsIn (next x (Interrupts t)) × Owning (next x (Interrupts t)).machine t (x.rows t) × ((m : ℕ) → IsOurs z.layout m → IsPlain (next x (Interrupts t)).machine m) × RoomAt ((next x (Interrupts t)).machine.threads t).held (x.rows t)
      five = by_test (λ (a : After). Fits z.layout t (x.rows t) (a.state.threads t).stage × (is_alive (a.state.threads t).stage ≡ false → x.rows t ≡ Row.Rests) × Owning a.state t (x.rows t) × ((m : ℕ) → IsOurs z.layout m → IsPlain a.state m) × RoomAt (a.state.threads t).held (x.rows t)) (has_thread z t && is_asleep z t) (departed z t) (nothing z)
          (λ e. (fit, resting, owning_kept x (record x { machine = (departed z t).state }) t pos refl (record { same = λ k o. refl; none = λ k o. o }) (x.rows t) g fit own, λ m ours. still_plain z (departed z t).state m refl (s.plain m ours), room)) (λ e. (fit, resting, own, s.plain, room))

  lapse_fits : (r : Row) → Fits z.layout t r g → Fits z.layout t (lapse_row r) ((run z (lapse_events x t r)).threads t).stage
  lapse_fits (Row.Asleep k) o = by_test (λ (r : Row). Fits z.layout t r ((run z (lapse_events x t (Row.Asleep k))).threads t).stage) k.timed (Row.Late k) (Row.Asleep k) (λ e. o.0) (λ e. o)
  lapse_fits (Row.WaitAsleep m k n true) o = o
  lapse_fits (Row.WaitAsleep m k n false) o = o
  lapse_fits r o = o

  lapse_owns : (r : Row) → Owning z t r → Owning (run z (lapse_events x t r)) t (lapse_row r)
  lapse_owns (Row.Asleep k) o = by_test (λ (r : Row). Owning (run z (lapse_events x t (Row.Asleep k))) t r) k.timed (Row.Late k) (Row.Asleep k) (λ e. tt) (λ e. tt)
  lapse_owns (Row.WaitAsleep m k n true) o = tt
  lapse_owns (Row.WaitAsleep m k n false) o = tt
  lapse_owns r o = o

  lapse_plain : (r : Row) (m : ℕ) → IsOurs z.layout m → IsPlain (run z (lapse_events x t r)) m
  lapse_plain (Row.Asleep k) m ours = by_test (λ (es : List Event). IsPlain (run z es) m) k.timed (Expire t ∷ []) [] (λ e. expire_plain z t m (s.plain m ours)) (λ e. s.plain m ours)
  lapse_plain (Row.WaitAsleep j k n true) m ours = by_test (λ (es : List Event). IsPlain (run z es) m) (stands_in t (z.queues (counter_place z.layout k))) (Expire t ∷ []) (Leave t ∷ []) (λ e. expire_plain z t m (s.plain m ours)) (λ e. leave_plain z t m (s.plain m ours))
  lapse_plain (Row.WaitAsleep j k n false) m ours = s.plain m ours
  lapse_plain r m ours = s.plain m ours

  -- it owns as many after a timeout
  held_late : (f : Stage) → ((expired z t (z.threads t).held f).state.threads t).held ≡ (z.threads t).held
  held_late (Calling (OnMutex o) q) = by_test (λ (a : After). (a.state.threads t).held ≡ (z.threads t).held) (is_timed (OnMutex o) && may_expire q.phase && sleeps z t (Calling (OnMutex o) q)) (lapsed z t (z.threads t).held (OnMutex o) q) (nothing z) (λ e. ap (λ (v : Thread). v.held) (put-same z.threads t _)) (λ e. refl)
  held_late (Calling (OnCondition o) q) = by_test (λ (a : After). (a.state.threads t).held ≡ (z.threads t).held) (is_timed (OnCondition o) && waits_on z t (condition_of o)) (overslept z t (z.threads t).held (condition_of o) q) (nothing z) (λ e. ap (λ (v : Thread). v.held) (put-same z.threads t _)) (λ e. refl)
  held_late Idle = refl
  held_late (AtCondition o q) = refl
  held_late (Dying w) = refl
  held_late Reaped = refl

  few_late : (k : Taking) → k.how ≡ Later → Few k.how (z.threads t).held → ((run z (Expire t ∷ [])).threads t).held < 2046
  few_late k how few = subst (λ (n : ℕ). n < 2046) (sym (by_test (λ (a : After). (a.state.threads t).held ≡ (z.threads t).held) (has_thread z t) (expired z t (z.threads t).held g) (nothing z) (λ e. held_late g) (λ e. refl))) (subst (λ (h : How). Few h (z.threads t).held) how few)

  lapse_room : (r : Row) → Fits z.layout t r g → RoomAt (z.threads t).held r → RoomAt ((run z (lapse_events x t r)).threads t).held (lapse_row r)
  lapse_room (Row.Asleep k) fits o = go k.timed refl
    where
      go : (b : Bool) → k.timed ≡ b → RoomAt ((run z (if b then Expire t ∷ [] else [])).threads t).held (if b then Row.Late k else Row.Asleep k)
      go true e = few_late k (fits.1 e) o
      go false e = o
  lapse_room (Row.WaitAsleep m k n true) fits o = tt
  lapse_room (Row.WaitAsleep m k n false) fits o = tt
  lapse_room r fits o = o

  alive_asleep : (f : Stage) → sleeps z t f ≡ true → is_alive f ≡ true
  alive_asleep (Calling o p) e = refl
  alive_asleep f e = absurd cc

  lapse_watched : (r : Row) → is_alive g ≡ true → OwnWatched z x.awake t r → OwnWatched (run z (lapse_events x t r)) x.awake t (lapse_row r)
  lapse_watched (Row.Asleep k) alive w = go k.timed
    where
      go : (b : Bool) → OwnWatched (run z (if b then Expire t ∷ [] else [])) x.awake t (if b then Row.Late k else Row.Asleep k)
      go true = late_watched z x.awake t (Row.Asleep k) w (Row.Late k) alive (λ m h. h)
      go false = w
  lapse_watched (Row.WaitAsleep m k n true) alive w = by_test (λ (es : List Event). OwnWatched (run z es) x.awake t (Row.WaitLate m k n)) (stands_in t (z.queues (counter_place z.layout k))) (Expire t ∷ []) (Leave t ∷ [])
      (λ e. late_watched z x.awake t (Row.WaitAsleep m k n true) w (Row.WaitLate m k n) alive (λ j h. h)) (λ e. gone_watched z x.awake t (Row.WaitAsleep m k n true) w (Row.WaitLate m k n) alive (λ j h. h))
  lapse_watched (Row.WaitAsleep m k n false) alive w = w
  lapse_watched r alive w = w

  pub lapses : Both (next x (Lapses t))
  lapses = by_test Both (is_asleep z t) (at_row (after x (lapse_events x t (x.rows t))) t (lapse_row (x.rows t))) x
      (λ asleep. at_new (after x (lapse_events x t (x.rows t))) (lapse_row (x.rows t)) (lapse_fits (x.rows t) fit)
      (λ dead. absurd (cc (sym dead ∙ standing_lives ((run z (lapse_events x t (x.rows t))).threads t).stage (lapse_row (x.rows t))
      (lapses_so x t (reached_kept z s.reached) (x.rows t) (here (alive_asleep g asleep)) (sleeps_later z.layout t (x.rows t) g fit) (is_known z t pos known) asleep))))
      (lapse_owns (x.rows t) own) (lapse_plain (x.rows t)) (lapse_room (x.rows t) fit room) (lapse_watched (x.rows t) (alive_asleep g asleep) seen_over))
      (λ e. unchanged)

  pub dies : Both (next x (Dies t))
  dies = by_test Both (has_thread z t && is_alive g) (at_row (after x (Kill t ∷ [])) t Row.Rests) x (λ e. at_new (after x (Kill t ∷ [])) Row.Rests tt (λ dead. refl) tt (λ m ours. kill_plain z t m (s.plain m ours)) tt (died_watched z x.awake t (x.rows t) seen_over s.reached pos known e Row.Rests)) (λ e. unchanged)

  -- a dead thread is at no row
  at_none : (y : Slots) → is_alive g ≡ false → y.rows t ≡ x.rows t → ((m : ℕ) → IsOurs z.layout m → IsPlain y.machine m) → OwnWatched y.machine y.awake t (y.rows t) → Both y
  at_none y dead same plain_there seen_there = (subst (λ (r : Row). Fits z.layout t r (y.machine.threads t).stage) (sym (same ∙ resting dead)) tt, λ e. same ∙ resting dead, subst (Owning y.machine t) (sym (same ∙ resting dead)) tt, plain_there, subst (RoomAt (y.machine.threads t).held) (sym (same ∙ resting dead)) tt, seen_there)

  exiting_dead : (f : Stage) → is_exiting f ≡ true → is_alive f ≡ false
  exiting_dead (Dying w) e = refl
  exiting_dead f e = absurd cc

  gone_dead : (f : Stage) → is_gone f ≡ true → is_alive f ≡ false
  gone_dead Reaped e = refl
  gone_dead f e = absurd cc

  second : (a b : Bool) → (a && b) ≡ true → b ≡ true
  second true b e = e
  second false b e = absurd cc

  pub walks : Both (next x (Walks t))
  walks = by_test Both (is_dying z t) (after x (Step t ∷ [])) x (λ e. at_none (after x (Step t ∷ [])) (exiting_dead g (second (has_thread z t) (is_exiting g) e)) refl (λ m ours. let at = dying_at g (second (has_thread z t) (is_exiting g) e) in walk_plain z t m (s.plain m ours) (reached_kept z s.reached) pos known at.0 at.1)
      (let at = dying_at g (second (has_thread z t) (is_exiting g) e) in walked_watched z x.awake t (x.rows t) seen_over s.reached pos known at.0 at.1 (x.rows t))) (λ e. unchanged)

  gone_is : (f : Stage) → is_gone f ≡ true → f ≡ Reaped
  gone_is Reaped e = refl
  gone_is f e = absurd cc

  lives_watched : OwnWatched (next x (Lives t)).machine x.awake t (x.rows t)
  lives_watched = by_test (λ (a : After). OwnWatched a.state x.awake t (x.rows t)) (has_thread z t && is_gone g) (renewed z t) (nothing z) (λ e. new_watched z x.awake t (x.rows t) seen_over s.reached pos known (x.rows t) (gone_is g (second (has_thread z t) (is_gone g) e))) (λ e. seen_over)

  pub lives : Both (next x (Lives t))
  lives = (five.0, five.1, five.2, five.3, five.4, lives_watched)
    where
      five : FitsIn (next x (Lives t)) × RestsIn (next x (Lives t)) × Owning (next x (Lives t)).machine t (x.rows t) × ((m : ℕ) → IsOurs z.layout m → IsPlain (next x (Lives t)).machine m) × RoomAt ((next x (Lives t)).machine.threads t).held (x.rows t)
      five = by_test (λ (a : After). Fits z.layout t (x.rows t) (a.state.threads t).stage × (is_alive (a.state.threads t).stage ≡ false → x.rows t ≡ Row.Rests) × Owning a.state t (x.rows t) × ((m : ℕ) → IsOurs z.layout m → IsPlain a.state m) × RoomAt (a.state.threads t).held (x.rows t)) (has_thread z t && is_gone g) (renewed z t) (nothing z)
          (λ e. let none : x.rows t ≡ Row.Rests = resting (gone_dead g (second (has_thread z t) (is_gone g) e)) in
          (subst (λ (r : Row). Fits z.layout t r ((renewed z t).state.threads t).stage) (sym none) tt, λ dead. none, subst (Owning (renewed z t).state t) (sym none) tt, λ m ours. still_plain z (renewed z t).state m (renewed_cell z t pos known (slot_of m)) (s.plain m ours), subst (RoomAt ((renewed z t).state.threads t).held) (sym none) tt))
          (λ e. (fit, resting, own, s.plain, room))
