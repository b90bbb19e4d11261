-- In any run, a living thread owns no slots but its row's; AWAKE is set there only if its row allows it; a slot that nobody
-- owns, and that isn't marked, has no AWAKE; and heirs answer. Whatever happens keeps this.
use Rattle.std.proofs.Common.{◌≡◌, ◌≢◌, ℕ, zero, suc, ◌<◌, ◌≤◌, Bool, true, false, Option, Some, None, List, [], ◌∷◌, refl, sym, ap, ◌∙◌, subst, arith}
use Rattle.std.specs.Prelude.{if◌then◌else◌, ◌&&◌}
use Rattle.lockword.specs.declared.reply.Reply.{Reply}
use Rattle.posixmutex.specs.declared.object.Object.{Object}
use Rattle.posixmutex.specs.declared.point.Operation.{Operation}
use Rattle.posixmutex.specs.Objects.{Permits, owner_of}
use Rattle.exitwalk.specs.Standings as walks
use Rattle.exitwalk.specs.declared.row.Row as walk_row
use Rattle.lockword.specs.Cells.{Fields, fields_of}
use Rattle.memorymap.specs.Layouts.{Layout'}
use Rattle.mutex.specs.Whole.{may_expire}
use Rattle.condvar.specs.Calls.{condition_of}
use Rattle.condvar.specs.declared.op.Op.TheVariants.{OnMutex, OnCondition}
use Rattle.protocol.specs.declared.event.Event.{Event}
use Rattle.protocol.specs.declared.event.Event.TheVariants.{Step, Kill, Leave, Expire}
use Rattle.protocol.specs.declared.thread.Thread.{Thread}
use Rattle.protocol.specs.declared.thread.Stage.{Stage}
use Rattle.protocol.specs.declared.thread.Stage.TheVariants.{Calling, AtCondition, Dying, Idle, Reaped}
use Rattle.protocol.specs.Headline.{seen}
use Rattle.protocol.specs.Machine.{State, After, departed, expired, happens, has_thread, is_alive, is_asleep, is_timed, killed, lapsed, nothing, overslept, renewed, run, sleeps, stage_walked, stands_in, waits_on}
use Rattle.protocol.proofs.Kept.{Kept, LeftToWalk, Walks}
use Rattle.protocol.proofs.Frames.{knows_at}
use Rattle.protocol.proofs.Puts.{put-same}
use Rattle.protocol.proofs.Runs.{sound}
use Rattle.protocol.proofs.Queues.{not_true, without_stands}
use Rattle.protocol.proofs.Renewals.{renewed_cell, reaped_owns_none}
use Rattle.protocol.proofs.Steps.{Tells, seen-inside, thread_after}
use Rattle.protocol.proofs.WalkSteps.{row_then, walk_of, walk_after, walk_transition}
use Rattle.protocol.proofs.WalkStepping.{walk_stepping}
use Rattle.protocol.proofs.Stepping.{Stepping}
use Rattle.protocol.proofs.Working.{walk_is}
use Rattle.slots.specs.Places.{cell_of, slot_of}
use Rattle.slots.specs.Rows.{Row}
use Rattle.slots.specs.Shown.{Slots}
use Rattle.slots.specs.Stands.{HasSlot, MayBeAwake}
use Rattle.slots.specs.Heirs.{AreOf}
use Rattle.slots.specs.Invariant.{HeirsAnswer, IsHeir, fields_at}
use Rattle.slots.specs.Invariant.IsHeir.{Looks, HasTaken, Died}
use Rattle.slots.specs.Fits.{IsOurs}
use Rattle.slots.specs.Goes.{StandsStill}
use Rattle.slots.specs.Laws.{IsReached}
use Rattle.slots.proofs.Free.{reached_kept, reached_next}
use Rattle.slots.proofs.HeirsStay.{deaths_leave, others_leave, walk_goes, walks_leave}
use Rattle.slots.proofs.Leading.{by_test}
use Rattle.slots.proofs.Owned.{or_else, our_cell, our_slot}
use Rattle.slots.proofs.OthersKeep.{LeavesIt, owned_seen, seen_owned}

-- what holds of thread t at row r, and of slots and heirs
pub record OwnWatched (s : State) (awake : ℕ → Bool) (t : ℕ) (r : Row) : Type 0 where
  pub alone : is_alive (s.threads t).stage ≡ true → (m : ℕ) → IsOurs s.layout m → (fields_at s (slot_of m)).owner ≡ t → HasSlot r m
  pub calm : is_alive (s.threads t).stage ≡ true → (m : ℕ) → IsOurs s.layout m → (fields_at s (slot_of m)).owner ≡ t → awake m ≡ true → MayBeAwake r
  pub free : (m : ℕ) → IsOurs s.layout m → (fields_at s (slot_of m)).owner ≡ 0 → (fields_at s (slot_of m)).died ≡ false → awake m ≡ false
  pub heirs : (m : ℕ) → IsOurs s.layout m → (fields_at s (slot_of m)).owner ≡ t → (fields_at s (slot_of m)).died ≡ false → awake m ≡ true → IsHeir s (cell_of m) t

abbrev pub FreeOnes : State → (ℕ → Bool) → Type 0
FreeOnes s awake = (m : ℕ) → IsOurs s.layout m → (fields_at s (slot_of m)).owner ≡ 0 → (fields_at s (slot_of m)).died ≡ false → awake m ≡ false

pub heirs_of_all : (x : Slots) → Kept x.machine → ((t : ℕ) → 1 ≤ t → t ≤ x.machine.layout.threads → OwnWatched x.machine x.awake t (x.rows t)) → HeirsAnswer x
heirs_of_all x inv all m u ours on own alive = let is = inv.owners (slot_of m) u own in
    (all u is.0 is.1).heirs m ours (seen_owned x.machine (slot_of m) u (our_slot x.machine.layout m ours) own) alive on

-- ---- a state with the same slots

pub record SameSlots (s z : State) : Type 0 where
  pub layout : z.layout ≡ s.layout
  pub slots : (m : ℕ) → fields_at z (slot_of m) ≡ fields_at s (slot_of m)

module _ (s z : State) (awake : ℕ → Bool) (t : ℕ) (same : SameSlots s z) where
  ours_before : (m : ℕ) → IsOurs z.layout m → IsOurs s.layout m
  ours_before m ours = subst (λ (l : Layout'). IsOurs l m) same.layout ours

  own_before : (m n : ℕ) → (fields_at z (slot_of m)).owner ≡ n → (fields_at s (slot_of m)).owner ≡ n
  own_before m n own = sym (ap (λ (f : Fields). f.owner) (same.slots m)) ∙ own

  alive_before : (m : ℕ) → (fields_at z (slot_of m)).died ≡ false → (fields_at s (slot_of m)).died ≡ false
  alive_before m alive = sym (ap (λ (f : Fields). f.died) (same.slots m)) ∙ alive

  -- the thread is at its row, and an heir stays one
  pub same_watched : (r : Row) → OwnWatched s awake t r → (is_alive (z.threads t).stage ≡ true → is_alive (s.threads t).stage ≡ true) → ((k : ℕ) → IsHeir s k t → IsHeir z k t) → OwnWatched z awake t r
  same_watched r w lives heir = record {
    alone = λ alive m ours own. w.alone (lives alive) m (ours_before m ours) (own_before m t own);
    calm = λ alive m ours own on. w.calm (lives alive) m (ours_before m ours) (own_before m t own) on;
    free = λ m ours none alive. w.free m (ours_before m ours) (own_before m 0 none) (alive_before m alive);
    heirs = λ m ours own alive on. heir (cell_of m) (w.heirs m (ours_before m ours) (own_before m t own) (alive_before m alive) on);
  }

  -- the thread owns no slot
  pub none_watched : (r : Row) → FreeOnes s awake → ((m : ℕ) → IsOurs s.layout m → (fields_at s (slot_of m)).owner ≢ t) → OwnWatched z awake t r
  none_watched r free none = record {
    alone = λ alive m ours own. absurd (none m (ours_before m ours) (own_before m t own));
    calm = λ alive m ours own on. absurd (none m (ours_before m ours) (own_before m t own));
    free = λ m ours nobodys alive. free m (ours_before m ours) (own_before m 0 nobodys) (alive_before m alive);
    heirs = λ m ours own alive on. absurd (none m (ours_before m ours) (own_before m t own));
  }

  -- the thread is dead
  pub dead_watched : (r q : Row) → OwnWatched s awake t r → is_alive (z.threads t).stage ≡ false → ((k : ℕ) → IsHeir s k t → IsHeir z k t) → OwnWatched z awake t q
  dead_watched r q w dead heir = record {
    alone = λ alive m ours own. absurd (cc (sym dead ∙ alive));
    calm = λ alive m ours own on. absurd (cc (sym dead ∙ alive));
    free = λ m ours none alive. w.free m (ours_before m ours) (own_before m 0 none) (alive_before m alive);
    heirs = λ m ours own alive on. heir (cell_of m) (w.heirs m (ours_before m ours) (own_before m t own) (alive_before m alive) on);
  }

-- ---- what isn't an access of ours

leave_heir : (s : State) (k t : ℕ) → IsHeir s k t → IsHeir (departed s t).state k t
leave_heir s k t (Looks p r is at out) = Looks p r is at (λ key. not_true (stands_in t ((departed s t).state.queues key)) (λ there. cc (sym (out key) ∙ (without_stands t t (s.queues key) there).0)))
leave_heir s k t (HasTaken p l r is at own) = HasTaken p l r is at own
leave_heir s k t (Died w is pends) = Died w is pends

owner_alike : (a b : ℕ) → owner_of a ≡ owner_of b → a ≡ b
owner_alike zero zero e = refl
owner_alike zero (suc b) e = absurd cc
owner_alike (suc a) zero e = absurd cc
owner_alike (suc a) (suc b) e = cc

dead_walk : (w : walks.Standing) (r : walk_row.Row) → is_alive (stage_walked w r) ≡ false
dead_walk w r = grind (arith)

-- what a walk leaves without a mark, and owned by nobody, was so before
death_same : (o n : Object) (t : ℕ) (r : Reply) → Permits o t Operation.Death r n → n.inconsistent ≡ false → n ≡ o
death_same o n t r p alive = grind (arith)

module _ (s : State) (awake : ℕ → Bool) (t : ℕ) (r : Row) (w : OwnWatched s awake t r) where
  abbrev Then : After → Type 0
  Then a = OwnWatched a.state awake t r

  pub left_watched : OwnWatched (happens s (Leave t)).state awake t r
  left_watched = by_test Then (has_thread s t && is_asleep s t) (departed s t) (nothing s)
      (λ e. same_watched s (departed s t).state awake t (record { layout = refl; slots = λ m. refl }) r w (λ e. e) (λ k h. leave_heir s k t h)) (λ e. w)

  expired_slots : (h : ℕ) (g : Stage) → SameSlots s (expired s t h g).state
  expired_slots h (Calling (OnMutex c) q) = by_test (λ (a : After). SameSlots s a.state) (is_timed (OnMutex c) && may_expire q.phase && sleeps s t (Calling (OnMutex c) q)) (lapsed s t h (OnMutex c) q) (nothing s) (λ e. record { layout = refl; slots = λ m. refl }) (λ e. record { layout = refl; slots = λ m. refl })
  expired_slots h (Calling (OnCondition c) q) = by_test (λ (a : After). SameSlots s a.state) (is_timed (OnCondition c) && waits_on s t (condition_of c)) (overslept s t h (condition_of c) q) (nothing s) (λ e. record { layout = refl; slots = λ m. refl }) (λ e. record { layout = refl; slots = λ m. refl })
  expired_slots h Idle = record { layout = refl; slots = λ m. refl }
  expired_slots h (AtCondition c q) = record { layout = refl; slots = λ m. refl }
  expired_slots h (Dying v) = record { layout = refl; slots = λ m. refl }
  expired_slots h Reaped = record { layout = refl; slots = λ m. refl }

  expire_slots : SameSlots s (happens s (Expire t)).state
  expire_slots = by_test (λ (a : After). SameSlots s a.state) (has_thread s t) (expired s t (s.threads t).held (s.threads t).stage) (nothing s) (λ e. expired_slots (s.threads t).held (s.threads t).stage) (λ e. record { layout = refl; slots = λ m. refl })

  leave_slots : SameSlots s (happens s (Leave t)).state
  leave_slots = by_test (λ (a : After). SameSlots s a.state) (has_thread s t && is_asleep s t) (departed s t) (nothing s) (λ e. record { layout = refl; slots = λ m. refl }) (λ e. record { layout = refl; slots = λ m. refl })

  -- a thread that sleeps in a call owns no slot
  sleeper_none : is_alive (s.threads t).stage ≡ true → ((m : ℕ) → HasSlot r m → ⊥) → (m : ℕ) → IsOurs s.layout m → (fields_at s (slot_of m)).owner ≢ t
  sleeper_none alive none m ours own = none m (w.alone alive m ours own)

  pub late_watched : (q : Row) → is_alive (s.threads t).stage ≡ true → ((m : ℕ) → HasSlot r m → ⊥) → OwnWatched (happens s (Expire t)).state awake t q
  late_watched q alive none = none_watched s (happens s (Expire t)).state awake t expire_slots q w.free (sleeper_none alive none)

  pub called_watched : (q : Row) → is_alive (s.threads t).stage ≡ true → ((m : ℕ) → HasSlot r m → ⊥) → OwnWatched s awake t q
  called_watched q alive none = none_watched s s awake t (record { layout = refl; slots = λ m. refl }) q w.free (sleeper_none alive none)

  pub gone_watched : (q : Row) → is_alive (s.threads t).stage ≡ true → ((m : ℕ) → HasSlot r m → ⊥) → OwnWatched (happens s (Leave t)).state awake t q
  gone_watched q alive none = none_watched s (happens s (Leave t)).state awake t leave_slots q w.free (sleeper_none alive none)

  module _ (reached : IsReached s) (pos : 1 ≤ t) (known : t ≤ s.layout.threads) where
    inv : Kept s
    inv = reached_kept s reached

    pub died_watched : (has_thread s t && is_alive (s.threads t).stage) ≡ true → (q : Row) → OwnWatched (happens s (Kill t)).state awake t q
    died_watched e q = dead_watched s (happens s (Kill t)).state awake t same r q w dead (λ k h. deaths_leave s k t reached pos known h)
      where
        killed_is : (happens s (Kill t)).state ≡ (killed s t).state
        killed_is = ap (λ (b : Bool). (if b then killed s t else nothing s).state) e

        same : SameSlots s (happens s (Kill t)).state
        same = subst (SameSlots s) (sym killed_is) (record { layout = refl; slots = λ m. refl })

        dead : is_alive ((happens s (Kill t)).state.threads t).stage ≡ false
        dead = ap (λ (z : State). is_alive (z.threads t).stage) killed_is ∙ ap (λ (z : Thread). is_alive z.stage) (put-same s.threads t _)

    -- a new life
    pub new_watched : (q : Row) → (s.threads t).stage ≡ Reaped → OwnWatched (renewed s t).state awake t q
    new_watched q gone = none_watched s (renewed s t).state awake t (record { layout = refl; slots = λ m. ap fields_of (renewed_cell s t pos known (slot_of m)) }) q w.free
        (λ m ours own. reaped_owns_none s t pos known inv gone (slot_of m) (owned_seen s (slot_of m) t (our_slot s.layout m ours) pos own))

    -- an access of its walk
    pub walked_watched : (v : walks.Standing) → (s.threads t).stage ≡ Dying v → (q : Row) → OwnWatched (happens s (Step t)).state awake t q
    walked_watched v is q = record {
      alone = λ alive m ours own. absurd (cc (sym dead ∙ alive));
      calm = λ alive m ours own on. absurd (cc (sym dead ∙ alive));
      free = λ m ours none alive. w.free m (before m ours) (sym (stays_owner m ours alive) ∙ none) (stays_died m ours alive);
      heirs = λ m ours own alive on. stays m (our_cell s.layout m (before m ours)) (owned_seen s' (slot_of m) t (our_slot s'.layout m ours) pos own) (w.heirs m (before m ours) (sym (stays_owner m ours alive) ∙ own) (stays_died m ours alive) on);
    }
      where
        s' : State
        s' = (happens s (Step t)).state

        there : Walks s.layout t v × (walk_of s.layout t v.row ≡ v) × LeftToWalk s t v.row
        there = walk_is s t v inv pos known is

        g : Stepping s t (walk_transition s t v.row)
        g = walk_stepping s t v.row inv pos known there.0.going (knows_at s.layout t v there.0) there.2

        goes_to : (happens s (Step t)).state ≡ walk_after s t v.row
        goes_to = walk_goes s t v inv pos known is

        layout_same : (happens s (Step t)).state.layout ≡ s.layout
        layout_same = (sound s (Step t) inv).same

        before : (m : ℕ) → IsOurs (happens s (Step t)).state.layout m → IsOurs s.layout m
        before m ours = subst (λ (l : Layout'). IsOurs l m) layout_same ours

        dead : is_alive ((happens s (Step t)).state.threads t).stage ≡ false
        dead = ap (λ (z : State). is_alive (z.threads t).stage) goes_to ∙ ap (λ (y : Thread). is_alive y.stage) (put-same s.threads t (thread_after s t (walk_transition s t v.row))) ∙ dead_walk (walk_of s.layout t v.row) (row_then s t v.row)

        told : (x : Option Reply) → Tells t (seen s (walk_transition s t v.row).mutex) (walk_transition s t v.row).operation x (seen (walk_after s t v.row) (walk_transition s t v.row).mutex) → (seen (walk_after s t v.row) (walk_transition s t v.row).mutex).inconsistent ≡ false → seen (walk_after s t v.row) (walk_transition s t v.row).mutex ≡ seen s (walk_transition s t v.row).mutex
        told None none alive = none
        told (Some x) permits alive = death_same (seen s (walk_transition s t v.row).mutex) (seen (walk_after s t v.row) (walk_transition s t v.row).mutex) t x permits alive

        after_same : (j : ℕ) → (seen (walk_after s t v.row) j).inconsistent ≡ false → seen (walk_after s t v.row) j ≡ seen s j
        after_same j = or_else (λ (i : ℕ). (seen (walk_after s t v.row) i).inconsistent ≡ false → seen (walk_after s t v.row) i ≡ seen s i) (walk_transition s t v.row).mutex j (told (walk_transition s t v.row).point g.tells) (λ other alive. g.far j other)

        same : (j : ℕ) → (seen (happens s (Step t)).state j).inconsistent ≡ false → seen (happens s (Step t)).state j ≡ seen s j
        same j = subst (λ (z : State). (seen z j).inconsistent ≡ false → seen z j ≡ seen s j) (sym goes_to) (after_same j)

        slot_same : (m : ℕ) → IsOurs (happens s (Step t)).state.layout m → (fields_at (happens s (Step t)).state (slot_of m)).died ≡ false → seen (happens s (Step t)).state (slot_of m) ≡ seen s (slot_of m)
        slot_same m ours alive = same (slot_of m) (ap (λ (o : Object). o.inconsistent) (seen-inside (happens s (Step t)).state (slot_of m) (our_slot (happens s (Step t)).state.layout m ours)) ∙ alive)

        stays_owner : (m : ℕ) → IsOurs (happens s (Step t)).state.layout m → (fields_at (happens s (Step t)).state (slot_of m)).died ≡ false → (fields_at (happens s (Step t)).state (slot_of m)).owner ≡ (fields_at s (slot_of m)).owner
        stays_owner m ours alive = owner_alike (fields_at (happens s (Step t)).state (slot_of m)).owner (fields_at s (slot_of m)).owner
            (sym (ap (λ (o : Object). o.owner) (seen-inside (happens s (Step t)).state (slot_of m) (our_slot (happens s (Step t)).state.layout m ours))) ∙ ap (λ (o : Object). o.owner) (slot_same m ours alive) ∙ ap (λ (o : Object). o.owner) (seen-inside s (slot_of m) (our_slot s.layout m (before m ours))))

        stays_died : (m : ℕ) → IsOurs (happens s (Step t)).state.layout m → (fields_at (happens s (Step t)).state (slot_of m)).died ≡ false → (fields_at s (slot_of m)).died ≡ false
        stays_died m ours alive = sym (ap (λ (o : Object). o.inconsistent) (seen-inside s (slot_of m) (our_slot s.layout m (before m ours)))) ∙ ap (λ (o : Object). o.inconsistent) (sym (slot_same m ours alive)) ∙ ap (λ (o : Object). o.inconsistent) (seen-inside (happens s (Step t)).state (slot_of m) (our_slot (happens s (Step t)).state.layout m ours)) ∙ alive

        stays : (m : ℕ) → cell_of m < s.layout.mutexes → (seen (happens s (Step t)).state (slot_of m)).owner ≡ Some t → IsHeir s (cell_of m) t → IsHeir (happens s (Step t)).state (cell_of m) t
        stays m inside own (Looks p r stage phase out) = absurd (cc (is, stage))
        stays m inside own (HasTaken p l r stage phase taken) = absurd (cc (is, stage))
        stays m inside own (Died v stage pends) = walks_leave s (cell_of m) (slot_of m) t v reached inside pos known stage pends own

-- ---- what others do

heir_run : (s : State) (es : List Event) (t k u : ℕ) → IsReached s → AreOf t es → t ≢ u → 1 ≤ u → u ≤ s.layout.threads → IsHeir s k u → IsHeir (run s es) k u
heir_run s [] t k u reached of apart pos known heir = heir
heir_run s (e ∷ es) t k u reached (mine, of) apart pos known heir = heir_run (happens s e).state es t k u (reached_next s e reached) of apart pos
    (subst (λ (l : Layout'). u ≤ l.threads) (sym (sound s e (reached_kept s reached)).same) known)
    (others_leave s e k u reached pos known (λ is. apart (sym mine ∙ is)) heir)

module _ (x y : Slots) (t u : ℕ) (reached : IsReached x.machine) (pos : 1 ≤ u) (known : u ≤ x.machine.layout.threads) (layout : y.machine.layout ≡ x.machine.layout) (leaves : LeavesIt x.machine y.machine u) (still : StandsStill x y u)
    (awake : (m : ℕ) → (fields_at x.machine (slot_of m)).owner ≢ t → y.awake m ≡ x.awake m) (apart : t ≢ u) (free : FreeOnes y.machine y.awake) where
  ours_then : (m : ℕ) → IsOurs y.machine.layout m → IsOurs x.machine.layout m
  ours_then m ours = subst (λ (l : Layout'). IsOurs l m) layout ours

  seen_own : (m : ℕ) → IsOurs y.machine.layout m → (fields_at y.machine (slot_of m)).owner ≡ u → (seen x.machine (slot_of m)).owner ≡ Some u
  seen_own m ours own = leaves.none (slot_of m) (owned_seen y.machine (slot_of m) u (our_slot y.machine.layout m ours) pos own)

  own_then : (m : ℕ) → IsOurs y.machine.layout m → (fields_at y.machine (slot_of m)).owner ≡ u → (fields_at x.machine (slot_of m)).owner ≡ u
  own_then m ours own = seen_owned x.machine (slot_of m) u (our_slot x.machine.layout m (ours_then m ours)) (seen_own m ours own)

  on_then : (m : ℕ) → (fields_at x.machine (slot_of m)).owner ≡ u → y.awake m ≡ true → x.awake m ≡ true
  on_then m own on = sym (awake m (λ e. apart (sym e ∙ own))) ∙ on

  alive_then : (m : ℕ) → IsOurs y.machine.layout m → (fields_at y.machine (slot_of m)).owner ≡ u → (fields_at y.machine (slot_of m)).died ≡ false → (fields_at x.machine (slot_of m)).died ≡ false
  alive_then m ours own alive =
      sym (ap (λ (o : Object). o.inconsistent) (seen-inside x.machine (slot_of m) (our_slot x.machine.layout m (ours_then m ours))))
      ∙ ap (λ (o : Object). o.inconsistent) (sym (leaves.same (slot_of m) (seen_own m ours own)))
      ∙ ap (λ (o : Object). o.inconsistent) (seen-inside y.machine (slot_of m) (our_slot y.machine.layout m ours)) ∙ alive

  lives_then : is_alive (y.machine.threads u).stage ≡ true → is_alive (x.machine.threads u).stage ≡ true
  lives_then alive = sym (ap (λ (v : Thread). is_alive v.stage) still.thread) ∙ alive

  pub others_watched : (es : List Event) → AreOf t es → y.machine ≡ run x.machine es → OwnWatched x.machine x.awake u (x.rows u) → OwnWatched y.machine y.awake u (y.rows u)
  others_watched es of is w = record {
    alone = λ alive m ours own. subst (λ (r : Row). HasSlot r m) (sym still.row) (w.alone (lives_then alive) m (ours_then m ours) (own_then m ours own));
    calm = λ alive m ours own on. subst MayBeAwake (sym still.row) (w.calm (lives_then alive) m (ours_then m ours) (own_then m ours own) (on_then m (own_then m ours own) on));
    free = free;
    heirs = λ m ours own alive on. subst (λ (z : State). IsHeir z (cell_of m) u) (sym is) (heir_run x.machine es t (cell_of m) u reached of apart pos known (w.heirs m (ours_then m ours) (own_then m ours own) (alive_then m ours own alive) (on_then m (own_then m ours own) on)));
  }
