-- What an access of a call on a condition variable leaves by which its thread holds what it held, at the cell or at the counter: its thread's list, the count of what it holds, and what the next row needs.
use Rattle.std.proofs.Common.{Bool, true, false, ◌≡◌, ℕ, ◌+◌, ◌^◌, ◌%◌, ◌<◌, ◌≤◌, ◌==◌, not, Option, Some, None, List, refl, sym, ap, ◌∙◌, subst, arith, eqb-true}
use Rattle.std.specs.Prelude.{if◌then◌else◌, nat_lt}
use Rattle.std.proofs.lemmas.Bool.{eqb-false}
use mathlib.Core.Logic.{dite}
use native.Mathlib.Decide.{ℕ_discrete}
use Rattle.lockword.specs.Cells.{fields_of}
use Rattle.lockword.specs.declared.reply.Reply.{Reply}
use Rattle.lockword.specs.declared.reply.Reply.TheVariants.{OK, EPERM, XFULL, XSTATE}
use Rattle.stepprograms.specs.declared.access.Access.{Access}
use Rattle.stepprograms.specs.declared.access.Access.TheVariants as access
use Rattle.stepprograms.specs.declared.access.Answer.{Answer}
use Rattle.stepprograms.specs.declared.access.Answer.TheVariants.{Value}
use Rattle.posixmutex.specs.declared.object.Object.{Object}
use Rattle.posixmutex.specs.declared.point.Operation.{Operation}
use Rattle.posixmutex.specs.declared.point.Operation.TheVariants as operation
use Rattle.posixmutex.specs.declared.point.Point.{Point}
use Rattle.memorymap.specs.Layouts.{Layout', address_in, cell_place, counter_place, place_in}
use Rattle.posixmutex.specs.Objects.{fresh, held_limit, object_of, Run}
use Rattle.posixmutex.proofs.Objects.{run_same}
use Rattle.posixmutex.proofs.Owners.{owner_of-some}
use Rattle.mutex.proofs.Addresses.{again}
use Rattle.robustlist.specs.Standings.{UnlinkStanding}
use Rattle.robustlist.specs.Unlink.{unlink_access_of}
use Rattle.mutex.specs.declared.consistent.ConsistentRow.TheVariants as consistent
use Rattle.mutex.specs.declared.phase.Phase.{Phase}
use Rattle.mutex.specs.declared.phase.Phase.TheVariants as phase
use Rattle.mutex.specs.declared.row.Row.TheVariants as row
use Rattle.mutex.specs.declared.unlock.UnlockRow.TheVariants as unlock
use Rattle.mutex.specs.Laws.{points}
use Rattle.mutex.specs.Standings.{Whole}
use Rattle.mutex.specs.WholeLists.{Arrives, AgreeOnOwn, HasList, IsCallOn, IsOwnPlace, IsThere, KeepsList}
use Rattle.mutex.proofs.WholeLists.{right}
use Rattle.condvar.specs.declared.broadcast.BroadcastRow.TheVariants as broadcast
use Rattle.condvar.specs.declared.phase.CondOnward.{CondOnward}
use Rattle.condvar.specs.declared.phase.CondPhase.{CondPhase}
use Rattle.condvar.specs.declared.phase.CondPhase.TheVariants as condition
use Rattle.condvar.specs.declared.row.CondRow.{CondRow}
use Rattle.condvar.specs.declared.row.CondRow.TheVariants as cond
use Rattle.condvar.specs.declared.row.Decided.{Decided}
use Rattle.condvar.specs.declared.signal.SignalRow.TheVariants as signal
use Rattle.condvar.specs.declared.wait.WaitRow.TheVariants as wait
use Rattle.condvar.specs.Laws.{largest_counter}
use Rattle.condvar.specs.Programs.{point_of}
use Rattle.condvar.specs.Rows.{ends, full, goes, IsGoing}
use Rattle.condvar.specs.Standings.{CondWhole}
use Rattle.condvar.specs.Whole.{cond_led, from_words}
use Rattle.ruledwords.specs.declared.pass.Card.{Card}
use Rattle.ruledwords.specs.declared.pass.Change.{Change}
use Rattle.ruledwords.specs.Calls.{count_after, Made, OwnKept, Ready}
use Rattle.ruledwords.specs.Cards.{at, mark_at, value_at}
use Rattle.ruledwords.specs.ConditionCalls.{IsCondAnswerOf, IsInCondCall}
use Rattle.ruledwords.specs.Conditions.{cond_row_in, cond_standing, condition_at, list_phase, having_set, most_behind, unlock_of, CondReady, Counts, IsAtCondition, IsOnCondition, Meets, Needs}
use Rattle.ruledwords.specs.Counts.{cell_at, mutex_at}
use Rattle.ruledwords.specs.Lists.{known, or_zero, IsAlive, IsInCall}
use Rattle.ruledwords.specs.OwnWords.{owns_in}
use Rattle.ruledwords.specs.Passes.{IsCardOf}
use Rattle.ruledwords.specs.Seen.{by, count_held, held, held_after, holds, holds_after, Sees}
use Rattle.ruledwords.specs.Turns.{IsLoadOrStore}
use Rattle.ruledwords.proofs.Cards.{is_marking, still_card}
use Rattle.ruledwords.proofs.Counts.{of_mutex}
use Rattle.ruledwords.proofs.Held.{count_same, held_append, owner_held}
use Rattle.ruledwords.proofs.Lists.{mark_put}
use Rattle.ruledwords.proofs.Listing.{owner_told}
use Rattle.ruledwords.proofs.OwnWords.{own_place}
use Rattle.ruledwords.proofs.Phases.{is_load_or_store}
use Rattle.ruledwords.specs.Calls.{row_in}

-- ---- points by which its thread holds what it held

abbrev IsNeutralOf : Operation → Type 0
IsNeutralOf operation.Wait = Unit {0}
IsNeutralOf operation.Signal = Unit {0}
IsNeutralOf operation.Broadcast = Unit {0}
IsNeutralOf op = ⊥

abbrev IsNeutral : Option Decided → Type 0
IsNeutral None = Unit {0}
IsNeutral (Some d) = IsNeutralOf d.operation

one_neutral : (b : Bool) (op : Operation) (x : Reply) → IsNeutralOf op → holds_after b op x ≡ b
one_neutral b operation.Wait x neutral = refl
one_neutral b operation.Signal x neutral = refl
one_neutral b operation.Broadcast x neutral = refl
one_neutral b operation.Lock x neutral = absurd neutral
one_neutral b operation.TryLock x neutral = absurd neutral
one_neutral b operation.TimedLock x neutral = absurd neutral
one_neutral b operation.TimedWait x neutral = absurd neutral
one_neutral b operation.Unlock x neutral = absurd neutral
one_neutral b operation.Consistent x neutral = absurd neutral
one_neutral b operation.Death x neutral = absurd neutral
one_neutral b operation.Reinit x neutral = absurd neutral

neutral_held : (b : Bool) (t z : ℕ) (d : Option Decided) → IsNeutral d → held_after b (points (point_of t z d)) ≡ b
neutral_held b t z None neutral = refl
neutral_held b t z (Some d) neutral = one_neutral b d.operation d.reply neutral

one_counted : (n : ℕ) (op : Operation) (x : Reply) → IsNeutralOf op → Rattle.ruledwords.specs.Calls.count_by n op x ≡ n
one_counted n operation.Wait x neutral = refl
one_counted n operation.Signal x neutral = refl
one_counted n operation.Broadcast x neutral = refl
one_counted n operation.Lock x neutral = absurd neutral
one_counted n operation.TryLock x neutral = absurd neutral
one_counted n operation.TimedLock x neutral = absurd neutral
one_counted n operation.TimedWait x neutral = absurd neutral
one_counted n operation.Unlock x neutral = absurd neutral
one_counted n operation.Consistent x neutral = absurd neutral
one_counted n operation.Death x neutral = absurd neutral
one_counted n operation.Reinit x neutral = absurd neutral

neutral_count : (n t z : ℕ) (d : Option Decided) → IsNeutral d → count_after n (point_of t z d) ≡ n
neutral_count n t z None neutral = refl
neutral_count n t z (Some d) neutral = one_counted n d.operation d.reply neutral

-- what was seen of mutex m, without a point that changes what the thread holds
module _ (k : Layout') (m : ℕ) (c d : Card) (new : List Point) (o : Object) (sees : Sees c (cell_place k m) new o d) (none : (b : Bool) → held_after b new ≡ b) where
  holds_as : (p : ℕ) → holds d.thread (at d.seen p) ≡ holds c.thread (at c.seen p)
  holds_as p = dite (ℕ_discrete p (cell_place k m))
      (λ here.
      ap (λ (t : ℕ). holds t (at d.seen p)) sees.thread
      ∙ subst (λ (z : ℕ). holds c.thread (at d.seen z) ≡ holds c.thread (at c.seen z)) (sym here) (ap (held_after false) sees.own ∙ held_append false (by c.thread (at c.seen (cell_place k m))) new ∙ none _))
      (λ other. ap (λ (t : ℕ). holds t (at d.seen p)) sees.thread ∙ ap (holds c.thread) (sees.elsewhere p other))

  pub owns_as : (l : ℕ) → owns_in k d l ≡ owns_in k c l
  owns_as l = holds_as (cell_place k l)

  pub held_as : held d ≡ held c
  held_as = ap (λ (t : ℕ). count_held t d.seen) sees.thread ∙ count_same c.thread d.seen c.seen (λ p. ap (λ (t : ℕ). holds t (at d.seen p)) (sym sees.thread) ∙ holds_as p)

-- ---- its list

-- who owns what it owned, and knows its own words as it knew them, is alive as it was
module _ (k : Layout') (c d : Card) (is : IsCardOf k c) (m : ℕ) (inside : m < k.mutexes) (same : d.thread ≡ c.thread) (kept : OwnKept k c d) (owns : (l : ℕ) → owns_in k d l ≡ owns_in k c l) where
  declaring : Whole
  declaring = record { thread = c.thread; operation = operation.Consistent; head = Rattle.mutex.specs.WholeLists.head_in k c.thread; entry = Rattle.mutex.specs.WholeLists.entry_in k c.thread m; cell = address_in k c.thread (cell_place k m); phase = phase.AtCell (row.Consistent consistent.Declare) }

  agree : AgreeOnOwn k c.thread (owns_in k c) (owns_in k d) (known k c) (known k d)
  agree q own own' =
      let below = (own_place k c q (is.first, is.thread) own).2 in
      let back : place_in k c.thread (address_in k c.thread q) ≡ q = again k c.thread is.layout is.first is.thread q below in
      ap (λ (v : Option ℕ). if nat_lt (address_in k c.thread q) (2 ^ 64) then or_zero v else 0)
      (ap (value_at d.values) (ap (λ (u : ℕ). place_in k u (address_in k c.thread q)) same ∙ back) ∙ kept.agrees q own (subst (λ (u : ℕ). IsOwnPlace k u (owns_in k d) q) (sym same) own') ∙ ap (value_at c.values) (sym back))

  pub alive_kept : IsAlive k c → IsAlive k d
  alive_kept alive =
      let list = alive.list in
      let came : Arrives k c.thread (owns_in k d) m operation.Consistent (phase.Ended OK) (known k d) =
      right.at_the_cell k c.thread (owns_in k c) (owns_in k d) m
      record { thread = c.thread; operation = operation.Consistent; head = Rattle.mutex.specs.WholeLists.head_in k c.thread; entry = Rattle.mutex.specs.WholeLists.entry_in k c.thread m; cell = address_in k c.thread (cell_place k m); phase = phase.AtCell (row.Consistent consistent.Declare) }
      (row.Consistent consistent.Declare) (Value 0) (known k c) (known k d) record { layout = is.layout; first = is.first; last = is.thread; mutex = inside } record { thread = refl; head = refl; entry = refl; cell = refl } refl
      record { knows = (tt, tt); stands = (tt, refl); entries = list.entries; owned = list.owned; chain = list.chain; pending = list.pending }
      record { here = owns m; elsewhere = λ l other. owns l; took = λ x some taken. absurd (cc taken); releases = tt; faultless = λ e. cc } agree in
      record { knows = kept.knows alive.knows; list = subst (λ (t : ℕ). HasList k t (owns_in k d) (known k d)) (sym same) came }

-- before its release a wait's list is as between calls, and so is a signal's and a broadcast's
pub alive_at_load : (k : Layout') (c : Card) (m : ℕ) (p : Whole) → p.phase ≡ phase.AtCell (row.Unlock unlock.Load) → IsInCall k c m p → IsAlive k c
alive_at_load k c m p is call =
    let list = subst (λ (f : Phase). KeepsList k c.thread (owns_in k c) m p.operation f (known k c)) is call.list in
    record { knows = call.knows; list = record { entries = list.entries; owned = list.owned; chain = list.chain; pending = list.pending } }

-- ---- sections

-- an own word has none
no_section : (a : Access) (x : Answer) → IsLoadOrStore a → IsCondAnswerOf a x → ⊥
no_section (access.Load at) x kind fits = fits
no_section (access.Store at v) x kind fits = fits
no_section a x kind fits = absurd kind

pub unlink_no_section : (u : UnlinkStanding) (x : Answer) → IsCondAnswerOf (unlink_access_of u) x → ⊥
unlink_no_section u x fits = no_section (unlink_access_of u) x (is_load_or_store (record { thread = 0; operation = operation.Unlock; head = 0; entry = 0; cell = 0; phase = phase.Unlinking u false }) tt) fits

-- ---- where a call stands, by its parts

module _ (k : Layout') (he en ce co t : ℕ) where
  abbrev pub whole : CondPhase → CondWhole
  whole f = record { thread = t; head = he; entry = en; cell = ce; counter = co; phase = f }

  abbrev pub q : ℕ
  q = condition_at k (whole (condition.Ended OK))

  abbrev pub m : ℕ
  m = mutex_at k q

  -- where an answer leads from the card c to the card d: the call goes on, or its thread is as between calls
  pub record Leads (c d : Card) (o : CondOnward) : Type 0 where
    pub card : IsCardOf k d
    pub thread : d.thread ≡ c.thread
    pub count : held d ≡ count_after (held c) o.point
    pub few : count_after (held c) o.point ≤ most_behind (cond_row_in o.phase)
    pub goes : IsAtCondition o.phase → IsInCondCall k d (whole o.phase)
    pub ends : (y : Reply) → o.phase ≡ condition.Ended y → IsAlive k d
    pub locks : (l : Whole) → o.phase ≡ condition.Locking l → ⊥

  module _ (c : Card) (is : IsCardOf k c) (on : IsOnCondition k q (cond_standing (whole (condition.Ended OK)))) (at_call : IsCallOn k c.thread m (unlock_of (whole (condition.Ended OK)))) (few : held c ≤ held_limit) where
    in_layout : m < k.mutexes
    in_layout = of_mutex k q is.layout on.inside

    legal : (z : Object) × Run fresh (at c.seen (cell_at k q)) z
    legal = let z = is.legal (cell_at k q) in (z.0, z.1.0)

    calls : (d : Card) → d.thread ≡ c.thread → (f : CondPhase) → IsCallOn k d.thread m (unlock_of (whole f))
    calls d same f = subst (λ (u : ℕ). IsCallOn k u m (unlock_of (whole f))) (sym same) record { thread = at_call.thread; head = at_call.head; entry = at_call.entry; cell = at_call.cell }

    at_load : (d : Card) → d.thread ≡ c.thread → IsAlive k d → (f : CondPhase) → list_phase f ≡ phase.AtCell (row.Unlock unlock.Load) → IsInCall k d m (unlock_of (whole f))
    at_load d same alive f is =
        let list = alive.list in
        record {
          inside = in_layout;
          knows = alive.knows;
          of = calls d same f;
          list = subst (λ (z : Phase). KeepsList k d.thread (owns_in k d) m operation.Unlock z (known k d)) (sym is)
              record { knows = (tt, tt); stands = (tt, refl); entries = list.entries; owned = list.owned; chain = list.chain; pending = list.pending };
        }

    -- ---- a step by which the thread holds what it held, and whose list is as between calls before and after

    module _ (d : Card) (card : IsCardOf k d) (same : d.thread ≡ c.thread) (held_same : held d ≡ held c) (alive : IsAlive k d) where
      neutral_ends : (y : Reply) (by : Option Decided) → IsNeutral by → Leads c d record { phase = condition.Ended y; point = point_of t ce by }
      neutral_ends y by neutral = record {
        card = card;
        thread = same;
        count = held_same ∙ sym (neutral_count (held c) t ce by neutral);
        few = subst (λ (n : ℕ). n ≤ held_limit) (sym (neutral_count (held c) t ce by neutral)) few;
        goes = λ there. absurd there;
        ends = λ z e. alive;
        locks = λ l e. cc;
      }

      neutral_goes : (r : CondRow) (by : Option Decided) → IsNeutral by → IsGoing r → list_phase (condition.AtWords r) ≡ phase.AtCell (row.Unlock unlock.Load) → most_behind r ≡ held_limit → CondReady k q r d → Leads c d record { phase = condition.AtWords r; point = point_of t ce by }
      neutral_goes r by neutral going at most ready = record {
        card = card;
        thread = same;
        count = held_same ∙ sym (neutral_count (held c) t ce by neutral);
        few = subst (λ (z : ℕ × ℕ). z.0 ≤ z.1) (λ i. (sym (neutral_count (held c) t ce by neutral) i, sym most i)) few;
        goes = λ there. record { on = record { inside = on.inside; cell = on.cell; counter = on.counter }; knows = going; list = at_load d same alive (condition.AtWords r) at; ready = ready };
        ends = λ z e. absurd (cc e);
        locks = λ l e. cc;
      }

      announces : (seen : ℕ) → owns_in k d m ≡ true → CondReady k q (cond.Wait (wait.Release seen)) d → Leads c d record { phase = condition.Announcing seen; point = None }
      announces seen own ready = let list = alive.list in record {
        card = card;
        thread = same;
        count = held_same;
        few = few;
        goes = λ there. record {
          on = record { inside = on.inside; cell = on.cell; counter = on.counter };
          knows = tt;
          list = record { inside = in_layout; knows = alive.knows; of = calls d same (condition.Announcing seen); list = record { knows = (tt, tt); stands = (tt, own, refl); entries = list.entries; owned = list.owned; chain = list.chain; pending = list.pending } };
          ready = ready;
        };
        ends = λ z e. absurd (cc e);
        locks = λ l e. cc;
      }

    -- ---- a step that sees more of the mutex

    module _ (d : Card) (new : List Point) (o : Object) (sees : Sees c (cell_at k q) new o d) (none : (b : Bool) → held_after b new ≡ b) (kept : OwnKept k c d) (alive : IsAlive k c) where
      card_then : IsCardOf k d
      card_then = still_card k c (cell_at k q) new o d is sees

      held_then : held d ≡ held c
      held_then = held_as k m c d new o sees none

      alive_then : IsAlive k d
      alive_then = alive_kept k c d is m in_layout sees.thread kept (owns_as k m c d new o sees none) alive

      seen_then : (z : Object) → Run fresh (at d.seen (cell_at k q)) z → z ≡ o
      seen_then z run = run_same fresh z o (at d.seen (cell_at k q)) run sees.leaves.0

      sees_ends : (y : Reply) (by : Option Decided) → IsNeutral by → Leads c d record { phase = condition.Ended y; point = point_of t ce by }
      sees_ends y by neutral = neutral_ends d card_then sees.thread held_then alive_then y by neutral

      sees_goes : (r : CondRow) (by : Option Decided) → IsNeutral by → IsGoing r → list_phase (condition.AtWords r) ≡ phase.AtCell (row.Unlock unlock.Load) → most_behind r ≡ held_limit → Needs d.thread r o (value_at d.values (counter_place k q)) (mark_at d.marks (cell_at k q)) → Leads c d record { phase = condition.AtWords r; point = point_of t ce by }
      sees_goes r by neutral going at most needs = neutral_goes d card_then sees.thread held_then alive_then r by neutral going at most
          (λ z run. subst (λ (x : Object). Needs d.thread r x (value_at d.values (counter_place k q)) (mark_at d.marks (cell_at k q))) (sym (seen_then z run)) needs)

      sees_announces : (seen : ℕ) → o.owner ≡ Some d.thread → o.inconsistent ≡ false → Leads c d record { phase = condition.Announcing seen; point = None }
      sees_announces seen own clean = announces d card_then sees.thread held_then alive_then seen
          (owner_held d.thread fresh (at d.seen (cell_at k q)) o sees.leaves.0 ∙ owner_told d.thread o own)
          (λ z run. subst (λ (x : Object). (x.owner ≡ Some d.thread) × (x.inconsistent ≡ false)) (sym (seen_then z run)) (own, clean))

      -- the word said that its thread is the owner
      owner_by_word : (w : ℕ) → o ≡ object_of (fields_of w) → (fields_of w).owner ≡ t → o.owner ≡ Some d.thread
      owner_by_word w at_word own =
          ap (λ (x : Object). x.owner) at_word ∙ ap Rattle.posixmutex.specs.Objects.owner_of own ∙ owner_of-some t (subst (λ (u : ℕ). 1 ≤ u) (sym at_call.thread) is.first) ∙ ap Some (at_call.thread ∙ sym sees.thread)

    -- ---- the first load

    wait_neutral : (b e : Bool) → IsNeutral (if not b then ends operation.Wait EPERM else if e then ends operation.Wait XSTATE else goes (cond.Wait wait.LoadCounter)).decided
    wait_neutral false e = tt
    wait_neutral true true = tt
    wait_neutral true false = tt

    signal_neutral : (b : Bool) → IsNeutral (if not b then ends operation.Signal EPERM else goes (cond.Signal signal.LoadCounter)).decided
    signal_neutral false = tt
    signal_neutral true = tt

    broadcast_neutral : (b : Bool) → IsNeutral (if not b then ends operation.Broadcast EPERM else goes (cond.Broadcast broadcast.LoadCounter)).decided
    broadcast_neutral false = tt
    broadcast_neutral true = tt

    pub wait_meets : (n : ℕ) (d : Card) → IsAlive k c → Meets k q (cond_standing (whole (condition.AtWords (cond.Wait wait.LoadCell)))) c n d → Leads c d (cond_led (whole (condition.AtWords (cond.Wait wait.LoadCell))) (Value n))
    wait_meets n d alive found = go ((fields_of n).owner == t) refl (fields_of n).died refl
      where
        none : (b : Bool) → held_after b (points (point_of c.thread (cell_at k q) (if not ((fields_of n).owner == t) then ends operation.Wait EPERM else if (fields_of n).died then ends operation.Wait XSTATE else goes (cond.Wait wait.LoadCounter)).decided)) ≡ b
        none b = neutral_held b c.thread (cell_at k q) _ (wait_neutral ((fields_of n).owner == t) (fields_of n).died)

        go : (b : Bool) → ((fields_of n).owner == t) ≡ b → (e : Bool) → (fields_of n).died ≡ e → Leads c d (from_words (whole (condition.AtWords (cond.Wait wait.LoadCell))) (if not b then ends operation.Wait EPERM else if e then ends operation.Wait XSTATE else goes (cond.Wait wait.LoadCounter)))
        go false other e died = sees_ends d _ _ found.sees none found.kept alive EPERM (Some (record { operation = operation.Wait; reply = EPERM })) tt
        go true own true died = sees_ends d _ _ found.sees none found.kept alive XSTATE (Some (record { operation = operation.Wait; reply = XSTATE })) tt
        go true own false died = sees_goes d _ _ found.sees none found.kept alive (cond.Wait wait.LoadCounter) None tt tt refl refl (owner_by_word d _ _ found.sees none found.kept alive n refl (eqb-true (fields_of n).owner t own), died)

    pub signal_meets : (n : ℕ) (d : Card) → IsAlive k c → Meets k q (cond_standing (whole (condition.AtWords (cond.Signal signal.LoadCell)))) c n d → Leads c d (cond_led (whole (condition.AtWords (cond.Signal signal.LoadCell))) (Value n))
    signal_meets n d alive found = go ((fields_of n).owner == t) refl
      where
        none : (b : Bool) → held_after b (points (point_of c.thread (cell_at k q) (if not ((fields_of n).owner == t) then ends operation.Signal EPERM else goes (cond.Signal signal.LoadCounter)).decided)) ≡ b
        none b = neutral_held b c.thread (cell_at k q) _ (signal_neutral ((fields_of n).owner == t))

        go : (b : Bool) → ((fields_of n).owner == t) ≡ b → Leads c d (from_words (whole (condition.AtWords (cond.Signal signal.LoadCell))) (if not b then ends operation.Signal EPERM else goes (cond.Signal signal.LoadCounter)))
        go false other = sees_ends d _ _ found.sees none found.kept alive EPERM (Some (record { operation = operation.Signal; reply = EPERM })) tt
        go true own = sees_goes d _ _ found.sees none found.kept alive (cond.Signal signal.LoadCounter) None tt tt refl refl (owner_by_word d _ _ found.sees none found.kept alive n refl (eqb-true (fields_of n).owner t own))

    pub broadcast_meets : (n : ℕ) (d : Card) → IsAlive k c → Meets k q (cond_standing (whole (condition.AtWords (cond.Broadcast broadcast.LoadCell)))) c n d → Leads c d (cond_led (whole (condition.AtWords (cond.Broadcast broadcast.LoadCell))) (Value n))
    broadcast_meets n d alive found = go ((fields_of n).owner == t) refl
      where
        none : (b : Bool) → held_after b (points (point_of c.thread (cell_at k q) (if not ((fields_of n).owner == t) then ends operation.Broadcast EPERM else goes (cond.Broadcast broadcast.LoadCounter)).decided)) ≡ b
        none b = neutral_held b c.thread (cell_at k q) _ (broadcast_neutral ((fields_of n).owner == t))

        go : (b : Bool) → ((fields_of n).owner == t) ≡ b → Leads c d (from_words (whole (condition.AtWords (cond.Broadcast broadcast.LoadCell))) (if not b then ends operation.Broadcast EPERM else goes (cond.Broadcast broadcast.LoadCounter)))
        go false other = sees_ends d _ _ found.sees none found.kept alive EPERM (Some (record { operation = operation.Broadcast; reply = EPERM })) tt
        go true own = sees_goes d _ _ found.sees none found.kept alive (cond.Broadcast broadcast.LoadCounter) None tt tt refl refl (owner_by_word d _ _ found.sees none found.kept alive n refl (eqb-true (fields_of n).owner t own))

    -- ---- at the counter

    owner_then : (n : ℕ) (d : Card) (r : CondRow) (found : Counts k q (cond_standing (whole (condition.AtWords r))) c n d) → found.object.owner ≡ Some d.thread
    owner_then n d r found = found.owner ∙ ap Some (sym found.sees.thread)

    pub wait_counter : (n : ℕ) (d : Card) → IsAlive k c → CondReady k q (cond.Wait wait.LoadCounter) c → Counts k q (cond_standing (whole (condition.AtWords (cond.Wait wait.LoadCounter)))) c n d
        → Leads c d (cond_led (whole (condition.AtWords (cond.Wait wait.LoadCounter))) (Value n))
    wait_counter n d alive ready found = sees_announces d _ _ found.sees (λ b. refl) found.kept alive (n % 2 ^ 32) (owner_then n d (cond.Wait wait.LoadCounter) found)
        (ap (λ (x : Object). x.inconsistent) (found.still legal.0 legal.1) ∙ (ready legal.0 legal.1).1)

    signal_full : (b : Bool) → IsNeutral (if b then ends operation.Signal XFULL else goes (cond.Signal signal.Count)).decided
    signal_full true = tt
    signal_full false = tt

    pub signal_counter : (n : ℕ) (d : Card) → IsAlive k c → Counts k q (cond_standing (whole (condition.AtWords (cond.Signal signal.LoadCounter)))) c n d → Leads c d (cond_led (whole (condition.AtWords (cond.Signal signal.LoadCounter))) (Value n))
    signal_counter n d alive found = go (n == full) refl
      where
        none : (b : Bool) → held_after b (points (point_of c.thread (cell_at k q) (if n == full then ends operation.Signal XFULL else goes (cond.Signal signal.Count)).decided)) ≡ b
        none b = neutral_held b c.thread (cell_at k q) _ (signal_full (n == full))

        go : (b : Bool) → (n == full) ≡ b → Leads c d (from_words (whole (condition.AtWords (cond.Signal signal.LoadCounter))) (if b then ends operation.Signal XFULL else goes (cond.Signal signal.Count)))
        go true is_full = sees_ends d _ _ found.sees none found.kept alive XFULL (Some (record { operation = operation.Signal; reply = XFULL })) tt
        go false some_room = sees_goes d _ _ found.sees none found.kept alive (cond.Signal signal.Count) None tt tt refl refl (owner_then n d (cond.Signal signal.LoadCounter) found, (n, found.value, eqb-false n full some_room))

    pub signal_count : (n : ℕ) (d : Card) → IsAlive k c → Counts k q (cond_standing (whole (condition.AtWords (cond.Signal signal.Count)))) c n d → Leads c d (cond_led (whole (condition.AtWords (cond.Signal signal.Count))) (Value n))
    signal_count n d alive found = sees_goes d _ _ found.sees (λ b. refl) found.kept alive (cond.Signal signal.Wake) (Some (record { operation = operation.Signal; reply = OK })) tt tt refl refl tt

    broadcast_full : (b : Bool) (seen : ℕ) → IsNeutral (if b then ends operation.Broadcast XFULL else goes (cond.Broadcast (broadcast.Count seen))).decided
    broadcast_full true seen = tt
    broadcast_full false seen = tt

    pub broadcast_counter : (n : ℕ) (d : Card) → IsAlive k c → Counts k q (cond_standing (whole (condition.AtWords (cond.Broadcast broadcast.LoadCounter)))) c n d
        → Leads c d (cond_led (whole (condition.AtWords (cond.Broadcast broadcast.LoadCounter))) (Value n))
    broadcast_counter n d alive found = go (n == full) refl
      where
        little : n ≤ largest_counter
        little = found.within

        low : n % 2 ^ 32 ≡ n
        low = let bound = little in omega arith

        none : (b : Bool) → held_after b (points (point_of c.thread (cell_at k q) (if n == full then ends operation.Broadcast XFULL else goes (cond.Broadcast (broadcast.Count (n % 2 ^ 32)))).decided)) ≡ b
        none b = neutral_held b c.thread (cell_at k q) _ (broadcast_full (n == full) (n % 2 ^ 32))

        go : (b : Bool) → (n == full) ≡ b → Leads c d (from_words (whole (condition.AtWords (cond.Broadcast broadcast.LoadCounter))) (if b then ends operation.Broadcast XFULL else goes (cond.Broadcast (broadcast.Count (n % 2 ^ 32)))))
        go true is_full = sees_ends d _ _ found.sees none found.kept alive XFULL (Some (record { operation = operation.Broadcast; reply = XFULL })) tt
        go false some_room = sees_goes d _ _ found.sees none found.kept alive (cond.Broadcast (broadcast.Count (n % 2 ^ 32))) None tt tt refl refl
            (owner_then n d (cond.Broadcast broadcast.LoadCounter) found, found.value ∙ ap Some (sym low), λ is_full. eqb-false n full some_room (sym low ∙ is_full))

    pub broadcast_count : (seen n : ℕ) (d : Card) → IsAlive k c → CondReady k q (cond.Broadcast (broadcast.Count seen)) c → Counts k q (cond_standing (whole (condition.AtWords (cond.Broadcast (broadcast.Count seen))))) c n d
        → Leads c d (cond_led (whole (condition.AtWords (cond.Broadcast (broadcast.Count seen)))) (Value n))
    broadcast_count seen n d alive ready found =
        let knew = (ready legal.0 legal.1).1 in
        let is_seen : n ≡ seen = found.known seen knew in
        let bound = found.within in
        let next : (n + 1) % 18446744073709551616 ≡ seen + 1 = omega arith in
        sees_goes d _ _ found.sees (λ b. refl) found.kept alive (cond.Broadcast (broadcast.SetWaiters seen)) (Some (record { operation = operation.Broadcast; reply = OK })) tt tt refl refl
        (owner_then n d (cond.Broadcast (broadcast.Count seen)) found, found.value ∙ ap Some next)

    -- ---- a setting of WAITERS

    alive_set : (n : ℕ) (zs : List (List Change)) → IsAlive k c → IsAlive k (having_set c (cell_at k q) n zs)
    alive_set n zs alive = record { knows = record { each = alive.knows.each; offset = alive.knows.offset }; list = alive.list }

    pub sets_waiters : (seen n : ℕ) (d : Card) → IsAlive k c → CondReady k q (cond.Broadcast (broadcast.SetWaiters seen)) c → d ≡ having_set c (cell_at k q) n d.changes → Leads c d (cond_led (whole (condition.AtWords (cond.Broadcast (broadcast.SetWaiters seen)))) (Value n))
    sets_waiters seen n d alive ready has_set = subst (λ (z : Card). Leads c z (cond_led (whole (condition.AtWords (cond.Broadcast (broadcast.SetWaiters seen)))) (Value n))) (sym has_set)
        (neutral_goes (having_set c (cell_at k q) n d.changes) (is_marking k c n (having_set c (cell_at k q) n d.changes).marks d.changes is) refl refl (alive_set n d.changes alive) (cond.Broadcast (broadcast.Move seen)) None tt tt refl refl
        (λ o run. let needs = ready o run in (needs.0, needs.1, mark_put c.marks (cell_at k q) true)))
