-- A wait's release, and its way through its thread's list before that; and any step or section of a call on a condition variable: what it leaves of its thread's list, the count of what it holds, and what the next row needs.
use Rattle.std.proofs.Common.{Bool, true, false, ◌≡◌, ℕ, ◌-◌, ◌^◌, ◌<◌, ◌≤◌, Option, Some, List, refl, sym, ap, ◌∙◌, subst, arith}
use Rattle.std.specs.Prelude.{if◌then◌else◌}
use Rattle.lockword.specs.Cells.{fields_of}
use Rattle.lockword.specs.declared.reply.Reply.{Reply}
use Rattle.lockword.specs.declared.reply.Reply.TheVariants.{OK}
use Rattle.stepprograms.specs.declared.access.Access.{Access}
use Rattle.stepprograms.specs.declared.access.Answer.{Answer}
use Rattle.stepprograms.specs.declared.access.Answer.TheVariants.{Again, Count, Counts as Moved, Stored, Value, Woken}
use Rattle.posixmutex.specs.declared.object.Object.{Object}
use Rattle.posixmutex.specs.declared.point.Operation.TheVariants as operation
use Rattle.posixmutex.specs.declared.point.Point.{Point}
use Rattle.stepprograms.specs.Accesses.{answer_at}
use Rattle.memorymap.specs.Addresses.{address_from}
use Rattle.memorymap.specs.Layouts.{Layout', base_of, counter_place}
use Rattle.posixmutex.specs.Objects.{fresh, held_limit, Run}
use Rattle.mutex.proofs.Addresses.{few_words, low}
use Rattle.robustlist.specs.declared.unlink.UnlinkRow.{UnlinkRow}
use Rattle.robustlist.specs.declared.unlink.UnlinkRow.TheVariants as unlink_row
use Rattle.robustlist.specs.Standings.{UnlinkStanding}
use Rattle.robustlist.specs.Unlink.{unlink_access_of, unlink_moved, unlink_started}
use Rattle.robustlist.specs.Words.{answer_on}
use Rattle.mutex.specs.declared.phase.Phase.{Phase}
use Rattle.mutex.specs.declared.phase.Phase.TheVariants as phase
use Rattle.mutex.specs.declared.row.Row.TheVariants as row
use Rattle.mutex.specs.declared.unlock.UnlockRow.TheVariants as unlock
use Rattle.mutex.specs.Standings.{Standing, Whole}
use Rattle.mutex.specs.Whole.{after_cell, retaking, IsUnderWay}
use Rattle.mutex.specs.Whole.{unlinked_at as whole_unlinked_at}
use Rattle.mutex.specs.WholeLists.{IsCallOn}
use Rattle.condvar.specs.declared.broadcast.BroadcastRow.TheVariants as broadcast
use Rattle.condvar.specs.declared.phase.CondOnward.{CondOnward}
use Rattle.condvar.specs.declared.phase.CondPhase.{CondPhase}
use Rattle.condvar.specs.declared.phase.CondPhase.TheVariants as condition
use Rattle.condvar.specs.declared.row.CondRow.{CondRow}
use Rattle.condvar.specs.declared.row.CondRow.TheVariants as cond
use Rattle.condvar.specs.declared.signal.SignalRow.TheVariants as signal
use Rattle.condvar.specs.declared.wait.WaitRow.TheVariants as wait
use Rattle.condvar.specs.Programs.{point_of}
use Rattle.condvar.specs.Rows.{decides, goes, IsGoing}
use Rattle.condvar.specs.Standings.{CondWhole}
use Rattle.condvar.specs.Whole.{cond_access, cond_led, from_words, onward, unlinked_at}
use Rattle.ruledwords.specs.declared.pass.Card.{Card}
use Rattle.ruledwords.specs.Calls.{count_after, Made, OwnKept, Ready}
use Rattle.ruledwords.specs.Cards.{at, mark_at, value_at}
use Rattle.ruledwords.specs.ConditionCalls.{CondFound, IsCondAnswerOf, IsCondStep, IsInCondCall}
use Rattle.ruledwords.specs.Conditions.{cond_row_in, cond_standing, list_phase, most_behind, release_of, unlock_of, CondReady, IsAtCondition, IsOnCondition, Needs}
use Rattle.ruledwords.specs.Counts.{cell_at}
use Rattle.ruledwords.specs.Lists.{known, IsAlive, IsInCall}
use Rattle.ruledwords.specs.OwnWords.{own_after}
use Rattle.ruledwords.specs.Passes.{IsCardOf}
use Rattle.ruledwords.specs.Seen.{held}
use Rattle.ruledwords.proofs.Cards.{still_card}
use Rattle.ruledwords.proofs.Counts.{of_mutex}
use Rattle.ruledwords.proofs.Listing.{goes_made, goes_own}
use Rattle.ruledwords.proofs.OwnTurns.{card_own, own_same}
use Rattle.ruledwords.proofs.Phases.{own_fits, own_moved, is_load_or_store}
use Rattle.ruledwords.proofs.Standing.{held_made}
use Rattle.ruledwords.specs.Calls.{row_in}
use Rattle.ruledwords.proofs.ConditionActs.{alive_at_load, broadcast_count, broadcast_counter, broadcast_meets, sets_waiters, signal_count, signal_counter, signal_meets, unlink_no_section, wait_counter, wait_meets, whole, m as mutex, q as number, Leads}

module _ (k : Layout') (he en ce co t : ℕ) where
  abbrev stage : CondPhase → CondWhole
  stage f = whole k he en ce co t f

  abbrev q : ℕ
  q = number k he en ce co t

  abbrev m : ℕ
  m = mutex k he en ce co t

  abbrev Leading : Card → Card → CondOnward → Type 0
  Leading c d o = Leads k he en ce co t c d o

  module _ (c : Card) (is : IsCardOf k c) (on : IsOnCondition k q (cond_standing (stage (condition.Ended OK)))) (at_call : IsCallOn k c.thread m (unlock_of (stage (condition.Ended OK)))) (few : held c ≤ held_limit) where
    in_layout : m < k.mutexes
    in_layout = of_mutex k q is.layout on.inside

    -- ---- a release

    abbrev pub releasing : ℕ → Standing
    releasing seen = release_of (cond_standing (stage (condition.AtWords (cond.Wait (wait.Release seen)))))

    abbrev behind_release : (seen : ℕ) (b : Bool) → Phase
    behind_release seen b = after_cell (unlock_of (stage (condition.AtWords (cond.Wait (wait.Release seen))))) (if b then row.Unlock (unlock.Wake false) else row.Ended OK)

    pub release_ready : (seen : ℕ) → CondReady k q (cond.Wait (wait.Release seen)) c → Ready (releasing seen) c
    release_ready seen ready =
        let there : ce ≡ Rattle.ruledwords.specs.Calls.address_at c (cell_at k q) = on.cell ∙ ap (λ (b : ℕ). address_from b (cell_at k q)) (ap (base_of k) at_call.thread ∙ sym is.base) in
        let bound = few_words k c.thread is.layout is.first is.thread in
        let inside = in_layout in
        let small_cell : cell_at k q < 2 ^ 64 = omega arith in
        let base : c.base ≤ 1000000000 = subst (λ (b : ℕ). b ≤ 1000000000) (sym is.base) (low k c.thread is.layout is.first is.thread) in
        (at_call.thread, tt, λ z o small at_it run. let here : z ≡ cell_at k q = omega (arith, small_cell, small, at_it, there, base) in ready o (subst (λ (w : ℕ). Run fresh (at c.seen w) o) here run))

    releases : (seen n : ℕ) (d : Card) → IsInCall k c m (unlock_of (stage (condition.AtWords (cond.Wait (wait.Release seen))))) → CondReady k q (cond.Wait (wait.Release seen)) c → Made (releasing seen) (cell_at k q) c n d → OwnKept k c d
        → Leading c d (cond_led (stage (condition.AtWords (cond.Wait (wait.Release seen)))) (Value n))
    releases seen n d call ready made kept = go (fields_of n).waiters refl
      where
        p : Whole
        p = unlock_of (stage (condition.AtWords (cond.Wait (wait.Release seen))))

        card_then' : IsCardOf k d
        card_then' = still_card k c (cell_at k q) _ _ d is made.sees

        clearing : (b : Bool) → IsInCall k d m (record { thread = t; operation = operation.Unlock; head = he; entry = en; cell = ce; phase = behind_release seen b }) → IsInCall k d m (unlock_of (stage (condition.AtWords (cond.Wait (wait.Sleep seen)))))
        clearing true came = record {
          inside = came.inside;
          knows = came.knows;
          of = record { thread = came.of.thread; head = came.of.head; entry = came.of.entry; cell = came.of.cell };
          list = record { knows = tt; stands = tt; entries = came.list.entries; owned = came.list.owned; chain = came.list.chain; pending = came.list.pending };
        }
        clearing false came = came

        under : (b : Bool) → IsUnderWay (behind_release seen b)
        under true = tt
        under false = tt

        list_then : (b : Bool) → (fields_of n).waiters ≡ b → IsInCall k d m (unlock_of (stage (condition.AtWords (cond.Wait (wait.Sleep seen)))))
        list_then b e = clearing b (subst (λ (z : Bool). IsInCall k d m (record { thread = t; operation = operation.Unlock; head = he; entry = en; cell = ce; phase = behind_release seen z })) e
            (goes_made k c is m (unlock_of (stage (condition.AtWords (cond.Wait (wait.Release seen))))) call tt d n tt tt (release_ready seen ready) made kept (under (fields_of n).waiters)))

        leads_to : (r : CondRow) → IsGoing r → list_phase (condition.AtWords r) ≡ phase.Clearing OK → most_behind r ≡ held_limit - 1 → ((o : Object) (v : Option ℕ) (w : Bool) → Needs d.thread r o v w) → (b : Bool) → (fields_of n).waiters ≡ b
            → Leading c d record { phase = condition.AtWords r; point = point_of t ce (Some (record { operation = operation.Unlock; reply = OK })) }
        leads_to r going at most needs b e = record {
          card = card_then';
          thread = made.sees.thread;
          count = held_made (releasing seen) (cell_at k q) c d n tt tt (release_ready seen ready) made;
          few = subst (λ (z : ℕ). held c - 1 ≤ z) (sym most) (omega arith);
          goes = λ there. record {
            on = record { inside = on.inside; cell = on.cell; counter = on.counter };
            knows = going;
            list = subst (λ (f : Phase). IsInCall k d m (record { thread = t; operation = operation.Unlock; head = he; entry = en; cell = ce; phase = f })) (sym at) (list_then b e);
            ready = λ o run. needs o (value_at d.values (counter_place k q)) (mark_at d.marks (cell_at k q));
          };
          ends = λ z e. absurd (cc e);
          locks = λ l e. cc;
        }

        go : (b : Bool) → (fields_of n).waiters ≡ b → Leading c d (from_words (stage (condition.AtWords (cond.Wait (wait.Release seen)))) (decides (if b then cond.Wait (wait.Wake seen) else cond.Wait (wait.Sleep seen)) operation.Unlock OK))
        go true e = leads_to (cond.Wait (wait.Wake seen)) tt refl refl (λ o v w. tt) true e
        go false e = leads_to (cond.Wait (wait.Sleep seen)) tt refl refl (λ o v w. tt) false e

    -- ---- at its thread's own words

    own_seen : (a : Access) (d : Card) → d ≡ own_after k c a → IsCardOf k d × (d.thread ≡ c.thread) × (held d ≡ held c) × (d.seen ≡ c.seen)
    own_seen a d same =
        let e : d ≡ record c { values = (own_after k c a).values } = same ∙ own_same k c a in
        (subst (IsCardOf k) (sym same) (card_own k c a is), ap (λ (z : Card). z.thread) e, ap held e, ap (λ (z : Card). z.seen) e)

    -- what a release needs is seen as before
    release_still : (seen : ℕ) (a : Access) (d : Card) → d ≡ own_after k c a → CondReady k q (cond.Wait (wait.Release seen)) c → CondReady k q (cond.Wait (wait.Release seen)) d
    release_still seen a d same ready o run =
        let s = own_seen a d same in
        subst (λ (u : ℕ). (o.owner ≡ Some u) × (o.inconsistent ≡ false)) (sym s.1) (ready o (subst (λ (x : List (List Point)). Run fresh (at x (cell_at k q)) o) s.3 run))

    own_leads : (a : Access) (d : Card) (f : CondPhase) → d ≡ own_after k c a → most_behind (cond_row_in f) ≡ held_limit → (IsAtCondition f → IsInCondCall k d (stage f)) → IsAtCondition f → Leading c d (onward f)
    own_leads a d f same most goes there = let s = own_seen a d same in record {
      card = s.0;
      thread = s.1;
      count = s.2;
      few = subst (λ (z : ℕ). held c ≤ z) (sym most) few;
      goes = goes;
      ends = λ y e. absurd (subst IsAtCondition e there);
      locks = λ l e. subst IsAtCondition e there;
    }

    announced : (seen : ℕ) (d : Card) → IsInCall k c m (unlock_of (stage (condition.Announcing seen))) → CondReady k q (cond.Wait (wait.Release seen)) c → d ≡ own_after k c (cond_access (stage (condition.Announcing seen))) → Leading c d (cond_led (stage (condition.Announcing seen)) Stored)
    announced seen d call ready same =
        let came = subst (λ (z : Card). IsInCall k z m (unlock_of (stage (condition.Unlinking (unlink_started he en) seen)))) (sym same) (goes_own k c is m (unlock_of (stage (condition.Announcing seen))) call tt tt) in
        own_leads (cond_access (stage (condition.Announcing seen))) d (condition.Unlinking (unlink_started he en) seen) same refl
        (λ there. record { on = record { inside = on.inside; cell = on.cell; counter = on.counter }; knows = came.list.knows; list = came; ready = release_still seen (cond_access (stage (condition.Announcing seen))) d same ready }) tt

    -- an unlink that is answered goes on, or is through
    pub unlinks_on : (u : UnlinkStanding) (seen : ℕ) → IsInCall k c m (unlock_of (stage (condition.Unlinking u seen)))
        → row_in (whole_unlinked_at (unlink_moved u (answer_on (unlink_access_of u) (known k c))) (unlink_moved u (answer_on (unlink_access_of u) (known k c))).row false) ≡ row.Unlock (unlock.Release false)
    unlinks_on u seen call = ap (λ (z : Standing). z.row)
        (own_moved (unlock_of (stage (condition.Unlinking u seen))) (answer_on (unlink_access_of u) (known k c)) tt call.list.knows (own_fits (unlink_access_of u) (known k c) (is_load_or_store (unlock_of (stage (condition.Unlinking u seen))) tt)))

    unlinks : (u : UnlinkStanding) (seen : ℕ) (d : Card) → IsInCall k c m (unlock_of (stage (condition.Unlinking u seen))) → CondReady k q (cond.Wait (wait.Release seen)) c → d ≡ own_after k c (unlink_access_of u)
        → Leading c d (cond_led (stage (condition.Unlinking u seen)) (answer_on (unlink_access_of u) (known k c)))
    unlinks u seen d call ready same = by_row (unlink_moved u x).row (unlinks_on u seen call) came
      where
        p : Whole
        p = unlock_of (stage (condition.Unlinking u seen))

        x : Answer
        x = answer_on (unlink_access_of u) (known k c)

        came : IsUnderWay (whole_unlinked_at (unlink_moved u x) (unlink_moved u x).row false) → IsInCall k d m (record { thread = t; operation = operation.Unlock; head = he; entry = en; cell = ce; phase = whole_unlinked_at (unlink_moved u x) (unlink_moved u x).row false })
        came under = subst (λ (z : Card). IsInCall k z m (record { thread = t; operation = operation.Unlock; head = he; entry = en; cell = ce; phase = whole_unlinked_at (unlink_moved u x) (unlink_moved u x).row false })) (sym same)
            (goes_own k c is m (unlock_of (stage (condition.Unlinking u seen))) call tt under)

        still : (v : UnlinkStanding) → IsInCall k d m (unlock_of (stage (condition.Unlinking v seen))) → Leading c d (onward (condition.Unlinking v seen))
        still v list = own_leads (unlink_access_of u) d (condition.Unlinking v seen) same refl
            (λ there. record { on = record { inside = on.inside; cell = on.cell; counter = on.counter }; knows = list.list.knows; list = list; ready = release_still seen (unlink_access_of u) d same ready }) tt

        by_row : (r : UnlinkRow) → row_in (whole_unlinked_at (unlink_moved u x) r false) ≡ row.Unlock (unlock.Release false)
            → (IsUnderWay (whole_unlinked_at (unlink_moved u x) r false) → IsInCall k d m (record { thread = t; operation = operation.Unlock; head = he; entry = en; cell = ce; phase = whole_unlinked_at (unlink_moved u x) r false }))
            → Leading c d (onward (unlinked_at (unlink_moved u x) r seen))
        by_row (unlink_row.Ended OK) at list = own_leads (unlink_access_of u) d (condition.AtWords (cond.Wait (wait.Release seen))) same refl
            (λ there. record { on = record { inside = on.inside; cell = on.cell; counter = on.counter }; knows = tt; list = list tt; ready = release_still seen (unlink_access_of u) d same ready }) tt
        by_row (unlink_row.Ended y) at list = absurd (cc at)
        by_row unlink_row.LoadNext at list = still (unlink_moved u x) (list tt)
        by_row (unlink_row.LoadPrevious a) at list = still (unlink_moved u x) (list tt)
        by_row (unlink_row.StoreNext a b) at list = still (unlink_moved u x) (list tt)
        by_row (unlink_row.StorePrevious a b) at list = still (unlink_moved u x) (list tt)

    -- ---- any step

    pub steps_on : (f : CondPhase) → IsAtCondition f → IsInCondCall k c (stage f) → IsCondStep (cond_access (stage f)) → (n : ℕ) (d : Card) → CondFound k (stage f) f c n d → Leading c d (cond_led (stage f) (answer_at (cond_access (stage f)) n))
    steps_on (condition.AtWords (cond.Wait wait.LoadCell)) there call one n d found = wait_meets k he en ce co t c is on at_call few n d (alive_at_load k c m _ refl call.list) found
    steps_on (condition.AtWords (cond.Wait wait.LoadCounter)) there call one n d found = wait_counter k he en ce co t c is on at_call few n d (alive_at_load k c m _ refl call.list) call.ready found
    steps_on (condition.AtWords (cond.Wait (wait.Release seen))) there call one n d found = releases seen n d call.list call.ready found.0 found.1
    steps_on (condition.AtWords (cond.Wait (wait.Wake seen))) there call one n d found = absurd one
    steps_on (condition.AtWords (cond.Wait (wait.Sleep seen))) there call one n d found = absurd one
    steps_on (condition.AtWords (cond.Signal signal.LoadCell)) there call one n d found = signal_meets k he en ce co t c is on at_call few n d (alive_at_load k c m _ refl call.list) found
    steps_on (condition.AtWords (cond.Signal signal.LoadCounter)) there call one n d found = signal_counter k he en ce co t c is on at_call few n d (alive_at_load k c m _ refl call.list) found
    steps_on (condition.AtWords (cond.Signal signal.Count)) there call one n d found = signal_count k he en ce co t c is on at_call few n d (alive_at_load k c m _ refl call.list) found
    steps_on (condition.AtWords (cond.Signal signal.Wake)) there call one n d found = absurd one
    steps_on (condition.AtWords (cond.Broadcast broadcast.LoadCell)) there call one n d found = broadcast_meets k he en ce co t c is on at_call few n d (alive_at_load k c m _ refl call.list) found
    steps_on (condition.AtWords (cond.Broadcast broadcast.LoadCounter)) there call one n d found = broadcast_counter k he en ce co t c is on at_call few n d (alive_at_load k c m _ refl call.list) found
    steps_on (condition.AtWords (cond.Broadcast (broadcast.Count seen))) there call one n d found = broadcast_count k he en ce co t c is on at_call few seen n d (alive_at_load k c m _ refl call.list) call.ready found
    steps_on (condition.AtWords (cond.Broadcast (broadcast.SetWaiters seen))) there call one n d found = sets_waiters k he en ce co t c is on at_call few seen n d (alive_at_load k c m _ refl call.list) call.ready found.0
    steps_on (condition.AtWords (cond.Broadcast (broadcast.Move seen))) there call one n d found = absurd one
    steps_on (condition.AtWords cond.Awake) there call one n d found = absurd call.knows
    steps_on (condition.AtWords (cond.Ended x)) there call one n d found = absurd call.knows
    steps_on (condition.Announcing seen) there call one n d found = announced seen d call.list call.ready found.0
    steps_on (condition.Unlinking u seen) there call one n d found = subst (λ (x : Answer). Leading c d (cond_led (stage (condition.Unlinking u seen)) x)) (sym found.1) (unlinks u seen d call.list call.ready found.0)
    steps_on (condition.Locking w) there call one n d found = absurd there
    steps_on (condition.Ended x) there call one n d found = absurd there

    -- ---- any section

    -- where its answer leads
    pub record Answered (o : CondOnward) : Type 0 where
      pub goes : IsAtCondition o.phase → IsInCondCall k c (stage o.phase)
      pub locks : (l : Whole) → o.phase ≡ condition.Locking l → IsInCall k c m l
      pub ends : (y : Reply) → o.phase ≡ condition.Ended y → IsAlive k c

    replied : (y : Reply) → IsAlive k c → Answered (onward (condition.Ended y))
    replied y alive = record { goes = λ there. absurd there; locks = λ l e. absurd (cc e); ends = λ z e. alive }

    retakes : (seen : ℕ) → IsInCall k c m (unlock_of (stage (condition.AtWords (cond.Wait (wait.Sleep seen))))) → Answered (onward (condition.Locking (retaking t he en ce)))
    retakes seen call = record {
      goes = λ there. absurd there;
      locks = λ l e. let same : retaking t he en ce ≡ l = cc e in subst (IsInCall k c m) same record {
        inside = call.inside;
        knows = call.knows;
        of = record { thread = call.of.thread; head = call.of.head; entry = call.of.entry; cell = call.of.cell };
        list = record { knows = (tt, tt); stands = (tt, refl); entries = call.list.entries; owned = call.list.owned; chain = call.list.chain; pending = call.list.pending };
      };
      ends = λ z e. absurd (cc e);
    }

    pub section_on : (f : CondPhase) → IsAtCondition f → IsInCondCall k c (stage f) → (x : Answer) → IsCondAnswerOf (cond_access (stage f)) x → Answered (cond_led (stage f) x)
    section_on (condition.AtWords (cond.Wait wait.LoadCell)) there call x fits = absurd fits
    section_on (condition.AtWords (cond.Wait wait.LoadCounter)) there call x fits = absurd fits
    section_on (condition.AtWords (cond.Wait (wait.Release seen))) there call x fits = absurd fits
    section_on (condition.AtWords (cond.Wait (wait.Wake seen))) there call (Count j) fits = record {
      goes = λ there. record { on = record { inside = on.inside; cell = on.cell; counter = on.counter }; knows = tt; list = call.list; ready = λ o run. tt };
      locks = λ l e. absurd (cc e);
      ends = λ z e. absurd (cc e);
    }
    section_on (condition.AtWords (cond.Wait (wait.Wake seen))) there call x fits = absurd fits
    section_on (condition.AtWords (cond.Wait (wait.Sleep seen))) there call Again fits = retakes seen call.list
    section_on (condition.AtWords (cond.Wait (wait.Sleep seen))) there call Woken fits = retakes seen call.list
    section_on (condition.AtWords (cond.Wait (wait.Sleep seen))) there call x fits = absurd fits
    section_on (condition.AtWords (cond.Signal signal.LoadCell)) there call x fits = absurd fits
    section_on (condition.AtWords (cond.Signal signal.LoadCounter)) there call x fits = absurd fits
    section_on (condition.AtWords (cond.Signal signal.Count)) there call x fits = absurd fits
    section_on (condition.AtWords (cond.Signal signal.Wake)) there call (Count j) fits = replied OK (alive_at_load k c m _ refl call.list)
    section_on (condition.AtWords (cond.Signal signal.Wake)) there call x fits = absurd fits
    section_on (condition.AtWords (cond.Broadcast broadcast.LoadCell)) there call x fits = absurd fits
    section_on (condition.AtWords (cond.Broadcast broadcast.LoadCounter)) there call x fits = absurd fits
    section_on (condition.AtWords (cond.Broadcast (broadcast.Count seen))) there call x fits = absurd fits
    section_on (condition.AtWords (cond.Broadcast (broadcast.SetWaiters seen))) there call x fits = absurd fits
    section_on (condition.AtWords (cond.Broadcast (broadcast.Move seen))) there call Again fits = replied OK (alive_at_load k c m _ refl call.list)
    section_on (condition.AtWords (cond.Broadcast (broadcast.Move seen))) there call (Moved i j) fits = replied OK (alive_at_load k c m _ refl call.list)
    section_on (condition.AtWords (cond.Broadcast (broadcast.Move seen))) there call x fits = absurd fits
    section_on (condition.AtWords cond.Awake) there call x fits = absurd call.knows
    section_on (condition.AtWords (cond.Ended y)) there call x fits = absurd call.knows
    section_on (condition.Announcing seen) there call x fits = absurd fits
    section_on (condition.Unlinking u seen) there call x fits = absurd (unlink_no_section u x fits)
    section_on (condition.Locking w) there call x fits = absurd there
    section_on (condition.Ended y) there call x fits = absurd there
