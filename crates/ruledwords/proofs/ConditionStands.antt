-- What a call on a condition variable has decided, from access to access.
use Rattle.std.proofs.Common.{Bool, true, false, ◌≡◌, ◌≢◌, ℕ, ◌+◌, ◌%◌, ◌^◌, ◌<◌, ◌≤◌, ◌==◌, not, Option, Some, None, inl, [], ◌∷◌, refl, sym, ap, ◌∙◌, subst, arith, append-nil, ne_eqb}
use Rattle.std.specs.Prelude.{◌||◌, if◌then◌else◌}
use Rattle.std.proofs.lemmas.Bool.{eqb-false}
use Rattle.lockword.specs.Cells.{fields_of}
use Rattle.lockword.specs.declared.reply.Reply.{Reply}
use Rattle.lockword.specs.declared.reply.Reply.TheVariants.{OK, EPERM, XFULL, XSTATE}
use Rattle.stepprograms.specs.declared.access.Access.{Access}
use Rattle.stepprograms.specs.declared.access.Answer.{Answer}
use Rattle.stepprograms.specs.declared.access.Answer.TheVariants.{Again, Count, Counts as Moved, Value, Woken}
use Rattle.posixmutex.specs.declared.object.Object.{Object}
use Rattle.posixmutex.specs.declared.point.Operation.{Operation}
use Rattle.posixmutex.specs.declared.point.Operation.TheVariants as operation
use Rattle.posixmutex.specs.declared.point.Point.{Point}
use Rattle.stepprograms.specs.Accesses.{answer_at}
use Rattle.memorymap.specs.Layouts.{Layout', counter_place}
use Rattle.posixmutex.specs.Objects.{fresh, object_of}
use Rattle.posixmutex.proofs.Objects.{run_same}
use Rattle.robustlist.specs.declared.unlink.UnlinkRow.{UnlinkRow}
use Rattle.robustlist.specs.declared.unlink.UnlinkRow.TheVariants as unlink_row
use Rattle.robustlist.specs.Standings.{UnlinkStanding}
use Rattle.robustlist.specs.Unlink.{unlink_access_of, unlink_moved}
use Rattle.mutex.specs.Laws.{points}
use Rattle.mutex.specs.declared.row.Row.TheVariants as mutex_row
use Rattle.mutex.specs.declared.unlock.UnlockRow.TheVariants as unlock
use Rattle.mutex.specs.Standings.{Whole}
use Rattle.mutex.specs.Whole.{unlinked_at as whole_unlinked_at}
use Rattle.condvar.specs.declared.broadcast.BroadcastRow.TheVariants as broadcast
use Rattle.condvar.specs.declared.phase.CondOnward.{CondOnward}
use Rattle.condvar.specs.declared.phase.CondPhase.{CondPhase}
use Rattle.condvar.specs.declared.phase.CondPhase.TheVariants as condition
use Rattle.condvar.specs.declared.row.CondRow.{CondRow}
use Rattle.condvar.specs.declared.row.CondRow.TheVariants as cond
use Rattle.condvar.specs.declared.signal.SignalRow.TheVariants as signal
use Rattle.condvar.specs.declared.wait.WaitRow.TheVariants as wait
use Rattle.condvar.specs.Laws.{largest_counter}
use Rattle.condvar.specs.Programs.{point_of}
use Rattle.condvar.specs.Rows.{decides, ends, full, goes}
use Rattle.condvar.specs.Standings.{CondWhole}
use Rattle.condvar.specs.Whole.{cond_access, cond_led, from_words, onward, unlinked_at}
use Rattle.ruledwords.specs.declared.pass.Card.{Card}
use Rattle.robustlist.specs.Words.{answer_on}
use Rattle.facts.specs.Lives.{Beginning}
use Rattle.ruledwords.specs.Calls.{row_in, Made, Ready}
use Rattle.ruledwords.specs.Cards.{at, value_at, mark_at}
use Rattle.ruledwords.specs.Changes.{ChangedNone, ChangedNothing, CountedOnce, KnowsOn, Loaded, Writes}
use Rattle.ruledwords.specs.ConditionCalls.{CondFound, IsCondAnswerOf, IsCondStep, IsInCondCall}
use Rattle.ruledwords.specs.Conditions.{cond_row_in, cond_standing, having_set, release_of, CondReady, Counts, IsAtCondition, Meets}
use Rattle.ruledwords.specs.ConditionStands.{cond_reply, cond_acts, CondEnded, CondStands, CountsBehind, CountsThere, LeftUsable, LoadedBehind, LoadsBehind, SetsWaiters}
use Rattle.ruledwords.specs.Counts.{cell_at}
use Rattle.ruledwords.specs.Lists.{known}
use Rattle.ruledwords.specs.OwnWords.{own_after, owns_in}
use Rattle.ruledwords.specs.Seen.{held_after, holds, Called, Sees}
use Rattle.ruledwords.proofs.Cards.{saw_more}
use Rattle.ruledwords.proofs.Changes.{counted_now, counted_still, knows_on_by, loaded_now, loaded_still, none_by, none_loaded, nothing_by, nothing_still}
use Rattle.ruledwords.proofs.ConditionActs.{q, m, unlink_no_section, whole}
use Rattle.ruledwords.proofs.Keepers.{counter_no_cell}
use Rattle.ruledwords.proofs.Lists.{mark_put}
use Rattle.ruledwords.proofs.Noted.{marked_called, seen_stored, still_called}
use Rattle.ruledwords.proofs.OwnTurns.{own_same}
use Rattle.ruledwords.proofs.Standing.{made_right}
use Rattle.ruledwords.proofs.Steps.{is_owner_by}

module _ (k : Layout') (he en ce co t : ℕ) where
  abbrev stage : CondPhase → CondWhole
  stage f = whole k he en ce co t f

  abbrev z : ℕ
  z = cell_at k (q k he en ce co t)

  abbrev a : ℕ
  a = counter_place k (q k he en ce co t)

  -- where an answer leads that began at c0: it goes on, or has ended
  pub record Outcome (op : Operation) (c0 d : Card) (o : CondOnward) : Type 0 where
    pub goes : IsAtCondition o.phase → CondStands k (q k he en ce co t) op c0 (cond_row_in o.phase) d
    pub ends : (y : Reply) → o.phase ≡ condition.Ended y → CondEnded k (q k he en ce co t) op y c0 d

  abbrev Stands : Operation → Card → CondRow → Card → Type 0
  Stands op c0 r c = CondStands k (q k he en ce co t) op c0 r c

  ended : (op : Operation) (c0 d : Card) (x : Reply) (p : Option Point) → CondEnded k (q k he en ce co t) op x c0 d → Outcome op c0 d record { phase = condition.Ended x; point = p }
  ended op c0 d x p e = record { goes = λ there. absurd there; ends = λ y same. let is : x ≡ y = cc same in subst (λ (y : Reply). CondEnded k (q k he en ce co t) op y c0 d) is e }

  went : (op : Operation) (c0 d : Card) (f : CondPhase) (p : Option Point) → IsAtCondition f → Stands op c0 (cond_row_in f) d → Outcome op c0 d record { phase = f; point = p }
  went op c0 d f p there s = record { goes = λ it. s; ends = λ y same. absurd (subst IsAtCondition same there) }

  module _ (c0 c : Card) (mine : t ≡ c.thread) (pos : 1 ≤ c.thread) (low : m k he en ce co t < k.mutexes) where
    apart : a ≢ z
    apart = counter_no_cell k (q k he en ce co t) (m k he en ce co t) low

    -- before a call's point its thread owns what it owned as the call began
    owned_first : Called c0 z [] c → owns_in k c0 (m k he en ce co t) ≡ owns_in k c (m k he en ce co t)
    owned_first h = sym (ap (λ (u : ℕ). holds u (at c.seen z)) h.saw.thread ∙ ap (held_after false) (h.saw.own ∙ append-nil _))

    owner_by_word : (n : ℕ) → Called c0 z [] c → holds c.thread (at c.seen z) ≡ Rattle.posixmutex.specs.Histories.is_thread c.thread (object_of (fields_of n)).owner → owns_in k c0 (m k he en ce co t) ≡ ((fields_of n).owner == t)
    owner_by_word n h holder = owned_first h ∙ holder ∙ is_owner_by c.thread (fields_of n).owner pos ∙ ap (λ (u : ℕ). (fields_of n).owner == u) (sym mine)

    -- ---- the first load

    wait_stands : (n : ℕ) (d : Card) → Stands operation.Wait c0 (cond.Wait wait.LoadCell) c → Meets k (q k he en ce co t) (cond_standing (stage (condition.AtWords (cond.Wait wait.LoadCell)))) c n d → Outcome operation.Wait c0 d (cond_led (stage (condition.AtWords (cond.Wait wait.LoadCell))) (Value n))
    wait_stands n d s found = go ((fields_of n).owner == t) refl (fields_of n).died refl
      where
        own : owns_in k c0 (m k he en ce co t) ≡ ((fields_of n).owner == t)
        own = owner_by_word n s.called found.holder

        seen : (b e : Bool) → ((fields_of n).owner == t) ≡ b → (fields_of n).died ≡ e → Sees c z (points (point_of c.thread z (if not b then ends operation.Wait EPERM else if e then ends operation.Wait XSTATE else goes (cond.Wait wait.LoadCounter)).decided)) (object_of (fields_of n)) d
        seen b e bs es = subst (λ (u : Bool × Bool). Sees c z (points (point_of c.thread z (if not u.0 then ends operation.Wait EPERM else if u.1 then ends operation.Wait XSTATE else goes (cond.Wait wait.LoadCounter)).decided)) (object_of (fields_of n)) d) (λ i. (bs i, es i)) found.sees

        go : (b : Bool) → ((fields_of n).owner == t) ≡ b → (e : Bool) → (fields_of n).died ≡ e → Outcome operation.Wait c0 d (from_words (stage (condition.AtWords (cond.Wait wait.LoadCell))) (if not b then ends operation.Wait EPERM else if e then ends operation.Wait XSTATE else goes (cond.Wait wait.LoadCounter)))
        go false bs e es = ended operation.Wait c0 d EPERM _ record { called = saw_more c0 z c operation.Wait (Some EPERM) _ d s.called (seen false e bs es) (knows_on_by c d _ _ _ found.writes) (λ few. none_by c d _ _ _ found.writes); reply = sym (ap (λ (b : Bool). if b then XSTATE else EPERM) (own ∙ bs)); counts = tt; waiters = tt; there = tt }
        go true bs true es = ended operation.Wait c0 d XSTATE _ record { called = saw_more c0 z c operation.Wait (Some XSTATE) _ d s.called (seen true true bs es) (knows_on_by c d _ _ _ found.writes) (λ few. none_by c d _ _ _ found.writes); reply = sym (ap (λ (b : Bool). if b then XSTATE else EPERM) (own ∙ bs)); counts = tt; waiters = tt; there = tt }
        go true bs false es = went operation.Wait c0 d (condition.AtWords (cond.Wait wait.LoadCounter)) None tt record { of = refl; called = saw_more c0 z c operation.Wait None _ d s.called (seen true false bs es) (knows_on_by c d _ _ _ found.writes) (λ few. none_by c d _ _ _ found.writes); owns = own ∙ bs; counts = tt; waiters = tt; usable = tt; loads = nothing_still c0 c d a (found.writes.elsewhere a apart) s.loads }

    signal_stands : (n : ℕ) (d : Card) → Stands operation.Signal c0 (cond.Signal signal.LoadCell) c → Meets k (q k he en ce co t) (cond_standing (stage (condition.AtWords (cond.Signal signal.LoadCell)))) c n d → Outcome operation.Signal c0 d (cond_led (stage (condition.AtWords (cond.Signal signal.LoadCell))) (Value n))
    signal_stands n d s found = go ((fields_of n).owner == t) refl
      where
        own : owns_in k c0 (m k he en ce co t) ≡ ((fields_of n).owner == t)
        own = owner_by_word n s.called found.holder

        seen : (b : Bool) → ((fields_of n).owner == t) ≡ b → Sees c z (points (point_of c.thread z (if not b then ends operation.Signal EPERM else goes (cond.Signal signal.LoadCounter)).decided)) (object_of (fields_of n)) d
        seen b bs = subst (λ (u : Bool). Sees c z (points (point_of c.thread z (if not u then ends operation.Signal EPERM else goes (cond.Signal signal.LoadCounter)).decided)) (object_of (fields_of n)) d) bs found.sees

        go : (b : Bool) → ((fields_of n).owner == t) ≡ b → Outcome operation.Signal c0 d (from_words (stage (condition.AtWords (cond.Signal signal.LoadCell))) (if not b then ends operation.Signal EPERM else goes (cond.Signal signal.LoadCounter)))
        go false bs = ended operation.Signal c0 d EPERM _ record { called = saw_more c0 z c operation.Signal (Some EPERM) _ d s.called (seen false bs) (knows_on_by c d _ _ _ found.writes) (λ few x there. none_loaded c d _ _ found.writes x tt); reply = sym (ap (λ (b : Bool). if b then (if d.counted == largest_counter then XFULL else OK) else EPERM) (own ∙ bs)); counts = tt; waiters = tt; there = tt }
        go true bs = went operation.Signal c0 d (condition.AtWords (cond.Signal signal.LoadCounter)) None tt record { of = refl; called = saw_more c0 z c operation.Signal None _ d s.called (seen true bs) (knows_on_by c d _ _ _ found.writes) (λ few. none_by c d _ _ _ found.writes); owns = own ∙ bs; counts = tt; waiters = tt; usable = tt; loads = tt }

    broadcast_stands : (n : ℕ) (d : Card) → Stands operation.Broadcast c0 (cond.Broadcast broadcast.LoadCell) c → Meets k (q k he en ce co t) (cond_standing (stage (condition.AtWords (cond.Broadcast broadcast.LoadCell)))) c n d
        → Outcome operation.Broadcast c0 d (cond_led (stage (condition.AtWords (cond.Broadcast broadcast.LoadCell))) (Value n))
    broadcast_stands n d s found = go ((fields_of n).owner == t) refl
      where
        own : owns_in k c0 (m k he en ce co t) ≡ ((fields_of n).owner == t)
        own = owner_by_word n s.called found.holder

        seen : (b : Bool) → ((fields_of n).owner == t) ≡ b → Sees c z (points (point_of c.thread z (if not b then ends operation.Broadcast EPERM else goes (cond.Broadcast broadcast.LoadCounter)).decided)) (object_of (fields_of n)) d
        seen b bs = subst (λ (u : Bool). Sees c z (points (point_of c.thread z (if not u then ends operation.Broadcast EPERM else goes (cond.Broadcast broadcast.LoadCounter)).decided)) (object_of (fields_of n)) d) bs found.sees

        go : (b : Bool) → ((fields_of n).owner == t) ≡ b → Outcome operation.Broadcast c0 d (from_words (stage (condition.AtWords (cond.Broadcast broadcast.LoadCell))) (if not b then ends operation.Broadcast EPERM else goes (cond.Broadcast broadcast.LoadCounter)))
        go false bs = ended operation.Broadcast c0 d EPERM _ record { called = saw_more c0 z c operation.Broadcast (Some EPERM) _ d s.called (seen false bs) (knows_on_by c d _ _ _ found.writes) (λ few x there. none_loaded c d _ _ found.writes x tt); reply = sym (ap (λ (b : Bool). if b then (if d.counted == largest_counter then XFULL else OK) else EPERM) (own ∙ bs)); counts = tt; waiters = tt; there = tt }
        go true bs = went operation.Broadcast c0 d (condition.AtWords (cond.Broadcast broadcast.LoadCounter)) None tt record { of = refl; called = saw_more c0 z c operation.Broadcast None _ d s.called (seen true bs) (knows_on_by c d _ _ _ found.writes) (λ few. none_by c d _ _ _ found.writes); owns = own ∙ bs; counts = tt; waiters = tt; usable = tt; loads = tt }

    -- ---- at the counter

    wait_loads : (n : ℕ) (d : Card) → Stands operation.Wait c0 (cond.Wait wait.LoadCounter) c → Counts k (q k he en ce co t) (cond_standing (stage (condition.AtWords (cond.Wait wait.LoadCounter)))) c n d → Outcome operation.Wait c0 d (cond_led (stage (condition.AtWords (cond.Wait wait.LoadCounter))) (Value n))
    wait_loads n d s found = went operation.Wait c0 d (condition.Announcing (n % 2 ^ 32)) None tt record {
      of = refl;
      called = saw_more c0 z c operation.Wait None _ d s.called found.sees (knows_on_by c d _ _ _ found.writes) (λ few x there. none_loaded c d _ _ found.writes x tt);
      owns = s.owns;
      counts = tt;
      waiters = tt;
      usable = tt;
      loads = (loaded_now c0 c d a n s.called.saw.thread found.counted s.loads found.writes, ap (λ (x : ℕ). x % 2 ^ 32) (sym found.counted));
    }

    -- the reply of an owner, by the counter
    full_reply : (n : ℕ) (d : Card) → d.counted ≡ n → owns_in k c0 (m k he en ce co t) ≡ true → (b : Bool) → (n == full) ≡ b → (if b then XFULL else OK) ≡ (if owns_in k c0 (m k he en ce co t) then (if d.counted == largest_counter then XFULL else OK) else EPERM)
    full_reply n d is own b bs = sym (ap (λ (x : Bool). if x then (if d.counted == largest_counter then XFULL else OK) else EPERM) own ∙ ap (λ (x : ℕ). if x == largest_counter then XFULL else OK) is ∙ ap (λ (x : Bool). if x then XFULL else OK) bs)

    -- before a call's point its thread has changed nothing at the counter
    nothing_there : Called c0 z [] c → ChangedNothing c0 a c
    nothing_there h = nothing_by c0 c a h.saw.knows (h.saw.still refl a apart)

    full_there : (n : ℕ) (d : Card) → d.counted ≡ n → Called c0 z [] c → Writes c a n n d → Loaded c0 a d
    full_there n d is h w = loaded_now c0 c d a n h.saw.thread is (nothing_there h) w

    signal_loads : (n : ℕ) (d : Card) → Stands operation.Signal c0 (cond.Signal signal.LoadCounter) c → Counts k (q k he en ce co t) (cond_standing (stage (condition.AtWords (cond.Signal signal.LoadCounter)))) c n d → Outcome operation.Signal c0 d (cond_led (stage (condition.AtWords (cond.Signal signal.LoadCounter))) (Value n))
    signal_loads n d s found = go (n == full) refl
      where
        seen : (b : Bool) → (n == full) ≡ b → Sees c z (points (point_of c.thread z (if b then ends operation.Signal XFULL else goes (cond.Signal signal.Count)).decided)) found.object d
        seen b bs = subst (λ (u : Bool). Sees c z (points (point_of c.thread z (if u then ends operation.Signal XFULL else goes (cond.Signal signal.Count)).decided)) found.object d) bs found.sees

        go : (b : Bool) → (n == full) ≡ b → Outcome operation.Signal c0 d (from_words (stage (condition.AtWords (cond.Signal signal.LoadCounter))) (if b then ends operation.Signal XFULL else goes (cond.Signal signal.Count)))
        go true bs = ended operation.Signal c0 d XFULL _ record { called = saw_more c0 z c operation.Signal (Some XFULL) _ d s.called (seen true bs) (knows_on_by c d _ _ _ found.writes) (λ few x there. none_loaded c d _ _ found.writes x tt); reply = full_reply n d found.counted s.owns true bs; counts = found.value ∙ ap Some (sym found.counted); waiters = tt; there = full_there n d found.counted s.called found.writes }
        go false bs = went operation.Signal c0 d (condition.AtWords (cond.Signal signal.Count)) None tt
            record { of = refl; called = saw_more c0 z c operation.Signal None _ d s.called (seen false bs) (knows_on_by c d _ _ _ found.writes) (λ few x there. none_loaded c d _ _ found.writes x tt); owns = s.owns; counts = ((λ e. eqb-false n full bs (sym found.counted ∙ e)), found.value ∙ ap Some (sym found.counted)); waiters = tt; usable = tt; loads = tt }

    broadcast_loads : (n : ℕ) (d : Card) → Stands operation.Broadcast c0 (cond.Broadcast broadcast.LoadCounter) c → Counts k (q k he en ce co t) (cond_standing (stage (condition.AtWords (cond.Broadcast broadcast.LoadCounter)))) c n d
        → Outcome operation.Broadcast c0 d (cond_led (stage (condition.AtWords (cond.Broadcast broadcast.LoadCounter))) (Value n))
    broadcast_loads n d s found = go (n == full) refl
      where
        seen : (b : Bool) → (n == full) ≡ b → Sees c z (points (point_of c.thread z (if b then ends operation.Broadcast XFULL else goes (cond.Broadcast (broadcast.Count (n % 2 ^ 32)))).decided)) found.object d
        seen b bs = subst (λ (u : Bool). Sees c z (points (point_of c.thread z (if u then ends operation.Broadcast XFULL else goes (cond.Broadcast (broadcast.Count (n % 2 ^ 32)))).decided)) found.object d) bs found.sees

        go : (b : Bool) → (n == full) ≡ b → Outcome operation.Broadcast c0 d (from_words (stage (condition.AtWords (cond.Broadcast broadcast.LoadCounter))) (if b then ends operation.Broadcast XFULL else goes (cond.Broadcast (broadcast.Count (n % 2 ^ 32)))))
        go true bs = ended operation.Broadcast c0 d XFULL _ record { called = saw_more c0 z c operation.Broadcast (Some XFULL) _ d s.called (seen true bs) (knows_on_by c d _ _ _ found.writes) (λ few x there. none_loaded c d _ _ found.writes x tt); reply = full_reply n d found.counted s.owns true bs; counts = found.value ∙ ap Some (sym found.counted); waiters = tt; there = full_there n d found.counted s.called found.writes }
        go false bs = went operation.Broadcast c0 d (condition.AtWords (cond.Broadcast (broadcast.Count (n % 2 ^ 32)))) None tt
            record { of = refl; called = saw_more c0 z c operation.Broadcast None _ d s.called (seen false bs) (knows_on_by c d _ _ _ found.writes) (λ few x there. none_loaded c d _ _ found.writes x tt); owns = s.owns; counts = ((λ e. eqb-false n full bs (sym found.counted ∙ e)), found.value ∙ ap Some (sym found.counted)); waiters = tt; usable = tt; loads = tt }

    -- the count, of the counter that was loaded
    counted_on : (n : ℕ) (d : Card) (r : CondRow) (v : ℕ) → n ≡ c.counted → d.counted ≡ n → c.counted ≢ largest_counter → n ≤ largest_counter → v ≡ (n + 1) % 18446744073709551616 → value_at d.values a ≡ Some v → (d.counted ≢ largest_counter) × (value_at d.values a ≡ Some (d.counted + 1))
    counted_on n d r v was now free little next value = ((λ e. free (sym was ∙ sym now ∙ e)), value ∙ ap Some (let one : v ≡ d.counted + 1 = omega arith in one))

    one_more : (n v : ℕ) → n ≤ largest_counter → v ≡ (n + 1) % 18446744073709551616 → v ≡ n + 1
    one_more n v little next = omega arith

    once_there : (n v : ℕ) (d : Card) → n ≤ largest_counter → v ≡ (n + 1) % 18446744073709551616 → d.counted ≡ n → Called c0 z [] c → Writes c a n v d → CountedOnce c0 z a d
    once_there n v d little next is h w = counted_now c0 c d z a n v h.saw.thread (one_more n v little next) is (nothing_there h) (h.saw.still refl) w

    signal_counts : (n : ℕ) (d : Card) → Stands operation.Signal c0 (cond.Signal signal.Count) c → Counts k (q k he en ce co t) (cond_standing (stage (condition.AtWords (cond.Signal signal.Count)))) c n d → Outcome operation.Signal c0 d (cond_led (stage (condition.AtWords (cond.Signal signal.Count))) (Value n))
    signal_counts n d s found = went operation.Signal c0 d (condition.AtWords (cond.Signal signal.Wake)) _ tt record {
      of = refl;
      called = saw_more c0 z c operation.Signal (Some OK) _ d s.called found.sees (knows_on_by c d _ _ _ found.writes) (λ few. absurd (omega (arith, few)));
      owns = s.owns;
      counts = counted_on n d (cond.Signal signal.Count) _ (found.known c.counted s.counts.1) found.counted s.counts.0 found.within refl found.value;
      waiters = tt;
      usable = tt;
      loads = once_there n _ d found.within refl found.counted s.called found.writes;
    }

    broadcast_counts : (seen n : ℕ) (d : Card) → Stands operation.Broadcast c0 (cond.Broadcast (broadcast.Count seen)) c → Counts k (q k he en ce co t) (cond_standing (stage (condition.AtWords (cond.Broadcast (broadcast.Count seen))))) c n d
        → Outcome operation.Broadcast c0 d (cond_led (stage (condition.AtWords (cond.Broadcast (broadcast.Count seen)))) (Value n))
    broadcast_counts seen n d s found = went operation.Broadcast c0 d (condition.AtWords (cond.Broadcast (broadcast.SetWaiters seen))) _ tt record {
      of = refl;
      called = saw_more c0 z c operation.Broadcast (Some OK) _ d s.called found.sees (knows_on_by c d _ _ _ found.writes) (λ few. absurd (omega (arith, few)));
      owns = s.owns;
      counts = counted_on n d (cond.Broadcast (broadcast.Count seen)) _ (found.known c.counted s.counts.1) found.counted s.counts.0 found.within refl found.value;
      waiters = tt;
      usable = tt;
      loads = once_there n _ d found.within refl found.counted s.called found.writes;
    }

    -- ---- where nothing new is seen

    broadcast_sets : (seen n : ℕ) (d : Card) → Stands operation.Broadcast c0 (cond.Broadcast (broadcast.SetWaiters seen)) c → d ≡ having_set c z n d.changes → (v : ℕ) → Writes c z n v d → Outcome operation.Broadcast c0 d (cond_led (stage (condition.AtWords (cond.Broadcast (broadcast.SetWaiters seen)))) (Value n))
    broadcast_sets seen n d s same v w = went operation.Broadcast c0 d (condition.AtWords (cond.Broadcast (broadcast.Move seen))) None tt record {
      of = refl;
      called = subst (Called c0 z ((operation.Broadcast, OK) ∷ [])) (sym same) (marked_called c0 z _ c n (having_set c z n d.changes).marks d.changes (subst (KnowsOn c) same (knows_on_by c d z n v w)) (subst (ChangedNone (λ x. x ≢ z) c) same (none_by c d z n v w)) s.called);
      owns = s.owns;
      counts = subst (λ (e : Card). (e.counted ≢ largest_counter) × (value_at e.values a ≡ Some (e.counted + 1))) (sym same) s.counts;
      waiters = subst (λ (e : Card). mark_at e.marks z ≡ true) (sym same) (mark_put c.marks z true);
      usable = tt;
      loads = counted_still c0 c d z a s.called.saw.thread (w.elsewhere a apart) (ap (λ (e : Card). e.counted) same) (none_by c d z n v w) s.loads;
    }

    own_stands : (seen : ℕ) (b : Access) (d : Card) (f : CondPhase) → IsAtCondition f → cond_row_in f ≡ cond.Wait (wait.Release seen) → Stands operation.Wait c0 (cond.Wait (wait.Release seen)) c → d ≡ own_after k c b → Outcome operation.Wait c0 d (onward f)
    own_stands seen b d f there row s same = went operation.Wait c0 d f None there (subst (λ (r : CondRow). Stands operation.Wait c0 r d) (sym row)
        record { of = refl; called = still_called c0 z [] c d (seen_stored z c d (own_after k c b).values (same ∙ own_same k c b)) s.called; owns = s.owns; counts = tt; waiters = tt; usable = tt; loads = still_loaded d (same ∙ own_same k c b) })
      where
        still_loaded : (e : Card) → e ≡ record c { values = (own_after k c b).values } → Loaded c0 a e × (seen ≡ e.counted % 2 ^ 32)
        still_loaded e is = subst (λ (x : Card). Loaded c0 a x × (seen ≡ x.counted % 2 ^ 32)) (sym is) (loaded_still c0 c record c { values = (own_after k c b).values } a refl refl s.loads.0, s.loads.1)

    unlink_stands : (u : UnlinkStanding) (r : UnlinkRow) (seen : ℕ) (b : Access) (d : Card) → Stands operation.Wait c0 (cond.Wait (wait.Release seen)) c → d ≡ own_after k c b → row_in (whole_unlinked_at u r false) ≡ mutex_row.Unlock (unlock.Release false) → Outcome operation.Wait c0 d (onward (unlinked_at u r seen))
    unlink_stands u (unlink_row.Ended OK) seen b d s same at_row = own_stands seen b d (condition.AtWords (cond.Wait (wait.Release seen))) tt refl s same
    unlink_stands u (unlink_row.Ended y) seen b d s same at_row = absurd (cc at_row)
    unlink_stands u unlink_row.LoadNext seen b d s same at_row = own_stands seen b d (condition.Unlinking u seen) tt refl s same
    unlink_stands u (unlink_row.LoadPrevious x) seen b d s same at_row = own_stands seen b d (condition.Unlinking u seen) tt refl s same
    unlink_stands u (unlink_row.StoreNext x y) seen b d s same at_row = own_stands seen b d (condition.Unlinking u seen) tt refl s same
    unlink_stands u (unlink_row.StorePrevious x y) seen b d s same at_row = own_stands seen b d (condition.Unlinking u seen) tt refl s same

    -- ---- a release

    wait_releases : (seen n : ℕ) (d : Card) → Ready (release_of (cond_standing (stage (condition.AtWords (cond.Wait (wait.Release seen)))))) c → Stands operation.Wait c0 (cond.Wait (wait.Release seen)) c
        → Made (release_of (cond_standing (stage (condition.AtWords (cond.Wait (wait.Release seen)))))) z c n d → Outcome operation.Wait c0 d (cond_led (stage (condition.AtWords (cond.Wait (wait.Release seen)))) (Value n))
    wait_releases seen n d ready s made = go (fields_of n).waiters
      where
        called : Called c0 z ((operation.Unlock, OK) ∷ []) d
        called = saw_more c0 z c operation.Unlock (Some OK) _ d s.called made.sees (knows_on_by c d _ _ _ made.writes) (λ few. none_by c d _ _ _ made.writes)

        usable : LeftUsable k (q k he en ce co t) d
        usable o run =
            let r = (made_right (release_of (cond_standing (stage (condition.AtWords (cond.Wait (wait.Release seen)))))) z c d n tt tt ready made).runs in
            let new = run_same fresh o _ (at d.seen z) run made.sees.leaves.0 in
            ap (λ (x : Object). x.unusable) (new ∙ r.2 ∙ r.1.1) ∙ ap (λ (x : Bool). x || (fields_of n).unusable) made.met.1 ∙ by_unusable (fields_of n).unusable refl
          where
            by_unusable : (b : Bool) → (fields_of n).unusable ≡ b → b ≡ false
            by_unusable false e = refl
            by_unusable true e = let none = made.sound e in let own = made.met.0 in absurd (cc (none, own))

        loads : Loaded c0 a d × (seen ≡ d.counted % 2 ^ 32)
        loads = (loaded_still c0 c d a (made.writes.elsewhere a apart) made.counted s.loads.0, s.loads.1 ∙ ap (λ (x : ℕ). x % 2 ^ 32) (sym made.counted))

        go : (b : Bool) → Outcome operation.Wait c0 d (from_words (stage (condition.AtWords (cond.Wait (wait.Release seen)))) (decides (if b then cond.Wait (wait.Wake seen) else cond.Wait (wait.Sleep seen)) operation.Unlock OK))
        go true = went operation.Wait c0 d (condition.AtWords (cond.Wait (wait.Wake seen))) _ tt record { of = refl; called = called; owns = s.owns; counts = tt; waiters = tt; usable = usable; loads = loads }
        go false = went operation.Wait c0 d (condition.AtWords (cond.Wait (wait.Sleep seen))) _ tt record { of = refl; called = called; owns = s.owns; counts = tt; waiters = tt; usable = usable; loads = loads }

    -- ---- any step

    pub step_stands : ((seen : ℕ) → CondReady k (q k he en ce co t) (cond.Wait (wait.Release seen)) c → Ready (release_of (cond_standing (stage (condition.AtWords (cond.Wait (wait.Release seen)))))) c)
        → ((u : UnlinkStanding) (seen : ℕ) → IsInCondCall k c (stage (condition.Unlinking u seen)) → row_in (whole_unlinked_at (unlink_moved u (answer_on (unlink_access_of u) (known k c))) (unlink_moved u (answer_on (unlink_access_of u) (known k c))).row false) ≡ mutex_row.Unlock (unlock.Release false))
        → (op : Operation) (f : CondPhase) → IsAtCondition f → IsInCondCall k c (stage f) → IsCondStep (cond_access (stage f)) → (n : ℕ) (d : Card) → CondFound k (stage f) f c n d → Stands op c0 (cond_row_in f) c
        → Outcome op c0 d (cond_led (stage f) (answer_at (cond_access (stage f)) n))
    step_stands release unlinks op (condition.AtWords (cond.Wait wait.LoadCell)) there call one n d found s = subst (λ (o : Operation). Stands o c0 (cond.Wait wait.LoadCell) c → Outcome o c0 d (cond_led (stage (condition.AtWords (cond.Wait wait.LoadCell))) (Value n))) s.of (λ s. wait_stands n d s found) s
    step_stands release unlinks op (condition.AtWords (cond.Wait wait.LoadCounter)) there call one n d found s = subst (λ (o : Operation). Stands o c0 (cond.Wait wait.LoadCounter) c → Outcome o c0 d (cond_led (stage (condition.AtWords (cond.Wait wait.LoadCounter))) (Value n))) s.of (λ s. wait_loads n d s found) s
    step_stands release unlinks op (condition.AtWords (cond.Wait (wait.Release seen))) there call one n d found s =
        subst (λ (o : Operation). Stands o c0 (cond.Wait (wait.Release seen)) c → Outcome o c0 d (cond_led (stage (condition.AtWords (cond.Wait (wait.Release seen)))) (Value n))) s.of (λ s. wait_releases seen n d (release seen call.ready) s found.0) s
    step_stands release unlinks op (condition.AtWords (cond.Wait (wait.Wake seen))) there call one n d found s = absurd one
    step_stands release unlinks op (condition.AtWords (cond.Wait (wait.Sleep seen))) there call one n d found s = absurd one
    step_stands release unlinks op (condition.AtWords (cond.Signal signal.LoadCell)) there call one n d found s = subst (λ (o : Operation). Stands o c0 (cond.Signal signal.LoadCell) c → Outcome o c0 d (cond_led (stage (condition.AtWords (cond.Signal signal.LoadCell))) (Value n))) s.of (λ s. signal_stands n d s found) s
    step_stands release unlinks op (condition.AtWords (cond.Signal signal.LoadCounter)) there call one n d found s =
        subst (λ (o : Operation). Stands o c0 (cond.Signal signal.LoadCounter) c → Outcome o c0 d (cond_led (stage (condition.AtWords (cond.Signal signal.LoadCounter))) (Value n))) s.of (λ s. signal_loads n d s found) s
    step_stands release unlinks op (condition.AtWords (cond.Signal signal.Count)) there call one n d found s = subst (λ (o : Operation). Stands o c0 (cond.Signal signal.Count) c → Outcome o c0 d (cond_led (stage (condition.AtWords (cond.Signal signal.Count))) (Value n))) s.of (λ s. signal_counts n d s found) s
    step_stands release unlinks op (condition.AtWords (cond.Signal signal.Wake)) there call one n d found s = absurd one
    step_stands release unlinks op (condition.AtWords (cond.Broadcast broadcast.LoadCell)) there call one n d found s =
        subst (λ (o : Operation). Stands o c0 (cond.Broadcast broadcast.LoadCell) c → Outcome o c0 d (cond_led (stage (condition.AtWords (cond.Broadcast broadcast.LoadCell))) (Value n))) s.of (λ s. broadcast_stands n d s found) s
    step_stands release unlinks op (condition.AtWords (cond.Broadcast broadcast.LoadCounter)) there call one n d found s =
        subst (λ (o : Operation). Stands o c0 (cond.Broadcast broadcast.LoadCounter) c → Outcome o c0 d (cond_led (stage (condition.AtWords (cond.Broadcast broadcast.LoadCounter))) (Value n))) s.of (λ s. broadcast_loads n d s found) s
    step_stands release unlinks op (condition.AtWords (cond.Broadcast (broadcast.Count seen))) there call one n d found s =
        subst (λ (o : Operation). Stands o c0 (cond.Broadcast (broadcast.Count seen)) c → Outcome o c0 d (cond_led (stage (condition.AtWords (cond.Broadcast (broadcast.Count seen)))) (Value n))) s.of (λ s. broadcast_counts seen n d s found) s
    step_stands release unlinks op (condition.AtWords (cond.Broadcast (broadcast.SetWaiters seen))) there call one n d found s =
        subst (λ (o : Operation). Stands o c0 (cond.Broadcast (broadcast.SetWaiters seen)) c → Outcome o c0 d (cond_led (stage (condition.AtWords (cond.Broadcast (broadcast.SetWaiters seen)))) (Value n))) s.of (λ s. broadcast_sets seen n d s found.0 _ found.2) s
    step_stands release unlinks op (condition.AtWords (cond.Broadcast (broadcast.Move seen))) there call one n d found s = absurd one
    step_stands release unlinks op (condition.AtWords cond.Awake) there call one n d found s = absurd call.knows
    step_stands release unlinks op (condition.AtWords (cond.Ended x)) there call one n d found s = absurd call.knows
    step_stands release unlinks op (condition.Announcing seen) there call one n d found s =
        subst (λ (o : Operation). Stands o c0 (cond.Wait (wait.Release seen)) c → Outcome o c0 d (cond_led (stage (condition.Announcing seen)) (answer_at (cond_access (stage (condition.Announcing seen))) n))) s.of (λ s. own_stands seen (cond_access (stage (condition.Announcing seen))) d _ tt refl s found.0) s
    step_stands release unlinks op (condition.Unlinking u seen) there call one n d found s =
        subst (λ (x : Answer). Outcome op c0 d (cond_led (stage (condition.Unlinking u seen)) x)) (sym found.1)
        (subst (λ (o : Operation). Stands o c0 (cond.Wait (wait.Release seen)) c → Outcome o c0 d (cond_led (stage (condition.Unlinking u seen)) (answer_on (unlink_access_of u) (known k c)))) s.of (λ s. unlink_stands (unlink_moved u (answer_on (unlink_access_of u) (known k c))) _ seen (unlink_access_of u) d s found.0 (unlinks u seen call)) s)
    step_stands release unlinks op (condition.Locking w) there call one n d found s = absurd there
    step_stands release unlinks op (condition.Ended x) there call one n d found s = absurd there

    -- ---- any section

    -- a wait that is awake again has released its mutex
    abbrev pub Released : Operation → Type 0
    Released op = (operation.Wait ≡ op) × Called c0 z ((operation.Unlock, OK) ∷ []) c × (owns_in k c0 (m k he en ce co t) ≡ true) × LeftUsable k (q k he en ce co t) c × Loaded c0 a c

    pub record SectionOutcome (op : Operation) (o : CondOnward) : Type 0 where
      pub outcome : Outcome op c0 c o
      pub locks : (l : Whole) → o.phase ≡ condition.Locking l → Released op

    -- who has counted ends OK
    counted_ends : (op : Operation) (x : Reply) → Called c0 z ((op, OK) ∷ []) c → OK ≡ cond_reply op (owns_in k c0 (m k he en ce co t)) c.counted → value_at c.values a ≡ Some (c.counted + 1) → SetsWaiters op OK (mark_at c.marks z) → CountsThere op OK c0 z a c → SectionOutcome op (onward (condition.Ended OK))
    counted_ends op x called reply counts sets there = record { outcome = ended op c0 c OK None record { called = called; reply = reply; counts = counts; waiters = sets; there = there }; locks = λ l e. absurd (cc e) }

    ok_reply : owns_in k c0 (m k he en ce co t) ≡ true → c.counted ≢ largest_counter → OK ≡ (if owns_in k c0 (m k he en ce co t) then (if c.counted == largest_counter then XFULL else OK) else EPERM)
    ok_reply own free = sym (ap (λ (b : Bool). if b then (if c.counted == largest_counter then XFULL else OK) else EPERM) own ∙ ap (λ (b : Bool). if b then XFULL else OK) (ne_eqb c.counted largest_counter free))

    retakes : (seen : ℕ) (op : Operation) (l : Whole) → Stands op c0 (cond.Wait (wait.Sleep seen)) c → SectionOutcome op (onward (condition.Locking l))
    retakes seen op l s = record { outcome = record { goes = λ there. absurd there; ends = λ y e. absurd (cc e) }; locks = λ w e. (s.of, s.called, s.owns, s.usable, s.loads.0) }

    pub section_stands : (op : Operation) (f : CondPhase) → IsAtCondition f → IsInCondCall k c (stage f) → (x : Answer) → IsCondAnswerOf (cond_access (stage f)) x → Stands op c0 (cond_row_in f) c → SectionOutcome op (cond_led (stage f) x)
    section_stands op (condition.AtWords (cond.Wait wait.LoadCell)) there call x fits s = absurd fits
    section_stands op (condition.AtWords (cond.Wait wait.LoadCounter)) there call x fits s = absurd fits
    section_stands op (condition.AtWords (cond.Wait (wait.Release seen))) there call x fits s = absurd fits
    section_stands op (condition.AtWords (cond.Wait (wait.Wake seen))) there call (Count j) fits s = record { outcome = went op c0 c (condition.AtWords (cond.Wait (wait.Sleep seen))) None tt record { of = s.of; called = s.called; owns = s.owns; counts = tt; waiters = tt; usable = s.usable; loads = s.loads }; locks = λ l e. absurd (cc e) }
    section_stands op (condition.AtWords (cond.Wait (wait.Wake seen))) there call x fits s = absurd fits
    section_stands op (condition.AtWords (cond.Wait (wait.Sleep seen))) there call Again fits s = retakes seen op _ s
    section_stands op (condition.AtWords (cond.Wait (wait.Sleep seen))) there call Woken fits s = retakes seen op _ s
    section_stands op (condition.AtWords (cond.Wait (wait.Sleep seen))) there call x fits s = absurd fits
    section_stands op (condition.AtWords (cond.Signal signal.LoadCell)) there call x fits s = absurd fits
    section_stands op (condition.AtWords (cond.Signal signal.LoadCounter)) there call x fits s = absurd fits
    section_stands op (condition.AtWords (cond.Signal signal.Count)) there call x fits s = absurd fits
    section_stands op (condition.AtWords (cond.Signal signal.Wake)) there call (Count j) fits s =
        subst (λ (o : Operation). Stands o c0 (cond.Signal signal.Wake) c → SectionOutcome o (onward (condition.Ended OK))) s.of (λ s. counted_ends operation.Signal OK s.called (ok_reply s.owns s.counts.0) s.counts.1 tt s.loads) s
    section_stands op (condition.AtWords (cond.Signal signal.Wake)) there call x fits s = absurd fits
    section_stands op (condition.AtWords (cond.Broadcast broadcast.LoadCell)) there call x fits s = absurd fits
    section_stands op (condition.AtWords (cond.Broadcast broadcast.LoadCounter)) there call x fits s = absurd fits
    section_stands op (condition.AtWords (cond.Broadcast (broadcast.Count seen))) there call x fits s = absurd fits
    section_stands op (condition.AtWords (cond.Broadcast (broadcast.SetWaiters seen))) there call x fits s = absurd fits
    section_stands op (condition.AtWords (cond.Broadcast (broadcast.Move seen))) there call Again fits s =
        subst (λ (o : Operation). Stands o c0 (cond.Broadcast (broadcast.Move seen)) c → SectionOutcome o (onward (condition.Ended OK))) s.of (λ s. counted_ends operation.Broadcast OK s.called (ok_reply s.owns s.counts.0) s.counts.1 s.waiters s.loads) s
    section_stands op (condition.AtWords (cond.Broadcast (broadcast.Move seen))) there call (Moved i j) fits s =
        subst (λ (o : Operation). Stands o c0 (cond.Broadcast (broadcast.Move seen)) c → SectionOutcome o (onward (condition.Ended OK))) s.of (λ s. counted_ends operation.Broadcast OK s.called (ok_reply s.owns s.counts.0) s.counts.1 s.waiters s.loads) s
    section_stands op (condition.AtWords (cond.Broadcast (broadcast.Move seen))) there call x fits s = absurd fits
    section_stands op (condition.AtWords cond.Awake) there call x fits s = absurd call.knows
    section_stands op (condition.AtWords (cond.Ended y)) there call x fits s = absurd call.knows
    section_stands op (condition.Announcing seen) there call x fits s = absurd fits
    section_stands op (condition.Unlinking u seen) there call x fits s = absurd (unlink_no_section u x fits)
    section_stands op (condition.Locking w) there call x fits s = absurd there
    section_stands op (condition.Ended y) there call x fits s = absurd there

-- ---- a thread that dies in it

one_point : (op : Operation) → Beginning op []
one_point operation.TimedLock = ((operation.TimedLock, OK) ∷ [], OK, inl refl)
one_point operation.TimedWait = ((operation.Wait, OK) ∷ [], OK, (refl, inl refl))
one_point op = ((op, OK) ∷ [], OK, refl)

pub begins_acts : (k : Layout') (n : ℕ) (op : Operation) (c0 c : Card) (r : CondRow) → CondStands k n op c0 r c → Beginning op (cond_acts r)
begins_acts k n op c0 c (cond.Wait wait.LoadCell) s = one_point op
begins_acts k n op c0 c (cond.Wait wait.LoadCounter) s = one_point op
begins_acts k n op c0 c (cond.Wait (wait.Release seen)) s = one_point op
begins_acts k n op c0 c (cond.Wait (wait.Wake seen)) s = subst (λ (o : Operation). Beginning o ((operation.Unlock, OK) ∷ [])) s.of ((operation.Lock, OK) ∷ [], OK, (refl, refl))
begins_acts k n op c0 c (cond.Wait (wait.Sleep seen)) s = subst (λ (o : Operation). Beginning o ((operation.Unlock, OK) ∷ [])) s.of ((operation.Lock, OK) ∷ [], OK, (refl, refl))
begins_acts k n op c0 c (cond.Signal signal.LoadCell) s = one_point op
begins_acts k n op c0 c (cond.Signal signal.LoadCounter) s = one_point op
begins_acts k n op c0 c (cond.Signal signal.Count) s = one_point op
begins_acts k n op c0 c (cond.Signal signal.Wake) s = subst (λ (o : Operation). Beginning o ((operation.Signal, OK) ∷ [])) s.of ([], OK, refl)
begins_acts k n op c0 c (cond.Broadcast broadcast.LoadCell) s = one_point op
begins_acts k n op c0 c (cond.Broadcast broadcast.LoadCounter) s = one_point op
begins_acts k n op c0 c (cond.Broadcast (broadcast.Count seen)) s = one_point op
begins_acts k n op c0 c (cond.Broadcast (broadcast.SetWaiters seen)) s = subst (λ (o : Operation). Beginning o ((operation.Broadcast, OK) ∷ [])) s.of ([], OK, refl)
begins_acts k n op c0 c (cond.Broadcast (broadcast.Move seen)) s = subst (λ (o : Operation). Beginning o ((operation.Broadcast, OK) ∷ [])) s.of ([], OK, refl)
begins_acts k n op c0 c cond.Awake s = one_point op
begins_acts k n op c0 c (cond.Ended x) s = one_point op

-- after its release a wait has loaded its counter, and after their point a signal and a broadcast have counted there
pub loaded_behind : (c d : Card) (z p : ℕ) (r : CondRow) (v : Option ℕ) → LoadsBehind r c z p d → CountsBehind r d.counted v → LoadedBehind (cond_acts r) c z p d
loaded_behind c d z p (cond.Wait wait.LoadCell) v loads counts = tt
loaded_behind c d z p (cond.Wait wait.LoadCounter) v loads counts = tt
loaded_behind c d z p (cond.Wait (wait.Release seen)) v loads counts = tt
loaded_behind c d z p (cond.Wait (wait.Wake seen)) v loads counts = loads.0
loaded_behind c d z p (cond.Wait (wait.Sleep seen)) v loads counts = loads.0
loaded_behind c d z p (cond.Signal signal.LoadCell) v loads counts = tt
loaded_behind c d z p (cond.Signal signal.LoadCounter) v loads counts = tt
loaded_behind c d z p (cond.Signal signal.Count) v loads counts = tt
loaded_behind c d z p (cond.Signal signal.Wake) v loads counts = (loads, counts.0)
loaded_behind c d z p (cond.Broadcast broadcast.LoadCell) v loads counts = tt
loaded_behind c d z p (cond.Broadcast broadcast.LoadCounter) v loads counts = tt
loaded_behind c d z p (cond.Broadcast (broadcast.Count seen)) v loads counts = tt
loaded_behind c d z p (cond.Broadcast (broadcast.SetWaiters seen)) v loads counts = (loads, counts.0)
loaded_behind c d z p (cond.Broadcast (broadcast.Move seen)) v loads counts = (loads, counts.0)
loaded_behind c d z p cond.Awake v loads counts = tt
loaded_behind c d z p (cond.Ended x) v loads counts = tt
