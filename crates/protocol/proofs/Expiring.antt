-- Locks whose time limit comes while they sleep.
use Rattle.std.proofs.Common.{◌≡◌, ◌≢◌, ℕ, ◌+◌, ◌≤◌, Bool, true, Option, None, List, refl, sym, ap, ◌∙◌, subst, arith}
use Rattle.protocol.proofs.Vocabulary.{Phase, AtCell, LockRow, Whole, Op, OnMutex, Call, Thread, Stage, Calling, AtCondition, Dying, Idle, Reaped}
use Rattle.protocol.proofs.Vocabulary.{State, nothing, lapsed, is_asleep, sleeps, happens, stands_in, sleepers, seen, held_by, head_place, if◌then◌else◌, ◌&&◌}
use Rattle.mutex.specs.Whole.{may_expire, timed_out}
use Rattle.protocol.proofs.Phases.{decided_at}
use Rattle.mutex.specs.declared.row.Row.TheVariants.{Lock}
use Rattle.buckets.specs.Queues.{without}
use Rattle.protocol.specs.Machine.{expired}
use Rattle.protocol.specs.declared.event.Event.TheVariants.{Expire}
use Rattle.protocol.proofs.Puts.{by_put, put-other}
use Rattle.protocol.proofs.Kept.{Kept, Sits, Listed, Owned, PendsAs, left_out}
use Rattle.protocol.proofs.WalksLeft.{left_to_walk_carries}
use Rattle.protocol.proofs.Frames.{knows_at}
use Rattle.protocol.proofs.Stepping.{SleepsAs, AnswersAs}
use Rattle.protocol.proofs.Queues.{not_true, without_stands, once_without}
use Rattle.protocol.proofs.Queued.{Queued, Answering}
use Rattle.protocol.proofs.Departures.{asleep_where}
use Rattle.protocol.proofs.Events.{is_known}
use Rattle.protocol.proofs.Cases.{at_or_else}

-- a thread that sleeps in a lock will load its cell when it is woken
pub loads_next : (s : State) (t : ℕ) (o : Op) (p : Whole) → Queued s → (s.threads t).stage ≡ Calling o p → is_asleep s t ≡ true → p.phase ≡ AtCell (Lock LockRow.Load)
loads_next s t o p queued is asleep =
    let there = asleep_where s t asleep in
    let slept : SleepsAs s.layout there.0 (Calling o p) = subst (SleepsAs s.layout there.0) is (queued.sleeps there.0 t there.1).2 in
    slept.0

-- whoever may be out of time is in a lock, undecided
pub expires_at : (f : Phase) → may_expire f ≡ true → (r : LockRow) × (f ≡ AtCell (Lock r)) × (decided_at f ≡ None)
expires_at (AtCell (Lock LockRow.Load)) e = (LockRow.Load, refl, refl)
expires_at (AtCell (Lock (LockRow.Sleep v))) e = (LockRow.Sleep v, refl, refl)
expires_at f e = absurd cc

module _ (s : State) (t : ℕ) (o : Op) (p : Whole) (is : (s.threads t).stage ≡ Calling o p) (r : LockRow) (at : p.phase ≡ AtCell (Lock r)) where
  abbrev whole : Whole
  whole = record p { phase = AtCell (Lock r) }

  same : p ≡ whole
  same = λ i. record { thread = p.thread; operation = p.operation; head = p.head; entry = p.entry; cell = p.cell; phase = at i }

  stands : (s.threads t).stage ≡ Calling o whole
  stands = is ∙ ap (Calling o) same

  abbrev pub behind : Thread
  behind = record { stage = Calling o (timed_out p); held = (s.threads t).held }

  abbrev pub lapsed_state : State
  lapsed_state = (lapsed s t (s.threads t).held o p).state

  stage_stays : (u : ℕ) → u ≢ t → (lapsed_state.threads u).stage ≡ (s.threads u).stage
  stage_stays u apart = ap (λ (z : Thread). z.stage) (put-other s.threads t behind u apart)

  module _ (inv : Kept s) (pos : 1 ≤ t) (known : t ≤ s.layout.threads) where
    sits_still : (u h : ℕ) (g : Stage) → Sits s u h g → Sits lapsed_state u h g
    sits_still u h g f = grind (arith)

    owned_still : (u : ℕ) (out : Option ℕ) (es : List ℕ) → Owned s u out es → Owned lapsed_state u out es
    owned_still u out es owned = record { entries = owned.entries; all = owned.all }

    listed_still : (u h : ℕ) (g : Stage) → Sits s u h g → Listed s u g → Listed lapsed_state u g
    listed_still u h Idle sits (es, owned, ch) = (es, owned_still u None es owned, ch)
    listed_still u h (Calling c q) sits (es, owned, ch) = (es, owned_still u (left_out s.layout (Calling c q)) es owned, ch)
    listed_still u h (AtCondition c q) sits (es, owned, ch) = (es, owned_still u (left_out s.layout (AtCondition c q)) es owned, ch)
    listed_still u h (Dying w) sits l =
        left_to_walk_carries s s.words lapsed_state.queues lapsed_state.threads u (λ x k below is own. refl) refl refl (λ k own. own) (λ k own. own) (λ k at v again treats owner only. only) w.row (knows_at s.layout u w sits) l
    listed_still u h Reaped sits none = none

    sits_here : Sits lapsed_state t (s.threads t).held (Calling o (timed_out p))
    sits_here =
        let f = subst (Sits s t (s.threads t).held) is (inv.sits t pos known) in
        (record { mine = f.0.mine; inside = f.0.inside; head = f.0.head; entry = f.0.entry; cell = f.0.cell; stands = tt }, f.1)

    listed_here : Listed lapsed_state t (Calling o (timed_out p))
    listed_here =
        let l = subst (Listed s t) stands (inv.listed t pos known) in
        (l.0, record { entries = l.1.entries; all = l.1.all }, l.2)

    pends_here : PendsAs (s.words (head_place t + 2)) (Calling o (timed_out p))
    pends_here = subst (PendsAs (s.words (head_place t + 2))) stands (inv.heads t pos known).pending

    pub lapse_kept : Kept lapsed_state
    lapse_kept = record {
      layout = inv.layout;
      sits = λ u first most. by_put (λ (z : Thread). Sits lapsed_state u z.held z.stage) s.threads t behind u
          (λ e. subst (λ (v : ℕ). Sits lapsed_state v (s.threads t).held (Calling o (timed_out p))) (sym e) sits_here)
          (λ apart. sits_still u (s.threads u).held (s.threads u).stage (inv.sits u first most));
      listed = λ u first most. by_put (λ (z : Thread). Listed lapsed_state u z.stage) s.threads t behind u
          (λ e. subst (λ (v : ℕ). Listed lapsed_state v (Calling o (timed_out p))) (sym e) listed_here)
          (λ apart. listed_still u (s.threads u).held (s.threads u).stage (inv.sits u first most) (inv.listed u first most));
      heads = λ u first most. record {
        offset = (inv.heads u first most).offset;
        pending = by_put (λ (z : Thread). PendsAs (s.words (head_place u + 2)) z.stage) s.threads t behind u
            (λ e. subst (λ (v : ℕ). PendsAs (s.words (head_place v + 2)) (Calling o (timed_out p))) (sym e) pends_here)
            (λ apart. (inv.heads u first most).pending);
        few = by_put (λ (z : Thread). z.held ≤ 2048) s.threads t behind u (λ e. (inv.heads t pos known).few) (λ apart. (inv.heads u first most).few);
      };
      sound = inv.sound;
      owners = inv.owners;
      held = λ u first most. by_put (λ (z : Thread). z.held ≡ held_by u (seen s) s.layout.mutexes) s.threads t behind u
          (λ e. subst (λ (v : ℕ). (s.threads t).held ≡ held_by v (seen s) s.layout.mutexes) (sym e) (inv.held t pos known))
          (λ apart. inv.held u first most);
    }

  -- who answers for a mutex is awake, and so isn't this one
  module _ (queued : Queued s) (asleep : is_asleep s t ≡ true) where
    answers_still : (m x : ℕ) → Answering s m x → Answering lapsed_state m x
    answers_still m x =
        at_or_else (λ (y : ℕ). Answering s m y → Answering lapsed_state m y) t x
        (λ a. let there = asleep_where s t asleep in absurd (cc (there.1, a.awake there.0)))
        (λ apart a. record {
          first = a.first;
          last = a.last;
          answers = subst (AnswersAs s.layout s.words m x) (sym (stage_stays x apart)) a.answers;
          awake = λ key. not_true (stands_in x (without t (s.queues key))) (λ there. cc ((without_stands t x (s.queues key) there).0, a.awake key));
        })

    pub lapse_queued : Queued lapsed_state
    lapse_queued = record {
      sleeps = λ key u there.
          let before = without_stands t u (s.queues key) there in
          let slept = queued.sleeps key u before.0 in
          (slept.0, slept.1, subst (SleepsAs s.layout key) (sym (stage_stays u before.1)) slept.2);
      one = λ u key other here there. queued.one u key other (without_stands t u (s.queues key) here).0 (without_stands t u (s.queues other) there).0;
      once = λ key. once_without t (s.queues key) (queued.once key);
      bits = λ m u inside there. queued.bits m u inside (without_stands t u (sleepers s m) there).0;
      answered = λ m u inside none there.
          let old = queued.answered m u inside none (without_stands t u (sleepers s m) there).0 in
          (old.0, answers_still m old.0 old.1);
    }

-- the event
pub lapse_goes : (s : State) (t m : ℕ) (p : Whole) → 1 ≤ t → t ≤ s.layout.threads → (s.threads t).stage ≡ Calling (OnMutex (Call.TimedLock m)) p → is_asleep s t ≡ true → may_expire p.phase ≡ true
    → happens s (Expire t) ≡ lapsed s t (s.threads t).held (OnMutex (Call.TimedLock m)) p
lapse_goes s t m p pos known is asleep may =
    ap (λ (b : Bool). if b then expired s t (s.threads t).held (s.threads t).stage else nothing s) (is_known s t pos known)
    ∙ ap (expired s t (s.threads t).held) is
    ∙ ap (λ (b : Bool). if b && sleeps s t (Calling (OnMutex (Call.TimedLock m)) p) then lapsed s t (s.threads t).held (OnMutex (Call.TimedLock m)) p else nothing s) may
    ∙ ap (λ (b : Bool). if b then lapsed s t (s.threads t).held (OnMutex (Call.TimedLock m)) p else nothing s) (sym (ap (sleeps s t) is) ∙ asleep)
