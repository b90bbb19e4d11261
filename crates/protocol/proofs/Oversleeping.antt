-- Waits whose time limit comes while they sleep on their condition variable.
use Rattle.std.proofs.Common.{◌≡◌, ◌≢◌, ℕ, ◌+◌, ◌≤◌, Bool, true, Option, None, List, refl, sym, ap, ◌∙◌, subst, arith}
use Rattle.protocol.proofs.Vocabulary.{Whole, OnCondition, CondCall, Thread, Stage, Calling, State, nothing, is_asleep, happens, stands_in, sleepers, counter_place, seen, held_by, head_place, departed, put, if◌then◌else◌}
use Rattle.condvar.specs.declared.call.Limit.{Limit}
use Rattle.condvar.specs.declared.call.Limit.TheVariants.{Past}
use Rattle.buckets.specs.Queues.{without}
use Rattle.protocol.specs.Machine.{expired, overslept, waits_on}
use Rattle.protocol.specs.declared.event.Event.TheVariants.{Expire}
use Rattle.protocol.proofs.Puts.{by_put, put-other}
use Rattle.protocol.proofs.Kept.{Kept, Sits, Listed, Owned, PendsAs, left_out}
use Rattle.protocol.proofs.Stepping.{SleepsAs, AnswersAs}
use Rattle.protocol.proofs.Queues.{not_true, without_stands}
use Rattle.protocol.proofs.Queued.{Queued, Answering}
use Rattle.protocol.proofs.Departures.{queues_kept, leave_queued}
use Rattle.protocol.proofs.WalksLeft.{left_to_walk_carries}
use Rattle.protocol.proofs.Frames.{knows_at}
use Rattle.protocol.proofs.Events.{is_known}
use Rattle.protocol.proofs.Cases.{at_or_else}
use Rattle.protocol.proofs.Vocabulary.{AtCondition, Dying, Idle, Reaped}

module _ (s : State) (t k : ℕ) (x : Limit) (p : Whole) (is : (s.threads t).stage ≡ Calling (OnCondition (CondCall.TimedWait k x)) p) where
  abbrev behind : Thread
  behind = record { stage = Calling (OnCondition (CondCall.TimedWait k Past)) p; held = (s.threads t).held }

  abbrev then_state : State
  then_state = (overslept s t (s.threads t).held k p).state

  stage_stays : (u : ℕ) → u ≢ t → (then_state.threads u).stage ≡ (s.threads u).stage
  stage_stays u apart = ap (λ (z : Thread). z.stage) (put-other s.threads t behind u apart)

  module _ (inv : Kept s) (pos : 1 ≤ t) (known : t ≤ s.layout.threads) where
    sits_still : (u h : ℕ) (g : Stage) → Sits s u h g → Sits then_state u h g
    sits_still u h g f = grind (arith)

    owned_still : (u : ℕ) (out : Option ℕ) (es : List ℕ) → Owned s u out es → Owned then_state u out es
    owned_still u out es owned = record { entries = owned.entries; all = owned.all }

    listed_still : (u h : ℕ) (g : Stage) → Sits s u h g → Listed s u g → Listed then_state u g
    listed_still u h Idle sits (es, owned, ch) = (es, owned_still u None es owned, ch)
    listed_still u h (Calling c q) sits (es, owned, ch) = (es, owned_still u (left_out s.layout (Calling c q)) es owned, ch)
    listed_still u h (AtCondition c q) sits (es, owned, ch) = (es, owned_still u (left_out s.layout (AtCondition c q)) es owned, ch)
    listed_still u h (Dying w) sits l =
        left_to_walk_carries s s.words then_state.queues then_state.threads u (λ y j below is own. refl) refl refl (λ j own. own) (λ j own. own) (λ j at v again treats owner only. only) w.row (knows_at s.layout u w sits) l
    listed_still u h Reaped sits none = none

    -- whether its limit has come is nothing to its lock, its list and its pending entry
    sits_here : Sits then_state t (s.threads t).held (Calling (OnCondition (CondCall.TimedWait k Past)) p)
    sits_here = sits_still t (s.threads t).held (Calling (OnCondition (CondCall.TimedWait k Past)) p) (subst (Sits s t (s.threads t).held) is (inv.sits t pos known))

    listed_here : Listed then_state t (Calling (OnCondition (CondCall.TimedWait k Past)) p)
    listed_here =
        let l = subst (Listed s t) is (inv.listed t pos known) in
        (l.0, record { entries = l.1.entries; all = l.1.all }, l.2)

    pends_here : PendsAs (s.words (head_place t + 2)) (Calling (OnCondition (CondCall.TimedWait k Past)) p)
    pends_here = subst (PendsAs (s.words (head_place t + 2))) is (inv.heads t pos known).pending

    pub overslept_kept : Kept then_state
    overslept_kept = record {
      layout = inv.layout;
      sits = λ u first most. by_put (λ (z : Thread). Sits then_state u z.held z.stage) s.threads t behind u
          (λ e. subst (λ (v : ℕ). Sits then_state v (s.threads t).held (Calling (OnCondition (CondCall.TimedWait k Past)) p)) (sym e) sits_here)
          (λ apart. sits_still u (s.threads u).held (s.threads u).stage (inv.sits u first most));
      listed = λ u first most. by_put (λ (z : Thread). Listed then_state u z.stage) s.threads t behind u
          (λ e. subst (λ (v : ℕ). Listed then_state v (Calling (OnCondition (CondCall.TimedWait k Past)) p)) (sym e) listed_here)
          (λ apart. listed_still u (s.threads u).held (s.threads u).stage (inv.sits u first most) (inv.listed u first most));
      heads = λ u first most. record {
        offset = (inv.heads u first most).offset;
        pending = by_put (λ (z : Thread). PendsAs (s.words (head_place u + 2)) z.stage) s.threads t behind u
            (λ e. subst (λ (v : ℕ). PendsAs (s.words (head_place v + 2)) (Calling (OnCondition (CondCall.TimedWait k Past)) p)) (sym e) pends_here)
            (λ apart. (inv.heads u first most).pending);
        few = by_put (λ (z : Thread). z.held ≤ 2048) s.threads t behind u (λ e. (inv.heads t pos known).few) (λ apart. (inv.heads u first most).few);
      };
      sound = inv.sound;
      owners = inv.owners;
      held = λ u first most. by_put (λ (z : Thread). z.held ≡ held_by u (seen s) s.layout.mutexes) s.threads t behind u
          (λ e. subst (λ (v : ℕ). (s.threads t).held ≡ held_by v (seen s) s.layout.mutexes) (sym e) (inv.held t pos known))
          (λ apart. inv.held u first most);
    }

  -- it answers for its mutex as any that was woken
  module _ (queued : Queued s) (there : waits_on s t k ≡ true) where
    answers_still : (m y : ℕ) → Answering s m y → Answering then_state m y
    answers_still m y =
        at_or_else (λ (z : ℕ). Answering s m z → Answering then_state m z) t y
        (λ a. absurd (cc (there, a.awake (counter_place s.layout k))))
        (λ apart a. record {
          first = a.first;
          last = a.last;
          answers = subst (AnswersAs s.layout s.words m y) (sym (stage_stays y apart)) a.answers;
          awake = λ key. not_true (stands_in y (without t (s.queues key))) (λ stands. cc ((without_stands t y (s.queues key) stands).0, a.awake key));
        })

    pub overslept_queued : Queued then_state
    overslept_queued =
        let left = leave_queued s t queued in
        record {
          sleeps = λ key u stands.
              let before = without_stands t u (s.queues key) stands in
              let slept = queued.sleeps key u before.0 in
              (slept.0, slept.1, subst (SleepsAs s.layout key) (sym (stage_stays u before.1)) slept.2);
          one = left.one;
          once = left.once;
          bits = left.bits;
          answered = λ m u inside none stands.
              let old = queued.answered m u inside none (without_stands t u (sleepers s m) stands).0 in
              (old.0, answers_still m old.0 old.1);
        }

-- the event
pub oversleep_goes : (s : State) (t k : ℕ) (x : Limit) (p : Whole) → 1 ≤ t → t ≤ s.layout.threads → (s.threads t).stage ≡ Calling (OnCondition (CondCall.TimedWait k x)) p → waits_on s t k ≡ true
    → happens s (Expire t) ≡ overslept s t (s.threads t).held k p
oversleep_goes s t k x p pos known is there =
    ap (λ (b : Bool). if b then expired s t (s.threads t).held (s.threads t).stage else nothing s) (is_known s t pos known)
    ∙ ap (expired s t (s.threads t).held) is
    ∙ ap (λ (b : Bool). if b then overslept s t (s.threads t).held k p else nothing s) there
