-- Which threads sleep where, event by event.
use Rattle.std.proofs.Common.{arith, ◌≡◌, ◌≢◌, ℕ, ◌+◌, ◌≤◌, Bool, true, false, Ok, Err, List, [], ◌∷◌, refl, sym, ap, subst}
use Rattle.protocol.proofs.Vocabulary.{LoadFirst, Layout', IsLayout, head_place, XHELD, Op, Event, Thread, Stage, Idle, Dying, State, After, put, start, stands_in}
use Rattle.protocol.proofs.Vocabulary.{sleepers, is_alive, killed, begun, happens, run, if◌then◌else◌}
use Rattle.buckets.specs.Queues.{without}
use Rattle.protocol.proofs.Puts.{put-same, put-other}
use Rattle.protocol.proofs.Kept.{Kept}
use Rattle.protocol.proofs.WalkSteps.{walk_of}
use Rattle.protocol.proofs.Stepping.{SleepsAs, AnswersAs}
use Rattle.protocol.proofs.Events.{begins_at, by_event}
use Rattle.protocol.proofs.Working.{by_step}
use Rattle.protocol.proofs.Queues.{without_stands, without_gone, once_without, not_true}
use Rattle.protocol.proofs.Queued.{Answering, Queued, went_queued}
use Rattle.protocol.proofs.Departures.{leave_queued}
use Rattle.protocol.proofs.Renewals.{renew_queued}
use Rattle.protocol.proofs.Vocabulary.{cell_place}
use Rattle.protocol.proofs.Reinits.{waiters_say_nothing, reinit_queued, sleepers_kept}
use Rattle.protocol.proofs.Vocabulary.{Call, OnMutex}
use Rattle.protocol.proofs.Expiring.{expires_at, lapse_queued}
use Rattle.protocol.proofs.Oversleeping.{overslept_queued}
use Rattle.protocol.proofs.Declines.{spared_is, decline_queued}
use Rattle.protocol.proofs.Runs.{sound, start_kept}
use Rattle.protocol.proofs.Cases.{at_or_else}
use Rattle.protocol.proofs.Seeing.{entry_in}
use Rattle.protocol.proofs.Sparing.{spare_is, spare_queued}

-- ---- a call that begins
module _ (s : State) (t : ℕ) (o : Op) (queued : Queued s) (idle : (s.threads t).stage ≡ Idle) where
  abbrev busy : Thread
  busy = record (s.threads t) { stage = begins_at s.layout t o }

  abbrev begun_state : State
  begun_state = record s { threads = put s.threads t busy }

  begun_queued : Queued begun_state
  begun_queued = grind (arith)

  begins_queued : (b : Bool) → Queued (begun s t o (if b then Err XHELD else Ok (begins_at s.layout t o))).state
  begins_queued true = queued
  begins_queued false = begun_queued

-- ---- a death

module _ (s : State) (t : ℕ) (inv : Kept s) (queued : Queued s) (pos : 1 ≤ t) (known : t ≤ s.layout.threads) (alive : is_alive (s.threads t).stage ≡ true) where
  abbrev dead : Thread
  dead = record (s.threads t) { stage = Dying (walk_of s.layout t LoadFirst) }

  abbrev s1 : State
  s1 = (killed s t).state

  stage_stays : (u : ℕ) → u ≢ t → (s1.threads u).stage ≡ (s.threads u).stage
  stage_stays u apart = ap (λ (z : Thread). z.stage) (put-other s.threads t dead u apart)

  -- its walk answers for what its call answered for
  minds : (m : ℕ) (g : Stage) → (s.threads t).stage ≡ g → AnswersAs s.layout s.words m t g → s.words (head_place t + 2) ≡ entry_in s.layout t m
  minds m g is a = grind (arith)

  out_then : (u : ℕ) → ((key : ℕ) → stands_in u (s.queues key) ≡ false) → (key : ℕ) → stands_in u (s1.queues key) ≡ false
  out_then u out key = not_true (stands_in u (without t (s.queues key))) (λ stands. cc ((without_stands t u (s.queues key) stands).0, out key))

  dead_answers : (m x : ℕ) → Answering s m x → Answering s1 m x
  dead_answers m x =
      at_or_else (λ (y : ℕ). Answering s m y → Answering s1 m y) t x
      (λ a. record {
        first = pos;
        last = known;
        answers = subst (λ (z : Thread). AnswersAs s.layout s.words m t z.stage) (sym (put-same s.threads t dead)) (minds m (s.threads t).stage refl a.answers);
        awake = λ key. without_gone t (s.queues key);
      })
      (λ apart a. record { first = a.first; last = a.last; answers = subst (AnswersAs s.layout s.words m x) (sym (stage_stays x apart)) a.answers; awake = out_then x a.awake })

  kill_queued : Queued s1
  kill_queued = record {
    sleeps = λ key u stands.
        let there = without_stands t u (s.queues key) stands in
        let slept = queued.sleeps key u there.0 in
        (slept.0, slept.1, subst (SleepsAs s.layout key) (sym (stage_stays u there.1)) slept.2);
    one = λ u key at here there. queued.one u key at (without_stands t u (s.queues key) here).0 (without_stands t u (s.queues at) there).0;
    once = λ key. once_without t (s.queues key) (queued.once key);
    bits = λ m u inside stands. queued.bits m u inside (without_stands t u (sleepers s m) stands).0;
    answered = λ m u inside none stands.
        let old = queued.answered m u inside none (without_stands t u (sleepers s m) stands).0 in
        (old.0, dead_answers m old.0 old.1);
  }

-- ---- events

pub queued_on : (s : State) (e : Event) → Kept s → Queued s → Queued (happens s e).state
queued_on s e inv queued =
    by_event s (λ (x : Event) (a : After). Queued a.state)
    (λ x. queued)
    (λ t o pos known named idle b full. begins_queued s t o queued idle b)
    (λ t pos known. by_step s t inv pos known (λ (a : After). Queued a.state) (λ rests. queued) (λ v n is awake g noted. went_queued s t v g pos known is queued awake))
    (λ t pos known alive. kill_queued s t inv queued pos known alive)
    (λ t pos known asleep. leave_queued s t queued)
    (λ t m p pos known is asleep may. let e = expires_at p.phase may in lapse_queued s t (OnMutex (Call.TimedLock m)) p is e.0 e.1 queued asleep)
    (λ t k x p pos known is there. overslept_queued s t k x p is queued there)
    (λ t o p pos known is awake trims. subst (λ (a : After). Queued a.state) (sym (spared_is s t o p is trims inv pos known)) (decline_queued s t o p is trims queued))
    (λ t pos known gone. renew_queued s t pos known queued gone)
    (λ t m may. reinit_queued s t m _ (waiters_say_nothing (s.words (cell_place s.layout m))) may inv (sleepers_kept s m) queued)
    (λ t m g sp. subst (λ (a : After). Queued a.state) (sym (spare_is s t m g sp inv)) (spare_queued s t m g sp queued))
    e

pub start_queued : (l : Layout') (counters : ℕ → ℕ) → Queued (start l counters)
start_queued l counters = grind (arith)

pub queued_after : (s : State) (es : List Event) → Kept s → Queued s → Queued (run s es)
queued_after s [] inv queued = queued
queued_after s (e ∷ es) inv queued = queued_after (happens s e).state es (sound s e inv).kept (queued_on s e inv queued)

pub run_queued : (l : Layout') (counters : ℕ → ℕ) (events : List Event) → IsLayout l → Queued (run (start l counters) events)
run_queued l counters events is = queued_after (start l counters) events (start_kept l counters is) (start_queued l counters)
