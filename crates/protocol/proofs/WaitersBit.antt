-- The WAITERS bit, event by event.
use Rattle.std.proofs.Common.{◌≡◌, ◌⊎◌, inl, ℕ, ◌≤◌, ◌==◌, ◌&&◌, Bool, true, false, List, [], drop, Ok, Err, refl, ap, ◌∙◌, subst}
use Rattle.protocol.proofs.Vocabulary.{XHELD, Op, Event, Step, State, After, begun, happens, run, start, if◌then◌else◌, cell_place, Phase, AtCell, Whole, OnMutex, Calling, is_asleep}
use Rattle.protocol.proofs.Vocabulary.{Access, answer_among, fields_of, word_among, Onward, stands_in, UnlockRow, put, stage_after, reinited, MayRemake, IsUnowned}
use Rattle.protocol.proofs.Cases.{at_or_else}
use Rattle.protocol.specs.Machine.{sleepers}
use Rattle.mutex.specs.Programs.{row_access, resume_of}
use Rattle.mutex.specs.Whole.{from_cell}
use Rattle.protocol.proofs.Puts.{put-same}
use Rattle.mutex.specs.declared.call.Call.TheVariants as call
use Rattle.mutex.specs.declared.row.Row.TheVariants.{Unlock}
use Rattle.protocol.specs.WaitersBit.{WaitersStay, IsTrimmed, WaitersAreKept}
use Rattle.protocol.proofs.Kept.{Fits, Serves, Kept}
use Rattle.protocol.proofs.Steps.{after, call_step, onto}
use Rattle.protocol.proofs.Stepping.{SleepsAs, Stepping, HasWaiters}
use Rattle.protocol.proofs.CallSteps.{CallStep, call_stepping}
use Rattle.protocol.proofs.CellSteps as cell
use Rattle.protocol.proofs.Accesses.{fits_in, goes}
use Rattle.protocol.proofs.Events.{begins_at, by_event}
use Rattle.protocol.proofs.Renewals.{renewed_cell}
use Rattle.protocol.proofs.Reinits.{Says_nothing, waiters_say_nothing, waiters_kept, reinited_word, reinited_cell}
use Rattle.protocol.proofs.Working.{by_step, call_goes}
use Rattle.protocol.proofs.Queued.{Queued, mine, out_awake}
use Rattle.protocol.proofs.Queues.{not_true}
use Rattle.protocol.proofs.QueueRuns.{run_queued, queued_on}
use Rattle.protocol.proofs.Runs.{start_kept, run_kept}

-- a begin changes no word
begins_stay : (s : State) (t : ℕ) (o : Op) (b : Bool) → WaitersStay s (begun s t o (if b then Err XHELD else Ok (begins_at s.layout t o))).state
begins_stay s t o true m below on = inl on
begins_stay s t o false m below on = inl on

-- WAITERS of mutex j stays from state s to z, or nobody sleeps there and nobody owned it
abbrev Stays_in : State → State → ℕ → Type 0
Stays_in s z j = HasWaiters s j → HasWaiters z j ⊎ ((sleepers z j ≡ []) × IsUnowned s j)

stay_on : (s : State) (e : Event) → Kept s → WaitersStay s (happens s e).state
stay_on s e inv =
    by_event s (λ (x : Event) (a : After). WaitersStay s a.state)
    (λ x m below on. inl on)
    (λ t o pos known named idle b full. begins_stay s t o b)
    (λ t pos known. by_step s t inv pos known (λ (a : After). WaitersStay s a.state) (λ rests m below on. inl on) (λ v n is awake g noted. g.waiters))
    (λ t pos known alive m below on. inl on)
    (λ t pos known asleep m below on. inl on)
    (λ t k p pos known is asleep may m below on. inl on)
    (λ t k x p pos known is there m below on. inl on)
    (λ t o p pos known is awake trims m below on. inl on)
    (λ t pos known gone m below on. inl (ap (λ (w : ℕ). (fields_of w).waiters) (renewed_cell s t pos known m) ∙ on))
    (λ t k may m below on. let says = waiters_say_nothing (s.words (cell_place s.layout k)) in reinit_stays t k _ says may (λ on. inl (ap (λ (w : ℕ). (fields_of w).waiters) (reinited_word s t k _ says may) ∙ (waiters_kept (s.words (cell_place s.layout k)) ∙ on))) m on)
    (λ t k g sp m below on. inl on)
    e
  where
    reinit_stays : (t k w : ℕ) (says : Says_nothing w) (may : MayRemake s t k) → Stays_in s (reinited s t k w).state k → (m : ℕ) → Stays_in s (reinited s t k w).state m
    reinit_stays t k w says may here m =
        at_or_else (Stays_in s (reinited s t k w).state) k m here
        (λ apart on. inl (ap (λ (v : ℕ). (fields_of v).waiters) (reinited_cell s t k w says may m apart) ∙ on))

-- ---- an unlock that finds nobody to wake

-- one step of thread t's unlock of mutex m, which is at row r of its cell and isn't a sleeper's
module _ (s : State) (t m : ℕ) (p : Whole) (r : UnlockRow) (inv : Kept s) (queued : Queued s) (pos : 1 ≤ t) (known : t ≤ s.layout.threads) (is : (s.threads t).stage ≡ Calling (OnMutex (call.Unlock m)) p) (at : p.phase ≡ AtCell (Unlock r)) where
  abbrev o : Op
  o = OnMutex (call.Unlock m)

  abbrev here : Whole
  here = record p { phase = AtCell (Unlock r) }

  same : p ≡ here
  same = λ i. record { thread = p.thread; operation = p.operation; head = p.head; entry = p.entry; cell = p.cell; phase = at i }

  stands : (s.threads t).stage ≡ Calling o here
  stands = is ∙ ap (Calling o) same

  fit : Fits s t (s.threads t).held m here × Serves s.layout o here
  fit = fits_in s t o here inv pos known stands

  went : CallStep s t o here
  went = goes s t o here inv pos known stands

  -- a thread that sleeps is at another row
  awake : is_asleep s t ≡ false
  awake = out_awake s t (λ key. not_true (stands_in t (s.queues key)) (λ in_it. let so = subst (SleepsAs s.layout key) stands (queued.sleeps key t in_it).2 in cc so.0))

  abbrev z : State
  z = after s t (call_step s t o here)

  step : Stepping s t (call_step s t o here)
  step = call_stepping s t o here went fit.0

  to : (happens s (Step t)).state ≡ z
  to = ap (λ (a : After). a.state) (call_goes s t o here inv pos known stands awake)

  word_then : z.words (cell_place s.layout m) ≡ word_among (row_access p.thread p.cell (Unlock r)) (s.words (cell_place s.layout m)) (s.queues (cell_place s.layout m))
  word_then = cell.word_here s t o p (Unlock r) inv pos known fit.0 fit.1

-- the wake of one, where nobody sleeps, and then the trim
module _ (s : State) (t m : ℕ) (p : Whole) (inv : Kept s) (queued : Queued s) (pos : 1 ≤ t) (known : t ≤ s.layout.threads) (is : (s.threads t).stage ≡ Calling (OnMutex (call.Unlock m)) p) (at : p.phase ≡ AtCell (Unlock (UnlockRow.Wake false))) (nobody : sleepers s m ≡ []) where
  abbrev unlock : Op
  unlock = OnMutex (call.Unlock m)

  abbrev wake : UnlockRow
  wake = UnlockRow.Wake false

  abbrev place : ℕ
  place = cell_place s.layout m

  abbrev waking : Whole
  waking = record p { phase = AtCell (Unlock wake) }

  abbrev trimming : Whole
  trimming = record p { phase = AtCell (Unlock UnlockRow.Trim) }

  abbrev s1 : State
  s1 = after s t (call_step s t unlock waking)

  fits1 : Fits s t (s.threads t).held m waking × Serves s.layout unlock waking
  fits1 = fit s t m p wake inv queued pos known is at

  to1 : (happens s (Step t)).state ≡ s1
  to1 = to s t m p wake inv queued pos known is at

  word1 : s1.words place ≡ s.words place
  word1 = word_then s t m p wake inv queued pos known is at

  queue1 : s1.queues place ≡ []
  queue1 = ap (λ (x : ℕ). put s.queues x (drop 1 (s.queues x)) place) (cell.at_place s t unlock p (Unlock wake) inv pos known fits1.0 fits1.1) ∙ put-same s.queues place (drop 1 (s.queues place)) ∙ ap (drop 1) nobody

  phase1 : (onto s t waking).phase ≡ AtCell (Unlock UnlockRow.Trim)
  phase1 =
      ap (λ (x : Onward). x.phase) (cell.leads s t unlock p (Unlock wake) inv pos known fits1.0 fits1.1)
      ∙ ap (λ (q : List ℕ). (from_cell waking (resume_of p.thread (Unlock wake) (answer_among (Access.Wake p.cell 1) (s.words place) q))).phase) nobody

  stage1 : (s1.threads t).stage ≡ Calling unlock trimming
  stage1 =
      mine s t (call_step s t unlock waking) (step s t m p wake inv queued pos known is at) pos known (stands s t m p wake inv queued pos known is at) queued (awake s t m p wake inv queued pos known is at)
      ∙ ap (λ (f : Phase). stage_after unlock waking f) phase1

  kept1 : Kept s1
  kept1 = (went s t m p wake inv queued pos known is at).kept

  queued1 : Queued s1
  queued1 = subst Queued to1 (queued_on s (Step t) inv queued)

  by_trim : (b : Bool) → (if b && true then 0 else s.words place) ≡ (if b then 0 else s.words place)
  by_trim true = refl
  by_trim false = refl

  trims_on : IsTrimmed s t m
  trims_on =
      ap (λ (x : State). (happens x (Step t)).state.words place) to1
      ∙ ap (λ (x : State). x.words place) (to s1 t m trimming UnlockRow.Trim kept1 queued1 pos known stage1 refl)
      ∙ word_then s1 t m trimming UnlockRow.Trim kept1 queued1 pos known stage1 refl
      ∙ (λ i. word_among (Access.Trim p.cell) (word1 i) (queue1 i))
      ∙ by_trim (s.words place == 0x8000_0000)

pub kept_waiters : WaitersAreKept
kept_waiters l counters events is = record {
  told = (run_queued l counters events is).bits;
  stay = λ e. stay_on (run (start l counters) events) e (run_kept (start l counters) events (start_kept l counters is));
  trimmed = λ t m pos known to_wake nobody. trims_on (run (start l counters) events) t m to_wake.0 (run_kept (start l counters) events (start_kept l counters is)) (run_queued l counters events is) pos known to_wake.1 to_wake.2 nobody;
}
