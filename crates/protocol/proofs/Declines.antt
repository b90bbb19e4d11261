-- Trims that are declined.
use Rattle.std.proofs.Common.{◌≡◌, ◌≢◌, ℕ, ◌≤◌, Bool, true, false, None, List, [], ◌∷◌, refl, sym, ap, ◌∙◌, subst, arith}
use Rattle.protocol.proofs.Vocabulary.{Operation, OK, Trimmed, Phase, AtCell, Clearing, UnlockRow, Whole, whole_access, whole_led, leaving, Op, mutex_of, Event, Step, Thread, Calling}
use Rattle.protocol.proofs.Vocabulary.{Note, Stepped, State, After, put, place_met, nothing, is_asleep, led, spared, stage_after, held_after, happens, word_among}
use Rattle.protocol.proofs.Vocabulary.{Access, stands_in, sleeps, if◌then◌else◌, ◌&&◌, not}
use mathlib.Core.Path.{fun_ext}
use Rattle.mutex.specs.Whole.{phase_led, phase_access}
use Rattle.mutex.specs.declared.row.Row.TheVariants.{Unlock}
use Rattle.protocol.specs.Machine.{Led, returned, is_trim, declined}
use Rattle.protocol.specs.Applies.{IsAboutToTrim}
use Rattle.protocol.specs.declared.event.Event.TheVariants.{Decline}
use Rattle.protocol.proofs.Puts.{by_put, put-same, put-other}
use Rattle.protocol.proofs.Kept.{Kept}
use Rattle.protocol.proofs.Steps.{after, thread_after, call_step}
use Rattle.protocol.proofs.Stepping.{SleepsAs, AnswersAs}
use Rattle.protocol.proofs.Accesses.{fits_in, goes}
use Rattle.protocol.proofs.Queued.{Queued, Answering, in_none}
use Rattle.protocol.proofs.Working.{call_goes}
use Rattle.protocol.proofs.Events.{is_known, by_event, IsTrimming}
use Rattle.protocol.proofs.Departures.{queues_kept, asleep_where}
use Rattle.protocol.proofs.Queues.{not_true}
use Rattle.protocol.proofs.Cases.{at_or_else}

-- a thread that is about to trim in its unlock
module _ (s : State) (t : ℕ) (o : Op) (p : Whole) (is : (s.threads t).stage ≡ Calling o p) (trims : IsTrimming p) where
  -- as it stands after that
  abbrev pub behind : Thread
  behind = record { stage = Calling o (record p { phase = Clearing OK }); held = (s.threads t).held }

  abbrev pub declined_state : State
  declined_state = record s { threads = put s.threads t behind }

  abbrev pub quiet : Note
  quiet = Stepped t (mutex_of s.layout o) None None [] [] None

  abbrev whole : Whole
  whole = record p { phase = AtCell (Unlock UnlockRow.Trim) }

  same : p ≡ whole
  same = λ i. record { thread = p.thread; operation = p.operation; head = p.head; entry = p.entry; cell = p.cell; phase = trims i }

  stands : (s.threads t).stage ≡ Calling o whole
  stands = is ∙ ap (Calling o) same

  module _ (inv : Kept s) (pos : 1 ≤ t) (known : t ≤ s.layout.threads) where
    unlocks : p.operation ≡ Operation.Unlock
    unlocks = sym (fits_in s t o whole inv pos known stands).0.stands.of

    -- where it leads, by the call's operation
    abbrev led_as : Operation → Led
    led_as op = record { stage = stage_after o p (leaving p op OK); operation = op; point = None; returned = returned o (leaving p op OK) }

    led_is : led o p (whole_led p (Trimmed false)) ≡ led_as Operation.Unlock
    led_is = ap (λ (f : Phase). led o p (phase_led p f (Trimmed false))) trims ∙ ap led_as unlocks

    pub spared_is : spared s t (s.threads t).held (mutex_of s.layout o) (led o p (whole_led p (Trimmed false))) ≡ record { state = declined_state; note = quiet }
    spared_is = ap (spared s t (s.threads t).held (mutex_of s.layout o)) led_is

    -- as if somebody slept on the cell: then nothing is trimmed
    abbrev slept_on : ℕ → List ℕ
    slept_on key = t ∷ []

    abbrev s1 : State
    s1 = record s { queues = slept_on }

    abbrev place : ℕ
    place = place_met s.layout t (Access.Trim p.cell)

    abbrev s2 : State
    s2 = after s1 t (call_step s1 t o whole)

    abbrev With : Operation → (ℕ → ℕ) → Type 0
    With op ws = Kept (record { layout = s.layout; words = ws; queues = s2.queues; threads = put s.threads t (record { stage = stage_after o whole (leaving whole op OK); held = held_after (s.threads t).held op None }) })

    word_stays : word_among (Access.Trim p.cell) (s.words place) (t ∷ []) ≡ s.words place
    word_stays = grind (arith)

    words_stay : put s.words place (word_among (Access.Trim p.cell) (s.words place) (t ∷ [])) ≡ s.words
    words_stay = fun_ext (λ x. by_put (λ (v : ℕ). v ≡ s.words x) s.words place _ x (λ at. word_stays ∙ ap s.words (sym at)) (λ apart. refl))

    pub decline_kept : Kept declined_state
    decline_kept =
        let first : With p.operation (put s.words place (word_among (Access.Trim p.cell) (s.words place) (t ∷ []))) = (goes s1 t o whole (queues_kept s slept_on inv) pos known stands).kept in
        let second : With Operation.Unlock (put s.words place (word_among (Access.Trim p.cell) (s.words place) (t ∷ []))) = subst (λ (op : Operation). With op (put s.words place (word_among (Access.Trim p.cell) (s.words place) (t ∷ [])))) unlocks first in
        let third : With Operation.Unlock s.words = subst (With Operation.Unlock) words_stay second in
        queues_kept (record declined_state { queues = s2.queues }) s.queues third

  -- ---- who sleeps
  module _ (queued : Queued s) where
    pub trims_awake : is_asleep s t ≡ false
    trims_awake = not_true (is_asleep s t) (λ asleep.
        let there = asleep_where s t asleep in
        let slept : SleepsAs s.layout there.0 (Calling o p) = subst (SleepsAs s.layout there.0) is (queued.sleeps there.0 t there.1).2 in
        cc (slept.0, trims))

    stage_stays : (u : ℕ) → u ≢ t → (declined_state.threads u).stage ≡ (s.threads u).stage
    stage_stays u apart = ap (λ (z : Thread). z.stage) (put-other s.threads t behind u apart)

    asleep_apart : (u key : ℕ) → stands_in u (s.queues key) ≡ true → u ≢ t
    asleep_apart u key there at = cc (sym (ap (λ (v : ℕ). stands_in v (s.queues key)) at) ∙ there, in_none s t queued trims_awake key)

    -- it answered for nothing
    answers_none : (m : ℕ) → AnswersAs s.layout s.words m t (s.threads t).stage → ⊥
    answers_none m a = let now : AnswersAs s.layout s.words m t (Calling o whole) = subst (AnswersAs s.layout s.words m t) stands a in cc now.1

    answers_still : (m x : ℕ) → Answering s m x → Answering declined_state m x
    answers_still m x =
        at_or_else (λ (y : ℕ). Answering s m y → Answering declined_state m y) t x
        (λ a. absurd (answers_none m a.answers))
        (λ apart a. record { first = a.first; last = a.last; answers = subst (AnswersAs s.layout s.words m x) (sym (stage_stays x apart)) a.answers; awake = a.awake })

    pub decline_queued : Queued declined_state
    decline_queued = record {
      sleeps = λ key u there. let slept = queued.sleeps key u there in (slept.0, slept.1, subst (SleepsAs s.layout key) (sym (stage_stays u (asleep_apart u key there))) slept.2);
      one = queued.one;
      once = queued.once;
      bits = queued.bits;
      answered = λ m u inside none there. let old = queued.answered m u inside none there in (old.0, answers_still m old.0 old.1);
    }

    -- ---- the event
    module _ (inv : Kept s) (pos : 1 ≤ t) (known : t ≤ s.layout.threads) where
      trim_is : is_trim (whole_access p) ≡ true
      trim_is = ap (λ (f : Phase). is_trim (phase_access p f)) trims

      abbrev spares : After
      spares = spared s t (s.threads t).held (mutex_of s.layout o) (led o p (whole_led p (Trimmed false)))

      pub decline_goes : happens s (Decline t) ≡ record { state = declined_state; note = quiet }
      decline_goes =
          ap (λ (b : Bool). if b then declined s t (s.threads t).held (s.threads t).stage else nothing s) (is_known s t pos known)
          ∙ ap (declined s t (s.threads t).held) is
          ∙ ap (λ (b : Bool). if b && not (sleeps s t (Calling o p)) then spares else nothing s) trim_is
          ∙ ap (λ (b : Bool). if not b then spares else nothing s) (sym (ap (sleeps s t) is) ∙ trims_awake)
          ∙ spared_is inv pos known

      -- it goes on as where the trim is made
      abbrev there_by : Operation → Thread
      there_by op = record { stage = stage_after o whole (leaving whole op OK); held = held_after (s.threads t).held op None }

      pub goes_on : behind ≡ (happens s (Step t)).state.threads t
      goes_on =
          ap there_by (sym (unlocks inv pos known)) ∙ sym (put-same s.threads t (thread_after s t (call_step s t o whole)))
          ∙ ap (λ (a : After). a.state.threads t) (sym (call_goes s t o whole inv pos known stands trims_awake))

-- where no trim comes next, nothing happens
pub decline_rests : (s : State) (t : ℕ) → (1 ≤ t → t ≤ s.layout.threads → IsAboutToTrim s t → ⊥) → happens s (Decline t) ≡ nothing s
decline_rests s t never =
    by_event s (λ (x : Event) (a : After). x ≡ Decline t → a ≡ nothing s) (λ x same. refl) (λ u o pos known named idle b full same. absurd cc) (λ u pos known same. absurd cc) (λ u pos known alive same. absurd cc) (λ u pos known asleep same. absurd cc)
    (λ u m p pos known is asleep may same. absurd cc)
    (λ u k x p pos known is there same. absurd cc)
    (λ u o p pos known is awake trims same.
    absurd (subst (λ (v : ℕ). 1 ≤ v → v ≤ s.layout.threads → IsAboutToTrim s v → ⊥) (sym (thread_is u t same)) never pos known (o, p, p.cell, is, ap (phase_access p) trims)))
    (λ u pos known gone same. absurd cc)
    (λ u m may same. absurd cc) (λ u m g sp same. absurd cc)
    (Decline t) refl
  where
    thread_is : (u v : ℕ) → Decline u ≡ Decline v → u ≡ v
    thread_is u v e = cc
