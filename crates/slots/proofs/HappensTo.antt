-- What a happening does to a thread's call.
use Rattle.std.proofs.Common.{◌≡◌, ◌≢◌, ℕ, ◌==◌, Bool, true, false, [], ◌∷◌, refl, sym, ap, ◌∙◌, subst, eqb-true, eq-eqb}
use Rattle.std.specs.Prelude.{if◌then◌else◌, not, ◌&&◌}
use Rattle.protocol.specs.declared.event.Event.TheVariants.{Kill, Step}
use Rattle.protocol.specs.Machine.{has_thread, is_alive, is_asleep, is_dying}
use Rattle.protocol.proofs.Puts.{put-same, put-other}
use Rattle.slots.specs.Rows.{Choice, Row}
use Rattle.slots.specs.Shown.{Slots, after}
use Rattle.slots.specs.Table.{made}
use Rattle.slots.specs.Runs.{Happening, at_row, is_resting, lapse_events, lapse_row, made_by, may_call, next, overdue_after}
use Rattle.slots.specs.Runs.Happening.{Calls, Goes, Interrupts, Lapses, Dies, Walks, Lives}
use Rattle.slots.specs.Goes.{who}
use Rattle.slots.specs.Laws.{IsReached}
use Rattle.slots.specs.Deadlines.{has_deadline}
use Rattle.slots.specs.Outcomes.{Call, call_after, gone_on, is_in_sleep, sleeps_until}
use Rattle.slots.proofs.Leading.{by_test}
use Rattle.slots.proofs.Others.{others_still}

-- a call whose deadline passes in its sleep, or that sleeps on
abbrev pub lapsed_on : Call → Bool → Call
lapsed_on s b = if b then record s { passed = true } else s

module _ (x : Slots) (t : ℕ) (h : Happening) where
  abbrev row : Row
  row = x.rows t

  -- Nothing; a call begins; the call makes its next access; its deadline passes in its sleep; the thread is killed
  pub data HappensTo : Type 0 where
    Stays : (next x h).rows t ≡ row → (next x h).overdue t ≡ x.overdue t → ((s : Call) → call_after x t s h ≡ s) → HappensTo
    Starts : (held : ℕ) (r : Row) → is_resting row ≡ true → may_call x.machine.layout held r ≡ true → (next x h).rows t ≡ r → HappensTo
    GoesOn : (c : Choice) → (next x h).rows t ≡ (made x t c row).next → (next x h).overdue t ≡ overdue_after x t row → ((s : Call) → call_after x t s h ≡ gone_on x t c s) → HappensTo
    Lapsed : is_asleep x.machine t ≡ true → (next x h).rows t ≡ lapse_row row → (next x h).overdue t ≡ x.overdue t → ((s : Call) → call_after x t s h ≡ lapsed_on s (sleeps_until x t s.began)) → HappensTo
    Ends : (next x h).rows t ≡ Row.Rests → HappensTo

module _ (x : Slots) (t : ℕ) where
  abbrev Same : Slots → Type 0
  Same y = y.overdue t ≡ x.overdue t

  -- another thread's happening leaves whether the call is overdue, and its points
  pub leaves_overdue : (h : Happening) → who h ≢ t → Same (next x h)
  leaves_overdue (Calls u r) apart = by_test Same (has_thread x.machine u && is_alive (x.machine.threads u).stage && is_resting (x.rows u) && may_call x.machine.layout (x.machine.threads u).held r) (at_row x u r) x (λ e. refl) (λ e. refl)
  leaves_overdue (Goes u c) apart = by_test Same (has_thread x.machine u && is_alive (x.machine.threads u).stage && not (is_asleep x.machine u)) (made_by x u c (made x u c (x.rows u))) x (λ e. put-other x.overdue u (overdue_after x u (x.rows u)) t (λ i. apart (sym i))) (λ e. refl)
  leaves_overdue (Interrupts u) apart = refl
  leaves_overdue (Lapses u) apart = by_test Same (is_asleep x.machine u) (at_row (after x (lapse_events x u (x.rows u))) u (lapse_row (x.rows u))) x (λ e. refl) (λ e. refl)
  leaves_overdue (Dies u) apart = by_test Same (has_thread x.machine u && is_alive (x.machine.threads u).stage) (at_row (after x (Kill u ∷ [])) u Row.Rests) x (λ e. refl) (λ e. refl)
  leaves_overdue (Walks u) apart = by_test Same (is_dying x.machine u) (after x (Step u ∷ [])) x (λ e. refl) (λ e. refl)
  leaves_overdue (Lives u) apart = refl

  leaves_call : (h : Happening) → who h ≢ t → (s : Call) → call_after x t s h ≡ s
  leaves_call (Goes u c) apart s = go (u == t) refl
    where
      go : (b : Bool) → (u == t) ≡ b → (if b && has_thread x.machine u && is_alive (x.machine.threads u).stage && not (is_asleep x.machine u) then gone_on x t c s else s) ≡ s
      go true e = absurd (apart (eqb-true u t e))
      go false e = refl
  leaves_call (Calls u r) apart s = refl
  leaves_call (Interrupts u) apart s = refl
  leaves_call (Lapses u) apart s = go (u == t) refl
    where
      go : (b : Bool) → (u == t) ≡ b → lapsed_on s (b && sleeps_until x t s.began) ≡ s
      go true e = absurd (apart (eqb-true u t e))
      go false e = refl
  leaves_call (Dies u) apart s = refl
  leaves_call (Walks u) apart s = refl
  leaves_call (Lives u) apart s = refl

  -- the thread's own
  third : (a b d e : Bool) → (a && b && d && e) ≡ true → (d ≡ true) × (e ≡ true)
  third true true true true e = (refl, refl)
  third true true true false e = absurd cc
  third true true false e i = absurd cc
  third true false d e i = absurd cc
  third false b d e i = absurd cc

  abbrev went : Choice → Slots
  went c = made_by x t c (made x t c (x.rows t))

  abbrev slept : Slots
  slept = at_row (after x (lapse_events x t (x.rows t))) t (lapse_row (x.rows t))

  abbrev died : Slots
  died = at_row (after x (Kill t ∷ [])) t Row.Rests

  calls : (r : Row) → HappensTo x t (Calls t r)
  calls r = go _ refl
    where
      go : (b : Bool) → (has_thread x.machine t && is_alive (x.machine.threads t).stage && is_resting (x.rows t) && may_call x.machine.layout (x.machine.threads t).held r) ≡ b → HappensTo x t (Calls t r)
      go true e = let both = third (has_thread x.machine t) (is_alive (x.machine.threads t).stage) (is_resting (x.rows t)) (may_call x.machine.layout (x.machine.threads t).held r) e in
          HappensTo.Starts (x.machine.threads t).held r both.0 both.1 (ap (λ (b : Bool). (if b then at_row x t r else x).rows t) e ∙ put-same x.rows t r)
      go false e = HappensTo.Stays (ap (λ (b : Bool). (if b then at_row x t r else x).rows t) e) (ap (λ (b : Bool). (if b then at_row x t r else x).overdue t) e) (λ s. refl)

  goes : (c : Choice) → HappensTo x t (Goes t c)
  goes c = go _ refl
    where
      go : (b : Bool) → (has_thread x.machine t && is_alive (x.machine.threads t).stage && not (is_asleep x.machine t)) ≡ b → HappensTo x t (Goes t c)
      go true e = HappensTo.GoesOn c (ap (λ (b : Bool). (if b then went c else x).rows t) e ∙ put-same x.rows t (made x t c (x.rows t)).next) (ap (λ (b : Bool). (if b then went c else x).overdue t) e ∙ put-same x.overdue t (overdue_after x t (x.rows t)))
          (λ s. ap (λ (b : Bool). if b && has_thread x.machine t && is_alive (x.machine.threads t).stage && not (is_asleep x.machine t) then gone_on x t c s else s) (eq-eqb t t refl)
          ∙ ap (λ (b : Bool). if b then gone_on x t c s else s) e)
      go false e = HappensTo.Stays (ap (λ (b : Bool). (if b then went c else x).rows t) e) (ap (λ (b : Bool). (if b then went c else x).overdue t) e)
          (λ s. ap (λ (b : Bool). if b && has_thread x.machine t && is_alive (x.machine.threads t).stage && not (is_asleep x.machine t) then gone_on x t c s else s) (eq-eqb t t refl)
          ∙ ap (λ (b : Bool). if b then gone_on x t c s else s) e)

  lapses : HappensTo x t (Lapses t)
  lapses = go _ refl
    where
      go : (b : Bool) → is_asleep x.machine t ≡ b → HappensTo x t (Lapses t)
      go true e = HappensTo.Lapsed e (ap (λ (b : Bool). (if b then slept else x).rows t) e ∙ put-same x.rows t (lapse_row (x.rows t))) (ap (λ (b : Bool). (if b then slept else x).overdue t) e)
          (λ s. ap (λ (b : Bool). lapsed_on s (b && sleeps_until x t s.began)) (eq-eqb t t refl))
      go false e = HappensTo.Stays (ap (λ (b : Bool). (if b then slept else x).rows t) e) (ap (λ (b : Bool). (if b then slept else x).overdue t) e)
          (λ s. ap (λ (b : Bool). lapsed_on s (b && sleeps_until x t s.began)) (eq-eqb t t refl) ∙ ap (λ (a : Bool). lapsed_on s (a && has_deadline s.began && is_in_sleep (x.rows t))) e)

  dies : HappensTo x t (Dies t)
  dies = go _ refl
    where
      go : (b : Bool) → (has_thread x.machine t && is_alive (x.machine.threads t).stage) ≡ b → HappensTo x t (Dies t)
      go true e = HappensTo.Ends (ap (λ (b : Bool). (if b then died else x).rows t) e ∙ put-same x.rows t Row.Rests)
      go false e = HappensTo.Stays (ap (λ (b : Bool). (if b then died else x).rows t) e) (ap (λ (b : Bool). (if b then died else x).overdue t) e) (λ s. refl)

  own : (h : Happening) → who h ≡ t → HappensTo x t h
  own (Calls u r) is = subst (λ (v : ℕ). HappensTo x t (Calls v r)) (sym is) (calls r)
  own (Goes u c) is = subst (λ (v : ℕ). HappensTo x t (Goes v c)) (sym is) (goes c)
  own (Interrupts u) is = HappensTo.Stays refl refl (λ s. refl)
  own (Lapses u) is = subst (λ (v : ℕ). HappensTo x t (Lapses v)) (sym is) lapses
  own (Dies u) is = subst (λ (v : ℕ). HappensTo x t (Dies v)) (sym is) dies
  own (Walks u) is = HappensTo.Stays (by_test (λ (y : Slots). y.rows t ≡ x.rows t) (is_dying x.machine u) (after x (Step u ∷ [])) x (λ e. refl) (λ e. refl)) (by_test Same (is_dying x.machine u) (after x (Step u ∷ [])) x (λ e. refl) (λ e. refl)) (λ s. refl)
  own (Lives u) is = HappensTo.Stays refl refl (λ s. refl)

  pub happens_to : IsReached x.machine → (h : Happening) → HappensTo x t h
  happens_to from h = go (who h == t) refl
    where
      go : (b : Bool) → (who h == t) ≡ b → HappensTo x t h
      go true is = own h (eqb-true (who h) t is)
      go false is = HappensTo.Stays (others_still x h t from apart).row (leaves_overdue h apart) (leaves_call h apart)
        where
          apart : who h ≢ t
          apart same = cc (sym is ∙ eq-eqb (who h) t same)
