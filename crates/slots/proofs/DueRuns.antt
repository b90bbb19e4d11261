-- In any run, a call returns ETIMEDOUT only if its deadline has passed.
use Rattle.std.proofs.Common.{◌≡◌, ◌≢◌, ◌⊎◌, inl, inr, ℕ, ◌≤◌, ◌==◌, Bool, true, false, Some, List, [], ◌∷◌, refl, sym, ap, ◌∙◌, subst, eqb-true, eq-eqb}
use Rattle.std.specs.Prelude.{if◌then◌else◌, not, ◌&&◌, ◌||◌}
use Rattle.memorymap.specs.Layouts.{Layout'}
use Rattle.lockword.specs.declared.reply.Reply.TheVariants.{OK, ETIMEDOUT}
use Rattle.protocol.specs.declared.event.Event.TheVariants.{Kill, Step}
use Rattle.protocol.specs.Machine.{has_thread, is_alive, is_asleep, is_dying, put}
use Rattle.protocol.proofs.Puts.{put-same}
use Rattle.slots.specs.Rows.{Choice, How, Row, about}
use Rattle.slots.specs.Rows.How.{Tried, Later, Waited}
use Rattle.slots.specs.Shown.{Slots, after, begin}
use Rattle.slots.specs.Table.{made}
use Rattle.slots.specs.Runs.{Happening, at_row, is_first_row, is_resting, lapse_events, lapse_row, made_by, may_call, next, overdue_after, reached, reached_from}
use Rattle.slots.specs.Runs.Happening.{Calls, Goes, Interrupts, Lapses, Dies, Walks, Lives}
use Rattle.slots.specs.Goes.{who}
use Rattle.slots.specs.Fits.{Fits}
use Rattle.slots.specs.Premises.{AllTrusted}
use Rattle.slots.specs.Replies.{Progress, after_deed, deed, lock_progress, progress, reply}
use Rattle.slots.specs.Deadlines.{MayTimeOut, NoCallTimesOutEarly, SoFar, asks_clock, has_deadline, in_no_call, is_anothers, is_lock, passes, so_far, so_far_from, so_far_next}
use Rattle.slots.proofs.Deciding.{One, one_row}
use Rattle.slots.proofs.DueDeeds.{begins_not_ok, decides_out, over_by, over_then, replied_by}
use Rattle.slots.proofs.DueOn.{due_row}
use Rattle.slots.specs.Outcomes.{has_met}
use Rattle.slots.proofs.DueRows.{Keeps, due, in_wait, is_late, is_over, may_wait, times_out}
use Rattle.slots.proofs.Following.{begins_steady, layout_then, steady_next, steady_run}
use Rattle.slots.proofs.HappensTo.{leaves_overdue}
use Rattle.slots.proofs.Keeping.{rests_at}
use Rattle.slots.proofs.Leading.{by_test}
use Rattle.slots.proofs.Others.{others_still}
use Rattle.slots.proofs.Steady.{Steady}

abbrev is_inside : Row → Bool
is_inside r = not (is_resting r) && not (is_first_row r)

-- what is known of a thread's call at row r, overdue or not
pub record Known (r : Row) (overdue : Bool) (s : SoFar) : Type 0 where
  deadline : due r ≡ true → has_deadline s.began ≡ true
  passed : is_late r ≡ true → s.passed ≡ true
  met : has_met r ≡ true → s.met ≡ true
  wait : in_wait r ≡ true → is_lock s.began ≡ false
  over : is_over (progress r) ≡ true → (has_deadline s.began ≡ true) × (s.passed ≡ true) × (s.met ≡ true)
  late : overdue ≡ true → is_inside r ≡ true → (has_deadline s.began ≡ true) × (s.passed ≡ true) × (is_lock s.began ≡ false)

or_first : (a b : Bool) → a ≡ true → (a || b) ≡ true
or_first true b e = refl
or_first false b e = absurd cc

or_second : (a b : Bool) → b ≡ true → (a || b) ≡ true
or_second true b e = refl
or_second false b e = e

-- of a thread in no call
resting : (s : SoFar) (overdue : Bool) → Known Row.Rests overdue s
resting s overdue = record {
  deadline = λ e. absurd cc;
  passed = λ e. absurd cc;
  met = λ e. absurd cc;
  wait = λ e. absurd cc;
  over = λ e. absurd cc;
  late = λ on inside. absurd cc;
}

undecided : (h : How) (wrong : Bool) → is_over (lock_progress h wrong) ≡ true → ⊥
undecided Tried true d = absurd cc
undecided Tried false d = absurd cc
undecided Later true d = absurd cc
undecided Later false d = absurd cc
undecided (Waited z) wrong d = absurd cc

-- of a call that begins
begins : (l : Layout') (held : ℕ) (r : Row) (overdue : Bool) → may_call l held r ≡ true → Known r overdue (record { began = r; passed = false; met = false })
begins l held (Row.Looks k) overdue e = record { deadline = λ d. d; passed = λ d. absurd cc; met = λ d. absurd cc; wait = λ d. absurd cc; over = λ d. absurd (undecided k.how k.wrong d); late = λ on inside. absurd cc }
begins l held (Row.TryLooks m) overdue e = record { deadline = λ d. absurd cc; passed = λ d. absurd cc; met = λ d. absurd cc; wait = λ d. absurd cc; over = λ d. absurd cc; late = λ on inside. absurd cc }
begins l held (Row.GiveLooks m) overdue e = record { deadline = λ d. absurd cc; passed = λ d. absurd cc; met = λ d. absurd cc; wait = λ d. absurd cc; over = λ d. absurd cc; late = λ on inside. absurd cc }
begins l held (Row.MendLooks m) overdue e = record { deadline = λ d. absurd cc; passed = λ d. absurd cc; met = λ d. absurd cc; wait = λ d. absurd cc; over = λ d. absurd cc; late = λ on inside. absurd cc }
begins l held (Row.AnewLooks m) overdue e = record { deadline = λ d. absurd cc; passed = λ d. absurd cc; met = λ d. absurd cc; wait = λ d. absurd cc; over = λ d. absurd cc; late = λ on inside. absurd cc }
begins l held (Row.WaitLooks m k timed) overdue e = record { deadline = λ d. d; passed = λ d. absurd cc; met = λ d. absurd cc; wait = λ d. refl; over = λ d. absurd cc; late = λ on inside. absurd cc }
begins l held (Row.CountLooks m k all) overdue e = record { deadline = λ d. absurd cc; passed = λ d. absurd cc; met = λ d. absurd cc; wait = λ d. absurd cc; over = λ d. absurd cc; late = λ on inside. absurd cc }
begins l held r overdue e = absurd cc

-- what is known stays so while the call goes on, whatever has happened
stays_known : (r : Row) (overdue : Bool) (s : SoFar) (p m : Bool) → Known r overdue s → Known r overdue (record { began = s.began; passed = s.passed || p; met = s.met || m })
stays_known r overdue s p m k = record {
  deadline = k.deadline;
  passed = λ e. or_first s.passed p (k.passed e);
  met = λ e. or_first s.met m (k.met e);
  wait = k.wait;
  over = λ e. let (d, f, g) = k.over e in (d, or_first s.passed p f, or_first s.met m g);
  late = λ on inside. let (d, f, g) = k.late on inside in (d, or_first s.passed p f, g);
}

-- ---- an access

module _ (x : Slots) (t : ℕ) (c : Choice) (s : SoFar) (r : Row) (fit : Fits x.machine.layout t r (x.machine.threads t).stage) (k : Known r (x.overdue t) s) where
  abbrev q : Row
  q = (made x t c r).next

  abbrev has_passed : Bool
  has_passed = s.passed || (asks_clock r && c.yes)

  abbrev has_met_one : Bool
  has_met_one = s.met || is_anothers x.machine t (about r)

  keeps : Keeps x t r q
  keeps = due_row x t c r (x.machine.threads t).stage fit

  one : One x t c r (deed x t c r) q
  one = one_row x t c r (x.machine.threads t).stage fit

  -- an access that decides so
  by_deed : times_out (deed x t c r) ≡ true → (has_deadline s.began ≡ true) × (has_passed ≡ true) × (s.met ≡ true)
  by_deed e = let out = decides_out x t c r e in (k.deadline out.0, go (is_late r) refl out.1, k.met out.2)
    where
      go : (b : Bool) → is_late r ≡ b → (b || (asks_clock r && c.yes)) ≡ true → has_passed ≡ true
      go true is e = or_first s.passed (asks_clock r && c.yes) (k.passed is)
      go false is e = or_second s.passed (asks_clock r && c.yes) e

  over_now : is_over (after_deed (progress r) (deed x t c r)) ≡ true → (has_deadline s.began ≡ true) × (has_passed ≡ true) × (s.met ≡ true)
  over_now e = go (over_by x t c (progress r) (deed x t c r) e)
    where
      go : (is_over (progress r) ≡ true) ⊎ (times_out (deed x t c r) ≡ true) → (has_deadline s.began ≡ true) × (has_passed ≡ true) × (s.met ≡ true)
      go (inl was) = let (d, f, g) = k.over was in (d, or_first s.passed (asks_clock r && c.yes) f, g)
      go (inr does) = by_deed does

  met_then : has_met q ≡ true → has_met_one ≡ true
  met_then e = go (keeps.2 e)
    where
      go : (has_met r ≡ true) ⊎ ((is_anothers x.machine t (about r) ≡ true) × (may_wait (progress r) ≡ true)) → has_met_one ≡ true
      go (inl was) = or_first s.met (is_anothers x.machine t (about r)) (k.met was)
      go (inr is) = or_second s.met (is_anothers x.machine t (about r)) is.0

  goes_known : is_resting r ≡ false → Known q (overdue_after x t r) (record { began = s.began; passed = has_passed; met = has_met_one })
  goes_known busy = record {
    deadline = λ e. k.deadline (keeps.0 e);
    passed = λ e. or_first s.passed (asks_clock r && c.yes) (k.passed (keeps.1 e));
    met = met_then;
    wait = λ e. k.wait (keeps.3 e);
    over = λ e. let (d, f, g) = over_now (over_then x t c r q (after_deed (progress r) (deed x t c r)) one.goes e) in (d, f, or_first s.met (is_anothers x.machine t (about r)) g);
    late = λ on inside. late_then r k on busy;
  }
    where
      late_then : (r : Row) → Known r (x.overdue t) s → overdue_after x t r ≡ true → is_resting r ≡ false → (has_deadline s.began ≡ true) × ((s.passed || (asks_clock r && c.yes)) ≡ true) × (is_lock s.began ≡ false)
      late_then r k on busy = go r k on busy
        where
          from_before : (r : Row) → Known r (x.overdue t) s → (x.overdue t && not (is_first_row r)) ≡ true → is_resting r ≡ false → (has_deadline s.began ≡ true) × ((s.passed || (asks_clock r && c.yes)) ≡ true) × (is_lock s.began ≡ false)
          from_before r k on busy = let both = and_both (x.overdue t) (is_first_row r) on in
              let (d, f, g) = k.late both.0 ((λ i. not (busy i) && not (both.1 i))) in (d, or_first s.passed (asks_clock r && c.yes) f, g)
            where
              and_both : (a b : Bool) → (a && not b) ≡ true → (a ≡ true) × (b ≡ false)
              and_both true false e = (refl, refl)
              and_both true true e = absurd cc
              and_both false b e = absurd cc

          go : (r : Row) → Known r (x.overdue t) s → overdue_after x t r ≡ true → is_resting r ≡ false → (has_deadline s.began ≡ true) × ((s.passed || (asks_clock r && c.yes)) ≡ true) × (is_lock s.began ≡ false)
          go (Row.WaitLate m j n) k on busy = (k.deadline refl, or_first s.passed false (k.passed refl), k.wait refl)
          go r k on busy = from_before r k on busy

  -- ---- the reply

  pub out_of_time : reply x t c r ≡ Some ETIMEDOUT → (passes x t (Goes t c) ≡ (asks_clock r && c.yes)) → is_resting r ≡ false → MayTimeOut x t c s
  out_of_time e same busy = go (replied_by x t c (x.overdue t) (after_deed (progress r) (deed x t c r)) e)
    where
      go : (is_over (after_deed (progress r) (deed x t c r)) ≡ true) ⊎ ((x.overdue t ≡ true) × (after_deed (progress r) (deed x t c r) ≡ Progress.Decided OK)) → MayTimeOut x t c s
      go (inl over) = let (d, f, g) = over_now over in record { deadline = d; passed = ap (λ (b : Bool). s.passed || b) same ∙ f; met = λ lock. g }
      go (inr (on, ok)) = let (d, f, g) = k.late on (λ i. not (busy i) && not (begins_not_ok x t c r ok i)) in
          record { deadline = d; passed = or_first s.passed (passes x t (Goes t c)) f; met = λ lock. absurd (cc (sym g ∙ lock)) }

-- ---- whatever happens

module _ (x : Slots) (t : ℕ) (s : SoFar) (st : Steady x) (pos : 1 ≤ t) (known : t ≤ x.machine.layout.threads) (k : Known (x.rows t) (x.overdue t) s) where
  fit : Fits x.machine.layout t (x.rows t) (x.machine.threads t).stage
  fit = st.fits t pos known

  abbrev Then : Slots → Bool → Bool → Type 0
  Then y p m = Known (y.rows t) (y.overdue t) (record { began = s.began; passed = s.passed || p; met = s.met || m })

  abbrev meets : Bool
  meets = is_anothers x.machine t (about (x.rows t))

  same : (t == t) ≡ true
  same = eq-eqb t t refl

  still : (p : Bool) → Then x p meets
  still p = stays_known (x.rows t) (x.overdue t) s p meets k

  -- in a call
  going : (h : Happening) → who h ≡ t → is_resting (x.rows t) ≡ false → Then (next x h) (passes x t h) meets
  going (Calls u r) is busy = by_test (λ (y : Slots). Then y false meets) (has_thread x.machine u && is_alive (x.machine.threads u).stage && is_resting (x.rows u) && may_call x.machine.layout (x.machine.threads u).held r) (at_row x u r) x
      (λ e. absurd (cc (busy, sym (ap (λ (v : ℕ). is_resting (x.rows v)) is) ∙ third (has_thread x.machine u) (is_alive (x.machine.threads u).stage) (is_resting (x.rows u)) (may_call x.machine.layout (x.machine.threads u).held r) e)))
      (λ e. still false)
    where
      third : (a b d e : Bool) → (a && b && d && e) ≡ true → d ≡ true
      third true true true e i = refl
      third true true false e i = absurd cc
      third true false d e i = absurd cc
      third false b d e i = absurd cc
  going (Goes u c) is busy = subst (λ (v : ℕ). Then (next x (Goes v c)) (passes x t (Goes v c)) meets) (sym is)
      (by_test (λ (y : Slots). Then y (passes x t (Goes t c)) meets) (has_thread x.machine t && is_alive (x.machine.threads t).stage && not (is_asleep x.machine t)) (made_by x t c (made x t c (x.rows t))) x
      (λ e. subst (λ (b : Bool). Then (made_by x t c (made x t c (x.rows t))) (b && asks_clock (x.rows t) && c.yes) meets) (sym same)
      (subst (λ (q : Row). Known q (put x.overdue t (overdue_after x t (x.rows t)) t) (record { began = s.began; passed = s.passed || (asks_clock (x.rows t) && c.yes); met = s.met || meets })) (sym (put-same x.rows t (made x t c (x.rows t)).next))
      (subst (λ (o : Bool). Known (made x t c (x.rows t)).next o (record { began = s.began; passed = s.passed || (asks_clock (x.rows t) && c.yes); met = s.met || meets })) (sym (put-same x.overdue t (overdue_after x t (x.rows t))))
      (goes_known x t c s (x.rows t) fit k busy))))
      (λ e. still (passes x t (Goes t c))))
  going (Interrupts u) is busy = still false
  going (Lapses u) is busy = subst (λ (v : ℕ). Then (next x (Lapses v)) (passes x t (Lapses v)) meets) (sym is)
      (by_test (λ (y : Slots). Then y (passes x t (Lapses t)) meets) (is_asleep x.machine t) (at_row (after x (lapse_events x t (x.rows t))) t (lapse_row (x.rows t))) x
      (λ e. subst (λ (b : Bool). Then (at_row (after x (lapse_events x t (x.rows t))) t (lapse_row (x.rows t))) b meets) ((λ i. sym same i && sym e i))
      (subst (λ (q : Row). Known q (x.overdue t) (record { began = s.began; passed = s.passed || true; met = s.met || meets })) (sym (put-same x.rows t (lapse_row (x.rows t)))) (lapses (x.rows t) k)))
      (λ e. still (passes x t (Lapses t))))
    where
      lapses : (r : Row) → Known r (x.overdue t) s → Known (lapse_row r) (x.overdue t) (record { began = s.began; passed = s.passed || true; met = s.met || meets })
      lapses (Row.Asleep i) j = go i.timed refl
        where
          go : (b : Bool) → i.timed ≡ b → Known (if b then Row.Late i else Row.Asleep i) (x.overdue t) (record { began = s.began; passed = s.passed || true; met = s.met || meets })
          go false e = stays_known (Row.Asleep i) (x.overdue t) s true meets j
          go true e = record {
            deadline = λ d. j.deadline e;
            passed = λ d. or_second s.passed true refl;
            met = λ d. or_first s.met meets (j.met refl);
            wait = λ d. absurd cc;
            over = λ d. absurd (undecided Tried i.wrong d);
            late = λ on inside. let (d, f, g) = j.late on refl in (d, or_first s.passed true f, g);
          }
      lapses (Row.WaitAsleep m i n true) j = record {
        deadline = λ d. j.deadline refl;
        passed = λ d. or_second s.passed true refl;
        met = λ d. absurd cc;
        wait = λ d. j.wait refl;
        over = λ d. absurd cc;
        late = λ on inside. let (d, f, g) = j.late on refl in (d, or_first s.passed true f, g);
      }
      lapses (Row.WaitAsleep m i n false) j = stays_known (Row.WaitAsleep m i n false) (x.overdue t) s true meets j
      lapses r j = stays_known r (x.overdue t) s true meets j
  going (Dies u) is busy = subst (λ (v : ℕ). Then (next x (Dies v)) false meets) (sym is)
      (by_test (λ (y : Slots). Then y false meets) (has_thread x.machine t && is_alive (x.machine.threads t).stage) (at_row (after x (Kill t ∷ [])) t Row.Rests) x
      (λ e. subst (λ (q : Row). Known q (x.overdue t) (record { began = s.began; passed = s.passed || false; met = s.met || meets })) (sym (put-same x.rows t Row.Rests)) (resting _ (x.overdue t)))
      (λ e. still false))
  going (Walks u) is busy = by_test (λ (y : Slots). Then y false meets) (is_dying x.machine u) (after x (Step u ∷ [])) x (λ e. still false) (λ e. still false)
  going (Lives u) is busy = still false

  -- in no call: it stays so, or a call begins
  abbrev New : Slots → Type 0
  New y = Known (y.rows t) (y.overdue t) (record { began = y.rows t; passed = false; met = false })

  starting : (h : Happening) → who h ≡ t → x.rows t ≡ Row.Rests → Known ((next x h).rows t) ((next x h).overdue t) (record { began = (next x h).rows t; passed = false; met = false })
  starting h is rests = subst (λ (q : Row). Known q ((next x h).overdue t) (record { began = q; passed = false; met = false })) refl (go h is)
    where
      none : (y : Slots) → y.rows t ≡ Row.Rests → New y
      none y e = subst (λ (q : Row). Known q (y.overdue t) (record { began = q; passed = false; met = false })) (sym e) (resting _ (y.overdue t))

      go : (h : Happening) → who h ≡ t → New (next x h)
      go (Calls u r) is = subst (λ (v : ℕ). New (next x (Calls v r))) (sym is)
          (by_test New (has_thread x.machine t && is_alive (x.machine.threads t).stage && is_resting (x.rows t) && may_call x.machine.layout (x.machine.threads t).held r) (at_row x t r) x
          (λ e. subst (λ (q : Row). Known q (x.overdue t) (record { began = q; passed = false; met = false })) (sym (put-same x.rows t r)) (begins x.machine.layout (x.machine.threads t).held r (x.overdue t) (last (has_thread x.machine t) (is_alive (x.machine.threads t).stage) (is_resting (x.rows t)) (may_call x.machine.layout (x.machine.threads t).held r) e)))
          (λ e. none x rests))
        where
          last : (a b d e : Bool) → (a && b && d && e) ≡ true → e ≡ true
          last true true true e i = i
          last true true false e i = absurd cc
          last true false d e i = absurd cc
          last false b d e i = absurd cc
      go (Goes u c) is = subst (λ (v : ℕ). New (next x (Goes v c))) (sym is)
          (by_test New (has_thread x.machine t && is_alive (x.machine.threads t).stage && not (is_asleep x.machine t)) (made_by x t c (made x t c (x.rows t))) x
          (λ e. none (made_by x t c (made x t c (x.rows t))) (put-same x.rows t (made x t c (x.rows t)).next ∙ ap (λ (r : Row). (made x t c r).next) rests)) (λ e. none x rests))
      go (Interrupts u) is = none (next x (Interrupts u)) rests
      go (Lapses u) is = subst (λ (v : ℕ). New (next x (Lapses v))) (sym is)
          (by_test New (is_asleep x.machine t) (at_row (after x (lapse_events x t (x.rows t))) t (lapse_row (x.rows t))) x
          (λ e. none (at_row (after x (lapse_events x t (x.rows t))) t (lapse_row (x.rows t))) (put-same x.rows t (lapse_row (x.rows t)) ∙ ap lapse_row rests)) (λ e. none x rests))
      go (Dies u) is = subst (λ (v : ℕ). New (next x (Dies v))) (sym is)
          (by_test New (has_thread x.machine t && is_alive (x.machine.threads t).stage) (at_row (after x (Kill t ∷ [])) t Row.Rests) x
          (λ e. none (at_row (after x (Kill t ∷ [])) t Row.Rests) (put-same x.rows t Row.Rests)) (λ e. none x rests))
      go (Walks u) is = by_test New (is_dying x.machine u) (after x (Step u ∷ [])) x (λ e. none (after x (Step u ∷ [])) rests) (λ e. none x rests)
      go (Lives u) is = none (next x (Lives u)) rests

  abbrev Known_then : Happening → SoFar → Type 0
  Known_then h s = Known ((next x h).rows t) ((next x h).overdue t) s

  -- all this
  known_next : (h : Happening) → Known_then h (so_far_next x t s h)
  known_next h = by_test (Known_then h) (is_resting (x.rows t)) (record { began = (next x h).rows t; passed = false; met = false }) (record { began = s.began; passed = s.passed || passes x t h; met = s.met || meets })
      (λ rests. new (who h == t) refl (rests_at (x.rows t) rests)) (λ busy. old (who h == t) refl busy)
    where
      apart : (who h == t) ≡ false → who h ≢ t
      apart e same_one = cc (sym e ∙ eq-eqb (who h) t same_one)

      new : (b : Bool) → (who h == t) ≡ b → x.rows t ≡ Row.Rests → Known_then h (record { began = (next x h).rows t; passed = false; met = false })
      new true is rests = starting h (eqb-true (who h) t is) rests
      new false is rests = subst (λ (q : Row). Known q ((next x h).overdue t) (record { began = q; passed = false; met = false })) (sym ((others_still x h t st.reached (apart is)).row ∙ rests)) (resting _ ((next x h).overdue t))

      old : (b : Bool) → (who h == t) ≡ b → is_resting (x.rows t) ≡ false → Then (next x h) (passes x t h) meets
      old true is busy = going h (eqb-true (who h) t is) busy
      old false is busy = subst (λ (q : Row). Known q ((next x h).overdue t) (record { began = s.began; passed = s.passed || passes x t h; met = s.met || meets })) (sym (others_still x h t st.reached (apart is)).row)
          (subst (λ (o : Bool). Known (x.rows t) o (record { began = s.began; passed = s.passed || passes x t h; met = s.met || meets })) (sym (leaves_overdue x t h (apart is))) (still (passes x t h)))

-- ---- runs

known_run : (x : Slots) (t : ℕ) (s : SoFar) (hs : List Happening) → Steady x → 1 ≤ t → t ≤ x.machine.layout.threads → AllTrusted x hs → Known (x.rows t) (x.overdue t) s
    → Known ((reached_from x hs).rows t) ((reached_from x hs).overdue t) (so_far_from x t s hs)
known_run x t s [] st pos known trusted k = k
known_run x t s (h ∷ hs) st pos known ((first, last, w), trusted) k = known_run (next x h) t (so_far_next x t s h) hs (steady_next x h st first last w) pos
    (subst (λ (l : Layout'). t ≤ l.threads) (sym (layout_then x (h ∷ []) st ((first, last, w), tt))) known) trusted (known_next x t s st pos known k h)

pub no_call_times_out_early : NoCallTimesOutEarly
no_call_times_out_early l hs t c is pos known trusted e =
    let st : Steady (reached l hs) = steady_run (begin l) hs (begins_steady l is) trusted in
    let here : t ≤ (reached l hs).machine.layout.threads = subst (λ (k : Layout'). t ≤ k.threads) (sym (layout_then (begin l) hs (begins_steady l is) trusted)) known in
    out_of_time (reached l hs) t c (so_far l hs t) ((reached l hs).rows t) (st.fits t pos here) (known_run (begin l) t in_no_call hs (begins_steady l is) pos known trusted (resting in_no_call false)) e
    (ap (λ (b : Bool). b && asks_clock ((reached l hs).rows t) && c.yes) (eq-eqb t t refl)) (busy (reached l hs) e)
  where
    busy : (x : Slots) → reply x t c (x.rows t) ≡ Some ETIMEDOUT → is_resting (x.rows t) ≡ false
    busy x e = go (x.rows t) e
      where
        go : (r : Row) → reply x t c r ≡ Some ETIMEDOUT → is_resting r ≡ false
        go Row.Rests e = absurd cc
        go r e = refl
