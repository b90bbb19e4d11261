-- One access of a call on a condition variable, in whatever phase it is.
use Rattle.std.proofs.Common.{◌≡◌, ℕ, ◌≤◌, true, None, refl, sym, ap, subst}
use Rattle.protocol.proofs.Vocabulary.{CondCall, CondPhase, CondRow, CondOnward, CondWhole, cond_access, sleeps_at}
use Rattle.protocol.proofs.Vocabulary.{Stage, AtCondition, State, place_met, UnlinkRow, UnlinkStanding, WaitRow}
use Rattle.condvar.specs.declared.row.CondRow.TheVariants.{Wait}
use Rattle.condvar.specs.declared.phase.CondPhase.TheVariants.{AtWords, Announcing, Unlinking, Locking, Ended}
use Rattle.protocol.proofs.Phases.{IsPlain, plain_awake}
use Rattle.protocol.proofs.Kept.{FitsAt, Sits, Listed, Kept}
use Rattle.protocol.proofs.Places.{IsMine}
use Rattle.protocol.proofs.Steps.{place_of, cond_onto, cond_step, its_mutex, its_counter}
use Rattle.protocol.proofs.Stepping.{Stepping}
use Rattle.protocol.proofs.CondSteps.{cond_of, falls_at, words_stepping}
use Rattle.protocol.proofs.CondOwn.{at_pending, announcing_stepping, plain, on_list, then_at, unlinking_stepping}
use Rattle.protocol.proofs.CondOwn.{leads as unlink_leads}
use Rattle.protocol.proofs.Seeing.{head_in, entry_in}

-- a thread in such a call
pub fits_at : (s : State) (t : ℕ) (c : CondCall) (p : CondWhole) → Kept s → 1 ≤ t → t ≤ s.layout.threads → (s.threads t).stage ≡ AtCondition c p → FitsAt s t (s.threads t).held c p
fits_at s t c p inv pos known is = subst (λ (g : Stage). Sits s t (s.threads t).held g) is (inv.sits t pos known)

-- its addresses are its thread's and its mutex's
is_canonical : (s : State) (t : ℕ) (c : CondCall) (p : CondWhole) → FitsAt s t (s.threads t).held c p → p ≡ cond_of s.layout t c p.phase
is_canonical s t c p fits = λ i. record { thread = fits.mine i; head = fits.head i; entry = fits.entry i; cell = fits.cell i; counter = fits.counter i; phase = p.phase }

-- a wait that is about to release its mutex, and has seen this of the counter
abbrev pub IsBefore : ℕ → CondPhase → Type 0
IsBefore seen (Announcing x) = x ≡ seen
IsBefore seen (Unlinking u x) = x ≡ seen
IsBefore seen (AtWords (Wait (WaitRow.Release x))) = x ≡ seen
IsBefore seen f = ⊥

-- it makes its entry pending, or takes it out of the list: an access to its thread's own words, which brings it nearer to its release
pub record Nears (s : State) (t : ℕ) (c : CondCall) (x : ℕ) (p : CondWhole) : Type 1 where
  pub step : Stepping s t (cond_step s t c p)
  pub plain : IsPlain (cond_access p)
  pub mine : IsMine s t (place_of s t (cond_step s t c p))
  pub pointless : (cond_onto s t p).point ≡ None
  pub before : IsBefore x p.phase
  pub leads : (P : CondPhase → Type 0) → ((u : UnlinkStanding) → P (Unlinking u x)) → P (AtWords (Wait (WaitRow.Release x))) → P (cond_onto s t p).phase

module _ (s : State) (t : ℕ) (c : CondCall) (inv : Kept s) (pos : 1 ≤ t) (known : t ≤ s.layout.threads) where
  abbrev at_phase : CondPhase → CondWhole
  at_phase f = cond_of s.layout t c f

  abbrev Fitting : CondPhase → Type 0
  Fitting f = ((s.threads t).stage ≡ AtCondition c (at_phase f)) × FitsAt s t (s.threads t).held c (at_phase f) × Listed s t (AtCondition c (at_phase f))

  announces : (x : ℕ) → Fitting (Announcing x) → Nears s t c x (at_phase (Announcing x))
  announces x (is, fits, listed) = record {
    step = announcing_stepping s t c inv pos known x fits is listed;
    plain = tt;
    mine = at_pending s t c inv pos known x fits;
    pointless = refl;
    before = refl;
    leads = λ P on out. on _;
  }

  abbrev standing : UnlinkRow → UnlinkStanding
  standing r = record { head = head_in s.layout t; entry = entry_in s.layout t (its_mutex s c); row = r }

  unlinks : (r : UnlinkRow) (x : ℕ) → Fitting (Unlinking (standing r) x) → Nears s t c x (at_phase (Unlinking (standing r) x))
  unlinks r x (is, fits, (es, owned, ch)) = record {
    step = unlinking_stepping s t c inv pos known r x fits is es owned ch;
    plain = plain s t c inv pos known r x fits is es owned ch;
    mine = on_list s t c inv pos known r x fits is es owned ch;
    pointless = ap (λ (g : CondOnward). g.point) (unlink_leads s t c inv pos known r x fits is es owned ch);
    before = refl;
    leads = λ P on out. subst (λ (g : CondOnward). P g.phase) (sym (unlink_leads s t c inv pos known r x fits is es owned ch)) (then_at s t c inv pos known r x fits is es owned ch P (λ going. on _) (λ ch_less. out));
  }

  -- what is so of each row, and of what comes nearer to a release, is so of a call in whatever phase
  module _ (P : CondWhole → Type 0) (row : (r : CondRow) → FitsAt s t (s.threads t).held c (at_phase (AtWords r)) → Stepping s t (cond_step s t c (at_phase (AtWords r))) → P (at_phase (AtWords r))) (near : (x : ℕ) (p : CondWhole) → Nears s t c x p → P p) where
    by_phase : (f : CondPhase) → Fitting f → P (at_phase f)
    by_phase (AtWords r) (is, fits, listed) = row r fits (words_stepping s t c r inv pos known fits is listed)
    by_phase (Announcing x) fits = near x _ (announces x fits)
    by_phase (Unlinking u x) fits = subst (λ (z : UnlinkStanding). P (at_phase (Unlinking z x))) (sym same) (near x _ (unlinks u.row x (subst (λ (z : UnlinkStanding). Fitting (Unlinking z x)) same fits)))
      where
        same : u ≡ standing u.row
        same = λ i. record { head = fits.1.stands.1 i; entry = fits.1.stands.2 i; row = u.row }
    by_phase (Locking w) fits = absurd fits.1.stands
    by_phase (Ended x) fits = absurd fits.1.stands

    pub by_access : (p : CondWhole) → (s.threads t).stage ≡ AtCondition c p → P p
    by_access p is = subst P (sym same) (by_phase p.phase (subst (λ (z : CondWhole). ((s.threads t).stage ≡ AtCondition c z) × FitsAt s t (s.threads t).held c z × Listed s t (AtCondition c z)) same (is, fits, subst (Listed s t) is (inv.listed t pos known))))
      where
        fits : FitsAt s t (s.threads t).held c p
        fits = fits_at s t c p inv pos known is

        same : p ≡ at_phase p.phase
        same = is_canonical s t c p fits

-- so it is a thread's access, and falls asleep at the counter alone
pub cond_stepping : (s : State) (t : ℕ) (c : CondCall) (p : CondWhole) → Kept s → 1 ≤ t → t ≤ s.layout.threads → (s.threads t).stage ≡ AtCondition c p → Stepping s t (cond_step s t c p)
cond_stepping s t c p inv pos known is = by_access s t c inv pos known (λ (q : CondWhole). Stepping s t (cond_step s t c q)) (λ r fits step. step) (λ x q near. near.step) p is

abbrev SleepsThere : State → ℕ → CondCall → CondWhole → Type 0
SleepsThere s t c p = sleeps_at (cond_access p) (s.words (place_met s.layout t (cond_access p))) ≡ true → place_met s.layout t (cond_access p) ≡ its_counter s c

pub cond_sleeps : (s : State) (t : ℕ) (c : CondCall) (p : CondWhole) → Kept s → 1 ≤ t → t ≤ s.layout.threads → (s.threads t).stage ≡ AtCondition c p → SleepsThere s t c p
cond_sleeps s t c p inv pos known is = by_access s t c inv pos known (SleepsThere s t c) (λ r fits step. falls_at s t c r inv pos known fits) (λ x q near on. absurd (cc (on, (plain_awake _ _ near.plain).0))) p is
