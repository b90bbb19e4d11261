-- One access of a call, in whatever phase it is.
use Rattle.std.proofs.Common.{◌≡◌, inr, ℕ, ◌+◌, ◌≤◌, sym, ap, ◌∙◌, subst, arith}
use Rattle.protocol.proofs.Vocabulary.{sleeps_at, head_place, counter_place, Phase, AtCell, Linking, Clearing, Whole, Op, mutex_of, Stage, Calling, State}
use Rattle.mutex.specs.declared.phase.Phase.TheVariants.{Announcing, Unlinking, Ended}
use Rattle.mutex.specs.Programs.{row_access}
use Rattle.protocol.proofs.Seeing.{head_in}
use Rattle.robustlist.specs.Standings.{LinkStanding, UnlinkStanding}
use Rattle.protocol.proofs.Kept.{Fits, Serves, Sits, Listed, Kept}
use Rattle.protocol.proofs.Places.{head_is_no_cell, counter_is_no_cell}
use Rattle.protocol.proofs.CallSteps.{CallStep}
use Rattle.protocol.proofs.Steps.{row_no_move}
use Rattle.protocol.proofs.CellSteps as cell
use Rattle.protocol.proofs.OwnSteps.{announcing, clearing, linking_goes, unlinking_goes}

by_phase : (s : State) (t : ℕ) (c : Op) (p : Whole) (f : Phase) → Kept s → 1 ≤ t → t ≤ s.layout.threads → (s.threads t).stage ≡ Calling c (record p { phase = f }) → Fits s t (s.threads t).held (mutex_of s.layout c) (record p { phase = f }) → Serves s.layout c p → Listed s t (Calling c (record p { phase = f })) → CallStep s t c (record p { phase = f })
by_phase s t c p (Announcing r) inv pos known is fits serves listed = announcing s t c p inv pos known serves r fits is listed
by_phase s t c p (AtCell r) inv pos known is fits serves listed = record {
  valid = cell.valid s t c p r inv pos known fits serves;
  no_move = row_no_move p.thread p.cell r;
  meets = inr (cell.at_place s t c p r inv pos known fits serves);
  kept = cell.kept s t c p r inv pos known fits serves is listed;
  moves = cell.moves s t c p r inv pos known fits serves;
  same_sleep = ap (λ (x : ℕ). sleeps_at (row_access p.thread p.cell r) (s.words x)) (cell.at_place s t c p r inv pos known fits serves);
  place = λ e. cell.at_place s t c p r inv pos known fits serves;
  wakes = cell.wakes s t c p r inv pos known fits serves;
  sleeper = λ e. cell.falls_asleep s t c p r inv pos known fits serves (sym (ap (λ (x : ℕ). sleeps_at (row_access p.thread p.cell r) (s.words x)) (cell.at_place s t c p r inv pos known fits serves)) ∙ e);
  tells = cell.tells s t c p r inv pos known fits serves;
  room = λ x e. fits.stands.room;
  far = cell.far s t c p r inv pos known fits serves;
  cells = λ k inside apart. cell.cells_there s t c p r inv pos known fits serves k apart;
  pendings = λ u first most apart. cell.word_there s t c p r inv pos known fits serves (head_place u + 2) (head_is_no_cell s.layout u (mutex_of s.layout c) 2 first most (omega arith));
  counters = λ k. cell.word_there s t c p r inv pos known fits serves (counter_place s.layout k) (counter_is_no_cell s.layout (mutex_of s.layout c) k fits.inside);
}
by_phase s t c p (Linking l x) inv pos known is fits serves (es, owned, ch) =
    subst (λ (z : LinkStanding). CallStep s t c (record p { phase = Linking z x })) (sym same)
    (linking_goes s t c p inv pos known serves l.row x (subst (λ (z : LinkStanding). Fits s t (s.threads t).held (mutex_of s.layout c) (record p { phase = Linking z x })) same fits) (is ∙ ap (λ (z : LinkStanding). Calling c (record p { phase = Linking z x })) same) es owned ch)
  where
    same : l ≡ record { head = head_in s.layout t; entry = p.entry; row = l.row }
    same = λ i. record { head = (fits.stands.0 ∙ fits.head) i; entry = fits.stands.1 i; row = l.row }
by_phase s t c p (Unlinking u d) inv pos known is fits serves (es, owned, ch) =
    subst (λ (z : UnlinkStanding). CallStep s t c (record p { phase = Unlinking z d })) (sym same)
    (unlinking_goes s t c p inv pos known serves u.row d (subst (λ (z : UnlinkStanding). Fits s t (s.threads t).held (mutex_of s.layout c) (record p { phase = Unlinking z d })) same fits) (is ∙ ap (λ (z : UnlinkStanding). Calling c (record p { phase = Unlinking z d })) same) es owned ch)
  where
    same : u ≡ record { head = head_in s.layout t; entry = p.entry; row = u.row }
    same = λ i. record { head = (fits.stands.0 ∙ fits.head) i; entry = fits.stands.1 i; row = u.row }
by_phase s t c p (Clearing x) inv pos known is fits serves listed = clearing s t c p inv pos known serves x fits is listed
by_phase s t c p (Ended x) inv pos known is fits serves listed = absurd fits.stands

-- a thread in a call
pub fits_in : (s : State) (t : ℕ) (c : Op) (p : Whole) → Kept s → 1 ≤ t → t ≤ s.layout.threads → (s.threads t).stage ≡ Calling c p → Fits s t (s.threads t).held (mutex_of s.layout c) p × Serves s.layout c p
fits_in s t c p inv pos known is = subst (λ (g : Stage). Sits s t (s.threads t).held g) is (inv.sits t pos known)

pub goes : (s : State) (t : ℕ) (c : Op) (p : Whole) → Kept s → 1 ≤ t → t ≤ s.layout.threads → (s.threads t).stage ≡ Calling c p → CallStep s t c p
goes s t c p inv pos known is =
    let fits = fits_in s t c p inv pos known is in
    by_phase s t c p p.phase inv pos known is fits.0 fits.1 (subst (λ (g : Stage). Listed s t g) is (inv.listed t pos known))
