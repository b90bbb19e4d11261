-- Runs from the start are legal.
use Rattle.std.proofs.Common.{◌≡◌, ◌≤◌, ℕ, List, length, take, refl, sym, ap, ◌∙◌, subst}
use Rattle.std.proofs.lemmas.List.{take_all}
use Rattle.memorymap.specs.Layouts.{Layout', IsLayout}
use Rattle.protocol.specs.declared.event.Event.{Event}
use Rattle.protocol.specs.declared.note.Note.{Note}
use Rattle.protocol.specs.Machine.{State, start, run, notes}
use Rattle.protocol.specs.PassedBy.{ArePresets}
use Rattle.protocol.proofs.Deaths.{reports_deaths}
use Rattle.protocol.proofs.Emptied.{nobody_passed}
use Rattle.protocol.proofs.Lives.{explained}
use Rattle.protocol.proofs.Reaped.{no_reaped_owns}
use Rattle.protocol.proofs.Runs.{start_kept, run_kept}
use Rattle.protocol.proofs.Undivided.{runs_alone}
use Rattle.interleave.specs.Shown.{Shown, state_of}
use Rattle.interleave.specs.Reached.{IsStart}
use Rattle.interleave.specs.Runs.{IsLegalRun}
use Rattle.interleave.proofs.Reaches.{each_moment, tells_each_moment}

-- the laws, of one list of events
from_start : (l : Layout') (counters : ℕ → ℕ) (es : List Event) → IsLayout l → ArePresets counters → IsLegalRun (start l counters) es (notes (start l counters) es)
from_start l counters es is presets =
    let s = start l counters in
    let kept = start_kept l counters is in
    record {
      noted = refl;
      history = each_moment s l counters es is refl;
      explained = explained l counters es is;
      sleeps = tells_each_moment s l counters es is refl;
      passed = nobody_passed l counters es is presets;
      runs_alone = λ n. runs_alone l counters (take n es) is;
      reaped = λ n. no_reaped_owns (run s (take n es)) (run_kept s (take n es) kept);
      deaths = reports_deaths s es kept;
    }

-- whatever happens to a machine at its start, what is noted of it is a legal run
pub legal_run : (s : State) (l : Layout') (counters : ℕ → ℕ) (es : List Event) (told : List Note) → IsLayout l → ArePresets counters → s ≡ start l counters → told ≡ notes s es → IsLegalRun s es told
legal_run s l counters es told is presets starts noted =
    subst (λ (ns : List Note). IsLegalRun s es ns) (sym noted) (subst (λ (z : State). IsLegalRun z es (notes z es)) (sym starts) (from_start l counters es is presets))

-- so is a run of a machine that was at its start, once its last event is noted
pub whole_run : (m : Shown) (es : List Event) (told : List Note) (n : ℕ) → IsStart m → length es ≤ n → told ≡ notes (state_of m) (take n es) → IsLegalRun (state_of m) es told
whole_run m es told n starts last noted = legal_run (state_of m) m.layout starts.counters es told starts.layout starts.presets starts.is (noted ∙ ap (notes (state_of m)) (take_all n es last))
