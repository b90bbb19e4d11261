-- After every run whose happenings have what they take for granted, threads are at their rows.
use Rattle.std.proofs.Common.{◌≡◌, ℕ, ◌≤◌, ◌==◌, Bool, true, false, List, [], ◌∷◌, refl, sym, ap, ◌∙◌, subst, eqb-true, eq-eqb}
use Rattle.memorymap.specs.Layouts.{Layout'}
use Rattle.protocol.specs.declared.event.Event.{Event}
use Rattle.protocol.specs.declared.thread.Thread.{Thread}
use Rattle.protocol.specs.Machine.{State, happens, is_alive, run, start}
use Rattle.protocol.proofs.Kept.{Kept}
use Rattle.protocol.proofs.Queued.{in_none}
use Rattle.protocol.proofs.Runs.{sound, start_kept}
use Rattle.slots.proofs.Each.{each_access}
use Rattle.slots.specs.Rows.{Row}
use Rattle.slots.specs.Shown.{Slots, begin}
use Rattle.slots.specs.Stands.{StandsAs}
use Rattle.slots.specs.Runs.{Happening, all_events, events_of, next, reached, reached_from}
use Rattle.slots.specs.Laws.{IsReached}
use Rattle.slots.specs.Goes.{AccessesOfRunsAreEvents, AllGranted, Grants, IsAtItsRow, RunsKeepTheirRows, StandsStill, who}
use Rattle.slots.proofs.Free.{reached_kept, reached_next, reached_queued}
use Rattle.slots.proofs.Keeping.{threads_keep}
use Rattle.slots.proofs.MachineRuns.{next_is, runs_are}
use Rattle.slots.proofs.Others.{others_still}

-- a run from a reached state comes to one, of the same layout
pub reached_run : (s : State) (es : List Event) → IsReached s → IsReached (run s es)
reached_run s [] r = r
reached_run s (e ∷ es) r = reached_run (happens s e).state es (reached_next s e r)

pub layout_run : (s : State) (es : List Event) → Kept s → (run s es).layout ≡ s.layout
layout_run s [] inv = refl
layout_run s (e ∷ es) inv = layout_run (happens s e).state es (sound s e inv).kept ∙ (sound s e inv).same

-- a thread that stands still is at its row still
pub still_there : (x y : Slots) (u : ℕ) → StandsStill x y u → IsAtItsRow x u → IsAtItsRow y u
still_there x y u still here lives =
    subst (λ (r : Row). StandsAs r (y.machine.threads u).stage) (sym still.row)
    (subst (λ (z : Thread). StandsAs (x.rows u) z.stage) (sym still.thread) (here (sym (ap (λ (z : Thread). is_alive z.stage) still.thread) ∙ lives)))

pub one_more : (x : Slots) (h : Happening) (u : ℕ) → IsReached x.machine → 1 ≤ who h → who h ≤ x.machine.layout.threads → Grants x h → ((v : ℕ) → 1 ≤ v → v ≤ x.machine.layout.threads → IsAtItsRow x v) → 1 ≤ u → u ≤ x.machine.layout.threads → IsAtItsRow (next x h) u
one_more x h u reached pos known grants all first last = go (who h == u) refl
  where
    go : (b : Bool) → (who h == u) ≡ b → IsAtItsRow (next x h) u
    go true e = subst (IsAtItsRow (next x h)) (eqb-true (who h) u e) (threads_keep x h reached pos known grants (all (who h) pos known))
    go false e = still_there x (next x h) u (others_still x h u reached (λ same. cc (sym e ∙ eq-eqb (who h) u same))) (all u first last)

from_any : (x : Slots) (hs : List Happening) → IsReached x.machine → ((v : ℕ) → 1 ≤ v → v ≤ x.machine.layout.threads → IsAtItsRow x v) → AllGranted x hs → (u : ℕ) → 1 ≤ u → u ≤ x.machine.layout.threads → IsAtItsRow (reached_from x hs) u
from_any x [] reached all granted u first last = all u first last
from_any x (h ∷ hs) reached all ((pos, known, grants), granted) u first last =
    from_any (next x h) hs (subst IsReached (sym (next_is x h)) (reached_run x.machine (events_of x h) reached))
    (λ v v_first v_last. one_more x h v reached pos known grants all v_first (subst (λ (l : Layout'). v ≤ l.threads) layout v_last))
    granted u first (subst (λ (l : Layout'). u ≤ l.threads) (sym layout) last)
  where
    layout : (next x h).machine.layout ≡ x.machine.layout
    layout = ap (λ (s : State). s.layout) (next_is x h) ∙ layout_run x.machine (events_of x h) (reached_kept x.machine reached)

pub runs_keep : RunsKeepTheirRows
runs_keep l hs t is first last granted = from_any (begin l) hs (record { layout = l; counters = λ c. 0; events = []; is = is; here = refl }) (λ v v_first v_last lives. refl) granted t first last

-- ---- accesses of such a run

pub runs_are_events : AccessesOfRunsAreEvents
runs_are_events l hs t c is first last granted (about, assumes, too) lives awake = each_access x t c (record {
  reached = from;
  first = first;
  last = subst (λ (k : Layout'). t ≤ k.threads) (sym layout) last;
  there = runs_keep l hs t is first last granted lives;
  about = about;
  out = in_none x.machine t (reached_queued x.machine from) awake;
}) assumes
  where
    x : Slots
    x = reached l hs

    from : IsReached x.machine
    from = record { layout = l; counters = λ k. 0; events = all_events (begin l) hs; is = is; here = runs_are l hs }

    layout : x.machine.layout ≡ l
    layout = ap (λ (s : State). s.layout) (runs_are l hs) ∙ layout_run (start l (λ k. 0)) (all_events (begin l) hs) (start_kept l (λ k. 0) is)
