-- The layer's runs are runs of the machine.
use Rattle.std.proofs.Common.{◌≡◌, Bool, true, false, List, [], ◌∷◌, ◌++◌, refl, sym, ap, ◌∙◌}
use Rattle.std.specs.Prelude.{if◌then◌else◌, not, ◌&&◌}
use Rattle.protocol.specs.declared.event.Event.{Event}
use Rattle.protocol.specs.declared.event.Event.TheVariants.{Step, Kill}
use Rattle.protocol.specs.Machine.{State, happens, run, has_thread, is_alive, is_asleep, is_dying}
use Rattle.slots.specs.Rows.{Row}
use Rattle.slots.specs.Shown.{Slots, begin, after}
use Rattle.slots.specs.Table.{made}
use Rattle.slots.specs.Runs.{Happening, next, at_row, made_by, is_resting, may_call, lapse_events, lapse_row, events_of, reached_from, all_events}
use Rattle.slots.specs.Runs.Happening.{Calls, Goes, Interrupts, Lapses, Dies, Walks, Lives}
use Rattle.slots.specs.Laws.{SlotsRunTheMachine}

pub run-append : (s : State) (es fs : List Event) → run s (es ++ fs) ≡ run (run s es) fs
run-append s [] fs = refl
run-append s (e ∷ es) fs = run-append (happens s e).state es fs

either : (b : Bool) (x y : Slots) (es : List Event) → y.machine ≡ run x.machine es → (if b then y else x).machine ≡ run x.machine (if b then es else [])
either true x y es h = h
either false x y es h = refl

stays : (b : Bool) (x y : Slots) → y.machine ≡ x.machine → (if b then y else x).machine ≡ x.machine
stays true x y h = h
stays false x y h = refl

pub next_is : (x : Slots) (h : Happening) → (next x h).machine ≡ run x.machine (events_of x h)
next_is x (Calls t r) = stays (has_thread x.machine t && is_alive (x.machine.threads t).stage && is_resting (x.rows t) && may_call x.machine.layout (x.machine.threads t).held r) x (at_row x t r) refl
next_is x (Goes t c) = either (has_thread x.machine t && is_alive (x.machine.threads t).stage && not (is_asleep x.machine t)) x (made_by x t c (made x t c (x.rows t))) (made x t c (x.rows t)).events refl
next_is x (Interrupts t) = refl
next_is x (Lapses t) = either (is_asleep x.machine t) x (at_row (after x (lapse_events x t (x.rows t))) t (lapse_row (x.rows t))) (lapse_events x t (x.rows t)) refl
next_is x (Dies t) = either (has_thread x.machine t && is_alive (x.machine.threads t).stage) x (at_row (after x (Kill t ∷ [])) t Row.Rests) (Kill t ∷ []) refl
next_is x (Walks t) = either (is_dying x.machine t) x (after x (Step t ∷ [])) (Step t ∷ []) refl
next_is x (Lives t) = refl

from_is : (x : Slots) (hs : List Happening) → (reached_from x hs).machine ≡ run x.machine (all_events x hs)
from_is x [] = refl
from_is x (h ∷ hs) = from_is (next x h) hs ∙ ap (λ (s : State). run s (all_events (next x h) hs)) (next_is x h) ∙ sym (run-append x.machine (events_of x h) (all_events (next x h) hs))

pub runs_are : SlotsRunTheMachine
runs_are l hs = from_is (begin l) hs
