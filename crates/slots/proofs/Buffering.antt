-- The machine's stores may wait in buffers.
use Rattle.std.proofs.Common.{◌≡◌, ℕ, ◌<◌, List, refl, sym, ap, ◌∙◌, subst}
use Rattle.memorymap.specs.Layouts.{Layout', cell_place, counter_place}
use Rattle.protocol.specs.declared.event.Event.{Event}
use Rattle.protocol.specs.Machine.{State, mutex_at, run, start}
use Rattle.storebuffers.specs.Buffers as buffers
use Rattle.storebuffers.specs.Runs as buffered
use Rattle.storebuffers.proofs.Holding.{change_nothing}
use Rattle.slots.specs.Places.{counter_at}
use Rattle.slots.specs.Shown.{Slots, begin, shown, shown_as}
use Rattle.slots.specs.Runs.{all_events, reached}
use Rattle.slots.specs.Stores.{RunsMayBuffer}
use Rattle.protocol.proofs.Runs.{start_kept}
use Rattle.slots.proofs.AllRows.{layout_run}
use Rattle.slots.proofs.MachineRuns.{runs_are}
use Rattle.slots.proofs.Shows.{IsLike, shows_like}

pub may_buffer : RunsMayBuffer
may_buffer l hs ds is same = record {
  state = state;
  waits = without.waits;
  cells = λ k inside. shows_at (cell_place l k) (ap (λ (j : Layout'). memory.words (cell_place j k)) (sym layout) ∙ without.waits.cells k (subst (λ (j : Layout'). k < j.mutexes) (sym layout) inside) ∙ ap (λ (j : Layout'). (buffered.settled b).words (cell_place j k)) layout);
  counters = λ k. shows_at (counter_place l k) (ap (λ (j : Layout'). memory.words (counter_place j k)) (sym layout) ∙ without.waits.counters k ∙ ap (λ (j : Layout'). (buffered.settled b).words (counter_place j k)) layout);
}
  where
    x : Slots
    x = reached l hs

    b : buffers.Buffered
    b = buffered.reached l (λ c. 0) ds

    memory : State
    memory = (buffered.reached l (λ c. 0) ds).memory

    without : buffered.RunsAsWithout l (λ c. 0) ds
    without = change_nothing l (λ c. 0) ds is

    state : buffered.settled (buffered.reached l (λ c. 0) ds) ≡ (reached l hs).machine
    state = without.state ∙ ap (λ (es : List Event). run (start l (λ c. 0)) es) same ∙ sym (runs_are l hs)

    layout : (buffered.reached l (λ c. 0) ds).memory.layout ≡ l
    layout = ap (λ (s : State). s.layout) state ∙ ap (λ (s : State). s.layout) (runs_are l hs) ∙ layout_run (start l (λ k. 0)) (all_events (begin l) hs) (start_kept l (λ k. 0) is)

    like : IsLike (reached l hs) (record (reached l hs) { machine = (buffered.reached l (λ c. 0) ds).memory })
    like = record { layout = ap (λ (s : State). s.layout) state; awake = λ m. refl; slept = λ k. refl; turns = λ k inside. refl }

    shows_at : (p : ℕ) → (buffered.reached l (λ c. 0) ds).memory.words p ≡ (buffered.settled (buffered.reached l (λ c. 0) ds)).words p → shown (record (reached l hs) { machine = (buffered.reached l (λ c. 0) ds).memory }) p ≡ shown (reached l hs) p
    shows_at p e = shows_like (reached l hs) (record (reached l hs) { machine = (buffered.reached l (λ c. 0) ds).memory }) like p
        ∙ ap (shown_as (reached l hs) (mutex_at (reached l hs).machine.layout p) (counter_at (reached l hs).machine.layout p)) (e ∙ ap (λ (s : State). s.words p) state)
