use Rattle.std.proofs.Common.{◌≡◌, ◌+◌, ◌++◌, ◌&&◌, [], ◌∷◌, List, arith, sym, ap, ◌∙◌, take}
use Rattle.std.proofs.lemmas.List.{take_more}
use Rattle.protocol.specs.declared.event.Event.{Event}
use Rattle.protocol.specs.declared.note.Note.{Note}
use Rattle.protocol.specs.Machine.{State, happens, run, notes}
use Rattle.interleave.specs.Notes.{are_nothing}
use Rattle.interleave.specs.Shown.{state_of}
use Rattle.interleave.proofs.Freshness.{stays_fresh}
use Rattle.interleave.proofs.Reaches.{run-more, notes-more, reached_runs_alone, reached_reaped, reached_deaths}
use Rattle.interleave.proofs.Runs.{whole_run}
use Rattle.interleave.proofs.machine.Machine.run.Goals as goal

pub loop-event-preserved : goal.loop-event-preserved
loop-event-preserved c =
    let s = state_of c.args.self.now in
    let es = c.args.events.now in
    let i = c.loop-event.event-index in
    let e = c.event-item.result in
    let inv = c.loop-event.invariant in
    let more : take (i + 1) es ≡ take i es ++ e ∷ [] = take_more es i e c.loop-event-test.true ∙ ap (λ (x : Event). take i es ++ x ∷ []) (sym c.event-item.is) in (
      omega (arith, inv.0, c.push_in_room.ensures.len),
      omega (arith, inv.1, c.push_in_room.ensures.room),
      c.step-note.ensures.state ∙ ap (λ (z : State). (happens z e).state) inv.2 ∙ sym (run-more s (take i es) e) ∙ ap (run s) (sym more),
      c.push_in_room.ensures.items ∙ (λ j. inv.3 j ++ (c.step-note.ensures.note ∙ ap (λ (z : State). (happens z e).note) inv.2) j ∷ []) ∙ sym (notes-more s (take i es) e) ∙ ap (notes s) (sym more),
      stays_fresh c.args.self.now.fresh c.loop-event.notes.items c.step-note.result _ _ inv.4 c.step-note.ensures.fresh ∙ ap (λ (ns : List Note). c.args.self.now.fresh && are_nothing ns) (sym c.push_in_room.ensures.items),
    )

pub returns-clause-history : goal.returns-clause-history
returns-clause-history c = λ on. (whole_run c.args.self.now c.args.events.now c.loop-event.notes.items c.loop-event.event-index (c.fresh-fresh.ensures.start on) (omega arith) c.loop-event.invariant.3).history

pub returns-clause-explained : goal.returns-clause-explained
returns-clause-explained c = λ on. (whole_run c.args.self.now c.args.events.now c.loop-event.notes.items c.loop-event.event-index (c.fresh-fresh.ensures.start on) (omega arith) c.loop-event.invariant.3).explained

pub returns-clause-sleeps : goal.returns-clause-sleeps
returns-clause-sleeps c = λ on. (whole_run c.args.self.now c.args.events.now c.loop-event.notes.items c.loop-event.event-index (c.fresh-fresh.ensures.start on) (omega arith) c.loop-event.invariant.3).sleeps

pub returns-clause-passed : goal.returns-clause-passed
returns-clause-passed c = λ on. (whole_run c.args.self.now c.args.events.now c.loop-event.notes.items c.loop-event.event-index (c.fresh-fresh.ensures.start on) (omega arith) c.loop-event.invariant.3).passed

pub returns-clause-runs_alone : goal.returns-clause-runs_alone
returns-clause-runs_alone c = λ n. reached_runs_alone c.args.self.now (take n c.args.events.now) c.reached.ensures

pub returns-clause-reaped : goal.returns-clause-reaped
returns-clause-reaped c = λ n. reached_reaped c.args.self.now (take n c.args.events.now) c.reached.ensures

pub returns-clause-deaths : goal.returns-clause-deaths
returns-clause-deaths c = reached_deaths c.args.self.now c.args.events.now c.reached.ensures
