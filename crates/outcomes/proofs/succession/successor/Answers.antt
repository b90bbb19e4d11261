use Rattle.std.proofs.Common.{◌≡◌, ◌∙◌, ap, sym, subst}
use Rattle.memorymap.specs.Layouts.{Layout'}
use Rattle.protocol.specs.Machine.{happens}
use Rattle.interleave.specs.Notes.{is_nothing}
use Rattle.interleave.specs.Saved.{saved_state, WasReached}
use Rattle.outcomes.specs.Events.{reply_in, replied, places_begun}
use Rattle.outcomes.specs.Kept.{places_in}
use Rattle.outcomes.proofs.Lives.{lives_long}
use Rattle.outcomes.proofs.Moves.{layout_then, state_then, note_then}
use Rattle.outcomes.proofs.succession.successor.Goals as goal

pub returns-then-rules_out-clause-nothing : goal.returns-then-rules_out-clause-nothing
returns-then-rules_out-clause-nothing c = c.rules_out.ensures c.if-rules_out.true c.args.plan.now.layout

pub returns-then-is_nothing-clause-layout : goal.returns-then-is_nothing-clause-layout
returns-then-is_nothing-clause-layout c = layout_then c.args.plan.now c.args.kept.now c.args.machine.now c.restore.new.self c.step-note.new.self c.args.event.now c.requires.kept c.requires.layout c.restore.ensures.state c.step-note.ensures.state

pub returns-in_err-saved-clause-layout : goal.returns-in_err-saved-clause-layout
returns-in_err-saved-clause-layout c = layout_then c.args.plan.now c.args.kept.now c.args.machine.now c.restore.new.self c.step-note.new.self c.args.event.now c.requires.kept c.requires.layout c.restore.ensures.state c.step-note.ensures.state

pub returns-in_err-lives-clause-layout : goal.returns-in_err-lives-clause-layout
returns-in_err-lives-clause-layout c = layout_then c.args.plan.now c.args.kept.now c.args.machine.now c.restore.new.self c.step-note.new.self c.args.event.now c.requires.kept c.requires.layout c.restore.ensures.state c.step-note.ensures.state

pub returns-in_err-begun-clause-layout : goal.returns-in_err-begun-clause-layout
returns-in_err-begun-clause-layout c = layout_then c.args.plan.now c.args.kept.now c.args.machine.now c.restore.new.self c.step-note.new.self c.args.event.now c.requires.kept c.requires.layout c.restore.ensures.state c.step-note.ensures.state

pub returns-clause-layout : goal.returns-clause-layout
returns-clause-layout c = layout_then c.args.plan.now c.args.kept.now c.args.machine.now c.restore.new.self c.step-note.new.self c.args.event.now c.requires.kept c.requires.layout c.restore.ensures.state c.step-note.ensures.state

pub returns-then-is_nothing-clause-nothing : goal.returns-then-is_nothing-clause-nothing
returns-then-is_nothing-clause-nothing c = ap is_nothing (sym (note_then c.args.plan.now c.args.kept.now c.args.machine.now c.restore.new.self c.step-note.new.self c.args.event.now c.requires.kept c.requires.layout c.restore.ensures.state c.step-note.ensures.state c.step-note.result c.step-note.ensures.note)) ∙ sym c.is_nothing.ensures ∙ c.if-is_nothing.true

pub returns-clause-nothing : goal.returns-clause-nothing
returns-clause-nothing c = ap is_nothing (sym (note_then c.args.plan.now c.args.kept.now c.args.machine.now c.restore.new.self c.step-note.new.self c.args.event.now c.requires.kept c.requires.layout c.restore.ensures.state c.step-note.ensures.state c.step-note.result c.step-note.ensures.note)) ∙ sym c.is_nothing.ensures ∙ c.if-is_nothing.false

pub returns-clause-after : goal.returns-clause-after
returns-clause-after c =
    let plan = c.args.plan.now in
    let s = saved_state plan.layout c.args.kept.now.saved in
    let e = c.args.event.now in
    let state : saved_state plan.layout c.in_ok-saved.saved ≡ (happens s e).state =
    ap (λ (l : Layout'). saved_state l c.in_ok-saved.saved) (sym (layout_then c.args.plan.now c.args.kept.now c.args.machine.now c.restore.new.self c.step-note.new.self c.args.event.now c.requires.kept c.requires.layout c.restore.ensures.state c.step-note.ensures.state)) ∙ c.in_ok-saved.ensures.state ∙ state_then c.args.plan.now c.args.kept.now c.args.machine.now c.restore.new.self c.step-note.new.self c.args.event.now c.requires.kept c.requires.layout c.restore.ensures.state c.step-note.ensures.state in
    let said : c.reply_in.result ≡ reply_in (happens s e).note = c.reply_in.ensures ∙ ap reply_in (note_then c.args.plan.now c.args.kept.now c.args.machine.now c.restore.new.self c.step-note.new.self c.args.event.now c.requires.kept c.requires.layout c.restore.ensures.state c.step-note.ensures.state c.step-note.result c.step-note.ensures.note) in
    let places : places_in c.in_ok-lives.lives.value.items ≡ replied (reply_in (happens s e).note) (places_begun plan (places_in c.args.kept.now.lives.value.items) e) = c.in_ok-lives.ensures ∙ (λ i. replied (said i) (c.in_ok-begun.ensures i)) in
    λ i. record { state = state i; phase = c.phase_after-phase.ensures i; places = places i }

pub returns-clause-kept : goal.returns-clause-kept
returns-clause-kept c = record {
  saved = subst (λ (l : Layout'). WasReached l c.in_ok-saved.saved) (layout_then c.args.plan.now c.args.kept.now c.args.machine.now c.restore.new.self c.step-note.new.self c.args.event.now c.requires.kept c.requires.layout c.restore.ensures.state c.step-note.ensures.state) c.in_ok-saved.ensures.reached;
  lives = lives_long c.args.plan.now c.args.kept.now.lives.value.items c.in_ok-lives.lives.value.items c.reply_in.result c.args.event.now (c.in_ok-lives.ensures ∙ ap (replied c.reply_in.result) c.in_ok-begun.ensures) ∙ c.requires.kept.lives;
}
