use Rattle.std.proofs.Common.{sym, ap, ◌∙◌}
use Rattle.protocol.specs.declared.event.Event.{Event}
use Rattle.protocol.specs.Machine.{happens}
use Rattle.interleave.specs.Shown.{state_at}
use Rattle.interleave.proofs.threads.apply.Goals as goal

pub returns-in-Begin-clause-state : goal.returns-in-Begin-clause-state
returns-in-Begin-clause-state c = c.begin.ensures.state c.args.memory.now c.args.kernel.now ∙ ap (λ (e : Event). (happens (state_at c.args.layout.now c.args.memory.now c.args.kernel.now c.args.threads.now.items) e).state) (sym c.in-Begin.is)

pub returns-in-Begin-clause-note : goal.returns-in-Begin-clause-note
returns-in-Begin-clause-note c = c.begin.ensures.note c.args.memory.now c.args.kernel.now ∙ ap (λ (e : Event). (happens (state_at c.args.layout.now c.args.memory.now c.args.kernel.now c.args.threads.now.items) e).note) (sym c.in-Begin.is)

pub returns-in-Kill-clause-state : goal.returns-in-Kill-clause-state
returns-in-Kill-clause-state c = c.kill.ensures.state c.args.memory.now ∙ ap (λ (e : Event). (happens (state_at c.args.layout.now c.args.memory.now c.args.kernel.now c.args.threads.now.items) e).state) (sym c.in-Kill.is)

pub returns-in-Kill-clause-note : goal.returns-in-Kill-clause-note
returns-in-Kill-clause-note c = c.kill.ensures.note c.args.memory.now ∙ ap (λ (e : Event). (happens (state_at c.args.layout.now c.args.memory.now c.args.kernel.now c.args.threads.now.items) e).note) (sym c.in-Kill.is)

pub returns-in-Leave-clause-state : goal.returns-in-Leave-clause-state
returns-in-Leave-clause-state c =
    c.leave.ensures.state c.args.memory.now c.args.threads.now.items (c.requires.sleeps c.in-Leave.thread)
    ∙ ap (λ (e : Event). (happens (state_at c.args.layout.now c.args.memory.now c.args.kernel.now c.args.threads.now.items) e).state) (sym c.in-Leave.is)

pub returns-in-Leave-clause-note : goal.returns-in-Leave-clause-note
returns-in-Leave-clause-note c =
    c.leave.ensures.note c.args.memory.now c.args.threads.now.items (c.requires.sleeps c.in-Leave.thread)
    ∙ ap (λ (e : Event). (happens (state_at c.args.layout.now c.args.memory.now c.args.kernel.now c.args.threads.now.items) e).note) (sym c.in-Leave.is)

pub returns-in-Expire-clause-state : goal.returns-in-Expire-clause-state
returns-in-Expire-clause-state c =
    c.expire.ensures.state c.args.memory.now (c.requires.sleeps c.in-Expire.thread)
    ∙ ap (λ (e : Event). (happens (state_at c.args.layout.now c.args.memory.now c.args.kernel.now c.args.threads.now.items) e).state) (sym c.in-Expire.is)

pub returns-in-Expire-clause-note : goal.returns-in-Expire-clause-note
returns-in-Expire-clause-note c =
    c.expire.ensures.note c.args.memory.now (c.requires.sleeps c.in-Expire.thread)
    ∙ ap (λ (e : Event). (happens (state_at c.args.layout.now c.args.memory.now c.args.kernel.now c.args.threads.now.items) e).note) (sym c.in-Expire.is)

pub returns-in-Decline-clause-state : goal.returns-in-Decline-clause-state
returns-in-Decline-clause-state c =
    c.decline.ensures.state c.args.memory.now (c.requires.sleeps c.in-Decline.thread)
    ∙ ap (λ (e : Event). (happens (state_at c.args.layout.now c.args.memory.now c.args.kernel.now c.args.threads.now.items) e).state) (sym c.in-Decline.is)

pub returns-in-Decline-clause-note : goal.returns-in-Decline-clause-note
returns-in-Decline-clause-note c =
    c.decline.ensures.note c.args.memory.now (c.requires.sleeps c.in-Decline.thread)
    ∙ ap (λ (e : Event). (happens (state_at c.args.layout.now c.args.memory.now c.args.kernel.now c.args.threads.now.items) e).note) (sym c.in-Decline.is)

pub returns-in-Renew-clause-state : goal.returns-in-Renew-clause-state
returns-in-Renew-clause-state c = c.renew.ensures.state c.args.kernel.now ∙ ap (λ (e : Event). (happens (state_at c.args.layout.now c.args.memory.now c.args.kernel.now c.args.threads.now.items) e).state) (sym c.in-Renew.is)

pub returns-in-Renew-clause-note : goal.returns-in-Renew-clause-note
returns-in-Renew-clause-note c = c.renew.ensures.note c.args.kernel.now ∙ ap (λ (e : Event). (happens (state_at c.args.layout.now c.args.memory.now c.args.kernel.now c.args.threads.now.items) e).note) (sym c.in-Renew.is)

pub returns-in-Remake-clause-state : goal.returns-in-Remake-clause-state
returns-in-Remake-clause-state c = c.remake.ensures.state c.args.kernel.now ∙ ap (λ (e : Event). (happens (state_at c.args.layout.now c.args.memory.now c.args.kernel.now c.args.threads.now.items) e).state) (sym c.in-Remake.is)

pub returns-in-Remake-clause-note : goal.returns-in-Remake-clause-note
returns-in-Remake-clause-note c = c.remake.ensures.note c.args.kernel.now ∙ ap (λ (e : Event). (happens (state_at c.args.layout.now c.args.memory.now c.args.kernel.now c.args.threads.now.items) e).note) (sym c.in-Remake.is)

pub returns-in-Spare-clause-state : goal.returns-in-Spare-clause-state
returns-in-Spare-clause-state c = c.spare.ensures.state ∙ ap (λ (e : Event). (happens (state_at c.args.layout.now c.args.memory.now c.args.kernel.now c.args.threads.now.items) e).state) (sym c.in-Spare.is)

pub returns-in-Spare-clause-note : goal.returns-in-Spare-clause-note
returns-in-Spare-clause-note c = c.spare.ensures.note ∙ ap (λ (e : Event). (happens (state_at c.args.layout.now c.args.memory.now c.args.kernel.now c.args.threads.now.items) e).note) (sym c.in-Spare.is)
