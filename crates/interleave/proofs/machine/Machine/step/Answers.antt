use Rattle.std.proofs.Common.{◌≡◌, [], ◌∙◌, ap, subst, ◌&&◌}
use Rattle.protocol.specs.declared.note.Note.{Note}
use Rattle.protocol.specs.Machine.{happens}
use Rattle.interleave.specs.Shown.{Shown, state_at, state_of}
use Rattle.interleave.specs.Notes.{is_nothing}
use Rattle.interleave.proofs.Reaches.{reached_step, may_step, sleeps_in_call, reached_runs_alone, reached_reaped}
use Rattle.interleave.proofs.machine.Machine.step.Goals as goal

pub apply-note-requires-clause-goes : goal.apply-note-requires-clause-goes
apply-note-requires-clause-goes c =
    let m : Shown = record { layout = c.self.inside.layout; words = c.self.inside.memory; kernel = c.self.inside.kernel; threads = c.self.inside.threads.items; fresh = c.self.inside.fresh } in
    may_step m c.self.invariant

pub apply-note-requires-clause-sleeps : goal.apply-note-requires-clause-sleeps
apply-note-requires-clause-sleeps c =
    let m : Shown = record { layout = c.self.inside.layout; words = c.self.inside.memory; kernel = c.self.inside.kernel; threads = c.self.inside.threads.items; fresh = c.self.inside.fresh } in
    sleeps_in_call m c.self.invariant

pub apply-note-requires-clause-heads : goal.apply-note-requires-clause-heads
apply-note-requires-clause-heads c = c.self.invariant.heads

pub invariant_of-self : goal.invariant_of-self
invariant_of-self c =
    let m : Shown = record { layout = c.self.inside.layout; words = c.self.inside.memory; kernel = c.self.inside.kernel; threads = c.self.inside.threads.items; fresh = c.self.inside.fresh } in
    reached_step m c.apply-note.new.memory c.apply-note.new.kernel c.apply-note.new.threads.items c.args.event c.self.invariant c.apply-note.ensures.state c.apply-note.ensures.words c.apply-note.ensures.kernel c.apply-note.ensures.heads c.apply-note.ensures.threads
    c.stays_fresh-self-inside.result (c.stays_fresh-self-inside.ensures ∙ ap (λ (n : Note). m.fresh && is_nothing n) c.apply-note.ensures.note)

pub returns-clause-state : goal.returns-clause-state
returns-clause-state c = subst (λ (m : Shown). state_at c.self.inside.layout c.apply-note.new.memory c.apply-note.new.kernel c.apply-note.new.threads.items ≡ (happens (state_of m) c.args.event).state) c.self.view_is c.apply-note.ensures.state

pub returns-clause-note : goal.returns-clause-note
returns-clause-note c = subst (λ (m : Shown). c.apply-note.result ≡ (happens (state_of m) c.args.event).note) c.self.view_is c.apply-note.ensures.note

pub returns-clause-runs_alone : goal.returns-clause-runs_alone
returns-clause-runs_alone c =
    let m : Shown = record { layout = c.self.inside.layout; words = c.self.inside.memory; kernel = c.self.inside.kernel; threads = c.self.inside.threads.items; fresh = c.self.inside.fresh } in
    reached_runs_alone _ []
    (reached_step m c.apply-note.new.memory c.apply-note.new.kernel c.apply-note.new.threads.items c.args.event c.self.invariant c.apply-note.ensures.state c.apply-note.ensures.words c.apply-note.ensures.kernel c.apply-note.ensures.heads c.apply-note.ensures.threads
    c.stays_fresh-self-inside.result (c.stays_fresh-self-inside.ensures ∙ ap (λ (n : Note). m.fresh && is_nothing n) c.apply-note.ensures.note))

pub returns-clause-reaped : goal.returns-clause-reaped
returns-clause-reaped c =
    let m : Shown = record { layout = c.self.inside.layout; words = c.self.inside.memory; kernel = c.self.inside.kernel; threads = c.self.inside.threads.items; fresh = c.self.inside.fresh } in
    reached_reaped _ []
    (reached_step m c.apply-note.new.memory c.apply-note.new.kernel c.apply-note.new.threads.items c.args.event c.self.invariant c.apply-note.ensures.state c.apply-note.ensures.words c.apply-note.ensures.kernel c.apply-note.ensures.heads c.apply-note.ensures.threads
    c.stays_fresh-self-inside.result (c.stays_fresh-self-inside.ensures ∙ ap (λ (n : Note). m.fresh && is_nothing n) c.apply-note.ensures.note))
