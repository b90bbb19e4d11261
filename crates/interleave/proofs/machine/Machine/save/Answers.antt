use Rattle.std.proofs.Common.{◌≡◌, subst}
use Rattle.interleave.specs.declared.saved.Saved.{Saved}
use Rattle.interleave.specs.Shown.{Shown, state_of}
use Rattle.interleave.specs.Saved.{saved_state, WasReached}
use Rattle.interleave.proofs.Places.{null_reached, saved_is, saved_reached}
use Rattle.interleave.proofs.machine.Machine.save.Goals as goal

pub same_words-requires-clause-null : goal.same_words-requires-clause-null
same_words-requires-clause-null c =
    let m : Shown = record { layout = c.self.inside.layout; words = c.self.inside.memory; kernel = c.self.inside.kernel; threads = c.self.inside.threads.items; fresh = c.self.inside.fresh } in
    null_reached m c.self.invariant

pub returns-clause-state : goal.returns-clause-state
returns-clause-state c =
    let m : Shown = record { layout = c.self.inside.layout; words = c.self.inside.memory; kernel = c.self.inside.kernel; threads = c.self.inside.threads.items; fresh = c.self.inside.fresh } in
    let s : Saved = record { words = c.in_ok-words.words; threads = c.in_ok-threads.threads; sleepers = c.in_ok-sleepers.sleepers } in
    subst (λ (v : Shown). saved_state v.layout s ≡ state_of v) c.self.view_is (saved_is m s c.cell-first.result c.words-count.result c.self.invariant c.cell-first.ensures.value c.words-count.ensures.value c.in_ok-words.ensures c.in_ok-threads.ensures c.in_ok-sleepers.ensures)

pub returns-clause-reached : goal.returns-clause-reached
returns-clause-reached c =
    let m : Shown = record { layout = c.self.inside.layout; words = c.self.inside.memory; kernel = c.self.inside.kernel; threads = c.self.inside.threads.items; fresh = c.self.inside.fresh } in
    let s : Saved = record { words = c.in_ok-words.words; threads = c.in_ok-threads.threads; sleepers = c.in_ok-sleepers.sleepers } in
    subst (λ (v : Shown). WasReached v.layout s) c.self.view_is (saved_reached m s c.cell-first.result c.words-count.result c.self.invariant c.cell-first.ensures.value c.words-count.ensures.value c.in_ok-words.ensures c.in_ok-threads.ensures c.in_ok-sleepers.ensures)
