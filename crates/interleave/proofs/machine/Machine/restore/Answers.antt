use Rattle.std.proofs.Common.{◌≡◌, ℕ, List, sym, ap, ◌∙◌, subst, arith, length}
use Rattle.std.specs.Prelude.{slice_index}
use Rattle.std.proofs.lemmas.Bool.Decides.{nat_tests}
use Rattle.memorymap.specs.Layouts.{Layout', words_of}
use Rattle.protocol.specs.Machine.{stands_in}
use Rattle.interleave.specs.Shown.{Shown, state_at}
use Rattle.interleave.specs.Saved.{saved_state, sleepers_at, AreApart, WasReached}
use Rattle.interleave.specs.declared.saved.Sleeper.{Sleeper}
use Rattle.interleave.proofs.Places.{null_reached, null_saved, saved_apart, saved_inside, restored, restored_is}
use Rattle.interleave.proofs.machine.Machine.restore.Goals as goal

pub put_words-requires-clause-null : goal.put_words-requires-clause-null
put_words-requires-clause-null c =
    let m : Shown = record { layout = c.self.inside.layout; words = c.self.inside.memory; kernel = c.self.inside.kernel; threads = c.self.inside.threads.items; fresh = c.self.inside.fresh } in
    null_reached m c.self.invariant ∙ sym (null_saved c.args.self.now.layout c.args.saved.now c.requires) ∙ ap (λ (ws : List ℕ). slice_index ws 0) (sym c.deref.ensures.value)

pub put_sleepers-requires-clause-apart : goal.put_sleepers-requires-clause-apart
put_sleepers-requires-clause-apart c = subst (λ (ss : List Sleeper). AreApart ss) (sym c.deref-3.ensures.value) (saved_apart c.args.self.now.layout c.args.saved.now c.requires)

pub put_sleepers-requires-clause-known : goal.put_sleepers-requires-clause-known
put_sleepers-requires-clause-known c = λ p t stands.
    let l = c.args.self.now.layout in
    let inside = saved_inside l c.args.saved.now c.requires p t (ap (λ (ss : List Sleeper). stands_in t (sleepers_at ss p)) (sym c.deref-3.ensures.value) ∙ stands) in
    let of : c.self.inside.layout ≡ l = ap (λ (v : Shown). v.layout) c.self.view_is in
    let threads : c.self.inside.kernel.threads ≡ l.threads = c.self.invariant.kernel ∙ ap (λ (k : Layout'). k.threads) of in
    let count : length c.put_words.new.memory ≡ words_of l = ap length (c.put_words.ensures ∙ c.deref.ensures.value) ∙ c.requires.words in
    let last = inside.0.1 in
    let from = inside.1.0 in
    let below = inside.1.1 in
    (omega (arith, last, threads), grind (arith, nat_tests))

pub invariant_of-self : goal.invariant_of-self
invariant_of-self c =
    let m : Shown = record { layout = c.self.inside.layout; words = c.self.inside.memory; kernel = c.self.inside.kernel; threads = c.self.inside.threads.items; fresh = c.self.inside.fresh } in
    restored m c.args.saved.now c.put_words.new.memory c.put_sleepers.new.kernel c.put_threads.new.threads.items c.self.invariant (subst (λ (v : Shown). WasReached v.layout c.args.saved.now) (sym c.self.view_is) c.requires)
    (c.put_words.ensures ∙ c.deref.ensures.value) (c.put_threads.ensures ∙ c.deref-2.ensures.value) (λ key. c.put_sleepers.ensures.queues key ∙ ap (λ (ss : List Sleeper). sleepers_at ss key) c.deref-3.ensures.value)
    c.put_sleepers.ensures.threads c.put_sleepers.ensures.heads

pub returns-clause-state : goal.returns-clause-state
returns-clause-state c =
    subst (λ (v : Shown). state_at c.self.inside.layout c.put_words.new.memory c.put_sleepers.new.kernel c.put_threads.new.threads.items ≡ saved_state v.layout c.args.saved.now) c.self.view_is
    (restored_is c.self.inside.layout c.args.saved.now c.put_words.new.memory c.put_sleepers.new.kernel c.put_threads.new.threads.items
    (c.put_words.ensures ∙ c.deref.ensures.value) (c.put_threads.ensures ∙ c.deref-2.ensures.value) (λ key. c.put_sleepers.ensures.queues key ∙ ap (λ (ss : List Sleeper). sleepers_at ss key) c.deref-3.ensures.value))
