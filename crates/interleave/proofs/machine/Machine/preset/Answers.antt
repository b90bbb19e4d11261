use Rattle.std.proofs.Common.{arith, ◌<◌, ◌∙◌, ap, sym, subst, length}
use Rattle.interleave.specs.Shown.{Shown}
use Rattle.interleave.proofs.Reaches.{reached_preset}
use Rattle.interleave.proofs.machine.Machine.preset.Goals as goal

pub invariant_of-self : goal.invariant_of-self
invariant_of-self c =
    let m : Shown = record { layout = c.self.inside.layout; words = c.self.inside.memory; kernel = c.self.inside.kernel; threads = c.self.inside.threads.items; fresh = c.self.inside.fresh } in
    reached_preset m c.store.new.self c.args.condition c.args.value c.counter-place.result c.from.result (omega arith) c.self.invariant (ap (λ (v : Shown). v.fresh) c.self.view_is ∙ c.requires.fresh)
    (subst (λ (v : Shown). c.args.condition < length v.layout.conditions) (sym c.self.view_is) c.requires.condition) c.counter-place.ensures.value c.from.ensures c.store.ensures.words
