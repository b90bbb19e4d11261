use Rattle.std.proofs.Common.{◌<◌, ℕ, sym, subst}
use Rattle.protocol.proofs.Events.{names_so, names_mutex}
use Rattle.interleave.proofs.ops.mutex_of.Goals as goal

pub returns-clause-inside : goal.returns-clause-inside
returns-clause-inside c = subst (λ (m : ℕ). m < c.args.layout.now.mutexes) (sym c.mutex.ensures) (names_mutex c.args.layout.now c.args.op c.words-words.ensures.layout (names_so c.args.layout.now c.args.op c.requires))
