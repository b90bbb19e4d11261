use Rattle.std.proofs.Common.{◌≡◌, sym, subst}
use Rattle.stepprograms.specs.declared.access.Access.{Access}
use Rattle.interleave.specs.declared.accesses.Performed.{Performed}
use Rattle.interleave.specs.Perform.{list_words, Performs}
use Rattle.interleave.proofs.Requeues.{performs_requeue, performs_cmp_requeue}
use Rattle.interleave.proofs.Trims.{performs_trim, trims_words}
use Rattle.interleave.proofs.accesses.perform.Goals as goal

pub returns-in-Wake-clause-performs : goal.returns-in-Wake-clause-performs
returns-in-Wake-clause-performs g c = subst (λ (a : Access). Performs (g.M.Memory.words c.args.memory.now) c.args.kernel.now c.wake.new.kernel c.args.base c.args.thread a c.wake.result) (sym c.in-Wake.is) (c.wake.ensures c.args.thread)

pub returns-in-Requeue-clause-performs : goal.returns-in-Requeue-clause-performs
returns-in-Requeue-clause-performs g c =
    let r = c.in-Requeue in
    subst (λ (x : Access × Performed). Performs (g.M.Memory.words c.args.memory.now) c.args.kernel.now c.requeue.new.self c.args.base c.args.thread x.0 x.1) (λ i. (sym r.is i, sym c.requeued.ensures i))
    (performs_requeue (g.M.Memory.words c.args.memory.now) c.args.kernel.now c.requeue.new.self c.args.base c.args.thread r.from r.wake r.to r.moves c.requeue.result c.requeue.ensures.answer c.requeue.ensures.changes)

pub returns-in-CmpRequeue-clause-performs : goal.returns-in-CmpRequeue-clause-performs
returns-in-CmpRequeue-clause-performs g c =
    let r = c.in-CmpRequeue in
    subst (λ (x : Access × Performed). Performs (g.M.Memory.words c.args.memory.now) c.args.kernel.now c.cmp_requeue.new.self c.args.base c.args.thread x.0 x.1) (λ i. (sym r.is i, sym c.requeued-in-CmpRequeue.ensures i))
    (performs_cmp_requeue (g.M.Memory.words c.args.memory.now) c.args.kernel.now c.cmp_requeue.new.self c.args.base c.args.thread r.from r.wake r.to r.moves r.expected c.cmp_requeue.result c.cmp_requeue.ensures.answer c.cmp_requeue.ensures.changes)

pub returns-in-Trim-clause-performs : goal.returns-in-Trim-clause-performs
returns-in-Trim-clause-performs g c =
    let r = c.in-Trim in
    subst (λ (x : Access × Performed). Performs (g.M.Memory.words c.args.memory.now) c.args.kernel.now c.args.kernel.now c.args.base c.args.thread x.0 x.1) (λ i. (sym r.is i, sym c.trimmed.ensures i))
    (performs_trim (g.M.Memory.words c.args.memory.now) (g.M.Memory.words c.trim.new.memory) c.args.kernel.now c.args.base c.args.thread r.at c.trim.result c.trim.ensures.answer c.trim.ensures.changes)

pub returns-in-Trim-clause-words : goal.returns-in-Trim-clause-words
returns-in-Trim-clause-words g c =
    let r = c.in-Trim in
    subst (λ (a : Access). g.M.Memory.words c.trim.new.memory ≡ list_words (g.M.Memory.words c.args.memory.now) c.args.kernel.now c.args.base a) (sym r.is)
    (trims_words (g.M.Memory.words c.args.memory.now) (g.M.Memory.words c.trim.new.memory) c.args.kernel.now c.args.base c.args.thread r.at c.trim.result c.trim.ensures.answer c.trim.ensures.changes)
