use Rattle.std.proofs.Common.{◌∙◌, []}
use Rattle.interleave.proofs.Reaches.{state-first, reached_first, reached_runs_alone, reached_reaped}
use Rattle.interleave.proofs.machine.Machine.new.Goals as goal

pub invariant_of-result : goal.invariant_of-result
invariant_of-result c = reached_first c.args.layout c.from.result c.in_ok-kernel.kernel c.in_ok-threads.threads.items c.first_words.ensures.layout (c.from.ensures ∙ c.in_ok-words.ensures.words) c.in_ok-kernel.ensures c.in_ok-threads.ensures

pub returns-clause-start : goal.returns-clause-start
returns-clause-start c = state-first c.args.layout c.from.result c.in_ok-kernel.kernel c.in_ok-threads.threads.items (c.from.ensures ∙ c.in_ok-words.ensures.words) c.in_ok-kernel.ensures c.in_ok-threads.ensures

pub returns-clause-runs_alone : goal.returns-clause-runs_alone
returns-clause-runs_alone c =
    reached_runs_alone _ [] (reached_first c.args.layout c.from.result c.in_ok-kernel.kernel c.in_ok-threads.threads.items c.first_words.ensures.layout (c.from.ensures ∙ c.in_ok-words.ensures.words) c.in_ok-kernel.ensures c.in_ok-threads.ensures)

pub returns-clause-reaped : goal.returns-clause-reaped
returns-clause-reaped c =
    reached_reaped _ [] (reached_first c.args.layout c.from.result c.in_ok-kernel.kernel c.in_ok-threads.threads.items c.first_words.ensures.layout (c.from.ensures ∙ c.in_ok-words.ensures.words) c.in_ok-kernel.ensures c.in_ok-threads.ensures)
