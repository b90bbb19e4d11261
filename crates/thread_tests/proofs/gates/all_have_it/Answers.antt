use Rattle.std.proofs.Common.{All, subst}
use Rattle.ruledwords.specs.declared.pass.Words.{Words}
use Rattle.ruledwords.specs.declared.pass.Pass.{Pass}
use Rattle.ruledwords.specs.declared.pass.Live.{Live}
use Rattle.ruledwords.specs.Passes.{IsLive}
use Rattle.thread_tests.proofs.gates.all_have_it.Goals as goal

pub jobs_of-requires : goal.jobs_of-requires
jobs_of-requires g c = subst (λ (w : Words). All (λ (p : Pass Live). IsLive w p) c.last_of-last.new.passes.items) c.words-words.ensures c.last_of-last.ensures.rest
