use Rattle.std.proofs.Common.{refl, arith}
use Rattle.std.proofs.lemmas.List.{take-replicate}
use Rattle.lockword.specs.Threads.{named_threads}
use Rattle.memorymap.proofs.Processes.{lays_one}
use Rattle.memorymap.proofs.layout.Layout.new.Goals as goal

pub returns : goal.returns
returns c = lays_one named_threads c.args.threads c.args.mutexes c.args.conditions.now _ _ c.with_processes.result (take-replicate c.args.threads named_threads 0 (omega arith)) refl c.with_processes.ensures
