use Rattle.std.proofs.Common.{◌≡◌}
use Rattle.threadbench.specs.declared.kill.note.KillStage.TheVariants.{Looked}
use Rattle.threadbench.proofs.bench.Bench.kill_thread.Given as goal

-- this many buckets were looked through
abbrev pub invariant-loop-place : goal.invariant-loop-place
invariant-loop-place g l = (l.kill.stage ≡ Looked l.place) × (l.kill.thread ≡ l.thread)
