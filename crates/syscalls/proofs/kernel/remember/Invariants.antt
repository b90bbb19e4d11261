use Rattle.std.proofs.Common.{take}
use Rattle.syscalls.proofs.Told.{Reminded}
use Rattle.syscalls.proofs.kernel.remember.Given as goal

abbrev pub invariant-loop-place : goal.invariant-loop-place
invariant-loop-place l = Reminded l.fn.stood_in l.stood_in (take l.place l.threads) l.number
