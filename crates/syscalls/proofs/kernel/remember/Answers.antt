use Rattle.std.proofs.Common.{◌∙◌, ◌+◌, take, List, ℕ, sym, subst, arith}
use Rattle.buckets.proofs.Moves.{somebody}
use Rattle.syscalls.proofs.Told.{Reminded, reminded_none, reminded_more}
use Rattle.syscalls.proofs.kernel.remember.Goals as goal
use Rattle.syscalls.proofs.kernel.remember.Goals.{in-Some, in_default}

pub loop-place-init : goal.loop-place-init
loop-place-init c = reminded_none c.args.stood_in.now c.args.number

pub loop-place-preserved : goal.loop-place-preserved
loop-place-preserved c = elim c.match-get.branch [
  | in-Some w ↦ subst (λ (xs : List ℕ). Reminded c.args.stood_in.now xs (take (c.loop-place.place + 1) c.args.threads.now) c.args.number) (sym w.stood_in-is)
      (reminded_more c.args.stood_in.now c.loop-place.stood_in c.args.threads.now c.args.number c.loop-place.place w.in-Some.thread w.as_index.result (sym c.get.ensures ∙ w.in-Some.is)
      (omega (arith, w.as_index.ensures)) c.requires.known c.loop-place.invariant)
  | in_default w ↦ absurd (somebody c.args.threads.now c.loop-place.place c.get.result c.get.ensures (omega (arith, c.loop-place-test.true, c.len-place-end.ensures.value)) w.in_default.is)
]
