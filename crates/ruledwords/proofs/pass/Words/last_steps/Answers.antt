use Rattle.std.proofs.Common.{◌∙◌, arith}
use Rattle.ruledwords.specs.Turns.{running_of}
use Rattle.ruledwords.proofs.Stepping.{after, comes_further, ends_in, falls, is_step, still_nonblocking, untrimmed}
use Rattle.ruledwords.proofs.pass.Words.last_steps.Goals as goal

pub returns-in-Err-clause-ends : goal.returns-in-Err-clause-ends
returns-in-Err-clause-ends g c =
    let w = c.args.self.now in
    let a = c.args.pass.now in
    let p = c.args.begun in
    ends_in w a p c.step.new.pass c.in-Err.end (after w a p c.loop-end.pass c.loop-end.program c.step.new.pass c.in-Err.end c.loop-end.invariant.came c.in-Err.ensures.steps)

pub returns-in-Err-clause-trims : goal.returns-in-Err-clause-trims
returns-in-Err-clause-trims g c = untrimmed c.args.self.now c.loop-end.pass c.loop-end.program c.step.new.pass c.in-Err.end c.in-Err.ensures.steps ∙ c.loop-end.invariant.came.4

pub loop-end-smaller : goal.loop-end-smaller
loop-end-smaller g c =
    let w = c.args.self.now in
    let s = still_nonblocking w c.args.pass.now c.args.begun c.loop-end.pass c.loop-end.program c.requires c.loop-end.invariant.came in
    let r = running_of w c.loop-end.pass c.loop-end.program s.3.0 in
    let t = c.in_default.ensures.once (is_step w s.0 s.1 r s.2 s.3.1) s.3.0 in
    falls w s.0 s.1 r (running_of w c.step.new.pass c.step.new.program t.0) s.2 s.3.1 t.1

pub loop-end-preserved : goal.loop-end-preserved
loop-end-preserved g c = record {
  came = comes_further c.args.self.now c.args.pass.now c.args.begun c.loop-end.pass c.loop-end.program c.step.new.pass c.step.new.program c.loop-end.invariant.came c.in_default.ensures.steps;
  fate = let now = c.in_default.ensures.fate in let so_far = c.loop-end.invariant.fate in omega arith;
}
