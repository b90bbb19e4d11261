use Rattle.std.proofs.Common.{subst}
use Rattle.mutex.specs.declared.call.Call.TheVariants.{Lock}
use Rattle.ruledwords.specs.declared.pass.Words.{Words}
use Rattle.ruledwords.specs.declared.turn.Outcome.TheVariants as outcome
use Rattle.ruledwords.specs.declared.uncrossed.Straight.TheVariants as straight
use Rattle.ruledwords.specs.Straight.{LocksStraight}
use Rattle.threadbench.proofs.Begun.{heeded_on, lock_dies, lock_goes_on, lock_lives, lock_ran}
use Rattle.threadbench.proofs.Heeding.{is_heeded}
use Rattle.threadbench.proofs.bench.Bench.lock.Goals as goal

pub run_crossed-requires : goal.run_crossed-requires
run_crossed-requires g c =
    let a = c.args.pass in
    let so = subst (λ (w : Words). LocksStraight w c.args.mutex a (straight.Crossed c.in-Crossed.crossing)) c.self.view_is c.in-Crossed.ensures.locks in
    lock_goes_on c.args.self.now c.args.mutex a c.in-Crossed.crossing so

pub returns-in-Crossed-clause-locked : goal.returns-in-Crossed-clause-locked
returns-in-Crossed-clause-locked g c =
    let a = c.args.pass in
    let so = subst (λ (w : Words). LocksStraight w c.args.mutex a (straight.Crossed c.in-Crossed.crossing)) c.self.view_is c.in-Crossed.ensures.locks in
    lock_ran c.args.self.now c.args.mutex a c.in-Crossed.crossing c.run_crossed.result so (c.run_crossed.ensures.runs a (Lock c.args.mutex))

pub returns-in-Lives-clause-locked : goal.returns-in-Lives-clause-locked
returns-in-Lives-clause-locked g c =
    let a = c.args.pass in
    let so = subst (λ (w : Words). LocksStraight w c.args.mutex a (straight.Lives c.in-Lives.pass c.in-Lives.reply)) c.self.view_is c.in-Lives.ensures.locks in
    lock_lives c.args.self.now c.args.mutex a c.in-Lives.pass c.in-Lives.reply c.requires.pass so

pub returns-in-Dead-clause-locked : goal.returns-in-Dead-clause-locked
returns-in-Dead-clause-locked g c =
    let a = c.args.pass in
    let so = subst (λ (w : Words). LocksStraight w c.args.mutex a (straight.Dead c.in-Dead.pass)) c.self.view_is c.in-Dead.ensures.locks in
    lock_dies c.args.self.now c.args.mutex a c.in-Dead.pass so

pub returns-in-Crossed-clause-fate : goal.returns-in-Crossed-clause-fate
returns-in-Crossed-clause-fate g c = heeded_on _ _ _ _ _ c.run_crossed.result c.in-Crossed.ensures.fate c.run_crossed.ensures.fate

pub returns-in-Lives-clause-fate : goal.returns-in-Lives-clause-fate
returns-in-Lives-clause-fate g c = is_heeded _ _ _ _ (outcome.Lives c.in-Lives.pass c.in-Lives.reply) c.in-Lives.ensures.fate

pub returns-in-Dead-clause-fate : goal.returns-in-Dead-clause-fate
returns-in-Dead-clause-fate g c = is_heeded _ _ _ _ (outcome.Dead c.in-Dead.pass) c.in-Dead.ensures.fate
