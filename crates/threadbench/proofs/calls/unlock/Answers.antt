use Rattle.std.proofs.Common.{subst}
use Rattle.mutex.specs.declared.call.Call.TheVariants as call
use Rattle.ruledwords.specs.declared.pass.Words.{Words}
use Rattle.ruledwords.specs.declared.turn.Outcome.TheVariants as outcome
use Rattle.ruledwords.specs.declared.uncrossed.Straight.TheVariants as straight
use Rattle.ruledwords.specs.Straight.{StraightFrom}
use Rattle.threadbench.proofs.Begun.{heeded_on, unlocked}
use Rattle.threadbench.proofs.Heeding.{is_heeded}
use Rattle.threadbench.proofs.calls.unlock.Goals as goal

pub run_crossed-requires : goal.run_crossed-requires
run_crossed-requires g c =
    let a = c.args.pass in
    let so = subst (λ (w : Words). StraightFrom w a (call.Unlock c.args.mutex) (straight.Crossed c.in-Crossed.crossing)) c.words.ensures c.in-Crossed.ensures.unlocks in
    (a, call.Unlock c.args.mutex, so)

pub returns-in-Crossed-clause-ends : goal.returns-in-Crossed-clause-ends
returns-in-Crossed-clause-ends g c =
    let a = c.args.pass in
    let so = subst (λ (w : Words). StraightFrom w a (call.Unlock c.args.mutex) (straight.Crossed c.in-Crossed.crossing)) c.words.ensures c.in-Crossed.ensures.unlocks in
    unlocked c.args.bench.now c.args.mutex a c.run_crossed.result (c.run_crossed.ensures.runs a (call.Unlock c.args.mutex) so)

pub returns-in-Lives-clause-ends : goal.returns-in-Lives-clause-ends
returns-in-Lives-clause-ends g c =
    let a = c.args.pass in
    let so = subst (λ (w : Words). StraightFrom w a (call.Unlock c.args.mutex) (straight.Lives c.in-Lives.pass c.in-Lives.reply)) c.words.ensures c.in-Lives.ensures.unlocks in
    unlocked c.args.bench.now c.args.mutex a (outcome.Lives c.in-Lives.pass c.in-Lives.reply) so.0

pub returns-in-Dead-clause-ends : goal.returns-in-Dead-clause-ends
returns-in-Dead-clause-ends g c =
    let a = c.args.pass in
    let so = subst (λ (w : Words). StraightFrom w a (call.Unlock c.args.mutex) (straight.Dead c.in-Dead.pass)) c.words.ensures c.in-Dead.ensures.unlocks in
    unlocked c.args.bench.now c.args.mutex a (outcome.Dead c.in-Dead.pass) so.0

pub returns-in-Crossed-clause-fate : goal.returns-in-Crossed-clause-fate
returns-in-Crossed-clause-fate g c = heeded_on _ _ _ _ _ c.run_crossed.result c.in-Crossed.ensures.fate c.run_crossed.ensures.fate

pub returns-in-Lives-clause-fate : goal.returns-in-Lives-clause-fate
returns-in-Lives-clause-fate g c = is_heeded _ _ _ _ (outcome.Lives c.in-Lives.pass c.in-Lives.reply) c.in-Lives.ensures.fate

pub returns-in-Dead-clause-fate : goal.returns-in-Dead-clause-fate
returns-in-Dead-clause-fate g c = is_heeded _ _ _ _ (outcome.Dead c.in-Dead.pass) c.in-Dead.ensures.fate
