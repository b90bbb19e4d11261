use Rattle.std.proofs.Common.{subst}
use Rattle.ruledwords.specs.declared.pass.Words.{Words}
use Rattle.ruledwords.specs.Turns.{Unmoved}
use Rattle.threadbench.proofs.Turning.{still_under_way, still_decided}
use Rattle.threadbench.proofs.bench.Bench.trim.Goals as goal

pub returns-clause-words : goal.returns-clause-words
returns-clause-words g c =
    let same = subst (λ (w : Words). Unmoved w c.args.running c.trim_in-trimmed.new.running) c.self.view_is c.trim_in-trimmed.ensures.unmoved in
    c.answer.ensures.words c.args.self.now same.0

pub returns-clause-keeps : goal.returns-clause-keeps
returns-clause-keeps g c = λ a call u.
    let same = subst (λ (w : Words). Unmoved w c.args.running c.trim_in-trimmed.new.running) c.self.view_is c.trim_in-trimmed.ensures.unmoved in
    c.answer.ensures.keeps c.args.self.now a call (still_under_way c.args.self.now c.args.running c.trim_in-trimmed.new.running a call same u)

pub returns-clause-decided : goal.returns-clause-decided
returns-clause-decided g c = λ m e x was.
    let same = subst (λ (w : Words). Unmoved w c.args.running c.trim_in-trimmed.new.running) c.self.view_is c.trim_in-trimmed.ensures.unmoved in
    c.answer.ensures.decided c.args.self.now m e x (still_decided c.args.self.now c.args.running c.trim_in-trimmed.new.running m e x same was)
