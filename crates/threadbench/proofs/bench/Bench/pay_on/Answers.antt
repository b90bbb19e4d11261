use Rattle.lockword.specs.declared.reply.Reply.TheVariants.{OK}
use Rattle.ruledwords.specs.Outcomes.{owed_pass}
use Rattle.ruledwords.specs.Passes.{card}
use Rattle.threadbench.proofs.Turning.{ran_paid}
use Rattle.threadbench.proofs.bench.Bench.pay_on.Goals as goal

pub returns-then-ne-clause-paid : goal.returns-then-ne-clause-paid
returns-then-ne-clause-paid g c =
    let w = c.args.self.now in
    ran_paid w c.args.owed c.run_on.result c.requires (λ m there. c.run_on.ensures.runs.1 m (card (owed_pass c.args.owed)) OK (c.owed.ensures.decided w m c.requires there))
