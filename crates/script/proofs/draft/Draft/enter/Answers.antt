use Rattle.script.proofs.draft.Draft.enter.Goals as goal

pub returns-in-Member-clause-gives : goal.returns-in-Member-clause-gives
returns-in-Member-clause-gives c = rw c.in-Member.is c.declare_member.ensures.gives
