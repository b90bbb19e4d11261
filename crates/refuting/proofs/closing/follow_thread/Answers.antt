use Rattle.std.proofs.Common.{◌∙◌, ap}
use Rattle.std.proofs.lemmas.Result.{IfOk-weaker}
use Rattle.refuting.specs.Turns.{turn_at}
use Rattle.refuting.proofs.Growing.{dead_too}
use Rattle.refuting.proofs.closing.follow_thread.Goals as goal

pub returns-clause-follows : goal.returns-clause-follows
returns-clause-follows c =
    let at = c.from.ensures ∙ c.get.ensures.value in
    IfOk-weaker c.follow_death.result _ _ (λ x death. dead_too c.args.mutex c.args.turns.now _ c.follow_call.new.states.items c.follow_death.new.states.items c.args.state.now c.args.thread (ap (turn_at c.args.turns.now) at) c.follow_death.ensures.grows c.in_ok-follow_call.ensures.follows death) c.follow_death.ensures.follows
