use Rattle.windows.proofs.Places.{reaches_new}
use Rattle.windows.proofs.going.behind.Goals as goal

pub go-requires-clause-here : goal.go-requires-clause-here
go-requires-clause-here c = reaches_new c.args.head.now c.in_ok-state.state c.in_ok-state.ensures
