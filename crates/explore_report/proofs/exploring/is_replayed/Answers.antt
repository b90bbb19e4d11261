use Rattle.explore_report.specs.Witnesses.{script_text}
use Rattle.explore_report.proofs.Played.{shown_only, shown_so}
use Rattle.explore_report.proofs.exploring.is_replayed.Goals as goal

pub returns-clause-so : goal.returns-clause-so
returns-clause-so c = shown_so (script_text c.args.script.now c.args.witnessed.now.events.items) c.args.witnessed.now.outcome c.in_ok-replay.replay c.is_settled.result c.in_ok-replay.ensures c.is_settled.ensures

pub returns-clause-only : goal.returns-clause-only
returns-clause-only c = shown_only (script_text c.args.script.now c.args.witnessed.now.events.items) c.args.witnessed.now.outcome c.in_ok-replay.replay c.is_settled.result c.in_ok-replay.ensures c.is_settled.ensures
