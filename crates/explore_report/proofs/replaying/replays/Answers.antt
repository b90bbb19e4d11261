use Rattle.explore_report.proofs.Played.{replayed_so, unread_so}
use Rattle.explore_report.proofs.replaying.replays.Goals as goal

pub returns-in-Ok : goal.returns-in-Ok
returns-in-Ok c = replayed_so c.args.text.now c.in-Ok.script c.args.outcome.now c.plays.result c.in-Ok.ensures.reads c.plays.ensures

pub returns-in-Err : goal.returns-in-Err
returns-in-Err c = unread_so c.args.text.now c.args.outcome.now c.in-Err.at c.refused_by.result c.in-Err.ensures.reads c.refused_by.ensures
