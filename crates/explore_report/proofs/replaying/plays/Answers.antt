use Rattle.std.proofs.Common.{sym, subst}
use Rattle.explore_report.specs.Replays.{PlayCame}
use Rattle.explore_report.proofs.Played.{played_so, plays_only, plays_so, refused_so}
use Rattle.explore_report.proofs.replaying.plays.Goals as goal

pub returns-in_ok-same-in-Ok : goal.returns-in_ok-same-in-Ok
returns-in_ok-same-in-Ok c = subst (PlayCame c.args.script.now c.args.outcome.now) (sym c.replay_of.ensures) (played_so c.args.script.now c.args.outcome.now c.in_ok-same-in-Ok.same c.in-Ok.ensures.fits (λ yes. plays_so c.args.script.now c.in-Ok.trace c.in-Ok.machine c.deref.result.now c.args.outcome.now c.in-Ok.ensures c.deref.ensures.value (c.in_ok-same-in-Ok.ensures.so yes)) (λ has. c.in_ok-same-in-Ok.ensures.only (plays_only c.args.script.now c.in-Ok.trace c.in-Ok.machine c.deref.result.now c.args.outcome.now c.in-Ok.ensures c.deref.ensures.value has)))

pub returns-in-Err : goal.returns-in-Err
returns-in-Err c = refused_so c.args.script.now c.args.outcome.now c.in-Err.at c.refused_by.result c.in-Err.ensures c.refused_by.ensures
