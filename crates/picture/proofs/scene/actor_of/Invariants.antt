use Rattle.std.proofs.Common.{◌≡◌, drop}
use Rattle.picture.specs.Scenes.{actor_of}
use Rattle.picture.proofs.scene.actor_of.Given as goal

abbrev pub invariant-loop-line : goal.invariant-loop-line
invariant-loop-line l = actor_of l.event l.lines ≡ actor_of l.event (drop l.line-index l.lines)
