use Rattle.std.proofs.Common.{◌≡◌, take}
use Rattle.std.specs.List.{flat_map}
use Rattle.explore_report.specs.Plans.{items_in}
use Rattle.explore_report.proofs.planning.items_of.Given as goal

abbrev pub invariant-loop-command : goal.invariant-loop-command
invariant-loop-command l = l.items.items ≡ flat_map (items_in l.kinds l.thread) (take l.command-index l.commands)
