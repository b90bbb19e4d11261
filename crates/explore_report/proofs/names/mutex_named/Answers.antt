use Rattle.std.proofs.Common.{sym, ap, ◌∙◌, rules, ◌+◌}
use Rattle.std.specs.Prelude.{option_map}
use Rattle.explore_report.proofs.Loops.{place_found, place_next}
use Rattle.explore_report.proofs.names.mutex_named.Goals as goal

pub returns-then-eq : goal.returns-then-eq
returns-then-eq c = sym (place_found c.args.script.now.mutexes c.loop-mutex.mutex _ _ c.mutex_name.ensures (search rules)) ∙ c.loop-mutex.invariant

pub loop-mutex-preserved : goal.loop-mutex-preserved
loop-mutex-preserved c = sym (place_next c.args.script.now.mutexes c.loop-mutex.mutex _ _ c.mutex_name.ensures (search rules)) ∙ c.loop-mutex.invariant
