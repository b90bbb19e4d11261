use Rattle.std.proofs.Common.{sym, ap, ◌∙◌, rules, ◌+◌}
use Rattle.std.specs.Prelude.{Some, option_map}
use Rattle.explore_report.proofs.Loops.{id_is, place_found, place_next}
use Rattle.explore_report.proofs.names.thread_named.Goals as goal

pub returns-then-eq : goal.returns-then-eq
returns-then-eq c =
    let found = sym (place_found c.args.script.now.threads c.loop-before.before _ _ c.thread_name_at.ensures (search rules)) ∙ c.loop-before.invariant in
    ap Some (id_is _ _ _ _ c.new.ensures c.unwrap-thread.ensures) ∙ ap (option_map (λ i. i + 1)) found

pub loop-before-preserved : goal.loop-before-preserved
loop-before-preserved c = sym (place_next c.args.script.now.threads c.loop-before.before _ _ c.thread_name_at.ensures (search rules)) ∙ c.loop-before.invariant
