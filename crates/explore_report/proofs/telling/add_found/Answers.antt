use Rattle.std.proofs.Common.{◌∙◌, ap, map, length}
use Rattle.std.proofs.lemmas.List.FromFn.{length-map-range_with_len}
use Rattle.explore_report.specs.Texts.{columns, widest}
use Rattle.explore_report.proofs.telling.add_found.Goals as goal

pub add_rows-requires : goal.add_rows-requires
add_rows-requires c = ap length c.deref.ensures.value ∙ ap length c.in_ok-widths.ensures ∙ length-map-range_with_len (λ i. widest c.args.script.now i 0 (map (λ w. w.now) c.args.outcomes.now)) 0 (columns c.args.script.now)
