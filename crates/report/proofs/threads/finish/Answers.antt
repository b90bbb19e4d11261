use Rattle.std.proofs.Common.{List, length, ap, sym, ◌∙◌, subst}
use Rattle.memorymap.specs.Layouts.{Layout'}
use Rattle.ruledwords.specs.declared.pass.Card.{Card}
use Rattle.ruledwords.specs.Passes.{layout_of, presets_of, last_words}
use Rattle.ruledwords.specs.Rules.{Ends}
use Rattle.script.proofs.Names.{length-map_of}
use Rattle.report.proofs.threads.finish.Goals as goal

pub cells_of-requires : goal.cells_of-requires
cells_of-requires c = c.mutexes.ensures.count ∙ ap (λ (l : Layout'). l.mutexes) (sym (c.close_all-last.ensures.layout ∙ c.requires.layout))

pub counters_of-requires : goal.counters_of-requires
counters_of-requires c =
    c.conditions.ensures.count ∙ sym (length-map_of (λ x. x.1.mutex) c.args.script.now.conditions) ∙ ap (λ (l : Layout'). length l.conditions) (sym (c.close_all-last.ensures.layout ∙ c.requires.layout))

pub returns : goal.returns
returns c = record {
  last = c.close_all-last.result;
  same = c.close_all-last.ensures.layout;
  ends = subst (λ (cards : List Card). Ends (layout_of c.args.bench) (presets_of c.args.bench) cards (last_words c.close_all-last.result)) c.in_ok-passes.ensures.cards c.close_all-last.ensures.ends;
  words = c.in_ok-cells.ensures;
  counts = c.in_ok-counters.ensures;
}
