-- The words after the last step, by place.
use Rattle.std.specs.Prelude.{ℕ, List}
use Rattle.std.specs.Mem.Slots.{slots_items}
use Rattle.cachelines.specs.declared.closed.Closed.{Closed}
use Rattle.cachelines.specs.Spread.{words_from}

abbrev pub words_at : Closed → List ℕ
words_at c = words_from c.count 0 (slots_items c.closed.words)
