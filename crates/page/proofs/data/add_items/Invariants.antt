use Rattle.std.proofs.Common.{◌≡◌, ◌++◌, take, drop}
use Rattle.std.specs.Prelude.{reverse, string_bytes, []}
use Rattle.page.specs.Shows.{items_behind}
use Rattle.page.specs.States.{seen, state_behind}
use Rattle.page.specs.Texts.{items_text}
use Rattle.page.proofs.data.add_items.Given as goal

abbrev pub invariant-loop-index : goal.invariant-loop-index
invariant-loop-index l = record {
  so_far : string_bytes l.text ++ items_text (items_behind l.head.threads l.head.mutexes (reverse (take l.index l.lines)) (drop l.index l.lines)) ≡ string_bytes l.initial.text ++ items_text (items_behind l.head.threads l.head.mutexes [] l.lines);
  state : seen l.state ≡ state_behind l.head.threads l.head.mutexes (reverse (take l.index l.lines));
}
