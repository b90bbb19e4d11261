use Rattle.std.proofs.Common.{◌≡◌, ◌+◌, ◌++◌, [], ◌∷◌, List, length, take, drop, refl, ap, subst, ◌∙◌, arith}
use Rattle.std.specs.Prelude.{reverse, string_bytes}
use Rattle.facts.specs.declared.fact.Line.{Line}
use Rattle.verdict.specs.Told.{IsOf}
use Rattle.page.specs.Shows.{items_behind, turn}
use Rattle.page.specs.States.{state_behind}
use Rattle.page.specs.Texts.{items_text}
use Rattle.page.proofs.Lines.{item_of, items_end, items_next, nothing_more, one_further, short, turned}
use Rattle.page.proofs.data.add_items.Goals as goal

pub add_turn-requires : goal.add_turn-requires
add_turn-requires c =
    let ls = c.args.lines.now in
    let i = c.loop-index.index in
    let l = c.index-lines-index.result in
    record {
      inside = item_of (IsOf c.args.head.now) ls i l c.loop-index-test.true c.index-lines-index.is c.requires.inside;
      few = short ls i c.requires.few;
      so_far = c.loop-index.invariant.state;
    }

pub loop-index-init : goal.loop-index-init
loop-index-init c = record { so_far = refl; state = c.requires.new }

pub loop-index-preserved : goal.loop-index-preserved
loop-index-preserved c =
    let t = c.args.head.now.threads in
    let m = c.args.head.now.mutexes in
    let ls = c.args.lines.now in
    let i = c.loop-index.index in
    let l = c.index-lines-index.result in
    let es = reverse (take i ls) in
    let start = string_bytes c.args.text.now in
    let old = string_bytes c.loop-index.text in
    let new = string_bytes c.add_turn.new.text in
    let whole = items_text (items_behind t m [] ls) in
    let same : l ∷ es ≡ reverse (take (i + 1) ls) = turned ls i l c.loop-index-test.true c.index-lines-index.is in
    record {
      so_far = subst (λ (ks : List Line). new ++ items_text (items_behind t m ks (drop (i + 1) ls)) ≡ start ++ whole) same
          (one_further start old new whole (items_text (items_behind t m es (drop i ls))) (items_text (turn t m es l)) (items_text (items_behind t m (l ∷ es) (drop (i + 1) ls))) c.loop-index.invariant.so_far (items_next t m es ls i l c.loop-index-test.true c.index-lines-index.is) c.in_ok-add_turn.ensures.text);
      state = c.in_ok-add_turn.ensures.state ∙ ap (state_behind t m) same;
    }

pub returns : goal.returns
returns c =
    let t = c.args.head.now.threads in
    let m = c.args.head.now.mutexes in
    let ls = c.args.lines.now in
    let i = c.loop-index.index in
    let all : i ≡ length ls = omega arith in
    let es = reverse (take i ls) in
    nothing_more (string_bytes c.args.text.now) (string_bytes c.loop-index.text) (items_text (items_behind t m [] ls)) (items_text (items_behind t m es (drop i ls))) (items_end t m es ls i all) c.loop-index.invariant.so_far
