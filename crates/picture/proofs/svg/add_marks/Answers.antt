use Rattle.std.proofs.Common.{◌≡◌, ◌++◌, map, ap, ◌∙◌}
use Rattle.std.specs.Prelude.{string_bytes}
use Rattle.facts.specs.Facts.{thread_of}
use Rattle.picture.specs.Places.{lane_x}
use Rattle.picture.specs.Rows.{is_from_right}
use Rattle.picture.specs.Shapes.{number_label, words_label}
use Rattle.picture.specs.Svg.{mark_of}
use Rattle.picture.proofs.Columns.{then_text, told_as}
use Rattle.picture.proofs.svg.add_marks.Goals as goal

pub returns : goal.returns
returns c =
    let x = c.args.extent.now in
    let f = c.args.fact.now in
    let k = c.args.number in
    let ws = map (λ w. w.now) c.args.words.now in
    let old = string_bytes c.args.text.now in
    let one = string_bytes c.add_number.new.text in
    let two = string_bytes c.add_mark_of.new.text in
    let all = string_bytes c.add_words.new.text in
    let middle = lane_x x (thread_of f) in
    let thread : c.get-thread.result ≡ thread_of f = c.get-thread.ensures.value ∙ c.thread.ensures in
    let label = words_label ws middle k (is_from_right (thread_of f) c.args.from) in
    let there = c.lane_x-middle.ensures.value ∙ ap (lane_x x) thread in
    let right = c.is_right_of.ensures ∙ ap (λ t. is_from_right t c.args.from) thread in
    then_text c.add_words.result old one all (number_label c.args.event k) (mark_of x f c.args.from k ++ label) c.in_ok-add_number.ensures
    (then_text c.add_words.result one two all (mark_of x f c.args.from k) label c.in_ok-add_mark_of.ensures
    (told_as c.add_words.result two all _ _ (ap (λ m. words_label ws m k c.is_right_of.result) there ∙ ap (λ b. words_label ws middle k b) right) c.add_words.ensures))
