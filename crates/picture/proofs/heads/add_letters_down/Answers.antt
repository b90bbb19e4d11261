use Rattle.std.proofs.Common.{◌≡◌, ◌++◌, ap, ◌∙◌, arith}
use Rattle.std.specs.Prelude.{string_bytes}
use Rattle.picture.specs.Heads.{letters, letters_below}
use Rattle.picture.specs.Pieces.{each}
use Rattle.picture.proofs.Columns.{both, one_further}
use Rattle.picture.proofs.heads.add_letters_down.Goals as goal

pub loop-row-preserved : goal.loop-row-preserved
loop-row-preserved c = one_further (letters_below c.args.sheet.now.names.now c.args.sheet.now.extent) (string_bytes c.add_letters.new.text) (string_bytes c.loop-row.text) (string_bytes c.add_letters_below.new.text) c.loop-row.row c.loop-row.invariant c.in_ok-add_letters_below.ensures

pub returns : goal.returns
returns c =
    let n = c.args.sheet.now.names.now in
    let x = c.args.sheet.now.extent in
    let one = string_bytes c.add_letters.new.text in
    let all : c.loop-row.row ≡ c.args.rows = omega arith in
    both (string_bytes c.args.text.now) one (string_bytes c.loop-row.text) (letters n x 0) (each (letters_below n x) c.args.rows) c.in_ok-add_letters.ensures (c.loop-row.invariant ∙ ap (λ k. one ++ each (letters_below n x) k) all)
