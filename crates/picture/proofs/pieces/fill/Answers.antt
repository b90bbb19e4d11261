use Rattle.std.proofs.Common.{◌≡◌, ◌++◌, ap, ◌∙◌, arith}
use Rattle.std.specs.List.{repeat}
use Rattle.std.specs.Prelude.{string_bytes}
use Rattle.picture.proofs.Columns.{once_more}
use Rattle.picture.proofs.pieces.fill.Goals as goal

pub loop-time-preserved : goal.loop-time-preserved
loop-time-preserved c = once_more (string_bytes c.args.text.now) (string_bytes c.loop-time.text) (string_bytes c.push_str.new.self) c.args.piece.now c.loop-time._time c.loop-time.invariant c.in_ok-push_str.ensures.bytes

pub returns : goal.returns
returns c =
    let all : c.loop-time._time ≡ c.args.count = omega arith in
    c.loop-time.invariant ∙ ap (λ n. string_bytes c.args.text.now ++ repeat n c.args.piece.now) all
