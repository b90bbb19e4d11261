use Rattle.std.proofs.Common.{◌++◌}
use Rattle.streams.proofs.Writers.{ends_at_first, ends_at_second, then_leaves}
use Rattle.page.specs.Pages.{before_picture, behind_picture}
use Rattle.page.proofs.html.write_parts.Goals as goal

pub returns-in_err-put : goal.returns-in_err-put
returns-in_err-put g c =
    ends_at_first (g.W.Write.contents c.args.out.now) (g.W.Write.contents c.put.new.out) c.from_residual.result (before_picture c.args.title.now c.args.states.now) (c.args.picture.now ++ behind_picture) c.from_residual.ensures.0 c.in_err-put.ensures

pub returns-in_err-put_text : goal.returns-in_err-put_text
returns-in_err-put_text g c =
    ends_at_second (g.W.Write.contents c.args.out.now) (g.W.Write.contents c.put.new.out) (g.W.Write.contents c.put_text.new.out) c.from_residual-in_err-put_text.result (before_picture c.args.title.now c.args.states.now) c.args.picture.now behind_picture c.from_residual-in_err-put_text.ensures.0 c.in_ok-put.ensures c.in_err-put_text.ensures

pub returns : goal.returns
returns g c =
    let old = g.W.Write.contents c.args.out.now in
    let one = g.W.Write.contents c.put.new.out in
    let two = g.W.Write.contents c.put_text.new.out in
    let all = g.W.Write.contents c.put-2.new.out in
    let r = c.put-2.result in
    then_leaves old one all r (before_picture c.args.title.now c.args.states.now) (c.args.picture.now ++ behind_picture) c.in_ok-put.ensures
    (then_leaves one two all r c.args.picture.now behind_picture c.in_ok-put_text.ensures c.put-2.ensures)
