use Rattle.std.proofs.Common.{◌≡◌, ◌-◌, ap, subst, ◌∙◌}
use Rattle.std.specs.List.{slice_get}
use Rattle.streams.specs.Leaves.{Leaves}
use Rattle.judge_report.specs.Texts.{waiter_lines, waiter_text}
use Rattle.judge_report.proofs.waiting.write_waiter.Goals as goal

pub returns : goal.returns
returns g c =
    let w = c.args.waiter.now in
    let ls = c.args.lines.now in
    let whole : waiter_lines w c.line_at-begin.result c.line_of-since.result ≡ waiter_text ls w =
    ap (λ b. waiter_lines w b c.line_of-since.result) c.line_at-begin.ensures ∙ ap (waiter_lines w (slice_get ls (w.begin - 1))) c.line_of-since.ensures in
    subst (Leaves (g.W.Write.contents c.args.out.now) (g.W.Write.contents c.write_waiter_lines.new.out) c.write_waiter_lines.result) whole c.write_waiter_lines.ensures
