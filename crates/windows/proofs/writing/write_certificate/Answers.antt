use Rattle.std.proofs.Common.{◌++◌, subst}
use Rattle.streams.specs.Leaves.{Leaves}
use Rattle.streams.proofs.Writers.{ends_at_first, ends_at_second, then_leaves}
use Rattle.texts.specs.Text.{end_line, head_line}
use Rattle.windows.specs.Texts.{steps_count, steps_lines}
use Rattle.windows.proofs.writing.write_certificate.Goals as goal

pub returns-in_err-write_head : goal.returns-in_err-write_head
returns-in_err-write_head g c =
    let h = c.args.head.now in
    let es = c.args.steps.now in
    ends_at_first _ _ c.from_residual.result (head_line h.threads h.mutexes h.conditions) (steps_lines es ++ end_line (steps_count es)) c.from_residual.ensures.0 c.in_err-write_head.ensures

pub returns-in_err-events : goal.returns-in_err-events
returns-in_err-events g c =
    let h = c.args.head.now in
    let es = c.args.steps.now in
    ends_at_second _ _ _ c.from_residual-in_err-events.result (head_line h.threads h.mutexes h.conditions) (steps_lines es) (end_line (steps_count es)) c.from_residual-in_err-events.ensures.0 c.in_ok-write_head.ensures c.in_err-events.ensures.text

pub returns : goal.returns
returns g c =
    let h = c.args.head.now in
    let es = c.args.steps.now in
    let end : Leaves (g.W.Write.contents c.write_steps.new.out) (g.W.Write.contents c.put_pieces.new.out) c.put_pieces.result (end_line (steps_count es)) =
    subst (λ n. Leaves (g.W.Write.contents c.write_steps.new.out) (g.W.Write.contents c.put_pieces.new.out) c.put_pieces.result (end_line n)) c.in_ok-events.ensures.count c.put_pieces.ensures in
    then_leaves _ _ _ c.put_pieces.result (head_line h.threads h.mutexes h.conditions) (steps_lines es ++ end_line (steps_count es)) c.in_ok-write_head.ensures
    (then_leaves _ _ _ c.put_pieces.result (steps_lines es) (end_line (steps_count es)) c.in_ok-events.ensures.text end)
