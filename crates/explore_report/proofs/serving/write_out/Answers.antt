use Rattle.streams.proofs.Writers.{Appends-kept, whole_is_front}
use Rattle.explore_report.proofs.serving.write_out.Goals as goal

pub returns-in-Err-clause-text : goal.returns-in-Err-clause-text
returns-in-Err-clause-text g c =
    let text = c.args.text.now in
    let old = g.W.Write.contents c.args.out.now in
    let written = g.W.Write.contents c.put_text.new.out in
    let new = g.W.Write.contents c.let_go.new.self in
    whole_is_front old new text (Appends-kept old written new text c.in_ok-put_text.ensures c.let_go.ensures.kept)
