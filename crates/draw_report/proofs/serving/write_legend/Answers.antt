use Rattle.streams.proofs.Writers.{Appends-kept, whole_is_front}
use Rattle.draw_report.specs.Legend.{legend}
use Rattle.draw_report.proofs.serving.write_legend.Goals as goal

pub returns-in-Err-clause-text : goal.returns-in-Err-clause-text
returns-in-Err-clause-text g c =
    let old = g.W.Write.contents c.args.out.now in
    let written = g.W.Write.contents c.put_legend.new.out in
    let new = g.W.Write.contents c.let_go.new.self in
    whole_is_front old new legend (Appends-kept old written new legend c.in_ok-put_legend.ensures c.let_go.ensures.kept)
