use Rattle.texts.specs.Replies.{replies_text}
use Rattle.streams.proofs.Writers.{kept_leaves}
use Rattle.report.proofs.serving.write_told.Goals as goal

pub returns-clause-text : goal.returns-clause-text
returns-clause-text g c = kept_leaves _ _ _ c.let_go.result (replies_text c.args.threads.now c.args.mutexes.now c.args.conditions.now) c.in_ok-write_replies.ensures c.let_go.ensures.kept
