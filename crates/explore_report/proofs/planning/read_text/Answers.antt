use Rattle.std.proofs.Common.{◌∙◌}
use Rattle.explore_report.proofs.Loops.{spelled_ill, spelled_read}
use Rattle.explore_report.proofs.planning.read_text.Goals as goal

pub returns-in-Ok-parse : goal.returns-in-Ok-parse
returns-in-Ok-parse c = spelled_read c.args.text.now c.deref.result.now c.in-Ok.spelling.kinds.items c.in-Ok-parse.script (c.deref.ensures.value ∙ c.in-Ok.ensures.text) c.in-Ok.ensures.kinds c.in-Ok-parse.ensures.reads

pub returns-in-Err : goal.returns-in-Err
returns-in-Err c = spelled_ill c.args.text.now c.deref.result.now c.in-Err.fault (c.deref.ensures.value ∙ c.in-Ok.ensures.text) c.in-Err.ensures.reads
