use Rattle.std.proofs.Common.{sym}
use Rattle.explain.proofs.Pointing.{no_word}
use Rattle.explain.proofs.modes.mode_of_first.Goals as goal

pub returns-in-Err : goal.returns-in-Err
returns-in-Err c = sym (no_word c.args.word.now c.in-Err.ensures.cases.0)
