use Rattle.std.proofs.Common.{rules}
use Rattle.script.proofs.Numbered.{stripped, unlike}
use Rattle.script.proofs.naming.is_numbered.Goals as goal

pub returns-then-is_number_word : goal.returns-then-is_number_word
returns-then-is_number_word c = rw (stripped c.args.word.now c.args.name.now c.in-Some.digits.now c.args.count c.in-Some.ensures.cases) (search rules)

pub returns-in-None : goal.returns-in-None
returns-in-None c = unlike c.args.word.now c.args.name.now c.args.count c.in-None.ensures.cases
