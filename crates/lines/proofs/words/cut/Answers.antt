use Rattle.lines.proofs.Cutting.{cut_parts}
use Rattle.lines.proofs.words.cut.Goals as goal

pub returns-clause-parts : goal.returns-clause-parts
returns-clause-parts c = cut_parts c.args.at c.args.text.now c.split_once.result c.split_once.ensures.cases c.requires
