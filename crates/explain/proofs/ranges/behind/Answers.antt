use Rattle.std.proofs.lemmas.Str.Pattern.{strip_prefix_char}
use Rattle.explain.proofs.Letters.{behind_is}
use Rattle.explain.proofs.ranges.behind.Goals as goal

pub returns : goal.returns
returns c = behind_is c.args.letter c.args.word.now c.strip_prefix.result (strip_prefix_char c.args.letter c.args.word.now c.strip_prefix.result c.strip_prefix.ensures.cases c.requires)
