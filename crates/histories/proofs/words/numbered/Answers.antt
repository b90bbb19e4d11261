use Rattle.std.proofs.Common.{sym, ◌∙◌, None, Some}
use Rattle.std.proofs.lemmas.Str.Pattern.{strip_prefix_char}
use Rattle.histories.proofs.Spelling.{lettered, unlettered}
use Rattle.histories.proofs.words.numbered.Goals as goal

pub returns-in-None : goal.returns-in-None
returns-in-None c = sym (unlettered c.args.letter c.args.word.now (strip_prefix_char c.args.letter c.args.word.now None c.in-None.ensures.cases c.requires))

pub returns-in-Some : goal.returns-in-Some
returns-in-Some c = c.number.ensures ∙ sym (lettered c.args.letter c.args.word.now c.in-Some.digits.now (strip_prefix_char c.args.letter c.args.word.now (Some c.in-Some.digits) c.in-Some.ensures.cases c.requires))
