use Rattle.std.proofs.Common.{None, Some, sym, ap, ◌∙◌}
use Rattle.std.specs.Option.{is_some}
use Rattle.std.proofs.lemmas.Str.Pattern.{strip_prefix_char}
use Rattle.verdict.proofs.Spelling.{lettered, unlettered}
use Rattle.grammar.proofs.Words.{number_is_some}
use Rattle.grammar.proofs.next.is_lettered.Goals as goal

pub returns-in-None : goal.returns-in-None
returns-in-None c = ap is_some (sym (unlettered c.args.letter c.args.word.now (strip_prefix_char c.args.letter c.args.word.now None c.in-None.ensures.cases c.requires)))

pub returns-in-Some : goal.returns-in-Some
returns-in-Some c = c.is_number_word.ensures ∙ sym (number_is_some c.in-Some.digits.now) ∙ ap is_some (sym (lettered c.args.letter c.args.word.now c.in-Some.digits.now (strip_prefix_char c.args.letter c.args.word.now (Some c.in-Some.digits) c.in-Some.ensures.cases c.requires)))
