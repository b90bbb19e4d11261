use Rattle.std.proofs.Common.{string_bytes, sym, ◌∙◌, rules}
use Rattle.std.proofs.lemmas.Iterator.Consumers.{YieldsList-from_rest}
use Rattle.std.proofs.lemmas.Iterator.Search.{any_from_yields_List}
use Rattle.script.specs.Reading.{is_numbered}
use Rattle.script.proofs.Names.{list_any-map}
use Rattle.script.proofs.naming.clashes.Goals as goal

pub returns : goal.returns
returns c =
    any_from_yields_List (λ k. is_numbered c.args.word.now c.args.count (string_bytes k)) _ _ _ c.any.ensures.ran (YieldsList-from_rest c.args.names.now.keys c.iter.ensures.rest) (λ x b q k. search rules)
    ∙ sym (list_any-map string_bytes (λ name. is_numbered c.args.word.now c.args.count name) c.args.names.now.keys)
