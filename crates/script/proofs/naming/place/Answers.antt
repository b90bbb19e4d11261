use Rattle.std.proofs.Common.{rules, string_bytes}
use Rattle.std.specs.Str.{bytes_eq}
use Rattle.script.proofs.Names.{position-map}
use Rattle.script.proofs.naming.place.Goals as goal

pub returns-clause-value : goal.returns-clause-value
returns-clause-value c = rw (position-map string_bytes (λ n. bytes_eq c.args.word.now n) c.args.names.now.keys) (search rules)
