use Rattle.std.proofs.Common.{rules, string_bytes, map}
use Rattle.std.specs.Str.{bytes_eq}
use Rattle.script.proofs.Names.{position-map}
use Rattle.script.proofs.Entries.{names_seen}
use Rattle.script.proofs.naming.entry_place.Goals as goal

pub returns-clause-value : goal.returns-clause-value
returns-clause-value g c = rw (names_seen c.args.entries.now.entries, position-map string_bytes (λ n. bytes_eq c.args.word.now n) (map (λ e. e.0) c.args.entries.now.entries)) (search rules)
