use Rattle.std.proofs.Common.{◌≡◌, length, false, nat_lt, arith, rules}
use Rattle.std.proofs.lemmas.Bool.{le-ltb}
use Rattle.script.specs.Limits.{max_bytes}
use Rattle.script.proofs.reading.parse.Goals as goal

pub returns-in-Ok-clause-reads : goal.returns-in-Ok-clause-reads
returns-in-Ok-clause-reads c =
    let small : nat_lt max_bytes (length c.args.bytes.now) ≡ false = le-ltb _ _ (omega arith) in
    rw (small, c.in-Ok.ensures.0, ← c.in-Ok.ensures.1) c.read_text.ensures.reads

pub returns-in-Err-clause-reads : goal.returns-in-Err-clause-reads
returns-in-Err-clause-reads c =
    let small : nat_lt max_bytes (length c.args.bytes.now) ≡ false = le-ltb _ _ (omega arith) in
    rw (small, c.in-Err.ensures.0) (search rules)
