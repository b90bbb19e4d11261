use Rattle.std.proofs.Common.{◌≡◌, length, false, nat_lt, arith, rules, inl}
use Rattle.std.proofs.lemmas.Bool.{le-ltb}
use Rattle.verdict.specs.Limits.{max_bytes}
use Rattle.verdict.proofs.checking.explain.Goals as goal

pub returns-in-Ok : goal.returns-in-Ok
returns-in-Ok c =
    let small : nat_lt max_bytes (length c.args.bytes.now) ≡ false = le-ltb _ _ (omega arith) in
    rw (small, c.in-Ok.ensures.0, ← c.in-Ok.ensures.1) c.explain_text.ensures

pub returns-in-Err : goal.returns-in-Err
returns-in-Err c =
    let small : nat_lt max_bytes (length c.args.bytes.now) ≡ false = le-ltb _ _ (omega arith) in
    inl (rw (small, c.in-Err.ensures.0) (search rules))
