use Rattle.std.proofs.Common.{◌≡◌, string_bytes, rules}
use Rattle.std.proofs.lemmas.Result.{err_from_is_err_and}
use Rattle.script.proofs.Names.{has_none, refused, taken}
use Rattle.script.proofs.naming.add_name.Goals as goal

pub returns-then-contains : goal.returns-then-contains
returns-then-contains c = refused c.args.word.now c.args.names.now.keys (search rules)

pub returns-in_err-from_str : goal.returns-in_err-from_str
returns-in_err-from_str c =
    let p = err_from_is_err_and c.from_residual.result c.from_residual.ensures.1 in
    rw (p.1, p.2) (has_none c.args.word.now c.args.names.now.keys (search rules))

pub returns-in_err-insert : goal.returns-in_err-insert
returns-in_err-insert c =
    let p = err_from_is_err_and c.from_residual-in_err-insert.result c.from_residual-in_err-insert.ensures.1 in
    rw (p.1, p.2) (has_none c.args.word.now c.args.names.now.keys (search rules))

pub returns : goal.returns
returns c =
    let k = c.in_ok-from_str.field-0 in
    let same : string_bytes k ≡ c.args.word.now = c.in_ok-from_str.ensures.ok in
    rw c.in_ok-insert.ensures.keys (taken c.args.word.now k c.args.names.now.keys same (search rules))
