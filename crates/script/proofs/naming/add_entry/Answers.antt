use Rattle.std.proofs.Common.{◌≡◌, ◌∙◌, sym, string_bytes}
use Rattle.std.proofs.lemmas.Result.{err_from_is_err_and}
use Rattle.script.proofs.Entries.{is_there, has_no_such, takes}
use Rattle.script.proofs.naming.add_entry.Goals as goal

pub returns-then-contains_key : goal.returns-then-contains_key
returns-then-contains_key g c = is_there c.args.word.now c.args.value c.args.entries.now.entries (sym c.contains_key.ensures ∙ c.if-contains_key.true)

pub returns-in_err-from_str : goal.returns-in_err-from_str
returns-in_err-from_str g c =
    let p = err_from_is_err_and c.from_residual.result c.from_residual.ensures.1 in
    rw (p.1, p.2) (has_no_such c.args.word.now c.args.value c.args.entries.now.entries (sym c.contains_key.ensures ∙ c.if-contains_key.false))

pub returns-in_err-insert : goal.returns-in_err-insert
returns-in_err-insert g c =
    let p = err_from_is_err_and c.from_residual-in_err-insert.result c.from_residual-in_err-insert.ensures.1 in
    rw (p.1, p.2) (has_no_such c.args.word.now c.args.value c.args.entries.now.entries (sym c.contains_key.ensures ∙ c.if-contains_key.false))

pub returns : goal.returns
returns g c =
    let k = c.in_ok-from_str.field-0 in
    let same : string_bytes k ≡ c.args.word.now = c.in_ok-from_str.ensures.ok in
    rw c.in_ok-insert.ensures.entries (takes c.args.word.now k c.args.value c.args.entries.now.entries same (sym c.contains_key.ensures ∙ c.if-contains_key.false))
