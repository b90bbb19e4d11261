use Rattle.std.proofs.Common.{◌≡◌, ◌<◌, refl, arith, length, Some}
use Rattle.std.specs.Prelude.{slice_get}
use Rattle.std.proofs.lemmas.Option.{slice_get_read}
use Rattle.outcomes.proofs.Storing.{held}
use Rattle.outcomes.proofs.search.Search.find.Goals as goal

pub returns-then-is_same : goal.returns-then-is_same
returns-then-is_same c = λ plan are kept.
    let rs = c.args.self.now.reached.items in
    let i = c.in_ok-number.number in
    let one = c.index.result.now in
    let lt : i < length rs = (let n = c.len.ensures in let below = c.if-number-len.true in omega arith) in
    let there : slice_get rs i ≡ Some one = slice_get_read rs (length rs) i one refl lt c.index.ensures in
    record { one = one; there = there; is = held plan.layout one.stored c.args.kept.now (c.is_same.ensures c.if-is_same.true plan kept) }
