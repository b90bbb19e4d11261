use Rattle.grammar.proofs.wrong.first_wrong.Goals as goal
use Rattle.grammar.proofs.Told.{awaited, begins, finishes_at, is_first, is_right}

pub returns-clause-none : goal.returns-clause-none
returns-clause-none c = is_right c.args.kind c.args.text.now c.scan.result c.scan.ensures

pub returns-clause-first : goal.returns-clause-first
returns-clause-first c = is_first c.args.kind c.args.text.now c.scan.result c.scan.ensures

pub returns-clause-start : goal.returns-clause-start
returns-clause-start c = begins c.args.kind c.args.text.now c.scan.result c.scan.ensures

pub returns-clause-end : goal.returns-clause-end
returns-clause-end c = finishes_at c.args.kind c.args.text.now c.scan.result c.scan.ensures

pub returns-clause-next : goal.returns-clause-next
returns-clause-next c = awaited c.args.kind c.args.text.now c.scan.result c.scan.ensures
