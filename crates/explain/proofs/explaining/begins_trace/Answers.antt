use Rattle.explain.proofs.Beginnings.{same_letters, too_few}
use Rattle.explain.proofs.explaining.begins_trace.Goals as goal

pub returns-then-bytes-lt6 : goal.returns-then-bytes-lt6
returns-then-bytes-lt6 c = too_few c.args.bytes.now c.if-bytes-lt6.true

pub returns : goal.returns
returns c = same_letters c.args.bytes.now c.eq_ignore_ascii_case.result c.eq_ignore_ascii_case.ensures.test
