use Rattle.std.proofs.Common.{arith}
use Rattle.std.proofs.lemmas.Str.{utf8_valid_len_le}
use Rattle.explain.proofs.encodings.no_text.Goals as goal

pub overflow_add-bad : goal.overflow_add-bad
overflow_add-bad c = omega (arith, utf8_valid_len_le c.args.bytes.now, c.valid_len-bad.ensures, c.requires)
