use Rattle.std.proofs.Common.{sym}
use Rattle.std.proofs.lemmas.Str.{utf8_valid_len-IsUtf8}
use Rattle.explain.proofs.encodings.valid_len.Goals as goal

pub returns-in-Ok : goal.returns-in-Ok
returns-in-Ok c = sym (utf8_valid_len-IsUtf8 c.args.bytes.now c.in-Ok.ensures.cases.1)
