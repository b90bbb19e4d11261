use Rattle.std.proofs.Common.{ℕ, ap, ◌∙◌, get_or}
use Rattle.cachelines.specs.Closings.{words_at}
use Rattle.ruledwords.proofs.pass.Last.cell.Goals as goal

pub returns : goal.returns
returns c = c.word.ensures ∙ ap (λ (p : ℕ). get_or (words_at c.args.self.now.closed) p 0) c.cell.ensures.value
