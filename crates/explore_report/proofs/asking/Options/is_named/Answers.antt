use Rattle.std.proofs.Common.{◌∙◌, ap, List, ℕ, Bor}
use Rattle.std.specs.List.{list_any}
use Rattle.std.specs.Str.{bytes_eq}
use Rattle.explore_report.proofs.Loops.{named_there}
use Rattle.explore_report.proofs.asking.Options.is_named.Goals as goal

pub returns : goal.returns
returns c = c.is_among.ensures ∙ ap (λ (l : List (Bor (List ℕ))). list_any (λ w. bytes_eq w.now c.args.name.now) l) c.deref.ensures.value ∙ named_there c.args.self.now.named.items c.args.name.now
