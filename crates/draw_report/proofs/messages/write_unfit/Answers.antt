use Rattle.std.proofs.Common.{List, ℕ, ◌∷◌, [], subst}
use Rattle.std.specs.Prelude.{codes}
use Rattle.std.specs.List.{concat}
use Rattle.streams.specs.Leaves.{Leaves}
use Rattle.draw_report.proofs.messages.write_unfit.Goals as goal

pub returns : goal.returns
returns g c =
    subst (λ (words : List ℕ). Leaves (g.E.Write.contents c.args.err.now) (g.E.Write.contents c.put.new.out) c.put.result (concat (codes "rfx-draw: cannot draw the history: line 1: " ∷ words ∷ codes "\n" ∷ [])))
    c.excess_words.ensures c.put.ensures
