use Rattle.std.proofs.Common.{map, subst, sym, ◌∙◌}
use Rattle.draw_report.specs.Asked.{Asked, Asks}
use Rattle.draw_report.proofs.Parts.{alone, asks}
use Rattle.draw_report.proofs.asking.form_of_words.Goals as goal

pub returns-clause-asks : goal.returns-clause-asks
returns-clause-asks c =
    let words = map (λ w. w.now) c.args.words.now in
    subst (λ (a : Asked). Asks words a) (sym c.read.ensures) (asks words)

pub returns-clause-alone : goal.returns-clause-alone
returns-clause-alone c = λ a h. alone (map (λ w. w.now) c.args.words.now) a h ∙ sym c.read.ensures
