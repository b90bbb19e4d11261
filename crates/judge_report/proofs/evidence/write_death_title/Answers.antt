use Rattle.std.proofs.Common.{◌≡◌, ℕ, [], ◌∷◌, codes, ap₂, subst, rules}
use Rattle.std.specs.Prelude.{decimal}
use Rattle.std.specs.List.{concat}
use Rattle.streams.specs.Leaves.{Leaves}
use Rattle.judge_report.specs.Texts.{entry_thread}
use Rattle.judge_report.proofs.evidence.write_death_title.Goals as goal

pub returns : goal.returns
returns g c =
    let l = c.args.line.now in
    let thread : c.into.result ≡ entry_thread l.entry = search rules in
    let mutex : c.into-2.result ≡ c.args.mutex = search rules in
    subst (Leaves (g.W.Write.contents c.args.out.now) (g.W.Write.contents c.put_pieces.new.out) c.put_pieces.result)
    (ap₂ (λ (t m : ℕ). concat (codes "  = see line " ∷ decimal l.number ∷ codes " (event " ∷ decimal l.event ∷ codes "): t" ∷ decimal t ∷ codes " may have owned m" ∷ decimal m ∷ codes " when it died\n" ∷ [])) thread mutex)
    c.put_pieces.ensures
