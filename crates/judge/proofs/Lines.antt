-- What a history's lines say, with one line more.
use Rattle.std.proofs.Common.{◌≡◌, List, [], ◌∷◌, ◌++◌, reverse, ap, ◌∙◌}
use Rattle.std.proofs.lemmas.List.{map-append, reverse-append}
use Rattle.histories.specs.declared.entry.HistoryLine.{HistoryLine}
use Rattle.certificates.specs.Certificates.{entries}

pub entries-push : (ls : List HistoryLine) (l : HistoryLine) → reverse (entries (ls ++ l ∷ [])) ≡ l.entry ∷ reverse (entries ls)
entries-push ls l = ap reverse (map-append (λ (x : HistoryLine). x.entry) ls (l ∷ [])) ∙ reverse-append (entries ls) (l.entry ∷ [])

pub pushed : (ls ks ms : List HistoryLine) (l : HistoryLine) → ks ≡ ls → ms ≡ ks ++ l ∷ [] → reverse (entries ms) ≡ l.entry ∷ reverse (entries ls)
pushed ls ks ms l same more = ap (λ (xs : List HistoryLine). reverse (entries xs)) (more ∙ ap (λ (xs : List HistoryLine). xs ++ l ∷ []) same) ∙ entries-push ls l
