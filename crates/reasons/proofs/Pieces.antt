-- Pieces of a text, one after the other.
use Rattle.std.proofs.Common.{◌≡◌, ℕ, ◌+◌, ◌<◌, List, [], ◌∷◌, ◌++◌, length, get_or, map, take, sym, ap, ◌∙◌, append_assoc, append-nil}
use Rattle.std.specs.List.{concat}
use Rattle.std.proofs.lemmas.List.{map-append, take_more}
use Rattle.std.proofs.lemmas.List.Folds.{concat-append}

pub one_piece : {A : Type 0} (f : A → List ℕ) (ps : List A) (i : ℕ) (d : A) (old before after : List ℕ) (piece : List ℕ) → i < length ps → before ≡ old ++ concat (map f (take i ps)) → piece ≡ f (get_or ps i d) → after ≡ before ++ piece → after ≡ old ++ concat (map f (take (i + 1) ps))
one_piece f ps i d old before after piece lt h is e =
    e ∙ ap (λ p. before ++ p) is ∙ ap (λ t. t ++ f (get_or ps i d)) h ∙ append_assoc old (concat (map f (take i ps))) (f (get_or ps i d))
    ∙ sym (ap (λ l. old ++ concat (map f l)) (take_more ps i d lt) ∙ ap (λ l. old ++ concat l) (map-append f (take i ps) (get_or ps i d ∷ [])) ∙ ap (λ l. old ++ l) (concat-append (map f (take i ps)) (f (get_or ps i d) ∷ []) ∙ ap (λ l. concat (map f (take i ps)) ++ l) (append-nil (f (get_or ps i d)))))
