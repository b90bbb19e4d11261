-- What keeps a machine fresh.
use Rattle.std.proofs.Common.{◌≡◌, Bool, true, false, ◌&&◌, List, [], ◌∷◌, ◌++◌, refl, ap, sym, ◌∙◌}
use Rattle.protocol.specs.declared.note.Note.{Note}
use Rattle.interleave.specs.Notes.{is_nothing, are_nothing}

and_true : (a : Bool) → (a && true) ≡ a
and_true true = refl
and_true false = refl

and_assoc : (a b c : Bool) → ((a && b) && c) ≡ (a && (b && c))
and_assoc true b c = refl
and_assoc false b c = refl

nothing_more : (ns : List Note) (n : Note) → are_nothing (ns ++ n ∷ []) ≡ (are_nothing ns && is_nothing n)
nothing_more [] n = and_true (is_nothing n)
nothing_more (m ∷ ns) n = ap (λ (b : Bool). is_nothing m && b) (nothing_more ns n) ∙ sym (and_assoc (is_nothing m) (are_nothing ns) (is_nothing n))

-- one event more
pub stays_fresh : (first : Bool) (ns : List Note) (n : Note) (now after : Bool) → now ≡ (first && are_nothing ns) → after ≡ (now && is_nothing n) → after ≡ (first && are_nothing (ns ++ n ∷ []))
stays_fresh first ns n now after before step =
    step ∙ ap (λ (b : Bool). b && is_nothing n) before ∙ and_assoc first (are_nothing ns) (is_nothing n) ∙ ap (λ (b : Bool). first && b) (sym (nothing_more ns n))
