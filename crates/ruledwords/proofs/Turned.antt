-- From what a step tells of a seat to what it tells of its card.
use Rattle.std.proofs.Common.{◌≡◌, ℕ, List, [], ◌∷◌, ◌++◌, sym, ap, ◌∙◌, subst}
use Rattle.atomic_table.specs.Table.{Allows}
use Rattle.memorymap.specs.Layouts.{Layout'}
use Rattle.ruledwords.specs.declared.pass.Card.{Card}
use Rattle.ruledwords.specs.Seen.{Joined}
use Rattle.ruledwords.specs.Rules.{Kept, Turns, card_of, IsOne}
use Rattle.ruledwords.proofs.Moves.{Sat}

pub turned : (me me' : Sat) (tells : Card → Card → Type 0) → IsOne me → Turns me me' tells → IsOne me' × tells (card_of me.0) (card_of me'.0)
turned me me' tells one t = let d = t (card_of me.0) one in let same = ap (λ (m : Sat). card_of m.0) d.1 in
    (d.1 ∙ ap (λ (z : Card). (z ∷ [], [])) (sym same), subst (λ (z : Card). tells (card_of me.0) z) (sym same) d.2)

-- a step that a seat with one card may make, at the view that it has
pub at_one : {o : List ℕ} (key k : Layout') (slots id place p : ℕ) (me : Sat) (f : ℕ → ℕ) (tells : ℕ → Sat → ℕ → Sat → Type 0) → key ≡ k → place ≡ p → IsOne me
    → Allows (Kept k o) slots id (card_of me.0 ∷ [], []) p f (tells p (card_of me.0 ∷ [], [])) → Allows (Kept key o) slots id me place f (tells place me)
at_one {o} key k slots id place p me f tells same here one h =
    subst (λ (z : Layout' × ℕ × Sat). Allows (Kept z.0 o) slots id z.2 z.1 f (tells z.1 z.2)) (λ i. (sym same i, sym here i, sym one i)) h

pub paired : (a b m : Sat) → IsOne a → IsOne b → m ≡ (a.0 ++ b.0, a.1) → m ≡ (card_of a.0 ∷ card_of b.0 ∷ [], [])
paired a b m x y e = e ∙ λ i. ((x i).0 ++ (y i).0, (x i).1)

pub is_one : (m : Sat) (c : Card) → m ≡ (c ∷ [], []) → IsOne m × (card_of m.0 ≡ c)
is_one m c e = let same = ap (λ (z : Sat). card_of z.0) e in (e ∙ ap (λ (z : Card). (z ∷ [], [])) (sym same), same)

pub at_two : {o : List ℕ} (key : Layout') (slots id place : ℕ) (me : Sat) (c d : Card) (f : ℕ → ℕ) (tells : Sat → ℕ → Sat → Type 0) → me ≡ (c ∷ d ∷ [], [])
    → Allows (Kept key o) slots id (c ∷ d ∷ [], []) place f (tells (c ∷ d ∷ [], [])) → Allows (Kept key o) slots id me place f (tells me)
at_two {o} key slots id place me c d f tells is h = subst (λ (z : Sat). Allows (Kept key o) slots id z place f (tells z)) (sym is) h

pub parted : (c d c' d' x y : Card) → x ≡ c' → y ≡ d' → Joined c d c' d' → Joined c d x y
parted c d c' d' x y e f m = subst (λ (z : Card × Card). Joined c d z.0 z.1) (λ i. (sym e i, sym f i)) m
