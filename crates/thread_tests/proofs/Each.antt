use Rattle.std.proofs.Common.{◌≡◌, ℕ, zero, suc, ◌<◌, List, [], ◌∷◌, ◌++◌, length, slice_index_or, ap, ◌∙◌, subst, arith}
use Rattle.threadbench.specs.Each.{EachWith}

-- of a list of one item
pub all_one : {A : Type 0} (P : A → Type 0) (x : A) → P x → (k : ℕ) (d : A) → k < length (x ∷ []) → P (slice_index_or (x ∷ []) k d)
all_one P x one zero d lt = one
all_one P x one (suc k) d lt = absurd (omega (arith, lt))

-- of a list of two items
pub all_two : {A : Type 0} (P : A → Type 0) (x y : A) → P x → P y → (k : ℕ) (d : A) → k < length (x ∷ y ∷ []) → P (slice_index_or (x ∷ y ∷ []) k d)
all_two P x y one two zero d lt = one
all_two P x y one two (suc zero) d lt = two
all_two P x y one two (suc (suc k)) d lt = absurd (omega (arith, lt))

-- of two lists that go item by item, of which the first has two: the second one's last two
module _ {A B : Type 0} (P : A → B → Type 0) (a b : A) (x y : B) where
  none_more : (us : List B) → EachWith P [] (us ++ y ∷ []) → ⊥
  none_more [] each = each
  none_more (u ∷ us) each = each

  last_two : (zs : List B) → EachWith P (a ∷ b ∷ []) ((zs ++ x ∷ []) ++ y ∷ []) → P a x × P b y
  last_two [] each = (each.0, each.1.0)
  last_two (z ∷ []) each = absurd each.1.1
  last_two (z ∷ w ∷ zs) each = absurd (none_more (zs ++ x ∷ []) each.1.1)

  pub both_last : (rs ys zs : List B) → rs ≡ ys ++ y ∷ [] → ys ≡ zs ++ x ∷ [] → EachWith P (a ∷ b ∷ []) rs → P a x × P b y
  both_last rs ys zs e f each = last_two zs (subst (EachWith P (a ∷ b ∷ [])) (e ∙ ap (λ (us : List B). us ++ y ∷ []) f) each)
