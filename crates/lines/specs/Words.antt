-- The words of a line as the code cuts them.
use Rattle.std.specs.Prelude.{ℕ, ◌≡◌, ◌<◌, List, [], ◌∷◌, length}
use Rattle.lines.specs.declared.words.Words.{Words}
use Rattle.lines.specs.declared.words.Words.TheVariants.{One, Two, Three, Four, Five, Six, Many}

-- these are the words; of more than six it is only said that there are this many
abbrev pub AreWords : List (List ℕ) → Words → Type 0
AreWords ws (One a) = ws ≡ a.now ∷ []
AreWords ws (Two a b) = ws ≡ a.now ∷ b.now ∷ []
AreWords ws (Three a b c) = ws ≡ a.now ∷ b.now ∷ c.now ∷ []
AreWords ws (Four a b c d) = ws ≡ a.now ∷ b.now ∷ c.now ∷ d.now ∷ []
AreWords ws (Five a b c d e) = ws ≡ a.now ∷ b.now ∷ c.now ∷ d.now ∷ e.now ∷ []
AreWords ws (Six a b c d e f) = ws ≡ a.now ∷ b.now ∷ c.now ∷ d.now ∷ e.now ∷ f.now ∷ []
AreWords ws Many = 6 < length ws
