-- What words say of a list, whoever reads them.
use Rattle.std.specs.Prelude.{ℕ, ◌≡◌, List, []}
use Rattle.memorymap.specs.Chains.{IsChain, IsChainBothWays}

-- a head leads over one list at most
abbrev pub ChainsAreUnique : Type 0
ChainsAreUnique = (w : ℕ → ℕ) (h : ℕ) (es ds : List ℕ) → IsChain w h es → IsChain w h ds → ds ≡ es

-- a head whose first word is its own address has an empty list, a chain both ways
abbrev pub HeadsBeginEmpty : Type 0
HeadsBeginEmpty = (w : ℕ → ℕ) (h : ℕ) → w h ≡ h → IsChainBothWays w h []
