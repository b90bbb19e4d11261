-- A word that fits, and then others.
use Rattle.std.proofs.Common.{◌≡◌, ℕ, Bool, true, false, ◌&&◌, List, [], ◌∷◌, option_and_then, refl}
use Rattle.grammar.specs.declared.next.Next.{Next}
use Rattle.grammar.specs.declared.next.Next.TheVariants.{End}
use Rattle.grammar.specs.Nexts.{fitting}
use Rattle.grammar.proofs.Running.{ends, run}

pub both : (a b : Bool) → b ≡ false → (a && b) ≡ false
both true b e = e
both false b e = refl

-- after words that end a line nothing comes
pub fits_last : (b : Bool) (w : List ℕ) (ws : List (List ℕ)) → ends (option_and_then (λ n. run n (w ∷ ws)) (fitting b End)) ≡ false
fits_last true w ws = refl
fits_last false w ws = refl

pub fits_end : (b : Bool) → ends (option_and_then (λ n. run n []) (fitting b End)) ≡ b
fits_end true = refl
fits_end false = refl

-- a word that fits, and then others
pub fits_then : (b : Bool) (m : Next) (ws : List (List ℕ)) → ends (option_and_then (λ n. run n ws) (fitting b m)) ≡ (b && ends (run m ws))
fits_then true m ws = refl
fits_then false m ws = refl
