-- What a trim does meets its meaning.
use Rattle.std.proofs.Common.{◌≡◌, ℕ, Bool, true, false, List, [], ◌∷◌, refl, eq-eqb, eqb-true}
use Rattle.std.specs.Prelude.{◌==◌, ◌&&◌, if◌then◌else◌}
use Rattle.lockword.specs.Cells.{waiters_alone}
use Rattle.stepprograms.specs.Accesses.{is_nobody, is_trimmed, Trims, TrimsAreRight}

-- by the test of the word
trimmed : (w : ℕ) (queue : List ℕ) (b : Bool) → (w == waiters_alone) ≡ b → Trims w queue (if b && is_nobody queue then 0 else w) (b && is_nobody queue)
trimmed w [] true e = record { answer = (λ is. (eqb-true w waiters_alone e, refl), λ both. refl); cleared = λ is. refl; kept = λ is. absurd cc }
trimmed w (t ∷ ts) true e = record { answer = (λ is. absurd cc, λ both. absurd cc); cleared = λ is. absurd cc; kept = λ is. refl }
trimmed w queue false e = record { answer = (λ is. absurd cc, λ both. absurd (cc (e, eq-eqb w waiters_alone both.0))); cleared = λ is. absurd cc; kept = λ is. refl }

pub right : TrimsAreRight
right at w queue = (is_trimmed w queue, refl, trimmed w queue (w == waiters_alone) refl)

-- a word that is trimmed says nothing but that somebody may sleep on it
pub trims_free : (w : ℕ) (queue : List ℕ) → is_trimmed w queue ≡ true → w ≡ waiters_alone
trims_free w queue is = go (w == waiters_alone) refl is
  where
    go : (b : Bool) → (w == waiters_alone) ≡ b → (b && is_nobody queue) ≡ true → w ≡ waiters_alone
    go true e both = eqb-true w waiters_alone e
    go false e both = absurd cc

-- and nobody sleeps on it
pub trims_unslept : (w : ℕ) (queue : List ℕ) → is_trimmed w queue ≡ true → queue ≡ []
trims_unslept w queue is = go (w == waiters_alone) queue is
  where
    go : (b : Bool) (q : List ℕ) → (b && is_nobody q) ≡ true → q ≡ []
    go true [] both = refl
    go true (t ∷ ts) both = absurd cc
    go false q both = absurd cc
