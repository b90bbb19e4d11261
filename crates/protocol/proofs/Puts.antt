-- A function with one new value.
use Rattle.std.proofs.Common.{◌≡◌, ◌≢◌, ℕ, refl}
use Rattle.protocol.proofs.Vocabulary.{put}
use Rattle.protocol.proofs.Cases.{by_equal}

-- what holds of the new value, and of each other one, holds of each
pub by_put : {A : Type 0} (P : A → Type 0) (f : ℕ → A) (k : ℕ) (x : A) (j : ℕ) → (j ≡ k → P x) → (j ≢ k → P (f j)) → P (put f k x j)
by_put P f k x j here there = by_equal P j k x (f j) here there

-- the new value is there
pub put-same : {A : Type 0} (f : ℕ → A) (k : ℕ) (x : A) → put f k x k ≡ x
put-same f k x = by_put (λ v. v ≡ x) f k x k (λ is. refl) (λ apart. absurd (apart refl))

-- the others stay
pub put-other : {A : Type 0} (f : ℕ → A) (k : ℕ) (x : A) (j : ℕ) → j ≢ k → put f k x j ≡ f j
put-other f k x j apart = by_put (λ v. v ≡ f j) f k x j (λ is. absurd (apart is)) (λ other. refl)
