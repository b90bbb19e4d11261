-- How many mutexes a thread owns, after one of them changed.
use Rattle.std.proofs.Common.{◌≡◌, ◌≢◌, ℕ, zero, suc, ◌+◌, ◌<◌, ◌≤◌, ◌==◌, Bool, true, false, refl, ap, arith, eqb-true}
use Rattle.protocol.proofs.Vocabulary.{Object, held_by, eqb-false}
use Rattle.protocol.proofs.Objects.{one}

-- the same objects are held by the same threads
pub held_by-same : (t n : ℕ) (f g : ℕ → Object) → ((k : ℕ) → k < n → g k ≡ f k) → held_by t g n ≡ held_by t f n
held_by-same t zero f g same = refl
held_by-same t (suc n) f g same =
    let last : one t (g n) ≡ one t (f n) = ap (one t) (same n (omega arith)) in
    let before = held_by-same t n f g (λ k h. same k (omega arith)) in
    omega arith

-- where one object changed, the count changes by what that one counts
pub held_by-changed : (t n m : ℕ) (f g : ℕ → Object) → m < n → ((k : ℕ) → k ≢ m → g k ≡ f k) → held_by t g n + one t (f m) ≡ held_by t f n + one t (g m)
held_by-changed t zero m f g lt same = absurd (omega arith)
held_by-changed t (suc n) m f g lt same = go (λ below. held_by-changed t n m f g below same) (n == m) refl
  where
    go : (m < n → held_by t g n + one t (f m) ≡ held_by t f n + one t (g m)) → (b : Bool) → (n == m) ≡ b → held_by t g (suc n) + one t (f m) ≡ held_by t f (suc n) + one t (g m)
    go so_far true e =
        let is : n ≡ m = eqb-true n m e in
        let a : one t (f n) ≡ one t (f m) = ap (λ k. one t (f k)) is in
        let b : one t (g n) ≡ one t (g m) = ap (λ k. one t (g k)) is in
        let before = held_by-same t n f g (λ k h. same k (λ s. let below : k < n = h in absurd (omega arith))) in
        omega arith
    go so_far false e =
        let apart = eqb-false n m e in
        let last : one t (g n) ≡ one t (f n) = ap (one t) (same n apart) in
        let before = so_far (omega arith) in
        omega arith

-- a thread owns at least the mutexes that it owns
pub held_by-owns : (t n m : ℕ) (f : ℕ → Object) → m < n → one t (f m) ≤ held_by t f n
held_by-owns t zero m f lt = absurd (omega arith)
held_by-owns t (suc n) m f lt = go (λ below. held_by-owns t n m f below) (n == m) refl
  where
    go : (m < n → one t (f m) ≤ held_by t f n) → (b : Bool) → (n == m) ≡ b → one t (f m) ≤ held_by t f (suc n)
    go so_far true e = let is : one t (f n) ≡ one t (f m) = ap (λ k. one t (f k)) (eqb-true n m e) in omega arith
    go so_far false e = let apart = eqb-false n m e in let before = so_far (omega arith) in omega arith
