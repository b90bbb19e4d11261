-- Cases that many proofs go through.
use Rattle.std.proofs.Common.{◌≡◌, ◌≢◌, ℕ, ◌<◌, ◌==◌, Bool, true, false, Some, refl, sym, ap, subst, eqb-true, arith}
use Rattle.protocol.proofs.Vocabulary.{Layout', cell_place, fields_of, object_of, fresh, if◌then◌else◌, nat_lt, nat_tests, eqb-false}

-- two numbers are one, or they aren't
pub by_same : {A : Type 0} (j k : ℕ) → (j ≡ k → A) → (j ≢ k → A) → A
by_same {A} j k equal apart = go (j == k) refl
  where
    go : (b : Bool) → (j == k) ≡ b → A
    go true e = equal (eqb-true j k e)
    go false e = apart (eqb-false j k e)

-- what is chosen by that
pub by_equal : {A : Type 0} (P : A → Type 0) (j k : ℕ) (x y : A) → (j ≡ k → P x) → (j ≢ k → P y) → P (if j == k then x else y)
by_equal P j k x y equal apart = go (j == k) refl
  where
    go : (b : Bool) → (j == k) ≡ b → P (if b then x else y)
    go true e = equal (eqb-true j k e)
    go false e = apart (eqb-false j k e)

-- what holds of m, and of k where that is another, holds of k
pub at_or_else : (P : ℕ → Type 0) (m k : ℕ) → P m → (k ≢ m → P k) → P k
at_or_else P m k here apart = by_same k m (λ is. subst P (sym is) here) apart

-- one thread, or mutex, in two ways
pub some_same : (i j : ℕ) → Some i ≡ Some j → i ≡ j
some_same i j e = cc

-- words that have the same cell of a mutex have the same mutex
pub same_object : (l : Layout') (v w : ℕ → ℕ) (k : ℕ) → (k < l.mutexes → w (cell_place l k) ≡ v (cell_place l k))
    → (if nat_lt k l.mutexes then object_of (fields_of (w (cell_place l k))) else fresh) ≡ (if nat_lt k l.mutexes then object_of (fields_of (v (cell_place l k))) else fresh)
same_object l v w k same = go (nat_lt k l.mutexes) refl
  where
    go : (b : Bool) → nat_lt k l.mutexes ≡ b → (if b then object_of (fields_of (w (cell_place l k))) else fresh) ≡ (if b then object_of (fields_of (v (cell_place l k))) else fresh)
    go true e = ap (λ (x : ℕ). object_of (fields_of x)) (same (grind (arith, nat_tests)))
    go false e = refl
