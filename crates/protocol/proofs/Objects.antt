-- What the object's steps keep.
use Rattle.std.proofs.Common.{None, ◌≡◌, ◌≢◌, ◌⊎◌, ℕ, ◌+◌, ◌≤◌, Bool, Option, Some, refl, ap, ◌∙◌, arith, eq-eqb}
use Rattle.protocol.proofs.Vocabulary.{Operation, Object, Permits, Reply, held_after, if◌then◌else◌}
use Rattle.posixmutex.specs.Histories.{is_thread}

-- 1 where the thread owns it
abbrev pub one : ℕ → Object → ℕ
one t o = if is_thread t o.owner then 1 else 0

-- a free mutex counts for nobody
pub one-none : (t : ℕ) (o : Object) → o.owner ≡ None → one t o ≡ 0
one-none t o e = ap (λ (w : Option ℕ). if is_thread t w then 1 else 0) e

-- an owned mutex counts for its owner
pub one-own : (t : ℕ) (o : Object) → o.owner ≡ Some t → one t o ≡ 1
one-own t o e = ap (λ (w : Option ℕ). if is_thread t w then 1 else 0) e ∙ ap (λ (b : Bool). if b then 1 else 0) (eq-eqb t t refl)

-- how a point of thread t changes how many mutexes t owns, which were h
pub mine : (o n : Object) (t h : ℕ) (op : Operation) (x : Reply) → one t o ≤ h → Permits o t op x n → held_after h op (Some x) + one t o ≡ h + one t n
mine o n t h op x le p = grind (arith)

-- it doesn't change how many another thread owns
pub others : (o n : Object) (t u : ℕ) (op : Operation) (x : Reply) → t ≢ u → Permits o t op x n → one u n ≡ one u o
others o n t u op x apart p = grind (arith)

-- an owner owned it before, or is the thread of the point
pub owners : (o n : Object) (t u : ℕ) (op : Operation) (x : Reply) → Permits o t op x n → n.owner ≡ Some u → (o.owner ≡ Some u) ⊎ (u ≡ t)
owners o n t u op x p e = grind (arith)
