-- How many mutexes a thread holds, by who owns them.
use Rattle.std.proofs.Common.{Bool, false, ◌≡◌, ◌≢◌, ℕ, zero, suc, ◌<◌, List, [], ap, sym, ◌∙◌, arith}
use Rattle.std.specs.Prelude.{if◌then◌else◌}
use mathlib.Core.Logic.{dite}
use native.Mathlib.Decide.{ℕ_discrete}
use Rattle.posixmutex.specs.declared.point.Point.{Point}
use Rattle.posixmutex.specs.declared.object.Object.{Object}
use Rattle.posixmutex.specs.Histories.{is_thread, held_by}
use Rattle.memorymap.specs.Layouts.{Layout', cell_place}
use Rattle.ruledwords.specs.Cards.{at, put}
use Rattle.ruledwords.specs.Seen.{holds, count_held}
use Rattle.ruledwords.proofs.Held.{count_changed, count_same}
use Rattle.ruledwords.proofs.Lists.{at_put, at_put_else}

abbrev one : Bool → ℕ
one b = if b then 1 else 0

cells_apart : (k : Layout') (m l : ℕ) → m ≢ l → cell_place k m ≢ cell_place k l
cells_apart k m l apart e = apart (omega (arith, e))

-- lists in which the thread holds nothing but the first n mutexes, of which it holds those that it owns
pub counts_owned : (k : Layout') (t : ℕ) (os : ℕ → Object) (n : ℕ) (xs : List (List Point)) → ((p : ℕ) → ((m : ℕ) → m < n → p ≢ cell_place k m) → holds t (at xs p) ≡ false) → ((m : ℕ) → m < n → holds t (at xs (cell_place k m)) ≡ is_thread t (os m).owner) → count_held t xs ≡ held_by t os n
counts_owned k t os zero xs none its = count_same t xs [] (λ p. none p (λ m low. absurd (omega (arith, low))))
counts_owned k t os (suc n) xs none its =
    let p : ℕ = cell_place k n in
    let ys : List (List Point) = put xs p [] in
    let else_same : (q : ℕ) → q ≢ p → at ys q ≡ at xs q = λ q other. at_put_else xs p q [] other in
    let changed = count_changed t xs ys p (λ q other. ap (holds t) (sym (else_same q other))) in
    let gone : one (holds t (at ys p)) ≡ 0 = ap (λ (l : List Point). one (holds t l)) (at_put xs p []) in
    let here : one (holds t (at xs p)) ≡ one (is_thread t (os n).owner) = ap one (its n (omega arith)) in
    let rest : count_held t ys ≡ held_by t os n = counts_owned k t os n ys
    (λ q apart. dite (ℕ_discrete q p)
    (λ same. ap (λ (z : ℕ). holds t (at ys z)) same ∙ ap (holds t) (at_put xs p []))
    (λ other. ap (holds t) (else_same q other) ∙ none q (λ m low e. dite (ℕ_discrete m n) (λ same. other (e ∙ ap (cell_place k) same)) (λ differ. apart m (omega (arith, low, differ)) e))))
    (λ m low. ap (holds t) (else_same (cell_place k m) (cells_apart k m n (omega (arith, low)))) ∙ its m (omega (arith, low))) in
    omega (arith, changed, gone, here, rest)
