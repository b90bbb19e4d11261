-- Layouts of processes, places found by their addresses, and writes seen from a base.
use Rattle.std.proofs.Common.{◌≡◌, ℕ, zero, suc, ◌<◌, ◌≤◌, ◌==◌, Bool, true, false, List, [], ◌∷◌, length, get_or, Result, Ok, Err, if◌then◌else◌, refl, sym, ap, ◌∙◌, subst, arith, eqb-true}
use Rattle.std.proofs.lemmas.Bool.{eqb-false}
use Rattle.std.specs.Prelude.{◌^◌, ◌&&◌, nat_le, nat_lt, replicate, IsTrue}
use Rattle.std.proofs.lemmas.Bool.Decides.{nat_tests}
use Rattle.std.proofs.lemmas.Grind.{common_steps}
use Rattle.std.proofs.lemmas.List.{length-replicate}
use Rattle.memorymap.specs.Addresses.{address_from, seen_at, WritesAreSeen}
use Rattle.memorymap.specs.Layouts.{HasThreads, HasThreadsTo, HasMutexes, HasConditions, HasBases, AreOf, IsLayout, one_process}
use Rattle.memorymap.specs.Refusals.{Lays, LaysOver}
use Rattle.memorymap.specs.declared.layout.Layout.{Layout}
use Rattle.memorymap.specs.declared.layout.LayoutFault.{LayoutFault}
use Rattle.memorymap.specs.declared.layout.LayoutFault.TheVariants.{Threads, Mutexes, Conditions, Processes, Bases, Members}

pub seen_again : (base p : ℕ) → base ≤ 1000000000 → p < 2 ^ 64 → seen_at base (address_from base p) ≡ p
seen_again base p low small = omega arith

inside : (words p : ℕ) → IsTrue (nat_le 1 p && nat_lt p words) → (1 ≤ p) × (p < words)
inside words p is = grind (arith, nat_tests)

-- the place of an address is found
pub found : (base words p at place : ℕ) → base ≤ 1000000000 → words < 2 ^ 16 → IsTrue (nat_le 1 p && nat_lt p words) → address_from base p ≡ at → place ≡ seen_at base at → (1 ≤ place) × (place < words)
found base words p at place low small is from there =
    let bounds = inside words p is in
    let again : place ≡ p = there ∙ ap (seen_at base) (sym from) ∙ seen_again base p low (omega (arith, bounds.1)) in
    subst (λ (q : ℕ). (1 ≤ q) × (q < words)) (sym again) bounds

one_zero : (i d : ℕ) → i < 1 → get_or (0 ∷ []) i d ≡ 0
one_zero zero d lt = refl
one_zero (suc i) d lt = absurd (omega arith)

zeros : (t i d : ℕ) → i < length {A = ℕ} (replicate t 0) → get_or (replicate t 0) i d ≡ 0
zeros t i d lt = grind (arith, common_steps)

one_base : HasBases (0 ∷ [])
one_base i d lt = subst (λ (b : ℕ). b ≤ 1000000000) (sym (one_zero i d lt)) (omega arith)

one_member : (t : ℕ) → AreOf (0 ∷ []) (replicate t 0)
one_member t i d lt = subst (λ (p : ℕ). p < 1) (sym (zeros t i d lt)) (omega arith)

-- what may be laid out in one process that maps the words at 0 is a layout
pub one_layout : (t m : ℕ) (cs : List ℕ) → HasThreads t → HasMutexes m → HasConditions m cs → IsLayout (one_process t m cs)
one_layout t m cs threads mutexes conditions = record {
  threads = threads;
  mutexes = mutexes;
  conditions = conditions;
  each = length-replicate t 0;
  processes = (omega arith, omega arith);
  bases = one_base;
  members = one_member t;
}

-- and there it is no fault
pub lays_one : (most t m : ℕ) (cs ps bs : List ℕ) (r : Result Layout LayoutFault) → ps ≡ replicate t 0 → bs ≡ 0 ∷ [] → LaysOver most ps bs m cs r → Lays most t m cs r
lays_one most t m cs ps bs r is base h = go r (subst (λ (xs : List ℕ). LaysOver most xs (0 ∷ []) m cs r) is (subst (λ (xs : List ℕ). LaysOver most ps xs m cs r) base h))
  where
    long : length {A = ℕ} (replicate t 0) ≡ t
    long = length-replicate t 0

    few : HasThreadsTo most (length {A = ℕ} (replicate t 0)) → HasThreadsTo most t
    few = subst (HasThreadsTo most) long

    go : (r : Result Layout LayoutFault) → LaysOver most (replicate t 0) (0 ∷ []) m cs r → Lays most t m cs r
    go (Ok l) h = (few h.0.0, h.0.1, h.0.2, h.4 ∙ ap (λ (n : ℕ). record { threads = n; mutexes = m; conditions = cs; processes = replicate t 0; bases = 0 ∷ [] }) long)
    go (Err Threads) h = λ has. h (subst (HasThreadsTo most) (sym long) has)
    go (Err Mutexes) h = (few h.0, h.1)
    go (Err Conditions) h = (few h.0, h.1, h.2)
    go (Err Processes) h = absurd (h.1 (omega arith, omega arith))
    go (Err Bases) h = absurd (h.2 one_base)
    go (Err Members) h = absurd (h.3 (one_member t))

-- ---- words as they are seen from a base

-- no two addresses are one place
seen_apart : (base a b : ℕ) → base < 2 ^ 64 → a < 2 ^ 64 → b < 2 ^ 64 → seen_at base a ≡ seen_at base b → a ≡ b
seen_apart base a b low small other same = omega (arith, low, small, other, same)

pub writes_seen : WritesAreSeen
writes_seen base w a v x low small other = go (seen_at base x == seen_at base a) refl (x == a) refl
  where
    go : (p : Bool) → (seen_at base x == seen_at base a) ≡ p → (q : Bool) → (x == a) ≡ q → (if p then v else w (seen_at base x)) ≡ (if q then v else w (seen_at base x))
    go true e true f = refl
    go false e false f = refl
    go true e false f = absurd (eqb-false x a f (seen_apart base x a low other small (eqb-true (seen_at base x) (seen_at base a) e)))
    go false e true f = absurd (eqb-false (seen_at base x) (seen_at base a) e (ap (seen_at base) (eqb-true x a f)))
