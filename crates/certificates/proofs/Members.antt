-- Which calls are named: of all threads each that still waits and shouldn't, and no other.
use Rattle.std.proofs.Common.{◌≡◌, ℕ, zero, suc, ◌+◌, ◌<◌, ◌≤◌, List, [], ◌∷◌, ◌++◌, reverse, Option, Some, None, ◌⊎◌, ⊎_elim, inl, inr, sym, ap, subst, ◌∙◌, arith}
use Rattle.std.specs.List.{Contains}
use Rattle.std.proofs.lemmas.Bool.{cases_lt}
use Rattle.std.proofs.lemmas.List.Elements.{Contains-append_cases, Contains-append_left, Contains-push}
use Rattle.histories.specs.declared.entry.Entry.{Entry}
use Rattle.histories.specs.Limits.{max_threads}
use Rattle.certificates.specs.declared.waiting.Waiter.{Waiter}
use Rattle.certificates.specs.Laws.{NamedCallsAreStuck, StuckCallsAreNamed}
use Rattle.certificates.specs.Waiters.{added, waiter_of, waiters_to}
use Rattle.certificates.proofs.Naming.{of_stuck, of_waiter}

single : (v w : Waiter) → Contains (v ∷ []) w → v ≡ w
single v w (zero, few, is) = is
single v w (suc k, few, is) = absurd (omega (arith, few))

from_added : (ws : List Waiter) (o : Option Waiter) (w : Waiter) → Contains (added ws o) w → Contains ws w ⊎ (o ≡ Some w)
from_added ws None w h = inl h
from_added ws (Some v) w h = ⊎_elim (λ old. inl old) (λ new. inr (ap (λ (x : Waiter). Some x) (single v w new))) (Contains-append_cases ws (v ∷ []) w h)

still : (ws : List Waiter) (o : Option Waiter) (w : Waiter) → Contains ws w → Contains (added ws o) w
still ws None w h = h
still ws (Some v) w h = Contains-append_left ws (v ∷ []) w h

last : (ws : List Waiter) (o : Option Waiter) (w : Waiter) → o ≡ Some w → Contains (added ws o) w
last ws o w is = subst (λ (p : Option Waiter). Contains (added ws p) w) (sym is) (Contains-push ws w)

pub of_member : (n : ℕ) (es : List Entry) (w : Waiter) → Contains (waiters_to n es) w → (t : ℕ) × (waiter_of t es ≡ Some w)
unfolding waiters_to
of_member zero es w (k, few, is) = absurd (omega (arith, few))
of_member (suc n) es w h = ⊎_elim (λ old. of_member n es w old) (λ new. (suc n, new)) (from_added (waiters_to n es) (waiter_of (suc n) es) w h)

member : (n t : ℕ) (es : List Entry) (w : Waiter) → 0 < t → t ≤ n → waiter_of t es ≡ Some w → Contains (waiters_to n es) w
unfolding waiters_to
member zero t es w some few is = absurd (omega (arith, some, few))
member (suc n) t es w some few is =
    ⊎_elim (λ less. still (waiters_to n es) (waiter_of (suc n) es) w (member n t es w some (omega (arith, less)) is))
    (λ more.
    let same : suc n ≡ t = omega (arith, more, few) in
    last (waiters_to n es) (waiter_of (suc n) es) w (ap (λ (u : ℕ). waiter_of u es) same ∙ is))
    (cases_lt t (suc n))

pub named_are_stuck : NamedCallsAreStuck
named_are_stuck n history steps w certificate named =
    let of = of_member max_threads (reverse steps) w named in
    of_waiter n of.0 history steps w certificate of.1

pub stuck_are_named : StuckCallsAreNamed
stuck_are_named t steps c some few stuck alive =
    let of = of_stuck t steps c stuck alive in
    (of.0, of.1, member max_threads t (reverse steps) of.0 some few of.2)
