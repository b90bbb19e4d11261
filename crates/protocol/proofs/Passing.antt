-- What one event tells of releases, counts and sleeps.
use Rattle.std.proofs.Common.{⊎_elim, ◌≡◌, inl, inr, ℕ, ◌==◌, Bool, true, false, Option, Some, None, List, [], ◌∷◌, ◌++◌, map, refl, arith, ap}
use Rattle.protocol.proofs.Vocabulary.{Begun, Queue, Fact, Decision, Reply, Stepped, Walked, facts_of, moves_to, return_facts, reap_facts, if◌then◌else◌, last_begun, BeginsNone}
use Rattle.facts.specs.declared.fact.Fact.TheVariants.{Begin, Point, Sleep, Wake}
use Rattle.protocol.specs.Sleepers.{IsAmong}
use Rattle.protocol.proofs.NoteFacts.{IsOfSleep, behind_woken, behind_moved, of_access, of_walk}

-- ---- facts

abbrev is_told : Fact → Bool
is_told (Point d) = true
is_told (Sleep t q) = true
is_told f = false

none_returned : (f : Fact) (u : ℕ) (y : Option Reply) → is_told f ≡ true → IsAmong f (return_facts u y) → ⊥
none_returned f u y told h = grind (arith)

none_behind : (f : Fact) (u m : ℕ) (ws ms : List ℕ) (y : Option Reply) → is_told f ≡ true → IsAmong f (map Wake ws ++ (map (moves_to m) ms ++ return_facts u y)) → ⊥
none_behind f u m ws ms y told =
    behind_woken (λ (fs : List Fact). IsAmong f fs → ⊥) ws (map (moves_to m) ms ++ return_facts u y) (λ w fs none. ⊎_elim (λ e. cc (ap is_told e, told)) none)
    (behind_moved (λ (fs : List Fact). IsAmong f fs → ⊥) m ms (return_facts u y) (λ v fs none. ⊎_elim (λ e. cc (ap is_told e, told)) none) (none_returned f u y told))

point_same : (d e : Decision) → Point e ≡ Point d → Some e ≡ Some d
point_same d e is = cc

-- an access tells its own point, and its own sleep
pub point_noted : (d : Decision) (u m : ℕ) (x : Option Decision) (k : Option Queue) (ws ms : List ℕ) (y : Option Reply) → IsAmong (Point d) (facts_of (Stepped u m x k ws ms y)) → x ≡ Some d
point_noted d u m None None ws ms y h = absurd (none_behind (Point d) u m ws ms y refl h)
point_noted d u m None (Some q) ws ms y (inl e) = absurd cc
point_noted d u m None (Some q) ws ms y (inr h) = absurd (none_behind (Point d) u m ws ms y refl h)
point_noted d u m (Some x) k ws ms y (inl e) = point_same d x e
point_noted d u m (Some x) None ws ms y (inr h) = absurd (none_behind (Point d) u m ws ms y refl h)
point_noted d u m (Some x) (Some q) ws ms y (inr (inl e)) = absurd cc
point_noted d u m (Some x) (Some q) ws ms y (inr (inr h)) = absurd (none_behind (Point d) u m ws ms y refl h)

slept_same : (t u : ℕ) (q k : Queue) → Sleep u k ≡ Sleep t q → (u ≡ t) × (Some k ≡ Some q)
slept_same t u q k is = (cc, cc)

pub sleep_noted : (t : ℕ) (q : Queue) (u m : ℕ) (x : Option Decision) (k : Option Queue) (ws ms : List ℕ) (y : Option Reply) → IsAmong (Sleep t q) (facts_of (Stepped u m x k ws ms y)) → (u ≡ t) × (k ≡ Some q)
sleep_noted t q u m None None ws ms y h = absurd (none_behind (Sleep t q) u m ws ms y refl h)
sleep_noted t q u m None (Some k) ws ms y (inl e) = slept_same t u q k e
sleep_noted t q u m None (Some k) ws ms y (inr h) = absurd (none_behind (Sleep t q) u m ws ms y refl h)
sleep_noted t q u m (Some x) k ws ms y (inl e) = absurd cc
sleep_noted t q u m (Some x) None ws ms y (inr h) = absurd (none_behind (Sleep t q) u m ws ms y refl h)
sleep_noted t q u m (Some x) (Some k) ws ms y (inr (inl e)) = slept_same t u q k e
sleep_noted t q u m (Some x) (Some k) ws ms y (inr (inr h)) = absurd (none_behind (Sleep t q) u m ws ms y refl h)

-- a walk tells neither
pub none_walked : (f : Fact) (u : ℕ) (d : Option ℕ) (ws : List ℕ) (y : Bool) → is_told f ≡ true → IsAmong f (facts_of (Walked u d ws y)) → ⊥
none_walked f u d ws y told = of_walk (λ (fs : List Fact). IsAmong f fs → ⊥) u d ws y (λ m fs none. ⊎_elim (λ e. cc (ap is_told e, told)) none) (λ w fs none. ⊎_elim (λ e. cc (ap is_told e, told)) none) (grind (arith))

-- neither begins a call
pub record Begins_nothing (fs : List Fact) : Type 0 where
  pub none : (t : ℕ) → BeginsNone t fs
  pub same : (t : ℕ) (c : Option Begun) → last_begun t c fs ≡ c

begins_sleep : (u : ℕ) (f : Fact) (fs : List Fact) → IsOfSleep u f → Begins_nothing fs → Begins_nothing (f ∷ fs)
begins_sleep u (Sleep t q) fs of rest = record { none = rest.none; same = rest.same }
begins_sleep u (Wake w) fs of rest = record { none = rest.none; same = rest.same }
begins_sleep u (Fact.Move v m) fs of rest = record { none = rest.none; same = rest.same }
begins_sleep u f fs of rest = absurd of

pub begins_stepped : (u m : ℕ) (x : Option Decision) (k : Option Queue) (ws ms : List ℕ) (y : Option Reply) → Begins_nothing (facts_of (Stepped u m x k ws ms y))
begins_stepped u m x k ws ms y = of_access Begins_nothing u m x k ws ms y (λ e fs rest. record { none = rest.none; same = rest.same }) (λ f of fs rest. begins_sleep u f fs of rest) (returned y)
  where
    returned : (z : Option Reply) → Begins_nothing (return_facts u z)
    returned None = record { none = λ t. tt; same = λ t c. refl }
    returned (Some x) = record { none = λ t. tt; same = λ t c. refl }

pub begins_walked : (u : ℕ) (d : Option ℕ) (ws : List ℕ) (y : Bool) → Begins_nothing (facts_of (Walked u d ws y))
begins_walked u d ws y = of_walk Begins_nothing u d ws y (λ m fs rest. record { none = rest.none; same = rest.same }) (λ w fs rest. record { none = rest.none; same = rest.same }) (reaped y)
  where
    reaped : (b : Bool) → Begins_nothing (reap_facts u b)
    reaped false = record { none = λ t. tt; same = λ t c. refl }
    reaped true = record { none = λ t. tt; same = λ t c. refl }

-- so facts that follow each other
pub last_begun-append : (t : ℕ) (c : Option Begun) (fs gs : List Fact) → last_begun t c (fs ++ gs) ≡ last_begun t (last_begun t c fs) gs
last_begun-append t c [] gs = refl
last_begun-append t c (Begin u b ∷ fs) gs = last_begun-append t (if u == t then Some b else c) fs gs
last_begun-append t c (f ∷ fs) gs = last_begun-append t c fs gs

pub begins_first : (t : ℕ) (fs gs : List Fact) → BeginsNone t (fs ++ gs) → BeginsNone t fs
begins_first t [] gs h = tt
begins_first t (Begin u b ∷ fs) gs h = (h.0, begins_first t fs gs h.1)
begins_first t (f ∷ fs) gs h = begins_first t fs gs h

pub begins_later : (t : ℕ) (fs gs : List Fact) → BeginsNone t (fs ++ gs) → BeginsNone t gs
begins_later t [] gs h = h
begins_later t (Begin u b ∷ fs) gs h = begins_later t fs gs h.1
begins_later t (f ∷ fs) gs h = begins_later t fs gs h
