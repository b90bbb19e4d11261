-- Queues, and what an access does to them.
use Rattle.std.proofs.Common.{◌≡◌, ◌≢◌, ◌⊎◌, ⊎_elim, inl, ℕ, zero, suc, ◌≤◌, ◌==◌, ◌%◌, ◌^◌, Bool, true, false, List, [], ◌∷◌, ◌++◌, take, drop, refl, sym, ap, ◌∙◌, subst, arith, eqb-true}
use Rattle.protocol.proofs.Vocabulary.{Access, sleeps_at, Layout', put, queue_after, woken_by, moved_by, joined, stands_in, if◌then◌else◌, not, eqb-false, stands_at, place_in}
use Rattle.buckets.specs.Queues.{without}
use Rattle.protocol.proofs.Puts.{by_put, put-same, put-other}
use Rattle.protocol.proofs.Steps.{IsNoMove, moves_none, joined_none}
use Rattle.protocol.proofs.Cases.{by_same}

-- ---- lists of threads

-- nobody stands in it twice
abbrev pub Once : List ℕ → Type 0
Once [] = Unit {0}
Once (u ∷ us) = (stands_in u us ≡ false) × Once us

pub stands_last : (t : ℕ) (q : List ℕ) → stands_in t (q ++ t ∷ []) ≡ true
stands_last t [] = grind (arith)
stands_last t (u ∷ us) = grind (arith, stands_last t us)

-- whoever stands in a queue that t came to is t, or was there
stands_before : (u t : ℕ) (q : List ℕ) → stands_in u (q ++ t ∷ []) ≡ true → (stands_in u q ≡ true) ⊎ (u ≡ t)
stands_before u t [] = grind (arith)
stands_before u t (v ∷ vs) = grind (arith, stands_before u t vs)

-- whoever stands in the rest of a queue stands in it
pub stands_rest : (u n : ℕ) (q : List ℕ) → stands_in u (drop n q) ≡ true → stands_in u q ≡ true
stands_rest u zero q h = h
stands_rest u (suc n) [] h = h
stands_rest u (suc n) (v ∷ vs) h = grind (arith, stands_rest u n vs h)

-- what isn't true is false
pub not_true : (b : Bool) → (b ≡ true → ⊥) → b ≡ false
not_true true h = absurd (h refl)
not_true false h = refl

pub once_last : (t : ℕ) (q : List ℕ) → Once q → stands_in t q ≡ false → Once (q ++ t ∷ [])
once_last t [] once out = (refl, tt)
once_last t (u ∷ us) once out = go (u == t) refl (once_last t us once.1) out
  where
    go : (b : Bool) → (u == t) ≡ b → (stands_in t us ≡ false → Once (us ++ t ∷ [])) → (if b then true else stands_in t us) ≡ false → Once ((u ∷ us) ++ t ∷ [])
    go true e rest h = absurd cc
    go false e rest h = (not_true (stands_in u (us ++ t ∷ [])) (λ is. ⊎_elim (λ stood. cc (stood, once.0)) (λ same. eqb-false u t e same) (stands_before u t us is)), rest h)

pub once_rest : (n : ℕ) (q : List ℕ) → Once q → Once (drop n q)
once_rest zero q once = once
once_rest (suc n) [] once = once
once_rest (suc n) (u ∷ us) once = once_rest n us once.1

-- the first of a queue, once taken, is there no more
pub first_gone : (u n : ℕ) (us : List ℕ) → Once (u ∷ us) → 1 ≤ n → stands_in u (drop n (u ∷ us)) ≡ false
first_gone u zero us once some = absurd (omega arith)
first_gone u (suc n) us once some = not_true (stands_in u (drop n us)) (λ is. cc (stands_rest u n us is, once.0))

pub first_stands : (u : ℕ) (us : List ℕ) → stands_in u (u ∷ us) ≡ true
first_stands u us = grind (arith)

-- whoever is among the first of a queue stands in it
stands_first : (u n : ℕ) (q : List ℕ) → stands_in u (take n q) ≡ true → stands_in u q ≡ true
stands_first u zero q h = absurd cc
stands_first u (suc n) [] h = h
stands_first u (suc n) (v ∷ vs) h = grind (arith, stands_first u n vs)

once_first : (n : ℕ) (q : List ℕ) → Once q → Once (take n q)
once_first zero q once = tt
once_first (suc n) [] once = tt
once_first (suc n) (v ∷ vs) once = (not_true (stands_in v (take n vs)) (λ is. cc (stands_first v n vs is, once.0)), once_first n vs once.1)

pub without_stands : (t u : ℕ) (q : List ℕ) → stands_in u (without t q) ≡ true → (stands_in u q ≡ true) × (u ≢ t)
without_stands t u [] e = absurd cc
without_stands t u (v ∷ vs) e = grind (arith, without_stands t u vs)

pub without_gone : (t : ℕ) (q : List ℕ) → stands_in t (without t q) ≡ false
without_gone t q = not_true (stands_in t (without t q)) (λ e. (without_stands t t q e).1 refl)

-- whoever isn't there isn't taken out
pub without_same : (t : ℕ) (q : List ℕ) → stands_in t q ≡ false → without t q ≡ q
without_same t [] out = refl
without_same t (u ∷ us) out = grind (arith, without_same t us)

pub once_without : (t : ℕ) (q : List ℕ) → Once q → Once (without t q)
once_without t [] once = tt
once_without t (v ∷ vs) once = go (v == t) (once_without t vs once.1)
  where
    go : (a : Bool) → Once (without t vs) → Once (if not a then v ∷ without t vs else without t vs)
    go true rest = rest
    go false rest = (not_true (stands_in v (without t vs)) (λ e. cc ((without_stands t v vs e).0, once.0)), rest)

pub stands_without : (t u : ℕ) (q : List ℕ) → (u == t) ≡ false → stands_in t (without u q) ≡ stands_in t q
stands_without t u [] e = refl
stands_without t u (v ∷ vs) e = grind (arith, stands_without t u vs e)

-- of a queue that wakes these and leaves those thread t is left where it was, or was woken
abbrev Parted : ℕ → List ℕ → List ℕ → List ℕ → Type 0
Parted t q these those = ((stands_in t these ≡ false) × (stands_in t those ≡ stands_in t q)) ⊎ ((stands_in t these ≡ true) × (stands_in t q ≡ true) × (stands_in t those ≡ false))

parted : (t n : ℕ) (q : List ℕ) → Once q → Parted t q (take n q) (drop n q)
parted t zero q once = inl (refl, refl)
parted t (suc n) [] once = inl (refl, refl)
parted t (suc n) (v ∷ vs) once = grind (arith, parted t n vs once.1)

-- ---- the queues of some places

pub stands_none : (t : ℕ) (qs : ℕ → List ℕ) (ps : List ℕ) → ((key : ℕ) → stands_in t (qs key) ≡ false) → stands_at t qs ps ≡ false
stands_none t qs [] out = refl
stands_none t qs (p ∷ ps) out = ap (λ (b : Bool). if b then true else stands_at t qs ps) (out p) ∙ stands_none t qs ps out

-- ---- queues that are joined

pub stands_append : (u : ℕ) (xs ys : List ℕ) → stands_in u (xs ++ ys) ≡ (if stands_in u xs then true else stands_in u ys)
stands_append u [] ys = refl
stands_append u (v ∷ vs) ys = grind (arith, stands_append u vs ys)

-- and who stands in neither
append_not : (u : ℕ) (xs ys : List ℕ) → stands_in u xs ≡ false → stands_in u ys ≡ false → stands_in u (xs ++ ys) ≡ false
append_not u xs ys a b = stands_append u xs ys ∙ ap (λ (x : Bool). if x then true else stands_in u ys) a ∙ b

append_right : (u : ℕ) (xs ys : List ℕ) → stands_in u ys ≡ true → stands_in u (xs ++ ys) ≡ true
append_right u xs ys h = stands_append u xs ys ∙ go (stands_in u xs)
  where
    go : (b : Bool) → (if b then true else stands_in u ys) ≡ true
    go true = refl
    go false = h

once_append : (xs ys : List ℕ) → Once xs → Once ys → ((u : ℕ) → stands_in u xs ≡ true → stands_in u ys ≡ true → ⊥) → Once (xs ++ ys)
once_append [] ys once more apart = more
once_append (u ∷ us) ys once more apart = (
  append_not u us ys once.0 (not_true (stands_in u ys) (λ there. apart u (first_stands u us) there)),
  once_append us ys once.1 more (λ v here there. apart v (later v here (u == v)) there),
)
  where
    later : (v : ℕ) → stands_in v us ≡ true → (b : Bool) → (if b then true else stands_in v us) ≡ true
    later v here true = refl
    later v here false = here

-- ---- one access

access_parts : (u : ℕ) (a : Access) (w : ℕ) (q : List ℕ) (t : ℕ) → IsNoMove a → sleeps_at a w ≡ false → Once q → Parted t q (woken_by a w q) (queue_after u a w q)
access_parts u (Access.Wake at n) w q t none awake once = parted t n q once
access_parts u (Access.Wait at e) w q t none awake once = inl (refl, ap (λ (b : Bool). stands_in t (if b then q ++ u ∷ [] else q)) awake)
access_parts u (Access.Requeue from n to k) w q t none awake once = absurd none
access_parts u (Access.CmpRequeue from e n to k) w q t none awake once = absurd none
access_parts u a w q t none awake once = inl (refl, refl)

once_if : (b : Bool) (n : ℕ) (q : List ℕ) → Once q → Once (if b then take n q else [])
once_if true n q once = once_first n q once
once_if false n q once = tt

pub woken_once : (a : Access) (w : ℕ) (q : List ℕ) → Once q → Once (woken_by a w q)
woken_once (Access.Wake at n) w q once = once_first n q once
woken_once (Access.Requeue from n to k) w q once = once_first n q once
woken_once (Access.CmpRequeue from e n to k) w q once = once_if (w % 2 ^ 32 == e) n q once
woken_once a w q once = tt

once_moved : (b : Bool) (n k : ℕ) (q : List ℕ) → Once q → Once (if b then take k (drop n q) else [])
once_moved true n k q once = once_first k (drop n q) (once_rest n q once)
once_moved false n k q once = tt

pub moved_once : (a : Access) (w : ℕ) (q : List ℕ) → Once q → Once (moved_by a w q)
moved_once (Access.Requeue from n to k) w q once = once_first k (drop n q) (once_rest n q once)
moved_once (Access.CmpRequeue from e n to k) w q once = once_moved (w % 2 ^ 32 == e) n k q once
moved_once a w q once = tt

-- whoever falls asleep comes to the end, and wakes and moves nobody
joins : (u : ℕ) (a : Access) (w : ℕ) (q : List ℕ) → sleeps_at a w ≡ true → (queue_after u a w q ≡ q ++ u ∷ []) × (woken_by a w q ≡ []) × (moved_by a w q ≡ [])
joins u (Access.Wait at e) w q on = (ap (λ (b : Bool). if b then q ++ u ∷ [] else q) on, refl, refl)
joins u a w q on = absurd cc

stands_beside : (t u : ℕ) (q : List ℕ) → (u == t) ≡ false → stands_in t (q ++ u ∷ []) ≡ stands_in t q
stands_beside t u [] e = ap (λ (b : Bool). if b then true else false) e
stands_beside t u (v ∷ vs) e = grind (arith, stands_beside t u vs e)

abbrev pub IsOut : (ℕ → List ℕ) → ℕ → Type 0
IsOut qs u = (key : ℕ) → stands_in u (qs key) ≡ false

-- thread u stands in one of these queues at most
abbrev pub InOne : (ℕ → List ℕ) → ℕ → Type 0
InOne qs u = (key at : ℕ) → stands_in u (qs key) ≡ true → stands_in u (qs at) ≡ true → key ≡ at

-- what access a of thread t, which meets the word w at a place, is to thread u: nothing; or it is t and falls asleep; or it is woken; or it is moved to another place
pub data Turned (l : Layout') (u t : ℕ) (a : Access) (at w : ℕ) (qs qs' : ℕ → List ℕ) : Type 0 where
  As_before : (u ≡ t → sleeps_at a w ≡ false) → stands_in u (woken_by a w (qs at)) ≡ false → stands_in u (moved_by a w (qs at)) ≡ false → ((key : ℕ) → stands_in u (qs' key) ≡ stands_in u (qs key)) → Turned l u t a at w qs qs'
  Falls : u ≡ t → sleeps_at a w ≡ true → woken_by a w (qs at) ≡ [] → moved_by a w (qs at) ≡ [] → stands_in u (qs' at) ≡ true → ((key : ℕ) → key ≢ at → stands_in u (qs' key) ≡ false) → Turned l u t a at w qs qs'
  Woken : sleeps_at a w ≡ false → stands_in u (woken_by a w (qs at)) ≡ true → stands_in u (moved_by a w (qs at)) ≡ false → stands_in u (qs at) ≡ true → IsOut qs' u → Turned l u t a at w qs qs'
  Moved : (from e n to k : ℕ) → a ≡ Access.CmpRequeue from e n to k → sleeps_at a w ≡ false → stands_in u (woken_by a w (qs at)) ≡ false → stands_in u (moved_by a w (qs at)) ≡ true → stands_in u (qs at) ≡ true → stands_in u (qs' (place_in l t to)) ≡ true
      → ((key : ℕ) → key ≢ place_in l t to → stands_in u (qs' key) ≡ false) → Turned l u t a at w qs qs'

-- who moves nobody, or to another place
pub data Route (l : Layout') (t : ℕ) (a : Access) (at : ℕ) : Type 0 where
  Nowhere : IsNoMove a → Route l t a at
  Somewhere : (from e n to k : ℕ) → a ≡ Access.CmpRequeue from e n to k → place_in l t to ≢ at → Route l t a at

-- access a of thread t, which stands in no queue, and meets the word w at a place
module _ (l : Layout') (qs : ℕ → List ℕ) (t : ℕ) (a : Access) (at w : ℕ) (once : (key : ℕ) → Once (qs key)) (one : (u : ℕ) → InOne qs u) (out : IsOut qs t) (route : Route l t a at) where
  abbrev q : List ℕ
  q = qs at

  abbrev left : Access → ℕ → List ℕ
  left b = put qs at (queue_after t b w q)

  abbrev after_all : Access → ℕ → List ℕ
  after_all b = joined l t b (moved_by b w q) (left b)

  abbrev qs' : ℕ → List ℕ
  qs' = after_all a

  -- who moves nobody
  module _ (none : IsNoMove a) where
    same_key : (key : ℕ) → qs' key ≡ left a key
    same_key key = ap (λ (f : ℕ → List ℕ). f key) (joined_none l t a (moved_by a w q) (left a) none)

    unmoved : (u : ℕ) → stands_in u (moved_by a w q) ≡ false
    unmoved u = ap (stands_in u) (moves_none a w q none)

    turned_still : (u : ℕ) → Turned l u t a at w qs qs'
    turned_still u = go (sleeps_at a w) refl (t == u) refl
      where
        go : (b : Bool) → sleeps_at a w ≡ b → (c : Bool) → (t == u) ≡ c → Turned l u t a at w qs qs'
        go true on true e =
            let is : u ≡ t = sym (eqb-true t u e) in
            Falls is on (joins t a w q on).1 (joins t a w q on).2
            (ap (stands_in u) (same_key at ∙ put-same qs at (queue_after t a w q) ∙ (joins t a w q on).0) ∙ ap (λ (x : ℕ). stands_in x (q ++ t ∷ [])) is ∙ stands_last t q)
            (λ key apart. ap (stands_in u) (same_key key ∙ put-other qs at (queue_after t a w q) key apart) ∙ ap (λ (x : ℕ). stands_in x (qs key)) is ∙ out key)
        go true on false e =
            As_before (λ is. absurd (eqb-false t u e (sym is))) (ap (stands_in u) (joins t a w q on).1) (unmoved u)
            (λ key. ap (stands_in u) (same_key key) ∙ by_put (λ (z : List ℕ). stands_in u z ≡ stands_in u (qs key)) qs at (queue_after t a w q) key
            (λ here. ap (stands_in u) (joins t a w q on).0 ∙ stands_beside u t q e ∙ ap (λ (k : ℕ). stands_in u (qs k)) (sym here))
            (λ apart. refl))
        go false awake c e = ⊎_elim still woken (access_parts t a w q u none awake (once at))
          where
            still : (stands_in u (woken_by a w q) ≡ false) × (stands_in u (queue_after t a w q) ≡ stands_in u q) → Turned l u t a at w qs qs'
            still h =
                As_before (λ is. awake) h.0 (unmoved u)
                (λ key. ap (stands_in u) (same_key key) ∙ by_put (λ (z : List ℕ). stands_in u z ≡ stands_in u (qs key)) qs at (queue_after t a w q) key (λ here. h.1 ∙ ap (λ (k : ℕ). stands_in u (qs k)) (sym here)) (λ apart. refl))

            woken : (stands_in u (woken_by a w q) ≡ true) × (stands_in u q ≡ true) × (stands_in u (queue_after t a w q) ≡ false) → Turned l u t a at w qs qs'
            woken h =
                Woken awake h.0 (unmoved u) h.1
                (λ key. ap (stands_in u) (same_key key) ∙ by_put (λ (z : List ℕ). stands_in u z ≡ false) qs at (queue_after t a w q) key (λ here. h.2) (λ apart. not_true (stands_in u (qs key)) (λ is. apart (one u key at is h.1))))

    once_still : (key : ℕ) → Once (qs' key)
    once_still key = subst Once (sym (same_key key)) (by_put Once qs at (queue_after t a w q) key (λ here. go a none) (λ apart. once key))
      where
        waits : (b : Bool) → Once (if b then q ++ t ∷ [] else q)
        waits true = once_last t q (once at) (out at)
        waits false = once at

        go : (x : Access) → IsNoMove x → Once (queue_after t x w q)
        go (Access.Wait y e) is = waits (sleeps_at (Access.Wait y e) w)
        go (Access.Wake y n) is = once_rest n q (once at)
        go (Access.Requeue from n to k) is = absurd is
        go (Access.CmpRequeue from e n to k) is = absurd is
        go x is = once at

  -- a move to another place
  module _ (from e n target k : ℕ) (apart : place_in l t target ≢ at) where
    abbrev move : Access
    move = Access.CmpRequeue from e n target k

    abbrev to : ℕ
    to = place_in l t target

    abbrev us : List ℕ
    us = take k (drop n q)

    -- by whether the word is as it is to be
    abbrev moved_if : Bool → List ℕ
    moved_if b = if b then us else []

    abbrev left_if : Bool → List ℕ
    left_if b = if b then drop k (drop n q) else q

    abbrev woken_if : Bool → List ℕ
    woken_if b = if b then take n q else []

    abbrev joined_if : Bool → ℕ → List ℕ
    joined_if b = put (put qs at (left_if b)) to (put qs at (left_if b) to ++ moved_if b)

    at_target : (b : Bool) → joined_if b to ≡ qs to ++ moved_if b
    at_target b = put-same (put qs at (left_if b)) to (put qs at (left_if b) to ++ moved_if b) ∙ ap (λ (z : List ℕ). z ++ moved_if b) (put-other qs at (left_if b) to apart)

    elsewhere : (b : Bool) (key : ℕ) → key ≢ to → key ≢ at → joined_if b key ≡ qs key
    elsewhere b key not_to not_at = put-other (put qs at (left_if b)) to (put qs at (left_if b) to ++ moved_if b) key not_to ∙ put-other qs at (left_if b) key not_at

    -- a property of each queue then
    by_key : (P : List ℕ → Type 0) (b : Bool) (key : ℕ) → (key ≡ to → P (qs to ++ moved_if b)) → (key ≡ at → P (left_if b)) → (key ≢ to → key ≢ at → P (qs key)) → P (joined_if b key)
    by_key P b key there here others = grind (arith)

    -- whoever is at the source stands nowhere else
    only_there : (u : ℕ) → stands_in u q ≡ true → (key : ℕ) → key ≢ at → stands_in u (qs key) ≡ false
    only_there u stands key other = not_true (stands_in u (qs key)) (λ is. other (one u key at is stands))

    module _ (u : ℕ) (b : Bool) (is : (w % 2 ^ 32 == e) ≡ b) where
      not_woken : stands_in u (woken_if b) ≡ false → stands_in u (woken_by move w q) ≡ false
      not_woken h = ap (λ (x : Bool). stands_in u (woken_if x)) is ∙ h

      not_moved : stands_in u (moved_if b) ≡ false → stands_in u (moved_by move w q) ≡ false
      not_moved h = ap (λ (x : Bool). stands_in u (moved_if x)) is ∙ h

      queue_is : (key : ℕ) → stands_in u (after_all move key) ≡ stands_in u (joined_if b key)
      queue_is key = ap (λ (x : Bool). stands_in u (joined_if x key)) is

      stays : stands_in u (woken_if b) ≡ false → stands_in u (moved_if b) ≡ false → stands_in u (left_if b) ≡ stands_in u q → Turned l u t move at w qs (after_all move)
      stays quiet still same =
          As_before (λ me. refl) (not_woken quiet) (not_moved still)
          (λ key. queue_is key ∙ by_key (λ (z : List ℕ). stands_in u z ≡ stands_in u (qs key)) b key
          (λ there. stands_append u (qs to) (moved_if b) ∙ ap (λ (x : Bool). if stands_in u (qs to) then true else x) still ∙ either (stands_in u (qs to)) ∙ ap (λ (x : ℕ). stands_in u (qs x)) (sym there))
          (λ here. same ∙ ap (λ (x : ℕ). stands_in u (qs x)) (sym here))
          (λ not_to not_at. refl))
        where
          either : (x : Bool) → (if x then true else false) ≡ x
          either true = refl
          either false = refl

    turned_moves : (u : ℕ) → Turned l u t move at w qs (after_all move)
    turned_moves u = go (w % 2 ^ 32 == e) refl
      where
        go : (b : Bool) → (w % 2 ^ 32 == e) ≡ b → Turned l u t move at w qs (after_all move)
        go false is = stays u false is refl refl refl
        go true is = ⊎_elim rest woken (parted u n q (once at))
          where
            woken : (stands_in u (take n q) ≡ true) × (stands_in u q ≡ true) × (stands_in u (drop n q) ≡ false) → Turned l u t move at w qs (after_all move)
            woken h =
                let not_us : stands_in u us ≡ false = not_true (stands_in u us) (λ there. cc (stands_first u k (drop n q) there, h.2)) in
                Woken refl (ap (λ (x : Bool). stands_in u (woken_if x)) is ∙ h.0) (not_moved u true is not_us) h.1
                (λ key. queue_is u true is key ∙ by_key (λ (z : List ℕ). stands_in u z ≡ false) true key
                (λ there. append_not u (qs to) us (only_there u h.1 to apart) not_us)
                (λ here. not_true (stands_in u (drop k (drop n q))) (λ there. cc (stands_rest u k (drop n q) there, h.2)))
                (λ not_to not_at. only_there u h.1 key not_at))

            rest : (stands_in u (take n q) ≡ false) × (stands_in u (drop n q) ≡ stands_in u q) → Turned l u t move at w qs (after_all move)
            rest h = ⊎_elim still moved (parted u k (drop n q) (once_rest n q (once at)))
              where
                still : (stands_in u us ≡ false) × (stands_in u (drop k (drop n q)) ≡ stands_in u (drop n q)) → Turned l u t move at w qs (after_all move)
                still g = stays u true is h.0 g.0 (g.1 ∙ h.1)

                moved : (stands_in u us ≡ true) × (stands_in u (drop n q) ≡ true) × (stands_in u (drop k (drop n q)) ≡ false) → Turned l u t move at w qs (after_all move)
                moved g =
                    let stood : stands_in u q ≡ true = sym h.1 ∙ g.1 in
                    Moved from e n target k refl refl (not_woken u true is h.0) (ap (λ (x : Bool). stands_in u (moved_if x)) is ∙ g.0) stood
                    (queue_is u true is to ∙ ap (stands_in u) (at_target true) ∙ append_right u (qs to) us g.0)
                    (λ key other. queue_is u true is key ∙ by_key (λ (z : List ℕ). stands_in u z ≡ false) true key (λ there. absurd (other there)) (λ here. g.2) (λ not_to not_at. only_there u stood key not_at))

    once_moves : (key : ℕ) → Once (after_all move key)
    once_moves key = go (w % 2 ^ 32 == e) refl
      where
        go : (b : Bool) → (w % 2 ^ 32 == e) ≡ b → Once (after_all move key)
        go false is = subst (λ (x : Bool). Once (joined_if x key)) (sym is) (by_key Once false key (λ there. once_append (qs to) [] (once to) tt (λ u here none. cc none)) (λ here. once at) (λ not_to not_at. once key))
        go true is =
            subst (λ (x : Bool). Once (joined_if x key)) (sym is)
            (by_key Once true key
            (λ there. once_append (qs to) us (once to) (once_first k (drop n q) (once_rest n q (once at))) (λ u here stands. cc (here, only_there u (stands_rest u n q (stands_first u k (drop n q) stands)) to apart)))
            (λ here. once_rest k (drop n q) (once_rest n q (once at)))
            (λ not_to not_at. once key))

  pub turned : (u : ℕ) → Turned l u t a at w qs qs'
  turned u = go route
    where
      go : Route l t a at → Turned l u t a at w qs qs'
      go (Nowhere none) = turned_still none u
      go (Somewhere from e n to k is apart) = subst (λ (b : Access). Turned l u t b at w qs (after_all b)) (sym is) (turned_moves from e n to k apart u)

  pub once_then : (key : ℕ) → Once (qs' key)
  once_then key = go route
    where
      go : Route l t a at → Once (qs' key)
      go (Nowhere none) = once_still none key
      go (Somewhere from e n to k is apart) = subst (λ (b : Access). Once (after_all b key)) (sym is) (once_moves from e n to k apart key)

  pub one_then : (u : ℕ) → InOne qs' u
  one_then u key other here there = go (turned u)
    where
      -- the one place where it stands
      only : (place : ℕ) → ((x : ℕ) → x ≢ place → stands_in u (qs' x) ≡ false) → (x : ℕ) → stands_in u (qs' x) ≡ true → x ≡ place
      only place elsewhere x stands = by_same x place (λ is. is) (λ apart. absurd (cc (stands, elsewhere x apart)))

      go : Turned l u t a at w qs qs' → key ≡ other
      go h = grind (arith)
