-- Steps of objects, and how many mutexes a thread owns.
use Rattle.std.proofs.Common.{◌≡◌, ◌≢◌, ◌⊎◌, inl, inr, ℕ, zero, suc, ◌<◌, ◌≤◌, ◌==◌, ◌+◌, ◌&&◌, Bool, true, false, nat_le, MatchBool, List, length, Option, None, Some, get_or, refl, sym, ap, subst, ◌∙◌, arith, slice_set, get_or-set_same, get_or-set_other}
use Rattle.std.proofs.Math.ListN.{length-set, replicate}
use Rattle.std.proofs.lemmas.List.{get_or_read_under}
use Rattle.std.specs.Prelude.{if◌then◌else◌, slice_index}
use Rattle.std.proofs.lemmas.Bool.Decides.{nat_tests}
use mathlib.Core.Path.{fun_ext}
use Rattle.lockword.specs.declared.reply.Reply.{Reply}
use Rattle.lockword.specs.declared.reply.Reply.TheVariants.{OK, EPERM, EBUSY, EINVAL, EDEADLK, ETIMEDOUT, EOWNERDEAD, ENOTRECOVERABLE, XRACED, XHELD, XFULL, XSTATE}
use Rattle.posixmutex.specs.declared.object.Object.{Object}
use Rattle.posixmutex.specs.declared.point.Operation.{Operation}
use Rattle.posixmutex.specs.declared.point.Operation.TheVariants.{Lock, TryLock, TimedLock, Unlock, Consistent, Wait, Signal, Broadcast, Death, Reinit}
use Rattle.posixmutex.specs.declared.point.Decision.{Decision}
use Rattle.posixmutex.specs.Objects.{Permits, Does, acquires, fresh, stepped}
use Rattle.posixmutex.proofs.Steps.{determined}
use Rattle.posixmutex.specs.Histories.{is_thread, held_by}
use Rattle.verdict.specs.Earlier.{moved}
use Rattle.verdict.specs.Judges.{one, object_at, AreCounted}

-- ---- who owns it then

-- the owner stays, or the thread takes it, or gives it up
abbrev pub Owners : Object → ℕ → Object → Type 0
Owners o t n = (n.owner ≡ o.owner) ⊎ (((o.owner ≡ None) × (n.owner ≡ Some t)) ⊎ ((o.owner ≡ Some t) × (n.owner ≡ None)))

kept : (o : Object) (t : ℕ) (n : Object) → n ≡ o → Owners o t n
kept o t n e = inl (ap (λ (z : Object). z.owner) e)

permits_owners : (o : Object) (t : ℕ) (op : Operation) (x : Reply) (n : Object) → Permits o t op x n → Owners o t n
permits_owners o t Lock OK n h = inr (inl (h.1, ap (λ (z : Object). z.owner) h.3))
permits_owners o t Lock EOWNERDEAD n h = inr (inl (h.1, ap (λ (z : Object). z.owner) h.3))
permits_owners o t Lock ENOTRECOVERABLE n h = kept o t n h.1
permits_owners o t Lock EDEADLK n h = kept o t n h.1
permits_owners o t TryLock OK n h = inr (inl (h.1, ap (λ (z : Object). z.owner) h.3))
permits_owners o t TryLock EOWNERDEAD n h = inr (inl (h.1, ap (λ (z : Object). z.owner) h.3))
permits_owners o t TryLock ENOTRECOVERABLE n h = kept o t n h.1
permits_owners o t TryLock EBUSY n h = kept o t n h.1
permits_owners o t TryLock XRACED n h = kept o t n h.2
permits_owners o t TimedLock ETIMEDOUT n h = kept o t n h
permits_owners o t Unlock OK n h = inr (inr (h.0, ap (λ (z : Object). z.owner) h.1))
permits_owners o t Unlock EPERM n h = kept o t n h.1
permits_owners o t Consistent OK n h = inl (ap (λ (z : Object). z.owner) h.2)
permits_owners o t Consistent EINVAL n h = kept o t n h.2
permits_owners o t Consistent EPERM n h = kept o t n h.1
permits_owners o t Wait XSTATE n h = kept o t n h.2
permits_owners o t Wait EPERM n h = kept o t n h.1
permits_owners o t Signal OK n h = kept o t n h.1
permits_owners o t Signal XFULL n h = kept o t n h.1
permits_owners o t Signal EPERM n h = kept o t n h.1
permits_owners o t Broadcast OK n h = kept o t n h.1
permits_owners o t Broadcast XFULL n h = kept o t n h.1
permits_owners o t Broadcast EPERM n h = kept o t n h.1
permits_owners o t Death OK n h = inr (inr (h.0, ap (λ (z : Object). z.owner) h.1))
permits_owners o t Reinit OK n h = inl (ap (λ (z : Object). z.owner) h.2 ∙ sym h.1)
permits_owners o t op x n h = absurd h

pub does_owners : (held : ℕ) (o : Object) (t : ℕ) (op : Operation) (x : Reply) (n : Object) → Does held o t op x n → Owners o t n
does_owners held o t op x n h = by_cases (acquires op && nat_le 2048 held) h where
  by_cases : (b : Bool) → MatchBool b ((x ≡ XHELD) × (n ≡ o)) (Permits o t op x n) → Owners o t n
  by_cases true h = kept o t n h.1
  by_cases false h = permits_owners o t op x n h

-- another thread owns it afterwards exactly if it owned it
pub others_own : (o : Object) (t : ℕ) (n : Object) (u : ℕ) → u ≢ t → Owners o t n → is_thread u n.owner ≡ is_thread u o.owner
others_own o t n u other (inl e) = ap (is_thread u) e
others_own o t n u other (inr (inl e)) = let no : (t == u) ≡ false = grind (arith, nat_tests) in ap (is_thread u) e.1 ∙ no ∙ sym (ap (is_thread u) e.0)
others_own o t n u other (inr (inr e)) = let no : (t == u) ≡ false = grind (arith, nat_tests) in ap (is_thread u) e.1 ∙ sym (ap (is_thread u) e.0 ∙ no)

-- ---- counts

pub held_same : (t : ℕ) (os ps : ℕ → Object) (n : ℕ) → ((m : ℕ) → m < n → is_thread t (ps m).owner ≡ is_thread t (os m).owner) → held_by t ps n ≡ held_by t os n
held_same t os ps zero h = refl
held_same t os ps (suc n) h =
    let here = h n (omega arith) in
    let rest = held_same t os ps n (λ m k. h m (omega arith)) in
    ap (λ b. (if b then 1 else 0) + held_by t ps n) here ∙ ap (λ k. (if is_thread t (os n).owner then 1 else 0) + k) rest

abbrev number : Bool → ℕ
number b = if b then 1 else 0

is_one : (b : Bool) → (if b then 1 else 0) ≡ one b
is_one true = refl
is_one false = refl

pub held_put : (t : ℕ) (os ps : ℕ → Object) (n k : ℕ) → k < n → ((m : ℕ) → m ≢ k → is_thread t (ps m).owner ≡ is_thread t (os m).owner) → held_by t ps n + one (is_thread t (os k).owner) ≡ held_by t os n + one (is_thread t (ps k).owner)
held_put t os ps zero k lt h = absurd (omega arith)
held_put t os ps (suc n) k lt h = by_cases (n == k) refl (λ low. held_put t os ps n k low h) where
  by_cases : (b : Bool) → (n == k) ≡ b → (k < n → held_by t ps n + one (is_thread t (os k).owner) ≡ held_by t os n + one (is_thread t (ps k).owner)) → held_by t ps (suc n) + one (is_thread t (os k).owner) ≡ held_by t os (suc n) + one (is_thread t (ps k).owner)
  by_cases true e more =
      let same : n ≡ k = grind (arith, nat_tests) in
      let rest = held_same t os ps n (λ m low. h m (omega arith)) in
      let a = is_one (is_thread t (ps n).owner) in
      let b = is_one (is_thread t (os n).owner) in
      let c = ap (λ j. one (is_thread t (os j).owner)) same in
      let d = ap (λ j. one (is_thread t (ps j).owner)) same in
      omega (arith, rest, a, b, c, d)
  by_cases false e more =
      let other : n ≢ k = grind (arith, nat_tests) in
      let rest = more (omega arith) in
      let here = ap number (h n other) in
      omega (arith, rest, here)

at_most_one : (b : Bool) → (if b then 1 else 0) ≤ 1
at_most_one true = omega arith
at_most_one false = omega arith

pub held_most : (t : ℕ) (os : ℕ → Object) (n : ℕ) → held_by t os n ≤ n
held_most t os zero = omega arith
held_most t os (suc n) = omega (arith, held_most t os n, at_most_one (is_thread t (os n).owner))

pub held_some : (t : ℕ) (os : ℕ → Object) (n k : ℕ) → k < n → is_thread t (os k).owner ≡ true → 1 ≤ held_by t os n
held_some t os zero k lt h = absurd (omega arith)
held_some t os (suc n) k lt h = by_cases (n == k) refl (λ low. held_some t os n k low h) where
  by_cases : (b : Bool) → (n == k) ≡ b → (k < n → 1 ≤ held_by t os n) → 1 ≤ held_by t os (suc n)
  by_cases true e more =
      let same : n ≡ k = grind (arith, nat_tests) in
      let a = is_one (is_thread t (os n).owner) in
      let b = ap one (ap (λ j. is_thread t (os j).owner) same ∙ h) in
      omega (arith, a, b)
  by_cases false e more = let other : n ≢ k = grind (arith, nat_tests) in omega (arith, more (omega arith))

another : (t u : ℕ) (b : Bool) → (u == t) ≡ b → Some u ≢ Some t → b ≡ false
another t u false is e = refl
another t u true is e = absurd (e (ap Some (grind (arith, nat_tests))))

pub not_owner : (t : ℕ) (o : Option ℕ) → o ≢ Some t → is_thread t o ≡ false
not_owner t None e = refl
not_owner t (Some u) e = another t u (u == t) refl e

pub held_none : (t : ℕ) (os : ℕ → Object) (n : ℕ) → ((m : ℕ) → m < n → (os m).owner ≢ Some t) → held_by t os n ≡ 0
held_none t os zero h = refl
held_none t os (suc n) h =
    let rest = held_none t os n (λ m lt. h m (omega arith)) in
    let here = is_one (is_thread t (os n).owner) in
    let no = ap one (not_owner t (os n).owner (h n (omega arith))) in
    omega (arith, rest, here, no)

pub owns_itself : (t : ℕ) (o : Option ℕ) → o ≡ Some t → is_thread t o ≡ true
owns_itself t o e = let same : (t == t) ≡ true = grind (arith, nat_tests) in ap (is_thread t) e ∙ same

-- ---- a step in the list of objects

pub changed_list : (xs : List Object) (d : Decision) (held : ℕ) (new : Object) → d.mutex < length xs → Does held (object_at xs d.mutex) d.thread d.operation d.reply new → object_at (slice_set xs d.mutex new) ≡ moved (object_at xs) (Some d)
changed_list xs d held new lt h = fun_ext (λ m. by_cases m (m == d.mutex) refl) where
  by_cases : (m : ℕ) → (b : Bool) → (m == d.mutex) ≡ b → object_at (slice_set xs d.mutex new) m ≡ (if b then stepped (object_at xs m) d.thread d.operation d.reply else object_at xs m)
  by_cases m true e =
      let same : m ≡ d.mutex = grind (arith, nat_tests) in
      ap (object_at (slice_set xs d.mutex new)) same ∙ get_or-set_same xs d.mutex new fresh lt ∙ determined held (object_at xs d.mutex) d.thread d.operation d.reply new h ∙ ap (λ j. stepped (object_at xs j) d.thread d.operation d.reply) (sym same)
  by_cases m false e =
      let other : m ≢ d.mutex = grind (arith, nat_tests) in
      get_or-set_other xs d.mutex m new fresh other

pub still_counted : (hs : List ℕ) (xs : List Object) (k t left : ℕ) (new : Object) → k < length xs → t < length hs → AreCounted hs xs → Owners (object_at xs k) t new
    → left + one (is_thread t (object_at xs k).owner) ≡ slice_index hs t + one (is_thread t new.owner) → AreCounted (slice_set hs t left) (slice_set xs k new)
still_counted hs xs k t left new lt low counted owners count u below = by_cases (u == t) refl where
  at_k : object_at (slice_set xs k new) k ≡ new
  at_k = get_or-set_same xs k new fresh lt

  long : length (slice_set xs k new) ≡ length xs
  long = length-set xs k new

  hs_long : length (slice_set hs t left) ≡ length hs
  hs_long = length-set hs t left

  elsewhere : (v m : ℕ) → m ≢ k → is_thread v (object_at (slice_set xs k new) m).owner ≡ is_thread v (object_at xs m).owner
  elsewhere v m other = ap (λ (o : Object). is_thread v o.owner) (get_or-set_other xs k m new fresh other)

  by_cases : (b : Bool) → (u == t) ≡ b → slice_index (slice_set hs t left) u ≡ held_by u (object_at (slice_set xs k new)) (length (slice_set xs k new))
  by_cases true e =
      let same : u ≡ t = grind (arith, nat_tests) in
      let a = ap (slice_index (slice_set hs t left)) same ∙ get_or-set_same hs t left 0 low in
      let b = held_put t (object_at xs) (object_at (slice_set xs k new)) (length xs) k lt (elsewhere t) in
      let c = ap (λ (o : Object). one (is_thread t o.owner)) at_k in
      let d = counted t low in
      let e = ap (λ j. held_by j (object_at (slice_set xs k new)) (length xs)) same in
      let f = ap (held_by u (object_at (slice_set xs k new))) long in
      omega (arith, a, b, c, d, e, f, count)
  by_cases false e =
      let other : u ≢ t = grind (arith, nat_tests) in
      let a = get_or-set_other hs t u left 0 other in
      let b = held_put u (object_at xs) (object_at (slice_set xs k new)) (length xs) k lt (elsewhere u) in
      let c = ap (λ (o : Object). one (is_thread u o.owner)) at_k in
      let d = counted u (subst (λ k. u < k) hs_long below) in
      let e = ap one (others_own (object_at xs k) t new u other owners) in
      let f = ap (held_by u (object_at (slice_set xs k new))) long in
      omega (arith, a, b, c, d, e, f)

-- ---- what the code reads

pub read_object : (xs : List Object) (at k : ℕ) (old : Object) → at ≡ k → k < length xs → old ≡ get_or xs at old → old ≡ object_at xs k
read_object xs at k old is lt e = get_or_read_under xs at (length xs) old fresh e (omega arith) refl ∙ ap (object_at xs) is

pub read_number : (hs : List ℕ) (by t owned : ℕ) → by ≡ t → t < length hs → owned ≡ get_or hs by owned → owned ≡ slice_index hs t
read_number hs by t owned is lt e = get_or_read_under hs by (length hs) owned 0 e (omega arith) refl ∙ ap (slice_index hs) is

pub step_moves : (xs : List Object) (d : Decision) (at held : ℕ) (old new : Object) → at ≡ d.mutex → d.mutex < length xs → old ≡ object_at xs d.mutex → Does held old d.thread d.operation d.reply new → object_at (slice_set xs at new) ≡ moved (object_at xs) (Some d)
step_moves xs d at held old new is lt e h = ap (λ k. object_at (slice_set xs k new)) is ∙ changed_list xs d held new lt (subst (λ o. Does held o d.thread d.operation d.reply new) e h)

pub step_counts : (hs : List ℕ) (xs : List Object) (d : Decision) (at by owned left : ℕ) (old new : Object) → at ≡ d.mutex → by ≡ d.thread → d.mutex < length xs → d.thread < length hs → old ≡ object_at xs d.mutex → owned ≡ slice_index hs d.thread
    → AreCounted hs xs → Does owned old d.thread d.operation d.reply new → left + one (is_thread d.thread old.owner) ≡ owned + one (is_thread d.thread new.owner) → AreCounted (slice_set hs by left) (slice_set xs at new)
step_counts hs xs d at by owned left old new at_is by_is lt low old_is owned_is counted h count =
    let owners = does_owners owned (object_at xs d.mutex) d.thread d.operation d.reply new (subst (λ o. Does owned o d.thread d.operation d.reply new) old_is h) in
    let sum : left + one (is_thread d.thread (object_at xs d.mutex).owner) ≡ slice_index hs d.thread + one (is_thread d.thread new.owner) = ap (λ (o : Object). left + one (is_thread d.thread o.owner)) (sym old_is) ∙ count ∙ ap (λ k. k + one (is_thread d.thread new.owner)) owned_is in
    subst (λ k. AreCounted (slice_set hs by left) (slice_set xs k new)) (sym at_is)
    (subst (λ j. AreCounted (slice_set hs j left) (slice_set xs d.mutex new)) (sym by_is) (still_counted hs xs d.mutex d.thread left new lt low counted owners sum))

-- ---- before the first line

nobody : (xs : List Object) → ((m : ℕ) → object_at xs m ≡ fresh) → (t n : ℕ) → held_by t (object_at xs) n ≡ 0
nobody xs all t n = held_none t (object_at xs) n (λ m lt owner. let e : None ≡ Some t = sym (ap (λ (o : Object). o.owner) (all m)) ∙ owner in absurd cc)

pub none_counted : (hs : List ℕ) (xs : List Object) → ((t : ℕ) → slice_index hs t ≡ 0) → ((m : ℕ) → object_at xs m ≡ fresh) → AreCounted hs xs
none_counted hs xs zeros all t lt = zeros t ∙ sym (nobody xs all t (length xs))

pub all_alike : {A : Type 0} (n : ℕ) (x : A) (i : ℕ) → get_or (replicate n x) i x ≡ x
all_alike zero x i = refl
all_alike (suc n) x zero = refl
all_alike (suc n) x (suc i) = all_alike n x i
