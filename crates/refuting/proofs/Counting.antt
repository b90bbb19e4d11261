-- How many mutexes threads own, line by line.
use Rattle.std.proofs.Common.{◌≡◌, ◌≢◌, ℕ, ◌+◌, ◌<◌, ◌≤◌, ◌==◌, ◌⊎◌, inl, inr, Bool, true, false, ◌&&◌, nat_le, List, refl, sym, ap, subst, ◌∙◌, arith, MatchBool}
use Rattle.std.specs.Prelude.{Some, None}
use Rattle.std.proofs.lemmas.Bool.Decides.{nat_tests}
use Rattle.lockword.specs.declared.reply.Reply.{Reply}
use Rattle.lockword.specs.declared.reply.Reply.TheVariants.{OK, EPERM, EBUSY, EINVAL, EDEADLK, ETIMEDOUT, EOWNERDEAD, ENOTRECOVERABLE, XRACED, XHELD, XFULL, XSTATE}
use Rattle.posixmutex.specs.declared.object.Object.{Object}
use Rattle.posixmutex.specs.declared.point.Decision.{Decision}
use Rattle.posixmutex.specs.declared.point.Operation.{Operation}
use Rattle.posixmutex.specs.declared.point.Operation.TheVariants.{Lock, TryLock, TimedLock, Unlock, Consistent, Wait, TimedWait, Signal, Broadcast, Death, Reinit}
use Rattle.posixmutex.specs.Histories.{held_by, is_thread}
use Rattle.posixmutex.specs.Objects.{Does, Permits, acquires, stepped}
use Rattle.posixmutex.proofs.Replies.{limit}
use Rattle.posixmutex.proofs.Steps.{determined}
use Rattle.facts.specs.declared.fact.Begun.{Begun}
use Rattle.facts.specs.declared.fact.Line.{Line}
use Rattle.facts.specs.Lives.{IsWait, MayReturn}
use Rattle.verdict.specs.declared.stage.Made.{Made}
use Rattle.verdict.specs.declared.stage.Made.TheVariants.{Nothing, Released, Decided}
use Rattle.verdict.specs.declared.stage.Stage.TheVariants as stage
use Rattle.verdict.specs.Earlier.{moved, objects_after}
use Rattle.verdict.specs.Judges.{one}
use Rattle.verdict.specs.Stages.{MayPoint, pointed}
use Rattle.verdict.proofs.Owners.{does_owners, held_put, held_same, others_own}
use Rattle.refuting.specs.Counts.{AtLimit, Counted, KeepsLimit, lost, lost_by, won, won_by}
use Rattle.refuting.proofs.Standing.{moved_here, moved_there, same_or_not}
use Rattle.refuting.proofs.Hiding.{is_timed, is_wait, never_late, plain_may, wait_may, waits_locked, waits_refused, waits_released}

-- ---- what a point changes

-- one more or one less
abbrev pub Shifts : Object → ℕ → Operation → Reply → Object → Type 0
Shifts o t op x n = one (is_thread t n.owner) + lost_by op x ≡ one (is_thread t o.owner) + won_by op x

abbrev pub own : ℕ → Object → ℕ
own t o = one (is_thread t o.owner)

itself : (t : ℕ) → (t == t) ≡ true
itself t = grind (arith, nat_tests)

owned : (t : ℕ) (o : Object) → o.owner ≡ Some t → own t o ≡ 1
owned t o is = ap (λ z. one (is_thread t z)) is ∙ ap one (itself t)

free : (t : ℕ) (o : Object) → o.owner ≡ None → own t o ≡ 0
free t o is = ap (λ z. one (is_thread t z)) is

takes : (t : ℕ) (o n : Object) → o.owner ≡ None → n.owner ≡ Some t → own t n + 0 ≡ own t o + 1
takes t o n none some = omega (arith, owned t n some, free t o none)

gives : (t : ℕ) (o n : Object) → o.owner ≡ Some t → n.owner ≡ None → own t n + 1 ≡ own t o + 0
gives t o n some none = omega (arith, owned t o some, free t n none)

stays : (t : ℕ) (o n : Object) → n ≡ o → own t n + 0 ≡ own t o + 0
stays t o n same = ap (λ z. own t z + 0) same

shifts : (o : Object) (t : ℕ) (op : Operation) (x : Reply) (n : Object) → Permits o t op x n → Shifts o t op x n
shifts o t Lock OK n h = takes t o n h.1 (ap (λ (z : Object). z.owner) h.3)
shifts o t Lock EOWNERDEAD n h = takes t o n h.1 (ap (λ (z : Object). z.owner) h.3)
shifts o t Lock ENOTRECOVERABLE n h = stays t o n h.1
shifts o t Lock EDEADLK n h = stays t o n h.1
shifts o t TryLock OK n h = takes t o n h.1 (ap (λ (z : Object). z.owner) h.3)
shifts o t TryLock EOWNERDEAD n h = takes t o n h.1 (ap (λ (z : Object). z.owner) h.3)
shifts o t TryLock ENOTRECOVERABLE n h = stays t o n h.1
shifts o t TryLock EBUSY n h = stays t o n h.1
shifts o t TryLock XRACED n h = stays t o n h.2
shifts o t TimedLock ETIMEDOUT n h = stays t o n h
shifts o t Unlock OK n h = gives t o n h.0 (ap (λ (z : Object). z.owner) h.1)
shifts o t Unlock EPERM n h = stays t o n h.1
shifts o t Consistent OK n h = ap (λ z. one (is_thread t z) + 0) (ap (λ (z : Object). z.owner) h.2)
shifts o t Consistent EINVAL n h = stays t o n h.2
shifts o t Consistent EPERM n h = stays t o n h.1
shifts o t Wait XSTATE n h = stays t o n h.2
shifts o t Wait EPERM n h = stays t o n h.1
shifts o t Signal OK n h = stays t o n h.1
shifts o t Signal XFULL n h = stays t o n h.1
shifts o t Signal EPERM n h = stays t o n h.1
shifts o t Broadcast OK n h = stays t o n h.1
shifts o t Broadcast XFULL n h = stays t o n h.1
shifts o t Broadcast EPERM n h = stays t o n h.1
shifts o t Death OK n h = gives t o n h.0 (ap (λ (z : Object). z.owner) h.1)
shifts o t Reinit OK n h = ap (λ z. one (is_thread t z) + 0) (ap (λ (z : Object). z.owner) h.2 ∙ sym h.1)
shifts o t op x n h = absurd h

-- who gets X_HELD keeps what it has
refused : (o : Object) (t : ℕ) (op : Operation) (n : Object) → acquires op ≡ true → n ≡ o → Shifts o t op XHELD n
refused o t Lock n e same = stays t o n same
refused o t TryLock n e same = stays t o n same
refused o t TimedLock n e same = stays t o n same
refused o t op n e same = absurd cc

first_of_two : (a b : Bool) → (a && b) ≡ true → a ≡ true
first_of_two true b e = refl
first_of_two false b e = e

shifts_all : (held : ℕ) (o : Object) (t : ℕ) (op : Operation) (x : Reply) (n : Object) → Does held o t op x n → Shifts o t op x n
shifts_all held o t op x n h = by_cases (acquires op && nat_le 2048 held) refl h where
  by_cases : (b : Bool) → (acquires op && nat_le 2048 held) ≡ b → MatchBool b ((x ≡ XHELD) × (n ≡ o)) (Permits o t op x n) → Shifts o t op x n
  by_cases true is g = subst (λ y. Shifts o t op y n) (sym g.0) (refused o t op n (first_of_two (acquires op) (nat_le 2048 held) is) g.1)
  by_cases false is g = shifts o t op x n g

-- the lock that ends a wait: what it doesn't take is lost
retakes : (o : Object) (t : ℕ) (x : Reply) (n : Object) → Permits o t Lock x n → own t n + lost_by Wait x ≡ own t o + 1
retakes o t OK n h = takes t o n h.1 (ap (λ (z : Object). z.owner) h.3)
retakes o t EOWNERDEAD n h = takes t o n h.1 (ap (λ (z : Object). z.owner) h.3)
retakes o t ENOTRECOVERABLE n h = ap (λ z. own t z + 1) h.1
retakes o t EDEADLK n h = ap (λ z. own t z + 1) h.1
retakes o t x n h = absurd h

pub retakes_all : (held : ℕ) (o : Object) (t : ℕ) (x : Reply) (n : Object) → Does held o t Lock x n → own t n + lost_by Wait x ≡ own t o + 1
retakes_all held o t x n h = by_cases (nat_le 2048 held) h where
  by_cases : (b : Bool) → MatchBool b ((x ≡ XHELD) × (n ≡ o)) (Permits o t Lock x n) → own t n + lost_by Wait x ≡ own t o + 1
  by_cases true g = subst (λ y. own t n + lost_by Wait y ≡ own t o + 1) (sym g.0) (ap (λ z. own t z + 1) g.1)
  by_cases false g = retakes o t x n g

-- the limit, of who owns as many as its lines say
at_limit : (count k : ℕ) (o : Object) (t : ℕ) (op : Operation) (x : Reply) (n : Object) → count ≡ k → Does count o t op x n → AtLimit op x k
at_limit count k o t Lock x n same h = let l = limit count o t Lock x n h in (λ is. subst (λ z. 2048 ≤ z) same (l.0 is).1, λ le. l.1 (refl, subst (λ z. 2048 ≤ z) (sym same) le))
at_limit count k o t TryLock x n same h = let l = limit count o t TryLock x n h in (λ is. subst (λ z. 2048 ≤ z) same (l.0 is).1, λ le. l.1 (refl, subst (λ z. 2048 ≤ z) (sym same) le))
at_limit count k o t TimedLock x n same h = let l = limit count o t TimedLock x n h in (λ is. subst (λ z. 2048 ≤ z) same (l.0 is).1, λ le. l.1 (refl, subst (λ z. 2048 ≤ z) (sym same) le))
at_limit count k o t Wait x n same h = λ is. absurd (never (subst (λ y. Permits o t Wait y n) is h)) where
  never : Permits o t Wait XHELD n → ⊥
  never p = p
at_limit count k o t TimedWait x n same h = absurd h
at_limit count k o t op x n same h = tt

-- ---- what a step changes

same_owners : (es : List Line) (d : Decision) (new : Object) (u m : ℕ) → u ≢ d.thread → Does (held_by d.thread (objects_after es) m) (objects_after es d.mutex) d.thread d.operation d.reply new → (k : ℕ) → is_thread u (moved (objects_after es) (Some d) k).owner ≡ is_thread u (objects_after es k).owner
same_owners es d new u m other does k = by_cases (same_or_not d.mutex k) where
  by_cases : (d.mutex ≡ k) ⊎ (d.mutex ≢ k) → is_thread u (moved (objects_after es) (Some d) k).owner ≡ is_thread u (objects_after es k).owner
  by_cases (inl same) =
      let becomes : moved (objects_after es) (Some d) k ≡ new =
      moved_here (objects_after es) d k same ∙ ap (λ j. stepped (objects_after es j) d.thread d.operation d.reply) (sym same) ∙ sym (determined (held_by d.thread (objects_after es) m) (objects_after es d.mutex) d.thread d.operation d.reply new does) in
      ap (λ (o : Object). is_thread u o.owner) becomes ∙ others_own (objects_after es d.mutex) d.thread new u other (does_owners (held_by d.thread (objects_after es) m) (objects_after es d.mutex) d.thread d.operation d.reply new does)
      ∙ ap (λ j. is_thread u (objects_after es j).owner) same
  by_cases (inr there) = ap (λ (o : Object). is_thread u o.owner) (moved_there (objects_after es) d k there)

-- another thread owns as many as before
pub others_count : (n : ℕ) (es : List Line) (d : Decision) (new : Object) (u : ℕ) → u ≢ d.thread → Does (held_by d.thread (objects_after es) n) (objects_after es d.mutex) d.thread d.operation d.reply new → held_by u (moved (objects_after es) (Some d)) n ≡ held_by u (objects_after es) n
others_count n es d new u other does = held_same u (objects_after es) (moved (objects_after es) (Some d)) n (λ k lt. same_owners es d new u n other does k)

-- and the thread itself by the mutex alone
pub own_count : (n : ℕ) (es : List Line) (d : Decision) (new : Object) → d.mutex < n → Does (held_by d.thread (objects_after es) n) (objects_after es d.mutex) d.thread d.operation d.reply new
    → held_by d.thread (moved (objects_after es) (Some d)) n + own d.thread (objects_after es d.mutex) ≡ held_by d.thread (objects_after es) n + own d.thread new
own_count n es d new lt does =
    let becomes : moved (objects_after es) (Some d) d.mutex ≡ new =
    moved_here (objects_after es) d d.mutex refl ∙ sym (determined (held_by d.thread (objects_after es) n) (objects_after es d.mutex) d.thread d.operation d.reply new does) in
    held_put d.thread (objects_after es) (moved (objects_after es) (Some d)) n d.mutex lt
    (λ k other. ap (λ (o : Object). is_thread d.thread o.owner) (moved_there (objects_after es) d k (λ same. other (sym same))))
    ∙ ap (λ o. held_by d.thread (objects_after es) n + own d.thread o) becomes

-- ---- a point

-- a point of the call's own operation
own_point : (a : Operation) (y : Reply) (made : Made) (before after owns owned_ lines : ℕ) → pointed a a y ≡ Decided y → after + owned_ ≡ before + owns → owns + lost_by a y ≡ owned_ + won_by a y → before ≡ lines → AtLimit a y lines
    → (after + lost a (pointed a a y) ≡ lines + won a (pointed a a y)) × KeepsLimit a (pointed a a y) lines
own_point a y made before after owns owned_ lines points counts shift same limit =
    let sum : after + lost_by a y ≡ lines + won_by a y = omega (arith, counts, shift, same) in
    subst (λ q. (after + lost a q ≡ lines + won a q) × KeepsLimit a q lines) (sym points) (sum, limit)

-- a lock with a time limit takes what a lock does
as_lock : (y : Reply) → (won_by TimedLock y ≡ won_by Lock y) × (lost_by TimedLock y ≡ lost_by Lock y)
as_lock OK = (refl, refl)
as_lock EOWNERDEAD = (refl, refl)
as_lock y = (refl, refl)

-- and a wait with one gives up what a wait does
as_wait : (y : Reply) → y ≢ ETIMEDOUT → lost_by TimedWait y ≡ lost_by Wait y
as_wait ETIMEDOUT ne = absurd (ne refl)
as_wait OK ne = refl
as_wait EOWNERDEAD ne = refl
as_wait EPERM ne = refl
as_wait XSTATE ne = refl
as_wait y ne = refl

waits_lose : (a : Operation) (y : Reply) → IsWait a → y ≢ ETIMEDOUT → lost_by a y ≡ lost_by Wait y
waits_lose a y (inl is) ne = ap (λ b. lost_by b y) is
waits_lose a y (inr is) ne = ap (λ b. lost_by b y) is ∙ as_wait y ne

waits_win : (a : Operation) (y : Reply) → IsWait a → won_by a y ≡ 0
waits_win a y (inl is) = ap (λ b. won_by b y) is
waits_win a y (inr is) = ap (λ b. won_by b y) is

waits_limit : (a : Operation) (y : Reply) (own : ℕ) → IsWait a → (y ≡ XHELD → 2049 ≤ own) → AtLimit a y own
waits_limit a y own (inl is) most = subst (λ b. AtLimit b y own) (sym is) most
waits_limit a y own (inr is) most = subst (λ b. AtLimit b y own) (sym is) most

-- who is told so has won and lost what the last point of its call says, and is as near to the limit
pub told_alike : (a : Operation) (y z : Reply) → MayReturn a y z → (won_by a z ≡ won_by a y) × (lost_by a z ≡ lost_by a y)
told_alike TimedWait y z (inl is) = (refl, ap (lost_by TimedWait) is)
told_alike TimedWait y z (inr late) = (refl, ap (lost_by TimedWait) late.1 ∙ sym (ap (lost_by TimedWait) late.0))
told_alike a y z is = (ap (won_by a) is, ap (lost_by a) is)

pub limit_alike : (a : Operation) (y z : Reply) (own : ℕ) → MayReturn a y z → AtLimit a y own → AtLimit a z own
limit_alike TimedWait y z own (inl is) most = subst (λ x. AtLimit TimedWait x own) (sym is) most
limit_alike TimedWait y z own (inr late) most = λ held. let no : ETIMEDOUT ≡ XHELD = sym late.1 ∙ held in absurd cc
limit_alike a y z own is most = subst (λ x. AtLimit a x own) (sym is) most

points_to : (a : Operation) (y : Reply) → pointed a a y ≡ Decided y
points_to Wait y = refl
points_to a y = refl

pub point_counted : (k : Begun) (its : Made) (t : ℕ) (b : Operation) (y : Reply) (o new : Object) (z : Bool) (before after lines : ℕ) → (its ≡ Released → IsWait k.operation) → MayPoint k.operation its b y → Does before o t b y new → after + own t o ≡ before + own t new
    → Counted (stage.Calling k its z) before lines → Counted (stage.Calling k (pointed k.operation b y) z) after lines
point_counted k (Decided x) t b y o new z before after lines wait may does counts c = absurd may
point_counted k Released t b y o new z before after lines wait may does counts c =
    let a : IsWait k.operation = wait refl in
    let its : Does before o t Lock y new = subst (λ q. Does before o t q y new) may does in
    let in_time : y ≢ ETIMEDOUT = never_late before o t Lock y new its (λ timed. absurd cc) in
    let back = retakes_all before o t y new its in
    let loses = waits_lose k.operation y a in_time in
    let wins = waits_win k.operation y a in
    let sum : after + lost_by k.operation y ≡ lines + won_by k.operation y = omega (arith, c.0, counts, back, loses, wins) in
    subst (λ q. Counted (stage.Calling k q z) after lines) (sym (ap (λ q. pointed k.operation q y) may ∙ waits_locked k.operation y a))
    (sum, waits_limit k.operation y lines a (λ is. let l = limit before o t Lock y new its in let le : 2048 ≤ before = (l.0 is).1 in omega (arith, le, c.0)))
point_counted k Nothing t b y o new z before after lines wait may does counts c = by_cases (is_wait k.operation) (is_timed k.operation) where
  same : before ≡ lines
  same = omega (arith, c.0)

  own_one : b ≡ k.operation → Counted (stage.Calling k (pointed k.operation b y) z) after lines
  own_one is =
      let its : Does before o t k.operation y new = subst (λ q. Does before o t q y new) is does in
      subst (λ q. Counted (stage.Calling k (pointed k.operation q y) z) after lines) (sym is)
      (own_point k.operation y Nothing before after (own t new) (own t o) lines (points_to k.operation y) counts (shifts_all before o t k.operation y new its) same (at_limit before lines o t k.operation y new same its))

  by_wait : IsWait k.operation → (b ≡ Wait) ⊎ ((b ≡ Unlock) × (y ≡ OK)) → Counted (stage.Calling k (pointed k.operation b y) z) after lines
  by_wait a (inl is) =
      let its : Does before o t Wait y new = subst (λ q. Does before o t q y new) is does in
      let in_time : y ≢ ETIMEDOUT = never_late before o t Wait y new its (λ timed. absurd cc) in
      let shift : own t new + lost_by Wait y ≡ own t o + 0 = shifts_all before o t Wait y new its in
      let loses = waits_lose k.operation y a in_time in
      let wins = waits_win k.operation y a in
      let sum : after + lost_by k.operation y ≡ lines + won_by k.operation y = omega (arith, counts, shift, same, loses, wins) in
      subst (λ q. Counted (stage.Calling k q z) after lines) (sym (ap (λ q. pointed k.operation q y) is ∙ waits_refused k.operation y a))
      (sum, waits_limit k.operation y lines a (at_limit before lines o t Wait y new same its))
  by_wait a (inr release) =
      let its : Does before o t Unlock OK new = subst (λ r. Does before o t Unlock r new) release.1 (subst (λ q. Does before o t q y new) release.0 does) in
      let shift = shifts_all before o t Unlock OK new its in
      let sum : after + 1 ≡ lines + 0 = omega (arith, shift, counts, same) in
      subst (λ q. Counted (stage.Calling k q z) after lines) (sym (ap (λ q. pointed k.operation q y) release.0 ∙ waits_released k.operation y a)) (sum, tt)

  -- a lock with a time limit that is recorded as a lock
  by_timed : k.operation ≡ TimedLock → (b ≡ TimedLock) ⊎ (b ≡ Lock) → Counted (stage.Calling k (pointed k.operation b y) z) after lines
  by_timed a (inl is) = own_one (is ∙ sym a)
  by_timed a (inr is) =
      let its : Does before o t Lock y new = subst (λ q. Does before o t q y new) is does in
      let shift = shifts_all before o t Lock y new its in
      let sum : after + lost_by TimedLock y ≡ lines + won_by TimedLock y = (let e = as_lock y in omega (arith, counts, shift, same, e.0, e.1)) in
      subst (λ q. Counted (stage.Calling k (pointed q b y) z) after lines) (sym a)
      (subst (λ q. (after + lost q (Decided y) ≡ lines + won q (Decided y)) × KeepsLimit q (Decided y) lines) (sym a) (sum, at_limit before lines o t Lock y new same its))

  by_cases : IsWait k.operation ⊎ (IsWait k.operation → ⊥) → (k.operation ≡ TimedLock) ⊎ (k.operation ≢ TimedLock) → Counted (stage.Calling k (pointed k.operation b y) z) after lines
  by_cases (inl a) timed = by_wait a (wait_may k.operation b y a may)
  by_cases (inr a) (inl timed) = by_timed timed (subst (λ q. MayPoint q Nothing b y) timed may)
  by_cases (inr a) (inr untimed) = own_one (plain_may k.operation b y a untimed may)
