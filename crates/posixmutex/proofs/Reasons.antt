-- Why steps change objects.
use Rattle.std.proofs.Common.{◌≡◌, ◌⊎◌, ⊎_elim, inl, inr, ℕ, ◌&&◌, Bool, true, false, nat_le, if◌then◌else◌, MatchBool, Some, None, refl, ap, ◌∙◌}
use Rattle.lockword.specs.declared.reply.Reply.{Reply}
use Rattle.lockword.specs.declared.reply.Reply.TheVariants.{OK, EPERM, EBUSY, EINVAL, EDEADLK, ETIMEDOUT, EOWNERDEAD, ENOTRECOVERABLE, XRACED, XHELD, XFULL, XSTATE}
use Rattle.posixmutex.specs.declared.object.Object.{Object}
use Rattle.posixmutex.specs.declared.point.Operation.{Operation}
use Rattle.posixmutex.specs.declared.point.Operation.TheVariants.{Lock, TryLock, TimedLock, Unlock, Consistent, Wait, Signal, Broadcast, Death, Reinit}
use Rattle.posixmutex.specs.Objects.{Permits, acquires, releases, IsByOwner, IsTaking, ChangesWithReason, ChangesHaveReasons}
use Rattle.posixmutex.proofs.Objects.{others_keep}

told_well : (b : Bool) → b ≡ false → OK ≡ (if b then EOWNERDEAD else OK)
told_well false e = refl
told_well true e = absurd cc

told_ill : (b : Bool) → b ≡ true → EOWNERDEAD ≡ (if b then EOWNERDEAD else OK)
told_ill true e = refl
told_ill false e = absurd cc

-- a mutex that nobody owns, and that is usable
of_usable : (o : Object) (t : ℕ) (op : Operation) (r : Reply) (n : Object) → Permits o t op r n → o.owner ≡ None → o.unusable ≡ false → (n ≡ o) ⊎ IsTaking o t op r n
of_usable o t Lock OK n p none us = inr (refl, told_well o.inconsistent p.2, ap (λ (z : Object). z.owner) p.3, ap (λ (z : Object). z.inconsistent) p.3, ap (λ (z : Object). z.unusable) p.3 ∙ us)
of_usable o t Lock EOWNERDEAD n p none us = inr (refl, told_ill o.inconsistent p.2, ap (λ (z : Object). z.owner) p.3, ap (λ (z : Object). z.inconsistent) p.3, ap (λ (z : Object). z.unusable) p.3 ∙ us)
of_usable o t Lock ENOTRECOVERABLE n p none us = inl p.1
of_usable o t Lock EDEADLK n p none us = inl p.1
of_usable o t TryLock OK n p none us = inr (refl, told_well o.inconsistent p.2, ap (λ (z : Object). z.owner) p.3, ap (λ (z : Object). z.inconsistent) p.3, ap (λ (z : Object). z.unusable) p.3 ∙ us)
of_usable o t TryLock EOWNERDEAD n p none us = inr (refl, told_ill o.inconsistent p.2, ap (λ (z : Object). z.owner) p.3, ap (λ (z : Object). z.inconsistent) p.3, ap (λ (z : Object). z.unusable) p.3 ∙ us)
of_usable o t TryLock ENOTRECOVERABLE n p none us = inl p.1
of_usable o t TryLock EBUSY n p none us = inl p.1
of_usable o t TryLock XRACED n p none us = inl p.2
of_usable o t TimedLock ETIMEDOUT n p none us = inl p
of_usable o t Unlock OK n p none us = absurd (cc (none, p.0))
of_usable o t Unlock EPERM n p none us = inl p.1
of_usable o t Consistent OK n p none us = absurd (cc (none, p.0))
of_usable o t Consistent EINVAL n p none us = inl p.2
of_usable o t Consistent EPERM n p none us = inl p.1
of_usable o t Wait XSTATE n p none us = inl p.2
of_usable o t Wait EPERM n p none us = inl p.1
of_usable o t Signal OK n p none us = inl p.1
of_usable o t Signal XFULL n p none us = inl p.1
of_usable o t Signal EPERM n p none us = inl p.1
of_usable o t Broadcast OK n p none us = inl p.1
of_usable o t Broadcast XFULL n p none us = inl p.1
of_usable o t Broadcast EPERM n p none us = inl p.1
of_usable o t Death OK n p none us = absurd (cc (none, p.0))
of_usable o t Reinit OK n p none us = absurd (cc (us, p.0))
of_usable o t op r n p none us = absurd p

-- a mutex that nobody owns, and that is unusable
of_unusable : (o : Object) (t : ℕ) (op : Operation) (r : Reply) (n : Object) → Permits o t op r n → o.owner ≡ None → o.unusable ≡ true → (n ≡ o) ⊎ ((op ≡ Reinit) × (r ≡ OK) × (n.owner ≡ None) × (n.inconsistent ≡ false) × (n.unusable ≡ false))
of_unusable o t Lock OK n p none us = absurd (cc (us, p.0))
of_unusable o t Lock EOWNERDEAD n p none us = absurd (cc (us, p.0))
of_unusable o t Lock ENOTRECOVERABLE n p none us = inl p.1
of_unusable o t Lock EDEADLK n p none us = inl p.1
of_unusable o t TryLock OK n p none us = absurd (cc (us, p.0))
of_unusable o t TryLock EOWNERDEAD n p none us = absurd (cc (us, p.0))
of_unusable o t TryLock ENOTRECOVERABLE n p none us = inl p.1
of_unusable o t TryLock EBUSY n p none us = inl p.1
of_unusable o t TryLock XRACED n p none us = inl p.2
of_unusable o t TimedLock ETIMEDOUT n p none us = inl p
of_unusable o t Unlock OK n p none us = absurd (cc (none, p.0))
of_unusable o t Unlock EPERM n p none us = inl p.1
of_unusable o t Consistent OK n p none us = absurd (cc (none, p.0))
of_unusable o t Consistent EINVAL n p none us = inl p.2
of_unusable o t Consistent EPERM n p none us = inl p.1
of_unusable o t Wait XSTATE n p none us = inl p.2
of_unusable o t Wait EPERM n p none us = inl p.1
of_unusable o t Signal OK n p none us = inl p.1
of_unusable o t Signal XFULL n p none us = inl p.1
of_unusable o t Signal EPERM n p none us = inl p.1
of_unusable o t Broadcast OK n p none us = inl p.1
of_unusable o t Broadcast XFULL n p none us = inl p.1
of_unusable o t Broadcast EPERM n p none us = inl p.1
of_unusable o t Death OK n p none us = absurd (cc (none, p.0))
of_unusable o t Reinit OK n p none us = inr (refl, refl, ap (λ (z : Object). z.owner) p.2, ap (λ (z : Object). z.inconsistent) p.2, ap (λ (z : Object). z.unusable) p.2)
of_unusable o t op r n p none us = absurd p

-- its owner's steps
of_own : (o : Object) (t : ℕ) (op : Operation) (r : Reply) (n : Object) → Permits o t op r n → o.owner ≡ Some t → (n ≡ o) ⊎ ((r ≡ OK) × IsByOwner o op n)
of_own o t Lock OK n p mine = absurd (cc (mine, p.1))
of_own o t Lock EOWNERDEAD n p mine = absurd (cc (mine, p.1))
of_own o t Lock ENOTRECOVERABLE n p mine = inl p.1
of_own o t Lock EDEADLK n p mine = inl p.1
of_own o t TryLock OK n p mine = absurd (cc (mine, p.1))
of_own o t TryLock EOWNERDEAD n p mine = absurd (cc (mine, p.1))
of_own o t TryLock ENOTRECOVERABLE n p mine = inl p.1
of_own o t TryLock EBUSY n p mine = inl p.1
of_own o t TryLock XRACED n p mine = inl p.2
of_own o t TimedLock ETIMEDOUT n p mine = inl p
of_own o t Unlock OK n p mine = inr (refl, (ap (λ (z : Object). z.owner) p.1, ap (λ (z : Object). z.inconsistent) p.1, ap (λ (z : Object). z.unusable) p.1))
of_own o t Unlock EPERM n p mine = inl p.1
of_own o t Consistent OK n p mine = inr (refl, (p.1, ap (λ (z : Object). z.owner) p.2, ap (λ (z : Object). z.inconsistent) p.2, ap (λ (z : Object). z.unusable) p.2))
of_own o t Consistent EINVAL n p mine = inl p.2
of_own o t Consistent EPERM n p mine = inl p.1
of_own o t Wait XSTATE n p mine = inl p.2
of_own o t Wait EPERM n p mine = inl p.1
of_own o t Signal OK n p mine = inl p.1
of_own o t Signal XFULL n p mine = inl p.1
of_own o t Signal EPERM n p mine = inl p.1
of_own o t Broadcast OK n p mine = inl p.1
of_own o t Broadcast XFULL n p mine = inl p.1
of_own o t Broadcast EPERM n p mine = inl p.1
of_own o t Death OK n p mine = inr (refl, (ap (λ (z : Object). z.owner) p.1, ap (λ (z : Object). z.inconsistent) p.1, ap (λ (z : Object). z.unusable) p.1))
of_own o t Reinit OK n p mine = absurd (cc (mine, p.1))
of_own o t op r n p mine = absurd p

-- steps that take
of_taking : (o : Object) (t : ℕ) (op : Operation) (r : Reply) (n : Object) → Permits o t op r n → acquires op ≡ true → (r ≡ OK) ⊎ (r ≡ EOWNERDEAD) → n.owner ≡ Some t
of_taking o t Lock OK n p is told = ap (λ (z : Object). z.owner) p.3
of_taking o t Lock EOWNERDEAD n p is told = ap (λ (z : Object). z.owner) p.3
of_taking o t Lock ENOTRECOVERABLE n p is told = ⊎_elim (λ (e : ENOTRECOVERABLE ≡ OK). absurd (cc e)) (λ (e : ENOTRECOVERABLE ≡ EOWNERDEAD). absurd (cc e)) told
of_taking o t Lock EDEADLK n p is told = ⊎_elim (λ (e : EDEADLK ≡ OK). absurd (cc e)) (λ (e : EDEADLK ≡ EOWNERDEAD). absurd (cc e)) told
of_taking o t TryLock OK n p is told = ap (λ (z : Object). z.owner) p.3
of_taking o t TryLock EOWNERDEAD n p is told = ap (λ (z : Object). z.owner) p.3
of_taking o t TryLock ENOTRECOVERABLE n p is told = ⊎_elim (λ (e : ENOTRECOVERABLE ≡ OK). absurd (cc e)) (λ (e : ENOTRECOVERABLE ≡ EOWNERDEAD). absurd (cc e)) told
of_taking o t TryLock EBUSY n p is told = ⊎_elim (λ (e : EBUSY ≡ OK). absurd (cc e)) (λ (e : EBUSY ≡ EOWNERDEAD). absurd (cc e)) told
of_taking o t TryLock XRACED n p is told = ⊎_elim (λ (e : XRACED ≡ OK). absurd (cc e)) (λ (e : XRACED ≡ EOWNERDEAD). absurd (cc e)) told
of_taking o t TimedLock ETIMEDOUT n p is told = ⊎_elim (λ (e : ETIMEDOUT ≡ OK). absurd (cc e)) (λ (e : ETIMEDOUT ≡ EOWNERDEAD). absurd (cc e)) told
of_taking o t Unlock OK n p is told = absurd cc
of_taking o t Unlock EPERM n p is told = absurd cc
of_taking o t Consistent OK n p is told = absurd cc
of_taking o t Consistent EINVAL n p is told = absurd cc
of_taking o t Consistent EPERM n p is told = absurd cc
of_taking o t Wait XSTATE n p is told = absurd cc
of_taking o t Wait EPERM n p is told = absurd cc
of_taking o t Signal OK n p is told = absurd cc
of_taking o t Signal XFULL n p is told = absurd cc
of_taking o t Signal EPERM n p is told = absurd cc
of_taking o t Broadcast OK n p is told = absurd cc
of_taking o t Broadcast XFULL n p is told = absurd cc
of_taking o t Broadcast EPERM n p is told = absurd cc
of_taking o t Death OK n p is told = absurd cc
of_taking o t Reinit OK n p is told = absurd cc
of_taking o t op r n p is told = absurd p

-- steps that release
of_freeing : (o : Object) (t : ℕ) (op : Operation) (r : Reply) (n : Object) → Permits o t op r n → releases op ≡ true → r ≡ OK → (o.owner ≡ Some t) × (n.owner ≡ None)
of_freeing o t Lock OK n p is told = absurd cc
of_freeing o t Lock EOWNERDEAD n p is told = absurd cc
of_freeing o t Lock ENOTRECOVERABLE n p is told = absurd cc
of_freeing o t Lock EDEADLK n p is told = absurd cc
of_freeing o t TryLock OK n p is told = absurd cc
of_freeing o t TryLock EOWNERDEAD n p is told = absurd cc
of_freeing o t TryLock ENOTRECOVERABLE n p is told = absurd cc
of_freeing o t TryLock EBUSY n p is told = absurd cc
of_freeing o t TryLock XRACED n p is told = absurd cc
of_freeing o t TimedLock ETIMEDOUT n p is told = absurd cc
of_freeing o t Unlock OK n p is told = (p.0, ap (λ (z : Object). z.owner) p.1)
of_freeing o t Unlock EPERM n p is told = absurd cc
of_freeing o t Consistent OK n p is told = absurd cc
of_freeing o t Consistent EINVAL n p is told = absurd cc
of_freeing o t Consistent EPERM n p is told = absurd cc
of_freeing o t Wait XSTATE n p is told = absurd cc
of_freeing o t Wait EPERM n p is told = absurd cc
of_freeing o t Signal OK n p is told = absurd cc
of_freeing o t Signal XFULL n p is told = absurd cc
of_freeing o t Signal EPERM n p is told = absurd cc
of_freeing o t Broadcast OK n p is told = absurd cc
of_freeing o t Broadcast XFULL n p is told = absurd cc
of_freeing o t Broadcast EPERM n p is told = absurd cc
of_freeing o t Death OK n p is told = (p.0, ap (λ (z : Object). z.owner) p.1)
of_freeing o t Reinit OK n p is told = absurd cc
of_freeing o t op r n p is told = absurd p

permitted : (o : Object) (t : ℕ) (op : Operation) (r : Reply) (n : Object) → Permits o t op r n → ChangesWithReason o t op r n
permitted o t op r n p = record {
  usable = of_usable o t op r n p;
  unusable = of_unusable o t op r n p;
  own = of_own o t op r n p;
  others = λ u own apart. others_keep o n t u op r own apart p;
  takes = of_taking o t op r n p;
  frees = of_freeing o t op r n p;
}

first : (a b : Bool) → (a && b) ≡ true → a ≡ true
first true b e = refl
first false b e = e

-- what takes a mutex doesn't release it
apart : (op : Operation) → acquires op ≡ true → releases op ≡ true → ⊥
apart Lock a b = cc
apart TryLock a b = cc
apart TimedLock a b = cc
apart op a b = cc

-- a thread that holds as many as it may
refused : (o : Object) (t : ℕ) (op : Operation) (r : Reply) (n : Object) → acquires op ≡ true → (r ≡ XHELD) × (n ≡ o) → ChangesWithReason o t op r n
refused o t op r n is h = record {
  usable = λ none us. inl h.1;
  unusable = λ none us. inl h.1;
  own = λ mine. inl h.1;
  others = λ u own apart. h.1;
  takes = λ is told. ⊎_elim (λ (e : r ≡ OK). absurd (cc (h.0, e))) (λ (e : r ≡ EOWNERDEAD). absurd (cc (h.0, e))) told;
  frees = λ frees told. absurd (apart op is frees);
}

pub reasons : ChangesHaveReasons
reasons held o t op r n h = by_cases (acquires op && nat_le 2048 held) refl h where
  by_cases : (b : Bool) → (acquires op && nat_le 2048 held) ≡ b → MatchBool b ((r ≡ XHELD) × (n ≡ o)) (Permits o t op r n) → ChangesWithReason o t op r n
  by_cases true e h = refused o t op r n (first (acquires op) (nat_le 2048 held) e) h
  by_cases false e h = permitted o t op r n h
