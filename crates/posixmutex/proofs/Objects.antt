-- What runs of points do to a mutex.
use Rattle.std.proofs.Common.{◌≡◌, ◌≢◌, ℕ, true, Some, None, List, [], ◌∷◌, ◌++◌, refl, sym, ap, ◌∙◌, subst}
use Rattle.lockword.specs.declared.reply.Reply.{Reply}
use Rattle.lockword.specs.declared.reply.Reply.TheVariants.{OK, EPERM, EBUSY, EINVAL, EDEADLK, ETIMEDOUT, EOWNERDEAD, ENOTRECOVERABLE, XRACED, XFULL, XSTATE}
use Rattle.posixmutex.specs.declared.point.Operation.{Operation}
use Rattle.posixmutex.specs.declared.point.Operation.TheVariants.{Lock, TryLock, TimedLock, Unlock, Consistent, Wait, Signal, Broadcast, Death, Reinit}
use Rattle.posixmutex.specs.declared.point.Point.{Point}
use Rattle.posixmutex.specs.declared.object.Object.{Object}
use Rattle.posixmutex.specs.Objects.{Permits, Run}

-- each reply leaves one object
pub permits_same : (o : Object) (t : ℕ) (op : Operation) (x : Reply) (m n : Object) → Permits o t op x m → Permits o t op x n → m ≡ n
permits_same o t Lock OK m n a b = a.3 ∙ sym b.3
permits_same o t Lock EOWNERDEAD m n a b = a.3 ∙ sym b.3
permits_same o t Lock ENOTRECOVERABLE m n a b = a.1 ∙ sym b.1
permits_same o t Lock EDEADLK m n a b = a.1 ∙ sym b.1
permits_same o t TryLock OK m n a b = a.3 ∙ sym b.3
permits_same o t TryLock EOWNERDEAD m n a b = a.3 ∙ sym b.3
permits_same o t TryLock ENOTRECOVERABLE m n a b = a.1 ∙ sym b.1
permits_same o t TryLock EBUSY m n a b = a.1 ∙ sym b.1
permits_same o t TryLock XRACED m n a b = a.2 ∙ sym b.2
permits_same o t TimedLock ETIMEDOUT m n a b = a ∙ sym b
permits_same o t Unlock OK m n a b = a.1 ∙ sym b.1
permits_same o t Unlock EPERM m n a b = a.1 ∙ sym b.1
permits_same o t Consistent OK m n a b = a.2 ∙ sym b.2
permits_same o t Consistent EINVAL m n a b = a.2 ∙ sym b.2
permits_same o t Consistent EPERM m n a b = a.1 ∙ sym b.1
permits_same o t Wait XSTATE m n a b = a.2 ∙ sym b.2
permits_same o t Wait EPERM m n a b = a.1 ∙ sym b.1
permits_same o t Signal OK m n a b = a.1 ∙ sym b.1
permits_same o t Signal XFULL m n a b = a.1 ∙ sym b.1
permits_same o t Signal EPERM m n a b = a.1 ∙ sym b.1
permits_same o t Broadcast OK m n a b = a.1 ∙ sym b.1
permits_same o t Broadcast XFULL m n a b = a.1 ∙ sym b.1
permits_same o t Broadcast EPERM m n a b = a.1 ∙ sym b.1
permits_same o t Death OK m n a b = a.1 ∙ sym b.1
permits_same o t Reinit OK m n a b = a.2 ∙ sym b.2
permits_same o t op x m n a b = absurd a

-- points leave one object
pub run_same : (o m n : Object) (xs : List Point) → Run o xs m → Run o xs n → m ≡ n
run_same o m n [] a b = a ∙ sym b
run_same o m n (x ∷ xs) a b = run_same a.0 m n xs a.2 (subst (λ (z : Object). Run z xs n) (permits_same o x.thread x.operation x.reply b.0 a.0 b.1 a.1) b.2)

pub run_split : (o n : Object) (xs ys : List Point) → Run o (xs ++ ys) n → (m : Object) × Run o xs m × Run m ys n
run_split o n [] ys h = (o, refl, h)
run_split o n (x ∷ xs) ys h = let r = run_split h.0 n xs ys h.2 in (r.0, (h.0, h.1, r.1), r.2)

pub run_append : (o m n : Object) (xs ys : List Point) → Run o xs m → Run m ys n → Run o (xs ++ ys) n
run_append o m n [] ys e r = subst (λ (z : Object). Run z ys n) e r
run_append o m n (x ∷ xs) ys h r = (h.0, h.1, run_append h.0 m n xs ys h.2 r)

-- another thread changes nothing of an owned mutex
pub others_keep : (o n : Object) (t u : ℕ) (op : Operation) (x : Reply) → o.owner ≡ Some u → t ≢ u → Permits o t op x n → n ≡ o
others_keep o n t u Lock OK own apart p = absurd (cc (own, p.1))
others_keep o n t u Lock EOWNERDEAD own apart p = absurd (cc (own, p.1))
others_keep o n t u Lock ENOTRECOVERABLE own apart p = p.1
others_keep o n t u Lock EDEADLK own apart p = p.1
others_keep o n t u TryLock OK own apart p = absurd (cc (own, p.1))
others_keep o n t u TryLock EOWNERDEAD own apart p = absurd (cc (own, p.1))
others_keep o n t u TryLock ENOTRECOVERABLE own apart p = p.1
others_keep o n t u TryLock EBUSY own apart p = p.1
others_keep o n t u TryLock XRACED own apart p = p.2
others_keep o n t u TimedLock ETIMEDOUT own apart p = p
others_keep o n t u Unlock OK own apart p = let same : t ≡ u = cc (own, p.0) in absurd (apart same)
others_keep o n t u Unlock EPERM own apart p = p.1
others_keep o n t u Consistent OK own apart p = let same : t ≡ u = cc (own, p.0) in absurd (apart same)
others_keep o n t u Consistent EINVAL own apart p = p.2
others_keep o n t u Consistent EPERM own apart p = p.1
others_keep o n t u Wait XSTATE own apart p = p.2
others_keep o n t u Wait EPERM own apart p = p.1
others_keep o n t u Signal OK own apart p = p.1
others_keep o n t u Signal XFULL own apart p = p.1
others_keep o n t u Signal EPERM own apart p = p.1
others_keep o n t u Broadcast OK own apart p = p.1
others_keep o n t u Broadcast XFULL own apart p = p.1
others_keep o n t u Broadcast EPERM own apart p = p.1
others_keep o n t u Death OK own apart p = let same : t ≡ u = cc (own, p.0) in absurd (apart same)
others_keep o n t u Reinit OK own apart p = absurd (cc (own, p.1))
others_keep o n t u op x own apart p = absurd p

-- an unusable mutex stays without an owner
pub permits_sound : (o : Object) (t : ℕ) (op : Operation) (x : Reply) (n : Object) → (o.unusable ≡ true → o.owner ≡ None) → Permits o t op x n → n.unusable ≡ true → n.owner ≡ None
permits_sound o t Lock OK n is a u = absurd (cc (a.0, ap (λ (z : Object). z.unusable) a.3, u))
permits_sound o t Lock EOWNERDEAD n is a u = absurd (cc (a.0, ap (λ (z : Object). z.unusable) a.3, u))
permits_sound o t Lock ENOTRECOVERABLE n is a u = subst (λ (z : Object). z.unusable ≡ true → z.owner ≡ None) (sym a.1) is u
permits_sound o t Lock EDEADLK n is a u = subst (λ (z : Object). z.unusable ≡ true → z.owner ≡ None) (sym a.1) is u
permits_sound o t TryLock OK n is a u = absurd (cc (a.0, ap (λ (z : Object). z.unusable) a.3, u))
permits_sound o t TryLock EOWNERDEAD n is a u = absurd (cc (a.0, ap (λ (z : Object). z.unusable) a.3, u))
permits_sound o t TryLock ENOTRECOVERABLE n is a u = subst (λ (z : Object). z.unusable ≡ true → z.owner ≡ None) (sym a.1) is u
permits_sound o t TryLock EBUSY n is a u = subst (λ (z : Object). z.unusable ≡ true → z.owner ≡ None) (sym a.1) is u
permits_sound o t TryLock XRACED n is a u = subst (λ (z : Object). z.unusable ≡ true → z.owner ≡ None) (sym a.2) is u
permits_sound o t TimedLock ETIMEDOUT n is a u = subst (λ (z : Object). z.unusable ≡ true → z.owner ≡ None) (sym a) is u
permits_sound o t Unlock OK n is a u = ap (λ (z : Object). z.owner) a.1
permits_sound o t Unlock EPERM n is a u = subst (λ (z : Object). z.unusable ≡ true → z.owner ≡ None) (sym a.1) is u
permits_sound o t Consistent OK n is a u = ap (λ (z : Object). z.owner) a.2 ∙ is (sym (ap (λ (z : Object). z.unusable) a.2) ∙ u)
permits_sound o t Consistent EINVAL n is a u = subst (λ (z : Object). z.unusable ≡ true → z.owner ≡ None) (sym a.2) is u
permits_sound o t Consistent EPERM n is a u = subst (λ (z : Object). z.unusable ≡ true → z.owner ≡ None) (sym a.1) is u
permits_sound o t Wait XSTATE n is a u = subst (λ (z : Object). z.unusable ≡ true → z.owner ≡ None) (sym a.2) is u
permits_sound o t Wait EPERM n is a u = subst (λ (z : Object). z.unusable ≡ true → z.owner ≡ None) (sym a.1) is u
permits_sound o t Signal OK n is a u = subst (λ (z : Object). z.unusable ≡ true → z.owner ≡ None) (sym a.1) is u
permits_sound o t Signal XFULL n is a u = subst (λ (z : Object). z.unusable ≡ true → z.owner ≡ None) (sym a.1) is u
permits_sound o t Signal EPERM n is a u = subst (λ (z : Object). z.unusable ≡ true → z.owner ≡ None) (sym a.1) is u
permits_sound o t Broadcast OK n is a u = subst (λ (z : Object). z.unusable ≡ true → z.owner ≡ None) (sym a.1) is u
permits_sound o t Broadcast XFULL n is a u = subst (λ (z : Object). z.unusable ≡ true → z.owner ≡ None) (sym a.1) is u
permits_sound o t Broadcast EPERM n is a u = subst (λ (z : Object). z.unusable ≡ true → z.owner ≡ None) (sym a.1) is u
permits_sound o t Death OK n is a u = ap (λ (z : Object). z.owner) a.1
permits_sound o t Reinit OK n is a u = ap (λ (z : Object). z.owner) a.2
permits_sound o t op x n is a u = absurd a

pub run_sound : (o : Object) (xs : List Point) (n : Object) → (o.unusable ≡ true → o.owner ≡ None) → Run o xs n → n.unusable ≡ true → n.owner ≡ None
run_sound o [] n is r u = subst (λ (z : Object). z.unusable ≡ true → z.owner ≡ None) (sym r) is u
run_sound o (x ∷ xs) n is r u = run_sound r.0 xs n (permits_sound o x.thread x.operation x.reply r.0 is r.1) r.2 u
