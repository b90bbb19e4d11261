-- What a thread holds.
use Rattle.std.proofs.Common.{Bool, true, false, ◌≡◌, ◌≢◌, ℕ, zero, suc, ◌+◌, ◌==◌, Option, Some, None, List, [], ◌∷◌, ◌++◌, refl, sym, ap, ◌∙◌, subst, arith, eq-eqb, ne_eqb, eqb-true}
use Rattle.std.specs.Prelude.{if◌then◌else◌}
use Rattle.std.proofs.lemmas.Bool.{eqb-false}
use Rattle.lockword.specs.declared.reply.Reply.{Reply}
use Rattle.lockword.specs.declared.reply.Reply.TheVariants.{OK, EPERM, EBUSY, EINVAL, EDEADLK, ETIMEDOUT, EOWNERDEAD, ENOTRECOVERABLE, XRACED, XFULL, XSTATE}
use Rattle.posixmutex.specs.declared.point.Operation.{Operation}
use Rattle.posixmutex.specs.declared.point.Operation.TheVariants.{Lock, TryLock, TimedLock, Unlock, Consistent, Wait, Signal, Broadcast, Death, Reinit}
use Rattle.posixmutex.specs.declared.point.Point.{Point}
use Rattle.posixmutex.specs.declared.object.Object.{Object}
use Rattle.posixmutex.specs.Histories.{is_thread}
use Rattle.posixmutex.specs.Objects.{Permits, Run}
use Rattle.ruledwords.specs.declared.pass.Card.{Card}
use Rattle.ruledwords.specs.Cards.{at}
use Rattle.ruledwords.specs.Seen.{by, holds_after, held_after, holds, count_held, held, Sees}
use Rattle.ruledwords.specs.Calls.{count_by, count_after}
use Rattle.ruledwords.proofs.Lists.{told}

abbrev pub owns : ℕ → Object → Bool
owns t o = is_thread t o.owner

owns_own : (t : ℕ) (o : Object) → o.owner ≡ Some t → owns t o ≡ true
owns_own t o e = ap (is_thread t) e ∙ eq-eqb t t refl

owns_none : (t : ℕ) (o : Object) → o.owner ≡ None → owns t o ≡ false
owns_none t o e = ap (is_thread t) e

owns_other : (t u : ℕ) (o : Object) → o.owner ≡ Some u → u ≢ t → owns t o ≡ false
owns_other t u o e apart = ap (is_thread t) e ∙ ne_eqb u t apart

-- a mutex has one owner
pub owns_one : (t u : ℕ) (o : Object) → t ≢ u → owns t o ≡ true → owns u o ≡ false
owns_one t u o apart mine = go o.owner mine
  where
    go : (w : Option ℕ) → is_thread t w ≡ true → is_thread u w ≡ false
    go None e = refl
    go (Some v) e = ne_eqb v u (λ same. apart (sym (eqb-true v t e) ∙ same))

-- its own point: the thread owns the mutex exactly where it holds it
own_point : (o n : Object) (t : ℕ) (op : Operation) (x : Reply) → Permits o t op x n → holds_after (owns t o) op x ≡ owns t n
own_point o n t Lock OK p = sym (owns_own t n (ap (λ (z : Object). z.owner) p.3))
own_point o n t Lock EOWNERDEAD p = sym (owns_own t n (ap (λ (z : Object). z.owner) p.3))
own_point o n t Lock ENOTRECOVERABLE p = ap (owns t) (sym p.1)
own_point o n t Lock EDEADLK p = ap (owns t) (sym p.1)
own_point o n t TryLock OK p = sym (owns_own t n (ap (λ (z : Object). z.owner) p.3))
own_point o n t TryLock EOWNERDEAD p = sym (owns_own t n (ap (λ (z : Object). z.owner) p.3))
own_point o n t TryLock ENOTRECOVERABLE p = ap (owns t) (sym p.1)
own_point o n t TryLock EBUSY p = ap (owns t) (sym p.1)
own_point o n t TryLock XRACED p = ap (owns t) (sym p.2)
own_point o n t TimedLock ETIMEDOUT p = ap (owns t) (sym p)
own_point o n t Unlock OK p = sym (owns_none t n (ap (λ (z : Object). z.owner) p.1))
own_point o n t Unlock EPERM p = ap (owns t) (sym p.1)
own_point o n t Consistent OK p = ap (λ (z : Object). owns t z) (sym p.2)
own_point o n t Consistent EINVAL p = ap (owns t) (sym p.2)
own_point o n t Consistent EPERM p = ap (owns t) (sym p.1)
own_point o n t Wait XSTATE p = ap (owns t) (sym p.2)
own_point o n t Wait EPERM p = ap (owns t) (sym p.1)
own_point o n t Signal OK p = ap (owns t) (sym p.1)
own_point o n t Signal XFULL p = ap (owns t) (sym p.1)
own_point o n t Signal EPERM p = ap (owns t) (sym p.1)
own_point o n t Broadcast OK p = ap (owns t) (sym p.1)
own_point o n t Broadcast XFULL p = ap (owns t) (sym p.1)
own_point o n t Broadcast EPERM p = ap (owns t) (sym p.1)
own_point o n t Death OK p = sym (owns_none t n (ap (λ (z : Object). z.owner) p.1))
own_point o n t Reinit OK p = owns_none t o p.1 ∙ sym (owns_none t n (ap (λ (z : Object). z.owner) p.2))
own_point o n t op x p = absurd p

-- another's point: nothing changes for the thread
other_point : (o n : Object) (t u : ℕ) (op : Operation) (x : Reply) → u ≢ t → Permits o u op x n → owns t o ≡ owns t n
other_point o n t u Lock OK apart p = owns_none t o p.1 ∙ sym (owns_other t u n (ap (λ (z : Object). z.owner) p.3) apart)
other_point o n t u Lock EOWNERDEAD apart p = owns_none t o p.1 ∙ sym (owns_other t u n (ap (λ (z : Object). z.owner) p.3) apart)
other_point o n t u Lock ENOTRECOVERABLE apart p = ap (owns t) (sym p.1)
other_point o n t u Lock EDEADLK apart p = ap (owns t) (sym p.1)
other_point o n t u TryLock OK apart p = owns_none t o p.1 ∙ sym (owns_other t u n (ap (λ (z : Object). z.owner) p.3) apart)
other_point o n t u TryLock EOWNERDEAD apart p = owns_none t o p.1 ∙ sym (owns_other t u n (ap (λ (z : Object). z.owner) p.3) apart)
other_point o n t u TryLock ENOTRECOVERABLE apart p = ap (owns t) (sym p.1)
other_point o n t u TryLock EBUSY apart p = ap (owns t) (sym p.1)
other_point o n t u TryLock XRACED apart p = ap (owns t) (sym p.2)
other_point o n t u TimedLock ETIMEDOUT apart p = ap (owns t) (sym p)
other_point o n t u Unlock OK apart p = owns_other t u o p.0 apart ∙ sym (owns_none t n (ap (λ (z : Object). z.owner) p.1))
other_point o n t u Unlock EPERM apart p = ap (owns t) (sym p.1)
other_point o n t u Consistent OK apart p = ap (λ (z : Object). owns t z) (sym p.2)
other_point o n t u Consistent EINVAL apart p = ap (owns t) (sym p.2)
other_point o n t u Consistent EPERM apart p = ap (owns t) (sym p.1)
other_point o n t u Wait XSTATE apart p = ap (owns t) (sym p.2)
other_point o n t u Wait EPERM apart p = ap (owns t) (sym p.1)
other_point o n t u Signal OK apart p = ap (owns t) (sym p.1)
other_point o n t u Signal XFULL apart p = ap (owns t) (sym p.1)
other_point o n t u Signal EPERM apart p = ap (owns t) (sym p.1)
other_point o n t u Broadcast OK apart p = ap (owns t) (sym p.1)
other_point o n t u Broadcast XFULL apart p = ap (owns t) (sym p.1)
other_point o n t u Broadcast EPERM apart p = ap (owns t) (sym p.1)
other_point o n t u Death OK apart p = owns_other t u o p.0 apart ∙ sym (owns_none t n (ap (λ (z : Object). z.owner) p.1))
other_point o n t u Reinit OK apart p = owns_none t o p.1 ∙ sym (owns_none t n (ap (λ (z : Object). z.owner) p.2))
other_point o n t u op x apart p = absurd p

-- after any points, the thread owns the mutex exactly where it holds it by its own
pub owner_held : (t : ℕ) (o : Object) (xs : List Point) (n : Object) → Run o xs n → held_after (owns t o) (by t xs) ≡ owns t n
owner_held t o [] n r = ap (owns t) (sym r)
owner_held t o (x ∷ xs) n r = go (owner_held t r.0 xs n r.2) (x.thread == t) refl
  where
    go : held_after (owns t r.0) (by t xs) ≡ owns t n → (b : Bool) → (x.thread == t) ≡ b → held_after (owns t o) (if b then x ∷ by t xs else by t xs) ≡ owns t n
    go rest true is = ap (λ (z : Bool). held_after z (by t xs)) (own_point o r.0 t x.operation x.reply (subst (λ (u : ℕ). Permits o u x.operation x.reply r.0) (eqb-true x.thread t is) r.1)) ∙ rest
    go rest false is = ap (λ (z : Bool). held_after z (by t xs)) (other_point o r.0 t x.thread x.operation x.reply (eqb-false x.thread t is) r.1) ∙ rest

-- a run of others' points leaves what a thread owns
pub others_run : (t : ℕ) (o : Object) (xs : List Point) (n : Object) → by t xs ≡ [] → Run o xs n → owns t o ≡ owns t n
others_run t o xs n none r = ap (held_after (owns t o)) (sym none) ∙ owner_held t o xs n r

pub held_append : (b : Bool) (xs ys : List Point) → held_after b (xs ++ ys) ≡ held_after (held_after b xs) ys
held_append b [] ys = refl
held_append b (x ∷ xs) ys = held_append (holds_after b x.operation x.reply) xs ys

-- ---- counts

abbrev one : Bool → ℕ
one b = if b then 1 else 0

-- lists that say the same of each mutex count the same
pub count_same : (t : ℕ) (xs ys : List (List Point)) → ((p : ℕ) → holds t (at xs p) ≡ holds t (at ys p)) → count_held t xs ≡ count_held t ys
count_same t [] [] same = refl
count_same t [] (y ∷ ys) same = let a : 0 ≡ one (holds t y) = ap one (same 0) in let b : 0 ≡ count_held t ys = count_same t [] ys (λ p. same (suc p)) in omega arith
count_same t (x ∷ xs) [] same = let a : one (holds t x) ≡ 0 = ap one (same 0) in let b : count_held t xs ≡ 0 = count_same t xs [] (λ p. same (suc p)) in omega arith
count_same t (x ∷ xs) (y ∷ ys) same = let a : one (holds t x) ≡ one (holds t y) = ap one (same 0) in let b = count_same t xs ys (λ p. same (suc p)) in omega arith

-- lists that differ at one place
pub count_changed : (t : ℕ) (xs ys : List (List Point)) (p : ℕ) → ((q : ℕ) → q ≢ p → holds t (at xs q) ≡ holds t (at ys q)) → count_held t xs + one (holds t (at ys p)) ≡ count_held t ys + one (holds t (at xs p))
count_changed t [] [] zero same = refl
count_changed t [] (y ∷ ys) zero same = let b : 0 ≡ count_held t ys = count_same t [] ys (λ q. same (suc q) (λ e. cc e)) in omega arith
count_changed t (x ∷ xs) [] zero same = let b : count_held t xs ≡ 0 = count_same t xs [] (λ q. same (suc q) (λ e. cc e)) in omega arith
count_changed t (x ∷ xs) (y ∷ ys) zero same = let b = count_same t xs ys (λ q. same (suc q) (λ e. cc e)) in omega arith
count_changed t [] [] (suc p) same = refl
count_changed t [] (y ∷ ys) (suc p) same = let a : 0 ≡ one (holds t y) = ap one (same 0 (λ e. cc e)) in let b = count_changed t [] ys p (λ q n. same (suc q) (λ e. n (cc e))) in omega arith
count_changed t (x ∷ xs) [] (suc p) same = let a : one (holds t x) ≡ 0 = ap one (same 0 (λ e. cc e)) in let b = count_changed t xs [] p (λ q n. same (suc q) (λ e. n (cc e))) in omega arith
count_changed t (x ∷ xs) (y ∷ ys) (suc p) same =
    let a : one (holds t x) ≡ one (holds t y) = ap one (same 0 (λ e. cc e)) in let b = count_changed t xs ys p (λ q n. same (suc q) (λ e. n (cc e))) in omega arith

-- how a point of the thread changes the count h, where it held the mutex as the object says
counted_point : (o n : Object) (t h h' : ℕ) (op : Operation) (x : Reply) → Permits o t op x n → h + one (owns t n) ≡ h' + one (owns t o) → h' ≡ count_by h op x
counted_point o n t h h' Lock OK p e = let a = owns_none t o p.1 in let b = owns_own t n (ap (λ (z : Object). z.owner) p.3) in let c = ap one a in let d = ap one b in omega arith
counted_point o n t h h' Lock EOWNERDEAD p e = let c = ap one (owns_none t o p.1) in let d = ap one (owns_own t n (ap (λ (z : Object). z.owner) p.3)) in omega arith
counted_point o n t h h' Lock ENOTRECOVERABLE p e = let c : one (owns t n) ≡ one (owns t o) = ap (λ (z : Object). one (owns t z)) p.1 in omega arith
counted_point o n t h h' Lock EDEADLK p e = let c : one (owns t n) ≡ one (owns t o) = ap (λ (z : Object). one (owns t z)) p.1 in omega arith
counted_point o n t h h' TryLock OK p e = let c = ap one (owns_none t o p.1) in let d = ap one (owns_own t n (ap (λ (z : Object). z.owner) p.3)) in omega arith
counted_point o n t h h' TryLock EOWNERDEAD p e = let c = ap one (owns_none t o p.1) in let d = ap one (owns_own t n (ap (λ (z : Object). z.owner) p.3)) in omega arith
counted_point o n t h h' TryLock ENOTRECOVERABLE p e = let c : one (owns t n) ≡ one (owns t o) = ap (λ (z : Object). one (owns t z)) p.1 in omega arith
counted_point o n t h h' TryLock EBUSY p e = let c : one (owns t n) ≡ one (owns t o) = ap (λ (z : Object). one (owns t z)) p.1 in omega arith
counted_point o n t h h' TryLock XRACED p e = let c : one (owns t n) ≡ one (owns t o) = ap (λ (z : Object). one (owns t z)) p.2 in omega arith
counted_point o n t h h' TimedLock ETIMEDOUT p e = let c : one (owns t n) ≡ one (owns t o) = ap (λ (z : Object). one (owns t z)) p in omega arith
counted_point o n t h h' Unlock OK p e = let c = ap one (owns_own t o p.0) in let d = ap one (owns_none t n (ap (λ (z : Object). z.owner) p.1)) in omega arith
counted_point o n t h h' Unlock EPERM p e = let c : one (owns t n) ≡ one (owns t o) = ap (λ (z : Object). one (owns t z)) p.1 in omega arith
counted_point o n t h h' Consistent OK p e = let c : one (owns t n) ≡ one (owns t o) = ap (λ (z : Object). one (owns t z)) p.2 in omega arith
counted_point o n t h h' Consistent EINVAL p e = let c : one (owns t n) ≡ one (owns t o) = ap (λ (z : Object). one (owns t z)) p.2 in omega arith
counted_point o n t h h' Consistent EPERM p e = let c : one (owns t n) ≡ one (owns t o) = ap (λ (z : Object). one (owns t z)) p.1 in omega arith
counted_point o n t h h' Wait XSTATE p e = let c : one (owns t n) ≡ one (owns t o) = ap (λ (z : Object). one (owns t z)) p.2 in omega arith
counted_point o n t h h' Wait EPERM p e = let c : one (owns t n) ≡ one (owns t o) = ap (λ (z : Object). one (owns t z)) p.1 in omega arith
counted_point o n t h h' Signal OK p e = let c : one (owns t n) ≡ one (owns t o) = ap (λ (z : Object). one (owns t z)) p.1 in omega arith
counted_point o n t h h' Signal XFULL p e = let c : one (owns t n) ≡ one (owns t o) = ap (λ (z : Object). one (owns t z)) p.1 in omega arith
counted_point o n t h h' Signal EPERM p e = let c : one (owns t n) ≡ one (owns t o) = ap (λ (z : Object). one (owns t z)) p.1 in omega arith
counted_point o n t h h' Broadcast OK p e = let c : one (owns t n) ≡ one (owns t o) = ap (λ (z : Object). one (owns t z)) p.1 in omega arith
counted_point o n t h h' Broadcast XFULL p e = let c : one (owns t n) ≡ one (owns t o) = ap (λ (z : Object). one (owns t z)) p.1 in omega arith
counted_point o n t h h' Broadcast EPERM p e = let c : one (owns t n) ≡ one (owns t o) = ap (λ (z : Object). one (owns t z)) p.1 in omega arith
counted_point o n t h h' Death OK p e = let c = ap one (owns_own t o p.0) in let d = ap one (owns_none t n (ap (λ (z : Object). z.owner) p.1)) in omega arith
counted_point o n t h h' Reinit OK p e = let c = ap one (owns_none t o p.1) in let d = ap one (owns_none t n (ap (λ (z : Object). z.owner) p.2)) in omega arith
counted_point o n t h h' op x p e = absurd p

-- what a thread holds after it saw more, by its point if there was one
pub held_sees : (c : Card) (p : ℕ) (op : Operation) (r : Option Reply) (o n : Object) (d : Card) → Sees c p (told c.thread p op r) n d → Run o (told c.thread p op r) n → holds c.thread (at c.seen p) ≡ owns c.thread o
    → held d ≡ count_after (held c) (Rattle.mutex.specs.Programs.point_of c.thread p op r)
held_sees c p op r o n d s run holder =
    let t : ℕ = c.thread in
    let h' : ℕ = count_held t d.seen in
    let h : ℕ = count_held t c.seen in
    let moved : h + one (holds t (at d.seen p)) ≡ h' + one (holds t (at c.seen p)) = count_changed t c.seen d.seen p (λ q other. ap (holds t) (sym (s.elsewhere q other))) in
    ap (λ (z : ℕ). count_held z d.seen) s.thread ∙ go r run (subst (λ (x : Bool). h + one (holds t (at d.seen p)) ≡ h' + one x) holder moved) (ap (held_after false) s.own ∙ held_append false (by t (at c.seen p)) (told t p op r) ∙ ap (λ (z : Bool). held_after z (told t p op r)) holder)
  where
    go : (r : Option Reply) → Run o (told c.thread p op r) n → count_held c.thread c.seen + one (holds c.thread (at d.seen p)) ≡ count_held c.thread d.seen + one (owns c.thread o) → holds c.thread (at d.seen p) ≡ held_after (owns c.thread o) (told c.thread p op r)
        → count_held c.thread d.seen ≡ count_after (count_held c.thread c.seen) (Rattle.mutex.specs.Programs.point_of c.thread p op r)
    go None run moved is = let e = ap one is in omega arith
    go (Some x) run moved is =
        counted_point o run.0 c.thread (count_held c.thread c.seen) (count_held c.thread d.seen) op x run.1
        (subst (λ (b : Bool). count_held c.thread c.seen + one b ≡ count_held c.thread d.seen + one (owns c.thread o)) (is ∙ own_point o run.0 c.thread op x run.1) moved)
