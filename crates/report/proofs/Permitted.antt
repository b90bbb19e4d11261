-- What a mutex permits its only caller, and what it answers.
use Rattle.std.proofs.Common.{◌≡◌, ◌≢◌, ℕ, ◌==◌, Bool, true, false, nat_le, Option, Some, None, refl, sym, ap, ◌∙◌, subst, eq-eqb, ne_eqb}
use Rattle.std.specs.Prelude.{if◌then◌else◌, ◌||◌, MatchBool}
use Rattle.lockword.specs.declared.reply.Reply.{Reply}
use Rattle.lockword.specs.declared.reply.Reply.TheVariants.{OK, EPERM, EBUSY, EINVAL, EDEADLK, ETIMEDOUT, EOWNERDEAD, ENOTRECOVERABLE, XRACED, XHELD, XFULL, XSTATE}
use Rattle.posixmutex.specs.declared.object.Object.{Object}
use Rattle.posixmutex.specs.declared.point.Operation.{Operation}
use Rattle.posixmutex.specs.declared.point.Operation.TheVariants.{Lock, TryLock, TimedLock, Unlock, Consistent, Wait, TimedWait, Signal, Broadcast, Death, Reinit}
use Rattle.posixmutex.proofs.Steps.{determined}
use Rattle.posixmutex.specs.Objects.{held_limit, acquires, Does, freed, owned_by, Permits}
use Rattle.condvar.specs.Laws.{largest_counter}
use Rattle.report.specs.Lone.{answer, counting, MutexesPermitOnlyAnswers, by_owner, taken, taking, IsAnswer, IsByCounter}

-- ---- whose it is

mine_is : {A : Type 0} (t : ℕ) (a b c : A) → by_owner t (Some t) a b c ≡ b
mine_is t a b c = ap (λ (z : Bool). if z then b else c) (eq-eqb t t refl)

its_mine : {A : Type 0} (t : ℕ) (w : Option ℕ) (a b c : A) → w ≡ Some t → by_owner t w a b c ≡ b
its_mine t w a b c own = ap (λ (z : Option ℕ). by_owner t z a b c) own ∙ mine_is t a b c

not_mine : {A : Type 0} (t : ℕ) (w : Option ℕ) (a b : A) → w ≢ Some t → by_owner t w a b a ≡ a
not_mine t None a b other = refl
not_mine t (Some u) a b other = ap (λ (z : Bool). if z then b else a) (ne_eqb u t (λ e. other (ap Some e)))

some_ones : {A : Type 0} (t : ℕ) (w : Option ℕ) (a b : A) → w ≢ None → by_owner t w a b b ≡ b
some_ones t None a b owned = absurd (owned refl)
some_ones t (Some u) a b owned = go (u == t) where
  go : (z : Bool) → (if z then b else b) ≡ b
  go true = refl
  go false = refl

-- an unusable mutex has no owner
usable : (u : Bool) (w : Option ℕ) → (u ≡ true → w ≡ None) → w ≢ None → u ≡ false
usable true w sound owned = absurd (owned (sound refl))
usable false w sound owned = refl

owned_is : (t : ℕ) (w : Option ℕ) → w ≡ Some t → w ≢ None
owned_is t w own none = cc (own, none)

-- ---- locks

free_taking : (t : ℕ) (f u : Bool) (w : Option ℕ) (i j : Bool) (mine anothers : Option Reply) → f ≡ false → u ≡ false → w ≡ None → i ≡ j → taking t f u w i mine anothers ≡ Some (taken j)
free_taking t f u w i j mine anothers low fine none is = (λ z. taking t (low z) (fine z) (none z) (is z) mine anothers)

spoiled_taking : (t : ℕ) (f u : Bool) (w : Option ℕ) (i : Bool) (mine anothers : Option Reply) → f ≡ false → u ≡ true → taking t f u w i mine anothers ≡ Some ENOTRECOVERABLE
spoiled_taking t f u w i mine anothers low spoiled = (λ z. taking t (low z) (spoiled z) w i mine anothers)

owned_taking : (t : ℕ) (f u : Bool) (w : Option ℕ) (i : Bool) (mine anothers x : Option Reply) → f ≡ false → u ≡ false → by_owner t w (Some (taken i)) mine anothers ≡ x → taking t f u w i mine anothers ≡ x
owned_taking t f u w i mine anothers x low fine is = (λ z. taking t (low z) (fine z) w i mine anothers) ∙ is

pub full_taking : (t : ℕ) (f u : Bool) (w : Option ℕ) (i : Bool) (mine anothers : Option Reply) → f ≡ true → taking t f u w i mine anothers ≡ Some XHELD
full_taking t f u w i mine anothers full = (λ z. taking t (full z) u w i mine anothers)

-- ---- counters

counts_on : (v : ℕ) → v ≢ largest_counter → counting v ≡ OK
counts_on v free = ap (λ (b : Bool). if b then XFULL else OK) (ne_eqb v largest_counter free)

counts_no_more : (v : ℕ) → v ≡ largest_counter → counting v ≡ XFULL
counts_no_more v full = ap (λ (b : Bool). if b then XFULL else OK) (eq-eqb v largest_counter full)

-- ---- any operation

-- what the mutex permits is the answer
pub permits_answer : (h t v : ℕ) (o n : Object) (op : Operation) (r : Reply) → (acquires op ≡ true → nat_le held_limit h ≡ false) → (o.unusable ≡ true → o.owner ≡ None) → op ≢ Death → (op ≡ TryLock → r ≢ XRACED) → IsByCounter v op r → Permits o t op r n → IsAnswer h t v op o r
permits_answer h t v o n Lock OK low sound alive won by p = free_taking t _ o.unusable o.owner o.inconsistent false (Some EDEADLK) None (low refl) p.0 p.1 p.2
permits_answer h t v o n Lock EOWNERDEAD low sound alive won by p = free_taking t _ o.unusable o.owner o.inconsistent true (Some EDEADLK) None (low refl) p.0 p.1 p.2
permits_answer h t v o n Lock ENOTRECOVERABLE low sound alive won by p = spoiled_taking t _ o.unusable o.owner o.inconsistent (Some EDEADLK) None (low refl) p.0
permits_answer h t v o n Lock EDEADLK low sound alive won by p = owned_taking t _ o.unusable o.owner o.inconsistent (Some EDEADLK) None (Some EDEADLK) (low refl) (usable o.unusable o.owner sound (owned_is t o.owner p.0)) (its_mine t o.owner (Some (taken o.inconsistent)) (Some EDEADLK) None p.0)
permits_answer h t v o n TryLock OK low sound alive won by p = free_taking t _ o.unusable o.owner o.inconsistent false (Some EBUSY) (Some EBUSY) (low refl) p.0 p.1 p.2
permits_answer h t v o n TryLock EOWNERDEAD low sound alive won by p = free_taking t _ o.unusable o.owner o.inconsistent true (Some EBUSY) (Some EBUSY) (low refl) p.0 p.1 p.2
permits_answer h t v o n TryLock ENOTRECOVERABLE low sound alive won by p = spoiled_taking t _ o.unusable o.owner o.inconsistent (Some EBUSY) (Some EBUSY) (low refl) p.0
permits_answer h t v o n TryLock EBUSY low sound alive won by p = owned_taking t _ o.unusable o.owner o.inconsistent (Some EBUSY) (Some EBUSY) (Some EBUSY) (low refl) (usable o.unusable o.owner sound p.0) (some_ones t o.owner (Some (taken o.inconsistent)) (Some EBUSY) p.0)
permits_answer h t v o n TryLock XRACED low sound alive won by p = absurd (won refl refl)
permits_answer h t v o n TimedLock ETIMEDOUT low sound alive won by p = ap (λ (b : Bool). Some (if b then XHELD else ETIMEDOUT)) (low refl)
permits_answer h t v o n Unlock OK low sound alive won by p = its_mine t o.owner (Some EPERM) (Some OK) (Some EPERM) p.0
permits_answer h t v o n Unlock EPERM low sound alive won by p = not_mine t o.owner (Some EPERM) (Some OK) p.0
permits_answer h t v o n Consistent OK low sound alive won by p = its_mine t o.owner (Some EPERM) _ (Some EPERM) p.0 ∙ ap (λ (b : Bool). Some (if b then OK else EINVAL)) p.1
permits_answer h t v o n Consistent EINVAL low sound alive won by p = its_mine t o.owner (Some EPERM) _ (Some EPERM) p.0 ∙ ap (λ (b : Bool). Some (if b then OK else EINVAL)) p.1
permits_answer h t v o n Consistent EPERM low sound alive won by p = not_mine t o.owner (Some EPERM) _ p.0
permits_answer h t v o n Wait XSTATE low sound alive won by p = its_mine t o.owner (Some EPERM) _ (Some EPERM) p.0 ∙ ap (λ (b : Bool). Some (if b then XSTATE else OK)) p.1
permits_answer h t v o n Wait EPERM low sound alive won by p = not_mine t o.owner (Some EPERM) _ p.0
permits_answer h t v o n Signal OK low sound alive won by p = its_mine t o.owner (Some EPERM) (Some (counting v)) (Some EPERM) p.0 ∙ ap Some (counts_on v by)
permits_answer h t v o n Signal XFULL low sound alive won by p = its_mine t o.owner (Some EPERM) (Some (counting v)) (Some EPERM) p.0 ∙ ap Some (counts_no_more v by)
permits_answer h t v o n Signal EPERM low sound alive won by p = not_mine t o.owner (Some EPERM) (Some (counting v)) p.0
permits_answer h t v o n Broadcast OK low sound alive won by p = its_mine t o.owner (Some EPERM) (Some (counting v)) (Some EPERM) p.0 ∙ ap Some (counts_on v by)
permits_answer h t v o n Broadcast XFULL low sound alive won by p = its_mine t o.owner (Some EPERM) (Some (counting v)) (Some EPERM) p.0 ∙ ap Some (counts_no_more v by)
permits_answer h t v o n Broadcast EPERM low sound alive won by p = not_mine t o.owner (Some EPERM) (Some (counting v)) p.0
permits_answer h t v o n Death OK low sound alive won by p = absurd (alive refl)
permits_answer h t v o n Reinit OK low sound alive won by p = ap (λ (b : Bool). if b then Some OK else None) p.0
permits_answer h t v o n op r low sound alive won by p = absurd p

-- also where its thread holds too many
taking_answer : (h t v : ℕ) (o n : Object) (op : Operation) (r : Reply) → (nat_le held_limit h ≡ true → IsAnswer h t v op o XHELD) → (nat_le held_limit h ≡ false → Permits o t op r n → IsAnswer h t v op o r) → MatchBool (nat_le held_limit h) ((r ≡ XHELD) × (n ≡ o)) (Permits o t op r n) → IsAnswer h t v op o r
taking_answer h t v o n op r full free does = go (nat_le held_limit h) refl does where
  go : (b : Bool) → nat_le held_limit h ≡ b → MatchBool b ((r ≡ XHELD) × (n ≡ o)) (Permits o t op r n) → IsAnswer h t v op o r
  go true is refused = subst (λ (x : Reply). IsAnswer h t v op o x) (sym refused.0) (full is)
  go false is permits = free is permits

step_answer : (h t v : ℕ) (o n : Object) (op : Operation) (r : Reply) → (o.unusable ≡ true → o.owner ≡ None) → op ≢ Death → r ≢ XRACED → IsByCounter v op r → Does h o t op r n → IsAnswer h t v op o r
step_answer h t v o n Lock r sound alive won by does =
    taking_answer h t v o n Lock r (λ is. full_taking t _ o.unusable o.owner o.inconsistent _ _ is) (λ is p. permits_answer h t v o n Lock r (λ takes. is) sound alive (λ same. won) by p) does
step_answer h t v o n TryLock r sound alive won by does =
    taking_answer h t v o n TryLock r (λ is. full_taking t _ o.unusable o.owner o.inconsistent _ _ is) (λ is p. permits_answer h t v o n TryLock r (λ takes. is) sound alive (λ same. won) by p) does
step_answer h t v o n TimedLock r sound alive won by does =
    taking_answer h t v o n TimedLock r (λ is. ap (λ (b : Bool). Some (if b then XHELD else ETIMEDOUT)) is) (λ is p. permits_answer h t v o n TimedLock r (λ takes. is) sound alive (λ same. won) by p) does
step_answer h t v o n Unlock r sound alive won by does = permits_answer h t v o n Unlock r (λ takes. absurd (cc takes)) sound alive (λ same. won) by does
step_answer h t v o n Consistent r sound alive won by does = permits_answer h t v o n Consistent r (λ takes. absurd (cc takes)) sound alive (λ same. won) by does
step_answer h t v o n Wait r sound alive won by does = permits_answer h t v o n Wait r (λ takes. absurd (cc takes)) sound alive (λ same. won) by does
step_answer h t v o n TimedWait r sound alive won by does = absurd does
step_answer h t v o n Signal r sound alive won by does = permits_answer h t v o n Signal r (λ takes. absurd (cc takes)) sound alive (λ same. won) by does
step_answer h t v o n Broadcast r sound alive won by does = permits_answer h t v o n Broadcast r (λ takes. absurd (cc takes)) sound alive (λ same. won) by does
step_answer h t v o n Reinit r sound alive won by does = permits_answer h t v o n Reinit r (λ takes. absurd (cc takes)) sound alive (λ same. won) by does
step_answer h t v o n Death r sound alive won by does = absurd (alive refl)

pub only_answers : MutexesPermitOnlyAnswers
only_answers h t v o n op r sound alive won by does = (step_answer h t v o n op r sound alive won by does, determined h o t op r n does)

-- ---- a wait that took its mutex again

usable_then : (a b : Bool) → (a || b) ≡ false → (a ≡ false) × (b ≡ false)
usable_then false false e = (refl, refl)
usable_then false true e = absurd (cc e)
usable_then true b e = absurd (cc e)

-- it is returned OK, and the mutex is as it was
pub waited_answer : (h t v : ℕ) (o m n : Object) (r : Reply) → Permits o t Unlock OK m → m.unusable ≡ false → Permits m t Lock r n → (answer h t v Wait o ≡ Some r) × (n ≡ o)
waited_answer h t v o m n r unlocked fine locked = (its_mine t o.owner (Some EPERM) _ (Some EPERM) unlocked.0 ∙ ap (λ (b : Bool). Some (if b then XSTATE else OK)) both.0 ∙ ap Some (sym took.0), took.1) where
  both : (o.inconsistent ≡ false) × (o.unusable ≡ false)
  both = usable_then o.inconsistent o.unusable (sym (ap (λ (z : Object). z.unusable) unlocked.1) ∙ fine)

  again : owned_by (freed o) t ≡ o
  again = (λ i. record { owner = sym unlocked.0 i; inconsistent = sym both.0 i; unusable = (ap (λ (b : Bool). b || o.unusable) both.0) i })

  go : (x : Reply) → Permits m t Lock x n → (x ≡ OK) × (n ≡ o)
  go OK p = (refl, p.3 ∙ ap (λ (z : Object). owned_by z t) unlocked.1 ∙ again)
  go EOWNERDEAD p = absurd (let e : false ≡ true = sym (ap (λ (z : Object). z.inconsistent) unlocked.1) ∙ p.2 in cc e)
  go ENOTRECOVERABLE p = absurd (let e : false ≡ true = sym fine ∙ p.0 in cc e)
  go EDEADLK p = absurd (let e : None ≡ Some t = sym (ap (λ (z : Object). z.owner) unlocked.1) ∙ p.0 in cc e)
  go x p = absurd p

  took : (r ≡ OK) × (n ≡ o)
  took = go r locked
