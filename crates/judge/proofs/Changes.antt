-- What replies do to a mutex, by its object.
use Rattle.std.proofs.Common.{◌≡◌, ◌≢◌, ℕ, true, false, Some, None, refl, sym, ap, ◌∙◌}
use Rattle.std.specs.Bool.{Decides}
use Rattle.lockword.specs.declared.reply.Reply.{Reply}
use Rattle.lockword.specs.declared.reply.Reply.TheVariants.{OK, EPERM, EBUSY, EINVAL, EDEADLK, ETIMEDOUT, EOWNERDEAD, ENOTRECOVERABLE, XRACED, XFULL, XSTATE}
use Rattle.posixmutex.specs.declared.object.Object.{Object}
use Rattle.posixmutex.specs.declared.point.Operation.{Operation}
use Rattle.posixmutex.specs.declared.point.Operation.TheVariants.{Lock, TryLock, TimedLock, Unlock, Consistent, Wait, TimedWait, Signal, Broadcast, Death, Reinit}
use Rattle.posixmutex.specs.Objects.{Permits, bereaved, declared_consistent, freed, fresh, owned_by}
use Rattle.judge.specs.Evidence.{ChangesAreTheObjects, declares, gets, leaves}

-- it is so, or it isn't
so : {P : Type 0} → P → Decides true P
so p = (λ t. p, λ q. refl)

not_so : {P : Type 0} → (P → ⊥) → Decides false P
not_so {P} never = (λ f. absurd cc, λ p. absurd (never p))

owner_of : (n o : Object) → n ≡ o → n.owner ≡ o.owner
owner_of n o is = ap (λ (p : Object). p.owner) is

-- the thread owns it after a step that gives it
taken : (o n : Object) (t : ℕ) → n ≡ owned_by o t → n.owner ≡ Some t
taken o n t is = owner_of n (owned_by o t) is

-- and doesn't after one that changes nothing
kept_off : (o n : Object) (t : ℕ) → o.owner ≢ Some t → n ≡ o → n.owner ≡ Some t → ⊥
kept_off o n t other is owns = other (sym (owner_of n o is) ∙ owns)

gets_so : (o : Object) (t : ℕ) (op : Operation) (x : Reply) (n : Object) → op ≢ Death → o.owner ≢ Some t → Permits o t op x n → Decides (gets op x) (n.owner ≡ Some t)
gets_so o t Lock OK n called other p = so (taken o n t p.3)
gets_so o t Lock EOWNERDEAD n called other p = so (taken o n t p.3)
gets_so o t Lock ENOTRECOVERABLE n called other p = not_so (kept_off o n t other p.1)
gets_so o t Lock EDEADLK n called other p = not_so (kept_off o n t other p.1)
gets_so o t TryLock OK n called other p = so (taken o n t p.3)
gets_so o t TryLock EOWNERDEAD n called other p = so (taken o n t p.3)
gets_so o t TryLock ENOTRECOVERABLE n called other p = not_so (kept_off o n t other p.1)
gets_so o t TryLock EBUSY n called other p = not_so (kept_off o n t other p.1)
gets_so o t TryLock XRACED n called other p = not_so (kept_off o n t other p.2)
gets_so o t TimedLock ETIMEDOUT n called other p = not_so (kept_off o n t other p)
gets_so o t Unlock OK n called other p = absurd (other p.0)
gets_so o t Unlock EPERM n called other p = not_so (kept_off o n t other p.1)
gets_so o t Consistent OK n called other p = absurd (other p.0)
gets_so o t Consistent EINVAL n called other p = absurd (other p.0)
gets_so o t Consistent EPERM n called other p = not_so (kept_off o n t other p.1)
gets_so o t Wait XSTATE n called other p = absurd (other p.0)
gets_so o t Wait EPERM n called other p = not_so (kept_off o n t other p.1)
gets_so o t Signal OK n called other p = absurd (other p.0)
gets_so o t Signal XFULL n called other p = absurd (other p.0)
gets_so o t Signal EPERM n called other p = not_so (kept_off o n t other p.1)
gets_so o t Broadcast OK n called other p = absurd (other p.0)
gets_so o t Broadcast XFULL n called other p = absurd (other p.0)
gets_so o t Broadcast EPERM n called other p = not_so (kept_off o n t other p.1)
gets_so o t Death x n called other p = absurd (called refl)
gets_so o t Reinit OK n called other p = not_so (λ own. let no : None ≡ Some t = sym (owner_of n fresh p.2) ∙ own in absurd cc)
gets_so o t op x n called other p = absurd p

-- an owner still is one after a step that changes nothing
still_owned : (o n : Object) (t : ℕ) → o.owner ≡ Some t → n ≡ o → n.owner ≡ None → ⊥
still_owned o n t own is none = let no : Some t ≡ None = sym own ∙ sym (owner_of n o is) ∙ none in cc

unowned : (o : Object) (t : ℕ) → o.owner ≡ Some t → o.owner ≡ None → ⊥
unowned o t own none = let no : Some t ≡ None = sym own ∙ none in cc

leaves_so : (o : Object) (t : ℕ) (op : Operation) (x : Reply) (n : Object) → op ≢ Death → o.owner ≡ Some t → Permits o t op x n → Decides (leaves op x) (n.owner ≡ None)
leaves_so o t Lock OK n called own p = absurd (unowned o t own p.1)
leaves_so o t Lock EOWNERDEAD n called own p = absurd (unowned o t own p.1)
leaves_so o t Lock ENOTRECOVERABLE n called own p = not_so (still_owned o n t own p.1)
leaves_so o t Lock EDEADLK n called own p = not_so (still_owned o n t own p.1)
leaves_so o t TryLock OK n called own p = absurd (unowned o t own p.1)
leaves_so o t TryLock EOWNERDEAD n called own p = absurd (unowned o t own p.1)
leaves_so o t TryLock ENOTRECOVERABLE n called own p = not_so (still_owned o n t own p.1)
leaves_so o t TryLock EBUSY n called own p = not_so (still_owned o n t own p.1)
leaves_so o t TryLock XRACED n called own p = absurd (unowned o t own p.1)
leaves_so o t TimedLock ETIMEDOUT n called own p = not_so (still_owned o n t own p)
leaves_so o t Unlock OK n called own p = so (owner_of n (freed o) p.1)
leaves_so o t Unlock EPERM n called own p = absurd (p.0 own)
leaves_so o t Consistent OK n called own p = not_so (λ none. unowned o t own (sym (owner_of n (declared_consistent o) p.2) ∙ none))
leaves_so o t Consistent EINVAL n called own p = not_so (still_owned o n t own p.2)
leaves_so o t Consistent EPERM n called own p = absurd (p.0 own)
leaves_so o t Wait XSTATE n called own p = not_so (still_owned o n t own p.2)
leaves_so o t Wait EPERM n called own p = absurd (p.0 own)
leaves_so o t Signal OK n called own p = not_so (still_owned o n t own p.1)
leaves_so o t Signal XFULL n called own p = not_so (still_owned o n t own p.1)
leaves_so o t Signal EPERM n called own p = absurd (p.0 own)
leaves_so o t Broadcast OK n called own p = not_so (still_owned o n t own p.1)
leaves_so o t Broadcast XFULL n called own p = not_so (still_owned o n t own p.1)
leaves_so o t Broadcast EPERM n called own p = absurd (p.0 own)
leaves_so o t Death x n called own p = absurd (called refl)
leaves_so o t Reinit OK n called own p = absurd (unowned o t own p.1)
leaves_so o t op x n called own p = absurd p

remade_so : (o : Object) (t : ℕ) (x : Reply) (n : Object) → Permits o t Reinit x n → leaves Reinit x ≡ true
remade_so o t OK n p = refl
remade_so o t x n p = absurd p

timed_so : (o : Object) (t : ℕ) (x : Reply) (n : Object) → o.owner ≢ Some t → Permits o t Lock x n → Decides (gets TimedLock x) (n.owner ≡ Some t)
timed_so o t OK n other p = so (taken o n t p.3)
timed_so o t EOWNERDEAD n other p = so (taken o n t p.3)
timed_so o t ENOTRECOVERABLE n other p = not_so (kept_off o n t other p.1)
timed_so o t EDEADLK n other p = not_so (kept_off o n t other p.1)
timed_so o t x n other p = absurd p

waits_so : (o : Object) (t : ℕ) (x : Reply) (n : Object) → o.owner ≢ Some t → Permits o t Lock x n → Decides (gets Wait x) (n.owner ≡ Some t) × Decides (gets TimedWait x) (n.owner ≡ Some t)
waits_so o t OK n other p = (so (taken o n t p.3), so (taken o n t p.3))
waits_so o t EOWNERDEAD n other p = (so (taken o n t p.3), so (taken o n t p.3))
waits_so o t ENOTRECOVERABLE n other p = (not_so (kept_off o n t other p.1), not_so (kept_off o n t other p.1))
waits_so o t EDEADLK n other p = absurd (other p.0)
waits_so o t x n other p = absurd p

left_so : (o : Object) (t : ℕ) (x : Reply) (n : Object) → o.owner ≢ Some t → Permits o t Lock x n → Decides (leaves Wait x) (n.owner ≢ Some t) × Decides (leaves TimedWait x) (n.owner ≢ Some t)
left_so o t OK n other p = (not_so (λ away. away (taken o n t p.3)), not_so (λ away. away (taken o n t p.3)))
left_so o t EOWNERDEAD n other p = (not_so (λ away. away (taken o n t p.3)), not_so (λ away. away (taken o n t p.3)))
left_so o t ENOTRECOVERABLE n other p = (so (kept_off o n t other p.1), so (kept_off o n t other p.1))
left_so o t EDEADLK n other p = absurd (other p.0)
left_so o t x n other p = absurd p

-- it was inconsistent, isn't any more, and is the thread's
abbrev IsDeclared : Object → Object → ℕ → Type 0
IsDeclared o n t = (o.inconsistent ≡ true) × (n.inconsistent ≡ false) × (n.owner ≡ Some t)

inconsistent_of : (n o : Object) → n ≡ o → n.inconsistent ≡ o.inconsistent
inconsistent_of n o is = ap (λ (p : Object). p.inconsistent) is

-- nothing changes, or who owns it alone
kept_so : (o n : Object) (t : ℕ) → n.inconsistent ≡ o.inconsistent → Decides false (IsDeclared o n t)
kept_so o n t same = not_so (λ d. let no : true ≡ false = sym d.0 ∙ sym same ∙ d.1 in absurd cc)

-- nobody owns it then
left_by : (o n : Object) (t : ℕ) → n.owner ≡ None → Decides false (IsDeclared o n t)
left_by o n t none = not_so (λ d. let no : None ≡ Some t = sym none ∙ d.2 in absurd cc)

declared_so : (o : Object) (t : ℕ) (op : Operation) (x : Reply) (n : Object) → Permits o t op x n → Decides (declares op x) (IsDeclared o n t)
declared_so o t Lock OK n p = kept_so o n t (inconsistent_of n (owned_by o t) p.3)
declared_so o t Lock EOWNERDEAD n p = kept_so o n t (inconsistent_of n (owned_by o t) p.3)
declared_so o t Lock ENOTRECOVERABLE n p = kept_so o n t (inconsistent_of n o p.1)
declared_so o t Lock EDEADLK n p = kept_so o n t (inconsistent_of n o p.1)
declared_so o t TryLock OK n p = kept_so o n t (inconsistent_of n (owned_by o t) p.3)
declared_so o t TryLock EOWNERDEAD n p = kept_so o n t (inconsistent_of n (owned_by o t) p.3)
declared_so o t TryLock ENOTRECOVERABLE n p = kept_so o n t (inconsistent_of n o p.1)
declared_so o t TryLock EBUSY n p = kept_so o n t (inconsistent_of n o p.1)
declared_so o t TryLock XRACED n p = kept_so o n t (inconsistent_of n o p.2)
declared_so o t TimedLock ETIMEDOUT n p = kept_so o n t (inconsistent_of n o p)
declared_so o t Unlock OK n p = left_by o n t (owner_of n (freed o) p.1)
declared_so o t Unlock EPERM n p = kept_so o n t (inconsistent_of n o p.1)
declared_so o t Consistent OK n p = so (p.1, inconsistent_of n (declared_consistent o) p.2, owner_of n (declared_consistent o) p.2 ∙ p.0)
declared_so o t Consistent EINVAL n p = kept_so o n t (inconsistent_of n o p.2)
declared_so o t Consistent EPERM n p = kept_so o n t (inconsistent_of n o p.1)
declared_so o t Wait XSTATE n p = kept_so o n t (inconsistent_of n o p.2)
declared_so o t Wait EPERM n p = kept_so o n t (inconsistent_of n o p.1)
declared_so o t Signal OK n p = kept_so o n t (inconsistent_of n o p.1)
declared_so o t Signal XFULL n p = kept_so o n t (inconsistent_of n o p.1)
declared_so o t Signal EPERM n p = kept_so o n t (inconsistent_of n o p.1)
declared_so o t Broadcast OK n p = kept_so o n t (inconsistent_of n o p.1)
declared_so o t Broadcast XFULL n p = kept_so o n t (inconsistent_of n o p.1)
declared_so o t Broadcast EPERM n p = kept_so o n t (inconsistent_of n o p.1)
declared_so o t Death OK n p = left_by o n t (owner_of n (bereaved o) p.1)
declared_so o t Reinit OK n p = left_by o n t (owner_of n fresh p.2)
declared_so o t op x n p = absurd p

pub changes_so : ChangesAreTheObjects
changes_so = record { gives_it = gets_so; gives_up = leaves_so; remade = remade_so; timed = timed_so; waits = waits_so; left = left_so; late = refl; declared = declared_so }
