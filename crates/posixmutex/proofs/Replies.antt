-- Why replies come, and that they do.
use Rattle.std.proofs.Common.{◌≡◌, ◌≢◌, ◌≤◌, ◌↔◌, ◌⊎◌, ⊎_elim, inl, inr, ℕ, ◌&&◌, Bool, true, false, nat_le, MatchBool, Option, Some, None, refl, ap, ◌∙◌, sym, subst, arith}
use mathlib.Core.Logic.{dite}
use native.Mathlib.Decide.{ℕ_discrete}
use Rattle.lockword.specs.declared.reply.Reply.{Reply}
use Rattle.lockword.specs.declared.reply.Reply.TheVariants.{OK, EPERM, EBUSY, EINVAL, EDEADLK, ETIMEDOUT, EOWNERDEAD, ENOTRECOVERABLE, XRACED, XHELD, XFULL, XSTATE}
use Rattle.posixmutex.specs.declared.object.Object.{Object}
use Rattle.posixmutex.specs.declared.point.Operation.{Operation}
use Rattle.posixmutex.specs.declared.point.Operation.TheVariants.{Lock, TryLock, TimedLock, Unlock, Consistent, Wait, TimedWait, Signal, Broadcast, Death, Reinit}
use Rattle.posixmutex.specs.Objects.{Permits, Does, acquires, bereaved, declared_consistent, freed, fresh, owned_by, CallsAreAnswered, HasReason, IsUnanswered, LimitIsExact, ReasonsSuffice, RepliesHaveReasons}

permitted : (held : ℕ) (o : Object) (t : ℕ) (op : Operation) (r : Reply) (n : Object) → Permits o t op r n → HasReason held o t op r
permitted held o t Lock OK n p = (p.1, p.2, p.0)
permitted held o t Lock EOWNERDEAD n p = (refl, p.1, p.2, p.0)
permitted held o t Lock ENOTRECOVERABLE n p = (refl, p.0)
permitted held o t Lock EDEADLK n p = (refl, p.0)
permitted held o t TryLock OK n p = (p.1, p.2, p.0)
permitted held o t TryLock EOWNERDEAD n p = (refl, p.1, p.2, p.0)
permitted held o t TryLock ENOTRECOVERABLE n p = (refl, p.0)
permitted held o t TryLock EBUSY n p = (refl, p.0)
permitted held o t TryLock XRACED n p = (refl, p.1, p.0)
permitted held o t TimedLock ETIMEDOUT n p = refl
permitted held o t Unlock OK n p = p.0
permitted held o t Unlock EPERM n p = p.0
permitted held o t Consistent OK n p = (p.0, p.1)
permitted held o t Consistent EINVAL n p = (refl, p.0, p.1)
permitted held o t Consistent EPERM n p = p.0
permitted held o t Wait XSTATE n p = (refl, p.0, p.1)
permitted held o t Wait EPERM n p = p.0
permitted held o t Signal OK n p = p.0
permitted held o t Signal XFULL n p = (inl refl, p.0)
permitted held o t Signal EPERM n p = p.0
permitted held o t Broadcast OK n p = p.0
permitted held o t Broadcast XFULL n p = (inr refl, p.0)
permitted held o t Broadcast EPERM n p = p.0
permitted held o t Death OK n p = p.0
permitted held o t Reinit OK n p = (p.1, p.0)
permitted held o t op r n p = absurd p

at_limit : (held : ℕ) (o : Object) (t : ℕ) (op : Operation) (r : Reply) → acquires op ≡ true → nat_le 2048 held ≡ true → r ≡ XHELD → HasReason held o t op r
at_limit held o t Lock XHELD is full told = (refl, full)
at_limit held o t TryLock XHELD is full told = (refl, full)
at_limit held o t TimedLock XHELD is full told = (refl, full)
at_limit held o t Lock r is full told = absurd (cc told)
at_limit held o t TryLock r is full told = absurd (cc told)
at_limit held o t TimedLock r is full told = absurd (cc told)
at_limit held o t op r is full told = absurd cc

first : (a b : Bool) → (a && b) ≡ true → a ≡ true
first true b e = refl
first false b e = e

second : (a b : Bool) → (a && b) ≡ true → b ≡ true
second true b e = e
second false b e = absurd (cc e)

pub replies : RepliesHaveReasons
replies held o t op r n h = by_cases (acquires op && nat_le 2048 held) refl h where
  by_cases : (b : Bool) → (acquires op && nat_le 2048 held) ≡ b → MatchBool b ((r ≡ XHELD) × (n ≡ o)) (Permits o t op r n) → HasReason held o t op r
  by_cases true e h = at_limit held o t op r (first (acquires op) (nat_le 2048 held) e) (second (acquires op) (nat_le 2048 held) e) h.0
  by_cases false e h = permitted held o t op r n h

-- ---- that X_HELD comes exactly at the limit

never_held : (o : Object) (t : ℕ) (op : Operation) (n : Object) → Permits o t op XHELD n → ⊥
never_held o t Lock n p = absurd p
never_held o t TryLock n p = absurd p
never_held o t TimedLock n p = absurd p
never_held o t Unlock n p = absurd p
never_held o t Consistent n p = absurd p
never_held o t Wait n p = absurd p
never_held o t TimedWait n p = absurd p
never_held o t Signal n p = absurd p
never_held o t Broadcast n p = absurd p
never_held o t Death n p = absurd p
never_held o t Reinit n p = absurd p

both : (a : Bool) (held : ℕ) → a ≡ true → 2048 ≤ held → (a && nat_le 2048 held) ≡ true
both true held e le = grind arith
both false held e le = absurd (cc e)

pub limit : LimitIsExact
limit held o t op r n h = by_cases (acquires op && nat_le 2048 held) refl h where
  by_cases : (b : Bool) → (acquires op && nat_le 2048 held) ≡ b → MatchBool b ((r ≡ XHELD) × (n ≡ o)) (Permits o t op r n) → (r ≡ XHELD) ↔ ((acquires op ≡ true) × (2048 ≤ held))
  by_cases true e h = let full : nat_le 2048 held ≡ true = second (acquires op) (nat_le 2048 held) e in ((λ told. (first (acquires op) (nat_le 2048 held) e, grind arith)), (λ at. h.0))
  by_cases false e h = ((λ told. absurd (never_held o t op n (subst (λ (x : Reply). Permits o t op x n) told h))), (λ at. let full : (acquires op && nat_le 2048 held) ≡ true = both (acquires op) held at.0 at.1 in absurd (cc (full, e))))

-- ---- that they come

abbrev Reply_to : ℕ → Object → ℕ → Operation → Type 0
Reply_to held o t op = ((r : Reply) × (n : Object) × Does held o t op r n) ⊎ IsUnanswered o t op

abbrev Permitted_to : Object → ℕ → Operation → Type 0
Permitted_to o t op = ((r : Reply) × (n : Object) × Permits o t op r n) ⊎ IsUnanswered o t op

taking_lock : (o : Object) (t : ℕ) (i u : Bool) (w : Option ℕ) → o.inconsistent ≡ i → o.unusable ≡ u → o.owner ≡ w → Permitted_to o t Lock
taking_lock o t i true w ei eu ew = inl (ENOTRECOVERABLE, o, (eu, refl))
taking_lock o t true false None ei eu ew = inl (EOWNERDEAD, owned_by o t, (eu, ew, ei, refl))
taking_lock o t false false None ei eu ew = inl (OK, owned_by o t, (eu, ew, ei, refl))
taking_lock o t i false (Some v) ei eu ew = dite (ℕ_discrete t v) (λ same. inl (EDEADLK, o, (ew ∙ ap Some (sym same), refl))) (λ other. inr (v, ew, other))

taking_try : (o : Object) (t : ℕ) (i u : Bool) (w : Option ℕ) → o.inconsistent ≡ i → o.unusable ≡ u → o.owner ≡ w → Permitted_to o t TryLock
taking_try o t i true w ei eu ew = inl (ENOTRECOVERABLE, o, (eu, refl))
taking_try o t true false None ei eu ew = inl (EOWNERDEAD, owned_by o t, (eu, ew, ei, refl))
taking_try o t false false None ei eu ew = inl (OK, owned_by o t, (eu, ew, ei, refl))
taking_try o t i false (Some v) ei eu ew = inl (EBUSY, o, ((λ (none : o.owner ≡ None). cc (ew, none)), refl))

by_owner : (o : Object) (t : ℕ) (w : Option ℕ) → o.owner ≡ w → (o.owner ≡ Some t) ⊎ (o.owner ≢ Some t)
by_owner o t None e = inr (λ (mine : o.owner ≡ Some t). cc (e, mine))
by_owner o t (Some v) e = dite (ℕ_discrete t v) (λ same. inl (e ∙ ap Some (sym same))) (λ other. inr (λ (mine : o.owner ≡ Some t). let same : t ≡ v = cc (e, mine) in other same))

owned : (o : Object) (t : ℕ) (op : Operation) → acquires op ≡ false → (i u : Bool) (w : Option ℕ) → o.inconsistent ≡ i → o.unusable ≡ u → o.owner ≡ w → (o.unusable ≡ true → o.owner ≡ None) → (o.owner ≡ Some t) ⊎ (o.owner ≢ Some t) → Permitted_to o t op
owned o t Unlock not_taking i u w ei eu ew sound (inl mine) = inl (OK, freed o, (mine, refl))
owned o t Unlock not_taking i u w ei eu ew sound (inr other) = inl (EPERM, o, (other, refl))
owned o t Consistent not_taking true u w ei eu ew sound (inl mine) = inl (OK, declared_consistent o, (mine, ei, refl))
owned o t Consistent not_taking false u w ei eu ew sound (inl mine) = inl (EINVAL, o, (mine, ei, refl))
owned o t Consistent not_taking i u w ei eu ew sound (inr other) = inl (EPERM, o, (other, refl))
owned o t Wait not_taking true u w ei eu ew sound (inl mine) = inl (XSTATE, o, (mine, ei, refl))
owned o t Wait not_taking false u w ei eu ew sound (inl mine) = inr (mine, ei)
owned o t Wait not_taking i u w ei eu ew sound (inr other) = inl (EPERM, o, (other, refl))
owned o t TimedWait not_taking i u w ei eu ew sound mine = inr tt
owned o t Signal not_taking i u w ei eu ew sound (inl mine) = inl (OK, o, (mine, refl))
owned o t Signal not_taking i u w ei eu ew sound (inr other) = inl (EPERM, o, (other, refl))
owned o t Broadcast not_taking i u w ei eu ew sound (inl mine) = inl (OK, o, (mine, refl))
owned o t Broadcast not_taking i u w ei eu ew sound (inr other) = inl (EPERM, o, (other, refl))
owned o t Death not_taking i u w ei eu ew sound (inl mine) = inl (OK, bereaved o, (mine, refl))
owned o t Death not_taking i u w ei eu ew sound (inr other) = inr other
owned o t Reinit not_taking i true w ei eu ew sound mine = inl (OK, fresh, (eu, sound eu, refl))
owned o t Reinit not_taking i false w ei eu ew sound mine = inr eu
owned o t op not_taking i u w ei eu ew sound mine = absurd cc

answered : (o : Object) (t : ℕ) (op : Operation) → (o.unusable ≡ true → o.owner ≡ None) → Permitted_to o t op
answered o t Lock sound = taking_lock o t o.inconsistent o.unusable o.owner refl refl refl
answered o t TryLock sound = taking_try o t o.inconsistent o.unusable o.owner refl refl refl
answered o t TimedLock sound = inl (ETIMEDOUT, o, refl)
answered o t Unlock sound = owned o t Unlock refl o.inconsistent o.unusable o.owner refl refl refl sound (by_owner o t o.owner refl)
answered o t Consistent sound = owned o t Consistent refl o.inconsistent o.unusable o.owner refl refl refl sound (by_owner o t o.owner refl)
answered o t Wait sound = owned o t Wait refl o.inconsistent o.unusable o.owner refl refl refl sound (by_owner o t o.owner refl)
answered o t TimedWait sound = inr tt
answered o t Signal sound = owned o t Signal refl o.inconsistent o.unusable o.owner refl refl refl sound (by_owner o t o.owner refl)
answered o t Broadcast sound = owned o t Broadcast refl o.inconsistent o.unusable o.owner refl refl refl sound (by_owner o t o.owner refl)
answered o t Death sound = owned o t Death refl o.inconsistent o.unusable o.owner refl refl refl sound (by_owner o t o.owner refl)
answered o t Reinit sound = owned o t Reinit refl o.inconsistent o.unusable o.owner refl refl refl sound (by_owner o t o.owner refl)

pub calls : CallsAreAnswered
calls held o t op sound = go (acquires op && nat_le 2048 held) refl (answered o t op sound) where
  go : (b : Bool) → (acquires op && nat_le 2048 held) ≡ b → Permitted_to o t op → ((r : Reply) × (n : Object) × MatchBool b ((r ≡ XHELD) × (n ≡ o)) (Permits o t op r n)) ⊎ IsUnanswered o t op
  go true e h = inl (XHELD, o, (refl, refl))
  go false e h = h

-- ---- that they come where they have it

may : (held : ℕ) (o : Object) (t : ℕ) (op : Operation) (r : Reply) → r ≢ XHELD → HasReason held o t op r → (n : Object) × Permits o t op r n
may held o t Lock OK other h = (owned_by o t, (h.2, h.0, h.1, refl))
may held o t TryLock OK other h = (owned_by o t, (h.2, h.0, h.1, refl))
may held o t TimedLock OK other h = absurd h
may held o t Unlock OK other h = (freed o, (h, refl))
may held o t Consistent OK other h = (declared_consistent o, (h.0, h.1, refl))
may held o t Wait OK other h = absurd h
may held o t TimedWait OK other h = absurd h
may held o t Signal OK other h = (o, (h, refl))
may held o t Broadcast OK other h = (o, (h, refl))
may held o t Death OK other h = (bereaved o, (h, refl))
may held o t Reinit OK other h = (fresh, (h.1, h.0, refl))
may held o t Lock EOWNERDEAD other h = (owned_by o t, (h.3, h.1, h.2, refl))
may held o t TryLock EOWNERDEAD other h = (owned_by o t, (h.3, h.1, h.2, refl))
may held o t TimedLock EOWNERDEAD other h = absurd (cc h.0)
may held o t Unlock EOWNERDEAD other h = absurd (cc h.0)
may held o t Consistent EOWNERDEAD other h = absurd (cc h.0)
may held o t Wait EOWNERDEAD other h = absurd (cc h.0)
may held o t TimedWait EOWNERDEAD other h = absurd (cc h.0)
may held o t Signal EOWNERDEAD other h = absurd (cc h.0)
may held o t Broadcast EOWNERDEAD other h = absurd (cc h.0)
may held o t Death EOWNERDEAD other h = absurd (cc h.0)
may held o t Reinit EOWNERDEAD other h = absurd (cc h.0)
may held o t Lock ENOTRECOVERABLE other h = (o, (h.1, refl))
may held o t TryLock ENOTRECOVERABLE other h = (o, (h.1, refl))
may held o t TimedLock ENOTRECOVERABLE other h = absurd (cc h.0)
may held o t Unlock ENOTRECOVERABLE other h = absurd (cc h.0)
may held o t Consistent ENOTRECOVERABLE other h = absurd (cc h.0)
may held o t Wait ENOTRECOVERABLE other h = absurd (cc h.0)
may held o t TimedWait ENOTRECOVERABLE other h = absurd (cc h.0)
may held o t Signal ENOTRECOVERABLE other h = absurd (cc h.0)
may held o t Broadcast ENOTRECOVERABLE other h = absurd (cc h.0)
may held o t Death ENOTRECOVERABLE other h = absurd (cc h.0)
may held o t Reinit ENOTRECOVERABLE other h = absurd (cc h.0)
may held o t Lock EDEADLK other h = (o, (h.1, refl))
may held o t TryLock EDEADLK other h = absurd (cc h.0)
may held o t TimedLock EDEADLK other h = absurd (cc h.0)
may held o t Unlock EDEADLK other h = absurd (cc h.0)
may held o t Consistent EDEADLK other h = absurd (cc h.0)
may held o t Wait EDEADLK other h = absurd (cc h.0)
may held o t TimedWait EDEADLK other h = absurd (cc h.0)
may held o t Signal EDEADLK other h = absurd (cc h.0)
may held o t Broadcast EDEADLK other h = absurd (cc h.0)
may held o t Death EDEADLK other h = absurd (cc h.0)
may held o t Reinit EDEADLK other h = absurd (cc h.0)
may held o t Lock ETIMEDOUT other h = absurd (cc h)
may held o t TryLock ETIMEDOUT other h = absurd (cc h)
may held o t TimedLock ETIMEDOUT other h = (o, refl)
may held o t Unlock ETIMEDOUT other h = absurd (cc h)
may held o t Consistent ETIMEDOUT other h = absurd (cc h)
may held o t Wait ETIMEDOUT other h = absurd (cc h)
may held o t TimedWait ETIMEDOUT other h = absurd (cc h)
may held o t Signal ETIMEDOUT other h = absurd (cc h)
may held o t Broadcast ETIMEDOUT other h = absurd (cc h)
may held o t Death ETIMEDOUT other h = absurd (cc h)
may held o t Reinit ETIMEDOUT other h = absurd (cc h)
may held o t Lock EBUSY other h = absurd (cc h.0)
may held o t TryLock EBUSY other h = (o, (h.1, refl))
may held o t TimedLock EBUSY other h = absurd (cc h.0)
may held o t Unlock EBUSY other h = absurd (cc h.0)
may held o t Consistent EBUSY other h = absurd (cc h.0)
may held o t Wait EBUSY other h = absurd (cc h.0)
may held o t TimedWait EBUSY other h = absurd (cc h.0)
may held o t Signal EBUSY other h = absurd (cc h.0)
may held o t Broadcast EBUSY other h = absurd (cc h.0)
may held o t Death EBUSY other h = absurd (cc h.0)
may held o t Reinit EBUSY other h = absurd (cc h.0)
may held o t Lock EPERM other h = absurd h
may held o t TryLock EPERM other h = absurd h
may held o t TimedLock EPERM other h = absurd h
may held o t Unlock EPERM other h = (o, (h, refl))
may held o t Consistent EPERM other h = (o, (h, refl))
may held o t Wait EPERM other h = (o, (h, refl))
may held o t TimedWait EPERM other h = absurd h
may held o t Signal EPERM other h = (o, (h, refl))
may held o t Broadcast EPERM other h = (o, (h, refl))
may held o t Death EPERM other h = absurd h
may held o t Reinit EPERM other h = absurd h
may held o t Lock EINVAL other h = absurd (cc h.0)
may held o t TryLock EINVAL other h = absurd (cc h.0)
may held o t TimedLock EINVAL other h = absurd (cc h.0)
may held o t Unlock EINVAL other h = absurd (cc h.0)
may held o t Consistent EINVAL other h = (o, (h.1, h.2, refl))
may held o t Wait EINVAL other h = absurd (cc h.0)
may held o t TimedWait EINVAL other h = absurd (cc h.0)
may held o t Signal EINVAL other h = absurd (cc h.0)
may held o t Broadcast EINVAL other h = absurd (cc h.0)
may held o t Death EINVAL other h = absurd (cc h.0)
may held o t Reinit EINVAL other h = absurd (cc h.0)
may held o t Lock XSTATE other h = absurd (cc h.0)
may held o t TryLock XSTATE other h = absurd (cc h.0)
may held o t TimedLock XSTATE other h = absurd (cc h.0)
may held o t Unlock XSTATE other h = absurd (cc h.0)
may held o t Consistent XSTATE other h = absurd (cc h.0)
may held o t Wait XSTATE other h = (o, (h.1, h.2, refl))
may held o t TimedWait XSTATE other h = absurd (cc h.0)
may held o t Signal XSTATE other h = absurd (cc h.0)
may held o t Broadcast XSTATE other h = absurd (cc h.0)
may held o t Death XSTATE other h = absurd (cc h.0)
may held o t Reinit XSTATE other h = absurd (cc h.0)
may held o t Lock XFULL other h = absurd (⊎_elim (λ (e : Lock ≡ Signal). absurd (cc e)) (λ (e : Lock ≡ Broadcast). absurd (cc e)) h.0)
may held o t TryLock XFULL other h = absurd (⊎_elim (λ (e : TryLock ≡ Signal). absurd (cc e)) (λ (e : TryLock ≡ Broadcast). absurd (cc e)) h.0)
may held o t TimedLock XFULL other h = absurd (⊎_elim (λ (e : TimedLock ≡ Signal). absurd (cc e)) (λ (e : TimedLock ≡ Broadcast). absurd (cc e)) h.0)
may held o t Unlock XFULL other h = absurd (⊎_elim (λ (e : Unlock ≡ Signal). absurd (cc e)) (λ (e : Unlock ≡ Broadcast). absurd (cc e)) h.0)
may held o t Consistent XFULL other h = absurd (⊎_elim (λ (e : Consistent ≡ Signal). absurd (cc e)) (λ (e : Consistent ≡ Broadcast). absurd (cc e)) h.0)
may held o t Wait XFULL other h = absurd (⊎_elim (λ (e : Wait ≡ Signal). absurd (cc e)) (λ (e : Wait ≡ Broadcast). absurd (cc e)) h.0)
may held o t TimedWait XFULL other h = absurd (⊎_elim (λ (e : TimedWait ≡ Signal). absurd (cc e)) (λ (e : TimedWait ≡ Broadcast). absurd (cc e)) h.0)
may held o t Signal XFULL other h = (o, (h.1, refl))
may held o t Broadcast XFULL other h = (o, (h.1, refl))
may held o t Death XFULL other h = absurd (⊎_elim (λ (e : Death ≡ Signal). absurd (cc e)) (λ (e : Death ≡ Broadcast). absurd (cc e)) h.0)
may held o t Reinit XFULL other h = absurd (⊎_elim (λ (e : Reinit ≡ Signal). absurd (cc e)) (λ (e : Reinit ≡ Broadcast). absurd (cc e)) h.0)
may held o t Lock XRACED other h = absurd (cc h.0)
may held o t TryLock XRACED other h = (o, (h.2, h.1, refl))
may held o t TimedLock XRACED other h = absurd (cc h.0)
may held o t Unlock XRACED other h = absurd (cc h.0)
may held o t Consistent XRACED other h = absurd (cc h.0)
may held o t Wait XRACED other h = absurd (cc h.0)
may held o t TimedWait XRACED other h = absurd (cc h.0)
may held o t Signal XRACED other h = absurd (cc h.0)
may held o t Broadcast XRACED other h = absurd (cc h.0)
may held o t Death XRACED other h = absurd (cc h.0)
may held o t Reinit XRACED other h = absurd (cc h.0)
may held o t op XHELD other h = absurd (other refl)
may held o t op r other h = absurd h

held_few : (held : ℕ) (o : Object) (t : ℕ) (op : Operation) → (acquires op && nat_le 2048 held) ≡ false → HasReason held o t op XHELD → ⊥
held_few held o t Lock e why = cc (e, why.1)
held_few held o t TryLock e why = cc (e, why.1)
held_few held o t TimedLock e why = cc (e, why.1)
held_few held o t op e why = cc why.0

pub suffice : ReasonsSuffice
suffice held o t op r h limit = by_cases (acquires op && nat_le 2048 held) refl where
  by_cases : (b : Bool) → (acquires op && nat_le 2048 held) ≡ b → (n : Object) × MatchBool b ((r ≡ XHELD) × (n ≡ o)) (Permits o t op r n)
  by_cases true e = (o, (limit e, refl))
  by_cases false e = may held o t op r (λ (told : r ≡ XHELD). absurd (held_few held o t op e (subst (λ (x : Reply). HasReason held o t op x) told h))) h
