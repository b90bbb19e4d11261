-- What steps of objects leave.
use Rattle.std.proofs.Common.{◌≡◌, ℕ, ◌&&◌, Bool, true, false, nat_le, MatchBool, refl, sym, ap, ◌∙◌}
use Rattle.lockword.specs.declared.reply.Reply.{Reply}
use Rattle.lockword.specs.declared.reply.Reply.TheVariants.{OK, EPERM, EBUSY, EINVAL, EDEADLK, ETIMEDOUT, EOWNERDEAD, ENOTRECOVERABLE, XRACED, XHELD, XFULL, XSTATE}
use Rattle.posixmutex.specs.declared.object.Object.{Object}
use Rattle.posixmutex.specs.declared.point.Operation.{Operation}
use Rattle.posixmutex.specs.declared.point.Operation.TheVariants.{Lock, TryLock, TimedLock, Unlock, Consistent, Wait, Signal, Broadcast, Death, Reinit}
use Rattle.posixmutex.specs.Objects.{Permits, acquires, stepped, StepsAreDetermined}

permits_steps : (o : Object) (t : ℕ) (op : Operation) (x : Reply) (n : Object) → Permits o t op x n → n ≡ stepped o t op x
permits_steps o t Lock OK n h = h.3
permits_steps o t Lock EOWNERDEAD n h = h.3
permits_steps o t Lock ENOTRECOVERABLE n h = h.1
permits_steps o t Lock EDEADLK n h = h.1
permits_steps o t TryLock OK n h = h.3
permits_steps o t TryLock EOWNERDEAD n h = h.3
permits_steps o t TryLock ENOTRECOVERABLE n h = h.1
permits_steps o t TryLock EBUSY n h = h.1
permits_steps o t TryLock XRACED n h = h.2
permits_steps o t TimedLock ETIMEDOUT n h = h
permits_steps o t Unlock OK n h = h.1
permits_steps o t Unlock EPERM n h = h.1
permits_steps o t Consistent OK n h = h.2
permits_steps o t Consistent EINVAL n h = h.2
permits_steps o t Consistent EPERM n h = h.1
permits_steps o t Wait XSTATE n h = h.2
permits_steps o t Wait EPERM n h = h.1
permits_steps o t Signal OK n h = h.1
permits_steps o t Signal XFULL n h = h.1
permits_steps o t Signal EPERM n h = h.1
permits_steps o t Broadcast OK n h = h.1
permits_steps o t Broadcast XFULL n h = h.1
permits_steps o t Broadcast EPERM n h = h.1
permits_steps o t Death OK n h = h.1
permits_steps o t Reinit OK n h = h.2
permits_steps o t op x n h = absurd h

-- a thread that holds as many as it may changes nothing by a lock or trylock
refused_steps : (o : Object) (t : ℕ) (op : Operation) (x : Reply) (n : Object) → acquires op ≡ true → (x ≡ XHELD) × (n ≡ o) → n ≡ stepped o t op x
refused_steps o t Lock x n e h = h.1 ∙ ap (λ y. stepped o t Lock y) (sym h.0)
refused_steps o t TryLock x n e h = h.1 ∙ ap (λ y. stepped o t TryLock y) (sym h.0)
refused_steps o t TimedLock x n e h = h.1 ∙ ap (λ y. stepped o t TimedLock y) (sym h.0)
refused_steps o t op x n e h = absurd cc

first : (a b : Bool) → (a && b) ≡ true → a ≡ true
first true b e = refl
first false b e = e

pub determined : StepsAreDetermined
determined held o t op x n h = by_cases (acquires op && nat_le 2048 held) refl h where
  by_cases : (b : Bool) → (acquires op && nat_le 2048 held) ≡ b → MatchBool b ((x ≡ XHELD) × (n ≡ o)) (Permits o t op x n) → n ≡ stepped o t op x
  by_cases true e h = refused_steps o t op x n (first (acquires op) (nat_le 2048 held) e) h
  by_cases false e h = permits_steps o t op x n h
