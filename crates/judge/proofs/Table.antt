-- No step of an object gives a call a reply that isn't its operation's.
use Rattle.std.proofs.Common.{◌≡◌, ◌≢◌, inl, inr, ℕ, zero, suc, ◌<◌, ◌&&◌, Bool, true, false, nat_le, MatchBool, Some, refl, sym, subst, arith}
use Rattle.std.specs.Prelude.{Contains, slice_index_or}
use Rattle.lockword.specs.declared.reply.Reply.{Reply}
use Rattle.lockword.specs.declared.reply.Reply.TheVariants.{OK, EPERM, EBUSY, EINVAL, EDEADLK, ETIMEDOUT, EOWNERDEAD, ENOTRECOVERABLE, XRACED, XHELD, XFULL, XSTATE}
use Rattle.posixmutex.specs.declared.object.Object.{Object}
use Rattle.posixmutex.specs.declared.point.Operation.{Operation}
use Rattle.posixmutex.specs.declared.point.Operation.TheVariants.{Lock, TryLock, TimedLock, Unlock, Consistent, Wait, TimedWait, Signal, Broadcast, Death, Reinit}
use Rattle.posixmutex.specs.Objects.{Does, Permits, acquires}
use Rattle.facts.specs.Lives.{MayReturn}
use Rattle.judge.specs.Replies.{PointsHaveTheseReplies, replies_of}

permitted : (o : Object) (t : ℕ) (op : Operation) (x : Reply) (n : Object) → op ≢ Death → Permits o t op x n → Contains (replies_of op) x
permitted o t Lock OK n called p = (0, omega arith, refl)
permitted o t Lock EDEADLK n called p = (1, omega arith, refl)
permitted o t Lock EOWNERDEAD n called p = (2, omega arith, refl)
permitted o t Lock ENOTRECOVERABLE n called p = (3, omega arith, refl)
permitted o t TryLock OK n called p = (0, omega arith, refl)
permitted o t TryLock EBUSY n called p = (1, omega arith, refl)
permitted o t TryLock EOWNERDEAD n called p = (2, omega arith, refl)
permitted o t TryLock ENOTRECOVERABLE n called p = (3, omega arith, refl)
permitted o t TryLock XRACED n called p = (4, omega arith, refl)
permitted o t TimedLock ETIMEDOUT n called p = (2, omega arith, refl)
permitted o t Unlock OK n called p = (0, omega arith, refl)
permitted o t Unlock EPERM n called p = (1, omega arith, refl)
permitted o t Consistent OK n called p = (0, omega arith, refl)
permitted o t Consistent EPERM n called p = (1, omega arith, refl)
permitted o t Consistent EINVAL n called p = (2, omega arith, refl)
permitted o t Wait EPERM n called p = (1, omega arith, refl)
permitted o t Wait XSTATE n called p = (4, omega arith, refl)
permitted o t Signal OK n called p = (0, omega arith, refl)
permitted o t Signal EPERM n called p = (1, omega arith, refl)
permitted o t Signal XFULL n called p = (2, omega arith, refl)
permitted o t Broadcast OK n called p = (0, omega arith, refl)
permitted o t Broadcast EPERM n called p = (1, omega arith, refl)
permitted o t Broadcast XFULL n called p = (2, omega arith, refl)
permitted o t Death OK n called p = absurd (called refl)
permitted o t Reinit OK n called p = (0, omega arith, refl)
permitted o t op x n called p = absurd p

at_limit : (op : Operation) → acquires op ≡ true → Contains (replies_of op) XHELD
at_limit Lock takes = (4, omega arith, refl)
at_limit TryLock takes = (5, omega arith, refl)
at_limit TimedLock takes = (5, omega arith, refl)
at_limit op takes = let no : false ≡ true = takes in absurd cc

left : (a b : Bool) → (a && b) ≡ true → a ≡ true
left true b h = refl
left false b h = h

own : (held : ℕ) (o : Object) (t : ℕ) (op : Operation) (x : Reply) (n : Object) → op ≢ Death → Does held o t op x n → Contains (replies_of op) x
own held o t op x n called d = by_cases (acquires op && nat_le 2048 held) refl d where
  by_cases : (b : Bool) → (acquires op && nat_le 2048 held) ≡ b → MatchBool b ((x ≡ XHELD) × (n ≡ o)) (Permits o t op x n) → Contains (replies_of op) x
  by_cases true e h = subst (Contains (replies_of op)) (sym h.0) (at_limit op (left (acquires op) (nat_le 2048 held) e))
  by_cases false e h = permitted o t op x n called h

in_time : (o : Object) (t : ℕ) (x : Reply) (n : Object) → Permits o t Lock x n → Contains (replies_of TimedLock) x
in_time o t OK n p = (0, omega arith, refl)
in_time o t EDEADLK n p = (1, omega arith, refl)
in_time o t EOWNERDEAD n p = (3, omega arith, refl)
in_time o t ENOTRECOVERABLE n p = (4, omega arith, refl)
in_time o t x n p = absurd p

timed : (held : ℕ) (o : Object) (t : ℕ) (x : Reply) (n : Object) → Does held o t Lock x n → Contains (replies_of TimedLock) x
timed held o t x n d = by_cases (nat_le 2048 held) d where
  by_cases : (b : Bool) → MatchBool b ((x ≡ XHELD) × (n ≡ o)) (Permits o t Lock x n) → Contains (replies_of TimedLock) x
  by_cases true h = subst (Contains (replies_of TimedLock)) (sym h.0) (at_limit TimedLock refl)
  by_cases false h = in_time o t x n h

waits : (o : Object) (t : ℕ) (x : Reply) (n : Object) → o.owner ≢ Some t → Permits o t Lock x n → Contains (replies_of Wait) x
waits o t OK n other p = (0, omega arith, refl)
waits o t EDEADLK n other p = absurd (other p.0)
waits o t EOWNERDEAD n other p = (2, omega arith, refl)
waits o t ENOTRECOVERABLE n other p = (3, omega arith, refl)
waits o t x n other p = absurd p

-- those of a wait are among those of one with a time limit
among : (k : ℕ) (y : Reply) → k < 5 → slice_index_or (replies_of Wait) k y ≡ y → Contains (replies_of TimedWait) y
among zero y low is = subst (Contains (replies_of TimedWait)) is (0, omega arith, refl)
among (suc zero) y low is = subst (Contains (replies_of TimedWait)) is (1, omega arith, refl)
among (suc (suc zero)) y low is = subst (Contains (replies_of TimedWait)) is (3, omega arith, refl)
among (suc (suc (suc zero))) y low is = subst (Contains (replies_of TimedWait)) is (4, omega arith, refl)
among (suc (suc (suc (suc zero)))) y low is = subst (Contains (replies_of TimedWait)) is (5, omega arith, refl)
among (suc (suc (suc (suc (suc k))))) y low is = absurd (omega (arith, low))

limits : (y x : Reply) → Contains (replies_of Wait) y → MayReturn TimedWait y x → Contains (replies_of TimedWait) x
limits y x has (inl is) = subst (Contains (replies_of TimedWait)) (sym is) (among has.0 y has.1 has.2)
limits y x has (inr late) = subst (Contains (replies_of TimedWait)) (sym late.1) (2, omega arith, refl)

pub replies_are_these : PointsHaveTheseReplies
replies_are_these = record { own = own; timed = timed; waits = waits; limits = limits }
