-- How calls begin.
use Rattle.std.proofs.Common.{Bool, true, false, ◌≡◌, ℕ, Result, Ok, Err, refl, sym}
use Rattle.std.specs.Prelude.{nat_le, MatchBool, if◌then◌else◌}
use Rattle.lockword.specs.declared.reply.Reply.{Reply}
use Rattle.lockword.specs.declared.reply.Reply.TheVariants.{XHELD}
use Rattle.memorymap.specs.Layouts.{Layout'}
use Rattle.mutex.specs.declared.call.Call.TheVariants as call
use Rattle.mutex.specs.Standings.{Whole}
use Rattle.mutex.specs.Whole.{whole_started, begins}

pub by_test : (b : Bool) (s p : Whole) → (if◌then◌else◌ {A = Result Whole Reply} b (Err XHELD) (Ok s)) ≡ Ok p → (b ≡ false) × (p ≡ s)
by_test true s p e = absurd (cc e)
by_test false s p e = (refl, sym cc)

pub refused_test : (b : Bool) (s : Whole) (x : Reply) → (if◌then◌else◌ {A = Result Whole Reply} b (Err XHELD) (Ok s)) ≡ Err x → (b ≡ true) × (x ≡ XHELD)
refused_test true s x e = (refl, sym cc)
refused_test false s x e = absurd (cc e)

-- a trylock, of a thread that holds fewer than 2,048 mutexes
pub try_begins : (k : Layout') (t h m : ℕ) (p : Whole) → whole_started k t h (call.TryLock m) ≡ Ok p → (nat_le 2048 h ≡ false) × (p ≡ begins k t (call.TryLock m))
try_begins k t h m p e = by_test (nat_le 2048 h) _ p e

pub try_refused : (k : Layout') (t h m : ℕ) (x : Reply) → whole_started k t h (call.TryLock m) ≡ Err x → (nat_le 2048 h ≡ true) × (x ≡ XHELD)
try_refused k t h m x e = refused_test (nat_le 2048 h) _ x e

-- an unlock
pub unlock_begins : (k : Layout') (t h m : ℕ) (p : Whole) → whole_started k t h (call.Unlock m) ≡ Ok p → p ≡ begins k t (call.Unlock m)
unlock_begins k t h m p e = sym cc

pub unlock_begun : (k : Layout') (t h m : ℕ) (x : Reply) → whole_started k t h (call.Unlock m) ≡ Err x → ⊥
unlock_begun k t h m x e = cc

-- a declaration
pub consistent_begun : (k : Layout') (t h m : ℕ) (x : Reply) → whole_started k t h (call.Consistent m) ≡ Err x → ⊥
consistent_begun k t h m x e = cc

pub picks_true : (b : Bool) (P Q : Type 0) → b ≡ true → P → MatchBool b P Q
picks_true true P Q e p = p
picks_true false P Q e p = absurd (cc e)

pub picks_false : (b : Bool) (P Q : Type 0) → b ≡ false → Q → MatchBool b P Q
picks_false true P Q e q = absurd (cc e)
picks_false false P Q e q = q
