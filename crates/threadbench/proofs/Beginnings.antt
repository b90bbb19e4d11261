-- How a lock begins.
use Rattle.std.proofs.Common.{true, false, ◌≡◌, ℕ, Ok, Err}
use Rattle.std.specs.Prelude.{nat_le}
use Rattle.lockword.specs.declared.reply.Reply.{Reply}
use Rattle.lockword.specs.declared.reply.Reply.TheVariants.{XHELD}
use Rattle.memorymap.specs.Layouts.{Layout'}
use Rattle.mutex.specs.declared.call.Call.TheVariants.{Lock}
use Rattle.mutex.specs.Standings.{Whole}
use Rattle.mutex.specs.Whole.{whole_started}
use Rattle.ruledwords.proofs.Beginnings.{by_test, refused_test}

pub lock_begins : (k : Layout') (t h m : ℕ) (p : Whole) → whole_started k t h (Lock m) ≡ Ok p → nat_le 2048 h ≡ false
lock_begins k t h m p e = (by_test (nat_le 2048 h) _ p e).0

pub lock_refused : (k : Layout') (t h m : ℕ) (x : Reply) → whole_started k t h (Lock m) ≡ Err x → (nat_le 2048 h ≡ true) × (x ≡ XHELD)
lock_refused k t h m x e = refused_test (nat_le 2048 h) _ x e
