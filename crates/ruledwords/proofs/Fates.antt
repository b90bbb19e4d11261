-- Two fates of one thread, which are asked one after the other.
use Rattle.std.proofs.Common.{ℕ, arith}
use Rattle.ruledwords.specs.Fates.{Heeds}

-- they let the thread go on, and what they said further on
pub heeds_on : (f f' f'' n n' n'' k : ℕ) → Heeds f f' n n' 0 → Heeds f' f'' n' n'' k → Heeds f f'' n n'' k
heeds_on f f' f'' n n' n'' k first more =
    let a = first.fate in
    let b = first.note in
    let once = first.once in
    let x = more.fate in
    let y = more.note in
    let further = more.once in
    record { fate = omega (arith, a, x); note = omega (arith, b, y); once = omega (arith, once, further) }

pub heeds_nothing : (f n : ℕ) → Heeds f f n n 0
heeds_nothing f n = record { fate = omega arith; note = omega arith; once = omega arith }
