-- A call that may begin is at a row that fits.
use Rattle.std.proofs.Common.{◌≡◌, ℕ, ◌<◌, ◌==◌, Bool, true, false, refl, sym, ◌∙◌, arith, eqb-true}
use Rattle.std.specs.Prelude.{◌&&◌, nat_lt, slice_index, length}
use Rattle.std.proofs.lemmas.Bool.Decides.{nat_tests}
use Rattle.memorymap.specs.Layouts.{Layout'}
use Rattle.protocol.specs.declared.thread.Stage.{Stage}
use Rattle.slots.specs.Places.{cell_of, our_mutexes}
use Rattle.slots.specs.Rows.{How, Row}
use Rattle.slots.specs.Rows.How.{Tried, Later, Waited}
use Rattle.slots.specs.Runs.{is_first, is_of, is_ours, may_be_due, may_call}
use Rattle.slots.specs.Fits.{AreOfUs, Fits}

record Three (a b c : Bool) : Type 0 where
  one : a ≡ true
  two : b ≡ true
  three : c ≡ true

all_three : (a b c : Bool) → (a && b && c) ≡ true → Three a b c
all_three true true true e = record { one = refl; two = refl; three = refl }
all_three true true false e = absurd cc
all_three true false c e = absurd cc
all_three false b c e = absurd cc

first_how : (h : How) → is_first h ≡ true → h ≡ Tried
first_how Tried e = refl
first_how Later e = absurd cc
first_how (Waited z) e = absurd cc

is_less : (a b : ℕ) → nat_lt a b ≡ true → a < b
is_less a b e = grind (arith, nat_tests)

first_of : (a b : Bool) → (a && b) ≡ true → a ≡ true
first_of true b e = refl
first_of false b e = absurd cc

of_us : (l : Layout') (m k : ℕ) → is_of l m k ≡ true → AreOfUs l m k
of_us l m k e = let three = all_three (is_ours l m) (nat_lt k (length l.conditions)) (slice_index l.conditions k == cell_of m) e in record {
  ours = is_less m (our_mutexes l) three.one;
  cell = record { inside = is_less k (length l.conditions) three.two; cell = eqb-true (slice_index l.conditions k) (cell_of m) three.three };
}

pub calls_fit : (l : Layout') (t held : ℕ) (r : Row) (g : Stage) → may_call l held r ≡ true → Fits l t r g
calls_fit l t held (Row.Looks k) g e = let three = all_three (is_first k.how) (is_ours l k.mutex) (nat_lt held 2046) (first_of (is_first k.how && is_ours l k.mutex && nat_lt held 2046) (may_be_due k) e) in let tried : k.how ≡ Tried = first_how k.how three.one in
    (record { ours = is_less k.mutex (our_mutexes l) three.two; wait = λ z waited. absurd (cc (sym tried ∙ waited)) }, tried)
calls_fit l t held (Row.TryLooks m) g e = is_less m (our_mutexes l) (first_of (is_ours l m) (nat_lt held 2046) e)
calls_fit l t held (Row.GiveLooks m) g e = is_less m (our_mutexes l) e
calls_fit l t held (Row.MendLooks m) g e = is_less m (our_mutexes l) e
calls_fit l t held (Row.AnewLooks m) g e = is_less m (our_mutexes l) e
calls_fit l t held (Row.WaitLooks m k timed) g e = of_us l m k e
calls_fit l t held (Row.CountLooks m k all) g e = of_us l m k e
calls_fit l t held r g e = absurd cc
