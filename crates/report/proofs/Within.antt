-- The mutexes that the calls of phases are about.
use Rattle.std.proofs.Common.{◌≡◌, ℕ, ◌<◌, true, List, [], ◌∷◌, All, length, subst, arith}
use Rattle.std.proofs.lemmas.Bool.Decides.{nat_tests}
use Rattle.std.proofs.lemmas.List.Elements.{All-head, All-tail}
use Rattle.memorymap.specs.Layouts.{Layout', IsLayout}
use Rattle.condvar.specs.declared.op.Op.{Op}
use Rattle.condvar.specs.declared.op.Op.TheVariants.{OnMutex, OnCondition}
use Rattle.condvar.specs.Calls.{condition_of}
use Rattle.condvar.specs.Ops.{is_in}
use Rattle.script.specs.declared.workload.Phase.{Phase}
use Rattle.report.specs.Threads.{AreRightPhases, IsRightPhase, calls_in}
use Rattle.report.proofs.InOrder.{AreWithin}
use Rattle.report.proofs.LoneCalls.{IsThere, Within}
use Rattle.report.proofs.Phases.{rights}

-- a call on what there is
call_within : (k : Layout') (c : Op) → IsLayout k → is_in k c ≡ true → IsThere k c
call_within k (OnMutex c) layout is = (grind (arith, nat_tests), λ q same. absurd (cc same))
call_within k (OnCondition c) layout is =
    let low : condition_of c < length k.conditions = grind (arith, nat_tests) in
    (layout.conditions.1 (condition_of c) 0 low, λ q same. let here : condition_of c ≡ q = cc same in subst (λ (z : ℕ). z < length k.conditions) here low)

calls_within : (k : Layout') (cs : List Op) → IsLayout k → All (λ c. is_in k c ≡ true) cs → Within k cs
calls_within k [] layout all = tt
calls_within k (c ∷ cs) layout all = (call_within k c layout (All-head (λ c. is_in k c ≡ true) c cs all), calls_within k cs layout (All-tail (λ c. is_in k c ≡ true) c cs all))

pub all_within : (k : Layout') (ps : List Phase) → IsLayout k → AreRightPhases k ps → AreWithin k ps
all_within k [] layout all = tt
all_within k (p ∷ ps) layout all = (λ t. calls_within k (calls_in t p) layout (rights k t p.jobs.items (All-head (IsRightPhase k) p ps all)), all_within k ps layout (All-tail (IsRightPhase k) p ps all))
