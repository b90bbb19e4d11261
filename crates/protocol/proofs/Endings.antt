-- Where an access of a call leads: on in the call, or to its return.
use Rattle.std.proofs.Common.{◌≡◌, ◌⊎◌, true, Option, Some, None, arith}
use Rattle.protocol.proofs.Vocabulary.{CondCall, CondPhase, CondOnward, CondWhole, Reply, Phase, Onward, Whole, Op, Stage, Idle, is_calling, stage_after, returned, stage_at}
use Rattle.protocol.proofs.Vocabulary.{returned_at, led, led_at}

abbrev pub EndsOrGoes : Stage → Option Reply → Type 0
EndsOrGoes g y = ((is_calling g ≡ true) × (y ≡ None)) ⊎ ((g ≡ Idle) × (x : Reply) × (y ≡ Some x))

-- of a call on a mutex, or the lock that ends a wait
phase_ends : (o : Op) (p : Whole) (f : Phase) → EndsOrGoes (stage_after o p f) (returned o f)
phase_ends o p f = grind (arith)

pub call_ends : (o : Op) (p : Whole) (g : Onward) → EndsOrGoes (led o p g).stage (led o p g).returned
call_ends o p g = phase_ends o p g.phase

-- of a call on a condition variable, before that
cond_phase_ends : (c : CondCall) (p : CondWhole) (f : CondPhase) → EndsOrGoes (stage_at c p f) (returned_at f)
cond_phase_ends c p f = grind (arith)

pub cond_ends : (c : CondCall) (p : CondWhole) (g : CondOnward) → EndsOrGoes (led_at c p g).stage (led_at c p g).returned
cond_ends c p g = cond_phase_ends c p g.phase
