-- What C is shown of each struct: a number of its own in each field.
use Rattle.std.specs.Prelude.{[], ◌∷◌}
use Rattle.pazdrig_c.specs.declared.structs.PzCall.{PzCall}
use Rattle.pazdrig_c.specs.declared.structs.PzWalk.{PzWalk}
use Rattle.pazdrig_c.specs.declared.structs.PzAccess.{PzAccess}
use Rattle.pazdrig_c.specs.declared.structs.PzPlan.{PzPlan}
use Rattle.pazdrig_c.specs.declared.structs.PzShort.{PzShort}

abbrev pub filled_call : PzCall
filled_call = record {
  head = 1;
  entry = 2;
  cell = 3;
  counter = 4;
  phase = record { lock = record { x = 5; y = 6; reply = 7; kind = 8; flag = 9 }; seen = 10; kind = 11 };
  program = 12;
  thread = 13;
}

abbrev pub filled_walk : PzWalk
filled_walk = record {
  head = 1;
  row =
      record { at = 2; seen = 3; entry = 4; offset = 5; pending = 6; loaded = 7; kind = 8; again = 9; of_pending = 10 };
  thread = 11;
}

abbrev pub filled_access : PzAccess
filled_access = record { at = 1; a = 2; b = 3; kind = 4; most = 5; wakes = 6; point = 7; operation = 8 }

abbrev pub filled_plan : PzPlan
filled_plan = record {
  at = 1 ∷ 2 ∷ 3 ∷ 4 ∷ 5 ∷ 6 ∷ [];
  value = 7 ∷ 8 ∷ 9 ∷ 10 ∷ 11 ∷ 12 ∷ [];
  operand = 13;
  before = 14;
  stores = 15;
  reply = 16;
}

abbrev pub filled_short : PzShort
filled_short = record {
  change = record { at = 1; a = 2; b = 3; kind = 4; most = 5; wakes = 6; point = 7; operation = 8 }
      ∷ record { at = 9; a = 10; b = 11; kind = 12; most = 13; wakes = 14; point = 15; operation = 16 }
      ∷ record { at = 17; a = 18; b = 19; kind = 20; most = 21; wakes = 22; point = 23; operation = 24 } ∷ [];
  changes = 25;
  reply = 26;
}
