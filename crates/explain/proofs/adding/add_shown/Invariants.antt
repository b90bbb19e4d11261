use Rattle.std.proofs.Common.{◌≡◌, ◌≤◌, ◌++◌, length, take, flat_map}
use Rattle.std.specs.Str.{chars}
use Rattle.explain.specs.Shown.{shown_char, width}
use Rattle.explain.proofs.adding.add_shown.Given as goal

abbrev pub invariant-loop-c : goal.invariant-loop-c
invariant-loop-c l = record {
  counted : l.count ≡ length l.yielded;
  few : l.count ≤ width;
  so_far : l.text.items ≡ l.initial.text.items ++ flat_map shown_char (take l.count (chars l.line));
}
