use Rattle.std.proofs.Common.{◌≡◌, ◌++◌, ◌-◌, length, map, take}
use denote.Text.{Utf8}
use denote.Shadow.{shadow}
use Rattle.lines.specs.Lines.{lines_of}
use Rattle.explain.specs.Advised.{names_in}
use Rattle.explain.proofs.names.names_before.Given as goal

abbrev pub invariant-lines : goal.invariant-lines
invariant-lines l = record {
  is_text : shadow (Utf8 l.rest);
  so_far : map (λ w. w.now) l.names.items ++ names_in l.things (take (l.before - l.line) (lines_of l.rest)) ≡ names_in l.things (take (l.before - 1) (lines_of l.fn.text));
}

abbrev pub decreases-lines : goal.decreases-lines
decreases-lines l = length l.rest
