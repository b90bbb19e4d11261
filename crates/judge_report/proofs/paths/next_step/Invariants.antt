use Rattle.std.proofs.Common.{◌≡◌, ◌≤◌, length}
use denote.Text.{Utf8}
use denote.Shadow.{shadow}
use Rattle.judge_report.specs.Paths.{directory_of, own_name}
use Rattle.judge_report.proofs.paths.next_step.Given as goal

abbrev pub invariant-parts : goal.invariant-parts
invariant-parts l = record {
  is_text : shadow (Utf8 l.rest);
  directory : directory_of l.rest ≡ directory_of l.fn.name;
  own : own_name l.rest ≡ own_name l.fn.name;
  shorter : length l.rest ≤ length l.fn.name;
}

abbrev pub decreases-parts : goal.decreases-parts
decreases-parts l = length l.rest
