use Rattle.std.proofs.Common.{◌≡◌, length}
use denote.Text.{Utf8}
use denote.Shadow.{shadow}
use Rattle.judge_report.specs.Paths.{are_same, directory_of, own_name}
use Rattle.judge_report.proofs.paths.own_names_from.Given as goal

abbrev pub invariant-steps : goal.invariant-steps
invariant-steps l = record {
  one_is_text : shadow (Utf8 l.one);
  other_is_text : shadow (Utf8 l.other);
  same : are_same (directory_of l.one) (directory_of l.other) ≡ are_same (directory_of l.fn.first) (directory_of l.fn.second);
  first : own_name l.one ≡ own_name l.fn.first;
  second : own_name l.other ≡ own_name l.fn.second;
}

abbrev pub decreases-steps : goal.decreases-steps
decreases-steps l = length l.one
