use Rattle.std.proofs.Common.{◌≡◌, ◌+◌, ◌≤◌, length}
use denote.Text.{Utf8}
use denote.Shadow.{shadow}
use Rattle.verdict.specs.Judges.{IsSound}
use Rattle.verdict.proofs.Passing.{Progress}
use Rattle.verdict.proofs.checking.judge_lines.Given as goal

abbrev pub invariant-loop-first : goal.invariant-loop-first
invariant-loop-first l = record {
  is_text : shadow (Utf8 l.rest);
  head : l.pass.judge.head ≡ l.fn.pass.judge.head;
  sound : IsSound l.pass.judge;
  stages : length l.pass.judge.stages.items ≡ l.fn.pass.judge.head.threads + 1;
  objects : length l.pass.judge.objects.items ≡ l.fn.pass.judge.head.mutexes;
  room : l.line + length l.rest ≤ length l.text + 2;
  points : l.pass.points + 2 ≤ l.line;
  progress : Progress l.text l.rest l.fn.pass.judge.head l.line l.pass;
}

abbrev pub decreases-loop-first : goal.decreases-loop-first
decreases-loop-first l = length l.rest
