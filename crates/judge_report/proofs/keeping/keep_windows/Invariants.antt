use Rattle.std.proofs.Common.{◌-◌, length, reverse}
use Rattle.windows.specs.Windows.{IsAt}
use Rattle.judge_report.specs.Kept.{AreKept}
use Rattle.judge_report.proofs.keeping.keep_windows.Given as goal

abbrev pub decreases-loop-window : goal.decreases-loop-window
decreases-loop-window g l = length l.steps - l.cutter.from

abbrev pub invariant-loop-window : goal.invariant-loop-window
invariant-loop-window g l = IsAt l.steps l.cutter × AreKept (g.M.Maker.makes l.maker) (g.M.Maker.fills l.maker) l.out l.head l.steps l.cutter.from (reverse l.cuts.items)
