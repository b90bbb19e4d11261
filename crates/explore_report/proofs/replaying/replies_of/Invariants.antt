use Rattle.std.proofs.Common.{◌≡◌, take}
use Rattle.explore_report.specs.Replays.{replies_of}
use Rattle.explore_report.proofs.replaying.replies_of.Given as goal

abbrev pub invariant-loop-note : goal.invariant-loop-note
invariant-loop-note l = l.replies.items ≡ replies_of l.thread (take l.note-index l.notes)
