use Rattle.std.proofs.Common.{ℕ, subst}
use Rattle.std.specs.Prelude.{codes}
use Rattle.streams.specs.Leaves.{Leaves}
use Rattle.explore_report.specs.Messages.{numbered}
use Rattle.explore_report.proofs.messages.write_untold.Goals as goal

pub returns-in-NoOutcome : goal.returns-in-NoOutcome
returns-in-NoOutcome g c =
    rw c.in-NoOutcome.is (subst (λ (n : ℕ). Leaves (g.E.Write.contents c.args.err.now) (g.E.Write.contents c.write_number.new.err) c.write_number.result (numbered (codes "rfx-explore: no outcome has the number ") n (codes "\n"))) c.into.ensures c.write_number.ensures)

pub returns-in-Unplayed : goal.returns-in-Unplayed
returns-in-Unplayed g c = rw c.in-Unplayed.is c.write_number-in-Unplayed.ensures

pub returns-in-TooLong : goal.returns-in-TooLong
returns-in-TooLong g c =
    rw c.in-TooLong.is (subst (λ (n : ℕ). Leaves (g.E.Write.contents c.args.err.now) (g.E.Write.contents c.write_number-in-TooLong.new.err) c.write_number-in-TooLong.result (numbered (codes "rfx-explore: the script of outcome ") n (codes " is too long\n"))) c.into-in-TooLong.ensures c.write_number-in-TooLong.ensures)
