use Rattle.std.proofs.Common.{List, subst, sym}
use Rattle.lockword.specs.declared.reply.Reply.{Reply}
use Rattle.streams.specs.Leaves.{Leaves}
use Rattle.judge_report.specs.Texts.{entry_thread, possible_note}
use Rattle.judge_report.proofs.illegal.write_possible.Goals as goal

pub returns-in-Some : goal.returns-in-Some
returns-in-Some g c =
    subst (λ (xs : List Reply). Leaves (g.W.Write.contents c.args.out.now) (g.W.Write.contents c.write_each.new.out) c.write_each.result (possible_note (entry_thread c.args.line.now.entry) xs))
    (sym c.in-Some.ensures.cases.0) c.write_each.ensures
