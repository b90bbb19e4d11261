use Rattle.std.proofs.Common.{List, ◌++◌, ap, subst, subst₂, ◌∙◌}
use Rattle.std.specs.Prelude.{count_by}
use Rattle.certificates.specs.Certificates.{is_point_step}
use Rattle.streams.specs.Leaves.{Leaves}
use Rattle.lockword.specs.declared.reply.Reply.{Reply}
use Rattle.histories.specs.declared.entry.HistoryLine.{HistoryLine}
use Rattle.judge_report.specs.Texts.{cuts_text, illegal_text, legal_text, waiters_text}
use Rattle.judge_report.proofs.Ends.{illegal_within, tells_illegal, tells_legal, tells_undecided}
use Rattle.judge_report.proofs.serving.tell.Goals as goal

pub returns-in-Legal : goal.returns-in-Legal
returns-in-Legal g c =
    tells_legal c.args.waiting c.args.history.now c.args.judgement.now c.in-Legal.steps c.points_of.result c.args.cuts.now c.args.waiters.now _ _ c.tell_legal.result c.in-Legal.is c.requires.judged c.requires.named
    (c.points_of.ensures ∙ ap (count_by is_point_step) c.deref.ensures.value)
    (subst (λ (ls : List HistoryLine). Leaves (g.W.Write.contents c.args.out.now) (g.W.Write.contents c.tell_legal.new.out) c.tell_legal.result (legal_text c.points_of.result ls ++ (cuts_text c.args.cuts.now ++ waiters_text ls c.args.waiters.now))) c.deref-in-Legal.ensures.value c.tell_legal.ensures)

pub lines_before-requires : goal.lines_before-requires
lines_before-requires g c = illegal_within c.args.history.now c.args.judgement.now c.in-Illegal.at c.in-Illegal.why c.in-Illegal.possible _ c.in-Illegal.is c.requires.judged

pub line_of-requires : goal.line_of-requires
line_of-requires g c = illegal_within c.args.history.now c.args.judgement.now c.in-Illegal.at c.in-Illegal.why c.in-Illegal.possible _ c.in-Illegal.is c.requires.judged

pub returns-in-Illegal : goal.returns-in-Illegal
returns-in-Illegal g c =
    tells_illegal c.args.waiting c.args.history.now c.args.judgement.now c.in-Illegal.at c.in-Illegal.why c.in-Illegal.possible _ c.line_of.result c.args.cuts.now _ _ c.tell_illegal.result c.in-Illegal.is c.requires.judged c.line_of.ensures
    (subst₂ (λ (ls : List HistoryLine) (xs : List Reply). Leaves (g.W.Write.contents c.args.out.now) (g.W.Write.contents c.tell_illegal.new.out) c.tell_illegal.result (illegal_text ls c.line_of.result c.in-Illegal.why xs)) c.lines_before.ensures c.deref-in-Illegal.ensures.value c.tell_illegal.ensures)

pub returns-in-Undecided : goal.returns-in-Undecided
returns-in-Undecided g c =
    tells_undecided c.args.waiting c.args.history.now c.args.judgement.now c.in-Undecided.at c.line_of-in-Undecided.result c.args.cuts.now _ _ c.tell_undecided.result c.in-Undecided.is c.requires.judged c.line_of-in-Undecided.ensures c.tell_undecided.ensures
