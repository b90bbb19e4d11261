use Rattle.std.proofs.Common.{List, take, refl, sym, ap, subst, ◌∙◌}
use Rattle.lockword.specs.declared.reply.Reply.{Reply}
use Rattle.judge.specs.declared.judging.Judgement.{Judgement}
use Rattle.judge.specs.Judgements.{IsJudged}
use Rattle.judge_report.specs.declared.tracing.Untraced.TheVariants.{Undecided}
use Rattle.judge_report.specs.Heard.{heard_of}
use Rattle.judge_report.specs.Texts.{illegal_text}
use Rattle.judge_report.specs.Traces.{IsUnshown, lines_of}
use Rattle.judge_report.proofs.Saying.{is_legal_before}
use Rattle.judge_report.proofs.Shown.{illegal_shown, legal_shown}
use Rattle.judge_report.proofs.tracing.shown.Goals as goal

pub returns-in_ok-lines-in-Legal-clause-shown : goal.returns-in_ok-lines-in-Legal-clause-shown
returns-in_ok-lines-in-Legal-clause-shown c =
    record {
      head = refl;
      steps = c.in-Legal.steps.items;
      lines = c.in_ok-lines-in-Legal.ensures.lines ∙ ap lines_of c.deref.ensures.value;
      explained = legal_shown c.args.history.now c.args.judgement.now c.in-Legal.steps c.in-Legal.is c.requires;
    }

pub returns-in_ok-said_of-in-Illegal-clause-shown : goal.returns-in_ok-said_of-in-Illegal-clause-shown
returns-in_ok-said_of-in-Illegal-clause-shown c =
    let h = c.args.history.now in
    let s = c.in_ok-said_of-in-Illegal.ensures.said in
    record {
      head = refl;
      steps = c.in-Illegal.steps.items;
      lines = c.in_ok-lines-in-Illegal.ensures.lines ∙ ap lines_of c.deref-in-Illegal.ensures.value;
      explained = illegal_shown h c.args.judgement.now c.in-Illegal.at c.in-Illegal.why c.in-Illegal.possible c.in-Illegal.steps s.0 c.in_ok-said_of-in-Illegal.field-0.items c.in-Illegal.is c.requires s.1
          (s.2 ∙ ap (λ (xs : List Reply). illegal_text (take c.in-Illegal.at h.lines.items) s.0 c.in-Illegal.why xs) c.deref-in-Illegal-2.ensures.value);
    }

pub returns-in-Undecided-clause-fails : goal.returns-in-Undecided-clause-fails
returns-in-Undecided-clause-fails c =
    let h = c.args.history.now in
    subst (λ (j : Judgement). IsUnshown (heard_of h) j (Undecided c.line_of.result)) (sym c.in-Undecided.is)
    (c.line_of.result, refl, is_legal_before h c.in-Undecided.at c.line_of.result (subst (IsJudged h.head h.lines.items) c.in-Undecided.is c.requires) c.line_of.ensures)
