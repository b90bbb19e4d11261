use Rattle.std.proofs.Common.{◌≡◌, IfOk, List, [], subst}
use Rattle.histories.specs.declared.entry.Entry.{Entry}
use Rattle.judge_report.specs.Asked.{kept_of}
use Rattle.judge_report.specs.Heard.{heard_of}
use Rattle.judge_report.specs.Kept.{IsIllegalKept, IsKept}
use Rattle.judge_report.proofs.Filing.{filled_illegal, filled_so, filled_undecided}
use Rattle.judge_report.proofs.keeping.keep.Goals as goal

pub returns-in-Legal-clause-filled : goal.returns-in-Legal-clause-filled
returns-in-Legal-clause-filled g c =
    filled_so (g.M.Maker.makes c.args.maker.now) (g.M.Maker.fills c.args.maker.now) (kept_of c.args.keeping) (heard_of c.args.history.now) c.args.judgement.now c.in-Legal.steps c.keep_steps.result c.in-Legal.is
    (subst (λ (es : List Entry). IfOk c.keep_steps.result (λ cuts. IsKept (g.M.Maker.makes c.args.maker.now) (g.M.Maker.fills c.args.maker.now) (kept_of c.args.keeping) c.args.history.now.head es cuts.items)) c.deref.ensures.value c.keep_steps.ensures.kept)

pub returns-in-Illegal-clause-filled : goal.returns-in-Illegal-clause-filled
returns-in-Illegal-clause-filled g c =
    filled_illegal (g.M.Maker.makes c.args.maker.now) (g.M.Maker.fills c.args.maker.now) (kept_of c.args.keeping) (heard_of c.args.history.now) c.args.judgement.now _ _ _ c.in-Illegal.steps c.keep_illegal.result c.in-Illegal.is
    (subst (λ (es : List Entry). IfOk c.keep_illegal.result (λ cuts. IsIllegalKept (g.M.Maker.makes c.args.maker.now) (g.M.Maker.fills c.args.maker.now) (kept_of c.args.keeping) c.args.history.now.head es × (cuts.items ≡ []))) c.deref-in-Illegal.ensures.value c.keep_illegal.ensures.kept)

pub returns-in-Undecided-clause-filled : goal.returns-in-Undecided-clause-filled
returns-in-Undecided-clause-filled g c =
    filled_undecided (g.M.Maker.makes c.args.maker.now) (g.M.Maker.fills c.args.maker.now) (kept_of c.args.keeping) (heard_of c.args.history.now) c.args.judgement.now _ c.keep_undecided.result c.in-Undecided.is c.keep_undecided.ensures.kept
