use Rattle.std.proofs.Common.{List, inl, subst, sym}
use Rattle.judge_report.specs.declared.keeping.Cut.{Cut}
use Rattle.judge_report.specs.Asked.{kept_of}
use Rattle.judge_report.specs.Heard.{heard_of}
use Rattle.judge_report.specs.Kept.{IsFilled}
use Rattle.judge_report.proofs.Ends.{serves, serves_front, unkept_fails, unread_fails}
use Rattle.judge_report.proofs.serving.serve.Goals as goal

pub returns-in-Ok-tell_out-clause-serves : goal.returns-in-Ok-tell_out-clause-serves
returns-in-Ok-tell_out-clause-serves g c =
    let Filled : List Cut → Type 0 = IsFilled (g.M.Maker.makes c.args.maker.now) (g.M.Maker.fills c.args.maker.now) (kept_of c.args.keeping) (heard_of c.in-Ok.history) c.in-Ok-judge.judgement in
    serves (g.M.Maker.makes c.args.maker.now) (g.M.Maker.fills c.args.maker.now) c.args.waiting (kept_of c.args.keeping) _ _ _ (heard_of c.in-Ok.history) c.in-Ok-judge.judgement c.deref-2.result.now c.status_of.result c.in-Ok.ensures.gives (subst Filled (sym c.deref-2.ensures.value) c.in-Ok-keep.ensures.filled) c.in-Ok-tell_out.ensures.tells c.status_of.ensures

pub returns-in-Err-clause-fails : goal.returns-in-Err-clause-fails
returns-in-Err-clause-fails g c = unread_fails (g.M.Maker.makes c.args.maker.now) (g.M.Maker.fills c.args.maker.now) c.args.waiting (kept_of c.args.keeping) _ _ _ c.in-Err.failure c.in-Err.ensures.fails

pub returns-in-Err-keep-clause-fails : goal.returns-in-Err-keep-clause-fails
returns-in-Err-keep-clause-fails g c =
    unkept_fails (g.M.Maker.makes c.args.maker.now) (g.M.Maker.fills c.args.maker.now) c.args.waiting (kept_of c.args.keeping) _ _ _ _ (heard_of c.in-Ok.history) c.in-Ok-judge.judgement c.in-Ok.ensures.gives c.in-Err-keep.failure c.tell_unkept.result c.in-Err-keep.ensures.fails c.tell_unkept.ensures.memory c.tell_unkept.ensures.nothing c.tell_unkept.ensures.says

pub returns-clause-fails : goal.returns-clause-fails
returns-clause-fails g c =
    let Filled : List Cut → Type 0 = IsFilled (g.M.Maker.makes c.args.maker.now) (g.M.Maker.fills c.args.maker.now) (kept_of c.args.keeping) (heard_of c.in-Ok.history) c.in-Ok-judge.judgement in
    inl (serves_front (g.M.Maker.makes c.args.maker.now) (g.M.Maker.fills c.args.maker.now) c.args.waiting (kept_of c.args.keeping) _ _ _ (heard_of c.in-Ok.history) c.in-Ok-judge.judgement c.deref-2.result.now c.in-Ok.ensures.gives (subst Filled (sym c.deref-2.ensures.value) c.in-Ok-keep.ensures.filled) c.in-Err-tell_out.ensures.tells)
