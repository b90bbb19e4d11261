use Rattle.std.proofs.Common.{sym, subst}
use Rattle.exitwalk.specs.Standings.{Standing}
use Rattle.exitwalk.specs.Walks.{point_of, row_after}
use Rattle.ruledwords.specs.Deaths.{IsReaped}
use Rattle.ruledwords.specs.Passes.{card, layout_of}
use Rattle.ruledwords.proofs.WalkSteps.{counts, walk_ends, walk_returns, walks_on, Went}
use Rattle.ruledwords.proofs.turn.Reaping.answer.Goals as goal

pub returns-in-Goes-clause-keeps : goal.returns-in-Goes-clause-keeps
returns-in-Goes-clause-keeps c = λ w of first was.
    let k = layout_of w in
    let r = c.args.self in
    let went : Went k (card r.pass) (card r.pass) r.walk c.args.answer = counts k (card r.pass) of.0.1 r.walk of.1 r.going c.requires.wake c.args.answer c.requires.count in
    ((of.0, walks_on k (card r.pass) (card r.pass) r.walk c.args.answer of.1 went c.resume.new.self c.resume.ensures.moved), was)

pub returns-in-Returns-clause-keeps : goal.returns-in-Returns-clause-keeps
returns-in-Returns-clause-keeps c = λ w of first was.
    let k = layout_of w in
    let r = c.args.self in
    let s : Standing = r.walk in
    let went : Went k (card r.pass) (card r.pass) s c.args.answer = counts k (card r.pass) of.0.1 s of.1 r.going c.requires.wake c.args.answer c.requires.count in
    let ended = (walk_returns (point_of s.thread s.row c.args.answer) (row_after s.thread s.head s.row c.args.answer) c.resume.result c.in-Returns.reply c.in-Returns.point c.in-Returns.is c.resume.ensures.progress).0 in
    (c.reaped.ensures.words w of.0, subst (IsReaped k first) (sym c.reaped.ensures.card) (walk_ends k (card r.pass) (card r.pass) s c.args.answer of.1 went ended first was))
