use Rattle.std.proofs.Common.{◌≡◌, sym, ap, ◌∙◌, subst}
use Rattle.stepprograms.specs.declared.access.Access.{Access}
use Rattle.stepprograms.specs.declared.access.Answer.{Answer}
use Rattle.stepprograms.specs.Accesses.{answer_at}
use Rattle.exitwalk.specs.declared.row.Row.TheVariants.{Ended}
use Rattle.exitwalk.specs.Standings.{Standing}
use Rattle.exitwalk.specs.Walks.{point_of, row_after}
use Rattle.ruledwords.specs.declared.pass.Card.{Card}
use Rattle.ruledwords.specs.Deaths.{FoundAt, IsReaped}
use Rattle.ruledwords.specs.Passes.{card, layout_of}
use Rattle.ruledwords.specs.Rules.{card_of}
use Rattle.ruledwords.proofs.WalkSteps.{count_then, few_then, walk_ends, walk_goes, walk_returns, walks_on, went, Went}
use Rattle.ruledwords.proofs.turn.Reaping.access.Goals as goal

pub found_by_walk-found-requires : goal.found_by_walk-found-requires
found_by_walk-found-requires c =
    let r = c.args.self in
    let of = c.requires.words in
    record {
      walk = record { table = of.0.0; one = r.pass.one; is = sym r.pass.own; card = of.0.1; going = r.going; walk = of.1 };
      step = c.requires.step;
    }

pub invariant_of-pass : goal.invariant_of-pass
invariant_of-pass c =
    let k = layout_of c.args.words.now in
    let r = c.args.self in
    let of = c.requires.words in
    let s : Standing = r.walk in
    let f = c.found_by_walk-found in
    let d : Card = card_of f.new.seat.me.0 in
    let x : Answer = c.answer.result in
    let w : Went k (card r.pass) d s x = subst (Went k (card r.pass) d s) (sym (c.answer.ensures ∙ ap (λ (a : Access). answer_at a f.result) c.next-access.ensures)) (went k (card r.pass) of.0.1 s of.1 r.going c.requires.step f.result d f.ensures.2) in
    let point = (walk_goes (point_of s.thread s.row x) (row_after s.thread s.head s.row x) c.resume.result c.in-Goes.point c.in-Goes.is c.resume.ensures.progress).1 in
    record {
      one = f.ensures.1;
      own = w.thread ∙ r.pass.own;
      count = count_then k (card r.pass) d s x of.1 w r.pass.held c.count.result c.in-Goes.point r.pass.count c.count.ensures point;
      few = few_then k (card r.pass) d s x of.1 w r.pass.held c.count.result c.in-Goes.point r.pass.few c.count.ensures point;
    }

pub invariant_of-pass-in-Returns : goal.invariant_of-pass-in-Returns
invariant_of-pass-in-Returns c =
    let k = layout_of c.args.words.now in
    let r = c.args.self in
    let of = c.requires.words in
    let s : Standing = r.walk in
    let f = c.found_by_walk-found in
    let d : Card = card_of f.new.seat.me.0 in
    let x : Answer = c.answer.result in
    let w : Went k (card r.pass) d s x = subst (Went k (card r.pass) d s) (sym (c.answer.ensures ∙ ap (λ (a : Access). answer_at a f.result) c.next-access.ensures)) (went k (card r.pass) of.0.1 s of.1 r.going c.requires.step f.result d f.ensures.2) in
    let point = (walk_returns (point_of s.thread s.row x) (row_after s.thread s.head s.row x) c.resume.result c.in-Returns.reply c.in-Returns.point c.in-Returns.is c.resume.ensures.progress).1 in
    record {
      one = f.ensures.1;
      own = w.thread ∙ r.pass.own;
      count = count_then k (card r.pass) d s x of.1 w r.pass.held c.count-in-Returns.result c.in-Returns.point r.pass.count c.count-in-Returns.ensures point;
      few = few_then k (card r.pass) d s x of.1 w r.pass.held c.count-in-Returns.result c.in-Returns.point r.pass.few c.count-in-Returns.ensures point;
    }

pub returns-in-Goes-clause-keeps : goal.returns-in-Goes-clause-keeps
returns-in-Goes-clause-keeps c = λ first was.
    let k = layout_of c.args.words.now in
    let r = c.args.self in
    let of = c.requires.words in
    let s : Standing = r.walk in
    let f = c.found_by_walk-found in
    let d : Card = card_of f.new.seat.me.0 in
    let x : Answer = c.answer.result in
    let w : Went k (card r.pass) d s x = subst (Went k (card r.pass) d s) (sym (c.answer.ensures ∙ ap (λ (a : Access). answer_at a f.result) c.next-access.ensures)) (went k (card r.pass) of.0.1 s of.1 r.going c.requires.step f.result d f.ensures.2) in
    (((f.ensures.0 ∙ of.0.0, w.card), walks_on k (card r.pass) d s x of.1 w c.resume.new.self c.resume.ensures.moved), w.walked first was)

pub returns-in-Returns-clause-keeps : goal.returns-in-Returns-clause-keeps
returns-in-Returns-clause-keeps c = λ first was.
    let k = layout_of c.args.words.now in
    let r = c.args.self in
    let of = c.requires.words in
    let s : Standing = r.walk in
    let f = c.found_by_walk-found in
    let d : Card = card_of f.new.seat.me.0 in
    let x : Answer = c.answer.result in
    let w : Went k (card r.pass) d s x = subst (Went k (card r.pass) d s) (sym (c.answer.ensures ∙ ap (λ (a : Access). answer_at a f.result) c.next-access.ensures)) (went k (card r.pass) of.0.1 s of.1 r.going c.requires.step f.result d f.ensures.2) in
    let ended = (walk_returns (point_of s.thread s.row x) (row_after s.thread s.head s.row x) c.resume.result c.in-Returns.reply c.in-Returns.point c.in-Returns.is c.resume.ensures.progress).0 in
    (c.reaped.ensures.words c.args.words.now (f.ensures.0 ∙ of.0.0, w.card), subst (IsReaped k first) (sym c.reaped.ensures.card) (walk_ends k (card r.pass) d s x of.1 w ended first was))

pub returns-in-Returns-clause-onward : goal.returns-in-Returns-clause-onward
returns-in-Returns-clause-onward c =
    let k = layout_of c.args.words.now in
    let r = c.args.self in
    let of = c.requires.words in
    let s : Standing = r.walk in
    let f = c.found_by_walk-found in
    let d : Card = card_of f.new.seat.me.0 in
    let x : Answer = c.answer.result in
    let w : Went k (card r.pass) d s x = subst (Went k (card r.pass) d s) (sym (c.answer.ensures ∙ ap (λ (a : Access). answer_at a f.result) c.next-access.ensures)) (went k (card r.pass) of.0.1 s of.1 r.going c.requires.step f.result d f.ensures.2) in
    let ended = (walk_returns (point_of s.thread s.row x) (row_after s.thread s.head s.row x) c.resume.result c.in-Returns.reply c.in-Returns.point c.in-Returns.is c.resume.ensures.progress).0 in
    (f.result, subst (FoundAt k s s.row (card r.pass) f.result) (sym c.reaped.ensures.card) f.ensures.2, subst (λ (y : Answer). row_after s.thread s.head s.row y ≡ Ended) (c.answer.ensures ∙ ap (λ (a : Access). answer_at a f.result) c.next-access.ensures) ended)
