use Rattle.std.proofs.Common.{◌≤◌, ◌∙◌, sym, ap, subst}
use Rattle.condvar.specs.Standings.{CondWhole}
use Rattle.condvar.specs.Whole.{begins}
use Rattle.ruledwords.specs.Conditions.{cond_row_in, most_behind, IsAtCondition}
use Rattle.ruledwords.specs.Passes.{card, layout_of}
use Rattle.ruledwords.proofs.ConditionTurns.{begun_room, begun_there, cond_begins, condition_begun}
use Rattle.ruledwords.proofs.ConditionKeeps.{begun_stands}
use Rattle.ruledwords.proofs.turn.CondRunning.call.Goals as goal

pub invariant_of-result : goal.invariant_of-result
invariant_of-result c =
    let a = c.args.pass in
    let k = layout_of c.args.words.now in
    let is = c.new-program.ensures in
    record {
      mine = ap (λ (z : CondWhole). z.thread) is ∙ sym a.own;
      room = subst (λ (z : CondWhole). a.held ≤ most_behind (cond_row_in z.phase)) (sym is) (begun_room k a.thread a.held c.args.call a.few);
      there = subst (λ (z : CondWhole). IsAtCondition z.phase) (sym is) (begun_there k a.thread c.args.call);
    }

pub returns-clause-begins : goal.returns-clause-begins
returns-clause-begins c = c.new-program.ensures ∙ ap (λ t. begins (layout_of c.args.words.now) t c.args.call) (sym c.args.pass.own)

pub returns-clause-words : goal.returns-clause-words
returns-clause-words c =
    let a = c.args.pass in
    let k = layout_of c.args.words.now in
    (c.requires.pass.0, cond_begins k (card a) c.requires.pass.0.1 c.requires.pass.1 c.args.call c.new-program.result c.requires.condition (c.new-program.ensures ∙ ap (λ t. begins k t c.args.call) (sym a.own)))

pub returns-clause-under_way : goal.returns-clause-under_way
returns-clause-under_way c =
    let a = c.args.pass in
    let w = c.args.words.now in
    let k = layout_of w in
    let begun = c.new-program.ensures ∙ ap (λ t. begins k t c.args.call) (sym a.own) in
    let s = begun_stands w a c.args.call c.new-program.result begun (condition_begun k (card a) c.requires.pass.0.1 c.args.call c.requires.condition) in
    ((c.requires.pass.0, cond_begins k (card a) c.requires.pass.0.1 c.requires.pass.1 c.args.call c.new-program.result c.requires.condition begun), s.0, s.1)
