use Rattle.std.proofs.Common.{◌≡◌, ◌≤◌, ◌<◌, ◌∙◌, sym, subst, true, arith, length}
use Rattle.std.proofs.lemmas.Bool.Decides.{nat_tests}
use Rattle.outcomes.specs.Outcomes.{AreWitnessed, AreDifferent}
use Rattle.outcomes.specs.Positions.{first}
use Rattle.outcomes.specs.Kept.{position_in}
use Rattle.outcomes.proofs.Storing.{again_kept, again_there}
use Rattle.outcomes.proofs.Reaching.{at_grown, long_grown, some_at}
use Rattle.outcomes.proofs.Closing.{over_there, closed_more, read_more, has_all}
use Rattle.outcomes.proofs.exploring.search_through.Goals as goal
use Rattle.outcomes.proofs.exploring.search_through.Goals.{then-loop-complete-test+else-done-len, else-loop-complete-test}

pub loop-complete-init : goal.loop-complete-init
loop-complete-init g c =
    let len = c.len-complete.ensures in
    let few = c.in_ok-search.ensures.few in
    record {
      layout = c.in_ok-search.ensures.layout;
      limit = c.in_ok-search.ensures.limit;
      reached = c.in_ok-search.ensures.reached;
      few = few;
      done = omega arith;
      first = λ e. c.in_ok-search.ensures.first (let some : 0 < c.len-complete.result = grind (arith, nat_tests) in omega (arith, some, len));
      closed = λ e i p lt at f may. absurd (omega (arith, lt));
      read = λ i p lt at over. absurd (omega (arith, lt));
      sound = subst (AreWitnessed c.args.plan.now) (sym c.new-outcomes.ensures.items) tt;
      once = subst AreDifferent (sym c.new-outcomes.ensures.items) tt;
      full = λ e. (let none : c.len-complete.result ≡ 0 = grind (arith, nat_tests) in let empty : length c.in_ok-search.search.reached.items ≡ 0 = omega (arith, none, len) in let no = c.in_ok-search.ensures.empty empty in omega (arith, empty, no));
    }

pub expand-requires-clause-kept : goal.expand-requires-clause-kept
expand-requires-clause-kept g c = again_kept c.args.plan.now c.loop-complete.search.reached.items c.loop-complete.done c.index.result.now c.in_ok-kept.kept c.loop-complete.invariant.reached (let n = c.len.ensures in let lt = c.if-done-len.true in omega arith) c.index.ensures c.in_ok-kept.ensures

pub expand-requires-clause-at : goal.expand-requires-clause-at
expand-requires-clause-at g c = again_there c.args.plan.now c.loop-complete.search.reached.items c.loop-complete.done c.index.result.now c.in_ok-kept.kept c.loop-complete.invariant.reached (let n = c.len.ensures in let lt = c.if-done-len.true in omega arith) c.index.ensures c.in_ok-kept.ensures

pub witness-requires-clause-kept : goal.witness-requires-clause-kept
witness-requires-clause-kept g c = again_kept c.args.plan.now c.loop-complete.search.reached.items c.loop-complete.done c.index.result.now c.in_ok-kept.kept c.loop-complete.invariant.reached (let n = c.len.ensures in let lt = c.if-done-len.true in omega arith) c.index.ensures c.in_ok-kept.ensures

pub witness-requires-clause-at : goal.witness-requires-clause-at
witness-requires-clause-at g c = at_grown c.loop-complete.search.reached.items c.expand.new.self.reached.items c.in_ok-expanded.ensures.grows c.args.plan.now.layout c.loop-complete.done (position_in c.args.plan.now.layout c.in_ok-kept.kept)
    (again_there c.args.plan.now c.loop-complete.search.reached.items c.loop-complete.done c.index.result.now c.in_ok-kept.kept c.loop-complete.invariant.reached (let n = c.len.ensures in let lt = c.if-done-len.true in omega arith) c.index.ensures c.in_ok-kept.ensures)

pub witness-requires-clause-over : goal.witness-requires-clause-over
witness-requires-clause-over g c =
    let below : c.loop-complete.done < length c.loop-complete.search.reached.items = (let n = c.len.ensures in let lt = c.if-done-len.true in omega arith) in
    over_there c.args.plan.now c.loop-complete.search.reached.items c.expand.new.self.reached.items c.in_ok-expanded.ensures.grows c.loop-complete.search.limit c.loop-complete.done below c.in_ok-expanded.expanded.on c.in_ok-expanded.expanded.room c.in_ok-expanded.ensures.tried

pub loop-complete-preserved : goal.loop-complete-preserved
loop-complete-preserved g c =
    let plan = c.args.plan.now in
    let inv = c.loop-complete.invariant in
    let old = c.loop-complete.search.reached.items in
    let new = c.expand.new.self.reached.items in
    let x = c.in_ok-expanded.expanded in
    let grows = c.in_ok-expanded.ensures.grows in
    let done = c.loop-complete.done in
    let limit = c.loop-complete.search.limit in
    let below : done < length old = (let n = c.len.ensures in let lt = c.if-done-len.true in omega arith) in
    let tried = c.in_ok-expanded.ensures.tried in
    let few = c.in_ok-expanded.ensures.few in
    let same = inv.limit in
    let stays = c.in_ok-expanded.ensures.limit in
    let long = long_grown old new grows in
    let on : c.loop-complete.complete ≡ true = c.loop-complete-test.true in
    let some = some_at plan.layout old done below in
    record {
      layout = c.in_ok-expanded.ensures.layout;
      limit = stays ∙ same;
      reached = c.in_ok-expanded.ensures.reached;
      few = omega (arith, few, same);
      done = omega (arith, below, long);
      first = λ e. at_grown old new grows plan.layout 0 (first plan) (inv.first on);
      closed = λ e. closed_more plan old new grows limit done below x.on x.room tried e (inv.closed on);
      read = read_more plan old new grows limit done below x.on x.room tried c.loop-complete.outcomes.items c.witness.new.found.items c.in_ok-witness.ensures.keeps c.in_ok-witness.ensures.listed inv.read;
      sound = c.in_ok-witness.ensures.sound inv.sound;
      once = c.in_ok-witness.ensures.once inv.once;
      full = λ e. (let most = (tried some.0 some.1).full e in omega (arith, most, few, same));
    }

pub returns-clause-complete : goal.returns-clause-complete
returns-clause-complete g c = λ e.
    let inv = c.loop-complete.invariant in
    let past : length c.loop-complete.search.reached.items ≤ c.loop-complete.done =
    elim c.loop-complete-test.branch [
      | then-loop-complete-test+else-done-len w ↦ (let n = w.len.ensures in let over = w.if-done-len in omega arith)
      | else-loop-complete-test w ↦ (let off = w.loop-complete-test in absurd cc)
    ] in
    has_all c.args.plan.now c.loop-complete.search.reached.items c.loop-complete.done c.loop-complete.outcomes.items past (inv.first e) (inv.closed e) inv.read
