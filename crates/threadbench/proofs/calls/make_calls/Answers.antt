use Rattle.std.proofs.Common.{rules, inr, refl, ◌≡◌, ◌+◌, ◌∙◌, length, vec_len, arith}
use mathlib.Core.Logic.{dite}
use native.Mathlib.Decide.{ℕ_discrete}
use Rattle.ruledwords.specs.Passes.{card, layout_of}
use Rattle.threadbench.specs.declared.job.WorkerPass.TheVariants.{Lives, Reaped}
use Rattle.threadbench.proofs.Answers.{answered_next, let_through, next_lost, next_refused, stops_there, the_same_call}
use Rattle.threadbench.proofs.Heeding.{heeded_in}
use Rattle.threadbench.proofs.calls.make_calls.Goals as goal

pub loop-call-preserved : goal.loop-call-preserved
loop-call-preserved g c =
    let so_far = c.loop-call.invariant in
    let len = c.push_in_room.ensures.len in
    let room = c.push_in_room.ensures.room in
    let counted = so_far.counted in
    let fits = so_far.room in record {
      live = c.in-Lives.ensures.ends.0;
      answered = answered_next (layout_of c.args.bench.now) (card c.args.pass) c.args.calls.now c.loop-call.call-index _ c.loop-call.replies.items c.push_in_room.new.list.items (card c.loop-call.pass) c.in-Lives.reply (card c.in-Lives.after)
          c.loop-call-test.true so_far.answered c.in-Lives.ensures.ends.1 c.push_in_room.ensures.items;
      counted = omega (arith, len, counted);
      room = omega (arith, room, fits);
      let_through = λ i call low at. dite (ℕ_discrete i (vec_len c.loop-call.replies))
          (λ here. let_through (g.G.Gate.says c.args.gate.now) _ (card c.args.pass).thread _ (i + 1) _ call c.before-in-loop-call.result c.before-in-loop-call.ensures c.thread-thread.ensures (let n = c.len.ensures in omega (arith, n, here))
          (the_same_call c.args.calls.now i c.loop-call.call-index _ call c.loop-call-test.true (omega (arith, here, counted)) at) (search rules))
          (λ other. so_far.let_through i call (omega (arith, len, low, other)) at);
      fate = c.in-Lives.ensures.fate ∙ so_far.fate;
    }

pub returns-then-not-before-clause-worked : goal.returns-then-not-before-clause-worked
returns-then-not-before-clause-worked g c =
    let so_far = c.loop-call.invariant in
    let says = g.G.Gate.says c.args.gate.now in
    let a = card c.args.pass in
    let calls = c.args.calls.now in
    let i = c.loop-call.call-index in
    let low = c.loop-call-test.true in
    let long : length c.loop-call.replies.items ≡ vec_len c.loop-call.replies = omega arith in
    let counted = long ∙ so_far.counted in
    stops_there c.args.bench.now says a calls i c.loop-call.replies.items (card c.loop-call.pass) (Lives c.loop-call.pass) low counted so_far.answered
    (λ j call low at. so_far.let_through j call (omega (arith, low, long)) at) (
      so_far.live,
      refl,
      inr (next_refused says _ a.thread _ calls i (length c.loop-call.replies.items) _ c.before-in-loop-call.result low counted c.before-in-loop-call.ensures c.thread-thread.ensures (let n = c.len.ensures in omega (arith, n, long)) (search rules)),
    )

pub returns-in-Dead-clause-worked : goal.returns-in-Dead-clause-worked
returns-in-Dead-clause-worked g c =
    let so_far = c.loop-call.invariant in
    let says = g.G.Gate.says c.args.gate.now in
    let a = card c.args.pass in
    let calls = c.args.calls.now in
    let i = c.loop-call.call-index in
    let low = c.loop-call-test.true in
    let long : length c.loop-call.replies.items ≡ vec_len c.loop-call.replies = omega arith in
    let counted = long ∙ so_far.counted in
    let reaped = c.exit-reaped in
    stops_there c.args.bench.now says a calls i c.loop-call.replies.items (card c.loop-call.pass) (Reaped reaped.result) low counted so_far.answered
    (λ j call low at. so_far.let_through j call (omega (arith, low, long)) at) (
      reaped.ensures.pass,
      next_lost says _ a.thread _ calls i (length c.loop-call.replies.items) _ c.before-in-loop-call.result (layout_of c.args.bench.now) (card c.loop-call.pass) (card c.in-Dead.dead) (card reaped.result) low counted c.before-in-loop-call.ensures c.thread-thread.ensures
          (let n = c.len.ensures in omega (arith, n, long)) (search rules) c.in-Dead.ensures.ends.1 reaped.ensures.reaped,
    )

pub returns-in-Dead-clause-fate : goal.returns-in-Dead-clause-fate
returns-in-Dead-clause-fate g c = heeded_in _ _ _ c.loop-call.invariant.fate c.in-Dead.ensures.fate
