use Rattle.std.proofs.Common.{◌≡◌, ◌+◌, ◌∙◌, ◌||◌, sym, subst, Bool, ℕ, refl, arith}
use Rattle.outcomes.specs.Kept.{position_in}
use Rattle.outcomes.specs.Searches.{AreThreads, IsThread}
use Rattle.outcomes.proofs.Reaching.{at_grown, grows_twice, grows_not}
use Rattle.outcomes.proofs.Trying.{no_threads, more_threads}
use Rattle.outcomes.proofs.search.Search.expand.Goals as goal

pub loop-before-init : goal.loop-before-init
loop-before-init c = record {
  layout = c.requires.layout;
  limit = refl;
  reached = c.requires.reached;
  few = c.requires.few;
  grows = grows_not c.args.self.now.reached.items;
  tried = λ p at. no_threads c.args.plan.now p c.args.self.now.limit c.args.self.now.reached.items;
}

pub loop-before-preserved : goal.loop-before-preserved
loop-before-preserved c =
    let plan = c.args.plan.now in
    let s0 = c.args.self.now.reached.items in
    let s1 = c.loop-before.self.reached.items in
    let s2 = c.expand_thread.new.self.reached.items in
    let limit = c.args.self.now.limit in
    let t = c.in-Some.thread in
    let inv = c.loop-before.invariant in
    let x = c.in_ok-expanded.expanded in
    let same : c.expand_thread.new.self.limit ≡ limit = c.in_ok-expanded.ensures.limit ∙ inv.limit in
    let kept : c.expand_thread.new.self.limit ≡ c.loop-before.self.limit = c.in_ok-expanded.ensures.limit in
    let few = c.in_ok-expanded.ensures.few in
    record {
      layout = c.in_ok-expanded.ensures.layout;
      limit = same;
      reached = c.in_ok-expanded.ensures.reached;
      few = omega (arith, few, kept);
      grows = grows_twice s0 s1 s2 inv.grows c.in_ok-expanded.ensures.grows;
      tried = λ p at.
          let this = subst (λ (n : ℕ). IsThread plan p n s2 t x.on x.room) inv.limit (c.in_ok-expanded.ensures.tried p (at_grown s0 s1 inv.grows plan.layout c.args.place p at)) in
          let all = more_threads plan p limit s1 s2 c.loop-before.before t c.loop-before.on c.loop-before.room x.on x.room c.in_ok-expanded.ensures.grows c.in-Some.ensures.1 (inv.tried p at) this in
          subst (λ (b : Bool). AreThreads plan p limit s2 (c.loop-before.before + 1) b c.both-room.result) (sym c.either-on.ensures)
          (subst (λ (b : Bool). AreThreads plan p limit s2 (c.loop-before.before + 1) (c.loop-before.on || x.on) b) (sym c.both-room.ensures) all);
    }

pub expand_thread-requires-clause-at : goal.expand_thread-requires-clause-at
expand_thread-requires-clause-at c = at_grown c.args.self.now.reached.items c.loop-before.self.reached.items c.loop-before.invariant.grows c.args.plan.now.layout c.args.place (position_in c.args.plan.now.layout c.args.kept.now) c.requires.at

pub returns-clause-tried : goal.returns-clause-tried
returns-clause-tried c = λ p at.
    let value = c.threads-before-end.ensures.value in
    let past = c.loop-before-test.false in
    let end = c.loop-before.auto.before-end in
    let all : c.loop-before.before ≡ c.args.plan.now.layout.threads = omega arith in
    subst (λ (n : ℕ). AreThreads c.args.plan.now p c.args.self.now.limit c.loop-before.self.reached.items n c.loop-before.on c.loop-before.room) all (c.loop-before.invariant.tried p at)
