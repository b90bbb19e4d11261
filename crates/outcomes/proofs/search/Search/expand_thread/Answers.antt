use Rattle.std.proofs.Common.{◌≡◌, ◌∙◌, sym, subst, Bool, ◌&&◌, ◌||◌, ℕ}
use Rattle.outcomes.specs.declared.events.Kind.TheVariants as kind
use Rattle.outcomes.specs.Kept.{position_in}
use Rattle.outcomes.specs.Searches.{Grows, IsThread, IsTriedOf, came, had_room}
use Rattle.outcomes.proofs.Reaching.{at_grown, grows_twice, grows_not}
use Rattle.outcomes.proofs.Trying.{six_tried, tried_grown}
use Rattle.outcomes.proofs.search.Search.expand_thread.Goals as goal

-- the position stays where it is
pub try_kind-requires-2-clause-at : goal.try_kind-requires-2-clause-at
try_kind-requires-2-clause-at c = at_grown c.args.self.now.reached.items c.try_kind.new.self.reached.items c.in_ok-begin.ensures.grows c.args.plan.now.layout c.args.place (position_in c.args.plan.now.layout c.args.kept.now)
    c.requires.at

pub try_kind-requires-3-clause-at : goal.try_kind-requires-3-clause-at
try_kind-requires-3-clause-at c = at_grown c.try_kind.new.self.reached.items c.try_kind-2.new.self.reached.items c.in_ok-step.ensures.grows c.args.plan.now.layout c.args.place (position_in c.args.plan.now.layout c.args.kept.now)
    (at_grown c.args.self.now.reached.items c.try_kind.new.self.reached.items c.in_ok-begin.ensures.grows c.args.plan.now.layout c.args.place (position_in c.args.plan.now.layout c.args.kept.now)
    c.requires.at)

pub try_kind-requires-4-clause-at : goal.try_kind-requires-4-clause-at
try_kind-requires-4-clause-at c = at_grown c.try_kind-2.new.self.reached.items c.try_kind-3.new.self.reached.items c.in_ok-expire.ensures.grows c.args.plan.now.layout c.args.place (position_in c.args.plan.now.layout c.args.kept.now)
    (at_grown c.try_kind.new.self.reached.items c.try_kind-2.new.self.reached.items c.in_ok-step.ensures.grows c.args.plan.now.layout c.args.place (position_in c.args.plan.now.layout c.args.kept.now)
    (at_grown c.args.self.now.reached.items c.try_kind.new.self.reached.items c.in_ok-begin.ensures.grows c.args.plan.now.layout c.args.place (position_in c.args.plan.now.layout c.args.kept.now)
    c.requires.at))

pub try_kind-requires-5-clause-at : goal.try_kind-requires-5-clause-at
try_kind-requires-5-clause-at c = at_grown c.try_kind-3.new.self.reached.items c.try_kind-4.new.self.reached.items c.in_ok-kill.ensures.grows c.args.plan.now.layout c.args.place (position_in c.args.plan.now.layout c.args.kept.now)
    (at_grown c.try_kind-2.new.self.reached.items c.try_kind-3.new.self.reached.items c.in_ok-expire.ensures.grows c.args.plan.now.layout c.args.place (position_in c.args.plan.now.layout c.args.kept.now)
    (at_grown c.try_kind.new.self.reached.items c.try_kind-2.new.self.reached.items c.in_ok-step.ensures.grows c.args.plan.now.layout c.args.place (position_in c.args.plan.now.layout c.args.kept.now)
    (at_grown c.args.self.now.reached.items c.try_kind.new.self.reached.items c.in_ok-begin.ensures.grows c.args.plan.now.layout c.args.place (position_in c.args.plan.now.layout c.args.kept.now)
    c.requires.at)))

pub try_kind-requires-6-clause-at : goal.try_kind-requires-6-clause-at
try_kind-requires-6-clause-at c = at_grown c.try_kind-4.new.self.reached.items c.try_kind-5.new.self.reached.items c.in_ok-leave.ensures.grows c.args.plan.now.layout c.args.place (position_in c.args.plan.now.layout c.args.kept.now)
    (at_grown c.try_kind-3.new.self.reached.items c.try_kind-4.new.self.reached.items c.in_ok-kill.ensures.grows c.args.plan.now.layout c.args.place (position_in c.args.plan.now.layout c.args.kept.now)
    (at_grown c.try_kind-2.new.self.reached.items c.try_kind-3.new.self.reached.items c.in_ok-expire.ensures.grows c.args.plan.now.layout c.args.place (position_in c.args.plan.now.layout c.args.kept.now)
    (at_grown c.try_kind.new.self.reached.items c.try_kind-2.new.self.reached.items c.in_ok-step.ensures.grows c.args.plan.now.layout c.args.place (position_in c.args.plan.now.layout c.args.kept.now)
    (at_grown c.args.self.now.reached.items c.try_kind.new.self.reached.items c.in_ok-begin.ensures.grows c.args.plan.now.layout c.args.place (position_in c.args.plan.now.layout c.args.kept.now)
    c.requires.at))))

pub returns-clause-tried : goal.returns-clause-tried
returns-clause-tried c = λ p at.
    let plan = c.args.plan.now in
    let t = c.args.thread in
    let limit = c.args.self.now.limit in
    let s0 = c.args.self.now.reached.items in
    let s1 = c.try_kind.new.self.reached.items in
    let s2 = c.try_kind-2.new.self.reached.items in
    let s3 = c.try_kind-3.new.self.reached.items in
    let s4 = c.try_kind-4.new.self.reached.items in
    let s5 = c.try_kind-5.new.self.reached.items in
    let s6 = c.try_kind-6.new.self.reached.items in
    let g1 : Grows s0 s1 = c.in_ok-begin.ensures.grows in
    let g2 : Grows s1 s2 = c.in_ok-step.ensures.grows in
    let g3 : Grows s2 s3 = c.in_ok-expire.ensures.grows in
    let g4 : Grows s3 s4 = c.in_ok-kill.ensures.grows in
    let g5 : Grows s4 s5 = c.in_ok-leave.ensures.grows in
    let g6 : Grows s5 s6 = c.in_ok-spare.ensures.grows in
    let f1 = g1 in
    let f2 : Grows s0 s2 = grows_twice s0 s1 s2 f1 g2 in
    let f3 : Grows s0 s3 = grows_twice s0 s2 s3 f2 g3 in
    let f4 : Grows s0 s4 = grows_twice s0 s3 s4 f3 g4 in
    let f5 : Grows s0 s5 = grows_twice s0 s4 s5 f4 g5 in
    let f6 : Grows s0 s6 = grows_twice s0 s5 s6 f5 g6 in
    let e6 : Grows s6 s6 = grows_not s6 in
    let e5 : Grows s5 s6 = grows_twice s5 s6 s6 g6 e6 in
    let e4 : Grows s4 s6 = grows_twice s4 s5 s6 g5 e5 in
    let e3 : Grows s3 s6 = grows_twice s3 s4 s6 g4 e4 in
    let e2 : Grows s2 s6 = grows_twice s2 s3 s6 g3 e3 in
    let e1 : Grows s1 s6 = grows_twice s1 s2 s6 g2 e2 in
    let l1 : c.try_kind.new.self.limit ≡ limit = c.in_ok-begin.ensures.limit in
    let l2 : c.try_kind-2.new.self.limit ≡ limit = c.in_ok-step.ensures.limit ∙ l1 in
    let l3 : c.try_kind-3.new.self.limit ≡ limit = c.in_ok-expire.ensures.limit ∙ l2 in
    let l4 : c.try_kind-4.new.self.limit ≡ limit = c.in_ok-kill.ensures.limit ∙ l3 in
    let l5 : c.try_kind-5.new.self.limit ≡ limit = c.in_ok-leave.ensures.limit ∙ l4 in
    let l6 : c.try_kind-6.new.self.limit ≡ limit = c.in_ok-spare.ensures.limit ∙ l5 in
    let h1 = tried_grown plan p limit s1 s6 e1 kind.Begin t c.in_ok-begin.begin (c.in_ok-begin.ensures.tried p at) in
    let h2 = tried_grown plan p limit s2 s6 e2 kind.Step t c.in_ok-step.step (subst (λ (n : ℕ). IsTriedOf plan p n s2 kind.Step t c.in_ok-step.step) l1 (c.in_ok-step.ensures.tried p (at_grown s0 s1 f1 plan.layout c.args.place p at))) in
    let h3 = tried_grown plan p limit s3 s6 e3 kind.Expire t c.in_ok-expire.expire (subst (λ (n : ℕ). IsTriedOf plan p n s3 kind.Expire t c.in_ok-expire.expire) l2 (c.in_ok-expire.ensures.tried p (at_grown s0 s2 f2 plan.layout c.args.place p at))) in
    let h4 = tried_grown plan p limit s4 s6 e4 kind.Kill t c.in_ok-kill.kill (subst (λ (n : ℕ). IsTriedOf plan p n s4 kind.Kill t c.in_ok-kill.kill) l3 (c.in_ok-kill.ensures.tried p (at_grown s0 s3 f3 plan.layout c.args.place p at))) in
    let h5 = tried_grown plan p limit s5 s6 e5 kind.Leave t c.in_ok-leave.leave (subst (λ (n : ℕ). IsTriedOf plan p n s5 kind.Leave t c.in_ok-leave.leave) l4 (c.in_ok-leave.ensures.tried p (at_grown s0 s4 f4 plan.layout c.args.place p at))) in
    let h6 = tried_grown plan p limit s6 s6 e6 kind.Spare t c.in_ok-spare.spare (subst (λ (n : ℕ). IsTriedOf plan p n s6 kind.Spare t c.in_ok-spare.spare) l5 (c.in_ok-spare.ensures.tried p (at_grown s0 s5 f5 plan.layout c.args.place p at))) in
    let six = six_tried plan p limit s6 t c.in_ok-begin.begin c.in_ok-step.step c.in_ok-expire.expire c.in_ok-kill.kill c.in_ok-leave.leave c.in_ok-spare.spare h1 h2 h3 h4 h5 h6 in
    let room : c.both-room.result ≡ (((had_room c.in_ok-begin.begin && had_room c.in_ok-step.step) && had_room c.in_ok-expire.expire) && ((had_room c.in_ok-kill.kill && had_room c.in_ok-leave.leave) && had_room c.in_ok-spare.spare)) =
    c.both-room.ensures ∙ (λ i. c.had_room_for.ensures i && c.had_room_for-2.ensures i) in
    subst (λ (b : Bool). IsThread plan p limit s6 t b c.both-room.result) (sym c.goes_on-on.ensures)
    (subst (λ (b : Bool). IsThread plan p limit s6 t ((came c.in_ok-begin.begin || came c.in_ok-step.step) || came c.in_ok-expire.expire) b) (sym room) six)
