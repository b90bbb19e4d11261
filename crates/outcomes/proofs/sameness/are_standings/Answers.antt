use Rattle.std.proofs.Common.{◌<◌, ◌∙◌, ap, sym, length, arith}
use Rattle.std.specs.declared.alloc.Global.{Global}
use Rattle.std.specs.declared.rc.Rc.{Rc}
use Rattle.outcomes.specs.Kept.{place_in}
use Rattle.outcomes.specs.Standings.{Stood}
use Rattle.outcomes.proofs.Lists.{fit_more, like_more}
use Rattle.outcomes.proofs.Storing.{comparable_at}
use Rattle.outcomes.proofs.sameness.are_standings.Goals as goal

pub loop-index-preserved : goal.loop-index-preserved
loop-index-preserved c = λ are.
    let i = c.loop-index.index in
    let rs = c.args.standings.now in
    let ths = c.args.threads.now in
    let lives = c.args.lives.now in
    let r = c.index-standings-index.result in
    let th = c.index-threads-index.result in
    let life = c.index-lives-index.result in
    let lt : i < length rs = c.loop-index-test.true in
    let many = c.if-standings-threads.false in
    let more = c.if-standings-lives.false in
    let below : i < length ths = omega (arith, lt, many) in
    let beside : i < length lives = omega (arith, lt, more) in
    let same = c.is_standing.ensures c.if-not-is_standing.false (comparable_at ths are i th below c.index-threads-index.is) in
    let deref = c.deref.ensures in (
      fit_more (λ (x : Rc Stood Global). x.value.thread) rs ths i r th lt below c.index-standings-index.is c.index-threads-index.is (c.loop-index.invariant are).0 (ap (λ (s : Stood). s.thread) (sym deref) ∙ same.0),
      like_more (λ (x : Rc Stood Global). x.value.place) place_in rs lives i r life lt beside c.index-standings-index.is c.index-lives-index.is (c.loop-index.invariant are).1 (ap (λ (s : Stood). s.place) (sym deref) ∙ same.1),
    )
