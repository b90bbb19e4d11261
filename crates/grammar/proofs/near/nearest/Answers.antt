use Rattle.std.proofs.Common.{◌+◌, map, take, sym, subst, ◌∙◌, arith}
use Rattle.std.specs.Prelude.{option_map}
use Rattle.grammar.proofs.Nearness.{IsBest, farther_there, nearer_there, nearest_of}
use Rattle.grammar.proofs.near.nearest.Goals as goal
use Rattle.grammar.proofs.near.nearest.Goals.{then-apart-room, else-apart-room}

pub loop-other-preserved : goal.loop-other-preserved
loop-other-preserved c =
    elim c.if-apart-room.branch [
      | then-apart-room w ↦ nearer_there (λ w. w.now) c.args.word.now c.args.known.now c.loop-other.other-index _ c.loop-other.room c.if-apart-room.room c.loop-other.best c.if-apart-room.best c.loop-other-test.true c.loop-other.invariant w.best-is (w.room-is ∙ c.in_ok-apart.ensures.value) (let less = w.if-apart-room.true in let same = w.room-is in omega (arith, less, same))
      | else-apart-room w ↦ subst (λ n. IsBest c.args.word.now (map (λ k. k.now) (take (c.loop-other.other-index + 1) c.args.known.now)) n (option_map (λ k. k.now) c.if-apart-room.best)) (sym w.room-is) (farther_there (λ w. w.now) c.args.word.now c.args.known.now c.loop-other.other-index _ c.loop-other.room c.in_ok-apart.apart c.loop-other.best c.if-apart-room.best c.loop-other-test.true c.loop-other.invariant w.best-is c.in_ok-apart.ensures.value w.if-apart-room.false)
    ]

pub returns : goal.returns
returns c = nearest_of (λ w. w.now) c.args.word.now c.args.known.now c.loop-other.other-index c.loop-other.room c.loop-other.best c.loop-other-test.false c.loop-other.invariant
