use Rattle.std.proofs.Common.{◌≡◌, ◌-◌, ◌≤◌, ℕ, length, take, drop, arith, subst, length-drop, sym, ◌++◌}
use Rattle.std.proofs.lemmas.List.{take_rest}
use Rattle.std.specs.Io.KnownBytes.{Appends}
use Rattle.streams.proofs.Writers.{Appends-trans, Appends-kept, take_further}
use Rattle.streams.proofs.pieces.put_text.Goals as goal
use Rattle.streams.proofs.pieces.put_text.Goals.{in-Ok, in-Err+else-ne}

pub loop-preserved : goal.loop-preserved
loop-preserved g c =
    let text = c.args.text.now in
    let rest : take (length text - c.loop.at) (drop c.loop.at text) ≡ drop c.loop.at text = take_rest text c.loop.at in
    elim c.match-write.branch [
      | in-Ok w ↦
          let bound : w.in-Ok.n ≤ length (drop c.loop.at text) = rw rest at w.in-Ok.ensures.bound in
          let more : take c.loop.at text ++ take w.in-Ok.n (take (length text - c.loop.at) (drop c.loop.at text)) ≡ take c.match-write.at text = rw (rest, w.at-is) (take_further text c.loop.at w.in-Ok.n) in
          (omega (arith, bound, length-drop c.loop.at text, w.at-is, c.loop.invariant.0, c.if-at-text.false), subst (Appends _ _) more (Appends-trans _ _ _ _ _ c.loop.invariant.1 w.in-Ok.ensures.bytes))
      | in-Err+else-ne w ↦
          (omega (arith, w.at-is, c.loop.invariant.0), subst (λ (k : ℕ). Appends (g.W.Write.contents c.args.out.now) (g.W.Write.contents c.write.new.self) (take k text)) (sym w.at-is) (Appends-kept _ _ _ _ c.loop.invariant.1 w.in-Err.ensures.bytes))
    ]
