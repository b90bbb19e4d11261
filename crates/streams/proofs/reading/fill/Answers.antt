use Rattle.std.proofs.Common.{◌≡◌, ℕ, ◌+◌, ◌-◌, ◌≤◌, ◌++◌, rules, arith, length, take, sym, ap, ◌∙◌, subst}
use Rattle.std.specs.Io.KnownBytes.{Consumes}
use Rattle.streams.proofs.Readers.{front_stays, Consumes-trans, Consumes-kept, take_split, slice_range-put_mid}
use borrow.Rule.Slice.PartMut.{put_mid}
use Rattle.streams.proofs.reading.fill.Goals as goal
use Rattle.streams.proofs.reading.fill.Goals.{in-Ok, in-Err+else-ne}

pub loop-preserved : goal.loop-preserved
loop-preserved g c =
    let from = c.loop.at in
    let old = c.loop.buf in
    let room = length old - from in
    let new = put_mid from room old c.read.new.buf in
    let within = c.loop.invariant.1 in
    let front = front_stays from room old c.read.new.buf within in
    let len : length new ≡ length c.args.buf.now = search rules in
    let same : length new ≡ length old = search rules in
    elim c.match-read.branch [
      | in-Ok w ↦
          let n = w.in-Ok.n in
          let fits : n ≤ length c.read.new.buf = search rules in
          let part = slice_range-put_mid from room n old c.read.new.buf within fits in
          let joined = take_split from (from + n) old new (omega arith) front in
          let taken : Consumes (g.R.Read.remaining c.args.input.now) (g.R.Read.remaining c.read.new.self) (take (from + n) new) = subst (Consumes _ _) (ap (λ l. take from old ++ l) (sym part) ∙ joined) (Consumes-trans _ _ _ _ _ c.loop.invariant.2 w.in-Ok.ensures.bytes.0) in
          (len, omega (arith, w.at-is, fits, within, same, w.in-Ok.ensures.bound), subst (λ (k : ℕ). Consumes (g.R.Read.remaining c.args.input.now) (g.R.Read.remaining c.read.new.self) (take k new)) (sym w.at-is) taken)
      | in-Err+else-ne w ↦ (
        len,
        omega (arith, w.at-is, within, same),
        subst (λ (k : ℕ). Consumes (g.R.Read.remaining c.args.input.now) (g.R.Read.remaining c.read.new.self) (take k new)) (sym w.at-is)
            (subst (Consumes _ _) (sym front) (Consumes-kept _ _ _ _ c.loop.invariant.2 w.in-Err.ensures.bytes)),
      )
    ]
