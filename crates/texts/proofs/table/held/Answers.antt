use Rattle.std.proofs.Common.{◌≡◌, ◌<◌, ℕ, Option, Some, None, refl, arith, ap, sym, ◌∙◌}
use Rattle.std.specs.Option.{option_eq}
use Rattle.memorymap.specs.Layouts.{Layout'}
use Rattle.lockword.specs.contracts.tid.TidPartialEq.TheImpl as impl
use Rattle.protocol.specs.Headline.{seen}
use Rattle.interleave.specs.Shown.{state_of}
use Rattle.texts.specs.Tables.{is_owner}
use Rattle.texts.proofs.Tables.{counted_one, counted_none, counted_all}
use Rattle.texts.proofs.table.held.Goals as goal
use Rattle.texts.proofs.table.held.Goals.{then-eq, else-eq}

same_owner : (o : Option ℕ) (t : ℕ) → option_eq (impl.eq-value).it o (Some t) ≡ is_owner t o
same_owner None t = refl
same_owner (Some u) t = refl

pub loop-mutex-preserved : goal.loop-mutex-preserved
loop-mutex-preserved c =
    let s = state_of c.args.machine.now in
    let t = c.args.thread in
    let m = c.loop-mutex.mutex in
    let count = c.args.machine.now.layout.mutexes in
    let end : c.mutexes-mutex-end.result ≡ count = c.mutexes-mutex-end.ensures.value ∙ ap (λ (l : Layout'). l.mutexes) c.layout.ensures.value in
    let inside : m < count = omega (arith, c.loop-mutex-test.true, end) in
    let owns : c.eq.result ≡ is_owner t (seen s m).owner = c.eq.ensures ∙ same_owner c.owner.result t ∙ ap (is_owner t) c.owner.ensures in
    elim c.if-eq.branch [
      | then-eq w ↦ (counted_one (λ k. is_owner t (seen s k).owner) count m c.loop-mutex.held c.if-eq.held inside c.loop-mutex.invariant.0 (sym owns ∙ w.if-eq.true) w.held-is, omega (arith, w.held-is, c.loop-mutex.invariant.1))
      | else-eq w ↦ (counted_none (λ k. is_owner t (seen s k).owner) count m c.loop-mutex.held c.if-eq.held inside c.loop-mutex.invariant.0 (sym owns ∙ w.if-eq.false) w.held-is, omega (arith, w.held-is, c.loop-mutex.invariant.1))
    ]

pub returns : goal.returns
returns c =
    let s = state_of c.args.machine.now in
    let t = c.args.thread in
    let count = c.args.machine.now.layout.mutexes in
    let end : c.mutexes-mutex-end.result ≡ count = c.mutexes-mutex-end.ensures.value ∙ ap (λ (l : Layout'). l.mutexes) c.layout.ensures.value in
    counted_all (λ k. is_owner t (seen s k).owner) count c.loop-mutex.mutex c.loop-mutex.held (omega (arith, c.loop-mutex-test.false, end)) c.loop-mutex.invariant.0
