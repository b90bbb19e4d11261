use Rattle.std.proofs.Common.{◌≡◌, ◌≤◌, ◌+◌, ◌==◌, ◌∙◌, ℕ, Option, [], ◌∷◌, true, false, Ok, Err, ap, subst, arith}
use Rattle.std.specs.Prelude.{slice_index}
use Rattle.std.specs.Option.{SomeIff}
use Rattle.std.proofs.lemmas.Bool.Decides.{nat_tests}
use Rattle.std.proofs.lemmas.Result.{err_from_is_err_and}
use Rattle.memorymap.specs.Layouts.{Layout'}
use Rattle.protocol.specs.declared.event.Event.TheVariants.{Kill}
use Rattle.interleave.specs.Shown.{state_of}
use Rattle.script.specs.Playing.{Adds}
use Rattle.script.proofs.Killing.{kills_pass, kills_next, kills_fail, kills_last, its_process}
use Rattle.script.proofs.player.play_kills.Goals as goal
use Rattle.script.proofs.player.play_kills.Goals.{then-process_of-process+in_ok-play_event, else-process_of-process}
use Rattle.lockword.specs.Threads.{most_threads}

pub returns-in_err-play_event : goal.returns-in_err-play_event
returns-in_err-play_event c =
    let s = state_of c.args.machine.now in
    let s' = state_of c.loop-earlier.machine in
    let s'' = state_of c.play_event.new.machine in
    let k = c.loop-earlier.earlier in
    let h = c.loop-earlier.invariant in
    let id = (subst (λ (o : Option ℕ). SomeIff o ((1 ≤ k + 1) × (k + 1 ≤ most_threads)) (k + 1)) c.unwrap-thread.ensures c.new.ensures).1 in
    let its = its_process s.layout c.layout-in-loop-earlier.result.now c.args.process k c.unwrap-thread.result c.process_of.result id (c.layout-in-loop-earlier.ensures.value ∙ h.same) c.process_of.ensures.value in
    let same = c.if-process_of-process.true in
    let killed : (slice_index s.layout.processes k == c.args.process) ≡ true = grind (arith, nat_tests) in
    let test = c.loop-earlier-test.true in
    let threads = c.threads-earlier-end.ensures.value ∙ ap (λ (l : Layout'). l.threads) c.layout.ensures.value in
    let p = err_from_is_err_and c.from_residual.result c.from_residual.ensures.1 in
    rw (p.1, p.2) (kills_fail s s' s'' c.args.notes.now.items c.loop-earlier.notes.items c.play_event.new.notes.items c.args.process k c.in_err-play_event.field-0.0 h (omega arith) killed
    (subst (λ (t : ℕ). Adds s' s'' c.loop-earlier.notes.items c.play_event.new.notes.items (Kill t ∷ []) (Err c.in_err-play_event.field-0.0)) id c.in_err-play_event.ensures))

pub loop-earlier-preserved : goal.loop-earlier-preserved
loop-earlier-preserved c =
    let s = state_of c.args.machine.now in
    let s' = state_of c.loop-earlier.machine in
    let k = c.loop-earlier.earlier in
    let h = c.loop-earlier.invariant in
    let id = (subst (λ (o : Option ℕ). SomeIff o ((1 ≤ k + 1) × (k + 1 ≤ most_threads)) (k + 1)) c.unwrap-thread.ensures c.new.ensures).1 in
    let its = its_process s.layout c.layout-in-loop-earlier.result.now c.args.process k c.unwrap-thread.result c.process_of.result id (c.layout-in-loop-earlier.ensures.value ∙ h.same) c.process_of.ensures.value in
    elim c.if-process_of-process.branch [
      | then-process_of-process+in_ok-play_event w ↦
          (let same = w.if-process_of-process in
          let killed : (slice_index s.layout.processes k == c.args.process) ≡ true = grind (arith, nat_tests) in
          rw (w.machine-is, w.notes-is) (kills_next s s' (state_of w.play_event.new.machine) c.args.notes.now.items c.loop-earlier.notes.items w.play_event.new.notes.items c.args.process k h killed
          (subst (λ (t : ℕ). Adds s' (state_of w.play_event.new.machine) c.loop-earlier.notes.items w.play_event.new.notes.items (Kill t ∷ []) (Ok tt)) id w.in_ok-play_event.ensures)))
      | else-process_of-process w ↦
          (let other = w.if-process_of-process in
          let spared : (slice_index s.layout.processes k == c.args.process) ≡ false = grind (arith, nat_tests) in
          rw (w.machine-is, w.notes-is) (kills_pass s s' c.args.notes.now.items c.loop-earlier.notes.items c.args.process k h spared))
    ]

pub returns : goal.returns
returns c =
    let s = state_of c.args.machine.now in
    let over = c.loop-earlier-test.false in
    let end = c.loop-earlier.auto.earlier-end in
    let threads = c.threads-earlier-end.ensures.value ∙ ap (λ (l : Layout'). l.threads) c.layout.ensures.value in
    kills_last s (state_of c.loop-earlier.machine) c.args.notes.now.items c.loop-earlier.notes.items c.args.process c.loop-earlier.earlier c.loop-earlier.invariant (omega arith)
