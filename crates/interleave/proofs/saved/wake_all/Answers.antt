use Rattle.std.proofs.Common.{◌≡◌, ◌≢◌, ◌+◌, true, refl, sym, ap, ◌∙◌, arith}
use Rattle.buckets.specs.Queues.{without}
use Rattle.protocol.specs.Machine.{stands_in}
use Rattle.protocol.proofs.Queues.{without_stands}
use Rattle.syscalls.specs.Kernels.{queue_of}
use Rattle.interleave.proofs.Saving.{nobody}
use Rattle.interleave.proofs.Sleeping.{contained, contains}
use Rattle.interleave.proofs.saved.wake_all.Goals as goal

pub loop-before-init : goal.loop-before-init
loop-before-init c = record {
  left = λ key t h. let known = c.threads-before-end.ensures.sound.known key t h in let first = known.0 in omega arith;
  sound = c.threads-before-end.ensures.sound;
  threads = refl;
  heads = refl;
}

pub loop-before-preserved : goal.loop-before-preserved
loop-before-preserved c =
    let changes = c.remove.ensures.changes in
    record {
      left = λ key t h.
          let q = queue_of c.loop-before.kernel key in
          let stands : stands_in t (without c.in-Some.thread q) ≡ true = ap (stands_in t) (sym (changes.queues key)) ∙ contained t (queue_of c.remove.new.self key) h in
          let before = without_stands c.in-Some.thread t q stands in
          let later = c.loop-before.invariant.left key t (contains t q before.0) in
          let apart : t ≢ c.loop-before.before + 1 = λ e. before.1 (e ∙ sym c.in-Some.ensures.1) in
          omega (arith, later, apart);
      sound = c.remove.ensures.sound;
      threads = changes.threads ∙ c.loop-before.invariant.threads;
      heads = changes.heads ∙ c.loop-before.invariant.heads;
    }

pub returns-clause-queues : goal.returns-clause-queues
returns-clause-queues c = λ key.
    nobody (queue_of c.loop-before.kernel key) (λ t stands.
    let h = contains t (queue_of c.loop-before.kernel key) stands in
    let later = c.loop-before.invariant.left key t h in
    let known = c.loop-before.invariant.sound.known key t h in
    let last = known.1 in
    let threads = c.loop-before.invariant.threads in
    let value = c.threads-before-end.ensures.value in
    omega (arith, later, last, threads, value))
