use Rattle.std.proofs.Common.{◌≡◌, ◌<◌, ◌+◌, Bool, IfSome, Option, length, if◌then◌else◌, ap, subst, ◌∙◌, arith}
use Rattle.std.specs.Prelude.{slice_set}
use Rattle.posixmutex.specs.declared.point.Decision.{Decision}
use Rattle.certificates.specs.declared.walk.Thread.{Thread}
use Rattle.certificates.specs.Certificates.{is_seen, whose}
use Rattle.certificates.specs.Walks.{mutexes_after, thread_after, thread_at}
use Rattle.certificates.proofs.Behind.{read_thread}
use Rattle.certificates.proofs.walk.Walk.take.Goals as goal

pub returns-clause-walks : goal.returns-clause-walks
returns-clause-walks c =
    let e = c.args.step.now in
    let w = c.args.self.now in
    let ts = w.threads.items in
    let by : c.from-by.result ≡ whose e = c.from-by.ensures ∙ c.get.ensures.value ∙ c.thread_of.ensures in
    let inside : whose e < length ts = omega (arith, c.requires.room.threads, c.get.ensures.last, by, c.from-by.ensures) in
    let read : c.index.result.now ≡ thread_at ts (whose e) = read_thread ts c.from-by.result (whose e) c.index.result.now by inside c.index.ensures in
    record {
      thread = inside;
      mutex = subst (λ (o : Option Decision). IfSome o (λ d. d.mutex < length w.mutexes.items)) c.decision_in.ensures c.change.ensures.mutex;
      threads = ap (λ k. slice_set ts k c.thread_after.result) by ∙ ap (slice_set ts (whose e)) (c.thread_after.ensures ∙ ap (λ (p : Thread). thread_after p e w.lines) read);
      mutexes = c.change.ensures.mutexes ∙ ap (λ (o : Option Decision). mutexes_after w.mutexes.items o w.lines) c.decision_in.ensures;
      lines = c.behind-self.ensures ∙ ap (λ (b : Bool). if b then w.lines + 1 else w.lines) (c.is_seen-seen.ensures ∙ ap (λ (p : Thread). is_seen e p.doomed) read);
    }
