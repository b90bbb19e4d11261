use Rattle.std.proofs.Common.{refl, sym, subst}
use Rattle.report.specs.Served.{AreLines}
use Rattle.report.proofs.serving.tell_answers.Goals as goal

pub returns-in-Ok-write_told-clause-ends : goal.returns-in-Ok-write_told-clause-ends
returns-in-Ok-write_told-clause-ends g c =
    let threads = c.deref.result.now in
    let mutexes = c.deref-2.result.now in
    let conditions = c.deref-3.result.now in
    let script = c.args.script.now in
    let answers = c.args.answers.now in
    let lines : AreLines script answers c.in-Ok.threads.items c.in-Ok-mutex_words.mutexes.items c.in-Ok-condition_words.conditions.items = record {
      thread_names = c.in-Ok.ensures.names;
      replies = c.in-Ok.ensures.replies;
      died = c.in-Ok.ensures.died;
      mutex_names = c.in-Ok-mutex_words.ensures.names;
      cells = c.in-Ok-mutex_words.ensures.cells;
      condition_names = c.in-Ok-condition_words.ensures.names;
      counters = c.in-Ok-condition_words.ensures.counters;
    } in (
      refl,
      (
        threads,
        mutexes,
        conditions,
        subst (λ ts. AreLines script answers ts mutexes conditions) (sym c.deref.ensures.value)
            (subst (λ ms. AreLines script answers c.in-Ok.threads.items ms conditions) (sym c.deref-2.ensures.value) (subst (λ cs. AreLines script answers c.in-Ok.threads.items c.in-Ok-mutex_words.mutexes.items cs) (sym c.deref-3.ensures.value) lines)),
        c.in-Ok-write_told.ensures.text,
      ),
    )
