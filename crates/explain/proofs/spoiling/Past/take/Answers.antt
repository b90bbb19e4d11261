use Rattle.std.proofs.Common.{◌≡◌, ◌<◌, false, None, length, refl, sym, ap, subst, ◌∙◌, arith}
use Rattle.std.proofs.lemmas.List.{get_or_read_under}
use Rattle.facts.specs.Facts.{thread_of}
use Rattle.verdict.specs.Earlier.{told_of}
use Rattle.explain.specs.Spoiling.{IsDeathOf, death_at, waits_at}
use Rattle.explain.proofs.Recalling.{deaths_taken, step_inside, waits_taken}
use Rattle.explain.proofs.spoiling.Past.take.Goals as goal

pub returns-in-Some-clause-recalls : goal.returns-in-Some-clause-recalls
returns-in-Some-clause-recalls c = λ earlier is h.
    let e = c.args.entry.now in
    let d = c.in-Some.step in
    let ws = c.args.self.now.waits.items in
    let ds = c.args.self.now.deaths.items in
    let by : c.from-by.result ≡ thread_of e.fact = c.from-by.ensures ∙ c.get.ensures.value ∙ c.thread.ensures in
    let known : thread_of e.fact < length ws = c.requires.0 in
    let inside : d.mutex < length ds = step_inside (length ds) e.fact d c.requires.1 (sym c.in-Some.ensures) in
    let waited = get_or_read_under ws c.from-by.result (length ws) c.index.result.now false c.index.ensures (omega arith) refl ∙ ap (waits_at ws) by ∙ h.waits (thread_of e.fact) known in
    let died = get_or_read_under ds c.from-at.result (length ds) c.index-in-Some.result.now None c.index-in-Some.ensures (omega arith) refl ∙ ap (death_at ds) c.from-at.ensures in
    let death = c.death_behind.ensures earlier e (sym c.in-Some.ensures) is (subst (IsDeathOf d.mutex earlier) (sym died) (h.deaths d.mutex inside)) in
    record {
      waits = waits_taken ws c.from-by.result c.waits_behind.result e earlier by known (c.waits_behind.ensures (told_of (thread_of e.fact) earlier) waited) h.waits;
      deaths = deaths_taken ds c.from-at.result c.death_behind.result e earlier d c.from-at.ensures inside (sym c.in-Some.ensures) death h.deaths;
    }
