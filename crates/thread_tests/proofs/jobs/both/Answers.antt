use Rattle.std.proofs.Common.{List, ◌++◌, All, Option, sym, ap, ◌∙◌, subst}
use Rattle.std.specs.Prelude.{option_to_list}
use Rattle.threadbench.specs.declared.job.Job.{Job}
use Rattle.threadbench.specs.declared.job.Record.{Record}
use Rattle.threadbench.specs.Each.{EachWith}
use Rattle.threadbench.specs.Jobs.{IsJobOf, IsDone}
use Rattle.thread_tests.proofs.Each.{all_two, both_last}
use Rattle.thread_tests.proofs.jobs.both.Goals as goal

pub work-requires : goal.work-requires
work-requires g c = (
  c.type_bounds.sync-R,
  (c.type_bounds.sync-G, subst (All (λ (j : Job). IsJobOf c.args.bench.now j)) (sym c.in-Ok.ensures.items) (all_two (IsJobOf c.args.bench.now) c.args.first c.args.second c.requires.first c.requires.second)),
)

pub returns : goal.returns
returns g c =
    let p = IsDone c.args.bench.now (g.G.Gate.says c.args.gate.now) in
    both_last p c.args.first c.args.second c.unwrap-first.result c.unwrap-second.result c.in_ok-records.records.items c.pop.new.self.items c.pop-2.new.self.items
    (c.pop.ensures.items ∙ ap (λ (o : Option Record). c.pop.new.self.items ++ option_to_list o) c.unwrap-second.ensures)
    (c.pop-2.ensures.items ∙ ap (λ (o : Option Record). c.pop-2.new.self.items ++ option_to_list o) c.unwrap-first.ensures)
    (subst (λ (js : List Job). EachWith p js c.in_ok-records.records.items) c.in-Ok.ensures.items c.in_ok-records.ensures)
