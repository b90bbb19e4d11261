use Rattle.std.proofs.Common.{refl}
use Rattle.report.proofs.Servings.{tabled, tabled_front, machine_threads, machine_mutexes, machine_conditions}
use Rattle.report.proofs.serving.table_bytes.Goals as goal

pub write_table_out-requires-clause-threads : goal.write_table_out-requires-clause-threads
write_table_out-requires-clause-threads g c = machine_threads c.in-Ok.played.script c.in-Ok.played.trace c.in-Ok.played.machine c.in-Ok.ensures.plays

pub write_table_out-requires-clause-mutexes : goal.write_table_out-requires-clause-mutexes
write_table_out-requires-clause-mutexes g c = machine_mutexes c.in-Ok.played.script c.in-Ok.played.trace c.in-Ok.played.machine c.in-Ok.ensures.plays

pub write_table_out-requires-clause-conditions : goal.write_table_out-requires-clause-conditions
write_table_out-requires-clause-conditions g c = machine_conditions c.in-Ok.played.script c.in-Ok.played.trace c.in-Ok.played.machine c.in-Ok.ensures.plays

pub returns-in-Ok-write_table_out-clause-ends : goal.returns-in-Ok-write_table_out-clause-ends
returns-in-Ok-write_table_out-clause-ends g c =
    let p = c.in-Ok.played in
    (refl, tabled _ _ c.args.bytes.now p.script p.trace p.machine c.in-Ok.ensures.reads c.in-Ok.ensures.plays c.in-Ok-write_table_out.ensures.text)

pub returns-clause-fails : goal.returns-clause-fails
returns-clause-fails g c =
    let p = c.in-Ok.played in
    tabled_front _ _ c.args.bytes.now p.script p.trace p.machine c.in-Ok.ensures.reads c.in-Ok.ensures.plays c.in-Err-write_table_out.ensures.text
