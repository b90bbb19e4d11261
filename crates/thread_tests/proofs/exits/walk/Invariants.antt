use Rattle.ruledwords.specs.Deaths.{reaping_pass, HasWalked, IsReapingOf}
use Rattle.ruledwords.specs.Passes.{card, layout_of}
use Rattle.thread_tests.proofs.exits.walk.Given as goal

abbrev pub invariant-loop-accesses : goal.invariant-loop-accesses
invariant-loop-accesses l = record {
  of : IsReapingOf l.words l.reaping;
  walked : HasWalked (layout_of l.words) (card l.fn.pass) (card (reaping_pass l.reaping));
}
