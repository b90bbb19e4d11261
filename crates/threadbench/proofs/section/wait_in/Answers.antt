use Rattle.std.proofs.Common.{ℕ, sym, subst}
use Rattle.memorymap.specs.Layouts.{cell_place}
use Rattle.ruledwords.specs.Looks.{Finds}
use Rattle.ruledwords.specs.Passes.{card, layout_of}
use Rattle.ruledwords.specs.Turns.{running_pass}
use Rattle.threadbench.proofs.section.wait_in.Goals as goal

pub returns-then-compare_and_enqueue-clause-finds : goal.returns-then-compare_and_enqueue-clause-finds
returns-then-compare_and_enqueue-clause-finds g c = λ m on. subst (λ (n : ℕ). Finds (card (running_pass c.args.running.now)) (cell_place (layout_of c.args.words.now) m) n) (sym c.load-seen.ensures.last.0) (c.load-seen.ensures.finds m on)

pub returns-else-compare_and_enqueue-clause-finds : goal.returns-else-compare_and_enqueue-clause-finds
returns-else-compare_and_enqueue-clause-finds g c = λ m on. subst (λ (n : ℕ). Finds (card (running_pass c.args.running.now)) (cell_place (layout_of c.args.words.now) m) n) (sym c.load-seen.ensures.last.0) (c.load-seen.ensures.finds m on)
