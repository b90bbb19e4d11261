use Rattle.std.proofs.Common.{refl, sym, subst}
use Rattle.interleave.specs.Shown.{state_of}
use Rattle.explore_report.specs.Replays.{AreLeft, HaveEnded}
use Rattle.explore_report.proofs.replaying.shows.Goals as goal

pub returns-then-branch-clause-so : goal.returns-then-branch-clause-so
returns-then-branch-clause-so c = λ left. record {
  many = c.if-not-has_as_many.ensures.so refl;
  threads = subst (HaveEnded (state_of c.args.machine.now) c.args.notes.now) c.deref.ensures.value (c.in_ok-have_ended.ensures.so c.if-branch.true);
  mutexes = subst (AreLeft (state_of c.args.machine.now)) c.deref-then-branch.ensures.value (c.are_left.ensures.so left);
}

pub returns-then-branch-clause-only : goal.returns-then-branch-clause-only
returns-then-branch-clause-only c = λ s. c.are_left.ensures.only (subst (AreLeft (state_of c.args.machine.now)) (sym c.deref-then-branch.ensures.value) s.mutexes)

pub returns-else-branch-clause-only : goal.returns-else-branch-clause-only
returns-else-branch-clause-only c = λ s. c.in_ok-have_ended.ensures.only (subst (HaveEnded (state_of c.args.machine.now) c.args.notes.now) (sym c.deref.ensures.value) s.threads)
