use Rattle.threadbench.proofs.Heeding.{is_heeded_alone}
use Rattle.threadbench.proofs.calls.answer_on_mutex.Goals as goal

pub returns-in-TryLock-clause-fate : goal.returns-in-TryLock-clause-fate
returns-in-TryLock-clause-fate g c = is_heeded_alone _ _ c.try_lock.result c.try_lock.ensures.fate

pub returns-in-Consistent-clause-fate : goal.returns-in-Consistent-clause-fate
returns-in-Consistent-clause-fate g c = is_heeded_alone _ _ c.consistent.result c.consistent.ensures.fate
