-- What holds of a lock whose time limit comes while it sleeps.
use Rattle.std.proofs.Common.{◌≡◌, ℕ, Bool, true, List, [], refl}
use Rattle.lockword.specs.declared.reply.Reply.{Reply}
use Rattle.lockword.specs.declared.reply.Reply.TheVariants.{ETIMEDOUT}
use Rattle.stepprograms.specs.declared.access.Answer.{Answer}
use Rattle.posixmutex.specs.declared.point.Operation.TheVariants as operation
use Rattle.memorymap.specs.Layouts.{Layout'}
use Rattle.mutex.specs.declared.call.Call.{Call}
use Rattle.mutex.specs.declared.lock.LockRow.TheVariants as lock
use Rattle.mutex.specs.declared.row.Row.TheVariants as row
use Rattle.mutex.specs.declared.phase.Phase.{Phase}
use Rattle.mutex.specs.declared.phase.Phase.TheVariants.{AtCell, Clearing}
use Rattle.mutex.specs.Whole.{begins, may_expire}
use Rattle.mutex.specs.WholeLaws.{whole_reached}
use Rattle.mutex.specs.Decisions.{decided_by}
use Rattle.mutex.specs.WholeLists.{KeepsList}
use Rattle.mutex.specs.Expiries.{ExpiriesAreRight}
use Rattle.mutex.proofs.Once.{DecidedSo, run_so, begins_so}

-- a lock that sleeps has had no point
none_yet : (f : Phase) (ds : List Reply) → may_expire f ≡ true → DecidedSo f ds → ds ≡ []
none_yet (AtCell (row.Lock lock.Load)) ds e h = h.1
none_yet (AtCell (row.Lock (lock.Sleep v))) ds e h = h.1
none_yet f ds e h = absurd cc

undecided : (l : Layout') (t : ℕ) (c : Call) (answers : List Answer) → may_expire (whole_reached (begins l t c) answers).phase ≡ true → decided_by (begins l t c) answers ≡ []
undecided l t c answers e = none_yet (whole_reached (begins l t c) answers).phase (decided_by (begins l t c) answers) e (run_so answers (begins l t c) [] (begins_so l t c))

-- its list is whole
lists : (l : Layout') (t : ℕ) (owns : ℕ → Bool) (m : ℕ) (f : Phase) (w : ℕ → ℕ) → may_expire f ≡ true → KeepsList l t owns m operation.Lock f w → KeepsList l t owns m operation.Lock (Clearing ETIMEDOUT) w
lists l t owns m (AtCell (row.Lock lock.Load)) w e k = record { knows = tt; stands = tt; entries = k.entries; owned = k.owned; chain = k.chain; pending = k.pending }
lists l t owns m (AtCell (row.Lock (lock.Sleep v))) w e k = record { knows = tt; stands = tt; entries = k.entries; owned = k.owned; chain = k.chain; pending = k.pending }
lists l t owns m f w e k = absurd cc

pub right : ExpiriesAreRight
right = record { clears = λ p. refl; returns = λ p. refl; undecided = undecided; lists = λ l t owns m p w e k. lists l t owns m p.phase w e k }
