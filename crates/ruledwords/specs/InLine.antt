-- Locks and unlocks that nobody crosses, each in one straight line.
use Rattle.std.specs.Prelude.{◌≡◌, ℕ, ◌==◌, ◌&&◌, Bool, not, Option, Result, Ok, Err, false}
use Rattle.lockword.specs.Cells.{Fields}
use Rattle.lockword.specs.declared.reply.Reply.{Reply}
use Rattle.lockword.specs.declared.reply.Reply.TheVariants.{OK}
use Rattle.stepprograms.specs.declared.program.Progress.{Progress}
use Rattle.stepprograms.specs.declared.program.Progress.TheVariants.{Goes, Returns}
use Rattle.stepprograms.specs.Accesses.{answer_at}
use Rattle.posixmutex.specs.declared.point.Operation.{Operation}
use Rattle.posixmutex.specs.declared.point.Point.{Point}
use Rattle.memorymap.specs.Layouts.{Layout', address_in, cell_place, entry_place, head_place}
use Rattle.robustlist.specs.declared.link.LinkRow.{LinkRow}
use Rattle.robustlist.specs.declared.unlink.UnlinkRow.{UnlinkRow}
use Rattle.robustlist.specs.Link.{link_at}
use Rattle.robustlist.specs.Unlink.{unlink_at}
use Rattle.mutex.specs.declared.phase.Phase.{Phase}
use Rattle.mutex.specs.declared.phase.Phase.TheVariants as phase
use Rattle.mutex.specs.declared.row.Row.TheVariants as row
use Rattle.mutex.specs.declared.lock.LockRow.TheVariants as lock
use Rattle.mutex.specs.declared.unlock.UnlockRow.TheVariants as unlock
use Rattle.mutex.specs.Standings.{Whole}
use Rattle.mutex.specs.Whole.{whole_access, whole_at, whole_led, whole_moved, IsUnderWay as IsInProgress}
use Rattle.ruledwords.specs.declared.pass.Words.{Words}
use Rattle.ruledwords.specs.declared.pass.Pass.{Pass}
use Rattle.ruledwords.specs.declared.pass.Live.{Live}
use Rattle.ruledwords.specs.declared.step.End.{End}
use Rattle.ruledwords.specs.declared.step.End.TheVariants as end
use Rattle.ruledwords.specs.declared.uncrossed.Line.{Line}
use Rattle.ruledwords.specs.Passes.{card}
use Rattle.ruledwords.specs.Stretches.{ComesOn, ComesToEnd}
use Rattle.ruledwords.specs.Turns.{IsAtCell, TrimsNone}

-- the call where it is at a phase
abbrev pub stands : Line → Phase → Whole
stands l f = whole_at l.thread l.operation l.head l.entry l.cell f

-- a call of thread t on mutex m
abbrev pub line_of : Layout' → ℕ → Operation → ℕ → Line
line_of k t op m = record {
  thread = t;
  operation = op;
  head = address_in k t (head_place t);
  entry = address_in k t (entry_place k m);
  cell = address_in k t (cell_place k m);
}

-- ---- where it stands

abbrev pub announcing_lock : Phase
announcing_lock = phase.Announcing (row.Lock lock.Load)

abbrev pub loading_lock : Phase
loading_lock = phase.AtCell (row.Lock lock.Load)

-- it has seen such a cell
abbrev pub taking : Fields → Phase
taking c = phase.AtCell (row.Lock (lock.Take c))

-- it has taken the mutex with OK
abbrev pub linking : Line → LinkRow → Phase
linking l r = phase.Linking (link_at l.head l.entry r) OK

abbrev pub loading_unlock : Phase
loading_unlock = phase.AtCell (row.Unlock unlock.Load)

abbrev pub announcing_release : Phase
announcing_release = phase.Announcing (row.Unlock (unlock.Release false))

-- the mutex is consistent
abbrev pub unlinking : Line → UnlinkRow → Phase
unlinking l r = phase.Unlinking (unlink_at l.head l.entry r) false

abbrev pub releasing : Phase
releasing = phase.AtCell (row.Unlock (unlock.Release false))

-- a thread may take such a cell, and is returned OK then
abbrev pub is_free : Fields → Bool
is_free c = (c.owner == 0) && (not c.unusable && not c.died)

-- thread t owns such a cell, which is consistent
abbrev pub is_held : Fields → ℕ → Bool
is_held c t = (c.owner == t) && not c.died

-- ---- where an access leads

-- one that found this word
abbrev pub led_to : Whole → ℕ → Whole
led_to p n = whole_moved p (whole_led p (answer_at (whole_access p) n))

-- it was made in the call p: that goes on where it leads, or has replied. At the cell its word is the last that the thread
-- has found; and that has made no trim
pub record Leads (w : Words) (a : Pass Live) (p : Whole) (b : Pass Live) (n : ℕ) : Type 0 where
  pub goes : IsInProgress (led_to p n).phase → ComesOn w a p b (led_to p n)
  pub ends : (x : Reply) → (led_to p n).phase ≡ phase.Ended x → ComesToEnd w a p b (end.Replied x)
  pub found : IsAtCell p.phase → (card b).last ≡ n
  pub trims : TrimsNone (card a) (card b)

-- or the thread died before it
abbrev pub LeadsOn : Words → Pass Live → Whole → Pass Live → Result ℕ End → Type 0
LeadsOn w a p b (Ok n) = Leads w a p b n
LeadsOn w a p b (Err e) = ComesToEnd w a p b e × (e ≡ end.Stopped)

-- accesses were made in the call p, which is at q then, or the thread died in them
abbrev pub LeadsTo : Words → Pass Live → Whole → Pass Live → Whole → Result Unit End → Type 0
LeadsTo w a p b q (Ok u) = ComesOn w a p b q
LeadsTo w a p b q (Err e) = ComesToEnd w a p b e × (e ≡ end.Stopped)

-- where it replied it was OK
abbrev pub RepliesOk : End → Type 0
RepliesOk (end.Replied x) = x ≡ OK
RepliesOk end.Stopped = Unit {0}

abbrev pub told_in : Progress → Option Point
told_in (Goes point) = point
told_in (Returns x point) = point
