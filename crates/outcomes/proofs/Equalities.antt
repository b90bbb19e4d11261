-- Values that compare as equal are equal.
use Rattle.std.proofs.Common.{◌≡◌, ◌<◌, ◌&&◌, Bool, true, false, refl, sym, ap, ◌∙◌, arith, eqb-true}
use Rattle.std.proofs.lemmas.Bool.Decides.{nat_tests}
use Rattle.lockword.specs.Cells.{Fields, fields_of, word_of}
use Rattle.lockword.specs.Coding.{fields_of-word_of}
use Rattle.lockword.specs.contracts.reply.ReplyPartialEq.TheImpl as eq_Reply
use Rattle.lockword.specs.declared.reply.Reply.{Reply}
use Rattle.posixmutex.specs.contracts.point.OperationPartialEq.TheImpl as eq_Operation
use Rattle.posixmutex.specs.declared.point.Operation.{Operation}
use Rattle.mutex.specs.declared.lock.LockRow.TheVariants as lock
use Rattle.mutex.specs.declared.try_lock.TryLockRow.TheVariants as try
use Rattle.mutex.specs.declared.row.Row.TheVariants as row
use Rattle.mutex.specs.declared.phase.Phase.TheVariants as phase
use Rattle.mutex.specs.Rows.{Knows}
use Rattle.mutex.specs.Whole.{PhaseKnows}
use Rattle.condvar.specs.contracts.call.LimitPartialEq.TheImpl as eq_Limit
use Rattle.condvar.specs.declared.call.Limit.{Limit}
use Rattle.mutex.specs.contracts.call.CallPartialEq.TheImpl as eq_Call
use Rattle.mutex.specs.declared.call.Call.{Call}
use Rattle.condvar.specs.contracts.call.CondCallPartialEq.TheImpl as eq_CondCall
use Rattle.condvar.specs.declared.call.CondCall.{CondCall}
use Rattle.condvar.specs.contracts.op.OpPartialEq.TheImpl as eq_Op
use Rattle.condvar.specs.declared.op.Op.{Op}
use Rattle.mutex.specs.contracts.lock.LockRowPartialEq.TheImpl as eq_LockRow
use Rattle.mutex.specs.declared.lock.LockRow.{LockRow}
use Rattle.mutex.specs.contracts.try_lock.TryLockRowPartialEq.TheImpl as eq_TryLockRow
use Rattle.mutex.specs.declared.try_lock.TryLockRow.{TryLockRow}
use Rattle.mutex.specs.contracts.unlock.UnlockRowPartialEq.TheImpl as eq_UnlockRow
use Rattle.mutex.specs.declared.unlock.UnlockRow.{UnlockRow}
use Rattle.mutex.specs.contracts.consistent.ConsistentRowPartialEq.TheImpl as eq_ConsistentRow
use Rattle.mutex.specs.declared.consistent.ConsistentRow.{ConsistentRow}
use Rattle.mutex.specs.contracts.row.RowPartialEq.TheImpl as eq_Row
use Rattle.mutex.specs.declared.row.Row.{Row}
use Rattle.robustlist.specs.contracts.link.LinkRowPartialEq.TheImpl as eq_LinkRow
use Rattle.robustlist.specs.declared.link.LinkRow.{LinkRow}
use Rattle.robustlist.specs.contracts.link.LinkPartialEq.TheImpl as eq_Link
use Rattle.robustlist.specs.Standings.{LinkStanding}
use Rattle.robustlist.specs.contracts.unlink.UnlinkRowPartialEq.TheImpl as eq_UnlinkRow
use Rattle.robustlist.specs.declared.unlink.UnlinkRow.{UnlinkRow}
use Rattle.robustlist.specs.contracts.unlink.UnlinkPartialEq.TheImpl as eq_Unlink
use Rattle.robustlist.specs.Standings.{UnlinkStanding}
use Rattle.mutex.specs.contracts.phase.PhasePartialEq.TheImpl as eq_Phase
use Rattle.mutex.specs.declared.phase.Phase.{Phase}
use Rattle.mutex.specs.contracts.program.ProgramPartialEq.TheImpl as eq_Program
use Rattle.mutex.specs.Standings.{Whole}
use Rattle.condvar.specs.contracts.wait.WaitRowPartialEq.TheImpl as eq_WaitRow
use Rattle.condvar.specs.declared.wait.WaitRow.{WaitRow}
use Rattle.condvar.specs.contracts.signal.SignalRowPartialEq.TheImpl as eq_SignalRow
use Rattle.condvar.specs.declared.signal.SignalRow.{SignalRow}
use Rattle.condvar.specs.contracts.broadcast.BroadcastRowPartialEq.TheImpl as eq_BroadcastRow
use Rattle.condvar.specs.declared.broadcast.BroadcastRow.{BroadcastRow}
use Rattle.condvar.specs.contracts.row.CondRowPartialEq.TheImpl as eq_CondRow
use Rattle.condvar.specs.declared.row.CondRow.{CondRow}
use Rattle.condvar.specs.declared.row.CondRow.TheVariants as cond_row
use Rattle.condvar.specs.contracts.phase.CondPhasePartialEq.TheImpl as eq_CondPhase
use Rattle.condvar.specs.declared.phase.CondPhase.{CondPhase}
use Rattle.condvar.specs.declared.phase.CondPhase.TheVariants as cond
use Rattle.condvar.specs.contracts.program.CondProgramPartialEq.TheImpl as eq_CondProgram
use Rattle.condvar.specs.Standings.{CondWhole}
use Rattle.exitwalk.specs.contracts.row.RestPartialEq.TheImpl as eq_Rest
use Rattle.exitwalk.specs.declared.row.Rest.{Rest}
use Rattle.exitwalk.specs.contracts.row.PartPartialEq.TheImpl as eq_Part
use Rattle.exitwalk.specs.declared.row.Part.{Part}
use Rattle.exitwalk.specs.declared.row.Part.TheVariants as part
use Rattle.exitwalk.specs.contracts.row.RowPartialEq.TheImpl as eq_WalkRow
use Rattle.exitwalk.specs.declared.row.Row as walk_row
use Rattle.exitwalk.specs.declared.row.Row.TheVariants as walk
use Rattle.exitwalk.specs.contracts.walk.WalkPartialEq.TheImpl as eq_Walk
use Rattle.exitwalk.specs.Standings.{Standing}
use Rattle.protocol.specs.contracts.thread.StagePartialEq.TheImpl as eq_Stage
use Rattle.protocol.specs.declared.thread.Stage.{Stage}
use Rattle.protocol.specs.declared.thread.Stage.TheVariants as stage
use Rattle.protocol.specs.contracts.thread.ThreadPartialEq.TheImpl as eq_Thread
use Rattle.protocol.specs.declared.thread.Thread.{Thread}
use Rattle.outcomes.specs.Comparisons.{IsBefore, IsComparable}
use Rattle.std.specs.Cmp.Lexicographic.{pointwise}
use Rattle.std.proofs.Common.{List, [], ◌∷◌}
use Rattle.interleave.specs.contracts.saved.SleeperPartialEq.TheImpl as eq_Sleeper
use Rattle.interleave.specs.declared.saved.Sleeper.{Sleeper}
use Rattle.posixmutex.specs.contracts.object.ObjectPartialEq.TheImpl as eq_Object
use Rattle.posixmutex.specs.declared.object.Object.{Object}
use Rattle.std.specs.Bool.{Decides}
use Rattle.std.specs.Prelude.{MatchBool}

same_Limit : (a b : Limit) → eq_Limit.eq-value.it a b ≡ true → a ≡ b
same_Limit a b h = grind (arith)

same_Call : (a b : Call) → eq_Call.eq-value.it a b ≡ true → a ≡ b
same_Call a b h = grind (arith)

same_CondCall : (a b : CondCall) → eq_CondCall.eq-value.it a b ≡ true → a ≡ b
same_CondCall a b h = grind (arith)

same_Op : (a b : Op) → eq_Op.eq-value.it a b ≡ true → a ≡ b
same_Op a b h = grind (arith)

same_UnlockRow : (a b : UnlockRow) → eq_UnlockRow.eq-value.it a b ≡ true → a ≡ b
same_UnlockRow a b h = grind (arith)

same_ConsistentRow : (a b : ConsistentRow) → eq_ConsistentRow.eq-value.it a b ≡ true → a ≡ b
same_ConsistentRow a b h = grind (arith)

same_LinkRow : (a b : LinkRow) → eq_LinkRow.eq-value.it a b ≡ true → a ≡ b
same_LinkRow a b h = grind (arith)

same_UnlinkRow : (a b : UnlinkRow) → eq_UnlinkRow.eq-value.it a b ≡ true → a ≡ b
same_UnlinkRow a b h = grind (arith)

both : (a b : Bool) → (a && b) ≡ true → (a ≡ true) × (b ≡ true)
both true b h = (refl, h)
both false b h = absurd cc

pub same_Reply : (a b : Reply) → eq_Reply.eq-value.it a b ≡ true → a ≡ b
same_Reply a b h = grind (arith)

same_Operation : (a b : Operation) → eq_Operation.eq-value.it a b ≡ true → a ≡ b
same_Operation a b h = grind (arith)

same_cell : (a b : Fields) → a.owner < 0x4000_0000 → b.owner < 0x4000_0000 → word_of a ≡ word_of b → a ≡ b
same_cell a b small few e = sym (fields_of-word_of a small) ∙ ap fields_of e ∙ fields_of-word_of b few

same_LockRow : (a b : LockRow) → Knows (row.Lock a) → Knows (row.Lock b) → eq_LockRow.eq-value.it a b ≡ true → a ≡ b
same_LockRow (lock.Take x) (lock.Take y) ka kb h = let none = ka.0 in let no = kb.0 in ap lock.Take (same_cell x y (omega arith) (omega arith) (eqb-true _ _ h))
same_LockRow (lock.SetWaiters x) (lock.SetWaiters y) ka kb h = ap lock.SetWaiters (same_cell x y ka.1 kb.1 (eqb-true _ _ h))
same_LockRow (lock.Sleep x) (lock.Sleep y) ka kb h = ap lock.Sleep (same_cell x y ka.0.1 kb.0.1 (eqb-true _ _ h))
same_LockRow a b ka kb h = grind (arith)

same_TryLockRow : (a b : TryLockRow) → Knows (row.TryLock a) → Knows (row.TryLock b) → eq_TryLockRow.eq-value.it a b ≡ true → a ≡ b
same_TryLockRow (try.Take x m) (try.Take y n) ka kb h =
    let e = both _ _ h in let none = ka.0 in let no = kb.0 in
    let cells = same_cell x y (omega arith) (omega arith) (eqb-true _ _ e.0) in
    let counts = eqb-true m n e.1 in
    λ i. try.Take (cells i) (counts i)
same_TryLockRow a b ka kb h = grind (arith)

same_Row : (a b : Row) → Knows a → Knows b → eq_Row.eq-value.it a b ≡ true → a ≡ b
same_Row (row.Lock x) (row.Lock y) ka kb h = ap row.Lock (same_LockRow x y ka kb h)
same_Row (row.TryLock x) (row.TryLock y) ka kb h = ap row.TryLock (same_TryLockRow x y ka kb h)
same_Row (row.Unlock x) (row.Unlock y) ka kb h = ap row.Unlock (same_UnlockRow x y h)
same_Row (row.Consistent x) (row.Consistent y) ka kb h = ap row.Consistent (same_ConsistentRow x y h)
same_Row (row.Ended x) (row.Ended y) ka kb h = ap row.Ended (same_Reply x y h)
same_Row a b ka kb h = absurd cc

same_Link : (a b : LinkStanding) → eq_Link.eq-value.it a b ≡ true → a ≡ b
same_Link a b h =
    let p = both _ _ h in
    let q = both _ _ p.1 in
    λ i. record { head = eqb-true a.head b.head p.0 i; entry = eqb-true a.entry b.entry q.0 i; row = same_LinkRow a.row b.row q.1 i }

same_Unlink : (a b : UnlinkStanding) → eq_Unlink.eq-value.it a b ≡ true → a ≡ b
same_Unlink a b h =
    let p = both _ _ h in
    let q = both _ _ p.1 in
    λ i. record { head = eqb-true a.head b.head p.0 i; entry = eqb-true a.entry b.entry q.0 i; row = same_UnlinkRow a.row b.row q.1 i }

same_Phase : (a b : Phase) → PhaseKnows a → PhaseKnows b → eq_Phase.eq-value.it a b ≡ true → a ≡ b
same_Phase (phase.Announcing x) (phase.Announcing y) ka kb h = ap phase.Announcing (same_Row x y ka.1 kb.1 h)
same_Phase (phase.AtCell x) (phase.AtCell y) ka kb h = ap phase.AtCell (same_Row x y ka.1 kb.1 h)
same_Phase (phase.Linking x r) (phase.Linking y q) ka kb h = let e = both _ _ h in let l = same_Link x y e.0 in let z = same_Reply r q e.1 in λ i. phase.Linking (l i) (z i)
same_Phase (phase.Unlinking x r) (phase.Unlinking y q) ka kb h = let e = both _ _ h in let l = same_Unlink x y e.0 in let z : r ≡ q = grind (arith) in λ i. phase.Unlinking (l i) (z i)
same_Phase (phase.Clearing x) (phase.Clearing y) ka kb h = ap phase.Clearing (same_Reply x y h)
same_Phase (phase.Ended x) (phase.Ended y) ka kb h = ap phase.Ended (same_Reply x y h)
same_Phase a b ka kb h = absurd cc

same_Program : (a b : Whole) → PhaseKnows a.phase → PhaseKnows b.phase → eq_Program.eq-value.it a b ≡ true → a ≡ b
same_Program a b ka kb h =
    let p = both _ _ h in
    let q = both _ _ p.1 in
    let r = both _ _ q.1 in
    let s = both _ _ r.1 in
    let t = both _ _ s.1 in
    λ i. record { thread = eqb-true a.thread b.thread p.0 i; operation = same_Operation a.operation b.operation q.0 i; head = eqb-true a.head b.head r.0 i; entry = eqb-true a.entry b.entry s.0 i; cell = eqb-true a.cell b.cell t.0 i; phase = same_Phase a.phase b.phase ka kb t.1 i }

same_WaitRow : (a b : WaitRow) → eq_WaitRow.eq-value.it a b ≡ true → a ≡ b
same_WaitRow a b h = grind (arith)

same_SignalRow : (a b : SignalRow) → eq_SignalRow.eq-value.it a b ≡ true → a ≡ b
same_SignalRow a b h = grind (arith)

same_BroadcastRow : (a b : BroadcastRow) → eq_BroadcastRow.eq-value.it a b ≡ true → a ≡ b
same_BroadcastRow a b h = grind (arith)

same_CondRow : (a b : CondRow) → eq_CondRow.eq-value.it a b ≡ true → a ≡ b
same_CondRow (cond_row.Wait x) (cond_row.Wait y) h = ap cond_row.Wait (same_WaitRow x y h)
same_CondRow (cond_row.Signal x) (cond_row.Signal y) h = ap cond_row.Signal (same_SignalRow x y h)
same_CondRow (cond_row.Broadcast x) (cond_row.Broadcast y) h = ap cond_row.Broadcast (same_BroadcastRow x y h)
same_CondRow cond_row.Awake cond_row.Awake h = refl
same_CondRow (cond_row.Ended x) (cond_row.Ended y) h = ap cond_row.Ended (same_Reply x y h)
same_CondRow a b h = absurd cc

same_CondPhase : (a b : CondPhase) → IsBefore a → eq_CondPhase.eq-value.it a b ≡ true → a ≡ b
same_CondPhase (cond.AtWords x) (cond.AtWords y) k h = ap cond.AtWords (same_CondRow x y h)
same_CondPhase (cond.Announcing x) (cond.Announcing y) k h = ap cond.Announcing (eqb-true x y h)
same_CondPhase (cond.Unlinking x m) (cond.Unlinking y n) k h = let e = both _ _ h in let l = same_Unlink x y e.0 in let z = eqb-true m n e.1 in λ i. cond.Unlinking (l i) (z i)
same_CondPhase (cond.Locking x) b k h = absurd k
same_CondPhase (cond.Ended x) (cond.Ended y) k h = ap cond.Ended (same_Reply x y h)
same_CondPhase a b k h = absurd cc

same_CondProgram : (a b : CondWhole) → IsBefore a.phase → eq_CondProgram.eq-value.it a b ≡ true → a ≡ b
same_CondProgram a b k h =
    let p = both _ _ h in
    let q = both _ _ p.1 in
    let r = both _ _ q.1 in
    let s = both _ _ r.1 in
    let t = both _ _ s.1 in
    λ i. record { thread = eqb-true a.thread b.thread p.0 i; head = eqb-true a.head b.head q.0 i; entry = eqb-true a.entry b.entry r.0 i; cell = eqb-true a.cell b.cell s.0 i; counter = eqb-true a.counter b.counter t.0 i; phase = same_CondPhase a.phase b.phase k t.1 i }

same_Rest : (a b : Rest) → eq_Rest.eq-value.it a b ≡ true → a ≡ b
same_Rest a b h = grind (arith, nat_tests)

same_Part : (a b : Part) → eq_Part.eq-value.it a b ≡ true → a ≡ b
same_Part (part.List x) (part.List y) h = ap part.List (same_Rest x y h)
same_Part part.Pending part.Pending h = refl
same_Part a b h = absurd cc

same_WalkRow : (a b : walk_row.Row) → eq_WalkRow.eq-value.it a b ≡ true → a ≡ b
same_WalkRow walk.LoadFirst walk.LoadFirst h = refl
same_WalkRow (walk.LoadOffset f) (walk.LoadOffset g) h = ap walk.LoadOffset (eqb-true f g h)
same_WalkRow (walk.LoadPending f o) (walk.LoadPending g p) h = let e = both _ _ h in let x = eqb-true f g e.0 in let y = eqb-true o p e.1 in λ i. walk.LoadPending (x i) (y i)
same_WalkRow (walk.LoadNext r) (walk.LoadNext s) h = ap walk.LoadNext (same_Rest r s h)
same_WalkRow (walk.LoadWord a p) (walk.LoadWord b q) h = let e = both _ _ h in let x = eqb-true a b e.0 in let y = same_Part p q e.1 in λ i. walk.LoadWord (x i) (y i)
same_WalkRow (walk.Mark a v g p) (walk.Mark b w k q) h =
    let e = both _ _ h in
    let f = both _ _ e.1 in
    let d = both _ _ f.1 in
    let x = eqb-true a b e.0 in let y = eqb-true v w f.0 in let z : g ≡ k = grind (arith) in let u = same_Part p q d.1 in λ i. walk.Mark (x i) (y i) (z i) (u i)
same_WalkRow (walk.WakeOne a p) (walk.WakeOne b q) h = let e = both _ _ h in let x = eqb-true a b e.0 in let y = same_Part p q e.1 in λ i. walk.WakeOne (x i) (y i)
same_WalkRow walk.Ended walk.Ended h = refl
same_WalkRow a b h = absurd cc

same_Walk : (a b : Standing) → eq_Walk.eq-value.it a b ≡ true → a ≡ b
same_Walk a b h =
    let p = both _ _ h in
    let q = both _ _ p.1 in
    λ i. record { thread = eqb-true a.thread b.thread p.0 i; head = eqb-true a.head b.head q.0 i; row = same_WalkRow a.row b.row q.1 i }

same_Stage : (a b : Stage) → IsComparable a → IsComparable b → eq_Stage.eq-value.it a b ≡ true → a ≡ b
same_Stage stage.Idle stage.Idle ka kb h = refl
same_Stage (stage.Calling o p) (stage.Calling n q) ka kb h = let e = both _ _ h in let x = same_Op o n e.0 in let y = same_Program p q ka kb e.1 in λ i. stage.Calling (x i) (y i)
same_Stage (stage.AtCondition o p) (stage.AtCondition n q) ka kb h = let e = both _ _ h in let x = same_CondCall o n e.0 in let y = same_CondProgram p q ka e.1 in λ i. stage.AtCondition (x i) (y i)
same_Stage (stage.Dying v) (stage.Dying w) ka kb h = ap stage.Dying (same_Walk v w h)
same_Stage stage.Reaped stage.Reaped ka kb h = refl
same_Stage a b ka kb h = absurd cc

pub same_Thread : (a b : Thread) → IsComparable a.stage → IsComparable b.stage → eq_Thread.eq-value.it a b ≡ true → a ≡ b
same_Thread a b ka kb h = let p = both _ _ h in λ i. record { stage = same_Stage a.stage b.stage ka kb p.0 i; held = eqb-true a.held b.held p.1 i }

-- ---- lists of them

same_Sleeper : (a b : Sleeper) → eq_Sleeper.eq-value.it a b ≡ true → a ≡ b
same_Sleeper a b h = let p = both _ _ h in λ i. record { place = eqb-true a.place b.place p.0 i; thread = eqb-true a.thread b.thread p.1 i }

pub same_Sleepers : (xs ys : List Sleeper) → pointwise eq_Sleeper.eq-value.it xs ys ≡ true → xs ≡ ys
same_Sleepers [] [] h = refl
same_Sleepers (a ∷ ys) (b ∷ zs) h =
    let e = both _ _ h in
    let x = same_Sleeper a b e.0 in
    let xs = same_Sleepers ys zs e.1 in
    λ i. x i ∷ xs i
same_Sleepers [] (b ∷ zs) h = absurd cc
same_Sleepers (a ∷ ys) [] h = absurd cc

-- ---- and the other way round

reply_itself : (a : Reply) → eq_Reply.eq-value.it a a ≡ true
reply_itself a = grind (arith)

pub reply_Decides : (a b : Reply) → Decides (eq_Reply.eq-value.it a b) (a ≡ b)
reply_Decides a b = (same_Reply a b, λ e. ap (eq_Reply.eq-value.it a) (sym e) ∙ reply_itself a)

same_Object : (a b : Object) → eq_Object.eq-value.it a b ≡ true → a ≡ b
same_Object a b h = grind (arith, nat_tests)

object_itself : (a : Object) → eq_Object.eq-value.it a a ≡ true
object_itself a = grind (arith, nat_tests)

pub object_Decides : (a b : Object) → Decides (eq_Object.eq-value.it a b) (a ≡ b)
object_Decides a b = (same_Object a b, λ e. ap (eq_Object.eq-value.it a) (sym e) ∙ object_itself a)

pub matched : {P : Type 0} (r : Bool) → Decides r P → MatchBool r P (P → ⊥)
matched true h = h.0 refl
matched false h = λ p. let e = h.1 p in cc
