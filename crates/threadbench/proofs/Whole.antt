-- Whole queues: of at most `most_threads`, as all are.
use Rattle.std.proofs.Common.{◌≡◌, ℕ, ◌≤◌, ◌==◌, Bool, true, false, Option, None, Some, List, ◌++◌, length, sym, ap, ◌∙◌, subst, arith}
use Rattle.std.specs.Prelude.{take, drop, if◌then◌else◌}
use Rattle.std.proofs.lemmas.Bool.Decides.{nat_tests}
use Rattle.std.proofs.lemmas.List.{take_all, drop_all}
use Rattle.stepprograms.specs.declared.access.Access.{Access}
use Rattle.stepprograms.specs.declared.access.Access.TheVariants as access
use Rattle.robustlist.specs.declared.unlink.UnlinkRow.{UnlinkRow}
use Rattle.robustlist.specs.declared.unlink.UnlinkRow.TheVariants as unlink
use Rattle.robustlist.specs.Unlink.{unlink_access}
use Rattle.buckets.specs.Queues.{Sleepers, queue, IsOrderly, MovesTo, MovesWithin, Takes}
use Rattle.condvar.specs.declared.broadcast.BroadcastRow.TheVariants as broadcast
use Rattle.condvar.specs.declared.phase.CondPhase.{CondPhase}
use Rattle.condvar.specs.declared.phase.CondPhase.TheVariants as condition
use Rattle.condvar.specs.declared.row.CondRow.{CondRow}
use Rattle.condvar.specs.declared.row.CondRow.TheVariants as cond
use Rattle.condvar.specs.declared.signal.SignalRow.TheVariants as signal
use Rattle.condvar.specs.declared.wait.WaitRow.TheVariants as wait
use Rattle.condvar.specs.Programs.{row_access}
use Rattle.condvar.specs.Standings.{CondWhole}
use Rattle.condvar.specs.Whole.{phase_access}
use Rattle.ruledwords.specs.declared.turn.CondRunning.{CondRunning}
use Rattle.ruledwords.specs.ConditionCalls.{cond_access_in}
use Rattle.ruledwords.specs.Conditions.{IsAtCondition}
use Rattle.threadbench.specs.Conditions.{IsMoveOf, MovesAll}
use Rattle.threadbench.specs.Sections.{WakesFirsts}
use Rattle.lockword.specs.Threads.{most_threads}

few : (b : Sleepers) → IsOrderly b → (k : ℕ) → length (queue b k) ≤ most_threads
few b is k = let long = is.long k in let room = is.room in let last = is.last in omega (arith, long, room, last)

-- ---- a queue out of which the first were taken

own : (k : ℕ) (x y z : List ℕ) → z ≡ (if k == k then x else y) → z ≡ x
own k x y z is = go (k == k) (grind (arith, nat_tests)) is
  where
    go : (b : Bool) → b ≡ true → z ≡ (if b then x else y) → z ≡ x
    go true t is = is
    go false t is = absurd (cc t)

pub wakes_firsts : (old new : Sleepers) (k n : ℕ) (taken : List ℕ) → IsOrderly old → Takes old new k n taken → WakesFirsts (queue old k) (queue new k) n taken
wakes_firsts old new k n taken is takes =
    let left = own k (drop n (queue old k)) (queue old k) (queue new k) (takes.queues k) in record {
      all = λ e.
          let low : length (queue old k) ≤ n = subst (λ (m : ℕ). length (queue old k) ≤ m) (sym e) (few old is k) in
          (takes.firsts ∙ take_all n (queue old k) low, left ∙ drop_all n (queue old k) low);
      one = λ t behind e old_is. (
        takes.firsts ∙ ap (λ (m : ℕ). take m (queue old k)) e ∙ ap (λ (q : List ℕ). take 1 q) old_is,
        left ∙ ap (λ (m : ℕ). drop m (queue old k)) e ∙ ap (λ (q : List ℕ). drop 1 q) old_is,
      );
    }

-- ---- a broadcast's move

-- how many an access moves at most
abbrev pub moves_of : Access → Option ℕ
moves_of (access.CmpRequeue from e n to m) = Some m
moves_of a = None

row_moves : (t cell counter m : ℕ) (r : CondRow) → moves_of (row_access t cell counter r) ≡ Some m → m ≡ most_threads
row_moves t cell counter m (cond.Broadcast (broadcast.Move seen)) is = sym (cc is)
row_moves t cell counter m (cond.Wait (wait.Sleep seen)) is = absurd (cc is)
row_moves t cell counter m (cond.Wait wait.LoadCell) is = absurd (cc is)
row_moves t cell counter m (cond.Wait wait.LoadCounter) is = absurd (cc is)
row_moves t cell counter m (cond.Wait (wait.Release seen)) is = absurd (cc is)
row_moves t cell counter m (cond.Wait (wait.Wake seen)) is = absurd (cc is)
row_moves t cell counter m (cond.Signal signal.LoadCell) is = absurd (cc is)
row_moves t cell counter m (cond.Signal signal.LoadCounter) is = absurd (cc is)
row_moves t cell counter m (cond.Signal signal.Count) is = absurd (cc is)
row_moves t cell counter m (cond.Signal signal.Wake) is = absurd (cc is)
row_moves t cell counter m (cond.Broadcast broadcast.LoadCell) is = absurd (cc is)
row_moves t cell counter m (cond.Broadcast broadcast.LoadCounter) is = absurd (cc is)
row_moves t cell counter m (cond.Broadcast (broadcast.Count seen)) is = absurd (cc is)
row_moves t cell counter m (cond.Broadcast (broadcast.SetWaiters seen)) is = absurd (cc is)
row_moves t cell counter m cond.Awake is = absurd (cc is)
row_moves t cell counter m (cond.Ended x) is = absurd (cc is)

unlink_moves : (h e m : ℕ) (r : UnlinkRow) → moves_of (unlink_access h e r) ≡ Some m → m ≡ most_threads
unlink_moves h e m unlink.LoadNext is = absurd (cc is)
unlink_moves h e m (unlink.LoadPrevious n) is = absurd (cc is)
unlink_moves h e m (unlink.StoreNext n p) is = absurd (cc is)
unlink_moves h e m (unlink.StorePrevious n p) is = absurd (cc is)
unlink_moves h e m (unlink.Ended x) is = absurd (cc is)

phase_moves : (p : CondWhole) (f : CondPhase) (m : ℕ) → IsAtCondition f → moves_of (phase_access p f) ≡ Some m → m ≡ most_threads
phase_moves p (condition.AtWords r) m there is = row_moves p.thread p.cell p.counter m r is
phase_moves p (condition.Announcing seen) m there is = absurd (cc is)
phase_moves p (condition.Unlinking u seen) m there is = unlink_moves u.head u.entry m u.row is
phase_moves p (condition.Locking w) m there is = absurd there
phase_moves p (condition.Ended x) m there is = absurd there

-- it moves as many as there are threads at most
pub moves_all : (r : CondRunning) (e m : ℕ) → IsMoveOf (cond_access_in r) e m → m ≡ most_threads
moves_all r e m is = phase_moves r.program r.program.phase m r.there (ap moves_of is.2)

pub moved_inside : (old new : Sleepers) (k j m : ℕ) (moved : List ℕ) → IsOrderly old → m ≡ most_threads → MovesWithin old new k m j moved → MovesAll old new old new k j (Some moved)
moved_inside old new k j m moved is many moves =
    let low : length (queue old k) ≤ m = subst (λ (n : ℕ). length (queue old k) ≤ n) (sym many) (few old is k) in (
      moves.left ∙ drop_all m (queue old k) low,
      moves.joined ∙ ap (λ (q : List ℕ). queue old j ++ q) (moves.firsts ∙ take_all m (queue old k) low),
    )

pub moved_across : (old new other other' : Sleepers) (k j m : ℕ) (moved : List ℕ) → IsOrderly old → m ≡ most_threads → MovesTo old new other other' k m j moved → MovesAll old new other other' k j (Some moved)
moved_across old new other other' k j m moved is many moves =
    let low : length (queue old k) ≤ m = subst (λ (n : ℕ). length (queue old k) ≤ n) (sym many) (few old is k) in (
      own k (drop m (queue old k)) (queue old k) (queue new k) (moves.leave.queues k) ∙ drop_all m (queue old k) low,
      own j (queue other j ++ moved) (queue other j) (queue other' j) (moves.join.queues j) ∙ ap (λ (q : List ℕ). queue other j ++ q) (moves.leave.firsts ∙ take_all m (queue old k) low),
    )
