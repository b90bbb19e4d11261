use Rattle.std.proofs.Common.{◌≡◌, ◌≢◌, ◌<◌, ◌≤◌, ◌+◌, ℕ, false, Some, take, slice_get, length, vec_len, vec_capacity}
use Rattle.condvar.specs.declared.op.Op.{Op}
use Rattle.ruledwords.specs.Passes.{card, layout_of, IsLive}
use Rattle.threadbench.specs.Answered.{Answered}
use Rattle.threadbench.proofs.calls.make_calls.Given as goal

-- the calls so far were answered, and the thread lives
abbrev pub invariant-loop-call : goal.invariant-loop-call
invariant-loop-call g l = record {
  live : IsLive l.bench l.pass;
  answered : Answered (layout_of l.bench) (card l.initial.pass) (take l.call-index l.calls) l.replies.items (card l.pass);
  counted : vec_len l.replies ≡ l.call-index;
  room : length l.calls ≤ vec_capacity l.replies;
  let_through : (i : ℕ) (call : Op) → i < vec_len l.replies → slice_get l.calls i ≡ Some call → g.G.Gate.says l.gate (card l.initial.pass).thread (i + 1) call ≢ Some false;
  fate : g.F.Fate.stopped l.fate ≡ g.F.Fate.stopped l.fn.fate;
}
