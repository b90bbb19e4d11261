-- Threads that were reaped, and the lists of those that live.
use Rattle.std.proofs.Common.{ap, subst, arith}
use Rattle.protocol.proofs.Vocabulary.{Layout', State, start, run, NoReapedOwns, NoReapedOwner}
use Rattle.protocol.specs.Lists.{ListsAreKept}
use Rattle.protocol.proofs.Kept.{Listed, Kept}
use Rattle.protocol.proofs.Lists.{has_list}
use Rattle.protocol.proofs.Runs.{start_kept, run_kept, run_layout}

pub no_reaped_owns : (s : State) → Kept s → NoReapedOwns s
no_reaped_owns s inv m t is own = let range = inv.owners m t own in subst (Listed s t) is (inv.listed t range.0 range.1) m own

-- so it is of every state that events lead to
pub nobody_reaped_owns : NoReapedOwner
nobody_reaped_owns l counters events is = no_reaped_owns (run (start l counters) events) (run_kept (start l counters) events (start_kept l counters is))

pub kept_lists : ListsAreKept
kept_lists l counters events is t first most alive =
    let inv = start_kept l counters is in
    has_list (run (start l counters) events) t (run_kept (start l counters) events inv) first (let same = ap (λ (z : Layout'). z.threads) (run_layout (start l counters) events inv) in omega arith) alive
