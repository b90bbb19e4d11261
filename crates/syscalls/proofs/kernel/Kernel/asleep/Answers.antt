use Rattle.std.proofs.Common.{◌<◌, ℕ, Bool, List, length, sym, subst}
use Rattle.std.specs.Prelude.{MatchOption, MatchBool, is_some}
use Rattle.buckets.specs.Queues.{Sleepers, Stands, StandsNowhere}
use Rattle.syscalls.specs.Kernels.{Kernel', bucket_at, StandWhereTold, IsAsleep, IsAwake}
use Rattle.syscalls.proofs.Changes.{sought}
use Rattle.syscalls.proofs.kernel.Kernel.asleep.Goals as goal

pub bucket_with-requires-clause-remembers : goal.bucket_with-requires-clause-remembers
bucket_with-requires-clause-remembers c =
    subst (λ (bs : List Sleepers). StandWhereTold c.deref-2.result.now bs) (sym c.deref.ensures.value)
    (subst (λ (told : List ℕ). StandWhereTold told c.self.inside.buckets.items) (sym c.deref-2.ensures.value) c.self.invariant.1.stand)

pub returns-clause-value : goal.returns-clause-value
returns-clause-value c =
    let found = subst (λ (bs : List Sleepers). MatchOption c.bucket_with.result ((i : ℕ) → i < length bs → StandsNowhere (bucket_at bs i) c.args.thread) (λ i. (i < length bs) × Stands (bucket_at bs i) c.args.thread))
    c.deref.ensures.value c.bucket_with.ensures in
    subst (λ (b : Bool). MatchBool b (IsAsleep c.args.self.now c.args.thread) (IsAwake c.args.self.now c.args.thread)) (sym c.is_some.ensures)
    (subst (λ (k : Kernel'). MatchBool (is_some c.bucket_with.result) (IsAsleep k c.args.thread) (IsAwake k c.args.thread)) c.self.view_is
    (sought c.self.inside.threads c.self.inside.heads.items c.self.inside.buckets.items c.args.thread c.bucket_with.result c.self.invariant.0 found))
