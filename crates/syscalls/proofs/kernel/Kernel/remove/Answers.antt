use Rattle.std.proofs.Common.{◌<◌, ℕ, List, length, set, sym, subst, arith}
use Rattle.buckets.specs.Queues.{Sleepers, Stands, StandsNowhere}
use Rattle.syscalls.specs.Kernels.{bucket_at, StandWhereTold}
use Rattle.syscalls.proofs.Calls.{Taken, sound_removal, removal}
use Rattle.std.proofs.lemmas.List.{length-set}
use Rattle.syscalls.proofs.Told.{remembers_left}
use Rattle.syscalls.proofs.Changes.{leaves_nobody}
use Rattle.syscalls.proofs.kernel.Kernel.remove.Goals as goal

pub bucket_with-requires-clause-remembers : goal.bucket_with-requires-clause-remembers
bucket_with-requires-clause-remembers c =
    subst (λ (bs : List Sleepers). StandWhereTold c.deref-2.result.now bs) (sym c.deref.ensures.value)
    (subst (λ (told : List ℕ). StandWhereTold told c.self.inside.buckets.items) (sym c.deref-2.ensures.value) c.self.invariant.1.stand)

pub invariant_of-self : goal.invariant_of-self
invariant_of-self c =
    let taken : Taken c.self.inside.buckets.items c.in-Some.number c.index_mut.result.now = record { below = omega (arith, c.in-Some.ensures.0); is = c.index_mut.ensures.value } in
    let stands = subst (λ (bs : List Sleepers). Stands (bucket_at bs c.in-Some.number) c.args.thread) c.deref.ensures.value c.in-Some.ensures.1 in
    let after = sound_removal c.self.inside.threads c.self.inside.heads.items c.self.inside.buckets.items c.in-Some.number c.index_mut.result.now c.remove.new.self c.args.thread c.remove.result c.self.invariant.0 taken c.remove.ensures.orderly c.remove.ensures.changes in (
      after,
      remembers_left c.self.inside.threads c.self.inside.heads.items c.self.inside.buckets.items (set c.self.inside.buckets.items c.in-Some.number c.remove.new.self) c.self.inside.stood_in.items c.args.thread c.remove.result c.self.invariant.0 after
          (length-set c.self.inside.buckets.items c.in-Some.number c.remove.new.self)
          (removal c.self.inside.threads c.self.inside.heads.items c.self.inside.buckets.items c.in-Some.number c.index_mut.result.now c.remove.new.self c.args.thread c.remove.result c.self.invariant.0 taken stands c.remove.ensures.changes) c.self.invariant.1,
    )

pub returns-in-Some-clause-changes : goal.returns-in-Some-clause-changes
returns-in-Some-clause-changes c =
    let taken : Taken c.self.inside.buckets.items c.in-Some.number c.index_mut.result.now = record { below = omega (arith, c.in-Some.ensures.0); is = c.index_mut.ensures.value } in
    let stands = subst (λ (bs : List Sleepers). Stands (bucket_at bs c.in-Some.number) c.args.thread) c.deref.ensures.value c.in-Some.ensures.1 in
    rw (← c.self.view_is)
    (removal c.self.inside.threads c.self.inside.heads.items c.self.inside.buckets.items c.in-Some.number c.index_mut.result.now c.remove.new.self c.args.thread c.remove.result c.self.invariant.0 taken stands c.remove.ensures.changes)

pub returns-in-Some-clause-sound : goal.returns-in-Some-clause-sound
returns-in-Some-clause-sound c =
    let taken : Taken c.self.inside.buckets.items c.in-Some.number c.index_mut.result.now = record { below = omega (arith, c.in-Some.ensures.0); is = c.index_mut.ensures.value } in
    (sound_removal c.self.inside.threads c.self.inside.heads.items c.self.inside.buckets.items c.in-Some.number c.index_mut.result.now c.remove.new.self c.args.thread c.remove.result c.self.invariant.0 taken c.remove.ensures.orderly c.remove.ensures.changes).0

pub returns-in-None-clause-changes : goal.returns-in-None-clause-changes
returns-in-None-clause-changes c =
    let nowhere = subst (λ (bs : List Sleepers). (i : ℕ) → i < length bs → StandsNowhere (bucket_at bs i) c.args.thread) c.deref.ensures.value c.in-None.ensures in
    rw (← c.self.view_is) (leaves_nobody c.self.inside.threads c.self.inside.heads.items c.self.inside.buckets.items c.args.thread c.self.invariant.0 nowhere)
