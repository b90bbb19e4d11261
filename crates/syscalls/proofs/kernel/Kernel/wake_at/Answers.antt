use Rattle.std.proofs.Common.{◌≡◌, ◌%◌, ℕ, length, set, ap, ◌∙◌, subst, arith}
use Rattle.buckets.specs.Queues.{Takes}
use Rattle.std.proofs.lemmas.List.{length-set}
use Rattle.syscalls.proofs.Told.{remembers_woken}
use Rattle.syscalls.proofs.Calls.{Taken, sound_wake, wakes_in}
use Rattle.syscalls.proofs.kernel.Kernel.wake_at.Goals as goal

pub invariant_of-self : goal.invariant_of-self
invariant_of-self g c =
    let taken : Taken c.self.inside.buckets.items c.bucket_of-number.result c.index_mut.result.now = record { below = omega arith; is = c.index_mut.ensures.value } in
    let at : c.bucket_of-number.result ≡ c.args.at % length c.self.inside.buckets.items =
    c.bucket_of-number.ensures.value ∙ ap (λ (k : ℕ). k % c.len.result) c.key_of-key.ensures ∙ ap (λ (m : ℕ). c.args.at % m) (c.len.ensures ∙ c.self.inside.buckets.ok.0) in
    let takes = subst (λ (k : ℕ). Takes c.index_mut.result.now c.take.new.self k c.args.n c.take.result) c.key_of-key.ensures c.take.ensures.changes in
    let after = sound_wake c.self.inside.threads c.self.inside.heads.items c.self.inside.buckets.items c.bucket_of-number.result c.index_mut.result.now c.take.new.self c.args.at c.args.n c.take.result c.self.invariant.0 taken at c.take.ensures.orderly takes in (
      after,
      remembers_woken c.self.inside.threads c.self.inside.heads.items c.self.inside.buckets.items (set c.self.inside.buckets.items c.bucket_of-number.result c.take.new.self) c.self.inside.stood_in.items c.args.at c.args.n c.take.result c.self.invariant.0 after
          (length-set c.self.inside.buckets.items c.bucket_of-number.result c.take.new.self)
          (wakes_in c.self.inside.threads c.self.inside.heads.items c.self.inside.buckets.items c.bucket_of-number.result c.index_mut.result.now c.take.new.self c.args.at c.args.n c.take.result c.self.invariant.0 taken at takes) c.self.invariant.1,
    )

pub returns-clause-changes : goal.returns-clause-changes
returns-clause-changes g c =
    let taken : Taken c.self.inside.buckets.items c.bucket_of-number.result c.index_mut.result.now = record { below = omega arith; is = c.index_mut.ensures.value } in
    let at : c.bucket_of-number.result ≡ c.args.at % length c.self.inside.buckets.items =
    c.bucket_of-number.ensures.value ∙ ap (λ (k : ℕ). k % c.len.result) c.key_of-key.ensures ∙ ap (λ (m : ℕ). c.args.at % m) (c.len.ensures ∙ c.self.inside.buckets.ok.0) in
    let takes = subst (λ (k : ℕ). Takes c.index_mut.result.now c.take.new.self k c.args.n c.take.result) c.key_of-key.ensures c.take.ensures.changes in
    rw (← c.self.view_is)
    (wakes_in c.self.inside.threads c.self.inside.heads.items c.self.inside.buckets.items c.bucket_of-number.result c.index_mut.result.now c.take.new.self c.args.at c.args.n c.take.result c.self.invariant.0 taken at takes)

pub returns-clause-sound : goal.returns-clause-sound
returns-clause-sound g c =
    let taken : Taken c.self.inside.buckets.items c.bucket_of-number.result c.index_mut.result.now = record { below = omega arith; is = c.index_mut.ensures.value } in
    let at : c.bucket_of-number.result ≡ c.args.at % length c.self.inside.buckets.items =
    c.bucket_of-number.ensures.value ∙ ap (λ (k : ℕ). k % c.len.result) c.key_of-key.ensures ∙ ap (λ (m : ℕ). c.args.at % m) (c.len.ensures ∙ c.self.inside.buckets.ok.0) in
    let takes = subst (λ (k : ℕ). Takes c.index_mut.result.now c.take.new.self k c.args.n c.take.result) c.key_of-key.ensures c.take.ensures.changes in
    (sound_wake c.self.inside.threads c.self.inside.heads.items c.self.inside.buckets.items c.bucket_of-number.result c.index_mut.result.now c.take.new.self c.args.at c.args.n c.take.result c.self.invariant.0 taken at c.take.ensures.orderly takes).0
