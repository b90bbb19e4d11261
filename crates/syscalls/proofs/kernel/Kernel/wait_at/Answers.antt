use Rattle.std.proofs.Common.{◌≡◌, ◌%◌, ℕ, length, set, sym, ap, ◌∙◌, subst, arith}
use Rattle.buckets.specs.Queues.{Enqueues}
use Rattle.syscalls.specs.Kernels.{Kernel', IsAwake}
use Rattle.std.proofs.lemmas.List.{length-set}
use Rattle.syscalls.proofs.Told.{remembers_asleep}
use Rattle.syscalls.proofs.Calls.{Taken, room_in, nowhere_in, sound_wait, waits}
use Rattle.syscalls.proofs.kernel.Kernel.wait_at.Goals as goal

pub wait_section-requires-clause-room : goal.wait_section-requires-clause-room
wait_section-requires-clause-room g c =
    let taken : Taken c.self.inside.buckets.items c.bucket_of-number.result c.index_mut.result.now = record { below = omega arith; is = c.index_mut.ensures.value } in
    let awake = subst (λ (k : Kernel'). IsAwake k c.args.thread) (sym c.self.view_is) c.requires.awake in
    let high = ap (λ (k : Kernel'). k.threads) c.self.view_is in
    room_in c.self.inside.threads c.self.inside.heads.items c.self.inside.buckets.items c.bucket_of-number.result c.index_mut.result.now c.args.thread c.self.invariant.0 taken (omega arith) (omega arith) awake

pub wait_section-requires-clause-awake : goal.wait_section-requires-clause-awake
wait_section-requires-clause-awake g c =
    let taken : Taken c.self.inside.buckets.items c.bucket_of-number.result c.index_mut.result.now = record { below = omega arith; is = c.index_mut.ensures.value } in
    let awake = subst (λ (k : Kernel'). IsAwake k c.args.thread) (sym c.self.view_is) c.requires.awake in
    nowhere_in c.self.inside.threads c.self.inside.heads.items c.self.inside.buckets.items c.bucket_of-number.result c.index_mut.result.now c.args.thread c.self.invariant.0 taken awake

pub invariant_of-self-2 : goal.invariant_of-self-2
invariant_of-self-2 g c =
    let taken : Taken c.self.inside.buckets.items c.bucket_of-number.result c.index_mut.result.now = record { below = omega arith; is = c.index_mut.ensures.value } in
    let awake = subst (λ (k : Kernel'). IsAwake k c.args.thread) (sym c.self.view_is) c.requires.awake in
    let high = ap (λ (k : Kernel'). k.threads) c.self.view_is in
    let at : c.bucket_of-number.result ≡ c.args.at % length c.self.inside.buckets.items =
    c.bucket_of-number.ensures.value ∙ ap (λ (k : ℕ). k % c.len.result) c.key_of-key.ensures ∙ ap (λ (m : ℕ). c.args.at % m) (c.len.ensures ∙ c.self.inside.buckets.ok.0) in
    let enqueues = subst (λ (k : ℕ). Enqueues c.index_mut.result.now c.wait_section.new.self c.args.thread k) c.key_of-key.ensures c.if-not-wait_section.ensures.changes in
    let after = sound_wait c.self.inside.threads c.self.inside.heads.items c.self.inside.buckets.items c.bucket_of-number.result c.index_mut.result.now c.wait_section.new.self c.args.thread c.args.at c.self.invariant.0 taken at (omega arith) (omega arith) awake
    c.if-not-wait_section.ensures.orderly enqueues in (
      after,
      remembers_asleep c.self.inside.threads c.self.inside.heads.items c.self.inside.buckets.items (set c.self.inside.buckets.items c.bucket_of-number.result c.wait_section.new.self) c.self.inside.stood_in.items c.args.thread c.args.at c.as_index.result
          c.bucket_of-number.result c.self.invariant.0 after (length-set c.self.inside.buckets.items c.bucket_of-number.result c.wait_section.new.self) (omega arith) (omega arith) (omega arith) at awake
          (waits c.self.inside.threads c.self.inside.heads.items c.self.inside.buckets.items c.bucket_of-number.result c.index_mut.result.now c.wait_section.new.self c.args.thread c.args.at c.self.invariant.0 taken at enqueues) c.self.invariant.1,
    )

pub returns-clause-changes : goal.returns-clause-changes
returns-clause-changes g c =
    let taken : Taken c.self.inside.buckets.items c.bucket_of-number.result c.index_mut.result.now = record { below = omega arith; is = c.index_mut.ensures.value } in
    let at : c.bucket_of-number.result ≡ c.args.at % length c.self.inside.buckets.items =
    c.bucket_of-number.ensures.value ∙ ap (λ (k : ℕ). k % c.len.result) c.key_of-key.ensures ∙ ap (λ (m : ℕ). c.args.at % m) (c.len.ensures ∙ c.self.inside.buckets.ok.0) in
    let enqueues = subst (λ (k : ℕ). Enqueues c.index_mut.result.now c.wait_section.new.self c.args.thread k) c.key_of-key.ensures c.if-not-wait_section.ensures.changes in
    rw (← c.self.view_is)
    (waits c.self.inside.threads c.self.inside.heads.items c.self.inside.buckets.items c.bucket_of-number.result c.index_mut.result.now c.wait_section.new.self c.args.thread c.args.at c.self.invariant.0 taken at enqueues)

pub returns-clause-sound : goal.returns-clause-sound
returns-clause-sound g c =
    let taken : Taken c.self.inside.buckets.items c.bucket_of-number.result c.index_mut.result.now = record { below = omega arith; is = c.index_mut.ensures.value } in
    let awake = subst (λ (k : Kernel'). IsAwake k c.args.thread) (sym c.self.view_is) c.requires.awake in
    let high = ap (λ (k : Kernel'). k.threads) c.self.view_is in
    let at : c.bucket_of-number.result ≡ c.args.at % length c.self.inside.buckets.items =
    c.bucket_of-number.ensures.value ∙ ap (λ (k : ℕ). k % c.len.result) c.key_of-key.ensures ∙ ap (λ (m : ℕ). c.args.at % m) (c.len.ensures ∙ c.self.inside.buckets.ok.0) in
    let enqueues = subst (λ (k : ℕ). Enqueues c.index_mut.result.now c.wait_section.new.self c.args.thread k) c.key_of-key.ensures c.if-not-wait_section.ensures.changes in
    (sound_wait c.self.inside.threads c.self.inside.heads.items c.self.inside.buckets.items c.bucket_of-number.result c.index_mut.result.now c.wait_section.new.self c.args.thread c.args.at c.self.invariant.0 taken at (omega arith) (omega arith) awake
    c.if-not-wait_section.ensures.orderly enqueues).0
