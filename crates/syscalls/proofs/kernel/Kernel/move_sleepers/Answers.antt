use Rattle.std.proofs.Common.{◌≡◌, ◌≢◌, ◌≤◌, ◌-◌, ◌%◌, ℕ, List, length, set, Some, sym, ap, ◌∙◌, subst, arith}
use Rattle.std.specs.Prelude.{slice_get, All}
use Rattle.std.proofs.lemmas.List.{length-set}
use Rattle.buckets.specs.Queues.{Sleepers}
use Rattle.syscalls.specs.Kernels.{Kernel', Moves, Remembers}
use Rattle.syscalls.proofs.Buckets.{kernel}
use Rattle.syscalls.proofs.Changes.{Sound}
use Rattle.syscalls.proofs.Calls.{Taken}
use Rattle.syscalls.proofs.Moves.{sound_one, one_moves, moves_two, sound_two, refill, refilled, fits_there}
use Rattle.syscalls.proofs.Told.{refilled_told, moved_known, moved_within, remembers_moved}
use Rattle.syscalls.proofs.kernel.Kernel.move_sleepers.Goals as goal

pub invariant_of-self : goal.invariant_of-self
invariant_of-self c =
    let taken : Taken c.self.inside.buckets.items c.bucket_of-number.result c.index_mut.result.now = record { below = omega arith; is = c.index_mut.ensures.value } in
    let at : c.bucket_of-number.result ≡ c.key_of-key.result.0 % length c.self.inside.buckets.items = c.bucket_of-number.ensures.value ∙ ap (λ (m : ℕ). c.key_of-key.result.0 % m) (c.len.ensures ∙ c.self.inside.buckets.ok.0) in
    let at_to : c.bucket_of-number.result ≡ c.key_of-other.result.0 % length c.self.inside.buckets.items =
    c.if-number-into.true ∙ c.bucket_of-into.ensures.value ∙ ap (λ (m : ℕ). c.key_of-other.result.0 % m) (c.len-2.ensures ∙ c.self.inside.buckets.ok.0) in
    let ne : c.key_of-key.result.0 ≢ c.key_of-other.result.0 = (λ same. c.requires.apart (sym c.key_of-key.ensures ∙ same ∙ c.key_of-other.ensures)) in
    let cs = set c.self.inside.buckets.items c.bucket_of-number.result c.move_within.new.self in
    let after = sound_one c.self.inside.threads c.self.inside.heads.items c.self.inside.buckets.items c.bucket_of-number.result c.index_mut.result.now c.move_within.new.self c.key_of-key.result.0 c.args.n c.key_of-other.result.0 c.move_within.result
    c.self.invariant.0 taken at at_to ne c.move_within.ensures.orderly c.move_within.ensures.changes in (
      after,
      moved_within c.self.inside.threads c.self.inside.heads.items c.self.inside.buckets.items cs c.self.inside.stood_in.items c.key_of-key.result.0 c.args.n c.key_of-other.result.0 c.move_within.result c.self.invariant.0 after
          (length-set c.self.inside.buckets.items c.bucket_of-number.result c.move_within.new.self) ne (sym at ∙ at_to)
          (one_moves c.self.inside.threads c.self.inside.heads.items c.self.inside.buckets.items c.bucket_of-number.result c.index_mut.result.now c.move_within.new.self c.key_of-key.result.0 c.args.n c.key_of-other.result.0 c.move_within.result
          taken at at_to c.move_within.ensures.changes) c.self.invariant.1,
    )

pub move_between-moved-requires-clause-fits : goal.move_between-moved-requires-clause-fits
move_between-moved-requires-clause-fits c =
    let before : c.deref_mut.result.now ≡ c.self.inside.buckets.items = c.deref_mut.ensures.value in
    let sound : Sound c.self.inside.threads c.self.inside.heads.items c.deref_mut.result.now = subst (λ (bs : List Sleepers). Sound c.self.inside.threads c.self.inside.heads.items bs) (sym before) c.self.invariant.0 in
    let at : c.bucket_of-number.result ≡ c.key_of-key.result.0 % length c.deref_mut.result.now =
    c.bucket_of-number.ensures.value ∙ ap (λ (m : ℕ). c.key_of-key.result.0 % m) (c.len.ensures ∙ c.self.inside.buckets.ok.0 ∙ ap length (sym before)) in
    let at_to : c.bucket_of-into.result ≡ c.key_of-other.result.0 % length c.deref_mut.result.now =
    c.bucket_of-into.ensures.value ∙ ap (λ (m : ℕ). c.key_of-other.result.0 % m) (c.len-2.ensures ∙ c.self.inside.buckets.ok.0 ∙ ap length (sym before)) in
    fits_there c.self.inside.threads c.self.inside.heads.items c.deref_mut.result.now c.bucket_of-number.result c.bucket_of-into.result c.key_of-key.result.0 c.args.n sound at (omega (arith, c.bucket_of-into.ensures.inside, c.len-2.ensures ∙ c.self.inside.buckets.ok.0 ∙ ap length (sym before))) c.if-number-into.false

pub invariant_of-self-else-number-into : goal.invariant_of-self-else-number-into
invariant_of-self-else-number-into c =
    let before : c.deref_mut.result.now ≡ c.self.inside.buckets.items = c.deref_mut.ensures.value in
    let sound : Sound c.self.inside.threads c.self.inside.heads.items c.deref_mut.result.now = subst (λ (bs : List Sleepers). Sound c.self.inside.threads c.self.inside.heads.items bs) (sym before) c.self.invariant.0 in
    let at : c.bucket_of-number.result ≡ c.key_of-key.result.0 % length c.deref_mut.result.now =
    c.bucket_of-number.ensures.value ∙ ap (λ (m : ℕ). c.key_of-key.result.0 % m) (c.len.ensures ∙ c.self.inside.buckets.ok.0 ∙ ap length (sym before)) in
    let at_to : c.bucket_of-into.result ≡ c.key_of-other.result.0 % length c.deref_mut.result.now =
    c.bucket_of-into.ensures.value ∙ ap (λ (m : ℕ). c.key_of-other.result.0 % m) (c.len-2.ensures ∙ c.self.inside.buckets.ok.0 ∙ ap length (sym before)) in
    let ne : c.key_of-key.result.0 ≢ c.key_of-other.result.0 = (λ same. c.requires.apart (sym c.key_of-key.ensures ∙ same ∙ c.key_of-other.ensures)) in
    let all = refilled c.self.inside.buckets.len c.self.inside.buckets.items c.move_between-moved.new.buckets (c.move_between-moved.ensures.long ∙ ap length before ∙ sym c.self.inside.buckets.ok.0) in
    let after = sound_two c.self.inside.threads c.self.inside.heads.items c.deref_mut.result.now c.move_between-moved.new.buckets c.bucket_of-number.result c.bucket_of-into.result c.key_of-key.result.0 c.args.n c.key_of-other.result.0 c.move_between-moved.result
    sound ne c.move_between-moved.ensures.long c.move_between-moved.ensures.others at at_to c.move_between-moved.ensures.left c.move_between-moved.ensures.joined c.move_between-moved.ensures.changes in
    let told : c.deref_mut-else-number-into.result.now ≡ c.self.inside.stood_in.items = c.deref_mut-else-number-into.ensures.value in
    let as_long : length c.remember.new.stood_in ≡ length c.self.inside.stood_in.items = c.remember.ensures.long ∙ ap length told in
    let anew = refilled_told c.self.inside.stood_in.len c.self.inside.stood_in.items c.remember.new.stood_in (as_long ∙ sym c.self.inside.stood_in.ok.0) in
    let remembers = remembers_moved c.self.inside.threads c.self.inside.heads.items c.deref_mut.result.now c.move_between-moved.new.buckets c.self.inside.stood_in.items c.remember.new.stood_in c.key_of-key.result.0 c.args.n c.key_of-other.result.0 c.move_between-moved.result
    sound after c.move_between-moved.ensures.long ne
    (moves_two c.self.inside.threads c.self.inside.heads.items c.deref_mut.result.now c.move_between-moved.new.buckets c.bucket_of-number.result c.bucket_of-into.result c.key_of-key.result.0 c.args.n c.key_of-other.result.0 c.move_between-moved.result
    c.move_between-moved.ensures.long c.move_between-moved.ensures.others at at_to c.move_between-moved.ensures.changes)
    (λ t moves. c.remember.ensures.came t moves ∙ ap Some at_to) (λ t low stays. c.remember.ensures.others t low stays ∙ ap (λ (xs : List ℕ). slice_get xs (t - 1)) told) as_long
    (subst (λ (bs : List Sleepers). Remembers c.self.inside.stood_in.items c.self.inside.threads bs) (sym before) c.self.invariant.1) in (
      subst (λ (bs : List Sleepers). Sound c.self.inside.threads c.self.inside.heads.items bs) all after,
      subst (λ (xs : List ℕ). Remembers xs c.self.inside.threads (refill c.self.inside.buckets.len c.self.inside.buckets.items c.move_between-moved.new.buckets)) anew
          (subst (λ (bs : List Sleepers). Remembers c.remember.new.stood_in c.self.inside.threads bs) all remembers),
    )

pub remember-requires : goal.remember-requires
remember-requires c =
    let before : c.deref_mut.result.now ≡ c.self.inside.buckets.items = c.deref_mut.ensures.value in
    let sound : Sound c.self.inside.threads c.self.inside.heads.items c.deref_mut.result.now = subst (λ (bs : List Sleepers). Sound c.self.inside.threads c.self.inside.heads.items bs) (sym before) c.self.invariant.0 in
    let at : c.bucket_of-number.result ≡ c.key_of-key.result.0 % length c.deref_mut.result.now =
    c.bucket_of-number.ensures.value ∙ ap (λ (m : ℕ). c.key_of-key.result.0 % m) (c.len.ensures ∙ c.self.inside.buckets.ok.0 ∙ ap length (sym before)) in
    let known = subst (λ (xs : List ℕ). All (λ t. (1 ≤ t) × (t ≤ length xs)) c.move_between-moved.result) (sym c.deref_mut-else-number-into.ensures.value)
    (moved_known c.self.inside.threads c.self.inside.heads.items c.deref_mut.result.now c.self.inside.stood_in.items c.key_of-key.result.0 c.args.n c.bucket_of-number.result c.move_between-moved.result sound
    (subst (λ (bs : List Sleepers). Remembers c.self.inside.stood_in.items c.self.inside.threads bs) (sym before) c.self.invariant.1) at c.move_between-moved.ensures.changes.leave.firsts) in
    record { known = known }

pub returns-then-number-into-clause-sound : goal.returns-then-number-into-clause-sound
returns-then-number-into-clause-sound c =
    let taken : Taken c.self.inside.buckets.items c.bucket_of-number.result c.index_mut.result.now = record { below = omega arith; is = c.index_mut.ensures.value } in
    let at : c.bucket_of-number.result ≡ c.key_of-key.result.0 % length c.self.inside.buckets.items = c.bucket_of-number.ensures.value ∙ ap (λ (m : ℕ). c.key_of-key.result.0 % m) (c.len.ensures ∙ c.self.inside.buckets.ok.0) in
    let at_to : c.bucket_of-number.result ≡ c.key_of-other.result.0 % length c.self.inside.buckets.items =
    c.if-number-into.true ∙ c.bucket_of-into.ensures.value ∙ ap (λ (m : ℕ). c.key_of-other.result.0 % m) (c.len-2.ensures ∙ c.self.inside.buckets.ok.0) in
    let ne : c.key_of-key.result.0 ≢ c.key_of-other.result.0 = (λ same. c.requires.apart (sym c.key_of-key.ensures ∙ same ∙ c.key_of-other.ensures)) in
    (sound_one c.self.inside.threads c.self.inside.heads.items c.self.inside.buckets.items c.bucket_of-number.result c.index_mut.result.now c.move_within.new.self c.key_of-key.result.0 c.args.n c.key_of-other.result.0 c.move_within.result
    c.self.invariant.0 taken at at_to ne c.move_within.ensures.orderly c.move_within.ensures.changes).0

pub returns-else-number-into-clause-changes : goal.returns-else-number-into-clause-changes
returns-else-number-into-clause-changes c =
    let before : c.deref_mut.result.now ≡ c.self.inside.buckets.items = c.deref_mut.ensures.value in
    let sound : Sound c.self.inside.threads c.self.inside.heads.items c.deref_mut.result.now = subst (λ (bs : List Sleepers). Sound c.self.inside.threads c.self.inside.heads.items bs) (sym before) c.self.invariant.0 in
    let at : c.bucket_of-number.result ≡ c.key_of-key.result.0 % length c.deref_mut.result.now =
    c.bucket_of-number.ensures.value ∙ ap (λ (m : ℕ). c.key_of-key.result.0 % m) (c.len.ensures ∙ c.self.inside.buckets.ok.0 ∙ ap length (sym before)) in
    let at_to : c.bucket_of-into.result ≡ c.key_of-other.result.0 % length c.deref_mut.result.now =
    c.bucket_of-into.ensures.value ∙ ap (λ (m : ℕ). c.key_of-other.result.0 % m) (c.len-2.ensures ∙ c.self.inside.buckets.ok.0 ∙ ap length (sym before)) in
    let all = refilled c.self.inside.buckets.len c.self.inside.buckets.items c.move_between-moved.new.buckets (c.move_between-moved.ensures.long ∙ ap length before ∙ sym c.self.inside.buckets.ok.0) in
    let old : kernel c.self.inside.threads c.self.inside.heads.items c.deref_mut.result.now ≡ c.args.self.now = ap (λ (bs : List Sleepers). kernel c.self.inside.threads c.self.inside.heads.items bs) before ∙ c.self.view_is in
    let new = ap (λ (bs : List Sleepers). kernel c.self.inside.threads c.self.inside.heads.items bs) all in
    subst (λ (k : ℕ). Moves c.args.self.now (kernel c.self.inside.threads c.self.inside.heads.items (refill c.self.inside.buckets.len c.self.inside.buckets.items c.move_between-moved.new.buckets)) k c.args.n c.args.to c.move_between-moved.result) c.key_of-key.ensures
    (subst (λ (k : ℕ). Moves c.args.self.now (kernel c.self.inside.threads c.self.inside.heads.items (refill c.self.inside.buckets.len c.self.inside.buckets.items c.move_between-moved.new.buckets)) c.key_of-key.result.0 c.args.n k c.move_between-moved.result) c.key_of-other.ensures
    (subst (λ (k : Kernel'). Moves c.args.self.now k c.key_of-key.result.0 c.args.n c.key_of-other.result.0 c.move_between-moved.result) new
    (subst (λ (k : Kernel'). Moves k (kernel c.self.inside.threads c.self.inside.heads.items c.move_between-moved.new.buckets) c.key_of-key.result.0 c.args.n c.key_of-other.result.0 c.move_between-moved.result) old
    (moves_two c.self.inside.threads c.self.inside.heads.items c.deref_mut.result.now c.move_between-moved.new.buckets c.bucket_of-number.result c.bucket_of-into.result c.key_of-key.result.0 c.args.n c.key_of-other.result.0 c.move_between-moved.result
    c.move_between-moved.ensures.long c.move_between-moved.ensures.others at at_to c.move_between-moved.ensures.changes))))

pub returns-else-number-into-clause-sound : goal.returns-else-number-into-clause-sound
returns-else-number-into-clause-sound c =
    let before : c.deref_mut.result.now ≡ c.self.inside.buckets.items = c.deref_mut.ensures.value in
    let sound : Sound c.self.inside.threads c.self.inside.heads.items c.deref_mut.result.now = subst (λ (bs : List Sleepers). Sound c.self.inside.threads c.self.inside.heads.items bs) (sym before) c.self.invariant.0 in
    let at : c.bucket_of-number.result ≡ c.key_of-key.result.0 % length c.deref_mut.result.now =
    c.bucket_of-number.ensures.value ∙ ap (λ (m : ℕ). c.key_of-key.result.0 % m) (c.len.ensures ∙ c.self.inside.buckets.ok.0 ∙ ap length (sym before)) in
    let at_to : c.bucket_of-into.result ≡ c.key_of-other.result.0 % length c.deref_mut.result.now =
    c.bucket_of-into.ensures.value ∙ ap (λ (m : ℕ). c.key_of-other.result.0 % m) (c.len-2.ensures ∙ c.self.inside.buckets.ok.0 ∙ ap length (sym before)) in
    let ne : c.key_of-key.result.0 ≢ c.key_of-other.result.0 = (λ same. c.requires.apart (sym c.key_of-key.ensures ∙ same ∙ c.key_of-other.ensures)) in
    let all = refilled c.self.inside.buckets.len c.self.inside.buckets.items c.move_between-moved.new.buckets (c.move_between-moved.ensures.long ∙ ap length before ∙ sym c.self.inside.buckets.ok.0) in
    (subst (λ (bs : List Sleepers). Sound c.self.inside.threads c.self.inside.heads.items bs) all
    (sound_two c.self.inside.threads c.self.inside.heads.items c.deref_mut.result.now c.move_between-moved.new.buckets c.bucket_of-number.result c.bucket_of-into.result c.key_of-key.result.0 c.args.n c.key_of-other.result.0 c.move_between-moved.result
    sound ne c.move_between-moved.ensures.long c.move_between-moved.ensures.others at at_to c.move_between-moved.ensures.left c.move_between-moved.ensures.joined c.move_between-moved.ensures.changes)).0
