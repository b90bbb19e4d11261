-- What a release found.
use Rattle.std.proofs.Common.{Bool, true, false, ◌≡◌, ◌≢◌, ℕ, zero, suc, ◌≤◌, ◌==◌, not, Some, refl, ap, ◌∙◌, subst, sym, arith, bit_xor}
use Rattle.std.specs.Prelude.{if◌then◌else◌}
use Rattle.lockword.specs.Cells.{Fields, fields_of}
use Rattle.lockword.specs.declared.reply.Reply.TheVariants.{OK, EPERM}
use Rattle.stepprograms.specs.declared.access.Access.TheVariants as access
use Rattle.posixmutex.specs.declared.point.Operation.TheVariants as operation
use Rattle.lockword.proofs.Bits.{xor_released, xor_spoiled}
use Rattle.stepprograms.specs.Accesses.{answer_at, changed}
use Rattle.posixmutex.specs.declared.object.Object.{Object}
use Rattle.posixmutex.specs.Objects.{fresh, object_of, owner_of, Run}
use Rattle.posixmutex.proofs.Objects.{run_same}
use Rattle.mutex.specs.declared.row.Row.{Row}
use Rattle.mutex.specs.declared.row.Row.TheVariants.{Lock, TryLock, Unlock, Consistent, Ended}
use Rattle.mutex.specs.declared.row.Led.{Led}
use Rattle.mutex.specs.declared.unlock.UnlockRow.TheVariants as unlock
use Rattle.mutex.specs.Laws.{Expects, IsOf, Sound}
use Rattle.mutex.specs.Programs.{access_of, row_access, resume_of}
use Rattle.mutex.specs.Rows.{IsGoing, goes, ends}
use Rattle.mutex.specs.Standings.{Standing}
use Rattle.mutex.specs.Steps.{IsStep}
use Rattle.mutex.specs.Unlock.{released_bits}
use Rattle.ruledwords.specs.declared.pass.Card.{Card}
use Rattle.ruledwords.specs.Calls.{Ready, Made, led_at}
use Rattle.ruledwords.specs.Changes.{ChangedNothing, ChangedOnce, Writes}
use Rattle.ruledwords.specs.Cards.{at}
use Rattle.ruledwords.specs.Owing.{ChangesThere, FoundOwn, IsSpoiltAsFound}
use Rattle.ruledwords.proofs.Changes.{nothing_more, once_now}
use Rattle.lockword.specs.Threads.{most_threads}

owner_told : (a t : ℕ) → owner_of a ≡ Some t → a ≡ t
owner_told zero t e = absurd (cc e)
owner_told (suc a) t e = cc e

seen_own : (t v : ℕ) (b : Bool) (died : Bool) → FoundOwn (if◌then◌else◌ {A = Led} b (goes (Unlock (unlock.Release died))) (ends EPERM)).row t v
seen_own t v true died = tt
seen_own t v false died = tt

freed_own : (t v : ℕ) (died b : Bool) → (fields_of v).owner ≡ t → FoundOwn (if b then Unlock (unlock.Wake died) else Ended OK) t v
freed_own t v died true own = own
freed_own t v died false own = own

found_row : (t cell n : ℕ) (r : Row) → IsGoing r → IsStep (row_access t cell r) → IsOf operation.Unlock r → Expects t r (object_of (fields_of n)) → FoundOwn (resume_of t r (answer_at (row_access t cell r) n)).row t n
found_row t cell n (Lock r) going stepping of met = absurd (cc of)
found_row t cell n (TryLock r) going stepping of met = absurd (cc of)
found_row t cell n (Unlock unlock.Load) going stepping of met = seen_own t n ((fields_of n).owner == t) (fields_of n).died
found_row t cell n (Unlock (unlock.Release died)) going stepping of met = freed_own t n died (fields_of n).waiters (owner_told (fields_of n).owner t met.0)
found_row t cell n (Unlock (unlock.Wake a)) going stepping of met = absurd stepping
found_row t cell n (Unlock unlock.Trim) going stepping of met = absurd stepping
found_row t cell n (Consistent r) going stepping of met = absurd (cc of)
found_row t cell n (Ended x) going stepping of met = absurd going

pub found_own : (p : Standing) (q : ℕ) (c d : Card) (n : ℕ) → IsGoing p.row → IsStep (access_of p) → Ready p c → IsOf operation.Unlock p.row → Made p q c n d → FoundOwn (led_at p n).row p.thread d.last
found_own p q c d n going stepping ready of m =
    subst (FoundOwn (led_at p n).row p.thread) (sym m.last) (found_row p.thread p.cell n p.row going stepping of (subst (λ (t : ℕ). Expects t p.row (object_of (fields_of n))) (sym ready.0) m.met))

-- a release changes the word
released_differs : (t n : ℕ) (died : Bool) → 1 ≤ t → (fields_of n).owner ≡ t → (fields_of n).died ≡ died → bit_xor n (released_bits t died) ≢ n
released_differs t n true pos own dead e =
    let after : (fields_of (bit_xor n (released_bits t true))).owner ≡ 0 = ap (λ (f : Fields). f.owner) (xor_spoiled n t own dead) in
    let none : 0 ≡ t = sym after ∙ ap (λ (v : ℕ). (fields_of v).owner) e ∙ own in
    absurd (omega (arith, none, pos))
released_differs t n false pos own alive e =
    let after : (fields_of (bit_xor n (released_bits t false))).owner ≡ 0 = ap (λ (f : Fields). f.owner) (xor_released n t own) in
    let none : 0 ≡ t = sym after ∙ ap (λ (v : ℕ). (fields_of v).owner) e ∙ own in
    absurd (omega (arith, none, pos))

nothing_seen : (c e : Card) (q : ℕ) (b died : Bool) → ChangedNothing c q e → ChangesThere (if◌then◌else◌ {A = Led} b (goes (Unlock (unlock.Release died))) (ends EPERM)).row c q e
nothing_seen c e q true died so = so
nothing_seen c e q false died so = so

once_freed : (c e : Card) (q : ℕ) (died b : Bool) → ChangedOnce c q e × IsSpoiltAsFound q e → ChangesThere (if b then Unlock (unlock.Wake died) else Ended OK) c q e
once_freed c e q died true so = so
once_freed c e q died false so = so

-- the owner's mutex was usable
usable_own : (n t : ℕ) → Sound (object_of (fields_of n)) → owner_of (fields_of n).owner ≡ Some t → (b : Bool) → (fields_of n).unusable ≡ b → b ≡ false
usable_own n t sound own false e = refl
usable_own n t sound own true e = let none = sound e in absurd (cc (none, own))

-- a release leaves the mutex unusable where it found OWNER_DIED
spoilt : (n t : ℕ) (died : Bool) → Sound (object_of (fields_of n)) → owner_of (fields_of n).owner ≡ Some t → (fields_of n).died ≡ died → (fields_of (bit_xor n (released_bits t died))).unusable ≡ (fields_of n).died
spoilt n t true sound own dead = ap (λ (f : Fields). f.unusable) (xor_spoiled n t (owner_told (fields_of n).owner t own) dead) ∙ ap not (usable_own n t sound own (fields_of n).unusable refl) ∙ sym dead
spoilt n t false sound own alive = ap (λ (f : Fields). f.unusable) (xor_released n t (owner_told (fields_of n).owner t own)) ∙ usable_own n t sound own (fields_of n).unusable refl ∙ sym alive

changes_row : (c d e : Card) (q t cell n : ℕ) (r : Row) → d.thread ≡ c.thread → 1 ≤ t → e.last ≡ n → IsGoing r → IsStep (row_access t cell r) → IsOf operation.Unlock r → Expects t r (object_of (fields_of n)) → Writes d q n (changed (row_access t cell r) n) e → Sound (object_of (fields_of n))
    → ((o : Object) → Run fresh (at e.seen q) o → o ≡ object_of (fields_of (changed (row_access t cell r) n))) → ChangesThere r c q d
    → ChangesThere (resume_of t r (answer_at (row_access t cell r) n)).row c q e
changes_row c d e q t cell n (Lock r) same pos last going stepping of met writes sound left so = absurd (cc of)
changes_row c d e q t cell n (TryLock r) same pos last going stepping of met writes sound left so = absurd (cc of)
changes_row c d e q t cell n (Unlock unlock.Load) same pos last going stepping of met writes sound left so = nothing_seen c e q ((fields_of n).owner == t) (fields_of n).died (nothing_more c d e q n same so writes)
changes_row c d e q t cell n (Unlock (unlock.Release died)) same pos last going stepping of met writes sound left so =
    once_freed c e q died (fields_of n).waiters (
      once_now c d e q n (bit_xor n (released_bits t died)) same (released_differs t n died pos (owner_told (fields_of n).owner t met.0) met.1) last so writes,
      λ o run. ap (λ (x : Object). x.unusable) (left o run) ∙ spoilt n t died sound met.0 met.1 ∙ ap (λ (w : ℕ). (fields_of w).died) (sym last),
    )
changes_row c d e q t cell n (Unlock (unlock.Wake a)) same pos last going stepping of met writes sound left so = absurd stepping
changes_row c d e q t cell n (Unlock unlock.Trim) same pos last going stepping of met writes sound left so = absurd stepping
changes_row c d e q t cell n (Consistent r) same pos last going stepping of met writes sound left so = absurd (cc of)
changes_row c d e q t cell n (Ended x) same pos last going stepping of met writes sound left so = absurd going

pub changes_on : (x : Card) (p : Standing) (q : ℕ) (c d : Card) (n : ℕ) → c.thread ≡ x.thread → IsGoing p.row → IsStep (access_of p) → Ready p c → IsOf operation.Unlock p.row → Made p q c n d → ChangesThere p.row x q c → ChangesThere (led_at p n).row x q d
changes_on x p q c d n same going stepping ready of m so =
    changes_row x c d q p.thread p.cell n p.row same (subst (λ (t : ℕ). 1 ≤ t) (sym ready.0) m.thread.0) m.last going stepping of (subst (λ (t : ℕ). Expects t p.row (object_of (fields_of n))) (sym ready.0) m.met) m.writes m.sound
    (λ o run. run_same fresh o (object_of (fields_of (changed (access_of p) n))) (at d.seen q) run m.sees.leaves.0) so

-- an unlock that wakes stands after its release
pub at_wake : (t cell at n : ℕ) (r : Row) → IsGoing r → IsOf operation.Unlock r → row_access t cell r ≡ access.Wake at n → (a : Bool) × (r ≡ Unlock (unlock.Wake a)) × (n ≡ (if a then most_threads else 1))
at_wake t cell at n (Lock r) going of is = absurd (cc of)
at_wake t cell at n (TryLock r) going of is = absurd (cc of)
at_wake t cell at n (Unlock unlock.Load) going of is = absurd (cc is)
at_wake t cell at n (Unlock (unlock.Release d)) going of is = absurd (cc is)
at_wake t cell at n (Unlock (unlock.Wake a)) going of is = (a, refl, cc)
at_wake t cell at n (Unlock unlock.Trim) going of is = absurd (cc is)
at_wake t cell at n (Consistent r) going of is = absurd (cc of)
at_wake t cell at n (Ended x) going of is = absurd going
