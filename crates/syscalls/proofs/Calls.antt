-- The same, of the bucket that a call takes from the vector.
use Rattle.std.proofs.Common.{◌≡◌, ℕ, ◌<◌, ◌≤◌, Bool, List, length, get_or, set, sym, ap, ◌∙◌, subst}
use Rattle.std.specs.Prelude.{◌%◌}
use Rattle.std.proofs.lemmas.List.{get_or_default, set-get_or}
use Rattle.buckets.specs.Queues.{Sleepers, standing, Stands, StandsNowhere, IsOrderly, Enqueues, Takes, Removes}
use Rattle.syscalls.specs.Kernels.{nobody, bucket_at, IsAwake, FallsAsleep, Wakes, Leaves}
use Rattle.syscalls.proofs.Buckets.{kernel, awake_nowhere, room_left}
use Rattle.syscalls.proofs.Changes.{Sound, sound_asleep, falls_asleep, sound_awoken, wakes, sound_left, leaves}

-- bucket i of the vector is b
pub record Taken (bs : List Sleepers) (i : ℕ) (b : Sleepers) : Type 0 where
  pub below : i < length bs
  pub is : b ≡ get_or bs i b

pub here : (bs : List Sleepers) (i : ℕ) (b : Sleepers) → Taken bs i b → bucket_at bs i ≡ b
here bs i b taken = get_or_default bs i nobody b taken.below ∙ sym taken.is

pub same_buckets : (n : ℕ) (hs : List ℕ) (bs : List Sleepers) (i : ℕ) (b : Sleepers) → Taken bs i b → kernel n hs (set bs i b) ≡ kernel n hs bs
same_buckets n hs bs i b taken = ap (kernel n hs) (ap (set bs i) taken.is ∙ set-get_or bs i b)

pub room_in : (n : ℕ) (hs : List ℕ) (bs : List Sleepers) (i : ℕ) (b : Sleepers) (t : ℕ) → Sound n hs bs → Taken bs i b → 1 ≤ t → t ≤ n → IsAwake (kernel n hs bs) t → standing b < b.capacity
room_in n hs bs i b t s taken low high awake = subst (λ (c : Sleepers). standing c < c.capacity) (here bs i b taken) (room_left n hs bs i t s.0 s.1 taken.below low high awake)

pub nowhere_in : (n : ℕ) (hs : List ℕ) (bs : List Sleepers) (i : ℕ) (b : Sleepers) (t : ℕ) → Sound n hs bs → Taken bs i b → IsAwake (kernel n hs bs) t → StandsNowhere b t
nowhere_in n hs bs i b t s taken awake = subst (λ (c : Sleepers). StandsNowhere c t) (here bs i b taken) (awake_nowhere n hs bs i t s.1 taken.below awake)

pub sound_wait : (n : ℕ) (hs : List ℕ) (bs : List Sleepers) (i : ℕ) (b c : Sleepers) (t key : ℕ) → Sound n hs bs → Taken bs i b → i ≡ key % length bs → 1 ≤ t → t ≤ n → IsAwake (kernel n hs bs) t → IsOrderly c → Enqueues b c t key → Sound n hs (set bs i c)
sound_wait n hs bs i b c t key s taken at low high awake orderly e =
    subst (λ (j : ℕ). Sound n hs (set bs j c)) (sym at)
    (sound_asleep n hs bs c t key s low high awake orderly (subst (λ (a : Sleepers). Enqueues a c t key) (sym (here bs i b taken) ∙ ap (bucket_at bs) at) e))

pub waits : (n : ℕ) (hs : List ℕ) (bs : List Sleepers) (i : ℕ) (b c : Sleepers) (t key : ℕ) → Sound n hs bs → Taken bs i b → i ≡ key % length bs → Enqueues b c t key → FallsAsleep (kernel n hs bs) (kernel n hs (set bs i c)) t key
waits n hs bs i b c t key s taken at e =
    subst (λ (j : ℕ). FallsAsleep (kernel n hs bs) (kernel n hs (set bs j c)) t key) (sym at)
    (falls_asleep n hs bs c t key s (subst (λ (a : Sleepers). Enqueues a c t key) (sym (here bs i b taken) ∙ ap (bucket_at bs) at) e))

pub sound_wake : (n : ℕ) (hs : List ℕ) (bs : List Sleepers) (i : ℕ) (b c : Sleepers) (key m : ℕ) (woken : List ℕ) → Sound n hs bs → Taken bs i b → i ≡ key % length bs → IsOrderly c → Takes b c key m woken → Sound n hs (set bs i c)
sound_wake n hs bs i b c key m woken s taken at orderly e =
    subst (λ (j : ℕ). Sound n hs (set bs j c)) (sym at)
    (sound_awoken n hs bs c key m woken s orderly (subst (λ (a : Sleepers). Takes a c key m woken) (sym (here bs i b taken) ∙ ap (bucket_at bs) at) e))

pub wakes_in : (n : ℕ) (hs : List ℕ) (bs : List Sleepers) (i : ℕ) (b c : Sleepers) (key m : ℕ) (woken : List ℕ) → Sound n hs bs → Taken bs i b → i ≡ key % length bs → Takes b c key m woken → Wakes (kernel n hs bs) (kernel n hs (set bs i c)) key m woken
wakes_in n hs bs i b c key m woken s taken at e =
    subst (λ (j : ℕ). Wakes (kernel n hs bs) (kernel n hs (set bs j c)) key m woken) (sym at)
    (wakes n hs bs c key m woken s (subst (λ (a : Sleepers). Takes a c key m woken) (sym (here bs i b taken) ∙ ap (bucket_at bs) at) e))

pub sound_removal : (n : ℕ) (hs : List ℕ) (bs : List Sleepers) (i : ℕ) (b c : Sleepers) (t : ℕ) (stood : Bool) → Sound n hs bs → Taken bs i b → IsOrderly c → Removes b c t stood → Sound n hs (set bs i c)
sound_removal n hs bs i b c t stood s taken orderly e =
    sound_left n hs bs i c t stood s taken.below orderly (subst (λ (a : Sleepers). Removes a c t stood) (sym (here bs i b taken)) e)

pub removal : (n : ℕ) (hs : List ℕ) (bs : List Sleepers) (i : ℕ) (b c : Sleepers) (t : ℕ) (stood : Bool) → Sound n hs bs → Taken bs i b → Stands (bucket_at bs i) t → Removes b c t stood → Leaves (kernel n hs bs) (kernel n hs (set bs i c)) t stood
removal n hs bs i b c t stood s taken at e =
    leaves n hs bs i c t stood s taken.below at (subst (λ (a : Sleepers). Removes a c t stood) (sym (here bs i b taken)) e)
