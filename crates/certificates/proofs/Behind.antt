-- What is kept of a thread and of its mutex says whether it still waits.
use Rattle.std.proofs.Common.{◌≡◌, ℕ, suc, ◌<◌, ◌+◌, true, false, List, [], length, get_or, Option, Some, None, if◌then◌else◌, refl, sym, ap, ◌∙◌, arith}
use Rattle.std.specs.Option.{is_some}
use Rattle.std.proofs.lemmas.List.{get_or_read_under}
use Rattle.histories.specs.declared.entry.Entry.{Entry}
use Rattle.certificates.specs.declared.waiting.Waiter.{Waiter}
use Rattle.certificates.specs.declared.walk.Mutex.{Mutex}
use Rattle.certificates.specs.declared.walk.Thread.{Thread}
use Rattle.certificates.specs.declared.walk.Walk.{Walk}
use Rattle.certificates.specs.Waiters.{added, waiter_for, waiter_of, waiters_to}
use Rattle.certificates.specs.Walks.{IsBehind, idle, mutex_at, thread_at, untouched}

-- ---- what the code reads

pub read_mutex : (ms : List Mutex) (at m : ℕ) (k : Mutex) → at ≡ m → m < length ms → k ≡ get_or ms at k → k ≡ mutex_at ms m
read_mutex ms at m k is lt e = get_or_read_under ms at (length ms) k untouched e (omega arith) refl ∙ ap (mutex_at ms) is

pub read_thread : (ts : List Thread) (at t : ℕ) (p : Thread) → at ≡ t → t < length ts → p ≡ get_or ts at p → p ≡ thread_at ts t
read_thread ts at t p is lt e = get_or_read_under ts at (length ts) p idle e (omega arith) refl ∙ ap (thread_at ts) is

-- ---- a mutex

-- the waiter that such a mutex has
abbrev of_mutex : ℕ → ℕ → ℕ → Mutex → Option Waiter
of_mutex t begin m k = if is_some k.object.owner then None else Some (record {
  thread = t;
  mutex = m;
  unusable = k.object.unusable;
  begin = begin;
  since = k.since;
})

so_kept : (t begin m : ℕ) (w : Walk) (es : List Entry) (k : Mutex) → IsBehind es w → m < length w.mutexes.items → k ≡ mutex_at w.mutexes.items m → of_mutex t begin m k ≡ waiter_for t begin es (Some m)
so_kept t begin m w es k b lt is = ap (of_mutex t begin m) (is ∙ b.mutexes m lt)

pub owned : (t begin m : ℕ) (w : Walk) (es : List Entry) (k : Mutex) → IsBehind es w → m < length w.mutexes.items → k ≡ mutex_at w.mutexes.items m → is_some k.object.owner ≡ true → None ≡ waiter_for t begin es (Some m)
owned t begin m w es k b lt is own =
    sym (ap (λ o. if o then None else Some (record { thread = t; mutex = m; unusable = k.object.unusable; begin = begin; since = k.since })) own)
    ∙ so_kept t begin m w es k b lt is

pub free : (t begin m : ℕ) (w : Walk) (es : List Entry) (k : Mutex) (r : Option Waiter) → IsBehind es w → m < length w.mutexes.items → k ≡ mutex_at w.mutexes.items m → is_some k.object.owner ≡ false
    → r ≡ Some (record { thread = t; mutex = m; unusable = k.object.unusable; begin = begin; since = k.since }) → r ≡ waiter_for t begin es (Some m)
free t begin m w es k r b lt is own made =
    made ∙ sym (ap (λ o. if o then None else Some (record { thread = t; mutex = m; unusable = k.object.unusable; begin = begin; since = k.since })) own)
    ∙ so_kept t begin m w es k b lt is

-- ---- a thread

abbrev of_thread : ℕ → List Entry → Thread → Option Waiter
of_thread t es p = if p.doomed then None else waiter_for t p.begin es p.locks

so_heard : (t : ℕ) (w : Walk) (es : List Entry) (p : Thread) → IsBehind es w → t < length w.threads.items → p ≡ thread_at w.threads.items t → of_thread t es p ≡ waiter_of t es
so_heard t w es p b lt is = ap (of_thread t es) (is ∙ b.threads t lt)

pub doomed : (t : ℕ) (w : Walk) (es : List Entry) (p : Thread) → IsBehind es w → t < length w.threads.items → p ≡ thread_at w.threads.items t → p.doomed ≡ true → None ≡ waiter_of t es
doomed t w es p b lt is dead = sym (ap (λ d. if d then None else waiter_for t p.begin es p.locks) dead) ∙ so_heard t w es p b lt is

pub locking : (t : ℕ) (w : Walk) (es : List Entry) (p : Thread) (o : Option ℕ) (r : Option Waiter) → IsBehind es w → t < length w.threads.items → p ≡ thread_at w.threads.items t → p.doomed ≡ false → p.locks ≡ o
    → r ≡ waiter_for t p.begin es o → r ≡ waiter_of t es
locking t w es p o r b lt is alive lock made =
    made ∙ sym (ap (waiter_for t p.begin es) lock) ∙ sym (ap (λ d. if d then None else waiter_for t p.begin es p.locks) alive)
    ∙ so_heard t w es p b lt is

-- ---- one thread after the other

pub none_yet : (es : List Entry) → [] ≡ waiters_to 0 es
unfolding waiters_to
none_yet es = refl

pub one_further : (es : List Entry) (k t : ℕ) (old new : List Waiter) (r : Option Waiter) → t ≡ k + 1 → old ≡ waiters_to k es → r ≡ waiter_of t es → new ≡ added old r → new ≡ waiters_to (k + 1) es
unfolding waiters_to
one_further es k t old new r is so found more =
    let one : k + 1 ≡ suc k = omega arith in
    more ∙ ap (λ (ws : List Waiter). added ws r) so ∙ ap (added (waiters_to k es)) (found ∙ ap (λ (u : ℕ). waiter_of u es) (is ∙ one)) ∙ sym (ap (λ (n : ℕ). waiters_to n es) one)
