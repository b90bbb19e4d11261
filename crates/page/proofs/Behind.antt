-- What threads and mutexes are after one line more.
use Rattle.std.proofs.Common.{◌≡◌, ◌≢◌, ℕ, ◌+◌, ◌<◌, ◌⊎◌, inl, inr, Bool, true, false, Option, Some, None, List, [], ◌∷◌, length, get_or, refl, sym, ap, subst, ◌∙◌, arith}
use Rattle.std.specs.Prelude.{◌==◌, option_map, replicate, slice_set, if◌then◌else◌}
use Rattle.std.proofs.Math.ListN.{set}
use Rattle.std.proofs.lemmas.List.{get_or-replicate, get_or-set_other, length-replicate, length-set}
use Rattle.std.proofs.lemmas.Grind.{get_or-set_at}
use Rattle.std.proofs.lemmas.List.FromFn.{fill_by_all, get_or-map-range_with_len, length-map-range_with_len}
use Rattle.std.proofs.lemmas.Bool.Decides.{eqb_tells}
use Rattle.posixmutex.specs.declared.object.Object.{Object}
use Rattle.posixmutex.specs.declared.point.Decision.{Decision}
use Rattle.posixmutex.specs.Objects.{fresh, stepped}
use Rattle.facts.specs.declared.fact.Fact.{Fact}
use Rattle.facts.specs.declared.fact.Fact.TheVariants.{Begin, Point, Death, Sleep, Wake, Move, Return, Kill, Reap, Renew}
use Rattle.facts.specs.declared.fact.Line.{Line}
use Rattle.facts.specs.Facts.{decision_of, thread_of}
use Rattle.verdict.specs.Earlier.{moved, objects_after, told_of}
use Rattle.page.specs.declared.status.Bed.{Bed}
use Rattle.page.specs.declared.status.Status.{Status}
use Rattle.page.specs.Statuses.{after, bed_of, first_status, slept, status_of, told_so}
use Rattle.page.specs.States.{Mutex, Shown, change_of, changed, listed, mutex_behind, replaced, state_behind, statuses}

-- ---- a thread

-- a fact more of it
pub told_more : (f : Fact) (k : ℕ) (fs : List Fact) (b : Option Bed) → told_so (f ∷ fs) (slept f k b) ≡ after (told_so fs b) f k
told_more (Begin t c) k fs b = refl
told_more (Point d) k fs b = refl
told_more (Death t m) k fs b = refl
told_more (Sleep t q) k fs b = refl
told_more (Wake t) k fs b = refl
told_more (Move t m) k fs b = refl
told_more (Return t x) k fs b = refl
told_more (Kill t) k fs b = refl
told_more (Reap t) k fs b = refl
told_more (Renew t) k fs b = refl

-- what thread t does after a line, told by whether the line is its own
abbrev pub told_by : Bool → ℕ → Line → List Line → Status
told_by own t e es = told_so (if own then e.fact ∷ told_of t es else told_of t es) (if own then slept e.fact (length es + 2) (bed_of t es) else bed_of t es)

told_own : (own : Bool) (t : ℕ) (e : Line) (es : List Line) → own ≡ true → told_by own t e es ≡ after (status_of t es) e.fact (length es + 2)
told_own true t e es is = told_more e.fact (length es + 2) (told_of t es) (bed_of t es)
told_own false t e es is = absurd cc

told_other : (own : Bool) (t : ℕ) (e : Line) (es : List Line) → own ≡ false → told_by own t e es ≡ status_of t es
told_other true t e es is = absurd cc
told_other false t e es is = refl

same_thread : (a b : ℕ) → a ≡ b → (a == b) ≡ true
same_thread a b is = elim (eqb_tells a b) [ inl h ↦ h.0 | inr h ↦ absurd (h.1 is) ]

other_thread : (a b : ℕ) → a ≢ b → (a == b) ≡ false
other_thread a b ne = elim (eqb_tells a b) [ inl h ↦ absurd (ne h.1) | inr h ↦ h.0 ]

pub own_line : (e : Line) (es : List Line) → status_of (thread_of e.fact) (e ∷ es) ≡ after (status_of (thread_of e.fact) es) e.fact (length es + 2)
own_line e es = told_own (thread_of e.fact == thread_of e.fact) (thread_of e.fact) e es (same_thread (thread_of e.fact) (thread_of e.fact) refl)

pub others_line : (t : ℕ) (e : Line) (es : List Line) → thread_of e.fact ≢ t → status_of t (e ∷ es) ≡ status_of t es
others_line t e es ne = told_other (thread_of e.fact == t) t e es (other_thread (thread_of e.fact) t ne)

-- ---- lists

pub length_listed : {A : Type 0} (f : ℕ → A) (n : ℕ) → length (listed f n) ≡ n
length_listed f n = length-map-range_with_len f 0 n

pub listed_at : {A : Type 0} (f : ℕ → A) (n i : ℕ) (d : A) → i < n → get_or (listed f n) i d ≡ f i
listed_at f n i d lt = get_or-map-range_with_len f 0 n i i d lt (omega arith)

-- one of them is set
pub set_listed : {A : Type 0} (f g : ℕ → A) (n k : ℕ) (v : A) → g k ≡ v → ((i : ℕ) → k ≢ i → g i ≡ f i) → set (listed f n) k v ≡ listed g n
set_listed f g n k v here elsewhere = fill_by_all g (set (listed f n) k v) n v (length-set (listed f n) k v ∙ length_listed f n) (λ i lt. go i lt (eqb_tells k i))
  where
    go : (i : ℕ) → i < n → (((k == i) ≡ true) × (k ≡ i)) ⊎ (((k == i) ≡ false) × (k ≢ i)) → get_or (set (listed f n) k v) i v ≡ g i
    go i lt (inl h) = get_or-set_at (listed f n) k i v v (sym h.1) (subst (λ (m : ℕ). m < length (listed f n)) (sym h.1) (subst (λ (m : ℕ). i < m) (sym (length_listed f n)) lt)) ∙ sym here ∙ ap g h.1
    go i lt (inr h) = get_or-set_other (listed f n) k i v v (λ e. h.1 (sym e)) ∙ listed_at f n i v lt ∙ sym (elsewhere i h.1)

-- ---- the state

pub threads_behind : (n : ℕ) (e : Line) (es : List Line) → slice_set (listed (statuses es) n) (thread_of e.fact) (status_of (thread_of e.fact) (e ∷ es)) ≡ listed (statuses (e ∷ es)) n
threads_behind n e es = set_listed (statuses es) (statuses (e ∷ es)) n (thread_of e.fact) (status_of (thread_of e.fact) (e ∷ es)) refl (λ i ne. others_line i e es ne)

pub moved_other : (os : ℕ → Object) (d : Decision) (i : ℕ) → d.mutex ≢ i → moved os (Some d) i ≡ os i
moved_other os d i ne = ap (λ (b : Bool). if b then stepped (os i) d.thread d.operation d.reply else os i) (other_thread i d.mutex (λ e. ne (sym e)))

pub moved_own : (os : ℕ → Object) (d : Decision) → moved os (Some d) d.mutex ≡ stepped (os d.mutex) d.thread d.operation d.reply
moved_own os d = ap (λ (b : Bool). if b then stepped (os d.mutex) d.thread d.operation d.reply else os d.mutex) (same_thread d.mutex d.mutex refl)

-- a mutex as it is after a step
abbrev pub stepped_in : (ℕ → Object) → Decision → Mutex
stepped_in os d = record { number = d.mutex; object = os d.mutex }

pub mutexes_moved : (n : ℕ) (os : ℕ → Object) (D : Option Decision) → replaced (listed os n) (option_map (stepped_in (moved os D)) D) ≡ listed (moved os D) n
mutexes_moved n os None = refl
mutexes_moved n os (Some d) = set_listed os (moved os (Some d)) n d.mutex (moved os (Some d) d.mutex) refl (λ i ne. moved_other os d i ne)

pub mutexes_behind : (n : ℕ) (e : Line) (es : List Line) → replaced (listed (objects_after es) n) (option_map (mutex_behind (e ∷ es)) (decision_of e.fact)) ≡ listed (objects_after (e ∷ es)) n
mutexes_behind n e es = mutexes_moved n (objects_after es) (decision_of e.fact)

abbrev pub shown_so : List Status → List Object → Shown
shown_so ts os = record { threads = ts; mutexes = os }

-- what a line changes makes of the state before it the state after it
pub change_leads : (threads mutexes : ℕ) (e : Line) (es : List Line) → changed (state_behind threads mutexes es) (change_of e es) ≡ state_behind threads mutexes (e ∷ es)
change_leads threads mutexes e es =
    ap (λ (ts : List Status). shown_so ts (replaced (listed (objects_after es) mutexes) (option_map (mutex_behind (e ∷ es)) (decision_of e.fact)))) (threads_behind (threads + 1) e es)
    ∙ ap (shown_so (listed (statuses (e ∷ es)) (threads + 1))) (mutexes_behind mutexes e es)

replicated : {A : Type 0} (f : ℕ → A) (n : ℕ) (x : A) → ((i : ℕ) → f i ≡ x) → replicate n x ≡ listed f n
replicated f n x same = fill_by_all f (replicate n x) n x (length-replicate n x) (λ k lt. get_or-replicate n k x x lt ∙ sym (same k))

-- before the first line
pub new_state : (threads mutexes : ℕ) (ts : List Status) (os : List Object) → ts ≡ replicate (threads + 1) first_status → os ≡ replicate mutexes fresh → shown_so ts os ≡ state_behind threads mutexes []
new_state threads mutexes ts os p q =
    ap (λ (us : List Status). shown_so us os) (p ∙ replicated (statuses []) (threads + 1) first_status (λ i. refl))
    ∙ ap (shown_so (listed (statuses []) (threads + 1))) (q ∙ replicated (objects_after []) mutexes fresh (λ i. refl))
