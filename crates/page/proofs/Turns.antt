-- A line's items, as they are written.
use Rattle.std.proofs.Common.{◌≡◌, ℕ, ◌+◌, ◌<◌, ◌≤◌, ◌^◌, Bool, true, false, Option, Some, None, List, [], ◌∷◌, ◌++◌, length, refl, sym, ap, subst, ◌∙◌, arith, append-nil}
use Rattle.std.specs.Prelude.{◌==◌, ◌%◌, option_map, reverse, slice_index_or, slice_set, IfSome, Result, Ok, Err, IfOk, if◌then◌else◌}
use Rattle.std.proofs.lemmas.List.{length-reverse}
use Rattle.posixmutex.specs.declared.object.Object.{Object}
use Rattle.posixmutex.specs.declared.point.Decision.{Decision}
use Rattle.posixmutex.specs.Objects.{fresh, stepped}
use Rattle.facts.specs.declared.fact.Fact.{Fact}
use Rattle.facts.specs.declared.fact.Fact.TheVariants.{Begin, Point, Death, Sleep, Wake, Move, Return, Kill, Reap, Renew}
use Rattle.facts.specs.declared.fact.Line.{Line}
use Rattle.facts.specs.Facts.{decision_of, thread_of}
use Rattle.verdict.specs.Earlier.{moved, objects_after, told_of}
use Rattle.verdict.specs.Judges.{IsInside, IsMutex}
use Rattle.page.specs.declared.status.Status.{Status}
use Rattle.page.specs.Data.{mutex_in}
use Rattle.page.specs.Shows.{Item, Turn, Whole, turn, whole_every}
use Rattle.page.specs.States.{Mutex, Shown, change_of, listed, remade, state_behind, statuses}
use Rattle.page.specs.Statuses.{after, first_status, life_in, status_of}
use Rattle.page.specs.Texts.{items_text, line_text, mutex_text, status_text, turn_text, whole_text}
use Rattle.page.proofs.Behind.{length_listed, listed_at, moved_own, moved_other, own_line, set_listed, shown_so, threads_behind}

-- ---- ranges

pub mutex_inside : (n : ℕ) (f : Fact) → IsMutex n f → IfSome (decision_of f) (λ d. d.mutex < n)
mutex_inside n (Begin t c) h = tt
mutex_inside n (Point d) h = h
mutex_inside n (Death t m) h = h
mutex_inside n (Sleep t q) h = tt
mutex_inside n (Wake t) h = tt
mutex_inside n (Move t m) h = tt
mutex_inside n (Return t x) h = tt
mutex_inside n (Kill t) h = tt
mutex_inside n (Reap t) h = tt
mutex_inside n (Renew t) h = tt

pub inside_lists : (a b c d : ℕ) (f : Fact) → a ≡ c → b ≡ d → IsInside c d f → IsInside a b f
inside_lists a b c d f p q h = subst (λ (n : ℕ). IsInside n b f) (sym p) (subst (λ (n : ℕ). IsInside c n f) (sym q) h)

-- a thread is in no more lives than it has lines, and one
few_lives : (fs : List Fact) → life_in fs ≤ length fs + 1
few_lives [] = omega arith
few_lives (Begin t c ∷ fs) = let h = few_lives fs in omega (arith, h)
few_lives (Point d ∷ fs) = let h = few_lives fs in omega (arith, h)
few_lives (Death t m ∷ fs) = let h = few_lives fs in omega (arith, h)
few_lives (Sleep t q ∷ fs) = let h = few_lives fs in omega (arith, h)
few_lives (Wake t ∷ fs) = let h = few_lives fs in omega (arith, h)
few_lives (Move t m ∷ fs) = let h = few_lives fs in omega (arith, h)
few_lives (Return t x ∷ fs) = let h = few_lives fs in omega (arith, h)
few_lives (Kill t ∷ fs) = let h = few_lives fs in omega (arith, h)
few_lives (Reap t ∷ fs) = let h = few_lives fs in omega (arith, h)
few_lives (Renew t ∷ fs) = let h = few_lives fs in omega (arith, h)

told_by : (own : Bool) (e : Line) (fs : List Fact) (n : ℕ) → length fs ≤ n → length (if own then e.fact ∷ fs else fs) ≤ n + 1
told_by true e fs n h = omega (arith, h)
told_by false e fs n h = omega (arith, h)

few_told : (t : ℕ) (es : List Line) → length (told_of t es) ≤ length es
few_told t [] = omega arith
few_told t (e ∷ es) = let h = told_by (thread_of e.fact == t) e (told_of t es) (length es) (few_told t es) in omega (arith, h)

pub young : (t : ℕ) (es : List Line) → length es ≤ 100000 → (status_of t es).life < 2 ^ 60
young t es few = let h = few_lives (told_of t es) in let k = few_told t es in omega (arith, h, k, few)

-- ---- the state

abbrev pub threads_in : Shown → List Status
threads_in s = s.threads

abbrev pub mutexes_in : Shown → List Object
mutexes_in s = s.mutexes

-- what is kept of the threads goes on
pub threads_go_on : (n : ℕ) (ts : List Status) (e : Line) (es : List Line) (k : ℕ) → ts ≡ listed (statuses es) n → thread_of e.fact < n → k ≡ length es + 2 → slice_set ts (thread_of e.fact) (after (slice_index_or ts (thread_of e.fact) first_status) e.fact k) ≡ listed (statuses (e ∷ es)) n
threads_go_on n ts e es k is lt at =
    let t = thread_of e.fact in
    ap (λ (us : List Status). slice_set us t (after (slice_index_or us t first_status) e.fact k)) is
    ∙ ap (λ (s : Status). slice_set (listed (statuses es) n) t (after s e.fact k)) (listed_at (statuses es) n t first_status lt)
    ∙ ap (λ (m : ℕ). slice_set (listed (statuses es) n) t (after (status_of t es) e.fact m)) at
    ∙ ap (slice_set (listed (statuses es) n) t) (sym (own_line e es))
    ∙ threads_behind n e es

remade_moved : (n : ℕ) (os : ℕ → Object) (D : Option Decision) → IfSome D (λ d. d.mutex < n) → remade (listed os n) D ≡ listed (moved os D) n
remade_moved n os None h = refl
remade_moved n os (Some d) h =
    ap (λ (o : Object). slice_set (listed os n) d.mutex (stepped o d.thread d.operation d.reply)) (listed_at os n d.mutex fresh h)
    ∙ set_listed os (moved os (Some d)) n d.mutex (stepped (os d.mutex) d.thread d.operation d.reply) (moved_own os d) (λ i ne. moved_other os d i ne)

pub mutexes_go_on : (n : ℕ) (os : List Object) (e : Line) (es : List Line) → os ≡ listed (objects_after es) n → IsMutex n e.fact → remade os (decision_of e.fact) ≡ listed (objects_after (e ∷ es)) n
mutexes_go_on n os e es is inside = ap (λ (us : List Object). remade us (decision_of e.fact)) is ∙ remade_moved n (objects_after es) (decision_of e.fact) (mutex_inside n e.fact inside)

-- ---- the text

abbrev pub told_mutex : ℕ → Object → Mutex
told_mutex m o = record { number = m; object = o }

mutexes_told : (n : ℕ) (os : ℕ → Object) (D : Option Decision) → IfSome D (λ d. d.mutex < n) → option_map (mutex_in (listed os n)) D ≡ option_map (λ d. told_mutex d.mutex (os d.mutex)) D
mutexes_told n os None h = refl
mutexes_told n os (Some d) h = ap (λ (o : Object). Some (told_mutex d.mutex o)) (listed_at os n d.mutex fresh h)

-- what is written of a line is what it changes
pub turn_told : (n m : ℕ) (ts : List Status) (os : List Object) (e : Line) (es : List Line) → ts ≡ listed (statuses (e ∷ es)) n → os ≡ listed (objects_after (e ∷ es)) m → IsInside n m e.fact → line_text e ++ (status_text (slice_index_or ts (thread_of e.fact) first_status) ++ mutex_text (option_map (mutex_in os) (decision_of e.fact))) ≡ turn_text e (change_of e es)
turn_told n m ts os e es is so inside =
    ap (λ (us : List Status). line_text e ++ (status_text (slice_index_or us (thread_of e.fact) first_status) ++ mutex_text (option_map (mutex_in os) (decision_of e.fact)))) is
    ∙ ap (λ (s : Status). line_text e ++ (status_text s ++ mutex_text (option_map (mutex_in os) (decision_of e.fact)))) (listed_at (statuses (e ∷ es)) n (thread_of e.fact) first_status inside.0)
    ∙ ap (λ (us : List Object). line_text e ++ (status_text (status_of (thread_of e.fact) (e ∷ es)) ++ mutex_text (option_map (mutex_in us) (decision_of e.fact)))) so
    ∙ ap (λ (o : Option Mutex). line_text e ++ (status_text (status_of (thread_of e.fact) (e ∷ es)) ++ mutex_text o)) (mutexes_told m (objects_after (e ∷ es)) (decision_of e.fact) (mutex_inside m e.fact inside.1))

items_by : (whole : Bool) (s : Shown) (i : Item) → items_text ((if whole then Whole s ∷ [] else []) ++ i ∷ []) ≡ (if whole then whole_text s else []) ++ items_text (i ∷ [])
items_by true s i = refl
items_by false s i = refl

-- a whole state where one stands, and the line
pub turn_is : (threads mutexes : ℕ) (es : List Line) (e : Line) (k : ℕ) → k ≡ length es → items_text (turn threads mutexes es e) ≡ (if (k % 1000) == 0 then whole_text (state_behind threads mutexes es) else []) ++ turn_text e (change_of e es)
turn_is threads mutexes es e k is =
    items_by ((length es % whole_every) == 0) (state_behind threads mutexes es) (Turn e (change_of e es))
    ∙ ap (λ (l : List ℕ). (if (length es % whole_every) == 0 then whole_text (state_behind threads mutexes es) else []) ++ l) (append-nil (turn_text e (change_of e es)))
    ∙ ap (λ (n : ℕ). (if (n % 1000) == 0 then whole_text (state_behind threads mutexes es) else []) ++ turn_text e (change_of e es)) (sym is)

-- ---- a line more, as a loop goes on

pub thread_inside : (threads mutexes : ℕ) (s : Shown) (es : List Line) (t : ℕ) → s ≡ state_behind threads mutexes es → t < threads + 1 → t < length s.threads
thread_inside threads mutexes s es t so lt = subst (λ (n : ℕ). t < n) (sym (ap (λ (u : Shown). length u.threads) so ∙ length_listed (statuses es) (threads + 1))) lt

pub mutexes_inside : (threads mutexes : ℕ) (s : Shown) (es : List Line) → s ≡ state_behind threads mutexes es → length s.mutexes ≡ mutexes
mutexes_inside threads mutexes s es so = ap (λ (u : Shown). length u.mutexes) so ∙ length_listed (objects_after es) mutexes

pub threads_inside : (threads mutexes : ℕ) (s : Shown) (es : List Line) → s ≡ state_behind threads mutexes es → length s.threads ≡ threads + 1
threads_inside threads mutexes s es so = ap (λ (u : Shown). length u.threads) so ∙ length_listed (statuses es) (threads + 1)

pub thread_young : (threads mutexes : ℕ) (s : Shown) (ls : List Line) (t : ℕ) → s ≡ state_behind threads mutexes (reverse ls) → t < threads + 1 → length ls ≤ 100000 → (slice_index_or s.threads t first_status).life < 2 ^ 60
thread_young threads mutexes s ls t so lt few =
    subst (λ (u : Status). u.life < 2 ^ 60) (sym (ap (λ (u : Shown). slice_index_or u.threads t first_status) so ∙ listed_at (statuses (reverse ls)) (threads + 1) t first_status lt)) (young t (reverse ls) (omega (arith, few, length-reverse ls)))

pub state_goes_on : (threads mutexes : ℕ) (s : Shown) (ts : List Status) (os : List Object) (ls : List Line) (e : Line) (k : ℕ) → s ≡ state_behind threads mutexes (reverse ls) → IsInside (threads + 1) mutexes e.fact → k ≡ length ls + 2 → ts ≡ slice_set s.threads (thread_of e.fact) (after (slice_index_or s.threads (thread_of e.fact) first_status) e.fact k) → os ≡ remade s.mutexes (decision_of e.fact) → shown_so ts os ≡ state_behind threads mutexes (e ∷ reverse ls)
state_goes_on threads mutexes s ts os ls e k so inside at p q =
    let es = reverse ls in
    ap (λ (us : List Status). shown_so us os) (p ∙ threads_go_on (threads + 1) s.threads e es k (ap threads_in so) inside.0 (at ∙ ap (λ (n : ℕ). n + 2) (sym (length-reverse ls))))
    ∙ ap (shown_so (listed (statuses (e ∷ es)) (threads + 1))) (q ∙ mutexes_go_on mutexes s.mutexes e es (ap mutexes_in so) inside.1)

pub turn_written : (threads mutexes : ℕ) (s u : Shown) (ls : List Line) (e : Line) → s ≡ state_behind threads mutexes (reverse ls) → u ≡ state_behind threads mutexes (e ∷ reverse ls) → IsInside (threads + 1) mutexes e.fact → (if (length ls % 1000) == 0 then whole_text s else []) ++ (line_text e ++ (status_text (slice_index_or u.threads (thread_of e.fact) first_status) ++ mutex_text (option_map (mutex_in u.mutexes) (decision_of e.fact)))) ≡ items_text (turn threads mutexes (reverse ls) e)
turn_written threads mutexes s u ls e so is inside =
    let es = reverse ls in
    let change = line_text e ++ (status_text (slice_index_or u.threads (thread_of e.fact) first_status) ++ mutex_text (option_map (mutex_in u.mutexes) (decision_of e.fact))) in
    ap (λ (w : Shown). (if (length ls % 1000) == 0 then whole_text w else []) ++ change) so
    ∙ ap (λ (l : List ℕ). (if (length ls % 1000) == 0 then whole_text (state_behind threads mutexes es) else []) ++ l) (turn_told (threads + 1) mutexes u.threads u.mutexes e es (ap threads_in is) (ap mutexes_in is) inside)
    ∙ sym (turn_is threads mutexes es e (length ls) (sym (length-reverse ls)))

pub whatever : {X E : Type 0} {P : Type 0} (r : Result X E) → P → IfOk r (λ _. P)
whatever (Ok x) p = p
whatever (Err e) p = tt
