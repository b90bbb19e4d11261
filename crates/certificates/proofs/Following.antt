-- What is kept on the walk is what the steps say.
use Rattle.std.proofs.Common.{◌≡◌, ◌≢◌, ℕ, ◌<◌, ◌≤◌, ◌==◌, ◌+◌, Bool, true, false, not, ◌&&◌, List, [], ◌∷◌, ◌++◌, length, if◌then◌else◌, Option, Some, None, IfSome, refl, sym, ap, subst, ◌∙◌, arith, get_or-set_same, get_or-set_other}
use Rattle.std.proofs.Math.ListN.{length-set}
use Rattle.std.specs.Prelude.{slice_set}
use Rattle.std.specs.Option.{is_some}
use Rattle.std.proofs.lemmas.Bool.Decides.{nat_tests}
use Rattle.posixmutex.specs.declared.point.Decision.{Decision}
use Rattle.posixmutex.specs.Objects.{stepped}
use Rattle.facts.specs.declared.fact.Begun.{Begun}
use Rattle.facts.specs.declared.fact.Fact.{Fact}
use Rattle.facts.specs.declared.fact.Fact.TheVariants.{Begin, Kill, Point, Death, Sleep, Wake, Move, Return, Reap, Renew}
use Rattle.facts.specs.Facts.{decision_of}
use Rattle.facts.specs.Lives.{Act}
use Rattle.verdict.specs.Earlier.{call_in, moved, objects_after, points_in, told_of}
use Rattle.histories.specs.declared.entry.Entry.{Entry}
use Rattle.histories.specs.declared.entry.Entry.TheVariants.{Told, Doom}
use Rattle.certificates.specs.declared.walk.Mutex.{Mutex}
use Rattle.certificates.specs.declared.walk.Thread.{Thread}
use Rattle.certificates.specs.declared.walk.Walk.{Walk}
use Rattle.certificates.specs.Certificates.{is_doomed, is_seen, seen_of, trace_of, whose}
use Rattle.certificates.specs.Waiters.{begun_at, locks, unmade_lock}
use Rattle.certificates.specs.Walks.{IsBehind, IsNew, Walks, became, decision_in, idle, mutex_after, mutex_at, mutex_behind, mutexes_after}
use Rattle.certificates.specs.Walks.{thread_after, thread_at, thread_behind, told_thread, untouched}

-- ---- a thread

-- a call that has had a point isn't one without
pointed : (call : Option Begun) (points : List Act) (p : Act) → unmade_lock call (points ++ p ∷ []) ≡ None
pointed None points p = refl
pointed (Some c) [] p = refl
pointed (Some c) (q ∷ points) p = refl

-- of which these facts are recorded
abbrev of_told : List Fact → ℕ → Bool → Thread
of_told fs begin doomed = record { locks = unmade_lock (call_in fs) (points_in fs); begin = begin; doomed = doomed }

-- a fact of its own or of another
turn : (b : Bool) (f : Fact) (fs : List Fact) (begin n : ℕ) (doomed : Bool) → of_told (f ∷ fs) begin doomed ≡ told_thread (of_told fs begin doomed) f n
    → of_told (if b then f ∷ fs else fs) begin doomed ≡ (if b then told_thread (of_told fs begin doomed) f n else of_told fs begin doomed)
turn true f fs begin n doomed h = h
turn false f fs begin n doomed h = refl

thread_next : (t : ℕ) (e : Entry) (es : List Entry) → thread_behind t (e ∷ es) ≡ (if whose e == t then thread_after (thread_behind t es) e (length (seen_of es)) else thread_behind t es)
thread_next t (Doom u) es = go (u == t) where
  go : (b : Bool) → record { locks = locks t (trace_of es); begin = begun_at t es; doomed = if b then true else is_doomed t es } ≡ (if b then thread_after (thread_behind t es) (Doom u) (length (seen_of es)) else thread_behind t es)
  go true = refl
  go false = refl
thread_next t (Told (Begin u c)) es = go (u == t) where
  go : (b : Bool) → record {
    locks = unmade_lock (call_in (if b then Begin u c ∷ told_of t (trace_of es) else told_of t (trace_of es))) (points_in (if b then Begin u c ∷ told_of t (trace_of es) else told_of t (trace_of es)));
    begin = if b then length (seen_of es) + 1 else begun_at t es;
    doomed = is_doomed t es;
  }
      ≡ (if b then told_thread (thread_behind t es) (Begin u c) (length (seen_of es)) else thread_behind t es)
  go true = refl
  go false = refl
thread_next t (Told (Kill u)) es = go (u == t) where
  go : (b : Bool) → record {
    locks = unmade_lock (call_in (if b then Kill u ∷ told_of t (trace_of es) else told_of t (trace_of es))) (points_in (if b then Kill u ∷ told_of t (trace_of es) else told_of t (trace_of es)));
    begin = begun_at t es;
    doomed = if b then false else is_doomed t es;
  }
      ≡ (if b then told_thread (thread_behind t es) (Kill u) (length (seen_of es)) else thread_behind t es)
  go true = refl
  go false = refl
thread_next t (Told (Point d)) es =
    let fs = told_of t (trace_of es) in
    turn (d.thread == t) (Point d) fs (begun_at t es) (length (seen_of es)) (is_doomed t es)
    (ap (λ (o : Option ℕ). record { locks = o; begin = begun_at t es; doomed = is_doomed t es }) (pointed (call_in fs) (points_in fs) (d.operation, d.reply)))
thread_next t (Told (Return u x)) es = turn (u == t) (Return u x) (told_of t (trace_of es)) (begun_at t es) (length (seen_of es)) (is_doomed t es) refl
thread_next t (Told (Death u m)) es = turn (u == t) (Death u m) (told_of t (trace_of es)) (begun_at t es) (length (seen_of es)) (is_doomed t es) refl
thread_next t (Told (Sleep u q)) es = turn (u == t) (Sleep u q) (told_of t (trace_of es)) (begun_at t es) (length (seen_of es)) (is_doomed t es) refl
thread_next t (Told (Wake u)) es = turn (u == t) (Wake u) (told_of t (trace_of es)) (begun_at t es) (length (seen_of es)) (is_doomed t es) refl
thread_next t (Told (Move u m)) es = turn (u == t) (Move u m) (told_of t (trace_of es)) (begun_at t es) (length (seen_of es)) (is_doomed t es) refl
thread_next t (Told (Reap u)) es = turn (u == t) (Reap u) (told_of t (trace_of es)) (begun_at t es) (length (seen_of es)) (is_doomed t es) refl
thread_next t (Told (Renew u)) es = turn (u == t) (Renew u) (told_of t (trace_of es)) (begun_at t es) (length (seen_of es)) (is_doomed t es) refl

threads_next : (ts : List Thread) (e : Entry) (es : List Entry) (n : ℕ) → n ≡ length (seen_of es) → whose e < length ts → ((t : ℕ) → t < length ts → thread_at ts t ≡ thread_behind t es)
    → (t : ℕ) → t < length ts → thread_at (slice_set ts (whose e) (thread_after (thread_at ts (whose e)) e n)) t ≡ thread_behind t (e ∷ es)
threads_next ts e es n count inside kept t lt = by_cases (whose e == t) refl where
  by_cases : (b : Bool) → (whose e == t) ≡ b → thread_at (slice_set ts (whose e) (thread_after (thread_at ts (whose e)) e n)) t ≡ thread_behind t (e ∷ es)
  by_cases true is =
      let same : t ≡ whose e = grind (arith, nat_tests) in
      let after : thread_behind t (e ∷ es) ≡ thread_after (thread_behind t es) e (length (seen_of es)) =
      thread_next t e es ∙ ap (λ (b : Bool). if b then thread_after (thread_behind t es) e (length (seen_of es)) else thread_behind t es) is in
      ap (thread_at (slice_set ts (whose e) (thread_after (thread_at ts (whose e)) e n))) same ∙ get_or-set_same ts (whose e) (thread_after (thread_at ts (whose e)) e n) idle inside
      ∙ ap (λ (p : Thread). thread_after p e n) (kept (whose e) inside) ∙ ap (λ (k : ℕ). thread_after (thread_behind (whose e) es) e k) count
      ∙ ap (λ (v : ℕ). thread_after (thread_behind v es) e (length (seen_of es))) (sym same) ∙ sym after
  by_cases false is =
      let other : t ≢ whose e = grind (arith, nat_tests) in
      let after : thread_behind t (e ∷ es) ≡ thread_behind t es =
      thread_next t e es ∙ ap (λ (b : Bool). if b then thread_after (thread_behind t es) e (length (seen_of es)) else thread_behind t es) is in
      get_or-set_other ts (whose e) t (thread_after (thread_at ts (whose e)) e n) idle other ∙ kept t lt ∙ sym after

-- ---- a mutex

never : {A : Type 0} (b : Bool) (x y : A) → (if b && not b then x else y) ≡ y
never true x y = refl
never false x y = refl

stays : (k : Mutex) (n : ℕ) → became k k.object n ≡ k
stays k n = ap (λ (s : Option ℕ). record { object = k.object; since = s }) (never (is_some k.object.owner) (Some n) k.since)

-- what a step, if it is one, makes of mutex m
abbrev turned : Option Decision → ℕ → Mutex → ℕ → Mutex
turned None m k n = k
turned (Some d) m k n = if m == d.mutex then mutex_after k d n else k

decided : (o : Option Decision) (m : ℕ) (es : List Entry) → became (mutex_behind m es) (moved (objects_after (trace_of es)) o m) (length (seen_of es)) ≡ turned o m (mutex_behind m es) (length (seen_of es))
decided None m es = stays (mutex_behind m es) (length (seen_of es))
decided (Some d) m es = go (m == d.mutex) where
  go : (b : Bool) → became (mutex_behind m es) (if b then stepped (objects_after (trace_of es) m) d.thread d.operation d.reply else objects_after (trace_of es) m) (length (seen_of es))
      ≡ (if b then mutex_after (mutex_behind m es) d (length (seen_of es)) else mutex_behind m es)
  go true = refl
  go false = stays (mutex_behind m es) (length (seen_of es))

mutex_next : (m : ℕ) (e : Entry) (es : List Entry) → mutex_behind m (e ∷ es) ≡ turned (decision_in e) m (mutex_behind m es) (length (seen_of es))
mutex_next m (Doom t) es = stays (mutex_behind m es) (length (seen_of es))
mutex_next m (Told f) es = decided (decision_of f) m es

mutexes_next : (ms : List Mutex) (o : Option Decision) (es : List Entry) (n : ℕ) → n ≡ length (seen_of es) → IfSome o (λ d. d.mutex < length ms) → ((m : ℕ) → m < length ms → mutex_at ms m ≡ mutex_behind m es)
    → (m : ℕ) → m < length ms → mutex_at (mutexes_after ms o n) m ≡ turned o m (mutex_behind m es) (length (seen_of es))
mutexes_next ms None es n count inside kept m lt = kept m lt
mutexes_next ms (Some d) es n count inside kept m lt = by_cases (m == d.mutex) refl where
  by_cases : (b : Bool) → (m == d.mutex) ≡ b → mutex_at (slice_set ms d.mutex (mutex_after (mutex_at ms d.mutex) d n)) m ≡ (if b then mutex_after (mutex_behind m es) d (length (seen_of es)) else mutex_behind m es)
  by_cases true is =
      let same : m ≡ d.mutex = grind (arith, nat_tests) in
      ap (mutex_at (slice_set ms d.mutex (mutex_after (mutex_at ms d.mutex) d n))) same ∙ get_or-set_same ms d.mutex (mutex_after (mutex_at ms d.mutex) d n) untouched inside
      ∙ ap (λ (k : Mutex). mutex_after k d n) (kept d.mutex inside) ∙ ap (λ (j : ℕ). mutex_after (mutex_behind d.mutex es) d j) count
      ∙ ap (λ (v : ℕ). mutex_after (mutex_behind v es) d (length (seen_of es))) (sym same)
  by_cases false is =
      let other : m ≢ d.mutex = grind (arith, nat_tests) in
      get_or-set_other ms d.mutex m (mutex_after (mutex_at ms d.mutex) d n) untouched other ∙ kept m lt

as_many : (ms : List Mutex) (o : Option Decision) (n : ℕ) → length (mutexes_after ms o n) ≡ length ms
as_many ms None n = refl
as_many ms (Some d) n = length-set ms d.mutex (mutex_after (mutex_at ms d.mutex) d n)

-- ---- lines

counted : (b : Bool) (n : ℕ) (e : Entry) (hs : List Entry) → n ≡ length hs → (if b then n + 1 else n) ≡ length (if b then e ∷ hs else hs)
counted true n e hs h = omega (arith, h)
counted false n e hs h = h

one_or_none : (b : Bool) (n k : ℕ) → k ≡ (if b then n + 1 else n) → k ≤ n + 1
one_or_none true n k h = omega (arith, h)
one_or_none false n k h = omega (arith, h)

pub few_more : (w : Walk) (e : Entry) (k : Walk) → Walks w e k → k.lines ≤ w.lines + 1
few_more w e k x = one_or_none (is_seen e (thread_at w.threads.items (whose e)).doomed) w.lines k.lines x.lines

-- ---- the walk

pub starts : (w : Walk) → IsNew w → IsBehind [] w
starts w new = record { threads = λ t lt. new.threads t; mutexes = λ m lt. new.mutexes m; lines = new.lines }

pub follows : (es : List Entry) (e : Entry) (w k : Walk) → IsBehind es w → Walks w e k → IsBehind (e ∷ es) k
follows es e w k b x = record {
  threads = λ t lt.
      let many : length k.threads.items ≡ length w.threads.items = ap length x.threads ∙ length-set w.threads.items (whose e) (thread_after (thread_at w.threads.items (whose e)) e w.lines) in
      subst (λ (ts : List Thread). thread_at ts t ≡ thread_behind t (e ∷ es)) (sym x.threads) (threads_next w.threads.items e es w.lines b.lines x.thread b.threads t (omega (arith, lt, many)));
  mutexes = λ m lt.
      let many : length k.mutexes.items ≡ length w.mutexes.items = ap length x.mutexes ∙ as_many w.mutexes.items (decision_in e) w.lines in
      subst (λ (ms : List Mutex). mutex_at ms m ≡ mutex_behind m (e ∷ es)) (sym x.mutexes)
      (mutexes_next w.mutexes.items (decision_in e) es w.lines b.lines x.mutex b.mutexes m (omega (arith, lt, many)) ∙ sym (mutex_next m e es));
  lines = x.lines ∙ ap (λ (d : Bool). if is_seen e d then w.lines + 1 else w.lines) (ap (λ (p : Thread). p.doomed) (b.threads (whose e) x.thread))
      ∙ counted (is_seen e (is_doomed (whose e) es)) w.lines e (seen_of es) b.lines;
}
