-- A call that is named could go on, and is in the history where it is said to.
use Rattle.std.proofs.Common.{◌≡◌, ℕ, ◌+◌, ◌-◌, ◌==◌, Bool, true, false, List, [], ◌∷◌, ◌++◌, length, reverse, if◌then◌else◌, Option, Some, None, ◌⊎◌, ⊎_elim, inl, inr, refl, sym, ap, subst, ◌∙◌, arith, append_assoc}
use Rattle.std.specs.List.{slice_get}
use Rattle.std.specs.Option.{is_some}
use Rattle.std.proofs.lemmas.Bool.Decides.{nat_tests}
use Rattle.std.proofs.lemmas.List.{length-reverse, reverse-append, reverse-reverse}
use Rattle.posixmutex.specs.declared.object.Object.{Object}
use Rattle.posixmutex.specs.declared.point.Operation.{Operation}
use Rattle.posixmutex.specs.declared.point.Operation.TheVariants.{Lock, TimedLock}
use Rattle.posixmutex.specs.Objects.{Does, IsUnanswered}
use Rattle.posixmutex.specs.Histories.{held_by}
use Rattle.posixmutex.proofs.Replies.{calls}
use Rattle.lockword.specs.declared.reply.Reply.{Reply}
use Rattle.facts.specs.declared.fact.Begun.{Begun}
use Rattle.facts.specs.declared.fact.Fact.{Fact}
use Rattle.facts.specs.declared.fact.Fact.TheVariants.{Begin, Kill, Return}
use Rattle.facts.specs.Facts.{thread_of}
use Rattle.facts.specs.declared.fact.Line.{Line}
use Rattle.facts.specs.Lives.{Act}
use Rattle.verdict.specs.Earlier.{call_in, objects_after, points_in, told_of}
use Rattle.histories.specs.declared.entry.Entry.{Entry}
use Rattle.histories.specs.declared.entry.Entry.TheVariants.{Told, Doom}
use Rattle.histories.specs.declared.entry.HistoryLine.{HistoryLine}
use Rattle.certificates.specs.declared.waiting.Waiter.{Waiter}
use Rattle.certificates.specs.Certificates.{IsCertificate, entries, is_doomed, is_seen, seen_of, trace_of, whose}
use Rattle.certificates.specs.Laws.{IsAnswered, IsNamed, IsStuck}
use Rattle.certificates.specs.Waiters.{begun_at, is_owned, left_at, locked_by, locks, unmade_lock, waiter_for, waiter_of}
use Rattle.certificates.proofs.Standing.{told_seen}

-- ---- where a call began

data Began (t : ℕ) (c : Begun) (es : List Entry) : Type 0 where
  At : (newer older : List Entry) → seen_of es ≡ newer ++ Told (Begin t c) ∷ older → begun_at t es ≡ length older + 1 → Began t c es

-- a step after it
further : (t : ℕ) (c : Begun) (e : Entry) (es : List Entry) → begun_at t (e ∷ es) ≡ begun_at t es → Began t c es → Began t c (e ∷ es)
further t c e es same (At newer older is at) = go (is_seen e (is_doomed (whose e) es)) refl where
  go : (b : Bool) → is_seen e (is_doomed (whose e) es) ≡ b → Began t c (e ∷ es)
  go true seen = At (e ∷ newer) older (ap (λ (b : Bool). if b then e ∷ seen_of es else seen_of es) seen ∙ ap (λ (hs : List Entry). e ∷ hs) is) (same ∙ at)
  go false seen = At newer older (ap (λ (b : Bool). if b then e ∷ seen_of es else seen_of es) seen ∙ is) (same ∙ at)

-- a fact that leaves the call as it was
quiet : (b : Bool) (f : Fact) (fs : List Fact) → call_in (f ∷ fs) ≡ call_in fs → call_in (if b then f ∷ fs else fs) ≡ call_in fs
quiet true f fs same = same
quiet false f fs same = refl

-- a fact that ends it was another thread's
ended : (b : Bool) (f : Fact) (fs : List Fact) (c : Begun) → call_in (f ∷ fs) ≡ None → call_in (if b then f ∷ fs else fs) ≡ Some c → b ≡ false
ended true f fs c none call = let no : None ≡ Some c = sym none ∙ call in absurd cc
ended false f fs c none call = refl

began : (t : ℕ) (c : Begun) (es : List Entry) → call_in (told_of t (trace_of es)) ≡ Some c → is_doomed t es ≡ false → Began t c es
began t c [] call alive = let no : None ≡ Some c = call in absurd cc
began t c (Doom u ∷ es) call alive = by_cases (u == t) refl (λ free. began t c es call free) where
  by_cases : (b : Bool) → (u == t) ≡ b → (is_doomed t es ≡ false → Began t c es) → Began t c (Doom u ∷ es)
  by_cases true is more = let no : true ≡ false = sym (ap (λ (b : Bool). if b then true else is_doomed t es) is) ∙ alive in absurd cc
  by_cases false is more = further t c (Doom u) es refl (more (sym (ap (λ (b : Bool). if b then true else is_doomed t es) is) ∙ alive))
began t c (Told (Begin u k) ∷ es) call alive = by_cases (u == t) refl (λ rest. began t c es rest alive) where
  by_cases : (b : Bool) → (u == t) ≡ b → (call_in (told_of t (trace_of es)) ≡ Some c → Began t c es) → Began t c (Told (Begin u k) ∷ es)
  by_cases true is more =
      let same : u ≡ t = grind (arith, nat_tests) in
      let this : Some k ≡ Some c = sym (ap (λ (b : Bool). call_in (if b then Begin u k ∷ told_of t (trace_of es) else told_of t (trace_of es))) is) ∙ call in
      let its : k ≡ c = cc in
      let free : is_doomed u es ≡ false = ap (λ (v : ℕ). is_doomed v es) same ∙ alive in
      At [] (seen_of es) (told_seen (Begin u k) es refl free ∙ ap (λ (v : ℕ). Told (Begin v k) ∷ seen_of es) same ∙ ap (λ (d : Begun). Told (Begin t d) ∷ seen_of es) its)
      (ap (λ (b : Bool). if b then length (seen_of es) + 1 else begun_at t es) is)
  by_cases false is more =
      further t c (Told (Begin u k)) es (ap (λ (b : Bool). if b then length (seen_of es) + 1 else begun_at t es) is)
      (more (sym (ap (λ (b : Bool). call_in (if b then Begin u k ∷ told_of t (trace_of es) else told_of t (trace_of es))) is) ∙ call))
began t c (Told (Kill u) ∷ es) call alive =
    let other = ended (u == t) (Kill u) (told_of t (trace_of es)) c refl call in
    further t c (Told (Kill u)) es refl
    (began t c es (sym (ap (λ (b : Bool). call_in (if b then Kill u ∷ told_of t (trace_of es) else told_of t (trace_of es))) other) ∙ call) (sym (ap (λ (b : Bool). if b then false else is_doomed t es) other) ∙ alive))
began t c (Told (Return u x) ∷ es) call alive =
    let other = ended (u == t) (Return u x) (told_of t (trace_of es)) c refl call in
    further t c (Told (Return u x)) es refl (began t c es (sym (ap (λ (b : Bool). call_in (if b then Return u x ∷ told_of t (trace_of es) else told_of t (trace_of es))) other) ∙ call) alive)
began t c (Told f ∷ es) call alive = further t c (Told f) es refl (began t c es (sym (quiet (thread_of f == t) f (told_of t (trace_of es)) refl) ∙ call) alive)

-- ---- that line of the history

seam : (xs ys : List Entry) (y : Entry) → slice_get (xs ++ y ∷ ys) (length xs) ≡ Some y
seam [] ys y = refl
seam (x ∷ xs) ys y = seam xs ys y

there : (t : ℕ) (c : Begun) (es history : List Entry) → seen_of es ≡ reverse history → Began t c es → slice_get history (begun_at t es - 1) ≡ Some (Told (Begin t c))
there t c es history seen (At newer older is at) =
    let whole : history ≡ reverse older ++ Told (Begin t c) ∷ reverse newer =
    sym (reverse-reverse history) ∙ ap reverse (sym seen ∙ is) ∙ reverse-append newer (Told (Begin t c) ∷ older) ∙ ap (λ (hs : List Entry). hs ++ reverse newer) (reverse-append (Told (Begin t c) ∷ []) older)
    ∙ append_assoc (reverse older) (Told (Begin t c) ∷ []) (reverse newer) in
    let place : begun_at t es - 1 ≡ length (reverse older) = omega (arith, at, length-reverse older) in
    ap (slice_get history) place ∙ ap (λ (hs : List Entry). slice_get hs (length (reverse older))) whole ∙ seam (reverse older) (reverse newer) (Told (Begin t c))

-- ---- what is named

unowned : (o : Option ℕ) → is_some o ≡ false → o ≡ None
unowned None h = refl
unowned (Some t) h = let no : true ≡ false = h in absurd cc

answered : (n t m : ℕ) (told : List Line) → (objects_after told m).owner ≡ None → IsAnswered n t told m
answered n t m told free = go (calls (held_by t (objects_after told) n) (objects_after told m) t Lock (λ u. free)) where
  go : ((x : Reply) × (new : Object) × Does (held_by t (objects_after told) n) (objects_after told m) t Lock x new) ⊎ IsUnanswered (objects_after told m) t Lock → IsAnswered n t told m
  go (inl h) = h
  go (inr h) = let no : None ≡ Some h.0 = sym free ∙ h.1 in absurd cc

-- a mutex that nobody owns
of_free : (n t : ℕ) (history : List Entry) (es : List Entry) (c : Begun) (w : Waiter) → seen_of es ≡ reverse history → is_doomed t es ≡ false → call_in (told_of t (trace_of es)) ≡ Some c → points_in (told_of t (trace_of es)) ≡ [] → (c.operation ≡ Lock) ⊎ (c.operation ≡ TimedLock)
    → (o : Bool) → is_owned c.mutex (trace_of es) ≡ o → (if o then None else Some (record { thread = t; mutex = c.mutex; unusable = (objects_after (trace_of es) c.mutex).unusable; begin = begun_at t es; since = left_at c.mutex es })) ≡ Some w
    → IsNamed n history (trace_of es) w
of_free n t history es c w seen alive call points lock true owned is = let no : None ≡ Some w = is in absurd cc
of_free n t history es c w seen alive call points lock false owned is =
    let free = unowned (objects_after (trace_of es) c.mutex).owner owned in
    let made : record { thread = t; mutex = c.mutex; unusable = (objects_after (trace_of es) c.mutex).unusable; begin = begun_at t es; since = left_at c.mutex es } ≡ w = cc in
    subst (IsNamed n history (trace_of es)) made (record {
      call = c;
      mutex = refl;
      unusable = refl;
      stuck = record { in_call = call; lock = lock; unmade = points; unowned = free };
      answered = answered n t c.mutex (trace_of es) free;
      began = there t c es history seen (began t c es call alive);
    })

of_lock : (n t : ℕ) (history : List Entry) (es : List Entry) (c : Begun) (w : Waiter) → seen_of es ≡ reverse history → is_doomed t es ≡ false → call_in (told_of t (trace_of es)) ≡ Some c → points_in (told_of t (trace_of es)) ≡ []
    → (op : Operation) → c.operation ≡ op → waiter_for t (begun_at t es) es (locked_by op c.mutex) ≡ Some w → IsNamed n history (trace_of es) w
of_lock n t history es c w seen alive call points Lock lock is = of_free n t history es c w seen alive call points (inl lock) (is_owned c.mutex (trace_of es)) refl is
of_lock n t history es c w seen alive call points TimedLock lock is = of_free n t history es c w seen alive call points (inr lock) (is_owned c.mutex (trace_of es)) refl is
of_lock n t history es c w seen alive call points op lock is = let no : None ≡ Some w = is in absurd cc

of_call : (n t : ℕ) (history : List Entry) (es : List Entry) (w : Waiter) → seen_of es ≡ reverse history → (d : Bool) (call : Option Begun) (points : List Act) → is_doomed t es ≡ d → call_in (told_of t (trace_of es)) ≡ call → points_in (told_of t (trace_of es)) ≡ points
    → (if d then None else waiter_for t (begun_at t es) es (unmade_lock call points)) ≡ Some w → IsNamed n history (trace_of es) w
of_call n t history es w seen true call points alive in_call made is = let no : None ≡ Some w = is in absurd cc
of_call n t history es w seen false None points alive in_call made is = let no : None ≡ Some w = is in absurd cc
of_call n t history es w seen false (Some c) (p ∷ ps) alive in_call made is = let no : None ≡ Some w = is in absurd cc
of_call n t history es w seen false (Some c) [] alive in_call made is = of_lock n t history es c w seen alive in_call made c.operation refl is

pub of_waiter : (n t : ℕ) (history : List HistoryLine) (steps : List Entry) (w : Waiter) → IsCertificate n history steps → waiter_of t (reverse steps) ≡ Some w → IsNamed n (entries history) (trace_of (reverse steps)) w
of_waiter n t history steps w certificate is =
    let es = reverse steps in
    of_call n t (entries history) es w certificate.seen (is_doomed t es) (call_in (told_of t (trace_of es))) (points_in (told_of t (trace_of es))) refl refl refl is

pub of_stuck : (t : ℕ) (steps : List Entry) (call : Begun) → IsStuck t (trace_of (reverse steps)) call → is_doomed t (reverse steps) ≡ false → (w : Waiter) × (w.thread ≡ t) × (waiter_of t (reverse steps) ≡ Some w)
of_stuck t steps c stuck alive =
    let es = reverse steps in
    let m = c.mutex in
    let w : Waiter = record { thread = t; mutex = m; unusable = (objects_after (trace_of es) m).unusable; begin = begun_at t es; since = left_at m es } in
    let locked : locks t (trace_of es) ≡ Some m = ap (λ (o : Option Begun). unmade_lock o (points_in (told_of t (trace_of es)))) stuck.in_call ∙ ap (unmade_lock (Some c)) stuck.unmade ∙ ⊎_elim (λ lock. ap (λ (op : Operation). locked_by op m) lock) (λ lock. ap (λ (op : Operation). locked_by op m) lock) stuck.lock in
    let free : is_owned m (trace_of es) ≡ false = ap is_some stuck.unowned in (
      w,
      refl,
      ap (λ (d : Bool). if d then None else waiter_for t (begun_at t es) es (locks t (trace_of es))) alive
          ∙ ap (waiter_for t (begun_at t es) es) locked ∙ ap (λ (b : Bool). if b then None else Some w) free,
    )
