-- What is kept of the lines so far, and the first line that makes a mutex unusable.
use Rattle.std.proofs.Common.{◌≡◌, ◌≢◌, ℕ, ◌+◌, ◌-◌, ◌<◌, ◌≤◌, ◌==◌, ◌&&◌, Bool, true, false, List, ◌∷◌, length, get_or, slice_set, take, reverse, Option, Some, None, nat_lt, refl, sym, ap, subst, ◌∙◌, arith, get_or-set_same, get_or-set_other}
use Rattle.std.proofs.Math.ListN.{length-set}
use Rattle.std.proofs.lemmas.Bool.Decides.{nat_tests}
use Rattle.std.proofs.lemmas.Option.{slice_get_past, slice_get_read}
use Rattle.std.specs.Prelude.{if◌then◌else◌, option_and_then, slice_get}
use Rattle.posixmutex.specs.declared.point.Decision.{Decision}
use Rattle.posixmutex.specs.Objects.{stepped}
use Rattle.facts.specs.declared.fact.Fact.{Fact}
use Rattle.facts.specs.declared.fact.Fact.TheVariants.{Point, Death}
use Rattle.facts.specs.declared.fact.Line.{Line}
use Rattle.facts.specs.Facts.{decision_of, thread_of}
use Rattle.verdict.specs.Earlier.{call_in, moved, objects_after, told_of}
use Rattle.verdict.specs.Judges.{IsMutex}
use Rattle.explain.specs.Origins.{newest_line, step_at}
use Rattle.explain.specs.Spoiling.{IsDeathOf, death_at, is_death, is_death_of, is_waiting, spoils, spoils_at, waits_at}

-- ---- a line more

-- what is said of its own thread, and of another one
told_itself : (e : Line) (es : List Line) (t : ℕ) → t ≡ thread_of e.fact → told_of t (e ∷ es) ≡ e.fact ∷ told_of t es
told_itself e es t is =
    let same : (thread_of e.fact == t) ≡ true = grind (arith, nat_tests) in
    ap (λ (b : Bool). if b then e.fact ∷ told_of t es else told_of t es) same

told_another : (e : Line) (es : List Line) (t : ℕ) → t ≢ thread_of e.fact → told_of t (e ∷ es) ≡ told_of t es
told_another e es t other =
    let no : (thread_of e.fact == t) ≡ false = grind (arith, nat_tests) in
    ap (λ (b : Bool). if b then e.fact ∷ told_of t es else told_of t es) no

-- who waits
pub waits_taken : (ws : List Bool) (by : ℕ) (w : Bool) (e : Line) (es : List Line) → by ≡ thread_of e.fact → thread_of e.fact < length ws
    → w ≡ is_waiting (call_in (e.fact ∷ told_of (thread_of e.fact) es)) → ((t : ℕ) → t < length ws → waits_at ws t ≡ is_waiting (call_in (told_of t es)))
    → (t : ℕ) → t < length (slice_set ws by w) → waits_at (slice_set ws by w) t ≡ is_waiting (call_in (told_of t (e ∷ es)))
waits_taken ws by w e es is lt here each t below = by_cases (t == thread_of e.fact) refl where
  by_cases : (b : Bool) → (t == thread_of e.fact) ≡ b → waits_at (slice_set ws by w) t ≡ is_waiting (call_in (told_of t (e ∷ es)))
  by_cases true eq =
      let same : t ≡ thread_of e.fact = grind (arith, nat_tests) in
      ap (λ k. waits_at (slice_set ws k w) t) is ∙ ap (waits_at (slice_set ws (thread_of e.fact) w)) same ∙ get_or-set_same ws (thread_of e.fact) w false lt ∙ here
      ∙ ap (λ k. is_waiting (call_in (e.fact ∷ told_of k es))) (sym same) ∙ sym (ap (λ fs. is_waiting (call_in fs)) (told_itself e es t same))
  by_cases false eq =
      let other : t ≢ thread_of e.fact = grind (arith, nat_tests) in
      let apart : t ≢ by = λ at. other (at ∙ is) in
      get_or-set_other ws by t w false apart ∙ each t (subst (λ k. t < k) (length-set ws by w) below) ∙ sym (ap (λ fs. is_waiting (call_in fs)) (told_another e es t other))

-- which mutex is inconsistent: a step changes its own alone, and no step none
another_step : (m : ℕ) (e : Line) (es : List Line) (d : Decision) (o : Option ℕ) → decision_of e.fact ≡ Some d → m ≢ d.mutex → IsDeathOf m es o → IsDeathOf m (e ∷ es) o
another_step m e es d None step other h =
    let no : (m == d.mutex) ≡ false = grind (arith, nat_tests) in
    ap (λ s. (moved (objects_after es) s m).inconsistent) step ∙ ap (λ (b : Bool). (if b then stepped (objects_after es m) d.thread d.operation d.reply else objects_after es m).inconsistent) no ∙ h
another_step m e es d (Some n) step other h =
    let no : (m == d.mutex) ≡ false = grind (arith, nat_tests) in
    let not_it : (d.mutex == m) ≡ false = grind (arith, nat_tests) in (
      ap (λ s. (moved (objects_after es) s m).inconsistent) step ∙ ap (λ (b : Bool). (if b then stepped (objects_after es m) d.thread d.operation d.reply else objects_after es m).inconsistent) no ∙ h.0,
      ap (λ s. if is_death_of m s then Some (length es + 2) else newest_line (λ a. is_death_of m (decision_of a.fact)) es) step
          ∙ ap (λ (b : Bool). if b && is_death d.operation d.reply then Some (length es + 2) else newest_line (λ a. is_death_of m (decision_of a.fact)) es) not_it ∙ h.1,
    )

pub deaths_taken : (ds : List (Option ℕ)) (at : ℕ) (o : Option ℕ) (e : Line) (es : List Line) (d : Decision) → at ≡ d.mutex → d.mutex < length ds → decision_of e.fact ≡ Some d
    → IsDeathOf d.mutex (e ∷ es) o → ((m : ℕ) → m < length ds → IsDeathOf m es (death_at ds m))
    → (m : ℕ) → m < length (slice_set ds at o) → IsDeathOf m (e ∷ es) (death_at (slice_set ds at o) m)
deaths_taken ds at o e es d is lt step here each m below = by_cases (m == d.mutex) refl where
  by_cases : (b : Bool) → (m == d.mutex) ≡ b → IsDeathOf m (e ∷ es) (death_at (slice_set ds at o) m)
  by_cases true eq =
      let same : m ≡ d.mutex = grind (arith, nat_tests) in
      let read : death_at (slice_set ds at o) m ≡ o = ap (λ k. death_at (slice_set ds k o) m) is ∙ ap (death_at (slice_set ds d.mutex o)) same ∙ get_or-set_same ds d.mutex o None lt in
      subst (IsDeathOf m (e ∷ es)) (sym read) (subst (λ k. IsDeathOf k (e ∷ es) o) (sym same) here)
  by_cases false eq =
      let other : m ≢ d.mutex = grind (arith, nat_tests) in
      let apart : m ≢ at = λ be. other (be ∙ is) in
      subst (IsDeathOf m (e ∷ es)) (sym (get_or-set_other ds at m o None apart)) (another_step m e es d (death_at ds m) step other (each m (subst (λ k. m < k) (length-set ds at o) below)))

-- the mutex of a step is one of these
pub step_inside : (n : ℕ) (f : Fact) (d : Decision) → IsMutex n f → decision_of f ≡ Some d → d.mutex < n
step_inside n (Point p) d lt is = let same : p ≡ d = cc in subst (λ (q : Decision). q.mutex < n) same lt
step_inside n (Death t m) d lt is = let same : m ≡ d.mutex = ap (λ (o : Option Decision). mutex_in m o) is in subst (λ k. k < n) same lt where
  mutex_in : ℕ → Option Decision → ℕ
  mutex_in m None = m
  mutex_in m (Some d) = d.mutex
step_inside n f d lt is = absurd cc

-- ---- the line at an index

step_here : (es : List Line) (i : ℕ) (e : Line) → i < length es → e ≡ get_or es i e → step_at es (i + 2) ≡ decision_of e.fact
step_here es i e lt is =
    let back : i + 2 - 2 ≡ i = omega arith in
    ap (λ k. option_and_then (λ (a : Line). decision_of a.fact) (slice_get es k)) back ∙ ap (option_and_then (λ (a : Line). decision_of a.fact)) (slice_get_read es (length es) i e refl lt is)

pub spoils_here : (es : List Line) (i : ℕ) (e : Line) → i < length es → e ≡ get_or es i e → spoils_at es (i + 2) ≡ spoils (reverse (take i es)) (decision_of e.fact)
spoils_here es i e lt is =
    let back : i + 2 - 2 ≡ i = omega arith in
    ap (λ k. spoils (reverse (take k es)) (step_at es (i + 2))) back ∙ ap (spoils (reverse (take i es))) (step_here es i e lt is)

-- ---- the first that makes a mutex unusable

pub none_more : (es : List Line) (i : ℕ) → spoils_at es (i + 2) ≡ false → ((n : ℕ) → 2 ≤ n → n < i + 2 → spoils_at es n ≡ false) → (n : ℕ) → 2 ≤ n → n < i + 1 + 2 → spoils_at es n ≡ false
none_more es i here before n le lt = by_cases (n == i + 2) refl where
  by_cases : (b : Bool) → (n == i + 2) ≡ b → spoils_at es n ≡ false
  by_cases true eq = let same : n ≡ i + 2 = grind (arith, nat_tests) in ap (spoils_at es) same ∙ here
  by_cases false eq = let other : n ≢ i + 2 = grind (arith, nat_tests) in before n le (omega arith)

pub none_at_all : (es : List Line) (i : ℕ) → length es ≤ i → ((n : ℕ) → 2 ≤ n → n < i + 2 → spoils_at es n ≡ false) → (n : ℕ) → 2 ≤ n → spoils_at es n ≡ false
none_at_all es i all before n le = by_cases (nat_lt n (i + 2)) refl where
  by_cases : (b : Bool) → nat_lt n (i + 2) ≡ b → spoils_at es n ≡ false
  by_cases true eq = let lt : n < i + 2 = grind (arith, nat_tests) in before n le lt
  by_cases false eq =
      let past : length es ≤ n - 2 = grind (arith, nat_tests) in
      ap (λ o. spoils (reverse (take (n - 2) es)) (option_and_then (λ (a : Line). decision_of a.fact) o)) (slice_get_past es (n - 2) past)
