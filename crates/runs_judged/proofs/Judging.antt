-- A run's text is a trace that is judged legal.
use Rattle.std.proofs.Common.{◌≡◌, inl, inr, ℕ, ◌+◌, ◌*◌, ◌≤◌, Bool, true, false, Result, Ok, Err, List, [], ◌∷◌, ◌++◌, map, length, length-append, refl, sym, ap, ◌∙◌, subst, arith, cond}
use Rattle.std.specs.Prelude.{if◌then◌else◌, reverse, count_by}
use Rattle.std.specs.List.{concat}
use Rattle.std.proofs.lemmas.List.{length-map}
use Rattle.std.proofs.lemmas.List.Recursion.{is_count_by}
use Rattle.memorymap.specs.Layouts.{Layout', IsLayout}
use Rattle.facts.specs.declared.fact.Fact.{Fact}
use Rattle.facts.specs.declared.fact.Fact.TheVariants as fact
use Rattle.facts.specs.declared.fact.Line.{Line}
use Rattle.facts.specs.Facts.{thread_of, is_point}
use Rattle.facts.specs.Orders.{Each}
use Rattle.protocol.specs.declared.event.Event.{Event}
use Rattle.protocol.specs.Notes.{lines_from}
use Rattle.protocol.specs.Machine.{State, start, happens, notes}
use Rattle.texts.specs.Text.{head_line, line_text, end_line}
use Rattle.verdict.specs.declared.head.Head.{Head}
use Rattle.verdict.specs.declared.checking.Verdict.{Verdict}
use Rattle.verdict.specs.declared.checking.Verdict.TheVariants.{Legal, Illegal}
use Rattle.verdict.specs.declared.fault.TraceFault.{TraceFault}
use Rattle.verdict.specs.Limits.{max_bytes, max_threads, max_events, max_conditions}
use Rattle.verdict.specs.Earlier.{latest}
use Rattle.verdict.specs.Fits.{Fits}
use Rattle.verdict.specs.Judges.{IsMutex}
use Rattle.verdict.specs.Reading.{Trace, IsHead, trace_read}
use Rattle.verdict.specs.Verdicts.{AllFit, point_lines, IsLegal, IsJudged, Answers}
use Rattle.verdict.proofs.Burials.{explains}
use Rattle.runs_judged.specs.Written.{IsThreadOf, IsFactOf, IsLineOf}
use Rattle.runs_judged.specs.Judged.{head_of, run_text, run_trace, points_told, IsVerdict, RunsAreJudgedLegal}
use Rattle.runs_judged.proofs.Fitting.{onto, onto_none, facts_in, each_map}
use Rattle.runs_judged.proofs.Ending.{lines_tell, run_fits}
use Rattle.runs_judged.proofs.Inside.{EachOf, numbers, run_inside}
use Rattle.runs_judged.proofs.ReadBack.{ReadsBack, most_bytes, reads_back, head_short, end_short}
use Rattle.runs_judged.proofs.Wholes.{trace_back}
use Rattle.runs_judged.proofs.Counts.{run_lines}

-- ---- the head

pub is_head : (l : Layout') → IsLayout l → l.threads ≤ max_threads → IsHead (head_of l)
is_head l is few = record { some_thread = is.threads.0; few_threads = few; some_mutex = is.mutexes.0; few_mutexes = is.mutexes.1 }

-- ---- the length

lines_short : (h : Head) (ls : List Line) → Each (ReadsBack h) ls → length (concat (map line_text ls)) ≤ most_bytes * length ls
lines_short h [] back = omega arith
lines_short h (l ∷ ls) back = let rest = lines_short h ls back.1 in let here = back.0.short in omega (arith, length-append (line_text l) (concat (map line_text ls)), rest, here)

-- a fact's thread is the head's
fact_thread : (h : Head) (f : Fact) → IsFactOf h f → IsThreadOf h (thread_of f)
fact_thread h (fact.Begin t c) of = of.0
fact_thread h (fact.Point d) of = of.0
fact_thread h (fact.Death t m) of = of.0
fact_thread h (fact.Sleep t q) of = of.0
fact_thread h (fact.Wake t) of = of
fact_thread h (fact.Move t m) of = of.0
fact_thread h (fact.Return t x) of = of
fact_thread h (fact.Kill t) of = of
fact_thread h (fact.Reap t) of = of
fact_thread h (fact.Renew t) of = of

threads_in : (h : Head) (ls : List Line) → Each (IsLineOf h) ls → EachOf (λ f. (1 ≤ thread_of f) × (thread_of f ≤ h.threads)) (facts_in ls)
threads_in h [] of = tt
threads_in h (l ∷ ls) of = (fact_thread h l.fact of.0.fact, threads_in h ls of.1)

length-notes : (s : State) (es : List Event) → length (notes s es) ≡ length es
length-notes s [] = refl
length-notes s (e ∷ es) = let rest = length-notes (happens s e).state es in omega (arith, rest)

-- ---- points

abbrev points_in : List Fact → ℕ
points_in [] = 0
points_in (f ∷ fs) = cond (is_point f) (1 + points_in fs) (points_in fs)

points_onto : (ls earlier : List Line) → point_lines (onto ls earlier) ≡ point_lines ls + point_lines earlier
points_onto [] earlier = omega arith
points_onto (l ∷ ls) earlier = points_onto ls (l ∷ earlier) ∙ go (is_point l.fact)
  where
    go : (b : Bool) → point_lines ls + (if b then 1 + point_lines earlier else point_lines earlier) ≡ (if b then 1 + point_lines ls else point_lines ls) + point_lines earlier
    go true = omega arith
    go false = refl

points_tallied : (ls : List Line) → point_lines ls ≡ points_in (facts_in ls)
points_tallied [] = refl
points_tallied (l ∷ ls) = go (is_point l.fact) (points_tallied ls)
  where
    go : (b : Bool) → point_lines ls ≡ points_in (facts_in ls) → (if b then 1 + point_lines ls else point_lines ls) ≡ cond b (1 + points_in (facts_in ls)) (points_in (facts_in ls))
    go true e = ap (λ (k : ℕ). 1 + k) e
    go false e = e

points_counted : (ls : List Line) → point_lines ls ≡ count_by is_point (facts_in ls)
points_counted ls = points_tallied ls ∙ is_count_by points_in is_point refl (λ f fs. refl) (facts_in ls)

-- ---- the last number

each_onto : (P : Line → Type 0) (ls earlier : List Line) → Each P ls → Each P earlier → Each P (onto ls earlier)
each_onto P [] earlier h k = k
each_onto P (l ∷ ls) earlier h k = each_onto P ls (l ∷ earlier) h.1 (h.0, k)

latest_most : (k : ℕ) (told : List Line) → Each (λ l. (1 ≤ l.event) × (l.event ≤ k)) told → latest told ≤ k
latest_most k [] h = omega arith
latest_most k (l ∷ ls) h = h.0.1

-- ---- verdicts

mutex_in : (h : Head) (f : Fact) → IsFactOf h f → IsMutex h.mutexes f
mutex_in h (fact.Point d) of = of.1
mutex_in h (fact.Death t m) of = of.1
mutex_in h f of = tt

-- a line that fits is no misfit
fits_there : (n : ℕ) (newer : List Line) (e : Line) (earlier : List Line) → AllFit n (newer ++ e ∷ earlier) → Fits n earlier e
fits_there n [] e earlier fit = fit.0
fits_there n (x ∷ newer) e earlier fit = fits_there n newer e earlier fit.1

-- so a legal trace is judged legal
judged_so : (t : Trace) (points : ℕ) → IsLegal t → points ≡ point_lines t.told → (v : Verdict) → IsJudged t v → v ≡ Legal points
judged_so t points legal count (Legal n) judged = ap Legal (judged.1 ∙ sym count)
judged_so t points legal count (Illegal line) (inl m) = absurd (m.fails (fits_there t.head.mutexes m.newer m.misfit m.earlier (subst (AllFit t.head.mutexes) m.all legal.fits)))
judged_so t points legal count (Illegal line) (inr s) = let ends = legal.ends in let below = s.below in absurd (omega (arith, ends, below))

answered_so : (t : Trace) (points : ℕ) → IsLegal t → points ≡ point_lines t.told → (r : Result Verdict TraceFault) → Answers (Ok t) r → IsVerdict (Legal points) r
answered_so t points legal count (Ok v) (u, is, judged) =
    let same : u ≡ t = cc in
    inl (ap Ok (judged_so t points legal count v (subst (λ (z : Trace). IsJudged z v) same judged)))
answered_so t points legal count (Err e) (inl is) = absurd cc
answered_so t points legal count (Err e) (inr (is, h)) = inr (ap Err is)

-- ---- runs

pub judged : RunsAreJudgedLegal
judged l counters events is named few =
    let ns = notes (start l counters) events in
    let ls = lines_from 1 ns in
    let h = head_of l in
    let most : length ns ≤ max_events = omega (arith, length-notes (start l counters) events, few) in
    let inside = run_inside l counters events is most in
    let head = is_head l is named in
    let conditions : h.conditions ≤ max_conditions = is.conditions.0 in
    let back = each_map {P = IsLineOf h} {Q = ReadsBack h} (λ k of. reads_back h k head conditions of) ls inside in
    let lines : length ls ≤ 5 * length ns =
    omega (arith, length-map ls (λ k. k.fact), ap length (lines_tell 1 ns), run_lines l counters events is (subst (EachOf (λ f. (1 ≤ thread_of f) × (thread_of f ≤ l.threads))) (lines_tell 1 ns) (threads_in h ls inside))) in
    let short : length (run_text h.threads h.mutexes h.conditions ns) ≤ max_bytes =
    omega (arith, length-append (head_line l.threads l.mutexes (length l.conditions)) (concat (map line_text ls) ++ end_line (length ns)), length-append (concat (map line_text ls)) (end_line (length ns)), head_short h head conditions, lines_short h ls back, end_short (length ns) most, lines, most) in
    let reads : trace_read (run_text h.threads h.mutexes h.conditions ns) ≡ Ok (run_trace h ns) = trace_back h ls (length ns) head conditions most back short in
    let fits = run_fits l counters is events in
    let numbered = each_onto (λ k. (1 ≤ k.event) × (k.event ≤ length ns)) ls [] (numbers 1 (length ns) ns (omega arith) (omega arith)) tt in
    let mutexes = each_onto (λ k. IsMutex l.mutexes k.fact) ls [] (each_map {P = IsLineOf h} {Q = λ k. IsMutex l.mutexes k.fact} (λ k of. mutex_in h k.fact of.fact) ls inside) tt in
    let legal : IsLegal (run_trace h ns) = record {
      fits = fits;
      ends = subst (λ told. latest told ≤ length ns) (onto_none ls) (latest_most (length ns) (onto ls []) numbered);
      explained = explains l.mutexes (reverse ls) fits (subst (Each (λ k. IsMutex l.mutexes k.fact)) (onto_none ls) mutexes);
    } in
    let points : points_told ns ≡ point_lines (reverse ls) =
    ap (λ (fs : List Fact). count_by is_point fs) (sym (lines_tell 1 ns)) ∙ sym (points_counted ls) ∙ (let count = points_onto ls [] in let same : point_lines ls ≡ point_lines (onto ls []) = omega (arith, count) in same) ∙ ap point_lines (onto_none ls) in
    record {
      reads = reads;
      legal = legal;
      verdict = λ r answers. answered_so (run_trace h ns) (points_told ns) legal points r (subst (λ said. Answers said r) reads answers);
    }
